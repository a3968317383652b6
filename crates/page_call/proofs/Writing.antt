-- The page of a well-formed floor from its memory, and the answer in the order of the code: 30, 43, then the bytes.
use mathlib.Core.Path.{◌≡◌, refl, ap, ◌∙◌}
use mathlib.Core.Bool.{true, false}
use mathlib.Core.List.{List}
use Prim.Native.Nat.{ℕ, ◌+◌, ◌-◌, ◌*◌, ◌≤◌, ◌<◌}
use native.Mathlib.Omega.{arith}
use native.Mathlib.Nat.{mul-le-mul}
use borrow.Author.Tests.{le-ltb, lt-ltb}
use lib.ListN.{length, get_or}
use Rattle.laws.specs.Define.{refusal}
use Rattle.laws.proofs.Tables.{tab_at}
use Rattle.image_bytes.specs.InternalPut.{put}
use Rattle.floor.specs.declared.Tile.{Tile}
use Rattle.floor.specs.declared.Floor.{Floor}
use Rattle.floor.specs.Settings.{total}
use Rattle.floor.specs.Model.{tile_of, no_tile_of}
use Rattle.floor.specs.Memory.{view, state_of, head, zero_tile}
use Rattle.floor.specs.Well.{well_formed}
use Rattle.floor.proofs.Pack.{well_measured, well_head}
use Rattle.image.specs.declared.Written.{Written}
use Rattle.page_call.specs.Page.{cell, cells, line, lines, page, page_refusal, page_answer, paged}
use Rattle.page_call.proofs.Pieces.{up_to_same, page_length, row_room}

abbrev pub memory : Floor → ℕ → Tile
memory f t = get_or f.tiles t zero_tile

abbrev pub made : ℕ → ℕ → Written
made k n = record { refusal = k; length = n }

-- two floors that show the same tiles have the same lines
cells_same : (g g' : ℕ → Tile) (w h r : ℕ) → r < h → ((t : ℕ) → t < w * h → g t ≡ g' t) → cells g w h r ≡ cells g' w h r
unfolding cells
cells_same g g' w h r l e =
    up_to_same w (λ c. cell (g (c * h + r))) (λ c. cell (g' (c * h + r))) (λ c k. ap cell (e (c * h + r) (omega (arith, row_room c w h k))))

lines_same : (g g' : ℕ → Tile) (w h : ℕ) → ((t : ℕ) → t < w * h → g t ≡ g' t) → lines g w h ≡ lines g' w h
unfolding lines line
lines_same g g' w h e =
    up_to_same h (λ k. line g w h (h - 1 - k)) (λ k. line g' w h (h - 1 - k)) (λ k l. rw (cells_same g g' w h (h - 1 - k) (omega arith) e) refl)

module _ (f : Floor) (w : well_formed f ≡ true) where
  shown : (t : ℕ) → t < total f.settings → head (tile_of (view f) t) ≡ memory f t
  unfolding view
  shown t l = ap head (tab_at (total f.settings) (state_of f) t no_tile_of l) ∙ well_head f t w l

  pub page_is : page (view f) ≡ lines (memory f) f.settings.columns f.settings.rows
  unfolding page view
  page_is = lines_same (λ t. head (tile_of (view f) t)) (memory f) f.settings.columns f.settings.rows shown

  pub page_size : length (page (view f)) ≡ f.settings.rows * (8 * f.settings.columns + 2)
  unfolding view
  page_size = page_length (view f)

  pub page_small : f.settings.rows * (8 * f.settings.columns + 2) ≤ 528
  page_small =
      let m = well_measured f w in
      let p = m.rows_few in
      let q : 8 * f.settings.columns + 2 ≤ 66 = omega (arith, m.columns_few) in
      mul-le-mul p q

-- ---- the answer
pub page_malformed : (f : Floor) (buffer : List ℕ) → well_formed f ≡ false → (made 30 0 ≡ page_answer f (length buffer)) × (buffer ≡ paged f buffer)
unfolding page_answer paged page_refusal refusal
page_malformed f buffer w = (rw w, rw w)

pub page_short : (f : Floor) (buffer : List ℕ) → well_formed f ≡ true → length buffer < length (page (view f)) → (made 43 0 ≡ page_answer f (length buffer)) × (buffer ≡ paged f buffer)
unfolding page_answer paged page_refusal refusal
page_short f buffer w h = (rw (w, lt-ltb (length buffer) (length (page (view f))) h), rw (w, lt-ltb (length buffer) (length (page (view f))) h))

pub page_whole : (f : Floor) (buffer : List ℕ) → well_formed f ≡ true → length (page (view f)) ≤ length buffer
    → (made 0 (length (page (view f))) ≡ page_answer f (length buffer)) × (put buffer 0 (page (view f)) ≡ paged f buffer)
unfolding page_answer paged page_refusal refusal put
page_whole f buffer w h =
    let e : 0 + length (page (view f)) ≡ length (page (view f)) = omega arith in
    (rw (w, le-ltb (length buffer) (length (page (view f))) h), rw (w, le-ltb (length buffer) (length (page (view f))) h, e))
