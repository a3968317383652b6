-- The pass over the floor in memory is Signal of the value that memory shows.
use mathlib.Core.Path.{◌≡◌, refl, sym, ap, ◌∙◌, subst, fun_ext}
use mathlib.Core.Bool.{true, cond, not}
use mathlib.Core.List.{List}
use Prim.Native.Nat.{ℕ, suc, ◌*◌, ◌≤◌, ◌<◌}
use native.Mathlib.Omega.{arith}
use native.Mathlib.Decide.{dec_le}
use lib.ListN.{length, take, drop, get_or}
use lib.Dec.{ltb, eqb}
use borrow.Author.Tests.{lt-ltb, le-ltb}
use Rattle.laws.specs.InternalFilled.{Filled}
use Rattle.laws.specs.Define.{tab, refusal}
use Rattle.laws.proofs.Tables.{tab_length, tab_at, filled}
use Rattle.floor.specs.declared.Tile.{Tile}
use Rattle.floor.specs.declared.Floor.{Floor}
use Rattle.floor.specs.Settings.{total}
use Rattle.floor.specs.Sides.{opposite}
use Rattle.floor.specs.Grid.{neighbour, around}
use Rattle.floor.specs.Model.{TileState, Model, no_tile_of, tile_of, runs, members_of}
use Rattle.floor.specs.Memory.{head_of, retiled, state_of, view, head, pack, fits}
use Rattle.floor.specs.Signal.{Signal, waiting, shown_next, shown_of, signal_by, signal_tile, signal_of, grant_of, with_token, signal}
use Rattle.floor.specs.Reasons.{reason_tests, ahead_of, reason_of, missing_of}
use Rattle.floor.proofs.Rows.{view_at}
use Rattle.floor.proofs.Pack.{head_state, head_read, pack_heads}
use Rattle.round_route.specs.InternalRouted.{Redone, within}
use Rattle.round_route.proofs.Passes.{within_view, tile_off}
use Rattle.round_grants.specs.InternalTileSignal.{signal_from}
use Rattle.round_signal.specs.InternalSignalling.{shown_in, tokened, own_reason, ahead_reason, reason_from, reason_by, lack_by}
use Rattle.round_signal.proofs.FloorSignals.{signal_at_lem, tile_at, grant_at, turn_at_lem, lack_at, turns_at, lacks_at, reason_at, beside_at}
use Rattle.round_signal.proofs.ReasonLaws.{reasons_joined}

head_token : (x : TileState) (k : ℕ) → tokened (head x) k ≡ head (with_token x k)
unfolding tokened head
head_token x k = refl

-- a tile of a value after Signal
abbrev pub turned : Model → ℕ → TileState
turned m t = with_token (tile_of m t) (signal_of m t).token

module _ (f : Floor) (few : total f.settings ≤ 64) (ok : fits f ≡ true) where
  shown_view : (u : ℕ) → within (total f.settings) (shown_in f.tiles) 0 u ≡ shown_of (view f) u
  unfolding shown_of head
  shown_view = within_view f (shown_in f.tiles) (λ x. shown_next (length x.members) x.next) (λ t h. ap (λ (x : Tile). shown_next x.count x.next.code) (sym (head_state f few ok t h)))

  signal_view : (t : ℕ) → t < total f.settings → signal_at_lem f.settings f.tiles f.canisters t ≡ signal_of (view f) t
  unfolding signal_at_lem signal_of signal_tile view state_of
  signal_view t h =
      ap (λ (d : ℕ → ℕ). around f.settings d t (signal_from f.settings (head_of f t).running (head_of f t).token.code (take (head_of f t).count (drop (16 * t) f.canisters)))) (fun_ext shown_view)
      ∙ ap (λ (x : TileState). around f.settings (shown_of (view f)) t (signal_tile f.settings x)) (sym (view_at f t no_tile_of h))

  tile_view : (t : ℕ) → t < total f.settings → tile_at f.settings f.tiles f.canisters t ≡ head (turned (view f) t)
  unfolding tile_at
  tile_view t h =
      ap (λ (x : Signal). tokened (head_of f t) x.token) (signal_view t h)
      ∙ ap (λ (x : Tile). tokened x (signal_of (view f) t).token) (head_read f few ok t h)
      ∙ head_token (tile_of (view f) t) (signal_of (view f) t).token

  same : (t : ℕ) → t < total f.settings → (turned (view f) t).members ≡ (state_of f t).members
  same t h = ap (λ (x : TileState). x.members) (view_at f t no_tile_of h)

  tiles_view : (ts : List Tile) → Redone (total f.settings) (tile_at f.settings f.tiles f.canisters) f.tiles ts
      → retiled f ts ≡ pack (signal (view f))
  unfolding signal view
  tiles_view ts r = pack_heads f few ok (turned (view f)) ts r.0 same (λ t k h. r.1 t h ∙ tile_view t h) (λ t k h. r.2 t h)

  -- where no tile is, nothing runs and nothing is granted
  no_grant : (t : ℕ) → total f.settings ≤ t → 0 ≡ grant_of (view f) t
  unfolding signal_of signal_tile signal_by
  no_grant t h = sym (ap (λ (x : TileState). (around (view f).settings (shown_of (view f)) t (signal_tile (view f).settings x)).grant) (tile_off f t h))

  grants_view : (gs : List ℕ) → Filled 64 (grant_at f.settings f.tiles f.canisters) 0 (total f.settings) gs → gs ≡ tab 64 (grant_of (view f))
  unfolding grant_at
  grants_view gs r = filled 64 (grant_of (view f)) 0 gs r.0 (λ t k. go t (dec_le (suc t) (total f.settings)))
    where
      go : (t : ℕ) → Dec (t < total f.settings) → get_or gs t 0 ≡ grant_of (view f) t
      go t (yes h) = r.1 t h ∙ ap (λ (x : Signal). x.grant) (signal_view t h)
      go t (no h) = let q : total f.settings ≤ t = omega arith in r.2 t q ∙ no_grant t q

  pub signal_pack : (ts : List Tile) (gs : List ℕ) → Redone (total f.settings) (tile_at f.settings f.tiles f.canisters) f.tiles ts
      → Filled 64 (grant_at f.settings f.tiles f.canisters) 0 (total f.settings) gs
      → (retiled f ts ≡ pack (signal (view f))) × (gs ≡ tab 64 (grant_of (view f)))
  signal_pack ts gs r q = (tiles_view ts r, grants_view gs q)

  -- ---- why each tile stood
  no_signal : (t : ℕ) → total f.settings ≤ t → signal_of (view f) t ≡ waiting 0 0
  unfolding signal_of signal_tile signal_by
  no_signal t h = ap (λ (x : TileState). around (view f).settings (shown_of (view f)) t (signal_tile (view f).settings x)) (tile_off f t h)

  -- every tile's field of its signal, at the number of no tile too
  signal_field : (p : Signal → ℕ) → p (waiting 0 0) ≡ 0 → (u : ℕ) → within (total f.settings) (λ t. p (signal_at_lem f.settings f.tiles f.canisters t)) 0 u ≡ p (signal_of (view f) u)
  unfolding within
  signal_field p z u = go (dec_le (suc u) (total f.settings))
    where
      go : Dec (u < total f.settings) → cond (ltb u (total f.settings)) (p (signal_at_lem f.settings f.tiles f.canisters u)) 0 ≡ p (signal_of (view f) u)
      go (yes h) = rw (lt-ltb u (total f.settings) h) (ap p (signal_view u h))
      go (no h) =
          let q : total f.settings ≤ u = omega arith in
          rw (le-ltb u (total f.settings) q) (sym (ap p (no_signal u q) ∙ z))

  turn_view : (u : ℕ) → turns_at f.settings f.tiles f.canisters u ≡ (signal_of (view f) u).turn
  unfolding turn_at_lem
  turn_view = signal_field (λ x. x.turn) refl

  pub lack_view : (u : ℕ) → lacks_at f.settings f.tiles f.canisters u ≡ (signal_of (view f) u).missing
  unfolding lack_at
  lack_view = signal_field (λ x. x.missing) refl

  from_head : (x : TileState) (y : Signal) → reason_from (head x) y.turn y.missing ≡ refusal (reason_tests x y)
  unfolding reason_from own_reason ahead_reason head reason_tests
  from_head x y = reasons_joined (not (runs x)) (eqb (length x.members) 0) (eqb x.next 0) (not (eqb x.next (opposite y.turn))) (ltb 0 y.missing)

  abbrev turn_in_lem : ℕ → ℕ
  turn_in_lem u = (signal_of (view f) u).turn

  abbrev lack_in : ℕ → ℕ
  lack_in u = (signal_of (view f) u).missing

  reason_view : (t : ℕ) → t < total f.settings → reason_by f.settings f.tiles turn_in_lem lack_in t ≡ reason_of (view f) t
  unfolding reason_by reason_of ahead_of view head
  reason_view t h =
      ap (λ (x : Tile). reason_from x (turn_in_lem (neighbour f.settings x.next.code t)) (lack_in (neighbour f.settings x.next.code t))) (head_read f few ok t h)
      ∙ from_head (tile_of (view f) t) (signal_of (view f) (neighbour f.settings (tile_of (view f) t).next t))
      ∙ rw (lt-ltb t (total f.settings) h)

  off_reason : (t : ℕ) → total f.settings ≤ t → reason_of (view f) t ≡ 0
  unfolding reason_of view
  off_reason t h = rw (le-ltb t (total f.settings) h)

  beside_view : (t : ℕ) → t < total f.settings → lack_by f.settings f.tiles turn_in_lem lack_in t ≡ missing_of (view f) t
  unfolding lack_by missing_of ahead_of view head
  beside_view t h =
      ap (λ (n : ℕ). cond (eqb n 5) (lack_in (neighbour f.settings (head_of f t).next.code t)) 0) (reason_view t h)
      ∙ ap (λ (x : Tile). cond (eqb (reason_of (view f) t) 5) (lack_in (neighbour f.settings x.next.code t)) 0) (head_read f few ok t h)

  off_missing : (t : ℕ) → total f.settings ≤ t → missing_of (view f) t ≡ 0
  unfolding missing_of
  off_missing t h = rw (off_reason t h)

  by_table : (g e : ℕ → ℕ) (rs : List ℕ) → Filled 64 g 0 (total f.settings) rs → ((t : ℕ) → t < total f.settings → g t ≡ e t) → ((t : ℕ) → total f.settings ≤ t → e t ≡ 0) → rs ≡ tab 64 e
  by_table g e rs r on off = filled 64 e 0 rs r.0 (λ t k. go t (dec_le (suc t) (total f.settings)))
    where
      go : (t : ℕ) → Dec (t < total f.settings) → get_or rs t 0 ≡ e t
      go t (yes h) = r.1 t h ∙ on t h
      go t (no h) = let q : total f.settings ≤ t = omega arith in r.2 t q ∙ sym (off t q)

  pub reasons_pack : (rs ms : List ℕ) → Filled 64 (reason_at f.settings f.tiles f.canisters) 0 (total f.settings) rs → Filled 64 (beside_at f.settings f.tiles f.canisters) 0 (total f.settings) ms
      → (rs ≡ tab 64 (reason_of (view f))) × (ms ≡ tab 64 (missing_of (view f)))
  reasons_pack rs ms r q = (
    by_table (reason_by f.settings f.tiles turn_in_lem lack_in) (reason_of (view f)) rs (subst (λ (g : ℕ → ℕ). Filled 64 g 0 (total f.settings) rs) (λ i. reason_by f.settings f.tiles (fun_ext turn_view i) (fun_ext lack_view i)) r) reason_view off_reason,
    by_table (lack_by f.settings f.tiles turn_in_lem lack_in) (missing_of (view f)) ms (subst (λ (g : ℕ → ℕ). Filled 64 g 0 (total f.settings) ms) (λ i. lack_by f.settings f.tiles (fun_ext turn_view i) (fun_ext lack_view i)) q) beside_view off_missing,
  )

-- ---- a value after Signal: all but the tokens is the old
module _ (m : Model) where
  pub signal_settings : (signal m).settings ≡ m.settings
  unfolding signal
  signal_settings = refl

  pub signal_length : length (signal m).tiles ≡ total m.settings
  unfolding signal
  signal_length = tab_length (total m.settings) (turned m)

  pub signal_at : (t : ℕ) (z : TileState) → t < total m.settings → get_or (signal m).tiles t z ≡ turned m t
  unfolding signal
  signal_at t z h = tab_at (total m.settings) (turned m) t z h

  pub signal_members : (t : ℕ) (z : TileState) → t < total m.settings → (get_or (signal m).tiles t z).members ≡ members_of m t
  signal_members t z h = ap (λ (x : TileState). x.members) (signal_at t z h)
