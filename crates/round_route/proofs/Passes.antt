-- What the passes over the floor share: the array of what each tile shows, the four neighbours read in it, the tiles made anew.
use mathlib.Core.Path.{◌≡◌, refl, sym, ap, ◌∙◌}
use mathlib.Core.Bool.{Bool, true, false, cond}
use mathlib.Core.List.{List}
use Prim.Native.Nat.{ℕ, zero, suc, ◌+◌, ◌-◌, ◌%◌, ◌≤◌, ◌<◌}
use native.Mathlib.Omega.{arith}
use native.Mathlib.Decide.{dec_le, ℕ_discrete}
use lib.Dec.{leb, ltb}
use lib.ListN.{length, get_or, set, take, replicate, length-set, get_or-replicate}
use Rattle.std.proofs.lemmas.List.{get_or-take, length-take-le}
use lib.Seq.{get_or-set_same, get_or-set_other}
use borrow.Author.Tests.{ltb-true, lt-ltb, le-ltb}
use Rattle.laws.proofs.Tables.{upto_turn, rest_turn, tab_off}
use Rattle.floor.specs.declared.Settings.{Settings}
use Rattle.floor.specs.declared.Tile.{Tile}
use Rattle.floor.specs.declared.Floor.{Floor}
use Rattle.floor.specs.Settings.{total}
use Rattle.floor.specs.Grid.{neighbour}
use Rattle.floor.specs.Model.{TileState, no_tile_of, tile_of}
use Rattle.floor.specs.Memory.{zero_tile, state_of, view}
use Rattle.floor.proofs.Rows.{view_at}
use Rattle.round_route.specs.InternalRouted.{Redone, within}

-- ---- a neighbour is a tile of the floor, or the number of no tile
cond_le : (b : Bool) (x y n : ℕ) → (b ≡ true → x ≤ n) → y ≤ n → cond b x y ≤ n
cond_le true x y n p q = p refl
cond_le false x y n p q = q

pub neighbour_le : (s : Settings) (k t : ℕ) → t < total s → neighbour s k t ≤ total s
unfolding neighbour
neighbour_le s zero t h = omega arith
neighbour_le s (suc zero) t h = cond_le (leb s.rows t) (t - s.rows) (total s) (total s) (λ _. omega arith) (omega arith)
neighbour_le s (suc (suc zero)) t h = cond_le (ltb 0 (t % s.rows)) (t - 1) (total s) (total s) (λ _. omega arith) (omega arith)
neighbour_le s (suc (suc (suc zero))) t h = cond_le (ltb (t % s.rows + 1) s.rows) (t + 1) (total s) (total s) (λ _. omega arith) (omega arith)
neighbour_le s (suc (suc (suc (suc zero)))) t h = cond_le (ltb (t + s.rows) (total s)) (t + s.rows) (total s) (total s) (λ e. omega (arith, ltb-true (t + s.rows) (total s) e)) (omega arith)
neighbour_le s (suc (suc (suc (suc (suc k))))) t h = omega arith

-- ---- a loop that writes what each tile shows, z elsewhere; `read` gives an element's number, and x is read beyond the array's end
module _ {A : Type 0} (read : A → ℕ) (x : A) where
  pub within_none : (g : ℕ → ℕ) (y : A) (n : ℕ) (i : ℕ) → i < n → read (get_or (replicate n y) i x) ≡ within 0 g (read y) i
  unfolding within
  within_none g y n i h = ap read (get_or-replicate n i y x h) ∙ rw (le-ltb i 0 (omega arith))

  pub within_turn : (g : ℕ → ℕ) (z : ℕ) (d : List A) (n t : ℕ) (v : A) → t < length d → read v ≡ g t → ((i : ℕ) → i < n → read (get_or d i x) ≡ within t g z i)
      → (i : ℕ) → i < n → read (get_or (set d t v) i x) ≡ within (t + 1) g z i
  unfolding within
  within_turn g z d n t v h q p i k = go (ℕ_discrete i t)
    where
      same : Dec (i < t) → (i ≡ t → ⊥) → ltb i t ≡ ltb i (t + 1)
      same (yes l) m = rw (lt-ltb i t l, lt-ltb i (t + 1) (omega arith))
      same (no l) m = rw (le-ltb i t (omega arith), le-ltb i (t + 1) (omega (arith, m)))

      go : Dec (i ≡ t) → read (get_or (set d t v) i x) ≡ cond (ltb i (t + 1)) (g i) z
      go (yes e) = rw (e, get_or-set_same d t v x h, lt-ltb t (t + 1) (omega arith)) q
      go (no e) = rw (get_or-set_other d t i v x e) (p i k ∙ ap (λ (b : Bool). cond b (g i) z) (same (dec_le (suc i) t) e))

  -- what the neighbour on side k shows
  pub shows_near : (s : Settings) (g : ℕ → ℕ) (z : ℕ) (d : List A) (k t : ℕ) {u : ℕ} → t < total s → total s ≤ 64 → ((i : ℕ) → i < 65 → read (get_or d i x) ≡ within (total s) g z i) → u ≡ neighbour s k t
      → read (get_or d u x) ≡ within (total s) g z (neighbour s k t)
  shows_near s g z d k t h few p e = rw e (p (neighbour s k t) (omega (arith, neighbour_le s k t h)))

-- what is read there stands within the array
pub near_in : (s : Settings) (k t : ℕ) {u : ℕ} → t < total s → total s ≤ 64 → u ≡ neighbour s k t → u ≤ 64
near_in s k t h few e = omega (arith, e, neighbour_le s k t h)

pub near_read : (s : Settings) (k t : ℕ) {u : ℕ} → t < total s → total s ≤ 64 → u ≡ neighbour s k t → u < 65
near_read s k t h few e = omega (arith, e, neighbour_le s k t h)

-- ---- a loop over the first n of an array: its elements are the array's, and it ends behind them
module _ {A : Type 0} (l : List A) (n : ℕ) (m : n ≤ length l) where
  pub front_in : {t : ℕ} → t < length (take n l) → t < n
  front_in h = omega (arith, length-take-le n l m)

  pub front_read : (t : ℕ) (z : A) → t < length (take n l) → get_or (take n l) t z ≡ get_or l t z
  front_read t z h = get_or-take n l t z (front_in h)

  pub front_end : (t : ℕ) → length (take n l) ≤ t → t ≤ length (take n l) → t ≡ n
  front_end t lo hi = omega (arith, length-take-le n l m)

-- ---- a loop that makes the tiles anew, one after another
module _ (g : ℕ → Tile) (old : List Tile) where
  pub redone_none : length old ≡ 64 → Redone 0 g old old
  redone_none e = (e, λ i h. absurd (omega arith), λ i h. refl)

  pub redone_turn : (new : List Tile) (t : ℕ) (v : Tile) → t < 64 → Redone t g old new → v ≡ g t → Redone (t + 1) g old (set new t v)
  redone_turn new t v h r e =
      (length-set new t v ∙ r.0, upto_turn t g zero_tile new v (omega (arith, r.0)) r.1 e, rest_turn t (λ i. get_or old i zero_tile) zero_tile new v r.2)

  pub redone_end : (new : List Tile) (t n : ℕ) → t ≡ n → Redone t g old new → Redone n g old new
  redone_end new t n e r = (r.0, λ i h. r.1 i (omega (arith, e)), λ i h. r.2 i (omega (arith, e)))

-- ---- what the value shows that memory holds
pub tile_off : (f : Floor) (t : ℕ) → total f.settings ≤ t → tile_of (view f) t ≡ no_tile_of
unfolding view
tile_off f t h = tab_off (total f.settings) (state_of f) t no_tile_of h

-- p: what a tile shows; what none shows is p of no tile
pub within_view : (f : Floor) (g : ℕ → ℕ) (p : TileState → ℕ) → ((t : ℕ) → t < total f.settings → g t ≡ p (state_of f t)) → (u : ℕ) → within (total f.settings) g (p no_tile_of) u ≡ p (tile_of (view f) u)
unfolding within
within_view f g p on u = go (dec_le (suc u) (total f.settings))
  where
    go : Dec (u < total f.settings) → cond (ltb u (total f.settings)) (g u) (p no_tile_of) ≡ p (tile_of (view f) u)
    go (yes h) = rw (lt-ltb u (total f.settings) h) (on u h ∙ ap p (sym (view_at f u no_tile_of h)))
    go (no h) = let q : total f.settings ≤ u = omega arith in rw (le-ltb u (total f.settings) q) (ap p (sym (tile_off f u q)))
