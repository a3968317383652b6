-- The refusals of stop, repair and read on a well-formed floor, branch by branch; what an accepted call's tests tell.
use mathlib.Core.Path.{◌≡◌, refl, sym, ap, ◌∙◌}
use mathlib.Core.Logic.{◌≢◌}
use mathlib.Core.Bool.{Bool, true, false, cond}
use Prim.Native.Nat.{ℕ, ◌≤◌, ◌<◌}
use native.Mathlib.Omega.{arith}
use lib.Dec.{leb}
use borrow.Author.Tests.{le-leb, lt-leb, eq-eqb, ne_eqb, leb-false}
use Rattle.laws.specs.Define.{bit, refusal}
use Rattle.laws.proofs.Tests.{refusal_none}
use Rattle.floor.specs.declared.Tile.{Tile}
use Rattle.floor.specs.declared.Floor.{Floor}
use Rattle.floor.specs.declared.refusal.Refusal.{Refusal}
use Rattle.floor.specs.Numbers.{refusal_number}
use Rattle.floor.specs.Settings.{total, is_hopper}
use Rattle.floor.specs.Model.{tile_of, runs_of_of}
use Rattle.floor.specs.Memory.{view, head}
use Rattle.floor.proofs.Refusing.{refusing}
use Rattle.floor.specs.Calls.{stop_tests, repair_tests, read_tests}

-- whether a tile runs, by the head that the code read
module _ (f : Floor) (t : ℕ) (h : Tile) (e : h ≡ head (tile_of (view f) t)) where
  runs_yes : h.running ≡ 1 → runs_of_of (view f) t ≡ true
  unfolding head
  runs_yes r = eq-eqb _ 1 (sym (ap (λ (x : Tile). x.running) e) ∙ r)

  runs_no : h.running ≢ 1 → runs_of_of (view f) t ≡ false
  unfolding head
  runs_no n = ne_eqb _ 1 (λ q. n (ap (λ (x : Tile). x.running) e ∙ q))

-- ---- reading; stop and repair begin with its test
module _ (f : Floor) (t all : ℕ) (e : all ≡ total f.settings) where
  pub read_4 : all ≤ t → 4 ≡ refusal (read_tests (view f) t)
  unfolding read_tests refusal view
  read_4 h = rw (sym e, le-leb all t h)

  pub read_0 : t < all → 0 ≡ refusal (read_tests (view f) t)
  unfolding read_tests refusal view
  read_0 h = rw (sym e, lt-leb all t h)

module _ (f : Floor) (t : ℕ) where
  pub read_on : 0 ≡ refusal (read_tests (view f) t) → t < total f.settings
  unfolding read_tests view
  read_on h = leb-false _ _ (refusal_none (read_tests (view f) t) (omega arith) (sym h)).0

  read_off : (r : Refusal) → refusal_number r ≡ refusal (read_tests (view f) t) → (leb (total f.settings) t ≡ true) × (refusal_number r ≡ 4)
  unfolding read_tests refusal view
  read_off r = go (leb (total f.settings) t) refl
    where
      go : (b : Bool) → leb (total f.settings) t ≡ b → refusal_number r ≡ cond b 4 0 → (b ≡ true) × (refusal_number r ≡ 4)
      go true q h = (refl, h)
      go false q h = absurd (refusing r h)

-- ---- repair
module _ (f : Floor) (t : ℕ) where
  pub repair_off : (r : Refusal) → refusal_number r ≡ refusal (read_tests (view f) t) → refusal_number r ≡ refusal (repair_tests (view f) t)
  unfolding repair_tests refusal view
  repair_off r h = let k = read_off f t r h in rw k.0 k.1

  module _ (on : 0 ≡ refusal (read_tests (view f) t)) (h : Tile) (k : h ≡ head (tile_of (view f) t)) where
    pub repair_32 : h.running ≡ 1 → 32 ≡ refusal (repair_tests (view f) t)
    unfolding repair_tests refusal view
    repair_32 r = rw (runs_yes f t h k r, lt-leb (total f.settings) t (read_on f t on))

    pub repair_0 : h.running ≢ 1 → 0 ≡ refusal (repair_tests (view f) t)
    unfolding repair_tests refusal view
    repair_0 r = rw (runs_no f t h k r, lt-leb (total f.settings) t (read_on f t on))

pub repair_on_lem : (f : Floor) (t : ℕ) → refusal (repair_tests (view f) t) ≡ 0 → t < total f.settings
unfolding repair_tests view
repair_on_lem f t h = leb-false _ _ (refusal_none (repair_tests (view f) t) (omega arith) h).0

-- ---- stop
module _ (f : Floor) (t : ℕ) where
  pub stop_off : (r : Refusal) → refusal_number r ≡ refusal (read_tests (view f) t) → refusal_number r ≡ refusal (stop_tests (view f) t)
  unfolding stop_tests refusal view
  stop_off r h = let k = read_off f t r h in rw k.0 k.1

  module _ (on : 0 ≡ refusal (read_tests (view f) t)) (hop : Bool) (b : hop ≡ bit f.settings.hoppers t) where
    pub stop_8 : hop ≡ true → 8 ≡ refusal (stop_tests (view f) t)
    unfolding stop_tests refusal view is_hopper
    stop_8 y = rw (lt-leb (total f.settings) t (read_on f t on), sym b, y)

    module _ (n : hop ≡ false) (h : Tile) (k : h ≡ head (tile_of (view f) t)) where
      pub stop_31 : h.running ≢ 1 → 31 ≡ refusal (stop_tests (view f) t)
      unfolding stop_tests refusal view is_hopper
      stop_31 r = rw (runs_no f t h k r, lt-leb (total f.settings) t (read_on f t on), sym b, n)

      pub stop_0 : h.running ≡ 1 → 0 ≡ refusal (stop_tests (view f) t)
      unfolding stop_tests refusal view is_hopper
      stop_0 r = rw (runs_yes f t h k r, lt-leb (total f.settings) t (read_on f t on), sym b, n)

pub stop_on_lem : (f : Floor) (t : ℕ) → refusal (stop_tests (view f) t) ≡ 0 → t < total f.settings
unfolding stop_tests view
stop_on_lem f t h = leb-false _ _ (refusal_none (stop_tests (view f) t) (omega arith) h).0
