-- Why a tile stood, branch by branch, and the loop over the tiles.
use mathlib.Core.Path.{◌≡◌, refl, sym, ap, ◌∙◌}
use mathlib.Core.Logic.{◌≢◌}
use mathlib.Core.Bool.{Bool, true, false, cond, not}
use mathlib.Core.List.{List, [], ◌∷◌}
use Prim.Native.Nat.{ℕ, ◌≤◌, ◌<◌}
use native.Mathlib.Omega.{arith}
use lib.Dec.{eqb}
use lib.ListN.{length, take, get_or}
use borrow.Author.Tests.{lt-ltb, le-ltb, eq-eqb, ne_eqb}
use Rattle.laws.specs.Define.{refusal}
use Rattle.floor.specs.declared.Settings.{Settings}
use Rattle.floor.specs.declared.Tile.{Tile}
use Rattle.floor.specs.declared.reason.Reason.{Reason}
use Rattle.floor.specs.declared.reason.Reason.TheVariants as W
use Rattle.floor.specs.Numbers.{reason_number}
use Rattle.floor.specs.Sides.{opposite}
use Rattle.floor.specs.Settings.{total}
use Rattle.floor.specs.Grid.{neighbour}
use Rattle.round_route.proofs.Passes.{near_read, front_in}
use Rattle.floor.specs.Memory.{zero_tile}
use Rattle.round_signal.specs.InternalSignalling.{own_reason, ahead_reason, reason_from, reason_by, lack_by}

-- ---- by itself
module _ (h : Tile) where
  pub why_stopped : h.running ≢ 1 → 1 ≡ own_reason h
  unfolding own_reason refusal
  why_stopped a = rw (ne_eqb h.running 1 a)

  module _ (r : h.running ≡ 1) where
    pub why_empty : h.count ≡ 0 → 2 ≡ own_reason h
    unfolding own_reason refusal
    why_empty b = rw (eq-eqb h.running 1 r, eq-eqb h.count 0 b)

    -- q: the test of the arrow
    module _ (b : h.count ≢ 0) {q : Bool} (t : q ≡ eqb h.next.code 0) where
      pub why_arrow : q ≡ true → 3 ≡ own_reason h
      unfolding own_reason refusal
      why_arrow c = rw (eq-eqb h.running 1 r, ne_eqb h.count 0 b, ← t, c)

      pub why_else : q ≡ false → 0 ≡ own_reason h
      unfolding own_reason refusal
      why_else c = rw (eq-eqb h.running 1 r, ne_eqb h.count 0 b, ← t, c)

-- ---- by the tile ahead; q: the test of its turn
module _ (next turn lack facing : ℕ) (o : facing ≡ opposite turn) {q : Bool} (t : q ≡ not (eqb next facing)) where
  pub why_turn : q ≡ true → 4 ≡ ahead_reason next turn lack
  unfolding ahead_reason refusal
  why_turn d = rw (← o, ← t, d)

  module _ (d : q ≡ false) where
    pub why_gap : 0 < lack → 5 ≡ ahead_reason next turn lack
    unfolding ahead_reason refusal
    why_gap e = rw (← o, ← t, d, lt-ltb 0 lack e)

    pub why_moved : lack ≤ 0 → 6 ≡ ahead_reason next turn lack
    unfolding ahead_reason refusal
    why_moved e = rw (← o, ← t, d, le-ltb 0 lack e)

-- the two together are one list of tests
pub reasons_joined : (a b c d e : Bool) → let n = refusal ((a, 1) ∷ (b, 2) ∷ (c, 3) ∷ []) in
    cond (eqb n 0) (refusal ((d, 4) ∷ (e, 5) ∷ (true, 6) ∷ [])) n ≡ refusal ((a, 1) ∷ (b, 2) ∷ (c, 3) ∷ (d, 4) ∷ (e, 5) ∷ (true, 6) ∷ [])
unfolding refusal
reasons_joined true b c d e = refl
reasons_joined false true c d e = refl
reasons_joined false false true d e = refl
reasons_joined false false false d e = refl

-- ---- the pass
-- the tile ahead of one of the first n, or the number of no tile
pub ahead_in : (s : Settings) (ts : List Tile) (n t k : ℕ) {u : ℕ} → length ts ≡ 64 → n ≡ total s → total s ≤ 64 → t < length (take n ts) → u ≡ neighbour s k t → u < 65
ahead_in s ts n t k l a few h e = near_read s k t (omega (arith, a, front_in ts n (omega arith) h)) few e

-- a reason of the tile's own is none of the last three
own_few : (a b c : Bool) → refusal ((a, 1) ∷ (b, 2) ∷ (c, 3) ∷ []) ≤ 3
unfolding refusal
own_few true b c = omega arith
own_few false true c = omega arith
own_few false false true = omega arith
own_few false false false = omega arith

-- no reason has the number 0
some_number : (why : Reason) → reason_number why ≢ 0
some_number W.Stopped = λ e. absurd (omega (arith, e))
some_number W.Empty = λ e. absurd (omega (arith, e))
some_number W.NoArrow = λ e. absurd (omega (arith, e))
some_number W.Turn = λ e. absurd (omega (arith, e))
some_number W.NoGap = λ e. absurd (omega (arith, e))
some_number W.Moved = λ e. absurd (omega (arith, e))

-- x: the tile as it was read
module _ (s : Settings) (ts : List Tile) (turn lack : ℕ → ℕ) (t : ℕ) {x : Tile} (at : x ≡ get_or ts t zero_tile) where
  abbrev h : Tile
  h = get_or ts t zero_tile

  own_le : own_reason h ≤ 3
  unfolding own_reason
  own_le = own_few (not (eqb h.running 1)) (eqb h.count 0) (eqb h.next.code 0)

  -- it tells by itself
  module _ (why : Reason) {r : ℕ} (p : reason_number why ≡ own_reason x) (q : r ≡ reason_number why) where
    own_at : r ≡ own_reason h
    own_at = q ∙ p ∙ ap own_reason at

    pub own_read : r ≡ reason_by s ts turn lack t
    unfolding reason_by reason_from
    own_read = rw (ne_eqb (own_reason h) 0 (λ z. some_number why (sym q ∙ own_at ∙ z))) own_at

    pub own_lack : 0 ≡ lack_by s ts turn lack t
    unfolding lack_by
    own_lack = rw (sym own_read, ne_eqb r 5 (λ z. absurd (omega (arith, own_le, own_at, z))))

  -- from what was read of the tile ahead
  module _ {u m n : ℕ} (why : Reason) (p : 0 ≡ own_reason x) (e : u ≡ neighbour s x.next.code t) (a : m ≡ turn u) (b : n ≡ lack u) (q : reason_number why ≡ ahead_reason x.next.code m n) where
    why_read : reason_number why ≡ reason_by s ts turn lack t
    unfolding reason_by reason_from
    why_read = rw (← at, ← p, q, a, b, e)

    pub reason_read : {r : ℕ} → r ≡ reason_number why → r ≡ reason_by s ts turn lack t
    reason_read i = i ∙ why_read

    pub lack_read : {l : ℕ} → l ≡ cond (eqb (reason_number why) 5) n 0 → l ≡ lack_by s ts turn lack t
    unfolding lack_by
    lack_read v = rw (v, why_read, b, e, at)
