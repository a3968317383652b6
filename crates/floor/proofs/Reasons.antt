-- Which reason a tile has: the first of six tests that holds; and what one tile's signal tells of the turn before it passed on. One round of a value; what is in memory stands in Standing.
use mathlib.Core.Path.{◌≡◌, refl, sym, ap, ◌∙◌, subst}
use mathlib.Core.Logic.{◌⊎◌, inl, inr}
use mathlib.Core.Bool.{Bool, true, false, cond, not, ◌&&◌}
use mathlib.Core.List.{List, [], ◌∷◌}
use Prim.Native.Nat.{ℕ, zero, suc, ◌+◌, ◌^◌, ◌≤◌, ◌<◌}
use native.Mathlib.Omega.{arith}
use lib.Dec.{ltb, eqb}
use lib.ListN.{length}
use borrow.Author.Tests.{lt-ltb, ltb-true, ltb-false, eqb-true, eqb-false, eq-eqb, not-true, not-false}
use Rattle.laws.specs.Define.{refusal}
use Rattle.laws.specs.Every.{All}
use Rattle.laws.proofs.Tests.{by_test, not_both, and_right, and_true}
use Rattle.floor.specs.declared.Canister.{Canister}
use Rattle.floor.specs.declared.Settings.{Settings}
use Rattle.floor.specs.Sides.{opposite, chosen}
use Rattle.floor.specs.Settings.{spacing}
use Rattle.floor.specs.Grid.{neighbour}
use Rattle.floor.specs.Model.{Model, tile_of, runs_of_of, next_of, token_of, members_of}
use Rattle.floor.specs.Route.{route}
use Rattle.floor.specs.Signal.{Signal, lack, missing, granting, waiting, signal_with, signal_by, signal_of, grant_of}
use Rattle.floor.specs.Reasons.{reason_tests, ahead_of}
use Rattle.floor.specs.BoundedBypass.{wants, turn_of}
use Rattle.floor.proofs.Sound.{Measured, Inside, Sound}
use Rattle.floor.proofs.GridBranches.{opposite_five, five_opposite}
use Rattle.floor.proofs.Grid.{opposite_sum}
use Rattle.floor.proofs.Nearest.{route_running, route_members}
use Rattle.floor.proofs.Fields.{way_at_lem}
use Rattle.floor.proofs.Well.{faces_le}
use Rattle.floor.proofs.Kept.{arrow_faces}
use Rattle.floor.proofs.Passing.{signal_is, way_of_lem, moving, arrow_at}

-- ---- the first of six tests, the last of which always holds
pub record Which (a b c d e : Bool) (n : ℕ) : Type 0 where
  pub some : (1 ≤ n) × (n ≤ 6)
  pub one : n ≡ 1 → a ≡ true
  pub two : n ≡ 2 → b ≡ true
  pub three : n ≡ 3 → c ≡ true
  pub four : n ≡ 4 → d ≡ true
  pub five : n ≡ 5 → e ≡ true
  pub past_one : 1 < n → a ≡ false
  pub past_two : 2 < n → b ≡ false
  pub past_three : 3 < n → c ≡ false
  pub past_four : 4 < n → d ≡ false
  pub past_five : 5 < n → e ≡ false

which : (a b c d e : Bool) → Which a b c d e (refusal ((a, 1) ∷ (b, 2) ∷ (c, 3) ∷ (d, 4) ∷ (e, 5) ∷ (true, 6) ∷ []))
unfolding refusal
which true b c d e = record { some = (omega arith, omega arith); one = λ h. refl; two = λ h. absurd (omega arith); three = λ h. absurd (omega arith); four = λ h. absurd (omega arith); five = λ h. absurd (omega arith); past_one = λ h. absurd (omega arith); past_two = λ h. absurd (omega arith); past_three = λ h. absurd (omega arith); past_four = λ h. absurd (omega arith); past_five = λ h. absurd (omega arith) }
which false true c d e = record { some = (omega arith, omega arith); one = λ h. absurd (omega arith); two = λ h. refl; three = λ h. absurd (omega arith); four = λ h. absurd (omega arith); five = λ h. absurd (omega arith); past_one = λ h. refl; past_two = λ h. absurd (omega arith); past_three = λ h. absurd (omega arith); past_four = λ h. absurd (omega arith); past_five = λ h. absurd (omega arith) }
which false false true d e = record { some = (omega arith, omega arith); one = λ h. absurd (omega arith); two = λ h. absurd (omega arith); three = λ h. refl; four = λ h. absurd (omega arith); five = λ h. absurd (omega arith); past_one = λ h. refl; past_two = λ h. refl; past_three = λ h. absurd (omega arith); past_four = λ h. absurd (omega arith); past_five = λ h. absurd (omega arith) }
which false false false true e = record { some = (omega arith, omega arith); one = λ h. absurd (omega arith); two = λ h. absurd (omega arith); three = λ h. absurd (omega arith); four = λ h. refl; five = λ h. absurd (omega arith); past_one = λ h. refl; past_two = λ h. refl; past_three = λ h. refl; past_four = λ h. absurd (omega arith); past_five = λ h. absurd (omega arith) }
which false false false false true = record { some = (omega arith, omega arith); one = λ h. absurd (omega arith); two = λ h. absurd (omega arith); three = λ h. absurd (omega arith); four = λ h. absurd (omega arith); five = λ h. refl; past_one = λ h. refl; past_two = λ h. refl; past_three = λ h. refl; past_four = λ h. refl; past_five = λ h. absurd (omega arith) }
which false false false false false = record { some = (omega arith, omega arith); one = λ h. absurd (omega arith); two = λ h. absurd (omega arith); three = λ h. absurd (omega arith); four = λ h. absurd (omega arith); five = λ h. absurd (omega arith); past_one = λ h. refl; past_two = λ h. refl; past_three = λ h. refl; past_four = λ h. refl; past_five = λ h. refl }

-- ---- one tile's signal g: the turn before it passed on
record SignalFacts (s : Settings) (running : Bool) (token : ℕ) (l : List Canister) (p : ℕ → Bool) (g : Signal) : Type 0 where
  granted_turn : 0 < g.grant → (g.turn ≡ g.grant) × (g.missing ≡ 0)
  with_gap : running ≡ true → 0 < g.turn → g.missing ≡ 0 → g.grant ≡ g.turn
  turn_is : running ≡ true → g.turn ≡ chosen p token
  at_turn : running ≡ true → g.missing ≡ missing s g.turn l
  idle : running ≡ false → (g.turn ≡ token) × (g.missing ≡ 0)

signal_facts : (s : Settings) (running : Bool) (token : ℕ) (l : List Canister) (p : ℕ → Bool) → SignalFacts s running token l p (signal_by s running token l p)
unfolding signal_by signal_with
signal_facts s false token l p = record { granted_turn = λ h. absurd (omega arith); with_gap = λ r. not_both r refl; turn_is = λ r. not_both r refl; at_turn = λ r. not_both r refl; idle = λ r. (refl, refl) }
signal_facts s true token l p = go (ltb 0 k && eqb (missing s k l) 0) refl
  where
    k : ℕ
    k = chosen p token

    go : (b : Bool) → (ltb 0 k && eqb (missing s k l) 0) ≡ b
        → SignalFacts s true token l p (cond b (granting p k (missing s k l)) (waiting k (missing s k l)))
    go true e = record {
      granted_turn = λ h. (refl, eqb-true (missing s k l) 0 (and_right (ltb 0 k) (eqb (missing s k l) 0) e));
      with_gap = λ r h z. refl;
      turn_is = λ r. refl;
      at_turn = λ r. refl;
      idle = λ r. not_both refl r;
    }
    go false e = record {
      granted_turn = λ h. absurd (omega arith);
      with_gap = λ r h z. not_both (and_true (lt-ltb 0 k h) (eq-eqb (missing s k l) 0 z)) e;
      turn_is = λ r. refl;
      at_turn = λ r. refl;
      idle = λ r. not_both refl r;
    }

-- no more is missing than d
lack_le : (s : Settings) → Measured s → (k : ℕ) (c : Canister) → Inside s c → lack s k c ≤ spacing s
unfolding lack
lack_le s M zero c i = omega arith
lack_le s M (suc zero) c i = omega arith
lack_le s M (suc (suc zero)) c i = omega arith
lack_le s M (suc (suc (suc zero))) c i = omega (arith, i.in_b, M.short)
lack_le s M (suc (suc (suc (suc zero)))) c i = omega (arith, i.in_a, M.short)
lack_le s M (suc (suc (suc (suc (suc k))))) c i = omega arith

missing_le : (s : Settings) → Measured s → (k : ℕ) (l : List Canister) → All (Inside s) l → missing s k l ≤ spacing s
unfolding missing
missing_le s M k [] i = omega arith
missing_le s M k (c ∷ l) i = omega (arith, lack_le s M k c i.0, missing_le s M k l i.1)

-- ---- one round
module _ (m : Model) (S : Sound m) where
  -- what Signal tells of any tile
  signal_facts_at : (u : ℕ) → SignalFacts m.settings (runs_of_of m u) (token_of m u) (members_of m u) (wants m u) (signal_of (route m) u)
  signal_facts_at u = subst (SignalFacts m.settings (runs_of_of m u) (token_of m u) (members_of m u) (wants m u)) (sym (signal_is m S.len u)) (signal_facts m.settings (runs_of_of m u) (token_of m u) (members_of m u) (wants m u))

  pub signal_most : (u : ℕ) → (signal_of (route m) u).missing ≤ spacing m.settings
  signal_most u = go (by_test (runs_of_of m u))
    where
      go : (runs_of_of m u ≡ true) ⊎ (runs_of_of m u ≡ false) → (signal_of (route m) u).missing ≤ spacing m.settings
      go (inl r) = omega (arith, (signal_facts_at u).at_turn r, missing_le m.settings S.measured (signal_of (route m) u).turn (members_of m u) (S.inside u))
      go (inr r) = omega (arith, ((signal_facts_at u).idle r).1)

  -- two bytes hold it
  pub signal_lacks : (u : ℕ) → (signal_of (route m) u).missing < 2 ^ 16
  signal_lacks u = omega (arith, signal_most u, S.measured.short, S.measured.narrow)

  -- of a running tile: by the words of specs/BoundedBypass
  pub turn_at : (u : ℕ) → runs_of_of m u ≡ true → (signal_of (route m) u).turn ≡ turn_of m u
  unfolding turn_of
  turn_at u r = (signal_facts_at u).turn_is r

  pub missing_at : (u : ℕ) → runs_of_of m u ≡ true → (signal_of (route m) u).missing ≡ missing m.settings (turn_of m u) (members_of m u)
  missing_at u r = (signal_facts_at u).at_turn r ∙ ap (λ (k : ℕ). missing m.settings k (members_of m u)) (turn_at u r)

  module _ (t : ℕ) where
    -- the new arrow, the tile that it leads to, what Signal gave that one, and the reason
    abbrev pub k : ℕ
    k = next_of (route m) t

    abbrev pub u : ℕ
    u = neighbour m.settings k t

    abbrev pub y : Signal
    y = signal_of (route m) u

    abbrev pub reason : ℕ
    reason = refusal (reason_tests (tile_of (route m) t) (ahead_of (route m) t))

    pub fits : Which (not (runs_of_of m t)) (eqb (length (members_of m t)) 0) (eqb k 0) (not (eqb k (opposite y.turn))) (ltb 0 y.missing) reason
    unfolding reason_tests ahead_of route
    fits =
        let r : runs_of_of (route m) t ≡ runs_of_of m t = ap (λ (n : ℕ). eqb n 1) (route_running m S.len t) in
        subst (λ (l : List Canister). Which (not (runs_of_of m t)) (eqb (length l) 0) (eqb k 0) (not (eqb k (opposite y.turn))) (ltb 0 y.missing) reason) (route_members m S.len t)
        (subst (λ (b : Bool). Which (not b) (eqb (length (members_of (route m) t)) 0) (eqb k 0) (not (eqb k (opposite y.turn))) (ltb 0 y.missing) reason) r
        (which (not (runs_of_of (route m) t)) (eqb (length (members_of (route m) t)) 0) (eqb k 0) (not (eqb k (opposite y.turn))) (ltb 0 y.missing)))

    -- where a test's number is the reason, and where it is an earlier one
    pub empty_first : runs_of_of m t ≡ true → members_of m t ≡ [] → reason ≡ 2
    unfolding reason_tests ahead_of refusal
    empty_first r e =
        let a : runs_of_of (route m) t ≡ true = ap (λ (n : ℕ). eqb n 1) (route_running m S.len t) ∙ r in
        rw (a, route_members m S.len t ∙ e)

    -- an arrow is a side
    pub arrow_le : k ≤ 4
    arrow_le = faces_le m.settings t k (arrow_faces m S t)

    pub ahead_runs : 0 < k → runs_of_of m u ≡ true
    ahead_runs h = (arrow_at m S t h).ahead

    -- where the turn ahead is this tile's and nothing is missing, it moves
    must_move : 0 < k → k ≡ opposite y.turn → y.missing ≡ 0 → way_at_lem m t ≡ k
    unfolding way_at_lem
    must_move h e z = way_of_lem k y.grant (e ∙ ap opposite (sym ((signal_facts_at u).with_gap (ahead_runs h) (omega (arith, five_opposite k y.turn h e, arrow_le)) z)))

    -- a tile that moves passes the first five tests, if it has canisters
    does_move : 0 < way_at_lem m t → (runs_of_of m t ≡ true) × (0 < k) × (k ≡ opposite y.turn) × (y.missing ≡ 0)
    does_move h =
        let M = moving m S t h in
        let g : grant_of (route m) u ≡ opposite k = subst (λ (j : ℕ). grant_of (route m) (neighbour m.settings j t) ≡ opposite j) M.is M.meets in
        let sum : k + opposite k ≡ 5 = subst (λ (j : ℕ). j + opposite j ≡ 5) M.is (opposite_sum M.side) in
        let T = (signal_facts_at u).granted_turn (omega (arith, g, sum, arrow_le)) in
        (M.runs, omega (arith, M.is), opposite_five k y.turn arrow_le (omega (arith, T.0, g, sum)), T.1)

    pub reason_moves : reason ≡ 6 → (0 < length (members_of m t)) × (0 < way_at_lem m t)
    reason_moves h =
        let l = length (members_of m t) in
        let pos : 0 < k = omega (arith, eqb-false k 0 (fits.past_three (omega arith))) in
        let facing : k ≡ opposite y.turn = eqb-true k (opposite y.turn) (not-false (eqb k (opposite y.turn)) (fits.past_four (omega arith))) in
        (omega (arith, eqb-false l 0 (fits.past_two (omega arith))), omega (arith, pos, must_move pos facing (omega (arith, ltb-false 0 y.missing (fits.past_five (omega arith))))))

    pub moves_reason : 0 < length (members_of m t) → 0 < way_at_lem m t → reason ≡ 6
    moves_reason n h = go reason refl
      where
        w : (runs_of_of m t ≡ true) × (0 < k) × (k ≡ opposite y.turn) × (y.missing ≡ 0)
        w = does_move h

        go : (r : ℕ) → reason ≡ r → reason ≡ 6
        go zero e = absurd (omega (arith, fits.some.0))
        go (suc zero) e = not_both w.0 (not-true (runs_of_of m t) (fits.one e))
        go (suc (suc zero)) e = absurd (omega (arith, eqb-true (length (members_of m t)) 0 (fits.two e)))
        go (suc (suc (suc zero))) e = absurd (omega (arith, w.1, eqb-true k 0 (fits.three e)))
        go (suc (suc (suc (suc zero)))) e = absurd (eqb-false k (opposite y.turn) (not-true (eqb k (opposite y.turn)) (fits.four e)) w.2)
        go (suc (suc (suc (suc (suc zero))))) e = absurd (omega (arith, w.3, ltb-true 0 y.missing (fits.five e)))
        go (suc (suc (suc (suc (suc (suc zero)))))) e = e
        go (suc (suc (suc (suc (suc (suc (suc r))))))) e = absurd (omega (arith, fits.some.1))
