-- Why did the tile stand: every tile has the first reason that fits, and 6 exactly where its canisters shifted. The statement is specs/Standing.
use mathlib.Core.Path.{◌≡◌, refl, sym, ap, ◌∙◌, subst, fun_ext}
use mathlib.Core.Logic.{◌↔◌, ◌≢◌}
use mathlib.Core.Bool.{true, cond, not}
use mathlib.Core.List.{List, [], ◌∷◌, Memᴰ}
use Prim.Native.Nat.{ℕ, zero, suc, ◌≤◌, ◌<◌}
use native.Mathlib.Omega.{arith}
use native.Mathlib.Decide.{dec_le, ℕ_discrete}
use lib.Dec.{ltb, eqb}
use lib.ListN.{length, get_or}
use borrow.Author.Tests.{lt-ltb, le-ltb, ltb-true, ltb-false, eqb-true, eqb-false, ne_eqb, not-true, not-false}
use Rattle.laws.specs.Define.{tab}
use Rattle.laws.specs.Every.{All}
use Rattle.laws.proofs.Tests.{not_both}
use Rattle.laws.proofs.Tables.{tab_at, tab_off}
use Rattle.laws.proofs.Lists.{all_mem, all_of_lem, all_imp, no_length}
use Rattle.floor.specs.declared.Canister.{Canister}
use Rattle.floor.specs.declared.Settings.{Settings}
use Rattle.floor.specs.declared.Floor.{Floor}
use Rattle.floor.specs.declared.Report.{Report}
use Rattle.floor.specs.Sides.{sides, opposite}
use Rattle.floor.specs.Settings.{total, spacing}
use Rattle.floor.specs.Grid.{neighbour}
use Rattle.floor.specs.Model.{Model, runs_of_of, next_of, members_of}
use Rattle.floor.specs.Memory.{view}
use Rattle.floor.specs.Well.{well_formed}
use Rattle.floor.specs.Route.{route}
use Rattle.floor.specs.Signal.{lack, missing}
use Rattle.floor.specs.Reasons.{ahead_of, reason_of, missing_of}
use Rattle.floor.specs.Calls.{after_round, report_of, round_answer}
use Rattle.floor.specs.Reports.{listed_at}
use Rattle.floor.specs.Demand3.{round, outcome}
use Rattle.floor.specs.BoundedBypass.{turn_of}
use Rattle.floor.specs.Standing.{Shifts, Shifted, Stood, Fits, Standing, reason_at, missing_at_of, ReasonRule, HasGap, GapTest}
use Rattle.floor.proofs.Sound.{Sound}
use Rattle.floor.proofs.GridBranches.{opposite_five, five_opposite}
use Rattle.floor.proofs.Grid.{each_side, opposite_sum}
use Rattle.floor.proofs.Tables.{run_on}
use Rattle.floor.proofs.Pack.{well_sound}
use Rattle.floor.proofs.Fields.{way_at_lem, delivered_to_lem, round_next}
use Rattle.floor.proofs.Passing.{moving, arrow_at}
use Rattle.floor.proofs.Lists.{round_report, round_reported, view_round}
use Rattle.floor.proofs.Reasons.{Which, signal_most, turn_at, missing_at, k, u, y, reason, fits, empty_first, ahead_runs, reason_moves, moves_reason, arrow_le}
use Rattle.floor.proofs.Shifting.{has, shifts, still_stood, not_both as never_both}

-- a member of a list that is not empty
some_of : {A : Type 0} (l : List A) → l ≢ [] → (x : A) × Memᴰ x l
some_of [] h = absurd (h refl)
some_of (x ∷ l) h = (x, mathlib.Core.List.Memᴰ.head refl)

-- ---- one round of a value
module _ (m : Model) (S : Sound m) where
  abbrev n : Model
  n = after_round m

  arrow_is : (t : ℕ) → next_of n t ≡ k m S t
  arrow_is t = round_next m S.len t

  by_arrow : (P : ℕ → Type 0) (t : ℕ) → P (k m S t) → P (next_of n t)
  by_arrow P t = subst P (sym (arrow_is t))

  side : (t : ℕ) → 0 < k m S t → Memᴰ (k m S t) sides
  side t h = (arrow_at m S t h).side

  on_reason : (t : ℕ) → t < total m.settings → reason_of (route m) t ≡ reason m S t
  unfolding reason_of route
  on_reason t h = rw (lt-ltb t (total m.settings) h)

  off_reason : (t : ℕ) → total m.settings ≤ t → reason_of (route m) t ≡ 0
  unfolding reason_of route
  off_reason t h = rw (le-ltb t (total m.settings) h)

  on_by : (t r : ℕ) → 0 < r → reason_of (route m) t ≡ r → t < total m.settings
  on_by t r p e = go (dec_le (suc t) (total m.settings))
    where
      go : Dec (t < total m.settings) → t < total m.settings
      go (yes h) = h
      go (no h) = absurd (omega (arith, off_reason t (omega arith)))

  -- the turn ahead
  turn_other : (t : ℕ) → 0 < k m S t → k m S t ≢ opposite (y m S t).turn → turn_of m (u m S t) ≢ opposite (k m S t)
  turn_other t h d e = d (opposite_five (k m S t) (y m S t).turn (arrow_le m S t) (omega (arith, turn_at m S (u m S t) (ahead_runs m S t h), e, opposite_sum (side t h))))

  turn_own : (t : ℕ) → 0 < k m S t → k m S t ≡ opposite (y m S t).turn → turn_of m (u m S t) ≡ opposite (k m S t)
  turn_own t h d = omega (arith, five_opposite (k m S t) (y m S t).turn h d, turn_at m S (u m S t) (ahead_runs m S t h), opposite_sum (side t h))

  module _ (t : ℕ) where
    F : Which (not (runs_of_of m t)) (eqb (length (members_of m t)) 0) (eqb (k m S t) 0) (not (eqb (k m S t) (opposite (y m S t).turn))) (ltb 0 (y m S t).missing) (reason m S t)
    F = fits m S t

    -- past the third test there is an arrow
    arrow_pos : 3 < reason m S t → 0 < k m S t
    arrow_pos h = omega (arith, eqb-false (k m S t) 0 (F.past_three h))

    lacks : 0 < k m S t → (y m S t).missing ≡ missing m.settings (turn_of m (u m S t)) (members_of m (u m S t))
    lacks h = missing_at m S (u m S t) (ahead_runs m S t h)

    moved_to : reason m S t ≡ 6 → Shifted m n (delivered_to_lem m) t
    moved_to e =
        let R = reason_moves m S t e in
        let M = moving m S t R.1 in (
          λ q. absurd (omega (arith, R.0, ap length q)),
          λ q. absurd (omega (arith, R.1, M.is, arrow_is t, q)),
          subst (λ (j : ℕ). All (Shifts m.settings n (delivered_to_lem m) j t) (members_of m t)) (M.is ∙ sym (arrow_is t)) (all_of_lem (Shifts m.settings n (delivered_to_lem m) (way_at_lem m t) t) (members_of m t) (shifts m S t M)),
        )

    fits_at : (r : ℕ) → reason m S t ≡ r → Fits m n (delivered_to_lem m) t r
    fits_at zero e = absurd (omega (arith, F.some.0))
    fits_at (suc zero) e = not-true (runs_of_of m t) (F.one e)
    fits_at (suc (suc zero)) e = no_length (members_of m t) (eqb-true (length (members_of m t)) 0 (F.two e))
    fits_at (suc (suc (suc zero))) e = arrow_is t ∙ eqb-true (k m S t) 0 (F.three e)
    fits_at (suc (suc (suc (suc zero)))) e = by_arrow (λ j. turn_of m (neighbour m.settings j t) ≢ opposite j) t
        (turn_other t (arrow_pos (omega arith)) (eqb-false (k m S t) (opposite (y m S t).turn) (not-true (eqb (k m S t) (opposite (y m S t).turn)) (F.four e))))
    fits_at (suc (suc (suc (suc (suc zero))))) e = by_arrow (λ j. 0 < missing m.settings (turn_of m (neighbour m.settings j t)) (members_of m (neighbour m.settings j t))) t
        (omega (arith, ltb-true 0 (y m S t).missing (F.five e), lacks (arrow_pos (omega arith))))
    fits_at (suc (suc (suc (suc (suc (suc zero)))))) e = moved_to e
    fits_at (suc (suc (suc (suc (suc (suc (suc r))))))) e = absurd (omega (arith, F.some.1))

    before_at : (j : ℕ) → 1 ≤ j → j < reason m S t → ¬ (Fits m n (delivered_to_lem m) t j)
    before_at zero p h q = absurd (omega arith)
    before_at (suc zero) p h q = not_both (not-false (runs_of_of m t) (F.past_one h)) q
    before_at (suc (suc zero)) p h q = absurd (eqb-false (length (members_of m t)) 0 (F.past_two h) (ap length q))
    before_at (suc (suc (suc zero))) p h q = absurd (eqb-false (k m S t) 0 (F.past_three h) (sym (arrow_is t) ∙ q))
    before_at (suc (suc (suc (suc zero)))) p h q =
        q (by_arrow (λ j. turn_of m (neighbour m.settings j t) ≡ opposite j) t (turn_own t (arrow_pos (omega arith)) (eqb-true (k m S t) (opposite (y m S t).turn) (not-false (eqb (k m S t) (opposite (y m S t).turn)) (F.past_four h)))))
    before_at (suc (suc (suc (suc (suc zero))))) p h q =
        let z : 0 < missing m.settings (turn_of m (u m S t)) (members_of m (u m S t)) = subst (λ (j : ℕ). 0 < missing m.settings (turn_of m (neighbour m.settings j t)) (members_of m (neighbour m.settings j t))) (arrow_is t) q in
        absurd (omega (arith, z, lacks (arrow_pos (omega arith)), ltb-false 0 (y m S t).missing (F.past_five h)))
    before_at (suc (suc (suc (suc (suc (suc j)))))) p h q = absurd (omega (arith, F.some.1))

    -- ---- the millimetres
    missing_is : missing_of (route m) t ≡ cond (eqb (reason_of (route m) t) 5) (y m S t).missing 0
    unfolding missing_of ahead_of route
    missing_is = refl

    missing_five : reason_of (route m) t ≡ 5 → missing_of (route m) t ≡ (y m S t).missing
    missing_five e = missing_is ∙ rw e

    missing_else : reason_of (route m) t ≢ 5 → missing_of (route m) t ≡ 0
    missing_else d = missing_is ∙ rw (ne_eqb (reason_of (route m) t) 5 d)

    at_five : reason_of (route m) t ≡ 5 → reason m S t ≡ 5
    at_five e = sym (on_reason t (on_by t 5 (omega arith) e)) ∙ e

    most : Dec (reason_of (route m) t ≡ 5) → missing_of (route m) t ≤ spacing m.settings
    most (yes e) = omega (arith, missing_five e, signal_most m S (u m S t))
    most (no d) = omega (arith, missing_else d)

    five : 0 < missing_of (route m) t → Dec (reason_of (route m) t ≡ 5) → reason_of (route m) t ≡ 5
    five h (yes e) = e
    five h (no d) = absurd (omega (arith, missing_else d))

    -- ---- the canisters
    stood_at : reason_of (route m) t ≢ 6 → Dec (0 < way_at_lem m t) → Dec (0 < length (members_of m t)) → Stood m n t
    stood_at d (no h) q = still_stood m S t (omega arith)
    stood_at d (yes h) (yes q) = absurd (d (on_reason t (moving m S t h).on ∙ moves_reason m S t q h))
    stood_at d (yes h) (no q) = all_of_lem (λ c. Memᴰ c (members_of n t)) (members_of m t) (λ c p. absurd (omega (arith, has p)))

    stood : reason_of (route m) t ≢ 6 → Stood m n t
    stood d = stood_at d (dec_le 1 (way_at_lem m t)) (dec_le 1 (length (members_of m t)))

    -- by any one canister
    excludes : Shifted m n (delivered_to_lem m) t → ¬ (Stood m n t)
    excludes h q =
        let c = some_of (members_of m t) h.0 in
        let mk : Memᴰ (next_of n t) sides = by_arrow (λ j. Memᴰ j sides) t (side t (omega (arith, h.1, arrow_is t))) in
        never_both m S (next_of n t) t c.0 mk c.1 (all_mem (λ x. Memᴰ x (members_of n t)) c.1 q) (all_mem (Shifts m.settings n (delivered_to_lem m) (next_of n t) t) c.1 h.2)

    moved_from : Shifted m n (delivered_to_lem m) t → Dec (reason_of (route m) t ≡ 6) → reason_of (route m) t ≡ 6
    moved_from h (yes e) = e
    moved_from h (no d) = absurd (excludes h (stood d))

  judged : Standing m n (delivered_to_lem m) (reason_of (route m)) (missing_of (route m))
  judged = record {
    one = λ t h. (omega (arith, on_reason t h, (F t).some.0), omega (arith, on_reason t h, (F t).some.1));
    fits = λ t h. subst (Fits m n (delivered_to_lem m) t) (sym (on_reason t h)) (fits_at t (reason m S t) refl);
    first = λ t h j p q. before_at t j p (omega (arith, on_reason t h));
    runs = λ t h. by_arrow (λ j. runs_of_of m (neighbour m.settings j t) ≡ true) t (ahead_runs m S t (omega (arith, h, arrow_is t)));
    short = λ t e. missing_five t e ∙ by_arrow (λ j. (y m S t).missing ≡ missing m.settings (turn_of m (neighbour m.settings j t)) (members_of m (neighbour m.settings j t))) t (lacks t (arrow_pos t (omega (arith, at_five t e))));
    lacking = λ t. (λ e. omega (arith, missing_five t e, ltb-true 0 (y m S t).missing ((F t).five (at_five t e))), λ h. five t h (ℕ_discrete (reason_of (route m) t) 5));
    below = λ t. let h = most t (ℕ_discrete (reason_of (route m) t) 5) in (h, omega (arith, h, S.measured.short));
    moved = λ t. (λ e. moved_to t (sym (on_reason t (on_by t 6 (omega arith) e)) ∙ e), λ h. moved_from t h (ℕ_discrete (reason_of (route m) t) 6));
    stood = λ t d. stood t d;
    not_both = λ t h. excludes t h;
    hopper = λ t h. let r = S.hopper_runs t h in on_reason t (run_on m S.len t r) ∙ empty_first m S t r (S.hopper_empty t h);
    none = λ t h. let z = off_reason t h in (z, missing_else t (λ e. absurd (omega (arith, z))));
  }

-- ---- for every well-formed floor in memory
module _ (f : Floor) (w : well_formed f ≡ true) where
  S : Sound (view f)
  S = well_sound f w

  sees : view (round_answer f).floor ≡ after_round (view f)
  unfolding outcome
  sees = view_round f w round refl

  listed : listed_at (round_answer f).report ≡ delivered_to_lem (view f)
  unfolding outcome
  listed = round_reported f w

  -- a table of the report, beyond its end too
  table : (g : ℕ → ℕ) → ((t : ℕ) → total (view f).settings ≤ t → g t ≡ 0) → (t : ℕ) → get_or (tab 64 g) t 0 ≡ g t
  table g z t = go (dec_le (suc t) 64)
    where
      go : Dec (t < 64) → get_or (tab 64 g) t 0 ≡ g t
      go (yes h) = tab_at 64 g t 0 h
      go (no h) = tab_off 64 g t 0 (omega arith) ∙ sym (z t (omega (arith, S.measured.few)))

  reasons : reason_at f ≡ reason_of (route (view f))
  unfolding reason_at report_of
  reasons = fun_ext (λ t. ap (λ (r : Report). get_or r.reasons t 0) (round_report f w) ∙ table (reason_of (route (view f))) (λ i h. ((judged (view f) S).none i h).0) t)

  millimetres : missing_at_of f ≡ missing_of (route (view f))
  unfolding missing_at_of report_of
  millimetres = fun_ext (λ t. ap (λ (r : Report). get_or r.missing t 0) (round_report f w) ∙ table (missing_of (route (view f))) (λ i h. ((judged (view f) S).none i h).1) t)

pub standing : ReasonRule
standing f w =
    subst (λ (x : Model). Standing (view f) x (listed_at (round_answer f).report) (reason_at f) (missing_at_of f)) (sym (sees f w))
    (subst (λ (x : ℕ → List ℕ). Standing (view f) (after_round (view f)) x (reason_at f) (missing_at_of f)) (sym (listed f w))
    (subst (λ (x : ℕ → ℕ). Standing (view f) (after_round (view f)) (delivered_to_lem (view f)) x (missing_at_of f)) (sym (reasons f w))
    (subst (λ (x : ℕ → ℕ). Standing (view f) (after_round (view f)) (delivered_to_lem (view f)) (reason_of (route (view f))) x) (sym (millimetres f w)) (judged (view f) (well_sound f w)))))

-- ---- the gap test
worst : (s : Settings) (k : ℕ) (l : List Canister) (n : ℕ) → missing s k l ≤ n ↔ All (λ c. lack s k c ≤ n) l
unfolding missing
worst s k [] n = (λ h. tt, λ h. omega arith)
worst s k (c ∷ l) n = let r = worst s k l n in (λ h. (omega arith, r.0 (omega arith)), λ h. omega (arith, h.0, r.1 h.1))

enough : (s : Settings) {k : ℕ} → Memᴰ k sides → (c : Canister) → lack s k c ≡ 0 ↔ HasGap s k c
unfolding lack
enough s m = each_side (λ k. (c : Canister) → lack s k c ≡ 0 ↔ HasGap s k c)
    (λ c. (λ h. omega arith, λ h. omega arith)) (λ c. (λ h. omega arith, λ h. omega arith)) (λ c. (λ h. omega arith, λ h. omega arith)) (λ c. (λ h. omega arith, λ h. omega arith)) m

pub gap_test : (s : Settings) → GapTest s
gap_test s = record {
  worst = worst s;
  enough = λ m c. enough s m c;
  gap = λ {k} m l. (
    λ h. all_imp (λ c. lack s k c ≤ 0) (HasGap s k) l (λ c z. (enough s m c).0 (omega arith)) ((worst s k l 0).0 (omega arith)),
    λ h. let z = (worst s k l 0).1 (all_imp (HasGap s k) (λ c. lack s k c ≤ 0) l (λ c g. omega (arith, (enough s m c).1 g)) h) in omega arith,
  );
}
