-- One entry: the number that it holds, and its predecessors by their two labels.
use mathlib.Core.Path.{◌≡◌, refl, sym, ap, ◌∙◌}
use mathlib.Core.Bool.{Bool, true, false, cond, not, ◌&&◌, ◌||◌}
use mathlib.Core.List.{List, [], ◌∷◌}
use Prim.Native.Nat.{ℕ, zero, suc}
use native.Mathlib.Omega.{arith}
use lib.Dec.{leb, ltb, eqb}
use borrow.Author.Tests.{ne_eqb, lt-ltb}
use Rattle.laws.specs.Define.{all_of, filter}
use Rattle.laws.proofs.Tests.{and_yes}
use Rattle.plan.specs.declared.Entry.{Entry}
use Rattle.plan.proofs.Stages.{booked_number_byte}
use Rattle.plan.specs.declared.Stage as D
use Rattle.plan.specs.declared.Stage.TheVariants as V
use Rattle.plan.specs.Staged.{shown}
use Rattle.plan.specs.Entries.{stage_of, number_in, waits, booked_number, predecessors, done, present, after_predecessors, ready, entry_fits}

-- ---- the number held, as the code tests for it
pub booked_number_code : (e : Entry) → cond (not (eqb e.stage 0) && not (eqb e.stage 2)) (e.number ∷ []) [] ≡ booked_number e
booked_number_code e = sym (booked_number_byte e ∙ flip (eqb e.stage 0) (eqb e.stage 2))
  where
    flip : (a b : Bool) → ◌≡◌ {A = List ℕ} (cond (a || b) [] (e.number ∷ [])) (cond (not a && not b) (e.number ∷ []) [])
    flip true b = refl
    flip false true = refl
    flip false false = refl

-- a stage that the code found not to be a booked one
pub unbooked : (s : D.Stage) (e : Entry) → shown s ≡ stage_of e → ((n : ℕ) → s ≡ V.Booked n → ⊥) → booked_number e ≡ []
unbooked V.Waiting e h n = ap number_in (sym h)
unbooked (V.Booked k) e h n = absurd (n k refl)
unbooked V.Delivered e h n = ap number_in (sym h)

-- ---- the predecessors
pub both_pass : (p : ℕ → Bool) (e : Entry) → ((eqb e.first 0 || p e.first) && (eqb e.second 0 || p e.second)) ≡ all_of p (predecessors e)
unfolding predecessors filter all_of
both_pass p e = two e.first e.second
  where
    two : (a b : ℕ) → ((eqb a 0 || p a) && (eqb b 0 || p b)) ≡ all_of p (filter (λ k. ltb 0 k) (a ∷ b ∷ []))
    two zero zero = refl
    two zero (suc b) = rw (ne_eqb (suc b) 0 (omega arith), lt-ltb 0 (suc b) (omega arith)) (sym (and_yes (p (suc b))))
    two (suc a) zero = rw (ne_eqb (suc a) 0 (omega arith), lt-ltb 0 (suc a) (omega arith))
    two (suc a) (suc b) =
        rw (ne_eqb (suc a) 0 (omega arith), lt-ltb 0 (suc a) (omega arith), ne_eqb (suc b) 0 (omega arith), lt-ltb 0 (suc b) (omega arith))
        (ap (λ (x : Bool). p (suc a) && x) (sym (and_yes (p (suc b)))))

-- what the code finds of an entry, from what its tables say of the two labels
pub order_code : (es : List Entry) (e : Entry) {w a b r : Bool} → w ≡ waits e → a ≡ done es e.first → b ≡ done es e.second
    → r ≡ ((eqb e.first 0 || a) && (eqb e.second 0 || b)) → (w || r) ≡ after_predecessors es e
unfolding after_predecessors
order_code es e q f g h = rw (q, h, f, g, both_pass (done es) e)

pub ready_code : (es : List Entry) (e : Entry) {w a b r : Bool} → w ≡ waits e → a ≡ done es e.first → b ≡ done es e.second
    → r ≡ ((eqb e.first 0 || a) && (eqb e.second 0 || b)) → (w && r) ≡ ready es e
unfolding ready
ready_code es e q f g h = rw (q, h, f, g, both_pass (done es) e)

pub fits_code : (es : List Entry) (e : Entry) {a b r : Bool} → a ≡ present es e.first → b ≡ present es e.second
    → r ≡ ((leb 1 e.label && leb e.label 64) && ((eqb e.first 0 || (ltb e.first e.label && a)) && (eqb e.second 0 || (ltb e.second e.label && b)))) → r ≡ entry_fits es e
unfolding entry_fits
fits_code es e p q h = h ∙ rw (p, q, both_pass (λ k. ltb k e.label && present es k) e)
