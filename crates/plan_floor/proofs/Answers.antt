-- What a release books, what a report marks, and what a refusal gives back: `books`, `marks`, `refused`. The statements are specs/Promises.
use mathlib.Core.Path.{◌≡◌, refl, sym, ap, ◌∙◌, subst}
use mathlib.Core.Logic.{◌⊎◌, inl, inr, ◌↔◌}
use mathlib.Core.Bool.{Bool, true, false, cond, true≢false, false≢true}
use mathlib.Core.List.Memᴰ
use mathlib.Core.List.{List, [], ◌∷◌, Memᴰ}
use Prim.Native.Nat.{ℕ}
use lib.Dec.{eqb}
use borrow.Author.Tests.{eqb-true, eq-eqb, ne_eqb}
use Rattle.laws.specs.Define.{any_of}
use Rattle.laws.proofs.Search.{any_find, any_mem}
use Rattle.plan.specs.declared.Entry.{Entry}
use Rattle.plan.specs.Entries.{Stage, waiting, booked, delivered, stage_of, is_delivered, number_in, was_delivered, booked_number, delivered_as, reported}
use Rattle.plan.specs.Plans.{offer_answer, release_answer, report_answer}
use Rattle.plan_floor.specs.Promises.{as_written, BookPromise, MarkPromise, RefusedPromise}
use Rattle.plan.proofs.Stages.{marked, booked_stage, delivered_stage, reported_stage, released_same, reported_same, released_there, released_other}
use Rattle.plan_floor.proofs.Keeping.{reported_waits}

exactly : (l : List ℕ) (s : Stage) → is_delivered (marked l s) ≡ true ↔ ((is_delivered s ≡ true) ⊎ ((n : ℕ) × Memᴰ n (number_in s) × Memᴰ n l))
exactly l waiting = (λ h. absurd (false≢true h), none)
  where
    none : (false ≡ true) ⊎ ((n : ℕ) × Memᴰ n [] × Memᴰ n l) → false ≡ true
    none (inl h) = h
    none (inr h) = absurd (Memᴰ.not-nil h.1)
exactly l delivered = (inl, λ _. refl)
exactly l (booked n) = (to (any_of (eqb n) l) refl, from)
  where
    to : (b : Bool) → any_of (eqb n) l ≡ b → is_delivered (cond b delivered (booked n)) ≡ true → (false ≡ true) ⊎ ((i : ℕ) × Memᴰ i (n ∷ []) × Memᴰ i l)
    to true e h = let r = any_find (eqb n) l e in inr (n, Memᴰ.head refl, subst (λ (i : ℕ). Memᴰ i l) (sym (eqb-true n r.0 r.2)) r.1)
    to false e h = absurd (false≢true h)

    from : (false ≡ true) ⊎ ((i : ℕ) × Memᴰ i (n ∷ []) × Memᴰ i l) → is_delivered (cond (any_of (eqb n) l) delivered (booked n)) ≡ true
    from (inl h) = absurd (false≢true h)
    from (inr h) = ap (λ (b : Bool). is_delivered (cond b delivered (booked n))) (any_mem (eqb n) h.2 (eq-eqb n h.0 (sym (one h.1))))
      where
        one : {i : ℕ} → Memᴰ i (n ∷ []) → i ≡ n
        one (Memᴰ.head e) = e
        one (Memᴰ.tail m) = absurd (Memᴰ.not-nil m)

else_same : (l : List ℕ) (e : Entry) → was_delivered (reported l e) ≡ false → reported l e ≡ e
unfolding reported
else_same l e = go (any_of (λ n. any_of (eqb n) l) (booked_number e))
  where
    go : (b : Bool) → was_delivered (cond b (delivered_as e) e) ≡ false → cond b (delivered_as e) e ≡ e
    go true h = absurd (true≢false (sym (ap is_delivered (delivered_stage e)) ∙ h))
    go false h = refl

pub books : BookPromise
unfolding as_written
books k n e = record {
  booked = λ q. ap booked_number (released_there k n e q) ∙ ap number_in (booked_stage n e);
  others_same = released_other k n e;
  same_written = released_same as_written k n (λ e. refl) e;
}

pub marks : MarkPromise
marks l e = record {
  exactly = subst (λ (s : Stage). is_delivered s ≡ true ↔ ((was_delivered e ≡ true) ⊎ ((n : ℕ) × Memᴰ n (booked_number e) × Memᴰ n l))) (sym (reported_stage l e)) (exactly l (stage_of e));
  else_same = else_same l e;
  same_waiting = reported_waits l e;
  same_rest = reported_same (λ e. e.tile ∷ e.number ∷ e.label ∷ e.first ∷ e.second ∷ []) l (λ e. refl) e;
}

pub refused : RefusedPromise
unfolding offer_answer release_answer report_answer
refused p f = record {
  offer = λ h. rw (ne_eqb (offer_answer p).refusal 0 h);
  release = λ k h. rw (ne_eqb (release_answer p f k).refusal 0 h);
  report = λ r h. rw (ne_eqb (report_answer p r).refusal 0 h);
}
