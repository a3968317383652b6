-- The lowest label that is ready, found by a pass over the entries.
use mathlib.Core.Path.{◌≡◌, refl, sym, ◌∙◌}
use mathlib.Core.Bool.{Bool, true, false, cond, ◌&&◌, ◌||◌}
use mathlib.Core.List.{List}
use Prim.Native.Nat.{ℕ, zero, suc, ◌+◌, ◌-◌, ◌≤◌, ◌<◌}
use native.Mathlib.Omega.{arith}
use lib.Dec.{leb, ltb, eqb}
use lib.ListN.{length, take}
use borrow.Author.Tests.{eq-eqb, ne_eqb, ltb-true, ltb-false, leb-true}
use Rattle.std.proofs.Common.{min}
use Rattle.std.proofs.lemmas.Bool.Decides.{nat_tests}
use Rattle.laws.specs.Define.{tab, all_of, any_of, first_of}
use Rattle.laws.proofs.Tests.{and_left, or_left, or_right, and_no}
use Rattle.laws.proofs.Tables.{all_at}
use Rattle.plan.specs.declared.Entry.{Entry}
use Rattle.plan.specs.declared.Plan.{Plan}
use Rattle.plan.specs.Entries.{used, ready, ready_label, entry_fits, plan_fits}
use Rattle.plan.specs.Plans.{offered}
use Rattle.plan_check.proofs.Tables.{entry_at, zero_entry, any_more}

-- ---- the first number of a table that passes
pub first_found : (p : ℕ → Bool) (n : ℕ) (g : ℕ → ℕ) (i : ℕ) → i < n → p (g i) ≡ true → ((j : ℕ) → j < i → p (g j) ≡ false) → first_of p (tab n g) ≡ g i
unfolding tab first_of
first_found p zero g i h y o = absurd (omega arith)
first_found p (suc n) g zero h y o = rw y
first_found p (suc n) g (suc i) h y o = rw (o 0 (omega arith)) (first_found p n (λ k. g (suc k)) i (omega arith) y (λ j k. o (suc j) (omega arith)))

pub first_none : (p : ℕ → Bool) (n : ℕ) (g : ℕ → ℕ) → ((j : ℕ) → j < n → p (g j) ≡ false) → first_of p (tab n g) ≡ 0
unfolding tab first_of
first_none p zero g o = refl
first_none p (suc n) g o = rw (o 0 (omega arith)) (first_none p n (λ k. g (suc k)) (λ j k. o (suc j) (omega arith)))

-- ---- the pass: es are all entries, l those looked at
-- an entry of l is ready and has label k
abbrev pub ready_in : List Entry → List Entry → ℕ → Bool
ready_in es l k = any_of (λ e. eqb e.label k && ready es e) l

-- b is the lowest of them, 65 where there is none
pub record Lowest (es l : List Entry) (b : ℕ) : Type 0 where
  pub some : 1 ≤ b
  pub few : b ≤ 65
  pub found : b < 65 → ready_in es l b ≡ true
  pub none_lower : (k : ℕ) → k < b → 1 ≤ k → ready_in es l k ≡ false

pub lowest_begins : (es l : List Entry) → Lowest es (take 0 l) 65
unfolding any_of
lowest_begins es l = record { some = omega arith; few = omega arith; found = λ h. absurd (omega arith); none_lower = λ k h m. refl }

pub lowest_turn : (es l : List Entry) (k : ℕ) {b r : ℕ} {y : Bool} → k < length l → 1 ≤ (entry_at l k).label → Lowest es (take k l) b
    → y ≡ ready es (entry_at l k) → r ≡ cond (y && ltb (entry_at l k).label b) (entry_at l k).label b → Lowest es (take (k + 1) l) r
lowest_turn es l k {b} {r} h s L w d = go (ready es (entry_at l k)) (ltb (entry_at l k).label b) refl refl
  where
    e : r ≡ cond (ready es (entry_at l k) && ltb (entry_at l k).label b) (entry_at l k).label b
    e = d ∙ rw w

    more : (j : ℕ) → ready_in es (take (k + 1) l) j ≡ (ready_in es (take k l) j || (eqb (entry_at l k).label j && ready es (entry_at l k)))
    more j = any_more (λ e. eqb e.label j && ready es e) l k zero_entry h

    stays : r ≡ b → ((j : ℕ) → j < b → (eqb (entry_at l k).label j && ready es (entry_at l k)) ≡ false) → Lowest es (take (k + 1) l) r
    stays q o = rw q (record {
      some = L.some;
      few = L.few;
      found = λ m. more b ∙ or_left (ready_in es (take k l) b) (eqb (entry_at l k).label b && ready es (entry_at l k)) (L.found m);
      none_lower = λ j m n. more j ∙ rw (L.none_lower j m n, o j m);
    })

    go : (y t : Bool) → ready es (entry_at l k) ≡ y → ltb (entry_at l k).label b ≡ t → Lowest es (take (k + 1) l) r
    go true true p q =
        let z : r ≡ (entry_at l k).label = e ∙ rw (p, q) in
        let m = ltb-true (entry_at l k).label b q in
        rw z (record {
          some = s;
          few = omega (arith, L.few);
          found = λ _. more (entry_at l k).label ∙ or_right (ready_in es (take k l) (entry_at l k).label) (eqb (entry_at l k).label (entry_at l k).label && ready es (entry_at l k)) (rw (eq-eqb (entry_at l k).label (entry_at l k).label refl) p);
          none_lower = λ j u v. more j ∙ rw (L.none_lower j (omega arith) v, ne_eqb (entry_at l k).label j (omega arith));
        })
    go true false p q = stays (e ∙ rw (p, q)) (λ j m. let n = ltb-false (entry_at l k).label b q in rw (ne_eqb (entry_at l k).label j (omega arith)))
    go false t p q = stays (e ∙ rw p) (λ j m. rw p (and_no (eqb (entry_at l k).label j)))

-- ---- its end
lower_min : (x b : ℕ) → min x b ≡ cond (ltb x b) x b
lower_min x b = grind (arith, nat_tests)

pub lowest_in : (es l : List Entry) (k : ℕ) {b r : ℕ} {y : Bool} → k < length l → 1 ≤ (entry_at l k).label → Lowest es (take k l) b
    → y ≡ ready es (entry_at l k) → y ≡ true → r ≡ min (entry_at l k).label b → Lowest es (take (k + 1) l) r
lowest_in es l k {b} h s L w y q = lowest_turn es l k h s L w (rw y (q ∙ lower_min (entry_at l k).label b))

pub lowest_out : (es l : List Entry) (k : ℕ) {b r : ℕ} {y : Bool} → k < length l → 1 ≤ (entry_at l k).label → Lowest es (take k l) b
    → y ≡ ready es (entry_at l k) → y ≡ false → r ≡ b → Lowest es (take (k + 1) l) r
lowest_out es l k h s L w y q = lowest_turn es l k h s L w (rw y q)

module _ (p : Plan) {b : ℕ} (L : Lowest (used p) (used p) b) where
  pub lowest_none : b ≡ 65 → 0 ≡ offered p
  unfolding offered ready_label
  lowest_none e = sym (first_none (ready_in (used p) (used p)) 64 suc (λ j h. L.none_lower (suc j) (omega arith) (omega arith)))

  pub lowest_some : (b ≡ 65 → ⊥) → b ≡ offered p
  unfolding offered ready_label
  lowest_some n =
      let a = L.some in
      let f = L.few in
      let m : b < 65 = omega arith in
      let e : suc (b - 1) ≡ b = omega arith in
      sym (first_found (ready_in (used p) (used p)) 64 suc (b - 1) (omega arith) (rw e (L.found m)) (λ j h. L.none_lower (suc j) (omega arith) (omega arith)) ∙ e)

-- every label of a plan that fits is 1 or more
pub fits_label : (p : Plan) → plan_fits p ≡ true → (k : ℕ) → k < length (used p) → 1 ≤ (entry_at (used p) k).label
unfolding plan_fits entry_fits
fits_label p h k q =
    let one = all_at (entry_fits (used p)) (used p) zero_entry (and_left (all_of (entry_fits (used p)) (used p)) _ h) k q in
    leb-true 1 (entry_at (used p) k).label (and_left _ (leb (entry_at (used p) k).label 64) (and_left (leb 1 (entry_at (used p) k).label && leb (entry_at (used p) k).label 64) _ one))
