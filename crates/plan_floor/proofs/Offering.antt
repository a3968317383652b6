-- What a plan offers: the lowest label that can go; none exactly where there is none; one while a label waits and no booked one is undelivered: `offers`. The statement is specs/Promises.
use mathlib.Core.Path.{◌≡◌, refl, sym, ap, ◌∙◌, subst}
use mathlib.Core.Logic.{◌⊎◌, inl, inr, ◌↔◌, ◌≢◌}
use mathlib.Core.Bool.{Bool, true, false, cond, not, ◌&&◌, ◌||◌}
use mathlib.Core.List.Memᴰ
use mathlib.Core.List.{List, [], ◌∷◌, Memᴰ}
use Prim.Native.Nat.{ℕ, zero, suc, ◌≤◌, ◌<◌}
use native.Mathlib.Omega.{arith}
use lib.Dec.{leb, ltb, eqb}
use borrow.Author.Tests.{eqb-true, eq-eqb, ltb-true, ltb-false, leb-true, not-false}
use Rattle.laws.specs.Define.{tab, any_of, first_of}
use Rattle.laws.specs.Every.{All}
use Rattle.laws.proofs.Tests.{by_test, not_both, and_left, and_right, and_true, or_left, or_right, test_none}
use Rattle.laws.proofs.Lists.{all_mem, all_of_lem, all_imp, true_all}
use Rattle.laws.proofs.Search.{any_find, any_mem, first_mem, first_none}
use Rattle.plan.specs.declared.Entry.{Entry}
use Rattle.plan.specs.declared.Plan.{Plan}
use Rattle.plan.specs.Entries.{waits, was_delivered, booked_number, used, predecessors, done, present, plan_sound, entry_fits, plan_fits, ready, ready_label}
use Rattle.plan.specs.Plans.{offer_tests, offered, offer_answer}
use Rattle.plan.proofs.Stages.{neither}
use Rattle.plan_floor.specs.Promises.{Offers, OfferPromise}
use Rattle.plan_floor.proofs.History.{fits_entry, fits_predecessors, ready_entry}
use Rattle.plan_floor.proofs.Soundness.{never_48}

-- ---- the first label that passes is the lowest
in_tab : (n k : ℕ) (g : ℕ → ℕ) → k < n → Memᴰ (g k) (tab n g)
unfolding tab
in_tab zero k g h = absurd (omega arith)
in_tab (suc n) zero g h = Memᴰ.head refl
in_tab (suc n) (suc k) g h = Memᴰ.tail (in_tab n k (λ i. g (suc i)) (omega arith))

all_above : (n : ℕ) (g : ℕ → ℕ) → ((k : ℕ) → 0 < g k) → All (λ k. 0 < k) (tab n g)
unfolding tab
all_above zero g h = tt
all_above (suc n) g h = (h 0, all_above n (λ k. g (suc k)) (λ k. h (suc k)))

first_least : (p : ℕ → Bool) (n : ℕ) (g : ℕ → ℕ) → ((i j : ℕ) → i ≤ j → g i ≤ g j) → (k : ℕ) → k < n → p (g k) ≡ true → first_of p (tab n g) ≤ g k
unfolding tab first_of
first_least p zero g up k h q = absurd (omega arith)
first_least p (suc n) g up zero h q = rw q (omega arith)
first_least p (suc n) g up (suc k) h q = go (p (g 0)) (first_least p n (λ i. g (suc i)) (λ i j l. up (suc i) (suc j) (omega arith)) k (omega arith) q)
  where
    go : (b : Bool) → first_of p (tab n (λ i. g (suc i))) ≤ g (suc k) → cond b (g 0) (first_of p (tab n (λ i. g (suc i)))) ≤ g (suc k)
    go true ih = up 0 (suc k) (omega arith)
    go false ih = ih

lowest_first : (p : ℕ → Bool) (k : ℕ) → 1 ≤ k → k ≤ 64 → p k ≡ true → first_of p (tab 64 suc) ≤ k
lowest_first p zero lo hi q = absurd (omega arith)
lowest_first p (suc k) lo hi q = first_least p 64 suc (λ i j l. omega arith) k (omega arith) q

label_in : (k : ℕ) → 1 ≤ k → k ≤ 64 → Memᴰ k (tab 64 suc)
label_in zero lo hi = absurd (omega arith)
label_in (suc k) lo hi = in_tab 64 k suc (omega arith)

-- ---- of a plan
module _ (p : Plan) (fits : plan_fits p ≡ true) where
  abbrev es : List Entry
  es = used p

  label_range : (e : Entry) → Memᴰ e es → (1 ≤ e.label) × (e.label ≤ 64)
  unfolding entry_fits
  label_range e m =
      let b = and_left (leb 1 e.label && leb e.label 64) _ (fits_entry p fits e m) in
      (leb-true 1 e.label (and_left (leb 1 e.label) (leb e.label 64) b), leb-true e.label 64 (and_right (leb 1 e.label) (leb e.label 64) b))

  pub ready_label_lem : (e : Entry) → Memᴰ e es → ready es e ≡ true → ready_label es e.label ≡ true
  unfolding ready_label
  ready_label_lem e m r = any_mem (λ x. eqb x.label e.label && ready es x) m (and_true {a = eqb e.label e.label} {b = ready es e} (eq-eqb e.label e.label refl) r)

  ready_lowest : (e : Entry) → Memᴰ e es → ready es e ≡ true → offered p ≤ e.label
  unfolding offered
  ready_lowest e m r = let b = label_range e m in lowest_first (ready_label es) e.label b.0 b.1 (ready_label_lem e m r)

  -- a ready entry makes the plan offer a label
  ready_offered : (e : Entry) → Memᴰ e es → ready es e ≡ true → offered p ≢ 0
  unfolding offered
  ready_offered e m r z =
      let b = label_range e m in
      let f = first_mem (ready_label es) (tab 64 suc) (any_mem (ready_label es) (label_in e.label b.0 b.1) (ready_label_lem e m r)) in
      let pos = all_mem (λ k. 0 < k) f.0 (all_above 64 suc (λ k. omega arith)) in
      omega arith

  -- and what is offered is ready
  pub offered_ready : offered p ≢ 0 → ready_label es (offered p) ≡ true
  unfolding offered
  offered_ready h = go (by_test (any_of (ready_label es) (tab 64 suc)))
    where
      go : (any_of (ready_label es) (tab 64 suc) ≡ true) ⊎ (any_of (ready_label es) (tab 64 suc) ≡ false) → ready_label es (first_of (ready_label es) (tab 64 suc)) ≡ true
      go (inl k) = (first_mem (ready_label es) (tab 64 suc) k).1
      go (inr k) = absurd (h (first_none (ready_label es) (tab 64 suc) k))

  none_offered : offered p ≡ 0 ↔ ((e : Entry) → Memᴰ e es → ready es e ≡ false)
  none_offered = (to, from)
    where
      to : offered p ≡ 0 → (e : Entry) → Memᴰ e es → ready es e ≡ false
      to z e m = go (by_test (ready es e))
        where
          go : (ready es e ≡ true) ⊎ (ready es e ≡ false) → ready es e ≡ false
          go (inl r) = absurd (ready_offered e m r z)
          go (inr r) = r

      from : ((e : Entry) → Memᴰ e es → ready es e ≡ false) → offered p ≡ 0
      from n = go (by_test (eqb (offered p) 0))
        where
          go : (eqb (offered p) 0 ≡ true) ⊎ (eqb (offered p) 0 ≡ false) → offered p ≡ 0
          go (inl z) = eqb-true (offered p) 0 z
          go (inr z) =
              let r = ready_entry p fits (offered p) (offered_ready (λ e. not_both (eq-eqb (offered p) 0 e) z)) in
              not_both r.3 (n r.0 r.1)

  -- an entry below which no label waits is ready
  module _ (none_booked : (e : Entry) → Memᴰ e es → booked_number e ≡ []) where
    least_ready : (e : Entry) → Memᴰ e es → waits e ≡ true → ((x : Entry) → Memᴰ x es → waits x ≡ true → e.label ≤ x.label) → ready es e ≡ true
    unfolding ready done
    least_ready e m w low =
        and_true {a = waits e} w (true_all (λ k. done es k) (predecessors e)
        (all_imp (λ k. (ltb k e.label && present es k) ≡ true) (λ k. done es k ≡ true) (predecessors e) (λ k h. below k (ltb-true k e.label (and_left (ltb k e.label) (present es k) h))) (fits_predecessors p fits e m)))
      where
        at : (k : ℕ) → k < e.label → (x : Entry) → Memᴰ x es → (not (eqb x.label k) || was_delivered x) ≡ true
        at k h x q = go (by_test (eqb x.label k)) (by_test (waits x))
          where
            go : (eqb x.label k ≡ true) ⊎ (eqb x.label k ≡ false) → (waits x ≡ true) ⊎ (waits x ≡ false) → (not (eqb x.label k) || was_delivered x) ≡ true
            go (inr n) v = or_left (not (eqb x.label k)) (was_delivered x) (ap not n)
            go (inl y) (inl v) = absurd (omega (arith, eqb-true x.label k y, low x q v))
            go (inl y) (inr v) = or_right (not (eqb x.label k)) (was_delivered x) (neither x v (none_booked x q))

        below : (k : ℕ) → k < e.label → done es k ≡ true
        below k h = true_all (λ x. not (eqb x.label k) || was_delivered x) es (all_of_lem (λ x. (not (eqb x.label k) || was_delivered x) ≡ true) es (at k h))

-- ---- the waiting entry of the least label, if one waits
Lowest : List Entry → Type 0
Lowest es = (e : Entry) × Memᴰ e es × (waits e ≡ true) × ((x : Entry) → Memᴰ x es → waits x ≡ true → e.label ≤ x.label)

NoneWaits : List Entry → Type 0
NoneWaits es = (x : Entry) → Memᴰ x es → waits x ≡ false

lowest : (es : List Entry) → Lowest es ⊎ NoneWaits es
unfolding Lowest NoneWaits
lowest [] = inr (λ x m. absurd (Memᴰ.not-nil m))
lowest (e ∷ es) = go (by_test (waits e)) (lowest es)
  where
    go : (waits e ≡ true) ⊎ (waits e ≡ false) → Lowest es ⊎ NoneWaits es → Lowest (e ∷ es) ⊎ NoneWaits (e ∷ es)
    go (inr n) (inr f) = inr (λ x m. none x m)
      where
        none : (x : Entry) → Memᴰ x (e ∷ es) → waits x ≡ false
        none x (Memᴰ.head q) = ap waits q ∙ n
        none x (Memᴰ.tail q) = f x q
    go (inl w) (inr f) = inl (e, Memᴰ.head refl, w, λ x m v. least x m v)
      where
        least : (x : Entry) → Memᴰ x (e ∷ es) → waits x ≡ true → e.label ≤ x.label
        least x (Memᴰ.head q) v = omega (arith, ap (λ (y : Entry). y.label) q)
        least x (Memᴰ.tail q) v = not_both v (f x q)
    go (inr n) (inl r) = inl (r.0, Memᴰ.tail r.1, r.2, λ x m v. least x m v)
      where
        least : (x : Entry) → Memᴰ x (e ∷ es) → waits x ≡ true → r.0.label ≤ x.label
        least x (Memᴰ.head q) v = not_both v (ap waits q ∙ n)
        least x (Memᴰ.tail q) v = r.3 x q v
    go (inl w) (inl r) = by (by_test (ltb r.0.label e.label))
      where
        mine : e.label ≤ r.0.label → (x : Entry) → Memᴰ x (e ∷ es) → waits x ≡ true → e.label ≤ x.label
        mine h x (Memᴰ.head q) v = omega (arith, ap (λ (y : Entry). y.label) q)
        mine h x (Memᴰ.tail q) v = omega (arith, r.3 x q v)

        theirs : r.0.label ≤ e.label → (x : Entry) → Memᴰ x (e ∷ es) → waits x ≡ true → r.0.label ≤ x.label
        theirs h x (Memᴰ.head q) v = omega (arith, ap (λ (y : Entry). y.label) q)
        theirs h x (Memᴰ.tail q) v = r.3 x q v

        by : (ltb r.0.label e.label ≡ true) ⊎ (ltb r.0.label e.label ≡ false) → Lowest (e ∷ es) ⊎ NoneWaits (e ∷ es)
        by (inl h) = inl (r.0, Memᴰ.tail r.1, r.2, theirs (omega (arith, ltb-true)))
        by (inr h) = inl (e, Memᴰ.head refl, w, mine (ltb-false r.0.label e.label h))

some_offered : (p : Plan) → plan_fits p ≡ true → any_of waits (used p) ≡ true → All (λ e. booked_number e ≡ []) (used p) → offered p ≢ 0
unfolding Lowest NoneWaits
some_offered p fits w nb = go (lowest (used p))
  where
    go : Lowest (used p) ⊎ NoneWaits (used p) → offered p ≢ 0
    go (inl r) = ready_offered p fits r.0 r.1 (least_ready p fits (λ e m. all_mem (λ e. booked_number e ≡ []) m nb) r.0 r.1 r.2 r.3)
    go (inr n) = let r = any_find waits (used p) w in not_both r.2 (n r.0 r.1)

-- a plan that an offer does not refuse
pub offer_fits : (p : Plan) → (offer_answer p).refusal ≡ 0 → plan_fits p ≡ true
unfolding offer_answer offer_tests
offer_fits p h = let a = test_none (not (plan_sound p)) 30 _ (omega arith) h in not-false (plan_fits p) (test_none (not (plan_fits p)) 47 [] (omega arith) a.1).0

pub offer_label : (p : Plan) → (offer_answer p).refusal ≡ 0 → (offer_answer p).label ≡ offered p
unfolding offer_answer
offer_label p h = rw h

pub offers : OfferPromise
offers p h =
    let fits = offer_fits p h in
    subst (Offers p) (sym (offer_label p h)) (record {
      can_go = offered_ready p fits;
      not_48 = λ d f. never_48 p f (offered p) (offered_ready p fits d);
      lowest = ready_lowest p fits;
      none = none_offered p fits;
      goes_on = some_offered p fits;
    })
