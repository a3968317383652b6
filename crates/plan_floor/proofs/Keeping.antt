-- What a release and a report keep of a plan: the order, the numbers, the labels.
use mathlib.Core.Path.{◌≡◌, refl, sym, ap, ◌∙◌, subst, fun_ext}
use mathlib.Core.Logic.{◌⊎◌, inl, inr, ◌≢◌}
use mathlib.Core.Bool.{Bool, true, false, cond, not, ◌&&◌, ◌||◌, false≢true}
use mathlib.Core.List.{List, [], ◌∷◌, ◌++◌, map, Memᴰ}
use Prim.Native.Nat.{ℕ}
use lib.Dec.{leb, ltb, eqb}
use borrow.Author.Tests.{eqb-true, eqb-false, eq-eqb}
use Rattle.laws.specs.Define.{all_of, any_of, pairs_of}
use Rattle.laws.specs.Every.{All, Pairs}
use Rattle.laws.proofs.Tests.{by_test, not_both, and_right, and_left, or_case, or_left, or_right}
use Rattle.laws.proofs.Lists.{all_mem, all_of_lem, all_imp, all_append, all_map, all_true, true_all, all_left, all_right, pairs_left, pairs_right, pairs_append, pairs_between}
use Rattle.plan.specs.declared.Entry.{Entry}
use Rattle.plan.specs.declared.Plan.{Plan}
use Rattle.plan.specs.Entries.{Stage, waiting, booked, delivered, stage_of, is_waiting, is_delivered, number_in, waits, was_delivered, booked_number, used, predecessors, done, present, booked_numbers, after_predecessors, entry_fits, plan_fits, ready, ready_label, changed, booked_as, released, reported}
use Rattle.plan.proofs.Stages.{marked, booked_stage, reported_stage, released_label, reported_label, released_there, released_other, used_changed}
use Rattle.plan_floor.proofs.Written.{Plain, released_plain, reported_plain, same_predecessors}
use Rattle.plan_floor.proofs.History.{ready_entry, all_ready}

-- ---- 47 goes by labels and predecessors
all_mapped : {A B : Type 0} (p : B → Bool) (g : A → B) (l : List A) → all_of p (map g l) ≡ all_of (λ x. p (g x)) l
unfolding all_of
all_mapped p g [] = refl
all_mapped p g (x ∷ l) = ap (λ b. p (g x) && b) (all_mapped p g l)

any_mapped : {A B : Type 0} (p : B → Bool) (g : A → B) (l : List A) → any_of p (map g l) ≡ any_of (λ x. p (g x)) l
unfolding any_of
any_mapped p g [] = refl
any_mapped p g (x ∷ l) = ap (λ b. p (g x) || b) (any_mapped p g l)

pairs_mapped : {A B : Type 0} (r : B → B → Bool) (g : A → B) (l : List A) → pairs_of r (map g l) ≡ pairs_of (λ x y. r (g x) (g y)) l
unfolding pairs_of
pairs_mapped r g [] = refl
pairs_mapped r g (x ∷ l) = (λ i. all_mapped (r (g x)) g l i && pairs_mapped r g l i)

module _ (g : Entry → Entry) (P : Plain g) where
  same_present : (es : List Entry) → present (map g es) ≡ present es
  unfolding present
  same_present es = fun_ext (λ k. any_mapped (λ x. eqb x.label k) g es ∙ ap (λ (q : Entry → Bool). any_of q es) (fun_ext (λ x. ap (λ (j : ℕ). eqb j k) (P.label x))))

  same_entry : (es : List Entry) (e : Entry) → entry_fits (map g es) (g e) ≡ entry_fits es e
  unfolding entry_fits
  same_entry es e = (λ i. (leb 1 (P.label e i) && leb (P.label e i) 64) && all_of (λ k. ltb k (P.label e i) && same_present es i k) (same_predecessors g P e i))

  fits_in : List Entry → Bool
  fits_in es = all_of (entry_fits es) es && pairs_of (λ x y. not (eqb x.label y.label)) es

  same_in : (es : List Entry) → fits_in (map g es) ≡ fits_in es
  unfolding fits_in
  same_in es =
      (λ i. all_mapped (entry_fits (map g es)) g es i && pairs_mapped (λ x y. not (eqb x.label y.label)) g es i)
      ∙ (λ i. all_of (λ e. same_entry es e i) es && pairs_of (λ x y. not (eqb (P.label x i) (P.label y i))) es)

  pub same_fits : (p : Plan) → plan_fits (changed p g) ≡ plan_fits p
  unfolding plan_fits fits_in
  same_fits p = ap fits_in (used_changed p g) ∙ same_in (used p)

-- ---- a label that is done stays so
all_done : (es : List Entry) (j : ℕ) → done es j ≡ true → (x : Entry) → Memᴰ x es → x.label ≡ j → was_delivered x ≡ true
unfolding done
all_done es j d x m q =
    subst (λ (b : Bool). (not b || was_delivered x) ≡ true) (eq-eqb x.label j q)
    (all_mem (λ x. (not (eqb x.label j) || was_delivered x) ≡ true) m (all_true (λ x. not (eqb x.label j) || was_delivered x) es d))

done_all : (es : List Entry) (j : ℕ) → ((x : Entry) → Memᴰ x es → x.label ≡ j → was_delivered x ≡ true) → done es j ≡ true
unfolding done
done_all es j h = true_all (λ x. not (eqb x.label j) || was_delivered x) es (all_of_lem (λ x. (not (eqb x.label j) || was_delivered x) ≡ true) es (λ x m. go x m (by_test (eqb x.label j))))
  where
    go : (x : Entry) → Memᴰ x es → (eqb x.label j ≡ true) ⊎ (eqb x.label j ≡ false) → (not (eqb x.label j) || was_delivered x) ≡ true
    go x m (inl q) = or_right (not (eqb x.label j)) (was_delivered x) (h x m (eqb-true x.label j q))
    go x m (inr q) = or_left (not (eqb x.label j)) (was_delivered x) (ap not q)

-- whether done of a changed list, by the entries before
done_mapped : (g : Entry → Entry) (es : List Entry) (j : ℕ) → ((x : Entry) → Memᴰ x es → (g x).label ≡ j → was_delivered (g x) ≡ true) → done (map g es) j ≡ true
done_mapped g es j h =
    done_all (map g es) j (λ y m. all_mem (λ y. y.label ≡ j → was_delivered y ≡ true) m (all_map (λ y. y.label ≡ j → was_delivered y ≡ true) g es (all_of_lem (λ x. (g x).label ≡ j → was_delivered (g x) ≡ true) es h)))

pub delivered_waits : (e : Entry) → was_delivered e ≡ true → waits e ≡ false
delivered_waits e h = go (stage_of e) h
  where
    go : (s : Stage) → is_delivered s ≡ true → is_waiting s ≡ false
    go waiting h = absurd (false≢true h)
    go (booked n) h = refl
    go delivered h = refl

-- ---- "an entry past waiting has a predecessor's label on an undelivered entry"
abbrev pub Ordered : List Entry → Type 0
Ordered es = All (λ e. after_predecessors es e ≡ true) es

order : (es : List Entry) (e : Entry) → (waits e ≡ true) ⊎ All (λ j. done es j ≡ true) (predecessors e) → after_predecessors es e ≡ true
unfolding after_predecessors
order es e (inl w) = or_left (waits e) (all_of (done es) (predecessors e)) w
order es e (inr d) = or_right (waits e) (all_of (done es) (predecessors e)) (true_all (done es) (predecessors e) d)

ordered_by : (es : List Entry) (e : Entry) → after_predecessors es e ≡ true → (waits e ≡ true) ⊎ All (λ j. done es j ≡ true) (predecessors e)
unfolding after_predecessors
ordered_by es e h = go (or_case (waits e) (all_of (done es) (predecessors e)) h)
  where
    go : (waits e ≡ true) ⊎ (all_of (done es) (predecessors e) ≡ true) → (waits e ≡ true) ⊎ All (λ j. done es j ≡ true) (predecessors e)
    go (inl w) = inl w
    go (inr d) = inr (all_true (done es) (predecessors e) d)

-- ---- a release
module _ (p : Plan) (fits : plan_fits p ≡ true) (k n : ℕ) (is_ready : ready_label (used p) k ≡ true) where
  abbrev es : List Entry
  es = used p

  -- its label is not done
  not_done : {G : Type 0} → done es k ≡ true → G
  unfolding ready
  not_done d =
      let w = ready_entry p fits k is_ready in
      not_both (and_left (waits w.0) (all_of (done es) (predecessors w.0)) w.3) (delivered_waits w.0 (all_done es k d w.0 w.1 w.2))

  still_done : (j : ℕ) → done es j ≡ true → done (map (released k n) es) j ≡ true
  still_done j d = done_mapped (released k n) es j (λ x m q. go x m (sym (released_label k n x) ∙ q) (by_test (eqb x.label k)))
    where
      go : (x : Entry) → Memᴰ x es → x.label ≡ j → (eqb x.label k ≡ true) ⊎ (eqb x.label k ≡ false) → was_delivered (released k n x) ≡ true
      go x m q (inl h) = not_done (subst (λ (i : ℕ). done es i ≡ true) (sym q ∙ eqb-true x.label k h) d)
      go x m q (inr h) = subst (λ (y : Entry). was_delivered y ≡ true) (sym (released_other k n x (eqb-false x.label k h))) (all_done es j d x m q)

  all_still : (x : Entry) → All (λ j. done es j ≡ true) (predecessors x) → All (λ j. done (map (released k n) es) j ≡ true) (predecessors (released k n x))
  all_still x d =
      subst (All (λ j. done (map (released k n) es) j ≡ true)) (sym (same_predecessors (released k n) (released_plain k n) x))
      (all_imp (λ j. done es j ≡ true) (λ j. done (map (released k n) es) j ≡ true) (predecessors x) still_done d)

  pub released_ordered : Ordered es → Ordered (map (released k n) es)
  unfolding ready
  released_ordered h = all_map (λ e. after_predecessors (map (released k n) es) e ≡ true) (released k n) es (all_of_lem (λ x. after_predecessors (map (released k n) es) (released k n x) ≡ true) es (λ x m. go x m (by_test (eqb x.label k))))
    where
      was : (x : Entry) → x.label ≢ k → (waits x ≡ true) ⊎ All (λ j. done es j ≡ true) (predecessors x) → after_predecessors (map (released k n) es) (released k n x) ≡ true
      was x q (inl w) = order (map (released k n) es) (released k n x) (inl (ap waits (released_other k n x q) ∙ w))
      was x q (inr d) = order (map (released k n) es) (released k n x) (inr (all_still x d))

      go : (x : Entry) → Memᴰ x es → (eqb x.label k ≡ true) ⊎ (eqb x.label k ≡ false) → after_predecessors (map (released k n) es) (released k n x) ≡ true
      go x m (inl q) = order (map (released k n) es) (released k n x) (inr (all_still x (all_true (done es) (predecessors x) (and_right (waits x) _ (all_ready p fits k is_ready x m (eqb-true x.label k q))))))
      go x m (inr q) = was x (eqb-false x.label k q) (ordered_by es x (all_mem (λ e. after_predecessors es e ≡ true) m h))

booked_number_booked : (n : ℕ) (e : Entry) → booked_number (booked_as n e) ≡ n ∷ []
booked_number_booked n e = ap number_in (booked_stage n e)

-- the numbers after a release: the old ones, and the new one
pub released_all : (P : ℕ → Type 0) (k n : ℕ) (es : List Entry) → P n → All P (booked_numbers es) → All P (booked_numbers (map (released k n) es))
unfolding booked_numbers
released_all P k n [] q h = tt
released_all P k n (e ∷ es) q h =
    all_append P (booked_number (released k n e)) (booked_numbers (map (released k n) es)) (go (by_test (eqb e.label k))) (released_all P k n es q (all_right P (booked_number e) (booked_numbers es) h))
  where
    go : (eqb e.label k ≡ true) ⊎ (eqb e.label k ≡ false) → All P (booked_number (released k n e))
    go (inl l) = subst (All P) (sym (ap booked_number (released_there k n e (eqb-true e.label k l)) ∙ booked_number_booked n e)) (q, tt)
    go (inr l) = subst (All P) (sym (ap booked_number (released_other k n e (eqb-false e.label k l)))) (all_left P (booked_number e) (booked_numbers es) h)

pub none_released : (k n : ℕ) (es : List Entry) → All (λ x. x.label ≢ k) es → map (released k n) es ≡ es
none_released k n [] h = refl
none_released k n (e ∷ es) h = (λ i. released_other k n e h.0 i ∷ none_released k n es h.1 i)

pub released_differ : (k n : ℕ) (es : List Entry) → Pairs (λ x y. x.label ≢ y.label) es → All (λ x. x.label ≡ k → booked_number x ≡ []) es → Pairs (λ x y. x ≢ y) (booked_numbers es) → All (λ m. n ≢ m) (booked_numbers es)
    → Pairs (λ x y. x ≢ y) (booked_numbers (map (released k n) es))
unfolding booked_numbers
released_differ k n [] L W D N = tt
released_differ k n (e ∷ es) L W D N = go (by_test (eqb e.label k)) (released_differ k n es L.1 W.1 (pairs_right (λ x y. x ≢ y) (booked_number e) (booked_numbers es) D) (all_right (λ m. n ≢ m) (booked_number e) (booked_numbers es) N))
  where
    go : (eqb e.label k ≡ true) ⊎ (eqb e.label k ≡ false) → Pairs (λ x y. x ≢ y) (booked_numbers (map (released k n) es)) → Pairs (λ x y. x ≢ y) (booked_number (released k n e) ++ booked_numbers (map (released k n) es))
    go (inl l) ih =
        let q = eqb-true e.label k l in
        let others = none_released k n es (all_imp (λ y. e.label ≢ y.label) (λ x. x.label ≢ k) es (λ y d s. d (q ∙ sym s)) L.0) in
        subst (λ (a : List ℕ). Pairs (λ x y. x ≢ y) (a ++ booked_numbers (map (released k n) es))) (sym (ap booked_number (released_there k n e q) ∙ booked_number_booked n e))
        (subst (λ (xs : List Entry). Pairs (λ x y. x ≢ y) (n ∷ booked_numbers xs)) (sym others) (all_right (λ m. n ≢ m) (booked_number e) (booked_numbers es) N, pairs_right (λ x y. x ≢ y) (booked_number e) (booked_numbers es) D))
    go (inr l) ih =
        subst (λ (a : List ℕ). Pairs (λ x y. x ≢ y) (a ++ booked_numbers (map (released k n) es))) (sym (ap booked_number (released_other k n e (eqb-false e.label k l))))
        (pairs_append (λ x y. x ≢ y) (booked_number e) (booked_numbers (map (released k n) es)) (pairs_left (λ x y. x ≢ y) (booked_number e) (booked_numbers es) D) ih
        (all_of_lem (λ x. All (λ y. x ≢ y) (booked_numbers (map (released k n) es))) (booked_number e)
        (λ x m. released_all (λ y. x ≢ y) k n es (λ s. all_mem (λ y. n ≢ y) m (all_left (λ m. n ≢ m) (booked_number e) (booked_numbers es) N) (sym s))
        (all_of_lem (λ y. x ≢ y) (booked_numbers es) (λ y m'. pairs_between (λ x y. x ≢ y) (booked_number e) (booked_numbers es) D m m')))))

-- ---- a report
pub reported_waits : (l : List ℕ) (e : Entry) → waits (reported l e) ≡ waits e
reported_waits l e = ap is_waiting (reported_stage l e) ∙ go (stage_of e)
  where
    go : (s : Stage) → is_waiting (marked l s) ≡ is_waiting s
    go waiting = refl
    go (booked n) = by (any_of (eqb n) l)
      where
        by : (b : Bool) → is_waiting (cond b delivered (booked n)) ≡ false
        by true = refl
        by false = refl
    go delivered = refl

pub reported_delivered : (l : List ℕ) (e : Entry) → was_delivered e ≡ true → was_delivered (reported l e) ≡ true
reported_delivered l e h = ap is_delivered (reported_stage l e) ∙ go (stage_of e) h
  where
    go : (s : Stage) → is_delivered s ≡ true → is_delivered (marked l s) ≡ true
    go waiting h = absurd (false≢true h)
    go (booked n) h = absurd (false≢true h)
    go delivered h = refl

pub reported_ordered : (l : List ℕ) (es : List Entry) → Ordered es → Ordered (map (reported l) es)
reported_ordered l es h =
    all_map (λ e. after_predecessors (map (reported l) es) e ≡ true) (reported l) es
    (all_imp (λ e. after_predecessors es e ≡ true) (λ x. after_predecessors (map (reported l) es) (reported l x) ≡ true) es (λ x i. order (map (reported l) es) (reported l x) (go x (ordered_by es x i))) h)
  where
    still : (j : ℕ) → done es j ≡ true → done (map (reported l) es) j ≡ true
    still j d = done_mapped (reported l) es j (λ x m q. reported_delivered l x (all_done es j d x m (sym (reported_label l x) ∙ q)))

    go : (x : Entry) → (waits x ≡ true) ⊎ All (λ j. done es j ≡ true) (predecessors x) → (waits (reported l x) ≡ true) ⊎ All (λ j. done (map (reported l) es) j ≡ true) (predecessors (reported l x))
    go x (inl w) = inl (reported_waits l x ∙ w)
    go x (inr d) = inr (subst (All (λ j. done (map (reported l) es) j ≡ true)) (sym (same_predecessors (reported l) (reported_plain l) x)) (all_imp (λ j. done es j ≡ true) (λ j. done (map (reported l) es) j ≡ true) (predecessors x) still d))

-- an entry's number stays or goes
pub fewer : (l : List ℕ) (e : Entry) → (booked_number (reported l e) ≡ []) ⊎ (booked_number (reported l e) ≡ booked_number e)
fewer l e = subst (λ (s : Stage). (number_in s ≡ []) ⊎ (number_in s ≡ booked_number e)) (sym (reported_stage l e)) (go (stage_of e))
  where
    go : (s : Stage) → (number_in (marked l s) ≡ []) ⊎ (number_in (marked l s) ≡ number_in s)
    go waiting = inl refl
    go (booked n) = by (any_of (eqb n) l)
      where
        by : (b : Bool) → (number_in (cond b delivered (booked n)) ≡ []) ⊎ (number_in (cond b delivered (booked n)) ≡ n ∷ [])
        by true = inl refl
        by false = inr refl
    go delivered = inl refl

pub reported_all_lem : (P : ℕ → Type 0) (l : List ℕ) (es : List Entry) → All P (booked_numbers es) → All P (booked_numbers (map (reported l) es))
unfolding booked_numbers
reported_all_lem P l [] h = tt
reported_all_lem P l (e ∷ es) h = all_append P (booked_number (reported l e)) (booked_numbers (map (reported l) es)) (go (fewer l e)) (reported_all_lem P l es (all_right P (booked_number e) (booked_numbers es) h))
  where
    go : (booked_number (reported l e) ≡ []) ⊎ (booked_number (reported l e) ≡ booked_number e) → All P (booked_number (reported l e))
    go (inl q) = subst (All P) (sym q) tt
    go (inr q) = subst (All P) (sym q) (all_left P (booked_number e) (booked_numbers es) h)

pub reported_differ : (l : List ℕ) (es : List Entry) → Pairs (λ x y. x ≢ y) (booked_numbers es) → Pairs (λ x y. x ≢ y) (booked_numbers (map (reported l) es))
unfolding booked_numbers
reported_differ l [] h = tt
reported_differ l (e ∷ es) h = go (fewer l e) (reported_differ l es (pairs_right (λ x y. x ≢ y) (booked_number e) (booked_numbers es) h))
  where
    go : (booked_number (reported l e) ≡ []) ⊎ (booked_number (reported l e) ≡ booked_number e) → Pairs (λ x y. x ≢ y) (booked_numbers (map (reported l) es)) → Pairs (λ x y. x ≢ y) (booked_number (reported l e) ++ booked_numbers (map (reported l) es))
    go (inl q) ih = subst (λ (a : List ℕ). Pairs (λ x y. x ≢ y) (a ++ booked_numbers (map (reported l) es))) (sym q) ih
    go (inr q) ih =
        subst (λ (a : List ℕ). Pairs (λ x y. x ≢ y) (a ++ booked_numbers (map (reported l) es))) (sym q)
        (pairs_append (λ x y. x ≢ y) (booked_number e) (booked_numbers (map (reported l) es)) (pairs_left (λ x y. x ≢ y) (booked_number e) (booked_numbers es) h) ih
        (all_of_lem (λ x. All (λ y. x ≢ y) (booked_numbers (map (reported l) es))) (booked_number e) (λ x m. reported_all_lem (λ y. x ≢ y) l es (all_of_lem (λ y. x ≢ y) (booked_numbers es) (λ y m'. pairs_between (λ x y. x ≢ y) (booked_number e) (booked_numbers es) h m m')))))
