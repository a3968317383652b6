-- What an entry's byte says, and what a release and a report change of an entry.
use mathlib.Core.Path.{◌≡◌, refl, sym, ap, ◌∙◌, subst}
use mathlib.Core.Logic.{◌⊎◌, inl, inr, ◌≢◌}
use mathlib.Core.Bool.{Bool, true, false, cond, ◌||◌, true≢false, false≢true}
use mathlib.Core.List.{List, [], ◌∷◌, ◌++◌, map, nil≢cons}
use Prim.Native.Nat.{ℕ, zero, suc}
use lib.Dec.{eqb}
use lib.ListN.{take, drop}
use borrow.Author.Tests.{eqb-true, eqb-false, eq-eqb, ne_eqb}
use Rattle.laws.specs.Define.{any_of}
use Rattle.laws.specs.Every.{All}
use Rattle.laws.proofs.Tests.{by_test}
use Rattle.laws.proofs.Lists.{all_imp, all_map}
use Rattle.plan.specs.declared.Entry.{Entry}
use Rattle.plan.specs.declared.Plan.{Plan}
use Rattle.plan.specs.Entries.{Stage, waiting, booked, delivered, stage_of, is_waiting, is_delivered, number_in, waits, was_delivered, booked_number, used, booked_numbers, changed, booked_as, delivered_as, released, reported}

-- ---- the byte
two_one : (n : ℕ) → eqb n 0 ≡ true → eqb n 2 ≡ false
two_one n h = rw (eqb-true n 0 h)

pub waits_byte : (e : Entry) → waits e ≡ eqb e.stage 0
unfolding stage_of
waits_byte e = go (eqb e.stage 0) (eqb e.stage 2)
  where
    go : (a b : Bool) → is_waiting (cond a waiting (cond b delivered (booked e.number))) ≡ a
    go true b = refl
    go false true = refl
    go false false = refl

pub delivered_byte : (e : Entry) → was_delivered e ≡ eqb e.stage 2
unfolding stage_of
delivered_byte e = go (eqb e.stage 0) refl (eqb e.stage 2) refl
  where
    go : (a : Bool) → eqb e.stage 0 ≡ a → (b : Bool) → eqb e.stage 2 ≡ b → is_delivered (cond a waiting (cond b delivered (booked e.number))) ≡ b
    go true p true q = absurd (true≢false (sym q ∙ two_one e.stage p))
    go true p false q = refl
    go false p true q = refl
    go false p false q = refl

pub booked_number_byte : (e : Entry) → booked_number e ≡ cond (eqb e.stage 0 || eqb e.stage 2) [] (e.number ∷ [])
unfolding stage_of
booked_number_byte e = go (eqb e.stage 0) (eqb e.stage 2)
  where
    go : (a b : Bool) → number_in (cond a waiting (cond b delivered (booked e.number))) ≡ cond (a || b) [] (e.number ∷ [])
    go true b = refl
    go false true = refl
    go false false = refl

-- ---- a stage
-- what does not wait and holds no number is delivered
pub neither : (e : Entry) → waits e ≡ false → booked_number e ≡ [] → was_delivered e ≡ true
neither e a b = go (stage_of e) a b
  where
    go : (s : Stage) → is_waiting s ≡ false → number_in s ≡ [] → is_delivered s ≡ true
    go waiting a b = absurd (true≢false a)
    go (booked n) a b = absurd (nil≢cons (sym b))
    go delivered a b = refl

pub booked_number_lem : (e : Entry) (n : ℕ) → stage_of e ≡ booked n → e.number ≡ n
unfolding stage_of
booked_number_lem e n h = go (eqb e.stage 0) (eqb e.stage 2) h
  where
    number : Stage → ℕ
    number waiting = n
    number (booked m) = m
    number delivered = n

    go : (a b : Bool) → cond a waiting (cond b delivered (booked e.number)) ≡ booked n → e.number ≡ n
    go true b h = absurd (true≢false (ap is_waiting h))
    go false true h = absurd (true≢false (ap is_delivered h))
    go false false h = ap number h

-- "A round's report marks delivered exactly the booked labels whose numbers it lists"
abbrev pub marked : List ℕ → Stage → Stage
marked l waiting = waiting
marked l (booked n) = cond (any_of (eqb n) l) delivered (booked n)
marked l delivered = delivered

pub booked_stage : (n : ℕ) (e : Entry) → stage_of (booked_as n e) ≡ booked n
unfolding stage_of
booked_stage n e = refl

pub delivered_stage : (e : Entry) → stage_of (delivered_as e) ≡ delivered
unfolding stage_of
delivered_stage e = refl

pub reported_stage : (l : List ℕ) (e : Entry) → stage_of (reported l e) ≡ marked l (stage_of e)
unfolding reported any_of
reported_stage l e = go (stage_of e) refl
  where
    go : (s : Stage) → stage_of e ≡ s → stage_of (cond (any_of (λ n. any_of (eqb n) l) (number_in s)) (delivered_as e) e) ≡ marked l s
    go waiting h = h
    go delivered h = h
    go (booked n) h = by (any_of (eqb n) l)
      where
        by : (b : Bool) → stage_of (cond (b || false) (delivered_as e) e) ≡ cond b delivered (booked n)
        by true = delivered_stage e
        by false = h

-- ---- what a release and a report leave of an entry: all that booking and delivering leave
pub released_same : {A : Type 0} (get : Entry → A) (k n : ℕ) → ((e : Entry) → get (booked_as n e) ≡ get e) → (e : Entry) → get (released k n e) ≡ get e
unfolding released
released_same get k n h e = go (eqb e.label k)
  where
    go : (b : Bool) → get (cond b (booked_as n e) e) ≡ get e
    go true = h e
    go false = refl

pub reported_same : {A : Type 0} (get : Entry → A) (l : List ℕ) → ((e : Entry) → get (delivered_as e) ≡ get e) → (e : Entry) → get (reported l e) ≡ get e
unfolding reported
reported_same get l h e = go (any_of (λ n. any_of (eqb n) l) (booked_number e))
  where
    go : (b : Bool) → get (cond b (delivered_as e) e) ≡ get e
    go true = h e
    go false = refl

pub released_label : (k n : ℕ) (e : Entry) → (released k n e).label ≡ e.label
released_label k n = released_same (λ e. e.label) k n (λ e. refl)

pub reported_label : (l : List ℕ) (e : Entry) → (reported l e).label ≡ e.label
reported_label l = reported_same (λ e. e.label) l (λ e. refl)

-- a release of label k, and of another one
pub released_there : (k n : ℕ) (e : Entry) → e.label ≡ k → released k n e ≡ booked_as n e
unfolding released
released_there k n e q = rw (eq-eqb e.label k q)

pub released_other : (k n : ℕ) (e : Entry) → e.label ≢ k → released k n e ≡ e
unfolding released
released_other k n e q = rw (ne_eqb e.label k q)

-- what is said of label k stays where another label is released
pub other_label : (P : Entry → Type 0) (k j n : ℕ) → k ≢ j → (e : Entry) → (e.label ≡ k → P e) → (released j n e).label ≡ k → P (released j n e)
other_label P k j n d e h = go (by_test (eqb e.label j))
  where
    go : (eqb e.label j ≡ true) ⊎ (eqb e.label j ≡ false) → (released j n e).label ≡ k → P (released j n e)
    go (inl q) = λ l. absurd (d (sym l ∙ released_label j n e ∙ eqb-true e.label j q))
    go (inr q) = subst (λ (x : Entry). x.label ≡ k → P x) (sym (released_other j n e (eqb-false e.label j q))) h

-- ---- the used entries of a changed plan
take_changed : {A : Type 0} (n : ℕ) (g : A → A) (l : List A) → take n (map g (take n l) ++ drop n l) ≡ map g (take n l)
take_changed zero g l = refl
take_changed (suc n) g [] = refl
take_changed (suc n) g (x ∷ l) = ap (λ z. g x ∷ z) (take_changed n g l)

pub used_changed : (p : Plan) (g : Entry → Entry) → used (changed p g) ≡ map g (used p)
used_changed p g = take_changed p.count g p.entries

-- what holds of every used entry
pub changed_all : (P Q : Entry → Type 0) (p : Plan) (g : Entry → Entry) → ((e : Entry) → P e → Q (g e)) → All P (used p) → All Q (used (changed p g))
changed_all P Q p g f h = subst (All Q) (sym (used_changed p g)) (all_map Q g (used p) (all_imp P (λ e. Q (g e)) (used p) f h))

-- ---- no booked entry
pub waiting_booked_number : (e : Entry) → waits e ≡ true → booked_number e ≡ []
waiting_booked_number e h = go (stage_of e) h
  where
    go : (s : Stage) → is_waiting s ≡ true → number_in s ≡ []
    go waiting h = refl
    go (booked n) h = absurd (false≢true h)
    go delivered h = refl

pub none_booked_number : (es : List Entry) → All (λ e. booked_number e ≡ []) es → booked_numbers es ≡ []
unfolding booked_numbers
none_booked_number [] h = refl
none_booked_number (e ∷ es) h = (λ i. h.0 i ++ none_booked_number es h.1 i)
