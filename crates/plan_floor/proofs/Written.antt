-- What the crew wrote of a plan stays, over every list of calls: `same_written`. The statement is specs/Promises.
use mathlib.Core.Path.{◌≡◌, refl, ap, ◌∙◌}
use mathlib.Core.Bool.{Bool, true, false, cond}
use mathlib.Core.List.{List, [], ◌∷◌, ◌++◌, map}
use Prim.Native.Nat.{ℕ, zero, suc}
use lib.Dec.{ltb, eqb}
use lib.ListN.{take, drop}
use Rattle.laws.specs.Define.{filter, refusal}
use Rattle.plan.specs.declared.Entry.{Entry}
use Rattle.plan.specs.declared.Plan.{Plan}
use Rattle.plan.specs.Entries.{used, predecessors, changed, released, reported}
use Rattle.plan.specs.Plans.{number_after, release_answer, numbers_in, report_tests, report_answer}
use Rattle.plan_floor.specs.Steps.{PlanCall, plan_offer, plan_release, plan_report, plan_given, plan_after, predecessors_of}
use Rattle.plan_floor.specs.Promises.{as_written, WrittenPromise}
use Rattle.plan.proofs.Stages.{released_same, reported_same, used_changed}

-- ---- what a change leaves of an entry
pub record Plain (g : Entry → Entry) : Type 0 where
  pub label : (e : Entry) → (g e).label ≡ e.label
  pub tile : (e : Entry) → (g e).tile ≡ e.tile
  pub first : (e : Entry) → (g e).first ≡ e.first
  pub second : (e : Entry) → (g e).second ≡ e.second

pub released_plain : (k n : ℕ) → Plain (released k n)
released_plain k n = record {
  label = released_same (λ e. e.label) k n (λ e. refl);
  tile = released_same (λ e. e.tile) k n (λ e. refl);
  first = released_same (λ e. e.first) k n (λ e. refl);
  second = released_same (λ e. e.second) k n (λ e. refl);
}

pub reported_plain : (l : List ℕ) → Plain (reported l)
reported_plain l = record {
  label = reported_same (λ e. e.label) l (λ e. refl);
  tile = reported_same (λ e. e.tile) l (λ e. refl);
  first = reported_same (λ e. e.first) l (λ e. refl);
  second = reported_same (λ e. e.second) l (λ e. refl);
}

-- ---- what such changes leave of a plan, a list of its calls leaves
module _ {A : Type 0} (get : Plan → A) (same : (p : Plan) (g : Entry → Entry) → Plain g → get (changed p g) ≡ get p) where
  call_same : (p : Plan) (c : PlanCall) → get (plan_given p c) ≡ get p
  unfolding plan_given release_answer report_answer
  call_same p plan_offer = refl
  call_same p (plan_release f k) = go (eqb (release_answer p f k).refusal 0)
    where
      go : (b : Bool) → get (cond b (changed p (released k (number_after f))) p) ≡ get p
      go true = same p (released k (number_after f)) (released_plain k (number_after f))
      go false = refl
  call_same p (plan_report r) = go (eqb (refusal (report_tests p r)) 0)
    where
      go : (b : Bool) → get (cond b (changed p (reported (numbers_in r))) p) ≡ get p
      go true = same p (reported (numbers_in r)) (reported_plain (numbers_in r))
      go false = refl

  pub list_same : (p : Plan) (cs : List PlanCall) → get (plan_after p cs) ≡ get p
  unfolding plan_after
  list_same p [] = refl
  list_same p (c ∷ cs) = list_same (plan_given p c) cs ∙ call_same p c

-- ---- the entries
map_same : {A B : Type 0} (f : A → B) (g : A → A) → ((x : A) → f (g x) ≡ f x) → (l : List A) → map f (map g l) ≡ map f l
map_same f g h [] = refl
map_same f g h (x ∷ l) = (λ i. h x i ∷ map_same f g h l i)

same_used : (p : Plan) (g : Entry → Entry) → Plain g → map as_written (used (changed p g)) ≡ map as_written (used p)
unfolding as_written
same_used p g P = ap (map as_written) (used_changed p g) ∙ map_same as_written g (λ e i. P.label e i ∷ P.tile e i ∷ P.first e i ∷ P.second e i ∷ []) (used p)

drop_changed : {A : Type 0} (n : ℕ) (g : A → A) (l : List A) → drop n (map g (take n l) ++ drop n l) ≡ drop n l
drop_changed zero g l = refl
drop_changed (suc n) g [] = refl
drop_changed (suc n) g (x ∷ l) = drop_changed n g l

pub same_written : WrittenPromise
same_written p cs = record {
  same_count = list_same (λ p. p.count) (λ p g P. refl) p cs;
  same_used = list_same (λ p. map as_written (used p)) same_used p cs;
  same_past = list_same (λ p. drop p.count p.entries) (λ p g P. drop_changed p.count g p.entries) p cs;
}

-- ---- the predecessors
module _ (g : Entry → Entry) (P : Plain g) where
  pub same_predecessors : (e : Entry) → predecessors (g e) ≡ predecessors e
  unfolding predecessors
  same_predecessors e = (λ i. filter (λ k. ltb 0 k) (P.first e i ∷ P.second e i ∷ []))

  same_of : (k : ℕ) (es : List Entry) → predecessors_of (map g es) k ≡ predecessors_of es k
  unfolding predecessors_of
  same_of k [] = refl
  same_of k (e ∷ es) = (λ i. cond (eqb (P.label e i) k) (same_predecessors e i) [] ++ same_of k es i)

pub list_predecessors : (p : Plan) (cs : List PlanCall) (k : ℕ) → predecessors_of (used (plan_after p cs)) k ≡ predecessors_of (used p) k
list_predecessors p cs k = list_same (λ p. predecessors_of (used p) k) (λ p g P. ap (λ (es : List Entry). predecessors_of es k) (used_changed p g) ∙ same_of g P k (used p)) p cs
