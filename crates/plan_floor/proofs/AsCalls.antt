-- A list of calls on a plan and a floor as a list of demand 3: `as_calls`. The statement is specs/Promises.
use mathlib.Core.Path.{◌≡◌, refl, ap, ◌∙◌, subst}
use mathlib.Core.Bool.{Bool, true, false, cond}
use mathlib.Core.List.{List, [], ◌∷◌, ◌++◌, append-nil}
use Prim.Native.Nat.{ℕ, ◌+◌, ◌^◌, ◌≤◌, ◌<◌}
use lib.Dec.{ltb, eqb}
use borrow.Author.Tests.{ltb-true}
use Rattle.laws.specs.Define.{refusal}
use Rattle.laws.specs.Every.{All}
use Rattle.laws.proofs.Lists.{all_append}
use Rattle.floor.specs.declared.Floor.{Floor}
use Rattle.floor.specs.declared.Placed.{Placed}
use Rattle.floor.specs.Memory.{view, pack}
use Rattle.floor.specs.Well.{well_formed}
use Rattle.floor.specs.Calls.{refusal_of, answer, booked}
use Rattle.floor.specs.Anywhere.{anywhere_tests, placed_at, anywhere_answer}
use Rattle.floor.specs.Demand3.{Call, anywhere, InRange, outcome, floor_after, booked_in, reported_in}
use Rattle.floor.proofs.Pack.{well_sound}
use Rattle.floor.proofs.Lists.{after_both, booked_both, reported_both, list_keeps}
use Rattle.floor.proofs.Theorem.{demand3}
use Rattle.plan.specs.declared.Plan.{Plan}
use Rattle.plan.specs.Entries.{used}
use Rattle.plan.specs.Plans.{release_tests, number_after, tile_for, release_booking, release_answer}
use Rattle.plan_floor.specs.Steps.{Step, call, offer, release, report, State, stepped, state_after, StepInRange, calls_of, calls_in, booked_of, booked_by, reported_of, reported_by}
use Rattle.plan_floor.specs.Promises.{CallsPromise}

-- ---- a release
-- a refused booking gives the floor back
booking_kept : (f : Floor) (t n : ℕ) → (anywhere_answer f t n).floor ≡ cond (eqb (anywhere_answer f t n).refusal 0) (anywhere_answer f t n).floor f
unfolding anywhere_answer answer
booking_kept f t n = go (eqb (refusal_of f (anywhere_tests (view f) t n)) 0)
  where
    go : (b : Bool) → cond b (pack (booked (view f) t (placed_at (view f) t n))) f ≡ cond b (cond b (pack (booked (view f) t (placed_at (view f) t n))) f) f
    go true = refl
    go false = refl

-- the step and the calls that it stands for
pub record Same (s : State) (c : Step) : Type 0 where
  pub floor : floor_after s.floor (calls_of s c) ≡ (stepped s c).floor
  pub booked : booked_in s.floor (calls_of s c) ≡ booked_of s c
  pub reported : (k : ℕ) → reported_in s.floor (calls_of s c) k ≡ reported_of s c k

module _ (p : Plan) (f : Floor) (k : ℕ) where
  abbrev own : ℕ
  own = refusal (release_tests p f k)

  abbrev there : Call
  there = anywhere (tile_for (used p) k) (number_after f)

  abbrev r : Placed
  r = release_booking p f k

  -- by whether its own tests passed
  release_floor : (b : Bool) → eqb own 0 ≡ b → floor_after f (cond b (there ∷ []) []) ≡ cond (eqb (cond b r.refusal own) 0) r.floor f
  unfolding floor_after outcome release_booking
  release_floor true e = booking_kept f (tile_for (used p) k) (number_after f)
  release_floor false e = rw e

  release_booked : (b : Bool) → eqb own 0 ≡ b → booked_in f (cond b (there ∷ []) []) ≡ cond (eqb (cond b r.refusal own) 0) (cond (eqb (cond b r.refusal own) 0) (number_after f) 0 ∷ []) []
  unfolding booked_in outcome release_booking
  release_booked true e = go (eqb r.refusal 0)
    where
      go : (b : Bool) → cond b (number_after f ∷ []) [] ++ [] ≡ cond b (cond b (number_after f) 0 ∷ []) []
      go true = refl
      go false = refl
  release_booked false e = rw e

  release_reported : (b : Bool) (j : ℕ) → reported_in f (cond b (there ∷ []) []) j ≡ []
  unfolding reported_in outcome
  release_reported true j = refl
  release_reported false j = refl

pub same_step : (s : State) (c : Step) → Same s c
unfolding calls_of stepped booked_of reported_of release_answer floor_after booked_in reported_in
same_step s (call c) = record { floor = refl; booked = append-nil (outcome s.floor c).booked; reported = λ k. append-nil ((outcome s.floor c).reported k) }
same_step s offer = record { floor = refl; booked = refl; reported = λ k. refl }
same_step s (release k) = record {
  floor = release_floor s.plan s.floor k (eqb (own s.plan s.floor k) 0) refl;
  booked = release_booked s.plan s.floor k (eqb (own s.plan s.floor k) 0) refl;
  reported = release_reported s.plan s.floor k (eqb (own s.plan s.floor k) 0);
}
same_step s (report r) = record { floor = refl; booked = refl; reported = λ k. refl }

-- ---- lists
same_floor : (s : State) (cs : List Step) → floor_after s.floor (calls_in s cs) ≡ (state_after s cs).floor
unfolding floor_after calls_in state_after
same_floor s [] = refl
same_floor s (c ∷ cs) =
    after_both s.floor (calls_of s c) (calls_in (stepped s c) cs) ∙ ap (λ (f : Floor). floor_after f (calls_in (stepped s c) cs)) (same_step s c).floor ∙ same_floor (stepped s c) cs

same_booked : (s : State) (cs : List Step) → booked_in s.floor (calls_in s cs) ≡ booked_by s cs
unfolding booked_in calls_in booked_by
same_booked s [] = refl
same_booked s (c ∷ cs) =
    let S = same_step s c in
    booked_both s.floor (calls_of s c) (calls_in (stepped s c) cs)
    ∙ ap (λ (l : List ℕ). l ++ booked_in (floor_after s.floor (calls_of s c)) (calls_in (stepped s c) cs)) S.booked
    ∙ ap (λ (f : Floor). booked_of s c ++ booked_in f (calls_in (stepped s c) cs)) S.floor
    ∙ ap (λ (l : List ℕ). booked_of s c ++ l) (same_booked (stepped s c) cs)

same_reported : (s : State) (cs : List Step) (k : ℕ) → reported_in s.floor (calls_in s cs) k ≡ reported_by s cs k
unfolding reported_in calls_in reported_by
same_reported s [] k = refl
same_reported s (c ∷ cs) k =
    let S = same_step s c in
    reported_both s.floor (calls_of s c) (calls_in (stepped s c) cs) k
    ∙ ap (λ (l : List ℕ). l ++ reported_in (floor_after s.floor (calls_of s c)) (calls_in (stepped s c) cs) k) (S.reported k)
    ∙ ap (λ (f : Floor). reported_of s c k ++ reported_in f (calls_in (stepped s c) cs) k) S.floor
    ∙ ap (λ (l : List ℕ). reported_of s c k ++ l) (same_reported (stepped s c) cs k)

-- ---- widths
number_after_fits : (f : Floor) → well_formed f ≡ true → number_after f < 2 ^ 32
unfolding number_after view
number_after_fits f w = go (ltb (f.counters.last + 1) (2 ^ 32)) refl
  where
    go : (b : Bool) → ltb (f.counters.last + 1) (2 ^ 32) ≡ b → cond b (f.counters.last + 1) f.counters.last < 2 ^ 32
    go true e = ltb-true (f.counters.last + 1) (2 ^ 32) e
    go false e = (well_sound f w).last_fits

in_range_step : (s : State) (c : Step) → well_formed s.floor ≡ true → StepInRange c → All InRange (calls_of s c)
unfolding calls_of
in_range_step s (call c) w t = (t, tt)
in_range_step s offer w t = tt
in_range_step s (release k) w t = go (eqb (refusal (release_tests s.plan s.floor k)) 0)
  where
    go : (b : Bool) → All InRange (cond b (anywhere (tile_for (used s.plan) k) (number_after s.floor) ∷ []) [])
    go true = (number_after_fits s.floor w, tt)
    go false = tt
in_range_step s (report r) w t = tt

-- a step leaves the floor well formed, the last number doesn't fall, and what is booked is above the old last number and up to the new one
pub record StepKeeps (s : State) (c : Step) : Type 0 where
  pub well : well_formed (stepped s c).floor ≡ true
  pub rises : s.floor.counters.last ≤ (stepped s c).floor.counters.last
  pub above : All (λ n. s.floor.counters.last < n) (booked_of s c)
  pub upto : All (λ n. n ≤ (stepped s c).floor.counters.last) (booked_of s c)

pub step_keeps : (s : State) (c : Step) → well_formed s.floor ≡ true → StepInRange c → StepKeeps s c
unfolding view
step_keeps s c w t =
    let last = s.floor.counters.last in
    let K = list_keeps s.floor w (calls_of s c) (in_range_step s c w t) in
    let S = same_step s c in
    record {
      well = subst (λ (g : Floor). well_formed g ≡ true) S.floor K.0;
      rises = subst (λ (g : Floor). last ≤ g.counters.last) S.floor K.1.rises;
      above = subst (All (λ n. last < n)) S.booked K.1.above;
      upto = subst (λ (g : Floor). All (λ n. n ≤ g.counters.last) (booked_of s c)) S.floor (subst (All (λ n. n ≤ (floor_after s.floor (calls_of s c)).counters.last)) S.booked K.1.upto);
    }

pub in_range_list : (s : State) (cs : List Step) → well_formed s.floor ≡ true → All StepInRange cs → All InRange (calls_in s cs)
unfolding calls_in
in_range_list s [] w t = tt
in_range_list s (c ∷ cs) w t = all_append InRange (calls_of s c) (calls_in (stepped s c) cs) (in_range_step s c w t.0) (in_range_list (stepped s c) cs (step_keeps s c w t.0).well t.1)

pub as_calls : CallsPromise
as_calls s cs = record {
  same_floor = same_floor s cs;
  same_booked = same_booked s cs;
  same_reported = same_reported s cs;
  promises = λ w t. demand3 s.floor w (calls_in s cs) (in_range_list s cs w t);
}
