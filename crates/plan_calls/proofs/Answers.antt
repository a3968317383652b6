-- The answers of a plan's calls, branch by branch: the tests so far are passed, this one is not.
use mathlib.Core.Path.{◌≡◌, refl, sym, ap, ◌∙◌}
use mathlib.Core.Logic.{◌≢◌}
use mathlib.Core.Bool.{Bool, true, false, cond, not, ◌&&◌, ◌||◌, false≢true}
use mathlib.Core.List.{List}
use Prim.Native.Nat.{ℕ, ◌+◌, ◌^◌, ◌≤◌, ◌<◌}
use native.Mathlib.Omega.{arith}
use lib.Dec.{leb, ltb, eqb}
use Rattle.std.proofs.Common.{min}
use Rattle.std.proofs.lemmas.Bool.Decides.{nat_tests}
use borrow.Author.Tests.{ne_eqb, leb-true, not-false}
use Rattle.laws.specs.Define.{all_of, any_of, refusal}
use Rattle.laws.proofs.Tests.{and_left, or_off_left, or_off_right, refusal_none}
use Rattle.floor.specs.declared.Floor.{Floor}
use Rattle.floor.specs.declared.Report.{Report}
use Rattle.floor.specs.declared.Placed.{Placed}
use Rattle.floor.specs.Well.{well_formed}
use Rattle.floor.specs.Anywhere.{anywhere_answer}
use Rattle.std.specs.Prelude.{Option, Some, None, IfSome, IfOk, is_some}
use Rattle.std.specs.Option.{ok_or}
use Rattle.std.proofs.lemmas.List.{length-take}
use lib.ListN.{length}
use Rattle.floor.specs.Numbers.{refusal_number, answered}
use Rattle.floor.specs.declared.refusal.Refusal.{Refusal}
use Rattle.floor.specs.declared.refusal.Refusal.TheVariants as R
use Rattle.plan.specs.declared.Entry.{Entry}
use Rattle.plan_calls.specs.InternalAnswers.{refused_as}
use Rattle.plan.specs.declared.Plan.{Plan}
use Rattle.plan.specs.declared.Offered.{Offered}
use Rattle.plan.specs.declared.Planned.{Planned}
use Rattle.plan.specs.declared.Released.{Released}
use Rattle.plan.specs.Entries.{used, booked_numbers, plan_sound, numbers_upto, plan_fits, ready_label, changed, released, reported}
use Rattle.plan.specs.Plans.{offer_tests, offered, offer_answer, release_tests, number_after, tile_for, release_booking, release_answer, numbers_in, report_tests, report_answer}
use Rattle.floor.proofs.Refusing.{refusing}

pub sound_few : (p : Plan) → plan_sound p ≡ true → p.count ≤ 64
unfolding plan_sound
sound_few p h = leb-true p.count 64 (and_left (leb p.count 64) _ h)

pub few_sound : (p : Plan) → true ≡ plan_sound p → p.count ≤ 64
few_sound p h = sound_few p (sym h)

pub few_used : (p : Plan) (es : List Entry) → es ≡ used p → true ≡ plan_sound p → length es ≤ 64
few_used p es e h = rw e (omega (arith, length-take p.count p.entries, sound_few p (sym h)))

-- ---- offer
module _ (p : Plan) where
  pub offer_unsound : false ≡ plan_sound p → ◌≡◌ {A = Offered} (record { label = 0; refusal = 30 }) (offer_answer p)
  unfolding offer_answer offer_tests refusal
  offer_unsound h = rw (sym h)

  pub offer_misfit : true ≡ plan_sound p → false ≡ plan_fits p → ◌≡◌ {A = Offered} (record { label = 0; refusal = 47 }) (offer_answer p)
  unfolding offer_answer offer_tests refusal
  offer_misfit s h = rw (sym s, sym h)

  pub offer_made : {n : ℕ} → true ≡ plan_sound p → true ≡ plan_fits p → n ≡ offered p → ◌≡◌ {A = Offered} (record { label = n; refusal = 0 }) (offer_answer p)
  unfolding offer_answer offer_tests refusal
  offer_made s h q = rw (sym s, sym h, q)

-- ---- release: its own tests
module _ (p : Plan) (f : Floor) (k : ℕ) where
  pub release_unsound : false ≡ plan_sound p → 30 ≡ refusal (release_tests p f k)
  unfolding release_tests refusal
  release_unsound h = rw (sym h)

  module _ (s : true ≡ plan_sound p) where
    pub release_malformed : false ≡ well_formed f → 30 ≡ refusal (release_tests p f k)
    unfolding release_tests refusal
    release_malformed h = rw (sym s, sym h)

    module _ (w : true ≡ well_formed f) (es : List Entry) (ee : es ≡ used p) (l : List ℕ) (el : l ≡ booked_numbers es) where
      upto : {u : Bool} → u ≡ all_of (λ x. ltb 0 x && leb x f.counters.last) l → numbers_upto f.counters.last p ≡ u
      unfolding numbers_upto
      upto q = rw (sym ee, sym el, q)

      pub release_out_of_range : false ≡ all_of (λ x. ltb 0 x && leb x f.counters.last) l → 30 ≡ refusal (release_tests p f k)
      unfolding release_tests refusal
      release_out_of_range h = rw (sym s, sym w, upto h)

      module _ (u : true ≡ all_of (λ x. ltb 0 x && leb x f.counters.last) l) where
        pub release_misfit : false ≡ plan_fits p → 47 ≡ refusal (release_tests p f k)
        unfolding release_tests refusal
        release_misfit h = rw (sym s, sym w, upto u, sym h)

        pub release_ready : true ≡ plan_fits p → (r : Option ℕ) → is_some r ≡ ready_label es k → answered (ok_or r R.NotReleased) ≡ refusal (release_tests p f k)
        unfolding release_tests refusal
        release_ready h None q = rw (sym s, sym w, upto u, sym h, sym ee, sym q)
        release_ready h (Some t) q = rw (sym s, sym w, upto u, sym h, sym ee, sym q)

pub ready_tile : (p : Plan) (k : ℕ) (es : List Entry) → es ≡ used p → (r : Option ℕ) → IfSome r (λ t. t ≡ tile_for es k) → IfOk (ok_or r R.NotReleased) (λ t. t ≡ tile_for (used p) k)
ready_tile p k es e None h = h
ready_tile p k es e (Some t) h = h ∙ ap (λ (l : List Entry). tile_for l k) e

-- the three ways out, by what its own tests and its booking told
module _ (p : Plan) (f : Floor) (k : ℕ) where
  pub release_refused : (why : Refusal) → refusal_number why ≡ refusal (release_tests p f k) → ◌≡◌ {A = Released} (refused_as p f (refusal_number why)) (release_answer p f k)
  unfolding release_answer
  release_refused why e = rw (sym e, ne_eqb (refusal_number why) 0 (refusing why), ne_eqb (refusal_number why) 0 (refusing why))

  module _ (e : 0 ≡ refusal (release_tests p f k)) where
    -- what its booking may rely on
    passed : (plan_sound p ≡ true) × (well_formed f ≡ true)
    unfolding release_tests
    passed =
        let a = refusal_none (release_tests p f k) (omega arith) (sym e) in
        (not-false (plan_sound p) a.0, not-false (well_formed f) a.1.0)

    pub release_few : p.count ≤ 64
    release_few = sound_few p passed.0

    pub release_well : true ≡ well_formed f
    release_well = sym passed.1

    module _ (t : ℕ) (et : t ≡ tile_for (used p) k) (m : ℕ) (em : m ≡ number_after f) (r : Placed) (er : r ≡ anywhere_answer f t m) where
      booking : release_booking p f k ≡ r
      unfolding release_booking
      booking = rw (er, et, em)

      pub release_unbooked : r.refusal ≢ 0 → ◌≡◌ {A = Released} (refused_as p f r.refusal) (release_answer p f k)
      unfolding release_answer
      release_unbooked o = rw (sym e, booking, ne_eqb r.refusal 0 o)

      pub release_booked : (q : Plan) → r.refusal ≡ 0 → q ≡ changed p (released k m)
          → ◌≡◌ {A = Released} (record { floor = r.floor; plan = q; number = m; a = r.a; b = r.b; refusal = 0 }) (release_answer p f k)
      unfolding release_answer
      release_booked q o c = rw (sym e, booking, o, c, em)

pub number_next : (f : Floor) → f.counters.last < 2 ^ 32 → (r : ℕ) → r ≡ min (f.counters.last + 1) 4294967295 → r ≡ number_after f
unfolding number_after
number_next f h r e = grind (arith, nat_tests)

-- ---- report
module _ (p : Plan) (r : Report) where
  abbrev over : Bool
  over = any_of (λ d. ltb 4 d.count) r.deliveries

  module _ (good : Bool) (es : good ≡ plan_sound p) (a : Bool) (e : a ≡ over) where
    pub report_unsound : (not good || a) ≡ true → ◌≡◌ {A = Planned} (record { plan = p; refusal = 30 }) (report_answer p r)
    unfolding report_answer report_tests refusal
    report_unsound h = go (not (plan_sound p)) over (rw (sym e, sym es) h)
      where
        go : (x y : Bool) → (x || y) ≡ true
            → ◌≡◌ {A = Planned} (record { plan = p; refusal = 30 }) (let n = cond x 30 (cond y 30 (cond (not (plan_fits p)) 47 0)) in record { plan = cond (eqb n 0) (changed p (reported (numbers_in r))) p; refusal = n })
        go true y h = refl
        go false true h = refl
        go false false h = absurd (false≢true h)

    module _ (h : (not good || a) ≡ false) where
      report_sound : plan_sound p ≡ true
      report_sound = sym es ∙ not-false good (or_off_left (not good) a h)

      pub report_count : p.count ≤ 64
      report_count = sound_few p report_sound

      pub report_few : over ≡ false
      report_few = sym e ∙ or_off_right (not good) a h

      pub report_misfit : false ≡ plan_fits p → ◌≡◌ {A = Planned} (record { plan = p; refusal = 47 }) (report_answer p r)
      unfolding report_answer report_tests refusal
      report_misfit q = rw (report_sound, report_few, sym q)

      pub report_marked : true ≡ plan_fits p → (q : Plan) {l : List ℕ} → l ≡ numbers_in r → q ≡ changed p (reported l) → ◌≡◌ {A = Planned} (record { plan = q; refusal = 0 }) (report_answer p r)
      unfolding report_answer report_tests refusal
      report_marked f q el c = rw (report_sound, report_few, sym f, c, el)
