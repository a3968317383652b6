-- Demand 3 for each floor of a barge: the calls that name a floor, without the bookings that 50 refuses, are a list of calls on that floor alone.
use mathlib.Core.Path.{◌≡◌, refl, sym, ap, ◌∙◌, subst, fun_ext}
use mathlib.Core.Logic.{◌⊎◌, inl, inr, ◌↔◌, ◌≢◌}
use mathlib.Core.Bool.{Bool, true, false, cond, not, ◌&&◌, true≢false}
use mathlib.Core.List.{List, [], ◌∷◌, ◌++◌}
use Prim.Native.Nat.{ℕ, ◌+◌, ◌≤◌, ◌<◌}
use native.Mathlib.Omega.{arith}
use native.Mathlib.Decide.{ℕ_discrete}
use lib.Dec.{eqb}
use lib.Seq.{get_or-set_same}
use borrow.Author.Tests.{eqb-true, eqb-false, eq-eqb, ne_eqb}
use Rattle.laws.specs.Define.{cat}
use Rattle.laws.specs.Every.{All}
use Rattle.laws.proofs.Tests.{by_test, and_no}
use Rattle.floor.specs.declared.Floor.{Floor}
use Rattle.floor.specs.Model.{runs_of_of, members_of}
use Rattle.floor.specs.Memory.{zero_floor, view}
use Rattle.floor.specs.Well.{well_formed}
use Rattle.floor.specs.Calls.{book_answer}
use Rattle.floor.specs.Anywhere.{anywhere_answer}
use Rattle.floor.specs.Bookings.{list_answer}
use Rattle.floor.specs.Bound.{bound}
use Rattle.floor.specs.Live.{LivePath, connected, connected_count}
use Rattle.floor.specs.Demand3.{Call, is_round}
use Rattle.floor.specs.Demand3 as OneFloor
use Rattle.floor.proofs.Lists.{call_refused}
use Rattle.floor.proofs.Theorem.{demand3}
use Rattle.barge.specs.declared.Barge.{Barge}
use Rattle.barge.specs.Barges.{floor_at, with_floor, barge_sound}
use Rattle.barge.specs.Lists.{BargeCall, book, anywhere, stop, repair, round, named, standalone, standalone_outcome, InRange, outcome, barge_after}
use Rattle.barge.specs.PerFloor.{booked_on, reported_on, reported_all_on, runs_by, latest, runs_on_of, disturbs, QuietOn, rounds_on, Promises, PerFloor}
use Rattle.barge.proofs.Answers.{Sound, sound_of, done, undone, others, own_refused, round_passes, round_done, stays}

-- ---- a refused call on a lone floor
record Idle (f : Floor) (c : Call) : Type 0 where
  floor : (OneFloor.outcome f c).floor ≡ f
  booked : (OneFloor.outcome f c).booked ≡ []
  reported : (OneFloor.outcome f c).reported ≡ (λ _. [])

idle : (f : Floor) → well_formed f ≡ true → (c : Call) → (OneFloor.outcome f c).refusal ≢ 0 → Idle f c
unfolding OneFloor.outcome
idle f w (OneFloor.book t c) h = record { floor = call_refused f w (OneFloor.book t c) refl h; booked = rw (ne_eqb (book_answer f t c).refusal 0 h); reported = refl }
idle f w (OneFloor.anywhere t number) h = record { floor = call_refused f w (OneFloor.anywhere t number) refl h; booked = rw (ne_eqb (anywhere_answer f t number).refusal 0 h); reported = refl }
idle f w (OneFloor.stop t) h = record { floor = call_refused f w (OneFloor.stop t) refl h; booked = refl; reported = refl }
idle f w (OneFloor.repair t) h = record { floor = call_refused f w (OneFloor.repair t) refl h; booked = refl; reported = refl }
idle f w OneFloor.round h = absurd (h (round_passes f w))
idle f w (OneFloor.keep name) h = record { floor = call_refused f w (OneFloor.keep name) refl h; booked = refl; reported = refl }
idle f w (OneFloor.forget name) h = record { floor = call_refused f w (OneFloor.forget name) refl h; booked = refl; reported = refl }
idle f w (OneFloor.recall name) h = record { floor = call_refused f w (OneFloor.recall name) refl h; booked = refl; reported = refl }
idle f w (OneFloor.list l) h = record { floor = call_refused f w (OneFloor.list l) refl h; booked = rw (ne_eqb (list_answer f l).refusal 0 h); reported = refl }

-- ---- one call seen from floor j
-- the lone calls that it stands for: itself, or none where it names another floor or 50 refuses it
unfoldable taken : ℕ → Barge → BargeCall → Bool
taken j b c = eqb (named c) j && not (eqb (outcome b c).refusal 50)

pub record Listed (j : ℕ) (b : Barge) (c : BargeCall) : Type 0 where
  pub here : eqb (named c) j ≡ true
  pub floor : floor_at (outcome b c).barge j ≡ (OneFloor.outcome (floor_at b j) (standalone c)).floor
  pub booked : cond (eqb (named c) j) (outcome b c).booked [] ≡ (OneFloor.outcome (floor_at b j) (standalone c)).booked
  pub reported : (k : ℕ) → cond (eqb (named c) j) ((outcome b c).reported k) [] ≡ (OneFloor.outcome (floor_at b j) (standalone c)).reported k
  pub runs : (t : ℕ) (r : Bool) → runs_by j b c t r ≡ OneFloor.runs_by (floor_at b j) (standalone c) t r
  pub accepted : eqb (outcome b c).refusal 0 ≡ eqb (OneFloor.outcome (floor_at b j) (standalone c)).refusal 0
  pub round : cond {A = ℕ} (eqb (named c) j && is_round (standalone c)) 1 0 ≡ cond (is_round (standalone c)) 1 0

record Skipped (j : ℕ) (b : Barge) (c : BargeCall) : Type 0 where
  floor : floor_at (outcome b c).barge j ≡ floor_at b j
  booked : cond (eqb (named c) j) (outcome b c).booked [] ≡ []
  reported : (k : ℕ) → cond (eqb (named c) j) ((outcome b c).reported k) [] ≡ []
  runs : (t : ℕ) (r : Bool) → runs_by j b c t r ≡ r
  round : cond {A = ℕ} (eqb (named c) j && is_round (standalone c)) 1 0 ≡ 0

-- whether a stop or a repair of the barge counts for floor j
runs_same : (j : ℕ) (b : Barge) (c : BargeCall) → eqb (named c) j ≡ true → eqb (outcome b c).refusal 0 ≡ eqb (OneFloor.outcome (floor_at b j) (standalone c)).refusal 0 → (t : ℕ) (r : Bool) → runs_by j b c t r ≡ OneFloor.runs_by (floor_at b j) (standalone c) t r
unfolding runs_by OneFloor.runs_by
runs_same j b (book k u c) n e t r = refl
runs_same j b (anywhere k u number) n e t r = refl
runs_same j b (stop k u) n e t r = rw (n, e)
runs_same j b (repair k u) n e t r = rw (n, e)
runs_same j b (round k) n e t r = refl

both : (x y z : Bool) → (x && y) ≡ false → (x && (y && z)) ≡ false
both true true z h = absurd (true≢false h)
both true false z h = refl
both false y z h = refl

and_flip : (x y : Bool) → (x && y) ≡ false → (y && x) ≡ false
and_flip true true h = absurd (true≢false h)
and_flip true false h = refl
and_flip false y h = and_no y

runs_none : (j : ℕ) (b : Barge) (c : BargeCall) → (eqb (outcome b c).refusal 0 && eqb (named c) j) ≡ false → (t : ℕ) (r : Bool) → runs_by j b c t r ≡ r
unfolding runs_by
runs_none j b (book k u c) e t r = refl
runs_none j b (anywhere k u number) e t r = refl
runs_none j b (stop k u) e t r = ap (λ (x : Bool). cond x false r) (both (eqb (outcome b (stop k u)).refusal 0) (eqb k j) (eqb u t) e)
runs_none j b (repair k u) e t r = ap (λ (x : Bool). cond x true r) (both (eqb (outcome b (repair k u)).refusal 0) (eqb k j) (eqb u t) e)
runs_none j b (round k) e t r = refl

-- a call that is no accepted stop or repair on floor j
runs_quiet : (j : ℕ) (b : Barge) (c : BargeCall) → disturbs j b c ≡ false → (t : ℕ) (r : Bool) → runs_by j b c t r ≡ r
unfolding disturbs runs_by
runs_quiet j b (book k u c) q t r = refl
runs_quiet j b (anywhere k u number) q t r = refl
runs_quiet j b (stop k u) q t r = runs_none j b (stop k u) (and_flip (eqb k j) (eqb (outcome b (stop k u)).refusal 0) q) t r
runs_quiet j b (repair k u) q t r = runs_none j b (repair k u) (and_flip (eqb k j) (eqb (outcome b (repair k u)).refusal 0) q) t r
runs_quiet j b (round k) q t r = refl

quiet_latest : (j : ℕ) (b : Barge) (ds : List BargeCall) → QuietOn j b ds → (t : ℕ) (r : Bool) → latest j b ds t r ≡ r
unfolding latest
quiet_latest j b [] q t r = refl
quiet_latest j b (c ∷ ds) q t r = ap (latest j (outcome b c).barge ds t) (runs_quiet j b c q.0 t r) ∙ quiet_latest j (outcome b c).barge ds q.1 t r

latest_both : (j : ℕ) (b : Barge) (cs ds : List BargeCall) (t : ℕ) (r : Bool) → latest j b (cs ++ ds) t r ≡ latest j (barge_after b cs) ds t (latest j b cs t r)
unfolding latest barge_after
latest_both j b [] ds t r = refl
latest_both j b (c ∷ cs) ds t r = latest_both j (outcome b c).barge cs ds t (runs_by j b c t r)

quiet_runs : (j : ℕ) (b : Barge) (cs ds : List BargeCall) → QuietOn j (barge_after b cs) ds → (t : ℕ) → runs_on_of j b (cs ++ ds) t ≡ runs_on_of j b cs t
unfolding runs_on_of
quiet_runs j b cs ds q t = latest_both j b cs ds t (runs_of_of (view (floor_at b j)) t) ∙ quiet_latest j (barge_after b cs) ds q t (latest j b cs t (runs_of_of (view (floor_at b j)) t))

cond_nil : (x : Bool) {l : List ℕ} → l ≡ [] → cond x l [] ≡ []
cond_nil true e = e
cond_nil false e = refl

module _ (j : ℕ) (j4 : j < 4) (b : Barge) (s : barge_sound b ≡ true) (c : BargeCall) where
  S : Sound b
  S = sound_of b s

  pub listed : eqb (named c) j ≡ true → (outcome b c).refusal ≢ 50 → Listed j b c
  listed e n = go (ℕ_discrete (outcome b c).refusal 0)
    where
      at : named c ≡ j
      at = eqb-true (named c) j e

      f : Floor
      f = floor_at b j

      same : standalone_outcome b c ≡ OneFloor.outcome (floor_at b j) (standalone c)
      same = ap (λ (k : ℕ). OneFloor.outcome (floor_at b k) (standalone c)) at

      go : Dec ((outcome b c).refusal ≡ 0) → Listed j b c
      go (yes z) =
          let D = done b c z in
          let q : eqb (outcome b c).refusal 0 ≡ eqb (OneFloor.outcome f (standalone c)).refusal 0 = ap (λ (x : ℕ). eqb x 0) (z ∙ sym D.own ∙ ap (λ (o : OneFloor.Outcome). o.refusal) same) in
          record {
            here = e;
            floor = ap (λ (x : Barge). floor_at x j) D.barge ∙ ap (λ (k : ℕ). floor_at (with_floor b k (standalone_outcome b c).floor) j) at ∙ get_or-set_same b.floors j (standalone_outcome b c).floor zero_floor (omega (arith, S.four)) ∙ ap (λ (o : OneFloor.Outcome). o.floor) same;
            booked = rw e (D.booked ∙ ap (λ (o : OneFloor.Outcome). o.booked) same);
            reported = λ k. rw e (ap (λ (g : ℕ → List ℕ). g k) D.reported ∙ ap (λ (o : OneFloor.Outcome). o.reported k) same);
            runs = runs_same j b c e q;
            accepted = q;
            round = rw e;
          }
      go (no z) =
          let U = undone b c z in
          let r : (OneFloor.outcome (floor_at b j) (standalone c)).refusal ≢ 0 = λ q. own_refused b c s (omega (arith, at)) z n (ap (λ (o : OneFloor.Outcome). o.refusal) same ∙ q) in
          let I = idle f (S.each j j4) (standalone c) r in
          let q : eqb (outcome b c).refusal 0 ≡ eqb (OneFloor.outcome f (standalone c)).refusal 0 = ne_eqb (outcome b c).refusal 0 z ∙ sym (ne_eqb (OneFloor.outcome f (standalone c)).refusal 0 r) in
          record {
            here = e;
            floor = ap (λ (x : Barge). floor_at x j) U.barge ∙ sym I.floor;
            booked = rw e (U.booked ∙ sym I.booked);
            reported = λ k. rw e (ap (λ (g : ℕ → List ℕ). g k) (U.reported ∙ sym I.reported));
            runs = runs_same j b c e q;
            accepted = q;
            round = rw e;
          }

  elsewhere : eqb (named c) j ≡ false → Skipped j b c
  elsewhere e = record {
    floor = others b c j (λ q. eqb-false (named c) j e (sym q));
    booked = rw e;
    reported = λ k. rw e;
    runs = runs_none j b c (rw e (and_no (eqb (outcome b c).refusal 0)));
    round = rw e;
  }

  over : eqb (named c) j ≡ true → (outcome b c).refusal ≡ 50 → Skipped j b c
  over e q =
      let z : (outcome b c).refusal ≢ 0 = λ k. omega arith in
      let U = undone b c z in
      record {
        floor = ap (λ (x : Barge). floor_at x j) U.barge;
        booked = cond_nil (eqb (named c) j) U.booked;
        reported = λ k. cond_nil (eqb (named c) j) (ap (λ (g : ℕ → List ℕ). g k) U.reported);
        runs = runs_none j b c (rw (ne_eqb (outcome b c).refusal 0 z));
        round = rw e (no_round (by_test (is_round (standalone c))));
      }
    where
      no_round : (is_round (standalone c) ≡ true) ⊎ (is_round (standalone c) ≡ false) → cond {A = ℕ} (is_round (standalone c)) 1 0 ≡ 0
      no_round (inr n) = rw n
      no_round (inl y) = absurd (omega (arith, round_done b c s (omega (arith, eqb-true (named c) j e)) y))

  -- itself, or none
  by_call : (P : List Call → Type 0) → (Listed j b c → P (standalone c ∷ [])) → (Skipped j b c → P []) → P (cond (taken j b c) (standalone c ∷ []) [])
  unfolding taken
  by_call P yes' no' = go (by_test (eqb (named c) j)) (ℕ_discrete (outcome b c).refusal 50)
    where
      go : (eqb (named c) j ≡ true) ⊎ (eqb (named c) j ≡ false) → Dec ((outcome b c).refusal ≡ 50) → P (cond (eqb (named c) j && not (eqb (outcome b c).refusal 50)) (standalone c ∷ []) [])
      go (inr e) d = rw e (no' (elsewhere e))
      go (inl e) (yes q) = rw (e, eq-eqb (outcome b c).refusal 50 q) (no' (over e q))
      go (inl e) (no n) = rw (e, ne_eqb (outcome b c).refusal 50 n) (yes' (listed e n))

-- ---- lists
-- the calls that name floor j, without those that 50 refuses, as calls on a lone floor
unfoldable own : ℕ → Barge → List BargeCall → List Call
own j b [] = []
own j b (c ∷ cs) = cond (taken j b c) (standalone c ∷ []) [] ++ own j (outcome b c).barge cs

record Same (j : ℕ) (b : Barge) (cs : List BargeCall) (ds : List Call) : Type 0 where
  floor : floor_at (barge_after b cs) j ≡ OneFloor.floor_after (floor_at b j) ds
  booked : booked_on j b cs ≡ OneFloor.booked_in (floor_at b j) ds
  reported : (k : ℕ) → reported_on j b cs k ≡ OneFloor.reported_in (floor_at b j) ds k
  runs : (t : ℕ) (r : Bool) → latest j b cs t r ≡ OneFloor.latest (floor_at b j) ds t r
  quiet : QuietOn j b cs → OneFloor.Quiet (floor_at b j) ds
  rounds : OneFloor.rounds_in ds ≡ rounds_on j cs
  in_range : All OneFloor.InRange ds
  sound : barge_sound (barge_after b cs) ≡ true

quiet_standalone : (j : ℕ) (b : Barge) (c : BargeCall) (f : Floor) → eqb (named c) j ≡ true → eqb (outcome b c).refusal 0 ≡ eqb (OneFloor.outcome f (standalone c)).refusal 0 → disturbs j b c ≡ false → OneFloor.disturbs f (standalone c) ≡ false
unfolding disturbs OneFloor.disturbs OneFloor.changes_running
quiet_standalone j b (book k t c) f h e q = sym e ∙ (rw h at q)
quiet_standalone j b (anywhere k t number) f h e q = sym e ∙ (rw h at q)
quiet_standalone j b (stop k t) f h e q = sym e ∙ (rw h at q)
quiet_standalone j b (repair k t) f h e q = sym e ∙ (rw h at q)
quiet_standalone j b (round k) f h e q = refl

module _ (j : ℕ) (b : Barge) (c : BargeCall) (cs : List BargeCall) (ds : List Call) (in-range-c : InRange c) (R : Same j (outcome b c).barge cs ds) where
  with_it : Listed j b c → Same j b (c ∷ cs) (standalone c ∷ ds)
  unfolding barge_after booked_on reported_on latest OneFloor.floor_after OneFloor.booked_in OneFloor.reported_in OneFloor.latest
  with_it L =
      let f = floor_at b j in
      let o = OneFloor.outcome f (standalone c) in
      record {
        floor = R.floor ∙ ap (λ (x : Floor). OneFloor.floor_after x ds) L.floor;
        booked = ap (λ (l : List ℕ). l ++ booked_on j (outcome b c).barge cs) L.booked ∙ ap (λ (l : List ℕ). o.booked ++ l) (R.booked ∙ ap (λ (x : Floor). OneFloor.booked_in x ds) L.floor);
        reported = λ k. ap (λ (l : List ℕ). l ++ reported_on j (outcome b c).barge cs k) (L.reported k) ∙ ap (λ (l : List ℕ). o.reported k ++ l) (R.reported k ∙ ap (λ (x : Floor). OneFloor.reported_in x ds k) L.floor);
        runs = λ t r. ap (λ (x : Bool). latest j (outcome b c).barge cs t x) (L.runs t r) ∙ R.runs t (OneFloor.runs_by f (standalone c) t r) ∙ ap (λ (x : Floor). OneFloor.latest x ds t (OneFloor.runs_by f (standalone c) t r)) L.floor;
        quiet = λ q. (quiet_standalone j b c f L.here L.accepted q.0, subst (λ (x : Floor). OneFloor.Quiet x ds) L.floor (R.quiet q.1));
        rounds = ap (λ (n : ℕ). n + OneFloor.rounds_in ds) (sym L.round) ∙ ap (λ (n : ℕ). cond (eqb (named c) j && is_round (standalone c)) 1 0 + n) R.rounds;
        in_range = (in-range-c, R.in_range);
        sound = R.sound;
      }

  without : Skipped j b c → Same j b (c ∷ cs) ds
  unfolding barge_after booked_on reported_on latest
  without L =
      record {
        floor = R.floor ∙ ap (λ (x : Floor). OneFloor.floor_after x ds) L.floor;
        booked = ap (λ (l : List ℕ). l ++ booked_on j (outcome b c).barge cs) L.booked ∙ (R.booked ∙ ap (λ (x : Floor). OneFloor.booked_in x ds) L.floor);
        reported = λ k. ap (λ (l : List ℕ). l ++ reported_on j (outcome b c).barge cs k) (L.reported k) ∙ (R.reported k ∙ ap (λ (x : Floor). OneFloor.reported_in x ds k) L.floor);
        runs = λ t r. ap (λ (x : Bool). latest j (outcome b c).barge cs t x) (L.runs t r) ∙ R.runs t r ∙ ap (λ (x : Floor). OneFloor.latest x ds t r) L.floor;
        quiet = λ q. subst (λ (x : Floor). OneFloor.Quiet x ds) L.floor (R.quiet q.1);
        rounds = let z = L.round in R.rounds ∙ omega arith;
        in_range = R.in_range;
        sound = R.sound;
      }

same : (j : ℕ) → j < 4 → (b : Barge) → barge_sound b ≡ true → (cs : List BargeCall) → All InRange cs → Same j b cs (own j b cs)
unfolding own barge_after booked_on reported_on latest OneFloor.floor_after OneFloor.booked_in OneFloor.reported_in OneFloor.latest
same j j4 b s [] h = record { floor = refl; booked = refl; reported = λ k. refl; runs = λ t r. refl; quiet = λ _. tt; rounds = refl; in_range = tt; sound = s }
same j j4 b s (c ∷ cs) h =
    let b' = (outcome b c).barge in
    let R = same j j4 b' (stays b c s h.0) cs h.1 in
    by_call j j4 b s c (λ l. Same j b (c ∷ cs) (l ++ own j b' cs)) (with_it j b c cs (own j b' cs) h.0 R) (without j b c cs (own j b' cs) h.0 R)

-- ---- "Per floor of a sound barge, demand 3 reads as before for the calls that name it."
module _ (j : ℕ) (j4 : j < 4) (b : Barge) (s : barge_sound b ≡ true) (cs : List BargeCall) (in_range : All InRange cs) where
  abbrev first : Floor
  first = floor_at b j

  abbrev calls : List Call
  calls = own j b cs

  R : Same j b cs calls
  R = same j j4 b s cs in_range

  P : OneFloor.Promises first calls
  P = demand3 first ((sound_of b s).each j j4) calls R.in_range

  runs_are : OneFloor.runs_after_of first calls ≡ runs_on_of j b cs
  unfolding OneFloor.runs_after_of runs_on_of
  runs_are = fun_ext (λ t. sym (R.runs t (runs_of_of (view first) t)))

  reported_all_lem : reported_all_on j b cs ≡ OneFloor.reported_all first calls
  unfolding reported_all_on OneFloor.reported_all
  reported_all_lem = ap (cat 4) (fun_ext R.reported)

  is_now : P.now ≡ floor_at (barge_after b cs) j
  is_now = P.is_now ∙ sym R.floor

  further : (ds : List BargeCall) → All InRange ds → Same j (barge_after b cs) ds (own j (barge_after b cs) ds)
  further ds h = same j j4 (barge_after b cs) R.sound ds h

  promises : Promises j b cs
  promises = record {
    first = first;
    is_first = refl;
    now = P.now;
    is_now = is_now;
    well = P.well;
    same_settings = P.same_settings;
    within = P.within;
    spaced = P.spaced;
    kept = rw (R.booked, reported_all_lem) P.kept;
    once_before = rw R.booked P.once_before;
    once_now = rw reported_all_lem P.once_now;
    booked = rw R.booked P.booked;
    delivered = λ k. rw (R.reported k) (P.delivered k);
    runs_now = λ t. subst (λ (r : ℕ → Bool). r t ≡ runs_of_of (view P.now) t) runs_are (P.runs_now t);
    counts_live = subst (λ (r : ℕ → Bool). (t : ℕ) → LivePath first.settings r t ↔ connected first.settings r t ≡ true) runs_are P.counts_live;
    emptied = λ ds h q n t p.
        let F = further ds h in
        let back : Floor → Floor = λ x. OneFloor.floor_after x (own j (barge_after b cs) ds) in
        ap (λ (x : Floor). members_of (view x) t) (F.floor ∙ ap back (sym is_now))
        ∙ P.emptied (own j (barge_after b cs) ds) F.in_range (subst (λ (x : Floor). OneFloor.Quiet x (own j (barge_after b cs) ds)) (sym is_now) (F.quiet q))
        (enough ds F n) t (subst (λ (r : ℕ → Bool). LivePath first.settings r t) (sym runs_are) p);
    runs_same = quiet_runs j b cs;
    live_same = λ ds q t.
        let e : runs_on_of j b (cs ++ ds) ≡ runs_on_of j b cs = fun_ext (quiet_runs j b cs ds q) in
        (subst (λ (r : ℕ → Bool). LivePath first.settings r t) e, subst (λ (r : ℕ → Bool). LivePath first.settings r t) (sym e));
  }
    where
      enough : (ds : List BargeCall) → Same j (barge_after b cs) ds (own j (barge_after b cs) ds) → bound first.settings (connected_count (view P.now) (runs_on_of j b cs)) ≤ rounds_on j ds
          → bound first.settings (connected_count (view P.now) (OneFloor.runs_after_of first calls)) ≤ OneFloor.rounds_in (own j (barge_after b cs) ds)
      enough ds F n = subst (λ (r : ℕ → Bool). bound first.settings (connected_count (view P.now) r) ≤ OneFloor.rounds_in (own j (barge_after b cs) ds)) (sym runs_are) (omega (arith, F.rounds))

pub per_floor : PerFloor
per_floor j j4 b s cs in_range = promises j j4 b s cs in_range
