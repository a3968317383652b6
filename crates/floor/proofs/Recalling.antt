-- An accepted recall is its stops and repairs, made one after another in rising tile number; each of them is accepted.
use mathlib.Core.Path.{◌≡◌, refl, sym, ap, ◌∙◌, subst}
use mathlib.Core.Logic.{◌⊎◌, inl, inr, ◌≢◌}
use mathlib.Core.Bool.{Bool, true, false, cond, not, ◌&&◌}
use mathlib.Core.List.{List, [], ◌∷◌, ◌++◌}
use Prim.Native.Nat.{ℕ, zero, suc, ◌+◌, ◌≤◌, ◌<◌}
use native.Mathlib.Omega.{arith}
use native.Mathlib.Decide.{dec_le, ℕ_discrete}
use lib.Dec.{ltb, eqb}
use borrow.Author.Tests.{eq-eqb, ne_eqb, lt-ltb, le-ltb}
use Rattle.laws.specs.Define.{bit}
use Rattle.laws.proofs.Tests.{by_test, and_yes, and_no, refusal_all_false}
use Rattle.floor.specs.declared.Floor.{Floor}
use Rattle.floor.specs.Settings.{total}
use Rattle.floor.specs.Layouts.{set_of}
use Rattle.floor.specs.Model.{Model, tile_of, runs_of_of, with_tile}
use Rattle.floor.specs.Memory.{view, pack}
use Rattle.floor.specs.Well.{well_formed}
use Rattle.floor.specs.Calls.{refusal_of, answer, stop_tests, stopped, stop_answer, repair_tests, repaired, repair_answer, name_held_tests, recalled, recall_answer}
use Rattle.floor.specs.Demand3.{Call, stop, repair, recall, outcome, floor_after, recall_set, recall_makes, runs_by, latest}
use Rattle.floor.specs.Named.{needed, recall_calls, AllAccepted}
use Rattle.floor.proofs.Sound.{Sound}
use Rattle.floor.proofs.Pack.{well_sound}
use Rattle.floor.proofs.Capacity.{view_packed, sound_well}
use Rattle.floor.proofs.FreshAndWidths.{pack_view_well}
use Rattle.floor.proofs.Calls.{Accepted}
use Rattle.floor.proofs.SoundLayouts.{Covers}
use Rattle.floor.proofs.Stages.{stage, stage_none, stage_all, stop_meets, repair_meets, by_tile, stage_keeps, name_held_set}
use Rattle.floor.proofs.Lists.{after_both, passed}

-- lists of accepted calls, one after another
accepted_more : (f : Floor) (cs ds : List Call) → AllAccepted f cs → AllAccepted (floor_after f cs) ds → AllAccepted f (cs ++ ds)
unfolding floor_after
accepted_more f [] ds h k = k
accepted_more f (c ∷ cs) ds h k = (h.0, accepted_more (outcome f c).floor cs ds h.1 k)

-- from g to h by accepted calls
Made : Floor → List Call → Floor → Type 0
Made g cs h = (floor_after g cs ≡ h) × AllAccepted g cs

passes : (g : Floor) (tests : List (Bool × ℕ)) → well_formed g ≡ true → Accepted tests → refusal_of g tests ≡ 0
unfolding refusal_of
passes g tests w T = refusal_all_false ((not (well_formed g), 30) ∷ tests) (ap not w, T)

-- one stop, one repair on a packed floor
stop_made : (m : Model) → Sound m → (t : ℕ) → Accepted (stop_tests m t) → Made (pack m) (stop t ∷ []) (pack (with_tile m t (stopped (tile_of m t))))
unfolding Made floor_after outcome stop_answer answer
stop_made m S t T =
    let v = view_packed m S in
    let e : refusal_of (pack m) (stop_tests (view (pack m)) t) ≡ 0 = passes (pack m) (stop_tests (view (pack m)) t) (sound_well m S) (subst (λ (x : Model). Accepted (stop_tests x t)) (sym v) T) in
    (rw e (ap (λ (x : Model). pack (with_tile x t (stopped (tile_of x t)))) v), (e, tt))

repair_made : (m : Model) → Sound m → (t : ℕ) → Accepted (repair_tests m t) → Made (pack m) (repair t ∷ []) (pack (with_tile m t (repaired (tile_of m t))))
unfolding Made floor_after outcome repair_answer answer
repair_made m S t T =
    let v = view_packed m S in
    let e : refusal_of (pack m) (repair_tests (view (pack m)) t) ≡ 0 = passes (pack m) (repair_tests (view (pack m)) t) (sound_well m S) (subst (λ (x : Model). Accepted (repair_tests x t)) (sym v) T) in
    (rw e (ap (λ (x : Model). pack (with_tile x t (repaired (tile_of x t)))) v), (e, tt))

none : (g : Floor) → Made g [] g
unfolding Made floor_after
none g = (refl, tt)

then_made : (g h k : Floor) (cs ds : List Call) → Made g cs h → Made h ds k → Made g (cs ++ ds) k
unfolding Made
then_made g h k cs ds p q = (after_both g cs ds ∙ ap (λ (x : Floor). floor_after x ds) p.0 ∙ q.0, accepted_more g cs ds p.1 (subst (λ (x : Floor). AllAccepted x ds) (sym p.0) q.1))

module _ (f : Floor) (w : well_formed f ≡ true) (set : ℕ) (hop : Covers (view f).settings set) where
  abbrev m : Model
  m = view f

  S : Sound m
  S = well_sound f w

  abbrev at : ℕ → Model
  at = stage m S set hop

  one : (t : ℕ) → t < total m.settings → Made (pack (at t)) (cond (bit set t) (cond (runs_of_of m t) [] (repair t ∷ [])) (cond (runs_of_of m t) (stop t ∷ []) [])) (pack (at (suc t)))
  one t h = by_tile m S set hop t h (λ x. Made (pack (at t)) (cond (bit set t) (cond (runs_of_of m t) [] (repair t ∷ [])) (cond (runs_of_of m t) (stop t ∷ []) [])) (pack x))
      (λ e. nothing e (by_test (runs_of_of m t)))
      (λ b r. rw (b, r) (stop_made (at t) (stage_keeps m S set hop t (omega arith)).well t (stop_meets m S set hop t h b r)))
      (λ b r. rw (b, r) (repair_made (at t) (stage_keeps m S set hop t (omega arith)).well t (repair_meets m S set hop t h r)))
    where
      nothing : bit set t ≡ runs_of_of m t → (runs_of_of m t ≡ true) ⊎ (runs_of_of m t ≡ false) → Made (pack (at t)) (cond (bit set t) (cond (runs_of_of m t) [] (repair t ∷ [])) (cond (runs_of_of m t) (stop t ∷ []) [])) (pack (at t))
      nothing e (inl r) = rw (e, r) (none (pack (at t)))
      nothing e (inr r) = rw (e, r) (none (pack (at t)))

  from : (t n : ℕ) → t + n ≤ total m.settings → Made (pack (at t)) (needed f set t n) (pack (at (t + n)))
  unfolding needed
  from t zero h = subst (λ (k : ℕ). Made (pack (at t)) [] (pack (at k))) (omega arith) (none (pack (at t)))
  from t (suc n) h =
      let e : suc t + n ≡ t + suc n = omega arith in
      then_made (pack (at t)) (pack (at (suc t))) (pack (at (t + suc n))) _ (needed f set (suc t) n) (one t (omega arith)) (subst (λ (k : ℕ). Made (pack (at (suc t))) (needed f set (suc t) n) (pack (at k))) e (from (suc t) n (omega arith)))

  all_made : Made f (needed f set 0 (total m.settings)) (pack (recalled m set))
  all_made =
      let p : Made (pack (at 0)) (needed f set 0 (total m.settings)) (pack (at (0 + total m.settings))) = from 0 (total m.settings) (omega arith) in
      let z : 0 + total m.settings ≡ total m.settings = omega arith in
      subst (λ (g : Floor). Made g (needed f set 0 (total m.settings)) (pack (recalled m set))) (ap pack (stage_none m S set hop) ∙ pack_view_well f w)
      (subst (λ (x : Model). Made (pack (at 0)) (needed f set 0 (total m.settings)) (pack x)) (ap at z ∙ stage_all m S set hop) p)

-- "Recall makes the stops and repairs needed, in rising tile number, and counts as these"
pub recall_made : (f : Floor) → well_formed f ≡ true → (name : ℕ) → (outcome f (recall name)).refusal ≡ 0 → (floor_after f (recall_calls f name) ≡ (outcome f (recall name)).floor) × AllAccepted f (recall_calls f name)
unfolding outcome recall_answer answer recall_calls recall_set Made view name_held_tests
recall_made f w name e =
    let S = well_sound f w in
    let T = passed f w (name_held_tests (view f).layouts name) (omega arith) (eq-eqb _ 0 e) in
    let M = all_made f w (set_of (view f).layouts name) (name_held_set (view f) S name T) in
    (M.0 ∙ rw e, M.1)

-- ---- what a list of accepted stops and repairs leaves running
-- the call that one tile needs: b whether the set has it, r whether it runs; and whether it needs one
abbrev needed_call : Bool → Bool → ℕ → List Call
needed_call b r u = cond b (cond r [] (repair u ∷ [])) (cond r (stop u ∷ []) [])

abbrev makes : Bool → Bool → Bool
makes b r = cond b (not r) r

needed_rest : (g : Floor) (b r : Bool) (u : ℕ) (cs : List Call) → AllAccepted g (needed_call b r u ++ cs) → AllAccepted (floor_after g (needed_call b r u)) cs
unfolding floor_after
needed_rest g true true u cs h = h
needed_rest g true false u cs h = h.1
needed_rest g false true u cs h = h.1
needed_rest g false false u cs h = h

needed_runs : (g : Floor) (b r : Bool) (u t : ℕ) (q : Bool) (cs : List Call) → AllAccepted g (needed_call b r u ++ cs) → latest g (needed_call b r u ++ cs) t q ≡ latest (floor_after g (needed_call b r u)) cs t (cond (eqb u t && makes b r) b q)
unfolding floor_after latest runs_by
needed_runs g true true u t q cs h = rw (and_no (eqb u t))
needed_runs g true false u t q cs h = rw (eq-eqb (outcome g (repair u)).refusal 0 h.0, and_yes (eqb u t))
needed_runs g false true u t q cs h = rw (eq-eqb (outcome g (stop u)).refusal 0 h.0, and_yes (eqb u t))
needed_runs g false false u t q cs h = rw (and_no (eqb u t))

module _ (f : Floor) (set t : ℕ) where
  abbrev there : ℕ → Bool
  there u = makes (bit set u) (runs_of_of (view f) u)

  -- no call for the tile t among n from u on
  runs_off : (g : Floor) (u n : ℕ) (q : Bool) → ((k : ℕ) → u ≤ k → k < u + n → k ≢ t) → AllAccepted g (needed f set u n) → latest g (needed f set u n) t q ≡ q
  unfolding needed latest
  runs_off g u zero q h a = refl
  runs_off g u (suc n) q h a =
      let b = bit set u in
      let r = runs_of_of (view f) u in
      needed_runs g b r u t q (needed f set (suc u) n) a ∙ rw (ne_eqb u t (h u (omega arith) (omega arith))) (runs_off (floor_after g (needed_call b r u)) (suc u) n q (λ k i j. h k (omega arith) (omega arith)) (needed_rest g b r u (needed f set (suc u) n) a))

  runs_on : (g : Floor) (u n : ℕ) (q : Bool) → u ≤ t → t < u + n → AllAccepted g (needed f set u n) → latest g (needed f set u n) t q ≡ cond (there t) (bit set t) q
  unfolding needed latest
  runs_on g u zero q l m a = absurd (omega arith)
  runs_on g u (suc n) q l m a = needed_runs g b r u t q (needed f set (suc u) n) a ∙ go (ℕ_discrete u t) (λ d. runs_on (floor_after g (needed_call b r u)) (suc u) n q (omega (arith, d)) (omega arith) rest)
    where
      b : Bool
      b = bit set u

      r : Bool
      r = runs_of_of (view f) u

      rest : AllAccepted (floor_after g (needed_call b r u)) (needed f set (suc u) n)
      rest = needed_rest g b r u (needed f set (suc u) n) a

      go : Dec (u ≡ t) → (u ≢ t → latest (floor_after g (needed_call b r u)) (needed f set (suc u) n) t q ≡ cond (there t) (bit set t) q)
          → latest (floor_after g (needed_call b r u)) (needed f set (suc u) n) t (cond (eqb u t && there u) b q) ≡ cond (there t) (bit set t) q
      go (yes e) more = rw (eq-eqb u t e) (runs_off (floor_after g (needed_call b r u)) (suc u) n (cond (there u) b q) (λ k i j z. absurd (omega (arith, e))) rest ∙ ap (λ (k : ℕ). cond (there k) (bit set k) q) e)
      go (no d) more = rw (ne_eqb u t d) (more d)

-- "and counts as these in demand 3": of any tile, whatever stood before
pub recall_counts : (f : Floor) (name : ℕ) → (outcome f (recall name)).refusal ≡ 0 → AllAccepted f (recall_calls f name) → (t : ℕ) (q : Bool) → runs_by f (recall name) t q ≡ latest f (recall_calls f name) t q
unfolding runs_by recall_makes recall_calls
recall_counts f name e a t q = rw (eq-eqb (outcome f (recall name)).refusal 0 e) (go (dec_le (suc t) (total f.settings)))
  where
    set : ℕ
    set = recall_set f name

    go : Dec (t < total f.settings) → cond (ltb t (total f.settings) && cond (bit set t) (not (runs_of_of (view f) t)) (runs_of_of (view f) t)) (bit set t) q ≡ latest f (needed f set 0 (total f.settings)) t q
    go (yes l) = rw (lt-ltb t (total f.settings) l) (sym (runs_on f set t f 0 (total f.settings) q (omega arith) (omega arith) a))
    go (no l) = rw (le-ltb t (total f.settings) (omega arith)) (sym (runs_off f set t f 0 (total f.settings) q (λ k i j z. absurd (omega arith)) a))
