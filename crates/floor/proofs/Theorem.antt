-- Demand 3: one theorem about whole lists of calls. The statement is specs/Demand3.
use mathlib.Core.Path.{◌≡◌, refl, sym, ap, ◌∙◌, subst, fun_ext}
use mathlib.Core.Logic.{◌↔◌, ◌≢◌}
use mathlib.Core.Bool.{Bool, true, not}
use mathlib.Core.List.Permᴰ
use mathlib.Core.List.{List, [], ◌++◌}
use Prim.Native.Nat.{ℕ, ◌≤◌, ◌<◌}
use native.Mathlib.Omega.{arith}
use lib.Dec.{eqb}
use Rattle.laws.specs.Define.{all_of, pairs_of}
use Rattle.laws.specs.Every.{All, Pairs}
use Rattle.laws.proofs.Tests.{r_ne, r_all, r_pairs}
use Rattle.laws.proofs.Lists.{all_cross, pairs_append, pairs_perm}
use Rattle.floor.specs.declared.Settings.{Settings}
use Rattle.floor.specs.declared.Floor.{Floor}
use Rattle.floor.specs.Settings.{spacing}
use Rattle.floor.specs.Model.{Model, runs_of_of, members_of, numbers_on}
use Rattle.floor.specs.Memory.{view}
use Rattle.floor.specs.Well.{inside, apart, well_formed}
use Rattle.floor.specs.Bound.{bound}
use Rattle.floor.specs.Live.{LivePath, connected, connected_count}
use Rattle.floor.specs.Demand3.{Call, InRange, floor_after, booked_in, reported_in, reported_all, runs_after_of, rounds_in, Promises, Demand3}
use Rattle.floor.proofs.Sound.{Sound, Inside, Apart}
use Rattle.floor.proofs.Well.{inside_fact, apart_fact}
use Rattle.floor.proofs.Pack.{well_sound}
use Rattle.floor.proofs.Rows.{view_settings}
use Rattle.floor.proofs.Nearest.{routable}
use Rattle.floor.proofs.Paths.{live_iff}
use Rattle.floor.proofs.Clearing.{cleared}
use Rattle.floor.proofs.Calls.{Keeps}
use Rattle.floor.proofs.Lists.{list_keeps, list_runs, quiet_runs, quiet_rounds}

-- different numbers, as the statement tests it
distinct : (l : List ℕ) → Pairs (λ x y. x ≢ y) l → pairs_of (λ x y. not (eqb x y)) l ≡ true
distinct l h = (r_pairs (λ x y. not (eqb x y)) (λ x y. x ≢ y) r_ne l).1 h

module _ (f : Floor) (w : well_formed f ≡ true) (cs : List Call) (in_range : All InRange cs) where
  abbrev now : Floor
  now = floor_after f cs

  well : well_formed now ≡ true
  well = (list_keeps f w cs in_range).0

  K : Keeps (view f) (view now) (booked_in f cs) (reported_in f cs)
  K = (list_keeps f w cs in_range).1

  S : Sound (view now)
  S = K.well

  -- the settings stay, and the history tells what runs
  same : (view now).settings ≡ f.settings
  same = K.same_settings ∙ view_settings f

  runs : runs_of_of (view now) ≡ runs_after_of f cs
  unfolding runs_after_of
  runs = fun_ext (λ t. sym (list_runs f w cs in_range t))

  -- what holds for the floor's own settings and running tiles holds for the first floor's and the history's
  carry : (P : Settings → (ℕ → Bool) → Type 0) → P (view now).settings (runs_of_of (view now)) → P f.settings (runs_after_of f cs)
  carry P p = subst (λ (s : Settings). P s (runs_after_of f cs)) same (subst (λ (r : ℕ → Bool). P (view now).settings r) runs p)

  all_once : Pairs (λ x y. x ≢ y) (numbers_on (view f) ++ booked_in f cs)
  all_once =
      let F = well_sound f w in
      let last = (view f).counters.last in
      pairs_append (λ x y. x ≢ y) (numbers_on (view f)) (booked_in f cs) F.unique K.distinct
      (all_cross (λ n. n ≤ last) (λ n. last < n) (λ x y. x ≢ y) (numbers_on (view f)) (booked_in f cs) (λ x y p q. omega arith) F.below K.above)

  promises : Promises f cs
  unfolding view reported_all
  promises = record {
    now = now;
    is_now = refl;
    well = well;
    same_settings = same;
    within = λ t. subst (λ (s : Settings). all_of (inside s) (members_of (view now) t) ≡ true) same ((r_all (inside (view now).settings) (Inside (view now).settings) (inside_fact (view now).settings) (members_of (view now) t)).1 (S.inside t));
    spaced = λ t.
        subst (λ (s : Settings). pairs_of (apart (spacing s)) (members_of (view now) t) ≡ true) same
        ((r_pairs (apart (spacing (view now).settings)) (Apart (spacing (view now).settings)) (apart_fact (spacing (view now).settings)) (members_of (view now) t)).1 (S.spaced t));
    kept = Permᴰ.symm K.nums;
    once_before = distinct (numbers_on (view f) ++ booked_in f cs) all_once;
    once_now = distinct (numbers_on (view now) ++ reported_all f cs) (pairs_perm (λ x y. x ≢ y) (λ x y n e. n (sym e)) (Permᴰ.symm K.nums) all_once);
    booked = K.books;
    delivered = K.delivers;
    runs_now = λ t. sym (ap (λ (r : ℕ → Bool). r t) runs);
    counts_live = λ t. carry (λ s r. LivePath s r t ↔ connected s r t ≡ true) (live_iff (view now).settings (runs_of_of (view now)) (routable (view now) S) t);
    emptied = λ ds h q.
        carry (λ s r. bound s (connected_count (view now) r) ≤ rounds_in ds → (t : ℕ) → LivePath s r t → members_of (view (floor_after now ds)) t ≡ [])
        (λ b t p. ap (λ (x : Model). members_of x t) (quiet_rounds now well ds h q).1 ∙ cleared (view now) S (rounds_in ds) b t p);
    runs_same = quiet_runs f cs;
    live_same = λ ds q t. let e : runs_after_of f (cs ++ ds) ≡ runs_after_of f cs = fun_ext (quiet_runs f cs ds q) in (subst (λ (r : ℕ → Bool). LivePath f.settings r t) e, subst (λ (r : ℕ → Bool). LivePath f.settings r t) (sym e));
  }

pub demand3 : Demand3
demand3 = promises
