-- After as many rounds as the call bound answers, what it counted is delivered: `within_bound`.
use mathlib.Core.Path.{◌≡◌, refl, sym, ap, ◌∙◌, subst, fun_ext}
use mathlib.Core.Bool.{Bool, true, false, cond, not}
use mathlib.Core.List.{List, [], ◌++◌, append-nil, Permᴰ}
use Prim.Native.Nat.{ℕ, ◌+◌, ◌*◌, ◌≤◌}
use lib.ListN.{length}
use Rattle.laws.specs.Define.{refusal}
use Rattle.laws.proofs.Lists.{cat_empty, perm_of}
use Rattle.floor.specs.declared.Canister.{Canister}
use Rattle.floor.specs.declared.Floor.{Floor}
use Rattle.floor.specs.Settings.{total, is_hopper}
use Rattle.floor.specs.Model.{Model, runs_of_of, members_of, numbers, numbers_on}
use Rattle.floor.specs.Memory.{view}
use Rattle.floor.specs.Well.{well_formed}
use Rattle.floor.specs.Bound.{bound}
use Rattle.floor.specs.Live.{LivePath, here, connected, connected_count}
use Rattle.floor.specs.Demand3.{Call, floor_after, reported_all, latest, runs_after_of, Quiet, rounds_in}
use Rattle.floor.proofs.Sound.{Sound}
use Rattle.floor.proofs.Pack.{well_sound}
use Rattle.floor.proofs.Answers.{formed}
use Rattle.floor.proofs.Nearest.{routable}
use Rattle.floor.proofs.Paths.{live_iff}
use Rattle.floor.proofs.Clearing.{same_live}
use Rattle.floor.proofs.Lists.{list_keeps}
use Rattle.floor.proofs.Theorem.{demand3}
use Rattle.bound.specs.declared.Bounded.{Bounded}
use Rattle.bound.specs.Answer.{numbers_where, connected_numbers, unconnected_numbers, bound_answer}
use Rattle.bound.specs.Within.{Further, WithinBound, AtTheLatest}
use Rattle.bound.proofs.Parts.{Parting, list_parted}
use Rattle.bound.proofs.Few.{where_parts, two_parts, count_numbers, bound_some, bound_most}

-- ---- the answer on a well-formed floor
pub bound_accepted : (f : Floor) → well_formed f ≡ true
    → bound_answer f ≡ record { rounds = bound f.settings (connected_count (view f) (runs_of_of (view f))); connected = connected_count (view f) (runs_of_of (view f)); unconnected = length (unconnected_numbers (view f) (runs_of_of (view f))); refusal = 0 }
unfolding bound_answer refusal
bound_accepted f w = rw (formed f [] 0 w refl)

module _ (g : Floor) (w : well_formed g ≡ true) where
  abbrev m : Model
  m = view g

  abbrev live : ℕ → Bool
  live = connected m.settings (runs_of_of m)

  S : Sound m
  S = well_sound g w

  -- ---- having a live path parts the floor: the hoppers have one
  hopper_live : (t : ℕ) → is_hopper m.settings t ≡ true → live t ≡ true
  hopper_live t h =
      let L = routable m S in
      (live_iff m.settings (runs_of_of m) L t).0 (here h (L.run_on t (L.hop_runs t h)) (L.hop_runs t h))

  parting : Parting m.settings (runs_of_of m) live true
  parting = record { shared = same_live m S; hoppers = hopper_live }

  parting_not : Parting m.settings (runs_of_of m) (λ t. not (live t)) false
  parting_not = record { shared = λ u k mk r q. ap not (same_live m S u k mk r q); hoppers = λ t h. ap not (hopper_live t h) }

  -- ---- after a further list
  emptied : (ds : List Call) → Further g ds → (t : ℕ) → LivePath g.settings (runs_of_of m) t → members_of (view (floor_after g ds)) t ≡ []
  unfolding floor_after latest runs_after_of
  emptied ds F =
      let P = demand3 g w [] tt in
      subst (λ (x : Floor). Quiet x ds → bound g.settings (connected_count (view x) (runs_of_of m)) ≤ rounds_in ds → (t : ℕ) → LivePath g.settings (runs_of_of m) t → members_of (view (floor_after x ds)) t ≡ [])
      P.is_now (P.emptied ds F.0) F.1.0 (subst (λ (r : Bounded). r.rounds ≤ rounds_in ds) (bound_accepted g w) F.1.1)

  module _ (ds : List Call) (F : Further g ds) where
    abbrev last : Model
    last = view (floor_after g ds)

    none_live : numbers_where last live ≡ []
    unfolding numbers_where view
    none_live = cat_empty (total last.settings) (λ t. cond (live t) (numbers (members_of last t)) []) (λ t _. go t (live t) refl)
      where
        go : (t : ℕ) (b : Bool) → live t ≡ b → cond b (numbers (members_of last t)) [] ≡ []
        go t true e = ap (λ (l : List Canister). numbers l) (emptied ds F t ((live_iff m.settings (runs_of_of m) (routable m S) t).1 e))
        go t false e = refl

    delivered : Permᴰ (reported_all g ds) (numbers_where m live)
    delivered = subst (λ (x : List ℕ). Permᴰ (x ++ reported_all g ds) (numbers_where m live)) none_live (list_parted live true g w ds F.0 F.1.0 parting)

    left : Permᴰ (numbers_on last) (numbers_where m (λ t. not (live t)))
    left =
        Permᴰ.trans (subst (λ (x : List ℕ). Permᴰ (numbers_on last) (x ++ numbers_where last (λ t. not (live t)))) none_live (where_parts last live))
        (Permᴰ.trans (perm_of (sym (append-nil (numbers_where last (λ t. not (live t)))))) (list_parted (λ t. not (live t)) false g w ds F.0 F.1.0 parting_not))

  within : WithinBound g (runs_of_of m)
  unfolding view connected_numbers unconnected_numbers
  within =
      let A = bound_accepted g w in
      record {
        accepted = ap (λ (r : Bounded). r.refusal) A;
        rounds = ap (λ (r : Bounded). r.rounds) A ∙ sym (ap (λ (r : Bounded). bound g.settings r.connected) A);
        counted = ap (λ (r : Bounded). r.connected) A ∙ count_numbers m (runs_of_of m);
        others = ap (λ (r : Bounded). r.unconnected) A;
        aboard = two_parts m (runs_of_of m);
        paths = live_iff m.settings (runs_of_of m) (routable m S);
        at_least = subst (λ (r : Bounded). 1 ≤ r.rounds) (sym A) (bound_some m S (runs_of_of m));
        at_most = subst (λ (r : Bounded). r.rounds ≤ 63 * (1 + 1008 * 59999)) (sym A) (bound_most m S (runs_of_of m));
        emptied = emptied;
        delivered = delivered;
        left = left;
      }

-- the tiles run as the history tells
pub within_bound : AtTheLatest
within_bound f w cs T =
    let P = demand3 f w cs T in
    let now = floor_after f cs in
    let runs : runs_of_of (view now) ≡ runs_after_of f cs = fun_ext (λ t. sym (subst (λ (g : Floor). runs_after_of f cs t ≡ runs_of_of (view g) t) P.is_now (P.runs_now t))) in
    subst (λ (r : ℕ → Bool). WithinBound now r) runs (within now (list_keeps f w cs T).0)
