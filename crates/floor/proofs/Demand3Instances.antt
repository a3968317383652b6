-- Demand 3 on a list from a floor in use, field by field: two hoppers, two canisters on tile 2, a refused call of each sort. That tiles are empty in the end is Instances.
use mathlib.Core.Path.{◌≡◌, refl, sym, ap, ◌∙◌, subst, fun_ext}
use mathlib.Core.Bool.{Bool, true, not}
use mathlib.Core.List.{List, [], ◌∷◌, ◌++◌, Permᴰ}
use Prim.Native.Nat.{ℕ, ◌+◌, ◌-◌, ◌^◌}
use native.Mathlib.Omega.{arith}
use lib.Dec.{eqb}
use lib.ListN.{length, get_or}
use Rattle.laws.specs.Define.{cat, all_of, pairs_of}
use Rattle.laws.specs.Every.{All}
use Rattle.floor.specs.declared.Settings.{Settings}
use Rattle.floor.specs.declared.Floor.{Floor}
use Rattle.floor.specs.Settings.{spacing}
use Rattle.floor.specs.Model.{Model, runs_of_of, members_of, numbers_on}
use Rattle.floor.specs.Memory.{view}
use Rattle.floor.specs.Well.{inside, apart, well_formed}
use Rattle.floor.specs.Live.{LivePath, here, step, connected}
use Rattle.floor.specs.Demand3.{Call, book, anywhere, stop, repair, round, InRange, floor_after, booked_in, reported_in, reported_all, runs_after_of, Promises}
use Rattle.floor.proofs.Calling.{several, can, holds}
use Rattle.floor.proofs.CallsByValue.{Shows}
use Rattle.floor.proofs.ListsByValue.{is_in_range, all_in_range, value_after_of, answers_by, booked_by, reported_by, shows_list, booked_same, reported_same, runs_same}
use Rattle.floor.proofs.TablesByValue.{Made, begun, book as put, rounds as run, floor_of, made, made_shows, hold_by}
use Rattle.floor.proofs.Grid.{at4}
use Rattle.floor.proofs.Theorem.{demand3}

-- W 4, hoppers 0 and 3. 3 was delivered to the first; 4, 5 and 6 are on tile 2
unfoldable used : Made
used = put 6 0 40 2 (put 5 0 0 2 (put 4 70 0 2 (run 1 (put 3 0 0 1 (run 2 (begun (several 4 1 9 20)))))))

abbrev f : Floor
f = floor_of used

abbrev m : Model
m = (made used).1

-- 7 and the greatest number go into the first hopper, 4 into the second; 33, 8 and 32 are refused
abbrev calls : List Call
calls = book 1 (can 7 0 0) ∷ book 1 (can 7 40 0) ∷ round ∷ anywhere 1 (2 ^ 32 - 1) ∷ stop 0 ∷ repair 2 ∷ round ∷ []

used_test : ((made used).0 ≡ true) × ((answers_by m calls ≡ 0 ∷ 33 ∷ 0 ∷ 0 ∷ 8 ∷ 32 ∷ 0 ∷ []) × ((booked_by m calls ≡ 7 ∷ (2 ^ 32 - 1) ∷ []) × ((reported_by m calls 0 ≡ 7 ∷ (2 ^ 32 - 1) ∷ []) × (reported_by m calls 1 ≡ 4 ∷ []))))
unfolding holds hold_by used can
used_test = (refl, (refl, (refl, (refl, refl))))

in_range : All InRange calls
unfolding is_in_range all_of can
in_range = all_in_range calls refl

shown : Shows f m
shown = made_shows used used_test.0

later : Shows (floor_after f calls) (value_after_of m calls)
later = shows_list f m shown calls in_range

P : Promises f calls
P = demand3 f shown.well calls in_range

still_well : well_formed (floor_after f calls) ≡ true
still_well = subst (λ (g : Floor). well_formed g ≡ true) P.is_now P.well

same_settings : (floor_after f calls).settings ≡ f.settings
same_settings = subst (λ (g : Floor). g.settings ≡ f.settings) P.is_now P.same_settings

-- 5 and 6 on tile 2
two_there : length (members_of (value_after_of m calls) 2) ≡ 2
unfolding holds hold_by used can
two_there = refl

within_two : all_of (inside f.settings) (members_of (view (floor_after f calls)) 2) ≡ true
within_two = subst (λ (g : Floor). all_of (inside f.settings) (members_of (view g) 2) ≡ true) P.is_now (P.within 2)

spaced_two : pairs_of (apart (spacing f.settings)) (members_of (view (floor_after f calls)) 2) ≡ true
spaced_two = subst (λ (g : Floor). pairs_of (apart (spacing f.settings)) (members_of (view g) 2) ≡ true) P.is_now (P.spaced 2)

-- ---- the numbers: before and now, by the value
numbers_test : (numbers_on m ++ (7 ∷ (2 ^ 32 - 1) ∷ []) ≡ 4 ∷ 5 ∷ 6 ∷ 7 ∷ (2 ^ 32 - 1) ∷ []) × (numbers_on (value_after_of m calls) ++ cat 4 (reported_by m calls) ≡ 5 ∷ 6 ∷ 4 ∷ 7 ∷ (2 ^ 32 - 1) ∷ [])
unfolding holds hold_by used can
numbers_test = (refl, refl)

numbers_before : numbers_on (view f) ++ booked_in f calls ≡ 4 ∷ 5 ∷ 6 ∷ 7 ∷ (2 ^ 32 - 1) ∷ []
numbers_before = ap (λ (x : Model). numbers_on x ++ booked_in f calls) shown.value ∙ ap (λ (l : List ℕ). numbers_on m ++ l) (booked_same f m shown calls in_range ∙ used_test.1.1.0) ∙ numbers_test.0

numbers_now : numbers_on (view (floor_after f calls)) ++ reported_all f calls ≡ 5 ∷ 6 ∷ 4 ∷ 7 ∷ (2 ^ 32 - 1) ∷ []
unfolding reported_all
numbers_now =
    ap (λ (x : Model). numbers_on x ++ cat 4 (reported_in f calls)) later.value
    ∙ ap (λ (g : ℕ → List ℕ). numbers_on (value_after_of m calls) ++ cat 4 g) (fun_ext (reported_same f m shown calls in_range)) ∙ numbers_test.1

kept : Permᴰ {A = ℕ} (4 ∷ 5 ∷ 6 ∷ 7 ∷ (2 ^ 32 - 1) ∷ []) (5 ∷ 6 ∷ 4 ∷ 7 ∷ (2 ^ 32 - 1) ∷ [])
kept =
    let k = subst (λ (g : Floor). Permᴰ (numbers_on (view f) ++ booked_in f calls) (numbers_on (view g) ++ reported_all f calls)) P.is_now P.kept in
    subst (λ (l : List ℕ). Permᴰ {A = ℕ} (4 ∷ 5 ∷ 6 ∷ 7 ∷ (2 ^ 32 - 1) ∷ []) l) numbers_now (subst (λ (l : List ℕ). Permᴰ l (numbers_on (view (floor_after f calls)) ++ reported_all f calls)) numbers_before k)

once_before : pairs_of (λ x y. not (eqb x y)) (4 ∷ 5 ∷ 6 ∷ 7 ∷ (2 ^ 32 - 1) ∷ []) ≡ true
once_before = subst (λ (l : List ℕ). pairs_of (λ x y. not (eqb x y)) l ≡ true) numbers_before P.once_before

once_now : pairs_of (λ x y. not (eqb x y)) (5 ∷ 6 ∷ 4 ∷ 7 ∷ (2 ^ 32 - 1) ∷ []) ≡ true
once_now = subst (λ (l : List ℕ). pairs_of (λ x y. not (eqb x y)) l ≡ true) numbers_now (subst (λ (g : Floor). pairs_of (λ x y. not (eqb x y)) (numbers_on (view g) ++ reported_all f calls) ≡ true) P.is_now P.once_now)

-- ---- the counters: booked 4 + 2; delivered 1 + 2 to the first hopper, 0 + 1 to the second
counters : (m.counters.booked ≡ 4) × ((get_or m.counters.delivered 0 0 ≡ 1) × (get_or m.counters.delivered 1 0 ≡ 0))
unfolding holds hold_by used
counters = (refl, (refl, refl))

booked_six : (floor_after f calls).counters.booked ≡ 6
unfolding view
booked_six =
    subst (λ (g : Floor). g.counters.booked ≡ f.counters.booked + length (booked_in f calls)) P.is_now P.booked
    ∙ ap (λ (x : Model). x.counters.booked + length (booked_in f calls)) shown.value
    ∙ ap (λ (l : List ℕ). m.counters.booked + length l) (booked_same f m shown calls in_range ∙ used_test.1.1.0) ∙ ap (λ (n : ℕ). n + 2) counters.0

-- to hopper k: n before, and l in these rounds
delivered_to : (k n : ℕ) (l : List ℕ) → get_or m.counters.delivered k 0 ≡ n → reported_by m calls k ≡ l → get_or (floor_after f calls).counters.delivered k 0 ≡ n + length l
unfolding view
delivered_to k n l p q =
    subst (λ (g : Floor). get_or g.counters.delivered k 0 ≡ get_or f.counters.delivered k 0 + length (reported_in f calls k)) P.is_now (P.delivered k)
    ∙ ap (λ (x : Model). get_or x.counters.delivered k 0 + length (reported_in f calls k)) shown.value
    ∙ ap (λ (r : List ℕ). get_or m.counters.delivered k 0 + length r) (reported_same f m shown calls in_range k ∙ q) ∙ ap (λ (x : ℕ). x + length l) p

delivered_first : get_or (floor_after f calls).counters.delivered 0 0 ≡ 3
delivered_first = delivered_to 0 1 (7 ∷ (2 ^ 32 - 1) ∷ []) counters.1.0 used_test.1.1.1.0

delivered_second : get_or (floor_after f calls).counters.delivered 1 0 ≡ 1
delivered_second = delivered_to 1 0 (4 ∷ []) counters.1.1 used_test.1.1.1.1

-- ---- the tiles run as the floor now says
running : runs_after_of f calls 1 ≡ runs_of_of (view (floor_after f calls)) 1
running = subst (λ (g : Floor). runs_after_of f calls 1 ≡ runs_of_of (view g) 1) P.is_now (P.runs_now 1)

-- ---- live paths: tile 2 has one, by one step to the second hopper; so it counts; and what counts has one
carry : (Q : Settings → (ℕ → Bool) → Type 0) → Q m.settings (runs_of_of (value_after_of m calls)) → Q f.settings (runs_after_of f calls)
unfolding view
carry Q q =
    subst (λ (x : Model). Q x.settings (runs_after_of f calls)) (sym shown.value)
    (subst (λ (r : ℕ → Bool). Q m.settings r) (fun_ext (λ u. sym (runs_same f m shown calls in_range u))) q)

path : LivePath m.settings (runs_of_of (value_after_of m calls)) 2
unfolding holds hold_by used can
path = step {t = 2} 4 at4 (omega arith) refl (here {t = 3} refl (omega arith) refl)

two_counts : connected f.settings (runs_after_of f calls) 2 ≡ true
two_counts = (P.counts_live 2).0 (carry (λ s r. LivePath s r 2) path)

counted_test : connected m.settings (runs_of_of (value_after_of m calls)) 1 ≡ true
unfolding holds hold_by used can
counted_test = refl

one_lives : LivePath f.settings (runs_after_of f calls) 1
one_lives = (P.counts_live 1).1 (carry (λ s r. connected s r 1 ≡ true) counted_test)
