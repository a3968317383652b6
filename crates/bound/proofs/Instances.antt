-- `within_bound` on a concrete floor, field by field: two hoppers, canisters on three tiles, a tile stopped by the list, refused calls in both lists.
use mathlib.Core.Path.{◌≡◌, refl, sym, ap, ◌∙◌, subst, fun_ext}
use mathlib.Core.Bool.{Bool, true}
use mathlib.Core.List.{List, [], ◌∷◌, ◌++◌, Permᴰ}
use Prim.Native.Nat.{ℕ, ◌≤◌}
use lib.ListN.{length}
use native.Mathlib.Omega.{arith}
use Rattle.laws.specs.Define.{cat, all_of}
use Rattle.laws.specs.Every.{All}
use Rattle.floor.specs.declared.Settings.{Settings}
use Rattle.floor.specs.declared.Floor.{Floor}
use Rattle.floor.specs.Model.{Model, runs_of_of, members_of, numbers_on}
use Rattle.floor.specs.Memory.{view}
use Rattle.floor.specs.Bound.{bound}
use Rattle.floor.specs.Live.{LivePath, here, step, connected}
use Rattle.floor.specs.Demand3.{Call, book, stop, repair, round, InRange, floor_after, reported_all, runs_after_of, rounds_in}
use Rattle.floor.proofs.Calling.{several, can, holds}
use Rattle.floor.proofs.CallsByValue.{Shows}
use Rattle.floor.proofs.ListsByValue.{is_in_range, all_in_range, value_after_of, answers_by, reported_by, quiet_by_lem, shows_list, reported_same, runs_same, quiet}
use Rattle.floor.proofs.TablesByValue.{Made, begun, book as put, floor_of, made, made_shows, hold_by}
use Rattle.floor.proofs.Instances.{rounds}
use Rattle.floor.proofs.Grid.{at4}
use Rattle.bound.specs.declared.Bounded.{Bounded}
use Rattle.bound.specs.Answer.{numbers_where, connected_numbers, unconnected_numbers, bound_answer}
use Rattle.bound.specs.Within.{Further, WithinBound}
use Rattle.bound.proofs.Within.{within_bound}
use Rattle.bound.proofs.Samples.{bound_by, shows_bound}

-- W 6, hoppers 0 and 5. 4 and 6 are on tile 1, 5 on tile 3, 7 on tile 4
unfoldable used : Made
used = put 7 0 0 4 (put 6 30 0 1 (put 5 0 0 3 (put 4 70 0 1 (begun (several 6 1 33 20)))))

abbrev f : Floor
f = floor_of used

-- tile 3 stops with 5 on it, and the second stop is 31
abbrev calls : List Call
calls = round ∷ stop 3 ∷ stop 3 ∷ []

abbrev now : Floor
now = floor_after f calls

abbrev m : Model
m = value_after_of (made used).1 calls

-- 65 rounds, with a refused booking (33), stop (8) and repair (32) between them
abbrev later : List Call
later = book 1 (can 7 0 40) ∷ round ∷ stop 0 ∷ repair 2 ∷ rounds 64

used_test : ((made used).0 ≡ true) × ((answers_by (made used).1 calls ≡ 0 ∷ 0 ∷ 31 ∷ []) × (bound_by m ≡ record { rounds = 65; connected = 3; unconnected = 1; refusal = 0 }))
unfolding holds hold_by used can bound_by numbers_where unconnected_numbers
used_test = (refl, (refl, refl))

in_range : All InRange calls
unfolding is_in_range all_of can
in_range = all_in_range calls refl

later_typed : All InRange later
unfolding is_in_range all_of can
later_typed = all_in_range later refl

first : Shows f (made used).1
first = made_shows used used_test.0

shown : Shows now m
shown = shows_list f (made used).1 first calls in_range

W : WithinBound now (runs_after_of f calls)
W = within_bound f first.well calls in_range

-- ---- the answer: (6 - 1) × (1 + 3 × 4) rounds, three canisters with a live path and one without
answer : bound_answer now ≡ record { rounds = 65; connected = 3; unconnected = 1; refusal = 0 }
answer = shows_bound now m shown ∙ used_test.1.1

accepted : (bound_answer now).refusal ≡ 0
accepted = W.accepted

rounds_are : (bound_answer now).rounds ≡ bound now.settings (bound_answer now).connected
rounds_are = W.rounds

-- ---- the numbers: 7 on tile 4, 4 and 6 on tile 1; 5 on tile 3
runs : runs_after_of f calls ≡ runs_of_of m
runs = fun_ext (runs_same f (made used).1 first calls in_range)

parts_test : (connected_numbers m (runs_of_of m) ≡ 7 ∷ 4 ∷ 6 ∷ []) × ((unconnected_numbers m (runs_of_of m) ≡ 5 ∷ []) × (numbers_on m ≡ 7 ∷ 5 ∷ 4 ∷ 6 ∷ []))
unfolding holds hold_by used can numbers_where connected_numbers unconnected_numbers
parts_test = (refl, (refl, refl))

with_path : connected_numbers (view now) (runs_after_of f calls) ≡ 7 ∷ 4 ∷ 6 ∷ []
with_path = (λ i. connected_numbers (shown.value i) (runs i)) ∙ parts_test.0

without : unconnected_numbers (view now) (runs_after_of f calls) ≡ 5 ∷ []
without = (λ i. unconnected_numbers (shown.value i) (runs i)) ∙ parts_test.1.0

on_now : numbers_on (view now) ≡ 7 ∷ 5 ∷ 4 ∷ 6 ∷ []
on_now = ap numbers_on shown.value ∙ parts_test.1.1

-- K is 3, one is left, and these four are all
counted : (bound_answer now).connected ≡ 3
counted = W.counted ∙ ap length with_path

others : (bound_answer now).unconnected ≡ 1
others = W.others ∙ ap length without

aboard : Permᴰ {A = ℕ} (7 ∷ 5 ∷ 4 ∷ 6 ∷ []) (7 ∷ 4 ∷ 6 ∷ 5 ∷ [])
aboard =
    subst (λ (l : List ℕ). Permᴰ l (7 ∷ 4 ∷ 6 ∷ 5 ∷ [])) on_now
    (subst (λ (l : List ℕ). Permᴰ (numbers_on (view now)) (7 ∷ 4 ∷ 6 ∷ l)) without
    (subst (λ (l : List ℕ). Permᴰ (numbers_on (view now)) (l ++ unconnected_numbers (view now) (runs_after_of f calls))) with_path W.aboard))

at_least : 1 ≤ (bound_answer now).rounds
at_least = W.at_least

at_most : (bound_answer now).rounds ≤ 3810176559
at_most = W.at_most

-- ---- live paths: tile 4 has one, by a step to the hopper 5, so it counts; tile 1 counts, so it has one
carry : (Q : Settings → (ℕ → Bool) → Type 0) → Q m.settings (runs_of_of m) → Q now.settings (runs_after_of f calls)
unfolding view
carry Q q =
    subst (λ (x : Model). Q x.settings (runs_after_of f calls)) (sym shown.value)
    (subst (λ (r : ℕ → Bool). Q m.settings r) (sym runs) q)

path : LivePath m.settings (runs_of_of m) 4
unfolding holds hold_by used can
path = step {t = 4} 4 at4 (omega arith) refl (here {t = 5} refl (omega arith) refl)

four_counts : connected now.settings (runs_after_of f calls) 4 ≡ true
four_counts = (W.paths 4).0 (carry (λ s r. LivePath s r 4) path)

counted_test : connected m.settings (runs_of_of m) 1 ≡ true
unfolding holds hold_by used can
counted_test = refl

one_lives : LivePath now.settings (runs_after_of f calls) 1
one_lives = (W.paths 1).1 (carry (λ s r. connected s r 1 ≡ true) counted_test)

-- ---- the further list
quiet_test : (quiet_by_lem m later ≡ true) × ((answers_by m (book 1 (can 7 0 40) ∷ stop 0 ∷ repair 2 ∷ []) ≡ 33 ∷ 8 ∷ 32 ∷ []) × ((cat 4 (reported_by m later) ≡ 7 ∷ 6 ∷ 4 ∷ []) × (numbers_on (value_after_of m later) ≡ 5 ∷ [])))
unfolding holds hold_by used can quiet_by_lem
quiet_test = (refl, (refl, (refl, refl)))

further : Further now later
further = (later_typed, (quiet now m shown later later_typed quiet_test.0, subst (λ (r : Bounded). r.rounds ≤ rounds_in later) (sym answer) (omega arith)))

-- tiles 4 and 1 are empty
four_empty : members_of (view (floor_after now later)) 4 ≡ []
four_empty = W.emptied later further 4 (carry (λ s r. LivePath s r 4) path)

one_empty : members_of (view (floor_after now later)) 1 ≡ []
one_empty = W.emptied later further 1 one_lives

-- 7, 6 and 4 were reported, which are those counted; 5 is left
reported : reported_all now later ≡ 7 ∷ 6 ∷ 4 ∷ []
unfolding reported_all
reported = ap (cat 4) (fun_ext (reported_same now m shown later later_typed)) ∙ quiet_test.1.1.0

delivered : Permᴰ {A = ℕ} (7 ∷ 6 ∷ 4 ∷ []) (7 ∷ 4 ∷ 6 ∷ [])
delivered = subst (λ (l : List ℕ). Permᴰ l (7 ∷ 4 ∷ 6 ∷ [])) reported (subst (λ (l : List ℕ). Permᴰ (reported_all now later) l) with_path (W.delivered later further))

left : Permᴰ {A = ℕ} (5 ∷ []) (5 ∷ [])
left =
    subst (λ (l : List ℕ). Permᴰ l (5 ∷ [])) (ap numbers_on (shows_list now m shown later later_typed).value ∙ quiet_test.1.1.1)
    (subst (λ (l : List ℕ). Permᴰ (numbers_on (view (floor_after now later))) l) without (W.left later further))
