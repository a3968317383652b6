-- [8] on concrete floors, beside LayoutInstances: `named_layouts` and `spelling` field by field.
use mathlib.Core.Path.{◌≡◌, refl, sym, ap, ◌∙◌, subst}
use mathlib.Core.Logic.{inl, inr, ◌↔◌}
use mathlib.Core.Bool.{Bool, true, false, cond, not, ◌&&◌, ◌||◌}
use mathlib.Core.List.{List, [], ◌∷◌}
use Prim.Native.Nat.{ℕ, suc, ◌<◌}
use native.Mathlib.Omega.{arith}
use lib.Dec.{eqb}
use lib.ListN.{length, replicate}
use borrow.Author.Tests.{eqb-false, eq-eqb}
use Rattle.laws.specs.Define.{bit}
use Rattle.laws.specs.Every.{All}
use Rattle.floor.specs.declared.Floor.{Floor}
use Rattle.floor.specs.Settings.{total}
use Rattle.floor.specs.Layouts.{name_number, letters, name_held, set_of}
use Rattle.floor.specs.Model.{Model, runs_of_of}
use Rattle.floor.specs.Memory.{zero_settings, zero_layout, zero_floor, view, head_of}
use Rattle.floor.specs.Calls.{fresh_answer, running_set}
use Rattle.floor.specs.Demand3.{Call, book, anywhere, stop, repair, round, keep, forget, recall, outcome, floor_after, recall_set, recall_makes, runs_by, latest, disturbs}
use Rattle.floor.specs.Named.{recall_calls, AllAccepted, Recalling, SameButLayouts, Keeping, Forgetting, Before}
use Rattle.floor.proofs.Calling.{settings, can, named, holds}
use Rattle.floor.proofs.CallsByValue.{Shows, refusal_by, shows_refusal}
use Rattle.floor.proofs.ListsByValue.{makes_by, disturbs_by, call_disturbs}
use Rattle.floor.proofs.TablesByValue.{Made, fresh, book as put, rounds as run, stop as halt, repair as mend, keep as kept, floor_of, made, made_shows, hold_by}
use Rattle.floor.proofs.Named.{named_layouts}
use Rattle.floor.proofs.Names.{spelling}
use Rattle.floor.proofs.LayoutInstances.{needed_by, recall_calls_lem}

abbrev A : ℕ
A = named (65 ∷ [])

abbrev B : ℕ
B = named (66 ∷ [])

abbrev C : ℕ
C = named (67 ∷ [])

module _ (f : Floor) (m : Model) (s : Shows f m) where
  makes : (name t : ℕ) → recall_makes f name t ≡ makes_by m name t
  unfolding recall_makes recall_set makes_by view
  makes name t = ap (λ (x : Model). makes_by x name t) s.value

-- ---- a recall. W 5, hopper 0: 4 was delivered, 5 is on tile 4. A is kept without tiles 1 and 3; now tile 2 is stopped
unfoldable row : Made
row = halt 2 (mend 3 (mend 1 (kept A (halt 3 (halt 1 (put 5 70 0 4 (run 4 (put 4 0 0 1 (fresh 5 1 0)))))))))

abbrev f : Floor
f = floor_of row

abbrev m : Model
m = (made row).1

abbrev three : List Call
three = stop 1 ∷ repair 2 ∷ stop 3 ∷ []

row_test : ((made row).0 ≡ true) × ((refusal_by m (recall A) ≡ 0) × ((needed_by m (set_of m.layouts A) 0 (total m.settings) ≡ three) × ((total m.settings ≡ 5) × (makes_by m A 4 ≡ false))))
unfolding holds hold_by row needed_by makes_by
row_test = (refl, (refl, (refl, (refl, refl))))

shown : Shows f m
shown = made_shows row row_test.0

accepted : (outcome f (recall A)).refusal ≡ 0
accepted = shows_refusal f m shown (recall A) ∙ row_test.1.0

calls : recall_calls f A ≡ three
calls = recall_calls_lem f m shown A ∙ row_test.1.1.0

on_floor : (t : ℕ) → t < 5 → t < total f.settings
unfolding view
on_floor t l = subst (λ (x : Model). t < total x.settings) (sym shown.value) (omega (arith, l, row_test.1.1.1.0))

R : Recalling f A
R = (named_layouts.0 f).recalling A accepted

-- it is these three calls, in rising tile number, and each is accepted
row_made : floor_after f (stop 1 ∷ repair 2 ∷ stop 3 ∷ []) ≡ (outcome f (recall A)).floor
row_made = subst (λ (l : List Call). floor_after f l ≡ R.after) calls R.made ∙ R.is_after

row_accepted : ((outcome f (stop 1)).refusal ≡ 0) × (((outcome (outcome f (stop 1)).floor (repair 2)).refusal ≡ 0) × ((outcome (outcome (outcome f (stop 1)).floor (repair 2)).floor (stop 3)).refusal ≡ 0))
row_accepted = let a = subst (AllAccepted f) calls R.none_refused in (a.0, (a.1.0, a.1.1.0))

-- by the set: tile 1 stands, tile 2 runs
set_test : (bit (set_of m.layouts A) 1 ≡ false) × (bit (set_of m.layouts A) 2 ≡ true)
unfolding holds hold_by row
set_test = (refl, refl)

row_runs : (runs_of_of (view (outcome f (recall A)).floor) 1 ≡ false) × (runs_of_of (view (outcome f (recall A)).floor) 2 ≡ true)
unfolding recall_set
row_runs =
    let at : (t : ℕ) → t < 5 → runs_of_of (view (outcome f (recall A)).floor) t ≡ bit (set_of m.layouts A) t =
    λ t l. subst (λ (g : Floor). runs_of_of (view g) t ≡ bit (recall_set f A) t) R.is_after (R.runs t (on_floor t l)) ∙ ap (λ (x : Model). bit (set_of x.layouts A) t) shown.value in
    (at 1 (omega arith) ∙ set_test.0, at 2 (omega arith) ∙ set_test.1)

row_untouched : head_of (outcome f (recall A)).floor 4 ≡ head_of f 4
row_untouched = subst (λ (g : Floor). head_of g 4 ≡ head_of f 4) R.is_after (R.untouched 4 (makes f m shown A 4 ∙ row_test.1.1.1.1))

row_canisters : (outcome f (recall A)).floor.canisters ≡ f.canisters
row_canisters = subst (λ (g : Floor). g.canisters ≡ f.canisters) R.is_after R.same_canisters

row_settings : (outcome f (recall A)).floor.settings ≡ f.settings
row_settings = subst (λ (g : Floor). g.settings ≡ f.settings) R.is_after R.same_settings

-- the counters: last 5, booked 2, delivered 1
counters_test : m.counters ≡ record { last = 5; booked = 2; delivered = 1 ∷ 0 ∷ 0 ∷ 0 ∷ [] }
unfolding holds hold_by row
counters_test = refl

row_counters : (outcome f (recall A)).floor.counters ≡ record { last = 5; booked = 2; delivered = 1 ∷ 0 ∷ 0 ∷ 0 ∷ [] }
unfolding view
row_counters = subst (λ (g : Floor). g.counters ≡ f.counters) R.is_after R.same_counters ∙ ap (λ (x : Model). x.counters) shown.value ∙ counters_test

-- it counts as these calls: for tile 2, whatever was said of it before, and where it is no quiet list's
row_counts : (r : Bool) → runs_by f (recall A) 2 r ≡ latest f (stop 1 ∷ repair 2 ∷ stop 3 ∷ []) 2 r
row_counts r = subst (λ (l : List Call). runs_by f (recall A) 2 r ≡ latest f l 2 r) calls (R.counts 2 r)

row_disturbs : ¬ (disturbs f (recall A) ≡ false)
row_disturbs q = none (sym calls ∙ R.ends.0 q)
  where
    none : ¬ (three ≡ [])
    none e = absurd (omega (arith, ap length e))

-- a recall of the layout just kept needs nothing, and ends no quiet list
unfoldable still : Made
still = kept B row

still_test : ((made still).0 ≡ true) × ((refusal_by (made still).1 (recall B) ≡ 0) × ((needed_by (made still).1 (set_of (made still).1.layouts B) 0 (total (made still).1.settings) ≡ []) × (disturbs_by (made still).1 (recall B) ≡ false)))
unfolding holds hold_by row still needed_by disturbs_by
still_test = (refl, (refl, (refl, refl)))

still_shows : Shows (floor_of still) (made still).1
still_shows = made_shows still still_test.0

still_recalling : Recalling (floor_of still) B
still_recalling = (named_layouts.0 (floor_of still)).recalling B (shows_refusal (floor_of still) (made still).1 still_shows (recall B) ∙ still_test.1.0)

still_quiet : disturbs (floor_of still) (recall B) ≡ false
still_quiet = still_recalling.ends.1 (recall_calls_lem (floor_of still) (made still).1 still_shows B ∙ still_test.1.1.0)

still_none : recall_calls (floor_of still) B ≡ []
still_none = still_recalling.ends.0 (call_disturbs (floor_of still) (made still).1 still_shows (recall B) ∙ still_test.1.1.1)

-- ---- keeping: A, which is held, on the same floor, and B
keep_test : ((refusal_by m (keep A) ≡ 0) × (refusal_by m (keep B) ≡ 0)) × ((runs_of_of m 1 ≡ true) × ((runs_of_of m 2 ≡ false) × ((running_set m ≡ 27) × ((set_of m.layouts A ≡ 21) × ((name_held m.layouts A ≡ true) × (name_held m.layouts C ≡ false))))))
unfolding holds hold_by row
keep_test = ((refl, refl), (refl, (refl, (refl, (refl, (refl, refl))))))

keeps : (name : ℕ) → refusal_by m (keep name) ≡ 0 → Keeping f name
keeps name e = (named_layouts.0 f).keeping name (shows_refusal f m shown (keep name) ∙ e)

-- the floor after keeping A, and after keeping B
abbrev with_a : Floor
with_a = (outcome f (keep A)).floor

abbrev with_b : Floor
with_b = (outcome f (keep B)).floor

keep_ran : (bit (set_of (view with_a).layouts A) 1 ≡ true) × (bit (set_of (view with_a).layouts A) 2 ≡ false)
keep_ran =
    let K = keeps A keep_test.0.0 in
    let at : (t : ℕ) → t < 5 → bit (set_of (view with_a).layouts A) t ≡ runs_of_of m t =
    λ t l. subst (λ (g : Floor). bit (set_of (view g).layouts A) t ≡ runs_of_of (view f) t) K.is_after (K.ran t (on_floor t l)) ∙ ap (λ (x : Model). runs_of_of x t) shown.value in
    (at 1 (omega arith) ∙ keep_test.1.0, at 2 (omega arith) ∙ keep_test.1.1.0)

-- after keeping B: A and B are held, C is not; A's set stays, B's is the tiles that run, 0, 1, 3 and 4; A kept anew has that set
other_names : (eqb B A ≡ false) × (eqb B C ≡ false)
unfolding holds
other_names = (refl, refl)

keep_names : (name_held (view with_b).layouts A ≡ true) × ((name_held (view with_b).layouts B ≡ true) × (name_held (view with_b).layouts C ≡ false))
keep_names =
    let K = keeps B keep_test.0.1 in
    let at : (o : ℕ) → name_held (view with_b).layouts o ≡ (eqb B o || name_held m.layouts o) =
    λ o. subst (λ (g : Floor). name_held (view g).layouts o ≡ (eqb B o || name_held (view f).layouts o)) K.is_after (K.names o) ∙ ap (λ (x : Model). eqb B o || name_held x.layouts o) shown.value in
    (at A ∙ ap (λ (b : Bool). eqb B A || b) keep_test.1.1.1.1.1.0 ∙ ap (λ (b : Bool). b || true) other_names.0, (at B ∙ ap (λ (b : Bool). b || name_held m.layouts B) (eq-eqb B B refl), at C ∙ ap (λ (b : Bool). eqb B C || b) keep_test.1.1.1.1.1.1 ∙ ap (λ (b : Bool). b || false) other_names.1))

sets_at : (name : ℕ) → refusal_by m (keep name) ≡ 0 → (o : ℕ) → set_of (view (outcome f (keep name)).floor).layouts o ≡ cond (eqb name o) (running_set m) (set_of m.layouts o)
sets_at name e o =
    let K = keeps name e in
    subst (λ (g : Floor). set_of (view g).layouts o ≡ cond (eqb name o) (running_set (view f)) (set_of (view f).layouts o)) K.is_after (K.sets o)
    ∙ ap (λ (x : Model). cond (eqb name o) (running_set x) (set_of x.layouts o)) shown.value

keep_sets : (set_of (view with_b).layouts A ≡ 21) × ((set_of (view with_b).layouts B ≡ 27) × (set_of (view with_a).layouts A ≡ 27))
keep_sets =
    let own : (name : ℕ) → cond (eqb name name) (running_set m) (set_of m.layouts name) ≡ 27 = λ name. ap (λ (b : Bool). cond b (running_set m) (set_of m.layouts name)) (eq-eqb name name refl) ∙ keep_test.1.1.1.0 in
    (sets_at B keep_test.0.1 A ∙ ap (λ (b : Bool). cond b (running_set m) (set_of m.layouts A)) other_names.0 ∙ keep_test.1.1.1.1.0, (sets_at B keep_test.0.1 B ∙ own B, sets_at A keep_test.0.0 A ∙ own A))

-- ---- forgetting the fourth of eight names: D is free, the others stay
abbrev letter : ℕ → ℕ
letter n = named (n ∷ [])

unfoldable eight : Made
eight = kept (letter 72) (kept (letter 71) (kept (letter 70) (kept (letter 69) (kept (letter 68) (kept C (kept B (kept A (halt 1 (fresh 3 1 0)))))))))

abbrev g : Floor
g = floor_of eight

abbrev n : Model
n = (made eight).1

abbrev D : ℕ
D = letter 68

eight_test : ((made eight).0 ≡ true) × ((refusal_by n (forget D) ≡ 0) × ((length n.layouts ≡ 8) × ((name_held n.layouts C ≡ true) × ((set_of n.layouts C ≡ 5) × (eqb D C ≡ false)))))
unfolding holds hold_by eight
eight_test = (refl, (refl, (refl, (refl, (refl, refl)))))

eight_shows : Shows g n
eight_shows = made_shows eight eight_test.0

F : Forgetting g D
F = (named_layouts.0 g).forgetting D (shows_refusal g n eight_shows (forget D) ∙ eight_test.1.0)

abbrev without : Floor
without = (outcome g (forget D)).floor

forget_names : (name_held (view without).layouts C ≡ true) × (name_held (view without).layouts D ≡ false)
forget_names =
    let at : (o : ℕ) → name_held (view without).layouts o ≡ (not (eqb D o) && name_held n.layouts o) =
    λ o. subst (λ (h : Floor). name_held (view h).layouts o ≡ (not (eqb D o) && name_held (view g).layouts o)) F.is_after (F.names o) ∙ ap (λ (x : Model). not (eqb D o) && name_held x.layouts o) eight_shows.value in
    (at C ∙ ap (λ (b : Bool). not b && name_held n.layouts C) eight_test.1.1.1.1.1 ∙ eight_test.1.1.1.0, at D ∙ ap (λ (b : Bool). not b && name_held n.layouts D) (eq-eqb D D refl))

forget_sets : set_of (view without).layouts C ≡ 5
forget_sets =
    subst (λ (h : Floor). set_of (view h).layouts C ≡ set_of (view g).layouts C) F.is_after (F.sets C (eqb-false D C eight_test.1.1.1.1.1))
    ∙ ap (λ (x : Model). set_of x.layouts C) eight_shows.value ∙ eight_test.1.1.1.1.0

forget_frees : suc (length (view without).layouts) ≡ 8
forget_frees = sym (subst (λ (h : Floor). length (view g).layouts ≡ suc (length (view h).layouts)) F.is_after F.frees) ∙ ap (λ (x : Model). length x.layouts) eight_shows.value ∙ eight_test.1.1.0

-- ---- all but the layouts stays: accepted, refused (44, 46), and on a malformed floor
same_but : (a b : Floor) → SameButLayouts a b → (b.settings ≡ a.settings) × ((b.counters ≡ a.counters) × ((b.tiles ≡ a.tiles) × (b.canisters ≡ a.canisters)))
same_but a b S = (S.same_settings, (S.same_counters, (S.same_tiles, S.same_canisters)))

abbrev Leaves : Floor → Floor → Type 0
Leaves a b = (b.settings ≡ a.settings) × ((b.counters ≡ a.counters) × ((b.tiles ≡ a.tiles) × (b.canisters ≡ a.canisters)))

keep_leaves : Leaves f (outcome f (keep B)).floor × (Leaves g (outcome g (keep (letter 73))).floor × Leaves zero_floor (outcome zero_floor (keep 0)).floor)
keep_leaves = (same_but f _ ((named_layouts.0 f).keep_leaves B), (same_but g _ ((named_layouts.0 g).keep_leaves (letter 73)), same_but zero_floor _ ((named_layouts.0 zero_floor).keep_leaves 0)))

forget_leaves : Leaves g (outcome g (forget D)).floor × (Leaves f (outcome f (forget B)).floor × Leaves zero_floor (outcome zero_floor (forget A)).floor)
forget_leaves = (same_but g _ ((named_layouts.0 g).forget_leaves D), (same_but f _ ((named_layouts.0 f).forget_leaves B), same_but zero_floor _ ((named_layouts.0 zero_floor).forget_leaves A)))

-- ---- no other call changes them
layouts_stay : ((outcome f (stop 0)).floor.layouts ≡ f.layouts) × (((outcome f (stop 1)).floor.layouts ≡ f.layouts) × (((outcome f (repair 2)).floor.layouts ≡ f.layouts) × (((outcome f round).floor.layouts ≡ f.layouts) × (((outcome f (recall A)).floor.layouts ≡ f.layouts)
    × (((outcome f (book 1 (can 6 0 0))).floor.layouts ≡ f.layouts) × (((outcome f (anywhere 1 6)).floor.layouts ≡ f.layouts) × ((outcome zero_floor (stop 0)).floor.layouts ≡ zero_floor.layouts)))))))
layouts_stay =
    let S = (named_layouts.0 f).layouts_stay in
    (S (stop 0) refl, (S (stop 1) refl, (S (repair 2) refl, (S round refl, (S (recall A) refl, (S (book 1 (can 6 0 0)) refl, (S (anywhere 1 6) refl, (named_layouts.0 zero_floor).layouts_stay (stop 0) refl)))))))

-- a fresh floor has none, accepted or refused
fresh_none : ((fresh_answer (settings 3 1 0 20)).floor.layouts ≡ replicate 8 zero_layout) × ((fresh_answer zero_settings).floor.layouts ≡ replicate 8 zero_layout)
fresh_none = (named_layouts.1 (settings 3 1 0 20), named_layouts.1 zero_settings)

-- ---- names: the bytes of AB are those of its number, the last of 255 too; AB before B, which is not before it
abbrev AB : List ℕ
AB = 65 ∷ 66 ∷ 0 ∷ []

abbrev BA : List ℕ
BA = 66 ∷ 0 ∷ 0 ∷ []

is_bytes : (x y z : ℕ) → x < 256 → y < 256 → z < 256 → All (λ b. b < 256) (x ∷ y ∷ z ∷ [])
is_bytes x y z p q r = (p, (q, (r, tt)))

bytes : (letters 3 (name_number AB) ≡ 65 ∷ 66 ∷ 0 ∷ []) × (letters 3 (name_number (0 ∷ 255 ∷ 255 ∷ [])) ≡ 0 ∷ 255 ∷ 255 ∷ [])
bytes = (spelling.bytes AB (is_bytes 65 66 0 (omega arith) (omega arith) (omega arith)), spelling.bytes (0 ∷ 255 ∷ 255 ∷ []) (is_bytes 0 255 255 (omega arith) (omega arith) (omega arith)))

orders : (l k : List ℕ) → All (λ b. b < 256) l → All (λ b. b < 256) k → length l ≡ length k → name_number l < name_number k ↔ Before l k
orders l k p q e = let r = spelling.rising l k p q e in (r.0, r.1)

-- by the first letter, and by the second where the first is the same
rises : (name_number AB < name_number BA) × (name_number (65 ∷ 0 ∷ 0 ∷ []) < name_number AB)
rises =
    let A0 = is_bytes 65 0 0 (omega arith) (omega arith) (omega arith) in
    let A1 = is_bytes 65 66 0 (omega arith) (omega arith) (omega arith) in
    let B0 = is_bytes 66 0 0 (omega arith) (omega arith) (omega arith) in
    ((orders AB BA A1 B0 refl).1 (inl (omega arith)), (orders (65 ∷ 0 ∷ 0 ∷ []) AB A0 A1 refl).1 (inr (refl, inl (omega arith))))

-- from the numbers: AB is before B, and B is not before AB
before : Before AB BA
unfolding name_number
before = (orders AB BA (is_bytes 65 66 0 (omega arith) (omega arith) (omega arith)) (is_bytes 66 0 0 (omega arith) (omega arith) (omega arith)) refl).0 (omega arith)

not_before : ¬ (name_number BA < name_number AB)
not_before h = none ((orders BA AB (is_bytes 66 0 0 (omega arith) (omega arith) (omega arith)) (is_bytes 65 66 0 (omega arith) (omega arith) (omega arith)) refl).0 h)
  where
    none : Before BA AB → ⊥
    none (inl p) = absurd (omega (arith, p))
    none (inr p) = absurd (omega (arith, p.0))
