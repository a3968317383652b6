-- Demand 2, the tile numbers and the places of a tile on concrete floors: `local_steps`, `local_reasons`, `numbered` and `capacity`, field by field.
use mathlib.Core.Path.{◌≡◌, refl, sym, ap, ◌∙◌, subst}
use mathlib.Core.Logic.{◌⊎◌, inl}
use mathlib.Core.Bool.{true, cond}
use mathlib.Core.List.{List, [], ◌∷◌}
use Prim.Native.Nat.{ℕ, zero, suc, ◌+◌, ◌*◌, ◌≤◌, ◌<◌}
use native.Mathlib.Omega.{arith}
use lib.Dec.{eqb}
use lib.ListN.{length}
use borrow.Author.Tests.{le-leb}
use Rattle.laws.specs.Define.{bit}
use Rattle.laws.specs.Every.{All, Pairs}
use Rattle.laws.proofs.Tests.{and_true}
use Rattle.floor.specs.declared.Settings.{Settings}
use Rattle.floor.specs.declared.Floor.{Floor}
use Rattle.floor.specs.Settings.{total, spacing, span}
use Rattle.floor.specs.Grid.{neighbour}
use Rattle.floor.specs.Model.{TileState, Model, tile_of, runs_of_of, members_of}
use Rattle.floor.specs.Memory.{view}
use Rattle.floor.specs.Well.{inside}
use Rattle.floor.specs.Route.{route}
use Rattle.floor.specs.Signal.{signal_of}
use Rattle.floor.specs.Move.{arrivals, move_tile}
use Rattle.floor.specs.Reasons.{reason_of, missing_of}
use Rattle.floor.specs.Calls.{book_answer}
use Rattle.floor.specs.Local.{AlikeAround, AlikeAhead}
use Rattle.floor.specs.Numbering.{Numbered}
use Rattle.floor.specs.Capacity.{per_axis, Capacity}
use Rattle.floor.proofs.Calling.{several, settings, can, holds}
use Rattle.floor.proofs.CallsByValue.{Shows}
use Rattle.floor.proofs.TablesByValue.{Made, begun, fresh, book as put, stop as halt, rounds as run, floor_of, made, made_shows, hold_by}
use Rattle.floor.proofs.Locality.{local_steps, local_reasons}
use Rattle.floor.proofs.Numbering.{numbered}
use Rattle.floor.proofs.FreshAndWidths.{capacity}
use Rattle.floor.proofs.AnywhereSamples.{small}
use Rattle.floor.proofs.CommutingInstances.{narrow}

-- ---- demand 2. W 5, hopper 0: 5 on tile 1 and 6 on tile 2. In one floor 7 is on tile 3 and tile 4 is stopped; the other has neither
unfoldable queue : Made
queue = put 6 50 0 2 (put 5 30 0 1 (run 4 (fresh 5 1 0)))

unfoldable longer : Made
longer = halt 4 (put 7 0 0 3 queue)

abbrev m : Model
m = (made queue).1

abbrev n : Model
n = (made longer).1

-- they agree on tile 1 and beside it, and differ on tile 3
beside : (k : ℕ) → tile_of m (neighbour m.settings k 1) ≡ tile_of n (neighbour m.settings k 1)
unfolding holds hold_by queue longer
beside zero = refl
beside (suc zero) = refl
beside (suc (suc zero)) = refl
beside (suc (suc (suc zero))) = refl
beside (suc (suc (suc (suc zero)))) = refl
beside (suc (suc (suc (suc (suc k))))) = refl

alike : AlikeAround m n 1
unfolding holds hold_by queue longer
alike = record { settings = refl; tiles = record { own = refl; beside = beside } }

differ : ¬ (tile_of m 3 ≡ tile_of n 3)
unfolding holds hold_by queue longer
differ e = absurd (omega (arith, ap (λ (x : TileState). length x.members) e))

five_tiles : total m.settings ≡ 5
unfolding holds hold_by queue
five_tiles = refl

-- so each step gives tile 1 the same
same_route : tile_of (route m) 1 ≡ tile_of (route n) 1
same_route = (local_steps m n 1 alike).route (omega (arith, five_tiles))

same_signal : signal_of m 1 ≡ signal_of n 1
same_signal = (local_steps m n 1 alike).signal

-- grants that differ on tile 3 alone
abbrev some : ℕ → ℕ
some t = cond (eqb t 1) 4 (cond (eqb t 0) 4 0)

abbrev more : ℕ → ℕ
more t = cond (eqb t 3) 1 (some t)

grants_beside : (k : ℕ) → some (neighbour m.settings k 1) ≡ more (neighbour m.settings k 1)
unfolding holds hold_by queue
grants_beside zero = refl
grants_beside (suc zero) = refl
grants_beside (suc (suc zero)) = refl
grants_beside (suc (suc (suc zero))) = refl
grants_beside (suc (suc (suc (suc zero)))) = refl
grants_beside (suc (suc (suc (suc (suc k))))) = refl

same_move : move_tile m some 1 ≡ move_tile n more 1
same_move = (local_steps m n 1 alike).move some more (record { own = refl; beside = grants_beside })

same_takes : arrivals m some 1 ≡ arrivals n more 1
same_takes = (local_steps m n 1 alike).takes some more (record { own = refl; beside = grants_beside })

-- why tile 2 stood depends on tile 1, where its arrow leads, and not on tile 3
alike_ahead : AlikeAhead m n 2
unfolding holds hold_by queue longer
alike_ahead = record { settings = refl; own = refl; ahead = 1; is_ahead = refl; tile = refl; turn = refl }

same_reason : reason_of m 2 ≡ reason_of n 2
same_reason = (local_reasons m n 2 alike_ahead).0

same_missing : missing_of m 2 ≡ missing_of n 2
same_missing = (local_reasons m n 2 alike_ahead).1

-- ---- tile numbers. W 3, H 2: tile 3 is in column 1, row 1; tile 4 in column 2, row 0; 6 is no tile
abbrev grid : Settings
grid = settings 3 2 3 20

inner : Numbered grid 1 1
unfolding several settings
inner = (numbered grid).at 1 1 (omega arith) (omega arith)

tile_3 : (3 < 6) × ((neighbour grid 1 3 ≡ 1) × ((neighbour grid 2 3 ≡ 2) × ((neighbour grid 3 3 ≡ 6) × (neighbour grid 4 3 ≡ 5))))
unfolding several settings
tile_3 = (inner.on_floor, (inner.west, (inner.south, (inner.north, inner.east))))

corner : Numbered grid 2 0
unfolding several settings
corner = (numbered grid).at 2 0 (omega arith) (omega arith)

tile_4 : (4 < 6) × ((neighbour grid 1 4 ≡ 2) × ((neighbour grid 2 4 ≡ 6) × ((neighbour grid 3 4 ≡ 5) × (neighbour grid 4 4 ≡ 6))))
unfolding several settings
tile_4 = (corner.on_floor, (corner.west, (corner.south, (corner.north, corner.east))))

-- the only column and row of tile 5
tile_5 : (c : ℕ) × (r : ℕ) × (c ≡ 2) × (r ≡ 1)
unfolding several settings
tile_5 =
    let e = (numbered grid).each 5 (omega arith) in
    let p : e.0 < 3 = e.2 in
    let q : e.1 < 2 = e.3 in
    let s : 5 ≡ e.0 * 2 + e.1 = e.4 in
    (e.0, e.1, omega (arith, p, q, s), omega (arith, p, q, s))

-- and another column and row would be another tile
one_place : (c r : ℕ) → r < 2 → c * 2 + r ≡ 2 * 2 + 1 → (c ≡ 2) × (r ≡ 1)
unfolding several settings
one_place c r h e = (numbered grid).one c r 2 1 h (omega arith) e

-- ---- capacity. U 9, l 3, r 1: two along each axis, so four on a tile; tile 1 holds four
unfoldable four : Made
four = put 4 4 4 1 (put 3 0 4 1 (put 2 4 0 1 (put 1 0 0 1 (begun narrow))))

abbrev f : Floor
f = floor_of four

abbrev v : Model
v = (made four).1

four_test : ((made four).0 ≡ true) × ((length (members_of v 1) ≡ 4) × ((runs_of_of v 1 ≡ true) × (v.counters.last ≡ 4)))
unfolding holds hold_by narrow four
four_test = (refl, (refl, (refl, refl)))

shown : Shows f v
shown = made_shows four four_test.0

same_settings : v.settings ≡ narrow
unfolding holds hold_by four
same_settings = refl

set_up : f.settings ≡ narrow
unfolding view
set_up = ap (λ (x : Model). x.settings) shown.value ∙ same_settings

four_places : per_axis narrow * per_axis narrow ≡ 4
unfolding narrow
four_places = refl

fills : bit narrow.sources 1 ≡ true
unfolding holds narrow
fills = refl

K : Capacity f
K = capacity f shown.well

-- two places along an axis, and never three
fit : (k : ℕ) → k < 2 → k * 4 ≤ 6
unfolding narrow
fit = subst (λ (s : Settings). (k : ℕ) → k < per_axis s → k * spacing s ≤ span s) set_up K.fit

along : (l : List ℕ) → All (λ x. x ≤ 6) l → Pairs (λ x y. (x + 4 ≤ y) ⊎ (y + 4 ≤ x)) l → length l ≤ 2
unfolding narrow
along = subst (λ (s : Settings). (l : List ℕ) → All (λ x. x ≤ span s) l → Pairs (λ x y. (x + spacing s ≤ y) ⊎ (y + spacing s ≤ x)) l → length l ≤ per_axis s) set_up K.along

not_three : (x y z : ℕ) → x + 4 ≤ y → y + 4 ≤ z → ¬ (z ≤ 6)
not_three x y z p q h = absurd (omega (arith, along (x ∷ y ∷ z ∷ []) (omega (arith, p, q, h), (omega (arith, q, h), (h, tt))) ((inl p, (inl (omega (arith, p, q)), tt)), ((inl q, tt), (tt, tt)))))

product : length (members_of (view f) 1) ≤ 4
product = subst (λ (k : ℕ). length (members_of (view f) 1) ≤ k) (ap (λ (s : Settings). per_axis s * per_axis s) set_up ∙ four_places) (K.product 1)

-- l 2, r 0: four along each axis, sixteen in all
sixteen_made : (made (begun (small 2 0))).0 ≡ true
unfolding holds hold_by small
sixteen_made = refl

sixteen : per_axis (floor_of (begun (small 2 0))).settings * per_axis (floor_of (begun (small 2 0))).settings ≤ 16
sixteen = (capacity (floor_of (begun (small 2 0))) (made_shows (begun (small 2 0)) sixteen_made).well).sixteen

-- a fifth on tile 1 is 34, at any place
fifth : (a b : ℕ) → a ≤ 6 → b ≤ 6 → (book_answer f 1 (can 9 a b)).refusal ≡ 34
unfolding view inside narrow can
fifth a b p q =
    K.full 1 (can 9 a b) (ap (λ (x : Model). length (members_of x 1)) shown.value ∙ four_test.1.0 ∙ sym (ap (λ (s : Settings). per_axis s * per_axis s) set_up ∙ four_places))
    (subst (λ (s : Settings). 1 < total s) (sym set_up) (omega arith)) (ap (λ (s : Settings). bit s.sources 1) set_up ∙ fills) (omega arith)
    (ap (λ (s : Settings). inside s (can 9 a b)) set_up ∙ and_true (le-leb a 6 p) (le-leb b 6 q)) (ap (λ (x : Model). runs_of_of x 1) shown.value ∙ four_test.1.1.0)
    (subst (λ (x : Model). x.counters.last < 9) (sym shown.value) (omega (arith, four_test.1.1.1)))
