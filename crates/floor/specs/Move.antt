-- Move.
use Rattle.std.specs.Prelude.{Bool, false, cond, not, List, [], ◌∷◌, map, ℕ, ◌+◌, ◌-◌, leb, ltb, eqb, length, get_or}
use Rattle.laws.specs.Define.{tab, filter}
use Rattle.floor.specs.declared.Canister.{Canister}
use Rattle.floor.specs.declared.Settings.{Settings}
use Rattle.floor.specs.declared.Counters.{Counters}
use Rattle.floor.specs.Sides.{by_side, opposite}
use Rattle.floor.specs.Settings.{total, span, is_hopper, hoppers_of}
use Rattle.floor.specs.Grid.{neighbour}
use Rattle.floor.specs.Model.{TileState, Model, tile_of, next_of, members_of, with_tiles, with_counters, with_members, numbers}

-- "A tile whose arrow leads to a tile that granted it": the side along which it moves, none where it stands still; `ahead` is the grant of the tile that the arrow leads to: grant and arrow face each other where they are opposite sides
unfoldable pub way_of : ℕ → ℕ → ℕ
way_of next ahead = cond (eqb next (opposite ahead)) next 0

abbrev pub at : Canister → ℕ → ℕ → Canister
at c a b = record { number = c.number; a = a; b = b }

-- "A canister crosses if a + l > U (east), b + l > U (north), or a or b would fall below 0", after the shift
unfoldable pub crosses : Settings → ℕ → Canister → Bool
crosses s k c = by_side false (ltb c.a s.travel) (ltb c.b s.travel) (ltb s.width (c.b + s.travel + s.length)) (ltb s.width (c.a + s.travel + s.length)) k

-- "shifts each canister by v along the arrow"
unfoldable pub shift : Settings → ℕ → Canister → Canister
shift s k c = by_side c (at c (c.a - s.travel) c.b) (at c c.a (c.b - s.travel)) (at c c.a (c.b + s.travel)) (at c (c.a + s.travel) c.b) k

-- "It lands at 0 (east, north) or U - l (west, south) on that axis; the other coordinate stays."
unfoldable pub land : Settings → ℕ → Canister → Canister
land s k c = by_side c (at c (span s) c.b) (at c c.a (span s)) (at c c.a 0) (at c 0 c.b) k

-- a tile's canisters that stay on it, and those that leave it, when it moves along side k
unfoldable pub staying : Settings → ℕ → List Canister → List Canister
staying s k l = map (shift s k) (filter (λ c. not (crosses s k c)) l)

unfoldable pub leaving : Settings → ℕ → List Canister → List Canister
leaving s k l = map (land s k) (filter (crosses s k) l)

-- "kept by rising number"
unfoldable pub insert : Canister → List Canister → List Canister
insert c [] = c ∷ []
insert c (x ∷ l) = cond (leb c.number x.number) (c ∷ x ∷ l) (x ∷ insert c l)

unfoldable pub insert_each : List Canister → List Canister → List Canister
insert_each [] l = l
insert_each (c ∷ cs) l = insert_each cs (insert c l)

-- what a tile that grants a side takes in from the neighbour there: `next` is the neighbour's arrow, and the grant ahead of it is this tile's own; where the two don't face each other the way is none, and along none nothing leaves
abbrev pub arriving : Settings → ℕ → ℕ → List Canister → List Canister
arriving s grant next members = leaving s (way_of next grant) members

-- one tile's canisters: its own along its way, and those from the neighbour that it granted; into a hopper, "it leaves the floor"
unfoldable pub members_next : Settings → ℕ → List Canister → List Canister → List Canister
members_next s t own come = cond (is_hopper s t) [] (insert_each come own)

-- g t: the grant of tile t
unfoldable pub arrivals : Model → (ℕ → ℕ) → ℕ → List Canister
arrivals m g t = let from = neighbour m.settings (g t) t in arriving m.settings (g t) (next_of m from) (members_of m from)

unfoldable pub move_tile : Model → (ℕ → ℕ) → ℕ → TileState
move_tile m g t =
    let x = tile_of m t in
    let way = way_of x.next (g (neighbour m.settings x.next t)) in
    with_members x (members_next m.settings t (staying m.settings way x.members) (arrivals m g t))

-- "its number is reported"; "Deliveries are listed for each hopper", the hoppers in tile order
unfoldable pub delivered_by : Model → (ℕ → ℕ) → List (List ℕ)
delivered_by m g = map (λ h. numbers (arrivals m g h)) (hoppers_of m.settings)

abbrev pub with_delivered : Counters → List ℕ → Counters
with_delivered c l = record { last = c.last; booked = c.booked; delivered = l }

-- "the delivered counter rises by one" for each, "and counted for each"
unfoldable pub raised : Counters → List (List ℕ) → Counters
raised c ds = with_delivered c (tab 4 (λ k. get_or c.delivered k 0 + length (get_or ds k [])))

-- "for all tiles together"
unfoldable pub move : Model → (ℕ → ℕ) → Model
move m g = with_counters (with_tiles m (tab (total m.settings) (move_tile m g))) (raised m.counters (delivered_by m g))
