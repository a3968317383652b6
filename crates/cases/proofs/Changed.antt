-- A floor in memory with one thing changed, for the tables of cases: a tile's head, a place, the counters; and what a reading tells of it.
use mathlib.Core.List.{List, [], ◌∷◌}
use Prim.Native.Nat.{ℕ}
use lib.ListN.{get_or, set}
use Rattle.laws.specs.Define.{tab}
use Rattle.floor.specs.declared.Canister.{Canister}
use Rattle.floor.specs.declared.Settings.{Settings}
use Rattle.floor.specs.declared.Tile.{Tile}
use Rattle.floor.specs.declared.Floor.{Floor}
use Rattle.floor.specs.Memory.{zero_floor, retiled, refilled}
use Rattle.floor.specs.Calls.{fresh_answer, read_answer}
use Rattle.floor.proofs.Calling.{refused}

-- refused: the number, then 1 where the answer has the all-zero floor
unfoldable pub asked : Settings → List ℕ
asked s = refused (fresh_answer s) zero_floor

unfoldable pub head : ℕ → ℕ → ℕ → ℕ → ℕ → Tile
head running distance next token count = record { running = running; distance = distance; next = record { code = next }; token = record { code = token }; count = count }

unfoldable pub with_head : ℕ → Tile → Floor → Floor
with_head t h f = retiled f (set f.tiles t h)

unfoldable pub with_place : ℕ → Canister → Floor → Floor
with_place k c f = refilled f f.counters f.tiles (set f.canisters k c)

-- delivered: to the hoppers in tile order, then zeros
unfoldable pub with_counts : ℕ → ℕ → List ℕ → Floor → Floor
with_counts last booked delivered f = refilled f (record { last = last; booked = booked; delivered = tab 4 (λ k. get_or delivered k 0) }) f.tiles f.canisters

unfoldable pub seen : Floor → List ℕ
seen f = (read_answer f 0).refusal ∷ []
