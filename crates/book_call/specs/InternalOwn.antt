-- The canisters of tile t % 64 as the code reads them: a number beyond the floor reads some other tile.
use Rattle.std.specs.Prelude.{ℕ, ◌%◌}
use Rattle.floor.specs.declared.Floor.{Floor}
use Rattle.round_members.specs.declared.Members.{Members}
use Rattle.floor.specs.Memory.{head_of, block}

abbrev pub own_of : Floor → ℕ → Members
own_of f t = record { items = block f.canisters (t % 64); count = (head_of f (t % 64)).count }
