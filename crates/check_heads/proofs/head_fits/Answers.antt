use Prim.Native.Nat.{◌≤◌, ◌<◌}
use borrow.Author.Tests.{lt-ltb, le-ltb}
use Rattle.floor.specs.Settings.{total}
use Rattle.floor.specs.Memory.{head_fits, is_zero_tile}
use Rattle.check_heads.proofs.head_fits.Goals as goal

pub returns-then-t-tile_count : goal.returns-then-t-tile_count
unfolding head_fits
returns-then-t-tile_count c =
    let on : c.args.t < total c.args.s = rw c.tile_count.ensures at c.if-t-tile_count.true in
    rw (lt-ltb c.args.t (total c.args.s) on)

pub returns-else-t-tile_count : goal.returns-else-t-tile_count
unfolding head_fits is_zero_tile
returns-else-t-tile_count c =
    let off : total c.args.s ≤ c.args.t = rw c.tile_count.ensures at c.if-t-tile_count.false in
    rw (c.eq.ensures, le-ltb c.args.t (total c.args.s) off)
