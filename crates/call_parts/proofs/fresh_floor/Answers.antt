use mathlib.Core.Path.{◌∙◌}
use native.Mathlib.Omega.{arith}
use lib.ListN.{length-set, length-replicate}
use Rattle.laws.proofs.Tables.{upto_turn, rest_turn, zeros_at}
use Rattle.floor.specs.Memory.{zero_tile, head}
use Rattle.floor.specs.Calls.{fresh_tile}
use Rattle.call_parts.proofs.Packed.{fresh_few, fresh_pack}
use borrow.Author.Rules.{rules}
use Rattle.call_parts.proofs.fresh_floor.Goals as goal

pub loop-t-init : goal.loop-t-init
loop-t-init c = record {
  below = omega arith;
  few = omega (arith, fresh_few c.args.s c.requires);
  tiles_length = length-replicate 64 zero_tile;
  fresh = λ i h. absurd (omega arith);
  rest = λ i h. zeros_at zero_tile 64 i;
}

pub loop-t-preserved : goal.loop-t-preserved
loop-t-preserved c =
    let l = c.loop-t in
    record {
      below = omega arith;
      few = l.invariant.few;
      tiles_length = length-set l.tiles l.t _ ∙ l.invariant.tiles_length;
      fresh = upto_turn l.t (λ k. head (fresh_tile _ k)) zero_tile l.tiles _ (omega arith) l.invariant.fresh c.fresh_tile.ensures;
      rest = rest_turn l.t (λ k. zero_tile) zero_tile l.tiles _ l.invariant.rest;
    }

pub returns : goal.returns
returns c = search (fresh_pack, rules)
