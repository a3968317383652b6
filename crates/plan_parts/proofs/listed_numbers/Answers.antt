use Rattle.std.proofs.Common.{◌≡◌, ◌∙◌, ℕ, zero, ap, arith}
use Rattle.std.proofs.Math.ListN.{replicate, length-replicate}
use Rattle.plan_parts.proofs.Listed.{listed_upto, listed_none, listed_turn, listed_all, four_each}
use Rattle.plan_parts.proofs.Sized.{deliveries_length}
use Rattle.plan_parts.proofs.listed_numbers.Goals as goal

pub loop-d-init : goal.loop-d-init
loop-d-init c =
    record { no_more = omega arith; items_length = length-replicate 16 zero; listed = listed_none c.args.given.deliveries (replicate 16 zero) }

pub with_listed-next-requires : goal.with_listed-next-requires
with_listed-next-requires c = (omega arith, four_each c.args.given.deliveries c.requires c.loop-d.d-index)

pub overflow_add-count : goal.overflow_add-count
overflow_add-count c =
    let few = four_each c.args.given.deliveries c.requires c.loop-d.d-index in
    record { fits = omega arith }

pub loop-d-preserved : goal.loop-d-preserved
loop-d-preserved c =
    let l = c.loop-d in
    let ds = c.args.given.deliveries in
    let few = four_each ds c.requires l.d-index in
    record {
      no_more = omega arith;
      items_length = c.with_listed-next.type_inv.1.0.1;
      listed = listed_turn ds l.d-index l.items c.with_listed-next.result l.count (omega arith) l.invariant.listed c.with_listed-next.ensures;
    }

pub returns : goal.returns
returns c =
    let l = c.loop-d in
    let r = c.args.given in
    let e : l.d-index ≡ 4 = omega arith in
    (omega arith, l.invariant.listed ∙ ap (λ (h : ℕ). listed_upto h r.deliveries) e ∙ listed_all r (deliveries_length r _ c.well_formed.0))
