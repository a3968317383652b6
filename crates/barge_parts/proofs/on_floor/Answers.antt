use native.Mathlib.Omega.{arith}
use Rattle.floor.proofs.Sized.{delivered_length}
use Rattle.barge_parts.proofs.Joint.{sum_four}
use Rattle.barge_parts.proofs.on_floor.Goals as goal

pub returns-then-not-well : goal.returns-then-not-well
returns-then-not-well c = (rw (c.if-not-well.true), omega arith)

pub overflow_add-result : goal.overflow_add-result
overflow_add-result c = let g = c.args in
    let few = c.requires (c.if-not-well.false) in
    let four = sum_four (g.c).delivered (delivered_length g.c _ c.well_formed.0) in
    omega (arith, few, four)

pub overflow_add-result-2 : goal.overflow_add-result-2
overflow_add-result-2 c = let g = c.args in
    let few = c.requires (c.if-not-well.false) in
    let four = sum_four (g.c).delivered (delivered_length g.c _ c.well_formed.0) in
    omega (arith, few, four)

pub overflow_add-result-3 : goal.overflow_add-result-3
overflow_add-result-3 c = let g = c.args in
    let few = c.requires (c.if-not-well.false) in
    let four = sum_four (g.c).delivered (delivered_length g.c _ c.well_formed.0) in
    omega (arith, few, four)

pub overflow_sub-result : goal.overflow_sub-result
overflow_sub-result c = let g = c.args in
    let few = c.requires (c.if-not-well.false) in
    let four = sum_four (g.c).delivered (delivered_length g.c _ c.well_formed.0) in
    omega (arith, few, four)

pub returns : goal.returns
returns c = let g = c.args in
    let few = c.requires (c.if-not-well.false) in
    let four = sum_four (g.c).delivered (delivered_length g.c _ c.well_formed.0) in
    (rw (c.if-not-well.false) (omega (arith, few, four)), omega arith)
