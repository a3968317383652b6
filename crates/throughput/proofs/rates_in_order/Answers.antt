use Rattle.std.proofs.Common.{refl, eq-eqb, ne_eqb}
use lib.Ieee.{of_bits}
use Rattle.throughput.specs.Window.{rates_in_order}
use Rattle.throughput.proofs.rates_in_order.Goals as goal

pub returns-then-closed-ne0 : goal.returns-then-closed-ne0
unfolding rates_in_order of_bits
returns-then-closed-ne0 c = rw (c.if-least-last.true, c.if-last-greatest.true, ne_eqb _ _ c.if-closed-ne0.true) refl

pub returns-then-least : goal.returns-then-least
unfolding rates_in_order of_bits
returns-then-least c = rw (c.if-least-last.true, c.if-last-greatest.true, eq-eqb _ _ c.if-closed-ne0.false, c.if-last.true, c.if-least.true) refl

pub returns-else-least : goal.returns-else-least
unfolding rates_in_order of_bits
returns-else-least c = rw (c.if-least-last.true, c.if-last-greatest.true, eq-eqb _ _ c.if-closed-ne0.false, c.if-last.true, c.if-least.false) refl

pub returns-else-last : goal.returns-else-last
unfolding rates_in_order of_bits
returns-else-last c = rw (c.if-least-last.true, c.if-last-greatest.true, eq-eqb _ _ c.if-closed-ne0.false, c.if-last.false) refl

pub returns-else-last-greatest : goal.returns-else-last-greatest
unfolding rates_in_order of_bits
returns-else-last-greatest c = rw (c.if-least-last.true, c.if-last-greatest.false) refl

pub returns-else-least-last : goal.returns-else-least-last
unfolding rates_in_order of_bits
returns-else-least-last c = rw c.if-least-last.false refl
