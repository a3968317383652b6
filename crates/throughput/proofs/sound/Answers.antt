use Rattle.std.proofs.Common.{sym, refl, ◌∙◌, le-ltb, lt-ltb, le-leb}
use borrow.Author.Tests.{lt-leb}
use Rattle.throughput.specs.Window.{record_sound}
use Rattle.throughput.proofs.sound.Goals as goal

pub returns-then-rates_sound : goal.returns-then-rates_sound
unfolding record_sound
returns-then-rates_sound c = c.rates_in_order.ensures ∙ rw (lt-ltb _ _ c.if-t-lt256.true, le-leb _ _ c.if-t.true, sym c.rates_sound.ensures ∙ c.if-rates_sound.true) refl

pub returns-else-rates_sound : goal.returns-else-rates_sound
unfolding record_sound
returns-else-rates_sound c = c.if-rates_sound.false ∙ rw (lt-ltb _ _ c.if-t-lt256.true, le-leb _ _ c.if-t.true, sym c.rates_sound.ensures ∙ c.if-rates_sound.false) refl

pub returns-else-t : goal.returns-else-t
unfolding record_sound
returns-else-t c = rw (lt-ltb _ _ c.if-t-lt256.true, lt-leb _ _ c.if-t.false) refl

pub returns-else-t-lt256 : goal.returns-else-t-lt256
unfolding record_sound
returns-else-t-lt256 c = rw (le-ltb _ _ c.if-t-lt256.false) refl
