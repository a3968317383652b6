use Rattle.std.proofs.Common.{sym, refl, ◌∙◌}
use Rattle.throughput.specs.Window.{rates_sound}
use Rattle.throughput.proofs.rates_sound.Goals as goal

pub returns-then-rate_sound-2 : goal.returns-then-rate_sound-2
unfolding rates_sound
returns-then-rate_sound-2 c = c.rate_sound-then-rate_sound-2.ensures ∙ rw (sym c.rate_sound.ensures ∙ c.if-rate_sound.true, sym c.rate_sound-then-rate_sound.ensures ∙ c.if-rate_sound-2.true) refl

pub returns-else-rate_sound-2 : goal.returns-else-rate_sound-2
unfolding rates_sound
returns-else-rate_sound-2 c = c.if-rate_sound-2.false ∙ rw (sym c.rate_sound.ensures ∙ c.if-rate_sound.true, sym c.rate_sound-then-rate_sound.ensures ∙ c.if-rate_sound-2.false) refl

pub returns-else-rate_sound : goal.returns-else-rate_sound
unfolding rates_sound
returns-else-rate_sound c = c.if-rate_sound.false ∙ rw (sym c.rate_sound.ensures ∙ c.if-rate_sound.false) refl
