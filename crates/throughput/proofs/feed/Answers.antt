use Rattle.std.proofs.Common.{sym, ◌∙◌, arith}
use Rattle.throughput.specs.Window.{opened}
use Rattle.throughput.proofs.Answers.{sound_window, feed_unsound, feed_many, feed_open, feed_close}
use Rattle.throughput.proofs.feed.Goals as goal

pub returns-then-not-good : goal.returns-then-not-good
returns-then-not-good c = rw c.from.ensures (feed_unsound _ _ (sym c.sound-good.ensures ∙ c.if-not-good.true))

pub returns-then-count-gt4 : goal.returns-then-count-gt4
returns-then-count-gt4 c = rw c.from-then-count-gt4.ensures (feed_many _ _ (sym c.sound-good.ensures ∙ c.if-not-good.false) c.if-count-gt4.true)

pub overflow_add-deliveries : goal.overflow_add-deliveries
overflow_add-deliveries c = let w = sound_window _ (sym c.sound-good.ensures ∙ c.if-not-good.false) in record { fits = omega (arith, w.0, w.1) }

pub returns-then-before-lt255 : goal.returns-then-before-lt255
unfolding opened
returns-then-before-lt255 c = feed_open _ _ (sym c.sound-good.ensures ∙ c.if-not-good.false) c.if-count-gt4.false c.if-before-lt255.true

pub rate-x-requires : goal.rate-x-requires
rate-x-requires c = let w = sound_window _ (sym c.sound-good.ensures ∙ c.if-not-good.false) in omega (arith, w.0, w.1, c.if-count-gt4.false)

pub returns : goal.returns
returns c = rw (c.close.ensures, c.rate-x.ensures) (feed_close _ _ (sym c.sound-good.ensures ∙ c.if-not-good.false) c.if-count-gt4.false c.if-before-lt255.false)
