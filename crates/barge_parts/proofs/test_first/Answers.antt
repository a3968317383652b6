use borrow.Author.Tests.{le-leb, lt-leb}
use Rattle.laws.specs.Define.{refusal}
use Rattle.barge_parts.proofs.test_first.Goals as goal

pub returns-then-not-sound : goal.returns-then-not-sound
unfolding refusal
returns-then-not-sound c = rw (c.if-not-sound.true)

pub returns-then-floor-ge4 : goal.returns-then-floor-ge4
unfolding refusal
returns-then-floor-ge4 c = rw (c.if-not-sound.false, le-leb 4 c.args.floor c.if-floor-ge4.true)

pub returns : goal.returns
unfolding refusal
returns c = rw (c.if-not-sound.false, lt-leb 4 c.args.floor c.if-floor-ge4.false)
