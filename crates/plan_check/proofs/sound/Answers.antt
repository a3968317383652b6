use Rattle.std.proofs.lemmas.Bool.{le-leb, lt-leb}
use Rattle.plan.specs.Entries.{plan_sound}
use Rattle.plan_check.proofs.sound.Goals as goal

pub returns-then-plan-gt-MAX_ENTRIES : goal.returns-then-plan-gt-MAX_ENTRIES
unfolding plan_sound
returns-then-plan-gt-MAX_ENTRIES c = rw (lt-leb c.args.plan.count 64 c.if-plan-gt-MAX_ENTRIES.true)

pub returns : goal.returns
unfolding plan_sound
returns c = rw (le-leb c.args.plan.count 64 c.if-plan-gt-MAX_ENTRIES.false, c.after_predecessors-ordered.ensures, c.all_differ.ensures, c.booked_numbers-numbers.ensures.1, c.used-entries.ensures)
