use Rattle.console.proofs.Loops.{LinesObeyed}
use Rattle.console.proofs.converse.Given as goal

abbrev pub invariant-loop : goal.invariant-loop
invariant-loop g l = LinesObeyed l.fn.buf l.buf l.kept
