use Rattle.laws.proofs.Tests.{not_both}
use Rattle.console_parse.proofs.Line.{said_all, said_none, said_set, said_nothing}
use Rattle.console_parse.proofs.sources_at.Goals as goal

pub returns-then-is : goal.returns-then-is
returns-then-is c = said_all (c.is.ensures.0 c.if-is.true)

pub returns-then-is-2 : goal.returns-then-is-2
returns-then-is-2 c = said_none (c.is-2.ensures.0 c.if-is-2.true)

pub returns-in_err-set : goal.returns-in_err-set
returns-in_err-set c = said_nothing (λ e. not_both (c.is.ensures.1 e) c.if-is.false) (λ e. not_both (c.is-2.ensures.1 e) c.if-is-2.false) c.in_err-set.ensures c.from_residual.ensures

pub returns : goal.returns
returns c = said_set (λ e. not_both (c.is.ensures.1 e) c.if-is.false) (λ e. not_both (c.is-2.ensures.1 e) c.if-is-2.false) c.in_ok-set.ensures
