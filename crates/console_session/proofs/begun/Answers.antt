use Rattle.console_session.proofs.begun.Goals as goal

pub returns : goal.returns
returns g c = rw (c.no_plan.ensures, c.begin.ensures)
