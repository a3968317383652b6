use Rattle.console_session.proofs.begin.Goals as goal

pub returns : goal.returns
returns c = rw (c.zero_floor.ensures, c.no_plan.ensures, c.none.ensures, c.begin.ensures)
