use Rattle.console_session.proofs.without_floor.Goals as goal

pub returns : goal.returns
returns g c = rw (c.begun-next.ensures, c.zero_floor.ensures)
