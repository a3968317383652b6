use Rattle.console_barge.proofs.Aboard.{floor_put}
use Rattle.std.proofs.Common.{rules}
use Rattle.console_barge.proofs.with_floor.Goals as goal

pub returns : goal.returns
returns c = search (floor_put, rules)
