use Rattle.console_barge.proofs.Aboard.{place_in, place_out}
use Rattle.std.proofs.Common.{rules}
use Rattle.console_barge.proofs.place.Goals as goal

pub returns-then-floor-lt4 : goal.returns-then-floor-lt4
returns-then-floor-lt4 c = search (place_in, rules)

pub returns-else-floor-lt4 : goal.returns-else-floor-lt4
returns-else-floor-lt4 c = search (place_out, rules)
