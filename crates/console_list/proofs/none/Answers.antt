use Rattle.std.proofs.Common.{refl}
use Rattle.console_list.specs.Entries.{no_entries}
use Rattle.console_list.proofs.none.Goals as goal

pub returns : goal.returns
unfolding no_entries
returns c = refl
