use Rattle.console_plan.proofs.Lines.{entry_room, entry_full}
use borrow.Author.Rules.{rules}
use Rattle.console_plan.proofs.with_entry.Goals as goal

pub returns-then-k-lt64 : goal.returns-then-k-lt64
returns-then-k-lt64 c = search (entry_room, rules)

pub returns-else-k-lt64 : goal.returns-else-k-lt64
returns-else-k-lt64 c = search (entry_full, rules)
