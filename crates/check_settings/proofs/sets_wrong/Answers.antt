use native.Mathlib.Nat.{lt_of_le_of_lt}
use lib.Dec.{lit<}
use Rattle.check_settings.proofs.Groups.{few_tiles, hoppers_off, hoppers_on}
use borrow.Author.Rules.{rules}
use Rattle.check_settings.proofs.sets_wrong.Goals as goal

pub overflow_mul-all : goal.overflow_mul-all
overflow_mul-all c = record { fits = lt_of_le_of_lt (few_tiles c.args.s c.requires) (lit< tt) }

pub within-requires : goal.within-requires
within-requires c = search (few_tiles, rules)

pub returns-then-not-within : goal.returns-then-not-within
returns-then-not-within c = search (hoppers_off, rules)

pub within-on-requires : goal.within-on-requires
within-on-requires c = search (few_tiles, rules)

pub returns : goal.returns
returns c = search (hoppers_on, rules)
