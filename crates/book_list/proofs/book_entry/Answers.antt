use mathlib.Core.Path.{ap, ◌∙◌}
use Rattle.floor.specs.Well.{well_formed}
use Rattle.floor.specs.declared.Floor.{Floor}
use Rattle.floor.specs.Calls.{answer, book_answer}
use Rattle.book_list.proofs.Kept.{entry_still}
use Rattle.book_list.proofs.Widths.{entry_in_range}
use Rattle.book_list.proofs.book_entry.Goals as goal

pub book_on-requires : goal.book_on-requires
book_on-requires c = c.requires

pub returns-clause-number : goal.returns-clause-number
unfolding book_answer answer
returns-clause-number c = c.book_on.ensures.number

pub returns-clause-after : goal.returns-clause-after
returns-clause-after c = c.book_on.ensures.after

pub returns-clause-still : goal.returns-clause-still
returns-clause-still c =
    let g = c.args in
    ap (λ (f : Floor). well_formed f) c.book_on.ensures.after ∙ entry_still g.floor.now g.b (entry_in_range g.b _ c.well_formed.1.0)
