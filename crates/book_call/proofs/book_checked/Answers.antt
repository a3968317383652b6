use mathlib.Core.Path.{◌∙◌}
use Rattle.floor.specs.Calls.{answer, book_answer}
use Rattle.book_call.proofs.book_checked.Goals as goal

pub returns : goal.returns
unfolding book_answer answer
returns c = λ i. record { floor = c.book_on.ensures.after i; refusal = (c.answered-refusal.ensures ∙ c.book_on.ensures.number) i }
