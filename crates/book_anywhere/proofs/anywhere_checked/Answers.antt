use Rattle.book_anywhere.proofs.Answer.{placed_refused, placed_accepted}
use Rattle.book_anywhere.proofs.anywhere_checked.Goals as goal

pub returns-in-Ok : goal.returns-in-Ok
returns-in-Ok c = let e = c.in-Ok.ensures in placed_accepted c.args.floor c.book_on.new.floor c.args.tile c.args.number c.in-Ok.canister e.number e.place e.after

pub returns-in-Err : goal.returns-in-Err
returns-in-Err c = let e = c.in-Err.ensures in rw c.from.ensures (placed_refused c.args.floor c.book_on.new.floor c.args.tile c.args.number c.in-Err.why e.number e.after)
