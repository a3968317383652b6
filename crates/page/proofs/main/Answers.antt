use mathlib.Core.Path.{sym}
use lib.Seq.{length-take-le}
use Rattle.page.proofs.main.Goals as goal

pub slice_bounds-write_all-end : goal.slice_bounds-write_all-end
slice_bounds-write_all-end c = let r = c.tell-k in sym (length-take-le r.result r.new.text r.ensures.0)
