use Rattle.std.proofs.Common.{◌≡◌, ◌+◌, ◌-◌, ◌≤◌, arith, length, take, drop, length-take, length-drop}
use Rattle.console_lines.proofs.Kept.{part_of_part, front_moved}
use Rattle.console_lines.proofs.keep.Goals as goal

pub returns : goal.returns
returns c =
    let g = c.args in
    let k = c.kept_of-part in
    let s = g.buf.now in
    let n = k.result.end - k.result.start in
    let l : length (take (g.end - g.at) (drop g.at s)) ≡ g.end - g.at = simp (length-take, length-drop) (omega arith) in
    let h : k.result.start + n ≤ g.end - g.at = omega (arith, l, k.ensures.0, k.ensures.2) in
    let q = part_of_part s g.at (g.end - g.at) k.result.start n h in
    let m = front_moved s c.copy_within.new.self (g.at + k.result.start) n (omega (arith, h, c.requires.0, c.requires.1)) c.copy_within.ensures.after in
    (omega (arith, k.ensures.1), omega (arith, h), rw m (rw q at k.ensures.3))
