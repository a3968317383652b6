use mathlib.Core.Path.{refl, sym}
use Prim.Native.Nat.{◌≤◌}
use lib.ListN.{length}
use Rattle.std.proofs.lemmas.List.{take_all}
use native.Mathlib.Omega.{arith}
use Rattle.image_bytes.proofs.PutLaws.{put_none}
use Rattle.image_write.proofs.ImageBytes.{layouts_none}
use Rattle.image_write.proofs.Loops.{layout_turn}
use Rattle.image_write.proofs.put_layouts.Goals as goal

pub loop-k-init : goal.loop-k-init
loop-k-init c =
    let g = c.args in
    record {
      room = c.requires;
      buffer_length = refl;
      written = rw layouts_none (sym (put_none (g.s).now g.from));
    }

pub loop-k-preserved : goal.loop-k-preserved
loop-k-preserved c = layout_turn c.loop-k.invariant c.loop-k-test.true _ c.put_layout.auto.s c.put_layout.ensures

pub returns : goal.returns
returns c =
    let l = c.loop-k in
    let k : length c.args.layouts.now ≤ l.k = omega arith in
    rw (take_all l.k c.args.layouts.now k) at l.invariant.written
