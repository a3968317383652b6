use mathlib.Core.Path.{◌≡◌, refl, sym, ◌∙◌}
use Prim.Native.Nat.{◌<◌, ◌^◌}
use native.Mathlib.Omega.{arith}
use lib.ListN.{length}
use Rattle.laws.specs.Define.{bits_below}
use Rattle.laws.proofs.SetBits.{bits_within}
use Rattle.laws.proofs.Tables.{below_zero, below_step}
use Rattle.floor.specs.Settings.{total, hoppers_of}
use Rattle.floor.proofs.Well.{settings_fact}
use Rattle.floor.proofs.Sized.{delivered_length}
use Rattle.check_floor.proofs.Counts.{spare_at, added_none, added_more, counters_looped}
use Rattle.check_floor.proofs.counters_ok.Goals as goal

pub loop-k-init : goal.loop-k-init
loop-k-init c = record {
  below = omega arith;
  small = omega arith;
  tested = sym (below_zero (spare_at c.from-h.result c.args.c.delivered));
  totalled = c.from-sum.ensures ∙ added_none c.args.c.delivered c.args.n;
}

pub loop-k-preserved : goal.loop-k-preserved
loop-k-preserved c =
    let l = c.loop-k in
    let v = l.invariant in
    record {
      below = omega arith;
      small = omega arith;
      tested = below_step (spare_at c.from-h.result c.args.c.delivered) l.k v.tested refl;
      totalled = omega (arith, added_more c.args.c.delivered l.k, v.totalled, c.from-sum-in-loop-k.ensures);
    }

pub returns : goal.returns
unfolding hoppers_of
returns c =
    let s = c.args.s in
    let v = c.loop-k.invariant in
    let M = (settings_fact s).0 c.requires in
    let small : c.args.c.last < 2 ^ 32 = omega arith in
    let end : c.loop-k.k ≡ 4 = omega arith in
    let h = c.from-h.ensures ∙ c.size.ensures in
    rw (c.from.ensures, sym (bits_within s.hoppers (total s) 64 M.few M.hoppers_on))
    (counters_looped (length (bits_below s.hoppers 64)) c.args.c c.args.n (delivered_length c.args.c _ c.well_formed.1.0) small (rw (h, end) at v.tested) (rw end at v.totalled))
