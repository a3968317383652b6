use mathlib.Core.Path.{◌≡◌, refl, ◌∙◌}
use Prim.Native.Nat.{◌+◌, ◌-◌}
use native.Mathlib.Omega.{arith}
use lib.ListN.{length}
use Rattle.check_places.proofs.Lanes.{lowest_none, lowest_more, lanes_apart}
use Rattle.check_places.proofs.all_apart.Goals as goal

pub loop-k-2-init : goal.loop-k-2-init
loop-k-2-init c = let l = c.loop-k in record { below = omega arith; size = refl; low = lowest_none l.a l.b }

pub loop-k-2-preserved : goal.loop-k-2-preserved
loop-k-2-preserved c =
    let l = c.loop-k-2 in
    let d = c.loop-k in
    let e : l.k + 1 - 1 ≡ l.k - 1 + 1 = omega arith in
    let f : l.k - 1 + 1 ≡ l.k = omega arith in
    record {
      below = omega arith;
      size = c.compare_shifted.ensures.size;
      low = rw e (lowest_more d.a d.b l.least c.compare_shifted.new.least (l.k - 1) l.invariant.low (rw f c.compare_shifted.ensures));
    }

pub returns : goal.returns
returns c =
    let l = c.loop-k-2 in
    let d = c.loop-k in
    let members = c.args.members.now in
    let e : d.k ≡ length members = omega arith in
    let f : l.k - 1 ≡ 8 = omega arith in
    c.none_below.ensures
    ∙ lanes_apart (length members) members d.a d.b c.requires.0 c.requires.1 refl (rw e at d.invariant.in_a) (rw e at d.invariant.in_b) c.args.d l.least (omega arith) l.invariant.size (rw f at l.invariant.low)
