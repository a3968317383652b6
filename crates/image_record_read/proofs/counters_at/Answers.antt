use mathlib.Core.Path.{◌≡◌, refl}
use Prim.Native.Nat.{◌+◌, ◌*◌}
use native.Mathlib.Omega.{arith}
use lib.ListN.{drop, length-set}
use Rattle.laws.proofs.Tables.{upto_turn, rest_turn, zeros_at}
use Rattle.image_bytes.specs.Bytes.{le}
use Rattle.image_record_read.proofs.Values.{counters_code}
use Rattle.image_record_read.proofs.counters_at.Goals as goal

pub loop-k-init : goal.loop-k-init
loop-k-init c =
    let S = c in
    record {
      below = omega arith;
      few = S.requires.1;
      whole = c.from-k-end.ensures;
      inside = S.requires.0;
      delivered_length = refl;
      read = λ i h. absurd (omega arith);
      zeros = λ i h. zeros_at 0 4 i;
    }

pub loop-k-preserved : goal.loop-k-preserved
loop-k-preserved c =
    let L = c in
    let l = L.loop-k in
    let U = L in
    let g = U.args in
    record {
      below = omega arith;
      few = l.invariant.few;
      whole = l.invariant.whole;
      inside = l.invariant.inside;
      delivered_length = simp length-set l.invariant.delivered_length;
      read = upto_turn l.k (λ j. le 4 (drop (g.at + 8 + 4 * j) (g.s).now)) 0 l.delivered _ (omega arith) l.invariant.read c.read_at.ensures;
      zeros = rest_turn l.k (λ _. 0) 0 l.delivered _ l.invariant.zeros;
    }

pub returns : goal.returns
returns c =
    let l = c.loop-k in
    let U = c in
    let g = U.args in
    let e : l.k ≡ g.h = omega (arith, c.loop-k-test.false) in
    rw (counters_code (g.s).now g.at g.h l.delivered l.invariant.delivered_length (λ k h. l.invariant.read k (omega arith)) (λ k h. l.invariant.zeros k (omega arith)), c.read_at-2.ensures, c.read_at-3.ensures)
