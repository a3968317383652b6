use mathlib.Core.Path.{◌≡◌, refl, sym, ap, ◌∙◌}
use mathlib.Core.List.{List, ◌++◌}
use lib.ListN.{length, take}
use lib.Seq.{length-take-le, get_or-take}
use Prim.Native.Nat.{ℕ, ◌+◌, ◌*◌, ◌≤◌, ◌<◌}
use native.Mathlib.Omega.{arith}
use Rattle.laws.specs.Define.{tab}
use Rattle.image_bytes.specs.Bytes.{bytes, bytes_of}
use Rattle.image_bytes.specs.InternalPut.{put}
use Rattle.image_bytes.proofs.PutLaws.{put_none, put_two}
use Rattle.floor.proofs.Sized.{delivered_length}
use Rattle.image_record_write.proofs.RecordBytes.{count_bytes, count_length, top_length, counters_record}
use Rattle.image_record_write.proofs.Loops.{counts_turn}
use Rattle.image_record_write.proofs.put_counters.Goals as goal

pub loop-k-init : goal.loop-k-init
unfolding bytes_of tab
loop-k-init c =
    let p = c.put_top in
    let g = c.args in
    record {
      below = omega arith;
      few = c.requires.1;
      room = omega (arith, c.requires.0, p.auto.s);
      buffer_length = refl;
      counts_length = delivered_length g.x _ c.well_formed.1.1.0;
      written = sym (put_none p.new.s (g.at + 12));
    }

-- as many as there are hoppers
first_counts : (n : ℕ) (d : List ℕ) → n ≤ 4 → length d ≡ 4 → length (take n d) ≡ n
first_counts n d few long = length-take-le n d (omega arith)

pub loop-k-preserved : goal.loop-k-preserved
loop-k-preserved c =
    let l = c.loop-k in
    let d = c.args.x.delivered in
    let n = c.from-2.result in
    let m = first_counts n d (omega (arith, c.requires.1)) l.invariant.counts_length in
    let i : l.k < n = omega arith in
    counts_turn l.invariant (omega arith) _ c.put_at.auto.s (c.put_at.ensures ∙ ap (λ v. put l.s (c.args.at + 12 + 4 * l.k) (bytes 4 v)) (get_or-take n d l.k 0 i))

pub returns : goal.returns
returns c =
    let l = c.loop-k in
    let g = c.args in
    let p = c.put_top.new.s in
    let m = first_counts c.from-2.result g.x.delivered (omega (arith, c.requires.1)) l.invariant.counts_length in
    let e : l.k ≡ g.h = omega (arith, c.loop-k-test.false) in
    let i : l.s ≡ put p (g.at + 12) (count_bytes g.h g.x.delivered) = rw e at l.invariant.written in
    let f = top_length (8 + 4 * g.h) g.x.last g.x.booked in
    let n = count_length g.h g.x.delivered in
    rw (← counters_record g.h g.x)
    (put_two g.s.now p l.s g.at (g.at + 12) ((bytes 2 (8 + 4 * g.h) ++ bytes 2 2) ++ (bytes 4 g.x.last ++ bytes 4 g.x.booked)) (count_bytes g.h g.x.delivered) (omega (arith, c.requires.0)) (omega arith) (rw c.from.ensures at c.put_top.ensures) i)
