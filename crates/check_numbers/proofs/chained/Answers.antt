use mathlib.Core.Path.{◌≡◌, refl, sym, subst}
use Prim.Native.Nat.{ℕ, ◌+◌, ◌-◌, ◌*◌, ◌/◌, ◌<◌}
use native.Mathlib.Omega.{arith}
use lib.ListN.{length, length-set}
use Rattle.check_numbers.proofs.Chain.{at, Unlike, Unseen, heads_none, prev_below, run_empty, unseen_start, unseen_step, heads_zero, prevs_zero, unlike_zero, heads_step, prevs_step, unlike_step, verdict_unlike, verdict_equal}
use Rattle.check_numbers.proofs.chained.Goals as goal

pub loop-i-init : goal.loop-i-init
loop-i-init c = record {
  below = omega arith;
  keys_length = c.told-keys;
  heads_length = refl;
  prev_length = refl;
  heads = heads_none c.args.keys.now;
  prevs = λ j h. absurd (omega arith);
  unlike = λ j k a b. absurd (omega arith);
}

pub loop-i-preserved-then-n-eq0 : goal.loop-i-preserved-then-n-eq0
loop-i-preserved-then-n-eq0 c =
    let l = c.loop-i in
    let ks = c.args.keys.now in
    let z = run_empty ks l.i c.requires (omega arith) c.if-n-eq0.true in
    let n = l.i / 16 * 16 + 16 in
    let v = l.invariant in
    record {
      below = omega arith;
      keys_length = v.keys_length;
      heads_length = v.heads_length;
      prev_length = v.prev_length;
      heads = heads_zero ks l.heads l.i n z v.heads;
      prevs = prevs_zero ks l.prev l.i n z v.prevs;
      unlike = unlike_zero ks l.i n z v.unlike;
    }

pub loop-p-init : goal.loop-p-init
loop-p-init c =
    let l = c.loop-i in
    let ks = c.args.keys.now in
    let pos : 0 < at ks l.i = omega (arith, c.if-n-eq0.false) in
    let u : Unseen ks (at ks l.i) c.from-p.result l.i = subst (λ (x : ℕ). Unseen ks (at ks l.i) x l.i) (sym c.from-p.ensures) (unseen_start ks l.heads (at ks l.i) l.i pos l.invariant.heads) in
    let v = l.invariant in
    record { here = omega arith; below = u.0; keys_length = v.keys_length; heads_length = v.heads_length; prev_length = v.prev_length; unseen = u }

pub returns-then-keys-q : goal.returns-then-keys-q
returns-then-keys-q c =
    verdict_equal c.args.keys.now (c.loop-p.p - 1) c.loop-i.i (omega arith) (omega arith) c.if-keys-q.true (omega (arith, c.if-n-eq0.false))

pub loop-p-smaller : goal.loop-p-smaller
loop-p-smaller c =
    let l = c.loop-p in
    let o = c.loop-i in
    let ks = c.args.keys.now in
    let some : 0 < l.p = omega arith in
    omega (arith, c.from-p-in-loop-p.ensures, prev_below ks o.prev (at ks o.i) l.p (l.p - 1) o.i o.invariant.prevs l.invariant.unseen some refl)

pub loop-p-preserved : goal.loop-p-preserved
loop-p-preserved c =
    let l = c.loop-p in
    let o = c.loop-i in
    let ks = c.args.keys.now in
    let some : 0 < l.p = omega arith in
    let next = unseen_step ks o.prev (at ks o.i) l.p (l.p - 1) o.i (omega (arith, c.if-n-eq0.false)) o.invariant.prevs l.invariant.unseen some refl c.if-keys-q.false in
    let u : Unseen ks (at ks o.i) c.from-p-in-loop-p.result o.i = subst (λ (x : ℕ). Unseen ks (at ks o.i) x o.i) (sym c.from-p-in-loop-p.ensures) next in
    let v = l.invariant in
    record { here = v.here; below = u.0; keys_length = v.keys_length; heads_length = v.heads_length; prev_length = v.prev_length; unseen = u }

pub loop-i-preserved : goal.loop-i-preserved
loop-i-preserved c =
    let l = c.loop-p in
    let o = c.loop-i in
    let ks = c.args.keys.now in
    let none : l.p ≡ 0 = omega arith in
    let new : Unseen ks (at ks o.i) 0 o.i = subst (λ (x : ℕ). Unseen ks (at ks o.i) x o.i) none l.invariant.unseen in
    let v = o.invariant in
    record {
      below = omega arith;
      keys_length = v.keys_length;
      heads_length = simp length-set v.heads_length;
      prev_length = simp length-set v.prev_length;
      heads = heads_step ks o.heads o.i (omega arith) (omega (arith, c.if-n-eq0.false)) v.heads;
      prevs = prevs_step ks o.heads o.prev o.i (omega arith) v.heads v.prevs;
      unlike = unlike_step ks o.i new v.unlike;
    }

pub returns : goal.returns
returns c =
    let l = c.loop-i in
    let ks = c.args.keys.now in
    let e : l.i ≡ length ks = omega arith in
    verdict_unlike ks (subst (λ (x : ℕ). Unlike ks x) e l.invariant.unlike)
