use mathlib.Core.Path.{◌≡◌, refl, sym, ap, ◌∙◌}
use mathlib.Core.Bool.{Bool, not, ◌&&◌}
use mathlib.Core.List.{[], ◌∷◌}
use Prim.Native.Nat.{ℕ, ◌+◌, ◌-◌, ◌≤◌}
use native.Mathlib.Omega.{arith}
use lib.Dec.{leb}
use Rattle.laws.specs.Define.{all_below, refusal}
use Rattle.laws.proofs.Tests.{and_assoc, and_yes}
use Rattle.laws.proofs.Tables.{below_step}
use Rattle.barge.specs.Barges.{allowance_sound, barge_sound}
use Rattle.barge.proofs.Sized.{floors_length}
use Rattle.barge_parts.proofs.Joint.{well_at, counted, counters_few, counted_step, sound_by, counted_all, begun_on}
use Rattle.std.proofs.lemmas.Result.{err_from_is_err_and}
use Rattle.barge.specs.declared.Barge.{Barge}
use Rattle.barge_parts.proofs.Loops.{Checked}
use Rattle.barge_parts.proofs.begin.Goals as goal

pub loop-each-init : goal.loop-each-init
unfolding all_below counted allowance_sound
loop-each-init c = record {
  below = omega arith;
  floors_length = floors_length c.args.barge _ c.well_formed.0;
  checked = sym (and_yes (allowance_sound c.args.barge.allowance));
  totalled = refl;
  small = omega arith;
}

pub on_floor-total-requires : goal.on_floor-total-requires
on_floor-total-requires c = let w = c.well_formed-well in
    λ e. counters_few _ (sym w.ensures ∙ e)

pub overflow_add-total : goal.overflow_add-total
overflow_add-total c =
    let l = c.loop-each in
    omega (arith, l.invariant.small, c.on_floor-total.ensures.1)

pub loop-each-preserved : goal.loop-each-preserved
loop-each-preserved c =
    let l = c.loop-each in
    let g = c.args in
    let w = c.well_formed-well in
    let n = c.on_floor-total in record {
      below = omega arith;
      floors_length = l.invariant.floors_length;
      checked = ap (λ (x : Bool). x && w.result) l.invariant.checked ∙ and_assoc (allowance_sound (g.barge).allowance) (all_below (well_at g.barge) l.each-index) w.result ∙ ap (λ (x : Bool). allowance_sound (g.barge).allowance && x) (below_step (well_at g.barge) l.each-index refl w.ensures);
      totalled = ap (λ (x : ℕ). x + n.result) l.invariant.totalled ∙ counted_step g.barge l.each-index n.result w.result w.ensures n.ensures.0;
      small = omega (arith, n.ensures.1);
    }

-- all four floors are read
all_read : (b : Barge) (s : Bool) (total k n floor : ℕ) → Checked b s total k → 4 ≤ k → n ≡ refusal ((not s, 30) ∷ (leb 4 floor, 49) ∷ []) → n ≡ refusal ((not (barge_sound b), 30) ∷ (leb 4 floor, 49) ∷ [])
all_read b s total k n floor v h e =
    let four : k ≡ 4 = omega (arith, v.below) in
    let q : s ≡ barge_sound b = v.checked ∙ ap (λ (j : ℕ). allowance_sound b.allowance && all_below (well_at b) j) four ∙ sound_by b v.floors_length in
    e ∙ ap (λ (x : Bool). refusal ((not x, 30) ∷ (leb 4 floor, 49) ∷ [])) q

pub returns-in_err-test_first-clause-number : goal.returns-in_err-test_first-clause-number
returns-in_err-test_first-clause-number c =
    let p = err_from_is_err_and c.from_residual.result c.from_residual.ensures.1 in
    rw (p.1, p.2) (all_read c.args.barge c.loop-each.sound _ _ _ c.args.floor c.loop-each.invariant (omega arith) c.in_err-test_first.ensures)

pub returns-clause-number : goal.returns-clause-number
returns-clause-number c = all_read c.args.barge c.loop-each.sound _ _ 0 c.args.floor c.loop-each.invariant (omega arith) c.in_ok-test_first.ensures

pub returns-clause-total : goal.returns-clause-total
returns-clause-total c =
    let b = c.args.barge in
    let v = c.loop-each.invariant in
    let four : c.loop-each.each-index ≡ 4 = omega (arith, v.below) in
    let e = all_read b c.loop-each.sound _ _ 0 c.args.floor v (omega arith) c.in_ok-test_first.ensures in
    v.totalled ∙ ap (counted b) four ∙ counted_all b v.floors_length (begun_on b c.args.floor 0 v.floors_length e refl).sound
