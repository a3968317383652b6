use mathlib.Core.Path.{ap, sym}
use Prim.Native.Nat.{ℕ, ◌-◌, ◌^◌, ◌<◌}
use native.Mathlib.Omega.{arith}
use lib.Pow.{pow_pos}
use Rattle.laws.proofs.Bits.{one_shl}
use Rattle.sets.proofs.full.Goals as goal

pub returns-then-n-eq64 : goal.returns-then-n-eq64
returns-then-n-eq64 c = ap (λ (x : ℕ). 2 ^ x - 1) (sym c.if-n-eq64.true)

pub overflow_sub-result : goal.overflow_sub-result
overflow_sub-result c = let h : c.before.args.n < 64 = omega (arith, c.before.requires, c.if-n-eq64.false) in rw (one_shl c.before.args.n h) (pow_pos c.before.args.n)

pub returns : goal.returns
returns c = let h : c.before.args.n < 64 = omega (arith, c.before.requires, c.if-n-eq64.false) in ap (λ (x : ℕ). x - 1) (one_shl c.before.args.n h)
