use mathlib.Core.Path.{◌≡◌, ap}
use Prim.Native.Nat.{ℕ, ◌-◌, ◌*◌, ◌/◌, ◌+◌, ◌≤◌}
use native.Mathlib.Nat.{lt_of_le_of_lt}
use native.Mathlib.Omega.{arith}
use lib.Dec.{lit<}
use Rattle.floor.specs.Bound as B
use Rattle.floor.proofs.Sound.{Measured}
use Rattle.floor.specs.declared.Settings.{Settings}
use Rattle.floor.specs.Settings.{total}
use Rattle.floor.proofs.Well.{settings_fact}
use Rattle.bound.proofs.Few.{crossing_most, product_most}
use Rattle.bound_call.proofs.rounds_for.Goals as goal

-- M
most : (s : Settings) → Measured s → (s.width - s.length) / s.travel + 1 ≤ 59999
unfolding B.crossing
most s M = crossing_most s M

few : (s : Settings) (n : ℕ) → Measured s → n ≡ total s → (1 ≤ n) × (n ≤ 64)
few s n M e = (omega (arith, e, M.two), omega (arith, e, M.few))

-- K × M, and (C - 1) × (1 + K × M)
products : (s : Settings) (k n : ℕ) → Measured s → n ≡ total s → k ≤ 1008 → let x = (s.width - s.length) / s.travel + 1 in (k * x ≤ 1008 * 59999) × ((n - 1) * (1 + k * x) ≤ 63 * (1 + 1008 * 59999))
products s k n M e h = product_most (n - 1) k _ (omega (arith, few s n M e)) h (most s M)

pub overflow_sub-span : goal.overflow_sub-span
overflow_sub-span c = omega (arith, ((settings_fact c.args.s).0 c.requires.0).short)

pub nonzero_div-crossing : goal.nonzero_div-crossing
nonzero_div-crossing c = omega (arith, ((settings_fact c.args.s).0 c.requires.0).moving)

pub overflow_add-crossing : goal.overflow_add-crossing
overflow_add-crossing c = rw (c.from.ensures, c.from-2.ensures) (omega (arith, most c.args.s ((settings_fact c.args.s).0 c.requires.0)))

pub overflow_cast-others : goal.overflow_cast-others
overflow_cast-others c = omega (arith, few c.args.s _ ((settings_fact c.args.s).0 c.requires.0) c.tile_count.ensures)

pub overflow_sub-others : goal.overflow_sub-others
overflow_sub-others c = omega (arith, few c.args.s _ ((settings_fact c.args.s).0 c.requires.0) c.tile_count.ensures)

pub overflow_mul-result : goal.overflow_mul-result
overflow_mul-result c = rw (c.from.ensures, c.from-2.ensures) (record { fits = lt_of_le_of_lt (products c.args.s c.args.k _ ((settings_fact c.args.s).0 c.requires.0) c.tile_count.ensures c.requires.1).0 (lit< tt) })

pub overflow_add-result : goal.overflow_add-result
overflow_add-result c = rw (c.from.ensures, c.from-2.ensures) (omega (arith, (products c.args.s c.args.k _ ((settings_fact c.args.s).0 c.requires.0) c.tile_count.ensures c.requires.1).0))

pub overflow_mul-result-2 : goal.overflow_mul-result-2
overflow_mul-result-2 c = rw (c.from.ensures, c.from-2.ensures) (record { fits = lt_of_le_of_lt (products c.args.s c.args.k _ ((settings_fact c.args.s).0 c.requires.0) c.tile_count.ensures c.requires.1).1 (lit< tt) })

pub returns : goal.returns
unfolding B.bound B.crossing
returns c = rw (c.from.ensures, c.from-2.ensures) (ap (λ n. (n - 1) * (1 + c.args.k * B.crossing c.args.s)) c.tile_count.ensures)
