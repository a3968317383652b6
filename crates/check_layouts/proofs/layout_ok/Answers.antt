use native.Mathlib.Omega.{arith}
use Rattle.floor.proofs.Well.{settings_fact}
use Rattle.check_layouts.proofs.Tests.{layout_code}
use Rattle.check_layouts.proofs.layout_ok.Goals as goal

pub overflow_mul-all : goal.overflow_mul-all
overflow_mul-all c = omega (arith, ((settings_fact c.args.s).0 c.requires).few)

pub within-on-requires : goal.within-on-requires
within-on-requires c = ((settings_fact c.args.s).0 c.requires).few

pub returns : goal.returns
returns c = rw (c.name_ok.ensures, c.within-on.ensures, c.meets.ensures) (layout_code c.args.s c.args.x c.minus-stopped.result c.requires c.minus-stopped.ensures)
