-- Each refusal has a number other than 0, which stands for none.
use mathlib.Core.Logic.{◌≢◌}
use native.Mathlib.Omega.{arith}
use Rattle.floor.specs.declared.refusal.Refusal.{Refusal}
use Rattle.floor.specs.declared.refusal.Refusal.TheVariants as R
use Rattle.floor.specs.Numbers.{refusal_number}

pub refusing : (r : Refusal) → refusal_number r ≢ 0
refusing R.Grid e = absurd (omega arith)
refusing R.Sets e = absurd (omega arith)
refusing R.Measure e = absurd (omega arith)
refusing R.NoTile e = absurd (omega arith)
refusing R.NotASource e = absurd (omega arith)
refusing R.NumberZero e = absurd (omega arith)
refusing R.Outside e = absurd (omega arith)
refusing R.StopOfHopper e = absurd (omega arith)
refusing R.ImageEnds e = absurd (omega arith)
refusing R.OtherKind e = absurd (omega arith)
refusing R.RecordShape e = absurd (omega arith)
refusing R.ImageMalformed e = absurd (omega arith)
refusing R.ShortBuffer e = absurd (omega arith)
refusing R.Malformed e = absurd (omega arith)
refusing R.Stopped e = absurd (omega arith)
refusing R.Running e = absurd (omega arith)
refusing R.NumberUsed e = absurd (omega arith)
refusing R.TooClose e = absurd (omega arith)
refusing R.NoPlace e = absurd (omega arith)
refusing R.ListTooLong e = absurd (omega arith)
refusing R.ShortPage e = absurd (omega arith)
refusing R.BadName e = absurd (omega arith)
refusing R.NameNotHeld e = absurd (omega arith)
refusing R.LayoutsFull e = absurd (omega arith)
refusing R.BadLabel e = absurd (omega arith)
refusing R.NotReleased e = absurd (omega arith)
refusing R.NoFloor e = absurd (omega arith)
refusing R.Overloaded e = absurd (omega arith)
