-- What the exit of a `?` gives: a refusal, whose number is never 0.
use mathlib.Core.Path.{◌≡◌, refl, ◌∙◌, sym}
use mathlib.Core.Logic.{◌≢◌}
use mathlib.Core.Bool.{false}
use lib.Dec.{eqb}
use borrow.Author.Tests.{eq-eqb}
use mathlib.Core.Bool.{true≢false}
use Rattle.std.specs.Prelude.{ℕ, Result, IfOk}
use Rattle.std.specs.Result.{IsErrAnd}
use Rattle.std.proofs.lemmas.Result.{err_from_is_err_and}
use Rattle.floor.specs.declared.refusal.Refusal.{Refusal}
use Rattle.floor.specs.declared.refusal.Refusal.TheVariants.{Grid, Sets, Measure, NoTile, NotASource, NumberZero, Outside, StopOfHopper, ImageEnds, OtherKind, RecordShape, ImageMalformed, ShortBuffer, Malformed, Stopped, Running, NumberUsed, TooClose, NoPlace, ListTooLong, ShortPage, BadName, NameNotHeld, LayoutsFull, BadLabel, NotReleased, NoFloor, Overloaded}
use Rattle.floor.specs.Numbers.{refusal_number, answered}

-- the refusal e is passed on: v is its number
pub passed_number : {T : Type 0} {v : ℕ} (e : Refusal) (r : Result T Refusal) → IsErrAnd r (λ y. y ≡ e) → refusal_number e ≡ v → answered r ≡ v
passed_number e r h q = let p = err_from_is_err_and r h in rw (p.1, p.2) q

pub passed_up : {T : Type 0} (Q : T → Type 0) {v : ℕ} (e : Refusal) (r : Result T Refusal) → IsErrAnd r (λ y. y ≡ e) → refusal_number e ≡ v → (answered r ≡ v) × IfOk r Q
passed_up Q e r h q = let p = err_from_is_err_and r h in rw (p.1, p.2) (q, tt)
