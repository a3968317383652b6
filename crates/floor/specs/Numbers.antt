-- The numbers of the refusals, of an answer and of the reasons. "If an answer is an enum, a definition gives this paper's number and values for each of its cases."
use Rattle.std.specs.Prelude.{ℕ, Result, Ok, Err}
use Rattle.floor.specs.declared.refusal.Refusal.{Refusal}
use Rattle.floor.specs.declared.refusal.Refusal.TheVariants.{Grid, Sets, Measure, NoTile, NotASource, NumberZero, Outside, StopOfHopper, ImageEnds, OtherKind, RecordShape, ImageMalformed, ShortBuffer, Malformed, Stopped, Running, NumberUsed, TooClose, NoPlace, ListTooLong, ShortPage, BadName, NameNotHeld, LayoutsFull, BadLabel, NotReleased, NoFloor, Overloaded}
use Rattle.floor.specs.declared.reason.Reason.{Reason}
use Rattle.floor.specs.declared.reason.Reason.TheVariants as W

-- the number of each refusal
abbrev pub refusal_number : Refusal → ℕ
refusal_number Grid = 1
refusal_number Sets = 2
refusal_number Measure = 3
refusal_number NoTile = 4
refusal_number NotASource = 5
refusal_number NumberZero = 6
refusal_number Outside = 7
refusal_number StopOfHopper = 8
refusal_number ImageEnds = 9
refusal_number OtherKind = 10
refusal_number RecordShape = 11
refusal_number ImageMalformed = 12
refusal_number ShortBuffer = 13
refusal_number Malformed = 30
refusal_number Stopped = 31
refusal_number Running = 32
refusal_number NumberUsed = 33
refusal_number TooClose = 34
refusal_number NoPlace = 40
refusal_number ListTooLong = 42
refusal_number ShortPage = 43
refusal_number BadName = 44
refusal_number NameNotHeld = 45
refusal_number LayoutsFull = 46
refusal_number BadLabel = 47
refusal_number NotReleased = 48
refusal_number NoFloor = 49
refusal_number Overloaded = 50

-- the number of an answer, 0 where nothing refuses
abbrev pub answered : {A : Type 0} → Result A Refusal → ℕ
answered (Ok x) = 0
answered (Err r) = refusal_number r

-- the number of each reason why a tile stood
abbrev pub reason_number : Reason → ℕ
reason_number W.Stopped = 1
reason_number W.Empty = 2
reason_number W.NoArrow = 3
reason_number W.Turn = 4
reason_number W.NoGap = 5
reason_number W.Moved = 6
