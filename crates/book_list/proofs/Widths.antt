-- The width of an entry's number, from its type.
use mathlib.Core.List.{List}
use mir.Val.{Val}
use denote.Laws.{Is}
use denote.Struct.Laws as LL
use Rattle.floor.specs.declared.Booking.{Booking}
use Rattle.floor.specs.Demand3.{book, InRange}
use Rattle.floor.specs.contracts.Canister as K
use Rattle.floor.proofs.Canister.TheLaws as K'
use Rattle.floor.specs.contracts.Booking as S
use Rattle.floor.proofs.Booking.TheLaws as S'

pub entry_in_range : (y : Booking) (vs : List Val) → Is S.the_row y vs → InRange (book y.tile y.canister)
entry_in_range y vs p =
    let c = LL.owed S.the_type S'.the_laws y vs p in
    (LL.owed K.the_type K'.the_laws y.canister _ c.1.0).0.1
