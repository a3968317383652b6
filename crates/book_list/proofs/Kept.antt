-- A booking keeps a well-formed floor well formed, and a malformed one as it came.
use mathlib.Core.Path.{◌≡◌, refl}
use mathlib.Core.Bool.{Bool, true, false}
use Prim.Native.Nat.{ℕ}
use Rattle.laws.specs.Define.{refusal}
use Rattle.floor.specs.declared.Canister.{Canister}
use Rattle.floor.specs.declared.Booking.{Booking}
use Rattle.floor.specs.declared.Floor.{Floor}
use Rattle.floor.specs.Well.{well_formed}
use Rattle.floor.specs.Calls.{refusal_of, answer, book_answer}
use Rattle.floor.specs.Demand3.{book, InRange, outcome}
use Rattle.floor.proofs.Lists.{call_keeps}
use Rattle.floor.specs.Bookings.{single}

pub book_malformed : (f : Floor) (t : ℕ) (c : Canister) → well_formed f ≡ false → book_answer f t c ≡ record { refusal = 30; floor = f }
unfolding book_answer answer refusal_of refusal
book_malformed f t c w = rw w

-- the callers' arguments have their parameters' widths
pub still : (f : Floor) (t : ℕ) (c : Canister) → InRange (book t c) → well_formed (book_answer f t c).floor ≡ well_formed f
unfolding outcome
still f t c h = go (well_formed f) refl
  where
    go : (b : Bool) → well_formed f ≡ b → well_formed (book_answer f t c).floor ≡ well_formed f
    go true w = rw w (call_keeps f w (book t c) h).0
    go false w = rw (book_malformed f t c w)

pub entry_still : (f : Floor) (b : Booking) → InRange (book b.tile b.canister) → well_formed (single f b).floor ≡ well_formed f
entry_still f b h = still f b.tile b.canister h
