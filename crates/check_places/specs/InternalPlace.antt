-- A used place in the words of the code.
use Rattle.std.specs.Prelude.{Bool, ◌&&◌, ℕ, leb, ltb}
use Rattle.floor.specs.declared.Canister.{Canister}
use Rattle.floor.specs.declared.Settings.{Settings}
use Rattle.floor.specs.Well.{inside}

-- a canister within its tile, its number from 1 to the last booked
unfoldable pub member_sound : Settings → ℕ → Canister → Bool
member_sound s last c = inside s c && (ltb 0 c.number && leb c.number last)

-- the second number is the greater
unfoldable pub rises : Canister → Canister → Bool
rises x y = ltb x.number y.number
