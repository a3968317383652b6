-- What a refused reading answers.
use Rattle.std.specs.Prelude.{ℕ, replicate}
use Rattle.floor.specs.declared.Reading.{Reading}
use Rattle.floor.specs.Memory.{zero_tile, zero_canister}

-- "a report of zeros"
unfoldable pub unread_with : ℕ → Reading
unread_with n = record { refusal = n; tile = zero_tile; members = replicate 16 zero_canister }
