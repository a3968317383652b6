-- Document 02's [2]: a rate as an f64, deliveries over 256 rounds. Definitions only.
use Rattle.std.specs.Prelude.{ℕ, ◌*◌, ◌%◌, Bool, false, cond, not, ◌&&◌, pos, ◌==◌, nat_le, Float}
use Rattle.std.specs.Float.{nan, inf, fin, binary64}
use Rattle.std.specs.Float.Ieee.{up, down, mul, div, of_int, of_bits, to_unsigned}

-- the f64 256, by its bits: sign 0, exponent 1,023 + 8, mantissa 0
abbrev pub per_window : Float
per_window = of_bits binary64 4643211215818981376

-- "its rate as an f64": the f64 of n deliveries divided by the f64 256
unfoldable pub rate_of : ℕ → Float
unfolding of_int of_bits div
rate_of n = div binary64 (of_int binary64 (pos n)) per_window

-- "a rate times 256 is no whole number from 0 to 1,024, or a rate is negative zero": what passes both.
-- A finite f64 is m × up e / down e, negative where s is true; so the two zeros differ in s, and no NaN or infinity passes.
unfoldable pub rate_sound : Float → Bool
rate_sound nan = false
rate_sound (inf s) = false
rate_sound (fin s m e) = not s && (m * up e * 256 % down e == 0 && nat_le (m * up e * 256) (1024 * down e))

-- "The rate times 256 is the deliveries": read back from a rate; 0 for an f64 that is none
unfoldable pub deliveries_of : Float → ℕ
unfolding mul to_unsigned
deliveries_of x = cond (rate_sound x) (to_unsigned 64 (mul binary64 x per_window)) 0
