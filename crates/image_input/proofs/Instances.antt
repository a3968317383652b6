-- `loaded_front` on concrete inputs: an image of 64 bytes, and the same with 80,000 bytes after it.
use mathlib.Core.Path.{◌≡◌, ◌∙◌}
use mathlib.Core.List.{List, [], ◌∷◌, ◌++◌}
use Prim.Native.Nat.{ℕ, zero, suc}
use native.Mathlib.Omega.{arith}
use lib.ListN.{take, replicate}
use Rattle.image_bytes.specs.Bytes.{Bytes}
use Rattle.floor.specs.Memory.{zero_floor}
use Rattle.image.specs.Image.{load_answer}
use Rattle.image.proofs.Trials.{good}
use Rattle.image.proofs.Instances.{good_bytes, good_extensions}
use Rattle.image_input.proofs.Front.{loaded_front}

zeros : ℕ → List ℕ
zeros n = replicate n 0

pub long : List ℕ
long = good ++ (7 ∷ zeros 80000)

zeros_bytes : (n : ℕ) → Bytes (zeros n)
unfolding zeros
zeros_bytes zero = tt
zeros_bytes (suc n) = (omega arith, zeros_bytes n)

both_bytes : (xs ys : List ℕ) → Bytes xs → Bytes ys → Bytes (xs ++ ys)
both_bytes [] ys b c = c
both_bytes (x ∷ xs) ys b c = (b.0, both_bytes xs ys b.1 c)

pub long_bytes : Bytes long
unfolding long
long_bytes = both_bytes good (7 ∷ zeros 80000) good_bytes (omega arith, zeros_bytes 80000)

pub long_answer : load_answer long ≡ record { refusal = 9; floor = zero_floor }
unfolding long
long_answer = good_extensions 7 (zeros 80000)

-- the first 74,591 bytes answer the same
short_front : load_answer (take 74591 good) ≡ load_answer good
short_front = loaded_front good good_bytes

long_front : load_answer (take 74591 long) ≡ record { refusal = 9; floor = zero_floor }
long_front = loaded_front long long_bytes ∙ long_answer
