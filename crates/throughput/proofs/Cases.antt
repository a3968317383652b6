-- Cases of feeding, computed through the definitions: one table, one proof. A row is what is told and the record after it, then what is due; an f64 stands by its bits.
use Rattle.std.proofs.Common.{◌≡◌, ℕ, Bool, true, ◌&&◌, List, [], ◌∷◌, ◌++◌, replicate, refl}
use lib.Ieee.{binary64, div, lt, le, eq, of_int, of_bits, to_bits}
use Rattle.laws.specs.Define.{refusal, all_of}
use Rattle.laws.proofs.Lists.{same}
use Rattle.throughput.specs.declared.Throughput.{Throughput}
use Rattle.throughput.specs.Rate.{rate_of, rate_sound}
use Rattle.throughput.specs.Window.{rates_sound, rates_in_order, record_sound, feed_refusal, opened, lower, higher, closed_by, feed_answer, values_of, feed_values}
use Rattle.throughput.specs.Lists.{zero_throughput, feed_all}

abbrev part : ℕ
part = 4571153621781053440  -- 1 / 256

abbrev one : ℕ
one = 4607182418800017408

abbrev two : ℕ
two = 4611686018427387904

abbrev three : ℕ
three = 4613937818241073152

abbrev four : ℕ
four = 4616189618054758400

-- what no rate is: negative zero, the least f64 above 0, 1 / 512, -1 / 256, the f64 after 4, 1,025 / 256, an infinity, a NaN
abbrev wrongs : List ℕ
wrongs = 9223372036854775808 ∷ 1 ∷ 4566650022153682944 ∷ 13794525658635829248 ∷ 4616189618054758401 ∷ 4616194016101269504 ∷ 9218868437227405312 ∷ 9221120237041090560 ∷ []

-- a record by the bits of its three rates
unfoldable pub rec : ℕ → ℕ → ℕ → ℕ → ℕ → ℕ → Throughput
unfolding of_bits
rec last least greatest rounds deliveries closed =
    record { last = of_bits binary64 last; least = of_bits binary64 least; greatest = of_bits binary64 greatest; rounds = rounds; deliveries = deliveries; closed = closed }

-- the record's three rates, its open window and its flag
unfoldable pub bits_of : Throughput → List ℕ
unfolding to_bits
bits_of t = to_bits binary64 t.last ∷ to_bits binary64 t.least ∷ to_bits binary64 t.greatest ∷ t.rounds ∷ t.deliveries ∷ t.closed ∷ []

-- refusal, kind, rounds and rate, then the record
unfoldable pub fed : Throughput → ℕ → List ℕ
unfolding bits_of to_bits feed_values values_of feed_answer feed_refusal refusal record_sound rates_sound rate_sound rates_in_order le lt eq opened closed_by lower higher rate_of div of_int of_bits
fed t n = let a = feed_values t n in a.refusal ∷ a.kind ∷ a.rounds ∷ to_bits binary64 a.rate ∷ bits_of a.throughput

-- refused by k, and the record as it came
unfoldable pub refused : ℕ → Throughput → List ℕ
refused k t = k ∷ 0 ∷ 0 ∷ 0 ∷ bits_of t

unfoldable pub table : List (List ℕ × List ℕ)
table =
    -- open: 0 and 4 deliveries; the 255th round
    (fed zero_throughput 0, 0 ∷ 1 ∷ 1 ∷ 0 ∷ 0 ∷ 0 ∷ 0 ∷ 1 ∷ 0 ∷ 0 ∷ [])
    ∷ (fed zero_throughput 4, 0 ∷ 1 ∷ 1 ∷ 0 ∷ 0 ∷ 0 ∷ 0 ∷ 1 ∷ 4 ∷ 0 ∷ [])
    ∷ (fed (rec one one one 254 1016 1) 3, 0 ∷ 1 ∷ 255 ∷ 0 ∷ one ∷ one ∷ one ∷ 255 ∷ 1019 ∷ 1 ∷ [])
    -- closed: the first close sets all three, with 4, with 0 and with 1 / 256
    ∷ (fed (rec 0 0 0 255 1020 0) 4, 0 ∷ 2 ∷ 0 ∷ four ∷ four ∷ four ∷ four ∷ 0 ∷ 0 ∷ 1 ∷ [])
    ∷ (fed (rec 0 0 0 255 0 0) 0, 0 ∷ 2 ∷ 0 ∷ 0 ∷ 0 ∷ 0 ∷ 0 ∷ 0 ∷ 0 ∷ 1 ∷ [])
    ∷ (fed (rec 0 0 0 255 0 0) 1, 0 ∷ 2 ∷ 0 ∷ part ∷ part ∷ part ∷ part ∷ 0 ∷ 0 ∷ 1 ∷ [])
    -- a later one between, below and above
    ∷ (fed (rec two one three 255 512 1) 0, 0 ∷ 2 ∷ 0 ∷ two ∷ two ∷ one ∷ three ∷ 0 ∷ 0 ∷ 1 ∷ [])
    ∷ (fed (rec two one three 255 0 1) 1, 0 ∷ 2 ∷ 0 ∷ part ∷ part ∷ part ∷ three ∷ 0 ∷ 0 ∷ 1 ∷ [])
    ∷ (fed (rec two one three 255 1020 1) 4, 0 ∷ 2 ∷ 0 ∷ four ∷ four ∷ one ∷ four ∷ 0 ∷ 0 ∷ 1 ∷ [])
    -- zeros after a close; any other flag is a close too: an open round keeps it, a close sets 1
    ∷ (fed (rec 0 0 0 255 256 1) 0, 0 ∷ 2 ∷ 0 ∷ one ∷ one ∷ 0 ∷ one ∷ 0 ∷ 0 ∷ 1 ∷ [])
    ∷ (fed (rec two one three 3 12 200) 2, 0 ∷ 1 ∷ 4 ∷ 0 ∷ two ∷ one ∷ three ∷ 4 ∷ 14 ∷ 200 ∷ [])
    ∷ (fed (rec two one three 255 512 200) 0, 0 ∷ 2 ∷ 0 ∷ two ∷ two ∷ one ∷ three ∷ 0 ∷ 0 ∷ 1 ∷ [])
    -- 41, and 30 before it
    ∷ (fed zero_throughput 5, refused 41 zero_throughput)
    ∷ (fed zero_throughput 260, refused 41 zero_throughput)
    ∷ (fed zero_throughput 65540, refused 41 zero_throughput)
    ∷ (fed (rec two one three 255 512 1) 4294967295, refused 41 (rec two one three 255 512 1))
    ∷ (fed (rec 0 0 0 256 0 0) 5, refused 30 (rec 0 0 0 256 0 0))
    -- the open window: 256 rounds, over four deliveries a round
    ∷ (fed (rec 0 0 0 256 0 0) 0, refused 30 (rec 0 0 0 256 0 0))
    ∷ (fed (rec 0 0 0 1 5 0) 0, refused 30 (rec 0 0 0 1 5 0))
    ∷ (fed (rec 0 0 0 0 1 0) 0, refused 30 (rec 0 0 0 0 1 0))
    ∷ (fed (rec 0 0 0 65535 65535 0) 0, refused 30 (rec 0 0 0 65535 65535 0))
    -- least, last, greatest out of order
    ∷ (fed (rec one two three 0 0 1) 0, refused 30 (rec one two three 0 0 1))
    ∷ (fed (rec three one two 0 0 1) 0, refused 30 (rec three one two 0 0 1))
    -- a rate before the first close
    ∷ (fed (rec one one one 0 0 0) 0, refused 30 (rec one one one 0 0 0))
    ∷ (fed (rec 0 0 part 0 0 0) 0, refused 30 (rec 0 0 part 0 0 0))
    -- whole lists: 256 rounds with one each, then 256 with none, and refused counts between them
    ∷ (bits_of (feed_all zero_throughput (replicate 256 1)), one ∷ one ∷ one ∷ 0 ∷ 0 ∷ 1 ∷ [])
    ∷ (bits_of (feed_all zero_throughput (replicate 256 4 ++ (7 ∷ replicate 256 0) ++ (9 ∷ 3 ∷ []))), 0 ∷ 0 ∷ four ∷ 1 ∷ 3 ∷ 1 ∷ [])
    ∷ []

-- what is no rate is 30 in each of the three places
unfoldable pub wrong : ℕ → Bool
wrong x =
    same (fed (rec x 0 four 0 0 1) 0) (refused 30 (rec x 0 four 0 0 1))
    && (same (fed (rec four x four 0 0 1) 0) (refused 30 (rec four x four 0 0 1))
    && same (fed (rec 0 0 x 0 0 1) 0) (refused 30 (rec 0 0 x 0 0 1)))

pub cases : all_of (λ r. same r.0 r.1) table ≡ true
unfolding all_of same table fed bits_of refused rec zero_throughput feed_all
cases = refl

pub no_rates : all_of wrong wrongs ≡ true
unfolding all_of wrong same fed bits_of refused rec
no_rates = refl
