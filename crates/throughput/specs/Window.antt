-- Document 02's [2]: a record of windows of 256 rounds, and what feeding it a round's delivered count answers. Definitions only.
use Rattle.std.specs.Prelude.{ℕ, ◌+◌, ◌*◌, Bool, false, cond, not, ◌&&◌, ◌||◌, [], ◌∷◌, pos, ◌==◌, nat_eq, nat_le, nat_lt, Float}
use Rattle.std.specs.Float.{fin}
use Rattle.std.specs.Float.Ieee.{lt, le, eq}
use Rattle.laws.specs.Define.{refusal}
use Rattle.throughput.specs.declared.Throughput.{Throughput}
use Rattle.throughput.specs.declared.Fed.{Fed}
use Rattle.throughput.specs.declared.Fed.TheVariants.{Open, Closed, Refused}
use Rattle.throughput.specs.declared.Feeding.{Feeding}
use Rattle.throughput.specs.declared.FedValues.{FedValues}
use Rattle.throughput.specs.Rate.{rate_of, rate_sound}

-- the f64 0
abbrev pub zero64 : Float
zero64 = fin false 0 (pos 0)

-- "or a rate times 256 is no whole number from 0 to 1,024, or a rate is negative zero": of the three
unfoldable pub rates_sound : Float → Float → Float → Bool
rates_sound last least greatest = rate_sound last && (rate_sound least && rate_sound greatest)

-- "or not least ≤ last ≤ greatest, or a rate isn't 0 before the first close"; ≤ and = are f64's own
unfoldable pub rates_in_order : Float → Float → Float → ℕ → Bool
rates_in_order last least greatest closed =
    le least last && (le last greatest && (not (closed == 0) || (eq last zero64 && (eq least zero64 && eq greatest zero64))))

-- "A record is 30 if its open window has 256 rounds or more or over four deliveries a round, or …": what passes all of it
unfoldable pub record_sound : Throughput → Bool
record_sound t =
    nat_lt t.rounds 256
    && (nat_le t.deliveries (4 * t.rounds)
    && (rates_sound t.last t.least t.greatest && rates_in_order t.last t.least t.greatest t.closed))

-- "A record is 30 if …"; "41, a count above 4, checked after 30"
unfoldable pub feed_refusal : Throughput → ℕ → ℕ
feed_refusal t n = refusal ((not (record_sound t), 30) ∷ (nat_lt 4 n, 41) ∷ [])

-- "the window is still open": one round and n deliveries more
unfoldable pub opened : Throughput → ℕ → Throughput
opened t n = record { last = t.last; least = t.least; greatest = t.greatest; rounds = t.rounds + 1; deliveries = t.deliveries + n; closed = t.closed }

-- the lesser and the greater of two rates, by f64's own order
unfoldable pub lower : Float → Float → Float
lower x y = cond (lt x y) x y

unfoldable pub higher : Float → Float → Float
higher x y = cond (lt y x) x y

-- "It keeps the last, least and greatest closed rates, and whether a window has closed": the 256th round closes the window with rate x and empties it; the first close sets all three
unfoldable pub closed_by : Throughput → Float → Throughput
closed_by t x =
    let first = nat_eq t.closed 0 in
    record { last = x; least = cond first x (lower t.least x); greatest = cond first x (higher t.greatest x); rounds = 0; deliveries = 0; closed = 1 }

-- "answers either that the window is still open and how many rounds it has, or its rate"; "A refusal gives the record back unchanged"
unfoldable pub feed_answer : Throughput → ℕ → Feeding
feed_answer t n =
    let k = feed_refusal t n in
    cond (not (k == 0)) (record { throughput = t; fed = Refused k })
    (cond (nat_lt (t.rounds + 1) 256) (record { throughput = opened t n; fed = Open (t.rounds + 1) })
    (let x = rate_of (t.deliveries + n) in record { throughput = closed_by t x; fed = Closed x }))

-- the papers' number and values for each case of the answer: the refusal, 0 where the count was taken; kind 0 refused, 1 open with its rounds, 2 closed with its rate; what a case does not have is 0
abbrev pub values_by : Throughput → Fed → FedValues
values_by t (Open k) = record { throughput = t; rate = zero64; rounds = k; kind = 1; refusal = 0 }
values_by t (Closed x) = record { throughput = t; rate = x; rounds = 0; kind = 2; refusal = 0 }
values_by t (Refused n) = record { throughput = t; rate = zero64; rounds = 0; kind = 0; refusal = n }

unfoldable pub values_of : Feeding → FedValues
values_of a = values_by a.throughput a.fed

-- what feeding count n to t tells: the promises speak of this
unfoldable pub feed_values : Throughput → ℕ → FedValues
feed_values t n = values_of (feed_answer t n)
