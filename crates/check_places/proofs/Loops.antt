-- What holds at the heads of the loops: of `few_ok`, over the members and over those before each; of `compare_shifted`; of `all_apart`, over the members and over the shifts.
use mathlib.Core.Path.{◌≡◌}
use mathlib.Core.Bool.{Bool, ◌&&◌}
use mathlib.Core.List.{List}
use Prim.Native.Nat.{ℕ, ◌≤◌, ◌<◌, ◌+◌}
use Prim.Native.Nat.{min}
use lib.ListN.{length, take, get_or}
use Rattle.laws.specs.Define.{all_of, pairs_of}
use Rattle.laws.specs.InternalFilled.{Upto, From}
use Rattle.floor.specs.declared.Canister.{Canister}
use Rattle.floor.specs.declared.Settings.{Settings}
use Rattle.floor.specs.Well.{in_order}
use Rattle.check_places.specs.InternalLanes.{distance_at}
use Rattle.check_places.proofs.Lanes.{Twice, lowest}

pub record Paired (s : Settings) (members : List Canister) (ok : Bool) (j : ℕ) : Type 0 where
  pub below : j ≤ length members
  pub ordered : ok ≡ pairs_of (in_order s) (take j members)

pub record PairedWith (s : Settings) (members : List Canister) (j : ℕ) (y : Canister) (ok : Bool) (i : ℕ) : Type 0 where
  pub below : i ≤ j
  pub here : j < length members
  pub ordered : ok ≡ (pairs_of (in_order s) (take j members) && all_of (λ x. in_order s x y) (take i members))

pub record Comparing (old a b : List ℕ) (k : ℕ) (least : List ℕ) (i : ℕ) : Type 0 where
  pub below : i ≤ 16
  pub near : k ≤ 8
  pub size : length least ≡ 16
  pub done : Upto i (λ j. min (get_or old j 0) (distance_at a b j (j + k))) 0 least
  pub rest : From i (λ j. get_or old j 0) 0 least

pub record Doubled (n : ℕ) (items : List Canister) (a b : List ℕ) (k : ℕ) : Type 0 where
  pub below : k ≤ n
  pub in_a : Twice (λ c. c.a) n items k a
  pub in_b : Twice (λ c. c.b) n items k b

pub record Shifts (a b : List ℕ) (least : List ℕ) (j : ℕ) : Type 0 where
  pub below : j ≤ 8
  pub size : length least ≡ 16
  pub low : Upto 16 (λ i. lowest a b i j) 0 least
