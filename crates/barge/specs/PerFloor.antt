-- "Per floor of a sound barge, demand 3 reads as before for the calls that name it." The theorem is `per_floor` of proofs/PerFloor.
use Rattle.std.specs.Prelude.{◌≡◌, ◌↔◌, Bool, true, false, cond, not, ◌&&◌, ℕ, ◌+◌, ◌≤◌, ◌<◌, eqb, length, get_or}
use mathlib.Core.List.{List, [], ◌∷◌, ◌++◌, Permᴰ}
use Rattle.laws.specs.Define.{cat, all_of, pairs_of}
use Rattle.laws.specs.Every.{All}
use Rattle.floor.specs.declared.Floor.{Floor}
use Rattle.floor.specs.Settings.{spacing}
use Rattle.floor.specs.Model.{runs_of_of, members_of, numbers_on}
use Rattle.floor.specs.Memory.{view}
use Rattle.floor.specs.Well.{inside, apart, well_formed}
use Rattle.floor.specs.Bound.{bound}
use Rattle.floor.specs.Live.{LivePath, connected, connected_count}
use Rattle.floor.specs.Demand3.{is_round}
use Rattle.barge.specs.declared.Barge.{Barge}
use Rattle.barge.specs.Barges.{floor_at, barge_sound}
use Rattle.barge.specs.Lists.{BargeCall, book, anywhere, stop, repair, round, named, standalone, InRange, outcome, barge_after}

-- of the calls that name floor j: the numbers of accepted bookings; what the rounds reported delivered to hopper k, and to all together
unfoldable pub booked_on : ℕ → Barge → List BargeCall → List ℕ
booked_on j b [] = []
booked_on j b (c ∷ cs) = cond (eqb (named c) j) (outcome b c).booked [] ++ booked_on j (outcome b c).barge cs

unfoldable pub reported_on : ℕ → Barge → List BargeCall → ℕ → List ℕ
reported_on j b [] k = []
reported_on j b (c ∷ cs) k = cond (eqb (named c) j) ((outcome b c).reported k) [] ++ reported_on j (outcome b c).barge cs k

unfoldable pub reported_all_on : ℕ → Barge → List BargeCall → List ℕ
reported_all_on j b cs = cat 4 (reported_on j b cs)

-- whether tile t of floor j runs, by the latest accepted stop or repair of it
unfoldable pub runs_by : ℕ → Barge → BargeCall → ℕ → Bool → Bool
runs_by j b (book k u c) t r = r
runs_by j b (anywhere k u number) t r = r
runs_by j b (stop k u) t r = cond (eqb (outcome b (stop k u)).refusal 0 && (eqb k j && eqb u t)) false r
runs_by j b (repair k u) t r = cond (eqb (outcome b (repair k u)).refusal 0 && (eqb k j && eqb u t)) true r
runs_by j b (round k) t r = r

unfoldable pub latest : ℕ → Barge → List BargeCall → ℕ → Bool → Bool
latest j b [] t r = r
latest j b (c ∷ cs) t r = latest j (outcome b c).barge cs t (runs_by j b c t r)

unfoldable pub runs_on_of : ℕ → Barge → List BargeCall → ℕ → Bool
runs_on_of j b cs t = latest j b cs t (runs_of_of (view (floor_at b j)) t)

-- "no accepted booking, stop or repair" on floor j, and its rounds. What is done on the other floors may go on
unfoldable pub disturbs : ℕ → Barge → BargeCall → Bool
disturbs j b c = eqb (named c) j && (not (is_round (standalone c)) && eqb (outcome b c).refusal 0)

abbrev pub QuietOn : ℕ → Barge → List BargeCall → Type 0
QuietOn j b [] = Unit {0}
QuietOn j b (c ∷ cs) = (disturbs j b c ≡ false) × QuietOn j (outcome b c).barge cs

abbrev pub rounds_on : ℕ → List BargeCall → ℕ
rounds_on j [] = 0
rounds_on j (c ∷ cs) = cond (eqb (named c) j && is_round (standalone c)) 1 0 + rounds_on j cs

-- demand 3's promises word for word: j the floor, b the first barge, cs the list
pub record Promises (j : ℕ) (b : Barge) (cs : List BargeCall) : Type 0 where
  pub first : Floor
  pub is_first : first ≡ floor_at b j
  pub now : Floor
  pub is_now : now ≡ floor_at (barge_after b cs) j
  pub well : well_formed now ≡ true
  pub same_settings : now.settings ≡ first.settings
  pub within : (t : ℕ) → all_of (inside first.settings) (members_of (view now) t) ≡ true
  pub spaced : (t : ℕ) → pairs_of (apart (spacing first.settings)) (members_of (view now) t) ≡ true
  pub kept : Permᴰ (numbers_on (view first) ++ booked_on j b cs) (numbers_on (view now) ++ reported_all_on j b cs)
  pub once_before : pairs_of (λ x y. not (eqb x y)) (numbers_on (view first) ++ booked_on j b cs) ≡ true
  pub once_now : pairs_of (λ x y. not (eqb x y)) (numbers_on (view now) ++ reported_all_on j b cs) ≡ true
  pub booked : now.counters.booked ≡ first.counters.booked + length (booked_on j b cs)
  pub delivered : (k : ℕ) → get_or now.counters.delivered k 0 ≡ get_or first.counters.delivered k 0 + length (reported_on j b cs k)
  pub runs_now : (t : ℕ) → runs_on_of j b cs t ≡ runs_of_of (view now) t
  pub counts_live : (t : ℕ) → LivePath first.settings (runs_on_of j b cs) t ↔ connected first.settings (runs_on_of j b cs) t ≡ true
  pub emptied : (ds : List BargeCall) → All InRange ds → QuietOn j (barge_after b cs) ds → bound first.settings (connected_count (view now) (runs_on_of j b cs)) ≤ rounds_on j ds
      → (t : ℕ) → LivePath first.settings (runs_on_of j b cs) t → members_of (view (floor_at (barge_after (barge_after b cs) ds) j)) t ≡ []
  pub runs_same : (ds : List BargeCall) → QuietOn j (barge_after b cs) ds → (t : ℕ) → runs_on_of j b (cs ++ ds) t ≡ runs_on_of j b cs t
  pub live_same : (ds : List BargeCall) → QuietOn j (barge_after b cs) ds → (t : ℕ) → LivePath first.settings (runs_on_of j b (cs ++ ds)) t ↔ LivePath first.settings (runs_on_of j b cs) t

-- each of the four floors
abbrev pub PerFloor : Type 0
PerFloor = (j : ℕ) → j < 4 → (b : Barge) → barge_sound b ≡ true → (cs : List BargeCall) → All InRange cs → Promises j b cs
