-- Why did the tile stand: what the reasons of a round's report tell, and what the gap test does. The theorems are `standing` and `gap_test` of proofs/Standing.
use Rattle.std.specs.Prelude.{◌≡◌, ◌↔◌, ◌≢◌, true, false, ℕ, zero, suc, ◌+◌, ◌≤◌, ◌<◌, length, get_or}
use mathlib.Core.List.{List, [], Memᴰ}
use Rattle.laws.specs.Define.{bits_below}
use Rattle.laws.specs.Every.{All}
use Rattle.floor.specs.declared.Canister.{Canister}
use Rattle.floor.specs.declared.Settings.{Settings}
use Rattle.floor.specs.declared.Floor.{Floor}
use Rattle.floor.specs.Sides.{sides, opposite}
use Rattle.floor.specs.Settings.{total, spacing, is_hopper}
use Rattle.floor.specs.Grid.{neighbour}
use Rattle.floor.specs.Model.{Model, runs_of_of, next_of, members_of}
use Rattle.floor.specs.Memory.{view}
use Rattle.floor.specs.Well.{well_formed}
use Rattle.floor.specs.Signal.{lack, missing}
use Rattle.floor.specs.Move.{crosses, shift, land}
use Rattle.floor.specs.Calls.{round_answer}
use Rattle.floor.specs.Reports.{listed_at}
use Rattle.floor.specs.BoundedBypass.{turn_of}

-- m is the floor before a round and n the floor after it, which has the arrows that Route set; out k: the numbers that the report lists at the hopper with k hoppers before it

-- the tile that the arrow of t faces
abbrev pub ahead : Model → Model → ℕ → ℕ
ahead m n t = neighbour m.settings (next_of n t) t

abbrev pub hoppers_before : Settings → ℕ → ℕ
hoppers_before s u = length (bits_below s.hoppers u)

-- canister c of tile t "shifted" by v along side k: it stands so on its tile; or it crossed, and stands landed on the tile beyond, or was delivered to the hopper there
pub data Shifts (s : Settings) (n : Model) (out : ℕ → List ℕ) (k t : ℕ) (c : Canister) : Type 0 where
  stayed : crosses s k c ≡ false → Memᴰ (shift s k c) (members_of n t) → Shifts s n out k t c
  landed : crosses s k c ≡ true → is_hopper s (neighbour s k t) ≡ false → Memᴰ (land s k c) (members_of n (neighbour s k t)) → Shifts s n out k t c
  delivered : crosses s k c ≡ true → is_hopper s (neighbour s k t) ≡ true → Memᴰ c.number (out (hoppers_before s (neighbour s k t))) → Shifts s n out k t c

-- "its canisters shifted": tile t had some, and each is v farther along the tile's arrow
abbrev pub Shifted : Model → Model → (ℕ → List ℕ) → ℕ → Type 0
Shifted m n out t = (members_of m t ≢ []) × (next_of n t ≢ 0) × All (Shifts m.settings n out (next_of n t) t) (members_of m t)

-- each is where it was
abbrev pub Stood : Model → Model → ℕ → Type 0
Stood m n t = All (λ c. Memᴰ c (members_of n t)) (members_of m t)

-- what a reason says of tile t: "1 stopped, 2 empty when the round began, 3 no arrow, 4 the turn ahead was another's, 5 no gap, …, 6 moved"; "by the turn before it passed on"
abbrev pub Fits : Model → Model → (ℕ → List ℕ) → ℕ → ℕ → Type 0
Fits m n out t zero = ⊥
Fits m n out t (suc zero) = runs_of_of m t ≡ false
Fits m n out t (suc (suc zero)) = members_of m t ≡ []
Fits m n out t (suc (suc (suc zero))) = next_of n t ≡ 0
Fits m n out t (suc (suc (suc (suc zero)))) = turn_of m (ahead m n t) ≢ opposite (next_of n t)
Fits m n out t (suc (suc (suc (suc (suc zero))))) = 0 < missing m.settings (turn_of m (ahead m n t)) (members_of m (ahead m n t))
Fits m n out t (suc (suc (suc (suc (suc (suc zero)))))) = Shifted m n out t
Fits m n out t (suc (suc (suc (suc (suc (suc (suc k))))))) = ⊥

-- reason t and millimetres t: what the report has for tile t, its reason and the missing millimetres
pub record Standing (m n : Model) (out : ℕ → List ℕ) (reason millimetres : ℕ → ℕ) : Type 0 where
  -- "one reason for each tile …, the first that fits"
  pub one : (t : ℕ) → t < total m.settings → (1 ≤ reason t) × (reason t ≤ 6)
  pub fits : (t : ℕ) → t < total m.settings → Fits m n out t (reason t)
  pub first : (t : ℕ) → t < total m.settings → (k : ℕ) → 1 ≤ k → k < reason t → ¬ (Fits m n out t k)
  -- a tile that an arrow faces runs, so that it has a turn and the six are all there are
  pub runs : (t : ℕ) → next_of n t ≢ 0 → runs_of_of m (ahead m n t) ≡ true
  -- "with the missing millimetres (0 beside other reasons)": at the turn of the tile ahead
  pub short : (t : ℕ) → reason t ≡ 5 → millimetres t ≡ missing m.settings (turn_of m (ahead m n t)) (members_of m (ahead m n t))
  pub lacking : (t : ℕ) → reason t ≡ 5 ↔ 0 < millimetres t
  -- less than U
  pub below : (t : ℕ) → (millimetres t ≤ spacing m.settings) × (millimetres t < m.settings.width)
  -- "A tile has reason 6 exactly when its canisters shifted."; else all stand where they stood
  pub moved : (t : ℕ) → reason t ≡ 6 ↔ Shifted m n out t
  pub stood : (t : ℕ) → reason t ≢ 6 → Stood m n t
  pub not_both : (t : ℕ) → Shifted m n out t → ¬ (Stood m n t)
  -- a hopper never has canisters
  pub hopper : (t : ℕ) → is_hopper m.settings t ≡ true → reason t ≡ 2
  -- no tile, no reason
  pub none : (t : ℕ) → total m.settings ≤ t → (reason t ≡ 0) × (millimetres t ≡ 0)

-- tile t's reason and missing millimetres in the report of the round that begins with f
unfoldable pub reason_at : Floor → ℕ → ℕ
reason_at f t = get_or (round_answer f).report.reasons t 0

unfoldable pub missing_at_of : Floor → ℕ → ℕ
missing_at_of f t = get_or (round_answer f).report.missing t 0

-- the theorem: for every well-formed floor
abbrev pub ReasonRule : Type 0
ReasonRule = (f : Floor) → well_formed f ≡ true → Standing (view f) (view (round_answer f).floor) (listed_at (round_answer f).report) (reason_at f) (missing_at_of f)

-- ---- the gap test
-- "The gap: every canister here has a ≥ d for a west turn, b ≥ d for south, b + l + d ≤ U for north, a + l + d ≤ U for east."
abbrev pub HasGap : Settings → ℕ → Canister → Type 0
HasGap s zero c = ⊥
HasGap s (suc zero) c = spacing s ≤ c.a
HasGap s (suc (suc zero)) c = spacing s ≤ c.b
HasGap s (suc (suc (suc zero))) c = c.b + s.length + spacing s ≤ s.width
HasGap s (suc (suc (suc (suc zero)))) c = c.a + s.length + spacing s ≤ s.width
HasGap s (suc (suc (suc (suc (suc k))))) c = ⊥

-- "The gap test now says how many millimetres are missing, the worst canister's, 0 for a gap": for any settings, canisters anywhere
pub record GapTest (s : Settings) : Type 0 where
  pub worst : (k : ℕ) (l : List Canister) (n : ℕ) → missing s k l ≤ n ↔ All (λ c. lack s k c ≤ n) l
  pub enough : {k : ℕ} → Memᴰ k sides → (c : Canister) → lack s k c ≡ 0 ↔ HasGap s k c
  pub gap : {k : ℕ} → Memᴰ k sides → (l : List Canister) → missing s k l ≡ 0 ↔ All (HasGap s k) l
