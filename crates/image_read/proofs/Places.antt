-- The 1,024 places, as the loops over the used tiles and over each tile's own canisters fill them.
use mathlib.Core.Path.{◌≡◌, ◌∙◌}
use mathlib.Core.List.{List}
use Prim.Native.Nat.{ℕ, ◌+◌, ◌*◌, ◌/◌, ◌%◌, ◌≤◌, ◌<◌}
use native.Mathlib.Omega.{arith}
use borrow.Author.Tests.{lt-ltb, le-ltb}
use lib.ListN.{length, drop, get_or, set}
use Rattle.laws.proofs.Tables.{filled_turn, filled_on, filled_end}
use Rattle.laws.specs.InternalFilled.{Filled}
use Rattle.laws.specs.Define.{tab}
use Rattle.floor.specs.declared.Canister.{Canister}
use Rattle.floor.specs.Memory.{zero_canister}
use Rattle.image.specs.Image.{canister_in}
use Rattle.image_read.specs.InternalArrays.{canister_from}
use Rattle.image_read.proofs.Reading.{canister_none, canister_past, canister_some}

-- c used tiles
module _ (s starts : List ℕ) (c : ℕ) where
  abbrev pub Placed : ℕ → List Canister → Type 0
  Placed k out = Filled 1024 (canister_from s starts c) zero_canister k out

  -- at tile t, which has n canisters
  module _ (t : ℕ) (below : t < c) (few : c ≤ 64) (room : get_or starts t 0 + 6 ≤ length s) (n : ℕ) (count : n ≡ get_or s (get_or starts t 0 + 5) 0) (fits : n ≤ 16) where
    pub placed_turn : (j : ℕ) (out : List Canister) (v : Canister) → j < n → v ≡ canister_in (drop (get_or starts t 0 + 6 + 8 * j) s) → Placed (16 * t + j) out → Placed (16 * t + (j + 1)) (set out (16 * t + j) v)
    placed_turn j out v h e p =
        let q : (16 * t + j) / 16 ≡ t = omega arith in
        let r : (16 * t + j) % 16 ≡ j = omega arith in
        let a : v ≡ canister_from s starts c (16 * t + j) = e ∙ rw (q, r, lt-ltb t c below) (canister_some s (get_or starts t 0) j room (omega arith)) in
        let k : 16 * t + (j + 1) ≡ 16 * t + j + 1 = omega arith in
        rw k (filled_turn 1024 (canister_from s starts c) zero_canister (16 * t + j) out v (omega arith) a p)

    -- behind its last canister its places stay zero
    pub placed_tile : (j : ℕ) (out : List Canister) → n ≤ j → j ≤ n → Placed (16 * t + j) out → Placed (16 * (t + 1)) out
    placed_tile j out lo hi p = filled_on 1024 (canister_from s starts c) zero_canister (16 * t + j) (16 * (t + 1)) out (omega arith) past p
      where
        past : (i : ℕ) → 16 * t + j ≤ i → i < 16 * (t + 1) → zero_canister ≡ canister_from s starts c i
        past i a b = let q : i / 16 ≡ t = omega arith in rw (q, lt-ltb t c below) (canister_past s (get_or starts t 0) (i % 16) room (omega arith))

  pub placed_all : (t : ℕ) (out : List Canister) → c ≤ t → t ≤ 64 → Placed (16 * t) out → out ≡ tab 1024 (canister_from s starts c)
  placed_all t out lo few p = filled_end 1024 (canister_from s starts c) zero_canister (16 * t) out (omega arith) past p
    where
      past : (i : ℕ) → 16 * t ≤ i → zero_canister ≡ canister_from s starts c i
      past i h = let off : c ≤ i / 16 = omega arith in rw (le-ltb (i / 16) c off) (canister_none s (get_or starts (i / 16) 0) (i % 16))
