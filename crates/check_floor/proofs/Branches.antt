-- The test of one tile branch by branch.
use mathlib.Core.Path.{◌≡◌, refl, sym, ap, ◌∙◌}
use mathlib.Core.Bool.{Bool, true, false, not, ◌&&◌, ◌||◌}
use mathlib.Core.List.{List, [], ◌∷◌}
use Prim.Native.Nat.{ℕ, zero, suc, ◌≤◌, ◌<◌}
use native.Mathlib.Omega.{arith}
use native.Mathlib.Decide.{dec_le, ℕ_discrete}
use lib.Dec.{eqb}
use lib.ListN.{take, drop}
use borrow.Author.Tests.{leb-true, le-leb, lt-ltb, le-ltb, ne_eqb}
use Rattle.laws.specs.Define.{all_of, pairs_of}
use Rattle.laws.proofs.Tests.{and_left, and_yes}
use Rattle.floor.specs.declared.Canister.{Canister}
use Rattle.floor.specs.declared.Settings.{Settings}
use Rattle.floor.specs.declared.Tile.{Tile}
use Rattle.floor.specs.Settings.{total}
use Rattle.floor.specs.Memory.{zero_tile, is_zero_canister, head_fits, tile_fits}
use Rattle.floor.specs.Well.{head_sound, in_order}
use Rattle.floor.proofs.Rows.{zero_tile_lem}
use Rattle.check_places.specs.InternalPlace.{member_sound}
use Rattle.check_floor.specs.InternalTile.{used_sound, head_test, front_test, places_test, back_test, tile_test}

pub count_on : (s : Settings) (t : ℕ) (h : Tile) → head_fits s t h ≡ true → t < total s → h.count ≤ 16
unfolding head_fits
count_on s t h p on = leb-true h.count 16 (rw (lt-ltb t (total s) on) at p)

pub zero_off : (s : Settings) (t : ℕ) (h : Tile) → head_fits s t h ≡ true → total s ≤ t → h ≡ zero_tile
unfolding head_fits
zero_off s t h p off = zero_tile_lem h (rw (le-ltb t (total s) off) at p)

pub count_fits : (s : Settings) (t : ℕ) (h : Tile) → head_fits s t h ≡ true → h.count ≤ 16
count_fits s t h p = go (dec_le (total s) t)
  where
    go : Dec (total s ≤ t) → h.count ≤ 16
    go (yes off) = let e : h.count ≡ 0 = ap (λ (x : Tile). x.count) (zero_off s t h p off) in omega arith
    go (no on) = count_on s t h p (omega arith)

-- ---- the code's parts
module _ (s : Settings) (t : ℕ) (h : Tile) (all : ℕ) (e : all ≡ total s) (fits : Bool) (f : fits ≡ head_fits s t h) where
  pub head_off : all ≤ t → fits ≡ head_test s t h
  unfolding head_test
  head_off off = rw (le-ltb t (total s) (omega arith), f) (sym (and_yes (head_fits s t h)))

  pub head_on : t < all → (own : Bool) → own ≡ head_sound s t h → (fits && own) ≡ head_test s t h
  unfolding head_test
  head_on on own o = rw (f, o, lt-ltb t (total s) (omega arith))

pub few_pairs : {A : Type 0} (r : A → A → Bool) (n : ℕ) (l : List A) → n < 2 → true ≡ pairs_of r (take n l)
unfolding pairs_of all_of
few_pairs r zero l h = refl
few_pairs r (suc zero) [] h = refl
few_pairs r (suc zero) (x ∷ l) h = refl
few_pairs r (suc (suc n)) l h = absurd (omega arith)

pub head_in : (s : Settings) (t all : ℕ) → all ≡ total s → t < all → t < total s
head_in s t all e on = omega arith

pub places_few : (s : Settings) (last n : ℕ) (l : List Canister) (free each pairs : Bool) → n ≤ 16
    → free ≡ all_of is_zero_canister (drop n l) → each ≡ all_of (member_sound s last) (take n l) → pairs ≡ pairs_of (in_order s) (take n l) → (free && (each && pairs)) ≡ places_test s last n l
unfolding places_test used_sound
places_few s last n l free each pairs h a b c = rw (a, b, c, le-leb n 16 h)

-- ---- a tile is tested by its parts
and_moved : (a b c : Bool) → (a && (b && c)) ≡ (b && (a && c))
and_moved true b c = refl
and_moved false true c = refl
and_moved false false c = refl

none_used : (s : Settings) (last : ℕ) (l : List Canister) → used_sound s last 0 l ≡ true
unfolding used_sound all_of pairs_of
none_used s last l = refl

-- an empty tile
places_none : (s : Settings) (last : ℕ) (l : List Canister) → places_test s last 0 l ≡ all_of is_zero_canister l
unfolding places_test
places_none s last l = rw (none_used s last l) (and_yes (all_of is_zero_canister l))

-- a head that passes, and the places with as many used as it says
pub tile_parts : (s : Settings) (last t : ℕ) (h : Tile) (l : List Canister) → (head_test s t h && places_test s last h.count l) ≡ tile_test s last t h l
unfolding tile_test tile_fits head_test places_test
tile_parts s last t h l = go (head_fits s t h) refl (dec_le (total s) t)
  where
    go : (a : Bool) → head_fits s t h ≡ a → Dec (total s ≤ t) → (head_test s t h && places_test s last h.count l) ≡ tile_test s last t h l
    go false p w = rw p
    go true p (yes off) =
        let none : h.count ≡ 0 = ap (λ (x : Tile). x.count) (zero_off s t h p off) in
        rw (p, le-ltb t (total s) off, none, none_used s last l)
    go true p (no on) =
        let k : t < total s = omega arith in
        rw (p, lt-ltb t (total s) k, le-leb h.count 16 (count_on s t h p k)) (and_moved (head_sound s t h) (all_of is_zero_canister (drop h.count l)) (used_sound s last h.count l))

pub head_few : (s : Settings) (t : ℕ) (h : Tile) → head_test s t h ≡ true → h.count ≤ 16
unfolding head_test
head_few s t h e = count_fits s t h (and_left (head_fits s t h) _ e)

-- ---- and by what is tested first and then
pub front_few : (s : Settings) (t : ℕ) (h : Tile) (l : List Canister) → front_test s t h l ≡ true → h.count ≤ 16
unfolding front_test
front_few s t h l e = head_few s t h (and_left (head_test s t h) _ e)

pub tile_turns : (s : Settings) (last t : ℕ) (h : Tile) (l : List Canister) → (front_test s t h l && back_test s last h.count l) ≡ tile_test s last t h l
unfolding front_test back_test
tile_turns s last t h l = go (head_test s t h) h.count (ℕ_discrete h.count 0) ∙ tile_parts s last t h l
  where
    go : (a : Bool) (n : ℕ) → Dec (n ≡ 0) → ((a && (not (eqb n 0) || all_of is_zero_canister l)) && (eqb n 0 || places_test s last n l)) ≡ (a && places_test s last n l)
    go a n (yes z) = rw (z, places_none s last l) (and_yes (a && all_of is_zero_canister l))
    go a n (no z) = rw (ne_eqb n 0 z, and_yes a)
