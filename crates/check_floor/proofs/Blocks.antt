-- The canisters and numbers of a floor whose tiles fit, from its sixteen places a tile.
use mathlib.Core.Path.{◌≡◌, sym, ap, ◌∙◌}
use mathlib.Core.Bool.{true, false, not, ◌&&◌}
use mathlib.Core.List.Permᴰ
use mathlib.Core.List.{List, [], ◌++◌, append-nil}
use Prim.Native.Nat.{ℕ, ◌+◌, ◌*◌, ◌≤◌, ◌<◌}
use native.Mathlib.Numerals.{add-one}
use native.Mathlib.Omega.{arith}
use lib.Dec.{ltb, eqb}
use lib.ListN.{length, get_or, set, take, drop, length-set, take-append-drop, length-drop, length-map, get_or-map}
use lib.Seq.{take-take, take-suc, take-suc-set, take_all, length-take-le, get_or-take, get_or-drop}
use borrow.Author.Tests.{lt-ltb, eqb-true}
use Rattle.laws.specs.Define.{cat, filter, all_of, pairs_of}
use Rattle.laws.specs.Every.{All, Pairs}
use Rattle.laws.proofs.Tests.{and_left, and_right}
use Rattle.laws.proofs.Lists.{all_imp, all_map, all_true, filter_all, filter_none, filter_append, map_append, perm_of, all_place, pairs_place}
use Rattle.floor.specs.declared.Canister.{Canister}
use Rattle.floor.specs.declared.Tile.{Tile}
use Rattle.floor.specs.declared.Floor.{Floor}
use Rattle.floor.specs.Settings.{total}
use Rattle.floor.specs.Model.{TileState, no_tile_of, tile_of, members_of, numbers, numbers_on}
use Rattle.floor.specs.Memory.{zero_canister, head_of, state_of, view, head, is_zero_canister, block, head_fits, tile_fits}
use Rattle.floor.specs.Well.{head_sound, members_sound, tile_sound}
use Rattle.floor.proofs.Rows.{view_at, rest_zero}
use Rattle.check_unique.specs.InternalDiffer.{differ, Runs}
use Rattle.check_unique.proofs.Apart.{differ_filter, runs_of}
use Rattle.check_floor.specs.InternalCode.{counted}
use Rattle.check_floor.proofs.Branches.{zero_off, count_fits}
use Rattle.check_floor.proofs.Joins.{map_take, map_drop, cat_same, cat_rest, cat_length, blocks_perm}

-- the places of tile t that are used
abbrev pub used_of : Floor → ℕ → List Canister
used_of f t = take (head_of f t).count (block f.canisters t)

abbrev pub Fit : Floor → ℕ → Type 0
Fit f t = tile_fits f.settings t (head_of f t) (block f.canisters t) ≡ true

-- ---- one tile
head_fit : (f : Floor) (t : ℕ) → Fit f t → head_fits f.settings t (head_of f t) ≡ true
unfolding tile_fits
head_fit f t p = and_left (head_fits f.settings t (head_of f t)) _ p

pub rest_fit : (f : Floor) (t : ℕ) → Fit f t → all_of is_zero_canister (drop (head_of f t).count (block f.canisters t)) ≡ true
unfolding tile_fits
rest_fit f t p = and_right (head_fits f.settings t (head_of f t)) _ p

pub few_of : (f : Floor) (t : ℕ) → Fit f t → (head_of f t).count ≤ 16
few_of f t p = count_fits f.settings t (head_of f t) (head_fit f t p)

pub block_length : (cs : List Canister) (t : ℕ) → length cs ≡ 1024 → t < 64 → length (block cs t) ≡ 16
block_length cs t lc h = length-take-le 16 (drop (16 * t) cs) (rw (length-drop, lc) (omega arith))

pub used_length : (f : Floor) (t : ℕ) → length f.canisters ≡ 1024 → t < 64 → Fit f t → length (used_of f t) ≡ (head_of f t).count
used_length f t lc h p = length-take-le (head_of f t).count (block f.canisters t) (omega (arith, block_length f.canisters t lc h, few_of f t p))

-- off the floor nothing is used
pub used_off : (f : Floor) (t : ℕ) → Fit f t → total f.settings ≤ t → used_of f t ≡ []
used_off f t p off =
    let e : (head_of f t).count ≡ 0 = ap (λ (h : Tile). h.count) (zero_off f.settings t (head_of f t) (head_fit f t p) off) in
    ap (λ (n : ℕ). take n (block f.canisters t)) e

state_members : (f : Floor) (t : ℕ) → Fit f t → (state_of f t).members ≡ used_of f t
unfolding state_of
state_members f t p = sym (take-take (head_of f t).count 16 (drop (16 * t) f.canisters) (few_of f t p))

head_count : (f : Floor) (t : ℕ) → length (state_of f t).members ≡ (head_of f t).count → head (state_of f t) ≡ head_of f t
unfolding head state_of
head_count f t e = rw e

pub used_view : (f : Floor) (t : ℕ) → Fit f t → t < total f.settings → members_of (view f) t ≡ used_of f t
used_view f t p on = ap (λ (x : TileState). x.members) (view_at f t no_tile_of on) ∙ state_members f t p

pub tile_view : (f : Floor) (t : ℕ) → length f.canisters ≡ 1024 → t < 64 → Fit f t → t < total f.settings
    → tile_sound f.settings t (tile_of (view f) t) ≡ (head_sound f.settings t (head_of f t) && members_sound f.settings (used_of f t))
unfolding tile_sound
tile_view f t lc h p on =
    let e = head_count f t (ap length (state_members f t p) ∙ used_length f t lc h p) in
    rw (view_at f t no_tile_of on, e, state_members f t p)

-- ---- the numbers that stand in the places of a tile
number_zero : (c : Canister) → is_zero_canister c ≡ true → ltb 0 c.number ≡ false
unfolding is_zero_canister
number_zero c h = rw (eqb-true c.number 0 (and_left (eqb c.number 0) _ h))

kept : (n : ℕ) (l : List Canister) → All (λ c. 0 < c.number) (take n l) → all_of is_zero_canister (drop n l) ≡ true → filter (λ k. ltb 0 k) (numbers l) ≡ numbers (take n l)
kept n l pos free =
    ap (λ (x : List Canister). filter (λ k. ltb 0 k) (numbers x)) (sym (take-append-drop n l))
    ∙ ap (filter (λ k. ltb 0 k)) (map_append (λ (c : Canister). c.number) (take n l) (drop n l))
    ∙ filter_append (λ k. ltb 0 k) (numbers (take n l)) (numbers (drop n l))
    ∙ two
  where
    one : filter (λ k. ltb 0 k) (numbers (take n l)) ≡ numbers (take n l)
    one =
        let yes-each = all_imp (λ c. 0 < c.number) (λ c. ltb 0 c.number ≡ true) (take n l) (λ c h. lt-ltb 0 c.number h) pos in
        filter_all (λ k. ltb 0 k) _ (all_map (λ k. ltb 0 k ≡ true) (λ (c : Canister). c.number) (take n l) yes-each)

    none : filter (λ k. ltb 0 k) (numbers (drop n l)) ≡ []
    none =
        let no-each = all_imp (λ c. is_zero_canister c ≡ true) (λ c. ltb 0 c.number ≡ false) (drop n l) number_zero (all_true is_zero_canister (drop n l) free) in
        filter_none (λ k. ltb 0 k) _ (all_map (λ k. ltb 0 k ≡ false) (λ (c : Canister). c.number) (drop n l) no-each)

    two : filter (λ k. ltb 0 k) (numbers (take n l)) ++ filter (λ k. ltb 0 k) (numbers (drop n l)) ≡ numbers (take n l)
    two = rw (one, none) (append-nil (numbers (take n l)))

-- ---- all tiles
module _ (f : Floor) (lc : length f.canisters ≡ 1024) (few : total f.settings ≤ 64) (fit : (t : ℕ) → t < 64 → Fit f t) where
  pub numbers_view : numbers_on (view f) ≡ cat 64 (λ t. numbers (used_of f t))
  unfolding numbers_on view
  numbers_view =
      cat_same (total f.settings) (λ t. numbers (members_of (view f) t)) (λ t. numbers (used_of f t)) (λ t h. ap numbers (used_view f t (fit t (omega arith)) h))
      ∙ sym (cat_rest 64 (total f.settings) (λ t. numbers (used_of f t)) few (λ t off h. ap numbers (used_off f t (fit t h) off)))

  pub count_view : length (numbers_on (view f)) ≡ counted f.tiles 64
  count_view = ap length numbers_view ∙ cat_length f.tiles 64 (λ t. numbers (used_of f t)) (λ t h. length-map (used_of f t) (λ c. c.number) ∙ used_length f t lc h (fit t h))

  pub differ_view : ((t : ℕ) → t < 64 → All (λ c. 0 < c.number) (used_of f t)) → differ (numbers f.canisters) ≡ pairs_of (λ x y. not (eqb x y)) (numbers_on (view f))
  differ_view pos = differ_filter (numbers f.canisters) (Permᴰ.trans (perm_of whole) (Permᴰ.trans (blocks_perm (λ k. ltb 0 k) (numbers f.canisters) 64) (perm_of (each ∙ sym numbers_view))))
    where
      len : length (numbers f.canisters) ≤ 16 * 64
      len = omega (arith, length-map f.canisters (λ c. c.number))

      whole : filter (λ k. ltb 0 k) (numbers f.canisters) ≡ filter (λ k. ltb 0 k) (take (16 * 64) (numbers f.canisters))
      whole = ap (filter (λ k. ltb 0 k)) (sym (take_all (16 * 64) (numbers f.canisters) len))

      part : (t : ℕ) → take 16 (drop (16 * t) (numbers f.canisters)) ≡ numbers (block f.canisters t)
      part t = ap (take 16) (sym (map_drop (λ (c : Canister). c.number) (16 * t) f.canisters)) ∙ sym (map_take (λ (c : Canister). c.number) 16 (drop (16 * t) f.canisters))

      kept_part : (t : ℕ) → t < 64 → filter (λ k. ltb 0 k) (take 16 (drop (16 * t) (numbers f.canisters))) ≡ numbers (used_of f t)
      kept_part t h = ap (filter (λ k. ltb 0 k)) (part t) ∙ kept (head_of f t).count (block f.canisters t) (pos t h) (rest_fit f t (fit t h))

      each : cat 64 (λ t. filter (λ k. ltb 0 k) (take 16 (drop (16 * t) (numbers f.canisters)))) ≡ cat 64 (λ t. numbers (used_of f t))
      each = cat_same 64 (λ t. filter (λ k. ltb 0 k) (take 16 (drop (16 * t) (numbers f.canisters)))) (λ t. numbers (used_of f t)) kept_part

-- ---- the numbers place by place, as they are listed
pub listed : (cs : List Canister) (k : ℕ) (keys : List ℕ) → length cs ≡ 1024 → k < 1024 → (length keys ≡ 1024) × (take k keys ≡ take k (numbers cs))
    → (length (set keys k (get_or cs k zero_canister).number) ≡ 1024) × (take (k + 1) (set keys k (get_or cs k zero_canister).number) ≡ take (k + 1) (numbers cs))
listed cs k keys lc h v =
    let here : k < length (numbers cs) = rw (length-map, lc) h in
    let at : get_or (numbers cs) k 0 ≡ (get_or cs k zero_canister).number = get_or-map (λ (c : Canister). c.number) cs k zero_canister in
    (length-set keys k _ ∙ v.0, rw (add-one, take-suc-set keys k _ (omega (arith, v.0)), take-suc (numbers cs) k 0 here, at, v.1))

-- ---- the places as the test for differing numbers wants them
number_at : (cs : List Canister) (t i : ℕ) → i < 16 → get_or (numbers cs) (16 * t + i) 0 ≡ (get_or (block cs t) i zero_canister).number
number_at cs t i h =
    get_or-map (λ (c : Canister). c.number) cs (16 * t + i) zero_canister
    ∙ ap (λ (c : Canister). c.number) (sym (get_or-take 16 (drop (16 * t) cs) i zero_canister h ∙ get_or-drop (16 * t) cs i zero_canister))

-- a place that isn't used has the number 0
pub free_number : (f : Floor) (t k : ℕ) → length f.canisters ≡ 1024 → t < 64 → Fit f t → (head_of f t).count ≤ k → k < 16 → get_or (numbers f.canisters) (16 * t + k) 0 ≡ 0
free_number f t k lc h p l m =
    number_at f.canisters t k m
    ∙ ap (λ (c : Canister). c.number) (rest_zero (head_of f t).count k (block f.canisters t) (rest_fit f t p) l (omega (arith, block_length f.canisters t lc h)))

pub runs_view : (f : Floor) → length f.canisters ≡ 1024 → ((t : ℕ) → t < 64 → Fit f t) → ((t : ℕ) → t < 64 → All (λ c. 0 < c.number) (used_of f t))
    → ((t : ℕ) → t < 64 → Pairs (λ x y. x.number < y.number) (used_of f t)) → Runs (numbers f.canisters)
runs_view f lc fit pos rise = runs_of (numbers f.canisters) (λ t. (head_of f t).count) up (λ t k h. free_number f t k lc h (fit t h))
  where
    used_at : (t i : ℕ) → t < 64 → i < (head_of f t).count → get_or (numbers f.canisters) (16 * t + i) 0 ≡ (get_or (used_of f t) i zero_canister).number
    used_at t i h l =
        number_at f.canisters t i (omega (arith, few_of f t (fit t h)))
        ∙ ap (λ (c : Canister). c.number) (sym (get_or-take (head_of f t).count (block f.canisters t) i zero_canister l))

    up : (t j k : ℕ) → t < 64 → j < k → k < (head_of f t).count
        → (0 < get_or (numbers f.canisters) (16 * t + j) 0) × (get_or (numbers f.canisters) (16 * t + j) 0 < get_or (numbers f.canisters) (16 * t + k) 0)
    up t j k h l m =
        let len = used_length f t lc h (fit t h) in
        let p : 0 < (get_or (used_of f t) j zero_canister).number = all_place (λ (c : Canister). 0 < c.number) zero_canister (used_of f t) (pos t h) j (omega arith) in
        let q : (get_or (used_of f t) j zero_canister).number < (get_or (used_of f t) k zero_canister).number = pairs_place (λ (x y : Canister). x.number < y.number) zero_canister (used_of f t) (rise t h) j k l (omega arith) in
        rw (used_at t j h (omega arith), used_at t k h m) (p, q)
