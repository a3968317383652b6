-- How long the parts of an image and the whole are.
use mathlib.Core.Path.{◌≡◌, refl, sym, ap, ◌∙◌}
use mathlib.Core.Bool.{Bool, true, false, cond}
use mathlib.Core.List.{List, [], ◌∷◌, ◌++◌, map}
use Prim.Native.Nat.{ℕ, zero, suc, ◌+◌, ◌*◌, ◌≤◌, ◌<◌}
use native.Mathlib.Omega.{arith}
use lib.Dec.{ltb}
use borrow.Author.Tests.{ltb-true, ltb-false}
use lib.ListN.{length, get_or, replicate, length-append, length-replicate}
use Rattle.laws.specs.Define.{tab, sum, bit, bits_below}
use Rattle.laws.proofs.Tables.{tab_length}
use Rattle.laws.proofs.SetBits.{sum_last}
use Rattle.image_bytes.specs.Bytes.{bytes, bytes_of, width}
use Rattle.image_bytes.proofs.ByteLaws.{row_length}
use Rattle.floor.specs.declared.Canister.{Canister}
use Rattle.floor.specs.declared.Settings.{Settings}
use Rattle.floor.specs.declared.Counters.{Counters}
use Rattle.floor.specs.declared.Layout.{Layout}
use Rattle.floor.specs.Settings.{total, hoppers_of}
use Rattle.floor.specs.Layouts.{letters}
use Rattle.floor.specs.Model.{TileState, Model, no_tile_of}
use Rattle.image.specs.Image.{settings_widths, lowest, hopper_count, several, counters_widths, counters_values, tile_widths, tile_values, canister_widths, canister_values, settings_body, counters_body, canisters_body, tile_body, layout_body, layouts_bytes, tiles_bytes, encode}
use Rattle.image.proofs.Records.{encode_records, record_length}

-- ---- lengths in bytes: a record's header, its length and kind; a tile's record before its canisters; a canister; a layout's record; record 2 where there are h hoppers
abbrev pub header_length : ℕ
header_length = 4

abbrev pub tile_front : ℕ
tile_front = 10

abbrev pub canister_length : ℕ
canister_length = 8

abbrev pub layout_length : ℕ
layout_length = 20

abbrev pub counters_length : ℕ → ℕ
counters_length h = header_length + (8 + 4 * h)

pub settings_size : (s : Settings) → length (settings_body s) ≡ cond (several s) 28 20
unfolding settings_body
settings_size s = go (several s)
  where
    front : List ℕ → List ℕ
    front l = s.columns ∷ s.rows ∷ lowest s.hoppers ∷ 0 ∷ s.width ∷ s.length ∷ s.gap ∷ s.travel ∷ s.sources ∷ l

    go : (b : Bool) → length (bytes_of (settings_widths b) (front (cond b (s.hoppers ∷ []) []))) ≡ cond b 28 20
    go true = row_length (settings_widths true) (front (s.hoppers ∷ [])) refl
    go false = row_length (settings_widths false) (front []) refl

pub fours : (h : ℕ) → width (replicate h 4) ≡ 4 * h
fours zero = refl
fours (suc h) = omega (arith, fours h)

pub counters_size : (h : ℕ) (c : Counters) → length (counters_body h c) ≡ 8 + 4 * h
unfolding counters_body
counters_size h c =
    let e : length (tab h (λ k. get_or c.delivered k 0)) ≡ length {A = ℕ} (replicate h 4) = tab_length h (λ k. get_or c.delivered k 0) ∙ sym (length-replicate {A = ℕ} h 4) in
    row_length (counters_widths h) (counters_values h c) (ap (λ (n : ℕ). suc (suc n)) e) ∙ omega (arith, fours h)

pub canister_size : (c : Canister) → length (bytes_of canister_widths (canister_values c)) ≡ 8
canister_size c = row_length canister_widths (canister_values c) refl

pub canisters_size : (l : List Canister) → length (canisters_body l) ≡ 8 * length l
unfolding canisters_body
canisters_size [] = refl
canisters_size (c ∷ l) = rw (length-append, canister_size c, canisters_size l) (omega arith)

pub tile_size : (t : ℕ) (x : TileState) → length (tile_body t x) ≡ 6 + 8 * length x.members
unfolding tile_body
tile_size t x = rw (length-append, row_length tile_widths (tile_values t x) refl, canisters_size x.members)

-- the record of a tile
unfoldable pub tile_size_lem : TileState → ℕ
tile_size_lem x = tile_front + canister_length * length x.members

tiles_size : (t : ℕ) (l : List TileState) → length (tiles_bytes t l) ≡ header_length + sum (map tile_size_lem l)
unfolding tiles_bytes sum tile_size_lem
tiles_size t [] = record_length 4 []
tiles_size t (x ∷ l) = rw (length-append, record_length 3 (tile_body t x), tile_size t x, tiles_size (suc t) l) (omega arith)

pub layout_size : (x : Layout) → length (layout_body x) ≡ 16
unfolding layout_body letters bytes
layout_size x = refl

pub layouts_size : (l : List Layout) → length (layouts_bytes l) ≡ layout_length * length l
unfolding layouts_bytes
layouts_size [] = refl
layouts_size (x ∷ l) = rw (length-append, record_length 5 (layout_body x), layout_size x, layouts_size l) (omega arith)

pub encode_size : (m : Model) → length (encode m) ≡ 20 + cond (several m.settings) 28 20 + 4 * hopper_count m.settings + layout_length * length m.layouts + sum (map tile_size_lem m.tiles)
encode_size m =
    let h = hopper_count m.settings in
    rw (encode_records m, length-append, record_length 1 (settings_body m.settings), settings_size m.settings, length-append, record_length 2 (counters_body h m.counters), counters_size h m.counters, length-append, layouts_size m.layouts, tiles_size 0 m.tiles)
    (omega arith)

-- ---- at most 16 canisters on each tile, none on those of a set
bits_suc : (x n : ℕ) → bits_below x (suc n) ≡ bits_below x n ++ cond (bit x n) (n ∷ []) []
unfolding bits_below
bits_suc x n = refl

base : (f : ℕ → ℕ) (x : ℕ) → sum (tab 0 f) + 128 * length (bits_below x 0) ≡ 0
unfolding sum tab bits_below
base f x = refl

by_table : (l : List TileState) → sum (map tile_size_lem l) ≡ sum (tab (length l) (λ k. tile_size_lem (get_or l k no_tile_of)))
unfolding sum tab
by_table [] = refl
by_table (x ∷ l) = ap (λ (n : ℕ). tile_size_lem x + n) (by_table l)

bare_most : (f : ℕ → ℕ) (x n : ℕ) → ((k : ℕ) → k < n → f k ≤ 138) → ((k : ℕ) → k < n → bit x k ≡ true → f k ≡ 10) → sum (tab n f) + 128 * length (bits_below x n) ≤ 138 * n
bare_most f x zero a b = none
  where
    none : sum (tab 0 f) + 128 * length (bits_below x 0) ≤ 138 * 0
    none = omega (arith, base f x)
bare_most f x (suc n) a b =
    omega (arith, sum_last n f, ap (λ (l : List ℕ). length l) (bits_suc x n), length-append (bits_below x n) (cond (bit x n) (n ∷ []) []), bare_most f x n (λ k l. a k (omega arith)) (λ k l. b k (omega arith)), here (bit x n) refl)
  where
    here : (c : Bool) → bit x n ≡ c → f n + 128 * length (cond c (n ∷ []) []) ≤ 138
    here true e = omega (arith, b n (omega arith) e)
    here false e = omega (arith, a n (omega arith))

-- "The longest image is 8,908 bytes."
pub encode_most : (m : Model) → length m.layouts ≤ 8 → length m.tiles ≤ 64 → length m.tiles ≡ total m.settings → 1 ≤ hopper_count m.settings → ((k : ℕ) → length (get_or m.tiles k no_tile_of).members ≤ 16)
    → ((k : ℕ) → bit m.settings.hoppers k ≡ true → (get_or m.tiles k no_tile_of).members ≡ []) → length (encode m) ≤ 8908
unfolding several hoppers_of tile_size_lem
encode_most m layouts_few few all some most bare =
    let x = m.settings.hoppers in
    let f : ℕ → ℕ = λ k. tile_size_lem (get_or m.tiles k no_tile_of) in
    let b : sum (tab (length m.tiles) f) + 128 * length (bits_below x (length m.tiles)) ≤ 138 * length m.tiles
    = bare_most f x (length m.tiles) (λ k _. omega (arith, most k)) (λ k _ e. omega (arith, ap (λ (l : List Canister). length l) (bare k e))) in
    let e : length (bits_below x (length m.tiles)) ≡ length (bits_below x (total m.settings)) = ap (λ (n : ℕ). length (bits_below x n)) all in
    go (ltb 1 (length (bits_below x (total m.settings)))) refl (encode_size m) b e
  where
    go : (c : Bool) → ltb 1 (length (bits_below m.settings.hoppers (total m.settings))) ≡ c
        → length (encode m) ≡ 20 + cond c 28 20 + 4 * length (bits_below m.settings.hoppers (total m.settings)) + 20 * length m.layouts + sum (map tile_size_lem m.tiles)
        → sum (tab (length m.tiles) (λ k. tile_size_lem (get_or m.tiles k no_tile_of))) + 128 * length (bits_below m.settings.hoppers (length m.tiles)) ≤ 138 * length m.tiles
        → length (bits_below m.settings.hoppers (length m.tiles)) ≡ length (bits_below m.settings.hoppers (total m.settings))
        → length (encode m) ≤ 8908
    go true t z b e = omega (arith, ltb-true 1 (length (bits_below m.settings.hoppers (total m.settings))) t, by_table m.tiles, few, layouts_few)
    go false t z b e = omega (arith, ltb-false 1 (length (bits_below m.settings.hoppers (total m.settings))) t, some, by_table m.tiles, few, layouts_few)
