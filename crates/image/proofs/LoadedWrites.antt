-- An image without a fault, read and written again, gives the same bytes.
use mathlib.Core.Path.{◌≡◌, refl, sym, ap, ◌∙◌, subst}
use mathlib.Core.Logic.{◌⊎◌, inl, inr}
use mathlib.Core.Bool.{true, false, not, ◌&&◌, ◌||◌}
use mathlib.Core.List.{List, [], ◌++◌, append-nil}
use Prim.Native.Nat.{ℕ, zero, suc, ◌+◌, ◌*◌, ◌≤◌}
use native.Mathlib.Omega.{arith}
use lib.Dec.{ltb, eqb}
use borrow.Author.Tests.{not-false, ltb-false, lt-ltb, eqb-true}
use lib.ListN.{length, take, drop, length-drop, drop_of_length-le}
use lib.Seq.{take-add}
use Rattle.laws.specs.Define.{tab}
use Rattle.laws.proofs.Tests.{test_none, by_test, or_case}
use Rattle.image_bytes.specs.Bytes.{fields_of, bytes_of, field, width, Bytes}
use Rattle.image_bytes.proofs.ByteLaws.{bytes_drop, bytes_fields}
use Rattle.floor.proofs.Sound.{Measured}
use Rattle.image.specs.Image.{lowest, hopper_count, several, byte_wrong, settings_widths, settings_values, counters_widths, counters_values, tile_widths, tile_values, canister_widths, canister_values, record_of, settings_body, counters_body, canisters_body, tile_body, tiles_bytes, encode, length_in, body_in, rest_in_of, settings_in, counters_in, canister_in, canisters_in, tile_in, tiles_in, after_layouts, model_in, settings_faults, counters_faults, tile_faults, end_faults, own_faults, record_fault, end_fault, tiles_fault, layouts_fault, fault}
use Rattle.image.proofs.Hoppers.{no_hoppers, spliced_none, byte_again, not_several}
use Rattle.image.proofs.Sizes.{fours}
use Rattle.image.proofs.Records.{or_else_none, encode_records, fault_records, equal, cut, Whole, whole, again}
use Rattle.image.proofs.Layouts.{layouts_again}

-- ---- the values that were read, written again
pub canisters_length : (n : ℕ) (b : List ℕ) → length (canisters_in n b) ≡ n
unfolding canisters_in
canisters_length zero b = refl
canisters_length (suc n) b = ap suc (canisters_length n (drop 8 b))

canister_values_lem : (b : List ℕ) → canister_values (canister_in b) ≡ fields_of canister_widths b
unfolding canister_in fields_of
canister_values_lem b = refl

canisters_again : (n : ℕ) (b : List ℕ) → Bytes b → 8 * n ≤ length b → canisters_body (canisters_in n b) ≡ take (8 * n) b
unfolding canisters_in canisters_body
canisters_again zero b p h = refl
canisters_again (suc n) b p h =
    let e : 8 * suc n ≡ 8 + 8 * n = omega arith in
    let m : 8 * n ≤ length (drop 8 b) = rw length-drop (omega arith) in
    let w : bytes_of canister_widths (fields_of canister_widths b) ≡ take 8 b = bytes_fields canister_widths b p (omega arith) in
    rw (canister_values_lem b, w, canisters_again n (drop 8 b) (bytes_drop 8 b p) m, e) (sym (take-add 8 (8 * n) b))

counters_values_lem : (h : ℕ) (b : List ℕ) → h ≤ 4 → counters_values h (counters_in h b) ≡ fields_of (counters_widths h) b
unfolding counters_in fields_of tab
counters_values_lem zero b q = refl
counters_values_lem (suc zero) b q = refl
counters_values_lem (suc (suc zero)) b q = refl
counters_values_lem (suc (suc (suc zero))) b q = refl
counters_values_lem (suc (suc (suc (suc zero)))) b q = refl
counters_values_lem (suc (suc (suc (suc (suc h))))) b q = absurd (omega arith)

-- with 20 bytes, and with 28
settings_one : (b : List ℕ) → field (settings_widths false) 3 b ≡ 0 → Measured (settings_in 20 b) → bytes_of (settings_widths (several (settings_in 20 b))) (settings_values (settings_in 20 b)) ≡ bytes_of (settings_widths false) (fields_of (settings_widths false) b)
unfolding settings_in fields_of
settings_one b h M =
    let x = field (settings_widths false) 2 b in
    rw (not_several (settings_in 20 b) x refl M, byte_again (settings_in 20 b) x refl M, h)

set_in : (b : List ℕ) → (settings_in 28 b).hoppers ≡ field (settings_widths true) 9 b
unfolding settings_in
set_in b = refl

settings_set : (b : List ℕ) → field (settings_widths true) 3 b ≡ 0 → several (settings_in 28 b) ≡ true → field (settings_widths true) 2 b ≡ lowest (field (settings_widths true) 9 b)
    → bytes_of (settings_widths (several (settings_in 28 b))) (settings_values (settings_in 28 b)) ≡ bytes_of (settings_widths true) (fields_of (settings_widths true) b)
unfolding settings_in fields_of
settings_set b h s e = rw (s, ← e, h)

tile_values_lem : (t : ℕ) (b : List ℕ) → field tile_widths 0 b ≡ t → tile_values t (tile_in b) ≡ fields_of tile_widths b
unfolding tile_in fields_of
tile_values_lem t b e = rw (← e, canisters_length (field tile_widths 5 b) (drop 6 b))

-- ---- what the tests of a record leave, where none is met
pub record TileGood (t n : ℕ) (b : List ℕ) : Type 0 where
  pub mine : field tile_widths 0 b ≡ t
  pub few : field tile_widths 5 b ≤ 16
  pub long : n ≡ 6 + 8 * field tile_widths 5 b

pub tile_good : (t : ℕ) (xs : List ℕ) → Whole 3 t xs → TileGood t (length_in xs) (body_in xs)
unfolding own_faults tile_faults
tile_good t xs w =
    let b : List ℕ = body_in xs in
    let o1 = test_none (ltb (length_in xs) 6) 11 _ (omega arith) w.own_none in
    let o2 = test_none (not (eqb (field tile_widths 0 b) t)) 11 _ (omega arith) o1.1 in
    let o3 = test_none (ltb 16 (field tile_widths 5 b)) 11 _ (omega arith) o2.1 in
    let o4 = test_none (not (eqb (length_in xs) (6 + 8 * field tile_widths 5 b))) 11 _ (omega arith) o3.1 in
    record { mine = equal _ t o2.0; few = ltb-false 16 _ o3.0; long = equal (length_in xs) _ o4.0 }

pub end_good : (xs : List ℕ) → Whole 4 0 xs → length_in xs ≡ 0
unfolding own_faults end_faults
end_good xs w = equal (length_in xs) 0 (test_none (not (eqb (length_in xs) 0)) 11 [] (omega arith) w.own_none).0

pub counters_good : (h : ℕ) (xs : List ℕ) → Whole 2 h xs → length_in xs ≡ 8 + 4 * h
unfolding own_faults counters_faults
counters_good h xs w = equal (length_in xs) (8 + 4 * h) (test_none (not (eqb (length_in xs) (8 + 4 * h))) 11 [] (omega arith) w.own_none).0

pub record SettingsGood (n : ℕ) (b : List ℕ) : Type 0 where
  pub long : (n ≡ 20) ⊎ (n ≡ 28)
  pub zero_byte : field (settings_widths (eqb n 28)) 3 b ≡ 0
  pub byte : byte_wrong n b ≡ false
  pub two : (eqb n 28 && ltb (hopper_count (settings_in n b)) 2) ≡ false
  pub measured : Measured (settings_in n b)

pub settings_good : (xs : List ℕ) → Whole 1 0 xs → SettingsGood (length_in xs) (body_in xs)
unfolding own_faults settings_faults
settings_good xs w =
    let n = length_in xs in
    let b : List ℕ = body_in xs in
    let o1 = test_none (not (eqb n 20 || eqb n 28)) 11 _ (omega arith) w.own_none in
    let o2 = test_none (not (eqb (field (settings_widths (eqb n 28)) 3 b) 0)) 11 _ (omega arith) o1.1 in
    let o3 = test_none (byte_wrong n b) 11 _ (omega arith) o2.1 in
    let o4 = spliced_none (settings_in n b) (eqb n 28 && ltb (hopper_count (settings_in n b)) 2) o3.1 in
    record { long = either (or_case (eqb n 20) (eqb n 28) (not-false _ o1.0)); zero_byte = equal _ 0 o2.0; byte = o3.0; two = o4.0; measured = o4.1 }
  where
    either : (eqb (length_in xs) 20 ≡ true) ⊎ (eqb (length_in xs) 28 ≡ true) → (length_in xs ≡ 20) ⊎ (length_in xs ≡ 28)
    either (inl e) = inl (eqb-true (length_in xs) 20 e)
    either (inr e) = inr (eqb-true (length_in xs) 28 e)

module _ (b : List ℕ) (p : Bytes b) where
  again_20 : SettingsGood 20 b → 20 ≤ length b → settings_body (settings_in 20 b) ≡ take 20 b
  unfolding settings_body
  again_20 G l = settings_one b G.zero_byte G.measured ∙ bytes_fields (settings_widths false) b p l

  again_28 : SettingsGood 28 b → 28 ≤ length b → settings_body (settings_in 28 b) ≡ take 28 b
  unfolding settings_body byte_wrong several
  again_28 G l =
      let x = field (settings_widths true) 9 b in
      let s = lt-ltb 1 (hopper_count (settings_in 28 b)) (ltb-false (hopper_count (settings_in 28 b)) 2 G.two) in
      settings_set b G.zero_byte s (low (by_test (eqb x 0))) ∙ bytes_fields (settings_widths true) b p l
    where
      low : (eqb (field (settings_widths true) 9 b) 0 ≡ true) ⊎ (eqb (field (settings_widths true) 9 b) 0 ≡ false) → field (settings_widths true) 2 b ≡ lowest (field (settings_widths true) 9 b)
      low (inl z) = absurd (no_hoppers (settings_in 28 b) G.measured (set_in b ∙ eqb-true _ 0 z))
      low (inr z) = equal _ _ (rw z at G.byte)

  settings_again : (n : ℕ) → SettingsGood n b → n ≤ length b → settings_body (settings_in n b) ≡ take n b
  settings_again n G l = go G.long
    where
      go : (n ≡ 20) ⊎ (n ≡ 28) → settings_body (settings_in n b) ≡ take n b
      go (inl e) = subst (λ (k : ℕ). SettingsGood k b → k ≤ length b → settings_body (settings_in k b) ≡ take k b) (sym e) again_20 G l
      go (inr e) = subst (λ (k : ℕ). SettingsGood k b → k ≤ length b → settings_body (settings_in k b) ≡ take k b) (sym e) again_28 G l

counters_again : (h : ℕ) (b : List ℕ) → h ≤ 4 → Bytes b → 8 + 4 * h ≤ length b → counters_body h (counters_in h b) ≡ take (8 + 4 * h) b
unfolding counters_body
counters_again h b q p l =
    let e : width (counters_widths h) ≡ 8 + 4 * h = omega (arith, fours h) in
    ap (bytes_of (counters_widths h)) (counters_values_lem h b q) ∙ bytes_fields (counters_widths h) b p (omega arith) ∙ ap (λ (n : ℕ). take n b) e

-- ---- record after record
module _ (t : ℕ) (xs : List ℕ) (p : Bytes xs) where
  tile_again : record_fault 3 t xs ≡ 0 → record_of 3 (tile_body t (tile_in (body_in xs))) ++ rest_in_of xs ≡ xs
  unfolding tile_body tile_in
  tile_again h =
      let b : List ℕ = body_in xs in
      let w = whole 3 t xs h in
      let o = tile_good t xs w in
      let n : ℕ = field tile_widths 5 b in
      let e5 : length_in xs ≡ 6 + 8 * n = o.long in
      let pb : Bytes b = bytes_drop 4 xs p in
      let lb : 6 + 8 * n ≤ length b = rw length-drop (omega (arith, w.enough)) in
      let lc : 8 * n ≤ length (drop 6 b) = rw length-drop (omega arith) in
      let head : bytes_of tile_widths (tile_values t (tile_in b)) ≡ take 6 b = rw (tile_values_lem t b o.mine) (bytes_fields tile_widths b pb (omega arith)) in
      let all : tile_body t (tile_in b) ≡ cut xs = rw (head, canisters_again n (drop 6 b) (bytes_drop 6 b pb) lc, e5) (sym (take-add 6 (8 * n) b)) in
      rw all (again 3 t xs p w)

tiles_again : (n t : ℕ) (xs : List ℕ) → Bytes xs → tiles_fault n t xs ≡ 0 → tiles_bytes t (tiles_in n xs) ≡ xs
unfolding tiles_fault tiles_bytes tiles_in end_fault
tiles_again zero t xs p h =
    let o = or_else_none (record_fault 4 0 xs) _ h in
    let w = whole 4 0 xs o.0 in
    let e : length_in xs ≡ 0 = end_good xs w in
    let z : length xs ≤ 4 + length_in xs = ltb-false (4 + length_in xs) (length xs) (test_none (ltb (4 + length_in xs) (length xs)) 9 [] (omega arith) o.1).0 in
    let c : cut xs ≡ [] = ap (λ (k : ℕ). take k (body_in xs)) e in
    let r : rest_in_of xs ≡ [] = drop_of_length-le xs z in
    sym (append-nil (record_of 4 [])) ∙ rw (c, r) at (again 4 0 xs p w)
tiles_again (suc n) t xs p h =
    let o = or_else_none (record_fault 3 t xs) _ h in
    rw (tiles_again n (suc t) (rest_in_of xs) (bytes_drop (4 + length_in xs) xs p) o.1) (tile_again t xs p o.0)

pub written_again : (xs : List ℕ) → Bytes xs → fault xs ≡ 0 → encode (model_in xs) ≡ xs
unfolding model_in
written_again xs p h =
    let s = settings_in (length_in xs) (body_in xs) in
    let o = or_else_none (record_fault 1 0 xs) _ (sym (fault_records xs) ∙ h) in
    let q = or_else_none (record_fault 2 (hopper_count s) (rest_in_of xs)) _ o.1 in
    let ys : List ℕ = rest_in_of xs in
    let py : Bytes ys = bytes_drop (4 + length_in xs) xs p in
    let w = whole 1 0 xs o.0 in
    let v = whole 2 (hopper_count s) ys q.0 in
    let G = settings_good xs w in
    let n2 : length_in ys ≡ 8 + 4 * hopper_count s = counters_good (hopper_count s) ys v in
    let b1 : settings_body s ≡ cut xs = settings_again (body_in xs) (bytes_drop 4 xs p) (length_in xs) G (rw length-drop (omega (arith, w.enough))) in
    let b2 : counters_body (hopper_count s) (counters_in (hopper_count s) (body_in ys)) ≡ cut ys =
    counters_again (hopper_count s) (body_in ys) G.measured.hoppers_few (bytes_drop 4 ys py) (rw length-drop (omega (arith, v.enough))) ∙ ap (λ (n : ℕ). take n (body_in ys)) (sym n2) in
    let v5 = or_else_none (layouts_fault 8 (rest_in_of ys)) _ q.1 in
    let L = layouts_again 8 (rest_in_of ys) (bytes_drop (4 + length_in ys) ys py) v5.0 in
    encode_records (model_in xs) ∙ rw (b1, b2, tiles_again _ 0 (after_layouts 8 (rest_in_of ys)) L.are_bytes v5.1, L.written, again 2 (hopper_count s) ys py v) (again 1 0 xs p w)
