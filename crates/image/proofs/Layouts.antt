-- Records of kind 5: what is read of them after they were written, what is written of them after they were read, and what a cut among them gives.
use mathlib.Core.Path.{◌≡◌, refl, sym, ap, ◌∙◌}
use mathlib.Core.Logic.{◌⊎◌, inl, inr}
use mathlib.Core.Bool.{Bool, true, false, cond, not}
use mathlib.Core.List.{List, [], ◌∷◌, ◌++◌, append_assoc}
use Prim.Native.Nat.{ℕ, zero, suc, ◌+◌, ◌-◌, ◌*◌, ◌%◌, ◌^◌, ◌≤◌, ◌<◌}
use native.Mathlib.Omega.{arith}
use native.Mathlib.Decide.{dec_le}
use native.Mathlib.Nat.{mod-eq_of_lt, one-le-pow}
use lib.Arith.{mod-mul}
use lib.Dec.{eqb}
use lib.Pow.{pow-add}
use lib.ListN.{length, take, drop, length-append, length-drop}
use lib.Seq.{take_at, drop_at, take-add, length-take-le}
use borrow.Author.Tests.{le-leb, eq-eqb}
use Rattle.laws.specs.Define.{refusal}
use Rattle.laws.specs.Every.{All}
use Rattle.laws.proofs.Tests.{by_test, and_true, test_none}
use Rattle.image_bytes.specs.Bytes.{le, bytes, Bytes}
use Rattle.image_bytes.proofs.ByteLaws.{le_bytes, bytes_le, bytes_drop}
use Rattle.floor.specs.declared.Layout.{Layout}
use Rattle.floor.specs.Layouts.{name_number, letters}
use Rattle.floor.proofs.Names.{spelling}
use Rattle.image.specs.Image.{record_of, layout_body, layouts_bytes, length_in, body_in, rest_in_of, layout_in, is_layout, layouts_in, after_layouts, layout_faults, own_faults, record_fault, or_else, end_fault, tiles_fault, layouts_fault}
use Rattle.image.proofs.Records.{or_else_none, equal, record_length, kind_in_lem, body_in_lem, rest_in, fault_in, cut, Whole, whole, again, cut_short, cut_after}
use Rattle.image.proofs.Sizes.{layout_size}

pub record LayoutFits (x : Layout) : Type 0 where
  pub name : x.name < 2 ^ 64
  pub set : x.set < 2 ^ 64

-- ---- a name's bytes
pub letters_length : (k n : ℕ) → length (letters k n) ≡ k
unfolding letters
letters_length zero n = refl
letters_length (suc k) n = ap suc (letters_length k n)

number_low : (k n : ℕ) → name_number (letters k n) ≡ n % 2 ^ (8 * k)
unfolding name_number letters
number_low zero n = omega arith
number_low (suc k) n =
    let e : 8 * suc k ≡ 8 + 8 * k = omega arith in
    rw (letters_length k n, number_low k n, e, pow-add 2 8 (8 * k)) (sym (mod-mul n {m = 256} {c = 2 ^ (8 * k)} (omega arith) (one-le-pow (8 * k) 2 (omega arith))))

name_back : (n : ℕ) → n < 2 ^ 64 → name_number (letters 8 n) ≡ n
name_back n h = number_low 8 n ∙ mod-eq_of_lt h

all_bytes : (n : ℕ) (xs : List ℕ) → Bytes xs → All (λ x. x < 256) (take n xs)
all_bytes zero xs b = tt
all_bytes (suc n) [] b = tt
all_bytes (suc n) (x ∷ xs) b = (b.0, all_bytes n xs b.1)

name_again : (b : List ℕ) → Bytes b → 8 ≤ length b → letters 8 (name_number (take 8 b)) ≡ take 8 b
name_again b p h =
    let n : length (take 8 b) ≡ 8 = length-take-le 8 b h in
    ap (λ (k : ℕ). letters k (name_number (take 8 b))) (sym n) ∙ spelling.bytes (take 8 b) (all_bytes 8 b p)

-- ---- one record, read after it was written
module _ (x : Layout) (ys : List ℕ) where
  layout_short : length (layout_body x) < 65536
  layout_short = omega (arith, layout_size x)

  layout_right : record_fault 5 0 (record_of 5 (layout_body x) ++ ys) ≡ 0
  unfolding own_faults layout_faults refusal
  layout_right = rw (fault_in 5 (layout_body x) ys layout_short (omega arith), eq-eqb (length (layout_body x)) 16 (layout_size x))

  layout_rest : rest_in_of (record_of 5 (layout_body x) ++ ys) ≡ ys
  layout_rest = rest_in 5 (layout_body x) ys layout_short

  layout_inner : body_in (record_of 5 (layout_body x) ++ ys) ≡ layout_body x ++ ys
  layout_inner = body_in_lem 5 (layout_body x) ys layout_short

  layout_is : is_layout (record_of 5 (layout_body x) ++ ys) ≡ true
  unfolding is_layout
  layout_is =
      let n : 4 ≤ length (record_of 5 (layout_body x) ++ ys) = rw (length-append, record_length 5 (layout_body x)) (omega arith) in
      and_true (le-leb 4 (length (record_of 5 (layout_body x) ++ ys)) n) (eq-eqb _ 5 (kind_in_lem 5 (layout_body x) ys layout_short (omega arith)))

  layout_back : LayoutFits x → layout_in (layout_body x ++ ys) ≡ x
  unfolding layout_in layout_body
  layout_back f =
      let bs : List ℕ = letters 8 x.name in
      let e : length bs ≡ 8 = letters_length 8 x.name in
      rw (append_assoc bs (bytes 8 x.set) ys, take_at bs (bytes 8 x.set ++ ys) 8 e, name_back x.name f.name, drop_at bs (bytes 8 x.set ++ ys) 8 e, le_bytes 8 x.set ys f.set)

-- ---- several, read after they were written; what follows them, zs, begins with no such record
pub record LayoutsBack (n : ℕ) (l : List Layout) (zs : List ℕ) : Type 0 where
  pub faults : layouts_fault n (layouts_bytes l ++ zs) ≡ 0
  pub values : layouts_in n (layouts_bytes l ++ zs) ≡ l
  pub rest : after_layouts n (layouts_bytes l ++ zs) ≡ zs

pub layouts_read_back : (n : ℕ) (l : List Layout) (zs : List ℕ) → All LayoutFits l → length l ≤ n → is_layout zs ≡ false → LayoutsBack n l zs
unfolding layouts_fault layouts_in after_layouts layouts_bytes
layouts_read_back zero [] zs h k e = record { faults = refl; values = refl; rest = refl }
layouts_read_back zero (x ∷ l) zs h k e = absurd (omega arith)
layouts_read_back (suc n) [] zs h k e = record { faults = rw e; values = rw e; rest = rw e }
layouts_read_back (suc n) (x ∷ l) zs h k e =
    let R = layouts_read_back n l zs h.1 (omega arith) e in
    let ws : List ℕ = layouts_bytes l ++ zs in
    let a : (record_of 5 (layout_body x) ++ layouts_bytes l) ++ zs ≡ record_of 5 (layout_body x) ++ ws = append_assoc (record_of 5 (layout_body x)) (layouts_bytes l) zs in
    record {
      faults = rw (a, layout_is x ws, layout_right x ws, layout_rest x ws) R.faults;
      values = rw (a, layout_is x ws, layout_inner x ws, layout_back x ws h.0, layout_rest x ws, R.values);
      rest = rw (a, layout_is x ws, layout_rest x ws) R.rest;
    }

-- ---- written after read
pub layout_good : (xs : List ℕ) → Whole 5 0 xs → length_in xs ≡ 16
unfolding own_faults layout_faults
layout_good xs w = equal (length_in xs) 16 (test_none (not (eqb (length_in xs) 16)) 11 [] (omega arith) w.own_none).0

layout_again : (xs : List ℕ) → Bytes xs → record_fault 5 0 xs ≡ 0 → record_of 5 (layout_body (layout_in (body_in xs))) ++ rest_in_of xs ≡ xs
unfolding layout_body layout_in
layout_again xs p h =
    let b : List ℕ = body_in xs in
    let w = whole 5 0 xs h in
    let e : length_in xs ≡ 16 = layout_good xs w in
    let pb : Bytes b = bytes_drop 4 xs p in
    let lb : 16 ≤ length b = rw length-drop (omega (arith, w.enough)) in
    let ld : 8 ≤ length (drop 8 b) = rw length-drop (omega arith) in
    let all : letters 8 (name_number (take 8 b)) ++ bytes 8 (le 8 (drop 8 b)) ≡ cut xs = rw (name_again b pb (omega arith), bytes_le 8 (drop 8 b) (bytes_drop 8 b pb) ld, e) (sym (take-add 8 8 b)) in
    rw all (again 5 0 xs p w)

pub record LayoutsAgain (n : ℕ) (xs : List ℕ) : Type 0 where
  pub written : layouts_bytes (layouts_in n xs) ++ after_layouts n xs ≡ xs
  pub are_bytes : Bytes (after_layouts n xs)

pub layouts_again : (n : ℕ) (xs : List ℕ) → Bytes xs → layouts_fault n xs ≡ 0 → LayoutsAgain n xs
unfolding layouts_fault layouts_bytes layouts_in after_layouts
layouts_again zero xs p h = record { written = refl; are_bytes = p }
layouts_again (suc n) xs p h = go (by_test (is_layout xs)) (λ q. layouts_again n (rest_in_of xs) (bytes_drop (4 + length_in xs) xs p) q)
  where
    go : (is_layout xs ≡ true) ⊎ (is_layout xs ≡ false) → (layouts_fault n (rest_in_of xs) ≡ 0 → LayoutsAgain n (rest_in_of xs)) → LayoutsAgain (suc n) xs
    go (inl e) ih =
        let o = or_else_none (record_fault 5 0 xs) _ (rw e at h) in
        let R = ih o.1 in
        record {
          written = rw e (append_assoc (record_of 5 (layout_body (layout_in (body_in xs)))) (layouts_bytes (layouts_in n (rest_in_of xs))) (after_layouts n (rest_in_of xs)) ∙ ap (λ (l : List ℕ). record_of 5 (layout_body (layout_in (body_in xs))) ++ l) R.written ∙ layout_again xs p o.0);
          are_bytes = rw e R.are_bytes;
        }
    go (inr e) ih = record { written = rw e; are_bytes = rw e p }

pub layouts_few : (n : ℕ) (xs : List ℕ) → length (layouts_in n xs) ≤ n
unfolding layouts_in
layouts_few zero xs = omega arith
layouts_few (suc n) xs = go (is_layout xs) (layouts_few n (rest_in_of xs))
  where
    go : (b : Bool) → length (layouts_in n (rest_in_of xs)) ≤ n → length (cond b (layout_in (body_in xs) ∷ layouts_in n (rest_in_of xs)) []) ≤ suc n
    go true h = omega arith
    go false h = omega arith

-- ---- cut off: the refusal of at most n such records, and of c tiles after them
abbrev pub both_fault : ℕ → ℕ → List ℕ → ℕ
both_fault n c xs = or_else (layouts_fault n xs) (tiles_fault c 0 (after_layouts n xs))

module _ (n c : ℕ) (xs : List ℕ) where
  both_none : is_layout xs ≡ false → both_fault (suc n) c xs ≡ tiles_fault c 0 xs
  unfolding layouts_fault after_layouts
  both_none e = rw e

  both_on : is_layout xs ≡ true → record_fault 5 0 xs ≡ 0 → both_fault (suc n) c xs ≡ both_fault n c (rest_in_of xs)
  unfolding layouts_fault after_layouts
  both_on e z = rw (e, z)

  both_cut : is_layout xs ≡ true → record_fault 5 0 xs ≡ 9 → both_fault (suc n) c xs ≡ 9
  unfolding layouts_fault
  both_cut e z = rw (e, z)

both_zero : (c : ℕ) (xs : List ℕ) → both_fault 0 c xs ≡ tiles_fault c 0 xs
unfolding layouts_fault after_layouts
both_zero c xs = refl

tiles_short : (c : ℕ) (xs : List ℕ) → ((due t : ℕ) → record_fault due t xs ≡ 9) → tiles_fault c 0 xs ≡ 9
unfolding tiles_fault end_fault
tiles_short zero xs s = rw (s 4 0)
tiles_short (suc c) xs s = rw (s 3 0)

module _ (c : ℕ) (zs : List ℕ) (kinds : (j : ℕ) → is_layout (take j zs) ≡ false) (tiles : (j : ℕ) → j < length zs → tiles_fault c 0 (take j zs) ≡ 9) where
  pub layouts_cut : (n k : ℕ) (l : List Layout) → length l ≤ n → k < length (layouts_bytes l ++ zs) → both_fault n c (take k (layouts_bytes l ++ zs)) ≡ 9
  unfolding layouts_bytes
  layouts_cut zero k [] q b = both_zero c (take k zs) ∙ tiles k b
  layouts_cut zero k (x ∷ l) q b = absurd (omega arith)
  layouts_cut (suc n) k [] q b = both_none n c (take k zs) (kinds k) ∙ tiles k b
  layouts_cut (suc n) k (x ∷ l) q b = ap (λ (xs : List ℕ). both_fault (suc n) c (take k xs)) a ∙ go (dec_le 20 k) (layouts_cut n (k - 20) l (omega arith))
    where
      ws : List ℕ
      ws = layouts_bytes l ++ zs

      a : (record_of 5 (layout_body x) ++ layouts_bytes l) ++ zs ≡ record_of 5 (layout_body x) ++ ws
      a = append_assoc (record_of 5 (layout_body x)) (layouts_bytes l) zs

      len : length (record_of 5 (layout_body x) ++ ws) ≡ 20 + length ws
      len = rw (length-append, record_length 5 (layout_body x), layout_size x) (omega arith)

      early : k < 20 → (due t : ℕ) → record_fault due t (take k (record_of 5 (layout_body x) ++ ws)) ≡ 9
      early p due t = cut_short due 5 t k (layout_body x) ws (layout_short x ws) (omega (arith, layout_size x))

      short : k < 20 → (is_layout (take k (record_of 5 (layout_body x) ++ ws)) ≡ true) ⊎ (is_layout (take k (record_of 5 (layout_body x) ++ ws)) ≡ false) → both_fault (suc n) c (take k (record_of 5 (layout_body x) ++ ws)) ≡ 9
      short p (inl e) = both_cut n c (take k (record_of 5 (layout_body x) ++ ws)) e (early p 5 0)
      short p (inr e) = both_none n c (take k (record_of 5 (layout_body x) ++ ws)) e ∙ tiles_short c (take k (record_of 5 (layout_body x) ++ ws)) (early p)

      go : Dec (20 ≤ k) → (k - 20 < length ws → both_fault n c (take (k - 20) ws) ≡ 9) → both_fault (suc n) c (take k (record_of 5 (layout_body x) ++ ws)) ≡ 9
      go (yes p) ih =
          let vs : List ℕ = take (k - 20) ws in
          let e : k - (4 + length (layout_body x)) ≡ k - 20 = omega (arith, layout_size x) in
          let cutted : take k (record_of 5 (layout_body x) ++ ws) ≡ record_of 5 (layout_body x) ++ vs = cut_after 5 k (layout_body x) ws (omega (arith, layout_size x)) ∙ ap (λ (j : ℕ). record_of 5 (layout_body x) ++ take j ws) e in
          ap (λ (xs : List ℕ). both_fault (suc n) c xs) cutted ∙ both_on n c (record_of 5 (layout_body x) ++ vs) (layout_is x vs) (layout_right x vs)
          ∙ ap (λ (xs : List ℕ). both_fault n c xs) (layout_rest x vs) ∙ ih (omega (arith, len, ap (λ (z : List ℕ). length z) a))
      go (no p) ih = short (omega arith) (by_test (is_layout (take k (record_of 5 (layout_body x) ++ ws))))
