-- One record: what is read of it after it was written, and what is written of it after it was read. An image is its records one after another.
use mathlib.Core.Path.{◌≡◌, refl, sym, ap, ◌∙◌}
use mathlib.Core.Logic.{◌⊎◌, inl, inr}
use mathlib.Core.Bool.{Bool, true, false, cond, not}
use mathlib.Core.List.{List, [], ◌∷◌, ◌++◌, append_assoc}
use Prim.Native.Nat.{ℕ, zero, suc, ◌+◌, ◌-◌, ◌≤◌, ◌<◌}
use native.Mathlib.Omega.{arith}
use native.Mathlib.Decide.{dec_le}
use lib.Dec.{ltb, eqb}
use borrow.Author.Tests.{not-false, ltb-false, eqb-true, eqb-false, lt-ltb, le-ltb, eq-eqb}
use lib.ListN.{length, take, drop, length-append, length-drop, take-append-drop}
use lib.Seq.{drop_at, drop-drop, length-take-le, take-append-add}
use Rattle.laws.specs.Define.{refusal}
use Rattle.laws.proofs.Tests.{test_none, by_test}
use Rattle.image_bytes.specs.Bytes.{le, bytes, Bytes}
use Rattle.image_bytes.proofs.ByteLaws.{bytes_length, le_bytes, bytes_le, bytes_drop}
use Rattle.floor.specs.Settings.{total}
use Rattle.floor.specs.Model.{Model}
use Rattle.image.specs.Image.{hopper_count, record_of, settings_body, counters_body, layouts_bytes, tiles_bytes, front_bytes, encode, length_in, kind_in, body_in, rest_in_of, settings_in, after_layouts, own_faults, record_fault, or_else, tiles_fault, layouts_fault, front_fault, fault}

-- ---- tests and their numbers
pub or_else_none : (k n : ℕ) → or_else k n ≡ 0 → (k ≡ 0) × (n ≡ 0)
or_else_none k n h = go (eqb k 0) refl h
  where
    go : (b : Bool) → eqb k 0 ≡ b → cond b n k ≡ 0 → (k ≡ 0) × (n ≡ 0)
    go true e h = (eqb-true k 0 e, h)
    go false e h = absurd (eqb-false k 0 e h)

or_else_assoc : (a b c : ℕ) → or_else (or_else a b) c ≡ or_else a (or_else b c)
or_else_assoc a b c = go (by_test (eqb a 0))
  where
    go : (eqb a 0 ≡ true) ⊎ (eqb a 0 ≡ false) → or_else (or_else a b) c ≡ or_else a (or_else b c)
    go (inl e) = rw e
    go (inr e) = rw (e, e)

-- ---- an image record by record
pub encode_records : (m : Model) → encode m ≡ record_of 1 (settings_body m.settings) ++ (record_of 2 (counters_body (hopper_count m.settings) m.counters) ++ (layouts_bytes m.layouts ++ tiles_bytes 0 m.tiles))
unfolding encode front_bytes
encode_records m = simp append_assoc

pub fault_records : (xs : List ℕ) → let s = settings_in (length_in xs) (body_in xs) in let ys = rest_in_of (rest_in_of xs) in
    fault xs ≡ or_else (record_fault 1 0 xs) (or_else (record_fault 2 (hopper_count s) (rest_in_of xs)) (or_else (layouts_fault 8 ys) (tiles_fault (total s) 0 (after_layouts 8 ys))))
unfolding fault front_fault
fault_records xs =
    let s = settings_in (length_in xs) (body_in xs) in
    let a = record_fault 1 0 xs in
    let b = record_fault 2 (hopper_count s) (rest_in_of xs) in
    let c = layouts_fault 8 (rest_in_of (rest_in_of xs)) in
    let t = tiles_fault (total s) 0 (after_layouts 8 (rest_in_of (rest_in_of xs))) in
    or_else_assoc a (or_else b c) t ∙ ap (λ (k : ℕ). or_else a k) (or_else_assoc b c t)

-- a test for equality that is not met
pub equal : (m n : ℕ) → not (eqb m n) ≡ false → m ≡ n
equal m n h = eqb-true m n (not-false (eqb m n) h)

-- ---- read after written
pub record_length : (k : ℕ) (b : List ℕ) → length (record_of k b) ≡ 4 + length b
unfolding record_of
record_length k b = rw (length-append, bytes_length 2 (length b), length-append, bytes_length 2 k) (omega arith)

module _ (k : ℕ) (b ys : List ℕ) (short : length b < 65536) where
  pub length_in_lem : length_in (record_of k b ++ ys) ≡ length b
  unfolding record_of
  length_in_lem = rw (append_assoc (bytes 2 (length b)) (bytes 2 k ++ b) ys) (le_bytes 2 (length b) _ short)

  pub kind_in_lem : k < 65536 → kind_in (record_of k b ++ ys) ≡ k
  unfolding record_of
  kind_in_lem h =
      rw (append_assoc (bytes 2 (length b)) (bytes 2 k ++ b) ys, drop_at (bytes 2 (length b)) ((bytes 2 k ++ b) ++ ys) 2 (bytes_length 2 (length b)), append_assoc (bytes 2 k) b ys)
      (le_bytes 2 k _ h)

  pub body_in_lem : body_in (record_of k b ++ ys) ≡ b ++ ys
  unfolding record_of
  body_in_lem =
      let e : length (bytes 2 (length b) ++ bytes 2 k) ≡ 4 = rw (length-append, bytes_length 2 (length b), bytes_length 2 k) in
      let s : (bytes 2 (length b) ++ (bytes 2 k ++ b)) ++ ys ≡ (bytes 2 (length b) ++ bytes 2 k) ++ (b ++ ys) = simp append_assoc in
      rw s (drop_at (bytes 2 (length b) ++ bytes 2 k) (b ++ ys) 4 e)

  pub rest_in : rest_in_of (record_of k b ++ ys) ≡ ys
  rest_in = rw length_in_lem (drop_at (record_of k b) ys (4 + length b) (record_length k b))

  -- its refusal is one of its own
  pub fault_in : k < 65536 → (t : ℕ) → record_fault k t (record_of k b ++ ys) ≡ refusal (own_faults k t (length b) (b ++ ys))
  unfolding record_fault refusal
  fault_in h t =
      let n : 4 + length b ≤ length (record_of k b ++ ys) = rw (length-append, record_length k b) (omega arith) in
      rw (length_in_lem, kind_in_lem h, body_in_lem, le-ltb (length (record_of k b ++ ys)) (4 + length b) n, eq-eqb k k refl)

-- ---- written after read
-- the body that the record's length cuts out
abbrev pub cut : List ℕ → List ℕ
cut xs = take (length_in xs) (body_in xs)

pub record Whole (k t : ℕ) (xs : List ℕ) : Type 0 where
  pub enough : 4 + length_in xs ≤ length xs
  pub own_none : refusal (own_faults k t (length_in xs) (body_in xs)) ≡ 0
  pub kind : kind_in xs ≡ k

pub whole : (k t : ℕ) (xs : List ℕ) → record_fault k t xs ≡ 0 → Whole k t xs
unfolding record_fault
whole k t xs h =
    let own = own_faults k t (length_in xs) (body_in xs) in
    let p = test_none (ltb (length xs) (4 + length_in xs)) 9 ((not (eqb (kind_in xs) k), 10) ∷ own) (omega arith) h in
    let q = test_none (not (eqb (kind_in xs) k)) 10 own (omega arith) p.1 in
    record { enough = ltb-false (length xs) (4 + length_in xs) p.0; own_none = q.1; kind = equal (kind_in xs) k q.0 }

pub again : (k t : ℕ) (xs : List ℕ) → Bytes xs → Whole k t xs → record_of k (cut xs) ++ rest_in_of xs ≡ xs
unfolding record_of
again k t xs b w =
    let n : 4 + length_in xs ≤ length xs = w.enough in
    let e : kind_in xs ≡ k = w.kind in
    let m : length (cut xs) ≡ length_in xs = length-take-le (length_in xs) (drop 4 xs) (rw length-drop (omega arith)) in
    let b2 : bytes 2 (length_in xs) ≡ take 2 xs = bytes_le 2 xs b (omega arith) in
    let b3 : bytes 2 (kind_in xs) ≡ take 2 (drop 2 xs) = bytes_le 2 (drop 2 xs) (bytes_drop 2 xs b) (rw length-drop (omega arith)) in
    let r : take (length_in xs) (drop 4 xs) ++ drop (4 + length_in xs) xs ≡ drop 4 xs = rw (sym (drop-drop (length_in xs) 4 xs)) (take-append-drop (length_in xs) (drop 4 xs)) in
    let s : take 2 (drop 2 xs) ++ drop 4 xs ≡ drop 2 xs = rw (sym (drop-drop 2 2 xs)) (take-append-drop 2 (drop 2 xs)) in
    rw (m, ← e, b2, b3) (simp append_assoc (rw (r, s) (take-append-drop 2 xs)))

-- ---- a record that is cut off
pub le_take : (n k : ℕ) (xs : List ℕ) → k ≤ n → le k (take n xs) ≡ le k xs
unfolding le
le_take n zero xs h = refl
le_take zero (suc k) xs h = absurd (omega arith)
le_take (suc n) (suc k) [] h = refl
le_take (suc n) (suc k) (x ∷ xs) h = rw (le_take n k xs (omega arith))

pub kind_take : (n : ℕ) (xs : List ℕ) → 4 ≤ n → kind_in (take n xs) ≡ kind_in xs
unfolding le
kind_take zero xs h = absurd (omega arith)
kind_take (suc zero) xs h = absurd (omega arith)
kind_take (suc (suc n)) [] h = refl
kind_take (suc (suc n)) (x ∷ []) h = refl
kind_take (suc (suc n)) (x ∷ y ∷ xs) h = le_take n 2 xs (omega arith)

-- fewer bytes than the record has: 9, whatever kind is due
pub cut_short : (due k t n : ℕ) (b ys : List ℕ) → length b < 65536 → n < 4 + length b → record_fault due t (take n (record_of k b ++ ys)) ≡ 9
unfolding record_fault refusal
cut_short due k t n b ys short h =
    let xs : List ℕ = record_of k b ++ ys in
    let l : 4 + length b ≤ length xs = rw (length-append, record_length k b) (omega arith) in
    let m : length (take n xs) ≡ n = length-take-le n xs (omega arith) in
    rw (lt-ltb (length (take n xs)) (4 + length_in (take n xs)) (go m (dec_le 2 n)))
  where
    go : length (take n (record_of k b ++ ys)) ≡ n → Dec (2 ≤ n) → length (take n (record_of k b ++ ys)) < 4 + length_in (take n (record_of k b ++ ys))
    go m (yes p) =
        let e : length_in (take n (record_of k b ++ ys)) ≡ length b = le_take n 2 (record_of k b ++ ys) p ∙ length_in_lem k b ys short in
        omega arith
    go m (no p) = omega arith

pub cut_off : (k t n : ℕ) (b ys : List ℕ) → length b < 65536 → n < 4 + length b → record_fault k t (take n (record_of k b ++ ys)) ≡ 9
cut_off k t n b ys short h = cut_short k k t n b ys short h

-- as many or more: the record, and what is left of the rest
pub cut_after : (k n : ℕ) (b ys : List ℕ) → 4 + length b ≤ n → take n (record_of k b ++ ys) ≡ record_of k b ++ take (n - (4 + length b)) ys
cut_after k n b ys h =
    let e : n ≡ length (record_of k b) + (n - (4 + length b)) = rw (record_length k b) (omega arith) in
    ap (λ (j : ℕ). take j (record_of k b ++ ys)) e ∙ take-append-add (record_of k b) ys (n - (4 + length b))
