-- What is kept of a line, and bytes moved to the front.
use mathlib.Core.Path.{◌≡◌, refl, sym, ap, ◌∙◌}
use mathlib.Core.Bool.{Bool, true, false, cond}
use mathlib.Core.List.{List, [], ◌∷◌, ◌++◌}
use Prim.Native.Nat.{ℕ, zero, suc, ◌+◌, ◌-◌, ◌≤◌, ◌<◌}
use native.Mathlib.Omega.{arith}
use lib.Dec.{leb}
use lib.ListN.{length, take, drop, length-take, length-drop}
use lib.Seq.{take_all, take-take, drop-drop}
use Rattle.std.specs.List.{copy_within}
use Rattle.std.proofs.lemmas.List.{take-append-le}
use Rattle.console_words.specs.Text.{after_blanks, word, nth_word}
use Rattle.console_parse.specs.Line.{remark}
use Rattle.console_lines.specs.Kept.{Kept}

-- blanks at the front of a text may go
pub without_blanks : (s more : List ℕ) (from p : ℕ) → from ≤ p → drop p s ≡ after_blanks s → after_blanks (drop from s ++ more) ≡ after_blanks (s ++ more)
unfolding after_blanks
without_blanks s more zero p h e = refl
without_blanks [] more (suc f) p h e = refl
without_blanks (b ∷ s) more (suc f) zero h e = absurd (omega arith)
without_blanks (b ∷ s) more (suc f) (suc q) h e = go (leb b 32) (λ d. without_blanks s more f q (omega arith) d) e
  where
    go : (t : Bool) → (drop q s ≡ after_blanks s → after_blanks (drop f s ++ more) ≡ after_blanks (s ++ more)) → drop q s ≡ cond t (after_blanks s) (b ∷ s) → after_blanks (drop f s ++ more) ≡ cond t (after_blanks (s ++ more)) (b ∷ (s ++ more))
    go true next e = next e
    go false next e =
        let k : length (drop q s) ≡ suc (length s) = ap length e in
        absurd (omega (arith, length-drop q s))

-- what follows the blanks begins with no blank
first_byte : (s : List ℕ) (b : ℕ) (t : List ℕ) → after_blanks s ≡ b ∷ t → leb b 32 ≡ false
unfolding after_blanks
first_byte [] b t e = absurd (let k : 0 ≡ suc (length t) = ap length e in omega arith)
first_byte (x ∷ s) b t e = go (leb x 32) refl (λ d. first_byte s b t d) e
  where
    go : (w : Bool) → leb x 32 ≡ w → (after_blanks s ≡ b ∷ t → leb b 32 ≡ false) → cond w (after_blanks s) (x ∷ s) ≡ b ∷ t → leb b 32 ≡ false
    go true q next e = next e
    go false q next e =
        let p : x ≡ b = cc in
        rw p at q

-- its first byte tells whether a text that begins with a word is a remark
first_tells : (t : List ℕ) (more : List ℕ) (s : List ℕ) → t ≡ after_blanks s → 0 < length t → remark (word (after_blanks (take 401 t ++ more))) ≡ remark (word (after_blanks (t ++ more)))
unfolding after_blanks word remark
first_tells [] more s e h = absurd (omega arith)
first_tells (b ∷ t) more s e h =
    let q : leb b 32 ≡ false = first_byte s b t (sym e) in
    simp q

module _ (s : List ℕ) where
  pub kept_whole : length s ≤ 401 → Kept s (take (length s - 0) (drop 0 s))
  kept_whole h =
      let e : take (length s - 0) (drop 0 s) ≡ s = take_all (length s - 0) s (omega arith) in
      record { whole = λ _. e; cut = λ k. absurd (omega arith); remarks = λ more. rw e }

  -- p is the place of the first word
  module _ (p : ℕ) (blanks : drop p s ≡ after_blanks (drop 0 s)) where
    pub kept_word : p + 401 ≤ length s → 401 < length s → Kept s (take (p + 401 - p) (drop p s))
    unfolding nth_word
    kept_word h long =
        let n : p + 401 - p ≡ 401 = omega arith in
        let k : 0 < length (drop p s) = omega (arith, length-drop p s) in
        let l : length (take 401 (drop p s)) ≡ 401 = simp (length-take, length-drop) (omega arith) in
        rw n (record {
          whole = λ q. absurd (omega arith);
          cut = λ _. l;
          remarks = λ more. first_tells (drop p s) more s blanks k ∙ ap (λ (x : List ℕ). remark (word x)) (without_blanks s more p p (omega arith) blanks);
        })

    pub kept_last : (last : ℕ) → last ≤ p → last ≡ length s - 401 → 401 < length s → Kept s (take (length s - last) (drop last s))
    unfolding nth_word
    kept_last last h e long =
        let l : length (drop last s) ≡ 401 = length-drop last s ∙ omega arith in
        let a : take (length s - last) (drop last s) ≡ drop last s = take_all (length s - last) (drop last s) (omega arith) in
        rw a (record {
          whole = λ q. absurd (omega arith);
          cut = λ _. l;
          remarks = λ more. ap (λ (x : List ℕ). remark (word x)) (without_blanks s more last p h blanks);
        })

-- a part of a part
pub part_of_part : (s : List ℕ) (at m from n : ℕ) → from + n ≤ m → take n (drop from (take m (drop at s))) ≡ take n (drop (at + from) s)
part_of_part s at m from n h = front m from n h (drop at s) ∙ ap (take n) (drop-drop from at s)
  where
    front : (m from n : ℕ) → from + n ≤ m → (t : List ℕ) → take n (drop from (take m t)) ≡ take n (drop from t)
    front m zero n h t = take-take n m t (omega arith)
    front zero (suc f) n h t = absurd (omega arith)
    front (suc m) (suc f) n h [] = refl
    front (suc m) (suc f) n h (b ∷ t) = front m f n (omega arith) t

-- n bytes from i on moved to the front
pub front_moved : (s now : List ℕ) (i n : ℕ) → i + n ≤ length s → now ≡ copy_within s i (i + n) 0 → take n now ≡ take n (drop i s)
front_moved s now i n h e =
    let a : i + n - i ≡ n = omega arith in
    let z : 0 + n ≡ n = omega arith in
    let b : length (take n (drop i s)) ≡ n = simp (length-take, length-drop) (omega arith) in
    ap (take n) e ∙ rw (a, z) (take-append-le n (take n (drop i s)) (drop n s) (omega (arith, b)) ∙ take-take n n (drop i s) (omega arith))
