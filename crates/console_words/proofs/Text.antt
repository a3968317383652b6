-- Words and numbers, one step of a loop each.
use mathlib.Core.Path.{◌≡◌, refl, sym, ap, ◌∙◌}
use mathlib.Core.Bool.{Bool, true, false, cond, not, ◌&&◌, and-false}
use mathlib.Core.List.{List, [], ◌∷◌}
use Prim.Native.Nat.{ℕ, suc, ◌+◌, ◌*◌, ◌-◌, ◌≤◌, ◌<◌}
use native.Mathlib.Numerals.{add-one}
use native.Mathlib.Omega.{arith}
use native.Mathlib.Decide.{dec_le}
use lib.Dec.{leb, ltb, eqb}
use Rattle.std.proofs.Common.{take_while}
use lib.ListN.{length, take, drop, get_or, drop_of_length-le, length-drop}
use Rattle.std.proofs.lemmas.List.Folds.{length-prefix_len}
use Rattle.std.proofs.lemmas.List.Sums.{prefix_len-le-length, prefix_len_passes, prefix_len_stops}
use lib.Seq.{drop-cons, drop-drop, get_or-drop, take_all}
use borrow.Author.Tests.{le-leb, lt-leb, lt-ltb, le-ltb, eq-eqb, eqb-true, not-false}
use Rattle.console_words.specs.Text.{after_blanks, after_word, word, nth_word, only_digits, value_after_of, has_some, value_if, number_of}
use Rattle.std.proofs.Common.{Option, None, Some}
use Rattle.std.specs.List.{prefix_len}

-- the text from place i begins with the byte at i
pub from_place : (s : List ℕ) (i : ℕ) → i < length s → drop i s ≡ get_or s i 0 ∷ drop (i + 1) s
from_place s i h = rw (add-one, drop-cons s i 0)

pub from_end : (s : List ℕ) (i : ℕ) → length s ≤ i → drop i s ≡ []
from_end s i h = drop_of_length-le s h

-- ---- blanks and words
pub past_blanks : (s : List ℕ) → drop (prefix_len (λ b. leb b 32) s) s ≡ after_blanks s
unfolding after_blanks
past_blanks [] = refl
past_blanks (b ∷ s) = go (leb b 32) (past_blanks s)
  where
    go : (t : Bool) → drop (prefix_len (λ b. leb b 32) s) s ≡ after_blanks s → drop (cond t (1 + prefix_len (λ b. leb b 32) s) 0) (b ∷ s) ≡ cond t (after_blanks s) (b ∷ s)
    go true e =
        let n : 1 + prefix_len (λ b. leb b 32) s ≡ suc (prefix_len (λ b. leb b 32) s) = omega arith in
        rw n e
    go false e = refl

pub past_word : (s : List ℕ) → (drop (prefix_len (λ b. ltb 32 b) s) s ≡ after_word s) × (take (prefix_len (λ b. ltb 32 b) s) s ≡ word s)
unfolding after_word word
past_word [] = (refl, refl)
past_word (b ∷ s) = go (dec_le b 32) (past_word s)
  where
    go : Dec (b ≤ 32) → (drop (prefix_len (λ b. ltb 32 b) s) s ≡ after_word s) × (take (prefix_len (λ b. ltb 32 b) s) s ≡ word s) → (drop (cond (ltb 32 b) (1 + prefix_len (λ b. ltb 32 b) s) 0) (b ∷ s) ≡ cond (leb b 32) (b ∷ s) (after_word s)) × (take (cond (ltb 32 b) (1 + prefix_len (λ b. ltb 32 b) s) 0) (b ∷ s) ≡ cond (leb b 32) [] (b ∷ word s))
    go (yes h) e = rw (le-leb b 32 h, le-ltb 32 b h) (refl, refl)
    go (no h) e =
        let k : 32 < b = omega arith in
        let n : 1 + prefix_len (λ b. ltb 32 b) s ≡ suc (prefix_len (λ b. ltb 32 b) s) = omega arith in
        rw (lt-leb b 32 k, lt-ltb 32 b k, n) (e.0, ap (λ (w : List ℕ). b ∷ w) e.1)

-- ---- the same of what the code counts
front_length : (p : ℕ → Bool) (s : List ℕ) (k : ℕ) → k ≡ length (take_while p s) → k ≡ prefix_len p s
front_length p s k e = e ∙ length-prefix_len p s

pub blanks_dropped : (s : List ℕ) (k : ℕ) → k ≡ length (take_while (λ b. leb b 32) s) → drop k s ≡ after_blanks s
blanks_dropped s k e = rw (front_length (λ b. leb b 32) s k e) (past_blanks s)

pub text_from_word : (s : List ℕ) (k : ℕ) → k ≡ length (take_while (λ b. leb b 32) s) → take (length s - k) (drop k s) ≡ after_blanks s
text_from_word s k e = take_all (length s - k) (drop k s) (rw length-drop (omega arith)) ∙ blanks_dropped s k e

pub word_split : (s t u : List ℕ) (k : ℕ) → k ≡ length (take_while (λ b. ltb 32 b) s) → t ≡ take k s → u ≡ drop k s → (t ≡ word s) × (u ≡ after_word s)
word_split s t u k e p q =
    let l = front_length (λ b. ltb 32 b) s k e in
    (p ∙ rw l (past_word s).1, q ∙ rw l (past_word s).0)

within : (p : ℕ → Bool) (s : List ℕ) (at k : ℕ) → at ≤ length s → k ≡ length (take_while p (take (length s - at) (drop at s))) → (k ≡ length (take_while p (drop at s))) × (at + k ≤ length s)
within p s at k h e =
    let a : take (length s - at) (drop at s) ≡ drop at s = take_all (length s - at) (drop at s) (rw length-drop (omega arith)) in
    let f : k ≡ length (take_while p (drop at s)) = rw a at e in
    let l : k ≡ prefix_len p (drop at s) = front_length p (drop at s) k f in
    (f, omega (arith, prefix_len-le-length p (drop at s), length-drop at s))

pub blanks_skipped : (s : List ℕ) (at k : ℕ) → at ≤ length s → k ≡ length (take_while (λ b. leb b 32) (take (length s - at) (drop at s))) → (at ≤ at + k) × (at + k ≤ length s) × (drop (at + k) s ≡ after_blanks (drop at s))
blanks_skipped s at k h e =
    let w = within (λ b. leb b 32) s at k h e in
    (omega arith, w.1, sym (drop-drop k at s) ∙ blanks_dropped (drop at s) k w.0)

pub found : (s : List ℕ) (at b n : ℕ) → at ≤ length s → n ≡ length (take_while (λ x. not (eqb x b)) (take (length s - at) (drop at s))) → (at + n ≤ length s) × ((k : ℕ) → at ≤ k → k < at + n → get_or s k 0 ≡ b → ⊥) × (at + n < length s → get_or s (at + n) 0 ≡ b)
found s at b n h e =
    let w = within (λ x. not (eqb x b)) s at n h e in
    let l = front_length (λ x. not (eqb x b)) (drop at s) n w.0 in
    (w.1, none l, some l)
  where
    bare : (t : Bool) → not t ≡ true → t ≡ true → ⊥
    bare t p q = grind arith

    none : n ≡ prefix_len (λ x. not (eqb x b)) (drop at s) → (k : ℕ) → at ≤ k → k < at + n → get_or s k 0 ≡ b → ⊥
    none l k lo hi q =
        let j : at + (k - at) ≡ k = omega arith in
        let g : get_or (drop at s) (k - at) 0 ≡ b = get_or-drop at s (k - at) 0 ∙ ap (λ (i : ℕ). get_or s i 0) j ∙ q in
        bare (eqb (get_or (drop at s) (k - at) 0) b) (prefix_len_passes (λ x. not (eqb x b)) (drop at s) (k - at) 0 (omega arith)) (eq-eqb (get_or (drop at s) (k - at) 0) b g)

    some : n ≡ prefix_len (λ x. not (eqb x b)) (drop at s) → at + n < length s → get_or s (at + n) 0 ≡ b
    some l k =
        let m : prefix_len (λ x. not (eqb x b)) (drop at s) < length (drop at s) = omega (arith, length-drop at s) in
        let f : not (eqb (get_or (drop at s) (prefix_len (λ x. not (eqb x b)) (drop at s)) 0) b) ≡ false = prefix_len_stops (λ x. not (eqb x b)) (drop at s) 0 m in
        let v : get_or (drop at s) n 0 ≡ b = rw l (eqb-true _ _ (not-false (eqb (get_or (drop at s) (prefix_len (λ x. not (eqb x b)) (drop at s)) 0) b) f)) in
        sym (get_or-drop at s n 0) ∙ v

-- ---- the words one after another
module _ (s : List ℕ) (k i : ℕ) where
  pub next_word : (rest t u : List ℕ) → i < k → nth_word (k - i) rest ≡ nth_word k s → t ≡ after_blanks rest → u ≡ after_word t → nth_word (k - (i + 1)) u ≡ nth_word k s
  unfolding nth_word
  next_word rest t u h e p q =
      let n : k - i ≡ suc (k - (i + 1)) = omega arith in
      rw (q, p) (ap (λ (x : ℕ). nth_word x rest) (sym n) ∙ e)

  pub last_word : (rest t w : List ℕ) → k ≤ i → nth_word (k - i) rest ≡ nth_word k s → t ≡ after_blanks rest → w ≡ word t → w ≡ nth_word k s
  unfolding nth_word
  last_word rest t w h e p q =
      let n : k - i ≡ 0 = omega arith in
      rw (q, p) (ap (λ (x : ℕ). nth_word x rest) (sym n) ∙ e)

-- ---- numbers
-- the number that the digits write after those of n, if they are digits and it stays within 32 bits
unfoldable pub number_after : ℕ → List ℕ → Option ℕ
number_after n s = value_if (only_digits s && leb (value_after_of n s) 4294967295) (value_after_of n s)

pub number_none : (s : List ℕ) → length s ≡ 0 → None ≡ number_of s
unfolding number_of has_some value_if
number_none [] h = refl
number_none (b ∷ s) h = absurd (omega arith)

pub number_start : (s : List ℕ) → 0 < length s → number_of s ≡ number_after 0 s
unfolding number_of has_some number_after
number_start [] h = absurd (omega arith)
number_start (b ∷ s) h = refl

value_grows : (n : ℕ) (s : List ℕ) → n ≤ value_after_of n s
unfolding value_after_of
value_grows n [] = omega arith
value_grows n (b ∷ s) = omega (arith, value_grows (10 * n + (b - 48)) s)

over_is : (n : ℕ) (s : List ℕ) → 4294967295 < n → number_after n s ≡ None
unfolding number_after value_if
over_is n s h =
    let k : 4294967295 < value_after_of n s = omega (arith, value_grows n s) in
    rw (lt-leb (value_after_of n s) 4294967295 k, and-false (only_digits s))

-- n is the number of the digits before i, b the byte at i
module _ (s : List ℕ) (i n b : ℕ) (value : number_of s ≡ number_after n (drop i s)) (h : i < length s) (e : b ≡ get_or s i 0) where
  starts : drop i s ≡ b ∷ drop (i + 1) s
  starts = rw e (from_place s i h)

  pub number_turn : 48 ≤ b → b ≤ 57 → number_of s ≡ number_after (10 * n + (b - 48)) (drop (i + 1) s)
  unfolding number_after only_digits value_after_of
  number_turn lo hi =
      let one : number_after n (drop i s) ≡ number_after (10 * n + (b - 48)) (drop (i + 1) s) = rw (starts, le-leb 48 b lo, le-leb b 57 hi) in
      value ∙ one

  pub number_low : b < 48 → None ≡ number_of s
  unfolding number_after only_digits value_if
  number_low lo =
      let one : number_after n (drop i s) ≡ None = rw (starts, lt-leb 48 b lo) in
      sym (value ∙ one)

  pub number_high : 57 < b → None ≡ number_of s
  unfolding number_after only_digits value_if
  number_high hi =
      let one : number_after n (drop i s) ≡ None = rw (starts, lt-leb b 57 hi, and-false (leb 48 b)) in
      sym (value ∙ one)

  pub number_over : (m d : ℕ) → m ≡ 4294967295 → d ≡ b - 48 → 48 ≤ b → b ≤ 57 → m < 10 * n + d → None ≡ number_of s
  number_over m d p q lo hi k = sym (number_turn lo hi ∙ over_is (10 * n + (b - 48)) (drop (i + 1) s) (omega arith))

pub number_whole : (s : List ℕ) (i n : ℕ) → number_of s ≡ number_after n (drop i s) → length s ≤ i → n ≤ 4294967295 → Some n ≡ number_of s
unfolding number_after only_digits value_after_of value_if
number_whole s i n value h le =
    let one : number_after n (drop i s) ≡ Some n = rw (from_end s i h, le-leb n 4294967295 le) in
    sym (value ∙ one)
