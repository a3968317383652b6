-- A part of the line as its word, and one turn of each loop.
use mathlib.Core.Path.{◌≡◌, refl, sym, ap, ◌∙◌}
use mathlib.Core.Logic.{◌≢◌}
use mathlib.Core.Bool.{Bool, true, false, cond, not, ◌||◌}
use mathlib.Core.List.{List, [], ◌∷◌, ◌++◌}
use Prim.Native.Nat.{ℕ, zero, suc, ◌+◌, ◌-◌, ◌^◌, ◌≤◌, ◌<◌}
use native.Mathlib.Nat.{zero-div}
use native.Mathlib.Omega.{arith}
use native.Mathlib.Decide.{ℕ_discrete}
use lib.Dec.{ltb, eqb}
use lib.ListN.{length, take, drop, get_or, set, replicate, length-drop, length-set}
use lib.Seq.{drop-drop, get_or-drop, get_or-set_same, get_or-set_other}
use borrow.Author.Tests.{eq-eqb, ne_eqb, lt-ltb, ltb-true, lt-leb, le-leb, not-true, not-false}
use Rattle.laws.specs.Define.{tab, all_of, any_of, all_below, bit}
use Rattle.laws.proofs.Tests.{same_test, or_no, not_both}
use Rattle.laws.proofs.Tables.{tab_length, tab_at, filled, below_zero, below_more, below_at}
use Rattle.console_words.specs.Text.{nth_word, has_some, number_of}
use Rattle.console_words.proofs.Text.{from_place, from_end}
use Rattle.std.proofs.Common.{Option, None, Some}
use Rattle.console_parse.specs.Line.{ends_by, remark, is_value, value_of, number_at, all_numbers, value_at, numbers_of, only_numbers, parts, is_tile, only_tiles, lists, TilesIn, FillTilesIn, all_word, none_word, SourcesIn, name_in}
use Rattle.console_parse.specs.declared.Sources.{Sources}
use Rattle.console_parse.specs.declared.Sources.TheVariants.{All, Set}

-- ---- a word
pub word_none : (w : List ℕ) → eqb (length w) 0 ≡ not (has_some w)
unfolding has_some
word_none [] = refl
word_none (b ∷ w) = ne_eqb (suc (length w)) 0 (λ q. omega arith)

pub word_ended : (line w : List ℕ) (k : ℕ) → w ≡ nth_word k line → eqb (length w) 0 ≡ ends_by k line
unfolding ends_by
word_ended line w k e = word_none w ∙ ap (λ (x : List ℕ). not (has_some x)) e

pub remark_none : (w v : List ℕ) → w ≡ v → eqb (length w) 0 ≡ true → true ≡ remark v
unfolding remark
remark_none [] v e p = ap remark e
remark_none (b ∷ w) v e p = not_both p (ne_eqb (suc (length w)) 0 (λ q. omega arith))

pub remark_first : (w v : List ℕ) → w ≡ v → eqb (length w) 0 ≡ false → eqb (get_or w 0 0) 35 ≡ remark v
unfolding remark
remark_first [] v e p = not_both refl p
remark_first (b ∷ w) v e p = ap remark e

-- ---- the numbers read so far
module _ (line : List ℕ) (first : ℕ) where
  pub values_zero : replicate 4 0 ≡ tab 4 (value_at line first 0)
  unfolding tab value_at
  values_zero = refl

  pub all_zero : all_numbers line first 0 ≡ true
  unfolding all_numbers
  all_zero = below_zero (λ k. is_value (number_at line (first + k)))

  pub all_turn : (k x : ℕ) → all_numbers line first k ≡ true → Some x ≡ number_at line (first + k) → all_numbers line first (k + 1) ≡ true
  unfolding all_numbers
  all_turn k x g e = rw (below_more (λ k. is_value (number_at line (first + k))) k, g, sym e) refl

  pub not_all : (k count : ℕ) → k < count → None ≡ number_at line (first + k) → None ≡ numbers_of line first count
  unfolding numbers_of all_numbers
  not_all k count h e = go (all_below test count) (λ q. below_at test count q k h)
    where
      test : ℕ → Bool
      test i = is_value (number_at line (first + i))

      go : (b : Bool) → (b ≡ true → test k ≡ true) → None ≡ cond b (Some (tab 4 (value_at line first count))) None
      go true f = not_both (f refl) (ap is_value (sym e))
      go false f = refl

  pub all_read : (count : ℕ) (all : List ℕ) → all_numbers line first count ≡ true → all ≡ tab 4 (value_at line first count) → Some all ≡ numbers_of line first count
  unfolding numbers_of
  all_read count all g e = rw (g, e)

  pub values_turn : (k v : ℕ) (all : List ℕ) → k < 4 → all ≡ tab 4 (value_at line first k) → Some v ≡ number_at line (first + k) → set all k v ≡ tab 4 (value_at line first (k + 1))
  unfolding value_at
  values_turn k v all h g q =
      let len : length all ≡ 4 = ap length g ∙ tab_length 4 (value_at line first k) in
      filled 4 (value_at line first (k + 1)) 0 (set all k v) (length-set all k v ∙ len) (λ i l. go len i l (ℕ_discrete i k))
    where
      value : v ≡ value_of (number_at line (first + k))
      value = ap value_of q

      same : (i : ℕ) → (i ≡ k → ⊥) → ltb i k ≡ ltb i (k + 1)
      same i p = same_test (ltb i k) (ltb i (k + 1)) (λ b. lt-ltb i (k + 1) (omega (arith, ltb-true i k b))) (λ b. lt-ltb i k (omega (arith, p, ltb-true i (k + 1) b)))

      go : length all ≡ 4 → (i : ℕ) → i < 4 → Dec (i ≡ k) → get_or (set all k v) i 0 ≡ value_at line first (k + 1) i
      go len i l (yes p) = rw (p, get_or-set_same all k v 0 (omega arith), lt-ltb k (k + 1) (omega arith)) value
      go len i l (no p) = rw (get_or-set_other all k i v 0 p, g, tab_at 4 (value_at line first k) i 0 l) (ap (λ (b : Bool). cond b (value_of (number_at line (first + i))) 0) (same i p))

pub only_ended : (line : List ℕ) (first count : ℕ) (b : Bool) → b ≡ ends_by (first + count) line → not b ≡ true → None ≡ only_numbers line first count
unfolding only_numbers
only_ended line first count b e p = rw (sym e, not-true b p)

pub only_read : (line : List ℕ) (first count : ℕ) (b : Bool) (r : Option (List ℕ)) → b ≡ ends_by (first + count) line → not b ≡ false → r ≡ numbers_of line first count → r ≡ only_numbers line first count
unfolding only_numbers
only_read line first count b r e p q = rw (sym e, not-false b p) q

-- ---- the parts of a word, one after another
-- what follows the first part
abbrev after : List ℕ → List (List ℕ)
after [] = []
after (b ∷ s) = parts s

split : (s : List ℕ) (n : ℕ) → n ≤ length s → ((k : ℕ) → k < n → get_or s k 0 ≡ 44 → ⊥) → (n < length s → get_or s n 0 ≡ 44) → parts s ≡ take n s ∷ after (drop n s)
unfolding parts
split [] zero le free stop = refl
split [] (suc n) le free stop = absurd (omega arith)
split (b ∷ s) zero le free stop = rw (eq-eqb b 44 (stop (omega arith)))
split (b ∷ s) (suc n) le free stop =
    rw (ne_eqb b 44 (free 0 (omega arith)), split s n (omega arith) (λ k h. free (suc k) (omega arith)) (λ h. stop (omega arith)))

or_swap : (a b c : Bool) → ((a || b) || c) ≡ (b || (a || c))
or_swap true true c = refl
or_swap true false c = refl
or_swap false b c = refl

-- the parts from place `at` on are still to be read; the tiles before it are in the set
abbrev pub Unread : List ℕ → ℕ → ℕ → Type 0
Unread s at set = (only_tiles (parts (drop at s)) ≡ only_tiles (parts s)) × ((t : ℕ) → (bit set t || lists (parts (drop at s)) t) ≡ lists (parts s) t)

pub unread_all : (s : List ℕ) → Unread s 0 0
unfolding bit
unread_all s = (refl, λ t. rw (zero-div (2 ^ t)))

module _ (s : List ℕ) (at to set : ℕ) (found : (at ≤ to) × (to ≤ length s)) (free : (k : ℕ) → at ≤ k → k < to → get_or s k 0 ≡ 44 → ⊥) (stop : to < length s → get_or s to 0 ≡ 44) (unread : Unread s at set) where
  first : parts (drop at s) ≡ take (to - at) (drop at s) ∷ after (drop to s)
  first =
      let q : at + (to - at) ≡ to = omega arith in
      let h : to - at ≤ length (drop at s) = rw length-drop (omega arith) in
      let rest : drop (to - at) (drop at s) ≡ drop to s = drop-drop (to - at) at s ∙ ap (λ (j : ℕ). drop j s) q in
      let here : get_or (drop at s) (to - at) 0 ≡ get_or s to 0 = get_or-drop at s (to - at) 0 ∙ ap (λ (j : ℕ). get_or s j 0) q in
      split (drop at s) (to - at) h (λ k l p. free (at + k) (omega arith) (omega arith) (sym (get_or-drop at s k 0) ∙ p)) (λ l. here ∙ stop (omega (arith, rw length-drop at l)))
      ∙ ap (λ (l : List ℕ). take (to - at) (drop at s) ∷ after l) rest

  -- a part that is no tile
  tiles_bad : is_tile (number_of (take (to - at) (drop at s))) ≡ false → TilesIn s None
  unfolding TilesIn only_tiles all_of
  tiles_bad b = sym unread.0 ∙ rw (first, b)

  pub tiles_unread : (r : Option ℕ) → None ≡ number_of (take (to - at) (drop at s)) → r ≡ None → TilesIn s r
  tiles_unread r v e = rw e (tiles_bad (ap is_tile (sym v)))

  pub tiles_large : (x : ℕ) → Some x ≡ number_of (take (to - at) (drop at s)) → 63 < x → TilesIn s None
  tiles_large x v h = tiles_bad (ap is_tile (sym v) ∙ lt-leb x 63 h)

  -- a part that is the tile x, which is now in the set
  module _ (x next : ℕ) (v : Some x ≡ number_of (take (to - at) (drop at s))) (small : x ≤ 63) (with : (k : ℕ) → bit next k ≡ (eqb k x || bit set k)) where
    only : only_tiles (after (drop to s)) ≡ only_tiles (parts s)
    unfolding only_tiles all_of
    only =
        let step : only_tiles (parts (drop at s)) ≡ only_tiles (after (drop to s)) = rw (first, sym v, le-leb x 63 small) in
        sym step ∙ unread.0

    listed : (t : ℕ) → (bit next t || lists (after (drop to s)) t) ≡ lists (parts s) t
    unfolding lists any_of
    listed t =
        let step : lists (parts (drop at s)) t ≡ (eqb t x || lists (after (drop to s)) t) = rw (first, sym v) in
        rw (with t) (or_swap (eqb t x) (bit set t) (lists (after (drop to s)) t) ∙ sym (ap (λ (b : Bool). bit set t || b) step) ∙ unread.1 t)

    pub tiles_more : to ≢ length s → Unread s (to + 1) next
    tiles_more z =
        let h : to < length s = omega arith in
        (rw (from_place s to h) at only, λ t. rw (from_place s to h) at (listed t))

    pub tiles_end : to ≡ length s → TilesIn s (Some next)
    unfolding TilesIn only_tiles all_of lists any_of
    tiles_end z =
        let h : length s ≤ to = omega arith in
        (sym (rw (from_end s to h) at only), λ t. sym (or_no (bit next t)) ∙ (rw (from_end s to h) at (listed t)))

-- ---- the word of fill tiles
not_two : {G : Type 0} (w : List ℕ) → w ≡ all_word → w ≡ none_word → G
not_two w p q = let e : length all_word ≡ length none_word = ap length (sym p ∙ q) in absurd (omega arith)

pub said_all : {w : List ℕ} → w ≡ all_word → SourcesIn w (Some All)
said_all {w} p = record { all = λ _. refl; none = λ q. not_two w p q; tiles = λ n _. absurd (n p) }

pub said_none : {w : List ℕ} → w ≡ none_word → SourcesIn w (Some (Set 0))
said_none {w} q = record { all = λ p. not_two w p q; none = λ _. refl; tiles = λ _ n. absurd (n q) }

pub said_tiles : {w : List ℕ} {r : Option Sources} → w ≢ all_word → w ≢ none_word → FillTilesIn w r → SourcesIn w r
said_tiles m n t = record { all = λ p. absurd (m p); none = λ q. absurd (n q); tiles = λ _ _. t }

pub said_set : {w : List ℕ} {s : ℕ} → w ≢ all_word → w ≢ none_word → TilesIn w (Some s) → SourcesIn w (Some (Set s))
said_set m n t = said_tiles m n t

pub said_nothing : {w : List ℕ} {r : Option Sources} → w ≢ all_word → w ≢ none_word → TilesIn w None → r ≡ None → SourcesIn w r
said_nothing m n t e = rw e (said_tiles m n t)

-- ---- a name
pub name_long : (w : List ℕ) → 8 < length w → replicate 8 0 ≡ name_in w
unfolding name_in
name_long w h = rw (lt-ltb 8 (length w) h)

-- the word's bytes are copied, the others are zero
pub name_copied : (w u : List ℕ) → length w ≤ 8 → u ≡ w → u ++ drop (length w) (replicate 8 0) ≡ name_in w
unfolding name_in tab
name_copied w u h e = rw e (go w h)
  where
    go : (v : List ℕ) → length v ≤ 8 → v ++ drop (length v) (replicate 8 0) ≡ name_in v
    go [] l = refl
    go (a ∷ []) l = refl
    go (a ∷ b ∷ []) l = refl
    go (a ∷ b ∷ c ∷ []) l = refl
    go (a ∷ b ∷ c ∷ d ∷ []) l = refl
    go (a ∷ b ∷ c ∷ d ∷ e ∷ []) l = refl
    go (a ∷ b ∷ c ∷ d ∷ e ∷ f ∷ []) l = refl
    go (a ∷ b ∷ c ∷ d ∷ e ∷ f ∷ g ∷ []) l = refl
    go (a ∷ b ∷ c ∷ d ∷ e ∷ f ∷ g ∷ k ∷ []) l = refl
    go (a ∷ b ∷ c ∷ d ∷ e ∷ f ∷ g ∷ k ∷ m ∷ v) l = absurd (omega arith)
