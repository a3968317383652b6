-- A name's eight bytes tested one by one, and a layout's set against the hoppers.
use mathlib.Core.Path.{◌≡◌, refl, sym, ap, ◌∙◌, subst}
use mathlib.Core.Bool.{Bool, true, false, not, ◌&&◌, ◌||◌}
use mathlib.Core.List.{List, [], ◌∷◌}
use mir.Syntax.{w64}
use Rattle.std.specs.Int.{to_le_bytes}
use Prim.Native.Nat.{ℕ, zero, suc, ◌+◌, ◌*◌, ◌/◌, ◌%◌, ◌^◌, ◌≤◌, ◌<◌}
use native.Mathlib.Omega.{arith}
use native.Mathlib.Decide.{dec_le}
use lib.Dec.{leb, ltb, eqb}
use lib.ListN.{get_or, length, get_or-eq_default}
use borrow.Author.Tests.{lt-ltb}
use Rattle.laws.specs.Define.{all_of, any_of, all_below, bit, bits_below}
use Rattle.laws.specs.Every.{All}
use Rattle.laws.proofs.Lists.{all_imp}
use Rattle.laws.proofs.Tests.{and_yes, and_no, not_both}
use Rattle.laws.proofs.Tables.{below_at, below_of}
use Rattle.laws.proofs.SetBits.{bits_all, bits_within}
use Rattle.floor.specs.declared.Settings.{Settings}
use Rattle.floor.specs.declared.Layout.{Layout}
use Rattle.floor.specs.Settings.{total, hoppers_of, settings_pass}
use Rattle.floor.specs.Layouts.{letters, is_letter, spelled, name_ok, layout_ok}
use Rattle.floor.specs.Memory.{zero_layout}
use Rattle.floor.proofs.Well.{settings_fact}
use Rattle.floor.specs.Well.{place_ok, name_at, place_test}

-- ---- a name, its bytes from the last to the first
byte : (n i : ℕ) → i < 8 → get_or (to_le_bytes w64 n) i 0 ≡ n / 2 ^ (8 * i) % 256
byte n zero h = let e : n / 1 ≡ n = omega arith in rw e
byte n (suc zero) h = refl
byte n (suc (suc zero)) h = refl
byte n (suc (suc (suc zero))) h = refl
byte n (suc (suc (suc (suc zero)))) h = refl
byte n (suc (suc (suc (suc (suc zero))))) h = refl
byte n (suc (suc (suc (suc (suc (suc zero)))))) h = refl
byte n (suc (suc (suc (suc (suc (suc (suc zero))))))) h = refl
byte n (suc (suc (suc (suc (suc (suc (suc (suc i)))))))) h = absurd (omega arith)

and_back : (a b : Bool) → (a && b) ≡ (b && a)
and_back true b = sym (and_yes b)
and_back false b = sym (and_no b)

pub spelled_none : (n : ℕ) → true ≡ spelled (letters 0 n)
unfolding spelled letters
spelled_none n = refl

pub zeros_none : (n : ℕ) → true ≡ all_of (λ y. eqb y 0) (letters 0 n)
unfolding all_of letters
zeros_none n = refl

pub zeros_more : (n i : ℕ) {zeros : Bool} → i < 8 → zeros ≡ all_of (λ y. eqb y 0) (letters i n) → (zeros && eqb (get_or (to_le_bytes w64 n) i 0) 0) ≡ all_of (λ y. eqb y 0) (letters (i + 1) n)
unfolding all_of letters
zeros_more n i {zeros} h e = let q = byte n i h in let k : i + 1 ≡ suc i = omega arith in rw (k, q, e) (and_back (all_of (λ y. eqb y 0) (letters i n)) (eqb (n / 2 ^ (8 * i) % 256) 0))

pub spelled_more : (n i : ℕ) {letter ok zeros : Bool} → i < 8 → letter ≡ (leb 65 (get_or (to_le_bytes w64 n) i 0) && leb (get_or (to_le_bytes w64 n) i 0) 90)
    → ok ≡ spelled (letters i n) → zeros ≡ all_of (λ y. eqb y 0) (letters i n)
    → ((letter && ok) || (eqb (get_or (to_le_bytes w64 n) i 0) 0 && zeros)) ≡ spelled (letters (i + 1) n)
unfolding spelled letters is_letter
spelled_more n i h l e f = let q = byte n i h in let k : i + 1 ≡ suc i = omega arith in rw (k, l, q, e, f)

pub name_code : (n : ℕ) → n < 2 ^ 64 → (b : Bool) → b ≡ spelled (letters 8 n) → (ltb 0 n && b) ≡ name_ok n
unfolding name_ok
name_code n h b e = rw (lt-ltb n (2 ^ 64) h, e)

-- ---- a set
none_fails : (p q : ℕ → Bool) (l : List ℕ) → All (λ t. p t ≡ not (q t)) l → not (any_of p l) ≡ all_of q l
unfolding any_of all_of
none_fails p q [] h = refl
none_fails p q (t ∷ l) h = rw h.0 (go (q t) (none_fails p q l h.1))
  where
    go : (b : Bool) → not (any_of p l) ≡ all_of q l → not (not b || any_of p l) ≡ (b && all_of q l)
    go true ih = ih
    go false ih = refl

pub layout_code : (s : Settings) (x : Layout) (off : ℕ) → settings_pass s ≡ true → ((k : ℕ) → bit off k ≡ (not (bit x.set k) && bit s.hoppers k))
    → (name_ok x.name && (ltb x.set (2 ^ total s) && not (any_of (bit off) (bits_below s.hoppers 64)))) ≡ layout_ok s x
unfolding layout_ok hoppers_of
layout_code s x off p h =
    let M = (settings_fact s).0 p in
    rw (bits_within s.hoppers (total s) 64 M.few M.hoppers_on, none_fails (bit off) (bit x.set) (bits_below s.hoppers (total s)) each)
  where
    each : All (λ t. bit off t ≡ not (bit x.set t)) (bits_below s.hoppers (total s))
    each = all_imp (λ t. (t < total s) × (bit s.hoppers t ≡ true)) (λ t. bit off t ≡ not (bit x.set t)) (bits_below s.hoppers (total s)) (λ t q. h t ∙ rw q.1 (and_yes (not (bit x.set t)))) (bits_all s.hoppers (total s))

-- ---- the places from the last to the first
pub last_name : (l : List Layout) → length l ≡ 8 → 0 ≡ name_at l 8
last_name l e = sym (ap (λ (x : Layout). x.name) (get_or-eq_default l zero_layout (omega arith)))

-- those from k on pass
abbrev pub Passed : (ℕ → Bool) → ℕ → Type 0
Passed p k = (i : ℕ) → k ≤ i → i < 8 → p i ≡ true

pub passed_turn : (p : ℕ → Bool) (k : ℕ) {n : ℕ} → n ≡ suc k → Passed p n → p k ≡ true → Passed p k
passed_turn p k e h q i a b = go (dec_le (suc k) i)
  where
    go : Dec (k < i) → p i ≡ true
    go (yes l) = h i (omega arith) b
    go (no l) = let s : k ≡ i = omega arith in subst (λ j. p j ≡ true) s q

pub passed_all : (p : ℕ → Bool) (k : ℕ) → k ≡ 0 → Passed p k → true ≡ all_below p 8
passed_all p k e h = sym (below_of p 8 (λ t l. h t (omega arith) l))

pub one_fails : (p : ℕ → Bool) (k : ℕ) → k < 8 → p k ≡ false → false ≡ all_below p 8
one_fails p k l e = go (all_below p 8) refl
  where
    go : (b : Bool) → all_below p 8 ≡ b → false ≡ all_below p 8
    go true q = not_both (below_at p 8 q k l) e
    go false q = sym q

-- the test that the code made with the name that it remembers
pub place_tested : (s : Settings) (l : List Layout) (k n above : ℕ) → n ≡ suc k → above ≡ name_at l n → place_ok s (get_or l k zero_layout) above ≡ place_test s l k
place_tested s l k n above e h = ap (place_ok s (get_or l k zero_layout)) (h ∙ ap (name_at l) e)
