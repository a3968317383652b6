-- Tests as facts: a Bool and its answer, a test that reads a fact, and the first refusal of a list.
use mathlib.Core.Path.{◌≡◌, refl, sym, ap, ◌∙◌, subst}
use mathlib.Core.Logic.{◌⊎◌, inl, inr, ◌↔◌, ◌≢◌}
use mathlib.Core.Bool.{Bool, true, false, cond, not, ◌&&◌, ◌||◌, true≢false, false≢true}
use mathlib.Core.List.{List, [], ◌∷◌}
use Prim.Native.Nat.{ℕ, zero, suc, ◌≤◌, ◌<◌}
use native.Mathlib.Omega.{arith}
use native.Mathlib.Decide.{ℕ_discrete}
use lib.Dec.{leb, ltb, eqb}
use borrow.Author.Tests.{leb-true, ltb-true, eqb-true, eqb-false, lt-ltb, le-leb, eq-eqb, ne_eqb, not-true}
use Rattle.laws.specs.Define.{all_of, pairs_of, all_below, refusal}
use Rattle.laws.specs.Every.{All, Pairs}

-- ---- a test and its answer
pub by_test : (b : Bool) → (b ≡ true) ⊎ (b ≡ false)
by_test true = inl refl
by_test false = inr refl

pub not_both : {b : Bool} {G : Type 0} → b ≡ true → b ≡ false → G
not_both p q = absurd (true≢false (sym p ∙ q))

-- two tests that pass together are equal
pub same_test : (a b : Bool) → (a ≡ true → b ≡ true) → (b ≡ true → a ≡ true) → a ≡ b
same_test true b f g = sym (f refl)
same_test false true f g = g refl
same_test false false f g = refl

-- ---- both
pub and_left : (a b : Bool) → (a && b) ≡ true → a ≡ true
and_left true b h = refl
and_left false b h = h

pub and_right : (a b : Bool) → (a && b) ≡ true → b ≡ true
and_right true b h = h
and_right false b h = absurd (false≢true h)

pub and_true : {a b : Bool} → a ≡ true → b ≡ true → (a && b) ≡ true
and_true {a} {b} p q = rw p q

pub and_assoc : (a b c : Bool) → ((a && b) && c) ≡ (a && (b && c))
and_assoc true b c = refl
and_assoc false b c = refl

pub and_yes : (a : Bool) → (a && true) ≡ a
and_yes true = refl
and_yes false = refl

pub and_no : (a : Bool) → (a && false) ≡ false
and_no true = refl
and_no false = refl

-- ---- one or the other
pub or_assoc : (a b c : Bool) → ((a || b) || c) ≡ (a || (b || c))
or_assoc true b c = refl
or_assoc false b c = refl

pub or_case : (a b : Bool) → (a || b) ≡ true → (a ≡ true) ⊎ (b ≡ true)
or_case true b h = inl refl
or_case false b h = inr h

pub or_left : (a b : Bool) → a ≡ true → (a || b) ≡ true
or_left a b h = rw h

pub or_right : (a b : Bool) → b ≡ true → (a || b) ≡ true
or_right true b h = refl
or_right false b h = h

pub or_no : (a : Bool) → (a || false) ≡ a
or_no true = refl
or_no false = refl

pub or_off_left : (a b : Bool) → (a || b) ≡ false → a ≡ false
or_off_left true b h = absurd (true≢false h)
or_off_left false b h = refl

pub or_off_right : (a b : Bool) → (a || b) ≡ false → b ≡ false
or_off_right true b h = absurd (true≢false h)
or_off_right false b h = h

-- ---- a choice whose test is known; for a program's returns
pub pick_yes : {A : Type 0} {b : Bool} (x y : A) → b ≡ true → x ≡ cond b x y
pick_yes x y e = rw e

pub pick_no : {A : Type 0} {b : Bool} (x y : A) → b ≡ false → y ≡ cond b x y
pick_no x y e = rw e

-- ---- a test reads a fact: it passes exactly where the fact holds; built up as the test is
pub r_le : (m n : ℕ) → leb m n ≡ true ↔ m ≤ n
r_le m n = (leb-true m n, le-leb m n)

pub r_lt : (m n : ℕ) → ltb m n ≡ true ↔ m < n
r_lt m n = (ltb-true m n, lt-ltb m n)

pub r_eq : (m n : ℕ) → eqb m n ≡ true ↔ m ≡ n
r_eq m n = (eqb-true m n, eq-eqb m n)

pub r_ne : (m n : ℕ) → not (eqb m n) ≡ true ↔ m ≢ n
r_ne m n = (λ h. eqb-false m n (not-true (eqb m n) h), λ h. ap not (ne_eqb m n h))

pub r_id : (b : Bool) → b ≡ true ↔ b ≡ true
r_id b = (λ h. h, λ h. h)

pub r_and : {a b : Bool} {P Q : Type 0} → a ≡ true ↔ P → b ≡ true ↔ Q → (a && b) ≡ true ↔ (P × Q)
r_and {a} {b} p q = (λ h. (p.0 (and_left a b h), q.0 (and_right a b h)), λ k. and_true (p.1 k.0) (q.1 k.1))

pub r_or : {a b : Bool} {P Q : Type 0} → a ≡ true ↔ P → b ≡ true ↔ Q → (a || b) ≡ true ↔ (P ⊎ Q)
r_or {a} {b} {P} {Q} p q = (λ h. into (or_case a b h), out)
  where
    into : (a ≡ true) ⊎ (b ≡ true) → P ⊎ Q
    into (inl h) = inl (p.0 h)
    into (inr h) = inr (q.0 h)

    out : P ⊎ Q → (a || b) ≡ true
    out (inl h) = or_left a b (p.1 h)
    out (inr h) = or_right a b (q.1 h)

pub r_all : {A : Type 0} (p : A → Bool) (P : A → Type 0) → ((x : A) → p x ≡ true ↔ P x) → (l : List A) → all_of p l ≡ true ↔ All P l
unfolding all_of
r_all p P f [] = (λ h. tt, λ h. refl)
r_all p P f (x ∷ l) = r_and (f x) (r_all p P f l)

pub r_pairs : {A : Type 0} (p : A → A → Bool) (P : A → A → Type 0) → ((x y : A) → p x y ≡ true ↔ P x y) → (l : List A) → pairs_of p l ≡ true ↔ Pairs P l
unfolding pairs_of
r_pairs p P f [] = (λ h. tt, λ h. refl)
r_pairs p P f (x ∷ l) = r_and (r_all (p x) (P x) (f x) l) (r_pairs p P f l)

-- every number below n
pub r_below : (p : ℕ → Bool) (P : ℕ → Type 0) → ((t : ℕ) → p t ≡ true ↔ P t) → (n : ℕ) → all_below p n ≡ true ↔ ((t : ℕ) → t < n → P t)
unfolding all_below
r_below p P f zero = (λ h t l. absurd (omega arith), λ h. refl)
r_below p P f (suc n) = (
  λ h t l. here h t l (ℕ_discrete t n) ((r_below p P f n).0 (and_left (all_below p n) (p n) h)),
  λ h. and_true ((r_below p P f n).1 (λ t l. h t (omega arith))) ((f n).1 (h n (omega arith))),
)
  where
    here : (all_below p n && p n) ≡ true → (t : ℕ) → t < suc n → Dec (t ≡ n) → ((t : ℕ) → t < n → P t) → P t
    here h t l (yes e) ih = subst P (sym e) ((f n).0 (and_right (all_below p n) (p n) h))
    here h t l (no e) ih = ih t (omega arith)

-- ---- refusals: none where no test is met, else the number of the first that is
pub refusal_none : (l : List (Bool × ℕ)) → All (λ x. 0 < x.1) l → refusal l ≡ 0 → All (λ x. x.0 ≡ false) l
unfolding refusal
refusal_none [] p h = tt
refusal_none (x ∷ l) p h = go x.0 refl (refusal_none l p.1)
  where
    go : (b : Bool) → x.0 ≡ b → (refusal l ≡ 0 → All (λ x. x.0 ≡ false) l) → (x.0 ≡ false) × All (λ x. x.0 ≡ false) l
    go true e ih = absurd (omega (arith, p.0, rw e at h))
    go false e ih = (e, ih (rw e at h))

pub refusal_all_false : (l : List (Bool × ℕ)) → All (λ x. x.0 ≡ false) l → refusal l ≡ 0
unfolding refusal
refusal_all_false [] h = refl
refusal_all_false (x ∷ l) h = rw h.0 (refusal_all_false l h.1)

pub test_none : (b : Bool) (k : ℕ) (l : List (Bool × ℕ)) → 0 < k → refusal ((b, k) ∷ l) ≡ 0 → (b ≡ false) × (refusal l ≡ 0)
unfolding refusal
test_none true k l p h = absurd (omega arith)
test_none false k l p h = (refl, h)
