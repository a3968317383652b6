-- Searching a list: some element passes, and the first number that does.
use mathlib.Core.Path.{◌≡◌, refl, sym, ap, ◌∙◌}
use mathlib.Core.Logic.{◌⊎◌, inl, inr}
use mathlib.Core.Bool.{Bool, true, false, cond, true≢false, false≢true}
use mathlib.Core.List.{List, [], ◌∷◌, Memᴰ}
use Prim.Native.Nat.{ℕ}
use Rattle.laws.specs.Define.{any_of, first_of}
use Rattle.laws.specs.Every.{All}
use Rattle.laws.proofs.Tests.{or_case, or_left, or_right, or_off_left, or_off_right}

-- ---- some element passes: it is found, and it is enough
pub any_mem : {A : Type 0} (p : A → Bool) {x : A} {l : List A} → Memᴰ x l → p x ≡ true → any_of p l ≡ true
unfolding any_of
any_mem p (Memᴰ.head {x = y} {xs} e) h = or_left (p y) (any_of p xs) (ap p (sym e) ∙ h)
any_mem p (Memᴰ.tail {x = y} {xs} m) h = or_right (p y) (any_of p xs) (any_mem p m h)

pub any_find : {A : Type 0} (p : A → Bool) (l : List A) → any_of p l ≡ true → (x : A) × Memᴰ x l × (p x ≡ true)
unfolding any_of
any_find p [] h = absurd (false≢true h)
any_find {A} p (y ∷ l) h = go (or_case (p y) (any_of p l) h) (any_find p l)
  where
    go : (p y ≡ true) ⊎ (any_of p l ≡ true) → (any_of p l ≡ true → (x : A) × Memᴰ x l × (p x ≡ true)) → (x : A) × Memᴰ x (y ∷ l) × (p x ≡ true)
    go (inl e) ih = (y, Memᴰ.head refl, e)
    go (inr e) ih = let r = ih e in (r.0, Memᴰ.tail r.1, r.2)

-- none passes
pub any_none : {A : Type 0} (p : A → Bool) (l : List A) → any_of p l ≡ false → All (λ x. p x ≡ false) l
unfolding any_of
any_none p [] h = tt
any_none p (x ∷ l) h = (or_off_left (p x) (any_of p l) h, any_none p l (or_off_right (p x) (any_of p l) h))

pub none_any : {A : Type 0} (p : A → Bool) (l : List A) → All (λ x. p x ≡ false) l → any_of p l ≡ false
unfolding any_of
none_any p [] h = refl
none_any p (x ∷ l) h = rw h.0 (none_any p l h.1)

pub any_sub : {A : Type 0} (p q : A → Bool) (l : List A) → ((x : A) → p x ≡ true → q x ≡ true) → any_of p l ≡ true → any_of q l ≡ true
any_sub p q l f h = let r = any_find p l h in any_mem q r.1 (f r.0 r.2)

-- ---- the first that passes, or 0
pub first_mem : (p : ℕ → Bool) (l : List ℕ) → any_of p l ≡ true → Memᴰ (first_of p l) l × (p (first_of p l) ≡ true)
unfolding any_of first_of
first_mem p [] h = absurd (false≢true h)
first_mem p (y ∷ l) h = go (p y) refl (first_mem p l)
  where
    go : (b : Bool) → p y ≡ b → (any_of p l ≡ true → Memᴰ (first_of p l) l × (p (first_of p l) ≡ true)) → Memᴰ (cond (p y) y (first_of p l)) (y ∷ l) × (p (cond (p y) y (first_of p l)) ≡ true)
    go true e ih = rw e (Memᴰ.head refl, e)
    go false e ih = let r = ih (rw e at h) in rw e (Memᴰ.tail r.0, r.1)

pub first_none : (p : ℕ → Bool) (l : List ℕ) → any_of p l ≡ false → first_of p l ≡ 0
unfolding any_of first_of
first_none p [] h = refl
first_none p (y ∷ l) h = go (p y) refl (first_none p l)
  where
    go : (b : Bool) → p y ≡ b → (any_of p l ≡ false → first_of p l ≡ 0) → cond (p y) y (first_of p l) ≡ 0
    go true e ih = absurd (true≢false (rw e at h))
    go false e ih = rw e (ih (rw e at h))
