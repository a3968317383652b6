-- The tests of a chain, as the definitions have them.
use Rattle.std.proofs.Common.{◌≡◌, ◌&&◌, ◌||◌, Bool, List, [], ◌∷◌, ℕ, eqb, refl, sym, ap}
use Rattle.std.specs.List.{list_all, list_any}
use borrow.Author.Tests.{eqb-true, eq-eqb}
use Rattle.laws.specs.Define.{all_of, any_of}
use Rattle.laws.proofs.Tests.{same_test}

pub all_chain : {A : Type 0} (p : A → Bool) (l : List A) → list_all p l ≡ all_of p l
unfolding all_of
all_chain p [] = refl
all_chain p (x ∷ l) = ap (λ (b : Bool). p x && b) (all_chain p l)

pub any_chain : {A : Type 0} (p : A → Bool) (l : List A) → list_any p l ≡ any_of p l
unfolding any_of
any_chain p [] = refl
any_chain p (x ∷ l) = ap (λ (b : Bool). p x || b) (any_chain p l)

swap : (a b : ℕ) → eqb a b ≡ eqb b a
swap a b = same_test (eqb a b) (eqb b a) (λ h. eq-eqb b a (sym (eqb-true a b h))) (λ h. eq-eqb a b (sym (eqb-true b a h)))

pub contains_chain : (n : ℕ) (l : List ℕ) → list_any (λ y. eqb y n) l ≡ any_of (eqb n) l
unfolding any_of
contains_chain n [] = refl
contains_chain n (x ∷ l) = (λ i. swap x n i || contains_chain n l i)
