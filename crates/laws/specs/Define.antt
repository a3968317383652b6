-- Words over lists and numbers in which the definitions of document 01 are written. Definitions only; the laws about them are crates/laws/proofs/.
use Rattle.std.specs.Prelude.{Bool, true, false, cond, ◌&&◌, ◌||◌, List, [], ◌∷◌, ◌++◌, ℕ, zero, suc, ◌+◌, ◌/◌, ◌%◌, ◌^◌, eqb}

-- g 0, g 1, .., g (n - 1)
unfoldable pub tab : {A : Type 0} → ℕ → (ℕ → A) → List A
tab zero g = []
tab (suc n) g = let x = g 0 in x ∷ tab n (λ k. g (suc k))

-- f (n - 1), .., f 1, f 0, joined into one list: downward, as the recursion goes; it is used where order does not matter (the numbers on a floor, what all hoppers took)
unfoldable pub cat : {A : Type 0} → ℕ → (ℕ → List A) → List A
cat zero f = []
cat (suc n) f = f n ++ cat n f

-- every element passes
unfoldable pub all_of : {A : Type 0} → (A → Bool) → List A → Bool
all_of p [] = true
all_of p (x ∷ l) = p x && all_of p l

-- some element passes
unfoldable pub any_of : {A : Type 0} → (A → Bool) → List A → Bool
any_of p [] = false
any_of p (x ∷ l) = p x || any_of p l

-- every two elements pass, the earlier one first
unfoldable pub pairs_of : {A : Type 0} → (A → A → Bool) → List A → Bool
pairs_of r [] = true
pairs_of r (x ∷ l) = all_of (r x) l && pairs_of r l

-- every number below n passes
unfoldable pub all_below : (ℕ → Bool) → ℕ → Bool
all_below p zero = true
all_below p (suc n) = all_below p n && p n

-- the elements that pass
unfoldable pub filter : {A : Type 0} → (A → Bool) → List A → List A
filter p [] = []
filter p (x ∷ l) = cond (p x) (x ∷ filter p l) (filter p l)

-- the first number that passes, or 0
unfoldable pub first_of : (ℕ → Bool) → List ℕ → ℕ
first_of p [] = 0
first_of p (x ∷ l) = cond (p x) x (first_of p l)

-- the total of the numbers
unfoldable pub sum : List ℕ → ℕ
sum [] = 0
sum (x ∷ l) = x + sum l

-- bit k of the number x
unfoldable pub bit : ℕ → ℕ → Bool
bit x k = eqb (x / 2 ^ k % 2) 1

-- the numbers below n whose bit in x is set, rising
unfoldable pub bits_below : ℕ → ℕ → List ℕ
bits_below x zero = []
bits_below x (suc n) = bits_below x n ++ cond (bit x n) (n ∷ []) []

-- the lists one after another
unfoldable pub join : {A : Type 0} → List (List A) → List A
join [] = []
join (l ∷ ls) = l ++ join ls

-- numbers in their order, each with its test; the first that holds decides, 0 where none does: refusals, and the reasons of [6]
unfoldable pub refusal : List (Bool × ℕ) → ℕ
refusal [] = 0
refusal (x ∷ l) = cond x.0 x.1 (refusal l)
