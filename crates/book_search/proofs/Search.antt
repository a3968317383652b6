-- The search: what stands between two numbers that it looks at has no place.
use mathlib.Core.Path.{◌≡◌, refl, sym, ap, ◌∙◌}
use mathlib.Core.Logic.{◌⊎◌, inl, inr}
use mathlib.Core.Bool.{Bool, true, false, cond, not, ◌&&◌}
use mathlib.Core.List.{List, [], ◌∷◌}
use Prim.Native.Nat.{ℕ, suc, ◌+◌, ◌≤◌, ◌<◌}
use native.Mathlib.Omega.{arith}
use native.Mathlib.Decide.{dec_le}
use native.Mathlib.Numerals.{add-one}
use lib.Dec.{ltb}
use lib.ListN.{length, get_or, take}
use lib.Seq.{take-suc}
use borrow.Author.Tests.{le-ltb, lt-ltb, ltb-false, not-true}
use Rattle.std.specs.Prelude.{Option, Some, None}
use Rattle.std.specs.List.{find}
use Rattle.laws.specs.Define.{all_of}
use Rattle.laws.specs.Every.{All}
use Rattle.laws.proofs.Tests.{by_test, not_both}
use Rattle.laws.proofs.Lists.{all_imp, all_append}
use Rattle.laws.proofs.Tables.{all_at}
use Rattle.floor.specs.declared.Canister.{Canister}
use Rattle.floor.specs.declared.Settings.{Settings}
use Rattle.floor.specs.Settings.{spacing, span}
use Rattle.floor.specs.Memory.{zero_canister}
use Rattle.floor.specs.Well.{apart}
use Rattle.floor.specs.Anywhere.{least, clear, lowest_a_of, lowest_b_of, place_a, place_b}
use Rattle.floor.proofs.Sound.{Apart}
use Rattle.floor.proofs.Well.{apart_fact}
use Rattle.floor.proofs.Lowest.{at, least_is, least_one, clear_fact, row_least}

-- ---- the least number is known by what it is
least_found : (p : ℕ → Bool) (n x : ℕ) → x ≤ n → (x < n → p x ≡ true) → ((y : ℕ) → y < x → p y ≡ false) → x ≡ least p n
least_found p n x h passes none = least_one p n x (least p n) (record { from = omega arith; upto = h; passes = passes; first = λ y _ b. none y b }) (least_is p n)

least_none : (p : ℕ → Bool) (n : ℕ) → ((y : ℕ) → y < n → p y ≡ false) → n ≡ least p n
least_none p n none = least_found p n n (omega arith) (λ h. absurd (omega arith)) none

-- what isn't so is false
refute : {q : Bool} → (q ≡ true → ⊥) → q ≡ false
refute {q} f = go (by_test q)
  where
    go : (q ≡ true) ⊎ (q ≡ false) → q ≡ false
    go (inl k) = absurd (f k)
    go (inr k) = k

-- ---- along a row
-- no a below x keeps the spacing at b
abbrev pub Passed : ℕ → List Canister → ℕ → ℕ → Type 0
Passed d l b x = (y : ℕ) → y < x → clear d l y b ≡ false

pub passed_none : (d : ℕ) (l : List Canister) (b : ℕ) → Passed d l b 0
passed_none d l b y h = absurd (omega arith)

-- a canister that is too near to a is too near up to its a + d
near_on : (d a b y : ℕ) (c : Canister) → a ≤ y → y < c.a + d → Apart d (at 0 y b) c → Apart d (at 0 a b) c
near_on d a b y c lo hi (inl (inl h)) = inl (inl (omega arith))
near_on d a b y c lo hi (inl (inr h)) = absurd (omega arith)
near_on d a b y c lo hi (inr h) = inr h

-- what `find` gives
find_at : (p : Canister → Bool) (l : List Canister) (c : Canister) → Some c ≡ find p l → (k : ℕ) × (k < length l) × (c ≡ get_or l k zero_canister) × (p c ≡ true)
find_at p [] c e = absurd (cc)
find_at p (x ∷ l) c e = go (λ h. find_at p l c h) (p x) refl e
  where
    one : Option Canister → Canister
    one None = c
    one (Some y) = y

    go : (Some c ≡ find p l → (k : ℕ) × (k < length l) × (c ≡ get_or l k zero_canister) × (p c ≡ true)) → (b : Bool) → p x ≡ b → Some c ≡ cond b (Some x) (find p l)
        → (k : ℕ) × (k < length (x ∷ l)) × (c ≡ get_or (x ∷ l) k zero_canister) × (p c ≡ true)
    go rest true q h = let s : c ≡ x = ap one h in (0, omega arith, s, ap p s ∙ q)
    go rest false q h = let r = rest h in (suc r.0, omega (arith, r.1), r.2, r.3)

-- the first canister that is too near, or none
abbrev pub first_near_of : ℕ → ℕ → ℕ → List Canister → Option Canister
first_near_of d a b l = find (λ c. not (apart d (at 0 a b) c)) l

pub all_apart : (d a b : ℕ) (l : List Canister) → None ≡ first_near_of d a b l → true ≡ all_of (apart d (at 0 a b)) l
unfolding all_of
all_apart d a b [] e = refl
all_apart d a b (c ∷ l) e = go (λ h. all_apart d a b l h) (apart d (at 0 a b) c) e
  where
    go : (None ≡ first_near_of d a b l → true ≡ all_of (apart d (at 0 a b)) l) → (r : Bool) → None ≡ cond (not r) (Some c) (first_near_of d a b l) → true ≡ (r && all_of (apart d (at 0 a b)) l)
    go rest true h = rest h
    go rest false h = absurd (cc)

module _ (d a b : ℕ) (l : List Canister) (c : Canister) (e : Some c ≡ first_near_of d a b l) where
  is_near : apart d (at 0 a b) c ≡ false
  is_near = not-true _ (find_at _ l c e).3

  pub passed_on : Passed d l b a → Passed d l b (c.a + d)
  unfolding clear
  passed_on p y q = go (dec_le (suc y) a)
    where
      r : (k : ℕ) × (k < length l) × (c ≡ get_or l k zero_canister) × (not (apart d (at 0 a b) c) ≡ true)
      r = find_at _ l c e

      go : Dec (y < a) → clear d l y b ≡ false
      go (yes h) = p y h
      go (no h) = refute (λ t. not_both ((apart_fact d (at 0 a b) c).1 (near_on d a b y c (omega arith) q ((apart_fact d (at 0 y b) c).0 (rw r.2 (all_at (apart d (at 0 y b)) l zero_canister t r.0 r.1))))) is_near)

  -- the search in a row goes on beyond a
  pub beyond : a < c.a + d
  beyond = go (dec_le (c.a + d) a)
    where
      go : Dec (c.a + d ≤ a) → a < c.a + d
      go (yes h) = not_both ((apart_fact d (at 0 a b) c).1 (inl (inr h))) is_near
      go (no h) = omega arith

pub row_found : (d n : ℕ) (l : List Canister) (b a : ℕ) → a ≤ n → Passed d l b a → true ≡ all_of (apart d (at 0 a b)) l → a ≡ lowest_a_of d n l b
unfolding lowest_a_of clear
row_found d n l b a h p e = least_found (λ x. clear d l x b) n a h (λ _. sym e) p

pub row_none : (d n : ℕ) (l : List Canister) (b : ℕ) → Passed d l b n → n ≡ lowest_a_of d n l b
unfolding lowest_a_of
row_none d n l b p = least_none (λ x. clear d l x b) n p

-- ---- from row to row
-- no b below x has a place
abbrev pub Bare : ℕ → ℕ → List Canister → ℕ → Type 0
Bare d n l x = (y : ℕ) → y < x → ltb (lowest_a_of d n l y) n ≡ false

pub bare_none : (d n : ℕ) (l : List Canister) → Bare d n l 0
bare_none d n l y h = absurd (omega arith)

-- every canister that b isn't beyond is d below r at most
abbrev pub Ahead : ℕ → ℕ → ℕ → Canister → Type 0
Ahead d b r c = b < c.b + d → r ≤ c.b + d

-- so what stands apart between b and r does so at b
back : (d x b y r : ℕ) (c : Canister) → b ≤ y → y < r → Ahead d b r c → Apart d (at 0 x y) c → Apart d (at 0 x b) c
back d x b y r c lo hi k (inl h) = inl h
back d x b y r c lo hi k (inr (inl h)) = inr (inl (omega arith))
back d x b y r c lo hi k (inr (inr h)) = go (dec_le (c.b + d) b)
  where
    go : Dec (c.b + d ≤ b) → Apart d (at 0 x b) c
    go (yes q) = inr (inr q)
    go (no q) = let u = k (omega arith) in absurd (omega arith)

all_back : (d x b y r : ℕ) (l : List Canister) → b ≤ y → y < r → All (Ahead d b r) l → All (Apart d (at 0 x y)) l → All (Apart d (at 0 x b)) l
all_back d x b y r [] lo hi k h = tt
all_back d x b y r (c ∷ l) lo hi k h = (back d x b y r c lo hi k.0 h.0, all_back d x b y r l lo hi k.1 h.1)

pub bare_on : (d n : ℕ) (l : List Canister) (b r : ℕ) → n ≤ lowest_a_of d n l b → All (Ahead d b r) l → Bare d n l b → Bare d n l r
bare_on d n l b r none k p y h = go (dec_le (suc y) b)
  where
    go : Dec (y < b) → ltb (lowest_a_of d n l y) n ≡ false
    go (yes q) = p y q
    go (no q) =
        let e = row_none d n l y (λ x u. refute (λ t. not_both ((clear_fact d l x b).1 (all_back d x b y r l (omega arith) h k ((clear_fact d l x y).0 t))) ((row_least d n l b).first x (omega arith) (omega arith)))) in
        le-ltb (lowest_a_of d n l y) n (omega (arith, e))

-- ---- the place found, and none
pub place_b_lem : (s : Settings) (l : List Canister) (b : ℕ) → Bare (spacing s) (suc (span s)) l b → b ≤ span s → lowest_a_of (spacing s) (suc (span s)) l b ≤ span s → b ≡ place_b s l
unfolding place_b lowest_b_of
place_b_lem s l b p h k = least_found (λ y. ltb (lowest_a_of (spacing s) (suc (span s)) l y) (suc (span s))) (suc (span s)) b (omega arith) (λ _. lt-ltb (lowest_a_of (spacing s) (suc (span s)) l b) (suc (span s)) (omega arith)) p

pub place_a_lem : (s : Settings) (l : List Canister) (a b : ℕ) → a ≡ lowest_a_of (spacing s) (suc (span s)) l b → b ≡ place_b s l → a ≡ place_a s l
unfolding place_a
place_a_lem s l a b e q = e ∙ ap (lowest_a_of (spacing s) (suc (span s)) l) q

pub place_none : (s : Settings) (l : List Canister) → Bare (spacing s) (suc (span s)) l (suc (span s)) → place_b s l ≡ suc (span s)
unfolding place_b lowest_b_of
place_none s l p = sym (least_none (λ y. ltb (lowest_a_of (spacing s) (suc (span s)) l y) (suc (span s))) (suc (span s)) p)

-- ---- the turns of the loop over the canisters
ahead_at : (d b r : ℕ) (items : List Canister) (k : ℕ) → k < length items → All (Ahead d b r) (take k items) → Ahead d b r (get_or items k zero_canister) → All (Ahead d b r) (take (k + 1) items)
ahead_at d b r items k h p q = rw (add-one, take-suc items k zero_canister h) (all_append (Ahead d b r) (take k items) (get_or items k zero_canister ∷ []) p (q, tt))

-- the next b is lowered, or stays
pub ahead_lower : (d b r : ℕ) (items : List Canister) (k : ℕ) → k < length items → (get_or items k zero_canister).b + d < r → All (Ahead d b r) (take k items)
    → All (Ahead d b ((get_or items k zero_canister).b + d)) (take (k + 1) items)
ahead_lower d b r items k h q p =
    let x = (get_or items k zero_canister).b + d in
    ahead_at d b x items k h (all_imp (Ahead d b r) (Ahead d b x) (take k items) (λ c f u. let v = f u in omega arith) p) (λ u. omega arith)

pub ahead_stay : (d b r : ℕ) (items : List Canister) (k : ℕ) → k < length items → (ltb b ((get_or items k zero_canister).b + d) && ltb ((get_or items k zero_canister).b + d) r) ≡ false → All (Ahead d b r) (take k items)
    → All (Ahead d b r) (take (k + 1) items)
ahead_stay d b r items k h e p = ahead_at d b r items k h p (λ u. ltb-false ((get_or items k zero_canister).b + d) r (rw (lt-ltb b ((get_or items k zero_canister).b + d) u) at e))
