-- A pass that changes each used entry by itself, and what a report makes of one.
use mathlib.Core.Path.{◌≡◌, refl, sym, ap, ◌∙◌}
use mathlib.Core.Bool.{Bool, true, false, cond, not, ◌&&◌, ◌||◌, true≢false, false≢true}
use mathlib.Core.List.{List, [], ◌∷◌, ◌++◌, map, append-nil}
use Prim.Native.Nat.{ℕ, zero, suc, ◌+◌, ◌≤◌, ◌<◌}
use native.Mathlib.Omega.{arith}
use native.Mathlib.Numerals.{add-one}
use lib.Dec.{eqb}
use lib.ListN.{length, get_or, set, take, drop, drop_of_length-le}
use lib.Seq.{take_all}
use Rattle.laws.specs.Define.{any_of}
use Rattle.plan.specs.declared.Entry.{Entry}
use Rattle.plan.specs.Entries.{booked_number, delivered_as, reported}
use Rattle.plan_check.proofs.Entries.{booked_number_code}

-- the first k elements changed
abbrev pub map_upto : {A : Type 0} → ℕ → (A → A) → List A → List A
map_upto k g l = map g (take k l) ++ drop k l

map_step : {A : Type 0} (k : ℕ) (g : A → A) (l : List A) (z : A) → k < length l → set (map_upto k g l) k (g (get_or (map_upto k g l) k z)) ≡ map_upto (suc k) g l
map_step k g [] z h = absurd (omega arith)
map_step zero g (x ∷ l) z h = refl
map_step {A} (suc k) g (x ∷ l) z h = ap (λ (r : List A). g x ∷ r) (map_step k g l z (omega arith))

pub map_turn : {A : Type 0} (k : ℕ) (g : A → A) (l now : List A) (z v : A) → k < length l → now ≡ map_upto k g l → v ≡ g (get_or now k z) → set now k v ≡ map_upto (k + 1) g l
map_turn k g l now z v h e q = rw (q, e, add-one k) (map_step k g l z h)

pub map_all : {A : Type 0} (k : ℕ) (g : A → A) (l : List A) → length l ≤ k → map_upto k g l ≡ map g l
map_all k g l h = rw (take_all k l h, drop_of_length-le l h) (append-nil (map g l))

-- an entry whose number is listed or not
pub reported_code : (l : List ℕ) (e : Entry) {r : Entry} {b : Bool} → b ≡ any_of (eqb e.number) l → r ≡ cond (any_of (λ n. b) (booked_number e)) (delivered_as e) e → r ≡ reported l e
unfolding reported any_of
reported_code l e {r} {b} q h = h ∙ ap (λ (t : Bool). cond t (delivered_as e) e) (go (not (eqb e.stage 0) && not (eqb e.stage 2)) (booked_number_code e))
  where
    one : (c : Bool) → any_of (λ n. b) (cond c (e.number ∷ []) []) ≡ any_of (λ n. any_of (eqb n) l) (cond c (e.number ∷ []) [])
    one true = ap (λ (t : Bool). t || any_of {A = ℕ} (λ n. b) []) q
    one false = refl

    go : (c : Bool) → cond c (e.number ∷ []) [] ≡ booked_number e → any_of (λ n. b) (booked_number e) ≡ any_of (λ n. any_of (eqb n) l) (booked_number e)
    go c w = rw (sym w) (one c)

-- the two branches: b says whether it is booked
pub listed_yes : (e : Entry) (b listed : Bool) → cond b (e.number ∷ []) [] ≡ booked_number e → (b && listed) ≡ true → delivered_as e ≡ cond (any_of (λ n. listed) (booked_number e)) (delivered_as e) e
unfolding any_of
listed_yes e b listed q h = rw (sym q) (go b listed h)
  where
    go : (b l : Bool) → (b && l) ≡ true → delivered_as e ≡ cond (any_of {A = ℕ} (λ n. l) (cond b (e.number ∷ []) [])) (delivered_as e) e
    go true true h = refl
    go true false h = absurd (false≢true h)
    go false l h = absurd (false≢true h)

pub listed_no : (e : Entry) (b listed : Bool) → cond b (e.number ∷ []) [] ≡ booked_number e → (b && listed) ≡ false → e ≡ cond (any_of (λ n. listed) (booked_number e)) (delivered_as e) e
unfolding any_of
listed_no e b listed q h = rw (sym q) (go b listed h)
  where
    go : (b l : Bool) → (b && l) ≡ false → e ≡ cond (any_of {A = ℕ} (λ n. l) (cond b (e.number ∷ []) [])) (delivered_as e) e
    go true true h = absurd (true≢false h)
    go true false h = refl
    go false l h = refl
