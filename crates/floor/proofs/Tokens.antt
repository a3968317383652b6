-- The token and a side that wants in every round: with every grant of another side the token comes nearer to it in cyclic order.
use mathlib.Core.Path.{◌≡◌, refl, sym, ap, ◌∙◌}
use mathlib.Core.Logic.{◌⊎◌, inl, inr, ◌≢◌}
use mathlib.Core.Bool.{Bool, true, false, cond, ◌&&◌}
use mathlib.Core.List.{List, [], ◌∷◌, Memᴰ}
use Prim.Native.Nat.{ℕ, ◌+◌, ◌-◌, ◌%◌, ◌<◌}
use native.Mathlib.Omega.{arith}
use native.Mathlib.Decide.{ℕ_discrete}
use lib.Dec.{ltb, eqb}
use Rattle.laws.specs.Define.{first_of}
use Rattle.laws.proofs.Tests.{not_both}
use Rattle.floor.specs.declared.Canister.{Canister}
use Rattle.floor.specs.declared.Settings.{Settings}
use Rattle.floor.specs.Sides.{sides, after, following, chosen}
use Rattle.floor.specs.Signal.{Signal, missing, signal_with, signal_by}
use Rattle.floor.proofs.Grid.{at1, at2, at3, at4, each_side, side_pos}

-- steps from side x on to side k
abbrev steps : ℕ → ℕ → ℕ
steps k x = (k + 4 - x) % 4

-- side x is nearer to k than j is
abbrev pub Nearer : ℕ → ℕ → ℕ → Type 0
Nearer k j x = Memᴰ x sides × (steps k x < steps k j)

-- the first that passes is at the latest the one that is known to pass
first_one : (P : ℕ → Type 0) (p : ℕ → Bool) (a : ℕ) (l : List ℕ) → p a ≡ true → P a → P (first_of p (a ∷ l))
unfolding first_of
first_one P p a l h x = rw h x

first_two : (P : ℕ → Type 0) (p : ℕ → Bool) (a b : ℕ) (l : List ℕ) → p b ≡ true → P a → P b → P (first_of p (a ∷ b ∷ l))
unfolding first_of
first_two P p a b l h x y = go (p a)
  where
    go : (c : Bool) → P (cond c a (first_of p (b ∷ l)))
    go true = x
    go false = first_one P p b l h y

first_three : (P : ℕ → Type 0) (p : ℕ → Bool) (a b c : ℕ) (l : List ℕ) → p c ≡ true → P a → P b → P c → P (first_of p (a ∷ b ∷ c ∷ l))
unfolding first_of
first_three P p a b c l h x y z = go (p a)
  where
    go : (q : Bool) → P (cond q a (first_of p (b ∷ c ∷ l)))
    go true = x
    go false = first_two P p b c l h y z

-- the first side that wants, strictly after x, is nearer to k than x is
following_nearer : (p : ℕ → Bool) {k x : ℕ} → Memᴰ k sides → Memᴰ x sides → p k ≡ true → x ≢ k → Nearer k x (following p x)
unfolding following after sides
following_nearer p mk mx h n =
    each_side (λ x. (k : ℕ) → Memᴰ k sides → p k ≡ true → x ≢ k → Nearer k x (following p x))
    (λ k m. each_side (λ k. p k ≡ true → 1 ≢ k → Nearer k 1 (following p 1))
    (λ h n. absurd (n refl))
    (λ h n. first_one (Nearer 2 1) p 2 (3 ∷ 4 ∷ 1 ∷ []) h (at2, omega arith))
    (λ h n. first_two (Nearer 3 1) p 2 3 (4 ∷ 1 ∷ []) h (at2, omega arith) (at3, omega arith))
    (λ h n. first_three (Nearer 4 1) p 2 3 4 (1 ∷ []) h (at2, omega arith) (at3, omega arith) (at4, omega arith)) m)
    (λ k m. each_side (λ k. p k ≡ true → 2 ≢ k → Nearer k 2 (following p 2))
    (λ h n. first_three (Nearer 1 2) p 3 4 1 (2 ∷ []) h (at3, omega arith) (at4, omega arith) (at1, omega arith))
    (λ h n. absurd (n refl))
    (λ h n. first_one (Nearer 3 2) p 3 (4 ∷ 1 ∷ 2 ∷ []) h (at3, omega arith))
    (λ h n. first_two (Nearer 4 2) p 3 4 (1 ∷ 2 ∷ []) h (at3, omega arith) (at4, omega arith)) m)
    (λ k m. each_side (λ k. p k ≡ true → 3 ≢ k → Nearer k 3 (following p 3))
    (λ h n. first_two (Nearer 1 3) p 4 1 (2 ∷ 3 ∷ []) h (at4, omega arith) (at1, omega arith))
    (λ h n. first_three (Nearer 2 3) p 4 1 2 (3 ∷ []) h (at4, omega arith) (at1, omega arith) (at2, omega arith))
    (λ h n. absurd (n refl))
    (λ h n. first_one (Nearer 4 3) p 4 (1 ∷ 2 ∷ 3 ∷ []) h (at4, omega arith)) m)
    (λ k m. each_side (λ k. p k ≡ true → 4 ≢ k → Nearer k 4 (following p 4))
    (λ h n. first_one (Nearer 1 4) p 1 (2 ∷ 3 ∷ 4 ∷ []) h (at1, omega arith))
    (λ h n. first_two (Nearer 2 4) p 1 2 (3 ∷ 4 ∷ []) h (at1, omega arith) (at2, omega arith))
    (λ h n. first_three (Nearer 3 4) p 1 2 3 (4 ∷ []) h (at1, omega arith) (at2, omega arith) (at3, omega arith))
    (λ h n. absurd (n refl)) m)
    mx _ mk h n

-- the chosen side is not farther from k than the token was
chosen_nearer : (p : ℕ → Bool) (k j x : ℕ) → Memᴰ k sides → p k ≡ true → Nearer k j x → Nearer k j (chosen p x)
unfolding chosen
chosen_nearer p k j x mk h N = go (p x) refl
  where
    go : (b : Bool) → p x ≡ b → Nearer k j (chosen p x)
    go true e = rw e N
    go false e =
        let M = following_nearer p mk N.0 h (λ q. not_both (ap p q ∙ h) e) in
        rw e (M.0, omega (arith, M.1, N.1))

-- one running tile's signal, where side k wants
module _ (s : Settings) (running : Bool) (token : ℕ) (l : List Canister) (p : ℕ → Bool) (k j : ℕ) (mk : Memᴰ k sides) (wk : p k ≡ true) (run : running ≡ true) where
  abbrev given : Signal
  given = signal_by s running token l p

  abbrev x : ℕ
  x = chosen p token

  -- where another side j is granted, the token is then nearer to k
  pub first_grant : j ≢ k → Memᴰ j sides → given.grant ≡ j → Nearer k j given.token
  unfolding signal_by signal_with
  first_grant n mj e = go (ltb 0 x && eqb (missing s x l) 0) refl
    where
      go : (b : Bool) → (ltb 0 x && eqb (missing s x l) 0) ≡ b → Nearer k j given.token
      go true q =
          let i : x ≡ j = rw (run, q) at e in
          rw (run, q, i) (following_nearer p mk mj wk n)
      go false q = absurd (omega (arith, rw (run, q) at e, side_pos mj))

  -- from then on k is granted, or j is not and the token stays nearer
  pub next_grant : j ≢ 0 → Nearer k j token → (given.grant ≡ k) ⊎ ((given.grant ≢ j) × Nearer k j given.token)
  unfolding signal_by signal_with
  next_grant n N = go (ltb 0 x && eqb (missing s x l) 0) refl
    where
      near : Nearer k j x
      near = chosen_nearer p k j token mk wk N

      pick : Dec (x ≡ k) → (x ≡ k) ⊎ ((x ≢ j) × Nearer k j (following p x))
      pick (yes e) = inl e
      pick (no e) =
          let M = following_nearer p mk near.0 wk e in
          inr (λ i. absurd (omega (arith, near.1, ap (steps k) i)), (M.0, omega (arith, M.1, near.1)))

      go : (b : Bool) → (ltb 0 x && eqb (missing s x l) 0) ≡ b → (given.grant ≡ k) ⊎ ((given.grant ≢ j) × Nearer k j given.token)
      go true q = rw (run, q) (pick (ℕ_discrete x k))
      go false q = rw (run, q) (inr (λ e. n (sym e), near))
