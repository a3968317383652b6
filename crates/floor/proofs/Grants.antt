-- What one tile's signal tells: its grant goes to a side that wants, across a gap; its token to a side that wants.
use mathlib.Core.Path.{◌≡◌, refl, sym, ap, ◌∙◌}
use mathlib.Core.Logic.{◌⊎◌, inl, inr}
use mathlib.Core.Bool.{Bool, true, false, cond, ◌&&◌}
use mathlib.Core.List.{List, [], Memᴰ}
use Prim.Native.Nat.{ℕ, zero, suc, ◌<◌}
use native.Mathlib.Omega.{arith}
use lib.Dec.{ltb, eqb}
use borrow.Author.Tests.{lt-ltb, eqb-true}
use Rattle.laws.specs.Define.{any_of, first_of}
use Rattle.laws.proofs.Tests.{by_test, not_both, and_right}
use Rattle.laws.proofs.Search.{any_mem, first_mem, first_none}
use Rattle.floor.specs.declared.Canister.{Canister}
use Rattle.floor.specs.declared.Settings.{Settings}
use Rattle.floor.specs.Sides.{sides, after, following, chosen}
use Rattle.floor.specs.Signal.{Signal, missing, signal_with, signal_by}
use Rattle.floor.proofs.Grid.{side_after}

-- ---- the token among the sides that want
module _ (p : ℕ → Bool) where
  following_wants : (k : ℕ) → 0 < following p k → p (following p k) ≡ true
  unfolding following
  following_wants k h = go (by_test (any_of p (after k)))
    where
      go : (any_of p (after k) ≡ true) ⊎ (any_of p (after k) ≡ false) → p (first_of p (after k)) ≡ true
      go (inl e) = (first_mem p (after k) e).1
      go (inr e) = absurd (omega (arith, first_none p (after k) e))

  pub chosen_wants : (k : ℕ) → 0 < chosen p k → p (chosen p k) ≡ true
  unfolding chosen
  chosen_wants k h = go (p k) refl
    where
      go : (b : Bool) → p k ≡ b → p (chosen p k) ≡ true
      go true e = rw e e
      go false e = rw e (following_wants _ (rw e at h))

  -- where some side wants, one is chosen
  pub chosen_some : p 0 ≡ false → (j : ℕ) → Memᴰ j sides → p j ≡ true → (k : ℕ) → 0 < chosen p k
  unfolding chosen following
  chosen_some z j mj h k = go (p k) refl
    where
      pos : (x : ℕ) → p x ≡ true → 0 < x
      pos zero e = not_both e z
      pos (suc x) e = omega arith

      some : (x : ℕ) → 0 < following p x
      some x = pos (first_of p (after x)) (first_mem p (after x) (any_mem p (side_after x mj) h)).1

      go : (b : Bool) → p k ≡ b → 0 < chosen p k
      go true e = rw e (pos k e)
      go false e = rw e (some _)

module _ (s : Settings) (running : Bool) (token : ℕ) (l : List Canister) (p : ℕ → Bool) where
  abbrev given : Signal
  given = signal_by s running token l p

  pub grant_facts : 0 < given.grant → (running ≡ true) × (p given.grant ≡ true) × (missing s given.grant l ≡ 0)
  unfolding signal_by signal_with
  grant_facts h = go running refl (ltb 0 k && eqb (missing s k l) 0) refl
    where
      k : ℕ
      k = chosen p token

      go : (r : Bool) → running ≡ r → (b : Bool) → (ltb 0 k && eqb (missing s k l) 0) ≡ b → (running ≡ true) × (p given.grant ≡ true) × (missing s given.grant l ≡ 0)
      go false e b q = absurd (omega (arith, rw e at h))
      go true e false q = absurd (omega (arith, rw (e, q) at h))
      go true e true q = rw (e, q) (refl, chosen_wants p token (rw (e, q) at h), eqb-true (missing s k l) 0 (and_right (ltb 0 k) (eqb (missing s k l) 0) q))

  pub token_facts : running ≡ true → 0 < given.token → p given.token ≡ true
  unfolding signal_by signal_with
  token_facts r h = go (ltb 0 k && eqb (missing s k l) 0) refl
    where
      k : ℕ
      k = chosen p token

      go : (b : Bool) → (ltb 0 k && eqb (missing s k l) 0) ≡ b → p given.token ≡ true
      go true q = rw (r, q) (following_wants p _ (rw (r, q) at h))
      go false q = rw (r, q) (chosen_wants p token (rw (r, q) at h))

  pub token_stopped : running ≡ false → given.token ≡ token
  unfolding signal_by
  token_stopped r = rw r

  -- an empty running tile that some side wants to enter grants one
  pub grant_some : running ≡ true → l ≡ [] → p 0 ≡ false → (j : ℕ) → Memᴰ j sides → p j ≡ true → 0 < given.grant
  unfolding signal_by signal_with missing
  grant_some r e z j mj h =
      let c = chosen_some p z j mj h token in
      rw (r, e, lt-ltb 0 (chosen p token) c) c

  -- a running tile grants the chosen side, exactly if that side wants and the tile has the gap for it
  pub grant_chosen : running ≡ true → p 0 ≡ false → given.grant ≡ cond (p (chosen p token) && eqb (missing s (chosen p token) l) 0) (chosen p token) 0
  unfolding signal_by signal_with
  grant_chosen r z = go (p k && eqb (missing s k l) 0) refl
    where
      k : ℕ
      k = chosen p token

      wanted : (x : ℕ) → k ≡ x → ltb 0 x ≡ p x
      wanted zero e = sym z
      wanted (suc x) e = lt-ltb 0 (suc x) (omega arith) ∙ sym (ap p (sym e) ∙ chosen_wants p token (omega arith))

      go : (b : Bool) → (p k && eqb (missing s k l) 0) ≡ b → given.grant ≡ cond (p k && eqb (missing s k l) 0) k 0
      go true q = rw (r, wanted k refl, q)
      go false q = rw (r, wanted k refl, q)
