-- Places within a tile. `room s k c`: how far c can go towards side k before it meets the border.
use mathlib.Core.Path.{◌≡◌, refl}
use mathlib.Core.Logic.{◌⊎◌, inl, inr, ◌≢◌}
use mathlib.Core.Bool.{true, false}
use mathlib.Core.List.{Memᴰ}
use Prim.Native.Nat.{ℕ, zero, suc, ◌-◌, ◌≤◌, ◌<◌}
use native.Mathlib.Omega.{arith}
use borrow.Author.Tests.{ltb-true, ltb-false}
use Rattle.floor.specs.declared.Canister.{Canister}
use Rattle.floor.specs.declared.Settings.{Settings}
use Rattle.floor.specs.Sides.{by_side, sides, opposite}
use Rattle.floor.specs.Settings.{spacing, span}
use Rattle.floor.specs.Signal.{lack}
use Rattle.floor.specs.Move.{crosses, shift, land}
use Rattle.floor.proofs.Sound.{Measured, Inside, Differ, Apart}
use Rattle.floor.proofs.Grid.{each_side}

unfoldable pub room : Settings → ℕ → Canister → ℕ
room s k c = by_side 0 c.a c.b (span s - c.b) (span s - c.a) k

-- the coordinate that a move along side k keeps
unfoldable pub across : Settings → ℕ → Canister → ℕ
across s k c = by_side 0 c.b c.a c.a c.b k

-- ---- whatever the side
pub room_le : (s : Settings) (k : ℕ) (c : Canister) → Inside s c → room s k c ≤ span s
unfolding room
room_le s zero c i = omega arith
room_le s (suc zero) c i = omega arith
room_le s (suc (suc zero)) c i = omega arith
room_le s (suc (suc (suc zero))) c i = omega arith
room_le s (suc (suc (suc (suc zero)))) c i = omega arith
room_le s (suc (suc (suc (suc (suc k))))) c i = omega arith

pub shift_number : (s : Settings) (k : ℕ) (c : Canister) → (shift s k c).number ≡ c.number
unfolding shift
shift_number s zero c = refl
shift_number s (suc zero) c = refl
shift_number s (suc (suc zero)) c = refl
shift_number s (suc (suc (suc zero))) c = refl
shift_number s (suc (suc (suc (suc zero)))) c = refl
shift_number s (suc (suc (suc (suc (suc k))))) c = refl

pub land_number : (s : Settings) (k : ℕ) (c : Canister) → (land s k c).number ≡ c.number
unfolding land
land_number s zero c = refl
land_number s (suc zero) c = refl
land_number s (suc (suc zero)) c = refl
land_number s (suc (suc (suc zero))) c = refl
land_number s (suc (suc (suc (suc zero)))) c = refl
land_number s (suc (suc (suc (suc (suc k))))) c = refl

-- along the side none nothing moves
pub shift_none : (s : Settings) (c : Canister) → shift s 0 c ≡ c
unfolding shift
shift_none s c = refl

pub cross_none : (s : Settings) (c : Canister) → crosses s 0 c ≡ false
unfolding crosses
cross_none s c = refl

module _ (s : Settings) (g : Measured s) where
  -- ---- the gap, crossing, shift and landing, by the room
  pub lack_room : {k : ℕ} → Memᴰ k sides → (c : Canister) → lack s k c ≡ 0 → spacing s ≤ room s k c
  unfolding lack room
  lack_room m = each_side (λ k. (c : Canister) → lack s k c ≡ 0 → spacing s ≤ room s k c)
      (λ c h. omega arith) (λ c h. omega arith) (λ c h. omega arith) (λ c h. omega arith) m

  pub cross_room : {k : ℕ} → Memᴰ k sides → (c : Canister) → crosses s k c ≡ true → room s k c < s.travel
  unfolding crosses room
  cross_room m = each_side (λ k. (c : Canister) → crosses s k c ≡ true → room s k c < s.travel)
      (λ c h. omega (arith, ltb-true)) (λ c h. omega (arith, ltb-true)) (λ c h. omega (arith, ltb-true, g.moving)) (λ c h. omega (arith, ltb-true, g.moving)) m

  pub stay_room : {k : ℕ} → Memᴰ k sides → (c : Canister) → Inside s c → crosses s k c ≡ false → s.travel ≤ room s k c
  unfolding crosses room
  stay_room m = each_side (λ k. (c : Canister) → Inside s c → crosses s k c ≡ false → s.travel ≤ room s k c)
      (λ c i h. omega (arith, ltb-false)) (λ c i h. omega (arith, ltb-false)) (λ c i h. omega (arith, ltb-false)) (λ c i h. omega (arith, ltb-false)) m

  pub shift_room : {k : ℕ} → Memᴰ k sides → (c : Canister) → room s k (shift s k c) ≡ room s k c - s.travel
  unfolding shift room
  shift_room m = each_side (λ k. (c : Canister) → room s k (shift s k c) ≡ room s k c - s.travel)
      (λ c. refl) (λ c. refl) (λ c. omega arith) (λ c. omega arith) m

  pub across_le : {k : ℕ} → Memᴰ k sides → (c : Canister) → Inside s c → across s k c ≤ span s
  unfolding across
  across_le m = each_side (λ k. (c : Canister) → Inside s c → across s k c ≤ span s) (λ c i. i.in_b) (λ c i. i.in_a) (λ c i. i.in_a) (λ c i. i.in_b) m

  pub shift_across : {k : ℕ} → Memᴰ k sides → (c : Canister) → across s k (shift s k c) ≡ across s k c
  unfolding shift across
  shift_across m = each_side (λ k. (c : Canister) → across s k (shift s k c) ≡ across s k c) (λ c. refl) (λ c. refl) (λ c. refl) (λ c. refl) m

  pub shift_inside : {k : ℕ} → Memᴰ k sides → (c : Canister) → Inside s c → s.travel ≤ room s k c → Inside s (shift s k c)
  unfolding shift room
  shift_inside m = each_side (λ k. (c : Canister) → Inside s c → s.travel ≤ room s k c → Inside s (shift s k c))
      (λ c i h. omega arith) (λ c i h. omega arith) (λ c i h. omega arith) (λ c i h. omega arith) m

  -- who does not move towards q loses no room there
  pub shift_other : {k q : ℕ} → Memᴰ k sides → Memᴰ q sides → k ≢ q → (c : Canister) → Inside s c → s.travel ≤ room s k c → room s q c ≤ room s q (shift s k c)
  unfolding shift room
  shift_other {k} {q} mk mq n =
      each_side (λ k. k ≢ q → (c : Canister) → Inside s c → s.travel ≤ room s k c → room s q c ≤ room s q (shift s k c))
      (each_side (λ q. 1 ≢ q → (c : Canister) → Inside s c → s.travel ≤ room s 1 c → room s q c ≤ room s q (shift s 1 c))
      (λ n. absurd (n refl)) (λ n c i h. omega arith) (λ n c i h. omega arith) (λ n c i h. omega arith) mq)
      (each_side (λ q. 2 ≢ q → (c : Canister) → Inside s c → s.travel ≤ room s 2 c → room s q c ≤ room s q (shift s 2 c))
      (λ n c i h. omega arith) (λ n. absurd (n refl)) (λ n c i h. omega arith) (λ n c i h. omega arith) mq)
      (each_side (λ q. 3 ≢ q → (c : Canister) → Inside s c → s.travel ≤ room s 3 c → room s q c ≤ room s q (shift s 3 c))
      (λ n c i h. omega arith) (λ n c i h. omega arith) (λ n. absurd (n refl)) (λ n c i h. omega arith) mq)
      (each_side (λ q. 4 ≢ q → (c : Canister) → Inside s c → s.travel ≤ room s 4 c → room s q c ≤ room s q (shift s 4 c))
      (λ n c i h. omega arith) (λ n c i h. omega arith) (λ n c i h. omega arith) (λ n. absurd (n refl)) mq)
      mk n

  pub land_inside : {k : ℕ} → Memᴰ k sides → (c : Canister) → Inside s c → Inside s (land s k c)
  unfolding land
  land_inside m = each_side (λ k. (c : Canister) → Inside s c → Inside s (land s k c))
      (λ c i. omega arith) (λ c i. omega arith) (λ c i. omega arith) (λ c i. omega arith) m

  pub land_room : {k : ℕ} → Memᴰ k sides → (c : Canister) → room s (opposite k) (land s k c) ≡ 0
  unfolding land room opposite
  land_room m = each_side (λ k. (c : Canister) → room s (opposite k) (land s k c) ≡ 0)
      (λ c. omega arith) (λ c. omega arith) (λ c. refl) (λ c. refl) m

  pub land_across : {k : ℕ} → Memᴰ k sides → (c : Canister) → across s k (land s k c) ≡ across s k c
  unfolding land across
  land_across m = each_side (λ k. (c : Canister) → across s k (land s k c) ≡ across s k c) (λ c. refl) (λ c. refl) (λ c. refl) (λ c. refl) m

  -- ---- the spacing, seen along a side and across it
  flip : (x y : ℕ) → x ≤ span s → y ≤ span s → Differ (spacing s) x y → Differ (spacing s) (span s - x) (span s - y)
  flip x y i j (inl h) = inr (omega arith)
  flip x y i j (inr h) = inl (omega arith)

  unflip : (x y : ℕ) → x ≤ span s → y ≤ span s → Differ (spacing s) (span s - x) (span s - y) → Differ (spacing s) x y
  unflip x y i j (inl h) = inr (omega (arith, g.slow))
  unflip x y i j (inr h) = inl (omega (arith, g.slow))

  straight : {A B C D : Type 0} → (A → C) → (B → D) → A ⊎ B → C ⊎ D
  straight f g (inl x) = inl (f x)
  straight f g (inr x) = inr (g x)

  turned : {A B C D : Type 0} → (A → C) → (B → D) → A ⊎ B → D ⊎ C
  turned f g (inl x) = inr (f x)
  turned f g (inr x) = inl (g x)

  abbrev pub Along : ℕ → Canister → Canister → Type 0
  Along k c e = Differ (spacing s) (room s k c) (room s k e) ⊎ Differ (spacing s) (across s k c) (across s k e)

  pub apart_along : {k : ℕ} → Memᴰ k sides → (c e : Canister) → Inside s c → Inside s e → Apart (spacing s) c e → Along k c e
  unfolding room across
  apart_along m = each_side (λ k. (c e : Canister) → Inside s c → Inside s e → Apart (spacing s) c e → Along k c e)
      (λ c e i j. straight (λ x. x) (λ x. x))
      (λ c e i j. turned (λ x. x) (λ x. x))
      (λ c e i j. turned (λ x. x) (flip c.b e.b i.in_b j.in_b))
      (λ c e i j. straight (flip c.a e.a i.in_a j.in_a) (λ x. x))
      m

  pub along_apart : {k : ℕ} → Memᴰ k sides → (c e : Canister) → Inside s c → Inside s e → Along k c e → Apart (spacing s) c e
  unfolding room across
  along_apart m = each_side (λ k. (c e : Canister) → Inside s c → Inside s e → Along k c e → Apart (spacing s) c e)
      (λ c e i j. straight (λ x. x) (λ x. x))
      (λ c e i j. turned (λ x. x) (λ x. x))
      (λ c e i j. turned (unflip c.b e.b i.in_b j.in_b) (λ x. x))
      (λ c e i j. straight (unflip c.a e.a i.in_a j.in_a) (λ x. x))
      m

pub apart_sym : (d : ℕ) (x y : Canister) → Apart d x y → Apart d y x
apart_sym d x y (inl (inl h)) = inl (inr h)
apart_sym d x y (inl (inr h)) = inl (inl h)
apart_sym d x y (inr (inl h)) = inr (inr h)
apart_sym d x y (inr (inr h)) = inr (inl h)
