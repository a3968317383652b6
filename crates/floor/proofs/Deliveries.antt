-- What a round delivers to a hopper: rising numbers, never more than four.
use mathlib.Core.Path.{◌≡◌, sym, ap, subst}
use mathlib.Core.Logic.{◌⊎◌, inl, inr, ◌≢◌}
use mathlib.Core.List.{List, [], map, Memᴰ}
use Prim.Native.Nat.{ℕ, ◌/◌, ◌≤◌, ◌<◌}
use native.Mathlib.Omega.{arith}
use lib.ListN.{length, get_or, length-map}
use Rattle.laws.specs.Every.{All, Pairs}
use Rattle.laws.proofs.Lists.{all_get, all_of_lem, all_map, all_both, pairs_map}
use Rattle.floor.specs.declared.Canister.{Canister}
use Rattle.floor.specs.declared.Settings.{Settings}
use Rattle.floor.specs.Sides.{sides}
use Rattle.floor.specs.Settings.{spacing, hoppers_of}
use Rattle.floor.specs.Model.{Model, numbers}
use Rattle.floor.proofs.Sound.{Measured, Inside, Apart, Sound}
use Rattle.floor.proofs.Capacity.{few_cells, spacing_pos, apart_div, within_div}
use Rattle.floor.proofs.Geometry.{room, across, across_le, Along, apart_along}
use Rattle.floor.proofs.Fields.{comes, delivered_to_lem, delivered_are}
use Rattle.floor.proofs.Passing.{Taking, idle_or}
use Rattle.floor.proofs.Safety.{comes_inside, comes_apart, comes_rising, comes_room}

-- ---- along one border of a tile there is place for four
module _ (s : Settings) (g : Measured s) {k : ℕ} (mk : Memᴰ k sides) where
  slot : Canister → ℕ
  slot c = across s k c / spacing s

  slot_differs : (c e : Canister) → Inside s c × (room s k c ≡ 0) → Inside s e × (room s k e ≡ 0) → Apart (spacing s) c e → slot c ≢ slot e
  unfolding slot
  slot_differs c e p q h = go (apart_along s g mk c e p.0 q.0 h)
    where
      go : Along s g k c e → across s k c / spacing s ≢ across s k e / spacing s
      go (inl (inl z)) = absurd (omega (arith, spacing_pos s g))
      go (inl (inr z)) = absurd (omega (arith, spacing_pos s g))
      go (inr (inl z)) = omega (arith, apart_div s g (across s k c) (across s k e) z)
      go (inr (inr z)) = omega (arith, apart_div s g (across s k e) (across s k c) z)

  slot_few : (c : Canister) → Inside s c × (room s k c ≡ 0) → slot c < 4
  unfolding slot
  slot_few c i = omega (arith, within_div s g (across s k c) (across_le s g mk c i.0))

  border_few : (l : List Canister) → All (Inside s) l → All (λ c. room s k c ≡ 0) l → Pairs (Apart (spacing s)) l → length l ≤ 4
  border_few l i z p =
      few_cells (λ c. Inside s c × (room s k c ≡ 0)) (Apart (spacing s)) slot 4 l slot_few slot_differs (all_both (Inside s) (λ c. room s k c ≡ 0) l i z) p

module _ (m : Model) (S : Sound m) where
  comes_few : (t : ℕ) → length (comes m t) ≤ 4
  comes_few t = go (idle_or m S t)
    where
      go : (comes m t ≡ []) ⊎ Taking m S t → length (comes m t) ≤ 4
      go (inl e) = omega (arith, ap length e)
      go (inr K) = border_few m.settings S.measured K.grant.wanting.side (comes m t) (comes_inside m S t) (comes_room m S t K) (comes_apart m S t)

  -- what holds of what comes to any tile holds of what is delivered to any hopper
  each_delivered : (P : List ℕ → Type 0) → P [] → ((t : ℕ) → P (numbers (comes m t))) → (k : ℕ) → P (delivered_to_lem m k)
  each_delivered P none some k =
      subst (λ (l : List (List ℕ)). P (get_or l k [])) (sym (delivered_are m S.len))
      (all_get P (map (λ h. numbers (comes m h)) hs) [] none (all_map P (λ h. numbers (comes m h)) hs (all_of_lem (λ h. P (numbers (comes m h))) hs (λ h _. some h))) k)
    where
      hs : List ℕ
      hs = hoppers_of m.settings

  -- to each hopper
  pub delivered_few : (k : ℕ) → length (delivered_to_lem m k) ≤ 4
  delivered_few = each_delivered (λ l. length l ≤ 4) (omega arith) (λ t. omega (arith, length-map (comes m t) (λ (c : Canister). c.number), comes_few t))

  pub delivered_rising : (k : ℕ) → Pairs (λ x y. x < y) (delivered_to_lem m k)
  delivered_rising = each_delivered (Pairs (λ x y. x < y)) tt
      (λ t. pairs_map (λ _. Unit {0}) (λ c e. c.number < e.number) (λ x y. x < y) (λ c. c.number) (comes m t) (λ x y _ _ h. h) (all_of_lem (λ _. Unit {0}) (comes m t) (λ _ _. tt)) (comes_rising m S t))
