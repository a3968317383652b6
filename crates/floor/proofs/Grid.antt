-- Sides and neighbours. Every split into the four sides that is not about places within a tile stands here.
use mathlib.Core.Path.{◌≡◌, refl, sym, ap, ◌∙◌}
use mathlib.Core.Logic.{◌≢◌}
use mathlib.Core.Bool.{Bool, true, false, cond, false≢true}
use mathlib.Core.List.{[], ◌∷◌, Memᴰ}
use Prim.Native.Nat.{ℕ, zero, suc, ◌+◌, ◌-◌, ◌*◌, ◌/◌, ◌%◌, ◌≤◌, ◌<◌}
use native.Mathlib.Omega.{arith}
use native.Mathlib.Nat.{div-add-mod', mod-lt}
use lib.Arith.{digits_mod}
use lib.Dec.{leb, ltb, eqb}
use borrow.Author.Tests.{leb-true, ltb-true, lt-ltb, le-leb}
use Rattle.floor.specs.declared.Settings.{Settings}
use Rattle.floor.specs.Sides.{by_side, sides, opposite, after}
use Rattle.floor.specs.Settings.{total}
use Rattle.floor.specs.Grid.{neighbour}
use Rattle.floor.specs.Signal.{requests}

-- ---- sides
-- the places of a list of four
pub at1 : {w x y z : ℕ} → Memᴰ w (w ∷ x ∷ y ∷ z ∷ [])
at1 = Memᴰ.head refl

pub at2 : {w x y z : ℕ} → Memᴰ x (w ∷ x ∷ y ∷ z ∷ [])
at2 = Memᴰ.tail (Memᴰ.head refl)

pub at3 : {w x y z : ℕ} → Memᴰ y (w ∷ x ∷ y ∷ z ∷ [])
at3 = Memᴰ.tail (Memᴰ.tail (Memᴰ.head refl))

pub at4 : {w x y z : ℕ} → Memᴰ z (w ∷ x ∷ y ∷ z ∷ [])
at4 = Memᴰ.tail (Memᴰ.tail (Memᴰ.tail (Memᴰ.head refl)))

-- a property of every side
pub each_side : (P : ℕ → Type 0) → P 1 → P 2 → P 3 → P 4 → {k : ℕ} → Memᴰ k sides → P k
unfolding sides
each_side P p1 p2 p3 p4 (Memᴰ.head e) = rw e p1
each_side P p1 p2 p3 p4 (Memᴰ.tail (Memᴰ.head e)) = rw e p2
each_side P p1 p2 p3 p4 (Memᴰ.tail (Memᴰ.tail (Memᴰ.head e))) = rw e p3
each_side P p1 p2 p3 p4 {k = k} (Memᴰ.tail (Memᴰ.tail (Memᴰ.tail (Memᴰ.tail x16)))) = elim x16 [ ]
each_side P p1 p2 p3 p4 (Memᴰ.tail (Memᴰ.tail (Memᴰ.tail (Memᴰ.head e)))) = rw e p4

-- a number by which a choice is not none is a side
pub chosen_side : {A : Type 0} (z w s n e : A) (k : ℕ) → by_side z w s n e k ≢ z → Memᴰ k sides
unfolding sides
chosen_side z w s n e zero h = absurd (h refl)
chosen_side z w s n e (suc zero) h = at1
chosen_side z w s n e (suc (suc zero)) h = at2
chosen_side z w s n e (suc (suc (suc zero))) h = at3
chosen_side z w s n e (suc (suc (suc (suc zero)))) h = at4
chosen_side z w s n e (suc (suc (suc (suc (suc k))))) h = absurd (h refl)

pub side_pos : {k : ℕ} → Memᴰ k sides → 0 < k
side_pos m = each_side (λ k. 0 < k) (omega arith) (omega arith) (omega arith) (omega arith) m

pub opposite_opposite : {k : ℕ} → Memᴰ k sides → opposite (opposite k) ≡ k
unfolding opposite
opposite_opposite m = each_side (λ k. opposite (opposite k) ≡ k) refl refl refl refl m

pub opposite_side : {k : ℕ} → Memᴰ k sides → Memᴰ (opposite k) sides
unfolding opposite sides
opposite_side m = each_side (λ k. Memᴰ (opposite k) sides) at4 at3 at2 at1 m

-- opposite sides add up to five
pub opposite_sum : {k : ℕ} → Memᴰ k sides → k + opposite k ≡ 5
unfolding opposite
opposite_sum m = each_side (λ k. k + opposite k ≡ 5) refl refl refl refl m

-- the sides after k, coming round to it, are all sides
pub side_after : {j : ℕ} (k : ℕ) → Memᴰ j sides → Memᴰ j (after k)
unfolding after sides
side_after {j} zero m = m
side_after {j} (suc zero) m = each_side (λ x. Memᴰ x (2 ∷ 3 ∷ 4 ∷ 1 ∷ [])) at4 at1 at2 at3 m
side_after {j} (suc (suc zero)) m = each_side (λ x. Memᴰ x (3 ∷ 4 ∷ 1 ∷ 2 ∷ [])) at3 at4 at1 at2 m
side_after {j} (suc (suc (suc zero))) m = each_side (λ x. Memᴰ x (4 ∷ 1 ∷ 2 ∷ 3 ∷ [])) at2 at3 at4 at1 m
side_after {j} (suc (suc (suc (suc zero)))) m = m
side_after {j} (suc (suc (suc (suc (suc k))))) m = m

-- which sides want, from what the neighbours show: those whose neighbour's arrow faces here
pub requests_side : (w s n e k : ℕ) → requests w s n e k ≡ true → Memᴰ k sides
unfolding requests
requests_side w s n e k h = chosen_side false (eqb w 4) (eqb s 3) (eqb n 2) (eqb e 1) k (λ q. false≢true (sym q ∙ h))

pub requests_at : (show : ℕ → ℕ) {k : ℕ} → Memᴰ k sides → requests (show 1) (show 2) (show 3) (show 4) k ≡ eqb (show k) (opposite k)
unfolding requests opposite
requests_at show m = each_side (λ k. requests (show 1) (show 2) (show 3) (show 4) k ≡ eqb (show k) (opposite k)) refl refl refl refl m

-- ---- neighbours
pub neighbour_side : (s : Settings) (k t : ℕ) → neighbour s k t < total s → Memᴰ k sides
unfolding neighbour
neighbour_side s k t h =
    chosen_side (total s) (cond (leb s.rows t) (t - s.rows) (total s)) (cond (ltb 0 (t % s.rows)) (t - 1) (total s))
    (cond (ltb (t % s.rows + 1) s.rows) (t + 1) (total s)) (cond (ltb (t + s.rows) (total s)) (t + s.rows) (total s)) k (λ e. absurd (omega arith))

-- beyond the side none there is no tile
pub neighbour_none : (s : Settings) (t : ℕ) → neighbour s 0 t ≡ total s
unfolding neighbour
neighbour_none s t = refl

taken : (b : Bool) (x n : ℕ) → cond b x n < n → b ≡ true
taken true x n h = refl
taken false x n h = absurd (omega arith)

module _ (H : ℕ) (pos : 1 ≤ H) where
  mod_up : (t : ℕ) → t % H + 1 < H → (t + 1) % H ≡ t % H + 1
  mod_up t h = ap (λ x. x % H) eq ∙ digits_mod (t / H) h
    where
      eq : t + 1 ≡ t / H * H + (t % H + 1)
      eq = omega (arith, div-add-mod' t H)

  mod_down : (t : ℕ) → 0 < t % H → (t - 1) % H + 1 ≡ t % H
  mod_down t h = ap (λ x. x + 1) (ap (λ x. x % H) eq ∙ digits_mod (t / H) {r = t % H - 1} (omega (arith, mod-lt t pos))) ∙ last
    where
      eq : t - 1 ≡ t / H * H + (t % H - 1)
      eq = omega (arith, div-add-mod' t H)

      last : t % H - 1 + 1 ≡ t % H
      last = omega arith

pub neighbour_back : (s : Settings) → 1 ≤ s.rows → {k : ℕ} → Memᴰ k sides → (t : ℕ) → t < total s → neighbour s k t < total s → neighbour s (opposite k) (neighbour s k t) ≡ t
unfolding neighbour opposite
neighbour_back s pos mk t h = each_side (λ k. neighbour s k t < total s → neighbour s (opposite k) (neighbour s k t) ≡ t) west south north east mk
  where
    west : neighbour s 1 t < total s → neighbour s 4 (neighbour s 1 t) ≡ t
    west k =
        let e = taken (leb s.rows t) (t - s.rows) (total s) k in
        let q : t - s.rows + s.rows ≡ t = omega (arith, leb-true s.rows t e) in
        rw (e, q, lt-ltb t (total s) h)

    south : neighbour s 2 t < total s → neighbour s 3 (neighbour s 2 t) ≡ t
    south k =
        let e = taken (ltb 0 (t % s.rows)) (t - 1) (total s) k in
        let p = ltb-true 0 (t % s.rows) e in
        let q : t - 1 + 1 ≡ t = omega (arith, div-add-mod' t s.rows) in
        rw (e, mod_down s.rows pos t p, q, lt-ltb (t % s.rows) s.rows (mod-lt t pos))

    north : neighbour s 3 t < total s → neighbour s 2 (neighbour s 3 t) ≡ t
    north k =
        let e = taken (ltb (t % s.rows + 1) s.rows) (t + 1) (total s) k in
        let p = ltb-true (t % s.rows + 1) s.rows e in
        let q : t + 1 - 1 ≡ t = omega arith in
        rw (e, mod_up s.rows pos t p, lt-ltb 0 (t % s.rows + 1) (omega arith), q)

    east : neighbour s 4 t < total s → neighbour s 1 (neighbour s 4 t) ≡ t
    east k =
        let e = taken (ltb (t + s.rows) (total s)) (t + s.rows) (total s) k in
        let q : t + s.rows - s.rows ≡ t = omega arith in
        rw (e, le-leb s.rows (t + s.rows) (omega arith), q)

-- a neighbour is another tile
pub neighbour_other : (s : Settings) → 1 ≤ s.rows → {k : ℕ} → Memᴰ k sides → (t : ℕ) → neighbour s k t < total s → neighbour s k t ≢ t
unfolding neighbour
neighbour_other s pos mk t = each_side (λ k. neighbour s k t < total s → neighbour s k t ≢ t) west south north east mk
  where
    west : neighbour s 1 t < total s → neighbour s 1 t ≢ t
    west k =
        let e = taken (leb s.rows t) (t - s.rows) (total s) k in
        rw e (λ q. absurd (omega (arith, leb-true s.rows t e)))

    south : neighbour s 2 t < total s → neighbour s 2 t ≢ t
    south k =
        let e = taken (ltb 0 (t % s.rows)) (t - 1) (total s) k in
        rw e (λ q. absurd (omega (arith, ltb-true 0 (t % s.rows) e, div-add-mod' t s.rows)))

    north : neighbour s 3 t < total s → neighbour s 3 t ≢ t
    north k = rw (taken (ltb (t % s.rows + 1) s.rows) (t + 1) (total s) k) (λ q. absurd (omega arith))

    east : neighbour s 4 t < total s → neighbour s 4 t ≢ t
    east k = rw (taken (ltb (t + s.rows) (total s)) (t + s.rows) (total s) k) (λ q. absurd (omega arith))
