-- What a tile's canisters are like after a move along a side: those that stay, those that cross the border.
use mathlib.Core.Path.{◌≡◌, refl, sym, ap, ◌∙◌}
use mathlib.Core.Logic.{◌⊎◌, inl, inr, ◌≢◌}
use mathlib.Core.Bool.{true, not}
use mathlib.Core.List.{List, [], ◌∷◌, ◌++◌, map, Memᴰ}
use mathlib.Core.List.Permᴰ
use mathlib.Core.List.{Permᴰ}
use Prim.Native.Nat.{ℕ, ◌-◌, ◌≤◌, ◌<◌}
use native.Mathlib.Omega.{arith}
use borrow.Author.Tests.{not-true}
use Rattle.laws.specs.Define.{filter}
use Rattle.laws.specs.Every.{All, Pairs}
use Rattle.laws.proofs.Lists.{all_of_lem, all_imp, all_map, all_both, all_filter, pairs_map, pairs_filter, filter_split, map_append, map_perm, map_map, map_cong, perm_of}
use Rattle.floor.specs.declared.Canister.{Canister}
use Rattle.floor.specs.declared.Settings.{Settings}
use Rattle.floor.specs.Sides.{sides, opposite}
use Rattle.floor.specs.Settings.{spacing}
use Rattle.floor.specs.Model.{numbers}
use Rattle.floor.specs.Signal.{missing}
use Rattle.floor.specs.Move.{crosses, shift, land, staying, leaving}
use Rattle.floor.proofs.Sound.{Measured, Inside, Differ, Apart}
use Rattle.floor.proofs.Geometry.{room, shift_number, land_number, shift_none, cross_none, lack_room, cross_room, stay_room, shift_room, shift_across, shift_inside, shift_other, land_inside, land_room, land_across, apart_along, along_apart}

-- ---- whatever the side
-- along none all stay as they are
pub staying_none : (s : Settings) (l : List Canister) → staying s 0 l ≡ l
unfolding staying filter
staying_none s [] = refl
staying_none s (c ∷ l) = rw (cross_none s c, shift_none s c) (ap (λ (r : List Canister). c ∷ r) (staying_none s l))

pub leaving_none : (s : Settings) (l : List Canister) → leaving s 0 l ≡ []
unfolding leaving filter
leaving_none s [] = refl
leaving_none s (c ∷ l) = rw (cross_none s c) (leaving_none s l)

pub leaving_nil : (s : Settings) (k : ℕ) → leaving s k [] ≡ []
unfolding leaving filter
leaving_nil s k = refl

pub staying_nil : (s : Settings) (k : ℕ) → staying s k [] ≡ []
unfolding staying filter
staying_nil s k = refl

-- the numbers are those before
pub staying_numbers : (s : Settings) (k : ℕ) (l : List Canister) → numbers (staying s k l) ≡ numbers (filter (λ c. not (crosses s k c)) l)
unfolding staying
staying_numbers s k l =
    let K = filter (λ c. not (crosses s k c)) l in
    map_map (shift s k) (λ c. c.number) K ∙ map_cong (λ c. (shift s k c).number) (λ c. c.number) K (all_of_lem (λ c. (shift s k c).number ≡ c.number) K (λ c _. shift_number s k c))

pub leaving_numbers : (s : Settings) (k : ℕ) (l : List Canister) → numbers (leaving s k l) ≡ numbers (filter (crosses s k) l)
unfolding leaving
leaving_numbers s k l =
    let K = filter (crosses s k) l in
    map_map (land s k) (λ c. c.number) K ∙ map_cong (λ c. (land s k c).number) (λ c. c.number) K (all_of_lem (λ c. (land s k c).number ≡ c.number) K (λ c _. land_number s k c))

pub numbers_same : (s : Settings) (k : ℕ) (l : List Canister) → Permᴰ (numbers (staying s k l) ++ numbers (leaving s k l)) (numbers l)
numbers_same s k l =
    rw (staying_numbers s k l, leaving_numbers s k l)
    (Permᴰ.trans (perm_of (sym (map_append (λ c. c.number) (filter (λ c. not (crosses s k c)) l) (filter (crosses s k) l)))) (map_perm (λ c. c.number) (Permᴰ.symm (filter_split (crosses s k) l))))

-- and they rise
abbrev pub Rising : List Canister → Type 0
Rising = Pairs (λ c e. c.number < e.number)

pub staying_rising : (s : Settings) (k : ℕ) (l : List Canister) → Rising l → Rising (staying s k l)
unfolding staying
staying_rising s k l h =
    let K = filter (λ c. not (crosses s k c)) l in
    pairs_map (λ _. Unit {0}) (λ c e. c.number < e.number) (λ c e. c.number < e.number) (shift s k) K
    (λ x y _ _ q. omega (arith, shift_number s k x, shift_number s k y)) (all_of_lem (λ _. Unit {0}) K (λ _ _. tt)) (pairs_filter (λ c e. c.number < e.number) (λ c. not (crosses s k c)) l h)

pub leaving_rising : (s : Settings) (k : ℕ) (l : List Canister) → Rising l → Rising (leaving s k l)
unfolding leaving
leaving_rising s k l h =
    let K = filter (crosses s k) l in
    pairs_map (λ _. Unit {0}) (λ c e. c.number < e.number) (λ c e. c.number < e.number) (land s k) K
    (λ x y _ _ q. omega (arith, land_number s k x, land_number s k y)) (all_of_lem (λ _. Unit {0}) K (λ _ _. tt)) (pairs_filter (λ c e. c.number < e.number) (crosses s k) l h)

module _ (s : Settings) (g : Measured s) where
  abbrev Stays : ℕ → Canister → Type 0
  Stays k c = Inside s c × (not (crosses s k c) ≡ true)

  abbrev Leaves : ℕ → Canister → Type 0
  Leaves k c = Inside s c × (crosses s k c ≡ true)

  -- a gap towards side k: all are d from that border
  pub gap_room : {k : ℕ} (l : List Canister) → Memᴰ k sides → missing s k l ≡ 0 → All (λ c. spacing s ≤ room s k c) l
  unfolding missing
  gap_room {k} [] mk h = tt
  gap_room {k} (c ∷ l) mk h = (lack_room s g mk c (omega (arith, h)), gap_room l mk (omega (arith, h)))

  module _ {k : ℕ} (mk : Memᴰ k sides) (l : List Canister) (i : All (Inside s) l) where
    pub stays_room : (c : Canister) → Stays k c → s.travel ≤ room s k c
    stays_room c p = stay_room s g mk c p.0 (not-true (crosses s k c) p.1)

    stayers : All (Stays k) (filter (λ c. not (crosses s k c)) l)
    stayers = all_filter (Inside s) (λ c. not (crosses s k c)) l i

    leavers : All (Leaves k) (filter (crosses s k) l)
    leavers = all_filter (Inside s) (crosses s k) l i

    -- ---- those that stay
    pub staying_inside : All (Inside s) (staying s k l)
    unfolding staying
    staying_inside =
        let K = filter (λ c. not (crosses s k c)) l in
        all_map (Inside s) (shift s k) K (all_imp (Stays k) (λ c. Inside s (shift s k c)) K (λ c p. shift_inside s g mk c p.0 (stays_room c p)) stayers)

    less : (x y : ℕ) → s.travel ≤ x → s.travel ≤ y → Differ (spacing s) x y → Differ (spacing s) (x - s.travel) (y - s.travel)
    less x y p q (inl h) = inl (omega arith)
    less x y p q (inr h) = inr (omega arith)

    shifted_apart : (x y : Canister) → Stays k x → Stays k y → Apart (spacing s) x y → Apart (spacing s) (shift s k x) (shift s k y)
    shifted_apart x y p q h =
        along_apart s g mk (shift s k x) (shift s k y) (shift_inside s g mk x p.0 (stays_room x p)) (shift_inside s g mk y q.0 (stays_room y q))
        (rw (shift_room s g mk x, shift_room s g mk y, shift_across s g mk x, shift_across s g mk y)
        (go (stays_room x p) (stays_room y q) (apart_along s g mk x y p.0 q.0 h)))
      where
        go : {X : Type 0} → s.travel ≤ room s k x → s.travel ≤ room s k y → Differ (spacing s) (room s k x) (room s k y) ⊎ X → Differ (spacing s) (room s k x - s.travel) (room s k y - s.travel) ⊎ X
        go rx ry (inl z) = inl (less _ _ rx ry z)
        go rx ry (inr z) = inr z

    pub staying_apart : Pairs (Apart (spacing s)) l → Pairs (Apart (spacing s)) (staying s k l)
    unfolding staying
    staying_apart h = pairs_map (Stays k) (Apart (spacing s)) (Apart (spacing s)) (shift s k) (filter (λ c. not (crosses s k c)) l) shifted_apart stayers (pairs_filter (Apart (spacing s)) (λ c. not (crosses s k c)) l h)

    -- who moves elsewhere than towards q keeps the room there
    pub staying_room : {q : ℕ} → Memᴰ q sides → k ≢ q → All (λ c. spacing s ≤ room s q c) l → All (λ c. spacing s ≤ room s q c) (staying s k l)
    unfolding staying
    staying_room {q} mq n h =
        let K = filter (λ c. not (crosses s k c)) l in
        all_map (λ c. spacing s ≤ room s q c) (shift s k) K
        (all_imp (λ c. (Inside s c × (spacing s ≤ room s q c)) × (not (crosses s k c) ≡ true)) (λ c. spacing s ≤ room s q (shift s k c)) K
        (λ c p. omega (arith, shift_other s g mk mq n c p.0.0 (stays_room c (p.0.0, p.1))))
        (all_filter (λ c. Inside s c × (spacing s ≤ room s q c)) (λ c. not (crosses s k c)) l (all_both (Inside s) (λ c. spacing s ≤ room s q c) l i h)))

    -- ---- those that leave
    pub leaving_inside : All (Inside s) (leaving s k l)
    unfolding leaving
    leaving_inside =
        let K = filter (crosses s k) l in
        all_map (Inside s) (land s k) K (all_imp (Leaves k) (λ c. Inside s (land s k c)) K (λ c p. land_inside s g mk c p.0) leavers)

    -- two that cross together lie less than v apart along the way
    landed_apart : (x y : Canister) → Leaves k x → Leaves k y → Apart (spacing s) x y → Apart (spacing s) (land s k x) (land s k y)
    landed_apart x y p q h =
        along_apart s g mk (land s k x) (land s k y) (land_inside s g mk x p.0) (land_inside s g mk y q.0)
        (inr (rw (land_across s g mk x, land_across s g mk y)
        (go (cross_room s g mk x p.1) (cross_room s g mk y q.1) (apart_along s g mk x y p.0 q.0 h))))
      where
        go : {X : Type 0} → room s k x < s.travel → room s k y < s.travel → Differ (spacing s) (room s k x) (room s k y) ⊎ X → X
        go rx ry (inl (inl z)) = absurd (omega (arith, g.slow))
        go rx ry (inl (inr z)) = absurd (omega (arith, g.slow))
        go rx ry (inr z) = z

    pub leaving_apart : Pairs (Apart (spacing s)) l → Pairs (Apart (spacing s)) (leaving s k l)
    unfolding leaving
    leaving_apart h = pairs_map (Leaves k) (Apart (spacing s)) (Apart (spacing s)) (land s k) (filter (crosses s k) l) landed_apart leavers (pairs_filter (Apart (spacing s)) (crosses s k) l h)

    -- they land at the border they crossed
    pub leaving_room : All (λ c. room s (opposite k) c ≡ 0) (leaving s k l)
    unfolding leaving
    leaving_room =
        let K = filter (crosses s k) l in
        all_map (λ c. room s (opposite k) c ≡ 0) (land s k) K (all_of_lem (λ c. room s (opposite k) (land s k c) ≡ 0) K (λ c _. land_room s g mk c))

    -- where all are d from the border, none crosses
    pub leaving_empty : All (λ c. spacing s ≤ room s k c) l → leaving s k l ≡ []
    unfolding leaving
    leaving_empty h = ap (map (land s k)) (none (filter (crosses s k) l)
        (all_imp (λ c. (spacing s ≤ room s k c) × (crosses s k c ≡ true)) (λ _. ⊥) (filter (crosses s k) l)
        (λ c p. omega (arith, cross_room s g mk c p.1, g.slow)) (all_filter (λ c. spacing s ≤ room s k c) (crosses s k) l h)))
      where
        none : (x : List Canister) → All (λ _. ⊥) x → x ≡ []
        none [] z = refl
        none (c ∷ x) z = absurd z.0
