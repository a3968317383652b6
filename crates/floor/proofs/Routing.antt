-- Routing settles in C - 1 rounds, over any graph, and whichever of the nearest neighbours is chosen.
use mathlib.Core.Path.{◌≡◌, refl, sym, ◌∙◌, subst}
use mathlib.Core.Logic.{◌⊎◌, inl, inr, ◌↔◌}
use mathlib.Core.Bool.{Bool, true, false, ◌&&◌, ◌||◌}
use mathlib.Core.List.{Memᴰ}
use Prim.Native.Nat.{ℕ, zero, suc, ◌-◌, ◌≤◌, ◌<◌}
use native.Mathlib.Omega.{arith}
use native.Mathlib.Decide.{dec_le}
use Rattle.laws.specs.Define.{any_of}
use Rattle.laws.proofs.Tests.{by_test, not_both, and_left, and_right, and_true, or_case, or_left, or_right}
use Rattle.laws.proofs.Search.{any_mem, any_find, any_sub}
use Rattle.laws.proofs.Count.{count, count_same, count_all, count_pos}
use Rattle.floor.specs.Sides.{sides}
use Rattle.floor.proofs.Grid.{side_pos}

-- `nb k t` is the tile beyond side k of t, or a number of no tile; `hop` says which tiles are hoppers, `run` which run
pub record Graph : Type 0 where
  pub size : ℕ
  pub nb : ℕ → ℕ → ℕ
  pub hop : ℕ → Bool
  pub run : ℕ → Bool

-- what routing needs of it
pub record Routable (g : Graph) : Type 0 where
  pub small : g.size ≤ 255
  pub hop_runs : (t : ℕ) → g.hop t ≡ true → g.run t ≡ true
  pub run_on : (t : ℕ) → g.run t ≡ true → t < g.size
  pub some : (t : ℕ) × (g.hop t ≡ true)

module _ (g : Graph) where
  -- a path of at most n steps leads from t to a hopper
  unfoldable pub reach : ℕ → ℕ → Bool
  reach zero t = g.hop t
  reach (suc n) t = g.hop t || (g.run t && any_of (λ k. reach n (g.nb k t)) sides)

  -- distances as a well-formed floor has them
  pub record Formed (d : ℕ → ℕ) : Type 0 where
    pub at_hop : (t : ℕ) → g.hop t ≡ true → d t ≡ 0
    pub off_hop : (t : ℕ) → g.hop t ≡ false → 1 ≤ d t
    pub stopped : (t : ℕ) → g.run t ≡ false → d t ≡ 255
    pub capped : (t : ℕ) → (d t < g.size) ⊎ (d t ≡ 255)

  -- the new distance D and arrow A of tile t, from the old distances d: one of the nearest neighbours is chosen
  pub record Choice (d : ℕ → ℕ) (t D A : ℕ) : Type 0 where
    pub side : ℕ
    pub is_side : Memᴰ side sides
    pub least : (j : ℕ) → Memᴰ j sides → d (g.nb side t) ≤ d (g.nb j t)
    pub near : suc (d (g.nb side t)) < g.size → (D ≡ suc (d (g.nb side t))) × (A ≡ side)
    pub far : g.size ≤ suc (d (g.nb side t)) → (D ≡ 255) × (A ≡ 0)

  -- one round of routing, from distances d and arrows a to d' and a'
  pub record Routed (d a d' a' : ℕ → ℕ) : Type 0 where
    pub fixed : (t : ℕ) → (g.hop t ≡ true) ⊎ (g.run t ≡ false) → (d' t ≡ d t) × (a' t ≡ a t)
    pub chosen : (t : ℕ) → g.hop t ≡ false → g.run t ≡ true → Choice d t (d' t) (a' t)

  -- right up to k steps, and right altogether
  abbrev pub RightTo : ℕ → (ℕ → ℕ) → Type 0
  RightTo n d = (t j : ℕ) → j ≤ n → j < g.size → d t ≤ j ↔ reach j t ≡ true

  abbrev pub Right : (ℕ → ℕ) → Type 0
  Right d = (t j : ℕ) → j < g.size → d t ≤ j ↔ reach j t ≡ true

  pub right_all : {d : ℕ → ℕ} (n : ℕ) → g.size ≤ suc n → RightTo n d → Right d
  right_all n c I t j h = I t j (omega arith) h

  -- what a new arrow tells
  pub record Arrow (d d' a' : ℕ → ℕ) (t : ℕ) : Type 0 where
    pub side : Memᴰ (a' t) sides
    pub off_hop : g.hop t ≡ false
    pub runs : g.run t ≡ true
    pub ahead : g.run (g.nb (a' t) t) ≡ true
    pub down : d' t ≡ suc (d (g.nb (a' t) t))
    pub below : d' t < g.size

  -- the three kinds of tile
  data Kind (t : ℕ) : Type 0 where
    is_hop : g.hop t ≡ true → Kind t
    is_stopped : g.hop t ≡ false → g.run t ≡ false → Kind t
    is_routed : g.hop t ≡ false → g.run t ≡ true → Kind t

  kind : (t : ℕ) → Kind t
  kind t = go (g.hop t) refl (g.run t) refl
    where
      go : (b : Bool) → g.hop t ≡ b → (c : Bool) → g.run t ≡ c → Kind t
      go true p c q = is_hop p
      go false p false q = is_stopped p q
      go false p true q = is_routed p q

  reach_hop : (n t : ℕ) → g.hop t ≡ true → reach n t ≡ true
  unfolding reach
  reach_hop zero t h = h
  reach_hop (suc n) t h = rw h

  reach_stopped : (n t : ℕ) → g.hop t ≡ false → g.run t ≡ false → reach n t ≡ false
  unfolding reach
  reach_stopped zero t h r = h
  reach_stopped (suc n) t h r = rw (h, r)

  reach_routed : (n t : ℕ) → g.hop t ≡ false → g.run t ≡ true → reach (suc n) t ≡ any_of (λ k. reach n (g.nb k t)) sides
  unfolding reach
  reach_routed n t h r = rw (h, r)

  -- a step more; and whatever holds of hoppers and goes back along a step holds of what is reached
  pub reach_step : (n t k : ℕ) → Memᴰ k sides → g.run t ≡ true → reach n (g.nb k t) ≡ true → reach (suc n) t ≡ true
  unfolding reach
  reach_step n t k mk r h =
      or_right (g.hop t) (g.run t && any_of (λ k. reach n (g.nb k t)) sides) (and_true r (any_mem (λ k. reach n (g.nb k t)) mk h))

  pub reach_each : (P : ℕ → Type 0) → ((t : ℕ) → g.hop t ≡ true → P t) → ((t k : ℕ) → Memᴰ k sides → g.run t ≡ true → P (g.nb k t) → P t) → (n t : ℕ) → reach n t ≡ true → P t
  unfolding reach
  reach_each P at_hop back zero t h = at_hop t h
  reach_each P at_hop back (suc n) t h = go (or_case (g.hop t) (g.run t && any_of (λ k. reach n (g.nb k t)) sides) h) (reach_each P at_hop back n)
    where
      go : (g.hop t ≡ true) ⊎ ((g.run t && any_of (λ k. reach n (g.nb k t)) sides) ≡ true) → ((u : ℕ) → reach n u ≡ true → P u) → P t
      go (inl e) ih = at_hop t e
      go (inr e) ih =
          let w = any_find (λ k. reach n (g.nb k t)) sides (and_right (g.run t) (any_of (λ k. reach n (g.nb k t)) sides) e) in
          back t w.0 w.1 (and_left (g.run t) (any_of (λ k. reach n (g.nb k t)) sides) e) (ih (g.nb w.0 t) w.2)

  reach_sub : (i j t : ℕ) → ((u : ℕ) → reach i u ≡ true → reach j u ≡ true) → reach (suc i) t ≡ true → reach (suc j) t ≡ true
  unfolding reach
  reach_sub i j t f h = go (or_case (g.hop t) (g.run t && any_of (λ k. reach i (g.nb k t)) sides) h)
    where
      rest : Bool
      rest = g.run t && any_of (λ k. reach j (g.nb k t)) sides

      go : (g.hop t ≡ true) ⊎ ((g.run t && any_of (λ k. reach i (g.nb k t)) sides) ≡ true) → (g.hop t || rest) ≡ true
      go (inl e) = or_left (g.hop t) rest e
      go (inr e) =
          or_right (g.hop t) rest
          (and_true (and_left (g.run t) (any_of (λ k. reach i (g.nb k t)) sides) e)
          (any_sub (λ k. reach i (g.nb k t)) (λ k. reach j (g.nb k t)) sides (λ k. f (g.nb k t)) (and_right (g.run t) (any_of (λ k. reach i (g.nb k t)) sides) e)))

  reach_suc : (n t : ℕ) → reach n t ≡ true → reach (suc n) t ≡ true
  unfolding reach
  reach_suc zero t h = or_left (g.hop t) (g.run t && any_of (λ k. reach zero (g.nb k t)) sides) h
  reach_suc (suc n) t h = reach_sub n (suc n) t (reach_suc n) h

  abbrev Stable : ℕ → Type 0
  Stable n = (t : ℕ) → reach (suc n) t ≡ true → reach n t ≡ true

  stable_all : (k : ℕ) → Stable k → (n t : ℕ) → reach n t ≡ true → reach k t ≡ true
  unfolding reach
  stable_all k S zero t h = reach_hop k t h
  stable_all k S (suc n) t h = S t (reach_sub n k t (stable_all k S n) h)

  module _ (L : Routable g) where
    reach_on : (n t : ℕ) → reach n t ≡ true → t < g.size
    reach_on n t h = go (kind t)
      where
        go : Kind t → t < g.size
        go (is_hop p) = L.run_on t (L.hop_runs t p)
        go (is_stopped p r) = not_both h (reach_stopped n t p r)
        go (is_routed p r) = L.run_on t r

    -- ---- what is reached at all is reached within C - 1 steps: the tiles reached grow in number with each step, or no more
    grow : (n : ℕ) → Stable n ⊎ (suc n ≤ count (reach n) g.size)
    grow zero = let h = L.some in inr (count_pos (reach 0) g.size h.0 (reach_on 0 h.0 (reach_hop 0 h.0 h.1)) (reach_hop 0 h.0 h.1))
    grow (suc n) = go (grow n) (dec_le (suc (suc n)) (count (reach (suc n)) g.size))
      where
        same : Stable n → Stable (suc n)
        same S t h = reach_sub (suc n) n t S h

        still : suc n ≤ count (reach n) g.size → ¬ (suc (suc n) ≤ count (reach (suc n)) g.size) → Stable n
        still c k t h = count_same (reach n) (reach (suc n)) g.size (reach_suc n) (omega arith) t (reach_on (suc n) t h) h

        go : Stable n ⊎ (suc n ≤ count (reach n) g.size) → Dec (suc (suc n) ≤ count (reach (suc n)) g.size) → Stable (suc n) ⊎ (suc (suc n) ≤ count (reach (suc n)) g.size)
        go p (yes h) = inr h
        go (inl S) (no h) = inl (same S)
        go (inr c) (no h) = inl (same (still c h))

    pub size_pos : 1 ≤ g.size
    size_pos = let h = L.some in omega (arith, L.run_on h.0 (L.hop_runs h.0 h.1))

    pub reach_all : (n t : ℕ) → reach n t ≡ true → reach (g.size - 1) t ≡ true
    reach_all n t h = go (grow (g.size - 1))
      where
        go : Stable (g.size - 1) ⊎ (suc (g.size - 1) ≤ count (reach (g.size - 1)) g.size) → reach (g.size - 1) t ≡ true
        go (inl S) = stable_all (g.size - 1) S n t h
        go (inr c) = count_all (reach (g.size - 1)) g.size (omega arith) t (reach_on n t h)

    -- a tile with a distance runs
    pub formed_runs : {d : ℕ → ℕ} → Formed d → (t : ℕ) → d t < 255 → g.run t ≡ true
    formed_runs {d} F t l = go (by_test (g.run t))
      where
        go : (g.run t ≡ true) ⊎ (g.run t ≡ false) → g.run t ≡ true
        go (inl r) = r
        go (inr r) = absurd (omega (arith, F.stopped t r))

    -- right distances are the same distances, and one has them exactly where a hopper can be reached
    pub right_same : {d e : ℕ → ℕ} → Formed d → Formed e → Right d → Right e → (t : ℕ) → d t ≡ e t
    right_same {d} {e} F G I J t = go (F.capped t) (G.capped t)
      where
        le : (j : ℕ) → j < g.size → d t ≤ j → e t ≤ j
        le j c h = (J t j c).1 ((I t j c).0 h)

        ge : (j : ℕ) → j < g.size → e t ≤ j → d t ≤ j
        ge j c h = (I t j c).1 ((J t j c).0 h)

        go : (d t < g.size) ⊎ (d t ≡ 255) → (e t < g.size) ⊎ (e t ≡ 255) → d t ≡ e t
        go (inl p) (inl q) = omega (arith, le (d t) p (omega arith), ge (e t) q (omega arith))
        go (inl p) (inr q) = omega (arith, L.small, le (d t) p (omega arith))
        go (inr p) (inl q) = omega (arith, L.small, ge (e t) q (omega arith))
        go (inr p) (inr q) = p ∙ sym q

    pub right_reach : {d : ℕ → ℕ} → Right d → (t : ℕ) → d t < g.size ↔ reach (g.size - 1) t ≡ true
    right_reach {d} I t = (
      λ h. (I t (g.size - 1) (omega (arith, size_pos))).0 (omega arith),
      λ h. let k : d t ≤ g.size - 1 = (I t (g.size - 1) (omega (arith, size_pos))).1 h in omega (arith, size_pos),
    )

    -- hoppers and stopped tiles: at any time
    hop_right : {d : ℕ → ℕ} → Formed d → (t j : ℕ) → g.hop t ≡ true → d t ≤ j ↔ reach j t ≡ true
    hop_right {d} F t j p = (λ _. reach_hop j t p, λ _. omega (arith, F.at_hop t p))

    stopped_right : {d : ℕ → ℕ} → Formed d → (t j : ℕ) → g.hop t ≡ false → g.run t ≡ false → j < g.size → d t ≤ j ↔ reach j t ≡ true
    stopped_right {d} F t j p r c = (λ h. absurd (omega (arith, F.stopped t r, L.small)), λ h. not_both h (reach_stopped j t p r))

    pub right_start : {d : ℕ → ℕ} → Formed d → RightTo 0 d
    unfolding reach
    right_start {d} F t zero l c = go (kind t)
      where
        go : Kind t → d t ≤ 0 ↔ reach 0 t ≡ true
        go (is_hop p) = hop_right F t 0 p
        go (is_stopped p r) = stopped_right F t 0 p r c
        go (is_routed p r) = (λ h. absurd (omega (arith, F.off_hop t p)), λ h. not_both h p)
    right_start {d} F t (suc j) l c = absurd (omega arith)

    -- ---- one round
    module _ {d a d' a' : ℕ → ℕ} (F : Formed d) (R : Routed d a d' a') where
      -- a routed tile's new distance and arrow, near and far
      data New (t : ℕ) : Type 0 where
        near : Memᴰ (a' t) sides → ((j : ℕ) → Memᴰ j sides → d (g.nb (a' t) t) ≤ d (g.nb j t)) → d' t ≡ suc (d (g.nb (a' t) t)) → d' t < g.size → New t
        far : ((j : ℕ) → Memᴰ j sides → g.size ≤ suc (d (g.nb j t))) → d' t ≡ 255 → a' t ≡ 0 → New t

      new : (t : ℕ) → g.hop t ≡ false → g.run t ≡ true → New t
      new t p r = go (R.chosen t p r)
        where
          go : Choice d t (d' t) (a' t) → New t
          go K = pick (dec_le (suc (suc (d (g.nb K.side t)))) g.size)
            where
              pick : Dec (suc (d (g.nb K.side t)) < g.size) → New t
              pick (yes h) =
                  let w = K.near h in
                  near (subst (λ k. Memᴰ k sides) (sym w.1) K.is_side) (λ j mj. subst (λ k. d (g.nb k t) ≤ d (g.nb j t)) (sym w.1) (K.least j mj))
                  (subst (λ k. d' t ≡ suc (d (g.nb k t))) (sym w.1) w.0) (omega (arith, w.0))
              pick (no h) = let w = K.far (omega arith) in far (λ j mj. omega (arith, K.least j mj)) w.0 w.1

      pub routed_form : Formed d'
      routed_form = record { at_hop = λ t p. (R.fixed t (inl p)).0 ∙ F.at_hop t p; off_hop = λ t p. off_case t p (kind t); stopped = λ t r. (R.fixed t (inr r)).0 ∙ F.stopped t r; capped = λ t. cap_case t (kind t) }
        where
          off_new : (t : ℕ) → New t → 1 ≤ d' t
          off_new t (near _ _ e _) = omega arith
          off_new t (far _ e _) = omega arith

          off_case : (t : ℕ) → g.hop t ≡ false → Kind t → 1 ≤ d' t
          off_case t p (is_hop q) = not_both q p
          off_case t p (is_stopped _ r) = rw (R.fixed t (inr r)).0 (F.off_hop t p)
          off_case t p (is_routed _ r) = off_new t (new t p r)

          cap_new : (t : ℕ) → New t → (d' t < g.size) ⊎ (d' t ≡ 255)
          cap_new t (near _ _ _ h) = inl h
          cap_new t (far _ e _) = inr e

          cap_case : (t : ℕ) → Kind t → (d' t < g.size) ⊎ (d' t ≡ 255)
          cap_case t (is_hop p) = rw (R.fixed t (inl p)).0 (F.capped t)
          cap_case t (is_stopped _ r) = rw (R.fixed t (inr r)).0 (F.capped t)
          cap_case t (is_routed p r) = cap_new t (new t p r)

      -- a round more is right by a step more
      pub right_next : (n : ℕ) → RightTo n d → RightTo (suc n) d'
      unfolding reach
      right_next n I t j l c = go j l c (kind t)
        where
          some : (i : ℕ) → i ≤ n → suc i < g.size → New t → g.hop t ≡ false → g.run t ≡ true → d' t ≤ suc i ↔ reach (suc i) t ≡ true
          some i l c (near mk least e _) p r = (
            λ h. reach_step i t (a' t) mk r ((I (g.nb (a' t) t) i l (omega arith)).0 (omega arith)),
            λ h.
                let w = any_find (λ k. reach i (g.nb k t)) sides (sym (reach_routed i t p r) ∙ h) in
                omega (arith, (I (g.nb w.0 t) i l (omega arith)).1 w.2, least w.0 w.1),
          )
          some i l c (far all e _) p r = (
            λ h. absurd (omega (arith, L.small)),
            λ h.
                let w = any_find (λ k. reach i (g.nb k t)) sides (sym (reach_routed i t p r) ∙ h) in
                absurd (omega (arith, (I (g.nb w.0 t) i l (omega arith)).1 w.2, all w.0 w.1)),
          )

          go : (j : ℕ) → j ≤ suc n → j < g.size → Kind t → d' t ≤ j ↔ reach j t ≡ true
          go j l c (is_hop p) = hop_right routed_form t j p
          go j l c (is_stopped p r) = stopped_right routed_form t j p r c
          go zero l c (is_routed p r) = (λ h. absurd (omega (arith, routed_form.off_hop t p)), λ h. not_both h p)
          go (suc i) l c (is_routed p r) = some i (omega arith) c (new t p r) p r

      pub right_stays : Right d → Right d'
      right_stays I t j c = right_next g.size (λ t j _ c. I t j c) t j (omega arith) c

      -- ---- arrows, where hoppers and stopped tiles have none
      module _ (hop-none : (t : ℕ) → g.hop t ≡ true → a t ≡ 0) (stop-none : (t : ℕ) → g.run t ≡ false → a t ≡ 0) where
        pub arrow : (t : ℕ) → 0 < a' t → Arrow d d' a' t
        arrow t h = go (kind t)
          where
            faces : g.hop t ≡ false → g.run t ≡ true → New t → Arrow d d' a' t
            faces p r (near mk _ e c) = record { side = mk; off_hop = p; runs = r; ahead = formed_runs F (g.nb (a' t) t) (omega (arith, L.small)); down = e; below = c }
            faces p r (far _ _ z) = absurd (omega arith)

            go : Kind t → Arrow d d' a' t
            go (is_hop p) = absurd (omega (arith, (R.fixed t (inl p)).1, hop-none t p))
            go (is_stopped _ r) = absurd (omega (arith, (R.fixed t (inr r)).1, stop-none t r))
            go (is_routed p r) = faces p r (new t p r)

        -- a routed tile has an arrow exactly if it has a distance
        pub arrow_iff : (t : ℕ) → g.hop t ≡ false → g.run t ≡ true → a' t ≡ 0 ↔ d' t ≡ 255
        arrow_iff t p r = go (new t p r)
          where
            go : New t → a' t ≡ 0 ↔ d' t ≡ 255
            go (near mk _ _ c) = (λ q. absurd (omega (arith, side_pos mk)), λ q. absurd (omega (arith, L.small)))
            go (far _ e z) = (λ _. e, λ _. z)

        pub arrow_up : (t : ℕ) → g.hop t ≡ false → d' t < g.size → 0 < a' t
        arrow_up t p c = go (kind t)
          where
            up : New t → 0 < a' t
            up (near mk _ _ _) = side_pos mk
            up (far _ e _) = absurd (omega (arith, L.small))

            go : Kind t → 0 < a' t
            go (is_hop q) = not_both q p
            go (is_stopped _ r) = absurd (omega (arith, routed_form.stopped t r, L.small))
            go (is_routed _ r) = up (new t p r)

        -- with right distances, which a round does not change, arrows lead down by one
        pub arrow_down : Right d → (t : ℕ) → 0 < a' t → (d t < g.size) × (d t ≡ suc (d (g.nb (a' t) t)))
        arrow_down I t h =
            let A = arrow t h in
            let e : d t ≡ d' t = right_same F routed_form I (right_stays I) t in
            (omega (arith, A.below), omega (arith, A.down))
