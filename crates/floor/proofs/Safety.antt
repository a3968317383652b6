-- Safety: after a move the canisters of a tile lie within it and keep their spacing.
use mathlib.Core.Path.{◌≡◌, sym, ap, ◌∙◌, subst}
use mathlib.Core.Logic.{◌⊎◌, inl, inr, ◌≢◌}
use mathlib.Core.List.{List, [], ◌++◌, Memᴰ}
use Prim.Native.Nat.{ℕ, ◌≤◌}
use native.Mathlib.Omega.{arith}
use native.Mathlib.Decide.{ℕ_discrete}
use Rattle.laws.specs.Every.{All, Pairs}
use Rattle.laws.proofs.Lists.{all_append, all_both, all_cross, pairs_append}
use Rattle.floor.specs.declared.Canister.{Canister}
use Rattle.floor.specs.Sides.{sides, opposite}
use Rattle.floor.specs.Settings.{spacing}
use Rattle.floor.specs.Grid.{neighbour}
use Rattle.floor.specs.Model.{Model, members_of}
use Rattle.floor.specs.Route.{route}
use Rattle.floor.specs.Signal.{grant_of, missing}
use Rattle.floor.specs.Move.{staying, leaving}
use Rattle.floor.proofs.Sound.{Inside, Apart, Sound}
use Rattle.floor.proofs.Grid.{side_pos, opposite_opposite, opposite_side}
use Rattle.floor.proofs.Geometry.{room, along_apart}
use Rattle.floor.proofs.Borders.{Rising, staying_none, leaving_none, staying_rising, leaving_rising, gap_room, staying_inside, staying_apart, staying_room, leaving_inside, leaving_apart, leaving_room, leaving_empty}
use Rattle.floor.proofs.Fields.{way_at_lem, stays, leaves, comes}
use Rattle.floor.proofs.Passing.{granting, Moving, moving, still_or, Taking, idle_or}

module _ (m : Model) (S : Sound m) where
  pub stays_still : (t : ℕ) → way_at_lem m t ≡ 0 → stays m t ≡ members_of m t
  unfolding stays
  stays_still t e = ap (λ (k : ℕ). staying m.settings k (members_of m t)) e ∙ staying_none m.settings (members_of m t)

  pub leaves_still : (t : ℕ) → way_at_lem m t ≡ 0 → leaves m t ≡ []
  unfolding leaves
  leaves_still t e = ap (λ (k : ℕ). leaving m.settings k (members_of m t)) e ∙ leaving_none m.settings (members_of m t)

  -- ---- those that stay
  stays_inside : (t : ℕ) → All (Inside m.settings) (stays m t)
  unfolding stays
  stays_inside t = go (still_or m S t)
    where
      go : (way_at_lem m t ≡ 0) ⊎ Moving m S t → All (Inside m.settings) (stays m t)
      go (inl e) = subst (All (Inside m.settings)) (sym (stays_still t e)) (S.inside t)
      go (inr M) = staying_inside m.settings S.measured M.side (members_of m t) (S.inside t)

  stays_apart : (t : ℕ) → Pairs (Apart (spacing m.settings)) (stays m t)
  unfolding stays
  stays_apart t = go (still_or m S t)
    where
      go : (way_at_lem m t ≡ 0) ⊎ Moving m S t → Pairs (Apart (spacing m.settings)) (stays m t)
      go (inl e) = subst (Pairs (Apart (spacing m.settings))) (sym (stays_still t e)) (S.spaced t)
      go (inr M) = staying_apart m.settings S.measured M.side (members_of m t) (S.inside t) (S.spaced t)

  pub stays_rising : (t : ℕ) → Rising (stays m t)
  unfolding stays
  stays_rising t = staying_rising m.settings (way_at_lem m t) (members_of m t) (S.rising t)

  -- ---- those that leave
  leaves_inside : (t : ℕ) → All (Inside m.settings) (leaves m t)
  unfolding leaves
  leaves_inside t = go (still_or m S t)
    where
      go : (way_at_lem m t ≡ 0) ⊎ Moving m S t → All (Inside m.settings) (leaves m t)
      go (inl e) = subst (All (Inside m.settings)) (sym (leaves_still t e)) tt
      go (inr M) = leaving_inside m.settings S.measured M.side (members_of m t) (S.inside t)

  leaves_apart : (t : ℕ) → Pairs (Apart (spacing m.settings)) (leaves m t)
  unfolding leaves
  leaves_apart t = go (still_or m S t)
    where
      go : (way_at_lem m t ≡ 0) ⊎ Moving m S t → Pairs (Apart (spacing m.settings)) (leaves m t)
      go (inl e) = subst (Pairs (Apart (spacing m.settings))) (sym (leaves_still t e)) tt
      go (inr M) = leaving_apart m.settings S.measured M.side (members_of m t) (S.inside t) (S.spaced t)

  leaves_rising : (t : ℕ) → Rising (leaves m t)
  unfolding leaves
  leaves_rising t = leaving_rising m.settings (way_at_lem m t) (members_of m t) (S.rising t)

  -- ---- those that come
  comes_each : (P : List Canister → Type 0) → P [] → ((u : ℕ) → P (leaves m u)) → (t : ℕ) → P (comes m t)
  comes_each P none some t = go (idle_or m S t)
    where
      go : (comes m t ≡ []) ⊎ Taking m S t → P (comes m t)
      go (inl e) = subst P (sym e) none
      go (inr K) = subst P (sym K.takes) (some (neighbour m.settings (grant_of (route m) t) t))

  pub comes_inside : (t : ℕ) → All (Inside m.settings) (comes m t)
  comes_inside = comes_each (All (Inside m.settings)) tt leaves_inside

  pub comes_apart : (t : ℕ) → Pairs (Apart (spacing m.settings)) (comes m t)
  comes_apart = comes_each (Pairs (Apart (spacing m.settings))) tt leaves_apart

  pub comes_rising : (t : ℕ) → Rising (comes m t)
  comes_rising = comes_each Rising tt leaves_rising

  -- they stand at the border to the tile that they come from
  pub comes_room : (t : ℕ) → Taking m S t → All (λ c. room m.settings (grant_of (route m) t) c ≡ 0) (comes m t)
  unfolding leaves
  comes_room t K =
      let k = grant_of (route m) t in
      let u = neighbour m.settings k t in
      let mk = K.grant.wanting.side in
      let here = leaving_room m.settings S.measured (opposite_side mk) (members_of m u) (S.inside u) in
      let there : leaves m u ≡ leaving m.settings (opposite k) (members_of m u) = ap (λ (j : ℕ). leaving m.settings j (members_of m u)) K.way in
      subst (All (λ c. room m.settings k c ≡ 0)) (sym (K.takes ∙ there)) (subst (λ (j : ℕ). All (λ c. room m.settings j c ≡ 0) (leaving m.settings (opposite k) (members_of m u))) (opposite_opposite mk) here)

  -- ---- those that come against those that stay
  -- a tile that does not move towards the side that it granted keeps the gap there
  gap_kept : (t : ℕ) → Taking m S t → way_at_lem m t ≢ grant_of (route m) t → All (λ c. spacing m.settings ≤ room m.settings (grant_of (route m) t) c) (stays m t)
  unfolding stays
  gap_kept t K n = go (still_or m S t)
    where
      mk : Memᴰ (grant_of (route m) t) sides
      mk = K.grant.wanting.side

      gap : All (λ c. spacing m.settings ≤ room m.settings (grant_of (route m) t) c) (members_of m t)
      gap = gap_room m.settings S.measured (members_of m t) mk K.grant.wide

      go : (way_at_lem m t ≡ 0) ⊎ Moving m S t → All (λ c. spacing m.settings ≤ room m.settings (grant_of (route m) t) c) (stays m t)
      go (inl e) = subst (All (λ c. spacing m.settings ≤ room m.settings (grant_of (route m) t) c)) (sym (stays_still t e)) gap
      go (inr M) = staying_room m.settings S.measured M.side (members_of m t) (S.inside t) mk n gap

  -- towards it nobody comes: the tile there granted this one, so none of its canisters crosses
  facing : (t : ℕ) → Taking m S t → way_at_lem m t ≡ grant_of (route m) t → comes m t ≡ []
  unfolding leaves
  facing t K e =
      let k = grant_of (route m) t in
      let u = neighbour m.settings k t in
      let mk = K.grant.wanting.side in
      let M = moving m S t (omega (arith, e, side_pos mk)) in
      let same : grant_of (route m) u ≡ opposite k = subst (λ (j : ℕ). grant_of (route m) (neighbour m.settings j t) ≡ opposite j) e M.meets in
      let G = granting m S.len u (omega (arith, same, side_pos (opposite_side mk))) in
      let wide : missing m.settings (opposite k) (members_of m u) ≡ 0 = subst (λ (j : ℕ). missing m.settings j (members_of m u) ≡ 0) same G.wide in
      K.takes ∙ ap (λ (j : ℕ). leaving m.settings j (members_of m u)) K.way
      ∙ leaving_empty m.settings S.measured (opposite_side mk) (members_of m u) (S.inside u) (gap_room m.settings S.measured (members_of m u) (opposite_side mk) wide)

  meet_apart : (t : ℕ) → All (λ x. All (Apart (spacing m.settings) x) (stays m t)) (comes m t)
  meet_apart t = go (idle_or m S t)
    where
      Meet : List Canister → Type 0
      Meet = All (λ x. All (Apart (spacing m.settings) x) (stays m t))

      meet : Taking m S t → Dec (way_at_lem m t ≡ grant_of (route m) t) → Meet (comes m t)
      meet K (yes e) = subst Meet (sym (facing t K e)) tt
      meet K (no n) =
          let k = grant_of (route m) t in
          all_cross (λ x. Inside m.settings x × (room m.settings k x ≡ 0)) (λ y. Inside m.settings y × (spacing m.settings ≤ room m.settings k y)) (Apart (spacing m.settings)) (comes m t) (stays m t)
          (λ x y p q. along_apart m.settings S.measured K.grant.wanting.side x y p.0 q.0 (inl (inl (omega arith))))
          (all_both (Inside m.settings) (λ x. room m.settings k x ≡ 0) (comes m t) (comes_inside t) (comes_room t K))
          (all_both (Inside m.settings) (λ y. spacing m.settings ≤ room m.settings k y) (stays m t) (stays_inside t) (gap_kept t K n))

      go : (comes m t ≡ []) ⊎ Taking m S t → Meet (comes m t)
      go (inl e) = subst Meet (sym e) tt
      go (inr K) = meet K (ℕ_discrete (way_at_lem m t) (grant_of (route m) t))

  pub safe_inside : (t : ℕ) → All (Inside m.settings) (comes m t ++ stays m t)
  safe_inside t = all_append (Inside m.settings) (comes m t) (stays m t) (comes_inside t) (stays_inside t)

  pub safe_apart : (t : ℕ) → Pairs (Apart (spacing m.settings)) (comes m t ++ stays m t)
  safe_apart t = pairs_append (Apart (spacing m.settings)) (comes m t) (stays m t) (comes_apart t) (stays_apart t) (meet_apart t)
