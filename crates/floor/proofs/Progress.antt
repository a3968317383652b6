-- Progress: on a floor with right distances the moves still ahead of the canisters with a live path fall in each round, while there are any.
use mathlib.Core.Path.{◌≡◌, refl, sym, ap, ◌∙◌}
use mathlib.Core.Logic.{◌⊎◌, inl, inr, ◌↔◌}
use mathlib.Core.Bool.{Bool, true, false, cond, not, ◌&&◌}
use mathlib.Core.List.{List, [], ◌∷◌, ◌++◌, map}
use Prim.Native.Nat.{ℕ, zero, suc, ◌+◌, ◌-◌, ◌*◌, ◌/◌, ◌≤◌, ◌<◌}
use native.Mathlib.Omega.{arith}
use native.Mathlib.Nat.{le-div_iff_mul-le, div-mul-le_self, div-eq-sub-div, mul-le-mul_left, mul-le-mul_right}
use native.Mathlib.Decide.{dec_le}
use lib.Dec.{ltb}
use lib.ListN.{length, length-append, length-map}
use borrow.Author.Tests.{ltb-true, lt-ltb, le-ltb, not-true}
use Rattle.laws.specs.Define.{cat, filter, sum}
use Rattle.laws.proofs.Tests.{by_test, not_both}
use Rattle.laws.proofs.Lists.{all_imp, all_filter, filter_split, sum_append, sum_perm, sum_cat_le, sum_cat_lt, sum_map_lt, sum_const, sum_find, sum_part, sum_scale, sum_mono, map_perm, map_append, map_map, length_perm}
use Rattle.floor.specs.declared.Canister.{Canister}
use Rattle.floor.specs.declared.Settings.{Settings}
use Rattle.floor.specs.Sides.{opposite}
use Rattle.floor.specs.Settings.{total, span, is_hopper}
use Rattle.floor.specs.Grid.{neighbour}
use Rattle.floor.specs.Model.{Model, runs_of_of, distance_of, next_of, members_of}
use Rattle.floor.specs.Route.{route}
use Rattle.floor.specs.Signal.{grant_of}
use Rattle.floor.specs.Move.{crosses, shift, land, staying, leaving}
use Rattle.floor.specs.Calls.{after_round}
use Rattle.floor.specs.Bound.{crossing}
use Rattle.floor.proofs.Sound.{Measured, Inside, Sound}
use Rattle.floor.proofs.Grid.{opposite_side, opposite_opposite, side_pos}
use Rattle.floor.proofs.Geometry.{room, room_le, stay_room, shift_room, land_inside}
use Rattle.floor.proofs.Routing.{Right, routed_form, right_same, right_stays, arrow_down, arrow_up, formed_runs}
use Rattle.floor.proofs.Tables.{run_on}
use Rattle.floor.proofs.Nearest.{graph_of, route_routed, routable, formed}
use Rattle.floor.proofs.Fields.{way_at_lem, stays, leaves, comes, round_members}
use Rattle.floor.proofs.Passing.{Wanting, lets_in, Moving, moving, still_or, taking, back, arrow_at}
use Rattle.floor.proofs.Insertion.{insert_each_perm}
use Rattle.floor.proofs.Safety.{stays_still, leaves_still}
use Rattle.floor.proofs.Conservation.{moved_perm}

-- ---- a list of marks is halved as the canisters are
split_sum : {A : Type 0} (p : A → Bool) (f : A → ℕ) (l : List A) → sum (map f (filter (λ x. not (p x)) l)) + sum (map f (filter p l)) ≡ sum (map f l)
split_sum p f l =
    let K = filter (λ x. not (p x)) l in
    let J = filter p l in
    omega (arith, sum_perm (map_perm f (filter_split p l)), ap sum (map_append f K J), sum_append (map f K) (map f J))

split_length : {A : Type 0} (p : A → Bool) (l : List A) → length (filter (λ x. not (p x)) l) + length (filter p l) ≡ length l
split_length p l = omega (arith, length_perm (filter_split p l), length-append (filter (λ x. not (p x)) l) (filter p l))

-- ---- the moves still ahead of a canister on tile t, by distances e and arrows a; none where no path leads to a hopper
unfoldable pub ahead : Settings → (ℕ → ℕ) → (ℕ → ℕ) → ℕ → Canister → ℕ
ahead s e a t c = cond (ltb 0 (e t) && ltb (e t) (total s)) ((e t - 1) * crossing s + (room s (a t) c / s.travel + 1)) 0

-- of all canisters together
unfoldable pub ahead_all : Settings → (ℕ → ℕ) → (ℕ → ℕ) → (ℕ → List Canister) → ℕ
ahead_all s e a M = sum (cat (total s) (λ t. map (ahead s e a t) (M t)))

less_one : (n : ℕ) → suc n - 1 ≡ n
less_one n = omega arith

module _ (s : Settings) (e a : ℕ → ℕ) where
  pub ahead_live : (t : ℕ) (c : Canister) → 0 < e t → e t < total s → ahead s e a t c ≡ (e t - 1) * crossing s + (room s (a t) c / s.travel + 1)
  unfolding ahead
  ahead_live t c p q = rw (lt-ltb 0 (e t) p, lt-ltb (e t) (total s) q)

  pub ahead_dead : (t : ℕ) (c : Canister) → total s ≤ e t → ahead s e a t c ≡ 0
  unfolding ahead
  ahead_dead t c h = go (ltb 0 (e t))
    where
      go : (b : Bool) → cond (b && ltb (e t) (total s)) ((e t - 1) * crossing s + (room s (a t) c / s.travel + 1)) 0 ≡ 0
      go false = refl
      go true = rw (le-ltb (e t) (total s) h)

  one_more : (n k x : ℕ) → 0 < n → x ≤ k → (n - 1) * k + x ≤ n * k
  one_more zero k x p h = absurd (omega arith)
  one_more (suc n) k x p h = rw less_one (omega arith)

  pub ahead_most : Measured s → (t : ℕ) (c : Canister) → Inside s c → ahead s e a t c ≤ e t * crossing s
  unfolding ahead crossing
  ahead_most g t c i = go (ltb 0 (e t)) refl (ltb (e t) (total s))
    where
      x : ℕ
      x = room s (a t) c

      fits : x / s.travel ≤ span s / s.travel
      fits = (le-div_iff_mul-le g.moving).1 (omega (arith, div-mul-le_self x s.travel, room_le s (a t) c i))

      go : (b : Bool) → ltb 0 (e t) ≡ b → (k : Bool) → cond (b && k) ((e t - 1) * (span s / s.travel + 1) + (x / s.travel + 1)) 0 ≤ e t * (span s / s.travel + 1)
      go false p k = omega arith
      go true p false = omega arith
      go true p true = one_more (e t) (span s / s.travel + 1) (x / s.travel + 1) (ltb-true 0 (e t) p) (omega (arith, fits))

-- ---- a number for each tile that does not rise along the moves: its sum over the canisters does not rise
module _ (m : Model) (S : Sound m) (w : ℕ → ℕ) (along : (u : ℕ) → Moving m S u → w (neighbour m.settings (way_at_lem m u) u) ≤ w u) where
  abbrev to : ℕ → ℕ
  to u = neighbour m.settings (way_at_lem m u) u

  weigh : (u : ℕ) → sum (map (λ _. w (to u)) (leaves m u) ++ map (λ _. w u) (stays m u)) ≤ sum (map (λ _. w u) (members_of m u))
  unfolding stays leaves staying leaving
  weigh u = go (still_or m S u)
    where
      p : Canister → Bool
      p = crosses m.settings (way_at_lem m u)

      J : List Canister
      J = filter p (members_of m u)

      K : List Canister
      K = filter (λ c. not (p c)) (members_of m u)

      go : (way_at_lem m u ≡ 0) ⊎ Moving m S u → sum (map (λ _. w (to u)) (leaves m u) ++ map (λ _. w u) (stays m u)) ≤ sum (map (λ _. w u) (members_of m u))
      go (inl e) =
          let z : map (λ _. w (to u)) (leaves m u) ≡ [] = ap (map (λ (_ : Canister). w (to u))) (leaves_still m S u e) in
          let y : map (λ _. w u) (stays m u) ≡ map (λ _. w u) (members_of m u) = ap (map (λ (_ : Canister). w u)) (stays_still m S u e) in
          omega (arith, ap (λ (x : List ℕ). sum (x ++ map (λ _. w u) (stays m u))) z, ap sum y)
      go (inr M) =
          omega (
            arith,
            sum_append (map (λ _. w (to u)) (leaves m u)) (map (λ _. w u) (stays m u)),
            sum_const (w (to u)) (map (land m.settings (way_at_lem m u)) J),
            sum_const (w u) (map (shift m.settings (way_at_lem m u)) K),
            sum_const (w u) (members_of m u),
            ap (λ k. k * w (to u)) (length-map J (land m.settings (way_at_lem m u))),
            ap (λ k. k * w u) (length-map K (shift m.settings (way_at_lem m u))),
            mul-le-mul_left (length J) (along u M),
            ap (λ k. k * w u) (split_length p (members_of m u)),
          )

  pub weight_falls : sum (cat (total m.settings) (λ t. map (λ _. w t) (members_of (after_round m) t))) ≤ sum (cat (total m.settings) (λ t. map (λ _. w t) (members_of m t)))
  unfolding sum
  weight_falls =
      omega (
        arith,
        sum_cat_le (total m.settings) (λ t. map (λ _. w t) (members_of (after_round m) t)) (λ t. map (λ _. w t) (comes m t ++ stays m t))
            (λ t _. round_members m S.len (λ t l. sum (map (λ _. w t) l) ≤ sum (map (λ _. w t) (comes m t ++ stays m t))) (λ t. omega arith)
            (λ t _ _. omega (arith, sum_perm (map_perm (λ (_ : Canister). w t) (insert_each_perm (comes m t) (stays m t))))) t),
        sum_perm (moved_perm m S (λ t _. w t)),
        sum_cat_le (total m.settings) (λ u. map (λ _. w (to u)) (leaves m u) ++ map (λ _. w u) (stays m u)) (λ u. map (λ _. w u) (members_of m u)) (λ u _. weigh u),
      )

-- ---- with right distances
module _ (m : Model) (S : Sound m) (T : Right (graph_of m) (distance_of m)) where
  abbrev s : Settings
  s = m.settings

  abbrev e : ℕ → ℕ
  e = distance_of m

  abbrev a : ℕ → ℕ
  a = next_of (route m)

  pub same_distance : (t : ℕ) → distance_of (route m) t ≡ e t
  same_distance t =
      sym (right_same (graph_of m) (routable m S) (formed m S) (routed_form (graph_of m) (routable m S) (formed m S) (route_routed m S.len)) T
      (right_stays (graph_of m) (routable m S) (formed m S) (route_routed m S.len) T) t)

  down : (t : ℕ) → 0 < a t → (e t < total s) × (e t ≡ suc (e (neighbour s (a t) t)))
  down = arrow_down (graph_of m) (routable m S) (formed m S) (route_routed m S.len) S.hopper_next S.stop_next T

  up : (t : ℕ) → is_hopper s t ≡ false → e t < total s → 0 < a t
  up t n h = arrow_up (graph_of m) (routable m S) (formed m S) (route_routed m S.len) S.hopper_next S.stop_next t n (omega (arith, same_distance t))

  live_runs : (t : ℕ) → e t < total s → runs_of_of m t ≡ true
  live_runs t h = formed_runs (graph_of m) (routable m S) (formed m S) t (omega (arith, S.measured.few))

  -- a canister of a tile that moves has one move less ahead of it
  stay_less : (u : ℕ) (c : Canister) → Moving m S u → Inside s c → crosses s (way_at_lem m u) c ≡ false → suc (ahead s e a u (shift s (way_at_lem m u) c)) ≤ ahead s e a u c
  stay_less u c M i k =
      let D = down u (omega (arith, M.is, side_pos M.side)) in
      let x : room s (a u) (shift s (way_at_lem m u) c) ≡ room s (way_at_lem m u) c - s.travel = ap (λ (j : ℕ). room s j (shift s (way_at_lem m u) c)) (sym M.is) ∙ shift_room s S.measured M.side c in
      let z : room s (a u) c ≡ room s (way_at_lem m u) c = ap (λ (j : ℕ). room s j c) (sym M.is) in
      let y : room s (way_at_lem m u) c / s.travel ≡ (room s (way_at_lem m u) c - s.travel) / s.travel + 1 = div-eq-sub-div S.measured.moving (stay_room s S.measured M.side c i k) in
      rw (ahead_live s e a u (shift s (way_at_lem m u) c) (omega (arith, D.1)) D.0, ahead_live s e a u c (omega (arith, D.1)) D.0, x, z) (omega arith)

  cross_less : (u : ℕ) (c : Canister) → Moving m S u → Inside s c → suc (ahead s e a (neighbour s (way_at_lem m u) u) (land s (way_at_lem m u) c)) ≤ ahead s e a u c
  cross_less u c M i =
      let D = down u (omega (arith, M.is, side_pos M.side)) in
      let q : e u ≡ suc (e (neighbour s (way_at_lem m u) u)) = D.1 ∙ ap (λ (j : ℕ). suc (e (neighbour s j u))) (sym M.is) in
      let x = ahead_most s e a S.measured (neighbour s (way_at_lem m u) u) (land s (way_at_lem m u) c) (land_inside s S.measured M.side c i) in
      rw (ahead_live s e a u c (omega (arith, q)) D.0, q, less_one) (omega arith)

  -- what a tile's canisters have ahead of them after the move, and before
  then : ℕ → List ℕ
  then u = map (ahead s e a (neighbour s (way_at_lem m u) u)) (leaves m u) ++ map (ahead s e a u) (stays m u)

  then_moves : (u : ℕ) → Moving m S u → sum (then u) + length (members_of m u) ≤ sum (map (ahead s e a u) (members_of m u))
  unfolding then stays leaves staying leaving
  then_moves u M =
      let x = neighbour s (way_at_lem m u) u in
      let p = crosses s (way_at_lem m u) in
      let K = filter (λ c. not (p c)) (members_of m u) in
      let J = filter p (members_of m u) in
      let ks = sum_map_lt (λ c. ahead s e a u (shift s (way_at_lem m u) c)) (ahead s e a u) K
      (all_imp (λ c. Inside s c × (not (p c) ≡ true)) (λ c. suc (ahead s e a u (shift s (way_at_lem m u) c)) ≤ ahead s e a u c) K
      (λ c q. stay_less u c M q.0 (not-true (p c) q.1)) (all_filter (Inside s) (λ c. not (p c)) (members_of m u) (S.inside u))) in
      let js = sum_map_lt (λ c. ahead s e a x (land s (way_at_lem m u) c)) (ahead s e a u) J
      (all_imp (λ c. Inside s c × (p c ≡ true)) (λ c. suc (ahead s e a x (land s (way_at_lem m u) c)) ≤ ahead s e a u c) J
      (λ c q. cross_less u c M q.0) (all_filter (Inside s) p (members_of m u) (S.inside u))) in
      rw (map_map (shift s (way_at_lem m u)) (ahead s e a u) K, map_map (land s (way_at_lem m u)) (ahead s e a x) J)
      (omega (
        arith,
        ks,
        js,
        sum_append (map (λ c. ahead s e a x (land s (way_at_lem m u) c)) J) (map (λ c. ahead s e a u (shift s (way_at_lem m u) c)) K),
        split_length p (members_of m u),
        split_sum p (ahead s e a u) (members_of m u),
      ))

  then_le : (u : ℕ) → sum (then u) ≤ sum (map (ahead s e a u) (members_of m u))
  unfolding then
  then_le u = go (still_or m S u)
    where
      go : (way_at_lem m u ≡ 0) ⊎ Moving m S u → sum (then u) ≤ sum (map (ahead s e a u) (members_of m u))
      go (inl z) =
          let x : map (ahead s e a (neighbour s (way_at_lem m u) u)) (leaves m u) ≡ [] = ap (map (ahead s e a (neighbour s (way_at_lem m u) u))) (leaves_still m S u z) in
          let y : map (ahead s e a u) (stays m u) ≡ map (ahead s e a u) (members_of m u) = ap (map (ahead s e a u)) (stays_still m S u z) in
          omega (arith, ap (λ (l : List ℕ). sum (l ++ map (ahead s e a u) (stays m u))) x, ap sum y)
      go (inr M) = omega (arith, then_moves u M)

  -- Where a canister stands on a live tile, some tile with canisters moves: follow the arrows to a tile whose next one is empty.
  progress : (k t : ℕ) → e t ≤ k → e t < total s → 0 < length (members_of m t) → (u : ℕ) × Moving m S u × (0 < length (members_of m u))
  progress zero t h c f = go (by_test (is_hopper s t))
    where
      go : (is_hopper s t ≡ true) ⊎ (is_hopper s t ≡ false) → (u : ℕ) × Moving m S u × (0 < length (members_of m u))
      go (inl p) = absurd (omega (arith, ap length (S.hopper_empty t p)))
      go (inr p) = absurd (omega (arith, S.off_hopper t p))
  progress (suc k) t h c f = go (by_test (is_hopper s t)) (members_of m (neighbour s (a t) t)) refl (progress k (neighbour s (a t) t))
    where
      x : ℕ
      x = neighbour s (a t) t

      go : (is_hopper s t ≡ true) ⊎ (is_hopper s t ≡ false) → (l : List Canister) → members_of m x ≡ l → (e x ≤ k → e x < total s → 0 < length (members_of m x) → (u : ℕ) × Moving m S u × (0 < length (members_of m u)))
          → (u : ℕ) × Moving m S u × (0 < length (members_of m u))
      go (inl p) l q ih = absurd (omega (arith, ap length (S.hopper_empty t p)))
      go (inr n) (y ∷ l) q ih =
          let D = down t (up t n c) in
          ih (omega (arith, D.1)) (omega (arith, D.1)) (omega (arith, ap length q))
      go (inr n) [] q ih =
          let po = up t n c in
          let A = arrow_at m S t po in
          let b : neighbour s (opposite (a t)) x ≡ t = back m S A.side t (run_on m S.len t A.runs) (run_on m S.len x A.ahead) in
          let W : Wanting m x (opposite (a t)) = record { side = opposite_side A.side; arrow = ap a b ∙ sym (opposite_opposite A.side); full = omega (arith, f, ap (λ (u : ℕ). length (members_of m u)) b) } in
          let K = taking m S x (lets_in m S.len x (opposite (a t)) A.ahead q W) in
          (neighbour s (grant_of (route m) x) x, moving m S (neighbour s (grant_of (route m) x) x) (omega (arith, K.way, side_pos (opposite_side K.grant.wanting.side))), K.grant.wanting.full)

  -- ---- all together
  next_le : ahead_all s e a (members_of (after_round m)) ≤ sum (cat (total s) then)
  unfolding ahead_all sum then
  next_le =
      omega (
        arith,
        sum_cat_le (total s) (λ t. map (ahead s e a t) (members_of (after_round m) t)) (λ t. map (ahead s e a t) (comes m t ++ stays m t))
            (λ t _. round_members m S.len (λ t l. sum (map (ahead s e a t) l) ≤ sum (map (ahead s e a t) (comes m t ++ stays m t))) (λ t. omega arith)
            (λ t _ _. omega (arith, sum_perm (map_perm (ahead s e a t) (insert_each_perm (comes m t) (stays m t))))) t),
        sum_perm (moved_perm m S (ahead s e a)),
      )

  pub ahead_never_rises : ahead_all s e a (members_of (after_round m)) ≤ ahead_all s e a (members_of m)
  unfolding ahead_all
  ahead_never_rises = omega (arith, next_le, sum_cat_le (total s) then (λ t. map (ahead s e a t) (members_of m t)) (λ t _. then_le t))

  dead_sum : (t : ℕ) → total s ≤ e t → (l : List Canister) → sum (map (ahead s e a t) l) ≡ 0
  unfolding sum
  dead_sum t h [] = refl
  dead_sum t h (c ∷ l) = omega (arith, ahead_dead s e a t c h, dead_sum t h l)

  -- some is ahead: a canister stands on a live tile
  find_live : 0 < ahead_all s e a (members_of m) → (t : ℕ) × (e t < total s) × (0 < length (members_of m t))
  unfolding ahead_all sum
  find_live h =
      let r = sum_find (total s) (λ t. map (ahead s e a t) (members_of m t)) h in
      (r.0, live r.0 r.2 (dec_le (suc (e r.0)) (total s)), full r.0 (members_of m r.0) r.2)
    where
      live : (t : ℕ) → 0 < sum (map (ahead s e a t) (members_of m t)) → Dec (e t < total s) → e t < total s
      live t p (yes q) = q
      live t p (no q) = absurd (omega (arith, dead_sum t (omega arith) (members_of m t)))

      full : (t : ℕ) (l : List Canister) → 0 < sum (map (ahead s e a t) l) → 0 < length l
      full t [] p = absurd (omega arith)
      full t (c ∷ l) p = omega arith

  pub ahead_falls : 0 < ahead_all s e a (members_of m) → ahead_all s e a (members_of (after_round m)) < ahead_all s e a (members_of m)
  unfolding ahead_all
  ahead_falls h =
      let f = find_live h in
      let w = progress (e f.0) f.0 (omega arith) f.1 f.2 in
      omega (
        arith,
        next_le,
        sum_cat_lt (total s) then (λ t. map (ahead s e a t) (members_of m t)) (λ t _. then_le t) w.0 w.1.on (omega (arith, then_moves w.0 w.1, w.2)),
      )

  -- nothing is ahead: no canister stands on a live tile
  pub ahead_none : ahead_all s e a (members_of m) ≤ 0 → (t : ℕ) → e t < total s → members_of m t ≡ []
  unfolding ahead_all sum
  ahead_none h t c = go (members_of m t) refl (by_test (is_hopper s t))
    where
      go : (l : List Canister) → members_of m t ≡ l → (is_hopper s t ≡ true) ⊎ (is_hopper s t ≡ false) → members_of m t ≡ []
      go l q (inl p) = S.hopper_empty t p
      go [] q (inr n) = q
      go (y ∷ l) q (inr n) =
          absurd (omega (
            arith,
            ahead_live s e a t y (S.off_hopper t n) c,
            sum_part (total s) (λ u. map (ahead s e a u) (members_of m u)) t (run_on m S.len t (live_runs t c)),
            ap (λ k. sum (map (ahead s e a t) k)) q,
          ))

  -- at most (C - 1) × M for each canister on a live tile
  pub ahead_bound : (live : ℕ → Bool) → ((t : ℕ) → live t ≡ true ↔ e t < total s)
      → ahead_all s e a (members_of m) ≤ (total s - 1) * crossing s * sum (cat (total s) (λ t. map (λ _. cond (live t) 1 0) (members_of m t)))
  unfolding ahead_all
  ahead_bound live is =
      omega (
        arith,
        sum_scale (total s) ((total s - 1) * crossing s) live (members_of m),
        sum_cat_le (total s) (λ t. map (ahead s e a t) (members_of m t)) (λ t. map (λ _. cond (live t) ((total s - 1) * crossing s) 0) (members_of m t))
            (λ t _. sum_mono (ahead s e a t) (λ _. cond (live t) ((total s - 1) * crossing s) 0) (members_of m t)
            (all_imp (Inside s) (λ c. ahead s e a t c ≤ cond (live t) ((total s - 1) * crossing s) 0) (members_of m t) (λ c i. each t c i (live t) refl) (S.inside t))),
      )
    where
      each : (t : ℕ) (c : Canister) → Inside s c → (b : Bool) → live t ≡ b → ahead s e a t c ≤ cond b ((total s - 1) * crossing s) 0
      each t c i true q =
          let h : e t < total s = (is t).0 q in
          omega (arith, ahead_most s e a S.measured t c i, mul-le-mul_right {m = e t} {n = total s - 1} (crossing s) (omega arith))
      each t c i false q = omega (arith, ahead_dead s e a t c (far (dec_le (suc (e t)) (total s))))
        where
          far : Dec (e t < total s) → total s ≤ e t
          far (yes h) = not_both ((is t).1 h) q
          far (no h) = omega arith
