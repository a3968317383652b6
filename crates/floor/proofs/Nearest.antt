-- Route as the papers define it is a round of routing: it takes a nearest neighbour, and keeps what the proofs above it use.
use mathlib.Core.Path.{◌≡◌, refl, sym, ap, ◌∙◌, fun_ext}
use mathlib.Core.Logic.{◌⊎◌, inl, inr, ◌≢◌}
use mathlib.Core.Bool.{Bool, true, false, cond, not, ◌||◌, false≢true}
use mathlib.Core.List.{List, [], ◌∷◌, Memᴰ}
use Prim.Native.Nat.{ℕ, suc, ◌+◌, ◌≤◌, ◌<◌}
use native.Mathlib.Omega.{arith}
use native.Mathlib.Decide.{dec_le}
use lib.Dec.{ltb, eqb}
use borrow.Author.Tests.{ltb-true, ltb-false, lt-ltb, le-ltb, eqb-true, eq-eqb}
use Rattle.laws.proofs.Tables.{tab_length}
use Rattle.laws.specs.Every.{All}
use Rattle.laws.proofs.Lists.{all_imp}
use Rattle.laws.proofs.SetBits.{bits_some}
use Rattle.floor.specs.declared.Settings.{Settings}
use Rattle.floor.specs.Sides.{by_side, sides}
use Rattle.floor.specs.Settings.{total, is_hopper, hoppers_of}
use Rattle.floor.specs.Grid.{neighbour, around}
use Rattle.floor.specs.Model.{TileState, Model, no_tile_of, tile_of, runs, runs_of_of, distance_of, next_of, token_of, members_of}
use Rattle.floor.specs.Route.{Heading, nearer, nearest, lies_at, kept, onward, heading_of, route_tile, route}
use Rattle.floor.proofs.Sound.{Measured, Sound}
use Rattle.floor.proofs.Grid.{at1, at2, at3, at4, each_side, chosen_side, side_pos}
use Rattle.floor.proofs.Tables.{Whole, off_floor, run_on, table_each}
use Rattle.floor.proofs.Routing.{Graph, Routable, Formed, Choice, Routed}

-- ---- the nearest of four
-- b is the nearest of the sides ks; `show k` is the old distance beyond side k
record Best (show : ℕ → ℕ) (ks : List ℕ) (b : Heading) : Type 0 where
  is_side : Memᴰ b.side sides
  distance_is : b.distance ≡ show b.side
  least : All (λ j. b.distance ≤ show j) ks

nearer_best : (show : ℕ → ℕ) (ks : List ℕ) (b : Heading) (k : ℕ) → Memᴰ k sides → Best show ks b → Best show (k ∷ ks) (nearer b (show k) k)
unfolding nearer
nearer_best show ks b k mk B = go (ltb (show k) b.distance) refl
  where
    go : (c : Bool) → ltb (show k) b.distance ≡ c → Best show (k ∷ ks) (cond c (record { distance = show k; side = k }) b)
    go true e =
        let h : show k < b.distance = ltb-true (show k) b.distance e in
        record { is_side = mk; distance_is = refl; least = (omega arith, all_imp (λ j. b.distance ≤ show j) (λ j. show k ≤ show j) ks (λ j q. omega arith) B.least) }
    go false e = record { is_side = B.is_side; distance_is = B.distance_is; least = (ltb-false (show k) b.distance e, B.least) }

-- of all four, in the old order of ties
abbrev first : (ℕ → ℕ) → Heading
first show = nearest (show 1) (show 2) (show 3) (show 4)

abbrev BestOf : (ℕ → ℕ) → Heading → Type 0
BestOf show b = Best show (4 ∷ 3 ∷ 2 ∷ 1 ∷ []) b

best_least : (show : ℕ → ℕ) (b : Heading) → BestOf show b → {j : ℕ} → Memᴰ j sides → b.distance ≤ show j
best_least show b B mj = let L = B.least in each_side (λ j. b.distance ≤ show j) L.1.1.1.0 L.1.1.0 L.1.0 L.0 mj

nearest_best : (show : ℕ → ℕ) → BestOf show (first show)
unfolding nearest sides
nearest_best show =
    nearer_best show (3 ∷ 2 ∷ 1 ∷ []) (nearer (nearer west (show 2) 2) (show 3) 3) 4 at4
    (nearer_best show (2 ∷ 1 ∷ []) (nearer west (show 2) 2) 3 at3 (nearer_best show (1 ∷ []) west 2 at2 (record { is_side = at1; distance_is = refl; least = (omega arith, tt) })))
  where
    west : Heading
    west = record { distance = show 1; side = 1 }

-- b is the nearest of the sides 1 to n, and every side before its own is farther
record FirstOf (show : ℕ → ℕ) (n : ℕ) (b : Heading) : Type 0 where
  upto : b.side ≤ n
  least : (j : ℕ) → 1 ≤ j → j ≤ n → b.distance ≤ show j
  earlier : (j : ℕ) → 1 ≤ j → j < b.side → b.distance < show j

nearer_first : (show : ℕ → ℕ) (n : ℕ) (b : Heading) → FirstOf show n b → FirstOf show (suc n) (nearer b (show (suc n)) (suc n))
unfolding nearer
nearer_first show n b F = go (ltb (show (suc n)) b.distance) refl
  where
    -- x is as near as b and as the new side
    both : (x : ℕ) → x ≤ b.distance → x ≤ show (suc n) → (j : ℕ) → 1 ≤ j → j ≤ suc n → Dec (j ≤ n) → x ≤ show j
    both x p q j l h (yes k) = omega (arith, F.least j l k)
    both x p q j l h (no k) = let e : suc n ≡ j = omega arith in omega (arith, ap show e)

    go : (c : Bool) → ltb (show (suc n)) b.distance ≡ c → FirstOf show (suc n) (cond c (record { distance = show (suc n); side = suc n }) b)
    go true e =
        let h = ltb-true (show (suc n)) b.distance e in
        record { upto = omega arith; least = λ j l k. both (show (suc n)) (omega arith) (omega arith) j l k (dec_le j n); earlier = λ j l k. omega (arith, F.least j l (omega arith)) }
    go false e =
        let h = ltb-false (show (suc n)) b.distance e in
        record { upto = omega (arith, F.upto); least = λ j l k. both b.distance (omega arith) h j l k (dec_le j n); earlier = F.earlier }

-- "Ties: … west, south, north, east"
nearest_first : (show : ℕ → ℕ) {j : ℕ} → Memᴰ j sides → j < (first show).side → (first show).distance < show j
unfolding nearest
nearest_first show {j} mj l =
    let one : Heading = record { distance = show 1; side = 1 } in
    let two = nearer one (show 2) 2 in
    let three = nearer two (show 3) 3 in
    (nearer_first show 3 three (nearer_first show 2 two (nearer_first show 1 one west_only))).earlier j (side_pos mj) l
  where
    west_only : FirstOf show 1 (record { distance = show 1; side = 1 })
    west_only = record { upto = omega arith; least = λ j l k. let e : 1 ≡ j = omega arith in omega (arith, ap show e); earlier = λ j l k. absurd (omega arith) }

-- ---- the present arrow, own, kept where it is one of the nearest
module _ (show : ℕ → ℕ) (own : ℕ) where
  abbrev taken : Heading
  taken = kept own (show 1) (show 2) (show 3) (show 4)

  -- whether it is
  abbrev among : Bool
  among = lies_at (show 1) (show 2) (show 3) (show 4) (first show).distance own

  among_side : among ≡ true → Memᴰ own sides × (show own ≡ (first show).distance)
  unfolding lies_at
  among_side h =
      let d = (first show).distance in
      let mo = chosen_side false (eqb (show 1) d) (eqb (show 2) d) (eqb (show 3) d) (eqb (show 4) d) own (λ q. false≢true (sym q ∙ h)) in
      (mo, each_side (λ k. by_side false (eqb (show 1) d) (eqb (show 2) d) (eqb (show 3) d) (eqb (show 4) d) k ≡ true → show k ≡ d) (eqb-true (show 1) d) (eqb-true (show 2) d) (eqb-true (show 3) d) (eqb-true (show 4) d) mo h)

  side_among : Memᴰ own sides → show own ≡ (first show).distance → among ≡ true
  unfolding lies_at
  side_among mo =
      let d = (first show).distance in
      each_side (λ k. show k ≡ d → by_side false (eqb (show 1) d) (eqb (show 2) d) (eqb (show 3) d) (eqb (show 4) d) k ≡ true) (eq-eqb (show 1) d) (eq-eqb (show 2) d) (eq-eqb (show 3) d) (eq-eqb (show 4) d) mo

  -- a property of what is taken, both ways
  by_own : (P : Heading → Type 0) → (among ≡ true → P (record { distance = (first show).distance; side = own })) → (among ≡ false → P (first show)) → P taken
  unfolding kept
  by_own P yes' no' = go among refl
    where
      go : (c : Bool) → among ≡ c → P (cond c (record { distance = (first show).distance; side = own }) (first show))
      go true e = yes' e
      go false e = no' e

  kept_best : BestOf show taken
  kept_best = by_own (BestOf show) (λ e. let w = among_side e in record { is_side = w.0; distance_is = sym w.1; least = (nearest_best show).least }) (λ _. nearest_best show)

  kept_distance : taken.distance ≡ (first show).distance
  kept_distance = by_own (λ b. b.distance ≡ (first show).distance) (λ _. refl) (λ _. refl)

  -- one of the nearest is kept
  kept_own : Memᴰ own sides → show own ≡ (first show).distance → taken.side ≡ own
  unfolding kept
  kept_own mo e = rw (side_among mo e)

  -- where it is none of them, the first in order is taken
  kept_first : (Memᴰ own sides → ((j : ℕ) → Memᴰ j sides → show own ≤ show j) → ⊥) → taken ≡ first show
  kept_first not = by_own (λ b. b ≡ first show) (λ e. let w = among_side e in absurd (not w.0 (λ j mj. omega (arith, w.1, best_least show (first show) (nearest_best show) mj)))) (λ _. refl)

-- what was taken is taken again
kept_again : (show : ℕ → ℕ) (own : ℕ) → (taken show (taken show own).side).side ≡ (taken show own).side
kept_again show own = let B = kept_best show own in kept_own show (taken show own).side B.is_side (sym B.distance_is ∙ kept_distance show own)

-- ---- one more, cut at C
onward_near : (C : ℕ) (b : Heading) → b.distance + 1 < C → onward C b ≡ record { distance = b.distance + 1; side = b.side }
unfolding onward
onward_near C b h = rw (lt-ltb (b.distance + 1) C h)

onward_far : (C : ℕ) (b : Heading) → C ≤ b.distance + 1 → onward C b ≡ record { distance = 255; side = 0 }
unfolding onward
onward_far C b h = rw (le-ltb (b.distance + 1) C h)

abbrev heading_side : Heading → ℕ
heading_side b = b.side

abbrev heading_distance_lem : Heading → ℕ
heading_distance_lem b = b.distance

module _ (C : ℕ) (show : ℕ → ℕ) where
  -- the distance does not depend on the present arrow
  onward_distance : (own other : ℕ) → (onward C (taken show own)).distance ≡ (onward C (taken show other)).distance
  onward_distance own other = go (dec_le ((first show).distance + 2) C)
    where
      go : Dec ((first show).distance + 2 ≤ C) → (onward C (taken show own)).distance ≡ (onward C (taken show other)).distance
      go (yes h) =
          ap heading_distance_lem (onward_near C (taken show own) (omega (arith, kept_distance show own))) ∙ ap (λ d. d + 1) (kept_distance show own ∙ sym (kept_distance show other))
          ∙ sym (ap heading_distance_lem (onward_near C (taken show other) (omega (arith, kept_distance show other))))
      go (no h) =
          ap heading_distance_lem (onward_far C (taken show own) (omega (arith, kept_distance show own)))
          ∙ sym (ap heading_distance_lem (onward_far C (taken show other) (omega (arith, kept_distance show other))))

  -- the arrow that a round has made, it makes again
  onward_again : (own : ℕ) → (onward C (taken show (onward C (taken show own)).side)).side ≡ (onward C (taken show own)).side
  onward_again own = go (dec_le ((first show).distance + 2) C)
    where
      y : ℕ
      y = (onward C (taken show own)).side

      go : Dec ((first show).distance + 2 ≤ C) → (onward C (taken show y)).side ≡ (onward C (taken show own)).side
      go (yes h) =
          let e : y ≡ (taken show own).side = ap heading_side (onward_near C (taken show own) (omega (arith, kept_distance show own))) in
          ap heading_side (onward_near C (taken show y) (omega (arith, kept_distance show y))) ∙ ap (λ x. (taken show x).side) e ∙ kept_again show own ∙ sym e
      go (no h) =
          ap heading_side (onward_far C (taken show y) (omega (arith, kept_distance show y)))
          ∙ sym (ap heading_side (onward_far C (taken show own) (omega (arith, kept_distance show own))))

-- ---- a tile's heading, from the running flags, old distances and old arrows of all
unfoldable heading_by : Settings → (ℕ → Bool) → (ℕ → ℕ) → (ℕ → ℕ) → ℕ → Heading
heading_by s run d a t = around s d t (heading_of s t (run t) (record { distance = d t; side = a t }))

-- the graph of the floor with these running tiles
abbrev pub graph_by : Settings → (ℕ → Bool) → Graph
graph_by s run = record { size = total s; nb = neighbour s; hop = is_hopper s; run = run }

module _ (s : Settings) (run : ℕ → Bool) (d a : ℕ → ℕ) where
  heading_fixed : (t : ℕ) → (is_hopper s t ≡ true) ⊎ (run t ≡ false) → heading_by s run d a t ≡ record { distance = d t; side = a t }
  unfolding heading_by heading_of
  heading_fixed t (inl h) = rw h
  heading_fixed t (inr r) = go (is_hopper s t)
    where
      go : (b : Bool) → cond (b || not (run t)) (record { distance = d t; side = a t }) (onward (total s) (around s d t (kept (a t)))) ≡ record { distance = d t; side = a t }
      go true = refl
      go false = rw r

  heading_free : (t : ℕ) → is_hopper s t ≡ false → run t ≡ true → heading_by s run d a t ≡ onward (total s) (around s d t (kept (a t)))
  unfolding heading_by heading_of
  heading_free t h r = rw (h, r)

  heading_choice : (t : ℕ) → is_hopper s t ≡ false → run t ≡ true → Choice (graph_by s run) d t (heading_by s run d a t).distance (heading_by s run d a t).side
  unfolding onward
  heading_choice t h r =
      let b = around s d t (kept (a t)) in
      let B = kept_best (λ k. d (neighbour s k t)) (a t) in
      record {
        side = b.side;
        is_side = B.is_side;
        least = λ j mj. omega (arith, B.distance_is, best_least (λ k. d (neighbour s k t)) b B mj);
        near = λ l. rw (heading_free t h r, lt-ltb (b.distance + 1) (total s) (omega (arith, B.distance_is))) (omega (arith, B.distance_is), refl);
        far = λ l. rw (heading_free t h r, le-ltb (b.distance + 1) (total s) (omega (arith, B.distance_is))) (refl, refl);
      }

  heading_routed : Routed (graph_by s run) d a (λ t. (heading_by s run d a t).distance) (λ t. (heading_by s run d a t).side)
  heading_routed = record { fixed = λ t h. (ap (λ (x : Heading). x.distance) (heading_fixed t h), ap (λ (x : Heading). x.side) (heading_fixed t h)); chosen = heading_choice }

  -- a tile's heading with the present arrow x; c: it is a hopper or stopped
  abbrev made : ℕ → Bool → ℕ → Heading
  made t c x = cond c (record { distance = d t; side = x }) (onward (total s) (taken (λ k. d (neighbour s k t)) x))

  -- the arrows that a round has made, it makes again from the same distances
  heading_stable : (t : ℕ) → (heading_by s run d (λ u. (heading_by s run d a u).side) t).side ≡ (heading_by s run d a t).side
  unfolding heading_by heading_of
  heading_stable t = go (is_hopper s t || not (run t))
    where
      go : (c : Bool) → (made t c (made t c (a t)).side).side ≡ (made t c (a t)).side
      go true = refl
      go false = onward_again (total s) (λ k. d (neighbour s k t)) (a t)

  -- distances do not depend on arrows
  heading_distance : (b : ℕ → ℕ) (t : ℕ) → (heading_by s run d b t).distance ≡ (heading_by s run d a t).distance
  unfolding heading_by heading_of
  heading_distance b t = go (is_hopper s t || not (run t))
    where
      go : (c : Bool) → (made t c (b t)).distance ≡ (made t c (a t)).distance
      go true = refl
      go false = onward_distance (total s) (λ k. d (neighbour s k t)) (b t) (a t)

-- ---- the floor after Route
abbrev pub graph_of : Model → Graph
graph_of m = graph_by m.settings (runs_of_of m)

pub route_whole : (m : Model) → Whole (route m)
unfolding route
route_whole m = tab_length (total m.settings) (λ t. around m.settings (distance_of m) t (route_tile m.settings t (tile_of m t)))

module _ (m : Model) (w : Whole m) where
  -- what Route keeps, and what it makes, of every tile
  route_field : {A : Type 0} (p : TileState → A) (h : ℕ → A) → ((t : ℕ) → p (around m.settings (distance_of m) t (route_tile m.settings t (tile_of m t))) ≡ h t) → ((t : ℕ) → tile_of m t ≡ no_tile_of → p no_tile_of ≡ h t) → (t : ℕ) → p (tile_of (route m) t) ≡ h t
  unfolding route
  route_field p h on off = table_each (λ t x. p x ≡ h t) (total m.settings) (λ t. around m.settings (distance_of m) t (route_tile m.settings t (tile_of m t))) (λ t _. on t) (λ t l. off t (off_floor m w t l))

  pub route_running : (t : ℕ) → (tile_of (route m) t).running ≡ (tile_of m t).running
  unfolding route_tile
  route_running = route_field (λ x. x.running) (λ t. (tile_of m t).running) (λ t. refl) (λ t e. sym (ap (λ (x : TileState). x.running) e))

  pub route_token : (t : ℕ) → token_of (route m) t ≡ token_of m t
  unfolding route_tile
  route_token = route_field (λ x. x.token) (token_of m) (λ t. refl) (λ t e. sym (ap (λ (x : TileState). x.token) e))

  pub route_members : (t : ℕ) → members_of (route m) t ≡ members_of m t
  unfolding route_tile
  route_members = route_field (λ x. x.members) (members_of m) (λ t. refl) (λ t e. sym (ap (λ (x : TileState). x.members) e))

  off_heading : (t : ℕ) → tile_of m t ≡ no_tile_of → heading_by m.settings (runs_of_of m) (distance_of m) (next_of m) t ≡ record { distance = 255; side = 0 }
  off_heading t e =
      heading_fixed m.settings (runs_of_of m) (distance_of m) (next_of m) t (inr (ap (λ (x : TileState). runs x) e))
      ∙ ap (λ (x : TileState). record { distance = x.distance; side = x.next }) e

  route_distance : (t : ℕ) → distance_of (route m) t ≡ (heading_by m.settings (runs_of_of m) (distance_of m) (next_of m) t).distance
  unfolding route_tile heading_by
  route_distance = route_field (λ x. x.distance) (λ t. (heading_by m.settings (runs_of_of m) (distance_of m) (next_of m) t).distance) (λ t. refl) (λ t e. sym (ap (λ (x : Heading). x.distance) (off_heading t e)))

  route_next : (t : ℕ) → next_of (route m) t ≡ (heading_by m.settings (runs_of_of m) (distance_of m) (next_of m) t).side
  unfolding route_tile heading_by
  route_next = route_field (λ x. x.next) (λ t. (heading_by m.settings (runs_of_of m) (distance_of m) (next_of m) t).side) (λ t. refl) (λ t e. sym (ap (λ (x : Heading). x.side) (off_heading t e)))

  -- Route is a round of routing.
  pub route_routed : Routed (graph_of m) (distance_of m) (next_of m) (distance_of (route m)) (next_of (route m))
  route_routed =
      rw (fun_ext route_distance, fun_ext route_next) (heading_routed m.settings (runs_of_of m) (distance_of m) (next_of m))

-- Once distances do not change between two rounds, arrows do not change either. `n` is the floor that the next round finds.
pub route_stable : (m n : Model) → Whole m → Whole n → n.settings ≡ m.settings → runs_of_of n ≡ runs_of_of m → distance_of n ≡ distance_of m → next_of n ≡ next_of (route m) → (t : ℕ) → next_of (route n) t ≡ next_of (route m) t
route_stable m n wm wn es er ed en t =
    route_next n wn t
    ∙ ap (λ (s : Settings). (heading_by s (runs_of_of n) (distance_of n) (next_of n) t).side) es
    ∙ ap (λ (r : ℕ → Bool). (heading_by m.settings r (distance_of n) (next_of n) t).side) er
    ∙ ap (λ (d : ℕ → ℕ). (heading_by m.settings (runs_of_of m) d (next_of n) t).side) ed
    ∙ ap (λ (a : ℕ → ℕ). (heading_by m.settings (runs_of_of m) (distance_of m) a t).side) (en ∙ fun_ext (route_next m wm))
    ∙ heading_stable m.settings (runs_of_of m) (distance_of m) (next_of m) t
    ∙ sym (route_next m wm t)

-- and so for distances, whatever the arrows
pub distance_stable : (m n : Model) → Whole m → Whole n → n.settings ≡ m.settings → runs_of_of n ≡ runs_of_of m → distance_of n ≡ distance_of m → (t : ℕ) → distance_of (route n) t ≡ distance_of (route m) t
distance_stable m n wm wn es er ed t =
    route_distance n wn t
    ∙ ap (λ (s : Settings). (heading_by s (runs_of_of n) (distance_of n) (next_of n) t).distance) es
    ∙ ap (λ (r : ℕ → Bool). (heading_by m.settings r (distance_of n) (next_of n) t).distance) er
    ∙ ap (λ (d : ℕ → ℕ). (heading_by m.settings (runs_of_of m) d (next_of n) t).distance) ed
    ∙ heading_distance m.settings (runs_of_of m) (distance_of m) (next_of m) (next_of n) t
    ∙ sym (route_distance m wm t)

-- ---- which of the nearest neighbours is taken, of a tile whose new distance is not none
module _ (m : Model) (w : Whole m) (t : ℕ) (off : is_hopper m.settings t ≡ false) (run : runs_of_of m t ≡ true) (some : distance_of (route m) t ≢ 255) where
  abbrev shows : ℕ → ℕ
  shows k = distance_of m (neighbour m.settings k t)

  abbrev chosen : Heading
  chosen = taken shows (next_of m t)

  next_is : next_of (route m) t ≡ chosen.side
  next_is = go (dec_le (chosen.distance + 2) (total m.settings))
    where
      free : heading_by m.settings (runs_of_of m) (distance_of m) (next_of m) t ≡ onward (total m.settings) chosen
      free = heading_free m.settings (runs_of_of m) (distance_of m) (next_of m) t off run

      go : Dec (chosen.distance + 2 ≤ total m.settings) → next_of (route m) t ≡ chosen.side
      go (yes h) = route_next m w t ∙ ap heading_side (free ∙ onward_near (total m.settings) chosen (omega arith))
      go (no h) = absurd (some (route_distance m w t ∙ ap heading_distance_lem (free ∙ onward_far (total m.settings) chosen (omega arith))))

  pub route_nearest : Memᴰ (next_of (route m) t) sides × ((j : ℕ) → Memᴰ j sides → shows (next_of (route m) t) ≤ shows j)
  route_nearest =
      let B = kept_best shows (next_of m t) in
      rw next_is (B.is_side, λ j mj. omega (arith, B.distance_is, best_least shows chosen B mj))

  pub route_keeps : Memᴰ (next_of m t) sides → ((j : ℕ) → Memᴰ j sides → shows (next_of m t) ≤ shows j) → next_of (route m) t ≡ next_of m t
  route_keeps mo least =
      let B = nearest_best shows in
      next_is ∙ kept_own shows (next_of m t) mo (omega (arith, B.distance_is, least (first shows).side B.is_side, best_least shows (first shows) B mo))

  pub route_ties : (Memᴰ (next_of m t) sides → ((j : ℕ) → Memᴰ j sides → shows (next_of m t) ≤ shows j) → ⊥) → (j : ℕ) → Memᴰ j sides → j < next_of (route m) t → shows (next_of (route m) t) < shows j
  route_ties not j mj l =
      let q : next_of (route m) t ≡ (first shows).side = next_is ∙ ap heading_side (kept_first shows (next_of m t) not) in
      omega (arith, ap shows q, (nearest_best shows).distance_is, nearest_first shows mj (omega (arith, q)))

some_hopper : (s : Settings) → Measured s → (t : ℕ) × (is_hopper s t ≡ true)
unfolding is_hopper hoppers_of
some_hopper s M = bits_some s.hoppers (total s) M.hoppers_some

-- ---- a sound floor is laid out for routing, its distances are formed
pub routable : (m : Model) → Sound m → Routable (graph_of m)
routable m S = record {
  small = omega (arith, S.measured.few);
  hop_runs = S.hopper_runs;
  run_on = run_on m S.len;
  some = some_hopper m.settings S.measured;
}

pub formed : (m : Model) → Sound m → Formed (graph_of m) (distance_of m)
formed m S = record { at_hop = S.hopper_distance; off_hop = S.off_hopper; stopped = S.stop_distance; capped = S.capped }
