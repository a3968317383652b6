-- After (C - 1) × (1 + K × M) rounds no canister stands on a tile with a live path.
use mathlib.Core.Path.{◌≡◌, refl, sym, ap, ◌∙◌, subst, fun_ext}
use mathlib.Core.Logic.{◌↔◌}
use mathlib.Core.Bool.{Bool, true, false, cond}
use mathlib.Core.List.{List, [], map, Memᴰ}
use Prim.Native.Nat.{ℕ, zero, suc, ◌+◌, ◌-◌, ◌*◌, ◌≤◌, ◌<◌}
use native.Mathlib.Omega.{arith}
use native.Mathlib.Nat.{mul-le-mul_left}
use native.Mathlib.Decide.{dec_le}
use lib.ListN.{length, length-append}
use Rattle.laws.specs.Define.{cat, sum}
use Rattle.laws.proofs.Tests.{same_test}
use Rattle.laws.proofs.Lists.{sum_append, sum_const}
use Rattle.floor.specs.declared.Canister.{Canister}
use Rattle.floor.specs.declared.Settings.{Settings}
use Rattle.floor.specs.Sides.{sides}
use Rattle.floor.specs.Settings.{total}
use Rattle.floor.specs.Grid.{neighbour}
use Rattle.floor.specs.Model.{Model, runs_of_of, distance_of, next_of, members_of}
use Rattle.floor.specs.Route.{route}
use Rattle.floor.specs.Calls.{after_round}
use Rattle.floor.specs.Bound.{crossing, bound}
use Rattle.floor.specs.Live.{LivePath, connected, connected_count}
use Rattle.floor.proofs.Sound.{Sound}
use Rattle.floor.proofs.Routing.{Graph, RightTo, Right, right_all, right_start, right_next, right_reach}
use Rattle.floor.proofs.Nearest.{graph_by, graph_of, route_routed, route_stable, routable, formed}
use Rattle.floor.proofs.Paths.{connected_reach, live_iff, live_neighbours}
use Rattle.floor.proofs.Fields.{way_at_lem, round_settings, round_whole, round_runs, round_distance, round_next}
use Rattle.floor.proofs.Kept.{round_sound}
use Rattle.floor.proofs.Progress.{ahead_all, weight_falls, same_distance, ahead_never_rises, ahead_falls, ahead_none, ahead_bound}

-- ---- n rounds
unfoldable pub rounds : ℕ → Model → Model
rounds zero m = m
rounds (suc n) m = rounds n (after_round m)

rounds_add : (n k : ℕ) (m : Model) → rounds (n + k) m ≡ rounds k (rounds n m)
unfolding rounds
rounds_add zero k m = ap (λ x. rounds x m) zero_plus
  where
    zero_plus : 0 + k ≡ k
    zero_plus = omega arith
rounds_add (suc n) k m = ap (λ x. rounds x m) (suc_plus n) ∙ rounds_add n k (after_round m)
  where
    suc_plus : (n : ℕ) → suc n + k ≡ suc (n + k)
    suc_plus n = omega arith

pub rounds_sound : (n : ℕ) (m : Model) → Sound m → Sound (rounds n m)
unfolding rounds
rounds_sound zero m S = S
rounds_sound (suc n) m S = rounds_sound n (after_round m) (round_sound m S)

pub rounds_settings : (n : ℕ) (m : Model) → (rounds n m).settings ≡ m.settings
unfolding rounds
rounds_settings zero m = refl
rounds_settings (suc n) m = rounds_settings n (after_round m) ∙ round_settings m

-- the graph stays
graph_round : (m : Model) → Sound m → graph_of (after_round m) ≡ graph_of m
graph_round m S =
    ap (λ (s : Settings). graph_by s (runs_of_of (after_round m))) (round_settings m) ∙ ap (λ (r : ℕ → Bool). graph_by m.settings r) (fun_ext (round_runs m S.len))

graph_rounds : (n : ℕ) (m : Model) → Sound m → graph_of (rounds n m) ≡ graph_of m
unfolding rounds
graph_rounds zero m S = refl
graph_rounds (suc n) m S = graph_rounds n (after_round m) (round_sound m S) ∙ graph_round m S

-- ---- distances settle
pub right_round : (k : ℕ) (m : Model) → Sound m → RightTo (graph_of m) k (distance_of m) → RightTo (graph_of (after_round m)) (suc k) (distance_of (after_round m))
right_round k m S I =
    subst (λ (g : Graph). RightTo g (suc k) (distance_of (after_round m))) (sym (graph_round m S))
    (subst (λ (d : ℕ → ℕ). RightTo (graph_of m) (suc k) d) (sym (fun_ext (round_distance m S.len))) (right_next (graph_of m) (routable m S) (formed m S) (route_routed m S.len) k I))

right_rounds : (n k : ℕ) (m : Model) → Sound m → RightTo (graph_of m) k (distance_of m) → RightTo (graph_of (rounds n m)) (n + k) (distance_of (rounds n m))
unfolding rounds
right_rounds zero k m S I t j h = I t j (omega arith)
right_rounds (suc n) k m S I t j h = right_rounds n (suc k) (after_round m) (round_sound m S) (right_round k m S I) t j (omega arith)

abbrev pub Settled : Model → Type 0
Settled m = Right (graph_of m) (distance_of m)

-- after C - 1 rounds distances are right, and they stay so
pub settles : (m : Model) → Sound m → Settled (rounds (total m.settings - 1) m)
settles m S =
    let n = total m.settings - 1 in
    right_all (graph_of (rounds n m)) (n + 0) (omega (arith, ap (λ (s : Settings). total s) (rounds_settings n m))) (right_rounds n 0 m S (right_start (graph_of m) (routable m S) (formed m S)))

module _ (m : Model) (S : Sound m) (T : Settled m) where
  distance_round : distance_of (after_round m) ≡ distance_of m
  distance_round = fun_ext (λ t. round_distance m S.len t ∙ same_distance m S T t)

  pub settled_round : Settled (after_round m)
  settled_round =
      subst (λ (g : Graph). Right g (distance_of (after_round m))) (sym (graph_round m S)) (subst (λ (d : ℕ → ℕ). Right (graph_of m) d) (sym distance_round) T)

  arrow_round : next_of (route (after_round m)) ≡ next_of (route m)
  arrow_round = fun_ext (route_stable m (after_round m) S.len (round_whole m) (round_settings m) (fun_ext (round_runs m S.len)) distance_round (fun_ext (round_next m S.len)))

-- ---- the moves ahead on a settled floor
potential : Model → ℕ
potential m = ahead_all m.settings (distance_of m) (next_of (route m)) (members_of m)

potential_round : (m : Model) → Sound m → Settled m → potential (after_round m) ≡ ahead_all m.settings (distance_of m) (next_of (route m)) (members_of (after_round m))
unfolding potential
potential_round m S T =
    let l = members_of (after_round m) in
    ap (λ (s : Settings). ahead_all s (distance_of (after_round m)) (next_of (route (after_round m))) l) (round_settings m)
    ∙ ap (λ (e : ℕ → ℕ). ahead_all m.settings e (next_of (route (after_round m))) l) (distance_round m S T)
    ∙ ap (λ (a : ℕ → ℕ). ahead_all m.settings (distance_of m) a l) (arrow_round m S T)

potential_less : (m : Model) → Sound m → Settled m → (n : ℕ) → potential m ≤ suc n → potential (after_round m) ≤ n
unfolding potential
potential_less m S T n h = go (dec_le 1 (potential m))
  where
    go : Dec (0 < potential m) → potential (after_round m) ≤ n
    go (yes p) = omega (arith, potential_round m S T, ahead_falls m S T p)
    go (no p) = omega (arith, potential_round m S T, ahead_never_rises m S T)

clears : (n : ℕ) (m : Model) → Sound m → Settled m → potential m ≤ n → (t : ℕ) → distance_of m t < total m.settings → members_of (rounds n m) t ≡ []
unfolding rounds potential
clears zero m S T h t c = ahead_none m S T h t c
clears (suc n) m S T h t c =
    clears n (after_round m) (round_sound m S) (settled_round m S T) (potential_less m S T n h) t
    (subst (λ (s : Settings). distance_of (after_round m) t < total s) (sym (round_settings m)) (subst (λ (d : ℕ → ℕ). d t < total m.settings) (sym (distance_round m S T)) c))

-- ---- K does not grow
weight : (ℕ → ℕ) → Model → ℕ
weight w m = sum (cat (total m.settings) (λ t. map (λ _. w t) (members_of m t)))

-- a number for each tile that does not rise from a running tile to a running neighbour
abbrev Slope : Graph → (ℕ → ℕ) → Type 0
Slope g w = (u k : ℕ) → Memᴰ k sides → g.run u ≡ true → g.run (g.nb k u) ≡ true → w (g.nb k u) ≤ w u

weight_rounds : (w : ℕ → ℕ) (n : ℕ) (m : Model) → Sound m → Slope (graph_of m) w → weight w (rounds n m) ≤ weight w m
unfolding rounds weight
weight_rounds w zero m S L = omega arith
weight_rounds w (suc n) m S L =
    omega (
      arith,
      weight_rounds w n (after_round m) (round_sound m S) (subst (λ (g : Graph). Slope g w) (sym (graph_round m S)) L),
      ap (λ (s : Settings). sum (cat (total s) (λ t. map (λ _. w t) (members_of (after_round m) t)))) (round_settings m),
      weight_falls m S w (λ u M. L u (way_at_lem m u) M.side M.runs M.ahead),
    )

count_weight : (p : ℕ → Bool) (l : ℕ → List Canister) (n : ℕ) → length (cat n (λ t. cond (p t) (l t) [])) ≡ sum (cat n (λ t. map (λ _. cond (p t) 1 0) (l t)))
unfolding cat sum
count_weight p l zero = refl
count_weight p l (suc n) =
    omega (arith, length-append (cond (p n) (l n) []) (cat n (λ t. cond (p t) (l t) [])), sum_append (map (λ _. cond (p n) 1 0) (l n)) (cat n (λ t. map (λ _. cond (p t) 1 0) (l t))), count_weight p l n, one (p n))
  where
    one : (b : Bool) → length (cond b (l n) []) ≡ sum (map (λ _. cond b 1 0) (l n))
    one true = omega (arith, sum_const 1 (l n))
    one false = omega (arith, sum_const 0 (l n))

enough : (c k m n w p : ℕ) → c * (1 + k * m) ≤ n → p ≤ c * m * w → w ≤ k → (n ≡ c + (n - c)) × (p ≤ n - c)
enough c k m n w p h q r =
    let x : c * m * w ≤ c * m * k = mul-le-mul_left (c * m) r in
    let y : c + c * m * k ≤ n = omega arith in
    (omega arith, omega arith)

module _ (m : Model) (S : Sound m) where
  abbrev live : ℕ → Bool
  live = connected m.settings (runs_of_of m)

  -- of two running neighbours both have a live path or neither
  pub same_live : (u k : ℕ) → Memᴰ k sides → runs_of_of m u ≡ true → runs_of_of m (neighbour m.settings k u) ≡ true → live (neighbour m.settings k u) ≡ live u
  same_live u k mk r q =
      let x = neighbour m.settings k u in
      let L = routable m S in
      let both = live_neighbours m.settings (runs_of_of m) L S.measured.rows_pos mk u r q in
      same_test (live x) (live u)
      (λ h. (live_iff m.settings (runs_of_of m) L u).0 (both.1 ((live_iff m.settings (runs_of_of m) L x).1 h)))
      (λ h. (live_iff m.settings (runs_of_of m) L x).0 (both.0 ((live_iff m.settings (runs_of_of m) L u).1 h)))

  mark : ℕ → ℕ
  mark t = cond (live t) 1 0

  live_slope : Slope (graph_of m) mark
  unfolding mark
  live_slope u k mk r q = omega (arith, ap (λ (b : Bool). cond {A = ℕ} b 1 0) (same_live u k mk r q))

  count_is : (n : ℕ) → connected_count (rounds n m) (runs_of_of m) ≡ weight mark (rounds n m)
  unfolding connected_count weight mark
  count_is n =
      count_weight (connected (rounds n m).settings (runs_of_of m)) (members_of (rounds n m)) (total (rounds n m).settings)
      ∙ ap (λ (s : Settings). sum (cat (total (rounds n m).settings) (λ t. map (λ _. cond (connected s (runs_of_of m) t) 1 0) (members_of (rounds n m) t)))) (rounds_settings n m)

  -- Without bookings, stops and repairs the canisters on live tiles never become more.
  pub count_never_rises : (n : ℕ) → connected_count (rounds n m) (runs_of_of m) ≤ connected_count m (runs_of_of m)
  unfolding rounds
  count_never_rises n = omega (arith, count_is n, count_is 0, weight_rounds mark n m S live_slope)

  -- the floor when distances have settled
  calm : Model
  calm = rounds (total m.settings - 1) m

  calm_live : (t : ℕ) → live t ≡ true ↔ distance_of calm t < total calm.settings
  unfolding calm
  calm_live t =
      let n = total m.settings - 1 in
      let R : Right (graph_of m) (distance_of calm) = subst (λ (g : Graph). Right g (distance_of calm)) (graph_rounds n m S) (settles m S) in
      let W = right_reach (graph_of m) (routable m S) R t in
      let C = connected_reach m.settings (runs_of_of m) (routable m S) t in
      subst (λ (s : Settings). live t ≡ true ↔ distance_of calm t < total s) (sym (rounds_settings n m)) (λ h. W.1 (sym C ∙ h), λ h. C ∙ W.0 h)

  -- Cleared: the bound of demand 3.
  pub cleared : (n : ℕ) → bound m.settings (connected_count m (runs_of_of m)) ≤ n → (t : ℕ) → LivePath m.settings (runs_of_of m) t → members_of (rounds n m) t ≡ []
  unfolding bound calm weight mark potential
  cleared n h t p =
      let c = total m.settings - 1 in
      let SC = rounds_sound c m S in
      let low = ahead_bound (rounds c m) SC (settles m S) live calm_live in
      let low2 : potential (rounds c m) ≤ c * crossing m.settings * weight mark (rounds c m) =
      subst (λ (s : Settings). potential (rounds c m) ≤ (total s - 1) * crossing s * weight mark (rounds c m)) (rounds_settings c m) low in
      let K = connected_count m (runs_of_of m) in
      let r = enough c K (crossing m.settings) n (weight mark (rounds c m)) (potential (rounds c m)) h low2 (omega (arith, count_is c, count_never_rises c)) in
      ap (λ (x : ℕ). members_of (rounds x m) t) r.0
      ∙ ap (λ (g : Model). members_of g t) (rounds_add c (n - c) m)
      ∙ clears (n - c) (rounds c m) SC (settles m S) r.1 t ((calm_live t).0 ((live_iff m.settings (runs_of_of m) (routable m S) t).0 p))
