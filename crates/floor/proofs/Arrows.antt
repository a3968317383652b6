-- The arrow keeps its side, and stays once a round changes no distance; that is after C - 1 rounds. The statements are in specs/Arrows.
use mathlib.Core.Path.{◌≡◌, refl, sym, ap, ◌∙◌, subst, fun_ext}
use mathlib.Core.Logic.{◌⊎◌, inl, inr, ◌≢◌}
use mathlib.Core.Bool.{true, false, cond}
use mathlib.Core.List.{List, [], ◌∷◌, Memᴰ}
use Prim.Native.Nat.{ℕ, suc, ◌+◌, ◌≤◌, ◌<◌}
use native.Mathlib.Omega.{arith}
use native.Mathlib.Decide.{ℕ_discrete}
use lib.Seq.{get_or-set_same, get_or-set_other}
use borrow.Author.Tests.{eqb-false, leb-false}
use Rattle.laws.specs.Every.{All}
use Rattle.laws.proofs.Tests.{by_test}
use Rattle.floor.specs.declared.Canister.{Canister}
use Rattle.floor.specs.declared.Settings.{Settings}
use Rattle.floor.specs.declared.Floor.{Floor}
use Rattle.floor.specs.Sides.{sides}
use Rattle.floor.specs.Settings.{total, is_hopper}
use Rattle.floor.specs.Grid.{neighbour}
use Rattle.floor.specs.Model.{TileState, Model, no_tile_of, tile_of, runs, runs_of_of, distance_of, next_of, members_of, with_layouts, with_members}
use Rattle.floor.specs.Memory.{view, pack}
use Rattle.floor.specs.Well.{well_formed}
use Rattle.floor.specs.Route.{route}
use Rattle.floor.specs.Move.{insert}
use Rattle.floor.specs.Calls.{book_tests, booked, after_round}
use Rattle.floor.specs.Demand3.{Call, book, anywhere, stop, repair, round, keep, forget, recall, list, InRange, outcome, floor_after, changes_running, is_round, rounds_in}
use Rattle.floor.specs.CommutingCalls.{Books, placed, unplaced}
use Rattle.floor.specs.Arrows.{beyond, FacesNearest, Chooses, RunningUnchanged, Steady, Resting, Arrows, Settling, ArrowRule}
use Rattle.floor.proofs.Sound.{Sound}
use Rattle.floor.proofs.Pack.{well_sound}
use Rattle.floor.proofs.Rows.{view_settings}
use Rattle.floor.proofs.Routing.{Graph, RightTo, right_all, right_start}
use Rattle.floor.proofs.Nearest.{graph_by, graph_of, route_routed, route_stable, distance_stable, route_nearest, route_keeps, route_ties, routable, formed}
use Rattle.floor.proofs.Fields.{round_settings, round_runs, round_distance, round_next}
use Rattle.floor.proofs.Passing.{arrow_at}
use Rattle.floor.proofs.Progress.{same_distance}
use Rattle.floor.proofs.Clearing.{right_round}
use Rattle.floor.proofs.Lists.{view_round, through_list, call_keeps, call_refused, Relaid, relaid_keep, relaid_forget, relaid_recall, list_keeps}
use Rattle.floor.proofs.GuardedCalls.{by_form, new_view, canister_of, booking_accepts, book_form, book_answers}

-- n has the settings, running tiles and distances of m, and the arrows a
record Shows (m : Model) (a : ℕ → ℕ) (n : Model) : Type 0 where
  settings : n.settings ≡ m.settings
  runs : runs_of_of n ≡ runs_of_of m
  distance : distance_of n ≡ distance_of m
  next : next_of n ≡ a

abbrev Alike : Model → Model → Type 0
Alike m n = Shows m (next_of m) n

alike_after : {m n o : Model} {a : ℕ → ℕ} → Alike n o → Shows m a n → Shows m a o
alike_after A E = record { settings = A.settings ∙ E.settings; runs = A.runs ∙ E.runs; distance = A.distance ∙ E.distance; next = A.next ∙ E.next }

-- ---- a list without an accepted stop or repair: rounds, and changes of canisters and layouts alone
booked_alike : (m : Model) → Sound m → (u : ℕ) (b : Canister) → u < total m.settings → Alike m (booked m u b)
unfolding booked
booked_alike m S u b on = record { settings = refl; runs = fun_ext (same runs (λ x l. refl)); distance = fun_ext (same (λ x. x.distance) (λ x l. refl)); next = fun_ext (same (λ x. x.next) (λ x l. refl)) }
  where
    new : TileState
    new = with_members (tile_of m u) (insert b (members_of m u))

    same : {A : Type 0} (p : TileState → A) → ((x : TileState) (l : List Canister) → p (with_members x l) ≡ p x) → (t : ℕ) → p (tile_of (booked m u b) t) ≡ p (tile_of m t)
    same p h t = go (ℕ_discrete t u)
      where
        go : Dec (t ≡ u) → p (tile_of (booked m u b) t) ≡ p (tile_of m t)
        go (yes e) = rw (e, get_or-set_same m.tiles u new no_tile_of (omega (arith, S.len))) (h (tile_of m u) (insert b (members_of m u)))
        go (no n) = rw (get_or-set_other m.tiles u t new no_tile_of n)

-- I n: what holds after n rounds; changes of canisters and layouts keep it
module _ (I : ℕ → Model → Type 0) (alike : (n : ℕ) (m o : Model) → Alike m o → I n m → I n o) (turn : (n : ℕ) (m : Model) → Sound m → I n m → I (suc n) (after_round m)) where
  no_round : (n : ℕ) (m : Model) → I n m → I (n + 0) m
  no_round n m i = let e : n ≡ n + 0 = omega arith in subst (λ k. I k m) e i

  refused : (n : ℕ) (g : Floor) (w : well_formed g ≡ true) (c : Call) → is_round c ≡ false → (outcome g c).refusal ≢ 0 → I n (view g) → I (n + 0) (view (outcome g c).floor)
  refused n g w c r q i = subst (λ (x : Floor). I (n + 0) (view x)) (sym (call_refused g w c r q)) (no_round n (view g) i)

  -- other layouts
  relaid : (n : ℕ) (g : Floor) (w : well_formed g ≡ true) (c : Call) → Relaid g w c → I n (view g) → I (n + 0) (view (outcome g c).floor)
  relaid n g w c R i = no_round n (view (outcome g c).floor) (subst (I n) (sym R.1) (alike n (view g) (with_layouts (view g) R.0) (record { settings = refl; runs = refl; distance = refl; next = refl }) i))

  -- a booking of either sort
  books : (n : ℕ) (g : Floor) (w : well_formed g ≡ true) (u : ℕ) {c : Call} (p : Books u c) → InRange c → I n (view g) → I n (view (outcome g c).floor)
  unfolding book_tests
  books n g w u {c} p h i =
      let F = book_form p h in
      let b = canister_of p (view g) in
      subst (λ (x : Floor). I n (view x)) (sym ((book_answers p h).floor g))
      (by_form F g w (λ c. I n (view (cond c (pack (booked (view g) u b)) g)))
      (λ A. subst (I n) (sym (new_view F g w A)) (alike n (view g) (booked (view g) u b) (booked_alike (view g) (well_sound g w) u b (leb-false (total (view g).settings) u (booking_accepts p (view g) A).0)) i))
      i)

  step : (n : ℕ) (g : Floor) (w : well_formed g ≡ true) (c : Call) → InRange c → changes_running g c ≡ false → I n (view g) → I (n + cond (is_round c) 1 0) (view (outcome g c).floor)
  unfolding changes_running
  step n g w (book u b) h q i = no_round n (view (outcome g (book u b)).floor) (books n g w u (placed b) h i)
  step n g w (anywhere u number) h q i = no_round n (view (outcome g (anywhere u number)).floor) (books n g w u (unplaced number) h i)
  step n g w (stop u) h q i = refused n g w (stop u) refl (eqb-false (outcome g (stop u)).refusal 0 q) i
  step n g w (repair u) h q i = refused n g w (repair u) refl (eqb-false (outcome g (repair u)).refusal 0 q) i
  step n g w round h q i =
      let e : suc n ≡ n + 1 = omega arith in
      subst (λ k. I k (view (outcome g round).floor)) e (subst (I (suc n)) (sym (view_round g w round refl)) (turn n (view g) (well_sound g w) i))
  step n g w (keep name) h q i = relaid n g w (keep name) (relaid_keep g w name) i
  step n g w (forget name) h q i = relaid n g w (forget name) (relaid_forget g w name) i
  step n g w (recall name) h q i = relaid n g w (recall name) (relaid_recall g w name q) i
  step n g w (list l) h q i = no_round n (view (outcome g (list l)).floor) (through_list (λ x. I n (view x)) (λ x k u b j p. books n x k u (placed b) j p) g w l h i)

  through : (n : ℕ) (g : Floor) → well_formed g ≡ true → (cs : List Call) → All InRange cs → RunningUnchanged g cs → I n (view g) → I (n + rounds_in cs) (view (floor_after g cs))
  unfolding floor_after
  through n g w [] h q i = no_round n (view g) i
  through n g w (c ∷ cs) h q i =
      let e : n + cond (is_round c) 1 0 + rounds_in cs ≡ n + (cond (is_round c) 1 0 + rounds_in cs) = omega arith in
      subst (λ k. I k (view (floor_after g (c ∷ cs)))) e
      (through (n + cond (is_round c) 1 0) (outcome g c).floor (call_keeps g w c h.0).0 cs h.1 q.1 (step n g w c h.0 q.0 i))

-- ---- one round
module _ (m : Model) (S : Sound m) (t : ℕ) (off : is_hopper m.settings t ≡ false) (some : distance_of (route m) t ≢ 255) where
  running : runs_of_of m t ≡ true
  running = go (by_test (runs_of_of m t))
    where
      go : (runs_of_of m t ≡ true) ⊎ (runs_of_of m t ≡ false) → runs_of_of m t ≡ true
      go (inl r) = r
      go (inr r) = absurd (some (((route_routed m S.len).fixed t (inr r)).0 ∙ S.stop_distance t r))

  new_nearest : FacesNearest m t (next_of (route m) t)
  new_nearest = let N = route_nearest m S.len t off running some in record { side = N.0; least = N.1 }

  new_chosen : (n : Model) → next_of n t ≡ next_of (route m) t → Chooses m n t
  new_chosen n e = record {
    nearest = subst (FacesNearest m t) (sym e) new_nearest;
    keeps = λ N. e ∙ route_keeps m S.len t off running some N.side N.least;
    ties = λ not j mj l. subst (λ k. beyond m t k < beyond m t j) (sym e) (route_ties m S.len t off running some (λ mo least. not (record { side = mo; least = least })) j mj (omega (arith, e)));
  }

-- ---- arrows that rest: n has the distances of m, which a round does not change, and the arrows that it makes of them
record Rests (m n : Model) : Type 0 where
  sound : Sound m
  steady : distance_of (route m) ≡ distance_of m
  shows : Shows m (next_of (route m)) n

module _ {m n : Model} (R : Rests m n) where
  S : Sound m
  S = R.sound

  E : Shows m (next_of (route m)) n
  E = R.shows

  rests_alike : (o : Model) → Alike n o → Rests m o
  rests_alike o A = record { sound = S; steady = R.steady; shows = alike_after A E }

  rests_round : Sound n → Rests m (after_round n)
  rests_round T = record {
    sound = S;
    steady = R.steady;
    shows = record {
      settings = round_settings n ∙ E.settings;
      runs = fun_ext (round_runs n T.len) ∙ E.runs;
      distance = fun_ext (λ t. round_distance n T.len t ∙ distance_stable m n S.len T.len E.settings E.runs E.distance t) ∙ R.steady;
      next = fun_ext (λ t. round_next n T.len t ∙ route_stable m n S.len T.len E.settings E.runs E.distance E.next t);
    };
  }

  rests_face : (t : ℕ) → next_of n t ≢ 0 → FacesNearest n t (next_of n t)
  rests_face t z =
      let A = arrow_at m S t (omega (arith, ap (λ (a : ℕ → ℕ). a t) E.next)) in
      let N = new_nearest m S t A.off_hop (λ e. absurd (omega (arith, A.below, S.measured.few))) in
      record {
        side = subst (λ (a : ℕ → ℕ). Memᴰ (a t) sides) (sym E.next) N.side;
        least = λ j mj.
            subst (λ (a : ℕ → ℕ). beyond n t (a t) ≤ beyond n t j) (sym E.next)
            (subst (λ (d : ℕ → ℕ). d (neighbour n.settings (next_of (route m) t) t) ≤ d (neighbour n.settings j t)) (sym E.distance)
            (subst (λ (s : Settings). distance_of m (neighbour s (next_of (route m) t) t) ≤ distance_of m (neighbour s j t)) (sym E.settings) (N.least j mj)));
      }

-- a round from a floor whose distances it does not change
rests_new : (m : Model) → Sound m → ((t : ℕ) → distance_of (route m) t ≡ distance_of m t) → Rests m (after_round m)
rests_new m S steady = record {
  sound = S;
  steady = fun_ext steady;
  shows = record { settings = round_settings m; runs = fun_ext (round_runs m S.len); distance = fun_ext (λ t. round_distance m S.len t ∙ steady t); next = fun_ext (round_next m S.len) };
}

resting : (f : Floor) → well_formed f ≡ true → (m : Model) → Rests m (view f) → Resting f
resting f w m R = record { faces = λ cs h q t z. rests_face (along cs h q) t z; stays = λ cs h q t. ap (λ (a : ℕ → ℕ). a t) ((along cs h q).shows.next ∙ sym R.shows.next) }
  where
    along : (cs : List Call) → All InRange cs → RunningUnchanged f cs → Rests m (view (floor_after f cs))
    along cs h q = through (λ _ n. Rests m n) (λ _ n o A Q. rests_alike Q o A) (λ _ n T Q. rests_round Q T) 0 f w cs h q R

-- ---- how long it takes: after n rounds distances up to n are right; after C rounds arrows rest
record Near (n : ℕ) (m : Model) : Type 0 where
  right : RightTo (graph_of m) n (distance_of m)
  rest : total m.settings ≤ n → (o : Model) × Rests o m

near_steady : (n : ℕ) (m : Model) → Sound m → Near n m → total m.settings ≤ suc n → (t : ℕ) → distance_of (route m) t ≡ distance_of m t
near_steady n m S N h = same_distance m S (right_all (graph_of m) n h N.right)

near_alike : (n : ℕ) (m o : Model) → Alike m o → Near n m → Near n o
near_alike n m o A N = record {
  right = subst (λ (g : Graph). RightTo g n (distance_of o)) (ap (λ (s : Settings). graph_by s (runs_of_of m)) (sym A.settings) ∙ ap (graph_by o.settings) (sym A.runs))
      (subst (RightTo (graph_of m) n) (sym A.distance) N.right);
  rest = λ h. let R = N.rest (omega (arith, ap total A.settings)) in (R.0, rests_alike R.1 o A);
}

near_round : (n : ℕ) (m : Model) → Sound m → Near n m → Near (suc n) (after_round m)
near_round n m S N = record { right = right_round n m S N.right; rest = λ h. (m, rests_new m S (near_steady n m S N (omega (arith, ap total (round_settings m))))) }

near_start : (m : Model) → Sound m → Near 0 m
near_start m S = record { right = right_start (graph_of m) (routable m S) (formed m S); rest = λ h. absurd (omega (arith, S.measured.two)) }

-- ---- for every well-formed floor in memory
module _ (f : Floor) (w : well_formed f ≡ true) where
  abbrev after : Floor
  after = (outcome f round).floor

  sound : Sound (view f)
  sound = well_sound f w

  round_shown : view after ≡ after_round (view f)
  round_shown = view_round f w round refl

  distance_shown : (t : ℕ) → distance_of (view after) t ≡ distance_of (route (view f)) t
  distance_shown t = ap (λ (m : Model). distance_of m t) round_shown ∙ round_distance (view f) sound.len t

  next_shown : (t : ℕ) → next_of (view after) t ≡ next_of (route (view f)) t
  next_shown t = ap (λ (m : Model). next_of m t) round_shown ∙ round_next (view f) sound.len t

  chosen_arrows : Arrows f
  unfolding view
  chosen_arrows = record {
    after = after;
    is_after = refl;
    chooses = λ t off some. new_chosen (view f) sound t off (λ e. some (distance_shown t ∙ e)) (view after) (next_shown t);
    rests = λ s. resting after (call_keeps f w round tt).0 (view f) (subst (Rests (view f)) (sym round_shown) (rests_new (view f) sound (λ t. sym (distance_shown t) ∙ s t)));
  }

module _ (f : Floor) (w : well_formed f ≡ true) (cs : List Call) (in_range : All InRange cs) (calm : RunningUnchanged f cs) where
  abbrev now : Floor
  now = floor_after f cs

  well : well_formed now ≡ true
  well = (list_keeps f w cs in_range).0

  size : total (view now).settings ≡ total f.settings
  size = ap total ((list_keeps f w cs in_range).1.same_settings ∙ view_settings f)

  near : Near (0 + rounds_in cs) (view now)
  near = through Near near_alike near_round 0 f w cs in_range calm (near_start (view f) (well_sound f w))

  list_steady : total f.settings ≤ suc (rounds_in cs) → Steady now
  list_steady h t = distance_shown now well t ∙ near_steady (0 + rounds_in cs) (view now) (well_sound now well) near (omega (arith, size)) t

  list_rests : total f.settings ≤ rounds_in cs → Resting now
  list_rests h = let R = near.rest (omega (arith, size)) in resting now well R.0 R.1

settling : (f : Floor) → well_formed f ≡ true → Settling f
settling f w = record { steady = λ cs h q l. list_steady f w cs h q (omega arith); rests = list_rests f w }

pub arrows : ArrowRule
arrows f w = (chosen_arrows f w, settling f w)
