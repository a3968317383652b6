-- A round keeps a floor sound.
use mathlib.Core.Path.{◌≡◌, refl, sym, ap, ◌∙◌, subst}
use mathlib.Core.Logic.{◌⊎◌, inl, inr, ◌↔◌, ◌≢◌}
use mathlib.Core.Bool.{true, false}
use mathlib.Core.List.Permᴰ
use mathlib.Core.List.{List, []}
use Prim.Native.Nat.{ℕ, suc, ◌+◌, ◌≤◌, ◌<◌}
use native.Mathlib.Omega.{arith}
use native.Mathlib.Decide.{dec_le}
use lib.ListN.{length, get_or, length-append, get_or-eq_default}
use Rattle.laws.specs.Define.{cat, sum}
use Rattle.laws.specs.Every.{All, Pairs}
use Rattle.laws.proofs.Tests.{by_test}
use Rattle.laws.proofs.Tables.{tab_length, filled}
use Rattle.laws.proofs.SetBits.{cat_length, sum_tab_add}
use Rattle.laws.proofs.Lists.{all_perm, all_left, pairs_perm, pairs_left, length_perm}
use Rattle.floor.specs.Settings.{total, spacing, is_hopper, hoppers_of}
use Rattle.floor.specs.Grid.{neighbour}
use Rattle.floor.specs.Model.{TileState, Model, runs_of_of, distance_of, next_of, members_of, numbers_on}
use Rattle.floor.specs.Route.{route}
use Rattle.floor.specs.Signal.{signal, signal_of}
use Rattle.floor.specs.Move.{raised, move}
use Rattle.floor.specs.Calls.{after_round, delivered}
use Rattle.floor.proofs.Sound.{Inside, Apart, Faces, Sound}
use Rattle.floor.proofs.Tables.{off_floor, run_on}
use Rattle.floor.proofs.Routing.{Formed, Routed, routed_form, arrow_iff}
use Rattle.floor.proofs.Nearest.{graph_of, route_routed, routable, formed}
use Rattle.floor.proofs.Geometry.{apart_sym}
use Rattle.floor.proofs.Fields.{stays, comes, round_whole, delivered_to_lem, round_delivered, round_counter, delivered_length, round_running, round_runs, round_distance, round_next, round_token, round_members, round_hopper}
use Rattle.floor.proofs.Passing.{token_wants, token_still, arrow_at}
use Rattle.floor.proofs.Insertion.{insert_each_perm, insert_each_rising}
use Rattle.floor.proofs.Safety.{stays_rising, safe_inside, safe_apart}
use Rattle.floor.proofs.Conservation.{round_numbers, moved_differ}

module _ (m : Model) (S : Sound m) where
  -- a tile with canisters is on the floor
  pub full_on : (t : ℕ) → 0 < length (members_of m t) → t < total m.settings
  full_on t h = go (dec_le (suc t) (total m.settings))
    where
      go : Dec (t < total m.settings) → t < total m.settings
      go (yes l) = l
      go (no l) = absurd (omega (arith, ap (λ (x : TileState). length x.members) (off_floor m S.len t (omega arith))))

  routed : Routed (graph_of m) (distance_of m) (next_of m) (distance_of (route m)) (next_of (route m))
  routed = route_routed m S.len

  pub new_form : Formed (graph_of m) (distance_of (route m))
  new_form = routed_form (graph_of m) (routable m S) (formed m S) routed

  pub hopper_arrow : (t : ℕ) → is_hopper m.settings t ≡ true → next_of (route m) t ≡ 0
  hopper_arrow t h = (routed.fixed t (inl h)).1 ∙ S.hopper_next t h

  stop_arrow : (t : ℕ) → runs_of_of m t ≡ false → next_of (route m) t ≡ 0
  stop_arrow t r = (routed.fixed t (inr r)).1 ∙ S.stop_next t r

  stop_turn : (t : ℕ) → runs_of_of m t ≡ false → (signal_of (route m) t).token ≡ 0
  stop_turn t r = token_still m S.len t r ∙ S.stop_token t r

  pub arrow_faces : (t : ℕ) → Faces m.settings t (next_of (route m) t)
  arrow_faces t = go (dec_le 1 (next_of (route m) t))
    where
      go : Dec (0 < next_of (route m) t) → Faces m.settings t (next_of (route m) t)
      go (yes h) = inr (run_on m S.len (neighbour m.settings (next_of (route m) t) t) (arrow_at m S t h).ahead)
      go (no h) = inl (omega arith)

  turn_faces : (t : ℕ) → Faces m.settings t (signal_of (route m) t).token
  turn_faces t = go (dec_le 1 (signal_of (route m) t).token) (by_test (runs_of_of m t))
    where
      go : Dec (0 < (signal_of (route m) t).token) → (runs_of_of m t ≡ true) ⊎ (runs_of_of m t ≡ false) → Faces m.settings t (signal_of (route m) t).token
      go (no h) r = inl (omega arith)
      go (yes h) (inl r) = inr (full_on (neighbour m.settings (signal_of (route m) t).token t) (token_wants m S.len t r h).full)
      go (yes h) (inr r) = absurd (omega (arith, stop_turn t r))

  few : length (delivered m) ≤ 4
  few = omega (arith, delivered_length m S.len, S.measured.hoppers_few)

  new_spare : (k : ℕ) → length (hoppers_of m.settings) ≤ k → get_or (after_round m).counters.delivered k 0 ≡ 0
  new_spare k h =
      let no : delivered_to_lem m k ≡ [] = get_or-eq_default (delivered m) [] (omega (arith, delivered_length m S.len)) in
      round_counter m S.four few k ∙ omega (arith, S.spare k h, ap (λ (l : List ℕ). length l) no)

  total_delivered : sum (after_round m).counters.delivered ≡ sum m.counters.delivered + length (cat 4 (delivered_to_lem m))
  total_delivered =
      let old : ℕ → ℕ = λ k. get_or m.counters.delivered k 0 in
      ap sum (round_delivered m) ∙ sum_tab_add 4 old (λ k. length (delivered_to_lem m k))
      ∙ omega (arith, ap sum (filled 4 old 0 m.counters.delivered S.four (λ i h. refl)), cat_length 4 (delivered_to_lem m))

  pub round_sound : Sound (after_round m)
  unfolding after_round move raised signal route
  round_sound =
      let w = S.len in
      let F = new_form in
      let out = Permᴰ.symm (round_numbers m S) in
      let N = numbers_on (after_round m) in
      record {
        measured = S.measured;
        len = round_whole m;
        flag = λ t. subst (λ (n : ℕ). (n ≡ 1) ⊎ (n ≡ 0)) (sym (round_running m w t)) (S.flag t);
        hopper_runs = λ t h. round_runs m w t ∙ S.hopper_runs t h;
        hopper_distance = λ t h. round_distance m w t ∙ F.at_hop t h;
        hopper_next = λ t h. round_next m w t ∙ hopper_arrow t h;
        hopper_empty = round_hopper m w;
        off_hopper = λ t h. subst (λ (n : ℕ). 1 ≤ n) (sym (round_distance m w t)) (F.off_hop t h);
        capped = λ t. subst (λ (n : ℕ). (n < total m.settings) ⊎ (n ≡ 255)) (sym (round_distance m w t)) (F.capped t);
        next_iff = λ t h r.
            subst (λ (a : ℕ). a ≡ 0 ↔ distance_of (after_round m) t ≡ 255) (sym (round_next m w t))
            (subst (λ (d : ℕ). next_of (route m) t ≡ 0 ↔ d ≡ 255) (sym (round_distance m w t))
            (arrow_iff (graph_of m) (routable m S) (formed m S) routed S.hopper_next S.stop_next t h (sym (round_runs m w t) ∙ r)));
        stop_distance = λ t r. round_distance m w t ∙ F.stopped t (sym (round_runs m w t) ∙ r);
        stop_next = λ t r. round_next m w t ∙ stop_arrow t (sym (round_runs m w t) ∙ r);
        stop_token = λ t r. round_token m w t ∙ stop_turn t (sym (round_runs m w t) ∙ r);
        next_faces = λ t. subst (Faces m.settings t) (sym (round_next m w t)) (arrow_faces t);
        token_faces = λ t. subst (Faces m.settings t) (sym (round_token m w t)) (turn_faces t);
        inside = round_members m w (λ _. All (Inside m.settings)) (λ _. tt) (λ t _ _. all_perm (Inside m.settings) (Permᴰ.symm (insert_each_perm (comes m t) (stays m t))) (safe_inside m S t));
        spaced = round_members m w (λ _. Pairs (Apart (spacing m.settings))) (λ _. tt)
            (λ t _ _. pairs_perm (Apart (spacing m.settings)) (apart_sym (spacing m.settings)) (Permᴰ.symm (insert_each_perm (comes m t) (stays m t))) (safe_apart m S t));
        rising = round_members m w (λ _. Pairs (λ c e. c.number < e.number)) (λ _. tt) (λ t h _. insert_each_rising (comes m t) (stays m t) (stays_rising m S t) (moved_differ m S t h));
        positive = all_left (λ n. 0 < n) N (cat 4 (delivered_to_lem m)) (all_perm (λ n. 0 < n) out S.positive);
        below = all_left (λ n. n ≤ m.counters.last) N (cat 4 (delivered_to_lem m)) (all_perm (λ n. n ≤ m.counters.last) out S.below);
        unique = pairs_left (λ x y. x ≢ y) N (cat 4 (delivered_to_lem m)) (pairs_perm (λ x y. x ≢ y) (λ x y n e. n (sym e)) out S.unique);
        four = ap (λ (l : List ℕ). length l) (round_delivered m) ∙ tab_length 4 (λ k. get_or m.counters.delivered k 0 + length (delivered_to_lem m k));
        spare = new_spare;
        counted = omega (arith, S.counted, total_delivered, length_perm (round_numbers m S), length-append N (cat 4 (delivered_to_lem m)));
        booked_last = S.booked_last;
        last_fits = S.last_fits;
        layouts_sound_lem = S.layouts_sound_lem;
      }
