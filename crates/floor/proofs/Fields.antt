-- What a round leaves in each field of each tile.
use mathlib.Core.Path.{◌≡◌, refl, sym, ap, ◌∙◌, subst, fun_ext}
use mathlib.Core.Bool.{Bool, true, false, cond}
use mathlib.Core.List.{List, [], map}
use Prim.Native.Nat.{ℕ, suc, ◌+◌, ◌≤◌, ◌<◌}
use native.Mathlib.Omega.{arith}
use native.Mathlib.Decide.{dec_le}
use lib.ListN.{length, get_or, length-map, get_or-eq_default}
use lib.Dec.{eqb}
use Rattle.laws.specs.Define.{tab}
use Rattle.laws.proofs.Tests.{not_both}
use Rattle.laws.proofs.Tables.{tab_length, tab_at, tab_off}
use Rattle.floor.specs.declared.Canister.{Canister}
use Rattle.floor.specs.declared.Settings.{Settings}
use Rattle.floor.specs.Settings.{total, is_hopper, hoppers_of}
use Rattle.floor.specs.Grid.{neighbour}
use Rattle.floor.specs.Model.{TileState, Model, no_tile_of, tile_of, runs, runs_of_of, distance_of, next_of, token_of, members_of, numbers}
use Rattle.floor.specs.Route.{route}
use Rattle.floor.specs.Signal.{signal_tile, signal_of, grant_of, with_token, signal}
use Rattle.floor.specs.Move.{way_of, staying, leaving, insert_each, members_next, arrivals, move_tile, delivered_by, raised, move}
use Rattle.floor.specs.Calls.{after_round, delivered}
use Rattle.floor.proofs.Tables.{Whole, off_floor, table_each}
use Rattle.floor.proofs.Nearest.{route_whole, route_running, route_members}
use Rattle.floor.proofs.Grants.{token_stopped}

-- ---- Signal
signal_whole : (r : Model) → Whole (signal r)
unfolding signal
signal_whole r = tab_length (total r.settings) (λ t. with_token (tile_of r t) (signal_of r t).token)

module _ (r : Model) (w : Whole r) where
  signal_field : {A : Type 0} (p : TileState → A) → ((x : TileState) (k : ℕ) → p (with_token x k) ≡ p x) → (t : ℕ) → p (tile_of (signal r) t) ≡ p (tile_of r t)
  unfolding signal
  signal_field p keeps = table_each (λ t x. p x ≡ p (tile_of r t)) (total r.settings) (λ t. with_token (tile_of r t) (signal_of r t).token) (λ t _. keeps (tile_of r t) (signal_of r t).token) (λ t l. sym (ap p (off_floor r w t l)))

  off_token : (t : ℕ) → tile_of r t ≡ no_tile_of → (signal_of r t).token ≡ 0
  unfolding signal_of signal_tile
  off_token t e =
      token_stopped r.settings (runs (tile_of r t)) (token_of r t) (members_of r t) _ (ap (λ (x : TileState). runs x) e)
      ∙ ap (λ (x : TileState). x.token) e

  signal_token : (t : ℕ) → token_of (signal r) t ≡ (signal_of r t).token
  unfolding signal
  signal_token = table_each (λ t x. x.token ≡ (signal_of r t).token) (total r.settings) (λ t. with_token (tile_of r t) (signal_of r t).token) (λ t _. refl) (λ t l. sym (off_token t (off_floor r w t l)))

-- ---- Move
module _ (x : Model) (w : Whole x) (g : ℕ → ℕ) where
  move_field : {A : Type 0} (p : TileState → A) → ((t : ℕ) → p (move_tile x g t) ≡ p (tile_of x t)) → (t : ℕ) → p (tile_of (move x g) t) ≡ p (tile_of x t)
  unfolding move
  move_field p keeps = table_each (λ t y. p y ≡ p (tile_of x t)) (total x.settings) (move_tile x g) (λ t _. keeps t) (λ t l. sym (ap p (off_floor x w t l)))

-- ---- the round
-- the side along which tile t moves, none where it stands still
unfoldable pub way_at_lem : Model → ℕ → ℕ
way_at_lem m t = way_of (next_of (route m) t) (grant_of (route m) (neighbour m.settings (next_of (route m) t) t))

-- the canisters of tile t that stay on it, those that leave it, and those that come to it
unfoldable pub stays : Model → ℕ → List Canister
stays m t = staying m.settings (way_at_lem m t) (members_of m t)

unfoldable pub leaves : Model → ℕ → List Canister
leaves m t = leaving m.settings (way_at_lem m t) (members_of m t)

unfoldable pub comes : Model → ℕ → List Canister
comes m t =
    let k = grant_of (route m) t in
    let u = neighbour m.settings k t in
    leaving m.settings (way_of (next_of (route m) u) k) (members_of m u)

pub round_settings : (m : Model) → (after_round m).settings ≡ m.settings
unfolding after_round move signal route
round_settings m = refl

pub round_whole : (m : Model) → Whole (after_round m)
unfolding after_round move
round_whole m = tab_length (total (signal (route m)).settings) (move_tile (signal (route m)) (grant_of (route m)))

pub round_last : (m : Model) → (after_round m).counters.last ≡ m.counters.last
unfolding after_round move raised signal route
round_last m = refl

pub round_booked : (m : Model) → (after_round m).counters.booked ≡ m.counters.booked
unfolding after_round move raised signal route
round_booked m = refl

-- the numbers delivered to hopper k
abbrev pub delivered_to_lem : Model → ℕ → List ℕ
delivered_to_lem m k = get_or (delivered m) k []

pub round_delivered : (m : Model) → (after_round m).counters.delivered ≡ tab 4 (λ k. get_or m.counters.delivered k 0 + length (delivered_to_lem m k))
unfolding after_round delivered move raised signal route
round_delivered m = refl

-- counter by counter
pub round_counter : (m : Model) → length m.counters.delivered ≡ 4 → length (delivered m) ≤ 4 → (k : ℕ) → get_or (after_round m).counters.delivered k 0 ≡ get_or m.counters.delivered k 0 + length (delivered_to_lem m k)
round_counter m e f k = ap (λ (l : List ℕ). get_or l k 0) (round_delivered m) ∙ go (dec_le (suc k) 4)
  where
    go : Dec (k < 4) → get_or (tab 4 (λ k. get_or m.counters.delivered k 0 + length (delivered_to_lem m k))) k 0 ≡ get_or m.counters.delivered k 0 + length (delivered_to_lem m k)
    go (yes h) = tab_at 4 (λ k. get_or m.counters.delivered k 0 + length (delivered_to_lem m k)) k 0 h
    go (no h) =
        let q : 4 ≤ k = omega arith in
        let old : get_or m.counters.delivered k 0 ≡ 0 = get_or-eq_default m.counters.delivered 0 (omega (arith, e)) in
        let new : delivered_to_lem m k ≡ [] = get_or-eq_default (delivered m) [] (omega arith) in
        tab_off 4 (λ k. get_or m.counters.delivered k 0 + length (delivered_to_lem m k)) k 0 q
        ∙ omega (arith, ap (λ (l : List ℕ). length l) new)

module _ (m : Model) (w : Whole m) where
  abbrev x : Model
  x = signal (route m)

  abbrev g : ℕ → ℕ
  g = grant_of (route m)

  pub round_running : (t : ℕ) → (tile_of (after_round m) t).running ≡ (tile_of m t).running
  unfolding after_round move_tile
  round_running t = move_field x (signal_whole (route m)) g (λ y. y.running) (λ t. refl) t ∙ signal_field (route m) (route_whole m) (λ y. y.running) (λ y k. refl) t ∙ route_running m w t

  pub round_runs : (t : ℕ) → runs_of_of (after_round m) t ≡ runs_of_of m t
  round_runs t = ap (λ (n : ℕ). eqb n 1) (round_running t)

  pub round_distance : (t : ℕ) → distance_of (after_round m) t ≡ distance_of (route m) t
  unfolding after_round move_tile
  round_distance t = move_field x (signal_whole (route m)) g (λ y. y.distance) (λ t. refl) t ∙ signal_field (route m) (route_whole m) (λ y. y.distance) (λ y k. refl) t

  pub round_next : (t : ℕ) → next_of (after_round m) t ≡ next_of (route m) t
  unfolding after_round move_tile
  round_next t = move_field x (signal_whole (route m)) g (λ y. y.next) (λ t. refl) t ∙ signal_field (route m) (route_whole m) (λ y. y.next) (λ y k. refl) t

  pub round_token : (t : ℕ) → token_of (after_round m) t ≡ (signal_of (route m) t).token
  unfolding after_round move_tile
  round_token t = move_field x (signal_whole (route m)) g (λ y. y.token) (λ t. refl) t ∙ signal_token (route m) (route_whole m) t

  signal_next : (t : ℕ) → next_of x t ≡ next_of (route m) t
  signal_next = signal_field (route m) (route_whole m) (λ y. y.next) (λ y k. refl)

  signal_members : (t : ℕ) → members_of x t ≡ members_of m t
  signal_members t = signal_field (route m) (route_whole m) (λ y. y.members) (λ y k. refl) t ∙ route_members m w t

  comes_are : (t : ℕ) → arrivals x g t ≡ comes m t
  unfolding arrivals comes signal route
  comes_are t =
      let u = neighbour m.settings (g t) t in
      ap (λ (k : ℕ). leaving m.settings (way_of k (g t)) (members_of x u)) (signal_next u)
      ∙ ap (λ (l : List Canister). leaving m.settings (way_of (next_of (route m) u) (g t)) l) (signal_members u)

  stays_are : (t : ℕ) → staying m.settings (way_of (next_of x t) (g (neighbour m.settings (next_of x t) t))) (members_of x t) ≡ stays m t
  unfolding stays way_at_lem
  stays_are t =
      ap (λ (k : ℕ). staying m.settings (way_of k (g (neighbour m.settings k t))) (members_of x t)) (signal_next t)
      ∙ ap (λ (l : List Canister). staying m.settings (way_of (next_of (route m) t) (g (neighbour m.settings (next_of (route m) t) t))) l) (signal_members t)

  moved_members : (t : ℕ) → (move_tile x g t).members ≡ members_next m.settings t (stays m t) (comes m t)
  unfolding move_tile signal route
  moved_members t =
      ap (λ (l : List Canister). members_next m.settings t l (arrivals x g t)) (stays_are t)
      ∙ ap (λ (l : List Canister). members_next m.settings t (stays m t) l) (comes_are t)

  -- a hopper has no canisters, another tile of the floor those that stay and those that come
  round_at : (t : ℕ) → t < total m.settings → members_of (after_round m) t ≡ members_next m.settings t (stays m t) (comes m t)
  unfolding after_round move signal route
  round_at t h = ap (λ (y : TileState). y.members) (tab_at (total m.settings) (move_tile x g) t no_tile_of h) ∙ moved_members t

  pub round_own : (t : ℕ) → t < total m.settings → is_hopper m.settings t ≡ false → members_of (after_round m) t ≡ insert_each (comes m t) (stays m t)
  unfolding members_next
  round_own t h n = round_at t h ∙ ap (λ (b : Bool). cond b [] (insert_each (comes m t) (stays m t))) n

  pub round_members : (P : ℕ → List Canister → Type 0) → ((t : ℕ) → P t []) → ((t : ℕ) → t < total m.settings → is_hopper m.settings t ≡ false → P t (insert_each (comes m t) (stays m t))) → (t : ℕ) → P t (members_of (after_round m) t)
  unfolding members_next
  round_members P none some t = go (dec_le (suc t) (total m.settings))
    where
      new : (h : t < total m.settings) (b : Bool) → is_hopper m.settings t ≡ b → P t (cond b [] (insert_each (comes m t) (stays m t)))
      new h true e = none t
      new h false e = some t h e

      go : Dec (t < total m.settings) → P t (members_of (after_round m) t)
      go (yes h) = subst (P t) (sym (round_at t h)) (new h (is_hopper m.settings t) refl)
      go (no h) = subst (λ (y : TileState). P t y.members) (sym (off_floor (after_round m) (round_whole m) t (omega (arith, ap (λ (s : Settings). total s) (round_settings m))))) (none t)

  pub round_hopper : (t : ℕ) → is_hopper m.settings t ≡ true → members_of (after_round m) t ≡ []
  round_hopper = round_members (λ t l. is_hopper m.settings t ≡ true → l ≡ []) (λ t _. refl) (λ t _ n h. not_both h n)

  -- what is delivered is what comes to the hoppers
  pub delivered_are : delivered m ≡ map (λ h. numbers (comes m h)) (hoppers_of m.settings)
  unfolding delivered delivered_by signal route
  delivered_are = ap (λ (f : ℕ → List ℕ). map f (hoppers_of m.settings)) (fun_ext (λ h. ap (λ (l : List Canister). numbers l) (comes_are h)))

  pub delivered_length : length (delivered m) ≡ length (hoppers_of m.settings)
  delivered_length = ap (λ (l : List (List ℕ)). length l) delivered_are ∙ length-map (hoppers_of m.settings) (λ h. numbers (comes m h))
