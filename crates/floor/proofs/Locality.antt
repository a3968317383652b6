-- Each tile decides from its four neighbours: two floors with equal settings that agree on a tile and on its neighbours give that tile the same outcome of each step.
use mathlib.Core.Path.{◌≡◌, refl, sym, ap, ◌∙◌, subst}
use mathlib.Core.Bool.{Bool, true, false, cond, ◌&&◌}
use mathlib.Core.List.{List}
use Prim.Native.Nat.{ℕ, ◌<◌}
use lib.Dec.{ltb, eqb}
use lib.ListN.{length}
use Rattle.laws.specs.Define.{refusal}
use Rattle.laws.proofs.Tables.{tab_at}
use Rattle.floor.specs.declared.Canister.{Canister}
use Rattle.floor.specs.declared.Settings.{Settings}
use Rattle.floor.specs.Sides.{chosen}
use Rattle.floor.specs.Settings.{total}
use Rattle.floor.specs.Grid.{neighbour, around}
use Rattle.floor.specs.Model.{TileState, Model, no_tile_of, tile_of, runs, distance_of, with_members}
use Rattle.floor.specs.Route.{route_tile, route}
use Rattle.floor.specs.Signal.{Signal, missing, granting, waiting, signal_with, signal_by, signal_tile, shown_next, shown_of, signal_of}
use Rattle.floor.specs.Move.{way_of, staying, members_next, arriving, arrivals, move_tile}
use Rattle.floor.specs.Reasons.{reason_tests, ahead_of, reason_of, missing_of}
use Rattle.floor.specs.Local.{Agree, Local, LocalReasons}

-- a choice from what the four neighbours show
around_local : {A B : Type 0} (s : Settings) (a b : ℕ → A) (t : ℕ) → Agree s a b t → (g : A → A → A → A → B) → around s a t g ≡ around s b t g
around_local s a b t h g = rw (h.beside 1, h.beside 2, h.beside 3, h.beside 4)

module _ (m n : Model) (t : ℕ) (same : m.settings ≡ n.settings) (h : Agree m.settings (tile_of m) (tile_of n) t) where
  -- what is read of each tile agrees too
  shows : {A : Type 0} (f : TileState → A) → Agree m.settings (λ u. f (tile_of m u)) (λ u. f (tile_of n u)) t
  shows f = record { own = ap f h.own; beside = λ k. ap f (h.beside k) }

  pub route_local : t < total m.settings → tile_of (route m) t ≡ tile_of (route n) t
  unfolding route
  route_local on =
      tab_at (total m.settings) (λ u. around m.settings (distance_of m) u (route_tile m.settings u (tile_of m u))) t no_tile_of on
      ∙ around_local m.settings (distance_of m) (distance_of n) t (shows (λ x. x.distance)) (route_tile m.settings t (tile_of m t))
      ∙ ap (λ (x : TileState). around m.settings (distance_of n) t (route_tile m.settings t x)) h.own
      ∙ ap (λ (s : Settings). around s (distance_of n) t (route_tile s t (tile_of n t))) same
      ∙ sym (tab_at (total n.settings) (λ u. around n.settings (distance_of n) u (route_tile n.settings u (tile_of n u))) t no_tile_of (rw (sym same) on))

  -- the new token and the grant
  pub signal_local : signal_of m t ≡ signal_of n t
  unfolding signal_of shown_of
  signal_local =
      around_local m.settings (shown_of m) (shown_of n) t (shows (λ x. shown_next (length x.members) x.next)) (signal_tile m.settings (tile_of m t))
      ∙ ap (λ (x : TileState). around m.settings (shown_of n) t (signal_tile m.settings x)) h.own
      ∙ ap (λ (s : Settings). around s (shown_of n) t (signal_tile s (tile_of n t))) same

  -- g and e: the grants on the two floors
  module _ (g e : ℕ → ℕ) (k : Agree m.settings g e t) where
    pub arrivals_local : arrivals m g t ≡ arrivals n e t
    unfolding arrivals
    arrivals_local =
        ap (λ (x : ℕ). arriving m.settings x (tile_of m (neighbour m.settings x t)).next (tile_of m (neighbour m.settings x t)).members) k.own
        ∙ ap (λ (x : TileState). arriving m.settings (e t) x.next x.members) (h.beside (e t))
        ∙ ap (λ (s : Settings). arriving s (e t) (tile_of n (neighbour s (e t) t)).next (tile_of n (neighbour s (e t) t)).members) same

    pub move_local : move_tile m g t ≡ move_tile n e t
    unfolding move_tile
    move_local =
        ap (λ (x : TileState). with_members x (members_next m.settings t (staying m.settings (way_of x.next (g (neighbour m.settings x.next t))) x.members) (arrivals m g t))) h.own
        ∙ ap (λ (a : ℕ). with_members (tile_of n t) (members_next m.settings t (staying m.settings (way_of (tile_of n t).next a) (tile_of n t).members) (arrivals m g t))) (k.beside (tile_of n t).next)
        ∙ ap (λ (l : List Canister). with_members (tile_of n t) (members_next m.settings t (staying m.settings (way_of (tile_of n t).next (e (neighbour m.settings (tile_of n t).next t))) (tile_of n t).members) l)) arrivals_local
        ∙ ap (λ (s : Settings). with_members (tile_of n t) (members_next s t (staying s (way_of (tile_of n t).next (e (neighbour s (tile_of n t).next t))) (tile_of n t).members) (arrivals n e t))) same

-- ---- why a tile stood
-- the millimetres missing at a tile: by its turn, and by itself
by_turn : (s : Settings) (running : Bool) (token : ℕ) (l : List Canister) (p : ℕ → Bool) → let g = signal_by s running token l p in g.missing ≡ cond running (missing s g.turn l) 0
unfolding signal_by signal_with
by_turn s false token l p = refl
by_turn s true token l p = go (ltb 0 k && eqb (missing s k l) 0)
  where
    k : ℕ
    k = chosen p token

    given : Bool → Signal
    given b = cond b (granting p k (missing s k l)) (waiting k (missing s k l))

    go : (b : Bool) → (given b).missing ≡ missing s (given b).turn l
    go true = refl
    go false = refl

missing_turn : (m : Model) (u : ℕ) → (signal_of m u).missing ≡ cond (runs (tile_of m u)) (missing m.settings (signal_of m u).turn (tile_of m u).members) 0
unfolding signal_of signal_tile
missing_turn m u = by_turn m.settings (runs (tile_of m u)) (tile_of m u).token (tile_of m u).members _

-- a tile's reason and its millimetres depend on itself and on the tile that its arrow leads to, and on that one's neighbours only through its turn
module _ (m n : Model) (t : ℕ) (same : m.settings ≡ n.settings) (own : tile_of m t ≡ tile_of n t) where
  abbrev facing : ℕ
  facing = neighbour m.settings (tile_of m t).next t

  -- from the turn a and the millimetres b of the tile ahead
  reason_by : Settings → TileState → ℕ → ℕ → ℕ
  reason_by s x a b = cond (ltb t (total s)) (refusal (reason_tests x (waiting a b))) 0

  module _ (next : tile_of m facing ≡ tile_of n facing) (turn : (signal_of m facing).turn ≡ (signal_of n facing).turn) where
    lacks : (signal_of m facing).missing ≡ (signal_of n facing).missing
    lacks = missing_turn m facing ∙ (λ i. cond (runs (next i)) (missing (same i) (turn i) (next i).members) 0) ∙ sym (missing_turn n facing)

    pub reason_local : reason_of m t ≡ reason_of n t
    unfolding reason_of ahead_of reason_tests reason_by
    reason_local =
        (λ i. reason_by m.settings (tile_of m t) (turn i) (lacks i))
        ∙ (λ i. reason_by (same i) (own i) (signal_of n (neighbour (same i) (own i).next t)).turn (signal_of n (neighbour (same i) (own i).next t)).missing)

    pub missing_local : missing_of m t ≡ missing_of n t
    unfolding missing_of ahead_of
    missing_local =
        (λ i. cond (eqb (reason_local i) 5) (lacks i) 0)
        ∙ (λ i. cond (eqb (reason_of n t) 5) (signal_of n (neighbour (same i) (own i).next t)).missing 0)

  -- that turn depends on the tile ahead and its neighbours
  pub turn_local : Agree m.settings (tile_of m) (tile_of n) facing → (signal_of m facing).turn ≡ (signal_of n facing).turn
  turn_local h = ap (λ (x : Signal). x.turn) (signal_local m n facing same h)

-- ---- together
pub local_steps : Local
local_steps m n t A = record { route = route_local m n t A.settings A.tiles; signal = signal_local m n t A.settings A.tiles; move = move_local m n t A.settings A.tiles; takes = arrivals_local m n t A.settings A.tiles }

pub local_reasons : LocalReasons
local_reasons m n t A =
    let next = subst (λ (u : ℕ). tile_of m u ≡ tile_of n u) A.is_ahead A.tile in
    let turn = subst (λ (u : ℕ). (signal_of m u).turn ≡ (signal_of n u).turn) A.is_ahead A.turn in
    (reason_local m n t A.settings A.own next turn, missing_local m n t A.settings A.own next turn)
