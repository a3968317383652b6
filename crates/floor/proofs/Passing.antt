-- Who moves into whom: a tile that grants takes in from the neighbour that it granted, and only that one moves into it.
use mathlib.Core.Path.{◌≡◌, refl, sym, ap, ◌∙◌, subst}
use mathlib.Core.Logic.{◌⊎◌, inl, inr}
use mathlib.Core.Bool.{Bool, true, false, cond}
use mathlib.Core.List.{List, [], Memᴰ}
use Prim.Native.Nat.{ℕ, ◌<◌}
use native.Mathlib.Omega.{arith}
use native.Mathlib.Decide.{dec_le}
use lib.Dec.{ltb, eqb}
use lib.ListN.{length}
use borrow.Author.Tests.{ltb-true, eqb-true, lt-ltb, eq-eqb}
use Rattle.floor.specs.declared.Canister.{Canister}
use Rattle.floor.specs.Sides.{sides, opposite}
use Rattle.floor.specs.Settings.{total}
use Rattle.floor.specs.Grid.{neighbour}
use Rattle.floor.specs.Model.{TileState, Model, runs_of_of, distance_of, next_of, token_of, members_of}
use Rattle.floor.specs.Route.{route}
use Rattle.floor.specs.Signal.{Signal, requests, missing, signal_by, signal_tile, shown_of, signal_of, grant_of}
use Rattle.floor.specs.Move.{way_of, leaving}
use Rattle.floor.specs.BoundedBypass.{wants}
use Rattle.floor.proofs.Sound.{Sound}
use Rattle.floor.proofs.GridBranches.{opposite_back}
use Rattle.floor.proofs.Grid.{side_pos, opposite_side, requests_side, requests_at, neighbour_none, neighbour_back}
use Rattle.floor.proofs.Routing.{Arrow, arrow}
use Rattle.floor.proofs.Tables.{Whole, off_floor, run_on}
use Rattle.floor.proofs.Nearest.{graph_of, route_running, route_token, route_members, route_routed, routable, formed}
use Rattle.floor.proofs.Grants.{grant_facts, token_facts, token_stopped, grant_some}
use Rattle.floor.proofs.Borders.{leaving_nil}
use Rattle.floor.proofs.Fields.{way_at_lem, leaves, comes}

-- ---- which sides of t want
-- side k of t wants
pub record Wanting (m : Model) (t k : ℕ) : Type 0 where
  pub side : Memᴰ k sides
  pub arrow : next_of (route m) (neighbour m.settings k t) ≡ opposite k
  pub full : 0 < length (members_of m (neighbour m.settings k t))

module _ (m : Model) (w : Whole m) where
  pub wants_none : (t : ℕ) → wants m t 0 ≡ false
  unfolding wants requests
  wants_none t = refl

  wants_at : (t k : ℕ) → Memᴰ k sides → wants m t k ≡ eqb (shown_of (route m) (neighbour m.settings k t)) (opposite k)
  unfolding wants
  wants_at t k mk = requests_at (λ j. shown_of (route m) (neighbour m.settings j t)) mk

  shown : (u : ℕ) → shown_of (route m) u ≡ cond (ltb 0 (length (members_of m u))) (next_of (route m) u) 0
  unfolding shown_of
  shown u = ap (λ (l : List Canister). cond (ltb 0 (length l)) (next_of (route m) u) 0) (route_members m w u)

  pub wants_side : (t k : ℕ) → wants m t k ≡ true → Memᴰ k sides
  unfolding wants
  wants_side t k h =
      requests_side (shown_of (route m) (neighbour m.settings 1 t)) (shown_of (route m) (neighbour m.settings 2 t)) (shown_of (route m) (neighbour m.settings 3 t)) (shown_of (route m) (neighbour m.settings 4 t)) k h

  pub wants_facts : (t k : ℕ) → wants m t k ≡ true → Wanting m t k
  wants_facts t k h = go (ltb 0 (length (members_of m u))) refl
    where
      u : ℕ
      u = neighbour m.settings k t

      mk : Memᴰ k sides
      mk = wants_side t k h

      is : cond (ltb 0 (length (members_of m u))) (next_of (route m) u) 0 ≡ opposite k
      is = sym (shown u) ∙ eqb-true (shown_of (route m) u) (opposite k) (sym (wants_at t k mk) ∙ h)

      go : (b : Bool) → ltb 0 (length (members_of m u)) ≡ b → Wanting m t k
      go true e = record { side = mk; arrow = rw e at is; full = ltb-true 0 (length (members_of m u)) e }
      go false e = absurd (omega (arith, side_pos (opposite_side mk), rw e at is))

  pub wants_of : (t k : ℕ) → Wanting m t k → wants m t k ≡ true
  wants_of t k W =
      let u = neighbour m.settings k t in
      wants_at t k W.side ∙ eq-eqb (shown_of (route m) u) (opposite k) (shown u ∙ rw (lt-ltb 0 (length (members_of m u)) W.full) W.arrow)

  pub signal_is : (t : ℕ) → signal_of (route m) t ≡ signal_by m.settings (runs_of_of m t) (token_of m t) (members_of m t) (wants m t)
  unfolding signal_of signal_tile wants route
  signal_is t =
      ap (λ (n : ℕ). signal_by m.settings (eqb n 1) (token_of (route m) t) (members_of (route m) t) (wants m t)) (route_running m w t)
      ∙ ap (λ (n : ℕ). signal_by m.settings (runs_of_of m t) n (members_of (route m) t) (wants m t)) (route_token m w t)
      ∙ ap (λ (l : List Canister). signal_by m.settings (runs_of_of m t) (token_of m t) l (wants m t)) (route_members m w t)

  -- the new token is none, or a side that wants
  pub token_wants : (t : ℕ) → runs_of_of m t ≡ true → 0 < (signal_of (route m) t).token → Wanting m t (signal_of (route m) t).token
  token_wants t r h =
      wants_facts t (signal_of (route m) t).token
      (subst (λ (x : Signal). 0 < x.token → wants m t x.token ≡ true) (sym (signal_is t)) (token_facts m.settings (runs_of_of m t) (token_of m t) (members_of m t) (wants m t) r) h)

  pub token_still : (t : ℕ) → runs_of_of m t ≡ false → (signal_of (route m) t).token ≡ token_of m t
  token_still t r = ap (λ (x : Signal). x.token) (signal_is t) ∙ token_stopped m.settings (runs_of_of m t) (token_of m t) (members_of m t) (wants m t) r

  -- what a grant tells
  pub record Granting (t : ℕ) : Type 0 where
    pub wanting : Wanting m t (grant_of (route m) t)
    pub wide : missing m.settings (grant_of (route m) t) (members_of m t) ≡ 0
    pub runs : runs_of_of m t ≡ true

  pub granting : (t : ℕ) → 0 < grant_of (route m) t → Granting t
  granting t h =
      let grant_is = subst (λ (x : Signal). 0 < x.grant → (runs_of_of m t ≡ true) × (wants m t x.grant ≡ true) × (missing m.settings x.grant (members_of m t) ≡ 0)) (sym (signal_is t))
      (grant_facts m.settings (runs_of_of m t) (token_of m t) (members_of m t) (wants m t)) h in
      record { wanting = wants_facts t (grant_of (route m) t) grant_is.1; wide = grant_is.2; runs = grant_is.0 }

  -- an empty running tile that some side wants to enter grants one
  pub lets_in : (t k : ℕ) → runs_of_of m t ≡ true → members_of m t ≡ [] → Wanting m t k → 0 < grant_of (route m) t
  lets_in t k r e W =
      subst (λ (x : Signal). 0 < x.grant) (sym (signal_is t))
      (grant_some m.settings (runs_of_of m t) (token_of m t) (members_of m t) (wants m t) r e (wants_none t) k W.side (wants_of t k W))

-- ---- ways
way_facts : (a b : ℕ) → 0 < way_of a b → (way_of a b ≡ a) × (a ≡ opposite b)
unfolding way_of
way_facts a b h = go (eqb a (opposite b)) refl
  where
    go : (c : Bool) → eqb a (opposite b) ≡ c → (cond (eqb a (opposite b)) a 0 ≡ a) × (a ≡ opposite b)
    go true e = rw e (refl, eqb-true a (opposite b) e)
    go false e = absurd (omega (arith, rw e at h))

pub way_of_lem : (a b : ℕ) → a ≡ opposite b → way_of a b ≡ a
unfolding way_of
way_of_lem a b e = rw (eq-eqb a (opposite b) e)

module _ (m : Model) (S : Sound m) where
  pub arrow_at : (t : ℕ) → 0 < next_of (route m) t → Arrow (graph_of m) (distance_of m) (distance_of (route m)) (next_of (route m)) t
  arrow_at = arrow (graph_of m) (routable m S) (formed m S) (route_routed m S.len) S.hopper_next S.stop_next

  pub back : {k : ℕ} → Memᴰ k sides → (t : ℕ) → t < total m.settings → neighbour m.settings k t < total m.settings → neighbour m.settings (opposite k) (neighbour m.settings k t) ≡ t
  back = neighbour_back m.settings S.measured.rows_pos

  -- what a move tells
  pub record Moving (t : ℕ) : Type 0 where
    pub is : way_at_lem m t ≡ next_of (route m) t
    pub side : Memᴰ (way_at_lem m t) sides
    pub runs : runs_of_of m t ≡ true
    pub ahead : runs_of_of m (neighbour m.settings (way_at_lem m t) t) ≡ true
    pub on : t < total m.settings
    pub to : neighbour m.settings (way_at_lem m t) t < total m.settings
    pub meets : grant_of (route m) (neighbour m.settings (way_at_lem m t) t) ≡ opposite (way_at_lem m t)

  way_at : (t : ℕ) → 0 < way_at_lem m t → (way_at_lem m t ≡ next_of (route m) t) × (next_of (route m) t ≡ opposite (grant_of (route m) (neighbour m.settings (next_of (route m) t) t)))
  unfolding way_at_lem
  way_at t = way_facts (next_of (route m) t) (grant_of (route m) (neighbour m.settings (next_of (route m) t) t))

  pub moving : (t : ℕ) → 0 < way_at_lem m t → Moving t
  moving t h =
      let W = way_at t h in
      let A = arrow_at t (omega (arith, W.0)) in
      let run-ahead : runs_of_of m (neighbour m.settings (way_at_lem m t) t) ≡ true = rw W.0 A.ahead in
      record {
        is = W.0;
        side = rw W.0 A.side;
        runs = A.runs;
        ahead = run-ahead;
        on = run_on m S.len t A.runs;
        to = run_on m S.len (neighbour m.settings (way_at_lem m t) t) run-ahead;
        meets = rw W.0 (opposite_back (next_of (route m) t) (grant_of (route m) (neighbour m.settings (next_of (route m) t) t)) (omega (arith, W.0)) W.1);
      }

  -- a tile stands still or moves, grants nothing or something
  pub still_or : (t : ℕ) → (way_at_lem m t ≡ 0) ⊎ Moving t
  still_or t = go (dec_le 1 (way_at_lem m t))
    where
      go : Dec (0 < way_at_lem m t) → (way_at_lem m t ≡ 0) ⊎ Moving t
      go (yes h) = inr (moving t h)
      go (no h) = inl (omega arith)

  -- t takes in what leaves its neighbour on the granted side
  pub record Taking (t : ℕ) : Type 0 where
    pub grant : Granting m S.len t
    pub way : way_at_lem m (neighbour m.settings (grant_of (route m) t) t) ≡ opposite (grant_of (route m) t)
    pub into : neighbour m.settings (opposite (grant_of (route m) t)) (neighbour m.settings (grant_of (route m) t) t) ≡ t
    pub on : neighbour m.settings (grant_of (route m) t) t < total m.settings
    pub takes : comes m t ≡ leaves m (neighbour m.settings (grant_of (route m) t) t)

  way_is : (t u : ℕ) → neighbour m.settings (next_of (route m) u) u ≡ t → next_of (route m) u ≡ opposite (grant_of (route m) t) → way_at_lem m u ≡ next_of (route m) u
  unfolding way_at_lem
  way_is t u ahead e = way_of_lem (next_of (route m) u) (grant_of (route m) (neighbour m.settings (next_of (route m) u) u)) (e ∙ ap (λ (x : ℕ). opposite (grant_of (route m) x)) (sym ahead))

  takes_is : (t : ℕ) → let u = neighbour m.settings (grant_of (route m) t) t in neighbour m.settings (next_of (route m) u) u ≡ t → comes m t ≡ leaves m u
  unfolding comes leaves way_at_lem
  takes_is t ahead =
      let u = neighbour m.settings (grant_of (route m) t) t in
      ap (λ (x : ℕ). leaving m.settings (way_of (next_of (route m) u) (grant_of (route m) x)) (members_of m u)) (sym ahead)

  pub taking : (t : ℕ) → 0 < grant_of (route m) t → Taking t
  taking t h =
      let k = grant_of (route m) t in
      let u = neighbour m.settings k t in
      let G = granting m S.len t h in
      let mk = G.wanting.side in
      let ar : next_of (route m) u ≡ opposite k = G.wanting.arrow in
      let po : 0 < next_of (route m) u = omega (arith, ar, side_pos (opposite_side mk)) in
      let on : u < total m.settings = run_on m S.len u (arrow_at u po).runs in
      let into : neighbour m.settings (opposite k) u ≡ t = back mk t (run_on m S.len t G.runs) on in
      let ahead : neighbour m.settings (next_of (route m) u) u ≡ t = ap (λ (j : ℕ). neighbour m.settings j u) ar ∙ into in
      record { grant = G; way = way_is t u ahead ar ∙ ar; into = into; on = on; takes = takes_is t ahead }

  pub takes_none : (t : ℕ) → grant_of (route m) t ≡ 0 → comes m t ≡ []
  unfolding comes
  takes_none t e =
      ap (λ (k : ℕ). leaving m.settings (way_of (next_of (route m) (neighbour m.settings k t)) k) (members_of m (neighbour m.settings k t))) e
      ∙ ap (λ (l : List Canister). leaving m.settings (way_of (next_of (route m) (neighbour m.settings 0 t)) 0) l)
      (ap (λ (x : TileState). x.members) (off_floor m S.len (neighbour m.settings 0 t) (omega (arith, neighbour_none m.settings t))))
      ∙ leaving_nil m.settings _

  pub idle_or : (t : ℕ) → (comes m t ≡ []) ⊎ Taking t
  idle_or t = go (dec_le 1 (grant_of (route m) t))
    where
      go : Dec (0 < grant_of (route m) t) → (comes m t ≡ []) ⊎ Taking t
      go (yes h) = inr (taking t h)
      go (no h) = inl (takes_none t (omega arith))

  -- and a tile that moves is the one that is granted
  pub moves_from : (u : ℕ) → Moving u → neighbour m.settings (grant_of (route m) (neighbour m.settings (way_at_lem m u) u)) (neighbour m.settings (way_at_lem m u) u) ≡ u
  moves_from u M = ap (λ (k : ℕ). neighbour m.settings k (neighbour m.settings (way_at_lem m u) u)) M.meets ∙ back M.side u M.on M.to
