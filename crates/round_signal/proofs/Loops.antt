-- What holds at the heads of Signal's loops: over the tiles; over the tiles again, why each stood. The first is a loop of
-- `signal_pass` of round_move, so that its turns are laws here, one for each way out of it.
use mathlib.Core.Path.{◌≡◌, refl, ap, ◌∙◌, subst, fun_ext}
use mathlib.Core.Logic.{◌≢◌}
use mathlib.Core.Bool.{Bool}
use mathlib.Core.List.{List}
use Prim.Native.Nat.{ℕ, ◌+◌, ◌*◌, ◌^◌, ◌≤◌, ◌<◌}
use native.Mathlib.Omega.{arith}
use lib.Dec.{eqb}
use lib.ListN.{length, take, drop, get_or, set, replicate}
use Rattle.laws.specs.InternalFilled.{Filled}
use Rattle.laws.proofs.Tables.{filled_none, filled_turn, filled_skip, filled_all}
use Rattle.floor.specs.declared.Canister.{Canister}
use Rattle.floor.specs.declared.Settings.{Settings}
use Rattle.floor.specs.declared.Side.{Side}
use Rattle.floor.specs.declared.Tile.{Tile}
use Rattle.floor.specs.Settings.{total, Ranged}
use Rattle.floor.specs.Grid.{around}
use Rattle.floor.specs.Memory.{zero_tile}
use Rattle.floor.specs.Sides.{in_set, following, chosen}
use Rattle.floor.specs.Signal.{Signal, requests, missing, signal_by}
use Rattle.round_route.specs.InternalRouted.{Redone}
use Rattle.round_route.proofs.Passes.{redone_none, redone_turn, redone_end}
use Rattle.round_grants.proofs.SignalLaws.{signal_stopped, signal_none, signal_grants, signal_stays}
use Rattle.round_signal.specs.InternalSignalling as M
use Rattle.round_signal.proofs.FloorSignals as F
use Rattle.round_signal.proofs.PassLaws.{signal_read, filled_within}

-- what Signal asks of the tiles and the canisters
pub record Asked (s : Settings) (tiles : List Tile) (canisters : List Canister) : Type 0 where
  pub ranged : Ranged s
  pub ready : F.Ready s tiles
  pub roomy : F.Roomy s tiles
  pub slight : F.Slight s tiles canisters
  pub tiles_length : length tiles ≡ 64
  pub canisters_length : length canisters ≡ 1024

pub record Signalled (s : Settings) (tiles : List Tile) (canisters : List Canister) (all : ℕ) (out : List Tile) (grants : List ℕ) (turns : List Side) (lacks : List ℕ) (t : ℕ) : Type 0 where
  pub asked : Asked s tiles canisters
  pub below : t ≤ all
  pub whole : all ≡ total s
  pub few : all ≤ 64
  pub tokened : Redone t (F.tile_at s tiles canisters) tiles out
  pub granted : Filled 64 (F.grant_at s tiles canisters) 0 t grants
  pub turned : Filled 65 (F.turn_side s tiles canisters) M.no_side t turns
  pub lacking : Filled 65 (F.lack_at s tiles canisters) 0 t lacks

-- why each of the first i tiles stood, and the millimetres missing beside that
abbrev pub Reasoned : Settings → List Tile → List Side → List ℕ → List ℕ → List ℕ → ℕ → Type 0
Reasoned s tiles turns lacks reasons missing i =
    Filled 64 (M.reason_by s tiles (M.side_in turns) (λ u. get_or lacks u 0)) 0 i reasons × Filled 64 (M.lack_by s tiles (M.side_in turns) (λ u. get_or lacks u 0)) 0 i missing

-- ---- the tiles
pub signalled_start : (s : Settings) (tiles : List Tile) (canisters : List Canister) → Asked s tiles canisters → {all : ℕ} → all ≡ total s
    → Signalled s tiles canisters all tiles (replicate 64 0) (replicate 65 M.no_side) (replicate 65 0) 0
signalled_start s tiles canisters a e = record {
  asked = a;
  below = omega arith;
  whole = e;
  few = omega (arith, e, a.ranged.2);
  tokened = redone_none (F.tile_at s tiles canisters) tiles a.tiles_length;
  granted = filled_none 64 (F.grant_at s tiles canisters) 0;
  turned = filled_none 65 (F.turn_side s tiles canisters) M.no_side;
  lacking = filled_none 65 (F.lack_at s tiles canisters) 0;
}

module _ {s : Settings} {tiles : List Tile} {canisters : List Canister} {all : ℕ} {out : List Tile} {grants : List ℕ} {turns : List Side} {lacks : List ℕ} {t : ℕ} (p : Signalled s tiles canisters all out grants turns lacks t) where
  module _ (turn : t < all) where
    pub on : t < total s
    on = omega (arith, p.whole)

    pub here : t < 64
    here = omega (arith, p.few)

    abbrev tile : Tile
    tile = get_or tiles t zero_tile

    abbrev own : List Canister
    own = take tile.count (drop (16 * t) canisters)

    pub token_few : tile.token.code ≤ 4
    token_few = p.asked.ready t on

    pub own_few : tile.count ≤ 16
    own_few = p.asked.roomy t on

    -- ---- show: what the tiles show; each way out of the loop gives the tile's signal, x
    module _ (show : List Side) (shows : M.ShownUpto tiles (total s) show) where
      abbrev wants : ℕ → Bool
      wants = around s (M.side_in show) t requests

      module _ (x : Signal) (e : x ≡ signal_by s (eqb tile.running 1) tile.token.code own wants) where
        is : x ≡ F.signal_at_lem s tiles canisters t
        is = signal_read s tiles canisters t show on p.asked.ranged.2 shows e

        next : {v : Tile} {gs : List ℕ} {ts : List Side} {ls : List ℕ} → v ≡ M.tokened tile x.token
            → (x.grant ≡ F.grant_at s tiles canisters t → Filled 64 (F.grant_at s tiles canisters) 0 (t + 1) gs)
            → (F.side x.turn ≡ F.turn_side s tiles canisters t → Filled 65 (F.turn_side s tiles canisters) M.no_side (t + 1) ts)
            → (x.missing ≡ F.lack_at s tiles canisters t → Filled 65 (F.lack_at s tiles canisters) 0 (t + 1) ls) → Signalled s tiles canisters all (set out t v) gs ts ls (t + 1)
        unfolding F.tile_at F.grant_at F.turn_at_lem F.lack_at
        next {v} w g u l = record {
          asked = p.asked;
          below = omega arith;
          whole = p.whole;
          few = p.few;
          tokened = redone_turn (F.tile_at s tiles canisters) tiles out t v here p.tokened (w ∙ ap (λ (x : Signal). M.tokened tile x.token) is);
          granted = g (ap (λ (x : Signal). x.grant) is);
          turned = u (ap (λ (x : Signal). F.side x.turn) is);
          lacking = l (ap (λ (x : Signal). x.missing) is);
        }

      no_grant : 0 ≡ F.grant_at s tiles canisters t → Filled 64 (F.grant_at s tiles canisters) 0 (t + 1) grants
      no_grant e = filled_skip 64 (F.grant_at s tiles canisters) 0 t grants e p.granted

      no_lack : 0 ≡ F.lack_at s tiles canisters t → Filled 65 (F.lack_at s tiles canisters) 0 (t + 1) lacks
      no_lack e = filled_skip 65 (F.lack_at s tiles canisters) 0 t lacks e p.lacking

      turn_to : (k : Side) → k ≡ F.turn_side s tiles canisters t → Filled 65 (F.turn_side s tiles canisters) M.no_side (t + 1) (set turns t k)
      turn_to k e = filled_turn 65 (F.turn_side s tiles canisters) M.no_side t turns k (omega (arith, here)) e p.turned

      -- a stopped tile
      pub stopped_turn : tile.running ≢ 1 → Signalled s tiles canisters all (set out t tile) grants (set turns t tile.token) lacks (t + 1)
      unfolding M.tokened
      stopped_turn r = next _ (signal_stopped s tile.running tile.token.code own wants r) refl no_grant (turn_to tile.token) no_lack

      -- k the side chosen of those that want
      module _ (r : tile.running ≡ 1) (sides : ℕ) (q : in_set sides ≡ wants) (k : Side) (e : k.code ≡ chosen (in_set sides) tile.token.code) {v : Tile} where
        pub none_turn : k.code ≡ 0 → v ≡ M.tokened tile 0 → Signalled s tiles canisters all (set out t v) grants turns lacks (t + 1)
        none_turn z w =
            next _ (signal_none s tile.running tile.token.code own wants r sides q k.code e z) w no_grant
            (λ u. filled_skip 65 (F.turn_side s tiles canisters) M.no_side t turns u p.turned) no_lack

        -- n is missing there
        module _ (some : k.code ≢ 0) {n : ℕ} (found : n ≡ missing s k.code own) where
          pub grants_turn : (after : ℕ) → n ≡ 0 → after ≡ following (in_set sides) k.code → v ≡ M.tokened tile after
              → Signalled s tiles canisters all (set out t v) (set grants t k.code) (set turns t k) lacks (t + 1)
          grants_turn after z f w =
              next _ (signal_grants s tile.running tile.token.code own wants r sides q k.code e some n found after z f) w
              (λ g. filled_turn 64 (F.grant_at s tiles canisters) 0 t grants k.code here g p.granted) (turn_to k) no_lack

          pub waits_turn : n ≢ 0 → v ≡ M.tokened tile k.code → Signalled s tiles canisters all (set out t v) grants (set turns t k) (set lacks t n) (t + 1)
          waits_turn z w =
              next _ (signal_stays s tile.running tile.token.code own wants r sides q k.code e some n found z) w no_grant (turn_to k)
              (λ l. filled_turn 65 (F.lack_at s tiles canisters) 0 t lacks n (omega (arith, here)) l p.lacking)

  -- the end of the pass
  module _ (over : all ≤ t) where
    all_of_lem : t ≡ total s
    all_of_lem = omega (arith, p.below, p.whole)

    turn_of_lem : (u : ℕ) → M.side_in turns u ≡ F.turns_at s tiles canisters u
    turn_of_lem = filled_within 65 (F.turn_side s tiles canisters) M.no_side (λ x. x.code) turns (total s) (filled_all 65 (F.turn_side s tiles canisters) M.no_side t (total s) turns all_of_lem p.turned)

    lack_of : (u : ℕ) → get_or lacks u 0 ≡ F.lacks_at s tiles canisters u
    lack_of = filled_within 65 (F.lack_at s tiles canisters) 0 (λ n. n) lacks (total s) (filled_all 65 (F.lack_at s tiles canisters) 0 t (total s) lacks all_of_lem p.lacking)

    pub reasons_asked : Ranged s × ((u : ℕ) → get_or lacks u 0 < 2 ^ 16)
    reasons_asked = (p.asked.ranged, λ u. rw (lack_of u) (p.asked.slight u))

    pub tiles_signalled : Redone (total s) (F.tile_at s tiles canisters) tiles out
    tiles_signalled = redone_end (F.tile_at s tiles canisters) tiles out t (total s) all_of_lem p.tokened

    pub grants_signalled : Filled 64 (F.grant_at s tiles canisters) 0 (total s) grants
    grants_signalled = filled_all 64 (F.grant_at s tiles canisters) 0 t (total s) grants all_of_lem p.granted

    pub reasons_signalled : (rs : List ℕ) → Filled 64 (M.reason_by s tiles (M.side_in turns) (λ u. get_or lacks u 0)) 0 (total s) rs → Filled 64 (F.reason_at s tiles canisters) 0 (total s) rs
    reasons_signalled rs r = subst (λ (g : ℕ → ℕ). Filled 64 g 0 (total s) rs) (λ i. M.reason_by s tiles (fun_ext turn_of_lem i) (fun_ext lack_of i)) r

    pub missing_signalled : (ms : List ℕ) → Filled 64 (M.lack_by s tiles (M.side_in turns) (λ u. get_or lacks u 0)) 0 (total s) ms → Filled 64 (F.beside_at s tiles canisters) 0 (total s) ms
    missing_signalled ms r = subst (λ (g : ℕ → ℕ). Filled 64 g 0 (total s) ms) (λ i. M.lack_by s tiles (fun_ext turn_of_lem i) (fun_ext lack_of i)) r
