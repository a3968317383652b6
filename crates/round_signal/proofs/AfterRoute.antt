-- What Route leaves of a well-formed floor is read back as it was packed, and Signal may go on from it.
use mathlib.Core.Path.{◌≡◌, sym, ap, ◌∙◌}
use mathlib.Core.Bool.{true}
use Prim.Native.Nat.{ℕ, ◌≤◌, ◌<◌}
use mathlib.Core.List.{List}
use lib.ListN.{length}
use Rattle.laws.specs.InternalFilled.{Filled}
use Rattle.laws.specs.Define.{tab}
use Rattle.floor.specs.declared.Floor.{Floor}
use Rattle.floor.specs.declared.Tile.{Tile}
use Rattle.floor.specs.Settings.{total, settings_pass, Ranged}
use Rattle.floor.specs.Model.{Model, no_tile_of, token_of, members_of}
use Rattle.floor.specs.Memory.{head_of, retiled, state_of, view, unused, build, pack, fits}
use Rattle.floor.specs.Well.{well_formed}
use Rattle.floor.specs.Route.{route}
use Rattle.floor.specs.Signal.{signal, grant_of}
use Rattle.floor.specs.Reasons.{reason_of, missing_of}
use Rattle.floor.proofs.Well.{faces_le, ranged}
use Rattle.floor.proofs.Rows.{view_settings, fits_canisters, Placed}
use Rattle.floor.proofs.Pack.{state_packed, view_pack, fits_pack, well_sound, well_few, well_settings, well_fits, well_placed, few_on}
use Rattle.floor.proofs.Reasons.{signal_lacks}
use Rattle.floor.proofs.Capacity.{sound_small}
use Rattle.round_route.specs.InternalRouted.{Redone, routed_at}
use Rattle.round_route.proofs.RouteFloor.{route_pack, route_settings, route_length, route_token, route_members}
use Rattle.round_signal.proofs.FloorSignals.{Ready, tile_at, grant_at, reason_at, beside_at}
use Rattle.round_signal.proofs.Loops.{Asked}
use Rattle.round_signal.proofs.SignalFloor.{signal_pack, lack_view, reasons_pack, signal_settings, signal_length, signal_members}

module _ (f : Floor) (w : well_formed f ≡ true) where
  abbrev m : Model
  m = route (view f)

  len : length m.tiles ≡ total m.settings
  len = route_length (view f) ∙ ap total (sym (route_settings (view f)))

  kept : m.settings ≡ f.settings
  kept = route_settings (view f) ∙ view_settings f

  few : total m.settings ≤ 64
  few = rw kept (well_few f w)

  on : (t : ℕ) → t < total m.settings → t < total (view f).settings
  on t h = rw (sym (route_settings (view f))) h

  small : (t : ℕ) → t < total m.settings → length (members_of m t) ≤ 16
  small t h = rw (route_members (view f) t no_tile_of (on t h)) (sound_small (view f) (well_sound f w) t)

  placed : Placed m.layouts
  unfolding route
  placed = well_placed f w

  ready : Ready m.settings (pack m).tiles
  unfolding state_of
  ready t h =
      let e : (head_of (pack m) t).token.code ≡ token_of (view f) t = ap (λ x. x.token) (state_packed m len few small placed t h) ∙ route_token (view f) t unused (on t h) in
      rw e (faces_le (view f).settings t (token_of (view f) t) ((well_sound f w).token_faces t))

  pub signal_asks : (g : Floor) → g ≡ pack m → (settings_pass g.settings ≡ true) × (fits g ≡ true) × Ready g.settings g.tiles
  unfolding pack build
  signal_asks g e = rw e (rw kept (well_settings f w), fits_pack m len few small placed, ready)

  pub after_route : (g : Floor) → g ≡ pack m → view g ≡ m
  after_route g e = ap view e ∙ view_pack m len few small placed

  -- ---- the floor after both steps is read back too; for the step that follows
  abbrev last : Model
  last = signal m

  last_settings : last.settings ≡ m.settings
  last_settings = signal_settings m

  last_len : length last.tiles ≡ total last.settings
  last_len = signal_length m ∙ ap total (sym last_settings)

  last_few : total last.settings ≤ 64
  last_few = rw last_settings few

  last_small : (t : ℕ) → t < total last.settings → length (members_of last t) ≤ 16
  last_small t h =
      let on : t < total m.settings = rw (sym last_settings) h in
      rw (signal_members m t no_tile_of on) (small t on)

  last_placed : Placed last.layouts
  unfolding signal
  last_placed = placed

  pub signalled_view : view (pack (signal (route (view f)))) ≡ signal (route (view f))
  signalled_view = view_pack last last_len last_few last_small last_placed

  pub signalled_fits : fits (pack (signal (route (view f)))) ≡ true
  signalled_fits = fits_pack last last_len last_few last_small last_placed

  -- ---- from the tiles that Route gave
  module _ (ts : List Tile) (r : Redone (total f.settings) (routed_at f.settings f.tiles) f.tiles ts) where
    bounds : Ranged f.settings
    bounds = ranged f.settings (well_settings f w)

    packed : retiled f ts ≡ pack m
    packed = route_pack f bounds.2 (well_fits f w) ts r

    fitting : fits (retiled f ts) ≡ true
    fitting = (signal_asks (retiled f ts) packed).1

    read : view (retiled f ts) ≡ m
    read = after_route (retiled f ts) packed

    -- what Signal asks
    pub asked : Asked f.settings ts f.canisters
    asked = record {
      ranged = bounds;
      ready = (signal_asks (retiled f ts) packed).2;
      roomy = few_on (retiled f ts) bounds.2 fitting;
      slight = λ u. rw (lack_view (retiled f ts) bounds.2 fitting u, read) (signal_lacks (view f) (well_sound f w) u);
      tiles_length = r.0;
      canisters_length = fits_canisters f (well_fits f w);
    }

    -- what it gives
    pub given_tiles : (new : List Tile) (gs : List ℕ) → Redone (total f.settings) (tile_at f.settings ts f.canisters) ts new → Filled 64 (grant_at f.settings ts f.canisters) 0 (total f.settings) gs
        → (retiled f new ≡ pack (signal m)) × (gs ≡ tab 64 (grant_of m))
    given_tiles new gs a b =
        let both = signal_pack (retiled f ts) bounds.2 fitting new gs a b in
        (both.0 ∙ ap (λ (x : Model). pack (signal x)) read, both.1 ∙ ap (λ (x : Model). tab 64 (grant_of x)) read)

    pub given_reasons : (rs ms : List ℕ) → Filled 64 (reason_at f.settings ts f.canisters) 0 (total f.settings) rs → Filled 64 (beside_at f.settings ts f.canisters) 0 (total f.settings) ms
        → (rs ≡ tab 64 (reason_of m)) × (ms ≡ tab 64 (missing_of m))
    given_reasons rs ms a b =
        let why = reasons_pack (retiled f ts) bounds.2 fitting rs ms a b in
        (why.0 ∙ ap (λ (x : Model). tab 64 (reason_of x)) read, why.1 ∙ ap (λ (x : Model). tab 64 (missing_of x)) read)
