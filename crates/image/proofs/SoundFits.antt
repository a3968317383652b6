-- A sound floor fits the image: every value its bytes.
use mathlib.Core.Path.{◌≡◌}
use mathlib.Core.Bool.{Bool, true, false, cond}
use mathlib.Core.List.{[], ◌∷◌}
use Prim.Native.Nat.{ℕ, zero, suc, ◌^◌, ◌≤◌, ◌<◌}
use native.Mathlib.Omega.{arith}
use native.Mathlib.Nat.{lt_of_lt_of_le}
use lib.Pow.{pow_mono}
use lib.Dec.{ltb}
use lib.ListN.{length, get_or, replicate}
use borrow.Author.Tests.{eqb-true, ltb-true}
use Rattle.laws.specs.Define.{tab}
use Rattle.laws.specs.Every.{All}
use Rattle.laws.proofs.Tests.{and_left, and_right}
use Rattle.laws.proofs.Lists.{all_imp, all_both, all_unmap, cat_all, all_each}
use Rattle.image_bytes.proofs.ByteLaws.{Fit}
use Rattle.floor.specs.Settings.{total, is_hopper, settings_pass, settings_refusal}
use Rattle.floor.specs.Layouts.{name_ok, layout_ok}
use Rattle.floor.specs.Model.{Model, no_tile_of, tile_of, members_of, numbers, numbers_on}
use Rattle.floor.proofs.Sound.{Sound, Inside}
use Rattle.floor.proofs.Well.{settings_fact, faces_le}
use Rattle.floor.proofs.FreshAndWidths.{part_le, flag_small, distance_small}
use Rattle.floor.proofs.Capacity.{sound_small}
use Rattle.floor.proofs.SoundLayouts.{sound_layouts_of}
use Rattle.image.specs.Image.{hopper_count, several, settings_widths, settings_values, counters_widths, counters_values, canister_widths, canister_values, encode}
use Rattle.image.proofs.Hoppers.{single, lowest_small}
use Rattle.image.proofs.Sizes.{encode_most}
use Rattle.image.proofs.Layouts.{LayoutFits}
use Rattle.image.proofs.WrittenLoads.{TileFits, Fits}

row : (h : ℕ) (f : ℕ → ℕ) → ((k : ℕ) → f k < 2 ^ 32) → Fit (replicate h 4) (tab h f)
unfolding tab
row zero f p = tt
row (suc h) f p = (p 0, row h (λ k. f (suc k)) (λ k. p (suc k)))

module _ (m : Model) (S : Sound m) where
  settings_fit : Fit (settings_widths (several m.settings)) (settings_values m.settings)
  settings_fit =
      let M = S.measured in
      let sources : m.settings.sources < 2 ^ 64 = lt_of_lt_of_le M.sources_on (pow_mono M.few) in (
        omega (arith, M.columns_few),
        (
          omega (arith, M.rows_few),
          (
            omega (arith, lowest_small m.settings M),
            (
              omega arith,
              (omega (arith, M.narrow), (omega (arith, M.short, M.narrow), (omega (arith, M.short, M.narrow), (omega (arith, M.slow, M.short, M.narrow), (sources, set (several m.settings)))))),
            ),
          ),
        ),
      )
    where
      set : (b : Bool) → Fit (cond b (8 ∷ []) []) (cond b (m.settings.hoppers ∷ []) [])
      set true = (lt_of_lt_of_le S.measured.hoppers_on (pow_mono S.measured.few), tt)
      set false = tt

  each_fits : (k : ℕ) → get_or m.counters.delivered k 0 < 2 ^ 32
  each_fits k = omega (arith, part_le m.counters.delivered k, S.counted, S.booked_last, S.last_fits)

  counters_fit : Fit (counters_widths (hopper_count m.settings)) (counters_values (hopper_count m.settings) m.counters)
  counters_fit = (S.last_fits, (omega (arith, S.booked_last, S.last_fits), row (hopper_count m.settings) (λ k. get_or m.counters.delivered k 0) each_fits))

  canisters_fit : (t : ℕ) → t < total m.settings → All (λ c. Fit canister_widths (canister_values c)) (members_of m t)
  unfolding numbers_on
  canisters_fit t l =
      let M = S.measured in
      let B = all_unmap (λ n. n ≤ m.counters.last) (λ c. c.number) (members_of m t) (cat_all (λ n. n ≤ m.counters.last) (total m.settings) (λ t. numbers (members_of m t)) t l S.below) in
      all_imp (λ c. (c.number ≤ m.counters.last) × Inside m.settings c) (λ c. Fit canister_widths (canister_values c)) (members_of m t)
      (λ c p. (omega (arith, p.0, S.last_fits), (omega (arith, p.1.in_a, M.narrow), (omega (arith, p.1.in_b, M.narrow), tt))))
      (all_both (λ c. c.number ≤ m.counters.last) (Inside m.settings) (members_of m t) B (S.inside t))

  tile_fits_lem : (t : ℕ) → t < total m.settings → TileFits (tile_of m t)
  tile_fits_lem t l = record {
    few = sound_small m S t;
    members = canisters_fit t l;
    head = λ u k. (k, (running, (distance, (next, (token, (count, tt))))));
  }
    where
      running : (tile_of m t).running < 256
      running = flag_small (tile_of m t).running (S.flag t)

      distance : (tile_of m t).distance < 256
      distance = distance_small (tile_of m t).distance (total m.settings) S.measured.few (S.capped t)

      next : (tile_of m t).next < 256
      next = omega (arith, faces_le m.settings t (tile_of m t).next (S.next_faces t))

      token : (tile_of m t).token < 256
      token = omega (arith, faces_le m.settings t (tile_of m t).token (S.token_faces t))

      count : length (members_of m t) < 256
      count = omega (arith, sound_small m S t)

  layouts_fit_lem : All LayoutFits m.layouts
  unfolding layout_ok name_ok
  layouts_fit_lem =
      all_imp (λ x. layout_ok m.settings x ≡ true) LayoutFits m.layouts
      (λ x h. let k = and_right (name_ok x.name) _ h in
      let n = ltb-true x.name (2 ^ 64) (and_left (ltb x.name (2 ^ 64)) _ (and_right (ltb 0 x.name) _ (and_left (name_ok x.name) _ h))) in
      let s = ltb-true x.set (2 ^ total m.settings) (and_left (ltb x.set (2 ^ total m.settings)) _ k) in
      record { name = n; set = lt_of_lt_of_le s (pow_mono S.measured.few) })
      (sound_layouts_of m.settings m.layouts S.layouts_sound_lem).each

  passed : settings_refusal m.settings ≡ 0
  unfolding settings_pass
  passed = eqb-true (settings_refusal m.settings) 0 ((settings_fact m.settings).1 S.measured)

  pub sound_fits : Fits m
  sound_fits = record {
    settings = settings_fit;
    counters = counters_fit;
    each = all_each TileFits no_tile_of m.tiles (λ t l. tile_fits_lem t (omega (arith, S.len)));
    many = S.len;
    few = omega (arith, S.len, S.measured.few);
    passed = passed;
    hoppers_few = S.measured.hoppers_few;
    single = single m.settings S.measured;
    four = S.four;
    spare = S.spare;
    layout_fits = layouts_fit_lem;
    eight = (sound_layouts_of m.settings m.layouts S.layouts_sound_lem).eight;
  }

  -- "The longest image is 8,908 bytes."
  pub sound_most : length (encode m) ≤ 8908
  unfolding is_hopper
  sound_most =
      encode_most m (sound_layouts_of m.settings m.layouts S.layouts_sound_lem).eight (omega (arith, S.len, S.measured.few)) S.len S.measured.hoppers_some (sound_small m S) S.hopper_empty
