-- Well formed but for the layouts is what the code tests: the settings, tile by tile, the counters, the numbers.
use mathlib.Core.Path.{◌≡◌, refl, sym, ap, ◌∙◌, subst}
use mathlib.Core.Logic.{◌↔◌}
use mathlib.Core.Bool.{Bool, true, false, not, ◌&&◌, ◌||◌, true≢false}
use mathlib.Core.List.{List, []}
use Prim.Native.Nat.{ℕ, suc, ◌≤◌, ◌<◌}
use native.Mathlib.Omega.{arith}
use native.Mathlib.Decide.{dec_le}
use lib.Dec.{leb, ltb, eqb}
use lib.ListN.{length}
use borrow.Author.Tests.{ltb-true, lt-ltb, le-ltb, eq-eqb}
use Rattle.laws.specs.Define.{all_of, pairs_of, all_below}
use Rattle.laws.specs.Every.{All, Pairs}
use Rattle.laws.proofs.Tests.{same_test, and_left, and_right, and_true, and_no, and_yes, r_id, r_and, r_lt, r_pairs}
use Rattle.laws.proofs.Tables.{below_at, below_of}
use Rattle.laws.proofs.Lists.{all_imp, all_both, all_map, all_unmap, all_true, true_all, cat_all, no_length}
use Rattle.std.proofs.Common.{Result, Ok, Err, lit<}
use Rattle.std.specs.Result.{is_ok}
use Rattle.floor.specs.Numbers.{refusal_number, answered}
use Rattle.floor.specs.declared.refusal.Refusal.{Refusal}
use Rattle.floor.specs.declared.refusal.Refusal.TheVariants.{Grid, Sets, Measure, NoTile, NotASource, NumberZero, Outside, StopOfHopper, ImageEnds, OtherKind, RecordShape, ImageMalformed, ShortBuffer, Malformed, Stopped, Running, NumberUsed, TooClose, NoPlace, ListTooLong, ShortPage, BadName, NameNotHeld, LayoutsFull, BadLabel, NotReleased, NoFloor, Overloaded}
use Rattle.floor.specs.declared.Canister.{Canister}
use Rattle.floor.specs.declared.Settings.{Settings}
use Rattle.floor.specs.declared.Floor.{Floor}
use Rattle.floor.specs.Settings.{total, spacing, hoppers_of, settings_refusal, settings_pass, Ranged}
use Rattle.floor.specs.Model.{tile_of, numbers, numbers_on}
use Rattle.floor.specs.Memory.{head_of, view, block, tile_fits}
use Rattle.floor.specs.Well.{head_sound, inside, apart, in_order, members_sound, tile_sound, numbers_sound, counters_sound, state_sound, state_well, well_formed}
use Rattle.floor.proofs.Well.{settings_fact, ranged, pairs_imp, pass_of, pass_not}
use Rattle.floor.proofs.Rows.{state_fits_of, state_fit_at, view_length}
use Rattle.floor.proofs.Pack.{well_parts}
use Rattle.floor.proofs.LayoutPlaces.{place_test, layouts_code}
use Rattle.check_unique.specs.InternalDiffer.{differ, Runs}
use Rattle.check_places.specs.InternalPlace.{member_sound}
use Rattle.check_floor.specs.InternalTile.{used_sound, tile_test, tiles_test}
use Rattle.check_floor.specs.InternalCode.{counted}
use Rattle.check_floor.proofs.Joins.{all_cat}
use Rattle.check_floor.proofs.Blocks.{used_of, Fit, used_off, tile_view, numbers_view, count_view, differ_view, runs_view}

-- a number from 1 to the last booked
abbrev pub Numbered : ℕ → ℕ → Type 0
Numbered last n = (ltb 0 n && leb n last) ≡ true

some_fails : (p : ℕ → Bool) (n t : ℕ) → t < n → p t ≡ false → all_below p n ≡ false
some_fails p n t l h = go (all_below p n) refl
  where
    go : (b : Bool) → all_below p n ≡ b → all_below p n ≡ false
    go true e = absurd (true≢false (sym (below_at p n e t l) ∙ h))
    go false e = e

-- ---- one member, one tile
member_parts : (s : Settings) (last : ℕ) (l : List Canister) → all_of (member_sound s last) l ≡ true ↔ (all_of (inside s) l ≡ true × All (λ c. Numbered last c.number) l)
unfolding member_sound
member_parts s last l = (into, out)
  where
    into : all_of (member_sound s last) l ≡ true → all_of (inside s) l ≡ true × All (λ c. Numbered last c.number) l
    into h =
        let a = all_true (member_sound s last) l h in (
          true_all (inside s) l (all_imp (λ c. member_sound s last c ≡ true) (λ c. inside s c ≡ true) l (λ c k. and_left (inside s c) _ k) a),
          all_imp (λ c. member_sound s last c ≡ true) (λ c. Numbered last c.number) l (λ c k. and_right (inside s c) _ k) a,
        )

    out : all_of (inside s) l ≡ true × All (λ c. Numbered last c.number) l → all_of (member_sound s last) l ≡ true
    out p =
        true_all (member_sound s last) l
        (all_imp (λ c. (inside s c ≡ true) × Numbered last c.number) (λ c. member_sound s last c ≡ true) l (λ c k. and_true k.0 k.1)
        (all_both (λ c. inside s c ≡ true) (λ c. Numbered last c.number) l (all_true (inside s) l p.0) p.1))

-- the head and the members of a tile on the floor
abbrev pub Tests : Floor → ℕ → Type 0
Tests f t =
    (head_sound f.settings t (head_of f t) && members_sound f.settings (used_of f t)) ≡ true
    × All (λ c. Numbered f.counters.last c.number) (used_of f t)

abbrev pub test_of : Floor → ℕ → Bool
test_of f = tiles_test f.settings f.counters.last f.tiles f.canisters

pub test_fit : (f : Floor) (t : ℕ) → test_of f t ≡ true → Fit f t
unfolding tiles_test tile_test
test_fit f t h = and_left (tile_fits f.settings t (head_of f t) (block f.canisters t)) _ h

test_tests : (f : Floor) (t : ℕ) → test_of f t ≡ true → t < total f.settings → Tests f t
unfolding tiles_test tile_test used_sound members_sound
test_tests f t h on =
    let a : head_sound f.settings t (head_of f t) && (all_of (member_sound f.settings f.counters.last) (used_of f t) && pairs_of (in_order f.settings) (used_of f t)) ≡ true
    = rw (lt-ltb t (total f.settings) on) at (and_right (tile_fits f.settings t (head_of f t) (block f.canisters t)) _ h) in
    let b = and_right (head_sound f.settings t (head_of f t)) _ a in
    let m = (member_parts f.settings f.counters.last (used_of f t)).0 (and_left (all_of (member_sound f.settings f.counters.last) (used_of f t)) _ b) in
    (and_true (and_left (head_sound f.settings t (head_of f t)) _ a) (and_true m.0 (and_right (all_of (member_sound f.settings f.counters.last) (used_of f t)) _ b)), m.1)

test_of_lem : (f : Floor) (t : ℕ) → Fit f t → (t < total f.settings → Tests f t) → test_of f t ≡ true
unfolding tiles_test tile_test used_sound members_sound
test_of_lem f t fit g = and_true fit (go (dec_le (suc t) (total f.settings)))
  where
    go : Dec (t < total f.settings)
        → (not (ltb t (total f.settings)) || (head_sound f.settings t (head_of f t) && (all_of (member_sound f.settings f.counters.last) (used_of f t) && pairs_of (in_order f.settings) (used_of f t)))) ≡ true
    go (no off) = let q : total f.settings ≤ t = omega arith in rw (le-ltb t (total f.settings) q)
    go (yes on) =
        let a = (g on).0 in
        let b = and_right (head_sound f.settings t (head_of f t)) _ a in
        rw (lt-ltb t (total f.settings) on)
        (and_true (and_left (head_sound f.settings t (head_of f t)) _ a)
        (and_true ((member_parts f.settings f.counters.last (used_of f t)).1 (and_left (all_of (inside f.settings) (used_of f t)) _ b, (g on).1)) (and_right (all_of (inside f.settings) (used_of f t)) _ b)))

abbrev InOrder : Settings → Canister → Canister → Type 0
InOrder s x y = (x.number < y.number) × (apart (spacing s) x y ≡ true)

rising : (s : Settings) (l : List Canister) → pairs_of (in_order s) l ≡ true → Pairs (λ x y. x.number < y.number) l
unfolding in_order
rising s l h =
    let reads = r_pairs (in_order s) (InOrder s) (λ x y. r_and (r_lt x.number y.number) (r_id (apart (spacing s) x y))) l in
    pairs_imp (InOrder s) (λ x y. x.number < y.number) l (λ x y r. r.0) (reads.0 h)

-- ---- what passing tests say of every tile, on the floor or not
module _ (f : Floor) (all : all_below (test_of f) 64 ≡ true) where
  pub fit_each : (t : ℕ) → t < 64 → Fit f t
  fit_each t h = test_fit f t (below_at (test_of f) 64 all t h)

  pub numbered_each : (t : ℕ) → t < 64 → All (λ c. Numbered f.counters.last c.number) (used_of f t)
  numbered_each t h = go (dec_le (suc t) (total f.settings))
    where
      go : Dec (t < total f.settings) → All (λ c. Numbered f.counters.last c.number) (used_of f t)
      go (yes on) = (test_tests f t (below_at (test_of f) 64 all t h) on).1
      go (no off) = subst (λ l. All (λ c. Numbered f.counters.last c.number) l) (sym (used_off f t (fit_each t h) (omega arith))) tt

  pub positive_each : (t : ℕ) → t < 64 → All (λ c. 0 < c.number) (used_of f t)
  positive_each t h = all_imp (λ c. Numbered f.counters.last c.number) (λ c. 0 < c.number) (used_of f t) (λ c k. ltb-true 0 c.number (and_left (ltb 0 c.number) _ k)) (numbered_each t h)

  pub rising_each : (t : ℕ) → t < 64 → Pairs (λ x y. x.number < y.number) (used_of f t)
  unfolding members_sound
  rising_each t h = go (dec_le (suc t) (total f.settings))
    where
      go : Dec (t < total f.settings) → Pairs (λ x y. x.number < y.number) (used_of f t)
      go (yes on) = rising f.settings (used_of f t) (and_right (all_of (inside f.settings) (used_of f t)) _ (and_right (head_sound f.settings t (head_of f t)) _ (test_tests f t (below_at (test_of f) 64 all t h) on).0))
      go (no off) = subst (λ l. Pairs (λ x y. x.number < y.number) l) (sym (used_off f t (fit_each t h) (omega arith))) tt

  pub keys_run : length f.canisters ≡ 1024 → Runs (numbers f.canisters)
  keys_run lc = runs_view f lc fit_each positive_each rising_each

-- ---- the parts of sound
sound_parts : (f : Floor) → state_sound (view f) ≡ true
    ↔ (settings_pass f.settings ≡ true × ((eqb (length (view f).tiles) (total f.settings) ≡ true)
    × ((all_below (λ t. tile_sound f.settings t (tile_of (view f) t)) (total f.settings) ≡ true)
    × ((all_of (λ n. ltb 0 n && leb n f.counters.last) (numbers_on (view f)) ≡ true × pairs_of (λ x y. not (eqb x y)) (numbers_on (view f)) ≡ true)
    × (counters_sound (length (hoppers_of f.settings)) f.counters (length (numbers_on (view f))) ≡ true)))))
unfolding state_sound view numbers_sound
sound_parts f = r_and (r_id _) (r_and (r_id _) (r_and (r_id _) (r_and (r_and (r_id _) (r_id _)) (r_id _))))

abbrev pub well_test : Floor → Bool
well_test f = settings_pass f.settings && (all_below (test_of f) 64 && (counters_sound (length (hoppers_of f.settings)) f.counters (counted f.tiles 64) && differ (numbers f.canisters)))

module _ (f : Floor) (lt : length f.tiles ≡ 64) (lc : length f.canisters ≡ 1024) where
  few_of_pass : settings_pass f.settings ≡ true → total f.settings ≤ 64
  few_of_pass h = ((settings_fact f.settings).0 h).few

  into : state_well f ≡ true → well_test f ≡ true
  unfolding state_well
  into h =
      let p = (sound_parts f).0 (and_left (state_sound (view f)) _ h) in
      let few = few_of_pass p.0 in
      let fit = state_fit_at f (and_right (state_sound (view f)) _ h) in
      let nums = subst (λ l. All (Numbered f.counters.last) l) (numbers_view f lc few fit) (all_true (λ n. ltb 0 n && leb n f.counters.last) (numbers_on (view f)) p.1.1.1.0.0) in
      let one : (t : ℕ) → t < 64 → All (λ c. Numbered f.counters.last c.number) (used_of f t)
      = λ t k. all_unmap (Numbered f.counters.last) (λ (c : Canister). c.number) (used_of f t) (cat_all (Numbered f.counters.last) 64 (λ t. numbers (used_of f t)) t k nums) in
      let all = below_of (test_of f) 64 (λ t k. test_of_lem f t (fit t k) (λ on. (sym (tile_view f t lc k (fit t k) on) ∙ below_at (λ t. tile_sound f.settings t (tile_of (view f) t)) (total f.settings) p.1.1.0 t on, one t k))) in
      and_true p.0
      (and_true all
      (and_true (ap (counters_sound (length (hoppers_of f.settings)) f.counters) (sym (count_view f lc few fit)) ∙ p.1.1.1.1) (differ_view f lc few fit (positive_each f all) ∙ p.1.1.1.0.1)))

  out : well_test f ≡ true → state_well f ≡ true
  unfolding state_well
  out h =
      let pass = and_left (settings_pass f.settings) _ h in
      let h1 = and_right (settings_pass f.settings) _ h in
      let all = and_left (all_below (test_of f) 64) _ h1 in
      let h2 = and_right (all_below (test_of f) 64) _ h1 in
      let cnt = and_left (counters_sound (length (hoppers_of f.settings)) f.counters (counted f.tiles 64)) _ h2 in
      let dif = and_right (counters_sound (length (hoppers_of f.settings)) f.counters (counted f.tiles 64)) _ h2 in
      let few = few_of_pass pass in
      let fit = fit_each f all in
      let nums = all_cat (Numbered f.counters.last) 64 (λ t. numbers (used_of f t)) (λ t k. all_map (Numbered f.counters.last) (λ (c : Canister). c.number) (used_of f t) (numbered_each f all t k)) in
      let each = true_all (λ n. ltb 0 n && leb n f.counters.last) (numbers_on (view f)) (subst (λ l. All (Numbered f.counters.last) l) (sym (numbers_view f lc few fit)) nums) in
      let tiles = below_of (λ t. tile_sound f.settings t (tile_of (view f) t)) (total f.settings) (λ t on. let k : t < 64 = omega arith in tile_view f t lc k (fit t k) on ∙ (test_tests f t (below_at (test_of f) 64 all t k) on).0) in
      and_true
      ((sound_parts f).1 (pass, (eq-eqb _ _ (view_length f), (tiles, ((each, sym (differ_view f lc few fit (positive_each f all)) ∙ dif), ap (counters_sound (length (hoppers_of f.settings)) f.counters) (count_view f lc few fit) ∙ cnt)))))
      (state_fits_of f lt lc fit)

  pub well_code : state_well f ≡ well_test f
  well_code = same_test (state_well f) (well_test f) into out

  -- ---- the code's branches
  pub well_refused : settings_pass f.settings ≡ false → false ≡ state_well f
  well_refused h = rw (well_code, h)

  pub well_unlike : settings_pass f.settings ≡ true → (t : ℕ) → t < 64 → test_of f t ≡ false → false ≡ state_well f
  well_unlike p t on h = rw (well_code, p, some_fails (test_of f) 64 t on h)

  pub well_tiled : settings_pass f.settings ≡ true → all_below (test_of f) 64 ≡ true → (counters_sound (length (hoppers_of f.settings)) f.counters (counted f.tiles 64) && differ (numbers f.canisters)) ≡ state_well f
  well_tiled p h = rw (well_code, p, h)

  pub well_empty : settings_pass f.settings ≡ true → all_below (test_of f) 64 ≡ true → counted f.tiles 64 ≡ 0 → counters_sound (length (hoppers_of f.settings)) f.counters (counted f.tiles 64) ≡ state_well f
  unfolding pairs_of
  well_empty p h z =
      let few = few_of_pass p in
      let fit = fit_each f h in
      let none : numbers_on (view f) ≡ [] = no_length (numbers_on (view f)) (count_view f lc few fit ∙ z) in
      let d : differ (numbers f.canisters) ≡ true = differ_view f lc few fit (positive_each f h) ∙ ap (pairs_of (λ x y. not (eqb x y))) none in
      let count = counters_sound (length (hoppers_of f.settings)) f.counters (counted f.tiles 64) in
      sym (and_yes count) ∙ ap (λ (b : Bool). count && b) (sym d) ∙ well_tiled p h

-- ---- the settings
pub pass_sized : (s : Settings) → settings_pass s ≡ true → Ranged s × (s.length ≤ s.width)
pass_sized s h = let m = (settings_fact s).0 h in (ranged s h, omega (arith, m.short))

positive : (r : Refusal) → 0 < refusal_number r
positive Grid = lit< tt
positive Sets = lit< tt
positive Measure = lit< tt
positive NoTile = lit< tt
positive NotASource = lit< tt
positive NumberZero = lit< tt
positive Outside = lit< tt
positive StopOfHopper = lit< tt
positive ImageEnds = lit< tt
positive OtherKind = lit< tt
positive RecordShape = lit< tt
positive ImageMalformed = lit< tt
positive ShortBuffer = lit< tt
positive Malformed = lit< tt
positive Stopped = lit< tt
positive Running = lit< tt
positive NumberUsed = lit< tt
positive TooClose = lit< tt
positive NoPlace = lit< tt
positive ListTooLong = lit< tt
positive ShortPage = lit< tt
positive BadName = lit< tt
positive NameNotHeld = lit< tt
positive LayoutsFull = lit< tt
positive BadLabel = lit< tt
positive NotReleased = lit< tt
positive NoFloor = lit< tt
positive Overloaded = lit< tt

-- whether nothing refuses the settings
pub settings_tested : (s : Settings) (o : Result (Unit {0}) Refusal) → answered o ≡ settings_refusal s → is_ok o ≡ settings_pass s
settings_tested s (Ok x) e = sym (pass_of s 0 e refl)
settings_tested s (Err r) e = let p = positive r in sym (pass_not s (refusal_number r) e (λ z. absurd (omega arith)))

-- ---- with the layouts
pub state_off : (f : Floor) → false ≡ state_well f → false ≡ well_formed f
state_off f h = rw (well_parts f, sym h)

pub layouts_off : (f : Floor) → length f.layouts ≡ 8 → all_below (place_test f.settings f.layouts) 8 ≡ false → false ≡ well_formed f
layouts_off f e h = rw (well_parts f, layouts_code f e, h) (sym (and_no (state_well f)))

pub layouts_on : (f : Floor) → length f.layouts ≡ 8 → all_below (place_test f.settings f.layouts) 8 ≡ true → state_well f ≡ well_formed f
layouts_on f e h = rw (well_parts f, layouts_code f e, h) (sym (and_yes (state_well f)))
