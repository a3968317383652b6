-- First laws: a fresh floor is well formed, the all-zero floor is not, and each field of a well-formed floor has its width.
use mathlib.Core.Path.{◌≡◌, refl, sym, ap, ◌∙◌, subst}
use mathlib.Core.Logic.{◌⊎◌, inl, inr}
use mathlib.Core.Bool.{Bool, true, false, cond, true≢false}
use mathlib.Core.List.{List, [], ◌∷◌}
use Prim.Native.Nat.{ℕ, zero, suc, ◌/◌, ◌%◌, ◌^◌, ◌≤◌, ◌<◌}
use native.Mathlib.Omega.{arith}
use native.Mathlib.Nat.{lt_of_lt_of_le}
use native.Mathlib.Decide.{dec_le}
use lib.ListN.{get_or, get_or-eq_default}
use lib.Pow.{pow_mono}
use borrow.Author.Tests.{eq-eqb, ne_eqb, lt-leb}
use Rattle.laws.specs.Define.{refusal, all_of, pairs_of, sum}
use Rattle.laws.specs.Every.{All}
use Rattle.laws.proofs.Tables.{tab_length, tab_at, tab_off, zeros_at}
use Rattle.laws.proofs.Lists.{all_get, all_both, all_imp, all_unmap, cat_all, cat_empty}
use Rattle.floor.specs.declared.Canister.{Canister}
use Rattle.floor.specs.declared.Settings.{Settings}
use Rattle.floor.specs.declared.Tile.{Tile}
use Rattle.floor.specs.declared.Floor.{Floor}
use Rattle.floor.specs.Settings.{total, spacing, is_hopper, settings_tests, settings_refusal, settings_pass}
use Rattle.floor.specs.Model.{TileState, no_tile_of, tile_of, members_of, numbers, numbers_on}
use Rattle.floor.specs.Layouts.{layouts_sound}
use Rattle.floor.specs.Memory.{zero_tile, zero_canister, zero_floor, head_of, state_of, view, unused, head, pack}
use Rattle.floor.specs.Well.{apart, state_sound, sound, well_formed}
use Rattle.floor.specs.Calls.{refusal_of, answer, fresh_tile, fresh_floor, fresh_answer, book_tests, book_answer}
use Rattle.floor.specs.Capacity.{FullTiles}
use Rattle.floor.proofs.Sound.{Measured, Inside, Sound}
use Rattle.floor.proofs.Well.{settings_fact, inside_fact, faces_le, SoundHead, SoundTile, Counted, sound_of}
use Rattle.floor.proofs.Rows.{view_at}
use Rattle.floor.proofs.Pack.{zero_off, shown, pack_view, place_shown, well_sound, well_fits, well_few, well_measured, well_lengths, well_head}
use Rattle.floor.proofs.Capacity.{fit_along, few_along, few_product, few_sixteen, product_refused, sound_small, sound_well}

-- ---- fresh
fresh_tile_lem : (s : Settings) → Measured s → (t : ℕ) → SoundTile s t (fresh_tile s t)
unfolding fresh_tile
fresh_tile_lem s M t = ((own, (inl refl, inl refl)), (tt, tt))
  where
    near : (b : Bool) → (cond {A = ℕ} b 0 255 < total s) ⊎ (cond {A = ℕ} b 0 255 ≡ 255)
    near true = inl (omega (arith, M.two))
    near false = inr refl

    own : SoundHead s t (fresh_tile s t)
    own = record {
      flag = inl refl;
      hopper_runs = λ _. refl;
      hopper_distance = λ e. rw e;
      hopper_next = λ _. refl;
      hopper_empty = λ _. refl;
      off_hopper = λ e. rw e (omega arith);
      capped = near (is_hopper s t);
      next_iff = λ e _. (λ _. rw e, λ _. refl);
      stop_distance = λ k. absurd (true≢false k);
      stop_next = λ k. absurd (true≢false k);
      stop_token = λ k. absurd (true≢false k);
    }

pub fresh_sound : (s : Settings) → Measured s → Sound (fresh_floor s)
unfolding fresh_floor fresh_tile numbers_on sum layouts_sound all_of pairs_of
fresh_sound s M = sound_of (fresh_floor s) M (tab_length (total s) (fresh_tile s)) (λ t l. subst (SoundTile s t) (sym (tile t l)) (fresh_tile_lem s M t)) counted no_layouts
  where
    tile : (t : ℕ) → t < total s → tile_of (fresh_floor s) t ≡ fresh_tile s t
    tile t l = tab_at (total s) (fresh_tile s) t no_tile_of l

    none : numbers_on (fresh_floor s) ≡ []
    none = cat_empty (total s) (λ t. numbers (members_of (fresh_floor s) t)) (λ t l. ap (λ (x : TileState). numbers x.members) (tile t l))

    no_layouts : layouts_sound s [] ≡ true
    no_layouts = refl

    counted : Counted (fresh_floor s)
    counted = rw none ((tt, tt), (refl, (λ k _. zeros_at 0 4 k, omega arith)))

pub fresh_well : (s : Settings) → settings_refusal s ≡ 0 → well_formed (fresh_answer s).floor ≡ true
unfolding fresh_answer settings_pass
fresh_well s e =
    let M : Measured s = (settings_fact s).0 (eq-eqb _ 0 e) in
    rw (eq-eqb _ 0 e) (sound_well (fresh_floor s) (fresh_sound s M))

pub zero_malformed : well_formed zero_floor ≡ false
unfolding well_formed sound state_sound view zero_floor settings_pass settings_refusal settings_tests refusal
zero_malformed = refl

-- ---- a well-formed floor is what its value packs to
pub pack_view_well : (f : Floor) → well_formed f ≡ true → pack (view f) ≡ f
pack_view_well f h = pack_view f (well_few f h) (well_fits f h)

-- ---- widths
pub flag_small : (x : ℕ) → (x ≡ 1) ⊎ (x ≡ 0) → x < 256
flag_small x (inl e) = omega arith
flag_small x (inr e) = omega arith

pub distance_small : (x n : ℕ) → n ≤ 64 → (x < n) ⊎ (x ≡ 255) → x < 256
distance_small x n h (inl e) = omega arith
distance_small x n h (inr e) = omega arith

pub record Widths (f : Floor) : Type 0 where
  pub number_fits : (i : ℕ) → (get_or f.canisters i zero_canister).number < 2 ^ 32
  pub a_fits : (i : ℕ) → (get_or f.canisters i zero_canister).a < 2 ^ 16
  pub b_fits : (i : ℕ) → (get_or f.canisters i zero_canister).b < 2 ^ 16
  pub running_fits : (t : ℕ) → (head_of f t).running < 256
  pub distance_fits : (t : ℕ) → (head_of f t).distance < 256
  pub next_fits : (t : ℕ) → (head_of f t).next.code < 256
  pub token_fits : (t : ℕ) → (head_of f t).token.code < 256
  pub count_fits : (t : ℕ) → (head_of f t).count < 256
  pub last_fits : f.counters.last < 2 ^ 32
  pub booked_fits : f.counters.booked < 2 ^ 32
  pub delivered_fits : (k : ℕ) → get_or f.counters.delivered k 0 < 2 ^ 32
  pub columns_fits : f.settings.columns < 256
  pub rows_fits : f.settings.rows < 256
  pub hoppers_fits : f.settings.hoppers < 2 ^ 64
  pub sources_fits : f.settings.sources < 2 ^ 64
  pub width_fits : f.settings.width < 2 ^ 16
  pub length_fits : f.settings.length < 2 ^ 16
  pub gap_fits : f.settings.gap < 2 ^ 16
  pub travel_fits : f.settings.travel < 2 ^ 16

-- one counter is at most the sum
pub part_le : (l : List ℕ) (k : ℕ) → get_or l k 0 ≤ sum l
unfolding sum
part_le [] k = omega arith
part_le (x ∷ l) zero = omega arith
part_le (x ∷ l) (suc k) = omega (arith, part_le l k)

module _ (f : Floor) (w : well_formed f ≡ true) where
  abbrev C : ℕ
  C = total f.settings

  abbrev Fine : Canister → Type 0
  Fine c = (c.number < 2 ^ 32) × ((c.a < 2 ^ 16) × (c.b < 2 ^ 16))

  abbrev Narrow : Tile → Type 0
  Narrow h = (h.running < 256) × ((h.distance < 256) × ((h.next.code < 256) × ((h.token.code < 256) × (h.count < 256))))

  seen : (t : ℕ) → t < C → tile_of (view f) t ≡ state_of f t
  seen t l = view_at f t no_tile_of l

  fine_on : (t : ℕ) → t < C → All Fine (members_of (view f) t)
  unfolding view numbers_on
  fine_on t l =
      let S = well_sound f w in
      let M = well_measured f w in
      let B = all_unmap (λ n. n ≤ f.counters.last) (λ c. c.number) (members_of (view f) t) (cat_all (λ n. n ≤ f.counters.last) C (λ t. numbers (members_of (view f) t)) t l S.below) in
      all_imp (λ c. (c.number ≤ f.counters.last) × Inside f.settings c) Fine (members_of (view f) t)
      (λ c p. (omega (arith, p.0, S.last_fits), (omega (arith, p.1.in_a, M.narrow), omega (arith, p.1.in_b, M.narrow))))
      (all_both (λ c. c.number ≤ f.counters.last) (Inside f.settings) (members_of (view f) t) B (S.inside t))

  fine_shown : (t : ℕ) → All Fine (shown f t).members
  fine_shown t = go (dec_le (suc t) C)
    where
      go : Dec (t < C) → All Fine (shown f t).members
      go (yes l) = subst (λ (x : TileState). All Fine x.members) (seen t l ∙ sym (tab_at C (state_of f) t unused l)) (fine_on t l)
      go (no l) = let q : C ≤ t = omega arith in subst (λ (x : TileState). All Fine x.members) (sym (tab_off C (state_of f) t unused q)) tt

  fine : (i : ℕ) → Fine (get_or f.canisters i zero_canister)
  fine i = go (dec_le (suc i) 1024)
    where
      zero_fine : Fine zero_canister
      zero_fine = omega arith

      go : Dec (i < 1024) → Fine (get_or f.canisters i zero_canister)
      go (yes l) = subst Fine (sym (place_shown f (well_few f w) (well_fits f w) i l)) (all_get Fine (shown f (i / 16)).members zero_canister zero_fine (fine_shown (i / 16)) (i % 16))
      go (no l) = subst Fine (sym (get_or-eq_default f.canisters zero_canister (omega (arith, (well_lengths f w).1)))) zero_fine

  narrow : (t : ℕ) → Narrow (head_of f t)
  unfolding head view
  narrow t = go (dec_le (suc t) C) (dec_le (suc t) 64)
    where
      S : Sound (view f)
      S = well_sound f w

      on : t < C → Narrow (head (tile_of (view f) t))
      on l = (flag_small _ (S.flag t), (distance_small _ C (well_few f w) (S.capped t), (omega (arith, faces_le f.settings t _ (S.next_faces t)), (omega (arith, faces_le f.settings t _ (S.token_faces t)), omega (arith, sound_small (view f) S t)))))

      zero_narrow : Narrow zero_tile
      zero_narrow = omega arith

      go : Dec (t < C) → Dec (t < 64) → Narrow (head_of f t)
      go (yes l) q = subst Narrow (ap head (seen t l) ∙ well_head f t w l) (on l)
      go (no l) (yes q) = let o : C ≤ t = omega arith in subst Narrow (sym (zero_off f (well_few f w) (well_fits f w) t q o)) zero_narrow
      go (no l) (no q) = subst Narrow (sym (get_or-eq_default f.tiles zero_tile (omega (arith, (well_lengths f w).0)))) zero_narrow

  pub well_widths : Widths f
  unfolding view
  well_widths =
      let S = well_sound f w in
      let M = well_measured f w in
      record {
        number_fits = λ i. (fine i).0;
        a_fits = λ i. (fine i).1.0;
        b_fits = λ i. (fine i).1.1;
        running_fits = λ t. (narrow t).0;
        distance_fits = λ t. (narrow t).1.0;
        next_fits = λ t. (narrow t).1.1.0;
        token_fits = λ t. (narrow t).1.1.1.0;
        count_fits = λ t. (narrow t).1.1.1.1;
        last_fits = S.last_fits;
        booked_fits = omega (arith, S.last_fits, S.booked_last);
        delivered_fits = λ k. omega (arith, S.last_fits, S.booked_last, S.counted, part_le f.counters.delivered k);
        columns_fits = omega (arith, M.columns_few);
        rows_fits = omega (arith, M.rows_few);
        hoppers_fits = lt_of_lt_of_le M.hoppers_on (pow_mono M.few);
        sources_fits = lt_of_lt_of_le M.sources_on (pow_mono M.few);
        width_fits = omega (arith, M.narrow);
        length_fits = omega (arith, M.narrow, M.short);
        gap_fits = omega (arith, M.narrow, M.short);
        travel_fits = omega (arith, M.narrow, M.short, M.slow);
      }

-- ---- "No refusal for a full tile is needed"
pub capacity : FullTiles
unfolding book_answer answer refusal_of refusal book_tests view
capacity f w =
    let S = well_sound f w in
    let s = f.settings in
    let M = S.measured in
    record {
      fit = fit_along s M;
      along = few_along s M;
      product = λ t. few_product s M (members_of (view f) t) (S.inside t) (S.spaced t);
      sixteen = few_sixteen s M;
      full = λ t c full on source number place running above.
          let no : all_of (apart (spacing s) c) (members_of (view f) t) ≡ false = product_refused s M (members_of (view f) t) c (S.inside t) (S.spaced t) (omega (arith, full)) ((inside_fact s c).0 place) in
          rw (w, lt-leb (total s) t on, source, ne_eqb c.number 0 number, place, running, lt-leb c.number f.counters.last above, no);
    }
