-- The Bool tests of specs/Well, read as the facts of Sound.
use mathlib.Core.Path.{◌≡◌, refl, sym, ap, ◌∙◌, subst}
use mathlib.Core.Logic.{◌⊎◌, inl, inr, ◌↔◌, ◌≢◌}
use mathlib.Core.Bool.{Bool, true, false, cond, ◌&&◌, false≢true}
use mathlib.Core.List.{List, [], ◌∷◌}
use Prim.Native.Nat.{ℕ, suc, ◌+◌, ◌-◌, ◌^◌, ◌≤◌, ◌<◌}
use native.Mathlib.Omega.{arith}
use native.Mathlib.Nat.{mul-le-mul}
use native.Mathlib.Decide.{dec_le}
use lib.Dec.{eqb}
use lib.ListN.{length, get_or, drop, length-drop, get_or-eq_default}
use lib.Seq.{get_or-drop}
use borrow.Author.Tests.{ltb-false, leb-false, eqb-true, eqb-false, le-ltb, lt-leb, eq-eqb, ne_eqb}
use Rattle.laws.specs.Define.{all_of, sum, bit}
use Rattle.laws.specs.Every.{All, Pairs}
use Rattle.laws.proofs.Tests.{not_both, and_left, and_right, and_true, r_le, r_lt, r_eq, r_ne, r_and, r_or, r_all, r_pairs, r_below, refusal_none, refusal_all_false}
use Rattle.laws.proofs.Tables.{all_at, all_from_each}
use Rattle.laws.proofs.Lists.{all_mem, all_imp, all_both, no_length}
use Rattle.laws.proofs.Search.{any_none, none_any}
use Rattle.laws.proofs.SetBits.{bit_off}
use Rattle.floor.specs.declared.Canister.{Canister}
use Rattle.floor.specs.declared.Settings.{Settings}
use Rattle.floor.specs.Sides.{sides}
use Rattle.floor.specs.Settings.{total, spacing, span, is_hopper, hoppers_of, settings_tests, settings_refusal, settings_pass, Ranged}
use Rattle.floor.specs.Model.{TileState, Model, no_tile_of, tile_of, runs, numbers_on}
use Rattle.floor.specs.Memory.{head}
use Rattle.floor.specs.Layouts.{layouts_sound}
use Rattle.floor.specs.Well.{hopper_sound, running_sound, stopped_sound, faces, head_sound, inside, apart, in_order, members_sound, tile_sound, numbers_sound, counters_sound, state_sound, sound}
use Rattle.floor.proofs.Grid.{neighbour_side}
use Rattle.floor.proofs.Sound.{Measured, Inside, Apart, Faces, Sound}

-- ---- the settings
pub settings_fact : (s : Settings) → settings_pass s ≡ true ↔ Measured s
unfolding settings_pass settings_refusal settings_tests
settings_fact s = (λ h. into (refusal_none (settings_tests s) (omega arith) (eqb-true _ 0 h)), λ m. eq-eqb _ 0 (refusal_all_false (settings_tests s) (out m)))
  where
    into : All {A = Bool × ℕ} (λ x. x.0 ≡ false) (settings_tests s) → Measured s
    into (p1, (p2, (p3, (p4, (p5, (h1, (h2, (h3, (h4, (p8, (p9, (p10, (p11, (p12, (p13, (p14, _)))))))))))))))) = record {
      columns_pos = ltb-false _ _ p1;
      columns_few = ltb-false _ _ p2;
      rows_pos = ltb-false _ _ p3;
      rows_few = ltb-false _ _ p4;
      two = ltb-false _ _ p5;
      few = mul-le-mul (ltb-false _ _ p2) (ltb-false _ _ p4);
      hoppers_on = leb-false _ _ h1;
      hoppers_some = ltb-false _ _ h2;
      hoppers_few = ltb-false _ _ h3;
      no_source = any_none (bit s.sources) (hoppers_of s) h4;
      sources_on = leb-false _ _ p8;
      wide = ltb-false _ _ p9;
      narrow = ltb-false _ _ p10;
      moving = ltb-false _ _ p11;
      slow = leb-false _ _ p12;
      short = leb-false _ _ p13;
      dense = ltb-false _ _ p14;
    }

    out : Measured s → All {A = Bool × ℕ} (λ x. x.0 ≡ false) (settings_tests s)
    out m = (le-ltb _ _ m.columns_pos, (le-ltb _ _ m.columns_few, (le-ltb _ _ m.rows_pos, (le-ltb _ _ m.rows_few, (le-ltb _ _ m.two, (lt-leb _ _ m.hoppers_on, (le-ltb _ _ m.hoppers_some, (le-ltb _ _ m.hoppers_few, (none_any (bit s.sources) (hoppers_of s) m.no_source, (lt-leb _ _ m.sources_on, (le-ltb _ _ m.wide, (le-ltb _ _ m.narrow, (le-ltb _ _ m.moving, (lt-leb _ _ m.slow, (lt-leb _ _ m.short, (le-ltb _ _ m.dense, tt))))))))))))))))

-- by the number that they are refused by
pub pass_of : (s : Settings) (r : ℕ) → r ≡ settings_refusal s → r ≡ 0 → settings_pass s ≡ true
unfolding settings_pass
pass_of s r e z = eq-eqb (settings_refusal s) 0 (sym e ∙ z)

pub pass_not : (s : Settings) (r : ℕ) → r ≡ settings_refusal s → (r ≡ 0 → ⊥) → settings_pass s ≡ false
unfolding settings_pass
pass_not s r e z = ne_eqb (settings_refusal s) 0 (λ q. z (e ∙ q))

pub ranged : (s : Settings) → settings_pass s ≡ true → Ranged s
ranged s h = let m = (settings_fact s).0 h in (m.rows_pos, m.rows_few, m.few)

-- ---- places and sides
pub inside_fact : (s : Settings) (c : Canister) → inside s c ≡ true ↔ Inside s c
unfolding inside
inside_fact s c = let p = r_and (r_le c.a (span s)) (r_le c.b (span s)) in (λ h. record { in_a = (p.0 h).0; in_b = (p.0 h).1 }, λ i. p.1 (i.in_a, i.in_b))

pub apart_fact : (d : ℕ) (c e : Canister) → apart d c e ≡ true ↔ Apart d c e
unfolding apart
apart_fact d c e = r_or (r_or (r_le _ _) (r_le _ _)) (r_or (r_le _ _) (r_le _ _))

pub faces_fact : (s : Settings) (t k : ℕ) → faces s t k ≡ true ↔ Faces s t k
unfolding faces
faces_fact s t k = r_or (r_eq k 0) (r_lt _ _)

pub faces_le : (s : Settings) (t k : ℕ) → Faces s t k → k ≤ 4
unfolding sides
faces_le s t k (inl e) = omega arith
faces_le s t k (inr h) = all_mem (λ j. j ≤ 4) (neighbour_side s k t h) four
  where
    four : All (λ j. j ≤ 4) (1 ∷ 2 ∷ 3 ∷ 4 ∷ [])
    four = omega arith

-- ---- one tile: what Sound tells of it, first without its canisters and where its sides face
pub record SoundHead (s : Settings) (t : ℕ) (x : TileState) : Type 0 where
  pub flag : (x.running ≡ 1) ⊎ (x.running ≡ 0)
  pub hopper_runs : is_hopper s t ≡ true → runs x ≡ true
  pub hopper_distance : is_hopper s t ≡ true → x.distance ≡ 0
  pub hopper_next : is_hopper s t ≡ true → x.next ≡ 0
  pub hopper_empty : is_hopper s t ≡ true → x.members ≡ []
  pub off_hopper : is_hopper s t ≡ false → 1 ≤ x.distance
  pub capped : (x.distance < total s) ⊎ (x.distance ≡ 255)
  pub next_iff : is_hopper s t ≡ false → runs x ≡ true → x.next ≡ 0 ↔ x.distance ≡ 255
  pub stop_distance : runs x ≡ false → x.distance ≡ 255
  pub stop_next : runs x ≡ false → x.next ≡ 0
  pub stop_token : runs x ≡ false → x.token ≡ 0

abbrev pub SoundTile : Settings → ℕ → TileState → Type 0
SoundTile s t x =
    (SoundHead s t x × (Faces s t x.next × Faces s t x.token))
    × (All (Inside s) x.members × Pairs (λ c e. (c.number < e.number) × Apart (spacing s) c e) x.members)

module _ (s : Settings) (M : Measured s) (t : ℕ) (x : TileState) where
  hopper_part : hopper_sound (head x) ≡ true ↔ ((x.running ≡ 1) × ((x.distance ≡ 0) × ((x.next ≡ 0) × (length x.members ≡ 0))))
  unfolding hopper_sound head
  hopper_part = r_and (r_eq _ _) (r_and (r_eq _ _) (r_and (r_eq _ _) (r_eq _ _)))

  running_part : running_sound s (head x) ≡ true ↔ (((x.distance ≡ 255) × (x.next ≡ 0)) ⊎ ((1 ≤ x.distance) × ((x.distance < total s) × (0 < x.next))))
  unfolding running_sound head
  running_part = r_or (r_and (r_eq _ _) (r_eq _ _)) (r_and (r_le _ _) (r_and (r_lt _ _) (r_lt _ _)))

  stopped_part : stopped_sound (head x) ≡ true ↔ ((x.running ≡ 0) × ((x.distance ≡ 255) × ((x.next ≡ 0) × (x.token ≡ 0))))
  unfolding stopped_sound head
  stopped_part = r_and (r_eq _ _) (r_and (r_eq _ _) (r_and (r_eq _ _) (r_eq _ _)))

  abbrev test : Bool → Bool → Bool
  test b r = cond b (hopper_sound (head x)) (cond r (running_sound s (head x)) (stopped_sound (head x)))

  head_into : (b : Bool) → is_hopper s t ≡ b → (r : Bool) → runs x ≡ r → test b r ≡ true → SoundHead s t x
  head_into true e r q h =
      let p = hopper_part.0 h in
      let on : runs x ≡ true = eq-eqb _ 1 p.0 in
      record {
        flag = inl p.0;
        hopper_runs = λ _. on;
        hopper_distance = λ _. p.1.0;
        hopper_next = λ _. p.1.1.0;
        hopper_empty = λ _. no_length x.members p.1.1.1;
        off_hopper = λ k. not_both e k;
        capped = inl (omega (arith, p.1.0, M.two));
        next_iff = λ k. not_both e k;
        stop_distance = λ k. not_both on k;
        stop_next = λ k. not_both on k;
        stop_token = λ k. not_both on k;
      }
  head_into false e true q h = go (running_part.0 h)
    where
      make : 1 ≤ x.distance → (x.distance < total s) ⊎ (x.distance ≡ 255) → x.next ≡ 0 ↔ x.distance ≡ 255 → SoundHead s t x
      make pos cap iff = record {
        flag = inl (eqb-true _ 1 q);
        hopper_runs = λ k. not_both k e;
        hopper_distance = λ k. not_both k e;
        hopper_next = λ k. not_both k e;
        hopper_empty = λ k. not_both k e;
        off_hopper = λ _. pos;
        capped = cap;
        next_iff = λ _ _. iff;
        stop_distance = λ k. not_both q k;
        stop_next = λ k. not_both q k;
        stop_token = λ k. not_both q k;
      }

      go : ((x.distance ≡ 255) × (x.next ≡ 0)) ⊎ ((1 ≤ x.distance) × ((x.distance < total s) × (0 < x.next))) → SoundHead s t x
      go (inl p) = make (omega (arith, p.0)) (inr p.0) (λ _. p.0, λ _. p.1)
      go (inr p) = make p.0 (inl p.1.0) (λ k. absurd (omega (arith, p.1.1)), λ k. absurd (omega (arith, p.1.0, M.few)))
  head_into false e false q h =
      let p = stopped_part.0 h in
      record {
        flag = inr p.0;
        hopper_runs = λ k. not_both k e;
        hopper_distance = λ k. not_both k e;
        hopper_next = λ k. not_both k e;
        hopper_empty = λ k. not_both k e;
        off_hopper = λ _. omega (arith, p.1.0);
        capped = inr p.1.0;
        next_iff = λ _ k. not_both k q;
        stop_distance = λ _. p.1.0;
        stop_next = λ _. p.1.1.0;
        stop_token = λ _. p.1.1.1;
      }

  head_out : SoundHead s t x → (b : Bool) → is_hopper s t ≡ b → (r : Bool) → runs x ≡ r → test b r ≡ true
  head_out S true e r q = hopper_part.1 (eqb-true _ 1 (S.hopper_runs e), (S.hopper_distance e, (S.hopper_next e, ap length (S.hopper_empty e))))
  head_out S false e true q = running_part.1 (go S.capped)
    where
      go : (x.distance < total s) ⊎ (x.distance ≡ 255) → ((x.distance ≡ 255) × (x.next ≡ 0)) ⊎ ((1 ≤ x.distance) × ((x.distance < total s) × (0 < x.next)))
      go (inl c) =
          let n : x.next ≢ 0 = λ k. absurd (omega (arith, (S.next_iff e q).0 k, M.few)) in
          inr (S.off_hopper e, (c, omega (arith, n)))
      go (inr c) = inl (c, (S.next_iff e q).1 c)
  head_out S false e false q = stopped_part.1 (go S.flag, (S.stop_distance q, (S.stop_next q, S.stop_token q)))
    where
      go : (x.running ≡ 1) ⊎ (x.running ≡ 0) → x.running ≡ 0
      go (inl k) = absurd (eqb-false _ 1 q k)
      go (inr k) = k

  pub tile_fact : tile_sound s t x ≡ true ↔ SoundTile s t x
  unfolding tile_sound head_sound members_sound in_order head
  tile_fact =
      r_and (r_and (λ h. head_into (is_hopper s t) refl (runs x) refl h, λ S. head_out S (is_hopper s t) refl (runs x) refl) (r_and (faces_fact s t x.next) (faces_fact s t x.token)))
      (r_and (r_all (inside s) (Inside s) (inside_fact s) x.members)
      (r_pairs (in_order s) (λ c e. (c.number < e.number) × Apart (spacing s) c e) (λ c e. r_and (r_lt _ _) (apart_fact (spacing s) c e)) x.members))

-- ---- the whole floor
-- a second test that is read where the first one's fact holds
r_then : {a b : Bool} {P Q : Type 0} → a ≡ true ↔ P → (P → b ≡ true ↔ Q) → (a && b) ≡ true ↔ (P × Q)
r_then {a} {b} p q = (λ h. let k = p.0 (and_left a b h) in (k, (q k).0 (and_right a b h)), λ k. and_true (p.1 k.0) ((q k.0).1 k.1))

pub pairs_imp : {A : Type 0} (P Q : A → A → Type 0) (l : List A) → ((x y : A) → P x y → Q x y) → Pairs P l → Pairs Q l
pairs_imp P Q [] f h = tt
pairs_imp P Q (x ∷ l) f h = (all_imp (P x) (Q x) l (f x) h.0, pairs_imp P Q l f h.1)

pub pairs_both : {A : Type 0} (P Q : A → A → Type 0) (l : List A) → Pairs P l → Pairs Q l → Pairs (λ x y. P x y × Q x y) l
pairs_both P Q [] p q = tt
pairs_both P Q (x ∷ l) p q = (all_both (P x) (Q x) l p.0 q.0, pairs_both P Q l p.1 q.1)

-- from place h on a list has zeros
r_spare : (h : ℕ) (l : List ℕ) → all_of (λ k. eqb k 0) (drop h l) ≡ true ↔ ((k : ℕ) → h ≤ k → get_or l k 0 ≡ 0)
r_spare h l = (λ t k q. into t k q (dec_le (suc k) (length l)), out)
  where
    into : all_of (λ k. eqb k 0) (drop h l) ≡ true → (k : ℕ) → h ≤ k → Dec (k < length l) → get_or l k 0 ≡ 0
    into t k q (yes i) =
        let j : k - h < length (drop h l) = rw length-drop (omega arith) in
        let e : h + (k - h) ≡ k = omega arith in
        ap (λ (x : ℕ). get_or l x 0) (sym e) ∙ sym (get_or-drop h l (k - h) 0) ∙ eqb-true _ 0 (all_at (λ k. eqb k 0) (drop h l) 0 t (k - h) j)
    into t k q (no i) = get_or-eq_default l 0 (omega arith)

    out : ((k : ℕ) → h ≤ k → get_or l k 0 ≡ 0) → all_of (λ k. eqb k 0) (drop h l) ≡ true
    out f = all_from_each (λ k. eqb k 0) (drop h l) 0 (λ k q. eq-eqb _ 0 (get_or-drop h l k 0 ∙ f (h + k) (omega arith)))

module _ (m : Model) where
  abbrev S : Settings
  S = m.settings

  abbrev N : List ℕ
  N = numbers_on m

  -- the numbers and the counters
  abbrev pub Counted : Type 0
  Counted =
      (All (λ n. (0 < n) × (n ≤ m.counters.last)) N × Pairs (λ x y. x ≢ y) N)
      × ((length m.counters.delivered ≡ 4) × (((k : ℕ) → length (hoppers_of S) ≤ k → get_or m.counters.delivered k 0 ≡ 0)
      × ((m.counters.booked ≡ sum m.counters.delivered + length N) × ((m.counters.booked ≤ m.counters.last) × (m.counters.last < 2 ^ 32)))))

  abbrev Facts : Type 0
  Facts = Measured S × ((length m.tiles ≡ total S) × (((t : ℕ) → t < total S → SoundTile S t (tile_of m t)) × Counted))

  facts : state_sound m ≡ true ↔ Facts
  unfolding state_sound numbers_sound counters_sound
  facts =
      r_then (settings_fact S)
      (λ M. r_and (r_eq _ _)
      (r_and (r_below (λ t. tile_sound S t (tile_of m t)) (λ t. SoundTile S t (tile_of m t)) (λ t. tile_fact S M t (tile_of m t)) (total S))
      (r_and (r_and (r_all _ _ (λ n. r_and (r_lt 0 n) (r_le n m.counters.last)) N) (r_pairs _ _ r_ne N))
      (r_and (r_eq _ _) (r_and (r_spare (length (hoppers_of S)) m.counters.delivered) (r_and (r_eq _ _) (r_and (r_le _ _) (r_lt _ _))))))))

  -- where no tile is
  no_tile : Measured S → (t : ℕ) → total S ≤ t → SoundTile S t no_tile_of
  unfolding is_hopper
  no_tile M t h = ((head, (inl refl, inl refl)), (tt, tt))
    where
      off : is_hopper S t ≡ true → ⊥
      off e = not_both e (bit_off S.hoppers (total S) t M.hoppers_on h)

      head : SoundHead S t no_tile_of
      head = record {
        flag = inr refl;
        hopper_runs = λ e. absurd (off e);
        hopper_distance = λ e. absurd (off e);
        hopper_next = λ e. absurd (off e);
        hopper_empty = λ _. refl;
        off_hopper = λ _. omega arith;
        capped = inr refl;
        next_iff = λ _ e. absurd (false≢true e);
        stop_distance = λ _. refl;
        stop_next = λ _. refl;
        stop_token = λ _. refl;
      }

  everywhere : Measured S → length m.tiles ≡ total S → ((t : ℕ) → t < total S → SoundTile S t (tile_of m t)) → (t : ℕ) → SoundTile S t (tile_of m t)
  everywhere M e f t = go (dec_le (suc t) (total S))
    where
      go : Dec (t < total S) → SoundTile S t (tile_of m t)
      go (yes l) = f t l
      go (no l) = subst (SoundTile S t) (sym (get_or-eq_default m.tiles no_tile_of (omega (arith, e)))) (no_tile M t (omega arith))

  pub sound_of : Measured S → length m.tiles ≡ total S → ((t : ℕ) → t < total S → SoundTile S t (tile_of m t)) → Counted → layouts_sound S m.layouts ≡ true → Sound m
  sound_of M e f C L =
      let T = everywhere M e f in
      record {
        measured = M;
        len = e;
        flag = λ t. (T t).0.0.flag;
        hopper_runs = λ t. (T t).0.0.hopper_runs;
        hopper_distance = λ t. (T t).0.0.hopper_distance;
        hopper_next = λ t. (T t).0.0.hopper_next;
        hopper_empty = λ t. (T t).0.0.hopper_empty;
        off_hopper = λ t. (T t).0.0.off_hopper;
        capped = λ t. (T t).0.0.capped;
        next_iff = λ t. (T t).0.0.next_iff;
        stop_distance = λ t. (T t).0.0.stop_distance;
        stop_next = λ t. (T t).0.0.stop_next;
        stop_token = λ t. (T t).0.0.stop_token;
        next_faces = λ t. (T t).0.1.0;
        token_faces = λ t. (T t).0.1.1;
        inside = λ t. (T t).1.0;
        spaced = λ t. pairs_imp (λ c e. (c.number < e.number) × Apart (spacing S) c e) (Apart (spacing S)) (tile_of m t).members (λ c e p. p.1) (T t).1.1;
        rising = λ t. pairs_imp (λ c e. (c.number < e.number) × Apart (spacing S) c e) (λ c e. c.number < e.number) (tile_of m t).members (λ c e p. p.0) (T t).1.1;
        positive = all_imp (λ n. (0 < n) × (n ≤ m.counters.last)) (λ n. 0 < n) N (λ n p. p.0) C.0.0;
        below = all_imp (λ n. (0 < n) × (n ≤ m.counters.last)) (λ n. n ≤ m.counters.last) N (λ n p. p.1) C.0.0;
        unique = C.0.1;
        four = C.1.0;
        spare = C.1.1.0;
        counted = C.1.1.1.0;
        booked_last = C.1.1.1.1.0;
        last_fits = C.1.1.1.1.1;
        layouts_sound_lem = L;
      }

  -- what Sound tells of one tile
  pub sound_tile : Sound m → (t : ℕ) → SoundTile S t (tile_of m t)
  sound_tile F t = ((head, (F.next_faces t, F.token_faces t)), (F.inside t, pairs_both (λ c e. c.number < e.number) (Apart (spacing S)) (tile_of m t).members (F.rising t) (F.spaced t)))
    where
      head : SoundHead S t (tile_of m t)
      head = record {
        flag = F.flag t;
        hopper_runs = F.hopper_runs t;
        hopper_distance = F.hopper_distance t;
        hopper_next = F.hopper_next t;
        hopper_empty = F.hopper_empty t;
        off_hopper = F.off_hopper t;
        capped = F.capped t;
        next_iff = F.next_iff t;
        stop_distance = F.stop_distance t;
        stop_next = F.stop_next t;
        stop_token = F.stop_token t;
      }

  sound_facts : Sound m → Facts
  sound_facts F = (F.measured, (F.len, (λ t _. sound_tile F t, ((all_both (λ n. 0 < n) (λ n. n ≤ m.counters.last) N F.positive F.below, F.unique), (F.four, (F.spare, (F.counted, (F.booked_last, F.last_fits))))))))

  pub sound_fact : sound m ≡ true ↔ Sound m
  unfolding sound
  sound_fact = (
    λ h. let F = facts.0 (and_left (state_sound m) (layouts_sound S m.layouts) h) in sound_of F.0 F.1.0 F.1.1.0 F.1.1.1 (and_right (state_sound m) (layouts_sound S m.layouts) h),
    λ F. and_true (facts.1 (sound_facts F)) F.layouts_sound_lem,
  )
