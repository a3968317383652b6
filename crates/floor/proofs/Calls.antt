-- Each accepted call keeps a floor sound, and its numbers and counters: bookings with and without a place, stops, repairs and rounds.
use mathlib.Core.Path.{◌≡◌, refl, sym, ap, ◌∙◌}
use mathlib.Core.Logic.{◌⊎◌, inl, inr, ◌↔◌, ◌≢◌}
use mathlib.Core.Bool.{Bool, true, false, cond, not, true≢false, false≢true}
use mathlib.Core.List.{List, [], ◌∷◌, ◌++◌, append-nil}
use mathlib.Core.List.{Permᴰ}
use Prim.Native.Nat.{ℕ, suc, ◌+◌, ◌^◌, ◌≤◌, ◌<◌}
use native.Mathlib.Omega.{arith}
use native.Mathlib.Decide.{ℕ_discrete}
use lib.Dec.{leb, ltb, eqb}
use lib.ListN.{length, get_or, set, length-set, length-append}
use lib.Seq.{get_or-set_same, get_or-set_other}
use borrow.Author.Tests.{leb-false, ltb-false, le-leb, le-ltb, eq-eqb, ne_eqb, not-false}
use Rattle.laws.specs.Define.{cat, all_of, sum, bit}
use Rattle.laws.specs.Every.{All, Pairs}
use Rattle.laws.proofs.Tests.{by_test, not_both, and_true, r_all}
use Rattle.laws.proofs.Lists.{all_perm, all_imp, all_unmap, pairs_perm, cat_perm, cat_append, cat_nil, cat_one, cat_all, swap_append, map_perm, perm_of, perm_chain, length_perm, all_append, all_cross, pairs_append}
use Rattle.laws.proofs.SetBits.{bits_each}
use Rattle.floor.specs.declared.Canister.{Canister}
use Rattle.floor.specs.declared.Settings.{Settings}
use Rattle.floor.specs.declared.Counters.{Counters}
use Rattle.floor.specs.Settings.{total, spacing, span, is_hopper, hoppers_of}
use Rattle.floor.specs.Model.{TileState, Model, no_tile_of, tile_of, runs, runs_of_of, members_of, numbers, numbers_on, with_tile, with_counters, with_members}
use Rattle.floor.specs.Well.{inside, apart}
use Rattle.floor.specs.Move.{insert}
use Rattle.floor.specs.Calls.{book_tests, with_booking, booked, stop_tests, stopped, repair_tests, repaired, after_round}
use Rattle.floor.specs.Anywhere.{clear, place_b, place_a, anywhere_tests, placed_at}
use Rattle.floor.proofs.Sound.{Measured, Inside, Apart, Faces, Sound}
use Rattle.floor.proofs.Well.{inside_fact, apart_fact}
use Rattle.floor.proofs.Geometry.{apart_sym}
use Rattle.floor.proofs.Borders.{Rising}
use Rattle.floor.proofs.Insertion.{insert_perm, insert_rising}
use Rattle.floor.proofs.Fields.{round_settings, round_last, round_booked, delivered_to_lem, round_counter, delivered_length}
use Rattle.floor.proofs.Conservation.{round_numbers}
use Rattle.floor.proofs.Kept.{round_sound}
use Rattle.floor.proofs.Lowest.{at, lowest_is, found}

-- what a call from m to n keeps; `added` are the numbers booked, `removed k` those delivered to hopper k
pub record Keeps (m n : Model) (added : List ℕ) (removed : ℕ → List ℕ) : Type 0 where
  pub well : Sound n
  pub same_settings : n.settings ≡ m.settings
  pub nums : Permᴰ (numbers_on n ++ cat 4 removed) (numbers_on m ++ added)
  pub rises : m.counters.last ≤ n.counters.last
  pub above : All (λ k. m.counters.last < k) added
  pub upto : All (λ k. k ≤ n.counters.last) added
  pub distinct : Pairs (λ x y. x ≢ y) added
  pub books : n.counters.booked ≡ m.counters.booked + length added
  pub delivers : (k : ℕ) → get_or n.counters.delivered k 0 ≡ get_or m.counters.delivered k 0 + length (removed k)

-- nothing delivered
abbrev pub none : ℕ → List ℕ
none _ = []

-- none of the tests is met
abbrev pub Accepted : List (Bool × ℕ) → Type 0
Accepted = All (λ x. x.0 ≡ false)

-- ---- a floor with one tile anew
-- what holds of the new tile, and of each other one as it was
set_each : (l : List TileState) (t : ℕ) (x : TileState) → t < length l → (P : ℕ → TileState → Type 0) → P t x → ((u : ℕ) → u ≢ t → P u (get_or l u no_tile_of)) → (u : ℕ) → P u (get_or (set l t x) u no_tile_of)
set_each l t x h P p q u = go (ℕ_discrete u t)
  where
    go : Dec (u ≡ t) → P u (get_or (set l t x) u no_tile_of)
    go (yes e) = rw (e, get_or-set_same l t x no_tile_of h) p
    go (no n) = rw (get_or-set_other l t u x no_tile_of n) (q u n)

module _ (m : Model) (S : Sound m) (t : ℕ) (on : t < total m.settings) where
  -- what a tile that is no hopper must be like
  record Fine (x : TileState) : Type 0 where
    flag : (x.running ≡ 1) ⊎ (x.running ≡ 0)
    near : 1 ≤ x.distance
    capped : (x.distance < total m.settings) ⊎ (x.distance ≡ 255)
    iff : runs x ≡ true → x.next ≡ 0 ↔ x.distance ≡ 255
    stop_distance : runs x ≡ false → x.distance ≡ 255
    stop_next : runs x ≡ false → x.next ≡ 0
    stop_token : runs x ≡ false → x.token ≡ 0
    next_faces : Faces m.settings t x.next
    token_faces : Faces m.settings t x.token
    within : All (Inside m.settings) x.members
    spaced : Pairs (Apart (spacing m.settings)) x.members
    rising : Rising x.members

  -- the floor with the tile x at t, and these counters
  abbrev put : TileState → Counters → Model
  put x c = with_counters (with_tile m t x) c

  module _ (x : TileState) (c : Counters) where
    each : (P : ℕ → TileState → Type 0) → P t x → ((u : ℕ) → u ≢ t → P u (tile_of m u)) → (u : ℕ) → P u (tile_of (put x c) u)
    each = set_each m.tiles t x (omega (arith, S.len))

    put_runs : (u : ℕ) → runs_of_of (put x c) u ≡ cond (eqb t u) (runs x) (runs_of_of m u)
    put_runs = each (λ u y. runs y ≡ cond (eqb t u) (runs x) (runs_of_of m u)) (rw (eq-eqb t t refl)) (λ u n. rw (ne_eqb t u (λ e. n (sym e))))

    more : List ℕ → ℕ → List ℕ
    more ns u = cond (eqb u t) ns []

    put_numbers : (ns : List ℕ) → Permᴰ (numbers x.members) (numbers (members_of m t) ++ ns) → Permᴰ (numbers_on (put x c)) (numbers_on m ++ ns)
    unfolding numbers_on more
    put_numbers ns p =
        let C = total m.settings in
        let one : cat C (more ns) ≡ ns = cat_one C (more ns) t on (λ u _ n. rw (ne_eqb u t n)) ∙ rw (eq-eqb t t refl) in
        mathlib.Core.List.Permᴰ.trans (cat_perm C (λ u. numbers (members_of (put x c) u)) (λ u. numbers (members_of m u) ++ more ns u)
        (λ u _. each (λ u y. Permᴰ (numbers y.members) (numbers (members_of m u) ++ more ns u))
        (rw (eq-eqb t t refl) p)
        (λ u n. rw (ne_eqb u t n, append-nil) (mathlib.Core.List.Permᴰ.refl (numbers (members_of m u)))) u))
        (mathlib.Core.List.Permᴰ.trans (cat_append C (λ u. numbers (members_of m u)) (more ns))
        (perm_of (ap (λ z. numbers_on m ++ z) one)))

    put_sound : is_hopper m.settings t ≡ false → Fine x → All (λ k. 0 < k) (numbers_on (put x c)) → All (λ k. k ≤ c.last) (numbers_on (put x c)) → Pairs (λ x y. x ≢ y) (numbers_on (put x c))
        → c.delivered ≡ m.counters.delivered → c.booked ≡ sum c.delivered + length (numbers_on (put x c)) → c.booked ≤ c.last → c.last < 2 ^ 32 → Sound (put x c)
    put_sound n F pos bel uni same cnt bl fit =
        let s = m.settings in
        record {
          measured = S.measured;
          len = length-set m.tiles t x ∙ S.len;
          flag = each (λ u y. (y.running ≡ 1) ⊎ (y.running ≡ 0)) F.flag (λ u _. S.flag u);
          hopper_runs = each (λ u y. is_hopper s u ≡ true → runs y ≡ true) (λ h. not_both h n) (λ u _. S.hopper_runs u);
          hopper_distance = each (λ u y. is_hopper s u ≡ true → y.distance ≡ 0) (λ h. not_both h n) (λ u _. S.hopper_distance u);
          hopper_next = each (λ u y. is_hopper s u ≡ true → y.next ≡ 0) (λ h. not_both h n) (λ u _. S.hopper_next u);
          hopper_empty = each (λ u y. is_hopper s u ≡ true → y.members ≡ []) (λ h. not_both h n) (λ u _. S.hopper_empty u);
          off_hopper = each (λ u y. is_hopper s u ≡ false → 1 ≤ y.distance) (λ _. F.near) (λ u _. S.off_hopper u);
          capped = each (λ u y. (y.distance < total s) ⊎ (y.distance ≡ 255)) F.capped (λ u _. S.capped u);
          next_iff = each (λ u y. is_hopper s u ≡ false → runs y ≡ true → y.next ≡ 0 ↔ y.distance ≡ 255) (λ _. F.iff) (λ u _. S.next_iff u);
          stop_distance = each (λ u y. runs y ≡ false → y.distance ≡ 255) F.stop_distance (λ u _. S.stop_distance u);
          stop_next = each (λ u y. runs y ≡ false → y.next ≡ 0) F.stop_next (λ u _. S.stop_next u);
          stop_token = each (λ u y. runs y ≡ false → y.token ≡ 0) F.stop_token (λ u _. S.stop_token u);
          next_faces = each (λ u y. Faces s u y.next) F.next_faces (λ u _. S.next_faces u);
          token_faces = each (λ u y. Faces s u y.token) F.token_faces (λ u _. S.token_faces u);
          inside = each (λ u y. All (Inside s) y.members) F.within (λ u _. S.inside u);
          spaced = each (λ u y. Pairs (Apart (spacing s)) y.members) F.spaced (λ u _. S.spaced u);
          rising = each (λ u y. Rising y.members) F.rising (λ u _. S.rising u);
          positive = pos;
          below = bel;
          unique = uni;
          four = ap (λ (l : List ℕ). length l) same ∙ S.four;
          spare = λ k h. ap (λ (l : List ℕ). get_or l k 0) same ∙ S.spare k h;
          counted = cnt;
          booked_last = bl;
          last_fits = fit;
          layouts_sound_lem = S.layouts_sound_lem;
        }

  -- stop and repair: the same canisters
  same_keeps : (x : TileState) → is_hopper m.settings t ≡ false → Fine x → x.members ≡ members_of m t → Keeps m (with_tile m t x) [] none
  same_keeps x n F e =
      let p = put_numbers x m.counters [] (rw (e, append-nil) (mathlib.Core.List.Permᴰ.refl (numbers (members_of m t)))) in
      let q : Permᴰ (numbers_on m) (numbers_on (with_tile m t x)) = mathlib.Core.List.Permᴰ.symm (rw append-nil at p) in
      record {
        well = put_sound x m.counters n F (all_perm (λ k. 0 < k) q S.positive) (all_perm (λ k. k ≤ m.counters.last) q S.below)
            (pairs_perm (λ x y. x ≢ y) (λ x y n e. n (sym e)) q S.unique) refl (omega (arith, S.counted, length_perm q)) S.booked_last S.last_fits;
        same_settings = refl;
        nums = rw (cat_nil {A = ℕ} 4, append-nil) p;
        rises = omega arith;
        above = tt;
        upto = tt;
        distinct = tt;
        books = omega arith;
        delivers = λ k. omega arith;
      }

  stop_fine : Fine (stopped (tile_of m t))
  unfolding stopped
  stop_fine = record {
    flag = inr refl;
    near = omega arith;
    capped = inr refl;
    iff = λ e. absurd (false≢true e);
    stop_distance = λ _. refl;
    stop_next = λ _. refl;
    stop_token = λ _. refl;
    next_faces = inl refl;
    token_faces = inl refl;
    within = S.inside t;
    spaced = S.spaced t;
    rising = S.rising t;
  }

  repair_fine : runs_of_of m t ≡ false → is_hopper m.settings t ≡ false → Fine (repaired (tile_of m t))
  unfolding repaired
  repair_fine r n = record {
    flag = inl refl;
    near = S.off_hopper t n;
    capped = S.capped t;
    iff = λ _. (λ _. S.stop_distance t r, λ _. S.stop_next t r);
    stop_distance = λ e. absurd (true≢false e);
    stop_next = λ e. absurd (true≢false e);
    stop_token = λ e. absurd (true≢false e);
    next_faces = S.next_faces t;
    token_faces = S.token_faces t;
    within = S.inside t;
    spaced = S.spaced t;
    rising = S.rising t;
  }

  book_fine : (c : Canister) → m.counters.last < c.number → runs_of_of m t ≡ true → is_hopper m.settings t ≡ false → Inside m.settings c → All (Apart (spacing m.settings) c) (members_of m t)
      → Fine (with_members (tile_of m t) (insert c (members_of m t)))
  unfolding numbers_on
  book_fine c new r n i h = record {
    flag = S.flag t;
    near = S.off_hopper t n;
    capped = S.capped t;
    iff = S.next_iff t n;
    stop_distance = λ e. not_both r e;
    stop_next = λ e. not_both r e;
    stop_token = λ e. not_both r e;
    next_faces = S.next_faces t;
    token_faces = S.token_faces t;
    within = all_perm (Inside m.settings) (mathlib.Core.List.Permᴰ.symm (insert_perm c (members_of m t))) (i, S.inside t);
    spaced = pairs_perm (Apart (spacing m.settings)) (apart_sym (spacing m.settings)) (mathlib.Core.List.Permᴰ.symm (insert_perm c (members_of m t))) (h, S.spaced t);
    rising = insert_rising c (members_of m t) (S.rising t)
        (all_imp (λ y. y.number ≤ m.counters.last) (λ y. c.number ≢ y.number) (members_of m t) (λ y k. omega arith)
        (all_unmap (λ k. k ≤ m.counters.last) (λ (y : Canister). y.number) (members_of m t) (cat_all (λ k. k ≤ m.counters.last) (total m.settings) (λ u. numbers (members_of m u)) t on S.below)));
  }

-- ---- the calls
-- no hopper is a fill tile
no_source : (s : Settings) → Measured s → (t : ℕ) → t < total s → is_hopper s t ≡ true → bit s.sources t ≡ false
unfolding is_hopper hoppers_of
no_source s M = bits_each (λ t. bit s.sources t ≡ false) s.hoppers (total s) M.no_source

-- what an accepted booking has passed, with its place and without one
pub record BookPassed (m : Model) (t : ℕ) (c : Canister) : Type 0 where
  pub on_floor : leb (total m.settings) t ≡ false
  pub source : bit m.settings.sources t ≡ true
  pub numbered : eqb c.number 0 ≡ false
  pub within : inside m.settings c ≡ true
  pub running : runs_of_of m t ≡ true
  pub above : leb c.number m.counters.last ≡ false
  pub room : all_of (apart (spacing m.settings) c) (members_of m t) ≡ true

pub record AnywherePassed (m : Model) (t number : ℕ) : Type 0 where
  pub on_floor : leb (total m.settings) t ≡ false
  pub source : bit m.settings.sources t ≡ true
  pub numbered : eqb number 0 ≡ false
  pub running : runs_of_of m t ≡ true
  pub above : leb number m.counters.last ≡ false
  pub place : ltb (span m.settings) (place_b m.settings (members_of m t)) ≡ false

module _ (m : Model) (t : ℕ) (c : Canister) where
  pub book_tests_passed : Accepted (book_tests m t c) → BookPassed m t c
  unfolding book_tests
  book_tests_passed T =
      record {
        on_floor = T.0;
        source = not-false (bit m.settings.sources t) T.1.0;
        numbered = T.1.1.0;
        within = not-false (inside m.settings c) T.1.1.1.0;
        running = not-false (runs_of_of m t) T.1.1.1.1.0;
        above = T.1.1.1.1.1.0;
        room = not-false (all_of (apart (spacing m.settings) c) (members_of m t)) T.1.1.1.1.1.1.0;
      }

  pub book_tests_pass : BookPassed m t c → Accepted (book_tests m t c)
  unfolding book_tests
  book_tests_pass P = (P.on_floor, (ap not P.source, (P.numbered, (ap not P.within, (ap not P.running, (P.above, (ap not P.room, tt)))))))

module _ (m : Model) (t number : ℕ) where
  pub anywhere_tests_passed : Accepted (anywhere_tests m t number) → AnywherePassed m t number
  unfolding anywhere_tests
  anywhere_tests_passed T =
      record {
        on_floor = T.0;
        source = not-false (bit m.settings.sources t) T.1.0;
        numbered = T.1.1.0;
        running = not-false (runs_of_of m t) T.1.1.1.0;
        above = T.1.1.1.1.0;
        place = T.1.1.1.1.1.0;
      }

  anywhere_tests_pass : AnywherePassed m t number → Accepted (anywhere_tests m t number)
  unfolding anywhere_tests
  anywhere_tests_pass P = (P.on_floor, (ap not P.source, (P.numbered, (ap not P.running, (P.above, (P.place, tt))))))

-- Booking. A number of 32 bits is asked for, since the counters have no more.
pub book_keeps : (m : Model) → Sound m → (t : ℕ) (c : Canister) → Accepted (book_tests m t c) → c.number < 2 ^ 32 → Keeps m (booked m t c) (c.number ∷ []) none
unfolding booked
book_keeps m S t c T fit =
    let P = book_tests_passed m t c T in
    let on = leb-false (total m.settings) t P.on_floor in
    let new : m.counters.last < c.number = leb-false c.number m.counters.last P.above in
    let n : is_hopper m.settings t ≡ false = off (by_test (is_hopper m.settings t)) in
    let i = (inside_fact m.settings c).0 P.within in
    let far = (r_all (apart (spacing m.settings) c) (Apart (spacing m.settings) c) (apart_fact (spacing m.settings) c) (members_of m t)).0 P.room in
    let x = with_members (tile_of m t) (insert c (members_of m t)) in
    let k = with_booking m.counters c.number in
    let p = put_numbers m S t on x k (c.number ∷ []) (mathlib.Core.List.Permᴰ.trans (map_perm (λ c. c.number) (insert_perm c (members_of m t))) (swap_append (c.number ∷ []) (numbers (members_of m t)))) in
    let q = mathlib.Core.List.Permᴰ.trans (swap_append (c.number ∷ []) (numbers_on m)) (mathlib.Core.List.Permᴰ.symm p) in
    record {
      well = put_sound m S t on x k n (book_fine m S t on c new P.running n i far)
          (all_perm (λ n. 0 < n) q (omega arith, S.positive))
          (all_perm (λ n. n ≤ c.number) q (omega arith, all_imp (λ n. n ≤ m.counters.last) (λ n. n ≤ c.number) (numbers_on m) (λ n h. omega arith) S.below))
          (pairs_perm (λ x y. x ≢ y) (λ x y n e. n (sym e)) q (all_imp (λ n. n ≤ m.counters.last) (λ n. c.number ≢ n) (numbers_on m) (λ n h. omega arith) S.below, S.unique))
          refl (omega (arith, S.counted, length_perm q)) (omega (arith, S.booked_last)) fit;
      same_settings = refl;
      nums = rw (cat_nil {A = ℕ} 4, append-nil) p;
      rises = omega arith;
      above = (new, tt);
      upto = (omega arith, tt);
      distinct = (tt, tt);
      books = omega arith;
      delivers = λ k. omega arith;
    }
  where
    off : (is_hopper m.settings t ≡ true) ⊎ (is_hopper m.settings t ≡ false) → is_hopper m.settings t ≡ false
    off (inr n) = n
    off (inl h) = let P = book_tests_passed m t c T in not_both P.source (no_source m.settings S.measured t (leb-false (total m.settings) t P.on_floor) h)

-- ---- a booking without a place
-- a canister keeps the spacing where its place does, whatever its number
pub clear_any : (d number a b : ℕ) (l : List Canister) → all_of (apart d (at number a b)) l ≡ clear d l a b
unfolding clear apart
clear_any d number a b l = refl

-- accepted, it is an accepted booking at its place
pub anywhere_accepts : (m : Model) (t number : ℕ) → Accepted (anywhere_tests m t number) → Accepted (book_tests m t (placed_at m t number))
unfolding placed_at inside place_a place_b
anywhere_accepts m t number T =
    let P = anywhere_tests_passed m t number T in
    let s = m.settings in
    let l = members_of m t in
    let b : place_b s l ≤ span s = ltb-false (span s) (place_b s l) P.place in
    let L = lowest_is (spacing s) (suc (span s)) l (omega arith) in
    let in_a = le-leb (place_a s l) (span s) (omega (arith, L.a_within)) in
    book_tests_pass m t (placed_at m t number) (record {
      on_floor = P.on_floor;
      source = P.source;
      numbered = P.numbered;
      within = and_true in_a (le-leb (place_b s l) (span s) b);
      running = P.running;
      above = P.above;
      room = clear_any (spacing s) number (place_a s l) (place_b s l) l ∙ L.keeps;
    })

-- where a booking is accepted, one without a place is
pub book_anywhere : (m : Model) (t : ℕ) (c : Canister) → Accepted (book_tests m t c) → Accepted (anywhere_tests m t c.number)
unfolding place_b
book_anywhere m t c T =
    let P = book_tests_passed m t c T in
    let s = m.settings in
    let l = members_of m t in
    let i = (inside_fact s c).0 P.within in
    let h = found (spacing s) (suc (span s)) l c.a c.b (omega (arith, i.in_a)) (omega (arith, i.in_b)) (sym (clear_any (spacing s) c.number c.a c.b l) ∙ P.room) in
    anywhere_tests_pass m t c.number (record {
      on_floor = P.on_floor;
      source = P.source;
      numbered = P.numbered;
      running = P.running;
      above = P.above;
      place = le-ltb (span s) (place_b s l) (omega arith);
    })

pub anywhere_keeps : (m : Model) → Sound m → (t number : ℕ) → Accepted (anywhere_tests m t number) → number < 2 ^ 32 → Keeps m (booked m t (placed_at m t number)) (number ∷ []) none
unfolding placed_at
anywhere_keeps m S t number T fit = book_keeps m S t (placed_at m t number) (anywhere_accepts m t number T) fit

pub stop_keeps : (m : Model) → Sound m → (t : ℕ) → Accepted (stop_tests m t) → Keeps m (with_tile m t (stopped (tile_of m t))) [] none
unfolding stop_tests stopped
stop_keeps m S t T =
    let on = leb-false (total m.settings) t T.0 in
    same_keeps m S t on (stopped (tile_of m t)) T.1.0 (stop_fine m S t on) refl

pub repair_keeps : (m : Model) → Sound m → (t : ℕ) → Accepted (repair_tests m t) → Keeps m (with_tile m t (repaired (tile_of m t))) [] none
unfolding repair_tests repaired
repair_keeps m S t T =
    let on = leb-false (total m.settings) t T.0 in
    let n = off (by_test (is_hopper m.settings t)) in
    same_keeps m S t on (repaired (tile_of m t)) n (repair_fine m S t on T.1.0 n) refl
  where
    off : (is_hopper m.settings t ≡ true) ⊎ (is_hopper m.settings t ≡ false) → is_hopper m.settings t ≡ false
    off (inr n) = n
    off (inl h) = not_both (S.hopper_runs t h) T.1.0

pub round_keeps : (m : Model) → Sound m → Keeps m (after_round m) [] (delivered_to_lem m)
round_keeps m S = record {
  well = round_sound m S;
  same_settings = round_settings m;
  nums = rw append-nil (round_numbers m S);
  rises = omega (arith, round_last m);
  above = tt;
  upto = tt;
  distinct = tt;
  books = omega (arith, round_booked m);
  delivers = round_counter m S.four (omega (arith, delivered_length m S.len, S.measured.hoppers_few));
}

-- a refused call
pub same_floor : (m : Model) → Sound m → Keeps m m [] none
same_floor m S = record { well = S; same_settings = refl; nums = rw (cat_nil {A = ℕ} 4) (mathlib.Core.List.Permᴰ.refl (numbers_on m ++ [])); rises = omega arith; above = tt; upto = tt; distinct = tt; books = omega arith; delivers = λ k. omega arith }

-- one call, and what follows it
pub keeps_join : (l m n : Model) (added : List ℕ) (removed : ℕ → List ℕ) (added' : List ℕ) (removed' : ℕ → List ℕ) → Keeps l m added removed → Keeps m n added' removed' → Keeps l n (added ++ added') (λ k. removed k ++ removed' k)
keeps_join l m n added removed added' removed' K J = record {
  well = J.well;
  same_settings = J.same_settings ∙ K.same_settings;
  nums = mathlib.Core.List.Permᴰ.trans (mathlib.Core.List.Permᴰ.append_left (numbers_on n) (cat_append 4 removed removed')) (perm_chain (numbers_on l) (numbers_on m) (numbers_on n) added added' (cat 4 removed) (cat 4 removed') K.nums J.nums);
  rises = omega (arith, K.rises, J.rises);
  above = all_append (λ k. l.counters.last < k) added added' K.above (all_imp (λ k. m.counters.last < k) (λ k. l.counters.last < k) added' (λ k h. omega (arith, K.rises)) J.above);
  upto = all_append (λ k. k ≤ n.counters.last) added added' (all_imp (λ k. k ≤ m.counters.last) (λ k. k ≤ n.counters.last) added (λ k h. omega (arith, J.rises)) K.upto) J.upto;
  distinct = pairs_append (λ x y. x ≢ y) added added' K.distinct J.distinct
      (all_cross (λ k. k ≤ m.counters.last) (λ k. m.counters.last < k) (λ x y. x ≢ y) added added' (λ x y p q. omega arith) K.upto J.above);
  books = omega (arith, K.books, J.books, length-append added added');
  delivers = λ k. omega (arith, K.delivers k, J.delivers k, length-append (removed k) (removed' k));
}

-- ---- what runs changes only at t, and only by stop and repair (for a round, see round-runs)
pub book_runs : (m : Model) → Sound m → (t : ℕ) (c : Canister) → Accepted (book_tests m t c) → (u : ℕ) → runs_of_of (booked m t c) u ≡ runs_of_of m u
unfolding book_tests booked
book_runs m S t c T u =
    put_runs m S t (leb-false (total m.settings) t T.0) (with_members (tile_of m t) (insert c (members_of m t))) (with_booking m.counters c.number) u
    ∙ same (ℕ_discrete t u)
  where
    same : Dec (t ≡ u) → cond (eqb t u) (runs_of_of m t) (runs_of_of m u) ≡ runs_of_of m u
    same (yes e) = rw (eq-eqb t u e) (ap (λ (k : ℕ). runs_of_of m k) e)
    same (no n) = rw (ne_eqb t u n)

pub stop_runs : (m : Model) → Sound m → (t : ℕ) → Accepted (stop_tests m t) → (u : ℕ) → runs_of_of (with_tile m t (stopped (tile_of m t))) u ≡ cond (eqb t u) false (runs_of_of m u)
unfolding stop_tests stopped
stop_runs m S t T = put_runs m S t (leb-false (total m.settings) t T.0) (stopped (tile_of m t)) m.counters

pub repair_runs : (m : Model) → Sound m → (t : ℕ) → Accepted (repair_tests m t) → (u : ℕ) → runs_of_of (with_tile m t (repaired (tile_of m t))) u ≡ cond (eqb t u) true (runs_of_of m u)
unfolding repair_tests repaired
repair_runs m S t T = put_runs m S t (leb-false (total m.settings) t T.0) (repaired (tile_of m t)) m.counters
