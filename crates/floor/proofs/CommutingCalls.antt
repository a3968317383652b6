-- Calls that commute ([14]): calls on different tiles change places. The statement is specs/CommutingCalls.
use mathlib.Core.Path.{◌≡◌, refl, sym, ap, ◌∙◌, subst}
use mathlib.Core.Logic.{◌⊎◌, inl, inr, ◌≢◌}
use mathlib.Core.Bool.{Bool, true, false, cond, not}
use mathlib.Core.List.{List, [], ◌∷◌, ◌++◌}
use Prim.Native.Nat.{ℕ, ◌^◌, ◌<◌}
use native.Mathlib.Omega.{arith}
use native.Mathlib.Decide.{ℕ_discrete}
use lib.Dec.{eqb}
use lib.ListN.{set, length}
use lib.Seq.{get_or-set_same, get_or-set_other, set_comm, set-set, set-get_or}
use borrow.Author.Tests.{leb-false, le-leb, lt-leb, eq-eqb}
use Rattle.laws.specs.Define.{all_of, refusal}
use Rattle.laws.specs.Every.{All}
use Rattle.laws.proofs.Lists.{all_perm, all_true, true_all}
use Rattle.laws.proofs.Tests.{by_test, not_both}
use Rattle.floor.specs.declared.Canister.{Canister}
use Rattle.floor.specs.declared.Booking.{Booking}
use Rattle.floor.specs.declared.Floor.{Floor}
use Rattle.floor.specs.Settings.{total, spacing, is_hopper}
use Rattle.floor.specs.Model.{TileState, Model, no_tile_of, tile_of, runs, runs_of_of, members_of, with_tiles, with_tile, with_counters, with_members}
use Rattle.floor.specs.Memory.{view, build, pack}
use Rattle.floor.specs.Well.{apart, well_formed}
use Rattle.floor.specs.Move.{insert}
use Rattle.floor.specs.Calls.{answer, book_tests, with_booking, booked, book_answer, stop_tests, stopped, stop_answer, repair_tests, repaired, repair_answer, zero_report}
use Rattle.floor.specs.Anywhere.{place_b, place_a, anywhere_tests, placed_at, anywhere_answer}
use Rattle.floor.specs.Bookings.{answered, single, floor_singly, entries_singly, too_long_of, list_answer, list_after}
use Rattle.floor.specs.Demand3.{Call, book, list, InRange, outcome, floor_after}
use Rattle.floor.specs.CommutingCalls.{RunningChange, stops, repairs, Books, placed, unplaced, Exchangeable, running_changes, booking, listing, place_to, report_to, list_to, Reply, reply, EitherOrder, replies_in, Exchanged, BothBooked, CommutingCalls}
use Rattle.floor.proofs.Sound.{Sound}
use Rattle.floor.proofs.Pack.{well_sound}
use Rattle.floor.proofs.FreshAndWidths.{pack_view_well}
use Rattle.floor.proofs.Lowest.{at}
use Rattle.floor.proofs.Calls.{Accepted, book_tests_passed, book_tests_pass, anywhere_tests_passed, book_anywhere, stop_keeps, book_runs}
use Rattle.floor.proofs.Insertion.{insert_perm}
use Rattle.floor.proofs.Tables.{run_on}
use Rattle.floor.proofs.Lists.{after_both, passed}
use Rattle.floor.proofs.GuardedCalls.{Form, number_by, floor_by, Answers, floor_bad, number_well, accepted, by_form, Applied, applied, new_view, Beside, number_first, number_second, floor_same, running_tests_lem, running_tile_lem, running_changed, running_form, running_answers, book_tests_of, canister_of, booking_pos, booking_accepts, book_form, book_answers}

-- ---- calls on different tiles are beside each other
-- a stop or repair tests its own tile, and no counter
running_tests : {t : ℕ} {c : Call} (p : RunningChange t c) (m n : Model) → n.settings ≡ m.settings → tile_of n t ≡ tile_of m t → running_tests_lem p n ≡ running_tests_lem p m
unfolding stop_tests repair_tests
running_tests stops m n es et = rw (es, et)
running_tests repairs m n es et = rw (es, et)

module _ (t u : ℕ) (n : t ≢ u) where
  first_tile : (m : Model) (x : TileState) → tile_of (with_tile m u x) t ≡ tile_of m t
  first_tile m x = get_or-set_other m.tiles u t x no_tile_of n

  second_tile : (m : Model) (x : TileState) → tile_of (with_tile m t x) u ≡ tile_of m u
  second_tile m x = get_or-set_other m.tiles t u x no_tile_of (λ e. n (sym e))

  -- tile t changed by g, tile u by h
  tiles_swap : (g h : TileState → TileState) (m : Model)
      → set (set m.tiles u (h (tile_of m u))) t (g (tile_of (with_tile m u (h (tile_of m u))) t)) ≡ set (set m.tiles t (g (tile_of m t))) u (h (tile_of (with_tile m t (g (tile_of m t))) u))
  tiles_swap g h m =
      ap (λ (x : TileState). set (set m.tiles u (h (tile_of m u))) t (g x)) (first_tile m (h (tile_of m u)))
      ∙ set_comm m.tiles u t (h (tile_of m u)) (g (tile_of m t)) (λ e. n (sym e))
      ∙ sym (ap (λ (x : TileState). set (set m.tiles t (g (tile_of m t))) u (h x)) (second_tile m (g (tile_of m t))))

  running_beside : {c e : Call} (p : RunningChange t c) (q : RunningChange u e) → Beside (running_form p) (running_form q)
  running_beside p q = record {
    tests_first = λ m. running_tests p m (running_changed q m) refl (first_tile m (running_tile_lem q (tile_of m u)));
    tests_second = λ m. running_tests q m (running_changed p m) refl (second_tile m (running_tile_lem p (tile_of m t)));
    changes = λ m. ap (λ (l : List TileState). with_tiles m l) (tiles_swap (running_tile_lem p) (running_tile_lem q) m);
  }

  members_same : (m : Model) (x : TileState) → members_of (with_tile m u x) t ≡ members_of m t
  members_same m x = ap (λ (y : TileState). y.members) (first_tile m x)

  -- a booking tests its own tile, and the place that it finds there stays
  book_tests_lem : {c : Call} (p : Books t c) (m : Model) (x : TileState) → book_tests_of p (with_tile m u x) ≡ book_tests_of p m
  unfolding book_tests anywhere_tests
  book_tests_lem (placed b) m x = rw (members_same m x, first_tile m x)
  book_tests_lem (unplaced number) m x = rw (members_same m x, first_tile m x)

  book_canister : {c : Call} (p : Books t c) (m : Model) (x : TileState) → canister_of p (with_tile m u x) ≡ canister_of p m
  unfolding placed_at
  book_canister (placed b) m x = refl
  book_canister (unplaced number) m x = ap (λ (l : List Canister). at number (place_a m.settings l) (place_b m.settings l)) (members_same m x)

  book_beside : {c e : Call} (p : Books t c) (h : InRange c) (q : RunningChange u e) → Beside (book_form p h) (running_form q)
  unfolding booked
  book_beside p h q = record {
    tests_first = λ m. book_tests_lem p m (running_tile_lem q (tile_of m u));
    tests_second = λ m. running_tests q m (booked m t (canister_of p m)) refl (second_tile m (with_members (tile_of m t) (insert (canister_of p m) (members_of m t))));
    changes = λ m.
        let b = canister_of p m in
        ap (λ (c : Canister). booked (running_changed q m) t c) (book_canister p m (running_tile_lem q (tile_of m u)))
        ∙ ap (λ (l : List TileState). with_counters (with_tiles m l) (with_booking m.counters b.number)) (tiles_swap (λ x. with_members x (insert b x.members)) (running_tile_lem q) m);
  }

-- ---- what they say beside their refusal numbers
-- a stop or repair says no more
reply_running : {t : ℕ} {c : Call} → RunningChange t c → (f : Floor) → reply f c ≡ ((outcome f c).refusal, (0, 0), zero_report, [])
unfolding place_to report_to list_to
reply_running stops f = refl
reply_running repairs f = refl

running_reply : {t : ℕ} {c : Call} → RunningChange t c → (f g : Floor) → (outcome g c).refusal ≡ (outcome f c).refusal → reply g c ≡ reply f c
running_reply p f g e = reply_running p g ∙ ap (λ (n : ℕ). (n, (0, 0), zero_report, [])) e ∙ sym (reply_running p f)

-- a booking tells its place: the canister's, if it is accepted
reply_from : {t : ℕ} {c : Call} → Books t c → ℕ → Model → Reply
reply_from (placed b) n m = (n, (0, 0), zero_report, [])
reply_from {t} (unplaced number) n m = (n, (cond (eqb n 0) (placed_at m t number).a 0, cond (eqb n 0) (placed_at m t number).b 0), zero_report, [])

reply_book : {t : ℕ} {c : Call} (p : Books t c) (f : Floor) → reply f c ≡ reply_from p (outcome f c).refusal (view f)
unfolding outcome anywhere_answer answer place_to report_to list_to reply_from
reply_book (placed b) f = refl
reply_book (unplaced number) f = refl

reply_same : {t : ℕ} {c : Call} (p : Books t c) (i : ℕ) (m n : Model) → canister_of p m ≡ canister_of p n → reply_from p i m ≡ reply_from p i n
unfolding reply_from
reply_same (placed b) i m n e = refl
reply_same (unplaced number) i m n e = ap (λ (x : Canister). (i, (cond (eqb i 0) x.a 0, cond (eqb i 0) x.b 0), zero_report, [])) e

-- after a stop or repair of another tile it says the same
book_reply : {t u : ℕ} → t ≢ u → {c e : Call} (p : Books t c) (q : RunningChange u e) (f : Floor) → (outcome (outcome f e).floor c).refusal ≡ (outcome f c).refusal → reply (outcome f e).floor c ≡ reply f c
book_reply {t} {u} n {c} {e} p q f k =
    reply_book p (outcome f e).floor ∙ ap (λ (i : ℕ). reply_from p i (view (outcome f e).floor)) k
    ∙ ap (λ (g : Floor). reply_from p (outcome f c).refusal (view g)) ((running_answers q).floor f)
    ∙ go (well_formed f) refl
    ∙ sym (reply_book p f)
  where
    alike : (m : Model) → reply_from p (outcome f c).refusal (running_changed q m) ≡ reply_from p (outcome f c).refusal m
    alike m = reply_same p (outcome f c).refusal (running_changed q m) m (book_canister t u n p m (running_tile_lem q (tile_of m u)))

    go : (b : Bool) → well_formed f ≡ b → reply_from p (outcome f c).refusal (view (floor_by (running_form q) f)) ≡ reply_from p (outcome f c).refusal (view f)
    go false w = ap (λ (g : Floor). reply_from p (outcome f c).refusal (view g)) (floor_bad (running_form q) f w)
    go true w =
        by_form (running_form q) f w (λ b. reply_from p (outcome f c).refusal (view (cond b (pack (running_changed q (view f))) f)) ≡ reply_from p (outcome f c).refusal (view f))
        (λ A. ap (reply_from p (outcome f c).refusal) (new_view (running_form q) f w A) ∙ alike (view f)) refl

by_forms : (f : Floor) {c e : Call} (F G : Form) → Answers c F → Answers e G → Beside F G
    → ((outcome (outcome f e).floor c).refusal ≡ (outcome f c).refusal → reply (outcome f e).floor c ≡ reply f c)
    → ((outcome (outcome f c).floor e).refusal ≡ (outcome f e).refusal → reply (outcome f c).floor e ≡ reply f e) → EitherOrder f c e
unfolding floor_after
by_forms f {c} {e} F G A B S says says' = record {
  same_floor = B.floor (outcome f c).floor ∙ ap (floor_by G) (A.floor f) ∙ floor_same F G S f ∙ sym (ap (floor_by F) (B.floor f)) ∙ sym (A.floor (outcome f e).floor);
  first_answer = says (A.number (outcome f e).floor ∙ ap (number_by F) (B.floor f) ∙ number_first F G S f ∙ sym (A.number f));
  second_answer = says' (B.number (outcome f c).floor ∙ ap (number_by G) (A.floor f) ∙ number_second F G S f ∙ sym (B.number f));
}

-- a booking and a stop or repair of another tile
book_order : {t u : ℕ} {c e : Call} (f : Floor) → t ≢ u → Books t c → InRange c → RunningChange u e → EitherOrder f c e
book_order {t} {u} {c} {e} f n p h q = by_forms f (book_form p h) (running_form q) (book_answers p h) (running_answers q) (book_beside t u n p h q) (book_reply n p q f) (running_reply q f (outcome f c).floor)

-- ---- a list of bookings and a stop or repair of a tile on which it books nothing: booking by booking
module _ (u : ℕ) (e : Call) (q : RunningChange u e) where
  entry_order : (f : Floor) (b : Booking) → b.tile ≢ u → b.canister.number < 2 ^ 32 → EitherOrder f (book b.tile b.canister) e
  entry_order f b n h = book_order f n (placed b.canister) h q

  list_floor : (f : Floor) (l : List Booking) → All (λ b. b.tile ≢ u) l → InRange (list l) → (outcome (floor_singly f l) e).floor ≡ floor_singly (outcome f e).floor l
  unfolding floor_singly floor_after outcome
  list_floor f [] n h = refl
  list_floor f (b ∷ l) n h = list_floor (single f b).floor l n.1 h.1 ∙ ap (λ (g : Floor). floor_singly g l) (entry_order f b n.0 h.0).same_floor

  list_entries : (f : Floor) (l : List Booking) → All (λ b. b.tile ≢ u) l → InRange (list l) → entries_singly (outcome f e).floor l ≡ entries_singly f l
  unfolding entries_singly floor_after outcome
  list_entries f [] n h = refl
  list_entries f (b ∷ l) n h =
      let E = entry_order f b n.0 h.0 in
      let a : (single (outcome f e).floor b).refusal ≡ (single f b).refusal = ap (λ (y : Reply). y.0) E.first_answer in
      let r = ap (λ (g : Floor). entries_singly g l) (sym E.same_floor) ∙ list_entries (single f b).floor l n.1 h.1 in
      (λ i. answered b (a i) ∷ r i)

  list_reply : (f : Floor) (l : List Booking) → All (λ b. b.tile ≢ u) l → InRange (list l) → reply (floor_singly f l) e ≡ reply f e
  unfolding floor_singly outcome
  list_reply f [] n h = refl
  list_reply f (b ∷ l) n h = list_reply (single f b).floor l n.1 h.1 ∙ (entry_order f b n.0 h.0).second_answer

  list_order : (f : Floor) (l : List Booking) → All (λ b. b.tile ≢ u) l → InRange (list l) → EitherOrder f (list l) e
  unfolding floor_after outcome list_answer list_to list_after place_to report_to
  list_order f l n h = record {
    same_floor = go_floor (too_long_of (length l));
    first_answer = go_first (too_long_of (length l));
    second_answer = go_second (too_long_of (length l));
  }
    where
      g : Floor
      g = (outcome f e).floor

      go_floor : (x : Bool) → (outcome (cond x f (floor_singly f l)) e).floor ≡ cond x g (floor_singly g l)
      go_floor true = refl
      go_floor false = list_floor f l n h

      go_first : (x : Bool) → ◌≡◌ {A = Reply} (cond x 42 0, (0, 0), zero_report, cond x l (entries_singly g l)) (cond x 42 0, (0, 0), zero_report, cond x l (entries_singly f l))
      go_first true = refl
      go_first false = ap (λ (k : List Booking). (0, (0, 0), zero_report, k)) (list_entries f l n h)

      go_second : (x : Bool) → reply (cond x f (floor_singly f l)) e ≡ reply f e
      go_second true = refl
      go_second false = list_reply f l n h

either_order : (f : Floor) (c e : Call) → Exchangeable c e → EitherOrder f c e
either_order f c e (running_changes {t} {u} n p q) = by_forms f (running_form p) (running_form q) (running_answers p) (running_answers q) (running_beside t u n p q) (running_reply p f (outcome f e).floor) (running_reply q f (outcome f c).floor)
either_order f c e (booking n p h q) = book_order f n p h q
either_order f c e (listing {u} {l} n h q) = list_order u e q f l n h

-- ---- anywhere in a list
reply_both : (f : Floor) (before cs : List Call) → replies_in f (before ++ cs) ≡ replies_in f before ++ replies_in (floor_after f before) cs
unfolding floor_after replies_in
reply_both f [] cs = refl
reply_both f (c ∷ before) cs = ap (λ (l : List Reply). reply f c ∷ l) (reply_both (outcome f c).floor before cs)

exchange : (f : Floor) (before : List Call) (c e : Call) (after : List Call) → Exchangeable c e → Exchanged f before c e after
unfolding floor_after replies_in
exchange f before c e after x =
    let g = floor_after f before in
    let E = either_order g c e x in
    record {
      here = g;
      is_here = refl;
      same_floor = after_both f before (c ∷ e ∷ after) ∙ ap (λ (h : Floor). floor_after h after) E.same_floor ∙ sym (after_both f before (e ∷ c ∷ after));
      answers = reply_both f before (c ∷ e ∷ after) ∙ ap (λ (y : Reply). replies_in f before ++ (reply g c ∷ y ∷ replies_in (floor_after g (c ∷ e ∷ [])) after)) E.second_answer;
      exchanged = reply_both f before (e ∷ c ∷ after)
          ∙ ap (λ (y : Reply). replies_in f before ++ (reply g e ∷ y ∷ replies_in (floor_after g (e ∷ c ∷ [])) after)) E.first_answer
          ∙ ap (λ (h : Floor). replies_in f before ++ (reply g e ∷ reply g c ∷ replies_in h after)) (sym E.same_floor);
    }

-- ---- stop, repair, stop
-- a stopped tile, repaired and stopped, is the same
stopped_again : (x : TileState) → x.running ≡ 0 → x.distance ≡ 255 → x.next ≡ 0 → x.token ≡ 0 → stopped (repaired x) ≡ x
unfolding stopped repaired
stopped_again x r d n k i = record { running = sym r i; distance = sym d i; next = sym n i; token = sym k i; members = x.members }

module _ (t : ℕ) where
  abbrev stop_form : Form
  stop_form = running_form {t = t} stops

  abbrev repair_form : Form
  repair_form = running_form {t = t} repairs

  abbrev stop_it : Model → Model
  stop_it m = with_tile m t (stopped (tile_of m t))

  abbrev repair_it : Model → Model
  repair_it m = with_tile m t (repaired (tile_of m t))

  put_at : (m : Model) → Sound m → t < total m.settings → (x : TileState) → tile_of (with_tile m t x) t ≡ x
  put_at m S on x = get_or-set_same m.tiles t x no_tile_of (omega (arith, S.len))

  -- from a floor on which the stop is accepted
  module _ (f : Floor) (w : well_formed f ≡ true) (A : Accepted (stop_tests (view f) t)) where
    on : t < total (view f).settings
    unfolding stop_tests
    on = leb-false (total (view f).settings) t A.0

    first : Applied stop_form f (view f)
    first = applied stop_form f (view f) w refl A

    S1 : Sound (stop_it (view f))
    S1 = (stop_keeps (view f) (well_sound f w) t A).well

    at1 : tile_of (stop_it (view f)) t ≡ stopped (tile_of (view f) t)
    at1 = put_at (view f) (well_sound f w) on (stopped (tile_of (view f) t))

    A2 : Accepted (repair_tests (stop_it (view f)) t)
    unfolding repair_tests stop_tests stopped
    A2 = (A.0, (ap (λ (x : TileState). runs x) at1, tt))

    second : Applied repair_form (floor_by stop_form f) (stop_it (view f))
    second = applied repair_form (floor_by stop_form f) (stop_it (view f)) first.well first.sees A2

    at2 : tile_of (repair_it (stop_it (view f))) t ≡ repaired (stopped (tile_of (view f) t))
    at2 = put_at (stop_it (view f)) S1 on (repaired (tile_of (stop_it (view f)) t)) ∙ ap repaired at1

    A3 : Accepted (stop_tests (repair_it (stop_it (view f))) t)
    unfolding stop_tests repaired
    A3 = (A.0, (A.1.0, (ap (λ (x : TileState). not (runs x)) at2, tt)))

    third : Applied stop_form (floor_by repair_form (floor_by stop_form f)) (repair_it (stop_it (view f)))
    third = applied stop_form (floor_by repair_form (floor_by stop_form f)) (repair_it (stop_it (view f))) second.well second.sees A3

    same_value : stop_it (repair_it (stop_it (view f))) ≡ stop_it (view f)
    unfolding stopped repaired
    same_value =
        ap (λ (l : List TileState). with_tiles (view f) l)
        (set-set (set (view f).tiles t (stopped (tile_of (view f) t))) t (repaired (tile_of (stop_it (view f)) t)) (stopped (tile_of (repair_it (stop_it (view f))) t))
        ∙ set-set (view f).tiles t (stopped (tile_of (view f) t)) (stopped (tile_of (repair_it (stop_it (view f))) t))
        ∙ ap (λ (x : TileState). set (view f).tiles t (stopped x)) at2)

    again_stop : floor_by stop_form (floor_by repair_form (floor_by stop_form f)) ≡ floor_by stop_form f
    again_stop = third.is ∙ ap pack same_value ∙ sym first.is

    again_answers : (number_by stop_form f ≡ 0) × (number_by repair_form (floor_by stop_form f) ≡ 0) × (number_by stop_form (floor_by repair_form (floor_by stop_form f)) ≡ 0)
    again_answers = (first.number, second.number, third.number)

  -- from a floor on which the repair is accepted: the tile was stopped, and is so again
  module _ (f : Floor) (w : well_formed f ≡ true) (A : Accepted (repair_tests (view f) t)) where
    repair_on_lem : t < total (view f).settings
    unfolding repair_tests
    repair_on_lem = leb-false (total (view f).settings) t A.0

    still : runs_of_of (view f) t ≡ false
    unfolding repair_tests
    still = A.1.0

    no_hopper : is_hopper (view f).settings t ≡ false
    no_hopper = go (by_test (is_hopper (view f).settings t))
      where
        go : (is_hopper (view f).settings t ≡ true) ⊎ (is_hopper (view f).settings t ≡ false) → is_hopper (view f).settings t ≡ false
        go (inr h) = h
        go (inl h) = not_both ((well_sound f w).hopper_runs t h) still

    one : Applied repair_form f (view f)
    one = applied repair_form f (view f) w refl A

    at_one : tile_of (repair_it (view f)) t ≡ repaired (tile_of (view f) t)
    at_one = put_at (view f) (well_sound f w) repair_on_lem (repaired (tile_of (view f) t))

    B2 : Accepted (stop_tests (repair_it (view f)) t)
    unfolding stop_tests repair_tests repaired
    B2 = (A.0, (no_hopper, (ap (λ (x : TileState). not (runs x)) at_one, tt)))

    two : Applied stop_form (floor_by repair_form f) (repair_it (view f))
    two = applied stop_form (floor_by repair_form f) (repair_it (view f)) one.well one.sees B2

    same_tile : stopped (repaired (tile_of (view f) t)) ≡ tile_of (view f) t
    same_tile = let S = well_sound f w in stopped_again (tile_of (view f) t) (zero_flag (S.flag t)) (S.stop_distance t still) (S.stop_next t still) (S.stop_token t still)
      where
        zero_flag : ((tile_of (view f) t).running ≡ 1) ⊎ ((tile_of (view f) t).running ≡ 0) → (tile_of (view f) t).running ≡ 0
        zero_flag (inr e) = e
        zero_flag (inl e) = not_both (eq-eqb (tile_of (view f) t).running 1 e) still

    back_value : stop_it (repair_it (view f)) ≡ view f
    back_value =
        ap (λ (l : List TileState). with_tiles (view f) l)
        (set-set (view f).tiles t (repaired (tile_of (view f) t)) (stopped (tile_of (repair_it (view f)) t))
        ∙ ap (λ (x : TileState). set (view f).tiles t x) (ap stopped at_one ∙ same_tile)
        ∙ set-get_or (view f).tiles t no_tile_of)

    back_again : floor_by stop_form (floor_by repair_form f) ≡ f
    back_again = two.is ∙ ap pack back_value ∙ pack_view_well f w

  stop_again : (f : Floor) → floor_by stop_form (floor_by repair_form (floor_by stop_form f)) ≡ floor_by stop_form f
  stop_again f = go (well_formed f) refl
    where
      -- the first stop refused
      rest : well_formed f ≡ true → eqb (number_by stop_form f) 0 ≡ false → floor_by stop_form (floor_by repair_form f) ≡ f
      rest w e =
          by_form repair_form f w (λ b. b ≡ eqb (number_by repair_form f) 0 → floor_by stop_form (cond b (pack (repair_it (view f))) f) ≡ f)
          (λ A q. ap (λ b. floor_by stop_form (cond b (pack (repair_it (view f))) f)) q ∙ back_again f w A)
          (λ q. rw e) refl

      go : (b : Bool) → well_formed f ≡ b → floor_by stop_form (floor_by repair_form (floor_by stop_form f)) ≡ floor_by stop_form f
      go false w = ap (λ (g : Floor). floor_by stop_form (floor_by repair_form g)) (floor_bad stop_form f w) ∙ ap (floor_by stop_form) (floor_bad repair_form f w)
      go true w = pick (eqb (number_by stop_form f) 0) refl
        where
          pick : (b : Bool) → eqb (number_by stop_form f) 0 ≡ b → floor_by stop_form (floor_by repair_form (floor_by stop_form f)) ≡ floor_by stop_form f
          pick true e = again_stop f w (passed f w (stop_tests (view f) t) (stop_form.pos (view f)) e)
          pick false e =
              let q : floor_by stop_form f ≡ f = rw e in
              ap (λ (g : Floor). floor_by stop_form (floor_by repair_form g)) q ∙ rest w e ∙ sym q

-- ---- two bookings
number_of : {t : ℕ} {c : Call} → Books t c → ℕ
number_of (placed b) = b.number
number_of (unplaced number) = number

number_is : {t : ℕ} {c : Call} (p : Books t c) (m : Model) → (canister_of p m).number ≡ number_of p
unfolding number_of placed_at
number_is (placed b) m = refl
number_is (unplaced number) m = refl

number_fits : {t : ℕ} {c : Call} (p : Books t c) → InRange c → number_of p < 2 ^ 32
unfolding number_of
number_fits (placed b) h = h
number_fits (unplaced number) h = h

fits_number : {t : ℕ} {c : Call} (p : Books t c) → number_of p < 2 ^ 32 → InRange c
unfolding number_of
fits_number (placed b) h = h
fits_number (unplaced number) h = h

book_passed : (f : Floor) {t : ℕ} {c : Call} (p : Books t c) → (outcome f c).refusal ≡ 0 → (well_formed f ≡ true) × Accepted (book_tests_of p (view f))
unfolding outcome book_answer anywhere_answer answer
book_passed f {t} (placed b) h = accepted f (book_tests (view f) t b) (booking_pos (placed b) (view f)) h
book_passed f {t} (unplaced number) h = accepted f (anywhere_tests (view f) t number) (booking_pos {t = t} (unplaced number) (view f)) h

-- an accepted number is above the last booked, and becomes it
book_above : (f : Floor) {t : ℕ} {c : Call} (p : Books t c) → (outcome f c).refusal ≡ 0 → f.counters.last < number_of p
unfolding view
book_above f {t} p h = omega (arith, number_is p (view f), leb-false (canister_of p (view f)).number f.counters.last (book_tests_passed (view f) t (canister_of p (view f)) (booking_accepts p (view f) (book_passed f p h).1)).above)

book_last : (f : Floor) {t : ℕ} {c : Call} (p : Books t c) → (outcome f c).refusal ≡ 0 → (outcome f c).floor.counters.last ≡ number_of p
unfolding outcome book_answer anywhere_answer answer pack build booked placed_at number_of
book_last f (placed b) h = rw h
book_last f (unplaced number) h = rw h

rises : (f : Floor) {t u : ℕ} {c e : Call} (p : Books t c) (q : Books u e) → BothBooked f c e → number_of p < number_of q
rises f {c = c} p q h = omega (arith, book_last f p h.0, book_above (outcome f c).floor q h.1)

-- in the other order
module _ (f : Floor) (t u : ℕ) (c e : Call) (p : Books t c) (q : Books u e) (he : InRange e) (h : BothBooked f c e) where
  w : well_formed f ≡ true
  w = (book_passed f p h.0).0

  S : Sound (view f)
  S = well_sound f w

  hc : InRange c
  hc = fits_number p (omega (arith, rises f p q h, number_fits q he))

  abbrev b : Canister
  b = canister_of p (view f)

  Ap : Accepted (book_tests_of p (view f))
  Ap = (book_passed f p h.0).1

  Ab : Accepted (book_tests (view f) t b)
  Ab = booking_accepts p (view f) Ap

  sees_b : view (outcome f c).floor ≡ booked (view f) t b
  sees_b = ap view ((book_answers p hc).floor f) ∙ (applied (book_form p hc) f (view f) w refl Ap).sees

  -- what the second adds after the first
  abbrev d : Canister
  d = canister_of q (booked (view f) t b)

  Ad : Accepted (book_tests (booked (view f) t b) u d)
  Ad = booking_accepts q (booked (view f) t b) (subst (λ (m : Model). Accepted (book_tests_of q m)) sees_b (book_passed (outcome f c).floor q h.1).1)

  -- it keeps its spacing without b too
  fewer : all_of (apart (spacing (view f).settings) d) (members_of (booked (view f) t b) u) ≡ true → all_of (apart (spacing (view f).settings) d) (members_of (view f) u) ≡ true
  unfolding booked book_tests
  fewer k = go (ℕ_discrete u t)
    where
      far : Canister → Bool
      far = apart (spacing (view f).settings) d

      on : t < total (view f).settings
      on = leb-false (total (view f).settings) t Ab.0

      y : TileState
      y = with_members (tile_of (view f) t) (insert b (members_of (view f) t))

      go : Dec (u ≡ t) → all_of far (members_of (view f) u) ≡ true
      go (no n) = ap (λ (x : TileState). all_of far x.members) (sym (get_or-set_other (view f).tiles t u y no_tile_of n)) ∙ k
      go (yes r) =
          let j : members_of (booked (view f) t b) u ≡ insert b (members_of (view f) t) = ap (λ i. members_of (booked (view f) t b) i) r ∙ ap (λ (x : TileState). x.members) (get_or-set_same (view f).tiles t y no_tile_of (omega (arith, S.len, on))) in
          let all = all_perm (λ x. far x ≡ true) (insert_perm b (members_of (view f) t)) (all_true far (insert b (members_of (view f) t)) (ap (all_of far) (sym j) ∙ k)) in
          ap (λ i. all_of far (members_of (view f) i)) r ∙ true_all far (members_of (view f) t) all.1

  Ad' : Accepted (book_tests (view f) u d)
  unfolding booked
  Ad' =
      let B = book_tests_passed (view f) t b Ab in
      let D = book_tests_passed (booked (view f) t b) u d Ad in
      let last : (view f).counters.last < d.number = omega (arith, number_is p (view f), number_is q (booked (view f) t b), leb-false b.number (view f).counters.last B.above, rises f p q h) in
      book_tests_pass (view f) u d (record {
        on_floor = D.on_floor;
        source = D.source;
        numbered = D.numbered;
        within = D.within;
        running = sym (book_runs (view f) S t b Ab u) ∙ D.running;
        above = lt-leb d.number (view f).counters.last last;
        room = fewer D.room;
      })

  -- so it is accepted first
  Aq : Accepted (book_tests_of q (view f))
  unfolding placed_at
  Aq = go q Ad'
    where
      go : {e : Call} (q : Books u e) → Accepted (book_tests (view f) u (canister_of q (booked (view f) t b))) → Accepted (book_tests_of q (view f))
      go (placed x) A = A
      go (unplaced number) A = book_anywhere (view f) u (placed_at (booked (view f) t b) u number) A

  -- what it adds then
  abbrev x : Canister
  x = canister_of q (view f)

  q_first : Applied (book_form q he) f (view f)
  q_first = applied (book_form q he) f (view f) w refl Aq

  refused_33 : refusal (book_tests_of p (booked (view f) u x)) ≡ 33
  unfolding refusal book_tests anywhere_tests booked number_of
  refused_33 = go p Ap (rises f p q h)
    where
      runs_still : runs_of_of (view f) t ≡ true → runs_of_of (booked (view f) u x) t ≡ true
      runs_still r = book_runs (view f) S u x (booking_accepts q (view f) Aq) t ∙ r

      go : {c : Call} (p : Books t c) → Accepted (book_tests_of p (view f)) → number_of p < number_of q → refusal (book_tests_of p (booked (view f) u x)) ≡ 33
      go (placed y) A k =
          let P = book_tests_passed (view f) t y A in
          rw (P.on_floor, P.source, P.numbered, P.within, runs_still P.running, le-leb y.number x.number (omega (arith, number_is q (view f))))
      go (unplaced number) A k =
          let P = anywhere_tests_passed (view f) t number A in
          rw (P.on_floor, P.source, P.numbered, runs_still P.running, le-leb number x.number (omega (arith, number_is q (view f))))

  other_order : ((outcome f e).refusal ≡ 0) × ((outcome (outcome f e).floor c).refusal ≡ 33)
  other_order =
      let g = floor_by (book_form q he) f in (
        (book_answers q he).number f ∙ q_first.number,
        ap (λ (y : Floor). (outcome y c).refusal) ((book_answers q he).floor f)
            ∙ (book_answers p hc).number g
            ∙ number_well (book_tests_of p (view g)) g q_first.well
            ∙ ap (λ (m : Model). refusal (book_tests_of p m)) q_first.sees
            ∙ refused_33,
      )

-- ---- the theorem, of every floor
pub commuting_calls : CommutingCalls
unfolding floor_after outcome stop_answer repair_answer answer stop_tests view
commuting_calls f = record {
  either = either_order f;
  in_lists = exchange f;
  again = λ t. stop_again t f;
  again_accepted = λ t w r n. again_answers t f w (lt-leb (total f.settings) t (run_on (view f) (well_sound f w).len t r), (n, (rw r, tt)));
  rising = λ t u c e p q h k. absurd (omega (arith, rises f p q h, rises f q p k));
  rising_answers = other_order f;
}
