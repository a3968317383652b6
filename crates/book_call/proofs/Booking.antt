-- A booking on a well-formed floor: its tests by what the code read, and the floor that it leaves.
use mathlib.Core.Path.{◌≡◌, refl, sym, ap, ◌∙◌}
use mathlib.Core.Logic.{◌≢◌}
use mathlib.Core.Bool.{true, false}
use mathlib.Core.List.{List}
use Prim.Native.Nat.{ℕ, suc, ◌+◌, ◌-◌, ◌*◌, ◌/◌, ◌%◌, ◌≤◌, ◌<◌}
use native.Mathlib.Omega.{arith}
use native.Mathlib.Decide.{dec_le}
use lib.ListN.{length, get_or, set, drop}
use lib.Seq.{get_or-take, length-take-le}
use Rattle.std.proofs.lemmas.List.{get_or-drop, length-drop}
use borrow.Rule.Slice.PartMut.{put_mid}
use Rattle.laws.specs.Define.{refusal}
use Rattle.floor.specs.declared.Canister.{Canister}
use Rattle.floor.specs.declared.Counters.{Counters}
use Rattle.floor.specs.declared.Tile.{Tile}
use Rattle.floor.specs.declared.Floor.{Floor}
use Rattle.floor.specs.declared.Answer.{Answer}
use Rattle.floor.specs.declared.refusal.Refusal.{Refusal}
use Rattle.floor.specs.Numbers.{refusal_number}
use Rattle.round_members.specs.declared.Members.{Members}
use Rattle.floor.specs.Settings.{total}
use Rattle.floor.specs.Model.{TileState, tile_of, members_of, with_members}
use Rattle.floor.specs.Memory.{zero_canister, head_of, view, head, pack, with_count, refilled}
use Rattle.floor.specs.Well.{well_formed}
use Rattle.floor.specs.Move.{insert}
use Rattle.floor.specs.Calls.{refusal_of, answer, booking_tests, book_tests, with_booking, booked, book_answer}
use Rattle.floor.proofs.Pack.{few_on, zero_off, pack_put, well_sound, well_fits, well_few, well_lengths, below_64, head_view, place_view}
use Rattle.floor.proofs.Answers.{malformed, formed, answer_malformed, answer_refused, answer_accepted}
use Rattle.floor.proofs.Refusing.{refusing}
use Rattle.floor.proofs.Capacity.{sound_small}
use Rattle.round_members.specs.InternalMembers.{list_of, Places, Holds}
use Rattle.round_members.proofs.Inserting.{shown_list}
use Rattle.book_call.proofs.Tests.{book_same, book_on_lem, book_room}
use Rattle.book_call.specs.InternalOwn.{own_of}
use Rattle.book_call.proofs.Places.{put_own, put_below, put_above, put_length}

-- the tile's head that the code reads
abbrev pub read_head : Floor → ℕ → Tile
read_head f t = head_of f (t % 64)

beyond : (i t : ℕ) → i / 16 ≢ t → 16 * t ≤ i → i ≡ 16 * t + 16 + (i - (16 * t + 16))
beyond i t j h = go (dec_le (16 * t + 16) i)
  where
    go : Dec (16 * t + 16 ≤ i) → i ≡ 16 * t + 16 + (i - (16 * t + 16))
    go (yes k) = omega arith
    go (no k) = let e : i / 16 ≡ t = omega arith in absurd (j e)

module _ (f : Floor) (t : ℕ) (w : well_formed f ≡ true) where
  few_view : length (members_of (view f) t) ≤ 16
  few_view = sound_small (view f) (well_sound f w) t

  -- any tile of the arrays
  pub own_few : (read_head f t).count ≤ 16
  own_few = go (dec_le (suc (t % 64)) (total f.settings))
    where
      go : Dec (t % 64 < total f.settings) → (read_head f t).count ≤ 16
      go (yes h) = few_on f (well_few f w) (well_fits f w) (t % 64) h
      go (no h) = let z = zero_off f (well_few f w) (well_fits f w) (t % 64) (omega arith) (omega arith) in omega (arith, ap (λ (x : Tile). x.count) z)

  items_length : length (own_of f t).items ≡ 16
  items_length =
      let d = length-drop (16 * (t % 64)) f.canisters in
      let n = (well_lengths f w).1 in
      length-take-le 16 (drop (16 * (t % 64)) f.canisters) (omega (arith, d, n))

  module _ (on : t < total f.settings) where
    same_tile : t % 64 ≡ t
    same_tile = omega (arith, below_64 f t w on)

    own_head : read_head f t ≡ head (tile_of (view f) t)
    own_head = ap (head_of f) same_tile ∙ head_view f t w on

    pub own_runs : (read_head f t).running ≡ (tile_of (view f) t).running
    unfolding head
    own_runs = ap (λ (x : Tile). x.running) own_head

    own_holds : Holds (own_of f t) (members_of (view f) t)
    unfolding head
    own_holds = (
      ap (λ (x : Tile). x.count) own_head,
      λ i k. get_or-take 16 (drop (16 * (t % 64)) f.canisters) i zero_canister k ∙ get_or-drop (16 * (t % 64)) f.canisters i zero_canister
          ∙ ap (λ (j : ℕ). get_or f.canisters (16 * j + i) zero_canister) same_tile ∙ place_view f t w on i k,
    )

    pub own_list : list_of (own_of f t) ≡ members_of (view f) t
    own_list = shown_list (own_of f t).items (members_of (view f) t) (read_head f t).count items_length few_view own_holds

    own_places : Places (list_of (own_of f t)) (own_of f t).items
    own_places = rw own_list own_holds.1

  module _ (c : Canister) where
    -- the number that the code found is the floor's
    pub book_number : (n : ℕ) → n ≡ refusal (booking_tests f.settings f.counters.last t c (read_head f t).running (list_of (own_of f t))) → n ≡ refusal (book_tests (view f) t c)
    book_number n e = e ∙ book_same f t c (read_head f t).running (list_of (own_of f t)) (λ on. (own_runs on, own_list on))

    module _ (h : refusal (book_tests (view f) t c) ≡ 0) where
      pub on : t < total f.settings
      on = book_on_lem f t c h

      -- there is a place left
      pub book_ready : ((read_head f t).count < 16) × Places (list_of (own_of f t)) (own_of f t).items
      book_ready = (omega (arith, (own_holds on).0, book_room f t c h w), own_places on)

      -- the floor with the new places, then the tile's head and the counters
      pub booked_pack : (more : Members) (ys : List Canister) (h : Tile) (a : Counters) → Holds more (insert c (list_of (own_of f t))) → ys ≡ more.items → length ys ≡ 16
          → h ≡ with_count (head_of f t) more.count → a ≡ with_booking f.counters c.number
          → ◌≡◌ {A = Floor} (refilled f a (set f.tiles t h) (put_mid (16 * t) (16 * t + 16 - 16 * t) f.canisters ys)) (pack (booked (view f) t c))
      unfolding booked head view
      booked_pack more ys h a holds same sixteen eh ea =
          ap (λ (x : Counters). refilled f x (set f.tiles t h) now) ea
          ∙ ap (λ (x : Tile). floor (set f.tiles t x)) eh
          ∙ ap (λ (x : Tile). floor (set f.tiles t (with_count x more.count))) (head_view f t w on)
          ∙ ap (λ (n : ℕ). floor (set f.tiles t (with_count (head old) n))) q.0
          ∙ pack_put f (well_few f w) (well_fits f w) anew t (with_members old (insert c old.members)) now on (put_length (16 * t) f.canisters ys few sixteen ∙ (well_lengths f w).1) own others
        where
          few : 16 * t + 16 ≤ length f.canisters
          few = omega (arith, below_64 f t w on, (well_lengths f w).1)

          now : List Canister
          now = put_mid (16 * t) (16 * t + 16 - 16 * t) f.canisters ys

          old : TileState
          old = tile_of (view f) t

          anew : Counters
          anew = with_booking f.counters c.number

          floor : List Tile → Floor
          floor ts = refilled f anew ts now

          q : Holds more (insert c old.members)
          q = rw (own_list on) at holds

          own : (i : ℕ) → i < 1024 → i / 16 ≡ t → get_or now i zero_canister ≡ get_or (insert c old.members) (i % 16) zero_canister
          own i k j =
              let e : i ≡ 16 * t + i % 16 = omega arith in
              ap (λ (n : ℕ). get_or now n zero_canister) e ∙ put_own (16 * t) f.canisters ys few sixteen (i % 16) (omega arith) ∙ ap (λ (l : List Canister). get_or l (i % 16) zero_canister) same ∙ q.1 (i % 16) (omega arith)

          others : (i : ℕ) → i < 1024 → i / 16 ≢ t → get_or now i zero_canister ≡ get_or f.canisters i zero_canister
          others i k j = go (dec_le (suc i) (16 * t))
            where
              go : Dec (i < 16 * t) → get_or now i zero_canister ≡ get_or f.canisters i zero_canister
              go (yes h) = put_below (16 * t) f.canisters ys few sixteen i h
              go (no h) =
                  let e : i ≡ 16 * t + 16 + (i - (16 * t + 16)) = beyond i t j (omega arith) in
                  ap (λ (n : ℕ). get_or now n zero_canister) e ∙ put_above (16 * t) f.canisters ys few sixteen (i - (16 * t + 16)) ∙ ap (λ (n : ℕ). get_or f.canisters n zero_canister) (sym e)

-- ---- the answer
module _ (f : Floor) (t : ℕ) (c : Canister) (w : well_formed f ≡ true) where
  pub book_refused : (r : Refusal) → refusal_number r ≡ refusal (book_tests (view f) t c) → (refusal_number r ≡ refusal_of f (book_tests (view f) t c)) × (f ≡ (book_answer f t c).floor)
  unfolding book_answer answer
  book_refused r e = (sym (formed f (book_tests (view f) t c) (refusal_number r) w e), ap (λ (a : Answer). a.floor) (answer_refused f (book_tests (view f) t c) (booked (view f) t c) w (refusal_number r) e (refusing r)))

  pub book_accepted : 0 ≡ refusal (book_tests (view f) t c) → (g : Floor) → g ≡ pack (booked (view f) t c) → (0 ≡ refusal_of f (book_tests (view f) t c)) × (g ≡ (book_answer f t c).floor)
  unfolding book_answer answer
  book_accepted e g p = (sym (formed f (book_tests (view f) t c) 0 w e), ap (λ (a : Answer). a.floor) (answer_accepted f (book_tests (view f) t c) (booked (view f) t c) w 0 e refl g p))

pub book_malformed : (f : Floor) (t : ℕ) (c : Canister) → well_formed f ≡ false → (30 ≡ refusal_of f (book_tests (view f) t c)) × (f ≡ (book_answer f t c).floor)
unfolding book_answer answer
book_malformed f t c w = (sym (malformed f (book_tests (view f) t c) w), ap (λ (a : Answer). a.floor) (answer_malformed f (book_tests (view f) t c) (booked (view f) t c) w))
