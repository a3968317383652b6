-- A list of bookings in one call is its bookings made singly: `booking_lists`.
use mathlib.Core.Path.{◌≡◌, refl, sym, ap, ◌∙◌, subst}
use mathlib.Core.Logic.{◌⊎◌, inl, inr}
use mathlib.Core.Bool.{Bool, true, false, cond}
use mathlib.Core.List.{List, [], ◌∷◌, ◌++◌, map}
use Prim.Native.Nat.{ℕ, ◌≤◌, ◌<◌}
use borrow.Author.Tests.{lt-ltb, le-ltb}
use lib.ListN.{length, take, drop, length-take}
use native.Mathlib.Nat.{le_trans, min-le_left}
use Rattle.floor.specs.declared.Booking.{Booking}
use Rattle.floor.specs.declared.Floor.{Floor}
use Rattle.floor.specs.declared.Answer.{Answer}
use Rattle.floor.specs.Well.{well_formed}
use Rattle.floor.specs.Bookings.{answered, single, floor_singly, entries_singly, too_long_of, accepted_in, list_answer, list_after}
use Rattle.floor.specs.Demand3.{Call, book, outcome, floor_after, booked_in, reported_in}
use Rattle.floor.specs.CommutingCalls.{answers_in}
use Rattle.floor.specs.Chain.{booked_by}
use Rattle.book_list.specs.declared.Listed.{Listed}
use Rattle.book_list.specs.Parts.{places_answer}
use Rattle.book_list.specs.Singly.{calls_of, Singly, ByValue, BookingLists}
use Rattle.book_list.proofs.Kept.{book_malformed}

-- ---- at most 64 entries: the call is its bookings made singly
list_floor : (f : Floor) (l : List Booking) → floor_singly f l ≡ floor_after f (calls_of l)
unfolding floor_singly floor_after outcome
list_floor f [] = refl
list_floor f (b ∷ l) = list_floor (single f b).floor l

list_answers : (f : Floor) (l : List Booking) → map (λ b. b.answer) (entries_singly f l) ≡ answers_in f (calls_of l)
unfolding entries_singly answers_in outcome
list_answers f [] = refl
list_answers f (b ∷ l) = ap (λ (k : List ℕ). (single f b).refusal ∷ k) (list_answers (single f b).floor l)

list_bookings : (f : Floor) (l : List Booking) → calls_of (entries_singly f l) ≡ calls_of l
unfolding entries_singly
list_bookings f [] = refl
list_bookings f (b ∷ l) = ap (λ (k : List Call). book b.tile b.canister ∷ k) (list_bookings (single f b).floor l)

list_booked : (f : Floor) (l : List Booking) → accepted_in (entries_singly f l) ≡ booked_in f (calls_of l)
unfolding entries_singly booked_in outcome
list_booked f [] = refl
list_booked f (b ∷ l) = ap (λ k. booked_by b.canister (single f b) ++ k) (list_booked (single f b).floor l)

list_reported : (f : Floor) (l : List Booking) (k : ℕ) → reported_in f (calls_of l) k ≡ []
unfolding reported_in outcome
list_reported f [] k = refl
list_reported f (b ∷ l) k = list_reported (single f b).floor l k

few : (l : List Booking) → length l ≤ 64 → too_long_of (length l) ≡ false
few l h = le-ltb 64 (length l) h

list_singly : (f : Floor) (l : List Booking) → length l ≤ 64 → Singly f l
unfolding list_answer list_after
list_singly f l h =
    let e = few l h in
    record {
      after = entries_singly f l;
      is_after = rw e;
      number = rw e;
      same_floor = rw e (list_floor f l);
      same_answers = list_answers f l;
      same_bookings = list_bookings f l;
      same_booked = list_booked f l;
      none_reported = list_reported f l;
    }

-- ---- more: nothing is done
list_too_long : (f : Floor) (l : List Booking) → 64 < length l → (list_answer f l ≡ record { refusal = 42; floor = f }) × (list_after f l ≡ l)
unfolding list_answer list_after
list_too_long f l h =
    let e : too_long_of (length l) ≡ true = lt-ltb 64 (length l) h in
    (rw e, rw e)

list_number : (f : Floor) (l : List Booking) → ((list_answer f l).refusal ≡ 0) ⊎ ((list_answer f l).refusal ≡ 42)
unfolding list_answer
list_number f l = go (too_long_of (length l))
  where
    go : (b : Bool) → (◌≡◌ {A = ℕ} (cond b 42 0) 0) ⊎ (◌≡◌ {A = ℕ} (cond b 42 0) 42)
    go true = inr refl
    go false = inl refl

-- ---- a malformed floor
malformed_singly : (f : Floor) (l : List Booking) → well_formed f ≡ false → (floor_singly f l ≡ f) × (entries_singly f l ≡ map (λ b. answered b 30) l)
unfolding floor_singly entries_singly
malformed_singly f [] w = (refl, refl)
malformed_singly f (b ∷ l) w =
    let e : single f b ≡ record { refusal = 30; floor = f } = book_malformed f b.tile b.canister w in
    let k = malformed_singly f l w in
    (ap (λ (r : Answer). floor_singly r.floor l) e ∙ k.0, ap (λ (r : Answer). answered b r.refusal ∷ entries_singly r.floor l) e ∙ ap (λ t. answered b 30 ∷ t) k.1)

list_malformed : (f : Floor) (l : List Booking) → well_formed f ≡ false → length l ≤ 64 → (list_answer f l ≡ record { refusal = 0; floor = f }) × (list_after f l ≡ map (λ b. answered b 30) l)
unfolding list_answer list_after
list_malformed f l w h =
    let k = malformed_singly f l w in
    (rw (few l h, k.0), rw (few l h) k.1)

list_empty : (f : Floor) → (list_answer f [] ≡ record { refusal = 0; floor = f }) × (list_after f [] ≡ [])
unfolding list_answer list_after floor_singly entries_singly
list_empty f = (refl, refl)

-- ---- by value
few_taken : (n : ℕ) (l : List Booking) → n ≤ 64 → too_long_of (length (take n l)) ≡ false
few_taken n l h = few (take n l) (subst (λ k. k ≤ 64) (sym (length-take n l)) (le_trans (min-le_left n (length l)) h))

none_booked : (f : Floor) (l : List Booking) → ◌≡◌ {A = Listed} (record { floor = floor_singly f (take 0 l); list = entries_singly f (take 0 l) ++ drop 0 l; refusal = 42 }) (record { floor = f; list = l; refusal = 42 })
unfolding floor_singly entries_singly
none_booked f [] = refl
none_booked f (b ∷ l) = refl

list_by_value : (f : Floor) (l : List Booking) (n : ℕ) → ByValue f l n
unfolding places_answer list_answer list_after
list_by_value f l n = record { as_list = λ h. rw (le-ltb 64 n h, few_taken n l h); too_long = λ h. rw (lt-ltb 64 n h) (none_booked f l) }

pub booking_lists : BookingLists
booking_lists =
    record {
      every = λ f l. record { number = list_number f l; too_long = list_too_long f l; singly = list_singly f l; malformed = list_malformed f l };
      empty = list_empty;
      by_value = list_by_value;
    }
