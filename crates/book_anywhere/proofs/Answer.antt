-- The answer of a booking without a place: by what the code read at tile t % 64, and the canister that it found a place for.
use mathlib.Core.Path.{◌≡◌, refl, sym, ap, ◌∙◌}
use mathlib.Core.Bool.{true, false}
use mathlib.Core.List.{List}
use Prim.Native.Nat.{ℕ, suc, ◌≤◌, ◌<◌}
use native.Mathlib.Omega.{arith}
use native.Mathlib.Decide.{dec_le}
use borrow.Author.Tests.{le-leb, leb-false, ne_eqb}
use Rattle.laws.specs.Define.{refusal}
use Rattle.laws.proofs.Tests.{refusal_none, refusal_all_false}
use Rattle.floor.specs.declared.Canister.{Canister}
use Rattle.floor.specs.declared.Floor.{Floor}
use Rattle.floor.specs.declared.Placed.{Placed}
use Rattle.floor.specs.Settings.{total}
use Rattle.floor.specs.Model.{tile_of, members_of}
use Rattle.floor.specs.Memory.{view, pack}
use Rattle.floor.specs.Calls.{refusal_of, answer, book_tests, booked}
use Rattle.floor.specs.Anywhere.{place_a, place_b, placing_tests, anywhere_tests, placed_at, anywhere_answer}
use Rattle.floor.proofs.Lowest.{at}
use Rattle.floor.proofs.Calls.{Accepted, anywhere_accepts}
use Rattle.floor.specs.declared.refusal.Refusal.{Refusal}
use Rattle.floor.specs.Numbers.{refusal_number}
use Rattle.floor.specs.Well.{well_formed}
use Rattle.floor.proofs.Answers.{malformed, formed}
use Rattle.floor.proofs.Refusing.{refusing}
use Rattle.round_members.specs.InternalMembers.{list_of}
use Rattle.book_call.specs.InternalOwn.{own_of}
use Rattle.book_call.proofs.Booking.{read_head, own_runs, own_list}

-- they are the floor's tests, where the tile has what the code read
placing_same : (f : Floor) (t number running : ℕ) (l : List Canister) → (t < total f.settings → (running ≡ (tile_of (view f) t).running) × (l ≡ members_of (view f) t))
    → refusal (placing_tests f.settings f.counters.last t number running l) ≡ refusal (anywhere_tests (view f) t number)
unfolding placing_tests anywhere_tests refusal view
placing_same f t number running l own = go (dec_le (suc t) (total f.settings))
  where
    go : Dec (t < total f.settings) → refusal (placing_tests f.settings f.counters.last t number running l) ≡ refusal (anywhere_tests (view f) t number)
    go (yes on) = rw ((own on).0, (own on).1)
    go (no o) = let off : total f.settings ≤ t = omega arith in rw (le-leb (total f.settings) t off)

module _ (f : Floor) (t : ℕ) (w : well_formed f ≡ true) (number n : ℕ)
    (e : n ≡ refusal (placing_tests f.settings f.counters.last t number (read_head f t).running (list_of (own_of f t)))) where
  -- the number that the code found is the floor's
  pub anywhere_number : n ≡ refusal (anywhere_tests (view f) t number)
  anywhere_number = e ∙ placing_same f t number (read_head f t).running (list_of (own_of f t)) (λ on. (own_runs f t w on, own_list f t w on))

  -- accepted: the canister is at the floor's place, and a booking of it is accepted
  module _ (z : n ≡ 0) where
    accepted : Accepted (anywhere_tests (view f) t number)
    unfolding anywhere_tests
    accepted = refusal_none (anywhere_tests (view f) t number) (omega arith) (sym anywhere_number ∙ z)

    on : t < total f.settings
    unfolding anywhere_tests view
    on = leb-false _ _ accepted.0

    module _ (c : Canister) (q : c ≡ at number (place_a f.settings (list_of (own_of f t))) (place_b f.settings (list_of (own_of f t)))) where
      pub anywhere_place : c ≡ placed_at (view f) t number
      unfolding placed_at view
      anywhere_place = q ∙ ap (λ (l : List Canister). at number (place_a f.settings l) (place_b f.settings l)) (own_list f t w on)

      pub anywhere_booked : refusal (book_tests (view f) t c) ≡ 0
      anywhere_booked = rw anywhere_place (refusal_all_false (book_tests (view f) t (placed_at (view f) t number)) (anywhere_accepts (view f) t number accepted))

-- ---- refused, and accepted
pub placed_refused : (f g : Floor) (t number : ℕ) (r : Refusal) → refusal_number r ≡ refusal_of f (anywhere_tests (view f) t number) → g ≡ (anywhere_answer f t number).floor
    → ◌≡◌ {A = Placed} (record { floor = g; a = 0; b = 0; refusal = refusal_number r }) (anywhere_answer f t number)
unfolding anywhere_answer answer
placed_refused f g t number r e k = rw (k, sym e, ne_eqb (refusal_number r) 0 (refusing r))

pub placed_accepted : (f g : Floor) (t number : ℕ) (c : Canister) → 0 ≡ refusal_of f (anywhere_tests (view f) t number) → c ≡ placed_at (view f) t number → g ≡ (anywhere_answer f t number).floor
    → ◌≡◌ {A = Placed} (record { floor = g; a = c.a; b = c.b; refusal = 0 }) (anywhere_answer f t number)
unfolding anywhere_answer answer
placed_accepted f g t number c e q k = rw (k, sym e, q)

-- ---- the number and the floor of the answer
pub number_malformed : (f : Floor) (t number : ℕ) → well_formed f ≡ false → (30 ≡ refusal_of f (anywhere_tests (view f) t number)) × (f ≡ (anywhere_answer f t number).floor)
unfolding anywhere_answer answer
number_malformed f t number w = let e = malformed f (anywhere_tests (view f) t number) w in (sym e, rw e refl)

module _ (f : Floor) (t number : ℕ) (w : well_formed f ≡ true) where
  pub number_refused : (r : Refusal) → refusal_number r ≡ refusal (anywhere_tests (view f) t number) → (refusal_number r ≡ refusal_of f (anywhere_tests (view f) t number)) × (f ≡ (anywhere_answer f t number).floor)
  unfolding anywhere_answer answer
  number_refused r h = let e = formed f (anywhere_tests (view f) t number) (refusal_number r) w h in (sym e, rw (e, ne_eqb (refusal_number r) 0 (refusing r)) refl)

  pub number_accepted : 0 ≡ refusal (anywhere_tests (view f) t number) → (g : Floor) (c : Canister) → c ≡ placed_at (view f) t number → g ≡ pack (booked (view f) t c)
      → (0 ≡ refusal_of f (anywhere_tests (view f) t number)) × (g ≡ (anywhere_answer f t number).floor)
  unfolding anywhere_answer answer
  number_accepted h g c q p = let e = formed f (anywhere_tests (view f) t number) 0 w h in (sym e, rw (e, sym q) p)
