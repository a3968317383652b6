-- One tile of Signal, branch by branch: the sides that want, the side chosen, the gap, the outcome.
use mathlib.Core.Path.{◌≡◌, refl, sym}
use mathlib.Core.Logic.{◌≢◌}
use mathlib.Core.Bool.{Bool, true, false, cond}
use mathlib.Core.List.{List, [], ◌∷◌, ◌++◌}
use Prim.Native.Nat.{ℕ, zero, suc, ◌+◌, ◌-◌, ◌*◌, ◌%◌, ◌^◌, max, ◌≤◌, ◌<◌}
use native.Mathlib.Omega.{arith}
use lib.Dec.{eqb}
use lib.ListN.{length, get_or, take}
use lib.Seq.{take-suc}
use native.Mathlib.Numerals.{add-one}
use borrow.Author.Tests.{lt-ltb, eq-eqb, ne_eqb}
use Rattle.std.specs.Ordering.{nat_cmp, ord_max}
use Rattle.laws.specs.Define.{bit, first_of}
use Rattle.floor.specs.declared.Canister.{Canister}
use Rattle.floor.specs.declared.Settings.{Settings}
use Rattle.floor.specs.Memory.{zero_canister}
use Rattle.floor.specs.Sides.{opposite, after, following, chosen, in_set}
use Rattle.floor.specs.Settings.{spacing}
use Rattle.floor.specs.Signal.{Signal, requests, lack, missing, waiting, signal_with, signal_by}
use Rattle.floor.proofs.SideTables.{set_of, set_of_lem}

-- ---- the sides that want: one side's bit where the neighbour there shows the opposite side
one_bit : (k : ℕ) → 1 ≤ k → k ≤ 4 → 1 * 2 ^ (k - 1) % 2 ^ 8 ≡ 2 ^ (k - 1)
one_bit zero h g = absurd (omega arith)
one_bit (suc zero) h g = refl
one_bit (suc (suc zero)) h g = refl
one_bit (suc (suc (suc zero))) h g = refl
one_bit (suc (suc (suc (suc zero)))) h g = refl
one_bit (suc (suc (suc (suc (suc k))))) h g = absurd (omega arith)

module _ (k shown facing : ℕ) (o : facing ≡ opposite k) {b : Bool} (t : b ≡ eqb shown facing) where
  pub wants_bit : 1 ≤ k → k ≤ 4 → b ≡ true → 1 * 2 ^ (k - 1) % 2 ^ 8 ≡ cond (eqb shown (opposite k)) (2 ^ (k - 1)) 0
  wants_bit h g y = rw (← o, ← t, y) (one_bit k h g)

  pub wants_none : b ≡ false → 0 ≡ cond (eqb shown (opposite k)) (2 ^ (k - 1)) 0
  wants_none n = rw (← o, ← t, n)

pub requests_of : {x : ℕ} (w so n e : ℕ) → x ≡ set_of (eqb w 4) (eqb so 3) (eqb n 2) (eqb e 1) → (x < 16) × (in_set x ≡ requests w so n e)
unfolding requests
requests_of w so n e h = rw h (set_of_lem (eqb w 4) (eqb so 3) (eqb n 2) (eqb e 1))

-- ---- a side that is found is a side
cond_le : (b : Bool) {x y : ℕ} → x ≤ 4 → y ≤ 4 → cond b x y ≤ 4
cond_le true p q = p
cond_le false p q = q

four_le : (p : ℕ → Bool) (a b c d : ℕ) → a ≤ 4 → b ≤ 4 → c ≤ 4 → d ≤ 4 → first_of p (a ∷ b ∷ c ∷ d ∷ []) ≤ 4
unfolding first_of
four_le p a b c d ha hb hc hd = cond_le (p a) ha (cond_le (p b) hb (cond_le (p c) hc (cond_le (p d) hd (omega arith))))

following_le : (p : ℕ → Bool) (k : ℕ) → following p k ≤ 4
unfolding following after
following_le p zero = four_le p 1 2 3 4 (omega arith) (omega arith) (omega arith) (omega arith)
following_le p (suc zero) = four_le p 2 3 4 1 (omega arith) (omega arith) (omega arith) (omega arith)
following_le p (suc (suc zero)) = four_le p 3 4 1 2 (omega arith) (omega arith) (omega arith) (omega arith)
following_le p (suc (suc (suc zero))) = four_le p 4 1 2 3 (omega arith) (omega arith) (omega arith) (omega arith)
following_le p (suc (suc (suc (suc zero)))) = four_le p 1 2 3 4 (omega arith) (omega arith) (omega arith) (omega arith)
following_le p (suc (suc (suc (suc (suc k))))) = four_le p 1 2 3 4 (omega arith) (omega arith) (omega arith) (omega arith)

pub chosen_le : (p : ℕ → Bool) (token k : ℕ) → k ≡ chosen p token → token ≤ 4 → k ≤ 4
unfolding chosen
chosen_le p token k e h = rw e (cond_le (p token) h (following_le p token))

-- no side wants
pub chosen_none : (set k : ℕ) → set ≡ 0 → k ≤ 4 → 0 ≡ chosen (in_set set) k
unfolding chosen following after in_set first_of bit
chosen_none set zero e h = rw e
chosen_none set (suc zero) e h = rw e
chosen_none set (suc (suc zero)) e h = rw e
chosen_none set (suc (suc (suc zero))) e h = rw e
chosen_none set (suc (suc (suc (suc zero)))) e h = rw e
chosen_none set (suc (suc (suc (suc (suc k))))) e h = absurd (omega arith)

pub chosen_kept : (p : ℕ → Bool) (k : ℕ) → p k ≡ true → k ≡ chosen p k
unfolding chosen
chosen_kept p k h = rw h

pub chosen_next : (p : ℕ → Bool) (k : ℕ) → p k ≡ false → following p k ≡ chosen p k
unfolding chosen
chosen_next p k h = rw h

-- ---- what a canister is short of the gap at a side, by what the code subtracted
module _ (s : Settings) (k : ℕ) (c : Canister) (d r : ℕ) (e : d ≡ spacing s) where
  pub lack_west : k ≡ 1 → r ≡ d - c.a → r ≡ lack s k c
  unfolding lack
  lack_west h q = rw (q, e, h)

  pub lack_south : k ≡ 2 → r ≡ d - c.b → r ≡ lack s k c
  unfolding lack
  lack_south h q = rw (q, e, h)

  pub lack_north : k ≡ 3 → r ≡ c.b + (s.length + d) - s.width → r ≡ lack s k c
  unfolding lack
  lack_north h q = rw (q, e, h) (omega arith)

  pub lack_east : k ≡ 4 → r ≡ c.a + (s.length + d) - s.width → r ≡ lack s k c
  unfolding lack
  lack_east h q = rw (q, e, h) (omega arith)

pub lack_none : (s : Settings) (k : ℕ) (c : Canister) → k ≢ 1 → k ≢ 2 → k ≢ 3 → k ≢ 4 → 0 ≡ lack s k c
unfolding lack
lack_none s zero c w so n e = refl
lack_none s (suc zero) c w so n e = absurd (w refl)
lack_none s (suc (suc zero)) c w so n e = absurd (so refl)
lack_none s (suc (suc (suc zero))) c w so n e = absurd (n refl)
lack_none s (suc (suc (suc (suc zero)))) c w so n e = absurd (e refl)
lack_none s (suc (suc (suc (suc (suc k))))) c w so n e = refl

-- ---- the worst canister's: at first none, then one canister after another
pub missing_zero : (s : Settings) (k : ℕ) → 0 ≡ missing s k []
unfolding missing
missing_zero s k = refl

missing_snoc : (s : Settings) (k : ℕ) (l : List Canister) (c : Canister) → missing s k (l ++ (c ∷ [])) ≡ max (missing s k l) (lack s k c)
unfolding missing
missing_snoc s k [] c = omega arith
missing_snoc s k (x ∷ l) c = omega (arith, missing_snoc s k l c)

-- what `max` of numbers gives
greater : (a b : ℕ) → ord_max nat_cmp a b ≡ max a b
greater a b = grind arith

pub missing_step : (s : Settings) (side : ℕ) (l : List Canister) (k : ℕ) {w one r : ℕ} → w ≡ missing s side (take k l) → k < length l → one ≡ lack s side (get_or l k zero_canister) → r ≡ ord_max nat_cmp w one
    → r ≡ missing s side (take (k + 1) l)
missing_step s side l k {w} {one} e h q m = rw (m, greater w one, e, q, add-one, take-suc l k zero_canister h) (sym (missing_snoc s side (take k l) (get_or l k zero_canister)))

-- nothing is missing at the side none
missing_none : (s : Settings) (l : List Canister) → missing s 0 l ≡ 0
unfolding missing lack
missing_none s [] = refl
missing_none s (c ∷ l) = omega (arith, missing_none s l)

-- ---- one tile
module _ (s : Settings) (running token : ℕ) (l : List Canister) (p : ℕ → Bool) where
  pub signal_stopped : running ≢ 1 → waiting token 0 ≡ signal_by s (eqb running 1) token l p
  unfolding signal_by
  signal_stopped r = rw (ne_eqb running 1 r)

  -- k the side chosen of the set of those that want, n what is missing there
  module _ (r : running ≡ 1) (set : ℕ) (q : in_set set ≡ p) (k : ℕ) (e : k ≡ chosen (in_set set) token) where
    turn : chosen p token ≡ k
    turn = rw (sym q, sym e)

    pub signal_none : k ≡ 0 → waiting 0 0 ≡ signal_by s (eqb running 1) token l p
    unfolding signal_by signal_with
    signal_none z = rw (eq-eqb running 1 r, turn, z, missing_none s l)

    module _ (some : k ≢ 0) (n : ℕ) (m : n ≡ missing s k l) where
      pub signal_grants : (next : ℕ) → n ≡ 0 → next ≡ following (in_set set) k → ◌≡◌ {A = Signal} (record { token = next; grant = k; turn = k; missing = 0 }) (signal_by s (eqb running 1) token l p)
      unfolding signal_by signal_with
      signal_grants next z f = rw (f, q, eq-eqb running 1 r, turn, lt-ltb 0 k (omega arith), sym m, z)

      pub signal_stays : n ≢ 0 → waiting k n ≡ signal_by s (eqb running 1) token l p
      unfolding signal_by signal_with
      signal_stays g = rw (eq-eqb running 1 r, turn, lt-ltb 0 k (omega arith), sym m, ne_eqb n 0 g)
