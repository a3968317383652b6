-- Chains of places whose numbers have one remainder: what they tell of the numbers so far, and the turns of the loops that follow and extend them.
use mathlib.Core.Path.{◌≡◌, refl, sym, ap, ◌∙◌, subst}
use mathlib.Core.Logic.{◌≢◌}
use mathlib.Core.Bool.{Bool, true, false}
use mathlib.Core.List.{List}
use Prim.Native.Nat.{ℕ, suc, ◌+◌, ◌-◌, ◌*◌, ◌/◌, ◌%◌, ◌≤◌, ◌<◌}
use native.Mathlib.Omega.{arith}
use native.Mathlib.Decide.{dec_le, ℕ_discrete}
use lib.ListN.{length, get_or, set, replicate, get_or-replicate}
use lib.Seq.{get_or-set_same, get_or-set_other}
use Rattle.laws.proofs.Lists.{pairs_each, pairs_place}
use Rattle.check_unique.specs.InternalDiffer.{differ, Runs, Ordered}
use Rattle.check_unique.proofs.Apart.{ordered_pos, Apart, r_differ}

abbrev pub at : List ℕ → ℕ → ℕ
at l i = get_or l i 0

-- p is 1 + the last place below i whose number has the remainder h, or 0
abbrev pub Link : List ℕ → ℕ → ℕ → ℕ → Type 0
Link ks h p i = (p ≤ i) × (0 < p → (0 < at ks (p - 1)) × (at ks (p - 1) % 2039 ≡ h)) × ((m : ℕ) → p ≤ m → m < i → at ks m % 2039 ≡ h → at ks m ≡ 0)

abbrev pub Heads : List ℕ → List ℕ → ℕ → Type 0
Heads ks hs i = (h : ℕ) → h < 2039 → Link ks h (at hs h) i

abbrev pub Prevs : List ℕ → List ℕ → ℕ → Type 0
Prevs ks ps i = (j : ℕ) → j < i → 0 < at ks j → Link ks (at ks j % 2039) (at ps j) j

-- the numbers below i differ
abbrev pub Unlike : List ℕ → ℕ → Type 0
Unlike ks i = (j k : ℕ) → j < k → k < i → at ks j ≡ at ks k → at ks k ≡ 0

-- n stands nowhere from p to i, and p is on its chain
abbrev pub Unseen : List ℕ → ℕ → ℕ → ℕ → Type 0
Unseen ks n p i = (p ≤ i) × (0 < p → (0 < at ks (p - 1)) × (at ks (p - 1) % 2039 ≡ n % 2039)) × ((m : ℕ) → p ≤ m → m < i → at ks m ≢ n)

-- ---- the heads of the two loops: over the places, and along one chain
pub record Linked (ks hs ps : List ℕ) (i : ℕ) : Type 0 where
  pub below : i ≤ 1024
  pub keys_length : length ks ≡ 1024
  pub heads_length : length hs ≡ 2048
  pub prev_length : length ps ≡ 1024
  pub heads : Heads ks hs i
  pub prevs : Prevs ks ps i
  pub unlike : Unlike ks i

pub record Following (ks hs ps : List ℕ) (n p i : ℕ) : Type 0 where
  pub here : i < 1024
  pub below : p ≤ i
  pub keys_length : length ks ≡ 1024
  pub heads_length : length hs ≡ 2048
  pub prev_length : length ps ≡ 1024
  pub unseen : Unseen ks n p i

-- ---- at the start
pub heads_none : (ks : List ℕ) → Heads ks (replicate 2048 0) 0
heads_none ks h k = rw (get_or-replicate {A = ℕ} 2048 h 0 0 (omega arith)) (omega arith, λ p. absurd (omega arith), λ m a b. absurd (omega arith))

-- ---- following a chain
pub prev_below : (ks ps : List ℕ) (n p q i : ℕ) → Prevs ks ps i → Unseen ks n p i → 0 < p → q ≡ p - 1 → at ps q ≤ q
prev_below ks ps n p q i prevs u hp e =
    let pos : 0 < at ks q = subst (λ x. 0 < at ks x) (sym e) (u.1 hp).0 in
    (prevs q (omega (arith, u.0)) pos).0

pub unseen_start : (ks hs : List ℕ) (n i : ℕ) → 0 < n → Heads ks hs i → Unseen ks n (at hs (n % 2039)) i
unseen_start ks hs n i pos heads =
    let l = heads (n % 2039) (omega arith) in
    (l.0, l.1, λ m a b e. absurd (omega (arith, e, l.2 m a b (ap (λ (x : ℕ). x % 2039) e))))

pub unseen_step : (ks ps : List ℕ) (n p q i : ℕ) → 0 < n → Prevs ks ps i → Unseen ks n p i → 0 < p → q ≡ p - 1 → at ks q ≢ n → Unseen ks n (at ps q) i
unseen_step ks ps n p q i pos prevs u hp e other = (omega (arith, l.0, u.0), λ k. ((l.1 k).0, (l.1 k).1 ∙ same), rest)
  where
    here : (0 < at ks q) × (at ks q % 2039 ≡ n % 2039)
    here = subst (λ x. (0 < at ks x) × (at ks x % 2039 ≡ n % 2039)) (sym e) (u.1 hp)

    same : at ks q % 2039 ≡ n % 2039
    same = here.1

    l : Link ks (at ks q % 2039) (at ps q) q
    l = prevs q (omega (arith, u.0)) here.0

    rest : (m : ℕ) → at ps q ≤ m → m < i → at ks m ≢ n
    rest m a b k = go (ℕ_discrete m q) (dec_le (suc m) q)
      where
        go : Dec (m ≡ q) → Dec (m < q) → ⊥
        go (yes z) d = other (ap (at ks) (sym z) ∙ k)
        go (no z) (yes d) = absurd (omega (arith, k, l.2 m a d (ap (λ (x : ℕ). x % 2039) k ∙ sym same)))
        go (no z) (no d) = u.2 m (omega arith) b k

-- ---- places without numbers, from i to n
abbrev pub Empty : List ℕ → ℕ → ℕ → Type 0
Empty ks i n = (i ≤ n) × ((m : ℕ) → i ≤ m → m < n → at ks m ≡ 0)

-- after a zero the rest of its sixteen places is zero
pub run_empty : (ks : List ℕ) (i : ℕ) → Runs ks → i < 1024 → at ks i ≡ 0 → Empty ks i (i / 16 * 16 + 16)
run_empty ks i runs h z = (omega arith, one)
  where
    one : (m : ℕ) → i ≤ m → m < i / 16 * 16 + 16 → at ks m ≡ 0
    one m a b = go (ℕ_discrete m i) (dec_le 1 (at ks m))
      where
        go : Dec (m ≡ i) → Dec (0 < at ks m) → at ks m ≡ 0
        go (yes e) d = ap (at ks) e ∙ z
        go (no e) (no d) = omega arith
        go (no e) (yes d) =
            let first : 16 * (i / 16) + i % 16 ≡ i = omega arith in
            let later : 16 * (i / 16) + m % 16 ≡ m = omega arith in
            let o : Ordered (at ks i) (at ks m) = rw (first, later) at (runs (i / 16) (i % 16) (m % 16) (omega arith) (omega arith) (omega arith)) in
            absurd (omega (arith, z, (ordered_pos (at ks i) (at ks m) o d).0))

link_zero : (ks : List ℕ) (h p i n : ℕ) → Empty ks i n → Link ks h p i → Link ks h p n
link_zero ks h p i n z l = (omega (arith, l.0, z.0), l.1, λ m a b e. go m a b e (dec_le i m))
  where
    go : (m : ℕ) → p ≤ m → m < n → at ks m % 2039 ≡ h → Dec (i ≤ m) → at ks m ≡ 0
    go m a b e (yes q) = z.1 m q b
    go m a b e (no q) = l.2 m a (omega arith) e

pub heads_zero : (ks hs : List ℕ) (i n : ℕ) → Empty ks i n → Heads ks hs i → Heads ks hs n
heads_zero ks hs i n z heads h k = link_zero ks h (at hs h) i n z (heads h k)

pub prevs_zero : (ks ps : List ℕ) (i n : ℕ) → Empty ks i n → Prevs ks ps i → Prevs ks ps n
prevs_zero ks ps i n z prevs j b pos = go (dec_le i j)
  where
    go : Dec (i ≤ j) → Link ks (at ks j % 2039) (at ps j) j
    go (yes q) = absurd (omega (arith, pos, z.1 j q b))
    go (no q) = prevs j (omega arith) pos

pub unlike_zero : (ks : List ℕ) (i n : ℕ) → Empty ks i n → Unlike ks i → Unlike ks n
unlike_zero ks i n z u j k a b e = go (dec_le i k)
  where
    go : Dec (i ≤ k) → at ks k ≡ 0
    go (yes q) = z.1 k q b
    go (no q) = u j k a (omega arith) e

-- ---- one place more
pub unlike_step : (ks : List ℕ) (i : ℕ) → Unseen ks (at ks i) 0 i → Unlike ks i → Unlike ks (i + 1)
unlike_step ks i new u j k a b e = go (ℕ_discrete k i)
  where
    go : Dec (k ≡ i) → at ks k ≡ 0
    go (yes q) = absurd (new.2 j (omega arith) (omega arith) (e ∙ ap (at ks) q))
    go (no q) = u j k a (omega arith) e

pub prevs_step : (ks hs ps : List ℕ) (i : ℕ) → i < length ps → Heads ks hs i → Prevs ks ps i → Prevs ks (set ps i (at hs (at ks i % 2039))) (i + 1)
prevs_step ks hs ps i len heads prevs j b pos = go (ℕ_discrete j i)
  where
    go : Dec (j ≡ i) → Link ks (at ks j % 2039) (at (set ps i (at hs (at ks i % 2039))) j) j
    go (yes q) = rw (q, get_or-set_same ps i (at hs (at ks i % 2039)) 0 len) (heads (at ks i % 2039) (omega arith))
    go (no q) = rw (get_or-set_other ps i j (at hs (at ks i % 2039)) 0 q) (prevs j (omega arith) pos)

pub heads_step : (ks hs : List ℕ) (i : ℕ) → 2039 ≤ length hs → 0 < at ks i → Heads ks hs i → Heads ks (set hs (at ks i % 2039) (i + 1)) (i + 1)
heads_step ks hs i len pos heads h k = go (ℕ_discrete h (at ks i % 2039))
  where
    r : ℕ
    r = at ks i % 2039

    small : r < length hs
    small = omega arith

    go : Dec (h ≡ r) → Link ks h (at (set hs r (i + 1)) h) (i + 1)
    go (yes q) =
        let e : i + 1 - 1 ≡ i = omega arith in
        rw (q, get_or-set_same hs r (i + 1) 0 small, e) (omega arith, λ _. (pos, refl), λ m a b. absurd (omega arith))
    go (no q) = rw (get_or-set_other hs r h (i + 1) 0 q) (link (heads h k))
      where
        link : Link ks h (at hs h) i → Link ks h (at hs h) (i + 1)
        link l = (omega (arith, l.0), l.1, λ m a b e. last m a b e (ℕ_discrete m i))
          where
            last : (m : ℕ) → at hs h ≤ m → m < i + 1 → at ks m % 2039 ≡ h → Dec (m ≡ i) → at ks m ≡ 0
            last m a b e (yes z) = absurd (q (sym e ∙ ap (λ (x : ℕ). at ks x % 2039) z))
            last m a b e (no z) = l.2 m a (omega arith) e

-- ---- what is told at the end
pub verdict_unlike : (ks : List ℕ) → Unlike ks (length ks) → differ ks ≡ true
verdict_unlike ks u = (r_differ ks).1 (pairs_each Apart 0 ks (λ i j a b. u i j a b))

pub verdict_equal : (ks : List ℕ) (j k : ℕ) → j < k → k < length ks → at ks j ≡ at ks k → 0 < at ks k → differ ks ≡ false
verdict_equal ks j k a b e pos = go (differ ks) refl
  where
    go : (t : Bool) → differ ks ≡ t → differ ks ≡ false
    go true h = absurd (omega (arith, pos, pairs_place Apart 0 ks ((r_differ ks).0 h) j k a b e))
    go false h = h
