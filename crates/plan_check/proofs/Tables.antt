-- The passes over a plan's entries: what a table of labels shows after k of them, and the numbers held by them.
use mathlib.Core.Path.{◌≡◌, refl, sym, ap, ◌∙◌}
use mathlib.Core.Bool.{Bool, true, false, not, ◌&&◌, ◌||◌}
use mathlib.Core.List.{List, [], ◌∷◌, ◌++◌, append_assoc, append-nil}
use Prim.Native.Nat.{ℕ, ◌+◌, ◌<◌}
use native.Mathlib.Omega.{arith}
use native.Mathlib.Numerals.{add-one}
use native.Mathlib.Decide.{ℕ_discrete}
use lib.Dec.{eqb}
use lib.ListN.{length, get_or, set, take, replicate, get_or-replicate}
use lib.Seq.{take-suc, take-suc-set, get_or-set_same, get_or-set_other}
use borrow.Author.Tests.{eq-eqb, ne_eqb}
use Rattle.laws.specs.Define.{all_of, any_of, pairs_of}
use Rattle.laws.specs.InternalFilled.{Upto}
use Rattle.laws.proofs.Tests.{and_yes, or_assoc, or_no}
use Rattle.laws.proofs.Tables.{all_more, pairs_zero, pairs_more}
use Rattle.plan.specs.declared.Entry.{Entry}
use Rattle.plan.specs.Entries.{was_delivered, booked_number, done, present, booked_numbers}

-- what would be read beyond the entries
abbrev pub zero_entry : Entry
zero_entry = record { tile = 0; number = 0; label = 0; first = 0; second = 0; stage = 0 }

-- the entry at place k
abbrev pub entry_at : List Entry → ℕ → Entry
entry_at l k = get_or l k zero_entry

-- ---- a table with one place changed
changed_place : {A : Type 0} (f g : ℕ → A) (z v : A) (n at : ℕ) (l : List A) → at < length l → Upto n f z l → v ≡ g at → ((i : ℕ) → (i ≡ at → ⊥) → f i ≡ g i) → Upto n g z (set l at v)
changed_place f g z v n at l h p e o i k = go (ℕ_discrete i at)
  where
    go : Dec (i ≡ at) → get_or (set l at v) i z ≡ g i
    go (yes q) = rw (q, get_or-set_same l at v z h) e
    go (no q) = rw (get_or-set_other l at i v z q) (p i k ∙ o i q)

-- ---- labels without an undelivered entry
done_more : (l : List Entry) (k x : ℕ) → k < length l → done (take (k + 1) l) x ≡ (done (take k l) x && (not (eqb (entry_at l k).label x) || was_delivered (entry_at l k)))
unfolding done
done_more l k x h = all_more (λ e. not (eqb e.label x) || was_delivered e) l k zero_entry h

pub done_none : (l : List Entry) (n : ℕ) → Upto n (done (take 0 l)) false (replicate n true)
unfolding done all_of
done_none l n i k = get_or-replicate n i true false k

pub done_turn : (l : List Entry) (k : ℕ) (table : List Bool) {before own : Bool} → k < length l → length table ≡ 256 → (entry_at l k).label < 256
    → before ≡ get_or table (entry_at l k).label false → own ≡ was_delivered (entry_at l k)
    → Upto 256 (done (take k l)) false table → Upto 256 (done (take (k + 1) l)) false (set table (entry_at l k).label (before && own))
done_turn l k table {before} {own} h len small b q t =
    changed_place (done (take k l)) (done (take (k + 1) l)) false (before && own) 256 (entry_at l k).label table (omega arith) t here other
  where
    here : (before && own) ≡ done (take (k + 1) l) (entry_at l k).label
    here = rw (done_more l k (entry_at l k).label h, eq-eqb (entry_at l k).label (entry_at l k).label refl, b ∙ t (entry_at l k).label small, q)

    other : (i : ℕ) → (i ≡ (entry_at l k).label → ⊥) → done (take k l) i ≡ done (take (k + 1) l) i
    other i n = rw (done_more l k i h, ne_eqb (entry_at l k).label i (λ e. n (sym e))) (sym (and_yes (done (take k l) i)))

-- ---- labels that an entry has
any_append : {A : Type 0} (p : A → Bool) (l k : List A) → any_of p (l ++ k) ≡ (any_of p l || any_of p k)
unfolding any_of
any_append p [] k = refl
any_append p (x ∷ l) k = rw (any_append p l k) (sym (or_assoc (p x) (any_of p l) (any_of p k)))

pub any_more : {A : Type 0} (p : A → Bool) (l : List A) (k : ℕ) (z : A) → k < length l → any_of p (take (k + 1) l) ≡ (any_of p (take k l) || p (get_or l k z))
unfolding any_of
any_more p l k z h = rw (add-one, take-suc l k z h, any_append p (take k l) (get_or l k z ∷ []), or_no (p (get_or l k z)))

present_more : (l : List Entry) (k x : ℕ) → k < length l → present (take (k + 1) l) x ≡ (present (take k l) x || eqb (entry_at l k).label x)
unfolding present
present_more l k x h = any_more (λ e. eqb e.label x) l k zero_entry h

pub present_none : (l : List Entry) (n : ℕ) → Upto n (present (take 0 l)) false (replicate n false)
unfolding present any_of
present_none l n i k = get_or-replicate n i false false k

pub present_turn : (l : List Entry) (k : ℕ) (table : List Bool) → k < length l → length table ≡ 256 → (entry_at l k).label < 256
    → Upto 256 (present (take k l)) false table → Upto 256 (present (take (k + 1) l)) false (set table (entry_at l k).label true)
present_turn l k table h len small t =
    changed_place (present (take k l)) (present (take (k + 1) l)) false true 256 (entry_at l k).label table (omega arith) t here other
  where
    or_yes : (a : Bool) → true ≡ (a || true)
    or_yes true = refl
    or_yes false = refl

    here : true ≡ present (take (k + 1) l) (entry_at l k).label
    here = rw (present_more l k (entry_at l k).label h, eq-eqb (entry_at l k).label (entry_at l k).label refl) (or_yes (present (take k l) (entry_at l k).label))

    other : (i : ℕ) → (i ≡ (entry_at l k).label → ⊥) → present (take k l) i ≡ present (take (k + 1) l) i
    other i n = rw (present_more l k i h, ne_eqb (entry_at l k).label i (λ e. n (sym e))) (sym (or_no (present (take k l) i)))

-- no two entries have one label: the next one's is not there yet
abbrev pub unlike : Entry → Entry → Bool
unlike x y = not (eqb x.label y.label)

pub unlike_none : (l : List Entry) → true ≡ pairs_of unlike (take 0 l)
unlike_none l = sym (pairs_zero unlike l)

pub unlike_turn : (l : List Entry) (k : ℕ) (table : List Bool) {ok again : Bool} → k < length l → (entry_at l k).label < 256 → Upto 256 (present (take k l)) false table
    → again ≡ get_or table (entry_at l k).label false → ok ≡ pairs_of unlike (take k l) → (ok && not again) ≡ pairs_of unlike (take (k + 1) l)
unfolding present any_of all_of
unlike_turn l k table h small t a e = rw (pairs_more unlike l k zero_entry h, e, a ∙ t (entry_at l k).label small) (ap (λ (b : Bool). pairs_of unlike (take k l) && b) (none (take k l)))
  where
    none : (es : List Entry) → not (present es (entry_at l k).label) ≡ all_of (λ x. unlike x (entry_at l k)) es
    none [] = refl
    none (x ∷ es) = go (eqb x.label (entry_at l k).label) (none es)
      where
        go : (b : Bool) → not (present es (entry_at l k).label) ≡ all_of (λ x. unlike x (entry_at l k)) es → not (b || present es (entry_at l k).label) ≡ (not b && all_of (λ x. unlike x (entry_at l k)) es)
        go true ih = refl
        go false ih = ih

-- ---- the numbers held
booked_number_append : (l k : List Entry) → booked_numbers (l ++ k) ≡ booked_numbers l ++ booked_numbers k
unfolding booked_numbers
booked_number_append [] k = refl
booked_number_append (x ∷ l) k = rw (booked_number_append l k) (sym (append_assoc (booked_number x) (booked_numbers l) (booked_numbers k)))

booked_number_more : (l : List Entry) (k : ℕ) → k < length l → booked_numbers (take (k + 1) l) ≡ booked_numbers (take k l) ++ booked_number (entry_at l k)
unfolding booked_numbers
booked_number_more l k h = rw (add-one, take-suc l k zero_entry h, booked_number_append (take k l) (entry_at l k ∷ []), append-nil (booked_number (entry_at l k)))

pub booked_number_none : (l : List Entry) (items : List ℕ) → take 0 items ≡ booked_numbers (take 0 l)
unfolding booked_numbers
booked_number_none l items = refl

-- the next entry holds n, or no number
pub numbers_in : (l : List Entry) (k m n : ℕ) (items : List ℕ) → k < length l → m < length items → booked_number (entry_at l k) ≡ n ∷ [] → take m items ≡ booked_numbers (take k l) → take (m + 1) (set items m n) ≡ booked_numbers (take (k + 1) l)
numbers_in l k m n items h s q t = rw (booked_number_more l k h, q, add-one m, take-suc-set items m n s, t)

pub numbers_out : (l : List Entry) (k m : ℕ) (items : List ℕ) → k < length l → booked_number (entry_at l k) ≡ [] → take m items ≡ booked_numbers (take k l) → take m items ≡ booked_numbers (take (k + 1) l)
numbers_out l k m items h q t = rw (booked_number_more l k h, q, t) (sym (append-nil (booked_numbers (take k l))))
