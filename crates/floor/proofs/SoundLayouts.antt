-- Layouts: keeping and forgetting keep a floor sound.
use mathlib.Core.Path.{◌≡◌, refl, sym, ap, ◌∙◌}
use mathlib.Core.Logic.{◌⊎◌, inl, inr, ◌≢◌}
use mathlib.Core.Bool.{Bool, true, false, cond, not, ◌&&◌, ◌||◌, false≢true}
use mathlib.Core.List.{List, [], ◌∷◌, ◌++◌}
use mathlib.Core.List.Permᴰ
use Prim.Native.Nat.{ℕ, zero, suc, ◌+◌, ◌^◌, ◌≤◌, ◌<◌}
use native.Mathlib.Omega.{arith}
use native.Mathlib.Nat.{one-mul, pow-suc, mul_comm, two-mul, zero-div}
use lib.Dec.{leb, ltb, eqb}
use lib.Bits.{bit_or, or_shifted_r}
use lib.ListN.{length}
use borrow.Author.Tests.{eqb-true, eqb-false, ne_eqb, leb-true, leb-false, le-leb, lt-ltb, le-ltb, ltb-true, ltb-false, not-false}
use Rattle.laws.specs.Define.{all_of, any_of, filter, bit, bits_below}
use Rattle.laws.specs.Every.{All, Pairs}
use Rattle.laws.proofs.Tests.{by_test, same_test, and_yes, and_no, and_left, and_right, and_true, r_pairs, r_lt, or_no}
use Rattle.laws.proofs.Lists.{all_imp, all_filter, pairs_filter, all_true, true_all, cat_nil}
use Rattle.laws.proofs.Bits.{with_bit}
use Rattle.laws.proofs.SetBits.{bits_all, bits_each, bit_below}
use Rattle.floor.specs.declared.Settings.{Settings}
use Rattle.floor.specs.declared.Layout.{Layout}
use Rattle.floor.specs.Settings.{total, is_hopper, hoppers_of}
use Rattle.floor.specs.Layouts.{name_ok, layout_ok, layouts_sound, set_below, name_held, set_of, keep_in, forget_in}
use Rattle.floor.specs.Model.{Model, runs_of_of, numbers_on, with_layouts}
use Rattle.floor.specs.Calls.{keep_tests, running_set, kept_under, forgotten}
use Rattle.floor.proofs.Sound.{Measured, Sound}
use Rattle.floor.proofs.Calls.{Keeps, none, Accepted}

-- ---- the set of what passes
pow_next : (n : ℕ) → 2 ^ suc n ≡ 2 ^ n + 2 ^ n
pow_next n = pow-suc 2 n ∙ mul_comm (2 ^ n) 2 ∙ two-mul (2 ^ n)

pub below_lt : (p : ℕ → Bool) (n : ℕ) → set_below p n < 2 ^ n
unfolding set_below
below_lt p zero = omega arith
below_lt p (suc n) = go (p n) (below_lt p n)
  where
    go : (b : Bool) → set_below p n < 2 ^ n → cond b (2 ^ n) 0 + set_below p n < 2 ^ suc n
    go true h = omega (arith, pow_next n)
    go false h = omega (arith, pow_next n)

zero_bit : (k : ℕ) → bit 0 k ≡ false
unfolding bit
zero_bit k = rw zero-div

-- bit k of it
pub below_bit : (p : ℕ → Bool) (n k : ℕ) → bit (set_below p n) k ≡ (ltb k n && p k)
unfolding set_below
below_bit p zero k = zero_bit k ∙ sym (ap (λ (b : Bool). b && p k) (le-ltb k 0 (omega arith)))
below_bit p (suc n) k = go (by_test (p n)) (below_bit p n k)
  where
    S : ℕ
    S = set_below p n

    more : eqb k n ≡ false → ltb k (suc n) ≡ ltb k n
    more e = same_test (ltb k (suc n)) (ltb k n) (λ h. lt-ltb k n (omega (arith, ltb-true k (suc n) h, eqb-false k n e))) (λ h. lt-ltb k (suc n) (omega (arith, ltb-true k n h)))

    at : (b : Bool) → p n ≡ b → (eqb k n ≡ true) ⊎ (eqb k n ≡ false) → ((eqb k n && b) || (ltb k n && p k)) ≡ (ltb k (suc n) && p k)
    at b q (inr e) = rw (e, more e)
    at b q (inl e) =
        let k≡n : k ≡ n = eqb-true k n e in
        let pk : p k ≡ b = ap p k≡n ∙ q in
        rw (e, le-ltb k n (omega arith), lt-ltb k (suc n) (omega arith), pk) (or_no b)

    go : (p n ≡ true) ⊎ (p n ≡ false) → bit S k ≡ (ltb k n && p k) → bit (cond (p n) (2 ^ n) 0 + S) k ≡ (ltb k (suc n) && p k)
    go (inl q) ih =
        let e : 2 ^ n + S ≡ bit_or S (2 ^ n) = ap (λ (x : ℕ). x + S) (sym (one-mul (2 ^ n))) ∙ sym (or_shifted_r 1 n S (below_lt p n)) ∙ ap (bit_or S) (one-mul (2 ^ n)) in
        rw q (ap (λ (x : ℕ). bit x k) e ∙ with_bit S n k ∙ ap (λ (b : Bool). eqb k n || b) ih ∙ ap (λ (b : Bool). b || (ltb k n && p k)) (sym (and_yes (eqb k n))) ∙ at true q (by_test (eqb k n)))
    go (inr q) ih =
        let e : 0 + S ≡ S = omega arith in
        rw q (ap (λ (x : ℕ). bit x k) e ∙ ih ∙ ap (λ (b : Bool). b || (ltb k n && p k)) (sym (and_no (eqb k n))) ∙ at false q (by_test (eqb k n)))

-- ---- sound layouts
abbrev pub Rises : List Layout → Type 0
Rises = Pairs (λ x y. x.name < y.name)

pub record SoundLayouts (s : Settings) (l : List Layout) : Type 0 where
  pub eight : length l ≤ 8
  pub each : All (λ x. layout_ok s x ≡ true) l
  pub rise : Rises l

pub sound_layouts_of : (s : Settings) (l : List Layout) → layouts_sound s l ≡ true → SoundLayouts s l
unfolding layouts_sound
sound_layouts_of s l h =
    let k = and_right (leb (length l) 8) _ h in
    record {
      eight = leb-true (length l) 8 (and_left (leb (length l) 8) _ h);
      each = all_true (layout_ok s) l (and_left (all_of (layout_ok s) l) _ k);
      rise = (r_pairs (λ x y. ltb x.name y.name) (λ x y. x.name < y.name) (λ x y. r_lt x.name y.name) l).0 (and_right (all_of (layout_ok s) l) _ k);
    }

pub sound_layouts_is : (s : Settings) (l : List Layout) → SoundLayouts s l → layouts_sound s l ≡ true
unfolding layouts_sound
sound_layouts_is s l L = and_true (le-leb (length l) 8 L.eight) (and_true (true_all (layout_ok s) l L.each) ((r_pairs (λ x y. ltb x.name y.name) (λ x y. x.name < y.name) (λ x y. r_lt x.name y.name) l).1 L.rise))

-- forgetting
filter_length : {A : Type 0} (p : A → Bool) (l : List A) → length (filter p l) ≤ length l
unfolding filter
filter_length p [] = omega arith
filter_length p (x ∷ l) = go (p x) (filter_length p l)
  where
    go : (b : Bool) → length (filter p l) ≤ length l → length (cond b (x ∷ filter p l) (filter p l)) ≤ length (x ∷ l)
    go true h = omega arith
    go false h = omega arith

pub forget_sound : (s : Settings) (name : ℕ) (l : List Layout) → SoundLayouts s l → SoundLayouts s (forget_in name l)
unfolding forget_in
forget_sound s name l L =
    let p : Layout → Bool = λ x. not (eqb x.name name) in
    record {
      eight = omega (arith, filter_length p l, L.eight);
      each = all_imp (λ x. (layout_ok s x ≡ true) × (p x ≡ true)) (λ x. layout_ok s x ≡ true) (filter p l) (λ x h. h.0) (all_filter (λ x. layout_ok s x ≡ true) p l L.each);
      rise = pairs_filter (λ x y. x.name < y.name) p l L.rise;
    }

-- keeping: what holds of the new one and of the old ones holds of all
kept_all : (P : Layout → Type 0) (x : Layout) (l : List Layout) → P x → All P l → All P (keep_in x l)
unfolding keep_in
kept_all P x [] h k = (h, tt)
kept_all P x (y ∷ l) h k = go (eqb x.name y.name) (ltb x.name y.name) (kept_all P x l h k.1)
  where
    go : (a b : Bool) → All P (keep_in x l) → All P (cond a (x ∷ l) (cond b (x ∷ y ∷ l) (y ∷ keep_in x l)))
    go true b ih = (h, k.1)
    go false true ih = (h, k)
    go false false ih = (k.0, ih)

keep_rises : (x : Layout) (l : List Layout) → Rises l → Rises (keep_in x l)
unfolding keep_in
keep_rises x [] h = (tt, tt)
keep_rises x (y ∷ l) h = go (by_test (eqb x.name y.name)) (by_test (ltb x.name y.name)) (keep_rises x l h.1)
  where
    above : (z : ℕ) → z ≤ y.name → All (λ w. z < w.name) l
    above z q = all_imp (λ w. y.name < w.name) (λ w. z < w.name) l (λ w r. omega arith) h.0

    go : (eqb x.name y.name ≡ true) ⊎ (eqb x.name y.name ≡ false) → (ltb x.name y.name ≡ true) ⊎ (ltb x.name y.name ≡ false) → Rises (keep_in x l)
        → Rises (cond (eqb x.name y.name) (x ∷ l) (cond (ltb x.name y.name) (x ∷ y ∷ l) (y ∷ keep_in x l)))
    go (inl e) b ih = rw e (above x.name (omega (arith, eqb-true x.name y.name e)), h.1)
    go (inr e) (inl k) ih = rw (e, k) ((ltb-true x.name y.name k, above x.name (omega (arith, ltb-true x.name y.name k))), h)
    go (inr e) (inr k) ih = rw (e, k) (kept_all (λ w. y.name < w.name) x l (omega (arith, ltb-false x.name y.name k, eqb-false x.name y.name e)) h.0, ih)

-- at most one more, none where the name is held
name_not_held : (l : List Layout) (name : ℕ) → All (λ w. name < w.name) l → name_held l name ≡ false
unfolding name_held any_of
name_not_held [] name h = refl
name_not_held (y ∷ l) name h = rw (ne_eqb y.name name (λ e. omega (arith, h.0))) (name_not_held l name h.1)

name_held_tail : (y : Layout) (l : List Layout) (name : ℕ) → y.name ≢ name → name_held (y ∷ l) name ≡ name_held l name
unfolding name_held any_of
name_held_tail y l name n = rw (ne_eqb y.name name n)

keep_length_le : (x : Layout) (l : List Layout) → Rises l → length (keep_in x l) ≤ length l + cond (name_held l x.name) 0 1
unfolding keep_in
keep_length_le x [] h = one
  where
    one : 1 ≤ 0 + cond (name_held [] x.name) 0 1
    one = rw (name_not_held [] x.name tt) (omega arith)
keep_length_le x (y ∷ l) h = go (by_test (eqb x.name y.name)) (by_test (ltb x.name y.name)) (keep_length_le x l h.1)
  where
    tail : eqb x.name y.name ≡ false → name_held (y ∷ l) x.name ≡ name_held l x.name
    tail e = name_held_tail y l x.name (λ q. eqb-false x.name y.name e (sym q))

    go : (eqb x.name y.name ≡ true) ⊎ (eqb x.name y.name ≡ false) → (ltb x.name y.name ≡ true) ⊎ (ltb x.name y.name ≡ false) → length (keep_in x l) ≤ length l + cond (name_held l x.name) 0 1
        → length (cond (eqb x.name y.name) (x ∷ l) (cond (ltb x.name y.name) (x ∷ y ∷ l) (y ∷ keep_in x l))) ≤ suc (length l) + cond (name_held (y ∷ l) x.name) 0 1
    go (inl e) b ih = rw e (omega arith)
    go (inr e) (inl k) ih =
        let low = ltb-true x.name y.name k in
        rw (e, k, tail e, name_not_held l x.name (all_imp (λ w. y.name < w.name) (λ w. x.name < w.name) l (λ w r. omega arith) h.0)) (omega arith)
    go (inr e) (inr k) ih = rw (e, k, tail e) (omega arith)

pub keep_sound : (s : Settings) (x : Layout) (l : List Layout) → SoundLayouts s l → layout_ok s x ≡ true → (leb 8 (length l) && not (name_held l x.name)) ≡ false → SoundLayouts s (keep_in x l)
keep_sound s x l L ok h = record {
  eight = go (by_test (name_held l x.name)) (keep_length_le x l L.rise);
  each = kept_all (λ y. layout_ok s y ≡ true) x l ok L.each;
  rise = keep_rises x l L.rise;
}
  where
    go : (name_held l x.name ≡ true) ⊎ (name_held l x.name ≡ false) → length (keep_in x l) ≤ length l + cond (name_held l x.name) 0 1 → length (keep_in x l) ≤ 8
    go (inl e) n = let q = rw e at n in omega (arith, L.eight)
    go (inr e) n =
        let q = rw e at n in
        let f : (leb 8 (length l) && true) ≡ false = rw e at h in
        omega (arith, leb-false 8 (length l) (sym (and_yes (leb 8 (length l))) ∙ f))

-- every hopper is in the set
abbrev pub Covers : Settings → ℕ → Type 0
Covers s set = (t : ℕ) → is_hopper s t ≡ true → bit set t ≡ true

covers : (s : Settings) → Measured s → (x : Layout) → layout_ok s x ≡ true → Covers s x.set
unfolding layout_ok is_hopper hoppers_of
covers s M x h t e =
    let k = and_right (ltb x.set (2 ^ total s)) _ (and_right (name_ok x.name) _ h) in
    bits_each (λ u. bit x.set u ≡ true) s.hoppers (total s) (all_true (bit x.set) (bits_below s.hoppers (total s)) k) t (bit_below s.hoppers (total s) t M.hoppers_on e) e

-- a held set is that of a sound layout
pub name_held_covers : (s : Settings) → Measured s → (l : List Layout) (name : ℕ) → All (λ x. layout_ok s x ≡ true) l → name_held l name ≡ true → Covers s (set_of l name)
unfolding set_of name_held any_of
name_held_covers s M [] name h e = absurd (false≢true e)
name_held_covers s M (x ∷ l) name h e = go (by_test (eqb x.name name)) (name_held_covers s M l name h.1)
  where
    go : (eqb x.name name ≡ true) ⊎ (eqb x.name name ≡ false) → (any_of (λ y. eqb y.name name) l ≡ true → Covers s (set_of l name)) → Covers s (cond (eqb x.name name) x.set (set_of l name))
    go (inl q) ih = rw q (covers s M x h.0)
    go (inr q) ih = rw q (ih (rw q at e))

-- ---- the floor with other layouts
pub layouts_keep : (m : Model) → Sound m → (l : List Layout) → SoundLayouts m.settings l → Keeps m (with_layouts m l) [] none
unfolding numbers_on
layouts_keep m S l L = record {
  well = record {
    measured = S.measured;
    len = S.len;
    flag = S.flag;
    hopper_runs = S.hopper_runs;
    hopper_distance = S.hopper_distance;
    hopper_next = S.hopper_next;
    hopper_empty = S.hopper_empty;
    off_hopper = S.off_hopper;
    capped = S.capped;
    next_iff = S.next_iff;
    stop_distance = S.stop_distance;
    stop_next = S.stop_next;
    stop_token = S.stop_token;
    next_faces = S.next_faces;
    token_faces = S.token_faces;
    inside = S.inside;
    spaced = S.spaced;
    rising = S.rising;
    positive = S.positive;
    below = S.below;
    unique = S.unique;
    four = S.four;
    spare = S.spare;
    counted = S.counted;
    booked_last = S.booked_last;
    last_fits = S.last_fits;
    layouts_sound_lem = sound_layouts_is m.settings l L;
  };
  same_settings = refl;
  nums = rw (cat_nil {A = ℕ} 4) (Permᴰ.refl (numbers_on m ++ []));
  rises = omega arith;
  above = tt;
  upto = tt;
  distinct = tt;
  books = omega arith;
  delivers = λ k. omega arith;
}

-- the hoppers run, and the set has no bit for no tile
kept_ok : (m : Model) → Sound m → (name : ℕ) → name_ok name ≡ true → layout_ok m.settings (record { name = name; set = running_set m }) ≡ true
unfolding layout_ok running_set is_hopper hoppers_of
kept_ok m S name ok =
    let s = m.settings in
    and_true ok (and_true (lt-ltb (set_below (runs_of_of m) (total s)) (2 ^ total s) (below_lt (runs_of_of m) (total s)))
    (true_all (bit (set_below (runs_of_of m) (total s))) (bits_below s.hoppers (total s))
    (all_imp (λ t. (t < total s) × (bit s.hoppers t ≡ true)) (λ t. bit (set_below (runs_of_of m) (total s)) t ≡ true) (bits_below s.hoppers (total s))
    (λ t h. below_bit (runs_of_of m) (total s) t ∙ and_true (lt-ltb t (total s) h.0) (S.hopper_runs t h.1)) (bits_all s.hoppers (total s)))))

pub keep_keeps : (m : Model) → Sound m → (name : ℕ) → Accepted (keep_tests m.layouts name) → Keeps m (kept_under m name) [] none
unfolding keep_tests kept_under
keep_keeps m S name T =
    let s = m.settings in
    let x : Layout = record { name = name; set = running_set m } in
    layouts_keep m S (keep_in x m.layouts) (keep_sound s x m.layouts (sound_layouts_of s m.layouts S.layouts_sound_lem) (kept_ok m S name (not-false (name_ok name) T.0)) T.1.0)

pub forget_keeps : (m : Model) → Sound m → (name : ℕ) → Keeps m (forgotten m name) [] none
unfolding forgotten
forget_keeps m S name = layouts_keep m S (forget_in name m.layouts) (forget_sound m.settings name m.layouts (sound_layouts_of m.settings m.layouts S.layouts_sound_lem))
