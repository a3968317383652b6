-- Where the canisters of a tile are after a round: each is v farther along the tile's way, or each is where it was; never both.
use mathlib.Core.Path.{◌≡◌, refl, sym, ap, ◌∙◌, subst}
use mathlib.Core.Logic.{◌≢◌}
use mathlib.Core.Bool.{Bool, true, false, not}
use mathlib.Core.List.Memᴰ
use mathlib.Core.List.Permᴰ
use mathlib.Core.List.{List, [], ◌∷◌, ◌++◌, Memᴰ}
use Prim.Native.Nat.{ℕ, suc, ◌<◌}
use native.Mathlib.Omega.{arith}
use native.Mathlib.Decide.{dec_le}
use lib.ListN.{length, get_or, get_or-eq_default}
use Rattle.laws.specs.Define.{cat}
use Rattle.laws.specs.Every.{All, Pairs}
use Rattle.laws.proofs.Lists.{all_mem, all_of_lem, mem_map, mem_filter, mem_perm, mem_cat, pairs_perm, pairs_between, cat_between}
use Rattle.laws.proofs.SetBits.{bits_place}
use Rattle.floor.specs.declared.Canister.{Canister}
use Rattle.floor.specs.declared.Settings.{Settings}
use Rattle.floor.specs.Sides.{sides}
use Rattle.floor.specs.Settings.{total, is_hopper, hoppers_of}
use Rattle.floor.specs.Grid.{neighbour}
use Rattle.floor.specs.Model.{Model, members_of, numbers, numbers_on}
use Rattle.floor.specs.Move.{crosses, shift, land, staying, leaving}
use Rattle.floor.specs.Calls.{after_round, delivered}
use Rattle.floor.specs.Standing.{hoppers_before, Shifts, stayed, landed, delivered as out_of_lem}
use Rattle.floor.proofs.Sound.{Inside, Sound}
use Rattle.floor.proofs.Grid.{side_pos, opposite_side, neighbour_other}
use Rattle.floor.proofs.Geometry.{room, shift_number, land_number, shift_room, stay_room}
use Rattle.floor.proofs.Borders.{Rising, staying_none}
use Rattle.floor.proofs.Fields.{way_at_lem, stays, leaves, comes, delivered_to_lem, round_settings, round_own, delivered_are, delivered_length}
use Rattle.floor.proofs.Passing.{Moving, taking, moves_from}
use Rattle.floor.proofs.Insertion.{insert_each_perm}
use Rattle.floor.proofs.Conservation.{round_numbers}
use Rattle.floor.proofs.Kept.{full_on, round_sound}

pub has : {A : Type 0} {c : A} {l : List A} → Memᴰ c l → 0 < length l
has (Memᴰ.head e) = omega arith
has (Memᴰ.tail h) = omega arith

-- two of one tile with one number are one
rising_same : (l : List Canister) → Rising l → (x y : Canister) → Memᴰ x l → Memᴰ y l → x.number ≡ y.number → x ≡ y
rising_same [] h x y x6 _ e = elim x6 [ ]
rising_same (c ∷ l) h x y (Memᴰ.head p) (Memᴰ.head q) e = p ∙ sym q
rising_same (c ∷ l) h x y (Memᴰ.head p) (Memᴰ.tail q) e = absurd (omega (arith, e, ap (λ (z : Canister). z.number) p, all_mem (λ z. c.number < z.number) q h.0))
rising_same (c ∷ l) h x y (Memᴰ.tail p) (Memᴰ.head q) e = absurd (omega (arith, e, ap (λ (z : Canister). z.number) q, all_mem (λ z. c.number < z.number) p h.0))
rising_same (c ∷ l) h x y (Memᴰ.tail p) (Memᴰ.tail q) e = rising_same l h.1 x y p q e

module _ (m : Model) (S : Sound m) where
  -- a tile with canisters is no hopper
  not_hopper : (t : ℕ) → 0 < length (members_of m t) → is_hopper m.settings t ≡ false
  not_hopper t h = go (is_hopper m.settings t) refl
    where
      go : (b : Bool) → is_hopper m.settings t ≡ b → is_hopper m.settings t ≡ false
      go true e = absurd (omega (arith, ap length (S.hopper_empty t e)))
      go false e = e

  -- what stays on a tile, and what comes to it, is there afterwards
  own_there : (t : ℕ) → t < total m.settings → is_hopper m.settings t ≡ false → (c : Canister) → Memᴰ c (stays m t) → Memᴰ c (members_of (after_round m) t)
  own_there t on n c h = subst (Memᴰ c) (sym (round_own m S.len t on n)) (mem_perm (Permᴰ.symm (insert_each_perm (comes m t) (stays m t))) c (Memᴰ.append_right (comes m t) h))

  come_there : (t : ℕ) → t < total m.settings → is_hopper m.settings t ≡ false → (c : Canister) → Memᴰ c (comes m t) → Memᴰ c (members_of (after_round m) t)
  come_there t on n c h = subst (Memᴰ c) (sym (round_own m S.len t on n)) (mem_perm (Permᴰ.symm (insert_each_perm (comes m t) (stays m t))) c (Memᴰ.append_left (stays m t) h))

  -- what comes to a hopper is listed there
  delivered_there : (u : ℕ) → u < total m.settings → is_hopper m.settings u ≡ true → delivered_to_lem m (hoppers_before m.settings u) ≡ numbers (comes m u)
  unfolding is_hopper hoppers_of
  delivered_there u on h =
      ap (λ (l : List (List ℕ)). get_or l (hoppers_before m.settings u) []) (delivered_are m S.len)
      ∙ bits_place (λ t. numbers (comes m t)) [] m.settings.hoppers (total m.settings) u on h

  -- ---- a tile that moves
  module _ (t : ℕ) (M : Moving m S t) where
    abbrev s : Settings
    s = m.settings

    abbrev way : ℕ
    way = way_at_lem m t

    abbrev u : ℕ
    u = neighbour s way t

    arrive : comes m u ≡ leaves m t
    arrive = (taking m S u (omega (arith, M.meets, side_pos (opposite_side M.side)))).takes ∙ ap (leaves m) (moves_from m S t M)

    pub shifts : (c : Canister) → Memᴰ c (members_of m t) → Shifts s (after_round m) (delivered_to_lem m) way t c
    unfolding stays leaves staying leaving
    shifts c h = go (crosses s way c) refl
      where
        here : is_hopper s t ≡ false
        here = not_hopper t (has h)

        over : crosses s way c ≡ true → Memᴰ (land s way c) (comes m u)
        over e = subst (Memᴰ (land s way c)) (sym arrive) (mem_map (land s way) (mem_filter (crosses s way) (members_of m t) e h))

        beyond : crosses s way c ≡ true → (b : Bool) → is_hopper s u ≡ b → Shifts s (after_round m) (delivered_to_lem m) way t c
        beyond e false q = landed e q (come_there u M.to q (land s way c) (over e))
        beyond e true q = out_of_lem e q (subst (Memᴰ c.number) (sym (delivered_there u M.to q)) (subst (λ (n : ℕ). Memᴰ n (numbers (comes m u))) (land_number s way c) (mem_map (λ (x : Canister). x.number) (over e))))

        go : (b : Bool) → crosses s way c ≡ b → Shifts s (after_round m) (delivered_to_lem m) way t c
        go false e = stayed e (own_there t M.on here (shift s way c) (mem_map (shift s way) (mem_filter (λ x. not (crosses s way x)) (members_of m t) (rw e) h)))
        go true e = beyond e (is_hopper s u) refl

  -- ---- a tile that stands still
  pub still_stood : (t : ℕ) → way_at_lem m t ≡ 0 → All (λ c. Memᴰ c (members_of (after_round m) t)) (members_of m t)
  unfolding stays
  still_stood t e = all_of_lem (λ c. Memᴰ c (members_of (after_round m) t)) (members_of m t)
      (λ c h. own_there t (full_on m S t (has h)) (not_hopper t (has h)) c (subst (Memᴰ c) (sym same) h))
    where
      same : stays m t ≡ members_of m t
      same = ap (λ (k : ℕ). staying m.settings k (members_of m t)) e ∙ staying_none m.settings (members_of m t)

  -- ---- no canister is both
  -- those on the floor and those delivered are all different
  apart : Pairs (λ x y. x ≢ y) (numbers_on (after_round m) ++ cat 4 (delivered_to_lem m))
  apart = pairs_perm (λ x y. x ≢ y) (λ x y n e. n (sym e)) (Permᴰ.symm (round_numbers m S)) S.unique

  number_there : (t : ℕ) (c : Canister) → Memᴰ c (members_of (after_round m) t) → Memᴰ c.number (numbers_on (after_round m))
  unfolding numbers_on
  number_there t c h = mem_cat (total (after_round m).settings) (λ i. numbers (members_of (after_round m) i)) t (full_on (after_round m) (round_sound m S) t (has h)) (mem_map (λ (x : Canister). x.number) h)

  on_now : (t : ℕ) → 0 < length (members_of (after_round m) t) → t < total m.settings
  on_now t h = omega (arith, full_on (after_round m) (round_sound m S) t h, ap (λ (x : Settings). total x) (round_settings m))

  two_tiles : (t u : ℕ) (c e : Canister) → t ≢ u → Memᴰ c (members_of (after_round m) t) → Memᴰ e (members_of (after_round m) u) → c.number ≢ e.number
  unfolding numbers_on
  two_tiles t u c e n h p =
      let N = total (after_round m).settings in
      let f : ℕ → List ℕ = λ i. numbers (members_of (after_round m) i) in
      cat_between (λ x y. x ≢ y) (λ x y q z. q (sym z)) N f t u (full_on (after_round m) (round_sound m S) t (has h)) (full_on (after_round m) (round_sound m S) u (has p)) n (round_sound m S).unique (mem_map (λ (x : Canister). x.number) h) (mem_map (λ (x : Canister). x.number) p)

  hopper_few : (k : ℕ) {n : ℕ} → Memᴰ n (delivered_to_lem m k) → k < 4
  hopper_few k {n} h = go (dec_le (suc k) 4)
    where
      go : Dec (k < 4) → k < 4
      go (yes l) = l
      go (no l) =
          let e : delivered_to_lem m k ≡ [] = get_or-eq_default (delivered m) [] (omega (arith, delivered_length m S.len, S.measured.hoppers_few)) in
          absurd (omega (arith, has h, ap length e))

  pub not_both : (k t : ℕ) (c : Canister) → Memᴰ k sides → Memᴰ c (members_of m t) → Memᴰ c (members_of (after_round m) t) → ¬ (Shifts m.settings (after_round m) (delivered_to_lem m) k t c)
  not_both k t c mk old h (stayed e p) =
      let q : shift m.settings k c ≡ c = rising_same (members_of (after_round m) t) ((round_sound m S).rising t) (shift m.settings k c) c p h (shift_number m.settings k c) in
      let inside = all_mem (λ x. Inside m.settings x) old (S.inside t) in
      absurd (omega (arith, ap (room m.settings k) q, shift_room m.settings S.measured mk c, stay_room m.settings S.measured mk c inside e, S.measured.moving))
  not_both k t c mk old h (landed e n p) = two_tiles t (neighbour m.settings k t) c (land m.settings k c) (λ q. neighbour_other m.settings S.measured.rows_pos mk t (on_now (neighbour m.settings k t) (has p)) (sym q)) h p (sym (land_number m.settings k c))
  not_both k t c mk old h (out_of_lem e n p) =
      pairs_between (λ x y. x ≢ y) (numbers_on (after_round m)) (cat 4 (delivered_to_lem m)) apart (number_there t c h) (mem_cat 4 (delivered_to_lem m) (hoppers_before m.settings (neighbour m.settings k t)) (hopper_few _ p) p) refl
