-- Conservation: what stands on the tiles after a move, with those delivered, is what stood there before.
use mathlib.Core.Path.{◌≡◌, refl, sym, ap, ◌∙◌, subst}
use mathlib.Core.Logic.{◌⊎◌, inl, inr, ◌≢◌}
use mathlib.Core.Bool.{Bool, true, false, cond}
use mathlib.Core.List.{List, [], ◌++◌, map, append-nil}
use mathlib.Core.List.{Permᴰ}
use Prim.Native.Nat.{ℕ, ◌≤◌, ◌<◌}
use native.Mathlib.Omega.{arith}
use native.Mathlib.Decide.{ℕ_discrete, dec_le}
use lib.Dec.{eqb}
use lib.ListN.{length}
use borrow.Author.Tests.{eq-eqb, ne_eqb}
use Rattle.laws.specs.Define.{cat, join}
use Rattle.laws.specs.Every.{Pairs}
use Rattle.laws.proofs.Lists.{cat_perm, cat_append, cat_swap, cat_empty, cat_one, swap_append, map_append, map_perm, perm_of, cat_pairs, pairs_perm, pairs_unmap}
use Rattle.laws.proofs.SetBits.{cat_bits, cat_places}
use Rattle.floor.specs.declared.Canister.{Canister}
use Rattle.floor.specs.declared.Settings.{Settings}
use Rattle.floor.specs.Settings.{total, is_hopper, hoppers_of}
use Rattle.floor.specs.Grid.{neighbour}
use Rattle.floor.specs.Model.{Model, members_of, numbers, numbers_on}
use Rattle.floor.specs.Route.{route}
use Rattle.floor.specs.Signal.{grant_of}
use Rattle.floor.specs.Move.{insert_each, staying}
use Rattle.floor.specs.Calls.{after_round, delivered}
use Rattle.floor.proofs.Sound.{Sound}
use Rattle.floor.proofs.Grid.{side_pos, opposite_side, neighbour_side, neighbour_none}
use Rattle.floor.proofs.Borders.{numbers_same, staying_nil}
use Rattle.floor.proofs.Fields.{way_at_lem, stays, leaves, comes, round_settings, round_own, round_hopper, delivered_to_lem, delivered_are, delivered_length}
use Rattle.floor.proofs.Passing.{Moving, moving, still_or, taking, takes_none, moves_from}
use Rattle.floor.proofs.Safety.{leaves_still}
use Rattle.floor.proofs.Insertion.{insert_each_perm}

-- ---- with any mark h of tile and canister
module _ (m : Model) (S : Sound m) {B : Type 0} (h : ℕ → Canister → B) where
  -- the tile into which u moves
  abbrev pub goal : ℕ → ℕ
  goal u = neighbour m.settings (way_at_lem m u) u

  -- what u sends to t
  part : ℕ → ℕ → List B
  part t u = cond (eqb (goal u) t) (map (h t) (leaves m u)) []

  part_on : (t u : ℕ) → goal u ≡ t → part t u ≡ map (h t) (leaves m u)
  unfolding part
  part_on t u q = rw (eq-eqb (goal u) t q)

  part_else : (t u : ℕ) → goal u ≢ t → part t u ≡ []
  unfolding part
  part_else t u n = rw (ne_eqb (goal u) t n)

  -- who moves into a tile of the floor moves, and was granted
  sender : (t u : ℕ) → t < total m.settings → goal u ≡ t → Moving m S u
  sender t u l e = moving m S u (side_pos (neighbour_side m.settings (way_at_lem m u) u (omega (arith, e))))

  into : (t : ℕ) → t < total m.settings → map (h t) (comes m t) ≡ cat (total m.settings) (part t)
  into t l = go (dec_le 1 (grant_of (route m) t))
    where
      nobody : grant_of (route m) t ≡ 0 → (u : ℕ) → Dec (goal u ≡ t) → part t u ≡ []
      nobody z u (no n) = part_else t u n
      nobody z u (yes e) =
          let M = sender t u l e in
          absurd (omega (arith, z, M.meets, side_pos (opposite_side M.side), ap (λ (x : ℕ). grant_of (route m) x) e))

      other : (u : ℕ) → u ≢ neighbour m.settings (grant_of (route m) t) t → Dec (goal u ≡ t) → part t u ≡ []
      other u n (no k) = part_else t u k
      other u n (yes e) = absurd (n (sym (moves_from m S u (sender t u l e)) ∙ ap (λ (x : ℕ). neighbour m.settings (grant_of (route m) x) x) e))

      go : Dec (0 < grant_of (route m) t) → map (h t) (comes m t) ≡ cat (total m.settings) (part t)
      go (no z) =
          let e : grant_of (route m) t ≡ 0 = omega arith in
          ap (map (h t)) (takes_none m S t e) ∙ sym (cat_empty (total m.settings) (part t) (λ u _. nobody e u (ℕ_discrete (goal u) t)))
      go (yes p) =
          let K = taking m S t p in
          let u = neighbour m.settings (grant_of (route m) t) t in
          ap (map (h t)) K.takes
          ∙ sym (cat_one (total m.settings) (part t) u K.on (λ v _ n. other v n (ℕ_discrete (goal v) t))
          ∙ part_on t u (ap (λ (k : ℕ). neighbour m.settings k u) K.way ∙ K.into))

  -- the parts that u sends
  sends : (u : ℕ) → cat (total m.settings) (λ t. part t u) ≡ map (h (goal u)) (leaves m u)
  sends u = go (still_or m S u)
    where
      go : (way_at_lem m u ≡ 0) ⊎ Moving m S u → cat (total m.settings) (λ t. part t u) ≡ map (h (goal u)) (leaves m u)
      go (inl e) =
          let off : goal u ≡ total m.settings = ap (λ (k : ℕ). neighbour m.settings k u) e ∙ neighbour_none m.settings u in
          cat_empty (total m.settings) (λ t. part t u) (λ t l. part_else t u (λ q. absurd (omega arith))) ∙ sym (ap (map (h (goal u))) (leaves_still m S u e))
      go (inr M) =
          cat_one (total m.settings) (λ t. part t u) (goal u) M.to (λ t _ n. part_else t u (λ k. n (sym k))) ∙ part_on (goal u) u refl

  -- The marks after the move are, in some order, those of each tile's own leavers and stayers.
  pub moved_perm : Permᴰ (cat (total m.settings) (λ t. map (h t) (comes m t ++ stays m t))) (cat (total m.settings) (λ u. map (h (goal u)) (leaves m u) ++ map (h u) (stays m u)))
  moved_perm =
      let C = total m.settings in
      let incoming : Permᴰ (cat C (λ t. map (h t) (comes m t))) (cat C (λ u. map (h (goal u)) (leaves m u))) =
      mathlib.Core.List.Permᴰ.trans (cat_perm C (λ t. map (h t) (comes m t)) (λ t. cat C (part t)) (λ t l. perm_of (into t l)))
      (mathlib.Core.List.Permᴰ.trans (cat_swap C C part) (cat_perm C (λ u. cat C (λ t. part t u)) (λ u. map (h (goal u)) (leaves m u)) (λ u _. perm_of (sends u)))) in
      mathlib.Core.List.Permᴰ.trans (cat_perm C (λ t. map (h t) (comes m t ++ stays m t)) (λ t. map (h t) (comes m t) ++ map (h t) (stays m t)) (λ t _. perm_of (map_append (h t) (comes m t) (stays m t))))
      (mathlib.Core.List.Permᴰ.trans (cat_append C (λ t. map (h t) (comes m t)) (λ t. map (h t) (stays m t)))
      (mathlib.Core.List.Permᴰ.trans (mathlib.Core.List.Permᴰ.append_right (cat C (λ t. map (h t) (stays m t))) incoming)
      (mathlib.Core.List.Permᴰ.symm (cat_append C (λ u. map (h (goal u)) (leaves m u)) (λ u. map (h u) (stays m u))))))

-- ---- the numbers
module _ (m : Model) (S : Sound m) where
  own_numbers : (u : ℕ) → Permᴰ (numbers (leaves m u) ++ numbers (stays m u)) (numbers (members_of m u))
  unfolding leaves stays
  own_numbers u = mathlib.Core.List.Permᴰ.trans (swap_append (numbers (leaves m u)) (numbers (stays m u))) (numbers_same m.settings (way_at_lem m u) (members_of m u))

  pub moved_numbers : Permᴰ (cat (total m.settings) (λ t. numbers (comes m t ++ stays m t))) (numbers_on m)
  unfolding numbers_on
  moved_numbers =
      mathlib.Core.List.Permᴰ.trans (moved_perm m S (λ _ c. c.number))
      (cat_perm (total m.settings) (λ u. numbers (leaves m u) ++ numbers (stays m u)) (λ u. numbers (members_of m u)) (λ u _. own_numbers u))

  -- tile by tile: a hopper's go out, the others stay
  out : ℕ → List ℕ
  out t = cond (is_hopper m.settings t) (numbers (comes m t)) []

  hopper_stays : (t : ℕ) → is_hopper m.settings t ≡ true → stays m t ≡ []
  unfolding stays
  hopper_stays t e = ap (λ (l : List Canister). staying m.settings (way_at_lem m t) l) (S.hopper_empty t e) ∙ staying_nil m.settings (way_at_lem m t)

  split : (t : ℕ) → t < total m.settings → Permᴰ (numbers (comes m t ++ stays m t)) (numbers (members_of (after_round m) t) ++ out t)
  unfolding out
  split t l = go (is_hopper m.settings t) refl
    where
      go : (b : Bool) → is_hopper m.settings t ≡ b → Permᴰ (numbers (comes m t ++ stays m t)) (numbers (members_of (after_round m) t) ++ cond b (numbers (comes m t)) [])
      go true e =
          perm_of (ap (λ (x : List Canister). numbers (comes m t ++ x)) (hopper_stays t e) ∙ ap (λ (x : List Canister). numbers x) (append-nil (comes m t))
          ∙ sym (ap (λ (x : List Canister). numbers x ++ numbers (comes m t)) (round_hopper m S.len t e)))
      go false e =
          subst (λ (x : List Canister). Permᴰ (numbers (comes m t ++ stays m t)) (numbers x ++ [])) (sym (round_own m S.len t l e))
          (subst (λ (x : List ℕ). Permᴰ (numbers (comes m t ++ stays m t)) x) (sym (append-nil (numbers (insert_each (comes m t) (stays m t)))))
          (map_perm (λ c. c.number) (mathlib.Core.List.Permᴰ.symm (insert_each_perm (comes m t) (stays m t)))))

  out_all : Permᴰ (cat (total m.settings) out) (cat 4 (delivered_to_lem m))
  unfolding out is_hopper hoppers_of
  out_all =
      let few : length (delivered m) ≤ 4 = omega (arith, delivered_length m S.len, S.measured.hoppers_few) in
      mathlib.Core.List.Permᴰ.trans (cat_bits m.settings.hoppers (total m.settings) (λ t. numbers (comes m t)))
      (mathlib.Core.List.Permᴰ.trans (perm_of (ap join (sym (delivered_are m S.len)))) (mathlib.Core.List.Permᴰ.symm (cat_places 4 (delivered m) few)))

  -- Each number once: those on the floor after the round with those delivered are those before, in some order.
  pub round_numbers : Permᴰ (numbers_on (after_round m) ++ cat 4 (delivered_to_lem m)) (numbers_on m)
  unfolding numbers_on
  round_numbers =
      let C = total m.settings in
      let new : ℕ → List ℕ = λ t. numbers (members_of (after_round m) t) in
      let here : numbers_on (after_round m) ≡ cat C new = ap (λ (s : Settings). cat (total s) new) (round_settings m) in
      mathlib.Core.List.Permᴰ.trans (perm_of (ap (λ (x : List ℕ). x ++ cat 4 (delivered_to_lem m)) here))
      (mathlib.Core.List.Permᴰ.trans (mathlib.Core.List.Permᴰ.append_left (cat C new) (mathlib.Core.List.Permᴰ.symm out_all))
      (mathlib.Core.List.Permᴰ.trans (mathlib.Core.List.Permᴰ.symm (cat_append C new out))
      (mathlib.Core.List.Permᴰ.trans (mathlib.Core.List.Permᴰ.symm (cat_perm C (λ t. numbers (comes m t ++ stays m t)) (λ t. new t ++ out t) split)) moved_numbers)))

  -- the numbers of one tile differ after the move
  pub moved_differ : (t : ℕ) → t < total m.settings → Pairs (λ (x y : Canister). x.number ≢ y.number) (comes m t ++ stays m t)
  moved_differ t h =
      pairs_unmap (λ x y. x ≢ y) (λ (c : Canister). c.number) (comes m t ++ stays m t)
      (cat_pairs (λ x y. x ≢ y) (total m.settings) (λ t. numbers (comes m t ++ stays m t)) t h
      (pairs_perm (λ x y. x ≢ y) (λ x y n e. n (sym e)) (mathlib.Core.List.Permᴰ.symm moved_numbers) S.unique))
