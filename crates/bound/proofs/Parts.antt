-- The floor in two parts, by a test that running neighbours share, as having a live path: no canister passes from one part to the other, and what is delivered comes from the part that the hoppers are in.
use mathlib.Core.Path.{◌≡◌, refl, sym, ap, ◌∙◌, subst, fun_ext}
use mathlib.Core.Logic.{◌⊎◌, inl, inr}
use mathlib.Core.Bool.{Bool, true, false, cond}
use mathlib.Core.List.{List, [], ◌∷◌, ◌++◌, map, append-nil, append_assoc, Memᴰ}
use mathlib.Core.List.Permᴰ
use mathlib.Core.List.{Permᴰ}
use Prim.Native.Nat.{ℕ, zero, suc, ◌+◌, ◌≤◌, ◌<◌}
use native.Mathlib.Omega.{arith}
use lib.ListN.{length}
use Rattle.laws.specs.Define.{cat, join}
use Rattle.laws.specs.Every.{All}
use Rattle.laws.proofs.Lists.{cat_perm, cat_append, cat_nil, swap_append, map_append, map_perm, perm_of}
use Rattle.laws.proofs.SetBits.{join_append, cat_bits, cat_places}
use Rattle.floor.specs.declared.Canister.{Canister}
use Rattle.floor.specs.declared.Settings.{Settings}
use Rattle.floor.specs.declared.Floor.{Floor}
use Rattle.floor.specs.Sides.{sides}
use Rattle.floor.specs.Settings.{total, is_hopper, hoppers_of}
use Rattle.floor.specs.Grid.{neighbour}
use Rattle.floor.specs.Model.{Model, runs_of_of, members_of, numbers, with_layouts}
use Rattle.floor.specs.Memory.{view}
use Rattle.floor.specs.Well.{well_formed}
use Rattle.floor.specs.Move.{insert_each, staying}
use Rattle.floor.specs.Calls.{after_round, delivered}
use Rattle.floor.specs.Demand3.{Call, book, anywhere, stop, repair, round, keep, forget, recall, list, InRange, outcome, floor_after, reported_in, reported_all, latest, runs_after_of, is_round, disturbs, Quiet, rounds_in}
use Rattle.floor.proofs.Sound.{Sound}
use Rattle.floor.proofs.Pack.{well_sound}
use Rattle.floor.proofs.Borders.{numbers_same, staying_nil}
use Rattle.floor.proofs.Insertion.{insert_each_perm}
use Rattle.floor.proofs.Fields.{way_at_lem, stays, leaves, comes, round_settings, round_own, round_hopper, delivered_to_lem, delivered_are, delivered_length}
use Rattle.floor.proofs.Passing.{Moving, still_or}
use Rattle.floor.proofs.Safety.{leaves_still}
use Rattle.floor.proofs.Conservation.{moved_perm}
use Rattle.floor.proofs.Clearing.{rounds}
use Rattle.floor.proofs.Calls.{none}
use Rattle.floor.proofs.Lists.{round_reported, view_round, call_keeps, list_runs, quiet_runs, quiet_rounds}
use Rattle.bound.specs.Answer.{numbers_where}

-- ---- lists joined, in some order
join_perm : {A : Type 0} {ls ks : List (List A)} → Permᴰ ls ks → Permᴰ (join ls) (join ks)
unfolding join
join_perm Permᴰ.nil = Permᴰ.nil
join_perm {A} (Permᴰ.cons {a} {b} {l₁} {l₂} e p) = Permᴰ.trans (perm_of (ap (λ (x : List A). x ++ join l₁) e)) (Permᴰ.append_left b (join_perm p))
join_perm {A} (Permᴰ.swap {a} {b} {a'} {b'} {l} e f) =
    Permᴰ.trans (perm_of (sym (append_assoc a b (join l))))
    (Permᴰ.trans (Permᴰ.append_right (join l) (swap_append a b))
    (perm_of (append_assoc b a (join l) ∙ (λ i. f i ++ (e i ++ join l)))))
join_perm (Permᴰ.trans p q) = Permᴰ.trans (join_perm p) (join_perm q)

-- ---- a list that is there where a test holds
part_perm : {A : Type 0} (b : Bool) {l k : List A} → Permᴰ l k → Permᴰ (cond b l []) (cond b k [])
part_perm true p = p
part_perm false p = Permᴰ.nil

part_append : {A : Type 0} (b : Bool) (l k : List A) → cond b (l ++ k) [] ≡ cond b l [] ++ cond b k []
part_append true l k = refl
part_append false l k = refl

part_nil : {A : Type 0} (b : Bool) → ◌≡◌ {A = List A} (cond b [] []) []
part_nil true = refl
part_nil false = refl

-- ---- the numbers of the canisters whose tile passes
module _ (p : ℕ → Bool) where
  mark : ℕ → Canister → List ℕ
  mark t c = cond (p t) (c.number ∷ []) []

  mark_tile : (t : ℕ) (l : List Canister) → join (map (mark t) l) ≡ cond (p t) (numbers l) []
  unfolding join mark
  mark_tile t [] = sym (part_nil (p t))
  mark_tile t (c ∷ l) = ap (λ (r : List ℕ). cond (p t) (c.number ∷ []) [] ++ r) (mark_tile t l) ∙ sym (part_append (p t) (c.number ∷ []) (numbers l))

  mark_all : (n : ℕ) (l : ℕ → List Canister) → join (cat n (λ t. map (mark t) (l t))) ≡ cat n (λ t. cond (p t) (numbers (l t)) [])
  unfolding cat join
  mark_all zero l = refl
  mark_all (suc n) l = join_append (map (mark n) (l n)) (cat n (λ t. map (mark t) (l t))) ∙ (λ i. mark_tile n (l n) i ++ mark_all n l i)

-- ---- a round; `along`: a tile that moves and the tile into which it moves pass together
module _ (m : Model) (S : Sound m) (p : ℕ → Bool) (along : (u : ℕ) → Moving m S u → p (neighbour m.settings (way_at_lem m u) u) ≡ p u) where
  abbrev C : ℕ
  C = total m.settings

  sent : (u : ℕ) → map (mark p (neighbour m.settings (way_at_lem m u) u)) (leaves m u) ++ map (mark p u) (stays m u) ≡ map (mark p u) (leaves m u ++ stays m u)
  unfolding mark
  sent u = go (still_or m S u)
    where
      to : ℕ
      to = neighbour m.settings (way_at_lem m u) u

      go : (way_at_lem m u ≡ 0) ⊎ Moving m S u → map (mark p to) (leaves m u) ++ map (mark p u) (stays m u) ≡ map (mark p u) (leaves m u ++ stays m u)
      go (inl e) =
          let z = leaves_still m S u e in
          ap (λ (l : List Canister). map (mark p to) l ++ map (mark p u) (stays m u)) z ∙ sym (ap (λ (l : List Canister). map (mark p u) (l ++ stays m u)) z)
      go (inr M) =
          ap (λ (b : Bool). map (λ (c : Canister). cond b (c.number ∷ []) []) (leaves m u) ++ map (mark p u) (stays m u)) (along u M)
          ∙ sym (map_append (mark p u) (leaves m u) (stays m u))

  own : (u : ℕ) → Permᴰ (numbers (leaves m u ++ stays m u)) (numbers (members_of m u))
  unfolding leaves stays
  own u =
      Permᴰ.trans (perm_of (map_append (λ c. c.number) (leaves m u) (stays m u)))
      (Permᴰ.trans (swap_append (numbers (leaves m u)) (numbers (stays m u))) (numbers_same m.settings (way_at_lem m u) (members_of m u)))

  moved : Permᴰ (cat C (λ t. cond (p t) (numbers (comes m t ++ stays m t)) [])) (numbers_where m p)
  unfolding numbers_where
  moved =
      Permᴰ.trans (perm_of (sym (mark_all p C (λ t. comes m t ++ stays m t))))
      (Permᴰ.trans (join_perm (moved_perm m S (mark p)))
      (Permᴰ.trans (perm_of (ap (λ (g : ℕ → List (List ℕ)). join (cat C g)) (fun_ext sent) ∙ mark_all p C (λ u. leaves m u ++ stays m u)))
      (cat_perm C (λ u. cond (p u) (numbers (leaves m u ++ stays m u)) []) (λ u. cond (p u) (numbers (members_of m u)) []) (λ u _. part_perm (p u) (own u)))))

  -- what goes out of a tile, and what is on it afterwards
  out : ℕ → List ℕ
  out t = cond (is_hopper m.settings t) (numbers (comes m t)) []

  hopper_stays : (t : ℕ) → is_hopper m.settings t ≡ true → stays m t ≡ []
  unfolding stays
  hopper_stays t e = ap (λ (l : List Canister). staying m.settings (way_at_lem m t) l) (S.hopper_empty t e) ∙ staying_nil m.settings (way_at_lem m t)

  split : (t : ℕ) → t < C → Permᴰ (numbers (comes m t ++ stays m t)) (numbers (members_of (after_round m) t) ++ out t)
  unfolding out
  split t l = go (is_hopper m.settings t) refl
    where
      go : (b : Bool) → is_hopper m.settings t ≡ b → Permᴰ (numbers (comes m t ++ stays m t)) (numbers (members_of (after_round m) t) ++ cond b (numbers (comes m t)) [])
      go true e =
          perm_of (ap (λ (x : List Canister). numbers (comes m t ++ x)) (hopper_stays t e) ∙ ap (λ (x : List Canister). numbers x) (append-nil (comes m t))
          ∙ sym (ap (λ (x : List Canister). numbers x ++ numbers (comes m t)) (round_hopper m S.len t e)))
      go false e =
          subst (λ (x : List Canister). Permᴰ (numbers (comes m t ++ stays m t)) (numbers x ++ [])) (sym (round_own m S.len t l e))
          (subst (λ (x : List ℕ). Permᴰ (numbers (comes m t ++ stays m t)) x) (sym (append-nil (numbers (insert_each (comes m t) (stays m t)))))
          (map_perm (λ c. c.number) (Permᴰ.symm (insert_each_perm (comes m t) (stays m t)))))

  out_all : Permᴰ (cat C out) (cat 4 (delivered_to_lem m))
  unfolding out is_hopper hoppers_of
  out_all =
      let few : length (delivered m) ≤ 4 = omega (arith, delivered_length m S.len, S.measured.hoppers_few) in
      Permᴰ.trans (cat_bits m.settings.hoppers C (λ t. numbers (comes m t)))
      (Permᴰ.trans (perm_of (ap join (sym (delivered_are m S.len)))) (Permᴰ.symm (cat_places 4 (delivered m) few)))

  -- b: whether the hoppers pass
  module _ (b : Bool) (hopper : (t : ℕ) → is_hopper m.settings t ≡ true → p t ≡ b) where
    out_part : (t : ℕ) → cond (p t) (out t) [] ≡ cond b (out t) []
    unfolding out
    out_part t = go (is_hopper m.settings t) refl
      where
        go : (h : Bool) → is_hopper m.settings t ≡ h → cond (p t) (cond h (numbers (comes m t)) []) [] ≡ cond b (cond h (numbers (comes m t)) []) []
        go true e = ap (λ (x : Bool). cond x (numbers (comes m t)) []) (hopper t e)
        go false e = part_nil (p t) ∙ sym (part_nil b)

    gone : Permᴰ (cat C (λ t. cond (p t) (out t) [])) (cond b (cat 4 (delivered_to_lem m)) [])
    gone = Permᴰ.trans (perm_of (ap (cat C) (fun_ext out_part))) (go b)
      where
        go : (b : Bool) → Permᴰ (cat C (λ t. cond b (out t) [])) (cond b (cat 4 (delivered_to_lem m)) [])
        go true = out_all
        go false = perm_of (cat_nil {A = ℕ} C)

    pub round_parted : Permᴰ (numbers_where (after_round m) p ++ cond b (cat 4 (delivered_to_lem m)) []) (numbers_where m p)
    unfolding numbers_where
    round_parted =
        let new : ℕ → List ℕ = λ t. cond (p t) (numbers (members_of (after_round m) t)) [] in
        let off : ℕ → List ℕ = λ t. cond (p t) (out t) [] in
        let here : cat (total (after_round m).settings) new ≡ cat C new = ap (λ (s : Settings). cat (total s) new) (round_settings m) in
        Permᴰ.trans (perm_of (ap (λ (x : List ℕ). x ++ cond b (cat 4 (delivered_to_lem m)) []) here))
        (Permᴰ.trans (Permᴰ.append_left (cat C new) (Permᴰ.symm gone))
        (Permᴰ.trans (Permᴰ.symm (cat_append C new off))
        (Permᴰ.trans (Permᴰ.symm (cat_perm C (λ t. cond (p t) (numbers (comes m t ++ stays m t)) []) (λ t. new t ++ off t)
        (λ t l. Permᴰ.trans (part_perm (p t) (split t l)) (perm_of (part_append (p t) (numbers (members_of (after_round m) t)) (out t))))))
        moved)))

-- ---- such a test, by the settings and by what runs; b: whether the hoppers pass
pub record Parting (s : Settings) (run : ℕ → Bool) (p : ℕ → Bool) (b : Bool) : Type 0 where
  pub shared : (u k : ℕ) → Memᴰ k sides → run u ≡ true → run (neighbour s k u) ≡ true → p (neighbour s k u) ≡ p u
  pub hoppers : (t : ℕ) → is_hopper s t ≡ true → p t ≡ b

-- ---- a quiet call, and a quiet list
module _ (p : ℕ → Bool) (b : Bool) where
  nothing : cond b (cat 4 none) [] ≡ []
  nothing = ap (λ (l : List ℕ). cond b l []) (cat_nil {A = ℕ} 4) ∙ part_nil b

  module _ (f : Floor) (w : well_formed f ≡ true) where
    abbrev Parted : Call → Type 0
    Parted c = Permᴰ (numbers_where (view (outcome f c).floor) p ++ cond b (cat 4 (outcome f c).reported) []) (numbers_where (view f) p)

    -- a call that is no round changes the layouts at most
    still : (c : Call) → InRange c → disturbs f c ≡ false → is_round c ≡ false → (outcome f c).reported ≡ none → Parted c
    unfolding floor_after rounds numbers_where
    still c h q r e =
        let R = quiet_rounds f w (c ∷ []) (h, tt) (q, tt) in
        let no_round : rounds_in (c ∷ []) ≡ 0 = ap (λ (x : Bool). cond {A = ℕ} x 1 0 + 0) r in
        let same : numbers_where (view (outcome f c).floor) p ≡ numbers_where (view f) p =
        ap (λ (x : Model). numbers_where x p) (R.1 ∙ ap (λ (n : ℕ). with_layouts (rounds n (view f)) R.0) no_round) in
        let none_out : cond b (cat 4 (outcome f c).reported) [] ≡ [] = ap (λ (g : ℕ → List ℕ). cond b (cat 4 g) []) e ∙ nothing in
        perm_of ((λ i. same i ++ none_out i) ∙ append-nil (numbers_where (view f) p))

    one : (c : Call) → InRange c → disturbs f c ≡ false → Parting (view f).settings (runs_of_of (view f)) p b → Parted c
    unfolding outcome
    one (book t x) h q P = still (book t x) h q refl refl
    one (anywhere t n) h q P = still (anywhere t n) h q refl refl
    one (stop t) h q P = still (stop t) h q refl refl
    one (repair t) h q P = still (repair t) h q refl refl
    one round h q P =
        let m = view f in
        let S = well_sound f w in
        let R = round_parted m S p (λ u M. P.shared u (way_at_lem m u) M.side M.runs M.ahead) b P.hoppers in
        subst (λ (x : Model). Permᴰ (numbers_where x p ++ cond b (cat 4 (outcome f round).reported) []) (numbers_where m p)) (sym (view_round f w round refl))
        (subst (λ (g : ℕ → List ℕ). Permᴰ (numbers_where (after_round m) p ++ cond b (cat 4 g) []) (numbers_where m p)) (sym (round_reported f w)) R)
    one (keep n) h q P = still (keep n) h q refl refl
    one (forget n) h q P = still (forget n) h q refl refl
    one (recall n) h q P = still (recall n) h q refl refl
    one (list l) h q P = still (list l) h q refl refl

    -- the same tiles run after it
    same_runs : (c : Call) → InRange c → disturbs f c ≡ false → runs_of_of (view (outcome f c).floor) ≡ runs_of_of (view f)
    unfolding floor_after latest runs_after_of
    same_runs c h q = fun_ext (λ t. sym (list_runs f w (c ∷ []) (h, tt) t) ∙ quiet_runs f [] (c ∷ []) (q, tt) t)

    still_parting : (c : Call) → InRange c → disturbs f c ≡ false → Parting (view f).settings (runs_of_of (view f)) p b → Parting (view (outcome f c).floor).settings (runs_of_of (view (outcome f c).floor)) p b
    still_parting c h q P =
        subst (λ (s : Settings). Parting s (runs_of_of (view (outcome f c).floor)) p b) (sym (call_keeps f w c h).1.same_settings)
        (subst (λ (r : ℕ → Bool). Parting (view f).settings r p b) (sym (same_runs c h q)) P)

  -- what was reported, a call and those after it
  both : (g h : ℕ → List ℕ) → Permᴰ (cond b (cat 4 (λ k. g k ++ h k)) []) (cond b (cat 4 g) [] ++ cond b (cat 4 h) [])
  both g h = Permᴰ.trans (part_perm b (cat_append 4 g h)) (perm_of (part_append b (cat 4 g) (cat 4 h)))

  pub list_parted : (f : Floor) → well_formed f ≡ true → (ds : List Call) → All InRange ds → Quiet f ds → Parting (view f).settings (runs_of_of (view f)) p b
      → Permᴰ (numbers_where (view (floor_after f ds)) p ++ cond b (reported_all f ds) []) (numbers_where (view f) p)
  unfolding floor_after reported_all reported_in
  list_parted f w [] h q P = perm_of (ap (λ (x : List ℕ). numbers_where (view f) p ++ x) nothing ∙ append-nil (numbers_where (view f) p))
  list_parted f w (c ∷ ds) h q P =
      let g = (outcome f c).floor in
      let last = numbers_where (view (floor_after g ds)) p in
      let now = cond b (cat 4 (outcome f c).reported) [] in
      let later = cond b (cat 4 (reported_in g ds)) [] in
      let rest = list_parted g (call_keeps f w c h.0).0 ds h.1 q.1 (still_parting f w c h.0 q.0 P) in
      Permᴰ.trans (Permᴰ.append_left last (both (outcome f c).reported (reported_in g ds)))
      (Permᴰ.trans (Permᴰ.append_left last (swap_append now later))
      (Permᴰ.trans (perm_of (sym (append_assoc last later now)))
      (Permᴰ.trans (Permᴰ.append_right now rest) (one f w c h.0 q.0 P))))
