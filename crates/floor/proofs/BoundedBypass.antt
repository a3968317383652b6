-- Nobody waits twice: while a side of a tile wants in every round, no other side is granted twice before it. The statement is specs/BoundedBypass.
use mathlib.Core.Path.{◌≡◌, refl, sym, ap, ◌∙◌, subst}
use mathlib.Core.Logic.{◌⊎◌, inl, inr, ◌≢◌}
use mathlib.Core.Bool.{Bool, true, false, cond, ◌&&◌, true≢false}
use mathlib.Core.List.{List, [], ◌∷◌, ◌++◌, Memᴰ, nil≢cons, head-eq_of_cons-eq, tail-eq_of_cons-eq}
use Prim.Native.Nat.{ℕ, zero, suc, ◌+◌, ◌≤◌, ◌<◌}
use native.Mathlib.Omega.{arith}
use native.Mathlib.Decide.{dec_le, ℕ_discrete}
use lib.Dec.{eqb}
use lib.ListN.{get_or}
use lib.Seq.{get_or-set_same}
use borrow.Author.Tests.{eqb-true, leb-false}
use Rattle.laws.specs.Define.{tab, filter, bit}
use Rattle.laws.specs.Every.{All}
use Rattle.laws.proofs.Tables.{tab_at, tab_off}
use Rattle.laws.proofs.Tests.{by_test}
use Rattle.floor.specs.declared.Settings.{Settings}
use Rattle.floor.specs.declared.Floor.{Floor}
use Rattle.floor.specs.Sides.{sides}
use Rattle.floor.specs.Settings.{total}
use Rattle.floor.specs.Grid.{neighbour}
use Rattle.floor.specs.Layouts.{set_of}
use Rattle.floor.specs.Model.{TileState, Model, no_tile_of, tile_of, runs_of_of, distance_of, next_of, token_of, members_of, with_tile}
use Rattle.floor.specs.Memory.{view}
use Rattle.floor.specs.Well.{well_formed}
use Rattle.floor.specs.Route.{route}
use Rattle.floor.specs.Signal.{Signal, missing, signal_by, grant_of}
use Rattle.floor.specs.Calls.{stopped, repaired, stop_tests, name_held_tests, recalled, after_round, report_of, round_answer}
use Rattle.floor.specs.Demand3.{Call, book, anywhere, stop, repair, round, forget, recall, list, InRange, recall_set, is_round, rounds_in, outcome, floor_after}
use Rattle.floor.specs.BoundedBypass.{wants, Waiting, granted, grants_in, Fair, grant_count, turn_of, BypassPromises, BoundedBypass}
use Rattle.floor.specs.CommutingCalls.{stops, repairs, placed, unplaced}
use Rattle.floor.proofs.Sound.{Sound}
use Rattle.floor.proofs.Grid.{each_side, side_pos, opposite_side}
use Rattle.floor.proofs.Tables.{run_on}
use Rattle.floor.proofs.Rows.{view_settings}
use Rattle.floor.proofs.Pack.{well_sound}
use Rattle.floor.proofs.Grants.{chosen_wants, chosen_some, grant_chosen}
use Rattle.floor.proofs.Fields.{round_token}
use Rattle.floor.proofs.Passing.{Wanting, wants_none, wants_side, wants_facts, signal_is, granting, arrow_at, back}
use Rattle.floor.proofs.Stages.{recall_out}
use Rattle.floor.proofs.Lists.{round_accepted, view_round, through_list, call_keeps}
use Rattle.floor.proofs.GuardedCalls.{accepted, applied, running_pos, running_form, running_answers, name_held_pos, recall_form, recall_answers}
use Rattle.floor.proofs.TileInvariants.{book_tile, running_tile, keep_tile, forget_tile, recall_tile_lem}
use Rattle.floor.proofs.Tokens.{Nearer, first_grant, next_grant}

-- ---- one round
-- a tile that j was granted by, while k waits: stopped since, or its token nearer to k
abbrev Past : ℕ → ℕ → TileState → Type 0
Past k j x = (x.distance ≡ 255) ⊎ Nearer k j x.token

module _ (m : Model) (S : Sound m) (t k : ℕ) (on : t < total m.settings) (h : wants m t k ≡ true) where
  W : Wanting m t k
  W = wants_facts m S.len t k h

  -- a tile that an arrow faces has a distance, and runs
  faced : (runs_of_of m t ≡ true) × (distance_of m t < 255)
  faced =
      let u = neighbour m.settings k t in
      let A = arrow_at m S u (omega (arith, W.arrow, side_pos (opposite_side W.side))) in
      let e : neighbour m.settings (next_of (route m) u) u ≡ t = ap (λ i. neighbour m.settings i u) W.arrow ∙ back m S W.side t on (run_on m S.len u A.runs) in
      (ap (runs_of_of m) (sym e) ∙ A.ahead, omega (arith, ap (distance_of m) e, A.down, A.below, S.measured.few))

  abbrev now : Signal
  now = signal_by m.settings (runs_of_of m t) (token_of m t) (members_of m t) (wants m t)

  token_is : token_of (after_round m) t ≡ now.token
  token_is = round_token m S.len t ∙ ap (λ (x : Signal). x.token) (signal_is m S.len t)

  grant_is : grant_of (route m) t ≡ now.grant
  grant_is = ap (λ (x : Signal). x.grant) (signal_is m S.len t)

  first_round : (j : ℕ) → j ≢ 0 → j ≢ k → grant_of (route m) t ≡ j → Past k j (tile_of (after_round m) t)
  first_round j z n e =
      let mj : Memᴰ j sides = subst (λ i. Memᴰ i sides) e (granting m S.len t (omega arith)).wanting.side in
      inr (subst (Nearer k j) (sym token_is) (first_grant m.settings (runs_of_of m t) (token_of m t) (members_of m t) (wants m t) k j W.side h faced.0 n mj (sym grant_is ∙ e)))

  next_round : (j : ℕ) → j ≢ 0 → Past k j (tile_of m t) → (grant_of (route m) t ≡ k) ⊎ ((grant_of (route m) t ≢ j) × Past k j (tile_of (after_round m) t))
  next_round j z (inl d) = absurd (omega (arith, faced.1))
  next_round j z (inr N) = go (next_grant m.settings (runs_of_of m t) (token_of m t) (members_of m t) (wants m t) k j W.side h faced.0 z N)
    where
      go : (now.grant ≡ k) ⊎ ((now.grant ≢ j) × Nearer k j now.token) → (grant_of (route m) t ≡ k) ⊎ ((grant_of (route m) t ≢ j) × Past k j (tile_of (after_round m) t))
      go (inl e) = inl (grant_is ∙ e)
      go (inr q) = inr (λ e. q.0 (sym grant_is ∙ e), inr (subst (Nearer k j) (sym token_is) q.1))

-- ---- a round's report
module _ (f : Floor) (w : well_formed f ≡ true) (t : ℕ) where
  pub granted_on : t < total (view f).settings → granted f t ≡ grant_of (route (view f)) t
  unfolding granted round_answer report_of
  granted_on on = rw (round_accepted f w) (tab_at 64 (grant_of (route (view f))) t 0 (omega (arith, (well_sound f w).measured.few)))

  -- a tile that grants is on the floor
  granting_on : 0 < granted f t → t < total (view f).settings
  unfolding granted round_answer report_of
  granting_on h = go (dec_le (suc t) 64) (rw (round_accepted f w) at h)
    where
      S : Sound (view f)
      S = well_sound f w

      go : Dec (t < 64) → 0 < get_or (tab 64 (grant_of (route (view f)))) t 0 → t < total (view f).settings
      go (yes l) q = run_on (view f) S.len t (granting (view f) S.len t (rw (tab_at 64 (grant_of (route (view f))) t 0 l) at q)).runs
      go (no l) q = absurd (omega (arith, tab_off 64 (grant_of (route (view f))) t 0 (omega arith)))

  -- it grants a side, or none
  granted_side : (granted f t ≡ 0) ⊎ Memᴰ (granted f t) sides
  granted_side = go (granted f t) refl
    where
      go : (g : ℕ) → granted f t ≡ g → (granted f t ≡ 0) ⊎ Memᴰ (granted f t) sides
      go zero e = inl e
      go (suc g) e =
          let is = granted_on (granting_on (omega arith)) in
          inr (subst (λ i. Memᴰ i sides) (sym is) (granting (view f) (well_sound f w).len t (omega (arith, is))).wanting.side)

  -- the side whose turn it is wants, if any does
  turn_some : (j : ℕ) → wants (view f) t j ≡ true → wants (view f) t (turn_of (view f) t) ≡ true
  unfolding turn_of
  turn_some j h =
      let n = (well_sound f w).len in
      chosen_wants (wants (view f) t) (token_of (view f) t) (chosen_some (wants (view f) t) (wants_none (view f) n t) j (wants_side (view f) n t j h) h (token_of (view f) t))

  -- what a running tile grants
  grants_turn : runs_of_of (view f) t ≡ true → granted f t ≡ cond (wants (view f) t (turn_of (view f) t) && eqb (missing f.settings (turn_of (view f) t) (members_of (view f) t)) 0) (turn_of (view f) t) 0
  unfolding turn_of view
  grants_turn r =
      let n = (well_sound f w).len in
      granted_on (run_on (view f) n t r)
      ∙ ap (λ (x : Signal). x.grant) (signal_is (view f) n t)
      ∙ grant_chosen f.settings (runs_of_of (view f) t) (token_of (view f) t) (members_of (view f) t) (wants (view f) t) r (wants_none (view f) n t)

-- ---- lists
on_call : (f : Floor) → well_formed f ≡ true → (t : ℕ) (c : Call) → InRange c → t < total (view f).settings → t < total (view (outcome f c).floor).settings
on_call f w t c h on = omega (arith, ap (λ (s : Settings). total s) (call_keeps f w c h).1.same_settings)

module _ (t k j : ℕ) (z : j ≢ 0) (n : j ≢ k) where
  past_call : (f : Floor) → well_formed f ≡ true → (c : Call) → InRange c → is_round c ≡ false → Past k j (tile_of (view f) t) → Past k j (tile_of (view (outcome f c).floor) t)
  unfolding stopped repaired
  past_call f w (book u b) h r p = book_tile (Past k j) f w u t p (placed b) h (λ x l q. q)
  past_call f w (anywhere u number) h r p = book_tile (Past k j) f w u t p (unplaced number) h (λ x l q. q)
  past_call f w (stop u) h r p = running_tile (Past k j) f w u t p stops (λ x q. inl refl)
  past_call f w (repair u) h r p = running_tile (Past k j) f w u t p repairs (λ x q. q)
  past_call f w round h r p = absurd (true≢false r)
  past_call f w (Call.keep name) h r p = keep_tile (Past k j) f w t p name
  past_call f w (forget name) h r p = forget_tile (Past k j) f w t p name
  past_call f w (recall name) h r p = recall_tile_lem (Past k j) f w t p name (λ x q. inl refl) (λ x q. q)
  past_call f w (list l) h r p = through_list (λ g. Past k j (tile_of (view g) t)) (λ g w u b h p. book_tile (Past k j) g w u t p (placed b) h (λ x l q. q)) f w l h p

  -- j was granted: what the tile grants up to the next grant of j has k in it
  later : (f : Floor) → well_formed f ≡ true → (cs : List Call) → All InRange cs → t < total (view f).settings → Past k j (tile_of (view f) t) → Waiting f cs t k
      → (between after : List ℕ) → grants_in f cs t ≡ between ++ (j ∷ after) → Memᴰ k between
  unfolding grants_in
  later f w [] h on p W [] after e = absurd (nil≢cons e)
  later f w [] h on p W (b ∷ bs) after e = absurd (nil≢cons e)
  later f w (c ∷ cs) h on p W between after e = go (is_round c) refl (later (outcome f c).floor (call_keeps f w c h.0).0 cs h.1 (on_call f w t c h.0 on))
    where
      g : Floor
      g = (outcome f c).floor

      go : (b : Bool) → is_round c ≡ b → (Past k j (tile_of (view g) t) → Waiting g cs t k → (between after : List ℕ) → grants_in g cs t ≡ between ++ (j ∷ after) → Memᴰ k between) → Memᴰ k between
      go false r ih = ih (past_call f w c h.0 r p) W.1 between after (rw r at e)
      go true r ih = step between (rw r at e) (next_round (view f) (well_sound f w) t k on (W.0 r) j z p)
        where
          is : granted f t ≡ grant_of (route (view f)) t
          is = granted_on f w t on

          step : (between : List ℕ) → granted f t ∷ grants_in g cs t ≡ between ++ (j ∷ after) → (grant_of (route (view f)) t ≡ k) ⊎ ((grant_of (route (view f)) t ≢ j) × Past k j (tile_of (after_round (view f)) t)) → Memᴰ k between
          step [] q (inl i) = absurd (n (sym (head-eq_of_cons-eq q) ∙ is ∙ i))
          step [] q (inr i) = absurd (i.0 (sym is ∙ head-eq_of_cons-eq q))
          step (b ∷ bs) q (inl i) = mathlib.Core.List.Memᴰ.head (sym i ∙ sym is ∙ head-eq_of_cons-eq q)
          step (b ∷ bs) q (inr i) = mathlib.Core.List.Memᴰ.tail (ih (subst (λ (m : Model). Past k j (tile_of m t)) (sym (view_round f w c r)) i.1) W.1 bs after (tail-eq_of_cons-eq q))

  -- from the first grant of j on
  fair_of : (f : Floor) → well_formed f ≡ true → (cs : List Call) → All InRange cs → Waiting f cs t k → (before between after : List ℕ) → grants_in f cs t ≡ before ++ (j ∷ (between ++ (j ∷ after))) → Memᴰ k between
  unfolding grants_in
  fair_of f w [] h W [] between after e = absurd (nil≢cons e)
  fair_of f w [] h W (b ∷ bs) between after e = absurd (nil≢cons e)
  fair_of f w (c ∷ cs) h W before between after e = go (is_round c) refl (fair_of (outcome f c).floor (call_keeps f w c h.0).0 cs h.1 W.1)
    where
      g : Floor
      g = (outcome f c).floor

      go : (b : Bool) → is_round c ≡ b → ((before between after : List ℕ) → grants_in g cs t ≡ before ++ (j ∷ (between ++ (j ∷ after))) → Memᴰ k between) → Memᴰ k between
      go false r ih = ih before between after (rw r at e)
      go true r ih = step before (rw r at e)
        where
          step : (before : List ℕ) → granted f t ∷ grants_in g cs t ≡ before ++ (j ∷ (between ++ (j ∷ after))) → Memᴰ k between
          step (b ∷ bs) q = ih bs between after (tail-eq_of_cons-eq q)
          step [] q =
              let is : granted f t ≡ j = head-eq_of_cons-eq q in
              let on : t < total (view f).settings = granting_on f w t (omega arith) in
              let p : Past k j (tile_of (after_round (view f)) t) = first_round (view f) (well_sound f w) t k on (W.0 r) j z n (sym (granted_on f w t on) ∙ is) in
              later g (call_keeps f w c h.0).0 cs h.1 (on_call f w t c h.0 on) (subst (λ (m : Model). Past k j (tile_of m t)) (sym (view_round f w c r)) p) W.1 between after (tail-eq_of_cons-eq q)

-- ---- after a stop
-- a tile without a distance is one that no side wants to enter, and stays so up to the next round
none_wants : (f : Floor) → well_formed f ≡ true → (t k : ℕ) → t < total (view f).settings → distance_of (view f) t ≡ 255 → wants (view f) t k ≡ false
none_wants f w t k on d = go (by_test (wants (view f) t k))
  where
    go : (wants (view f) t k ≡ true) ⊎ (wants (view f) t k ≡ false) → wants (view f) t k ≡ false
    go (inr e) = e
    go (inl e) = absurd (omega (arith, (faced (view f) (well_sound f w) t k on e).1))

none_stays : (t k : ℕ) (f : Floor) → well_formed f ≡ true → t < total (view f).settings → distance_of (view f) t ≡ 255 → (cs : List Call) → All InRange cs → rounds_in cs ≡ 0 → wants (view (floor_after f cs)) t k ≡ false
unfolding floor_after stopped repaired
none_stays t k f w on d [] h r = none_wants f w t k on d
none_stays t k f w on d (c ∷ cs) h r = none_stays t k (outcome f c).floor (call_keeps f w c h.0).0 (on_call f w t c h.0 on) (kept c h.0 r) cs h.1 (omega arith)
  where
    None : TileState → Type 0
    None x = x.distance ≡ 255

    kept : (c : Call) → InRange c → cond (is_round c) 1 0 + rounds_in cs ≡ 0 → distance_of (view (outcome f c).floor) t ≡ 255
    kept (book u b) h r = book_tile None f w u t d (placed b) h (λ x l q. q)
    kept (anywhere u number) h r = book_tile None f w u t d (unplaced number) h (λ x l q. q)
    kept (stop u) h r = running_tile None f w u t d stops (λ x q. refl)
    kept (repair u) h r = running_tile None f w u t d repairs (λ x q. q)
    kept round h r = absurd (omega arith)
    kept (Call.keep name) h r = keep_tile None f w t d name
    kept (forget name) h r = forget_tile None f w t d name
    kept (recall name) h r = recall_tile_lem None f w t d name (λ x q. refl) (λ x q. q)
    kept (list l) h r = through_list (λ g. distance_of (view g) t ≡ 255) (λ g w u b h d. book_tile None g w u t d (placed b) h (λ x l q. q)) f w l h d

-- ---- at most three
-- how often j stands in the list
abbrev times : ℕ → List ℕ → ℕ
times j [] = 0
times j (x ∷ l) = cond (eqb x j) 1 0 + times j l

once : (j : ℕ) (l : List ℕ) → 1 ≤ times j l → (a : List ℕ) × (b : List ℕ) × (l ≡ a ++ (j ∷ b))
once j [] h = absurd (omega arith)
once j (x ∷ l) h = go (eqb x j) refl (once j l)
  where
    go : (b : Bool) → eqb x j ≡ b → (1 ≤ times j l → (a : List ℕ) × (b : List ℕ) × (l ≡ a ++ (j ∷ b))) → (a : List ℕ) × (b : List ℕ) × (x ∷ l ≡ a ++ (j ∷ b))
    go true e ih = ([], l, ap (λ (y : ℕ). y ∷ l) (eqb-true x j e))
    go false e ih = let s = ih (omega (arith, rw e at h)) in (x ∷ s.0, s.1, ap (λ (y : List ℕ). x ∷ y) s.2)

twice : (j : ℕ) (l : List ℕ) → 2 ≤ times j l → (a : List ℕ) × (b : List ℕ) × (c : List ℕ) × (l ≡ a ++ (j ∷ (b ++ (j ∷ c))))
twice j [] h = absurd (omega arith)
twice j (x ∷ l) h = go (eqb x j) refl (twice j l)
  where
    go : (b : Bool) → eqb x j ≡ b → (2 ≤ times j l → (a : List ℕ) × (b : List ℕ) × (c : List ℕ) × (l ≡ a ++ (j ∷ (b ++ (j ∷ c))))) → (a : List ℕ) × (b : List ℕ) × (c : List ℕ) × (x ∷ l ≡ a ++ (j ∷ (b ++ (j ∷ c))))
    go true e ih = let s = once j l (omega (arith, rw e at h)) in ([], s.0, s.1, ap (λ (y : ℕ). y ∷ l) (eqb-true x j e) ∙ ap (λ (y : List ℕ). j ∷ y) s.2)
    go false e ih = let s = ih (omega (arith, rw e at h)) in (x ∷ s.0, s.1, s.2, ap (λ (y : List ℕ). x ∷ y) s.3)

never : (j : ℕ) (l : List ℕ) → ¬ (Memᴰ j l) → times j l ≡ 0
never j l n = go (dec_le 1 (times j l))
  where
    go : Dec (1 ≤ times j l) → times j l ≡ 0
    go (no h) = omega arith
    go (yes h) = let s = once j l h in absurd (n (subst (Memᴰ j) (sym s.2) (mathlib.Core.List.Memᴰ.append_right s.0 (mathlib.Core.List.Memᴰ.head refl))))

-- another side than k stands there at most once
fair_once : (k : ℕ) (gs : List ℕ) → Fair k gs → ¬ (Memᴰ k gs) → (j : ℕ) → j ≢ 0 → times j gs ≤ 1
fair_once k gs F n j z = go (dec_le (times j gs) 1)
  where
    go : Dec (times j gs ≤ 1) → times j gs ≤ 1
    go (yes h) = h
    go (no h) = pick (ℕ_discrete j k)
      where
        pick : Dec (j ≡ k) → times j gs ≤ 1
        pick (yes e) = omega (arith, never j gs (λ m. n (subst (λ i. Memᴰ i gs) e m)))
        pick (no e) =
            let s = twice j gs (omega arith) in
            absurd (n (subst (Memᴰ k) (sym s.3) (mathlib.Core.List.Memᴰ.append_right s.0 (mathlib.Core.List.Memᴰ.tail (mathlib.Core.List.Memᴰ.append_left (j ∷ s.2) (F j s.0 s.1 s.2 z e s.3))))))

-- a side that waits in some round is one of four
waiting_side : (f : Floor) → well_formed f ≡ true → (cs : List Call) → All InRange cs → (t k : ℕ) → Waiting f cs t k → (grants_in f cs t ≡ []) ⊎ Memᴰ k sides
unfolding grants_in
waiting_side f w [] h t k W = inl refl
waiting_side f w (c ∷ cs) h t k W = go (is_round c) refl (waiting_side (outcome f c).floor (call_keeps f w c h.0).0 cs h.1 t k W.1)
  where
    go : (b : Bool) → is_round c ≡ b → (grants_in (outcome f c).floor cs t ≡ []) ⊎ Memᴰ k sides → (cond b (granted f t ∷ []) [] ++ grants_in (outcome f c).floor cs t ≡ []) ⊎ Memᴰ k sides
    go true r ih = inr (wants_side (view f) (well_sound f w).len t k (W.0 r))
    go false r ih = ih

abbrev SideOrNone : ℕ → Type 0
SideOrNone j = (j ≡ 0) ⊎ Memᴰ j sides

-- every grant is to one of four
four : (gs : List ℕ) → All SideOrNone gs → grant_count gs ≡ times 1 gs + times 2 gs + times 3 gs + times 4 gs
unfolding grant_count filter
four [] h = refl
four (x ∷ gs) h = go h.0 (four gs h.1)
  where
    go : SideOrNone x → grant_count gs ≡ times 1 gs + times 2 gs + times 3 gs + times 4 gs → grant_count (x ∷ gs) ≡ times 1 (x ∷ gs) + times 2 (x ∷ gs) + times 3 (x ∷ gs) + times 4 (x ∷ gs)
    go (inl e) ih = rw e (omega (arith, ih))
    go (inr m) ih =
        each_side (λ x. grant_count (x ∷ gs) ≡ times 1 (x ∷ gs) + times 2 (x ∷ gs) + times 3 (x ∷ gs) + times 4 (x ∷ gs))
        (omega (arith, ih)) (omega (arith, ih)) (omega (arith, ih)) (omega (arith, ih)) m

sides_in : (f : Floor) → well_formed f ≡ true → (cs : List Call) → All InRange cs → (t : ℕ) → All SideOrNone (grants_in f cs t)
unfolding grants_in
sides_in f w [] h t = tt
sides_in f w (c ∷ cs) h t = go (is_round c) (sides_in (outcome f c).floor (call_keeps f w c h.0).0 cs h.1 t)
  where
    go : (b : Bool) → All SideOrNone (grants_in (outcome f c).floor cs t) → All SideOrNone (cond b (granted f t ∷ []) [] ++ grants_in (outcome f c).floor cs t)
    go true ih = (granted_side f w t, ih)
    go false ih = ih

at_most_three : (k : ℕ) (gs : List ℕ) → All SideOrNone gs → Memᴰ k sides → Fair k gs → ¬ (Memᴰ k gs) → grant_count gs ≤ 3
at_most_three k gs h mk F n =
    let o = fair_once k gs F n in
    let a = o 1 (λ e. absurd (omega arith)) in
    let b = o 2 (λ e. absurd (omega arith)) in
    let c = o 3 (λ e. absurd (omega arith)) in
    let d = o 4 (λ e. absurd (omega arith)) in
    each_side (λ k. times k gs ≡ 0 → grant_count gs ≤ 3)
    (λ z. omega (arith, four gs h, a, b, c, d)) (λ z. omega (arith, four gs h, a, b, c, d)) (λ z. omega (arith, four gs h, a, b, c, d)) (λ z. omega (arith, four gs h, a, b, c, d))
    mk (never k gs n)

-- ---- the theorem
module _ (f : Floor) (w : well_formed f ≡ true) where
  after_stop : (t : ℕ) → (outcome f (stop t)).refusal ≡ 0 → (cs : List Call) → All InRange cs → rounds_in cs ≡ 0 → (k : ℕ) → wants (view (floor_after f (stop t ∷ cs))) t k ≡ false
  unfolding floor_after stop_tests stopped
  after_stop t e cs h r k =
      let A = (accepted f (stop_tests (view f) t) (running_pos {t = t} stops (view f)) (sym ((running_answers {t = t} stops).number f) ∙ e)).1 in
      let on = leb-false (total (view f).settings) t A.0 in
      let v : view (outcome f (stop t)).floor ≡ with_tile (view f) t (stopped (tile_of (view f) t)) = ap view ((running_answers {t = t} stops).floor f) ∙ (applied (running_form {t = t} stops) f (view f) w refl A).sees in
      let d : distance_of (view (outcome f (stop t)).floor) t ≡ 255 = ap (λ (m : Model). distance_of m t) v ∙ ap (λ (x : TileState). x.distance) (get_or-set_same (view f).tiles t (stopped (tile_of (view f) t)) no_tile_of (omega (arith, (well_sound f w).len))) in
      none_stays t k (outcome f (stop t)).floor (call_keeps f w (stop t) tt).0 (on_call f w t (stop t) tt on) d cs h r

  after_recall : (name t : ℕ) → (outcome f (recall name)).refusal ≡ 0 → t < total f.settings → bit (recall_set f name) t ≡ false → (cs : List Call) → All InRange cs → rounds_in cs ≡ 0 → (k : ℕ)
      → wants (view (floor_after f (recall name ∷ cs))) t k ≡ false
  unfolding floor_after recall_set
  after_recall name t e on b cs h r k =
      let A = (accepted f (name_held_tests (view f).layouts name) (name_held_pos name (view f)) (sym ((recall_answers name).number f) ∙ e)).1 in
      let v : view (outcome f (recall name)).floor ≡ recalled (view f) (set_of (view f).layouts name) = ap view ((recall_answers name).floor f) ∙ (applied (recall_form name) f (view f) w refl A).sees in
      let in-view : t < total (view f).settings = omega (arith, ap (λ (s : Settings). total s) (view_settings f)) in
      let d : distance_of (view (outcome f (recall name)).floor) t ≡ 255 = ap (λ (m : Model). distance_of m t) v ∙ recall_out (view f) (well_sound f w) (set_of (view f).layouts name) t in-view b in
      none_stays t k (outcome f (recall name)).floor (call_keeps f w (recall name) tt).0 (on_call f w t (recall name) tt in-view) d cs h r

  fair_list : (cs : List Call) → All InRange cs → (t k : ℕ) → Waiting f cs t k → Fair k (grants_in f cs t)
  fair_list cs h t k W j before between after z n e = fair_of t k j z n f w cs h W before between after e

  three_list : (cs : List Call) → All InRange cs → (t k : ℕ) → Waiting f cs t k → ¬ (Memᴰ k (grants_in f cs t)) → grant_count (grants_in f cs t) ≤ 3
  unfolding grant_count filter
  three_list cs h t k W n = go (waiting_side f w cs h t k W)
    where
      go : (grants_in f cs t ≡ []) ⊎ Memᴰ k sides → grant_count (grants_in f cs t) ≤ 3
      go (inl e) = rw e (omega arith)
      go (inr mk) = at_most_three k (grants_in f cs t) (sides_in f w cs h t) mk (fair_list cs h t k W) n

  bounded_bypass_here : BypassPromises f
  bounded_bypass_here = record { fair = fair_list; stop_ends = after_stop; recall_ends = after_recall; three = three_list; grants = grants_turn f w; turn_wants = turn_some f w }

pub bounded_bypass : BoundedBypass
bounded_bypass = bounded_bypass_here
