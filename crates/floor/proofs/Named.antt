-- Named layouts: what holds of keeping, forgetting and recalling, in memory too. The statement is specs/Named.
use mathlib.Core.Path.{◌≡◌, refl, sym, ap, ◌∙◌, subst}
use mathlib.Core.Logic.{◌⊎◌, inl, inr, ◌↔◌, ◌≢◌}
use mathlib.Core.Bool.{Bool, true, false, cond, not, ◌&&◌, ◌||◌, true≢false, false≢true}
use mathlib.Core.List.{List, [], ◌∷◌, ◌++◌, nil≢cons}
use Prim.Native.Nat.{ℕ, zero, suc, ◌+◌, ◌≤◌, ◌<◌}
use native.Mathlib.Omega.{arith}
use native.Mathlib.Decide.{dec_le}
use lib.Dec.{ltb, eqb}
use lib.ListN.{length, get_or, replicate, get_or-eq_default}
use borrow.Author.Tests.{eqb-true, eqb-false, eq-eqb, ne_eqb, lt-ltb, le-ltb, ltb-true, not-true, not-false}
use Rattle.laws.specs.Define.{tab, any_of, all_below, filter, bit}
use Rattle.laws.specs.Every.{All}
use Rattle.laws.proofs.Lists.{all_imp}
use Rattle.laws.proofs.Tests.{by_test, test_none}
use Rattle.laws.proofs.Tables.{tab_length, tab_at, tab_off, below_at, below_of}
use Rattle.floor.specs.declared.Settings.{Settings}
use Rattle.floor.specs.declared.Booking.{Booking}
use Rattle.floor.specs.declared.Tile.{Tile}
use Rattle.floor.specs.declared.Layout.{Layout}
use Rattle.floor.specs.declared.Floor.{Floor}
use Rattle.floor.specs.Settings.{total, settings_refusal}
use Rattle.floor.specs.Layouts.{name_held, set_of, keep_in, forget_in}
use Rattle.floor.specs.Model.{TileState, Model, no_tile_of, tile_of, runs, runs_of_of, with_layouts}
use Rattle.floor.specs.Memory.{zero_tile, zero_layout, zero_floor, head_of, state_of, view, head, layout_places, build, pack, retiled, relaid}
use Rattle.floor.specs.Well.{well_formed}
use Rattle.floor.specs.Route.{route}
use Rattle.floor.specs.Signal.{signal}
use Rattle.floor.specs.Move.{move}
use Rattle.floor.specs.Calls.{refusal_of, answer, fresh_floor, fresh_answer, book_tests, booked, book_answer, stop_tests, stopped, stop_answer, repair_tests, repaired, repair_answer, keep_tests, running_set, kept_under, keep_answer, name_held_tests, forgotten, forget_answer, recall_tile, recalled, recall_answer, after_round, round_answer}
use Rattle.floor.specs.Anywhere.{anywhere_tests, placed_at, anywhere_answer}
use Rattle.floor.specs.Bookings.{single, floor_singly, too_long_of, list_answer}
use Rattle.floor.specs.Demand3.{Call, book, anywhere, stop, repair, round, forget, recall, list, outcome, floor_after, recall_set, recall_makes, runs_by, changes_running, disturbs}
use Rattle.floor.specs.Named.{needed, recall_calls, AllAccepted, Recalling, SameButLayouts, Keeping, Forgetting, changes_layouts, NamedLayouts}
use Rattle.floor.proofs.Rows.{fits_layouts, layouts_back, view_at, view_settings}
use Rattle.floor.proofs.Pack.{pack_heads, well_sound, well_fits, well_few, well_lengths, well_head}
use Rattle.floor.proofs.FreshAndWidths.{pack_view_well}
use Rattle.floor.proofs.Calls.{Accepted}
use Rattle.floor.proofs.SoundLayouts.{Rises, sound_layouts_of, below_bit}
use Rattle.floor.proofs.Lists.{call_runs}
use Rattle.floor.proofs.Recalling.{recall_made, recall_counts}
use Rattle.floor.proofs.GuardedCalls.{accepted, applied, keep_pos, name_held_pos, keep_form, keep_answers, forget_form, forget_answers, recall_form, recall_answers}

-- ---- in memory: other layouts
packed_relaid : (m : Model) (l : List Layout) → pack (with_layouts m l) ≡ relaid (pack m) (layout_places 8 l)
unfolding pack build
packed_relaid m l = refl

pub pack_relaid : (f : Floor) → well_formed f ≡ true → (l : List Layout) → pack (with_layouts (view f) l) ≡ relaid f (layout_places 8 l)
pack_relaid f w l = packed_relaid (view f) l ∙ ap (λ (x : Floor). relaid x (layout_places 8 l)) (pack_view_well f w)

-- the same layouts
pub pack_layouts : (f : Floor) → well_formed f ≡ true → (n : Model) → n.layouts ≡ (view f).layouts → (pack n).layouts ≡ f.layouts
unfolding pack build view
pack_layouts f w n e = ap (layout_places 8) e ∙ layouts_back f.layouts (fits_layouts f (well_fits f w))

-- ---- in memory: a recall
recall_members : (set t : ℕ) (x : TileState) → (recall_tile set t x).members ≡ x.members
unfolding recall_tile stopped repaired
recall_members set t x = go (bit set t) (runs x)
  where
    go : (b r : Bool) → (cond b (cond r x (repaired x)) (cond r (stopped x) x)).members ≡ x.members
    go true true = refl
    go true false = refl
    go false true = refl
    go false false = refl

-- the head of tile t after it
unfoldable pub recalled_head : Floor → ℕ → ℕ → Tile
recalled_head f set t = cond (ltb t (total f.settings)) (head (recall_tile set t (tile_of (view f) t))) (head_of f t)

pub pack_recalled : (f : Floor) → well_formed f ≡ true → (set : ℕ) → retiled f (tab 64 (recalled_head f set)) ≡ pack (recalled (view f) set)
unfolding recalled recalled_head view
pack_recalled f w set = pack_heads f (well_few f w) (well_fits f w) x (tab 64 h) (tab_length 64 h) same on off
  where
    C : ℕ
    C = total f.settings

    x : ℕ → TileState
    x t = recall_tile set t (tile_of (view f) t)

    h : ℕ → Tile
    h = recalled_head f set

    same : (t : ℕ) → t < C → (x t).members ≡ (state_of f t).members
    same t l = recall_members set t (tile_of (view f) t) ∙ ap (λ (y : TileState). y.members) (view_at f t no_tile_of l)

    on : (t : ℕ) → t < 64 → t < C → get_or (tab 64 h) t zero_tile ≡ head (x t)
    on t k l = tab_at 64 h t zero_tile k ∙ rw (lt-ltb t C l)

    off : (t : ℕ) → t < 64 → C ≤ t → get_or (tab 64 h) t zero_tile ≡ head_of f t
    off t k l = tab_at 64 h t zero_tile k ∙ rw (le-ltb t C l)

-- a tile that it does not stop or repair
module _ (f : Floor) (w : well_formed f ≡ true) (set : ℕ) where
  tile_stays : (t : ℕ) → cond (bit set t) (not (runs_of_of (view f) t)) (runs_of_of (view f) t) ≡ false → recall_tile set t (tile_of (view f) t) ≡ tile_of (view f) t
  unfolding recall_tile
  tile_stays t = go (bit set t) (runs_of_of (view f) t)
    where
      x : TileState
      x = tile_of (view f) t

      go : (b r : Bool) → cond b (not r) r ≡ false → cond b (cond r x (repaired x)) (cond r (stopped x) x) ≡ x
      go true true e = refl
      go true false e = absurd (true≢false e)
      go false true e = absurd (true≢false e)
      go false false e = refl

  head_stays : (t : ℕ) → (ltb t (total f.settings) && cond (bit set t) (not (runs_of_of (view f) t)) (runs_of_of (view f) t)) ≡ false → get_or (tab 64 (recalled_head f set)) t zero_tile ≡ head_of f t
  unfolding recalled_head
  head_stays t e = go (dec_le (suc t) 64) (by_test (ltb t (total f.settings)))
    where
      go : Dec (t < 64) → (ltb t (total f.settings) ≡ true) ⊎ (ltb t (total f.settings) ≡ false) → get_or (tab 64 (recalled_head f set)) t zero_tile ≡ head_of f t
      go (no k) b = tab_off 64 (recalled_head f set) t zero_tile (omega arith) ∙ sym (get_or-eq_default f.tiles zero_tile (omega (arith, (well_lengths f w).0)))
      go (yes k) (inr b) = tab_at 64 (recalled_head f set) t zero_tile k ∙ rw b
      go (yes k) (inl b) =
          let l : t < total f.settings = ltb-true t (total f.settings) b in
          tab_at 64 (recalled_head f set) t zero_tile k ∙ rw b (ap head (tile_stays t (rw b at e) ∙ view_at f t no_tile_of l) ∙ well_head f t w l)

-- ---- what a recall makes
module _ (f : Floor) (name : ℕ) where
  abbrev one : ℕ → List Call
  one t = cond (bit (recall_set f name) t) (cond (runs_of_of (view f) t) [] (repair t ∷ [])) (cond (runs_of_of (view f) t) (stop t ∷ []) [])

  none_one : (t : ℕ) → t < total f.settings → recall_makes f name t ≡ false ↔ one t ≡ []
  unfolding recall_makes
  none_one t l = rw (lt-ltb t (total f.settings) l) (go (bit (recall_set f name) t) (runs_of_of (view f) t))
    where
      go : (b r : Bool) → cond b (not r) r ≡ false ↔ cond b (cond r [] (repair t ∷ [])) (cond r (stop t ∷ []) []) ≡ []
      go true true = (λ _. refl, λ _. refl)
      go true false = (λ e. absurd (true≢false e), λ e. absurd (nil≢cons (sym e)))
      go false true = (λ e. absurd (true≢false e), λ e. absurd (nil≢cons (sym e)))
      go false false = (λ _. refl, λ _. refl)

  append_none : (l k : List Call) → l ++ k ≡ [] → (l ≡ []) × (k ≡ [])
  append_none [] k e = (refl, e)
  append_none (c ∷ l) k e = absurd (nil≢cons (sym e))

  none_into : (n t : ℕ) → t + n ≤ total f.settings → ((u : ℕ) → u < total f.settings → recall_makes f name u ≡ false) → needed f (recall_set f name) t n ≡ []
  unfolding needed
  none_into zero t h q = refl
  none_into (suc n) t h q = rw ((none_one t (omega arith)).0 (q t (omega arith)), none_into n (suc t) (omega arith) q)

  none_out : (n t : ℕ) → t + n ≤ total f.settings → needed f (recall_set f name) t n ≡ [] → (u : ℕ) → t ≤ u → u < t + n → recall_makes f name u ≡ false
  unfolding needed
  none_out zero t h e u a b = absurd (omega arith)
  none_out (suc n) t h e u a b =
      let s = append_none (one t) (needed f (recall_set f name) (suc t) n) e in
      go (dec_le (suc t) u) (λ c. none_out n (suc t) (omega arith) s.1 u c (omega arith))
    where
      go : Dec (suc t ≤ u) → (suc t ≤ u → recall_makes f name u ≡ false) → recall_makes f name u ≡ false
      go (yes c) ih = ih c
      go (no c) ih =
          let q : t ≡ u = omega arith in
          subst (λ k. recall_makes f name k ≡ false) q ((none_one t (omega arith)).1 (append_none (one t) (needed f (recall_set f name) (suc t) n) e).0)

  idle : all_below (λ t. not (recall_makes f name t)) (total f.settings) ≡ true ↔ recall_calls f name ≡ []
  unfolding recall_calls
  idle =
      let C = total f.settings in (
        λ h. none_into C 0 (omega arith) (λ u l. not-true (recall_makes f name u) (below_at (λ t. not (recall_makes f name t)) C h u l)),
        λ e. below_of (λ t. not (recall_makes f name t)) C (λ t l. ap not (none_out C 0 (omega arith) e t (omega arith) (omega arith))),
      )

  ends_list : (outcome f (recall name)).refusal ≡ 0 → disturbs f (recall name) ≡ false ↔ recall_calls f name ≡ []
  unfolding disturbs changes_running
  ends_list e =
      let all = all_below (λ t. not (recall_makes f name t)) (total f.settings) in
      rw e (λ h. idle.0 (not-false all h), λ q. ap not (idle.1 q))

-- how a tile runs after it
set_runs : (b r : Bool) → cond (cond b (not r) r) b r ≡ b
set_runs true true = refl
set_runs true false = refl
set_runs false true = refl
set_runs false false = refl

recall_sets : (f : Floor) (name t : ℕ) → (outcome f (recall name)).refusal ≡ 0 → t < total f.settings → runs_by f (recall name) t (runs_of_of (view f) t) ≡ bit (recall_set f name) t
unfolding runs_by recall_makes
recall_sets f name t e l = rw (e, lt-ltb t (total f.settings) l) (set_runs (bit (recall_set f name) t) (runs_of_of (view f) t))

recall_stays : (f : Floor) → well_formed f ≡ true → (name t : ℕ) → recall_makes f name t ≡ false → head_of (retiled f (tab 64 (recalled_head f (recall_set f name)))) t ≡ head_of f t
unfolding recall_makes
recall_stays f w name t q = head_stays f w (recall_set f name) t q

recall_is : (f : Floor) (name : ℕ) → (outcome f (recall name)).refusal ≡ 0 → (well_formed f ≡ true) × ((outcome f (recall name)).floor ≡ retiled f (tab 64 (recalled_head f (recall_set f name))))
unfolding recall_set
recall_is f name e =
    let A = accepted f (name_held_tests (view f).layouts name) (name_held_pos name (view f)) (sym ((recall_answers name).number f) ∙ e) in
    (A.0, (recall_answers name).floor f ∙ (applied (recall_form name) f (view f) A.0 refl A.1).is ∙ sym (pack_recalled f A.0 (set_of (view f).layouts name)))

recalls : (f : Floor) (name : ℕ) → (outcome f (recall name)).refusal ≡ 0 → Recalling f name
recalls f name e = record {
  after = retiled f (tab 64 (recalled_head f (recall_set f name)));
  is_after = sym is;
  made = M.0 ∙ is;
  none_refused = M.1;
  runs = λ t l. ap (λ (g : Floor). runs_of_of (view g) t) (sym is) ∙ call_runs f w (recall name) tt t ∙ recall_sets f name t e l;
  untouched = recall_stays f w name;
  same_canisters = refl;
  same_counters = refl;
  same_settings = refl;
  counts = recall_counts f name e M.1;
  ends = ends_list f name e;
}
  where
    w : well_formed f ≡ true
    w = (recall_is f name e).0

    is : (outcome f (recall name)).floor ≡ retiled f (tab 64 (recalled_head f (recall_set f name)))
    is = (recall_is f name e).1

    M : (floor_after f (recall_calls f name) ≡ (outcome f (recall name)).floor) × AllAccepted f (recall_calls f name)
    M = recall_made f w name e

-- ---- what is held after keeping
by_names : (x y o : ℕ) → eqb x y ≡ true → eqb x o ≡ eqb y o
by_names x y o e = ap (λ (n : ℕ). eqb n o) (eqb-true x y e)

not_both_names : (x y o : ℕ) → eqb x y ≡ false → eqb x o ≡ true → eqb y o ≡ false
not_both_names x y o e q = ne_eqb y o (λ p. eqb-false x y e (eqb-true x o q ∙ sym p))

or_swap : (a b c : Bool) → (a || (b || c)) ≡ (b || (a || c))
or_swap true true c = refl
or_swap true false c = refl
or_swap false true c = refl
or_swap false false c = refl

or_again : (a c : Bool) → (a || c) ≡ (a || (a || c))
or_again true c = refl
or_again false c = refl

keep_name_held : (x : Layout) (l : List Layout) (o : ℕ) → name_held (keep_in x l) o ≡ (eqb x.name o || name_held l o)
unfolding keep_in name_held any_of
keep_name_held x [] o = refl
keep_name_held x (y ∷ l) o = go (by_test (eqb x.name y.name)) (ltb x.name y.name) (keep_name_held x l o)
  where
    go : (eqb x.name y.name ≡ true) ⊎ (eqb x.name y.name ≡ false) → (b : Bool) → name_held (keep_in x l) o ≡ (eqb x.name o || name_held l o)
        → name_held (cond (eqb x.name y.name) (x ∷ l) (cond b (x ∷ y ∷ l) (y ∷ keep_in x l))) o ≡ (eqb x.name o || (eqb y.name o || name_held l o))
    go (inl e) b ih = rw (e, sym (by_names x.name y.name o e)) (or_again (eqb x.name o) (name_held l o))
    go (inr e) true ih = rw e
    go (inr e) false ih = rw (e, ih) (or_swap (eqb y.name o) (eqb x.name o) (name_held l o))

keep_set : (x : Layout) (l : List Layout) (o : ℕ) → set_of (keep_in x l) o ≡ cond (eqb x.name o) x.set (set_of l o)
unfolding keep_in set_of
keep_set x [] o = refl
keep_set x (y ∷ l) o = go (by_test (eqb x.name y.name)) (ltb x.name y.name) (by_test (eqb x.name o)) (keep_set x l o)
  where
    go : (eqb x.name y.name ≡ true) ⊎ (eqb x.name y.name ≡ false) → (b : Bool) → (eqb x.name o ≡ true) ⊎ (eqb x.name o ≡ false) → set_of (keep_in x l) o ≡ cond (eqb x.name o) x.set (set_of l o)
        → set_of (cond (eqb x.name y.name) (x ∷ l) (cond b (x ∷ y ∷ l) (y ∷ keep_in x l))) o ≡ cond (eqb x.name o) x.set (cond (eqb y.name o) y.set (set_of l o))
    go (inl e) b (inl q) ih = rw (e, q)
    go (inl e) b (inr q) ih = rw (e, q, sym (by_names x.name y.name o e) ∙ q)
    go (inr e) true q ih = rw e
    go (inr e) false (inl q) ih = rw (e, not_both_names x.name y.name o e q, ih, q)
    go (inr e) false (inr q) ih = rw (e, ih, q)

kept_ran : (m : Model) (t : ℕ) → t < total m.settings → bit (running_set m) t ≡ runs_of_of m t
unfolding running_set
kept_ran m t l = below_bit (runs_of_of m) (total m.settings) t ∙ rw (lt-ltb t (total m.settings) l)

keeps : (f : Floor) (name : ℕ) → (outcome f (Call.keep name)).refusal ≡ 0 → Keeping f name
unfolding kept_under
keeps f name e = record {
  after = (outcome f (Call.keep name)).floor;
  is_after = refl;
  ran = λ t l. ap (λ (s : ℕ). bit s t) (sets name ∙ rw (eq-eqb name name refl)) ∙ kept_ran (view f) t (omega (arith, ap total (view_settings f)));
  names = λ o. ap (λ (m : Model). name_held m.layouts o) v ∙ keep_name_held (record { name = name; set = running_set (view f) }) (view f).layouts o;
  sets = sets;
}
  where
    A : (well_formed f ≡ true) × Accepted (keep_tests (view f).layouts name)
    A = accepted f (keep_tests (view f).layouts name) (keep_pos name (view f)) (sym ((keep_answers name).number f) ∙ e)

    v : view (outcome f (Call.keep name)).floor ≡ kept_under (view f) name
    v = ap view ((keep_answers name).floor f) ∙ (applied (keep_form name) f (view f) A.0 refl A.1).sees

    sets : (o : ℕ) → set_of (view (outcome f (Call.keep name)).floor).layouts o ≡ cond (eqb name o) (running_set (view f)) (set_of (view f).layouts o)
    sets o = ap (λ (m : Model). set_of m.layouts o) v ∙ keep_set (record { name = name; set = running_set (view f) }) (view f).layouts o

-- ---- what is held after forgetting
forget_name_held : (name : ℕ) (l : List Layout) (o : ℕ) → name_held (forget_in name l) o ≡ (not (eqb name o) && name_held l o)
unfolding forget_in filter name_held any_of
forget_name_held name [] o = none (eqb name o)
  where
    none : (b : Bool) → false ≡ (not b && false)
    none true = refl
    none false = refl
forget_name_held name (y ∷ l) o = go (by_test (eqb y.name name)) (by_test (eqb name o)) (forget_name_held name l o)
  where
    go : (eqb y.name name ≡ true) ⊎ (eqb y.name name ≡ false) → (eqb name o ≡ true) ⊎ (eqb name o ≡ false) → name_held (forget_in name l) o ≡ (not (eqb name o) && name_held l o)
        → name_held (cond (not (eqb y.name name)) (y ∷ forget_in name l) (forget_in name l)) o ≡ (not (eqb name o) && (eqb y.name o || name_held l o))
    go (inl e) (inl q) ih = rw (e, ih, q)
    go (inl e) (inr q) ih = rw (e, ih, q, by_names y.name name o e ∙ q)
    go (inr e) (inl q) ih = rw (e, ih, q, ne_eqb y.name o (λ p. eqb-false y.name name e (p ∙ sym (eqb-true name o q))))
    go (inr e) (inr q) ih = rw (e, ih, q)

forget_set : (name : ℕ) (l : List Layout) (o : ℕ) → name ≢ o → set_of (forget_in name l) o ≡ set_of l o
unfolding forget_in filter set_of
forget_set name [] o n = refl
forget_set name (y ∷ l) o n = go (by_test (eqb y.name name)) (forget_set name l o n)
  where
    go : (eqb y.name name ≡ true) ⊎ (eqb y.name name ≡ false) → set_of (forget_in name l) o ≡ set_of l o
        → set_of (cond (not (eqb y.name name)) (y ∷ forget_in name l) (forget_in name l)) o ≡ cond (eqb y.name o) y.set (set_of l o)
    go (inl e) ih = rw (e, ih, by_names y.name name o e ∙ ne_eqb name o n)
    go (inr e) ih = rw (e, ih)

-- names above it stay
forget_none : (name : ℕ) (l : List Layout) → All (λ x. name < x.name) l → forget_in name l ≡ l
unfolding forget_in filter
forget_none name [] h = refl
forget_none name (y ∷ l) h = rw (ne_eqb y.name name (λ e. absurd (omega (arith, h.0)))) (ap (λ (k : List Layout). y ∷ k) (forget_none name l h.1))

forget_frees : (name : ℕ) (l : List Layout) → Rises l → name_held l name ≡ true → length l ≡ suc (length (forget_in name l))
unfolding forget_in filter name_held any_of
forget_frees name [] h e = absurd (false≢true e)
forget_frees name (y ∷ l) h e = go (by_test (eqb y.name name)) (forget_frees name l h.1)
  where
    go : (eqb y.name name ≡ true) ⊎ (eqb y.name name ≡ false) → (name_held l name ≡ true → length l ≡ suc (length (forget_in name l)))
        → suc (length l) ≡ suc (length (cond (not (eqb y.name name)) (y ∷ forget_in name l) (forget_in name l)))
    go (inl q) ih = rw q (ap (λ (k : List Layout). suc (length k)) (sym (forget_none name l (all_imp (λ w. y.name < w.name) (λ w. name < w.name) l (λ w r. omega (arith, eqb-true y.name name q)) h.0))))
    go (inr q) ih = rw q (ap suc (ih (rw q at e)))

forgets : (f : Floor) (name : ℕ) → (outcome f (forget name)).refusal ≡ 0 → Forgetting f name
unfolding forgotten name_held_tests
forgets f name e = record {
  after = (outcome f (forget name)).floor;
  is_after = refl;
  names = λ o. ap (λ (m : Model). name_held m.layouts o) v ∙ forget_name_held name (view f).layouts o;
  sets = λ o n. ap (λ (m : Model). set_of m.layouts o) v ∙ forget_set name (view f).layouts o n;
  frees = forget_frees name (view f).layouts (sound_layouts_of (view f).settings (view f).layouts (well_sound f A.0).layouts_sound_lem).rise (not-false (name_held (view f).layouts name) A.1.1.0)
      ∙ sym (ap (λ (m : Model). suc (length m.layouts)) v);
}
  where
    A : (well_formed f ≡ true) × Accepted (name_held_tests (view f).layouts name)
    A = accepted f (name_held_tests (view f).layouts name) (name_held_pos name (view f)) (sym ((forget_answers name).number f) ∙ e)

    v : view (outcome f (forget name)).floor ≡ forgotten (view f) name
    v = ap view ((forget_answers name).floor f) ∙ (applied (forget_form name) f (view f) A.0 refl A.1).sees

-- ---- what each call leaves, accepted or refused
-- n: the floor as a value that it makes
by_call : (f : Floor) (tests : List (Bool × ℕ)) (n : Model) (P : Floor → Type 0) → (well_formed f ≡ true → P (pack n)) → P f → P (cond (eqb (refusal_of f tests) 0) (pack n) f)
unfolding refusal_of
by_call f tests n P yes' no' = go (eqb (refusal_of f tests) 0) refl
  where
    go : (b : Bool) → eqb (refusal_of f tests) 0 ≡ b → P (cond b (pack n) f)
    go true e = yes' (not-false (well_formed f) (test_none (not (well_formed f)) 30 tests (omega arith) (eqb-true (refusal_of f tests) 0 e)).0)
    go false e = no'

layouts_apart : (f : Floor) → well_formed f ≡ true → (l : List Layout) → SameButLayouts f (pack (with_layouts (view f) l))
layouts_apart f w l = subst (SameButLayouts f) (sym (pack_relaid f w l)) (record { same_settings = refl; same_counters = refl; same_tiles = refl; same_canisters = refl })

unchanged : (f : Floor) → SameButLayouts f f
unchanged f = record { same_settings = refl; same_counters = refl; same_tiles = refl; same_canisters = refl }

keep_apart : (f : Floor) (name : ℕ) → SameButLayouts f (outcome f (Call.keep name)).floor
unfolding outcome keep_answer answer kept_under
keep_apart f name = by_call f (keep_tests (view f).layouts name) (kept_under (view f) name) (SameButLayouts f) (λ w. layouts_apart f w (kept_under (view f) name).layouts) (unchanged f)

forget_apart : (f : Floor) (name : ℕ) → SameButLayouts f (outcome f (forget name)).floor
unfolding outcome forget_answer answer forgotten
forget_apart f name = by_call f (name_held_tests (view f).layouts name) (forgotten (view f) name) (SameButLayouts f) (λ w. layouts_apart f w (forgotten (view f) name).layouts) (unchanged f)

stay : (f : Floor) (tests : List (Bool × ℕ)) (n : Model) → n.layouts ≡ (view f).layouts → (cond (eqb (refusal_of f tests) 0) (pack n) f).layouts ≡ f.layouts
stay f tests n e = by_call f tests n (λ g. g.layouts ≡ f.layouts) (λ w. pack_layouts f w n e) refl

booking_stays : (f : Floor) (b : Booking) → (single f b).floor.layouts ≡ f.layouts
unfolding book_answer answer booked
booking_stays f b = stay f (book_tests (view f) b.tile b.canister) (booked (view f) b.tile b.canister) refl

bookings_stay : (f : Floor) (l : List Booking) → (floor_singly f l).layouts ≡ f.layouts
unfolding floor_singly
bookings_stay f [] = refl
bookings_stay f (b ∷ l) = bookings_stay (single f b).floor l ∙ booking_stays f b

others_stay : (f : Floor) (c : Call) → changes_layouts c ≡ false → (outcome f c).floor.layouts ≡ f.layouts
unfolding outcome book_answer anywhere_answer stop_answer repair_answer recall_answer round_answer list_answer answer booked recalled after_round route signal move
others_stay f (book t c) e = stay f (book_tests (view f) t c) (booked (view f) t c) refl
others_stay f (anywhere t number) e = stay f (anywhere_tests (view f) t number) (booked (view f) t (placed_at (view f) t number)) refl
others_stay f (stop t) e = stay f (stop_tests (view f) t) _ refl
others_stay f (repair t) e = stay f (repair_tests (view f) t) _ refl
others_stay f round e = stay f [] (after_round (view f)) refl
others_stay f (Call.keep name) e = absurd (true≢false e)
others_stay f (forget name) e = absurd (true≢false e)
others_stay f (recall name) e = stay f (name_held_tests (view f).layouts name) (recalled (view f) (set_of (view f).layouts name)) refl
others_stay f (list l) e = go (too_long_of (length l))
  where
    go : (x : Bool) → (cond x f (floor_singly f l)).layouts ≡ f.layouts
    go true = refl
    go false = bookings_stay f l

fresh_none : (s : Settings) → (fresh_answer s).floor.layouts ≡ replicate 8 zero_layout
unfolding fresh_answer fresh_floor zero_floor pack build layout_places
fresh_none s = go (eqb (settings_refusal s) 0)
  where
    go : (b : Bool) → (cond b (pack (fresh_floor s)) zero_floor).layouts ≡ replicate 8 zero_layout
    go true = refl
    go false = refl

pub named_layouts : NamedLayouts
named_layouts = (λ f. record { recalling = recalls f; keeping = keeps f; forgetting = forgets f; keep_leaves = keep_apart f; forget_leaves = forget_apart f; layouts_stay = others_stay f }, fresh_none)
