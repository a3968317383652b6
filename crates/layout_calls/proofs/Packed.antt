-- What the parts made of a well-formed floor's layouts and tiles is the floor of the call's value, packed.
use mathlib.Core.Path.{◌≡◌, refl, sym, ap, ◌∙◌}
use mathlib.Core.Bool.{Bool, true, false, cond, not}
use mathlib.Core.List.{List}
use Prim.Native.Nat.{ℕ, zero, suc, ◌≤◌, ◌<◌}
use native.Mathlib.Omega.{arith}
use native.Mathlib.Decide.{dec_le}
use lib.Dec.{ltb}
use borrow.Author.Tests.{lt-ltb, le-ltb, not-false}
use Rattle.laws.specs.Define.{tab, bit, refusal}
use Rattle.laws.proofs.Tests.{test_none}
use Rattle.laws.proofs.Tables.{tab_same}
use Rattle.floor.specs.declared.Tile.{Tile}
use Rattle.floor.specs.declared.Layout.{Layout}
use Rattle.floor.specs.declared.Floor.{Floor}
use Rattle.floor.specs.declared.Answer.{Answer}
use Rattle.floor.specs.declared.refusal.Refusal.{Refusal}
use Rattle.floor.specs.Numbers.{refusal_number}
use Rattle.floor.specs.Settings.{total}
use Rattle.floor.specs.Layouts.{name_ok, set_below, set_of, keep_in, forget_in}
use Rattle.floor.specs.Model.{TileState, no_tile_of, tile_of, runs, runs_of_of}
use Rattle.floor.specs.Memory.{head_of, state_of, view, head, used_layouts, layout_places, layouts_fit, pack, retiled, relaid}
use Rattle.floor.specs.Well.{well_formed}
use Rattle.floor.specs.Calls.{stopped, repaired, keep_tests, running_set, kept_under, keep_answer, name_held_tests, forgotten, forget_answer, recall_tile, recalled, recall_answer}
use Rattle.floor.proofs.Answers.{answer_malformed, answer_refused, answer_accepted}
use Rattle.floor.proofs.Rows.{fits_layouts, view_at}
use Rattle.floor.proofs.Pack.{well_sound, well_fits, well_few, well_head}
use Rattle.floor.proofs.SoundLayouts.{Rises, sound_layouts_of}
use Rattle.floor.proofs.Named.{pack_relaid, recalled_head, pack_recalled}
use Rattle.layout_parts.specs.InternalPlaces.{put_in, ran_in, recall_head, recall_at}
use Rattle.layout_parts.proofs.Places.{some_name, set_used, keep_used, forget_used}
use Rattle.floor.proofs.Refusing.{refusing}

-- ---- the set of what passes depends on what passes alone
set_same : (p q : ℕ → Bool) (n : ℕ) → ((t : ℕ) → t < n → p t ≡ q t) → set_below p n ≡ set_below q n
unfolding set_below
set_same p q zero h = refl
set_same p q (suc n) h = rw (h n (omega arith), set_same p q n (λ t l. h t (omega arith)))

-- ---- one tile's head after a recall
head_recalled : (set t : ℕ) (x : TileState) → recall_head set t (head x) ≡ head (recall_tile set t x)
unfolding recall_tile stopped repaired head
head_recalled set t x = go (bit set t) (runs x)
  where
    go : (b r : Bool) → cond b (cond r (head x) (head (repaired x))) (cond r (head (stopped x)) (head x)) ≡ head (cond b (cond r x (repaired x)) (cond r (stopped x) x))
    go true true = refl
    go true false = refl
    go false true = refl
    go false false = refl

-- ---- accepted, the name is one
keep_named : (l : List Layout) (name : ℕ) → refusal (keep_tests l name) ≡ 0 → name_ok name ≡ true
unfolding keep_tests
keep_named l name e = not-false (name_ok name) (test_none (not (name_ok name)) 44 _ (omega arith) e).0

name_held_named : (l : List Layout) (name : ℕ) → refusal (name_held_tests l name) ≡ 0 → name_ok name ≡ true
unfolding name_held_tests
name_held_named l name e = not-false (name_ok name) (test_none (not (name_ok name)) 44 _ (omega arith) e).0

module _ (f : Floor) (w : well_formed f ≡ true) where
  memory_fits : layouts_fit f.layouts ≡ true
  memory_fits = fits_layouts f (well_fits f w)

  names_rise : Rises (used_layouts f.layouts)
  unfolding view
  names_rise = (sound_layouts_of f.settings (used_layouts f.layouts) (well_sound f w).layouts_sound_lem).rise

  -- ---- the refusals
  keep_same : (name : ℕ) → refusal (keep_tests (used_layouts f.layouts) name) ≡ refusal (keep_tests (view f).layouts name)
  unfolding view
  keep_same name = refl

  name_held_same : (name : ℕ) → refusal (name_held_tests (used_layouts f.layouts) name) ≡ refusal (name_held_tests (view f).layouts name)
  unfolding view
  name_held_same name = refl

  -- ---- keeping
  ran_is : set_below (ran_in f.tiles) (total f.settings) ≡ running_set (view f)
  unfolding running_set view state_of
  ran_is = set_same (ran_in f.tiles) (runs_of_of (view f)) (total f.settings) (λ t l. sym (ap runs (view_at f t no_tile_of l)))

  kept_pack : (name set : ℕ) → name_ok name ≡ true → set ≡ set_below (ran_in f.tiles) (total f.settings) → (ls : List Layout) → ls ≡ put_in (record { name = name; set = set }) f.layouts
      → ◌≡◌ {A = Floor} (relaid f ls) (pack (kept_under (view f) name))
  unfolding kept_under view
  kept_pack name set ok e ls q =
      let x : Layout = record { name = name; set = running_set (view f) } in
      ap (relaid f) (q ∙ ap (λ (s : ℕ). put_in (record { name = name; set = s }) f.layouts) (e ∙ ran_is) ∙ keep_used f.layouts memory_fits names_rise x ok)
      ∙ sym (pack_relaid f w (keep_in x (used_layouts f.layouts)))

  -- ---- forgetting
  forgotten_pack : (name : ℕ) → name_ok name ≡ true → (ls : List Layout) → ls ≡ layout_places 8 (forget_in name f.layouts) → ◌≡◌ {A = Floor} (relaid f ls) (pack (forgotten (view f) name))
  unfolding forgotten view
  forgotten_pack name ok ls q = ap (relaid f) (q ∙ forget_used f.layouts memory_fits name ok) ∙ sym (pack_relaid f w (forget_in name (used_layouts f.layouts)))

  -- ---- recalling
  recall_same : (set t : ℕ) → recall_at f.settings f.tiles set t ≡ recalled_head f set t
  unfolding recall_at recalled_head
  recall_same set t = go (dec_le (suc t) (total f.settings))
    where
      go : Dec (t < total f.settings) → cond (ltb t (total f.settings)) (recall_head set t (head_of f t)) (head_of f t) ≡ cond (ltb t (total f.settings)) (head (recall_tile set t (tile_of (view f) t))) (head_of f t)
      go (yes l) = rw (lt-ltb t (total f.settings) l) (ap (recall_head set t) (sym (well_head f t w l) ∙ ap head (sym (view_at f t no_tile_of l))) ∙ head_recalled set t (tile_of (view f) t))
      go (no l) = rw (le-ltb t (total f.settings) (omega arith))

  recalled_pack : (name set : ℕ) → name_ok name ≡ true → set ≡ set_of f.layouts name → (ts : List Tile) → ts ≡ tab 64 (recall_at f.settings f.tiles set)
      → ◌≡◌ {A = Floor} (retiled f ts) (pack (recalled (view f) (set_of (view f).layouts name)))
  unfolding view
  recalled_pack name set ok e ts q =
      let s : set ≡ set_of (used_layouts f.layouts) name = e ∙ set_used f.layouts memory_fits name (some_name name ok) in
      ap (retiled f) (q ∙ tab_same 64 (recall_at f.settings f.tiles set) (recalled_head f set) (λ t l. recall_same set t))
      ∙ pack_recalled f w set ∙ ap (λ (k : ℕ). pack (recalled (view f) k)) s

-- ---- the answers, by what the code read: whether the floor is well formed, the name's number, the refusal
module _ (f : Floor) (w : true ≡ well_formed f) where
  pub places_fit : layouts_fit f.layouts ≡ true
  places_fit = memory_fits f (sym w)

  pub tiles_few : total f.settings ≤ 64
  tiles_few = well_few f (sym w)

module _ (f : Floor) (name : ℕ) where
  pub keep_malformed : false ≡ well_formed f → ◌≡◌ {A = Answer} (record { refusal = 30; floor = f }) (keep_answer f name)
  unfolding keep_answer
  keep_malformed w = answer_malformed f (keep_tests (view f).layouts name) (kept_under (view f) name) (sym w)

  pub forget_malformed : false ≡ well_formed f → ◌≡◌ {A = Answer} (record { refusal = 30; floor = f }) (forget_answer f name)
  unfolding forget_answer
  forget_malformed w = answer_malformed f (name_held_tests (view f).layouts name) (forgotten (view f) name) (sym w)

  pub recall_malformed : false ≡ well_formed f → ◌≡◌ {A = Answer} (record { refusal = 30; floor = f }) (recall_answer f name)
  unfolding recall_answer
  recall_malformed w = answer_malformed f (name_held_tests (view f).layouts name) (recalled (view f) (set_of (view f).layouts name)) (sym w)

  module _ (w : true ≡ well_formed f) (n : ℕ) (en : n ≡ name) where
    pub keep_refused : (why : Refusal) → refusal_number why ≡ refusal (keep_tests (used_layouts f.layouts) n) → ◌≡◌ {A = Answer} (record { refusal = refusal_number why; floor = f }) (keep_answer f name)
    unfolding keep_answer
    keep_refused why e = answer_refused f (keep_tests (view f).layouts n) (kept_under (view f) n) (sym w) _ (e ∙ keep_same f (sym w) n) (refusing why) ∙ ap (keep_answer f) en

    pub forget_refused : (why : Refusal) → refusal_number why ≡ refusal (name_held_tests (used_layouts f.layouts) n) → ◌≡◌ {A = Answer} (record { refusal = refusal_number why; floor = f }) (forget_answer f name)
    unfolding forget_answer
    forget_refused why e = answer_refused f (name_held_tests (view f).layouts n) (forgotten (view f) n) (sym w) _ (e ∙ name_held_same f (sym w) n) (refusing why) ∙ ap (forget_answer f) en

    pub recall_refused : (why : Refusal) → refusal_number why ≡ refusal (name_held_tests (used_layouts f.layouts) n) → ◌≡◌ {A = Answer} (record { refusal = refusal_number why; floor = f }) (recall_answer f name)
    unfolding recall_answer
    recall_refused why e = answer_refused f (name_held_tests (view f).layouts n) (recalled (view f) (set_of (view f).layouts n)) (sym w) _ (e ∙ name_held_same f (sym w) n) (refusing why) ∙ ap (recall_answer f) en

    pub keep_accepted : 0 ≡ refusal (keep_tests (used_layouts f.layouts) n) → (set : ℕ) → set ≡ set_below (ran_in f.tiles) (total f.settings) → (ls : List Layout) → ls ≡ put_in (record { name = n; set = set }) f.layouts
        → ◌≡◌ {A = Answer} (record { refusal = 0; floor = relaid f ls }) (keep_answer f name)
    unfolding keep_answer
    keep_accepted e set s ls l =
        answer_accepted f (keep_tests (view f).layouts n) (kept_under (view f) n) (sym w) 0 (e ∙ keep_same f (sym w) n) refl _
        (kept_pack f (sym w) n set (keep_named (used_layouts f.layouts) n (sym e)) s ls l)
        ∙ ap (keep_answer f) en

    pub forget_accepted : 0 ≡ refusal (name_held_tests (used_layouts f.layouts) n) → (ls : List Layout) → ls ≡ layout_places 8 (forget_in n f.layouts)
        → ◌≡◌ {A = Answer} (record { refusal = 0; floor = relaid f ls }) (forget_answer f name)
    unfolding forget_answer
    forget_accepted e ls l =
        answer_accepted f (name_held_tests (view f).layouts n) (forgotten (view f) n) (sym w) 0 (e ∙ name_held_same f (sym w) n) refl _
        (forgotten_pack f (sym w) n (name_held_named (used_layouts f.layouts) n (sym e)) ls l)
        ∙ ap (forget_answer f) en

    pub recall_accepted : 0 ≡ refusal (name_held_tests (used_layouts f.layouts) n) → (set : ℕ) → set ≡ set_of f.layouts n → (ts : List Tile) → ts ≡ tab 64 (recall_at f.settings f.tiles set)
        → ◌≡◌ {A = Answer} (record { refusal = 0; floor = retiled f ts }) (recall_answer f name)
    unfolding recall_answer
    recall_accepted e set s ts l =
        answer_accepted f (name_held_tests (view f).layouts n) (recalled (view f) (set_of (view f).layouts n)) (sym w) 0 (e ∙ name_held_same f (sym w) n) refl _
        (recalled_pack f (sym w) n set (name_held_named (used_layouts f.layouts) n (sym e)) s ts l)
        ∙ ap (recall_answer f) en
