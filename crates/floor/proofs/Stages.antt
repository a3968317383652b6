-- A recall, tile by tile: each tile is stopped, repaired or left; so the floor stays sound.
use mathlib.Core.Path.{◌≡◌, sym, ap, ◌∙◌, subst}
use mathlib.Core.Logic.{◌⊎◌, inl, inr}
use mathlib.Core.Bool.{Bool, true, false, cond, not, ◌&&◌, true≢false}
use mathlib.Core.List.{List, []}
use Prim.Native.Nat.{ℕ, zero, suc, ◌≤◌, ◌<◌}
use native.Mathlib.Omega.{arith}
use native.Mathlib.Decide.{ℕ_discrete}
use lib.Dec.{ltb}
use lib.ListN.{length, get_or, set, length-set, get_or-eq_default}
use lib.Seq.{get_or-set_same, get_or-set_other}
use borrow.Author.Tests.{lt-leb, lt-ltb, le-ltb, ltb-true, ltb-false, not-false}
use Rattle.laws.specs.Define.{tab, bit}
use Rattle.laws.proofs.Tests.{by_test, not_both, same_test}
use Rattle.laws.proofs.Tables.{tab_length, tab_at, tab_off, filled}
use Rattle.floor.specs.Settings.{total, is_hopper}
use Rattle.floor.specs.Layouts.{name_held, set_of}
use Rattle.floor.specs.Model.{TileState, Model, no_tile_of, tile_of, runs, runs_of_of, distance_of, with_tiles, with_tile}
use Rattle.floor.specs.Calls.{name_held_tests, recall_tile, recalled, stop_tests, stopped, repair_tests, repaired}
use Rattle.floor.proofs.Sound.{Sound}
use Rattle.floor.proofs.Calls.{Keeps, none, Accepted, same_floor, stop_keeps, repair_keeps, keeps_join}
use Rattle.floor.proofs.SoundLayouts.{sound_layouts_of, Covers, name_held_covers}

module _ (m : Model) (S : Sound m) (chosen : ℕ) (hop : Covers m.settings chosen) where
  abbrev C : ℕ
  C = total m.settings

  -- the tiles below n are done
  mid : ℕ → ℕ → TileState
  mid n t = cond (ltb t n) (recall_tile chosen t (tile_of m t)) (tile_of m t)

  pub stage : ℕ → Model
  stage n = with_tiles m (tab C (mid n))

  tiles_are : (n : ℕ) (l : List TileState) → length l ≡ C → ((t : ℕ) → t < C → get_or l t no_tile_of ≡ mid n t) → with_tiles m l ≡ stage n
  unfolding stage
  tiles_are n l e h = ap (with_tiles m) (filled C (mid n) no_tile_of l e h)

  pub stage_none : stage 0 ≡ m
  unfolding stage mid
  stage_none = sym (tiles_are 0 m.tiles S.len (λ t h. rw (le-ltb t 0 (omega arith))))

  pub stage_all : stage C ≡ recalled m chosen
  unfolding stage mid recalled
  stage_all = sym (tiles_are C (tab C (λ t. recall_tile chosen t (tile_of m t))) (tab_length C (λ t. recall_tile chosen t (tile_of m t))) (λ t h. rw (lt-ltb t C h) (tab_at C (λ t. recall_tile chosen t (tile_of m t)) t no_tile_of h)))

  stage_at : (n t : ℕ) → t < C → tile_of (stage n) t ≡ mid n t
  unfolding stage
  stage_at n t h = tab_at C (mid n) t no_tile_of h

  -- the tile that is next
  pub stage_here : (n : ℕ) → n < C → tile_of (stage n) n ≡ tile_of m n
  unfolding mid
  stage_here n h = stage_at n n h ∙ rw (le-ltb n n (omega arith))

  pub stage_next : (n : ℕ) (x : TileState) → n < C → x ≡ recall_tile chosen n (tile_of m n) → with_tile (stage n) n x ≡ stage (suc n)
  unfolding stage mid
  stage_next n x h e = tiles_are (suc n) (set (tab C (mid n)) n x) (length-set (tab C (mid n)) n x ∙ tab_length C (mid n)) at
    where
      at : (t : ℕ) → t < C → get_or (set (tab C (mid n)) n x) t no_tile_of ≡ mid (suc n) t
      at t k = go (ℕ_discrete t n)
        where
          go : Dec (t ≡ n) → get_or (set (tab C (mid n)) n x) t no_tile_of ≡ mid (suc n) t
          go (yes q) = rw (q, lt-ltb n (suc n) (omega arith)) (get_or-set_same (tab C (mid n)) n x no_tile_of (omega (arith, tab_length C (mid n))) ∙ e)
          go (no q) = get_or-set_other (tab C (mid n)) n t x no_tile_of q ∙ tab_at C (mid n) t no_tile_of k ∙ ap (λ (b : Bool). cond b (recall_tile chosen t (tile_of m t)) (tile_of m t)) (same_test (ltb t n) (ltb t (suc n)) (λ h. lt-ltb t (suc n) (omega (arith, ltb-true t n h))) (λ h. lt-ltb t n (omega (arith, ltb-true t (suc n) h))))

  -- nothing to do at the tile
  stage_same : (n : ℕ) → n < C → tile_of m n ≡ recall_tile chosen n (tile_of m n) → stage n ≡ stage (suc n)
  unfolding stage mid
  stage_same n h e = tiles_are (suc n) (tab C (mid n)) (tab_length C (mid n)) at
    where
      at : (t : ℕ) → t < C → get_or (tab C (mid n)) t no_tile_of ≡ mid (suc n) t
      at t k = tab_at C (mid n) t no_tile_of k ∙ go (ℕ_discrete t n)
        where
          go : Dec (t ≡ n) → mid n t ≡ mid (suc n) t
          go (yes q) = rw (q, le-ltb n n (omega arith), lt-ltb n (suc n) (omega arith)) e
          go (no q) = ap (λ (b : Bool). cond b (recall_tile chosen t (tile_of m t)) (tile_of m t)) (same_test (ltb t n) (ltb t (suc n)) (λ h. lt-ltb t (suc n) (omega (arith, ltb-true t n h))) (λ h. lt-ltb t n (omega (arith, ltb-true t (suc n) h))))

  no_hopper : (n : ℕ) → bit chosen n ≡ false → is_hopper m.settings n ≡ false
  no_hopper n e = go (by_test (is_hopper m.settings n))
    where
      go : (is_hopper m.settings n ≡ true) ⊎ (is_hopper m.settings n ≡ false) → is_hopper m.settings n ≡ false
      go (inr k) = k
      go (inl k) = not_both (hop n k) e

  -- the tests that the stop or repair of tile n meets, none of them
  pub stop_meets : (n : ℕ) → n < C → bit chosen n ≡ false → runs_of_of m n ≡ true → Accepted (stop_tests (stage n) n)
  unfolding stop_tests stage
  stop_meets n h b r = (lt-leb C n h, (no_hopper n b, (ap not (ap runs (stage_here n h) ∙ r), tt)))

  pub repair_meets : (n : ℕ) → n < C → runs_of_of m n ≡ false → Accepted (repair_tests (stage n) n)
  unfolding repair_tests stage
  repair_meets n h r = (lt-leb C n h, (ap runs (stage_here n h) ∙ r, tt))

  stopped_is : (n : ℕ) → n < C → bit chosen n ≡ false → runs_of_of m n ≡ true → stopped (tile_of (stage n) n) ≡ recall_tile chosen n (tile_of m n)
  unfolding recall_tile
  stopped_is n h b r = rw (b, r) (ap stopped (stage_here n h))

  repaired_is : (n : ℕ) → n < C → bit chosen n ≡ true → runs_of_of m n ≡ false → repaired (tile_of (stage n) n) ≡ recall_tile chosen n (tile_of m n)
  unfolding recall_tile
  repaired_is n h b r = rw (b, r) (ap repaired (stage_here n h))

  stay_in : (n : ℕ) → bit chosen n ≡ true → runs_of_of m n ≡ true → tile_of m n ≡ recall_tile chosen n (tile_of m n)
  unfolding recall_tile
  stay_in n b r = rw (b, r)

  stay_out : (n : ℕ) → bit chosen n ≡ false → runs_of_of m n ≡ false → tile_of m n ≡ recall_tile chosen n (tile_of m n)
  unfolding recall_tile
  stay_out n b r = rw (b, r)

  -- the four cases of a tile
  pub by_tile : (n : ℕ) → n < C → (P : Model → Type 0) → (bit chosen n ≡ runs_of_of m n → P (stage n))
      → (bit chosen n ≡ false → runs_of_of m n ≡ true → P (with_tile (stage n) n (stopped (tile_of (stage n) n)))) → (bit chosen n ≡ true → runs_of_of m n ≡ false → P (with_tile (stage n) n (repaired (tile_of (stage n) n)))) → P (stage (suc n))
  by_tile n h P none stops repairs = go (by_test (bit chosen n)) (by_test (runs_of_of m n))
    where
      go : (bit chosen n ≡ true) ⊎ (bit chosen n ≡ false) → (runs_of_of m n ≡ true) ⊎ (runs_of_of m n ≡ false) → P (stage (suc n))
      go (inl b) (inl r) = subst P (stage_same n h (stay_in n b r)) (none (b ∙ sym r))
      go (inl b) (inr r) = subst P (stage_next n (repaired (tile_of (stage n) n)) h (repaired_is n h b r)) (repairs b r)
      go (inr b) (inl r) = subst P (stage_next n (stopped (tile_of (stage n) n)) h (stopped_is n h b r)) (stops b r)
      go (inr b) (inr r) = subst P (stage_same n h (stay_out n b r)) (none (b ∙ sym r))

  pub stage_keeps : (n : ℕ) → n ≤ C → Keeps m (stage n) [] none
  stage_keeps zero h = subst (λ (x : Model). Keeps m x [] none) (sym stage_none) (same_floor m S)
  stage_keeps (suc n) h =
      let K = stage_keeps n (omega arith) in
      by_tile n h (λ x. Keeps m x [] none) (λ _. K)
      (λ b r. keeps_join m (stage n) (with_tile (stage n) n (stopped (tile_of (stage n) n))) [] none [] none K (stop_keeps (stage n) K.well n (stop_meets n h b r)))
      (λ b r. keeps_join m (stage n) (with_tile (stage n) n (repaired (tile_of (stage n) n))) [] none [] none K (repair_keeps (stage n) K.well n (repair_meets n h r)))

  pub recalled_keeps : Keeps m (recalled m chosen) [] none
  recalled_keeps = subst (λ (x : Model). Keeps m x [] none) stage_all (stage_keeps C (omega arith))

-- ---- the call
-- the set of a held name has the hoppers
pub name_held_set : (m : Model) → Sound m → (name : ℕ) → Accepted (name_held_tests m.layouts name) → Covers m.settings (set_of m.layouts name)
unfolding name_held_tests
name_held_set m S name T = name_held_covers m.settings S.measured m.layouts name (sound_layouts_of m.settings m.layouts S.layouts_sound_lem).each (not-false (name_held m.layouts name) T.1.0)

pub recall_keeps : (m : Model) → Sound m → (name : ℕ) → Accepted (name_held_tests m.layouts name) → Keeps m (recalled m (set_of m.layouts name)) [] none
recall_keeps m S name T = recalled_keeps m S (set_of m.layouts name) (name_held_set m S name T)

-- what runs after a recall
pub recall_runs : (m : Model) → Sound m → (chosen t : ℕ) → runs_of_of (recalled m chosen) t ≡ cond (ltb t (total m.settings) && cond (bit chosen t) (not (runs_of_of m t)) (runs_of_of m t)) (bit chosen t) (runs_of_of m t)
unfolding recalled recall_tile stopped repaired
recall_runs m S chosen t = go (by_test (ltb t C)) (by_test (bit chosen t)) (by_test (runs_of_of m t))
  where
    C : ℕ
    C = total m.settings

    g : ℕ → TileState
    g u = recall_tile chosen u (tile_of m u)

    go : (ltb t C ≡ true) ⊎ (ltb t C ≡ false) → (bit chosen t ≡ true) ⊎ (bit chosen t ≡ false) → (runs_of_of m t ≡ true) ⊎ (runs_of_of m t ≡ false)
        → runs_of_of (recalled m chosen) t ≡ cond (ltb t C && cond (bit chosen t) (not (runs_of_of m t)) (runs_of_of m t)) (bit chosen t) (runs_of_of m t)
    go (inr k) b r = rw k (ap runs (tab_off C g t no_tile_of (ltb-false t C k)) ∙ sym (ap runs (get_or-eq_default m.tiles no_tile_of (omega (arith, S.len, ltb-false t C k)))))
    go (inl k) (inl b) (inl r) = ap runs (tab_at C g t no_tile_of (ltb-true t C k)) ∙ rw (k, b, r) r
    go (inl k) (inl b) (inr r) = ap runs (tab_at C g t no_tile_of (ltb-true t C k)) ∙ rw (k, b, r)
    go (inl k) (inr b) (inl r) = ap runs (tab_at C g t no_tile_of (ltb-true t C k)) ∙ rw (k, b, r)
    go (inl k) (inr b) (inr r) = ap runs (tab_at C g t no_tile_of (ltb-true t C k)) ∙ rw (k, b, r) r

-- a recall that needs no stop and no repair changes nothing
pub recall_none : (m : Model) → Sound m → (chosen : ℕ) → ((t : ℕ) → t < total m.settings → cond (bit chosen t) (not (runs_of_of m t)) (runs_of_of m t) ≡ false) → recalled m chosen ≡ m
unfolding recalled recall_tile
recall_none m S chosen h = ap (with_tiles m) (sym (filled (total m.settings) (λ t. recall_tile chosen t (tile_of m t)) no_tile_of m.tiles S.len (λ t k. at t (h t k) (by_test (bit chosen t)) (by_test (runs_of_of m t)))))
  where
    at : (t : ℕ) → cond (bit chosen t) (not (runs_of_of m t)) (runs_of_of m t) ≡ false → (bit chosen t ≡ true) ⊎ (bit chosen t ≡ false) → (runs_of_of m t ≡ true) ⊎ (runs_of_of m t ≡ false) → tile_of m t ≡ recall_tile chosen t (tile_of m t)
    at t e (inl b) (inl r) = rw (b, r)
    at t e (inl b) (inr r) = absurd (true≢false (rw (b, r) at e))
    at t e (inr b) (inl r) = absurd (true≢false (rw (b, r) at e))
    at t e (inr b) (inr r) = rw (b, r)

-- a tile outside the set has no distance after a recall
pub recall_out : (m : Model) → Sound m → (chosen t : ℕ) → t < total m.settings → bit chosen t ≡ false → distance_of (recalled m chosen) t ≡ 255
unfolding recalled recall_tile stopped
recall_out m S chosen t h b = ap (λ (x : TileState). x.distance) (tab_at (total m.settings) (λ u. recall_tile chosen u (tile_of m u)) t no_tile_of h) ∙ go (by_test (runs_of_of m t))
  where
    go : (runs_of_of m t ≡ true) ⊎ (runs_of_of m t ≡ false) → (recall_tile chosen t (tile_of m t)).distance ≡ 255
    go (inl r) = rw (b, r)
    go (inr r) = rw (b, r) (S.stop_distance t r)
