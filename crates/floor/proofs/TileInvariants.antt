-- What a booking, a stop, a repair, a recall, keeping and forgetting leave true of each tile.
use mathlib.Core.Path.{◌≡◌, sym, ◌∙◌, subst}
use mathlib.Core.Bool.{Bool, true, false, cond}
use mathlib.Core.List.{List}
use Prim.Native.Nat.{ℕ, suc, ◌<◌}
use native.Mathlib.Omega.{arith}
use native.Mathlib.Decide.{dec_le, ℕ_discrete}
use lib.ListN.{get_or, get_or-eq_default}
use lib.Seq.{get_or-set_same, get_or-set_other}
use borrow.Author.Tests.{leb-false}
use Rattle.laws.specs.Define.{tab, bit}
use Rattle.laws.proofs.Tables.{tab_at, tab_off}
use Rattle.floor.specs.declared.Canister.{Canister}
use Rattle.floor.specs.declared.Floor.{Floor}
use Rattle.floor.specs.Settings.{total}
use Rattle.floor.specs.Layouts.{set_of}
use Rattle.floor.specs.Model.{TileState, Model, no_tile_of, tile_of, runs, with_tile, with_members}
use Rattle.floor.specs.Memory.{view, pack}
use Rattle.floor.specs.Well.{well_formed}
use Rattle.floor.specs.Move.{insert}
use Rattle.floor.specs.Calls.{book_tests, booked, stop_tests, stopped, repair_tests, repaired, kept_under, forgotten, recall_tile, recalled}
use Rattle.floor.specs.Demand3.{Call, keep, forget, recall, InRange, outcome}
use Rattle.floor.specs.CommutingCalls.{RunningChange, stops, repairs, Books}
use Rattle.floor.proofs.Pack.{well_sound}
use Rattle.floor.proofs.Calls.{Accepted}
use Rattle.floor.proofs.GuardedCalls.{Form, floor_by, by_form, new_view, running_tests_lem, running_tile_lem, running_form, running_answers, canister_of, booking_accepts, book_form, book_answers, keep_form, keep_answers, forget_form, forget_answers, recall_form, recall_answers}

module _ (P : TileState → Type 0) (f : Floor) (w : well_formed f ≡ true) (u t : ℕ) (p : P (tile_of (view f) t)) where
  -- g is what the call makes of tile u
  put_tile : (g : TileState → TileState) → ((x : TileState) → P x → P (g x)) → u < total (view f).settings → P (tile_of (with_tile (view f) u (g (tile_of (view f) u))) t)
  put_tile g pg on = go (ℕ_discrete t u)
    where
      go : Dec (t ≡ u) → P (tile_of (with_tile (view f) u (g (tile_of (view f) u))) t)
      go (yes e) = rw (e, get_or-set_same (view f).tiles u (g (tile_of (view f) u)) no_tile_of (omega (arith, (well_sound f w).len))) (pg (tile_of (view f) u) (rw e at p))
      go (no n) = rw (get_or-set_other (view f).tiles u t (g (tile_of (view f) u)) no_tile_of n) p

  by_floor : (F : Form) → (Accepted (F.tests (view f)) → P (tile_of (F.change (view f)) t)) → P (tile_of (view (floor_by F f)) t)
  by_floor F q = by_form F f w (λ b. P (tile_of (view (cond b (pack (F.change (view f))) f)) t)) (λ A. subst (λ (m : Model). P (tile_of m t)) (sym (new_view F f w A)) (q A)) p

  pub book_tile : {c : Call} (q : Books u c) → InRange c → ((x : TileState) (l : List Canister) → P x → P (with_members x l)) → P (tile_of (view (outcome f c).floor) t)
  unfolding book_tests booked
  book_tile q h pg =
      let b = canister_of q (view f) in
      subst (λ (g : Floor). P (tile_of (view g) t)) (sym ((book_answers q h).floor f))
      (by_floor (book_form q h) (λ A. put_tile (λ x. with_members x (insert b x.members)) (λ x. pg x (insert b x.members)) (leb-false (total (view f).settings) u (booking_accepts q (view f) A).0)))

  running_on : {c : Call} (q : RunningChange u c) → Accepted (running_tests_lem q (view f)) → u < total (view f).settings
  unfolding stop_tests repair_tests
  running_on stops A = leb-false (total (view f).settings) u A.0
  running_on repairs A = leb-false (total (view f).settings) u A.0

  pub running_tile : {c : Call} (q : RunningChange u c) → ((x : TileState) → P x → P (running_tile_lem q x)) → P (tile_of (view (outcome f c).floor) t)
  running_tile q pg = subst (λ (g : Floor). P (tile_of (view g) t)) (sym ((running_answers q).floor f)) (by_floor (running_form q) (λ A. put_tile (running_tile_lem q) pg (running_on q A)))

-- keeping, forgetting and recalling, at tile t
module _ (P : TileState → Type 0) (f : Floor) (w : well_formed f ≡ true) (t : ℕ) (p : P (tile_of (view f) t)) (name : ℕ) where
  pub keep_tile : P (tile_of (view (outcome f (keep name)).floor) t)
  unfolding kept_under
  keep_tile = subst (λ (g : Floor). P (tile_of (view g) t)) (sym ((keep_answers name).floor f)) (by_floor P f w t t p (keep_form name) (λ A. p))

  pub forget_tile : P (tile_of (view (outcome f (forget name)).floor) t)
  unfolding forgotten
  forget_tile = subst (λ (g : Floor). P (tile_of (view g) t)) (sym ((forget_answers name).floor f)) (by_floor P f w t t p (forget_form name) (λ A. p))

  -- one of three is made of it
  recalled_tile : (set : ℕ) → ((x : TileState) → P x → P (stopped x)) → ((x : TileState) → P x → P (repaired x)) → P (tile_of (recalled (view f) set) t)
  unfolding recalled recall_tile
  recalled_tile set ps pr = go (dec_le (suc t) C)
    where
      C : ℕ
      C = total (view f).settings

      x : TileState
      x = tile_of (view f) t

      one : (b r : Bool) → P (cond b (cond r x (repaired x)) (cond r (stopped x) x))
      one true true = p
      one true false = pr x p
      one false true = ps x p
      one false false = p

      go : Dec (t < C) → P (get_or (tab C (λ u. recall_tile set u (tile_of (view f) u))) t no_tile_of)
      go (yes h) = rw (tab_at C (λ u. recall_tile set u (tile_of (view f) u)) t no_tile_of h) (one (bit set t) (runs x))
      go (no h) =
          subst P (get_or-eq_default (view f).tiles no_tile_of (omega (arith, (well_sound f w).len)) ∙ sym (tab_off C (λ u. recall_tile set u (tile_of (view f) u)) t no_tile_of (omega arith))) p

  pub recall_tile_lem : ((x : TileState) → P x → P (stopped x)) → ((x : TileState) → P x → P (repaired x)) → P (tile_of (view (outcome f (recall name)).floor) t)
  recall_tile_lem ps pr =
      subst (λ (g : Floor). P (tile_of (view g) t)) (sym ((recall_answers name).floor f)) (by_floor P f w t t p (recall_form name) (λ A. recalled_tile (set_of (view f).layouts name) ps pr))
