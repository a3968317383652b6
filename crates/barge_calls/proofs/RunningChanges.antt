-- A stop or a repair on a barge, by the tests and the change of the call on its floor alone.
use mathlib.Core.Path.{◌≡◌, sym, ap, ◌∙◌}
use mathlib.Core.Logic.{◌≢◌}
use mathlib.Core.Bool.{Bool, not}
use mathlib.Core.List.{List, [], ◌∷◌}
use Prim.Native.Nat.{ℕ}
use lib.Dec.{leb}
use borrow.Author.Tests.{ne_eqb}
use Rattle.laws.specs.Define.{refusal}
use Rattle.floor.specs.declared.Floor.{Floor}
use Rattle.floor.specs.declared.Answer.{Answer}
use Rattle.floor.specs.Model.{Model, tile_of, with_tile}
use Rattle.floor.specs.Memory.{view, pack}
use Rattle.floor.specs.Calls.{answer, stop_tests, stopped, stop_answer, repair_tests, repaired, repair_answer}
use Rattle.floor.proofs.Answers.{answer_refused, answer_accepted}
use Rattle.barge.specs.declared.Barge.{Barge}
use Rattle.barge.specs.declared.BargeAnswer.{BargeAnswer}
use Rattle.barge.specs.Barges.{floor_at, with_floor, barge_sound, barge_refusal, barge_with, barge_stop, barge_repair}
use Rattle.barge_parts.proofs.Joint.{read_at, On}
use Rattle.barge_calls.proofs.Answers.{by_first, by_own, by_last}

module _ (tests : Model → List (Bool × ℕ)) (change : Model → Model) (b : Barge) (k : ℕ) where
  abbrev floor_answer : Floor → Answer
  floor_answer f = answer f (tests (view f)) (change (view f))

  -- what the call on the barge answers
  abbrev RunningAnswer : BargeAnswer
  RunningAnswer = let r = floor_answer (floor_at b k) in let n = barge_refusal b k r.refusal [] in record { barge = barge_with b k n r.floor; refusal = n }

  running_begins : (n : ℕ) → n ≡ refusal ((not (barge_sound b), 30) ∷ (leb 4 k, 49) ∷ []) → n ≢ 0 → record { barge = b; refusal = n } ≡ RunningAnswer
  unfolding barge_with
  running_begins n e z = rw (by_first b k n e (floor_answer (floor_at b k)).refusal [] z, ne_eqb n 0 z)

  module _ (B : On b k) (m : ℕ) (t : m ≡ refusal (tests (view (read_at b k)))) where
    running_refused : m ≢ 0 → record { barge = b; refusal = m } ≡ RunningAnswer
    unfolding barge_with
    running_refused o =
        let f = read_at b k in
        let h : record { refusal = m; floor = f } ≡ floor_answer (floor_at b k) = answer_refused f (tests (view f)) (change (view f)) B.well m t o ∙ ap floor_answer B.is in
        rw (sym h, by_own b k B m [] o, ne_eqb m 0 o)

    running_accepted : m ≡ 0 → (g : Floor) → g ≡ pack (change (view (read_at b k))) → record { barge = with_floor b k g; refusal = m } ≡ RunningAnswer
    unfolding barge_with refusal
    running_accepted o g p =
        let f = read_at b k in
        let h : record { refusal = m; floor = g } ≡ floor_answer (floor_at b k) = answer_accepted f (tests (view f)) (change (view f)) B.well m t o g p ∙ ap floor_answer B.is in
        rw (sym h, by_last b k B m [] o, o)

module _ (b : Barge) (k t : ℕ) where
  pub stop_begins : (n : ℕ) → n ≡ refusal ((not (barge_sound b), 30) ∷ (leb 4 k, 49) ∷ []) → n ≢ 0 → record { barge = b; refusal = n } ≡ barge_stop b k t
  unfolding barge_stop stop_answer
  stop_begins = running_begins (λ x. stop_tests x t) (λ x. with_tile x t (stopped (tile_of x t))) b k

  pub repair_begins : (n : ℕ) → n ≡ refusal ((not (barge_sound b), 30) ∷ (leb 4 k, 49) ∷ []) → n ≢ 0 → record { barge = b; refusal = n } ≡ barge_repair b k t
  unfolding barge_repair repair_answer
  repair_begins = running_begins (λ x. repair_tests x t) (λ x. with_tile x t (repaired (tile_of x t))) b k

  module _ (B : On b k) (m : ℕ) where
    pub stop_refused : m ≡ refusal (stop_tests (view (read_at b k)) t) → m ≢ 0 → record { barge = b; refusal = m } ≡ barge_stop b k t
    unfolding barge_stop stop_answer
    stop_refused = running_refused (λ x. stop_tests x t) (λ x. with_tile x t (stopped (tile_of x t))) b k B m

    pub stop_accepted : m ≡ refusal (stop_tests (view (read_at b k)) t) → m ≡ 0
        → (g : Floor) → g ≡ pack (with_tile (view (read_at b k)) t (stopped (tile_of (view (read_at b k)) t))) → record { barge = with_floor b k g; refusal = m } ≡ barge_stop b k t
    unfolding barge_stop stop_answer
    stop_accepted = running_accepted (λ x. stop_tests x t) (λ x. with_tile x t (stopped (tile_of x t))) b k B m

    pub repair_refused : m ≡ refusal (repair_tests (view (read_at b k)) t) → m ≢ 0 → record { barge = b; refusal = m } ≡ barge_repair b k t
    unfolding barge_repair repair_answer
    repair_refused = running_refused (λ x. repair_tests x t) (λ x. with_tile x t (repaired (tile_of x t))) b k B m

    pub repair_accepted : m ≡ refusal (repair_tests (view (read_at b k)) t) → m ≡ 0
        → (g : Floor) → g ≡ pack (with_tile (view (read_at b k)) t (repaired (tile_of (view (read_at b k)) t))) → record { barge = with_floor b k g; refusal = m } ≡ barge_repair b k t
    unfolding barge_repair repair_answer
    repair_accepted = running_accepted (λ x. repair_tests x t) (λ x. with_tile x t (repaired (tile_of x t))) b k B m
