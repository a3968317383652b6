-- A refused answer and an accepted one of a call that takes a floor, as the definitions give them.
use mathlib.Core.Path.{◌≡◌, sym}
use mathlib.Core.Logic.{◌≢◌}
use mathlib.Core.Bool.{Bool, true, false}
use mathlib.Core.List.{List}
use Prim.Native.Nat.{ℕ}
use borrow.Author.Tests.{ne_eqb}
use Rattle.laws.specs.Define.{refusal}
use Rattle.floor.specs.declared.Floor.{Floor}
use Rattle.floor.specs.declared.Answer.{Answer}
use Rattle.floor.specs.Model.{Model}
use Rattle.floor.specs.Memory.{pack}
use Rattle.floor.specs.Well.{well_formed}
use Rattle.floor.specs.Calls.{refusal_of, answer}

-- ---- the number of a call that takes a floor
pub malformed : (f : Floor) (tests : List (Bool × ℕ)) → well_formed f ≡ false → refusal_of f tests ≡ 30
unfolding refusal_of refusal
malformed f tests w = rw w

pub formed : (f : Floor) (tests : List (Bool × ℕ)) (n : ℕ) → well_formed f ≡ true → n ≡ refusal tests → refusal_of f tests ≡ n
unfolding refusal_of refusal
formed f tests n w e = rw w (sym e)

-- ---- book, stop, repair, keep, forget, recall: the answer by the tests and the floor that the call leaves
module _ (f : Floor) (tests : List (Bool × ℕ)) (m : Model) where
  pub answer_malformed : well_formed f ≡ false → ◌≡◌ {A = Answer} (record { refusal = 30; floor = f }) (answer f tests m)
  unfolding answer
  answer_malformed w = rw (malformed f tests w)

  module _ (w : well_formed f ≡ true) (n : ℕ) (e : n ≡ refusal tests) where
    pub answer_refused : n ≢ 0 → ◌≡◌ {A = Answer} (record { refusal = n; floor = f }) (answer f tests m)
    unfolding answer
    answer_refused z = rw (formed f tests n w e, ne_eqb n 0 z)

    pub answer_accepted : n ≡ 0 → (g : Floor) → g ≡ pack m → ◌≡◌ {A = Answer} (record { refusal = n; floor = g }) (answer f tests m)
    unfolding answer
    answer_accepted z g p = rw (formed f tests n w e, z, p)
