-- [13]: which tiles of a floor run after a further list, and its live paths then: `runs_same` and `live_same` of `per_floor` read off.
use mathlib.Core.Path.{◌≡◌, refl, sym, ◌∙◌, subst}
use mathlib.Core.Bool.{true, false, true≢false}
use mathlib.Core.List.{List, [], ◌∷◌, ◌++◌}
use native.Mathlib.Omega.{arith}
use Rattle.laws.specs.Every.{All}
use Rattle.floor.specs.declared.Floor.{Floor}
use Rattle.floor.specs.Calls.{fresh_answer}
use Rattle.floor.specs.Live.{LivePath, connected}
use Rattle.floor.proofs.Calling.{got, holds}
use Rattle.floor.proofs.AnywhereSamples.{small}
use Rattle.barge.specs.declared.Barge.{Barge}
use Rattle.barge.specs.Barges.{floor_at, on_floor_of, aboard, allowance_sound, barge_sound, barge_refusal, allowed, barge_with, barge_book_anywhere, barge_stop, barge_round}
use Rattle.barge.specs.Lists.{BargeCall, anywhere, stop, round, InRange, outcome, barge_after}
use Rattle.barge.specs.PerFloor.{runs_by, latest, runs_on_of, disturbs, QuietOn, Promises}
use Rattle.barge.proofs.Samples.{four}
use Rattle.barge.proofs.PerFloor.{per_floor}

-- W 2, hopper 1, four times
unfoldable plain : Barge
plain = let f = got (fresh_answer (small 8 0)) in four f f f f 3

-- tile 0 of floor 3 is stopped; then a round of it, a stop of its hopper, which 8 refuses, a booking on floor 1 and another stop, which 31 refuses
unfoldable halted : List BargeCall
halted = stop 3 0 ∷ []

unfoldable further : List BargeCall
further = round 3 ∷ stop 3 1 ∷ anywhere 1 0 9 ∷ stop 3 0 ∷ []

plain_sound : barge_sound plain ≡ true
unfolding holds small four plain on_floor_of aboard allowance_sound barge_sound
plain_sound = refl

further_quiet : QuietOn 3 (barge_after plain halted) further
unfolding holds small four plain halted further on_floor_of aboard allowance_sound barge_sound barge_refusal allowed barge_with barge_book_anywhere barge_stop barge_round outcome barge_after disturbs
further_quiet = (refl, (refl, (refl, (refl, tt))))

halted_test : (runs_on_of 3 plain halted 0 ≡ false) × ((connected (floor_at plain 3).settings (runs_on_of 3 plain halted) 1 ≡ true) × (connected (floor_at plain 3).settings (runs_on_of 3 plain halted) 0 ≡ false))
unfolding holds small four plain halted on_floor_of aboard allowance_sound barge_sound barge_refusal barge_with barge_stop outcome runs_by latest runs_on_of
halted_test = (refl, (refl, refl))

in_range_halted : All InRange halted
unfolding halted
in_range_halted = (tt, tt)

P : Promises 3 plain halted
P = per_floor 3 (omega arith) plain plain_sound halted in_range_halted

-- tile 0 doesn't run after it either, so that it has no live path; the hopper has one
still_stopped : runs_on_of 3 plain (halted ++ further) 0 ≡ false
still_stopped = P.runs_same further further_quiet 0 ∙ halted_test.0

hopper_live : LivePath (floor_at plain 3).settings (runs_on_of 3 plain (halted ++ further)) 1
hopper_live =
    subst (λ (f : Floor). LivePath f.settings (runs_on_of 3 plain (halted ++ further)) 1) P.is_first
    ((P.live_same further further_quiet 1).1 ((P.counts_live 1).1 (subst (λ (f : Floor). connected f.settings (runs_on_of 3 plain halted) 1 ≡ true) (sym P.is_first) halted_test.1.0)))

never_live : ¬ (LivePath (floor_at plain 3).settings (runs_on_of 3 plain (halted ++ further)) 0)
never_live p =
    let q : LivePath P.first.settings (runs_on_of 3 plain (halted ++ further)) 0 = subst (λ (f : Floor). LivePath f.settings (runs_on_of 3 plain (halted ++ further)) 0) (sym P.is_first) p in
    let c : connected (floor_at plain 3).settings (runs_on_of 3 plain halted) 0 ≡ true = subst (λ (f : Floor). connected f.settings (runs_on_of 3 plain halted) 0 ≡ true) P.is_first ((P.counts_live 0).0 ((P.live_same further further_quiet 0).0 q)) in
    true≢false (sym c ∙ halted_test.1.1)
