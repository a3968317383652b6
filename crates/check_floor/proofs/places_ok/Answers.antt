use mathlib.Core.Path.{◌≡◌, sym, ap, ◌∙◌}
use Prim.Native.Nat.{◌-◌}
use native.Mathlib.Omega.{arith}
use lib.ListN.{length, take, drop, length-drop}
use Rattle.std.proofs.lemmas.List.{take_all}
use borrow.Author.Tests.{lt-ltb}
use Rattle.laws.specs.Define.{all_of, pairs_of}
use Rattle.laws.proofs.Tables.{all_zero, all_step}
use Rattle.floor.specs.Memory.{zero_canister, is_zero_canister}
use Rattle.check_places.specs.InternalPlace.{member_sound}
use Rattle.check_floor.proofs.Branches.{places_few, few_pairs}
use Rattle.floor.specs.Well.{in_order}
use Rattle.check_floor.proofs.places_ok.Goals.{then-n-lt2, else-n-lt2}
use Rattle.check_floor.proofs.places_ok.Goals as goal

pub loop-c-init : goal.loop-c-init
loop-c-init c = sym (all_zero (member_sound c.args.s c.args.last) (take c.args.n c.args.places.now))

pub loop-c-preserved : goal.loop-c-preserved
loop-c-preserved c = all_step (member_sound c.args.s c.args.last) (take c.args.n c.args.places.now) c.loop-c.c-index zero_canister (omega arith) c.loop-c.invariant c.member_ok.ensures

pub returns : goal.returns
returns c =
    let places = c.args.places.now in
    let n = c.args.n in
    let tested = rw (take_all c.loop-c.c-index (take n places) (omega arith)) at c.loop-c.invariant in
    let free : c.unused.result ≡ all_of is_zero_canister (drop n places)
    = c.unused.ensures ∙ ap (all_of is_zero_canister) (take_all (length places - n) (drop n places) (omega (arith, length-drop n places))) in
    let pairs : c.if-n-lt2.result ≡ pairs_of (in_order c.args.s) (take n places) =
    elim c.if-n-lt2.branch [
      | then-n-lt2 w ↦ w.result-is ∙ lt-ltb n 2 w.if-n-lt2.true ∙ few_pairs (in_order c.args.s) n places w.if-n-lt2.true
      | else-n-lt2 w ↦ w.result-is ∙ w.pairs_ok.ensures
    ] in
    places_few c.args.s c.args.last n places c.unused.result c.loop-c.ok c.if-n-lt2.result c.requires.1 free tested pairs
