use mathlib.Core.Path.{◌≡◌, sym, ◌∙◌}
use mathlib.Core.Bool.{true}
use mathlib.Core.List.{List}
use Prim.Native.Nat.{ℕ, ◌+◌, ◌-◌, ◌*◌}
use native.Mathlib.Omega.{arith}
use lib.ListN.{take, drop}
use Rattle.floor.specs.declared.Canister.{Canister}
use Rattle.laws.specs.Define.{all_below}
use Rattle.laws.proofs.Tables.{below_zero, below_step, ended}
use Rattle.floor.specs.Memory.{block}
use Rattle.floor.proofs.Sized.{tiles_length, canisters_length}
use Rattle.check_floor.specs.InternalCode.{counted}
use Rattle.check_floor.proofs.Counts.{none_yet, counted_more}
use Rattle.check_floor.proofs.WellCode.{keys_run, well_unlike, well_tiled, well_empty, pass_sized}
use Rattle.check_floor.proofs.Blocks.{block_length}
use Rattle.check_floor.proofs.Loops.{front_of, back_of, front_off, back_off, few_each, both_tested, none_tested}
use Rattle.check_floor.proofs.scan.Goals as goal

-- the places of tile t as the code passes them
passed : (l : List Canister) (t : ℕ) → take (16 * t + 16 - 16 * t) (drop (16 * t) l) ≡ block l t
passed l t = let sixteen : 16 * t + 16 - 16 * t ≡ 16 = omega arith in rw sixteen

pub loop-t-init : goal.loop-t-init
loop-t-init c = record { below = omega arith; small = omega arith; totalled = none_yet c.args.f.tiles; tested = sym (below_zero (front_of c.args.f)) }

pub front_ok-requires : goal.front_ok-requires
front_ok-requires c =
    let f = c.args.f in
    let t = c.loop-t.t in
    ((pass_sized f.settings c.requires).0, rw (passed f.canisters t) (block_length f.canisters t (canisters_length f _ c.well_formed.0) (omega arith)))

pub returns-then-not-front_ok : goal.returns-then-not-front_ok
returns-then-not-front_ok c =
    let f = c.args.f in
    let t = c.loop-t.t in
    let e : c.front_ok.result ≡ front_of f t = rw (passed f.canisters t) at c.front_ok.ensures in
    well_unlike f (tiles_length f _ c.well_formed.0) (canisters_length f _ c.well_formed.0) c.requires t (omega arith) (front_off f t (sym e ∙ c.if-not-front_ok.true))

pub loop-t-preserved : goal.loop-t-preserved
loop-t-preserved c =
    let f = c.args.f in
    let t = c.loop-t.t in
    let v = c.loop-t.invariant in
    let e : c.front_ok.result ≡ front_of f t = rw (passed f.canisters t) at c.front_ok.ensures in
    record {
      below = omega arith;
      small = omega arith;
      totalled = omega (arith, counted_more f.tiles t, v.totalled, c.from-n.ensures);
      tested = below_step (front_of f) t v.tested (sym c.if-not-front_ok.false ∙ e);
    }

pub returns-then-n-eq0 : goal.returns-then-n-eq0
returns-then-n-eq0 c =
    let f = c.args.f in
    let v = c.loop-t.invariant in
    let all : c.loop-t.n ≡ counted f.tiles 64 = ended (counted f.tiles) c.loop-t-test.false v.below v.totalled in
    let front : all_below (front_of f) 64 ≡ true = sym (ended (all_below (front_of f)) c.loop-t-test.false v.below v.tested) in
    let none : counted f.tiles 64 ≡ 0 = sym all ∙ c.if-n-eq0.true in
    rw (c.counters_ok-added.ensures, all) (well_empty f (tiles_length f _ c.well_formed.0) (canisters_length f _ c.well_formed.0) c.requires (none_tested f front none) none)

pub loop-u-init : goal.loop-u-init
loop-u-init c = record { below = omega arith; tested = sym (below_zero (back_of c.args.f)) }

pub back_ok-requires : goal.back_ok-requires
back_ok-requires c =
    let f = c.args.f in
    let u = c.loop-u.u in
    let front : all_below (front_of f) 64 ≡ true = sym (ended (all_below (front_of f)) c.loop-t-test.false c.loop-t.invariant.below c.loop-t.invariant.tested) in
    ((pass_sized f.settings c.requires).1, rw c.from.ensures (few_each f front u (omega arith)), rw (passed f.canisters u) (block_length f.canisters u (canisters_length f _ c.well_formed.0) (omega arith)))

pub returns-then-not-back_ok : goal.returns-then-not-back_ok
returns-then-not-back_ok c =
    let f = c.args.f in
    let u = c.loop-u.u in
    let e : c.back_ok.result ≡ back_of f u = rw (passed f.canisters u, c.from.ensures) at c.back_ok.ensures in
    well_unlike f (tiles_length f _ c.well_formed.0) (canisters_length f _ c.well_formed.0) c.requires u (omega arith) (back_off f u (sym e ∙ c.if-not-back_ok.true))

pub loop-u-preserved : goal.loop-u-preserved
loop-u-preserved c =
    let f = c.args.f in
    let u = c.loop-u.u in
    let e : c.back_ok.result ≡ back_of f u = rw (passed f.canisters u, c.from.ensures) at c.back_ok.ensures in
    record { below = omega arith; tested = below_step (back_of f) u c.loop-u.invariant.tested (sym c.if-not-back_ok.false ∙ e) }

-- behind both loops every tile is tested
pub numbers_differ-requires : goal.numbers_differ-requires
numbers_differ-requires c =
    let f = c.args.f in
    let front : all_below (front_of f) 64 ≡ true = sym (ended (all_below (front_of f)) c.loop-t-test.false c.loop-t.invariant.below c.loop-t.invariant.tested) in
    let back : all_below (back_of f) 64 ≡ true = sym (ended (all_below (back_of f)) c.loop-u-test.false c.loop-u.invariant.below c.loop-u.invariant.tested) in
    rw c.list_numbers.ensures (keys_run f (both_tested f front back) (canisters_length f _ c.well_formed.0))

pub returns : goal.returns
returns c =
    let f = c.args.f in
    let v = c.loop-t.invariant in
    let all : c.loop-t.n ≡ counted f.tiles 64 = ended (counted f.tiles) c.loop-t-test.false v.below v.totalled in
    let front : all_below (front_of f) 64 ≡ true = sym (ended (all_below (front_of f)) c.loop-t-test.false v.below v.tested) in
    let back : all_below (back_of f) 64 ≡ true = sym (ended (all_below (back_of f)) c.loop-u-test.false c.loop-u.invariant.below c.loop-u.invariant.tested) in
    rw (c.counters_ok-added.ensures, all, c.numbers_differ.ensures, c.list_numbers.ensures) (well_tiled f (tiles_length f _ c.well_formed.0) (canisters_length f _ c.well_formed.0) c.requires (both_tested f front back))
