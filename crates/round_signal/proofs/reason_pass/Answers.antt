use Prim.Native.Nat.{ℕ, ◌<◌}
use mathlib.Core.Path.{◌≡◌, refl}
use native.Mathlib.Omega.{arith}
use lib.ListN.{get_or}
use Rattle.laws.proofs.Tables.{filled_none, filled_turn, filled_skip, filled_all}
use Rattle.floor.specs.Settings.{total}
use Rattle.floor.specs.Memory.{zero_tile}
use borrow.Author.Rules.{rules}
use Rattle.round_route.proofs.Passes.{front_read, front_end}
use Rattle.round_signal.specs.InternalSignalling as M
use Rattle.round_signal.proofs.ReasonLaws.{ahead_in, own_read, own_lack, reason_read, lack_read}
use Rattle.round_signal.proofs.reason_pass.Goals as goal

pub loop-i-init : goal.loop-i-init
loop-i-init c =
    let g = c.args in
    let turn : ℕ → ℕ = M.side_in g.turns.now in
    let lack : ℕ → ℕ = λ u. get_or g.lacks.now u 0 in
    (filled_none 64 (M.reason_by g.s g.tiles.now turn lack) 0, filled_none 64 (M.lack_by g.s g.tiles.now turn lack) 0)

pub loop-i-preserved-in-Some : goal.loop-i-preserved-in-Some
loop-i-preserved-in-Some c =
    let l = c.loop-i in
    let g = c.args in
    let turn : ℕ → ℕ = M.side_in g.turns.now in
    let lack : ℕ → ℕ = λ u. get_or g.lacks.now u 0 in
    let here : l.i < 64 = omega arith in
    let at = front_read g.tiles.now c.tile_count.result (omega arith) l.i zero_tile c.loop-i-test.true in (
      filled_turn 64 (M.reason_by g.s g.tiles.now turn lack) 0 l.i l.reasons c.from.result here (own_read g.s g.tiles.now turn lack l.i at _ c.in-Some.ensures c.from.ensures) l.invariant.0,
      filled_skip 64 (M.lack_by g.s g.tiles.now turn lack) 0 l.i l.missing (own_lack g.s g.tiles.now turn lack l.i at _ c.in-Some.ensures c.from.ensures) l.invariant.1,
    )

pub offset_bounds-lacks-ahead : goal.offset_bounds-lacks-ahead
offset_bounds-lacks-ahead c = omega (arith, ahead_in c.args.s c.args.tiles.now c.tile_count.result c.loop-i.i _ c.told-tiles c.tile_count.ensures c.requires.0.2 c.loop-i-test.true c.neighbour-ahead.ensures)

pub bounds-lacks-ahead : goal.bounds-lacks-ahead
bounds-lacks-ahead c = search (ahead_in, rules)

pub bounds-turns-ahead : goal.bounds-turns-ahead
bounds-turns-ahead c = search (ahead_in, rules)

pub loop-i-preserved : goal.loop-i-preserved
loop-i-preserved c =
    let l = c.loop-i in
    let g = c.args in
    let turn : ℕ → ℕ = M.side_in g.turns.now in
    let lack : ℕ → ℕ = λ u. get_or g.lacks.now u 0 in
    let here : l.i < 64 = omega arith in
    let at = front_read g.tiles.now c.tile_count.result (omega arith) l.i zero_tile c.loop-i-test.true in
    let e = c.neighbour-ahead.ensures in
    let y = c.ahead_reason-why.ensures in (
      filled_turn 64 (M.reason_by g.s g.tiles.now turn lack) 0 l.i l.reasons c.from-in-loop-i.result here (reason_read g.s g.tiles.now turn lack l.i at _ c.in_default.ensures e refl refl y c.from-in-loop-i.ensures) l.invariant.0,
      filled_turn 64 (M.lack_by g.s g.tiles.now turn lack) 0 l.i l.missing c.beside.result here (lack_read g.s g.tiles.now turn lack l.i at _ c.in_default.ensures e refl refl y c.beside.ensures) l.invariant.1,
    )

pub returns : goal.returns
returns c =
    let l = c.loop-i in
    let g = c.args in
    let turn : ℕ → ℕ = M.side_in g.turns.now in
    let lack : ℕ → ℕ = λ u. get_or g.lacks.now u 0 in
    let e : l.i ≡ total g.s = omega (arith, front_end g.tiles.now c.tile_count.result (omega arith) l.i c.loop-i-test.false l.auto.i-end) in (
      filled_all 64 (M.reason_by g.s g.tiles.now turn lack) 0 l.i (total g.s) l.reasons e l.invariant.0,
      filled_all 64 (M.lack_by g.s g.tiles.now turn lack) 0 l.i (total g.s) l.missing e l.invariant.1,
    )
