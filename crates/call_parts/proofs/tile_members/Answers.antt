use mathlib.Core.Path.{◌≡◌}
use Prim.Native.Nat.{◌+◌, ◌-◌, ◌*◌}
use native.Mathlib.Omega.{arith}
use lib.Seq.{get_or-take}
use Rattle.std.proofs.lemmas.List.{get_or-drop}
use lib.ListN.{get_or, take, drop}
use Rattle.laws.proofs.Tables.{filled}
use Rattle.floor.specs.Model.{members_of}
use Rattle.floor.specs.Memory.{zero_canister, view}
use Rattle.floor.proofs.Sized.{canisters_length}
use Rattle.floor.proofs.Pack.{below_64, place_view}
use Rattle.call_parts.proofs.tile_members.Goals as goal

pub slice_bounds-copy_from_slice-end-2 : goal.slice_bounds-copy_from_slice-end-2
slice_bounds-copy_from_slice-end-2 c = let g = c.args in omega (arith, below_64 g.floor g.tile c.requires.0 c.requires.1, canisters_length g.floor _ c.well_formed.0)

pub returns : goal.returns
returns c =
    let g = c.args in
    let e = c.copy_from_slice.ensures in
    let q : c.copy_from_slice.new.self ≡ take (16 * g.tile + 16 - 16 * g.tile) (drop (16 * g.tile) g.floor.canisters) = e.after in
    filled 16 (λ k. get_or (members_of (view g.floor) g.tile) k zero_canister) zero_canister _ e.len
    (λ i h. rw (q, get_or-take (16 * g.tile + 16 - 16 * g.tile) (drop (16 * g.tile) g.floor.canisters) i zero_canister (omega arith), get_or-drop) (place_view g.floor g.tile c.requires.0 c.requires.1 i h))
