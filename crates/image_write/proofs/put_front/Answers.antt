use Prim.Native.Nat.{◌≤◌}
use native.Mathlib.Omega.{arith}
use lib.ListN.{length, take}
use Rattle.std.proofs.lemmas.List.{length-take}
use Rattle.image_write.proofs.ImageBytes.{more_is, front_room, front_put}
use Rattle.image_write.proofs.put_front.Goals as goal

pub put_settings-requires : goal.put_settings-requires
put_settings-requires c = let r = (let g = c.args in front_room g.x g.y g.all g.h _ g.s.now c.requires c.first_length-second.ensures) in let g = c.args in (omega arith, more_is g.x g.h r.hoppers)

pub put_counters-requires : goal.put_counters-requires
put_counters-requires c = let r = (let g = c.args in front_room g.x g.y g.all g.h _ g.s.now c.requires c.first_length-second.ensures) in (omega (arith, c.put_settings.auto.s), r.few)

pub overflow_add-third : goal.overflow_add-third
overflow_add-third c = let r = (let g = c.args in front_room g.x g.y g.all g.h _ g.s.now c.requires c.first_length-second.ensures) in omega arith

pub overflow_add-third-2 : goal.overflow_add-third-2
overflow_add-third-2 c = let r = (let g = c.args in front_room g.x g.y g.all g.h _ g.s.now c.requires c.first_length-second.ensures) in omega arith

pub put_layouts-requires : goal.put_layouts-requires
put_layouts-requires c =
    let g = c.args in
    let r = front_room g.x g.y g.all g.h _ g.s.now c.requires c.first_length-second.ensures in
    let f = c.layout_count-filled in
    let m : length (take f.result g.all) ≤ f.result = rw length-take (omega arith) in
    omega (arith, f.ensures.0, c.put_settings.auto.s, c.put_counters.auto.s)

pub overflow_mul-result : goal.overflow_mul-result
overflow_mul-result c = omega (arith, c.layout_count-filled.ensures.1)

pub overflow_add-result : goal.overflow_add-result
overflow_add-result c =
    let r = (let g = c.args in front_room g.x g.y g.all g.h _ g.s.now c.requires c.first_length-second.ensures) in
    omega (arith, c.layout_count-filled.ensures.0)

pub returns : goal.returns
returns c =
    let r = (let g = c.args in front_room g.x g.y g.all g.h _ g.s.now c.requires c.first_length-second.ensures) in
    let n = c.layout_count-filled.ensures.0 in
    (omega (arith, n), front_put r _ _ _ _ _ n (omega arith) c.put_settings.ensures c.put_counters.ensures c.put_layouts.ensures)
