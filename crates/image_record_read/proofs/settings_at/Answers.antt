use lib.ListN.{length}
use Rattle.image_record_read.proofs.Refusals.{settings_made, room_20}
use Rattle.image_record_read.proofs.settings_at.Goals as goal

pub returns : goal.returns
returns c =
    let g = c.args in
    settings_made g.s.now g.at g.n (room_20 g.at g.n (length g.s.now) c.requires.0 c.requires.1) _ _ _ _ _ _ c.hoppers_at.ensures c.read_at-2.ensures c.read_at-3.ensures c.read_at-4.ensures c.read_at-5.ensures c.read_at.ensures
