use Rattle.std.proofs.Common.{ap}
use Rattle.exi_events.specs.Writer.{draft_of}
use Rattle.exi_events.proofs.Standings.{sound_stands}
use Rattle.message_parts.proofs.Putting.{three_put_by}
use Rattle.message_parts.proofs.writer.put_three.Goals as goal

pub returns-clause-write : goal.returns-clause-write
returns-clause-write g c = λ F rest h.
    let old = c.args.writer.now in
    let new = c.put_three.new.self in
    let s = g.P.Places.schema old.places.now in
    let p = c.put_three.ensures in
    three_put_by F rest s (g.P.Places.schema new.places.now) (draft_of old) (draft_of new) old.full new.full (ap g.P.Places.schema p.lent.places) (sound_stands s old.phase old.elements c.requires.ready.sound) c.args.name c.in_ok-three.three _ _ c.in_ok-three.ensures c.put_three.result p.open_still p.put h
