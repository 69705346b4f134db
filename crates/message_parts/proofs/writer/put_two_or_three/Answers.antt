use Rattle.std.proofs.Common.{ap}
use Rattle.exi_events.specs.Writer.{draft_of}
use Rattle.exi_events.proofs.Standings.{sound_stands}
use Rattle.message_parts.proofs.Putting.{optional_put_by}
use Rattle.message_parts.proofs.writer.put_two_or_three.Goals as goal

pub returns-clause-write : goal.returns-clause-write
returns-clause-write g c = λ F rest h.
    let old = c.args.writer.now in
    let new = c.put_optional.new.self in
    let s = g.P.Places.schema old.places.now in
    let p = c.put_optional.ensures in
    optional_put_by F rest s (g.P.Places.schema new.places.now) (draft_of old) (draft_of new) old.full new.full (ap g.P.Places.schema p.lent.places) (sound_stands s old.phase old.elements c.requires.ready.sound) c.args.name c.in_ok-values.values _ _ c.in_ok-values.ensures c.put_optional.result p.open_still p.put h
