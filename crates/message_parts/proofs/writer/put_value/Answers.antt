use Rattle.std.proofs.Common.{ap, subst, sym}
use Rattle.exi_events.specs.Trees.{Value}
use Rattle.exi_events.specs.Child.{PutsChild}
use Rattle.exi_events.specs.Writer.{draft_of}
use Rattle.message_parts.specs.Contents.{Of, one_onto}
use Rattle.exi_events.proofs.Standings.{sound_stands}
use Rattle.message_parts.specs.Writing.{Writes, put_of}
use Rattle.message_parts.proofs.Putting.{child_at_once}
use Rattle.message_parts.proofs.writer.put_value.Goals as goal

pub returns-in-Some-clause-write : goal.returns-in-Some-clause-write
returns-in-Some-clause-write g c = λ F rest h.
    let old = c.args.writer.now in
    let new = c.put_child.new.self in
    let s = g.P.Places.schema old.places.now in
    let p = c.put_child.ensures in
    let is = c.in-Some.ensures in
    child_at_once F rest s (g.P.Places.schema new.places.now) (draft_of old) (draft_of new) old.full new.full (ap g.P.Places.schema p.lent.places) (sound_stands s old.phase old.elements c.requires.ready.sound) is.open_still.0 is.open_still.1 c.args.name (g.T.Simple.value c.args.value.now) (subst (λ (v : Value). PutsChild s (draft_of old) (draft_of new) c.args.name v) c.as_value.ensures.value is.put) h

pub returns-in-None-clause-write : goal.returns-in-None-clause-write
returns-in-None-clause-write g c = λ F rest h.
    c.put_value_events.ensures.write F rest (subst (λ w. Writes F (one_onto c.args.name (Of (g.T.Simple.value c.args.value.now)) rest) (put_of w)) (sym (c.put_child.ensures.none c.in-None.is)) h)
