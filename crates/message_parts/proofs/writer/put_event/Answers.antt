use Rattle.std.proofs.Common.{subst, ap, Option, OnOk}
use Rattle.exi_events.specs.Trees.{Event}
use Rattle.exi_events.specs.Writer.{draft_of, IsPut, IsNeeded, IsOfferedAs}
use Rattle.exi_events.proofs.Standings.{sound_stands}
use Rattle.message_parts.proofs.Putting.{Answers, put_any}
use Rattle.message_parts.proofs.writer.put_event.Goals as goal

pub returns-clause-write : goal.returns-clause-write
returns-clause-write g c = λ F e rest h ev.
    let old = c.args.writer.now in
    let new = c.try_put-put.new.self in
    let s = g.P.Places.schema old.places.now in
    let t = g.P.Places.schema new.places.now in
    let p = c.try_put-put.ensures in
    let same = ap g.P.Places.schema p.lent.places in
    let is = sound_stands s old.phase old.elements c.requires.ready.sound in
    let answers : Answers F e rest s t (draft_of old) (draft_of new) old.full new.full same p.more.1.room is c.try_put-put.result = record {
      put = subst (λ (o : Option Event). OnOk c.try_put-put.result (IsPut s (draft_of old) (draft_of new) o)) ev p.put;
      open_still = p.open_still;
      other = λ none err. subst (λ (o : Option Event). IsOfferedAs s (draft_of old).state o → ⊥) ev ((p.not_offered none).0 err);
      needed = λ none f err. subst (λ (o : Option Event). IsNeeded s (draft_of old) o f) ev (p.needed none f err);
      bits = p.bits;
    } in
    put_any F e rest s t (draft_of old) (draft_of new) old.full new.full same p.more.1.room is c.try_put-put.result answers (λ f is_full. ap (λ w. w.full) (p.again f is_full).1) h
