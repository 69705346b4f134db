use Rattle.std.proofs.lemmas.Bool.{false≢true}
use Rattle.exi_bits.specs.Pens.{written_bits}
use Rattle.exi_events.proofs.Starting.{names_offered, ready_more, ready_root, document_put, root_room, inside_put}
use Rattle.exi_events.proofs.putting.put_parts.Goals as goal

pub put_front-requires : goal.put_front-requires
put_front-requires g c =
    names_offered (g.P.Places.schema c.args.places.now) c.args.phase.now c.args.event.now c.args.elements.now (written_bits c.args.pen.now) c.args.table.now.entries c.in-Document.number c.in-Before.is c.in-Document.is c.requires.offered

pub returns-in_err-root-in-Before-clause-ready : goal.returns-in_err-root-in-Before-clause-ready
returns-in_err-root-in-Before-clause-ready g c =
    ready_more (g.P.Places.schema c.args.places.now) c.args.phase.now c.args.elements.now c.args.pen.now c.put_front.new.pen c.args.table.now c.requires.ready c.in_err-root-in-Before.ensures.more

pub returns-in_ok-root-in-Before-clause-ready : goal.returns-in_ok-root-in-Before-clause-ready
returns-in_ok-root-in-Before-clause-ready g c =
    ready_root (g.P.Places.schema c.args.places.now) c.args.phase.now c.args.elements.now c.args.pen.now c.put_front.new.pen c.args.table.now c.in_ok-root-in-Before.root.name c.in_ok-root-in-Before.root.kind
    c.in-Before.is c.requires.ready c.in_ok-root-in-Before.ensures.more c.in_ok-root-in-Before.ensures.of_schema

pub returns-in_ok-root-in-Before-clause-ok : goal.returns-in_ok-root-in-Before-clause-ok
returns-in_ok-root-in-Before-clause-ok g c =
    document_put (g.P.Places.schema c.args.places.now) c.args.phase.now c.args.event.now c.args.elements.now c.args.table.now.entries c.args.pen.now c.put_front.new.pen c.in-Document.number c.in_ok-root-in-Before.root.number c.in_ok-root-in-Before.root.name c.in_ok-root-in-Before.root.kind
    c.in-Before.is c.in-Document.is c.in_ok-root-in-Before.ensures.number c.requires.ready.texts c.in_ok-root-in-Before.ensures.ok c.in_ok-root-in-Before.ensures.named

pub returns-in-AtRoot-clause-full : goal.returns-in-AtRoot-clause-full
returns-in-AtRoot-clause-full g c = (
  λ no. absurd (false≢true no),
  λ lacks. absurd (root_room (g.P.Places.schema c.args.places.now) c.args.phase.now c.args.event.now c.args.elements.now (written_bits c.args.pen.now) c.args.table.now.entries c.args.pen.now c.in-AtRoot.name c.in-AtRoot.kind c.in-AtRoot.is lacks),
)

pub returns-in-Inside-found-clause-ok : goal.returns-in-Inside-found-clause-ok
returns-in-Inside-found-clause-ok g c =
    inside_put c.put_inside.result (g.P.Places.schema c.args.places.now) c.args.phase.now c.args.event.now c.args.elements.now c.put_inside.new.elements c.args.table.now.entries c.put_inside.new.table.entries c.args.pen.now c.put_inside.new.pen c.in-Inside.is c.put_inside.ensures.ok
