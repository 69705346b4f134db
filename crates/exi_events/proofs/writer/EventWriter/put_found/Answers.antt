use Rattle.std.proofs.Common.{Bool, List, OnOk, IfErr, ◌↔◌, rules, sym, subst}
use Rattle.std.specs.Result.{IsErr}
use Rattle.exi_bits.specs.Pens.{written_bits}
use Rattle.exi_events.specs.Reader.{state_of, IsReadyAt}
use Rattle.exi_events.specs.Writer.{Draft, drafted, draft_of, IsOffered, IsPut, HasNoRoom, IsNeeded}
use Rattle.exi_writing.specs.Meaning.{event_of}
use Rattle.exi_events.proofs.Drafts.{begun_in, left_in, told_more}
use Rattle.exi_events.proofs.writer.EventWriter.put_found.Goals as goal

pub put_event-put-requires-clause-offered : goal.put_event-put-requires-clause-offered
put_event-put-requires-clause-offered g c =
    subst (λ (bits : List Bool). IsOffered (g.P.Places.schema c.args.self.now.places.now) (state_of c.args.self.now.phase c.args.self.now.elements bits c.args.self.now.table.now.entries) c.args.event.now)
    (sym c.behind-pen.ensures.written) c.requires.offered

pub returns-clause-ready : goal.returns-clause-ready
returns-clause-ready g c =
    left_in c.put_event-put.new.phase c.put_event-put.new.elements c.put_event-put.new.table.entries
    (λ (d : Draft). IsReadyAt (g.P.Places.schema c.args.self.now.places.now) c.put_event-put.new.phase c.put_event-put.new.elements d.bits c.put_event-put.new.table)
    c.put_event-put.new.pen _ c.into_place-self.result (search rules) c.into_place-self.ensures.written c.put_event-put.ensures.ready

pub returns-clause-put : goal.returns-clause-put
returns-clause-put g c =
    left_in c.put_event-put.new.phase c.put_event-put.new.elements c.put_event-put.new.table.entries
    (λ (d : Draft). OnOk c.put_event-put.result (IsPut (g.P.Places.schema c.args.self.now.places.now) (draft_of c.args.self.now) d (event_of c.args.event.now)))
    c.put_event-put.new.pen _ c.into_place-self.result (search rules) c.into_place-self.ensures.written
    (begun_in c.args.self.now.phase c.args.self.now.elements c.args.self.now.table.now.entries
    (λ (d : Draft). OnOk c.put_event-put.result (IsPut (g.P.Places.schema c.args.self.now.places.now) d
    (drafted c.put_event-put.new.pen (state_of c.put_event-put.new.phase c.put_event-put.new.elements (written_bits c.put_event-put.new.pen) c.put_event-put.new.table.entries))
    (event_of c.args.event.now)))
    c.behind-pen.result c.args.self.now.room.now c.args.self.now.bits c.behind-pen.ensures.room c.behind-pen.ensures.written c.put_event-put.ensures.ok)

pub returns-clause-full : goal.returns-clause-full
returns-clause-full g c =
    begun_in c.args.self.now.phase c.args.self.now.elements c.args.self.now.table.now.entries
    (λ (d : Draft). IsErr c.put_event-put.result ↔ HasNoRoom (g.P.Places.schema c.args.self.now.places.now) d (event_of c.args.event.now))
    c.behind-pen.result c.args.self.now.room.now c.args.self.now.bits c.behind-pen.ensures.room c.behind-pen.ensures.written c.put_event-put.ensures.full

pub returns-clause-told : goal.returns-clause-told
returns-clause-told g c events h =
    told_more c.put_event-put.result (g.P.Places.schema c.args.self.now.places.now) events (draft_of c.args.self.now) _ (event_of c.args.event.now) h (returns-clause-put g c)

pub returns-clause-needed : goal.returns-clause-needed
returns-clause-needed g c =
    begun_in c.args.self.now.phase c.args.self.now.elements c.args.self.now.table.now.entries
    (λ (d : Draft). IfErr c.put_event-put.result (IsNeeded (g.P.Places.schema c.args.self.now.places.now) d (event_of c.args.event.now)))
    c.behind-pen.result c.args.self.now.room.now c.args.self.now.bits c.behind-pen.ensures.room c.behind-pen.ensures.written c.put_event-put.ensures.needed
