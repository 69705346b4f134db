use Rattle.std.proofs.Common.{sym, refl}
use Rattle.exi_events.proofs.Datatypes.{datatype_fits}
use Rattle.exi_events.proofs.Valued.{stays_ready, value_taken, value_told, value_unread}
use Rattle.exi_events.proofs.reader.EventReader.whole_value.Goals as goal

pub take_whole-requires-clause-datatype : goal.take_whole-requires-clause-datatype
take_whole-requires-clause-datatype g c = datatype_fits (g.P.Places.schema c.args.self.now.places.now) c.in-Some.field-0.top.place.kind c.in-Some.field-0.datatype (sym c.in-Some.ensures.simple)

pub returns-in-Some-clause-ready : goal.returns-in-Some-clause-ready
returns-in-Some-clause-ready g c =
    stays_ready (g.P.Places.schema c.args.self.now.places.now) c.args.self.now.phase c.args.self.now.elements _ _ _ _ c.in-Some.ensures.inside c.take_whole.ensures.same c.requires.ready.sound (c.take_whole.ensures.elements _) c.take_whole.ensures.texts c.take_whole.ensures.cap

pub returns-in-Some-clause-value : goal.returns-in-Some-clause-value
returns-in-Some-clause-value g c = λ name kind above d standing simple.
    value_taken (g.P.Places.schema c.args.self.now.places.now) _ _ _ _ _ _ _ _ c.in-Some.ensures.inside c.take_whole.ensures.same _ (c.take_whole.ensures.ok (g.P.Places.schema c.args.self.now.places.now) c.in-Some.ensures.simple)

pub returns-in-Some-clause-told : goal.returns-in-Some-clause-told
returns-in-Some-clause-told g c = λ events has.
    value_told (g.P.Places.schema c.args.self.now.places.now) _ _ _ _ _ _ _ _ c.in-Some.ensures.inside c.take_whole.ensures.same _ (c.take_whole.ensures.ok (g.P.Places.schema c.args.self.now.places.now) c.in-Some.ensures.simple) events has

pub returns-in-Some-clause-refusal : goal.returns-in-Some-clause-refusal
returns-in-Some-clause-refusal g c = λ payload events bits has.
    value_unread (g.P.Places.schema c.args.self.now.places.now) c.args.self.now.phase c.args.self.now.elements c.take_whole.new.elements c.args.self.now.reader.bits c.args.self.now.table.now.entries c.take_whole.new.table.entries c.args.self.now.reader c.take_whole.new.reader c.in-Some.ensures.inside c.take_whole.ensures.same _ (c.take_whole.ensures.refused (g.P.Places.schema c.args.self.now.places.now) c.in-Some.ensures.simple) payload events bits has

pub returns-in-None-clause-value : goal.returns-in-None-clause-value
returns-in-None-clause-value g c = λ name kind above d standing simple. absurd (c.in-None.ensures.none refl name kind above d standing simple)
