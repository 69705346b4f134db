use Rattle.exi_events.proofs.OptionalTaken.{optional_taken, optional_told, other_name}
use Rattle.exi_events.proofs.Sequences.{open_behind}
use Rattle.exi_events.proofs.Valued.{stays_ready}
use Rattle.exi_events.proofs.reader.EventReader.take_optional_sequence.Goals as goal

pub returns-clause-values : goal.returns-clause-values
returns-clause-values g c =
    let s = g.P.Places.schema c.args.self.now.places.now in
    let q = c.requires.sequence in
    optional_taken s c.args.self.now.phase c.args.self.now.elements c.args.second c.args.children.now q c.args.self.now.reader.bits c.args.self.now.table.now.entries c.args.self.now.reader c.requires.inside
    c.pop.new.self c.take_optional.new.reader.bits c.args.self.now.table.now.entries c.take_optional.new.reader c.in_ok-values.values
    (c.pop.ensures _ _ q.elements_are) c.in_ok-values.ensures.same
    (c.in_ok-values.ensures.values s q.top.name q.top.place q.above c.args.self.now.table.now.entries q.sequence
    (other_name s c.args.self.now.phase c.args.self.now.elements c.args.second c.args.children.now q c.args.self.now.reader.bits c.args.self.now.table.now.entries c.args.self.now.reader c.requires.inside))

pub returns-clause-told : goal.returns-clause-told
returns-clause-told g c = λ events has. optional_told _ _ c.args.second c.in_ok-values.values (returns-clause-values g c) events has

pub returns-clause-ready : goal.returns-clause-ready
returns-clause-ready g c =
    stays_ready (g.P.Places.schema c.args.self.now.places.now) c.args.self.now.phase c.args.self.now.elements _ _ _ _ c.requires.inside c.in_ok-values.ensures.same c.requires.ready.sound
    (open_behind _ c.args.self.now.elements c.requires.sequence.above _ c.requires.sequence.top c.requires.sequence.elements_are (c.pop.ensures _ _ c.requires.sequence.elements_are))
    c.requires.ready.texts c.requires.ready.cap
