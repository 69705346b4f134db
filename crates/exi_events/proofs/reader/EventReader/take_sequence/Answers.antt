use Rattle.exi_writing.specs.Short.{tree_of}
use Rattle.exi_events.specs.Sequence.{values_of}
use Rattle.exi_events.proofs.Sequences.{three_taken, sequence_told, open_behind}
use Rattle.exi_events.proofs.Valued.{stays_ready}
use Rattle.exi_events.proofs.reader.EventReader.take_sequence.Goals as goal

pub returns-clause-values : goal.returns-clause-values
returns-clause-values g c =
    three_taken (g.P.Places.schema c.args.self.now.places.now) c.args.self.now.phase c.args.self.now.elements c.args.children.now c.requires.sequence c.args.self.now.reader.bits c.args.self.now.table.now.entries c.args.self.now.reader c.requires.inside c.pop.new.self c.take_three.new.reader.bits c.args.self.now.table.now.entries c.take_three.new.reader (values_of c.in_ok-values.values)
    (c.pop.ensures _ _ c.requires.sequence.elements_are) c.in_ok-values.ensures.same
    (c.in_ok-values.ensures.values (g.P.Places.schema c.args.self.now.places.now) c.requires.sequence.top.name c.requires.sequence.top.place c.requires.sequence.above c.args.self.now.table.now.entries c.requires.sequence.tells)

pub returns-clause-told : goal.returns-clause-told
returns-clause-told g c = λ events has.
    sequence_told _ _ (tree_of c.in_ok-values.values.first) (tree_of c.in_ok-values.values.second) (tree_of c.in_ok-values.values.third) (three_taken (g.P.Places.schema c.args.self.now.places.now) c.args.self.now.phase c.args.self.now.elements c.args.children.now c.requires.sequence c.args.self.now.reader.bits c.args.self.now.table.now.entries c.args.self.now.reader c.requires.inside c.pop.new.self c.take_three.new.reader.bits c.args.self.now.table.now.entries c.take_three.new.reader (values_of c.in_ok-values.values)
    (c.pop.ensures _ _ c.requires.sequence.elements_are) c.in_ok-values.ensures.same
    (c.in_ok-values.ensures.values (g.P.Places.schema c.args.self.now.places.now) c.requires.sequence.top.name c.requires.sequence.top.place c.requires.sequence.above c.args.self.now.table.now.entries c.requires.sequence.tells)) events has

pub returns-clause-ready : goal.returns-clause-ready
returns-clause-ready g c =
    stays_ready (g.P.Places.schema c.args.self.now.places.now) c.args.self.now.phase c.args.self.now.elements _ _ _ _ c.requires.inside c.in_ok-values.ensures.same c.requires.ready.sound
    (open_behind _ c.args.self.now.elements c.requires.sequence.above _ c.requires.sequence.top c.requires.sequence.elements_are (c.pop.ensures _ _ c.requires.sequence.elements_are))
    c.requires.ready.texts c.requires.ready.cap
