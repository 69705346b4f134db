use Rattle.std.proofs.Common.{ap, refl, ◌∙◌, List, Bool, ◌++◌, ◌∷◌}
use Rattle.exi_spec.specs.Bits.{number_bits}
use Rattle.exi_writing.specs.Meaning.{texts_in}
use Rattle.exi_writing.specs.Grammar.{opened}
use Rattle.exi_events.specs.Open.{opened_of}
use Rattle.exi_events.specs.Writer.{draft_of}
use Rattle.exi_events.proofs.Children.{three_put, ready_on, was_inside, is_around, goes_on, child_open, child_code, inside_open}
use Rattle.exi_events.proofs.Fitting.{three_at}
use Rattle.exi_events.proofs.Giving.{start_at, top_place}
use Rattle.exi_events.proofs.writer.EventWriter.put_three.Goals as goal

pub returns-clause-ready : goal.returns-clause-ready
returns-clause-ready g c =
    let s = g.P.Places.schema c.args.self.now.places.now in
    let e = c.put_word.ensures in
    let is = c.in_ok-top.ensures.inside in
    ready_on s (g.P.Places.schema c.put_word.new.self.places.now) c.args.self.now.phase c.put_word.new.self.phase c.args.self.now.elements c.put_word.new.self.elements (draft_of c.args.self.now).bits c.in_ok-word.word (draft_of c.put_word.new.self).bits c.args.self.now.table.now c.put_word.new.self.table.now
    (ap g.P.Places.schema e.lent.places) is e.phase e.written e.table c.requires.ready
    (child_open s c.args.self.now.phase c.args.self.now.elements c.put_word.new.self.elements c.in_ok-top.top c.args.name c.in_ok-child.child is c.requires.ready.sound c.in_ok-top.ensures.top e.goes c.in_ok-child.ensures.child)

pub returns-clause-put : goal.returns-clause-put
returns-clause-put g c =
    let s = g.P.Places.schema c.args.self.now.places.now in
    let e = c.put_word.ensures in
    let top = c.in_ok-top.top in
    let is = c.in_ok-top.ensures.inside in
    let has = c.in_ok-top.ensures.top in
    let child = c.in_ok-child.child in
    let old = draft_of c.args.self.now in
    let new = draft_of c.put_word.new.self in
    let table = c.args.self.now.table.now in
    let w = c.in_ok-word.ensures.word in
    three_put s old new (opened_of top) has.0 child.next (texts_in old.bits table.entries) c.args.name child.kind c.args.values.now (number_bits child.width child.code) w.0
    (was_inside c.args.self.now.phase c.args.self.now.elements top old.bits table.entries is has)
    (is_around c.args.self.now.phase c.put_word.new.self.phase c.put_word.new.self.elements (opened top.name child.next ∷ has.0) old.bits c.in_ok-word.word new.bits table c.put_word.new.self.table.now is e.phase e.written e.table c.requires.ready.texts
    (goes_on c.args.self.now.elements c.put_word.new.self.elements top child.next has e.goes))
    (record { written = e.written ∙ ap (λ (l : List Bool). old.bits ++ l) w.1; room = e.room })
    (child_code s top.place c.args.name child c.in_ok-child.ensures.child)
    w.2

pub returns-in_err-top-clause-whole : goal.returns-in_err-top-clause-whole
returns-in_err-top-clause-whole g c none keeps top room offers = c.in_err-top.ensures.none refl top room

pub returns-in_err-child-clause-whole : goal.returns-in_err-child-clause-whole
returns-in_err-child-clause-whole g c none keeps top room offers =
    c.in_err-child.ensures.none refl (start_at (g.P.Places.schema c.args.self.now.places.now).kinds top c.in_ok-top.top c.args.name c.args.self.now.elements room.above room.elements_are c.in_ok-top.ensures.top (offers.code, offers.kind, offers.next, offers.offered))

pub returns-in_err-word-clause-whole : goal.returns-in_err-word-clause-whole
returns-in_err-word-clause-whole g c none keeps top room offers =
    let s = g.P.Places.schema c.args.self.now.places.now in
    let has = c.in_ok-top.ensures.top in
    let at = top_place s.kinds c.args.self.now.elements c.in_ok-top.top (inside_open s c.args.self.now.phase c.args.self.now.elements c.in_ok-top.ensures.inside c.requires.ready.sound) has in
    c.in_err-word.ensures.none refl keeps (three_at s top c.in_ok-top.top c.args.name c.in_ok-child.child c.args.self.now.elements room.above room.elements_are has at c.in_ok-child.ensures.child c.args.values.now offers)
