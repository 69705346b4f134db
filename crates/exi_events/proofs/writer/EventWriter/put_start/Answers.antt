use Rattle.std.proofs.Common.{ap, arith, ◌∙◌, List, Bool, ◌++◌, ◌∷◌, refl}
use Rattle.exi_spec.specs.Bits.{number_bits}
use Rattle.exi_schema.specs.declared.tables.MemberStanding.TheVariants.{Taken}
use Rattle.std.proofs.Common.{false, length}
use Rattle.exi_writing.specs.Documents.{element, first}
use Rattle.exi_writing.specs.Grammar.{Opened, opened}
use Rattle.exi_writing.specs.Meaning.{texts_in}
use Rattle.exi_events.specs.Open.{opened_of}
use Rattle.exi_events.specs.Writer.{draft_of}
use Rattle.exi_events.proofs.Children.{start_put, ready_on, was_inside, is_around, goes_on, inside_open, child_code}
use Rattle.exi_events.proofs.Coded.{code_range}
use Rattle.exi_events.proofs.Innermost.{push_room, push_open}
use Rattle.exi_events.proofs.Limits.{few_code_bits}
use Rattle.exi_events.proofs.Nexts.{next_stays}
use Rattle.exi_events.proofs.Giving.{start_at}
use Rattle.exi_events.proofs.writer.EventWriter.put_start.Goals as goal

pub code_word-requires-clause-few : goal.code_word-requires-clause-few
code_word-requires-clause-few g c = few_code_bits _ _ c.in_ok-child.ensures.child.is_width (omega (arith, c.in_ok-child.ensures.child.few))

pub code_word-requires-clause-range : goal.code_word-requires-clause-range
code_word-requires-clause-range g c =
    code_range (g.P.Places.schema c.args.self.now.places.now) c.in_ok-top.top.place (element c.args.name c.in_ok-child.child.kind c.in_ok-child.child.next) c.in_ok-child.child.code c.in_ok-child.child.code c.in_ok-child.child.width refl c.in_ok-child.ensures.child.is_width c.in_ok-child.ensures.child.offered

pub push-requires : goal.push-requires
push-requires g c =
    let s = g.P.Places.schema c.args.self.now.places.now in
    let e = c.put_word.ensures in
    let child = c.in_ok-child.child in
    (push_room s.kinds (length s.names) c.args.self.now.elements c.put_word.new.self.elements c.in_ok-top.top c.args.name child.kind child.next Taken false c.in_ok-top.ensures.top e.goes
    (inside_open s c.args.self.now.phase c.args.self.now.elements c.in_ok-top.ensures.inside c.requires.ready.sound) c.in_ok-child.ensures.child.of_schema).0

pub returns-clause-ready : goal.returns-clause-ready
returns-clause-ready g c =
    let s = g.P.Places.schema c.args.self.now.places.now in
    let e = c.put_word.ensures in
    let is = c.in_ok-top.ensures.inside in
    let top = c.in_ok-top.top in
    let child = c.in_ok-child.child in
    ready_on s (g.P.Places.schema c.put_word.new.self.places.now) c.args.self.now.phase c.put_word.new.self.phase c.args.self.now.elements c.push.new.self (draft_of c.args.self.now).bits c.in_ok-word.word (draft_of c.put_word.new.self).bits c.args.self.now.table.now c.put_word.new.self.table.now
    (ap g.P.Places.schema e.lent.places) is e.phase e.written e.table c.requires.ready
    (push_open s c.args.self.now.elements c.put_word.new.self.elements c.push.new.self top c.args.name child.kind child.next c.first.result Taken false c.in_ok-top.ensures.top e.goes c.push.ensures c.first.ensures.first
    (c.first.ensures.of_schema s c.in_ok-child.ensures.child.of_schema.1)
    (inside_open s c.args.self.now.phase c.args.self.now.elements is c.requires.ready.sound) c.in_ok-child.ensures.child.of_schema
    (next_stays s.kinds top.place child.code (element c.args.name child.kind child.next) c.in_ok-child.ensures.child.offered))

pub returns-clause-put : goal.returns-clause-put
returns-clause-put g c =
    let s = g.P.Places.schema c.args.self.now.places.now in
    let e = c.put_word.ensures in
    let top = c.in_ok-top.top in
    let is = c.in_ok-top.ensures.inside in
    let has = c.in_ok-top.ensures.top in
    let child = c.in_ok-child.child in
    let old = draft_of c.args.self.now in
    let table = c.args.self.now.table.now in
    let bits = (draft_of c.put_word.new.self).bits in
    start_put s old _ (opened_of top) has.0 child.next (texts_in old.bits table.entries) c.args.name child.kind (number_bits child.width child.code)
    (was_inside c.args.self.now.phase c.args.self.now.elements top old.bits table.entries is has)
    (is_around c.args.self.now.phase c.put_word.new.self.phase c.push.new.self (opened c.args.name (first child.kind) ∷ opened top.name child.next ∷ has.0) old.bits c.in_ok-word.word bits table c.put_word.new.self.table.now is e.phase e.written e.table c.requires.ready.texts
    (c.push.ensures ∙ ap (λ p. opened c.args.name p ∷ c.put_word.new.self.elements) c.first.ensures.first ∙ ap (λ (es : List Opened). opened c.args.name (first child.kind) ∷ es) (goes_on c.args.self.now.elements c.put_word.new.self.elements top child.next has e.goes)))
    (record { written = e.written ∙ ap (λ (l : List Bool). old.bits ++ l) c.in_ok-word.ensures.bits; room = e.room })
    (child_code s top.place c.args.name child c.in_ok-child.ensures.child)

pub returns-in_err-top-clause-whole : goal.returns-in_err-top-clause-whole
returns-in_err-top-clause-whole g c none top room offers = c.in_err-top.ensures.none refl top room

pub returns-in_err-child-clause-whole : goal.returns-in_err-child-clause-whole
returns-in_err-child-clause-whole g c none top room offers =
    c.in_err-child.ensures.none refl (start_at (g.P.Places.schema c.args.self.now.places.now).kinds top c.in_ok-top.top c.args.name c.args.self.now.elements room.above room.elements_are c.in_ok-top.ensures.top offers)

pub returns-in_err-word-clause-whole : goal.returns-in_err-word-clause-whole
returns-in_err-word-clause-whole g c none top room offers = absurd (c.in_err-word.ensures.some refl)
