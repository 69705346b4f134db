use Rattle.std.proofs.Common.{ap, arith, ◌∙◌, subst, sym, List, Bool, ◌++◌, ◌∷◌, refl}
use Rattle.exi_schema.specs.declared.places.Step.TheVariants.{End}
use Rattle.exi_writing.specs.Grammar.{Opened}
use Rattle.exi_writing.specs.Meaning.{texts_in}
use Rattle.exi_events.specs.Inside.{AreOpen}
use Rattle.exi_events.specs.Open.{opened_of}
use Rattle.exi_events.specs.Writer.{draft_of}
use Rattle.exi_events.proofs.Children.{end_put, ready_on, was_inside, is_around, goes_on, inside_open}
use Rattle.exi_events.proofs.Coded.{code_range, top_place}
use Rattle.exi_events.proofs.Limits.{few_code_bits}
use Rattle.exi_events.proofs.Giving.{end_at}
use Rattle.exi_events.proofs.writer.EventWriter.put_end.Goals as goal

pub find-requires : goal.find-requires
find-requires g c =
    let s = g.P.Places.schema c.args.self.now.places.now in
    top_place s.kinds c.args.self.now.elements c.in_ok-top.top c.in_ok-top.ensures.top (inside_open s c.args.self.now.phase c.args.self.now.elements c.in_ok-top.ensures.inside c.requires.ready.sound)

pub code_word-requires-clause-few : goal.code_word-requires-clause-few
code_word-requires-clause-few g c = few_code_bits _ _ c.in_ok-offer.ensures.width (omega (arith, c.in_ok-offer.ensures.few))

pub code_word-requires-clause-range : goal.code_word-requires-clause-range
code_word-requires-clause-range g c =
    code_range (g.P.Places.schema c.args.self.now.places.now) c.in_ok-top.top.place c.in_ok-offer.offer.step c.in_ok-offer.offer.code c.in_ok-offer.offer.code c.in_ok-offer.offer.width refl c.in_ok-offer.ensures.width c.in_ok-offer.ensures.offered

pub returns-clause-ready : goal.returns-clause-ready
returns-clause-ready g c =
    let s = g.P.Places.schema c.args.self.now.places.now in
    let e = c.put_word.ensures in
    let is = c.in_ok-top.ensures.inside in
    let has = c.in_ok-top.ensures.top in
    let are : AreOpen s.kinds (opened_of c.in_ok-top.top ∷ has.0) = subst (λ (es : List Opened). AreOpen s.kinds es) has.1 (inside_open s c.args.self.now.phase c.args.self.now.elements is c.requires.ready.sound) in
    let left = c.pop.ensures _ has.0 (goes_on c.args.self.now.elements c.put_word.new.self.elements c.in_ok-top.top c.in_ok-top.top.place has e.goes) in
    ready_on s (g.P.Places.schema c.put_word.new.self.places.now) c.args.self.now.phase c.put_word.new.self.phase c.args.self.now.elements c.pop.new.self (draft_of c.args.self.now).bits c.in_ok-word.word (draft_of c.put_word.new.self).bits c.args.self.now.table.now c.put_word.new.self.table.now
    (ap g.P.Places.schema e.lent.places) is e.phase e.written e.table c.requires.ready
    (subst (λ (es : List Opened). AreOpen s.kinds es) (sym left) are.2)

pub returns-clause-put : goal.returns-clause-put
returns-clause-put g c =
    let s = g.P.Places.schema c.args.self.now.places.now in
    let e = c.put_word.ensures in
    let top = c.in_ok-top.top in
    let is = c.in_ok-top.ensures.inside in
    let has = c.in_ok-top.ensures.top in
    let offer = c.in_ok-offer.offer in
    let old = draft_of c.args.self.now in
    let table = c.args.self.now.table.now in
    let bits = (draft_of c.put_word.new.self).bits in
    let left = c.pop.ensures _ has.0 (goes_on c.args.self.now.elements c.put_word.new.self.elements top top.place has e.goes) in
    end_put s old _ (opened_of top) has.0 (texts_in old.bits table.entries) offer.step offer.code offer.width
    (was_inside c.args.self.now.phase c.args.self.now.elements top old.bits table.entries is has)
    (is_around c.args.self.now.phase c.put_word.new.self.phase c.pop.new.self has.0 old.bits c.in_ok-word.word bits table c.put_word.new.self.table.now is e.phase e.written e.table c.requires.ready.texts left)
    (record { written = e.written ∙ ap (λ (l : List Bool). old.bits ++ l) c.in_ok-word.ensures.bits; room = e.room })
    c.in_ok-offer.ensures.width c.in_ok-offer.ensures.offered c.in_ok-offer.ensures.meant

pub returns-in_err-top-clause-whole : goal.returns-in_err-top-clause-whole
returns-in_err-top-clause-whole g c none top room offers = c.in_err-top.ensures.none refl top room

pub returns-in_err-offer-clause-whole : goal.returns-in_err-offer-clause-whole
returns-in_err-offer-clause-whole g c none top room offers =
    let here = end_at (g.P.Places.schema c.args.self.now.places.now).kinds top c.in_ok-top.top c.args.self.now.elements room.above room.elements_are c.in_ok-top.ensures.top offers in
    c.in_err-offer.ensures.none refl here.0 End here.1 tt

pub returns-in_err-word-clause-whole : goal.returns-in_err-word-clause-whole
returns-in_err-word-clause-whole g c none top room offers = absurd (c.in_err-word.ensures.some refl)
