use Rattle.std.proofs.Common.{ℕ, ◌+◌, ◌∙◌, List, refl, sym, subst, ap}
use Rattle.exi_bits.specs.Pens.{written_bits}
use Rattle.exi_writing.specs.Grammar.{Opened, State}
use Rattle.exi_events.specs.declared.reader.Phase.{Phase}
use Rattle.exi_events.specs.Reader.{standing_of, state_of}
use Rattle.exi_events.specs.Writer.{drafted, IsFoundAt, IsOffered, HasBits}
use Rattle.exi_writing.specs.Meaning.{event_of}
use Rattle.exi_events.proofs.Measured.{state_stays, passes}
use Rattle.exi_events.proofs.Standings.{sound_stands}
use Rattle.exi_events.proofs.putting.put_event.Goals as goal

pub event_bits-requires-clause-found : goal.event_bits-requires-clause-found
event_bits-requires-clause-found g c =
    let s = g.P.Places.schema c.args.places.now in
    let stays = c.in-Err.ensures.stays in
    subst (λ (p : Phase). IsFoundAt s (standing_of p c.put_parts.new.elements) c.args.found c.args.event.now) (sym stays.0)
    (subst (λ (es : List Opened). IsFoundAt s (standing_of c.args.phase.now es) c.args.found c.args.event.now) (sym stays.1) c.requires.found)

pub event_bits-requires-clause-offered : goal.event_bits-requires-clause-offered
event_bits-requires-clause-offered g c =
    let stays = c.in-Err.ensures.stays in
    subst (λ (state : State). IsOffered (g.P.Places.schema c.args.places.now) state c.args.event.now)
    (sym (state_stays c.args.phase.now c.put_parts.new.phase c.args.elements.now c.put_parts.new.elements c.args.pen.now c.put_parts.new.pen c.args.table.now c.put_parts.new.table stays.0 stays.1 stays.2 c.in-Err.ensures.more c.requires.ready.texts))
    c.requires.offered

pub returns-in-Err-clause-needed : goal.returns-in-Err-clause-needed
returns-in-Err-clause-needed g c =
    let stays = c.in-Err.ensures.stays in
    let has = subst (λ (state : State). HasBits (g.P.Places.schema c.args.places.now) state (event_of c.args.event.now) c.event_bits.result)
    (state_stays c.args.phase.now c.put_parts.new.phase c.args.elements.now c.put_parts.new.elements c.args.pen.now c.put_parts.new.pen c.args.table.now c.put_parts.new.table stays.0 stays.1 stays.2 c.in-Err.ensures.more c.requires.ready.texts)
    c.event_bits.ensures.bits in
    (c.event_bits.result, has, ap (λ (n : ℕ). n + c.event_bits.result) (c.from.ensures ∙ c.place-before.ensures.place))

pub returns-in-Err-clause-bits : goal.returns-in-Err-clause-bits
returns-in-Err-clause-bits g c =
    let s = g.P.Places.schema c.args.places.now in
    let draft = drafted c.args.pen.now (state_of c.args.phase.now c.args.elements.now (written_bits c.args.pen.now) c.args.table.now.entries) in
    passes s draft (event_of c.args.event.now) _ (sound_stands s c.args.phase.now c.args.elements.now c.requires.ready.sound) (c.in-Err.ensures.full.0 refl) (returns-in-Err-clause-needed g c)
