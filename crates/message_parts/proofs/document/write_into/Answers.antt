use Rattle.std.proofs.Common.{rules, ℕ, List, Bool, length, take, ap, sym, subst, arith}
use Rattle.exi_bits.specs.Written.{HoldsBits}
use Rattle.exi_schema.specs.Schemas.{PlainSchema}
use Rattle.exi_events.specs.Documents.{SpellsDocument, IsEncoding}
use Rattle.exi_events.specs.Values.{WritesValue}
use Rattle.exi_events.proofs.Drafts.{within_room}
use Rattle.message_parts.specs.Contents.{root_of}
use Rattle.message_parts.proofs.Written.{encodes}
use Rattle.message_parts.proofs.document.write_into.Goals as goal

pub returns-clause-written : goal.returns-clause-written
returns-clause-written g c =
    let s = g.P.Places.schema c.args.places.now in
    let m = c.args.message.now in
    let number = g.T.Root.number m in
    let tree = root_of (g.T.PutChoice.name m) (g.T.PutChoice.inside m) in
    let bits = c.requires.message.0 in
    let there = subst (λ (x : PlainSchema). SpellsDocument WritesValue x number tree bits) (sym (ap g.P.Places.schema c.new-writer.ensures.places)) c.requires.message.1 in
    let holds = subst (λ (b : List Bool). HoldsBits (take c.finish.result c.put_document.new.writer.room.now) b) (c.in_ok-put_document.ensures.put bits there) c.finish.ensures.holds in
    subst (λ (l : List ℕ). IsEncoding s tree (take c.finish.result l)) (search rules) (encodes s number tree bits _ c.requires.message.1 holds)

pub returns-clause-full : goal.returns-clause-full
returns-clause-full g c =
    let s = g.P.Places.schema c.args.places.now in
    let m = c.args.message.now in
    let number = g.T.Root.number m in
    let tree = root_of (g.T.PutChoice.name m) (g.T.PutChoice.inside m) in (
      λ wrong. absurd cc,
      λ more.
          let there = subst (λ (x : PlainSchema). SpellsDocument WritesValue x number tree more.0) (sym (ap g.P.Places.schema c.new-writer.ensures.places)) more.1 in
          let same = ap (λ (b : List Bool). length b) (c.in_ok-put_document.ensures.put more.0 there) in
          let within = within_room c.put_document.new.writer in
          let room = ap (λ (l : List ℕ). length l) c.new-writer.ensures.room in
          let long = more.2 in
          absurd (omega (arith, same, within, room, long, c.in_ok-put_document.ensures.room)),
    )
