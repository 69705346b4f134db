use Rattle.std.proofs.Common.{◌≡◌, ◌∙◌, ap, arith, length, sym, subst, Bool, List, ℕ}
use Rattle.exi_schema.specs.Schemas.{PlainSchema}
use Rattle.exi_events.specs.Documents.{SpellsDocument}
use Rattle.exi_events.specs.Values.{WritesValue}
use Rattle.exi_events.proofs.Drafts.{within_room}
use Rattle.message_parts.specs.Contents.{root_of}
use Rattle.message_parts.proofs.document.bits_needed.Goals as goal

pub returns-in-Ok-clause-bits : goal.returns-in-Ok-clause-bits
returns-in-Ok-clause-bits g c = λ bits spelled.
    let m = c.args.message.now in
    let tree = root_of (g.T.PutChoice.name m) (g.T.PutChoice.inside m) in
    let there = subst (λ (x : PlainSchema). SpellsDocument WritesValue x (g.T.Root.number m) tree bits) (sym (ap g.P.Places.schema c.new-writer.ensures.places)) spelled in
    let same = ap (λ (b : List Bool). length b) (c.in-Ok.ensures.put bits there) in
    let all : c.from.result ≡ length bits = c.from.ensures ∙ c.bit_count.ensures ∙ same in
    let room = ap (λ (l : List ℕ). length l) c.new-writer.ensures.room in
    let within = within_room c.put_document.new.writer in
    record {
      exactly = λ few. all;
      more = λ many. absurd (omega (arith, many, same, within, room, c.in-Ok.ensures.room));
      most = omega (arith, all);
    }
