use Rattle.std.proofs.Common.{List, ℕ, subst}
use Rattle.exi_bits.specs.Written.{HoldsBits}
use Rattle.exi_events.specs.Writer.{draft_of}
use Rattle.exi_events.proofs.Finished.{written_all}
use Rattle.exi_events.proofs.writer.EventWriter.finish.Goals as goal

pub returns-clause-document : goal.returns-clause-document
returns-clause-document g c events put behind =
    let draft = draft_of c.args.self in
    written_all (g.P.Places.schema c.args.self.places.now) draft _ events (subst (λ (l : List ℕ). HoldsBits l draft.bits) c.written.ensures.front c.written.ensures.holds) put behind
