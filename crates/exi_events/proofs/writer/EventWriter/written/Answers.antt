use Rattle.exi_events.specs.Writer.{draft_of}
use Rattle.exi_events.proofs.Finished.{written_all}
use Rattle.exi_events.proofs.writer.EventWriter.written.Goals as goal

pub returns-clause-document : goal.returns-clause-document
returns-clause-document g c events put behind =
    written_all (g.P.Places.schema c.args.self.now.places.now) (draft_of c.args.self.now) _ events c.begun_bytes.ensures.holds put behind
