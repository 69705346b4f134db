use Rattle.exi_schema.specs.Told.{schema_of}
use Rattle.exi_events.specs.Writer.{draft_of}
use Rattle.tree_text.proofs.Stuck.{too_long, stuck_tried, failed_by}
use Rattle.tree_text.proofs.scan.put_said.Goals as goal

pub returns-in_default-clause-stuck : goal.returns-in_default-clause-stuck
returns-in_default-clause-stuck c failed events h = too_long (schema_of c.args.writer.now.places.now) events _ (draft_of c.args.writer.now) h c.in_default.ensures

pub returns-clause-stuck : goal.returns-clause-stuck
returns-clause-stuck c failed events h =
    let p = c.try_put.ensures in
    stuck_tried (schema_of c.args.writer.now.places.now) c.try_put.result events _ _ (draft_of c.args.writer.now) c.in-Some.ensures.0 h c.requires.room
    (p.not_offered c.requires.open_still).0 (λ f err. (p.full c.requires.open_still).0 (f, err)) (failed_by c.is_ok.result _ c.is_ok.ensures.negation failed)
