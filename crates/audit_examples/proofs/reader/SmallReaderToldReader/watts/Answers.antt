use Rattle.std.proofs.Common.{refl, sym, ◌∙◌}
use Rattle.audit_watts.specs.Values.{no_watts}
use Rattle.audit_examples.proofs.reader.SmallReaderToldReader.watts.Goals as goal

pub returns-then-is_reply : goal.returns-then-is_reply
returns-then-is_reply c =
    (no_watts, (c.requires.short, sym c.is_reply.ensures ∙ c.if-is_reply.true, refl), c.new.ensures c.args.plan.now c.args.told.dialect c.args.told.watts)
