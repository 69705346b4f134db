use Rattle.std.proofs.Common.{arith}
use Rattle.charge_world.specs.declared.entry.Entry.{Entry}
use Rattle.charge_world.specs.declared.entry.Entry.TheVariants as entry
use Rattle.endpoint.proofs.Written.{text_line}
use Rattle.endpoint.proofs.lines.write_lost.Goals as goal

pub returns-clause-traced : goal.returns-clause-traced
returns-clause-traced g c n past number =
    let e : Entry = entry.Lost in
    text_line past _ _ e n c.args.hearing c.write.result (omega (arith, number)) c.write.ensures.ok c.write.ensures.failed
