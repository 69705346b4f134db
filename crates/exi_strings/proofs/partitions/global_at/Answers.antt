use Rattle.exi_strings.proofs.Entries.{global_get, global_none}
use Rattle.exi_strings.proofs.partitions.global_at.Goals as goal

pub returns-in-Some : goal.returns-in-Some
returns-in-Some g c =
    let h = c.in-Some.ensures.lookup in
    global_get c.args.entries.now c.args.i c.in-Some.entry.now h.3.0 h.1

pub returns-in-None : goal.returns-in-None
returns-in-None g c = global_none c.args.entries.now c.args.i c.in-None.ensures.lookup.3
