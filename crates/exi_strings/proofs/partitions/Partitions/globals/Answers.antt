use Rattle.std.proofs.Common.{sym}
use Rattle.exi_strings.proofs.Entries.{length-global_of}
use Rattle.exi_strings.proofs.partitions.Partitions.globals.Goals as goal

pub returns-clause-count : goal.returns-clause-count
returns-clause-count g c = rw (← c.self.view_is, c.as_slice-entries.ensures.value) (sym (length-global_of c.self.inside.entries.items))
