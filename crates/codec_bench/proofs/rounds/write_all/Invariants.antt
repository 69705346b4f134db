use Rattle.std.proofs.Common.{◌≡◌}
use Rattle.exi_documents.specs.Values.{most_entries}
use Rattle.codec_bench.proofs.rounds.write_all.Given as goal

abbrev pub invariant-loop-message : goal.invariant-loop-message
invariant-loop-message l = l.table.cap ≡ most_entries
