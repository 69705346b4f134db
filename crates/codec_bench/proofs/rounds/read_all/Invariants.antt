use Rattle.std.proofs.Common.{◌≡◌}
use Rattle.exi_documents.specs.Values.{most_entries}
use Rattle.codec_bench.proofs.rounds.read_all.Given as goal

abbrev pub invariant-loop-payload : goal.invariant-loop-payload
invariant-loop-payload l = l.table.cap ≡ most_entries
