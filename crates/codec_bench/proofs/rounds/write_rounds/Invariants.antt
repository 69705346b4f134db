use Rattle.std.proofs.Common.{◌≡◌}
use Rattle.exi_documents.specs.Values.{most_entries}
use Rattle.codec_bench.proofs.rounds.write_rounds.Given as goal

abbrev pub invariant-loop : goal.invariant-loop
invariant-loop l = l.table.cap ≡ most_entries
