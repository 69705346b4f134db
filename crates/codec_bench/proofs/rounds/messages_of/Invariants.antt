use Rattle.std.proofs.Common.{◌≡◌}
use Rattle.std.specs.List.{AllByRecursion}
use Rattle.exi_documents.specs.Values.{most_entries}
use Rattle.app_documents.specs.Trees.{IsMessage}
use Rattle.app_protocol.specs.Messages.{message_of}
use Rattle.codec_bench.proofs.rounds.messages_of.Given as goal

abbrev pub invariant-loop-payload : goal.invariant-loop-payload
invariant-loop-payload l =
    (l.table.cap ≡ most_entries) × AllByRecursion (λ m. IsMessage (message_of m)) l.messages.items
