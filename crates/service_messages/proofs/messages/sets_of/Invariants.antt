use Rattle.std.proofs.Common.{◌≡◌, length, map, take}
use Rattle.std.specs.Prelude.{All}
use Rattle.service_messages.specs.Messages.{set_of}
use Rattle.service_messages.specs.Held.{IsHeldSet}
use Rattle.service_messages.proofs.messages.sets_of.Given as goal

abbrev pub invariant-loop-set : goal.invariant-loop-set
invariant-loop-set l = record {
  items : l.written.items ≡ map set_of (take l.set-index l.sets);
  count : length l.written.items ≡ l.set-index;
  held : All IsHeldSet l.written.items;
}
