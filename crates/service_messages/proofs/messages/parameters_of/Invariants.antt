use Rattle.std.proofs.Common.{◌≡◌, length, map, take}
use Rattle.std.specs.Prelude.{All}
use Rattle.service_messages.specs.Messages.{parameter_of}
use Rattle.service_messages.specs.Held.{IsHeldParameter}
use Rattle.service_messages.proofs.messages.parameters_of.Given as goal

abbrev pub invariant-loop-pair : goal.invariant-loop-pair
invariant-loop-pair l = record {
  items : l.parameters.items ≡ map parameter_of (take l.pair-index l.pairs);
  count : length l.parameters.items ≡ l.pair-index;
  held : All IsHeldParameter l.parameters.items;
}
