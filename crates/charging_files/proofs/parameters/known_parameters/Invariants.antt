use Rattle.std.proofs.Common.{◌≡◌, ◌+◌, drop, map}
use Rattle.plan_keys.specs.Keys.{table_of}
use Rattle.plan_keys.specs.Faults.{each_fault}
use Rattle.charging_files.specs.Catalogues.{parameter_strange}
use Rattle.charging_files.proofs.parameters.known_parameters.Given as goal

abbrev pub invariant-loop-item : goal.invariant-loop-item
invariant-loop-item l = record {
  number : l.number ≡ l.item-index + 1;
  strange : each_fault (parameter_strange l.before) 1 (map table_of l.items) ≡ each_fault (parameter_strange l.before) l.number (map table_of (drop l.item-index l.items));
}
