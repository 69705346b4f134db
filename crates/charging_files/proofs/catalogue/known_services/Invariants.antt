use Rattle.std.proofs.Common.{◌≡◌, ◌+◌, drop, map}
use Rattle.plan_keys.specs.Keys.{table_of}
use Rattle.plan_keys.specs.Faults.{each_fault}
use Rattle.charging_files.specs.Catalogues.{service_strange}
use Rattle.charging_files.proofs.catalogue.known_services.Given as goal

abbrev pub invariant-loop-item : goal.invariant-loop-item
invariant-loop-item l = record {
  number : l.number ≡ l.item-index + 1;
  strange : each_fault service_strange 1 (map table_of l.items) ≡ each_fault service_strange l.number (map table_of (drop l.item-index l.items));
}
