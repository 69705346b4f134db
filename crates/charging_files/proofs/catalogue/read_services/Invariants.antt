use Rattle.std.proofs.Common.{◌≡◌, ◌+◌, drop, map}
use Rattle.std.specs.Prelude.{IfSome, option_map}
use Rattle.std.specs.Option.{option_or}
use Rattle.plan_keys.specs.Keys.{table_of}
use Rattle.plan_keys.specs.Faults.{each_fault}
use Rattle.charging_files.specs.Catalogues.{said_service_of, service_in, first_of, service_wrong}
use Rattle.service_spec.specs.Sets.{IsService}
use Rattle.charging_files.proofs.catalogue.read_services.Given as goal

abbrev pub invariant-loop-item : goal.invariant-loop-item
invariant-loop-item l = record {
  number : l.number ≡ l.item-index + 1;
  said : first_of l.id (map service_in (map table_of l.items)) ≡ option_or (option_map said_service_of l.kept) (first_of l.id (map service_in (map table_of (drop l.item-index l.items))));
  each : IfSome l.kept IsService;
  wrong : each_fault service_wrong 1 (map table_of l.items) ≡ each_fault service_wrong l.number (map table_of (drop l.item-index l.items));
}
