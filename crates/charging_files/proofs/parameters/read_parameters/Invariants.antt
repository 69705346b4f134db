use Rattle.std.proofs.Common.{◌≡◌, ◌≤◌, ◌+◌, length, take, drop, map}
use Rattle.std.specs.Prelude.{All}
use Rattle.arrayvec.specs.ArrayVec.{array_vec_len}
use Rattle.plan_keys.specs.Keys.{table_of}
use Rattle.plan_keys.specs.Faults.{each_fault}
use Rattle.service_spec.specs.Services.{said_of}
use Rattle.service_spec.specs.Wants.{IsPair}
use Rattle.charging_files.specs.Catalogues.{parameter_in, parameter_wrong}
use Rattle.charging_files.proofs.parameters.read_parameters.Given as goal

abbrev pub invariant-loop-item : goal.invariant-loop-item
invariant-loop-item l = record {
  number : l.number ≡ l.item-index + 1;
  count : array_vec_len l.parameters ≡ l.item-index;
  few : length l.parameters.items ≤ 16;
  said : map said_of l.parameters.items ≡ map parameter_in (map table_of (take l.item-index l.items));
  each : All IsPair l.parameters.items;
  wrong : each_fault (parameter_wrong l.before) 1 (map table_of l.items) ≡ each_fault (parameter_wrong l.before) l.number (map table_of (drop l.item-index l.items));
}
