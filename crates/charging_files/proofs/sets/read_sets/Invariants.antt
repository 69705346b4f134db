use Rattle.std.proofs.Common.{◌≡◌, ◌≤◌, ◌+◌, length, take, drop, map}
use Rattle.std.specs.Prelude.{All}
use Rattle.arrayvec.specs.ArrayVec.{array_vec_len}
use Rattle.plan_keys.specs.Keys.{table_of}
use Rattle.plan_keys.specs.Faults.{each_fault}
use Rattle.service_spec.specs.Services.{said_set_of}
use Rattle.service_spec.specs.Sets.{IsOffered}
use Rattle.charging_files.specs.Catalogues.{set_in, set_wrong}
use Rattle.charging_files.proofs.sets.read_sets.Given as goal

abbrev pub invariant-loop-item : goal.invariant-loop-item
invariant-loop-item l = record {
  number : l.number ≡ l.item-index + 1;
  count : array_vec_len l.sets ≡ l.item-index;
  few : length l.sets.items ≤ 16;
  said : map said_set_of l.sets.items ≡ map set_in (map table_of (take l.item-index l.items));
  each : All IsOffered l.sets.items;
  wrong : each_fault (set_wrong l.before) 1 (map table_of l.items) ≡ each_fault (set_wrong l.before) l.number (map table_of (drop l.item-index l.items));
}
