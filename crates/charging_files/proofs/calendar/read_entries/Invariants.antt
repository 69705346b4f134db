use Rattle.std.proofs.Common.{◌≡◌, ◌≤◌, ◌+◌, length, take, drop, map, None}
use Rattle.std.specs.Prelude.{MatchResult}
use Rattle.std.specs.List.{AllZip}
use Rattle.arrayvec.specs.ArrayVec.{array_vec_len}
use Rattle.plan_keys.specs.Keys.{Holds, table_of}
use Rattle.plan_keys.specs.Faults.{each_fault, Tells}
use Rattle.charging_files.specs.ScheduleFiles.{entry_file, entries_wrong, entry_unknown}
use Rattle.charging_files.proofs.Rising.{AreEntries}
use Rattle.charging_files.proofs.calendar.read_entries.Given as goal

abbrev pub invariant-loop-item : goal.invariant-loop-item
invariant-loop-item l = record {
  number : l.number ≡ l.item-index + 1;
  count : array_vec_len l.entries ≡ l.item-index;
  few : length l.entries.items ≤ 24;
  follow : AreEntries l.entries.items l.before;
  entries : AllZip (Holds entry_file) (map table_of (take l.item-index l.items)) l.entries.items;
  wrong : entries_wrong None 1 (map table_of l.items) ≡ entries_wrong l.before l.number (map table_of (drop l.item-index l.items));
  unknown : MatchResult l.unknown
      (λ _. each_fault entry_unknown 1 (map table_of l.items) ≡ each_fault entry_unknown l.number (map table_of (drop l.item-index l.items)))
      (λ fault. Tells fault (each_fault entry_unknown 1 (map table_of l.items)));
}
