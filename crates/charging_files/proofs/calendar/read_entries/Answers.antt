use Rattle.std.proofs.Common.{arith}
use Rattle.std.proofs.lemmas.Grind.{common_steps}
use Rattle.std.proofs.lemmas.List.{map_more}
use Rattle.std.proofs.lemmas.Slice.Zip.{all_zipped_more}
use Rattle.plan_keys.specs.Keys.{Holds, table_of}
use Rattle.charging_files.specs.ScheduleFiles.{entry_file}
use Rattle.charging_files.proofs.Rising.{entries_more, is_calendar}
use Rattle.charging_files.proofs.calendar.read_entries.Goals as goal

pub loop-item-preserved : goal.loop-item-preserved
loop-item-preserved c = record {
  number = omega arith;
  count = grind (arith, common_steps);
  few = grind (arith, common_steps);
  follow = rw c.push.ensures.items (entries_more _ _ _ c.loop-item.invariant.follow c.in_ok-entry.ensures.follows c.in_ok-entry.ensures.within);
  entries =
      let zipped = all_zipped_more (Holds entry_file) _ _ _ _ c.loop-item.invariant.entries c.in_ok-entry.ensures.entry in
      let more = map_more table_of c.args.items.now c.loop-item.item-index c.item-item.result (omega arith) in
      rw (more, ← c.item-item.is, c.push.ensures.items) zipped;
  wrong = grind (arith, common_steps);
  unknown = grind (arith, common_steps);
}

pub returns-clause-calendar : goal.returns-clause-calendar
returns-clause-calendar c = λ some. is_calendar _ _ c.loop-item.invariant.follow (omega arith) c.loop-item.invariant.few
