-- DIN SPEC 70121:2014 9.4 (ChargeParameterDiscovery): schedules as they are written. That all entries have one power, from one second to the
-- next, each for a day, is own.
use Rattle.std.specs.Prelude.{ℕ, ℤ, pos, map, Some}
use Rattle.std.specs.List.{range_with_len}
use Rattle.session_words.specs.declared.limits.Tuple.{Tuple}
use Rattle.din_power.specs.declared.schedules.PMaxScheduleEntry.{PMaxScheduleEntry}
use Rattle.din_power.specs.declared.schedules.SaScheduleTuple.{SaScheduleTuple}
use Rattle.din_power.specs.declared.schedules.TimeInterval.TheVariants.{Relative}

abbrev pub entry_at : ℤ → ℕ → PMaxScheduleEntry
entry_at power start = record { time_interval = Relative (record { start = start; duration = Some 86400 }); p_max = power }

abbrev pub schedule_tuple : Tuple → SaScheduleTuple
schedule_tuple t = record {
  sa_schedule_tuple_id = t.id;
  p_max_schedule = record {
    p_max_schedule_id = pos 1;
    p_max_schedule_entry = record { items = map (entry_at (pos t.least.size)) (range_with_len 0 t.entries) };
  };
}
