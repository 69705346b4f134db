-- ISO 15118-2:2014, 8.4.3.8 (ChargeParameterDiscovery): schedules as they are written. That all entries have one power, from one second to
-- the next, each for a day, is own.
use Rattle.std.specs.Prelude.{ℕ, map, Some}
use Rattle.std.specs.List.{range_with_len}
use Rattle.session_words.specs.Amounts.{above_zero}
use Rattle.session_words.specs.declared.limits.Tuple.{Tuple}
use Rattle.iso_parts.specs.declared.values.PhysicalValue.{PhysicalValue}
use Rattle.iso_schedules.specs.declared.schedules.PMaxScheduleEntry.{PMaxScheduleEntry}
use Rattle.iso_schedules.specs.declared.schedules.SaScheduleTuple.{SaScheduleTuple}
use Rattle.iso_schedules.specs.declared.schedules.TimeInterval.TheVariants.{Relative}
use Rattle.iso_values.specs.Physical.{power_of}

abbrev pub entry_at : PhysicalValue → ℕ → PMaxScheduleEntry
entry_at power start = record { time_interval = Relative (record { start = start; duration = Some 86400 }); p_max = power }

abbrev pub schedule_tuple : Tuple → SaScheduleTuple
schedule_tuple t = record {
  sa_schedule_tuple_id = above_zero t.id;
  p_max_schedule = record { p_max_schedule_entry = record { items = map (entry_at (power_of t.least)) (range_with_len 0 t.entries) } };
}
