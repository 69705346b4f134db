-- Which tuples can be answered, as tests.
use Rattle.std.specs.Prelude.{ℕ, ◌+◌, ◌==◌, nat_le, Bool, true, false, ◌&&◌, List, [], ◌∷◌}
use Rattle.std.specs.List.{list_all}
use Rattle.iso_schedules.specs.declared.schedules.PMaxScheduleEntry.{PMaxScheduleEntry}
use Rattle.iso_schedules.specs.declared.schedules.SaScheduleTuple.{SaScheduleTuple}
use Rattle.schedules.specs.declared.power.Step.{Step}
use Rattle.schedules.specs.declared.power.Schedule.{Schedule}
use Rattle.schedule_answers.specs.Schedules.{entries_of, schedule_of, is_in_watts}

abbrev pub begins_at_zero : List Step → Bool
begins_at_zero [] = false
begins_at_zero (s ∷ steps) = s.start == 0

-- from `least` on, and none behind the end
abbrev pub rises : ℕ → ℕ → List Step → Bool
rises least end [] = true
rises least end (s ∷ steps) = nat_le least s.start && nat_le s.start end && rises (s.start + 1) end steps

abbrev pub passes : Schedule → Bool
passes schedule = begins_at_zero schedule.entries.items && rises 0 schedule.end schedule.entries.items

abbrev pub usable : SaScheduleTuple → Bool
usable tuple = nat_le 1 tuple.sa_schedule_tuple_id && passes (schedule_of tuple) && list_all (λ (e : PMaxScheduleEntry). is_in_watts e.p_max) (entries_of tuple)
