-- ISO 15118-2:2014 8.5.2, schedules and charge parameters of a post: what elements of these types contain, part by part.
use Rattle.std.specs.Prelude.{ℕ, pos, map, List, [], ◌∷◌}
use Rattle.exi_documents.specs.Trees.{Number}
use Rattle.message_parts.specs.Contents.{Inside, Part, Of, one, perhaps, each, mapped, holding}
use Rattle.iso_schema.specs.declared.names.TheConstants.{SA_SCHEDULE_LIST, SA_SCHEDULE_TUPLE, SA_SCHEDULE_TUPLE_ID, P_MAX_SCHEDULE, P_MAX_SCHEDULE_ENTRY, RELATIVE_TIME_INTERVAL, P_MAX, START, DURATION}
use Rattle.iso_schema.specs.declared.kinds.TheConstants.{SA_SCHEDULE_LIST_KIND, RELATIVE_TIME_INTERVAL_KIND}
use Rattle.iso_parts.specs.Values.{physical_value_parts}
use Rattle.iso_schedules.specs.declared.schedules.RelativeTimeInterval.{RelativeTimeInterval}
use Rattle.iso_schedules.specs.declared.schedules.TimeInterval.{TimeInterval}
use Rattle.iso_schedules.specs.declared.schedules.TimeInterval.TheVariants as time_interval
use Rattle.iso_schedules.specs.declared.schedules.PMaxScheduleEntry.{PMaxScheduleEntry}
use Rattle.iso_schedules.specs.declared.schedules.PMaxSchedule.{PMaxSchedule}
use Rattle.iso_schedules.specs.declared.schedules.SaScheduleTuple.{SaScheduleTuple}
use Rattle.iso_schedules.specs.declared.schedules.SaScheduleList.{SaScheduleList}
use Rattle.iso_schedules.specs.declared.schedules.SaSchedules.{SaSchedules}
use Rattle.iso_schedules.specs.declared.schedules.SaSchedules.TheVariants as sa_schedules

abbrev pub relative_time_interval_parts : RelativeTimeInterval → List Part
relative_time_interval_parts v =
    one START (Of (Number (pos v.start)))
    ∷ perhaps DURATION (mapped (λ x. Of (Number (pos x))) v.duration)
    ∷ []

-- the elements of TimeInterval in the profile, with their kinds
abbrev pub time_interval_members : List (ℕ × ℕ)
time_interval_members =
    (RELATIVE_TIME_INTERVAL, RELATIVE_TIME_INTERVAL_KIND)
    ∷ []

abbrev pub time_interval_name : TimeInterval → ℕ
time_interval_name (time_interval.Relative x) = RELATIVE_TIME_INTERVAL

abbrev pub time_interval_inside : TimeInterval → Inside
time_interval_inside (time_interval.Relative x) = holding (relative_time_interval_parts x)

abbrev pub p_max_schedule_entry_parts : PMaxScheduleEntry → List Part
p_max_schedule_entry_parts v =
    one (time_interval_name v.time_interval) (time_interval_inside v.time_interval)
    ∷ one P_MAX (holding (physical_value_parts v.p_max))
    ∷ []

abbrev pub p_max_schedule_parts : PMaxSchedule → List Part
p_max_schedule_parts v =
    each P_MAX_SCHEDULE_ENTRY (map (λ x. holding (p_max_schedule_entry_parts x)) v.p_max_schedule_entry.items)
    ∷ []

abbrev pub sa_schedule_tuple_parts : SaScheduleTuple → List Part
sa_schedule_tuple_parts v =
    one SA_SCHEDULE_TUPLE_ID (Of (Number (pos v.sa_schedule_tuple_id)))
    ∷ one P_MAX_SCHEDULE (holding (p_max_schedule_parts v.p_max_schedule))
    ∷ []

abbrev pub sa_schedule_list_parts : SaScheduleList → List Part
sa_schedule_list_parts v =
    each SA_SCHEDULE_TUPLE (map (λ x. holding (sa_schedule_tuple_parts x)) v.sa_schedule_tuple.items)
    ∷ []

-- the elements of SASchedules in the profile, with their kinds
abbrev pub sa_schedules_members : List (ℕ × ℕ)
sa_schedules_members =
    (SA_SCHEDULE_LIST, SA_SCHEDULE_LIST_KIND)
    ∷ []

abbrev pub sa_schedules_name : SaSchedules → ℕ
sa_schedules_name (sa_schedules.SaScheduleList x) = SA_SCHEDULE_LIST

abbrev pub sa_schedules_inside : SaSchedules → Inside
sa_schedules_inside (sa_schedules.SaScheduleList x) = holding (sa_schedule_list_parts x)
