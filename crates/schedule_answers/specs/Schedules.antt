-- ISO 15118-2:2014, 8.4.3.8 (ChargeParameterDiscoveryRes) and 8.5.2.13 to 8.5.2.18 (SAScheduleTuple, PMaxSchedule, PMaxScheduleEntry,
-- RelativeTimeInterval): the schedules of a reply. How a power counts is own. Seconds and watts.
use Rattle.std.specs.Prelude.{◌≡◌, ℕ, ◌+◌, ◌≤◌, min, unwrap_or, Bool, true, IsTrue, All, List, fold, map, Option, Some, None}
use Rattle.std.specs.List.{list_all}
use Rattle.iso_parts.specs.declared.values.PhysicalValue.{PhysicalValue}
use Rattle.iso_schedules.specs.declared.schedules.RelativeTimeInterval.{RelativeTimeInterval}
use Rattle.iso_schedules.specs.declared.schedules.TimeInterval.{TimeInterval}
use Rattle.iso_schedules.specs.declared.schedules.TimeInterval.TheVariants.{Relative}
use Rattle.iso_schedules.specs.declared.schedules.PMaxScheduleEntry.{PMaxScheduleEntry}
use Rattle.iso_schedules.specs.declared.schedules.SaScheduleTuple.{SaScheduleTuple}
use Rattle.iso_schedules.specs.declared.schedules.SaSchedules.{SaSchedules}
use Rattle.iso_schedules.specs.declared.schedules.SaSchedules.TheVariants.{SaScheduleList}
use Rattle.iso_message.specs.declared.message.BodyElement.{BodyElement}
use Rattle.iso_message.specs.declared.message.BodyElement.TheVariants as element
use Rattle.iso_message.specs.declared.message.IsoMessage.{IsoMessage}
use Rattle.iso_values.specs.Codes.{code_of}
use Rattle.iso_values.specs.Physical.{power_in, power_of}
use Rattle.session_words.specs.Codes.{IsOkClass}
use Rattle.schedules.specs.declared.power.Step.{Step}
use Rattle.schedules.specs.declared.power.Schedule.{Schedule}
use Rattle.schedules.specs.Profiles.{IsSchedule}

-- ---- a tuple

abbrev pub relative : TimeInterval → RelativeTimeInterval
relative (Relative interval) = interval

abbrev pub interval_of : PMaxScheduleEntry → RelativeTimeInterval
interval_of e = relative e.time_interval

-- from its start on, the power of an entry in whole watts
abbrev pub step_of : PMaxScheduleEntry → Step
step_of e = record { start = (interval_of e).start; watts = (power_in e.p_max).size }

-- where it ends, if no other follows; without a duration it lasts a day. Seconds count up to the greatest of 32 bits
abbrev pub end_of : PMaxScheduleEntry → ℕ
end_of e = min ((interval_of e).start + unwrap_or (interval_of e).duration 86400) 4294967295

-- the last entry's end
abbrev pub last_end : List PMaxScheduleEntry → ℕ
last_end entries = fold (λ _ e. end_of e) 0 entries

abbrev pub entries_of : SaScheduleTuple → List PMaxScheduleEntry
entries_of tuple = tuple.p_max_schedule.p_max_schedule_entry.items

-- what a tuple allows
abbrev pub schedule_of : SaScheduleTuple → Schedule
schedule_of tuple = record { entries = record { items = map step_of (entries_of tuple) }; end = last_end (entries_of tuple) }

abbrev pub is_in_watts : PhysicalValue → Bool
is_in_watts power = (power_in power).right

-- a tuple that can be answered: it has an identifier from 1 on, as each that is read, its first entry starts at 0, the starts rise, and each
-- power is in watts
pub record IsUsable (tuple : SaScheduleTuple) : Type 0 where
  pub number : 1 ≤ tuple.sa_schedule_tuple_id
  pub schedule : IsSchedule (schedule_of tuple)
  pub watts : IsTrue (list_all (λ (e : PMaxScheduleEntry). is_in_watts e.p_max) (entries_of tuple))

-- ---- a reply

abbrev pub Lists : Option SaSchedules → List SaScheduleTuple → Type 0
Lists (Some (SaScheduleList list)) tuples = tuples ≡ list.sa_schedule_tuple.items
Lists None tuples = ⊥

-- the tuples of a ChargeParameterDiscoveryRes of the OK class
abbrev pub TellsIn : Option BodyElement → List SaScheduleTuple → Type 0
TellsIn (Some (element.ChargeParameterDiscoveryRes reply)) tuples = IsOkClass (code_of reply.response_code) × Lists reply.sa_schedules tuples
TellsIn _ tuples = ⊥

-- a message tells these tuples, each of which can be answered
pub record Tells (message : IsoMessage) (tuples : List SaScheduleTuple) : Type 0 where
  pub told : TellsIn message.body.element tuples
  pub usable : All IsUsable tuples

-- ---- a car

-- the most power that it takes, as it writes it
abbrev pub cap_of : ℕ → ℕ
cap_of max_watts = (power_in (power_of (record { size = max_watts; right = true }))).size
