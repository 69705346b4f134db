-- ISO 15118-2:2014, 8.4.3.8 (ChargeParameterDiscovery), 8.4.4.2 (ChargingStatus) and 8.4.5.4 (CurrentDemand): the watts that a reply spells, by the
-- names of its elements.
use Rattle.std.specs.Prelude.{◌==◌, ℕ, if◌then◌else◌, map, List, [], Option, Some, None}
use Rattle.std.specs.List.{flat_map}
use Rattle.std.specs.Option.{option_map}
use Rattle.message_parts.specs.Contents.{Inside}
use Rattle.word_values.specs.Amounts.{nearest}
use Rattle.iso_schema.specs.declared.names.TheConstants.{CHARGE_PARAMETER_DISCOVERY_RES, CURRENT_DEMAND_RES, CHARGING_STATUS_RES, AC_EVSE_CHARGE_PARAMETER, DC_EVSE_CHARGE_PARAMETER, EVSE_MAXIMUM_POWER_LIMIT, EVSE_MAX_CURRENT, SA_SCHEDULE_LIST, SA_SCHEDULE_TUPLE, P_MAX_SCHEDULE, P_MAX_SCHEDULE_ENTRY, P_MAX, MULTIPLIER, VALUE}
use Rattle.tree_words.specs.Leaves.{number}
use Rattle.tree_words.specs.Named.{Children, children, head, within}
use Rattle.told_pasts.specs.Spelling.{Written, SpelledWatts}
use Rattle.audit_watts.specs.Values.{no_watts}
use Rattle.reply_watts.specs.Values.{power_alone, current_alone}

-- of a PhysicalValue. A Multiplier that no message has counts as the nearest from -3 to 3
abbrev pub written_in : Children → Written
written_in x = record { multiplier = nearest (number (x MULTIPLIER)); value = number (x VALUE) }

-- of the first of these, if there is one
abbrev pub written_if : List Inside → Option Written
written_if found = option_map (λ inside. written_in (children inside)) (head found)

-- ---- of a ChargeParameterDiscoveryRes

-- the PMax of a PMaxScheduleEntry
abbrev pub entry_in : Inside → Written
entry_in entry = written_in (within (children entry P_MAX))

-- those of a SAScheduleTuple
abbrev pub tuple_in : Inside → List Written
tuple_in tuple = map entry_in (within (children tuple P_MAX_SCHEDULE) P_MAX_SCHEDULE_ENTRY)

-- those of the first SAScheduleList
abbrev pub schedules_in : List Inside → List Written
schedules_in lists = flat_map tuple_in (within lists SA_SCHEDULE_TUPLE)

-- without those of the schedules
abbrev pub limits_in : Children → SpelledWatts
limits_in x = record {
  power = written_if (within (x DC_EVSE_CHARGE_PARAMETER) EVSE_MAXIMUM_POWER_LIMIT);
  current = written_if (within (x AC_EVSE_CHARGE_PARAMETER) EVSE_MAX_CURRENT);
  p_max = [];
}

abbrev pub parameters_in : Children → SpelledWatts
parameters_in x = record (limits_in x) { p_max = schedules_in (x SA_SCHEDULE_LIST) }

-- ---- of each reply

-- of a CurrentDemandRes
abbrev pub demand_in : Children → SpelledWatts
demand_in x = power_alone (written_if (x EVSE_MAXIMUM_POWER_LIMIT))

-- of a ChargingStatusRes
abbrev pub status_in : Children → SpelledWatts
status_in x = current_alone (written_if (x EVSE_MAX_CURRENT))

-- of an element of this name
abbrev pub element_in : ℕ → Children → SpelledWatts
element_in name x =
    if name == CHARGE_PARAMETER_DISCOVERY_RES then parameters_in x else (
    if name == CURRENT_DEMAND_RES then demand_in x else (
    if name == CHARGING_STATUS_RES then status_in x else no_watts))

-- of a body whose first element this is
abbrev pub body_watts : Option (ℕ × Inside) → SpelledWatts
body_watts None = no_watts
body_watts (Some element) = element_in element.0 (children element.1)
