-- DIN SPEC 70121:2014, 9.4 (ChargeParameterDiscovery and CurrentDemand): the watts that a reply spells, by the names of its elements. A PMax is a
-- number of watts, without a Multiplier.
use Rattle.std.specs.Prelude.{◌==◌, ℕ, if◌then◌else◌, map, pos, List, Option, Some, None}
use Rattle.std.specs.List.{flat_map}
use Rattle.std.specs.Option.{option_map}
use Rattle.message_parts.specs.Contents.{Inside}
use Rattle.word_values.specs.Amounts.{nearest}
use Rattle.din_parts.specs.declared.values.PhysicalValue.{PhysicalValue}
use Rattle.din_power.specs.declared.limits.EvseChargeParameter.{EvseChargeParameter}
use Rattle.din_power.specs.declared.limits.EvseChargeParameter.TheVariants as evse
use Rattle.din_schema.specs.declared.names.TheConstants.{CHARGE_PARAMETER_DISCOVERY_RES, CURRENT_DEMAND_RES, DC_EVSE_CHARGE_PARAMETER, EVSE_MAXIMUM_POWER_LIMIT, SA_SCHEDULE_LIST, SA_SCHEDULE_TUPLE, P_MAX_SCHEDULE, P_MAX_SCHEDULE_ENTRY, P_MAX, MULTIPLIER, VALUE}
use Rattle.tree_words.specs.Leaves.{number}
use Rattle.tree_words.specs.Named.{Children, children, head, within}
use Rattle.told_pasts.specs.Spelling.{Written, SpelledWatts}
use Rattle.audit_watts.specs.Values.{no_watts}
use Rattle.reply_watts.specs.Values.{power_alone}

-- of a PhysicalValue. A Multiplier that no message has counts as the nearest from -3 to 3
abbrev pub written_in : Children → Written
written_in x = record { multiplier = nearest (number (x MULTIPLIER)); value = number (x VALUE) }

-- of the first of these, if there is one
abbrev pub written_if : List Inside → Option Written
written_if found = option_map (λ inside. written_in (children inside)) (head found)

-- ---- of a ChargeParameterDiscoveryRes

-- the PMax of a PMaxScheduleEntry
abbrev pub entry_in : Inside → Written
entry_in entry = record { multiplier = pos 0; value = number (children entry P_MAX) }

-- those of a SAScheduleTuple
abbrev pub tuple_in : Inside → List Written
tuple_in tuple = map entry_in (within (children tuple P_MAX_SCHEDULE) P_MAX_SCHEDULE_ENTRY)

-- those of the first SAScheduleList
abbrev pub schedules_in : List Inside → List Written
schedules_in lists = flat_map tuple_in (within lists SA_SCHEDULE_TUPLE)

-- without those of the schedules
abbrev pub limits_in : Children → SpelledWatts
limits_in x = power_alone (written_if (within (x DC_EVSE_CHARGE_PARAMETER) EVSE_MAXIMUM_POWER_LIMIT))

abbrev pub parameters_in : Children → SpelledWatts
parameters_in x = record (limits_in x) { p_max = schedules_in (x SA_SCHEDULE_LIST) }

-- what a message has as EVSEMaximumPowerLimit of its one parameter
abbrev pub limit_of : EvseChargeParameter → Option PhysicalValue
limit_of (evse.Dc x) = x.evse_maximum_power_limit

-- ---- of each reply

-- of a CurrentDemandRes
abbrev pub demand_in : Children → SpelledWatts
demand_in x = power_alone (written_if (x EVSE_MAXIMUM_POWER_LIMIT))

-- of an element of this name
abbrev pub element_in : ℕ → Children → SpelledWatts
element_in name x =
    if name == CHARGE_PARAMETER_DISCOVERY_RES then parameters_in x else (
    if name == CURRENT_DEMAND_RES then demand_in x else no_watts)

-- of a body whose first element this is
abbrev pub body_watts : Option (ℕ × Inside) → SpelledWatts
body_watts None = no_watts
body_watts (Some element) = element_in element.0 (children element.1)
