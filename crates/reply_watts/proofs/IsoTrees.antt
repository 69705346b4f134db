-- ISO 15118-2:2014: the watts of a tree are those of the parts of its message.
use Rattle.std.proofs.Common.{◌≡◌, ℕ, List, [], ◌∷◌, map, Option, Some, None, refl, sym, ◌∙◌, ap, subst}
use Rattle.std.specs.List.{flat_map}
use Rattle.std.specs.Option.{option_map}
use Rattle.std.proofs.lemmas.List.{append-nil}
use Rattle.charge_world.specs.declared.offer.Dialect.{Dialect}
use Rattle.exi_documents.specs.Trees.{Ordinal}
use Rattle.message_parts.specs.Contents.{Inside, Part, Of, one, perhaps_one, mapped, holding}
use Rattle.session_words.specs.declared.plan.PostPlan.{PostPlan}
use Rattle.iso_schema.specs.declared.names.TheConstants.{RESPONSE_CODE, EVSE_PROCESSING, SA_SCHEDULE_TUPLE, P_MAX_SCHEDULE_ENTRY, EVSE_MAXIMUM_POWER_LIMIT}
use Rattle.iso_parts.specs.Codes.{response_code_ordinal, evse_processing_ordinal}
use Rattle.iso_parts.specs.Values.{physical_value_parts}
use Rattle.iso_parts.specs.declared.codes.EvseProcessing.{EvseProcessing}
use Rattle.iso_parts.specs.declared.codes.ResponseCode.{ResponseCode}
use Rattle.iso_parts.specs.declared.values.PhysicalValue.{PhysicalValue}
use Rattle.iso_schedules.specs.Schedules.{p_max_schedule_entry_parts, p_max_schedule_parts, sa_schedule_tuple_parts, sa_schedule_list_parts, sa_schedules_name, sa_schedules_inside}
use Rattle.iso_schedules.specs.declared.schedules.PMaxScheduleEntry.{PMaxScheduleEntry}
use Rattle.iso_schedules.specs.declared.schedules.SaScheduleList.{SaScheduleList}
use Rattle.iso_schedules.specs.declared.schedules.SaScheduleTuple.{SaScheduleTuple}
use Rattle.iso_schedules.specs.declared.schedules.SaSchedules.{SaSchedules}
use Rattle.iso_schedules.specs.declared.schedules.SaSchedules.TheVariants as schedules
use Rattle.iso_parameters.specs.Limits.{dc_evse_charge_parameter_parts, evse_charge_parameter_name, evse_charge_parameter_inside}
use Rattle.iso_parameters.specs.Discovery.{charge_parameter_discovery_res_parts}
use Rattle.iso_parameters.specs.declared.discovery.ChargeParameterDiscoveryRes.{ChargeParameterDiscoveryRes}
use Rattle.iso_parameters.specs.declared.limits.AcEvseChargeParameter.{AcEvseChargeParameter}
use Rattle.iso_parameters.specs.declared.limits.DcEvseChargeParameter.{DcEvseChargeParameter}
use Rattle.iso_parameters.specs.declared.limits.EvseChargeParameter.{EvseChargeParameter}
use Rattle.iso_parameters.specs.declared.limits.EvseChargeParameter.TheVariants as evse
use Rattle.iso_power.specs.Charging.{current_demand_res_parts}
use Rattle.iso_power.specs.declared.charging.CurrentDemandRes.{CurrentDemandRes}
use Rattle.iso_delivery.specs.Delivery.{charging_status_res_parts}
use Rattle.iso_delivery.specs.declared.delivery.ChargingStatusRes.{ChargingStatusRes}
use Rattle.tree_words.specs.Named.{children}
use Rattle.tree_words.proofs.Held.{held, of_parts, by_parts}
use Rattle.tree_words.proofs.Lists.{reads_if, reads_each}
use Rattle.told_pasts.specs.Spelling.{Written, SpelledWatts}
use Rattle.audit_watts.specs.declared.values.WattValues.{WattValues}
use Rattle.audit_watts.specs.Values.{AreOf}
use Rattle.reply_watts.specs.Values.{power_alone, current_alone, AreAdded}
use Rattle.reply_watts.specs.Iso.{written_in, written_if, entry_in, tuple_in, schedules_in, limits_in, parameters_in, demand_in, status_in}
use Rattle.reply_watts.proofs.Elements.{joins_each}

abbrev pub value_inside : PhysicalValue → Inside
value_inside v = holding (physical_value_parts v)

abbrev pub value_written : PhysicalValue → Written
value_written v = written_in (children (value_inside v))

-- ---- schedules

abbrev pub entry_inside : PMaxScheduleEntry → Inside
entry_inside e = holding (p_max_schedule_entry_parts e)

abbrev pub tuple_inside : SaScheduleTuple → Inside
tuple_inside t = holding (sa_schedule_tuple_parts t)

pub tuple_read : (t : SaScheduleTuple) → tuple_in (tuple_inside t) ≡ map (λ e. entry_in (entry_inside e)) t.p_max_schedule.p_max_schedule_entry.items
tuple_read t =
    by_parts (λ x. map entry_in (x P_MAX_SCHEDULE_ENTRY)) (p_max_schedule_parts t.p_max_schedule)
    ∙ reads_each entry_in entry_inside (λ e. entry_in (entry_inside e)) (λ e. refl) t.p_max_schedule.p_max_schedule_entry.items

pub list_read : (l : SaScheduleList) → schedules_in (holding (sa_schedule_list_parts l) ∷ []) ≡ flat_map (λ t. tuple_in (tuple_inside t)) l.sa_schedule_tuple.items
list_read l =
    by_parts (λ x. flat_map tuple_in (x SA_SCHEDULE_TUPLE)) (sa_schedule_list_parts l)
    ∙ joins_each tuple_in tuple_inside l.sa_schedule_tuple.items

pub added_of : (spoken : Dialect) (told : ℕ) (l : SaScheduleList) (ts : List SaScheduleTuple) (before behind : WattValues) → ts ≡ l.sa_schedule_tuple.items
    → AreAdded spoken told (flat_map (λ t. tuple_in (tuple_inside t)) ts) before behind
    → AreAdded spoken told (schedules_in (holding (sa_schedule_list_parts l) ∷ [])) before behind
added_of spoken told l ts before behind items added =
    subst (λ (ws : List Written). AreAdded spoken told ws before behind)
    (ap (flat_map (λ t. tuple_in (tuple_inside t))) items ∙ sym (list_read l)) added

-- ---- parameters

abbrev reply_parts : ResponseCode → EvseProcessing → Option SaSchedules → EvseChargeParameter → List Part
reply_parts code processing list limits =
    one RESPONSE_CODE (Of (Ordinal (response_code_ordinal code)))
    ∷ one EVSE_PROCESSING (Of (Ordinal (evse_processing_ordinal processing)))
    ∷ perhaps_one (mapped (λ x. (sa_schedules_name x, sa_schedules_inside x)) list)
    ∷ one (evse_charge_parameter_name limits) (evse_charge_parameter_inside limits)
    ∷ []

-- of the parameter alone
abbrev pub limits_alone : EvseChargeParameter → SpelledWatts
limits_alone l = limits_in (children (holding (one (evse_charge_parameter_name l) (evse_charge_parameter_inside l) ∷ [])))

pub ac_kept : (plan : PostPlan) (spoken : Dialect) (told : ℕ) (l : EvseChargeParameter) (x : AcEvseChargeParameter) (w : Written) (v : WattValues) → l ≡ evse.Ac x
    → w ≡ value_written x.evse_max_current → AreOf plan spoken told (current_alone (Some w)) v → AreOf plan spoken told (limits_alone l) v
ac_kept plan spoken told l x w v is written h =
    subst (λ (k : EvseChargeParameter). AreOf plan spoken told (limits_alone k) v) (sym is)
    (subst (λ (u : Written). AreOf plan spoken told (current_alone (Some u)) v) written h)

dc_alone : (x : DcEvseChargeParameter) → limits_alone (evse.Dc x) ≡ power_alone (Some (value_written x.evse_maximum_power_limit))
dc_alone x = by_parts (λ c. power_alone (written_if (c EVSE_MAXIMUM_POWER_LIMIT))) (dc_evse_charge_parameter_parts x)

pub dc_kept : (plan : PostPlan) (spoken : Dialect) (told : ℕ) (l : EvseChargeParameter) (x : DcEvseChargeParameter) (w : Written) (v : WattValues) → l ≡ evse.Dc x
    → w ≡ value_written x.evse_maximum_power_limit → AreOf plan spoken told (power_alone (Some w)) v → AreOf plan spoken told (limits_alone l) v
dc_kept plan spoken told l x w v is written h =
    subst (λ (s : SpelledWatts). AreOf plan spoken told s v)
    (ap (λ (u : Written). power_alone (Some u)) written ∙ sym (dc_alone x) ∙ ap limits_alone (sym is)) h

abbrev pub scheduled : Option SaSchedules → List Written
scheduled None = []
scheduled (Some s) = schedules_in (sa_schedules_inside s ∷ [])

parts_read : (c : ResponseCode) (p : EvseProcessing) (s : Option SaSchedules) (l : EvseChargeParameter)
    → parameters_in (held (reply_parts c p s l)) ≡ record (limits_alone l) { p_max = scheduled s }
parts_read c p None (evse.Ac x) = refl
parts_read c p None (evse.Dc x) = refl
parts_read c p (Some (schedules.SaScheduleList list)) (evse.Ac x) = refl
parts_read c p (Some (schedules.SaScheduleList list)) (evse.Dc x) = refl

pub parameters_read : (x : ChargeParameterDiscoveryRes)
    → parameters_in (of_parts (charge_parameter_discovery_res_parts x)) ≡ record (limits_alone x.evse_charge_parameter) { p_max = scheduled x.sa_schedules }
parameters_read x =
    by_parts parameters_in (charge_parameter_discovery_res_parts x)
    ∙ parts_read x.response_code x.evse_processing x.sa_schedules x.evse_charge_parameter

pub without_schedules : (plan : PostPlan) (spoken : Dialect) (told : ℕ) (x : ChargeParameterDiscoveryRes) (v : WattValues) → x.sa_schedules ≡ None
    → AreOf plan spoken told (limits_alone x.evse_charge_parameter) v
    → AreOf plan spoken told (parameters_in (of_parts (charge_parameter_discovery_res_parts x))) v
without_schedules plan spoken told x v is h =
    subst (λ (s : SpelledWatts). AreOf plan spoken told s v)
    (ap (λ (o : Option SaSchedules). record (limits_alone x.evse_charge_parameter) { p_max = scheduled o }) (sym is) ∙ sym (parameters_read x)) h

pub with_schedules : (plan : PostPlan) (spoken : Dialect) (told : ℕ) (x : ChargeParameterDiscoveryRes) (s : SaSchedules) (v r : WattValues) → x.sa_schedules ≡ Some s
    → AreOf plan spoken told (limits_alone x.evse_charge_parameter) v
    → AreAdded spoken told (schedules_in (sa_schedules_inside s ∷ [])) v r
    → AreOf plan spoken told (parameters_in (of_parts (charge_parameter_discovery_res_parts x))) r
with_schedules plan spoken told x s v r is h added =
    subst (λ (t : SpelledWatts). AreOf plan spoken told t r)
    (ap (λ (ws : List Written). record (limits_alone x.evse_charge_parameter) { p_max = ws }) (append-nil (scheduled (Some s)))
    ∙ ap (λ (o : Option SaSchedules). record (limits_alone x.evse_charge_parameter) { p_max = scheduled o }) (sym is) ∙ sym (parameters_read x))
    (added plan (limits_alone x.evse_charge_parameter) h)

-- ---- CurrentDemandRes and ChargingStatusRes

pub demand_read : (x : CurrentDemandRes)
    → demand_in (of_parts (current_demand_res_parts x)) ≡ power_alone (option_map value_written x.evse_maximum_power_limit)
demand_read x =
    by_parts demand_in (current_demand_res_parts x)
    ∙ ap power_alone (reads_if (λ inside. written_in (children inside)) value_inside value_written (λ v. refl) x.evse_maximum_power_limit)

pub status_read : (x : ChargingStatusRes)
    → status_in (of_parts (charging_status_res_parts x)) ≡ current_alone (option_map value_written x.evse_max_current)
status_read x =
    by_parts status_in (charging_status_res_parts x)
    ∙ ap current_alone (reads_if (λ inside. written_in (children inside)) value_inside value_written (λ v. refl) x.evse_max_current)
