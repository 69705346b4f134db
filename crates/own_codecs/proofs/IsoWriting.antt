-- ISO 15118-2:2014, 8.4.3.8, 8.4.4.2 and 8.4.5.4: what is written for a reply writes the watts that it tells.
use Rattle.std.proofs.Common.{◌≡◌, ◌<◌, ℕ, Bool, List, [], ◌∷◌, Option, Some, None, refl, sym, ap, subst, ◌∙◌}
use Rattle.std.specs.Prelude.{pos, IfSome, All}
use Rattle.std.specs.List.{AllByRecursion}
use Rattle.std.specs.Option.{option_map}
use Rattle.std.proofs.lemmas.List.Elements.{All-head}
use Rattle.arrayvec.specs.ArrayVec.{ArrayVec}
use Rattle.charge_world.specs.declared.offer.Dialect.TheVariants as dialect
use Rattle.document_laws.proofs.Encodings.{encoding_spelled}
use Rattle.document_laws.proofs.Payloads.{payload_decided}
use Rattle.message_parts.specs.Contents.{Inside, Holding}
use Rattle.session_words.specs.declared.amount.Amount.{Amount}
use Rattle.session_words.specs.declared.code.Code.{Code}
use Rattle.session_words.specs.declared.code.Processing.{Processing}
use Rattle.session_words.specs.declared.limits.DcStatus.{DcStatus}
use Rattle.session_words.specs.declared.limits.EvseId.TheVariants as evse_id
use Rattle.session_words.specs.declared.limits.PostLimits.{PostLimits}
use Rattle.session_words.specs.declared.limits.PostLimits.TheVariants as limits
use Rattle.session_words.specs.declared.limits.Tuple.{Tuple}
use Rattle.session_words.specs.declared.plan.PostPlan.{PostPlan}
use Rattle.session_words.specs.declared.session.SessionId.{SessionId}
use Rattle.session_words.specs.declared.word.Reply.{Reply}
use Rattle.session_words.specs.declared.word.Tell.{Tell}
use Rattle.session_words.specs.declared.word.Tell.TheVariants as tell
use Rattle.session_rules.specs.Offers.{amount, scheduled_watts, ac_current_at}
use Rattle.tree_words.specs.Named.{Children, children, within}
use Rattle.word_tables.specs.Tables.{Table, rows, written}
use Rattle.message_tables.specs.Frame.{in_message}
use Rattle.iso_schema.specs.Declarations.{schema}
use Rattle.iso_schema.specs.declared.names.TheConstants.{AUTHORIZATION_RES, CABLE_CHECK_RES, PAYMENT_SERVICE_SELECTION_RES, POWER_DELIVERY_RES, PRE_CHARGE_RES, SERVICE_DETAIL_RES, SERVICE_DISCOVERY_RES, SESSION_SETUP_RES, SESSION_STOP_RES, WELDING_DETECTION_RES, DC_EVSE_CHARGE_PARAMETER, AC_EVSE_CHARGE_PARAMETER, EVSE_MAXIMUM_POWER_LIMIT, EVSE_MAX_CURRENT, SA_SCHEDULE_LIST}
use Rattle.iso_tables.specs.Values.{current, power}
use Rattle.iso_tables.specs.Frame.{frame}
use Rattle.iso_tables.specs.Setup.{code_alone, setup_res, discovery_res, detail_res, authorization_res}
use Rattle.iso_tables.specs.Power.{present_voltage, cable_check_res, delivery_res, status_parts, demand_res, charging_res}
use Rattle.iso_tables.specs.Parameters.{parameters_res}
use Rattle.iso_tables.specs.Words.{in_tell, root}
use Rattle.iso_word_messages.specs.Spellable.{AreWatts, CanTuple, CanTuples, CanPostLimits, CanTell}
use Rattle.told_codecs.specs.Iso.{Encodes}
use Rattle.told_pasts.specs.Spelling.{SpelledWatts, Writes, WritesCurrent, WritesSchedule, AreTold}
use Rattle.audit_watts.specs.Values.{no_watts}
use Rattle.told_codecs.specs.Replies.{IsoTree}
use Rattle.told_codecs.specs.Watts.{PayloadSpells}
use Rattle.told_codecs.specs.IsoWatts.{written_in, written_if, schedules_in, parameters_in, demand_in, status_in}
use Rattle.own_courses.specs.Writing.{TellsSchedule, TellsLimits, Tells}
use Rattle.own_codecs.proofs.IsoWeights.{own_of, tree_watts, parameter_rows}
use Rattle.own_codecs.proofs.Written.{watts_written, current_written, none_told}

abbrev IsTold : PostPlan → ℕ → SpelledWatts → Type 0
IsTold plan told s = AreTold plan dialect.Iso told s

-- ---- of a PhysicalValue

power_written : (told : ℕ) → told < 32768000 → Writes told (written_in (children (written power (amount told))))
power_written told h = watts_written told h

amount_written : (a : Amount) (told : ℕ) → a ≡ amount told → a.size < 32768000 → Writes told (written_in (children (written power a)))
amount_written a told e h =
    let few : told < 32768000 = subst (λ (n : ℕ). n < 32768000) (ap (λ (x : Amount). x.size) e) h in
    subst (λ (x : Amount). Writes told (written_in (children (written power x)))) (sym e) (power_written told few)

tenths_written : (plan : PostPlan) (a : Amount) (told : ℕ) → a ≡ amount (ac_current_at plan told)
    → WritesCurrent plan told (written_in (children (written current a)))
tenths_written plan a told e = subst (λ (x : Amount). WritesCurrent plan told (written_in (children (written current x)))) (sym e) (current_written plan told)

some_amount : (a b : Amount) → Some a ≡ Some b → a ≡ b
some_amount a b e = cc

-- ---- of a ChargeParameterDiscoveryRes

limits_power : (plan : PostPlan) (told : ℕ) (c : Code) (p : Processing) (o : Option (List Tuple)) (l : PostLimits) → CanPostLimits l → TellsLimits plan told l
    → IfSome (written_if (within (parameter_rows c p o l DC_EVSE_CHARGE_PARAMETER) EVSE_MAXIMUM_POWER_LIMIT)) (Writes told)
limits_power plan told c p None (limits.Ac notify nominal most) can tells = tt
limits_power plan told c p (Some tuples) (limits.Ac notify nominal most) can tells = tt
limits_power plan told c p o (limits.Dc status most None voltage least_current least_voltage ripple) can tells = cc
limits_power plan told c p None (limits.Dc status most (Some watts) voltage least_current least_voltage ripple) can tells =
    amount_written watts told (some_amount watts (amount told) tells) can.1
limits_power plan told c p (Some tuples) (limits.Dc status most (Some watts) voltage least_current least_voltage ripple) can tells =
    amount_written watts told (some_amount watts (amount told) tells) can.1

limits_current : (plan : PostPlan) (told : ℕ) (c : Code) (p : Processing) (o : Option (List Tuple)) (l : PostLimits) → TellsLimits plan told l
    → IfSome (written_if (within (parameter_rows c p o l AC_EVSE_CHARGE_PARAMETER) EVSE_MAX_CURRENT)) (WritesCurrent plan told)
limits_current plan told c p None (limits.Ac notify nominal most) tells = tenths_written plan most told tells
limits_current plan told c p (Some tuples) (limits.Ac notify nominal most) tells = tenths_written plan most told tells
limits_current plan told c p None (limits.Dc status most watts voltage least_current least_voltage ripple) tells = tt
limits_current plan told c p (Some tuples) (limits.Dc status most watts voltage least_current least_voltage ripple) tells = tt

abbrev one_tuple : ℕ → List Tuple
one_tuple told = record { id = pos 1; entries = 1; least = amount (scheduled_watts dialect.Iso told) } ∷ []

schedule_written : (told : ℕ) (c : Code) (p : Processing) (tuples : List Tuple) (l : PostLimits) → tuples ≡ one_tuple told → told < 32768000
    → AllByRecursion (WritesSchedule dialect.Iso told) (schedules_in (parameter_rows c p (Some tuples) l SA_SCHEDULE_LIST))
schedule_written told c p tuples (limits.Ac notify nominal most) e h =
    subst (λ (ts : List Tuple). AllByRecursion (WritesSchedule dialect.Iso told) (schedules_in (parameter_rows c p (Some ts) (limits.Ac notify nominal most) SA_SCHEDULE_LIST))) (sym e) (power_written told h, tt)
schedule_written told c p tuples (limits.Dc status most watts voltage least_current least_voltage ripple) e h =
    subst (λ (ts : List Tuple). AllByRecursion (WritesSchedule dialect.Iso told) (schedules_in (parameter_rows c p (Some ts) (limits.Dc status most watts voltage least_current least_voltage ripple) SA_SCHEDULE_LIST))) (sym e) (power_written told h, tt)

few_told : (told : ℕ) (tuples : List Tuple) → tuples ≡ one_tuple told → All CanTuple tuples → told < 32768000
few_told told tuples e can =
    let here : All CanTuple (one_tuple told) = subst (All CanTuple) e can in
    (All-head CanTuple (record { id = pos 1; entries = 1; least = amount (scheduled_watts dialect.Iso told) }) [] here).least

schedules_written : (told : ℕ) (c : Code) (p : Processing) (schedule : Option (ArrayVec Tuple)) (l : PostLimits) → IfSome schedule CanTuples
    → TellsSchedule dialect.Iso told schedule
    → AllByRecursion (WritesSchedule dialect.Iso told) (schedules_in (parameter_rows c p (option_map (λ tuples. tuples.items) schedule) l SA_SCHEDULE_LIST))
schedules_written told c p None (limits.Ac notify nominal most) can tells = tt
schedules_written told c p None (limits.Dc status most watts voltage least_current least_voltage ripple) can tells = tt
schedules_written told c p (Some tuples) l can tells = schedule_written told c p tuples.items l tells (few_told told tuples.items tells can.1)

parameters_written : (plan : PostPlan) (told : ℕ) (c : Code) (p : Processing) (schedule : Option (ArrayVec Tuple)) (l : PostLimits) → IfSome schedule CanTuples
    → CanPostLimits l → TellsSchedule dialect.Iso told schedule → TellsLimits plan told l
    → IsTold plan told (parameters_in (parameter_rows c p (option_map (λ tuples. tuples.items) schedule) l))
parameters_written plan told c p schedule l can_tuples can tuples tells = record {
  power = limits_power plan told c p (option_map (λ tuples. tuples.items) schedule) l can tells;
  current = limits_current plan told c p (option_map (λ tuples. tuples.items) schedule) l tells;
  p_max = schedules_written told c p schedule l can_tuples tuples;
}

-- ---- of each reply

abbrev OwnTold : PostPlan → ℕ → Option Inside → Type 0
OwnTold plan told None = Unit {0}
OwnTold plan told (Some own) = IsTold plan told (tree_watts (root own))

quiet_told : {X : Type 0} (plan : PostPlan) (told : ℕ) (name : ℕ) (table : Table rows X) (s : SessionId) (x : X)
    → tree_watts (root (own_of name table s x)) ≡ no_watts → OwnTold plan told (in_message frame name table s x)
quiet_told plan told name table s x is = subst (IsTold plan told) (sym is) (none_told plan dialect.Iso told)

some_power : (most : Option Amount) (told : ℕ) → most ≡ Some (amount told) → IfSome most AreWatts
    → (a : Amount) × (most ≡ Some a) × (a ≡ amount told) × (a.size < 32768000)
some_power None told e can = cc
some_power (Some a) told e can = (a, refl, some_amount a (amount told) e, can)

demand_written : (plan : PostPlan) (told : ℕ) (rest : Option Amount → Children) (most : Option Amount)
    → ((a : Amount) → Writes told (written_in (children (written power a))) → IsTold plan told (demand_in (rest (Some a)))) → most ≡ Some (amount told)
    → IfSome most AreWatts → IsTold plan told (demand_in (rest most))
demand_written plan told rest most each e can =
    let x = some_power most told e can in
    subst (λ (m : Option Amount). IsTold plan told (demand_in (rest m))) (sym x.1) (each x.0 (amount_written x.0 told x.2 x.3))

-- a power that is told in a CurrentDemandRes, whichever other limits it has
demand_with : (plan : PostPlan) (told : ℕ) (c : Code) (status : DcStatus) (v a : Amount) (a_cut v_cut w_cut : Bool) (most_v most_a : Option Amount) (id : List ℕ) (x : Amount)
    → Writes told (written_in (children (written power x)))
    → IsTold plan told (demand_in (children (Holding [] (written demand_res
    (c, (status, (v, (a, (a_cut, (v_cut, (w_cut, (most_v, (most_a, (Some x, (id, tt)))))))))))))))
demand_with plan told c status v a a_cut v_cut w_cut None None id x h = record { power = h; current = tt; p_max = tt }
demand_with plan told c status v a a_cut v_cut w_cut None (Some current) id x h = record { power = h; current = tt; p_max = tt }
demand_with plan told c status v a a_cut v_cut w_cut (Some voltage) None id x h = record { power = h; current = tt; p_max = tt }
demand_with plan told c status v a a_cut v_cut w_cut (Some voltage) (Some current) id x h = record { power = h; current = tt; p_max = tt }

tell_written : (plan : PostPlan) (told : ℕ) (s : SessionId) (c : Code) (t : Tell) → CanTell t → Tells plan dialect.Iso told t
    → OwnTold plan told (in_tell s c t)
tell_written plan told s c (tell.SessionSetup (evse_id.Text id)) can tells = quiet_told plan told SESSION_SETUP_RES setup_res s (c, (id, tt)) refl
tell_written plan told s c (tell.SessionSetup (evse_id.Bytes id)) can tells = tt
tell_written plan told s c (tell.ServiceDiscovery free modes) can tells =
    quiet_told plan told SERVICE_DISCOVERY_RES discovery_res s (c, ((free, (modes.items, tt)), tt)) refl
tell_written plan told s c (tell.ServiceDetail service) can tells = quiet_told plan told SERVICE_DETAIL_RES detail_res s (c, (service, tt)) refl
tell_written plan told s c tell.PaymentSelection can tells = quiet_told plan told PAYMENT_SERVICE_SELECTION_RES code_alone s (c, tt) refl
tell_written plan told s c (tell.Authorization p) can tells = quiet_told plan told AUTHORIZATION_RES authorization_res s (c, (p, tt)) refl
tell_written plan told s c (tell.ChargeParameters p schedule l) can tells = parameters_written plan told c p schedule l can.0 can.1 tells.0 tells.1
tell_written plan told s c (tell.CableCheck status p) can tells = quiet_told plan told CABLE_CHECK_RES cable_check_res s (c, (status, (p, tt))) refl
tell_written plan told s c (tell.PreCharge status v) can tells = quiet_told plan told PRE_CHARGE_RES present_voltage s (c, (status, (v, tt))) refl
tell_written plan told s c (tell.PowerDelivery status) can tells = quiet_told plan told POWER_DELIVERY_RES delivery_res s (c, (status_parts status, tt)) refl
tell_written plan told s c (tell.CurrentDemand status v a a_cut v_cut w_cut most_v most_a most_w (Some (evse_id.Text id))) can tells =
    demand_written plan told (λ m. children (Holding [] (written demand_res (c, (status, (v, (a, (a_cut, (v_cut, (w_cut, (most_v, (most_a, (m, (id, tt))))))))))))))
    most_w (λ x w. demand_with plan told c status v a a_cut v_cut w_cut most_v most_a id x w) tells can.4
tell_written plan told s c (tell.CurrentDemand status v a a_cut v_cut w_cut most_v most_a most_w (Some (evse_id.Bytes id))) can tells = tt
tell_written plan told s c (tell.CurrentDemand status v a a_cut v_cut w_cut most_v most_a most_w None) can tells = tt
tell_written plan told s c (tell.ChargingStatus n (evse_id.Text id) None) can tells = cc
tell_written plan told s c (tell.ChargingStatus n (evse_id.Text id) (Some a)) can tells =
    record { power = tt; current = tenths_written plan a told (some_amount a (amount (ac_current_at plan told)) tells); p_max = tt }
tell_written plan told s c (tell.ChargingStatus n (evse_id.Bytes id) a) can tells = tt
tell_written plan told s c (tell.WeldingDetection status v) can tells = quiet_told plan told WELDING_DETECTION_RES present_voltage s (c, (status, (v, tt))) refl
tell_written plan told s c tell.SessionStop can tells = quiet_told plan told SESSION_STOP_RES code_alone s (c, tt) refl

-- ---- a payload

pub writes : (plan : PostPlan) (reply : Reply) (payload : List ℕ) (watts : SpelledWatts) (told : ℕ) → Encodes reply payload
    → PayloadSpells schema IsoTree payload watts → Tells plan dialect.Iso told reply.tell → AreTold plan dialect.Iso told watts
writes plan reply payload watts told e w tells =
    let own = e.written.own in
    let same : w.tree ≡ root own =
    (payload_decided schema payload).one_tree w.tree (root own) w.document (encoding_spelled schema (root own) payload e.written.encoding) in
    let is : tree_watts (root own) ≡ watts = sym (w.spelled.1 ∙ ap tree_watts same) in
    subst (IsTold plan told) is (subst (OwnTold plan told) e.written.own_is (tell_written plan told reply.session reply.code reply.tell e.can.2 tells))
