-- DIN SPEC 70121:2014, 9.4: what is written for a reply spells no more watts than its word tells.
use Rattle.std.proofs.Common.{◌≡◌, ◌≤◌, ℕ, max, List, [], ◌∷◌, length, map, Option, Some, None, refl, sym, ap, ap₂, subst, ◌∙◌, arith}
use Rattle.std.specs.List.{flat_map}
use Rattle.std.specs.Option.{option_map}
use Rattle.document_laws.proofs.Encodings.{encoding_spelled}
use Rattle.document_laws.proofs.Payloads.{payload_decided}
use Rattle.exi_documents.specs.Trees.{Tree}
use Rattle.message_parts.specs.Contents.{Inside, Holding}
use Rattle.session_words.specs.Amounts.{above_zero, units_of}
use Rattle.session_words.specs.declared.code.Code.{Code}
use Rattle.session_words.specs.declared.limits.EvseId.TheVariants as evse_id
use Rattle.session_words.specs.declared.limits.PostLimits.TheVariants as limits
use Rattle.session_words.specs.declared.limits.PostStatus.TheVariants as post
use Rattle.session_words.specs.declared.limits.Tuple.{Tuple}
use Rattle.session_words.specs.declared.plan.PostPlan.{PostPlan}
use Rattle.session_words.specs.declared.session.SessionId.{SessionId}
use Rattle.session_words.specs.declared.word.Reply.{Reply}
use Rattle.session_words.specs.declared.word.Tell.{Tell}
use Rattle.session_words.specs.declared.word.Tell.TheVariants as tell
use Rattle.session_words.specs.declared.word.Word.TheVariants as word
use Rattle.word_values.specs.Amounts.{nearest}
use Rattle.tree_words.specs.Leaves.{number}
use Rattle.tree_words.specs.Named.{Children, children, head, within, root_children, first_in}
use Rattle.word_tables.specs.Tables.{Table, rows, read, written, or_empty}
use Rattle.word_tables.proofs.Held.{number_is}
use Rattle.message_tables.specs.Frame.{message, framed, in_message}
use Rattle.message_tables.specs.Values.{least_of}
use Rattle.message_tables.proofs.Frames.{ReadsAs}
use Rattle.din_schema.specs.Declarations.{schema}
use Rattle.din_schema.specs.declared.names.TheConstants.{BODY, CABLE_CHECK_RES, CONTRACT_AUTHENTICATION_RES, POWER_DELIVERY_RES, PRE_CHARGE_RES, SERVICE_DISCOVERY_RES, SERVICE_PAYMENT_SELECTION_RES, SESSION_SETUP_RES, SESSION_STOP_RES, WELDING_DETECTION_RES, MULTIPLIER, VALUE, DC_EVSE_CHARGE_PARAMETER, EVSE_MAXIMUM_POWER_LIMIT, SA_SCHEDULE_LIST, SA_SCHEDULE_TUPLE, P_MAX_SCHEDULE, P_MAX_SCHEDULE_ENTRY, P_MAX}
use Rattle.din_tables.specs.Values.{power}
use Rattle.din_tables.specs.Frame.{frame}
use Rattle.din_tables.specs.Setup.{code_alone, setup_res, discovery_res, first_mode, authorization_res}
use Rattle.din_tables.specs.Power.{present_voltage, cable_check_res, delivery_res, demand_res, demand_told}
use Rattle.din_tables.specs.Parameters.{schedule_entry, tuple, schedules, post_parameters, limits_of, parameters_res, parameters_told}
use Rattle.din_tables.specs.Words.{in_tell, word_in, root}
use Rattle.told_codecs.proofs.DinReadBack.{word_read_back}
use Rattle.told_codecs.specs.Din.{Encodes}
use Rattle.post_spec.specs.Spelled.{read_back}
use Rattle.post_spec.specs.Kinds.{tell_watts, size_of, schedule_watts, limits_watts}
use Rattle.told_pasts.specs.Spelling.{SpelledWatts, watts_of, power_in, most_in, spelled_in}
use Rattle.audit_watts.specs.Values.{no_watts}
use Rattle.told_codecs.specs.Replies.{DinTree}
use Rattle.told_codecs.specs.Watts.{PayloadSpells}
use Rattle.told_codecs.specs.DinWatts.{written_in, written_if, entry_in, tuple_in, schedules_in, parameters_in, demand_in, body_watts}
use Rattle.own_courses.specs.Owning.{AreSingle, IsSingle}
use Rattle.own_codecs.proofs.Weighed.{IsWeighed, none_least, quiet, power_least, first_least, both_least, equal_least, whole_is, within_is, tuples_least, none_more, reply_least}

-- ---- of a PhysicalValue

power_is : (i : Inside) → watts_of (written_in (children i)) ≡ (read power i).size
power_is i =
    ap₂ (λ m v. units_of (nearest m) v) (sym (number_is (children i MULTIPLIER))) (sym (number_is (children i VALUE)))

power_if : (found : List Inside) → power_in (written_if found) ≡ size_of (option_map (λ i. read power i) (head found))
power_if [] = refl
power_if (i ∷ more) = power_is i

-- ---- of a CurrentDemandRes

demand_weighs : (plan : PostPlan) (x : Children) → spelled_in plan (demand_in x) ≤ tell_watts plan (demand_told (read demand_res x).1)
demand_weighs plan x =
    power_least (power_in (written_if (x EVSE_MAXIMUM_POWER_LIMIT))) (size_of (option_map (λ i. read power i) (head (x EVSE_MAXIMUM_POWER_LIMIT))))
    (power_if (x EVSE_MAXIMUM_POWER_LIMIT))

-- ---- the limits of a ChargeParameterDiscoveryRes

limits_weigh : (plan : PostPlan) (found : List Inside)
    → max (power_in (written_if (within found EVSE_MAXIMUM_POWER_LIMIT))) 0 ≤ limits_watts plan (limits_of (read post_parameters (or_empty (head found))))
limits_weigh plan [] = none_least 0
limits_weigh plan (d ∷ more) =
    let few : power_in (written_if (children d EVSE_MAXIMUM_POWER_LIMIT)) ≤ size_of (option_map (λ i. read power i) (head (children d EVSE_MAXIMUM_POWER_LIMIT))) =
    equal_least (power_in (written_if (children d EVSE_MAXIMUM_POWER_LIMIT))) (size_of (option_map (λ i. read power i) (head (children d EVSE_MAXIMUM_POWER_LIMIT))))
    (power_if (children d EVSE_MAXIMUM_POWER_LIMIT)) in
    first_least (power_in (written_if (children d EVSE_MAXIMUM_POWER_LIMIT))) (size_of (option_map (λ i. read power i) (head (children d EVSE_MAXIMUM_POWER_LIMIT)))) few

-- ---- its schedules

entry_is : (i : Inside) → watts_of (entry_in i) ≡ (read schedule_entry i).1.0.size
entry_is i = whole_is (number (children i P_MAX)) ∙ ap above_zero (sym (number_is (children i P_MAX)))

entries_weigh : (found : List Inside) → length (map (λ i. read schedule_entry i) found) ≡ 1
    → most_in (map entry_in found) ≤ least_of (map (λ e. e.1.0.size) (map (λ i. read schedule_entry i) found))
entries_weigh [] one = none_least 0
entries_weigh (i ∷ []) one =
    first_least (watts_of (entry_in i)) (read schedule_entry i).1.0.size (equal_least (watts_of (entry_in i)) (read schedule_entry i).1.0.size (entry_is i))
entries_weigh (i ∷ j ∷ more) one = absurd (omega (arith, one))

tuple_weighs : (i : Inside) → (read tuple i).entries ≡ 1 → most_in (tuple_in i) ≤ (read tuple i).least.size
tuple_weighs i one =
    subst (λ (x : Children). most_in (map entry_in (x P_MAX_SCHEDULE_ENTRY)) ≤ (read tuple i).least.size) (sym (within_is (children i P_MAX_SCHEDULE)))
    (entries_weigh (children (or_empty (head (children i P_MAX_SCHEDULE))) P_MAX_SCHEDULE_ENTRY) one)

abbrev told_schedules : List Inside → Option (List Tuple)
told_schedules lists = option_map (λ i. read schedules i) (head lists)

schedules_weigh : (lists : List Inside) → AreSingle (option_map (λ ts. record { items = ts }) (told_schedules lists))
    → most_in (schedules_in lists) ≤ schedule_watts (option_map (λ ts. record { items = ts }) (told_schedules lists))
schedules_weigh [] single = none_least 0
schedules_weigh (l ∷ more) single =
    none_more (most_in (flat_map tuple_in (children l SA_SCHEDULE_TUPLE))) (schedule_watts (option_map (λ ts. record { items = ts }) (told_schedules (l ∷ more))))
    (tuples_least tuple_in (λ i. read tuple i) tuple_weighs (children l SA_SCHEDULE_TUPLE) 0 single)

parameters_weigh : (plan : PostPlan) (x : Children) → IsSingle (parameters_told (read parameters_res x).1)
    → spelled_in plan (parameters_in x) ≤ tell_watts plan (parameters_told (read parameters_res x).1)
parameters_weigh plan x single =
    both_least
    (max (power_in (written_if (within (x DC_EVSE_CHARGE_PARAMETER) EVSE_MAXIMUM_POWER_LIMIT))) 0)
    (most_in (schedules_in (x SA_SCHEDULE_LIST)))
    (limits_watts plan (limits_of (read post_parameters (or_empty (head (x DC_EVSE_CHARGE_PARAMETER))))))
    (schedule_watts (option_map (λ ts. record { items = ts }) (told_schedules (x SA_SCHEDULE_LIST))))
    (limits_weigh plan (x DC_EVSE_CHARGE_PARAMETER))
    (schedules_weigh (x SA_SCHEDULE_LIST) single)

-- ---- what is written

-- of a table under this name
abbrev pub own_of : {X : Type 0} → ℕ → Table rows X → SessionId → X → Inside
own_of name table s x = written (message frame name table) (framed s x)

abbrev pub tree_watts : Tree → SpelledWatts
tree_watts tree = body_watts (first_in (root_children tree BODY))

abbrev OwnWeighed : PostPlan → Option Inside → Type 0
OwnWeighed plan None = Unit {0}
OwnWeighed plan (Some own) = IsWeighed plan (tree_watts (root own)) (word_in own)

quiet_own : {X : Type 0} (plan : PostPlan) (name : ℕ) (table : Table rows X) (s : SessionId) (x : X) → tree_watts (root (own_of name table s x)) ≡ no_watts
    → OwnWeighed plan (in_message frame name table s x)
quiet_own plan name table s x is =
    subst (λ (w : SpelledWatts). IsWeighed plan w (word_in (own_of name table s x))) (sym is) (quiet plan (word_in (own_of name table s x)))

tell_weighed : (plan : PostPlan) (s : SessionId) (c : Code) (t : Tell) → OwnWeighed plan (in_tell s c t)
tell_weighed plan s c (tell.SessionSetup (evse_id.Bytes id)) = quiet_own plan SESSION_SETUP_RES setup_res s (c, (id.items, tt)) refl
tell_weighed plan s c (tell.SessionSetup (evse_id.Text id)) = tt
tell_weighed plan s c (tell.ServiceDiscovery free modes) =
    quiet_own plan SERVICE_DISCOVERY_RES discovery_res s (c, ((free, (first_mode modes.items, tt)), tt)) refl
tell_weighed plan s c (tell.ServiceDetail service) = tt
tell_weighed plan s c tell.PaymentSelection = quiet_own plan SERVICE_PAYMENT_SELECTION_RES code_alone s (c, tt) refl
tell_weighed plan s c (tell.Authorization p) = quiet_own plan CONTRACT_AUTHENTICATION_RES authorization_res s (c, (p, tt)) refl
tell_weighed plan s c (tell.ChargeParameters p schedule (limits.Ac notify v a)) = tt
tell_weighed plan s c (tell.ChargeParameters p schedule (limits.Dc status a w v least_a least_v ripple)) =
    λ single. parameters_weigh plan
    (children (Holding [] (written parameters_res
    (c, (p, (option_map (λ tuples. tuples.items) schedule, ((status, (a, (w, (v, (least_a, (least_v, (ripple, tt))))))), tt)))))))
    single
tell_weighed plan s c (tell.CableCheck status p) = quiet_own plan CABLE_CHECK_RES cable_check_res s (c, (status, (p, tt))) refl
tell_weighed plan s c (tell.PreCharge status v) = quiet_own plan PRE_CHARGE_RES present_voltage s (c, (status, (v, tt))) refl
tell_weighed plan s c (tell.PowerDelivery (post.Ac notify)) = tt
tell_weighed plan s c (tell.PowerDelivery (post.Dc status)) = quiet_own plan POWER_DELIVERY_RES delivery_res s (c, (status, tt)) refl
tell_weighed plan s c (tell.CurrentDemand status v a a_cut v_cut w_cut most_v most_a most_w id) =
    λ single. demand_weighs plan
    (children (Holding [] (written demand_res (c, (status, (v, (a, (a_cut, (v_cut, (w_cut, (most_v, (most_a, (most_w, tt)))))))))))))
tell_weighed plan s c (tell.ChargingStatus n id a) = tt
tell_weighed plan s c (tell.WeldingDetection status v) = quiet_own plan WELDING_DETECTION_RES present_voltage s (c, (status, (v, tt))) refl
tell_weighed plan s c tell.SessionStop = quiet_own plan SESSION_STOP_RES code_alone s (c, tt) refl

-- ---- a payload

pub weighs : (plan : PostPlan) (reply : Reply) (payload : List ℕ) (watts : SpelledWatts) → Encodes reply payload → PayloadSpells schema DinTree payload watts
    → IsSingle reply.tell → spelled_in plan watts ≤ tell_watts plan (read_back reply).tell
weighs plan reply payload watts e w single =
    let own = e.written.own in
    let same : w.tree ≡ root own =
    (payload_decided schema payload).one_tree w.tree (root own) w.document (encoding_spelled schema (root own) payload e.written.encoding) in
    let is : tree_watts (root own) ≡ watts = sym (w.spelled.1 ∙ ap tree_watts same) in
    let weighed : IsWeighed plan (tree_watts (root own)) (word_in own) =
    subst (OwnWeighed plan) e.written.own_is (tell_weighed plan reply.session reply.code reply.tell) in
    let reads : word_in own ≡ word.Reply (read_back reply) =
    subst (λ (o : Option Inside). ReadsAs word_in o (word.Reply (read_back reply))) e.written.own_is (word_read_back (word.Reply reply) e.can) in
    subst (λ (s : SpelledWatts). spelled_in plan s ≤ tell_watts plan (read_back reply).tell) is
    (reply_least plan reply (tree_watts (root own)) (word_in own) reads weighed single)
