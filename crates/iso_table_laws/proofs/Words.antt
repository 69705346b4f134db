-- The tree of a word of ISO 15118-2:2014 reads as that word, but for the watts that are dropped.
use Rattle.std.proofs.Common.{◌≡◌, ◌≤◌, length, arith, ℤ, Option, Some, None, IsTrue, refl, ◌∙◌, ap, ap₂}
use Rattle.std.specs.Option.{option_map}
use Rattle.post_spec.specs.Spelled.{dropped_tell}
use Rattle.session_words.specs.declared.code.Code.{Code}
use Rattle.session_words.specs.declared.limits.EvseId.TheVariants as evse_id
use Rattle.session_words.specs.declared.session.SessionId.{SessionId}
use Rattle.session_words.specs.declared.word.Ask.{Ask}
use Rattle.session_words.specs.declared.word.Ask.TheVariants as ask
use Rattle.session_words.specs.declared.word.Tell.{Tell}
use Rattle.session_words.specs.declared.word.Tell.TheVariants as tell
use Rattle.session_words.specs.declared.word.Word.{Word}
use Rattle.session_words.specs.declared.word.Word.TheVariants as word
use Rattle.tree_words.proofs.Lists.{◌⊛◌}
use Rattle.word_values.proofs.TextLemmas.{fitting_all}
use Rattle.written_words.specs.Back.{dropped_ask, word_back}
use Rattle.iso_values.specs.Codes.{is_iso_code}
use Rattle.iso_word_messages.specs.Spellable.{AreTenths, CanAsk, CanTell, CanSession, CanSpell, IsSomeTuple}
use Rattle.iso_schema.specs.declared.names.TheConstants.{AUTHORIZATION_REQ, AUTHORIZATION_RES, CABLE_CHECK_REQ, CABLE_CHECK_RES, CHARGE_PARAMETER_DISCOVERY_REQ, CHARGE_PARAMETER_DISCOVERY_RES, CHARGING_STATUS_REQ, CHARGING_STATUS_RES, CURRENT_DEMAND_REQ, CURRENT_DEMAND_RES, PAYMENT_SERVICE_SELECTION_REQ, PAYMENT_SERVICE_SELECTION_RES, POWER_DELIVERY_REQ, POWER_DELIVERY_RES, PRE_CHARGE_REQ, PRE_CHARGE_RES, SERVICE_DETAIL_REQ, SERVICE_DETAIL_RES, SERVICE_DISCOVERY_REQ, SERVICE_DISCOVERY_RES, SESSION_SETUP_REQ, SESSION_SETUP_RES, SESSION_STOP_REQ, SESSION_STOP_RES, WELDING_DETECTION_REQ, WELDING_DETECTION_RES}
use Rattle.word_tables.specs.Tables.{nothing, back}
use Rattle.message_tables.proofs.Lists.{if_back, each_kept}
use Rattle.message_tables.proofs.Numbers.{notify_named, mode_named, second_named}
use Rattle.message_tables.proofs.Frames.{request, reply, asked_back, told_back, ReadsAs}
use Rattle.iso_tables.specs.Values.{current, voltage}
use Rattle.iso_tables.specs.Frame.{frame}
use Rattle.iso_tables.specs.Setup.{code_alone, setup_req, setup_asked, setup_res, setup_told, discovery_res, discovery_told, service_row, detail_asked, detail_res, detail_told, service, selection_req, selection_asked, authorization_res, authorization_told, stop_req, stop_asked}
use Rattle.iso_tables.specs.Power.{car_alone, present_voltage, cable_check_asked, cable_check_res, cable_check_told, pre_charge_req, pre_charge_asked, pre_charge_told, delivery_req, delivery_asked, tuple_or_first, delivery_res, status_parts, delivery_told, demand_req, demand_asked, demand_res, demand_told, charging_res, charging_told, welding_asked, welding_told}
use Rattle.iso_tables.specs.Parameters.{parameters_req, car_parts, parameters_asked, parameters_res, limit_parts, parameters_told}
use Rattle.iso_tables.specs.Words.{word_in, in_ask, in_tell, in_word}
use Rattle.iso_table_laws.proofs.Back.{current_back, voltage_back, powers_back, status_back, post_status_back, code_back, step_back, modes_back, progress_back, evse_back, profiles_back, schedules_back, car_back, limits_back}

some_tuple : (o : Option ℤ) → IsSomeTuple o → Some (tuple_or_first o) ≡ o
some_tuple None h = absurd h
some_tuple (Some id) h = refl

ask_back : (s : SessionId) (a : Ask) → CanSession s → CanAsk a → ReadsAs word_in (in_ask s a) (request s (dropped_ask a))
ask_back s (ask.SessionSetup car) named can =
    let six : length car.items ≤ 6 = can.0 in
    let few : length car.items ≤ 8 = omega arith in
    asked_back frame SESSION_SETUP_REQ setup_req setup_asked s (car.items, tt) refl named.0
    ∙ ap (λ b. request s (ask.SessionSetup (record { items = b }))) (fitting_all 8 car.items few)
ask_back s ask.ServiceDiscovery named can = asked_back frame SERVICE_DISCOVERY_REQ nothing (λ x. ask.ServiceDiscovery) s tt refl named.0
ask_back s (ask.ServiceDetail service) named can = asked_back frame SERVICE_DETAIL_REQ service_row detail_asked s (service, tt) refl named.0
ask_back s (ask.PaymentSelection external services) named can =
    asked_back frame PAYMENT_SERVICE_SELECTION_REQ selection_req selection_asked s (external, (services.items, tt)) refl named.0
    ∙ ap₂ (λ e ns. request s (ask.PaymentSelection e (record { items = ns }))) (second_named external) (each_kept (λ n. back service n) (λ n. refl) services.items)
ask_back s ask.Authorization named can = asked_back frame AUTHORIZATION_REQ nothing (λ x. ask.Authorization) s tt refl named.0
ask_back s (ask.ChargeParameters mode l) named can =
    asked_back frame CHARGE_PARAMETER_DISCOVERY_REQ parameters_req parameters_asked s (mode, (car_parts l, tt)) refl named.0
    ∙ ap₂ (λ m l. request s (ask.ChargeParameters m l)) (mode_named mode) (car_back l can)
ask_back s (ask.CableCheck ready soc) named can = asked_back frame CABLE_CHECK_REQ car_alone cable_check_asked s ((ready, (soc, tt)), tt) refl named.0
ask_back s (ask.PreCharge ready soc v a) named can =
    asked_back frame PRE_CHARGE_REQ pre_charge_req pre_charge_asked s ((ready, (soc, tt)), (v, (a, tt))) refl named.0
    ∙ ap₂ (λ v a. request s (ask.PreCharge ready soc v a)) (voltage_back v can.1) (current_back a can.2)
ask_back s (ask.PowerDelivery progress tuple watts) named can =
    asked_back frame POWER_DELIVERY_REQ delivery_req delivery_asked s (progress, (tuple_or_first tuple, (watts, tt))) refl named.0
    ∙ (ap (λ p t w. request s (ask.PowerDelivery p t w)) (progress_back progress) ⊛ some_tuple tuple can.0 ⊛ profiles_back watts)
ask_back s (ask.CurrentDemand ready soc v a) named can =
    asked_back frame CURRENT_DEMAND_REQ demand_req demand_asked s ((ready, (soc, tt)), (a, (v, tt))) refl named.0
    ∙ ap₂ (λ v a. request s (ask.CurrentDemand ready soc v a)) (voltage_back v can.1) (current_back a can.2)
ask_back s ask.ChargingStatus named can = asked_back frame CHARGING_STATUS_REQ nothing (λ x. ask.ChargingStatus) s tt refl named.0
ask_back s (ask.WeldingDetection ready soc) named can = asked_back frame WELDING_DETECTION_REQ car_alone welding_asked s ((ready, (soc, tt)), tt) refl named.0
ask_back s (ask.SessionStop pause) named can =
    asked_back frame SESSION_STOP_REQ stop_req stop_asked s (pause, tt) refl named.0 ∙ ap (λ p. request s (ask.SessionStop p)) (second_named pause)

tell_back : (s : SessionId) (c : Code) (t : Tell) → CanSession s → IsTrue (is_iso_code c) → CanTell t → ReadsAs word_in (in_tell s c t) (reply s c (dropped_tell t))
tell_back s c (tell.SessionSetup (evse_id.Text id)) named is can =
    told_back frame SESSION_SETUP_RES setup_res setup_told s (c, (id, tt)) refl named.0
    ∙ ap₂ (λ d b. reply s d (tell.SessionSetup (evse_id.Text b))) (code_back c is) (evse_back id can.0 can.1)
tell_back s c (tell.SessionSetup (evse_id.Bytes id)) named is can = tt
tell_back s c (tell.ServiceDiscovery free modes) named is can =
    told_back frame SERVICE_DISCOVERY_RES discovery_res discovery_told s (c, ((free, (modes.items, tt)), tt)) refl named.0
    ∙ ap₂ (λ d ms. reply s d (tell.ServiceDiscovery free (record { items = ms }))) (code_back c is) (modes_back modes.items can.1)
tell_back s c (tell.ServiceDetail service) named is can =
    told_back frame SERVICE_DETAIL_RES detail_res detail_told s (c, (service, tt)) refl named.0
    ∙ ap (λ d. reply s d (tell.ServiceDetail service)) (code_back c is)
tell_back s c tell.PaymentSelection named is can =
    told_back frame PAYMENT_SERVICE_SELECTION_RES code_alone (λ x. tell.PaymentSelection) s (c, tt) refl named.0
    ∙ ap (λ d. reply s d tell.PaymentSelection) (code_back c is)
tell_back s c (tell.Authorization p) named is can =
    told_back frame AUTHORIZATION_RES authorization_res authorization_told s (c, (p, tt)) refl named.0
    ∙ ap₂ (λ d q. reply s d (tell.Authorization q)) (code_back c is) (step_back p)
tell_back s c (tell.ChargeParameters p schedule l) named is can =
    told_back frame CHARGE_PARAMETER_DISCOVERY_RES parameters_res parameters_told s
    (c, (p, (option_map (λ tuples. tuples.items) schedule, (limit_parts l, tt)))) refl named.0
    ∙ (ap (λ d q o l. reply s d (tell.ChargeParameters q o l)) (code_back c is)
    ⊛ step_back p ⊛ schedules_back schedule can.0 ⊛ limits_back l can.1)
tell_back s c (tell.CableCheck status p) named is can =
    told_back frame CABLE_CHECK_RES cable_check_res cable_check_told s (c, (status, (p, tt))) refl named.0
    ∙ (ap (λ d x q. reply s d (tell.CableCheck x q)) (code_back c is) ⊛ status_back status ⊛ step_back p)
tell_back s c (tell.PreCharge status v) named is can =
    told_back frame PRE_CHARGE_RES present_voltage pre_charge_told s (c, (status, (v, tt))) refl named.0
    ∙ (ap (λ d x v. reply s d (tell.PreCharge x v)) (code_back c is) ⊛ status_back status ⊛ voltage_back v can)
tell_back s c (tell.PowerDelivery status) named is can =
    told_back frame POWER_DELIVERY_RES delivery_res delivery_told s (c, (status_parts status, tt)) refl named.0
    ∙ ap₂ (λ d x. reply s d (tell.PowerDelivery x)) (code_back c is) (post_status_back status)
tell_back s c (tell.CurrentDemand status v a v_cut a_cut w_cut most_v most_a most_w (Some (evse_id.Text id))) named is can =
    told_back frame CURRENT_DEMAND_RES demand_res demand_told s
    (c, (status, (v, (a, (v_cut, (a_cut, (w_cut, (most_v, (most_a, (most_w, (id, tt))))))))))) refl named.0
    ∙ (ap (λ d x v a mv ma mw e. reply s d (tell.CurrentDemand x v a v_cut a_cut w_cut mv ma mw (Some (evse_id.Text e)))) (code_back c is)
    ⊛ status_back status ⊛ voltage_back v can.0 ⊛ current_back a can.1
    ⊛ if_back AreTenths (λ y. back voltage y) voltage_back most_v can.2 ⊛ if_back AreTenths (λ y. back current y) current_back most_a can.3
    ⊛ powers_back most_w ⊛ evse_back id can.5.0 can.5.1)
tell_back s c (tell.CurrentDemand status v a v_cut a_cut w_cut most_v most_a most_w (Some (evse_id.Bytes id))) named is can = tt
tell_back s c (tell.CurrentDemand status v a v_cut a_cut w_cut most_v most_a most_w None) named is can = tt
tell_back s c (tell.ChargingStatus n (evse_id.Text id) a) named is can =
    told_back frame CHARGING_STATUS_RES charging_res charging_told s (c, (id, (a, (n, tt)))) refl named.0
    ∙ (ap (λ d n e a. reply s d (tell.ChargingStatus n (evse_id.Text e) a)) (code_back c is)
    ⊛ notify_named n ⊛ evse_back id can.0.0 can.0.1 ⊛ if_back AreTenths (λ y. back current y) current_back a can.1)
tell_back s c (tell.ChargingStatus n (evse_id.Bytes id) a) named is can = tt
tell_back s c (tell.WeldingDetection status v) named is can =
    told_back frame WELDING_DETECTION_RES present_voltage welding_told s (c, (status, (v, tt))) refl named.0
    ∙ (ap (λ d x v. reply s d (tell.WeldingDetection x v)) (code_back c is) ⊛ status_back status ⊛ voltage_back v can)
tell_back s c tell.SessionStop named is can =
    told_back frame SESSION_STOP_RES code_alone (λ x. tell.SessionStop) s (c, tt) refl named.0 ∙ ap (λ d. reply s d tell.SessionStop) (code_back c is)

-- what is written for a word reads as the word
pub word_read_back : (w : Word) → CanSpell w → ReadsAs word_in (in_word w) (word_back w)
word_read_back (word.Request r) can = ask_back r.session r.ask can.0 can.1
word_read_back (word.Reply r) can = tell_back r.session r.code r.tell can.0 can.1 can.2
word_read_back word.Nothing can = tt
