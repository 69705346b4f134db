-- The tree of a word of DIN SPEC 70121:2014 reads as that word, but for the watts that are dropped.
use Rattle.std.proofs.Common.{◌≡◌, true, false, ℤ, Option, Some, None, IsTrue, refl, ◌∙◌, ap, ap₂}
use Rattle.std.specs.Option.{option_map}
use Rattle.post_spec.specs.Spelled.{dropped, dropped_tell}
use Rattle.session_words.specs.declared.amount.Amount.{Amount}
use Rattle.session_words.specs.declared.code.Code.{Code}
use Rattle.session_words.specs.declared.code.Progress.{Progress}
use Rattle.session_words.specs.declared.limits.CarLimits.TheVariants as car
use Rattle.session_words.specs.declared.limits.EvseId.TheVariants as evse
use Rattle.session_words.specs.declared.limits.PostLimits.TheVariants as limits
use Rattle.session_words.specs.declared.limits.PostStatus.TheVariants as post
use Rattle.session_words.specs.declared.session.SessionId.{SessionId}
use Rattle.session_words.specs.declared.word.Ask.{Ask}
use Rattle.session_words.specs.declared.word.Ask.TheVariants as ask
use Rattle.session_words.specs.declared.word.Tell.{Tell}
use Rattle.session_words.specs.declared.word.Tell.TheVariants as tell
use Rattle.session_words.specs.declared.word.Word.{Word}
use Rattle.session_words.specs.declared.word.Word.TheVariants as word
use Rattle.tree_words.proofs.Lists.{◌⊛◌}
use Rattle.word_values.proofs.TextLemmas.{fitting_all}
use Rattle.written_words.specs.Back.{dropped_ask, word_back}
use Rattle.din_values.specs.Codes.{is_din_code}
use Rattle.din_word_messages.specs.Spellable.{AreTenths, IsDinProgress, CanProfile, CanAsk, CanTell, CanSession, CanSpell}
use Rattle.din_schema.specs.declared.names.TheConstants.{SESSION_SETUP_REQ, SESSION_SETUP_RES, SERVICE_DISCOVERY_REQ, SERVICE_DISCOVERY_RES, SERVICE_PAYMENT_SELECTION_REQ, SERVICE_PAYMENT_SELECTION_RES, CONTRACT_AUTHENTICATION_REQ, CONTRACT_AUTHENTICATION_RES, CHARGE_PARAMETER_DISCOVERY_REQ, CHARGE_PARAMETER_DISCOVERY_RES, CABLE_CHECK_REQ, CABLE_CHECK_RES, PRE_CHARGE_REQ, PRE_CHARGE_RES, POWER_DELIVERY_REQ, POWER_DELIVERY_RES, CURRENT_DEMAND_REQ, CURRENT_DEMAND_RES, WELDING_DETECTION_REQ, WELDING_DETECTION_RES, SESSION_STOP_REQ, SESSION_STOP_RES}
use Rattle.word_tables.specs.Tables.{nothing, back}
use Rattle.message_tables.proofs.Lists.{if_back, each_kept}
use Rattle.message_tables.proofs.Numbers.{mode_named, second_named}
use Rattle.message_tables.proofs.Frames.{request, reply, asked_back, told_back, ReadsAs}
use Rattle.din_tables.specs.Values.{current, voltage}
use Rattle.din_tables.specs.Frame.{frame}
use Rattle.din_tables.specs.Setup.{code_alone, setup_req, setup_asked, setup_res, setup_told, discovery_res, discovery_told, first_mode, service, selection_req, selection_asked, authorization_res, authorization_told}
use Rattle.din_tables.specs.Power.{car_alone, present_voltage, cable_check_asked, cable_check_res, cable_check_told, pre_charge_req, pre_charge_asked, pre_charge_told, profile, delivery_req, is_start, delivery_asked, profile_if, delivery_res, delivery_told, demand_req, demand_asked, demand_res, demand_told, welding_asked, welding_told}
use Rattle.din_tables.specs.Parameters.{parameters_req, parameters_asked, parameters_res, parameters_told}
use Rattle.din_tables.specs.Words.{word_in, in_ask, in_tell, in_word}
use Rattle.din_table_laws.proofs.Back.{current_back, voltage_back, powers_back, status_back, code_back, step_back, modes_back, progress_back, profile_back, schedules_back, limits_back}

delivery_back : (s : SessionId) (p : Progress) (tuple : Option ℤ) (watts : Option Amount) → IsDinProgress p → CanProfile tuple watts
    → request s (delivery_asked (is_start p, (option_map (λ y. back profile y) (profile_if tuple watts), tt)))
    ≡ request s (ask.PowerDelivery p tuple (option_map dropped watts))
delivery_back s p None None is can = ap (λ q. request s (ask.PowerDelivery q None None)) (progress_back p is)
delivery_back s p (Some tuple) (Some watts) is can =
    ap₂ (λ q x. request s (ask.PowerDelivery q (Some x.0) (Some x.1))) (progress_back p is) (profile_back (tuple, watts) can.1)
delivery_back s p (Some tuple) None is can = absurd can
delivery_back s p None (Some watts) is can = absurd can

ask_back : (s : SessionId) (a : Ask) → CanSession s → CanAsk a → ReadsAs word_in (in_ask s a) (request s (dropped_ask a))
ask_back s (ask.SessionSetup car) named can =
    asked_back frame SESSION_SETUP_REQ setup_req setup_asked s (car.items, tt) refl named.0
    ∙ ap (λ b. request s (ask.SessionSetup (record { items = b }))) (fitting_all 8 car.items can.0)
ask_back s ask.ServiceDiscovery named can = asked_back frame SERVICE_DISCOVERY_REQ nothing (λ x. ask.ServiceDiscovery) s tt refl named.0
ask_back s (ask.ServiceDetail _) named can = tt
ask_back s (ask.PaymentSelection external services) named can =
    asked_back frame SERVICE_PAYMENT_SELECTION_REQ selection_req selection_asked s (external, (services.items, tt)) refl named.0
    ∙ ap₂ (λ e ns. request s (ask.PaymentSelection e (record { items = ns }))) (second_named external) (each_kept (λ n. back service n) (λ n. refl) services.items)
ask_back s ask.Authorization named can = asked_back frame CONTRACT_AUTHENTICATION_REQ nothing (λ x. ask.Authorization) s tt refl named.0
ask_back s (ask.ChargeParameters mode (car.Ac _ _ _)) named can = tt
ask_back s (ask.ChargeParameters mode (car.Dc ready soc a w v)) named can =
    asked_back frame CHARGE_PARAMETER_DISCOVERY_REQ parameters_req parameters_asked s (mode, (((ready, (soc, tt)), (a, (w, (v, tt)))), tt)) refl named.0
    ∙ (ap (λ m a w v. request s (ask.ChargeParameters m (car.Dc ready soc a w v))) (mode_named mode)
    ⊛ current_back a can.1 ⊛ powers_back w ⊛ voltage_back v can.3)
ask_back s (ask.CableCheck ready soc) named can = asked_back frame CABLE_CHECK_REQ car_alone cable_check_asked s ((ready, (soc, tt)), tt) refl named.0
ask_back s (ask.PreCharge ready soc v a) named can =
    asked_back frame PRE_CHARGE_REQ pre_charge_req pre_charge_asked s ((ready, (soc, tt)), (v, (a, tt))) refl named.0
    ∙ ap₂ (λ v a. request s (ask.PreCharge ready soc v a)) (voltage_back v can.1) (current_back a can.2)
ask_back s (ask.PowerDelivery progress tuple watts) named can =
    asked_back frame POWER_DELIVERY_REQ delivery_req delivery_asked s (is_start progress, (profile_if tuple watts, tt)) refl named.0
    ∙ delivery_back s progress tuple watts can.0 can.1
ask_back s (ask.CurrentDemand ready soc v a) named can =
    asked_back frame CURRENT_DEMAND_REQ demand_req demand_asked s ((ready, (soc, tt)), (a, (v, tt))) refl named.0
    ∙ ap₂ (λ v a. request s (ask.CurrentDemand ready soc v a)) (voltage_back v can.1) (current_back a can.2)
ask_back s ask.ChargingStatus named can = tt
ask_back s (ask.WeldingDetection ready soc) named can = asked_back frame WELDING_DETECTION_REQ car_alone welding_asked s ((ready, (soc, tt)), tt) refl named.0
ask_back s (ask.SessionStop false) named can = asked_back frame SESSION_STOP_REQ nothing (λ x. ask.SessionStop false) s tt refl named.0
ask_back s (ask.SessionStop true) named can = absurd cc

tell_back : (s : SessionId) (c : Code) (t : Tell) → CanSession s → IsTrue (is_din_code c) → CanTell t → ReadsAs word_in (in_tell s c t) (reply s c (dropped_tell t))
tell_back s c (tell.SessionSetup (evse.Bytes id)) named is can =
    told_back frame SESSION_SETUP_RES setup_res setup_told s (c, (id.items, tt)) refl named.0
    ∙ ap₂ (λ d b. reply s d (tell.SessionSetup (evse.Bytes (record { items = b })))) (code_back c is) (fitting_all 32 id.items can.0)
tell_back s c (tell.SessionSetup (evse.Text id)) named is can = tt
tell_back s c (tell.ServiceDiscovery free modes) named is can =
    told_back frame SERVICE_DISCOVERY_RES discovery_res discovery_told s (c, ((free, (first_mode modes.items, tt)), tt)) refl named.0
    ∙ ap₂ (λ d ms. reply s d (tell.ServiceDiscovery free (record { items = ms }))) (code_back c is) (modes_back modes.items can.0 can.1)
tell_back s c (tell.ServiceDetail _) named is can = tt
tell_back s c tell.PaymentSelection named is can =
    told_back frame SERVICE_PAYMENT_SELECTION_RES code_alone (λ x. tell.PaymentSelection) s (c, tt) refl named.0
    ∙ ap (λ d. reply s d tell.PaymentSelection) (code_back c is)
tell_back s c (tell.Authorization p) named is can =
    told_back frame CONTRACT_AUTHENTICATION_RES authorization_res authorization_told s (c, (p, tt)) refl named.0
    ∙ ap₂ (λ d q. reply s d (tell.Authorization q)) (code_back c is) (step_back p can)
tell_back s c (tell.ChargeParameters p schedule (limits.Ac _ _ _)) named is can = tt
tell_back s c (tell.ChargeParameters p schedule (limits.Dc status a w v la lv ripple)) named is can =
    told_back frame CHARGE_PARAMETER_DISCOVERY_RES parameters_res parameters_told s
    (c, (p, (option_map (λ tuples. tuples.items) schedule, ((status, (a, (w, (v, (la, (lv, (ripple, tt))))))), tt)))) refl named.0
    ∙ (ap (λ d q o l. reply s d (tell.ChargeParameters q o l)) (code_back c is)
    ⊛ step_back p can.0 ⊛ schedules_back schedule can.1 ⊛ limits_back status a w v la lv ripple can.2)
tell_back s c (tell.CableCheck status p) named is can =
    told_back frame CABLE_CHECK_RES cable_check_res cable_check_told s (c, (status, (p, tt))) refl named.0
    ∙ (ap (λ d x q. reply s d (tell.CableCheck x q)) (code_back c is) ⊛ status_back status can.0 ⊛ step_back p can.1)
tell_back s c (tell.PreCharge status v) named is can =
    told_back frame PRE_CHARGE_RES present_voltage pre_charge_told s (c, (status, (v, tt))) refl named.0
    ∙ (ap (λ d x v. reply s d (tell.PreCharge x v)) (code_back c is) ⊛ status_back status can.0 ⊛ voltage_back v can.1)
tell_back s c (tell.PowerDelivery (post.Ac notify)) named is can = tt
tell_back s c (tell.PowerDelivery (post.Dc status)) named is can =
    told_back frame POWER_DELIVERY_RES delivery_res delivery_told s (c, (status, tt)) refl named.0
    ∙ ap₂ (λ d x. reply s d (tell.PowerDelivery (post.Dc x))) (code_back c is) (status_back status can)
tell_back s c (tell.CurrentDemand status v a v_cut a_cut w_cut most_v most_a most_w None) named is can =
    told_back frame CURRENT_DEMAND_RES demand_res demand_told s (c, (status, (v, (a, (v_cut, (a_cut, (w_cut, (most_v, (most_a, (most_w, tt)))))))))) refl named.0
    ∙ (ap (λ d x v a mv ma mw. reply s d (tell.CurrentDemand x v a v_cut a_cut w_cut mv ma mw None)) (code_back c is)
    ⊛ status_back status can.0 ⊛ voltage_back v can.1 ⊛ current_back a can.2
    ⊛ if_back AreTenths (λ y. back voltage y) voltage_back most_v can.3 ⊛ if_back AreTenths (λ y. back current y) current_back most_a can.4
    ⊛ powers_back most_w)
tell_back s c (tell.CurrentDemand status v a v_cut a_cut w_cut most_v most_a most_w (Some id)) named is can = absurd can.6
tell_back s c (tell.ChargingStatus _ _ _) named is can = tt
tell_back s c (tell.WeldingDetection status v) named is can =
    told_back frame WELDING_DETECTION_RES present_voltage welding_told s (c, (status, (v, tt))) refl named.0
    ∙ (ap (λ d x v. reply s d (tell.WeldingDetection x v)) (code_back c is) ⊛ status_back status can.0 ⊛ voltage_back v can.1)
tell_back s c tell.SessionStop named is can =
    told_back frame SESSION_STOP_RES code_alone (λ x. tell.SessionStop) s (c, tt) refl named.0 ∙ ap (λ d. reply s d tell.SessionStop) (code_back c is)

-- what is written for a word reads as the word
pub word_read_back : (w : Word) → CanSpell w → ReadsAs word_in (in_word w) (word_back w)
word_read_back (word.Request r) can = ask_back r.session r.ask can.0 can.1
word_read_back (word.Reply r) can = tell_back r.session r.code r.tell can.0 can.1 can.2
word_read_back word.Nothing can = tt
