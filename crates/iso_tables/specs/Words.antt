-- ISO 15118-2:2014 8.3 (body): the messages, and by their tables the word of a tree and the tree of a word.
use Rattle.std.specs.Prelude.{ℕ, List, [], ◌∷◌, Option, Some, None}
use Rattle.std.specs.Option.{option_map}
use Rattle.exi_documents.specs.Trees.{Tree}
use Rattle.message_parts.specs.Contents.{Inside, root_of}
use Rattle.session_words.specs.declared.code.Code.{Code}
use Rattle.session_words.specs.declared.limits.EvseId.TheVariants as evse_id
use Rattle.session_words.specs.declared.session.SessionId.{SessionId}
use Rattle.session_words.specs.declared.word.Ask.{Ask}
use Rattle.session_words.specs.declared.word.Ask.TheVariants as ask
use Rattle.session_words.specs.declared.word.Tell.{Tell}
use Rattle.session_words.specs.declared.word.Tell.TheVariants as tell
use Rattle.session_words.specs.declared.word.Word.{Word}
use Rattle.session_words.specs.declared.word.Word.TheVariants as word
use Rattle.iso_schema.specs.declared.names.TheConstants.{V2G_MESSAGE, AUTHORIZATION_REQ, AUTHORIZATION_RES, CABLE_CHECK_REQ, CABLE_CHECK_RES, CHARGE_PARAMETER_DISCOVERY_REQ, CHARGE_PARAMETER_DISCOVERY_RES, CHARGING_STATUS_REQ, CHARGING_STATUS_RES, CURRENT_DEMAND_REQ, CURRENT_DEMAND_RES, PAYMENT_SERVICE_SELECTION_REQ, PAYMENT_SERVICE_SELECTION_RES, POWER_DELIVERY_REQ, POWER_DELIVERY_RES, PRE_CHARGE_REQ, PRE_CHARGE_RES, SERVICE_DETAIL_REQ, SERVICE_DETAIL_RES, SERVICE_DISCOVERY_REQ, SERVICE_DISCOVERY_RES, SESSION_SETUP_REQ, SESSION_SETUP_RES, SESSION_STOP_REQ, SESSION_STOP_RES, WELDING_DETECTION_REQ, WELDING_DETECTION_RES}
use Rattle.message_tables.specs.Tables.{Table, rows, nothing}
use Rattle.message_tables.specs.Frame as frames
use Rattle.message_tables.specs.Frame.{Message, word_inside, tree_word_by}
use Rattle.iso_tables.specs.Frame.{frame}
use Rattle.iso_tables.specs.Setup.{code_alone, setup_req, setup_asked, setup_res, setup_told, discovery_res, discovery_told, service_row, detail_asked, detail_res, detail_told, selection_req, selection_asked, authorization_res, authorization_told, stop_req, stop_asked}
use Rattle.iso_tables.specs.Power.{car_alone, present_voltage, cable_check_asked, cable_check_res, cable_check_told, pre_charge_req, pre_charge_asked, pre_charge_told, delivery_req, delivery_asked, tuple_or_first, delivery_res, status_parts, delivery_told, demand_req, demand_asked, demand_res, demand_told, charging_res, charging_told, welding_asked, welding_told}
use Rattle.iso_tables.specs.Parameters.{parameters_req, car_parts, parameters_asked, parameters_res, limit_parts, parameters_told}

-- ---- the messages

abbrev asks : {X : Type 0} → ℕ → Table rows X → (X → Ask) → Message
asks name table ask = frames.asks frame name table ask

abbrev tells : {X : Type 0} → ℕ → Table rows (Code × X) → (X → Tell) → Message
tells name table tell = frames.tells frame name table tell

abbrev pub messages : List Message
messages =
    asks SESSION_SETUP_REQ setup_req setup_asked
    ∷ tells SESSION_SETUP_RES setup_res setup_told
    ∷ asks SERVICE_DISCOVERY_REQ nothing (λ x. ask.ServiceDiscovery)
    ∷ tells SERVICE_DISCOVERY_RES discovery_res discovery_told
    ∷ asks SERVICE_DETAIL_REQ service_row detail_asked
    ∷ tells SERVICE_DETAIL_RES detail_res detail_told
    ∷ asks PAYMENT_SERVICE_SELECTION_REQ selection_req selection_asked
    ∷ tells PAYMENT_SERVICE_SELECTION_RES code_alone (λ x. tell.PaymentSelection)
    ∷ asks AUTHORIZATION_REQ nothing (λ x. ask.Authorization)
    ∷ tells AUTHORIZATION_RES authorization_res authorization_told
    ∷ asks CHARGE_PARAMETER_DISCOVERY_REQ parameters_req parameters_asked
    ∷ tells CHARGE_PARAMETER_DISCOVERY_RES parameters_res parameters_told
    ∷ asks CABLE_CHECK_REQ car_alone cable_check_asked
    ∷ tells CABLE_CHECK_RES cable_check_res cable_check_told
    ∷ asks PRE_CHARGE_REQ pre_charge_req pre_charge_asked
    ∷ tells PRE_CHARGE_RES present_voltage pre_charge_told
    ∷ asks POWER_DELIVERY_REQ delivery_req delivery_asked
    ∷ tells POWER_DELIVERY_RES delivery_res delivery_told
    ∷ asks CURRENT_DEMAND_REQ demand_req demand_asked
    ∷ tells CURRENT_DEMAND_RES demand_res demand_told
    ∷ asks CHARGING_STATUS_REQ nothing (λ x. ask.ChargingStatus)
    ∷ tells CHARGING_STATUS_RES charging_res charging_told
    ∷ asks WELDING_DETECTION_REQ car_alone welding_asked
    ∷ tells WELDING_DETECTION_RES present_voltage welding_told
    ∷ asks SESSION_STOP_REQ stop_req stop_asked
    ∷ tells SESSION_STOP_RES code_alone (λ x. tell.SessionStop)
    ∷ []

-- ---- the word of a tree

-- by the first element of the body
abbrev pub word_named : Option (ℕ × Inside) → Inside → Word
word_named element own = frames.word_named messages element own

abbrev pub word_in : Inside → Word
word_in own = word_inside frame messages own

abbrev pub word_of_tree : Tree → Word
word_of_tree tree = tree_word_by frame messages tree

-- ---- the tree of a word, of those that have one

abbrev in_message : {X : Type 0} → ℕ → Table rows X → SessionId → X → Option Inside
in_message name table s x = frames.in_message frame name table s x

abbrev pub in_ask : SessionId → Ask → Option Inside
in_ask s (ask.SessionSetup car) = in_message SESSION_SETUP_REQ setup_req s (car.items, tt)
in_ask s ask.ServiceDiscovery = in_message SERVICE_DISCOVERY_REQ nothing s tt
in_ask s (ask.ServiceDetail service) = in_message SERVICE_DETAIL_REQ service_row s (service, tt)
in_ask s (ask.PaymentSelection external services) = in_message PAYMENT_SERVICE_SELECTION_REQ selection_req s (external, (services.items, tt))
in_ask s ask.Authorization = in_message AUTHORIZATION_REQ nothing s tt
in_ask s (ask.ChargeParameters mode limits) = in_message CHARGE_PARAMETER_DISCOVERY_REQ parameters_req s (mode, (car_parts limits, tt))
in_ask s (ask.CableCheck ready soc) = in_message CABLE_CHECK_REQ car_alone s ((ready, (soc, tt)), tt)
in_ask s (ask.PreCharge ready soc voltage current) =
    in_message PRE_CHARGE_REQ pre_charge_req s ((ready, (soc, tt)), (voltage, (current, tt)))
in_ask s (ask.PowerDelivery progress tuple profile) =
    in_message POWER_DELIVERY_REQ delivery_req s (progress, (tuple_or_first tuple, (profile, tt)))
in_ask s (ask.CurrentDemand ready soc voltage current) =
    in_message CURRENT_DEMAND_REQ demand_req s ((ready, (soc, tt)), (current, (voltage, tt)))
in_ask s ask.ChargingStatus = in_message CHARGING_STATUS_REQ nothing s tt
in_ask s (ask.WeldingDetection ready soc) = in_message WELDING_DETECTION_REQ car_alone s ((ready, (soc, tt)), tt)
in_ask s (ask.SessionStop pause) = in_message SESSION_STOP_REQ stop_req s (pause, tt)

abbrev pub in_tell : SessionId → Code → Tell → Option Inside
in_tell s c (tell.SessionSetup (evse_id.Text id)) = in_message SESSION_SETUP_RES setup_res s (c, (id, tt))
in_tell s c (tell.ServiceDiscovery free modes) = in_message SERVICE_DISCOVERY_RES discovery_res s (c, ((free, (modes.items, tt)), tt))
in_tell s c (tell.ServiceDetail service) = in_message SERVICE_DETAIL_RES detail_res s (c, (service, tt))
in_tell s c tell.PaymentSelection = in_message PAYMENT_SERVICE_SELECTION_RES code_alone s (c, tt)
in_tell s c (tell.Authorization processing) = in_message AUTHORIZATION_RES authorization_res s (c, (processing, tt))
in_tell s c (tell.ChargeParameters processing schedule limits) =
    in_message CHARGE_PARAMETER_DISCOVERY_RES parameters_res s
    (c, (processing, (option_map (λ tuples. tuples.items) schedule, (limit_parts limits, tt))))
in_tell s c (tell.CableCheck status processing) = in_message CABLE_CHECK_RES cable_check_res s (c, (status, (processing, tt)))
in_tell s c (tell.PreCharge status voltage) = in_message PRE_CHARGE_RES present_voltage s (c, (status, (voltage, tt)))
in_tell s c (tell.PowerDelivery status) = in_message POWER_DELIVERY_RES delivery_res s (c, (status_parts status, tt))
in_tell s c (tell.CurrentDemand status voltage current current_cut voltage_cut watts_cut most_voltage most_current most_watts (Some (evse_id.Text id))) =
    in_message CURRENT_DEMAND_RES demand_res s
    (c, (status, (voltage, (current, (current_cut, (voltage_cut, (watts_cut, (most_voltage, (most_current, (most_watts, (id, tt)))))))))))
in_tell s c (tell.ChargingStatus notify (evse_id.Text id) current) =
    in_message CHARGING_STATUS_RES charging_res s (c, (id, (current, (notify, tt))))
in_tell s c (tell.WeldingDetection status voltage) = in_message WELDING_DETECTION_RES present_voltage s (c, (status, (voltage, tt)))
in_tell s c tell.SessionStop = in_message SESSION_STOP_RES code_alone s (c, tt)
in_tell s c other = None

abbrev pub in_word : Word → Option Inside
in_word (word.Request r) = in_ask r.session r.ask
in_word (word.Reply r) = in_tell r.session r.code r.tell
in_word word.Nothing = None

-- the tree with this inside
abbrev pub root : Inside → Tree
root own = root_of V2G_MESSAGE own
