-- What is written for words fits what ISO 15118-2:2014 declares, and is short.
use Rattle.std.proofs.Common.{◌≡◌, ℕ, zero, suc, ◌+◌, ◌<◌, ◌≤◌, ◌≤ℤ◌, map, length, Bool, true, false, ℤ, pos, negsuc, List, [], ◌∷◌, Option, Some, None, refl, arith, lit<, lit≤}
use Rattle.std.specs.Prelude.{IfSome}
use Rattle.std.specs.List.{AllByRecursion, range_with_len}
use Rattle.std.specs.Option.{option_map}
use Rattle.std.proofs.lemmas.Int.{ints}
use Rattle.std.proofs.lemmas.List.FromFn.{length-map-range_with_len}
use Rattle.arrayvec.specs.ArrayVec.{ArrayVec}
use Rattle.exi_documents.specs.Trees.{Number}
use Rattle.exi_documents.specs.Values.{IsValue}
use Rattle.exi_schema.specs.declared.tables.Datatype.TheVariants.{Bounded}
use Rattle.message_parts.specs.Contents.{Inside}
use Rattle.charge_world.specs.declared.heard.IsolationLevel.{IsolationLevel}
use Rattle.charge_world.specs.declared.heard.IsolationLevel.TheVariants as level
use Rattle.session_words.specs.declared.amount.Amount.{Amount}
use Rattle.session_words.specs.declared.code.Code.{Code}
use Rattle.session_words.specs.declared.code.Code.TheVariants as code
use Rattle.session_words.specs.declared.code.Notify.{Notify}
use Rattle.session_words.specs.declared.code.Processing.{Processing}
use Rattle.session_words.specs.declared.code.Processing.TheVariants as processing
use Rattle.session_words.specs.declared.code.Progress.{Progress}
use Rattle.session_words.specs.declared.code.Progress.TheVariants as progress
use Rattle.session_words.specs.declared.limits.CarLimits.{CarLimits}
use Rattle.session_words.specs.declared.limits.CarLimits.TheVariants as car
use Rattle.session_words.specs.declared.limits.DcStatus.{DcStatus}
use Rattle.session_words.specs.declared.limits.EvseId.TheVariants as evse_id
use Rattle.session_words.specs.declared.limits.PostLimits.{PostLimits}
use Rattle.session_words.specs.declared.limits.PostLimits.TheVariants as limits
use Rattle.session_words.specs.declared.limits.PostStatus.{PostStatus}
use Rattle.session_words.specs.declared.limits.PostStatus.TheVariants as post
use Rattle.session_words.specs.declared.limits.Tuple.{Tuple}
use Rattle.session_words.specs.declared.mode.OfferedMode.{OfferedMode}
use Rattle.session_words.specs.declared.mode.OfferedMode.TheVariants as offered
use Rattle.session_words.specs.declared.session.SessionId.{SessionId}
use Rattle.session_words.specs.declared.word.Ask.{Ask}
use Rattle.session_words.specs.declared.word.Ask.TheVariants as ask
use Rattle.session_words.specs.declared.word.Tell.{Tell}
use Rattle.session_words.specs.declared.word.Tell.TheVariants as tell
use Rattle.session_words.specs.declared.word.Word.{Word}
use Rattle.session_words.specs.declared.word.Word.TheVariants as word
use Rattle.word_values.specs.declared.amounts.Written.{Written}
use Rattle.word_values.specs.Amounts.{written, written_tenths, written_volts, written_watts}
use Rattle.written_parts.proofs.Items.{bytes_fit, text_fits, tuple_fits as number_fits}
use Rattle.written_parts.proofs.Numbers.{IsPhysical, tenths_fit, volts_fit, watts_fit, none_fits}
use Rattle.written_sizes.specs.Entries.{HasEntries, IsBrief}
use Rattle.iso_schema.specs.Declarations.{kinds}
use Rattle.iso_schema.specs.declared.kinds.TheConstants.{V2G_MESSAGE_KIND, BINARY8_KIND}
use Rattle.iso_schema.specs.declared.names.TheConstants.{AUTHORIZATION_REQ, AUTHORIZATION_RES, CABLE_CHECK_REQ, CABLE_CHECK_RES, CHARGE_PARAMETER_DISCOVERY_REQ, CHARGE_PARAMETER_DISCOVERY_RES, CHARGING_STATUS_REQ, CHARGING_STATUS_RES, CURRENT_DEMAND_REQ, CURRENT_DEMAND_RES, PAYMENT_SERVICE_SELECTION_REQ, PAYMENT_SERVICE_SELECTION_RES, POWER_DELIVERY_REQ, POWER_DELIVERY_RES, PRE_CHARGE_REQ, PRE_CHARGE_RES, SERVICE_DETAIL_REQ, SERVICE_DETAIL_RES, SERVICE_DISCOVERY_REQ, SERVICE_DISCOVERY_RES, SESSION_SETUP_REQ, SESSION_SETUP_RES, SESSION_STOP_REQ, SESSION_STOP_RES, WELDING_DETECTION_REQ, WELDING_DETECTION_RES, SELECTED_SERVICE, SA_SCHEDULE_TUPLE}
use Rattle.iso_word_messages.specs.Spellable.{AreTenths, AreWatts, IsService, IsCharge, IsTupleNumber, CanCarLimits, IsSomeTuple, CanAsk, IsSomeWatts, CanTuple, CanPostLimits, CanTell, CanSession, CanSpell}
use Rattle.word_tables.specs.Tables.{Table, rows, nothing, written as written_by}
use Rattle.word_tables.specs.Fitting.{CanWrite, IfEither, fits, bits}
use Rattle.message_tables.specs.Values.{some_bytes, entries_of, list_of}
use Rattle.message_tables.specs.Frame.{message, framed}
use Rattle.message_tables.specs.Spellable.{AreServices}
use Rattle.message_tables.proofs.Frames as frames
use Rattle.message_tables.proofs.Frames.{IsGood, few_bits, asked_bits, told_bits, most_bits, asked_few}
use Rattle.message_tables.proofs.Lists.{if_fits, each_fits}
use Rattle.message_tables.proofs.Numbers.{notify_small, status_small, mode_small, second_small}
use Rattle.message_tables.proofs.Schedules.{HasUpTo, HaveUpTo, declared_few, schedules_fit}
use Rattle.iso_tables.specs.Codes.{isolation, level_number, code_number, processing_number, offered_mode, offered_number, progress_number}
use Rattle.iso_tables.specs.Values.{unit_if, spelled, physical, current, voltage, nominal, power, some_power, car_status, ac_status, dc_status}
use Rattle.iso_tables.specs.Frame.{frame}
use Rattle.iso_tables.specs.Setup.{code_alone, setup_req, setup_res, discovery_res, service_row, detail_res, selection_req, service, authorization_res, stop_req}
use Rattle.iso_tables.specs.Power.{car_alone, present_voltage, cable_check_res, pre_charge_req, profile, delivery_req, tuple_or_first, delivery_res, status_parts, demand_req, demand_res, charging_res}
use Rattle.iso_tables.specs.Parameters.{ac_car, dc_car, car_parts, parameters_req, schedule_entry, tuple_up_to, ac_post, dc_post, limit_parts, parameters_res_up_to}
use Rattle.iso_tables.specs.Words.{in_ask, in_tell, in_word}

-- ---- amounts

unit_fits : (right : Bool) (wanted : ℕ) → wanted < 7 → unit_if right wanted < 7
unit_fits true wanted h = h
unit_fits false wanted h = lit< tt

spelled_fits : (w : Written) (unit : ℕ) → IsPhysical w.multiplier w.value → unit < 7 → CanWrite kinds physical (spelled w unit)
spelled_fits w unit p h = (p.multiplier_fits, (h, (p.value_fits, tt)))

current_fits : (a : Amount) → AreTenths a → CanWrite kinds current a
current_fits a h = spelled_fits (written_tenths a.size) (unit_if a.right 3) (tenths_fit a.size h) (unit_fits a.right 3 (lit< tt))

voltage_fits : (a : Amount) → AreTenths a → CanWrite kinds voltage a
voltage_fits a h = spelled_fits (written_tenths a.size) (unit_if a.right 4) (tenths_fit a.size h) (unit_fits a.right 4 (lit< tt))

nominal_fits : (a : Amount) → AreTenths a → CanWrite kinds nominal a
nominal_fits a h = spelled_fits (written_volts a.size) (unit_if a.right 4) (volts_fit a.size h) (unit_fits a.right 4 (lit< tt))

power_fits : (a : Amount) → AreWatts a → CanWrite kinds power a
power_fits a h = spelled_fits (written_watts a.size) (unit_if a.right 5) (watts_fit a.size h) (unit_fits a.right 5 (lit< tt))

some_power_fits : (o : Option Amount) → IsSomeWatts o → CanWrite kinds some_power o
some_power_fits None h = absurd h
some_power_fits (Some a) h = power_fits a h

energy_fits : CanWrite kinds physical (pos 0, (6, (pos 0, tt)))
energy_fits = spelled_fits (written (pos 0) 0) 6 none_fits (lit< tt)

powers_fit : (o : Option Amount) → IfSome o AreWatts → IfSome o (λ a. CanWrite kinds power a)
powers_fit o h = if_fits AreWatts (λ a. CanWrite kinds power a) power_fits o h

voltages_fit : (o : Option Amount) → IfSome o AreTenths → IfSome o (λ a. CanWrite kinds voltage a)
voltages_fit o h = if_fits AreTenths (λ a. CanWrite kinds voltage a) voltage_fits o h

currents_fit : (o : Option Amount) → IfSome o AreTenths → IfSome o (λ a. CanWrite kinds current a)
currents_fit o h = if_fits AreTenths (λ a. CanWrite kinds current a) current_fits o h

-- ---- enumerations

level_small : (l : IsolationLevel) → level_number l < 5
level_small level.Invalid = lit< tt
level_small other = lit< tt

code_small : (c : Code) → code_number c < 26
code_small code.Ok = lit< tt
code_small other = lit< tt

step_small : (p : Processing) → processing_number p < 3
step_small processing.Finished = lit< tt
step_small other = lit< tt

offered_small : (m : OfferedMode) → offered_number m < 6
offered_small offered.DcCore = lit< tt
offered_small other = lit< tt

progress_small : (p : Progress) → progress_number p < 3
progress_small progress.Start = lit< tt
progress_small other = lit< tt

-- ---- statuses

charge_fits : (soc : ℕ) → soc ≤ 100 → IsValue (Bounded (pos 0) 101) (Number (pos soc))
charge_fits soc h = (soc, omega arith, omega (arith, ints))

car_fits : (ready : Bool) (soc : ℕ) → IsCharge soc → CanWrite kinds car_status (ready, (soc, tt))
car_fits ready soc h = (tt, (lit< tt, (charge_fits soc h, tt)))

ac_status_fits : (n : Notify) → CanWrite kinds ac_status n
ac_status_fits n = (lit≤ tt, (notify_small n, (tt, tt)))

levels_fit : (o : Option IsolationLevel) → IfSome o (λ l. CanWrite kinds isolation l)
levels_fit None = tt
levels_fit (Some l) = level_small l

status_fits : (s : DcStatus) → CanWrite kinds dc_status s
status_fits s = (lit≤ tt, (notify_small s.notify, (levels_fit s.isolation, (status_small s.code, tt))))

post_status_fits : (s : PostStatus) → IfEither (λ n. CanWrite kinds ac_status n) (λ s. CanWrite kinds dc_status s) (status_parts s)
post_status_fits (post.Ac n) = ac_status_fits n
post_status_fits (post.Dc s) = status_fits s

-- ---- lists

services_fit : (services : ArrayVec ℕ) → AreServices services → CanWrite kinds (list_of SELECTED_SERVICE 1 16 service) services.items
services_fit services can = (
  can.0.0,
  can.0.1,
  each_fits IsService (λ n. CanWrite kinds service n) (λ n h. (h, tt)) services.items can.1,
  tt,
)

modes_fit : (ms : List OfferedMode) → AllByRecursion (λ m. CanWrite kinds offered_mode m) ms
modes_fit [] = tt
modes_fit (m ∷ ms) = (offered_small m, modes_fit ms)

profile_fits : (a : Amount) → AreWatts a → CanWrite kinds profile a
profile_fits a h = (lit≤ tt, lit≤ tt, ((lit≤ tt, (power_fits a h, tt)), tt), tt)

-- the number of a schedule tuple, and 1
id_fits : (id : ℤ) → IsTupleNumber id → IsValue (Bounded (pos 1) 255) (Number id)
id_fits (pos n) h = number_fits (pos n) h.0 h.1
id_fits (negsuc n) h = let low : pos 1 ≤ℤ negsuc n = h.0 in absurd (omega (arith, ints))

some_id_fits : (o : Option ℤ) → IsSomeTuple o → IsValue (Bounded (pos 1) 255) (Number (tuple_or_first o))
some_id_fits None h = absurd h
some_id_fits (Some id) h = id_fits id h

one_fits : IsValue (Bounded (pos 1) 255) (Number (pos 1))
one_fits = id_fits (pos 1) (omega (arith, ints), omega (arith, ints))

entries_fit : (a : Amount) → AreWatts a → (start n : ℕ) → start + n ≤ 128
    → AllByRecursion (λ e. CanWrite kinds schedule_entry e) (map (λ k. ((k, tt), (a, tt))) (range_with_len start n))
entries_fit a few start zero h = tt
entries_fit a few start (suc n) h = (((omega arith, (lit≤ tt, tt)), (power_fits a few, tt)), entries_fit a few (start + 1) n (omega arith))

tuple_fits : (most : ℕ) (t : Tuple) → CanTuple t → HasUpTo most t → CanWrite kinds (tuple_up_to most) t
tuple_fits most t can few =
    let count : length (entries_of t) ≡ t.entries = length-map-range_with_len (λ k. ((k, tt), (t.least, tt))) 0 t.entries in
    let some : 1 ≤ t.entries = can.entries.0 in
    let bound : t.entries ≤ 128 = can.entries.1 in
    (id_fits t.id can.id, ((omega arith, omega arith, entries_fit t.least can.least 0 t.entries (omega arith), tt), tt))

-- ---- limits

car_limits_fit : (l : CarLimits) → CanCarLimits l → IfEither (λ x. CanWrite kinds ac_car x) (λ x. CanWrite kinds dc_car x) (car_parts l)
car_limits_fit (car.Ac most least v) can = (energy_fits, (voltage_fits v can.2, (current_fits most can.0, (current_fits least can.1, tt))))
car_limits_fit (car.Dc ready soc a w v) can = (car_fits ready soc can.0, (current_fits a can.1, (powers_fit w can.2, (voltage_fits v can.3, tt))))

post_limits_fit : (l : PostLimits) → CanPostLimits l → IfEither (λ x. CanWrite kinds ac_post x) (λ x. CanWrite kinds dc_post x) (limit_parts l)
post_limits_fit (limits.Ac n v a) can = (ac_status_fits n, (nominal_fits v can.0, (current_fits a can.1, tt)))
post_limits_fit (limits.Dc s a w v la lv ripple) can = (
  status_fits s,
  (
    current_fits a can.0,
    (
      some_power_fits w can.1,
      (voltage_fits v can.2, (current_fits la can.3, (voltage_fits lv can.4, (current_fits ripple can.5, tt)))),
    ),
  ),
)

-- ---- messages

abbrev AreGood : ℕ → Option Inside → Type 0
AreGood most own = frames.AreGood kinds V2G_MESSAGE_KIND most own

session_fits : (s : SessionId) → CanSession s → CanWrite kinds (some_bytes 8 BINARY8_KIND) s.bytes.items
session_fits s named = bytes_fit 8 s.bytes.items named.0 named.1

good : {X : Type 0} (most name : ℕ) (t : Table rows X) (s : SessionId) (x : X) → fits kinds (message frame name t) V2G_MESSAGE_KIND ≡ true
    → bits 6 kinds (message frame name t) ≤ most → CanSession s → CanWrite kinds t x
    → IsGood kinds V2G_MESSAGE_KIND most (written_by (message frame name t) (framed s x))
good most name t s x fit few named can = frames.good frame most name t s x fit few (session_fits s named) can

-- of messages without a profile and schedules
abbrev pub plain_bits : ℕ
plain_bits = 2500

ask_good : (s : SessionId) (a : Ask) → CanSession s → CanAsk a → AreGood (asked_bits plain_bits a) (in_ask s a)
ask_good s (ask.SessionSetup car) named can =
    good 2500 SESSION_SETUP_REQ setup_req s (car.items, tt) refl (lit≤ tt) named (bytes_fit 6 car.items can.0 can.1, tt)
ask_good s ask.ServiceDiscovery named can = good 2500 SERVICE_DISCOVERY_REQ nothing s tt refl (lit≤ tt) named tt
ask_good s (ask.ServiceDetail service) named can = good 2500 SERVICE_DETAIL_REQ service_row s (service, tt) refl (lit≤ tt) named (can, tt)
ask_good s (ask.PaymentSelection external services) named can =
    good 2500 PAYMENT_SERVICE_SELECTION_REQ selection_req s (external, (services.items, tt)) refl (lit≤ tt) named
    (second_small external, (services_fit services can, tt))
ask_good s ask.Authorization named can = good 2500 AUTHORIZATION_REQ nothing s tt refl (lit≤ tt) named tt
ask_good s (ask.ChargeParameters mode l) named can =
    good 2500 CHARGE_PARAMETER_DISCOVERY_REQ parameters_req s (mode, (car_parts l, tt)) refl (lit≤ tt) named
    (mode_small mode, (car_limits_fit l can, tt))
ask_good s (ask.CableCheck ready soc) named can =
    good 2500 CABLE_CHECK_REQ car_alone s ((ready, (soc, tt)), tt) refl (lit≤ tt) named (car_fits ready soc can, tt)
ask_good s (ask.PreCharge ready soc v a) named can =
    good 2500 PRE_CHARGE_REQ pre_charge_req s ((ready, (soc, tt)), (v, (a, tt))) refl (lit≤ tt) named
    (car_fits ready soc can.0, (voltage_fits v can.1, (current_fits a can.2, tt)))
ask_good s (ask.PowerDelivery progress tuple watts) named can =
    good 8000 POWER_DELIVERY_REQ delivery_req s (progress, (tuple_or_first tuple, (watts, tt))) refl (lit≤ tt) named
    (progress_small progress, (some_id_fits tuple can.0, (if_fits AreWatts (λ a. CanWrite kinds profile a) profile_fits watts can.1, tt)))
ask_good s (ask.CurrentDemand ready soc v a) named can =
    good 2500 CURRENT_DEMAND_REQ demand_req s ((ready, (soc, tt)), (a, (v, tt))) refl (lit≤ tt) named
    (car_fits ready soc can.0, (current_fits a can.2, (tt, (voltage_fits v can.1, tt))))
ask_good s ask.ChargingStatus named can = good 2500 CHARGING_STATUS_REQ nothing s tt refl (lit≤ tt) named tt
ask_good s (ask.WeldingDetection ready soc) named can =
    good 2500 WELDING_DETECTION_REQ car_alone s ((ready, (soc, tt)), tt) refl (lit≤ tt) named (car_fits ready soc can, tt)
ask_good s (ask.SessionStop pause) named can = good 2500 SESSION_STOP_REQ stop_req s (pause, tt) refl (lit≤ tt) named (second_small pause, tt)

-- schedules of up to so many entries: what is written for them is the same
parameters_good : (most entries : ℕ) (s : SessionId) (c : Code) (p : Processing) (schedule : Option (ArrayVec Tuple)) (l : PostLimits)
    → fits kinds (message frame CHARGE_PARAMETER_DISCOVERY_RES (parameters_res_up_to entries)) V2G_MESSAGE_KIND ≡ true
    → bits 6 kinds (message frame CHARGE_PARAMETER_DISCOVERY_RES (parameters_res_up_to entries)) ≤ most
    → CanSession s → CanTell (tell.ChargeParameters p schedule l) → HaveUpTo entries schedule
    → AreGood most (in_tell s c (tell.ChargeParameters p schedule l))
parameters_good most entries s c p schedule l fit few named can up_to =
    good most CHARGE_PARAMETER_DISCOVERY_RES (parameters_res_up_to entries) s
    (c, (p, (option_map (λ tuples. tuples.items) schedule, (limit_parts l, tt)))) fit few named
    (code_small c, (step_small p, (schedules_fit CanTuple kinds SA_SCHEDULE_TUPLE entries (tuple_up_to entries) (tuple_fits entries) schedule can.0 up_to, (post_limits_fit l can.1, tt))))

tell_good : (s : SessionId) (c : Code) (t : Tell) → CanSession s → CanTell t → AreGood (told_bits plain_bits t) (in_tell s c t)
tell_good s c (tell.SessionSetup (evse_id.Text id)) named can =
    good 2500 SESSION_SETUP_RES setup_res s (c, (id, tt)) refl (lit≤ tt) named (code_small c, (text_fits 37 id can.0 can.1, tt))
tell_good s c (tell.SessionSetup (evse_id.Bytes id)) named can = tt
tell_good s c (tell.ServiceDiscovery free modes) named can =
    good 2500 SERVICE_DISCOVERY_RES discovery_res s (c, ((free, (modes.items, tt)), tt)) refl (lit≤ tt) named
    (code_small c, ((lit< tt, tt), ((lit≤ tt, (lit< tt, (tt, ((can.0.0, can.0.1, modes_fit modes.items, tt), tt)))), tt)))
tell_good s c (tell.ServiceDetail service) named can =
    good 2500 SERVICE_DETAIL_RES detail_res s (c, (service, tt)) refl (lit≤ tt) named (code_small c, (can, tt))
tell_good s c tell.PaymentSelection named can =
    good 2500 PAYMENT_SERVICE_SELECTION_RES code_alone s (c, tt) refl (lit≤ tt) named (code_small c, tt)
tell_good s c (tell.Authorization p) named can =
    good 2500 AUTHORIZATION_RES authorization_res s (c, (p, tt)) refl (lit≤ tt) named (code_small c, (step_small p, tt))
tell_good s c (tell.ChargeParameters p schedule l) named can =
    parameters_good 160000 128 s c p schedule l refl (lit≤ tt) named can (declared_few CanTuple 128 (λ t own. own.entries.1) schedule can.0)
tell_good s c (tell.CableCheck status p) named can =
    good 2500 CABLE_CHECK_RES cable_check_res s (c, (status, (p, tt))) refl (lit≤ tt) named (code_small c, (status_fits status, (step_small p, tt)))
tell_good s c (tell.PreCharge status v) named can =
    good 2500 PRE_CHARGE_RES present_voltage s (c, (status, (v, tt))) refl (lit≤ tt) named (code_small c, (status_fits status, (voltage_fits v can, tt)))
tell_good s c (tell.PowerDelivery status) named can =
    good 2500 POWER_DELIVERY_RES delivery_res s (c, (status_parts status, tt)) refl (lit≤ tt) named (code_small c, (post_status_fits status, tt))
tell_good s c (tell.CurrentDemand status v a a_cut v_cut w_cut most_v most_a most_w (Some (evse_id.Text id))) named can =
    good 2500 CURRENT_DEMAND_RES demand_res s
    (c, (status, (v, (a, (a_cut, (v_cut, (w_cut, (most_v, (most_a, (most_w, (id, tt))))))))))) refl (lit≤ tt) named (
      code_small c,
      (
        status_fits status,
        (
          voltage_fits v can.0,
          (
            current_fits a can.1,
            (
              tt,
              (
                tt,
                (
                  tt,
                  (
                    voltages_fit most_v can.2,
                    (currents_fit most_a can.3, (powers_fit most_w can.4, (text_fits 37 id can.5.0 can.5.1, (one_fits, tt)))),
                  ),
                ),
              ),
            ),
          ),
        ),
      ),
    )
tell_good s c (tell.CurrentDemand status v a a_cut v_cut w_cut most_v most_a most_w (Some (evse_id.Bytes id))) named can = tt
tell_good s c (tell.CurrentDemand status v a a_cut v_cut w_cut most_v most_a most_w None) named can = tt
tell_good s c (tell.ChargingStatus n (evse_id.Text id) a) named can =
    good 2500 CHARGING_STATUS_RES charging_res s (c, (id, (a, (n, tt)))) refl (lit≤ tt) named
    (code_small c, (text_fits 37 id can.0.0 can.0.1, (one_fits, (currents_fit a can.1, (ac_status_fits n, tt)))))
tell_good s c (tell.ChargingStatus n (evse_id.Bytes id) a) named can = tt
tell_good s c (tell.WeldingDetection status v) named can =
    good 2500 WELDING_DETECTION_RES present_voltage s (c, (status, (v, tt))) refl (lit≤ tt) named (code_small c, (status_fits status, (voltage_fits v can, tt)))
tell_good s c tell.SessionStop named can = good 2500 SESSION_STOP_RES code_alone s (c, tt) refl (lit≤ tt) named (code_small c, tt)

pub word_good : (w : Word) → CanSpell w → AreGood (most_bits plain_bits w) (in_word w)
word_good (word.Request r) can = ask_good r.session r.ask can.0 can.1
word_good (word.Reply r) can = tell_good r.session r.code r.tell can.0 can.2
word_good word.Nothing can = tt

-- ---- with few entries

fewer : (n : ℕ) (o : Option Inside) → n ≤ 8000 → AreGood n o → few_bits o
fewer n o h good = frames.fewer kinds V2G_MESSAGE_KIND n o h good

brief_tell : (s : SessionId) (c : Code) (t : Tell) → CanSession s → CanTell t → HasEntries 1 t → few_bits (in_tell s c t)
brief_tell s c (tell.ChargeParameters p schedule l) named can few =
    fewer 8000 (in_tell s c (tell.ChargeParameters p schedule l)) (lit≤ tt) (parameters_good 8000 1 s c p schedule l refl (lit≤ tt) named can few)
brief_tell s c other named can few = fewer 2500 (in_tell s c other) (lit≤ tt) (tell_good s c other named can)

brief_ask : (s : SessionId) (a : Ask) → CanSession s → CanAsk a → few_bits (in_ask s a)
brief_ask s a named can = fewer (asked_bits plain_bits a) (in_ask s a) (asked_few plain_bits (lit≤ tt) a) (ask_good s a named can)

pub brief_bits : (w : Word) → CanSpell w → IsBrief w → few_bits (in_word w)
brief_bits (word.Request r) can few = brief_ask r.session r.ask can.0 can.1
brief_bits (word.Reply r) can few = brief_tell r.session r.code r.tell can.0 can.2 few
brief_bits word.Nothing can few = tt
