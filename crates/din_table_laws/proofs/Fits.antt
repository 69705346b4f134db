-- What is written for words fits what DIN SPEC 70121:2014 declares, and is short.
use Rattle.std.proofs.Common.{◌≡◌, ℕ, zero, suc, ◌+◌, ◌<◌, ◌≤◌, map, length, Bool, true, false, ℤ, pos, Option, Some, None, refl, arith, lit<, lit≤}
use Rattle.std.specs.Prelude.{IfSome}
use Rattle.std.specs.List.{AllByRecursion, range_with_len}
use Rattle.std.specs.Option.{option_map}
use Rattle.std.proofs.lemmas.Int.{ints}
use Rattle.std.proofs.lemmas.List.FromFn.{length-map-range_with_len}
use Rattle.arrayvec.specs.ArrayVec.{ArrayVec}
use Rattle.exi_documents.specs.Trees.{Number}
use Rattle.exi_documents.specs.Values.{IsValue}
use Rattle.exi_schema.specs.declared.tables.Datatype.TheVariants.{Bounded}
use Rattle.message_parts.specs.Contents.{Inside}
use Rattle.charge_world.specs.declared.heard.IsolationLevel.{IsolationLevel}
use Rattle.charge_world.specs.declared.heard.IsolationLevel.TheVariants as level
use Rattle.session_words.specs.declared.amount.Amount.{Amount}
use Rattle.session_words.specs.declared.code.Code.{Code}
use Rattle.session_words.specs.declared.code.Code.TheVariants as code
use Rattle.session_words.specs.declared.code.Processing.{Processing}
use Rattle.session_words.specs.declared.code.Processing.TheVariants as processing
use Rattle.session_words.specs.declared.limits.CarLimits.TheVariants as car
use Rattle.session_words.specs.declared.limits.DcStatus.{DcStatus}
use Rattle.session_words.specs.declared.limits.EvseId.TheVariants as evse
use Rattle.session_words.specs.declared.limits.PostLimits.TheVariants as limits
use Rattle.session_words.specs.declared.limits.PostStatus.TheVariants as post
use Rattle.session_words.specs.declared.limits.Tuple.{Tuple}
use Rattle.session_words.specs.declared.mode.OfferedMode.{OfferedMode}
use Rattle.session_words.specs.declared.mode.OfferedMode.TheVariants as offered
use Rattle.session_words.specs.declared.session.SessionId.{SessionId}
use Rattle.session_words.specs.declared.word.Ask.{Ask}
use Rattle.session_words.specs.declared.word.Ask.TheVariants as ask
use Rattle.session_words.specs.declared.word.Tell.{Tell}
use Rattle.session_words.specs.declared.word.Tell.TheVariants as tell
use Rattle.session_words.specs.declared.word.Word.{Word}
use Rattle.session_words.specs.declared.word.Word.TheVariants as word
use Rattle.word_values.specs.declared.amounts.Written.{Written}
use Rattle.word_values.specs.Amounts.{written_tenths, written_watts}
use Rattle.written_parts.proofs.Items.{bytes_fit}
use Rattle.written_parts.proofs.Numbers.{IsPhysical, tenths_fit, watts_fit, value_few}
use Rattle.din_schema.specs.Declarations.{kinds}
use Rattle.din_schema.specs.declared.kinds.TheConstants.{V2G_MESSAGE_KIND, BINARY8_KIND}
use Rattle.din_schema.specs.declared.names.TheConstants.{SESSION_SETUP_REQ, SESSION_SETUP_RES, SERVICE_DISCOVERY_REQ, SERVICE_DISCOVERY_RES, SERVICE_PAYMENT_SELECTION_REQ, SERVICE_PAYMENT_SELECTION_RES, CONTRACT_AUTHENTICATION_REQ, CONTRACT_AUTHENTICATION_RES, CHARGE_PARAMETER_DISCOVERY_REQ, CHARGE_PARAMETER_DISCOVERY_RES, CABLE_CHECK_REQ, CABLE_CHECK_RES, PRE_CHARGE_REQ, PRE_CHARGE_RES, POWER_DELIVERY_REQ, POWER_DELIVERY_RES, CURRENT_DEMAND_REQ, CURRENT_DEMAND_RES, WELDING_DETECTION_REQ, WELDING_DETECTION_RES, SESSION_STOP_REQ, SESSION_STOP_RES, SELECTED_SERVICE, SA_SCHEDULE_TUPLE}
use Rattle.din_word_messages.specs.Spellable.{AreTenths, AreWatts, IsService, IsCharge, CanProfile, CanTuple, CanAsk, CanTell, CanSession, CanSpell}
use Rattle.written_sizes.specs.Entries.{HasEntries, IsBrief}
use Rattle.word_tables.specs.Tables.{Table, rows, nothing, written}
use Rattle.word_tables.specs.Fitting.{CanWrite, fits, bits}
use Rattle.message_tables.specs.Values.{some_bytes, entries_of, list_of}
use Rattle.message_tables.specs.Frame.{message, framed}
use Rattle.message_tables.specs.Spellable.{AreServices}
use Rattle.message_tables.proofs.Frames as frames
use Rattle.message_tables.proofs.Frames.{IsGood, few_bits, asked_bits, told_bits, most_bits, asked_few}
use Rattle.message_tables.proofs.Lists.{if_fits, each_fits}
use Rattle.message_tables.proofs.Numbers.{notify_small, status_small, mode_small, second_small}
use Rattle.message_tables.proofs.Schedules.{HasUpTo, HaveUpTo, declared_few, schedules_fit}
use Rattle.din_tables.specs.Codes.{isolation, level_number, code_number, processing_number, offered_number}
use Rattle.din_tables.specs.Values.{unit_if, spelled, physical, current, voltage, power, car_status, post_status}
use Rattle.din_tables.specs.Frame.{frame}
use Rattle.din_tables.specs.Setup.{code_alone, setup_req, setup_res, discovery_res, first_mode, selection_req, service, authorization_res}
use Rattle.din_tables.specs.Power.{car_alone, present_voltage, cable_check_res, pre_charge_req, profile, delivery_req, is_start, profile_if, delivery_res, demand_req, demand_res}
use Rattle.din_tables.specs.Parameters.{parameters_req, schedule_entry, tuple_up_to, parameters_res_up_to}
use Rattle.din_tables.specs.Words.{in_ask, in_tell, in_word}

-- ---- amounts

unit_fits : (right : Bool) → IfSome (unit_if right) (λ u. u < 10)
unit_fits true = tt
unit_fits false = lit< tt

spelled_fits : (w : Written) (right : Bool) → IsPhysical w.multiplier w.value → CanWrite kinds physical (spelled w right)
spelled_fits w right p = (p.multiplier_fits, (unit_fits right, (p.value_fits, tt)))

current_fits : (a : Amount) → AreTenths a → CanWrite kinds current a
current_fits a h = spelled_fits (written_tenths a.size) a.right (tenths_fit a.size h)

voltage_fits : (a : Amount) → AreTenths a → CanWrite kinds voltage a
voltage_fits a h = spelled_fits (written_tenths a.size) a.right (tenths_fit a.size h)

power_fits : (a : Amount) → AreWatts a → CanWrite kinds power a
power_fits a h = spelled_fits (written_watts a.size) a.right (watts_fit a.size h)

powers_fit : (o : Option Amount) → IfSome o AreWatts → IfSome o (λ a. CanWrite kinds power a)
powers_fit o h = if_fits AreWatts (λ a. CanWrite kinds power a) power_fits o h

-- ---- enumerations

level_small : (l : IsolationLevel) → level_number l < 4
level_small level.Invalid = lit< tt
level_small other = lit< tt

code_small : (c : Code) → code_number c < 23
code_small code.Ok = lit< tt
code_small other = lit< tt

step_small : (p : Processing) → processing_number p < 2
step_small processing.Finished = lit< tt
step_small other = lit< tt

offered_small : (m : OfferedMode) → offered_number m < 10
offered_small offered.DcCore = lit< tt
offered_small other = lit< tt

-- ---- statuses

charge_fits : (soc : ℕ) → soc ≤ 100 → IsValue (Bounded (pos 0) 101) (Number (pos soc))
charge_fits soc h = (soc, omega arith, omega (arith, ints))

car_fits : (ready : Bool) (soc : ℕ) → IsCharge soc → CanWrite kinds car_status (ready, (soc, tt))
car_fits ready soc h = (tt, (lit< tt, (charge_fits soc h, tt)))

levels_fit : (o : Option IsolationLevel) → IfSome o (λ l. CanWrite kinds isolation l)
levels_fit None = tt
levels_fit (Some l) = level_small l

status_fits : (s : DcStatus) → CanWrite kinds post_status s
status_fits s = (levels_fit s.isolation, (status_small s.code, (lit≤ tt, (notify_small s.notify, tt))))

-- ---- lists

services_fit : (services : ArrayVec ℕ) → AreServices services → CanWrite kinds (list_of SELECTED_SERVICE 1 16 service) services.items
services_fit services can = (
  can.0.0,
  can.0.1,
  each_fits IsService (λ n. CanWrite kinds service n) (λ n h. (h, tt)) services.items can.1,
  tt,
)

profile_fits : (id : Option ℤ) (a : Option Amount) → CanProfile id a → IfSome (profile_if id a) (λ p. CanWrite kinds profile p)
profile_fits None None can = tt
profile_fits (Some id) (Some a) can = (can.0, (lit≤ tt, lit≤ tt, ((lit≤ tt, (value_few a.size can.1.few, tt)), tt), tt))
profile_fits (Some id) None can = absurd can
profile_fits None (Some a) can = absurd can

entries_fit : (a : Amount) → a.size ≤ 32767 → (start n : ℕ) → start + n ≤ 128
    → AllByRecursion (λ e. CanWrite kinds schedule_entry e) (map (λ k. ((k, tt), (a, tt))) (range_with_len start n))
entries_fit a few start zero h = tt
entries_fit a few start (suc n) h = (((omega arith, (lit≤ tt, tt)), (value_few a.size few, tt)), entries_fit a few (start + 1) n (omega arith))

tuple_fits : (most : ℕ) (t : Tuple) → CanTuple t → HasUpTo most t → CanWrite kinds (tuple_up_to most) t
tuple_fits most t can few =
    let count : length (entries_of t) ≡ t.entries = length-map-range_with_len (λ k. ((k, tt), (t.least, tt))) 0 t.entries in
    let some : 1 ≤ t.entries = can.entries.0 in
    let bound : t.entries ≤ 128 = can.entries.1 in
    (can.id, ((value_few 1 (lit≤ tt), (omega arith, omega arith, entries_fit t.least can.least.few 0 t.entries (omega arith), tt)), tt))

-- ---- messages

abbrev AreGood : ℕ → Option Inside → Type 0
AreGood most own = frames.AreGood kinds V2G_MESSAGE_KIND most own

session_fits : (s : SessionId) → CanSession s → CanWrite kinds (some_bytes 8 BINARY8_KIND) s.bytes.items
session_fits s named = bytes_fit 8 s.bytes.items named.0 named.1

good : {X : Type 0} (most name : ℕ) (t : Table rows X) (s : SessionId) (x : X) → fits kinds (message frame name t) V2G_MESSAGE_KIND ≡ true
    → bits 6 kinds (message frame name t) ≤ most → CanSession s → CanWrite kinds t x
    → IsGood kinds V2G_MESSAGE_KIND most (written (message frame name t) (framed s x))
good most name t s x fit few named can = frames.good frame most name t s x fit few (session_fits s named) can

-- of messages without a profile and schedules
abbrev pub plain_bits : ℕ
plain_bits = 2000

ask_good : (s : SessionId) (a : Ask) → CanSession s → CanAsk a → AreGood (asked_bits plain_bits a) (in_ask s a)
ask_good s (ask.SessionSetup car) named can =
    good 2000 SESSION_SETUP_REQ setup_req s (car.items, tt) refl (lit≤ tt) named (bytes_fit 8 car.items can.0 can.1, tt)
ask_good s ask.ServiceDiscovery named can = good 2000 SERVICE_DISCOVERY_REQ nothing s tt refl (lit≤ tt) named tt
ask_good s (ask.ServiceDetail _) named can = tt
ask_good s (ask.PaymentSelection external services) named can =
    good 2000 SERVICE_PAYMENT_SELECTION_REQ selection_req s (external, (services.items, tt)) refl (lit≤ tt) named
    (second_small external, (services_fit services can, tt))
ask_good s ask.Authorization named can = good 2000 CONTRACT_AUTHENTICATION_REQ nothing s tt refl (lit≤ tt) named tt
ask_good s (ask.ChargeParameters mode (car.Ac _ _ _)) named can = tt
ask_good s (ask.ChargeParameters mode (car.Dc ready soc a w v)) named can =
    good 2000 CHARGE_PARAMETER_DISCOVERY_REQ parameters_req s (mode, (((ready, (soc, tt)), (a, (w, (v, tt)))), tt)) refl (lit≤ tt) named
    (mode_small mode, ((car_fits ready soc can.0, (current_fits a can.1, (powers_fit w can.2, (voltage_fits v can.3, tt)))), tt))
ask_good s (ask.CableCheck ready soc) named can =
    good 2000 CABLE_CHECK_REQ car_alone s ((ready, (soc, tt)), tt) refl (lit≤ tt) named (car_fits ready soc can, tt)
ask_good s (ask.PreCharge ready soc v a) named can =
    good 2000 PRE_CHARGE_REQ pre_charge_req s ((ready, (soc, tt)), (v, (a, tt))) refl (lit≤ tt) named
    (car_fits ready soc can.0, (voltage_fits v can.1, (current_fits a can.2, tt)))
ask_good s (ask.PowerDelivery progress tuple watts) named can =
    good 8000 POWER_DELIVERY_REQ delivery_req s (is_start progress, (profile_if tuple watts, tt)) refl (lit≤ tt) named
    (tt, (profile_fits tuple watts can.1, tt))
ask_good s (ask.CurrentDemand ready soc v a) named can =
    good 2000 CURRENT_DEMAND_REQ demand_req s ((ready, (soc, tt)), (a, (v, tt))) refl (lit≤ tt) named
    (car_fits ready soc can.0, (current_fits a can.2, (tt, (voltage_fits v can.1, tt))))
ask_good s ask.ChargingStatus named can = tt
ask_good s (ask.WeldingDetection ready soc) named can =
    good 2000 WELDING_DETECTION_REQ car_alone s ((ready, (soc, tt)), tt) refl (lit≤ tt) named (car_fits ready soc can, tt)
ask_good s (ask.SessionStop pause) named can = good 2000 SESSION_STOP_REQ nothing s tt refl (lit≤ tt) named tt

-- with schedules of up to so many entries
parameters_good : (bound most : ℕ) (s : SessionId) (c : Code) (p : Processing) (schedule : Option (ArrayVec Tuple)) (status : DcStatus)
    (a : Amount) (w : Option Amount) (v la lv ripple : Amount)
    → fits kinds (message frame CHARGE_PARAMETER_DISCOVERY_RES (parameters_res_up_to most)) V2G_MESSAGE_KIND ≡ true
    → bits 6 kinds (message frame CHARGE_PARAMETER_DISCOVERY_RES (parameters_res_up_to most)) ≤ bound
    → CanSession s → CanTell (tell.ChargeParameters p schedule (limits.Dc status a w v la lv ripple)) → HaveUpTo most schedule
    → AreGood bound (in_tell s c (tell.ChargeParameters p schedule (limits.Dc status a w v la lv ripple)))
parameters_good bound most s c p schedule status a w v la lv ripple fit small named can few =
    good bound CHARGE_PARAMETER_DISCOVERY_RES (parameters_res_up_to most) s
    (c, (p, (option_map (λ tuples. tuples.items) schedule, ((status, (a, (w, (v, (la, (lv, (ripple, tt))))))), tt)))) fit small named (
      code_small c,
      (
        step_small p,
        (
          schedules_fit CanTuple kinds SA_SCHEDULE_TUPLE most (tuple_up_to most) (tuple_fits most) schedule can.1 few,
          (
            (
              status_fits status,
              (
                current_fits a can.2.1,
                (
                  powers_fit w can.2.2,
                  (
                    voltage_fits v can.2.3,
                    (current_fits la can.2.4, (voltage_fits lv can.2.5, (current_fits ripple can.2.6, tt))),
                  ),
                ),
              ),
            ),
            tt,
          ),
        ),
      ),
    )

tell_good : (s : SessionId) (c : Code) (t : Tell) → CanSession s → CanTell t → AreGood (told_bits plain_bits t) (in_tell s c t)
tell_good s c (tell.SessionSetup (evse.Bytes id)) named can =
    good 2000 SESSION_SETUP_RES setup_res s (c, (id.items, tt)) refl (lit≤ tt) named (code_small c, (bytes_fit 32 id.items can.0 can.1, tt))
tell_good s c (tell.SessionSetup (evse.Text id)) named can = tt
tell_good s c (tell.ServiceDiscovery free modes) named can =
    good 2000 SERVICE_DISCOVERY_RES discovery_res s (c, ((free, (first_mode modes.items, tt)), tt)) refl (lit≤ tt) named
    (code_small c, ((lit< tt, tt), (((lit≤ tt, (lit< tt, tt)), (tt, (offered_small (first_mode modes.items), tt))), tt)))
tell_good s c (tell.ServiceDetail _) named can = tt
tell_good s c tell.PaymentSelection named can =
    good 2000 SERVICE_PAYMENT_SELECTION_RES code_alone s (c, tt) refl (lit≤ tt) named (code_small c, tt)
tell_good s c (tell.Authorization p) named can =
    good 2000 CONTRACT_AUTHENTICATION_RES authorization_res s (c, (p, tt)) refl (lit≤ tt) named (code_small c, (step_small p, tt))
tell_good s c (tell.ChargeParameters p schedule (limits.Ac _ _ _)) named can = tt
tell_good s c (tell.ChargeParameters p schedule (limits.Dc status a w v la lv ripple)) named can =
    parameters_good 160000 128 s c p schedule status a w v la lv ripple refl (lit≤ tt) named can (declared_few CanTuple 128 (λ t own. own.entries.1) schedule can.1)
tell_good s c (tell.CableCheck status p) named can =
    good 2000 CABLE_CHECK_RES cable_check_res s (c, (status, (p, tt))) refl (lit≤ tt) named (code_small c, (status_fits status, (step_small p, tt)))
tell_good s c (tell.PreCharge status v) named can =
    good 2000 PRE_CHARGE_RES present_voltage s (c, (status, (v, tt))) refl (lit≤ tt) named (code_small c, (status_fits status, (voltage_fits v can.1, tt)))
tell_good s c (tell.PowerDelivery (post.Ac notify)) named can = tt
tell_good s c (tell.PowerDelivery (post.Dc status)) named can =
    good 2000 POWER_DELIVERY_RES delivery_res s (c, (status, tt)) refl (lit≤ tt) named (code_small c, (status_fits status, tt))
tell_good s c (tell.CurrentDemand status v a a_cut v_cut w_cut most_v most_a most_w id) named can =
    good 2000 CURRENT_DEMAND_RES demand_res s (c, (status, (v, (a, (a_cut, (v_cut, (w_cut, (most_v, (most_a, (most_w, tt)))))))))) refl (lit≤ tt) named (
      code_small c,
      (
        status_fits status,
        (
          voltage_fits v can.1,
          (
            current_fits a can.2,
            (
              tt,
              (
                tt,
                (
                  tt,
                  (
                    if_fits AreTenths (λ x. CanWrite kinds voltage x) voltage_fits most_v can.3,
                    (
                      if_fits AreTenths (λ x. CanWrite kinds current x) current_fits most_a can.4,
                      (powers_fit most_w can.5, tt),
                    ),
                  ),
                ),
              ),
            ),
          ),
        ),
      ),
    )
tell_good s c (tell.ChargingStatus _ _ _) named can = tt
tell_good s c (tell.WeldingDetection status v) named can =
    good 2000 WELDING_DETECTION_RES present_voltage s (c, (status, (v, tt))) refl (lit≤ tt) named
    (code_small c, (status_fits status, (voltage_fits v can.1, tt)))
tell_good s c tell.SessionStop named can = good 2000 SESSION_STOP_RES code_alone s (c, tt) refl (lit≤ tt) named (code_small c, tt)

pub word_good : (w : Word) → CanSpell w → AreGood (most_bits plain_bits w) (in_word w)
word_good (word.Request r) can = ask_good r.session r.ask can.0 can.1
word_good (word.Reply r) can = tell_good r.session r.code r.tell can.0 can.2
word_good word.Nothing can = tt

-- ---- with few entries

fewer : (n : ℕ) (o : Option Inside) → n ≤ 8000 → AreGood n o → few_bits o
fewer n o h good = frames.fewer kinds V2G_MESSAGE_KIND n o h good

brief_tell : (s : SessionId) (c : Code) (t : Tell) → CanSession s → CanTell t → HasEntries 1 t → few_bits (in_tell s c t)
brief_tell s c (tell.ChargeParameters p schedule (limits.Ac x y z)) named can few = tt
brief_tell s c (tell.ChargeParameters p schedule (limits.Dc status a w v la lv ripple)) named can few =
    fewer 8000 (in_tell s c (tell.ChargeParameters p schedule (limits.Dc status a w v la lv ripple))) (lit≤ tt)
    (parameters_good 8000 1 s c p schedule status a w v la lv ripple refl (lit≤ tt) named can few)
brief_tell s c other named can few = fewer 2000 (in_tell s c other) (lit≤ tt) (tell_good s c other named can)

brief_ask : (s : SessionId) (a : Ask) → CanSession s → CanAsk a → few_bits (in_ask s a)
brief_ask s a named can = fewer (asked_bits plain_bits a) (in_ask s a) (asked_few plain_bits (lit≤ tt) a) (ask_good s a named can)

pub brief_bits : (w : Word) → CanSpell w → IsBrief w → few_bits (in_word w)
brief_bits (word.Request r) can few = brief_ask r.session r.ask can.0 can.1
brief_bits (word.Reply r) can few = brief_tell r.session r.code r.tell can.0 can.2 few
brief_bits word.Nothing can few = tt
