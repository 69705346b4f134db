-- Which exchange orders the post's contactor closed or open, and the rows behind it.
use Rattle.std.proofs.Common.{◌≡◌, ℕ, ◌-◌, Bool, true, false, ◌==◌, if◌then◌else◌, Option, Some, None, unwrap_or, refl, ap, sym, subst, ◌∙◌, ◌⊎◌, inl, inr}
use Rattle.charge_world.specs.declared.offer.Dialect.{Dialect}
use Rattle.charge_world.specs.declared.ports.Order.{Order}
use Rattle.charge_world.specs.declared.ports.Order.TheVariants as order
use Rattle.session_words.specs.declared.code.Code.{Code}
use Rattle.session_words.specs.declared.code.Code.TheVariants as code
use Rattle.session_words.specs.declared.phase.Phase.{Phase}
use Rattle.session_words.specs.declared.phase.Phase.TheVariants as row
use Rattle.session_words.specs.declared.plan.CarPlan.{CarPlan}
use Rattle.session_words.specs.declared.plan.PostPlan.{PostPlan}
use Rattle.session_words.specs.declared.word.Ask.TheVariants as ask
use Rattle.session_words.specs.declared.word.Tell.{Tell}
use Rattle.session_words.specs.Codes.{IsOkClass}
use Rattle.session_rules.specs.declared.stage.Stage.{Stage}
use Rattle.session_rules.specs.Finishing.{is_ac, is_finished}
use Rattle.session_rules.specs.Moves.{moved}
use Rattle.session_rules.specs.Offers.{amount}
use Rattle.session_rules.specs.Orders.{granted_order, order_of}
use Rattle.session_rules.specs.Rows as rows
use Rattle.session_rules.specs.Stages.{is_waiting, confirmed_row}
use Rattle.session_rules.specs.Verdict.{verdict, is_accepted}
use Rattle.station_spec.specs.Deciding.{opening_if}
use Rattle.station_spec.specs.Judging.{order_by}
use Rattle.car_rules.specs.declared.stage.CarPhase.{CarPhase}
use Rattle.car_rules.specs.declared.stage.CarPhase.TheVariants as phase
use Rattle.car_rules.specs.Moves.{renews, stops, leads}
use Rattle.car_rules.specs.Requests.{ask_of}
use Rattle.car_spec.specs.Spelled.{dropped_ask}
use Rattle.pair_words.specs.Exchanges.{Both, Outside, asked, judged, heard, behind}
use Rattle.pair_words.specs.Meeting.{power_row, IsRowFor, Meets}
use Rattle.pair_words.specs.Laws.{end_of, IsAnswered}
use Rattle.matched_pairs.specs.Contactors.{is_late}

false_true : false ≡ true → ⊥
false_true e = cc

some_none : {A : Type 0} (a : A) → Some a ≡ None → ⊥
some_none a e = cc

-- the requests from PowerDelivery Start on, and those behind it
abbrev pub is_from_start : CarPhase → Bool
is_from_start phase.Starting = true
is_from_start phase.Charging = true
is_from_start phase.Stopping = true
is_from_start phase.Renegotiating = true
is_from_start (phase.Welding left) = true
is_from_start phase.Ending = true
is_from_start other = false

abbrev pub is_behind_start : CarPhase → Bool
is_behind_start phase.Charging = true
is_behind_start phase.Stopping = true
is_behind_start phase.Renegotiating = true
is_behind_start (phase.Welding left) = true
is_behind_start phase.Ending = true
is_behind_start other = false

-- ---- the orders

-- an order to close or to open
abbrev pub IsOfContactor : Order → Type 0
IsOfContactor order.Close = Unit {0}
IsOfContactor order.Open = Unit {0}
IsOfContactor (order.Limits voltage current watts) = ⊥

abbrev pub Leaves : Option Order → Type 0
Leaves o = (x : Order) → o ≡ Some x → IsOfContactor x → ⊥

none_leaves : Leaves None
none_leaves x e i = some_none x (sym e)

some_order : (a b : Order) → Some a ≡ Some b → a ≡ b
some_order a b e = cc

limits_leave : (v i w : ℕ) → Leaves (Some (order.Limits v i w))
limits_leave v i w x e k = subst IsOfContactor (some_order x (order.Limits v i w) (sym e)) k

either_leaves : (b : Bool) (o : Option Order) → Leaves o → Leaves (if b then o else None)
either_leaves true o k = k
either_leaves false o k = none_leaves

charging_leaves : (ac : Bool) (post : PostPlan) (plan : CarPlan) (told shown : ℕ)
    → Leaves (granted_order post told shown (dropped_ask (if ac then ask.ChargingStatus else ask.CurrentDemand true plan.soc (amount plan.target_voltage) (amount plan.target_current))))
charging_leaves true post plan told shown = limits_leave _ _ _
charging_leaves false post plan told shown = limits_leave _ _ _

-- before PowerDelivery Start no order is of the contactor
pub early_leaves : (ph : CarPhase) (b live : Bool) (post : PostPlan) (plan : CarPlan) (d : Dialect) (told shown : ℕ) → is_from_start ph ≡ false
    → Leaves (order_by (end_of ph) live (if b then granted_order post told shown (dropped_ask (ask_of plan d ph)) else None))
early_leaves phase.SettingUp b live post plan d told shown e = either_leaves b None none_leaves
early_leaves phase.Discovering b live post plan d told shown e = either_leaves b None none_leaves
early_leaves phase.Selecting b live post plan d told shown e = either_leaves b None none_leaves
early_leaves phase.Authorizing b live post plan d told shown e = either_leaves b None none_leaves
early_leaves phase.Asking b live post plan d told shown e = either_leaves b None none_leaves
early_leaves phase.CableChecking b live post plan d told shown e = either_leaves b None none_leaves
early_leaves phase.PreCharging b live post plan d told shown e =
    either_leaves b (granted_order post told shown (dropped_ask (ask_of plan d phase.PreCharging))) (limits_leave _ _ _)
early_leaves phase.Starting b live post plan d told shown e = absurd (false_true (sym e))
early_leaves phase.Charging b live post plan d told shown e = absurd (false_true (sym e))
early_leaves phase.Stopping b live post plan d told shown e = absurd (false_true (sym e))
early_leaves phase.Renegotiating b live post plan d told shown e = absurd (false_true (sym e))
early_leaves (phase.Welding left) b live post plan d told shown e = absurd (false_true (sym e))
early_leaves phase.Ending b live post plan d told shown e = absurd (false_true (sym e))

from_by : (x : Bool) (ph : CarPhase) (b live : Bool) (post : PostPlan) (plan : CarPlan) (d : Dialect) (told shown : ℕ) (o : Order) → is_from_start ph ≡ x
    → order_by (end_of ph) live (if b then granted_order post told shown (dropped_ask (ask_of plan d ph)) else None) ≡ Some o → IsOfContactor o → is_from_start ph ≡ true
from_by true ph b live post plan d told shown o e g i = e
from_by false ph b live post plan d told shown o e g i = absurd (early_leaves ph b live post plan d told shown e o g i)

-- an exchange that orders the contactor closed or open is PowerDelivery Start or one behind it
pub orders_from_start : (post : PostPlan) (plan : CarPlan) (b : Both) (x : Outside) (live : Bool) (o : Order)
    → order_by (end_of b.car.phase) live (order_of b.post x.facts post (asked plan b.car) x.shown) ≡ Some o → IsOfContactor o → is_from_start b.car.phase ≡ true
orders_from_start post plan b x live o g i =
    from_by (is_from_start b.car.phase) b.car.phase (is_accepted (verdict b.post x.facts post (asked plan b.car))) live post plan b.car.dialect b.post.told x.shown o refl g i

-- and one that orders it closed is PowerDelivery Start
not_close : (b : Bool) (o : Option Order) → (o ≡ Some order.Close → ⊥) → (if b then o else None) ≡ Some order.Close → ⊥
not_close true o k e = k e
not_close false o k e = some_none order.Close (sym e)

open_close : Some order.Open ≡ Some order.Close → ⊥
open_close e = cc

charges_not : (ac : Bool) (post : PostPlan) (plan : CarPlan) (told shown : ℕ)
    → granted_order post told shown (dropped_ask (if ac then ask.ChargingStatus else ask.CurrentDemand true plan.soc (amount plan.target_voltage) (amount plan.target_current))) ≡ Some order.Close → ⊥
charges_not ac post plan told shown e = charging_leaves ac post plan told shown order.Close e tt

opens_not : (live : Bool) → opening_if live ≡ Some order.Close → ⊥
opens_not true e = open_close e
opens_not false e = some_none order.Close (sym e)

close_by : (ph : CarPhase) (b live : Bool) (post : PostPlan) (plan : CarPlan) (d : Dialect) (told shown : ℕ)
    → order_by (end_of ph) live (if b then granted_order post told shown (dropped_ask (ask_of plan d ph)) else None) ≡ Some order.Close → ph ≡ phase.Starting
close_by phase.Starting b live post plan d told shown e = refl
close_by phase.Charging b live post plan d told shown e =
    absurd (not_close b (granted_order post told shown (dropped_ask (ask_of plan d phase.Charging))) (charges_not (is_ac plan.mode) post plan told shown) e)
close_by phase.Stopping b live post plan d told shown e = absurd (not_close b (Some order.Open) open_close e)
close_by phase.Renegotiating b live post plan d told shown e = absurd (not_close b (Some order.Open) open_close e)
close_by (phase.Welding left) b live post plan d told shown e = absurd (not_close b None (λ f. some_none order.Close (sym f)) e)
close_by phase.Ending b live post plan d told shown e = absurd (opens_not live e)
close_by phase.SettingUp b live post plan d told shown e = absurd (early_leaves phase.SettingUp b live post plan d told shown refl order.Close e tt)
close_by phase.Discovering b live post plan d told shown e = absurd (early_leaves phase.Discovering b live post plan d told shown refl order.Close e tt)
close_by phase.Selecting b live post plan d told shown e = absurd (early_leaves phase.Selecting b live post plan d told shown refl order.Close e tt)
close_by phase.Authorizing b live post plan d told shown e = absurd (early_leaves phase.Authorizing b live post plan d told shown refl order.Close e tt)
close_by phase.Asking b live post plan d told shown e = absurd (early_leaves phase.Asking b live post plan d told shown refl order.Close e tt)
close_by phase.CableChecking b live post plan d told shown e = absurd (early_leaves phase.CableChecking b live post plan d told shown refl order.Close e tt)
close_by phase.PreCharging b live post plan d told shown e = absurd (early_leaves phase.PreCharging b live post plan d told shown refl order.Close e tt)

pub closes_at_start : (post : PostPlan) (plan : CarPlan) (b : Both) (x : Outside) (live : Bool)
    → order_by (end_of b.car.phase) live (order_of b.post x.facts post (asked plan b.car) x.shown) ≡ Some order.Close → b.car.phase ≡ phase.Starting
closes_at_start post plan b x live e =
    close_by b.car.phase (is_accepted (verdict b.post x.facts post (asked plan b.car))) live post plan b.car.dialect b.post.told x.shown e

-- ---- the rows

late_row : (ac : Bool) (r x y : Phase) → r ≡ power_row ac x y → is_late x ≡ true → is_late y ≡ true → is_late r ≡ true
late_row true r x y e f g = ap is_late e ∙ f
late_row false r x y e f g = ap is_late e ∙ g

early_row : (ac : Bool) (r x y : Phase) → r ≡ power_row ac x y → is_late x ≡ false → is_late y ≡ false → is_late r ≡ false
early_row true r x y e f g = ap is_late e ∙ f
early_row false r x y e f g = ap is_late e ∙ g

late_for : (ac : Bool) (ph : CarPhase) (r : Phase) → IsRowFor ac ph r → is_behind_start ph ≡ true → is_late r ≡ true
late_for ac phase.Charging r e f = late_row ac r row.AcCharging row.DcCharging e refl refl
late_for ac phase.Stopping r e f = late_row ac r row.AcCharging row.DcCharging e refl refl
late_for ac phase.Renegotiating r e f = absurd e
late_for ac (phase.Welding left) r e f = ap is_late e.1
late_for ac phase.Ending r e f = late_row ac r row.AcStopped row.DcStopped e refl refl
late_for ac phase.SettingUp r e f = absurd (false_true f)
late_for ac phase.Discovering r e f = absurd (false_true f)
late_for ac phase.Selecting r e f = absurd (false_true f)
late_for ac phase.Authorizing r e f = absurd (false_true f)
late_for ac phase.Asking r e f = absurd (false_true f)
late_for ac phase.CableChecking r e f = absurd (false_true f)
late_for ac phase.PreCharging r e f = absurd (false_true f)
late_for ac phase.Starting r e f = absurd (false_true f)

either_row : (r x y : Phase) → (r ≡ x) ⊎ (r ≡ y) → is_late x ≡ false → is_late y ≡ false → is_late r ≡ false
either_row r x y (inl e) f g = ap is_late e ∙ f
either_row r x y (inr e) f g = ap is_late e ∙ g

early_for : (ac : Bool) (ph : CarPhase) (r : Phase) → IsRowFor ac ph r → is_behind_start ph ≡ false → is_late r ≡ false
early_for ac phase.SettingUp r e f = ap is_late e
early_for ac phase.Discovering r e f = ap is_late e
early_for ac phase.Selecting r e f = ap is_late e
early_for ac phase.Authorizing r e f = ap is_late e
early_for ac phase.Asking r e f = ap is_late e
early_for ac phase.CableChecking r e f = ap is_late e.1
early_for ac phase.PreCharging r e f = either_row r row.DcChecked row.DcPreCharging e.1 refl refl
early_for ac phase.Starting r e f = early_row ac r row.AcReady row.DcPreCharging e refl refl
early_for ac phase.Charging r e f = absurd (false_true (sym f))
early_for ac phase.Stopping r e f = absurd (false_true (sym f))
early_for ac phase.Renegotiating r e f = absurd (false_true (sym f))
early_for ac (phase.Welding left) r e f = absurd (false_true (sym f))
early_for ac phase.Ending r e f = absurd (false_true (sym f))

-- a late row takes a request behind PowerDelivery Start
pub from_behind : (ph : CarPhase) → is_behind_start ph ≡ true → is_from_start ph ≡ true
from_behind phase.Charging e = refl
from_behind phase.Stopping e = refl
from_behind phase.Renegotiating e = refl
from_behind (phase.Welding left) e = refl
from_behind phase.Ending e = refl
from_behind phase.Starting e = refl
from_behind phase.SettingUp e = e
from_behind phase.Discovering e = e
from_behind phase.Selecting e = e
from_behind phase.Authorizing e = e
from_behind phase.Asking e = e
from_behind phase.CableChecking e = e
from_behind phase.PreCharging e = e

late_by : (x : Bool) (ac : Bool) (ph : CarPhase) (r : Phase) → is_behind_start ph ≡ x → IsRowFor ac ph r → is_late r ≡ true → is_from_start ph ≡ true
late_by true ac ph r e i l = from_behind ph e
late_by false ac ph r e i l = absurd (false_true (sym (early_for ac ph r i e) ∙ l))

pub late_from_start : (post : PostPlan) (b : Both) → Meets post b → is_late b.post.row ≡ true → is_from_start b.car.phase ≡ true
late_from_start post b m l = late_by (is_behind_start b.car.phase) (is_ac post.mode) b.car.phase b.post.row refl m.in_row l

pub early_at_start : (post : PostPlan) (b : Both) → Meets post b → b.car.phase ≡ phase.Starting → is_late b.post.row ≡ false
early_at_start post b m e = early_for (is_ac post.mode) b.car.phase b.post.row m.in_row (ap is_behind_start e)

-- from PowerDelivery Start on the rows stay late
charges_behind : (stopping renewing : Bool) → is_behind_start (if stopping then phase.Stopping else (if renewing then phase.Renegotiating else phase.Charging)) ≡ true
charges_behind true renewing = refl
charges_behind false true = refl
charges_behind false false = refl

welds_behind : (b : Bool) (n : ℕ) → is_behind_start (if b then phase.Ending else phase.Welding n) ≡ true
welds_behind true n = refl
welds_behind false n = refl

stops_behind : (ac b : Bool) (n : ℕ) → is_behind_start (if ac then phase.Ending else (if b then phase.Ending else phase.Welding n)) ≡ true
stops_behind true b n = refl
stops_behind false b n = welds_behind b n

-- a renegotiation isn't asked for, as the row behind it shows
pub leads_behind : (ph : CarPhase) (plan : CarPlan) (d : Dialect) (told : Tell) (stopping : Bool) → is_from_start ph ≡ true → (ph ≡ phase.Renegotiating → ⊥) → is_behind_start (leads plan d ph told stopping) ≡ true
leads_behind phase.Starting plan d told stopping e n = refl
leads_behind phase.Charging plan d told stopping e n = charges_behind stopping (renews d told)
leads_behind phase.Stopping plan d told stopping e n = stops_behind (is_ac plan.mode) (plan.welding == 0) (plan.welding - 1)
leads_behind phase.Renegotiating plan d told stopping e n = absurd (n refl)
leads_behind (phase.Welding left) plan d told stopping e n = welds_behind (left == 0) (left - 1)
leads_behind phase.Ending plan d told stopping e n = refl
leads_behind phase.SettingUp plan d told stopping e n = absurd (false_true e)
leads_behind phase.Discovering plan d told stopping e n = absurd (false_true e)
leads_behind phase.Selecting plan d told stopping e n = absurd (false_true e)
leads_behind phase.Authorizing plan d told stopping e n = absurd (false_true e)
leads_behind phase.Asking plan d told stopping e n = absurd (false_true e)
leads_behind phase.CableChecking plan d told stopping e n = absurd (false_true e)
leads_behind phase.PreCharging plan d told stopping e n = absurd (false_true e)

late_unconfirmed : (r : Phase) → is_late (confirmed_row r) ≡ true → is_late r ≡ true
late_unconfirmed row.DcClosing e = refl
late_unconfirmed row.AcClosing e = refl
late_unconfirmed row.DcCharging e = refl
late_unconfirmed row.DcStopped e = refl
late_unconfirmed row.AcCharging e = refl
late_unconfirmed row.AcStopped e = refl
late_unconfirmed row.Connected e = e
late_unconfirmed row.Negotiated e = e
late_unconfirmed row.SetUp e = e
late_unconfirmed row.Discovered e = e
late_unconfirmed row.Selected e = e
late_unconfirmed row.Authorized e = e
late_unconfirmed row.DcReady e = e
late_unconfirmed row.DcChecked e = e
late_unconfirmed row.DcPreCharging e = e
late_unconfirmed row.AcReady e = e

pub late_confirmed : (r : Phase) → is_late r ≡ true → is_late (confirmed_row r) ≡ true
late_confirmed row.DcClosing e = refl
late_confirmed row.AcClosing e = refl
late_confirmed row.DcCharging e = refl
late_confirmed row.DcStopped e = refl
late_confirmed row.AcCharging e = refl
late_confirmed row.AcStopped e = refl
late_confirmed row.Connected e = e
late_confirmed row.Negotiated e = e
late_confirmed row.SetUp e = e
late_confirmed row.Discovered e = e
late_confirmed row.Selected e = e
late_confirmed row.Authorized e = e
late_confirmed row.DcReady e = e
late_confirmed row.DcChecked e = e
late_confirmed row.DcPreCharging e = e
late_confirmed row.AcReady e = e

pub no_renewal : (ac : Bool) (ph : CarPhase) (r : Phase) → IsRowFor ac ph r → ph ≡ phase.Renegotiating → ⊥
no_renewal ac ph r i e = subst (λ (p : CarPhase). IsRowFor ac p r) e i

pub late_behind : (post : PostPlan) (plan : CarPlan) (b : Both) (x : Outside) → Meets post b → IsAnswered post plan b x → is_from_start b.car.phase ≡ true → is_late (judged post plan b x).row ≡ true
late_behind post plan b x m i e =
    let meets : Meets post (behind post plan b x) = i.meets in
    let next : is_behind_start (behind post plan b x).car.phase ≡ true =
    leads_behind b.car.phase plan b.car.dialect (heard post plan b x).tell (stops plan b.car.cycles x.stop (heard post plan b x).tell) e
    (no_renewal (is_ac post.mode) b.car.phase b.post.row m.in_row) in
    late_unconfirmed (judged post plan b x).row (late_for (is_ac post.mode) (behind post plan b x).car.phase (behind post plan b x).post.row meets.in_row next)

-- ---- PowerDelivery Start waits for the contactor

pub accepts : (x : Code) → IsOkClass x → is_accepted x ≡ true
accepts code.Ok i = refl
accepts code.OkNewSessionEstablished i = refl
accepts code.OkOldSessionJoined i = refl
accepts code.OkCertificateExpiresSoon i = refl
accepts other i = absurd i

pub moves : (b : Bool) (m s : Stage) → b ≡ true → (if b then m else s) ≡ m
moves true m s e = refl
moves false m s e = absurd (false_true e)

start_waits : (ac : Bool) (r : Phase) (plan : CarPlan) (d : Dialect) (finished in_ac : Bool) → r ≡ power_row ac row.AcReady row.DcPreCharging
    → is_waiting (unwrap_or (rows.leads r (dropped_ask (ask_of plan d phase.Starting)) finished in_ac) r) ≡ true
start_waits true r plan d finished in_ac e = ap (λ (z : Phase). is_waiting (unwrap_or (rows.leads z (dropped_ask (ask_of plan d phase.Starting)) finished in_ac) z)) e
start_waits false r plan d finished in_ac e = ap (λ (z : Phase). is_waiting (unwrap_or (rows.leads z (dropped_ask (ask_of plan d phase.Starting)) finished in_ac) z)) e

pub waits_at_start : (post : PostPlan) (plan : CarPlan) (b : Both) (x : Outside) → Meets post b → IsAnswered post plan b x → b.car.phase ≡ phase.Starting
    → is_waiting (judged post plan b x).row ≡ true
waits_at_start post plan b x m i e =
    let in_row : IsRowFor (is_ac post.mode) phase.Starting b.post.row = subst (λ (p : CarPhase). IsRowFor (is_ac post.mode) p b.post.row) e m.in_row in
    ap (λ (s : Stage). is_waiting s.row) (moves (is_accepted (verdict b.post x.facts post (asked plan b.car))) (moved b.post x.facts post (asked plan b.car) x.shown) b.post (accepts _ i.accepted))
    ∙ ap (λ (p : CarPhase). is_waiting (unwrap_or (rows.leads b.post.row (dropped_ask (ask_of plan b.car.dialect p)) (is_finished x.facts post (dropped_ask (ask_of plan b.car.dialect p)) x.shown) (is_ac post.mode)) b.post.row)) e
    ∙ start_waits (is_ac post.mode) b.post.row plan b.car.dialect _ (is_ac post.mode) in_row

pub last_not_start : (ph : CarPhase) → ph ≡ phase.Starting → end_of ph ≡ None
last_not_start ph e = ap end_of e
