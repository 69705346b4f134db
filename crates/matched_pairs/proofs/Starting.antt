-- A row of the post waits for its contactor behind PowerDelivery Start alone, which orders it closed.
use Rattle.std.proofs.Common.{◌≡◌, Bool, true, false, if◌then◌else◌, Some, None, unwrap_or, refl, ap, sym, ◌∙◌, inl, inr}
use Rattle.charge_world.specs.declared.offer.Dialect.{Dialect}
use Rattle.charge_world.specs.declared.ports.Order.TheVariants as order
use Rattle.session_words.specs.declared.phase.Phase.{Phase}
use Rattle.session_words.specs.declared.phase.Phase.TheVariants as row
use Rattle.session_words.specs.declared.plan.CarPlan.{CarPlan}
use Rattle.session_words.specs.declared.plan.PostPlan.{PostPlan}
use Rattle.session_words.specs.declared.word.Ask.{Ask}
use Rattle.session_words.specs.declared.word.Ask.TheVariants as ask
use Rattle.session_rules.specs.declared.stage.Stage.{Stage}
use Rattle.session_rules.specs.Finishing.{is_ac, is_finished}
use Rattle.session_rules.specs.Moves.{moved}
use Rattle.session_rules.specs.Offers.{amount}
use Rattle.session_rules.specs.Orders.{granted_order, order_of}
use Rattle.session_rules.specs.Rows as rows
use Rattle.session_rules.specs.Stages.{is_set_up, is_waiting}
use Rattle.session_rules.specs.Verdict.{verdict, is_accepted}
use Rattle.station_spec.specs.Judging.{order_by}
use Rattle.car_rules.specs.declared.stage.CarPhase.{CarPhase}
use Rattle.car_rules.specs.declared.stage.CarPhase.TheVariants as phase
use Rattle.car_rules.specs.Moves.{is_again}
use Rattle.car_rules.specs.Requests.{ask_of}
use Rattle.car_spec.specs.Spelled.{dropped_ask}
use Rattle.pair_words.specs.Exchanges.{Both, Outside, asked, judged}
use Rattle.pair_words.specs.Meeting.{power_row, IsRowFor, Meets}
use Rattle.pair_words.specs.Laws.{end_of}
use Rattle.matched_pairs.proofs.Answers.{TakesWords, meets_takes}
use Rattle.matched_pairs.proofs.Rows.{moves}

false_true : false ≡ true → ⊥
false_true e = cc

-- the row behind a request
abbrev pub next : Ask → Bool → Bool → Phase → Phase
next asked finished in_ac r = unwrap_or (rows.leads r asked finished in_ac) r

not_by : (r own : Phase) (asked : Ask) (finished in_ac : Bool) → r ≡ own → is_waiting (next asked finished in_ac own) ≡ false → is_waiting (next asked finished in_ac r) ≡ true → ⊥
not_by r own asked finished in_ac e n w = false_true (sym n ∙ ap (λ (z : Phase). is_waiting (next asked finished in_ac z)) (sym e) ∙ w)

either_not : (b : Bool) (x y : Phase) → is_waiting x ≡ false → is_waiting y ≡ false → is_waiting (if b then x else y) ≡ false
either_not true x y e f = e
either_not false x y e f = f

charging_not : (ac own finished in_ac : Bool) (plan : CarPlan)
    → is_waiting (next (dropped_ask (if own then ask.ChargingStatus else ask.CurrentDemand true plan.soc (amount plan.target_voltage) (amount plan.target_current))) finished in_ac (power_row ac row.AcCharging row.DcCharging)) ≡ false
charging_not true true finished in_ac plan = refl
charging_not true false finished in_ac plan = refl
charging_not false true finished in_ac plan = refl
charging_not false false finished in_ac plan = refl

stopping_not : (ac finished in_ac : Bool) (plan : CarPlan) (d : Dialect) → is_waiting (next (dropped_ask (ask_of plan d phase.Stopping)) finished in_ac (power_row ac row.AcCharging row.DcCharging)) ≡ false
stopping_not true finished in_ac plan d = refl
stopping_not false finished in_ac plan d = refl

ending_not : (ac finished in_ac : Bool) (plan : CarPlan) (d : Dialect) → is_waiting (next (dropped_ask (ask_of plan d phase.Ending)) finished in_ac (power_row ac row.AcStopped row.DcStopped)) ≡ false
ending_not true finished in_ac plan d = refl
ending_not false finished in_ac plan d = refl

only_start : (ph : CarPhase) (ac : Bool) (r : Phase) (plan : CarPlan) (d : Dialect) (finished in_ac : Bool) → IsRowFor ac ph r → is_waiting (next (dropped_ask (ask_of plan d ph)) finished in_ac r) ≡ true → ph ≡ phase.Starting
only_start phase.Starting ac r plan d finished in_ac e w = refl
only_start phase.SettingUp ac r plan d finished in_ac e w = absurd (not_by r row.Negotiated (dropped_ask (ask_of plan d phase.SettingUp)) finished in_ac e refl w)
only_start phase.Discovering ac r plan d finished in_ac e w = absurd (not_by r row.SetUp (dropped_ask (ask_of plan d phase.Discovering)) finished in_ac e refl w)
only_start phase.Selecting ac r plan d finished in_ac e w = absurd (not_by r row.Discovered (dropped_ask (ask_of plan d phase.Selecting)) finished in_ac e refl w)
only_start phase.Authorizing ac r plan d finished in_ac e w =
    absurd (not_by r row.Selected (dropped_ask (ask_of plan d phase.Authorizing)) finished in_ac e (either_not finished row.Authorized row.Selected refl refl) w)
only_start phase.Asking ac r plan d finished in_ac e w =
    absurd (not_by r row.Authorized (dropped_ask (ask_of plan d phase.Asking)) finished in_ac e
    (either_not finished (if in_ac then row.AcReady else row.DcReady) row.Authorized (either_not in_ac row.AcReady row.DcReady refl refl) refl) w)
only_start phase.CableChecking ac r plan d finished in_ac e w =
    absurd (not_by r row.DcReady (dropped_ask (ask_of plan d phase.CableChecking)) finished in_ac e.1 (either_not finished row.DcChecked row.DcReady refl refl) w)
only_start phase.PreCharging ac r plan d finished in_ac (s, inl e) w = absurd (not_by r row.DcChecked (dropped_ask (ask_of plan d phase.PreCharging)) finished in_ac e refl w)
only_start phase.PreCharging ac r plan d finished in_ac (s, inr e) w = absurd (not_by r row.DcPreCharging (dropped_ask (ask_of plan d phase.PreCharging)) finished in_ac e refl w)
only_start phase.Charging ac r plan d finished in_ac e w =
    absurd (not_by r (power_row ac row.AcCharging row.DcCharging) (dropped_ask (ask_of plan d phase.Charging)) finished in_ac e (charging_not ac (is_ac plan.mode) finished in_ac plan) w)
only_start phase.Stopping ac r plan d finished in_ac e w =
    absurd (not_by r (power_row ac row.AcCharging row.DcCharging) (dropped_ask (ask_of plan d phase.Stopping)) finished in_ac e (stopping_not ac finished in_ac plan d) w)
only_start phase.Renegotiating ac r plan d finished in_ac e w = absurd e
only_start (phase.Welding left) ac r plan d finished in_ac e w = absurd (not_by r row.DcStopped (dropped_ask (ask_of plan d (phase.Welding left))) finished in_ac e.1 refl w)
only_start phase.Ending ac r plan d finished in_ac e w =
    absurd (not_by r (power_row ac row.AcStopped row.DcStopped) (dropped_ask (ask_of plan d phase.Ending)) finished in_ac e (ending_not ac finished in_ac plan d) w)

stays : (b : Bool) (m s : Stage) → b ≡ false → (if b then m else s) ≡ s
stays true m s e = absurd (false_true (sym e))
stays false m s e = refl

waits_by : (b : Bool) (post : PostPlan) (plan : CarPlan) (two : Both) (x : Outside) → is_accepted (verdict two.post x.facts post (asked plan two.car)) ≡ b → Meets post two → is_waiting (judged post plan two x).row ≡ true
    → two.car.phase ≡ phase.Starting
waits_by true post plan two x e m w =
    only_start two.car.phase (is_ac post.mode) two.post.row plan two.car.dialect (is_finished x.facts post (dropped_ask (ask_of plan two.car.dialect two.car.phase)) x.shown) (is_ac post.mode) m.in_row
    (ap (λ (s : Stage). is_waiting s.row) (sym (moves (is_accepted (verdict two.post x.facts post (asked plan two.car))) (moved two.post x.facts post (asked plan two.car) x.shown) two.post e)) ∙ w)
waits_by false post plan two x e m w =
    let takes : TakesWords two.post.row = meets_takes post two m in
    absurd (false_true (sym takes.waits
    ∙ ap (λ (s : Stage). is_waiting s.row) (sym (stays (is_accepted (verdict two.post x.facts post (asked plan two.car))) (moved two.post x.facts post (asked plan two.car) x.shown) two.post e)) ∙ w))

pub waits_for_start : (post : PostPlan) (plan : CarPlan) (b : Both) (x : Outside) → Meets post b → is_waiting (judged post plan b x).row ≡ true → b.car.phase ≡ phase.Starting
waits_for_start post plan b x m w = waits_by _ post plan b x refl m w

pub starts_closed : (post : PostPlan) (plan : CarPlan) (b : Both) (x : Outside) (live : Bool) → is_accepted (verdict b.post x.facts post (asked plan b.car)) ≡ true → b.car.phase ≡ phase.Starting
    → order_by (end_of b.car.phase) live (order_of b.post x.facts post (asked plan b.car) x.shown) ≡ Some order.Close
starts_closed post plan b x live a e =
    ap (λ (y : Bool). order_by (end_of b.car.phase) live (if y then granted_order post b.post.told x.shown (dropped_ask (ask_of plan b.car.dialect b.car.phase)) else None)) a
    ∙ ap (λ (p : CarPhase). order_by (end_of p) live (granted_order post b.post.told x.shown (dropped_ask (ask_of plan b.car.dialect p)))) e

-- ---- a request that is asked once more is of a row behind SessionSetup

set_up_either : (ac : Bool) (x y : Phase) → is_set_up x ≡ true → is_set_up y ≡ true → is_set_up (power_row ac x y) ≡ true
set_up_either true x y e f = e
set_up_either false x y e f = f

set_up_for : (ph : CarPhase) (ac : Bool) (r : Phase) → IsRowFor ac ph r → is_again ph ph ≡ true → is_set_up r ≡ true
set_up_for phase.Authorizing ac r e a = ap is_set_up e
set_up_for phase.Asking ac r e a = ap is_set_up e
set_up_for phase.CableChecking ac r e a = ap is_set_up e.1
set_up_for phase.PreCharging ac r (s, inl e) a = ap is_set_up e
set_up_for phase.PreCharging ac r (s, inr e) a = ap is_set_up e
set_up_for phase.Charging ac r e a = ap is_set_up e ∙ set_up_either ac row.AcCharging row.DcCharging refl refl
set_up_for other ac r e a = cc

pub again_set_up : (post : PostPlan) (b : Both) → Meets post b → is_again b.car.phase b.car.phase ≡ true → is_set_up b.post.row ≡ true
again_set_up post b m a = set_up_for b.car.phase (is_ac post.mode) b.post.row m.in_row a
