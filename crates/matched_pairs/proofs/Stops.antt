-- The requests behind PowerDelivery Stop, the rows in which a post takes them, and what both ends order then.
use Rattle.std.proofs.Common.{◌≡◌, ℕ, Bool, true, false, if◌then◌else◌, Option, Some, None, refl, ap, sym, ◌∙◌, ◌⊎◌, inl, inr}
use Rattle.charge_world.specs.declared.offer.Dialect.{Dialect}
use Rattle.charge_world.specs.declared.ports.Order.{Order}
use Rattle.charge_world.specs.declared.ports.Order.TheVariants as order
use Rattle.session_words.specs.declared.cause.EndCause.{EndCause}
use Rattle.session_words.specs.declared.phase.Phase.{Phase}
use Rattle.session_words.specs.declared.phase.Phase.TheVariants as row
use Rattle.session_words.specs.declared.plan.CarPlan.{CarPlan}
use Rattle.session_words.specs.declared.plan.PostPlan.{PostPlan}
use Rattle.session_words.specs.declared.word.Tell.{Tell}
use Rattle.session_rules.specs.Finishing.{is_ac}
use Rattle.session_rules.specs.Orders.{granted_order, order_of}
use Rattle.session_rules.specs.Stages.{confirmed_row}
use Rattle.session_rules.specs.Verdict.{verdict, is_accepted}
use Rattle.post_spec.specs.Kinds.{says_finished}
use Rattle.station_spec.specs.Deciding.{opening_if}
use Rattle.station_spec.specs.Judging.{order_by}
use Rattle.car_rules.specs.declared.stage.CarPhase.{CarPhase}
use Rattle.car_rules.specs.declared.stage.CarPhase.TheVariants as phase
use Rattle.car_rules.specs.Moves as car
use Rattle.car_rules.specs.Moves.{is_pre_charged, renews, stops, first_power_phase, until_done, leads, is_again}
use Rattle.car_rules.specs.Requests.{ask_of}
use Rattle.car_spec.specs.Spelled.{dropped_ask}
use Rattle.pair_words.specs.Exchanges.{Both, Outside, asked, judged, heard, behind}
use Rattle.pair_words.specs.Meeting.{power_row, IsRowFor, Meets}
use Rattle.pair_words.specs.Laws.{end_of, IsAnswered}
use Rattle.pair_words.specs.Orders.{ordered_behind}
use Rattle.matched_pairs.proofs.Rows.{accepts}

false_true : false ≡ true → ⊥
false_true e = cc

some_none : {A : Type 0} (a : A) → Some a ≡ None → ⊥
some_none a e = cc

-- the requests behind PowerDelivery Stop
abbrev pub is_behind_stop : CarPhase → Bool
is_behind_stop (phase.Welding left) = true
is_behind_stop phase.Ending = true
is_behind_stop other = false

-- and the rows in which a post takes them
abbrev pub is_stopped : Phase → Bool
is_stopped row.DcStopped = true
is_stopped row.AcStopped = true
is_stopped other = false

-- ---- the requests

until : (done : Bool) (next again : CarPhase) → is_behind_stop next ≡ false → is_behind_stop again ≡ false → is_behind_stop (until_done done next again) ≡ true → ⊥
until true next again a b e = false_true (sym a ∙ e)
until false next again a b e = false_true (sym b ∙ e)

power : (ac : Bool) → is_behind_stop (if ac then phase.Starting else phase.CableChecking) ≡ false
power true = refl
power false = refl

charges_on : (stopping renewing : Bool) → is_behind_stop (if stopping then phase.Stopping else (if renewing then phase.Renegotiating else phase.Charging)) ≡ true → ⊥
charges_on true renewing e = false_true e
charges_on false true e = false_true e
charges_on false false e = false_true e

pub comes_from : (p : CarPhase) (plan : CarPlan) (d : Dialect) (told : Tell) (stopping : Bool) → is_behind_stop (leads plan d p told stopping) ≡ true
    → (p ≡ phase.Stopping) ⊎ (is_behind_stop p ≡ true)
comes_from phase.Stopping plan d told stopping e = inl refl
comes_from (phase.Welding left) plan d told stopping e = inr refl
comes_from phase.Ending plan d told stopping e = inr refl
comes_from phase.Authorizing plan d told stopping e = absurd (until (says_finished told) phase.Asking phase.Authorizing refl refl e)
comes_from phase.Asking plan d told stopping e = absurd (until (says_finished told) (first_power_phase plan.mode) phase.Asking (power (is_ac plan.mode)) refl e)
comes_from phase.CableChecking plan d told stopping e = absurd (until (says_finished told) phase.PreCharging phase.CableChecking refl refl e)
comes_from phase.PreCharging plan d told stopping e = absurd (until (is_pre_charged plan.target_voltage told) phase.Starting phase.PreCharging refl refl e)
comes_from phase.Charging plan d told stopping e = absurd (charges_on stopping (renews d told) e)
comes_from other plan d told stopping e = absurd (false_true e)

-- none of these is asked once more
pub not_again : (from to : CarPhase) → (from ≡ phase.Stopping) ⊎ (is_behind_stop from ≡ true) → is_again from to ≡ false
not_again from to (inl e) = ap (λ (p : CarPhase). is_again p to) e
not_again (phase.Welding left) to (inr e) = refl
not_again phase.Ending to (inr e) = refl
not_again other to (inr e) = absurd (false_true e)

-- ---- the rows

alike : (ac b : Bool) (r x y : Phase) → r ≡ power_row ac x y → is_stopped x ≡ b → is_stopped y ≡ b → is_stopped r ≡ b
alike true b r x y e f g = ap is_stopped e ∙ f
alike false b r x y e f g = ap is_stopped e ∙ g

either : (r x y : Phase) → (r ≡ x) ⊎ (r ≡ y) → is_stopped x ≡ false → is_stopped y ≡ false → is_stopped r ≡ false
either r x y (inl e) f g = ap is_stopped e ∙ f
either r x y (inr e) f g = ap is_stopped e ∙ g

stopped_for : (ac : Bool) (ph : CarPhase) (r : Phase) → IsRowFor ac ph r → is_behind_stop ph ≡ true → is_stopped r ≡ true
stopped_for ac (phase.Welding left) r i e = ap is_stopped i.1
stopped_for ac phase.Ending r i e = alike ac true r row.AcStopped row.DcStopped i refl refl
stopped_for ac other r i e = absurd (false_true e)

running_for : (ac : Bool) (ph : CarPhase) (r : Phase) → IsRowFor ac ph r → is_behind_stop ph ≡ false → is_stopped r ≡ false
running_for ac phase.SettingUp r i e = ap is_stopped i
running_for ac phase.Discovering r i e = ap is_stopped i
running_for ac phase.Selecting r i e = ap is_stopped i
running_for ac phase.Authorizing r i e = ap is_stopped i
running_for ac phase.Asking r i e = ap is_stopped i
running_for ac phase.CableChecking r i e = ap is_stopped i.1
running_for ac phase.PreCharging r i e = either r row.DcChecked row.DcPreCharging i.1 refl refl
running_for ac phase.Starting r i e = alike ac false r row.AcReady row.DcPreCharging i refl refl
running_for ac phase.Charging r i e = alike ac false r row.AcCharging row.DcCharging i refl refl
running_for ac phase.Stopping r i e = alike ac false r row.AcCharging row.DcCharging i refl refl
running_for ac phase.Renegotiating r i e = absurd i
running_for ac (phase.Welding left) r i e = absurd (false_true (sym e))
running_for ac phase.Ending r i e = absurd (false_true (sym e))

by_phase : (x : Bool) (ac : Bool) (ph : CarPhase) (r : Phase) → is_behind_stop ph ≡ x → IsRowFor ac ph r → is_stopped r ≡ true → is_behind_stop ph ≡ true
by_phase true ac ph r e i l = e
by_phase false ac ph r e i l = absurd (false_true (sym (running_for ac ph r i e) ∙ l))

pub same_confirmed : (r : Phase) → is_stopped (confirmed_row r) ≡ is_stopped r
same_confirmed row.DcClosing = refl
same_confirmed row.AcClosing = refl
same_confirmed other = refl

-- a post that takes a request behind PowerDelivery Stop is in such a row
pub stopped_before : (post : PostPlan) (b : Both) → Meets post b → is_behind_stop b.car.phase ≡ true → is_stopped b.post.row ≡ true
stopped_before post b m e = stopped_for (is_ac post.mode) b.car.phase b.post.row m.in_row e

-- and it comes to such a row by PowerDelivery Stop and by those behind it
pub stops_by : (post : PostPlan) (plan : CarPlan) (b : Both) (x : Outside) → IsAnswered post plan b x → is_stopped (judged post plan b x).row ≡ true
    → (b.car.phase ≡ phase.Stopping) ⊎ (is_behind_stop b.car.phase ≡ true)
stops_by post plan b x i e =
    let meets : Meets post (behind post plan b x) = i.meets in
    comes_from b.car.phase plan b.car.dialect (heard post plan b x).tell (stops plan b.car.cycles x.stop (heard post plan b x).tell)
    (by_phase (is_behind_stop (behind post plan b x).car.phase) (is_ac post.mode) (behind post plan b x).car.phase (behind post plan b x).post.row refl meets.in_row
    (same_confirmed (judged post plan b x).row ∙ e))

-- behind SessionStop too
ends_so : (ph : CarPhase) (plan : CarPlan) (d : Dialect) (told : Tell) (stopping : Bool) (o : EndCause) → end_of ph ≡ Some o → is_behind_stop (leads plan d ph told stopping) ≡ true
ends_so phase.Ending plan d told stopping o e = refl
ends_so other plan d told stopping o e = absurd (some_none o (sym e))

pub stopped_behind_end : (post : PostPlan) (plan : CarPlan) (b : Both) (x : Outside) (o : EndCause) → IsAnswered post plan b x → end_of b.car.phase ≡ Some o → is_stopped (judged post plan b x).row ≡ true
stopped_behind_end post plan b x o i e =
    let meets : Meets post (behind post plan b x) = i.meets in
    sym (same_confirmed (judged post plan b x).row)
    ∙ stopped_for (is_ac post.mode) (behind post plan b x).car.phase (behind post plan b x).post.row meets.in_row
    (ends_so b.car.phase plan b.car.dialect (heard post plan b x).tell (stops plan b.car.cycles x.stop (heard post plan b x).tell) o e)

-- ---- the orders

-- an order that isn't Close, or none
abbrev pub ClosesNothing : Option Order → Type 0
ClosesNothing (Some order.Close) = ⊥
ClosesNothing other = Unit {0}

-- behind it a contactor that was ordered open still was
pub stays_open : (a earlier : Option Order) → ClosesNothing a → earlier ≡ Some order.Open → ordered_behind a earlier ≡ Some order.Open
stays_open None earlier n e = e
stays_open (Some order.Open) earlier n e = refl
stays_open (Some order.Close) earlier n e = absurd n
stays_open (Some (order.Limits voltage current watts)) earlier n e = e

-- with no order to be given it was ordered so before
pub was_open : (a earlier : Option Order) → a ≡ None → ordered_behind a earlier ≡ Some order.Open → earlier ≡ Some order.Open
was_open None earlier n e = e
was_open (Some o) earlier n e = absurd (some_none o n)

pub opening_closes_nothing : (live : Bool) → ClosesNothing (opening_if live)
opening_closes_nothing true = tt
opening_closes_nothing false = tt

-- the post
granted : (b : Bool) (o : Option Order) → b ≡ true → (if b then o else None) ≡ o
granted true o e = refl
granted false o e = absurd (false_true e)

nothing_granted : (b : Bool) → ClosesNothing (if b then None else None)
nothing_granted true = tt
nothing_granted false = tt

orders_nothing : (ph : CarPhase) (b live : Bool) (post : PostPlan) (plan : CarPlan) (d : Dialect) (told shown : ℕ) → is_behind_stop ph ≡ true
    → ClosesNothing (order_by (end_of ph) live (if b then granted_order post told shown (dropped_ask (ask_of plan d ph)) else None))
orders_nothing (phase.Welding left) b live post plan d told shown e = nothing_granted b
orders_nothing phase.Ending b live post plan d told shown e = opening_closes_nothing live
orders_nothing other b live post plan d told shown e = absurd (false_true e)

-- PowerDelivery Stop orders it open, and no request behind that orders it closed
pub ordered_open : (post : PostPlan) (plan : CarPlan) (b : Both) (x : Outside) (live : Bool) (earlier : Option Order) → IsAnswered post plan b x → (is_behind_stop b.car.phase ≡ true → earlier ≡ Some order.Open)
    → (b.car.phase ≡ phase.Stopping) ⊎ (is_behind_stop b.car.phase ≡ true)
    → ordered_behind (order_by (end_of b.car.phase) live (order_of b.post x.facts post (asked plan b.car) x.shown)) earlier ≡ Some order.Open
ordered_open post plan b x live earlier i k (inl e) =
    ap (λ (p : CarPhase). ordered_behind (order_by (end_of p) live (if is_accepted (verdict b.post x.facts post (asked plan b.car)) then granted_order post b.post.told x.shown (dropped_ask (ask_of plan b.car.dialect p)) else None)) earlier) e
    ∙ ap (λ (o : Option Order). ordered_behind o earlier) (granted (is_accepted (verdict b.post x.facts post (asked plan b.car))) (Some order.Open) (accepts _ i.accepted))
ordered_open post plan b x live earlier i k (inr e) =
    stays_open (order_by (end_of b.car.phase) live (order_of b.post x.facts post (asked plan b.car) x.shown)) earlier
    (orders_nothing b.car.phase (is_accepted (verdict b.post x.facts post (asked plan b.car))) live post plan b.car.dialect b.post.told x.shown e) (k e)

-- the car
car_orders_nothing : (p : CarPhase) (plan : CarPlan) (told : Tell) → is_behind_stop p ≡ true → ClosesNothing (car.order_of plan p told)
car_orders_nothing (phase.Welding left) plan told e = tt
car_orders_nothing phase.Ending plan told e = tt
car_orders_nothing other plan told e = absurd (false_true e)

pub car_ordered_open : (p : CarPhase) (plan : CarPlan) (told : Tell) (earlier : Option Order) → (is_behind_stop p ≡ true → earlier ≡ Some order.Open) → (p ≡ phase.Stopping) ⊎ (is_behind_stop p ≡ true)
    → ordered_behind (car.order_of plan p told) earlier ≡ Some order.Open
car_ordered_open p plan told earlier k (inl e) = ap (λ (z : CarPhase). ordered_behind (car.order_of plan z told) earlier) e
car_ordered_open p plan told earlier k (inr e) = stays_open (car.order_of plan p told) earlier (car_orders_nothing p plan told e) (k e)
