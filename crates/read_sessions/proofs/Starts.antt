-- A request that leads to a row that waits is an accepted PowerDelivery Start, which orders the contactor closed; and no other does.
use Rattle.std.proofs.Common.{◌≡◌, ℕ, Bool, true, false, Option, Some, None, is_some, unwrap_or, refl, sym, ap, ◌∙◌}
use Rattle.charge_world.specs.declared.ports.Order.{Order}
use Rattle.charge_world.specs.declared.ports.Order.TheVariants as order
use Rattle.session_words.specs.declared.cause.EndCause.{EndCause}
use Rattle.session_words.specs.declared.code.Code.{Code}
use Rattle.session_words.specs.declared.code.Progress.TheVariants as progress
use Rattle.session_words.specs.declared.facts.Facts.{Facts}
use Rattle.session_words.specs.declared.phase.Phase.{Phase}
use Rattle.session_words.specs.declared.phase.Phase.TheVariants as row
use Rattle.session_words.specs.declared.plan.PostPlan.{PostPlan}
use Rattle.session_words.specs.declared.word.Ask.{Ask}
use Rattle.session_words.specs.declared.word.Ask.TheVariants as ask
use Rattle.session_words.specs.declared.word.Request.{Request}
use Rattle.session_rules.specs.declared.stage.Stage.{Stage}
use Rattle.session_rules.specs.Causes.{found_by, word_cause}
use Rattle.session_rules.specs.Deadlines.{timeout_of}
use Rattle.session_rules.specs.Finishing.{is_ac, is_finished}
use Rattle.session_rules.specs.Moves.{stage_behind}
use Rattle.session_rules.specs.Orders.{granted_order, order_of}
use Rattle.session_rules.specs.Rows.{leads}
use Rattle.session_rules.specs.Stages.{is_set_up, is_waiting, confirmed_row}
use Rattle.session_rules.specs.Verdict.{verdict, is_accepted}
use Rattle.post_spec.specs.Causes.{running}
use Rattle.station_spec.specs.Judging.{order_by}
use Rattle.safe_runs.proofs.Asked.{row_takes}

-- PowerDelivery Start
abbrev is_start : Ask → Bool
is_start (ask.PowerDelivery progress.Start tuple profile) = true
is_start other = false

leads_start : (here : Phase) (a : Ask) (finished ac : Bool) → is_start a ≡ false → is_waiting here ≡ false → is_waiting (unwrap_or (leads here a finished ac) here) ≡ false
leads_start row.Selected ask.Authorization true ac s w = refl
leads_start row.Selected ask.Authorization false ac s w = refl
leads_start row.Authorized (ask.ChargeParameters mode limits) true true s w = refl
leads_start row.Authorized (ask.ChargeParameters mode limits) true false s w = refl
leads_start row.Authorized (ask.ChargeParameters mode limits) false ac s w = refl
leads_start row.DcReady (ask.CableCheck ready soc) true ac s w = refl
leads_start row.DcReady (ask.CableCheck ready soc) false ac s w = refl
leads_start here (ask.PowerDelivery progress.Start tuple profile) finished ac s w = cc
leads_start row.DcClosing a finished ac s w = cc
leads_start row.AcClosing a finished ac s w = cc
leads_start here (ask.SessionSetup car) finished ac s w = refl
leads_start here a finished ac s w = refl

start_of : (a : Ask) (b : Bool) → is_start a ≡ b → (is_start a ≡ false → ⊥) → is_start a ≡ true
start_of a true e n = e
start_of a false e n = absurd (n e)

orders_close : (plan : PostPlan) (told shown : ℕ) (a : Ask) → is_start a ≡ true → granted_order plan told shown a ≡ Some order.Close
orders_close plan told shown (ask.PowerDelivery progress.Start tuple profile) h = refl
orders_close plan told shown a h = cc

closes_start : (plan : PostPlan) (told shown : ℕ) (a : Ask) (b : Bool) → is_start a ≡ b → granted_order plan told shown a ≡ Some order.Close → is_start a ≡ true
closes_start plan told shown a true e h = e
closes_start plan told shown (ask.PowerDelivery progress.Start tuple profile) false e h = cc
closes_start plan told shown (ask.PowerDelivery progress.Stop tuple profile) false e h = cc
closes_start plan told shown (ask.PowerDelivery progress.Renegotiate tuple profile) false e h = cc
closes_start plan told shown (ask.PreCharge ready soc voltage current) false e h = cc
closes_start plan told shown (ask.CurrentDemand ready soc voltage current) false e h = cc
closes_start plan told shown ask.ChargingStatus false e h = cc
closes_start plan told shown a false e h = cc

no_cause : (x : Code) (a : Ask) → is_start a ≡ true → is_accepted x ≡ true → word_cause false (found_by x a) ≡ None
no_cause x (ask.PowerDelivery progress.Start tuple profile) h e = rw e refl
no_cause x a h e = cc

-- a request from a row that doesn't wait to one that does
pub record Starts (s : Stage) (facts : Facts) (plan : PostPlan) (r : Request) (shown : ℕ) : Type 0 where
  pub order : order_of s facts plan r shown ≡ Some order.Close
  pub cause : word_cause false (found_by (verdict s facts plan r) r.ask) ≡ None

pub true_false : {A : Type 0} (b : Bool) → b ≡ true → b ≡ false → A
true_false true h k = cc
true_false false h k = cc

starts_if : (b : Bool) (s : Stage) (facts : Facts) (plan : PostPlan) (r : Request) (shown : ℕ) → is_accepted (verdict s facts plan r) ≡ b → is_waiting s.row ≡ false → is_waiting (stage_behind s facts plan r shown).row ≡ true → Starts s facts plan r shown
starts_if false s facts plan r shown e w h =
    let same : (stage_behind s facts plan r shown).row ≡ s.row = rw e refl in
    true_false (is_waiting s.row) (ap is_waiting (sym same) ∙ h) w
starts_if true s facts plan r shown e w h =
    let moved : (stage_behind s facts plan r shown).row ≡ unwrap_or (leads s.row r.ask (is_finished facts plan r.ask shown) (is_ac plan.mode)) s.row = rw e refl in
    let start = start_of r.ask (is_start r.ask) refl
    (λ n. true_false (is_waiting (stage_behind s facts plan r shown).row) h (ap is_waiting moved ∙ leads_start s.row r.ask (is_finished facts plan r.ask shown) (is_ac plan.mode) n w)) in
    let granted : order_of s facts plan r shown ≡ granted_order plan s.told shown r.ask = rw e refl in
    record { order = granted ∙ orders_close plan s.told shown r.ask start; cause = no_cause (verdict s facts plan r) r.ask start e }

pub starts : (s : Stage) (facts : Facts) (plan : PostPlan) (r : Request) (shown : ℕ) → is_waiting s.row ≡ false → is_waiting (stage_behind s facts plan r shown).row ≡ true → Starts s facts plan r shown
starts s facts plan r shown w h = starts_if (is_accepted (verdict s facts plan r)) s facts plan r shown refl w h

-- a Close is ordered by a Start alone
leads_waiting : (here : Phase) (a : Ask) (finished ac : Bool) → is_start a ≡ true → is_some (leads here a true true) ≡ true → is_waiting (unwrap_or (leads here a finished ac) here) ≡ true
leads_waiting row.DcPreCharging (ask.PowerDelivery progress.Start tuple profile) finished ac s l = refl
leads_waiting row.AcReady (ask.PowerDelivery progress.Start tuple profile) finished ac s l = refl
leads_waiting here (ask.PowerDelivery progress.Start tuple profile) finished ac s l = cc
leads_waiting here a finished ac s l = cc

closes_if : (b : Bool) (s : Stage) (facts : Facts) (plan : PostPlan) (r : Request) (shown : ℕ) → is_accepted (verdict s facts plan r) ≡ b → order_of s facts plan r shown ≡ Some order.Close → is_waiting (stage_behind s facts plan r shown).row ≡ true
closes_if false s facts plan r shown e h =
    let none : order_of s facts plan r shown ≡ None = rw e refl in
    let x : None ≡ Some order.Close = sym none ∙ h in
    cc
closes_if true s facts plan r shown e h =
    let granted : order_of s facts plan r shown ≡ granted_order plan s.told shown r.ask = rw e refl in
    let start = closes_start plan s.told shown r.ask (is_start r.ask) refl (sym granted ∙ h) in
    let moved : (stage_behind s facts plan r shown).row ≡ unwrap_or (leads s.row r.ask (is_finished facts plan r.ask shown) (is_ac plan.mode)) s.row = rw e refl in
    ap is_waiting moved ∙ leads_waiting s.row r.ask (is_finished facts plan r.ask shown) (is_ac plan.mode) start (row_takes s facts plan r e)

ordered_by : (cause : Option EndCause) (live : Bool) (o : Option Order) → order_by cause live o ≡ Some order.Close → o ≡ Some order.Close
ordered_by None live o h = h
ordered_by (Some k) true o h = cc
ordered_by (Some k) false o h = cc

pub closes_waiting : (cause : Option EndCause) (live : Bool) (s : Stage) (facts : Facts) (plan : PostPlan) (r : Request) (shown : ℕ) → order_by cause live (order_of s facts plan r shown) ≡ Some order.Close → is_waiting (stage_behind s facts plan r shown).row ≡ true
closes_waiting cause live s facts plan r shown h = closes_if (is_accepted (verdict s facts plan r)) s facts plan r shown refl (ordered_by cause live (order_of s facts plan r shown) h)

-- a session that is set up stays so
leads_set_up : (here : Phase) (a : Ask) (finished ac : Bool) → is_set_up here ≡ true → is_set_up (unwrap_or (leads here a finished ac) here) ≡ true
leads_set_up row.Connected a finished ac h = cc
leads_set_up row.Negotiated a finished ac h = cc
leads_set_up row.Selected ask.Authorization true ac h = refl
leads_set_up row.Selected ask.Authorization false ac h = refl
leads_set_up row.Authorized (ask.ChargeParameters mode limits) true true h = refl
leads_set_up row.Authorized (ask.ChargeParameters mode limits) true false h = refl
leads_set_up row.Authorized (ask.ChargeParameters mode limits) false ac h = refl
leads_set_up row.DcReady (ask.CableCheck ready soc) true ac h = refl
leads_set_up row.DcReady (ask.CableCheck ready soc) false ac h = refl
leads_set_up here (ask.SessionSetup car) finished ac h = refl
leads_set_up here (ask.PowerDelivery progress.Start tuple profile) finished ac h = refl
leads_set_up here a finished ac h = refl

set_up_if : (b : Bool) (s : Stage) (facts : Facts) (plan : PostPlan) (r : Request) (shown : ℕ) → is_accepted (verdict s facts plan r) ≡ b → is_set_up s.row ≡ true → is_set_up (stage_behind s facts plan r shown).row ≡ true
set_up_if false s facts plan r shown e h = rw e h
set_up_if true s facts plan r shown e h = rw e (leads_set_up s.row r.ask (is_finished facts plan r.ask shown) (is_ac plan.mode) h)

set_up_not : (b : Bool) (s : Stage) (facts : Facts) (plan : PostPlan) (r : Request) (shown : ℕ) → is_set_up s.row ≡ b → is_set_up (stage_behind s facts plan r shown).row ≡ false → is_set_up s.row ≡ false
set_up_not false s facts plan r shown e h = e
set_up_not true s facts plan r shown e h = true_false (is_set_up (stage_behind s facts plan r shown).row) (set_up_if (is_accepted (verdict s facts plan r)) s facts plan r shown refl e) h

pub set_up_before : (s : Stage) (facts : Facts) (plan : PostPlan) (r : Request) (shown : ℕ) → is_set_up (stage_behind s facts plan r shown).row ≡ false → is_set_up s.row ≡ false
set_up_before s facts plan r shown h = set_up_not (is_set_up s.row) s facts plan r shown refl h

-- rows behind a reply
pub row_goes : (here : Phase) → is_waiting (confirmed_row here) ≡ false
row_goes row.DcClosing = refl
row_goes row.AcClosing = refl
row_goes here = refl

pub row_set_up : (here : Phase) → is_set_up (confirmed_row here) ≡ is_set_up here
row_set_up row.DcClosing = refl
row_set_up row.AcClosing = refl
row_set_up row.Connected = refl
row_set_up here = refl

pub waiting_set_up : (here : Phase) → is_waiting here ≡ true → is_set_up here ≡ true
waiting_set_up row.DcClosing h = refl
waiting_set_up row.AcClosing h = refl
waiting_set_up here h = cc

pub timeout_is : (here : Phase) → timeout_of here ≡ running (is_set_up here) (is_waiting here)
timeout_is row.Connected = refl
timeout_is row.Negotiated = refl
timeout_is row.DcClosing = refl
timeout_is row.AcClosing = refl
timeout_is here = refl
