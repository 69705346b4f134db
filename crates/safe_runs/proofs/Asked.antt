-- What is to be done about a request, where it is accepted.
use Rattle.std.proofs.Common.{◌≡◌, ℕ, Bool, true, false, ◌||◌, nat_lt, List, Option, Some, None, is_some, refl}
use Rattle.std.specs.Option.{option_map}
use Rattle.charge_world.specs.declared.heard.IsolationLevel.{IsolationLevel}
use Rattle.charge_world.specs.declared.heard.IsolationLevel.TheVariants.{Invalid, Valid, Warning, Fault, NoImd}
use Rattle.charge_world.specs.declared.offer.Dialect.{Dialect}
use Rattle.charge_world.specs.declared.offer.Dialect.TheVariants as dialect
use Rattle.charge_world.specs.declared.ports.Order.TheVariants as order
use Rattle.session_words.specs.declared.cause.EndCause.TheVariants.{FailedReply}
use Rattle.session_words.specs.declared.code.Code.{Code}
use Rattle.session_words.specs.declared.code.Code.TheVariants as code
use Rattle.session_words.specs.declared.code.Processing.{Processing}
use Rattle.session_words.specs.declared.code.Processing.TheVariants as processing
use Rattle.session_words.specs.declared.code.Progress.TheVariants as progress
use Rattle.session_words.specs.declared.facts.Facts.{Facts}
use Rattle.session_words.specs.declared.plan.PostPlan.{PostPlan}
use Rattle.session_words.specs.declared.session.SessionId.{SessionId}
use Rattle.session_words.specs.declared.word.Ask.{Ask}
use Rattle.session_words.specs.declared.word.Ask.TheVariants as ask
use Rattle.session_words.specs.declared.word.Request.{Request}
use Rattle.session_words.specs.Codes.{IsOkClass}
use Rattle.session_rules.specs.declared.stage.Stage.{Stage}
use Rattle.session_rules.specs.Causes.{found_by, word_cause}
use Rattle.session_rules.specs.Delivery.{off_of}
use Rattle.session_rules.specs.Finishing.{is_valid, is_finished}
use Rattle.session_rules.specs.Moves.{next_pre_charge, facts_by, facts_behind}
use Rattle.session_rules.specs.Orders.{granted_order}
use Rattle.session_rules.specs.Reply.{tell_of, processing_of, awaiting}
use Rattle.session_rules.specs.Rows.{leads, accepts, is_spoken}
use Rattle.session_rules.specs.Verdict.{verdict, is_accepted, is_misnamed, content_lines, accepting_code}
use Rattle.session_rules.specs.Lines.{first_line}
use Rattle.post_spec.specs.Facts.{newer}
use Rattle.post_spec.specs.Kinds as kinds
use Rattle.post_spec.specs.Checked.{off_in, pre_charge_off}
use Rattle.post_spec.specs.Spelled.{dropped_tell}
use Rattle.post_spec.specs.Talk.{Exchange}
use Rattle.safe_runs.proofs.Rows.{Says, IsPlain, is_cable_check}
use Rattle.safe_runs.proofs.Verdicts.{lines_accept, and_right}

pub ok_class : (x : Code) → is_accepted x ≡ true → IsOkClass x
ok_class code.Ok h = tt
ok_class code.OkNewSessionEstablished h = tt
ok_class code.OkOldSessionJoined h = tt
ok_class code.OkCertificateExpiresSoon h = tt
ok_class x h = absurd (cc)

-- a request with a FAILED code ends the session
pub found_failed : (x : Code) (a : Ask) → is_accepted x ≡ false → word_cause false (found_by x a) ≡ Some FailedReply
found_failed x (ask.SessionStop pause) h = rw h refl
found_failed x a h = rw h refl

pub found_stopped : (x : Code) (pause : Bool) → is_accepted x ≡ true → word_cause false (found_by x (ask.SessionStop pause)) ≡ None → ⊥
found_stopped x true e h = let g = rw e at h in cc
found_stopped x false e h = let g = rw e at h in cc

abbrev pub IsStop : Ask → Type 0
IsStop (ask.SessionStop pause) = Unit {0}
IsStop other = ⊥

-- an accepted one that isn't SessionStop doesn't
pub found_accepted : (x : Code) (a : Ask) → (IsStop a → ⊥) → is_accepted x ≡ true → word_cause false (found_by x a) ≡ None
found_accepted x (ask.SessionStop pause) n h = absurd (n tt)
found_accepted x a n h = rw h refl

pub row_takes : (s : Stage) (facts : Facts) (plan : PostPlan) (r : Request) → is_accepted (verdict s facts plan r) ≡ true → is_some (leads s.row r.ask true true) ≡ true
row_takes s facts plan r h =
    and_right (is_spoken s.dialect r.ask) (is_some (leads s.row r.ask true true))
    (lines_accept (is_misnamed s r.session) (accepts s.dialect s.row r.ask) (first_line (content_lines s facts plan r.ask) None) (accepting_code s facts r.session r.ask) h)

proc : (p : Processing) (f : Bool) → kinds.is_finished p ≡ false → kinds.is_finished (processing_of p true f) ≡ f
proc p true h = refl
proc p false h = h

awaits : (d : Dialect) → kinds.is_finished (awaiting d) ≡ false
awaits dialect.Iso = refl
awaits dialect.Din = refl

-- the reply says what is finished
pub says : (s : Stage) (facts : Facts) (plan : PostPlan) (x : Code) (shown : ℕ) (a : Ask) → IsPlain a → is_accepted x ≡ true → Says a (is_finished facts plan a shown) (dropped_tell (tell_of s facts plan x shown a))
says s facts plan x shown ask.Authorization p h = rw h (proc (awaiting s.dialect) (plan.free || facts.paid || facts.joined) (awaits s.dialect))
says s facts plan x shown (ask.ChargeParameters mode limits) p h = rw h (proc processing.Ongoing (nat_lt 0 shown) refl)
says s facts plan x shown (ask.CableCheck ready soc) p h = rw h (proc processing.Ongoing (is_valid facts.isolation) refl)
says s facts plan x shown (ask.SessionStop pause) p h = absurd p
says s facts plan x shown (ask.PowerDelivery progress.Start tuple profile) p h = absurd p
says s facts plan x shown a p h = tt

-- how far the last pre-charge was off
pub off_step : (s : Stage) (facts : Facts) (plan : PostPlan) (x : Code) (shown : ℕ) (xs : List Exchange) (a : Ask) → pre_charge_off xs ≡ option_map off_of s.pre_charge
    → newer (off_in a (dropped_tell (tell_of s facts plan x shown a))) (pre_charge_off xs) ≡ option_map off_of (next_pre_charge s facts a)
off_step s facts plan x shown xs (ask.PreCharge ready soc voltage current) h = refl
off_step s facts plan x shown xs a h = h

pub valid_some : (o : Option IsolationLevel) → is_valid o ≡ true → o ≡ Some Valid
valid_some None h = cc
valid_some (Some Valid) h = refl
valid_some (Some Invalid) h = cc
valid_some (Some Warning) h = cc
valid_some (Some Fault) h = cc
valid_some (Some NoImd) h = cc

pub cable_valid : (facts : Facts) (plan : PostPlan) (a : Ask) (shown : ℕ) → is_cable_check a ≡ true → is_finished facts plan a shown ≡ true → facts.isolation ≡ Some Valid
cable_valid facts plan (ask.CableCheck ready soc) shown c h = valid_some facts.isolation h
cable_valid facts plan a shown c h = cc

-- no Close but of Start
pub not_close : (plan : PostPlan) (told shown : ℕ) (a : Ask) → IsPlain a → granted_order plan told shown a ≡ Some order.Close → ⊥
not_close plan told shown (ask.PowerDelivery progress.Start tuple profile) p h = p
not_close plan told shown (ask.PowerDelivery progress.Stop tuple profile) p h = cc
not_close plan told shown (ask.PowerDelivery progress.Renegotiate tuple profile) p h = cc
not_close plan told shown (ask.PreCharge ready soc voltage current) p h = cc
not_close plan told shown (ask.CurrentDemand ready soc voltage current) p h = cc
not_close plan told shown ask.ChargingStatus p h = cc
not_close plan told shown a p h = cc

-- what a request changes in the facts
by_pilot : (s : Stage) (facts : Facts) (name : SessionId) (a : Ask) → (facts_by s facts name a).pilot ≡ facts.pilot
by_pilot s facts name (ask.SessionSetup car) = refl
by_pilot s facts name (ask.PowerDelivery progress.Renegotiate tuple profile) = refl
by_pilot s facts name a = refl

by_isolation : (s : Stage) (facts : Facts) (name : SessionId) (a : Ask) → (facts_by s facts name a).isolation ≡ facts.isolation
by_isolation s facts name (ask.SessionSetup car) = refl
by_isolation s facts name (ask.PowerDelivery progress.Renegotiate tuple profile) = refl
by_isolation s facts name a = refl

behind_pilot : (b : Bool) (s : Stage) (facts : Facts) (plan : PostPlan) (r : Request) → is_accepted (verdict s facts plan r) ≡ b → (facts_behind s facts plan r).pilot ≡ facts.pilot
behind_pilot true s facts plan r e = rw e (by_pilot s facts r.session r.ask)
behind_pilot false s facts plan r e = rw e refl

behind_isolation : (b : Bool) (s : Stage) (facts : Facts) (plan : PostPlan) (r : Request) → is_accepted (verdict s facts plan r) ≡ b → (facts_behind s facts plan r).isolation ≡ facts.isolation
behind_isolation true s facts plan r e = rw e (by_isolation s facts r.session r.ask)
behind_isolation false s facts plan r e = rw e refl

pub same_pilot : (s : Stage) (facts : Facts) (plan : PostPlan) (r : Request) → (facts_behind s facts plan r).pilot ≡ facts.pilot
same_pilot s facts plan r = behind_pilot (is_accepted (verdict s facts plan r)) s facts plan r refl

pub same_isolation : (s : Stage) (facts : Facts) (plan : PostPlan) (r : Request) → (facts_behind s facts plan r).isolation ≡ facts.isolation
same_isolation s facts plan r = behind_isolation (is_accepted (verdict s facts plan r)) s facts plan r refl
