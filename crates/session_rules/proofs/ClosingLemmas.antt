-- When the contactor is ordered closed.
use Rattle.std.proofs.Common.{◌≡◌, ℕ, ℤ, Bool, true, false, not, ◌&&◌, Option, Some, None, if◌then◌else◌, refl, subst, arith, ◌⊎◌, inl, inr, ◌∙◌, sym}
use Rattle.std.proofs.lemmas.Grind.{common_steps}
use Rattle.charge_world.specs.declared.offer.Dialect.{Dialect}
use Rattle.charge_world.specs.declared.offer.Dialect.TheVariants as dialect
use Rattle.charge_world.specs.declared.ports.Order.{Order}
use Rattle.charge_world.specs.declared.ports.Order.TheVariants as order
use Rattle.session_words.specs.declared.amount.Amount.{Amount}
use Rattle.session_words.specs.declared.code.Progress.TheVariants as progress
use Rattle.session_words.specs.declared.facts.Facts.{Facts}
use Rattle.session_words.specs.declared.phase.Phase.{Phase}
use Rattle.session_words.specs.declared.phase.Phase.TheVariants as row
use Rattle.session_words.specs.declared.phase.Standing.{Standing}
use Rattle.session_words.specs.declared.phase.Standing.TheVariants as standing
use Rattle.session_words.specs.declared.plan.PostPlan.{PostPlan}
use Rattle.session_words.specs.declared.session.SessionId.{SessionId}
use Rattle.session_words.specs.declared.word.Ask.{Ask}
use Rattle.session_words.specs.declared.word.Ask.TheVariants as ask
use Rattle.session_words.specs.declared.word.Request.{Request}
use Rattle.contactor.specs.Rights.{is_ready}
use Rattle.session_rules.specs.declared.stage.PreCharged.{PreCharged}
use Rattle.session_rules.specs.declared.stage.Stage.{Stage}
use Rattle.session_rules.specs.Delivery.{is_opened, is_pre_charged}
use Rattle.session_rules.specs.Laws.{ClosesRight, ClosesFor, IsNear, IsStart}
use Rattle.session_rules.specs.Lines.{none_applies}
use Rattle.session_rules.specs.Orders.{granted_order}
use Rattle.session_rules.specs.Rows.{accepts}
use Rattle.session_rules.specs.Verdict.{verdict, verdict_lines, is_accepted}
use Rattle.session_rules.proofs.VerdictLemmas.{accepts_without_line}

given_if : (b : Bool) (x : Option Order) (o : Order) → (if b then x else None) ≡ Some o → (b ≡ true) × (x ≡ Some o)
given_if true x o h = (refl, h)
given_if false x o h = cc

start_by : (plan : PostPlan) (told shown : ℕ) (a : Ask) → granted_order plan told shown a ≡ Some order.Close → IsStart a
start_by plan told shown (ask.SessionSetup car) h = cc
start_by plan told shown ask.ServiceDiscovery h = cc
start_by plan told shown (ask.ServiceDetail service) h = cc
start_by plan told shown (ask.PaymentSelection external services) h = cc
start_by plan told shown ask.Authorization h = cc
start_by plan told shown (ask.ChargeParameters mode limits) h = cc
start_by plan told shown (ask.CableCheck ready soc) h = cc
start_by plan told shown (ask.PreCharge ready soc voltage current) h = cc
start_by plan told shown (ask.PowerDelivery progress.Start tuple profile) h = tt
start_by plan told shown (ask.PowerDelivery progress.Stop tuple profile) h = cc
start_by plan told shown (ask.PowerDelivery progress.Renegotiate tuple profile) h = cc
start_by plan told shown (ask.CurrentDemand ready soc voltage current) h = cc
start_by plan told shown ask.ChargingStatus h = cc
start_by plan told shown (ask.WeldingDetection ready soc) h = cc
start_by plan told shown (ask.SessionStop pause) h = cc

-- rows that take PowerDelivery Start
abbrev pub TakesStart : Phase → Type 0
TakesStart r = (r ≡ row.DcPreCharging) ⊎ (r ≡ row.AcReady)

taken_in : (d : Dialect) (r : Phase) (tuple : Option ℤ) (profile : Option Amount)
    → accepts d r (ask.PowerDelivery progress.Start tuple profile) ≡ true → TakesStart r
taken_in dialect.Iso row.DcPreCharging tuple profile h = inl refl
taken_in dialect.Din row.DcPreCharging tuple profile h = inl refl
taken_in dialect.Iso row.AcReady tuple profile h = inr refl
taken_in dialect.Din row.AcReady tuple profile h = inr refl
taken_in dialect.Iso row.Connected tuple profile h = cc
taken_in dialect.Din row.Connected tuple profile h = cc
taken_in dialect.Iso row.Negotiated tuple profile h = cc
taken_in dialect.Din row.Negotiated tuple profile h = cc
taken_in dialect.Iso row.SetUp tuple profile h = cc
taken_in dialect.Din row.SetUp tuple profile h = cc
taken_in dialect.Iso row.Discovered tuple profile h = cc
taken_in dialect.Din row.Discovered tuple profile h = cc
taken_in dialect.Iso row.Selected tuple profile h = cc
taken_in dialect.Din row.Selected tuple profile h = cc
taken_in dialect.Iso row.Authorized tuple profile h = cc
taken_in dialect.Din row.Authorized tuple profile h = cc
taken_in dialect.Iso row.DcReady tuple profile h = cc
taken_in dialect.Din row.DcReady tuple profile h = cc
taken_in dialect.Iso row.DcChecked tuple profile h = cc
taken_in dialect.Din row.DcChecked tuple profile h = cc
taken_in dialect.Iso row.DcClosing tuple profile h = cc
taken_in dialect.Din row.DcClosing tuple profile h = cc
taken_in dialect.Iso row.DcCharging tuple profile h = cc
taken_in dialect.Din row.DcCharging tuple profile h = cc
taken_in dialect.Iso row.DcStopped tuple profile h = cc
taken_in dialect.Din row.DcStopped tuple profile h = cc
taken_in dialect.Iso row.AcClosing tuple profile h = cc
taken_in dialect.Din row.AcClosing tuple profile h = cc
taken_in dialect.Iso row.AcCharging tuple profile h = cc
taken_in dialect.Din row.AcCharging tuple profile h = cc
taken_in dialect.Iso row.AcStopped tuple profile h = cc
taken_in dialect.Din row.AcStopped tuple profile h = cc

-- none of the lines of PowerDelivery Start applies
pub record Passed (a b c d e : Bool) : Type 0 where
  pub taken : a ≡ true
  pub ready : c ≡ true
  pub opened : d ≡ true
  pub charged : e ≡ true

start_passes : (m a t p c d e : Bool)
    → (not m && (not (not a) && (not t && (not p && (not (not c) && (not (not d) && (not (not e) && true))))))) ≡ true → Passed a t c d e
start_passes true a t p c d e h = cc
start_passes false false t p c d e h = cc
start_passes false true true p c d e h = cc
start_passes false true false true c d e h = cc
start_passes false true false false false d e h = cc
start_passes false true false false true false e h = cc
start_passes false true false false true true false h = cc
start_passes false true false false true true true h = record { taken = refl; ready = refl; opened = refl; charged = refl }

opened_by : (s : Standing) → is_opened s ≡ true → s ≡ standing.Opened
opened_by standing.Opened h = refl
opened_by standing.Closing h = cc
opened_by standing.Closed h = cc
opened_by standing.MustOpen h = cc
opened_by standing.Opening h = cc

near_by : (p : Option PreCharged) → is_pre_charged row.DcPreCharging p ≡ true → IsNear p
near_by None h = cc
near_by (Some p) h = grind (arith, common_steps)

starts_right : (s : Stage) (facts : Facts) (plan : PostPlan) (named : SessionId) (a : Ask) → IsStart a
    → is_accepted (verdict s facts plan (record { session = named; ask = a })) ≡ true
    → ClosesFor s facts plan (record { session = named; ask = a })
starts_right s facts plan named (ask.PowerDelivery progress.Start tuple profile) start accepted =
    let r : Request = record { session = named; ask = ask.PowerDelivery progress.Start tuple profile } in
    let none : none_applies (verdict_lines s facts plan r) ≡ true = sym (accepts_without_line s facts plan r) ∙ accepted in
    let passed = start_passes _ (accepts s.dialect s.row r.ask) _ _
    (is_ready facts.pilot) (is_opened facts.contactor) (is_pre_charged s.row s.pre_charge) none in
    record {
      accepted = accepted;
      start = tt;
      in_row = taken_in s.dialect s.row tuple profile passed.taken;
      pilot = passed.ready;
      opened = opened_by facts.contactor passed.opened;
      near = λ (e : s.row ≡ row.DcPreCharging).
          near_by s.pre_charge (subst (λ (x : Phase). is_pre_charged x s.pre_charge ≡ true) e passed.charged);
    }
starts_right s facts plan named (ask.SessionSetup car) start accepted = absurd start
starts_right s facts plan named ask.ServiceDiscovery start accepted = absurd start
starts_right s facts plan named (ask.ServiceDetail service) start accepted = absurd start
starts_right s facts plan named (ask.PaymentSelection external services) start accepted = absurd start
starts_right s facts plan named ask.Authorization start accepted = absurd start
starts_right s facts plan named (ask.ChargeParameters mode limits) start accepted = absurd start
starts_right s facts plan named (ask.CableCheck ready soc) start accepted = absurd start
starts_right s facts plan named (ask.PreCharge ready soc voltage current) start accepted = absurd start
starts_right s facts plan named (ask.PowerDelivery progress.Stop tuple profile) start accepted = absurd start
starts_right s facts plan named (ask.PowerDelivery progress.Renegotiate tuple profile) start accepted = absurd start
starts_right s facts plan named (ask.CurrentDemand ready soc voltage current) start accepted = absurd start
starts_right s facts plan named ask.ChargingStatus start accepted = absurd start
starts_right s facts plan named (ask.WeldingDetection ready soc) start accepted = absurd start
starts_right s facts plan named (ask.SessionStop pause) start accepted = absurd start

pub closes_right : ClosesRight
closes_right s facts plan r shown h =
    let given = given_if (is_accepted (verdict s facts plan r)) (granted_order plan s.told shown r.ask) order.Close h in
    starts_right s facts plan r.session r.ask (start_by plan s.told shown r.ask given.1) given.0
