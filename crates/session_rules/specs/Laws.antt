-- Own: what follows from the rules of a session, whatever it keeps and is asked.
use Rattle.std.specs.Prelude.{◌≡◌, ◌≢◌, ℕ, ◌+◌, ◌*◌, ◌^◌, ◌<◌, ◌≤◌, Bool, true, false, ◌⊎◌, Option, Some, None}
use Rattle.charge_world.specs.declared.offer.Dialect.{Dialect}
use Rattle.charge_world.specs.declared.offer.Dialect.TheVariants as dialect
use Rattle.charge_world.specs.declared.ports.Order.TheVariants as order
use Rattle.session_words.specs.declared.code.Code.{Code}
use Rattle.session_words.specs.declared.code.Code.TheVariants as code
use Rattle.session_words.specs.declared.code.Progress.TheVariants as progress
use Rattle.session_words.specs.declared.facts.Facts.{Facts}
use Rattle.session_words.specs.declared.phase.Phase.{Phase}
use Rattle.session_words.specs.declared.phase.Phase.TheVariants as row
use Rattle.session_words.specs.declared.phase.Standing.TheVariants as standing
use Rattle.session_words.specs.declared.plan.PostPlan.{PostPlan}
use Rattle.session_words.specs.declared.word.Ask.{Ask}
use Rattle.session_words.specs.declared.word.Ask.TheVariants as ask
use Rattle.session_words.specs.declared.word.Request.{Request}
use Rattle.session_words.specs.Amounts.{IsWrittenWatts}
use Rattle.session_timers.specs.declared.deadlines.Last.{Last}
use Rattle.session_timers.specs.declared.deadlines.Last.TheVariants as last_was
use Rattle.session_timers.specs.Due.{due_in}
use Rattle.session_timers.specs.Law.{span_of}
use Rattle.contactor.specs.Rights.{is_ready}
use Rattle.session_rules.specs.declared.stage.PreCharged.{PreCharged}
use Rattle.session_rules.specs.declared.stage.Stage.{Stage}
use Rattle.session_rules.specs.Deadlines.{timeout_of}
use Rattle.session_rules.specs.Delivery.{off_of}
use Rattle.session_rules.specs.Lines.{none_applies}
use Rattle.session_rules.specs.Moves.{stage_behind, facts_behind}
use Rattle.session_rules.specs.Orders.{order_of}
use Rattle.session_rules.specs.Offers.{p_max_of}
use Rattle.session_rules.specs.Stages.{is_set_up, is_waiting}
use Rattle.session_rules.specs.Verdict.{verdict, verdict_lines, is_accepted}

-- a request is accepted exactly where no line of the verdict applies
abbrev pub AcceptsWithoutLine : Type 0
AcceptsWithoutLine = (s : Stage) (facts : Facts) (plan : PostPlan) (r : Request)
    → is_accepted (verdict s facts plan r) ≡ none_applies (verdict_lines s facts plan r)

-- once a session is set up, only requests that name it are accepted
abbrev pub NamesItsSession : Type 0
NamesItsSession = (s : Stage) (facts : Facts) (plan : PostPlan) (r : Request)
    → is_accepted (verdict s facts plan r) ≡ true → is_set_up s.row ≡ true → r.session ≡ s.session

-- the codes that a dialect has
abbrev pub is_code_of : Dialect → Code → Bool
is_code_of dialect.Iso code.FailedEvsePresentVoltageToLow = false
is_code_of dialect.Iso code.FailedWrongEnergyTransferType = false
is_code_of dialect.Din code.FailedNoChargeServiceSelected = false
is_code_of dialect.Din code.FailedWrongEnergyTransferMode = false
is_code_of dialect.Din code.FailedContactorError = false
is_code_of dialect.Din code.FailedCertificateNotAllowedAtThisEvse = false
is_code_of dialect.Din code.FailedCertificateRevoked = false
is_code_of d other = true

abbrev pub AnswersInDialect : Type 0
AnswersInDialect = (s : Stage) (facts : Facts) (plan : PostPlan) (r : Request) → is_code_of s.dialect (verdict s facts plan r) ≡ true

-- a request that isn't accepted changes nothing and orders nothing
abbrev pub LeavesRefused : Type 0
LeavesRefused = (s : Stage) (facts : Facts) (plan : PostPlan) (r : Request) (shown : ℕ)
    → is_accepted (verdict s facts plan r) ≡ false
    → (stage_behind s facts plan r shown ≡ s) × (facts_behind s facts plan r ≡ facts) × (order_of s facts plan r shown ≡ None)

-- the last pre-charge came within 20.0 V of its target
abbrev pub IsNear : Option PreCharged → Type 0
IsNear None = ⊥
IsNear (Some p) = off_of p ≤ 200

-- PowerDelivery asks for the start of charging
abbrev pub IsStart : Ask → Type 0
IsStart (ask.PowerDelivery progress.Start tuple profile) = Unit {0}
IsStart other = ⊥

-- what holds where the contactor is ordered closed
pub record ClosesFor (s : Stage) (facts : Facts) (plan : PostPlan) (r : Request) : Type 0 where
  pub accepted : is_accepted (verdict s facts plan r) ≡ true
  pub start : IsStart r.ask
  pub in_row : (s.row ≡ row.DcPreCharging) ⊎ (s.row ≡ row.AcReady)
  pub pilot : is_ready facts.pilot ≡ true
  pub opened : facts.contactor ≡ standing.Opened
  pub near : s.row ≡ row.DcPreCharging → IsNear s.pre_charge

abbrev pub ClosesRight : Type 0
ClosesRight = (s : Stage) (facts : Facts) (plan : PostPlan) (r : Request) (shown : ℕ)
    → order_of s facts plan r shown ≡ Some order.Close → ClosesFor s facts plan r

-- a reply waits
abbrev pub is_closing : Last → Bool
is_closing (last_was.Closing at) = true
is_closing last_was.Nothing = false
is_closing (last_was.Replied at) = false

-- what the deadlines of a session in this row count from: Came; and behind SessionSetup the last reply, or the Close whose reply waits
pub record FitsRow (in_row : Phase) (came : ℕ) (last : Last) : Type 0 where
  pub waits : is_closing last ≡ is_waiting in_row
  pub replied : is_set_up in_row ≡ true → last ≢ last_was.Nothing

-- the deadline that runs is the one of the row
abbrev pub RunsByRow : Type 0
RunsByRow = (in_row : Phase) (came : ℕ) (last : Last) → FitsRow in_row came last
    → (from : ℕ) × (due_in (Some came) (is_set_up in_row) last
    ≡ Some (record { timeout = timeout_of in_row; moment = from + span_of (timeout_of in_row) }))

-- the PMax of a schedule is the number that its Value and Multiplier write, and never more than the watts that are shown
abbrev pub SpellsSchedule : Type 0
SpellsSchedule = (watts multiplier value : ℕ) → watts < 32768000 → IsWrittenWatts watts multiplier value
    → p_max_of dialect.Iso watts ≡ value * 10 ^ multiplier

abbrev pub SchedulesWithin : Type 0
SchedulesWithin = (d : Dialect) (watts : ℕ) → p_max_of d watts ≤ watts
