-- ISO 15118-2:2014, section 8.4; DIN SPEC 70121:2014: the requests that a conforming car makes, one by one. They are said by what they
-- hold and by the row in which they come, and not by how they are judged.
use Rattle.std.specs.Prelude.{◌≡◌, ◌≤◌, ◌<◌, ℤ, pos, Bool, true, false, Option, Some, None}
use Rattle.std.specs.List.{AllByRecursion}
use Rattle.charge_world.specs.declared.heard.IsolationLevel.{IsolationLevel}
use Rattle.charge_world.specs.declared.heard.IsolationLevel.TheVariants as isolation
use Rattle.charge_world.specs.declared.offer.Dialect.{Dialect}
use Rattle.charge_world.specs.declared.offer.Dialect.TheVariants as dialect
use Rattle.session_words.specs.declared.amount.Amount.{Amount}
use Rattle.session_words.specs.declared.code.Progress.TheVariants as progress
use Rattle.session_words.specs.declared.facts.Facts.{Facts}
use Rattle.session_words.specs.declared.limits.CarLimits.{CarLimits}
use Rattle.session_words.specs.declared.limits.CarLimits.TheVariants as limits
use Rattle.session_words.specs.declared.mode.Mode.{Mode}
use Rattle.session_words.specs.declared.phase.Phase.TheVariants as row
use Rattle.session_words.specs.declared.phase.Standing.TheVariants as standing
use Rattle.session_words.specs.declared.plan.PostPlan.{PostPlan}
use Rattle.session_words.specs.declared.word.Ask.{Ask}
use Rattle.session_words.specs.declared.word.Ask.TheVariants as ask
use Rattle.session_words.specs.declared.word.Request.{Request}
use Rattle.session_words.specs.Amounts.{ac_watts_of}
use Rattle.session_words.specs.Modes.{phases_of}
use Rattle.contactor.specs.Rights.{is_ready}
use Rattle.session_rules.specs.declared.stage.Stage.{Stage}
use Rattle.session_rules.specs.Asks.{ask_of}
use Rattle.session_rules.specs.Finishing.{is_ac}
use Rattle.session_rules.specs.Laws.{IsNear}
use Rattle.session_rules.specs.Rows.{accepts}
use Rattle.session_rules.specs.Stages.{is_set_up}
use Rattle.session_rules.specs.Verdict.{is_stopped}

-- voltage and current in their units
pub record AreTargets (voltage current : Amount) : Type 0 where
  pub volts : voltage.right ≡ true
  pub amperes : current.right ≡ true

abbrev pub IsRightIfThere : Option Amount → Type 0
IsRightIfThere None = Unit {0}
IsRightIfThere (Some watts) = watts.right ≡ true

-- the parameters are of the post's kind and in their units, and the post can go as low as the car needs
pub record CanTakeAc (plan : PostPlan) (most least : Amount) : Type 0 where
  pub units : AreTargets most least
  pub within : ac_watts_of least.size plan.nominal (phases_of plan.mode) ≤ plan.max_watts

pub record CanTakeDc (plan : PostPlan) (voltage current : Amount) (watts : Option Amount) : Type 0 where
  pub units : AreTargets voltage current
  pub watts_unit : IsRightIfThere watts
  pub volts : plan.min_voltage ≤ voltage.size
  pub amperes : plan.min_current ≤ current.size

abbrev pub CanTake : PostPlan → Bool → CarLimits → Type 0
CanTake plan true (limits.Ac most_current least_current most_voltage) = CanTakeAc plan most_current least_current
CanTake plan true (limits.Dc ready soc current watts voltage) = ⊥
CanTake plan false (limits.Dc ready soc current watts voltage) = CanTakeDc plan voltage current watts
CanTake plan false (limits.Ac most_current least_current most_voltage) = ⊥

pub record AreParameters (plan : PostPlan) (mode : Mode) (car : CarLimits) : Type 0 where
  pub mode_is : mode ≡ plan.mode
  pub can_take : CanTake plan (is_ac plan.mode) car
  pub some_watts : 0 < ask_of plan car

-- the one tuple that is offered. DIN names it in a profile alone
abbrev pub NamesTheTuple : Dialect → Option ℤ → Type 0
NamesTheTuple dialect.Iso tuple = tuple ≡ Some (pos 1)
NamesTheTuple dialect.Din tuple = tuple ≡ None

-- PowerDelivery has no profile. At Start the car is ready, the contactor is open, and the pre-charge came near
pub record IsDelivery (s : Stage) (tuple : Option ℤ) (profile : Option Amount) : Type 0 where
  pub tuple_is : NamesTheTuple s.dialect tuple
  pub profile_is : profile ≡ None

pub record IsStart (s : Stage) (facts : Facts) (tuple : Option ℤ) (profile : Option Amount) : Type 0 where
  pub delivery : IsDelivery s tuple profile
  pub ready : is_ready facts.pilot ≡ true
  pub opened : facts.contactor ≡ standing.Opened
  pub near : s.row ≡ row.DcPreCharging → IsNear s.pre_charge

-- the isolation is valid, still monitored, or wasn't told yet
abbrev pub IsSound : Option IsolationLevel → Type 0
IsSound None = Unit {0}
IsSound (Some isolation.Invalid) = Unit {0}
IsSound (Some isolation.Valid) = Unit {0}
IsSound (Some isolation.Warning) = ⊥
IsSound (Some isolation.Fault) = ⊥
IsSound (Some isolation.NoImd) = ⊥

-- rows behind PowerDelivery Stop, in which a car may pause
abbrev pub MayPause : Stage → Type 0
MayPause s = is_stopped s.row ≡ true

-- what the request holds
abbrev pub IsMade : Stage → Facts → PostPlan → Ask → Type 0
IsMade s facts plan (ask.PaymentSelection external services) =
    (external ≡ true) × AllByRecursion (λ service. service ≡ 1) services.items
IsMade s facts plan (ask.ServiceDetail service) = service ≡ 1
IsMade s facts plan (ask.ChargeParameters mode car) = AreParameters plan mode car
IsMade s facts plan (ask.CableCheck ready soc) = (is_ready facts.pilot ≡ true) × IsSound facts.isolation
IsMade s facts plan (ask.PreCharge ready soc voltage current) =
    AreTargets voltage current × (voltage.size ≤ plan.max_voltage)
IsMade s facts plan (ask.CurrentDemand ready soc voltage current) = AreTargets voltage current
IsMade s facts plan (ask.PowerDelivery progress.Start tuple profile) = IsStart s facts tuple profile
IsMade s facts plan (ask.PowerDelivery progress.Stop tuple profile) = IsDelivery s tuple profile
IsMade s facts plan (ask.PowerDelivery progress.Renegotiate tuple profile) = IsDelivery s tuple profile
IsMade s facts plan (ask.SessionStop true) = MayPause s
IsMade s facts plan (ask.SessionStop false) = Unit {0}
IsMade s facts plan (ask.SessionSetup car) = Unit {0}
IsMade s facts plan ask.ServiceDiscovery = Unit {0}
IsMade s facts plan ask.Authorization = Unit {0}
IsMade s facts plan ask.ChargingStatus = Unit {0}
IsMade s facts plan (ask.WeldingDetection ready soc) = Unit {0}

-- a request in its row, that names its session, made so
pub record IsConforming (s : Stage) (facts : Facts) (plan : PostPlan) (r : Request) : Type 0 where
  pub in_row : accepts s.dialect s.row r.ask ≡ true
  pub named : is_set_up s.row ≡ true → r.session ≡ s.session
  pub made : IsMade s facts plan r.ask
