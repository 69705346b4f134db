-- ISO 15118-2:2014, 8.8.4 (the sequence of requests); DIN SPEC 70121:2014; IEC 61851-23: what the two ends of a session keep that go together, as
-- the car is about to ask.
use Rattle.std.specs.Prelude.{◌≡◌, Bool, true, false, if◌then◌else◌, Option, ◌⊎◌}
use Rattle.session_words.specs.declared.phase.Phase.{Phase}
use Rattle.session_words.specs.declared.phase.Phase.TheVariants as row
use Rattle.session_words.specs.declared.phase.Standing.TheVariants as standing
use Rattle.session_words.specs.declared.plan.CarPlan.{CarPlan}
use Rattle.session_words.specs.declared.plan.PostPlan.{PostPlan}
use Rattle.session_words.specs.declared.session.SessionId.{SessionId}
use Rattle.session_words.specs.Plans.{IsPostPlan, IsCarPlan}
use Rattle.contactor.specs.Rights.{is_ready}
use Rattle.session_rules.specs.declared.stage.PreCharged.{PreCharged}
use Rattle.session_rules.specs.Finishing.{is_ac}
use Rattle.session_rules.specs.Laws.{IsNear}
use Rattle.car_rules.specs.declared.stage.CarPhase.{CarPhase}
use Rattle.car_rules.specs.declared.stage.CarPhase.TheVariants as phase
use Rattle.conforming_runs.specs.Requests.{IsSound}
use Rattle.pipe_spec.specs.Histories.{ported}
use Rattle.pipe_spec.specs.Matched.{IsMatched}
use Rattle.pair_words.specs.Exchanges.{Both, Outside}

-- plans that match, each within its rules; a car that is joined to a station needs no port
pub record ArePaired (post : PostPlan) (plan : CarPlan) : Type 0 where
  pub matched : IsMatched post plan
  pub of_post : IsPostPlan post
  pub of_car : IsCarPlan (ported plan)

-- rows in alternating current, or in direct current
abbrev pub power_row : Bool → Phase → Phase → Phase
power_row ac alternating direct = if ac then alternating else direct

-- the row of the post in which it takes what the car asks in this phase
abbrev pub IsRowFor : Bool → CarPhase → Phase → Type 0
IsRowFor ac phase.SettingUp in_row = in_row ≡ row.Negotiated
IsRowFor ac phase.Discovering in_row = in_row ≡ row.SetUp
IsRowFor ac phase.Selecting in_row = in_row ≡ row.Discovered
IsRowFor ac phase.Authorizing in_row = in_row ≡ row.Selected
IsRowFor ac phase.Asking in_row = in_row ≡ row.Authorized
IsRowFor ac phase.CableChecking in_row = (ac ≡ false) × (in_row ≡ row.DcReady)
IsRowFor ac phase.PreCharging in_row = (ac ≡ false) × ((in_row ≡ row.DcChecked) ⊎ (in_row ≡ row.DcPreCharging))
IsRowFor ac phase.Starting in_row = in_row ≡ power_row ac row.AcReady row.DcPreCharging
IsRowFor ac phase.Charging in_row = in_row ≡ power_row ac row.AcCharging row.DcCharging
IsRowFor ac phase.Stopping in_row = in_row ≡ power_row ac row.AcCharging row.DcCharging
IsRowFor ac phase.Renegotiating in_row = ⊥
IsRowFor ac (phase.Welding left) in_row = (ac ≡ false) × (in_row ≡ row.DcStopped)
IsRowFor ac phase.Ending in_row = in_row ≡ power_row ac row.AcStopped row.DcStopped

-- behind SessionSetup both have one identifier
abbrev pub IsNamedAlike : CarPhase → SessionId → SessionId → Type 0
IsNamedAlike phase.SettingUp own given = Unit {0}
IsNamedAlike other own given = own ≡ given

-- in direct current the pre-charge came near its target before PowerDelivery Start
abbrev pub IsNearFor : CarPhase → Bool → Option PreCharged → Type 0
IsNearFor phase.Starting false pre_charge = IsNear pre_charge
IsNearFor other ac pre_charge = Unit {0}

pub record Meets (post : PostPlan) (b : Both) : Type 0 where
  pub dialect : b.post.dialect ≡ b.car.dialect
  pub in_row : IsRowFor (is_ac post.mode) b.car.phase b.post.row
  pub named : IsNamedAlike b.car.phase b.car.session b.post.session
  pub near : IsNearFor b.car.phase (is_ac post.mode) b.post.pre_charge

-- what the charger told suits the request: the car is ready and nothing is wrong with the isolation at CableCheck, the car is ready and the
-- contactor open at PowerDelivery Start, and nobody asks for a renegotiation
abbrev pub Suits : CarPhase → Outside → Type 0
Suits phase.CableChecking x = (is_ready x.facts.pilot ≡ true) × IsSound x.facts.isolation
Suits phase.Starting x = (is_ready x.facts.pilot ≡ true) × (x.facts.contactor ≡ standing.Opened)
Suits phase.Charging x = x.facts.renew ≡ false
Suits other x = Unit {0}
