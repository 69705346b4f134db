-- Own: what a car reports, by what it keeps.
use Rattle.std.specs.Prelude.{◌≡◌, ◌<◌, ℕ, ◌==◌, if◌then◌else◌, Bool, true, false, List, Option, Some, None}
use Rattle.charge_world.specs.declared.entry.Entry.{Entry}
use Rattle.session_words.specs.declared.cause.EndCause.{EndCause}
use Rattle.session_words.specs.declared.session.SessionId.{SessionId}
use Rattle.session_words.specs.Causes.{number_of}
use Rattle.car_rules.specs.declared.stage.CarStage.{CarStage}
use Rattle.car_spec.specs.Report.{Report, cause, report}
use Rattle.car_spec.specs.States.{State}
use Rattle.car_spec.specs.Steps.{Step}
use Rattle.evcc_machine.specs.Views.{stage_in}

abbrev pub cycles_in : Option CarStage → ℕ
cycles_in None = 0
cycles_in (Some stage) = stage.cycles

abbrev pub session_in : Option CarStage → Option SessionId
session_in None = None
session_in (Some stage) = Some stage.session

-- a car that ends by this cause
abbrev pub report_by : EndCause → State → Report
report_by ending s = record {
  cycles = cycles_in (stage_in s.session);
  cause = number_of ending;
  session = if number_of ending == 29 then session_in (stage_in s.session) else None;
}

-- what was reported at the end, or how the car stands
abbrev pub reported : Option Report → State → Report
reported None s = record { cycles = cycles_in (stage_in s.session); cause = 0; session = None }
reported (Some told) s = told

-- a car that ended reported its past, any other nothing yet
abbrev pub Reports : Bool → Option Report → List Step → List Entry → Type 0
Reports false told steps past = (told ≡ None) × (cause past ≡ 0)
Reports true told steps past = (told ≡ Some (report steps past)) × (0 < cause past)
