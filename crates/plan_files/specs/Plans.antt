-- Own: the plan of a station, or of a car, in a file.
use Rattle.std.specs.Prelude.{◌≡◌, ◌⊎◌, ℕ, List, Option, Some}
use Rattle.plan_keys.specs.declared.fault.PlanFault.{PlanFault}
use Rattle.plan_keys.specs.declared.fault.PlanFault.TheVariants.{Memory}
use Rattle.site_plan.specs.Plans.{IsSitePlanOf, IsCarPlanOf, site_told, car_told}
use Rattle.session_words.specs.declared.plan.CarPlan.{CarPlan}
use Rattle.session_words.specs.declared.plan.SitePlan.{SitePlan}
use Rattle.plan_files.specs.FileTexts.{Told}
use Rattle.plan_files.specs.declared.plans.PlanFileFault.{PlanFileFault}
use Rattle.plan_files.specs.declared.plans.PlanFileFault.TheVariants.{Unread, Refused}

-- the plan of the text of a file
abbrev pub IsSitePlanIn : Option (List ℕ) → Option (List ℕ) → SitePlan → Type 0
IsSitePlanIn left text plan = Told left text (λ t. IsSitePlanOf t plan)

abbrev pub IsCarPlanIn : Option (List ℕ) → Option (List ℕ) → CarPlan → Type 0
IsCarPlanIn left text plan = Told left text (λ t. IsCarPlanOf t plan)

-- the fault of the text of a file is its first, which `first` tells, or memory ran out
abbrev pub IsFaultBy : (List ℕ → Option PlanFault) → Option (List ℕ) → Option (List ℕ) → PlanFileFault → Type 0
IsFaultBy first left text Unread = Unit {0}
IsFaultBy first left text (Refused fault) = (fault ≡ Memory) ⊎ Told left text (λ t. first t ≡ Some fault)

abbrev pub IsFileFault : Option (List ℕ) → Option (List ℕ) → PlanFileFault → Type 0
IsFileFault left text fault = IsFaultBy site_told left text fault

abbrev pub IsCarFileFault : Option (List ℕ) → Option (List ℕ) → PlanFileFault → Type 0
IsCarFileFault left text fault = IsFaultBy car_told left text fault
