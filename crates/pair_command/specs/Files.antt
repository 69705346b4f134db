-- Own: two files: the plan of a station, and that of a car.
use Rattle.std.specs.Prelude.{◌≡◌, ◌⊎◌, ℕ, List, Option, Some, IsSomeAnd}
use Rattle.session_words.specs.declared.plan.CarPlan.{CarPlan}
use Rattle.session_words.specs.declared.plan.SitePlan.{SitePlan}
use Rattle.plan_keys.specs.declared.fault.PlanFault.{PlanFault}
use Rattle.plan_keys.specs.declared.fault.PlanFault.TheVariants as plan_fault
use Rattle.site_plan.specs.Plans.{IsCarPlanOf, IsSitePlanOf, car_told, site_told}
use Rattle.plan_files.specs.declared.plans.PlanFileFault.{PlanFileFault}
use Rattle.plan_files.specs.declared.plans.PlanFileFault.TheVariants.{Unread, Refused}
use Rattle.command_status.specs.Told.{OfText}
use Rattle.charging_files.specs.FileLines.{IsRefusedBy}

-- what a source tells of them: their texts, and its count of faults, which went from n to m
pub record PlansTold : Type 0 where
  pub station : Option (List ℕ)
  pub car : Option (List ℕ)
  pub n : ℕ
  pub m : ℕ

abbrev pub plans_told : Option (List ℕ) → Option (List ℕ) → ℕ → ℕ → PlansTold
plans_told station car n m = record { station = station; car = car; n = n; m = m }

-- the first file is this plan of a station, and the second this plan of a car
pub record ArePlans (tells : Type 0) (files : PlansTold) (site : SitePlan) (plan : CarPlan) : Type 0 where
  pub site_is : OfText tells files.station (λ text. IsSitePlanOf text site)
  pub plan_is : OfText tells files.car (λ text. IsCarPlanOf text plan)

-- the first file is a plan, and this is the first fault of the second
pub record IsCarFault (tells : Type 0) (files : PlansTold) (fault : PlanFault) : Type 0 where
  pub site : SitePlan
  pub site_is : OfText tells files.station (λ text. IsSitePlanOf text site)
  pub first : OfText tells files.car (λ text. car_told text ≡ Some fault)

-- what is wrong with them. Want of memory comes freely
abbrev pub HasFault : Type 0 → PlansTold → PlanFileFault → Type 0
HasFault tells files Unread = Unit {0}
HasFault tells files (Refused fault) =
    (fault ≡ plan_fault.Memory) ⊎ OfText tells files.station (λ text. site_told text ≡ Some fault) ⊎ IsCarFault tells files fault

-- what is told where the first has this fault: the second is read before that is judged
abbrev pub IsBehind : PlanFault → PlanFileFault → Type 0
IsBehind fault Unread = Unit {0}
IsBehind fault (Refused told) = (told ≡ plan_fault.Memory) ⊎ (told ≡ fault)

-- ---- by their texts

-- the texts of the files are these plans
pub record ArePlanTexts (files : PlansTold) (site : SitePlan) (plan : CarPlan) : Type 0 where
  pub site_is : IsSomeAnd files.station (λ text. IsSitePlanOf text site)
  pub plan_is : IsSomeAnd files.car (λ text. IsCarPlanOf text plan)

-- that of the first is a plan, and that of the second is refused at this key
pub record IsCarRefused (files : PlansTold) (key : List ℕ) : Type 0 where
  pub site : SitePlan
  pub site_is : IsSomeAnd files.station (λ text. IsSitePlanOf text site)
  pub refused : IsSomeAnd files.car (λ text. IsRefusedBy car_told text key)

-- one of them is refused at this key, or by `toml`: the first, or the second where the first is a plan
abbrev pub IsRefusedAt : PlansTold → List ℕ → Type 0
IsRefusedAt files key = IsSomeAnd files.station (λ text. IsRefusedBy site_told text key) ⊎ IsCarRefused files key
