-- Own: what a text says as the plan of a station or of a car, its first fault, and the plans without a file.
use Rattle.std.specs.Prelude.{◌≡◌, ℕ, Bool, true, false, List, [], ◌∷◌, ◌++◌, codes, decimal, Option, Some, None}
use Rattle.std.specs.List.{AllZip}
use Rattle.std.specs.Option.{option_or}
use Rattle.toml.specs.Data.{Members, no_members}
use Rattle.session_words.specs.declared.mode.Mode.{Mode}
use Rattle.session_words.specs.declared.mode.Mode.TheVariants.{AcThreePhaseCore, DcExtended}
use Rattle.session_words.specs.declared.plan.PostPlan.{PostPlan}
use Rattle.session_words.specs.declared.plan.SitePlan.{SitePlan}
use Rattle.session_words.specs.declared.plan.CarPlan.{CarPlan}
use Rattle.plan_keys.specs.declared.fault.PlanFault.{PlanFault}
use Rattle.plan_keys.specs.Keys.{value_at, fresh, ask, Rules, ask_all, Holds}
use Rattle.plan_keys.specs.Faults.{told_at, unknown_at, each_fault, text_says, told, IsPlanOf}
use Rattle.site_plan.specs.Keys.{limit_rules, post_tables, post_rules, car_rules}

-- the plan of a post in a file
abbrev pub post_file : Rules PostPlan
post_file = post_rules None DcExtended

-- the fault of the post with this number: of its first key that is wrong, and of its least unknown one
abbrev pub post_place : ℕ → List ℕ
post_place number = codes "post." ++ decimal number ++ codes "."

abbrev pub post_wrong : ℕ → Members → Option PlanFault
post_wrong number table = told_at (post_place number) (ask_all post_file (fresh table)).found

abbrev pub post_unknown : ℕ → Members → Option PlanFault
post_unknown number table = unknown_at (post_place number) (ask_all post_file (fresh table))

-- the plan of a station has what the keys of its table say, and a post for each table of its list
pub record IsSiteOf (table : Members) (site : SitePlan) : Type 0 where
  pub keys : Holds limit_rules table site
  pub posts : AllZip (Holds post_file) (value_at post_tables table) site.post.items

-- its first fault: that of its keys, of its posts one after another, of its least unknown key, and of those of its posts
abbrev pub site_fault : Members → Option PlanFault
site_fault table =
    let asked = ask post_tables (ask_all limit_rules (fresh table)) in
    let posts = value_at post_tables table in
    option_or (told_at [] asked.found) (option_or (each_fault post_wrong 1 posts)
    (option_or (unknown_at [] asked) (each_fault post_unknown 1 posts)))

-- the plan of a car in a file has what the keys of its table say, and its first fault
abbrev pub car_file : Rules CarPlan
car_file = car_rules None DcExtended

pub record IsCarOf (table : Members) (car : CarPlan) : Type 0 where
  pub keys : Holds car_file table car

abbrev pub car_fault : Members → Option PlanFault
car_fault table = let asked = ask_all car_file (fresh table) in option_or (told_at [] asked.found) (unknown_at [] asked)

-- of texts
abbrev pub IsSitePlanOf : List ℕ → SitePlan → Type 0
IsSitePlanOf text site = IsPlanOf site_fault IsSiteOf text site

abbrev pub IsCarPlanOf : List ℕ → CarPlan → Type 0
IsCarPlanOf text car = IsPlanOf car_fault IsCarOf text car

abbrev pub site_told : List ℕ → Option PlanFault
site_told text = told site_fault (text_says text)

abbrev pub car_told : List ℕ → Option PlanFault
car_told text = told car_fault (text_says text)

-- ---- without a file

-- three phases of alternating current in ISO alone, or direct current in both dialects
abbrev pub fixed_mode : Bool → Mode
fixed_mode true = AcThreePhaseCore
fixed_mode false = DcExtended

-- the plans by the defaults of their keys, with the port 15120 and that mode
pub record IsFixedSite (ac : Bool) (site : SitePlan) : Type 0 where
  pub limits : Holds limit_rules no_members site
  pub post : PostPlan
  pub alone : site.post.items ≡ post ∷ []
  pub keys : Holds (post_rules (Some 15120) (fixed_mode ac)) no_members post

abbrev pub IsFixedCar : Bool → CarPlan → Type 0
IsFixedCar ac car = Holds (car_rules (Some 15120) (fixed_mode ac)) no_members car

-- the same plans as texts
abbrev pub mode_text : Bool → List ℕ
mode_text true = codes "mode = \"AC_three_phase_core\"\n"
mode_text false = []

abbrev pub site_text : Bool → List ℕ
site_text ac = codes "[[post]]\ntcp = 15120\n" ++ mode_text ac

abbrev pub car_text : Bool → List ℕ
car_text ac = codes "tcp = 15120\n" ++ mode_text ac
