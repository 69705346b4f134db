-- Own: what a text says as a calendar or as a need, and its first fault.
use Rattle.std.specs.Prelude.{ℕ, ◌+◌, List, [], ◌∷◌, ◌++◌, codes, decimal, Option, Some, None}
use Rattle.std.specs.List.{AllZip}
use Rattle.std.specs.Option.{option_or}
use Rattle.toml.specs.Data.{Members}
use Rattle.schedules.specs.declared.power.Step.{Step}
use Rattle.schedules.specs.declared.power.Calendar.{Calendar}
use Rattle.schedules.specs.declared.power.Need.{Need}
use Rattle.plan_keys.specs.declared.fault.PlanFault.{PlanFault}
use Rattle.plan_keys.specs.Keys.{value_at, fresh, ask, Rules, ask_all, Holds}
use Rattle.plan_keys.specs.Faults.{told_at, unknown_at, each_fault, text_says, told, IsPlanOf}
use Rattle.plan_files.specs.FileTexts.{Told}
use Rattle.charging_files.specs.ScheduleKeys.{entry_tables, start_rule, entry_rules, need_rules}

-- what an entry says, wherever it stands
abbrev pub entry_file : Rules Step
entry_file = entry_rules None

-- the fault of the entry with this number behind one with that start: of its first key that is wrong, and of its least unknown one
abbrev pub entry_place : ℕ → List ℕ
entry_place number = codes "entry." ++ decimal number ++ codes "."

abbrev pub entry_wrong : Option ℕ → ℕ → Members → Option PlanFault
entry_wrong before number table = told_at (entry_place number) (ask_all (entry_rules before) (fresh table)).found

abbrev pub entry_unknown : ℕ → Members → Option PlanFault
entry_unknown number table = unknown_at (entry_place number) (ask_all entry_file (fresh table))

-- the first fault of the entries behind one with that start, the first of which has this number
abbrev pub entries_wrong : Option ℕ → ℕ → List Members → Option PlanFault
entries_wrong before number [] = None
entries_wrong before number (table ∷ rest) =
    option_or (entry_wrong before number table) (entries_wrong (Some (value_at start_rule table)) (number + 1) rest)

-- a calendar has an entry for each table of its list
pub record IsCalendarIn (table : Members) (calendar : Calendar) : Type 0 where
  pub entries : AllZip (Holds entry_file) (value_at entry_tables table) calendar.entries.items

-- its first fault: that of its list, of its entries one after another, of its least unknown key, and of those of its entries
abbrev pub calendar_fault : Members → Option PlanFault
calendar_fault table =
    let asked = ask entry_tables (fresh table) in
    let entries = value_at entry_tables table in
    option_or (told_at [] asked.found) (option_or (entries_wrong None 1 entries)
    (option_or (unknown_at [] asked) (each_fault entry_unknown 1 entries)))

-- a need has what the keys of its table say, and its first fault
pub record IsNeedIn (table : Members) (need : Need) : Type 0 where
  pub keys : Holds need_rules table need

abbrev pub need_fault : Members → Option PlanFault
need_fault table = let asked = ask_all need_rules (fresh table) in option_or (told_at [] asked.found) (unknown_at [] asked)

-- of texts
abbrev pub IsCalendarOf : List ℕ → Calendar → Type 0
IsCalendarOf text calendar = IsPlanOf calendar_fault IsCalendarIn text calendar

abbrev pub IsNeedOf : List ℕ → Need → Type 0
IsNeedOf text need = IsPlanOf need_fault IsNeedIn text need

abbrev pub calendar_told : List ℕ → Option PlanFault
calendar_told text = told calendar_fault (text_says text)

abbrev pub need_told : List ℕ → Option PlanFault
need_told text = told need_fault (text_says text)

-- of the text of a file, where the source tells it
abbrev pub IsCalendarInFile : Option (List ℕ) → Option (List ℕ) → Calendar → Type 0
IsCalendarInFile left text calendar = Told left text (λ t. IsCalendarOf t calendar)

abbrev pub IsNeedInFile : Option (List ℕ) → Option (List ℕ) → Need → Type 0
IsNeedInFile left text need = Told left text (λ t. IsNeedOf t need)
