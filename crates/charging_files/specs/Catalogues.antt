-- Own: what a text says as a catalogue, and its first fault.
use Rattle.std.specs.Prelude.{◌≡◌, ℕ, ◌==◌, List, [], ◌++◌, map, codes, decimal, Option, Some}
use Rattle.std.specs.List.{find}
use Rattle.std.specs.Option.{option_or}
use Rattle.std.specs.Str.{chars}
use Rattle.toml.specs.Data.{Members}
use Rattle.service_spec.specs.Services.{Said, SaidSet, said_set_of}
use Rattle.service_spec.specs.declared.Service.{Service}
use Rattle.plan_keys.specs.declared.fault.PlanFault.{PlanFault}
use Rattle.plan_keys.specs.Keys.{Rules, value_at, fresh, ask, ask_all}
use Rattle.plan_keys.specs.Faults.{told_at, unknown_at, each_fault, text_says, told, IsPlanOf}
use Rattle.charging_files.specs.CatalogueKeys.{name_rule, value_rule, parameter_rules, set_id_rule, parameter_tables, set_rules, service_id_rule, set_tables, service_rules, service_tables}

-- ---- what is said

abbrev pub parameter_in : Members → Said
parameter_in table = record { name = chars (value_at name_rule table); content = Some (value_at value_rule table) }

abbrev pub set_in : Members → SaidSet
set_in table = record { id = value_at set_id_rule table; parameters = map parameter_in (value_at parameter_tables table) }

pub record SaidService : Type 0 where
  pub id : ℕ
  pub sets : List SaidSet

abbrev pub said_service_of : Service → SaidService
said_service_of s = record { id = s.id; sets = map said_set_of s.sets.items }

abbrev pub service_in : Members → SaidService
service_in table = record { id = value_at service_id_rule table; sets = map set_in (value_at set_tables table) }

abbrev pub services_in : Members → List SaidService
services_in table = map service_in (value_at service_tables table)

-- the first of an identifier
abbrev pub first_of : ℕ → List SaidService → Option SaidService
first_of id services = find (λ s. s.id == id) services

-- ---- the first fault

-- the place of a table of a list
abbrev pub place : List ℕ → List ℕ → ℕ → List ℕ
place before name number = before ++ (name ++ (decimal number ++ codes "."))

abbrev pub parameter_place : List ℕ → ℕ → List ℕ
parameter_place before number = place before (codes "param.") number

abbrev pub set_place : List ℕ → ℕ → List ℕ
set_place before number = place before (codes "set.") number

abbrev pub service_place : ℕ → List ℕ
service_place number = place [] (codes "service.") number

-- of the first key of a table that is wrong
abbrev pub wrong_at : {P : Type 0} → List ℕ → Rules P → Members → Option PlanFault
wrong_at at rules table = told_at at (ask_all rules (fresh table)).found

-- of its least unknown key
abbrev pub strange_at : {P : Type 0} → List ℕ → Rules P → Members → Option PlanFault
strange_at at rules table = unknown_at at (ask_all rules (fresh table))

-- of a set behind this place, or its parameters
abbrev pub parameter_wrong : List ℕ → ℕ → Members → Option PlanFault
parameter_wrong before number table = wrong_at (parameter_place before number) parameter_rules table

abbrev pub set_wrong : List ℕ → ℕ → Members → Option PlanFault
set_wrong before number table =
    option_or (wrong_at (set_place before number) set_rules table)
    (each_fault (parameter_wrong (set_place before number)) 1 (value_at parameter_tables table))

abbrev pub service_wrong : ℕ → Members → Option PlanFault
service_wrong number table =
    option_or (wrong_at (service_place number) service_rules table)
    (each_fault (set_wrong (service_place number)) 1 (value_at set_tables table))

abbrev pub parameter_strange : List ℕ → ℕ → Members → Option PlanFault
parameter_strange before number table = strange_at (parameter_place before number) parameter_rules table

abbrev pub set_strange : List ℕ → ℕ → Members → Option PlanFault
set_strange before number table =
    option_or (strange_at (set_place before number) set_rules table)
    (each_fault (parameter_strange (set_place before number)) 1 (value_at parameter_tables table))

abbrev pub service_strange : ℕ → Members → Option PlanFault
service_strange number table =
    option_or (strange_at (service_place number) service_rules table)
    (each_fault (set_strange (service_place number)) 1 (value_at set_tables table))

-- of the list of services, of each service with its sets and their parameters, one after another, of the least unknown key, and of those of
-- the services
abbrev pub catalogue_fault : Members → Option PlanFault
catalogue_fault table =
    let asked = ask service_tables (fresh table) in
    let services = value_at service_tables table in
    option_or (told_at [] asked.found) (option_or (each_fault service_wrong 1 services)
    (option_or (unknown_at [] asked) (each_fault service_strange 1 services)))

-- of a text
abbrev pub catalogue_told : List ℕ → Option PlanFault
catalogue_told text = told catalogue_fault (text_says text)

-- the services of a text in which nothing is told
abbrev pub AreServicesOf : List ℕ → List SaidService → Type 0
AreServicesOf text services = IsPlanOf catalogue_fault (λ table said. said ≡ services_in table) text services
