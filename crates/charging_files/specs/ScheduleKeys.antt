-- Own: the keys of a calendar, of its entries and of a need in the order in which they are judged, each with its rule and its field.
-- Seconds, watts and watt-hours.
use Rattle.std.specs.Prelude.{ℕ, ◌==◌, ◌≤◌, nat_lt, Bool, List, codes, if◌then◌else◌, Option, Some, None, Ok, Err}
use Rattle.toml.specs.Data.{Members}
use Rattle.schedules.specs.declared.power.Step.{Step}
use Rattle.schedules.specs.declared.power.Need.{Need}
use Rattle.plan_keys.specs.declared.forms.Wrong.TheVariants.{BadValue}
use Rattle.plan_keys.specs.Keys.{Rule, rule_of, number, tables, Rules, done, given, judged, key, ◌⊳◌}

-- ---- a calendar

abbrev pub entry_tables : Rule (List Members)
entry_tables = tables (codes "entry") 1 24

abbrev pub start_rule : Rule ℕ
start_rule = number (codes "start") 0 86399 None

-- the first entry starts at 0, and each other one behind the start of the entry before
abbrev pub follows : Option ℕ → ℕ → Bool
follows None start = start == 0
follows (Some before) start = nat_lt before start

-- so this start, where there is one, has to follow
abbrev pub rising : Option ℕ → ℕ → Rule ℕ
rising before start =
    rule_of (codes "start") (λ _. if follows before start then Ok start else Err BadValue)
    (codes "0 in the first entry, and more than in the entry before in each other") (Some start) start

-- an entry behind one with that start
abbrev pub entry_rules : Option ℕ → Rules Step
entry_rules before =
    given start_rule (λ s. s.start) (λ start.
    judged (rising before start)
    ⊳ key (number (codes "watts") 0 8000000 None) (λ s. s.watts)
    ⊳ done)

pub record IsEntry (s : Step) : Type 0 where
  pub start : s.start ≤ 86399
  pub watts : s.watts ≤ 8000000

-- ---- a need

abbrev pub need_rules : Rules Need
need_rules =
    key (number (codes "energy") 0 1000000 None) (λ n. n.energy)
    ⊳ key (number (codes "departure") 1 86400 None) (λ n. n.departure)
    ⊳ key (number (codes "max_watts") 1 1000000 None) (λ n. n.max_watts)
    ⊳ done

-- what a car may need
pub record IsNeed (n : Need) : Type 0 where
  pub energy : n.energy ≤ 1000000
  pub departs : 1 ≤ n.departure
  pub day : n.departure ≤ 86400
  pub some_watts : 1 ≤ n.max_watts
  pub most_watts : n.max_watts ≤ 1000000
