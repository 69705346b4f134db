-- Own: one value alone, and what a list of watts adds to those that are kept.
use Rattle.std.specs.Prelude.{ℕ, List, [], ◌++◌, Option, None}
use Rattle.charge_world.specs.declared.offer.Dialect.{Dialect}
use Rattle.session_words.specs.declared.plan.PostPlan.{PostPlan}
use Rattle.told_pasts.specs.Spelling.{Written, SpelledWatts}
use Rattle.audit_watts.specs.declared.values.WattValues.{WattValues}
use Rattle.audit_watts.specs.Values.{AreOf}

-- EVSEMaximumPowerLimit alone, if it is there
abbrev pub power_alone : Option Written → SpelledWatts
power_alone power = record { power = power; current = None; p_max = [] }

-- EVSEMaxCurrent alone, if it is there
abbrev pub current_alone : Option Written → SpelledWatts
current_alone current = record { power = None; current = current; p_max = [] }

-- each PMax of a list is kept besides, in front of those that were kept before
abbrev pub AreAdded : Dialect → ℕ → List Written → WattValues → WattValues → Type 0
AreAdded spoken told ws before behind =
    (plan : PostPlan) (s : SpelledWatts) → AreOf plan spoken told s before → AreOf plan spoken told (record s { p_max = ws ++ s.p_max }) behind
