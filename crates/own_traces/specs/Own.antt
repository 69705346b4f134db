-- IEC 61851-1 and IEC 61851-23; ISO 15118-2:2014, section 8.8: a trace of a station's own whole run passes the checks of foreign traces.
use Rattle.std.specs.Prelude.{ℕ, List}
use Rattle.charge_world.specs.declared.entry.Entry.{Entry}
use Rattle.session_words.specs.declared.plan.SitePlan.{SitePlan}
use Rattle.station_spec.specs.Runs.{IsSiteRun}
use Rattle.told_pasts.specs.Faults.{Fails}
use Rattle.told_pasts.specs.Spelling.{ToldCodecs}

-- a check fails at no line of a whole run
abbrev pub Passes : ToldCodecs → ℕ → Type 0
Passes c check = (site : SitePlan) (past : List Entry) (line : ℕ) → IsSiteRun c.words site past → Fails c site past line check → ⊥
