-- ISO 15118-2:2014, section 8.8: no check of foreign traces fails of a station's own whole run.
use Rattle.std.specs.Prelude.{ℕ, List}
use Rattle.charge_world.specs.declared.entry.Entry.{Entry}
use Rattle.session_words.specs.declared.plan.SitePlan.{SitePlan}
use Rattle.station_spec.specs.Runs.{IsSiteRun}
use Rattle.told_pasts.specs.Faults.{Fails}
use Rattle.told_pasts.specs.Spelling.{ToldCodecs}

-- at no line any
abbrev pub HasNoFault : ToldCodecs → Type 0
HasNoFault c = (site : SitePlan) (past : List Entry) (line check : ℕ) → IsSiteRun c.words site past → Fails c site past line check → ⊥
