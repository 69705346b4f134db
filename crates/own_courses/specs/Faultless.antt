-- IEC 61851-1 and IEC 61851-23; ISO 15118-2:2014, section 8.8: an audit finds no fault in a trace of a station's own whole run.
use Rattle.std.specs.Prelude.{ℕ, List}
use Rattle.charge_world.specs.declared.entry.Entry.{Entry}
use Rattle.session_words.specs.declared.plan.SitePlan.{SitePlan}
use Rattle.station_spec.specs.Runs.{IsSiteRun}
use Rattle.told_pasts.specs.Faults.{Fails}
use Rattle.told_pasts.specs.Spelling.{ToldCodecs}
use Rattle.own_traces.specs.Owning.{TellsOwn}
use Rattle.own_traces.specs.Weighing.{WeighsRightly}
use Rattle.own_courses.specs.Writing.{WritesRightly}

-- none of the ten checks fails at any line
abbrev pub FindsNoFault : ToldCodecs → Type 0
FindsNoFault c = (site : SitePlan) (past : List Entry) (line check : ℕ) → TellsOwn c → WeighsRightly c → WritesRightly c → IsSiteRun c.words site past → Fails c site past line check → ⊥
