-- Own: how driving a car ends, and what its past and its trace are then.
use Rattle.std.specs.Prelude.{◌≡◌, ◌<◌, ℕ, Bool, true, false, not, ◌&&◌, List, ◌++◌, Some, MatchBool}
use Rattle.charge_world.specs.declared.entry.Entry.{Entry}
use Rattle.charge_world.specs.declared.entry.Entry.TheVariants as entry
use Rattle.charge_world.specs.declared.heard.Heard.{Heard}
use Rattle.session_words.specs.declared.plan.CarPlan.{CarPlan}
use Rattle.station_spec.specs.Blocks.{is_last, is_over, hearings}
use Rattle.endpoint.specs.Knowing.{newest}
use Rattle.end_turns.specs.declared.ending.Ended.{Ended as Stopped}
use Rattle.end_turns.specs.declared.ending.Ended.TheVariants as stopped
use Rattle.end_turns.specs.Ending as turns
use Rattle.end_turns.specs.Ending.{is_whole}
use Rattle.car_spec.specs.Acting.{state}
use Rattle.car_spec.specs.Codecs.{Codecs}
use Rattle.car_spec.specs.Next.{IsQuiet}
use Rattle.car_spec.specs.Report.{Report, cause, report}
use Rattle.car_spec.specs.Runs.{IsRun, Closes, IsEnded}
use Rattle.car_spec.specs.States.{State}
use Rattle.car_spec.specs.Steps.{Step}
use Rattle.car_spec.specs.Until.{untils}
use Rattle.car_turns.specs.declared.ending.Ended.{Ended}
use Rattle.car_turns.specs.declared.ending.Ended.TheVariants as ended

-- how driving ended, by the past: what was heard last, how often, and whether the car ended
abbrev pub EndedAs : ℕ → Ended → List Entry → Type 0
EndedAs turns ended.Over past = (heard : Heard) × (bytes : List ℕ) × (newest past ≡ Some (entry.Heard heard bytes)) × (is_over heard.what ≡ true)
EndedAs turns ended.Lost past = newest past ≡ Some entry.Lost
EndedAs turns ended.TraceFault past = Unit {0}
EndedAs turns ended.Turns past = (hearings past ≡ turns) × (is_last past ≡ false) × (cause past ≡ 0)
EndedAs turns ended.Finished past = (is_last past ≡ false) × (0 < cause past)

-- how the turns stopped: those of a car that ended go on no more
abbrev pub stopped_by : Ended → Stopped
stopped_by ended.Over = stopped.Over
stopped_by ended.Lost = stopped.Lost
stopped_by ended.TraceFault = stopped.TraceFault
stopped_by ended.Turns = stopped.Turns
stopped_by ended.Finished = stopped.Turns

-- and how driving ended by it, where the car had ended or hadn't
abbrev pub ended_by : Stopped → Bool → Ended
ended_by stopped.Over over = ended.Over
ended_by stopped.Lost over = ended.Lost
ended_by stopped.TraceFault over = ended.TraceFault
ended_by stopped.Turns true = ended.Finished
ended_by stopped.Turns false = ended.Turns

-- whether the order that closes a run is due: Open, where the contactor is live. A car that ended gave it already, unless its run is cut
abbrev pub opens_if : Bool → State → Bool
opens_if true s = s.live && not s.over
opens_if false s = s.live

abbrev pub ClosesAs : Ended → State → List Entry → List Entry → Type 0
ClosesAs how s = Closes (opens_if (is_whole (stopped_by how)) s)

-- the blocks are whole, but where a line couldn't be written
abbrev pub RestsAs : Ended → CarPlan → List Entry → State → Type 0
RestsAs how plan blocks s = MatchBool (is_whole (stopped_by how)) (IsQuiet plan s × IsEnded plan blocks s) (Unit {0})

-- The past of a car that was driven: the blocks of a run by these steps, and the order that closes it. Each hearing waited until the moment
-- that is due then, the newest first on those that the wire told before, and this is reported
pub record IsDriven (c : Codecs) (plan : CarPlan) (how : Ended) (before after : List ℕ) (told : Report) (past : List Entry) : Type 0 where
  pub blocks : List Entry
  pub steps : List Step
  pub run : IsRun c plan blocks steps
  pub closes : ClosesAs how (state plan steps) blocks past
  pub rests : RestsAs how plan blocks (state plan steps)
  pub untils_are : after ≡ untils plan steps ++ before
  pub report_is : told ≡ report steps past

-- the trace is the text of the past, but where a line of it couldn't be written
abbrev pub TracedAs : Ended → List Entry → List ℕ → Type 0
TracedAs how = turns.TracedAs (stopped_by how)

-- the trace's count of faults rose exactly where driving ended by it
abbrev pub AreFaults : ℕ → ℕ → Ended → Type 0
AreFaults before after how = turns.AreFaults before after (stopped_by how)
