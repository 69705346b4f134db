-- Own: how the turns of an end stop, and what its past and its trace are then.
use Rattle.std.specs.Prelude.{◌≡◌, ◌<◌, ◌≤◌, ◌↔◌, ℕ, Bool, true, false, List, ◌++◌, Some, ◌⊎◌, MatchBool}
use Rattle.charge_world.specs.declared.entry.Entry.{Entry}
use Rattle.charge_world.specs.declared.entry.Entry.TheVariants as entry
use Rattle.charge_world.specs.declared.heard.Heard.{Heard}
use Rattle.trace_text.specs.Pasts.{trace_text}
use Rattle.station_spec.specs.Blocks.{is_last, is_over, hearings}
use Rattle.endpoint.specs.Knowing.{Known, newest}
use Rattle.endpoint.specs.Telling.{HasClosing, IsCutFirst, IsCutText}
use Rattle.end_turns.specs.declared.ending.Ended.{Ended}
use Rattle.end_turns.specs.declared.ending.Ended.TheVariants as ended

-- each line of the trace was written
abbrev pub is_whole : Ended → Bool
is_whole ended.Over = true
is_whole ended.Lost = true
is_whole ended.TraceFault = false
is_whole ended.Turns = true

-- by the past: what was heard last, and how often, where the end isn't over
abbrev pub EndedAs : ℕ → Bool → Ended → List Entry → Type 0
EndedAs turns over ended.Over past = (heard : Heard) × (bytes : List ℕ) × (newest past ≡ Some (entry.Heard heard bytes)) × (is_over heard.what ≡ true)
EndedAs turns over ended.Lost past = newest past ≡ Some entry.Lost
EndedAs turns over ended.TraceFault past = Unit {0}
EndedAs turns over ended.Turns past = (over ≡ false → hearings past ≡ turns) × (is_last past ≡ false)

-- The past of an end behind its turns: the blocks of a run, and the orders that close it. At the end of a whole run it rests. `after` are the
-- moments until when the wire waited, the newest first, of which `before` were there before the turns
pub record HasRun (Runs : Known → List Entry → Type 0) (Closes : Bool → List Entry → List Entry → Type 0) (Rests : Type 0) (turns : ℕ) (over : Bool) (how : Ended) (before after : List ℕ) (past : List Entry) : Type 0 where
  pub known : Known
  pub blocks : List Entry
  pub run : Runs known blocks
  pub closes : Closes (is_whole how) blocks past
  pub orders : HasClosing blocks past
  pub rests : MatchBool (is_whole how) Rests (Unit {0})
  pub ended : EndedAs turns over how blocks
  pub untils_are : after ≡ known.untils ++ before

-- the trace is the text of the past, but where a line of it couldn't be written
abbrev pub TracedAs : Ended → List Entry → List ℕ → Type 0
TracedAs ended.Over past text = text ≡ trace_text past
TracedAs ended.Lost past text = text ≡ trace_text past
TracedAs ended.TraceFault past text = IsCutFirst past text ⊎ IsCutText past text
TracedAs ended.Turns past text = text ≡ trace_text past

-- the trace's count of faults rose exactly where the turns ended by it
pub record AreFaults (before after : ℕ) (how : Ended) : Type 0 where
  pub later : before ≤ after
  pub risen : (how ≡ ended.TraceFault) ↔ (before < after)
