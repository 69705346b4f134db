-- Own: what holds between the turns of an end, and where its turns stop.
use Rattle.std.specs.Prelude.{◌≡◌, ℕ, Bool, false, List, ◌∷◌, ◌++◌, Option, Some, None, Result, Ok, Err, ◌⊎◌}
use Rattle.charge_world.specs.declared.entry.Entry.{Entry}
use Rattle.charge_world.specs.declared.entry.Entry.TheVariants as entry
use Rattle.charge_world.specs.declared.heard.Heard.{Heard}
use Rattle.endpoint.specs.declared.hearing.SoFar.{SoFar}
use Rattle.endpoint.specs.Knowing.{Known}
use Rattle.endpoint.specs.Telling.{IsTraced, IsCutText}
use Rattle.end_turns.specs.declared.ending.Ended.{Ended}
use Rattle.end_turns.specs.declared.ending.Ended.TheVariants as ended
use Rattle.end_turns.specs.declared.ending.Last.{Last}
use Rattle.end_turns.specs.Ending.{EndedAs}
use Rattle.end_turns.specs.Lasts.{ended_by, ended_so}

-- this was heard next, which the end doesn't know yet
pub record Hears (Run : List Entry → Type 0) (heard : Heard) (bytes : List ℕ) (past : List Entry) : Type 0 where
  pub earlier : List Entry
  pub past_is : past ≡ entry.Heard heard bytes ∷ earlier
  pub run : Run earlier

-- a next hearing may come. `waited` are the moments that the wire waited for, of which `before` were there before the turns
pub record Waits (Runs : Known → List Entry → Type 0) (so_far : SoFar) (waited before : List ℕ) (past : List Entry) : Type 0 where
  pub known : Known
  pub run : Runs known past
  pub clock_is : known.clock ≡ so_far.moment
  pub heard_is : known.heard ≡ so_far.hearing
  pub goes_on : known.last ≡ false
  pub waited_are : waited ≡ known.untils ++ before

-- the turns ended so
pub record Stops (Runs : Known → List Entry → Type 0) (turns : ℕ) (over : Bool) (how : Ended) (waited before : List ℕ) (past : List Entry) : Type 0 where
  pub known : Known
  pub run : Runs known past
  pub waited_are : waited ≡ known.untils ++ before
  pub ended : EndedAs turns over how past

-- behind one turn more
abbrev pub Turned : {E : Type 0} → (Known → List Entry → Type 0) → ℕ → Bool → Result (Option Last) E → SoFar → List ℕ → List ℕ → List Entry → Type 0
Turned Runs turns over (Ok None) so_far waited before past = Waits Runs so_far waited before past
Turned Runs turns over (Ok (Some last)) so_far waited before past = Stops Runs turns over (ended_by last) waited before past
Turned Runs turns over (Err fault) so_far waited before past = Stops Runs turns over ended.TraceFault waited before past

-- how it ends behind the closing orders: as the turns did, or by a line that couldn't be written
abbrev pub IsFinished : {E : Type 0} → Result Last E → Ended → Type 0
IsFinished last how = (how ≡ ended_so last) ⊎ (how ≡ ended.TraceFault)

abbrev pub ClosedText : Ended → ℕ → List Entry → List ℕ → Type 0
ClosedText ended.Over hearing past text = IsTraced hearing past text
ClosedText ended.Lost hearing past text = IsTraced hearing past text
ClosedText ended.TraceFault hearing past text = IsCutText past text
ClosedText ended.Turns hearing past text = IsTraced hearing past text
