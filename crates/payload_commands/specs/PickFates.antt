-- Own: what becomes of what is wanted and of a payload.
use Rattle.std.specs.Prelude.{◌≡◌, ℕ, ℤ, List}
use Rattle.service_spec.specs.declared.Parameter.{Parameter}
use Rattle.service_spec.specs.Wants.{IsWant}
use Rattle.command_status.specs.declared.status.Status.{Status}
use Rattle.command_status.specs.declared.status.Status.TheVariants as status
use Rattle.command_status.specs.FaultLines.{input_line, words_line}
use Rattle.command_status.specs.Told.{SinkTold, TellsLine, Prints}
use Rattle.payload_commands.specs.Refusals.{IsRefusedAt}
use Rattle.payload_commands.specs.Picking.{set_line, no_set_line, WantsNothing, IsPickedIn, OffersNoneIn}

-- nothing is wanted; the payload is refused at a place; no set has what is wanted; this set has
pub data Fate : Type 0 where
  Nothing : Fate
  Bad : (place : ℕ) → Fate
  Without : Fate
  With : (id : ℤ) → Fate

abbrev pub IsFate : List ℕ → List ℕ → Fate → Type 0
IsFate want hex Nothing = WantsNothing want
IsFate want hex (Bad place) = (pairs : List Parameter) × IsWant want pairs × IsRefusedAt hex place
IsFate want hex Without = (pairs : List Parameter) × IsWant want pairs × OffersNoneIn pairs hex
IsFate want hex (With id) = (pairs : List Parameter) × IsWant want pairs × IsPickedIn pairs hex id

-- the status and the line of it
abbrev pub Follows : Fate → Status → SinkTold → SinkTold → Type 0
Follows Nothing s before after = (s ≡ status.Words) × TellsLine words_line before after
Follows (Bad place) s before after = (s ≡ status.Input) × TellsLine (input_line place) before after
Follows Without s before after = (s ≡ status.NoSet) × TellsLine no_set_line before after
Follows (With id) s before after = Prints (set_line id) s before after
