-- Own: what a car goes by. Steps, as pasts, have the newest first.
use Rattle.std.specs.Prelude.{ℕ, Bool, true, false, List}
use Rattle.charge_world.specs.declared.entry.Entry.{Entry}
use Rattle.charge_world.specs.declared.entry.Entry.TheVariants as entry
use Rattle.charge_world.specs.declared.heard.PlantEvent.TheVariants as plant
use Rattle.charge_world.specs.declared.offer.Dialect.{Dialect}
use Rattle.charge_world.specs.declared.ports.Order.{Order}
use Rattle.session_words.specs.declared.word.Request.{Request}
use Rattle.post_spec.specs.Steps.{Event, Came, Plant}
use Rattle.car_spec.specs.Codecs.{Judged}

-- what a car says: it offers its dialects, or it asks in the dialect that was chosen
pub data Spoken : Type 0 where
  Offer : Spoken
  Asked : (dialect : Dialect) (request : Request) → Spoken

-- what a car does: it looks for a post by a datagram, dials one, orders its contactor, says something as these bytes, and ends
pub data Act : Type 0 where
  Seek : (datagram : List ℕ) → Act
  Dial : (port : ℕ) → Act
  Give : (order : Order) → Act
  Say : (spoken : Spoken) (bytes : List ℕ) → Act
  End : (cause : ℕ) → Act

-- what a car goes by: a hearing, at the greatest moment heard so far, so that a clock that goes back stands still; a hearing that was
-- lost; a payload that it read; or an act, taken or failed
pub data Step : Type 0 where
  Hears : (at : ℕ) (event : Event) → Step
  Loses : Step
  Reads : (judged : Judged) → Step
  Does : (act : Act) (taken : Bool) → Step

-- the entry of an act. A car's post is 1
abbrev pub entry_of : Act → Bool → Entry
entry_of (Seek datagram) taken = entry.Answered 1 datagram taken
entry_of (Dial port) taken = entry.Dialed port taken
entry_of (Give order) taken = entry.Drove 1 order taken
entry_of (Say spoken bytes) taken = entry.Sent 1 bytes taken
entry_of (End cause) taken = entry.Ended 1 cause

-- somebody asked to stop since a connection came
abbrev pub stop_heard : Event → Bool → Bool
stop_heard (Came token) stop = false
stop_heard (Plant plant.StopAsked) stop = true
stop_heard other stop = stop
