-- Own: what one post went by in a foreign trace: what it heard, what it did, and what its acts were about.
use Rattle.std.specs.Prelude.{ℕ, Bool, List, map, Option}
use Rattle.charge_world.specs.declared.offer.Dialect.{Dialect}
use Rattle.session_words.specs.declared.word.Reply.{Reply}
use Rattle.session_words.specs.declared.word.Request.{Request}
use Rattle.post_spec.specs.Steps.{Event, Act, Send, Seen, Heard, Did, Reading}
use Rattle.told_pasts.specs.Spelling.{SpelledWatts}

-- What bytes that were sent say to the first word that has no reply: a response to a negotiation, for which the rule chose this dialect; the
-- reply to a request; something else; or there is no such word.
pub data Said : Type 0 where
  Response : (chosen : Option Dialect) (positive : Bool) → Said
  Replied : (request : Request) (reply : Reply) (watts : SpelledWatts) → Said
  Other : Said
  Unasked : Said

-- a hearing; an act but a sending, and what was judged as it was done, where a word was; a sending, and what it says besides
pub data ToldStep : Type 0 where
  Hears : (at : ℕ) (event : Event) → ToldStep
  Does : (reading : Option Reading) (act : Act) (taken : Bool) → ToldStep
  Sends : (reading : Option Reading) (bytes : List ℕ) (taken : Bool) (said : Said) → ToldStep

abbrev pub seen_of : ToldStep → Seen
seen_of (Hears at event) = Heard at event
seen_of (Does reading act taken) = Did act taken
seen_of (Sends reading bytes taken said) = Did (Send bytes) taken

abbrev pub seen_in : List ToldStep → List Seen
seen_in steps = map seen_of steps
