-- Own: what a post does next.
use Rattle.std.specs.Prelude.{◌≡◌, ℕ, Bool, true, List, Option, Some, None}
use Rattle.session_words.specs.declared.plan.PostPlan.{PostPlan}
use Rattle.session_words.specs.Causes.{number_of}
use Rattle.v2gtp_frames.specs.Frames.{frame}
use Rattle.post_spec.specs.Codecs.{Codecs}
use Rattle.post_spec.specs.Steps.{Act, Give, Send, Answer, End, Reading}
use Rattle.station_spec.specs.States.{Spoken, Response, Said, State, nothing, first}
use Rattle.station_spec.specs.States as states
use Rattle.station_spec.specs.Deciding.{decided}
use Rattle.station_spec.specs.Judging.{wanted, filled, IsRead}

-- a post has nothing to do: nothing is decided, and no word is to be read
pub record IsQuiet (plan : PostPlan) (s : State) : Type 0 where
  pub none : first (decided plan s).agenda ≡ None
  pub no_word : wanted (decided plan s) ≡ None

-- the bytes of what is sent: the frame of the response, or of the reply's encoding
abbrev pub IsSpoken : Codecs → Spoken → List ℕ → Type 0
IsSpoken c (Response payload) bytes = bytes ≡ frame payload
IsSpoken c (Said dialect reply) bytes = (payload : List ℕ) × c.Encodes dialect reply payload × (bytes ≡ frame payload)

-- the act by which a thing is done. The end of a session can't fail
abbrev pub IsDone : Codecs → states.Todo → Act → Bool → Type 0
IsDone c (states.Tell datagram) act taken = act ≡ Answer datagram
IsDone c (states.Give o) act taken = act ≡ Give o
IsDone c (states.Say spoken) act taken = (bytes : List ℕ) × IsSpoken c spoken bytes × (act ≡ Send bytes)
IsDone c (states.Finish cause) act taken = (act ≡ End (number_of cause)) × (taken ≡ true)

-- what a post does next, reading so
pub record Acts (c : Codecs) (plan : PostPlan) (Shows : ℕ → ℕ → Type 0) (s : State) (reading : Option Reading) (act : Act) (taken : Bool) : Type 0 where
  pub read : IsRead c plan Shows (decided plan s) (wanted (decided plan s)) reading
  pub todo : states.Todo
  pub acts : first (filled plan reading s).agenda ≡ Some todo
  pub done : IsDone c todo act taken
