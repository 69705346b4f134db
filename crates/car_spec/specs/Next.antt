-- Own: what a car does next.
use Rattle.std.specs.Prelude.{◌≡◌, ℕ, Bool, true, List, Some, None}
use Rattle.session_words.specs.declared.plan.CarPlan.{CarPlan}
use Rattle.session_words.specs.Causes.{number_of}
use Rattle.v2gtp_frames.specs.Frames.{frame}
use Rattle.car_rules.specs.Searching.{search_datagram}
use Rattle.car_spec.specs.Codecs.{Judged, Codecs}
use Rattle.car_spec.specs.Steps.{Spoken, Offer, Asked, Act, Seek, Dial, Give, Say, End}
use Rattle.car_spec.specs.States.{State, first}
use Rattle.car_spec.specs.States as states
use Rattle.car_spec.specs.Deciding.{decided}
use Rattle.car_spec.specs.Judging.{wanted, IsRead}

-- a car has nothing to do: nothing is decided, and no word is to be read
pub record IsQuiet (plan : CarPlan) (s : State) : Type 0 where
  pub none : first (decided plan s).agenda ≡ None
  pub no_word : wanted (decided plan s) ≡ None

-- the payload of what is said
abbrev pub IsSpoken : Codecs → CarPlan → Spoken → List ℕ → Type 0
IsSpoken c plan Offer payload = c.Offers plan.dialects.items payload
IsSpoken c plan (Asked dialect request) payload = c.Encodes dialect request payload

-- something is said as the frame of its payload
pub record IsSaid (c : Codecs) (plan : CarPlan) (spoken : Spoken) (act : Act) : Type 0 where
  pub payload : List ℕ
  pub spoken_is : IsSpoken c plan spoken payload
  pub act_is : act ≡ Say spoken (frame payload)

-- the act by which a thing is done. The end can't fail
abbrev pub IsDone : Codecs → CarPlan → states.Todo → Act → Bool → Type 0
IsDone c plan (states.Call port) act taken = act ≡ Dial port
IsDone c plan (states.Drive o) act taken = act ≡ Give o
IsDone c plan (states.Speak spoken) act taken = IsSaid c plan spoken act
IsDone c plan (states.Finish cause) act taken = (act ≡ End (number_of cause)) × (taken ≡ true)
IsDone c plan states.Inquire act taken = act ≡ Seek search_datagram

-- what a car does next
pub record MayAct (c : Codecs) (plan : CarPlan) (s : State) (act : Act) (taken : Bool) : Type 0 where
  pub todo : states.Todo
  pub acts : first (decided plan s).agenda ≡ Some todo
  pub done : IsDone c plan todo act taken

-- what it reads next
abbrev pub MayRead : Codecs → CarPlan → State → Judged → Type 0
MayRead c plan s word = IsRead c plan (wanted (decided plan s)) word
