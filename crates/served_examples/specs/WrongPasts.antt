-- ISO 15118-2:2014, sections 8.4 and 8.8: what a post may not do in a session that conforms.
use Rattle.std.specs.Prelude.{◌≡◌, ℕ, true, List, [], ◌∷◌, Some}
use Rattle.charge_world.specs.declared.heard.PlantEvent.TheVariants as plant
use Rattle.charge_world.specs.declared.offer.Dialect.{Dialect}
use Rattle.charge_world.specs.declared.ports.Order.TheVariants as order
use Rattle.session_words.specs.declared.word.Reply.{Reply}
use Rattle.session_words.specs.declared.word.Request.{Request}
use Rattle.session_words.specs.declared.word.Word.TheVariants as word
use Rattle.session_words.specs.Codes.{IsOkClass}
use Rattle.v2gtp_frames.specs.Frames.{frame}
use Rattle.post_spec.specs.Codecs.{Codecs}
use Rattle.post_spec.specs.Kinds.{asks_start}
use Rattle.post_spec.specs.Steps.{Came, Bytes, Plant, Clock, Give, Send, End, Seen, Heard, Did}
use Rattle.station_examples.specs.Fixtures.{ac_post, token}
use Rattle.served_sessions.specs.Serving.{AreServed}

-- a session whose first word was answered, by whatever bytes; and the next word is there
abbrev pub answered : List ℕ → List Seen
answered response = Did (Send response) true ∷ Heard 100 (Bytes (frame (0 ∷ []))) ∷ Heard 0 (Came token) ∷ []

abbrev pub asked : List ℕ → List Seen
asked response = Heard 200 (Bytes (frame (1 ∷ []))) ∷ answered response

abbrev pub Refuses : Codecs → List Seen → Type 0
Refuses c past = AreServed c ac_post past → ⊥

-- bytes that are no frame of a reply of the OK class
abbrev pub IsFailed : Codecs → List ℕ → Type 0
IsFailed c bytes = (dialect : Dialect) (text : List ℕ) (reply : Reply) → bytes ≡ frame text
    → c.Reads dialect text (Some (word.Reply reply)) → IsOkClass reply.code → ⊥

-- the reply is a FAILED one
abbrev pub FailedReply : Codecs → Type 0
FailedReply c = (response bytes : List ℕ) → IsFailed c bytes → Refuses c (Did (Send bytes) true ∷ asked response)

-- the word isn't answered before the next hearing
abbrev pub NoReply : Codecs → Type 0
NoReply c = (response : List ℕ) → Refuses c (Heard 300 Clock ∷ asked response)

-- it is answered twice
abbrev pub TwoReplies : Codecs → Type 0
TwoReplies c = (response first second : List ℕ) → Refuses c (Did (Send second) true ∷ Did (Send first) true ∷ asked response)

-- the contactor is ordered closed in a later hearing
abbrev pub LateClose : Codecs → Type 0
LateClose c = (response : List ℕ) → Refuses c (Did (Give order.Close) true ∷ Heard 300 Clock ∷ asked response)

-- or for a word that isn't PowerDelivery Start
abbrev pub CloseForAnother : Codecs → Type 0
CloseForAnother c = (response : List ℕ)
    → ((dialect : Dialect) (request : Request) → c.Reads dialect (1 ∷ []) (Some (word.Request request))
    → asks_start request.ask ≡ true → ⊥)
    → Refuses c (Did (Give order.Close) true ∷ asked response)

-- PowerDelivery Start is answered, and the contactor is never ordered closed
abbrev pub NeverCloses : Codecs → Type 0
NeverCloses c = (response bytes : List ℕ)
    → ((dialect : Dialect) (request : Request) → c.Reads dialect (1 ∷ []) (Some (word.Request request))
    → asks_start request.ask ≡ true)
    → Refuses c (Did (Send bytes) true ∷ asked response)

-- the reply is sent before the feedback, or not in its hearing
abbrev pub closing : List ℕ → List Seen
closing response = Did (Give order.Close) true ∷ asked response

abbrev pub EarlyReply : Codecs → Type 0
EarlyReply c = (response bytes : List ℕ) → Refuses c (Did (Send bytes) true ∷ closing response)

abbrev pub LateReply : Codecs → Type 0
LateReply c = (response : List ℕ) → Refuses c (Heard 400 Clock ∷ Heard 300 (Plant (plant.Feedback true)) ∷ closing response)

-- the session ends while its car goes on
abbrev pub EarlyEnd : Codecs → Type 0
EarlyEnd c = (response : List ℕ) (cause : ℕ) → Refuses c (Did (End cause) true ∷ Heard 200 Clock ∷ answered response)
