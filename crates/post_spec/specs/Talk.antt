-- Own: what a session talked about, read off its bytes: each word that was answered, with the reply to it.
use Rattle.std.specs.Prelude.{◌≡◌, ℕ, List, [], ◌∷◌, length, Option, Some, None}
use Rattle.charge_world.specs.declared.offer.Dialect.{Dialect}
use Rattle.session_words.specs.declared.word.Reply.{Reply}
use Rattle.session_words.specs.declared.word.Request.{Request}
use Rattle.session_words.specs.declared.word.Word.TheVariants as word
use Rattle.session_words.specs.Codes.{IsOkClass}
use Rattle.v2gtp_frames.specs.Frames.{frame}
use Rattle.post_spec.specs.Codecs.{Negotiated, Codecs}
use Rattle.post_spec.specs.Sessions.{arriving, session, stream}
use Rattle.post_spec.specs.Steps.{Give, Send, Answer, End, Seen, Heard, Did}
use Rattle.post_spec.specs.Words.{IsPayloadAt}

-- an answered word: the negotiation, with the dialect that was chosen, or a request, its reply, and the past before that reply
pub data Exchange : Type 0 where
  Negotiation : (chosen : Option Dialect) → Exchange
  Answered : (request : Request) (reply : Reply) (before : List Seen) → Exchange

-- the dialect in which a session talks
abbrev pub dialect_of : List Exchange → Option Dialect
dialect_of [] = None
dialect_of (Negotiation chosen ∷ xs) = chosen
dialect_of (Answered request reply before ∷ xs) = dialect_of xs

-- the first payload is a request of the negotiation, and these bytes are the frame of the response to it
pub record Negotiates (c : Codecs) (offers : List Dialect) (heard bytes : List ℕ) (chosen : Option Dialect) : Type 0 where
  pub payload : List ℕ
  pub response : List ℕ
  pub first : IsPayloadAt heard 0 payload
  pub judged : c.Negotiates offers payload (Negotiated chosen response)
  pub bytes_are : bytes ≡ frame response

-- the payload at this place is the request, and these bytes are a frame that spells the reply
pub record Answers (c : Codecs) (dialect : Option Dialect) (place : ℕ) (heard bytes : List ℕ) (request : Request) (reply : Reply) : Type 0 where
  pub spoken : Dialect
  pub payload : List ℕ
  pub text : List ℕ
  pub dialect_is : dialect ≡ Some spoken
  pub asked : IsPayloadAt heard place payload
  pub request_is : c.Reads spoken payload (Some (word.Request request))
  pub reply_is : c.Reads spoken text (Some (word.Reply reply))
  pub bytes_are : bytes ≡ frame text

-- bytes that were sent behind these exchanges, when the session had heard this much
abbrev pub IsExchange : Codecs → List Dialect → List ℕ → List Exchange → List ℕ → List Seen → Exchange → Type 0
IsExchange c offers heard [] bytes past (Negotiation chosen) = Negotiates c offers heard bytes chosen
IsExchange c offers heard [] bytes past (Answered request reply before) = ⊥
IsExchange c offers heard (x ∷ xs) bytes past (Negotiation chosen) = ⊥
IsExchange c offers heard (x ∷ xs) bytes past (Answered request reply before) =
    Answers c (dialect_of (x ∷ xs)) (length (x ∷ xs)) heard bytes request reply × (before ≡ past)

pub record OneMore (c : Codecs) (offers : List Dialect) (es past : List Seen) (bytes : List ℕ) (Earlier : List Exchange → Type 0) (xs : List Exchange) : Type 0 where
  pub newest : Exchange
  pub earlier : List Exchange
  pub xs_are : xs ≡ newest ∷ earlier
  pub is : IsExchange c offers (stream es) earlier bytes past newest
  pub before : Earlier earlier

abbrev pub InSession : Option (List Seen) → (List Seen → Type 0) → Type 0 → Type 0
InSession None Within Without = Without
InSession (Some es) Within Without = Within es

abbrev pub Unless : Option Seen → Type 0 → Type 0 → Type 0
Unless None Otherwise Then = Otherwise
Unless (Some came) Otherwise Then = Then

-- what the living session talked about, the newest first
abbrev pub Talks : Codecs → List Dialect → List Seen → List Exchange → Type 0
Talks c offers [] xs = xs ≡ []
Talks c offers (Heard at event ∷ past) xs = Unless (arriving past) (Talks c offers past xs) (xs ≡ [])
Talks c offers (Did (Give order) taken ∷ past) xs = Talks c offers past xs
Talks c offers (Did (Answer bytes) taken ∷ past) xs = Talks c offers past xs
Talks c offers (Did (End cause) taken ∷ past) xs = xs ≡ []
Talks c offers (Did (Send bytes) taken ∷ past) xs =
    InSession (session past) (λ es. OneMore c offers es past bytes (Talks c offers past) xs) (xs ≡ [])

-- a negotiation that matched, a reply of the OK class
abbrev pub IsOk : Exchange → Type 0
IsOk (Negotiation None) = ⊥
IsOk (Negotiation (Some dialect)) = Unit {0}
IsOk (Answered request reply before) = IsOkClass reply.code
