-- ISO 15118-2:2014, section 8.4: what of a session is answered, and what it waits for, read off its past. Pasts have
-- their newest entry first, and so have the words that were answered.
use Rattle.std.specs.Prelude.{◌≡◌, ℕ, Bool, true, false, List, [], ◌∷◌, length, Option, Some, None}
use Rattle.std.specs.List.{AllByRecursion}
use Rattle.charge_world.specs.declared.heard.PlantEvent.TheVariants as plant
use Rattle.charge_world.specs.declared.offer.Dialect.{Dialect}
use Rattle.session_words.specs.declared.plan.PostPlan.{PostPlan}
use Rattle.session_words.specs.declared.word.Request.{Request}
use Rattle.session_words.specs.declared.word.Word.TheVariants as word
use Rattle.post_spec.specs.Codecs.{Codecs}
use Rattle.post_spec.specs.Kinds.{asks_start}
use Rattle.post_spec.specs.Sessions.{next_session, stream, waits}
use Rattle.post_spec.specs.Steps.{Event, Plant, Seen, Heard, Did}
use Rattle.post_spec.specs.Talk.{Exchange, Negotiation, Answered, dialect_of, Talks, IsOk}
use Rattle.post_spec.specs.Words.{IsPayloadAt}

-- of the session that stands there, where one does
abbrev pub OfSession : Option (List Seen) → (List Seen → Type 0) → Type 0
OfSession None Holds = Unit {0}
OfSession (Some es) Holds = Holds es

-- each reply so far answers the word of its place in the stream, and is of the OK class
pub record IsAnswered (c : Codecs) (plan : PostPlan) (past : List Seen) (xs : List Exchange) : Type 0 where
  pub talks : Talks c plan.dialects.items past xs
  pub ok : AllByRecursion IsOk xs

-- the word behind those that are answered is PowerDelivery Start
pub record IsStart (c : Codecs) (es : List Seen) (xs : List Exchange) : Type 0 where
  pub spoken : Dialect
  pub payload : List ℕ
  pub request : Request
  pub dialect_is : dialect_of xs ≡ Some spoken
  pub next : IsPayloadAt (stream es) (length xs) payload
  pub request_is : c.Reads spoken payload (Some (word.Request request))
  pub start : asks_start request.ask ≡ true

-- the newest of them is PowerDelivery Start
abbrev pub answers_start : List Exchange → Bool
answers_start [] = false
answers_start (Negotiation chosen ∷ earlier) = false
answers_start (Answered request reply before ∷ earlier) = asks_start request.ask

-- feedback of closed is all that came since, and the reply to PowerDelivery Start waits for it
abbrev pub WaitsFor : Option (List Seen) → Type 0
WaitsFor None = ⊥
WaitsFor (Some es) = waits es ≡ true

abbrev pub IsConfirming : List Seen → Event → Type 0
IsConfirming past (Plant (plant.Feedback true)) = WaitsFor (next_session past)
IsConfirming past event = ⊥

abbrev pub AwaitsReply : List Seen → Type 0
AwaitsReply [] = ⊥
AwaitsReply (Heard at event ∷ past) = IsConfirming past event
AwaitsReply (Did act taken ∷ past) = ⊥
