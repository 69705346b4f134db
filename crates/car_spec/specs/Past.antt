-- Own: what the past of a car tells by its bytes. It is read off the entries, without what the car keeps. A car has one session: it begins
-- with the first connection.
use Rattle.std.specs.Prelude.{◌≡◌, ℕ, ◌+◌, ◌==◌, Bool, true, false, ◌||◌, if◌then◌else◌, List, [], ◌∷◌, ◌++◌, Option, Some, None}
use Rattle.charge_world.specs.declared.entry.Entry.{Entry}
use Rattle.charge_world.specs.declared.entry.Entry.TheVariants as entry
use Rattle.charge_world.specs.declared.heard.What.{What}
use Rattle.charge_world.specs.declared.heard.What.TheVariants as what
use Rattle.charge_world.specs.declared.offer.Dialect.{Dialect}
use Rattle.session_words.specs.declared.word.Reply.{Reply}
use Rattle.session_words.specs.declared.word.Request.{Request}
use Rattle.session_words.specs.declared.word.Word.TheVariants as word
use Rattle.v2gtp_frames.specs.Frames.{frame}
use Rattle.post_spec.specs.Words.{IsPayloadAt}
use Rattle.car_spec.specs.Codecs.{Chosen, Codecs}

abbrev pub is_came : What → Bool
is_came (what.Came post token) = true
is_came other = false

-- a connection came
abbrev pub came : List Entry → Bool
came [] = false
came (entry.Heard heard bytes ∷ past) = is_came heard.what || came past
came (other ∷ past) = came past

abbrev pub is_piece : What → Bool
is_piece (what.Bytes post n) = true
is_piece other = false

-- all bytes that came for the session, in the order in which they came
abbrev pub stream : List Entry → List ℕ
stream [] = []
stream (entry.Heard heard bytes ∷ past) = if is_piece heard.what then (if came past then stream past ++ bytes else []) else stream past
stream (other ∷ past) = stream past

-- how much was said, and what was said at a place, counted from 0: first the offer of dialects, then the requests
abbrev pub said : List Entry → ℕ
said [] = 0
said (entry.Sent post bytes true ∷ past) = said past + 1
said (other ∷ past) = said past

abbrev pub said_at : ℕ → List Entry → Option (List ℕ)
said_at place [] = None
said_at place (entry.Sent post bytes true ∷ past) = if said past == place then Some bytes else said_at place past
said_at place (other ∷ past) = said_at place past

-- the response to the offer chose this dialect
pub record IsChosen (c : Codecs) (offers : List Dialect) (past : List Entry) (dialect : Dialect) : Type 0 where
  pub payload : List ℕ
  pub first : IsPayloadAt (stream past) 0 payload
  pub chosen : c.Responds offers payload (Chosen (Some dialect))

-- this was asked at a place
pub record IsAsked (c : Codecs) (dialect : Dialect) (past : List Entry) (place : ℕ) (request : Request) : Type 0 where
  pub payload : List ℕ
  pub said_is : said_at place past ≡ Some (frame payload)
  pub request_is : c.Reads dialect payload (Some (word.Request request))

-- and this was the reply to it
pub record IsTold (c : Codecs) (dialect : Dialect) (past : List Entry) (place : ℕ) (reply : Reply) : Type 0 where
  pub payload : List ℕ
  pub at_place : IsPayloadAt (stream past) place payload
  pub reply_is : c.Reads dialect payload (Some (word.Reply reply))
