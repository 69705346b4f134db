-- Own: what the definitions of a station take from below. What the payload of a frame is judged as, and which bytes a reply is, say
-- the codecs of the negotiation and of the message sets (ISO 15118-2:2014, sections 7.9 and 8.2).
use Rattle.std.specs.Prelude.{◌≡◌, ℕ, List, Option, Some, None}
use Rattle.charge_world.specs.declared.offer.Dialect.{Dialect}
use Rattle.session_words.specs.declared.word.Reply.{Reply}
use Rattle.session_words.specs.declared.word.Request.{Request}
use Rattle.session_words.specs.declared.word.Word.{Word}
use Rattle.session_words.specs.declared.word.Word.TheVariants as word

-- what a payload is judged as: a request of the negotiation, with the dialect that is chosen for it and the payload that answers it; a
-- request of the dialect; another message, which a car never sends: a reply, or a message without a body; or no message at all
pub data Judged : Type 0 where
  Negotiated : (chosen : Option Dialect) (response : List ℕ) → Judged
  Asked : (request : Request) → Judged
  WrongSide : Judged
  Refused : Judged

-- Negotiates offers payload judged: the first payload of a session at a post that offers these dialects.
-- Reads dialect payload word: what a later payload spells, None where it spells nothing.
-- Encodes dialect reply payload: the payload that a reply is sent as.
pub record Codecs : Type 1 where
  pub Negotiates : List Dialect → List ℕ → Judged → Type 0
  pub Reads : Dialect → List ℕ → Option Word → Type 0
  pub Encodes : Dialect → Reply → List ℕ → Type 0

abbrev pub judged_word : Option Word → Judged
judged_word None = Refused
judged_word (Some (word.Request request)) = Asked request
judged_word (Some (word.Reply reply)) = WrongSide
judged_word (Some word.Nothing) = WrongSide

-- what a payload is judged as: in the negotiation's schema until a dialect is chosen, then in the dialect's
abbrev pub Judges : Codecs → List Dialect → Option Dialect → List ℕ → Judged → Type 0
Judges c offers None payload judged = c.Negotiates offers payload judged
Judges c offers (Some dialect) payload judged = (word : Option Word) × c.Reads dialect payload word × (judged ≡ judged_word word)

-- the codecs of these three
abbrev pub codecs : (List Dialect → List ℕ → Judged → Type 0) → (Dialect → List ℕ → Option Word → Type 0) → (Dialect → Reply → List ℕ → Type 0) → Codecs
codecs negotiates reads encodes = record { Negotiates = negotiates; Reads = reads; Encodes = encodes }
