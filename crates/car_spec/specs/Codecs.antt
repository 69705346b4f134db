-- Own: what the definitions of a car take from below. What the payload of a frame is judged as, and which bytes a request is, say the
-- codecs of the negotiation and of the message sets (ISO 15118-2:2014, sections 7.9 and 8.2).
use Rattle.std.specs.Prelude.{◌≡◌, ℕ, List, Option, Some, None}
use Rattle.charge_world.specs.declared.offer.Dialect.{Dialect}
use Rattle.session_words.specs.declared.word.Reply.{Reply}
use Rattle.session_words.specs.declared.word.Request.{Request}
use Rattle.session_words.specs.declared.word.Word.{Word}
use Rattle.session_words.specs.declared.word.Word.TheVariants as word

-- what a payload is judged as: a response of the negotiation, with the dialect whose offer it names, none where it names none of them or
-- says that nothing matched; a reply of the dialect; another message, which a post never sends: a request, or a message without a body;
-- or no message at all
pub data Judged : Type 0 where
  Chosen : (dialect : Option Dialect) → Judged
  Told : (reply : Reply) → Judged
  WrongSide : Judged
  Refused : Judged

-- Offers dialects payload: the payload that offers these dialects, in order of preference.
-- Responds dialects payload judged: the first payload that a car hears which offered these dialects.
-- Reads dialect payload word: what a later payload spells, None where it spells nothing.
-- Encodes dialect request payload: the payload that a request is sent as.
pub record Codecs : Type 1 where
  pub Offers : List Dialect → List ℕ → Type 0
  pub Responds : List Dialect → List ℕ → Judged → Type 0
  pub Reads : Dialect → List ℕ → Option Word → Type 0
  pub Encodes : Dialect → Request → List ℕ → Type 0

abbrev pub judged_word : Option Word → Judged
judged_word None = Refused
judged_word (Some (word.Request request)) = WrongSide
judged_word (Some (word.Reply reply)) = Told reply
judged_word (Some word.Nothing) = WrongSide

-- what a payload is judged as: in the negotiation's schema until a dialect is chosen, then in the dialect's
abbrev pub Judges : Codecs → List Dialect → Option Dialect → List ℕ → Judged → Type 0
Judges c offers None payload judged = c.Responds offers payload judged
Judges c offers (Some dialect) payload judged = (word : Option Word) × c.Reads dialect payload word × (judged ≡ judged_word word)

-- the codecs of these four
abbrev pub codecs : (List Dialect → List ℕ → Type 0) → (List Dialect → List ℕ → Judged → Type 0) → (Dialect → List ℕ → Option Word → Type 0)
    → (Dialect → Request → List ℕ → Type 0) → Codecs
codecs offers responds reads encodes = record { Offers = offers; Responds = responds; Reads = reads; Encodes = encodes }
