-- ISO 15118-2:2014, section 7.8.3: the words of a session are the payloads of its stream's frames, each answered once. The first is of
-- the negotiation (section 8.2), the others are of the dialect that was chosen by it.
use Rattle.std.specs.Prelude.{◌≡◌, ℕ, ◌+◌, List, [], ◌∷◌, ◌++◌, drop, length, if◌then◌else◌, Option, Some, None, Ok}
use Rattle.charge_world.specs.declared.offer.Dialect.{Dialect}
use Rattle.v2gtp_frames.specs.declared.FrameFault.{FrameFault}
use Rattle.v2gtp_frames.specs.Frames.{Frames, IsFault, IsRight}
use Rattle.v2gtp_frames.specs.Reading.{whole_at, payload_at, behind_frames}
use Rattle.post_spec.specs.Steps.{Seen}
use Rattle.post_spec.specs.Codecs.{Judged, Negotiated, Asked, WrongSide, Refused, Codecs, Judges}
use Rattle.post_spec.specs.Sessions.{replies, waits}

-- a word that was heard: a payload as it is judged, or the fault of a frame
pub data HeardWord : Type 0 where
  Payload : (judged : Judged) → HeardWord
  Fault : (fault : FrameFault) → HeardWord

abbrev pub chosen_by : Judged → Option Dialect
chosen_by (Negotiated chosen response) = chosen
chosen_by (Asked request) = None
chosen_by WrongSide = None
chosen_by Refused = None

-- later payloads, read in the dialect; where none was chosen there is no further word
abbrev pub AreRead : Codecs → List Dialect → Option Dialect → List (List ℕ) → List HeardWord → Type 0
AreRead c offers None payloads words = words ≡ []
AreRead c offers (Some dialect) [] words = words ≡ []
AreRead c offers (Some dialect) (payload ∷ payloads) [] = ⊥
AreRead c offers (Some dialect) (payload ∷ payloads) (Fault fault ∷ words) = ⊥
AreRead c offers (Some dialect) (payload ∷ payloads) (Payload judged ∷ words) =
    Judges c offers (Some dialect) payload judged × AreRead c offers (Some dialect) payloads words

-- the payloads of a stream, in order
abbrev pub AreJudged : Codecs → List Dialect → List (List ℕ) → List HeardWord → Type 0
AreJudged c offers [] words = words ≡ []
AreJudged c offers (payload ∷ payloads) [] = ⊥
AreJudged c offers (payload ∷ payloads) (Fault fault ∷ words) = ⊥
AreJudged c offers (payload ∷ payloads) (Payload judged ∷ words) =
    Judges c offers None payload judged × AreRead c offers (chosen_by judged) payloads words

-- the fault of the rest is the last word
abbrev pub EndsSo : List ℕ → List HeardWord → Type 0
EndsSo rest [] = IsRight rest
EndsSo rest (Payload judged ∷ words) = ⊥
EndsSo rest (Fault fault ∷ []) = IsFault rest fault
EndsSo rest (Fault fault ∷ (word ∷ words)) = ⊥

-- the words of a stream: its payloads, and then the fault of the rest, if there is one
pub record Words (c : Codecs) (offers : List Dialect) (bytes : List ℕ) (words : List HeardWord) : Type 0 where
  pub payloads : List (List ℕ)
  pub rest : List ℕ
  pub frames : Frames bytes payloads rest
  pub front : List HeardWord
  pub behind : List HeardWord
  pub words_are : words ≡ front ++ behind
  pub judged : AreJudged c offers payloads front
  pub ends : EndsSo rest behind

-- the payload of the frame at a place of a stream, counted from 0
pub record IsPayloadAt (bytes : List ℕ) (place : ℕ) (payload : List ℕ) : Type 0 where
  pub count : ℕ
  pub whole : whole_at (behind_frames place bytes) ≡ Ok (Some count)
  pub payload_is : payload ≡ payload_at count (behind_frames place bytes)

-- the words that have no reply yet: the next word is the first of them, and while a reply waits the one after that
abbrev pub next_words : List Seen → List HeardWord → List HeardWord
next_words es words = drop (if waits es then length (replies es) + 1 else length (replies es)) words
