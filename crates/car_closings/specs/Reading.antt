-- ISO 15118-2:2014, section 7.8.3: the words that a car reads are the payloads of its stream, one after another.
use Rattle.std.specs.Prelude.{◌≡◌, ℕ, suc, List, [], ◌∷◌, Option, Some}
use Rattle.charge_world.specs.declared.entry.Entry.{Entry}
use Rattle.charge_world.specs.declared.offer.Dialect.{Dialect}
use Rattle.session_words.specs.declared.plan.CarPlan.{CarPlan}
use Rattle.v2gtp_frames.specs.Reading.{behind_frames}
use Rattle.post_spec.specs.Words.{IsPayloadAt}
use Rattle.car_spec.specs.Acting.{state}
use Rattle.car_spec.specs.Codecs.{Judged, Codecs, Judges}
use Rattle.car_spec.specs.Past.{stream}
use Rattle.car_spec.specs.Runs.{IsRun}
use Rattle.car_spec.specs.States.{Session}
use Rattle.car_spec.specs.Steps.{Step, Hears, Loses, Reads, Does}

-- how many words a car read
abbrev pub words_read : List Step → ℕ
words_read [] = 0
words_read (Hears at event ∷ steps) = words_read steps
words_read (Loses ∷ steps) = words_read steps
words_read (Reads word ∷ steps) = suc (words_read steps)
words_read (Does act taken ∷ steps) = words_read steps

-- a word is what the payload at a place of the stream is judged as, in the schema of the negotiation or in a dialect
pub record IsWordAt (c : Codecs) (plan : CarPlan) (past : List Entry) (place : ℕ) (word : Judged) : Type 0 where
  pub payload : List ℕ
  pub at_place : IsPayloadAt (stream past) place payload
  pub dialect : Option Dialect
  pub judged : Judges c plan.dialects.items dialect payload word

-- in every run: what a session has unread is what stands behind as many frames of the stream as words were read, and each word that is read is
-- the payload at their place
pub record RunsReadInOrder (c : Codecs) : Type 0 where
  pub unread : (plan : CarPlan) (past : List Entry) (steps : List Step) (session : Session) → IsRun c plan past steps
      → (state plan steps).session ≡ Some session → session.unread ≡ behind_frames (words_read steps) (stream past)
  pub words : (plan : CarPlan) (past : List Entry) (steps : List Step) (word : Judged) → IsRun c plan past (Reads word ∷ steps)
      → IsWordAt c plan past (words_read steps) word
