-- ISO 15118-2:2014, sections 7.9 and 8.2: the words that are read of a foreign trace, and what is asked of whoever reads them.
use Rattle.std.specs.Prelude.{◌≡◌, ℕ, Bool, List, Option, Some, None}
use Rattle.charge_world.specs.declared.offer.Dialect.{Dialect}
use Rattle.session_words.specs.declared.plan.PostPlan.{PostPlan}
use Rattle.session_words.specs.declared.word.Word.{Word}
use Rattle.v2gtp_frames.specs.Frames.{IsPayload}
use Rattle.post_spec.specs.Codecs.{Judged, Negotiated, Asked, WrongSide, Refused}
use Rattle.post_spec.specs.Words.{HeardWord, Payload, Fault}
use Rattle.told_pasts.specs.Spelling.{SpelledWatts}
use Rattle.audit_watts.specs.declared.values.WattValues.{WattValues}
use Rattle.audit_watts.specs.Values.{AreOf}
use Rattle.audit_streams.specs.declared.reader.ToldWord.{ToldWord}
use Rattle.audit_streams.specs.declared.reader.ToldWord.TheVariants as told

-- the word that it is, whatever answers a negotiation
abbrev pub IsWord : ToldWord → HeardWord → Type 0
IsWord (told.Negotiated chosen) word = (response : List ℕ) × (word ≡ Payload (Negotiated chosen response))
IsWord (told.Asked request) word = word ≡ Payload (Asked request)
IsWord told.WrongSide word = word ≡ Payload WrongSide
IsWord told.Refused word = word ≡ Payload Refused
IsWord (told.BadFrame fault) word = word ≡ Fault fault

-- a first payload is judged so
abbrev pub IsFirst : (Judged → Type 0) → ToldWord → Type 0
IsFirst Negotiates word = (judged : Judged) × Negotiates judged × IsWord word (Payload judged)

-- the watts of a reply, where there is one
abbrev pub IsOfWatts : (SpelledWatts → Type 0) → PostPlan → Dialect → ℕ → Option WattValues → Type 0
IsOfWatts Watts plan dialect told None = (s : SpelledWatts) → Watts s → ⊥
IsOfWatts Watts plan dialect told (Some values) = (s : SpelledWatts) × Watts s × AreOf plan dialect told s values

-- ---- each payload is judged in some way

abbrev pub JudgesFirst : (List Dialect → List ℕ → Judged → Type 0) → Type 0
JudgesFirst Negotiates = (offers : List Dialect) (payload : List ℕ) → IsPayload payload → (judged : Judged) × Negotiates offers payload judged

abbrev pub JudgesLater : (Dialect → List ℕ → Option Word → Type 0) → Type 0
JudgesLater Reads = (dialect : Dialect) (payload : List ℕ) → IsPayload payload → (word : Option Word) × Reads dialect payload word

-- and answers in one way
abbrev pub AnswersOnce : (List ℕ → Bool → Type 0) → Type 0
AnswersOnce Responds = (payload : List ℕ) (a b : Bool) → Responds payload a → Responds payload b → a ≡ b

-- and spells watts in one way
abbrev pub SpeaksOnce : (Dialect → List ℕ → SpelledWatts → Type 0) → Type 0
SpeaksOnce Watts = (dialect : Dialect) (payload : List ℕ) (a b : SpelledWatts) → Watts dialect payload a → Watts dialect payload b → a ≡ b

-- of payloads of a frame alone
pub record AreShort (Responds : List ℕ → Bool → Type 0) (Watts : Dialect → List ℕ → SpelledWatts → Type 0) : Type 0 where
  pub responses : (payload : List ℕ) (positive : Bool) → Responds payload positive → IsPayload payload
  pub replies : (dialect : Dialect) (payload : List ℕ) (s : SpelledWatts) → Watts dialect payload s → IsPayload payload
