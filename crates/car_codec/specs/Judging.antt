-- ISO 15118-2:2014, sections 7.9 and 8.2: what a car's codec answers about a payload.
use Rattle.std.specs.Prelude.{◌≡◌, ℕ, List, Option, Some, Contains}
use Rattle.charge_world.specs.declared.offer.Dialect.{Dialect}
use Rattle.session_words.specs.declared.word.Reply.{Reply}
use Rattle.session_words.specs.declared.word.Word.{Word}
use Rattle.car_spec.specs.Codecs.{Judged, Chosen, Told, judged_word}

-- a payload that reads as this word is judged so
pub record IsJudged (Reads : Option Word → Type 0) (judged : Judged) : Type 0 where
  pub word : Option Word
  pub reads : Reads word
  pub judged_is : judged ≡ judged_word word

-- a dialect that is chosen is one of those on offer
abbrev pub ChoosesOffered : (List Dialect → List ℕ → Judged → Type 0) → Type 0
ChoosesOffered Responds = (dialects : List Dialect) (payload : List ℕ) (dialect : Dialect)
    → Responds dialects payload (Chosen (Some dialect)) → Contains dialects dialect

-- the first payload that a car hears is never judged a reply of a dialect
abbrev pub RespondsFirst : (List Dialect → List ℕ → Judged → Type 0) → Type 0
RespondsFirst Responds = (dialects : List Dialect) (payload : List ℕ) (reply : Reply) → Responds dialects payload (Told reply) → ⊥
