-- Own: what is told of an entry of a foreign trace, off the stream of the post.
use Rattle.std.specs.Prelude.{◌≡◌, List, Option, Some, None}
use Rattle.session_words.specs.declared.plan.PostPlan.{PostPlan}
use Rattle.post_spec.specs.Codecs.{Judged}
use Rattle.post_spec.specs.Steps.{Act}
use Rattle.told_pasts.specs.Reading.{IsJudged}
use Rattle.told_pasts.specs.Spelling.{ToldCodecs}
use Rattle.told_pasts.specs.Steps.{ToldStep}
use Rattle.audit_course.specs.declared.words.NextWord.{NextWord}
use Rattle.audit_course.specs.declared.words.NextWord.TheVariants as next
use Rattle.audit_course.specs.Values.{judged_as}
use Rattle.audit_streams.specs.declared.reader.ToldWord.{ToldWord}
use Rattle.audit_streams.specs.declared.reader.ToldWord.TheVariants as told

-- a word as it is kept
abbrev pub word_told : ToldWord → NextWord
word_told (told.Negotiated chosen) = next.Negotiation chosen
word_told (told.Asked request) = next.Asked request
word_told told.WrongSide = next.WrongSide
word_told told.Refused = next.Refused
word_told (told.BadFrame fault) = next.BadFrame

-- an act answers this word, and no other
pub record Judges (c : ToldCodecs) (plan : PostPlan) (steps : List ToldStep) (act : Act) (word : NextWord) : Type 0 where
  pub judged : Judged
  pub word_is : word ≡ judged_as judged
  pub is : IsJudged c plan steps act judged
  pub only : (other : Judged) → IsJudged c plan steps act other → other ≡ judged

-- or it answers none
abbrev pub JudgesWord : ToldCodecs → PostPlan → List ToldStep → Act → Option NextWord → Type 0
JudgesWord c plan steps act None = (judged : Judged) → IsJudged c plan steps act judged → ⊥
JudgesWord c plan steps act (Some word) = Judges c plan steps act word
