-- A word that is kept is the one of the definitions.
use Rattle.std.proofs.Common.{◌≡◌, sym, ap, ◌∙◌, Some, None, List}
use Rattle.session_words.specs.declared.plan.PostPlan.{PostPlan}
use Rattle.post_spec.specs.Steps.{Act}
use Rattle.post_spec.specs.Words.{HeardWord, Payload}
use Rattle.told_pasts.specs.Spelling.{ToldCodecs}
use Rattle.told_pasts.specs.Steps.{ToldStep, seen_in}
use Rattle.audit_course.specs.declared.words.NextWord.{NextWord}
use Rattle.audit_course.specs.Values.{word_as, IsNextWord}
use Rattle.audit_streams.specs.declared.reader.ToldWord.{ToldWord}
use Rattle.audit_streams.specs.declared.reader.ToldWord.TheVariants as told
use Rattle.audit_streams.specs.Streams.{NoneIsNext, NextIs}
use Rattle.audit_streams.specs.Words.{IsWord}
use Rattle.audit_readings.specs.Readings.{JudgesSo}
use Rattle.audit_records.specs.Records.{word_told, JudgesWord}

word_is : (kept : ToldWord) (word : HeardWord) → IsWord kept word → word_told kept ≡ word_as word
word_is (told.Negotiated chosen) word (response, is) = ap word_as (sym is)
word_is (told.Asked request) word is = ap word_as (sym is)
word_is told.WrongSide word is = ap word_as (sym is)
word_is told.Refused word is = ap word_as (sym is)
word_is (told.BadFrame fault) word is = ap word_as (sym is)

pub none_next : (c : ToldCodecs) (plan : PostPlan) (steps : List ToldStep) → NoneIsNext c.words plan.dialects.items (seen_in steps) → IsNextWord c plan steps None
none_next c plan steps none = record { told = λ word n. absurd (none word n); is = tt }

pub one_next : (c : ToldCodecs) (plan : PostPlan) (steps : List ToldStep) (kept : ToldWord) (found : NextWord) → found ≡ word_told kept → NextIs c.words plan.dialects.items (seen_in steps) kept
    → IsNextWord c plan steps (Some found)
one_next c plan steps kept found same n = record {
  told = λ word next. ap (λ (w : NextWord). Some w) (same ∙ word_is kept n.word n.kept_is ∙ ap word_as (sym (n.only word next)));
  is = (n.word, n.next);
}

pub one_judged : (c : ToldCodecs) (plan : PostPlan) (steps : List ToldStep) (act : Act) (kept : ToldWord) (found : NextWord) → found ≡ word_told kept → JudgesSo c plan steps act (Some kept)
    → JudgesWord c plan steps act (Some found)
one_judged c plan steps act kept found same j = record { judged = j.judged; word_is = same ∙ word_is kept (Payload j.judged) j.kept_is; is = j.is; only = j.only }
