-- ISO 15118-2:2014, section 7.8.3: what is read off the stream of a session in a foreign trace.
use Rattle.std.specs.Prelude.{◌≡◌, Bool, true, false, List, ◌∷◌, Option, Some, None}
use Rattle.charge_world.specs.declared.entry.Entry.{Entry}
use Rattle.charge_world.specs.declared.offer.Dialect.{Dialect}
use Rattle.session_words.specs.declared.plan.PostPlan.{PostPlan}
use Rattle.post_spec.specs.Codecs.{Judged, Codecs}
use Rattle.post_spec.specs.Kinds.{asks_start}
use Rattle.post_spec.specs.Sessions.{waits}
use Rattle.post_spec.specs.Steps.{Act, Seen}
use Rattle.post_spec.specs.Words.{HeardWord, Payload}
use Rattle.told_pasts.specs.Checks.{EndsBlock}
use Rattle.told_pasts.specs.Reading.{IsNext, IsJudged}
use Rattle.told_pasts.specs.Spelling.{ToldCodecs}
use Rattle.told_pasts.specs.Steps.{ToldStep, seen_in}
use Rattle.audit_streams.specs.declared.streams.NextWord.{NextWord}
use Rattle.audit_streams.specs.declared.streams.NextWord.TheVariants as next
use Rattle.audit_streams.specs.declared.reader.ToldWord.{ToldWord}
use Rattle.audit_streams.specs.declared.reader.ToldWord.TheVariants as told
use Rattle.audit_streams.specs.Words.{IsWord}

abbrev pub payload_in : Option ToldWord → Option ToldWord
payload_in None = None
payload_in (Some (told.BadFrame fault)) = None
payload_in (Some (told.Negotiated chosen)) = Some (told.Negotiated chosen)
payload_in (Some (told.Asked request)) = Some (told.Asked request)
payload_in (Some told.WrongSide) = Some told.WrongSide
payload_in (Some told.Refused) = Some told.Refused

abbrev pub is_kept : NextWord → Bool
is_kept next.Nothing = false
is_kept next.Kept = true
is_kept next.BadFrame = false
is_kept next.OtherPayload = false

abbrev pub is_there : NextWord → Bool
is_there next.Nothing = false
is_there next.Kept = true
is_there next.BadFrame = true
is_there next.OtherPayload = true

-- the next word, where no reply waits
pub record IsFreeWord (c : Codecs) (offers : List Dialect) (past : List Seen) (kept : ToldWord) : Type 0 where
  pub word : HeardWord
  pub kept_is : IsWord kept word
  pub next : IsNext c offers past word
  pub free : waits next.es ≡ false
  pub only : (other : HeardWord) → IsNext c offers past other → other ≡ word

abbrev pub IsFree : Codecs → List Dialect → List Seen → Option ToldWord → Type 0
IsFree c offers past None = (word : HeardWord) (n : IsNext c offers past word) → waits n.es ≡ false → ⊥
IsFree c offers past (Some kept) = IsFreeWord c offers past kept

-- an act answers this word
pub record JudgesWord (c : ToldCodecs) (plan : PostPlan) (steps : List ToldStep) (act : Act) (kept : ToldWord) : Type 0 where
  pub judged : Judged
  pub kept_is : IsWord kept (Payload judged)
  pub is : IsJudged c plan steps act judged
  pub only : (other : Judged) → IsJudged c plan steps act other → other ≡ judged

abbrev pub JudgesSo : ToldCodecs → PostPlan → List ToldStep → Act → Option ToldWord → Type 0
JudgesSo c plan steps act None = (judged : Judged) → IsJudged c plan steps act judged → ⊥
JudgesSo c plan steps act (Some kept) = JudgesWord c plan steps act kept

abbrev pub is_start : Option ToldWord → Bool
is_start None = false
is_start (Some (told.BadFrame fault)) = false
is_start (Some (told.Negotiated chosen)) = false
is_start (Some (told.Asked request)) = asks_start request.ask
is_start (Some told.WrongSide) = false
is_start (Some told.Refused) = false

abbrev pub HasNext : Codecs → List Dialect → List Seen → Type 0
HasNext c offers past = (word : HeardWord) × IsNext c offers past word

-- a block ends where a word of a post is left
abbrev pub IsLeft : ToldCodecs → PostPlan → List ToldStep → Entry → List Entry → List Entry → Type 0
IsLeft c plan steps e behind earlier = EndsBlock behind (e ∷ earlier) × HasNext c.words plan.dialects.items (seen_in steps)
