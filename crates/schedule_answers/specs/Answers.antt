-- Own: the answer to a payload of ISO 15118-2.
use Rattle.std.specs.Prelude.{ℕ, List}
use Rattle.document_laws.specs.Laws.{AreBytes}
use Rattle.exi_documents.specs.declared.refusal.RefusalCause.{RefusalCause}
use Rattle.iso_message.specs.declared.message.IsoMessage.{IsoMessage}
use Rattle.iso_message.specs.Documents.{IsIso, IsIsoRefused, IsIsoEncoding}
use Rattle.schedules.specs.declared.power.Need.{Need}
use Rattle.schedules.specs.declared.power.Profile.{Profile}
use Rattle.schedule_answers.specs.Choosing.{IsAnswer, IsFault}
use Rattle.schedule_answers.specs.declared.choosing.ScheduleFault.{ScheduleFault}
use Rattle.schedule_answers.specs.Requests.{IsRequestOf}
use Rattle.schedule_answers.specs.declared.answer.Answer.{Answer}
use Rattle.schedule_answers.specs.declared.fault.AnswerFault.{AnswerFault}
use Rattle.schedule_answers.specs.declared.fault.AnswerFault.TheVariants.{Refused, Unanswered, Memory}

-- the profile answers the message that the payload spells
pub record IsAnswerIn (payload : List ℕ) (need : Need) (profile : Profile) : Type 0 where
  pub message : IsoMessage
  pub spelled : IsIso message payload
  pub answer : IsAnswer message need profile

-- the payload is the encoding of a profile's request
pub record IsRequestIn (profile : Profile) (payload : List ℕ) : Type 0 where
  pub message : IsoMessage
  pub request : IsRequestOf profile message
  pub bytes : AreBytes payload
  pub encoded : IsIsoEncoding message payload

pub record IsAnswered (payload : List ℕ) (need : Need) (answer : Answer) : Type 0 where
  pub profile : IsAnswerIn payload need answer.profile
  pub request : IsRequestIn answer.profile answer.request.items

-- the message that the payload spells has no answer
pub record IsFaultIn (payload : List ℕ) (need : Need) (fault : ScheduleFault) : Type 0 where
  pub message : IsoMessage
  pub spelled : IsIso message payload
  pub fault_is : IsFault message need fault

-- why a payload has no answer. Want of memory comes freely
abbrev pub IsUnanswered : List ℕ → Need → AnswerFault → Type 0
IsUnanswered payload need (Refused bit) = (why : RefusalCause) × IsIsoRefused payload why bit
IsUnanswered payload need (Unanswered fault) = IsFaultIn payload need fault
IsUnanswered payload need Memory = Unit {0}
