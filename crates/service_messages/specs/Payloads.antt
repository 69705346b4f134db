-- Own: the payload that tells of a catalogue's service.
use Rattle.std.specs.Prelude.{ℕ, List, Option}
use Rattle.document_laws.specs.Laws.{AreBytes}
use Rattle.iso_message.specs.declared.message.IsoMessage.{IsoMessage}
use Rattle.iso_message.specs.Documents.{IsIsoEncoding, PassesBytes}
use Rattle.service_spec.specs.declared.Service.{Service}
use Rattle.service_messages.specs.Messages.{IsDetailOf}
use Rattle.service_messages.specs.declared.payloads.DetailFault.{DetailFault}
use Rattle.service_messages.specs.declared.payloads.DetailFault.TheVariants.{Long, Memory}

-- it is the encoding of the service's message
pub record IsPayloadOf (id : ℕ) (service : Option Service) (payload : List ℕ) : Type 0 where
  pub message : IsoMessage
  pub detail : IsDetailOf id service message
  pub bytes : AreBytes payload
  pub encoded : IsIsoEncoding message payload

-- that has more bytes than a payload may have
pub record IsLong (id : ℕ) (service : Option Service) : Type 0 where
  pub message : IsoMessage
  pub detail : IsDetailOf id service message
  pub passes : PassesBytes message 65536

-- why there is none. Want of memory comes freely
abbrev pub HasDetailFault : ℕ → Option Service → DetailFault → Type 0
HasDetailFault id service Long = IsLong id service
HasDetailFault id service Memory = Unit {0}
