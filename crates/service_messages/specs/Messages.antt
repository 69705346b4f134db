-- ISO 15118-2:2014, 8.4.3.3.3 (ServiceDetailRes) and 8.5.2.20 to 8.5.2.23 (ServiceParameterList, ParameterSet, Parameter): the reply that tells of a
-- catalogue's service. By which kind a number is written, and in which session, is own.
use Rattle.std.specs.Prelude.{◌≡◌, ℕ, ℤ, if◌then◌else◌, List, [], ◌∷◌, map, Option, Some, None}
use Rattle.exi_bits.specs.Lent.{items_of}
use Rattle.message_parts.specs.declared.texts.Text.TheVariants as text
use Rattle.iso_parts.specs.declared.codes.ResponseCode.TheVariants as code
use Rattle.iso_details.specs.declared.details.ParameterValue.{ParameterValue}
use Rattle.iso_details.specs.declared.details.ParameterValue.TheVariants as value
use Rattle.iso_details.specs.declared.details.Parameter.{Parameter}
use Rattle.iso_details.specs.declared.details.ParameterSet.{ParameterSet}
use Rattle.iso_details.specs.declared.details.ServiceParameterList.{ServiceParameterList}
use Rattle.iso_details.specs.declared.details.ServiceDetailRes.{ServiceDetailRes}
use Rattle.iso_message.specs.declared.message.BodyElement.TheVariants as element
use Rattle.iso_message.specs.declared.message.IsoMessage.{IsoMessage}
use Rattle.iso_word_messages.specs.Messages.{message_with}
use Rattle.schedule_answers.specs.Requests.{no_session}
use Rattle.service_spec.specs.declared.Value.{Value as Said}
use Rattle.service_spec.specs.declared.Value.TheVariants as said
use Rattle.service_spec.specs.declared.Parameter.{Parameter as Pair}
use Rattle.service_spec.specs.declared.ParameterSet.{ParameterSet as Offered}
use Rattle.service_spec.specs.declared.Service.{Service}
use Rattle.service_spec.specs.Services.{is_below}

-- a number by the first of byteValue, shortValue and intValue that holds it
abbrev pub number_of : ℤ → ParameterValue
number_of n = if is_below 128 n then value.Byte n else if is_below 32768 n then value.Short n else value.Int n

abbrev pub value_of : Said → ParameterValue
value_of (said.Truth truth) = value.Bool truth
value_of (said.Number number) = number_of number
value_of (said.Text inside) = value.String (text.Written inside)

abbrev pub parameter_of : Pair → Parameter
parameter_of p = record { name = text.Written p.name; value = value_of p.value }

abbrev pub set_of : Offered → ParameterSet
set_of s = record { parameter_set_id = s.id; parameter = record { items = map parameter_of s.parameters.items } }

-- no list where there are no sets
abbrev pub list_of : List Offered → Option ServiceParameterList
list_of [] = None
list_of (s ∷ sets) = Some (record { parameter_set = record { items = map set_of (s ∷ sets) } })

-- a catalogue has a service of this identifier, or has none
abbrev pub reply_of : ℕ → Option Service → ServiceDetailRes
reply_of id None = record { response_code = code.FailedServiceIdInvalid; service_id = id; service_parameter_list = None }
reply_of id (Some s) = record { response_code = code.Ok; service_id = id; service_parameter_list = list_of s.sets.items }

-- a message is that reply under the identifier of no session, wherever that lies
pub record IsDetailOf (id : ℕ) (service : Option Service) (m : IsoMessage) : Type 0 where
  pub session : items_of m.header.session_id.span ≡ no_session
  pub message_is : m ≡ message_with m.header.session_id (Some (element.ServiceDetailRes (reply_of id service)))
