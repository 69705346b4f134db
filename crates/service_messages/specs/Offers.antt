-- ISO 15118-2:2014, 8.4.3.3.3 (ServiceDetailRes) and 8.5.2.20 to 8.5.2.23 (ServiceParameterList, ParameterSet, Parameter): the sets of parameters
-- that a reply offers. Which one is picked is own.
use Rattle.std.specs.Prelude.{◌≡◌, ℤ, List, [], map, Option, Some, None}
use Rattle.message_parts.specs.Texts.{chars_of}
use Rattle.iso_details.specs.declared.details.ParameterValue.{ParameterValue}
use Rattle.iso_details.specs.declared.details.ParameterValue.TheVariants as value
use Rattle.iso_details.specs.declared.details.Parameter.{Parameter}
use Rattle.iso_details.specs.declared.details.ParameterSet.{ParameterSet}
use Rattle.iso_details.specs.declared.details.ServiceParameterList.{ServiceParameterList}
use Rattle.iso_message.specs.declared.message.BodyElement.{BodyElement}
use Rattle.iso_message.specs.declared.message.BodyElement.TheVariants as element
use Rattle.iso_message.specs.declared.message.IsoMessage.{IsoMessage}
use Rattle.iso_values.specs.Codes.{code_of}
use Rattle.session_words.specs.Codes.{IsOkClass}
use Rattle.service_spec.specs.Services.{Content, Truth, Number, Text, Said, SaidSet, IsPicked, PicksNone}

-- a number of any kind is that number; a physical value is none of a pair's
abbrev pub content_in : ParameterValue → Option Content
content_in (value.Bool truth) = Some (Truth truth)
content_in (value.Byte number) = Some (Number number)
content_in (value.Short number) = Some (Number number)
content_in (value.Int number) = Some (Number number)
content_in (value.Physical physical) = None
content_in (value.String text) = Some (Text (chars_of text))

abbrev pub said_in : Parameter → Said
said_in p = record { name = chars_of p.name; content = content_in p.value }

abbrev pub said_set_in : ParameterSet → SaidSet
said_set_in s = record { id = s.parameter_set_id; parameters = map said_in s.parameter.items }

-- a reply without the list has no sets
abbrev pub sets_in : Option ServiceParameterList → List SaidSet
sets_in None = []
sets_in (Some list) = map said_set_in list.parameter_set.items

-- the sets of a ServiceDetailRes of the OK class
abbrev pub OffersIn : Option BodyElement → List SaidSet → Type 0
OffersIn (Some (element.ServiceDetailRes reply)) sets = IsOkClass (code_of reply.response_code) × (sets ≡ sets_in reply.service_parameter_list)
OffersIn _ sets = ⊥

abbrev pub Offers : IsoMessage → List SaidSet → Type 0
Offers message sets = OffersIn message.body.element sets

-- the identifier of the set that is picked of them
pub record IsChoice (want : List Said) (message : IsoMessage) (id : ℤ) : Type 0 where
  pub sets : List SaidSet
  pub offered : Offers message sets
  pub picked : IsPicked want sets id

abbrev pub HasNoChoice : List Said → IsoMessage → Type 0
HasNoChoice want message = (sets : List SaidSet) → Offers message sets → PicksNone want sets
