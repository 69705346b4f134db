-- Messages of one tree offer the same sets: tables read them of the tree, wherever its texts lie in a message.
use Rattle.std.proofs.Common.{◌≡◌, ℕ, ◌==◌, Bool, false, ℤ, List, [], ◌∷◌, map, Option, Some, None, refl, sym, ◌∙◌, ap, ap₂, subst}
use Rattle.message_parts.specs.Contents.{Inside, holding, holding_with, one}
use Rattle.message_parts.specs.Texts.{chars_of}
use Rattle.session_words.specs.Codes.{IsOkClass}
use Rattle.session_words.specs.declared.code.Code.{Code}
use Rattle.tree_words.specs.Leaves.{number_in}
use Rattle.tree_words.specs.Named.{Children, children, head}
use Rattle.tree_words.proofs.Held.{children_held}
use Rattle.tree_words.proofs.Lists.{reads_each}
use Rattle.iso_schema.specs.declared.kinds.TheConstants.{BOOLEAN_KIND, BYTE_KIND, SHORT_KIND, INT_KIND, TEXT64_KIND}
use Rattle.iso_schema.specs.declared.names.TheConstants.{NAME, BOOL_VALUE, BYTE_VALUE, SHORT_VALUE, INT_VALUE, STRING_VALUE, PARAMETER, PARAMETER_SET, PARAMETER_SET_ID, SERVICE_DETAIL_RES, SERVICE_PARAMETER_LIST}
use Rattle.iso_parts.specs.declared.codes.ResponseCode.{ResponseCode}
use Rattle.iso_details.specs.Details.{parameter_value_name, parameter_value_inside, parameter_given, parameter_parts, parameter_set_parts, service_parameter_list_parts, service_detail_res_parts}
use Rattle.iso_details.specs.declared.details.Parameter.{Parameter}
use Rattle.iso_details.specs.declared.details.ParameterSet.{ParameterSet}
use Rattle.iso_details.specs.declared.details.ParameterValue.{ParameterValue}
use Rattle.iso_details.specs.declared.details.ParameterValue.TheVariants as value
use Rattle.iso_details.specs.declared.details.ServiceParameterList.{ServiceParameterList}
use Rattle.iso_elements.specs.Brief.{brief_element_name}
use Rattle.iso_elements.specs.declared.brief.BriefElement.{BriefElement}
use Rattle.iso_elements.specs.declared.brief.BriefElement.TheVariants as brief
use Rattle.iso_message.specs.Documents.{iso_tree, IsIso}
use Rattle.iso_message.specs.Message.{body_element_inside}
use Rattle.iso_message.specs.declared.message.BodyElement.{BodyElement}
use Rattle.iso_message.specs.declared.message.BodyElement.TheVariants as element
use Rattle.iso_message.specs.declared.message.IsoMessage.{IsoMessage}
use Rattle.iso_values.specs.Codes.{code_of}
use Rattle.word_tables.specs.Tables.{Table, inside, rows, flag, integer, text, simple, attributed, nothing, perhaps, no_attributes, attribute_row, or_empty, read, ◌▷◌}
use Rattle.iso_tables.specs.Setup.{detail_res}
use Rattle.iso_words.proofs.Values.{code_read}
use Rattle.schedule_answers.proofs.Elements.{read_if, in_body, one_tree, same_tree}
use Rattle.service_spec.specs.Services.{Content, Truth, Number, Text, Said, SaidSet}
use Rattle.service_messages.specs.Offers.{content_in, said_in, said_set_in, sets_in, OffersIn, Offers}

-- ---- a parameter: its name, and the value that is there

abbrev Values : Type 0
Values = Option Bool × (Option ℤ × (Option ℤ × (Option ℤ × (Option (List ℕ) × Unit {0}))))

abbrev values : Table rows Values
values =
    perhaps BOOL_VALUE (simple flag BOOLEAN_KIND)
    ▷ perhaps BYTE_VALUE (simple integer BYTE_KIND)
    ▷ perhaps SHORT_VALUE (simple integer SHORT_KIND)
    ▷ perhaps INT_VALUE (simple integer INT_KIND)
    ▷ perhaps STRING_VALUE (simple text TEXT64_KIND)
    ▷ nothing

abbrev parameter : Table inside ((List ℕ × Unit {0}) × Values)
parameter = attributed (attribute_row NAME text TEXT64_KIND no_attributes) values

abbrev content_of : Values → Option Content
content_of (Some b, more) = Some (Truth b)
content_of (None, (Some n, more)) = Some (Number n)
content_of (None, (None, (Some n, more))) = Some (Number n)
content_of (None, (None, (None, (Some n, more)))) = Some (Number n)
content_of (None, (None, (None, (None, (Some chars, more))))) = Some (Text chars)
content_of (None, (None, (None, (None, (None, more))))) = None

value_read : (v : ParameterValue)
    → content_of (read values (children (holding (one (parameter_value_name v) (parameter_value_inside v) ∷ [])))) ≡ content_in v
value_read (value.Bool x) = refl
value_read (value.Byte x) = refl
value_read (value.Short x) = refl
value_read (value.Int x) = refl
value_read (value.Physical x) = refl
value_read (value.String x) = refl

abbrev said : List ℕ → Option Content → Said
said name content = record { name = name; content = content }

abbrev said_at : Inside → Said
said_at i = said (read parameter i).0.0 (content_of (read parameter i).1)

said_read : (p : Parameter) → said_at (holding_with (parameter_given p) (parameter_parts p)) ≡ said_in p
said_read p = ap (said (chars_of p.name)) (value_read p.value)

-- ---- sets

abbrev set_of : ℤ → List Said → SaidSet
set_of id parameters = record { id = id; parameters = parameters }

abbrev set_at : Inside → SaidSet
set_at i = set_of (number_in (or_empty (head (children i PARAMETER_SET_ID)))) (map said_at (children i PARAMETER))

set_read : (s : ParameterSet) → set_at (holding (parameter_set_parts s)) ≡ said_set_in s
set_read s =
    ap (λ c. set_of s.parameter_set_id (map said_at (c PARAMETER))) (children_held [] (parameter_set_parts s))
    ∙ ap (set_of s.parameter_set_id) (reads_each said_at (λ p. holding_with (parameter_given p) (parameter_parts p)) said_in said_read s.parameter.items)

abbrev sets_at : Option Inside → List SaidSet
sets_at None = []
sets_at (Some list) = map set_at (children list PARAMETER_SET)

list_read : (l : ServiceParameterList) → sets_at (Some (holding (service_parameter_list_parts l))) ≡ sets_in (Some l)
list_read l =
    ap (λ c. map set_at (c PARAMETER_SET)) (children_held [] (service_parameter_list_parts l))
    ∙ reads_each set_at (λ s. holding (parameter_set_parts s)) said_set_in set_read l.parameter_set.items

-- ---- a reply

abbrev Reply : Type 0
Reply = Code × List SaidSet

abbrev reply_at : Children → Reply
reply_at c = ((read detail_res c).0, sets_at (head (c SERVICE_PARAMETER_LIST)))

reply_read : (code : ResponseCode) (id : ℕ) (o : Option ServiceParameterList)
    → reply_at (children (holding (service_detail_res_parts (record { response_code = code; service_id = id; service_parameter_list = o }))))
    ≡ (code_of code, sets_in o)
reply_read code id None = ap (λ c. (c, [])) (code_read code)
reply_read code id (Some l) = ap₂ (λ c s. (c, s)) (code_read code) (list_read l)

abbrev of_body : Option BodyElement → Option Reply
of_body (Some (element.ServiceDetailRes x)) = Some (code_of x.response_code, sets_in x.service_parameter_list)
of_body _ = None

another : (x : BriefElement) → (brief_element_name x == SERVICE_DETAIL_RES) ≡ false
another (brief.AuthorizationReq x) = refl
another other = refl

body_read : (o : Option BodyElement) → in_body SERVICE_DETAIL_RES reply_at o ≡ of_body o
body_read None = refl
body_read (Some (element.Brief x)) = ap (λ b. read_if b reply_at (body_element_inside (element.Brief x))) (another x)
body_read (Some (element.ChargeParameterDiscoveryRes x)) = refl
body_read (Some (element.ServiceDetailRes x)) = ap (λ r. Some r) (reply_read x.response_code x.service_id x.service_parameter_list)
body_read (Some (element.ServiceDiscoveryRes x)) = refl

-- ---- offers

abbrev OffersOf : Option Reply → List SaidSet → Type 0
OffersOf None sets = ⊥
OffersOf (Some r) sets = IsOkClass r.0 × (sets ≡ r.1)

offers_to : (e : Option BodyElement) (sets : List SaidSet) → OffersIn e sets → OffersOf (of_body e) sets
offers_to None sets h = h
offers_to (Some (element.Brief x)) sets h = h
offers_to (Some (element.ChargeParameterDiscoveryRes x)) sets h = h
offers_to (Some (element.ServiceDiscoveryRes x)) sets h = h
offers_to (Some (element.ServiceDetailRes x)) sets h = h

offers_from : (e : Option BodyElement) (sets : List SaidSet) → OffersOf (of_body e) sets → OffersIn e sets
offers_from None sets h = h
offers_from (Some (element.Brief x)) sets h = h
offers_from (Some (element.ChargeParameterDiscoveryRes x)) sets h = h
offers_from (Some (element.ServiceDiscoveryRes x)) sets h = h
offers_from (Some (element.ServiceDetailRes x)) sets h = h

pub one_tree_offer : (m n : IsoMessage) (sets : List SaidSet) → iso_tree m ≡ iso_tree n → Offers m sets → Offers n sets
one_tree_offer m n sets same offered =
    let one = sym (body_read m.body.element) ∙ one_tree SERVICE_DETAIL_RES reply_at m n same ∙ body_read n.body.element in
    offers_from n.body.element sets (subst (λ (o : Option Reply). OffersOf o sets) one (offers_to m.body.element sets offered))

pub one_payload_offer : (payload : List ℕ) (m n : IsoMessage) (sets : List SaidSet) → IsIso m payload → IsIso n payload → Offers m sets → Offers n sets
one_payload_offer payload m n sets p q offered = one_tree_offer m n sets (same_tree payload m n p q) offered
