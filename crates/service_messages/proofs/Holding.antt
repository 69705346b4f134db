-- The reply of a service holds what is declared.
use Rattle.std.proofs.Common.{◌≡◌, ℕ, ◌+◌, ◌-◌, ◌<◌, ◌≤◌, nat_le, Bool, true, false, if◌then◌else◌, List, [], ◌∷◌, length, map, ℤ, pos, negsuc, Option, Some, None, IsTrue, IsUtf8, chars, refl, ap, ◌∙◌, arith}
use Rattle.std.specs.Prelude.{All, IfSome}
use Rattle.std.specs.Borrow.{Bor}
use Rattle.std.specs.Int.{w16, w32}
use Rattle.std.specs.Int.RustNames.{FitsSigned}
use Rattle.std.specs.List.{AllByRecursion}
use Rattle.std.proofs.lemmas.Bool.{leb-true, ltb-true, and_parts}
use Rattle.std.proofs.lemmas.Int.{ints}
use Rattle.std.proofs.lemmas.List.{length-map}
use Rattle.std.proofs.lemmas.List.Elements.{recursion_from_All}
use Rattle.exi_bits.specs.Lent.{items_of}
use Rattle.exi_schema.specs.Plain.{perhaps as optional, up_to, at_least_one}
use Rattle.exi_schema.specs.declared.tables.Datatype.TheVariants.{Bounded, Signed, Text as TextType}
use Rattle.exi_documents.specs.Trees.{Number}
use Rattle.exi_documents.specs.Values.{IsValue as IsTypedValue}
use Rattle.exi_writing.proofs.Values.{few_chars, written_text}
use Rattle.message_parts.specs.Contents.{holding, holding_with, perhaps, mapped}
use Rattle.message_parts.specs.declared.texts.Binary.{Binary}
use Rattle.message_parts.specs.declared.texts.Text.TheVariants as text
use Rattle.fitting_parts.specs.Fitting.{FitsElement, FitsPart, takes_copies}
use Rattle.fitting_parts.proofs.Fitted.{holding_held}
use Rattle.iso_schema.specs.Declarations.{kinds}
use Rattle.iso_schema.specs.Selection.{parameter as parameter_particles, parameter_set, service_parameter_list, service_detail_res}
use Rattle.iso_schema.specs.declared.names.TheConstants.{PARAMETER, PARAMETER_SET, SERVICE_PARAMETER_LIST}
use Rattle.iso_schema.specs.declared.kinds.TheConstants.{BOOLEAN_KIND, BYTE_KIND, SHORT_KIND, INT_KIND, UNSIGNED_SHORT_KIND, TEXT64_KIND, RESPONSE_CODE_KIND, PARAMETER_KIND, PARAMETER_SET_KIND, SERVICE_PARAMETER_LIST_KIND, SERVICE_DETAIL_RES_KIND}
use Rattle.iso_details.specs.Details.{parameter_attributes, parameter_given, parameter_parts, parameter_set_parts, service_parameter_list_parts, service_detail_res_parts}
use Rattle.iso_details.specs.declared.details.ParameterValue.{ParameterValue}
use Rattle.iso_details.specs.declared.details.ParameterValue.TheVariants as value
use Rattle.iso_details.specs.declared.details.Parameter.{Parameter}
use Rattle.iso_details.specs.declared.details.ParameterSet.{ParameterSet}
use Rattle.iso_details.specs.declared.details.ServiceParameterList.{ServiceParameterList}
use Rattle.iso_details.specs.declared.details.ServiceDetailRes.{ServiceDetailRes}
use Rattle.iso_message.specs.Documents.{IsWithin}
use Rattle.iso_message.specs.declared.message.BodyElement.TheVariants as element
use Rattle.iso_word_messages.specs.Messages.{message_with}
use Rattle.written_parts.proofs.Parts.{up_to_takes, at_least_one_takes}
use Rattle.schedule_answers.specs.Requests.{no_session}
use Rattle.schedule_answers.proofs.Held.{truth, unsigned_short, response, message_fits}
use Rattle.service_spec.specs.Texts.{is_a_name, is_word, has_name_length, is_a_text, is_plain, has_text_length}
use Rattle.service_spec.specs.declared.ParameterSet.{ParameterSet as Offered}
use Rattle.service_spec.specs.Services.{is_below}
use Rattle.service_messages.specs.Messages.{number_of, set_of, list_of}
use Rattle.service_messages.specs.Held.{IsHeldValue, IsHeldParameter, IsHeldSet, IsHeldList, IsHeldReply}

-- ---- values

pub truth_held : (b : Bool) → IsHeldValue (value.Bool b)
truth_held b = record { held = (((BOOLEAN_KIND, refl, truth b), refl), tt) }

byte_fits : (n : ℤ) → is_below 128 n ≡ true → IsTypedValue (Bounded (negsuc 127) 256) (Number n)
byte_fits (pos n) h = (n + 128, omega (arith, ltb-true n 128 h), omega (arith, ints))
byte_fits (negsuc n) h = (127 - n, omega (arith, ltb-true n 128 h), omega (arith, ints, ltb-true n 128 h))

byte_held : (n : ℤ) → is_below 128 n ≡ true → IsHeldValue (value.Byte n)
byte_held n h = record { held = (((BYTE_KIND, refl, (Bounded (negsuc 127) 256, refl, byte_fits n h)), refl), tt) }

short_fits : (n : ℤ) → is_below 32768 n ≡ true → IsTypedValue (Signed (negsuc 32767) (pos 32767)) (Number n)
short_fits (pos n) h = (omega (arith, ints), omega (arith, ints, ltb-true n 32768 h))
short_fits (negsuc n) h = (omega (arith, ints, ltb-true n 32768 h), omega (arith, ints))

short_held : (n : ℤ) → is_below 32768 n ≡ true → IsHeldValue (value.Short n)
short_held n h = record { held = (((SHORT_KIND, refl, (Signed (negsuc 32767) (pos 32767), refl, short_fits n h)), refl), tt) }

id_fits : (n : ℤ) → FitsSigned w16 n → IsTypedValue (Signed (negsuc 32767) (pos 32767)) (Number n)
id_fits (pos n) h = (omega (arith, ints), omega (arith, ints, h.sfits))
id_fits (negsuc n) h = (omega (arith, ints, h.sfits), omega (arith, ints))

int_fits : (n : ℤ) → FitsSigned w32 n → IsTypedValue (Signed (negsuc 2147483647) (pos 2147483647)) (Number n)
int_fits (pos n) h = (omega (arith, ints), omega (arith, ints, h.sfits))
int_fits (negsuc n) h = (omega (arith, ints, h.sfits), omega (arith, ints))

int_held : (n : ℤ) → FitsSigned w32 n → IsHeldValue (value.Int n)
int_held n h = record { held = (((INT_KIND, refl, (Signed (negsuc 2147483647) (pos 2147483647), refl, int_fits n h)), refl), tt) }

number_by : (n : ℤ) (byte short : Bool) → is_below 128 n ≡ byte → is_below 32768 n ≡ short → FitsSigned w32 n
    → IsHeldValue (if byte then value.Byte n else if short then value.Short n else value.Int n)
number_by n true short b s fits = byte_held n b
number_by n false true b s fits = short_held n s
number_by n false false b s fits = int_held n fits

pub number_held : (n : ℤ) → FitsSigned w32 n → IsHeldValue (number_of n)
number_held n fits = number_by n (is_below 128 n) (is_below 32768 n) refl refl fits

pub text_held : (t : Bor (List ℕ)) → IsUtf8 t.now → IsTrue (is_a_text t.now) → IsHeldValue (value.String (text.Written t))
text_held t utf8 is =
    let few : length (chars t.now) ≤ 64 = leb-true (length (chars t.now)) 64 (and_parts (is_plain t.now) (has_text_length t.now) is).1 in
    record { held = (((TEXT64_KIND, refl, (TextType 64, refl, written_text t.now 64 utf8 few)), refl), tt) }

-- ---- a parameter

few_name : (name : List ℕ) → IsUtf8 name → IsTrue (is_a_name name) → length (chars name) ≤ 64
few_name name utf8 is =
    let size = (and_parts (is_word name) (has_name_length name) is).1 in
    let most : length name ≤ 64 = leb-true (length name) 64 (and_parts (nat_le 1 (length name)) (nat_le (length name) 64) size).1 in
    omega (arith, few_chars name utf8, most)

pub parameter_held : (name : Bor (List ℕ)) (v : ParameterValue) → IsUtf8 name.now → IsTrue (is_a_name name.now) → IsHeldValue v
    → IsHeldParameter (record { name = text.Written name; value = v })
parameter_held name v utf8 is held =
    let p : Parameter = record { name = text.Written name; value = v } in
    record {
      held = holding_held kinds PARAMETER_KIND parameter_attributes parameter_particles (parameter_given p) (parameter_parts p) refl
          (refl, (TextType 64, refl, written_text name.now 64 utf8 (few_name name.now utf8 is)), tt) held.held;
    }

-- ---- lists

-- what holds of all gives what holds of what is made of each
each_held : {X Z : Type 0} (P : X → Type 0) (Q : Z → Type 0) (f : X → Z) → ((x : X) → P x → Q (f x)) → (xs : List X) → AllByRecursion P xs → AllByRecursion Q (map f xs)
each_held P Q f one [] all = tt
each_held P Q f one (x ∷ xs) all = (one x all.0, each_held P Q f one xs all.1)

pub set_held : (s : ParameterSet) → FitsSigned w16 s.parameter_set_id → 1 ≤ length s.parameter.items → length s.parameter.items ≤ 16 → All IsHeldParameter s.parameter.items
    → IsHeldSet s
set_held s fits some few all = record {
  held = holding_held kinds PARAMETER_SET_KIND [] parameter_set [] (parameter_set_parts s) refl tt (
    ((SHORT_KIND, refl, (Signed (negsuc 32767) (pos 32767), refl, id_fits s.parameter_set_id fits)), refl),
    (
      (
        each_held IsHeldParameter (FitsElement kinds (up_to 16 PARAMETER PARAMETER_KIND) PARAMETER) (λ x. holding_with (parameter_given x) (parameter_parts x))
            (λ p h. (PARAMETER_KIND, refl, h.held)) s.parameter.items (recursion_from_All IsHeldParameter s.parameter.items all),
        ap (takes_copies (up_to 16 PARAMETER PARAMETER_KIND)) (length-map s.parameter.items (λ x. holding_with (parameter_given x) (parameter_parts x)))
            ∙ up_to_takes 16 PARAMETER PARAMETER_KIND (length s.parameter.items) some few,
      ),
      tt,
    ),
  );
}

pub list_held : (l : ServiceParameterList) → 1 ≤ length l.parameter_set.items → length l.parameter_set.items ≤ 16 → All IsHeldSet l.parameter_set.items → IsHeldList l
list_held l some few all = record {
  held = holding_held kinds SERVICE_PARAMETER_LIST_KIND [] service_parameter_list [] (service_parameter_list_parts l) refl tt (
    (
      each_held IsHeldSet (FitsElement kinds (at_least_one 16 PARAMETER_SET PARAMETER_SET_KIND) PARAMETER_SET) (λ x. holding (parameter_set_parts x))
          (λ s h. (PARAMETER_SET_KIND, refl, h.held)) l.parameter_set.items (recursion_from_All IsHeldSet l.parameter_set.items all),
      ap (takes_copies (at_least_one 16 PARAMETER_SET PARAMETER_SET_KIND)) (length-map l.parameter_set.items (λ x. holding (parameter_set_parts x)))
          ∙ at_least_one_takes 16 PARAMETER_SET PARAMETER_SET_KIND (length l.parameter_set.items) some few,
    ),
    tt,
  );
}

abbrev with_sets : List ParameterSet → ServiceParameterList
with_sets items = record { parameter_set = record { items = items } }

list_some : (s : Offered) (sets : List Offered) (l : ServiceParameterList) → l.parameter_set.items ≡ map set_of (s ∷ sets) → Some l ≡ list_of (s ∷ sets)
list_some s sets l is = ap (λ (items : List ParameterSet). Some (with_sets items)) is

pub list_is : (sets : List Offered) (l : ServiceParameterList) → 0 < length sets → l.parameter_set.items ≡ map set_of sets → Some l ≡ list_of sets
list_is [] l some is = absurd (omega (arith, some))
list_is (s ∷ sets) l some is = list_some s sets l is

-- ---- the reply

list_part : (o : Option ServiceParameterList) → IfSome o IsHeldList
    → FitsPart kinds (optional SERVICE_PARAMETER_LIST SERVICE_PARAMETER_LIST_KIND) (perhaps SERVICE_PARAMETER_LIST (mapped (λ x. holding (service_parameter_list_parts x)) o))
list_part None h = refl
list_part (Some l) h = ((SERVICE_PARAMETER_LIST_KIND, refl, h.held), refl)

pub reply_held : (r : ServiceDetailRes) → r.service_id ≤ 65535 → IfSome r.service_parameter_list IsHeldList → IsHeldReply r
reply_held r few list = record {
  held = holding_held kinds SERVICE_DETAIL_RES_KIND [] service_detail_res [] (service_detail_res_parts r) refl tt (
    ((RESPONSE_CODE_KIND, refl, response r.response_code), refl),
    (
      ((UNSIGNED_SHORT_KIND, refl, unsigned_short r.service_id few), refl),
      (list_part r.service_parameter_list list, tt),
    ),
  );
}

-- ---- the message

pub message_within : (lent : Binary) (r : ServiceDetailRes) → items_of lent.span ≡ no_session → IsHeldReply r
    → IsWithin (message_with lent (Some (element.ServiceDetailRes r)))
message_within lent r session held =
    message_fits lent (element.ServiceDetailRes r) session
    (((SERVICE_DETAIL_RES_KIND, refl, held.held), refl), tt)
