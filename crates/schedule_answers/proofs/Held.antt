-- What messages that are written outside of a session contain holds what ISO 15118-2:2014 declares, and weighs so many bits.
use Rattle.std.proofs.Common.{◌≡◌, ℕ, ◌+◌, ◌<◌, ◌≤◌, Bool, List, [], All, length, pos, Some, None, refl, sym, subst, arith, lit<, lit≤}
use Rattle.std.proofs.lemmas.Int.{ints}
use Rattle.std.proofs.lemmas.List.Elements.{All-from_recursion}
use Rattle.document_sizes.specs.Sizes.{inside_weight, document_weight}
use Rattle.document_sizes.proofs.Parts.{plain_sum, root_sum}
use Rattle.exi_bits.specs.Lent.{items_of}
use Rattle.exi_schema.specs.declared.tables.Datatype.TheVariants.{Bool as BoolType, Named, Bounded, Unsigned, Binary as BinaryType}
use Rattle.exi_documents.specs.Trees.{Value, Truth, Ordinal, Number, Bytes}
use Rattle.exi_documents.specs.Values.{IsValue}
use Rattle.kind_laws.specs.Kinds.{HasValue}
use Rattle.message_parts.specs.Contents.{holding}
use Rattle.message_parts.specs.declared.texts.Binary.{Binary}
use Rattle.fitting_parts.specs.Fitting.{HoldsTrees, FitsParts}
use Rattle.fitting_parts.proofs.Fitted.{holding_held}
use Rattle.session_words.specs.declared.amount.Amount.{Amount}
use Rattle.written_parts.proofs.Items.{bytes_fit, tuple_fits}
use Rattle.written_parts.proofs.Numbers.{IsPhysical, multiplier_type, value_type, watts_fit}
use Rattle.iso_schema.specs.Declarations.{kinds, schema}
use Rattle.iso_schema.specs.Frame.{header, body, physical_value}
use Rattle.iso_schema.specs.declared.names.TheConstants.{V2G_MESSAGE}
use Rattle.iso_schema.specs.declared.kinds.TheConstants.{BOOLEAN_KIND, SHORT_KIND, UNSIGNED_SHORT_KIND, UNSIGNED_INT_KIND, MULTIPLIER_KIND, TUPLE_ID_KIND, BINARY8_KIND, UNIT_SYMBOL_KIND, RESPONSE_CODE_KIND, CHARGE_PROGRESS_KIND, PHYSICAL_VALUE_KIND, HEADER_KIND, BODY_KIND}
use Rattle.iso_parts.specs.Codes.{response_code_ordinal, charge_progress_ordinal}
use Rattle.iso_parts.specs.Enumerations.{unit_symbol_ordinal}
use Rattle.iso_parts.specs.Frame.{header_parts}
use Rattle.iso_parts.specs.Values.{physical_value_parts}
use Rattle.iso_parts.specs.declared.codes.ChargeProgress.{ChargeProgress}
use Rattle.iso_parts.specs.declared.codes.ChargeProgress.TheVariants as progress
use Rattle.iso_parts.specs.declared.codes.ResponseCode.{ResponseCode}
use Rattle.iso_parts.specs.declared.codes.ResponseCode.TheVariants as code
use Rattle.iso_parts.specs.declared.enumerations.UnitSymbol.{UnitSymbol}
use Rattle.iso_parts.specs.declared.enumerations.UnitSymbol.TheVariants as unit
use Rattle.iso_parts.specs.declared.values.PhysicalValue.{PhysicalValue}
use Rattle.iso_message.specs.Documents.{iso_inside, iso_tree, IsWithin}
use Rattle.iso_message.specs.Message.{body_element_inside, body_parts, iso_message_parts}
use Rattle.iso_message.specs.declared.message.BodyElement.{BodyElement}
use Rattle.iso_message.specs.declared.message.IsoMessage.{IsoMessage}
use Rattle.iso_values.specs.Physical.{power_of}
use Rattle.iso_word_messages.specs.Messages.{message_with}
use Rattle.iso_word_messages.specs.Spellable.{AreWatts, IsByte}
use Rattle.schedule_answers.specs.Requests.{no_session}

-- ---- values

abbrev pub Has : ℕ → Value → Type 0
Has kind value = HasValue IsValue kinds kind value

pub truth : (b : Bool) → Has BOOLEAN_KIND (Truth b)
truth b = (BoolType, refl, tt)

pub unsigned_short : (n : ℕ) → n ≤ 65535 → Has UNSIGNED_SHORT_KIND (Number (pos n))
unsigned_short n few = (Unsigned 65535, refl, few)

pub unsigned_int : (n : ℕ) → n ≤ 4294967295 → Has UNSIGNED_INT_KIND (Number (pos n))
unsigned_int n few = (Unsigned 4294967295, refl, few)

pub tuple_number : (n : ℕ) → 1 ≤ n → n ≤ 255 → Has TUPLE_ID_KIND (Number (pos n))
tuple_number n least most = (Bounded (pos 1) 255, refl, tuple_fits (pos n) (omega (arith, ints, least)) (omega (arith, ints, most)))

below_response : (x : ResponseCode) → response_code_ordinal x < 26
below_response code.Ok = lit< tt
below_response other = lit< tt

pub response : (x : ResponseCode) → Has RESPONSE_CODE_KIND (Ordinal (response_code_ordinal x))
response x = (Named 26, refl, below_response x)

below_progress : (x : ChargeProgress) → charge_progress_ordinal x < 3
below_progress progress.Start = lit< tt
below_progress other = lit< tt

pub charge_progress : (x : ChargeProgress) → Has CHARGE_PROGRESS_KIND (Ordinal (charge_progress_ordinal x))
charge_progress x = (Named 3, refl, below_progress x)

below_unit : (x : UnitSymbol) → unit_symbol_ordinal x < 7
below_unit unit.H = lit< tt
below_unit other = lit< tt

physical_held : (v : PhysicalValue) → IsPhysical v.multiplier v.value → HoldsTrees kinds PHYSICAL_VALUE_KIND (holding (physical_value_parts v))
physical_held v fits =
    holding_held kinds PHYSICAL_VALUE_KIND [] physical_value [] (physical_value_parts v) refl tt (
      ((MULTIPLIER_KIND, refl, (multiplier_type, refl, fits.multiplier_fits)), refl),
      (
        ((UNIT_SYMBOL_KIND, refl, (Named 7, refl, below_unit v.unit)), refl),
        (((SHORT_KIND, refl, (value_type, refl, fits.value_fits)), refl), tt),
      ),
    )

pub power_held : (a : Amount) → AreWatts a → HoldsTrees kinds PHYSICAL_VALUE_KIND (holding (physical_value_parts (power_of a)))
power_held a h = physical_held (power_of a) (watts_fit a.size h)

-- ---- a message under the identifier of no session

abbrev pub FitsBody : BodyElement → Type 0
FitsBody element = FitsParts kinds body (body_parts (record { element = Some element }))

all_bytes : All IsByte no_session
all_bytes = All-from_recursion IsByte no_session (lit< tt, (lit< tt, (lit< tt, (lit< tt, (lit< tt, (lit< tt, (lit< tt, (lit< tt, tt))))))))

identifier : (lent : Binary) → items_of lent.span ≡ no_session → Has BINARY8_KIND (Bytes (items_of lent.span))
identifier lent is =
    subst (λ (bytes : List ℕ). Has BINARY8_KIND (Bytes bytes)) (sym is) (BinaryType 8, refl, bytes_fit 8 no_session (lit≤ tt) all_bytes)

header_held : (lent : Binary) → items_of lent.span ≡ no_session
    → HoldsTrees kinds HEADER_KIND (holding (header_parts (record { session_id = lent; notification = None })))
header_held lent is =
    holding_held kinds HEADER_KIND [] header [] (header_parts (record { session_id = lent; notification = None })) refl tt
    (((BINARY8_KIND, refl, identifier lent is), refl), (refl, (refl, tt)))

body_held : (element : BodyElement) → FitsBody element → HoldsTrees kinds BODY_KIND (holding (body_parts (record { element = Some element })))
body_held element fits = holding_held kinds BODY_KIND [] body [] (body_parts (record { element = Some element })) refl tt fits

pub message_fits : (lent : Binary) (element : BodyElement) → items_of lent.span ≡ no_session → FitsBody element → IsWithin (message_with lent (Some element))
message_fits lent element is fits =
    (((HEADER_KIND, refl, header_held lent is), refl), (((BODY_KIND, refl, body_held element fits), refl), tt))

-- ---- how many bits it has

abbrev pub weight_of : IsoMessage → ℕ
weight_of m = document_weight 6 schema (iso_tree m)

eight : (lent : Binary) → items_of lent.span ≡ no_session → length (items_of lent.span) ≤ 8
eight lent is = subst (λ (bytes : List ℕ). length bytes ≤ 8) (sym is) (lit≤ tt)

pub message_light : (most : ℕ) (lent : Binary) (element : BodyElement) → items_of lent.span ≡ no_session
    → inside_weight 6 (body_element_inside element) ≤ most → weight_of (message_with lent (Some element)) ≤ 200 + most
message_light most lent element is light =
    let m = message_with lent (Some element) in
    omega (
      arith,
      root_sum 6 V2G_MESSAGE (iso_inside m),
      plain_sum 6 (iso_message_parts m),
      plain_sum 6 (body_parts m.body),
      eight lent is,
      light,
    )
