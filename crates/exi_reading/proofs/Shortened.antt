-- A value of few bits that a window holds is taken from it.
use Rattle.std.proofs.Common.{◌≡◌, ℕ, ◌+◌, ◌*◌, ◌^◌, ◌<◌, ◌≤◌, ℤ, pos, negsuc, ◌+ℤ◌, ◌≤ℤ◌, Bool, true, false, List, [], ◌∷◌, length, FitsSigned, w64, sym, ap, subst, ◌∙◌, arith, le_antisymm}
use Rattle.std.proofs.lemmas.List.{length-append}
use Rattle.exi_spec.specs.Bits.{number_bits}
use Rattle.exi_spec.specs.Items.{SpellsNumber, SpellsUnsigned, SpellsInteger, octet, followed}
use Rattle.exi_spec.proofs.BitLaws.{length-number_bits}
use Rattle.exi_spec.proofs.Readers.{exact, numbers_read, unsigned_read, integers_read}
use Rattle.exi_bits.specs.Reading.{Cursor, Window, HoldsWhole, Takes}
use Rattle.exi_schema.specs.declared.tables.Datatype.{Datatype}
use Rattle.exi_schema.specs.declared.tables.Datatype.TheVariants.{Bool as BoolType, Named, Bounded, Unsigned, Signed, Binary, Text as TextType}
use Rattle.exi_values.specs.Texts.{IsIndexWidth}
use Rattle.exi_values.specs.Trees.{Value, Truth, Ordinal, Number, Bytes, Text}
use Rattle.exi_values.specs.Values.{SpellsCode, SpellsBounded, SpellsValue}
use Rattle.exi_reading.specs.Short.{IsShort, SpellsShort, most_bits}

-- what is held is spelled so, too
held_as : (P Q : List Bool → Type 0) (most : ℕ) (window : Window) (h : HoldsWhole P most window) → Q h.front → HoldsWhole Q most window
held_as P Q most window h spelled = record { front = h.front; rest = h.rest; spelled = spelled; few = h.few; within = h.within; there = h.there }

-- ---- codes

abbrev CodeBits : ℕ → ℕ → List Bool → Type 0
CodeBits count code bits = (1 ≤ length bits) × SpellsCode count code bits

module _ (count width : ℕ) (is_width : IsIndexWidth count width) (code most : ℕ) (window : Window) (h : HoldsWhole (CodeBits count code) most window) where
  same_width : h.spelled.1.width ≡ width
  same_width = le_antisymm (h.spelled.1.is_width.least width is_width.enough) (is_width.least h.spelled.1.width h.spelled.1.is_width.enough)

  long : length h.front ≡ width
  long = ap length h.spelled.1.spelled ∙ length-number_bits h.spelled.1.width code ∙ same_width

  pub short_held : (0 < width → window.held < width) → ⊥
  short_held short = omega (arith, short (omega (arith, long, h.spelled.0)), long, h.within)

  pub code_is : (taken : ℕ) (new : Cursor) → Takes (SpellsNumber width taken) window.cursor new → taken ≡ code
  code_is taken new t =
      let range : code < 2 ^ width = omega (arith, h.spelled.1.below, is_width.enough) in
      let number : SpellsNumber width code h.front = record { range = range; spelled = h.spelled.1.spelled ∙ ap (λ (n : ℕ). number_bits n code) same_width } in
      ((exact _ _ _ (numbers_read width)).prefix taken code _ _ _ _ t.1 number (sym t.2.there ∙ h.there)).1

  pub code_above : (taken : ℕ) (new : Cursor) → Takes (SpellsNumber width taken) window.cursor new → count ≤ taken → ⊥
  code_above taken new t above = omega (arith, code_is taken new t, h.spelled.1.below, above)

-- ---- of each datatype

module _ (d : Datatype) (value : Value) (window : Window) (h : HoldsWhole (SpellsShort d value) most_bits window) where
  abbrev front : List Bool
  front = h.front

  spelled_as : (e : Datatype) → d ≡ e → SpellsValue e [] 0 value front []
  spelled_as e is = subst (λ (x : Datatype). SpellsValue x [] 0 value front []) is (h.spelled.spelled [] 0)

  pub no_truth : window.held ≡ 0 → ⊥
  no_truth none = omega (arith, none, h.spelled.some, h.within)

  named_code : (count : ℕ) (v : Value) → SpellsValue (Named count) [] 0 v front [] → (code : ℕ) × SpellsCode count code front
  named_code count (Truth truth) s = absurd s
  named_code count (Ordinal ordinal) s = (ordinal, s.0)
  named_code count (Number v) s = absurd s
  named_code count (Bytes bytes) s = absurd s
  named_code count (Text chars) s = absurd s

  pub no_named : (count : ℕ) → d ≡ Named count → ((code most : ℕ) → HoldsWhole (CodeBits count code) most window → ⊥) → ⊥
  no_named count is none =
      let code = named_code count value (spelled_as (Named count) is) in
      none code.0 most_bits (held_as (SpellsShort d value) (CodeBits count code.0) most_bits window h (h.spelled.some, code.1))

  bounded_code : (least : ℤ) (count : ℕ) (v : Value) → IsShort v → SpellsValue (Bounded least count) [] 0 v front [] → (code : ℕ) × SpellsCode count code front × FitsSigned w64 (least +ℤ pos code)
  bounded_code least count (Truth truth) short s = absurd s
  bounded_code least count (Ordinal ordinal) short s = absurd s
  bounded_code least count (Number v) short s = (s.0.0, s.0.2, subst (λ (z : ℤ). FitsSigned w64 z) s.0.1 short)
  bounded_code least count (Bytes bytes) short s = absurd s
  bounded_code least count (Text chars) short s = absurd s

  pub no_bounded : (least : ℤ) (count : ℕ) → d ≡ Bounded least count → ((code most : ℕ) → HoldsWhole (CodeBits count code) most window → ⊥) → ⊥
  no_bounded least count is none =
      let code = bounded_code least count value h.spelled.short (spelled_as (Bounded least count) is) in
      none code.0 most_bits (held_as (SpellsShort d value) (CodeBits count code.0) most_bits window h (h.spelled.some, code.1))

  pub bounded_fits : (least : ℤ) (count taken : ℕ) (new : Cursor) → d ≡ Bounded least count → Takes (SpellsCode count taken) window.cursor new → FitsSigned w64 (least +ℤ pos taken)
  bounded_fits least count taken new is t =
      let code = bounded_code least count value h.spelled.short (spelled_as (Bounded least count) is) in
      let held = held_as (SpellsShort d value) (CodeBits count code.0) most_bits window h (h.spelled.some, code.1) in
      let number : SpellsNumber t.1.width taken t.0 = record { range = omega (arith, t.1.below, t.1.is_width.enough); spelled = t.1.spelled } in
      let same : taken ≡ code.0 = code_is count t.1.width t.1.is_width code.0 most_bits window held taken new (t.0, number, t.2) in
      subst (λ (k : ℕ). FitsSigned w64 (least +ℤ pos k)) (sym same) code.2

  unsigned_value : (most : ℕ) (v : Value) → SpellsValue (Unsigned most) [] 0 v front [] → (n : ℕ) × (n ≤ most) × SpellsUnsigned n front
  unsigned_value most (Truth truth) s = absurd s
  unsigned_value most (Ordinal ordinal) s = absurd s
  unsigned_value most (Number (pos n)) s = (n, s.0, s.1)
  unsigned_value most (Number (negsuc n)) s = absurd s
  unsigned_value most (Bytes bytes) s = absurd s
  unsigned_value most (Text chars) s = absurd s

  length-followed : (groups : List ℕ) → length (followed groups) ≡ 8 * length groups
  length-followed [] = omega arith
  length-followed (group ∷ groups) = omega (arith, length-append (octet true group) (followed groups), length-number_bits 7 group, length-followed groups)

  unsigned_length : (n : ℕ) → SpellsUnsigned n front → length front ≤ 24
  unsigned_length n s =
      omega (arith, h.few, ap length s.spelled, length-append (followed s.groups) (octet false s.last), length-number_bits 7 s.last, length-followed s.groups)

  pub no_unsigned : (most : ℕ) → d ≡ Unsigned most → ((n : ℕ) → HoldsWhole (SpellsUnsigned n) 24 window → ⊥) → ⊥
  no_unsigned most is none =
      let value_is = unsigned_value most value (spelled_as (Unsigned most) is) in
      none value_is.0 (record { front = front; rest = h.rest; spelled = value_is.2; few = unsigned_length value_is.0 value_is.2; within = h.within; there = h.there })

  pub unsigned_above : (most taken : ℕ) (new : Cursor) → d ≡ Unsigned most → Takes (SpellsUnsigned taken) window.cursor new → most < taken → ⊥
  unsigned_above most taken new is t above =
      let value_is = unsigned_value most value (spelled_as (Unsigned most) is) in
      let same : taken ≡ value_is.0 = ((exact _ _ _ unsigned_read).prefix taken value_is.0 _ _ _ _ t.1 value_is.2 (sym t.2.there ∙ h.there)).1 in
      omega (arith, same, value_is.1, above)

  signed_value : (least most : ℤ) (v : Value) → SpellsValue (Signed least most) [] 0 v front [] → (z : ℤ) × (least ≤ℤ z) × (z ≤ℤ most) × SpellsInteger z front
  signed_value least most (Truth truth) s = absurd s
  signed_value least most (Ordinal ordinal) s = absurd s
  signed_value least most (Number v) s = (v, s.0, s.1, s.2)
  signed_value least most (Bytes bytes) s = absurd s
  signed_value least most (Text chars) s = absurd s

  pub no_signed : (least most : ℤ) → d ≡ Signed least most → ((z : ℤ) → HoldsWhole (SpellsInteger z) 25 window → ⊥) → ⊥
  no_signed least most is none =
      let value_is = signed_value least most value (spelled_as (Signed least most) is) in
      none value_is.0 (held_as (SpellsShort d value) (SpellsInteger value_is.0) most_bits window h value_is.3)

  pub signed_within : (least most taken : ℤ) (new : Cursor) → d ≡ Signed least most → Takes (SpellsInteger taken) window.cursor new → (least ≤ℤ taken) × (taken ≤ℤ most)
  signed_within least most taken new is t =
      let value_is = signed_value least most value (spelled_as (Signed least most) is) in
      let same : taken ≡ value_is.0 = ((exact _ _ _ integers_read).prefix taken value_is.0 _ _ _ _ t.1 value_is.3 (sym t.2.there ∙ h.there)).1 in
      (subst (λ (z : ℤ). least ≤ℤ z) (sym same) value_is.1, subst (λ (z : ℤ). z ≤ℤ most) (sym same) value_is.2)

  no_bytes : (most : ℕ) (v : Value) → IsShort v → SpellsValue (Binary most) [] 0 v front [] → ⊥
  no_bytes most (Truth truth) short s = absurd s
  no_bytes most (Ordinal ordinal) short s = absurd s
  no_bytes most (Number v) short s = absurd s
  no_bytes most (Bytes bytes) short s = absurd short
  no_bytes most (Text chars) short s = absurd s

  pub no_binary : (most : ℕ) → d ≡ Binary most → ⊥
  no_binary most is = no_bytes most value h.spelled.short (spelled_as (Binary most) is)

  no_chars : (most : ℕ) (v : Value) → IsShort v → SpellsValue (TextType most) [] 0 v front [] → ⊥
  no_chars most (Truth truth) short s = absurd s
  no_chars most (Ordinal ordinal) short s = absurd s
  no_chars most (Number v) short s = absurd s
  no_chars most (Bytes bytes) short s = absurd s
  no_chars most (Text chars) short s = absurd short

  pub no_text : (most : ℕ) → d ≡ TextType most → ⊥
  no_text most is = no_chars most value h.spelled.short (spelled_as (TextType most) is)
