-- The bits of a value of few bits find no room in a word.
use Rattle.std.proofs.Common.{◌≡◌, ℕ, ◌+◌, ◌<◌, ◌≤◌, ℤ, pos, negsuc, ◌+ℤ◌, ◌-ℤ◌, ◌^◌, FitsSigned, w64, Bool, List, [], ◌∷◌, length, Option, Some, None, subst, sym, ap, ◌∙◌, refl, arith, le_antisymm}
use Rattle.std.proofs.lemmas.Int.{ints}
use Rattle.exi_spec.specs.Items.{shortest_unsigned}
use Rattle.exi_spec.proofs.BitLaws.{length-number_bits}
use Rattle.exi_schema.specs.declared.tables.Datatype.{Datatype}
use Rattle.exi_schema.specs.declared.tables.Datatype.TheVariants.{Bool as BoolType, Named, Bounded, Unsigned, Signed, Binary, Text as TextType}
use Rattle.exi_schema.specs.Plain.{PlainKind}
use Rattle.document_laws.proofs.Written.{value_once}
use Rattle.exi_writing.specs.ShortValue.{ShortValue}
use Rattle.exi_writing.specs.ShortValue.TheVariants as short
use Rattle.exi_writing.specs.Short.{tree_of}
use Rattle.exi_writing.specs.Texts.{IsIndexWidth}
use Rattle.exi_writing.specs.Trees.{Value, Number}
use Rattle.exi_writing.specs.Values.{Entries, SpellsCode, WritesValue}
use Rattle.exi_events.specs.Child.{WritesShort, MayWriteShort, IsFull}

pub code_full : (count width code : ℕ) (held bits : List Bool) → IsIndexWidth count width → SpellsCode count code bits → 64 < length held + width → IsFull held bits
code_full count width code held bits is s full =
    let same : s.width ≡ width = le_antisymm (s.is_width.least width is.enough) (is.least s.width s.is_width.enough) in
    omega (arith, full, same, ap length s.spelled, length-number_bits s.width code)

module _ (d : Datatype) (v : ShortValue) (bits : List Bool) (w : WritesShort d (tree_of v) bits) where
  pub writes_as : (e : Datatype) (u : ShortValue) → d ≡ e → v ≡ u → WritesValue e [] 0 (tree_of u) bits []
  writes_as e u is u_is =
      subst (λ (x : Datatype). WritesValue x [] 0 (tree_of u) bits []) is
      (subst (λ (x : ShortValue). WritesValue d [] 0 (tree_of x) bits []) u_is (w.writes [] 0))

  pub typed_as : (e : Datatype) → d ≡ e → WritesValue e [] 0 (tree_of v) bits []
  typed_as e is = subst (λ (x : Datatype). WritesValue x [] 0 (tree_of v) bits []) is (w.writes [] 0)

pub unsigned_of : (most : ℕ) (z : ℤ) (bits : List Bool) → WritesValue (Unsigned most) [] 0 (Number z) bits [] → (n : ℕ) × (z ≡ pos n) × (n ≤ most) × (bits ≡ shortest_unsigned n)
unsigned_of most (pos n) bits w = (n, refl, w.0, w.1)
unsigned_of most (negsuc n) bits w = absurd w

-- so far an integer stands above the least of them
pub above_is : (least z : ℤ) (k : ℕ) → z ≡ least +ℤ pos k → z -ℤ least ≡ pos k
above_is least z k is = omega (arith, ints, is)

pub above_fits : (least z : ℤ) (count k : ℕ) → count < 2 ^ 32 → k < count → z ≡ least +ℤ pos k → FitsSigned w64 (z -ℤ least)
above_fits least z count k few below is = subst (λ (x : ℤ). FitsSigned w64 x) (sym (above_is least z k is)) (omega (arith, ints, few, below))

-- ---- a datatype's values are of one kind

pub only_truths : (v : ShortValue) (bits : List Bool) → WritesValue BoolType [] 0 (tree_of v) bits [] → ((truth : Bool) → v ≡ short.Bool truth → ⊥) → ⊥
only_truths (short.Bool truth) bits w not = not truth refl
only_truths (short.Ordinal ordinal) bits w not = absurd w
only_truths (short.Number z) bits w not = absurd w

pub only_ordinals : (count : ℕ) (v : ShortValue) (bits : List Bool) → WritesValue (Named count) [] 0 (tree_of v) bits [] → ((ordinal : ℕ) → v ≡ short.Ordinal ordinal → ⊥) → ⊥
only_ordinals count (short.Bool truth) bits w not = absurd w
only_ordinals count (short.Ordinal ordinal) bits w not = not ordinal refl
only_ordinals count (short.Number z) bits w not = absurd w

abbrev NoNumber : ShortValue → Type 0
NoNumber v = (z : ℤ) → v ≡ short.Number z → ⊥

pub only_bounded : (least : ℤ) (count : ℕ) (v : ShortValue) (bits : List Bool) → WritesValue (Bounded least count) [] 0 (tree_of v) bits [] → NoNumber v → ⊥
only_bounded least count (short.Bool truth) bits w not = absurd w
only_bounded least count (short.Ordinal ordinal) bits w not = absurd w
only_bounded least count (short.Number z) bits w not = not z refl

pub only_unsigned : (most : ℕ) (v : ShortValue) (bits : List Bool) → WritesValue (Unsigned most) [] 0 (tree_of v) bits [] → NoNumber v → ⊥
only_unsigned most (short.Bool truth) bits w not = absurd w
only_unsigned most (short.Ordinal ordinal) bits w not = absurd w
only_unsigned most (short.Number z) bits w not = not z refl

pub only_signed : (least most : ℤ) (v : ShortValue) (bits : List Bool) → WritesValue (Signed least most) [] 0 (tree_of v) bits [] → NoNumber v → ⊥
only_signed least most (short.Bool truth) bits w not = absurd w
only_signed least most (short.Ordinal ordinal) bits w not = absurd w
only_signed least most (short.Number z) bits w not = not z refl

no_bytes : (most : ℕ) (v : ShortValue) (bits : List Bool) → WritesValue (Binary most) [] 0 (tree_of v) bits [] → ⊥
no_bytes most (short.Bool truth) bits w = absurd w
no_bytes most (short.Ordinal ordinal) bits w = absurd w
no_bytes most (short.Number z) bits w = absurd w

no_chars : (most : ℕ) (v : ShortValue) (bits : List Bool) → WritesValue (TextType most) [] 0 (tree_of v) bits [] → ⊥
no_chars most (short.Bool truth) bits w = absurd w
no_chars most (short.Ordinal ordinal) bits w = absurd w
no_chars most (short.Number z) bits w = absurd w

pub short_type : (d : Datatype) (v : ShortValue) (bits : List Bool) → WritesValue d [] 0 (tree_of v) bits [] → (d ≡ BoolType → ⊥) → ((count : ℕ) → d ≡ Named count → ⊥) → ((least : ℤ) (count : ℕ) → d ≡ Bounded least count → ⊥) →
    ((most : ℕ) → d ≡ Unsigned most → ⊥) → ((least most : ℤ) → d ≡ Signed least most → ⊥) → ⊥
short_type BoolType v bits w a b c e f = a refl
short_type (Named count) v bits w a b c e f = b count refl
short_type (Bounded least count) v bits w a b c e f = c least count refl
short_type (Unsigned most) v bits w a b c e f = e most refl
short_type (Signed least most) v bits w a b c e f = f least most refl
short_type (Binary most) v bits w a b c e f = no_bytes most v bits w
short_type (TextType most) v bits w a b c e f = no_chars most v bits w

-- ---- the value of a child

pub some_type : (o found : Option Datatype) (d e : Datatype) → found ≡ Some d → found ≡ o → o ≡ Some e → e ≡ d
some_type o found d e is same other = let both : Some d ≡ Some e = sym is ∙ same ∙ other in cc

pub no_type : (o found : Option Datatype) (e : Datatype) → found ≡ None → found ≡ o → o ≡ Some e → ⊥
no_type o found e is same other = let both : None ≡ Some e = sym is ∙ same ∙ other in cc

pub typed_short : (kinds : List PlainKind) (kind : ℕ) (value : Value) (may : MayWriteShort kinds kind value) (d : Datatype) → may.datatype ≡ d → WritesShort d value may.bits
typed_short kinds kind value may d is = subst (λ (x : Datatype). WritesShort x value may.bits) is may.written

pub same_long : (d : Datatype) (value : Value) (a b : List Bool) → ((entries : Entries) (name : ℕ) → WritesValue d entries name value a entries) → WritesShort d value b → length a ≡ length b
same_long d value a b one other = ap length (value_once d [] 0 value a b [] [] (one [] 0) (other.writes [] 0)).0
