-- Own: how many bits are written for a tree at most, by adding up, where no code of its schema has more than `width` bits. After W3C
-- EXI 1.0 (Second Edition) 6.2, Event Codes, and 7.1, Built-in EXI Datatype Representations.
use Rattle.std.specs.Prelude.{ℕ, ◌+◌, ◌*◌, ◌^◌, ◌&&◌, max, nat_lt, nat_le, Bool, true, List, [], ◌∷◌, length, Option, Some, None}
use Rattle.std.specs.List.{list_all}
use Rattle.exi_schema.specs.Counts.{element_total}
use Rattle.exi_schema.specs.declared.tables.Datatype.{Datatype}
use Rattle.exi_schema.specs.declared.tables.Datatype.TheVariants.{Bool as BoolType, Named, Bounded, Unsigned, Signed, Binary, Text as TextType}
use Rattle.exi_schema.specs.Plain.{PlainKind, valued, containing, PlainParticle}
use Rattle.exi_schema.specs.Schemas.{PlainSchema}
use Rattle.exi_documents.specs.Trees.{Value, Truth, Ordinal, Number, Bytes, Text, Trees, none, simple, complex, Tree, Simple, Complex}
use Rattle.message_parts.specs.Contents.{Inside, Of, Holding, Given, given, perhaps_given, Part, one, perhaps, each, perhaps_one}

-- ---- a schema of narrow codes

-- of the elements of a kind, with the end, so many are offered at one place at most
abbrev pub most_elements : List PlainParticle → ℕ
most_elements [] = 1
most_elements (particle ∷ particles) = max (length particle.members + element_total 0 particles) (most_elements particles)

abbrev pub most_offers : PlainKind → ℕ
most_offers (valued datatype) = 1
most_offers (containing attributes particles) = length attributes + most_elements particles

-- a name of an enumeration is a code too. A bounded integer has 12 bits at most, and a length three octets
abbrev pub is_narrow_datatype : ℕ → Datatype → Bool
is_narrow_datatype width BoolType = true
is_narrow_datatype width (Named count) = nat_le count (2 ^ width)
is_narrow_datatype width (Bounded least count) = nat_le count 4096
is_narrow_datatype width (Unsigned most) = true
is_narrow_datatype width (Signed least most) = true
is_narrow_datatype width (Binary most) = nat_lt (most + 2) (2 ^ 21)
is_narrow_datatype width (TextType most) = nat_lt (most + 2) (2 ^ 21)

abbrev pub is_narrow_content : ℕ → PlainKind → Bool
is_narrow_content width (valued datatype) = is_narrow_datatype width datatype
is_narrow_content width (containing attributes particles) = true

-- at each place a code tells the offers and the escape behind them apart in so many bits
abbrev pub is_narrow : ℕ → PlainKind → Bool
is_narrow width kind = nat_lt (most_offers kind) (2 ^ width) && is_narrow_content width kind

abbrev pub has_narrow_codes : ℕ → PlainSchema → Bool
has_narrow_codes width s = list_all (is_narrow width) s.kinds

-- ---- trees

-- an Unsigned Integer has ten octets at most; one of a sign, a bit more. In front of bytes and characters stand a length, or for a
-- text that has been there an octet and its index. A character has three octets at most
abbrev pub value_weight : ℕ → Value → ℕ
value_weight width (Truth truth) = 1
value_weight width (Ordinal ordinal) = width
value_weight width (Number v) = 81
value_weight width (Bytes bytes) = 24 + 8 * length bytes
value_weight width (Text chars) = 24 + 24 * length chars

-- a value between the codes of its characters and of its end, which are the only ones of their places
abbrev pub simple_weight : ℕ → Value → ℕ
simple_weight width value = 2 + value_weight width value

abbrev pub attributes_weight : ℕ → List (ℕ × Value) → ℕ
attributes_weight width [] = 0
attributes_weight width (attribute ∷ attributes) = width + (value_weight width attribute.1 + attributes_weight width attributes)

-- elements, and the end of the one that they stand in
abbrev pub trees_weight : ℕ → Trees → ℕ
trees_weight width none = width
trees_weight width (simple name value more) = width + (simple_weight width value + trees_weight width more)
trees_weight width (complex name attributes children more) =
    width + (attributes_weight width attributes + (trees_weight width children + trees_weight width more))

-- the root, which has no code of its own
abbrev pub tree_weight : ℕ → Tree → ℕ
tree_weight width (Simple name value) = simple_weight width value
tree_weight width (Complex name attributes children) = attributes_weight width attributes + trees_weight width children

-- with the header and the document number
abbrev pub document_weight : ℕ → PlainSchema → Tree → ℕ
document_weight width s tree = 8 + (s.root_bits + tree_weight width tree)

-- ---- parts

abbrev pub inside_weight : ℕ → Inside → ℕ
inside_weight width (Of value) = simple_weight width value
inside_weight width (Holding attributes children) = attributes_weight width attributes + trees_weight width children

abbrev pub perhaps_value_weight : ℕ → Option Value → ℕ
perhaps_value_weight width None = 0
perhaps_value_weight width (Some value) = width + value_weight width value

abbrev pub given_weight : ℕ → List Given → ℕ
given_weight width [] = 0
given_weight width (given name value ∷ more) = (width + value_weight width value) + given_weight width more
given_weight width (perhaps_given name value ∷ more) = perhaps_value_weight width value + given_weight width more

-- an element and the code that starts it
abbrev pub element_weight : ℕ → Inside → ℕ
element_weight width inside = width + inside_weight width inside

abbrev pub perhaps_weight : ℕ → Option Inside → ℕ
perhaps_weight width None = 0
perhaps_weight width (Some inside) = element_weight width inside

abbrev pub each_weight : ℕ → List Inside → ℕ
each_weight width [] = 0
each_weight width (inside ∷ insides) = element_weight width inside + each_weight width insides

abbrev pub choice_weight : ℕ → Option (ℕ × Inside) → ℕ
choice_weight width None = 0
choice_weight width (Some chosen) = element_weight width chosen.1

abbrev pub part_weight : ℕ → Part → ℕ
part_weight width (one name inside) = element_weight width inside
part_weight width (perhaps name inside) = perhaps_weight width inside
part_weight width (each name insides) = each_weight width insides
part_weight width (perhaps_one choice) = choice_weight width choice

-- the parts of an element, and its end
abbrev pub parts_weight : ℕ → List Part → ℕ
parts_weight width [] = width
parts_weight width (part ∷ parts) = part_weight width part + parts_weight width parts
