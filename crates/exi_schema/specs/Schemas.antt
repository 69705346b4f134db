-- Own: the conditions on a schema, each as a test, so that those of a written table are computed.
use Rattle.std.specs.Prelude.{◌≡◌, ℕ, zero, suc, ℤ, pos, negsuc, ◌+◌, ◌^◌, ◌==◌, ◌&&◌, ◌||◌, nat_lt, nat_le, unsigned_abs, not, Bool, true, false, if◌then◌else◌, List, [], ◌∷◌, length, drop, map, Option, Some, None, slice_get}
use Rattle.std.specs.List.{list_any, list_all}
use Rattle.std.specs.Int.Signed.{le_z}
use Rattle.exi_schema.specs.declared.tables.AttributeOf.{AttributeOf}
use Rattle.exi_schema.specs.declared.tables.Datatype.{Datatype}
use Rattle.exi_schema.specs.declared.tables.Datatype.TheVariants.{Bool as BoolType, Named, Bounded, Unsigned, Signed, Binary, Text}
use Rattle.exi_schema.specs.Plain.{PlainKind, valued, containing, PlainParticle}
use Rattle.exi_schema.specs.declared.tables.MemberStanding.{MemberStanding}
use Rattle.exi_schema.specs.declared.tables.MemberStanding.TheVariants.{Taken, Abstract, OutOfProfile}
use Rattle.exi_schema.specs.declared.tables.RootOf.{RootOf}
use Rattle.exi_schema.specs.declared.places.Step.{Step}
use Rattle.exi_schema.specs.declared.places.Step.TheVariants.{Attribute, Element, End, Characters}
use Rattle.exi_schema.specs.Offers.{offers_in, leaves_room}

-- ---- a particle

abbrev pub is_taken : MemberStanding → Bool
is_taken Taken = true
is_taken Abstract = false
is_taken OutOfProfile = false

-- a maximum is at least 1, at least the minimum, and below 65,536
abbrev pub is_most : ℕ → Option ℕ → Bool
is_most least None = true
is_most least (Some most) = nat_le 1 most && nat_le least most && nat_lt most 65536

-- what has to be there can be
abbrev pub can_be_there : PlainParticle → Bool
can_be_there particle =
    particle.least == 0
    || (nat_le particle.least particle.profile && list_any (λ member. is_taken member.standing) particle.members)

-- its members' names and kinds are the schema's
abbrev pub is_particle : ℕ → ℕ → PlainParticle → Bool
is_particle names kinds particle =
    is_most particle.least particle.most
    && nat_lt particle.profile 65536
    && can_be_there particle
    && list_all (λ member. nat_lt member.name names && nat_lt member.kind kinds) particle.members

-- ---- a kind

abbrev pub is_simple : Option PlainKind → Bool
is_simple (Some (valued datatype)) = true
is_simple (Some (containing attributes particles)) = false
is_simple None = false

abbrev pub is_attribute : ℕ → List PlainKind → AttributeOf → Bool
is_attribute names kinds attribute = nat_lt attribute.name names && is_simple (slice_get kinds attribute.kind)

-- a number of 64 bits with a sign
abbrev pub is_signed : ℤ → Bool
is_signed (pos n) = nat_lt n (2 ^ 63)
is_signed (negsuc n) = nat_lt n (2 ^ 63)

-- the least count, the order of the bounds, and that each bound is a number of its type
abbrev pub is_datatype : Datatype → Bool
is_datatype BoolType = true
is_datatype (Named count) = nat_le 1 count
is_datatype (Bounded least count) = nat_le 1 count && nat_lt (unsigned_abs least + count) (2 ^ 64)
is_datatype (Unsigned most) = nat_lt most (2 ^ 64)
is_datatype (Signed least most) = le_z least most && is_signed least && is_signed most
is_datatype (Binary most) = nat_lt most (2 ^ 32)
is_datatype (Text most) = nat_lt most (2 ^ 32)

-- a test of each number up to one
abbrev pub each_to : ℕ → (ℕ → Bool) → Bool
each_to zero test = test 0
each_to (suc n) test = test (suc n) && each_to n test

-- copies of the first particle at which more is offered than at fewer: those at which its minimum is met, if another may follow
abbrev pub widest : List PlainParticle → ℕ
widest [] = 0
widest (particle ∷ particles) = if leaves_room particle.most particle.least then particle.least else 0

-- the names of the attributes and of the elements that are offered
abbrev pub attribute_names : List Step → List ℕ
attribute_names [] = []
attribute_names (Attribute name kind next ∷ steps) = name ∷ attribute_names steps
attribute_names (Element name kind next standing past_limit ∷ steps) = attribute_names steps
attribute_names (End ∷ steps) = attribute_names steps
attribute_names (Characters next ∷ steps) = attribute_names steps

abbrev pub element_names : List Step → List ℕ
element_names [] = []
element_names (Element name kind next standing past_limit ∷ steps) = name ∷ element_names steps
element_names (Attribute name kind next ∷ steps) = element_names steps
element_names (End ∷ steps) = element_names steps
element_names (Characters next ∷ steps) = element_names steps

abbrev pub are_distinct : List ℕ → Bool
are_distinct [] = true
are_distinct (n ∷ ns) = not (list_any (λ m. m == n) ns) && are_distinct ns

-- no more codes than fit 16 bits, and no two attributes and no two elements of one name
abbrev pub are_offers : List Step → Bool
are_offers steps =
    nat_le (length steps) 65535 && are_distinct (attribute_names steps) && are_distinct (element_names steps)

abbrev pub is_declaration : ℕ → List PlainKind → PlainKind → Bool
is_declaration names kinds (valued datatype) = is_datatype datatype
is_declaration names kinds (containing attributes particles) =
    nat_le (length attributes) 65535
    && nat_le (length particles) 65535
    && list_all (is_attribute names kinds) attributes
    && list_all (is_particle names (length kinds)) particles
    && each_to (length attributes) (λ a. each_to (length particles) (λ p. are_offers
    (offers_in (record { kind = 0; particle = p; copies = widest (drop p particles); attributes = a })
    (containing attributes particles))))

-- ---- depth: no element inside one of the kind stands deeper than so many

abbrev pub particles_of : Option PlainKind → List PlainParticle
particles_of (Some (containing attributes particles)) = particles
particles_of (Some (valued datatype)) = []
particles_of None = []

abbrev pub is_within : List PlainKind → ℕ → ℕ → Bool
is_within kinds zero kind = false
is_within kinds (suc depth) kind =
    list_all (λ particle. list_all (λ member. is_within kinds depth member.kind) particle.members) (particles_of (slice_get kinds kind))

-- ---- roots

abbrev pub is_root : ℕ → ℕ → List PlainKind → RootOf → Bool
is_root bits names kinds root =
    nat_lt root.number (2 ^ bits)
    && not (bits == 2 && root.number == 3)
    && nat_lt root.name names
    && nat_lt root.kind (length kinds)
    && is_within kinds 16 root.kind

abbrev pub are_roots : ℕ → ℕ → List PlainKind → List RootOf → Bool
are_roots bits names kinds roots =
    nat_le 1 (length roots)
    && nat_le bits 32
    && list_all (is_root bits names kinds) roots
    && are_distinct (map (λ root. root.number) roots)
    && are_distinct (map (λ root. root.name) roots)

-- ---- a whole schema. Where no chain of elements is longer than there are kinds, no kind leads back to itself

abbrev pub are_kinds : ℕ → List PlainKind → Bool
are_kinds names kinds =
    list_all (is_declaration names kinds) kinds
    && each_to (length kinds) (λ kind. is_within kinds (length kinds) kind)

-- ---- texts of names and of enumeration values

abbrev pub same_text : List ℕ → List ℕ → Bool
same_text [] [] = true
same_text [] (d ∷ ds) = false
same_text (c ∷ cs) [] = false
same_text (c ∷ cs) (d ∷ ds) = c == d && same_text cs ds

-- a letter, a digit or _
abbrev pub is_word_char : ℕ → Bool
is_word_char c =
    (nat_le 48 c && nat_le c 57) || (nat_le 65 c && nat_le c 90) || (nat_le 97 c && nat_le c 122) || c == 95

abbrev pub is_word : List ℕ → Bool
is_word text = nat_le 1 (length text) && list_all is_word_char text

-- words, no two of them the same
abbrev pub are_words : List (List ℕ) → Bool
are_words [] = true
are_words (text ∷ texts) = is_word text && not (list_any (same_text text) texts) && are_words texts

-- how many values an enumeration has
abbrev pub value_count : PlainKind → ℕ
value_count (valued (Named count)) = count
value_count _ = 0

-- for each kind the texts of its values
abbrev pub are_values : List PlainKind → List (List (List ℕ)) → Bool
are_values [] [] = true
are_values [] (texts ∷ more) = false
are_values (kind ∷ kinds) [] = false
are_values (kind ∷ kinds) (texts ∷ more) = length texts == value_count kind && are_words texts && are_values kinds more

abbrev pub is_schema : List PlainKind → List (List ℕ) → List (List (List ℕ)) → ℕ → List RootOf → Bool
is_schema kinds names values bits roots =
    are_kinds (length names) kinds
    && are_roots bits (length names) kinds roots
    && are_words names
    && are_values kinds values

-- a schema: what its kinds contain, the texts of its names and for each kind those of its values, how many bits a document number
-- has, and what may be the root. It meets the conditions
pub record PlainSchema : Type 0 where
  pub kinds : List PlainKind
  pub names : List (List ℕ)
  pub values : List (List (List ℕ))
  pub root_bits : ℕ
  pub roots : List RootOf
  pub fits : is_schema kinds names values root_bits roots ≡ true
