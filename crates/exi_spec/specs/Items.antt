-- W3C EXI 1.0 (Second Edition) 7.1, Built-in EXI Datatype Representations: what bits spell an item, and
-- which items can't be taken. A bit list "from an item on" is all that is left of a document there.
use Rattle.std.specs.Prelude.{◌≡◌, ℕ, zero, suc, ℤ, pos, negsuc, ◌+◌, ◌*◌, ◌/◌, ◌%◌, ◌^◌, nat_lt, if◌then◌else◌, ◌<◌, ◌≤◌, ◌⊎◌, Bool, true, false, List, [], ◌∷◌, ◌++◌, length}
use Rattle.std.specs.List.{AllByRecursion}
use Rattle.std.specs.Char.{IsScalar}
use Rattle.exi_spec.specs.Bits.{number_bits, bits_of}
use Rattle.exi_spec.specs.declared.BitCause.{BitCause}
use Rattle.exi_spec.specs.declared.BitCause.TheVariants.{ShortInput, WiderInteger, BadChar}

-- 7.1.2 Boolean
abbrev pub SpellsBool : Bool → List Bool → Type 0
SpellsBool value bits = bits ≡ value ∷ []

-- 7.1.9 n-bit Unsigned Integer
pub record SpellsNumber (n value : ℕ) (bits : List Bool) : Type 0 where
  pub range : value < 2 ^ n
  pub spelled : bits ≡ number_bits n value

-- 7.1.6 Unsigned Integer: groups of 7 bits, each in an octet whose high bit says that more follow
abbrev pub octet : Bool → ℕ → List Bool
octet more group = more ∷ number_bits 7 group

-- octets behind each of which more follow
abbrev pub followed : List ℕ → List Bool
followed [] = []
followed (group ∷ groups) = octet true group ++ followed groups

-- the least significant group comes first
abbrev pub grouped : List ℕ → ℕ → ℕ
grouped [] last = last
grouped (group ∷ groups) last = group + 128 * grouped groups last

abbrev pub AreGroups : List ℕ → Type 0
AreGroups groups = AllByRecursion (λ group. group < 128) groups

-- in at most so many octets. The bound of 2 ^ 64 is own
pub record SpellsOctets (most value : ℕ) (bits : List Bool) : Type 0 where
  pub groups : List ℕ
  pub last : ℕ
  pub count : length groups < most
  pub groups_fit : AreGroups groups
  pub last_fits : last < 128
  pub value_is : value ≡ grouped groups last
  pub range : value < 2 ^ 64
  pub spelled : bits ≡ followed groups ++ octet false last

-- up to 10 octets are taken (own)
abbrev pub SpellsUnsigned : ℕ → List Bool → Type 0
SpellsUnsigned value bits = SpellsOctets 10 value bits

-- the shortest spelling (own): of groups behind which `more` may follow, no more than the value needs
unfoldable pub shortest_within : ℕ → ℕ → List Bool
shortest_within zero value = octet false value
shortest_within (suc more) value =
    if nat_lt value 128 then octet false value else octet true (value % 128) ++ shortest_within more (value / 128)

abbrev pub shortest_unsigned : ℕ → List Bool
shortest_unsigned value = shortest_within 9 value

-- 7.1.5 Integer: a sign bit, and v or, where v is negative, -v - 1
abbrev pub SpellsInteger : ℤ → List Bool → Type 0
SpellsInteger value [] = ⊥
SpellsInteger (pos n) (sign ∷ bits) = (sign ≡ false) × SpellsUnsigned n bits
SpellsInteger (negsuc n) (sign ∷ bits) = (sign ≡ true) × SpellsUnsigned n bits

abbrev pub shortest_integer : ℤ → List Bool
shortest_integer (pos n) = false ∷ shortest_unsigned n
shortest_integer (negsuc n) = true ∷ shortest_unsigned n

-- 7.1.1 Binary, behind its length: the bytes, at any bit
pub record SpellsBytes (bytes : List ℕ) (bits : List Bool) : Type 0 where
  pub range : AllByRecursion (λ byte. byte < 256) bytes
  pub spelled : bits ≡ bits_of bytes

-- 7.1.10 String: a character is the Unsigned Integer of its code point
pub record SpellsChar (char : ℕ) (bits : List Bool) : Type 0 where
  pub scalar : IsScalar char
  pub spelled : SpellsUnsigned char bits

-- the code points of a string, behind its length
abbrev pub SpellsChars : List ℕ → List Bool → Type 0
SpellsChars [] bits = bits ≡ []
SpellsChars (char ∷ chars) bits =
    (first : List Bool) × (rest : List Bool) × SpellsChar char first × SpellsChars chars rest × (bits ≡ first ++ rest)

abbrev pub shortest_chars : List ℕ → List Bool
shortest_chars [] = []
shortest_chars (char ∷ chars) = shortest_unsigned char ++ shortest_chars chars

-- the bits from an item on begin with its spelling
abbrev pub Begins : (List Bool → Type 0) → List Bool → Type 0
Begins Spells bits = (front : List Bool) × (rest : List Bool) × Spells front × (bits ≡ front ++ rest)

-- ---- What can't be taken (own), of the bits from the item on

-- fewer than n bits are left: for a Boolean, an n-bit number and the bytes of a Binary
abbrev pub RefusesBits : ℕ → List Bool → BitCause → Type 0
RefusesBits n bits ShortInput = length bits < n
RefusesBits n bits WiderInteger = ⊥
RefusesBits n bits BadChar = ⊥

-- the bits end in one of the octets
pub record EndsInOctets (most : ℕ) (bits : List Bool) : Type 0 where
  pub groups : List ℕ
  pub tail : List Bool
  pub count : length groups < most
  pub groups_fit : AreGroups groups
  pub short : length tail < 8
  pub there : bits ≡ followed groups ++ tail

-- the last octet that is allowed says that more follow
pub record PassesOctets (most : ℕ) (bits : List Bool) : Type 0 where
  pub groups : List ℕ
  pub tail : List Bool
  pub count : length groups ≡ most
  pub groups_fit : AreGroups groups
  pub there : bits ≡ followed groups ++ tail

-- the value is too large
pub record IsWideInOctets (most : ℕ) (bits : List Bool) : Type 0 where
  pub groups : List ℕ
  pub last : ℕ
  pub tail : List Bool
  pub count : length groups < most
  pub groups_fit : AreGroups groups
  pub last_fits : last < 128
  pub wide : 2 ^ 64 ≤ grouped groups last
  pub there : bits ≡ followed groups ++ (octet false last ++ tail)

abbrev pub RefusesOctets : ℕ → List Bool → BitCause → Type 0
RefusesOctets most bits ShortInput = EndsInOctets most bits
RefusesOctets most bits WiderInteger = PassesOctets most bits ⊎ IsWideInOctets most bits
RefusesOctets most bits BadChar = ⊥

abbrev pub RefusesUnsigned : List Bool → BitCause → Type 0
RefusesUnsigned bits cause = RefusesOctets 10 bits cause

-- at the sign bit, or at the Unsigned Integer behind it: which bit of the item's is refused
abbrev pub RefusesInteger : List Bool → BitCause → ℕ → Type 0
RefusesInteger [] cause at = RefusesBits 1 [] cause × (at ≡ 0)
RefusesInteger (sign ∷ bits) cause at = RefusesUnsigned bits cause × (at ≡ 1)

-- a number that is no character
abbrev pub SpellsNoChar : List Bool → Type 0
SpellsNoChar bits = (char : ℕ) × (¬ IsScalar char) × SpellsUnsigned char bits

abbrev pub RefusesChar : List Bool → BitCause → Type 0
RefusesChar bits BadChar = Begins SpellsNoChar bits
RefusesChar bits ShortInput = RefusesUnsigned bits ShortInput
RefusesChar bits WiderInteger = RefusesUnsigned bits WiderInteger

-- of n code points the first that can't be taken decides, at its own bit
pub record RefusesChars (n : ℕ) (bits : List Bool) (cause : BitCause) (at : ℕ) : Type 0 where
  pub chars : List ℕ
  pub front : List Bool
  pub rest : List Bool
  pub fewer : length chars < n
  pub spelled : SpellsChars chars front
  pub there : bits ≡ front ++ rest
  pub refused : RefusesChar rest cause
  pub place : at ≡ length front
