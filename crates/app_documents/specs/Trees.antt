-- ISO 15118-2:2014 section 8.2: what a request and a response contain.
use Rattle.std.specs.Prelude.{ℕ, pos, ◌<◌, ◌≤◌, ◌^◌, List, [], ◌∷◌, length, map, Option, Some, None}
use Rattle.std.specs.Char.{IsScalar}
use Rattle.std.specs.List.{AllByRecursion}
use Rattle.exi_documents.specs.Trees.{Ordinal, Number, Text, Tree}
use Rattle.message_parts.specs.Contents.{Inside, Of, Part, one, perhaps, each, mapped, holding, root_of}
use Rattle.app_schema.specs.declared.names.TheConstants.{REQUEST, RESPONSE, APP_PROTOCOL, NAMESPACE, MAJOR, MINOR, SCHEMA_ID, PRIORITY, RESPONSE_CODE}

-- one protocol that a car offers; its namespace is its code points
pub record Offered : Type 0 where
  pub namespace : List ℕ
  pub major : ℕ
  pub minor : ℕ
  pub schema : ℕ
  pub priority : ℕ

pub data Message : Type 0 where
  Request : List Offered → Message
  Response : (code : ℕ) → (schema : Option ℕ) → Message

-- within the declared ranges
pub record IsOffered (p : Offered) : Type 0 where
  pub namespace_fits : length p.namespace ≤ 100
  pub namespace_chars : AllByRecursion (λ char. IsScalar char) p.namespace
  pub major_fits : p.major < 2 ^ 32
  pub minor_fits : p.minor < 2 ^ 32
  pub schema_fits : p.schema < 256
  pub priority_least : 1 ≤ p.priority
  pub priority_most : p.priority ≤ 20

abbrev pub IsByte : Option ℕ → Type 0
IsByte None = Unit {0}
IsByte (Some schema) = schema < 256

-- a request has 1 to 20 protocols
abbrev pub IsMessage : Message → Type 0
IsMessage (Request protocols) = (1 ≤ length protocols) × (length protocols ≤ 20) × AllByRecursion (λ p. IsOffered p) protocols
IsMessage (Response code schema) = (code < 3) × IsByte schema

-- ---- trees

abbrev pub number : ℕ → Inside
number n = Of (Number (pos n))

abbrev pub offered_parts : Offered → List Part
offered_parts p =
    one NAMESPACE (Of (Text p.namespace)) ∷ one MAJOR (number p.major) ∷ one MINOR (number p.minor)
    ∷ one SCHEMA_ID (number p.schema) ∷ one PRIORITY (number p.priority) ∷ []

abbrev pub request_parts : List Inside → List Part
request_parts protocols = each APP_PROTOCOL protocols ∷ []

abbrev pub response_parts : ℕ → Option ℕ → List Part
response_parts code schema = one RESPONSE_CODE (Of (Ordinal code)) ∷ perhaps SCHEMA_ID (mapped number schema) ∷ []

abbrev pub inside_of : Message → Inside
inside_of (Request protocols) = holding (request_parts (map (λ p. holding (offered_parts p)) protocols))
inside_of (Response code schema) = holding (response_parts code schema)

abbrev pub name_of : Message → ℕ
name_of (Request protocols) = REQUEST
name_of (Response code schema) = RESPONSE

abbrev pub tree_of : Message → Tree
tree_of m = root_of (name_of m) (inside_of m)

-- the document number names which of the two it is
abbrev pub number_of : Message → ℕ
number_of (Request protocols) = 0
number_of (Response code schema) = 1
