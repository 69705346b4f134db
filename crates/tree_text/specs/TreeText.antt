-- Own: the text of a tree of a schema, in UTF-8. An element with attributes or children is `Name{..}`, with one space between them; one
-- without any is `Name{}`. A simple element is `Name=VALUE`, an attribute `@Name=VALUE`.
use Rattle.std.specs.Prelude.{◌≡◌, ℕ, List, [], ◌∷◌, ◌++◌, codes, Some, slice_get}
use Rattle.std.specs.List.{join_with_byte}
use Rattle.exi_schema.specs.declared.places.Place.{Place}
use Rattle.exi_schema.specs.declared.places.Root.TheVariants.{Kind}
use Rattle.exi_schema.specs.declared.places.Step.{Step}
use Rattle.exi_schema.specs.declared.places.Step.TheVariants as step
use Rattle.exi_schema.specs.Schemas.{PlainSchema}
use Rattle.exi_schema.specs.Offers.{offers}
use Rattle.exi_schema.specs.Steps.{IsRoot}
use Rattle.exi_documents.specs.Documents.{element, first, name_of}
use Rattle.exi_documents.specs.Trees.{Value, Trees, none, simple, complex, Tree, Simple, Complex}
pub use Rattle.value_text.specs.ValueText.{character_text, quoted, truth_text, IsValueText, IsName, IsNamedText}

-- ---- elements and attributes

-- parts behind the name of the element that they stand in
abbrev pub braced : List ℕ → List (List ℕ) → List ℕ
braced word parts = word ++ codes "{" ++ join_with_byte 32 parts ++ codes "}"

-- a step is offered at a place
abbrev pub IsOffered : PlainSchema → Place → Step → Type 0
IsOffered s here step = (code : ℕ) × (slice_get (offers s.kinds here) code ≡ Some step)

-- attributes from a place on, each with its text, and the place behind them
abbrev pub AreAttributeTexts : PlainSchema → Place → List (ℕ × Value) → List (List ℕ) → Place → Type 0
AreAttributeTexts s here [] texts there = (texts ≡ []) × (there ≡ here)
AreAttributeTexts s here (attribute ∷ attributes) texts there =
    (kind : ℕ) × (next : Place) × (text : List ℕ) × (rest : List (List ℕ))
    × IsOffered s here (step.Attribute attribute.0 kind next)
    × IsNamedText s attribute.0 kind attribute.1 text
    × AreAttributeTexts s next attributes rest there
    × (texts ≡ (codes "@" ++ text) ∷ rest)

-- elements from a place on, each with its text
abbrev pub AreTreeTexts : PlainSchema → Place → Trees → List (List ℕ) → Type 0
AreTreeTexts s here none texts = texts ≡ []
AreTreeTexts s here (simple name value more) texts =
    (kind : ℕ) × (next : Place) × (text : List ℕ) × (rest : List (List ℕ))
    × IsOffered s here (element name kind next)
    × IsNamedText s name kind value text
    × AreTreeTexts s next more rest
    × (texts ≡ text ∷ rest)
AreTreeTexts s here (complex name attributes children more) texts =
    (kind : ℕ) × (next : Place) × (there : Place) × (word : List ℕ) × (front : List (List ℕ)) × (inside : List (List ℕ)) × (rest : List (List ℕ))
    × IsOffered s here (element name kind next)
    × IsName s name word
    × AreAttributeTexts s (first kind) attributes front there
    × AreTreeTexts s there children inside
    × AreTreeTexts s next more rest
    × (texts ≡ braced word (front ++ inside) ∷ rest)

-- the root, an element of its kind
abbrev pub IsRootText : PlainSchema → ℕ → Tree → List ℕ → Type 0
IsRootText s kind (Simple name value) text = IsNamedText s name kind value text
IsRootText s kind (Complex name attributes children) text =
    (there : Place) × (word : List ℕ) × (front : List (List ℕ)) × (inside : List (List ℕ))
    × IsName s name word
    × AreAttributeTexts s (first kind) attributes front there
    × AreTreeTexts s there children inside
    × (text ≡ braced word (front ++ inside))

-- the text of a tree whose root the schema names
pub record IsTreeText (s : PlainSchema) (tree : Tree) (text : List ℕ) : Type 0 where
  pub number : ℕ
  pub kind : ℕ
  pub named : IsRoot s.roots s.root_bits number (Kind (name_of tree) kind)
  pub written : IsRootText s kind tree text
