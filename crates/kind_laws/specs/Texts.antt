-- Own: the texts of a tree, of which a document enters no more than 8,192.
use Rattle.std.specs.Prelude.{◌≡◌, ℕ, ◌≤◌, List, [], ◌∷◌, ◌++◌, length, Some, slice_get}
use Rattle.std.specs.List.{AllByRecursion}
use Rattle.exi_documents.specs.Trees.{Value, Truth, Ordinal, Number, Bytes, Text, Trees, none, simple, complex, Tree, alone}
use Rattle.exi_documents.specs.Values.{most_entries}

-- a text that isn't empty
abbrev pub text_in : Value → List (List ℕ)
text_in (Truth truth) = []
text_in (Ordinal ordinal) = []
text_in (Number v) = []
text_in (Bytes bytes) = []
text_in (Text []) = []
text_in (Text (char ∷ chars)) = (char ∷ chars) ∷ []

abbrev pub attribute_texts : List (ℕ × Value) → List (List ℕ)
attribute_texts [] = []
attribute_texts (attribute ∷ attributes) = text_in attribute.1 ++ attribute_texts attributes

-- the texts of elements that aren't empty, in document order
abbrev pub texts_of : Trees → List (List ℕ)
texts_of none = []
texts_of (simple name value more) = text_in value ++ texts_of more
texts_of (complex name attributes children more) = attribute_texts attributes ++ (texts_of children ++ texts_of more)

-- it is one of these texts
abbrev pub IsAmong : List (List ℕ) → List ℕ → Type 0
IsAmong texts text = (k : ℕ) × (slice_get texts k ≡ Some text)

-- the different texts of a tree are no more than a document may enter
pub record HasFewTexts (tree : Tree) : Type 0 where
  pub different : List (List ℕ)
  pub few : length different ≤ most_entries
  pub each : AllByRecursion (IsAmong different) (texts_of (alone tree))
