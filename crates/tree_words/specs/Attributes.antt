-- Own: the attributes of an element.
use Rattle.std.specs.Prelude.{ℕ, ◌==◌, Bool, true, false, List, [], ◌∷◌, Option, Some, None}
use Rattle.exi_documents.specs.Trees.{Value}
use Rattle.message_parts.specs.Contents.{Inside, Of, Holding}

abbrev pub given_in : Inside → List (ℕ × Value)
given_in (Of value) = []
given_in (Holding attributes children) = attributes

abbrev pub value_or : Bool → Value → Option Value → Option Value
value_or true value more = Some value
value_or false value more = more

-- the value of the first of this name
abbrev pub attribute_named : ℕ → List (ℕ × Value) → Option Value
attribute_named name [] = None
attribute_named name (a ∷ attributes) = value_or (a.0 == name) a.1 (attribute_named name attributes)
