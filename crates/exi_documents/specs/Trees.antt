-- W3C EXI 1.0 (Second Edition) 4, EXI Streams: a document as a tree of elements, and the events in which it is told.
use Rattle.std.specs.Prelude.{ℕ, ℤ, Bool, List, [], ◌∷◌, ◌++◌, map}

-- the value of an element or of an attribute. A text is its code points, a name of an enumeration is its ordinal
pub data Value : Type 0 where
  Truth : Bool → Value
  Ordinal : ℕ → Value
  Number : ℤ → Value
  Bytes : List ℕ → Value
  Text : List ℕ → Value

-- elements one behind the other, each with the number of its name: one with a value, or one with attributes and children. What
-- stands behind it comes last
pub data Trees : Type 0 where
  none : Trees
  simple : ℕ → Value → Trees → Trees
  complex : ℕ → List (ℕ × Value) → Trees → Trees → Trees

-- the root of a document
pub data Tree : Type 0 where
  Simple : ℕ → Value → Tree
  Complex : ℕ → List (ℕ × Value) → Trees → Tree

-- the root as elements of which there is one
abbrev pub alone : Tree → Trees
alone (Simple name value) = simple name value none
alone (Complex name attributes children) = complex name attributes children none

-- ---- events (Table 4-1)

-- a document's number, by which its root is named; the start of an element, an attribute, a value, the end of the element
pub data Event : Type 0 where
  Document : ℕ → Event
  Start : ℕ → Event
  Attribute : ℕ → Value → Event
  Content : Value → Event
  EndElement : Event

abbrev pub attribute_events : List (ℕ × Value) → List Event
attribute_events attributes = map (λ a. Attribute a.0 a.1) attributes

-- in document order
abbrev pub events_of : Trees → List Event
events_of none = []
events_of (simple name value more) = Start name ∷ Content value ∷ EndElement ∷ events_of more
events_of (complex name attributes children more) =
    Start name ∷ attribute_events attributes ++ events_of children ++ EndElement ∷ events_of more

abbrev pub document_events : ℕ → Tree → List Event
document_events number tree = Document number ∷ events_of (alone tree)
