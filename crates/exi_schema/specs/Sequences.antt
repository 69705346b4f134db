-- W3C EXI 1.0 (Second Edition) 8.5.4, Schema-informed Element and Type Grammars: elements in which one thing alone may stand at each
-- place.
use Rattle.std.specs.Prelude.{◌≡◌, ℕ, ◌≤◌, false, List, [], ◌∷◌, length, Some, ◌⊎◌}
use Rattle.exi_schema.specs.declared.places.Place.{Place}
use Rattle.exi_schema.specs.declared.places.OptionalSequence.{OptionalSequence}
use Rattle.exi_schema.specs.declared.places.SequenceChild.{SequenceChild}
use Rattle.exi_schema.specs.declared.places.Step.TheVariants.{Element, End}
use Rattle.exi_schema.specs.declared.tables.MemberStanding.TheVariants.{Taken}
use Rattle.exi_schema.specs.Plain.{PlainKind}
use Rattle.exi_schema.specs.Offers.{offers}
use Rattle.exi_schema.specs.Steps.{simple_at}

-- from this place on one of these children after the other, each with a value, and then the end
abbrev pub IsSequence : List PlainKind → Place → List SequenceChild → Type 0
IsSequence kinds here [] = offers kinds here ≡ End ∷ []
IsSequence kinds here (child ∷ children) =
    (kind : ℕ) × (next : Place)
    × (offers kinds here ≡ Element child.name kind next Taken false ∷ [])
    × (simple_at kinds kind ≡ Some child.datatype)
    × IsSequence kinds next children

-- what is answered of a kind: the children of such a sequence, or nothing
abbrev pub TellsSequence : List PlainKind → Place → List SequenceChild → Type 0
TellsSequence kinds here children = (children ≡ []) ⊎ IsSequence kinds here children

-- these are the children of the sequence from here on, if there is one of at most eight
abbrev pub KeepsSequence : List PlainKind → Place → List SequenceChild → Type 0
KeepsSequence kinds here children = (all : List SequenceChild) → IsSequence kinds here all → length all ≤ 8 → children ≡ all

-- from this place on the first of these children, the second or not, and the third, each with a value, and then the end: where the second
-- may stand, what follows behind it may stand too
pub record IsOptionalSequence (kinds : List PlainKind) (here : Place) (children : OptionalSequence) : Type 0 where
  pub first_kind : ℕ
  pub second_kind : ℕ
  pub behind_first : Place
  pub behind_second : Place
  pub first_only : offers kinds here ≡ Element children.first.name first_kind behind_first Taken false ∷ []
  pub first_simple : simple_at kinds first_kind ≡ Some children.first.datatype
  pub second_also : offers kinds behind_first ≡ Element children.second.name second_kind behind_second Taken false ∷ offers kinds behind_second
  pub second_simple : simple_at kinds second_kind ≡ Some children.second.datatype
  pub third_only : IsSequence kinds behind_second (children.third ∷ [])
