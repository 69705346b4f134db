-- Own: what follows at a place of a sequence of values.
use Rattle.std.specs.Prelude.{◌≡◌, ℕ, List, [], ◌∷◌, false, Some, slice_get}
use Rattle.exi_schema.specs.declared.places.Place.{Place}
use Rattle.exi_schema.specs.declared.places.SequenceChild.{SequenceChild}
use Rattle.exi_schema.specs.declared.places.Step.{Step}
use Rattle.exi_schema.specs.declared.places.Step.TheVariants.{Element}
use Rattle.exi_schema.specs.declared.tables.MemberStanding.TheVariants.{Taken}
use Rattle.exi_schema.specs.Offers.{IsPlace, offers}
use Rattle.exi_schema.specs.Plain.{PlainKind}
use Rattle.exi_schema.specs.Sequences.{IsSequence}
use Rattle.exi_schema.specs.Steps.{simple_at}
use Rattle.exi_tables.specs.declared.optional.ChildStep.{ChildStep}
use Rattle.exi_tables.specs.declared.sequences.Following.{Following}
use Rattle.exi_tables.specs.declared.sequences.Following.TheVariants.{Child, End}

-- a child that begins each sequence that goes on behind it, and each sequence from here on, or the end
abbrev pub IsFollowed : List PlainKind → Place → Following → Type 0
IsFollowed kinds here (Child child next) =
    IsPlace kinds next
    × ((children : List SequenceChild) → IsSequence kinds next children → IsSequence kinds here (child ∷ children))
    × ((all : List SequenceChild) → IsSequence kinds here all → (rest : List SequenceChild) × (all ≡ child ∷ rest) × IsSequence kinds next rest)
IsFollowed kinds here End = IsSequence kinds here [] × ((all : List SequenceChild) → IsSequence kinds here all → all ≡ [])

-- no sequence goes on from here
abbrev pub NoSequence : List PlainKind → Place → Type 0
NoSequence kinds here = (all : List SequenceChild) → IsSequence kinds here all → ⊥

-- ---- a sequence of three values, of which the second may be absent

abbrev pub step_of : ChildStep → Step
step_of it = Element it.child.name it.kind it.next Taken false

-- a code starts this child, which has a value
abbrev pub IsChildStep : List PlainKind → Place → ℕ → ChildStep → Type 0
IsChildStep kinds here code it = (slice_get (offers kinds here) code ≡ Some (step_of it)) × (simple_at kinds it.kind ≡ Some it.child.datatype)

-- it is the one thing at a place, or the first of two
abbrev pub IsOnlyChild : List PlainKind → Place → ChildStep → Type 0
IsOnlyChild kinds here it = (offers kinds here ≡ step_of it ∷ []) × (simple_at kinds it.kind ≡ Some it.child.datatype)

abbrev pub IsOptionalChild : List PlainKind → Place → ChildStep → Type 0
IsOptionalChild kinds here it = (other : Step) × (offers kinds here ≡ step_of it ∷ other ∷ []) × (simple_at kinds it.kind ≡ Some it.child.datatype)
