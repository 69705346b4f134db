-- Own: an element of three values, which are read at once.
use Rattle.std.specs.Prelude.{◌≡◌, List, [], Bool, true, Some, Result, IfOk, length}
use Rattle.exi_schema.specs.declared.tables.Datatype.{Datatype}
use Rattle.exi_schema.specs.Plain.{PlainKind, PlainParticle}
use Rattle.exi_schema.specs.Steps.{simple_at}
use Rattle.exi_events.specs.Trees.{Event, Value}
use Rattle.exi_events.specs.Refusal.{Refusal}
use Rattle.exi_events.specs.Short.{tree_of}
use Rattle.exi_events.specs.declared.sequence.ThreeValues.{ThreeValues}
use Rattle.message_parts.specs.Contents.{Of, told_one}
use Rattle.message_parts.specs.Particles.{name_at, kind_at, is_once_at, takes_at}
use Rattle.message_parts.specs.Reading.{Frame, Seen, StartsAt, Reads}
use Rattle.message_parts.specs.Values.{IsRead}

-- three values of these datatypes, each of which has to be there, and nothing else
pub record HoldsThree (ks : List PlainKind) (declared : List PlainParticle) (first second third : Datatype) : Type 0 where
  pub once : (is_once_at declared 0 ≡ true) × (is_once_at declared 1 ≡ true) × (is_once_at declared 2 ≡ true)
  pub first_is : simple_at ks (kind_at declared 0) ≡ Some first
  pub second_is : simple_at ks (kind_at declared 1) ≡ Some second
  pub third_is : simple_at ks (kind_at declared 2) ≡ Some third

-- three values that are read are of these datatypes
abbrev pub AreRead : Datatype → Datatype → Datatype → ThreeValues → Type 0
AreRead first second third three =
    IsRead first (tree_of three.first) × IsRead second (tree_of three.second) × IsRead third (tree_of three.third)

-- their events, the newest first, behind those told before
abbrev pub told_three : List PlainParticle → Value → Value → Value → List Event → List Event
told_three declared first second third told =
    told_one (name_at declared 2) (Of third) (told_one (name_at declared 1) (Of second) (told_one (name_at declared 0) (Of first) told))

abbrev pub told_values : List PlainParticle → ThreeValues → List Event → List Event
told_values declared three told = told_three declared (tree_of three.first) (tree_of three.second) (tree_of three.third) told

-- an element declares three values that each have to be there, of datatypes that these take, and nothing else
pub record HoldsValues (takes_first takes_second takes_third : Datatype → Bool) (ks : List PlainKind) (declared : List PlainParticle) : Type 0 where
  pub all : 3 ≡ length declared
  pub first_once : is_once_at declared 0 ≡ true
  pub first_is : takes_at takes_first ks declared 0 ≡ true
  pub second_once : is_once_at declared 1 ≡ true
  pub second_is : takes_at takes_second ks declared 1 ≡ true
  pub third_once : is_once_at declared 2 ≡ true
  pub third_is : takes_at takes_third ks declared 2 ≡ true

-- where an element declares such values, they are read up to where there is no more
abbrev pub ReadsThree : {T : Type 0} → (Datatype → Bool) → (Datatype → Bool) → (Datatype → Bool) → (T → Value) → (T → Value) → (T → Value) → Seen → Seen → Result T Refusal → Type 0
ReadsThree takes_first takes_second takes_third first second third old new result =
    (ks : List PlainKind) (F : Frame) (declared : List PlainParticle) (told : List Event) → StartsAt ks F [] declared 0 told old
    → HoldsValues takes_first takes_second takes_third ks declared
    → IfOk result (λ v. Reads ks F [] declared 3 (told_three declared (first v) (second v) (third v) told) new)
