-- Own: an element of three values of which the second may be absent, which are read at once.
use Rattle.std.specs.Prelude.{◌≡◌, ℕ, Bool, true, List, [], Option, Some, None, Result, IfOk, length}
use Rattle.exi_schema.specs.declared.tables.Datatype.{Datatype}
use Rattle.exi_schema.specs.Plain.{PlainKind, PlainParticle}
use Rattle.exi_schema.specs.Steps.{simple_at}
use Rattle.exi_events.specs.Trees.{Event, Value}
use Rattle.exi_events.specs.Refusal.{Refusal}
use Rattle.exi_events.specs.Short.{tree_of}
use Rattle.exi_events.specs.ShortValue.{ShortValue}
use Rattle.exi_events.specs.declared.optional.OptionalValues.{OptionalValues}
use Rattle.message_parts.specs.Contents.{Inside, Of, mapped, told_one, told_perhaps}
use Rattle.message_parts.specs.Particles.{name_at, kind_at, is_once_at, is_optional_at, takes_at}
use Rattle.message_parts.specs.Reading.{Frame, Seen, StartsAt, Reads}
use Rattle.message_parts.specs.Values.{IsRead}

-- three values of these datatypes, of which the second, of this name, may be absent, and nothing else
pub record HoldsPerhaps (ks : List PlainKind) (declared : List PlainParticle) (name : ℕ) (first second third : Datatype) : Type 0 where
  pub first_once : is_once_at declared 0 ≡ true
  pub second_once : is_optional_at declared 1 ≡ true
  pub third_once : is_once_at declared 2 ≡ true
  pub named : name ≡ name_at declared 1
  pub first_is : simple_at ks (kind_at declared 0) ≡ Some first
  pub second_is : simple_at ks (kind_at declared 1) ≡ Some second
  pub third_is : simple_at ks (kind_at declared 2) ≡ Some third

-- what is read is of these datatypes
abbrev pub IsReadPerhaps : Datatype → Option ShortValue → Type 0
IsReadPerhaps d None = Unit {0}
IsReadPerhaps d (Some v) = IsRead d (tree_of v)

abbrev pub AreReadPerhaps : Datatype → Datatype → Datatype → OptionalValues → Type 0
AreReadPerhaps first second third values =
    IsRead first (tree_of values.first) × IsReadPerhaps second values.second × IsRead third (tree_of values.third)

-- their events, the newest first, behind those told before
abbrev pub told_second : List PlainParticle → ℕ → Value → Option Inside → Value → List Event → List Event
told_second declared name first second third told =
    told_one (name_at declared 2) (Of third) (told_perhaps name second (told_one (name_at declared 0) (Of first) told))

abbrev pub inside_perhaps : Option ShortValue → Option Inside
inside_perhaps second = mapped (λ v. Of (tree_of v)) second

-- an element declares three values of datatypes that these take, of which the second, of this name, may be absent, and nothing else
pub record HoldsSecond (takes_first takes_second takes_third : Datatype → Bool) (name : ℕ) (ks : List PlainKind) (declared : List PlainParticle) : Type 0 where
  pub all : 3 ≡ length declared
  pub first_once : is_once_at declared 0 ≡ true
  pub first_is : takes_at takes_first ks declared 0 ≡ true
  pub second_once : is_optional_at declared 1 ≡ true
  pub second_is : takes_at takes_second ks declared 1 ≡ true
  pub named : name ≡ name_at declared 1
  pub third_once : is_once_at declared 2 ≡ true
  pub third_is : takes_at takes_third ks declared 2 ≡ true

-- where an element declares such values, they are read up to where there is no more
abbrev pub ReadsSecond : {T : Type 0} → (Datatype → Bool) → (Datatype → Bool) → (Datatype → Bool) → ℕ → (T → Value) → (T → Option Inside) → (T → Value) → Seen → Seen → Result T Refusal → Type 0
ReadsSecond takes_first takes_second takes_third name first second third old new result =
    (ks : List PlainKind) (F : Frame) (declared : List PlainParticle) (told : List Event) → StartsAt ks F [] declared 0 told old
    → HoldsSecond takes_first takes_second takes_third name ks declared
    → IfOk result (λ v. Reads ks F [] declared 3 (told_second declared name (first v) (second v) (third v) told) new)
