-- Three values that are read at once, and the end of their element.
use Rattle.std.proofs.Common.{◌≡◌, ℕ, suc, List, [], Option, Some, None, true, refl, sym, ◌∙◌}
use Rattle.exi_schema.specs.declared.tables.AttributeOf.{AttributeOf}
use Rattle.exi_schema.specs.declared.tables.Datatype.{Datatype}
use Rattle.exi_schema.specs.Plain.{PlainKind, PlainParticle}
use Rattle.exi_schema.specs.Steps.{simple_at}
use Rattle.exi_events.specs.Trees.{Event, Start, EndElement}
use Rattle.exi_events.specs.Event.TheVariants as read
use Rattle.exi_events.specs.Value.{Value as ReadValue}
use Rattle.exi_events.specs.Value.TheVariants as read_value
use Rattle.exi_events.specs.Short.{tree_of}
use Rattle.exi_events.specs.ShortValue.{ShortValue}
use Rattle.exi_events.specs.ShortValue.TheVariants as short
use Rattle.exi_events.specs.Meaning.{value_of}
use Rattle.exi_events.specs.Reader.{Reading, reading}
use Rattle.exi_events.specs.Sequence.{TakesChild, TakesEnd, TakesSequence, values_of}
use Rattle.exi_events.specs.declared.sequence.ThreeValues.{ThreeValues}
use Rattle.message_parts.specs.Contents.{Of, told_one}
use Rattle.message_parts.specs.Particles.{name_at, kind_at, is_once_at}
use Rattle.message_parts.specs.Reading.{Frame, Seen, StartsAt, IsBetween, Reads}
use Rattle.message_parts.specs.Sequence.{HoldsThree, AreRead, told_values}
use Rattle.message_parts.specs.Values.{IsRead}
use Rattle.message_parts.proofs.Attributes.{begins}
use Rattle.message_parts.proofs.Next.{reads_next, value_next, tells}
use Rattle.message_parts.proofs.Singles.{enters_once, behind_once}

-- how far a descent is
abbrev pub reading_in : Seen → Reading
reading_in d = reading d.schema d.state d.cursor

-- where a descent stands between the events that are taken at once
abbrev pub seen_at : Reading → Option ℕ → Seen
seen_at r child = record { schema = r.schema; state = r.state; cursor = r.cursor; refused = None; child = child }

-- ---- a child with a value, and the end

module _ (ks : List PlainKind) (F : Frame) (attributes : List AttributeOf) (declared : List PlainParticle) (at : ℕ) (told : List Event) (old new : Seen)
    (h : IsBetween ks F attributes declared at 0 told old) (same : new.schema ≡ old.schema) (bits : new.cursor.bits ≡ old.cursor.bits) (open_still : new.refused ≡ None) where
  pub child_next : (d : Datatype) (v : ReadValue) (name : ℕ) → is_once_at declared at ≡ true → simple_at ks (kind_at declared at) ≡ Some d →
      TakesChild (reading_in old) (reading_in new) name (value_of v) →
      IsRead d (value_of v) × IsBetween ks F attributes declared (suc at) 0 (told_one (name_at declared at) (Of (value_of v)) told) new
  child_next d v name once simple took =
      let mid = seen_at took.started (Some name) in
      let reads : Reads ks F attributes declared at told mid =
      reads_next ks F attributes declared at 0 told (read.Start name) old mid h refl took.same_schema took.same_bits refl took.start (tells old mid (Start name) took.told) in
      let enters = enters_once ks F attributes declared at told mid reads once in
      let took_value = value_next ks _ (kind_at declared at) d _ v mid new simple enters (same ∙ sym took.same_schema) (bits ∙ sym took.same_bits) open_still took.whole in
      (took_value.0, behind_once ks F attributes declared at told mid reads once (name_at declared at) _ new took_value.1)

  -- of a value of few bits
  pub short_next : (d : Datatype) (v : ShortValue) (name : ℕ) → is_once_at declared at ≡ true → simple_at ks (kind_at declared at) ≡ Some d →
      TakesChild (reading_in old) (reading_in new) name (tree_of v) →
      IsRead d (tree_of v) × IsBetween ks F attributes declared (suc at) 0 (told_one (name_at declared at) (Of (tree_of v)) told) new
  short_next d (short.Bool v) = child_next d (read_value.Bool v)
  short_next d (short.Ordinal v) = child_next d (read_value.Ordinal v)
  short_next d (short.Number v) = child_next d (read_value.Number v)

  pub end_next : new.child ≡ None → TakesEnd (reading_in old) (reading_in new) → Reads ks F attributes declared at told new
  end_next none took =
      reads_next ks F attributes declared at 0 told read.EndElement old new h none same bits open_still took.end (tells old new EndElement took.told)

-- ---- three of them

pub three_next : (ks : List PlainKind) (F : Frame) (declared : List PlainParticle) (told : List Event) (first second third : Datatype) (three : ThreeValues) (old new : Seen) →
    StartsAt ks F [] declared 0 told old → HoldsThree ks declared first second third →
    new.schema ≡ old.schema → new.cursor.bits ≡ old.cursor.bits → new.refused ≡ None → new.child ≡ None →
    TakesSequence (reading_in old) (reading_in new) (values_of three) →
    AreRead first second third three × Reads ks F [] declared 3 (told_values declared three told) new
three_next ks F declared told first second third three old new h holds same bits open_still none took =
    let one = seen_at took.1 None in
    let two = seen_at took.5.1 None in
    let all = seen_at took.5.5.1 None in
    let a = short_next ks F [] declared 0 told old one (begins ks F [] declared told old h) took.2 took.3 refl first three.first took.0 holds.once.0 holds.first_is took.4 in
    let b = short_next ks F [] declared 1 _ one two a.1 took.5.2 took.5.3 refl second three.second took.5.0 holds.once.1 holds.second_is took.5.4 in
    let c = short_next ks F [] declared 2 _ two all b.1 took.5.5.2 took.5.5.3 refl third three.third took.5.5.0 holds.once.2 holds.third_is took.5.5.4 in
    let back_schema = same ∙ sym (took.5.5.2 ∙ took.5.2 ∙ took.2) in
    let back_bits = bits ∙ sym (took.5.5.3 ∙ took.5.3 ∙ took.3) in
    ((a.0, b.0, c.0), end_next ks F [] declared 3 _ all new c.1 back_schema back_bits open_still none took.5.5.5)
