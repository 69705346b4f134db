-- Three values of which the second may be absent, which are read at once, and the end of their element.
use Rattle.std.proofs.Common.{◌≡◌, ℕ, suc, List, [], Option, Some, None, true, refl, sym, ap, subst, ◌∙◌}
use Rattle.exi_schema.specs.declared.tables.AttributeOf.{AttributeOf}
use Rattle.exi_schema.specs.declared.tables.Datatype.{Datatype}
use Rattle.exi_schema.specs.Plain.{PlainKind, PlainParticle}
use Rattle.exi_schema.specs.Steps.{simple_at}
use Rattle.exi_events.specs.Trees.{Event, Value, Start}
use Rattle.exi_events.specs.Event.TheVariants as read
use Rattle.exi_events.specs.Value.{Value as ReadValue}
use Rattle.exi_events.specs.Value.TheVariants as read_value
use Rattle.exi_events.specs.Short.{tree_of}
use Rattle.exi_events.specs.ShortValue.{ShortValue}
use Rattle.exi_events.specs.ShortValue.TheVariants as short
use Rattle.exi_events.specs.Meaning.{value_of}
use Rattle.exi_events.specs.Sequence.{TakesChild}
use Rattle.exi_events.specs.Optional.{TakesRest, TakesOptional}
use Rattle.exi_events.specs.declared.optional.OptionalValues.{OptionalValues}
use Rattle.message_parts.specs.Contents.{Inside, Of, told_one, told_perhaps}
use Rattle.message_parts.specs.Particles.{name_at, kind_at, is_once_at, is_optional_at}
use Rattle.message_parts.specs.Reading.{Frame, Seen, StartsAt, IsBetween, Reads}
use Rattle.message_parts.specs.Perhaps.{HoldsPerhaps, IsReadPerhaps, AreReadPerhaps, told_second, inside_perhaps}
use Rattle.message_parts.specs.Values.{IsRead}
use Rattle.message_parts.proofs.Attributes.{begins}
use Rattle.message_parts.proofs.Next.{reads_next, value_next, tells}
use Rattle.message_parts.proofs.Sequence.{reading_in, seen_at, end_next, short_next}
use Rattle.message_parts.proofs.Singles.{enters_once, enters_optional, skips, behind_once, behind_optional}

module _ (ks : List PlainKind) (F : Frame) (attributes : List AttributeOf) (declared : List PlainParticle) (at : ℕ) (told : List Event) (old new : Seen) (name : ℕ) where
  -- a child that is taken has started
  pub starts : (v : Value) → IsBetween ks F attributes declared at 0 told old → (took : TakesChild (reading_in old) (reading_in new) name v) → Reads ks F attributes declared at told (seen_at took.started (Some name))
  starts v h took =
      reads_next ks F attributes declared at 0 told (read.Start name) old (seen_at took.started (Some name)) h refl took.same_schema took.same_bits refl took.start (tells old (seen_at took.started (Some name)) (Start name) took.told)

  module _ (d : Datatype) (simple : simple_at ks (kind_at declared at) ≡ Some d) (same : new.schema ≡ old.schema) (bits : new.cursor.bits ≡ old.cursor.bits) (open_still : new.refused ≡ None) where
    -- one that has to be there, which has started
    once_read : (v : ReadValue) → is_once_at declared at ≡ true → (took : TakesChild (reading_in old) (reading_in new) name (value_of v)) → Reads ks F attributes declared at told (seen_at took.started (Some name)) →
        IsRead d (value_of v) × IsBetween ks F attributes declared (suc at) 0 (told_one (name_at declared at) (Of (value_of v)) told) new
    once_read v once took reads =
        let mid = seen_at took.started (Some name) in
        let enters = enters_once ks F attributes declared at told mid reads once in
        let took_value = value_next ks _ (kind_at declared at) d _ v mid new simple enters (same ∙ sym took.same_schema) (bits ∙ sym took.same_bits) open_still took.whole in
        (took_value.0, behind_once ks F attributes declared at told mid reads once (name_at declared at) _ new took_value.1)

    pub short_once : (v : ShortValue) → is_once_at declared at ≡ true → (took : TakesChild (reading_in old) (reading_in new) name (tree_of v)) → Reads ks F attributes declared at told (seen_at took.started (Some name)) →
        IsRead d (tree_of v) × IsBetween ks F attributes declared (suc at) 0 (told_one (name_at declared at) (Of (tree_of v)) told) new
    short_once (short.Bool v) = once_read (read_value.Bool v)
    short_once (short.Ordinal v) = once_read (read_value.Ordinal v)
    short_once (short.Number v) = once_read (read_value.Number v)

    -- one that may be there, which has started
    optional_read : (v : ReadValue) → is_optional_at declared at ≡ true → name ≡ name_at declared at → (took : TakesChild (reading_in old) (reading_in new) name (value_of v)) → Reads ks F attributes declared at told (seen_at took.started (Some name)) →
        IsRead d (value_of v) × IsBetween ks F attributes declared (suc at) 0 (told_one (name_at declared at) (Of (value_of v)) told) new
    optional_read v once named took reads =
        let mid = seen_at took.started (Some name) in
        let enters = enters_optional ks F attributes declared at told mid reads once (ap (λ (n : ℕ). Some n) named) in
        let took_value = value_next ks _ (kind_at declared at) d _ v mid new simple enters (same ∙ sym took.same_schema) (bits ∙ sym took.same_bits) open_still took.whole in
        (took_value.0, behind_optional ks F attributes declared at told mid reads once (name_at declared at) _ new took_value.1)

    pub short_optional : (v : ShortValue) → is_optional_at declared at ≡ true → name ≡ name_at declared at → (took : TakesChild (reading_in old) (reading_in new) name (tree_of v)) → Reads ks F attributes declared at told (seen_at took.started (Some name)) →
        IsRead d (tree_of v) × IsBetween ks F attributes declared (suc at) 0 (told_one (name_at declared at) (Of (tree_of v)) told) new
    short_optional (short.Bool v) = optional_read (read_value.Bool v)
    short_optional (short.Ordinal v) = optional_read (read_value.Ordinal v)
    short_optional (short.Number v) = optional_read (read_value.Number v)

-- ---- the three

same_name : (a b : ℕ) → Some a ≡ Some b → a ≡ b
same_name a b is = cc

module _ (ks : List PlainKind) (F : Frame) (declared : List PlainParticle) (told : List Event) (name : ℕ) (first second third : Datatype) (holds : HoldsPerhaps ks declared name first second third) where
  -- behind the first
  rest_next : (value : Option ShortValue) (last : ShortValue) (one new : Seen) → IsBetween ks F [] declared 1 0 told one →
      new.schema ≡ one.schema → new.cursor.bits ≡ one.cursor.bits → new.refused ≡ None → new.child ≡ None →
      TakesRest (reading_in one) (reading_in new) name value (tree_of last) →
      IsReadPerhaps second value × IsRead third (tree_of last) × Reads ks F [] declared 3 (told_one (name_at declared 2) (Of (tree_of last)) (told_perhaps name (inside_perhaps value) told)) new
  rest_next None last one new h same bits open_still none took =
      let q = took.0 in
      let two = seen_at q.1 None in
      let reads = starts ks F [] declared 1 told one two q.0 (tree_of last) h q.4 in
      let skipped = skips ks F [] declared 1 told (seen_at q.4.started (Some q.0)) reads holds.second_once (λ here. took.1 (same_name q.0 (name_at declared 1) here ∙ sym holds.named)) in
      let c = short_once ks F [] declared 2 told one two q.0 third holds.third_is q.2 q.3 refl last holds.third_once q.4 skipped in
      (tt, c.0, end_next ks F [] declared 3 _ two new c.1 (same ∙ sym q.2) (bits ∙ sym q.3) open_still none q.5)
  rest_next (Some v) last one new h same bits open_still none took =
      let q = took.0 in
      let r = q.5 in
      let two = seen_at q.1 None in
      let three = seen_at r.1 None in
      let reads = starts ks F [] declared 1 told one two q.0 (tree_of v) h q.4 in
      let b = short_optional ks F [] declared 1 told one two q.0 second holds.second_is q.2 q.3 refl v holds.second_once (took.1 ∙ holds.named) q.4 reads in
      let there : IsBetween ks F [] declared 2 0 (told_one name (Of (tree_of v)) told) two =
      subst (λ (n : ℕ). IsBetween ks F [] declared 2 0 (told_one n (Of (tree_of v)) told) two) (sym holds.named) b.1 in
      let c = short_next ks F [] declared 2 _ two three there r.2 r.3 refl third last r.0 holds.third_once holds.third_is r.4 in
      (b.0, c.0, end_next ks F [] declared 3 _ three new c.1 (same ∙ sym (r.2 ∙ q.2)) (bits ∙ sym (r.3 ∙ q.3)) open_still none r.5)

pub second_next : (ks : List PlainKind) (F : Frame) (declared : List PlainParticle) (told : List Event) (name : ℕ) (first second third : Datatype) (values : OptionalValues) (old new : Seen) →
    StartsAt ks F [] declared 0 told old → HoldsPerhaps ks declared name first second third →
    new.schema ≡ old.schema → new.cursor.bits ≡ old.cursor.bits → new.refused ≡ None → new.child ≡ None →
    TakesOptional (reading_in old) (reading_in new) name values →
    AreReadPerhaps first second third values × Reads ks F [] declared 3 (told_second declared name (tree_of values.first) (inside_perhaps values.second) (tree_of values.third) told) new
second_next ks F declared told name first second third values old new h holds same bits open_still none took =
    let one = seen_at took.behind None in
    let a = short_next ks F [] declared 0 told old one (begins ks F [] declared told old h) took.same_schema took.same_bits refl first values.first took.name holds.first_once holds.first_is took.first_taken in
    let rest = rest_next ks F declared _ name first second third holds values.second values.third one new a.1 (same ∙ sym took.same_schema) (bits ∙ sym took.same_bits) open_still none took.rest_taken in
    ((a.0, rest.0, rest.1), rest.2)

-- ---- as the values that are read

pub told_as : (ks : List PlainKind) (F : Frame) (declared : List PlainParticle) (told : List Event) (name : ℕ) (new : Seen) (a b : Value) (o p : Option Inside) (c d : Value) → a ≡ b → o ≡ p → c ≡ d →
    Reads ks F [] declared 3 (told_second declared name a o c told) new → Reads ks F [] declared 3 (told_second declared name b p d told) new
told_as ks F declared told name new a b o p c d first second third reads =
    subst (λ (x : Value). Reads ks F [] declared 3 (told_second declared name b p x told) new) third
    (subst (λ (x : Option Inside). Reads ks F [] declared 3 (told_second declared name b x c told) new) second
    (subst (λ (x : Value). Reads ks F [] declared 3 (told_second declared name x o c told) new) first reads))
