-- The attributes of an element, one after the other.
use Rattle.std.proofs.Common.{◌≡◌, ℕ, zero, suc, ◌+◌, add-one, List, [], ◌∷◌, ◌++◌, length, drop, Option, Some, None, MatchOption, if◌then◌else◌, Bool, true, false, arith, refl, sym, ap, subst, ◌∙◌}
use Rattle.std.proofs.lemmas.List.{drop_all}
use Rattle.std.specs.Prelude.{slice_get, ◌||◌}
use Rattle.std.specs.List.{list_any}
use Rattle.exi_schema.specs.declared.places.Place.{Place}
use Rattle.exi_schema.specs.declared.places.Step.{Step}
use Rattle.exi_schema.specs.declared.places.Step.TheVariants as step
use Rattle.exi_schema.specs.Schemas.{PlainSchema}
use Rattle.exi_schema.specs.declared.tables.AttributeOf.{AttributeOf}
use Rattle.exi_schema.specs.declared.tables.Datatype.{Datatype}
use Rattle.exi_schema.specs.Offers.{offers, attribute_steps, through_required}
use Rattle.exi_schema.specs.Schemas.{are_distinct}
use Rattle.exi_schema.specs.Steps.{simple_at}
use Rattle.exi_events.specs.Documents.{SpellsStep, element}
use Rattle.exi_events.specs.Grammar.{Standing, Inside, Behind, State, opened, MovesFrom}
use Rattle.exi_events.specs.Trees.{Event, Document, Start, Attribute, Content, EndElement, Value}
use Rattle.exi_events.specs.Values.{SpellsValue, Entries}
use Rattle.exi_events.specs.Event.{Event as ReadEvent}
use Rattle.exi_events.specs.Event.TheVariants as read
use Rattle.exi_events.specs.Value.{Value as ReadValue}
use Rattle.exi_events.specs.Meaning.{event_of, value_of}
use Rattle.exi_schema.specs.Plain.{PlainKind, PlainParticle, containing}
use Rattle.exi_schema.specs.Offers.{offers, offers_of, element_steps}
use Rattle.exi_schema.specs.Steps.{simple_at}
use Rattle.exi_events.proofs.Offered.{each_of, one_taken}
use Rattle.message_parts.specs.Contents.{started, attribute_value}
use Rattle.message_parts.specs.Particles.{attribute_name, attribute_kind, attribute_at, is_must, is_may, is_last_may}
use Rattle.message_parts.specs.Reading.{Frame, Seen, Goes, Enters, IsBetween, Reads, IsChild, StartsAt, before_children, names_in}
use Rattle.message_parts.specs.Values.{IsRead}
use Rattle.message_parts.proofs.Distinct.{and_first, and_second, not_true, number_is}
use Rattle.message_parts.proofs.Particles.{drop_at}
use Rattle.message_parts.proofs.Next.{TellsMore, Follows, IsElementOrEnd, all_elements, goes_on, simple_in, is_read, not_simple}

attribute_event : (e : ReadEvent) (name : ℕ) (value : Value) → event_of e ≡ Some (Attribute name value) → (n : ℕ) × (x : ReadValue) × (e ≡ read.Attribute n x) × (value_of x ≡ value)
attribute_event (read.Document number) name value is = absurd cc
attribute_event (read.Start n) name value is = absurd cc
attribute_event (read.Attribute n v) name value is = let same : Some (Attribute n (value_of v)) ≡ Some (Attribute name value) = is in (n, v, refl, cc)
attribute_event (read.Value v) name value is = absurd cc
attribute_event read.EndElement name value is = absurd cc
attribute_event read.Finished name value is = absurd cc

-- ---- what the tests say

-- the attribute at a place of the list
pub record IsAt (attributes : List AttributeOf) (at : ℕ) (required : Bool) : Type 0 where
  pub attribute : AttributeOf
  pub there : slice_get attributes at ≡ Some attribute
  pub standing : attribute.required ≡ required

must_be : (attributes : List AttributeOf) (at : ℕ) (o : Option AttributeOf) → slice_get attributes at ≡ o → is_must o ≡ true → IsAt attributes at true
must_be attributes at None there is = absurd cc
must_be attributes at (Some a) there is = record { attribute = a; there = there; standing = is }

may_be : (attributes : List AttributeOf) (at : ℕ) (o : Option AttributeOf) → slice_get attributes at ≡ o → is_may o ≡ true → IsAt attributes at false
may_be attributes at None there is = absurd cc
may_be attributes at (Some a) there is = record { attribute = a; there = there; standing = not_true a.required is }

pub last_is : (attributes : List AttributeOf) (at : ℕ) → is_last_may attributes at ≡ true → suc at ≡ length attributes
last_is attributes at is = sym (add-one at) ∙ sym (number_is (length attributes) (at + 1) (and_second (is_may (slice_get attributes at)) _ is))

-- ---- before the first of them, and behind the last

pub starts : (ks : List PlainKind) (F : Frame) (kind : ℕ) (attributes : List AttributeOf) (declared : List PlainParticle) (told : List Event) (d : Seen) → Enters ks F kind told d →
    slice_get ks kind ≡ Some (containing attributes declared) → are_distinct (names_in declared) ≡ true → StartsAt ks F attributes declared 0 told d
starts ks F kind attributes declared told d enters is apart =
    record { kind = kind; is_kind = is; distinct = apart; goes = enters.goes; standing = enters.standing }

pub begins : (ks : List PlainKind) (F : Frame) (attributes : List AttributeOf) (declared : List PlainParticle) (told : List Event) (d : Seen) →
    StartsAt ks F attributes declared (length attributes) told d → IsBetween ks F attributes declared 0 0 told d
begins ks F attributes declared told d h =
    record { kind = h.kind; is_kind = h.is_kind; distinct = h.distinct; goes = h.goes; standing = h.standing }

module _ (ks : List PlainKind) (F : Frame) (attributes : List AttributeOf) (declared : List PlainParticle) (at : ℕ) (told : List Event) (old new : Seen)
    (h : StartsAt ks F attributes declared at told old) where
  abbrev kind : ℕ
  kind = h.kind

  abbrev here : Place
  here = before_children kind at

  abbrev children : List Step
  children = element_steps here (length attributes) 0 0 (drop 0 declared)

  abbrev step_of : AttributeOf → Step
  step_of a = step.Attribute a.name a.kind (before_children kind (at + 1))

  -- what is offered where these are left
  abbrev steps_for : List AttributeOf → List Step
  steps_for left =
      attribute_steps here at (through_required left) ++ (if list_any (λ (a : AttributeOf). a.required) left then [] else children)

  offered : (left : List AttributeOf) → drop at attributes ≡ left → F.schema.kinds ≡ ks → offers F.schema.kinds here ≡ steps_for left
  offered left is are =
      ap (λ (k : List PlainKind). offers k here) are ∙ ap (λ o. offers_of here o) h.is_kind
      ∙ ap (λ (l : List AttributeOf). steps_for l) is

  abbrev tail_for : AttributeOf → List AttributeOf → Bool → List Step
  tail_for a left required =
      step_of a ∷ (attribute_steps here (at + 1) (if required then [] else through_required left)
      ++ (if required || list_any (λ (x : AttributeOf). x.required) left then [] else children))

  offered_must : (a : IsAt attributes at true) → F.schema.kinds ≡ ks → offers F.schema.kinds here ≡ step_of a.attribute ∷ []
  offered_must a are =
      offered (a.attribute ∷ drop (suc at) attributes) (drop_at attributes at a.attribute a.there) are
      ∙ ap (λ (b : Bool). tail_for a.attribute (drop (suc at) attributes) b) a.standing

  offered_may : (a : IsAt attributes at false) → length attributes ≡ at + 1 → F.schema.kinds ≡ ks → offers F.schema.kinds here ≡ step_of a.attribute ∷ children
  offered_may a last are =
      offered (a.attribute ∷ drop (suc at) attributes) (drop_at attributes at a.attribute a.there) are
      ∙ ap (λ (l : List AttributeOf). steps_for (a.attribute ∷ l)) (drop_all (suc at) attributes (omega (arith, last)))
      ∙ ap (λ (b : Bool). tail_for a.attribute [] b) a.standing

  module _ (d : Datatype) (a : AttributeOf) (simple : simple_at ks a.kind ≡ Some d) where
    abbrev Came : ReadValue → Type 0
    Came v = IsRead d (value_of v) × StartsAt ks F attributes declared (suc at) (Attribute a.name (value_of v) ∷ told) new

    -- an attribute is taken
    took : (name inner : ℕ) (next : Place) (t : Datatype) (v : ReadValue) (value : Value) (entries after : Entries) (bits : List Bool) → F.schema.kinds ≡ ks →
        step.Attribute name inner next ≡ step_of a → simple_at F.schema.kinds inner ≡ Some t → SpellsValue t entries name value bits after → value ≡ value_of v →
        Goes ks F (Attribute name value ∷ told) new → new.state.standing ≡ Inside (opened F.name next) F.above → Came v
    took name inner next t v value entries after bits are st of spelled v_is goes to =
        let name_is : name ≡ a.name = cc in
        let inner_is : inner ≡ a.kind = cc in
        let next_is : next ≡ before_children kind (at + 1) = cc in
        let both : Some t ≡ Some d = sym of ∙ ap (λ (k : ℕ). simple_at F.schema.kinds k) inner_is ∙ simple_in ks F a.kind d told new simple are in
        let t_is : t ≡ d = cc in
        let good : IsRead d value = is_read d entries after name value bits (subst (λ (x : Datatype). SpellsValue x entries name value bits after) t_is spelled) in
        let standing : new.state.standing ≡ Inside (opened F.name (before_children kind (suc at))) F.above =
        to ∙ ap (λ (p : Place). Inside (opened F.name p) F.above) (next_is ∙ ap (λ (k : ℕ). before_children kind k) (add-one at)) in
        let goes_named : Goes ks F (Attribute a.name value ∷ told) new = subst (λ (m : ℕ). Goes ks F (Attribute m value ∷ told) new) name_is goes in
        subst (λ (w : Value). IsRead d w × StartsAt ks F attributes declared (suc at) (Attribute a.name w ∷ told) new) v_is
        (good, record { kind = kind; is_kind = h.is_kind; distinct = h.distinct; goes = goes_named; standing = standing })

    -- ---- one that has to be there

    module _ (there : IsAt attributes at true) (same_attribute : there.attribute ≡ a) where
      only : (other : Step) (bits : List Bool) → F.schema.kinds ≡ ks → SpellsStep F.schema.kinds here other bits → other ≡ step_of a
      only other bits are st = (one_taken F.schema.kinds here (step_of a) other bits (offered_must there are ∙ ap (λ (x : AttributeOf). step_of x ∷ []) same_attribute) st).0

      attribute_by : (e : ReadEvent) (v : ReadValue) (now : Event) (entries : Entries) (bits : List Bool) → F.schema.kinds ≡ ks → event_of e ≡ Some now →
          ((n : ℕ) (x : ReadValue) → e ≡ read.Attribute n x → v ≡ x) →
          Goes ks F (now ∷ told) new → MovesFrom SpellsValue F.schema (Inside (opened F.name here) F.above) entries now bits new.state → Came v
      attribute_by e v (Document number) entries bits are is in_it goes moves = absurd moves
      attribute_by e v (Start n) entries bits are is in_it goes moves = let wrong = only _ _ are moves.starts in absurd cc
      attribute_by e v (Attribute n value) entries bits are is in_it goes moves =
          let x = attribute_event e n value is in
          took n moves.kind moves.next moves.datatype v value entries moves.after moves.inside are (only _ _ are moves.starts) moves.is_simple moves.spelled (sym x.3 ∙ ap value_of (sym (in_it x.0 x.1 x.2))) goes (ap (λ (s : State). s.standing) moves.leads)
      attribute_by e v (Content value) entries bits are is in_it goes moves =
          let none : None ≡ Some moves.datatype = sym (not_simple F.schema ks kind 0 0 attributes declared are h.is_kind) ∙ moves.is_simple in absurd cc
      attribute_by e v EndElement entries bits are is in_it goes moves = let wrong = only _ _ are moves.0 in absurd cc

      attribute_next : (e : ReadEvent) (o : Option Event) (v : ReadValue) → event_of e ≡ o → ((n : ℕ) (x : ReadValue) → e ≡ read.Attribute n x → v ≡ x) →
          new.schema ≡ old.schema → new.cursor.bits ≡ old.cursor.bits → new.refused ≡ None →
          Follows old new o → TellsMore old new o → Came v
      attribute_next e None v is in_it same bits open_still next tells =
          let behind : Inside (opened F.name here) F.above ≡ Behind = sym h.standing ∙ next.0 in absurd cc
      attribute_next e (Some now) v is in_it same bits open_still next tells =
          let P : PlainSchema → Standing → Type 0 = λ s x. MovesFrom SpellsValue s x old.state.entries now next.0 new.state in
          let moves : P F.schema (Inside (opened F.name here) F.above) = subst (λ x. P F.schema x) h.standing (subst (λ (s : PlainSchema). P s old.state.standing) h.goes.schema_is next.1) in
          attribute_by e v now old.state.entries next.0 h.goes.kinds_are is in_it (goes_on ks F a.kind d told new simple now old h.goes same bits open_still tells) moves

    -- ---- the last one, which may be there

    module _ (there : IsAt attributes at false) (last : length attributes ≡ at + 1) (same_attribute : there.attribute ≡ a) where
      abbrev Looked : Option ReadValue → Type 0
      Looked o = MatchOption o (Reads ks F attributes declared 0 told new) Came

      offered_here : F.schema.kinds ≡ ks → offers F.schema.kinds here ≡ step_of a ∷ children
      offered_here are = offered_may there last are ∙ ap (λ (x : AttributeOf). step_of x ∷ children) same_attribute

      at_first : (code name inner : ℕ) (next : Place) → slice_get (step_of a ∷ children) code ≡ Some (step.Attribute name inner next) → step.Attribute name inner next ≡ step_of a
      at_first zero name inner next is = let same : Some (step_of a) ≡ Some (step.Attribute name inner next) = is in cc
      at_first (suc code) name inner next is =
          absurd (each_of IsElementOrEnd _ code _ (all_elements here (length attributes) 0 0 (drop 0 declared)) is)

      behind_first : (code : ℕ) (y : Step) → (step_of a ≡ y → ⊥) → slice_get (step_of a ∷ children) code ≡ Some y → (c : ℕ) × (slice_get children c ≡ Some y)
      behind_first zero y other is = let same : Some (step_of a) ≡ Some y = is in let s : step_of a ≡ y = cc in absurd (other s)
      behind_first (suc code) y other is = (code, is)

      looks : (child : Option ℕ) → new.child ≡ child → IsChild ks F here (length attributes) 0 0 (drop 0 declared) told new child → Reads ks F attributes declared 0 told new
      looks child is it =
          record {
            kind = kind;
            is_kind = h.is_kind;
            distinct = h.distinct;
            here = here;
            of_kind = refl;
            child = subst (λ (o : Option ℕ). IsChild ks F here (length attributes) 0 0 (drop 0 declared) told new o) (sym is) it;
          }

      last_by : (e : ReadEvent) (now : Event) (entries : Entries) (bits : List Bool) → F.schema.kinds ≡ ks → event_of e ≡ Some now → new.child ≡ started e →
          Goes ks F (now ∷ told) new → MovesFrom SpellsValue F.schema (Inside (opened F.name here) F.above) entries now bits new.state → Looked (attribute_value e)
      last_by e (Document number) entries bits are is child goes moves = absurd moves
      last_by (read.Start n) (Start name) entries bits are is child goes moves =
          let same : Some (Start n) ≡ Some (Start name) = is in
          let name_is : n ≡ name = cc in
          let code = subst (λ (os : List Step). slice_get os moves.starts.code ≡ Some (element name moves.kind moves.next)) (offered_here are) moves.starts.offered in
          let c = behind_first moves.starts.code (element name moves.kind moves.next) (λ wrong. cc) code in
          looks (Some name) (child ∙ ap (λ (m : ℕ). Some m) name_is) (c.0, moves.kind, moves.next, c.1, goes, ap (λ (st : State). st.standing) moves.leads)
      last_by e (Start name) entries bits are is child goes moves = absurd cc
      last_by (read.Attribute n x) (Attribute name value) entries bits are is child goes moves =
          let same : Some (Attribute n (value_of x)) ≡ Some (Attribute name value) = is in
          let v_is : value_of x ≡ value = cc in
          let code = subst (λ (os : List Step). slice_get os moves.starts.code ≡ Some (step.Attribute name moves.kind moves.next)) (offered_here are) moves.starts.offered in
          took name moves.kind moves.next moves.datatype x value entries moves.after moves.inside are (at_first moves.starts.code name moves.kind moves.next code) moves.is_simple moves.spelled (sym v_is) goes (ap (λ (s : State). s.standing) moves.leads)
      last_by e (Attribute name value) entries bits are is child goes moves = absurd cc
      last_by e (Content value) entries bits are is child goes moves =
          let none : None ≡ Some moves.datatype = sym (not_simple F.schema ks kind 0 0 attributes declared are h.is_kind) ∙ moves.is_simple in absurd cc
      last_by read.EndElement EndElement entries bits are is child goes moves =
          let code = subst (λ (os : List Step). slice_get os moves.0.code ≡ Some step.End) (offered_here are) moves.0.offered in
          let c = behind_first moves.0.code step.End (λ wrong. cc) code in
          looks None child ((c.0, c.1), goes, ap (λ (st : State). st.standing) moves.1)
      last_by e EndElement entries bits are is child goes moves = absurd cc

      last_next : (e : ReadEvent) (o : Option Event) → event_of e ≡ o → new.child ≡ started e → new.schema ≡ old.schema → new.cursor.bits ≡ old.cursor.bits → new.refused ≡ None →
          Follows old new o → TellsMore old new o → Looked (attribute_value e)
      last_next e None is child same bits open_still next tells =
          let behind : Inside (opened F.name here) F.above ≡ Behind = sym h.standing ∙ next.0 in absurd cc
      last_next e (Some now) is child same bits open_still next tells =
          let P : PlainSchema → Standing → Type 0 = λ s x. MovesFrom SpellsValue s x old.state.entries now next.0 new.state in
          let moves : P F.schema (Inside (opened F.name here) F.above) = subst (λ x. P F.schema x) h.standing (subst (λ (s : PlainSchema). P s old.state.standing) h.goes.schema_is next.1) in
          last_by e now old.state.entries next.0 h.goes.kinds_are is child (goes_on ks F a.kind d told new simple now old h.goes same bits open_still tells) moves

  -- ---- as the contracts say it

  abbrev name : ℕ
  name = attribute_at attributes at

  abbrev pub Given : Datatype → ReadValue → Type 0
  Given d v = IsRead d (value_of v) × StartsAt ks F attributes declared (suc at) (Attribute name (value_of v) ∷ told) new

  named : (required : Bool) (there : IsAt attributes at required) → there.attribute.name ≡ name
  named required there = ap attribute_name (sym there.there)

  simple_of : (required : Bool) (there : IsAt attributes at required) (d : Datatype) → simple_at ks (attribute_kind (slice_get attributes at)) ≡ Some d → simple_at ks there.attribute.kind ≡ Some d
  simple_of required there d simple = ap (λ (k : ℕ). simple_at ks k) (ap attribute_kind (sym there.there)) ∙ simple

  pub given_next : is_must (slice_get attributes at) ≡ true → (d : Datatype) → simple_at ks (attribute_kind (slice_get attributes at)) ≡ Some d →
      (e : ReadEvent) (v : ReadValue) → ((n : ℕ) (x : ReadValue) → e ≡ read.Attribute n x → v ≡ x) →
      new.schema ≡ old.schema → new.cursor.bits ≡ old.cursor.bits → new.refused ≡ None →
      Follows old new (event_of e) → TellsMore old new (event_of e) → Given d v
  given_next is d simple e v in_it same bits open_still next tells =
      let there = must_be attributes at (slice_get attributes at) refl is in
      let came = attribute_next d there.attribute (simple_of true there d simple) there refl e (event_of e) v refl in_it same bits open_still next tells in
      subst (λ (m : ℕ). IsRead d (value_of v) × StartsAt ks F attributes declared (suc at) (Attribute m (value_of v) ∷ told) new) (named true there) came

  pub maybe_next : is_last_may attributes at ≡ true → (d : Datatype) → simple_at ks (attribute_kind (slice_get attributes at)) ≡ Some d →
      (e : ReadEvent) → new.child ≡ started e → new.schema ≡ old.schema → new.cursor.bits ≡ old.cursor.bits → new.refused ≡ None →
      Follows old new (event_of e) → TellsMore old new (event_of e) → MatchOption (attribute_value e) (Reads ks F attributes declared 0 told new) (Given d)
  maybe_next is d simple e child same bits open_still next tells =
      let there = may_be attributes at (slice_get attributes at) refl (and_first (is_may (slice_get attributes at)) _ is) in
      let last = number_is (length attributes) (at + 1) (and_second (is_may (slice_get attributes at)) _ is) in
      let looked = last_next d there.attribute (simple_of false there d simple) there last refl e (event_of e) refl child same bits open_still next tells in
      subst (λ (m : ℕ). MatchOption (attribute_value e) (Reads ks F attributes declared 0 told new)
      (λ v. IsRead d (value_of v) × StartsAt ks F attributes declared (suc at) (Attribute m (value_of v) ∷ told) new)) (named false there) looked
