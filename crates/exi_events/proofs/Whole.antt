-- A value and the end of its element, one behind the other.
use Rattle.std.proofs.Common.{◌≡◌, ℕ, ◌+◌, if◌then◌else◌, Bool, List, [], ◌∷◌, Some, refl, sym, ap, subst, ◌∙◌, inl, inr}
use Rattle.std.specs.Prelude.{◌==◌}
use Rattle.exi_bits.specs.Reading.{Cursor, Takes, ahead}
use Rattle.exi_schema.specs.declared.places.Place.{Place}
use Rattle.exi_schema.specs.declared.places.Step.{Step}
use Rattle.exi_schema.specs.declared.places.Step.TheVariants.{Characters, End}
use Rattle.exi_schema.specs.declared.tables.Datatype.{Datatype}
use Rattle.exi_schema.specs.Schemas.{PlainSchema}
use Rattle.exi_schema.specs.Offers.{simple_step}
use Rattle.exi_schema.specs.Steps.{simple_at}
use Rattle.exi_writing.specs.Refusal.{Refusal}
use Rattle.exi_writing.specs.Documents.{SpellsStep}
use Rattle.exi_writing.specs.Grammar.{Opened, opened, around, stands}
use Rattle.exi_writing.specs.Refusals.{RefusesStep}
use Rattle.exi_writing.specs.Trees.{EndElement, Value as TreeValue}
use Rattle.exi_writing.specs.Values.{Entries, SpellsValue, RefusesValue}
use Rattle.exi_writing.specs.Event.TheVariants as event
use Rattle.exi_writing.specs.Value.{Value}
use Rattle.exi_writing.specs.Meaning.{value_of, texts_in}
use Rattle.exi_bits.specs.declared.span.SpanAt.{SpanAt}
use Rattle.exi_events.specs.declared.open.OpenElement.{OpenElement}
use Rattle.exi_events.specs.Open.{opened_of}
use Rattle.exi_events.specs.Inside.{HasTop, GoesTo, SpellsInside, TakesWhole, RefusesWhole}
use Rattle.exi_events.proofs.Innermost.{step_refused, content_refused, content_took, as_step}

abbrev pub behind_value : ℕ → Place
behind_value kind = record { kind = kind; particle = 1; copies = 0; attributes = 0 }

first_step : (here : Place) → here.particle ≡ 0 → simple_step here ≡ Characters (behind_value here.kind)
first_step here first = ap (λ (n : ℕ). if n == 0 then Characters (behind_value here.kind) else End) first

last_step : (kind : ℕ) (place : Place) → place ≡ behind_value kind → simple_step place ≡ End
last_step kind place is = ap simple_step is

-- the same bits lend the same texts
pub same_taken : (d : Datatype) (name : ℕ) (a b : List Bool) (before after : List (ℕ × SpanAt)) (v : TreeValue) (old new : Cursor) → a ≡ b →
    Takes (λ bits. SpellsValue d (texts_in a before) name v bits (texts_in a after)) old new → Takes (λ bits. SpellsValue d (texts_in b before) name v bits (texts_in b after)) old new
same_taken d name a b before after v old new same took =
    let P : List Bool → Type 0 = λ x. Takes (λ bits. SpellsValue d (texts_in x before) name v bits (texts_in x after)) old new in subst P same took

pub same_unread : (d : Datatype) (name : ℕ) (a b : List Bool) (before : List (ℕ × SpanAt)) (cursor : Cursor) (r : Refusal) → a ≡ b →
    ((at : ℕ) × RefusesValue d (texts_in a before) name (ahead cursor) r.cause at × (r.bit ≡ cursor.place + at)) →
    (at : ℕ) × RefusesValue d (texts_in b before) name (ahead cursor) r.cause at × (r.bit ≡ cursor.place + at)
same_unread d name a b before cursor r same refused =
    let P : List Bool → Type 0 = λ x. (at : ℕ) × RefusesValue d (texts_in x before) name (ahead cursor) r.cause at × (r.bit ≡ cursor.place + at) in subst P same refused

abbrev with_place : Place → List Opened → List Opened
with_place place [] = []
with_place place (top ∷ above) = opened top.name place ∷ above

module _ (s : PlainSchema) (d : Datatype) (elements : List Opened) (top : OpenElement) (entries : Entries)
    (has : HasTop elements top) (first : top.place.particle ≡ 0) (simple : simple_at s.kinds top.place.kind ≡ Some d) where
  abbrev behind : Place
  behind = behind_value top.place.kind

  abbrev moved : List Opened
  moved = opened top.name behind ∷ has.0

  goes : GoesTo elements behind moved
  goes t above is = ap (with_place behind) (sym has.1 ∙ is)

  value_taken : (after : Entries) (v : Value) (old one two : Cursor) (st : Step) → st ≡ simple_step top.place →
      Takes (SpellsStep s.kinds top.place st) old one → Takes (λ bits. SpellsValue d entries top.name (value_of v) bits after) one two →
      Takes (SpellsInside s elements entries (event.Value v) moved after) old two
  value_taken after v old one two st is code value =
      content_took s old one two elements moved top entries after behind v has goes
      (as_step s.kinds top.place st (Characters behind) old one (is ∙ first_step top.place first) code)
      (value.0, (d, simple, value.1), value.2)

  end_taken : (after : Entries) (popped : List Opened) (two new : Cursor) (place : Place) (end : Step) → place ≡ behind → end ≡ simple_step place →
      popped ≡ has.0 → Takes (SpellsStep s.kinds place end) two new → Takes (SpellsInside s moved after event.EndElement popped after) two new
  end_taken after popped two new place end place_is is pops code =
      let at : Takes (SpellsStep s.kinds place End) two new = as_step s.kinds place end End two new (is ∙ last_step top.place.kind place place_is) code in
      let there : Takes (SpellsStep s.kinds behind End) two new = subst (λ (p : Place). Takes (SpellsStep s.kinds p End) two new) place_is at in
      (there.0, (EndElement, refl, (there.1, ap (λ (above : List Opened). stands (around above) after) pops)), there.2)

  pub whole_took : (after : Entries) (popped : List Opened) (v : Value) (old one two new : Cursor) (st end : Step) (place : Place) →
      st ≡ simple_step top.place → Takes (SpellsStep s.kinds top.place st) old one →
      Takes (λ bits. SpellsValue d entries top.name (value_of v) bits after) one two →
      place ≡ behind → end ≡ simple_step place → Takes (SpellsStep s.kinds place end) two new →
      ((t : Opened) (above : List Opened) → elements ≡ t ∷ above → popped ≡ above) →
      TakesWhole s elements entries v popped after old new
  whole_took after popped v old one two new st end place st_is code value place_is end_is last pops =
      record {
        moved = moved;
        middle = two;
        content = value_taken after v old one two st st_is code value;
        end = end_taken after popped two new place end place_is end_is (pops (opened_of top) has.0 has.1) last;
      }

  pub code_unread : (old : Cursor) (r : Refusal) → RefusesStep s.kinds top.place (ahead old) r.cause → r.bit ≡ old.place → RefusesWhole s elements entries old r
  code_unread old r refused at = inl (step_refused s elements top entries (ahead old) r.cause r.bit old.place has refused at)

  pub value_unread : (old one : Cursor) (st : Step) (r : Refusal) → st ≡ simple_step top.place → Takes (SpellsStep s.kinds top.place st) old one →
      ((at : ℕ) × RefusesValue d entries top.name (ahead one) r.cause at × (r.bit ≡ one.place + at)) → RefusesWhole s elements entries old r
  value_unread old one st r is code refused =
      inl (content_refused s old one elements top entries behind r.cause r.bit has
      (as_step s.kinds top.place st (Characters behind) old one (is ∙ first_step top.place first) code)
      (refused.0, (d, simple, refused.1), refused.2))

  pub end_unread : (after : Entries) (v : Value) (old one two : Cursor) (st : Step) (place : Place) (r : Refusal) →
      st ≡ simple_step top.place → Takes (SpellsStep s.kinds top.place st) old one →
      Takes (λ bits. SpellsValue d entries top.name (value_of v) bits after) one two → place ≡ behind →
      RefusesStep s.kinds place (ahead two) r.cause → r.bit ≡ two.place → RefusesWhole s elements entries old r
  end_unread after v old one two st place r st_is code value place_is refused at =
      let there : RefusesStep s.kinds behind (ahead two) r.cause = subst (λ (p : Place). RefusesStep s.kinds p (ahead two) r.cause) place_is refused in
      inr (
        v,
        moved,
        two,
        after,
        value_taken after v old one two st st_is code value,
        value.2.same ∙ code.2.same,
        step_refused s moved (record { name = top.name; place = behind }) after (ahead two) r.cause r.bit two.place (has.0, refl) there at,
      )
