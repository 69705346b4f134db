-- The children of a sequence, one behind the other, and the end of their element.
use Rattle.std.proofs.Common.{◌≡◌, ℕ, ◌≤◌, ◌<◌, eqb, Bool, true, false, not, ◌&&◌, List, [], ◌∷◌, length, get_or, Option, Some, None, refl, sym, ap, subst, ◌∙◌, inl, inr, arith}
use Rattle.std.proofs.lemmas.Bool.Decides.{eqb_tells}
use Rattle.exi_bits.specs.Reading.{Cursor, Takes}
use Rattle.exi_bits.specs.declared.span.SpanAt.{SpanAt}
use Rattle.exi_schema.specs.declared.places.Place.{Place}
use Rattle.exi_schema.specs.declared.places.SequenceChild.{SequenceChild}
use Rattle.exi_schema.specs.declared.places.Step.TheVariants.{End}
use Rattle.exi_schema.specs.Offers.{simple_step, offers}
use Rattle.exi_schema.specs.Plain.{PlainKind}
use Rattle.exi_schema.specs.Schemas.{PlainSchema}
use Rattle.exi_schema.specs.Sequences.{IsSequence, TellsSequence}
use Rattle.exi_schema.specs.Steps.{simple_at}
use Rattle.exi_schema.proofs.Conditions.{and-l, and-r}
use Rattle.exi_writing.specs.Documents.{SpellsStep, element, first}
use Rattle.exi_writing.specs.Grammar.{Opened, Inside, opened, around, stands}
use Rattle.exi_writing.specs.Trees.{Event as TreeEvent, Value as TreeValue, Start, Content, EndElement}
use Rattle.exi_writing.specs.Values.{Entries, SpellsValue}
use Rattle.exi_writing.specs.Event.TheVariants as event
use Rattle.exi_writing.specs.Value.{Value}
use Rattle.exi_writing.specs.Value.TheVariants as value
use Rattle.exi_writing.specs.Short.{tree_of}
use Rattle.exi_writing.specs.ShortValue.{ShortValue}
use Rattle.exi_writing.specs.ShortValue.TheVariants as short
use Rattle.exi_writing.specs.Meaning.{value_of, texts_in}
use Rattle.exi_events.specs.declared.open.OpenElement.{OpenElement}
use Rattle.exi_events.specs.declared.reader.Phase.{Phase}
use Rattle.exi_events.specs.declared.reader.Phase.TheVariants as phase
use Rattle.exi_events.specs.Inside.{AreOpen, HasTop}
use Rattle.exi_events.specs.Reader.{state_of, standing_of, innermost_place, IsNext, HasTold, Reading, reading}
use Rattle.exi_events.specs.Sequence.{TakesChild, TakesEnd, TakesSequence, OffersChild, HoldsSequence, HoldsThree, inside_at, behind_all}
use Rattle.exi_events.proofs.Told.{told_more}
use Rattle.exi_events.proofs.Valued.{whole_taken}
use Rattle.exi_events.proofs.Whole.{behind_value, whole_took}

abbrev rest_of : List Opened → List Opened
rest_of [] = []
rest_of (x ∷ xs) = xs

-- the end of an element is taken
pub end_took : (s : PlainSchema) (name : ℕ) (here : Place) (above : List Opened) (entries : Entries) (old new : Cursor) → Takes (SpellsStep s.kinds here End) old new →
    TakesEnd (reading s (stands (Inside (opened name here) above) entries) old) (reading s (stands (around above) entries) new)
end_took s name here above entries old new took =
    let next : IsNext (reading s (stands (Inside (opened name here) above) entries) old) (reading s (stands (around above) entries) new) (Some EndElement) =
    (took.0, (took.1, refl), took.2) in
    record { end = next; told = λ events has. told_more s s _ _ _ _ event.EndElement refl next events has EndElement refl }

module _ (s : PlainSchema) (name : ℕ) (here next : Place) (above : List Opened) (child : SequenceChild) (kind : ℕ) (simple : simple_at s.kinds kind ≡ Some child.datatype) where
  abbrev pub inner : List Opened
  inner = opened child.name (first kind) ∷ opened name next ∷ above

  abbrev pub top : OpenElement
  top = record { name = child.name; place = first kind }

  pub has_top : HasTop inner top
  has_top = (opened name next ∷ above, refl)

  started : (entries : Entries) (old one : Cursor) → Takes (SpellsStep s.kinds here (element child.name kind next)) old one →
      IsNext (reading s (stands (Inside (opened name here) above) entries) old) (reading s (stands (around inner) entries) one) (Some (Start child.name))
  started entries old one took = (took.0, record { kind = kind; next = next; starts = took.1; leads = refl }, took.2)

  told_started : (entries : Entries) (old one : Cursor) → Takes (SpellsStep s.kinds here (element child.name kind next)) old one → (events : List TreeEvent) →
      HasTold (reading s (stands (Inside (opened name here) above) entries) old) events → HasTold (reading s (stands (around inner) entries) one) (Start child.name ∷ events)
  told_started entries old one took events has = told_more s s _ _ _ _ (event.Start child.name) refl (started entries old one took) events has (Start child.name) refl

  pub child_took : (bits : List Bool) (before after : List (ℕ × SpanAt)) (v : Value) (old one two three new : Cursor) →
      Takes (SpellsStep s.kinds here (element child.name kind next)) old one → Takes (SpellsStep s.kinds (first kind) (simple_step (first kind))) one two →
      Takes (λ b. SpellsValue child.datatype (texts_in bits before) child.name (value_of v) b (texts_in bits after)) two three →
      Takes (SpellsStep s.kinds (behind_value kind) (simple_step (behind_value kind))) three new →
      TakesChild (inside_at s name here above bits before old) (inside_at s name next above bits after new) child.name (value_of v)
  child_took bits before after v old one two three new start content value end =
      record {
        started = reading s (stands (around inner) (texts_in bits before)) one;
        same_schema = refl;
        same_bits = start.2.same;
        start = started (texts_in bits before) old one start;
        told = told_started (texts_in bits before) old one start;
        whole =
            whole_taken s v inner (opened name next ∷ above) (texts_in bits before) (texts_in bits after) one new
            (whole_took s child.datatype inner top (texts_in bits before) has_top refl simple (texts_in bits after) (opened name next ∷ above) v one two three new
            (simple_step (first kind)) (simple_step (behind_value kind)) (behind_value kind) refl content value refl refl end (λ t a same. ap rest_of same));
      }

  -- of a value of few bits
  pub short_took : (bits : List Bool) (entries : List (ℕ × SpanAt)) (v : ShortValue) (old one two three new : Cursor) →
      Takes (SpellsStep s.kinds here (element child.name kind next)) old one → Takes (SpellsStep s.kinds (first kind) (simple_step (first kind))) one two →
      Takes (λ b. SpellsValue child.datatype (texts_in bits entries) child.name (tree_of v) b (texts_in bits entries)) two three →
      Takes (SpellsStep s.kinds (behind_value kind) (simple_step (behind_value kind))) three new →
      TakesChild (inside_at s name here above bits entries old) (inside_at s name next above bits entries new) child.name (tree_of v)
  short_took bits entries (short.Bool v) = child_took bits entries entries (value.Bool v)
  short_took bits entries (short.Ordinal v) = child_took bits entries entries (value.Ordinal v)
  short_took bits entries (short.Number v) = child_took bits entries entries (value.Number v)

-- ---- several children

pub first_offer : (kinds : List PlainKind) (here : Place) (child : SequenceChild) (rest : List SequenceChild) (is : IsSequence kinds here (child ∷ rest)) → OffersChild kinds here is.1 child
first_offer kinds here child rest is = record { kind = is.0; offered = is.2; simple = is.3 }

-- the same bits lend the same texts
pub same_child : (s : PlainSchema) (name : ℕ) (here next : Place) (above : List Opened) (a b : List Bool) (before after : List (ℕ × SpanAt)) (old new : Cursor) (child : ℕ) (v : TreeValue) → a ≡ b →
    TakesChild (inside_at s name here above a before old) (inside_at s name next above a after new) child v →
    TakesChild (inside_at s name here above b before old) (inside_at s name next above b after new) child v
same_child s name here next above a b before after old new child v same took =
    let P : List Bool → Type 0 = λ x. TakesChild (inside_at s name here above x before old) (inside_at s name next above x after new) child v in subst P same took

abbrev pub told_child : ℕ → TreeValue → List TreeEvent → List TreeEvent
told_child name v events = EndElement ∷ Content v ∷ Start name ∷ events

pub child_told : (old new : Reading) (name : ℕ) (v : TreeValue) → TakesChild old new name v → (events : List TreeEvent) → HasTold old events → HasTold new (told_child name v events)
child_told old new name v took events has = took.whole.told_end (Content v ∷ Start name ∷ events) (took.whole.told (Start name ∷ events) (took.told events has))

-- three children are offered one behind the other, and then the end
module _ (s : PlainSchema) (name : ℕ) (here : Place) (above : List Opened) (first_one second_one third_one : SequenceChild) (is : IsSequence s.kinds here (first_one ∷ second_one ∷ third_one ∷ [])) where
  abbrev pub one : Place
  one = is.1

  abbrev pub two : Place
  two = is.4.1

  abbrev pub three : Place
  three = is.4.4.1

  pub offers_first : OffersChild s.kinds here one first_one
  offers_first = first_offer s.kinds here first_one (second_one ∷ third_one ∷ []) is

  pub offers_second : OffersChild s.kinds one two second_one
  offers_second = first_offer s.kinds is.1 second_one (third_one ∷ []) is.4

  pub offers_third : OffersChild s.kinds two three third_one
  offers_third = first_offer s.kinds is.4.1 third_one [] is.4.4

  pub offers_end : offers s.kinds three ≡ End ∷ []
  offers_end = is.4.4.4

-- ---- what a reader tells of a sequence

pub tells_three : (kinds : List PlainKind) (here : Place) (children : List SequenceChild) (a b c : SequenceChild) → children ≡ a ∷ b ∷ c ∷ [] → TellsSequence kinds here children → IsSequence kinds here (a ∷ b ∷ c ∷ [])
tells_three kinds here children a b c is (inl none) = let wrong : a ∷ b ∷ c ∷ [] ≡ [] = sym is ∙ none in absurd cc
tells_three kinds here children a b c is (inr sequence) = subst (λ (l : List SequenceChild). IsSequence kinds here l) is sequence

module _ (s : PlainSchema) (p : Phase) (elements : List Opened) (children : List SequenceChild) (holds : HoldsSequence s elements children) (bits : List Bool) (before : List (ℕ × SpanAt)) (old : Cursor) (is : p ≡ phase.Inside) where
  abbrev Ahead : Phase → List Opened → Reading
  Ahead q es = reading s (state_of q es bits before) old

  pub three_taken : (popped : List Opened) (moved : List Bool) (after : List (ℕ × SpanAt)) (new : Cursor) (values : List TreeValue) → popped ≡ holds.above → moved ≡ bits →
      TakesSequence (inside_at s holds.top.name holds.top.place holds.above bits before old) (behind_all s holds.above bits after new) values →
      TakesSequence (Ahead p elements) (reading s (state_of p popped moved after) new) values
  three_taken popped moved after new values pops same took =
      let P : Phase → List Opened → List Opened → List Bool → Type 0 = λ q es out b. TakesSequence (Ahead q es) (reading s (state_of q out b after) new) values in
      let one : P phase.Inside elements holds.above bits = subst (λ es. P phase.Inside es holds.above bits) (sym holds.elements_are) took in
      let two : P phase.Inside elements popped bits = subst (λ out. P phase.Inside elements out bits) (sym pops) one in
      let three_of : P phase.Inside elements popped moved = subst (λ b. P phase.Inside elements popped b) (sym same) two in
      subst (λ q. P q elements popped moved) (sym is) three_of

pub sequence_told : (old new : Reading) (a b c : TreeValue) → TakesSequence old new (a ∷ b ∷ c ∷ []) → (events : List TreeEvent) → HasTold old events → (more : List TreeEvent) × HasTold new more
sequence_told old new a b c took events has =
    let e1 = told_child took.0 a events in
    let e2 = told_child took.5.0 b e1 in
    let e3 = told_child took.5.5.0 c e2 in
    let one = child_told old took.1 took.0 a took.4 events has in
    let two = child_told took.1 took.5.1 took.5.0 b took.5.4 e1 one in
    let three = child_told took.5.1 took.5.5.1 took.5.5.0 c took.5.5.4 e2 two in
    (EndElement ∷ e3, took.5.5.5.told e3 three)

pub open_behind : (kinds : List PlainKind) (elements above popped : List Opened) (top : Opened) → elements ≡ top ∷ above → popped ≡ above → AreOpen kinds elements → AreOpen kinds popped
open_behind kinds elements above popped top is pops are =
    let all : AreOpen kinds (top ∷ above) = subst (λ es. AreOpen kinds es) is are in subst (λ es. AreOpen kinds es) (sym pops) all.2

-- ---- where an element begins

pub eqb_is : (a b : ℕ) → eqb a b ≡ true → a ≡ b
eqb_is a b t =
    elim (eqb_tells a b) [
      | inl h ↦ h.1
      | inr h ↦ let wrong : false ≡ true = sym h.0 ∙ t in absurd cc
    ]

all_same : (p q : Place) → p ≡ q → (eqb p.kind q.kind && (eqb p.particle q.particle && (eqb p.copies q.copies && eqb p.attributes q.attributes))) ≡ true
all_same p q same =
    subst (λ (x : Place). (eqb p.kind x.kind && (eqb p.particle x.particle && (eqb p.copies x.copies && eqb p.attributes x.attributes))) ≡ true) same
    (and-both _ _ (eqb_same p.kind) (and-both _ _ (eqb_same p.particle) (and-both _ _ (eqb_same p.copies) (eqb_same p.attributes))))
  where
    and-both : (a b : Bool) → a ≡ true → b ≡ true → (a && b) ≡ true
    and-both a b one two = rw one two

    eqb_same : (a : ℕ) → eqb a a ≡ true
    eqb_same a =
        elim (eqb_tells a a) [
          | inl h ↦ h.0
          | inr h ↦ absurd (h.1 refl)
        ]

not_false : (x : Bool) → false ≡ not x → x ≡ true
not_false true is = refl
not_false false is = absurd cc

abbrev place : ℕ → ℕ → ℕ → ℕ → Place
place kind particle copies attributes = record { kind = kind; particle = particle; copies = copies; attributes = attributes }

place_parts : (k p c a k' p' c' a' : ℕ) → k ≡ k' → p ≡ p' → c ≡ c' → a ≡ a' → place k p c a ≡ place k' p' c' a'
place_parts k p c a k' p' c' a' same_kind same_particle same_copies same_attributes =
    ap (λ x. place x p c a) same_kind ∙ ap (λ x. place k' x c a) same_particle ∙ ap (λ x. place k' p' x a) same_copies ∙ ap (λ x. place k' p' c' x) same_attributes

pub same_place : (p q : Place) → false ≡ not (eqb p.kind q.kind && (eqb p.particle q.particle && (eqb p.copies q.copies && eqb p.attributes q.attributes))) → p ≡ q
same_place p q is =
    let all = not_false (eqb p.kind q.kind && (eqb p.particle q.particle && (eqb p.copies q.copies && eqb p.attributes q.attributes))) is in
    let rest = and-r (eqb p.kind q.kind) (eqb p.particle q.particle && (eqb p.copies q.copies && eqb p.attributes q.attributes)) all in
    let last = and-r (eqb p.particle q.particle) (eqb p.copies q.copies && eqb p.attributes q.attributes) rest in
    place_parts p.kind p.particle p.copies p.attributes q.kind q.particle q.copies q.attributes
    (eqb_is p.kind q.kind (and-l (eqb p.kind q.kind) (eqb p.particle q.particle && (eqb p.copies q.copies && eqb p.attributes q.attributes)) all))
    (eqb_is p.particle q.particle (and-l (eqb p.particle q.particle) (eqb p.copies q.copies && eqb p.attributes q.attributes) rest))
    (eqb_is p.copies q.copies (and-l (eqb p.copies q.copies) (eqb p.attributes q.attributes) last))
    (eqb_is p.attributes q.attributes (and-r (eqb p.copies q.copies) (eqb p.attributes q.attributes) last))

pub three_in : (l : List SequenceChild) (d : SequenceChild) → 3 ≤ length l → length l < 4 → l ≡ get_or l 0 d ∷ get_or l 1 d ∷ get_or l 2 d ∷ []
three_in [] d more less = absurd (omega (arith, more))
three_in (a ∷ []) d more less = absurd (omega (arith, more))
three_in (a ∷ b ∷ []) d more less = absurd (omega (arith, more))
three_in (a ∷ b ∷ c ∷ []) d more less = refl
three_in (a ∷ b ∷ c ∷ e ∷ l) d more less = absurd (omega (arith, less))

-- an element of which nothing is taken
module _ (elements : List Opened) (top : OpenElement) (q : Place) (ne : Bool) (has : HasTop elements top) (begins : q ≡ first top.place.kind)
    (tested : ne ≡ not (eqb top.place.kind q.kind && (eqb top.place.particle q.particle && (eqb top.place.copies q.copies && eqb top.place.attributes q.attributes)))) where
  pub begun : ne ≡ false → (name : ℕ) × (above : List Opened) × (elements ≡ opened name (first top.place.kind) ∷ above)
  begun is = (top.name, has.0, has.1 ∙ ap (λ (p : Place). opened top.name p ∷ has.0) (same_place top.place q (sym is ∙ tested) ∙ begins))

  pub not_begun : (p : Phase) (name kind : ℕ) (above : List Opened) → ne ≡ true → p ≡ phase.Inside → standing_of p elements ≡ Inside (opened name (first kind)) above → ⊥
  not_begun p name kind above is inside at =
      let same : Some top.place ≡ Some (first kind) = sym (ap innermost_place (ap (λ (x : Phase). standing_of x elements) inside ∙ ap (λ (es : List Opened). around es) has.1)) ∙ ap innermost_place at in
      let place_is : top.place ≡ first kind = cc in
      let there : top.place ≡ q = place_is ∙ ap (λ (p : Place). first p.kind) (sym place_is) ∙ sym begins in
      let wrong : true ≡ false = sym is ∙ tested ∙ ap not (all_same top.place q there) in
      absurd cc

pub same_begun : (p : Phase) (elements : List Opened) (kind : ℕ) (it : (name : ℕ) × (above : List Opened) × (elements ≡ opened name (first kind) ∷ above)) → p ≡ phase.Inside →
    (name k : ℕ) (above : List Opened) → standing_of p elements ≡ Inside (opened name (first k)) above → k ≡ kind
same_begun p elements kind it inside name k above at =
    let same : Some (first kind) ≡ Some (first k) = sym (ap innermost_place (ap (λ (x : Phase). standing_of x elements) inside ∙ ap (λ (es : List Opened). around es) it.2)) ∙ ap innermost_place at in
    ap (λ (o : Option Place). kind_in o) (sym same)
  where
    kind_in : Option Place → ℕ
    kind_in None = 0
    kind_in (Some p) = p.kind

pub holds_sequence : (s : PlainSchema) (elements : List Opened) (kind : ℕ) (l : List SequenceChild) (it : (name : ℕ) × (above : List Opened) × (elements ≡ opened name (first kind) ∷ above)) → TellsSequence s.kinds (first kind) l → HoldsSequence s elements l
holds_sequence s elements kind l it tells = record { top = opened it.0 (first kind); above = it.1; elements_are = it.2; tells = tells }

-- what is kept of a sequence is what holds three
pub kept_three : (told children : List SequenceChild) (cursor : Cursor) → (length children ≤ 8 → told ≡ children) → HoldsThree children cursor → HoldsThree told cursor
kept_three told children cursor keeps h =
    let few : length children ≤ 8 = omega (arith, ap length h.children_are) in
    subst (λ (l : List SequenceChild). HoldsThree l cursor) (sym (keeps few)) h
