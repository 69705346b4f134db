-- Events inside the innermost element, from the code of a step and a value behind it.
use Rattle.std.proofs.Common.{◌≡◌, ℕ, zero, suc, ◌+◌, ◌-◌, ◌<◌, Bool, true, false, List, ◌∷◌, length, None, refl, subst, inl, inr, arith}
use Rattle.exi_bits.specs.Reading.{Cursor, Takes, ahead}
use Rattle.exi_schema.specs.declared.places.Place.{Place}
use Rattle.exi_schema.specs.declared.places.Step.{Step}
use Rattle.exi_schema.specs.declared.places.Step.TheVariants as step
use Rattle.exi_schema.specs.Schemas.{PlainSchema, is_within}
use Rattle.exi_schema.specs.Plain.{PlainKind}
use Rattle.exi_schema.specs.declared.tables.MemberStanding.{MemberStanding}
use Rattle.exi_schema.specs.declared.tables.MemberStanding.TheVariants.{Taken, Abstract, OutOfProfile}
use Rattle.exi_schema.specs.Offers.{IsPlace}
use Rattle.exi_schema.specs.Steps.{IsStep}
use Rattle.exi_writing.specs.RefusalCause.{RefusalCause}
use Rattle.exi_writing.specs.Documents.{SpellsStep}
use Rattle.exi_writing.specs.Grammar.{Opened, around}
use Rattle.exi_writing.specs.Refusals.{RefusesStep, RefusesFrom, step_cause}
use Rattle.exi_writing.specs.Trees.{Value as TreeValue, Attribute, Content, Start}
use Rattle.exi_writing.specs.Values.{Entries}
use Rattle.exi_writing.specs.Event.TheVariants as event
use Rattle.exi_writing.specs.Value.{Value}
use Rattle.exi_writing.specs.Meaning.{value_of, texts_in}
use Rattle.exi_bits.specs.declared.span.SpanAt.{SpanAt}
use Rattle.exi_events.specs.declared.open.OpenElement.{OpenElement}
use Rattle.exi_events.specs.Open.{opened_of}
use Rattle.exi_events.specs.Inside.{AreOpen, HasTop, GoesTo, SpellsInside, SpellsValueOf, RefusesValueOf}
use Rattle.exi_events.proofs.Front.{takes_both}
use Rattle.exi_events.proofs.Nexts.{next_stays, StaysIn}

-- ---- refusals

pub step_refused : (s : PlainSchema) (elements : List Opened) (top : OpenElement) (entries : Entries) (bits : List Bool) (why : RefusalCause) (bit place : ℕ) →
    HasTop elements top → RefusesStep s.kinds top.place bits why → bit ≡ place →
    (at : ℕ) × RefusesFrom s (around elements) entries bits why at × (bit ≡ place + at)
step_refused s elements top entries bits why bit place has refused is = (0, rw has.1 (inl (refused, refl)), omega (arith, is))

pub attribute_refused : (s : PlainSchema) (old middle : Cursor) (elements : List Opened) (top : OpenElement) (entries : Entries) (name kind : ℕ) (next : Place) (why : RefusalCause) (bit : ℕ) →
    HasTop elements top → Takes (SpellsStep s.kinds top.place (step.Attribute name kind next)) old middle →
    ((at : ℕ) × RefusesValueOf s.kinds kind entries name (ahead middle) why at × (bit ≡ middle.place + at)) →
    (at : ℕ) × RefusesFrom s (around elements) entries (ahead old) why at × (bit ≡ old.place + at)
attribute_refused s old middle elements top entries name kind next why bit has took refused =
    let moved : middle.place ≡ old.place + length took.0 = took.2.moved in
    let is : bit ≡ middle.place + refused.0 = refused.2 in (
      length took.0 + refused.0,
      rw has.1 (inr (inl (name, kind, next, refused.1.0, refused.1.1, record { code = took.0; rest = ahead middle; behind = refused.0; taken = took.1; bits_are = took.2.there; refused = refused.1.2; place = refl }))),
      omega (arith, moved, is),
    )

pub content_refused : (s : PlainSchema) (old middle : Cursor) (elements : List Opened) (top : OpenElement) (entries : Entries) (next : Place) (why : RefusalCause) (bit : ℕ) →
    HasTop elements top → Takes (SpellsStep s.kinds top.place (step.Characters next)) old middle →
    ((at : ℕ) × RefusesValueOf s.kinds top.place.kind entries top.name (ahead middle) why at × (bit ≡ middle.place + at)) →
    (at : ℕ) × RefusesFrom s (around elements) entries (ahead old) why at × (bit ≡ old.place + at)
content_refused s old middle elements top entries next why bit has took refused =
    let moved : middle.place ≡ old.place + length took.0 = took.2.moved in
    let is : bit ≡ middle.place + refused.0 = refused.2 in (
      length took.0 + refused.0,
      rw has.1 (inr (inr (next, refused.1.0, refused.1.1, record { code = took.0; rest = ahead middle; behind = refused.0; taken = took.1; bits_are = took.2.there; refused = refused.1.2; place = refl }))),
      omega (arith, moved, is),
    )

-- ---- what is taken

pub attribute_took : (s : PlainSchema) (old middle new : Cursor) (elements moved : List Opened) (top : OpenElement) (entries after : Entries) (name kind : ℕ) (next : Place) (v : Value) →
    HasTop elements top → GoesTo elements next moved →
    Takes (SpellsStep s.kinds top.place (step.Attribute name kind next)) old middle →
    Takes (SpellsValueOf s.kinds kind entries name (value_of v) after) middle new →
    Takes (SpellsInside s elements entries (event.Attribute name v) moved after) old new
attribute_took s old middle new elements moved top entries after name kind next v has goes code value =
    let both = takes_both {A = SpellsStep s.kinds top.place (step.Attribute name kind next)} {B = SpellsValueOf s.kinds kind entries name (value_of v) after} old middle new code value in (
      both.0,
      (
        Attribute name (value_of v),
        refl,
        rw has.1 (rw (goes (opened_of top) has.0 has.1)
            (record {
              kind = kind;
              next = next;
              datatype = both.1.3.0;
              after = after;
              code = both.1.0;
              inside = both.1.1;
              starts = both.1.2;
              is_simple = both.1.3.1;
              spelled = both.1.3.2;
              bits_are = both.1.4;
              leads = refl;
            })),
      ),
      both.2,
    )

pub content_took : (s : PlainSchema) (old middle new : Cursor) (elements moved : List Opened) (top : OpenElement) (entries after : Entries) (next : Place) (v : Value) →
    HasTop elements top → GoesTo elements next moved →
    Takes (SpellsStep s.kinds top.place (step.Characters next)) old middle →
    Takes (SpellsValueOf s.kinds top.place.kind entries top.name (value_of v) after) middle new →
    Takes (SpellsInside s elements entries (event.Value v) moved after) old new
content_took s old middle new elements moved top entries after next v has goes code value =
    let both = takes_both {A = SpellsStep s.kinds top.place (step.Characters next)} {B = SpellsValueOf s.kinds top.place.kind entries top.name (value_of v) after} old middle new code value in (
      both.0,
      (
        Content (value_of v),
        refl,
        rw has.1 (rw (goes (opened_of top) has.0 has.1)
            (record {
              next = next;
              datatype = both.1.3.0;
              after = after;
              code = both.1.0;
              inside = both.1.1;
              starts = both.1.2;
              is_simple = both.1.3.1;
              spelled = both.1.3.2;
              bits_are = both.1.4;
              leads = refl;
            })),
      ),
      both.2,
    )

-- ---- the elements that are open

pub no_cause : (name kind : ℕ) (next : Place) (standing : MemberStanding) (past_limit : Bool) → step_cause (step.Element name kind next standing past_limit) ≡ None →
    (standing ≡ Taken) × (past_limit ≡ false)
no_cause name kind next standing true is = absurd cc
no_cause name kind next Taken false is = (refl, refl)
no_cause name kind next Abstract false is = absurd cc
no_cause name kind next OutOfProfile false is = absurd cc

pub element_took : (s : PlainSchema) (old new : Cursor) (elements moved pushed : List Opened) (top : OpenElement) (entries : Entries) (name kind : ℕ) (next place : Place) (standing : MemberStanding) (past_limit : Bool) →
    HasTop elements top → GoesTo elements next moved → pushed ≡ record { name = name; place = place } ∷ moved →
    place ≡ record { kind = kind; particle = 0; copies = 0; attributes = 0 } →
    step_cause (step.Element name kind next standing past_limit) ≡ None →
    Takes (SpellsStep s.kinds top.place (step.Element name kind next standing past_limit)) old new →
    Takes (SpellsInside s elements entries (event.Start name) pushed entries) old new
element_took s old new elements moved pushed top entries name kind next place standing past_limit has goes pushes is_first cause code =
    let plain = no_cause name kind next standing past_limit cause in
    let P : MemberStanding → Bool → Type 0 = λ st p. SpellsStep s.kinds top.place (step.Element name kind next st p) code.0 in
    let one : P Taken past_limit = subst (λ st. P st past_limit) plain.0 code.1 in
    let both : P Taken false = subst (λ p. P Taken p) plain.1 one in (
      code.0,
      (
        Start name,
        refl,
        rw has.1 (rw pushes (rw is_first (rw (goes (opened_of top) has.0 has.1) (record { kind = kind; next = next; starts = both; leads = refl })))),
      ),
      code.2,
    )

pub within_child : (kinds : List PlainKind) (d here child : ℕ) → is_within kinds d here ≡ true →
    ((depth : ℕ) → is_within kinds (suc depth) here ≡ true → is_within kinds depth child ≡ true) →
    (e : ℕ) × (d ≡ suc (suc e)) × (is_within kinds (suc e) child ≡ true)
within_child kinds zero here child is step = absurd cc
within_child kinds (suc zero) here child is step = let none : is_within kinds zero child ≡ true = step zero is in absurd cc
within_child kinds (suc (suc e)) here child is step = (e, refl, step (suc e) is)

pub goes_open : (kinds : List PlainKind) (elements moved : List Opened) (top : OpenElement) (next : Place) → HasTop elements top → GoesTo elements next moved →
    AreOpen kinds elements → IsPlace kinds next → next.kind ≡ top.place.kind → AreOpen kinds moved
goes_open kinds elements moved top next has goes are place same =
    let all : AreOpen kinds (opened_of top ∷ has.0) = subst (λ es. AreOpen kinds es) has.1 are in
    rw (goes (opened_of top) has.0 has.1) (place, rw same all.1, all.2)

pub push_room : (kinds : List PlainKind) (names : ℕ) (elements moved : List Opened) (top : OpenElement) (name kind : ℕ) (next : Place) (standing : MemberStanding) (past_limit : Bool) →
    HasTop elements top → GoesTo elements next moved → AreOpen kinds elements → IsStep kinds names top.place.kind (step.Element name kind next standing past_limit) →
    (length moved < 16) × (is_within kinds (16 - length moved) kind ≡ true)
push_room kinds names elements moved top name kind next standing past_limit has goes are is =
    let all : AreOpen kinds (opened_of top ∷ has.0) = subst (λ es. AreOpen kinds es) has.1 are in
    let below = within_child kinds (16 - length has.0) top.place.kind kind all.1 is.3 in
    let deep : 16 - length has.0 ≡ suc (suc below.0) = below.1 in
    let left : 16 - suc (length has.0) ≡ suc below.0 = omega (arith, deep) in
    rw (goes (opened_of top) has.0 has.1) (omega (arith, deep), rw left below.2)

pub push_open : (s : PlainSchema) (elements moved pushed : List Opened) (top : OpenElement) (name kind : ℕ) (next place : Place) (standing : MemberStanding) (past_limit : Bool) →
    HasTop elements top → GoesTo elements next moved → pushed ≡ record { name = name; place = place } ∷ moved →
    place ≡ record { kind = kind; particle = 0; copies = 0; attributes = 0 } → IsPlace s.kinds place →
    AreOpen s.kinds elements → IsStep s.kinds (length s.names) top.place.kind (step.Element name kind next standing past_limit) → next.kind ≡ top.place.kind →
    AreOpen s.kinds pushed
push_open s elements moved pushed top name kind next place standing past_limit has goes pushes is_first there are is same =
    let room = push_room s.kinds (length s.names) elements moved top name kind next standing past_limit has goes are is in
    let rest : AreOpen s.kinds moved = goes_open s.kinds elements moved top next has goes are is.2 same in
    rw pushes (there, rw is_first room.1, rest)

-- the place behind the step that a code names
pub took_stays : (kinds : List PlainKind) (here : Place) (is : Step) (old new : Cursor) → Takes (SpellsStep kinds here is) old new → StaysIn here.kind is
took_stays kinds here is old new took = next_stays kinds here took.1.code is took.1.offered

-- a step that was matched
pub as_step : (kinds : List PlainKind) (here : Place) (st form : Step) (old new : Cursor) → st ≡ form → Takes (SpellsStep kinds here st) old new → Takes (SpellsStep kinds here form) old new
as_step kinds here st form old new is took = let P : Step → Type 0 = λ x. Takes (SpellsStep kinds here x) old new in subst P is took

pub is_step : (kinds : List PlainKind) (names here : ℕ) (st form : Step) → st ≡ form → IsStep kinds names here st → IsStep kinds names here form
is_step kinds names here st form is of_schema = let P : Step → Type 0 = λ x. IsStep kinds names here x in subst P is of_schema

pub is_plain : (st form : Step) → st ≡ form → step_cause st ≡ None → step_cause form ≡ None
is_plain st form is plain = let P : Step → Type 0 = λ x. step_cause x ≡ None in subst P is plain

-- the same bits lend the same texts
pub same_value : (kinds : List PlainKind) (kind name : ℕ) (a b : List Bool) (before after : List (ℕ × SpanAt)) (v : TreeValue) (old new : Cursor) → a ≡ b →
    Takes (SpellsValueOf kinds kind (texts_in a before) name v (texts_in a after)) old new → Takes (SpellsValueOf kinds kind (texts_in b before) name v (texts_in b after)) old new
same_value kinds kind name a b before after v old new same took =
    let P : List Bool → Type 0 = λ x. Takes (SpellsValueOf kinds kind (texts_in x before) name v (texts_in x after)) old new in subst P same took

pub same_refused : (kinds : List PlainKind) (kind name : ℕ) (a b bits : List Bool) (before : List (ℕ × SpanAt)) (why : RefusalCause) (bit place : ℕ) → a ≡ b →
    ((at : ℕ) × RefusesValueOf kinds kind (texts_in a before) name bits why at × (bit ≡ place + at)) → (at : ℕ) × RefusesValueOf kinds kind (texts_in b before) name bits why at × (bit ≡ place + at)
same_refused kinds kind name a b bits before why bit place same refused =
    let P : List Bool → Type 0 = λ x. (at : ℕ) × RefusesValueOf kinds kind (texts_in x before) name bits why at × (bit ≡ place + at) in subst P same refused
