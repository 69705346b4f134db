-- What the next event is.
use Rattle.std.proofs.Common.{◌≡◌, ℕ, pos, ◌+◌, List, [], ◌∷◌, ◌++◌, length, drop, map, nat_lt, Option, Some, None, Result, Err, if◌then◌else◌, Bool, arith, refl, sym, ap, subst, ◌∙◌}
use Rattle.std.proofs.lemmas.List.{drop_all}
use Rattle.std.specs.Prelude.{slice_get}
use Rattle.std.specs.List.{list_any}
use Rattle.exi_spec.specs.Bits.{bits_of}
use Rattle.exi_bits.specs.Reading.{Cursor}
use Rattle.exi_schema.specs.declared.places.Place.{Place}
use Rattle.exi_schema.specs.declared.places.Step.{Step}
use Rattle.exi_schema.specs.declared.places.Step.TheVariants as step
use Rattle.exi_schema.specs.Schemas.{PlainSchema}
use Rattle.exi_schema.specs.declared.tables.AttributeOf.{AttributeOf}
use Rattle.exi_schema.specs.declared.tables.Member.{Member}
use Rattle.exi_schema.specs.Offers.{offers, attribute_steps, through_required, simple_step}
use Rattle.exi_schema.specs.Steps.{simple_at}
use Rattle.exi_events.specs.Documents.{SpellsStep, element, first}
use Rattle.exi_events.specs.Grammar.{Opened, Standing, Inside, Behind, State, opened, MovesFrom}
use Rattle.exi_events.specs.Trees.{Event, Document, Start, Attribute, Content, EndElement, Value, Truth, Ordinal, Number, Bytes, Text}
use Rattle.exi_events.specs.Values.{SpellsValue, Entries}
use Rattle.exi_events.specs.Event.{Event as ReadEvent}
use Rattle.exi_events.specs.Event.TheVariants as read
use Rattle.exi_events.specs.Value.{Value as ReadValue}
use Rattle.exi_events.specs.Meaning.{event_of, value_of}
use Rattle.exi_schema.specs.declared.tables.Datatype.{Datatype}
use Rattle.exi_schema.specs.declared.tables.Datatype.TheVariants as datatype
use Rattle.message_parts.specs.Values.{IsRead}
use Rattle.exi_events.specs.Reader.{Reading, reading, IsNext, TakesValue}
use Rattle.exi_schema.specs.Plain.{PlainKind, PlainParticle, containing}
use Rattle.exi_schema.specs.Offers.{offers, offers_of, element_step, element_steps}
use Rattle.exi_schema.specs.Steps.{simple_at, datatype_of}
use Rattle.exi_events.proofs.Offered.{EachOf, each_of, each_of_both, each_of_some, one_taken, offers_simple}
use Rattle.message_parts.specs.Contents.{started}
use Rattle.exi_events.specs.Refusal.{Refusal}
use Rattle.exi_events.specs.Refusals.{IsRefused}
use Rattle.message_parts.specs.Reading.{IsRefusal, Frame, Seen, ToldUpTo, Goes, Enters, Leaves, IsBetween, ReadsFrom, IsChild, IsRefusalKept, at_particle}

-- inside an element of a simple kind, behind its value
pub record HasValue (ks : List PlainKind) (F : Frame) (kind : ℕ) (told : List Event) (d : Seen) : Type 0 where
  pub goes : Goes ks F told d
  pub standing : d.state.standing ≡ Inside (opened F.name (record { kind = kind; particle = 1; copies = 0; attributes = 0 })) F.above

-- an event is taken, or the document has ended
abbrev pub Follows : Seen → Seen → Option Event → Type 0
Follows old new o = IsNext (reading old.schema old.state old.cursor) (reading new.schema new.state new.cursor) o

-- what is told behind more events
abbrev pub TellsMore : Seen → Seen → Option Event → Type 0
TellsMore old new o =
    (events : List Event) → ToldUpTo old.schema events old.state old.cursor → (told : Event) → o ≡ Some told → ToldUpTo new.schema (told ∷ events) new.state new.cursor

-- ---- a descent stays open

open_by : (old new : Seen) (o : Option Event) (events : List Event) → new.schema ≡ old.schema → ToldUpTo old.schema events old.state old.cursor →
    Follows old new o → TellsMore old new o → (more : List Event) × ToldUpTo new.schema more new.state new.cursor
open_by old new (Some e) events same has next tells = (e ∷ events, tells events has e refl)
open_by old new None events same has next tells =
    let P : State → Cursor → Type 0 = λ st cu. ToldUpTo old.schema events st cu in
    let kept : ToldUpTo old.schema events new.state new.cursor = subst (λ st. P st new.cursor) (sym next.2) (subst (λ cu. P old.state cu) (sym next.3) has) in
    (events, subst (λ (s : PlainSchema). ToldUpTo s events new.state new.cursor) (sym same) kept)

kept_by : (d : Seen) (o : Option _) → o ≡ None → IsRefusalKept d o → (events : List Event) × ToldUpTo d.schema events d.state d.cursor
kept_by d None is kept = kept
kept_by d (Some r) is kept = absurd cc

kept_with : (d : Seen) (o : Option _) → o ≡ None → ((events : List Event) × ToldUpTo d.schema events d.state d.cursor) → IsRefusalKept d o
kept_with d None is kept = kept
kept_with d (Some r) is kept = absurd cc

pub stays_open : (old new : Seen) (o : Option Event) → new.schema ≡ old.schema → old.refused ≡ None → new.refused ≡ None → IsRefusalKept old old.refused →
    Follows old new o → TellsMore old new o → IsRefusalKept new new.refused
stays_open old new o same was is kept next tells =
    let has = kept_by old old.refused was kept in
    kept_with new new.refused is (open_by old new o has.0 same has.1 next tells)

-- ---- what is offered behind the attributes

behind_attributes : (here : Place) (n : ℕ) (l attributes : List AttributeOf) (E : List Step) → l ≡ [] →
    attribute_steps here n (through_required l) ++ (if list_any (λ (a : AttributeOf). a.required) l then [] else E) ≡ E
behind_attributes here n [] attributes E is = refl
behind_attributes here n (a ∷ l) attributes E is = absurd cc

module _ (s : PlainSchema) (ks : List PlainKind) (kind at copies : ℕ) (attributes : List AttributeOf) (declared : List PlainParticle)
    (are : s.kinds ≡ ks) (is_kind : slice_get ks kind ≡ Some (containing attributes declared)) where
  abbrev here : Place
  here = at_particle kind (length attributes) at copies

  abbrev elements : List Step
  elements = element_steps here (length attributes) at copies (drop at declared)

  pub offered_here : offers s.kinds here ≡ elements
  offered_here =
      ap (λ (k : List PlainKind). offers k here) are ∙ ap (λ (o : Option PlainKind). offers_of here o) is_kind
      ∙ behind_attributes here (length attributes) (drop (length attributes) attributes) attributes elements (drop_all (length attributes) attributes (omega arith))

  pub not_simple : simple_at s.kinds kind ≡ None
  not_simple = ap (λ (k : List PlainKind). simple_at k kind) are ∙ ap (λ (o : Option PlainKind). datatype_of o) is_kind

-- ---- no attribute among members and the end

abbrev pub IsElementOrEnd : Step → Type 0
IsElementOrEnd (step.Attribute name kind next) = ⊥
IsElementOrEnd (step.Element name kind next standing past_limit) = Unit {0}
IsElementOrEnd step.End = Unit {0}
IsElementOrEnd (step.Characters next) = ⊥

all_members : (place : Place) (n at copies : ℕ) (p : PlainParticle) (members : List Member) → EachOf IsElementOrEnd (map (element_step place n at copies p) members)
all_members place n at copies p [] = tt
all_members place n at copies p (m ∷ members) = (tt, all_members place n at copies p members)

pub all_elements : (place : Place) (n at copies : ℕ) (particles : List PlainParticle) → EachOf IsElementOrEnd (element_steps place n at copies particles)
all_elements place n at copies [] = (tt, tt)
all_elements place n at copies (p ∷ particles) =
    each_of_both IsElementOrEnd (map (element_step place n at copies p) p.members) _ (all_members place n at copies p p.members)
    (each_of_some IsElementOrEnd (nat_lt copies p.least) _ (all_elements place n (at + 1) 0 particles))

-- ---- the next child

module _ (ks : List PlainKind) (F : Frame) (kind at copies : ℕ) (attributes : List AttributeOf) (declared : List PlainParticle) (told : List Event) (new : Seen)
    (is_kind : slice_get ks kind ≡ Some (containing attributes declared)) where
  abbrev top : Opened
  top = opened F.name (at_particle kind (length attributes) at copies)

  abbrev Child : Option ℕ → Type 0
  Child o = IsChild ks F (at_particle kind (length attributes) at copies) (length attributes) at copies (drop at declared) told new o

  child_by : (e : ReadEvent) (entries : Entries) (bits : List Bool) (now : Event) → F.schema.kinds ≡ ks → event_of e ≡ Some now →
      Goes ks F (now ∷ told) new → MovesFrom SpellsValue F.schema (Inside top F.above) entries now bits new.state → Child (started e)
  child_by e entries bits (Document number) are is goes moves = absurd moves
  child_by (read.Start n) entries bits (Start name) are is goes moves =
      let same : Some (Start n) ≡ Some (Start name) = is in
      let name_is : n ≡ name = cc in
      let code = subst (λ (os : List Step). slice_get os moves.starts.code ≡ Some (element name moves.kind moves.next))
      (offered_here F.schema ks kind at copies attributes declared are is_kind) moves.starts.offered in
      subst (λ (k : ℕ). Child (Some k)) (sym name_is) (moves.starts.code, moves.kind, moves.next, code, goes, ap (λ (st : State). st.standing) moves.leads)
  child_by e entries bits (Start name) are is goes moves = absurd cc
  child_by e entries bits (Attribute name value) are is goes moves =
      absurd (each_of IsElementOrEnd _ moves.starts.code _ (all_elements (at_particle kind (length attributes) at copies) (length attributes) at copies (drop at declared))
      (subst (λ (os : List Step). slice_get os moves.starts.code ≡ Some (step.Attribute name moves.kind moves.next)) (offered_here F.schema ks kind at copies attributes declared are is_kind) moves.starts.offered))
  child_by e entries bits (Content value) are is goes moves =
      let none : None ≡ Some moves.datatype = sym (not_simple F.schema ks kind at copies attributes declared are is_kind) ∙ moves.is_simple in absurd cc
  child_by read.EndElement entries bits EndElement are is goes moves =
      let code = subst (λ (os : List Step). slice_get os moves.0.code ≡ Some step.End) (offered_here F.schema ks kind at copies attributes declared are is_kind) moves.0.offered in
      ((moves.0.code, code), goes, ap (λ (st : State). st.standing) moves.1)
  child_by e entries bits EndElement are is goes moves = absurd cc

  child_next : (e : ReadEvent) (o : Option Event) (old : Seen) → event_of e ≡ o → Goes ks F told old → old.state.standing ≡ Inside top F.above → new.schema ≡ old.schema → new.cursor.bits ≡ old.cursor.bits → new.refused ≡ None →
      Follows old new o → TellsMore old new o → Child (started e)
  child_next e None old is goes st same bits open_still next tells =
      let behind : Inside top F.above ≡ Behind = sym st ∙ next.0 in absurd cc
  child_next e (Some now) old is goes st same bits open_still next tells =
      let P : PlainSchema → Standing → Type 0 = λ s x. MovesFrom SpellsValue s x old.state.entries now next.0 new.state in
      let moves : P F.schema (Inside top F.above) = subst (λ x. P F.schema x) st (subst (λ (s : PlainSchema). P s old.state.standing) goes.schema_is next.1) in
      let has : ToldUpTo old.schema told old.state old.cursor = subst (λ (s : PlainSchema). ToldUpTo s told old.state old.cursor) (sym goes.schema_is) goes.told in
      let more = subst (λ (s : PlainSchema). ToldUpTo s (now ∷ told) new.state new.cursor) (same ∙ goes.schema_is) (tells told has now refl) in
      let on : Goes ks F (now ∷ told) new =
      record { schema_is = same ∙ goes.schema_is; kinds_are = goes.kinds_are; bits_are = bits ∙ goes.bits_are; none_refused = open_still; told = more } in
      child_by e old.state.entries next.0 now goes.kinds_are is on moves

pub reads_next : (ks : List PlainKind) (F : Frame) (attributes : List AttributeOf) (declared : List PlainParticle) (at copies : ℕ) (told : List Event) (e : ReadEvent) (old new : Seen) →
    IsBetween ks F attributes declared at copies told old →
    new.child ≡ started e → new.schema ≡ old.schema → new.cursor.bits ≡ old.cursor.bits → new.refused ≡ None →
    Follows old new (event_of e) → TellsMore old new (event_of e) → ReadsFrom ks F attributes declared at copies told new
reads_next ks F attributes declared at copies told e old new h child same bits open_still next tells =
    record {
      kind = h.kind;
      is_kind = h.is_kind;
      distinct = h.distinct;
      here = at_particle h.kind (length attributes) at copies;
      of_kind = refl;
      child = subst (λ (o : Option ℕ). IsChild ks F (at_particle h.kind (length attributes) at copies) (length attributes) at copies (drop at declared) told new o) (sym child)
          (child_next ks F h.kind at copies attributes declared told new h.is_kind e (event_of e) old refl h.goes h.standing same bits open_still next tells);
    }

-- ---- a value and its end

pub is_read : (d : Datatype) (entries after : Entries) (name : ℕ) (v : Value) (bits : List Bool) → SpellsValue d entries name v bits after → IsRead d v
is_read datatype.Bool entries after name (Truth truth) bits spelled = tt
is_read (datatype.Named count) entries after name (Ordinal ordinal) bits spelled = spelled.0.below
is_read (datatype.Bounded least count) entries after name (Number v) bits spelled = (spelled.0.0, spelled.0.2.below, spelled.0.1)
is_read (datatype.Unsigned most) entries after name (Number (pos n)) bits spelled = spelled.0
is_read (datatype.Signed least most) entries after name (Number v) bits spelled = (spelled.0, spelled.1)
is_read (datatype.Binary most) entries after name (Bytes bytes) bits spelled = spelled.0
is_read (datatype.Text most) entries after name (Text chars) bits spelled = spelled.0.within
is_read _ entries after name _ bits spelled = absurd spelled

value_event : (e : ReadEvent) (value : Value) → event_of e ≡ Some (Content value) → (x : ReadValue) × (e ≡ read.Value x) × (value_of x ≡ value)
value_event (read.Document number) value is = absurd cc
value_event (read.Start name) value is = absurd cc
value_event (read.Attribute name v) value is = absurd cc
value_event (read.Value v) value is = let same : Some (Content (value_of v)) ≡ Some (Content value) = is in (v, refl, cc)
value_event read.EndElement value is = absurd cc
value_event read.Finished value is = absurd cc

abbrev behind_value : ℕ → Place
behind_value kind = record { kind = kind; particle = 1; copies = 0; attributes = 0 }

module _ (ks : List PlainKind) (F : Frame) (kind : ℕ) (d : Datatype) (told : List Event) (new : Seen) (simple : simple_at ks kind ≡ Some d) where
  pub simple_in : F.schema.kinds ≡ ks → simple_at F.schema.kinds kind ≡ Some d
  simple_in are = ap (λ (k : List PlainKind). simple_at k kind) are ∙ simple

  pub goes_on : (now : Event) (old : Seen) → Goes ks F told old → new.schema ≡ old.schema → new.cursor.bits ≡ old.cursor.bits → new.refused ≡ None → TellsMore old new (Some now) → Goes ks F (now ∷ told) new
  goes_on now old goes same bits open_still tells =
      let has : ToldUpTo old.schema told old.state old.cursor = subst (λ (s : PlainSchema). ToldUpTo s told old.state old.cursor) (sym goes.schema_is) goes.told in
      let more = subst (λ (s : PlainSchema). ToldUpTo s (now ∷ told) new.state new.cursor) (same ∙ goes.schema_is) (tells told has now refl) in
      record { schema_is = same ∙ goes.schema_is; kinds_are = goes.kinds_are; bits_are = bits ∙ goes.bits_are; none_refused = open_still; told = more }

  abbrev Came : ReadValue → Type 0
  Came v = IsRead d (value_of v) × HasValue ks F kind (Content (value_of v) ∷ told) new

  one_step : (place : Place) (given other : Step) (bits : List Bool) → F.schema.kinds ≡ ks → place.kind ≡ kind → simple_step place ≡ given → SpellsStep F.schema.kinds place other bits → other ≡ given
  one_step place given other bits are same is st =
      let at : simple_at F.schema.kinds place.kind ≡ Some d = ap (λ (k : ℕ). simple_at F.schema.kinds k) same ∙ simple_in are in
      (one_taken F.schema.kinds place (simple_step place) other bits (offers_simple F.schema.kinds place d at) st).0 ∙ is

  content_by : (e : ReadEvent) (v : ReadValue) (now : Event) (entries : Entries) (bits : List Bool) → F.schema.kinds ≡ ks → event_of e ≡ Some now → ((x : ReadValue) → e ≡ read.Value x → v ≡ x) →
      Goes ks F (now ∷ told) new → MovesFrom SpellsValue F.schema (Inside (opened F.name (first kind)) F.above) entries now bits new.state → Came v
  content_by e v (Document number) entries bits are is in_it goes moves = absurd moves
  content_by e v (Start name) entries bits are is in_it goes moves =
      let wrong = one_step (first kind) _ _ _ are refl refl moves.starts in absurd cc
  content_by e v (Attribute name value) entries bits are is in_it goes moves =
      let wrong = one_step (first kind) _ _ _ are refl refl moves.starts in absurd cc
  content_by e v (Content value) entries bits are is in_it goes moves =
      let x = value_event e value is in
      let v_is : value ≡ value_of v = sym x.2 ∙ ap value_of (sym (in_it x.0 x.1)) in
      let d_is : moves.datatype ≡ d = (let both : Some moves.datatype ≡ Some d = sym moves.is_simple ∙ simple_in are in cc) in
      let next : step.Characters moves.next ≡ step.Characters (behind_value kind) = one_step (first kind) _ _ _ are refl refl moves.starts in
      let next_is : moves.next ≡ behind_value kind = cc in
      let spelled = subst (λ (t : Datatype). SpellsValue t entries F.name value moves.inside moves.after) d_is moves.spelled in
      let good : IsRead d value = is_read d entries moves.after F.name value moves.inside spelled in
      let st : new.state.standing ≡ Inside (opened F.name (behind_value kind)) F.above = ap (λ (s : State). s.standing) moves.leads ∙ ap (λ (p : Place). Inside (opened F.name p) F.above) next_is in
      subst (λ (w : Value). IsRead d w × HasValue ks F kind (Content w ∷ told) new) v_is (good, record { goes = goes; standing = st })
  content_by e v EndElement entries bits are is in_it goes moves =
      let wrong = one_step (first kind) _ _ _ are refl refl moves.0 in absurd cc

  pub content_next : (e : ReadEvent) (o : Option Event) (v : ReadValue) (old : Seen) → event_of e ≡ o → ((x : ReadValue) → e ≡ read.Value x → v ≡ x) → Enters ks F kind told old →
      new.schema ≡ old.schema → new.cursor.bits ≡ old.cursor.bits → new.refused ≡ None →
      Follows old new o → TellsMore old new o → Came v
  content_next e None v old is in_it enters same bits open_still next tells =
      let behind : Inside (opened F.name (first kind)) F.above ≡ Behind = sym enters.standing ∙ next.0 in absurd cc
  content_next e (Some now) v old is in_it enters same bits open_still next tells =
      let P : PlainSchema → Standing → Type 0 = λ s x. MovesFrom SpellsValue s x old.state.entries now next.0 new.state in
      let moves : P F.schema (Inside (opened F.name (first kind)) F.above) = subst (λ x. P F.schema x) enters.standing (subst (λ (s : PlainSchema). P s old.state.standing) enters.goes.schema_is next.1) in
      content_by e v now old.state.entries next.0 enters.goes.kinds_are is in_it (goes_on now old enters.goes same bits open_still tells) moves

  end_by : (now : Event) (entries : Entries) (bits : List Bool) → F.schema.kinds ≡ ks →
      Goes ks F (now ∷ told) new → MovesFrom SpellsValue F.schema (Inside (opened F.name (behind_value kind)) F.above) entries now bits new.state → Leaves ks F told new
  end_by (Document number) entries bits are goes moves = absurd moves
  end_by (Start name) entries bits are goes moves =
      let wrong = one_step (behind_value kind) _ _ _ are refl refl moves.starts in absurd cc
  end_by (Attribute name value) entries bits are goes moves =
      let wrong = one_step (behind_value kind) _ _ _ are refl refl moves.starts in absurd cc
  end_by (Content value) entries bits are goes moves =
      let wrong = one_step (behind_value kind) _ _ _ are refl refl moves.starts in absurd cc
  end_by EndElement entries bits are goes moves = record { goes = goes; standing = ap (λ (s : State). s.standing) moves.1 }

  pub end_next : (o : Option Event) (old : Seen) → HasValue ks F kind told old →
      new.schema ≡ old.schema → new.cursor.bits ≡ old.cursor.bits → new.refused ≡ None →
      Follows old new o → TellsMore old new o → Leaves ks F told new
  end_next None old has same bits open_still next tells =
      let behind : Inside (opened F.name (behind_value kind)) F.above ≡ Behind = sym has.standing ∙ next.0 in absurd cc
  end_next (Some now) old has same bits open_still next tells =
      let P : PlainSchema → Standing → Type 0 = λ s x. MovesFrom SpellsValue s x old.state.entries now next.0 new.state in
      let moves : P F.schema (Inside (opened F.name (behind_value kind)) F.above) = subst (λ x. P F.schema x) has.standing (subst (λ (s : PlainSchema). P s old.state.standing) has.goes.schema_is next.1) in
      end_by now old.state.entries next.0 has.goes.kinds_are (goes_on now old has.goes same bits open_still tells) moves

pub tells : (old new : Seen) (now : Event) → ((events : List Event) → ToldUpTo old.schema events old.state old.cursor → ToldUpTo new.schema (now ∷ events) new.state new.cursor) → TellsMore old new (Some now)
tells old new now told events has e is =
    let same : Some now ≡ Some e = is in
    let now_is : now ≡ e = cc in
    subst (λ (x : Event). ToldUpTo new.schema (x ∷ events) new.state new.cursor) now_is (told events has)

-- where a descent stands between a value and the end of its element
abbrev between : Reading → Seen
between r = record { schema = r.schema; state = r.state; cursor = r.cursor; refused = None; child = None }

pub value_next : (ks : List PlainKind) (F : Frame) (kind : ℕ) (d : Datatype) (told : List Event) (v : ReadValue) (old new : Seen) → simple_at ks kind ≡ Some d → Enters ks F kind told old →
    new.schema ≡ old.schema → new.cursor.bits ≡ old.cursor.bits → new.refused ≡ None →
    TakesValue (reading old.schema old.state old.cursor) (reading new.schema new.state new.cursor) (value_of v) → IsRead d (value_of v) × Leaves ks F (Content (value_of v) ∷ told) new
value_next ks F kind d told v old new simple enters same bits open_still took =
    let mid = between took.behind in
    let came = content_next ks F kind d told mid simple (read.Value v) (Some (Content (value_of v))) v old refl (λ x is. (let same : read.Value v ≡ read.Value x = is in cc)) enters
    took.same_schema took.same_bits refl took.content (tells old mid (Content (value_of v)) took.told) in
    (came.0, end_next ks F kind d (Content (value_of v) ∷ told) new simple (Some EndElement) mid came.1 (same ∙ sym took.same_schema) (bits ∙ sym took.same_bits) open_still took.end (tells mid new EndElement took.told_end))

pub stays_open_by : (old new : Seen) → old.refused ≡ None → new.refused ≡ None → IsRefusalKept old old.refused →
    ((events : List Event) → ToldUpTo old.schema events old.state old.cursor → (more : List Event) × ToldUpTo new.schema more new.state new.cursor) → IsRefusalKept new new.refused
stays_open_by old new was is kept told =
    let has = kept_by old old.refused was kept in kept_with new new.refused is (told has.0 has.1)

-- ---- a refusal

refusal_by : (d : Seen) (r : Refusal) (o : Option Refusal) → IsRefusalKept d o → ((q : Refusal) → o ≡ Some q → q ≡ r) →
    ((payload : List ℕ) (events : List Event) → bits_of payload ≡ d.cursor.bits → o ≡ None → ToldUpTo d.schema events d.state d.cursor → IsRefused d.schema payload r.cause r.bit) → IsRefusal d r
refusal_by d r None kept again refused = λ payload bits. refused payload kept.0 bits refl kept.1
refusal_by d r (Some q) kept again refused = subst (λ (x : Refusal). IsRefusal d x) (again q refl) kept

pub refusal_of : (d : Seen) (r : Refusal) → IsRefusalKept d d.refused → ((q : Refusal) → d.refused ≡ Some q → q ≡ r) →
    ((payload : List ℕ) (events : List Event) → bits_of payload ≡ d.cursor.bits → d.refused ≡ None → ToldUpTo d.schema events d.state d.cursor → IsRefused d.schema payload r.cause r.bit) → IsRefusal d r
refusal_of d r kept again refused = refusal_by d r d.refused kept again refused

kept_if : (d : Seen) (r : Refusal) (o : Option Refusal) → o ≡ Some r → IsRefusal d r → IsRefusalKept d o
kept_if d r None is refused = absurd cc
kept_if d r (Some q) is refused = let same : Some q ≡ Some r = is in let q_is : r ≡ q = cc in subst (λ (x : Refusal). IsRefusal d x) q_is refused

pub stays_refused : (old new : Seen) (r : Refusal) → new.schema ≡ old.schema → new.cursor.bits ≡ old.cursor.bits → new.refused ≡ Some r → IsRefusal old r → IsRefusalKept new new.refused
stays_refused old new r same bits is refused =
    kept_if new r new.refused is (λ payload there. subst (λ (s : PlainSchema). IsRefused s payload r.cause r.bit) (sym same) (refused payload (there ∙ bits)))

pub refused_by : (old new : Option Refusal) (r : Refusal) → ((q : Refusal) → old ≡ Some q → (q ≡ r) × (new ≡ Some q)) → (old ≡ None → new ≡ Some r) → new ≡ Some r
refused_by None new r again first = first refl
refused_by (Some q) new r again first = let it = again q refl in it.1 ∙ ap (λ (x : Refusal). Some x) it.0

pub one_error : {X : Type 0} (o : Result X Refusal) (q r : Refusal) → o ≡ Err q → o ≡ Err r → q ≡ r
one_error {X} o q r one other = let same : Err q ≡ Err r = sym one ∙ other in cc
