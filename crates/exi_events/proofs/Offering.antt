-- The bits of an event inside an element: the code of its step, and a value behind it.
use Rattle.std.proofs.Common.{◌≡◌, ℕ, Bool, false, List, [], ◌∷◌, ◌++◌, length, Option, Some, None, slice_get, refl, sym, ap, subst, ◌∙◌, arith, append-nil, true, IsTrue, ◌↔◌, inl, inr}
use Rattle.std.specs.Prelude.{◌⊎◌}
use Rattle.std.proofs.lemmas.Option.{slice_get_within}
use Rattle.exi_spec.specs.Bits.{number_bits}
use Rattle.exi_schema.specs.declared.places.Place.{Place}
use Rattle.exi_schema.specs.declared.places.Step.{Step}
use Rattle.exi_schema.specs.declared.places.Step.TheVariants as step
use Rattle.exi_schema.specs.Schemas.{PlainSchema}
use Rattle.exi_schema.specs.Plain.{PlainKind}
use Rattle.exi_schema.specs.declared.tables.MemberStanding.{MemberStanding}
use Rattle.exi_schema.specs.declared.tables.MemberStanding.TheVariants.{Taken}
use Rattle.exi_schema.specs.Offers.{IsPlace, IsWidth, offers, simple_step}
use Rattle.exi_writing.specs.Documents.{SpellsStep, element, first}
use Rattle.exi_writing.specs.Grammar.{Opened, opened, Inside, Behind, State, around, stands, MovesFrom, Moves}
use Rattle.exi_writing.specs.Trees.{Value as TreeValue, Event as TreeEvent, Start, Attribute, Content, EndElement}
use Rattle.exi_writing.specs.Values.{Entries, WritesValue}
use Rattle.exi_writing.specs.Event.{Event}
use Rattle.exi_writing.specs.Event.TheVariants as event
use Rattle.exi_writing.specs.Value.{Value}
use Rattle.exi_writing.specs.Meaning.{event_of, value_of}
use Rattle.document_laws.proofs.IndexWidths.{code_width}
use Rattle.document_laws.proofs.Names.{element_key, attribute_key, end_key, one_taken_by, ones_at}
use Rattle.document_laws.proofs.Offered.{offers_simple, one_taken}
use Rattle.exi_events.specs.Writer.{IsOffered, IsStepOf, WritesValueOf, MayWrite, value_in}

-- some event is written by these bits; none behind the end
abbrev pub MovesAs : PlainSchema → State → Option TreeEvent → List Bool → State → Type 0
MovesAs s old (Some told) bits new = Moves WritesValue s old told bits new
MovesAs s old None bits new = ⊥

-- what stands behind the code of a step
abbrev pub IsRest : PlainSchema → Opened → Entries → Step → Event → List Bool → Type 0
IsRest s top entries (step.Attribute name kind next) (event.Attribute n v) rest =
    (after : Entries) × WritesValueOf s.kinds kind entries name (value_of v) after rest
IsRest s top entries (step.Element name kind next standing past_limit) (event.Start n) rest = rest ≡ []
IsRest s top entries step.End event.EndElement rest = rest ≡ []
IsRest s top entries (step.Characters next) (event.Value v) rest =
    (after : Entries) × WritesValueOf s.kinds top.place.kind entries top.name (value_of v) after rest
IsRest s top entries _ _ rest = ⊥

-- a step without a value
abbrev pub IsPlain : Step → Type 0
IsPlain (step.Attribute name kind next) = ⊥
IsPlain (step.Element name kind next standing past_limit) = Unit {0}
IsPlain step.End = Unit {0}
IsPlain (step.Characters next) = ⊥

-- ---- codes

pub spells_code : (kinds : List PlainKind) (here : Place) (code width : ℕ) (st : Step) → IsWidth (length (offers kinds here)) width → slice_get (offers kinds here) code ≡ Some st → SpellsStep kinds here st (number_bits width code)
spells_code kinds here code width st is_width offered =
    let below = slice_get_within (offers kinds here) code st offered in
    record {
      code = code;
      width = width;
      is_width = is_width;
      offered = offered;
      spelled = record { range = let enough = is_width.enough in omega (arith, below, enough); spelled = refl };
    }

-- ---- moves

pub attribute_moves : (s : PlainSchema) (top : Opened) (above : List Opened) (entries after : Entries) (name kind : ℕ) (next : Place) (v : TreeValue) (code rest : List Bool) →
    SpellsStep s.kinds top.place (step.Attribute name kind next) code → WritesValueOf s.kinds kind entries name v after rest →
    MovesFrom WritesValue s (Inside top above) entries (Attribute name v) (code ++ rest) (stands (Inside (opened top.name next) above) after)
attribute_moves s top above entries after name kind next v code rest st w =
    record { kind = kind; next = next; datatype = w.0; after = after; code = code; inside = rest; starts = st; is_simple = w.1; spelled = w.2; bits_are = refl; leads = refl }

pub content_moves : (s : PlainSchema) (top : Opened) (above : List Opened) (entries after : Entries) (next : Place) (v : TreeValue) (code rest : List Bool) →
    SpellsStep s.kinds top.place (step.Characters next) code → WritesValueOf s.kinds top.place.kind entries top.name v after rest →
    MovesFrom WritesValue s (Inside top above) entries (Content v) (code ++ rest) (stands (Inside (opened top.name next) above) after)
content_moves s top above entries after next v code rest st w =
    record { next = next; datatype = w.0; after = after; code = code; inside = rest; starts = st; is_simple = w.1; spelled = w.2; bits_are = refl; leads = refl }

pub element_moves : (s : PlainSchema) (top : Opened) (above : List Opened) (entries : Entries) (name kind : ℕ) (next : Place) (code : List Bool) →
    SpellsStep s.kinds top.place (element name kind next) code →
    MovesFrom WritesValue s (Inside top above) entries (Start name) code (stands (Inside (opened name (first kind)) (opened top.name next ∷ above)) entries)
element_moves s top above entries name kind next code st = record { kind = kind; next = next; starts = st; leads = refl }

pub end_moves : (s : PlainSchema) (top : Opened) (above : List Opened) (entries : Entries) (code : List Bool) →
    SpellsStep s.kinds top.place step.End code → MovesFrom WritesValue s (Inside top above) entries EndElement code (stands (around above) entries)
end_moves s top above entries code st = (st, refl)

-- an element that may stand there
pub may_stand : (kinds : List PlainKind) (here next : Place) (name kind : ℕ) (standing : MemberStanding) (past_limit : Bool) (bits : List Bool) → standing ≡ Taken → past_limit ≡ false →
    SpellsStep kinds here (step.Element name kind next standing past_limit) bits → SpellsStep kinds here (element name kind next) bits
may_stand kinds here next name kind standing past_limit bits taken within st =
    let P : MemberStanding → Bool → Type 0 = λ m p. SpellsStep kinds here (step.Element name kind next m p) bits in
    subst (λ (p : Bool). P Taken p) within (subst (λ (m : MemberStanding). P m past_limit) taken st)

-- what is behind the code of the step that is offered makes a move
pub move_join : (s : PlainSchema) (top : Opened) (above : List Opened) (entries : Entries) (st : Step) (e : Event) (code rest : List Bool) →
    SpellsStep s.kinds top.place st code → IsStepOf st e → IsRest s top entries st e rest →
    (new : State) × MovesAs s (stands (Inside top above) entries) (event_of e) (code ++ rest) new
move_join s top above entries (step.Attribute name kind next) (event.Attribute n v) code rest st is w = (
  stands (Inside (opened top.name next) above) w.0,
  subst (λ (m : ℕ). MovesFrom WritesValue s (Inside top above) entries (Attribute m (value_of v)) (code ++ rest) (stands (Inside (opened top.name next) above) w.0)) (sym is)
      (attribute_moves s top above entries w.0 name kind next (value_of v) code rest st w.1),
)
move_join s top above entries (step.Element name kind next standing past_limit) (event.Start n) code rest st is w =
    let new = stands (Inside (opened name (first kind)) (opened top.name next ∷ above)) entries in
    let bits : code ++ rest ≡ code = ap (λ (l : List Bool). code ++ l) w ∙ append-nil code in
    let moves = element_moves s top above entries name kind next code (may_stand s.kinds top.place next name kind standing past_limit code is.1 is.2 st) in (
      new,
      subst (λ (m : ℕ). MovesFrom WritesValue s (Inside top above) entries (Start m) (code ++ rest) new) (sym is.0)
          (subst (λ (l : List Bool). MovesFrom WritesValue s (Inside top above) entries (Start name) l new) (sym bits) moves),
    )
move_join s top above entries step.End event.EndElement code rest st is w =
    let bits : code ++ rest ≡ code = ap (λ (l : List Bool). code ++ l) w ∙ append-nil code in
    (stands (around above) entries, subst (λ (l : List Bool). MovesFrom WritesValue s (Inside top above) entries EndElement l (stands (around above) entries)) (sym bits) (end_moves s top above entries code st))
move_join s top above entries (step.Characters next) (event.Value v) code rest st is w =
    (stands (Inside (opened top.name next) above) w.0, content_moves s top above entries w.0 next (value_of v) code rest st w.1)
move_join s top above entries _ _ code rest st is w = absurd is

-- ---- the step of a move

pub offered_step : (s : PlainSchema) (top : Opened) (above : List Opened) (entries : Entries) (e : Event) (bits : List Bool) (new : State) →
    MovesAs s (stands (Inside top above) entries) (event_of e) bits new → (code : ℕ) × (st : Step) × (slice_get (offers s.kinds top.place) code ≡ Some st) × IsStepOf st e
offered_step s top above entries (event.Document number) bits new m = absurd m
offered_step s top above entries (event.Start name) bits new m = (m.starts.code, element name m.kind m.next, m.starts.offered, (refl, refl, refl))
offered_step s top above entries (event.Attribute name v) bits new m = (m.starts.code, step.Attribute name m.kind m.next, m.starts.offered, refl)
offered_step s top above entries (event.Value v) bits new m = (m.starts.code, step.Characters m.next, m.starts.offered, tt)
offered_step s top above entries event.EndElement bits new m = (m.0.code, step.End, m.0.offered, tt)
offered_step s top above entries event.Finished bits new m = absurd m

-- the step that is offered is that of the move
pub move_split : (s : PlainSchema) (top : Opened) (above : List Opened) (entries : Entries) (st : Step) (e : Event) (code bits : List Bool) (new : State) →
    IsPlace s.kinds top.place → SpellsStep s.kinds top.place st code → IsStepOf st e → MovesAs s (stands (Inside top above) entries) (event_of e) bits new →
    (rest : List Bool) × IsRest s top entries st e rest × (bits ≡ code ++ rest)
move_split s top above entries (step.Attribute name kind next) (event.Attribute n v) code bits new at st is m =
    let both = one_taken_by attribute_key s.kinds top.place n (step.Attribute n m.kind m.next) (step.Attribute name kind next) m.code code (ones_at s top.place at).attributes m.starts st refl (ap (λ (k : ℕ). Some k) (sym is)) in
    let same : step.Attribute n m.kind m.next ≡ step.Attribute name kind next = both.0 in
    let k : m.kind ≡ kind = cc in
    let w : WritesValueOf s.kinds m.kind entries n (value_of v) m.after m.inside = (m.datatype, m.is_simple, m.spelled) in (
      m.inside,
      (m.after, subst (λ (j : ℕ). WritesValueOf s.kinds j entries name (value_of v) m.after m.inside) k (subst (λ (j : ℕ). WritesValueOf s.kinds m.kind entries j (value_of v) m.after m.inside) is w)),
      m.bits_are ∙ ap (λ (l : List Bool). l ++ m.inside) both.1,
    )
move_split s top above entries (step.Element name kind next standing past_limit) (event.Start n) code bits new at st is m =
    let both = one_taken_by element_key s.kinds top.place n (element n m.kind m.next) (step.Element name kind next standing past_limit) bits code (ones_at s top.place at).elements m.starts st refl (ap (λ (k : ℕ). Some k) (sym is.0)) in
    ([], refl, both.1 ∙ sym (append-nil code))
move_split s top above entries step.End event.EndElement code bits new at st is m =
    let both = one_taken_by end_key s.kinds top.place 0 step.End step.End bits code (ones_at s top.place at).ends m.0 st refl refl in
    ([], refl, both.1 ∙ sym (append-nil code))
move_split s top above entries (step.Characters next) (event.Value v) code bits new at st is m =
    let alone = offers_simple s.kinds top.place m.datatype m.is_simple in
    let mine = one_taken s.kinds top.place (simple_step top.place) (step.Characters m.next) m.code alone m.starts in
    let other = one_taken s.kinds top.place (simple_step top.place) (step.Characters next) code alone st in
    (m.inside, (m.after, (m.datatype, m.is_simple, m.spelled)), m.bits_are ∙ ap (λ (l : List Bool). l ++ m.inside) (mine.1 ∙ sym other.1))
move_split s top above entries _ _ code bits new at st is m = absurd is

-- ---- the value of an event

pub rest_value : (s : PlainSchema) (top : Opened) (entries : Entries) (name kind : ℕ) (next : Place) (e : Event) (rest : List Bool) → IsStepOf (step.Attribute name kind next) e → IsRest s top entries (step.Attribute name kind next) e rest →
    (v : Value) × (value_in e ≡ Some v) × MayWrite s.kinds kind entries name (value_of v)
rest_value s top entries name kind next (event.Attribute n v) rest is w = (v, refl, (rest, w.0, w.1))
rest_value s top entries name kind next _ rest is w = absurd is

pub rest_characters : (s : PlainSchema) (top : Opened) (entries : Entries) (next : Place) (e : Event) (rest : List Bool) → IsStepOf (step.Characters next) e → IsRest s top entries (step.Characters next) e rest →
    (v : Value) × (value_in e ≡ Some v) × MayWrite s.kinds top.place.kind entries top.name (value_of v)
rest_characters s top entries next (event.Value v) rest is w = (v, refl, (rest, w.0, w.1))
rest_characters s top entries next _ rest is w = absurd is

-- ---- whether an event is offered

-- what is offered has the step
pub offered_at : (s : PlainSchema) (top : Opened) (above : List Opened) (entries : Entries) (e : Event) → IsOffered s (stands (Inside top above) entries) e → (bits : List Bool) × (new : State) × MovesAs s (stands (Inside top above) entries) (event_of e) bits new
offered_at s top above entries (event.Document number) h = h
offered_at s top above entries (event.Start name) h = h
offered_at s top above entries (event.Attribute name v) h = h
offered_at s top above entries (event.Value v) h = h
offered_at s top above entries event.EndElement h = h
offered_at s top above entries event.Finished h = absurd (inside_is top above h)
  where
    inside_is : (top : Opened) (above : List Opened) → Inside top above ≡ Behind → ⊥
    inside_is top above h = absurd cc

pub offered_as : (s : PlainSchema) (top : Opened) (above : List Opened) (entries : Entries) (e : Event) → (bits : List Bool) × (new : State) × MovesAs s (stands (Inside top above) entries) (event_of e) bits new → IsOffered s (stands (Inside top above) entries) e
offered_as s top above entries (event.Document number) h = h
offered_as s top above entries (event.Start name) h = h
offered_as s top above entries (event.Attribute name v) h = h
offered_as s top above entries (event.Value v) h = h
offered_as s top above entries event.EndElement h = h
offered_as s top above entries event.Finished h = absurd h.2

-- no step of it is offered
pub not_offered : (s : PlainSchema) (top : Opened) (above : List Opened) (entries : Entries) (e : Event) → ((code : ℕ) (st : Step) → slice_get (offers s.kinds top.place) code ≡ Some st → IsStepOf st e → ⊥) → IsOffered s (stands (Inside top above) entries) e → ⊥
not_offered s top above entries e none h =
    let m = offered_at s top above entries e h in
    let there = offered_step s top above entries e m.0 m.1 m.2 in
    none there.0 there.1 there.2 there.3

-- a step without a value is
pub plain_offered : (s : PlainSchema) (top : Opened) (above : List Opened) (entries : Entries) (e : Event) (st : Step) (code : ℕ) → slice_get (offers s.kinds top.place) code ≡ Some st → IsStepOf st e → IsRest s top entries st e [] → IsOffered s (stands (Inside top above) entries) e
plain_offered s top above entries e st code offered is rest =
    let width = code_width (length (offers s.kinds top.place)) in
    let m = move_join s top above entries st e (number_bits width.0 code) [] (spells_code s.kinds top.place code width.0 st width.1 offered) is rest in
    offered_as s top above entries e (number_bits width.0 code ++ [], m.0, m.1)

-- one with a value is where the value may be written
pub offered_rest : (s : PlainSchema) (top : Opened) (above : List Opened) (entries : Entries) (e : Event) (st : Step) (code : ℕ) → IsPlace s.kinds top.place → slice_get (offers s.kinds top.place) code ≡ Some st → IsStepOf st e →
    (IsOffered s (stands (Inside top above) entries) e ↔ ((rest : List Bool) × IsRest s top entries st e rest))
offered_rest s top above entries e st code at offered is =
    let width = code_width (length (offers s.kinds top.place)) in
    let spelled = spells_code s.kinds top.place code width.0 st width.1 offered in (
      (λ h. let m = offered_at s top above entries e h in let p = move_split s top above entries st e (number_bits width.0 code) m.0 m.1 at spelled is m.2 in (p.0, p.1)),
      (λ r. let m = move_join s top above entries st e (number_bits width.0 code) r.0 spelled is r.1 in offered_as s top above entries e (number_bits width.0 code ++ r.0, m.0, m.1)),
    )

pub attribute_rest : (s : PlainSchema) (top : Opened) (entries : Entries) (name kind : ℕ) (next : Place) (e : Event) → IsStepOf (step.Attribute name kind next) e → (v : Value) × (value_in e ≡ Some v) × ((rest : List Bool) → (after : Entries) → WritesValueOf s.kinds kind entries name (value_of v) after rest → IsRest s top entries (step.Attribute name kind next) e rest)
attribute_rest s top entries name kind next (event.Attribute n v) is = (v, refl, λ rest after w. (after, w))
attribute_rest s top entries name kind next _ is = absurd is

pub characters_rest : (s : PlainSchema) (top : Opened) (entries : Entries) (next : Place) (e : Event) → IsStepOf (step.Characters next) e → (v : Value) × (value_in e ≡ Some v) × ((rest : List Bool) → (after : Entries) → WritesValueOf s.kinds top.place.kind entries top.name (value_of v) after rest → IsRest s top entries (step.Characters next) e rest)
characters_rest s top entries next (event.Value v) is = (v, refl, λ rest after w. (after, w))
characters_rest s top entries next _ is = absurd is

some_is : (v w : Value) → Some v ≡ Some w → v ≡ w
some_is v w e = cc

pub attribute_decides : (s : PlainSchema) (top : Opened) (above : List Opened) (entries : Entries) (e : Event) (st : Step) (code name kind : ℕ) (next : Place) (b : Bool) → IsPlace s.kinds top.place → slice_get (offers s.kinds top.place) code ≡ Some st → IsStepOf st e → st ≡ step.Attribute name kind next →
    ((v : Value) → value_in e ≡ Some v → (IsTrue b ↔ MayWrite s.kinds kind entries name (value_of v))) → (IsTrue b ↔ IsOffered s (stands (Inside top above) entries) e)
attribute_decides s top above entries e st code name kind next b at offered is st_is decides =
    let form = step.Attribute name kind next in
    let there : slice_get (offers s.kinds top.place) code ≡ Some form = offered ∙ ap (λ (x : Step). Some x) st_is in
    let is_form : IsStepOf form e = subst (λ (x : Step). IsStepOf x e) st_is is in
    let both = offered_rest s top above entries e form code at there is_form in
    let given = attribute_rest s top entries name kind next e is_form in (
      (λ t. let w = (decides given.0 given.1).0 t in both.1 (w.0, given.2 w.0 w.1 w.2)),
      (λ h. let r = both.0 h in let w = rest_value s top entries name kind next e r.0 is_form r.1 in (decides w.0 w.1).1 w.2),
    )

pub characters_decides : (s : PlainSchema) (top : Opened) (above : List Opened) (entries : Entries) (e : Event) (st : Step) (code : ℕ) (next : Place) (b : Bool) → IsPlace s.kinds top.place → slice_get (offers s.kinds top.place) code ≡ Some st → IsStepOf st e → st ≡ step.Characters next →
    ((v : Value) → value_in e ≡ Some v → (IsTrue b ↔ MayWrite s.kinds top.place.kind entries top.name (value_of v))) → (IsTrue b ↔ IsOffered s (stands (Inside top above) entries) e)
characters_decides s top above entries e st code next b at offered is st_is decides =
    let form = step.Characters next in
    let there : slice_get (offers s.kinds top.place) code ≡ Some form = offered ∙ ap (λ (x : Step). Some x) st_is in
    let is_form : IsStepOf form e = subst (λ (x : Step). IsStepOf x e) st_is is in
    let both = offered_rest s top above entries e form code at there is_form in
    let given = characters_rest s top entries next e is_form in (
      (λ t. let w = (decides given.0 given.1).0 t in both.1 (w.0, given.2 w.0 w.1 w.2)),
      (λ h. let r = both.0 h in let w = rest_characters s top entries next e r.0 is_form r.1 in (decides w.0 w.1).1 w.2),
    )

-- a step of an event with no value
pub plain_rest : (s : PlainSchema) (top : Opened) (entries : Entries) (st : Step) (e : Event) → IsStepOf st e → IsPlain st → IsRest s top entries st e []
plain_rest s top entries (step.Element name kind next standing past_limit) (event.Start n) is plain = refl
plain_rest s top entries step.End event.EndElement is plain = refl
plain_rest s top entries (step.Attribute name kind next) e is plain = absurd plain
plain_rest s top entries (step.Characters next) e is plain = absurd plain
plain_rest s top entries _ _ is plain = absurd is

pub plain_decides : (s : PlainSchema) (top : Opened) (above : List Opened) (entries : Entries) (e : Event) (st : Step) (code : ℕ) → slice_get (offers s.kinds top.place) code ≡ Some st → IsStepOf st e → IsPlain st → (IsTrue true ↔ IsOffered s (stands (Inside top above) entries) e)
plain_decides s top above entries e st code offered is plain = (λ t. plain_offered s top above entries e st code offered is (plain_rest s top entries st e is plain), λ h. refl)

pub plain_is : (st : Step) → ((name : ℕ) × (kind : ℕ) × (next : Place) × (standing : MemberStanding) × (past_limit : Bool) × (st ≡ step.Element name kind next standing past_limit)) ⊎ (st ≡ step.End) → IsPlain st
plain_is st (inl h) = subst (λ (x : Step). IsPlain x) (sym h.5) tt
plain_is st (inr h) = subst (λ (x : Step). IsPlain x) (sym h) tt
