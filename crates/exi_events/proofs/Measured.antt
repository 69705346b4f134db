-- How many bits an event needs.
use Rattle.std.proofs.Common.{◌≡◌, ℕ, ◌+◌, ◌*◌, ◌<◌, Option, None, Bool, List, [], ◌++◌, length, Some, slice_get, refl, sym, ap, subst, ◌∙◌, arith, length-append}
use Rattle.exi_spec.specs.Bits.{number_bits}
use Rattle.exi_spec.proofs.BitLaws.{length-number_bits}
use Rattle.exi_schema.specs.declared.places.Place.{Place}
use Rattle.exi_schema.specs.declared.places.Step.{Step}
use Rattle.exi_schema.specs.declared.places.Step.TheVariants as step
use Rattle.exi_schema.specs.Schemas.{PlainSchema}
use Rattle.exi_schema.specs.Offers.{IsPlace, IsWidth, offers}
use Rattle.exi_writing.specs.Grammar.{Opened, Before, AtRoot, Inside, Behind, State, stands}
use Rattle.exi_writing.specs.Values.{Entries, WritesValue}
use Rattle.exi_writing.specs.Event.{Event}
use Rattle.exi_writing.specs.Event.TheVariants as event
use Rattle.exi_writing.specs.Value.{Value}
use Rattle.exi_writing.specs.Meaning.{AreTexts, event_of, texts_in, value_of}
use Rattle.exi_writing.specs.Writing.{HasLength}
use Rattle.exi_bits.specs.Pens.{written_bits}
use Rattle.exi_bits.specs.declared.pen.BitPen.{BitPen}
use Rattle.exi_bits.specs.declared.pen.Full.{Full}
use Rattle.exi_bits.specs.declared.span.SpanAt.{SpanAt}
use Rattle.exi_writing.specs.Table.{Table}
use Rattle.exi_writing.specs.Writing.{WritesMore}
use Rattle.exi_writing.proofs.Strings.{texts_kept}
use Rattle.document_laws.specs.Laws.{IsStanding}
use Rattle.document_laws.proofs.Written.{value_once}
use Rattle.document_laws.proofs.Once.{moves_once}
use Rattle.exi_writing.specs.Trees.{Event as TreeEvent}
use Rattle.exi_events.specs.declared.open.OpenElement.{OpenElement}
use Rattle.exi_events.specs.declared.reader.Phase.{Phase}
use Rattle.exi_events.specs.declared.reader.Phase.TheVariants as phase
use Rattle.exi_events.specs.Open.{opened_of}
use Rattle.exi_events.specs.Inside.{HasTop}
use Rattle.exi_events.specs.Reader.{standing_of, state_of}
use Rattle.exi_events.specs.Writer.{Draft, IsOffered, IsStepOf, HasBits, HasNoRoom, IsNeeded, MayWrite, WritesValueOf, value_in}
use Rattle.exi_events.proofs.Offering.{MovesAs, IsRest, IsPlain, offered_rest, move_join, spells_code, rest_value, rest_characters, attribute_rest, characters_rest, plain_rest}

bits_as : (s : PlainSchema) (old : State) (e : Event) (bits : List Bool) (new : State) (n : ℕ) → MovesAs s old (event_of e) bits new → n ≡ length bits → HasBits s old (event_of e) n
bits_as s old (event.Document number) bits new n m long = (bits, (new, m), long)
bits_as s old (event.Start name) bits new n m long = (bits, (new, m), long)
bits_as s old (event.Attribute name v) bits new n m long = (bits, (new, m), long)
bits_as s old (event.Value v) bits new n m long = (bits, (new, m), long)
bits_as s old event.EndElement bits new n m long = (bits, (new, m), long)
bits_as s old event.Finished bits new n m long = absurd m

-- ---- inside an element

abbrev MayCome : PlainSchema → Opened → Entries → Event → Type 0
MayCome s top entries e = (above : List Opened) × IsOffered s (stands (Inside top above) entries) e

module _ (s : PlainSchema) (top : Opened) (entries : Entries) (e : Event) (code width : ℕ) (st : Step) where
  -- the code and what stands behind it
  joined : IsWidth (length (offers s.kinds top.place)) width → slice_get (offers s.kinds top.place) code ≡ Some st → IsStepOf st e →
      (rest : List Bool) (n : ℕ) → IsRest s top entries st e rest → n ≡ width + length rest → (above : List Opened) → HasBits s (stands (Inside top above) entries) (event_of e) n
  joined is_width offered is rest n behind sum above =
      let m = move_join s top above entries st e (number_bits width code) rest (spells_code s.kinds top.place code width st is_width offered) is behind in
      let long : n ≡ length (number_bits width code ++ rest) = omega (arith, sum, length-append (number_bits width code) rest, length-number_bits width code) in
      bits_as s (stands (Inside top above) entries) e (number_bits width code ++ rest) m.0 n m.1 long

  pub plain_bits : IsWidth (length (offers s.kinds top.place)) width → slice_get (offers s.kinds top.place) code ≡ Some st → IsStepOf st e → IsPlain st →
      (n : ℕ) → n ≡ width → (above : List Opened) → HasBits s (stands (Inside top above) entries) (event_of e) n
  plain_bits is_width offered is plain n same above =
      joined is_width offered is [] n (plain_rest s top entries st e is plain) (omega (arith, same)) above

module _ (s : PlainSchema) (top : Opened) (entries : Entries) (e : Event) (code width : ℕ) (name kind : ℕ) (next : Place) where
  pub attribute_asked : (st : Step) → st ≡ step.Attribute name kind next → IsPlace s.kinds top.place → slice_get (offers s.kinds top.place) code ≡ Some st → IsStepOf st e → MayCome s top entries e →
      (v : Value) × (value_in e ≡ Some v) × MayWrite s.kinds kind entries name (value_of v)
  attribute_asked st form at offered is may =
      let there = subst (λ (x : Step). slice_get (offers s.kinds top.place) code ≡ Some x) form offered in
      let meant = subst (λ (x : Step). IsStepOf x e) form is in
      let r = (offered_rest s top may.0 entries e (step.Attribute name kind next) code at there meant).0 may.1 in
      rest_value s top entries name kind next e r.0 meant r.1

  pub attribute_bits : (st : Step) → st ≡ step.Attribute name kind next → IsWidth (length (offers s.kinds top.place)) width → slice_get (offers s.kinds top.place) code ≡ Some st → IsStepOf st e →
      (n m : ℕ) → ((v : Value) → value_in e ≡ Some v → HasLength (λ bits. (after : Entries) × WritesValueOf s.kinds kind entries name (value_of v) after bits) m) → n ≡ width + m →
      (above : List Opened) → HasBits s (stands (Inside top above) entries) (event_of e) n
  attribute_bits st form is_width offered is n m value sum above =
      let there = subst (λ (x : Step). slice_get (offers s.kinds top.place) code ≡ Some x) form offered in
      let meant = subst (λ (x : Step). IsStepOf x e) form is in
      let given = attribute_rest s top entries name kind next e meant in
      let v = value given.0 given.1 in
      joined s top entries e code width (step.Attribute name kind next) is_width there meant v.0 n (given.2 v.0 v.1.0 v.1.1) (sum ∙ ap (λ (k : ℕ). width + k) v.2) above

module _ (s : PlainSchema) (top : Opened) (entries : Entries) (e : Event) (code width : ℕ) (next : Place) where
  pub characters_asked : (st : Step) → st ≡ step.Characters next → IsPlace s.kinds top.place → slice_get (offers s.kinds top.place) code ≡ Some st → IsStepOf st e → MayCome s top entries e →
      (v : Value) × (value_in e ≡ Some v) × MayWrite s.kinds top.place.kind entries top.name (value_of v)
  characters_asked st form at offered is may =
      let there = subst (λ (x : Step). slice_get (offers s.kinds top.place) code ≡ Some x) form offered in
      let meant = subst (λ (x : Step). IsStepOf x e) form is in
      let r = (offered_rest s top may.0 entries e (step.Characters next) code at there meant).0 may.1 in
      rest_characters s top entries next e r.0 meant r.1

  pub characters_bits : (st : Step) → st ≡ step.Characters next → IsWidth (length (offers s.kinds top.place)) width → slice_get (offers s.kinds top.place) code ≡ Some st → IsStepOf st e →
      (n m : ℕ) → ((v : Value) → value_in e ≡ Some v → HasLength (λ bits. (after : Entries) × WritesValueOf s.kinds top.place.kind entries top.name (value_of v) after bits) m) → n ≡ width + m →
      (above : List Opened) → HasBits s (stands (Inside top above) entries) (event_of e) n
  characters_bits st form is_width offered is n m value sum above =
      let there = subst (λ (x : Step). slice_get (offers s.kinds top.place) code ≡ Some x) form offered in
      let meant = subst (λ (x : Step). IsStepOf x e) form is in
      let given = characters_rest s top entries next e meant in
      let v = value given.0 given.1 in
      joined s top entries e code width (step.Characters next) is_width there meant v.0 n (given.2 v.0 v.1.0 v.1.1) (sum ∙ ap (λ (k : ℕ). width + k) v.2) above

-- ---- outside the root

front_bits : (s : PlainSchema) (entries : Entries) (e : Event) → IsOffered s (stands Before entries) e → HasBits s (stands Before entries) (event_of e) (8 + s.root_bits)
front_bits s entries (event.Document number) h =
    let long = ap length h.2.bits_are ∙ length-append (number_bits 8 128) h.2.front in
    let front = ap length h.2.numbered.spelled ∙ length-number_bits s.root_bits number in
    (h.0, (h.1, h.2), omega (arith, long, front, length-number_bits 8 128))
front_bits s entries (event.Start name) h = absurd h.2
front_bits s entries (event.Attribute name v) h = absurd h.2
front_bits s entries (event.Value v) h = absurd h.2
front_bits s entries event.EndElement h = absurd h.2
front_bits s entries event.Finished h = let wrong : Before ≡ Behind = h in absurd cc

root_bits : (s : PlainSchema) (name kind : ℕ) (entries : Entries) (e : Event) → IsOffered s (stands (AtRoot name kind) entries) e → HasBits s (stands (AtRoot name kind) entries) (event_of e) 0
root_bits s name kind entries (event.Document number) h = absurd h.2
root_bits s name kind entries (event.Start child) h = (h.0, (h.1, h.2), sym (ap length h.2.1))
root_bits s name kind entries (event.Attribute n v) h = absurd h.2
root_bits s name kind entries (event.Value v) h = absurd h.2
root_bits s name kind entries event.EndElement h = absurd h.2
root_bits s name kind entries event.Finished h = let wrong : AtRoot name kind ≡ Behind = h in absurd cc

behind_bits : (s : PlainSchema) (entries : Entries) (e : Event) → IsOffered s (stands Behind entries) e → HasBits s (stands Behind entries) (event_of e) 0
behind_bits s entries (event.Document number) h = absurd h.2
behind_bits s entries (event.Start name) h = absurd h.2
behind_bits s entries (event.Attribute name v) h = absurd h.2
behind_bits s entries (event.Value v) h = absurd h.2
behind_bits s entries event.EndElement h = absurd h.2
behind_bits s entries event.Finished h = refl

-- ---- at each phase

module _ (s : PlainSchema) (p : Phase) (e : Event) (elements : List Opened) (bits : List Bool) (entries : List (ℕ × SpanAt)) where
  abbrev IsAsked : Phase → List Opened → ℕ → Type 0
  IsAsked q es n = IsOffered s (state_of q es bits entries) e → HasBits s (state_of q es bits entries) (event_of e) n

  pub bits_before : p ≡ phase.Before → (width n : ℕ) → width ≡ s.root_bits → n ≡ 8 + width → IsAsked p elements n
  bits_before is width n same sum =
      let all : n ≡ 8 + s.root_bits = sum ∙ ap (λ (k : ℕ). 8 + k) same in
      subst (λ (q : Phase). IsAsked q elements n) (sym is) (subst (λ (k : ℕ). IsAsked phase.Before elements k) (sym all) (front_bits s (texts_in bits entries) e))

  pub bits_at_root : (name kind : ℕ) → p ≡ phase.AtRoot name kind → IsAsked p elements 0
  bits_at_root name kind is = subst (λ (q : Phase). IsAsked q elements 0) (sym is) (root_bits s name kind (texts_in bits entries) e)

  pub bits_behind : p ≡ phase.Inside → elements ≡ [] → IsAsked p elements 0
  bits_behind is none =
      subst (λ (q : Phase). IsAsked q elements 0) (sym is) (subst (λ (es : List Opened). IsAsked phase.Inside es 0) (sym none) (behind_bits s (texts_in bits entries) e))

  pub may_come : (top : OpenElement) → p ≡ phase.Inside → HasTop elements top → IsOffered s (state_of p elements bits entries) e → MayCome s (opened_of top) (texts_in bits entries) e
  may_come top is has may =
      let inside = subst (λ (q : Phase). IsOffered s (state_of q elements bits entries) e) is may in
      (has.0, subst (λ (es : List Opened). IsOffered s (state_of phase.Inside es bits entries) e) has.1 inside)

  pub bits_inside : (top : OpenElement) (n : ℕ) → p ≡ phase.Inside → HasTop elements top → ((above : List Opened) → HasBits s (stands (Inside (opened_of top) above) (texts_in bits entries)) (event_of e) n) →
      HasBits s (state_of p elements bits entries) (event_of e) n
  bits_inside top n is has all =
      subst (λ (q : Phase). HasBits s (state_of q elements bits entries) (event_of e) n) (sym is)
      (subst (λ (es : List Opened). HasBits s (state_of phase.Inside es bits entries) (event_of e) n) (sym has.1) (all has.0))

-- ---- what was written stays, where the room is too small

pub state_stays : (p q : Phase) (elements moved : List Opened) (old new : BitPen) (table after : Table SpanAt) → q ≡ p → moved ≡ elements → after ≡ table → WritesMore old new → AreTexts (written_bits old) table.entries →
    state_of q moved (written_bits new) after.entries ≡ state_of p elements (written_bits old) table.entries
state_stays p q elements moved old new table after phase_is elements_are table_is more all =
    ap (λ (x : Phase). state_of x moved (written_bits new) after.entries) phase_is
    ∙ ap (λ (es : List Opened). state_of p es (written_bits new) after.entries) elements_are
    ∙ ap (λ (t : Table SpanAt). state_of p elements (written_bits new) t.entries) table_is
    ∙ ap (λ (ts : Entries). stands (standing_of p elements) ts) (texts_kept old new more.0 table.entries more.1 all)

-- what is needed passes a room that is too small
pub passes : (s : PlainSchema) (draft : Draft) (o : Option TreeEvent) (full : Full) → IsStanding s draft.state.standing → HasNoRoom s draft o → IsNeeded s draft o full → 8 * length draft.room < full.bits
passes s draft (Some told) full is lacks needed =
    let once = moves_once WritesValue value_once s draft.state told _ _ _ _ is lacks.1.1 needed.1.1.1 in
    let same : length lacks.0 ≡ length needed.1.0 = ap length once.0 in
    omega (arith, lacks.2, same, needed.1.2, needed.2)
passes s draft None full is lacks needed = absurd lacks
