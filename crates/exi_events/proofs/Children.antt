-- A child whose start, value and end are put at once.
use Rattle.std.proofs.Common.{◌≡◌, ℕ, Bool, List, [], ◌∷◌, ◌++◌, length, Some, slice_get, refl, sym, ap, subst, ◌∙◌, append_assoc}
use Rattle.exi_spec.specs.Bits.{number_bits}
use Rattle.exi_bits.specs.declared.span.SpanAt.{SpanAt}
use Rattle.exi_schema.specs.declared.places.Place.{Place}
use Rattle.exi_schema.specs.declared.places.Step.{Step}
use Rattle.exi_schema.specs.declared.places.Step.TheVariants as step
use Rattle.exi_schema.specs.declared.tables.Datatype.{Datatype}
use Rattle.exi_schema.specs.declared.places.SequenceChild.{SequenceChild}
use Rattle.exi_schema.specs.declared.places.Sought.TheVariants as sought
use Rattle.exi_schema.specs.Offers.{offers, simple_step, IsWidth}
use Rattle.exi_schema.specs.Plain.{PlainKind}
use Rattle.exi_schema.specs.Schemas.{PlainSchema}
use Rattle.exi_schema.specs.Steps.{simple_at, IsSought}
use Rattle.exi_writing.specs.Documents.{SpellsStep, element, first}
use Rattle.exi_writing.specs.Grammar.{Opened, opened, Inside, around, stands}
use Rattle.exi_writing.specs.Trees.{Value, Start, EndElement}
use Rattle.exi_writing.specs.Short.{tree_of}
use Rattle.exi_writing.specs.Values.{Entries}
use Rattle.exi_writing.specs.Table.{Table}
use Rattle.exi_writing.specs.Meaning.{AreTexts, texts_in}
use Rattle.exi_writing.proofs.Stays.{are_texts_behind, texts_behind}
use Rattle.exi_events.specs.declared.child.ChildCode.{ChildCode}
use Rattle.exi_events.specs.declared.open.OpenElement.{OpenElement}
use Rattle.exi_events.specs.declared.reader.Phase.{Phase}
use Rattle.exi_events.specs.declared.reader.Phase.TheVariants as phase
use Rattle.exi_events.specs.Open.{opened_of}
use Rattle.exi_events.specs.Inside.{AreOpen, HasTop, GoesTo}
use Rattle.exi_events.specs.Reader.{IsSound, IsReadyAt, state_of}
use Rattle.exi_events.specs.Child.{StartsChild, WritesInside, WritesThree, IsNamed, child_bits, inside_bits, PutsChild, PutsThree}
use Rattle.exi_events.specs.declared.child.NamedValue.{NamedValue}
use Rattle.exi_events.specs.declared.child.ThreeChildren.{ThreeChildren}
use Rattle.exi_events.specs.Writer.{Draft, Adds, IsPut}
use Rattle.exi_events.proofs.Innermost.{goes_open}
use Rattle.exi_events.proofs.Nexts.{next_stays}
use Rattle.exi_events.proofs.Offering.{spells_code, content_moves, element_moves, end_moves}
use Rattle.exi_events.proofs.Simple.{offered, one_code}
use Rattle.exi_events.proofs.Whole.{behind_value}
use Rattle.exi_events.proofs.Words.{three_behind}

-- the one code of a place of a simple kind
simple_code : (kinds : List PlainKind) (here : Place) (d : Datatype) (st : Step) → simple_at kinds here.kind ≡ Some d → simple_step here ≡ st → SpellsStep kinds here st (number_bits 1 0)
simple_code kinds here d st simple is = one_code kinds here st (offered kinds here d simple ∙ ap (λ (x : Step). x ∷ []) is)

module _ (s : PlainSchema) (old new : Draft) (top : Opened) (above : List Opened) (next : Place) (entries : Entries) (name kind : ℕ) (value : Value) (code inside : List Bool) where
  -- the three events are put
  pub child_put : old.state ≡ stands (Inside top above) entries → new.state ≡ stands (Inside (opened top.name next) above) entries → Adds old new (code ++ inside) →
      SpellsStep s.kinds top.place (element name kind next) code → WritesInside s.kinds kind entries name value inside → PutsChild s old new name value
  child_put was is adds starts w =
      let around_it = opened top.name next ∷ above in
      let begun = old.bits ++ code in
      let started : Draft = record { room = new.room; bits = begun; state = stands (Inside (opened name (first kind)) around_it) entries } in
      let content = number_bits 1 0 ++ w.inside in
      let valued : Draft = record { room = new.room; bits = begun ++ content; state = stands (Inside (opened name (behind_value kind)) around_it) entries } in
      let all : new.bits ≡ (begun ++ content) ++ number_bits 1 0 =
      adds.written
      ∙ ap (λ (l : List Bool). old.bits ++ (code ++ l)) (w.bits_are ∙ sym (append_assoc (number_bits 1 0) w.inside (number_bits 1 0)))
      ∙ sym (append_assoc old.bits code (content ++ number_bits 1 0))
      ∙ sym (append_assoc begun content (number_bits 1 0)) in
      record {
        started = started;
        valued = valued;
        start = (
          code,
          rw was (element_moves s top above entries name kind next code starts),
          record { written = refl; room = adds.room },
        );
        content = (
          content,
          content_moves s (opened name (first kind)) around_it entries entries (behind_value kind) value (number_bits 1 0) w.inside (simple_code s.kinds (first kind) w.datatype (step.Characters (behind_value kind)) w.is_simple refl) (w.datatype, w.is_simple, w.spelled),
          record { written = refl; room = refl },
        );
        end = (
          number_bits 1 0,
          rw is (end_moves s (opened name (behind_value kind)) around_it entries (number_bits 1 0) (simple_code s.kinds (behind_value kind) w.datatype step.End w.is_simple refl)),
          record { written = all; room = refl },
        );
      }

-- those of a child of a sequence, which is the innermost element
pub named_put : (s : PlainSchema) (from to : Draft) (top : Opened) (above : List Opened) (there : Place) (entries : Entries) (child : SequenceChild) (named : NamedValue) (code bits : List Bool) (kind : ℕ) →
    from.state ≡ stands (Inside top above) entries → to.state ≡ stands (Inside (opened top.name there) above) entries → Adds from to (code ++ inside_bits bits) →
    SpellsStep s.kinds top.place (element child.name kind there) code → simple_at s.kinds kind ≡ Some child.datatype → IsNamed child named bits → PutsChild s from to named.name (tree_of named.value)
named_put s from to top above there entries child named code bits kind was is adds starts simple w =
    subst (λ (n : ℕ). PutsChild s from to n (tree_of named.value)) w.name_is
    (child_put s from to top above there entries child.name kind (tree_of named.value) code (inside_bits bits) was is adds starts
    (record { datatype = child.datatype; is_simple = simple; inside = bits; spelled = w.writes entries child.name; bits_are = refl }))

-- more is written, and other elements are open
pub ready_on : (s t : PlainSchema) (p q : Phase) (elements moved : List Opened) (bits more new_bits : List Bool) (table new_table : Table SpanAt) → t ≡ s → p ≡ phase.Inside → q ≡ p → new_bits ≡ bits ++ more → new_table ≡ table →
    IsReadyAt s p elements bits table → AreOpen s.kinds moved → IsReadyAt t q moved new_bits new_table
ready_on s t p q elements moved bits more new_bits table new_table same is same_phase adds same_table ready are =
    let F : PlainSchema → Phase → List Bool → Table SpanAt → Type 0 = λ r x l k. IsReadyAt r x moved l k in
    let there : F s phase.Inside (bits ++ more) table = record { cap = ready.cap; texts = are_texts_behind bits more table.entries ready.texts; sound = are } in
    subst (λ (r : PlainSchema). F r q new_bits new_table) (sym same)
    (subst (λ (x : Phase). F s x new_bits new_table) (sym (same_phase ∙ is))
    (subst (λ (l : List Bool). F s phase.Inside l new_table) (sym adds)
    (subst (λ (k : Table SpanAt). F s phase.Inside (bits ++ more) k) (sym same_table) there)))

pub was_inside : (p : Phase) (elements : List Opened) (top : OpenElement) (bits : List Bool) (entries : List (ℕ × SpanAt)) → p ≡ phase.Inside → (has : HasTop elements top) → state_of p elements bits entries ≡ stands (Inside (opened_of top) has.0) (texts_in bits entries)
was_inside p elements top bits entries is has =
    ap (λ (x : Phase). state_of x elements bits entries) is ∙ ap (λ (es : List Opened). stands (around es) (texts_in bits entries)) has.1

pub is_around : (p q : Phase) (now open_ones : List Opened) (bits more new_bits : List Bool) (table new_table : Table SpanAt) → p ≡ phase.Inside → q ≡ p → new_bits ≡ bits ++ more → new_table ≡ table → AreTexts bits table.entries → now ≡ open_ones →
    state_of q now new_bits new_table.entries ≡ stands (around open_ones) (texts_in bits table.entries)
is_around p q now open_ones bits more new_bits table new_table is same_phase adds same_table texts are =
    ap (λ (x : Phase). state_of x now new_bits new_table.entries) (same_phase ∙ is)
    ∙ ap (λ (es : List Opened). stands (around es) (texts_in new_bits new_table.entries)) are
    ∙ ap (λ (k : Table SpanAt). stands (around open_ones) (texts_in new_bits k.entries)) same_table
    ∙ ap (λ (l : List Bool). stands (around open_ones) (texts_in l table.entries)) adds
    ∙ ap (λ (es : Entries). stands (around open_ones) es) (texts_behind bits more table.entries texts)

-- the innermost element reaches a place
pub goes_on : (elements moved : List Opened) (top : OpenElement) (next : Place) (has : HasTop elements top) → GoesTo elements next moved → moved ≡ opened top.name next ∷ has.0
goes_on elements moved top next has goes = goes (opened_of top) has.0 has.1

pub inside_open : (s : PlainSchema) (p : Phase) (elements : List Opened) → p ≡ phase.Inside → IsSound s p elements → AreOpen s.kinds elements
inside_open s p elements is sound = subst (λ (x : Phase). IsSound s x elements) is sound

-- the place behind a child
pub child_open : (s : PlainSchema) (p : Phase) (elements moved : List Opened) (top : OpenElement) (name : ℕ) (child : ChildCode) → p ≡ phase.Inside → IsSound s p elements → HasTop elements top → GoesTo elements child.next moved → StartsChild s top.place name child → AreOpen s.kinds moved
child_open s p elements moved top name child is sound has goes starts =
    let are : AreOpen s.kinds elements = subst (λ (x : Phase). IsSound s x elements) is sound in
    goes_open s.kinds elements moved top child.next has goes are starts.of_schema.2 (next_stays s.kinds top.place child.code (element name child.kind child.next) starts.offered)

pub child_code : (s : PlainSchema) (here : Place) (name : ℕ) (child : ChildCode) → StartsChild s here name child → SpellsStep s.kinds here (element name child.kind child.next) (number_bits child.width child.code)
child_code s here name child starts = spells_code s.kinds here child.code child.width (element name child.kind child.next) starts.is_width starts.offered

-- ---- an element of three values

module _ (s : PlainSchema) (old new : Draft) (top : Opened) (above : List Opened) (next : Place) (entries : Entries) (name kind : ℕ) (values : ThreeChildren) (code inside : List Bool) where
  one_put : (from to : Draft) (here there : Place) (child : SequenceChild) (named : NamedValue) (bits : List Bool) (k : ℕ) → from.state ≡ stands (Inside (opened name here) (opened top.name next ∷ above)) entries → to.state ≡ stands (Inside (opened name there) (opened top.name next ∷ above)) entries →
      Adds from to (child_bits bits) → offers s.kinds here ≡ element child.name k there ∷ [] → simple_at s.kinds k ≡ Some child.datatype → IsNamed child named bits → PutsChild s from to named.name (tree_of named.value)
  one_put from to here there child named bits k was is adds offers_it simple w =
      named_put s from to (opened name here) (opened top.name next ∷ above) there entries child named (number_bits 1 0) bits k was is adds (one_code s.kinds here (element child.name k there) offers_it) simple w

  pub three_put : old.state ≡ stands (Inside top above) entries → new.state ≡ stands (Inside (opened top.name next) above) entries → Adds old new (code ++ inside) →
      SpellsStep s.kinds top.place (element name kind next) code → WritesThree s.kinds kind values inside → PutsThree s old new name values
  three_put was is adds starts w =
      let q = w.sequence in
      let at : Place → List Bool → Draft = λ p bits. record { room = new.room; bits = bits; state = stands (Inside (opened name p) (opened top.name next ∷ above)) entries } in
      let b0 = old.bits ++ code in
      let b1 = b0 ++ child_bits w.one_bits in
      let b2 = b1 ++ child_bits w.two_bits in
      let b3 = b2 ++ child_bits w.three_bits in
      let all : new.bits ≡ b3 ++ number_bits 1 0 =
      adds.written
      ∙ ap (λ (l : List Bool). old.bits ++ (code ++ l)) w.bits_are
      ∙ three_behind old.bits code (child_bits w.one_bits) (child_bits w.two_bits) (child_bits w.three_bits) (number_bits 1 0) in
      record {
        started = at (first kind) b0;
        one = at q.1 b1;
        two = at q.4.1 b2;
        three = at q.4.4.1 b3;
        start = (code, rw was (element_moves s top above entries name kind next code starts), record { written = refl; room = adds.room });
        first_put = one_put (at (first kind) b0) (at q.1 b1) (first kind) q.1 w.one values.first w.one_bits q.0 refl refl (record { written = refl; room = refl }) q.2 q.3 w.first_is;
        second_put = one_put (at q.1 b1) (at q.4.1 b2) q.1 q.4.1 w.two values.second w.two_bits q.4.0 refl refl (record { written = refl; room = refl }) q.4.2 q.4.3 w.second_is;
        third_put = one_put (at q.4.1 b2) (at q.4.4.1 b3) q.4.1 q.4.4.1 w.three values.third w.three_bits q.4.4.0 refl refl (record { written = refl; room = refl }) q.4.4.2 q.4.4.3 w.third_is;
        end = (
          number_bits 1 0,
          rw is (end_moves s (opened name q.4.4.1) (opened top.name next ∷ above) entries (number_bits 1 0) (one_code s.kinds q.4.4.1 step.End q.4.4.4)),
          record { written = all; room = refl },
        );
      }

-- ---- a start and an end alone

pub start_put : (s : PlainSchema) (old new : Draft) (top : Opened) (above : List Opened) (next : Place) (entries : Entries) (name kind : ℕ) (code : List Bool) →
    old.state ≡ stands (Inside top above) entries → new.state ≡ stands (Inside (opened name (first kind)) (opened top.name next ∷ above)) entries → Adds old new code →
    SpellsStep s.kinds top.place (element name kind next) code → IsPut s old new (Some (Start name))
start_put s old new top above next entries name kind code was is adds starts =
    let moves = element_moves s top above entries name kind next code starts in
    (code, rw was (rw is moves), adds)

pub end_put : (s : PlainSchema) (old new : Draft) (top : Opened) (above : List Opened) (entries : Entries) (st : Step) (code width : ℕ) →
    old.state ≡ stands (Inside top above) entries → new.state ≡ stands (around above) entries → Adds old new (number_bits width code) →
    IsWidth (length (offers s.kinds top.place)) width → slice_get (offers s.kinds top.place) code ≡ Some st → IsSought st sought.End → IsPut s old new (Some EndElement)
end_put s old new top above entries st code width was is adds is_width offered_it meant =
    let spelled = spells_code s.kinds top.place code width st is_width offered_it in
    let moves = end_moves s top above entries (number_bits width code) (subst (λ (x : Step). SpellsStep s.kinds top.place x (number_bits width code)) (end_is st meant) spelled) in
    (number_bits width code, rw was (rw is moves), adds)
  where
    end_is : (st : Step) → IsSought st sought.End → st ≡ step.End
    end_is step.End h = refl
    end_is (step.Attribute n k p) h = absurd h
    end_is (step.Element n k p m l) h = absurd h
    end_is (step.Characters p) h = absurd h
