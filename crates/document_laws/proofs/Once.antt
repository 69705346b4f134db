-- Events are written in one way: they lead to one state, by the same bits.
use Rattle.std.proofs.Common.{◌≡◌, ℕ, Bool, List, [], ◌∷◌, ◌++◌, Option, Some, refl, sym, ap, ap₂, subst, ◌∙◌, append_assoc, append-nil}
use Rattle.exi_schema.specs.Schemas.{PlainSchema}
use Rattle.exi_schema.specs.declared.tables.Datatype.{Datatype}
use Rattle.exi_schema.specs.declared.places.Place.{Place}
use Rattle.exi_schema.specs.declared.places.Step.TheVariants as step
use Rattle.exi_schema.specs.Offers.{simple_step, IsPlace}
use Rattle.exi_schema.specs.Steps.{simple_at}
use Rattle.exi_documents.specs.Trees.{Value, Event, Document, Start, Attribute, Content, EndElement}
use Rattle.exi_documents.specs.Values.{Entries}
use Rattle.exi_documents.specs.Documents.{Speller, SpellsStep, element, first, header}
use Rattle.exi_documents.specs.Grammar.{Standing, Before, AtRoot, Inside, State, opened, stands, Moves, Reaches}
use Rattle.document_laws.specs.Laws.{WritesOnce, IsStanding}
use Rattle.document_laws.proofs.Fits.{one_root}
use Rattle.document_laws.proofs.Names.{element_key, attribute_key, end_key, one_taken_by, ones_at}
use Rattle.document_laws.proofs.Offered.{offers_simple, one_taken}
use Rattle.document_laws.proofs.Standings.{standing_reached}

one_of : {X : Type 0} (o : Option X) (x y : X) → o ≡ Some x → o ≡ Some y → x ≡ y
one_of {X} o x y p q = let e : Some x ≡ Some y = sym p ∙ q in cc

module _ (V : Speller) (once : WritesOnce V) (s : PlainSchema) where
  attribute_once : (here next behind : Place) (name kind odd : ℕ) (a b : List Bool) → IsPlace s.kinds here → SpellsStep s.kinds here (step.Attribute name kind next) a → SpellsStep s.kinds here (step.Attribute name odd behind) b →
      (kind ≡ odd) × (next ≡ behind) × (a ≡ b)
  attribute_once here next behind name kind odd a b at p q =
      let both = one_taken_by attribute_key s.kinds here name (step.Attribute name kind next) (step.Attribute name odd behind) a b (ones_at s here at).attributes p q refl refl in
      let same = both.0 in
      (let k : kind ≡ odd = cc in k, let n : next ≡ behind = cc in n, both.1)

  element_once : (here next behind : Place) (name kind odd : ℕ) (a b : List Bool) → IsPlace s.kinds here → SpellsStep s.kinds here (element name kind next) a → SpellsStep s.kinds here (element name odd behind) b →
      (kind ≡ odd) × (next ≡ behind) × (a ≡ b)
  element_once here next behind name kind odd a b at p q =
      let both = one_taken_by element_key s.kinds here name (element name kind next) (element name odd behind) a b (ones_at s here at).elements p q refl refl in
      let same : element name kind next ≡ element name odd behind = both.0 in
      (let k : kind ≡ odd = cc in k, let n : next ≡ behind = cc in n, both.1)

  end_once : (here : Place) (a b : List Bool) → IsPlace s.kinds here → SpellsStep s.kinds here step.End a → SpellsStep s.kinds here step.End b → a ≡ b
  end_once here a b at p q = (one_taken_by end_key s.kinds here 0 step.End step.End a b (ones_at s here at).ends p q refl refl).1

  characters_once : (here next behind : Place) (d : Datatype) (a b : List Bool) → simple_at s.kinds here.kind ≡ Some d → SpellsStep s.kinds here (step.Characters next) a → SpellsStep s.kinds here (step.Characters behind) b →
      (next ≡ behind) × (a ≡ b)
  characters_once here next behind d a b is p q =
      let only = offers_simple s.kinds here d is in
      let one = one_taken s.kinds here (simple_step here) (step.Characters next) a only p in
      let other = one_taken s.kinds here (simple_step here) (step.Characters behind) b only q in
      let same : step.Characters next ≡ step.Characters behind = one.0 ∙ sym other.0 in
      (let n : next ≡ behind = cc in n, one.1 ∙ sym other.1)

  value_once : (kind odd name : ℕ) (entries : Entries) (v : Value) (d e : Datatype) (a b : List Bool) (after other : Entries) → kind ≡ odd → simple_at s.kinds kind ≡ Some d → simple_at s.kinds odd ≡ Some e →
      V d entries name v a after → V e entries name v b other → (a ≡ b) × (after ≡ other)
  value_once kind odd name entries v d e a b after other same p q one two =
      let type = one_of (simple_at s.kinds odd) d e (ap (λ (k : ℕ). simple_at s.kinds k) (sym same) ∙ p) q in
      once e entries name v a b after other (subst (λ (x : Datatype). V x entries name v a after) type one) two

  once_at : (standing : Standing) (entries : Entries) (event : Event) (a b : List Bool) (new other : State) → IsStanding s standing → Moves V s (stands standing entries) event a new → Moves V s (stands standing entries) event b other → (a ≡ b) × (new ≡ other)
  once_at Before entries (Document number) a b new other is p q =
      let root = one_root s number p.name p.kind q.name q.kind p.named q.named in
      let front = p.numbered.spelled ∙ sym q.numbered.spelled in
      (p.bits_are ∙ ap (λ (l : List Bool). header ++ l) front ∙ sym q.bits_are, p.leads ∙ ap₂ (λ (n k : ℕ). stands (AtRoot n k) entries) root.0 root.1 ∙ sym q.leads)
  once_at (AtRoot root kind) entries (Start name) a b new other is p q = (p.1 ∙ sym q.1, p.2 ∙ sym q.2)
  once_at (Inside top above) entries (Start name) a b new other is p q =
      let one = element_once top.place p.next q.next name p.kind q.kind a b is.0 p.starts q.starts in
      (one.2, p.leads ∙ ap₂ (λ (k : ℕ) (n : Place). stands (Inside (opened name (first k)) (opened top.name n ∷ above)) entries) one.0 one.1 ∙ sym q.leads)
  once_at (Inside top above) entries (Attribute name value) a b new other is p q =
      let one = attribute_once top.place p.next q.next name p.kind q.kind p.code q.code is.0 p.starts q.starts in
      let same = value_once p.kind q.kind name entries value p.datatype q.datatype p.inside q.inside p.after q.after one.0 p.is_simple q.is_simple p.spelled q.spelled in
      (p.bits_are ∙ ap₂ (λ (x y : List Bool). x ++ y) one.2 same.0 ∙ sym q.bits_are, p.leads ∙ ap₂ (λ (n : Place) (es : Entries). stands (Inside (opened top.name n) above) es) one.1 same.1 ∙ sym q.leads)
  once_at (Inside top above) entries (Content value) a b new other is p q =
      let one = characters_once top.place p.next q.next p.datatype p.code q.code p.is_simple p.starts q.starts in
      let same = value_once top.place.kind top.place.kind top.name entries value p.datatype q.datatype p.inside q.inside p.after q.after refl p.is_simple q.is_simple p.spelled q.spelled in
      (p.bits_are ∙ ap₂ (λ (x y : List Bool). x ++ y) one.1 same.0 ∙ sym q.bits_are, p.leads ∙ ap₂ (λ (n : Place) (es : Entries). stands (Inside (opened top.name n) above) es) one.0 same.1 ∙ sym q.leads)
  once_at (Inside top above) entries EndElement a b new other is p q = (end_once top.place a b is.0 p.0 q.0, p.1 ∙ sym q.1)
  once_at standing entries event a b new other is p q = absurd p

  pub moves_once : (old : State) (event : Event) (a b : List Bool) (new other : State) → IsStanding s old.standing → Moves V s old event a new → Moves V s old event b other → (a ≡ b) × (new ≡ other)
  moves_once old event a b new other is p q = once_at old.standing old.entries event a b new other is p q

  pub reaches_once : (events : List Event) (a b : List Bool) (new other : State) → Reaches V s events a new → Reaches V s events b other → (a ≡ b) × (new ≡ other)
  reaches_once [] a b new other p q = (p.0 ∙ sym q.0, p.1 ∙ sym q.1)
  reaches_once (event ∷ events) a b new other p q =
      let before = reaches_once events p.1 q.1 p.0 q.0 p.3 q.3 in
      let is = standing_reached V s events q.1 q.0 q.3 in
      let last = moves_once q.0 event p.2 q.2 new other is (subst (λ (x : State). Moves V s x event p.2 new) before.1 p.4) q.4 in
      (p.5 ∙ ap₂ (λ (x y : List Bool). x ++ y) before.0 last.0 ∙ sym q.5, last.1)

-- events that go on lead there by more bits
pub record Through (V : Speller) (s : PlainSchema) (events : List Event) (bits : List Bool) : Type 0 where
  pub state : State
  pub front : List Bool
  pub rest : List Bool
  pub reached : Reaches V s events front state
  pub bits_are : bits ≡ front ++ rest

pub passed_through : (V : Speller) (s : PlainSchema) (later events : List Event) (bits : List Bool) (new : State) → Reaches V s (later ++ events) bits new → Through V s events bits
passed_through V s [] events bits new h = record { state = new; front = bits; rest = []; reached = h; bits_are = sym (append-nil bits) }
passed_through V s (event ∷ later) events bits new h =
    let through = passed_through V s later events h.1 h.0 h.3 in
    record {
      state = through.state;
      front = through.front;
      rest = through.rest ++ h.2;
      reached = through.reached;
      bits_are = h.5 ∙ ap (λ (l : List Bool). l ++ h.2) through.bits_are ∙ append_assoc through.front through.rest h.2;
    }
