-- What is written of a tree spells it, and is written in one way.
use Rattle.std.proofs.Common.{◌≡◌, ℕ, ◌+◌, ◌*◌, ◌<◌, Bool, false, List, [], ◌∷◌, ◌++◌, length, replicate, Option, Some, refl, sym, ap, ap₂, subst, ◌∙◌, arith, length-append}
use Rattle.std.proofs.lemmas.List.{length-replicate}
use Rattle.exi_spec.specs.Bits.{number_bits, bits_of}
use Rattle.exi_spec.specs.Plain.{bytes_in}
use Rattle.exi_spec.proofs.BitLaws.{length-bits_of}
use Rattle.exi_spec.proofs.PlainLaws.{bytes_in-spelled}
use Rattle.exi_schema.specs.Schemas.{PlainSchema}
use Rattle.exi_schema.specs.declared.tables.Datatype.{Datatype}
use Rattle.exi_schema.specs.declared.tables.RootOf.{RootOf}
use Rattle.exi_schema.specs.declared.places.Place.{Place}
use Rattle.exi_schema.specs.declared.places.Step.TheVariants as step
use Rattle.exi_schema.specs.Offers.{IsPlace}
use Rattle.exi_schema.specs.Steps.{simple_at}
use Rattle.exi_schema.proofs.Fitting.{first_place}
use Rattle.exi_documents.specs.Trees.{Value, Trees, none, simple, complex, Tree, Simple, Complex, Event, Document, Start, Attribute, Content, EndElement}
use Rattle.exi_documents.specs.Grammar.{Standing, Before, AtRoot, Inside, State, stands, Moves}
use Rattle.exi_documents.specs.Values.{Entries, SpellsValue, WritesValue}
use Rattle.exi_documents.specs.Documents.{Speller, SpellsStep, SpellsSimple, SpellsAttributes, SpellsComplex, SpellsTrees, SpellsTree, SpellsDocument, IsDocument, IsEncoding, name_of, element, first, header}
use Rattle.document_laws.specs.Laws.{WritesOnce, AreBytes, IsOneEncoding}
use Rattle.document_laws.proofs.Fits.{step_fits, root_kind, one_numbered, distinct_names}
use Rattle.document_laws.proofs.Names.{element_key, attribute_key, end_key, one_taken_by, ones_at}
use Rattle.document_laws.proofs.Written.{value_spelled, range_at, value_once}

one_of : {X : Type 0} (o : Option X) (x y : X) → o ≡ Some x → o ≡ Some y → x ≡ y
one_of {X} o x y p q = let e : Some x ≡ Some y = sym p ∙ q in cc

-- ---- what is written spells

module _ (s : PlainSchema) where
  simple_spelled : (kind : ℕ) (entries after : Entries) (name : ℕ) (value : Value) (bits : List Bool) → SpellsSimple WritesValue s.kinds kind entries name value bits after → SpellsSimple SpellsValue s.kinds kind entries name value bits after
  simple_spelled kind entries after name value bits h =
      record {
        datatype = h.datatype;
        is_simple = h.is_simple;
        inside = h.inside;
        spelled = value_spelled h.datatype entries name value (range_at s kind h.datatype h.is_simple) h.inside after h.spelled;
        bits_are = h.bits_are;
      }

  attributes_spelled : (here there : Place) (entries after : Entries) (attributes : List (ℕ × Value)) (bits : List Bool) → SpellsAttributes WritesValue s.kinds here entries attributes bits there after → SpellsAttributes SpellsValue s.kinds here entries attributes bits there after
  attributes_spelled here there entries after [] bits h = h
  attributes_spelled here there entries after (attribute ∷ attributes) bits h =
      record {
        kind = h.kind;
        next = h.next;
        datatype = h.datatype;
        middle = h.middle;
        code = h.code;
        inside = h.inside;
        rest = h.rest;
        starts = h.starts;
        is_simple = h.is_simple;
        spelled = value_spelled h.datatype entries attribute.0 attribute.1 (range_at s h.kind h.datatype h.is_simple) h.inside h.middle h.spelled;
        behind = attributes_spelled h.next there h.middle after attributes h.rest h.behind;
        bits_are = h.bits_are;
      }

  complex_spelled : (kind : ℕ) (entries : Entries) (attributes : List (ℕ × Value)) (C D : Place → Entries → List Bool → Type 0) (bits : List Bool) → ((there : Place) (within : Entries) (inside : List Bool) → C there within inside → D there within inside) →
      SpellsComplex WritesValue s.kinds kind entries attributes C bits → SpellsComplex SpellsValue s.kinds kind entries attributes D bits
  complex_spelled kind entries attributes C D bits children h =
      record {
        there = h.there;
        within = h.within;
        front = h.front;
        inside = h.inside;
        begun = attributes_spelled (first kind) h.there entries h.within attributes h.front h.begun;
        ended = children h.there h.within h.inside h.ended;
        bits_are = h.bits_are;
      }

  trees_spelled : (here : Place) (entries after : Entries) (trees : Trees) (bits : List Bool) → SpellsTrees WritesValue s.kinds here entries trees bits after → SpellsTrees SpellsValue s.kinds here entries trees bits after
  trees_spelled here entries after none bits h = h
  trees_spelled here entries after (simple name value more) bits h =
      record {
        kind = h.kind;
        next = h.next;
        middle = h.middle;
        code = h.code;
        inside = h.inside;
        rest = h.rest;
        starts = h.starts;
        spelled = simple_spelled h.kind entries h.middle name value h.inside h.spelled;
        behind = trees_spelled h.next h.middle after more h.rest h.behind;
        bits_are = h.bits_are;
      }
  trees_spelled here entries after (complex name attributes children more) bits h =
      record {
        kind = h.kind;
        next = h.next;
        middle = h.middle;
        code = h.code;
        inside = h.inside;
        rest = h.rest;
        starts = h.starts;
        spelled = complex_spelled h.kind entries attributes _ _ h.inside (λ there within inside. trees_spelled there within h.middle children inside) h.spelled;
        behind = trees_spelled h.next h.middle after more h.rest h.behind;
        bits_are = h.bits_are;
      }

  tree_spelled : (kind : ℕ) (after : Entries) (tree : Tree) (bits : List Bool) → SpellsTree WritesValue s.kinds kind [] tree bits after → SpellsTree SpellsValue s.kinds kind [] tree bits after
  tree_spelled kind after (Simple name value) bits h = simple_spelled kind [] after name value bits h
  tree_spelled kind after (Complex name attributes children) bits h =
      complex_spelled kind [] attributes _ _ bits (λ there within inside. trees_spelled there within after children inside) h

  event_at : (standing : Standing) (entries : Entries) (new : State) (event : Event) (bits : List Bool) → Moves WritesValue s (stands standing entries) event bits new → Moves SpellsValue s (stands standing entries) event bits new
  event_at Before entries new (Document number) bits m = m
  event_at (AtRoot root kind) entries new (Start name) bits m = m
  event_at (Inside top above) entries new (Start name) bits m = m
  event_at (Inside top above) entries new (Attribute name value) bits m =
      record {
        kind = m.kind;
        next = m.next;
        datatype = m.datatype;
        after = m.after;
        code = m.code;
        inside = m.inside;
        starts = m.starts;
        is_simple = m.is_simple;
        spelled = value_spelled m.datatype entries name value (range_at s m.kind m.datatype m.is_simple) m.inside m.after m.spelled;
        bits_are = m.bits_are;
        leads = m.leads;
      }
  event_at (Inside top above) entries new (Content value) bits m =
      record {
        next = m.next;
        datatype = m.datatype;
        after = m.after;
        code = m.code;
        inside = m.inside;
        starts = m.starts;
        is_simple = m.is_simple;
        spelled = value_spelled m.datatype entries top.name value (range_at s top.place.kind m.datatype m.is_simple) m.inside m.after m.spelled;
        bits_are = m.bits_are;
        leads = m.leads;
      }
  event_at (Inside top above) entries new EndElement bits m = m
  event_at standing entries new event bits m = absurd m

  pub event_spelled : (old new : State) (event : Event) (bits : List Bool) → Moves WritesValue s old event bits new → Moves SpellsValue s old event bits new
  event_spelled old new event bits m = event_at old.standing old.entries new event bits m

  pub document_spelled : (number : ℕ) (tree : Tree) (bits : List Bool) → SpellsDocument WritesValue s number tree bits → SpellsDocument SpellsValue s number tree bits
  document_spelled number tree bits d =
      record {
        kind = d.kind;
        front = d.front;
        inside = d.inside;
        after = d.after;
        named = d.named;
        numbered = d.numbered;
        spelled = tree_spelled d.kind d.after tree d.inside d.spelled;
        bits_are = d.bits_are;
      }

  pub encoding_spelled : (tree : Tree) (payload : List ℕ) → IsEncoding s tree payload → IsDocument s tree payload
  encoding_spelled tree payload e =
      record {
        number = e.number;
        bits = e.bits;
        pad = replicate e.pad false;
        spelled = document_spelled e.number tree e.bits e.spelled;
        few = subst (λ (n : ℕ). n < 8) (sym (length-replicate e.pad false)) e.few;
        bits_are = e.bits_are;
      }

-- ---- it is written in one way

module _ (V : Speller) (once : WritesOnce V) (s : PlainSchema) where
  simple_once : (kind : ℕ) (entries after other : Entries) (name : ℕ) (value : Value) (a b : List Bool) → SpellsSimple V s.kinds kind entries name value a after → SpellsSimple V s.kinds kind entries name value b other → (a ≡ b) × (after ≡ other)
  simple_once kind entries after other name value a b p q =
      let d = one_of (simple_at s.kinds kind) p.datatype q.datatype p.is_simple q.is_simple in
      let same = once q.datatype entries name value p.inside q.inside after other (subst (λ (x : Datatype). V x entries name value p.inside after) d p.spelled) q.spelled in
      (p.bits_are ∙ ap (λ (l : List Bool). number_bits 1 0 ++ (l ++ number_bits 1 0)) same.0 ∙ sym q.bits_are, same.1)

  -- of a name one attribute is offered, and one element
  attribute_once : (here next behind : Place) (name kind odd : ℕ) (a b : List Bool) → IsPlace s.kinds here → SpellsStep s.kinds here (step.Attribute name kind next) a → SpellsStep s.kinds here (step.Attribute name odd behind) b →
      (kind ≡ odd) × (next ≡ behind) × (a ≡ b)
  attribute_once here next behind name kind odd a b at p q =
      let both = one_taken_by attribute_key s.kinds here name (step.Attribute name kind next) (step.Attribute name odd behind) a b (ones_at s here at).attributes p q refl refl in
      let same = both.0 in
      (let k : kind ≡ odd = cc in k, let n : next ≡ behind = cc in n, both.1)

  element_once : (here next behind : Place) (name kind odd : ℕ) (a b : List Bool) → IsPlace s.kinds here → SpellsStep s.kinds here (element name kind next) a → SpellsStep s.kinds here (element name odd behind) b →
      (kind ≡ odd) × (next ≡ behind) × (a ≡ b)
  element_once here next behind name kind odd a b at p q =
      let both = one_taken_by element_key s.kinds here name (element name kind next) (element name odd behind) a b (ones_at s here at).elements p q refl refl in
      let same : element name kind next ≡ element name odd behind = both.0 in
      (let k : kind ≡ odd = cc in k, let n : next ≡ behind = cc in n, both.1)

  end_once : (here : Place) (a b : List Bool) → IsPlace s.kinds here → SpellsStep s.kinds here step.End a → SpellsStep s.kinds here step.End b → a ≡ b
  end_once here a b at p q = (one_taken_by end_key s.kinds here 0 step.End step.End a b (ones_at s here at).ends p q refl refl).1

  behind_attribute : (here next : Place) (name kind : ℕ) (bits : List Bool) → IsPlace s.kinds here → SpellsStep s.kinds here (step.Attribute name kind next) bits → IsPlace s.kinds next
  behind_attribute here next name kind bits at h = (step_fits s here h.code (step.Attribute name kind next) at h.offered).3

  behind_element : (here next : Place) (name kind : ℕ) (bits : List Bool) → IsPlace s.kinds here → SpellsStep s.kinds here (element name kind next) bits → IsPlace s.kinds next × IsPlace s.kinds (first kind)
  behind_element here next name kind bits at h =
      let fits = step_fits s here h.code (element name kind next) at h.offered in
      (fits.2, first_place s kind fits.1)

  attributes_once : (here there far : Place) (entries after other : Entries) (attributes : List (ℕ × Value)) (a b : List Bool) → IsPlace s.kinds here →
      SpellsAttributes V s.kinds here entries attributes a there after → SpellsAttributes V s.kinds here entries attributes b far other → (a ≡ b) × (there ≡ far) × (after ≡ other)
  attributes_once here there far entries after other [] a b at p q = (p.0 ∙ sym q.0, p.1 ∙ sym q.1, p.2 ∙ sym q.2)
  attributes_once here there far entries after other (attribute ∷ attributes) a b at p q =
      let code = attribute_once here p.next q.next attribute.0 p.kind q.kind p.code q.code at p.starts q.starts in
      let d = one_of (simple_at s.kinds q.kind) p.datatype q.datatype (ap (λ (k : ℕ). simple_at s.kinds k) (sym code.0) ∙ p.is_simple) q.is_simple in
      let value = once q.datatype entries attribute.0 attribute.1 p.inside q.inside p.middle q.middle (subst (λ (x : Datatype). V x entries attribute.0 attribute.1 p.inside p.middle) d p.spelled) q.spelled in
      let moved : SpellsAttributes V s.kinds q.next q.middle attributes p.rest there after =
      subst (λ (h : Place). SpellsAttributes V s.kinds h q.middle attributes p.rest there after) code.1
      (subst (λ (es : Entries). SpellsAttributes V s.kinds p.next es attributes p.rest there after) value.1 p.behind) in
      let more = attributes_once q.next there far q.middle after other attributes p.rest q.rest (behind_attribute here q.next attribute.0 q.kind q.code at q.starts) moved q.behind in
      (p.bits_are ∙ ap₂ (λ (x y : List Bool). x ++ y) code.2 (ap₂ (λ (x y : List Bool). x ++ y) value.0 more.0) ∙ sym q.bits_are, more.1, more.2)

  behind_attributes : (here there : Place) (entries after : Entries) (attributes : List (ℕ × Value)) (bits : List Bool) → IsPlace s.kinds here → SpellsAttributes V s.kinds here entries attributes bits there after → IsPlace s.kinds there
  behind_attributes here there entries after [] bits at h = subst (λ (x : Place). IsPlace s.kinds x) (sym h.1) at
  behind_attributes here there entries after (attribute ∷ attributes) bits at h =
      behind_attributes h.next there h.middle after attributes h.rest (behind_attribute here h.next attribute.0 h.kind h.code at h.starts) h.behind

  abbrev IsComplex : ℕ → Entries → List (ℕ × Value) → Trees → List Bool → Entries → Type 0
  IsComplex kind entries attributes children bits after =
      SpellsComplex V s.kinds kind entries attributes (λ there within inside. SpellsTrees V s.kinds there within children inside after) bits

  complex_once : (kind : ℕ) (entries after other : Entries) (attributes : List (ℕ × Value)) (children : Trees) (a b : List Bool) → IsPlace s.kinds (first kind) →
      ((there : Place) (within : Entries) (x y : List Bool) → IsPlace s.kinds there → SpellsTrees V s.kinds there within children x after → SpellsTrees V s.kinds there within children y other → (x ≡ y) × (after ≡ other)) →
      IsComplex kind entries attributes children a after → IsComplex kind entries attributes children b other → (a ≡ b) × (after ≡ other)
  complex_once kind entries after other attributes children a b at children_once p q =
      let front = attributes_once (first kind) p.there q.there entries p.within q.within attributes p.front q.front at p.begun q.begun in
      let begun : SpellsTrees V s.kinds q.there q.within children p.inside after =
      subst (λ (h : Place). SpellsTrees V s.kinds h q.within children p.inside after) front.1
      (subst (λ (es : Entries). SpellsTrees V s.kinds p.there es children p.inside after) front.2 p.ended) in
      let inside = children_once q.there q.within p.inside q.inside (behind_attributes (first kind) q.there entries q.within attributes q.front at q.begun) begun q.ended in
      (p.bits_are ∙ ap₂ (λ (x y : List Bool). x ++ y) front.0 inside.0 ∙ sym q.bits_are, inside.1)

  trees_once : (here : Place) (entries after other : Entries) (trees : Trees) (a b : List Bool) → IsPlace s.kinds here → SpellsTrees V s.kinds here entries trees a after → SpellsTrees V s.kinds here entries trees b other → (a ≡ b) × (after ≡ other)
  trees_once here entries after other none a b at p q = (end_once here a b at p.0 q.0, p.1 ∙ sym q.1)
  trees_once here entries after other (simple name value more) a b at p q =
      let code = element_once here p.next q.next name p.kind q.kind p.code q.code at p.starts q.starts in
      let inside = simple_once q.kind entries p.middle q.middle name value p.inside q.inside (subst (λ (k : ℕ). SpellsSimple V s.kinds k entries name value p.inside p.middle) code.0 p.spelled) q.spelled in
      let moved : SpellsTrees V s.kinds q.next q.middle more p.rest after =
      subst (λ (h : Place). SpellsTrees V s.kinds h q.middle more p.rest after) code.1
      (subst (λ (es : Entries). SpellsTrees V s.kinds p.next es more p.rest after) inside.1 p.behind) in
      let later = trees_once q.next q.middle after other more p.rest q.rest (behind_element here q.next name q.kind q.code at q.starts).0 moved q.behind in
      (p.bits_are ∙ ap₂ (λ (x y : List Bool). x ++ y) code.2 (ap₂ (λ (x y : List Bool). x ++ y) inside.0 later.0) ∙ sym q.bits_are, later.1)
  trees_once here entries after other (complex name attributes children more) a b at p q =
      let code = element_once here p.next q.next name p.kind q.kind p.code q.code at p.starts q.starts in
      let places = behind_element here q.next name q.kind q.code at q.starts in
      let inside = complex_once q.kind entries p.middle q.middle attributes children p.inside q.inside places.1 (λ there within. trees_once there within p.middle q.middle children)
      (subst (λ (k : ℕ). IsComplex k entries attributes children p.inside p.middle) code.0 p.spelled) q.spelled in
      let moved : SpellsTrees V s.kinds q.next q.middle more p.rest after =
      subst (λ (h : Place). SpellsTrees V s.kinds h q.middle more p.rest after) code.1
      (subst (λ (es : Entries). SpellsTrees V s.kinds p.next es more p.rest after) inside.1 p.behind) in
      let later = trees_once q.next q.middle after other more p.rest q.rest places.0 moved q.behind in
      (p.bits_are ∙ ap₂ (λ (x y : List Bool). x ++ y) code.2 (ap₂ (λ (x y : List Bool). x ++ y) inside.0 later.0) ∙ sym q.bits_are, later.1)

  tree_once : (kind : ℕ) (after other : Entries) (tree : Tree) (a b : List Bool) → IsPlace s.kinds (first kind) → SpellsTree V s.kinds kind [] tree a after → SpellsTree V s.kinds kind [] tree b other → a ≡ b
  tree_once kind after other (Simple name value) a b at p q = (simple_once kind [] after other name value a b p q).0
  tree_once kind after other (Complex name attributes children) a b at p q =
      (complex_once kind [] after other attributes children a b at (λ there within. trees_once there within after other children) p q).0

  pub document_once : (n m : ℕ) (tree : Tree) (a b : List Bool) → SpellsDocument V s n tree a → SpellsDocument V s m tree b → (n ≡ m) × (a ≡ b)
  document_once n m tree a b p q =
      let x : RootOf = record { number = n; name = name_of tree; kind = p.kind } in
      let y : RootOf = record { number = m; name = name_of tree; kind = q.kind } in
      let same = (one_numbered (λ (root : RootOf). root.name) s.roots p.named.0 q.named.0 x y (distinct_names s) p.named.1 q.named.1 refl).0 in
      let number : n ≡ m = ap (λ (root : RootOf). root.number) same in
      let kind : p.kind ≡ q.kind = ap (λ (root : RootOf). root.kind) same in
      let at = first_place s q.kind (root_kind s m (name_of tree) q.kind q.named) in
      let inside = tree_once q.kind p.after q.after tree p.inside q.inside at (subst (λ (k : ℕ). SpellsTree V s.kinds k [] tree p.inside p.after) kind p.spelled) q.spelled in
      let front : p.front ≡ q.front = p.numbered.spelled ∙ ap (λ (k : ℕ). number_bits s.root_bits k) number ∙ sym q.numbered.spelled in
      (number, p.bits_are ∙ ap (λ (l : List Bool). header ++ l) (ap₂ (λ (x y : List Bool). x ++ y) front inside) ∙ sym q.bits_are)

-- ---- a payload

same_bytes : (p q : List ℕ) → AreBytes p → AreBytes q → bits_of p ≡ bits_of q → p ≡ q
same_bytes p q a b e =
    let long : length p ≡ length q = omega (arith, length-bits_of p, length-bits_of q, ap length e) in
    sym (bytes_in-spelled p (bits_of p) [] (record { range = a; spelled = refl }))
    ∙ ap₂ (λ (n : ℕ) (l : List Bool). bytes_in n (l ++ [])) long e
    ∙ bytes_in-spelled q (bits_of q) [] (record { range = b; spelled = refl })

pub one_encoding : (s : PlainSchema) → IsOneEncoding s
one_encoding s tree p q a b e f =
    let same = (document_once WritesValue value_once s e.number f.number tree e.bits f.bits e.spelled f.spelled).1 in
    let first_long : 8 * length p ≡ length e.bits + e.pad =
    sym (length-bits_of p) ∙ ap length e.bits_are ∙ length-append e.bits (replicate e.pad false) ∙ ap (λ (n : ℕ). length e.bits + n) (length-replicate e.pad false) in
    let other_long : 8 * length q ≡ length f.bits + f.pad =
    sym (length-bits_of q) ∙ ap length f.bits_are ∙ length-append f.bits (replicate f.pad false) ∙ ap (λ (n : ℕ). length f.bits + n) (length-replicate f.pad false) in
    let pads : e.pad ≡ f.pad = omega (arith, first_long, other_long, ap length same, e.few, f.few) in
    same_bytes p q a b (e.bits_are ∙ ap₂ (λ (l : List Bool) (n : ℕ). l ++ replicate n false) same pads ∙ sym f.bits_are)
