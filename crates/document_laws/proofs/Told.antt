-- The events up to the end of a root are those of one tree.
use Rattle.std.proofs.Common.{◌≡◌, ℕ, zero, suc, ◌≤◌, ◌⊎◌, Bool, List, [], ◌∷◌, ◌++◌, length, reverse, Some, slice_get, refl, sym, ap, subst, ◌∙◌, append_assoc, append-nil, length-append, inl, inr, arith}
use Rattle.std.proofs.lemmas.List.{reverse-reverse}
use Rattle.exi_spec.specs.Bits.{number_bits}
use Rattle.exi_spec.specs.Items.{SpellsNumber}
use Rattle.exi_schema.specs.declared.places.Place.{Place}
use Rattle.exi_schema.specs.declared.places.Root.TheVariants.{Kind}
use Rattle.exi_schema.specs.declared.places.Step.{Step}
use Rattle.exi_schema.specs.declared.places.Step.TheVariants as step
use Rattle.exi_schema.specs.Schemas.{PlainSchema}
use Rattle.exi_schema.specs.declared.tables.Datatype.{Datatype}
use Rattle.exi_schema.specs.Offers.{offers}
use Rattle.exi_schema.specs.Steps.{IsRoot, simple_at}
use Rattle.exi_documents.specs.Trees.{Value, Trees, none, simple, complex, Tree, Simple, Complex, Event, Document, Start, Attribute, Content, EndElement, attribute_events, events_of, document_events}
use Rattle.exi_documents.specs.Values.{Entries}
use Rattle.exi_documents.specs.Documents.{Speller, SpellsStep, SpellsAttributes, SpellsTrees, SpellsDocument, element, first, header}
use Rattle.exi_documents.specs.Grammar.{Opened, Standing, Before, AtRoot, Inside, Behind, State, start, opened, around, stands, Moves, Reaches}
use Rattle.document_laws.specs.Laws.{TellsOf, TellTrees}
use Rattle.document_laws.proofs.Offered.{only_code, HasNoAttribute, HasNoValue, one_taken, behind_element, behind_attribute, behind_characters}
use Rattle.document_laws.proofs.Runs.{Runs, to_start, document_tells}

abbrev standing_of : State → Standing
standing_of state = state.standing

abbrev entries_of : State → Entries
entries_of state = state.entries

abbrev IsBehind : Standing → Type 0
IsBehind Before = ⊥
IsBehind (AtRoot name kind) = ⊥
IsBehind (Inside top above) = ⊥
IsBehind Behind = Unit {0}

-- attributes, children and the end of one element, and what stands behind it
regroup : {X : Type 0} (a c m : List X) (e : X) → (a ++ (c ++ (e ∷ []))) ++ m ≡ (a ++ c) ++ (e ∷ m)
regroup {X} a c m e =
    append_assoc a (c ++ (e ∷ [])) m ∙ ap (λ (l : List X). a ++ l) (append_assoc c (e ∷ []) m) ∙ sym (append_assoc a c (e ∷ m))

module _ (V : Speller) (s : PlainSchema) where
  -- from a place on: attributes, elements and the end
  record Complexly (here : Place) (entries : Entries) (events : List Event) (bits : List Bool) (after : Entries) : Type 0 where
    pub attributes : List (ℕ × Value)
    pub children : Trees
    pub there : Place
    pub within : Entries
    pub front : List Bool
    pub inside : List Bool
    pub begun : SpellsAttributes V s.kinds here entries attributes front there within
    pub ended : SpellsTrees V s.kinds there within children inside after
    pub bits_are : bits ≡ front ++ inside
    pub events_are : events ≡ attribute_events attributes ++ (events_of children ++ (EndElement ∷ []))

  -- from a place on: characters and the end
  record Simply (name : ℕ) (here : Place) (entries : Entries) (events : List Event) (bits : List Bool) (after : Entries) : Type 0 where
    pub value : Value
    pub datatype : Datatype
    pub inside : List Bool
    pub next : Place
    pub offered : offers s.kinds here ≡ step.Characters next ∷ []
    pub is_simple : simple_at s.kinds here.kind ≡ Some datatype
    pub spelled : V datatype entries name value inside after
    pub bits_are : bits ≡ number_bits 1 0 ++ (inside ++ number_bits 1 0)
    pub events_are : events ≡ Content value ∷ EndElement ∷ []

  -- the events of a run up to the end of the innermost element, and those behind it
  record Closes (name : ℕ) (here : Place) (above : List Opened) (entries : Entries) (events : List Event) (bits : List Bool) (new : State) : Type 0 where
    pub own : List Event
    pub later : List Event
    pub mine : List Bool
    pub others : List Bool
    pub after : Entries
    pub rest : Simply name here entries own mine after ⊎ Complexly here entries own mine after
    pub going : Runs V s (stands (around above) after) later others new
    pub events_are : events ≡ own ++ later
    pub bits_are : bits ≡ mine ++ others

  -- elements and the end alone
  record Elements (here : Place) (entries : Entries) (events : List Event) (bits : List Bool) (after : Entries) : Type 0 where
    pub children : Trees
    pub ended : SpellsTrees V s.kinds here entries children bits after
    pub events_are : events ≡ events_of children ++ (EndElement ∷ [])

  no_attributes : (here there : Place) (entries within : Entries) (attributes : List (ℕ × Value)) (front : List Bool) → HasNoAttribute s.kinds here → SpellsAttributes V s.kinds here entries attributes front there within →
      (attributes ≡ []) × (front ≡ []) × (there ≡ here) × (within ≡ entries)
  no_attributes here there entries within [] front lacks h = (refl, h.0, h.1, h.2)
  no_attributes here there entries within (attribute ∷ attributes) front lacks h = absurd (lacks h.starts.code attribute.0 h.kind h.next h.starts.offered)

  elements_from : (here : Place) (entries after : Entries) (events : List Event) (bits : List Bool) → HasNoAttribute s.kinds here → Complexly here entries events bits after → Elements here entries events bits after
  elements_from here entries after events bits lacks h =
      let nil = no_attributes here h.there entries h.within h.attributes h.front lacks h.begun in
      let e : bits ≡ h.inside = h.bits_are ∙ ap (λ (l : List Bool). l ++ h.inside) nil.1 in
      let at_here : SpellsTrees V s.kinds here entries h.children h.inside after =
      subst (λ (p : Place). SpellsTrees V s.kinds p entries h.children h.inside after) nil.2
      (subst (λ (es : Entries). SpellsTrees V s.kinds h.there es h.children h.inside after) nil.3 h.ended) in
      record {
        children = h.children;
        ended = subst (λ (l : List Bool). SpellsTrees V s.kinds here entries h.children l after) (sym e) at_here;
        events_are = h.events_are ∙ ap (λ (l : List (ℕ × Value)). attribute_events l ++ (events_of h.children ++ (EndElement ∷ []))) nil.0;
      }

  complexly_only : (name : ℕ) (here : Place) (entries after : Entries) (events : List Event) (bits : List Bool) → HasNoValue s.kinds here →
      Simply name here entries events bits after ⊎ Complexly here entries events bits after → Complexly here entries events bits after
  complexly_only name here entries after events bits lacks (inl h) = absurd (lacks h.datatype h.is_simple)
  complexly_only name here entries after events bits lacks (inr h) = h

  plainly : (here : Place) (entries after : Entries) (events : List Event) (bits : List Bool) → Elements here entries events bits after → Complexly here entries events bits after
  plainly here entries after events bits h =
      record {
        attributes = [];
        children = h.children;
        there = here;
        within = entries;
        front = [];
        inside = bits;
        begun = (refl, refl, refl);
        ended = h.ended;
        bits_are = refl;
        events_are = h.events_are;
      }

  -- an element before others
  with_child : (here next : Place) (name kind : ℕ) (entries middle after : Entries) (code mine others : List Bool) (own later : List Event) →
      SpellsStep s.kinds here (element name kind next) code →
      Simply name (first kind) entries own mine middle ⊎ Complexly (first kind) entries own mine middle →
      Elements next middle later others after →
      Elements here entries (Start name ∷ (own ++ later)) (code ++ (mine ++ others)) after
  with_child here next name kind entries middle after code mine others own later step (inl h) more =
      record {
        children = simple name h.value more.children;
        ended =
            record {
              kind = kind;
              next = next;
              middle = middle;
              code = code;
              inside = mine;
              rest = others;
              starts = step;
              spelled = record { datatype = h.datatype; is_simple = h.is_simple; inside = h.inside; spelled = h.spelled; bits_are = h.bits_are };
              behind = more.ended;
              bits_are = refl;
            };
        events_are =
            ap (λ (l : List Event). Start name ∷ (l ++ later)) h.events_are
            ∙ ap (λ (l : List Event). Start name ∷ Content h.value ∷ EndElement ∷ l) more.events_are;
      }
  with_child here next name kind entries middle after code mine others own later step (inr h) more =
      let a = attribute_events h.attributes in
      let c = events_of h.children in
      record {
        children = complex name h.attributes h.children more.children;
        ended =
            record {
              kind = kind;
              next = next;
              middle = middle;
              code = code;
              inside = mine;
              rest = others;
              starts = step;
              spelled = record { there = h.there; within = h.within; front = h.front; inside = h.inside; begun = h.begun; ended = h.ended; bits_are = h.bits_are };
              behind = more.ended;
              bits_are = refl;
            };
        events_are =
            ap (λ (l : List Event). Start name ∷ (l ++ later)) h.events_are
            ∙ ap (λ (l : List Event). Start name ∷ ((a ++ (c ++ (EndElement ∷ []))) ++ l)) more.events_are
            ∙ ap (λ (l : List Event). Start name ∷ l) (regroup a c (events_of more.children ++ (EndElement ∷ [])) EndElement ∙ sym (append_assoc (a ++ c) (EndElement ∷ events_of more.children) (EndElement ∷ [])));
      }

  -- an attribute before others
  with_attribute : (here next : Place) (name kind : ℕ) (value : Value) (datatype : Datatype) (entries middle after : Entries) (code word bits : List Bool) (events : List Event) →
      SpellsStep s.kinds here (step.Attribute name kind next) code →
      simple_at s.kinds kind ≡ Some datatype →
      V datatype entries name value word middle →
      Complexly next middle events bits after →
      Complexly here entries (Attribute name value ∷ events) ((code ++ word) ++ bits) after
  with_attribute here next name kind value datatype entries middle after code word bits events step is_simple spelled h =
      record {
        attributes = (name, value) ∷ h.attributes;
        children = h.children;
        there = h.there;
        within = h.within;
        front = code ++ (word ++ h.front);
        inside = h.inside;
        begun =
            record {
              kind = kind;
              next = next;
              datatype = datatype;
              middle = middle;
              code = code;
              inside = word;
              rest = h.front;
              starts = step;
              is_simple = is_simple;
              spelled = spelled;
              behind = h.begun;
              bits_are = refl;
            };
        ended = h.ended;
        bits_are =
            ap (λ (l : List Bool). (code ++ word) ++ l) h.bits_are ∙ append_assoc code word (h.front ++ h.inside)
            ∙ ap (λ (l : List Bool). code ++ l) (sym (append_assoc word h.front h.inside)) ∙ sym (append_assoc code (word ++ h.front) h.inside);
        events_are = ap (λ (l : List Event). Attribute name value ∷ l) h.events_are;
      }

  -- behind the characters stands the end
  end_only : (here : Place) (entries after : Entries) (events : List Event) (bits : List Bool) → offers s.kinds here ≡ step.End ∷ [] → Elements here entries events bits after →
      (events ≡ EndElement ∷ []) × (bits ≡ number_bits 1 0) × (after ≡ entries)
  end_only here entries after events bits only h = go h.children h.ended h.events_are
    where
      other : (x : Step) (code : List Bool) → (x ≡ step.End → ⊥) → SpellsStep s.kinds here x code → ⊥
      other x code differs h = differs (one_taken s.kinds here step.End x code only h).0

      go : (trees : Trees) → SpellsTrees V s.kinds here entries trees bits after → events ≡ events_of trees ++ (EndElement ∷ []) → (events ≡ EndElement ∷ []) × (bits ≡ number_bits 1 0) × (after ≡ entries)
      go none t e = (e, (one_taken s.kinds here step.End step.End bits only t.0).1, t.1)
      go (simple name value more) t e = absurd (other (element name t.kind t.next) t.code (λ wrong. cc) t.starts)
      go (complex name attributes children more) t e = absurd (other (element name t.kind t.next) t.code (λ wrong. cc) t.starts)

  no_end_attribute : (here : Place) → offers s.kinds here ≡ step.End ∷ [] → HasNoAttribute s.kinds here
  no_end_attribute here only code name kind next h =
      let same = (only_code step.End (step.Attribute name kind next) code (sym (ap (λ (l : List Step). slice_get l code) only) ∙ h)).0 in cc

  end_only_of : (name : ℕ) (here : Place) (entries after : Entries) (events : List Event) (bits : List Bool) → offers s.kinds here ≡ step.End ∷ [] →
      Simply name here entries events bits after ⊎ Complexly here entries events bits after → (events ≡ EndElement ∷ []) × (bits ≡ number_bits 1 0) × (after ≡ entries)
  end_only_of name here entries after events bits only (inl h) =
      let wrong : step.Characters h.next ∷ [] ≡ step.End ∷ [] = sym h.offered ∙ only in absurd cc
  end_only_of name here entries after events bits only (inr h) = end_only here entries after events bits only (elements_from here entries after events bits (no_end_attribute here only) h)

  -- a run from inside an element that ends behind the root ends the element
  closes : (n : ℕ) (name : ℕ) (here : Place) (above : List Opened) (entries : Entries) (events : List Event) (bits : List Bool) (new : State) → length events ≤ n → IsBehind new.standing →
      Runs V s (stands (Inside (opened name here) above) entries) events bits new → Closes name here above entries events bits new
  closes n name here above entries [] bits new few behind r = absurd (subst (λ (state : State). IsBehind state.standing) r.1 behind)
  closes zero name here above entries (event ∷ events) bits new few behind r = absurd (omega (arith, few))
  closes (suc n) name here above entries (Document number ∷ events) bits new few behind r = absurd r.3
  closes (suc n) name here above entries (Start child ∷ events) bits new few behind r =
      let m = r.3 in
      let next = m.next in
      let inner = closes n child (first m.kind) (opened name next ∷ above) entries events r.2 new (omega (arith, few)) behind (subst (λ (state : State). Runs V s state events r.2 new) m.leads r.4) in
      let less : length inner.later ≤ n = omega (arith, few, ap length inner.events_are, length-append inner.own inner.later) in
      let outer = closes n name next above inner.after inner.later inner.others new less behind inner.going in
      let lacks = behind_element s.kinds here next child m.kind r.1 m.starts in
      let more = elements_from next inner.after outer.after outer.own outer.mine lacks.0 (complexly_only name next inner.after outer.after outer.own outer.mine lacks.1 outer.rest) in
      record {
        own = Start child ∷ (inner.own ++ outer.own);
        later = outer.later;
        mine = r.1 ++ (inner.mine ++ outer.mine);
        others = outer.others;
        after = outer.after;
        rest = inr (plainly here entries outer.after (Start child ∷ (inner.own ++ outer.own)) (r.1 ++ (inner.mine ++ outer.mine)) (with_child here next child m.kind entries inner.after outer.after r.1 inner.mine outer.mine inner.own outer.own m.starts inner.rest more));
        going = outer.going;
        events_are = ap (λ (l : List Event). Start child ∷ l) (inner.events_are ∙ ap (λ (l : List Event). inner.own ++ l) outer.events_are ∙ sym (append_assoc inner.own outer.own outer.later));
        bits_are =
            r.5 ∙ ap (λ (l : List Bool). r.1 ++ l) (inner.bits_are ∙ ap (λ (l : List Bool). inner.mine ++ l) outer.bits_are ∙ sym (append_assoc inner.mine outer.mine outer.others))
            ∙ sym (append_assoc r.1 (inner.mine ++ outer.mine) outer.others);
      }
  closes (suc n) name here above entries (Attribute child value ∷ events) bits new few behind r =
      let m = r.3 in
      let next = m.next in
      let outer = closes n name next above m.after events r.2 new (omega (arith, few)) behind (subst (λ (state : State). Runs V s state events r.2 new) m.leads r.4) in
      let more = complexly_only name next m.after outer.after outer.own outer.mine (behind_attribute s.kinds here next child m.kind m.code m.starts) outer.rest in
      record {
        own = Attribute child value ∷ outer.own;
        later = outer.later;
        mine = (m.code ++ m.inside) ++ outer.mine;
        others = outer.others;
        after = outer.after;
        rest = inr (with_attribute here next child m.kind value m.datatype entries m.after outer.after m.code m.inside outer.mine outer.own m.starts m.is_simple m.spelled more);
        going = outer.going;
        events_are = ap (λ (l : List Event). Attribute child value ∷ l) outer.events_are;
        bits_are =
            r.5 ∙ ap (λ (l : List Bool). l ++ r.2) m.bits_are ∙ ap (λ (l : List Bool). (m.code ++ m.inside) ++ l) outer.bits_are ∙ sym (append_assoc (m.code ++ m.inside) outer.mine outer.others);
      }
  closes (suc n) name here above entries (Content value ∷ events) bits new few behind r =
      let m = r.3 in
      let next = m.next in
      let outer = closes n name next above m.after events r.2 new (omega (arith, few)) behind (subst (λ (state : State). Runs V s state events r.2 new) m.leads r.4) in
      let only = behind_characters s.kinds here next m.datatype m.code m.is_simple m.starts in
      let ended = end_only_of name next m.after outer.after outer.own outer.mine only.1 outer.rest in
      let one : m.code ≡ number_bits 1 0 = (one_taken s.kinds here (step.Characters next) (step.Characters next) m.code only.0 m.starts).1 in
      record {
        own = Content value ∷ outer.own;
        later = outer.later;
        mine = (m.code ++ m.inside) ++ outer.mine;
        others = outer.others;
        after = outer.after;
        rest = inl record {
          value = value;
          datatype = m.datatype;
          inside = m.inside;
          next = next;
          offered = only.0;
          is_simple = m.is_simple;
          spelled = subst (λ (es : Entries). V m.datatype entries name value m.inside es) (sym ended.2) m.spelled;
          bits_are =
              append_assoc m.code m.inside outer.mine ∙ ap (λ (l : List Bool). l ++ (m.inside ++ outer.mine)) one ∙ ap (λ (l : List Bool). number_bits 1 0 ++ (m.inside ++ l)) ended.1;
          events_are = ap (λ (l : List Event). Content value ∷ l) ended.0;
        };
        going = outer.going;
        events_are = ap (λ (l : List Event). Content value ∷ l) outer.events_are;
        bits_are =
            r.5 ∙ ap (λ (l : List Bool). l ++ r.2) m.bits_are ∙ ap (λ (l : List Bool). (m.code ++ m.inside) ++ l) outer.bits_are ∙ sym (append_assoc (m.code ++ m.inside) outer.mine outer.others);
      }
  closes (suc n) name here above entries (EndElement ∷ events) bits new few behind r =
      let m = r.3 in
      record {
        own = EndElement ∷ [];
        later = events;
        mine = r.1;
        others = r.2;
        after = entries;
        rest = inr (plainly here entries entries (EndElement ∷ []) r.1 (record { children = none; ended = (m.0, refl); events_are = refl }));
        going = subst (λ (state : State). Runs V s state events r.2 new) m.1 r.4;
        events_are = refl;
        bits_are = r.5;
      }

  -- ---- the whole document

  abbrev Told : List Event → List Bool → Type 0
  Told events bits = (number : ℕ) × (tree : Tree) × (events ≡ document_events number tree) × SpellsDocument V s number tree bits

  -- no event follows the root
  pub none_behind : (entries : Entries) (event : Event) (bits : List Bool) (new : State) → Moves V s (stands Behind entries) event bits new → ⊥
  none_behind entries (Document number) bits new h = h
  none_behind entries (Start name) bits new h = h
  none_behind entries (Attribute name value) bits new h = h
  none_behind entries (Content value) bits new h = h
  none_behind entries EndElement bits new h = h

  pub behind_ends : (entries : Entries) (events : List Event) (bits : List Bool) (new : State) → Runs V s (stands Behind entries) events bits new → (events ≡ []) × (bits ≡ [])
  behind_ends entries [] bits new r = (refl, r.0)
  behind_ends entries (event ∷ events) bits new r = absurd (none_behind entries event r.1 r.0 r.3)

  root_tree : (number name kind : ℕ) (after : Entries) (events : List Event) (front inside bits : List Bool) →
      IsRoot s.roots s.root_bits number (Kind name kind) → SpellsNumber s.root_bits number front →
      Simply name (first kind) [] events inside after ⊎ Complexly (first kind) [] events inside after → bits ≡ header ++ (front ++ inside) →
      Told (Document number ∷ Start name ∷ events) bits
  root_tree number name kind after events front inside bits named numbered (inl h) are = (
    number,
    Simple name h.value,
    ap (λ (l : List Event). Document number ∷ Start name ∷ l) h.events_are,
    record {
      kind = kind;
      front = front;
      inside = inside;
      after = after;
      named = named;
      numbered = numbered;
      spelled = record { datatype = h.datatype; is_simple = h.is_simple; inside = h.inside; spelled = h.spelled; bits_are = h.bits_are };
      bits_are = are;
    },
  )
  root_tree number name kind after events front inside bits named numbered (inr h) are = (
    number,
    Complex name h.attributes h.children,
    ap (λ (l : List Event). Document number ∷ Start name ∷ l) (h.events_are ∙ sym (append_assoc (attribute_events h.attributes) (events_of h.children) (EndElement ∷ []))),
    record {
      kind = kind;
      front = front;
      inside = inside;
      after = after;
      named = named;
      numbered = numbered;
      spelled = record { there = h.there; within = h.within; front = h.front; inside = h.inside; begun = h.begun; ended = h.ended; bits_are = h.bits_are };
      bits_are = are;
    },
  )

  at_root : (number name kind : ℕ) (entries : Entries) (events : List Event) (front rest bits : List Bool) →
      IsRoot s.roots s.root_bits number (Kind name kind) → SpellsNumber s.root_bits number front →
      Runs V s (stands (AtRoot name kind) []) events rest (stands Behind entries) → bits ≡ header ++ (front ++ rest) →
      Told (Document number ∷ events) bits
  at_root number name kind entries [] front rest bits named numbered r are = absurd (subst (λ (state : State). IsBehind state.standing) r.1 tt)
  at_root number name kind entries (Document other ∷ events) front rest bits named numbered r are = absurd r.3
  at_root number name kind entries (Attribute child value ∷ events) front rest bits named numbered r are = absurd r.3
  at_root number name kind entries (Content value ∷ events) front rest bits named numbered r are = absurd r.3
  at_root number name kind entries (EndElement ∷ events) front rest bits named numbered r are = absurd r.3
  at_root number name kind entries (Start child ∷ events) front rest bits named numbered r are =
      let m = r.3 in
      let c = closes (length events) child (first kind) [] [] events r.2 (stands Behind entries) (omega arith) tt (subst (λ (state : State). Runs V s state events r.2 (stands Behind entries)) m.2 r.4) in
      let nil = behind_ends c.after c.later c.others (stands Behind entries) c.going in
      let all_events : events ≡ c.own = c.events_are ∙ ap (λ (l : List Event). c.own ++ l) nil.0 ∙ append-nil c.own in
      let all_bits : rest ≡ c.mine = r.5 ∙ ap (λ (l : List Bool). l ++ r.2) m.1 ∙ c.bits_are ∙ ap (λ (l : List Bool). c.mine ++ l) nil.1 ∙ append-nil c.mine in
      subst (λ (l : List Event). Told (Document number ∷ Start child ∷ l) bits) (sym all_events)
      (root_tree number child kind c.after c.own front c.mine bits (subst (λ (n : ℕ). IsRoot s.roots s.root_bits number (Kind n kind)) (sym m.0) named) numbered c.rest
      (are ∙ ap (λ (l : List Bool). header ++ (front ++ l)) all_bits))

  run_told : (entries : Entries) (events : List Event) (bits : List Bool) → Runs V s start events bits (stands Behind entries) → Told events bits
  run_told entries [] bits r = absurd (subst (λ (state : State). IsBehind state.standing) r.1 tt)
  run_told entries (Start name ∷ events) bits r = absurd r.3
  run_told entries (Attribute name value ∷ events) bits r = absurd r.3
  run_told entries (Content value ∷ events) bits r = absurd r.3
  run_told entries (EndElement ∷ events) bits r = absurd r.3
  run_told entries (Document number ∷ events) bits r =
      let m = r.3 in
      at_root number m.name m.kind entries events m.front r.2 bits m.named m.numbered (subst (λ (state : State). Runs V s state events r.2 (stands Behind entries)) m.leads r.4)
      (r.5 ∙ ap (λ (l : List Bool). l ++ r.2) m.bits_are ∙ append_assoc header m.front r.2)

  -- events up to the end of the root tell a document
  pub events_told : (events : List Event) (bits : List Bool) (entries : Entries) → Reaches V s events bits (stands Behind entries) → TellsOf V s events bits
  events_told events bits entries h =
      let told = run_told entries (reverse events) bits (to_start V s (stands Behind entries) events bits h) in
      (told.0, told.1, sym (reverse-reverse events) ∙ ap (λ (l : List Event). reverse l) told.2, told.3)

  pub tell_trees : TellTrees V s
  tell_trees = record { told = events_told; tells = document_tells V s }
