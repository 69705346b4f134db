-- What an event adds to the text of a tree it adds to a text of the dialect, if the values have the form of their datatypes.
use Rattle.std.proofs.Common.{◌≡◌, ℕ, Bool, true, List, [], ◌∷◌, ◌++◌, codes, map, Option, Some, None, refl, sym, ap, subst, ◌∙◌, append-nil, slice_get}
use Rattle.std.specs.List.{AllByRecursion}
use Rattle.exi_schema.specs.Schemas.{PlainSchema}
use Rattle.exi_schema.specs.declared.tables.Datatype.{Datatype}
use Rattle.exi_schema.specs.Plain.{PlainKind, valued, containing}
use Rattle.exi_schema.specs.declared.places.Place.{Place}
use Rattle.exi_schema.specs.declared.places.Step.{Step}
use Rattle.exi_schema.specs.declared.places.Step.TheVariants as step
use Rattle.exi_schema.specs.Offers.{simple_step, IsPlaceOf, IsPlace}
use Rattle.exi_schema.specs.Steps.{datatype_of, simple_at}
use Rattle.exi_documents.specs.Trees.{Value, Event, Document, Start, Attribute, Content, EndElement}
use Rattle.exi_documents.specs.Values.{Entries}
use Rattle.exi_documents.specs.Documents.{Speller, element, first}
use Rattle.exi_documents.specs.Grammar.{Opened, Standing, Before, AtRoot, Inside, State, opened, around, stands, Moves}
use Rattle.exi_events.specs.Reader.{innermost_place}
use Rattle.document_laws.specs.Laws.{IsStanding}
use Rattle.document_laws.proofs.Fits.{root_name}
use Rattle.document_laws.proofs.Offered.{only_code, offers_simple, behind_element, behind_attribute, behind_characters}
use Rattle.value_text.specs.ValueText.{IsOfForm}
use Rattle.dialect_text.specs.Dialect as dialect
use Rattle.dialect_text.specs.Dialect.{mark, mark_of, IsBeforeElements, IsEndText}
use Rattle.dialect_text.specs.declared.elements.Filling.{Filling}
use Rattle.dialect_text.specs.declared.elements.Filling.TheVariants as fills
use Rattle.tree_text.specs.TreeText.{IsValueText, IsName, IsOffered}
use Rattle.tree_text.specs.EventText.{gap, closing, end_of, Adds, AddsStart, AddsAttribute, AddsContent}
use Rattle.tree_text.specs.Consistent.{are_consistent}
use Rattle.tree_text.specs.declared.print.TextEnd.{TextEnd}
use Rattle.tree_text.specs.declared.print.TextEnd.TheVariants as ends
use Rattle.tree_text.proofs.Attributes.{one_attribute}
use Rattle.tree_text.proofs.Declared.{attribute_declared, element_declared, attribute_kind_kept, element_kind_kept, characters_kind_kept}
use Rattle.tree_text.proofs.Told.{found}
use Rattle.tree_text.proofs.Alike.{outer_of, IsAlikeIn, IsOuter, IsAlike, complex_of_element, complex_of_attribute, gaps, end_alone, around_alike, start_regroup, attribute_regroup, one_of, alike_by, content_gap}

-- values that are spelled have the form of their datatype
abbrev pub HasForm : Speller → PlainSchema → Type 0
HasForm V s =
    (kind name : ℕ) (d : Datatype) (entries after : Entries) (v : Value) (bits : List Bool) → simple_at s.kinds kind ≡ Some d → V d entries name v bits after → IsOfForm d v

module _ (V : Speller) (s : PlainSchema) (fits : are_consistent s.kinds ≡ true) (formed : HasForm V s) where
  pub record Leads (said : dialect.Standing) (event : Event) (new : State) (ahead told : List ℕ) : Type 0 where
    pub added : List ℕ
    pub after : dialect.Standing
    pub next : List ℕ
    pub adds : dialect.Adds s said event added after
    pub alike : IsAlike s (end_of event) new.standing after next
    pub same : ahead ++ added ≡ told ++ next

  at_start : (number : ℕ) (entries : Entries) (bits : List Bool) (new : State) (ahead told : List ℕ) → ahead ≡ [] → Moves V s (stands Before entries) (Document number) bits new → told ≡ [] → Leads dialect.Before (Document number) new ahead told
  at_start number entries bits new ahead told none m t =
      let word = found s.names m.name (root_name s number m.name m.kind m.named) in
      let added = word.0 ++ (mark s m.kind ∷ []) in
      record {
        added = added;
        after = dialect.AtRoot m.name m.kind;
        next = added;
        adds = (m.name, m.kind, m.named, (word.0, word.1, refl), refl);
        alike = alike_by V s fits ends.Nothing new (stands (AtRoot m.name m.kind) entries) (dialect.AtRoot m.name m.kind) added m.leads (word.0, word.1, refl, refl, refl);
        same = ap (λ (l : List ℕ). l ++ added) none ∙ ap (λ (l : List ℕ). l ++ added) (sym t);
      }

  at_root : (root kind name : ℕ) (entries : Entries) (bits : List Bool) (new : State) (ahead told word : List ℕ) → IsName s root word → ahead ≡ word ++ (mark s kind ∷ []) →
      Moves V s (stands (AtRoot root kind) entries) (Start name) bits new → AddsStart s ends.Nothing name told → Leads (dialect.AtRoot root kind) (Start name) new ahead told
  at_root root kind name entries bits new ahead told word named ahead_is m t =
      let after = dialect.Within (dialect.element kind fills.Nothing ∷ []) in
      let same : word ≡ t.0 = one_of (slice_get s.names name) word t.0 (subst (λ (n : ℕ). IsName s n word) (sym m.0) named) t.1 in
      record {
        added = [];
        after = after;
        next = mark s kind ∷ [];
        adds = (m.0, refl, refl);
        alike = alike_by V s fits ends.Name new (stands (Inside (opened name (first kind)) []) entries) after (mark s kind ∷ []) m.2 (fills.Nothing, refl, tt, (refl, refl, refl));
        same = append-nil ahead ∙ ahead_is ∙ ap (λ (l : List ℕ). l ++ (mark s kind ∷ [])) (same ∙ sym t.2);
      }

  within_start : (end : TextEnd) (top : Opened) (above : List Opened) (filling : Filling) (name : ℕ) (entries : Entries) (bits : List Bool) (new : State) (ahead told : List ℕ) →
      AllByRecursion (IsOuter s) above → IsAlikeIn s end top.place filling ahead → Moves V s (stands (Inside top above) entries) (Start name) bits new → AddsStart s end name told →
      Leads (dialect.Within (dialect.element top.place.kind filling ∷ map outer_of above)) (Start name) new ahead told
  within_start end top above filling name entries bits new ahead told all is m t =
      let offered : IsOffered s top.place (element name m.kind m.next) = (m.starts.code, m.starts.offered) in
      let declared = element_declared s top.place m.next name m.kind fits offered in
      let word = t.0 in
      let complex = complex_of_element s (slice_get s.kinds top.place.kind) name m.kind declared in
      let kept = element_kind_kept s top.place m.next name m.kind offered in
      let text = word ++ (mark s m.kind ∷ []) in
      let after = dialect.Within (dialect.element m.kind fills.Nothing ∷ dialect.element top.place.kind fills.Elements ∷ map outer_of above) in
      record {
        added = dialect.gap filling ++ text;
        after = after;
        next = mark s m.kind ∷ [];
        adds = (m.kind, text, declared, (word, t.1, refl), refl, refl);
        alike = alike_by V s fits ends.Name new (stands (Inside (opened name (first m.kind)) (opened top.name m.next ∷ above)) entries) after (mark s m.kind ∷ []) m.leads (
          fills.Nothing,
          ap (λ (n : ℕ). dialect.Within (dialect.element m.kind fills.Nothing ∷ dialect.element n fills.Elements ∷ map outer_of above)) (sym kept),
          (behind_element s.kinds top.place m.next name m.kind bits m.starts, all),
          (refl, refl, refl),
        );
        same = start_regroup ahead (dialect.gap filling) word (mark s m.kind ∷ []) (gap end) (gaps s end top.place filling ahead (element name m.kind m.next) is complex offered (λ wrong. cc))
            ∙ ap (λ (l : List ℕ). l ++ (mark s m.kind ∷ [])) (sym t.2);
      }

  -- an attribute is offered before elements alone
  before_elements : (end : TextEnd) (here : Place) (filling : Filling) (ahead : List ℕ) (name kind : ℕ) (next : Place) → IsAlikeIn s end here filling ahead → IsOffered s here (step.Attribute name kind next) → IsBeforeElements filling
  before_elements ends.Nothing here filling ahead name kind next is offered = absurd is
  before_elements ends.Name here filling ahead name kind next is offered = subst (λ (f : Filling). IsBeforeElements f) (sym is.0) tt
  before_elements ends.Value here filling ahead name kind next is offered =
      let wrong = end_alone s here (step.Attribute name kind next) is.1 offered in absurd cc
  before_elements ends.Part here fills.Nothing ahead name kind next is offered = absurd is.0
  before_elements ends.Part here fills.Attributes ahead name kind next is offered = tt
  before_elements ends.Part here fills.Elements ahead name kind next is offered = absurd (is.0 offered.0 name kind next offered.1)
  before_elements ends.Part here fills.Value ahead name kind next is offered = absurd is.0

  within_attribute : (end : TextEnd) (top : Opened) (above : List Opened) (filling : Filling) (name : ℕ) (value : Value) (entries : Entries) (bits : List Bool) (new : State) (ahead told : List ℕ) → IsPlace s.kinds top.place →
      AllByRecursion (IsOuter s) above → IsAlikeIn s end top.place filling ahead → Moves V s (stands (Inside top above) entries) (Attribute name value) bits new → AddsAttribute s end top.place name value told →
      Leads (dialect.Within (dialect.element top.place.kind filling ∷ map outer_of above)) (Attribute name value) new ahead told
  within_attribute end top above filling name value entries bits new ahead told at all is m t =
      let x : Step = step.Attribute name m.kind m.next in
      let offered : IsOffered s top.place x = (m.starts.code, m.starts.offered) in
      let declared = attribute_declared s top.place m.next name m.kind fits offered in
      let kind : t.0 ≡ m.kind = (one_attribute s top.place name t.0 m.kind t.1 m.next at t.3 offered).0 in
      let word = t.4.0 in
      let said = t.4.1 in
      let text = codes "@" ++ word ++ codes "=" ++ said in
      let complex = complex_of_attribute s (slice_get s.kinds top.place.kind) name m.kind declared in
      let kept = attribute_kind_kept s top.place m.next name m.kind offered in
      let after = dialect.Within (dialect.element top.place.kind fills.Attributes ∷ map outer_of above) in
      record {
        added = dialect.gap filling ++ text;
        after = after;
        next = [];
        adds = (
          m.kind,
          text,
          before_elements end top.place filling ahead name m.kind m.next is offered,
          declared,
          (word, said, t.4.2, (m.datatype, m.is_simple, (formed m.kind name m.datatype entries m.after value m.inside m.is_simple m.spelled, subst (λ (k : ℕ). IsValueText s k value said) kind t.4.3)), refl),
          refl,
          refl,
        );
        alike = alike_by V s fits ends.Part new (stands (Inside (opened top.name m.next) above) m.after) after [] m.leads (
          fills.Attributes,
          ap (λ (n : ℕ). dialect.Within (dialect.element n fills.Attributes ∷ map outer_of above)) (sym kept),
          all,
          (tt, behind_attribute s.kinds top.place m.next name m.kind m.code m.starts, refl),
        );
        same = attribute_regroup ahead (dialect.gap filling) (codes "@") word (codes "=") said (gap end) (gaps s end top.place filling ahead x is complex offered (λ wrong. cc))
            ∙ ap (λ (l : List ℕ). l ++ []) (ap (λ (l : List ℕ). gap end ++ codes "@" ++ l) (sym t.4.4) ∙ sym t.5);
      }

  -- a value is offered behind the name of an element alone
  before_value : (end : TextEnd) (here : Place) (filling : Filling) (ahead : List ℕ) (d : Datatype) (next : Place) → IsAlikeIn s end here filling ahead → simple_at s.kinds here.kind ≡ Some d → IsOffered s here (step.Characters next) → filling ≡ fills.Nothing
  before_value ends.Nothing here filling ahead d next is simple offered = absurd is
  before_value ends.Name here filling ahead d next is simple offered = is.0
  before_value ends.Value here filling ahead d next is simple offered = let wrong = end_alone s here (step.Characters next) is.1 offered in absurd cc
  before_value ends.Part here filling ahead d next is simple offered = absurd (is.1 d simple)

  within_content : (end : TextEnd) (top : Opened) (above : List Opened) (filling : Filling) (value : Value) (entries : Entries) (bits : List Bool) (new : State) (ahead told : List ℕ) →
      AllByRecursion (IsOuter s) above → IsAlikeIn s end top.place filling ahead → Moves V s (stands (Inside top above) entries) (Content value) bits new → AddsContent s top.place value told →
      Leads (dialect.Within (dialect.element top.place.kind filling ∷ map outer_of above)) (Content value) new ahead told
  within_content end top above filling value entries bits new ahead told all is m t =
      let offered : IsOffered s top.place (step.Characters m.next) = (m.starts.code, m.starts.offered) in
      let kept = characters_kind_kept s top.place m.next offered in
      let none = before_value end top.place filling ahead m.datatype m.next is m.is_simple offered in
      let after = dialect.Within (dialect.element top.place.kind fills.Value ∷ map outer_of above) in
      record {
        added = t.0;
        after = after;
        next = [];
        adds = (none, (m.datatype, m.is_simple, (formed top.place.kind top.name m.datatype entries m.after value m.inside m.is_simple m.spelled, t.1)), refl);
        alike = alike_by V s fits ends.Value new (stands (Inside (opened top.name m.next) above) m.after) after [] m.leads (
          fills.Value,
          ap (λ (n : ℕ). dialect.Within (dialect.element n fills.Value ∷ map outer_of above)) (sym kept),
          all,
          (refl, (behind_characters s.kinds top.place m.next m.datatype m.code m.is_simple m.starts).1, (m.datatype, ap (λ (n : ℕ). simple_at s.kinds n) kept ∙ m.is_simple), refl),
        );
        same = ap (λ (l : List ℕ). l ++ t.0) (content_gap V s fits end top.place filling ahead m.datatype is none m.is_simple) ∙ sym t.2 ∙ sym (append-nil told);
      }

  -- the end of an element
  no_end_first : (here : Place) (d : Datatype) → here ≡ first here.kind → simple_at s.kinds here.kind ≡ Some d → IsOffered s here step.End → ⊥
  no_end_first here d is simple offered =
      let only = offers_simple s.kinds (first here.kind) d simple in
      let there : IsOffered s (first here.kind) step.End = subst (λ (p : Place). IsOffered s p step.End) is offered in
      let wrong : step.End ≡ simple_step (first here.kind) = (only_code (simple_step (first here.kind)) step.End there.0 (sym (ap (λ (l : List Step). slice_get l there.0) only) ∙ there.1)).0 in
      cc

  end_in : (o : Option PlainKind) (end : TextEnd) (here : Place) (filling : Filling) (ahead : List ℕ) → slice_get s.kinds here.kind ≡ o → IsPlaceOf here o → IsAlikeIn s end here filling ahead → IsOffered s here step.End →
      (added : List ℕ) × IsEndText o filling added × (ahead ++ added ≡ closing end)
  end_in None end here filling ahead o at is offered = absurd at
  end_in (Some (valued d)) ends.Nothing here filling ahead o at is offered = absurd is
  end_in (Some (valued d)) ends.Name here filling ahead o at is offered = absurd (no_end_first here d is.1 (ap datatype_of o) offered)
  end_in (Some (valued d)) ends.Value here filling ahead o at is offered = ([], (is.0, refl), append-nil ahead ∙ is.3)
  end_in (Some (valued d)) ends.Part here filling ahead o at is offered = absurd (is.1 d (ap datatype_of o))
  end_in (Some (containing attributes particles)) ends.Nothing here filling ahead o at is offered = absurd is
  end_in (Some (containing attributes particles)) ends.Name here filling ahead o at is offered =
      (codes "}", refl, ap (λ (l : List ℕ). l ++ codes "}") (is.2 ∙ ap (λ (n : ℕ). n ∷ []) (ap mark_of o)))
  end_in (Some (containing attributes particles)) ends.Value here filling ahead o at is offered =
      let wrong : None ≡ Some is.2.0 = sym (ap datatype_of o) ∙ is.2.1 in absurd cc
  end_in (Some (containing attributes particles)) ends.Part here filling ahead o at is offered =
      (codes "}", refl, ap (λ (l : List ℕ). l ++ codes "}") is.2)

  within_end : (end : TextEnd) (top : Opened) (above : List Opened) (filling : Filling) (entries : Entries) (bits : List Bool) (new : State) (ahead told : List ℕ) → IsPlace s.kinds top.place →
      AllByRecursion (IsOuter s) above → IsAlikeIn s end top.place filling ahead → Moves V s (stands (Inside top above) entries) EndElement bits new → told ≡ closing end →
      Leads (dialect.Within (dialect.element top.place.kind filling ∷ map outer_of above)) EndElement new ahead told
  within_end end top above filling entries bits new ahead told at all is m t =
      let e = end_in (slice_get s.kinds top.place.kind) end top.place filling ahead refl at is (m.0.code, m.0.offered) in
      record {
        added = e.0;
        after = dialect.Within (map outer_of above);
        next = [];
        adds = (e.1, refl);
        alike = alike_by V s fits ends.Part new (stands (around above) entries) (dialect.Within (map outer_of above)) [] m.1 (around_alike s above all);
        same = e.2 ∙ sym t ∙ sym (append-nil told);
      }

  said_by : (said other : dialect.Standing) (event : Event) (new : State) (ahead told : List ℕ) → said ≡ other → Leads other event new ahead told → Leads said event new ahead told
  said_by said other event new ahead told e l = subst (λ (x : dialect.Standing). Leads x event new ahead told) (sym e) l

  -- any event
  leads_at : (end : TextEnd) (standing : Standing) (entries : Entries) (event : Event) (bits : List Bool) (new : State) (ahead told : List ℕ) (said : dialect.Standing) → IsStanding s standing →
      IsAlike s end standing said ahead → Moves V s (stands standing entries) event bits new → Adds s end (innermost_place standing) event told → Leads said event new ahead told
  leads_at end Before entries (Document number) bits new ahead told said at is m t =
      said_by said dialect.Before (Document number) new ahead told is.0 (at_start number entries bits new ahead told is.1 m t)
  leads_at end (AtRoot root kind) entries (Start name) bits new ahead told said at is m t =
      let a = subst (λ (e : TextEnd). AddsStart s e name told) is.4 t in
      said_by said (dialect.AtRoot root kind) (Start name) new ahead told is.2 (at_root root kind name entries bits new ahead told is.0 is.1 is.3 m a)
  leads_at end (Inside top above) entries (Start name) bits new ahead told said at is m t =
      said_by said _ (Start name) new ahead told is.1 (within_start end top above is.0 name entries bits new ahead told is.2 is.3 m t)
  leads_at end (Inside top above) entries (Attribute name value) bits new ahead told said at is m t =
      said_by said _ (Attribute name value) new ahead told is.1 (within_attribute end top above is.0 name value entries bits new ahead told at.0 is.2 is.3 m t)
  leads_at end (Inside top above) entries (Content value) bits new ahead told said at is m t =
      said_by said _ (Content value) new ahead told is.1 (within_content end top above is.0 value entries bits new ahead told is.2 is.3 m t)
  leads_at end (Inside top above) entries EndElement bits new ahead told said at is m t =
      said_by said _ EndElement new ahead told is.1 (within_end end top above is.0 entries bits new ahead told at.0 is.2 is.3 m t)
  leads_at end standing entries event bits new ahead told said at is m t = absurd m

  pub leads : (end : TextEnd) (old new : State) (event : Event) (bits : List Bool) (ahead told : List ℕ) (said : dialect.Standing) → IsStanding s old.standing →
      IsAlike s end old.standing said ahead → Moves V s old event bits new → Adds s end (innermost_place old.standing) event told → Leads said event new ahead told
  leads end old new event bits ahead told said at is m t = leads_at end old.standing old.entries event bits new ahead told said at is m t
