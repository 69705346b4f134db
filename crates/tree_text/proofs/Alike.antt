-- A text of a tree and the text of the dialect that says its events: where both stand behind one event. The dialect's text is ahead by the
-- character behind a name, and at the root by its name.
use Rattle.std.proofs.Common.{◌≡◌, ℕ, Bool, true, List, [], ◌∷◌, ◌++◌, codes, map, Option, Some, None, refl, sym, ap, ap₂, subst, ◌∙◌, append_assoc, append-nil, slice_get}
use Rattle.std.specs.List.{AllByRecursion}
use Rattle.exi_schema.specs.Schemas.{PlainSchema}
use Rattle.exi_schema.specs.declared.tables.Datatype.{Datatype}
use Rattle.exi_schema.specs.Plain.{PlainKind, valued, containing}
use Rattle.exi_schema.specs.declared.places.Place.{Place}
use Rattle.exi_schema.specs.declared.places.Step.{Step}
use Rattle.exi_schema.specs.declared.places.Step.TheVariants as step
use Rattle.exi_schema.specs.Offers.{offers}
use Rattle.exi_schema.specs.Steps.{datatype_of, simple_at}
use Rattle.exi_documents.specs.Trees.{Value, Event, Document, Start, Attribute, Content, EndElement}
use Rattle.exi_documents.specs.Values.{Entries}
use Rattle.exi_documents.specs.Documents.{Speller, element, first}
use Rattle.exi_documents.specs.Grammar.{Opened, Standing, Before, AtRoot, Inside, Behind, State, opened, around, stands, Moves}
use Rattle.exi_events.specs.Reader.{innermost_place}
use Rattle.document_laws.proofs.Fits.{one_root}
use Rattle.document_laws.proofs.Offered.{HasNoAttribute, HasNoValue, only_code, behind_element, behind_attribute, behind_characters}
use Rattle.dialect_text.specs.Dialect as dialect
use Rattle.dialect_text.specs.Dialect.{attribute_of, element_of, attribute_in, element_in, mark, mark_of, IsBeforeElements, IsValueOf, IsEndText}
use Rattle.dialect_text.specs.declared.elements.Filling.{Filling}
use Rattle.dialect_text.specs.declared.elements.Filling.TheVariants as fills
use Rattle.dialect_text.specs.declared.elements.OpenElement.{OpenElement}
use Rattle.tree_text.specs.TreeText.{IsValueText, IsName, IsOffered}
use Rattle.tree_text.specs.EventText.{gap, closing, end_of, Adds}
use Rattle.tree_text.specs.Consistent.{are_consistent}
use Rattle.tree_text.specs.declared.print.TextEnd.{TextEnd}
use Rattle.tree_text.specs.declared.print.TextEnd.TheVariants as ends
use Rattle.tree_text.proofs.Declared.{attribute_declared, element_declared, attribute_kind_kept, element_kind_kept, characters_kind_kept}

-- an element around the innermost one
abbrev pub outer_of : Opened → OpenElement
outer_of o = dialect.element o.place.kind fills.Elements

module _ (s : PlainSchema) where
  abbrev pub IsPartly : Filling → Place → Type 0
  IsPartly fills.Nothing here = ⊥
  IsPartly fills.Attributes here = Unit {0}
  IsPartly fills.Elements here = HasNoAttribute s.kinds here
  IsPartly fills.Value here = ⊥

  -- inside an element, behind such an end of the tree's text
  abbrev pub IsAlikeIn : TextEnd → Place → Filling → List ℕ → Type 0
  IsAlikeIn ends.Nothing here filling ahead = ⊥
  IsAlikeIn ends.Name here filling ahead = (filling ≡ fills.Nothing) × (here ≡ first here.kind) × (ahead ≡ mark s here.kind ∷ [])
  IsAlikeIn ends.Value here filling ahead =
      (filling ≡ fills.Value) × (offers s.kinds here ≡ step.End ∷ []) × ((d : Datatype) × (simple_at s.kinds here.kind ≡ Some d)) × (ahead ≡ [])
  IsAlikeIn ends.Part here filling ahead = IsPartly filling here × HasNoValue s.kinds here × (ahead ≡ [])

  -- nothing but elements and the end may follow
  abbrev pub IsOuter : Opened → Type 0
  IsOuter o = HasNoAttribute s.kinds o.place × HasNoValue s.kinds o.place

  abbrev pub IsAlike : TextEnd → Standing → dialect.Standing → List ℕ → Type 0
  IsAlike end Before said ahead = (said ≡ dialect.Before) × (ahead ≡ []) × (end ≡ ends.Nothing)
  IsAlike end (AtRoot name kind) said ahead =
      (word : List ℕ) × IsName s name word × (said ≡ dialect.AtRoot name kind) × (ahead ≡ word ++ (mark s kind ∷ [])) × (end ≡ ends.Nothing)
  IsAlike end (Inside top above) said ahead =
      (filling : Filling) × (said ≡ dialect.Within (dialect.element top.place.kind filling ∷ map outer_of above))
      × AllByRecursion IsOuter above × IsAlikeIn end top.place filling ahead
  IsAlike end Behind said ahead = (said ≡ dialect.Within []) × (ahead ≡ [])

  -- ---- what stands before an attribute and an element

  pub complex_of_element : (o : Option PlainKind) (name kind : ℕ) → element_in o name ≡ Some kind → mark_of o ≡ 123
  complex_of_element None name kind h = refl
  complex_of_element (Some (valued d)) name kind h = let wrong : None ≡ Some kind = h in absurd cc
  complex_of_element (Some (containing attributes particles)) name kind h = refl

  pub complex_of_attribute : (o : Option PlainKind) (name kind : ℕ) → attribute_in o name ≡ Some kind → mark_of o ≡ 123
  complex_of_attribute None name kind h = refl
  complex_of_attribute (Some (valued d)) name kind h = let wrong : None ≡ Some kind = h in absurd cc
  complex_of_attribute (Some (containing attributes particles)) name kind h = refl

  -- behind a value nothing is offered but the end
  pub end_alone : (here : Place) (x : Step) → offers s.kinds here ≡ step.End ∷ [] → IsOffered s here x → x ≡ step.End
  end_alone here x only h = (only_code step.End x h.0 (sym (ap (λ (l : List Step). slice_get l h.0) only) ∙ h.1)).0

  part_gap : (filling : Filling) (here : Place) → IsPartly filling here → dialect.gap filling ≡ codes " "
  part_gap fills.Nothing here h = absurd h
  part_gap fills.Attributes here h = refl
  part_gap fills.Elements here h = refl
  part_gap fills.Value here h = absurd h

  pub gaps : (end : TextEnd) (here : Place) (filling : Filling) (ahead : List ℕ) (x : Step) → IsAlikeIn end here filling ahead → mark s here.kind ≡ 123 → IsOffered s here x → (x ≡ step.End → ⊥) → ahead ++ dialect.gap filling ≡ gap end
  gaps ends.Nothing here filling ahead x is complex offered differs = absurd is
  gaps ends.Name here filling ahead x is complex offered differs =
      ap₂ (λ (l : List ℕ) (f : Filling). l ++ dialect.gap f) (is.2 ∙ ap (λ (n : ℕ). n ∷ []) complex) is.0
  gaps ends.Value here filling ahead x is complex offered differs = absurd (differs (end_alone here x is.1 offered))
  gaps ends.Part here filling ahead x is complex offered differs =
      ap (λ (l : List ℕ). l ++ dialect.gap filling) is.2 ∙ part_gap filling here is.0

  -- ---- elements that end

  pub around_alike : (above : List Opened) → AllByRecursion IsOuter above → IsAlike ends.Part (around above) (dialect.Within (map outer_of above)) []
  around_alike [] all = (refl, refl)
  around_alike (o ∷ above) all = (fills.Elements, refl, all.1, (all.0.0, all.0.1, refl))

-- ---- lists regrouped

pub start_regroup : (a d w m g : List ℕ) → a ++ d ≡ g → a ++ (d ++ (w ++ m)) ≡ (g ++ w) ++ m
start_regroup a d w m g e = sym (append_assoc a d (w ++ m)) ∙ ap (λ (l : List ℕ). l ++ (w ++ m)) e ∙ sym (append_assoc g w m)

pub attribute_regroup : (a d t w e v g : List ℕ) → a ++ d ≡ g → a ++ (d ++ (((t ++ w) ++ e) ++ v)) ≡ ((g ++ t) ++ ((w ++ e) ++ v)) ++ []
attribute_regroup a d t w e v g is =
    sym (append_assoc a d (((t ++ w) ++ e) ++ v)) ∙ ap (λ (l : List ℕ). l ++ (((t ++ w) ++ e) ++ v)) is ∙ flat
  where
    flat : g ++ (((t ++ w) ++ e) ++ v) ≡ ((g ++ t) ++ ((w ++ e) ++ v)) ++ []
    flat = simp (append_assoc, append-nil)

pub one_of : {X : Type 0} (o : Option X) (x y : X) → o ≡ Some x → o ≡ Some y → x ≡ y
one_of {X} o x y p q = let e : Some x ≡ Some y = sym p ∙ q in cc

-- ---- one event

module _ (V : Speller) (s : PlainSchema) (fits : are_consistent s.kinds ≡ true) where
  -- the dialect's event adds what the tree's does
  pub record Follows (before : TextEnd) (place : Option Place) (event : Event) (new : State) (ahead added : List ℕ) (after : dialect.Standing) : Type 0 where
    pub told : List ℕ
    pub next : List ℕ
    pub adds : Adds s before place event told
    pub alike : IsAlike s (end_of event) new.standing after next
    pub same : ahead ++ added ≡ told ++ next

  pub alike_by : (end : TextEnd) (new state : State) (after : dialect.Standing) (next : List ℕ) → new ≡ state → IsAlike s end state.standing after next → IsAlike s end new.standing after next
  alike_by end new state after next e is = subst (λ (x : State). IsAlike s end x.standing after next) (sym e) is

  at_start : (number : ℕ) (entries : Entries) (bits : List Bool) (new : State) (ahead added : List ℕ) (after : dialect.Standing) → ahead ≡ [] → Moves V s (stands Before entries) (Document number) bits new → dialect.OpensDocument s number added after →
      Follows ends.Nothing None (Document number) new ahead added after
  at_start number entries bits new ahead added after none m d =
      let one = one_root s number d.0 d.1 m.name m.kind d.2 m.named in
      let word = d.3.0 in
      record {
        told = [];
        next = added;
        adds = refl;
        alike = alike_by ends.Nothing new (stands (AtRoot m.name m.kind) entries) after added m.leads (
          word,
          subst (λ (n : ℕ). IsName s n word) one.0 d.3.1,
          d.4 ∙ ap₂ (λ (n k : ℕ). dialect.AtRoot n k) one.0 one.1,
          d.3.2 ∙ ap (λ (k : ℕ). word ++ (mark s k ∷ [])) one.1,
          refl,
        );
        same = ap (λ (l : List ℕ). l ++ added) none;
      }

  at_root : (root kind name : ℕ) (entries : Entries) (bits : List Bool) (new : State) (ahead added word : List ℕ) (after : dialect.Standing) → IsName s root word → ahead ≡ word ++ (mark s kind ∷ []) →
      Moves V s (stands (AtRoot root kind) entries) (Start name) bits new → dialect.OpensRoot root kind name added after → Follows ends.Nothing None (Start name) new ahead added after
  at_root root kind name entries bits new ahead added word after named ahead_is m d =
      record {
        told = word;
        next = mark s kind ∷ [];
        adds = (word, subst (λ (n : ℕ). IsName s n word) (sym m.0) named, refl);
        alike = alike_by ends.Name new (stands (Inside (opened name (first kind)) []) entries) after (mark s kind ∷ []) m.2 (fills.Nothing, d.2, tt, (refl, refl, refl));
        same = ap₂ (λ (x y : List ℕ). x ++ y) ahead_is d.1 ∙ append-nil (word ++ (mark s kind ∷ []));
      }

  within_start : (end : TextEnd) (top : Opened) (above : List Opened) (filling : Filling) (name : ℕ) (entries : Entries) (bits : List Bool) (new : State) (ahead added : List ℕ) (after : dialect.Standing) →
      AllByRecursion (IsOuter s) above → IsAlikeIn s end top.place filling ahead → Moves V s (stands (Inside top above) entries) (Start name) bits new →
      dialect.OpensElement s (dialect.element top.place.kind filling) (map outer_of above) name added after → Follows end (Some top.place) (Start name) new ahead added after
  within_start end top above filling name entries bits new ahead added after all is m d =
      let offered : IsOffered s top.place (element name m.kind m.next) = (m.starts.code, m.starts.offered) in
      let kind : d.0 ≡ m.kind = one_of (element_of s top.place.kind name) d.0 m.kind d.2 (element_declared s top.place m.next name m.kind fits offered) in
      let word = d.3.0 in
      let complex = complex_of_element s (slice_get s.kinds top.place.kind) name d.0 d.2 in
      let kept = element_kind_kept s top.place m.next name m.kind offered in
      record {
        told = gap end ++ word;
        next = mark s m.kind ∷ [];
        adds = (word, d.3.1, refl);
        alike = alike_by ends.Name new (stands (Inside (opened name (first m.kind)) (opened top.name m.next ∷ above)) entries) after (mark s m.kind ∷ []) m.leads (
          fills.Nothing,
          d.5 ∙ ap₂ (λ (k n : ℕ). dialect.Within (dialect.element k fills.Nothing ∷ dialect.element n fills.Elements ∷ map outer_of above)) kind (sym kept),
          (behind_element s.kinds top.place m.next name m.kind bits m.starts, all),
          (refl, refl, refl),
        );
        same = ap (λ (l : List ℕ). ahead ++ l) (d.4 ∙ ap (λ (l : List ℕ). dialect.gap filling ++ l) (d.3.2 ∙ ap (λ (k : ℕ). word ++ (mark s k ∷ [])) kind))
            ∙ start_regroup ahead (dialect.gap filling) word (mark s m.kind ∷ []) (gap end) (gaps s end top.place filling ahead (element name m.kind m.next) is complex offered (λ wrong. cc));
      }

  within_attribute : (end : TextEnd) (top : Opened) (above : List Opened) (filling : Filling) (name : ℕ) (value : Value) (entries : Entries) (bits : List Bool) (new : State) (ahead added : List ℕ) (after : dialect.Standing) →
      AllByRecursion (IsOuter s) above → IsAlikeIn s end top.place filling ahead → Moves V s (stands (Inside top above) entries) (Attribute name value) bits new →
      dialect.TakesAttribute s (dialect.element top.place.kind filling) (map outer_of above) name value added after → Follows end (Some top.place) (Attribute name value) new ahead added after
  within_attribute end top above filling name value entries bits new ahead added after all is m d =
      let x : Step = step.Attribute name m.kind m.next in
      let offered : IsOffered s top.place x = (m.starts.code, m.starts.offered) in
      let kind : d.0 ≡ m.kind = one_of (attribute_of s top.place.kind name) d.0 m.kind d.3 (attribute_declared s top.place m.next name m.kind fits offered) in
      let word = d.4.0 in
      let said = d.4.1 in
      let part = word ++ codes "=" ++ said in
      let complex = complex_of_attribute s (slice_get s.kinds top.place.kind) name d.0 d.3 in
      let kept = attribute_kind_kept s top.place m.next name m.kind offered in
      record {
        told = gap end ++ codes "@" ++ part;
        next = [];
        adds = (m.kind, m.next, part, offered, (word, said, d.4.2, subst (λ (k : ℕ). IsValueText s k value said) kind d.4.3.2.1, refl), refl);
        alike = alike_by ends.Part new (stands (Inside (opened top.name m.next) above) m.after) after [] m.leads (
          fills.Attributes,
          d.6 ∙ ap (λ (n : ℕ). dialect.Within (dialect.element n fills.Attributes ∷ map outer_of above)) (sym kept),
          all,
          (tt, behind_attribute s.kinds top.place m.next name m.kind m.code m.starts, refl),
        );
        same = ap (λ (l : List ℕ). ahead ++ l) (d.5 ∙ ap (λ (l : List ℕ). dialect.gap filling ++ l) d.4.4)
            ∙ attribute_regroup ahead (dialect.gap filling) (codes "@") word (codes "=") said (gap end) (gaps s end top.place filling ahead x is complex offered (λ wrong. cc));
      }

  -- a value stands behind the name of an element alone
  pub content_gap : (end : TextEnd) (here : Place) (filling : Filling) (ahead : List ℕ) (d : Datatype) → IsAlikeIn s end here filling ahead → filling ≡ fills.Nothing → simple_at s.kinds here.kind ≡ Some d → ahead ≡ codes "="
  content_gap ends.Nothing here filling ahead d is none simple = absurd is
  content_gap ends.Name here filling ahead d is none simple = is.2 ∙ ap (λ (n : ℕ). n ∷ []) (simple_mark (slice_get s.kinds here.kind) simple)
    where
      simple_mark : (o : Option PlainKind) → datatype_of o ≡ Some d → mark_of o ≡ 61
      simple_mark None h = let wrong : None ≡ Some d = h in absurd cc
      simple_mark (Some (valued e)) h = refl
      simple_mark (Some (containing attributes particles)) h = let wrong : None ≡ Some d = h in absurd cc
  content_gap ends.Value here filling ahead d is none simple = let wrong : fills.Value ≡ fills.Nothing = sym is.0 ∙ none in absurd cc
  content_gap ends.Part here filling ahead d is none simple = absurd (is.1 d simple)

  within_content : (end : TextEnd) (top : Opened) (above : List Opened) (filling : Filling) (value : Value) (entries : Entries) (bits : List Bool) (new : State) (ahead added : List ℕ) (after : dialect.Standing) →
      AllByRecursion (IsOuter s) above → IsAlikeIn s end top.place filling ahead → Moves V s (stands (Inside top above) entries) (Content value) bits new →
      dialect.TakesContent s (dialect.element top.place.kind filling) (map outer_of above) value added after → Follows end (Some top.place) (Content value) new ahead added after
  within_content end top above filling value entries bits new ahead added after all is m d =
      let offered : IsOffered s top.place (step.Characters m.next) = (m.starts.code, m.starts.offered) in
      let kept = characters_kind_kept s top.place m.next offered in
      record {
        told = codes "=" ++ added;
        next = [];
        adds = (added, d.1.2.1, refl);
        alike = alike_by ends.Value new (stands (Inside (opened top.name m.next) above) m.after) after [] m.leads (
          fills.Value,
          d.2 ∙ ap (λ (n : ℕ). dialect.Within (dialect.element n fills.Value ∷ map outer_of above)) (sym kept),
          all,
          (refl, (behind_characters s.kinds top.place m.next m.datatype m.code m.is_simple m.starts).1, (m.datatype, ap (λ (n : ℕ). simple_at s.kinds n) kept ∙ m.is_simple), refl),
        );
        same = ap (λ (l : List ℕ). l ++ added) (content_gap end top.place filling ahead m.datatype is d.0 m.is_simple) ∙ sym (append-nil (codes "=" ++ added));
      }

  -- the end of an element
  simple_end : (o : Option PlainKind) (d : Datatype) (filling : Filling) (added : List ℕ) → datatype_of o ≡ Some d → IsEndText o filling added → added ≡ []
  simple_end None d filling added h e = absurd e
  simple_end (Some (valued x)) d filling added h e = e.1
  simple_end (Some (containing attributes particles)) d filling added h e = let wrong : None ≡ Some d = h in absurd cc

  complex_end : (o : Option PlainKind) (filling : Filling) (added : List ℕ) → (filling ≡ fills.Value → ⊥) → IsEndText o filling added → (added ≡ codes "}") × (mark_of o ≡ 123)
  complex_end None filling added differs e = absurd e
  complex_end (Some (valued d)) filling added differs e = absurd (differs e.0)
  complex_end (Some (containing attributes particles)) filling added differs e = (e, refl)

  partly_no_value : (filling : Filling) (here : Place) → IsPartly s filling here → filling ≡ fills.Value → ⊥
  partly_no_value fills.Nothing here is e = is
  partly_no_value fills.Attributes here is e = cc
  partly_no_value fills.Elements here is e = cc
  partly_no_value fills.Value here is e = is

  end_gap : (end : TextEnd) (here : Place) (filling : Filling) (ahead added : List ℕ) → IsAlikeIn s end here filling ahead → IsEndText (slice_get s.kinds here.kind) filling added → ahead ++ added ≡ closing end
  end_gap ends.Nothing here filling ahead added is e = absurd is
  end_gap ends.Name here filling ahead added is e =
      let both = complex_end (slice_get s.kinds here.kind) filling added (λ wrong. let w : fills.Nothing ≡ fills.Value = sym is.0 ∙ wrong in cc) e in
      ap₂ (λ (x y : List ℕ). x ++ y) (is.2 ∙ ap (λ (n : ℕ). n ∷ []) both.1) both.0
  end_gap ends.Value here filling ahead added is e =
      ap₂ (λ (x y : List ℕ). x ++ y) is.3 (simple_end (slice_get s.kinds here.kind) is.2.0 filling added is.2.1 e)
  end_gap ends.Part here filling ahead added is e =
      ap₂ (λ (x y : List ℕ). x ++ y) is.2 (complex_end (slice_get s.kinds here.kind) filling added (partly_no_value filling here is.0) e).0

  within_end : (end : TextEnd) (top : Opened) (above : List Opened) (filling : Filling) (entries : Entries) (bits : List Bool) (new : State) (ahead added : List ℕ) (after : dialect.Standing) →
      AllByRecursion (IsOuter s) above → IsAlikeIn s end top.place filling ahead → Moves V s (stands (Inside top above) entries) EndElement bits new →
      dialect.ClosesElement s (dialect.element top.place.kind filling) (map outer_of above) added after → Follows end (Some top.place) EndElement new ahead added after
  within_end end top above filling entries bits new ahead added after all is m d =
      record {
        told = closing end;
        next = [];
        adds = refl;
        alike = alike_by ends.Part new (stands (around above) entries) after [] m.1
            (subst (λ (x : dialect.Standing). IsAlike s ends.Part (around above) x []) (sym d.1) (around_alike s above all));
        same = end_gap end top.place filling ahead added is d.0 ∙ sym (append-nil (closing end));
      }

  -- any event
  follows_at : (end : TextEnd) (standing : Standing) (entries : Entries) (event : Event) (bits : List Bool) (new : State) (ahead added : List ℕ) (said after : dialect.Standing) →
      IsAlike s end standing said ahead → Moves V s (stands standing entries) event bits new → dialect.Adds s said event added after → Follows end (innermost_place standing) event new ahead added after
  follows_at end Before entries (Document number) bits new ahead added said after is m d =
      let a = subst (λ (x : dialect.Standing). dialect.Adds s x (Document number) added after) is.0 d in
      subst (λ (e : TextEnd). Follows e None (Document number) new ahead added after) (sym is.2) (at_start number entries bits new ahead added after is.1 m a)
  follows_at end (AtRoot root kind) entries (Start name) bits new ahead added said after is m d =
      let a = subst (λ (x : dialect.Standing). dialect.Adds s x (Start name) added after) is.2 d in
      subst (λ (e : TextEnd). Follows e None (Start name) new ahead added after) (sym is.4) (at_root root kind name entries bits new ahead added is.0 after is.1 is.3 m a)
  follows_at end (Inside top above) entries (Start name) bits new ahead added said after is m d =
      let a = subst (λ (x : dialect.Standing). dialect.Adds s x (Start name) added after) is.1 d in
      within_start end top above is.0 name entries bits new ahead added after is.2 is.3 m a
  follows_at end (Inside top above) entries (Attribute name value) bits new ahead added said after is m d =
      let a = subst (λ (x : dialect.Standing). dialect.Adds s x (Attribute name value) added after) is.1 d in
      within_attribute end top above is.0 name value entries bits new ahead added after is.2 is.3 m a
  follows_at end (Inside top above) entries (Content value) bits new ahead added said after is m d =
      let a = subst (λ (x : dialect.Standing). dialect.Adds s x (Content value) added after) is.1 d in
      within_content end top above is.0 value entries bits new ahead added after is.2 is.3 m a
  follows_at end (Inside top above) entries EndElement bits new ahead added said after is m d =
      let a = subst (λ (x : dialect.Standing). dialect.Adds s x EndElement added after) is.1 d in
      within_end end top above is.0 entries bits new ahead added after is.2 is.3 m a
  follows_at end standing entries event bits new ahead added said after is m d = absurd m

  pub follows : (end : TextEnd) (old new : State) (event : Event) (bits : List Bool) (ahead added : List ℕ) (said after : dialect.Standing) →
      IsAlike s end old.standing said ahead → Moves V s old event bits new → dialect.Adds s said event added after → Follows end (innermost_place old.standing) event new ahead added after
  follows end old new event bits ahead added said after is m d = follows_at end old.standing old.entries event bits new ahead added said after is m d
