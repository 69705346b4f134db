-- The text of the events of a tree is the text of the tree.
use Rattle.std.proofs.Common.{◌≡◌, ℕ, Bool, List, [], ◌∷◌, ◌++◌, codes, reverse, refl, sym, ap, subst, ◌∙◌, append_assoc, append-nil}
use Rattle.std.proofs.lemmas.List.{reverse-reverse}
use Rattle.std.specs.List.{join_with_byte}
use Rattle.exi_schema.specs.declared.places.Place.{Place}
use Rattle.exi_schema.specs.declared.places.Root.TheVariants.{Kind}
use Rattle.exi_schema.specs.Schemas.{PlainSchema}
use Rattle.exi_schema.specs.Steps.{IsRoot}
use Rattle.exi_documents.specs.Documents.{Speller, first, name_of}
use Rattle.exi_documents.specs.Grammar.{Opened, AtRoot, Inside, State, start, opened, around, stands, Moves}
use Rattle.exi_documents.specs.Trees.{Value, Trees, none, simple, complex, Tree, Simple, Complex, alone, Event, Document, Start, Attribute, Content, EndElement, attribute_events, events_of, document_events}
use Rattle.exi_documents.specs.Values.{Entries}
use Rattle.exi_events.specs.Reader.{innermost_place}
use Rattle.document_laws.specs.Laws.{IsStanding}
use Rattle.document_laws.proofs.Runs.{reverse_with}
use Rattle.tree_text.specs.TreeText.{IsValueText, IsName, IsNamedText, AreAttributeTexts, AreTreeTexts, IsRootText, IsTreeText, braced}
use Rattle.tree_text.specs.EventText.{gap, closing, end_of, text_end, Adds, Tells}
use Rattle.tree_text.specs.declared.print.TextEnd.{TextEnd}
use Rattle.tree_text.specs.declared.print.TextEnd.TheVariants as ends
use Rattle.tree_text.proofs.Attributes.{one_attribute}
use Rattle.document_laws.proofs.Standings.{standing_kept}
use Rattle.tree_text.proofs.Spacing.{spaced, end_behind, part_behind, both_in_braces, braced_is}

-- events in their order, behind a text of such an end
abbrev pub TextRuns : Speller → PlainSchema → TextEnd → State → List Event → List ℕ → State → Type 0
TextRuns V s end old [] text new = (text ≡ []) × (new ≡ old)
TextRuns V s end old (event ∷ events) text new =
    (middle : State) × (bits : List Bool) × (front : List ℕ) × (rest : List ℕ)
    × Moves V s old event bits middle
    × Adds s end (innermost_place old.standing) event front
    × TextRuns V s (end_of event) middle events rest new
    × (text ≡ front ++ rest)

-- ---- lists regrouped

attribute_regroup : (g a p sp r : List ℕ) → ((g ++ a) ++ p) ++ (sp ++ r) ≡ ((g ++ (a ++ p)) ++ sp) ++ r
attribute_regroup g a p sp r = sym (append_assoc ((g ++ a) ++ p) sp r) ∙ ap (λ (l : List ℕ). (l ++ sp) ++ r) (append_assoc g a p)

simple_regroup : (g w e v sp r : List ℕ) → (g ++ w) ++ ((e ++ v) ++ (sp ++ r)) ≡ ((g ++ ((w ++ e) ++ v)) ++ sp) ++ r
simple_regroup g w e v sp r = simp append_assoc

complex_regroup : (g w b sp r : List ℕ) → (g ++ w) ++ (b ++ (sp ++ r)) ≡ ((g ++ (w ++ b)) ++ sp) ++ r
complex_regroup g w b sp r = simp append_assoc

children_regroup : (A C M L : List Event) (e : Event) → ((A ++ C) ++ (e ∷ M)) ++ L ≡ A ++ (C ++ (e ∷ (M ++ L)))
children_regroup A C M L e = append_assoc (A ++ C) (e ∷ M) L ∙ append_assoc A C (e ∷ (M ++ L))

module _ (V : Speller) (s : PlainSchema) where
  abbrev inside : ℕ → Place → List Opened → Entries → State
  inside name here above entries = stands (Inside (opened name here) above) entries

  -- at a place of the schema
  abbrev IsAt : State → Type 0
  IsAt state = IsStanding s state.standing

  -- what comes behind an event, in a state that is known
  behind : (old : State) (event : Event) (bits : List Bool) (middle state : State) → IsAt old → Moves V s old event bits middle → middle ≡ state → IsAt state
  behind old event bits middle state is m e = subst (λ (x : State). IsAt x) e (standing_kept V s old middle event bits is m)

  runs_from : (end : TextEnd) (middle state : State) (events : List Event) (rest : List ℕ) (new : State) → middle ≡ state → TextRuns V s end middle events rest new → TextRuns V s end state events rest new
  runs_from end middle state events rest new e r = subst (λ (x : State). TextRuns V s end x events rest new) e r

  -- behind a part the text ends with one
  behind_parts : (texts : List (List ℕ)) (old : State) (events : List Event) (text : List ℕ) (new : State) → TextRuns V s (end_behind ends.Part texts) old events text new → TextRuns V s ends.Part old events text new
  behind_parts texts old events text new r = subst (λ (end : TextEnd). TextRuns V s end old events text new) (part_behind texts) r

  -- ---- attributes

  record Attributes (end : TextEnd) (name : ℕ) (here : Place) (above : List Opened) (attributes : List (ℕ × Value)) (later : List Event) (text : List ℕ) (new : State) : Type 0 where
    pub there : Place
    pub entries : Entries
    pub texts : List (List ℕ)
    pub rest : List ℕ
    pub are : AreAttributeTexts s here attributes texts there
    pub is_state : IsAt (inside name there above entries)
    pub going : TextRuns V s (end_behind end texts) (inside name there above entries) later rest new
    pub text_is : text ≡ spaced end texts ++ rest

  attributes_told : (end : TextEnd) (name : ℕ) (here : Place) (above : List Opened) (entries : Entries) (attributes : List (ℕ × Value)) (later : List Event) (text : List ℕ) (new : State) →
      IsAt (inside name here above entries) → TextRuns V s end (inside name here above entries) (attribute_events attributes ++ later) text new → Attributes end name here above attributes later text new
  attributes_told end name here above entries [] later text new is r =
      record { there = here; entries = entries; texts = []; rest = text; are = (refl, refl); is_state = is; going = r; text_is = refl }
  attributes_told end name here above entries (attribute ∷ attributes) later text new is r =
      let m = r.4 in
      let next = m.next in
      let added = r.5 in
      let part = added.2 in
      let same = one_attribute s here attribute.0 added.0 m.kind added.1 next is.0 added.3 (m.starts.code, m.starts.offered) in
      let more = attributes_told ends.Part name next above m.after attributes later r.3 new (behind (inside name here above entries) (Attribute attribute.0 attribute.1) r.1 r.0 (inside name next above m.after) is m m.leads) (runs_from ends.Part r.0 (inside name next above m.after) (attribute_events attributes ++ later) r.3 new m.leads r.6) in
      record {
        there = more.there;
        entries = more.entries;
        texts = (codes "@" ++ part) ∷ more.texts;
        rest = more.rest;
        are = (m.kind, next, part, more.texts, (m.starts.code, m.starts.offered), subst (λ (k : ℕ). IsNamedText s attribute.0 k attribute.1 part) same.0 added.4, more.are, refl);
        is_state = more.is_state;
        going = behind_parts more.texts (inside name more.there above more.entries) later more.rest new more.going;
        text_is =
            r.7 ∙ ap (λ (l : List ℕ). l ++ r.3) added.5 ∙ ap (λ (l : List ℕ). ((gap end ++ codes "@") ++ part) ++ l) more.text_is
            ∙ attribute_regroup (gap end) (codes "@") part (spaced ends.Part more.texts) more.rest;
      }

  -- ---- what stands behind the start of an element

  -- its value and its end
  record Valued (kind : ℕ) (above : List Opened) (value : Value) (later : List Event) (text : List ℕ) (new : State) : Type 0 where
    pub said : List ℕ
    pub entries : Entries
    pub rest : List ℕ
    pub is_text : IsValueText s kind value said
    pub is_state : IsAt (stands (around above) entries)
    pub going : TextRuns V s ends.Part (stands (around above) entries) later rest new
    pub text_is : text ≡ (codes "=" ++ said) ++ rest

  value_told : (name kind : ℕ) (above : List Opened) (entries : Entries) (value : Value) (later : List Event) (text : List ℕ) (new : State) →
      IsAt (inside name (first kind) above entries) → TextRuns V s ends.Name (inside name (first kind) above entries) (Content value ∷ EndElement ∷ later) text new → Valued kind above value later text new
  value_told name kind above entries value later text new is r =
      let m = r.4 in
      let middle = inside name m.next above m.after in
      let is_middle = behind (inside name (first kind) above entries) (Content value) r.1 r.0 middle is m m.leads in
      let q = runs_from ends.Value r.0 middle (EndElement ∷ later) r.3 new m.leads r.6 in
      let end = q.4 in
      record {
        said = r.5.0;
        entries = m.after;
        rest = q.3;
        is_text = r.5.1;
        is_state = behind middle EndElement q.1 q.0 (stands (around above) m.after) is_middle end end.1;
        going = runs_from ends.Part q.0 (stands (around above) m.after) later q.3 new end.1 q.6;
        text_is = r.7 ∙ ap (λ (l : List ℕ). l ++ r.3) r.5.2 ∙ ap (λ (l : List ℕ). (codes "=" ++ r.5.0) ++ l) (q.7 ∙ ap (λ (l : List ℕ). l ++ q.3) q.5);
      }

  -- its end, behind other parts
  record Ended (end : TextEnd) (above : List Opened) (entries : Entries) (later : List Event) (text : List ℕ) (new : State) : Type 0 where
    pub rest : List ℕ
    pub is_state : IsAt (stands (around above) entries)
    pub going : TextRuns V s ends.Part (stands (around above) entries) later rest new
    pub text_is : text ≡ closing end ++ rest

  end_told : (end : TextEnd) (name : ℕ) (here : Place) (above : List Opened) (entries : Entries) (later : List Event) (text : List ℕ) (new : State) →
      IsAt (inside name here above entries) → TextRuns V s end (inside name here above entries) (EndElement ∷ later) text new → Ended end above entries later text new
  end_told end name here above entries later text new is r =
      let m = r.4 in
      record {
        rest = r.3;
        is_state = behind (inside name here above entries) EndElement r.1 r.0 (stands (around above) entries) is m m.1;
        going = runs_from ends.Part r.0 (stands (around above) entries) later r.3 new m.1 r.6;
        text_is = r.7 ∙ ap (λ (l : List ℕ). l ++ r.3) r.5;
      }

  -- ---- elements

  record Elements (end : TextEnd) (name : ℕ) (here : Place) (above : List Opened) (trees : Trees) (later : List Event) (text : List ℕ) (new : State) : Type 0 where
    pub there : Place
    pub entries : Entries
    pub texts : List (List ℕ)
    pub rest : List ℕ
    pub are : AreTreeTexts s here trees texts
    pub is_state : IsAt (inside name there above entries)
    pub going : TextRuns V s (end_behind end texts) (inside name there above entries) later rest new
    pub text_is : text ≡ spaced end texts ++ rest

  -- attributes and children behind the name of an element, and its end
  braced_told : (xs ys : List (List ℕ)) (text one two rest : List ℕ) → text ≡ spaced ends.Name xs ++ one → one ≡ spaced (end_behind ends.Name xs) ys ++ two →
      two ≡ closing (end_behind (end_behind ends.Name xs) ys) ++ rest → text ≡ (codes "{" ++ (join_with_byte 32 (xs ++ ys) ++ codes "}")) ++ rest
  braced_told xs ys text one two rest is inner last =
      let e = end_behind ends.Name xs in
      is ∙ ap (λ (l : List ℕ). spaced ends.Name xs ++ l) (inner ∙ ap (λ (l : List ℕ). spaced e ys ++ l) last)
      ∙ ap (λ (l : List ℕ). spaced ends.Name xs ++ l) (sym (append_assoc (spaced e ys) (closing (end_behind e ys)) rest))
      ∙ sym (append_assoc (spaced ends.Name xs) (spaced e ys ++ closing (end_behind e ys)) rest)
      ∙ ap (λ (l : List ℕ). l ++ rest) (both_in_braces xs ys)

  trees_told : (end : TextEnd) (name : ℕ) (here : Place) (above : List Opened) (entries : Entries) (trees : Trees) (later : List Event) (text : List ℕ) (new : State) →
      IsAt (inside name here above entries) → TextRuns V s end (inside name here above entries) (events_of trees ++ later) text new → Elements end name here above trees later text new
  trees_told end name here above entries none later text new is r =
      record { there = here; entries = entries; texts = []; rest = text; are = refl; is_state = is; going = r; text_is = refl }
  trees_told end name here above entries (simple child value more) later text new is r =
      let m = r.4 in
      let next = m.next in
      let word = r.5.0 in
      let begun = inside child (first m.kind) (opened name next ∷ above) entries in
      let v = value_told child m.kind (opened name next ∷ above) entries value (events_of more ++ later) r.3 new (behind (inside name here above entries) (Start child) r.1 r.0 begun is m m.leads) (runs_from ends.Name r.0 begun (Content value ∷ EndElement ∷ (events_of more ++ later)) r.3 new m.leads r.6) in
      let rest = trees_told ends.Part name next above v.entries more later v.rest new v.is_state v.going in
      record {
        there = rest.there;
        entries = rest.entries;
        texts = (word ++ codes "=" ++ v.said) ∷ rest.texts;
        rest = rest.rest;
        are = (m.kind, next, word ++ codes "=" ++ v.said, rest.texts, (m.starts.code, m.starts.offered), (word, v.said, r.5.1, v.is_text, refl), rest.are, refl);
        is_state = rest.is_state;
        going = behind_parts rest.texts (inside name rest.there above rest.entries) later rest.rest new rest.going;
        text_is =
            r.7 ∙ ap (λ (l : List ℕ). l ++ r.3) r.5.2 ∙ ap (λ (l : List ℕ). (gap end ++ word) ++ l) (v.text_is ∙ ap (λ (l : List ℕ). (codes "=" ++ v.said) ++ l) rest.text_is)
            ∙ simple_regroup (gap end) word (codes "=") v.said (spaced ends.Part rest.texts) rest.rest;
      }
  trees_told end name here above entries (complex child attributes children more) later text new is r =
      let m = r.4 in
      let next = m.next in
      let word = r.5.0 in
      let up = opened name next ∷ above in
      let begun = inside child (first m.kind) up entries in
      let behind_end = events_of more ++ later in
      let regrouped = children_regroup (attribute_events attributes) (events_of children) (events_of more) later EndElement in
      let runs : TextRuns V s ends.Name begun (attribute_events attributes ++ (events_of children ++ (EndElement ∷ behind_end))) r.3 new =
      subst (λ (l : List Event). TextRuns V s ends.Name begun l r.3 new) regrouped (runs_from ends.Name r.0 begun (((attribute_events attributes ++ events_of children) ++ (EndElement ∷ events_of more)) ++ later) r.3 new m.leads r.6) in
      let a = attributes_told ends.Name child (first m.kind) up entries attributes (events_of children ++ (EndElement ∷ behind_end)) r.3 new (behind (inside name here above entries) (Start child) r.1 r.0 begun is m m.leads) runs in
      let t = trees_told (end_behind ends.Name a.texts) child a.there up a.entries children (EndElement ∷ behind_end) a.rest new a.is_state a.going in
      let e = end_told (end_behind (end_behind ends.Name a.texts) t.texts) child t.there up t.entries behind_end t.rest new t.is_state t.going in
      let rest = trees_told ends.Part name next above t.entries more later e.rest new e.is_state e.going in
      let braces = codes "{" ++ (join_with_byte 32 (a.texts ++ t.texts) ++ codes "}") in
      let whole = braced_told a.texts t.texts r.3 a.rest t.rest e.rest a.text_is t.text_is e.text_is in
      record {
        there = rest.there;
        entries = rest.entries;
        texts = braced word (a.texts ++ t.texts) ∷ rest.texts;
        rest = rest.rest;
        are = (m.kind, next, a.there, word, a.texts, t.texts, rest.texts, (m.starts.code, m.starts.offered), r.5.1, a.are, t.are, rest.are, refl);
        is_state = rest.is_state;
        going = behind_parts rest.texts (inside name rest.there above rest.entries) later rest.rest new rest.going;
        text_is =
            r.7 ∙ ap (λ (l : List ℕ). l ++ r.3) r.5.2 ∙ ap (λ (l : List ℕ). (gap end ++ word) ++ l) (whole ∙ ap (λ (l : List ℕ). braces ++ l) rest.text_is)
            ∙ complex_regroup (gap end) word braces (spaced ends.Part rest.texts) rest.rest
            ∙ ap (λ (l : List ℕ). ((gap end ++ l) ++ spaced ends.Part rest.texts) ++ rest.rest) (sym (braced_is word (a.texts ++ t.texts)));
      }

  -- ---- the root

  -- its value
  simple_root : (kind name : ℕ) (word text : List ℕ) (value : Value) (new : State) → IsName s name word → Valued kind [] value [] text new → IsNamedText s name kind value (word ++ text)
  simple_root kind name word text value new named v =
      (word, v.said, named, v.is_text, ap (λ (l : List ℕ). word ++ l) (v.text_is ∙ ap (λ (l : List ℕ). (codes "=" ++ v.said) ++ l) v.going.0 ∙ append-nil (codes "=" ++ v.said)) ∙ sym (append_assoc word (codes "=") v.said))

  -- its attributes and children
  complex_root : (kind name : ℕ) (word text : List ℕ) (attributes : List (ℕ × Value)) (children : Trees) (entries : Entries) (new : State) → IsName s name word → IsAt (inside name (first kind) [] entries) →
      TextRuns V s ends.Name (inside name (first kind) [] entries) ((attribute_events attributes ++ events_of children) ++ (EndElement ∷ [])) text new → IsRootText s kind (Complex name attributes children) (word ++ text)
  complex_root kind name word text attributes children entries new named is r =
      let runs : TextRuns V s ends.Name (inside name (first kind) [] entries) (attribute_events attributes ++ (events_of children ++ (EndElement ∷ []))) text new =
      subst (λ (l : List Event). TextRuns V s ends.Name (inside name (first kind) [] entries) l text new) (append_assoc (attribute_events attributes) (events_of children) (EndElement ∷ [])) r in
      let a = attributes_told ends.Name name (first kind) [] entries attributes (events_of children ++ (EndElement ∷ [])) text new is runs in
      let t = trees_told (end_behind ends.Name a.texts) name a.there [] a.entries children (EndElement ∷ []) a.rest new a.is_state a.going in
      let e = end_told (end_behind (end_behind ends.Name a.texts) t.texts) name t.there [] t.entries [] t.rest new t.is_state t.going in
      let parts = a.texts ++ t.texts in
      let braces = codes "{" ++ (join_with_byte 32 parts ++ codes "}") in
      let whole : text ≡ braces = braced_told a.texts t.texts text a.rest t.rest e.rest a.text_is t.text_is e.text_is ∙ ap (λ (l : List ℕ). braces ++ l) e.going.0 ∙ append-nil braces in
      (a.there, word, a.texts, t.texts, named, a.are, t.are, ap (λ (l : List ℕ). word ++ l) whole ∙ sym (braced_is word parts))

  -- what is told behind the root's number is the root
  root_told : (kind name : ℕ) (tree : Tree) (text : List ℕ) (new : State) → IsAt (stands (AtRoot name kind) []) → TextRuns V s ends.Nothing (stands (AtRoot name kind) []) (events_of (alone tree)) text new →
      (name_of tree ≡ name) × IsRootText s kind tree text
  root_told kind name (Simple child value) text new is r =
      let m = r.4 in
      let begun = inside child (first kind) [] [] in
      let is_begun = behind (stands (AtRoot name kind) []) (Start child) r.1 r.0 begun is m m.2 in
      let v = value_told child kind [] [] value [] r.3 new is_begun (runs_from ends.Name r.0 begun (Content value ∷ EndElement ∷ []) r.3 new m.2 r.6) in
      (m.0, subst (λ (l : List ℕ). IsNamedText s child kind value l) (ap (λ (l : List ℕ). l ++ r.3) (sym r.5.2) ∙ sym r.7) (simple_root kind child r.5.0 r.3 value new r.5.1 v))
  root_told kind name (Complex child attributes children) text new is r =
      let m = r.4 in
      let begun = inside child (first kind) [] [] in
      let is_begun = behind (stands (AtRoot name kind) []) (Start child) r.1 r.0 begun is m m.2 in
      let runs = runs_from ends.Name r.0 begun ((attribute_events attributes ++ events_of children) ++ (EndElement ∷ [])) r.3 new m.2 r.6 in
      (m.0, subst (λ (l : List ℕ). IsRootText s kind (Complex child attributes children) l) (ap (λ (l : List ℕ). l ++ r.3) (sym r.5.2) ∙ sym r.7) (complex_root kind child r.5.0 r.3 attributes children [] new r.5.1 is_begun runs))

  tells_run : (old new : State) (events more : List Event) (a b : List ℕ) → Tells V s events a old → TextRuns V s (text_end events) old more b new → TextRuns V s ends.Nothing start (reverse events ++ more) (a ++ b) new
  tells_run old new [] more a b h r =
      subst (λ (l : List ℕ). TextRuns V s ends.Nothing start more (l ++ b) new) (sym h.0) (subst (λ (state : State). TextRuns V s ends.Nothing state more b new) h.1 r)
  tells_run old new (event ∷ events) more a b h r =
      let step : TextRuns V s (text_end events) h.0 (event ∷ more) (h.3 ++ b) new = (old, h.1, h.3, b, h.5, h.6, r, refl) in
      let whole = tells_run h.0 new events (event ∷ more) h.2 (h.3 ++ b) h.4 step in
      subst (λ (l : List Event). TextRuns V s ends.Nothing start l (a ++ b) new) (sym (reverse_with event events more))
      (subst (λ (l : List ℕ). TextRuns V s ends.Nothing start (reverse events ++ (event ∷ more)) l new) (sym (append_assoc h.2 h.3 b) ∙ ap (λ (l : List ℕ). l ++ b) (sym h.7)) whole)

  document_runs : (number : ℕ) (tree : Tree) (text : List ℕ) (new : State) → Tells V s (reverse (document_events number tree)) text new → TextRuns V s ends.Nothing start (document_events number tree) text new
  document_runs number tree text new h =
      subst (λ (l : List Event). TextRuns V s ends.Nothing start l text new) (append-nil (reverse (reverse (document_events number tree))) ∙ reverse-reverse (document_events number tree))
      (subst (λ (l : List ℕ). TextRuns V s ends.Nothing start (reverse (reverse (document_events number tree)) ++ []) l new) (append-nil text)
      (tells_run new new (reverse (document_events number tree)) [] text [] h (refl, refl)))

  pub document_told : (number : ℕ) (tree : Tree) (text : List ℕ) (new : State) → Tells V s (reverse (document_events number tree)) text new → IsTreeText s tree text
  document_told number tree text new h =
      let r = document_runs number tree text new h in
      let m = r.4 in
      let at_root = stands (AtRoot m.name m.kind) [] in
      let is = behind start (Document number) r.1 r.0 at_root tt m m.leads in
      let root = root_told m.kind m.name tree r.3 new is (runs_from ends.Nothing r.0 at_root (events_of (alone tree)) r.3 new m.leads r.6) in
      record {
        number = number;
        kind = m.kind;
        named = subst (λ (n : ℕ). IsRoot s.roots s.root_bits number (Kind n m.kind)) (sym root.0) m.named;
        written = subst (λ (l : List ℕ). IsRootText s m.kind tree l) (ap (λ (l : List ℕ). l ++ r.3) (sym r.5) ∙ sym r.7) root.1;
      }
