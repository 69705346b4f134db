-- Events in their order, each with its move; those of a tree lead behind it.
use Rattle.std.proofs.Common.{◌≡◌, ℕ, Bool, List, [], ◌∷◌, ◌++◌, reverse, refl, sym, ap, subst, ◌∙◌, append_assoc, append-nil}
use Rattle.std.proofs.lemmas.List.{reverse-append}
use Rattle.exi_spec.specs.Bits.{number_bits}
use Rattle.exi_schema.specs.declared.places.Place.{Place}
use Rattle.exi_schema.specs.declared.places.Step.TheVariants.{End, Characters}
use Rattle.exi_schema.specs.Schemas.{PlainSchema}
use Rattle.exi_documents.specs.Trees.{Value, Trees, none, simple, complex, Tree, Simple, Complex, Event, Document, Start, Content, EndElement, attribute_events, events_of, document_events}
use Rattle.exi_documents.specs.Values.{Entries}
use Rattle.exi_documents.specs.Documents.{Speller, SpellsSimple, SpellsAttributes, SpellsTrees, SpellsDocument, first, header}
use Rattle.exi_documents.specs.Grammar.{Opened, AtRoot, Inside, Behind, State, start, opened, around, stands, Moves, Reaches}
use Rattle.document_laws.specs.Laws.{IsToldBy}
use Rattle.document_laws.proofs.Offered.{offers_simple, one_offered}

abbrev pub Runs : Speller → PlainSchema → State → List Event → List Bool → State → Type 0
Runs V s old [] bits new = (bits ≡ []) × (new ≡ old)
Runs V s old (event ∷ events) bits new =
    (middle : State) × (front : List Bool) × (rest : List Bool)
    × Moves V s old event front middle
    × Runs V s middle events rest new
    × (bits ≡ front ++ rest)

-- a list around an event, regrouped
regroup : {X : Type 0} (a c m f : List X) (e : X) → ((a ++ c) ++ (e ∷ m)) ++ f ≡ a ++ ((c ++ (e ∷ [])) ++ (m ++ f))
regroup {X} a c m f e =
    append_assoc (a ++ c) (e ∷ m) f ∙ append_assoc a c (e ∷ (m ++ f)) ∙ ap (λ (l : List X). a ++ l) (sym (append_assoc c (e ∷ []) (m ++ f)))

pub reverse_with : {X : Type 0} (x : X) (xs ys : List X) → reverse (x ∷ xs) ++ ys ≡ reverse xs ++ (x ∷ ys)
reverse_with {X} x xs ys = ap (λ (l : List X). l ++ ys) (reverse-append (x ∷ []) xs) ∙ append_assoc (reverse xs) (x ∷ []) ys

module _ (V : Speller) (s : PlainSchema) where
  pub runs_both : (old middle new : State) (xs ys : List Event) (a b : List Bool) → Runs V s old xs a middle → Runs V s middle ys b new → Runs V s old (xs ++ ys) (a ++ b) new
  runs_both old middle new [] ys a b r q =
      subst (λ (l : List Bool). Runs V s old ys (l ++ b) new) (sym r.0) (subst (λ (state : State). Runs V s state ys b new) r.1 q)
  runs_both old middle new (x ∷ xs) ys a b r q =
      (r.0, r.1, r.2 ++ b, r.3, runs_both r.0 middle new xs ys r.2 b r.4 q, ap (λ (l : List Bool). l ++ b) r.5 ∙ append_assoc r.1 r.2 b)

  pub reaches_runs : (old new : State) (events more : List Event) (a b : List Bool) → Reaches V s events a old → Runs V s old more b new → Reaches V s (reverse more ++ events) (a ++ b) new
  reaches_runs old new events [] a b h r =
      subst (λ (state : State). Reaches V s events (a ++ b) state) (sym r.1)
      (subst (λ (l : List Bool). Reaches V s events l old) (sym (append-nil a) ∙ ap (λ (l : List Bool). a ++ l) (sym r.0)) h)
  reaches_runs old new events (event ∷ more) a b h r =
      let step : Reaches V s (event ∷ events) (a ++ r.1) r.0 = (old, a, r.1, h, r.3, refl) in
      let later = reaches_runs r.0 new (event ∷ events) more (a ++ r.1) r.2 step r.4 in
      subst (λ (l : List Event). Reaches V s l (a ++ b) new) (sym (reverse_with event more events))
      (subst (λ (l : List Bool). Reaches V s (reverse more ++ (event ∷ events)) l new) (append_assoc a r.1 r.2 ∙ ap (λ (l : List Bool). a ++ l) (sym r.5)) later)

  pub runs_reached : (old new : State) (events more : List Event) (a b : List Bool) → Reaches V s events a old → Runs V s old more b new → Runs V s start (reverse events ++ more) (a ++ b) new
  runs_reached old new [] more a b h r =
      subst (λ (l : List Bool). Runs V s start more (l ++ b) new) (sym h.0) (subst (λ (state : State). Runs V s state more b new) h.1 r)
  runs_reached old new (event ∷ events) more a b h r =
      let step : Runs V s h.0 (event ∷ more) (h.2 ++ b) new = (old, h.2, b, h.4, r, refl) in
      let whole = runs_reached h.0 new events (event ∷ more) h.1 (h.2 ++ b) h.3 step in
      subst (λ (l : List Event). Runs V s start l (a ++ b) new) (sym (reverse_with event events more))
      (subst (λ (l : List Bool). Runs V s start (reverse events ++ (event ∷ more)) l new) (sym (append_assoc h.1 h.2 b) ∙ ap (λ (l : List Bool). l ++ b) (sym h.5)) whole)

  pub from_start : (new : State) (events : List Event) (bits : List Bool) → Runs V s start events bits new → Reaches V s (reverse events) bits new
  from_start new events bits r =
      subst (λ (l : List Event). Reaches V s l bits new) (append-nil (reverse events)) (reaches_runs start new [] events [] bits (refl, refl) r)

  pub to_start : (new : State) (events : List Event) (bits : List Bool) → Reaches V s events bits new → Runs V s start (reverse events) bits new
  to_start new events bits h =
      subst (λ (l : List Event). Runs V s start l bits new) (append-nil (reverse events))
      (subst (λ (l : List Bool). Runs V s start (reverse events ++ []) l new) (append-nil bits) (runs_reached new new events [] bits [] h (refl, refl)))

  -- ---- the events of a tree

  pub simple_runs : (name kind : ℕ) (above : List Opened) (entries after : Entries) (value : Value) (bits : List Bool) → SpellsSimple V s.kinds kind entries name value bits after →
      Runs V s (stands (Inside (opened name (first kind)) above) entries) (Content value ∷ EndElement ∷ []) bits (stands (around above) after)
  simple_runs name kind above entries after value bits h =
      let one = number_bits 1 0 in
      let there : Place = record { kind = kind; particle = 1; copies = 0; attributes = 0 } in (
        stands (Inside (opened name there) above) after,
        one ++ h.inside,
        one,
        record {
          next = there;
          datatype = h.datatype;
          after = after;
          code = one;
          inside = h.inside;
          starts = one_offered s.kinds (first kind) (Characters there) (offers_simple s.kinds (first kind) h.datatype h.is_simple);
          is_simple = h.is_simple;
          spelled = h.spelled;
          bits_are = refl;
          leads = refl;
        },
        (stands (around above) after, one, [], (one_offered s.kinds there End (offers_simple s.kinds there h.datatype h.is_simple), refl), (refl, refl), sym (append-nil one)),
        h.bits_are ∙ sym (append_assoc one h.inside one),
      )

  pub attributes_run : (name : ℕ) (above : List Opened) (here there : Place) (entries after : Entries) (attributes : List (ℕ × Value)) (bits : List Bool) → SpellsAttributes V s.kinds here entries attributes bits there after →
      Runs V s (stands (Inside (opened name here) above) entries) (attribute_events attributes) bits (stands (Inside (opened name there) above) after)
  attributes_run name above here there entries after [] bits h =
      (h.0, ap (λ (p : Place). stands (Inside (opened name p) above) after) h.1 ∙ ap (λ (e : Entries). stands (Inside (opened name here) above) e) h.2)
  attributes_run name above here there entries after (attribute ∷ attributes) bits h = (
    stands (Inside (opened name h.next) above) h.middle,
    h.code ++ h.inside,
    h.rest,
    record {
      kind = h.kind;
      next = h.next;
      datatype = h.datatype;
      after = h.middle;
      code = h.code;
      inside = h.inside;
      starts = h.starts;
      is_simple = h.is_simple;
      spelled = h.spelled;
      bits_are = refl;
      leads = refl;
    },
    attributes_run name above h.next there h.middle after attributes h.rest h.behind,
    h.bits_are ∙ sym (append_assoc h.code h.inside h.rest),
  )

  pub trees_run : (name : ℕ) (above : List Opened) (here : Place) (entries after : Entries) (trees : Trees) (bits : List Bool) → SpellsTrees V s.kinds here entries trees bits after →
      Runs V s (stands (Inside (opened name here) above) entries) (events_of trees ++ (EndElement ∷ [])) bits (stands (around above) after)
  trees_run name above here entries after none bits h =
      (stands (around above) after, bits, [], (h.0, ap (λ (e : Entries). stands (around above) e) h.1), (refl, refl), sym (append-nil bits))
  trees_run name above here entries after (simple child value more) bits h =
      let inside = stands (Inside (opened child (first h.kind)) (opened name h.next ∷ above)) entries in (
        inside,
        h.code,
        h.inside ++ h.rest,
        record { kind = h.kind; next = h.next; starts = h.starts; leads = refl },
        runs_both inside (stands (Inside (opened name h.next) above) h.middle) (stands (around above) after) (Content value ∷ EndElement ∷ []) (events_of more ++ (EndElement ∷ [])) h.inside h.rest
            (simple_runs child h.kind (opened name h.next ∷ above) entries h.middle value h.inside h.spelled)
            (trees_run name above h.next h.middle after more h.rest h.behind),
        h.bits_are,
      )
  trees_run name above here entries after (complex child attributes children more) bits h =
      let c = h.spelled in
      let inside = stands (Inside (opened child (first h.kind)) (opened name h.next ∷ above)) entries in
      let new = stands (around above) after in
      let begun = stands (Inside (opened child c.there) (opened name h.next ∷ above)) c.within in
      let later = stands (Inside (opened name h.next) above) h.middle in
      let own = attribute_events attributes in
      let inner = events_of children ++ (EndElement ∷ []) in
      let outer = events_of more ++ (EndElement ∷ []) in
      let whole : c.front ++ (c.inside ++ h.rest) ≡ h.inside ++ h.rest = sym (append_assoc c.front c.inside h.rest) ∙ ap (λ (l : List Bool). l ++ h.rest) (sym c.bits_are) in (
        inside,
        h.code,
        h.inside ++ h.rest,
        record { kind = h.kind; next = h.next; starts = h.starts; leads = refl },
        subst (λ (l : List Event). Runs V s inside l (h.inside ++ h.rest) new) (sym (regroup own (events_of children) (events_of more) (EndElement ∷ []) EndElement))
            (subst (λ (l : List Bool). Runs V s inside (own ++ (inner ++ outer)) l new) whole
            (runs_both inside begun new own (inner ++ outer) c.front (c.inside ++ h.rest)
            (attributes_run child (opened name h.next ∷ above) (first h.kind) c.there entries c.within attributes c.front c.begun)
            (runs_both begun later new inner outer c.inside h.rest
            (trees_run child (opened name h.next ∷ above) c.there c.within h.middle children c.inside c.ended)
            (trees_run name above h.next h.middle after more h.rest h.behind)))),
        h.bits_are,
      )

  -- the header and the number, and the root's start
  root_runs : (number name kind : ℕ) (events : List Event) (bits front inside : List Bool) (new : State) →
      Moves V s start (Document number) (header ++ front) (stands (AtRoot name kind) []) → Runs V s (stands (Inside (opened name (first kind)) []) []) events inside new → bits ≡ header ++ (front ++ inside) →
      Runs V s start (Document number ∷ Start name ∷ events) bits new
  root_runs number name kind events bits front inside new move r are = (
    stands (AtRoot name kind) [],
    header ++ front,
    inside,
    move,
    (stands (Inside (opened name (first kind)) []) [], [], inside, (refl, refl, refl), r, refl),
    are ∙ sym (append_assoc header front inside),
  )

  pub document_runs : (number : ℕ) (tree : Tree) (bits : List Bool) (d : SpellsDocument V s number tree bits) → Runs V s start (document_events number tree) bits (stands Behind d.after)
  document_runs number (Simple name value) bits d =
      root_runs number name d.kind (Content value ∷ EndElement ∷ []) bits d.front d.inside (stands Behind d.after)
      (record { name = name; kind = d.kind; front = d.front; named = d.named; numbered = d.numbered; bits_are = refl; leads = refl }) (simple_runs name d.kind [] [] d.after value d.inside d.spelled) d.bits_are
  document_runs number (Complex name attributes children) bits d =
      let h = d.spelled in
      let inside = stands (Inside (opened name (first d.kind)) []) [] in
      let begun = stands (Inside (opened name h.there) []) h.within in
      let new = stands Behind d.after in
      root_runs number name d.kind ((attribute_events attributes ++ events_of children) ++ (EndElement ∷ [])) bits d.front d.inside new
      (record { name = name; kind = d.kind; front = d.front; named = d.named; numbered = d.numbered; bits_are = refl; leads = refl })
      (subst (λ (l : List Event). Runs V s inside l d.inside new) (sym (append_assoc (attribute_events attributes) (events_of children) (EndElement ∷ [])))
      (subst (λ (l : List Bool). Runs V s inside (attribute_events attributes ++ (events_of children ++ (EndElement ∷ []))) l new) (sym h.bits_are)
      (runs_both inside begun new (attribute_events attributes) (events_of children ++ (EndElement ∷ [])) h.front h.inside
      (attributes_run name [] (first d.kind) h.there [] h.within attributes h.front h.begun)
      (trees_run name [] h.there h.within d.after children h.inside h.ended)))) d.bits_are

  -- a document tells its events
  pub document_tells : (number : ℕ) (tree : Tree) (bits : List Bool) → SpellsDocument V s number tree bits → IsToldBy V s number tree bits
  document_tells number tree bits d = (d.after, from_start (stands Behind d.after) (document_events number tree) bits (document_runs number tree bits d))
