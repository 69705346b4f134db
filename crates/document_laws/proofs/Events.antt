-- The bits of an event begin with one, which leads to one state, or have one refusal.
use Rattle.std.proofs.Common.{◌≡◌, ℕ, ◌+◌, ◌≤◌, ◌⊎◌, Bool, true, false, List, [], ◌∷◌, ◌++◌, length, Option, Some, None, IsSome, slice_get, refl, sym, ap, subst, ◌∙◌, append-nil, inl, inr}
use Rattle.exi_spec.specs.Items.{SpellsNumber, Begins, RefusesBits}
use Rattle.exi_spec.specs.Laws.{IsExact}
use Rattle.exi_spec.proofs.Readers.{exact, numbers_read}
use Rattle.exi_schema.specs.Schemas.{PlainSchema}
use Rattle.exi_schema.specs.declared.tables.Datatype.{Datatype}
use Rattle.exi_schema.specs.Plain.{PlainKind}
use Rattle.exi_schema.specs.declared.tables.MemberStanding.{MemberStanding}
use Rattle.exi_schema.specs.declared.tables.MemberStanding.TheVariants.{Taken, Abstract, OutOfProfile}
use Rattle.exi_schema.specs.declared.places.Place.{Place}
use Rattle.exi_schema.specs.declared.places.Step.{Step}
use Rattle.exi_schema.specs.declared.places.Step.TheVariants as step
use Rattle.exi_schema.specs.Offers.{offers, IsWidth, IsPlace}
use Rattle.exi_schema.specs.Steps.{simple_at}
use Rattle.exi_documents.specs.declared.refusal.RefusalCause.{RefusalCause}
use Rattle.exi_documents.specs.Trees.{Value, Event, Document, Start, Attribute, Content, EndElement}
use Rattle.exi_documents.specs.Values.{Entries, most_entries, SpellsValue, RefusesItem, RefusesValue}
use Rattle.exi_documents.specs.Documents.{SpellsStep, element, first}
use Rattle.exi_documents.specs.Grammar.{Opened, Standing, Before, AtRoot, Inside, Behind, State, opened, around, stands, Moves}
use Rattle.exi_documents.specs.Refusals.{step_cause, code_cause, RefusesStep, RefusesFrom}
use Rattle.document_laws.specs.Laws.{Fault, IsState, GoesOn, IsEventExact}
use Rattle.document_laws.proofs.Exact.{Spelling, Refusing, AtStart, same_fault, item, Sifts, SpellsSifted, RefusesSifted, sifted, Given, given, SpellsChained, RefusesChained, chained, nothing, same}
use Rattle.document_laws.proofs.Offered.{same_width}
use Rattle.document_laws.proofs.IndexWidths.{code_width}
use Rattle.document_laws.proofs.TextValues.{value_exact}
use Rattle.document_laws.proofs.Fits.{step_fits}
use Rattle.document_laws.proofs.Fronts.{before_exact}

-- ---- an event code

one_of : {X : Type 0} (o : Option X) (x y : X) → o ≡ Some x → o ≡ Some y → x ≡ y
one_of {X} o x y p q = let e : Some x ≡ Some y = sym p ∙ q in cc

module _ (kinds : List PlainKind) (here : Place) where
  abbrev Takes : ℕ → Step → Type 0
  Takes code step = (slice_get (offers kinds here) code ≡ Some step) × (step_cause step ≡ None)

  abbrev TakesNone : ℕ → Fault → Type 0
  TakesNone code fault = (code_cause (length (offers kinds here)) code (slice_get (offers kinds here) code) ≡ Some fault.0) × (fault.1 ≡ 0)

  taken_by : (code : ℕ) (step : Step) (o : Option RefusalCause) → slice_get (offers kinds here) code ≡ Some step → step_cause step ≡ o → ((x : Step) × Takes code x) ⊎ ((r : Fault) × TakesNone code r)
  taken_by code step None found is = inl (step, (found, is))
  taken_by code step (Some why) found is = inr ((why, 0), (ap (λ (x : Option Step). code_cause (length (offers kinds here)) code x) found ∙ is, refl))

  taken_or_not : (code : ℕ) (o : Option Step) → slice_get (offers kinds here) code ≡ o → ((x : Step) × Takes code x) ⊎ ((r : Fault) × TakesNone code r)
  taken_or_not code None found =
      inr ((_, 0), (ap (λ (x : Option Step). code_cause (length (offers kinds here)) code x) found, refl))
  taken_or_not code (Some step) found = taken_by code step (step_cause step) found refl

  code_sifts : Sifts Takes TakesNone
  code_sifts =
      record {
        choice = λ code. taken_or_not code (slice_get (offers kinds here) code) refl;
        one_good = λ code x y p q. one_of (slice_get (offers kinds here) code) x y p.0 q.0;
        one_bad = λ code r s p q. same_fault r s (one_of (code_cause (length (offers kinds here)) code (slice_get (offers kinds here) code)) r.0 s.0 p.0 q.0) (p.1 ∙ sym q.1);
        apart = λ code x r p q.
            let e : None ≡ Some r.0 = sym p.1 ∙ sym (ap (λ (o : Option Step). code_cause (length (offers kinds here)) code o) p.0) ∙ q.0 in cc;
      }

  -- a step that may be taken
  abbrev pub SpellsTaken : Spelling Step
  SpellsTaken step bits = SpellsStep kinds here step bits × (step_cause step ≡ None)

  abbrev pub RefusesTaken : Refusing
  RefusesTaken bits fault = RefusesStep kinds here bits fault.0 × (fault.1 ≡ 0)

  width : ℕ
  width = (code_width (length (offers kinds here))).0

  is_width : IsWidth (length (offers kinds here)) width
  unfolding width
  is_width = (code_width (length (offers kinds here))).1

  refused_there : (bits : List Bool) (r : Fault) → RefusesSifted (SpellsNumber width) (AtStart (RefusesBits width)) TakesNone bits r → RefusesTaken bits r
  refused_there bits r (inl h) = (record { width = width; is_width = is_width; refused = inl h.0 }, h.1)
  refused_there bits r (inr h) = (record { width = width; is_width = is_width; refused = inr (h.0, h.1, h.2.0) }, h.2.1)

  split : (w : ℕ) (bits : List Bool) (r : Fault) → w ≡ width → r.1 ≡ 0 →
      RefusesItem (RefusesBits w) bits r.0
      ⊎ ((code : ℕ) × Begins (SpellsNumber w code) bits × (code_cause (length (offers kinds here)) code (slice_get (offers kinds here) code) ≡ Some r.0)) →
      RefusesSifted (SpellsNumber width) (AtStart (RefusesBits width)) TakesNone bits r
  split w bits r e at (inl h) = inl (subst (λ (k : ℕ). RefusesItem (RefusesBits k) bits r.0) e h, at)
  split w bits r e at (inr h) = inr (h.0, subst (λ (k : ℕ). Begins (SpellsNumber k h.0) bits) e h.1, (h.2, at))

  refused_back : (bits : List Bool) (r : Fault) → RefusesTaken bits r → RefusesSifted (SpellsNumber width) (AtStart (RefusesBits width)) TakesNone bits r
  refused_back bits r h = split h.0.width bits r (same_width (length (offers kinds here)) h.0.width width h.0.is_width is_width) h.1 h.0.refused

  pub step_exact : IsExact SpellsTaken RefusesTaken
  step_exact =
      same (SpellsSifted (SpellsNumber width) Takes) SpellsTaken (RefusesSifted (SpellsNumber width) (AtStart (RefusesBits width)) TakesNone) RefusesTaken
      (sifted (SpellsNumber width) (AtStart (RefusesBits width)) Takes TakesNone (item _ (RefusesBits width) (exact _ _ _ (numbers_read width))) code_sifts)
      (λ v bits h. (record { code = h.0; width = width; is_width = is_width; offered = h.2.0; spelled = h.1 }, h.2.1))
      (λ v bits h.
      let e : h.0.width ≡ width = same_width (length (offers kinds here)) h.0.width width h.0.is_width is_width in
      (h.0.code, subst (λ (w : ℕ). SpellsNumber w h.0.code bits) e h.0.spelled, (h.0.offered, h.1)))
      refused_there
      refused_back

-- ---- a value of a kind

abbrev SpellsOf : Option Datatype → Entries → ℕ → Spelling (Value × Entries)
SpellsOf o entries name v bits = (d : Datatype) × (o ≡ Some d) × SpellsValue d entries name v.0 bits v.1

abbrev RefusesOf : Option Datatype → Entries → ℕ → Refusing
RefusesOf o entries name bits fault = (d : Datatype) × (o ≡ Some d) × RefusesValue d entries name bits fault.0 fault.1

exact_of : (o : Option Datatype) (entries : Entries) (name : ℕ) → length entries ≤ most_entries → IsSome o → IsExact (SpellsOf o entries name) (RefusesOf o entries name)
exact_of None entries name few is = let wrong : false ≡ true = is in absurd cc
exact_of (Some d) entries name few is =
    let T = SpellsOf (Some d) entries name in
    let R = RefusesOf (Some d) entries name in
    same (λ (v : Value × Entries) bits. SpellsValue d entries name v.0 bits v.1) T (λ bits (r : Fault). RefusesValue d entries name bits r.0 r.1) R (value_exact d entries name few)
    (λ v bits h. (d, refl, h))
    (λ v bits h. subst (λ (x : Datatype). SpellsValue x entries name v.0 bits v.1) (one_of (Some d) h.0 d h.1 refl) h.2)
    (λ bits r h. (d, refl, h))
    (λ bits r h. subst (λ (x : Datatype). RefusesValue x entries name bits r.0 r.1) (one_of (Some d) h.0 d h.1 refl) h.2)

-- ---- inside an element

module _ (s : PlainSchema) (top : Opened) (above : List Opened) (entries : Entries) where
  abbrev attribute_moves : ℕ → Place → Value × Entries → Event × State
  attribute_moves name next v = (Attribute name v.0, stands (Inside (opened top.name next) above) v.1)

  abbrev content_moves : Place → Value × Entries → Event × State
  content_moves next v = (Content v.0, stands (Inside (opened top.name next) above) v.1)

  abbrev start_moves : ℕ → ℕ → Place → Event × State
  start_moves name kind next = (Start name, stands (Inside (opened name (first kind)) (opened top.name next ∷ above)) entries)

  abbrev end_moves : Event × State
  end_moves = (EndElement, stands (around above) entries)

  -- what stands behind a code, and what leads on
  abbrev Follows : Step → Spelling (Event × State)
  Follows (step.Attribute name kind next) = SpellsSifted (SpellsOf (simple_at s.kinds kind) entries name) (Given (attribute_moves name next))
  Follows (step.Element name kind next standing past_limit) = λ m bits. (bits ≡ []) × (m ≡ start_moves name kind next)
  Follows step.End = λ m bits. (bits ≡ []) × (m ≡ end_moves)
  Follows (step.Characters next) = SpellsSifted (SpellsOf (simple_at s.kinds top.place.kind) entries top.name) (Given (content_moves next))

  abbrev RefusesFollowing : Step → Refusing
  RefusesFollowing (step.Attribute name kind next) = RefusesOf (simple_at s.kinds kind) entries name
  RefusesFollowing (step.Element name kind next standing past_limit) = λ bits fault. ⊥
  RefusesFollowing step.End = λ bits fault. ⊥
  RefusesFollowing (step.Characters next) = RefusesOf (simple_at s.kinds top.place.kind) entries top.name

  follows_exact : (x : Step) (bits : List Bool) → IsPlace s.kinds top.place → length entries ≤ most_entries → SpellsTaken s.kinds top.place x bits → IsExact (Follows x) (RefusesFollowing x)
  follows_exact (step.Attribute name kind next) bits at few h =
      let fits = step_fits s top.place h.0.code (step.Attribute name kind next) at h.0.offered in
      given _ _ (attribute_moves name next) (exact_of (simple_at s.kinds kind) entries name few fits.2)
  follows_exact (step.Element name kind next standing past_limit) bits at few h = nothing (start_moves name kind next)
  follows_exact step.End bits at few h = nothing end_moves
  follows_exact (step.Characters next) bits at few h =
      let fits = step_fits s top.place h.0.code (step.Characters next) at h.0.offered in
      given _ _ (content_moves next) (exact_of (simple_at s.kinds top.place.kind) entries top.name few fits.0)

  abbrev Inner : Spelling (Event × State)
  Inner = SpellsChained (SpellsTaken s.kinds top.place) Follows

  abbrev RefusesInner : Refusing
  RefusesInner = RefusesChained (SpellsTaken s.kinds top.place) (RefusesTaken s.kinds top.place) RefusesFollowing

  abbrev here : State
  here = stands (Inside top above) entries

  -- an element that may stand there
  element_taken : (name kind : ℕ) (next : Place) (standing : MemberStanding) (past_limit : Bool) (bits : List Bool) → SpellsStep s.kinds top.place (step.Element name kind next standing past_limit) bits →
      step_cause (step.Element name kind next standing past_limit) ≡ None → SpellsStep s.kinds top.place (element name kind next) bits
  element_taken name kind next standing true bits h none = let wrong = none in absurd cc
  element_taken name kind next Taken false bits h none = h
  element_taken name kind next Abstract false bits h none = let wrong = none in absurd cc
  element_taken name kind next OutOfProfile false bits h none = let wrong = none in absurd cc

  forth_at : (x : Step) (m : Event × State) (bits front rest : List Bool) → SpellsTaken s.kinds top.place x front → Follows x m rest → bits ≡ front ++ rest → Moves SpellsValue s here m.0 bits m.1
  forth_at (step.Attribute name kind next) m bits front rest h f e =
      let v = f.0 in
      subst (λ (x : Event × State). Moves SpellsValue s here x.0 bits x.1) (sym f.2)
      (record { kind = kind; next = next; datatype = f.1.0; after = v.1; code = front; inside = rest; starts = h.0; is_simple = f.1.1; spelled = f.1.2; bits_are = e; leads = refl })
  forth_at (step.Element name kind next standing past_limit) m bits front rest h f e =
      let whole : front ≡ bits = sym (e ∙ ap (λ (l : List Bool). front ++ l) f.0 ∙ append-nil front) in
      subst (λ (x : Event × State). Moves SpellsValue s here x.0 bits x.1) (sym f.1)
      (record { kind = kind; next = next; starts = subst (λ (l : List Bool). SpellsStep s.kinds top.place (element name kind next) l) whole (element_taken name kind next standing past_limit front h.0 h.1); leads = refl })
  forth_at step.End m bits front rest h f e =
      let whole : front ≡ bits = sym (e ∙ ap (λ (l : List Bool). front ++ l) f.0 ∙ append-nil front) in
      subst (λ (x : Event × State). Moves SpellsValue s here x.0 bits x.1) (sym f.1)
      (subst (λ (l : List Bool). SpellsStep s.kinds top.place step.End l) whole h.0, refl)
  forth_at (step.Characters next) m bits front rest h f e =
      let v = f.0 in
      subst (λ (x : Event × State). Moves SpellsValue s here x.0 bits x.1) (sym f.2)
      (record { next = next; datatype = f.1.0; after = v.1; code = front; inside = rest; starts = h.0; is_simple = f.1.1; spelled = f.1.2; bits_are = e; leads = refl })

  back : (event : Event) (new : State) (bits : List Bool) → Moves SpellsValue s here event bits new → Inner (event, new) bits
  back (Document number) new bits h = absurd h
  back (Start name) new bits h =
      (element name h.kind h.next, bits, [], (h.starts, refl), (refl, ap (λ (state : State). (Start name, state)) h.leads), sym (append-nil bits))
  back (Attribute name value) new bits h = (
    step.Attribute name h.kind h.next,
    h.code,
    h.inside,
    (h.starts, refl),
    ((value, h.after), (h.datatype, h.is_simple, h.spelled), ap (λ (state : State). (Attribute name value, state)) h.leads),
    h.bits_are,
  )
  back (Content value) new bits h = (
    step.Characters h.next,
    h.code,
    h.inside,
    (h.starts, refl),
    ((value, h.after), (h.datatype, h.is_simple, h.spelled), ap (λ (state : State). (Content value, state)) h.leads),
    h.bits_are,
  )
  back EndElement new bits h =
      (step.End, bits, [], (h.0, refl), (refl, ap (λ (state : State). (EndElement, state)) h.1), sym (append-nil bits))

  behind_at : (x : Step) (bits front rest : List Bool) (behind : ℕ) (r : Fault) → SpellsTaken s.kinds top.place x front → bits ≡ front ++ rest → RefusesFollowing x rest (r.0, behind) → r.1 ≡ length front + behind →
      RefusesFrom s (Inside top above) entries bits r.0 r.1
  behind_at (step.Attribute name kind next) bits front rest behind r h e f at =
      inr (inl (name, kind, next, f.0, f.1, record { code = front; rest = rest; behind = behind; taken = h.0; bits_are = e; refused = f.2; place = at }))
  behind_at (step.Element name kind next standing past_limit) bits front rest behind r h e f at = absurd f
  behind_at step.End bits front rest behind r h e f at = absurd f
  behind_at (step.Characters next) bits front rest behind r h e f at =
      inr (inr (next, f.0, f.1, record { code = front; rest = rest; behind = behind; taken = h.0; bits_are = e; refused = f.2; place = at }))

  inner_there : (bits : List Bool) (r : Fault) → RefusesInner bits r → RefusesFrom s (Inside top above) entries bits r.0 r.1
  inner_there bits r (inl h) = inl h
  inner_there bits r (inr h) = behind_at h.0 bits h.1 h.2 h.3 r h.4 h.5 h.6 h.7

  inner_back : (bits : List Bool) (r : Fault) → RefusesFrom s (Inside top above) entries bits r.0 r.1 → RefusesInner bits r
  inner_back bits r (inl h) = inl h
  inner_back bits r (inr (inl h)) =
      let b = h.5 in
      inr (step.Attribute h.0 h.1 h.2, b.code, b.rest, b.behind, (b.taken, refl), b.bits_are, (h.3, h.4, b.refused), b.place)
  inner_back bits r (inr (inr h)) =
      let b = h.3 in
      inr (step.Characters h.0, b.code, b.rest, b.behind, (b.taken, refl), b.bits_are, (h.1, h.2, b.refused), b.place)

  pub inside_exact : IsPlace s.kinds top.place → length entries ≤ most_entries → IsEventExact s here
  inside_exact at few =
      same Inner _ RefusesInner _
      (chained (SpellsTaken s.kinds top.place) (RefusesTaken s.kinds top.place) Follows RefusesFollowing (step_exact s.kinds top.place) (λ x front h. follows_exact x front at few h))
      (λ m bits h. forth_at h.0 m bits h.1 h.2 h.3 h.4 h.5)
      (λ m bits h. back m.0 m.1 bits h)
      inner_there
      inner_back

-- ---- at the root

module _ (s : PlainSchema) (root kind : ℕ) (entries : Entries) where
  abbrev root_moves : Event × State
  root_moves = (Start root, stands (Inside (opened root (first kind)) []) entries)

  root_there : (m : Event × State) (bits : List Bool) → (bits ≡ []) × (m ≡ root_moves) → Moves SpellsValue s (stands (AtRoot root kind) entries) m.0 bits m.1
  root_there m bits h =
      subst (λ (x : Event × State). Moves SpellsValue s (stands (AtRoot root kind) entries) x.0 bits x.1) (sym h.1) (refl, h.0, refl)

  root_back : (event : Event) (new : State) (bits : List Bool) → Moves SpellsValue s (stands (AtRoot root kind) entries) event bits new → (bits ≡ []) × ((event, new) ≡ root_moves)
  root_back (Document number) new bits h = absurd h
  root_back (Start name) new bits h = (
    h.1,
    ap (λ (state : State). (Start name, state)) h.2
        ∙ ap (λ (n : ℕ). (Start n, stands (Inside (opened n (first kind)) []) entries)) h.0,
  )
  root_back (Attribute name value) new bits h = absurd h
  root_back (Content value) new bits h = absurd h
  root_back EndElement new bits h = absurd h

  pub at_root_exact : IsEventExact s (stands (AtRoot root kind) entries)
  at_root_exact =
      same (λ (m : Event × State) bits. (bits ≡ []) × (m ≡ root_moves)) _ (λ (bits : List Bool) (r : Fault). ⊥) _ (nothing root_moves)
      root_there
      (λ m bits h. root_back m.0 m.1 bits h)
      (λ bits r h. h)
      (λ bits r h. h)

event_at : (s : PlainSchema) (standing : Standing) (entries : Entries) → IsState s (stands standing entries) → GoesOn standing → IsEventExact s (stands standing entries)
event_at s Before entries is goes = before_exact s entries
event_at s (AtRoot root kind) entries is goes = at_root_exact s root kind entries
event_at s (Inside top above) entries is goes = inside_exact s top above entries is.0.0 is.1
event_at s Behind entries is goes = absurd goes

pub event_exact : (s : PlainSchema) (state : State) → IsState s state → GoesOn state.standing → IsEventExact s state
event_exact s state is goes = event_at s state.standing state.entries is goes
