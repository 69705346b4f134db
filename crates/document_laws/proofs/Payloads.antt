-- A payload spells one tree, or has one refusal.
use Rattle.std.proofs.Common.{◌≡◌, ℕ, zero, suc, ◌+◌, ◌%◌, ◌^◌, ◌<◌, ◌≤◌, ◌⊎◌, Bool, List, [], ◌∷◌, ◌++◌, length, reverse, Some, None, slice_get, refl, sym, ap, ap₂, subst, ◌∙◌, append_assoc, arith, inl, inr, length-append}
use Rattle.std.proofs.lemmas.Bool.{cases_lt}
use Rattle.std.proofs.lemmas.List.{append_cancel_right}
use Rattle.exi_spec.specs.Bits.{bits_of}
use Rattle.exi_spec.proofs.BitLaws.{length-number_bits}
use Rattle.exi_schema.specs.Schemas.{PlainSchema}
use Rattle.exi_schema.specs.Plain.{PlainKind}
use Rattle.exi_schema.specs.declared.places.Place.{Place}
use Rattle.exi_schema.specs.declared.places.Step.{Step}
use Rattle.exi_schema.specs.Offers.{offers, IsWidth}
use Rattle.exi_documents.specs.declared.refusal.RefusalCause.{RefusalCause}
use Rattle.exi_documents.specs.declared.refusal.RefusalCause.TheVariants as cause
use Rattle.exi_documents.specs.Trees.{Tree, Event, Document, Start, Attribute, Content, EndElement, document_events}
use Rattle.exi_documents.specs.Values.{Entries, SpellsValue}
use Rattle.exi_documents.specs.Documents.{SpellsStep, IsDocument}
use Rattle.exi_documents.specs.Grammar.{Opened, Standing, Before, AtRoot, Inside, Behind, State, start, around, stands, Moves}
use Rattle.exi_documents.specs.Refusals.{RefusesNext, IsRefused}
use Rattle.document_laws.specs.Laws.{Fault, IsState, GoesOn, IsDecided, weight}
use Rattle.document_laws.proofs.Events.{event_exact}
use Rattle.document_laws.proofs.Kept.{event_kept}
use Rattle.document_laws.proofs.OneTree.{start_is, run_kept, goes_on, GoesFurther, runs_compared, ends_there, prefix_free}
use Rattle.document_laws.proofs.Runs.{Runs, from_start, to_start, document_runs}
use Rattle.document_laws.proofs.Told.{none_behind, events_told}

-- ---- each event takes bits, but the root's start

weight_around : (above : List Opened) → weight (around above) ≡ 0
weight_around [] = refl
weight_around (o ∷ above) = refl

some_wide : (n w : ℕ) → 0 < n → IsWidth n w → 0 < w
some_wide n zero some wide = let enough : n + 1 ≤ 2 ^ 0 = wide.enough in absurd (omega (arith, enough, some))
some_wide n (suc w) some wide = omega arith

some_there : (steps : List Step) (code : ℕ) (step : Step) → slice_get steps code ≡ Some step → 0 < length steps
some_there [] code step h = let wrong : None ≡ Some step = h in absurd cc
some_there (x ∷ steps) code step h = omega arith

step_takes : (kinds : List PlainKind) (here : Place) (step : Step) (bits : List Bool) → SpellsStep kinds here step bits → 0 < length bits
step_takes kinds here step bits h =
    let wide = some_wide (length (offers kinds here)) h.width (some_there (offers kinds here) h.code step h.offered) h.is_width in
    omega (arith, wide, ap length h.spelled.spelled, length-number_bits h.width h.code)

new_weight : (new state : State) → new ≡ state → weight new.standing ≡ weight state.standing
new_weight new state e = ap (λ (x : State). weight x.standing) e

module _ (s : PlainSchema) where
  pub shrinks_at : (standing : Standing) (entries : Entries) (new : State) (event : Event) (bits : List Bool) → Moves SpellsValue s (stands standing entries) event bits new → weight new.standing < weight standing + length bits
  shrinks_at Before entries new (Document number) bits m =
      let w : weight new.standing ≡ 1 = new_weight new (stands (AtRoot m.name m.kind) entries) m.leads in
      omega (arith, w)
  shrinks_at (AtRoot root kind) entries new (Start name) bits m =
      let w : weight new.standing ≡ 0 = ap (λ (x : State). weight x.standing) m.2 in
      omega (arith, w)
  shrinks_at (Inside top above) entries new (Start name) bits m =
      let w : weight new.standing ≡ 0 = ap (λ (x : State). weight x.standing) m.leads in
      let takes = step_takes s.kinds top.place _ bits m.starts in
      omega (arith, w, takes)
  shrinks_at (Inside top above) entries new (Attribute name value) bits m =
      let w : weight new.standing ≡ 0 = ap (λ (x : State). weight x.standing) m.leads in
      let takes = step_takes s.kinds top.place _ m.code m.starts in
      omega (arith, w, takes, ap length m.bits_are, length-append m.code m.inside)
  shrinks_at (Inside top above) entries new (Content value) bits m =
      let w : weight new.standing ≡ 0 = ap (λ (x : State). weight x.standing) m.leads in
      let takes = step_takes s.kinds top.place _ m.code m.starts in
      omega (arith, w, takes, ap length m.bits_are, length-append m.code m.inside)
  shrinks_at (Inside top above) entries new EndElement bits m =
      let w : weight new.standing ≡ 0 = ap (λ (x : State). weight x.standing) m.1 ∙ weight_around above in
      let takes = step_takes s.kinds top.place _ bits m.0 in
      omega (arith, w, takes)
  shrinks_at standing entries new event bits m = absurd m

  -- ---- reading on, up to the end of the root or a refusal

  record Ends (state : State) (rest : List Bool) : Type 0 where
    pub events : List Event
    pub bits : List Bool
    pub entries : Entries
    pub pad : List Bool
    pub run : Runs SpellsValue s state events bits (stands Behind entries)
    pub rest_is : rest ≡ bits ++ pad

  record Stops (state : State) (rest : List Bool) : Type 0 where
    pub events : List Event
    pub bits : List Bool
    pub new : State
    pub left : List Bool
    pub fault : Fault
    pub run : Runs SpellsValue s state events bits new
    pub rest_is : rest ≡ bits ++ left
    pub refused : RefusesNext s new left fault.0 fault.1

  ends_later : (old new : State) (event : Event) (front rest : List Bool) → Moves SpellsValue s old event front new → Ends new rest → Ends old (front ++ rest)
  ends_later old new event front rest m h =
      record {
        events = event ∷ h.events;
        bits = front ++ h.bits;
        entries = h.entries;
        pad = h.pad;
        run = (new, front, h.bits, m, h.run, refl);
        rest_is = ap (λ (l : List Bool). front ++ l) h.rest_is ∙ sym (append_assoc front h.bits h.pad);
      }

  stops_later : (old new : State) (event : Event) (front rest : List Bool) → Moves SpellsValue s old event front new → Stops new rest → Stops old (front ++ rest)
  stops_later old new event front rest m h =
      record {
        events = event ∷ h.events;
        bits = front ++ h.bits;
        new = h.new;
        left = h.left;
        fault = h.fault;
        run = (new, front, h.bits, m, h.run, refl);
        rest_is = ap (λ (l : List Bool). front ++ l) h.rest_is ∙ sym (append_assoc front h.bits h.left);
        refused = h.refused;
      }

  abbrev Read : State → List Bool → Type 0
  Read state rest = Ends state rest ⊎ Stops state rest

  later : (old new : State) (event : Event) (front rest : List Bool) → Moves SpellsValue s old event front new → Read new rest → Read old (front ++ rest)
  later old new event front rest m (inl h) = inl (ends_later old new event front rest m h)
  later old new event front rest m (inr h) = inr (stops_later old new event front rest m h)

  goes_or_ends : (standing : Standing) (entries : Entries) (rest : List Bool) → GoesOn standing ⊎ Ends (stands standing entries) rest
  goes_or_ends Before entries rest = inl tt
  goes_or_ends (AtRoot name kind) entries rest = inl tt
  goes_or_ends (Inside top above) entries rest = inl tt
  goes_or_ends Behind entries rest = inr record { events = []; bits = []; entries = entries; pad = rest; run = (refl, refl); rest_is = refl }

  read_on : (n : ℕ) (state : State) (rest : List Bool) → IsState s state → weight state.standing + length rest < n → Read state rest
  read_on zero state rest is few = absurd (omega (arith, few))
  read_on (suc n) state rest is few =
      elim (goes_or_ends state.standing state.entries rest) [
        | inl goes ↦ elim ((event_exact s state is goes).decided rest) [
          | inl f ↦
              let new = f.0.1 in
              let b = f.1 in
              let less : weight new.standing < weight state.standing + length b.0 = shrinks_at state.standing state.entries new f.0.0 b.0 b.2 in
              let fewer : weight new.standing + length b.1 < n = omega (arith, few, less, ap length b.3, length-append b.0 b.1) in
              subst (λ (l : List Bool). Read state l) (sym b.3) (later state new f.0.0 b.0 b.1 b.2 (read_on n new b.1 (event_kept s state new f.0.0 b.0 is b.2) fewer))
          | inr r ↦ inr record { events = []; bits = []; new = state; left = rest; fault = r.0; run = (refl, refl); rest_is = refl; refused = r.1 }
        ]
        | inr ends ↦ inl ends
      ]

  read : (bits : List Bool) → Read start bits
  read bits = read_on (3 + length bits) start bits (start_is s) (omega arith)

  -- ---- a payload

  decided_by : (payload : List ℕ) → Read start (bits_of payload) → ((tree : Tree) × IsDocument s tree payload) ⊎ ((why : RefusalCause) × (bit : ℕ) × IsRefused s payload why bit)
  decided_by payload (inr h) =
      inr (
        h.fault.0,
        length h.bits + h.fault.1,
        record {
          events = reverse h.events;
          state = h.new;
          front = h.bits;
          rest = h.left;
          at = h.fault.1;
          reached = from_start SpellsValue s h.new h.events h.bits h.run;
          bits_are = h.rest_is;
          refused = h.refused;
          place = refl;
        },
      )
  decided_by payload (inl h) =
      let reached = from_start SpellsValue s (stands Behind h.entries) h.events h.bits h.run in
      let told = events_told SpellsValue s (reverse h.events) h.bits h.entries reached in
      elim (cases_lt (length h.pad) 8) [
        | inl few ↦ inl (told.1, record { number = told.0; bits = h.bits; pad = h.pad; spelled = told.3; few = few; bits_are = h.rest_is })
        | inr many ↦
            inr (
              cause.Trailing,
              length h.bits + length h.pad % 8,
              record {
                events = reverse h.events;
                state = stands Behind h.entries;
                front = h.bits;
                rest = h.pad;
                at = length h.pad % 8;
                reached = reached;
                bits_are = h.rest_is;
                refused = (many, refl, refl);
                place = refl;
              },
            )
      ]

  -- where a run goes on nothing is refused
  none_refused : (events : List Event) (near far : State) (bits x : List Bool) (r : Fault) → IsState s near → Runs SpellsValue s near events bits far → RefusesNext s near (bits ++ x) r.0 r.1 → (bits ≡ []) × (far ≡ near)
  none_refused [] near far bits x r is run refused = run
  none_refused (event ∷ events) near far bits x r is run refused =
      absurd ((event_exact s near is (goes_on s near run.0 event run.1 run.3)).apart (event, run.0) (bits ++ x) r
      (run.1, run.2 ++ x, run.3, ap (λ (l : List Bool). l ++ x) run.5 ∙ append_assoc run.1 run.2 x) refused)

  behind_few : (entries : Entries) (rest : List Bool) (why : RefusalCause) (at : ℕ) → RefusesNext s (stands Behind entries) rest why at → length rest < 8 → ⊥
  behind_few entries rest why at h few = omega (arith, h.0, few)

  abbrev run_of : (payload : List ℕ) (why : RefusalCause) (bit : ℕ) (h : IsRefused s payload why bit) → Runs SpellsValue s start (reverse h.events) h.front h.state
  run_of payload why bit h = to_start SpellsValue s h.state h.events h.front h.reached

  not_both : (payload : List ℕ) (tree : Tree) (why : RefusalCause) (bit : ℕ) → IsDocument s tree payload → IsRefused s payload why bit → ⊥
  not_both payload tree why bit d h =
      let after = d.spelled.after in
      let run = document_runs SpellsValue s d.number tree d.bits d.spelled in
      let e : d.bits ++ d.pad ≡ h.front ++ h.rest = sym d.bits_are ∙ h.bits_are in
      elim (runs_compared s start (stands Behind after) h.state (document_events d.number tree) (reverse h.events) d.bits h.front d.pad h.rest (start_is s) run (run_of payload why bit h) e) [
        | inl g ↦
            let same = ends_there s after h.state d.pad h.rest (document_events d.number tree) (reverse h.events) g in
            let there = behind_state after h.state g in
            behind_few after h.rest why h.at (subst (λ (state : State). RefusesNext s state h.rest why h.at) there h.refused) (subst (λ (l : List Bool). length l < 8) same.0 d.few)
        | inr g ↦
            let kept = run_kept s start h.state (reverse h.events) h.front (start_is s) (run_of payload why bit h) in
            let nil = none_refused g.events h.state (stands Behind after) g.bits d.pad (why, h.at) kept g.run (subst (λ (l : List Bool). RefusesNext s h.state l why h.at) g.rest h.refused) in
            let rests : h.rest ≡ d.pad = g.rest ∙ ap (λ (l : List Bool). l ++ d.pad) nil.0 in
            behind_few after h.rest why h.at (subst (λ (state : State). RefusesNext s state h.rest why h.at) (sym nil.1) h.refused) (subst (λ (l : List Bool). length l < 8) (sym rests) d.few)
      ]
    where
      behind_by : (entries : Entries) (far : State) (events : List Event) (bits : List Bool) → Runs SpellsValue s (stands Behind entries) events bits far → far ≡ stands Behind entries
      behind_by entries far [] bits run = run.1
      behind_by entries far (event ∷ events) bits run = absurd (none_behind SpellsValue s entries event run.1 run.0 run.3)

      behind_state : (entries : Entries) (far : State) {x y : List Bool} {es fs : List Event} → GoesFurther s (stands Behind entries) far x y es fs → far ≡ stands Behind entries
      behind_state entries far g = behind_by entries far g.events g.bits g.run

  -- one refusal of a state
  one_at : (standing : Standing) (entries : Entries) (rest : List Bool) (r q : Fault) → IsState s (stands standing entries) → RefusesNext s (stands standing entries) rest r.0 r.1 → RefusesNext s (stands standing entries) rest q.0 q.1 → r ≡ q
  one_at Before entries rest r q is a b = (event_exact s (stands Before entries) is tt).one_refusal rest r q a b
  one_at (AtRoot name kind) entries rest r q is a b = absurd a
  one_at (Inside top above) entries rest r q is a b = (event_exact s (stands (Inside top above) entries) is tt).one_refusal rest r q a b
  one_at Behind entries rest r q is a b = ap₂ (λ (c : RefusalCause) (n : ℕ). (c, n)) (a.1 ∙ sym b.1) (a.2 ∙ sym b.2)

  -- of two refusals of a payload one is where the other is
  one_by : (near far : State) (es fs : List Event) (a b x y : List Bool) (r q : Fault) → IsState s near → GoesFurther s near far x y es fs → a ++ x ≡ b ++ y →
      RefusesNext s near x r.0 r.1 → RefusesNext s far y q.0 q.1 → (r.0 ≡ q.0) × (length a + r.1 ≡ length b + q.1)
  one_by near far es fs a b x y r q is g e p k =
      let nil = none_refused g.events near far g.bits y r is g.run (subst (λ (l : List Bool). RefusesNext s near l r.0 r.1) g.rest p) in
      let rests : x ≡ y = g.rest ∙ ap (λ (l : List Bool). l ++ y) nil.0 in
      let fronts : a ≡ b = append_cancel_right a b y (ap (λ (l : List Bool). a ++ l) (sym rests) ∙ e) in
      let moved : RefusesNext s near x q.0 q.1 = subst (λ (l : List Bool). RefusesNext s near l q.0 q.1) (sym rests) (subst (λ (state : State). RefusesNext s state y q.0 q.1) nil.1 k) in
      let one = one_at near.standing near.entries x r q is p moved in
      (ap (λ (f : Fault). f.0) one, ap₂ (λ (l : List Bool) (f : Fault). length l + f.1) fronts one)

  one_refusal : (payload : List ℕ) (why other : RefusalCause) (bit place : ℕ) → IsRefused s payload why bit → IsRefused s payload other place → (why ≡ other) × (bit ≡ place)
  one_refusal payload why other bit place h k =
      let e : h.front ++ h.rest ≡ k.front ++ k.rest = sym h.bits_are ∙ k.bits_are in
      let kept = run_kept s start h.state (reverse h.events) h.front (start_is s) (run_of payload why bit h) in
      let too = run_kept s start k.state (reverse k.events) k.front (start_is s) (run_of payload other place k) in
      elim (runs_compared s start h.state k.state (reverse h.events) (reverse k.events) h.front k.front h.rest k.rest (start_is s) (run_of payload why bit h) (run_of payload other place k) e) [
        | inl g ↦
            let one = one_by h.state k.state (reverse h.events) (reverse k.events) h.front k.front h.rest k.rest (why, h.at) (other, k.at) kept g e h.refused k.refused in
            (one.0, h.place ∙ one.1 ∙ sym k.place)
        | inr g ↦
            let one = one_by k.state h.state (reverse k.events) (reverse h.events) k.front h.front k.rest h.rest (other, k.at) (why, h.at) too g (sym e) k.refused h.refused in
            (sym one.0, h.place ∙ sym one.1 ∙ sym k.place)
      ]

  pub payload_decided : (payload : List ℕ) → IsDecided s payload
  payload_decided payload =
      record {
        decided = decided_by payload (read (bits_of payload));
        apart = not_both payload;
        one_tree = λ t u p q. (prefix_free s p.number q.number t u p.bits q.bits p.pad q.pad p.spelled q.spelled (sym p.bits_are ∙ q.bits_are)).2;
        one_refusal = one_refusal payload;
      }
