-- Two runs along the same bits go the same way.
use Rattle.std.proofs.Common.{◌≡◌, ◌≤◌, ◌⊎◌, Bool, List, [], ◌∷◌, ◌++◌, refl, sym, ap, subst, ◌∙◌, append_assoc, append-nil, arith, inl, inr}
use Rattle.std.proofs.lemmas.List.{append_cancel_left, append_cancel_right}
use Rattle.exi_schema.specs.Schemas.{PlainSchema}
use Rattle.exi_documents.specs.Trees.{Event, document_events}
use Rattle.exi_documents.specs.Values.{Entries, SpellsValue}
use Rattle.exi_documents.specs.Grammar.{Standing, Before, AtRoot, Inside, Behind, State, start, stands, Moves}
use Rattle.document_laws.specs.Laws.{IsState, GoesOn, IsPrefixFree}
use Rattle.document_laws.proofs.Apart.{documents_apart}
use Rattle.document_laws.proofs.Events.{event_exact}
use Rattle.document_laws.proofs.Kept.{event_kept}
use Rattle.document_laws.proofs.Runs.{Runs, document_runs}
use Rattle.document_laws.proofs.Told.{none_behind, behind_ends}

goes_at : (s : PlainSchema) (standing : Standing) (entries : Entries) (event : Event) (bits : List Bool) (new : State) → Moves SpellsValue s (stands standing entries) event bits new → GoesOn standing
goes_at s Before entries event bits new m = tt
goes_at s (AtRoot name kind) entries event bits new m = tt
goes_at s (Inside top above) entries event bits new m = tt
goes_at s Behind entries event bits new m = none_behind SpellsValue s entries event bits new m

-- an event comes only before the end of the root
pub goes_on : (s : PlainSchema) (old new : State) (event : Event) (bits : List Bool) → Moves SpellsValue s old event bits new → GoesOn old.standing
goes_on s old new event bits m = goes_at s old.standing old.entries event bits new m

module _ (s : PlainSchema) where
  pub start_is : IsState s start
  start_is = (tt, arith_low)
    where
      arith_low : 0 ≤ 8192
      arith_low = omega arith

  -- a run leads from a state of the schema to one
  pub run_kept : (old new : State) (events : List Event) (bits : List Bool) → IsState s old → Runs SpellsValue s old events bits new → IsState s new
  run_kept old new [] bits is r = subst (λ (state : State). IsState s state) (sym r.1) is
  run_kept old new (event ∷ events) bits is r = run_kept r.0 new events r.2 (event_kept s old r.0 event r.1 is r.3) r.4

  -- one run goes on where another ends
  pub record GoesFurther (near far : State) (x y : List Bool) (es fs : List Event) : Type 0 where
    pub events : List Event
    pub bits : List Bool
    pub run : Runs SpellsValue s near events bits far
    pub rest : x ≡ bits ++ y
    pub events_are : fs ≡ es ++ events

  -- two events of the same bits are one
  same_move : (old new other : State) (event odd : Event) (a b x y : List Bool) → IsState s old → Moves SpellsValue s old event a new → Moves SpellsValue s old odd b other → a ++ x ≡ b ++ y →
      (event ≡ odd) × (new ≡ other) × (x ≡ y)
  same_move old new other event odd a b x y is m n e =
      let both = (event_exact s old is (goes_on s old new event a m)).prefix (event, new) (odd, other) a b x y m n e in (
        ap (λ (p : Event × State). p.0) both.1,
        ap (λ (p : Event × State). p.1) both.1,
        append_cancel_left a x y (e ∙ ap (λ (l : List Bool). l ++ y) (sym both.0)),
      )

  pub runs_compared : (old near far : State) (es fs : List Event) (a b x y : List Bool) → IsState s old → Runs SpellsValue s old es a near → Runs SpellsValue s old fs b far → a ++ x ≡ b ++ y →
      GoesFurther near far x y es fs ⊎ GoesFurther far near y x fs es
  runs_compared old near far [] fs a b x y is r q e =
      inl record {
        events = fs;
        bits = b;
        run = subst (λ (state : State). Runs SpellsValue s state fs b far) (sym r.1) q;
        rest = sym (ap (λ (l : List Bool). l ++ x) r.0) ∙ e;
        events_are = refl;
      }
  runs_compared old near far (event ∷ es) [] a b x y is r q e =
      inr record {
        events = event ∷ es;
        bits = a;
        run = subst (λ (state : State). Runs SpellsValue s state (event ∷ es) a near) (sym q.1) r;
        rest = sym (ap (λ (l : List Bool). l ++ y) q.0) ∙ sym e;
        events_are = refl;
      }
  runs_compared old near far (event ∷ es) (odd ∷ fs) a b x y is r q e =
      let whole : r.1 ++ (r.2 ++ x) ≡ q.1 ++ (q.2 ++ y) =
      sym (ap (λ (l : List Bool). l ++ x) r.5 ∙ append_assoc r.1 r.2 x) ∙ e ∙ (ap (λ (l : List Bool). l ++ y) q.5 ∙ append_assoc q.1 q.2 y) in
      let same = same_move old r.0 q.0 event odd r.1 q.1 (r.2 ++ x) (q.2 ++ y) is r.3 q.3 whole in
      let kept = event_kept s old q.0 odd q.1 is q.3 in
      let run : Runs SpellsValue s q.0 es r.2 near = subst (λ (state : State). Runs SpellsValue s state es r.2 near) same.1 r.4 in
      elim (runs_compared q.0 near far es fs r.2 q.2 x y kept run q.4 same.2) [
        | inl g ↦
            inl record {
              events = g.events;
              bits = g.bits;
              run = g.run;
              rest = g.rest;
              events_are = ap (λ (l : List Event). odd ∷ l) g.events_are ∙ ap (λ (x : Event). x ∷ (es ++ g.events)) (sym same.0);
            }
        | inr g ↦
            inr record {
              events = g.events;
              bits = g.bits;
              run = g.run;
              rest = g.rest;
              events_are = ap (λ (l : List Event). event ∷ l) g.events_are ∙ ap (λ (x : Event). x ∷ (fs ++ g.events)) same.0;
            }
      ]

  -- behind the root a run ends
  pub ends_there : (entries : Entries) (far : State) (x y : List Bool) (es fs : List Event) → GoesFurther (stands Behind entries) far x y es fs → (x ≡ y) × (fs ≡ es)
  ends_there entries far x y es fs g =
      let nil = behind_ends SpellsValue s entries g.events g.bits far g.run in
      (g.rest ∙ ap (λ (l : List Bool). l ++ y) nil.1, g.events_are ∙ ap (λ (l : List Event). es ++ l) nil.0 ∙ append-nil es)

  same_run : (entries after : Entries) (es fs : List Event) (a b x y : List Bool) → Runs SpellsValue s start es a (stands Behind entries) → Runs SpellsValue s start fs b (stands Behind after) → a ++ x ≡ b ++ y → (a ≡ b) × (es ≡ fs)
  same_run entries after es fs a b x y r q e =
      elim (runs_compared start (stands Behind entries) (stands Behind after) es fs a b x y start_is r q e) [
        | inl g ↦ let same = ends_there entries (stands Behind after) x y es fs g in (append_cancel_right a b y (ap (λ (l : List Bool). a ++ l) (sym same.0) ∙ e), sym same.1)
        | inr g ↦ let same = ends_there after (stands Behind entries) y x fs es g in (append_cancel_right a b y (ap (λ (l : List Bool). a ++ l) same.0 ∙ e), same.1)
      ]

  pub prefix_free : IsPrefixFree s
  prefix_free n m t u a b x y p q e =
      let same = same_run p.after q.after (document_events n t) (document_events m u) a b x y (document_runs SpellsValue s n t a p) (document_runs SpellsValue s m u b q) e in
      let one = documents_apart n m t u same.1 in
      (same.0, one.0, one.1)
