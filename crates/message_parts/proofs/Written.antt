-- A whole document that is written.
use Rattle.std.proofs.Common.{◌≡◌, ℕ, ◌*◌, ◌<◌, ◌≤◌, Bool, List, [], ◌∷◌, ◌++◌, length, Option, Some, None, inl, inr, Result, Ok, Err, IsErr, OnOk, OnErr, IfErr, refl, sym, ap, subst, ◌∙◌, append-nil, arith}
use Rattle.exi_bits.specs.declared.pen.Full.{Full}
use Rattle.exi_bits.specs.Written.{HoldsBits}
use Rattle.exi_schema.specs.Schemas.{PlainSchema}
use Rattle.exi_events.specs.Documents.{SpellsDocument, IsEncoding}
use Rattle.exi_events.specs.Grammar.{Behind, State, start, stands}
use Rattle.exi_events.specs.Trees.{Event, Document, Tree, document_events}
use Rattle.exi_events.specs.Values.{WritesValue}
use Rattle.exi_events.specs.Writer.{Draft, IsPut}
use Rattle.exi_events.proofs.Runs.{Runs, document_runs}
use Rattle.message_parts.specs.Contents.{Inside, root_of, one_onto}
use Rattle.message_parts.specs.Writing.{Target, Put, Writes, Leads, IsTooMuch}
use Rattle.message_parts.proofs.Told.{root_ahead}

-- ---- what is to be written of a document

leads_on : (s : PlainSchema) (old new : State) (events : List Event) (bits : List Bool) → Runs WritesValue s old events bits new → Leads s old events bits new
leads_on s old new [] bits runs = runs
leads_on s old new (e ∷ events) bits runs = (runs.0, runs.1, runs.2, runs.3, leads_on s runs.0 new events runs.2 runs.4, runs.5)

module _ (s : PlainSchema) (number name : ℕ) (inside : Inside) (bits : List Bool) (spelled : SpellsDocument WritesValue s number (root_of name inside) bits) where
  abbrev pub target : ℕ → Target
  target room = record { schema = s; bits = bits; last = stands Behind spelled.after; room = room }

  pub begun : (w : Put) → w.schema ≡ s → w.bits ≡ [] → w.state ≡ start → w.full ≡ None → Writes (target w.room) (Document number ∷ one_onto name inside []) w
  begun w schema_is nothing state_is open_still =
      let runs = leads_on s start (stands Behind spelled.after) (document_events number (root_of name inside)) bits (document_runs WritesValue s number (root_of name inside) bits spelled) in
      let events = subst (λ (es : List Event). Leads s start es bits (stands Behind spelled.after)) (sym (root_ahead name number inside)) runs in
      record {
        schema_is = schema_is;
        room_is = refl;
        so = inl (record {
          open_still = open_still;
          left = bits;
          leads = subst (λ (st : State). Leads s st (Document number ∷ one_onto name inside []) bits (stands Behind spelled.after)) (sym state_is) events;
          bits_are = ap (λ (b : List Bool). b ++ bits) (sym nothing);
        });
      }

-- ---- behind its last event

-- the document has ended
pub behind_all : (F : Target) (w : Put) → F.last.standing ≡ Behind → Writes F [] w → w.full ≡ None → w.state.standing ≡ Behind
behind_all F w is writes is_none =
    elim writes.so [
      | inl left ↦ ap (λ (st : State). st.standing) (sym left.leads.1) ∙ is
      | inr much ↦ absurd (subst (λ (o : Option Full). IsTooMuch F o) is_none much)
    ]

-- all its bits are written
pub all_written : (F : Target) (w : Put) → w.full ≡ None → Writes F [] w → F.bits ≡ w.bits
all_written F w is_none writes =
    elim writes.so [
      | inl left ↦ left.bits_are ∙ ap (λ (b : List Bool). w.bits ++ b) left.leads.0 ∙ append-nil w.bits
      | inr much ↦ absurd (subst (λ (o : Option Full). IsTooMuch F o) is_none much)
    ]

-- or they have no room
pub too_much : (F : Target) (w : Put) (f : Full) → w.full ≡ Some f → Writes F [] w → IsTooMuch F (Some f)
too_much F w f is_some writes =
    elim writes.so [
      | inl left ↦ (let wrong : Some f ≡ None = sym is_some ∙ left.open_still in absurd cc)
      | inr much ↦ subst (λ (o : Option Full). IsTooMuch F o) is_some much
    ]

pub encodes : (s : PlainSchema) (number : ℕ) (tree : Tree) (bits : List Bool) (payload : List ℕ) → SpellsDocument WritesValue s number tree bits → HoldsBits payload bits → IsEncoding s tree payload
encodes s number tree bits payload spelled holds =
    record { number = number; bits = bits; pad = holds.pad; spelled = spelled; few = holds.short; bits_are = holds.there }

-- nothing more is put where it has ended: all bits are written, or they have no room
module _ {T : Type 0} (r : Result T Full) (F : Target) (w : Put) (writes : Writes F [] w) where
  pub finished : (d g : Draft) (s : PlainSchema) (N : Type 0) → w.bits ≡ d.bits → OnOk r (IsPut s d g None) → OnOk r ((w.full ≡ None) × N) → OnOk r (g.bits ≡ F.bits)
  finished d g s N same put open_still = by_result r same put open_still
    where
      by_result : {U : Type 0} (q : Result U Full) → w.bits ≡ d.bits → OnOk q (IsPut s d g None) → OnOk q ((w.full ≡ None) × N) → OnOk q (g.bits ≡ F.bits)
      by_result {U} (Ok x) same put open_still = ap (λ (e : Draft). e.bits) put.1 ∙ sym same ∙ sym (all_written F w open_still.0 writes)
      by_result {U} (Err f) same put open_still = tt

  no_room_by : (o : Option Full) → w.full ≡ o → (w.full ≡ None → IsErr r → ⊥) → OnErr r (8 * F.room < length F.bits)
  no_room_by None is never = by_none r (never is)
    where
      by_none : {U : Type 0} (q : Result U Full) → (IsErr q → ⊥) → OnErr q (8 * F.room < length F.bits)
      by_none {U} (Ok x) never = tt
      by_none {U} (Err f) never = absurd (never refl)
  no_room_by (Some f) is never = let much = too_much F w f is writes in on_err r (omega (arith, much.0, much.1))
    where
      on_err : {U : Type 0} (q : Result U Full) → 8 * F.room < length F.bits → OnErr q (8 * F.room < length F.bits)
      on_err {U} (Ok x) much = tt
      on_err {U} (Err f) much = much

  pub no_room : (w.full ≡ None → IsErr r → ⊥) → OnErr r (8 * F.room < length F.bits)
  no_room never = no_room_by w.full refl never

  -- more than the room has are told to be needed, and no more than all
  abbrev pub Tells : Full → Type 0
  Tells full = (8 * F.room < full.bits) × (full.bits ≤ length F.bits)

  module _ (P : Full → Type 0) (follows : (full : Full) → Tells full → P full) where
    needs_by : (o : Option Full) → w.full ≡ o → (w.full ≡ None → IsErr r → ⊥) → ((f : Full) → w.full ≡ Some f → r ≡ Err f) → IfErr r P
    needs_by None is never again = by_none r (never is)
      where
        by_none : {U : Type 0} (q : Result U Full) → (IsErr q → ⊥) → IfErr q P
        by_none {U} (Ok x) never = tt
        by_none {U} (Err f) never = absurd (never refl)
    needs_by (Some f) is never again = subst (λ (q : Result T Full). IfErr q P) (sym (again f is)) (follows f (too_much F w f is writes))

    pub needs : (w.full ≡ None → IsErr r → ⊥) → ((f : Full) → w.full ≡ Some f → r ≡ Err f) → IfErr r P
    needs never again = needs_by w.full refl never again
