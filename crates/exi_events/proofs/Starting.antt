-- The front of a document, and its root, as they are put.
use Rattle.std.proofs.Common.{◌≡◌, ℕ, Bool, List, [], length, Result, sym, ap, subst}
use Rattle.std.specs.Result.{OnOk}
use Rattle.exi_bits.specs.Pens.{written_bits, Needs}
use Rattle.exi_bits.specs.declared.pen.BitPen.{BitPen}
use Rattle.exi_bits.specs.declared.span.SpanAt.{SpanAt}
use Rattle.exi_schema.specs.declared.places.Root.TheVariants.{Kind}
use Rattle.exi_schema.specs.Schemas.{PlainSchema}
use Rattle.exi_schema.specs.Steps.{IsRoot, IsRootOf}
use Rattle.exi_writing.specs.Grammar.{Opened, AtRoot, State, around, stands}
use Rattle.exi_writing.specs.Values.{Entries}
use Rattle.exi_writing.specs.Table.{Table}
use Rattle.exi_writing.specs.Event.{Event}
use Rattle.exi_writing.specs.Event.TheVariants as event
use Rattle.exi_writing.specs.Meaning.{texts_in, AreTexts, event_of}
use Rattle.exi_writing.specs.Writing.{Puts, WritesMore}
use Rattle.exi_writing.proofs.Pens.{writes_none, had_room}
use Rattle.exi_writing.proofs.Strings.{texts_kept, are_kept}
use Rattle.exi_events.specs.declared.reader.Phase.{Phase}
use Rattle.exi_events.specs.declared.reader.Phase.TheVariants as phase
use Rattle.exi_events.specs.Front.{SpellsFront}
use Rattle.exi_events.specs.Reader.{state_of, IsSound, IsReadyAt}
use Rattle.exi_events.specs.Writer.{drafted, IsOffered, IsPut, HasNoRoom}
use Rattle.exi_events.proofs.Drafts.{adds}
use Rattle.exi_events.proofs.Standings.{offered_in}

-- a document number that is offered names a root
pub names_offered : (s : PlainSchema) (p : Phase) (e : Event) (elements : List Opened) (bits : List Bool) (entries : List (ℕ × SpanAt)) (number : ℕ) → p ≡ phase.Before → e ≡ event.Document number → IsOffered s (state_of p elements bits entries) e →
    (name : ℕ) × (kind : ℕ) × IsRoot s.roots s.root_bits number (Kind name kind)
names_offered s p e elements bits entries number is same may =
    offered_in (λ (state : State) (x : Event). IsOffered s state x → (name : ℕ) × (kind : ℕ) × IsRoot s.roots s.root_bits number (Kind name kind)) p phase.Before e (event.Document number) elements bits entries is same
    (λ h. (h.2.name, h.2.kind, h.2.named)) may

-- more bits leave the writer ready
pub ready_more : (s : PlainSchema) (p : Phase) (elements : List Opened) (old new : BitPen) (table : Table SpanAt) → IsReadyAt s p elements (written_bits old) table → WritesMore old new → IsReadyAt s p elements (written_bits new) table
ready_more s p elements old new table ready more =
    record { cap = ready.cap; texts = are_kept old new table.entries more ready.texts; sound = ready.sound }

pub ready_root : (s : PlainSchema) (p : Phase) (elements : List Opened) (old new : BitPen) (table : Table SpanAt) (name kind : ℕ) → p ≡ phase.Before → IsReadyAt s p elements (written_bits old) table → WritesMore old new → IsRootOf s.kinds (length s.names) (Kind name kind) →
    IsReadyAt s (phase.AtRoot name kind) elements (written_bits new) table
ready_root s p elements old new table name kind is ready more fits =
    let none : elements ≡ [] = subst (λ (q : Phase). IsSound s q elements) is ready.sound in
    record { cap = ready.cap; texts = are_kept old new table.entries more ready.texts; sound = (none, fits.1, fits.2) }

-- the header and the number are put
pub document_put : (s : PlainSchema) (p : Phase) (e : Event) (elements : List Opened) (entries : List (ℕ × SpanAt)) (old new : BitPen) (number named name kind : ℕ) → p ≡ phase.Before → e ≡ event.Document number → named ≡ number → AreTexts (written_bits old) entries →
    Puts (SpellsFront s named) old new → IsRoot s.roots s.root_bits named (Kind name kind) →
    IsPut s (drafted old (state_of p elements (written_bits old) entries)) (drafted new (state_of (phase.AtRoot name kind) elements (written_bits new) entries)) (event_of e)
document_put s p e elements entries old new number named name kind is same one texts puts root =
    let kept = texts_kept old new puts.0 entries puts.2 texts in
    let front : SpellsFront s number puts.0 = subst (λ (n : ℕ). SpellsFront s n puts.0) one puts.1 in
    let is_root : IsRoot s.roots s.root_bits number (Kind name kind) = subst (λ (n : ℕ). IsRoot s.roots s.root_bits n (Kind name kind)) one root in
    offered_in (λ (state : State) (x : Event). IsPut s (drafted old state) (drafted new (state_of (phase.AtRoot name kind) elements (written_bits new) entries)) (event_of x)) p phase.Before e (event.Document number) elements (written_bits old) entries is same (
      puts.0,
      record { name = name; kind = kind; front = front.0; named = is_root; numbered = front.1; bits_are = front.2; leads = ap (λ (es : Entries). stands (AtRoot name kind) es) kept },
      adds old new _ _ puts.0 puts.2,
    )

-- the root has no bits
root_lacks : (s : PlainSchema) (name kind : ℕ) (entries : Entries) (pen : BitPen) (e : Event) → HasNoRoom s (drafted pen (stands (AtRoot name kind) entries)) (event_of e) → ⊥
root_lacks s name kind entries pen (event.Document number) h = absurd h.1.1
root_lacks s name kind entries pen (event.Start child) h = had_room pen pen [] (writes_none pen) (subst (λ (l : List Bool). Needs pen (length l)) h.1.1.1 h.2)
root_lacks s name kind entries pen (event.Attribute n v) h = absurd h.1.1
root_lacks s name kind entries pen (event.Value v) h = absurd h.1.1
root_lacks s name kind entries pen event.EndElement h = absurd h.1.1
root_lacks s name kind entries pen event.Finished h = absurd h

pub root_room : (s : PlainSchema) (p : Phase) (e : Event) (elements : List Opened) (bits : List Bool) (entries : List (ℕ × SpanAt)) (pen : BitPen) (name kind : ℕ) → p ≡ phase.AtRoot name kind → HasNoRoom s (drafted pen (state_of p elements bits entries)) (event_of e) → ⊥
root_room s p e elements bits entries pen name kind is h =
    root_lacks s name kind (texts_in bits entries) pen e (subst (λ (q : Phase). HasNoRoom s (drafted pen (state_of q elements bits entries)) (event_of e)) is h)

-- inside the root
pub inside_put : {R E : Type 0} (r : Result R E) (s : PlainSchema) (p : Phase) (e : Event) (elements moved : List Opened) (entries after : List (ℕ × SpanAt)) (old new : BitPen) → p ≡ phase.Inside →
    OnOk r (IsPut s (drafted old (stands (around elements) (texts_in (written_bits old) entries))) (drafted new (stands (around moved) (texts_in (written_bits new) after))) (event_of e)) →
    OnOk r (IsPut s (drafted old (state_of p elements (written_bits old) entries)) (drafted new (state_of p moved (written_bits new) after)) (event_of e))
inside_put r s p e elements moved entries after old new is put =
    subst (λ (q : Phase). OnOk r (IsPut s (drafted old (state_of q elements (written_bits old) entries)) (drafted new (state_of q moved (written_bits new) after)) (event_of e))) (sym is) put
