-- What a reader tells next.
use Rattle.std.proofs.Common.{◌≡◌, ℕ, ◌+◌, ◌<◌, Bool, List, ◌∷◌, ◌++◌, length, length-append, append_assoc, Option, Some, None, Result, Ok, Err, IfOk, refl, ap, subst, sym, ◌∙◌, arith}
use Rattle.exi_spec.specs.Bits.{bits_of}
use Rattle.exi_bits.specs.Reading.{Cursor, Takes, ahead}
use Rattle.exi_bits.specs.declared.span.SpanAt.{SpanAt}
use Rattle.exi_schema.specs.Schemas.{PlainSchema}
use Rattle.exi_writing.specs.Refusal.{Refusal}
use Rattle.exi_writing.specs.Grammar.{Opened, Standing, Behind, State, stands, Moves, Reaches}
use Rattle.exi_writing.specs.Refusals.{IsRefused}
use Rattle.exi_writing.specs.Values.{SpellsValue}
use Rattle.document_laws.proofs.Payloads.{shrinks_at}
use Rattle.document_laws.proofs.Told.{tell_trees}
use Rattle.exi_writing.specs.Trees.{Event as TreeEvent}
use Rattle.exi_writing.specs.Event.{Event}
use Rattle.exi_writing.specs.Event.TheVariants as event
use Rattle.exi_writing.specs.Meaning.{texts_in, event_of}
use Rattle.exi_events.specs.declared.reader.Phase.{Phase}
use Rattle.exi_events.specs.declared.reader.Phase.TheVariants as phase
use Rattle.exi_events.specs.Inside.{SpellsInside}
use Rattle.exi_events.specs.Reader.{state_of, IsNext, IsRefusedAt, HasTold, IsTold, Reading, reading, events_left}

pub event_next : (s : PlainSchema) (e : Event) (elements moved : List Opened) (bits : List Bool) (before after : List (ℕ × SpanAt)) (old new : Cursor) →
    Takes (SpellsInside s elements (texts_in bits before) e moved (texts_in bits after)) old new →
    IsNext (reading s (state_of phase.Inside elements bits before) old) (reading s (state_of phase.Inside moved bits after) new) (event_of e)
event_next s e elements moved bits before after old new took =
    let P : Option TreeEvent → Type 0 = λ o. IsNext (reading s (state_of phase.Inside elements bits before) old) (reading s (state_of phase.Inside moved bits after) new) o in
    subst P (sym took.1.1) (took.0, took.1.2, took.2)

pub inside_next : (s : PlainSchema) (result : Result Event Refusal) (p : Phase) (elements moved : List Opened) (bits : List Bool) (before after : List (ℕ × SpanAt)) (old new : Cursor) → p ≡ phase.Inside → new.bits ≡ bits →
    IfOk result (λ e. Takes (SpellsInside s elements (texts_in bits before) e moved (texts_in bits after)) old new) →
    IfOk result (λ e. IsNext (reading s (state_of p elements bits before) old) (reading s (state_of p moved new.bits after) new) (event_of e))
inside_next s (Ok e) p elements moved bits before after old new is same took =
    let P : Phase → List Bool → Type 0 = λ q b. IsNext (reading s (state_of q elements bits before) old) (reading s (state_of q moved b after) new) (event_of e) in
    subst (λ q. P q new.bits) (sym is) (subst (λ b. P phase.Inside b) (sym same) (event_next s e elements moved bits before after old new took))
inside_next s (Err r) p elements moved bits before after old new is same took = took

-- ---- whole documents

pub told_more : (s t : PlainSchema) (old new : State) (before after : Cursor) (e : Event) → t ≡ s → IsNext (reading s old before) (reading t new after) (event_of e) →
    (events : List TreeEvent) → HasTold (reading s old before) events → (told : TreeEvent) → event_of e ≡ Some told → HasTold (reading t new after) (told ∷ events)
told_more s t old new before after e same next events has told is =
    let took : Takes (λ bits. Moves SpellsValue s old told bits new) before after = subst (λ o. IsNext (reading s old before) (reading t new after) o) is next in
    let there : after.bits ≡ (has.0 ++ took.0) ++ ahead after =
    took.2.same ∙ has.2 ∙ ap (λ xs. has.0 ++ xs) took.2.there ∙ sym (append_assoc has.0 took.0 (ahead after)) in
    let place : after.place ≡ length (has.0 ++ took.0) =
    took.2.moved ∙ ap (λ n. n + length took.0) has.3 ∙ sym (length-append has.0 took.0) in
    subst (λ (x : PlainSchema). HasTold (reading x new after) (told ∷ events)) (sym same) (has.0 ++ took.0, (old, has.0, took.0, has.1, took.1, refl), there, place)

pub told_all : (s : PlainSchema) (old new : State) (before after : Cursor) (e : Event) → IsNext (reading s old before) (reading s new after) (event_of e) →
    (payload : List ℕ) (events : List TreeEvent) → bits_of payload ≡ before.bits → HasTold (reading s old before) events → event_of e ≡ None → IsTold s events payload
told_all s old new before after e next payload events bits has is =
    let ends : (old.standing ≡ Behind) × (length (ahead before) < 8) × (new ≡ old) × (after ≡ before) = subst (λ o. IsNext (reading s old before) (reading s new after) o) is next in
    let P : Standing → Type 0 = λ st. Reaches SpellsValue s events has.0 (stands st old.entries) in
    let behind : P Behind = subst P ends.0 has.1 in
    let tells = (tell_trees SpellsValue s).told events has.0 old.entries behind in
    (tells.0, tells.1, tells.2, record { number = tells.0; bits = has.0; pad = ahead before; spelled = tells.3; few = ends.1; bits_are = bits ∙ has.2 })

pub told_refused : (s : PlainSchema) (old : State) (before : Cursor) (r : Refusal) → IsRefusedAt (reading s old before) r →
    (payload : List ℕ) (events : List TreeEvent) → bits_of payload ≡ before.bits → HasTold (reading s old before) events → IsRefused s payload r.cause r.bit
told_refused s old before r at payload events bits has =
    record { events = events; state = old; front = has.0; rest = ahead before; at = at.0; reached = has.1; bits_are = bits ∙ has.2; refused = at.1; place = at.2 ∙ ap (λ n. n + at.0) has.3 }

-- ---- a loop over the events

pub only_finished : (e : Event) → event_of e ≡ None → e ≡ event.Finished
only_finished event.Finished is = refl
only_finished other is = absurd cc

fewer_by : (o : Option TreeEvent) (old new : Reading) → IsNext old new o → (o ≡ None → ⊥) → events_left new < events_left old
fewer_by None old new h some = absurd (some refl)
fewer_by (Some e) old new h some =
    omega (arith, shrinks_at old.schema old.state.standing old.state.entries new.state e h.0 h.1, ap length h.2.there, length-append h.0 (ahead new.cursor))

pub fewer_left : (old new : Reading) (e : Event) → IsNext old new (event_of e) → (e ≡ event.Finished → ⊥) → events_left new < events_left old
fewer_left old new e h going = fewer_by (event_of e) old new h (λ none. going (only_finished e none))
