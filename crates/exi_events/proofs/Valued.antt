-- What a reader tells of a value and the end of its element.
use Rattle.std.proofs.Common.{◌≡◌, ℕ, Bool, List, ◌∷◌, Option, Some, None, Result, Ok, Err, IfOk, IfErr, refl, subst, sym, ◌∙◌, inl, inr}
use Rattle.exi_spec.specs.Bits.{bits_of}
use Rattle.exi_bits.specs.Reading.{Cursor, Takes}
use Rattle.exi_bits.specs.declared.span.SpanAt.{SpanAt}
use Rattle.exi_schema.specs.Schemas.{PlainSchema}
use Rattle.exi_writing.specs.Refusal.{Refusal}
use Rattle.exi_writing.specs.Grammar.{Opened, State, around, stands}
use Rattle.exi_writing.specs.Refusals.{IsRefused}
use Rattle.exi_writing.specs.Trees.{Event as TreeEvent, Content, EndElement}
use Rattle.exi_writing.specs.Values.{Entries, most_entries}
use Rattle.exi_writing.specs.Table.{Table}
use Rattle.exi_writing.specs.Event.{Event}
use Rattle.exi_writing.specs.Event.TheVariants as event
use Rattle.exi_writing.specs.Value.{Value}
use Rattle.exi_writing.specs.Meaning.{AreTexts, texts_in, event_of, value_of}
use Rattle.exi_events.specs.declared.reader.Phase.{Phase}
use Rattle.exi_events.specs.declared.reader.Phase.TheVariants as phase
use Rattle.exi_events.specs.Inside.{AreOpen, SpellsInside, TakesWhole, RefusesWhole}
use Rattle.exi_events.specs.Reader.{state_of, IsSound, IsReadyAt, IsNext, HasTold, Reading, reading, TakesValue}
use Rattle.exi_events.proofs.Told.{told_more, told_refused}

next_of : (s : PlainSchema) (e : Event) (elements moved : List Opened) (before after : Entries) (old new : Cursor) →
    Takes (SpellsInside s elements before e moved after) old new →
    IsNext (reading s (stands (around elements) before) old) (reading s (stands (around moved) after) new) (event_of e)
next_of s e elements moved before after old new took =
    let P : Option TreeEvent → Type 0 = λ o. IsNext (reading s (stands (around elements) before) old) (reading s (stands (around moved) after) new) o in
    subst P (sym took.1.1) (took.0, took.1.2, took.2)

pub whole_taken : (s : PlainSchema) (v : Value) (elements popped : List Opened) (before after : Entries) (old new : Cursor) → TakesWhole s elements before v popped after old new →
    TakesValue (reading s (stands (around elements) before) old) (reading s (stands (around popped) after) new) (value_of v)
whole_taken s v elements popped before after old new w =
    let content = next_of s (event.Value v) elements w.moved before after old w.middle w.content in
    let end = next_of s event.EndElement w.moved popped after after w.middle new w.end in
    record {
      behind = reading s (stands (around w.moved) after) w.middle;
      same_schema = refl;
      same_bits = w.content.2.same;
      content = content;
      told = λ events has. told_more s s _ _ _ _ (event.Value v) refl content events has (Content (value_of v)) refl;
      end = end;
      told_end = λ events has. told_more s s _ _ _ _ event.EndElement refl end events has EndElement refl;
    }

-- a value, or the end behind it, is refused
pub whole_refused : (s : PlainSchema) (elements : List Opened) (entries : Entries) (old : Cursor) (r : Refusal) → RefusesWhole s elements entries old r →
    (payload : List ℕ) (events : List TreeEvent) → bits_of payload ≡ old.bits → HasTold (reading s (stands (around elements) entries) old) events → IsRefused s payload r.cause r.bit
whole_refused s elements entries old r (inl refused) payload events bits_are has = told_refused s (stands (around elements) entries) old r refused payload events bits_are has
whole_refused s elements entries old r (inr (v, moved, middle, behind, took, same_bits, refused)) payload events bits_are has =
    let content = next_of s (event.Value v) elements moved entries behind old middle took in
    told_refused s (stands (around moved) behind) middle r refused payload (Content (value_of v) ∷ events) (bits_are ∙ sym same_bits)
    (told_more s s _ _ _ _ (event.Value v) refl content events has (Content (value_of v)) refl)

-- inside the root, over the same bits
module _ (s : PlainSchema) (p : Phase) (elements popped : List Opened) (bits : List Bool) (before after : List (ℕ × SpanAt)) (old new : Cursor) (is : p ≡ phase.Inside) (same : new.bits ≡ bits) where
  abbrev Ahead : Phase → Reading
  Ahead q = reading s (state_of q elements bits before) old

  abbrev Behind : Phase → List Bool → Reading
  Behind q b = reading s (state_of q popped b after) new

  of_whole : (v : Value) → TakesWhole s elements (texts_in bits before) v popped (texts_in bits after) old new → TakesValue (Ahead p) (Behind p new.bits) (value_of v)
  of_whole v w =
      let P : Phase → List Bool → Type 0 = λ q b. TakesValue (Ahead q) (Behind q b) (value_of v) in
      subst (λ q. P q new.bits) (sym is) (subst (λ b. P phase.Inside b) (sym same) (whole_taken s v elements popped (texts_in bits before) (texts_in bits after) old new w))

  pub value_taken : (result : Result Value Refusal) → IfOk result (λ v. TakesWhole s elements (texts_in bits before) v popped (texts_in bits after) old new) →
      IfOk result (λ v. TakesValue (Ahead p) (Behind p new.bits) (value_of v))
  value_taken (Ok v) took = of_whole v took
  value_taken (Err r) took = took

  pub value_told : (result : Result Value Refusal) → IfOk result (λ v. TakesWhole s elements (texts_in bits before) v popped (texts_in bits after) old new) →
      (events : List TreeEvent) → HasTold (Ahead p) events → IfOk result (λ _. (more : List TreeEvent) × HasTold (Behind p new.bits) more)
  value_told (Ok v) took events has =
      let w = of_whole v took in (EndElement ∷ Content (value_of v) ∷ events, w.told_end (Content (value_of v) ∷ events) (w.told events has))
  value_told (Err r) took events has = took

  pub value_unread : (result : Result Value Refusal) → IfErr result (RefusesWhole s elements (texts_in bits before) old) → (payload : List ℕ) (events : List TreeEvent) → bits_of payload ≡ old.bits →
      HasTold (Ahead p) events → IfErr result (λ r. IsRefused s payload r.cause r.bit)
  value_unread (Ok v) refused payload events bits_are has = refused
  value_unread (Err r) refused payload events bits_are has = whole_refused s elements (texts_in bits before) old r refused payload events bits_are (subst (λ q. HasTold (Ahead q) events) is has)

-- a reader stays ready
pub stays_ready : (s : PlainSchema) (p : Phase) (elements popped : List Opened) (bits moved : List Bool) (table : Table SpanAt) → p ≡ phase.Inside → moved ≡ bits →
    IsSound s p elements → (AreOpen s.kinds elements → AreOpen s.kinds popped) → AreTexts bits table.entries → table.cap ≡ most_entries → IsReadyAt s p popped moved table
stays_ready s p elements popped bits moved table is same sound opens texts cap =
    let open_before : AreOpen s.kinds elements = subst (λ q. IsSound s q elements) is sound in
    record {
      cap = cap;
      texts = subst (λ b. AreTexts b table.entries) (sym same) texts;
      sound = subst (λ q. IsSound s q popped) (sym is) (opens open_before);
    }

-- ---- another event

told_by : (s t : PlainSchema) (old new : State) (before after : Cursor) (e : Event) (o : Option TreeEvent) → t ≡ s → event_of e ≡ o → IsNext (reading s old before) (reading t new after) o →
    (events : List TreeEvent) → HasTold (reading s old before) events → (more : List TreeEvent) × HasTold (reading t new after) more
told_by s t old new before after e None same is next events has =
    let P : State → Cursor → Type 0 = λ st cu. HasTold (reading s st cu) events in
    let kept : P new after = subst (λ st. P st after) (sym next.2) (subst (λ cu. P old cu) (sym next.3) has) in
    (events, subst (λ (x : PlainSchema). HasTold (reading x new after) events) (sym same) kept)
told_by s t old new before after e (Some now) same is next events has =
    let at = subst (λ o. IsNext (reading s old before) (reading t new after) o) (sym is) next in
    (now ∷ events, told_more s t old new before after e same at events has now is)

pub told_on : (s t : PlainSchema) (old new : State) (before after : Cursor) (e : Event) → t ≡ s → IsNext (reading s old before) (reading t new after) (event_of e) →
    (events : List TreeEvent) → HasTold (reading s old before) events → (more : List TreeEvent) × HasTold (reading t new after) more
told_on s t old new before after e same next events has = told_by s t old new before after e (event_of e) same refl next events has
