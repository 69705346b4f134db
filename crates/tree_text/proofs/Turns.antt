-- A turn of the printer's loop.
use Rattle.std.proofs.Common.{◌≡◌, ℕ, List, ◌∷◌, ◌++◌, Option, Some, None, refl, sym, subst}
use Rattle.std.specs.Prelude.{IfSome}
use Rattle.exi_bits.specs.Reading.{Cursor}
use Rattle.exi_schema.specs.declared.places.Place.{Place}
use Rattle.exi_schema.specs.Schemas.{PlainSchema}
use Rattle.exi_documents.specs.Grammar.{State}
use Rattle.exi_documents.specs.Trees.{Tree, Event}
use Rattle.exi_documents.specs.Documents.{IsDocument}
use Rattle.exi_documents.specs.Values.{SpellsValue}
use Rattle.exi_events.specs.Reader.{innermost_place, IsNext, HasTold, IsTold, reading}
use Rattle.tree_text.specs.TreeText.{IsTreeText}
use Rattle.tree_text.specs.EventText.{text_end, Adds, Tells}
use Rattle.tree_text.specs.Printing.{IsEndBehind}
use Rattle.tree_text.specs.declared.print.TextEnd.{TextEnd}
use Rattle.tree_text.proofs.Tied.{document_told}
use Rattle.document_laws.proofs.Standings.{standing_reached}
use Rattle.tree_text.proofs.Told.{has_text, named_reached, adds}

-- what an event tells has a text
pub has_added : (s : PlainSchema) (o : Option Event) (events : List Event) (end : TextEnd) (place : Option Place) (old new : State) (before after : Cursor) →
    HasTold (reading s old before) events → place ≡ innermost_place old.standing → IsNext (reading s old before) (reading s new after) o → IfSome o (λ told. (added : List ℕ) × Adds s end place told added)
has_added s None events end place old new before after told is h = tt
has_added s (Some event) events end place old new before after told is h =
    let here = standing_reached SpellsValue s events told.0 old told.1 in
    let named = named_reached SpellsValue s (has_text s) events told.0 old told.1 in
    subst (λ (p : Option Place). (added : List ℕ) × Adds s end p event added) (sym is) (adds SpellsValue s (has_text s) end old new event h.0 here named h.1)

-- the text goes on with it
pub told_on : (s u : PlainSchema) (o : Option Event) (end next : TextEnd) (place : Option Place) (old new : State) (before after : Cursor) (text longer : List ℕ) →
    ((events : List Event) × HasTold (reading s old before) events × Tells SpellsValue s events text old × (end ≡ text_end events)) → place ≡ innermost_place old.standing →
    IsNext (reading s old before) (reading u new after) o → (o ≡ None → ⊥) →
    ((events : List Event) → HasTold (reading s old before) events → (told : Event) → o ≡ Some told → HasTold (reading u new after) (told ∷ events)) →
    IfSome o (λ told. (added : List ℕ) × Adds s end place told added × (longer ≡ text ++ added)) → IsEndBehind o next →
    (events : List Event) × HasTold (reading u new after) events × Tells SpellsValue s events longer new × (next ≡ text_end events)
told_on s u None end next place old new before after text longer told is h some more put ends = absurd (some refl)
told_on s u (Some event) end next place old new before after text longer told is h some more put ends =
    let adds_here = subst (λ (p : Option Place). Adds s (text_end told.0) p event put.0) is (subst (λ (e : TextEnd). Adds s e place event put.0) told.3 put.1) in
    (event ∷ told.0, more told.0 told.1 event refl, (old, h.0, text, put.0, told.2, h.1, adds_here, put.2), ends)

-- ---- the reader's schema is that of the printer

pub has_added_in : (s t u : PlainSchema) (o : Option Event) (events : List Event) (end : TextEnd) (place : Option Place) (old new : State) (before after : Cursor) → s ≡ t →
    HasTold (reading s old before) events → place ≡ innermost_place old.standing → IsNext (reading s old before) (reading u new after) o → IfSome o (λ told. (added : List ℕ) × Adds t end place told added)
has_added_in s t u o events end place old new before after same told is h =
    subst (λ (x : PlainSchema). IfSome o (λ event. (added : List ℕ) × Adds x end place event added)) same (has_added s o events end place old new before after told is h)

pub told_on_in : (s t u : PlainSchema) (o : Option Event) (end next : TextEnd) (place : Option Place) (old new : State) (before after : Cursor) (text longer : List ℕ) → s ≡ t → u ≡ s →
    ((events : List Event) × HasTold (reading s old before) events × Tells SpellsValue s events text old × (end ≡ text_end events)) → place ≡ innermost_place old.standing →
    IsNext (reading s old before) (reading u new after) o → (o ≡ None → ⊥) →
    ((events : List Event) → HasTold (reading s old before) events → (told : Event) → o ≡ Some told → HasTold (reading u new after) (told ∷ events)) →
    IfSome o (λ told. (added : List ℕ) × Adds t end place told added × (longer ≡ text ++ added)) → IsEndBehind o next →
    (events : List Event) × HasTold (reading u new after) events × Tells SpellsValue u events longer new × (next ≡ text_end events)
told_on_in s t u o end next place old new before after text longer same kept told is h some more put ends =
    let r = told_on s u o end next place old new before after text longer told is h some more
    (subst (λ (x : PlainSchema). IfSome o (λ event. (added : List ℕ) × Adds x end place event added × (longer ≡ text ++ added))) (sym same) put) ends in
    (r.0, r.1, subst (λ (x : PlainSchema). Tells SpellsValue x r.0 longer new) (sym kept) r.2, r.3)

-- behind the last event
pub all_told : (s t : PlainSchema) (events : List Event) (payload text : List ℕ) (state : State) → s ≡ t → IsTold s events payload → Tells SpellsValue s events text state → (tree : Tree) × IsDocument t tree payload × IsTreeText t tree text
all_told s t events payload text state same told tells =
    let is = document_told SpellsValue s told.0 told.1 text state (subst (λ (l : List Event). Tells SpellsValue s l text state) told.2 tells) in
    (told.1, subst (λ (x : PlainSchema). IsDocument x told.1 payload) same told.3, subst (λ (x : PlainSchema). IsTreeText x told.1 text) same is)
