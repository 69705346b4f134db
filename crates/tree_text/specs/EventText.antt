-- Own: what each event of a document adds to the text of its tree.
use Rattle.std.specs.Prelude.{◌≡◌, ℕ, Bool, List, [], ◌∷◌, ◌++◌, codes, Option, Some, None}
use Rattle.exi_schema.specs.declared.places.Place.{Place}
use Rattle.exi_schema.specs.declared.places.Step.TheVariants as step
use Rattle.exi_schema.specs.Schemas.{PlainSchema}
use Rattle.exi_documents.specs.Grammar.{State, start, Moves}
use Rattle.exi_documents.specs.Trees.{Value, Event, Document, Start, Attribute, Content, EndElement}
use Rattle.exi_documents.specs.Documents.{Speller}
use Rattle.exi_events.specs.Reader.{innermost_place}
use Rattle.tree_text.specs.TreeText.{IsValueText, IsName, IsNamedText, IsOffered}
use Rattle.tree_text.specs.declared.print.TextEnd.{TextEnd}
use Rattle.tree_text.specs.declared.print.TextEnd.TheVariants as ends

-- what the text ends with behind an event
abbrev pub end_of : Event → TextEnd
end_of (Document number) = ends.Nothing
end_of (Start name) = ends.Name
end_of (Attribute name value) = ends.Part
end_of (Content value) = ends.Value
end_of EndElement = ends.Part

-- and behind events, the newest first
abbrev pub text_end : List Event → TextEnd
text_end [] = ends.Nothing
text_end (event ∷ events) = end_of event

-- what goes before an attribute or an element: the first part of an element opens its brace, another is behind a space
abbrev pub gap : TextEnd → List ℕ
gap ends.Nothing = []
gap ends.Name = codes "{"
gap ends.Value = []
gap ends.Part = codes " "

-- what ends an element: nothing behind its value, else its brace
abbrev pub closing : TextEnd → List ℕ
closing ends.Nothing = []
closing ends.Name = codes "{}"
closing ends.Value = []
closing ends.Part = codes "}"

abbrev pub AddsStart : PlainSchema → TextEnd → ℕ → List ℕ → Type 0
AddsStart s before name added = (word : List ℕ) × IsName s name word × (added ≡ gap before ++ word)

-- an attribute has the kind that is offered at the place
abbrev pub AddsAttribute : PlainSchema → TextEnd → Place → ℕ → Value → List ℕ → Type 0
AddsAttribute s before here name value added =
    (kind : ℕ) × (next : Place) × (part : List ℕ)
    × IsOffered s here (step.Attribute name kind next)
    × IsNamedText s name kind value part
    × (added ≡ gap before ++ codes "@" ++ part)

abbrev pub AddsContent : PlainSchema → Place → Value → List ℕ → Type 0
AddsContent s here value added = (said : List ℕ) × IsValueText s here.kind value said × (added ≡ codes "=" ++ said)

-- an event at the place reached in the innermost element adds this behind such an end
abbrev pub Adds : PlainSchema → TextEnd → Option Place → Event → List ℕ → Type 0
Adds s before place (Document number) added = added ≡ []
Adds s before place (Start name) added = AddsStart s before name added
Adds s before (Some here) (Attribute name value) added = AddsAttribute s before here name value added
Adds s before None (Attribute name value) added = ⊥
Adds s before (Some here) (Content value) added = AddsContent s here value added
Adds s before None (Content value) added = ⊥
Adds s before place EndElement added = added ≡ closing before

-- the events so far, the newest first, lead to a state, and this is their text
abbrev pub Tells : Speller → PlainSchema → List Event → List ℕ → State → Type 0
Tells V s [] text state = (text ≡ []) × (state ≡ start)
Tells V s (event ∷ events) text state =
    (before : State) × (bits : List Bool) × (front : List ℕ) × (added : List ℕ)
    × Tells V s events front before
    × Moves V s before event bits state
    × Adds s (text_end events) (innermost_place before.standing) event added
    × (text ≡ front ++ added)
