-- Where an event is put at once, if it is offered.
use Rattle.std.proofs.Common.{◌≡◌, ℕ, Bool, List, [], ◌∷◌, Some, slice_get, refl, sym, ap, subst, ◌∙◌}
use Rattle.exi_schema.specs.declared.places.Place.{Place}
use Rattle.exi_schema.specs.declared.places.Step.{Step}
use Rattle.exi_schema.specs.declared.places.Step.TheVariants as step
use Rattle.exi_schema.specs.declared.places.Sought.TheVariants as sought
use Rattle.exi_schema.specs.declared.tables.MemberStanding.{MemberStanding}
use Rattle.exi_schema.specs.Plain.{PlainKind}
use Rattle.exi_schema.specs.Steps.{IsSought}
use Rattle.exi_writing.specs.Grammar.{Opened}
use Rattle.exi_events.specs.declared.open.OpenElement.{OpenElement}
use Rattle.exi_schema.specs.Offers.{IsPlace, offers}
use Rattle.exi_schema.specs.Schemas.{PlainSchema}
use Rattle.document_laws.proofs.Names.{element_key, one_taken_by, ones_at}
use Rattle.exi_writing.specs.Documents.{element}
use Rattle.exi_writing.specs.Trees.{Value}
use Rattle.exi_events.specs.declared.child.ChildCode.{ChildCode}
use Rattle.exi_events.specs.Child.{StartsChild, MayWriteShort, OffersShort}
use Rattle.exi_events.specs.Open.{opened_of}
use Rattle.exi_events.proofs.Children.{child_code}
use Rattle.exi_events.proofs.Offering.{spells_code}
use Rattle.exi_events.specs.Inside.{AreOpen, HasTop}
use Rattle.exi_events.specs.Writer.{OffersStart, OffersEnd}

abbrev place_of : Place → List Opened → Place
place_of here [] = here
place_of here (top ∷ above) = top.place

module _ (kinds : List PlainKind) (top : Opened) (held : OpenElement) where
  pub same_place : (elements above : List Opened) → elements ≡ top ∷ above → HasTop elements held → top.place ≡ held.place
  same_place elements above is has = ap (place_of held.place) (sym is ∙ has.1)

  pub start_at : (name : ℕ) (elements above : List Opened) → elements ≡ top ∷ above → HasTop elements held → OffersStart kinds top.place name → OffersStart kinds held.place name
  start_at name elements above is has offers = subst (λ (here : Place). OffersStart kinds here name) (same_place elements above is has) offers

  pub end_at : (elements above : List Opened) → elements ≡ top ∷ above → HasTop elements held → OffersEnd kinds top.place → OffersEnd kinds held.place
  end_at elements above is has offers = subst (λ (here : Place). OffersEnd kinds here) (same_place elements above is has) offers

-- the place of the innermost element
pub top_place : (kinds : List PlainKind) (elements : List Opened) (held : OpenElement) → AreOpen kinds elements → HasTop elements held → IsPlace kinds held.place
top_place kinds elements held are has = let all : AreOpen kinds (opened_of held ∷ has.0) = subst (λ (es : List Opened). AreOpen kinds es) has.1 are in all.0

-- elements of one name are of one kind
pub same_kind : (s : PlainSchema) (here : Place) (name : ℕ) (child : ChildCode) (code kind : ℕ) (next : Place) → IsPlace s.kinds here → StartsChild s here name child → slice_get (offers s.kinds here) code ≡ Some (element name kind next) → kind ≡ child.kind
same_kind s here name child code kind next at starts offered =
    let mine = child_code s here name child starts in
    let other = spells_code s.kinds here code child.width (element name kind next) starts.is_width offered in
    let same : element name kind next ≡ element name child.kind child.next = (one_taken_by element_key s.kinds here name (element name kind next) (element name child.kind child.next) _ _ (ones_at s here at).elements other mine refl refl).0 in
    (let k : kind ≡ child.kind = cc in k)

pub short_at : (s : PlainSchema) (top : Opened) (held : OpenElement) (name : ℕ) (child : ChildCode) (value : Value) (elements above : List Opened) → elements ≡ top ∷ above → HasTop elements held → IsPlace s.kinds held.place →
    StartsChild s held.place name child → OffersShort s.kinds top.place name value → MayWriteShort s.kinds child.kind value
short_at s top held name child value elements above is has at starts offers =
    let here : OffersShort s.kinds held.place name value = subst (λ (p : Place). OffersShort s.kinds p name value) (same_place s.kinds top held elements above is has) offers in
    subst (λ (k : ℕ). MayWriteShort s.kinds k value) (same_kind s held.place name child here.code here.kind here.next at starts here.offered) here.may

-- what is looked for as an element is one
pub no_other : (here : Step) (n : ℕ) → IsSought here (sought.Element n) → ((name kind : ℕ) (next : Place) (standing : MemberStanding) (past : Bool) → here ≡ step.Element name kind next standing past → ⊥) → ⊥
no_other (step.Attribute name kind next) n is not = absurd is
no_other (step.Element name kind next standing past) n is not = not name kind next standing past refl
no_other step.End n is not = absurd is
no_other (step.Characters next) n is not = absurd is
