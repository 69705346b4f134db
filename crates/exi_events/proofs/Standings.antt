-- What is offered before a document, at its root and inside it.
use Rattle.std.proofs.Common.{◌≡◌, ℕ, eqb, Bool, true, false, List, [], ◌∷◌, ◌++◌, refl, sym, subst, ◌∙◌, inl, inr, IsTrue, ◌↔◌, Option, Some, None, IsSome}
use Rattle.std.specs.Prelude.{IfSome}
use Rattle.std.specs.List.{AllByRecursion}
use Rattle.std.proofs.lemmas.Bool.Decides.{eqb_tells}
use Rattle.exi_spec.specs.Bits.{number_bits}
use Rattle.exi_bits.specs.declared.span.SpanAt.{SpanAt}
use Rattle.exi_schema.specs.declared.places.Root.TheVariants.{Kind}
use Rattle.exi_schema.specs.Offers.{IsPlace}
use Rattle.exi_schema.specs.Plain.{PlainKind}
use Rattle.exi_schema.specs.Schemas.{PlainSchema}
use Rattle.exi_schema.specs.Steps.{IsRoot}
use Rattle.exi_writing.specs.Documents.{header, first}
use Rattle.exi_writing.specs.Grammar.{Opened, opened, AtRoot, Inside, State, around, stands}
use Rattle.exi_writing.specs.Event.{Event}
use Rattle.exi_writing.specs.Event.TheVariants as event
use Rattle.exi_writing.specs.Meaning.{texts_in}
use Rattle.exi_events.specs.declared.offer.Found.{Found}
use Rattle.exi_events.specs.declared.offer.Found.TheVariants as found
use Rattle.exi_schema.specs.declared.places.Offer.{Offer}
use Rattle.exi_events.specs.declared.open.OpenElement.{OpenElement}
use Rattle.exi_events.specs.declared.reader.Phase.{Phase}
use Rattle.exi_events.specs.declared.reader.Phase.TheVariants as phase
use Rattle.document_laws.specs.Laws.{IsStanding}
use Rattle.exi_events.specs.Inside.{AreOpen, HasTop}
use Rattle.exi_events.specs.Open.{opened_of}
use Rattle.exi_events.specs.Reader.{IsSound, standing_of, state_of}
use Rattle.exi_events.specs.Writer.{IsOffered, IsFound, IsFoundAt, IsFoundIn}
use Rattle.exi_events.proofs.Rooted.{root_range}

-- the standing is known
pub offered_in : (P : State → Event → Type 0) (p q : Phase) (e d : Event) (elements : List Opened) (bits : List Bool) (entries : List (ℕ × SpanAt)) → p ≡ q → e ≡ d → P (state_of q elements bits entries) d → P (state_of p elements bits entries) e
offered_in P p q e d elements bits entries is same h =
    subst (λ (x : Event). P (state_of p elements bits entries) x) (sym same) (subst (λ (x : Phase). P (state_of x elements bits entries) d) (sym is) h)

pub document_decides : (s : PlainSchema) (p : Phase) (e : Event) (elements : List Opened) (bits : List Bool) (entries : List (ℕ × SpanAt)) (number : ℕ) (b : Bool) → p ≡ phase.Before → e ≡ event.Document number →
    (IsTrue b ↔ ((name : ℕ) × (kind : ℕ) × IsRoot s.roots s.root_bits number (Kind name kind))) → (IsTrue b ↔ IsOffered s (state_of p elements bits entries) e)
document_decides s p e elements bits entries number b is same named =
    offered_in (λ (state : State) (x : Event). IsTrue b ↔ IsOffered s state x) p phase.Before e (event.Document number) elements bits entries is same (
      (λ t.
          let h = named.0 t in
          let front = number_bits s.root_bits number in (
            header ++ front,
            stands (AtRoot h.0 h.1) (texts_in bits entries),
            record { name = h.0; kind = h.1; front = front; named = h.2; numbered = record { range = root_range s number h.0 h.1 h.2; spelled = refl }; bits_are = refl; leads = refl },
          )),
      (λ h. named.1 (h.2.name, h.2.kind, h.2.named)),
    )

pub start_decides : (s : PlainSchema) (p : Phase) (e : Event) (elements : List Opened) (bits : List Bool) (entries : List (ℕ × SpanAt)) (name kind child : ℕ) → p ≡ phase.AtRoot name kind → e ≡ event.Start child →
    (IsTrue (eqb child name) ↔ IsOffered s (state_of p elements bits entries) e)
start_decides s p e elements bits entries name kind child is same =
    offered_in (λ (state : State) (x : Event). IsTrue (eqb child name) ↔ IsOffered s state x) p (phase.AtRoot name kind) e (event.Start child) elements bits entries is same
    (elim (eqb_tells child name) [
      | inl h ↦ ((λ t. ([], stands (Inside (opened child (first kind)) []) (texts_in bits entries), (h.1, refl, refl))), (λ m. h.0))
      | inr h ↦ ((λ t. absurd (false_is (sym h.0 ∙ t))), (λ m. absurd (h.1 m.2.0)))
    ])
  where
    false_is : false ≡ true → ⊥
    false_is e = absurd cc

pub inside_decides : (s : PlainSchema) (p : Phase) (e : Event) (elements : List Opened) (bits : List Bool) (entries : List (ℕ × SpanAt)) (top : OpenElement) (Q : Type 0) → p ≡ phase.Inside → HasTop elements top →
    ((above : List Opened) → (Q ↔ IsOffered s (stands (Inside (opened_of top) above) (texts_in bits entries)) e)) → (Q ↔ IsOffered s (state_of p elements bits entries) e)
inside_decides s p e elements bits entries top Q is has decides =
    offered_in (λ (state : State) (x : Event). Q ↔ IsOffered s state x) p phase.Inside e e elements bits entries is refl
    (subst (λ (es : List Opened). Q ↔ IsOffered s (stands (around es) (texts_in bits entries)) e) (sym has.1) (decides has.0))

pub iff_both : {A B C : Type 0} → (A ↔ B) → (B ↔ C) → (A ↔ C)
iff_both p q = ((λ a. q.0 (p.0 a)), (λ c. p.1 (q.1 c)))

-- ---- what is found of an event inside an element

pub inside_found : (s : PlainSchema) (p : Phase) (elements : List Opened) (top : OpenElement) (f : Found) (e : Event) → p ≡ phase.Inside → HasTop elements top → IsFoundIn s top.place f e → IsFoundAt s (standing_of p elements) f e
inside_found s p elements top f e is has h =
    let P : Phase → List Opened → Type 0 = λ q es. IsFoundAt s (standing_of q es) f e in
    subst (λ (q : Phase). P q elements) (sym is) (subst (λ (es : List Opened). P phase.Inside es) (sym has.1) h)

pub all_some : {X : Type 0} (o : Option X) (P : X → Type 0) → ((x : X) → P x) → IfSome o P
all_some None P each = tt
all_some (Some x) P each = each x

pub found_before : (s : PlainSchema) (p : Phase) (elements : List Opened) (f : Found) (e : Event) → p ≡ phase.Before → IsFoundAt s (standing_of p elements) f e
found_before s p elements f e is = subst (λ (q : Phase). IsFoundAt s (standing_of q elements) f e) (sym is) tt

pub found_at_root : (s : PlainSchema) (p : Phase) (elements : List Opened) (f : Found) (e : Event) (name kind : ℕ) → p ≡ phase.AtRoot name kind → IsFoundAt s (standing_of p elements) f e
found_at_root s p elements f e name kind is = subst (λ (q : Phase). IsFoundAt s (standing_of q elements) f e) (sym is) tt

-- the code that is found inside
pub found_by_offer : (s : PlainSchema) (p : Phase) (elements : List Opened) (top : OpenElement) (offer : Option Offer) (r : Option Found) (e : Event) → p ≡ phase.Inside → HasTop elements top →
    IfSome offer (λ o. IsFound s top.place o e) → IfSome r (λ f. IfSome offer (λ o. f ≡ found.Inside o)) → (IsSome r ↔ IsSome offer) → IfSome r (λ f. IsFoundAt s (standing_of p elements) f e)
found_by_offer s p elements top offer None e is has good same some = tt
found_by_offer s p elements top None (Some f) e is has good same some = let wrong : false ≡ true = some.0 refl in absurd cc
found_by_offer s p elements top (Some o) (Some f) e is has good same some =
    inside_found s p elements top f e is has (subst (λ (x : Found). IsFoundIn s top.place x e) (sym same) good)

-- ---- where a reader or a writer stands is in the schema

open_places : (kinds : List PlainKind) (elements : List Opened) → AreOpen kinds elements → AllByRecursion (λ o. IsPlace kinds o.place) elements
open_places kinds [] open_all = tt {0}
open_places kinds (top ∷ above) open_all = (open_all.0, open_places kinds above open_all.2)

around_stands : (s : PlainSchema) (elements : List Opened) → AreOpen s.kinds elements → IsStanding s (around elements)
around_stands s [] all = tt {0}
around_stands s (top ∷ above) all = (all.0, open_places s.kinds above all.2)

pub sound_stands : (s : PlainSchema) (p : Phase) (elements : List Opened) → IsSound s p elements → IsStanding s (standing_of p elements)
sound_stands s phase.Before elements is = tt {0}
sound_stands s (phase.AtRoot name kind) elements is = is.1
sound_stands s phase.Inside elements is = around_stands s elements is
