-- The events of a text, from either end.
use Rattle.std.proofs.Common.{◌≡◌, ℕ, ◌⊎◌, inl, inr, List, [], ◌∷◌, ◌++◌, Option, Some, None, slice_get, refl, sym, ap, subst, ◌∙◌, append_assoc}
use Rattle.std.specs.List.{AllByRecursion}
use Rattle.std.proofs.lemmas.List.{append-nil}
use Rattle.exi_schema.specs.Schemas.{PlainSchema}
use Rattle.exi_schema.specs.Plain.{PlainKind, valued, containing}
use Rattle.exi_documents.specs.Trees.{Event, Document, Start, Attribute, Content, EndElement}
use Rattle.dialect_text.specs.declared.elements.Filling.{Filling}
use Rattle.dialect_text.specs.declared.elements.Filling.TheVariants as fills
use Rattle.dialect_text.specs.declared.elements.OpenElement.{OpenElement}
use Rattle.dialect_text.specs.Dialect.{Standing, Before, AtRoot, Within, gap, IsBeforeElements, IsEndText, Adds, Says, IsDialectText, IsOfDialect}
use Rattle.dialect_text.specs.Languages.{Goes, Completes}
use Rattle.dialect_text.specs.Scanning.{IsNested}
use Rattle.dialect_text.proofs.Values.{EndsValue, at_end, at_space, at_brace}

-- ---- events in both orders

-- the events with others behind them, the newest first
abbrev pub onto : List Event → List Event → List Event
onto [] events = events
onto (event ∷ more) events = onto more (event ∷ events)

-- what is said and goes on is a text
pub says_on : (s : PlainSchema) (es events : List Event) (front rest : List ℕ) (standing : Standing) → Says s events front standing → Goes s standing es rest → IsDialectText s (onto es events) (front ++ rest)
says_on s [] events front rest standing says goes =
    subst (λ (t : List ℕ). IsDialectText s events t) (sym (append-nil front) ∙ ap (λ (bs : List ℕ). front ++ bs) (sym goes.0))
    (subst (λ (x : Standing). Says s events front x) goes.1 says)
says_on s (event ∷ es) events front rest standing says goes =
    subst (λ (t : List ℕ). IsDialectText s (onto es (event ∷ events)) t) (append_assoc front goes.1 goes.2 ∙ ap (λ (bs : List ℕ). front ++ bs) (sym goes.5))
    (says_on s es (event ∷ events) (front ++ goes.1) goes.2 goes.0 (standing, front, goes.1, says, goes.3, refl) goes.4)

pub goes_before : (s : PlainSchema) (events es : List Event) (front rest : List ℕ) (standing : Standing) → Says s events front standing → Goes s standing es rest → Goes s Before (onto events es) (front ++ rest)
goes_before s [] es front rest standing says goes =
    subst (λ (t : List ℕ). Goes s Before es t) (ap (λ (bs : List ℕ). bs ++ rest) (sym says.0))
    (subst (λ (x : Standing). Goes s x es rest) says.1 goes)
goes_before s (event ∷ events) es front rest standing says goes =
    subst (λ (t : List ℕ). Goes s Before (onto events (event ∷ es)) t) (sym (append_assoc says.1 says.2 rest) ∙ ap (λ (bs : List ℕ). bs ++ rest) (sym says.5))
    (goes_before s events (event ∷ es) says.1 (says.2 ++ rest) says.0 says.3 (standing, says.2, rest, says.4, goes, refl))

-- a text of the dialect is gone through from its start
pub from_start : (s : PlainSchema) (text : List ℕ) → IsOfDialect s text → Completes s Before text
from_start s text p =
    (onto p.0 [], subst (λ (t : List ℕ). Goes s Before (onto p.0 []) t) (append-nil text) (goes_before s p.0 [] text [] (Within []) p.1 (refl, refl)))

pub to_end : (s : PlainSchema) (text : List ℕ) → Completes s Before text → IsOfDialect s text
to_end s text p = (onto p.0 [], says_on s p.0 [] [] text Before (refl, refl) p.1)

onto_twice : (a b c : List Event) → onto (onto a b) c ≡ onto b (a ++ c)
onto_twice [] b c = refl
onto_twice (e ∷ a) b c = onto_twice a (e ∷ b) c

pub onto_once : (a b : List Event) → onto a [] ≡ onto b [] → a ≡ b
onto_once a b e =
    let back : (x : List Event) → onto (onto x []) [] ≡ x = λ x. onto_twice x [] [] ∙ append-nil x in
    sym (back a) ∙ ap (λ (x : List Event). onto x []) e ∙ back b

-- ---- elements inside one another

pub by_standing : (P : Standing → Type 0) {a b : Standing} → a ≡ b → P b → P a
by_standing P e p = subst P (sym e) p

nested_within : (above : List OpenElement) → AllByRecursion (λ e. e.filling ≡ fills.Elements) above → IsNested (Within above)
nested_within [] all = tt
nested_within (top ∷ above) all = all.1

pub nested_on : (s : PlainSchema) (old new : Standing) (event : Event) (added : List ℕ) → Adds s old event added new → IsNested old → IsNested new
nested_on s Before new (Document number) added p n = by_standing IsNested p.4 tt
nested_on s Before new _ added p n = absurd p
nested_on s (AtRoot root kind) new (Start name) added p n = by_standing IsNested p.2 tt
nested_on s (AtRoot root kind) new _ added p n = absurd p
nested_on s (Within []) new _ added p n = absurd p
nested_on s (Within (top ∷ above)) new (Document number) added p n = absurd p
nested_on s (Within (top ∷ above)) new (Start name) added p n = by_standing IsNested p.5 (refl, n)
nested_on s (Within (top ∷ above)) new (Attribute name value) added p n = by_standing IsNested p.6 n
nested_on s (Within (top ∷ above)) new (Content value) added p n = by_standing IsNested p.2 n
nested_on s (Within (top ∷ above)) new EndElement added p n = by_standing IsNested p.1 (nested_within above n)

-- ---- what stands behind a value

-- there is something in an element
abbrev pub IsSome : Filling → Type 0
IsSome fills.Nothing = ⊥
IsSome fills.Attributes = Unit {0}
IsSome fills.Elements = Unit {0}
IsSome fills.Value = Unit {0}

gap_some : (f : Filling) (x : List ℕ) → IsSome f → gap f ++ x ≡ 32 ∷ x
gap_some fills.Nothing x some = absurd some
gap_some fills.Attributes x some = refl
gap_some fills.Elements x some = refl
gap_some fills.Value x some = refl

not_nothing : (f : Filling) → IsSome f → f ≡ fills.Nothing → ⊥
not_nothing f some e = subst IsSome e some

behind_gap : (f : Filling) (part added rest text : List ℕ) → IsSome f → added ≡ gap f ++ part → text ≡ added ++ rest → EndsValue text
behind_gap f part added rest text some e g =
    at_space (part ++ rest) (g ∙ ap (λ (bs : List ℕ). bs ++ rest) e ∙ append_assoc (gap f) part rest ∙ gap_some f (part ++ rest) some)

-- at the end of an element there is a brace, or only a value in it
end_brace : (o : Option PlainKind) (f : Filling) (added rest text : List ℕ) → IsEndText o f added → text ≡ added ++ rest → EndsValue text ⊎ ((f ≡ fills.Value) × (text ≡ rest))
end_brace None f added rest text is e = absurd is
end_brace (Some (valued d)) f added rest text is e = inr (is.0, e ∙ ap (λ (bs : List ℕ). bs ++ rest) is.1)
end_brace (Some (containing attributes particles)) f added rest text is e = inl (at_brace rest (e ∙ ap (λ (bs : List ℕ). bs ++ rest) is))

behind_elements : (s : PlainSchema) (above : List OpenElement) (es : List Event) (text : List ℕ) → AllByRecursion (λ e. e.filling ≡ fills.Elements) above → Goes s (Within above) es text → EndsValue text
behind_elements s [] [] text all goes = at_end goes.0
behind_elements s [] (event ∷ es) text all goes = absurd goes.3
behind_elements s (top ∷ above) [] text all goes = let wrong : Within (top ∷ above) ≡ Within [] = goes.1 in absurd cc
behind_elements s (top ∷ above) (Document number ∷ es) text all goes = absurd goes.3
behind_elements s (top ∷ above) (Start name ∷ es) text all goes =
    behind_gap top.filling goes.3.1 goes.1 goes.2 text (subst IsSome (sym all.0) tt) goes.3.4 goes.5
behind_elements s (top ∷ above) (Attribute name value ∷ es) text all goes = absurd (subst IsBeforeElements all.0 goes.3.2)
behind_elements s (top ∷ above) (Content value ∷ es) text all goes = absurd (not_nothing top.filling (subst IsSome (sym all.0) tt) goes.3.0)
behind_elements s (top ∷ above) (EndElement ∷ es) text all goes =
    elim (end_brace (slice_get s.kinds top.kind) top.filling goes.1 goes.2 text goes.3.0 goes.5) [
      | inl ends ↦ ends
      | inr both ↦ let wrong : fills.Elements ≡ fills.Value = sym all.0 ∙ both.0 in absurd cc
    ]

pub behind_some : (s : PlainSchema) (top : OpenElement) (above : List OpenElement) (es : List Event) (text : List ℕ) → IsSome top.filling → IsNested (Within (top ∷ above)) → Goes s (Within (top ∷ above)) es text → EndsValue text
behind_some s top above [] text some nested goes = let wrong : Within (top ∷ above) ≡ Within [] = goes.1 in absurd cc
behind_some s top above (Document number ∷ es) text some nested goes = absurd goes.3
behind_some s top above (Start name ∷ es) text some nested goes = behind_gap top.filling goes.3.1 goes.1 goes.2 text some goes.3.4 goes.5
behind_some s top above (Attribute name value ∷ es) text some nested goes = behind_gap top.filling goes.3.1 goes.1 goes.2 text some goes.3.5 goes.5
behind_some s top above (Content value ∷ es) text some nested goes = absurd (not_nothing top.filling some goes.3.0)
behind_some s top above (EndElement ∷ es) text some nested goes =
    elim (end_brace (slice_get s.kinds top.kind) top.filling goes.1 goes.2 text goes.3.0 goes.5) [
      | inl ends ↦ ends
      | inr both ↦
          let later : Goes s (Within above) es goes.2 = subst (λ (x : Standing). Goes s x es goes.2) goes.3.1 goes.4 in
          subst EndsValue (sym both.1) (behind_elements s above es goes.2 nested later)
    ]

pub completes_some : (s : PlainSchema) (top : OpenElement) (above : List OpenElement) (text : List ℕ) → IsSome top.filling → IsNested (Within (top ∷ above)) → Completes s (Within (top ∷ above)) text → EndsValue text
completes_some s top above text some nested p = behind_some s top above p.0 text some nested p.1
