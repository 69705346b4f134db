-- The answers of an element of a simple kind.
use Rattle.std.proofs.Common.{◌≡◌, ℕ, ◌⊎◌, inl, inr, true, false, List, [], ◌∷◌, Option, Some, None, slice_get, refl, sym, ap, subst, ◌∙◌, arith}
use Rattle.std.specs.Prelude.{IsSome}
use Rattle.exi_schema.specs.Schemas.{PlainSchema}
use Rattle.exi_schema.specs.Plain.{PlainKind, valued, containing}
use Rattle.exi_schema.specs.Steps.{simple_at, datatype_of}
use Rattle.exi_documents.specs.Trees.{Value, Content, EndElement}
use Rattle.value_text.specs.declared.cursor.TextCursor.{TextCursor}
use Rattle.dialect_text.specs.declared.elements.Filling.{Filling}
use Rattle.dialect_text.specs.declared.elements.Filling.TheVariants as fills
use Rattle.dialect_text.specs.declared.elements.OpenElement.{OpenElement}
use Rattle.value_text.specs.declared.fault.ScanFault.{ScanFault}
use Rattle.dialect_text.specs.Dialect.{Within, element, attribute_in, element_in, IsEndText}
use Rattle.dialect_text.specs.Languages.{Completes}
use Rattle.dialect_text.specs.Scanning.{IsSound, IsFilled}
use Rattle.dialect_text.specs.Following.{TakesNext, StallsAt, TakesValueOf, MissesValueOf}
use Rattle.dialect_text.proofs.Parts.{takes_content, stalls_content, takes_end}

abbrev pub HasTop : List OpenElement → OpenElement → Type 0
HasTop elements top = (above : List OpenElement) × (elements ≡ top ∷ above)

pub simple_stalls : (s : PlainSchema) (elements : List OpenElement) (top : OpenElement) (a : TextCursor) (f : ScanFault) → HasTop elements top → IsSound s (Within elements) → top.filling ≡ fills.Nothing →
    MissesValueOf s top.kind a f → StallsAt (Completes s (Within elements)) a f
simple_stalls s elements top a f has sound none p =
    subst (λ (x : List OpenElement). StallsAt (Completes s (Within x)) a f) (sym has.1)
    (stalls_content s top has.0 a f none (subst (λ (x : List OpenElement). IsSound s (Within x)) has.1 sound) p)

pub simple_taken : (s : PlainSchema) (elements filled : List OpenElement) (top : OpenElement) (v : Value) (a b : TextCursor) → HasTop elements top → IsSound s (Within elements) → top.filling ≡ fills.Nothing →
    ((t : OpenElement) (above : List OpenElement) → elements ≡ t ∷ above → filled ≡ element t.kind fills.Value ∷ above) → TakesValueOf s top.kind v a b →
    TakesNext s [] (Completes s (Within elements)) (Within elements) a (Content v) (Within filled) b
simple_taken s elements filled top v a b has sound none fill p =
    subst (λ (x : List OpenElement). TakesNext s [] (Completes s (Within elements)) (Within elements) a (Content v) (Within x) b) (sym (fill top has.0 has.1))
    (subst (λ (x : List OpenElement). TakesNext s [] (Completes s (Within x)) (Within x) a (Content v) (Within (element top.kind fills.Value ∷ has.0)) b) (sym has.1)
    (takes_content s top has.0 v a b none (subst (λ (x : List OpenElement). IsSound s (Within x)) has.1 sound).1 p))

-- in a simple kind there is nothing or a value
simple_filled : (o : Option PlainKind) (s : PlainSchema) (kind : ℕ) (f : Filling) → slice_get s.kinds kind ≡ o → IsSome (datatype_of o) → IsFilled s kind f → (f ≡ fills.Nothing → ⊥) → IsEndText o f []
simple_filled None s kind f at has filled some = let wrong : false ≡ true = has in absurd cc
simple_filled (Some (containing attributes particles)) s kind f at has filled some = let wrong : false ≡ true = has in absurd cc
simple_filled (Some (valued d)) s kind fills.Nothing at has filled some = absurd (some refl)
simple_filled (Some (valued d)) s kind fills.Attributes at has filled some =
    let wrong : None ≡ Some filled.1 = ap (λ (x : Option PlainKind). attribute_in x filled.0) (sym at) ∙ filled.2 in absurd cc
simple_filled (Some (valued d)) s kind fills.Elements at has filled some =
    let wrong : None ≡ Some filled.1 = ap (λ (x : Option PlainKind). element_in x filled.0) (sym at) ∙ filled.2 in absurd cc
simple_filled (Some (valued d)) s kind fills.Value at has filled some = (refl, refl)

abbrev pub IsNot : Filling → Type 0
IsNot f = (f ≡ fills.Attributes) ⊎ ((f ≡ fills.Elements) ⊎ (f ≡ fills.Value))

not_nothing : (f : Filling) → IsNot f → f ≡ fills.Nothing → ⊥
not_nothing f (inl e) none = let wrong : fills.Nothing ≡ fills.Attributes = sym none ∙ e in cc
not_nothing f (inr (inl e)) none = let wrong : fills.Nothing ≡ fills.Elements = sym none ∙ e in cc
not_nothing f (inr (inr e)) none = let wrong : fills.Nothing ≡ fills.Value = sym none ∙ e in cc

pub simple_ended : (s : PlainSchema) (elements popped : List OpenElement) (top : OpenElement) (a : TextCursor) → HasTop elements top → IsSound s (Within elements) → IsSome (simple_at s.kinds top.kind) → IsNot top.filling →
    ((t : OpenElement) (above : List OpenElement) → elements ≡ t ∷ above → popped ≡ above) →
    TakesNext s [] (Completes s (Within elements)) (Within elements) a EndElement (Within popped) a
simple_ended s elements popped top a has sound simple some pop =
    let open_one = subst (λ (x : List OpenElement). IsSound s (Within x)) has.1 sound in
    let end = simple_filled (slice_get s.kinds top.kind) s top.kind top.filling refl simple open_one.0.2 (not_nothing top.filling some) in
    subst (λ (x : List OpenElement). TakesNext s [] (Completes s (Within elements)) (Within elements) a EndElement (Within x) a) (sym (pop top has.0 has.1))
    (subst (λ (x : List OpenElement). TakesNext s [] (Completes s (Within x)) (Within x) a EndElement (Within has.0) a) (sym has.1)
    (takes_end s top has.0 [] a a end (record { stands = refl; counted = omega arith })))
