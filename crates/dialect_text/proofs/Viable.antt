-- What has started can be ended: each standing of a schema has a text that completes it.
use Rattle.std.proofs.Common.{◌≡◌, ℕ, zero, suc, ◌<◌, ◌≤◌, inl, inr, true, false, ◌&&◌, List, [], ◌∷◌, ◌++◌, length, codes, Option, Some, None, slice_get, refl, sym, ap, subst, ◌∙◌, arith}
use Rattle.std.specs.Prelude.{◌==◌, pos}
use Rattle.std.specs.Fmt.{decimal}
use Rattle.std.proofs.lemmas.Bool.{leb-true}
use Rattle.std.proofs.lemmas.Bool.Decides.{eqb_tells}
use Rattle.hex.specs.Hex.{encode_with}
use Rattle.exi_schema.specs.Schemas.{PlainSchema, are_words, are_values, value_count, is_datatype}
use Rattle.exi_schema.specs.declared.tables.Datatype.{Datatype}
use Rattle.exi_schema.specs.declared.tables.Datatype.TheVariants as type
use Rattle.exi_schema.specs.Plain.{PlainKind, valued, containing}
use Rattle.exi_schema.specs.Steps.{simple_at, datatype_of, texts_at}
use Rattle.exi_schema.proofs.Conditions.{and-l, and-r, kinds_of, declared}
use Rattle.exi_documents.specs.Trees.{Value, Truth, Ordinal, Number, Bytes, Text, Start, Content, EndElement}
use Rattle.value_text.specs.ValueText.{IsFormed, value_names, quoted}
use Rattle.dialect_text.specs.declared.elements.Filling.{Filling}
use Rattle.dialect_text.specs.declared.elements.Filling.TheVariants as fills
use Rattle.dialect_text.specs.declared.elements.OpenElement.{OpenElement}
use Rattle.dialect_text.specs.Dialect.{AtRoot, Within, element, attribute_in, element_in, IsValueOf, IsEndText}
use Rattle.dialect_text.specs.Languages.{Completes}
use Rattle.dialect_text.specs.Scanning.{AreOpen, IsFilled}
use Rattle.value_text.proofs.SchemaWords.{values_of}

-- ---- each datatype has a value

same_count : (n m : ℕ) → (n == m) ≡ true → n ≡ m
same_count n m e = elim (eqb_tells n m) [ inl is ↦ is.1 | inr is ↦ (let wrong : false ≡ true = sym is.0 ∙ e in absurd cc) ]

counted : (kinds : List PlainKind) (values : List (List (List ℕ))) (kind : ℕ) (d : PlainKind) → are_values kinds values ≡ true → slice_get kinds kind ≡ Some d → length (texts_at values kind) ≡ value_count d
counted [] values kind d is at = let wrong : None ≡ Some d = at in absurd cc
counted (k ∷ kinds) [] kind d is at = let wrong : false ≡ true = is in absurd cc
counted (k ∷ kinds) (texts ∷ values) zero d is at =
    let same : Some k ≡ Some d = at in let one : k ≡ d = cc in
    same_count (length texts) (value_count k) (and-l (length texts == value_count k) (are_words texts) (and-l (length texts == value_count k && are_words texts) (are_values kinds values) is)) ∙ ap value_count one
counted (k ∷ kinds) (texts ∷ values) (suc kind) d is at = counted kinds values kind d (and-r (length texts == value_count k && are_words texts) (are_values kinds values) is) at

some_text : (texts : List (List ℕ)) → 1 ≤ length texts → (text : List ℕ) × (slice_get texts 0 ≡ Some text)
some_text [] some = absurd (omega (arith, some))
some_text (text ∷ texts) some = (text, refl)

datatype_is : (s : PlainSchema) (kind : ℕ) (d : Datatype) → slice_get s.kinds kind ≡ Some (valued d) → is_datatype d ≡ true
datatype_is s kind d at =
    declared (length s.names) s.kinds kind (valued d) (kinds_of s.kinds s.names s.values s.root_bits s.roots s.fits) at

abbrev pub HasValue : PlainSchema → ℕ → Datatype → Type 0
HasValue s kind d = (v : Value) × (t : List ℕ) × IsFormed s kind d v t

some_value : (s : PlainSchema) (kind : ℕ) (d : Datatype) → slice_get s.kinds kind ≡ Some (valued d) → HasValue s kind d
unfolding encode_with
some_value s kind type.Bool at = (Truth true, codes "true", (tt, refl))
some_value s kind (type.Named count) at =
    let many : 1 ≤ count = leb-true 1 count (datatype_is s kind (type.Named count) at) in
    let all : length (value_names s kind) ≡ count = counted s.kinds s.values kind (valued (type.Named count)) (values_of s) at in
    let one = some_text (value_names s kind) (omega (arith, many, all)) in
    (Ordinal 0, one.0, (tt, one.1))
some_value s kind (type.Bounded least count) at = (Number (pos 0), decimal 0, (omega arith, refl))
some_value s kind (type.Unsigned most) at = (Number (pos 0), decimal 0, (omega arith, refl))
some_value s kind (type.Signed least most) at = (Number (pos 0), decimal 0, (omega arith, refl))
some_value s kind (type.Binary most) at = (Bytes [], [], (tt, refl))
some_value s kind (type.Text most) at = (Text [], quoted [], (tt, refl))

-- ---- each element can be ended

simple_of : (o : Option PlainKind) (d : Datatype) → o ≡ Some (valued d) → datatype_of o ≡ Some d
simple_of o d e = ap datatype_of e

kind_there : (kinds : List PlainKind) (kind : ℕ) → kind < length kinds → (d : PlainKind) × (slice_get kinds kind ≡ Some d)
kind_there [] kind low = absurd (omega (arith, low))
kind_there (d ∷ kinds) zero low = (d, refl)
kind_there (d ∷ kinds) (suc kind) low = kind_there kinds kind (omega (arith, low))

pub some_of_kind : (s : PlainSchema) (kind : ℕ) (d : Datatype) → simple_at s.kinds kind ≡ Some d → (v : Value) × (t : List ℕ) × IsValueOf s kind v t
some_of_kind s kind d is = by (slice_get s.kinds kind) refl is
  where
    by : (o : Option PlainKind) → slice_get s.kinds kind ≡ o → datatype_of o ≡ Some d → (v : Value) × (t : List ℕ) × IsValueOf s kind v t
    by None at has = let wrong : None ≡ Some d = has in absurd cc
    by (Some (valued e)) at has = let one = some_value s kind e at in (one.0, one.1, (e, simple_of (slice_get s.kinds kind) e at, one.2))
    by (Some (containing attributes particles)) at has = let wrong : None ≡ Some d = has in absurd cc

end_then : (s : PlainSchema) (kind : ℕ) (f : Filling) (above : List OpenElement) (added text : List ℕ) → IsEndText (slice_get s.kinds kind) f added → Completes s (Within above) text →
    Completes s (Within (element kind f ∷ above)) (added ++ text)
end_then s kind f above added text is p = (EndElement ∷ p.0, (Within above, added, text, (is, refl), p.1, refl))

no_element : (d : Datatype) (o : Option PlainKind) (name kind : ℕ) → o ≡ Some (valued d) → element_in o name ≡ Some kind → ⊥
no_element d o name kind e is = let wrong : None ≡ Some kind = ap (λ (x : Option PlainKind). element_in x name) (sym e) ∙ is in cc

no_attribute : (d : Datatype) (o : Option PlainKind) (name kind : ℕ) → o ≡ Some (valued d) → attribute_in o name ≡ Some kind → ⊥
no_attribute d o name kind e is = let wrong : None ≡ Some kind = ap (λ (x : Option PlainKind). attribute_in x name) (sym e) ∙ is in cc

ends : (s : PlainSchema) (kind : ℕ) (f : Filling) (above : List OpenElement) (d : PlainKind) (text : List ℕ) → slice_get s.kinds kind ≡ Some d → IsFilled s kind f → Completes s (Within above) text →
    (other : List ℕ) × Completes s (Within (element kind f ∷ above)) other
ends s kind f above (containing attributes particles) text at filled p =
    (codes "}" ++ text, end_then s kind f above (codes "}") text (subst (λ (o : Option PlainKind). IsEndText o f (codes "}")) (sym at) refl) p)
ends s kind fills.Value above (valued d) text at filled p =
    (text, end_then s kind fills.Value above [] text (subst (λ (o : Option PlainKind). IsEndText o fills.Value []) (sym at) (refl, refl)) p)
ends s kind fills.Nothing above (valued d) text at filled p =
    let one = some_of_kind s kind d (simple_of (slice_get s.kinds kind) d at) in
    let end = end_then s kind fills.Value above [] text (subst (λ (o : Option PlainKind). IsEndText o fills.Value []) (sym at) (refl, refl)) p in
    (one.1 ++ text, (Content one.0 ∷ end.0, (Within (element kind fills.Value ∷ above), one.1, text, (refl, one.2, refl), end.1, refl)))
ends s kind fills.Attributes above (valued d) text at filled p = absurd (no_attribute d (slice_get s.kinds kind) filled.0 filled.1 at filled.2)
ends s kind fills.Elements above (valued d) text at filled p = absurd (no_element d (slice_get s.kinds kind) filled.0 filled.1 at filled.2)

pub completes_all : (s : PlainSchema) (elements : List OpenElement) → AreOpen s elements → (text : List ℕ) × Completes s (Within elements) text
completes_all s [] are = ([], ([], (refl, refl)))
completes_all s (top ∷ above) are =
    let more = completes_all s above are.3 in
    let there = kind_there s.kinds top.kind are.0 in
    ends s top.kind top.filling above there.0 more.0 there.1 are.2 more.1

pub completes_root : (s : PlainSchema) (name kind : ℕ) (text : List ℕ) → Completes s (Within (element kind fills.Nothing ∷ [])) text → Completes s (AtRoot name kind) text
completes_root s name kind text p = (Start name ∷ p.0, (Within (element kind fills.Nothing ∷ []), [], text, (refl, refl, refl), p.1, refl))
