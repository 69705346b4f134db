-- One event inside an element of a complex kind, from where it stands.
use Rattle.std.proofs.Common.{◌≡◌, ℕ, ◌⊎◌, inl, inr, List, [], ◌∷◌, ◌++◌, codes, Option, Some, None, slice_get, refl, sym, ap, subst, ◌∙◌, append_assoc, arith}
use Rattle.std.specs.Str.{encode_utf8_all}
use Rattle.std.proofs.lemmas.List.{append_cancel_left}
use Rattle.std.proofs.lemmas.Option.{slice_get_within}
use Rattle.exi_schema.specs.Schemas.{PlainSchema}
use Rattle.exi_schema.specs.declared.tables.Datatype.{Datatype}
use Rattle.exi_schema.specs.Plain.{PlainKind, containing}
use Rattle.exi_schema.specs.Steps.{datatype_of}
use Rattle.exi_documents.specs.Trees.{Event, Document, Start, Attribute, Content, EndElement}
use Rattle.value_text.specs.declared.cursor.TextCursor.{TextCursor}
use Rattle.value_text.specs.Scanning.{Passes}
use Rattle.dialect_text.specs.declared.elements.Filling.{Filling}
use Rattle.dialect_text.specs.declared.elements.Filling.TheVariants as fills
use Rattle.dialect_text.specs.declared.elements.OpenElement.{OpenElement}
use Rattle.value_text.specs.declared.fault.ScanFault.{ScanFault}
use Rattle.value_text.specs.declared.fault.ScanFault.TheVariants as fault
use Rattle.dialect_text.specs.Dialect.{Standing, Within, element, mark, gap, IsBeforeElements, IsEndText}
use Rattle.dialect_text.specs.Languages.{Goes, Completes, Shares, Leads}
use Rattle.dialect_text.specs.Scanning.{IsFilled, IsSound}
use Rattle.dialect_text.specs.Following.{TakesNext, StallsAt, StartsPart}
use Rattle.dialect_text.proofs.Cursors.{takes_behind, stalls_behind}
use Rattle.dialect_text.proofs.ElementStarts.{element_fits, opened, opened_sound}
use Rattle.dialect_text.proofs.Once.{attribute_behind, behind, heads_differ}
use Rattle.dialect_text.proofs.Parts.{takes_end}
use Rattle.dialect_text.proofs.PartsOf.{shares_first, one_char, gap_chars, complex_particles, of_complex, of_element, some_attribute, name_there}
use Rattle.dialect_text.proofs.Simples.{HasTop}
use Rattle.dialect_text.proofs.Starts.{attribute_there}
use Rattle.dialect_text.proofs.Viable.{completes_all}

-- in a complex kind what follows is its end, or a part behind what stands before one
pub data Follows (s : PlainSchema) (top : OpenElement) (above : List OpenElement) (text : List ℕ) : Type 0 where
  brace : (rest : List ℕ) → text ≡ 125 ∷ rest → Follows s top above text
  part : (rest : List ℕ) → StartsPart s top above rest → text ≡ gap top.filling ++ rest → Follows s top above text

brace_of : (o : Option PlainKind) (f : Filling) (attributes : _) (particles : _) (b : List ℕ) → o ≡ Some (containing attributes particles) → IsEndText o f b → b ≡ 125 ∷ []
brace_of o f attributes particles b is end = subst (λ (x : Option PlainKind). IsEndText x f b) is end

no_value : (o : Option PlainKind) (attributes : _) (particles : _) (d : Datatype) → o ≡ Some (containing attributes particles) → datatype_of o ≡ Some d → ⊥
no_value o attributes particles d is has = let wrong : None ≡ Some d = ap datatype_of (sym is) ∙ has in cc

pub follows : (s : PlainSchema) (top : OpenElement) (above : List OpenElement) (attributes : _) (particles : _) (text : List ℕ) → slice_get s.kinds top.kind ≡ Some (containing attributes particles) →
    Completes s (Within (top ∷ above)) text → Follows s top above text
follows s top above attributes particles text is p = by p.0 p.1
  where
    by : (es : List Event) → Goes s (Within (top ∷ above)) es text → Follows s top above text
    by [] goes = let wrong : Within (top ∷ above) ≡ Within [] = goes.1 in absurd cc
    by (Document n ∷ es) goes = absurd goes.3
    by (Start n ∷ es) goes =
        part (goes.3.1 ++ goes.2) (inl
        record {
          name = n;
          kind = goes.3.0;
          front = goes.3.1;
          rest = goes.2;
          declared = goes.3.2;
          starts = goes.3.3;
          follows = (es, subst (λ (x : Standing). Goes s x es goes.2) goes.3.5 goes.4);
          text_is = refl;
        })
        (goes.5 ∙ behind goes.1 (gap top.filling) goes.3.1 goes.2 goes.3.4)
    by (Attribute n v ∷ es) goes =
        let named = goes.3.4 in
        let rest : Completes s (Within (element top.kind fills.Attributes ∷ above)) goes.2 = (es, subst (λ (x : Standing). Goes s x es goes.2) goes.3.6 goes.4) in
        part (goes.3.1 ++ goes.2)
        (inr (
          goes.3.2,
          named.0 ++ 61 ∷ (named.1 ++ goes.2),
          record {
            name = n;
            kind = goes.3.0;
            word = named.0;
            rest = named.1 ++ goes.2;
            declared = goes.3.3;
            named = named.2;
            follows = (v, named.1, goes.2, named.3, rest, refl);
            text_is = refl;
          },
          attribute_behind named.0 named.1 goes.3.1 goes.2 named.4,
        ))
        (goes.5 ∙ behind goes.1 (gap top.filling) goes.3.1 goes.2 goes.3.5)
    by (Content v ∷ es) goes = absurd (no_value (slice_get s.kinds top.kind) attributes particles goes.3.1.0 is goes.3.1.1)
    by (EndElement ∷ es) goes = brace goes.2 (goes.5 ∙ ap (λ (bs : List ℕ). bs ++ goes.2) (brace_of (slice_get s.kinds top.kind) top.filling attributes particles goes.1 is goes.3.0))

pub part_follows : (s : PlainSchema) (top : OpenElement) (above : List OpenElement) (text : List ℕ) → StartsPart s top above text → Completes s (Within (top ∷ above)) (gap top.filling ++ text)
part_follows s top above text (inl p) = (
  Start p.name ∷ p.follows.0,
  (
    Within (opened p.kind top above),
    gap top.filling ++ p.front,
    p.rest,
    (p.kind, p.front, p.declared, p.starts, refl, refl),
    p.follows.1,
    ap (λ (bs : List ℕ). gap top.filling ++ bs) p.text_is ∙ sym (append_assoc (gap top.filling) p.front p.rest),
  ),
)
part_follows s top above text (inr q) =
    let named = q.2 in
    let value = named.follows in
    let part : List ℕ = codes "@" ++ named.word ++ codes "=" ++ value.1 in (
      Attribute named.name value.0 ∷ value.4.0,
      (
        Within (element top.kind fills.Attributes ∷ above),
        gap top.filling ++ part,
        value.2,
        (named.kind, part, q.0, named.declared, (named.word, value.1, named.named, value.3, refl), refl, refl),
        value.4.1,
        ap (λ (bs : List ℕ). gap top.filling ++ bs)
            (q.3 ∙ ap (λ (bs : List ℕ). 64 ∷ bs) (named.text_is ∙ ap (λ (bs : List ℕ). named.word ++ 61 ∷ bs) value.5) ∙ sym (attribute_behind named.word value.1 part value.2 refl))
            ∙ sym (append_assoc (gap top.filling) part value.2),
      ),
    )

gap_cancel : (f : Filling) (text : List ℕ) (rest : List ℕ) → gap f ++ text ≡ 125 ∷ rest → (f ≡ fills.Nothing → (z : List ℕ) → text ≡ 125 ∷ z → ⊥) → ⊥
gap_cancel fills.Nothing text rest e none = none refl rest e
gap_cancel fills.Attributes text rest e none = omega (arith, heads_differ 32 125 text rest e)
gap_cancel fills.Elements text rest e none = omega (arith, heads_differ 32 125 text rest e)
gap_cancel fills.Value text rest e none = omega (arith, heads_differ 32 125 text rest e)

-- behind what stands before a part, if the element doesn't end
pub gap_leads : (s : PlainSchema) (top : OpenElement) (above : List OpenElement) (attributes : _) (particles : _) (a b : TextCursor) → slice_get s.kinds top.kind ≡ Some (containing attributes particles) → Passes a (gap top.filling) b →
    ((rest : List ℕ) → a.rest.now ≡ 125 ∷ rest → ⊥) → Leads (Completes s (Within (top ∷ above))) (gap top.filling) b.rest.now (StartsPart s top above)
gap_leads s top above attributes particles a b is passes open_still = record {
  from = λ text new. subst (λ (bs : List ℕ). Completes s (Within (top ∷ above)) (bs ++ text)) (sym (gap_chars top.filling)) (part_follows s top above text new);
  to = λ text shares old. by text shares (follows s top above attributes particles (gap top.filling ++ text) is (subst (λ (bs : List ℕ). Completes s (Within (top ∷ above)) (bs ++ text)) (gap_chars top.filling) old));
}
  where
    same : top.filling ≡ fills.Nothing → b.rest.now ≡ a.rest.now
    same none = sym (passes.stands ∙ ap (λ (f : Filling). encode_utf8_all (gap f) ++ b.rest.now) none)

    by : (text : List ℕ) → Shares 0 b.rest.now text → Follows s top above (gap top.filling ++ text) → StartsPart s top above text
    by text shares (brace rest e) =
        absurd (gap_cancel top.filling text rest e (λ none z f. let first = shares_first b.rest.now text z 125 (omega arith) shares f in open_still first.0 (sym (same none) ∙ first.1)))
    by text shares (part rest p e) = subst (StartsPart s top above) (sym (append_cancel_left (gap top.filling) text rest e)) p

-- ---- something is in an element

gap_or_part : (s : PlainSchema) (top : OpenElement) (above : List OpenElement) (attributes : _) (particles : _) (f : Filling) → f ≡ top.filling → slice_get s.kinds top.kind ≡ Some (containing attributes particles) → IsSound s (Within (top ∷ above)) → IsFilled s top.kind f →
    (gap f ≡ []) ⊎ ((text : List ℕ) × StartsPart s top above text)
gap_or_part s top above attributes particles fills.Nothing e is sound filled = inl refl
gap_or_part s top above attributes particles fills.Attributes e is sound filled =
    let name_is = attribute_there attributes filled.0 filled.1 (sym (of_complex s top.kind attributes particles filled.0 is) ∙ filled.2) in
    let some = some_attribute s top above attributes particles is sound (omega (arith, slice_get_within attributes name_is.0 name_is.1 name_is.2)) in
    inr (64 ∷ some.0, inr (subst IsBeforeElements e tt, some.0, some.1, refl))
gap_or_part s top above attributes particles fills.Elements e is sound filled =
    let fits = element_fits s particles filled.0 filled.1 (complex_particles s top.kind attributes particles is) (sym (of_element s top.kind attributes particles filled.0 is) ∙ filled.2) in
    let rest = completes_all s (opened filled.1 top above) (opened_sound s top above filled.0 filled.1 sound filled.2 fits.1).0 in
    let word = name_there s filled.0 fits.0 in
    (inr (
      (word.0 ++ mark s filled.1 ∷ []) ++ rest.0,
      inl
          record {
            name = filled.0;
            kind = filled.1;
            front = word.0 ++ mark s filled.1 ∷ [];
            rest = rest.0;
            declared = filled.2;
            starts = (word.0, word.1, refl);
            follows = rest.1;
            text_is = refl;
          },
    ))
gap_or_part s top above attributes particles fills.Value e is sound filled = absurd (no_value (slice_get s.kinds top.kind) attributes particles filled.0 is filled.1)

-- ---- the answers

pub part_end : (s : PlainSchema) (elements popped : List OpenElement) (top : OpenElement) (attributes : _) (particles : _) (a b : TextCursor) → HasTop elements top → slice_get s.kinds top.kind ≡ Some (containing attributes particles) → Passes a (125 ∷ []) b →
    ((t : OpenElement) (above : List OpenElement) → elements ≡ t ∷ above → popped ≡ above) → TakesNext s [] (Completes s (Within elements)) (Within elements) a EndElement (Within popped) b
part_end s elements popped top attributes particles a b has is passes pop =
    subst (λ (x : List OpenElement). TakesNext s [] (Completes s (Within elements)) (Within elements) a EndElement (Within x) b) (sym (pop top has.0 has.1))
    (subst (λ (x : List OpenElement). TakesNext s [] (Completes s (Within x)) (Within x) a EndElement (Within has.0) b) (sym has.1)
    (takes_end s top has.0 (125 ∷ []) a b (subst (λ (o : Option PlainKind). IsEndText o top.filling (encode_utf8_all (125 ∷ []))) (sym is) (one_char 125 (omega arith))) passes))

pub part_stalls : (s : PlainSchema) (elements : List OpenElement) (top : OpenElement) (attributes : _) (particles : _) (a : TextCursor) → HasTop elements top → slice_get s.kinds top.kind ≡ Some (containing attributes particles) → gap top.filling ≡ codes " " →
    ((rest : List ℕ) → a.rest.now ≡ 125 ∷ rest → ⊥) → ((rest : List ℕ) → a.rest.now ≡ 32 ∷ rest → ⊥) → StallsAt (Completes s (Within elements)) a (fault.Place a.place)
part_stalls s elements top attributes particles a has is spaced no_brace no_space =
    subst (λ (x : List OpenElement). StallsAt (Completes s (Within x)) a (fault.Place a.place)) (sym has.1)
    ([], record { more = a.rest.now; stands = refl; begins = inl refl; none_further = λ text shares p. by text shares (follows s top has.0 attributes particles text is p) }, omega arith)
  where
    by : (text : List ℕ) → Shares 0 a.rest.now text → Follows s top has.0 text → ⊥
    by text shares (brace rest e) = let first = shares_first a.rest.now text rest 125 (omega arith) shares e in no_brace first.0 first.1
    by text shares (part rest p e) = let first = shares_first a.rest.now text rest 32 (omega arith) shares (e ∙ ap (λ (bs : List ℕ). bs ++ rest) spaced) in no_space first.0 first.1

pub part_taken : (s : PlainSchema) (elements new : List OpenElement) (top : OpenElement) (attributes : _) (particles : _) (event : Event) (a b c : TextCursor) → (has : HasTop elements top) → slice_get s.kinds top.kind ≡ Some (containing attributes particles) →
    Passes a (gap top.filling) b → ((rest : List ℕ) → a.rest.now ≡ 125 ∷ rest → ⊥) →
    TakesNext s (gap top.filling) (StartsPart s top has.0) (Within elements) b event (Within new) c → TakesNext s [] (Completes s (Within elements)) (Within elements) a event (Within new) c
part_taken s elements new top attributes particles event a b c has is passes no_brace p =
    takes_behind s [] (Completes s (Within elements)) (StartsPart s top has.0) (Within elements) (Within new) a b c event (gap top.filling) passes
    (subst (λ (x : List OpenElement). Leads (Completes s (Within x)) (gap top.filling) b.rest.now (StartsPart s top has.0)) (sym has.1) (gap_leads s top has.0 attributes particles a b is passes no_brace))
    (subst (λ (x : List ℕ). TakesNext s x (StartsPart s top has.0) (Within elements) b event (Within new) c) (sym (gap_chars top.filling)) p)

pub part_fault : (s : PlainSchema) (elements : List OpenElement) (top : OpenElement) (attributes : _) (particles : _) (a b : TextCursor) (f : ScanFault) → (has : HasTop elements top) → slice_get s.kinds top.kind ≡ Some (containing attributes particles) →
    IsSound s (Within elements) → Passes a (gap top.filling) b → ((rest : List ℕ) → a.rest.now ≡ 125 ∷ rest → ⊥) → StallsAt (StartsPart s top has.0) b f → StallsAt (Completes s (Within elements)) a f
part_fault s elements top attributes particles a b f has is sound passes no_brace p =
    let open_one = subst (λ (x : List OpenElement). IsSound s (Within x)) has.1 sound in
    subst (λ (x : List OpenElement). StallsAt (Completes s (Within x)) a f) (sym has.1)
    (stalls_behind (Completes s (Within (top ∷ has.0))) (StartsPart s top has.0) a b (gap top.filling) f passes (gap_leads s top has.0 attributes particles a b is passes no_brace)
    (gap_or_part s top has.0 attributes particles top.filling refl is open_one open_one.0.2) p)
