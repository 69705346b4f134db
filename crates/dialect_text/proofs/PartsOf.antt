-- Parts of an element of a complex kind, and its end.
use Rattle.std.proofs.Common.{◌≡◌, ℕ, zero, suc, ◌<◌, ◌⊎◌, inl, inr, Bool, true, ◌&&◌, nat_lt, List, [], ◌∷◌, ◌++◌, length, codes, Option, Some, None, slice_get, refl, sym, ap, subst, ◌∙◌, append_assoc, arith}
use Rattle.std.specs.Prelude.{encode_utf8, Result, Ok, Err, IfOk, IfErr}
use Rattle.std.specs.List.{list_all, AllByRecursion}
use Rattle.std.specs.Str.{encode_utf8_all}
use Rattle.std.proofs.lemmas.Bool.{ltb-true}
use Rattle.std.proofs.lemmas.List.{append-nil}
use Rattle.std.proofs.lemmas.Str.{encode_ascii}
use Rattle.exi_schema.specs.Schemas.{PlainSchema, is_attribute, is_particle, is_simple}
use Rattle.exi_schema.specs.declared.tables.AttributeOf.{AttributeOf}
use Rattle.exi_schema.specs.Plain.{PlainKind, containing, PlainParticle}
use Rattle.exi_schema.specs.declared.tables.Member.{Member}
use Rattle.exi_schema.proofs.Conditions.{and-l, and-r, complex_in}
use Rattle.exi_schema.proofs.Fitting.{simple_within, simple_is}
use Rattle.exi_documents.specs.Trees.{Event}
use Rattle.value_text.specs.declared.cursor.TextCursor.{TextCursor}
use Rattle.value_text.specs.Scanning.{Passes}
use Rattle.value_text.specs.ValueText.{IsName}
use Rattle.dialect_text.specs.declared.elements.Filling.{Filling}
use Rattle.dialect_text.specs.declared.elements.Filling.TheVariants as fills
use Rattle.dialect_text.specs.declared.elements.OpenElement.{OpenElement}
use Rattle.value_text.specs.declared.fault.ScanFault.{ScanFault}
use Rattle.dialect_text.specs.Dialect.{Within, attribute_in, element_in, attribute_of, attribute_named, element_of, element_named, gap, IsBeforeElements}
use Rattle.dialect_text.specs.Languages.{Shares, Leads}
use Rattle.dialect_text.specs.Scanning.{IsSound}
use Rattle.dialect_text.specs.Following.{TakesNext, StallsAt, StartsElement, StartsAttribute, StartsPart}
use Rattle.dialect_text.proofs.Cursors.{takes_behind, stalls_behind}
use Rattle.dialect_text.proofs.ElementStarts.{FitsMember, FitsParticle}
use Rattle.dialect_text.proofs.Named.{all_at}
use Rattle.dialect_text.proofs.Once.{start_first, tails_same}
use Rattle.dialect_text.proofs.Quotes.{one_byte}
use Rattle.dialect_text.proofs.Starts.{FitsAttribute, attribute_found, named_fits, value_some}

-- ---- the conditions on a complex kind

attributes_fit : (s : PlainSchema) (attributes : List AttributeOf) → list_all (is_attribute (length s.names) s.kinds) attributes ≡ true → AllByRecursion (FitsAttribute s) attributes
attributes_fit s [] all = tt
attributes_fit s (one ∷ attributes) all =
    let n = length s.names in
    let first = and-l (is_attribute n s.kinds one) (list_all (is_attribute n s.kinds) attributes) all in
    let simple = and-r (nat_lt one.name n) (is_simple (slice_get s.kinds one.kind)) first in (
      (omega (arith, ltb-true one.name n (and-l (nat_lt one.name n) (is_simple (slice_get s.kinds one.kind)) first)), simple_within s.kinds one.kind simple, simple_is (slice_get s.kinds one.kind) simple),
      attributes_fit s attributes (and-r (is_attribute n s.kinds one) (list_all (is_attribute n s.kinds) attributes) all),
    )

members_fit : (s : PlainSchema) (members : List Member) → list_all (λ member. nat_lt member.name (length s.names) && nat_lt member.kind (length s.kinds)) members ≡ true → AllByRecursion (FitsMember s) members
members_fit s [] all = tt
members_fit s (one ∷ members) all =
    let n = length s.names in
    let test : Member → Bool = λ member. nat_lt member.name n && nat_lt member.kind (length s.kinds) in
    let first = and-l (test one) (list_all test members) all in (
      (omega (arith, ltb-true one.name n (and-l (nat_lt one.name n) (nat_lt one.kind (length s.kinds)) first)), ltb-true one.kind (length s.kinds) (and-r (nat_lt one.name n) (nat_lt one.kind (length s.kinds)) first)),
      members_fit s members (and-r (test one) (list_all test members) all),
    )

particles_fit : (s : PlainSchema) (particles : List PlainParticle) → list_all (is_particle (length s.names) (length s.kinds)) particles ≡ true → AllByRecursion (FitsParticle s) particles
particles_fit s [] all = tt
particles_fit s (one ∷ particles) all =
    let n = length s.names in
    let first = and-l (is_particle n (length s.kinds) one) (list_all (is_particle n (length s.kinds)) particles) all in (
      members_fit s one.members (and-r _ (list_all (λ member. nat_lt member.name n && nat_lt member.kind (length s.kinds)) one.members) first),
      particles_fit s particles (and-r (is_particle n (length s.kinds) one) (list_all (is_particle n (length s.kinds)) particles) all),
    )

pub complex_attributes : (s : PlainSchema) (kind : ℕ) (attributes : _) (particles : _) → slice_get s.kinds kind ≡ Some (containing attributes particles) → AllByRecursion (FitsAttribute s) attributes
complex_attributes s kind attributes particles is = attributes_fit s attributes (complex_in s kind attributes particles is).attributes_fit

pub complex_particles : (s : PlainSchema) (kind : ℕ) (attributes : _) (particles : _) → slice_get s.kinds kind ≡ Some (containing attributes particles) → AllByRecursion (FitsParticle s) particles
complex_particles s kind attributes particles is = particles_fit s particles (complex_in s kind attributes particles is).particles_fit

-- ---- answers of calls

pub ok_then : {X E : Type 0} (P Q : X → Type 0) (r : Result X E) → ((x : X) → P x → Q x) → IfOk r P → IfOk r Q
ok_then P Q (Ok x) step p = step x p
ok_then P Q (Err e) step p = tt

pub err_then : {X E : Type 0} (P Q : E → Type 0) (r : Result X E) → ((x : E) → P x → Q x) → IfErr r P → IfErr r Q
err_then P Q (Ok x) step p = tt
err_then P Q (Err e) step p = step e p

-- ---- first bytes

-- a text that goes on as another begins with the same byte
pub shares_first : (rest text z : List ℕ) (b : ℕ) → b < 128 → Shares 0 rest text → text ≡ b ∷ z → (r : List ℕ) × (rest ≡ b ∷ r)
shares_first rest text z b low s e = by s.front s.stands s.others s.enough
  where
    by : (f : List ℕ) → rest ≡ encode_utf8_all f ++ s.more → text ≡ encode_utf8_all f ++ s.odd → (0 < length f) ⊎ ((s.more ≡ []) × (s.odd ≡ [])) → (r : List ℕ) × (rest ≡ b ∷ r)
    by [] p q (inl some) = absurd (omega (arith, some))
    by [] p q (inr none) = let wrong : [] ≡ b ∷ z = sym none.1 ∙ sym q ∙ e in absurd cc
    by (c ∷ f) p q enough =
        let same = (one_byte c b (encode_utf8_all f ++ s.odd) z low (sym (append_assoc (encode_utf8 c) (encode_utf8_all f) s.odd) ∙ sym q ∙ e)).0 in (
          encode_utf8_all f ++ s.more,
          p ∙ append_assoc (encode_utf8 c) (encode_utf8_all f) s.more ∙ ap (λ (n : ℕ). encode_utf8 n ++ (encode_utf8_all f ++ s.more)) same ∙ ap (λ (bs : List ℕ). bs ++ (encode_utf8_all f ++ s.more)) (encode_ascii b low),
        )

pub one_char : (b : ℕ) → b < 128 → encode_utf8_all (b ∷ []) ≡ b ∷ []
one_char b low = append-nil (encode_utf8 b) ∙ encode_ascii b low

pub gap_chars : (f : Filling) → encode_utf8_all (gap f) ≡ gap f
gap_chars fills.Nothing = refl
gap_chars fills.Attributes = one_char 32 (omega arith)
gap_chars fills.Elements = one_char 32 (omega arith)
gap_chars fills.Value = one_char 32 (omega arith)

-- ---- an attribute, or an element

pub part_attribute : (s : PlainSchema) (top : OpenElement) (above : List OpenElement) (rest : List ℕ) → IsBeforeElements top.filling → Leads (StartsPart s top above) (64 ∷ []) rest (StartsAttribute s top above)
part_attribute s top above rest before = record {
  from = λ text new. inr (before, text, new, ap (λ (bs : List ℕ). bs ++ text) (one_char 64 (omega arith)));
  to = λ text shares old. elim old [
    | inl p ↦ absurd (start_first s p.name p.kind p.front p.rest text 64 p.starts refl (sym p.text_is ∙ ap (λ (bs : List ℕ). bs ++ text) (one_char 64 (omega arith))))
    | inr q ↦ subst (StartsAttribute s top above) (tails_same 64 q.1 text (sym q.3 ∙ ap (λ (bs : List ℕ). bs ++ text) (one_char 64 (omega arith)))) q.2
  ];
}

pub part_element : (s : PlainSchema) (top : OpenElement) (above : List OpenElement) (rest : List ℕ) → ((text r : List ℕ) → Shares 0 rest text → IsBeforeElements top.filling → StartsAttribute s top above r → text ≡ 64 ∷ r → ⊥) →
    Leads (StartsPart s top above) [] rest (StartsElement s top above)
part_element s top above rest none = record {
  from = λ text new. inl new;
  to = λ text shares old. elim old [ inl p ↦ p | inr q ↦ absurd (none text q.1 shares q.0 q.2 q.3) ];
}

name_in : (texts : List (List ℕ)) (i : ℕ) → i < length texts → (word : List ℕ) × (slice_get texts i ≡ Some word)
name_in [] i low = absurd (omega (arith, low))
name_in (text ∷ texts) zero low = (text, refl)
name_in (text ∷ texts) (suc i) low = name_in texts i (omega (arith, low))

pub name_there : (s : PlainSchema) (name : ℕ) → name < length s.names → (word : List ℕ) × IsName s name word
name_there s name low = name_in s.names name low

first_attribute : (attributes : List AttributeOf) → 0 < length attributes → (one : AttributeOf) × (slice_get attributes 0 ≡ Some one)
first_attribute [] some = absurd (omega (arith, some))
first_attribute (one ∷ attributes) some = (one, refl)

pub of_complex : (s : PlainSchema) (kind : ℕ) (attributes : _) (particles : _) (name : ℕ) → slice_get s.kinds kind ≡ Some (containing attributes particles) → attribute_of s kind name ≡ attribute_named attributes name
of_complex s kind attributes particles name is = ap (λ (o : Option PlainKind). attribute_in o name) is

pub of_element : (s : PlainSchema) (kind : ℕ) (attributes : _) (particles : _) (name : ℕ) → slice_get s.kinds kind ≡ Some (containing attributes particles) → element_of s kind name ≡ element_named particles name
of_element s kind attributes particles name is = ap (λ (o : Option PlainKind). element_in o name) is

pub some_attribute : (s : PlainSchema) (top : OpenElement) (above : List OpenElement) (attributes : _) (particles : _) → slice_get s.kinds top.kind ≡ Some (containing attributes particles) → IsSound s (Within (top ∷ above)) → 0 < length attributes →
    (text : List ℕ) × StartsAttribute s top above text
some_attribute s top above attributes particles is sound some =
    let one = first_attribute attributes some in
    let found = attribute_found s attributes 0 one.0 one.1 in
    let fit = complex_attributes s top.kind attributes particles is in
    let named : attribute_of s top.kind one.0.name ≡ Some found.0 = of_complex s top.kind attributes particles one.0.name is ∙ found.1 in
    let value = value_some s top above one.0.name found.0 sound named (named_fits s attributes one.0.name found.0 fit found.1).1 in
    let low = (all_at (FitsAttribute s) attributes 0 one.0 fit one.1).0 in
    let word = name_there s one.0.name low in
    (word.0 ++ 61 ∷ value.0, record { name = one.0.name; kind = found.0; word = word.0; rest = value.0; declared = named; named = word.1; follows = value.1; text_is = refl })

-- the three ways on behind the gap
pub behind_sign : (s : PlainSchema) (elements new : List OpenElement) (top : OpenElement) (above : List OpenElement) (event : Event) (a b c : TextCursor) → elements ≡ top ∷ above → IsBeforeElements top.filling → Passes a (64 ∷ []) b →
    TakesNext s (gap top.filling ++ codes "@") (StartsAttribute s top above) (Within elements) b event (Within new) c → TakesNext s (gap top.filling) (StartsPart s top above) (Within elements) a event (Within new) c
behind_sign s elements new top above event a b c has before passes p =
    takes_behind s (gap top.filling) (StartsPart s top above) (StartsAttribute s top above) (Within elements) (Within new) a b c event (64 ∷ []) passes (part_attribute s top above b.rest.now before)
    (subst (λ (x : List ℕ). TakesNext s (gap top.filling ++ x) (StartsAttribute s top above) (Within elements) b event (Within new) c) (sym (one_char 64 (omega arith))) p)

pub stalls_behind_sign : (s : PlainSchema) (elements : List OpenElement) (top : OpenElement) (above : List OpenElement) (attributes : _) (particles : _) (a b : TextCursor) (f : ScanFault) → elements ≡ top ∷ above → slice_get s.kinds top.kind ≡ Some (containing attributes particles) →
    IsSound s (Within elements) → IsBeforeElements top.filling → 0 < length attributes → Passes a (64 ∷ []) b → StallsAt (StartsAttribute s top above) b f → StallsAt (StartsPart s top above) a f
stalls_behind_sign s elements top above attributes particles a b f has is sound before some passes p =
    stalls_behind (StartsPart s top above) (StartsAttribute s top above) a b (64 ∷ []) f passes (part_attribute s top above b.rest.now before)
    (inr (some_attribute s top above attributes particles is (subst (λ (x : List OpenElement). IsSound s (Within x)) has sound) some)) p

abbrev pub NoAttribute : PlainSchema → OpenElement → List OpenElement → TextCursor → Type 0
NoAttribute s top above a = (text r : List ℕ) → Shares 0 a.rest.now text → IsBeforeElements top.filling → StartsAttribute s top above r → text ≡ 64 ∷ r → ⊥

pub no_sign : (s : PlainSchema) (top : OpenElement) (above : List OpenElement) (a : TextCursor) → ((rest : List ℕ) → a.rest.now ≡ 64 ∷ rest → ⊥) → NoAttribute s top above a
no_sign s top above a none text r shares before p e = let first = shares_first a.rest.now text r 64 (omega arith) shares e in none first.0 first.1

pub no_attributes : (s : PlainSchema) (top : OpenElement) (above : List OpenElement) (attributes : _) (particles : _) (a : TextCursor) → slice_get s.kinds top.kind ≡ Some (containing attributes particles) → (IsBeforeElements top.filling → attributes ≡ []) →
    NoAttribute s top above a
no_attributes s top above attributes particles a is none text r shares before p e =
    let wrong : None ≡ Some p.kind = ap (λ (xs : List AttributeOf). attribute_named xs p.name) (sym (none before)) ∙ sym (of_complex s top.kind attributes particles p.name is) ∙ p.declared in cc

pub behind_none : (s : PlainSchema) (elements new : List OpenElement) (top : OpenElement) (above : List OpenElement) (event : Event) (a b c : TextCursor) → b ≡ a → NoAttribute s top above a →
    TakesNext s (gap top.filling) (StartsElement s top above) (Within elements) b event (Within new) c → TakesNext s (gap top.filling) (StartsPart s top above) (Within elements) a event (Within new) c
behind_none s elements new top above event a b c same none p =
    takes_behind s (gap top.filling) (StartsPart s top above) (StartsElement s top above) (Within elements) (Within new) a a c event [] (record { stands = refl; counted = omega arith }) (part_element s top above a.rest.now none)
    (subst (λ (x : List ℕ). TakesNext s x (StartsElement s top above) (Within elements) a event (Within new) c) (sym (append-nil (gap top.filling)))
    (subst (λ (x : TextCursor). TakesNext s (gap top.filling) (StartsElement s top above) (Within elements) x event (Within new) c) same p))

pub stalls_behind_none : (s : PlainSchema) (top : OpenElement) (above : List OpenElement) (a b : TextCursor) (f : ScanFault) → b ≡ a → NoAttribute s top above a → StallsAt (StartsElement s top above) b f → StallsAt (StartsPart s top above) a f
stalls_behind_none s top above a b f same none p =
    stalls_behind (StartsPart s top above) (StartsElement s top above) a a [] f (record { stands = refl; counted = omega arith }) (part_element s top above a.rest.now none) (inl refl)
    (subst (λ (x : TextCursor). StallsAt (StartsElement s top above) x f) same p)
