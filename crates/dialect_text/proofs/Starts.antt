-- Attributes and elements inside an element of a complex kind.
use Rattle.std.proofs.Common.{◌≡◌, ℕ, zero, suc, ◌<◌, inl, inr, Bool, true, false, List, [], ◌∷◌, ◌++◌, length, codes, map, Option, Some, None, slice_get, refl, sym, ap, subst, ◌∙◌, append_assoc, arith, get_or, if◌then◌else◌}
use Rattle.std.specs.Prelude.{IsSome, ◌==◌}
use Rattle.std.proofs.lemmas.Bool.Decides.{eqb_tells}
use Rattle.std.specs.List.{AllByRecursion}
use Rattle.std.specs.Str.{encode_utf8_all}
use Rattle.std.proofs.lemmas.Option.{slice_get_within, slice_get-get_or}
use Rattle.std.proofs.lemmas.Str.{encodes-append, encode_ascii}
use Rattle.exi_schema.specs.Schemas.{PlainSchema}
use Rattle.exi_schema.specs.declared.tables.AttributeOf.{AttributeOf}
use Rattle.exi_schema.specs.declared.tables.Datatype.{Datatype}
use Rattle.exi_schema.specs.Steps.{simple_at}
use Rattle.exi_documents.specs.Trees.{Value, Attribute}
use Rattle.value_text.specs.declared.awaited.Awaited.{Awaited}
use Rattle.value_text.specs.declared.cursor.TextCursor.{TextCursor}
use Rattle.value_text.specs.Scanning.{Passes, Takes, IsAwaitedText, IsAnyAwaited, MissesAt}
use Rattle.value_text.specs.ValueText.{IsName}
use Rattle.dialect_text.specs.declared.elements.Filling.TheVariants as fills
use Rattle.dialect_text.specs.declared.elements.OpenElement.{OpenElement}
use Rattle.value_text.specs.declared.fault.ScanFault.{ScanFault}
use Rattle.dialect_text.specs.Dialect.{Within, element, attribute_of, attribute_named, gap, IsBeforeElements}
use Rattle.dialect_text.specs.Languages.{Completes, Leads}
use Rattle.dialect_text.specs.Scanning.{AreOpen, IsSound}
use Rattle.dialect_text.specs.Following.{TakesNext, StallsAt, StartsValue, StartsAttribute, TakesValueOf, MissesValueOf}
use Rattle.dialect_text.specs.Awaited.{awaited_attribute}
use Rattle.dialect_text.proofs.Agreeing.{leads_then}
use Rattle.value_text.proofs.FrontLaws.{passes_on}
use Rattle.dialect_text.proofs.Cursors.{stalls_behind}
use Rattle.dialect_text.proofs.Named.{AreMarked, all_map, all_then, stalls_named}
use Rattle.dialect_text.proofs.Parts.{IsMarked, map_get, get_map, value_ends}
use Rattle.dialect_text.proofs.Valued.{value_leads, value_stalls}
use Rattle.dialect_text.proofs.Viable.{completes_all, some_of_kind}
use Rattle.value_text.proofs.SchemaWords.{name_word}
use Rattle.dialect_text.proofs.Words.{words_split, one_name}

-- what a call of take_name tells
abbrev pub NameTaken : PlainSchema → List Awaited → TextCursor → TextCursor → ℕ → Type 0
NameTaken s awaited a b i =
    (front : List ℕ) × (one : Awaited) × Takes (IsAnyAwaited s awaited) a front b × (slice_get awaited i ≡ Some one) × IsAwaitedText s one (encode_utf8_all front)

pub got : {X : Type 0} (xs : List X) (i : ℕ) (d x : X) → slice_get xs i ≡ Some x → x ≡ get_or xs i d
got xs i d x at = let there : Some x ≡ Some (get_or xs i d) = sym at ∙ slice_get-get_or xs i d (slice_get_within xs i x at) in cc

-- ---- attributes

abbrev pub FitsAttribute : PlainSchema → AttributeOf → Type 0
FitsAttribute s attribute = (attribute.name < length s.names) × (attribute.kind < length s.kinds) × IsSome (simple_at s.kinds attribute.kind)

pub attributes_marked : (s : PlainSchema) (attributes : List AttributeOf) (awaited items : List Awaited) → AllByRecursion (FitsAttribute s) attributes → items ≡ map awaited_attribute attributes → awaited ≡ items → AreMarked s awaited
attributes_marked s attributes awaited items fit made same =
    subst (λ (xs : List Awaited). AreMarked s xs) (sym (same ∙ made))
    (all_map (IsMarked s) awaited_attribute attributes (all_then (FitsAttribute s) (λ attribute. IsMarked s (awaited_attribute attribute)) attributes (λ attribute is. (is.0, omega arith, refl)) fit))

pub attribute_at : (attributes : List AttributeOf) (awaited items : List Awaited) (i : ℕ) (one : Awaited) → items ≡ map awaited_attribute attributes → awaited ≡ items → slice_get awaited i ≡ Some one →
    (attribute : AttributeOf) × (slice_get attributes i ≡ Some attribute) × (awaited_attribute attribute ≡ one)
attribute_at attributes awaited items i one made same at = map_get awaited_attribute attributes i one (ap (λ (xs : List Awaited). slice_get xs i) (sym (same ∙ made)) ∙ at)

if_true : {X : Type 0} (b : Bool) (x y : X) → b ≡ true → (if b then x else y) ≡ x
if_true true x y e = refl
if_true false x y e = absurd cc

if_false : {X : Type 0} (b : Bool) (x y : X) → b ≡ false → (if b then x else y) ≡ y
if_false true x y e = absurd cc
if_false false x y e = refl

found_first : (one : AttributeOf) (attributes : List AttributeOf) (name : ℕ) → one.name ≡ name → (kind : ℕ) × (attribute_named (one ∷ attributes) name ≡ Some kind)
found_first one attributes name same =
    elim (eqb_tells one.name name) [
      | inl tells ↦ (one.kind, if_true (one.name == name) (Some one.kind) (attribute_named attributes name) tells.0)
      | inr tells ↦ absurd (tells.1 same)
    ]

found_later : (one : AttributeOf) (attributes : List AttributeOf) (name kind : ℕ) → attribute_named attributes name ≡ Some kind → (other : ℕ) × (attribute_named (one ∷ attributes) name ≡ Some other)
found_later one attributes name kind is =
    elim (eqb_tells one.name name) [
      | inl tells ↦ (one.kind, if_true (one.name == name) (Some one.kind) (attribute_named attributes name) tells.0)
      | inr tells ↦ (kind, if_false (one.name == name) (Some one.kind) (attribute_named attributes name) tells.0 ∙ is)
    ]

pub attribute_there : (attributes : List AttributeOf) (name kind : ℕ) → attribute_named attributes name ≡ Some kind → (i : ℕ) × (attribute : AttributeOf) × (slice_get attributes i ≡ Some attribute) × (attribute.name ≡ name)
attribute_there [] name kind is = let wrong : None ≡ Some kind = is in absurd cc
attribute_there (one ∷ attributes) name kind is =
    elim (eqb_tells one.name name) [
      | inl tells ↦ (0, one, refl, tells.1)
      | inr tells ↦ let more = attribute_there attributes name kind (sym (if_false (one.name == name) (Some one.kind) (attribute_named attributes name) tells.0) ∙ is) in (suc more.0, more.1, more.2, more.3)
    ]

-- an attribute that is there is found by its name, and the one that is found fits
pub attribute_found : (s : PlainSchema) (attributes : List AttributeOf) (i : ℕ) (attribute : AttributeOf) → slice_get attributes i ≡ Some attribute → (kind : ℕ) × (attribute_named attributes attribute.name ≡ Some kind)
attribute_found s [] i attribute at = let wrong : None ≡ Some attribute = at in absurd cc
attribute_found s (one ∷ attributes) zero attribute at =
    let is : Some one ≡ Some attribute = at in
    let same : one.name ≡ attribute.name = cc in
    found_first one attributes attribute.name same
attribute_found s (one ∷ attributes) (suc i) attribute at =
    let more = attribute_found s attributes i attribute at in
    found_later one attributes attribute.name more.0 more.1

pub named_fits : (s : PlainSchema) (attributes : List AttributeOf) (name kind : ℕ) → AllByRecursion (FitsAttribute s) attributes → attribute_named attributes name ≡ Some kind → (kind < length s.kinds) × IsSome (simple_at s.kinds kind)
named_fits s [] name kind fit is = let wrong : None ≡ Some kind = is in absurd cc
named_fits s (one ∷ attributes) name kind fit is =
    elim (eqb_tells one.name name) [
      | inl tells ↦
          let here : Some one.kind ≡ Some kind = sym (if_true (one.name == name) (Some one.kind) (attribute_named attributes name) tells.0) ∙ is in
          let same : one.kind ≡ kind = cc in
          subst (λ (k : ℕ). (k < length s.kinds) × IsSome (simple_at s.kinds k)) same (fit.0.1, fit.0.2)
      | inr tells ↦ named_fits s attributes name kind fit.1 (sym (if_false (one.name == name) (Some one.kind) (attribute_named attributes name) tells.0) ∙ is)
    ]

-- the name of an attribute leads to its value
pub attribute_leads : (s : PlainSchema) (top : OpenElement) (above : List OpenElement) (name kind : ℕ) (front rest : List ℕ) → attribute_of s top.kind name ≡ Some kind →
    IsAwaitedText s (record { name = name; end = 61 }) (encode_utf8_all front) →
    Leads (StartsAttribute s top above) front rest (StartsValue s kind (Completes s (Within (element top.kind fills.Attributes ∷ above))))
attribute_leads s top above name kind front rest is named =
    let text_is : (text : List ℕ) → encode_utf8_all front ++ text ≡ named.0 ++ 61 ∷ text =
    λ text. ap (λ (bs : List ℕ). bs ++ text) (named.2 ∙ ap (λ (bs : List ℕ). named.0 ++ bs) (encode_ascii 61 (omega arith))) ∙ append_assoc named.0 (61 ∷ []) text in
    record {
      from = λ text new. record { name = name; kind = kind; word = named.0; rest = text; declared = is; named = named.1; follows = new; text_is = text_is text };
      to = λ text shares old.
          let split = words_split named.0 old.word 61 61 text old.rest (name_word s name named.0 named.1).1 (name_word s old.name old.word old.named).1 refl refl (sym (text_is text) ∙ old.text_is) in
          let same = one_name s name old.name named.0 named.1 (subst (λ (w : List ℕ). IsName s old.name w) (sym split.0) old.named) in
          let kinds : Some kind ≡ Some old.kind = sym is ∙ ap (λ (n : ℕ). attribute_of s top.kind n) same ∙ old.declared in
          let one : old.kind ≡ kind = cc in
          let L : List ℕ → Type 0 = Completes s (Within (element top.kind fills.Attributes ∷ above)) in
          subst (λ (t : List ℕ). StartsValue s kind L t) (sym split.2) (subst (λ (k : ℕ). StartsValue s k L old.rest) one old.follows);
    }

attributes_open : (s : PlainSchema) (top : OpenElement) (above : List OpenElement) (name kind : ℕ) → IsSound s (Within (top ∷ above)) → attribute_of s top.kind name ≡ Some kind → AreOpen s (element top.kind fills.Attributes ∷ above)
attributes_open s top above name kind sound is = (sound.0.0, sound.0.1, (name, kind, is), sound.0.3)

some_datatype : (o : Option Datatype) → IsSome o → (d : Datatype) × (o ≡ Some d)
some_datatype None is = let wrong : false ≡ true = is in absurd cc
some_datatype (Some d) is = (d, refl)

-- the value of an attribute and what follows
pub value_some : (s : PlainSchema) (top : OpenElement) (above : List OpenElement) (name kind : ℕ) → IsSound s (Within (top ∷ above)) → attribute_of s top.kind name ≡ Some kind → IsSome (simple_at s.kinds kind) →
    (text : List ℕ) × StartsValue s kind (Completes s (Within (element top.kind fills.Attributes ∷ above))) text
value_some s top above name kind sound is simple =
    let d = some_datatype (simple_at s.kinds kind) simple in
    let value = some_of_kind s kind d.0 d.1 in
    let rest = completes_all s (element top.kind fills.Attributes ∷ above) (attributes_open s top above name kind sound is) in
    (value.1 ++ rest.0, (value.0, value.1, rest.0, value.2, rest.1, refl))

pub attribute_taken : (s : PlainSchema) (top : OpenElement) (above : List OpenElement) (name kind : ℕ) (v : Value) (front : List ℕ) (a b c : TextCursor) → IsSound s (Within (top ∷ above)) → IsBeforeElements top.filling →
    attribute_of s top.kind name ≡ Some kind → IsAwaitedText s (record { name = name; end = 61 }) (encode_utf8_all front) → Passes a front b → TakesValueOf s kind v b c →
    TakesNext s (gap top.filling ++ codes "@") (StartsAttribute s top above) (Within (top ∷ above)) a (Attribute name v) (Within (element top.kind fills.Attributes ∷ above)) c
attribute_taken s top above name kind v front a b c sound before is named passes value =
    let L : List ℕ → Type 0 = Completes s (Within (element top.kind fills.Attributes ∷ above)) in
    let said : List ℕ = encode_utf8_all value.1 in
    let part : List ℕ = codes "@" ++ named.0 ++ codes "=" ++ said in
    let text_is : encode_utf8_all front ≡ named.0 ++ 61 ∷ [] = named.2 ∙ ap (λ (bs : List ℕ). named.0 ++ bs) (encode_ascii 61 (omega arith)) in
    record {
      front = front ++ value.1;
      adds = (
        kind,
        part,
        before,
        is,
        (named.0, said, named.1, (value.0, value.2, value.4), refl),
        append_assoc (gap top.filling) (codes "@") (encode_utf8_all (front ++ value.1))
            ∙ ap (λ (bs : List ℕ). gap top.filling ++ 64 ∷ bs) (encodes-append front value.1 ∙ ap (λ (bs : List ℕ). bs ++ said) text_is),
        refl,
      );
      passes = passes_on a b c front value.1 passes value.3.passed;
      leads = leads_then (StartsAttribute s top above) (StartsValue s kind L) L front value.1 c.rest.now
          (subst (λ (bs : List ℕ). Leads (StartsAttribute s top above) front bs (StartsValue s kind L)) value.3.passed.stands (attribute_leads s top above name kind front b.rest.now is named))
          (value_leads s kind v L b c (value_ends s top.kind fills.Attributes above tt sound.1) value);
    }

pub attribute_value_stalls : (s : PlainSchema) (top : OpenElement) (above : List OpenElement) (name kind : ℕ) (front : List ℕ) (a b : TextCursor) (f : ScanFault) → IsSound s (Within (top ∷ above)) →
    attribute_of s top.kind name ≡ Some kind → IsSome (simple_at s.kinds kind) → IsAwaitedText s (record { name = name; end = 61 }) (encode_utf8_all front) → Passes a front b → MissesValueOf s kind b f →
    StallsAt (StartsAttribute s top above) a f
attribute_value_stalls s top above name kind front a b f sound is simple named passes misses =
    let L : List ℕ → Type 0 = Completes s (Within (element top.kind fills.Attributes ∷ above)) in
    let rest = completes_all s (element top.kind fills.Attributes ∷ above) (attributes_open s top above name kind sound is) in
    stalls_behind (StartsAttribute s top above) (StartsValue s kind L) a b front f passes (attribute_leads s top above name kind front b.rest.now is named) (inr (value_some s top above name kind sound is simple))
    (value_stalls s kind L b f rest.0 rest.1 (value_ends s top.kind fills.Attributes above tt sound.1) misses)

pub attribute_name_stalls : (s : PlainSchema) (top : OpenElement) (above : List OpenElement) (attributes : List AttributeOf) (awaited items : List Awaited) (a : TextCursor) (f : ScanFault) → IsSound s (Within (top ∷ above)) →
    AllByRecursion (FitsAttribute s) attributes → ((name : ℕ) → attribute_of s top.kind name ≡ attribute_named attributes name) → items ≡ map awaited_attribute attributes → awaited ≡ items →
    MissesAt (IsAnyAwaited s awaited) a f → StallsAt (StartsAttribute s top above) a f
attribute_name_stalls s top above attributes awaited items a f sound fit of_kind made same p =
    stalls_named s awaited (StartsAttribute s top above) a f (attributes_marked s attributes awaited items fit made same)
    (λ text is.
    let one = attribute_at attributes awaited items is.0 is.1 made same is.2 in
    let found = attribute_found s attributes is.0 one.0 one.1 in
    let kind : attribute_of s top.kind one.0.name ≡ Some found.0 = of_kind one.0.name ∙ found.1 in
    let fits = named_fits s attributes one.0.name found.0 fit found.1 in
    let some = value_some s top above one.0.name found.0 sound kind fits.1 in
    let named : IsAwaitedText s (awaited_attribute one.0) text = subst (λ (x : Awaited). IsAwaitedText s x text) (sym one.2) is.3 in (
      some.0,
      record {
        name = one.0.name;
        kind = found.0;
        word = named.0;
        rest = some.0;
        declared = kind;
        named = named.1;
        follows = some.1;
        text_is = ap (λ (bs : List ℕ). bs ++ some.0) (named.2 ∙ ap (λ (bs : List ℕ). named.0 ++ bs) (encode_ascii 61 (omega arith))) ∙ append_assoc named.0 (61 ∷ []) some.0;
      },
    ))
    (λ text q.
    let there = attribute_there attributes q.name q.kind (sym (of_kind q.name) ∙ q.declared) in
    let word : IsAwaitedText s (awaited_attribute there.1) (q.word ++ 61 ∷ []) =
    (q.word, subst (λ (n : ℕ). IsName s n q.word) (sym there.3) q.named, ap (λ (bs : List ℕ). q.word ++ bs) (sym (encode_ascii 61 (omega arith)))) in (
      q.word ++ 61 ∷ [],
      q.rest,
      (there.0, awaited_attribute there.1, ap (λ (xs : List Awaited). slice_get xs there.0) (same ∙ made) ∙ get_map awaited_attribute attributes there.0 there.1 there.2, word),
      q.text_is ∙ sym (append_assoc q.word (61 ∷ []) q.rest),
    ))
    p

-- ---- the answers of an attribute

pub attribute_got : (attributes : List AttributeOf) (s : PlainSchema) (awaited items : List Awaited) (i : ℕ) (a b : TextCursor) → items ≡ map awaited_attribute attributes → awaited ≡ items → NameTaken s awaited a b i →
    (attribute : AttributeOf) × (slice_get attributes i ≡ Some attribute)
attribute_got attributes s awaited items i a b made same p = let one = attribute_at attributes awaited items i p.1 made same p.3 in (one.0, one.1)

pub attribute_within : (attributes : List AttributeOf) (s : PlainSchema) (awaited items : List Awaited) (i : ℕ) (a b : TextCursor) → items ≡ map awaited_attribute attributes → awaited ≡ items → NameTaken s awaited a b i → i < length attributes
attribute_within attributes s awaited items i a b made same p = let one = attribute_got attributes s awaited items i a b made same p in slice_get_within attributes i one.0 one.1

pub attribute_named_so : (attributes : List AttributeOf) (s : PlainSchema) (awaited items : List Awaited) (i : ℕ) (d : AttributeOf) (a b : TextCursor) → items ≡ map awaited_attribute attributes → awaited ≡ items → (p : NameTaken s awaited a b i) →
    IsAwaitedText s (record { name = (get_or attributes i d).name; end = 61 }) (encode_utf8_all p.0)
attribute_named_so attributes s awaited items i d a b made same p =
    let one = attribute_at attributes awaited items i p.1 made same p.3 in
    subst (λ (x : AttributeOf). IsAwaitedText s (awaited_attribute x) (encode_utf8_all p.0)) (got attributes i d one.0 one.1)
    (subst (λ (x : Awaited). IsAwaitedText s x (encode_utf8_all p.0)) (sym one.2) p.4)

pub attribute_known : (attributes : List AttributeOf) (s : PlainSchema) (awaited items : List Awaited) (i : ℕ) (d : AttributeOf) (a b : TextCursor) (o : Option ℕ) → items ≡ map awaited_attribute attributes → awaited ≡ items → NameTaken s awaited a b i →
    o ≡ attribute_named attributes (get_or attributes i d).name → (kind : ℕ) × (o ≡ Some kind)
attribute_known attributes s awaited items i d a b o made same p e =
    let one = attribute_got attributes s awaited items i a b made same p in
    let found = attribute_found s attributes i one.0 one.1 in
    (found.0, e ∙ ap (λ (x : AttributeOf). attribute_named attributes x.name) (sym (got attributes i d one.0 one.1)) ∙ found.1)

pub attribute_answer : (s : PlainSchema) (elements filled : List OpenElement) (top : OpenElement) (attributes : List AttributeOf) (awaited items : List Awaited) (i kind : ℕ) (d : AttributeOf) (v : Value) (a b c : TextCursor) (o : Option ℕ) (above : List OpenElement) →
    items ≡ map awaited_attribute attributes → awaited ≡ items → NameTaken s awaited a b i → o ≡ attribute_named attributes (get_or attributes i d).name → o ≡ Some kind →
    ((name : ℕ) → attribute_of s top.kind name ≡ attribute_named attributes name) → IsSound s (Within elements) → IsBeforeElements top.filling → TakesValueOf s kind v b c →
    ((t : OpenElement) (more : List OpenElement) → elements ≡ t ∷ more → filled ≡ element t.kind fills.Attributes ∷ more) → elements ≡ top ∷ above →
    TakesNext s (gap top.filling ++ codes "@") (StartsAttribute s top above) (Within elements) a (Attribute (get_or attributes i d).name v) (Within filled) c
attribute_answer s elements filled top attributes awaited items i kind d v a b c o above made same p e is of_kind sound before value fill has =
    subst (λ (x : List OpenElement). TakesNext s (gap top.filling ++ codes "@") (StartsAttribute s top above) (Within elements) a (Attribute (get_or attributes i d).name v) (Within x) c) (sym (fill top above has))
    (subst (λ (x : List OpenElement). TakesNext s (gap top.filling ++ codes "@") (StartsAttribute s top above) (Within x) a (Attribute (get_or attributes i d).name v) (Within (element top.kind fills.Attributes ∷ above)) c) (sym has)
    (attribute_taken s top above (get_or attributes i d).name kind v p.0 a b c (subst (λ (x : List OpenElement). IsSound s (Within x)) has sound) before
    (of_kind (get_or attributes i d).name ∙ sym e ∙ is) (attribute_named_so attributes s awaited items i d a b made same p) p.2.passed value))

pub attribute_value_answer : (s : PlainSchema) (elements : List OpenElement) (top : OpenElement) (attributes : List AttributeOf) (awaited items : List Awaited) (i kind : ℕ) (d : AttributeOf) (a b : TextCursor) (o : Option ℕ) (above : List OpenElement) (f : ScanFault) →
    items ≡ map awaited_attribute attributes → awaited ≡ items → NameTaken s awaited a b i → o ≡ attribute_named attributes (get_or attributes i d).name → o ≡ Some kind →
    ((name : ℕ) → attribute_of s top.kind name ≡ attribute_named attributes name) → IsSound s (Within elements) → AllByRecursion (FitsAttribute s) attributes → MissesValueOf s kind b f → elements ≡ top ∷ above →
    StallsAt (StartsAttribute s top above) a f
attribute_value_answer s elements top attributes awaited items i kind d a b o above f made same p e is of_kind sound fit misses has =
    attribute_value_stalls s top above (get_or attributes i d).name kind p.0 a b f (subst (λ (x : List OpenElement). IsSound s (Within x)) has sound)
    (of_kind (get_or attributes i d).name ∙ sym e ∙ is) (named_fits s attributes (get_or attributes i d).name kind fit (sym e ∙ is)).1
    (attribute_named_so attributes s awaited items i d a b made same p) p.2.passed misses
