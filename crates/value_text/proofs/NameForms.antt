-- The texts of an enumeration in the code, and the names that are awaited.
use Rattle.std.proofs.Common.{◌≡◌, ℕ, zero, suc, ◌<◌, ◌≤◌, ℤ, pos, negsuc, List, [], ◌∷◌, ◌++◌, length, map, get_or, Bor, ◌⊎◌, inl, inr, refl, sym, ap, subst, ◌∙◌, arith, SFits}
use Rattle.std.specs.Prelude.{◌==◌, Bool, All, Some, None, slice_get, encode_utf8}
use Rattle.std.specs.Int.{w128}
use Rattle.std.specs.Str.{encode_utf8_all, IsAscii}
use Rattle.std.proofs.lemmas.List.{length-map}
use Rattle.std.proofs.lemmas.Str.{IsAscii-append, encode_ascii}
use Rattle.exi_schema.specs.declared.schema.Schema.{Schema}
use Rattle.exi_schema.specs.Schemas.{PlainSchema}
use Rattle.exi_schema.specs.Told.{schema_of}
use Rattle.exi_schema.specs.declared.tables.Datatype.{Datatype}
use Rattle.exi_schema.specs.declared.tables.Datatype.TheVariants.{Named, Bounded, Unsigned, Signed}
use Rattle.exi_schema.specs.Plain.{valued}
use Rattle.exi_schema.specs.Steps.{texts_of}
use Rattle.value_text.specs.declared.awaited.Awaited.{Awaited}
use Rattle.value_text.specs.declared.cursor.TextCursor.{TextCursor}
use Rattle.value_text.specs.Forms.{AreAscii, AgreesMost, IsOneOf, awaited_text}
use Rattle.value_text.specs.Scanning.{Takes, GoesWrong, IsAnyAwaited, IsAwaitedText}
use Rattle.value_text.specs.ValueText.{IsShort, IsName}
use Rattle.value_text.proofs.SchemaWords.{values_ascii, names_ascii, names_of_kind, some_names}
use Rattle.value_text.proofs.ValueForms.{SameTexts, names_there, IsNumeric}
use Rattle.value_text.proofs.BestWords.{GivesWord}
use Rattle.value_text.proofs.FrontLaws.{takes_same, wrong_same}

pub get_below : {X : Type 0} (xs : List X) (i : ℕ) (x : X) → slice_get xs i ≡ Some x → i < length xs
get_below {X} [] i x h = let wrong : None ≡ Some x = h in absurd cc
get_below (y ∷ xs) zero x h = omega arith
get_below (y ∷ xs) (suc i) x h = omega (arith, get_below xs i x h)

-- ---- an enumeration's texts

declared : (s : PlainSchema) (kind count : ℕ) (datatype : Datatype) → slice_get s.kinds kind ≡ Some (valued datatype) → datatype ≡ Named count → slice_get s.kinds kind ≡ Some (valued (Named count))
declared s kind count datatype at is = at ∙ ap (λ (d : Datatype). Some (valued d)) is

pub values_within : (s : Schema) (kind count : ℕ) (datatype : Datatype) → slice_get (schema_of s).kinds kind ≡ Some (valued datatype) → datatype ≡ Named count → kind < length s.values.now
values_within s kind count datatype at is =
    let found = names_of_kind (schema_of s) kind count (declared (schema_of s) kind count datatype at is) in
    let within = get_below (schema_of s).values kind found.0 found.1 in
    omega (arith, within, length-map s.values.now (λ (l : Bor (List (Bor (List ℕ)))). map (λ (t : Bor (List ℕ)). t.now) l.now))

pub texts_ascii : (s : Schema) (kind : ℕ) (d : Bor (List (Bor (List ℕ)))) → kind < length s.values.now → AreAscii (map (λ t. t.now) (get_or s.values.now kind d).now)
texts_ascii s kind d within = subst AreAscii (sym (names_there s kind d within)) (values_ascii (schema_of s) kind)

pub texts_count : (s : Schema) (kind count : ℕ) (datatype : Datatype) (d : Bor (List (Bor (List ℕ)))) → slice_get (schema_of s).kinds kind ≡ Some (valued datatype) → datatype ≡ Named count → kind < length s.values.now
    → length (get_or s.values.now kind d).now ≡ count
texts_count s kind count datatype d at is within =
    let found = names_of_kind (schema_of s) kind count (declared (schema_of s) kind count datatype at is) in
    sym (length-map (get_or s.values.now kind d).now (λ (t : Bor (List ℕ)). t.now)) ∙ ap length (names_there s kind d within) ∙ ap (λ o. length (texts_of o)) found.1 ∙ found.2

pub texts_some : (s : PlainSchema) (kind count : ℕ) (datatype : Datatype) → slice_get s.kinds kind ≡ Some (valued datatype) → datatype ≡ Named count → 1 ≤ count
texts_some s kind count datatype at is = some_names s kind count (declared s kind count datatype at is)

-- ---- numbers

pub short_fits : (v : ℤ) → IsShort v → SFits w128 v
short_fits (pos n) short = record { sfits = omega (arith, short) }
short_fits (negsuc n) short = record { sfits = omega (arith, short) }

pub is_numeric : (datatype : Datatype) → ((least : ℤ) × (count : ℕ) × (datatype ≡ Bounded least count)) ⊎ (((most : ℕ) × (datatype ≡ Unsigned most)) ⊎ ((least : ℤ) × (most : ℤ) × (datatype ≡ Signed least most)))
    → IsNumeric datatype
is_numeric datatype (inl p) = subst IsNumeric (sym p.2) tt
is_numeric datatype (inr (inl p)) = subst IsNumeric (sym p.1) tt
is_numeric datatype (inr (inr p)) = subst IsNumeric (sym p.2) tt

-- ---- the names that are awaited

abbrev pub name_at : PlainSchema → ℕ → List ℕ
name_at s name = get_or s.names name []

abbrev pub awaited_words : PlainSchema → List Awaited → List (List ℕ)
awaited_words s awaited = map (λ (one : Awaited). awaited_text (name_at s one.name) one.end) awaited

get_is : (xs : List (List ℕ)) (i : ℕ) (x : List ℕ) → slice_get xs i ≡ Some x → get_or xs i [] ≡ x
get_is [] i x h = let wrong : None ≡ Some x = h in absurd cc
get_is (y ∷ xs) zero x h = let same : Some y ≡ Some x = h in cc
get_is (y ∷ xs) (suc i) x h = get_is xs i x h

get_there : (xs : List (List ℕ)) (i : ℕ) → i < length xs → slice_get xs i ≡ Some (get_or xs i [])
get_there [] i lt = absurd (omega (arith, lt))
get_there (y ∷ xs) zero lt = refl
get_there (y ∷ xs) (suc i) lt = get_there xs i (omega (arith, lt))

name_there : (s : PlainSchema) (name : ℕ) → name < length s.names → IsName s name (name_at s name)
name_there s name lt = get_there s.names name lt

unmapped : {X Y : Type 0} (f : X → Y) (xs : List X) (i : ℕ) (y : Y) → slice_get (map f xs) i ≡ Some y → (x : X) × (slice_get xs i ≡ Some x) × (f x ≡ y)
unmapped {X} {Y} f [] i y h = let wrong : None ≡ Some y = h in absurd cc
unmapped {X} {Y} f (x ∷ xs) zero y h = let same : Some (f x) ≡ Some y = h in let is : f x ≡ y = cc in (x, refl, is)
unmapped f (x ∷ xs) (suc i) y h = unmapped f xs i y h

remapped : {X Y : Type 0} (f : X → Y) (xs : List X) (i : ℕ) (x : X) → slice_get xs i ≡ Some x → slice_get (map f xs) i ≡ Some (f x)
remapped {X} f [] i x h = let wrong : None ≡ Some x = h in absurd cc
remapped {X} f (y ∷ xs) zero x h = let same : Some y ≡ Some x = h in let is : y ≡ x = cc in ap (λ (z : X). Some (f z)) is
remapped f (y ∷ xs) (suc i) x h = remapped f xs i x h

-- all of them fit
abbrev pub AreNames : PlainSchema → List Awaited → Type 0
AreNames s awaited = (i : ℕ) (one : Awaited) → slice_get awaited i ≡ Some one → (one.name < length s.names) × (one.end < 128)

found_at : (xs : List Awaited) (i : ℕ) (one d : Awaited) → slice_get xs i ≡ Some one → get_or xs i d ≡ one
found_at [] i one d h = let wrong : None ≡ Some one = h in absurd cc
found_at (y ∷ xs) zero one d h = let same : Some y ≡ Some one = h in cc
found_at (y ∷ xs) (suc i) one d h = found_at xs i one d h

pub are_names : (s : PlainSchema) (awaited : List Awaited) → All (λ (one : Awaited). one.name < length s.names) awaited → All (λ (one : Awaited). one.end < 128) awaited → AreNames s awaited
are_names s awaited names ends i one at =
    let lt = get_below awaited i one at in
    let is = found_at awaited i one one at in
    (subst (λ (x : Awaited). x.name < length s.names) is (names i one lt), subst (λ (x : Awaited). x.end < 128) is (ends i one lt))

spelled : (s : PlainSchema) (one : Awaited) (t : List ℕ) → IsAwaitedText s one t → t ≡ awaited_text (name_at s one.name) one.end
spelled s one t is = is.2 ∙ ap (λ (bs : List ℕ). bs ++ encode_utf8 one.end) (sym (get_is s.names one.name is.0 is.1))

pub awaited_same : (s : PlainSchema) (awaited : List Awaited) → AreNames s awaited → SameTexts (IsOneOf (awaited_words s awaited)) (IsAnyAwaited s awaited)
awaited_same s awaited fit = record {
  to = λ t one.
      let found = unmapped (λ (x : Awaited). awaited_text (name_at s x.name) x.end) awaited one.0 t one.1 in
      (one.0, found.0, found.1, (name_at s found.0.name, name_there s found.0.name (fit one.0 found.0 found.1).0, sym found.2));
  from = λ t one. (one.0, remapped (λ (x : Awaited). awaited_text (name_at s x.name) x.end) awaited one.0 one.1 one.2 ∙ ap (λ (bs : List ℕ). Some bs) (sym (spelled s one.1 t one.3)));
}

pub awaited_ascii : (s : PlainSchema) (awaited : List Awaited) → AreNames s awaited → AreAscii (awaited_words s awaited)
awaited_ascii s awaited fit i word at =
    let found = unmapped (λ (x : Awaited). awaited_text (name_at s x.name) x.end) awaited i word at in
    let fits = fit i found.0 found.1 in
    subst IsAscii found.2 (IsAscii-append (name_at s found.0.name) (encode_utf8 found.0.end)
    (names_ascii s found.0.name (name_at s found.0.name) (name_there s found.0.name fits.0))
    (subst IsAscii (sym (encode_ascii found.0.end fits.1)) (one_ascii found.0.end fits.1)))
  where
    one_ascii : (c : ℕ) → c < 128 → IsAscii (c ∷ [])
    one_ascii c small zero = small
    one_ascii c small (suc k) = omega arith

abbrev pub GivesName : PlainSchema → List Awaited → TextCursor → ℕ → TextCursor → Type 0
GivesName s awaited a i b =
    (front : List ℕ) × (one : Awaited) × Takes (IsAnyAwaited s awaited) a front b × (slice_get awaited i ≡ Some one) × IsAwaitedText s one (encode_utf8_all front)

pub takes_name : (s : PlainSchema) (awaited : List Awaited) (a b : TextCursor) (i : ℕ) → AreNames s awaited → GivesWord (awaited_words s awaited) a i b → GivesName s awaited a i b
takes_name s awaited a b i fit g =
    let same = awaited_same s awaited fit in
    let found = unmapped (λ (x : Awaited). awaited_text (name_at s x.name) x.end) awaited i (encode_utf8_all g.0) g.2 in (
      g.0,
      found.0,
      takes_same (IsOneOf (awaited_words s awaited)) (IsAnyAwaited s awaited) a g.0 b same.to same.from g.1,
      found.1,
      (name_at s found.0.name, name_there s found.0.name (fit i found.0 found.1).0, sym found.2),
    )

pub no_name : (s : PlainSchema) (awaited : List Awaited) (a : TextCursor) (place : ℕ) → AreNames s awaited → GoesWrong (IsOneOf (awaited_words s awaited)) a place → GoesWrong (IsAnyAwaited s awaited) a place
no_name s awaited a place fit w =
    let same = awaited_same s awaited fit in wrong_same (IsOneOf (awaited_words s awaited)) (IsAnyAwaited s awaited) a place same.to same.from w

-- the name in the code
pub agrees_named : (s : PlainSchema) (text name : List ℕ) (one : Awaited) (count : ℕ) → Some name ≡ slice_get s.names one.name → AgreesMost text (awaited_text name one.end) count → AgreesMost text (awaited_text (name_at s one.name) one.end) count
agrees_named s text name one count is h = subst (λ (bs : List ℕ). AgreesMost text (awaited_text bs one.end) count) (sym (get_is s.names one.name name (sym is))) h

pub whole_named : (s : PlainSchema) (name : List ℕ) (one : Awaited) (count : ℕ) (flag : Bool) → Some name ≡ slice_get s.names one.name → flag ≡ (length (awaited_text name one.end) == count) → flag ≡ (length (awaited_text (name_at s one.name) one.end) == count)
whole_named s name one count flag is h = subst (λ (bs : List ℕ). flag ≡ (length (awaited_text bs one.end) == count)) (sym (get_is s.names one.name name (sym is))) h
