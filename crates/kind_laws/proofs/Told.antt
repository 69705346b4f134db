-- What a spelling tells of its value, and of the texts that are entered.
use Rattle.std.proofs.Common.{◌≡◌, ℕ, pos, zero, suc, ◌≤◌, Bool, true, false, cond, eqb, List, [], ◌∷◌, ◌++◌, length, Some, refl, sym, ap, subst, ◌∙◌, arith, slice_get, inl, inr}
use Rattle.std.specs.List.{AllByRecursion}
use Rattle.std.specs.Char.{IsScalar}
use Rattle.exi_spec.specs.Items.{SpellsChars}
use Rattle.exi_schema.specs.Plain.{PlainKind}
use Rattle.exi_schema.specs.declared.places.Place.{Place}
use Rattle.exi_schema.specs.declared.tables.Datatype.{Datatype}
use Rattle.exi_schema.specs.declared.tables.Datatype.TheVariants.{Bool as BoolType, Named, Bounded, Unsigned, Signed, Binary, Text as TextType}
use Rattle.exi_strings.specs.Table.{global_of, local_of}
use Rattle.exi_strings.specs.Texts.{SpellsText, entered}
use Rattle.exi_documents.specs.Trees.{Value, Truth, Ordinal, Number, Bytes, Text, Trees, none, simple, complex}
use Rattle.exi_documents.specs.Values.{Entries, most_entries, IsValue, SpellsValue}
use Rattle.exi_documents.specs.Documents.{SpellsSimple, SpellsAttributes, SpellsTrees}
use Rattle.kind_laws.specs.Texts.{text_in, attribute_texts, texts_of, IsAmong}
use Rattle.kind_laws.proofs.Lists.{none_of, one_of, get_front, get_back}
use Rattle.kind_laws.proofs.Entering.{global_more}

-- ---- code points

abbrev AreScalar : List ℕ → Type 0
AreScalar text = AllByRecursion (λ char. IsScalar char) text

chars_scalar : (chars : List ℕ) (bits : List Bool) → SpellsChars chars bits → AreScalar chars
chars_scalar [] bits h = tt
chars_scalar (char ∷ chars) bits h = (h.2.scalar, chars_scalar chars h.1 h.3)

-- ---- a table of texts, which a document may have entered

pub record IsProper (entries : Entries) : Type 0 where
  pub few : length entries ≤ most_entries
  pub scalar : AllByRecursion (λ e. AreScalar e.1) entries

pub proper_none : IsProper []
proper_none = record { few = omega arith; scalar = tt }

in_global : (entries : Entries) (i : ℕ) (t : List ℕ) → AllByRecursion (λ e. AreScalar e.1) entries → slice_get (global_of entries) i ≡ Some t → AreScalar t
in_global [] i t all h = absurd (none_of t h)
in_global (entry ∷ entries) zero t all h = subst AreScalar (one_of (Some entry.1) entry.1 t refl h) all.0
in_global (entry ∷ entries) (suc i) t all h = in_global entries i t all.1 h

-- a text of a local partition is one of the global one
local_by : (b : Bool) (x t : List ℕ) (locals globals : List (List ℕ)) (i : ℕ) → ((k : ℕ) → slice_get locals k ≡ Some t → IsAmong globals t) → slice_get (cond b (x ∷ locals) locals) i ≡ Some t → IsAmong (x ∷ globals) t
local_by true x t locals globals zero more h = (0, h)
local_by true x t locals globals (suc i) more h = let there = more i h in (suc there.0, there.1)
local_by false x t locals globals i more h = let there = more i h in (suc there.0, there.1)

pub local_among : (name : ℕ) (entries : Entries) (i : ℕ) (t : List ℕ) → slice_get (local_of name entries) i ≡ Some t → IsAmong (global_of entries) t
local_among name [] i t h = absurd (none_of t h)
local_among name (entry ∷ entries) i t h = local_by (eqb entry.0 name) entry.1 t (local_of name entries) (global_of entries) i (λ k. local_among name entries k t) h

all_more : (entries : Entries) (name : ℕ) (t : List ℕ) → AllByRecursion (λ e. AreScalar e.1) entries → AreScalar t → AllByRecursion (λ e. AreScalar e.1) (entries ++ (name, t) ∷ [])
all_more [] name t all one = (one, tt)
all_more (entry ∷ entries) name t all one = (all.0, all_more entries name t all.1 one)

entered_scalar : (entries : Entries) (name : ℕ) (t : List ℕ) → AllByRecursion (λ e. AreScalar e.1) entries → AreScalar t → AllByRecursion (λ e. AreScalar e.1) (entered entries name t)
entered_scalar entries name [] all one = all
entered_scalar entries name (c ∷ cs) all one = all_more entries name (c ∷ cs) all one

-- ---- a value

text_told : (most : ℕ) (entries after : Entries) (name : ℕ) (chars : List ℕ) (bits : List Bool) → SpellsText most entries name chars bits after → IsProper entries → AreScalar chars × AllByRecursion (λ e. AreScalar e.1) after
text_told most entries after name chars bits h proper =
    elim h.spelled [
      | inl hit ↦
          let own : AreScalar chars =
          elim hit.0 [
            | inl local ↦ let index = local.3 in let there = local_among name entries index.index chars index.found in in_global entries there.0 chars proper.scalar there.1
            | inr global ↦ let index = global.3 in in_global entries index.index chars proper.scalar index.found
          ] in
          (own, subst (λ (es : Entries). AllByRecursion (λ e. AreScalar e.1) es) (sym hit.1) proper.scalar)
      | inr out ↦
          let own = chars_scalar chars out.0.1 out.0.3 in
          (own, subst (λ (es : Entries). AllByRecursion (λ e. AreScalar e.1) es) (sym out.1) (entered_scalar entries name chars proper.scalar own))
    ]

-- the value is one of its datatype
pub value_told : (datatype : Datatype) (entries : Entries) (name : ℕ) (value : Value) (bits : List Bool) (after : Entries) → SpellsValue datatype entries name value bits after → IsProper entries → IsValue datatype value × IsProper after
value_told BoolType entries name (Truth truth) bits after h proper = (tt, subst IsProper (sym h.1) proper)
value_told (Named count) entries name (Ordinal ordinal) bits after h proper = (h.0.below, subst IsProper (sym h.1) proper)
value_told (Bounded least count) entries name (Number v) bits after h proper = ((h.0.0, h.0.2.below, h.0.1), subst IsProper (sym h.1) proper)
value_told (Unsigned most) entries name (Number (pos n)) bits after h proper = (h.0, subst IsProper (sym h.2) proper)
value_told (Signed least most) entries name (Number v) bits after h proper = ((h.0, h.1), subst IsProper (sym h.3) proper)
value_told (Binary most) entries name (Bytes bytes) bits after h proper = ((h.0, h.1.3.range), subst IsProper (sym h.2) proper)
value_told (TextType most) entries name (Text chars) bits after h proper =
    let told = text_told most entries after name chars bits h.0 proper in ((h.0.within, told.0), record { few = h.1; scalar = told.1 })
value_told _ entries name _ bits after h proper = absurd h

-- ---- the texts of a tree are among those entered

abbrev pub Among : Entries → List (List ℕ) → Type 0
Among entries texts = AllByRecursion (IsAmong (global_of entries)) texts

-- what is entered stays
abbrev pub Grows : Entries → Entries → Type 0
Grows before after = (t : List ℕ) → IsAmong (global_of before) t → IsAmong (global_of after) t

pub all_grown : (before after : Entries) (texts : List (List ℕ)) → Grows before after → Among before texts → Among after texts
all_grown before after [] grows all = tt
all_grown before after (t ∷ texts) grows all = (grows t all.0, all_grown before after texts grows all.1)

pub both_among : (entries : Entries) (xs ys : List (List ℕ)) → Among entries xs → Among entries ys → Among entries (xs ++ ys)
both_among entries [] ys p q = q
both_among entries (x ∷ xs) ys p q = (p.0, both_among entries xs ys p.1 q)

grows_same : (before after : Entries) → after ≡ before → Grows before after
grows_same before after same t = subst (λ (es : Entries). IsAmong (global_of before) t → IsAmong (global_of es) t) (sym same) (λ h. h)

grows_more : (entries : Entries) (name : ℕ) (chars : List ℕ) → Grows entries (entered entries name chars)
grows_more entries name [] t h = h
grows_more entries name (c ∷ cs) t h =
    (h.0, ap (λ (l : List (List ℕ)). slice_get l h.0) (global_more entries name (c ∷ cs)) ∙ get_front (global_of entries) ((c ∷ cs) ∷ []) h.0 t h.1)

entered_among : (entries : Entries) (name c : ℕ) (cs : List ℕ) → IsAmong (global_of (entered entries name (c ∷ cs))) (c ∷ cs)
entered_among entries name c cs =
    let there = get_back (global_of entries) ((c ∷ cs) ∷ []) 0 (c ∷ cs) refl in
    (there.0, ap (λ (l : List (List ℕ)). slice_get l there.0) (global_more entries name (c ∷ cs)) ∙ there.1)

text_among : (most : ℕ) (entries after : Entries) (name : ℕ) (chars : List ℕ) (bits : List Bool) → SpellsText most entries name chars bits after → Among after (text_in (Text chars)) × Grows entries after
text_among most entries after name [] bits h =
    elim h.spelled [ inl hit ↦ (tt, grows_same entries after hit.1) | inr out ↦ (tt, grows_same entries after out.1) ]
text_among most entries after name (c ∷ cs) bits h =
    elim h.spelled [
      | inl hit ↦
          let own : IsAmong (global_of entries) (c ∷ cs) =
          elim hit.0 [
            | inl local ↦ let index = local.3 in local_among name entries index.index (c ∷ cs) index.found
            | inr global ↦ let index = global.3 in (index.index, index.found)
          ] in
          let grows = grows_same entries after hit.1 in ((grows (c ∷ cs) own, tt), grows)
      | inr out ↦ (
        (subst (λ (es : Entries). IsAmong (global_of es) (c ∷ cs)) (sym out.1) (entered_among entries name c cs), tt),
        (λ t. subst (λ (es : Entries). IsAmong (global_of entries) t → IsAmong (global_of es) t) (sym out.1) (grows_more entries name (c ∷ cs) t)),
      )
    ]

value_among : (datatype : Datatype) (entries : Entries) (name : ℕ) (value : Value) (bits : List Bool) (after : Entries) → SpellsValue datatype entries name value bits after → Among after (text_in value) × Grows entries after
value_among BoolType entries name (Truth truth) bits after h = (tt, grows_same entries after h.1)
value_among (Named count) entries name (Ordinal ordinal) bits after h = (tt, grows_same entries after h.1)
value_among (Bounded least count) entries name (Number v) bits after h = (tt, grows_same entries after h.1)
value_among (Unsigned most) entries name (Number (pos n)) bits after h = (tt, grows_same entries after h.2)
value_among (Signed least most) entries name (Number v) bits after h = (tt, grows_same entries after h.3)
value_among (Binary most) entries name (Bytes bytes) bits after h = (tt, grows_same entries after h.2)
value_among (TextType most) entries name (Text chars) bits after h = text_among most entries after name chars bits h.0
value_among _ entries name _ bits after h = absurd h

pub simple_among : (kinds : List PlainKind) (kind : ℕ) (entries after : Entries) (name : ℕ) (value : Value) (bits : List Bool) → SpellsSimple SpellsValue kinds kind entries name value bits after → Among after (text_in value) × Grows entries after
simple_among kinds kind entries after name value bits h = value_among h.datatype entries name value h.inside after h.spelled

pub attributes_among : (kinds : List PlainKind) (here there : Place) (entries after : Entries) (values : List (ℕ × Value)) (bits : List Bool) → SpellsAttributes SpellsValue kinds here entries values bits there after → Among after (attribute_texts values) × Grows entries after
attributes_among kinds here there entries after [] bits h = (tt, grows_same entries after h.2)
attributes_among kinds here there entries after (value ∷ values) bits h =
    let own = value_among h.datatype entries value.0 value.1 h.inside h.middle h.spelled in
    let rest = attributes_among kinds h.next there h.middle after values h.rest h.behind in (
      both_among after (text_in value.1) (attribute_texts values) (all_grown h.middle after (text_in value.1) rest.1 own.0) rest.0,
      (λ t known. rest.1 t (own.1 t known)),
    )

pub trees_among : (kinds : List PlainKind) (here : Place) (entries after : Entries) (trees : Trees) (bits : List Bool) → SpellsTrees SpellsValue kinds here entries trees bits after → Among after (texts_of trees) × Grows entries after
trees_among kinds here entries after none bits h = (tt, grows_same entries after h.1)
trees_among kinds here entries after (simple name value more) bits h =
    let own = simple_among kinds h.kind entries h.middle name value h.inside h.spelled in
    let rest = trees_among kinds h.next h.middle after more h.rest h.behind in (
      both_among after (text_in value) (texts_of more) (all_grown h.middle after (text_in value) rest.1 own.0) rest.0,
      (λ t known. rest.1 t (own.1 t known)),
    )
trees_among kinds here entries after (complex name attributes children more) bits h =
    let front = attributes_among kinds _ h.spelled.there entries h.spelled.within attributes h.spelled.front h.spelled.begun in
    let inside = trees_among kinds h.spelled.there h.spelled.within h.middle children h.spelled.inside h.spelled.ended in
    let rest = trees_among kinds h.next h.middle after more h.rest h.behind in (
      both_among after (attribute_texts attributes) (texts_of children ++ texts_of more)
          (all_grown h.spelled.within after (attribute_texts attributes) (λ t known. rest.1 t (inside.1 t known)) front.0)
          (both_among after (texts_of children) (texts_of more) (all_grown h.middle after (texts_of children) rest.1 inside.0) rest.0),
      (λ t known. rest.1 t (inside.1 t (front.1 t known))),
    )
