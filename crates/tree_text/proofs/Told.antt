-- What is spelled has a text: each event that moves a document on adds one.
use Rattle.std.proofs.Common.{◌≡◌, ℕ, zero, suc, ◌<◌, Bool, true, ◌&&◌, List, [], ◌∷◌, ◌++◌, length, codes, Some, None, refl, sym, ap, subst, ◌∙◌, inl, inr, arith}
use Rattle.std.proofs.lemmas.Bool.Decides.{eqb_tells}
use Rattle.std.proofs.lemmas.Option.{slice_get_cases}
use Rattle.std.specs.Prelude.{◌==◌, slice_get}
use Rattle.std.specs.Fmt.{signed_decimal}
use Rattle.hex.specs.Hex.{encode_lower}
use Rattle.exi_schema.specs.declared.places.Place.{Place}
use Rattle.exi_schema.specs.declared.places.Step.TheVariants as step
use Rattle.exi_schema.specs.Schemas.{PlainSchema, are_kinds, are_roots, are_words, are_values, value_count}
use Rattle.exi_schema.specs.declared.tables.Datatype.{Datatype}
use Rattle.exi_schema.specs.declared.tables.Datatype.TheVariants.{Named}
use Rattle.exi_schema.specs.Plain.{PlainKind, valued}
use Rattle.exi_schema.specs.Steps.{simple_at, texts_at}
use Rattle.exi_schema.proofs.Conditions.{and-l, and-r}
use Rattle.exi_documents.specs.Documents.{Speller, element}
use Rattle.exi_documents.specs.Grammar.{Opened, Standing, Before, AtRoot, Inside, Behind, State, around, stands, Moves, Reaches}
use Rattle.exi_documents.specs.Trees.{Value, Truth, Ordinal, Number, Bytes, Text, Event, Document, Start, Attribute, Content, EndElement}
use Rattle.exi_documents.specs.Values.{Entries, SpellsValue, WritesValue}
use Rattle.exi_events.specs.Reader.{innermost_place}
use Rattle.document_laws.specs.Laws.{IsStanding}
use Rattle.document_laws.proofs.Fits.{step_fits, root_name}
use Rattle.document_laws.proofs.Offered.{simple_is}
use Rattle.tree_text.specs.TreeText.{truth_text, quoted, IsValueText, IsName}
use Rattle.tree_text.specs.EventText.{gap, closing, Adds}
use Rattle.tree_text.specs.declared.print.TextEnd.{TextEnd}

-- ---- names and values

pub found : {X : Type 0} (xs : List X) (i : ℕ) → i < length xs → (x : X) × (slice_get xs i ≡ Some x)
found xs i less =
    elim (slice_get_cases xs i).1 [
      | inl is ↦ (is.0, is.2)
      | inr past ↦ let more = past.0 in absurd (omega (arith, less, more))
    ]

pub has_name : (s : PlainSchema) (name : ℕ) → name < length s.names → (word : List ℕ) × IsName s name word
has_name s name less = found s.names name less

same_count : (n m : ℕ) → (n == m) ≡ true → n ≡ m
same_count n m is = elim (eqb_tells n m) [ inl tells ↦ tells.1 | inr tells ↦ let wrong = tells.0 in absurd cc ]

-- an enumeration has as many names as values
counted : (kinds : List PlainKind) (values : List (List (List ℕ))) (k : ℕ) (d : PlainKind) → are_values kinds values ≡ true → slice_get kinds k ≡ Some d → length (texts_at values k) ≡ value_count d
counted [] values k d h e = let wrong : None ≡ Some d = e in absurd cc
counted (kind ∷ kinds) [] k d h e = absurd cc
counted (kind ∷ kinds) (texts ∷ more) zero d h e =
    let same : Some kind ≡ Some d = e in let is : kind ≡ d = cc in
    same_count (length texts) (value_count kind) (and-l (length texts == value_count kind) (are_words texts) (and-l (length texts == value_count kind && are_words texts) (are_values kinds more) h)) ∙ ap value_count is
counted (kind ∷ kinds) (texts ∷ more) (suc k) d h e =
    counted kinds more k d (and-r (length texts == value_count kind && are_words texts) (are_values kinds more) h) e

has_value_name : (s : PlainSchema) (kind count ordinal : ℕ) → simple_at s.kinds kind ≡ Some (Named count) → ordinal < count → (text : List ℕ) × (slice_get (texts_at s.values kind) ordinal ≡ Some text)
has_value_name s kind count ordinal is less =
    let names : List (List ℕ) = s.names in
    let values : List (List (List ℕ)) = s.values in
    let fit : are_values s.kinds values ≡ true = and-r (are_kinds (length names) s.kinds && are_roots s.root_bits (length names) s.kinds s.roots && are_words names) (are_values s.kinds values) s.fits in
    let many = counted s.kinds values kind (valued (Named count)) fit (simple_is (slice_get s.kinds kind) (Named count) is) in
    found (texts_at values kind) ordinal (omega (arith, many, less))

pub has_text : (s : PlainSchema) (kind name : ℕ) (d : Datatype) (entries after : Entries) (v : Value) (bits : List Bool) → simple_at s.kinds kind ≡ Some d → SpellsValue d entries name v bits after → (said : List ℕ) × IsValueText s kind v said
has_text s kind name d entries after (Truth truth) bits is h = (truth_text truth, refl)
has_text s kind name d entries after (Number n) bits is h = (signed_decimal n, refl)
has_text s kind name d entries after (Bytes bytes) bits is h = (encode_lower bytes, refl)
has_text s kind name d entries after (Text chars) bits is h = (quoted chars, refl)
has_text s kind name (Named count) entries after (Ordinal ordinal) bits is h = has_value_name s kind count ordinal is h.0.below
has_text s kind name d entries after (Ordinal ordinal) bits is h = absurd h

-- as it is written
pub has_written_text : (s : PlainSchema) (kind name : ℕ) (d : Datatype) (entries after : Entries) (v : Value) (bits : List Bool) → simple_at s.kinds kind ≡ Some d → WritesValue d entries name v bits after → (said : List ℕ) × IsValueText s kind v said
has_written_text s kind name d entries after (Truth truth) bits is h = (truth_text truth, refl)
has_written_text s kind name d entries after (Number n) bits is h = (signed_decimal n, refl)
has_written_text s kind name d entries after (Bytes bytes) bits is h = (encode_lower bytes, refl)
has_written_text s kind name d entries after (Text chars) bits is h = (quoted chars, refl)
has_written_text s kind name (Named count) entries after (Ordinal ordinal) bits is h = has_value_name s kind count ordinal is h.0.below
has_written_text s kind name d entries after (Ordinal ordinal) bits is h = absurd h

-- each value that is spelled has a text
abbrev pub HasTexts : Speller → PlainSchema → Type 0
HasTexts V s =
    (kind name : ℕ) (d : Datatype) (entries after : Entries) (v : Value) (bits : List Bool) → simple_at s.kinds kind ≡ Some d → V d entries name v bits after → (said : List ℕ) × IsValueText s kind v said

-- ---- where a document stands

-- the root is of the schema's names
abbrev pub IsNamedAt : PlainSchema → Standing → Type 0
IsNamedAt s Before = Unit {0}
IsNamedAt s (AtRoot name kind) = name < length s.names
IsNamedAt s (Inside top above) = Unit {0}
IsNamedAt s Behind = Unit {0}

module _ (V : Speller) (s : PlainSchema) (texts : HasTexts V s) where
  named_around : (above : List Opened) → IsNamedAt s (around above)
  named_around [] = tt
  named_around (o ∷ above) = tt

  named_by : (new state : State) → new ≡ state → IsNamedAt s state.standing → IsNamedAt s new.standing
  named_by new state e is = subst (λ (x : State). IsNamedAt s x.standing) (sym e) is

  named_behind : (standing : Standing) (entries : Entries) (new : State) (event : Event) (bits : List Bool) → Moves V s (stands standing entries) event bits new → IsNamedAt s new.standing
  named_behind Before entries new (Document number) bits m = named_by new _ m.leads (root_name s number m.name m.kind m.named)
  named_behind (AtRoot root kind) entries new (Start name) bits m = named_by new _ m.2 tt
  named_behind (Inside top above) entries new (Start name) bits m = named_by new _ m.leads tt
  named_behind (Inside top above) entries new (Attribute name value) bits m = named_by new _ m.leads tt
  named_behind (Inside top above) entries new (Content value) bits m = named_by new _ m.leads tt
  named_behind (Inside top above) entries new EndElement bits m = named_by new _ m.1 (named_around above)
  named_behind standing entries new event bits m = absurd m

  pub named_reached : (events : List Event) (bits : List Bool) (state : State) → Reaches V s events bits state → IsNamedAt s state.standing
  named_reached [] bits state h = named_by state _ h.1 tt
  named_reached (event ∷ events) bits state h = named_behind h.0.standing h.0.entries state event h.2 h.4

  -- ---- each event adds a text

  value_adds : (here : Place) (value : Value) → ((said : List ℕ) × IsValueText s here.kind value said) → (added : List ℕ) × ((said : List ℕ) × IsValueText s here.kind value said × (added ≡ codes "=" ++ said))
  value_adds here value h = (codes "=" ++ h.0, (h.0, h.1, refl))

  adds_at : (end : TextEnd) (standing : Standing) (entries : Entries) (new : State) (event : Event) (bits : List Bool) → IsStanding s standing → IsNamedAt s standing → Moves V s (stands standing entries) event bits new →
      (added : List ℕ) × Adds s end (innermost_place standing) event added
  adds_at end Before entries new (Document number) bits is named m = ([], refl)
  adds_at end (AtRoot root kind) entries new (Start name) bits is named m =
      let word = found s.names root named in
      (gap end ++ word.0, (word.0, subst (λ (n : ℕ). IsName s n word.0) (sym m.0) word.1, refl))
  adds_at end (Inside top above) entries new (Start name) bits is named m =
      let word = has_name s name (step_fits s top.place m.starts.code (element name m.kind m.next) is.0 m.starts.offered).0 in
      (gap end ++ word.0, (word.0, word.1, refl))
  adds_at end (Inside top above) entries new (Attribute name value) bits is named m =
      let word = has_name s name (step_fits s top.place m.starts.code (step.Attribute name m.kind m.next) is.0 m.starts.offered).0 in
      let said = texts m.kind name m.datatype entries m.after value m.inside m.is_simple m.spelled in
      let part = word.0 ++ codes "=" ++ said.0 in
      (gap end ++ codes "@" ++ part, (m.kind, m.next, part, (m.starts.code, m.starts.offered), (word.0, said.0, word.1, said.1, refl), refl))
  adds_at end (Inside top above) entries new (Content value) bits is named m =
      value_adds top.place value (texts top.place.kind top.name m.datatype entries m.after value m.inside m.is_simple m.spelled)
  adds_at end (Inside top above) entries new EndElement bits is named m = (closing end, refl)
  adds_at end standing entries new event bits is named m = absurd m

  pub adds : (end : TextEnd) (old new : State) (event : Event) (bits : List Bool) → IsStanding s old.standing → IsNamedAt s old.standing → Moves V s old event bits new → (added : List ℕ) × Adds s end (innermost_place old.standing) event added
  adds end old new event bits is named m = adds_at end old.standing old.entries new event bits is named m
