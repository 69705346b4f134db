-- Values at a cursor: what is taken, and what is missed.
use Rattle.std.proofs.Common.{◌≡◌, ℕ, inr, List, ◌++◌, Some, refl, sym, ap, subst, ◌∙◌, append_assoc}
use Rattle.std.specs.Str.{encode_utf8_all}
use Rattle.exi_schema.specs.Schemas.{PlainSchema}
use Rattle.exi_schema.specs.declared.tables.Datatype.{Datatype}
use Rattle.exi_schema.specs.Steps.{simple_at}
use Rattle.exi_documents.specs.Trees.{Value}
use Rattle.value_text.specs.declared.cursor.TextCursor.{TextCursor}
use Rattle.value_text.specs.Fronts.{IsLongest}
use Rattle.value_text.specs.Scanning.{IsAnyFormed}
use Rattle.value_text.specs.ValueText.{IsFormed}
use Rattle.value_text.specs.declared.fault.ScanFault.{ScanFault}
use Rattle.value_text.specs.declared.fault.ScanFault.TheVariants as fault
use Rattle.dialect_text.specs.Languages.{Leads}
use Rattle.dialect_text.specs.Following.{StallsAt, StartsValue, TakesValueOf, MissesValueOf}
use Rattle.dialect_text.proofs.Agreeing.{missed, taken_once}
use Rattle.dialect_text.proofs.Values.{value_chars, value_stops, EndsValue}

-- a value and what is behind it, in characters
record Split (s : PlainSchema) (kind : ℕ) (d : Datatype) (L : List ℕ → Type 0) (text : List ℕ) : Type 0 where
  value : Value
  front : List ℕ
  rest : List ℕ
  formed : IsFormed s kind d value (encode_utf8_all front)
  follows : L rest
  whole : text ≡ encode_utf8_all front ++ rest

split : (s : PlainSchema) (kind : ℕ) (d : Datatype) (L : List ℕ → Type 0) (text : List ℕ) → simple_at s.kinds kind ≡ Some d → StartsValue s kind L text → Split s kind d L text
split s kind d L text is p =
    let types : Some p.3.0 ≡ Some d = sym p.3.1 ∙ is in
    let type : p.3.0 ≡ d = cc in
    let formed : IsFormed s kind d p.0 p.1 = subst (λ (x : Datatype). IsFormed s kind x p.0 p.1) type p.3.2 in
    let chars = value_chars s kind d p.0 p.1 formed in
    record {
      value = p.0;
      front = chars.0;
      rest = p.2;
      formed = subst (λ (t : List ℕ). IsFormed s kind d p.0 t) chars.1 formed;
      follows = p.4;
      whole = p.5 ∙ ap (λ (bs : List ℕ). bs ++ p.2) chars.1;
    }

pub value_leads : (s : PlainSchema) (kind : ℕ) (v : Value) (L : List ℕ → Type 0) (a b : TextCursor) → ((text : List ℕ) → L text → EndsValue text) → (p : TakesValueOf s kind v a b) → Leads (StartsValue s kind L) p.1 b.rest.now L
value_leads s kind v L a b ends p = record {
  from = λ text new. (v, encode_utf8_all p.1, text, (p.0, p.2, p.4), new, refl);
  to = λ text shares old.
      let other = split s kind p.0 L (encode_utf8_all p.1 ++ text) p.2 old in
      let stops = value_stops s kind p.0 other.value other.front other.rest other.formed (ends other.rest other.follows) in
      let same = taken_once (IsAnyFormed s kind p.0) a.rest.now p.1 b.rest.now text other.front other.rest p.3.longest p.3.is_one p.3.passed.stands shares (other.value, other.formed) stops other.whole in
      subst L same.1 other.follows;
}

pub value_stalls : (s : PlainSchema) (kind : ℕ) (L : List ℕ → Type 0) (a : TextCursor) (f : ScanFault) (some : List ℕ) → L some → ((text : List ℕ) → L text → EndsValue text) → MissesValueOf s kind a f → StallsAt (StartsValue s kind L) a f
value_stalls s kind L a (fault.Place place) some one ends p =
    let longest : IsLongest (IsAnyFormed s kind p.0) a.rest.now p.2.0 = p.2.1 in (
      p.2.0,
      record {
        more = longest.rest;
        stands = longest.stands;
        begins = inr (
          longest.begins.0 ++ some,
          (longest.begins.1.0, encode_utf8_all p.2.0 ++ longest.begins.0, some, (p.0, p.1, longest.begins.1.1), one, sym (append_assoc (encode_utf8_all p.2.0) longest.begins.0 some)),
        );
        none_further = λ text shares is.
            let other = split s kind p.0 L text p.1 is in
            missed (IsAnyFormed s kind p.0) a.rest.now p.2.0 text other.front other.rest longest p.2.2 shares (other.value, other.formed)
            (value_stops s kind p.0 other.value other.front other.rest other.formed (ends other.rest other.follows)) other.whole;
      },
      p.2.3,
    )
value_stalls s kind L a fault.Memory some one ends p = tt
