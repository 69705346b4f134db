-- The texts of each form are those of a kind's values.
use Rattle.std.proofs.Common.{◌≡◌, ℕ, zero, suc, ◌<◌, ℤ, Bool, true, false, List, [], ◌∷◌, length, map, get_or, Bor, sym, ap, subst}
use Rattle.std.specs.Prelude.{◌==◌, codes, Some, None, slice_get}
use Rattle.std.specs.Fmt.{signed_decimal}
use Rattle.std.specs.Str.{encode_utf8_all}
use Rattle.exi_schema.specs.declared.schema.Schema.{Schema}
use Rattle.exi_schema.specs.Schemas.{PlainSchema}
use Rattle.exi_schema.specs.Told.{schema_of}
use Rattle.exi_schema.specs.declared.tables.Datatype.{Datatype}
use Rattle.exi_schema.specs.declared.tables.Datatype.TheVariants.{Bool as BoolType, Named, Bounded, Unsigned, Signed, Binary, Text as TextType}
use Rattle.exi_schema.specs.Steps.{texts_of}
use Rattle.exi_documents.specs.Trees.{Value, Truth, Ordinal, Number, Bytes, Text}
use Rattle.value_text.specs.declared.cursor.TextCursor.{TextCursor}
use Rattle.value_text.specs.declared.fault.ScanFault.{ScanFault}
use Rattle.value_text.specs.declared.fault.ScanFault.TheVariants as fault
use Rattle.value_text.specs.Forms.{IsTruthText, IsNumberText, IsBytesText, IsQuotedText, IsOneOf}
use Rattle.value_text.specs.Scanning.{Takes, GoesWrong, MissesAt, IsAnyFormed}
use Rattle.value_text.specs.ValueText.{truth_text, value_names, IsShort, IsFormed}
use Rattle.value_text.proofs.BestWords.{GivesWord, mapped_at}
use Rattle.value_text.proofs.FrontLaws.{takes_same, wrong_same}
use Rattle.value_text.proofs.HexTexts.{GivesBytes}
use Rattle.value_text.proofs.NumberLaws.{GivesNumber}
use Rattle.value_text.proofs.QuotedTexts.{GivesText}

abbrev pub GivesFormed : PlainSchema → ℕ → Datatype → TextCursor → Value → TextCursor → Type 0
GivesFormed s kind datatype a value b =
    (front : List ℕ) × Takes (IsAnyFormed s kind datatype) a front b × IsFormed s kind datatype value (encode_utf8_all front)

-- the same texts
pub record SameTexts (L M : List ℕ → Type 0) : Type 0 where
  pub to : (t : List ℕ) → L t → M t
  pub from : (t : List ℕ) → M t → L t

gives : (L : List ℕ → Type 0) (s : PlainSchema) (kind : ℕ) (datatype : Datatype) (a : TextCursor) (value : Value) (b : TextCursor) (front : List ℕ) → SameTexts L (IsAnyFormed s kind datatype) → Takes L a front b
    → IsFormed s kind datatype value (encode_utf8_all front) → GivesFormed s kind datatype a value b
gives L s kind datatype a value b front same takes is = (front, takes_same L (IsAnyFormed s kind datatype) a front b same.to same.from takes, is)

wrong : (L : List ℕ → Type 0) (s : PlainSchema) (kind : ℕ) (datatype : Datatype) (a : TextCursor) (place : ℕ) → SameTexts L (IsAnyFormed s kind datatype) → GoesWrong L a place → GoesWrong (IsAnyFormed s kind datatype) a place
wrong L s kind datatype a place same w = wrong_same L (IsAnyFormed s kind datatype) a place same.to same.from w

fault_same : (L M : List ℕ → Type 0) (a : TextCursor) (f : ScanFault) → SameTexts L M → MissesAt L a f → MissesAt M a f
fault_same L M a (fault.Place place) same w = wrong_same L M a place same.to same.from w
fault_same L M a fault.Memory same w = tt

-- ---- truth values

abbrev pub GivesTruth : TextCursor → Bool → TextCursor → Type 0
GivesTruth a truth b = (front : List ℕ) × Takes IsTruthText a front b × (encode_utf8_all front ≡ truth_text truth)

from_truth : (s : PlainSchema) (kind : ℕ) (t : List ℕ) (value : Value) → IsFormed s kind BoolType value t → IsTruthText t
from_truth s kind t (Truth truth) is = (truth, is.1)
from_truth s kind t (Ordinal ordinal) is = absurd is.0
from_truth s kind t (Number v) is = absurd is.0
from_truth s kind t (Bytes bytes) is = absurd is.0
from_truth s kind t (Text chars) is = absurd is.0

truth_same : (s : PlainSchema) (kind : ℕ) → SameTexts IsTruthText (IsAnyFormed s kind BoolType)
truth_same s kind = record { to = λ t one. (Truth one.0, (tt, one.1)); from = λ t one. from_truth s kind t one.0 one.1 }

pub formed_truth : (s : PlainSchema) (kind : ℕ) (datatype : Datatype) (a b : TextCursor) (truth : Bool) → datatype ≡ BoolType → GivesTruth a truth b → GivesFormed s kind datatype a (Truth truth) b
formed_truth s kind datatype a b truth is g =
    subst (λ (d : Datatype). GivesFormed s kind d a (Truth truth) b) (sym is) (gives IsTruthText s kind BoolType a (Truth truth) b g.0 (truth_same s kind) g.1 (tt, g.2))

pub no_truth : (s : PlainSchema) (kind : ℕ) (datatype : Datatype) (a : TextCursor) (place : ℕ) → datatype ≡ BoolType → GoesWrong IsTruthText a place → GoesWrong (IsAnyFormed s kind datatype) a place
no_truth s kind datatype a place is w = subst (λ (d : Datatype). GoesWrong (IsAnyFormed s kind d) a place) (sym is) (wrong IsTruthText s kind BoolType a place (truth_same s kind) w)

abbrev pub truth_words : List (List ℕ)
truth_words = codes "true" ∷ codes "false" ∷ []

truth_at : (t : List ℕ) (i : ℕ) → slice_get truth_words i ≡ Some t → t ≡ truth_text (i == 0)
truth_at t zero e = let same : Some (codes "true") ≡ Some t = e in cc
truth_at t (suc zero) e = let same : Some (codes "false") ≡ Some t = e in cc
truth_at t (suc (suc i)) e = let none : None ≡ Some t = e in absurd cc

truth_place : (t : List ℕ) (truth : Bool) → t ≡ truth_text truth → IsOneOf truth_words t
truth_place t true e = (0, ap (λ (bs : List ℕ). Some bs) (sym e))
truth_place t false e = (1, ap (λ (bs : List ℕ). Some bs) (sym e))

words_same : SameTexts (IsOneOf truth_words) IsTruthText
words_same = record { to = λ t one. (one.0 == 0, truth_at t one.0 one.1); from = λ t one. truth_place t one.0 one.1 }

pub truth_word : (a b : TextCursor) (i : ℕ) → GivesWord truth_words a i b → GivesTruth a (i == 0) b
truth_word a b i g = (g.0, takes_same (IsOneOf truth_words) IsTruthText a g.0 b words_same.to words_same.from g.1, truth_at (encode_utf8_all g.0) i g.2)

pub no_truth_word : (a : TextCursor) (place : ℕ) → GoesWrong (IsOneOf truth_words) a place → GoesWrong IsTruthText a place
no_truth_word a place w = wrong_same (IsOneOf truth_words) IsTruthText a place words_same.to words_same.from w

-- ---- numbers

abbrev pub IsNumeric : Datatype → Type 0
IsNumeric (Bounded least count) = Unit {0}
IsNumeric (Unsigned most) = Unit {0}
IsNumeric (Signed least most) = Unit {0}
IsNumeric _ = ⊥

to_number : (s : PlainSchema) (kind : ℕ) (datatype : Datatype) (v : ℤ) (t : List ℕ) → IsNumeric datatype → IsShort v → t ≡ signed_decimal v → IsFormed s kind datatype (Number v) t
to_number s kind (Bounded least count) v t is short e = (short, e)
to_number s kind (Unsigned most) v t is short e = (short, e)
to_number s kind (Signed least most) v t is short e = (short, e)
to_number s kind BoolType v t is short e = absurd is
to_number s kind (Named count) v t is short e = absurd is
to_number s kind (Binary most) v t is short e = absurd is
to_number s kind (TextType most) v t is short e = absurd is

from_number : (s : PlainSchema) (kind : ℕ) (datatype : Datatype) (t : List ℕ) (value : Value) → IsNumeric datatype → IsFormed s kind datatype value t → IsNumberText t
from_number s kind (Bounded least count) t (Number v) numeric is = (v, is.0, is.1)
from_number s kind (Bounded least count) t (Truth x) numeric is = absurd is.0
from_number s kind (Bounded least count) t (Ordinal x) numeric is = absurd is.0
from_number s kind (Bounded least count) t (Bytes x) numeric is = absurd is.0
from_number s kind (Bounded least count) t (Text x) numeric is = absurd is.0
from_number s kind (Unsigned most) t (Number v) numeric is = (v, is.0, is.1)
from_number s kind (Unsigned most) t (Truth x) numeric is = absurd is.0
from_number s kind (Unsigned most) t (Ordinal x) numeric is = absurd is.0
from_number s kind (Unsigned most) t (Bytes x) numeric is = absurd is.0
from_number s kind (Unsigned most) t (Text x) numeric is = absurd is.0
from_number s kind (Signed least most) t (Number v) numeric is = (v, is.0, is.1)
from_number s kind (Signed least most) t (Truth x) numeric is = absurd is.0
from_number s kind (Signed least most) t (Ordinal x) numeric is = absurd is.0
from_number s kind (Signed least most) t (Bytes x) numeric is = absurd is.0
from_number s kind (Signed least most) t (Text x) numeric is = absurd is.0
from_number s kind BoolType t value numeric is = absurd numeric
from_number s kind (Named count) t value numeric is = absurd numeric
from_number s kind (Binary most) t value numeric is = absurd numeric
from_number s kind (TextType most) t value numeric is = absurd numeric

number_same : (s : PlainSchema) (kind : ℕ) (datatype : Datatype) → IsNumeric datatype → SameTexts IsNumberText (IsAnyFormed s kind datatype)
number_same s kind datatype numeric =
    record { to = λ t one. (Number one.0, to_number s kind datatype one.0 t numeric one.1 one.2); from = λ t one. from_number s kind datatype t one.0 numeric one.1 }

pub formed_number : (s : PlainSchema) (kind : ℕ) (datatype : Datatype) (a b : TextCursor) (v : ℤ) → IsNumeric datatype → GivesNumber a v b → GivesFormed s kind datatype a (Number v) b
formed_number s kind datatype a b v numeric g =
    gives IsNumberText s kind datatype a (Number v) b g.0 (number_same s kind datatype numeric) g.1 (to_number s kind datatype v (encode_utf8_all g.0) numeric g.2 g.3)

pub no_number_there : (s : PlainSchema) (kind : ℕ) (datatype : Datatype) (a : TextCursor) (place : ℕ) → IsNumeric datatype → GoesWrong IsNumberText a place → GoesWrong (IsAnyFormed s kind datatype) a place
no_number_there s kind datatype a place numeric w = wrong IsNumberText s kind datatype a place (number_same s kind datatype numeric) w

-- ---- Binaries

from_bytes : (s : PlainSchema) (kind most : ℕ) (t : List ℕ) (value : Value) → IsFormed s kind (Binary most) value t → IsBytesText t
from_bytes s kind most t (Bytes bytes) is = (bytes, is.0, is.1)
from_bytes s kind most t (Truth x) is = absurd is.0
from_bytes s kind most t (Ordinal x) is = absurd is.0
from_bytes s kind most t (Number x) is = absurd is.0
from_bytes s kind most t (Text x) is = absurd is.0

bytes_same : (s : PlainSchema) (kind most : ℕ) → SameTexts IsBytesText (IsAnyFormed s kind (Binary most))
bytes_same s kind most = record { to = λ t one. (Bytes one.0, (one.1, one.2)); from = λ t one. from_bytes s kind most t one.0 one.1 }

pub formed_bytes : (s : PlainSchema) (kind most : ℕ) (datatype : Datatype) (a b : TextCursor) (bytes : List ℕ) → datatype ≡ Binary most → GivesBytes a bytes b → GivesFormed s kind datatype a (Bytes bytes) b
formed_bytes s kind most datatype a b bytes is g =
    subst (λ (d : Datatype). GivesFormed s kind d a (Bytes bytes) b) (sym is) (gives IsBytesText s kind (Binary most) a (Bytes bytes) b g.0 (bytes_same s kind most) g.1 (g.2, g.3))

pub no_bytes : (s : PlainSchema) (kind most : ℕ) (datatype : Datatype) (a : TextCursor) (f : ScanFault) → datatype ≡ Binary most → MissesAt IsBytesText a f → MissesAt (IsAnyFormed s kind datatype) a f
no_bytes s kind most datatype a f is w =
    subst (λ (d : Datatype). MissesAt (IsAnyFormed s kind d) a f) (sym is) (fault_same IsBytesText (IsAnyFormed s kind (Binary most)) a f (bytes_same s kind most) w)

-- ---- texts

from_text : (s : PlainSchema) (kind most : ℕ) (t : List ℕ) (value : Value) → IsFormed s kind (TextType most) value t → IsQuotedText t
from_text s kind most t (Text chars) is = (chars, is.0, is.1)
from_text s kind most t (Truth x) is = absurd is.0
from_text s kind most t (Ordinal x) is = absurd is.0
from_text s kind most t (Number x) is = absurd is.0
from_text s kind most t (Bytes x) is = absurd is.0

text_same : (s : PlainSchema) (kind most : ℕ) → SameTexts IsQuotedText (IsAnyFormed s kind (TextType most))
text_same s kind most = record { to = λ t one. (Text one.0, (one.1, one.2)); from = λ t one. from_text s kind most t one.0 one.1 }

pub formed_text : (s : PlainSchema) (kind most : ℕ) (datatype : Datatype) (a b : TextCursor) (cs : List ℕ) → datatype ≡ TextType most → GivesText a cs b → GivesFormed s kind datatype a (Text cs) b
formed_text s kind most datatype a b cs is g =
    subst (λ (d : Datatype). GivesFormed s kind d a (Text cs) b) (sym is) (gives IsQuotedText s kind (TextType most) a (Text cs) b g.0 (text_same s kind most) g.1 (g.2, g.3))

pub no_text : (s : PlainSchema) (kind most : ℕ) (datatype : Datatype) (a : TextCursor) (f : ScanFault) → datatype ≡ TextType most → MissesAt IsQuotedText a f → MissesAt (IsAnyFormed s kind datatype) a f
no_text s kind most datatype a f is w =
    subst (λ (d : Datatype). MissesAt (IsAnyFormed s kind d) a f) (sym is) (fault_same IsQuotedText (IsAnyFormed s kind (TextType most)) a f (text_same s kind most) w)

-- ---- names

from_word : (s : PlainSchema) (kind count : ℕ) (t : List ℕ) (value : Value) → IsFormed s kind (Named count) value t → IsOneOf (value_names s kind) t
from_word s kind count t (Ordinal ordinal) is = (ordinal, is.1)
from_word s kind count t (Truth x) is = absurd is.0
from_word s kind count t (Number x) is = absurd is.0
from_word s kind count t (Bytes x) is = absurd is.0
from_word s kind count t (Text x) is = absurd is.0

names_same : (s : PlainSchema) (kind count : ℕ) → SameTexts (IsOneOf (value_names s kind)) (IsAnyFormed s kind (Named count))
names_same s kind count = record { to = λ t one. (Ordinal one.0, (tt, one.1)); from = λ t one. from_word s kind count t one.0 one.1 }

-- the texts in the code
pub names_there : (s : Schema) (kind : ℕ) (d : Bor (List (Bor (List ℕ)))) → kind < length s.values.now → map (λ t. t.now) (get_or s.values.now kind d).now ≡ value_names (schema_of s) kind
names_there s kind d within = ap texts_of (sym (mapped_at (λ (l : Bor (List (Bor (List ℕ)))). map (λ (t : Bor (List ℕ)). t.now) l.now) s.values.now kind d within))

pub formed_word : (s : PlainSchema) (kind count i : ℕ) (words : List (List ℕ)) (datatype : Datatype) (a b : TextCursor) → datatype ≡ Named count → words ≡ value_names s kind → GivesWord words a i b → GivesFormed s kind datatype a (Ordinal i) b
formed_word s kind count i words datatype a b is same g =
    let there : GivesWord (value_names s kind) a i b = subst (λ (ws : List (List ℕ)). GivesWord ws a i b) same g in
    subst (λ (d : Datatype). GivesFormed s kind d a (Ordinal i) b) (sym is) (gives (IsOneOf (value_names s kind)) s kind (Named count) a (Ordinal i) b there.0 (names_same s kind count) there.1 (tt, there.2))

pub no_word : (s : PlainSchema) (kind count : ℕ) (words : List (List ℕ)) (datatype : Datatype) (a : TextCursor) (place : ℕ) → datatype ≡ Named count → words ≡ value_names s kind → GoesWrong (IsOneOf words) a place → GoesWrong (IsAnyFormed s kind datatype) a place
no_word s kind count words datatype a place is same w =
    let there : GoesWrong (IsOneOf (value_names s kind)) a place = subst (λ (ws : List (List ℕ)). GoesWrong (IsOneOf ws) a place) same w in
    subst (λ (d : Datatype). GoesWrong (IsAnyFormed s kind d) a place) (sym is) (wrong (IsOneOf (value_names s kind)) s kind (Named count) a place (names_same s kind count) there)
