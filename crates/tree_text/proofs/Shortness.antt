-- What is written of a value has the form of its datatype.
use Rattle.std.proofs.Common.{◌≡◌, ℕ, zero, suc, ◌+◌, ◌^◌, ◌<◌, ◌≤◌, ℤ, pos, negsuc, ◌+ℤ◌, ◌≤ℤ◌, Bool, true, ◌&&◌, nat_lt, nat_le, leb→le, List, ap, sym, arith}
use Rattle.std.proofs.lemmas.Bool.{ltb-true}
use Rattle.std.proofs.Math.IntN.{suc_ℤ, +ℤ-suc_ℤ, +ℤ_idr}
use Rattle.std.specs.Int.Signed.{le_z}
use Rattle.std.specs.Prelude.{unsigned_abs}
use Rattle.exi_schema.specs.Schemas.{PlainSchema, is_datatype, is_signed}
use Rattle.exi_schema.specs.declared.tables.Datatype.{Datatype}
use Rattle.exi_schema.specs.declared.tables.Datatype.TheVariants.{Bool as BoolType, Named, Bounded, Unsigned, Signed, Binary, Text as TextType}
use Rattle.exi_schema.proofs.Conditions.{and-l, and-r}
use Rattle.exi_documents.specs.Trees.{Value, Truth, Ordinal, Number, Bytes, Text}
use Rattle.exi_documents.specs.Values.{Entries, WritesValue}
use Rattle.exi_events.proofs.Datatypes.{datatype_fits}
use Rattle.value_text.specs.ValueText.{IsShort, IsOfForm}
use Rattle.tree_text.proofs.Ahead.{HasForm}

abs_suc : (z : ℤ) → unsigned_abs (suc_ℤ z) ≤ unsigned_abs z + 1
abs_suc (pos n) = omega arith
abs_suc (negsuc zero) = omega arith
abs_suc (negsuc (suc n)) = omega arith

abs_above : (least : ℤ) (k : ℕ) → unsigned_abs (least +ℤ pos k) ≤ unsigned_abs least + k
abs_above least zero = let is : unsigned_abs (least +ℤ pos zero) ≡ unsigned_abs least = ap unsigned_abs (+ℤ_idr least) in omega (arith, is)
abs_above least (suc k) =
    let is : unsigned_abs (least +ℤ pos (suc k)) ≡ unsigned_abs (suc_ℤ (least +ℤ pos k)) = ap unsigned_abs (+ℤ-suc_ℤ least (pos k)) in
    let one = abs_suc (least +ℤ pos k) in
    let more = abs_above least k in
    omega (arith, is, one, more)

short_below : (n : ℕ) (most : ℤ) → unsigned_abs most < 10 ^ 20 → pos n ≤ℤ most → n < 10 ^ 20
short_below n (pos m) few h = let less : n ≤ m = leb→le n m h.le in let low : m < 10 ^ 20 = few in omega (arith, less, low)
short_below n (negsuc m) few h = absurd h.le

short_above : (n : ℕ) (least : ℤ) → unsigned_abs least < 10 ^ 20 → least ≤ℤ negsuc n → suc n < 10 ^ 20
short_above n (pos m) few h = absurd h.le
short_above n (negsuc m) few h = let less : n ≤ m = leb→le n m h.le in let low : suc m < 10 ^ 20 = few in omega (arith, less, low)

short_signed : (v least most : ℤ) → unsigned_abs least < 10 ^ 20 → unsigned_abs most < 10 ^ 20 → least ≤ℤ v → v ≤ℤ most → IsShort v
short_signed (pos n) least most few many low high = short_below n most many high
short_signed (negsuc n) least most few many low high = short_above n least few low

short_bounded : (least v : ℤ) (count k : ℕ) → unsigned_abs least + count < 10 ^ 20 → k < count → v ≡ least +ℤ pos k → IsShort v
short_bounded least v count k few less is =
    let same : unsigned_abs v ≡ unsigned_abs (least +ℤ pos k) = ap unsigned_abs is in
    let bound = abs_above least k in
    omega (arith, few, less, same, bound)

few : (n : ℕ) → nat_lt n (2 ^ 64) ≡ true → n < 10 ^ 20
few n is = let low : n < 2 ^ 64 = ltb-true n (2 ^ 64) is in omega (arith, low)

abs_few : (z : ℤ) → is_signed z ≡ true → unsigned_abs z < 10 ^ 20
abs_few (pos n) is = let low : n < 2 ^ 63 = ltb-true n (2 ^ 63) is in omega (arith, low)
abs_few (negsuc n) is = let low : n < 2 ^ 63 = ltb-true n (2 ^ 63) is in omega (arith, low)

form_of : (d : Datatype) (entries after : Entries) (name : ℕ) (v : Value) (bits : List Bool) → is_datatype d ≡ true → WritesValue d entries name v bits after → IsOfForm d v
form_of BoolType entries after name (Truth truth) bits fits h = tt
form_of (Named count) entries after name (Ordinal ordinal) bits fits h = tt
form_of (Bounded least count) entries after name (Number v) bits fits h =
    short_bounded least v count h.0.0 (few (unsigned_abs least + count) (and-r (nat_le 1 count) (nat_lt (unsigned_abs least + count) (2 ^ 64)) fits)) h.0.2.below h.0.1
form_of (Unsigned most) entries after name (Number (pos n)) bits fits h =
    let low : most < 10 ^ 20 = few most fits in let within : n ≤ most = h.0 in omega (arith, low, within)
form_of (Signed least most) entries after name (Number v) bits fits h =
    short_signed v least most (abs_few least (and-r (le_z least most) (is_signed least) (and-l (le_z least most && is_signed least) (is_signed most) fits)))
    (abs_few most (and-r (le_z least most && is_signed least) (is_signed most) fits)) h.0 h.1
form_of (Binary most) entries after name (Bytes bytes) bits fits h = h.0.1
form_of (TextType most) entries after name (Text chars) bits fits h = h.0.1
form_of d entries after name v bits fits h = absurd h

-- in a schema, whose numbers are of 64 bits
pub written_form : (s : PlainSchema) → HasForm WritesValue s
written_form s kind name d entries after v bits is h = form_of d entries after name v bits (datatype_fits s kind d (sym is)) h
