-- A value by its datatype, from the item that was taken.
use Rattle.std.proofs.Common.{◌≡◌, ℕ, ◌≤◌, ℤ, pos, ◌≤ℤ◌, Bool, List, [], refl, sym, subst, Result, Ok}
use Rattle.std.specs.Result.{IfOk}
use Rattle.exi_spec.specs.Items.{SpellsUnsigned, SpellsInteger}
use Rattle.exi_bits.specs.Reading.{Cursor, Takes}
use Rattle.exi_bits.specs.declared.span.SpanAt.{SpanAt}
use Rattle.exi_schema.specs.declared.tables.Datatype.{Datatype}
use Rattle.exi_schema.specs.declared.tables.Datatype.TheVariants.{Unsigned, Signed, Bounded}
use Rattle.exi_values.specs.Trees.{Number}
use Rattle.exi_values.specs.Values.{Entries, SpellsBounded, SpellsValue, RefusesValue}
use Rattle.exi_values.specs.Refusal.{Refusal}
use Rattle.exi_values.specs.Meaning.{texts_in, value_of}
use Rattle.exi_values.specs.declared.Value.{Value}
use Rattle.exi_reading.specs.Refusing.{Refused}

-- what is spelled so is spelled so, too
pub takes_too : (P Q : List Bool → Type 0) (old new : Cursor) → ((bits : List Bool) → P bits → Q bits) → Takes P old new → Takes Q old new
takes_too P Q old new more t = (t.0, more t.0 t.1, t.2)

pub unsigned_takes : (most n name : ℕ) (z : ℤ) (entries : Entries) (old new : Cursor) → z ≡ pos n → n ≤ most → Takes (SpellsUnsigned n) old new → Takes (λ bits. SpellsValue (Unsigned most) entries name (Number z) bits entries) old new
unsigned_takes most n name z entries old new z_is few t =
    subst (λ (w : ℤ). Takes (λ bits. SpellsValue (Unsigned most) entries name (Number w) bits entries) old new) (sym z_is) (t.0, (few, t.1, refl), t.2)

-- the value that is returned, of the datatype that was asked for
pub value_ok : (datatype d : Datatype) (v : Value) (entries after kept : List (ℕ × SpanAt)) (name : ℕ) (held old mid new : Cursor) (r : Result Value Refusal) → datatype ≡ d → r ≡ Ok v → old ≡ held → kept ≡ after → new ≡ mid → Takes (λ bits. SpellsValue d (texts_in old.bits entries) name (value_of v) bits (texts_in old.bits after)) old mid → IfOk r (λ v. Takes (λ bits. SpellsValue datatype (texts_in held.bits entries) name (value_of v) bits (texts_in held.bits kept)) held new)
value_ok datatype d v entries after kept name held old mid new r d_is r_is old_is kept_is new_is t =
    subst (λ (q : Result Value Refusal). IfOk q (λ v. Takes (λ bits. SpellsValue datatype (texts_in held.bits entries) name (value_of v) bits (texts_in held.bits kept)) held new)) (sym r_is)
    (subst (λ (a : Datatype). Takes (λ bits. SpellsValue a (texts_in held.bits entries) name (value_of v) bits (texts_in held.bits kept)) held new) (sym d_is)
    (subst (λ (n : Cursor). Takes (λ bits. SpellsValue d (texts_in held.bits entries) name (value_of v) bits (texts_in held.bits kept)) held n) (sym new_is)
    (subst (λ (l : List (ℕ × SpanAt)). Takes (λ bits. SpellsValue d (texts_in held.bits entries) name (value_of v) bits (texts_in held.bits l)) held mid) (sym kept_is)
    (subst (λ (o : Cursor). Takes (λ bits. SpellsValue d (texts_in o.bits entries) name (value_of v) bits (texts_in o.bits after)) o mid) old_is t))))

pub value_refused : (datatype d : Datatype) (entries : List (ℕ × SpanAt)) (name : ℕ) (held old : Cursor) (r : Refusal) → datatype ≡ d → old ≡ held → Refused (RefusesValue d (texts_in old.bits entries) name) old r → Refused (RefusesValue datatype (texts_in held.bits entries) name) held r
value_refused datatype d entries name held old r d_is old_is refused =
    subst (λ (a : Datatype). Refused (RefusesValue a (texts_in held.bits entries) name) held r) (sym d_is)
    (subst (λ (o : Cursor). Refused (RefusesValue d (texts_in o.bits entries) name) o r) old_is refused)

-- ---- bounds as they are passed

pub signed_refused : (least most low high : ℤ) (cursor : Cursor) (r : Refusal) → low ≡ least → high ≡ most → Refused (RefusesValue (Signed low high) [] 0) cursor r → Refused (RefusesValue (Signed least most) [] 0) cursor r
signed_refused least most low high cursor r low_is high_is refused =
    subst (λ (a : ℤ). Refused (RefusesValue (Signed a most) [] 0) cursor r) low_is (subst (λ (a : ℤ). Refused (RefusesValue (Signed low a) [] 0) cursor r) high_is refused)

pub signed_takes : (least most low high v z : ℤ) (name : ℕ) (entries : Entries) (old new : Cursor) → low ≡ least → high ≡ most → z ≡ v → (low ≤ℤ v) → (v ≤ℤ high) → Takes (SpellsInteger v) old new → Takes (λ bits. SpellsValue (Signed least most) entries name (Number z) bits entries) old new
signed_takes least most low high v z name entries old new low_is high_is z_is above below t =
    subst (λ (w : ℤ). Takes (λ bits. SpellsValue (Signed least most) entries name (Number w) bits entries) old new) (sym z_is) (
      t.0,
      (subst (λ (a : ℤ). a ≤ℤ v) low_is above, subst (λ (a : ℤ). v ≤ℤ a) high_is below, t.1, refl),
      t.2,
    )

pub bounded_takes : (least low v z : ℤ) (count name : ℕ) (entries : Entries) (old new : Cursor) → low ≡ least → z ≡ v → Takes (SpellsBounded low count v) old new → Takes (λ bits. SpellsValue (Bounded least count) entries name (Number z) bits entries) old new
bounded_takes least low v z count name entries old new low_is z_is t =
    subst (λ (w : ℤ). Takes (λ bits. SpellsValue (Bounded least count) entries name (Number w) bits entries) old new) (sym z_is)
    (t.0, (subst (λ (a : ℤ). SpellsBounded a count v t.0) low_is t.1, refl), t.2)
