-- What is taken in two parts, and what is refused at the second one.
use Rattle.std.proofs.Common.{◌≡◌, ℕ, Bool, List, [], ◌++◌, length, refl, sym, ap, subst, ◌∙◌, arith, inl, append_assoc, length-append, ◌⊎◌, Result, Ok, Err, ℤ, ◌≤ℤ◌, ◌↔◌, inr, false, IsTrue}
use Rattle.std.proofs.lemmas.Bool.{false≢true}
use Rattle.std.specs.Result.{IfOk}
use Rattle.exi_spec.specs.Items.{SpellsUnsigned, SpellsInteger, SpellsBytes, RefusesUnsigned}
use Rattle.exi_bits.specs.Lent.{Span, items_of}
use Rattle.exi_bits.specs.Reading.{Cursor, Takes, ahead}
use Rattle.exi_values.specs.Texts.{Announces}
use Rattle.exi_schema.specs.declared.tables.Datatype.TheVariants.{Binary, Signed}
use Rattle.exi_values.specs.Values.{RefusesValue, RefusesItem, Exceeds}
use Rattle.exi_values.specs.Refusal.{Refusal}
use Rattle.exi_values.specs.RefusalCause.TheVariants.{TooLong, OutOfRange}
use Rattle.exi_reading.specs.Refusing.{Refused}

-- a number, and what it announces
pub announced : (n : ℕ) (Spells : List Bool → Type 0) (old mid new : Cursor) → Takes (SpellsUnsigned n) old mid → Takes Spells mid new → Takes (Announces n Spells) old new
announced n Spells old mid new a b =
    let first = a.2 in
    let second = b.2 in (
      a.0 ++ b.0,
      (a.0, b.0, a.1, b.1, refl),
      record {
        same = second.same ∙ first.same;
        moved = omega (arith, first.moved, second.moved, length-append a.0 b.0);
        there = first.there ∙ ap (λ (l : List Bool). a.0 ++ l) second.there ∙ sym (append_assoc a.0 b.0 (ahead new));
      },
    )

pub binary_announced : (n : ℕ) (old mid new : Cursor) (r : Result Span Refusal) → Takes (SpellsUnsigned n) old mid → IfOk r (λ s. length (items_of s) ≡ n) → IfOk r (λ s. Takes (SpellsBytes (items_of s)) mid new) → IfOk r (λ s. Takes (Announces (length (items_of s)) (SpellsBytes (items_of s))) old new)
binary_announced n old mid new (Ok s) a long b = announced (length (items_of s)) (SpellsBytes (items_of s)) old mid new (subst (λ (k : ℕ). Takes (SpellsUnsigned k) old mid) (sym long) a) b
binary_announced n old mid new (Err e) a long b = tt

pub refused_length : (most n : ℕ) (cursor : Cursor) (r : Refusal) → n ≡ most → (RefusesItem RefusesUnsigned (ahead cursor) r.cause ⊎ (Exceeds n (ahead cursor) × (r.cause ≡ TooLong))) → r.bit ≡ cursor.place → Refused (RefusesValue (Binary most) [] 0) cursor r
refused_length most n cursor r is why at =
    (0, inl (subst (λ (k : ℕ). RefusesItem RefusesUnsigned (ahead cursor) r.cause ⊎ (Exceeds k (ahead cursor) × (r.cause ≡ TooLong))) is why, refl), omega (arith, at))

-- an Integer that isn't within its bounds, at its sign bit
pub refused_range : (least most v low high z : ℤ) (place : ℕ) (within : Bool) (old new : Cursor) → low ≡ least → high ≡ most → z ≡ v → (IsTrue within ↔ ((low ≤ℤ z) × (z ≤ℤ high))) → within ≡ false → place ≡ old.place → Takes (SpellsInteger v) old new → Refused (RefusesValue (Signed least most) [] 0) old (record { cause = OutOfRange; bit = place })
refused_range least most v low high z place within old new low_is high_is z_is test out at t =
    let lower : least ≤ℤ v → low ≤ℤ z = λ h. subst (λ (a : ℤ). a ≤ℤ z) (sym low_is) (subst (λ (a : ℤ). least ≤ℤ a) (sym z_is) h) in
    let upper : v ≤ℤ most → z ≤ℤ high = λ h. subst (λ (a : ℤ). z ≤ℤ a) (sym high_is) (subst (λ (a : ℤ). a ≤ℤ most) (sym z_is) h) in
    (0, inr ((v, λ a b. false≢true (sym out ∙ test.1 (lower a, upper b)), (t.0, ahead new, t.1, t.2.there)), refl, refl), omega (arith, at))
