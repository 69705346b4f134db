-- Whether a value lies within the bounds of its datatype.
use Rattle.std.proofs.Common.{◌≡◌, ℕ, ℤ, pos, negsuc, ◌+ℤ◌, ◌-ℤ◌, ◌<◌, ◌≤◌, ◌≤ℤ◌, ◌<ℤ◌, true, false, List, length, leb, refl, sym, ap, subst, ◌∙◌, arith, IsTrue, ◌↔◌, IsUtf8, chars}
use Rattle.std.specs.Borrow.{Bor}
use Rattle.std.specs.Int.Signed.{lt_z}
use Rattle.std.proofs.lemmas.Int.{ints}
use Rattle.std.proofs.lemmas.Bool.{leb-true, le-leb}
use Rattle.exi_bits.specs.Lent.{Span, IsSpan, items_of}
use Rattle.exi_bits.proofs.Spans.{items_of-held, held_bytes}
use Rattle.std.specs.List.{AllByRecursion}
use Rattle.exi_schema.specs.declared.tables.Datatype.{Datatype}
use Rattle.exi_schema.specs.declared.tables.Datatype.TheVariants.{Bounded, Binary, Text as TextType}
use Rattle.exi_writing.specs.Trees.{Number, Bytes, Text}
use Rattle.exi_writing.specs.Values.{IsValue}
use Rattle.exi_writing.specs.Value.{Value}
use Rattle.exi_writing.specs.Value.TheVariants as value
use Rattle.exi_writing.specs.Meaning.{value_of, IsShaped}
use Rattle.exi_writing.proofs.Values.{written_text, lent_text}

-- ---- integers

above : (least v z : ℤ) → v -ℤ least ≡ z → least ≤ℤ v → (k : ℕ) × (v ≡ least +ℤ pos k)
above least v (pos k) e le = (k, omega (arith, ints, e))
above least v (negsuc k) e le = absurd (omega (arith, ints, e, le))

is_less : (a b : ℤ) → lt_z a b ≡ true → a <ℤ b
is_less a b t = grind (arith, ints)

less_is : (a b : ℤ) → a <ℤ b → lt_z a b ≡ true
less_is a b less = grind (arith, ints)

pub bounded_decides : (d : Datatype) (least v bound : ℤ) (count : ℕ) → d ≡ Bounded least count → bound ≡ least +ℤ pos count → least ≤ℤ v → (IsTrue (lt_z v bound) ↔ IsValue d (Number v))
bounded_decides d least v bound count is bound_is le =
    let P : Datatype → Type 0 = λ e. IsTrue (lt_z v bound) ↔ IsValue e (Number v) in
    let k = above least v (v -ℤ least) refl le in
    subst P (sym is) (
      (λ t. let less : v <ℤ bound = is_less v bound t in (k.0, omega (arith, ints, k.1, less, bound_is), k.1)),
      (λ h. let less : v <ℤ bound = omega (arith, ints, h.1, h.2, bound_is) in less_is v bound less),
    )

-- ---- lists

within_decides : (n most : ℕ) (P : Type 0) → (n ≤ most → P) → (P → n ≤ most) → (IsTrue (leb n most) ↔ P)
within_decides n most P there back = (λ t. there (leb-true n most t), λ p. le-leb n most (back p))

counted : (span : Span) → IsSpan span → length (items_of span) ≡ span.count
counted span s = ap length (items_of-held span s.0 s.1) ∙ s.1.long

pub text_decides : (d : Datatype) (given : Value) (span : Span) (most n : ℕ) → d ≡ TextType most → given ≡ value.Text span → IsShaped given → IsSpan span → n ≡ span.count → (IsTrue (leb n most) ↔ IsValue d (value_of given))
text_decides d given span most n is given_is shaped s n_is =
    let kind : span.is_text ≡ true = subst (λ (v : Value). IsShaped v) given_is shaped in
    let long = counted span s in
    let P : Datatype → Value → Type 0 = λ e v. IsTrue (leb n most) ↔ IsValue e (value_of v) in
    subst (λ (e : Datatype). P e given) (sym is) (subst (λ (v : Value). P (TextType most) v) (sym given_is)
    (within_decides n most (IsValue (TextType most) (Text (items_of span))) (λ few. lent_text span most kind s (omega (arith, few, long, n_is))) (λ h. let few = h.0 in omega (arith, few, long, n_is))))

pub bytes_decides : (d : Datatype) (given : Value) (span : Span) (most n : ℕ) → d ≡ Binary most → given ≡ value.Binary span → IsShaped given → IsSpan span → n ≡ span.count → (IsTrue (leb n most) ↔ IsValue d (value_of given))
bytes_decides d given span most n is given_is shaped s n_is =
    let kind : span.is_text ≡ false = subst (λ (v : Value). IsShaped v) given_is shaped in
    let long = counted span s in
    let bytes : AllByRecursion (λ byte. byte < 256) (items_of span) = subst (λ (items : List ℕ). AllByRecursion (λ byte. byte < 256) items) (sym (items_of-held span s.0 s.1)) (held_bytes span s.0 s.1 kind) in
    let P : Datatype → Value → Type 0 = λ e v. IsTrue (leb n most) ↔ IsValue e (value_of v) in
    subst (λ (e : Datatype). P e given) (sym is) (subst (λ (v : Value). P (Binary most) v) (sym given_is)
    (within_decides n most (IsValue (Binary most) (Bytes (items_of span))) (λ few. (omega (arith, few, long, n_is), bytes)) (λ h. let few = h.0 in omega (arith, few, long, n_is))))

pub written_decides : (d : Datatype) (given : Value) (text : Bor (List ℕ)) (most n : ℕ) → d ≡ TextType most → given ≡ value.Written text → IsUtf8 text.now → n ≡ length (chars text.now) → (IsTrue (leb n most) ↔ IsValue d (value_of given))
written_decides d given text most n is given_is utf8 n_is =
    let P : Datatype → Value → Type 0 = λ e v. IsTrue (leb n most) ↔ IsValue e (value_of v) in
    subst (λ (e : Datatype). P e given) (sym is) (subst (λ (v : Value). P (TextType most) v) (sym given_is)
    (within_decides n most (IsValue (TextType most) (Text (chars text.now))) (λ few. written_text text.now most utf8 (omega (arith, few, n_is))) (λ h. let few = h.0 in omega (arith, few, n_is))))
