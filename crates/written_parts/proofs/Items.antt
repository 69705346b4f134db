-- Bytes and texts that are written lie within their maxima; lists of parts go element by element.
use Rattle.std.proofs.Common.{◌≡◌, ℕ, ◌-◌, ◌<◌, ◌≤◌, List, [], ◌∷◌, length, map, All, ℤ, pos, negsuc, ◌≤ℤ◌, arith, sym, subst, ◌∙◌}
use Rattle.std.specs.Char.{IsScalar}
use Rattle.std.specs.List.{AllByRecursion}
use Rattle.std.specs.Str.{chars}
use Rattle.std.proofs.lemmas.Grind.{common_steps}
use Rattle.std.proofs.lemmas.Int.{ints}
use Rattle.std.proofs.lemmas.List.{length-map}
use Rattle.std.proofs.lemmas.List.Elements.{All-head, All-tail, recursion_from_All}
use Rattle.std.proofs.lemmas.Str.{chars-IsAscii}
use Rattle.std.proofs.lemmas.Str.Ascii.{IsAscii-from_all}
use Rattle.exi_schema.specs.declared.tables.Datatype.TheVariants.{Bounded, Binary, Text as TextType}
use Rattle.exi_documents.specs.Trees.{Number, Bytes, Text}
use Rattle.exi_documents.specs.Values.{IsValue}
use Rattle.session_words.specs.Amounts.{above_zero}

-- ---- lists

-- what holds of all gives what holds of what is made of each, in two steps
pub each_made : {X Y Z : Type 0} (P : X → Type 0) (Q : Z → Type 0) (f : Y → Z) (g : X → Y) → ((x : X) → P x → Q (f (g x)))
    → (xs : List X) → All P xs → AllByRecursion Q (map f (map g xs))
each_made P Q f g one [] all = tt
each_made P Q f g one (x ∷ xs) all = (one x (All-head P x xs all), each_made P Q f g one xs (All-tail P x xs all))

pub length_made : {X Y Z : Type 0} (f : Y → Z) (g : X → Y) (xs : List X) → length (map f (map g xs)) ≡ length xs
length_made f g xs = length-map (map g xs) f ∙ length-map xs g

-- ---- bytes and texts

pub bytes_fit : (most : ℕ) (bytes : List ℕ) → length bytes ≤ most → All (λ byte. byte < 256) bytes → IsValue (Binary most) (Bytes bytes)
bytes_fit most bytes few all = (few, recursion_from_All (λ byte. byte < 256) bytes all)

ascii_scalar : (c : ℕ) → c < 128 → IsScalar c
ascii_scalar c h = grind (arith, common_steps)

scalars : (cs : List ℕ) → All (λ c. c < 128) cs → AllByRecursion (λ c. IsScalar c) cs
scalars [] all = tt
scalars (c ∷ cs) all =
    (ascii_scalar c (All-head (λ (x : ℕ). x < 128) c cs all), scalars cs (All-tail (λ (x : ℕ). x < 128) c cs all))

pub text_fits : (most : ℕ) (id : List ℕ) → All (λ c. c < 128) id → length id ≤ most → IsValue (TextType most) (Text (chars id))
text_fits most id all few =
    let same : chars id ≡ id = chars-IsAscii id (IsAscii-from_all id all) in
    let Fits : List ℕ → Type 0 = λ cs. IsValue (TextType most) (Text cs) in
    subst Fits (sym same) (few, scalars id all)

-- ---- the number of a schedule tuple

below : (n : ℕ) → 1 ≤ n → n ≤ 255 → IsValue (Bounded (pos 1) 255) (Number (pos n))
below n least most = (n - 1, omega arith, omega (arith, ints))

pub tuple_fits : (id : ℤ) → pos 1 ≤ℤ id → id ≤ℤ pos 255 → IsValue (Bounded (pos 1) 255) (Number (pos (above_zero id)))
tuple_fits (pos n) least most = below n (omega (arith, ints)) (omega (arith, ints))
tuple_fits (negsuc n) least most = absurd (omega (arith, ints))
