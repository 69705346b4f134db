-- Values that are written, and how many bits they have at most.
use Rattle.std.proofs.Common.{◌≡◌, ℕ, zero, suc, pos, ◌+◌, ◌-◌, ◌*◌, ◌/◌, ◌%◌, ◌^◌, ◌<◌, ◌≤◌, nat_lt, Bool, true, false, if◌then◌else◌, List, [], ◌∷◌, ◌++◌, length, length-append, refl, ap, inl, inr, arith}
use Rattle.std.specs.Prelude.{◌==◌}
use Rattle.exi_spec.specs.Bits.{number_bits}
use Rattle.exi_spec.specs.Items.{octet, shortest_within, shortest_unsigned, shortest_chars}
use Rattle.exi_spec.proofs.BitLaws.{length-number_bits}
use Rattle.exi_schema.specs.declared.tables.Datatype.TheVariants as datatype
use Rattle.exi_strings.specs.Table.{global_of, local_of}
use Rattle.exi_strings.specs.Texts.{IsFirstAt, WritesHit, WritesText, entered}
use Rattle.exi_documents.specs.Trees.{Ordinal, Number, Text}
use Rattle.exi_documents.specs.Values.{Entries, WritesValue, SpellsCode}
use Rattle.document_laws.proofs.IndexWidths.{index_width}
use Rattle.kind_laws.proofs.Entering.{first_or_absent, global_length}
use Rattle.std.specs.Char.{IsScalar}
use Rattle.std.specs.List.{AllByRecursion}

-- some bits write it, no more than so many, and so many texts are entered behind it at most
abbrev pub IsWritten : (List Bool → Entries → Type 0) → ℕ → ℕ → Type 0
IsWritten Writes most texts = (bits : List Bool) × (after : Entries) × Writes bits after × (length bits ≤ most) × (length after ≤ texts)

-- ---- numbers

octet_long : (more : Bool) (group : ℕ) → length (octet more group) ≡ 8
octet_long more group = ap suc (length-number_bits 7 group)

either_few : (b : Bool) (xs ys : List Bool) (n : ℕ) → length xs ≤ n → length ys ≤ n → length (if b then xs else ys) ≤ n
either_few true xs ys n one other = one
either_few false xs ys n one other = other

octets_few : (more v : ℕ) → length (shortest_within more v) ≤ 8 * more + 8
unfolding shortest_within
octets_few zero v = omega (arith, octet_long false v)
octets_few (suc more) v =
    either_few (nat_lt v 128) (octet false v) (octet true (v % 128) ++ shortest_within more (v / 128)) (8 * suc more + 8)
    (omega (arith, octet_long false v))
    (omega (arith, octets_few more (v / 128), octet_long true (v % 128), length-append (octet true (v % 128)) (shortest_within more (v / 128))))

unsigned_few : (v : ℕ) → length (shortest_unsigned v) ≤ 80
unsigned_few v = omega (arith, octets_few 9 v)

pub code_written : (count code width : ℕ) → code < count → count ≤ 2 ^ width → (bits : List Bool) × SpellsCode count code bits × (length bits ≤ width)
code_written count code width below few =
    let w = index_width count in
    (number_bits w.0 code, record { below = below; width = w.0; is_width = w.1; spelled = refl }, omega (arith, length-number_bits w.0 code, w.1.least width few))

pub unsigned_written : (most n texts name : ℕ) (entries : Entries) → n ≤ most → length entries ≤ texts → IsWritten (WritesValue (datatype.Unsigned most) entries name (Number (pos n))) 80 texts
unsigned_written most n texts name entries small few = (shortest_unsigned n, entries, (small, refl, refl), unsigned_few n, few)

pub bounded_written : (least count n texts name : ℕ) (entries : Entries) → least ≤ n → n < least + count → count ≤ 256 → length entries ≤ texts → IsWritten (WritesValue (datatype.Bounded (pos least) count) entries name (Number (pos n))) 8 texts
bounded_written least count n texts name entries low high small few =
    let code = code_written count (n - least) 8 (omega (arith, low, high)) (omega (arith, small)) in
    let is : n ≡ least + (n - least) = omega (arith, low) in
    (code.0, entries, ((n - least, ap pos is, code.1), refl), code.2, few)

pub ordinal_written : (count n width texts name : ℕ) (entries : Entries) → n < count → count ≤ 2 ^ width → length entries ≤ texts → IsWritten (WritesValue (datatype.Named count) entries name (Ordinal n)) width texts
ordinal_written count n width texts name entries below small few =
    let code = code_written count n width below small in
    (code.0, entries, (code.1, refl), code.2, few)

-- ---- texts

one_or_none : (b : Bool) (x : List ℕ) (xs : List (List ℕ)) (n : ℕ) → length xs ≤ n → length (if b then x ∷ xs else xs) ≤ n + 1
one_or_none true x xs n few = omega (arith, few)
one_or_none false x xs n few = omega (arith, few)

local_few : (name : ℕ) (entries : Entries) → length (local_of name entries) ≤ length entries
local_few name [] = omega arith
local_few name (entry ∷ entries) =
    let more = one_or_none (entry.0 == name) entry.1 (local_of name entries) (length entries) (local_few name entries) in omega (arith, more)

chars_few : (chars : List ℕ) → length (shortest_chars chars) ≤ 80 * length chars
chars_few [] = omega arith
chars_few (char ∷ chars) = omega (arith, unsigned_few char, chars_few chars, length-append (shortest_unsigned char) (shortest_chars chars))

hit_written : (n i : ℕ) (partition : List (List ℕ)) (text : List ℕ) → IsFirstAt partition text i → length partition ≤ 32 → (bits : List Bool) × WritesHit n partition text bits × (length bits ≤ 85)
hit_written n i partition text first few =
    let w = index_width (length partition) in
    let code = number_bits w.0 i in (
      shortest_unsigned n ++ code,
      (code, (i, w.0, first, w.1, refl), refl),
      omega (arith, length-append (shortest_unsigned n) code, unsigned_few n, length-number_bits w.0 i, w.1.least 5 (omega (arith, few))),
    )

entered_few : (entries : Entries) (name : ℕ) (text : List ℕ) → length (entered entries name text) ≤ length entries + 1
entered_few entries name [] = omega arith
entered_few entries name (char ∷ chars) = omega (arith, length-append entries ((name, char ∷ chars) ∷ []))

text_out : (entries : Entries) (name : ℕ) (chars : List ℕ) → length chars ≤ 100 → length entries ≤ 32 → IsWritten (WritesText entries name chars) 8080 (length entries + 1)
text_out entries name chars short few =
    elim (first_or_absent (local_of name entries) chars) [
      | inl near ↦
          let hit = hit_written 0 near.0 (local_of name entries) chars near.1 (omega (arith, few, local_few name entries)) in
          (hit.0, entries, inl (hit.1, refl), omega (arith, hit.2), omega arith)
      | inr not_near ↦ elim (first_or_absent (global_of entries) chars) [
        | inl far ↦
            let hit = hit_written 1 far.0 (global_of entries) chars far.1 (omega (arith, few, global_length entries)) in
            (hit.0, entries, inr (inl (not_near, hit.1, refl)), omega (arith, hit.2), omega arith)
        | inr not_far ↦
            let length_bits = shortest_unsigned (length chars + 2) in (
              length_bits ++ shortest_chars chars,
              entered entries name chars,
              inr (inr (not_near, not_far, refl, refl)),
              omega (arith, unsigned_few (length chars + 2), chars_few chars, short, length-append length_bits (shortest_chars chars)),
              entered_few entries name chars,
            )
      ]
    ]

pub text_written : (n name : ℕ) (entries : Entries) (chars : List ℕ) → length chars ≤ 100 → AllByRecursion (λ char. IsScalar char) chars → length entries ≤ n → n ≤ 32 → IsWritten (WritesValue (datatype.Text 100) entries name (Text chars)) 8080 (n + 1)
text_written n name entries chars short scalars few small =
    let out = text_out entries name chars short (omega (arith, few, small)) in
    (out.0, out.1, ((short, scalars), out.2, omega (arith, out.4, few, small)), out.3, omega (arith, out.4, few))
