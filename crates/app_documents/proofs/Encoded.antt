-- Each message within its ranges is written by some bits.
use Rattle.std.proofs.Common.{◌≡◌, ℕ, pos, ◌+◌, ◌*◌, ◌^◌, ◌<◌, ◌≤◌, nat_lt, Bool, true, false, if◌then◌else◌, List, [], ◌∷◌, ◌++◌, length, length-append, Option, Some, None, refl, sym, ap, subst, ◌∙◌, arith}
use Rattle.std.specs.Prelude.{slice_get, not}
use Rattle.std.specs.List.{AllByRecursion}
use Rattle.std.proofs.lemmas.Bool.{lt-ltb, le-ltb}
use Rattle.std.proofs.lemmas.Option.{slice_get_within}
use Rattle.exi_spec.specs.Bits.{number_bits}
use Rattle.exi_spec.proofs.BitLaws.{length-number_bits}
use Rattle.exi_schema.specs.declared.places.Place.{Place}
use Rattle.exi_schema.specs.declared.places.Step.{Step}
use Rattle.exi_schema.specs.declared.places.Step.TheVariants.{Element, End}
use Rattle.exi_schema.specs.Steps.{simple_at}
use Rattle.exi_schema.specs.declared.tables.Datatype.{Datatype}
use Rattle.exi_schema.specs.declared.tables.Datatype.TheVariants as datatype
use Rattle.exi_schema.specs.Plain.{PlainKind}
use Rattle.exi_schema.specs.declared.tables.MemberStanding.TheVariants.{Taken}
use Rattle.exi_schema.specs.Offers.{offers, behind_copy}
use Rattle.exi_documents.specs.Trees.{Value, Ordinal, Number, Text, Trees, none, simple, Complex}
use Rattle.exi_documents.specs.Values.{Entries, WritesValue}
use Rattle.exi_documents.specs.Documents.{SpellsStep, SpellsTrees, SpellsTree, SpellsDocument, element, first, header}
use Rattle.document_laws.proofs.IndexWidths.{code_width}
use Rattle.app_schema.specs.Declarations.{kinds, roots, negotiation_schema}
use Rattle.app_documents.specs.Trees.{Offered, IsOffered, Message, Request, Response, IsMessage, IsByte, tree_of, number_of}
use Rattle.app_documents.proofs.Shapes.{fields_of, protocol_trees, schema_tree}
use Rattle.app_documents.proofs.Written.{IsWritten, unsigned_written, bounded_written, ordinal_written, text_written}

-- ---- places and steps

abbrev behind : ℕ → ℕ → Place
behind kind particle = record { kind = kind; particle = particle; copies = 0; attributes = 0 }

-- the place behind so many protocols
abbrev among : ℕ → Place
among n = record { kind = 6; particle = 0; copies = n; attributes = 0 }

abbrev at_copy : ℕ → Place
at_copy n = if nat_lt n 20 then among n else behind 6 1

-- a step has a code of at most so many bits
abbrev IsCoded : List PlainKind → Place → Step → ℕ → Type 0
IsCoded ks here step width = (bits : List Bool) × SpellsStep ks here step bits × (length bits ≤ width)

coded : (ks : List PlainKind) (here : Place) (offered : List Step) (code : ℕ) (step : Step) (width : ℕ) → offers ks here ≡ offered → slice_get offered code ≡ Some step → length offered < 2 ^ width → IsCoded ks here step width
coded ks here offered code step width are at few =
    let at_code : slice_get (offers ks here) code ≡ Some step = ap (λ (l : List Step). slice_get l code) are ∙ at in
    let w = code_width (length (offers ks here)) in
    let below = slice_get_within (offers ks here) code step at_code in
    let enough = w.1.enough in (
      number_bits w.0 code,
      record { code = code; width = w.0; is_width = w.1; offered = at_code; spelled = record { range = omega (arith, below, enough); spelled = refl } },
      omega (arith, length-number_bits w.0 code, w.1.least width (omega (arith, few, ap length are))),
    )

-- ---- an element with a value

field_written : (here q : Place) (a b k v m t u : ℕ) (d : Datatype) (entries : Entries) (value : Value) (more : Trees) → simple_at kinds b ≡ Some d → IsCoded kinds here (element a b q) k →
    IsWritten (WritesValue d entries a value) v t →
    ((middle : Entries) → length middle ≤ t → IsWritten (SpellsTrees WritesValue kinds q middle more) m u) →
    IsWritten (SpellsTrees WritesValue kinds here entries (simple a value more)) (k + 2 + v + m) u
field_written here q a b k v m t u d entries value more is code written others =
    let rest = others written.1 written.4 in
    let inside = number_bits 1 0 ++ (written.0 ++ number_bits 1 0) in (
      code.0 ++ (inside ++ rest.0),
      rest.1,
      record {
        kind = b;
        next = q;
        middle = written.1;
        code = code.0;
        inside = inside;
        rest = rest.0;
        starts = code.1;
        spelled = record { datatype = d; is_simple = is; inside = written.0; spelled = written.2; bits_are = refl };
        behind = rest.2;
        bits_are = refl;
      },
      omega (arith, code.2, written.3, rest.3, length-append code.0 (inside ++ rest.0), length-append inside rest.0, length-append (number_bits 1 0) (written.0 ++ number_bits 1 0), length-append written.0 (number_bits 1 0), length-number_bits 1 0),
      rest.4,
    )

end_written : (here : Place) (entries : Entries) (k u : ℕ) → IsCoded kinds here End k → length entries ≤ u → IsWritten (SpellsTrees WritesValue kinds here entries none) k u
end_written here entries k u code few = (code.0, entries, (code.1, refl), code.2, few)

-- the one element that is offered
once_coded : (here q : Place) (a b : ℕ) → offers kinds here ≡ element a b q ∷ [] → IsCoded kinds here (element a b q) 1
once_coded here q a b one = coded kinds here (element a b q ∷ []) 0 (element a b q) 1 (one) refl (omega arith)

end_coded : (here : Place) → offers kinds here ≡ End ∷ [] → IsCoded kinds here End 1
end_coded here one = coded kinds here (End ∷ []) 0 End 1 (one) refl (omega arith)

-- ---- an AppProtocol

fields_written : (p : Offered) (n : ℕ) (entries : Entries) → IsOffered p → length entries ≤ n → n ≤ 32 → IsWritten (SpellsTrees WritesValue kinds (first 5) entries (fields_of p)) 8272 (n + 1)
fields_written p n entries is few small =
    let schema_fits = is.schema_fits in
    let priority_most = is.priority_most in
    let last : Trees = simple 7 (Number (pos p.priority)) none in
    let fourth : Trees = simple 6 (Number (pos p.schema)) last in
    let third : Trees = simple 5 (Number (pos p.minor)) fourth in
    let second : Trees = simple 4 (Number (pos p.major)) third in
    field_written (first 5) (behind 5 1) 3 0 1 8080 189 (n + 1) (n + 1) (datatype.Text 100) entries (Text p.namespace) second refl (once_coded (first 5) (behind 5 1) 3 0 refl)
    (text_written n 3 entries p.namespace is.namespace_fits is.namespace_chars few small)
    (λ e1 f1. field_written (behind 5 1) (behind 5 2) 4 1 1 80 106 (n + 1) (n + 1) (datatype.Unsigned 4294967295) e1 (Number (pos p.major)) third refl (once_coded (behind 5 1) (behind 5 2) 4 1 refl)
    (unsigned_written 4294967295 p.major (n + 1) 4 e1 (omega (arith, is.major_fits)) f1)
    (λ e2 f2. field_written (behind 5 2) (behind 5 3) 5 1 1 80 23 (n + 1) (n + 1) (datatype.Unsigned 4294967295) e2 (Number (pos p.minor)) fourth refl (once_coded (behind 5 2) (behind 5 3) 5 1 refl)
    (unsigned_written 4294967295 p.minor (n + 1) 5 e2 (omega (arith, is.minor_fits)) f2)
    (λ e3 f3. field_written (behind 5 3) (behind 5 4) 6 2 1 8 12 (n + 1) (n + 1) (datatype.Bounded (pos 0) 256) e3 (Number (pos p.schema)) last refl (once_coded (behind 5 3) (behind 5 4) 6 2 refl)
    (bounded_written 0 256 p.schema (n + 1) 6 e3 (omega arith) (omega (arith, schema_fits)) (omega arith) f3)
    (λ e4 f4. field_written (behind 5 4) (behind 5 5) 7 3 1 8 1 (n + 1) (n + 1) (datatype.Bounded (pos 1) 20) e4 (Number (pos p.priority)) none refl (once_coded (behind 5 4) (behind 5 5) 7 3 refl)
    (bounded_written 1 20 p.priority (n + 1) 7 e4 is.priority_least (omega (arith, priority_most)) (omega arith) f4)
    (λ e5 f5. end_written (behind 5 5) e5 1 (n + 1) (end_coded (behind 5 5) refl) f5)))))

-- ---- a request

among_offers : (n : ℕ) → nat_lt n 20 ≡ true → offers kinds (among n) ≡ element 2 5 (at_copy (n + 1)) ∷ (if nat_lt n 1 then [] else End ∷ [])
among_offers n is =
    ap (λ b. Element 2 5 (if b then behind_copy 6 0 0 n (Some 20) else among n) Taken (not b) ∷ (if nat_lt n 1 then [] else End ∷ [])) is

few_by : (b : Bool) (step : Step) → length (step ∷ (if b then [] else End ∷ [])) < 2 ^ 2
few_by true step = omega arith
few_by false step = omega arith

at_copy_among : (n : ℕ) → nat_lt n 20 ≡ true → at_copy n ≡ among n
at_copy_among n is = ap (λ b. if b then among n else behind 6 1) is

start_coded : (n : ℕ) → n < 20 → IsCoded kinds (at_copy n) (element 2 5 (at_copy (n + 1))) 2
start_coded n less =
    let is : nat_lt n 20 ≡ true = lt-ltb n 20 less in
    subst (λ (p : Place). IsCoded kinds p (element 2 5 (at_copy (n + 1))) 2) (sym (at_copy_among n is))
    (coded kinds (among n) _ 0 (element 2 5 (at_copy (n + 1))) 2 (among_offers n is) refl (few_by (nat_lt n 1) (element 2 5 (at_copy (n + 1)))))

last_coded : (n : ℕ) (b : Bool) → nat_lt n 20 ≡ b → 1 ≤ n → IsCoded kinds (at_copy n) End 2
last_coded n true is some =
    let has : nat_lt n 1 ≡ false = le-ltb n 1 some in
    let two = among_offers n is ∙ ap (λ b. element 2 5 (at_copy (n + 1)) ∷ (if b then [] else End ∷ [])) has in
    subst (λ (p : Place). IsCoded kinds p End 2) (sym (at_copy_among n is)) (coded kinds (among n) (element 2 5 (at_copy (n + 1)) ∷ End ∷ []) 1 End 2 two refl (omega arith))
last_coded n false is some =
    subst (λ (p : Place). IsCoded kinds p End 2) (sym (ap (λ b. if b then among n else behind 6 1) is)) (coded kinds (behind 6 1) (End ∷ []) 0 End 2 refl refl (omega arith))

protocols_written : (n : ℕ) (entries : Entries) (ps : List Offered) → n + length ps ≤ 20 → 1 ≤ n + length ps → AllByRecursion (λ p. IsOffered p) ps → length entries ≤ n →
    IsWritten (SpellsTrees WritesValue kinds (at_copy n) entries (protocol_trees ps)) (8274 * length ps + 2) 20
protocols_written n entries [] most some all few =
    end_written (at_copy n) entries 2 20 (last_coded n (nat_lt n 20) refl (omega (arith, some))) (omega (arith, few, most))
protocols_written n entries (p ∷ ps) most some all few =
    let code = start_coded n (omega (arith, most)) in
    let inside = fields_written p n entries all.0 few (omega (arith, most)) in
    let rest = protocols_written (n + 1) inside.1 ps (omega (arith, most)) (omega arith) all.1 inside.4 in (
      code.0 ++ (inside.0 ++ rest.0),
      rest.1,
      record {
        kind = 5;
        next = at_copy (n + 1);
        middle = inside.1;
        code = code.0;
        inside = inside.0;
        rest = rest.0;
        starts = code.1;
        spelled = record { there = first 5; within = entries; front = []; inside = inside.0; begun = (refl, refl, refl); ended = inside.2; bits_are = refl };
        behind = rest.2;
        bits_are = refl;
      },
      omega (arith, code.2, inside.3, rest.3, length-append code.0 (inside.0 ++ rest.0), length-append inside.0 rest.0),
      rest.4,
    )

-- ---- a response

schema_offered : offers kinds (behind 7 1) ≡ element 6 2 (behind 7 2) ∷ End ∷ []
schema_offered = refl

schema_written : (schema : Option ℕ) (entries : Entries) → IsByte schema → length entries ≤ 20 → IsWritten (SpellsTrees WritesValue kinds (behind 7 1) entries (schema_tree schema)) 13 20
schema_written None entries is few =
    let end = end_written (behind 7 1) entries 2 20 (coded kinds (behind 7 1) (element 6 2 (behind 7 2) ∷ End ∷ []) 1 End 2 schema_offered refl (omega arith)) few in
    (end.0, end.1, end.2, omega (arith, end.3), end.4)
schema_written (Some schema) entries is few =
    field_written (behind 7 1) (behind 7 2) 6 2 2 8 1 20 20 (datatype.Bounded (pos 0) 256) entries (Number (pos schema)) none refl
    (coded kinds (behind 7 1) (element 6 2 (behind 7 2) ∷ End ∷ []) 0 (element 6 2 (behind 7 2)) 2 schema_offered refl (omega arith))
    (bounded_written 0 256 schema 20 6 entries (omega arith) (omega (arith, is)) (omega arith) few)
    (λ e f. end_written (behind 7 2) e 1 20 (end_coded (behind 7 2) refl) f)

response_written : (code : ℕ) (schema : Option ℕ) → code < 3 → IsByte schema → IsWritten (SpellsTrees WritesValue kinds (first 7) [] (simple 8 (Ordinal code) (schema_tree schema))) 18 20
response_written code schema below is =
    field_written (first 7) (behind 7 1) 8 4 1 2 13 20 20 (datatype.Named 3) [] (Ordinal code) (schema_tree schema) refl (once_coded (first 7) (behind 7 1) 8 4 refl)
    (ordinal_written 3 code 2 20 8 [] below (omega arith) (omega arith))
    (λ e f. schema_written schema e is f)

-- ---- the root

root_written : (kind most : ℕ) (name : ℕ) (children : Trees) → IsWritten (SpellsTrees WritesValue kinds (first kind) [] children) most 20 → IsWritten (SpellsTree WritesValue kinds kind [] (Complex name [] children)) most 20
root_written kind most name children inside =
    (inside.0, inside.1, record { there = first kind; within = []; front = []; inside = inside.0; begun = (refl, refl, refl); ended = inside.2; bits_are = refl }, inside.3, inside.4)

-- a message has a document of at most so many bits
abbrev pub IsEncodedWithin : ℕ → Message → Type 0
IsEncodedWithin most m = (bits : List Bool) × SpellsDocument WritesValue negotiation_schema (number_of m) (tree_of m) bits × (length bits ≤ most)

-- no more than 32,768 bytes hold
abbrev pub IsEncoded : Message → Type 0
IsEncoded m = IsEncodedWithin (8 * 32768) m

document_written : (number name kind most : ℕ) (children : Trees) → slice_get roots number ≡ Some (record { number = number; name = name; kind = kind }) → number < 4 →
    IsWritten (SpellsTree WritesValue kinds kind [] (Complex name [] children)) most 20 → (bits : List Bool) × SpellsDocument WritesValue negotiation_schema number (Complex name [] children) bits × (length bits ≤ 10 + most)
document_written number name kind most children at small inside =
    let front = number_bits 2 number in (
      header ++ (front ++ inside.0),
      record {
        kind = kind;
        front = front;
        inside = inside.0;
        after = inside.1;
        named = (number, at);
        numbered = record { range = small; spelled = refl };
        spelled = inside.2;
        bits_are = refl;
      },
      omega (arith, inside.3, length-append header (front ++ inside.0), length-append front inside.0, length-number_bits 8 128, length-number_bits 2 number),
    )

request_encoded : (ps : List Offered) → IsMessage (Request ps) → IsEncodedWithin (10 + (8274 * length ps + 2)) (Request ps)
request_encoded ps is =
    document_written 0 0 6 (8274 * length ps + 2) (protocol_trees ps) refl (omega arith)
    (root_written 6 _ 0 (protocol_trees ps) (protocols_written 0 [] ps (omega (arith, is.1)) (omega (arith, is.0)) is.2 (omega arith)))

pub response_encoded : (code : ℕ) (schema : Option ℕ) → IsMessage (Response code schema) → IsEncodedWithin 28 (Response code schema)
response_encoded code schema is =
    document_written 1 1 7 18 (simple 8 (Ordinal code) (schema_tree schema)) refl (omega arith)
    (root_written 7 18 1 (simple 8 (Ordinal code) (schema_tree schema)) (response_written code schema is.0 is.1))

pub message_encoded : (m : Message) → IsMessage m → IsEncoded m
message_encoded (Request ps) is =
    let written = request_encoded ps is in
    (written.0, written.1, omega (arith, written.2, is.1))
message_encoded (Response code schema) is =
    let written = response_encoded code schema is in
    (written.0, written.1, omega (arith, written.2))
