-- Names that are awaited: what is taken, and what is missed.
use Rattle.std.proofs.Common.{◌≡◌, ℕ, zero, suc, ◌<◌, inr, false, List, [], ◌∷◌, ◌++◌, length, map, Some, None, slice_get, sym, ap, ap₂, subst, ◌∙◌, append_assoc, arith, get_or}
use Rattle.std.specs.Prelude.{encode_utf8}
use Rattle.std.specs.List.{AllByRecursion}
use Rattle.std.specs.Str.{encode_utf8_all}
use Rattle.std.proofs.lemmas.List.{append-nil}
use Rattle.std.proofs.lemmas.Str.{encodes-append, encode_ascii}
use Rattle.exi_schema.specs.Schemas.{PlainSchema, is_word_char}
use Rattle.value_text.specs.declared.awaited.Awaited.{Awaited}
use Rattle.value_text.specs.declared.cursor.TextCursor.{TextCursor}
use Rattle.value_text.specs.Fronts.{IsLongest}
use Rattle.value_text.specs.Scanning.{IsAwaitedText, IsAnyAwaited, MissesAt}
use Rattle.value_text.specs.ValueText.{IsName}
use Rattle.value_text.specs.declared.fault.ScanFault.{ScanFault}
use Rattle.value_text.specs.declared.fault.ScanFault.TheVariants as fault
use Rattle.dialect_text.specs.Following.{StallsAt}
use Rattle.value_text.proofs.FrontLaws.{Stops}
use Rattle.value_text.proofs.NextLaws.{some_bytes}
use Rattle.dialect_text.proofs.Agreeing.{missed}
use Rattle.value_text.proofs.SchemaWords.{name_word}
use Rattle.dialect_text.proofs.Words.{words_split, word_chars}

-- each name is the schema's, and what stands behind it is ASCII and in no word
abbrev pub AreMarked : PlainSchema → List Awaited → Type 0
AreMarked s awaited = AllByRecursion (λ one. (one.name < length s.names) × (one.end < 128) × (is_word_char one.end ≡ false)) awaited

pub all_at : {X : Type 0} (P : X → Type 0) (xs : List X) (i : ℕ) (x : X) → AllByRecursion P xs → slice_get xs i ≡ Some x → P x
all_at P [] i x all at = let wrong : None ≡ Some x = at in absurd cc
all_at P (y ∷ xs) zero x all at = let is : Some y ≡ Some x = at in let same : y ≡ x = cc in subst P same all.0
all_at P (y ∷ xs) (suc i) x all at = all_at P xs i x all.1 at

pub all_index : {X : Type 0} (P : X → Type 0) (xs : List X) (k : ℕ) (d : X) → AllByRecursion P xs → k < length xs → P (get_or xs k d)
all_index P [] k d all low = absurd (omega (arith, low))
all_index P (y ∷ xs) zero d all low = all.0
all_index P (y ∷ xs) (suc k) d all low = all_index P xs k d all.1 (omega (arith, low))

pub all_map : {X Y : Type 0} (P : Y → Type 0) (f : X → Y) (xs : List X) → AllByRecursion (λ x. P (f x)) xs → AllByRecursion P (map f xs)
all_map P f [] all = tt
all_map P f (x ∷ xs) all = (all.0, all_map P f xs all.1)

pub all_then : {X : Type 0} (P Q : X → Type 0) (xs : List X) → ((x : X) → P x → Q x) → AllByRecursion P xs → AllByRecursion Q xs
all_then P Q [] step all = tt
all_then P Q (x ∷ xs) step all = (step x all.0, all_then P Q xs step all.1)

-- a name with the character behind it
marked_text : (s : PlainSchema) (one : Awaited) (text : List ℕ) → one.end < 128 → IsAwaitedText s one text → (word : List ℕ) × IsName s one.name word × (text ≡ word ++ one.end ∷ [])
marked_text s one text low p = (p.0, p.1, p.2 ∙ ap (λ (bs : List ℕ). p.0 ++ bs) (encode_ascii one.end low))

pub awaited_chars : (s : PlainSchema) (awaited : List Awaited) (text : List ℕ) → AreMarked s awaited → IsAnyAwaited s awaited text → (cs : List ℕ) × (text ≡ encode_utf8_all cs)
awaited_chars s awaited text marked p =
    let is = all_at (λ one. (one.name < length s.names) × (one.end < 128) × (is_word_char one.end ≡ false)) awaited p.0 p.1 marked p.2 in
    let plain = marked_text s p.1 text is.1 p.3 in (
      plain.0 ++ p.1.end ∷ [],
      plain.2 ∙ ap₂ (λ (bs cs : List ℕ). bs ++ cs) (sym (word_chars plain.0 (name_word s p.1.name plain.0 plain.1).1)) (sym (encode_ascii p.1.end is.1) ∙ sym (append-nil (encode_utf8 p.1.end)))
          ∙ sym (encodes-append plain.0 (p.1.end ∷ [])),
    )

-- no awaited text begins another
pub awaited_stops : (s : PlainSchema) (awaited : List Awaited) (front rest : List ℕ) → AreMarked s awaited → IsAnyAwaited s awaited (encode_utf8_all front) → Stops (IsAnyAwaited s awaited) front rest
awaited_stops s awaited front rest marked p c more after e q =
    let P : Awaited → Type 0 = λ one. (one.name < length s.names) × (one.end < 128) × (is_word_char one.end ≡ false) in
    let is = all_at P awaited p.0 p.1 marked p.2 in
    let other = all_at P awaited q.0 q.1 marked q.2 in
    let a = marked_text s p.1 (encode_utf8_all front) is.1 p.3 in
    let b = marked_text s q.1 (encode_utf8_all front ++ (encode_utf8 c ++ after)) other.1 q.3 in
    let split = words_split a.0 b.0 p.1.end q.1.end (encode_utf8 c ++ after) [] (name_word s p.1.name a.0 a.1).1 (name_word s q.1.name b.0 b.1).1 is.2 other.2
    (sym (append_assoc a.0 (p.1.end ∷ []) (encode_utf8 c ++ after)) ∙ ap (λ (bs : List ℕ). bs ++ (encode_utf8 c ++ after)) (sym a.2) ∙ b.2) in
    some_bytes c after split.2

-- a language whose texts begin with one that is awaited, each of which begins one
pub stalls_named : (s : PlainSchema) (awaited : List Awaited) (K : List ℕ → Type 0) (a : TextCursor) (f : ScanFault) → AreMarked s awaited →
    ((text : List ℕ) → IsAnyAwaited s awaited text → (rest : List ℕ) × K (text ++ rest)) →
    ((text : List ℕ) → K text → (part : List ℕ) × (rest : List ℕ) × IsAnyAwaited s awaited part × (text ≡ part ++ rest)) →
    MissesAt (IsAnyAwaited s awaited) a f → StallsAt K a f
stalls_named s awaited K a (fault.Place place) marked from to p =
    let longest : IsLongest (IsAnyAwaited s awaited) a.rest.now p.0 = p.1 in
    let some = from (encode_utf8_all p.0 ++ longest.begins.0) longest.begins.1 in (
      p.0,
      record {
        more = longest.rest;
        stands = longest.stands;
        begins = inr (longest.begins.0 ++ some.0, subst K (append_assoc (encode_utf8_all p.0) longest.begins.0 some.0) some.1);
        none_further = λ text shares is.
            let split = to text is in
            let chars = awaited_chars s awaited split.0 marked split.2 in
            let one : IsAnyAwaited s awaited (encode_utf8_all chars.0) = subst (IsAnyAwaited s awaited) chars.1 split.2 in
            missed (IsAnyAwaited s awaited) a.rest.now p.0 text chars.0 split.1 longest p.2 shares one (awaited_stops s awaited chars.0 split.1 marked one)
            (split.3 ∙ ap (λ (bs : List ℕ). bs ++ split.1) chars.1);
      },
      p.3,
    )
stalls_named s awaited K a fault.Memory marked from to p = tt
