-- Whether a text stands in the table, and which has room there.
use Rattle.std.proofs.Common.{◌≡◌, ℕ, zero, suc, ◌<◌, Bool, true, false, cond, eqb, List, [], ◌∷◌, length, refl, sym, ap, subst, ◌∙◌, Some, arith, IsTrue, ◌↔◌, IsUtf8}
use Rattle.std.specs.Prelude.{slice_get, MatchBool}
use Rattle.std.specs.Borrow.{Bor}
use Rattle.std.specs.Str.{chars}
use Rattle.std.proofs.lemmas.Bool.{false≢true}
use Rattle.exi_bits.specs.Lent.{Span, items_of, text_at}
use Rattle.exi_bits.specs.declared.span.SpanAt.{SpanAt}
use Rattle.exi_writing.specs.Table.{global_of, local_of}
use Rattle.exi_writing.specs.Texts.{IsAbsent}
use Rattle.exi_writing.specs.Trees.{Value as TreeValue, Text}
use Rattle.exi_writing.specs.Values.{Entries, most_entries}
use Rattle.exi_writing.specs.Value.{Value}
use Rattle.exi_writing.specs.Value.TheVariants as value
use Rattle.exi_writing.specs.Meaning.{value_of}
use Rattle.exi_writing.specs.Entering.{HasEntryFor}
use Rattle.exi_writing.proofs.Strings.{few_bytes}
use Rattle.exi_writing.proofs.Values.{few_chars}

text_is : (a b : List ℕ) → Text a ≡ Text b → a ≡ b
text_is a b e = cc

same_there : (bits : List Bool) (at : SpanAt) (there : Span) (items text : List ℕ) (b : Bool) → there ≡ text_at bits at → items ≡ text → (IsTrue b ↔ (items_of there ≡ items)) → (IsTrue b ↔ (items_of (text_at bits at) ≡ text))
same_there bits at there items text b is e same =
    let one = ap items_of is in ((λ t. sym one ∙ same.0 t ∙ e), (λ i. same.1 (one ∙ i ∙ sym e)))

pub lent_there : (bits : List Bool) (at : SpanAt) (there span : Span) (given : Value) (text : List ℕ) (b : Bool) → there ≡ text_at bits at →
    given ≡ value.Text span → value_of given ≡ Text text → (IsTrue b ↔ (items_of there ≡ items_of span)) → (IsTrue b ↔ (items_of (text_at bits at) ≡ text))
lent_there bits at there span given text b is given_is text_of same =
    same_there bits at there (items_of span) text b is (text_is (items_of span) text (sym (ap value_of given_is) ∙ text_of)) same

pub written_there : (bits : List Bool) (at : SpanAt) (there : Span) (written : Bor (List ℕ)) (given : Value) (text : List ℕ) (b : Bool) → there ≡ text_at bits at →
    given ≡ value.Written written → value_of given ≡ Text text → (IsTrue b ↔ (items_of there ≡ chars written.now)) → (IsTrue b ↔ (items_of (text_at bits at) ≡ text))
written_there bits at there written given text b is given_is text_of same =
    same_there bits at there (chars written.now) text b is (text_is (chars written.now) text (sym (ap value_of given_is) ∙ text_of)) same

-- ---- a text that stands in no partition

local_by : (b : Bool) (first : List ℕ) (local global : List (List ℕ)) (text : List ℕ) → ((k : ℕ) → slice_get local k ≡ Some text → (n : ℕ) × (slice_get global n ≡ Some text)) →
    (i : ℕ) → slice_get (cond b (first ∷ local) local) i ≡ Some text → (k : ℕ) × (slice_get (first ∷ global) k ≡ Some text)
local_by true first local global text more zero h = (0, h)
local_by true first local global text more (suc i) h = let there = more i h in (suc there.0, there.1)
local_by false first local global text more i h = let there = more i h in (suc there.0, there.1)

-- what a local partition has, the global one has
local_there : (name : ℕ) (entries : Entries) (i : ℕ) (text : List ℕ) → slice_get (local_of name entries) i ≡ Some text → (k : ℕ) × (slice_get (global_of entries) k ≡ Some text)
local_there name [] i text h = absurd cc
local_there name (entry ∷ entries) i text h =
    local_by (eqb entry.0 name) entry.1 (local_of name entries) (global_of entries) text (λ k found. local_there name entries k text found) i h

pub absent_locally : (name : ℕ) (entries : Entries) (text : List ℕ) → IsAbsent (global_of entries) text → IsAbsent (local_of name entries) text
absent_locally name entries text absent i found = let there = local_there name entries i text found in absent there.0 there.1

-- ---- room

pub room_none : (entries : Entries) (name : ℕ) (v : TreeValue) (text : List ℕ) → v ≡ Text text → length text ≡ 0 → HasEntryFor entries name v
room_none entries name v text is none = subst (λ (w : TreeValue). HasEntryFor entries name w) (sym is) (of_text text none)
  where
    of_text : (text : List ℕ) → length text ≡ 0 → HasEntryFor entries name (Text text)
    of_text [] none = tt
    of_text (char ∷ chars) none = absurd (omega (arith, none))

pub room_found : (entries : Entries) (name : ℕ) (v : TreeValue) (text : List ℕ) → v ≡ Text text → ((i : ℕ) × (slice_get (global_of entries) i ≡ Some text)) → HasEntryFor entries name v
room_found entries name v text is found = subst (λ (w : TreeValue). HasEntryFor entries name w) (sym is) (of_text text found)
  where
    of_text : (text : List ℕ) → ((i : ℕ) × (slice_get (global_of entries) i ≡ Some text)) → HasEntryFor entries name (Text text)
    of_text [] found = tt
    of_text (char ∷ chars) found = λ local global. absurd (global found.0 found.1)

pub no_room : (entries : Entries) (name : ℕ) (v : TreeValue) (text : List ℕ) → v ≡ Text text → (length entries < most_entries → ⊥) → (length text ≡ 0 → ⊥) → IsAbsent (global_of entries) text → HasEntryFor entries name v → ⊥
no_room entries name v text is full some absent room = of_text text some absent (subst (λ (w : TreeValue). HasEntryFor entries name w) is room)
  where
    of_text : (text : List ℕ) → (length text ≡ 0 → ⊥) → IsAbsent (global_of entries) text → HasEntryFor entries name (Text text) → ⊥
    of_text [] some absent room = some refl
    of_text (char ∷ chars) some absent room = full (room (absent_locally name entries (char ∷ chars) absent) absent)

-- where the table is full: a text has room exactly where it stands there
pub entered_decides : (entries : Entries) (name : ℕ) (v : TreeValue) (text : List ℕ) (b : Bool) → v ≡ Text text → (length entries < most_entries → ⊥) → (length text ≡ 0 → ⊥) →
    MatchBool b ((i : ℕ) × (slice_get (global_of entries) i ≡ Some text)) (IsAbsent (global_of entries) text) → (IsTrue b ↔ HasEntryFor entries name v)
entered_decides entries name v text true is full some found = (λ t. room_found entries name v text is found, λ h. refl)
entered_decides entries name v text false is full some absent = (λ t. absurd (false≢true t), λ h. absurd (no_room entries name v text is full some absent h))

-- a text of the program is empty exactly where it has no code point
pub no_char : (text : List ℕ) → IsUtf8 text → length text ≡ 0 → length (chars text) ≡ 0
no_char text utf8 none = omega (arith, none, few_chars text utf8)

pub some_char : (text : List ℕ) → IsUtf8 text → (length text ≡ 0 → ⊥) → length (chars text) ≡ 0 → ⊥
some_char text utf8 some none = some (omega (arith, none, few_bytes text utf8))
