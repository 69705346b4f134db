-- A text is a trace of format 1, or is refused at one line.
use Rattle.std.proofs.Common.{◌≡◌, ◌⊎◌, inl, inr, ℕ, ◌+◌, ◌<◌, ◌≤◌, List, [], ◌∷◌, ◌++◌, length, get_or, refl, sym, ap, ◌∙◌, arith, append_assoc, append-nil}
use Rattle.std.specs.Prelude.{reverse}
use Rattle.std.specs.List.{AllByRecursion}
use Rattle.std.proofs.lemmas.List.{reverse-append, reverse-reverse}
use Rattle.charge_world.specs.declared.entry.Entry.{Entry}
use Rattle.plan_files.specs.FileTexts.{IsBeginning}
use Rattle.trace_text.specs.TraceText.{IsWritable, IsLine1}
use Rattle.trace_text.specs.Pasts.{first_line_1, first_line_2}
use Rattle.trace_reading.specs.declared.format.Format.{Format}
use Rattle.trace_reading.specs.declared.format.Format.TheVariants.{Plain, Numbered}
use Rattle.trace_reading.specs.Readings.{first_line_in, IsGood, text_in, IsBadBehind, IsFirstBad}
use Rattle.trace_reading.specs.Lines.{lines_in}
use Rattle.trace_reading.proofs.Fronts.{text_is}
use Rattle.trace_files.specs.Recordings.{IsRecorded, IsBadWithin}
use Rattle.trace_files.specs.Recordings as recordings
use Rattle.trace_files.proofs.OneLine.{one_line, not_refused}
use Rattle.migrate_command.specs.Formats.{posts, IsPlainTrace, IsOtherFirst, IsOtherLater, IsRefusedAt}

-- ---- two formats

apart : (a b : List ℕ) → first_line_1 ++ a ≡ first_line_2 ++ b → ⊥
apart a b e = let digit : 49 ≡ 50 = ap (λ (t : List ℕ). get_or t 10 0) e in absurd (omega (arith, digit))

-- a text begins with the first line of its format
begins : (f : Format) (text rest : List ℕ) (past : List Entry) → text ≡ text_in f past ++ rest → text ≡ first_line_in f ++ (lines_in f past ++ rest)
begins f text rest past is = is ∙ ap (λ (t : List ℕ). t ++ rest) (text_is f past) ∙ append_assoc (first_line_in f) (lines_in f past) rest

whole_begins : (f : Format) (text : List ℕ) (past : List Entry) → text ≡ text_in f past → text ≡ first_line_in f ++ lines_in f past
whole_begins f text past is = is ∙ text_is f past

-- ---- what is told of both formats, of a text that begins with the first line of format 1

plain : (f : Format) (text more : List ℕ) (entries : List Entry) → text ≡ first_line_1 ++ more → IsGood f posts (reverse entries) → text ≡ text_in f (reverse entries)
    → (IsGood Plain posts (reverse entries)) × (text ≡ text_in Plain (reverse entries))
plain Plain text more entries first good whole = (good, whole)
plain Numbered text more entries first good whole =
    absurd (apart more (lines_in Numbered (reverse entries)) (sym first ∙ whole_begins Numbered text (reverse entries) whole))

pub recorded_plain : (text more : List ℕ) (entries : List Entry) → text ≡ first_line_1 ++ more → IsRecorded posts text entries → IsPlainTrace text entries
recorded_plain text more entries first r =
    let both = plain r.tells.format text more entries first r.tells.good r.tells.whole in
    record { within = r.within; good = both.0; whole = both.1 }

later_plain : (f : Format) (text more : List ℕ) (past : List Entry) (number : ℕ) → text ≡ first_line_1 ++ more → IsBadBehind posts f text past → number ≡ length past + 2
    → IsOtherLater text number
later_plain Plain text more past number first behind count = record { past = past; behind = behind; count = count }
later_plain Numbered text more past number first behind count =
    absurd (apart more (lines_in Numbered past ++ behind.rest) (sym first ∙ begins Numbered text behind.rest past behind.front))

within_plain : (text more : List ℕ) (number : ℕ) → text ≡ first_line_1 ++ more → IsFirstBad posts text number → IsOtherLater text number
within_plain text more number first (inl bad) = absurd (bad.bad Plain more first)
within_plain text more number first (inr later) = later_plain later.format text more later.past number first later.behind later.count

pub refused_plain : (text more : List ℕ) (number : ℕ) → text ≡ first_line_1 ++ more → recordings.IsRefusedAt posts text number → IsRefusedAt text number
refused_plain text more number first (inl over) = inl over
refused_plain text more number first (inr bad) = inr (record { within = bad.within; other = inr (within_plain text more number first bad.bad) })

-- ---- one line

later_bad : (text : List ℕ) (number : ℕ) → IsOtherLater text number → IsFirstBad posts text number
later_bad text number later = inr (record { format = Plain; past = later.past; behind = later.behind; count = later.count })

not_both : (text : List ℕ) (m n : ℕ) → IsOtherFirst text m → IsOtherLater text n → ⊥
not_both text m n a b = a.other (lines_in Plain b.past ++ b.behind.rest) (begins Plain text b.behind.rest b.past b.behind.front)

one_other : (text : List ℕ) (m n : ℕ) → length text ≤ 268435456 → IsOtherFirst text m ⊎ IsOtherLater text m → IsOtherFirst text n ⊎ IsOtherLater text n → m ≡ n
one_other text m n within (inl a) (inl b) = a.count ∙ sym b.count
one_other text m n within (inl a) (inr b) = absurd (not_both text m n a b)
one_other text m n within (inr a) (inl b) = absurd (not_both text n m b a)
one_other text m n within (inr a) (inr b) =
    one_line posts text m n (inr (record { within = within; bad = later_bad text m a })) (inr (record { within = within; bad = later_bad text n b }))

pub one_refusal : (text : List ℕ) (m n : ℕ) → IsRefusedAt text m → IsRefusedAt text n → m ≡ n
one_refusal text m n (inl a) (inl b) = a.line ∙ sym b.line
one_refusal text m n (inl a) (inr b) = absurd (omega (arith, a.over, b.within))
one_refusal text m n (inr a) (inl b) = absurd (omega (arith, b.over, a.within))
one_refusal text m n (inr a) (inr b) = one_other text m n a.within a.other b.other

plain_recorded : (text : List ℕ) (entries : List Entry) → IsPlainTrace text entries → IsRecorded posts text entries
plain_recorded text entries is = record { within = is.within; tells = record { format = Plain; good = is.good; whole = is.whole } }

plain_or_other : (text : List ℕ) (entries : List Entry) (number : ℕ) → IsPlainTrace text entries → IsOtherFirst text number ⊎ IsOtherLater text number → ⊥
plain_or_other text entries number is (inl first) = first.other (lines_in Plain (reverse entries)) (whole_begins Plain text (reverse entries) is.whole)
plain_or_other text entries number is (inr later) =
    not_refused posts text entries number (plain_recorded text entries is) (inr (record { within = is.within; bad = later_bad text number later }))

pub never_refused : (text : List ℕ) (entries : List Entry) (number : ℕ) → IsPlainTrace text entries → IsRefusedAt text number → ⊥
never_refused text entries number is (inl over) = omega (arith, over.over, is.within)
never_refused text entries number is (inr other) = plain_or_other text entries number is other.other

-- ---- by the first bytes of a text

-- bytes begin with themselves
pub themselves : (bytes : List ℕ) (room : ℕ) → IsBeginning bytes bytes room
themselves bytes room = record { rest = []; split = sym (append-nil bytes); whole = λ short. refl }

-- the text begins as its first bytes do
pub first_of_text : (text bytes more : List ℕ) (room : ℕ) → IsBeginning text bytes room → bytes ≡ first_line_1 ++ more → (tail : List ℕ) × (text ≡ first_line_1 ++ tail)
first_of_text text bytes more room b first =
    (more ++ b.rest, b.split ∙ ap (λ (t : List ℕ). t ++ b.rest) first ∙ append_assoc first_line_1 more b.rest)

-- another first line
pub other_first : (text bytes : List ℕ) (number : ℕ) → length bytes < 268435457 → IsBeginning text bytes 268435457 → ((more : List ℕ) → bytes ≡ first_line_1 ++ more → ⊥) → number ≡ 1
    → IsRefusedAt text number
other_first text bytes number short b other count =
    let same : text ≡ bytes = b.split ∙ ap (λ (t : List ℕ). bytes ++ t) (b.whole short) ∙ append-nil bytes in
    inr (record {
      within = omega (arith, ap length same, short);
      other = inl (record { other = λ more is. other more (sym same ∙ is); count = count });
    })

-- ---- what was read can be written

all_push : (es : List Entry) (e : Entry) → AllByRecursion IsWritable es → IsWritable e → AllByRecursion IsWritable (es ++ e ∷ [])
all_push [] e all here = (here, tt)
all_push (d ∷ es) e all here = (all.0, all_push es e all.1 here)

writable : (es : List Entry) → AllByRecursion IsLine1 es → AllByRecursion IsWritable (reverse es)
writable [] all = tt
writable (e ∷ es) all = rw (reverse-append (e ∷ []) es) (all_push (reverse es) e (writable es all.1) all.0.0.0)

pub plain_writable : (text : List ℕ) (entries : List Entry) → IsPlainTrace text entries → AllByRecursion IsWritable entries
plain_writable text entries is = rw (reverse-reverse entries) at (writable (reverse entries) is.good.trace.0)
