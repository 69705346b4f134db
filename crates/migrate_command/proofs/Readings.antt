-- What was read of the first bytes of a text.
use Rattle.std.proofs.Common.{◌≡◌, ℕ, ◌<◌, ◌≤◌, List, ◌++◌, length, Vec, Global, Result, Ok, Err, arith, length-append, ap, inl, inr}
use Rattle.std.specs.Prelude.{◌≢◌, IfOk, IfErr}
use Rattle.std.specs.List.{AllByRecursion}
use Rattle.charge_world.specs.declared.entry.Entry.{Entry}
use Rattle.plan_files.specs.FileTexts.{IsBeginning}
use Rattle.trace_text.specs.declared.reading.LineFault.{LineFault}
use Rattle.trace_text.specs.declared.reading.LineFault.TheVariants.{BadLine}
use Rattle.trace_text.specs.Pasts.{first_line_1}
use Rattle.trace_text.specs.TraceText.{IsWritable}
use Rattle.trace_files.specs.Recordings.{IsRecorded}
use Rattle.trace_files.specs.Recordings as recordings
use Rattle.migrate_command.specs.Formats.{posts, IsPlainTrace, IsRefusedAt}
use Rattle.migrate_command.proofs.Refusals.{recorded_plain, refused_plain, themselves, first_of_text, other_first, plain_writable}

-- what is told of each text that begins with these bytes
abbrev pub Read : List ℕ → (List ℕ → List Entry → Type 0) → Result (Vec Entry Global) LineFault → Type 0
Read bytes P r = IfOk r (λ entries. (text : List ℕ) → IsBeginning text bytes 268435457 → P text entries.items)

abbrev pub Refused : List ℕ → (List ℕ → ℕ → Type 0) → Result (Vec Entry Global) LineFault → Type 0
Refused bytes P r = IfErr r (λ fault. (text : List ℕ) (number : ℕ) → IsBeginning text bytes 268435457 → fault ≡ BadLine number → P text number)

-- ---- where they begin with the first line of format 1

pub read : (r : Result (Vec Entry Global) LineFault) (bytes more : List ℕ) → bytes ≡ first_line_1 ++ more → Read bytes (IsRecorded posts) r → Read bytes IsPlainTrace r
read (Ok v) bytes more first h = λ text b. let tail = first_of_text text bytes more 268435457 b first in recorded_plain text tail.0 v.items tail.1 (h text b)
read (Err fault) bytes more first h = tt

pub refused : (r : Result (Vec Entry Global) LineFault) (bytes more : List ℕ) → bytes ≡ first_line_1 ++ more → Refused bytes (recordings.IsRefusedAt posts) r → Refused bytes IsRefusedAt r
refused (Ok v) bytes more first h = tt
refused (Err fault) bytes more first h =
    λ text number b is. let tail = first_of_text text bytes more 268435457 b first in refused_plain text tail.0 number tail.1 (h text number b is)

pub writable : (r : Result (Vec Entry Global) LineFault) (bytes : List ℕ) → Read bytes IsPlainTrace r → IfOk r (λ entries. AllByRecursion IsWritable entries.items)
writable (Ok v) bytes h = plain_writable bytes v.items (h bytes (themselves bytes 268435457))
writable (Err fault) bytes h = tt

-- ---- where they are more than a trace has

pub read_over : (r : Result (Vec Entry Global) LineFault) (bytes : List ℕ) → 268435456 < length bytes → Read bytes (IsRecorded posts) r → Read bytes IsPlainTrace r
read_over (Ok v) bytes over h = absurd (omega (arith, over, (h bytes (themselves bytes 268435457)).within))
read_over (Err fault) bytes over h = tt

still_over : (text bytes : List ℕ) (number : ℕ) → 268435456 < length bytes → IsBeginning text bytes 268435457 → recordings.IsRefusedAt posts text number → IsRefusedAt text number
still_over text bytes number over b (inl passed) = inl passed
still_over text bytes number over b (inr bad) = absurd (omega (arith, over, bad.within, ap length b.split, length-append bytes b.rest))

pub refused_over : (r : Result (Vec Entry Global) LineFault) (bytes : List ℕ) → 268435456 < length bytes → Refused bytes (recordings.IsRefusedAt posts) r → Refused bytes IsRefusedAt r
refused_over (Ok v) bytes over h = tt
refused_over (Err fault) bytes over h = λ text number b is. still_over text bytes number over b (h text number b is)

-- ---- where they are a text with another first line

same_line : (m n : ℕ) → BadLine m ≡ BadLine n → n ≡ m
same_line m n h = cc

pub refused_first : (bytes : List ℕ) → length bytes ≤ 268435456 → ((more : List ℕ) → bytes ≢ first_line_1 ++ more)
    → (text : List ℕ) (number : ℕ) → IsBeginning text bytes 268435457 → BadLine 1 ≡ BadLine number → IsRefusedAt text number
refused_first bytes short other text number b is = other_first text bytes number (omega (arith, short)) b other (same_line 1 number is)
