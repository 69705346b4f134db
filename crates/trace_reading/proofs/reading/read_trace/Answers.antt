use Rattle.std.proofs.Common.{◌≡◌, ℕ, List, [], ◌++◌, Vec, Global, Result, Ok, Err, refl, ◌∙◌}
use Rattle.std.specs.Prelude.{reverse, IfOk, IfErr, MatchResult}
use Rattle.charge_world.specs.declared.entry.Entry.{Entry}
use Rattle.trace_text.specs.declared.reading.LineFault.{LineFault}
use Rattle.trace_text.specs.declared.reading.LineFault.TheVariants.{BadLine, Memory}
use Rattle.trace_reading.specs.declared.format.Format.{Format}
use Rattle.trace_reading.specs.Readings.{first_line_in, Tells, IsFirstBad}
use Rattle.trace_reading.specs.Lines.{IsReadTo, IsBadAt}
use Rattle.trace_reading.proofs.Fronts.{text_is, not_bad, one_past, whole_text, bad_text}
use Rattle.trace_reading.proofs.reading.read_trace.Goals as goal

abbrev told : ℕ → Format → List ℕ → Result (Vec Entry Global) LineFault → Type 0
told posts f lines r = IfOk r (λ entries. IsReadTo f posts lines (reverse entries.items) []) × IfErr r (λ fault. (number : ℕ) → fault ≡ BadLine number → IsBadAt f posts lines number)

readable : (posts : ℕ) (f : Format) (text lines : List ℕ) (r : Result (Vec Entry Global) LineFault) → text ≡ first_line_in f ++ lines → told posts f lines r
    → (past : List Entry) → Tells posts text past → MatchResult r (λ entries. reverse entries.items ≡ past) (λ fault. fault ≡ Memory)
readable posts f text lines (Ok v) is h past t = one_past posts text (reverse v.items) past (whole_text f posts text lines (reverse v.items) is h.0) t
readable posts f text lines (Err Memory) is h past t = refl
readable posts f text lines (Err (BadLine n)) is h past t = absurd (not_bad posts text n past t (bad_text f posts text lines n is (h.1 n refl)))

bad : (posts : ℕ) (f : Format) (text lines : List ℕ) (r : Result (Vec Entry Global) LineFault) → text ≡ first_line_in f ++ lines → told posts f lines r
    → IfErr r (λ fault. (number : ℕ) → fault ≡ BadLine number → IsFirstBad posts text number)
bad posts f text lines (Ok v) is h = tt
bad posts f text lines (Err fault) is h = λ number same. bad_text f posts text lines number is (h.1 number same)

pub returns-in-None-clause-readable : goal.returns-in-None-clause-readable
returns-in-None-clause-readable c past t = absurd (c.in-None.ensures t.format _ (t.whole ∙ text_is t.format past))

pub returns-in-Some-clause-readable : goal.returns-in-Some-clause-readable
returns-in-Some-clause-readable c =
    readable c.args.posts c.in-Some.format c.args.text.now c.in-Some.lines.now c.read_lines.result c.in-Some.ensures (c.read_lines.ensures.read, c.read_lines.ensures.bad)

pub returns-in-Some-clause-bad : goal.returns-in-Some-clause-bad
returns-in-Some-clause-bad c =
    bad c.args.posts c.in-Some.format c.args.text.now c.in-Some.lines.now c.read_lines.result c.in-Some.ensures (c.read_lines.ensures.read, c.read_lines.ensures.bad)
