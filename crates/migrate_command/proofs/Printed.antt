-- How far the text and the line were written.
use Rattle.std.proofs.Common.{◌≡◌, ◌⊎◌, inl, inr, ℕ, ◌<◌, List, Err, refl, sym, subst, arith}
use Rattle.std.specs.Prelude.{◌≢◌}
use Rattle.charge_world.specs.declared.entry.Entry.{Entry}
use Rattle.charge_world.specs.declared.failed.Failed.{Failed}
use Rattle.charge_world.specs.Outside.{IsFault}
use Rattle.command_status.specs.declared.status.Status.{Status}
use Rattle.command_status.specs.declared.status.Status.TheVariants as status
use Rattle.migrate_command.specs.Formats.{numbered_text}
use Rattle.migrate_command.specs.Leaving.{lines_of, Wrote}
use Rattle.migrate_command.specs.Lines.{SinkChange, lines_line, IsWhole, IsCutOff}

-- the line was printed, or it couldn't be
abbrev pub Prints : Status → ℕ → SinkChange → Type 0
Prints s lines out = ((s ≡ status.Done) × IsWhole out (lines_line lines)) ⊎ ((s ≡ status.SinkFault) × IsCutOff out (lines_line lines))

pub printed : (entries : List Entry) (s : Status) (lines : ℕ) (trace out : SinkChange) → IsWhole trace (numbered_text entries) → lines ≡ lines_of entries → Prints s lines out
    → Wrote entries s trace out
printed entries s lines trace out text count (inl line) =
    subst (λ (s : Status). Wrote entries s trace out) (sym line.0) (record { text = text; line = subst (λ (n : ℕ). IsWhole out (lines_line n)) count line.1 })
printed entries s lines trace out text count (inr line) =
    subst (λ (s : Status). Wrote entries s trace out) (sym line.0) (inr (record { text = text; line = subst (λ (n : ℕ). IsCutOff out (lines_line n)) count line.1 }))

done_or_not : status.Done ≡ status.SinkFault → ⊥
done_or_not is = cc

done_is_done : status.Done ≡ status.NoMemory → ⊥
done_is_done is = cc

pub sink_is_no_memory : status.SinkFault ≡ status.NoMemory → ⊥
sink_is_no_memory is = cc

-- with memory
pub some_memory : (s : Status) (lines : ℕ) (out : SinkChange) → Prints s lines out → s ≢ status.NoMemory
some_memory s lines out (inl line) is = done_is_done (subst (λ (x : Status). x ≡ status.NoMemory) line.0 is)
some_memory s lines out (inr line) is = sink_is_no_memory (subst (λ (x : Status). x ≡ status.NoMemory) line.0 is)

pub out_failed : (s : Status) (lines : ℕ) (out : SinkChange) → Prints s lines out → s ≡ status.SinkFault → out.n < out.m
out_failed s lines out (inl line) is = absurd (done_or_not (subst (λ (x : Status). x ≡ status.SinkFault) line.0 is))
out_failed s lines out (inr line) is = line.1.risen

pub failed : {T : Type 0} (before after : ℕ) (f : Failed) → IsFault {T = T} {E = Failed} before after (Err f) → before < after
failed before after f h = h.risen.0 refl

pub never : (n m : ℕ) → m ≡ n → n < m → ⊥
never n m is risen = omega (arith, is, risen)
