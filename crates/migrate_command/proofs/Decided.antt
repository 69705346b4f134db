-- What the text of the file decides.
use Rattle.std.proofs.Common.{◌≡◌, ◌⊎◌, inl, inr, ◌↔◌, ℕ, ◌<◌, List, Option, Some, None, refl, sym, subst, arith}
use Rattle.std.specs.Prelude.{IsSomeAnd}
use Rattle.charge_world.specs.declared.entry.Entry.{Entry}
use Rattle.plan_files.specs.FileTexts.{CountsFault}
use Rattle.command_status.specs.declared.status.Status.{Status}
use Rattle.command_status.specs.declared.status.Status.TheVariants as status
use Rattle.command_status.specs.FaultLines.{input_line}
use Rattle.command_status.specs.Told.{OfText}
use Rattle.migrate_command.specs.declared.reading.FileFault.{FileFault}
use Rattle.migrate_command.specs.declared.reading.FileFault.TheVariants.{Unread, Line, Memory}
use Rattle.migrate_command.specs.Formats.{IsPlainTrace, IsRefusedAt}
use Rattle.migrate_command.specs.Lines.{SinkChange, IsUntouched, TellsLine}
use Rattle.migrate_command.specs.Leaving.{HasFault, IsCut, Wrote, Refuses, LeavesBy, MigrateLeaves}
use Rattle.migrate_command.proofs.Refusals.{one_refusal, never_refused}

-- what follows from two facts of one text
both_of : (text : Option (List ℕ)) (P Q : List ℕ → Type 0) (R : Type 0) → ((t : List ℕ) → P t → Q t → R) → IsSomeAnd text P → IsSomeAnd text Q → R
both_of None P Q R f p q = absurd p
both_of (Some t) P Q R f p q = f t p q

never : (n m : ℕ) → m ≡ n → n < m → ⊥
never n m is risen = omega (arith, is, risen)

-- ---- by the status

input_told : (tells : Type 0) (s : Status) (file : Option (List ℕ)) (trace out : SinkChange) → tells → LeavesBy tells s file trace out → (s ≡ status.SourceFault → ⊥)
    → (number : ℕ) → IsSomeAnd file (λ text. IsRefusedAt text number) → ((s ≡ status.Input) × TellsLine (input_line number) out) ⊎ (s ≡ status.NoMemory)
input_told tells status.Done file trace out t h read number is =
    absurd (both_of file _ _ ⊥ (λ text a b. never_refused text h.entries number a b) (h.file_is t) is)
input_told tells status.SinkFault file trace out t h read number is =
    absurd (both_of file _ _ ⊥ (λ text a b. never_refused text h.entries number a b) (h.file_is t) is)
input_told tells status.Input file trace out t h read number is =
    let same : h.1.number ≡ number = both_of file _ _ (h.1.number ≡ number) (λ text a b. one_refusal text h.1.number number a b) (h.1.refused t) is in
    inl (refl, subst (λ (line : ℕ). TellsLine (input_line line) out) same h.1.line)
input_told tells status.SourceFault file trace out t h read number is = absurd (read refl)
input_told tells status.NoMemory file trace out t h read number is = inr refl
input_told tells _ file trace out t h read number is = absurd h

none_cut : (entries : List Entry) (trace out : SinkChange) → IsCut entries trace out → trace.m ≡ trace.n → out.m ≡ out.n → ⊥
none_cut entries trace out (inl text) traced printed = never trace.n trace.m traced text.text.risen
none_cut entries trace out (inr line) traced printed = never out.n out.m printed line.line.risen

done : (tells : Type 0) (s : Status) (file : Option (List ℕ)) (trace out : SinkChange) → tells → LeavesBy tells s file trace out → (s ≡ status.SourceFault → ⊥)
    → (entries : List Entry) → IsSomeAnd file (λ text. IsPlainTrace text entries) → trace.m ≡ trace.n → out.m ≡ out.n → (s ≡ status.Done) ⊎ (s ≡ status.NoMemory)
done tells status.Done file trace out t h read entries is traced printed = inl refl
done tells status.SinkFault file trace out t h read entries is traced printed = absurd (none_cut h.entries trace out h.wrote traced printed)
done tells status.Input file trace out t h read entries is traced printed =
    absurd (both_of file _ _ ⊥ (λ text a b. never_refused text entries h.1.number b a) (h.1.refused t) is)
done tells status.SourceFault file trace out t h read entries is traced printed = absurd (read refl)
done tells status.NoMemory file trace out t h read entries is traced printed = inr refl
done tells _ file trace out t h read entries is traced printed = absurd h

-- ---- a status that isn't `SourceFault`, where no count rose

abbrev pub IsOther : Status → Type 0
IsOther status.SourceFault = ⊥
IsOther _ = Unit {0}

other : (s : Status) (n m : ℕ) → IsOther s → (n < m → ⊥) → (s ≡ status.SourceFault) ↔ (n < m)
other s n m is same = (λ unread. absurd (subst IsOther unread is), λ less. absurd (same less))

-- ---- what was read

wrote_other : (entries : List Entry) (s : Status) (trace out : SinkChange) → Wrote entries s trace out → IsOther s
wrote_other entries status.Done trace out h = tt
wrote_other entries status.SinkFault trace out h = tt
wrote_other entries status.NoMemory trace out h = tt
wrote_other entries _ trace out h = absurd h

wrote_leaves : (tells : Type 0) (s : Status) (file : Option (List ℕ)) (entries : List Entry) (trace out : SinkChange)
    → OfText tells file (λ text. IsPlainTrace text entries) → Wrote entries s trace out → LeavesBy tells s file trace out
wrote_leaves tells status.Done file entries trace out is h = record { entries = entries; file_is = is; wrote = h }
wrote_leaves tells status.SinkFault file entries trace out is h = record { entries = entries; file_is = is; wrote = h }
wrote_leaves tells status.NoMemory file entries trace out is h = h
wrote_leaves tells _ file entries trace out is h = absurd h

all_decided : (tells : Type 0) (s : Status) (file : Option (List ℕ)) (n m : ℕ) (trace out : SinkChange) → LeavesBy tells s file trace out
    → ((s ≡ status.SourceFault) ↔ (n < m)) → MigrateLeaves tells s file n m trace out
all_decided tells s file n m trace out leaves unread = record {
  leaves = leaves;
  unread = unread;
  decided = λ t same.
      let read : s ≡ status.SourceFault → ⊥ = λ is. never n m same (unread.0 is) in
      record { input = input_told tells s file trace out t leaves read; done = done tells s file trace out t leaves read };
}

pub migrated : (tells : Type 0) (s : Status) (file : Option (List ℕ)) (n m : ℕ) (entries : List Entry) (trace out : SinkChange)
    → OfText tells file (λ text. IsPlainTrace text entries) → m ≡ n → Wrote entries s trace out → MigrateLeaves tells s file n m trace out
migrated tells s file n m entries trace out is same h =
    all_decided tells s file n m trace out (wrote_leaves tells s file entries trace out is h) (other s n m (wrote_other entries s trace out h) (never n m same))

-- ---- what was refused

refused_leaves : (tells : Type 0) (fault : FileFault) (s : Status) (file : Option (List ℕ)) (trace out : SinkChange) → HasFault tells file fault → IsUntouched trace
    → Refuses fault s out → LeavesBy tells s file trace out
refused_leaves tells Unread s file trace out has same h = subst (λ (s : Status). LeavesBy tells s file trace out) (sym h.0) (same, h.1)
refused_leaves tells (Line number) s file trace out has same h =
    subst (λ (s : Status). LeavesBy tells s file trace out) (sym h.0) (same, record { number = number; refused = has; line = h.1 })
refused_leaves tells Memory s file trace out has same h = subst (λ (s : Status). LeavesBy tells s file trace out) (sym h.0) (same, h.1)

line_is_read : (number : ℕ) → Line number ≡ Unread → ⊥
line_is_read number is = cc

memory_is_read : Memory ≡ Unread → ⊥
memory_is_read is = cc

refused_read : (fault : FileFault) (s : Status) (out : SinkChange) (n m : ℕ) → CountsFault Unread n m fault → Refuses fault s out → (s ≡ status.SourceFault) ↔ (n < m)
refused_read Unread s out n m counts h = (λ is. counts.risen.0 refl, λ less. h.0)
refused_read (Line number) s out n m counts h = other s n m (subst IsOther (sym h.0) tt) (λ less. line_is_read number (counts.risen.1 less))
refused_read Memory s out n m counts h = other s n m (subst IsOther (sym h.0) tt) (λ less. memory_is_read (counts.risen.1 less))

pub refused : (tells : Type 0) (fault : FileFault) (s : Status) (file : Option (List ℕ)) (n m : ℕ) (trace out : SinkChange) → HasFault tells file fault → IsUntouched trace
    → CountsFault Unread n m fault → Refuses fault s out → MigrateLeaves tells s file n m trace out
refused tells fault s file n m trace out has same counts h =
    all_decided tells s file n m trace out (refused_leaves tells fault s file trace out has same h) (refused_read fault s out n m counts h)
