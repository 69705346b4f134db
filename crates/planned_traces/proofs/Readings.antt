-- The posts that a trace names are those that it was read for.
use Rattle.std.proofs.Common.{ℕ, List, [], ◌∷◌, ◌++◌, Vec, Global, Result, Ok, Err, refl, sym, append-nil}
use Rattle.std.specs.Prelude.{IfOk, reverse}
use Rattle.std.specs.List.{AllByRecursion}
use Rattle.std.proofs.lemmas.List.{reverse-append, reverse-reverse}
use Rattle.charge_world.specs.declared.entry.Entry.{Entry}
use Rattle.plan_files.specs.FileTexts.{IsBeginning}
use Rattle.trace_text.specs.declared.reading.LineFault.{LineFault}
use Rattle.trace_reading.specs.Readings.{IsOf}
use Rattle.trace_files.specs.Recordings.{IsRecorded}

-- bytes begin with themselves
themselves : (bytes : List ℕ) (room : ℕ) → IsBeginning bytes bytes room
themselves bytes room = record { rest = []; split = sym (append-nil bytes); whole = λ short. refl }

push_all : (P : Entry → Type 0) (es : List Entry) (e : Entry) → AllByRecursion P es → P e → AllByRecursion P (es ++ e ∷ [])
push_all P [] e all here = (here, tt)
push_all P (d ∷ es) e all here = (all.0, push_all P es e all.1 here)

turned : (P : Entry → Type 0) (es : List Entry) → AllByRecursion P es → AllByRecursion P (reverse es)
turned P [] all = tt
turned P (e ∷ es) all = rw (reverse-append (e ∷ []) es) (push_all P (reverse es) e (turned P es all.1) all.0)

recorded_of : (posts : ℕ) (text : List ℕ) (entries : List Entry) → IsRecorded posts text entries → AllByRecursion (IsOf posts) entries
recorded_of posts text entries r = rw (reverse-reverse entries) at (turned (IsOf posts) (reverse entries) r.tells.good.all_of)

pub all_of : (posts : ℕ) (bytes : List ℕ) (r : Result (Vec Entry Global) LineFault)
    → IfOk r (λ entries. (text : List ℕ) → IsBeginning text bytes 268435457 → IsRecorded posts text entries.items) → IfOk r (λ entries. AllByRecursion (IsOf posts) entries.items)
all_of posts bytes (Ok v) h = recorded_of posts bytes v.items (h bytes (themselves bytes 268435457))
all_of posts bytes (Err fault) h = tt
