-- What a trace tells can be heard again.
use Rattle.std.proofs.Common.{ℕ, List, [], ◌∷◌, ◌++◌, sym, subst}
use Rattle.std.specs.Prelude.{reverse}
use Rattle.std.specs.List.{AllByRecursion}
use Rattle.std.proofs.lemmas.List.{reverse-append, reverse-reverse}
use Rattle.charge_world.specs.declared.entry.Entry.{Entry}
use Rattle.charge_world.specs.declared.entry.Entry.TheVariants as entry
use Rattle.trace_text.specs.TraceText.{IsLine, IsLine1}
use Rattle.trace_reading.specs.declared.format.Format.{Format}
use Rattle.trace_reading.specs.declared.format.Format.TheVariants.{Plain, Numbered}
use Rattle.trace_reading.specs.Readings.{IsOf, IsGood, Tells}
use Rattle.replay_wire.specs.Replays.{CanBeHeard, AllCanBeHeard}

all_push : (P : Entry → Type 0) (es : List Entry) (e : Entry) → AllByRecursion P es → P e → AllByRecursion P (es ++ e ∷ [])
all_push P [] e all here = (here, tt)
all_push P (d ∷ es) e all here = (all.0, all_push P es e all.1 here)

all_reverse : (P : Entry → Type 0) (es : List Entry) → AllByRecursion P es → AllByRecursion P (reverse es)
all_reverse P [] all = tt
all_reverse P (e ∷ es) all = subst (AllByRecursion P) (sym (reverse-append (e ∷ []) es)) (all_push P (reverse es) e (all_reverse P es all.1) all.0)

can : (posts : ℕ) (e : Entry) → IsLine e → IsOf posts e → CanBeHeard posts e
can posts (entry.Heard heard bytes) line of = (of, line.0.0)
can posts entry.Lost line of = tt
can posts (entry.Sent post bytes taken) line of = tt
can posts (entry.Answered post bytes taken) line of = tt
can posts (entry.Drove post order taken) line of = tt
can posts (entry.Dialed port taken) line of = tt
can posts (entry.Ended post cause) line of = tt

can_all : (posts : ℕ) (past : List Entry) → AllByRecursion IsLine past → AllByRecursion (IsOf posts) past → AllCanBeHeard posts past
can_all posts [] lines of = tt
can_all posts (e ∷ past) lines of = (can posts e lines.0 of.0, can_all posts past lines.1 of.1)

plain_lines : (past : List Entry) → AllByRecursion IsLine1 past → AllByRecursion IsLine past
plain_lines [] lines = tt
plain_lines (e ∷ past) lines = (lines.0.0, plain_lines past lines.1)

lines_of : (f : Format) (posts : ℕ) (past : List Entry) → IsGood f posts past → AllByRecursion IsLine past
lines_of Plain posts past good = plain_lines past good.trace.0
lines_of Numbered posts past good = good.trace.0

pub all_can : (posts : ℕ) (text : List ℕ) (trace : List Entry) → Tells posts text (reverse trace) → AllCanBeHeard posts trace
all_can posts text trace t =
    let all = can_all posts (reverse trace) (lines_of t.format posts (reverse trace) t.good) t.good.all_of in
    subst (AllCanBeHeard posts) (reverse-reverse trace) (all_reverse (CanBeHeard posts) (reverse trace) all)
