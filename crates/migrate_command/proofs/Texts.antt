-- The text of entries in format 2, line by line.
use Rattle.std.proofs.Common.{◌≡◌, ℕ, zero, suc, ◌+◌, ◌<◌, ◌≤◌, ◌^◌, Bool, true, false, cond, List, [], ◌∷◌, ◌++◌, length, take, drop, get_or, Option, Ok, sym, ap, subst, ◌∙◌, arith, append_assoc, append-nil, length-append}
use Rattle.std.specs.Prelude.{decimal, reverse}
use Rattle.std.specs.List.{AllByRecursion}
use Rattle.std.proofs.lemmas.Fmt.{length-decimal-le}
use Rattle.std.proofs.lemmas.List.{reverse-append, take-append-drop, take_more, length-take-le, length-reverse}
use Rattle.text_tokens.proofs.Splits.{line_cons}
use Rattle.charge_world.specs.declared.entry.Entry.{Entry}
use Rattle.charge_world.specs.declared.failed.Failed.{Failed}
use Rattle.charge_world.specs.Outside.{IsFault, Appends, AppendsSome}
use Rattle.command_status.proofs.Pieces.{appends_more, appends_front, appends_first}
use Rattle.trace_text.specs.TraceText.{words_of, line_of, numbered_line_of, IsWritable}
use Rattle.trace_text.specs.Pasts.{is_hearing, hearing_number, trace_text, numbered_after, lines_by, first_line_2}
use Rattle.trace_text.proofs.Spelling.{some_words}
use Rattle.trace_reading.proofs.Steps.{few_hearings}
use Rattle.migrate_command.specs.Formats.{numbered_text}

-- a number has at most 20 digits
pub fits : (hearing : ℕ) (e : Entry) → hearing < 2 ^ 64 → IsWritable e → length (numbered_line_of hearing e) ≤ 131221
fits hearing e small w =
    let parts = ap length (line_cons (decimal hearing) (words_of e) (some_words e)) in
    omega (
      arith,
      parts,
      length-append (decimal hearing ++ 32 ∷ []) (line_of e),
      length-append (decimal hearing) (32 ∷ []),
      length-decimal-le 20 hearing (omega arith) (omega (arith, small)) small,
      w.1,
    )

-- ---- one entry more

pub one_behind : (entries : List Entry) (i : ℕ) (e : Entry) → i < length entries → e ≡ get_or entries i e → reverse (take (i + 1) entries) ≡ e ∷ reverse (take i entries)
one_behind entries i e within is =
    ap reverse (take_more entries i e within) ∙ reverse-append (take i entries) (get_or entries i e ∷ []) ∙ ap (λ (d : Entry). d ∷ reverse (take i entries)) (sym is)

text_more : (past : List Entry) (e : Entry) → trace_text (e ∷ past) ≡ trace_text past ++ numbered_line_of (hearing_number (e ∷ past)) e
text_more past e = sym (append_assoc first_line_2 (lines_by numbered_after past) (numbered_line_of (hearing_number (e ∷ past)) e))

-- the text of a past begins with that of an earlier one
longer : (later past : List Entry) → (more : List ℕ) × (trace_text (later ++ past) ≡ trace_text past ++ more)
longer [] past = ([], sym (append-nil (trace_text past)))
longer (e ∷ later) past =
    let inner = longer later past in
    let line = numbered_line_of (hearing_number (e ∷ later ++ past)) e in
    (inner.0 ++ line, text_more (later ++ past) e ∙ ap (λ (t : List ℕ). t ++ line) inner.1 ∙ append_assoc (trace_text past) inner.0 line)

front : (entries : List Entry) (i : ℕ) → (more : List ℕ) × (numbered_text entries ≡ numbered_text (take i entries) ++ more)
front entries i =
    let split : reverse entries ≡ reverse (drop i entries) ++ reverse (take i entries) =
    ap reverse (sym (take-append-drop i entries)) ∙ reverse-append (take i entries) (drop i entries) in
    let both = longer (reverse (drop i entries)) (reverse (take i entries)) in
    (both.0, ap trace_text split ∙ both.1)

line_of_next : (entries : List Entry) (i hearing : ℕ) (e : Entry) → i < length entries → e ≡ get_or entries i e → hearing ≡ hearing_number (e ∷ reverse (take i entries))
    → numbered_text (take (i + 1) entries) ≡ numbered_text (take i entries) ++ numbered_line_of hearing e
line_of_next entries i hearing e within is number =
    ap trace_text (one_behind entries i e within is) ∙ text_more (reverse (take i entries)) e
    ∙ ap (λ (n : ℕ). numbered_text (take i entries) ++ numbered_line_of n e) (sym number)

-- a line that was written
pub one_more : (entries : List Entry) (i hearing : ℕ) (e : Entry) (before then after : Option (List ℕ)) → i < length entries → e ≡ get_or entries i e
    → hearing ≡ hearing_number (e ∷ reverse (take i entries)) → Appends before then (numbered_text (take i entries)) → Appends then after (numbered_line_of hearing e)
    → Appends before after (numbered_text (take (i + 1) entries))
one_more entries i hearing e before then after within is number earlier now =
    subst (λ (text : List ℕ). Appends before after text) (sym (line_of_next entries i hearing e within is number))
    (appends_more before then after (numbered_text (take i entries)) (numbered_line_of hearing e) earlier now)

-- a line that wasn't
pub one_cut : (entries : List Entry) (i hearing : ℕ) (e : Entry) (before then after : Option (List ℕ)) → i < length entries → e ≡ get_or entries i e
    → hearing ≡ hearing_number (e ∷ reverse (take i entries)) → Appends before then (numbered_text (take i entries)) → AppendsSome then after (numbered_line_of hearing e)
    → AppendsSome before after (numbered_text entries)
one_cut entries i hearing e before then after within is number earlier now =
    let rest = front entries (i + 1) in
    subst (λ (text : List ℕ). AppendsSome before after text) (sym rest.1)
    (appends_first before after (numbered_text (take (i + 1) entries)) rest.0
    (subst (λ (text : List ℕ). AppendsSome before after text) (sym (line_of_next entries i hearing e within is number))
    (appends_front before then after (numbered_text (take i entries)) (numbered_line_of hearing e) earlier now)))

-- the first line that wasn't
pub first_cut : (entries : List Entry) (before after : Option (List ℕ)) → AppendsSome before after first_line_2 → AppendsSome before after (numbered_text entries)
first_cut entries before after h = appends_first before after first_line_2 (lines_by numbered_after (reverse entries)) h

-- ---- hearings

pub few : (entries : List Entry) (i : ℕ) → i ≤ length entries → hearing_number (reverse (take i entries)) ≤ i
few entries i within = omega (arith, few_hearings (reverse (take i entries)), length-reverse (take i entries), length-take-le i entries within)

pub counted_here : (b : Bool) (e : Entry) (past : List Entry) (n m : ℕ) → b ≡ is_hearing e → n ≡ hearing_number past → m ≡ cond b (n + 1) n → m ≡ hearing_number (e ∷ past)
counted_here true e past n m b is now = rw (sym b) (omega (arith, is, now))
counted_here false e past n m b is now = rw (sym b) (omega (arith, is, now))

-- ---- calls

differ : false ≡ true → ⊥
differ h = cc

pub unfailed : {T : Type 0} (before after : ℕ) (answer : T) → IsFault {T = T} {E = Failed} before after (Ok answer) → after ≡ before
unfailed before after answer h =
    let none : before < after → ⊥ = λ above. differ (h.risen.1 above) in
    omega (arith, h.later)

here : (entries : List Entry) (i : ℕ) (d : Entry) → i < length entries → AllByRecursion IsWritable entries → IsWritable (get_or entries i d)
here [] i d within all = absurd (omega arith)
here (e ∷ entries) zero d within all = all.0
here (e ∷ entries) (suc i) d within all = here entries i d (omega arith) all.1

pub all_at : (entries : List Entry) (i : ℕ) (e : Entry) → i < length entries → e ≡ get_or entries i e → AllByRecursion IsWritable entries → IsWritable e
all_at entries i e within is all = subst IsWritable (sym is) (here entries i e within all)
