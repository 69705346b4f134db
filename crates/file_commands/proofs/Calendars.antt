-- A text has one calendar, and a calendar one offer at a moment.
use Rattle.std.proofs.Common.{◌≡◌, ℕ, List, [], ◌∷◌, Option, None, Result, Ok, Err, String, Global, string_bytes, refl, sym, ap, ◌∙◌, subst, inl, arith}
use Rattle.std.specs.Prelude.{IfOk, IfErr, MatchResult}
use Rattle.std.specs.List.{AllZip}
use Rattle.toml.specs.Data.{Members}
use Rattle.plan_keys.specs.Keys.{Holds, value_at}
use Rattle.plan_keys.specs.Faults.{told, text_says}
use Rattle.plan_keys.specs.declared.fault.PlanFault.{PlanFault}
use Rattle.plan_keys.specs.declared.fault.PlanFault.TheVariants.{Memory}
use Rattle.plan_files.specs.FileTexts.{Told, CountsFault}
use Rattle.plan_files.specs.Plans.{IsFaultBy}
use Rattle.plan_files.specs.declared.plans.PlanFileFault.{PlanFileFault}
use Rattle.plan_files.specs.declared.plans.PlanFileFault.TheVariants.{Unread, Refused}
use Rattle.schedules.specs.declared.power.Step.{Step}
use Rattle.schedules.specs.declared.power.Calendar.{Calendar}
use Rattle.schedules.specs.Offers.{IsCalendar, IsOffer}
use Rattle.schedules.specs.Lines.{step_lines, IsOfferText}
use Rattle.charging_files.specs.ScheduleKeys.{entry_tables}
use Rattle.charging_files.specs.ScheduleFiles.{entry_file, calendar_fault, calendar_told, IsCalendarIn, IsCalendarOf}
use Rattle.charging_files.specs.FileLines.{IsRefusedBy}
use Rattle.charging_files.proofs.Told.{none_is_some, was_read}
use Rattle.file_commands.specs.Offering.{IsOffered, IsOfferedIn}

-- ---- one calendar

abbrev step_of : ℕ → ℕ → Step
step_of start watts = record { start = start; watts = watts }

same_step : (s t : Step) → s.start ≡ t.start → s.watts ≡ t.watts → s ≡ t
same_step s t start watts = ap (λ a. step_of a s.watts) start ∙ ap (λ w. step_of t.start w) watts

same_entry : (table : Members) (s t : Step) → Holds entry_file table s → Holds entry_file table t → s ≡ t
same_entry table s t p q = same_step s t (p.0 ∙ sym q.0) (p.1.0 ∙ sym q.1.0)

same_entries : (tables : List Members) (one other : List Step) → AllZip (Holds entry_file) tables one → AllZip (Holds entry_file) tables other → one ≡ other
same_entries [] [] [] p q = refl
same_entries [] (s ∷ one) other p q = absurd p
same_entries [] [] (t ∷ other) p q = absurd q
same_entries (table ∷ tables) [] other p q = absurd p
same_entries (table ∷ tables) (s ∷ one) [] p q = absurd q
same_entries (table ∷ tables) (s ∷ one) (t ∷ other) p q =
    let step : s ≡ t = same_entry table s t p.0 q.0 in
    let rest : one ≡ other = same_entries tables one other p.1 q.1 in
    cc

same_table : (one other : Members) (said : Result Members PlanFault) → said ≡ Ok one → said ≡ Ok other → one ≡ other
same_table one other said p q = cc

same_calendar : (text : List ℕ) (one other : Calendar) → IsCalendarOf text one → IsCalendarOf text other → one.entries.items ≡ other.entries.items
same_calendar text one other p q =
    let same : p.0 ≡ q.0 = same_table p.0 q.0 (text_says text) p.1 q.1 in
    let moved : IsCalendarIn p.0 other = subst (λ (table : Members). IsCalendarIn table other) (sym same) q.3 in
    same_entries (value_at entry_tables p.0) one.entries.items other.entries.items p.3.entries moved.entries

-- ---- one offer

abbrev pub OneOffer : Type 0
OneOffer = (calendar : List Step) (moment : ℕ) (one other : List Step) → IsOffer calendar moment one → IsOffer calendar moment other → one ≡ other

pub same_lines : OneOffer → (moment : ℕ) (text one other : List ℕ) → IsOffered moment text one → IsOffered moment text other → one ≡ other
same_lines law moment text one other p q =
    let entries = same_calendar text p.calendar q.calendar p.read q.read in
    let mine = p.lines_are in
    let theirs = subst (λ (es : List Step). IsOffer es moment q.lines_are.0) (sym entries) q.lines_are.1 in
    mine.2 ∙ ap step_lines (law p.calendar.entries.items moment mine.0 q.lines_are.0 mine.1 theirs) ∙ sym q.lines_are.2

-- a text with a calendar isn't refused
pub not_refused : (moment : ℕ) (text lines key : List ℕ) → IsOffered moment text lines → IsRefusedBy calendar_told text key → ⊥
not_refused moment text lines key p r =
    let none : calendar_told text ≡ None = ap (told calendar_fault) p.read.1 ∙ p.read.2 in
    none_is_some r.fault (sym none ∙ r.first_is)

-- ---- what is read of the file

pub offered_in : (moment : ℕ) (left text : Option (List ℕ)) (calendar : Calendar) (r : Result (String Global) PlanFileFault) → IsCalendar calendar.entries.items
    → Told left text (λ t. IsCalendarOf t calendar) → IfOk r (λ lines. IsOfferText calendar.entries.items moment (string_bytes lines))
    → IfOk r (λ lines. IsOfferedIn moment left text (string_bytes lines))
offered_in moment left text calendar (Err fault) within file lines = tt
offered_in moment left text calendar (Ok text_is) within file lines =
    record { calendar = calendar; within = within; lines_are = lines; file = file }

pub memory_in : (left text : Option (List ℕ)) (r : Result (String Global) PlanFileFault) → IfErr r (λ fault. fault ≡ Refused Memory)
    → IfErr r (IsFaultBy calendar_told left text)
memory_in left text (Ok lines) h = tt
memory_in left text (Err fault) h = subst (IsFaultBy calendar_told left text) (sym h) (inl refl)

pub counts_in : (n m : ℕ) (r : Result (String Global) PlanFileFault) → m ≡ n → IfErr r (λ fault. fault ≡ Refused Memory)
    → MatchResult r (λ _. m ≡ n) (CountsFault Unread n m)
counts_in n m (Ok lines) same h = same
counts_in n m (Err fault) same h = record {
  later = omega (arith, same);
  risen = (λ is. absurd (was_read Memory (sym h ∙ is)), λ less. absurd (omega (arith, same, less)));
}
