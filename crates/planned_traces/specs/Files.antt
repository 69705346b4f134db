-- Own: two files: the plan of a station, and a trace at its posts.
use Rattle.std.specs.Prelude.{◌≡◌, ◌⊎◌, ℕ, List, length, Option, Some, IsSomeAnd}
use Rattle.charge_world.specs.declared.entry.Entry.{Entry}
use Rattle.session_words.specs.declared.plan.SitePlan.{SitePlan}
use Rattle.plan_keys.specs.declared.fault.PlanFault.{PlanFault}
use Rattle.plan_keys.specs.declared.fault.PlanFault.TheVariants as plan_fault
use Rattle.site_plan.specs.Plans.{IsSitePlanOf, site_told}
use Rattle.trace_files.specs.Recordings.{IsRecorded, IsRefusedAt}
use Rattle.command_status.specs.declared.status.Status.{Status}
use Rattle.command_status.specs.declared.status.Status.TheVariants as status
use Rattle.command_status.specs.Told.{OfText}
use Rattle.planned_traces.specs.declared.recording.FilesFault.{FilesFault}
use Rattle.planned_traces.specs.declared.recording.FilesFault.TheVariants.{Unread, Plan, Line, Memory}

-- what a source tells of them: their texts, and its count of faults, which went from n to m
pub record FilesTold : Type 0 where
  pub plan : Option (List ℕ)
  pub trace : Option (List ℕ)
  pub n : ℕ
  pub m : ℕ

abbrev pub files_told : Option (List ℕ) → Option (List ℕ) → ℕ → ℕ → FilesTold
files_told plan trace n m = record { plan = plan; trace = trace; n = n; m = m }

-- the first file is this plan, and the second a trace of these entries at its posts, the oldest first
pub record AreFiles (tells : Type 0) (files : FilesTold) (plan : SitePlan) (recorded : List Entry) : Type 0 where
  pub plan_is : OfText tells files.plan (λ text. IsSitePlanOf text plan)
  pub trace_is : OfText tells files.trace (λ text. IsRecorded (length plan.post.items) text recorded)

-- the first file is a plan, and the second is refused at this line as a trace at its posts
pub record IsTraceRefused (tells : Type 0) (files : FilesTold) (number : ℕ) : Type 0 where
  pub plan : SitePlan
  pub plan_is : OfText tells files.plan (λ text. IsSitePlanOf text plan)
  pub refused : OfText tells files.trace (λ text. IsRefusedAt (length plan.post.items) text number)

-- what is wrong with them. Want of memory comes freely
abbrev pub HasFault : Type 0 → FilesTold → FilesFault → Type 0
HasFault tells files Unread = Unit {0}
HasFault tells files (Plan fault) = (fault ≡ plan_fault.Memory) ⊎ OfText tells files.plan (λ text. site_told text ≡ Some fault)
HasFault tells files (Line number) = IsTraceRefused tells files number
HasFault tells files Memory = Unit {0}

-- what is wrong with the second, read as a trace of so many posts
abbrev pub HasTraceFault : Type 0 → Option (List ℕ) → ℕ → FilesFault → Type 0
HasTraceFault tells trace posts Unread = Unit {0}
HasTraceFault tells trace posts (Plan fault) = ⊥
HasTraceFault tells trace posts (Line number) = OfText tells trace (λ text. IsRefusedAt posts text number)
HasTraceFault tells trace posts Memory = Unit {0}

-- what is told where the first has this fault: the second is read before that is judged
abbrev pub IsBehind : PlanFault → FilesFault → Type 0
IsBehind fault Unread = Unit {0}
IsBehind fault (Plan told) = told ≡ fault
IsBehind fault (Line number) = ⊥
IsBehind fault Memory = Unit {0}

-- ---- by their texts

-- the texts of the files are a plan of which this holds, and one of which that holds at the plan's posts
abbrev pub AreTexts : FilesTold → SitePlan → (ℕ → List ℕ → Type 0) → Type 0
AreTexts files plan P = IsSomeAnd files.plan (λ text. IsSitePlanOf text plan) × IsSomeAnd files.trace (P (length plan.post.items))

-- this status, and so much more, or want of memory
abbrev pub ComesWith : Status → Type 0 → Status → Type 0
ComesWith wanted More s = ((s ≡ wanted) × More) ⊎ (s ≡ status.NoMemory)
