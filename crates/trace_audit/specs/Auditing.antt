-- Own: what is kept of a foreign trace while none of its checks failed, and the fault that was found.
use Rattle.std.specs.Prelude.{◌≡◌, ◌+◌, ◌-◌, ◌^◌, min, ℕ, Bool, List, [], ◌∷◌, ◌++◌, length, None}
use Rattle.std.specs.List.{AllByRecursion, list_any}
use Rattle.charge_world.specs.declared.entry.Entry.{Entry}
use Rattle.session_words.specs.declared.plan.PostPlan.{PostPlan}
use Rattle.session_words.specs.declared.plan.SitePlan.{SitePlan}
use Rattle.trace_reading.specs.Readings.{IsOf}
use Rattle.told_pasts.specs.Checks.{is_heard, AnswersNothing}
use Rattle.told_pasts.specs.Faults.{FailsAt}
use Rattle.told_pasts.specs.Site.{ToldPost}
use Rattle.told_pasts.specs.Spelling.{ToldCodecs}
use Rattle.audit_streams.specs.Streams.{IsEven}
use Rattle.trace_audit.specs.Seats.{IsAt, IsSeat, AreSeated, AreEven}
use Rattle.trace_audit.specs.Verdicts.{IsFirstPost, IsLeastOf, IsVerdict}
use Rattle.trace_audit.specs.declared.seats.Seat.{Seat}
use Rattle.trace_audit.specs.declared.site.AuditedSite.{AuditedSite}
use Rattle.trace_audit.specs.declared.verdicts.Verdict.{Verdict}

-- the posts before any entry
pub record AreFirst (c : ToldCodecs) (site : SitePlan) (seats : List Seat) : Type 0 where
  pub count : length seats ≡ length site.post.items
  pub each : (i : ℕ) (plan : PostPlan) (s : Seat) → IsAt site.post.items i plan → IsAt seats i s → IsSeat c plan (i + 1) [] [] s × IsEven s.post.stream

-- ---- lines that are decided: something follows them

-- x follows at first
abbrev pub Follows : Entry → List Entry → Type 0
Follows x behind = (newer : List Entry) × (behind ≡ newer ++ x ∷ [])

abbrev pub PassesBefore : ToldCodecs → SitePlan → List Entry → Entry → Entry → Type 0
PassesBefore c site earlier e x = (behind : List Entry) (n : ℕ) → Follows x behind → FailsAt c site earlier e behind n → ⊥

-- no check fails at any entry but the newest
abbrev pub IsClean : ToldCodecs → SitePlan → List Entry → Type 0
IsClean c site [] = Unit {0}
IsClean c site (e ∷ []) = Unit {0}
IsClean c site (x ∷ (e ∷ earlier)) = PassesBefore c site earlier e x × IsClean c site (e ∷ earlier)

abbrev pub capped : ℕ → ℕ
capped n = min n (2 ^ 64 - 1)

-- the first fault, whatever the trace goes on with
pub record IsFound (c : ToldCodecs) (site : SitePlan) (past : List Entry) (line check post : ℕ) : Type 0 where
  pub newer : List Entry
  pub x : Entry
  pub e : Entry
  pub earlier : List Entry
  pub past_is : past ≡ newer ++ x ∷ (e ∷ earlier)
  pub line_is : line ≡ capped (length earlier + 2)
  pub fails : (behind : List Entry) → Follows x behind → IsLeastOf c site earlier e behind check post
  pub clean : IsClean c site (e ∷ earlier)

-- this is the first post for which a check fails at a line
pub record IsOfPost (c : ToldCodecs) (site : SitePlan) (past : List Entry) (line check post : ℕ) : Type 0 where
  pub behind : List Entry
  pub e : Entry
  pub earlier : List Entry
  pub past_is : past ≡ behind ++ e ∷ earlier
  pub line_is : line ≡ length earlier + 2
  pub first : IsFirstPost c site earlier e behind check post

-- ---- the newest line

abbrev pub no_verdict : Verdict
no_verdict = record { goes_on = None; hears = None; ends = None }

-- its checks are judged, and where it answers a word, no more was sent than was asked
abbrev pub IsJudgedPast : ToldCodecs → SitePlan → List Entry → Verdict → List Seat → Type 0
IsJudgedPast c site [] v seats = (v ≡ no_verdict) × AreEven seats
IsJudgedPast c site (e ∷ earlier) v seats = IsVerdict c site earlier e v × ((AnswersNothing c site earlier e → ⊥) → AreEven seats)

-- the posts behind it; something was heard, or wasn't
pub record IsPassed (c : ToldCodecs) (site : SitePlan) (past : List Entry) (v : Verdict) (begun : Bool) (seats : List Seat) : Type 0 where
  pub posts : List ToldPost
  pub seated : AreSeated c site past posts seats
  pub of : AllByRecursion (IsOf (length site.post.items)) past
  pub begun_is : begun ≡ list_any is_heard past
  pub judged : IsJudgedPast c site past v seats

pub record IsOpen (c : ToldCodecs) (site : SitePlan) (past : List Entry) (v : AuditedSite) : Type 0 where
  pub passed : IsPassed c site past v.verdict v.begun v.seats.items
  pub clean : IsClean c site past
