-- Own: the least check of a foreign trace that fails at an entry, by what follows it.
use Rattle.std.specs.Prelude.{◌≡◌, ◌↔◌, ◌≤◌, ℕ, List, ◌∷◌, Option, Some, None, IsTrue}
use Rattle.std.specs.List.{list_any}
use Rattle.charge_world.specs.declared.entry.Entry.{Entry}
use Rattle.charge_world.specs.declared.entry.Entry.TheVariants as entry
use Rattle.session_words.specs.declared.plan.SitePlan.{SitePlan}
use Rattle.told_pasts.specs.Checks.{is_heard, IsNewest, HearingFollows, EndsBlock, PassesLimit}
use Rattle.told_pasts.specs.Faults.{FailsAt}
use Rattle.told_pasts.specs.Spelling.{ToldCodecs}
use Rattle.audit_checks.specs.declared.checks.Check.{Check}
use Rattle.audit_checks.specs.Checks.{number, FailsOf}
use Rattle.trace_audit.specs.declared.verdicts.EntryPlace.{EntryPlace}
use Rattle.trace_audit.specs.declared.verdicts.Finding.{Finding}
use Rattle.trace_audit.specs.declared.verdicts.Verdict.{Verdict}

-- the place of an entry behind which this follows
pub record IsEntryPlace (c : ToldCodecs) (site : SitePlan) (earlier : List Entry) (e : Entry) (behind : List Entry) (v : EntryPlace) : Type 0 where
  pub begun_is : v.begun ≡ list_any is_heard earlier
  pub ends_is : IsTrue v.ends ↔ EndsBlock behind (e ∷ earlier)
  pub last_is : IsTrue v.last ↔ IsNewest behind
  pub above_is : IsTrue v.above ↔ PassesLimit c site earlier e

-- the first post for which a check fails. The limit of the site is passed for each, and so for the first of all
pub record IsFirstOf (c : ToldCodecs) (site : SitePlan) (earlier : List Entry) (e : Entry) (behind : List Entry) (x : Check) (k : ℕ) : Type 0 where
  pub is : FailsOf c site earlier e behind k x
  pub first : (j : ℕ) → 1 ≤ j → FailsOf c site earlier e behind j x → k ≤ j

abbrev pub IsFirst : ToldCodecs → SitePlan → List Entry → Entry → List Entry → Check → Option ℕ → Type 0
IsFirst c site earlier e behind x None = FailsAt c site earlier e behind (number x) → ⊥
IsFirst c site earlier e behind x (Some k) = IsFirstOf c site earlier e behind x k

abbrev pub IsFirstPost : ToldCodecs → SitePlan → List Entry → Entry → List Entry → ℕ → ℕ → Type 0
IsFirstPost c site earlier e behind n k = (x : Check) × (number x ≡ n) × IsFirstOf c site earlier e behind x k

-- the least check that fails, by its number, and its first post; or none, where none fails
pub record IsLeastOf (c : ToldCodecs) (site : SitePlan) (earlier : List Entry) (e : Entry) (behind : List Entry) (n k : ℕ) : Type 0 where
  pub is : FailsAt c site earlier e behind n
  pub least : (m : ℕ) → FailsAt c site earlier e behind m → n ≤ m
  pub post : IsFirstPost c site earlier e behind n k

abbrev pub IsLeast : ToldCodecs → SitePlan → List Entry → Entry → List Entry → Option Finding → Type 0
IsLeast c site earlier e behind None = (n : ℕ) → FailsAt c site earlier e behind n → ⊥
IsLeast c site earlier e behind (Some f) = IsLeastOf c site earlier e behind f.check f.post

-- something follows, and no hearing at first
abbrev pub GoesOn : List Entry → Type 0
GoesOn behind = (IsNewest behind → ⊥) × (HearingFollows behind → ⊥)

pub record IsVerdict (c : ToldCodecs) (site : SitePlan) (earlier : List Entry) (e : Entry) (v : Verdict) : Type 0 where
  pub goes_on : (behind : List Entry) → GoesOn behind → IsLeast c site earlier e behind v.goes_on
  pub hears : (behind : List Entry) → HearingFollows behind → IsLeast c site earlier e behind v.hears
  pub ends : (behind : List Entry) → IsNewest behind → IsLeast c site earlier e behind v.ends

-- the check that fails where this entry follows, if one does
abbrev pub fault_before : Verdict → Entry → Option Finding
fault_before v (entry.Heard heard bytes) = v.hears
fault_before v entry.Lost = v.goes_on
fault_before v (entry.Sent post bytes taken) = v.goes_on
fault_before v (entry.Answered post bytes taken) = v.goes_on
fault_before v (entry.Drove post given taken) = v.goes_on
fault_before v (entry.Dialed port taken) = v.goes_on
fault_before v (entry.Ended post cause) = v.goes_on
