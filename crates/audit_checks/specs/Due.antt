-- Own: at which entries of a foreign trace a check may fail at all, whatever its posts are like.
use Rattle.std.specs.Prelude.{◌≡◌, ℕ, Bool, true, false, not, ◌&&◌, ◌||◌, List, ◌∷◌, IsTrue}
use Rattle.charge_world.specs.declared.entry.Entry.{Entry}
use Rattle.charge_world.specs.declared.entry.Entry.TheVariants as entry
use Rattle.session_words.specs.declared.plan.SitePlan.{SitePlan}
use Rattle.told_pasts.specs.Checks.{is_heard, opens, IsNewest, EndsBlock, PassesLimit}
use Rattle.told_pasts.specs.Spelling.{ToldCodecs}
use Rattle.audit_checks.specs.declared.checks.Check.{Check}
use Rattle.audit_checks.specs.declared.checks.Check.TheVariants as check
use Rattle.audit_checks.specs.Around.{is_close}
use Rattle.audit_checks.specs.Checks.{FailsOf}

-- an order to close, bytes, and an act, at whichever post
abbrev pub closes : Entry → Bool
closes (entry.Drove post given taken) = is_close given
closes other = false

abbrev pub sends : Entry → Bool
sends (entry.Sent post bytes taken) = true
sends other = false

abbrev pub acts : Entry → Bool
acts (entry.Sent post bytes taken) = true
acts (entry.Answered post bytes taken) = true
acts (entry.Drove post given taken) = true
acts (entry.Ended post cause) = true
acts other = false

-- where its block ends with an entry, the trace does, and the limit is passed behind it, or isn't
abbrev pub may_fail : Check → Entry → Bool → Bool → Bool → Bool
may_fail check.ClosesUnmandated e ends last above = closes e
may_fail check.FailsLive e ends last above = sends e
may_fail check.PassesCause e ends last above = last || (sends e || is_heard e)
may_fail check.ForgetsOpen e ends last above = ends || (acts e && not (opens e))
may_fail check.StaysClosed e ends last above = ends
may_fail check.PassesLimit e ends last above = above
may_fail check.SpellsOthers e ends last above = sends e
may_fail check.EndsLive e ends last above = last
may_fail check.AnswersNothing e ends last above = sends e
may_fail check.LeavesWord e ends last above = ends

-- at another entry it fails for no post
abbrev pub IsDue : ToldCodecs → Check → Entry → Bool → Bool → Bool → Bool → Type 0
IsDue c x e ends last above due = (site : SitePlan) (earlier behind : List Entry) (k : ℕ) → (EndsBlock behind (e ∷ earlier) → IsTrue ends) → (IsNewest behind → IsTrue last)
    → (PassesLimit c site earlier e → IsTrue above) → FailsOf c site earlier e behind k x → IsTrue due
