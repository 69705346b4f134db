-- A check fails at an entry where it fails for one of the posts.
use Rattle.std.proofs.Common.{ℕ, List, refl}
use Rattle.charge_world.specs.declared.entry.Entry.{Entry}
use Rattle.session_words.specs.declared.plan.SitePlan.{SitePlan}
use Rattle.told_pasts.specs.Faults.{FailsAt, Check1, Check2, Check3, Check4, Check5, Check6, Check7, Check8, Check9, Check10}
use Rattle.told_pasts.specs.Spelling.{ToldCodecs}
use Rattle.audit_checks.specs.declared.checks.Check.{Check}
use Rattle.audit_checks.specs.declared.checks.Check.TheVariants as check
use Rattle.audit_checks.specs.Checks.{number, FailsOf, ChecksArePosts}

of_post : (c : ToldCodecs) (site : SitePlan) (earlier : List Entry) (e : Entry) (behind : List Entry) (x : Check) → FailsAt c site earlier e behind (number x)
    → (k : ℕ) × FailsOf c site earlier e behind k x
of_post c site earlier e behind check.ClosesUnmandated (Check1 f) = (f.k, (f, refl))
of_post c site earlier e behind check.FailsLive (Check2 f) = (f.k, (f, refl))
of_post c site earlier e behind check.PassesCause (Check3 f) = (f.k, (f, refl))
of_post c site earlier e behind check.ForgetsOpen (Check4 f) = (f.k, (f, refl))
of_post c site earlier e behind check.StaysClosed (Check5 f) = (f.k, (f, refl))
of_post c site earlier e behind check.PassesLimit (Check6 f) = (0, f)
of_post c site earlier e behind check.SpellsOthers (Check7 f) = (f.k, (f, refl))
of_post c site earlier e behind check.EndsLive (Check8 f) = (f.k, (f, refl))
of_post c site earlier e behind check.AnswersNothing (Check9 f) = (f.k, (f, refl))
of_post c site earlier e behind check.LeavesWord (Check10 f) = (f.k, (f, refl))

at_entry : (c : ToldCodecs) (site : SitePlan) (earlier : List Entry) (e : Entry) (behind : List Entry) (k : ℕ) (x : Check) → FailsOf c site earlier e behind k x
    → FailsAt c site earlier e behind (number x)
at_entry c site earlier e behind k check.ClosesUnmandated f = Check1 f.0
at_entry c site earlier e behind k check.FailsLive f = Check2 f.0
at_entry c site earlier e behind k check.PassesCause f = Check3 f.0
at_entry c site earlier e behind k check.ForgetsOpen f = Check4 f.0
at_entry c site earlier e behind k check.StaysClosed f = Check5 f.0
at_entry c site earlier e behind k check.PassesLimit f = Check6 f
at_entry c site earlier e behind k check.SpellsOthers f = Check7 f.0
at_entry c site earlier e behind k check.EndsLive f = Check8 f.0
at_entry c site earlier e behind k check.AnswersNothing f = Check9 f.0
at_entry c site earlier e behind k check.LeavesWord f = Check10 f.0

pub are_posts : (c : ToldCodecs) → ChecksArePosts c
are_posts c site earlier e behind x = (of_post c site earlier e behind x, λ found. at_entry c site earlier e behind found.0 x found.1)
