-- Own: the ten checks of a foreign trace, each at one post.
use Rattle.std.specs.Prelude.{◌≡◌, ◌↔◌, ℕ, List}
use Rattle.charge_world.specs.declared.entry.Entry.{Entry}
use Rattle.session_words.specs.declared.plan.SitePlan.{SitePlan}
use Rattle.told_pasts.specs.Checks as checks
use Rattle.told_pasts.specs.Faults.{FailsAt}
use Rattle.told_pasts.specs.Spelling.{ToldCodecs}
use Rattle.audit_checks.specs.declared.checks.Check.{Check}
use Rattle.audit_checks.specs.declared.checks.Check.TheVariants as check

-- its number
abbrev pub number : Check → ℕ
number check.ClosesUnmandated = 1
number check.FailsLive = 2
number check.PassesCause = 3
number check.ForgetsOpen = 4
number check.StaysClosed = 5
number check.PassesLimit = 6
number check.SpellsOthers = 7
number check.EndsLive = 8
number check.AnswersNothing = 9
number check.LeavesWord = 10

-- it fails at an entry for post k. That the limit is passed is a matter of all posts
abbrev pub FailsOf : ToldCodecs → SitePlan → List Entry → Entry → List Entry → ℕ → Check → Type 0
FailsOf c site earlier e behind k check.ClosesUnmandated = (f : checks.ClosesUnmandated c site earlier e) × (f.k ≡ k)
FailsOf c site earlier e behind k check.FailsLive = (f : checks.FailsLive c site earlier e) × (f.k ≡ k)
FailsOf c site earlier e behind k check.PassesCause = (f : checks.PassesCause c site earlier e behind) × (f.k ≡ k)
FailsOf c site earlier e behind k check.ForgetsOpen = (f : checks.ForgetsOpen earlier e behind) × (f.k ≡ k)
FailsOf c site earlier e behind k check.StaysClosed = (f : checks.StaysClosed c site earlier e behind) × (f.k ≡ k)
FailsOf c site earlier e behind k check.PassesLimit = checks.PassesLimit c site earlier e
FailsOf c site earlier e behind k check.SpellsOthers = (f : checks.SpellsOthers c site earlier e) × (f.k ≡ k)
FailsOf c site earlier e behind k check.EndsLive = (f : checks.EndsLive earlier e behind) × (f.k ≡ k)
FailsOf c site earlier e behind k check.AnswersNothing = (f : checks.AnswersNothing c site earlier e) × (f.k ≡ k)
FailsOf c site earlier e behind k check.LeavesWord = (f : checks.LeavesWord c site earlier e behind) × (f.k ≡ k)

-- a check fails at an entry exactly where it fails for one of the posts
abbrev pub ChecksArePosts : ToldCodecs → Type 0
ChecksArePosts c = (site : SitePlan) (earlier : List Entry) (e : Entry) (behind : List Entry) (x : Check)
    → FailsAt c site earlier e behind (number x) ↔ ((k : ℕ) × FailsOf c site earlier e behind k x)
