-- ISO 15118-2:2014, 8.4.3.8 (EVChargeParameter): for how many watts a word that is judged is shown a share of what the site has.
use Rattle.std.specs.Prelude.{◌≡◌, ℕ, Bool, ◌&&◌, if◌then◌else◌, Option, Some, None, unwrap_or}
use Rattle.session_words.specs.declared.code.Code.{Code}
use Rattle.session_words.specs.declared.facts.Facts.{Facts}
use Rattle.session_words.specs.declared.plan.PostPlan.{PostPlan}
use Rattle.session_words.specs.declared.word.Ask.{Ask}
use Rattle.session_rules.specs.Asks.{asks, shows_watts}
use Rattle.session_rules.specs.Verdict.{verdict, is_accepted}
use Rattle.post_spec.specs.Course.{Talked}
use Rattle.audit_course.specs.declared.words.NextWord.{NextWord}
use Rattle.audit_course.specs.declared.words.NextWord.TheVariants as next

-- a request is judged so: where it is accepted and its reply shows watts, the post asks for these
abbrev pub asked_if : Code → PostPlan → Ask → ℕ → Option ℕ
asked_if code plan asked before = if is_accepted code && shows_watts asked then Some (unwrap_or (asks plan asked) before) else None

abbrev pub asked_with : Talked → Facts → PostPlan → NextWord → Option ℕ
asked_with t facts plan (next.Negotiation chosen) = None
asked_with t facts plan (next.Asked r) = asked_if (verdict t.stage facts plan r) plan r.ask t.asked
asked_with t facts plan next.WrongSide = None
asked_with t facts plan next.Refused = None
asked_with t facts plan next.BadFrame = None

abbrev pub asked_by : Option Talked → Facts → PostPlan → Option NextWord → Option ℕ
asked_by None facts plan word = None
asked_by (Some t) facts plan None = None
asked_by (Some t) facts plan (Some word) = asked_with t facts plan word

-- a post that asks for so many is shown these watts, and none where it is shown no share
abbrev pub IsShare : (ℕ → ℕ → Type 0) → Option ℕ → ℕ → Type 0
IsShare Shows None shown = shown ≡ 0
IsShare Shows (Some asked) shown = Shows asked shown
