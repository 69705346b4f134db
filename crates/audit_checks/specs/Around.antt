-- Own: what is told of an entry of a foreign trace for one of its posts, beside what is kept of the post before it and behind it, and the checks off
-- these values.
use Rattle.std.specs.Prelude.{◌≡◌, ◌↔◌, ℕ, ◌==◌, Bool, true, false, not, ◌&&◌, ◌||◌, List, ◌∷◌, Option, Some, IsTrue, is_some}
use Rattle.std.specs.List.{list_any}
use Rattle.charge_world.specs.declared.entry.Entry.{Entry}
use Rattle.charge_world.specs.declared.entry.Entry.TheVariants as entry
use Rattle.charge_world.specs.declared.ports.Order.{Order}
use Rattle.charge_world.specs.declared.ports.Order.TheVariants as order
use Rattle.session_words.specs.declared.plan.PostPlan.{PostPlan}
use Rattle.session_words.specs.declared.plan.SitePlan.{SitePlan}
use Rattle.session_words.specs.declared.word.Reply.{Reply}
use Rattle.session_words.specs.declared.word.Request.{Request}
use Rattle.session_rules.specs.Verdict.{is_accepted}
use Rattle.post_spec.specs.Course.{Talked, told_in}
use Rattle.post_spec.specs.Steps.{Reading}
use Rattle.post_spec.specs.Words.{HeardWord}
use Rattle.told_pasts.specs.Checks.{is_heard, is_act_of, opens, IsNewest, EndsBlock, PassesLimit}
use Rattle.told_pasts.specs.Course.{told_course}
use Rattle.told_pasts.specs.Reading.{IsNext}
use Rattle.told_pasts.specs.Spelling.{SpelledWatts, ToldCodecs, AreTold}
use Rattle.told_pasts.specs.Steps.{Replied, ToldStep, Sends, seen_in}
use Rattle.audit_causes.specs.Values.{IsOnly, opens_alone}
use Rattle.audit_contactors.specs.Site.{is_forgotten, is_left}
use Rattle.audit_course.specs.declared.words.Saying.{Saying}
use Rattle.audit_course.specs.declared.words.Saying.TheVariants as saying
use Rattle.audit_mandates.specs.Values.{Starts}
use Rattle.audit_posts.specs.declared.stepping.About.{About}
use Rattle.audit_posts.specs.declared.values.KeptPost.{KeptPost}
use Rattle.audit_posts.specs.Steps.{StepIs}
use Rattle.audit_posts.specs.Values.{AreOf}
use Rattle.audit_checks.specs.declared.checks.Check.{Check}
use Rattle.audit_checks.specs.declared.checks.Check.TheVariants as check
use Rattle.audit_checks.specs.declared.around.Around.{Around}

-- where the newest step is a reply, its watts are those that the post is told behind it, or aren't
abbrev pub WritesSo : PostPlan → List ToldStep → Bool → Type 0
WritesSo plan steps writes = (reading : Option Reading) (bytes : List ℕ) (taken : Bool) (request : Request) (reply : Reply) (watts : SpelledWatts) (rest : List ToldStep) (talked : Talked)
    → steps ≡ Sends reading bytes taken (Replied request reply watts) ∷ rest → (told_course plan steps).session ≡ Some talked
    → (IsTrue writes ↔ AreTold plan talked.stage.dialect (told_in (told_course plan steps).session) watts)

-- the steps of post k before an entry and behind it, which no other post has
pub record AreSteps (c : ToldCodecs) (site : SitePlan) (plan : PostPlan) (k : ℕ) (earlier : List Entry) (e : Entry) (a : About) (before later : KeptPost) (steps after : List ToldStep) : Type 0 where
  pub before_are : AreOf c plan k earlier steps before
  pub later_are : AreOf c plan k (e ∷ earlier) after later
  pub step_is : StepIs c plan k earlier steps a e after
  pub only_before : IsOnly c site earlier k plan steps
  pub only_later : IsOnly c site (e ∷ earlier) k plan after

-- what is told of an entry for post k, behind which this follows
pub record IsAround (c : ToldCodecs) (site : SitePlan) (plan : PostPlan) (k : ℕ) (earlier : List Entry) (e : Entry) (behind : List Entry) (steps after : List ToldStep) (v : Around) : Type 0 where
  pub starting_is : IsTrue v.starting ↔ Starts c plan steps
  pub starts_is : IsTrue v.starts ↔ Starts c plan after
  pub begun_is : v.begun ≡ list_any is_heard earlier
  pub ends_is : IsTrue v.ends ↔ EndsBlock behind (e ∷ earlier)
  pub last_is : IsTrue v.last ↔ IsNewest behind
  pub alone_is : v.alone ≡ opens_alone k (e ∷ earlier)
  pub writes_is : WritesSo plan after v.writes
  pub above_is : IsTrue v.above ↔ PassesLimit c site earlier e
  pub left_is : IsTrue v.left ↔ (EndsBlock behind (e ∷ earlier) × (word : HeardWord) × IsNext c.words plan.dialects.items (seen_in after) word)

-- ---- off the values

abbrev pub is_close : Order → Bool
is_close order.Close = true
is_close other = false

-- an order of post k to close
abbrev pub closes_at : ℕ → Entry → Bool
closes_at k (entry.Drove post given taken) = (post == k) && is_close given
closes_at k other = false

-- bytes of post k
abbrev pub sends_at : ℕ → Entry → Bool
sends_at k (entry.Sent post bytes taken) = post == k
sends_at k other = false

abbrev pub has_failed : Saying → Bool
has_failed (saying.Response chosen positive) = not positive
has_failed (saying.Replied request reply) = not (is_accepted reply.code)
has_failed saying.Other = false
has_failed saying.Unasked = false

abbrev pub is_good : Saying → Bool
is_good (saying.Response chosen positive) = false
is_good (saying.Replied request reply) = is_accepted reply.code
is_good saying.Other = false
is_good saying.Unasked = false

abbrev pub is_no_answer : Saying → Bool
is_no_answer (saying.Response chosen positive) = false
is_no_answer (saying.Replied request reply) = false
is_no_answer saying.Other = true
is_no_answer saying.Unasked = true

-- it is told whether the post was mandated to close before the entry, and whether it is behind it; and whether the third check fails
abbrev pub fails_by : Check → ℕ → Entry → KeptPost → KeptPost → Saying → Around → Bool → Bool → Bool → Bool
fails_by check.ClosesUnmandated k e before later s v mandated stays passes = closes_at k e && not mandated
fails_by check.FailsLive k e before later s v mandated stays passes = sends_at k e && (has_failed s && before.contactor.live)
fails_by check.PassesCause k e before later s v mandated stays passes = passes
fails_by check.ForgetsOpen k e before later s v mandated stays passes =
    (is_act_of k e && (not (opens e) && (v.begun && is_forgotten before.contactor))) || (v.ends && is_forgotten later.contactor)
fails_by check.StaysClosed k e before later s v mandated stays passes = v.ends && (later.contactor.closed && (not later.contactor.opened_in_vain && not stays))
fails_by check.PassesLimit k e before later s v mandated stays passes = v.above
fails_by check.SpellsOthers k e before later s v mandated stays passes = sends_at k e && (is_good s && (is_some later.course.session && not v.writes))
fails_by check.EndsLive k e before later s v mandated stays passes = v.last && is_left later.contactor
fails_by check.AnswersNothing k e before later s v mandated stays passes = sends_at k e && is_no_answer s
fails_by check.LeavesWord k e before later s v mandated stays passes = v.left
