-- IEC 61851-23: a contactor is ordered closed only where the session is mandated to it.
use Rattle.std.specs.Prelude.{◌≡◌, ◌+◌, Bool, List, [], ◌∷◌, ◌++◌, length}
use Rattle.charge_world.specs.declared.entry.Entry.{Entry}
use Rattle.charge_world.specs.declared.ports.Order.TheVariants as order
use Rattle.session_words.specs.declared.plan.PostPlan.{PostPlan}
use Rattle.session_words.specs.declared.plan.SitePlan.{SitePlan}
use Rattle.post_spec.specs.Codecs.{Codecs}
use Rattle.post_spec.specs.Spelled.{ReadsBack}
use Rattle.post_spec.specs.Steps.{Give, Seen, Did, seen}
use Rattle.station_spec.specs.Sharing.{Post}
use Rattle.station_spec.specs.Runs.{IsRun}
use Rattle.safe_runs.specs.Started.{MandatedByOwn}

-- before each order to close, taken or failed
abbrev pub ClosesMandated : Codecs → PostPlan → List Seen → Type 0
ClosesMandated c plan [] = Unit {0}
ClosesMandated c plan (x ∷ earlier) =
    ClosesMandated c plan earlier × ((taken : Bool) → x ≡ Did (Give order.Close) taken → MandatedByOwn c plan earlier)

-- in every run, of each post
abbrev pub RunsCloseMandated : Codecs → Type 0
RunsCloseMandated c = (site : SitePlan) (past : List Entry) (posts before : List Post) (post : Post) (behind : List Post)
    → ReadsBack c → IsRun c site past posts → posts ≡ before ++ post ∷ behind → ClosesMandated c post.plan (seen (length before + 1) past)
