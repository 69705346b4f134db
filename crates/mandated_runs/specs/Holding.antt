-- ISO 15118-2:2014, section 8.8.4, and IEC 61851-23: behind every block, a contactor that is closed is mandated to be. One that can't be
-- opened is the exception: its charger failed to take that order.
use Rattle.std.specs.Prelude.{◌≡◌, ◌≢◌, ◌+◌, true, false, List, [], ◌∷◌, ◌++◌, length, ◌⊎◌}
use Rattle.std.specs.List.{AllByRecursion}
use Rattle.charge_world.specs.declared.entry.Entry.{Entry}
use Rattle.charge_world.specs.declared.ports.Order.TheVariants as order
use Rattle.session_words.specs.declared.plan.PostPlan.{PostPlan}
use Rattle.session_words.specs.declared.plan.SitePlan.{SitePlan}
use Rattle.post_spec.specs.Codecs.{Codecs}
use Rattle.post_spec.specs.Contactors.{closed}
use Rattle.post_spec.specs.Spelled.{ReadsBack}
use Rattle.post_spec.specs.Steps.{Give, Seen, Heard, Did, seen}
use Rattle.station_spec.specs.Sharing.{Post}
use Rattle.station_spec.specs.Runs.{IsRun, AreQuiet, Closes}
use Rattle.safe_runs.specs.Started.{MandatedByOwn}

-- an order to open failed, behind which no Close was taken: it came after the last one
pub record CouldNotOpen (past : List Seen) : Type 0 where
  pub since : List Seen
  pub earlier : List Seen
  pub past_is : past ≡ since ++ Did (Give order.Open) false ∷ earlier
  pub no_close : AllByRecursion (λ x. x ≢ Did (Give order.Close) true) since

-- where the contactor is closed, the last order of the two that was taken being Close
abbrev pub IsHeldRightly : Codecs → PostPlan → List Seen → Type 0
IsHeldRightly c plan past = closed past ≡ true → MandatedByOwn c plan past ⊎ CouldNotOpen past

-- behind each block: a hearing ends the one before it
abbrev pub HoldsMandated : Codecs → PostPlan → List Seen → Type 0
HoldsMandated c plan [] = Unit {0}
HoldsMandated c plan (Heard at event ∷ earlier) = HoldsMandated c plan earlier × IsHeldRightly c plan earlier
HoldsMandated c plan (Did act taken ∷ earlier) = HoldsMandated c plan earlier

-- in every run, of each post; and where the last block is whole, behind it too
abbrev pub RunsHoldMandated : Codecs → Type 0
RunsHoldMandated c = (site : SitePlan) (past : List Entry) (posts before : List Post) (post : Post) (behind : List Post)
    → ReadsBack c → IsRun c site past posts → posts ≡ before ++ post ∷ behind
    → HoldsMandated c post.plan (seen (length before + 1) past)
    × (AreQuiet posts → IsHeldRightly c post.plan (seen (length before + 1) past))

-- with the orders that close a run, whole or cut, counted with its last block
abbrev pub RunsEndMandated : Codecs → Type 0
RunsEndMandated c = (site : SitePlan) (past blocks : List Entry) (posts before : List Post) (post : Post) (behind : List Post)
    → ReadsBack c → IsRun c site blocks posts → Closes 1 posts blocks past → posts ≡ before ++ post ∷ behind
    → HoldsMandated c post.plan (seen (length before + 1) past) × IsHeldRightly c post.plan (seen (length before + 1) past)
