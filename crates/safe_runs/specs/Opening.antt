-- Own: a contactor is ordered open again while its last order has failed, and at the end of every run.
use Rattle.std.specs.Prelude.{◌≡◌, ◌+◌, Bool, false, List, [], ◌∷◌, ◌++◌, length, Some, MatchBool}
use Rattle.charge_world.specs.declared.entry.Entry.{Entry}
use Rattle.charge_world.specs.declared.ports.Order.TheVariants as order
use Rattle.session_words.specs.declared.plan.SitePlan.{SitePlan}
use Rattle.contactor.specs.Standing.{Kind, last_order}
use Rattle.post_spec.specs.Codecs.{Codecs}
use Rattle.post_spec.specs.Contactors.{contactor_acts, live}
use Rattle.post_spec.specs.Steps.{Give, Seen, Heard, Did, seen}
use Rattle.station_spec.specs.Sharing.{Post}
use Rattle.station_spec.specs.Runs.{IsRun, AreQuiet, Closes}

-- the last order of the two failed
abbrev pub HasFailed : List Seen → Type 0
HasFailed past = (kind : Kind) × (last_order (contactor_acts past) ≡ Some (kind, false))

abbrev pub IsOpen : Seen → Type 0
IsOpen x = (taken : Bool) × (x ≡ Did (Give order.Open) taken)

-- where it failed, what follows behind the next hearing is an order to open
abbrev pub RepeatsOpen : Seen → List Seen → Type 0
RepeatsOpen x [] = Unit {0}
RepeatsOpen x (Heard at event ∷ earlier) = HasFailed earlier → IsOpen x
RepeatsOpen x (Did act taken ∷ earlier) = Unit {0}

abbrev pub OpensAgain : List Seen → Type 0
OpensAgain [] = Unit {0}
OpensAgain (x ∷ earlier) = OpensAgain earlier × RepeatsOpen x earlier

-- a past doesn't end with a hearing behind which that order is missing
abbrev pub HasOpened : List Seen → Type 0
HasOpened [] = Unit {0}
HasOpened (Heard at event ∷ earlier) = HasFailed earlier → ⊥
HasOpened (Did act taken ∷ earlier) = Unit {0}

-- in every run, of each post; and where a block is whole, that order is in it
abbrev pub RunsOpenAgain : Codecs → Type 0
RunsOpenAgain c = (site : SitePlan) (past : List Entry) (posts before : List Post) (post : Post) (behind : List Post)
    → IsRun c site past posts → posts ≡ before ++ post ∷ behind
    → OpensAgain (seen (length before + 1) past) × (AreQuiet posts → HasOpened (seen (length before + 1) past))

-- at the end of a run, whole or cut, a post that is live behind its blocks is ordered open, last of all, and no other post is
abbrev pub EndsOpen : List Seen → List Seen → Type 0
EndsOpen past blocks = MatchBool (live blocks) ((taken : Bool) × (past ≡ Did (Give order.Open) taken ∷ blocks)) (past ≡ blocks)

abbrev pub RunsEndOpen : Codecs → Type 0
RunsEndOpen c = (site : SitePlan) (past blocks : List Entry) (posts before : List Post) (post : Post) (behind : List Post)
    → IsRun c site blocks posts → Closes 1 posts blocks past → posts ≡ before ++ post ∷ behind
    → EndsOpen (seen (length before + 1) past) (seen (length before + 1) blocks)
