-- Own: the runs of a car. Each entry follows from those before it: a hearing behind a whole block, else what the car does next.
use Rattle.std.specs.Prelude.{◌≡◌, ◌<◌, ℕ, max, Bool, true, false, not, ◌&&◌, List, [], ◌∷◌, ◌⊎◌, MatchBool}
use Rattle.charge_world.specs.declared.entry.Entry.{Entry}
use Rattle.charge_world.specs.declared.entry.Entry.TheVariants as entry
use Rattle.charge_world.specs.declared.heard.Heard.{Heard}
use Rattle.charge_world.specs.declared.ports.Order.TheVariants as order
use Rattle.charge_world.specs.Outside.{IsOfPosts}
use Rattle.session_words.specs.declared.plan.CarPlan.{CarPlan}
use Rattle.post_spec.specs.Steps.{Event, moment, event_at}
use Rattle.station_spec.specs.Blocks.{is_last, hearings, IsHearing}
use Rattle.car_spec.specs.Codecs.{Codecs}
use Rattle.car_spec.specs.Steps.{Step, Hears, Loses, Reads, Does, entry_of}
use Rattle.car_spec.specs.States.{State}
use Rattle.car_spec.specs.Acting.{state}
use Rattle.car_spec.specs.Next.{IsQuiet, MayAct, MayRead}

-- something may be heard: a whole block is done, the car goes on, nothing said that nothing more is heard, and a turn is left
pub record MayHear (plan : CarPlan) (past : List Entry) (s : State) : Type 0 where
  pub whole : IsQuiet plan s
  pub lives : s.over ≡ false
  pub goes_on : is_last past ≡ false
  pub turns_left : hearings past < plan.turns

-- what was heard on top of this past, as the car hears it
pub record IsHeard (earlier past : List Entry) (at : ℕ) (event : Event) : Type 0 where
  pub heard : Heard
  pub bytes : List ℕ
  pub of_car : IsOfPosts 1 heard.what
  pub within : IsHearing heard bytes
  pub at_is : at ≡ max (moment earlier) heard.at
  pub event_is : event ≡ event_at 1 heard.what bytes
  pub past_is : past ≡ entry.Heard heard bytes ∷ earlier

-- a past and the steps of the car in it: each follows from those before it. A word that is read makes no entry
abbrev pub IsRun : Codecs → CarPlan → List Entry → List Step → Type 0
IsRun c plan past [] = past ≡ []
IsRun c plan past (Hears at event ∷ steps) =
    (earlier : List Entry) × IsRun c plan earlier steps × MayHear plan earlier (state plan steps) × IsHeard earlier past at event
IsRun c plan past (Loses ∷ steps) =
    (earlier : List Entry) × IsRun c plan earlier steps × MayHear plan earlier (state plan steps) × (past ≡ entry.Lost ∷ earlier)
IsRun c plan past (Reads word ∷ steps) = IsRun c plan past steps × MayRead c plan (state plan steps) word
IsRun c plan past (Does act taken ∷ steps) =
    (earlier : List Entry) × IsRun c plan earlier steps × MayAct c plan (state plan steps) act taken × (past ≡ entry_of act taken ∷ earlier)

-- the order that closes a run, on top of its blocks: one Open, where it is due
abbrev pub Closes : Bool → List Entry → List Entry → Type 0
Closes due blocks past = MatchBool due ((taken : Bool) × (past ≡ entry.Drove 1 order.Open taken ∷ blocks)) (past ≡ blocks)

-- how the blocks of a run end: the car ended, a hearing was lost, the turns are used up, or nothing could be heard at all
abbrev pub IsEnded : CarPlan → List Entry → State → Type 0
IsEnded plan blocks s = (s.over ≡ true) ⊎ ((is_last blocks ≡ true) ⊎ ((hearings blocks ≡ plan.turns) ⊎ (blocks ≡ [])))

-- a whole run of a car. One that ended has given its Open already
pub record IsCarRun (c : Codecs) (plan : CarPlan) (past : List Entry) : Type 0 where
  pub blocks : List Entry
  pub steps : List Step
  pub run : IsRun c plan blocks steps
  pub whole : IsQuiet plan (state plan steps)
  pub ended : IsEnded plan blocks (state plan steps)
  pub closes : Closes ((state plan steps).live && not (state plan steps).over) blocks past

-- a run that is cut where an entry couldn't be written to the trace: the rest of the hearing is dropped, and Open follows where the
-- contactor is live
pub record IsCutRun (c : Codecs) (plan : CarPlan) (past : List Entry) : Type 0 where
  pub blocks : List Entry
  pub steps : List Step
  pub run : IsRun c plan blocks steps
  pub closes : Closes (state plan steps).live blocks past
