-- Own: the acts of both ends lead from one phase of a session to the next.
use Rattle.std.specs.Prelude.{◌≡◌, ℕ, ◌≤◌, true, List, [], ◌∷◌, ◌++◌, length, Option, Some, None}
use Rattle.session_words.specs.declared.facts.Facts.{Facts}
use Rattle.session_words.specs.declared.plan.CarPlan.{CarPlan}
use Rattle.session_words.specs.declared.plan.PostPlan.{PostPlan}
use Rattle.post_spec.specs.Codecs as post
use Rattle.post_spec.specs.Steps.{Act, Reading}
use Rattle.station_spec.specs.States.{State}
use Rattle.station_spec.specs.Judging.{filled}
use Rattle.station_spec.specs.Acting.{acted}
use Rattle.station_spec.specs.Next.{IsQuiet, Acts}
use Rattle.station_spec.specs.Sharing.{Shows}
use Rattle.car_spec.specs.Codecs as car
use Rattle.car_spec.specs.Steps as car_steps
use Rattle.car_spec.specs.States as car_states
use Rattle.car_spec.specs.Deciding as car_deciding
use Rattle.car_spec.specs.Judging as car_judging
use Rattle.car_spec.specs.Acting as car_acting
use Rattle.car_spec.specs.Next as car_next
use Rattle.pipe_spec.specs.Histories.{station_says, car_says}
use Rattle.pipe_spec.specs.Counts.{IsOkReply}
use Rattle.pair_words.specs.Exchanges.{Outside}
use Rattle.pair_words.specs.Meeting.{ArePaired}
use Rattle.pair_readings.specs.Codecs.{AreMutual}
use Rattle.pair_negotiation.specs.Agreeing.{AgreeOnShared}
use Rattle.matched_pairs.specs.Phases.{SuitsNow, Words, NoneYet, Read, IsIn}

-- codecs that agree and read back what they encode, plans that match, and a car that looks for no post
pub record IsPair (c : post.Codecs) (cc : car.Codecs) (post_plan : PostPlan) (plan : CarPlan) : Type 0 where
  pub readings : AreMutual c cc
  pub agree : AgreeOnShared c cc
  pub paired : ArePaired post_plan plan
  pub joined : plan.sdp ≡ 0

-- what the charger told suits the request that comes next
abbrev pub SuitsWords : PostPlan → CarPlan → Words → Facts → Type 0
SuitsWords post_plan plan NoneYet facts = Unit {0}
SuitsWords post_plan plan (Read dialect xs) facts = SuitsNow post_plan plan dialect xs facts

-- something is asked for where a request is read, and nothing where what was decided before is done: a reply that waited for the contactor goes with that closed
abbrev pub IfRead : Option Reading → Type 0 → Type 0
IfRead None Holds = Unit {0}
IfRead (Some reading) Holds = Holds

-- 65,544: the bytes of the longest frame that is read. The post is alone at a site with this limit
abbrev pub PostsGoOn : post.Codecs → car.Codecs → Type 0
PostsGoOn c cc = (post_plan : PostPlan) (plan : CarPlan) (limit : ℕ) (words : Words) (s : State) (k : car_states.State) (to_station to_car : List ℕ)
    (reading : Option Reading) (act : Act) → IsPair c cc post_plan plan → IsIn c cc post_plan plan words s k to_station to_car
    → IfRead reading (SuitsWords post_plan plan words s.facts) → length (station_says act) ≤ 65544 → Acts c post_plan (Shows limit [] []) s reading act true
    → IsIn c cc post_plan plan words (acted act true (filled post_plan reading s)) k to_station (to_car ++ station_says act)

abbrev pub CarsGoOn : post.Codecs → car.Codecs → Type 0
CarsGoOn c cc = (post_plan : PostPlan) (plan : CarPlan) (words : Words) (s : State) (k : car_states.State) (to_station to_car : List ℕ) (act : car_steps.Act)
    → IsPair c cc post_plan plan → IsIn c cc post_plan plan words s k to_station to_car → length (car_says act) ≤ 65544 → car_next.MayAct cc plan k act true
    → IsIn c cc post_plan plan words s (car_acting.acted act true (car_deciding.decided plan k)) (to_station ++ car_says act) to_car

-- the words with one more
abbrev pub IsNext : Words → Words → Type 0
IsNext NoneYet NoneYet = ⊥
IsNext NoneYet (Read dialect xs) = xs ≡ []
IsNext (Read dialect xs) NoneYet = ⊥
IsNext (Read dialect xs) (Read other ys) = (other ≡ dialect) × (x : Outside) × (ys ≡ x ∷ xs)

-- a car that reads a word, with a station at rest: the word is of the OK class
pub record HasRead (c : post.Codecs) (cc : car.Codecs) (post_plan : PostPlan) (plan : CarPlan) (words : Words) (s : State) (k : car_states.State)
    (to_station to_car : List ℕ) (judged : car.Judged) : Type 0 where
  pub ok : IsOkReply judged
  pub behind : Words
  pub next : IsNext words behind
  pub phase : IsIn c cc post_plan plan behind s (car_judging.read plan (car_deciding.decided plan k) judged) to_station to_car

abbrev pub CarsRead : post.Codecs → car.Codecs → Type 0
CarsRead c cc = (post_plan : PostPlan) (plan : CarPlan) (words : Words) (s : State) (k : car_states.State) (to_station to_car : List ℕ) (judged : car.Judged)
    → IsPair c cc post_plan plan → IsIn c cc post_plan plan words s k to_station to_car → IsQuiet post_plan s → car_next.MayRead cc plan k judged
    → HasRead c cc post_plan plan words s k to_station to_car judged
