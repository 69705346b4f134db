-- ISO 15118-2:2014, 8.8.4; IEC 61851-23: what each end does in the phases of a session between a post and a car whose plans match.
use Rattle.std.specs.Prelude.{◌≡◌, ℕ, true, List, [], Option, Some}
use Rattle.session_words.specs.declared.cause.EndCause.TheVariants as cause
use Rattle.session_words.specs.declared.plan.CarPlan.{CarPlan}
use Rattle.session_words.specs.declared.plan.PostPlan.{PostPlan}
use Rattle.post_spec.specs.Codecs as post
use Rattle.post_spec.specs.Steps.{Act, Give, Send, Answer, End, Reading}
use Rattle.station_spec.specs.States.{State}
use Rattle.station_spec.specs.Judging.{order_by}
use Rattle.station_spec.specs.Next.{Acts}
use Rattle.station_spec.specs.Sharing.{Shows}
use Rattle.car_spec.specs.Codecs as car
use Rattle.car_spec.specs.Next as car_next
use Rattle.car_spec.specs.States as car_states
use Rattle.car_spec.specs.Steps as car_steps
use Rattle.pipe_spec.specs.Histories.{token}
use Rattle.pair_words.specs.Exchanges.{Both}
use Rattle.pair_words.specs.Laws.{both, end_of}
use Rattle.pair_words.specs.Orders.{post_order}
use Rattle.matched_pairs.specs.Phases.{exchange, Words, NoneYet, Read, IsIn}
use Rattle.matched_pairs.specs.Moves.{IsPair, IfRead, SuitsWords}

-- the order of the exchange, or Open as the session ends; what it says; and the end, by SessionStop alone
abbrev pub IsOfExchange : PostPlan → CarPlan → Both → State → Act → Type 0
IsOfExchange post_plan plan b s (Give o) =
    (shown : ℕ) × (order_by (end_of b.car.phase) s.live (post_order post_plan plan b (exchange s.facts s.facts shown)) ≡ Some o)
IsOfExchange post_plan plan b s (Send bytes) = Unit {0}
IsOfExchange post_plan plan b s (End number) = (number ≡ 1) × (end_of b.car.phase ≡ Some cause.Stopped)
IsOfExchange post_plan plan b s (Answer bytes) = ⊥

-- before a dialect is chosen it says something, and does nothing else
abbrev pub IsOfBeginning : Act → Type 0
IsOfBeginning (Send bytes) = Unit {0}
IsOfBeginning (Give o) = ⊥
IsOfBeginning (End number) = ⊥
IsOfBeginning (Answer bytes) = ⊥

abbrev pub IsOfPhase : PostPlan → CarPlan → Words → State → Act → Type 0
IsOfPhase post_plan plan NoneYet s act = IsOfBeginning act
IsOfPhase post_plan plan (Read dialect xs) s act = IsOfExchange post_plan plan (both post_plan plan token dialect xs) s act

-- a post that is alone at a site with this limit
abbrev pub PostsAct : post.Codecs → car.Codecs → Type 0
PostsAct c cc = (post_plan : PostPlan) (plan : CarPlan) (limit : ℕ) (words : Words) (s : State) (k : car_states.State) (to_station to_car : List ℕ)
    (reading : Option Reading) (act : Act) → IsPair c cc post_plan plan → IsIn c cc post_plan plan words s k to_station to_car
    → IfRead reading (SuitsWords post_plan plan words s.facts) → Acts c post_plan (Shows limit [] []) s reading act true → IsOfPhase post_plan plan words s act

-- a car gives an order, says something, or ends, by SessionStop alone
abbrev pub IsOfCar : car_steps.Act → Type 0
IsOfCar (car_steps.Give o) = Unit {0}
IsOfCar (car_steps.Say spoken bytes) = Unit {0}
IsOfCar (car_steps.End number) = number ≡ 1
IsOfCar (car_steps.Seek datagram) = ⊥
IsOfCar (car_steps.Dial port) = ⊥

abbrev pub CarsAct : post.Codecs → car.Codecs → Type 0
CarsAct c cc = (post_plan : PostPlan) (plan : CarPlan) (words : Words) (s : State) (k : car_states.State) (to_station to_car : List ℕ) (act : car_steps.Act)
    → IsPair c cc post_plan plan → IsIn c cc post_plan plan words s k to_station to_car → car_next.MayAct cc plan k act true → IsOfCar act
