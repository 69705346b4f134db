-- Own: the hearings of both ends keep a session in its phases, or lead to the next one, where no end has a cause of its own.
use Rattle.std.specs.Prelude.{◌≡◌, ℕ, List, ◌++◌, Option, Some, None}
use Rattle.session_words.specs.declared.plan.CarPlan.{CarPlan}
use Rattle.session_words.specs.declared.plan.PostPlan.{PostPlan}
use Rattle.session_rules.specs.Causes.{plant_cause}
use Rattle.post_spec.specs.Codecs as post
use Rattle.post_spec.specs.Sessions.{brought}
use Rattle.post_spec.specs.Steps.{Event, Came, Bytes, Gone, Datagram, Plant, Clock, Over}
use Rattle.station_spec.specs.States.{Session, State, nothing}
use Rattle.station_spec.specs.Deciding.{repeating, timing, watch}
use Rattle.station_spec.specs.Hearing.{hearing}
use Rattle.station_spec.specs.Next.{IsQuiet}
use Rattle.car_spec.specs.Codecs as car
use Rattle.car_spec.specs.States as car_states
use Rattle.car_spec.specs.Deciding as car_deciding
use Rattle.car_spec.specs.Hearing as car_hearing
use Rattle.car_spec.specs.Next as car_next
use Rattle.matched_pairs.specs.Phases.{Words, IsIn}
use Rattle.matched_pairs.specs.Moves.{IsPair}

-- what a turn is to the post: an event of the charger, bytes, or the clock
abbrev pub IsOfPost : Event → Type 0
IsOfPost (Plant event) = Unit {0}
IsOfPost (Bytes bytes) = Unit {0}
IsOfPost Clock = Unit {0}
IsOfPost (Came token) = ⊥
IsOfPost Gone = ⊥
IsOfPost (Datagram bytes) = ⊥
IsOfPost Over = ⊥

-- and to the car: bytes, or the clock
abbrev pub IsOfCar : Event → Type 0
IsOfCar (Bytes bytes) = Unit {0}
IsOfCar Clock = Unit {0}
IsOfCar (Plant event) = ⊥
IsOfCar (Came token) = ⊥
IsOfCar Gone = ⊥
IsOfCar (Datagram bytes) = ⊥
IsOfCar Over = ⊥

-- an event of the charger is no cause
abbrev pub IsNoCause : PostPlan → Option Session → Event → State → Type 0
IsNoCause plan None event s = Unit {0}
IsNoCause plan (Some session) (Plant event) s = plant_cause (watch plan session s) event ≡ None
IsNoCause plan (Some session) other s = Unit {0}

-- behind a hearing of the post: its last order didn't fail, its deadline isn't reached, and the event is no cause
pub record IsUndisturbed (plan : PostPlan) (s : State) : Type 0 where
  pub repeats : repeating s.facts.contactor ≡ nothing
  pub times : timing s.session s.clock s.live ≡ nothing
  pub events : IsNoCause plan s.session s.event s

-- a turn comes where both have nothing to do
abbrev pub PostsHear : post.Codecs → car.Codecs → Type 0
PostsHear c cc = (post_plan : PostPlan) (plan : CarPlan) (words : Words) (s : State) (k : car_states.State) (to_station to_car rest : List ℕ) (at : ℕ)
    (event : Event)
    → IsPair c cc post_plan plan → IsIn c cc post_plan plan words s k to_station to_car → IsQuiet post_plan s → car_next.IsQuiet plan k → IsOfPost event
    → to_station ≡ brought event ++ rest → IsUndisturbed post_plan (hearing at event s)
    → IsIn c cc post_plan plan words (hearing at event s) k rest to_car

-- the post has nothing to do, or is to reply
abbrev pub CarsHear : post.Codecs → car.Codecs → Type 0
CarsHear c cc = (post_plan : PostPlan) (plan : CarPlan) (words : Words) (s : State) (k : car_states.State) (to_station to_car rest : List ℕ) (at : ℕ)
    (event : Event)
    → IsPair c cc post_plan plan → IsIn c cc post_plan plan words s k to_station to_car → car_next.IsQuiet plan k → IsOfCar event
    → to_car ≡ brought event ++ rest → car_deciding.timing plan (car_hearing.hearing at event k) ≡ car_states.nothing
    → IsIn c cc post_plan plan words s (car_hearing.hearing at event k) to_station rest
