-- Own: what each end of a pair keeps while the other one is to act, and while it has something to do itself.
use Rattle.std.specs.Prelude.{◌≡◌, ℕ, true, false, List, [], Option, Some, None, ◌⊎◌}
use Rattle.charge_world.specs.declared.ports.Order.{Order}
use Rattle.session_words.specs.declared.cause.EndCause.{EndCause}
use Rattle.session_words.specs.declared.plan.CarPlan.{CarPlan}
use Rattle.session_words.specs.declared.plan.PostPlan.{PostPlan}
use Rattle.session_rules.specs.declared.stage.Stage.{Stage}
use Rattle.station_spec.specs.States.{Spoken, Session, State, nothing}
use Rattle.station_spec.specs.States as post_states
use Rattle.station_spec.specs.Deciding.{decided}
use Rattle.car_rules.specs.declared.stage.CarStage.{CarStage}
use Rattle.car_spec.specs.Steps as car_steps
use Rattle.car_spec.specs.States as car
use Rattle.car_spec.specs.Deciding as car_deciding
use Rattle.pair_deeds.specs.Posts as posts
use Rattle.pair_deeds.specs.Cars as cars

-- ---- the post

-- a connection with this token began in the newest hearing, and it has nothing to do
pub record HasCome (plan : PostPlan) (s : State) (token : ℕ) : Type 0 where
  pub session : s.session ≡ None
  pub arrived : s.arrived ≡ Some token
  pub none : s.agenda ≡ nothing
  pub stays : decided plan s ≡ s

-- it decides nothing but by a word: its session has come to this stage, and this of its stream is unread
pub record Listens (plan : PostPlan) (s : State) (stage : Stage) (unread : List ℕ) : Type 0 where
  pub session : Session
  pub still : posts.IsStill plan s session
  pub arrived : s.arrived ≡ None
  pub stage_is : session.stage ≡ stage
  pub unread_is : session.unread ≡ unread

-- it is to send this, and where its session has a cause, to end it then
pub record IsToSend (plan : PostPlan) (s : State) (stage : Stage) (spoken : Spoken) (ending : Option EndCause) : Type 0 where
  pub session : Session
  pub session_is : s.session ≡ Some session
  pub arrived : s.arrived ≡ None
  pub stage_is : session.stage ≡ stage
  pub unread_is : session.unread ≡ []
  pub agenda_is : (decided plan s).agenda ≡ record nothing { reply = Some spoken; ending = ending }
  pub part_is : (decided plan s).part ≡ post_states.Wording

-- it is to end its session
pub record IsToEnd (plan : PostPlan) (s : State) (cause : EndCause) : Type 0 where
  pub arrived : s.arrived ≡ None
  pub agenda_is : s.agenda ≡ record nothing { ending = Some cause }
  pub part_is : s.part ≡ post_states.Wording

-- its session has ended
pub record IsGone (plan : PostPlan) (s : State) : Type 0 where
  pub session : s.session ≡ None
  pub arrived : s.arrived ≡ None
  pub none : s.agenda ≡ nothing
  pub stays : decided plan s ≡ s

-- behind its reply it listens at the next stage, unless that was the last one
abbrev pub GoesOnBy : Option EndCause → PostPlan → State → Stage → Type 0
GoesOnBy None plan s stage = Listens plan s stage []
GoesOnBy (Some cause) plan s stage = IsToEnd plan s cause ⊎ IsGone plan s

-- ---- the car

-- it is to give an order, where there is one, and to say this, of a session that has come to this stage
pub record IsToSay (plan : CarPlan) (k : car.State) (stage : Option CarStage) (order : Option Order) (spoken : car_steps.Spoken) : Type 0 where
  pub session : car.Session
  pub session_is : k.session ≡ Some session
  pub goes_on : k.over ≡ false
  pub stage_is : session.stage ≡ stage
  pub unread_is : session.unread ≡ []
  pub stop : session.stop ≡ false
  pub agenda_is : (car_deciding.decided plan k).agenda ≡ record car.nothing { order = order; spoken = Some spoken }
  pub part_is : (car_deciding.decided plan k).part ≡ car.Wording

-- it said something of this stage, which has no reply yet, and decides nothing but by a word. This of its stream is unread
pub record Awaits (plan : CarPlan) (k : car.State) (stage : Option CarStage) (unread : List ℕ) : Type 0 where
  pub session : car.Session
  pub still : cars.IsStill plan k session
  pub goes_on : k.over ≡ false
  pub stage_is : session.stage ≡ stage
  pub unread_is : session.unread ≡ unread
  pub stop : session.stop ≡ false
  pub sent : ℕ
  pub sent_is : session.moments.sent ≡ Some sent
  pub again : session.again ≡ None

-- it waits to ask the request of this stage once more. All that it said has its reply
pub record Pauses (plan : CarPlan) (k : car.State) (stage : CarStage) : Type 0 where
  pub session : car.Session
  pub still : cars.IsStill plan k session
  pub goes_on : k.over ≡ false
  pub stage_is : session.stage ≡ Some stage
  pub unread_is : session.unread ≡ []
  pub stop : session.stop ≡ false
  pub sent : session.moments.sent ≡ None

-- it is to give an order, where there is one, and to end by this cause
pub record IsToFinish (plan : CarPlan) (k : car.State) (order : Option Order) (cause : EndCause) : Type 0 where
  pub goes_on : k.over ≡ false
  pub agenda_is : k.agenda ≡ record car.nothing { order = order; ending = Some cause }

-- it has ended
pub record HasEnded (plan : CarPlan) (k : car.State) : Type 0 where
  pub session : k.session ≡ None
  pub over : k.over ≡ true
  pub none : k.agenda ≡ car.nothing
