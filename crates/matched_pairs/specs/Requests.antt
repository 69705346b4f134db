-- ISO 15118-2:2014, 8.8.4: what a post does in a session of plans that match as it reads a request, and as it reads none.
use Rattle.std.specs.Prelude.{◌≡◌, ℕ, true, false, List, [], Option, Some, None}
use Rattle.charge_world.specs.declared.offer.Dialect.{Dialect}
use Rattle.session_words.specs.declared.cause.EndCause.{EndCause}
use Rattle.session_words.specs.declared.plan.CarPlan.{CarPlan}
use Rattle.session_words.specs.declared.plan.PostPlan.{PostPlan}
use Rattle.session_rules.specs.Stages.{first_stage}
use Rattle.post_spec.specs.Codecs as post
use Rattle.post_spec.specs.Codecs.{Asked}
use Rattle.post_spec.specs.Steps.{Act, Give, Send, Answer, End, Reading}
use Rattle.station_spec.specs.States.{Spoken, Session, State, Wording}
use Rattle.station_spec.specs.Deciding.{decided}
use Rattle.station_spec.specs.Judging.{filled}
use Rattle.station_spec.specs.Next.{Acts}
use Rattle.station_spec.specs.Sharing.{Shows}
use Rattle.car_spec.specs.Codecs as car
use Rattle.car_spec.specs.States as car_states
use Rattle.pipe_spec.specs.Histories.{token}
use Rattle.pair_words.specs.Exchanges.{Both, Outside, asked}
use Rattle.pair_words.specs.Laws.{both, has_ended, IsAnswered}
use Rattle.pair_readings.specs.Readings.{HasAnswered}
use Rattle.matched_pairs.specs.Acts.{IsOfBeginning}
use Rattle.matched_pairs.specs.Ends.{Awaits}
use Rattle.matched_pairs.specs.Phases.{NothingComes, exchange, Words, NoneYet, Read, IsIn}
use Rattle.matched_pairs.specs.Moves.{IsPair, SuitsWords}

-- without a request it says what it decided, or ends its session as it decided, and gives no order
abbrev pub SaysOrEnds : PostPlan → State → Act → Type 0
SaysOrEnds post_plan s (Send bytes) = (spoken : Spoken) × ((decided post_plan s).agenda.reply ≡ Some spoken)
SaysOrEnds post_plan s (End number) = (cause : EndCause) × (s.agenda.ending ≡ Some cause)
SaysOrEnds post_plan s (Give o) = ⊥
SaysOrEnds post_plan s (Answer bytes) = ⊥

-- a car offers its dialects to a post that has just been joined, which then says something
pub record IsOffered (s : State) (act : Act) : Type 0 where
  pub session : Session
  pub session_is : s.session ≡ Some session
  pub arrived : s.arrived ≡ None
  pub stage_is : session.stage ≡ first_stage token
  pub says : IsOfBeginning act

-- the request of the next exchange has come, and nothing else is under way
pub record IsAsked (post_plan : PostPlan) (plan : CarPlan) (dialect : Dialect) (xs : List Outside) (s : State) (k : car_states.State)
    (to_station to_car : List ℕ) : Type 0 where
  pub goes_on : has_ended post_plan plan token dialect xs ≡ false
  pub session : Session
  pub session_is : s.session ≡ Some session
  pub arrived : s.arrived ≡ None
  pub stage_is : session.stage ≡ (both post_plan plan token dialect xs).post
  pub awaits : Awaits plan k (Some (both post_plan plan token dialect xs).car) []
  pub none : NothingComes to_station to_car

abbrev pub DoesBy : Words → Option Reading → PostPlan → CarPlan → State → car_states.State → List ℕ → List ℕ → Act → Type 0
DoesBy NoneYet reading post_plan plan s k to_station to_car act = IsOffered s act
DoesBy (Read dialect xs) None post_plan plan s k to_station to_car act = SaysOrEnds post_plan s act
DoesBy (Read dialect xs) (Some reading) post_plan plan s k to_station to_car act = IsAsked post_plan plan dialect xs s k to_station to_car

-- a post that is alone at a site with this limit
abbrev pub PostsDo : post.Codecs → car.Codecs → Type 0
PostsDo c cc = (post_plan : PostPlan) (plan : CarPlan) (limit : ℕ) (words : Words) (s : State) (k : car_states.State) (to_station to_car : List ℕ)
    (reading : Option Reading) (act : Act) → IsPair c cc post_plan plan → IsIn c cc post_plan plan words s k to_station to_car
    → Acts c post_plan (Shows limit [] []) s reading act true → DoesBy words reading post_plan plan s k to_station to_car act

-- behind a request: its session keeps its part of the exchange, with what was shown
pub record HasKept (post_plan : PostPlan) (plan : CarPlan) (b : Both) (s : State) (reading : Reading) : Type 0 where
  pub session : Session
  pub session_is : s.session ≡ Some session
  pub stage_is : session.stage ≡ b.post
  pub judged_is : reading.judged ≡ Asked (asked plan b.car)
  pub answered : IsAnswered post_plan plan b (exchange s.facts s.facts reading.shown)
  pub kept : HasAnswered post_plan plan b (exchange s.facts s.facts reading.shown) (decided post_plan s) session (filled post_plan (Some reading) s)
  pub unread_is : kept.new.unread ≡ []
  pub arrived : (filled post_plan (Some reading) s).arrived ≡ None
  pub part_is : (filled post_plan (Some reading) s).part ≡ Wording

abbrev pub PostsKeep : post.Codecs → car.Codecs → Type 0
PostsKeep c cc = (post_plan : PostPlan) (plan : CarPlan) (limit : ℕ) (dialect : Dialect) (xs : List Outside) (s : State) (k : car_states.State)
    (to_station to_car : List ℕ) (reading : Reading) (act : Act) → IsPair c cc post_plan plan
    → IsIn c cc post_plan plan (Read dialect xs) s k to_station to_car → SuitsWords post_plan plan (Read dialect xs) s.facts
    → Acts c post_plan (Shows limit [] []) s (Some reading) act true → HasKept post_plan plan (both post_plan plan token dialect xs) s reading
