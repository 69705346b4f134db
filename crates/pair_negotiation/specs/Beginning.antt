-- Own: what both ends of a pair whose plans match keep behind the negotiation.
use Rattle.std.specs.Prelude.{◌≡◌, ℕ, List, [], Some, None}
use Rattle.charge_world.specs.declared.offer.Dialect.{Dialect}
use Rattle.session_words.specs.declared.plan.CarPlan.{CarPlan}
use Rattle.session_words.specs.declared.plan.PostPlan.{PostPlan}
use Rattle.v2gtp_frames.specs.Reading.{behind_front}
use Rattle.session_rules.specs.declared.stage.Stage.{Stage}
use Rattle.session_rules.specs.Stages.{first_stage}
use Rattle.post_spec.specs.Codecs as post
use Rattle.station_spec.specs.States.{Response, Wording, Session, State, nothing}
use Rattle.station_spec.specs.Deciding.{decided}
use Rattle.station_spec.specs.Judging.{speaks, filled}
use Rattle.car_rules.specs.declared.stage.CarStage.{CarStage}
use Rattle.car_spec.specs.Codecs as car
use Rattle.car_spec.specs.States as car_states
use Rattle.car_spec.specs.Deciding as car_deciding
use Rattle.car_spec.specs.Judging as car_judging
use Rattle.pipe_spec.specs.Matched.{IsShared}
use Rattle.pair_words.specs.Meeting.{ArePaired, Meets}
use Rattle.pair_words.specs.Laws.{both}
use Rattle.pair_readings.specs.Codecs.{AreMutual}
use Rattle.pair_negotiation.specs.Agreeing.{IsPreferred, AgreeOnShared}

-- a post whose session has come to this stage and is to send the response, behind which it goes on
abbrev pub responding : State → Session → Stage → List ℕ → State
responding s session stage response = record s {
  part = Wording;
  session = Some (record session { stage = stage; unread = behind_front session.unread });
  agenda = record nothing { reply = Some (Response response) };
}

-- a car whose session has come to this stage and is to ask what comes first there
abbrev pub asking_first : CarPlan → car_states.State → car_states.Session → CarStage → car_states.State
asking_first plan s session stage = record s {
  part = car_states.Wording;
  session = Some (car_judging.gone_on session stage s.clock);
  agenda = record car_states.nothing { spoken = car_deciding.asking plan (Some stage) };
}

-- however the request of the car is judged, a post whose connection has this token keeps its part of the first row, and is to send the response
abbrev pub PostResponds : post.Codecs → PostPlan → CarPlan → ℕ → List ℕ → Dialect → List ℕ → Type 0
PostResponds c plan car_plan token request dialect response = (s : State) (session : Session) (judged : post.Judged) (shown : ℕ)
    → (decided plan s).session ≡ Some session → session.stage ≡ first_stage token
    → post.Judges c plan.dialects.items (speaks session.stage) request judged
    → filled plan (Some (record { judged = judged; shown = shown })) s ≡ responding (decided plan s) session (both plan car_plan token dialect []).post response

-- however the response is judged, a car that awaits it keeps its part, and is to ask for SessionSetup
abbrev pub CarBegins : car.Codecs → PostPlan → CarPlan → ℕ → Dialect → List ℕ → Type 0
CarBegins cc post_plan plan token dialect response = (s : car_states.State) (session : car_states.Session) (judged : car.Judged)
    → (car_deciding.decided plan s).session ≡ Some session → session.stage ≡ None
    → car.Judges cc plan.dialects.items (car_judging.dialect_of session.stage) response judged
    → car_judging.read plan (car_deciding.decided plan s) judged
    ≡ asking_first plan (car_deciding.decided plan s) session (both post_plan plan token dialect []).car

pub record HaveBegun (c : post.Codecs) (cc : car.Codecs) (post_plan : PostPlan) (plan : CarPlan) (token : ℕ) (request : List ℕ) : Type 0 where
  pub dialect : Dialect
  pub preferred : IsPreferred post_plan.dialects.items plan.dialects.items dialect
  pub shared : IsShared post_plan plan dialect
  pub response : List ℕ
  pub responds : PostResponds c post_plan plan token request dialect response
  pub begins : CarBegins cc post_plan plan token dialect response
  pub meets : Meets post_plan (both post_plan plan token dialect [])

abbrev pub PairsBegin : post.Codecs → car.Codecs → Type 0
PairsBegin c cc = AreMutual c cc → AgreeOnShared c cc → (post_plan : PostPlan) (plan : CarPlan) (token : ℕ) (request : List ℕ)
    → ArePaired post_plan plan → cc.Offers plan.dialects.items request → HaveBegun c cc post_plan plan token request
