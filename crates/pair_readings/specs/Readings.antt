-- Own: what each end of a pair whose plans match makes of what it reads.
use Rattle.std.specs.Prelude.{◌≡◌, ℕ, if◌then◌else◌, Option, Some, None}
use Rattle.session_words.specs.declared.cause.EndCause.{EndCause}
use Rattle.session_words.specs.declared.plan.CarPlan.{CarPlan}
use Rattle.session_words.specs.declared.plan.PostPlan.{PostPlan}
use Rattle.session_rules.specs.Moves.{facts_behind}
use Rattle.session_rules.specs.Orders.{order_of}
use Rattle.session_rules.specs.Reply.{reply_to}
use Rattle.session_rules.specs.Stages.{is_waiting}
use Rattle.post_spec.specs.Codecs.{Asked}
use Rattle.v2gtp_frames.specs.Reading.{behind_front}
use Rattle.station_spec.specs.States.{Said, Agenda, Session, State, nothing}
use Rattle.station_spec.specs.Deciding.{decided}
use Rattle.station_spec.specs.Judging.{order_by, filled}
use Rattle.car_spec.specs.Codecs.{Told}
use Rattle.car_spec.specs.States as car
use Rattle.car_spec.specs.Deciding as car_deciding
use Rattle.car_spec.specs.Judging as car_judging
use Rattle.pair_words.specs.Exchanges.{Both, Outside, asked, judged, heard, behind}
use Rattle.pair_words.specs.Laws.{end_of, IsAnswered}

-- what a post is to do about a request of an exchange: its order, and its reply unless that waits; behind SessionStop its session ends
abbrev pub answers : PostPlan → CarPlan → Both → Outside → State → Agenda
answers post plan b x s = record nothing {
  order = order_by (end_of b.car.phase) s.live (order_of b.post x.facts post (asked plan b.car) x.shown);
  reply = if is_waiting (judged post plan b x).row then None else Some (Said b.post.dialect (reply_to b.post x.facts post (asked plan b.car) x.shown));
  ending = end_of b.car.phase;
}

-- what it keeps then: the session has moved, and the frame is read
pub record HasAnswered (post : PostPlan) (plan : CarPlan) (b : Both) (x : Outside) (s : State) (session : Session) (after : State) : Type 0 where
  pub new : Session
  pub session_is : after.session ≡ Some new
  pub stage : new.stage ≡ judged post plan b x
  pub since : new.since ≡ session.since
  pub unread : new.unread ≡ behind_front session.unread
  pub agenda : after.agenda ≡ answers post plan b x s
  pub facts : after.facts ≡ facts_behind b.post x.facts post (asked plan b.car)
  pub live : after.live ≡ s.live
  pub clock : after.clock ≡ s.clock

-- whatever was decided before, a post whose session keeps its part of the exchange reads the request so
abbrev pub PostsAnswer : Type 0
PostsAnswer = (post : PostPlan) (plan : CarPlan) (b : Both) (x : Outside) (s : State) (session : Session) → IsAnswered post plan b x
    → (decided post s).session ≡ Some session → session.stage ≡ b.post → (decided post s).facts ≡ x.facts
    → HasAnswered post plan b x (decided post s) session (filled post (Some (record { judged = Asked (asked plan b.car); shown = x.shown })) s)

-- what a car keeps behind the reply: it goes on to the next stage, or it has ended by SessionStop
abbrev pub after_reply : Option EndCause → PostPlan → CarPlan → Both → Outside → car.State → car.Session → car.State
after_reply None post plan b x c session = car_judging.moved plan c session b.car (heard post plan b x) (behind post plan b x).car
after_reply (Some cause) post plan b x c session = car_judging.ends c session cause

abbrev pub CarsGoOn : Type 0
CarsGoOn = (post : PostPlan) (plan : CarPlan) (b : Both) (x : Outside) (c : car.State) (session : car.Session) (at : ℕ) → IsAnswered post plan b x
    → (car_deciding.decided plan c).session ≡ Some session → session.stage ≡ Some b.car → session.moments.sent ≡ Some at → session.stop ≡ x.stop
    → car_judging.read plan (car_deciding.decided plan c) (Told (heard post plan b x))
    ≡ after_reply (end_of b.car.phase) post plan b x (car_deciding.decided plan c) session
