-- ISO 15118-2:2014, 8.4 (the requests and replies); DIN SPEC 70121:2014: one exchange between a post and a car, in words. What the wire does to
-- them is the codecs' alone: the watts that a message can't hold are dropped.
use Rattle.std.specs.Prelude.{ℕ, Bool, if◌then◌else◌}
use Rattle.session_words.specs.declared.facts.Facts.{Facts}
use Rattle.session_words.specs.declared.plan.CarPlan.{CarPlan}
use Rattle.session_words.specs.declared.plan.PostPlan.{PostPlan}
use Rattle.session_words.specs.declared.word.Reply.{Reply}
use Rattle.session_words.specs.declared.word.Request.{Request}
use Rattle.session_rules.specs.declared.stage.Stage.{Stage}
use Rattle.session_rules.specs.Moves.{stage_behind}
use Rattle.session_rules.specs.Reply.{reply_to, waiting_reply}
use Rattle.session_rules.specs.Stages.{is_waiting, confirmed}
use Rattle.post_spec.specs.Spelled.{read_back}
use Rattle.car_rules.specs.declared.stage.CarStage.{CarStage}
use Rattle.car_rules.specs.Moves as car
use Rattle.car_rules.specs.Requests.{request_of}
use Rattle.car_spec.specs.Spelled as car_spelled

-- what both ends of a session keep
pub record Both : Type 0 where
  pub post : Stage
  pub car : CarStage

-- What an exchange depends on beside that: the post's facts as it judges the request, and as it sends a reply that waited for the contactor;
-- the watts that are shown; and whether somebody asked the car to stop.
pub record Outside : Type 0 where
  pub facts : Facts
  pub later : Facts
  pub shown : ℕ
  pub stop : Bool

-- the request of the car, as the post reads it
abbrev pub asked : CarPlan → CarStage → Request
asked plan c = car_spelled.read_back (request_of plan c)

-- what the post keeps behind it
abbrev pub judged : PostPlan → CarPlan → Both → Outside → Stage
judged post plan b x = stage_behind b.post x.facts post (asked plan b.car) x.shown

-- the reply, which waits until the contactor is closed where it is to close
abbrev pub reply : PostPlan → CarPlan → Both → Outside → Reply
reply post plan b x =
    if is_waiting (judged post plan b x).row then waiting_reply (judged post plan b x) x.later post
    else reply_to b.post x.facts post (asked plan b.car) x.shown

-- as the car reads it
abbrev pub heard : PostPlan → CarPlan → Both → Outside → Reply
heard post plan b x = read_back (reply post plan b x)

-- what both keep behind the exchange
abbrev pub behind : PostPlan → CarPlan → Both → Outside → Both
behind post plan b x = record {
  post = confirmed (judged post plan b x);
  car = car.stage_behind plan b.car (heard post plan b x) x.stop;
}
