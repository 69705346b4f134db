-- Own: the phases of a session between a post and a car whose plans match: what both ends keep, and what is under way. The session's exchanges are those
-- of `pair_words`.
use Rattle.std.specs.Prelude.{◌≡◌, ℕ, Bool, true, false, List, [], ◌++◌, Option, Some, None}
use Rattle.charge_world.specs.declared.offer.Dialect.{Dialect}
use Rattle.charge_world.specs.declared.ports.Order.{Order}
use Rattle.session_words.specs.declared.cause.EndCause.TheVariants as cause
use Rattle.session_words.specs.declared.facts.Facts.{Facts}
use Rattle.session_words.specs.declared.plan.CarPlan.{CarPlan}
use Rattle.session_words.specs.declared.plan.PostPlan.{PostPlan}
use Rattle.v2gtp_frames.specs.Frames.{frame, IsPayload}
use Rattle.session_rules.specs.Stages.{first_stage, is_waiting}
use Rattle.post_spec.specs.Codecs as post
use Rattle.station_spec.specs.States.{Said, State}
use Rattle.car_rules.specs.Requests.{request_of}
use Rattle.car_spec.specs.Codecs as car
use Rattle.car_spec.specs.Steps.{Offer, Asked}
use Rattle.car_spec.specs.States as car_states
use Rattle.pipe_spec.specs.Histories.{token}
use Rattle.pair_words.specs.Exchanges.{Both, Outside, judged, reply, behind}
use Rattle.pair_words.specs.Meeting.{Suits}
use Rattle.pair_words.specs.Laws.{both, end_of, has_ended, AreExchanges}
use Rattle.pair_negotiation.specs.Beginning.{HaveBegun}
use Rattle.matched_pairs.specs.Ends.{HasCome, Listens, IsToSend, IsGone, GoesOnBy, IsToSay, Awaits, Pauses, IsToFinish, HasEnded}

-- what is unread, and then what is under way, is this message
pub record Comes (payload unread way : List ℕ) : Type 0 where
  pub short : IsPayload payload
  pub frame_is : frame payload ≡ unread ++ way

-- nothing is under way
pub record NothingComes (to_station to_car : List ℕ) : Type 0 where
  pub station : to_station ≡ []
  pub car : to_car ≡ []

-- Before a dialect is chosen: the car is to offer its dialects; they are under way to a post that heard nothing since the car came, and then to one that
-- did; and so is the response.
pub data Begins (c : post.Codecs) (cc : car.Codecs) (post_plan : PostPlan) (plan : CarPlan) (s : State) (k : car_states.State)
    (to_station to_car : List ℕ) : Type 0 where
  IsToOffer : HasCome post_plan s token → IsToSay plan k None None Offer → NothingComes to_station to_car
      → Begins c cc post_plan plan s k to_station to_car
  Offered : (request : List ℕ) → cc.Offers plan.dialects.items request → HasCome post_plan s token → Awaits plan k None [] → Comes request [] to_station
      → to_car ≡ [] → Begins c cc post_plan plan s k to_station to_car
  Offers : (request unread : List ℕ) → cc.Offers plan.dialects.items request → Listens post_plan s (first_stage token) unread → Awaits plan k None []
      → Comes request unread to_station → to_car ≡ [] → Begins c cc post_plan plan s k to_station to_car
  Responded : (request unread : List ℕ) (begun : HaveBegun c cc post_plan plan token request)
      → Listens post_plan s (both post_plan plan token begun.dialect []).post [] → Awaits plan k None unread → to_station ≡ []
      → Comes begun.response unread to_car → Begins c cc post_plan plan s k to_station to_car

-- an exchange: what the post knew as it judged the request, and what was shown; nobody asks the car to stop
abbrev pub exchange : Facts → Facts → ℕ → Outside
exchange facts later shown = record { facts = facts; later = later; shown = shown; stop = false }

-- what the charger told suits it, whatever it tells later and whatever is shown
abbrev pub SuitsNow : PostPlan → CarPlan → Dialect → List Outside → Facts → Type 0
SuitsNow post_plan plan dialect xs facts =
    (later : Facts) (shown : ℕ) → Suits (both post_plan plan token dialect xs).car.phase (exchange facts later shown)

-- Behind these exchanges: the car is to ask, or it pauses before it asks once more; its request is under way; the post is to reply, or waits until its
-- contactor is closed; its reply is under way; the car is to end; both have ended.
pub data Talks (c : post.Codecs) (cc : car.Codecs) (post_plan : PostPlan) (plan : CarPlan) (b : Both) (s : State) (k : car_states.State)
    (to_station to_car : List ℕ) : Type 0 where
  IsToAsk : (order : Option Order) → Listens post_plan s b.post [] → IsToSay plan k (Some b.car) order (Asked b.car.dialect (request_of plan b.car))
      → NothingComes to_station to_car → Talks c cc post_plan plan b s k to_station to_car
  Rests : Listens post_plan s b.post [] → Pauses plan k b.car → NothingComes to_station to_car → Talks c cc post_plan plan b s k to_station to_car
  Asks : (request unread : List ℕ) → cc.Encodes b.car.dialect (request_of plan b.car) request → Listens post_plan s b.post unread
      → Awaits plan k (Some b.car) [] → Comes request unread to_station → to_car ≡ [] → Talks c cc post_plan plan b s k to_station to_car
  IsToReply : (facts later : Facts) (shown : ℕ) → Suits b.car.phase (exchange facts later shown)
      → IsToSend post_plan s (judged post_plan plan b (exchange facts later shown))
      (Said b.car.dialect (reply post_plan plan b (exchange facts later shown))) (end_of b.car.phase)
      → Awaits plan k (Some b.car) [] → NothingComes to_station to_car → Talks c cc post_plan plan b s k to_station to_car
  Closes : (facts : Facts) (shown : ℕ) → ((later : Facts) → Suits b.car.phase (exchange facts later shown)) → end_of b.car.phase ≡ None
      → Listens post_plan s (judged post_plan plan b (exchange facts facts shown)) []
      → is_waiting (judged post_plan plan b (exchange facts facts shown)).row ≡ true
      → Awaits plan k (Some b.car) [] → NothingComes to_station to_car → Talks c cc post_plan plan b s k to_station to_car
  Replies : (facts later : Facts) (shown : ℕ) (payload unread : List ℕ) → Suits b.car.phase (exchange facts later shown)
      → c.Encodes b.car.dialect (reply post_plan plan b (exchange facts later shown)) payload
      → GoesOnBy (end_of b.car.phase) post_plan s (behind post_plan plan b (exchange facts later shown)).post → Awaits plan k (Some b.car) unread
      → to_station ≡ [] → Comes payload unread to_car → Talks c cc post_plan plan b s k to_station to_car

-- behind SessionStop
pub data Ends (post_plan : PostPlan) (plan : CarPlan) (s : State) (k : car_states.State) (to_station to_car : List ℕ) : Type 0 where
  IsToStop : (order : Option Order) → IsGone post_plan s → IsToFinish plan k order cause.Stopped → NothingComes to_station to_car
      → Ends post_plan plan s k to_station to_car
  Stopped : IsGone post_plan s → HasEnded plan k → NothingComes to_station to_car → Ends post_plan plan s k to_station to_car

-- the words that the car has read: none yet, or the response and the replies of these exchanges
pub data Words : Type 0 where
  NoneYet : Words
  Read : (dialect : Dialect) (exchanges : List Outside) → Words

-- the phase behind these exchanges
abbrev pub TalksBy : Bool → post.Codecs → car.Codecs → PostPlan → CarPlan → Both → State → car_states.State → List ℕ → List ℕ → Type 0
TalksBy true c cc post_plan plan b s k to_station to_car = Ends post_plan plan s k to_station to_car
TalksBy false c cc post_plan plan b s k to_station to_car = Talks c cc post_plan plan b s k to_station to_car

abbrev pub IsIn : post.Codecs → car.Codecs → PostPlan → CarPlan → Words → State → car_states.State → List ℕ → List ℕ → Type 0
IsIn c cc post_plan plan NoneYet s k to_station to_car = Begins c cc post_plan plan s k to_station to_car
IsIn c cc post_plan plan (Read dialect xs) s k to_station to_car = AreExchanges post_plan plan token dialect xs
    × TalksBy (has_ended post_plan plan token dialect xs) c cc post_plan plan (both post_plan plan token dialect xs) s k to_station to_car
