-- How a car goes on behind a word that it reads in the phases of a session.
use Rattle.std.proofs.Common.{◌≡◌, ℕ, Bool, true, false, List, [], Option, Some, None, refl, ap, subst, ◌∙◌}
use Rattle.session_words.specs.declared.facts.Facts.{Facts}
use Rattle.session_words.specs.declared.plan.CarPlan.{CarPlan}
use Rattle.session_words.specs.declared.plan.PostPlan.{PostPlan}
use Rattle.v2gtp_frames.specs.Frames.{frame, IsPayload}
use Rattle.v2gtp_frames.specs.Reading.{behind_front}
use Rattle.post_spec.specs.Codecs as post
use Rattle.station_spec.specs.States.{State}
use Rattle.car_rules.specs.declared.stage.CarPhase.TheVariants as phase
use Rattle.car_rules.specs.declared.stage.CarStage.{CarStage}
use Rattle.car_spec.specs.Codecs as car
use Rattle.car_spec.specs.Codecs.{Told}
use Rattle.car_spec.specs.States as car_states
use Rattle.car_spec.specs.Deciding.{decided}
use Rattle.car_spec.specs.Judging.{dialect_of, read}
use Rattle.car_spec.specs.Next.{MayRead}
use Rattle.pipe_spec.specs.Histories.{token}
use Rattle.pair_words.specs.Exchanges.{Both, Outside, reply, heard, behind}
use Rattle.pair_words.specs.Meeting.{Meets, Suits}
use Rattle.pair_words.specs.Laws.{both, end_of, has_ended, IsAnswered}
use Rattle.pair_words.proofs.Exchanges.{exchanges_go_well}
use Rattle.pair_words.proofs.Sessions.{they_meet}
use Rattle.pair_readings.specs.Readings.{after_reply}
use Rattle.pair_readings.proofs.Codecs.{replies_are_heard}
use Rattle.pair_readings.proofs.Readings as readings
use Rattle.pair_negotiation.specs.Beginning.{asking_first, HaveBegun}
use Rattle.pair_deeds.specs.Cars.{IsStill}
use Rattle.pair_deeds.proofs.Cars.{cars_read_words}
use Rattle.matched_pairs.specs.Ends.{Awaits, GoesOnBy}
use Rattle.matched_pairs.specs.Phases.{Comes, NothingComes, Begins, IsToOffer, Offered, Offers, Responded, exchange, Talks, IsToAsk, Rests, Asks, IsToReply, Closes, Replies, Ends, IsToStop, Stopped, Words, NoneYet, Read, TalksBy, IsIn}
use Rattle.matched_pairs.specs.Moves.{IsPair}
use Rattle.matched_pairs.proofs.Messages.{Front, OnItsWay, Whole, front, empty_waits, nothing_left}
use Rattle.matched_pairs.proofs.CarPhases.{same_session, awaits_reads, pauses_reads, ended_reads, say_reads, finish_reads}

-- the response: a dialect was chosen, and SessionSetup comes first
pub record ReadsChoice (plan : CarPlan) (k : car_states.State) (w : car.Judged) : Type 0 where
  pub session : car_states.Session
  pub session_is : k.session ≡ Some session
  pub unstaged : session.stage ≡ None
  pub stage : CarStage
  pub first : stage.phase ≡ phase.SettingUp
  pub is : read plan (decided plan k) w ≡ asking_first plan (decided plan k) session stage

-- the reply of an exchange, and nothing else is under way
pub record ReadsReply (c : post.Codecs) (post_plan : PostPlan) (plan : CarPlan) (s : State) (k : car_states.State) (to_station to_car : List ℕ) (w : car.Judged) : Type 0 where
  pub b : Both
  pub x : Outside
  pub session : car_states.Session
  pub session_is : k.session ≡ Some session
  pub stage_is : session.stage ≡ Some b.car
  pub again : session.again ≡ None
  pub payload : List ℕ
  pub encodes : c.Encodes b.car.dialect (reply post_plan plan b x) payload
  pub unread_is : session.unread ≡ frame payload
  pub left : behind_front session.unread ≡ []
  pub none : NothingComes to_station to_car
  pub meets : Meets post_plan b
  pub answered : IsAnswered post_plan plan b x
  pub goes : GoesOnBy (end_of b.car.phase) post_plan s (behind post_plan plan b x).post
  pub word : w ≡ Told (heard post_plan plan b x)
  pub is : read plan (decided plan k) w ≡ after_reply (end_of b.car.phase) post_plan plan b x (decided plan k) session

pub data IsReadSo (c : post.Codecs) (post_plan : PostPlan) (plan : CarPlan) (s : State) (k : car_states.State) (to_station to_car : List ℕ) (w : car.Judged) : Type 0 where
  AChoice : ReadsChoice plan k w → IsReadSo c post_plan plan s k to_station to_car w
  AReply : ReadsReply c post_plan plan s k to_station to_car w → IsReadSo c post_plan plan s k to_station to_car w

chooses : (c : post.Codecs) (cc : car.Codecs) (post_plan : PostPlan) (plan : CarPlan) (k : car_states.State) (w : car.Judged) (request unread : List ℕ) (begun : HaveBegun c cc post_plan plan token request)
    → (a : Awaits plan k None unread) → IsPayload begun.response → unread ≡ frame begun.response → MayRead cc plan k w → ReadsChoice plan k w
chooses c cc post_plan plan k w request unread begun a short u i =
    let still : IsStill plan k a.session = a.still in
    record {
      session = a.session;
      session_is = still.session_is;
      unstaged = a.stage_is;
      stage = (both post_plan plan token begun.dialect []).car;
      first = refl;
      is = begun.begins k a.session w (same_session plan k ∙ still.session_is) a.stage_is
          (cars_read_words cc plan k a.session begun.response w a.still (a.unread_is ∙ u) short i);
    }

response_front : (c : post.Codecs) (cc : car.Codecs) (post_plan : PostPlan) (plan : CarPlan) (k : car_states.State) (to_car : List ℕ) (w : car.Judged) (request unread : List ℕ)
    (begun : HaveBegun c cc post_plan plan token request) → Awaits plan k None unread → Comes begun.response unread to_car → Front begun.response unread to_car → MayRead cc plan k w → ReadsChoice plan k w
response_front c cc post_plan plan k to_car w request unread begun a comes (OnItsWay f) i = absurd (awaits_reads cc plan k None unread w a f i)
response_front c cc post_plan plan k to_car w request unread begun a comes (Whole u f) i = chooses c cc post_plan plan k w request unread begun a comes.short u i

begins_so : (c : post.Codecs) (cc : car.Codecs) (post_plan : PostPlan) (plan : CarPlan) (s : State) (k : car_states.State) (to_station to_car : List ℕ) (w : car.Judged)
    → Begins c cc post_plan plan s k to_station to_car → MayRead cc plan k w → ReadsChoice plan k w
begins_so c cc post_plan plan s k to_station to_car w (IsToOffer come say none) i = absurd (say_reads cc plan k None None _ w say i)
begins_so c cc post_plan plan s k to_station to_car w (Offered request offers come a comes e) i = absurd (awaits_reads cc plan k None [] w a empty_waits i)
begins_so c cc post_plan plan s k to_station to_car w (Offers request unread offers l a comes e) i = absurd (awaits_reads cc plan k None [] w a empty_waits i)
begins_so c cc post_plan plan s k to_station to_car w (Responded request unread begun l a e comes) i =
    response_front c cc post_plan plan k to_car w request unread begun a comes (front begun.response unread to_car comes) i

replies_so : (c : post.Codecs) (cc : car.Codecs) (post_plan : PostPlan) (plan : CarPlan) (b : Both) (s : State) (k : car_states.State) (to_station to_car : List ℕ) (w : car.Judged) (facts later : Facts) (shown : ℕ)
    (payload unread : List ℕ) → IsPair c cc post_plan plan → Meets post_plan b → Suits b.car.phase (exchange facts later shown)
    → c.Encodes b.car.dialect (reply post_plan plan b (exchange facts later shown)) payload
    → GoesOnBy (end_of b.car.phase) post_plan s (behind post_plan plan b (exchange facts later shown)).post → (a : Awaits plan k (Some b.car) unread) → NothingComes to_station to_car
    → IsPayload payload → unread ≡ frame payload → MayRead cc plan k w → ReadsReply c post_plan plan s k to_station to_car w
replies_so c cc post_plan plan b s k to_station to_car w facts later shown payload unread p meets suits encodes goes a none short u i =
    let still : IsStill plan k a.session = a.still in
    let own : a.session.unread ≡ frame payload = a.unread_is ∙ u in
    let j : car.Judges cc plan.dialects.items (dialect_of a.session.stage) payload w = cars_read_words cc plan k a.session payload w a.still own short i in
    let k_of : car.Judges cc plan.dialects.items (Some b.car.dialect) payload w =
    subst (λ (o : Option CarStage). car.Judges cc plan.dialects.items (dialect_of o) payload w) a.stage_is j in
    let word : w ≡ Told (heard post_plan plan b (exchange facts later shown)) =
    replies_are_heard c cc p.readings plan.dialects.items b.car.dialect (reply post_plan plan b (exchange facts later shown)) payload w encodes k_of in
    let answered : IsAnswered post_plan plan b (exchange facts later shown) = exchanges_go_well post_plan plan b (exchange facts later shown) p.paired meets suits in
    record {
      b = b;
      x = exchange facts later shown;
      session = a.session;
      session_is = still.session_is;
      stage_is = a.stage_is;
      again = a.again;
      payload = payload;
      encodes = encodes;
      unread_is = own;
      left = nothing_left payload a.session.unread own short;
      none = none;
      meets = meets;
      answered = answered;
      goes = goes;
      word = word;
      is = ap (λ (v : car.Judged). read plan (decided plan k) v) word
          ∙ readings.cars_go_on post_plan plan b (exchange facts later shown) k a.session a.sent answered (same_session plan k ∙ still.session_is) a.stage_is a.sent_is a.stop;
    }

reply_front : (c : post.Codecs) (cc : car.Codecs) (post_plan : PostPlan) (plan : CarPlan) (b : Both) (s : State) (k : car_states.State) (to_station to_car : List ℕ) (w : car.Judged) (facts later : Facts) (shown : ℕ)
    (payload unread : List ℕ) → IsPair c cc post_plan plan → Meets post_plan b → Suits b.car.phase (exchange facts later shown)
    → c.Encodes b.car.dialect (reply post_plan plan b (exchange facts later shown)) payload
    → GoesOnBy (end_of b.car.phase) post_plan s (behind post_plan plan b (exchange facts later shown)).post → Awaits plan k (Some b.car) unread → to_station ≡ []
    → Comes payload unread to_car → Front payload unread to_car → MayRead cc plan k w → ReadsReply c post_plan plan s k to_station to_car w
reply_front c cc post_plan plan b s k to_station to_car w facts later shown payload unread p meets suits encodes goes a e comes (OnItsWay f) i = absurd (awaits_reads cc plan k _ unread w a f i)
reply_front c cc post_plan plan b s k to_station to_car w facts later shown payload unread p meets suits encodes goes a e comes (Whole u f) i =
    replies_so c cc post_plan plan b s k to_station to_car w facts later shown payload unread p meets suits encodes goes a (record { station = e; car = f }) comes.short u i

talks_so : (c : post.Codecs) (cc : car.Codecs) (post_plan : PostPlan) (plan : CarPlan) (b : Both) (s : State) (k : car_states.State) (to_station to_car : List ℕ) (w : car.Judged) → IsPair c cc post_plan plan
    → Meets post_plan b → Talks c cc post_plan plan b s k to_station to_car → MayRead cc plan k w → ReadsReply c post_plan plan s k to_station to_car w
talks_so c cc post_plan plan b s k to_station to_car w p m (IsToAsk order l say none) i = absurd (say_reads cc plan k _ order _ w say i)
talks_so c cc post_plan plan b s k to_station to_car w p m (Rests l pauses none) i = absurd (pauses_reads cc plan k _ w pauses i)
talks_so c cc post_plan plan b s k to_station to_car w p m (Asks request unread encodes l a comes e) i = absurd (awaits_reads cc plan k _ [] w a empty_waits i)
talks_so c cc post_plan plan b s k to_station to_car w p m (IsToReply facts later shown fits send a none) i = absurd (awaits_reads cc plan k _ [] w a empty_waits i)
talks_so c cc post_plan plan b s k to_station to_car w p m (Closes facts shown fits last l waits a none) i = absurd (awaits_reads cc plan k _ [] w a empty_waits i)
talks_so c cc post_plan plan b s k to_station to_car w p m (Replies facts later shown payload unread fits encodes goes a e comes) i =
    reply_front c cc post_plan plan b s k to_station to_car w facts later shown payload unread p m fits encodes goes a e comes (front payload unread to_car comes) i

ends_so : (cc : car.Codecs) (post_plan : PostPlan) (plan : CarPlan) (s : State) (k : car_states.State) (to_station to_car : List ℕ) (w : car.Judged) → Ends post_plan plan s k to_station to_car
    → MayRead cc plan k w → ⊥
ends_so cc post_plan plan s k to_station to_car w (IsToStop order g finish none) i = finish_reads cc plan k order _ w finish i
ends_so cc post_plan plan s k to_station to_car w (Stopped g ended none) i = ended_reads cc plan k w ended i

by_end : (e : Bool) (c : post.Codecs) (cc : car.Codecs) (post_plan : PostPlan) (plan : CarPlan) (b : Both) (s : State) (k : car_states.State) (to_station to_car : List ℕ) (w : car.Judged) → IsPair c cc post_plan plan
    → Meets post_plan b → TalksBy e c cc post_plan plan b s k to_station to_car → MayRead cc plan k w → ReadsReply c post_plan plan s k to_station to_car w
by_end true c cc post_plan plan b s k to_station to_car w p m t i = absurd (ends_so cc post_plan plan s k to_station to_car w t i)
by_end false c cc post_plan plan b s k to_station to_car w p m t i = talks_so c cc post_plan plan b s k to_station to_car w p m t i

pub reads_so : (words : Words) (c : post.Codecs) (cc : car.Codecs) (post_plan : PostPlan) (plan : CarPlan) (s : State) (k : car_states.State) (to_station to_car : List ℕ) (w : car.Judged) → IsPair c cc post_plan plan
    → IsIn c cc post_plan plan words s k to_station to_car → MayRead cc plan k w → IsReadSo c post_plan plan s k to_station to_car w
reads_so NoneYet c cc post_plan plan s k to_station to_car w p phase i = AChoice (begins_so c cc post_plan plan s k to_station to_car w phase i)
reads_so (Read dialect xs) c cc post_plan plan s k to_station to_car w p phase i =
    AReply (by_end (has_ended post_plan plan token dialect xs) c cc post_plan plan (both post_plan plan token dialect xs) s k to_station to_car w p
    (they_meet post_plan plan token dialect xs p.paired phase.0) phase.1 i)
