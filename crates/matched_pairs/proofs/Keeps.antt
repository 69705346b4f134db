-- What a post keeps behind the request of an exchange.
use Rattle.std.proofs.Common.{◌≡◌, ℕ, Bool, true, false, List, [], Option, Some, None, refl, ap, sym, subst, ◌∙◌}
use Rattle.charge_world.specs.declared.offer.Dialect.{Dialect}
use Rattle.session_words.specs.declared.facts.Facts.{Facts}
use Rattle.session_words.specs.declared.plan.CarPlan.{CarPlan}
use Rattle.session_words.specs.declared.plan.PostPlan.{PostPlan}
use Rattle.v2gtp_frames.specs.Frames.{frame, IsPayload}
use Rattle.session_rules.specs.declared.stage.Stage.{Stage}
use Rattle.session_rules.specs.Stages.{is_waiting}
use Rattle.post_spec.specs.Codecs as post
use Rattle.post_spec.specs.Steps.{Act, Reading}
use Rattle.station_spec.specs.States.{Session, State, Wording}
use Rattle.station_spec.specs.Deciding.{decided}
use Rattle.station_spec.specs.Judging.{speaks, taken_in, filled}
use Rattle.station_spec.specs.Next.{Acts}
use Rattle.station_spec.specs.Sharing.{Shows}
use Rattle.station_laws.proofs.Decided.{same_session}
use Rattle.car_rules.specs.Requests.{request_of}
use Rattle.car_spec.specs.Codecs as car
use Rattle.car_spec.specs.States as car_states
use Rattle.pipe_spec.specs.Histories.{token}
use Rattle.pair_words.specs.Exchanges.{Both, Outside, asked}
use Rattle.pair_words.specs.Meeting.{Meets, Suits}
use Rattle.pair_words.specs.Laws.{both, has_ended, IsAnswered}
use Rattle.pair_words.proofs.Exchanges.{exchanges_go_well}
use Rattle.pair_words.proofs.Sessions.{they_meet}
use Rattle.pair_readings.specs.Readings.{HasAnswered}
use Rattle.pair_readings.proofs.Codecs.{requests_are_heard}
use Rattle.pair_readings.proofs.Readings.{posts_answer}
use Rattle.pair_deeds.specs.Posts.{IsStill, ReadsWord}
use Rattle.pair_deeds.proofs.Posts.{posts_read_words}
use Rattle.matched_pairs.specs.Ends.{Listens}
use Rattle.matched_pairs.specs.Phases.{Comes, exchange, Talks, IsToAsk, Rests, Asks, IsToReply, Closes, Replies, Read, TalksBy}
use Rattle.matched_pairs.specs.Moves.{IsPair}
use Rattle.matched_pairs.proofs.Messages.{Front, OnItsWay, Whole, front, empty_waits, nothing_left}
use Rattle.matched_pairs.proofs.PostPhases.{same_arrived, quiet_acts, listens_quiet, waits_quiet}
use Rattle.matched_pairs.proofs.Answers.{TakesWords, meets_takes}
use Rattle.matched_pairs.specs.Requests.{HasKept, PostsKeep}
use Rattle.matched_pairs.proofs.Requested.{reads_nothing, ends_reads, ends_do}

some_reading : (a b : Reading) → Some a ≡ Some b → a ≡ b
some_reading a b e = cc

-- what was read is the request of the car
same_reading : (r own : Reading) (judged : post.Judged) → Some r ≡ Some own → own.judged ≡ judged → r ≡ record { judged = judged; shown = r.shown }
same_reading r own judged e f = let one : r ≡ own = some_reading r own e in ap (λ (w : post.Judged). record { judged = w; shown = r.shown }) (ap (λ (x : Reading). x.judged) one ∙ f)

kept_so : (post_plan : PostPlan) (plan : CarPlan) (b : Both) (s : State) (session : Session) (shown : ℕ) (request : List ℕ) → s.session ≡ Some session → s.arrived ≡ None → session.stage ≡ b.post
    → session.unread ≡ frame request → IsPayload request → (decided post_plan s).facts ≡ s.facts → IsAnswered post_plan plan b (exchange s.facts s.facts shown)
    → HasKept post_plan plan b s (record { judged = post.Asked (asked plan b.car); shown = shown })
kept_so post_plan plan b s session shown request there arrived stage u short facts answered =
    let here : (decided post_plan s).session ≡ Some session = same_session post_plan s ∙ there in
    let h : HasAnswered post_plan plan b (exchange s.facts s.facts shown) (decided post_plan s) session (filled post_plan (Some (record { judged = post.Asked (asked plan b.car); shown = shown })) s) =
    posts_answer post_plan plan b (exchange s.facts s.facts shown) s session answered here stage facts in
    record {
      session = session;
      session_is = there;
      stage_is = stage;
      judged_is = refl;
      answered = answered;
      kept = h;
      unread_is = h.unread ∙ nothing_left request session.unread u short;
      arrived = ap (λ (o : Option Session). (taken_in post_plan (decided post_plan s) o (record { judged = post.Asked (asked plan b.car); shown = shown })).arrived) here
          ∙ same_arrived post_plan s ∙ arrived;
      part_is = ap (λ (o : Option Session). (taken_in post_plan (decided post_plan s) o (record { judged = post.Asked (asked plan b.car); shown = shown })).part) here;
    }

asks_whole : (c : post.Codecs) (cs : car.Codecs) (post_plan : PostPlan) (plan : CarPlan) (limit : ℕ) (b : Both) (s : State) (reading : Reading) (act : Act) (request unread : List ℕ)
    → IsPair c cs post_plan plan → Meets post_plan b → ((later : Facts) (shown : ℕ) → Suits b.car.phase (exchange s.facts later shown)) → cs.Encodes b.car.dialect (request_of plan b.car) request
    → (l : Listens post_plan s b.post unread) → IsPayload request → unread ≡ frame request → Acts c post_plan (Shows limit [] []) s (Some reading) act true → HasKept post_plan plan b s reading
asks_whole c cs post_plan plan limit b s reading act request unread p meets suits encodes l short u i =
    let still : IsStill post_plan s l.session = l.still in
    let takes : TakesWords b.post.row = meets_takes post_plan b meets in
    let r : ReadsWord c post_plan limit s l.session request (Some reading) act true =
    posts_read_words c post_plan limit s l.session request (Some reading) act true l.still (ap (λ (x : Stage). is_waiting x.row) l.stage_is ∙ takes.waits) (l.unread_is ∙ u) short i in
    let dialect_is : speaks l.session.stage ≡ Some b.car.dialect =
    ap speaks l.stage_is ∙ takes.speaks b.post.dialect ∙ ap (λ (d : Dialect). Some d) meets.dialect in
    let judged_is : r.read.judged ≡ post.Asked (asked plan b.car) =
    requests_are_heard c cs p.readings post_plan.dialects.items b.car.dialect (request_of plan b.car) request r.read.judged encodes
    (subst (λ (o : Option Dialect). post.Judges c post_plan.dialects.items o request r.read.judged) dialect_is r.judged) in
    let is : reading ≡ record { judged = post.Asked (asked plan b.car); shown = reading.shown } = same_reading reading r.read (post.Asked (asked plan b.car)) r.reading_is judged_is in
    subst (λ (x : Reading). HasKept post_plan plan b s x) (sym is)
    (kept_so post_plan plan b s l.session reading.shown request still.session_is l.arrived l.stage_is (l.unread_is ∙ u) short (ap (λ (x : State). x.facts) still.stays)
    (exchanges_go_well post_plan plan b (exchange s.facts s.facts reading.shown) p.paired meets (suits s.facts reading.shown)))

asks_front : (c : post.Codecs) (cs : car.Codecs) (post_plan : PostPlan) (plan : CarPlan) (limit : ℕ) (b : Both) (s : State) (reading : Reading) (act : Act) (request unread way : List ℕ)
    → IsPair c cs post_plan plan → Meets post_plan b → ((later : Facts) (shown : ℕ) → Suits b.car.phase (exchange s.facts later shown)) → cs.Encodes b.car.dialect (request_of plan b.car) request
    → Listens post_plan s b.post unread → Comes request unread way → Front request unread way → Acts c post_plan (Shows limit [] []) s (Some reading) act true → HasKept post_plan plan b s reading
asks_front c cs post_plan plan limit b s reading act request unread way p meets suits encodes l k (OnItsWay w) i =
    absurd (quiet_acts c post_plan limit s (Some reading) act (listens_quiet post_plan s b.post unread l w) i)
asks_front c cs post_plan plan limit b s reading act request unread way p meets suits encodes l k (Whole u n) i =
    asks_whole c cs post_plan plan limit b s reading act request unread p meets suits encodes l k.short u i

talks_keep : (c : post.Codecs) (cs : car.Codecs) (post_plan : PostPlan) (plan : CarPlan) (limit : ℕ) (b : Both) (s : State) (k : car_states.State) (to_station to_car : List ℕ) (reading : Reading) (act : Act)
    → IsPair c cs post_plan plan → Meets post_plan b → ((later : Facts) (shown : ℕ) → Suits b.car.phase (exchange s.facts later shown)) → Talks c cs post_plan plan b s k to_station to_car
    → Acts c post_plan (Shows limit [] []) s (Some reading) act true → HasKept post_plan plan b s reading
talks_keep c cs post_plan plan limit b s k to_station to_car reading act p m suits (IsToAsk order l say none) i = absurd (quiet_acts c post_plan limit s (Some reading) act (listens_quiet post_plan s b.post [] l empty_waits) i)
talks_keep c cs post_plan plan limit b s k to_station to_car reading act p m suits (Rests l pauses none) i = absurd (quiet_acts c post_plan limit s (Some reading) act (listens_quiet post_plan s b.post [] l empty_waits) i)
talks_keep c cs post_plan plan limit b s k to_station to_car reading act p m suits (Asks request unread encodes l a comes e) i =
    asks_front c cs post_plan plan limit b s reading act request unread to_station p m suits encodes l comes (front request unread to_station comes) i
talks_keep c cs post_plan plan limit b s k to_station to_car reading act p m suits (IsToReply facts later shown fits send a none) i = absurd (reads_nothing c post_plan limit s _ _ _ reading act send i)
talks_keep c cs post_plan plan limit b s k to_station to_car reading act p m suits (Closes facts shown fits last l w a none) i = absurd (quiet_acts c post_plan limit s (Some reading) act (waits_quiet post_plan s _ [] l w) i)
talks_keep c cs post_plan plan limit b s k to_station to_car reading act p m suits (Replies facts later shown payload unread fits encodes goes a e comes) i = absurd (ends_reads _ c post_plan limit s reading act _ goes i)

by_end : (x : Bool) (c : post.Codecs) (cs : car.Codecs) (post_plan : PostPlan) (plan : CarPlan) (limit : ℕ) (b : Both) (s : State) (k : car_states.State) (to_station to_car : List ℕ) (reading : Reading) (act : Act)
    → IsPair c cs post_plan plan → Meets post_plan b → ((later : Facts) (shown : ℕ) → Suits b.car.phase (exchange s.facts later shown)) → TalksBy x c cs post_plan plan b s k to_station to_car
    → Acts c post_plan (Shows limit [] []) s (Some reading) act true → HasKept post_plan plan b s reading
by_end true c cs post_plan plan limit b s k to_station to_car reading act p m suits t i = absurd (ends_do c post_plan plan limit s k to_station to_car (Some reading) act t i)
by_end false c cs post_plan plan limit b s k to_station to_car reading act p m suits t i = talks_keep c cs post_plan plan limit b s k to_station to_car reading act p m suits t i

pub posts_keep : (c : post.Codecs) (cs : car.Codecs) → PostsKeep c cs
posts_keep c cs post_plan plan limit dialect xs s k to_station to_car reading act p phase suits i =
    by_end (has_ended post_plan plan token dialect xs) c cs post_plan plan limit (both post_plan plan token dialect xs) s k to_station to_car reading act p
    (they_meet post_plan plan token dialect xs p.paired phase.0) suits phase.1 i
