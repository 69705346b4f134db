-- The acts of a post lead from phase to phase.
use Rattle.std.proofs.Common.{◌≡◌, ℕ, ◌≤◌, Bool, true, false, if◌then◌else◌, List, [], ◌++◌, length, Option, Some, None, refl, ap, sym, subst, ◌∙◌, inl, inr}
use Rattle.std.proofs.lemmas.List.{append-nil}
use Rattle.charge_world.specs.declared.offer.Dialect.{Dialect}
use Rattle.session_words.specs.declared.cause.EndCause.{EndCause}
use Rattle.session_words.specs.declared.facts.Facts.{Facts}
use Rattle.session_words.specs.declared.plan.CarPlan.{CarPlan}
use Rattle.session_words.specs.declared.plan.PostPlan.{PostPlan}
use Rattle.session_words.specs.declared.word.Reply.{Reply}
use Rattle.v2gtp_frames.specs.Frames.{frame, IsPayload}
use Rattle.v2gtp_frames.specs.Reading.{behind_front}
use Rattle.session_rules.specs.declared.stage.Stage.{Stage}
use Rattle.session_rules.specs.Orders.{order_of}
use Rattle.session_rules.specs.Reply.{reply_to, waiting_reply}
use Rattle.session_rules.specs.Stages.{first_stage, is_waiting}
use Rattle.post_spec.specs.Codecs as post
use Rattle.post_spec.specs.Steps.{Act, Send, End, Reading}
use Rattle.station_spec.specs.States.{Spoken, Response, Said, Session, State, Todo, nothing, first}
use Rattle.station_spec.specs.States as states
use Rattle.station_spec.specs.Deciding.{decided}
use Rattle.station_spec.specs.Judging.{order_by, speaks, taken_in, filled}
use Rattle.station_spec.specs.Acting.{replied, acted}
use Rattle.station_spec.specs.Next.{IsDone, Acts}
use Rattle.station_spec.specs.Sharing.{Shows}
use Rattle.station_laws.proofs.Decided.{same_session}
use Rattle.car_spec.specs.Codecs as car
use Rattle.car_spec.specs.States as car_states
use Rattle.car_rules.specs.Requests.{request_of}
use Rattle.pipe_spec.specs.Histories.{token, station_says}
use Rattle.pair_words.specs.Exchanges.{Both, Outside, asked, judged, reply, behind}
use Rattle.pair_words.specs.Meeting.{Meets, Suits}
use Rattle.pair_words.specs.Laws.{both, end_of, has_ended, IsAnswered}
use Rattle.pair_words.proofs.Exchanges.{exchanges_go_well}
use Rattle.pair_words.proofs.Sessions.{they_meet}
use Rattle.pair_readings.specs.Readings.{HasAnswered}
use Rattle.pair_readings.proofs.Codecs.{requests_are_heard}
use Rattle.pair_readings.proofs.Readings.{posts_answer}
use Rattle.pair_negotiation.specs.Beginning.{responding, HaveBegun}
use Rattle.pair_negotiation.proofs.Beginning.{pairs_begin}
use Rattle.pair_deeds.specs.Posts.{IsStill, DoesFirst, ReadsWord}
use Rattle.pair_deeds.proofs.Posts.{posts_do_what_is_first, posts_read_words}
use Rattle.matched_pairs.specs.Ends.{Listens, IsToSend, GoesOnBy, Awaits}
use Rattle.matched_pairs.specs.Phases.{Comes, NothingComes, Begins, IsToOffer, Offered, Offers, Responded, exchange, Talks, IsToAsk, Rests, Asks, IsToReply, Closes, Replies, Ends, IsToStop, Stopped, NoneYet, Read, TalksBy}
use Rattle.matched_pairs.specs.Moves.{IsPair, IfRead, PostsGoOn}
use Rattle.matched_pairs.proofs.Messages.{Front, OnItsWay, Whole, front, empty_waits, nothing_left, says}
use Rattle.matched_pairs.proofs.PostPhases.{same_arrived, quiet_acts, come_quiet, gone_quiet, listens_quiet, waits_quiet, listens, sends, Finishes, finishes}
use Rattle.matched_pairs.proofs.Answers.{TakesWords, meets_takes, Acted, replying, Keeps, acts_on}

some_todo : (a b : Todo) → Some a ≡ Some b → a ≡ b
some_todo a b e = cc

-- what is known of another act and another state is so of these
carried : (P : State → List ℕ → Type 0) (plan : PostPlan) (s t : State) (reading : Option Reading) (act own : Act) (way : List ℕ) → filled plan reading s ≡ t → act ≡ own
    → P (acted own true t) (way ++ station_says own) → P (acted act true (filled plan reading s)) (way ++ station_says act)
carried P plan s t reading act own way e f h =
    subst (λ (a : Act). P (acted a true (filled plan reading s)) (way ++ station_says a)) (sym f)
    (subst (λ (x : State). P (acted own true x) (way ++ station_says own)) (sym e) h)

-- ---- the negotiation

responds : (c : post.Codecs) (cc : car.Codecs) (post_plan : PostPlan) (plan : CarPlan) (k : car_states.State) (to_station to_car : List ℕ) (request : List ℕ) (begun : HaveBegun c cc post_plan plan token request)
    (d : State) (session : Session) → d.arrived ≡ None → session.unread ≡ frame request → IsPayload request → Awaits plan k None [] → to_station ≡ [] → to_car ≡ []
    → length (frame begun.response) ≤ 65544
    → Begins c cc post_plan plan (acted (Send (frame begun.response)) true (responding d session (both post_plan plan token begun.dialect []).post begun.response)) k to_station (to_car ++ frame begun.response)
responds c cc post_plan plan k to_station to_car request begun d session a u short awaits e f l =
    Responded request [] begun
    (listens post_plan (acted (Send (frame begun.response)) true (responding d session (both post_plan plan token begun.dialect []).post begun.response))
    (replied d.clock (record session { stage = (both post_plan plan token begun.dialect []).post; unread = behind_front session.unread })) (both post_plan plan token begun.dialect []).post
    refl a refl refl refl (nothing_left request session.unread u short))
    awaits e (says begun.response to_car f l)

offers_by : (c : post.Codecs) (cc : car.Codecs) (post_plan : PostPlan) (plan : CarPlan) (limit : ℕ) (s : State) (k : car_states.State) (to_station to_car : List ℕ) (reading : Option Reading) (act : Act)
    (request unread : List ℕ) → IsPair c cc post_plan plan → cc.Offers plan.dialects.items request → (l : Listens post_plan s (first_stage token) unread) → Awaits plan k None []
    → Comes request unread to_station → to_station ≡ [] → to_car ≡ [] → unread ≡ frame request → length (station_says act) ≤ 65544 → Acts c post_plan (Shows limit [] []) s reading act true
    → Begins c cc post_plan plan (acted act true (filled post_plan reading s)) k to_station (to_car ++ station_says act)
offers_by c cc post_plan plan limit s k to_station to_car reading act request unread p offers l awaits comes e f u short i =
    let still : IsStill post_plan s l.session = l.still in
    let own : l.session.unread ≡ frame request = l.unread_is ∙ u in
    let r : ReadsWord c post_plan limit s l.session request reading act true =
    posts_read_words c post_plan limit s l.session request reading act true l.still (ap (λ (x : Stage). is_waiting x.row) l.stage_is) own comes.short i in
    let begun : HaveBegun c cc post_plan plan token request = pairs_begin c cc p.readings p.agree post_plan plan token request p.paired offers in
    let there : (decided post_plan s).session ≡ Some l.session = same_session post_plan s ∙ still.session_is in
    let is : filled post_plan (Some r.read) s ≡ responding (decided post_plan s) l.session (both post_plan plan token begun.dialect []).post begun.response =
    begun.responds s l.session r.read.judged r.read.shown there l.stage_is r.judged in
    let todo : r.todo ≡ states.Say (Response begun.response) = some_todo r.todo (states.Say (Response begun.response)) (sym r.acts ∙ ap (λ (x : State). first x.agenda) is) in
    let done = subst (λ (x : Todo). IsDone c x act true) todo r.done in
    let act_is : act ≡ Send (frame begun.response) = done.2 ∙ ap (λ (x : List ℕ). Send x) done.1 in
    carried (λ x way. Begins c cc post_plan plan x k to_station way) post_plan s _ reading act (Send (frame begun.response)) to_car
    (ap (λ (o : Option Reading). filled post_plan o s) r.reading_is ∙ is) act_is
    (responds c cc post_plan plan k to_station to_car request begun (decided post_plan s) l.session (same_arrived post_plan s ∙ l.arrived) own comes.short awaits e f
    (subst (λ (a : Act). length (station_says a) ≤ 65544) act_is short))

offers_front : (c : post.Codecs) (cc : car.Codecs) (post_plan : PostPlan) (plan : CarPlan) (limit : ℕ) (s : State) (k : car_states.State) (to_station to_car : List ℕ) (reading : Option Reading) (act : Act)
    (request unread : List ℕ) → IsPair c cc post_plan plan → cc.Offers plan.dialects.items request → Listens post_plan s (first_stage token) unread → Awaits plan k None []
    → Comes request unread to_station → to_car ≡ [] → Front request unread to_station → length (station_says act) ≤ 65544 → Acts c post_plan (Shows limit [] []) s reading act true
    → Begins c cc post_plan plan (acted act true (filled post_plan reading s)) k to_station (to_car ++ station_says act)
offers_front c cc post_plan plan limit s k to_station to_car reading act request unread p offers l awaits comes e (OnItsWay w) short i =
    absurd (quiet_acts c post_plan limit s reading act (listens_quiet post_plan s (first_stage token) unread l w) i)
offers_front c cc post_plan plan limit s k to_station to_car reading act request unread p offers l awaits comes e (Whole u none) short i =
    offers_by c cc post_plan plan limit s k to_station to_car reading act request unread p offers l awaits comes none e u short i

begins_on : (c : post.Codecs) (cc : car.Codecs) (post_plan : PostPlan) (plan : CarPlan) (limit : ℕ) (s : State) (k : car_states.State) (to_station to_car : List ℕ) (reading : Option Reading) (act : Act)
    → IsPair c cc post_plan plan → Begins c cc post_plan plan s k to_station to_car → length (station_says act) ≤ 65544 → Acts c post_plan (Shows limit [] []) s reading act true
    → Begins c cc post_plan plan (acted act true (filled post_plan reading s)) k to_station (to_car ++ station_says act)
begins_on c cc post_plan plan limit s k to_station to_car reading act p (IsToOffer come say none) short i =
    absurd (quiet_acts c post_plan limit s reading act (come_quiet post_plan s token come) i)
begins_on c cc post_plan plan limit s k to_station to_car reading act p (Offered request offers come awaits comes e) short i =
    absurd (quiet_acts c post_plan limit s reading act (come_quiet post_plan s token come) i)
begins_on c cc post_plan plan limit s k to_station to_car reading act p (Offers request unread offers l awaits comes e) short i =
    offers_front c cc post_plan plan limit s k to_station to_car reading act request unread p offers l awaits comes e (front request unread to_station comes) short i
begins_on c cc post_plan plan limit s k to_station to_car reading act p (Responded request unread begun l awaits e comes) short i =
    absurd (quiet_acts c post_plan limit s reading act (listens_quiet post_plan s _ [] l empty_waits) i)

-- ---- the request of an exchange

-- the post's part of the request
keeps : (post_plan : PostPlan) (plan : CarPlan) (b : Both) (x : Outside) (s : State) (session : Session) (payload : List ℕ) → s.session ≡ Some session → s.arrived ≡ None
    → session.unread ≡ frame payload → IsPayload payload
    → (h : HasAnswered post_plan plan b x (decided post_plan s) session (filled post_plan (Some (record { judged = post.Asked (asked plan b.car); shown = x.shown })) s))
    → Keeps post_plan plan b x (filled post_plan (Some (record { judged = post.Asked (asked plan b.car); shown = x.shown })) s) h.new
keeps post_plan plan b x s session payload e a u short h =
    let there : (decided post_plan s).session ≡ Some session = same_session post_plan s ∙ e in
    record {
      session_is = h.session_is;
      arrived = ap (λ (o : Option Session). (taken_in post_plan (decided post_plan s) o (record { judged = post.Asked (asked plan b.car); shown = x.shown })).arrived) there
          ∙ same_arrived post_plan s ∙ a;
      stage_is = h.stage;
      unread_is = h.unread ∙ nothing_left payload session.unread u short;
      part_is = ap (λ (o : Option Session). (taken_in post_plan (decided post_plan s) o (record { judged = post.Asked (asked plan b.car); shown = x.shown })).part) there;
    }

-- its reply in the dialect of the car, where it doesn't wait
spoken_by : (w : Bool) (post_plan : PostPlan) (plan : CarPlan) (b : Both) (x : Outside) → b.post.dialect ≡ b.car.dialect → is_waiting (judged post_plan plan b x).row ≡ w
    → (if is_waiting (judged post_plan plan b x).row then None else Some (Said b.post.dialect (reply_to b.post x.facts post_plan (asked plan b.car) x.shown)))
    ≡ (if w then None else Some (Said b.car.dialect (reply post_plan plan b x)))
spoken_by true post_plan plan b x d e =
    ap (λ (y : Bool). if y then None else Some (Said b.post.dialect (reply_to b.post x.facts post_plan (asked plan b.car) x.shown))) e
spoken_by false post_plan plan b x d e =
    let own : reply post_plan plan b x ≡ reply_to b.post x.facts post_plan (asked plan b.car) x.shown =
    ap (λ (y : Bool). if y then waiting_reply (judged post_plan plan b x) x.later post_plan else reply_to b.post x.facts post_plan (asked plan b.car) x.shown) e in
    ap (λ (y : Bool). if y then None else Some (Said b.post.dialect (reply_to b.post x.facts post_plan (asked plan b.car) x.shown))) e
    ∙ ap (λ (y : Dialect). Some (Said y (reply_to b.post x.facts post_plan (asked plan b.car) x.shown))) d
    ∙ ap (λ (y : Reply). Some (Said b.car.dialect y)) (sym own)

asks_whole : (c : post.Codecs) (cc : car.Codecs) (post_plan : PostPlan) (plan : CarPlan) (limit : ℕ) (b : Both) (s : State) (k : car_states.State) (to_station to_car : List ℕ) (reading : Option Reading) (act : Act)
    (request unread : List ℕ) → IsPair c cc post_plan plan → Meets post_plan b → IfRead reading ((later : Facts) (shown : ℕ) → Suits b.car.phase (exchange s.facts later shown))
    → cc.Encodes b.car.dialect (request_of plan b.car) request → (l : Listens post_plan s b.post unread) → Awaits plan k (Some b.car) [] → IsPayload request → NothingComes to_station to_car
    → unread ≡ frame request → length (station_says act) ≤ 65544 → Acts c post_plan (Shows limit [] []) s reading act true
    → Talks c cc post_plan plan b (acted act true (filled post_plan reading s)) k to_station (to_car ++ station_says act)
asks_whole c cc post_plan plan limit b s k to_station to_car reading act request unread p meets suited encodes l awaits whole none u short i =
    let still : IsStill post_plan s l.session = l.still in
    let takes : TakesWords b.post.row = meets_takes post_plan b meets in
    let own : l.session.unread ≡ frame request = l.unread_is ∙ u in
    let r : ReadsWord c post_plan limit s l.session request reading act true =
    posts_read_words c post_plan limit s l.session request reading act true l.still (ap (λ (x : Stage). is_waiting x.row) l.stage_is ∙ takes.waits) own whole i in
    let suits : (later : Facts) (shown : ℕ) → Suits b.car.phase (exchange s.facts later shown) =
    subst (λ (o : Option Reading). IfRead o ((later : Facts) (shown : ℕ) → Suits b.car.phase (exchange s.facts later shown))) r.reading_is suited in
    let dialect_is : speaks l.session.stage ≡ Some b.car.dialect =
    ap speaks l.stage_is ∙ takes.speaks b.post.dialect ∙ ap (λ (d : Dialect). Some d) meets.dialect in
    let j : post.Judges c post_plan.dialects.items (Some b.car.dialect) request r.read.judged =
    subst (λ (o : Option Dialect). post.Judges c post_plan.dialects.items o request r.read.judged) dialect_is r.judged in
    let judged_is : r.read.judged ≡ post.Asked (asked plan b.car) =
    requests_are_heard c cc p.readings post_plan.dialects.items b.car.dialect (request_of plan b.car) request r.read.judged encodes j in
    let answered : IsAnswered post_plan plan b (exchange s.facts s.facts r.read.shown) =
    exchanges_go_well post_plan plan b (exchange s.facts s.facts r.read.shown) p.paired meets (suits s.facts r.read.shown) in
    let there : (decided post_plan s).session ≡ Some l.session = same_session post_plan s ∙ still.session_is in
    let h : HasAnswered post_plan plan b (exchange s.facts s.facts r.read.shown) (decided post_plan s) l.session (filled post_plan (Some (record { judged = post.Asked (asked plan b.car); shown = r.read.shown })) s) =
    posts_answer post_plan plan b (exchange s.facts s.facts r.read.shown) s l.session answered there l.stage_is (ap (λ (x : State). x.facts) still.stays) in
    let is : filled post_plan (Some r.read) s ≡ filled post_plan (Some (record { judged = post.Asked (asked plan b.car); shown = r.read.shown })) s =
    ap (λ (w : post.Judged). filled post_plan (Some (record { judged = w; shown = r.read.shown })) s) judged_is in
    let a : Acted c cc post_plan plan b k to_station to_car (filled post_plan (Some (record { judged = post.Asked (asked plan b.car); shown = r.read.shown })) s) act =
    acts_on c cc post_plan plan b k to_station to_car s.facts r.read.shown _ h.new
    (order_by (end_of b.car.phase) (decided post_plan s).live (order_of b.post s.facts post_plan (asked plan b.car) r.read.shown))
    (is_waiting (judged post_plan plan b (exchange s.facts s.facts r.read.shown)).row) r.todo act (λ later. suits later r.read.shown) answered
    (keeps post_plan plan b (exchange s.facts s.facts r.read.shown) s l.session request still.session_is l.arrived own whole h) refl
    (h.agenda ∙ ap (λ (o : Option Spoken). record nothing { order = order_by (end_of b.car.phase) (decided post_plan s).live (order_of b.post s.facts post_plan (asked plan b.car) r.read.shown); reply = o; ending = end_of b.car.phase })
    (spoken_by _ post_plan plan b (exchange s.facts s.facts r.read.shown) meets.dialect refl))
    (ap (λ (x : State). first x.agenda) (sym is) ∙ r.acts) r.done awaits none in
    carried (λ x way. Talks c cc post_plan plan b x k to_station way) post_plan s _ reading act a.own to_car
    (ap (λ (o : Option Reading). filled post_plan o s) r.reading_is ∙ is) a.act_is
    (a.phase (subst (λ (y : Act). length (station_says y) ≤ 65544) {y = a.own} a.act_is short))

asks_front : (c : post.Codecs) (cc : car.Codecs) (post_plan : PostPlan) (plan : CarPlan) (limit : ℕ) (b : Both) (s : State) (k : car_states.State) (to_station to_car : List ℕ) (reading : Option Reading) (act : Act)
    (request unread : List ℕ) → IsPair c cc post_plan plan → Meets post_plan b → IfRead reading ((later : Facts) (shown : ℕ) → Suits b.car.phase (exchange s.facts later shown))
    → cc.Encodes b.car.dialect (request_of plan b.car) request → Listens post_plan s b.post unread → Awaits plan k (Some b.car) [] → Comes request unread to_station → to_car ≡ []
    → Front request unread to_station → length (station_says act) ≤ 65544 → Acts c post_plan (Shows limit [] []) s reading act true
    → Talks c cc post_plan plan b (acted act true (filled post_plan reading s)) k to_station (to_car ++ station_says act)
asks_front c cc post_plan plan limit b s k to_station to_car reading act request unread p meets suits encodes l awaits comes e (OnItsWay w) short i =
    absurd (quiet_acts c post_plan limit s reading act (listens_quiet post_plan s b.post unread l w) i)
asks_front c cc post_plan plan limit b s k to_station to_car reading act request unread p meets suits encodes l awaits comes e (Whole u none) short i =
    asks_whole c cc post_plan plan limit b s k to_station to_car reading act request unread p meets suits encodes l awaits comes.short (record { station = none; car = e }) u short i

-- ---- its reply

replies_by : (c : post.Codecs) (cc : car.Codecs) (post_plan : PostPlan) (plan : CarPlan) (limit : ℕ) (b : Both) (s : State) (k : car_states.State) (to_station to_car : List ℕ) (reading : Option Reading) (act : Act)
    (facts later : Facts) (shown : ℕ) → Suits b.car.phase (exchange facts later shown)
    → IsToSend post_plan s (judged post_plan plan b (exchange facts later shown)) (Said b.car.dialect (reply post_plan plan b (exchange facts later shown))) (end_of b.car.phase)
    → Awaits plan k (Some b.car) [] → NothingComes to_station to_car → length (station_says act) ≤ 65544 → Acts c post_plan (Shows limit [] []) s reading act true
    → Talks c cc post_plan plan b (acted act true (filled post_plan reading s)) k to_station (to_car ++ station_says act)
replies_by c cc post_plan plan limit b s k to_station to_car reading act facts later shown suits send awaits none short i =
    let d : DoesFirst c (states.Say (Said b.car.dialect (reply post_plan plan b (exchange facts later shown)))) reading act true =
    posts_do_what_is_first c post_plan limit s (states.Say (Said b.car.dialect (reply post_plan plan b (exchange facts later shown)))) reading act true (ap first send.agenda_is) i in
    let a : Acted c cc post_plan plan b k to_station to_car (decided post_plan s) act =
    replying c cc post_plan plan b k to_station to_car facts later shown (decided post_plan s) act suits
    (sends c post_plan (decided post_plan s) send.session (judged post_plan plan b (exchange facts later shown)) b.car.dialect (reply post_plan plan b (exchange facts later shown)) (end_of b.car.phase) act
    (same_session post_plan s ∙ send.session_is) (same_arrived post_plan s ∙ send.arrived) send.stage_is send.unread_is send.part_is send.agenda_is d.done)
    awaits none in
    carried (λ x way. Talks c cc post_plan plan b x k to_station way) post_plan s (decided post_plan s) reading act a.own to_car
    (ap (λ (o : Option Reading). filled post_plan o s) d.reads_nothing) a.act_is
    (a.phase (subst (λ (y : Act). length (station_says y) ≤ 65544) {y = a.own} a.act_is short))

-- behind its reply it ends its session, where that has a cause
leaves_by : (o : Option EndCause) (c : post.Codecs) (post_plan : PostPlan) (limit : ℕ) (s : State) (reading : Option Reading) (act : Act) (stage : Stage) (to_car : List ℕ)
    (P : State → List ℕ → Type 0) → ((x : State) → GoesOnBy o post_plan x stage → P x to_car) → GoesOnBy o post_plan s stage → Acts c post_plan (Shows limit [] []) s reading act true
    → P (acted act true (filled post_plan reading s)) (to_car ++ station_says act)
leaves_by None c post_plan limit s reading act stage to_car P k l i = absurd (quiet_acts c post_plan limit s reading act (listens_quiet post_plan s stage [] l empty_waits) i)
leaves_by (Some cause) c post_plan limit s reading act stage to_car P k (inr g) i = absurd (quiet_acts c post_plan limit s reading act (gone_quiet post_plan s g) i)
leaves_by (Some cause) c post_plan limit s reading act stage to_car P k (inl e) i =
    let f = finishes c post_plan limit s cause reading act e i in
    let does : Finishes post_plan s act = f.0 in
    carried P post_plan s s reading act (End does.number) to_car f.1 does.act_is
    (subst (λ (way : List ℕ). P (acted (End does.number) true s) way) (sym (append-nil to_car)) (k (acted (End does.number) true s) (inr does.gone)))

talks_on : (c : post.Codecs) (cc : car.Codecs) (post_plan : PostPlan) (plan : CarPlan) (limit : ℕ) (b : Both) (s : State) (k : car_states.State) (to_station to_car : List ℕ) (reading : Option Reading) (act : Act)
    → IsPair c cc post_plan plan → Meets post_plan b → IfRead reading ((later : Facts) (shown : ℕ) → Suits b.car.phase (exchange s.facts later shown)) → Talks c cc post_plan plan b s k to_station to_car
    → length (station_says act) ≤ 65544 → Acts c post_plan (Shows limit [] []) s reading act true
    → Talks c cc post_plan plan b (acted act true (filled post_plan reading s)) k to_station (to_car ++ station_says act)
talks_on c cc post_plan plan limit b s k to_station to_car reading act p meets suits (IsToAsk order l say none) short i =
    absurd (quiet_acts c post_plan limit s reading act (listens_quiet post_plan s b.post [] l empty_waits) i)
talks_on c cc post_plan plan limit b s k to_station to_car reading act p meets suits (Rests l pauses none) short i =
    absurd (quiet_acts c post_plan limit s reading act (listens_quiet post_plan s b.post [] l empty_waits) i)
talks_on c cc post_plan plan limit b s k to_station to_car reading act p meets suits (Asks request unread encodes l awaits comes e) short i =
    asks_front c cc post_plan plan limit b s k to_station to_car reading act request unread p meets suits encodes l awaits comes e (front request unread to_station comes) short i
talks_on c cc post_plan plan limit b s k to_station to_car reading act p meets suits (IsToReply facts later shown fits send awaits none) short i =
    replies_by c cc post_plan plan limit b s k to_station to_car reading act facts later shown fits send awaits none short i
talks_on c cc post_plan plan limit b s k to_station to_car reading act p meets suits (Closes facts shown fits last l w awaits none) short i =
    absurd (quiet_acts c post_plan limit s reading act (waits_quiet post_plan s _ [] l w) i)
talks_on c cc post_plan plan limit b s k to_station to_car reading act p meets suits (Replies facts later shown payload unread fits encodes goes awaits e comes) short i =
    leaves_by (end_of b.car.phase) c post_plan limit s reading act (behind post_plan plan b (exchange facts later shown)).post to_car (λ x way. Talks c cc post_plan plan b x k to_station way)
    (λ x g. Replies facts later shown payload unread fits encodes g awaits e comes) goes i

ends_on : (c : post.Codecs) (post_plan : PostPlan) (plan : CarPlan) (limit : ℕ) (s : State) (k : car_states.State) (to_station to_car : List ℕ) (reading : Option Reading) (act : Act)
    → Ends post_plan plan s k to_station to_car → Acts c post_plan (Shows limit [] []) s reading act true → ⊥
ends_on c post_plan plan limit s k to_station to_car reading act (IsToStop order g finish none) i = quiet_acts c post_plan limit s reading act (gone_quiet post_plan s g) i
ends_on c post_plan plan limit s k to_station to_car reading act (Stopped g ended none) i = quiet_acts c post_plan limit s reading act (gone_quiet post_plan s g) i

by_end : (e : Bool) (c : post.Codecs) (cc : car.Codecs) (post_plan : PostPlan) (plan : CarPlan) (limit : ℕ) (b : Both) (s : State) (k : car_states.State) (to_station to_car : List ℕ) (reading : Option Reading) (act : Act)
    → IsPair c cc post_plan plan → Meets post_plan b → IfRead reading ((later : Facts) (shown : ℕ) → Suits b.car.phase (exchange s.facts later shown)) → TalksBy e c cc post_plan plan b s k to_station to_car
    → length (station_says act) ≤ 65544 → Acts c post_plan (Shows limit [] []) s reading act true
    → TalksBy e c cc post_plan plan b (acted act true (filled post_plan reading s)) k to_station (to_car ++ station_says act)
by_end true c cc post_plan plan limit b s k to_station to_car reading act p meets suits t short i = absurd (ends_on c post_plan plan limit s k to_station to_car reading act t i)
by_end false c cc post_plan plan limit b s k to_station to_car reading act p meets suits t short i =
    talks_on c cc post_plan plan limit b s k to_station to_car reading act p meets suits t short i

pub posts_go_on : (c : post.Codecs) (cc : car.Codecs) → PostsGoOn c cc
posts_go_on c cc post_plan plan limit NoneYet s k to_station to_car reading act p phase suits short i =
    begins_on c cc post_plan plan limit s k to_station to_car reading act p phase short i
posts_go_on c cc post_plan plan limit (Read dialect xs) s k to_station to_car reading act p phase suits short i = (
  phase.0,
  by_end (has_ended post_plan plan token dialect xs) c cc post_plan plan limit (both post_plan plan token dialect xs) s k to_station to_car reading act p
      (they_meet post_plan plan token dialect xs p.paired phase.0) suits phase.1 short i,
)
