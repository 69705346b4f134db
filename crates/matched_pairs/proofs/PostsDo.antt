-- What a post has to do in a phase is what its agenda says.
use Rattle.std.proofs.Common.{◌≡◌, ℕ, Bool, true, false, if◌then◌else◌, List, [], Option, Some, None, refl, ap, sym, subst, ◌∙◌, inl, inr}
use Rattle.charge_world.specs.declared.offer.Dialect.{Dialect}
use Rattle.charge_world.specs.declared.ports.Order.{Order}
use Rattle.session_words.specs.declared.cause.EndCause.{EndCause}
use Rattle.session_words.specs.declared.cause.EndCause.TheVariants as cause
use Rattle.session_words.specs.declared.facts.Facts.{Facts}
use Rattle.session_words.specs.declared.plan.CarPlan.{CarPlan}
use Rattle.session_words.specs.declared.plan.PostPlan.{PostPlan}
use Rattle.session_words.specs.Causes.{number_of}
use Rattle.v2gtp_frames.specs.Frames.{frame, IsPayload}
use Rattle.session_rules.specs.declared.stage.Stage.{Stage}
use Rattle.session_rules.specs.Orders.{order_of}
use Rattle.session_rules.specs.Reply.{reply_to}
use Rattle.session_rules.specs.Stages.{first_stage, is_waiting}
use Rattle.post_spec.specs.Codecs as post
use Rattle.post_spec.specs.Steps.{Act, End, Reading}
use Rattle.station_spec.specs.States.{Spoken, Response, Said, Agenda, State, Todo, nothing, first}
use Rattle.station_spec.specs.States as states
use Rattle.station_spec.specs.Deciding.{decided}
use Rattle.station_spec.specs.Judging.{order_by, speaks, filled}
use Rattle.station_spec.specs.Next.{IsDone, Acts}
use Rattle.station_spec.specs.Sharing.{Shows}
use Rattle.station_laws.proofs.Decided.{same_session, same_live}
use Rattle.car_rules.specs.declared.stage.CarPhase.{CarPhase}
use Rattle.car_rules.specs.declared.stage.CarPhase.TheVariants as phase
use Rattle.car_rules.specs.Requests.{request_of}
use Rattle.car_spec.specs.Codecs as car
use Rattle.car_spec.specs.States as car_states
use Rattle.pipe_spec.specs.Histories.{token}
use Rattle.pair_words.specs.Exchanges.{Both, asked, judged, reply, behind}
use Rattle.pair_words.specs.Meeting.{Meets, Suits}
use Rattle.pair_words.specs.Laws.{both, end_of, has_ended, IsAnswered}
use Rattle.pair_words.proofs.Exchanges.{exchanges_go_well}
use Rattle.pair_words.proofs.Sessions.{they_meet}
use Rattle.pair_readings.specs.Readings.{HasAnswered}
use Rattle.pair_readings.proofs.Codecs.{requests_are_heard}
use Rattle.pair_readings.proofs.Readings.{posts_answer}
use Rattle.pair_negotiation.specs.Beginning.{responding, HaveBegun}
use Rattle.pair_negotiation.proofs.Beginning.{pairs_begin}
use Rattle.pair_deeds.specs.Posts.{IsStill, DoesFirst, ReadsWord}
use Rattle.pair_deeds.proofs.Posts.{posts_do_what_is_first, posts_read_words}
use Rattle.matched_pairs.specs.Ends.{Listens, IsToSend, GoesOnBy}
use Rattle.matched_pairs.specs.Phases.{Comes, Begins, IsToOffer, Offered, Offers, Responded, exchange, Talks, IsToAsk, Rests, Asks, IsToReply, Closes, Replies, Ends, IsToStop, Stopped, NoneYet, Read, TalksBy}
use Rattle.matched_pairs.specs.Moves.{IsPair, IfRead}
use Rattle.matched_pairs.proofs.Messages.{Front, OnItsWay, Whole, front, empty_waits}
use Rattle.matched_pairs.proofs.PostPhases.{quiet_acts, come_quiet, gone_quiet, listens_quiet, waits_quiet, stays_busy}
use Rattle.matched_pairs.proofs.Answers.{TakesWords, meets_takes}
use Rattle.matched_pairs.specs.Acts.{IsOfExchange, IsOfBeginning, PostsAct}

some_none : {A : Type 0} (a : A) → Some a ≡ None → ⊥
some_none a e = cc

some_todo : (a b : Todo) → Some a ≡ Some b → a ≡ b
some_todo a b e = cc

some_cause : (a b : EndCause) → Some a ≡ Some b → a ≡ b
some_cause a b e = cc

-- ---- the negotiation

offers_by : (c : post.Codecs) (cs : car.Codecs) (post_plan : PostPlan) (plan : CarPlan) (limit : ℕ) (s : State) (reading : Option Reading) (act : Act) (request unread : List ℕ) → IsPair c cs post_plan plan
    → cs.Offers plan.dialects.items request → (l : Listens post_plan s (first_stage token) unread) → IsPayload request → unread ≡ frame request → Acts c post_plan (Shows limit [] []) s reading act true
    → IsOfBeginning act
offers_by c cs post_plan plan limit s reading act request unread p offers l short u i =
    let still : IsStill post_plan s l.session = l.still in
    let r : ReadsWord c post_plan limit s l.session request reading act true =
    posts_read_words c post_plan limit s l.session request reading act true l.still (ap (λ (x : Stage). is_waiting x.row) l.stage_is) (l.unread_is ∙ u) short i in
    let begun : HaveBegun c cs post_plan plan token request = pairs_begin c cs p.readings p.agree post_plan plan token request p.paired offers in
    let is : filled post_plan (Some r.read) s ≡ responding (decided post_plan s) l.session (both post_plan plan token begun.dialect []).post begun.response =
    begun.responds s l.session r.read.judged r.read.shown (same_session post_plan s ∙ still.session_is) l.stage_is r.judged in
    let todo : r.todo ≡ states.Say (Response begun.response) = some_todo r.todo (states.Say (Response begun.response)) (sym r.acts ∙ ap (λ (x : State). first x.agenda) is) in
    let done = subst (λ (x : Todo). IsDone c x act true) todo r.done in
    subst IsOfBeginning (sym done.2) tt

offers_front : (c : post.Codecs) (cs : car.Codecs) (post_plan : PostPlan) (plan : CarPlan) (limit : ℕ) (s : State) (reading : Option Reading) (act : Act) (request unread way : List ℕ)
    → IsPair c cs post_plan plan → cs.Offers plan.dialects.items request → Listens post_plan s (first_stage token) unread → Comes request unread way → Front request unread way
    → Acts c post_plan (Shows limit [] []) s reading act true → IsOfBeginning act
offers_front c cs post_plan plan limit s reading act request unread way p offers l k (OnItsWay w) i =
    absurd (quiet_acts c post_plan limit s reading act (listens_quiet post_plan s (first_stage token) unread l w) i)
offers_front c cs post_plan plan limit s reading act request unread way p offers l k (Whole u n) i = offers_by c cs post_plan plan limit s reading act request unread p offers l k.short u i

begins_act : (c : post.Codecs) (cs : car.Codecs) (post_plan : PostPlan) (plan : CarPlan) (limit : ℕ) (s : State) (k : car_states.State) (to_station to_car : List ℕ) (reading : Option Reading) (act : Act)
    → IsPair c cs post_plan plan → Begins c cs post_plan plan s k to_station to_car → Acts c post_plan (Shows limit [] []) s reading act true → IsOfBeginning act
begins_act c cs post_plan plan limit s k to_station to_car reading act p (IsToOffer come say none) i = absurd (quiet_acts c post_plan limit s reading act (come_quiet post_plan s token come) i)
begins_act c cs post_plan plan limit s k to_station to_car reading act p (Offered request offers come a comes e) i = absurd (quiet_acts c post_plan limit s reading act (come_quiet post_plan s token come) i)
begins_act c cs post_plan plan limit s k to_station to_car reading act p (Offers request unread offers l a comes e) i =
    offers_front c cs post_plan plan limit s reading act request unread to_station p offers l comes (front request unread to_station comes) i
begins_act c cs post_plan plan limit s k to_station to_car reading act p (Responded request unread begun l a e comes) i =
    absurd (quiet_acts c post_plan limit s reading act (listens_quiet post_plan s _ [] l empty_waits) i)

-- ---- an exchange

-- the cause of the last exchange is SessionStop's
last_cause : (ph : CarPhase) (own : EndCause) → end_of ph ≡ Some own → Some own ≡ Some cause.Stopped
last_cause phase.Ending own e = sym e
last_cause other own e = absurd (some_none own (sym e))

ends_so : (post_plan : PostPlan) (plan : CarPlan) (b : Both) (s : State) (own : EndCause) (act : Act) → end_of b.car.phase ≡ Some own → act ≡ End (number_of own) → IsOfExchange post_plan plan b s act
ends_so post_plan plan b s own act e i =
    let stopped : own ≡ cause.Stopped = some_cause own cause.Stopped (last_cause b.car.phase own e) in
    subst (λ (a : Act). IsOfExchange post_plan plan b s a) (sym i) (ap number_of stopped, e ∙ ap (λ (x : EndCause). Some x) stopped)

-- the first thing of an agenda
acts_so : (o : Option Order) (r : Option Spoken) (e : Option EndCause) (c : post.Codecs) (post_plan : PostPlan) (plan : CarPlan) (b : Both) (s : State) (a : Agenda) (todo : Todo) (act : Act) (shown : ℕ)
    → order_by (end_of b.car.phase) s.live (order_of b.post s.facts post_plan (asked plan b.car) shown) ≡ o → end_of b.car.phase ≡ e
    → a ≡ record nothing { order = o; reply = r; ending = e } → first a ≡ Some todo → IsDone c todo act true → IsOfExchange post_plan plan b s act
acts_so (Some o) r e c post_plan plan b s a todo act shown same last is f d =
    let own : todo ≡ states.Give o = some_todo todo (states.Give o) (sym f ∙ ap first is) in
    subst (λ (x : Act). IsOfExchange post_plan plan b s x) (sym (subst (λ (x : Todo). IsDone c x act true) own d)) (shown, same)
acts_so None (Some spoken) e c post_plan plan b s a todo act shown same last is f d =
    let own : todo ≡ states.Say spoken = some_todo todo (states.Say spoken) (sym f ∙ ap first is) in
    let done = subst (λ (x : Todo). IsDone c x act true) own d in
    subst (λ (x : Act). IsOfExchange post_plan plan b s x) (sym done.2) tt
acts_so None None (Some own) c post_plan plan b s a todo act shown same last is f d =
    let finish : todo ≡ states.Finish own = some_todo todo (states.Finish own) (sym f ∙ ap first is) in
    let done = subst (λ (x : Todo). IsDone c x act true) finish d in
    ends_so post_plan plan b s own act last done.0
acts_so None None None c post_plan plan b s a todo act shown same last is f d = absurd (some_none todo (sym f ∙ ap first is))

asks_whole : (c : post.Codecs) (cs : car.Codecs) (post_plan : PostPlan) (plan : CarPlan) (limit : ℕ) (b : Both) (s : State) (reading : Option Reading) (act : Act) (request unread : List ℕ)
    → IsPair c cs post_plan plan → Meets post_plan b → IfRead reading ((later : Facts) (shown : ℕ) → Suits b.car.phase (exchange s.facts later shown)) → cs.Encodes b.car.dialect (request_of plan b.car) request
    → (l : Listens post_plan s b.post unread) → IsPayload request → unread ≡ frame request → Acts c post_plan (Shows limit [] []) s reading act true → IsOfExchange post_plan plan b s act
asks_whole c cs post_plan plan limit b s reading act request unread p meets suited encodes l short u i =
    let still : IsStill post_plan s l.session = l.still in
    let takes : TakesWords b.post.row = meets_takes post_plan b meets in
    let r : ReadsWord c post_plan limit s l.session request reading act true =
    posts_read_words c post_plan limit s l.session request reading act true l.still (ap (λ (x : Stage). is_waiting x.row) l.stage_is ∙ takes.waits) (l.unread_is ∙ u) short i in
    let suits : (later : Facts) (shown : ℕ) → Suits b.car.phase (exchange s.facts later shown) =
    subst (λ (o : Option Reading). IfRead o ((later : Facts) (shown : ℕ) → Suits b.car.phase (exchange s.facts later shown))) r.reading_is suited in
    let dialect_is : speaks l.session.stage ≡ Some b.car.dialect =
    ap speaks l.stage_is ∙ takes.speaks b.post.dialect ∙ ap (λ (d : Dialect). Some d) meets.dialect in
    let judged_is : r.read.judged ≡ post.Asked (asked plan b.car) =
    requests_are_heard c cs p.readings post_plan.dialects.items b.car.dialect (request_of plan b.car) request r.read.judged encodes
    (subst (λ (o : Option Dialect). post.Judges c post_plan.dialects.items o request r.read.judged) dialect_is r.judged) in
    let answered : IsAnswered post_plan plan b (exchange s.facts s.facts r.read.shown) =
    exchanges_go_well post_plan plan b (exchange s.facts s.facts r.read.shown) p.paired meets (suits s.facts r.read.shown) in
    let h : HasAnswered post_plan plan b (exchange s.facts s.facts r.read.shown) (decided post_plan s) l.session (filled post_plan (Some (record { judged = post.Asked (asked plan b.car); shown = r.read.shown })) s) =
    posts_answer post_plan plan b (exchange s.facts s.facts r.read.shown) s l.session answered (same_session post_plan s ∙ still.session_is) l.stage_is (ap (λ (x : State). x.facts) still.stays) in
    let is : filled post_plan (Some r.read) s ≡ filled post_plan (Some (record { judged = post.Asked (asked plan b.car); shown = r.read.shown })) s =
    ap (λ (w : post.Judged). filled post_plan (Some (record { judged = w; shown = r.read.shown })) s) judged_is in
    acts_so (order_by (end_of b.car.phase) s.live (order_of b.post s.facts post_plan (asked plan b.car) r.read.shown))
    (if is_waiting (judged post_plan plan b (exchange s.facts s.facts r.read.shown)).row then None else Some (Said b.post.dialect (reply_to b.post s.facts post_plan (asked plan b.car) r.read.shown)))
    (end_of b.car.phase) c post_plan plan b s _ r.todo act r.read.shown refl refl
    (h.agenda ∙ ap (λ (live : Bool). record nothing {
      order = order_by (end_of b.car.phase) live (order_of b.post s.facts post_plan (asked plan b.car) r.read.shown);
      reply = if is_waiting (judged post_plan plan b (exchange s.facts s.facts r.read.shown)).row then None else Some (Said b.post.dialect (reply_to b.post s.facts post_plan (asked plan b.car) r.read.shown));
      ending = end_of b.car.phase;
    }) (same_live post_plan s))
    (ap (λ (x : State). first x.agenda) (sym is) ∙ r.acts) r.done

asks_front : (c : post.Codecs) (cs : car.Codecs) (post_plan : PostPlan) (plan : CarPlan) (limit : ℕ) (b : Both) (s : State) (reading : Option Reading) (act : Act) (request unread way : List ℕ)
    → IsPair c cs post_plan plan → Meets post_plan b → IfRead reading ((later : Facts) (shown : ℕ) → Suits b.car.phase (exchange s.facts later shown)) → cs.Encodes b.car.dialect (request_of plan b.car) request
    → Listens post_plan s b.post unread → Comes request unread way → Front request unread way → Acts c post_plan (Shows limit [] []) s reading act true → IsOfExchange post_plan plan b s act
asks_front c cs post_plan plan limit b s reading act request unread way p meets suits encodes l k (OnItsWay w) i =
    absurd (quiet_acts c post_plan limit s reading act (listens_quiet post_plan s b.post unread l w) i)
asks_front c cs post_plan plan limit b s reading act request unread way p meets suits encodes l k (Whole u n) i =
    asks_whole c cs post_plan plan limit b s reading act request unread p meets suits encodes l k.short u i

replies_act : (c : post.Codecs) (post_plan : PostPlan) (plan : CarPlan) (limit : ℕ) (b : Both) (s : State) (reading : Option Reading) (act : Act) (stage : Stage) (spoken : Spoken) (e : Option EndCause)
    → IsToSend post_plan s stage spoken e → Acts c post_plan (Shows limit [] []) s reading act true → IsOfExchange post_plan plan b s act
replies_act c post_plan plan limit b s reading act stage spoken e t i =
    let d : DoesFirst c (states.Say spoken) reading act true = posts_do_what_is_first c post_plan limit s (states.Say spoken) reading act true (ap first t.agenda_is) i in
    let done = d.done in
    subst (λ (x : Act). IsOfExchange post_plan plan b s x) (sym done.2) tt

leaves_act : (o : Option EndCause) (c : post.Codecs) (post_plan : PostPlan) (plan : CarPlan) (limit : ℕ) (b : Both) (s : State) (reading : Option Reading) (act : Act) (stage : Stage) → end_of b.car.phase ≡ o
    → GoesOnBy o post_plan s stage → Acts c post_plan (Shows limit [] []) s reading act true → IsOfExchange post_plan plan b s act
leaves_act None c post_plan plan limit b s reading act stage e l i = absurd (quiet_acts c post_plan limit s reading act (listens_quiet post_plan s stage [] l empty_waits) i)
leaves_act (Some own) c post_plan plan limit b s reading act stage e (inr g) i = absurd (quiet_acts c post_plan limit s reading act (gone_quiet post_plan s g) i)
leaves_act (Some own) c post_plan plan limit b s reading act stage e (inl t) i =
    let busy : first s.agenda ≡ Some (states.Finish own) = ap first t.agenda_is in
    let d : DoesFirst c (states.Finish own) reading act true =
    posts_do_what_is_first c post_plan limit s (states.Finish own) reading act true (ap (λ (x : State). first x.agenda) (stays_busy post_plan s (states.Finish own) busy) ∙ busy) i in
    let done = d.done in
    ends_so post_plan plan b s own act e done.0

talks_act : (c : post.Codecs) (cs : car.Codecs) (post_plan : PostPlan) (plan : CarPlan) (limit : ℕ) (b : Both) (s : State) (k : car_states.State) (to_station to_car : List ℕ) (reading : Option Reading) (act : Act)
    → IsPair c cs post_plan plan → Meets post_plan b → IfRead reading ((later : Facts) (shown : ℕ) → Suits b.car.phase (exchange s.facts later shown)) → Talks c cs post_plan plan b s k to_station to_car
    → Acts c post_plan (Shows limit [] []) s reading act true → IsOfExchange post_plan plan b s act
talks_act c cs post_plan plan limit b s k to_station to_car reading act p m suits (IsToAsk order l say none) i = absurd (quiet_acts c post_plan limit s reading act (listens_quiet post_plan s b.post [] l empty_waits) i)
talks_act c cs post_plan plan limit b s k to_station to_car reading act p m suits (Rests l pauses none) i = absurd (quiet_acts c post_plan limit s reading act (listens_quiet post_plan s b.post [] l empty_waits) i)
talks_act c cs post_plan plan limit b s k to_station to_car reading act p m suits (Asks request unread encodes l a comes e) i =
    asks_front c cs post_plan plan limit b s reading act request unread to_station p m suits encodes l comes (front request unread to_station comes) i
talks_act c cs post_plan plan limit b s k to_station to_car reading act p m suits (IsToReply facts later shown fits send a none) i = replies_act c post_plan plan limit b s reading act _ _ _ send i
talks_act c cs post_plan plan limit b s k to_station to_car reading act p m suits (Closes facts shown fits last l w a none) i = absurd (quiet_acts c post_plan limit s reading act (waits_quiet post_plan s _ [] l w) i)
talks_act c cs post_plan plan limit b s k to_station to_car reading act p m suits (Replies facts later shown payload unread fits encodes goes a e comes) i =
    leaves_act (end_of b.car.phase) c post_plan plan limit b s reading act (behind post_plan plan b (exchange facts later shown)).post refl goes i

ends_act : (c : post.Codecs) (post_plan : PostPlan) (plan : CarPlan) (limit : ℕ) (s : State) (k : car_states.State) (to_station to_car : List ℕ) (reading : Option Reading) (act : Act)
    → Ends post_plan plan s k to_station to_car → Acts c post_plan (Shows limit [] []) s reading act true → ⊥
ends_act c post_plan plan limit s k to_station to_car reading act (IsToStop order g finish none) i = quiet_acts c post_plan limit s reading act (gone_quiet post_plan s g) i
ends_act c post_plan plan limit s k to_station to_car reading act (Stopped g ended none) i = quiet_acts c post_plan limit s reading act (gone_quiet post_plan s g) i

by_end : (x : Bool) (c : post.Codecs) (cs : car.Codecs) (post_plan : PostPlan) (plan : CarPlan) (limit : ℕ) (b : Both) (s : State) (k : car_states.State) (to_station to_car : List ℕ) (reading : Option Reading) (act : Act)
    → IsPair c cs post_plan plan → Meets post_plan b → IfRead reading ((later : Facts) (shown : ℕ) → Suits b.car.phase (exchange s.facts later shown)) → TalksBy x c cs post_plan plan b s k to_station to_car
    → Acts c post_plan (Shows limit [] []) s reading act true → IsOfExchange post_plan plan b s act
by_end true c cs post_plan plan limit b s k to_station to_car reading act p m suits t i = absurd (ends_act c post_plan plan limit s k to_station to_car reading act t i)
by_end false c cs post_plan plan limit b s k to_station to_car reading act p m suits t i = talks_act c cs post_plan plan limit b s k to_station to_car reading act p m suits t i

pub posts_act : (c : post.Codecs) (cs : car.Codecs) → PostsAct c cs
posts_act c cs post_plan plan limit NoneYet s k to_station to_car reading act p phase suits i = begins_act c cs post_plan plan limit s k to_station to_car reading act p phase i
posts_act c cs post_plan plan limit (Read dialect xs) s k to_station to_car reading act p phase suits i =
    by_end (has_ended post_plan plan token dialect xs) c cs post_plan plan limit (both post_plan plan token dialect xs) s k to_station to_car reading act p
    (they_meet post_plan plan token dialect xs p.paired phase.0) suits phase.1 i
