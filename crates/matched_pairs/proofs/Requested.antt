-- What a post does in each phase, as it reads a request and as it reads none.
use Rattle.std.proofs.Common.{◌≡◌, ℕ, Bool, true, false, List, [], Option, Some, None, refl, ap, sym, subst, ◌∙◌, inl, inr}
use Rattle.charge_world.specs.declared.offer.Dialect.{Dialect}
use Rattle.session_words.specs.declared.cause.EndCause.{EndCause}
use Rattle.session_words.specs.declared.plan.CarPlan.{CarPlan}
use Rattle.session_words.specs.declared.plan.PostPlan.{PostPlan}
use Rattle.v2gtp_frames.specs.Frames.{frame}
use Rattle.session_rules.specs.declared.stage.Stage.{Stage}
use Rattle.session_rules.specs.Stages.{first_stage, is_waiting}
use Rattle.post_spec.specs.Codecs as post
use Rattle.post_spec.specs.Steps.{Act, Send, End, Reading}
use Rattle.station_spec.specs.States.{Spoken, Agenda, State, first}
use Rattle.station_spec.specs.States as states
use Rattle.station_spec.specs.Next.{Acts}
use Rattle.station_spec.specs.Sharing.{Shows}
use Rattle.car_rules.specs.Requests.{request_of}
use Rattle.car_spec.specs.Codecs as car
use Rattle.car_spec.specs.States as car_states
use Rattle.pipe_spec.specs.Histories.{token}
use Rattle.pair_words.specs.Exchanges.{Both, Outside, behind}
use Rattle.pair_words.specs.Meeting.{Meets}
use Rattle.pair_words.specs.Laws.{both, end_of, has_ended}
use Rattle.pair_words.proofs.Sessions.{they_meet}
use Rattle.pair_deeds.specs.Posts.{IsStill, DoesFirst, ReadsWord}
use Rattle.pair_deeds.proofs.Posts.{posts_do_what_is_first, posts_read_words}
use Rattle.matched_pairs.specs.Ends.{Listens, IsToSend, GoesOnBy, Awaits}
use Rattle.matched_pairs.specs.Phases.{Comes, NothingComes, Begins, IsToOffer, Offered, Offers, Responded, exchange, Talks, IsToAsk, Rests, Asks, IsToReply, Closes, Replies, Ends, IsToStop, Stopped, Words, NoneYet, Read, TalksBy}
use Rattle.matched_pairs.specs.Moves.{IsPair, IfRead}
use Rattle.matched_pairs.proofs.Messages.{Front, OnItsWay, Whole, front, empty_waits}
use Rattle.matched_pairs.proofs.PostPhases.{quiet_acts, come_quiet, gone_quiet, listens_quiet, waits_quiet, stays_busy}
use Rattle.matched_pairs.proofs.Answers.{TakesWords, meets_takes}
use Rattle.matched_pairs.specs.Acts.{IsOfBeginning}
use Rattle.matched_pairs.proofs.PostsDo.{posts_act}
use Rattle.matched_pairs.specs.Requests.{SaysOrEnds, IsOffered, IsAsked, DoesBy, PostsDo}

some_none : {A : Type 0} (a : A) → Some a ≡ None → ⊥
some_none a e = cc

-- of an act that is this one
subst_act : (post_plan : PostPlan) (s : State) (own act : Act) → act ≡ own → SaysOrEnds post_plan s own → SaysOrEnds post_plan s act
subst_act post_plan s own act e h = subst (λ (a : Act). SaysOrEnds post_plan s a) (sym e) h

-- ---- the negotiation

begins_do : (c : post.Codecs) (cs : car.Codecs) (post_plan : PostPlan) (plan : CarPlan) (limit : ℕ) (s : State) (k : car_states.State) (to_station to_car : List ℕ) (reading : Option Reading) (act : Act)
    → IsOfBeginning act → Begins c cs post_plan plan s k to_station to_car → Acts c post_plan (Shows limit [] []) s reading act true → IsOffered s act
begins_do c cs post_plan plan limit s k to_station to_car reading act says (IsToOffer come say none) i = absurd (quiet_acts c post_plan limit s reading act (come_quiet post_plan s token come) i)
begins_do c cs post_plan plan limit s k to_station to_car reading act says (Offered request offers come a comes e) i = absurd (quiet_acts c post_plan limit s reading act (come_quiet post_plan s token come) i)
begins_do c cs post_plan plan limit s k to_station to_car reading act says (Offers request unread offers l a comes e) i =
    let still : IsStill post_plan s l.session = l.still in
    record { session = l.session; session_is = still.session_is; arrived = l.arrived; stage_is = l.stage_is; says = says }
begins_do c cs post_plan plan limit s k to_station to_car reading act says (Responded request unread begun l a e comes) i =
    absurd (quiet_acts c post_plan limit s reading act (listens_quiet post_plan s _ [] l empty_waits) i)

-- ---- an exchange

-- a message that has come whole is read
asks_front : (c : post.Codecs) (post_plan : PostPlan) (plan : CarPlan) (limit : ℕ) (dialect : Dialect) (xs : List Outside) (s : State) (k : car_states.State) (to_station to_car : List ℕ) (r : Reading) (act : Act)
    (request unread : List ℕ) → has_ended post_plan plan token dialect xs ≡ false → Listens post_plan s (both post_plan plan token dialect xs).post unread → Awaits plan k (Some (both post_plan plan token dialect xs).car) []
    → to_car ≡ [] → Front request unread to_station → Acts c post_plan (Shows limit [] []) s (Some r) act true → IsAsked post_plan plan dialect xs s k to_station to_car
asks_front c post_plan plan limit dialect xs s k to_station to_car r act request unread goes l a e (OnItsWay w) i =
    absurd (quiet_acts c post_plan limit s (Some r) act (listens_quiet post_plan s _ unread l w) i)
asks_front c post_plan plan limit dialect xs s k to_station to_car r act request unread goes l a e (Whole u n) i =
    let still : IsStill post_plan s l.session = l.still in
    record {
      goes_on = goes;
      session = l.session;
      session_is = still.session_is;
      arrived = l.arrived;
      stage_is = l.stage_is;
      awaits = a;
      none = record { station = n; car = e };
    }

pub reads_nothing : (c : post.Codecs) (post_plan : PostPlan) (limit : ℕ) (s : State) (stage : Stage) (spoken : Spoken) (ending : Option EndCause) (r : Reading) (act : Act) → IsToSend post_plan s stage spoken ending
    → Acts c post_plan (Shows limit [] []) s (Some r) act true → ⊥
reads_nothing c post_plan limit s stage spoken ending r act t i =
    let d : DoesFirst c (states.Say spoken) (Some r) act true = posts_do_what_is_first c post_plan limit s (states.Say spoken) (Some r) act true (ap first t.agenda_is) i in
    some_none r d.reads_nothing

pub ends_reads : (o : Option EndCause) (c : post.Codecs) (post_plan : PostPlan) (limit : ℕ) (s : State) (r : Reading) (act : Act) (stage : Stage) → GoesOnBy o post_plan s stage
    → Acts c post_plan (Shows limit [] []) s (Some r) act true → ⊥
ends_reads None c post_plan limit s r act stage l i = quiet_acts c post_plan limit s (Some r) act (listens_quiet post_plan s stage [] l empty_waits) i
ends_reads (Some own) c post_plan limit s r act stage (inr g) i = quiet_acts c post_plan limit s (Some r) act (gone_quiet post_plan s g) i
ends_reads (Some own) c post_plan limit s r act stage (inl t) i =
    let busy : first s.agenda ≡ Some (states.Finish own) = ap first t.agenda_is in
    let d : DoesFirst c (states.Finish own) (Some r) act true =
    posts_do_what_is_first c post_plan limit s (states.Finish own) (Some r) act true (ap (λ (x : State). first x.agenda) (stays_busy post_plan s (states.Finish own) busy) ∙ busy) i in
    some_none r d.reads_nothing

talks_read : (c : post.Codecs) (cs : car.Codecs) (post_plan : PostPlan) (plan : CarPlan) (limit : ℕ) (dialect : Dialect) (xs : List Outside) (s : State) (k : car_states.State) (to_station to_car : List ℕ) (r : Reading)
    (act : Act) → has_ended post_plan plan token dialect xs ≡ false → Talks c cs post_plan plan (both post_plan plan token dialect xs) s k to_station to_car → Acts c post_plan (Shows limit [] []) s (Some r) act true
    → IsAsked post_plan plan dialect xs s k to_station to_car
talks_read c cs post_plan plan limit dialect xs s k to_station to_car r act goes (IsToAsk order l say none) i = absurd (quiet_acts c post_plan limit s (Some r) act (listens_quiet post_plan s _ [] l empty_waits) i)
talks_read c cs post_plan plan limit dialect xs s k to_station to_car r act goes (Rests l pauses none) i = absurd (quiet_acts c post_plan limit s (Some r) act (listens_quiet post_plan s _ [] l empty_waits) i)
talks_read c cs post_plan plan limit dialect xs s k to_station to_car r act goes (Asks request unread encodes l a comes e) i =
    asks_front c post_plan plan limit dialect xs s k to_station to_car r act request unread goes l a e (front request unread to_station comes) i
talks_read c cs post_plan plan limit dialect xs s k to_station to_car r act goes (IsToReply facts later shown fits send a none) i = absurd (reads_nothing c post_plan limit s _ _ _ r act send i)
talks_read c cs post_plan plan limit dialect xs s k to_station to_car r act goes (Closes facts shown fits last l w a none) i = absurd (quiet_acts c post_plan limit s (Some r) act (waits_quiet post_plan s _ [] l w) i)
talks_read c cs post_plan plan limit dialect xs s k to_station to_car r act goes (Replies facts later shown payload unread fits encodes ends a e comes) i = absurd (ends_reads _ c post_plan limit s r act _ ends i)

-- without a request
pub whole_is_read : (c : post.Codecs) (post_plan : PostPlan) (limit : ℕ) (b : Both) (s : State) (act : Act) (request unread way : List ℕ) → Meets post_plan b → Listens post_plan s b.post unread → Comes request unread way
    → Front request unread way → Acts c post_plan (Shows limit [] []) s None act true → ⊥
whole_is_read c post_plan limit b s act request unread way m l k (OnItsWay w) i = quiet_acts c post_plan limit s None act (listens_quiet post_plan s b.post unread l w) i
whole_is_read c post_plan limit b s act request unread way m l k (Whole u n) i =
    let takes : TakesWords b.post.row = meets_takes post_plan b m in
    let r : ReadsWord c post_plan limit s l.session request None act true =
    posts_read_words c post_plan limit s l.session request None act true l.still (ap (λ (x : Stage). is_waiting x.row) l.stage_is ∙ takes.waits) (l.unread_is ∙ u) k.short i in
    some_none r.read (sym r.reading_is)

says_so : (c : post.Codecs) (post_plan : PostPlan) (limit : ℕ) (s : State) (stage : Stage) (spoken : Spoken) (ending : Option EndCause) (act : Act) → IsToSend post_plan s stage spoken ending
    → Acts c post_plan (Shows limit [] []) s None act true → SaysOrEnds post_plan s act
says_so c post_plan limit s stage spoken ending act t i =
    let d : DoesFirst c (states.Say spoken) None act true = posts_do_what_is_first c post_plan limit s (states.Say spoken) None act true (ap first t.agenda_is) i in
    let done = d.done in
    subst_act post_plan s (Send done.0) act done.2 (spoken, ap (λ (a : Agenda). a.reply) t.agenda_is)

leaves_so : (o : Option EndCause) (c : post.Codecs) (post_plan : PostPlan) (limit : ℕ) (s : State) (act : Act) (stage : Stage) → GoesOnBy o post_plan s stage
    → Acts c post_plan (Shows limit [] []) s None act true → SaysOrEnds post_plan s act
leaves_so None c post_plan limit s act stage l i = absurd (quiet_acts c post_plan limit s None act (listens_quiet post_plan s stage [] l empty_waits) i)
leaves_so (Some own) c post_plan limit s act stage (inr g) i = absurd (quiet_acts c post_plan limit s None act (gone_quiet post_plan s g) i)
leaves_so (Some own) c post_plan limit s act stage (inl t) i =
    let busy : first s.agenda ≡ Some (states.Finish own) = ap first t.agenda_is in
    let d : DoesFirst c (states.Finish own) None act true =
    posts_do_what_is_first c post_plan limit s (states.Finish own) None act true (ap (λ (x : State). first x.agenda) (stays_busy post_plan s (states.Finish own) busy) ∙ busy) i in
    let done = d.done in
    subst_act post_plan s (End _) act done.0 (own, ap (λ (a : Agenda). a.ending) t.agenda_is)

talks_do : (c : post.Codecs) (cs : car.Codecs) (post_plan : PostPlan) (plan : CarPlan) (limit : ℕ) (b : Both) (s : State) (k : car_states.State) (to_station to_car : List ℕ) (act : Act) → Meets post_plan b
    → Talks c cs post_plan plan b s k to_station to_car → Acts c post_plan (Shows limit [] []) s None act true → SaysOrEnds post_plan s act
talks_do c cs post_plan plan limit b s k to_station to_car act m (IsToAsk order l say none) i = absurd (quiet_acts c post_plan limit s None act (listens_quiet post_plan s _ [] l empty_waits) i)
talks_do c cs post_plan plan limit b s k to_station to_car act m (Rests l pauses none) i = absurd (quiet_acts c post_plan limit s None act (listens_quiet post_plan s _ [] l empty_waits) i)
talks_do c cs post_plan plan limit b s k to_station to_car act m (Asks request unread encodes l a comes e) i =
    absurd (whole_is_read c post_plan limit b s act request unread to_station m l comes (front request unread to_station comes) i)
talks_do c cs post_plan plan limit b s k to_station to_car act m (IsToReply facts later shown fits send a none) i = says_so c post_plan limit s _ _ _ act send i
talks_do c cs post_plan plan limit b s k to_station to_car act m (Closes facts shown fits last l w a none) i = absurd (quiet_acts c post_plan limit s None act (waits_quiet post_plan s _ [] l w) i)
talks_do c cs post_plan plan limit b s k to_station to_car act m (Replies facts later shown payload unread fits encodes ends a e comes) i = leaves_so _ c post_plan limit s act _ ends i

pub ends_do : (c : post.Codecs) (post_plan : PostPlan) (plan : CarPlan) (limit : ℕ) (s : State) (k : car_states.State) (to_station to_car : List ℕ) (reading : Option Reading) (act : Act)
    → Ends post_plan plan s k to_station to_car → Acts c post_plan (Shows limit [] []) s reading act true → ⊥
ends_do c post_plan plan limit s k to_station to_car reading act (IsToStop order g finish none) i = quiet_acts c post_plan limit s reading act (gone_quiet post_plan s g) i
ends_do c post_plan plan limit s k to_station to_car reading act (Stopped g ended none) i = quiet_acts c post_plan limit s reading act (gone_quiet post_plan s g) i

reads_by : (x : Bool) (c : post.Codecs) (cs : car.Codecs) (post_plan : PostPlan) (plan : CarPlan) (limit : ℕ) (dialect : Dialect) (xs : List Outside) (s : State) (k : car_states.State) (to_station to_car : List ℕ)
    (r : Reading) (act : Act) → has_ended post_plan plan token dialect xs ≡ x → TalksBy x c cs post_plan plan (both post_plan plan token dialect xs) s k to_station to_car
    → Acts c post_plan (Shows limit [] []) s (Some r) act true → IsAsked post_plan plan dialect xs s k to_station to_car
reads_by true c cs post_plan plan limit dialect xs s k to_station to_car r act e t i = absurd (ends_do c post_plan plan limit s k to_station to_car (Some r) act t i)
reads_by false c cs post_plan plan limit dialect xs s k to_station to_car r act e t i = talks_read c cs post_plan plan limit dialect xs s k to_station to_car r act e t i

does_by : (x : Bool) (c : post.Codecs) (cs : car.Codecs) (post_plan : PostPlan) (plan : CarPlan) (limit : ℕ) (b : Both) (s : State) (k : car_states.State) (to_station to_car : List ℕ) (act : Act) → Meets post_plan b
    → TalksBy x c cs post_plan plan b s k to_station to_car → Acts c post_plan (Shows limit [] []) s None act true → SaysOrEnds post_plan s act
does_by true c cs post_plan plan limit b s k to_station to_car act m t i = absurd (ends_do c post_plan plan limit s k to_station to_car None act t i)
does_by false c cs post_plan plan limit b s k to_station to_car act m t i = talks_do c cs post_plan plan limit b s k to_station to_car act m t i

suits_at_once : (reading : Option Reading) → IfRead reading (Unit {0})
suits_at_once None = tt
suits_at_once (Some r) = tt

pub posts_do : (c : post.Codecs) (cs : car.Codecs) → PostsDo c cs
posts_do c cs post_plan plan limit NoneYet s k to_station to_car reading act p phase i =
    begins_do c cs post_plan plan limit s k to_station to_car reading act (posts_act c cs post_plan plan limit NoneYet s k to_station to_car reading act p phase (suits_at_once reading) i) phase i
posts_do c cs post_plan plan limit (Read dialect xs) s k to_station to_car (Some r) act p phase i =
    reads_by (has_ended post_plan plan token dialect xs) c cs post_plan plan limit dialect xs s k to_station to_car r act refl phase.1 i
posts_do c cs post_plan plan limit (Read dialect xs) s k to_station to_car None act p phase i =
    does_by (has_ended post_plan plan token dialect xs) c cs post_plan plan limit (both post_plan plan token dialect xs) s k to_station to_car act (they_meet post_plan plan token dialect xs p.paired phase.0) phase.1 i
