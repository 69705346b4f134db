-- Behind a turn that brought no bytes a post has no whole word.
use Rattle.std.proofs.Common.{◌≡◌, ℕ, Bool, true, false, if◌then◌else◌, List, [], ◌∷◌, ◌++◌, Option, Some, None, Result, Ok, refl, ap, sym, subst, ◌∙◌, inl, inr}
use Rattle.std.proofs.lemmas.List.{append-nil}
use Rattle.std.specs.List.{AllByRecursion}
use Rattle.std.specs.Option.{option_map}
use Rattle.charge_world.specs.declared.ports.Order.{Order}
use Rattle.session_words.specs.declared.cause.EndCause.{EndCause}
use Rattle.session_words.specs.declared.plan.CarPlan.{CarPlan}
use Rattle.session_words.specs.declared.plan.PostPlan.{PostPlan}
use Rattle.v2gtp_frames.specs.declared.FrameFault.{FrameFault}
use Rattle.v2gtp_frames.specs.Reading.{whole_at}
use Rattle.session_rules.specs.declared.stage.Stage.{Stage}
use Rattle.session_rules.specs.Stages.{first_stage, is_waiting}
use Rattle.post_spec.specs.Codecs as post
use Rattle.post_spec.specs.Steps.{Act, Give, Send, Answer, End, Reading}
use Rattle.station_spec.specs.States.{Session, State, is_done, first}
use Rattle.station_spec.specs.States as states
use Rattle.station_spec.specs.Deciding.{decided}
use Rattle.station_spec.specs.Hearing.{session_opened, with_bytes}
use Rattle.station_spec.specs.Judging.{Payload, payload_by, payload_in, filled, IsRead}
use Rattle.station_spec.specs.Acting.{since_order, replied, acted}
use Rattle.station_spec.specs.Next.{IsQuiet, Acts}
use Rattle.station_spec.specs.Sharing.{Shows}
use Rattle.station_laws.proofs.Decided.{same_session}
use Rattle.car_spec.specs.Codecs as car
use Rattle.car_spec.specs.States as car_states
use Rattle.pipe_spec.specs.Histories.{Happening, CarComes, ChargerTells, StationHears, CarHears, TimePasses, StationDoes, CarReads, CarDoes, CarGoes, NumberIsDrawn, joined, token, to_station, to_car}
use Rattle.pipe_spec.specs.Turns.{Station, station_state, car_state, BothRest, Follows}
use Rattle.pipe_spec.specs.Runs.{IsRun, IsWithin}
use Rattle.pipe_laws.specs.OneMessage.{IsShort}
use Rattle.pipe_facts.specs.InTime.{is_told}
use Rattle.pair_words.specs.Exchanges.{Both}
use Rattle.pair_words.specs.Meeting.{Meets}
use Rattle.pair_words.specs.Laws.{both, has_ended}
use Rattle.pair_words.proofs.Sessions.{they_meet}
use Rattle.pair_deeds.specs.Posts.{IsStill}
use Rattle.pair_deeds.proofs.Posts.{posts_dont_rest_at_words}
use Rattle.matched_pairs.specs.Ends.{Listens, GoesOnBy}
use Rattle.matched_pairs.specs.Phases.{Comes, Begins, IsToOffer, Offered, Offers, Responded, Talks, IsToAsk, Rests, Asks, IsToReply, Closes, Replies, Ends, IsToStop, Stopped, Words, NoneYet, Read, TalksBy, IsIn}
use Rattle.matched_pairs.specs.Moves.{IsPair}
use Rattle.matched_pairs.proofs.Answers.{TakesWords, meets_takes}
use Rattle.matched_pairs.proofs.Messages.{Front, OnItsWay, Whole, front, empty_waits}
use Rattle.matched_pairs.proofs.PostPhases.{since_unread, stays_busy}
use Rattle.matched_pairs.specs.Courses.{AllGoUndisturbed, GoesWell}
use Rattle.matched_pairs.proofs.Courses.{sessions_go_well}
use Rattle.matched_pairs.specs.Told.{WordsAreTold}

true_false : true ≡ false → ⊥
true_false e = cc

some_none : {A : Type 0} (a : A) → Some a ≡ None → ⊥
some_none a e = cc

abbrev pub HasNoneWhole : Option Session → Type 0
HasNoneWhole None = Unit {0}
HasNoneWhole (Some x) = whole_at x.unread ≡ Ok None

-- ---- a post that has nothing to do

none_whole : (s : State) → s.session ≡ None → HasNoneWhole s.session
none_whole s e = subst HasNoneWhole (sym e) tt

listens_whole : (plan : PostPlan) (s : State) (stage : Stage) (unread : List ℕ) → Listens plan s stage unread → whole_at unread ≡ Ok None → HasNoneWhole s.session
listens_whole plan s stage unread l w =
    let still : IsStill plan s l.session = l.still in
    subst HasNoneWhole (sym still.session_is) (ap whole_at l.unread_is ∙ w)

front_whole : (plan : PostPlan) (s : State) (stage : Stage) (payload unread way : List ℕ) → Listens plan s stage unread → is_waiting stage.row ≡ false → Comes payload unread way → IsQuiet plan s → Front payload unread way
    → HasNoneWhole s.session
front_whole plan s stage payload unread way l w k q (OnItsWay f) = listens_whole plan s stage unread l f
front_whole plan s stage payload unread way l w k q (Whole u f) =
    absurd (posts_dont_rest_at_words plan s l.session payload l.still (ap (λ (x : Stage). is_waiting x.row) l.stage_is ∙ w) (l.unread_is ∙ u) k.short q)

goes_whole : (o : Option EndCause) (plan : PostPlan) (s : State) (stage : Stage) → IsQuiet plan s → GoesOnBy o plan s stage → HasNoneWhole s.session
goes_whole None plan s stage q l = listens_whole plan s stage [] l empty_waits
goes_whole (Some why) plan s stage q (inl t) =
    let stays : decided plan s ≡ s = stays_busy plan s (states.Finish why) (ap first t.agenda_is) in
    absurd (some_none (states.Finish why) (sym (ap (λ (x : State). first x.agenda) stays ∙ ap first t.agenda_is) ∙ q.none))
goes_whole (Some why) plan s stage q (inr g) = none_whole s g.session

begins_whole : (c : post.Codecs) (cs : car.Codecs) (post_plan : PostPlan) (plan : CarPlan) (s : State) (k : car_states.State) (ts tc : List ℕ) → IsQuiet post_plan s → Begins c cs post_plan plan s k ts tc → HasNoneWhole s.session
begins_whole c cs post_plan plan s k ts tc q (IsToOffer come say none) = none_whole s come.session
begins_whole c cs post_plan plan s k ts tc q (Offered request offers come a comes n) = none_whole s come.session
begins_whole c cs post_plan plan s k ts tc q (Offers request unread offers l a comes n) = front_whole post_plan s (first_stage token) request unread ts l refl comes q (front request unread ts comes)
begins_whole c cs post_plan plan s k ts tc q (Responded request unread begun l a n comes) = listens_whole post_plan s _ [] l empty_waits

talks_whole : (c : post.Codecs) (cs : car.Codecs) (post_plan : PostPlan) (plan : CarPlan) (b : Both) (s : State) (k : car_states.State) (ts tc : List ℕ) → Meets post_plan b → IsQuiet post_plan s
    → Talks c cs post_plan plan b s k ts tc → HasNoneWhole s.session
talks_whole c cs post_plan plan b s k ts tc m q (IsToAsk order l say none) = listens_whole post_plan s b.post [] l empty_waits
talks_whole c cs post_plan plan b s k ts tc m q (Rests l a none) = listens_whole post_plan s b.post [] l empty_waits
talks_whole c cs post_plan plan b s k ts tc m q (Asks request unread encodes l a comes n) =
    let takes : TakesWords b.post.row = meets_takes post_plan b m in
    front_whole post_plan s b.post request unread ts l takes.waits comes q (front request unread ts comes)
talks_whole c cs post_plan plan b s k ts tc m q (IsToReply facts later shown fits send a none) = subst HasNoneWhole (sym send.session_is) (ap whole_at send.unread_is ∙ empty_waits)
talks_whole c cs post_plan plan b s k ts tc m q (Closes facts shown fits last l w a none) = listens_whole post_plan s _ [] l empty_waits
talks_whole c cs post_plan plan b s k ts tc m q (Replies facts later shown payload unread fits encodes goes a n comes) = goes_whole _ post_plan s _ q goes

ends_whole : (post_plan : PostPlan) (plan : CarPlan) (s : State) (k : car_states.State) (ts tc : List ℕ) → Ends post_plan plan s k ts tc → HasNoneWhole s.session
ends_whole post_plan plan s k ts tc (IsToStop order g finish none) = none_whole s g.session
ends_whole post_plan plan s k ts tc (Stopped g ended none) = none_whole s g.session

by_end : (x : Bool) (c : post.Codecs) (cs : car.Codecs) (post_plan : PostPlan) (plan : CarPlan) (b : Both) (s : State) (k : car_states.State) (ts tc : List ℕ) → Meets post_plan b → IsQuiet post_plan s
    → TalksBy x c cs post_plan plan b s k ts tc → HasNoneWhole s.session
by_end true c cs post_plan plan b s k ts tc m q t = ends_whole post_plan plan s k ts tc t
by_end false c cs post_plan plan b s k ts tc m q t = talks_whole c cs post_plan plan b s k ts tc m q t

quiet_whole : (words : Words) (c : post.Codecs) (cs : car.Codecs) (post_plan : PostPlan) (plan : CarPlan) (s : State) (k : car_states.State) (ts tc : List ℕ) → IsPair c cs post_plan plan → IsQuiet post_plan s
    → IsIn c cs post_plan plan words s k ts tc → HasNoneWhole s.session
quiet_whole NoneYet c cs post_plan plan s k ts tc p q phase = begins_whole c cs post_plan plan s k ts tc q phase
quiet_whole (Read dialect xs) c cs post_plan plan s k ts tc p q phase =
    by_end (has_ended post_plan plan token dialect xs) c cs post_plan plan (both post_plan plan token dialect xs) s k ts tc (they_meet post_plan plan token dialect xs p.paired phase.0) q phase.1

-- ---- it hears no bytes

heard_whole : (arrived : Option ℕ) (o : Option Session) (clock : ℕ) → HasNoneWhole o → HasNoneWhole (option_map (with_bytes []) (session_opened arrived clock o))
heard_whole None None clock k = tt
heard_whole None (Some x) clock k = ap whole_at (append-nil x.unread) ∙ k
heard_whole (Some came) o clock k = empty_waits

-- ---- it does something

either_none : (b : Bool) (x : Session) → whole_at x.unread ≡ Ok None → (if b then None else payload_by (whole_at x.unread) x) ≡ None
either_none true x w = refl
either_none false x w = ap (λ (r : Result (Option ℕ) FrameFault). payload_by r x) w

wants_none : (done : Bool) (o : Option Session) → HasNoneWhole o → (if done then payload_in o else None) ≡ None
wants_none true None k = refl
wants_none true (Some x) k = either_none (is_waiting x.stage.row) x k
wants_none false o k = refl

none_read : (c : post.Codecs) (plan : PostPlan) (limit : ℕ) (s : State) (r : Reading) (act : Act) → HasNoneWhole s.session → Acts c plan (Shows limit [] []) s (Some r) act true → ⊥
none_read c plan limit s r act n i =
    subst (λ (w : Option Payload). IsRead c plan (Shows limit [] []) (decided plan s) w (Some r))
    (wants_none (is_done (decided plan s).agenda) (decided plan s).session (subst HasNoneWhole (sym (same_session plan s)) n)) i.read

ordered_whole : (o : Option Session) (now : ℕ) (x : Order) → HasNoneWhole o → HasNoneWhole (option_map (since_order now x) o)
ordered_whole None now x n = tt
ordered_whole (Some y) now x n = ap whole_at (since_unread now x y) ∙ n

replied_whole : (o : Option Session) (now : ℕ) → HasNoneWhole o → HasNoneWhole (option_map (replied now) o)
replied_whole None now n = tt
replied_whole (Some y) now n = n

acted_whole : (act : Act) (t : State) → HasNoneWhole t.session → HasNoneWhole (acted act true t).session
acted_whole (Give o) t n = ordered_whole t.session t.clock o n
acted_whole (Send bytes) t n = replied_whole t.session t.clock n
acted_whole (Answer bytes) t n = n
acted_whole (End cause) t n = tt

does_whole : (reading : Option Reading) (c : post.Codecs) (plan : PostPlan) (limit : ℕ) (s : State) (act : Act) → Acts c plan (Shows limit [] []) s reading act true → HasNoneWhole s.session
    → HasNoneWhole (acted act true (filled plan reading s)).session
does_whole None c plan limit s act i n = acted_whole act (decided plan s) (subst HasNoneWhole (sym (same_session plan s)) n)
does_whole (Some r) c plan limit s act i n = absurd (none_read c plan limit s r act n i)

-- ---- all that may happen

abbrev pub Untold : Station → List Happening → Type 0
Untold st h = is_told h ≡ false → HasNoneWhole (station_state st h).session

turns : (c : post.Codecs) (cs : car.Codecs) (st : Station) (plan : CarPlan) (h : List Happening) → IsPair c cs st.post plan → GoesWell c cs st plan h → BothRest st h
    → HasNoneWhole (option_map (with_bytes []) (session_opened (station_state st h).arrived (station_state st h).clock (station_state st h).session))
turns c cs st plan h p w r =
    heard_whole (station_state st h).arrived (station_state st h).session (station_state st h).clock
    (quiet_whole w.words c cs st.post plan (station_state st h) (car_state plan h) (to_station h) (to_car h) p r.station_rests w.phase)

step : (e : Happening) (c : post.Codecs) (cs : car.Codecs) (st : Station) (plan : CarPlan) (h : List Happening) → IsPair c cs st.post plan → GoesWell c cs st plan h → IsWithin e → Follows c cs st h e → Untold st h
    → Untold st (e ∷ h)
step (ChargerTells event) c cs st plan h p w i f k = λ e. turns c cs st plan h p w f.rest
step TimePasses c cs st plan h p w i f k = λ e. turns c cs st plan h p w f.rest
step (StationHears bytes) c cs st plan h p w i f k = λ e. absurd (true_false e)
step (CarHears bytes) c cs st plan h p w i f k = λ e. absurd (true_false e)
step (StationDoes reading act) c cs st plan h p w i f k = λ e. does_whole reading c st.post st.limit (station_state st h) act f (k e)
step (CarReads v) c cs st plan h p w i f k = k
step (CarDoes act) c cs st plan h p w i f k = k
step (CarComes other) c cs st plan h p w i f k = absurd (true_false (sym i))
step CarGoes c cs st plan h p w i f k = absurd (true_false (sym i))
step NumberIsDrawn c cs st plan h p w i f k = absurd (true_false (sym i))

untold_in : (c : post.Codecs) (cs : car.Codecs) (st : Station) (plan : CarPlan) (session : List Happening) → IsPair c cs st.post (joined plan) → AllByRecursion IsWithin session → IsRun c cs st (session ++ CarComes plan ∷ [])
    → AllByRecursion (IsShort 65544) (session ++ CarComes plan ∷ []) → AllGoUndisturbed c cs st (joined plan) (session ++ CarComes plan ∷ []) → Untold st (session ++ CarComes plan ∷ [])
untold_in c cs st plan [] p w r l d = λ e. tt
untold_in c cs st plan (e ∷ session) p w r l d =
    step e c cs st (joined plan) (session ++ CarComes plan ∷ []) p
    (sessions_go_well c cs st plan (session ++ CarComes plan ∷ []) p (record { session = session; h_is = refl; within = w.1; run = r.0 }) l.1 d.0)
    w.0 r.1 (untold_in c cs st plan session p w.1 r.0 l.1 d.0)

told_by : (b : Bool) (c : post.Codecs) (st : Station) (h : List Happening) (reading : Reading) (act : Act) → is_told h ≡ b → Untold st h → Acts c st.post (Shows st.limit [] []) (station_state st h) (Some reading) act true
    → is_told h ≡ true
told_by true c st h reading act e k i = e
told_by false c st h reading act e k i = absurd (none_read c st.post st.limit (station_state st h) reading act (k e) i)

pub words_are_told : (c : post.Codecs) (cs : car.Codecs) → WordsAreTold c cs
words_are_told c cs st plan h reading act p f l d i =
    told_by (is_told h) c st h reading act refl
    (subst (λ (x : List Happening). Untold st x) (sym f.h_is)
    (untold_in c cs st plan f.session p f.within (subst (λ (x : List Happening). IsRun c cs st x) f.h_is f.run) (subst (λ (x : List Happening). AllByRecursion (IsShort 65544) x) f.h_is l)
    (subst (λ (x : List Happening). AllGoUndisturbed c cs st (joined plan) x) f.h_is d)))
    i
