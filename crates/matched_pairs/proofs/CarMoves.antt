-- In the phases of a session a car that does something goes on by it, and finds the post's contactor open.
use Rattle.std.proofs.Common.{◌≡◌, ℕ, Bool, true, false, not, ◌&&◌, if◌then◌else◌, List, [], Option, Some, None, refl, ap, sym, ◌∙◌}
use Rattle.charge_world.specs.declared.ports.Order.{Order}
use Rattle.session_words.specs.declared.cause.EndCause.{EndCause}
use Rattle.session_words.specs.declared.plan.CarPlan.{CarPlan}
use Rattle.session_words.specs.declared.plan.PostPlan.{PostPlan}
use Rattle.session_rules.specs.declared.stage.Stage.{Stage}
use Rattle.post_spec.specs.Codecs as post
use Rattle.station_spec.specs.States.{State}
use Rattle.car_rules.specs.declared.stage.CarStage.{CarStage}
use Rattle.car_spec.specs.Codecs as car
use Rattle.car_spec.specs.Steps as car_steps
use Rattle.car_spec.specs.States as car_states
use Rattle.car_spec.specs.Deciding as car_deciding
use Rattle.car_spec.specs.Next as car_next
use Rattle.pipe_spec.specs.Histories.{token}
use Rattle.pair_words.specs.Exchanges.{Both}
use Rattle.pair_words.specs.Meeting.{Meets}
use Rattle.pair_words.specs.Laws.{both, has_ended}
use Rattle.pair_words.proofs.Sessions.{they_meet}
use Rattle.matched_pairs.specs.Ends.{Listens, IsToSay, IsToFinish}
use Rattle.matched_pairs.specs.Phases.{Begins, IsToOffer, Offered, Offers, Responded, Talks, IsToAsk, Rests, Asks, IsToReply, Closes, Replies, Ends, IsToStop, Stopped, Words, NoneYet, Read, TalksBy, IsIn}
use Rattle.matched_pairs.specs.Moves.{IsPair}
use Rattle.matched_pairs.proofs.Answers.{TakesWords, meets_takes}
use Rattle.matched_pairs.proofs.CarPhases.{still_acts, ended_acts, ended_reads}
use Rattle.matched_pairs.proofs.Courses.{talks_live, begins_live}
use Rattle.matched_pairs.specs.Contactors.{IsClosing}
use Rattle.matched_pairs.proofs.Contactors.{not_closing}

some_none : {A : Type 0} (a : A) → Some a ≡ None → ⊥
some_none a e = cc

-- it hasn't ended, more is left than an order, and the contactor of the post doesn't close
pub record GoesOn (plan : CarPlan) (s : State) (k : car_states.State) : Type 0 where
  pub live : k.over ≡ false
  pub more : (a : car_states.Agenda) → a ≡ (car_deciding.decided plan k).agenda → record a { order = None } ≡ car_states.nothing → ⊥
  pub unclosing : IsClosing s → ⊥

says_more : (plan : CarPlan) (k : car_states.State) (stage : Option CarStage) (order : Option Order) (spoken : car_steps.Spoken) → IsToSay plan k stage order spoken → (a : car_states.Agenda)
    → a ≡ (car_deciding.decided plan k).agenda → record a { order = None } ≡ car_states.nothing → ⊥
says_more plan k stage order spoken t a e n =
    some_none spoken (ap (λ (x : car_states.Agenda). x.spoken) (sym (e ∙ t.agenda_is)) ∙ ap (λ (x : car_states.Agenda). x.spoken) n)

busy : (o : Option Order) (why : EndCause) → car_states.is_done (record car_states.nothing { order = o; ending = Some why }) ≡ false
busy None why = refl
busy (Some o) why = refl

finishes_more : (plan : CarPlan) (k : car_states.State) (order : Option Order) (why : EndCause) → IsToFinish plan k order why → (a : car_states.Agenda) → a ≡ (car_deciding.decided plan k).agenda
    → record a { order = None } ≡ car_states.nothing → ⊥
finishes_more plan k order why t a e n =
    let stays : car_deciding.decided plan k ≡ k =
    ap (λ (b : Bool). if b && not k.over then car_deciding.from_part plan k.part k else k) (ap car_states.is_done t.agenda_is ∙ busy order why) in
    let is : a ≡ record car_states.nothing { order = order; ending = Some why } = e ∙ ap (λ (x : car_states.State). x.agenda) stays ∙ t.agenda_is in
    some_none why (ap (λ (x : car_states.Agenda). x.ending) (sym is) ∙ ap (λ (x : car_states.Agenda). x.ending) n)

none_closing : (s : State) → s.session ≡ None → IsClosing s → ⊥
none_closing s e k = some_none k.session (sym k.session_is ∙ e)

listens_open : (post_plan : PostPlan) (s : State) (b : Both) (unread : List ℕ) → Meets post_plan b → Listens post_plan s b.post unread → IsClosing s → ⊥
listens_open post_plan s b unread m l k =
    let takes : TakesWords b.post.row = meets_takes post_plan b m in
    let still = l.still in
    not_closing s l.session b.post.row still.session_is (ap (λ (x : Stage). x.row) l.stage_is) takes.waits k

begins_on : (c : post.Codecs) (cs : car.Codecs) (post_plan : PostPlan) (plan : CarPlan) (s : State) (k : car_states.State) (ts tc : List ℕ) (act : car_steps.Act) → Begins c cs post_plan plan s k ts tc
    → car_next.MayAct cs plan k act true → GoesOn plan s k
begins_on c cs post_plan plan s k ts tc act (IsToOffer come say none) i = record { live = say.goes_on; more = says_more plan k None None _ say; unclosing = none_closing s come.session }
begins_on c cs post_plan plan s k ts tc act (Offered request offers come a comes e) i = absurd (still_acts cs plan k a.session act a.still i)
begins_on c cs post_plan plan s k ts tc act (Offers request unread offers l a comes e) i = absurd (still_acts cs plan k a.session act a.still i)
begins_on c cs post_plan plan s k ts tc act (Responded request unread begun l a e comes) i = absurd (still_acts cs plan k a.session act a.still i)

talks_on : (c : post.Codecs) (cs : car.Codecs) (post_plan : PostPlan) (plan : CarPlan) (b : Both) (s : State) (k : car_states.State) (ts tc : List ℕ) (act : car_steps.Act) → Meets post_plan b
    → Talks c cs post_plan plan b s k ts tc → car_next.MayAct cs plan k act true → GoesOn plan s k
talks_on c cs post_plan plan b s k ts tc act m (IsToAsk order l say none) i = record { live = say.goes_on; more = says_more plan k (Some b.car) order _ say; unclosing = listens_open post_plan s b [] m l }
talks_on c cs post_plan plan b s k ts tc act m (Rests l a none) i = absurd (still_acts cs plan k a.session act a.still i)
talks_on c cs post_plan plan b s k ts tc act m (Asks request unread encodes l a comes e) i = absurd (still_acts cs plan k a.session act a.still i)
talks_on c cs post_plan plan b s k ts tc act m (IsToReply facts later shown fits send a none) i = absurd (still_acts cs plan k a.session act a.still i)
talks_on c cs post_plan plan b s k ts tc act m (Closes facts shown fits last l w a none) i = absurd (still_acts cs plan k a.session act a.still i)
talks_on c cs post_plan plan b s k ts tc act m (Replies facts later shown payload unread fits encodes goes a e comes) i = absurd (still_acts cs plan k a.session act a.still i)

ends_on : (cs : car.Codecs) (post_plan : PostPlan) (plan : CarPlan) (s : State) (k : car_states.State) (ts tc : List ℕ) (act : car_steps.Act) → Ends post_plan plan s k ts tc → car_next.MayAct cs plan k act true → GoesOn plan s k
ends_on cs post_plan plan s k ts tc act (IsToStop order g finish none) i = record { live = finish.goes_on; more = finishes_more plan k order _ finish; unclosing = none_closing s g.session }
ends_on cs post_plan plan s k ts tc act (Stopped g ended none) i = absurd (ended_acts cs plan k act ended i)

by_end : (x : Bool) (c : post.Codecs) (cs : car.Codecs) (post_plan : PostPlan) (plan : CarPlan) (b : Both) (s : State) (k : car_states.State) (ts tc : List ℕ) (act : car_steps.Act) → Meets post_plan b
    → TalksBy x c cs post_plan plan b s k ts tc → car_next.MayAct cs plan k act true → GoesOn plan s k
by_end true c cs post_plan plan b s k ts tc act m t i = ends_on cs post_plan plan s k ts tc act t i
by_end false c cs post_plan plan b s k ts tc act m t i = talks_on c cs post_plan plan b s k ts tc act m t i

pub acts_on : (words : Words) (c : post.Codecs) (cs : car.Codecs) (post_plan : PostPlan) (plan : CarPlan) (s : State) (k : car_states.State) (ts tc : List ℕ) (act : car_steps.Act) → IsPair c cs post_plan plan
    → IsIn c cs post_plan plan words s k ts tc → car_next.MayAct cs plan k act true → GoesOn plan s k
acts_on NoneYet c cs post_plan plan s k ts tc act p phase i = begins_on c cs post_plan plan s k ts tc act phase i
acts_on (Read dialect xs) c cs post_plan plan s k ts tc act p phase i =
    by_end (has_ended post_plan plan token dialect xs) c cs post_plan plan (both post_plan plan token dialect xs) s k ts tc act (they_meet post_plan plan token dialect xs p.paired phase.0) phase.1 i

-- one that reads something hasn't ended either
ends_live : (cs : car.Codecs) (post_plan : PostPlan) (plan : CarPlan) (s : State) (k : car_states.State) (ts tc : List ℕ) (w : car.Judged) → Ends post_plan plan s k ts tc → car_next.MayRead cs plan k w → k.over ≡ false
ends_live cs post_plan plan s k ts tc w (IsToStop order g finish none) i = finish.goes_on
ends_live cs post_plan plan s k ts tc w (Stopped g ended none) i = absurd (ended_reads cs plan k w ended i)

live_by : (x : Bool) (c : post.Codecs) (cs : car.Codecs) (post_plan : PostPlan) (plan : CarPlan) (b : Both) (s : State) (k : car_states.State) (ts tc : List ℕ) (w : car.Judged)
    → TalksBy x c cs post_plan plan b s k ts tc → car_next.MayRead cs plan k w → k.over ≡ false
live_by true c cs post_plan plan b s k ts tc w t i = ends_live cs post_plan plan s k ts tc w t i
live_by false c cs post_plan plan b s k ts tc w t i = talks_live c cs post_plan plan b s k ts tc t

pub reads_live : (words : Words) (c : post.Codecs) (cs : car.Codecs) (post_plan : PostPlan) (plan : CarPlan) (s : State) (k : car_states.State) (ts tc : List ℕ) (w : car.Judged) → IsIn c cs post_plan plan words s k ts tc
    → car_next.MayRead cs plan k w → k.over ≡ false
reads_live NoneYet c cs post_plan plan s k ts tc w phase i = begins_live c cs post_plan plan s k ts tc phase
reads_live (Read dialect xs) c cs post_plan plan s k ts tc w phase i = live_by _ c cs post_plan plan _ s k ts tc w phase.1 i

-- before a dialect is chosen its session has no stage
stage_of : (x y : car_states.Session) → Some x ≡ Some y → x.stage ≡ None → y.stage ≡ None
stage_of x y e n = cc

no_stage : (k : car_states.State) (x y : car_states.Session) → k.session ≡ Some x → x.stage ≡ None → k.session ≡ Some y → y.stage ≡ None
no_stage k x y e n f = let same : Some x ≡ Some y = sym e ∙ f in stage_of x y same n

pub begins_unstaged : (c : post.Codecs) (cs : car.Codecs) (post_plan : PostPlan) (plan : CarPlan) (s : State) (k : car_states.State) (ts tc : List ℕ) → Begins c cs post_plan plan s k ts tc → (y : car_states.Session)
    → k.session ≡ Some y → y.stage ≡ None
begins_unstaged c cs post_plan plan s k ts tc (IsToOffer come say none) y e = no_stage k say.session y say.session_is say.stage_is e
begins_unstaged c cs post_plan plan s k ts tc (Offered request offers come a comes n) y e = let still = a.still in no_stage k a.session y still.session_is a.stage_is e
begins_unstaged c cs post_plan plan s k ts tc (Offers request unread offers l a comes n) y e = let still = a.still in no_stage k a.session y still.session_is a.stage_is e
begins_unstaged c cs post_plan plan s k ts tc (Responded request unread begun l a n comes) y e = let still = a.still in no_stage k a.session y still.session_is a.stage_is e
