-- What comes to a car in each phase, and that no reply waits in a step that is asked for again.
use Rattle.std.proofs.Common.{◌≡◌, ℕ, Bool, true, false, List, [], Option, Some, None, refl, ap, sym, subst, ◌∙◌, inl, inr}
use Rattle.charge_world.specs.declared.ports.Order.{Order}
use Rattle.session_words.specs.declared.cause.EndCause.{EndCause}
use Rattle.session_words.specs.declared.cause.EndCause.TheVariants as cause
use Rattle.session_words.specs.declared.plan.CarPlan.{CarPlan}
use Rattle.session_words.specs.declared.plan.PostPlan.{PostPlan}
use Rattle.session_rules.specs.declared.stage.Stage.{Stage}
use Rattle.session_rules.specs.Stages.{is_waiting}
use Rattle.post_spec.specs.Codecs as post
use Rattle.station_spec.specs.States.{Spoken, State, first}
use Rattle.station_spec.specs.States as states
use Rattle.station_spec.specs.Deciding.{decided}
use Rattle.car_rules.specs.declared.stage.CarPhase.{CarPhase}
use Rattle.car_rules.specs.declared.stage.CarPhase.TheVariants as phase
use Rattle.car_rules.specs.declared.stage.CarStage.{CarStage}
use Rattle.car_spec.specs.Codecs as car
use Rattle.car_spec.specs.Steps as car_steps
use Rattle.car_spec.specs.States as car_states
use Rattle.car_spec.specs.Judging.{dialect_of}
use Rattle.car_spec.specs.Next.{MayAct, MayRead}
use Rattle.pipe_spec.specs.Histories.{token}
use Rattle.pair_words.specs.Exchanges.{Both, behind}
use Rattle.pair_words.specs.Meeting.{Meets}
use Rattle.pair_words.specs.Laws.{both, end_of, has_ended, IsAnswered, is_repeated}
use Rattle.pair_words.proofs.Exchanges.{exchanges_go_well}
use Rattle.pair_words.proofs.Sessions.{they_meet}
use Rattle.pair_deeds.specs.Posts.{IsStill}
use Rattle.pair_deeds.specs.Cars as cars
use Rattle.pair_deeds.proofs.Cars.{cars_read_words}
use Rattle.matched_pairs.specs.Ends.{Listens, IsGone, GoesOnBy, Awaits, IsToFinish}
use Rattle.matched_pairs.specs.Phases.{Comes, Begins, IsToOffer, Offered, Offers, Responded, exchange, Talks, IsToAsk, Rests, Asks, IsToReply, Closes, Replies, Ends, IsToStop, Stopped, Words, NoneYet, Read, TalksBy, IsIn}
use Rattle.matched_pairs.specs.Moves.{IsPair}
use Rattle.matched_pairs.proofs.Messages.{Front, OnItsWay, Whole, front, empty_waits}
use Rattle.matched_pairs.proofs.PostPhases.{stays_busy}
use Rattle.matched_pairs.proofs.Answers.{TakesWords, meets_takes}
use Rattle.matched_pairs.proofs.CarPhases.{still_acts, ended_acts, awaits_reads, pauses_reads, ended_reads, say_reads, finish_reads, DrivesLast, drives_last, Finishes, finishes}
use Rattle.matched_pairs.proofs.CarMoves.{begins_unstaged}
use Rattle.matched_pairs.proofs.Starting.{waits_for_start}
use Rattle.matched_pairs.proofs.Pending.{WaitsIn}

some_none : {A : Type 0} (a : A) → Some a ≡ None → ⊥
some_none a e = cc

false_true : false ≡ true → ⊥
false_true e = cc

some_session : (a b : car_states.Session) → Some a ≡ Some b → a ≡ b
some_session a b e = cc

some_stage : (a b : CarStage) → Some a ≡ Some b → a ≡ b
some_stage a b e = cc

pub same_car : (k : car_states.State) (x y : car_states.Session) → k.session ≡ Some x → k.session ≡ Some y → x ≡ y
same_car k x y e f = some_session x y (sym e ∙ f)

pub same_stage : (k : car_states.State) (x y : car_states.Session) (c stage : CarStage) → k.session ≡ Some x → x.stage ≡ Some c → k.session ≡ Some y → y.stage ≡ Some stage → c ≡ stage
same_stage k x y c stage e g f i = some_stage c stage (sym g ∙ ap (λ (z : car_states.Session). z.stage) (same_car k x y e f) ∙ i)

-- before a dialect is chosen there is no stage
pub unstaged : (c : post.Codecs) (cs : car.Codecs) (post_plan : PostPlan) (plan : CarPlan) (s : State) (k : car_states.State) (ts tc : List ℕ) (y : car_states.Session) (stage : CarStage)
    → Begins c cs post_plan plan s k ts tc → k.session ≡ Some y → y.stage ≡ Some stage → ⊥
unstaged c cs post_plan plan s k ts tc y stage t e f = some_none stage (sym f ∙ begins_unstaged c cs post_plan plan s k ts tc t y e)

-- ---- a step that is asked for again

abbrev pub MayRepeat : CarPhase → Type 0
MayRepeat ph = is_repeated ph ph ≡ true

pub repeats_same : (p q : CarPhase) → is_repeated p q ≡ true → MayRepeat p
repeats_same phase.Authorizing q e = refl
repeats_same phase.Asking q e = refl
repeats_same phase.CableChecking q e = refl
repeats_same phase.PreCharging q e = refl
repeats_same phase.SettingUp q e = absurd (false_true e)
repeats_same phase.Discovering q e = absurd (false_true e)
repeats_same phase.Selecting q e = absurd (false_true e)
repeats_same phase.Starting q e = absurd (false_true e)
repeats_same phase.Charging q e = absurd (false_true e)
repeats_same phase.Stopping q e = absurd (false_true e)
repeats_same phase.Renegotiating q e = absurd (false_true e)
repeats_same (phase.Welding left) q e = absurd (false_true e)
repeats_same phase.Ending q e = absurd (false_true e)

-- PowerDelivery Start is none, and SessionStop is none
starts_not : (a b : CarStage) → a.phase ≡ phase.Starting → a ≡ b → MayRepeat b.phase → ⊥
starts_not a b e same m = false_true (subst MayRepeat (ap (λ (z : CarStage). z.phase) (sym same) ∙ e) m)

end_not : (ph : CarPhase) (why : EndCause) → end_of ph ≡ Some why → MayRepeat ph → ⊥
end_not phase.Ending why e m = false_true m
end_not other why e m = some_none why (sym e)

-- ---- no reply waits in it

listens_not : (plan : PostPlan) (s : State) (stage : Stage) (unread : List ℕ) → Listens plan s stage unread → is_waiting stage.row ≡ false → WaitsIn s.session → ⊥
listens_not plan s stage unread l n w =
    let still : IsStill plan s l.session = l.still in
    let own : is_waiting l.session.stage.row ≡ true = subst WaitsIn still.session_is w in
    false_true (sym n ∙ ap (λ (x : Stage). is_waiting x.row) (sym l.stage_is) ∙ own)

meets_not : (post_plan : PostPlan) (b : Both) → Meets post_plan b → is_waiting b.post.row ≡ false
meets_not post_plan b m = let takes : TakesWords b.post.row = meets_takes post_plan b m in takes.waits

goes_not : (o : Option EndCause) (ph : CarPhase) (plan : PostPlan) (s : State) (stage : Stage) → end_of ph ≡ o → GoesOnBy o plan s stage → is_waiting stage.row ≡ false → WaitsIn s.session → MayRepeat ph → ⊥
goes_not None ph plan s stage e l n w m = listens_not plan s stage [] l n w
goes_not (Some why) ph plan s stage e g n w m = end_not ph why e m

talks_not : (c : post.Codecs) (cs : car.Codecs) (post_plan : PostPlan) (plan : CarPlan) (b : Both) (s : State) (k : car_states.State) (ts tc : List ℕ) (y : car_states.Session) (stage : CarStage) → IsPair c cs post_plan plan
    → Meets post_plan b → Talks c cs post_plan plan b s k ts tc → k.session ≡ Some y → y.stage ≡ Some stage → WaitsIn s.session → MayRepeat stage.phase → ⊥
talks_not c cs post_plan plan b s k ts tc y stage p m (IsToAsk order l say none) e f w r = listens_not post_plan s b.post [] l (meets_not post_plan b m) w
talks_not c cs post_plan plan b s k ts tc y stage p m (Rests l a none) e f w r = listens_not post_plan s b.post [] l (meets_not post_plan b m) w
talks_not c cs post_plan plan b s k ts tc y stage p m (Asks request unread encodes l a comes n) e f w r = listens_not post_plan s b.post unread l (meets_not post_plan b m) w
talks_not c cs post_plan plan b s k ts tc y stage p m (IsToReply facts later shown fits send a none) e f w r =
    let still : cars.IsStill plan k a.session = a.still in
    let own : is_waiting send.session.stage.row ≡ true = subst WaitsIn send.session_is w in
    starts_not b.car stage (waits_for_start post_plan plan b (exchange facts later shown) m (ap (λ (x : Stage). is_waiting x.row) (sym send.stage_is) ∙ own))
    (same_stage k a.session y b.car stage still.session_is a.stage_is e f) r
talks_not c cs post_plan plan b s k ts tc y stage p m (Closes facts shown fits last l waits a none) e f w r =
    let still : cars.IsStill plan k a.session = a.still in
    starts_not b.car stage (waits_for_start post_plan plan b (exchange facts facts shown) m waits) (same_stage k a.session y b.car stage still.session_is a.stage_is e f) r
talks_not c cs post_plan plan b s k ts tc y stage p m (Replies facts later shown payload unread fits encodes goes a n comes) e f w r =
    let still : cars.IsStill plan k a.session = a.still in
    let answered : IsAnswered post_plan plan b (exchange facts later shown) = exchanges_go_well post_plan plan b (exchange facts later shown) p.paired m fits in
    let same : b.car ≡ stage = same_stage k a.session y b.car stage still.session_is a.stage_is e f in
    goes_not (end_of b.car.phase) b.car.phase post_plan s (behind post_plan plan b (exchange facts later shown)).post refl goes
    (meets_not post_plan (behind post_plan plan b (exchange facts later shown)) answered.meets) w (subst (λ (z : CarStage). MayRepeat z.phase) (sym same) r)

ends_not : (post_plan : PostPlan) (plan : CarPlan) (s : State) (k : car_states.State) (ts tc : List ℕ) → Ends post_plan plan s k ts tc → WaitsIn s.session → ⊥
ends_not post_plan plan s k ts tc (IsToStop order g finish none) w = subst WaitsIn g.session w
ends_not post_plan plan s k ts tc (Stopped g ended none) w = subst WaitsIn g.session w

not_by : (x : Bool) (c : post.Codecs) (cs : car.Codecs) (post_plan : PostPlan) (plan : CarPlan) (b : Both) (s : State) (k : car_states.State) (ts tc : List ℕ) (y : car_states.Session) (stage : CarStage) → IsPair c cs post_plan plan
    → Meets post_plan b → TalksBy x c cs post_plan plan b s k ts tc → k.session ≡ Some y → y.stage ≡ Some stage → WaitsIn s.session → MayRepeat stage.phase → ⊥
not_by true c cs post_plan plan b s k ts tc y stage p m t e f w r = ends_not post_plan plan s k ts tc t w
not_by false c cs post_plan plan b s k ts tc y stage p m t e f w r = talks_not c cs post_plan plan b s k ts tc y stage p m t e f w r

pub waits_not : (words : Words) (c : post.Codecs) (cs : car.Codecs) (post_plan : PostPlan) (plan : CarPlan) (s : State) (k : car_states.State) (ts tc : List ℕ) (y : car_states.Session) (stage : CarStage)
    → IsPair c cs post_plan plan → IsIn c cs post_plan plan words s k ts tc → k.session ≡ Some y → y.stage ≡ Some stage → WaitsIn s.session → MayRepeat stage.phase → ⊥
waits_not NoneYet c cs post_plan plan s k ts tc y stage p t e f w r = unstaged c cs post_plan plan s k ts tc y stage t e f
waits_not (Read dialect xs) c cs post_plan plan s k ts tc y stage p t e f w r =
    not_by (has_ended post_plan plan token dialect xs) c cs post_plan plan (both post_plan plan token dialect xs) s k ts tc y stage p (they_meet post_plan plan token dialect xs p.paired t.0) t.1 e f w r

-- ---- nothing came to the car

pub record NothingCame (k : car_states.State) (way : List ℕ) : Type 0 where
  pub way_is : way ≡ []
  pub unread : (y : car_states.Session) → k.session ≡ Some y → y.unread ≡ []

pub none_came : (k : car_states.State) (x : car_states.Session) (way : List ℕ) → k.session ≡ Some x → x.unread ≡ [] → way ≡ [] → NothingCame k way
none_came k x way e u n = record { way_is = n; unread = λ y f. ap (λ (z : car_states.Session). z.unread) (same_car k y x f e) ∙ u }

pub awaits_came : (plan : CarPlan) (k : car_states.State) (stage : Option CarStage) (way : List ℕ) → Awaits plan k stage [] → way ≡ [] → NothingCame k way
awaits_came plan k stage way a n = let still : cars.IsStill plan k a.session = a.still in none_came k a.session way still.session_is a.unread_is n

-- where a reply is decided
still_less : (plan : PostPlan) (s : State) (x : states.Session) → IsStill plan s x → (decided plan s).agenda.reply ≡ None
still_less plan s x k = ap (λ (t : State). t.agenda.reply) k.stays ∙ ap (λ (a : states.Agenda). a.reply) k.none

gone_less : (plan : PostPlan) (s : State) → IsGone plan s → (decided plan s).agenda.reply ≡ None
gone_less plan s k = ap (λ (t : State). t.agenda.reply) k.stays ∙ ap (λ (a : states.Agenda). a.reply) k.none

goes_less : (o : Option EndCause) (plan : PostPlan) (s : State) (stage : Stage) → GoesOnBy o plan s stage → (decided plan s).agenda.reply ≡ None
goes_less None plan s stage l = still_less plan s l.session l.still
goes_less (Some why) plan s stage (inl t) =
    ap (λ (x : State). x.agenda.reply) (stays_busy plan s (states.Finish why) (ap first t.agenda_is)) ∙ ap (λ (a : states.Agenda). a.reply) t.agenda_is
goes_less (Some why) plan s stage (inr g) = gone_less plan s g

begins_none : (c : post.Codecs) (cs : car.Codecs) (post_plan : PostPlan) (plan : CarPlan) (s : State) (k : car_states.State) (ts tc : List ℕ) (spoken : Spoken) → Begins c cs post_plan plan s k ts tc
    → (decided post_plan s).agenda.reply ≡ Some spoken → NothingCame k tc
begins_none c cs post_plan plan s k ts tc spoken (IsToOffer come say none) r = none_came k say.session tc say.session_is say.unread_is none.car
begins_none c cs post_plan plan s k ts tc spoken (Offered request offers come a comes n) r = awaits_came plan k None tc a n
begins_none c cs post_plan plan s k ts tc spoken (Offers request unread offers l a comes n) r = awaits_came plan k None tc a n
begins_none c cs post_plan plan s k ts tc spoken (Responded request unread begun l a n comes) r = absurd (some_none spoken (sym r ∙ still_less post_plan s l.session l.still))

talks_none : (c : post.Codecs) (cs : car.Codecs) (post_plan : PostPlan) (plan : CarPlan) (b : Both) (s : State) (k : car_states.State) (ts tc : List ℕ) (spoken : Spoken) → Talks c cs post_plan plan b s k ts tc
    → (decided post_plan s).agenda.reply ≡ Some spoken → NothingCame k tc
talks_none c cs post_plan plan b s k ts tc spoken (IsToAsk order l say none) r = none_came k say.session tc say.session_is say.unread_is none.car
talks_none c cs post_plan plan b s k ts tc spoken (Rests l a none) r = let still : cars.IsStill plan k a.session = a.still in none_came k a.session tc still.session_is a.unread_is none.car
talks_none c cs post_plan plan b s k ts tc spoken (Asks request unread encodes l a comes n) r = awaits_came plan k (Some b.car) tc a n
talks_none c cs post_plan plan b s k ts tc spoken (IsToReply facts later shown fits send a none) r = awaits_came plan k (Some b.car) tc a none.car
talks_none c cs post_plan plan b s k ts tc spoken (Closes facts shown fits last l waits a none) r = awaits_came plan k (Some b.car) tc a none.car
talks_none c cs post_plan plan b s k ts tc spoken (Replies facts later shown payload unread fits encodes goes a n comes) r = absurd (some_none spoken (sym r ∙ goes_less (end_of b.car.phase) post_plan s _ goes))

ends_none : (post_plan : PostPlan) (plan : CarPlan) (s : State) (k : car_states.State) (ts tc : List ℕ) (spoken : Spoken) → Ends post_plan plan s k ts tc → (decided post_plan s).agenda.reply ≡ Some spoken → NothingCame k tc
ends_none post_plan plan s k ts tc spoken (IsToStop order g finish none) r = absurd (some_none spoken (sym r ∙ gone_less post_plan s g))
ends_none post_plan plan s k ts tc spoken (Stopped g ended none) r = absurd (some_none spoken (sym r ∙ gone_less post_plan s g))

none_by : (x : Bool) (c : post.Codecs) (cs : car.Codecs) (post_plan : PostPlan) (plan : CarPlan) (b : Both) (s : State) (k : car_states.State) (ts tc : List ℕ) (spoken : Spoken) → TalksBy x c cs post_plan plan b s k ts tc
    → (decided post_plan s).agenda.reply ≡ Some spoken → NothingCame k tc
none_by true c cs post_plan plan b s k ts tc spoken t r = ends_none post_plan plan s k ts tc spoken t r
none_by false c cs post_plan plan b s k ts tc spoken t r = talks_none c cs post_plan plan b s k ts tc spoken t r

pub replies_none : (words : Words) (c : post.Codecs) (cs : car.Codecs) (post_plan : PostPlan) (plan : CarPlan) (s : State) (k : car_states.State) (ts tc : List ℕ) (spoken : Spoken)
    → IsIn c cs post_plan plan words s k ts tc → (decided post_plan s).agenda.reply ≡ Some spoken → NothingCame k tc
replies_none NoneYet c cs post_plan plan s k ts tc spoken t r = begins_none c cs post_plan plan s k ts tc spoken t r
replies_none (Read dialect xs) c cs post_plan plan s k ts tc spoken t r = none_by (has_ended post_plan plan token dialect xs) c cs post_plan plan _ s k ts tc spoken t.1 r

-- where the car says something
not_give : (spoken : car_steps.Spoken) (bytes : List ℕ) (o : Order) → car_steps.Say spoken bytes ≡ car_steps.Give o → ⊥
not_give spoken bytes o e = cc

not_end : (spoken : car_steps.Spoken) (bytes : List ℕ) (number : ℕ) → car_steps.Say spoken bytes ≡ car_steps.End number → ⊥
not_end spoken bytes number e = cc

finish_says : (order : Option Order) (cs : car.Codecs) (plan : CarPlan) (k : car_states.State) (why : EndCause) (spoken : car_steps.Spoken) (bytes : List ℕ) → IsToFinish plan k order why
    → MayAct cs plan k (car_steps.Say spoken bytes) true → ⊥
finish_says (Some o) cs plan k why spoken bytes t i = let d : DrivesLast plan k o why (car_steps.Say spoken bytes) = drives_last cs plan k o why (car_steps.Say spoken bytes) t i in not_give spoken bytes o d.act_is
finish_says None cs plan k why spoken bytes t i = let d : Finishes plan k (car_steps.Say spoken bytes) = finishes cs plan k why (car_steps.Say spoken bytes) t i in not_end spoken bytes d.number d.act_is

begins_says : (c : post.Codecs) (cs : car.Codecs) (post_plan : PostPlan) (plan : CarPlan) (s : State) (k : car_states.State) (ts tc : List ℕ) (act : car_steps.Act) → Begins c cs post_plan plan s k ts tc
    → MayAct cs plan k act true → NothingCame k tc
begins_says c cs post_plan plan s k ts tc act (IsToOffer come say none) i = none_came k say.session tc say.session_is say.unread_is none.car
begins_says c cs post_plan plan s k ts tc act (Offered request offers come a comes n) i = awaits_came plan k None tc a n
begins_says c cs post_plan plan s k ts tc act (Offers request unread offers l a comes n) i = awaits_came plan k None tc a n
begins_says c cs post_plan plan s k ts tc act (Responded request unread begun l a n comes) i = absurd (still_acts cs plan k a.session act a.still i)

talks_says : (c : post.Codecs) (cs : car.Codecs) (post_plan : PostPlan) (plan : CarPlan) (b : Both) (s : State) (k : car_states.State) (ts tc : List ℕ) (act : car_steps.Act) → Talks c cs post_plan plan b s k ts tc
    → MayAct cs plan k act true → NothingCame k tc
talks_says c cs post_plan plan b s k ts tc act (IsToAsk order l say none) i = none_came k say.session tc say.session_is say.unread_is none.car
talks_says c cs post_plan plan b s k ts tc act (Rests l a none) i = absurd (still_acts cs plan k a.session act a.still i)
talks_says c cs post_plan plan b s k ts tc act (Asks request unread encodes l a comes n) i = awaits_came plan k (Some b.car) tc a n
talks_says c cs post_plan plan b s k ts tc act (IsToReply facts later shown fits send a none) i = awaits_came plan k (Some b.car) tc a none.car
talks_says c cs post_plan plan b s k ts tc act (Closes facts shown fits last l waits a none) i = awaits_came plan k (Some b.car) tc a none.car
talks_says c cs post_plan plan b s k ts tc act (Replies facts later shown payload unread fits encodes goes a n comes) i = absurd (still_acts cs plan k a.session act a.still i)

ends_says : (cs : car.Codecs) (post_plan : PostPlan) (plan : CarPlan) (s : State) (k : car_states.State) (ts tc : List ℕ) (spoken : car_steps.Spoken) (bytes : List ℕ) → Ends post_plan plan s k ts tc
    → MayAct cs plan k (car_steps.Say spoken bytes) true → NothingCame k tc
ends_says cs post_plan plan s k ts tc spoken bytes (IsToStop order g finish none) i = absurd (finish_says order cs plan k cause.Stopped spoken bytes finish i)
ends_says cs post_plan plan s k ts tc spoken bytes (Stopped g ended none) i = absurd (ended_acts cs plan k (car_steps.Say spoken bytes) ended i)

says_by : (x : Bool) (c : post.Codecs) (cs : car.Codecs) (post_plan : PostPlan) (plan : CarPlan) (b : Both) (s : State) (k : car_states.State) (ts tc : List ℕ) (spoken : car_steps.Spoken) (bytes : List ℕ)
    → TalksBy x c cs post_plan plan b s k ts tc → MayAct cs plan k (car_steps.Say spoken bytes) true → NothingCame k tc
says_by true c cs post_plan plan b s k ts tc spoken bytes t i = ends_says cs post_plan plan s k ts tc spoken bytes t i
says_by false c cs post_plan plan b s k ts tc spoken bytes t i = talks_says c cs post_plan plan b s k ts tc (car_steps.Say spoken bytes) t i

pub says_none : (words : Words) (c : post.Codecs) (cs : car.Codecs) (post_plan : PostPlan) (plan : CarPlan) (s : State) (k : car_states.State) (ts tc : List ℕ) (spoken : car_steps.Spoken) (bytes : List ℕ)
    → IsIn c cs post_plan plan words s k ts tc → MayAct cs plan k (car_steps.Say spoken bytes) true → NothingCame k tc
says_none NoneYet c cs post_plan plan s k ts tc spoken bytes t i = begins_says c cs post_plan plan s k ts tc (car_steps.Say spoken bytes) t i
says_none (Read dialect xs) c cs post_plan plan s k ts tc spoken bytes t i = says_by (has_ended post_plan plan token dialect xs) c cs post_plan plan _ s k ts tc spoken bytes t.1 i

-- ---- a word that is read came

pub record HasCome (cs : car.Codecs) (plan : CarPlan) (y : car_states.Session) (way : List ℕ) (w : car.Judged) : Type 0 where
  pub payload : List ℕ
  pub sent : ℕ
  pub sent_is : y.moments.sent ≡ Some sent
  pub comes : Comes payload y.unread way
  pub judged : car.Judges cs plan.dialects.items (dialect_of y.stage) payload w
  pub stop : y.stop ≡ false
  pub again : y.again ≡ None

comes_front : (c : post.Codecs) (cs : car.Codecs) (plan : CarPlan) (k : car_states.State) (stage : Option CarStage) (payload unread way : List ℕ) (w : car.Judged) (y : car_states.Session) → Awaits plan k stage unread
    → Comes payload unread way → Front payload unread way → k.session ≡ Some y → MayRead cs plan k w → HasCome cs plan y way w
comes_front c cs plan k stage payload unread way w y a comes (OnItsWay f) e i = absurd (awaits_reads cs plan k stage unread w a f i)
comes_front c cs plan k stage payload unread way w y a comes (Whole u n) e i =
    let still : cars.IsStill plan k a.session = a.still in
    subst (λ (z : car_states.Session). HasCome cs plan z way w) (same_car k a.session y still.session_is e) (record {
      payload = payload;
      sent = a.sent;
      sent_is = a.sent_is;
      comes = subst (λ (l : List ℕ). Comes payload l way) (sym a.unread_is) comes;
      judged = cars_read_words cs plan k a.session payload w a.still (a.unread_is ∙ u) comes.short i;
      stop = a.stop;
      again = a.again;
    })

begins_come : (c : post.Codecs) (cs : car.Codecs) (post_plan : PostPlan) (plan : CarPlan) (s : State) (k : car_states.State) (ts tc : List ℕ) (y : car_states.Session) (w : car.Judged) → Begins c cs post_plan plan s k ts tc
    → k.session ≡ Some y → MayRead cs plan k w → HasCome cs plan y tc w
begins_come c cs post_plan plan s k ts tc y w (IsToOffer come say none) e i = absurd (say_reads cs plan k _ None _ w say i)
begins_come c cs post_plan plan s k ts tc y w (Offered request offers come a comes n) e i = absurd (awaits_reads cs plan k _ [] w a empty_waits i)
begins_come c cs post_plan plan s k ts tc y w (Offers request unread offers l a comes n) e i = absurd (awaits_reads cs plan k _ [] w a empty_waits i)
begins_come c cs post_plan plan s k ts tc y w (Responded request unread begun l a n comes) e i =
    comes_front c cs plan k None begun.response unread tc w y a comes (front begun.response unread tc comes) e i

talks_come : (c : post.Codecs) (cs : car.Codecs) (post_plan : PostPlan) (plan : CarPlan) (b : Both) (s : State) (k : car_states.State) (ts tc : List ℕ) (y : car_states.Session) (w : car.Judged)
    → Talks c cs post_plan plan b s k ts tc → k.session ≡ Some y → MayRead cs plan k w → HasCome cs plan y tc w
talks_come c cs post_plan plan b s k ts tc y w (IsToAsk order l say none) e i = absurd (say_reads cs plan k _ order _ w say i)
talks_come c cs post_plan plan b s k ts tc y w (Rests l a none) e i = absurd (pauses_reads cs plan k _ w a i)
talks_come c cs post_plan plan b s k ts tc y w (Asks request unread encodes l a comes n) e i = absurd (awaits_reads cs plan k _ [] w a empty_waits i)
talks_come c cs post_plan plan b s k ts tc y w (IsToReply facts later shown fits send a none) e i = absurd (awaits_reads cs plan k _ [] w a empty_waits i)
talks_come c cs post_plan plan b s k ts tc y w (Closes facts shown fits last l waits a none) e i = absurd (awaits_reads cs plan k _ [] w a empty_waits i)
talks_come c cs post_plan plan b s k ts tc y w (Replies facts later shown payload unread fits encodes goes a n comes) e i =
    comes_front c cs plan k (Some b.car) payload unread tc w y a comes (front payload unread tc comes) e i

ends_come : (cs : car.Codecs) (post_plan : PostPlan) (plan : CarPlan) (s : State) (k : car_states.State) (ts tc : List ℕ) (y : car_states.Session) (w : car.Judged) → Ends post_plan plan s k ts tc
    → MayRead cs plan k w → HasCome cs plan y tc w
ends_come cs post_plan plan s k ts tc y w (IsToStop order g finish none) i = absurd (finish_reads cs plan k order cause.Stopped w finish i)
ends_come cs post_plan plan s k ts tc y w (Stopped g ended none) i = absurd (ended_reads cs plan k w ended i)

come_by : (x : Bool) (c : post.Codecs) (cs : car.Codecs) (post_plan : PostPlan) (plan : CarPlan) (b : Both) (s : State) (k : car_states.State) (ts tc : List ℕ) (y : car_states.Session) (w : car.Judged)
    → TalksBy x c cs post_plan plan b s k ts tc → k.session ≡ Some y → MayRead cs plan k w → HasCome cs plan y tc w
come_by true c cs post_plan plan b s k ts tc y w t e i = ends_come cs post_plan plan s k ts tc y w t i
come_by false c cs post_plan plan b s k ts tc y w t e i = talks_come c cs post_plan plan b s k ts tc y w t e i

pub words_come : (words : Words) (c : post.Codecs) (cs : car.Codecs) (post_plan : PostPlan) (plan : CarPlan) (s : State) (k : car_states.State) (ts tc : List ℕ) (y : car_states.Session) (w : car.Judged)
    → IsIn c cs post_plan plan words s k ts tc → k.session ≡ Some y → MayRead cs plan k w → HasCome cs plan y tc w
words_come NoneYet c cs post_plan plan s k ts tc y w t e i = begins_come c cs post_plan plan s k ts tc y w t e i
words_come (Read dialect xs) c cs post_plan plan s k ts tc y w t e i = come_by (has_ended post_plan plan token dialect xs) c cs post_plan plan _ s k ts tc y w t.1 e i
