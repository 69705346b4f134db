-- A car that is to ask once more says nothing before that is due.
use Rattle.std.proofs.Common.{◌≡◌, ℕ, ◌≤◌, nat_le, Bool, true, false, if◌then◌else◌, List, Option, Some, None, Result, Ok, Err, refl, ap, sym, subst, ◌∙◌, ◌⊎◌, inl, inr, arith}
use Rattle.std.proofs.lemmas.Bool.Decides.{nat_tests}
use Rattle.std.specs.Option.{option_map}
use Rattle.charge_world.specs.declared.heard.PlantEvent.{PlantEvent}
use Rattle.charge_world.specs.declared.ports.Order.{Order}
use Rattle.session_words.specs.declared.cause.EndCause.{EndCause}
use Rattle.session_words.specs.declared.plan.CarPlan.{CarPlan}
use Rattle.session_words.specs.declared.plan.PostPlan.{PostPlan}
use Rattle.session_words.specs.declared.word.Reply.{Reply}
use Rattle.session_words.specs.declared.word.Request.{Request}
use Rattle.charge_world.specs.declared.offer.Dialect.{Dialect}
use Rattle.v2gtp_frames.specs.declared.FrameFault.{FrameFault}
use Rattle.v2gtp_frames.specs.Reading.{whole_at}
use Rattle.post_spec.specs.Codecs as post
use Rattle.post_spec.specs.Steps.{Event, Came, Bytes, Gone, Datagram, Plant, Clock, Over}
use Rattle.station_spec.specs.States as station
use Rattle.car_rules.specs.declared.stage.CarStage.{CarStage}
use Rattle.car_rules.specs.Deadlines.{hit}
use Rattle.car_rules.specs.Moves.{is_again, stage_behind}
use Rattle.car_rules.specs.Replies.{plant_cause, reply_cause}
use Rattle.car_rules.specs.Searching.{is_searching}
use Rattle.car_spec.specs.Codecs as car
use Rattle.car_spec.specs.Codecs.{Judged, Chosen, Told, WrongSide, Refused}
use Rattle.car_spec.specs.Steps.{Spoken, Offer, Asked, Act, Seek, Dial, Give, Say, End}
use Rattle.car_spec.specs.States.{Agenda, Session, State, Todo, nothing, first, first_of}
use Rattle.car_spec.specs.States as states
use Rattle.car_spec.specs.Due.{all_deadlines, is_due}
use Rattle.car_spec.specs.Deciding.{ending_if, ending_in, charging, greeting, eventing, fronting_by, fronting, asking, repeating, decided}
use Rattle.car_spec.specs.Hearing.{session_heard}
use Rattle.car_spec.specs.Judging.{moved, replied_by, replied, judged, judged_in}
use Rattle.car_spec.specs.Acting.{awaiting}
use Rattle.car_spec.specs.Next.{IsDone, MayAct}
use Rattle.car_laws.proofs.Decided.{decided_by}
use Rattle.pair_words.specs.Exchanges.{Both}
use Rattle.matched_pairs.specs.Ends.{IsToFinish}
use Rattle.matched_pairs.specs.Phases.{Talks, IsToAsk, Rests, Asks, IsToReply, Closes, Replies, IsToStop, Stopped, Words, NoneYet, Read, TalksBy, IsIn}
use Rattle.matched_pairs.proofs.CarPhases.{still_acts, ended_acts, DrivesLast, drives_last, Finishes, finishes}
use Rattle.matched_pairs.proofs.CarMoves.{begins_unstaged}
use Rattle.matched_pairs.proofs.Pacing.{IsRepeated, AgainBy, PacedBy}
use Rattle.matched_pairs.proofs.Measured.{IsBeyond, IsReached, WaitsOn}

some_none : {A : Type 0} (a : A) → Some a ≡ None → ⊥
some_none a e = cc

-- ---- what it keeps

abbrev pub AgainUnsaid : Option ℕ → Agenda → Type 0
AgainUnsaid None a = Unit {0}
AgainUnsaid (Some at) a = a.spoken ≡ None

abbrev pub UnsaidBy : Agenda → Option Session → Type 0
UnsaidBy a None = Unit {0}
UnsaidBy a (Some y) = AgainUnsaid y.again a

again_unsaid : (again : Option ℕ) (a : Agenda) → a.spoken ≡ None → AgainUnsaid again a
again_unsaid None a e = tt
again_unsaid (Some at) a e = e

pub unsaid_nothing : (a : Agenda) (o : Option Session) → a.spoken ≡ None → UnsaidBy a o
unsaid_nothing a None e = tt
unsaid_nothing a (Some y) e = again_unsaid y.again a e

pub unsaid_said : (a : Agenda) (o : Option Session) (at : ℕ) → UnsaidBy a (option_map (awaiting at) o)
unsaid_said a None at = tt
unsaid_said a (Some y) at = tt

-- ---- a word

abbrev pub ReadsUnsaid : State → Type 0
ReadsUnsaid k = UnsaidBy k.agenda k.session

moved_unsaid : (b : Bool) (plan : CarPlan) (s : State) (session : Session) (from to : CarStage) (r : Reply) → is_again from.phase to.phase ≡ b → ReadsUnsaid (moved plan s session from r to)
moved_unsaid true plan s session from to r e = rw e (again_unsaid _ nothing refl)
moved_unsaid false plan s session from to r e = rw e tt

replied_unsaid : (o : Option EndCause) (plan : CarPlan) (s : State) (session : Session) (stage : CarStage) (r : Reply) → ReadsUnsaid (replied_by o plan s session stage r)
replied_unsaid (Some why) plan s session stage r = again_unsaid session.again _ refl
replied_unsaid None plan s session stage r = moved_unsaid _ plan s session stage (stage_behind plan stage r session.stop) r refl

told_unsaid : (o : Option CarStage) (plan : CarPlan) (s : State) (session : Session) (r : Reply) → ReadsUnsaid (replied plan s session o r)
told_unsaid None plan s session r = again_unsaid session.again _ refl
told_unsaid (Some stage) plan s session r = replied_unsaid (reply_cause plan stage _ r) plan s session stage r

word_unsaid : (w : Judged) (plan : CarPlan) (s : State) (session : Session) → ReadsUnsaid (judged plan s session w)
word_unsaid (Chosen None) plan s session = again_unsaid session.again _ refl
word_unsaid (Chosen (Some d)) plan s session = tt
word_unsaid (Told r) plan s session = told_unsaid session.stage plan s session r
word_unsaid WrongSide plan s session = again_unsaid session.again _ refl
word_unsaid Refused plan s session = again_unsaid session.again _ refl

pub reads_unsaid : (o : Option Session) (plan : CarPlan) (s : State) (w : Judged) → o ≡ s.session → ReadsUnsaid (judged_in plan s o w)
reads_unsaid None plan s w e = subst (UnsaidBy s.agenda) e tt
reads_unsaid (Some y) plan s w e = word_unsaid w plan s y

-- ---- what is decided

if_spoken : (o : Option EndCause) (live : Bool) → (ending_if o live).spoken ≡ None
if_spoken None live = refl
if_spoken (Some why) live = refl

in_spoken : (o : Option Session) (why : EndCause) (live : Bool) → (ending_in o why live).spoken ≡ None
in_spoken None why live = refl
in_spoken (Some y) why live = refl

charging_spoken : (o : Option Session) (event : PlantEvent) (live : Bool) → (charging o event live).spoken ≡ None
charging_spoken None event live = refl
charging_spoken (Some y) event live = if_spoken (plant_cause event) live

calls_by : (b : Bool) (a : Agenda) → a.spoken ≡ None → (if b then a else nothing).spoken ≡ None
calls_by true a e = e
calls_by false a e = refl

front_spoken : (r : Result (Option ℕ) FrameFault) (live : Bool) → (fronting_by r live).spoken ≡ None
front_spoken (Err fault) live = refl
front_spoken (Ok count) live = refl

fronts_spoken : (o : Option Session) (live : Bool) → (fronting o live).spoken ≡ None
fronts_spoken None live = refl
fronts_spoken (Some y) live = front_spoken (whole_at y.unread) live

-- the offer alone is said without being due
abbrev pub IsOffer : Agenda → Type 0
IsOffer a = (a.spoken ≡ Some Offer) × (a.order ≡ None)

greets : (stood live : Bool) → ((greeting stood live).spoken ≡ None) ⊎ IsOffer (greeting stood live)
greets true live = inl refl
greets false live = inr (refl, refl)

events_spoken : (plan : CarPlan) (event : Event) (s : State) → ((eventing plan event s).spoken ≡ None) ⊎ IsOffer (eventing plan event s)
events_spoken plan (Came _) s = greets s.stood s.live
events_spoken plan (Bytes bytes) s = inl refl
events_spoken plan Gone s = inl (in_spoken s.session _ s.live)
events_spoken plan (Datagram bytes) s = inl (calls_by (is_searching plan s.search) _ refl)
events_spoken plan (Plant event) s = inl (charging_spoken s.session event s.live)
events_spoken plan Clock s = inl refl
events_spoken plan Over s = inl refl

-- what is repeated is due
abbrev pub IsRepeat : Option ℕ → ℕ → Agenda → Type 0
IsRepeat again now a = (is_due again now ≡ true) × (a.order ≡ None)

repeats_by : (b : Bool) (again : Option ℕ) (now : ℕ) (spoken : Option Spoken) → is_due again now ≡ b
    → ((if b then record nothing { spoken = spoken } else nothing).spoken ≡ None) ⊎ (IsRepeat again now (if b then record nothing { spoken = spoken } else nothing))
repeats_by true again now spoken e = inr (e, refl)
repeats_by false again now spoken e = inl refl

abbrev pub SaidHow : Option ℕ → ℕ → Agenda → Type 0
SaidHow again now a = (a.spoken ≡ None) ⊎ (IsOffer a ⊎ IsRepeat again now a)

offers_how : (again : Option ℕ) (now : ℕ) (a : Agenda) → (a.spoken ≡ None) ⊎ IsOffer a → SaidHow again now a
offers_how again now a (inl e) = inl e
offers_how again now a (inr e) = inr (inl e)

repeats_how : (again : Option ℕ) (now : ℕ) (a : Agenda) → (a.spoken ≡ None) ⊎ IsRepeat again now a → SaidHow again now a
repeats_how again now a (inl e) = inl e
repeats_how again now a (inr e) = inr (inr e)

repeating_how : (plan : CarPlan) (o : Option Session) (y : Session) (now : ℕ) → o ≡ Some y → SaidHow y.again now (repeating plan o now)
repeating_how plan o y now e =
    subst (λ (x : Option Session). SaidHow y.again now (repeating plan x now)) (sym e)
    (repeats_how y.again now (repeating plan (Some y) now) (repeats_by (is_due y.again now) y.again now (asking plan y.stage) refl))

pub decides_how : (plan : CarPlan) (k : State) (y : Session) → k.session ≡ Some y → k.agenda.spoken ≡ None → SaidHow y.again k.clock (decided plan k).agenda
decides_how plan k y e n = decided_by (λ (t : State). SaidHow y.again k.clock t.agenda) plan k
    (λ d. record {
      times = λ early. inl (if_spoken (hit (all_deadlines plan k) k.clock) k.live);
      events = λ early. offers_how y.again k.clock (eventing plan k.event k) (events_spoken plan k.event k);
      fronts = inl (fronts_spoken k.session k.live);
      repeats = repeating_how plan k.session y k.clock e;
      seeks = inl refl;
    })
    (inl n)

-- ---- an act

drives_by : (port : Option ℕ) (o : Option Order) (spoken : Option Spoken) (ending : Option EndCause) (seeks : Bool) (x : Order) → first_of port o spoken ending seeks ≡ Some (states.Drive x) → o ≡ None → ⊥
drives_by (Some port) o spoken ending seeks x e n = cc
drives_by None (Some o) spoken ending seeks x e n = some_none o n
drives_by None None (Some spoken) ending seeks x e n = cc
drives_by None None None (Some why) seeks x e n = cc
drives_by None None None None true x e n = cc
drives_by None None None None false x e n = some_none _ (sym e)

gives_by : (c : car.Codecs) (plan : CarPlan) (todo : Todo) (o : Order) → IsDone c plan todo (Give o) true → todo ≡ states.Drive o
gives_by c plan (states.Call port) o i = absurd (let e : Give o ≡ Dial port = i in cc)
gives_by c plan (states.Drive x) o i = let e : Give o ≡ Give x = i in cc
gives_by c plan (states.Speak spoken) o i = absurd (let e : Give o ≡ Say spoken _ = i.act_is in cc)
gives_by c plan (states.Finish why) o i = absurd (let e : Give o ≡ End _ = i.0 in cc)
gives_by c plan states.Inquire o i = absurd (let e : Give o ≡ Seek _ = i in cc)

no_drive : (a : Agenda) (x : Order) → first a ≡ Some (states.Drive x) → a.order ≡ None → ⊥
no_drive a x e n = drives_by a.port a.order a.spoken a.ending a.seeks x e n

given_by : (again : Option ℕ) (now : ℕ) (a : Agenda) (x : Order) → first a ≡ Some (states.Drive x) → SaidHow again now a → a.spoken ≡ None
given_by again now a x e (inl n) = n
given_by again now a x e (inr (inl n)) = absurd (no_drive a x e n.1)
given_by again now a x e (inr (inr n)) = absurd (no_drive a x e n.1)

again_given : (again : Option ℕ) (plan : CarPlan) (k : State) (y : Session) (x : Order) → again ≡ y.again → k.session ≡ Some y → first (decided plan k).agenda ≡ Some (states.Drive x) → AgainUnsaid again k.agenda
    → AgainUnsaid again (record (decided plan k).agenda { order = None })
again_given None plan k y x e s f u = tt
again_given (Some at) plan k y x e s f u = given_by y.again k.clock (decided plan k).agenda x f (decides_how plan k y s u)

unsaid_given : (o : Option Session) (plan : CarPlan) (k : State) (x : Order) → k.session ≡ o → first (decided plan k).agenda ≡ Some (states.Drive x) → UnsaidBy k.agenda o
    → UnsaidBy (record (decided plan k).agenda { order = None }) o
unsaid_given None plan k x e f u = tt
unsaid_given (Some y) plan k x e f u = again_given y.again plan k y x refl e f u

pub gives_unsaid : (c : car.Codecs) (plan : CarPlan) (k : State) (o : Order) → MayAct c plan k (Give o) true → UnsaidBy k.agenda k.session
    → UnsaidBy (record (decided plan k).agenda { order = None }) k.session
gives_unsaid c plan k o i u = unsaid_given k.session plan k o refl (i.acts ∙ ap (λ (t : Todo). Some t) (gives_by c plan i.todo o i.done)) u

-- ---- it says what is due

-- before a dialect is chosen, or a request
abbrev pub SaysSo : CarPlan → State → Type 0
SaysSo plan k = ((y : Session) → k.session ≡ Some y → y.stage ≡ None) ⊎ ((d : Dialect) × (r : Request) × ((decided plan k).agenda.spoken ≡ Some (Asked d r)))

finish_says : (c : car.Codecs) (plan : CarPlan) (k : State) (order : Option Order) (why : EndCause) (spoken : Spoken) (bytes : List ℕ) → IsToFinish plan k order why → MayAct c plan k (Say spoken bytes) true → ⊥
finish_says c plan k (Some o) why spoken bytes t i =
    let d : DrivesLast plan k o why (Say spoken bytes) = drives_last c plan k o why (Say spoken bytes) t i in
    let e : Say spoken bytes ≡ Give o = d.act_is in cc
finish_says c plan k None why spoken bytes t i =
    let d : Finishes plan k (Say spoken bytes) = finishes c plan k why (Say spoken bytes) t i in
    let e : Say spoken bytes ≡ End d.number = d.act_is in cc

talks_say : (c : post.Codecs) (cs : car.Codecs) (post_plan : PostPlan) (plan : CarPlan) (b : Both) (s : station.State) (k : State) (ts tc : List ℕ) (act : Act) → Talks c cs post_plan plan b s k ts tc
    → MayAct cs plan k act true → SaysSo plan k
talks_say c cs post_plan plan b s k ts tc act (IsToAsk order l say none) i = inr (_, _, ap (λ (a : Agenda). a.spoken) say.agenda_is)
talks_say c cs post_plan plan b s k ts tc act (Rests l a none) i = absurd (still_acts cs plan k a.session act a.still i)
talks_say c cs post_plan plan b s k ts tc act (Asks request unread encodes l a comes e) i = absurd (still_acts cs plan k a.session act a.still i)
talks_say c cs post_plan plan b s k ts tc act (IsToReply facts later shown fits send a none) i = absurd (still_acts cs plan k a.session act a.still i)
talks_say c cs post_plan plan b s k ts tc act (Closes facts shown fits last l w a none) i = absurd (still_acts cs plan k a.session act a.still i)
talks_say c cs post_plan plan b s k ts tc act (Replies facts later shown payload unread fits encodes goes a e comes) i = absurd (still_acts cs plan k a.session act a.still i)

by_end : (x : Bool) (c : post.Codecs) (cs : car.Codecs) (post_plan : PostPlan) (plan : CarPlan) (b : Both) (s : station.State) (k : State) (ts tc : List ℕ) (spoken : Spoken) (bytes : List ℕ)
    → TalksBy x c cs post_plan plan b s k ts tc → MayAct cs plan k (Say spoken bytes) true → SaysSo plan k
by_end true c cs post_plan plan b s k ts tc spoken bytes (IsToStop order g finish none) i = absurd (finish_says cs plan k order _ spoken bytes finish i)
by_end true c cs post_plan plan b s k ts tc spoken bytes (Stopped g ended none) i = absurd (ended_acts cs plan k (Say spoken bytes) ended i)
by_end false c cs post_plan plan b s k ts tc spoken bytes t i = talks_say c cs post_plan plan b s k ts tc (Say spoken bytes) t i

pub says_so : (words : Words) (c : post.Codecs) (cs : car.Codecs) (post_plan : PostPlan) (plan : CarPlan) (s : station.State) (k : State) (ts tc : List ℕ) (spoken : Spoken) (bytes : List ℕ)
    → IsIn c cs post_plan plan words s k ts tc → MayAct cs plan k (Say spoken bytes) true → SaysSo plan k
says_so NoneYet c cs post_plan plan s k ts tc spoken bytes p i = inl (begins_unstaged c cs post_plan plan s k ts tc p)
says_so (Read dialect xs) c cs post_plan plan s k ts tc spoken bytes p i = by_end _ c cs post_plan plan _ s k ts tc spoken bytes p.1 i

offer_not : (d : Dialect) (r : Request) → Some (Asked d r) ≡ Some Offer → ⊥
offer_not d r e = cc

due_by : (again : Option ℕ) (at now : ℕ) → again ≡ Some at → is_due again now ≡ true → at ≤ now
due_by again at now e d =
    let l : nat_le at now ≡ true = sym (ap (λ (o : Option ℕ). is_due o now) e) ∙ d in
    grind (arith, nat_tests)

said_due : (again : Option ℕ) (at now : ℕ) (a : Agenda) (d : Dialect) (r : Request) → again ≡ Some at → a.spoken ≡ Some (Asked d r) → SaidHow again now a → at ≤ now
said_due again at now a d r e s (inl n) = absurd (some_none _ (sym s ∙ n))
said_due again at now a d r e s (inr (inl n)) = absurd (offer_not d r (sym s ∙ n.0))
said_due again at now a d r e s (inr (inr n)) = due_by again at now e n.0

unstaged_not : (again : Option ℕ) (at : ℕ) (stage : Option CarStage) → again ≡ Some at → stage ≡ None → AgainBy again stage → ⊥
unstaged_not again at stage e n p = subst IsRepeated n (subst (λ (o : Option ℕ). AgainBy o stage) e p)

pub says_due : (plan : CarPlan) (k : State) (y : Session) (at : ℕ) → k.session ≡ Some y → y.again ≡ Some at → UnsaidBy k.agenda k.session → PacedBy k.agenda k.session → SaysSo plan k → at ≤ k.clock
says_due plan k y at s e u p (inl n) =
    let own : PacedBy k.agenda (Some y) = subst (PacedBy k.agenda) s p in
    absurd (unstaged_not y.again at y.stage e (n y s) own.0)
says_due plan k y at s e u p (inr t) =
    let own : AgainUnsaid (Some at) k.agenda = subst (λ (o : Option ℕ). AgainUnsaid o k.agenda) e (subst (UnsaidBy k.agenda) s u) in
    said_due y.again at k.clock (decided plan k).agenda t.0 t.1 e t.2 (decides_how plan k y s own)

-- ---- so the next order comes behind what is due

stays_later : (at now behind : ℕ) → at ≤ now → now ≤ behind → at ≤ behind
stays_later at now behind l m = omega (arith, l, m)

pub heard_beyond : (event : Event) (at now behind due : ℕ) (y : Option Session) → now ≤ behind → IsBeyond due now y → IsBeyond due behind (session_heard event at y)
heard_beyond event at now behind due y l (IsReached r) = IsReached (stays_later due now behind r l)
heard_beyond event at now behind due y l (WaitsOn x e again a w) = WaitsOn _ (ap (session_heard event at) e) again a w

through : (due again now : ℕ) → due ≤ again → again ≤ now → due ≤ now
through due again now l m = omega (arith, l, m)

pub says_beyond : (now clock due : ℕ) (y : Option Session) → ((x : Session) (again : ℕ) → y ≡ Some x → x.again ≡ Some again → again ≤ now) → IsBeyond due now y → IsBeyond due now (option_map (awaiting clock) y)
says_beyond now clock due y k (IsReached r) = IsReached r
says_beyond now clock due y k (WaitsOn x e again a w) = IsReached (through due again now w (k x again e a))
