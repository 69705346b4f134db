-- The exchanges up to the pre-charge: what they order, and what a car keeps behind their replies.
use Rattle.std.proofs.Common.{◌≡◌, ℕ, Bool, true, false, min, if◌then◌else◌, List, [], Option, Some, None, refl, ap, sym, subst, ◌∙◌, ◌⊎◌, inl, inr}
use Rattle.std.specs.Option.{option_map}
use Rattle.charge_world.specs.declared.offer.Dialect.{Dialect}
use Rattle.charge_world.specs.declared.ports.Order.{Order}
use Rattle.charge_world.specs.declared.ports.Order.TheVariants as order
use Rattle.session_words.specs.declared.cause.EndCause.{EndCause}
use Rattle.session_words.specs.declared.plan.CarPlan.{CarPlan}
use Rattle.session_words.specs.declared.plan.PostPlan.{PostPlan}
use Rattle.session_words.specs.declared.word.Reply.{Reply}
use Rattle.session_words.specs.declared.word.Tell.{Tell}
use Rattle.v2gtp_frames.specs.Reading.{behind_front}
use Rattle.session_rules.specs.declared.stage.Stage.{Stage}
use Rattle.session_rules.specs.Finishing.{is_ac}
use Rattle.session_rules.specs.Orders.{granted_order, order_of}
use Rattle.session_rules.specs.Stages.{is_waiting, confirmed}
use Rattle.session_rules.specs.Verdict.{verdict, is_accepted}
use Rattle.post_spec.specs.Codecs as post
use Rattle.post_spec.specs.Steps.{Event, Act}
use Rattle.station_spec.specs.States as station
use Rattle.station_spec.specs.Judging.{order_by}
use Rattle.station_spec.specs.Next.{Acts}
use Rattle.station_spec.specs.Sharing.{Shows}
use Rattle.car_rules.specs.declared.stage.CarPhase.{CarPhase}
use Rattle.car_rules.specs.declared.stage.CarPhase.TheVariants as phase
use Rattle.car_rules.specs.declared.stage.CarStage.{CarStage}
use Rattle.car_rules.specs.Deadlines.{due_at}
use Rattle.car_rules.specs.Moves.{is_again, is_pre_charged, stops, leads}
use Rattle.car_rules.specs.Requests.{ask_of}
use Rattle.car_spec.specs.Codecs as car
use Rattle.car_spec.specs.Deciding.{decided}
use Rattle.car_spec.specs.Hearing.{session_heard}
use Rattle.car_spec.specs.Acting.{awaiting}
use Rattle.car_spec.specs.Judging.{moved, read}
use Rattle.car_spec.specs.Spelled.{dropped_ask}
use Rattle.car_spec.specs.States.{Session, State}
use Rattle.pipe_spec.specs.Histories.{token}
use Rattle.pair_words.specs.Exchanges.{Both, Outside, asked, judged, heard, behind}
use Rattle.pair_words.specs.Meeting.{Meets}
use Rattle.pair_words.specs.Laws.{both, end_of, has_ended, IsAnswered}
use Rattle.pair_words.proofs.Sessions.{they_meet}
use Rattle.pair_readings.specs.Readings.{after_reply}
use Rattle.matched_pairs.specs.Ends.{Listens, GoesOnBy}
use Rattle.matched_pairs.specs.Phases.{exchange, Talks, IsToAsk, Rests, Asks, IsToReply, Closes, Replies, Words, NoneYet, Read, TalksBy, IsIn}
use Rattle.matched_pairs.specs.Moves.{IsPair}
use Rattle.matched_pairs.specs.Voltages.{HasPhase, IsInPhase}
use Rattle.matched_pairs.proofs.Answers.{TakesWords, meets_takes}
use Rattle.matched_pairs.proofs.Asked.{confirmed_not}
use Rattle.matched_pairs.proofs.CarMoves.{begins_unstaged}
use Rattle.matched_pairs.proofs.Raised.{Unwaiting}
use Rattle.matched_pairs.proofs.Replied.{ReadsReply}
use Rattle.matched_pairs.proofs.Requested.{ends_do}
use Rattle.matched_pairs.proofs.PostPhases.{quiet_acts, waits_quiet}
use Rattle.matched_pairs.proofs.Rows.{is_from_start, from_behind, leads_behind, no_renewal, accepts}
use Rattle.matched_pairs.proofs.Starting.{waits_for_start}

true_false : true ≡ false → ⊥
true_false e = cc

-- ---- a car that has come to PowerDelivery Start, or has ended

abbrev pub PastStage : Option CarStage → Type 0
PastStage None = ⊥
PastStage (Some c) = is_from_start c.phase ≡ true

abbrev pub PastStart : Option Session → Type 0
PastStart None = Unit {0}
PastStart (Some y) = PastStage y.stage

pub past_heard : (event : Event) (at : ℕ) (y : Option Session) → session_heard event at None ≡ None → PastStart y → PastStart (session_heard event at y)
past_heard event at None n p = subst PastStart (sym n) tt
past_heard event at (Some x) n p = p

pub past_said : (now : ℕ) (y : Option Session) → PastStart y → PastStart (option_map (awaiting now) y)
past_said now None p = tt
past_said now (Some x) p = p

pub past_by : (y : Option Session) (x : Session) (c : CarStage) → y ≡ Some x → x.stage ≡ Some c → is_from_start c.phase ≡ true → PastStart y
past_by y x c e f p = subst PastStart (sym e) (subst PastStage (sym f) p)

stage_past : (o : Option CarStage) (c : CarStage) → o ≡ Some c → PastStage o → is_from_start c.phase ≡ true
stage_past o c e p = subst PastStage e p

pub past_of : (y : Option Session) (x : Session) (c : CarStage) → y ≡ Some x → x.stage ≡ Some c → PastStart y → is_from_start c.phase ≡ true
past_of y x c e f p = stage_past x.stage c f (subst PastStart e p)

pub past_unstaged : (y : Option Session) (x : Session) → y ≡ Some x → x.stage ≡ None → PastStart y → ⊥
past_unstaged y x e n p = subst PastStage n (subst PastStart e p)

-- one that pre-charges hasn't
stage_not_past : (o : Option CarStage) → HasPhase phase.PreCharging o → PastStage o → ⊥
stage_not_past None i p = p
stage_not_past (Some c) i p = true_false (sym p ∙ ap is_from_start i)

pub not_past : (y : Option Session) → IsInPhase phase.PreCharging y → PastStart y → ⊥
not_past None i p = i
not_past (Some x) i p = stage_not_past x.stage i p

pub in_phase : (ph : CarPhase) (y : Option Session) (x : Session) (c : CarStage) → y ≡ Some x → x.stage ≡ Some c → c.phase ≡ ph → IsInPhase ph y
in_phase ph y x c e f p = subst (IsInPhase ph) (sym e) (subst (HasPhase ph) (sym f) p)

pub phase_is : (ph : CarPhase) (y : Option Session) (x : Session) (c : CarStage) → y ≡ Some x → x.stage ≡ Some c → IsInPhase ph y → c.phase ≡ ph
phase_is ph y x c e f i = subst (HasPhase ph) f (subst (IsInPhase ph) e i)

pub unstaged : (ph : CarPhase) (y : Option Session) (x : Session) → y ≡ Some x → x.stage ≡ None → IsInPhase ph y → ⊥
unstaged ph y x e n i = subst (HasPhase ph) n (subst (IsInPhase ph) e i)

pub phase_heard : (ph : CarPhase) (event : Event) (at : ℕ) (y : Option Session) → IsInPhase ph y → IsInPhase ph (session_heard event at y)
phase_heard ph event at None i = absurd i
phase_heard ph event at (Some x) i = i

pub heard_phase : (ph : CarPhase) (event : Event) (at : ℕ) (y : Option Session) → session_heard event at None ≡ None → IsInPhase ph (session_heard event at y) → IsInPhase ph y
heard_phase ph event at None n i = subst (IsInPhase ph) n i
heard_phase ph event at (Some x) n i = i

pub phase_said : (ph : CarPhase) (now : ℕ) (y : Option Session) → IsInPhase ph y → IsInPhase ph (option_map (awaiting now) y)
phase_said ph now None i = i
phase_said ph now (Some x) i = i

pub said_phase : (ph : CarPhase) (now : ℕ) (y : Option Session) → IsInPhase ph (option_map (awaiting now) y) → IsInPhase ph y
said_phase ph now None i = i
said_phase ph now (Some x) i = i

-- ---- where an exchange stands

pub data IsPlaced (ph : CarPhase) : Type 0 where
  Before : is_from_start ph ≡ false → (ph ≡ phase.PreCharging → ⊥) → IsPlaced ph
  PreCharges : ph ≡ phase.PreCharging → IsPlaced ph
  Behind : is_from_start ph ≡ true → IsPlaced ph

pub placed : (ph : CarPhase) → IsPlaced ph
placed phase.SettingUp = Before refl (λ e. cc)
placed phase.Discovering = Before refl (λ e. cc)
placed phase.Selecting = Before refl (λ e. cc)
placed phase.Authorizing = Before refl (λ e. cc)
placed phase.Asking = Before refl (λ e. cc)
placed phase.CableChecking = Before refl (λ e. cc)
placed phase.PreCharging = PreCharges refl
placed phase.Starting = Behind refl
placed phase.Charging = Behind refl
placed phase.Stopping = Behind refl
placed phase.Renegotiating = Behind refl
placed (phase.Welding left) = Behind refl
placed phase.Ending = Behind refl

pub goes_on_then : (ph : CarPhase) → is_from_start ph ≡ false → end_of ph ≡ None
goes_on_then phase.Ending e = absurd (true_false e)
goes_on_then other e = refl

-- ---- its order

none_either : (b : Bool) (o : Option Order) → o ≡ None → (if b then o else None) ≡ None
none_either true o e = e
none_either false o e = refl

before_by : (ph : CarPhase) (b live : Bool) (post : PostPlan) (plan : CarPlan) (d : Dialect) (told shown : ℕ) → is_from_start ph ≡ false → (ph ≡ phase.PreCharging → ⊥)
    → order_by (end_of ph) live (if b then granted_order post told shown (dropped_ask (ask_of plan d ph)) else None) ≡ None
before_by phase.SettingUp b live post plan d told shown e n = none_either b None refl
before_by phase.Discovering b live post plan d told shown e n = none_either b None refl
before_by phase.Selecting b live post plan d told shown e n = none_either b None refl
before_by phase.Authorizing b live post plan d told shown e n = none_either b None refl
before_by phase.Asking b live post plan d told shown e n = none_either b None refl
before_by phase.CableChecking b live post plan d told shown e n = none_either b None refl
before_by phase.PreCharging b live post plan d told shown e n = absurd (n refl)
before_by phase.Starting b live post plan d told shown e n = absurd (true_false e)
before_by phase.Charging b live post plan d told shown e n = absurd (true_false e)
before_by phase.Stopping b live post plan d told shown e n = absurd (true_false e)
before_by phase.Renegotiating b live post plan d told shown e n = absurd (true_false e)
before_by (phase.Welding left) b live post plan d told shown e n = absurd (true_false e)
before_by phase.Ending b live post plan d told shown e n = absurd (true_false e)

pub orders_before : (post : PostPlan) (plan : CarPlan) (b : Both) (x : Outside) (live : Bool) → is_from_start b.car.phase ≡ false → (b.car.phase ≡ phase.PreCharging → ⊥)
    → order_by (end_of b.car.phase) live (order_of b.post x.facts post (asked plan b.car) x.shown) ≡ None
orders_before post plan b x live e n =
    before_by b.car.phase (is_accepted (verdict b.post x.facts post (asked plan b.car))) live post plan b.car.dialect b.post.told x.shown e n

pub pre_charge_orders : (post : PostPlan) (plan : CarPlan) (b : Both) (x : Outside) (live : Bool) → IsAnswered post plan b x → b.car.phase ≡ phase.PreCharging
    → order_by (end_of b.car.phase) live (order_of b.post x.facts post (asked plan b.car) x.shown) ≡ Some (order.Limits plan.target_voltage (min plan.target_current 20) b.post.told)
pre_charge_orders post plan b x live a e =
    ap (λ (y : Bool). order_by (end_of b.car.phase) live (if y then granted_order post b.post.told x.shown (dropped_ask (ask_of plan b.car.dialect b.car.phase)) else None)) (accepts _ a.accepted)
    ∙ ap (λ (p : CarPhase). order_by (end_of p) live (granted_order post b.post.told x.shown (dropped_ask (ask_of plan b.car.dialect p)))) e

-- and its reply doesn't wait
starting_not : phase.PreCharging ≡ phase.Starting → ⊥
starting_not e = cc

waiting_not : (w : Bool) → (w ≡ true → ⊥) → w ≡ false
waiting_not true n = absurd (n refl)
waiting_not false n = refl

pub pre_charge_waits_not : (post : PostPlan) (plan : CarPlan) (b : Both) (x : Outside) → Meets post b → b.car.phase ≡ phase.PreCharging → is_waiting (judged post plan b x).row ≡ false
pre_charge_waits_not post plan b x m e = waiting_not (is_waiting (judged post plan b x).row) (λ w. starting_not (sym e ∙ waits_for_start post plan b x m w))

-- ---- behind a reply

pub record MovesTo (plan : CarPlan) (s : State) (session : Session) (from to : CarStage) (k : State) : Type 0 where
  pub new : Session
  pub new_is : k.session ≡ Some new
  pub stage : new.stage ≡ Some to
  pub unread : new.unread ≡ behind_front session.unread
  pub again_is : is_again from.phase to.phase ≡ true → new.again ≡ due_at s.clock plan.pace
  pub begun : is_again from.phase to.phase ≡ true → new.moments.begun ≡ session.moments.begun
  pub begins : is_again from.phase to.phase ≡ false → new.moments.begun ≡ s.clock
  pub asks : is_again from.phase to.phase ≡ false → new.again ≡ None

moves_by : (b : Bool) (plan : CarPlan) (s : State) (session : Session) (from to : CarStage) (r : Reply) → is_again from.phase to.phase ≡ b → MovesTo plan s session from to (moved plan s session from r to)
moves_by true plan s session from to r e = rw e (record {
  new = _;
  new_is = refl;
  stage = refl;
  unread = refl;
  again_is = λ f. refl;
  begun = λ f. refl;
  begins = λ f. absurd (true_false (sym e ∙ f));
  asks = λ f. absurd (true_false (sym e ∙ f));
})
moves_by false plan s session from to r e = rw e (record {
  new = _;
  new_is = refl;
  stage = refl;
  unread = refl;
  again_is = λ f. absurd (true_false (sym f ∙ e));
  begun = λ f. absurd (true_false (sym f ∙ e));
  begins = λ f. refl;
  asks = λ f. refl;
})

pub moves_to : (plan : CarPlan) (s : State) (session : Session) (from to : CarStage) (r : Reply) → MovesTo plan s session from to (moved plan s session from r to)
moves_to plan s session from to r = moves_by (is_again from.phase to.phase) plan s session from to r refl

after_as : (o : Option EndCause) (c : post.Codecs) (post_plan : PostPlan) (plan : CarPlan) (b : Both) (x : Outside) (s : State) (session : Session) → o ≡ None
    → MovesTo plan s session b.car (behind post_plan plan b x).car (after_reply o post_plan plan b x s session)
after_as None c post_plan plan b x s session e = moves_to plan s session b.car (behind post_plan plan b x).car (heard post_plan plan b x)
after_as (Some why) c post_plan plan b x s session e = absurd (let n : Some why ≡ None = e in cc)

pub reads_on : (c : post.Codecs) (post_plan : PostPlan) (plan : CarPlan) (s : station.State) (k : State) (ts tc : List ℕ) (w : car.Judged) (r : ReadsReply c post_plan plan s k ts tc w) → is_from_start r.b.car.phase ≡ false
    → MovesTo plan (decided plan k) r.session r.b.car (behind post_plan plan r.b r.x).car (read plan (decided plan k) w)
reads_on c post_plan plan s k ts tc w r e =
    subst (λ (t : State). MovesTo plan (decided plan k) r.session r.b.car (behind post_plan plan r.b r.x).car t) (sym r.is)
    (after_as (end_of r.b.car.phase) c post_plan plan r.b r.x (decided plan k) r.session (goes_on_then r.b.car.phase e))

-- from PowerDelivery Start on it stays past that
moves_past : (plan : CarPlan) (s : State) (session : Session) (from to : CarStage) (k : State) → MovesTo plan s session from to k → is_from_start to.phase ≡ true → PastStart k.session
moves_past plan s session from to k m p = past_by k.session m.new to m.new_is m.stage p

after_past : (o : Option EndCause) (post_plan : PostPlan) (plan : CarPlan) (b : Both) (x : Outside) (s : State) (session : Session) → session.stage ≡ Some b.car → is_from_start b.car.phase ≡ true
    → is_from_start (behind post_plan plan b x).car.phase ≡ true → PastStart (after_reply o post_plan plan b x s session).session
after_past None post_plan plan b x s session e p q =
    moves_past plan s session b.car (behind post_plan plan b x).car (moved plan s session b.car (heard post_plan plan b x) (behind post_plan plan b x).car)
    (moves_to plan s session b.car (behind post_plan plan b x).car (heard post_plan plan b x)) q
after_past (Some why) post_plan plan b x s session e p q = subst PastStage (sym e) p

pub reads_past : (c : post.Codecs) (post_plan : PostPlan) (plan : CarPlan) (s : station.State) (k : State) (ts tc : List ℕ) (w : car.Judged) (r : ReadsReply c post_plan plan s k ts tc w) → is_from_start r.b.car.phase ≡ true
    → PastStart (read plan (decided plan k) w).session
reads_past c post_plan plan s k ts tc w r e =
    let b : Both = r.b in
    let m : Meets post_plan r.b = r.meets in
    subst (λ (t : State). PastStart t.session) (sym r.is)
    (after_past (end_of b.car.phase) post_plan plan b r.x (decided plan k) r.session r.stage_is e
    (from_behind (behind post_plan plan b r.x).car.phase
    (leads_behind b.car.phase plan b.car.dialect (heard post_plan plan b r.x).tell (stops plan b.car.cycles _ (heard post_plan plan b r.x).tell) e
    (no_renewal (is_ac post_plan.mode) b.car.phase b.post.row m.in_row))))

-- behind the reply to a PreCharge request
until_by : (b : Bool) → ((if b then phase.Starting else phase.PreCharging) ≡ phase.Starting) ⊎ (((if b then phase.Starting else phase.PreCharging) ≡ phase.PreCharging) × (b ≡ false))
until_by true = inl refl
until_by false = inr (refl, refl)

pub pre_charge_leads : (plan : CarPlan) (d : Dialect) (ph : CarPhase) (told : Tell) (stopping : Bool) → ph ≡ phase.PreCharging
    → (is_from_start (leads plan d ph told stopping) ≡ true) ⊎ ((leads plan d ph told stopping ≡ phase.PreCharging) × (is_pre_charged plan.target_voltage told ≡ false))
pre_charge_leads plan d ph told stopping e =
    subst (λ (p : CarPhase). (is_from_start (leads plan d p told stopping) ≡ true) ⊎ ((leads plan d p told stopping ≡ phase.PreCharging) × (is_pre_charged plan.target_voltage told ≡ false))) (sym e)
    (elim (until_by (is_pre_charged plan.target_voltage told)) [
      | inl f ↦ inl (ap is_from_start f)
      | inr f ↦ inr f
    ])

-- ---- while a car pre-charges, no reply waits for the contactor

unwaiting_by : (s : station.State) (x : station.Session) → s.session ≡ Some x → is_waiting x.stage.row ≡ false → Unwaiting s.session
unwaiting_by s x e w = subst Unwaiting (sym e) w

listens_unwaiting : (post_plan : PostPlan) (s : station.State) (stage : Stage) (unread : List ℕ) → Listens post_plan s stage unread → is_waiting stage.row ≡ false → Unwaiting s.session
listens_unwaiting post_plan s stage unread l w =
    let still = l.still in
    unwaiting_by s l.session still.session_is (ap (λ (x : Stage). is_waiting x.row) l.stage_is ∙ w)

replies_unwaiting : (o : Option EndCause) (c : post.Codecs) (post_plan : PostPlan) (limit : ℕ) (s : station.State) (act : Act) (stage : Stage) → GoesOnBy o post_plan s (confirmed stage) → o ≡ None → Unwaiting s.session
replies_unwaiting None c post_plan limit s act stage l e = listens_unwaiting post_plan s (confirmed stage) [] l (confirmed_not stage.row)
replies_unwaiting (Some why) c post_plan limit s act stage l e = absurd (let n : Some why ≡ None = e in cc)

-- before a dialect is chosen a car is in no phase
pub never_staged : (y : Option Session) → ((x : Session) → y ≡ Some x → x.stage ≡ None) → IsInPhase phase.PreCharging y → ⊥
never_staged None n i = i
never_staged (Some x) n i = subst (HasPhase phase.PreCharging) (n x refl) i

talks_unwaiting : (c : post.Codecs) (cs : car.Codecs) (post_plan : PostPlan) (plan : CarPlan) (limit : ℕ) (b : Both) (s : station.State) (k : State) (ts tc : List ℕ) (act : Act) → Meets post_plan b
    → Talks c cs post_plan plan b s k ts tc → Acts c post_plan (Shows limit [] []) s None act true → IsInPhase phase.PreCharging k.session → Unwaiting s.session
talks_unwaiting c cs post_plan plan limit b s k ts tc act m (IsToAsk order l say none) i ph =
    let takes : TakesWords b.post.row = meets_takes post_plan b m in listens_unwaiting post_plan s b.post [] l takes.waits
talks_unwaiting c cs post_plan plan limit b s k ts tc act m (Rests l a none) i ph =
    let takes : TakesWords b.post.row = meets_takes post_plan b m in listens_unwaiting post_plan s b.post [] l takes.waits
talks_unwaiting c cs post_plan plan limit b s k ts tc act m (Asks request unread encodes l a comes e) i ph =
    let takes : TakesWords b.post.row = meets_takes post_plan b m in listens_unwaiting post_plan s b.post unread l takes.waits
talks_unwaiting c cs post_plan plan limit b s k ts tc act m (IsToReply facts later shown fits send a none) i ph =
    let still = a.still in
    unwaiting_by s send.session send.session_is
    (ap (λ (x : Stage). is_waiting x.row) send.stage_is
    ∙ pre_charge_waits_not post_plan plan b (exchange facts later shown) m (phase_is phase.PreCharging k.session a.session b.car still.session_is a.stage_is ph))
talks_unwaiting c cs post_plan plan limit b s k ts tc act m (Closes facts shown fits last l w a none) i ph = absurd (quiet_acts c post_plan limit s None act (waits_quiet post_plan s _ [] l w) i)
talks_unwaiting c cs post_plan plan limit b s k ts tc act m (Replies facts later shown payload unread fits encodes goes a e comes) i ph =
    let still = a.still in
    replies_unwaiting (end_of b.car.phase) c post_plan limit s act (judged post_plan plan b (exchange facts later shown)) goes
    (goes_on_then b.car.phase (ap is_from_start (phase_is phase.PreCharging k.session a.session b.car still.session_is a.stage_is ph)))

by_end : (x : Bool) (c : post.Codecs) (cs : car.Codecs) (post_plan : PostPlan) (plan : CarPlan) (limit : ℕ) (b : Both) (s : station.State) (k : State) (ts tc : List ℕ) (act : Act) → Meets post_plan b
    → TalksBy x c cs post_plan plan b s k ts tc → Acts c post_plan (Shows limit [] []) s None act true → IsInPhase phase.PreCharging k.session → Unwaiting s.session
by_end true c cs post_plan plan limit b s k ts tc act m t i ph = absurd (ends_do c post_plan plan limit s k ts tc None act t i)
by_end false c cs post_plan plan limit b s k ts tc act m t i ph = talks_unwaiting c cs post_plan plan limit b s k ts tc act m t i ph

pub unwaiting_at : (words : Words) (c : post.Codecs) (cs : car.Codecs) (post_plan : PostPlan) (plan : CarPlan) (limit : ℕ) (s : station.State) (k : State) (ts tc : List ℕ) (act : Act) → IsPair c cs post_plan plan
    → IsIn c cs post_plan plan words s k ts tc → Acts c post_plan (Shows limit [] []) s None act true → IsInPhase phase.PreCharging k.session → Unwaiting s.session
unwaiting_at NoneYet c cs post_plan plan limit s k ts tc act p t i ph = absurd (never_staged k.session (begins_unstaged c cs post_plan plan s k ts tc t) ph)
unwaiting_at (Read dialect xs) c cs post_plan plan limit s k ts tc act p t i ph =
    by_end (has_ended post_plan plan token dialect xs) c cs post_plan plan limit (both post_plan plan token dialect xs) s k ts tc act (they_meet post_plan plan token dialect xs p.paired t.0) t.1 i ph
