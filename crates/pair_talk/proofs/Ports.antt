-- A car that is joined to a station dials no port, so it doesn't matter which one its plan names.
use Rattle.std.proofs.Common.{◌≡◌, Bool, true, not, ◌||◌, if◌then◌else◌, [], ◌∷◌, Option, Some, None, is_some, refl, ap, ◌∙◌}
use Rattle.charge_world.specs.declared.offer.Dialect.{Dialect}
use Rattle.charge_world.specs.declared.ports.Order.{Order}
use Rattle.session_words.specs.declared.cause.EndCause.{EndCause}
use Rattle.session_words.specs.declared.cause.EndCause.TheVariants as cause
use Rattle.session_words.specs.declared.plan.CarPlan.{CarPlan}
use Rattle.session_words.specs.declared.word.Ask.{Ask}
use Rattle.session_words.specs.declared.word.Reply.{Reply}
use Rattle.session_words.specs.declared.word.Tell.{Tell}
use Rattle.session_rules.specs.Lines.{line, first_line}
use Rattle.session_rules.specs.Verdict.{is_accepted}
use Rattle.car_rules.specs.declared.stage.CarPhase.{CarPhase}
use Rattle.car_rules.specs.declared.stage.CarPhase.TheVariants as phase
use Rattle.car_rules.specs.declared.stage.CarStage.{CarStage}
use Rattle.car_rules.specs.Deadlines.{due_at}
use Rattle.car_rules.specs.Moves.{is_again, leads, order_of, stops, session_behind, cycles_behind, stage_behind}
use Rattle.car_rules.specs.Replies.{answers, is_misnamed, lacks_mode, is_ending, stop_cause, reply_cause}
use Rattle.car_rules.specs.Requests.{ask_of}
use Rattle.car_spec.specs.Codecs.{Judged, Chosen, Told, WrongSide, Refused, Codecs}
use Rattle.car_spec.specs.Deciding.{decided}
use Rattle.car_spec.specs.Judging.{waiting, gone_on, moved, replied_by, replied, judged, judged_in, read}
use Rattle.car_spec.specs.Next.{IsQuiet, IsSaid, IsDone, MayAct, MayRead}
use Rattle.car_spec.specs.States.{Session, State, Wording, nothing, Todo, Call, Drive, Speak, Finish, Inquire}
use Rattle.car_spec.specs.Steps.{Act, Spoken, Offer, Asked}
use Rattle.pipe_spec.specs.Histories.{ported}

pub same_decided : (plan : CarPlan) (s : State) → decided (ported plan) s ≡ decided plan s
same_decided plan s = refl

ask_same : (plan : CarPlan) (d : Dialect) (p : CarPhase) → ask_of (ported plan) d p ≡ ask_of plan d p
ask_same plan d phase.SettingUp = refl
ask_same plan d phase.Discovering = refl
ask_same plan d phase.Selecting = refl
ask_same plan d phase.Authorizing = refl
ask_same plan d phase.Asking = refl
ask_same plan d phase.CableChecking = refl
ask_same plan d phase.PreCharging = refl
ask_same plan d phase.Starting = refl
ask_same plan d phase.Charging = refl
ask_same plan d phase.Stopping = refl
ask_same plan d phase.Renegotiating = refl
ask_same plan d phase.Ending = refl
ask_same plan d (phase.Welding left) = refl

leads_same : (plan : CarPlan) (d : Dialect) (p : CarPhase) (told : Tell) (stopping : Bool) → leads (ported plan) d p told stopping ≡ leads plan d p told stopping
leads_same plan d phase.SettingUp told stopping = refl
leads_same plan d phase.Discovering told stopping = refl
leads_same plan d phase.Selecting told stopping = refl
leads_same plan d phase.Authorizing told stopping = refl
leads_same plan d phase.Asking told stopping = refl
leads_same plan d phase.CableChecking told stopping = refl
leads_same plan d phase.PreCharging told stopping = refl
leads_same plan d phase.Starting told stopping = refl
leads_same plan d phase.Charging told stopping = refl
leads_same plan d phase.Stopping told stopping = refl
leads_same plan d phase.Renegotiating told stopping = refl
leads_same plan d phase.Ending told stopping = refl
leads_same plan d (phase.Welding left) told stopping = refl

order_same : (plan : CarPlan) (p : CarPhase) (told : Tell) → order_of (ported plan) p told ≡ order_of plan p told
order_same plan phase.SettingUp told = refl
order_same plan phase.Discovering told = refl
order_same plan phase.Selecting told = refl
order_same plan phase.Authorizing told = refl
order_same plan phase.Asking told = refl
order_same plan phase.CableChecking told = refl
order_same plan phase.PreCharging told = refl
order_same plan phase.Starting told = refl
order_same plan phase.Charging told = refl
order_same plan phase.Stopping told = refl
order_same plan phase.Renegotiating told = refl
order_same plan phase.Ending told = refl
order_same plan (phase.Welding left) told = refl

cause_same : (plan : CarPlan) (s : CarStage) (awaited : Bool) (r : Reply) → reply_cause (ported plan) s awaited r ≡ reply_cause plan s awaited r
cause_same plan s awaited r = ap (λ (a : Ask). first_line (line (not awaited || not (answers a r.tell) || is_misnamed s r.session) (Some cause.WrongReply) ∷
    line (not (is_accepted r.code)) (Some cause.CodeFailed) ∷
    line (lacks_mode plan.mode r.tell) (Some cause.NoOffer) ∷
    line (is_ending s.phase) (Some (stop_cause plan s.dialect)) ∷ []) None) (ask_same plan s.dialect s.phase)

stage_same : (plan : CarPlan) (s : CarStage) (r : Reply) (stop : Bool) → stage_behind (ported plan) s r stop ≡ stage_behind plan s r stop
stage_same plan s r stop = ap (λ (p : CarPhase). record { phase = p; dialect = s.dialect; session = session_behind s.phase s.session r.session; cycles = cycles_behind s.phase s.cycles })
    (leads_same plan s.dialect s.phase r.tell (stops plan s.cycles stop r.tell))

abbrev onward : CarPlan → State → Session → CarStage → CarStage → Option Order → Ask → State
onward plan s session from to order asked =
    if is_again from.phase to.phase
    then record s { part = Wording; session = Some (waiting session to (due_at s.clock plan.pace)); agenda = nothing }
    else record s {
      part = Wording;
      session = Some (gone_on session to s.clock);
      agenda = record nothing { order = order; spoken = Some (Asked to.dialect (record { session = to.session; ask = asked })) };
    }

moved_same : (plan : CarPlan) (s : State) (session : Session) (from : CarStage) (r : Reply) (to : CarStage) → moved (ported plan) s session from r to ≡ moved plan s session from r to
moved_same plan s session from r to =
    ap (λ (o : Option Order). onward plan s session from to o (ask_of (ported plan) to.dialect to.phase)) (order_same plan from.phase r.tell)
    ∙ ap (λ (a : Ask). onward plan s session from to (order_of plan from.phase r.tell) a) (ask_same plan to.dialect to.phase)

replied_so : (o : Option EndCause) (plan : CarPlan) (s : State) (session : Session) (stage : CarStage) (r : Reply) → replied_by o (ported plan) s session stage r ≡ replied_by o plan s session stage r
replied_so (Some cause) plan s session stage r = refl
replied_so None plan s session stage r =
    ap (λ (to : CarStage). moved (ported plan) s session stage r to) (stage_same plan stage r session.stop) ∙ moved_same plan s session stage r (stage_behind plan stage r session.stop)

replied_same : (plan : CarPlan) (s : State) (session : Session) (o : Option CarStage) (r : Reply) → replied (ported plan) s session o r ≡ replied plan s session o r
replied_same plan s session None r = refl
replied_same plan s session (Some stage) r =
    ap (λ (o : Option EndCause). replied_by o (ported plan) s session stage r) (cause_same plan stage (is_some session.moments.sent) r)
    ∙ replied_so (reply_cause plan stage (is_some session.moments.sent) r) plan s session stage r

judged_same : (plan : CarPlan) (s : State) (session : Session) (word : Judged) → judged (ported plan) s session word ≡ judged plan s session word
judged_same plan s session (Chosen None) = refl
judged_same plan s session (Chosen (Some d)) = refl
judged_same plan s session (Told r) = replied_same plan s session session.stage r
judged_same plan s session WrongSide = refl
judged_same plan s session Refused = refl

judged_so : (plan : CarPlan) (s : State) (o : Option Session) (word : Judged) → judged_in (ported plan) s o word ≡ judged_in plan s o word
judged_so plan s None word = refl
judged_so plan s (Some session) word = judged_same plan s session word

pub same_read : (plan : CarPlan) (s : State) (word : Judged) → read (ported plan) s word ≡ read plan s word
same_read plan s word = judged_so plan s s.session word

said_so : (c : Codecs) (plan : CarPlan) (spoken : Spoken) (act : Act) → IsSaid c (ported plan) spoken act → IsSaid c plan spoken act
said_so c plan Offer act m = record { payload = m.payload; spoken_is = m.spoken_is; act_is = m.act_is }
said_so c plan (Asked dialect request) act m = record { payload = m.payload; spoken_is = m.spoken_is; act_is = m.act_is }

done_so : (c : Codecs) (plan : CarPlan) (todo : Todo) (act : Act) → IsDone c (ported plan) todo act true → IsDone c plan todo act true
done_so c plan (Call port) act m = m
done_so c plan (Drive o) act m = m
done_so c plan (Speak spoken) act m = said_so c plan spoken act m
done_so c plan (Finish cause) act m = m
done_so c plan Inquire act m = m

pub acts_so : (c : Codecs) (plan : CarPlan) (s : State) (act : Act) → MayAct c (ported plan) s act true → MayAct c plan s act true
acts_so c plan s act m = record { todo = m.todo; acts = m.acts; done = done_so c plan m.todo act m.done }

pub reads_so : (c : Codecs) (plan : CarPlan) (s : State) (word : Judged) → MayRead c (ported plan) s word → MayRead c plan s word
reads_so c plan s word m = m

pub rests_so : (plan : CarPlan) (s : State) → IsQuiet (ported plan) s → IsQuiet plan s
rests_so plan s q = record { none = q.none; no_word = q.no_word }
