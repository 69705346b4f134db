-- One step more leaves a told course and that of the run alike, but where only the end of the session is left.
use Rattle.std.proofs.Common.{◌≡◌, ℕ, Bool, true, false, ◌&&◌, ◌||◌, if◌then◌else◌, List, [], ◌∷◌, drop, map, Option, Some, None, is_some, refl, sym, ap, subst, ◌∙◌, inl, inr, ◌⊎◌}
use Rattle.std.proofs.lemmas.Bool.{ne_eqb}
use Rattle.charge_world.specs.declared.offer.Dialect.{Dialect}
use Rattle.charge_world.specs.declared.heard.PlantEvent.{PlantEvent}
use Rattle.charge_world.specs.declared.ports.Order.{Order}
use Rattle.charge_world.specs.declared.ports.Order.TheVariants as order
use Rattle.session_words.specs.Codes.{IsOkClass}
use Rattle.session_words.specs.Causes.{number_of}
use Rattle.session_words.specs.declared.cause.EndCause.{EndCause}
use Rattle.session_words.specs.declared.cause.EndCause.TheVariants.{SendFailed, OrderFailed, FailedReply}
use Rattle.session_words.specs.declared.code.Code.{Code}
use Rattle.session_words.specs.declared.code.Code.TheVariants as code
use Rattle.session_words.specs.declared.facts.Facts.{Facts}
use Rattle.session_words.specs.declared.code.Progress.TheVariants as progress
use Rattle.session_words.specs.declared.phase.Phase.{Phase}
use Rattle.session_words.specs.declared.phase.Phase.TheVariants as row
use Rattle.session_words.specs.declared.plan.PostPlan.{PostPlan}
use Rattle.session_words.specs.declared.session.SessionId.{SessionId}
use Rattle.session_words.specs.declared.word.Ask.{Ask}
use Rattle.session_words.specs.declared.word.Ask.TheVariants as ask
use Rattle.session_words.specs.declared.word.Reply.{Reply}
use Rattle.session_words.specs.declared.word.Request.{Request}
use Rattle.session_words.specs.declared.word.Tell.{Tell}
use Rattle.session_words.specs.declared.word.Word.TheVariants as word
use Rattle.session_rules.specs.declared.stage.PreCharged.{PreCharged}
use Rattle.session_rules.specs.declared.stage.Stage.{Stage}
use Rattle.session_rules.specs.Causes.{plant_cause}
use Rattle.session_rules.specs.Moves.{facts_by, facts_behind}
use Rattle.session_rules.specs.Rows.{leads}
use Rattle.session_rules.specs.Stages.{is_waiting, confirmed}
use Rattle.session_rules.specs.Verdict.{verdict, is_accepted}
use Rattle.v2gtp_frames.specs.Frames.{frame}
use Rattle.post_spec.specs.Codecs.{Judged, Negotiated, Asked, WrongSide, Refused, Codecs}
use Rattle.post_spec.specs.Contactors.{live}
use Rattle.post_spec.specs.Course.{Talked, Course, course, facts_of, chosen_talk, asked_course, read_in, read_by, confirmed_in, kept_by}
use Rattle.post_spec.specs.Course as course
use Rattle.post_spec.specs.Facts.{now}
use Rattle.post_spec.specs.Sessions.{arriving, session, with_seen, stream}
use Rattle.post_spec.specs.Spelled.{read_back}
use Rattle.post_spec.specs.Steps.{Event, Came, Bytes, Gone, Datagram, Plant, Clock, Over, Act, Give, Send, Answer, End, Seen, Did, Reading, Step, Hears, Does, seen_of}
use Rattle.post_spec.specs.Words.{HeardWord, Payload}
use Rattle.station_spec.specs.States.{Agenda, Session, State, Spoken, Todo, nothing, first, first_of, is_done, is_none}
use Rattle.station_spec.specs.States as states
use Rattle.station_spec.specs.Deciding.{repeating, timing, watch, confirms, confirming, charging_by, charging, eventing, fronting, decided}
use Rattle.station_spec.specs.Judging.{Payload as Wanted, judged, taken_in, wanted, filled, IsRead}
use Rattle.station_spec.specs.Acting.{failing, agenda_said, acted, state}
use Rattle.station_spec.specs.Next.{IsSpoken, IsDone, Acts}
use Rattle.station_spec.specs.Sharing.{Post, Shows}
use Rattle.station_laws.specs.PostRuns.{IsPostRun}
use Rattle.station_laws.proofs.Contactors.{contactors_are_read, filled_live}
use Rattle.station_laws.proofs.Decided.{decided_by}
use Rattle.read_runs.specs.Courses.{talked_of, talked_in}
use Rattle.read_runs.proofs.Agendas.{done_empty, decided_not, say_is, give_is, repeating_silent, timing_silent, ending_silent, fronting_silent}
use Rattle.read_runs.proofs.Courses.{courses_are_read}
use Rattle.read_runs.proofs.Facts.{facts_are_read}
use Rattle.safe_runs.proofs.Asked.{row_takes}
use Rattle.standing_causes_open.proofs.Again.{give_todo}
use Rattle.own_traces.proofs.Judging.{words_of}
use Rattle.own_traces.proofs.Opening.{All, acted_all, heard_all}
use Rattle.own_traces.proofs.Plain.{answer_unread, decided_plain, say_todo, steps_clean, tell_is, tell_todo}
use Rattle.told_pasts.specs.Causes.{HasCause, HasNotSent}
use Rattle.told_pasts.specs.Course.{pre_charge_said, schedule_said, stage_said, talked_said, course_said, told_course}
use Rattle.told_pasts.specs.Reading.{IsReading, IsJudged}
use Rattle.told_pasts.specs.Spelling.{SpelledWatts, ToldCodecs}
use Rattle.told_pasts.specs.Steps as told
use Rattle.told_pasts.specs.Steps.{Said, Response, Replied, Other, Unasked, ToldStep, seen_in}
use Rattle.told_pasts.specs.Talk.{is_judged}
use Rattle.own_traces.specs.Owning.{TellsOwn}
use Rattle.own_traces.proofs.Answering.{IsShut, SpeaksIn, Answering, Responds, Replies, steps_owe, filled_owes}
use Rattle.own_traces.proofs.First.{FirstWord}
use Rattle.own_traces.proofs.Told.{IsOtherAct}
use Rattle.own_traces.proofs.Saying.{Lives, SaidSo, WasResponse, WasReply}
use Rattle.own_courses.specs.Writing.{Tells}
use Rattle.own_courses.proofs.Alike.{Known, AreAlike, as_one, same_alike, read_alike, acted_alike}
use Rattle.own_courses.proofs.Calm.{differ}
use Rattle.own_courses.proofs.Due.{Fits, Part, Settled, Dues, filled_due, steps_due}
use Rattle.own_courses.proofs.Readings.{IsAbout, reads_told, ends_same}
use Rattle.own_courses.proofs.Still.{none_still, arriving_quiet}
use Rattle.own_courses.proofs.Unread.{LimitsRead, SentWell, IsOwed, quiet_not, unread_opens, unread_told}

-- the session goes on, or none lives
pub record Going (c : ToldCodecs) (plan : PostPlan) (old : List ToldStep) (steps : List Step) : Type 0 where
  pub alike : AreAlike (map seen_of steps) (told_course plan old) (course plan steps)
  pub limits : LimitsRead old
  pub sent : SentWell steps (state plan steps)
  pub owed : IsOwed old (state plan steps)

-- something couldn't be sent, or an order to open was given then
abbrev pub IsCut : List ToldStep → Type 0
IsCut [] = ⊥
IsCut (told.Hears at event ∷ old) = ⊥
IsCut (told.Does r (Give order.Open) taken ∷ old) = Unit {0}
IsCut (told.Does r (Give order.Close) taken ∷ old) = ⊥
IsCut (told.Does r (Give (order.Limits voltage current watts)) taken ∷ old) = ⊥
IsCut (told.Does r (Send bytes) taken ∷ old) = ⊥
IsCut (told.Does r (Answer bytes) taken ∷ old) = ⊥
IsCut (told.Does r (End cause) taken ∷ old) = ⊥
IsCut (told.Sends r bytes true said ∷ old) = ⊥
IsCut (told.Sends r bytes false said ∷ old) = Unit {0}

-- only its end is left, behind an order to open
pub record Ending (c : ToldCodecs) (plan : PostPlan) (old : List ToldStep) (steps : List Step) : Type 0 where
  pub k : EndCause
  pub ending : (state plan steps).agenda.ending ≡ Some k
  pub number : number_of k ≡ 29 → ⊥
  pub reply : (state plan steps).agenda.reply ≡ None
  pub datagram : (state plan steps).agenda.datagram ≡ None
  pub kept_is : (told_course plan old).kept ≡ (course plan steps).kept
  pub talked : Talked
  pub talked_is : (told_course plan old).session ≡ Some talked
  pub renew_is : ((told_course plan old).renew ≡ (course plan steps).renew) ⊎ (arriving (map seen_of steps) ≡ None)
  pub opens : ((state plan steps).agenda.order ≡ None) ⊎ (((state plan steps).agenda.order ≡ Some order.Open) × (talked.stage.row ≡ row.Negotiated → ⊥))
  pub why : (IsCut old × HasCause c plan old) ⊎ (((state plan steps).live ≡ false) × ((state plan steps).agenda.order ≡ None))

abbrev pub Phased : ToldCodecs → PostPlan → List ToldStep → List Step → Type 0
Phased c plan old steps = Going c plan old steps ⊎ Ending c plan old steps

-- ---- what is known before a step

pub known_other : (c : ToldCodecs) (plan : PostPlan) (r q : Option Reading) (a b : Act) (taken t : Bool) (old : List ToldStep) (steps : List Step) → Known c plan (told.Does r a taken ∷ old) (Does q b t ∷ steps) → Known c plan old steps
known_other c plan r q a b taken t old steps k =
    record { own = k.own; all = acted_all c.words plan q b t steps k.all; silent = k.silent.0; told = k.told.0; same = (let x = k.same in cc); said = k.said }

pub known_send : (c : ToldCodecs) (plan : PostPlan) (r q : Option Reading) (bytes : List ℕ) (b : Act) (taken t : Bool) (said : Said) (old : List ToldStep) (steps : List Step) → Known c plan (told.Sends r bytes taken said ∷ old) (Does q b t ∷ steps) → Known c plan old steps
known_send c plan r q bytes b taken t said old steps k =
    record { own = k.own; all = acted_all c.words plan q b t steps k.all; silent = k.silent.0; told = k.told.0; same = (let x = k.same in cc); said = k.said.0 }

pub known_heard : (c : ToldCodecs) (plan : PostPlan) (at n : ℕ) (e f : Event) (old : List ToldStep) (steps : List Step) → Known c plan (told.Hears at e ∷ old) (Hears n f ∷ steps) → Known c plan old steps
known_heard c plan at n e f old steps k = record { own = k.own; all = heard_all c.words plan n f steps k.all; silent = k.silent; told = k.told; same = (let x = k.same in cc); said = k.said }

-- ---- a course by its past

told_does : (plan : PostPlan) (old : List ToldStep) (past : List Seen) (r : Option Reading) (a : Act) (taken : Bool) → seen_in old ≡ past
    → told_course plan (told.Does r a taken ∷ old) ≡ course.acted a taken (read_by (told_course plan old).session past (told_course plan old) plan r)
told_does plan old past r a taken same = ap (λ (xs : List Seen). course.acted a taken (read_by (told_course plan old).session xs (told_course plan old) plan r)) same

told_sends : (plan : PostPlan) (old : List ToldStep) (past : List Seen) (r : Option Reading) (bytes : List ℕ) (taken : Bool) (said : Said) → seen_in old ≡ past
    → told_course plan (told.Sends r bytes taken said ∷ old) ≡ course.acted (Send bytes) taken (course_said said (read_by (told_course plan old).session past (told_course plan old) plan r))
told_sends plan old past r bytes taken said same = ap (λ (xs : List Seen). course.acted (Send bytes) taken (course_said said (read_by (told_course plan old).session xs (told_course plan old) plan r))) same

-- ---- an order, an answer to a datagram

-- what comes with a reply
abbrev Alone : State → Type 0
Alone t = is_some t.agenda.reply ≡ true → (t.agenda.order ≡ None) × (t.agenda.datagram ≡ None)

quiet_by : {A : Type 0} (r : Option Spoken) → r ≡ None → is_some r ≡ true → A
quiet_by r n h = differ (is_some r) h (ap is_some n)

confirms_alone : (b : Bool) (spoken : Spoken) → is_some (if b then record nothing { reply = Some spoken } else nothing).reply ≡ true
    → ((if b then record nothing { reply = Some spoken } else nothing).order ≡ None) × ((if b then record nothing { reply = Some spoken } else nothing).datagram ≡ None)
confirms_alone true spoken h = (refl, refl)
confirms_alone false spoken h = (refl, refl)

charges_alone : (plan : PostPlan) (ss : Session) (event : PlantEvent) (s : State) (cause : Option EndCause) → is_some (charging_by cause (confirming plan ss event s) s.live).reply ≡ true
    → ((charging_by cause (confirming plan ss event s) s.live).order ≡ None) × ((charging_by cause (confirming plan ss event s) s.live).datagram ≡ None)
charges_alone plan ss event s (Some k) h = cc
charges_alone plan ss event s None h = confirms_alone (is_waiting ss.stage.row && confirms event) _ h

charging_alone : (plan : PostPlan) (kept : Option Session) (event : PlantEvent) (s : State) → is_some (charging plan kept event s).reply ≡ true → ((charging plan kept event s).order ≡ None) × ((charging plan kept event s).datagram ≡ None)
charging_alone plan None event s h = cc
charging_alone plan (Some ss) event s h = charges_alone plan ss event s (plant_cause (watch plan ss s) event) h

events_alone : (plan : PostPlan) (e : Event) (s : State) → is_some (eventing plan e s).reply ≡ true → ((eventing plan e s).order ≡ None) × ((eventing plan e s).datagram ≡ None)
events_alone plan (Came token) s h = quiet_by (eventing plan (Came token) s).reply (ending_silent s.session _ s.live) h
events_alone plan (Bytes bytes) s h = cc
events_alone plan Gone s h = quiet_by (eventing plan Gone s).reply (ending_silent s.session _ s.live) h
events_alone plan (Datagram bytes) s h = cc
events_alone plan (Plant event) s h = charging_alone plan s.session event s h
events_alone plan Clock s h = cc
events_alone plan Over s h = quiet_by (eventing plan Over s).reply (ending_silent s.session _ s.live) h

decided_alone : (plan : PostPlan) (s : State) → is_done s.agenda ≡ true → Alone (decided plan s)
decided_alone plan s d = decided_by Alone plan s (λ x. record {
  repeats = λ h. quiet_by (repeating s.facts.contactor).reply (repeating_silent s.facts.contactor) h;
  times = λ h. quiet_by (timing s.session s.clock s.live).reply (timing_silent s.session s.clock s.live) h;
  events = events_alone plan s.event s;
  fronts = λ h. quiet_by (fronting s.session s.live).reply (fronting_silent s.session s.live) h;
}) (λ h. quiet_by s.agenda.reply (done_empty s.agenda d).reply h)

none_some : {A B : Type 0} (x : A) → None ≡ Some x → B
none_some x h = cc

-- a reply that is left behind an order or an answer was owed before
left_owed : (plan : PostPlan) (old : List ToldStep) (s : State) (b : Bool) → is_done s.agenda ≡ b → IsOwed old s → ((o : Order) × ((decided plan s).agenda.order ≡ Some o)) ⊎ ((d : List ℕ) × ((decided plan s).agenda.datagram ≡ Some d))
    → is_some (decided plan s).agenda.reply ≡ true → is_judged old ≡ true
left_owed plan old s true e owed (inl x) h = none_some x.0 (sym (decided_alone plan s e h).0 ∙ x.1)
left_owed plan old s true e owed (inr x) h = none_some x.0 (sym (decided_alone plan s e h).1 ∙ x.1)
left_owed plan old s false e owed x h = owed (sym (ap (λ (t : State). is_some t.agenda.reply) (decided_not plan s e)) ∙ h)

or_right : (a b : Bool) → b ≡ true → (a || b) ≡ true
or_right true b h = refl
or_right false b h = h

or_some : (r : Option Reading) (w : Reading) (b : Bool) → r ≡ Some w → (is_some r || b) ≡ true
or_some r w b e = ap (λ (x : Option Reading). is_some x || b) e

fails_silent : (e : Option EndCause) (kept : Option Session) (cause : EndCause) (on : Bool) → (failing e kept cause on).reply ≡ None
fails_silent None kept cause on = ending_silent kept cause on
fails_silent (Some k) kept cause on = refl

said_silent : (b : Option EndCause) (kept : Option Session) (a : Agenda) (on : Bool) → (agenda_said b kept a on).reply ≡ None
said_silent None kept a on = refl
said_silent (Some k) kept a on = ending_silent kept k on

gave_owed : (c : ToldCodecs) (plan : PostPlan) (S : ℕ → ℕ → Type 0) (old : List ToldStep) (steps : List Step) (r q : Option Reading) (o : Order) (taken : Bool) → r ≡ q → IsOwed old (state plan steps) → Acts c.words plan S (state plan steps) q (Give o) taken
    → IsOwed (told.Does r (Give o) taken ∷ old) (state plan (Does q (Give o) taken ∷ steps))
gave_owed c plan S old steps r q o false e owed acts h =
    let f = filled plan q (state plan steps) in
    quiet_by (failing f.agenda.ending f.session _ _).reply (fails_silent f.agenda.ending f.session _ _) h
gave_owed c plan S old steps r (Some w) o true e owed acts h = or_some r w (is_judged old) e
gave_owed c plan S old steps r None o true e owed acts h =
    let f = decided plan (state plan steps) in
    let has : f.agenda.order ≡ Some o = give_is f.agenda.datagram f.agenda.order f.agenda.reply f.agenda.ending o (acts.acts ∙ ap Some (give_todo c.words acts.todo o true acts.done)) in
    or_right (is_some r) (is_judged old) (left_owed plan old (state plan steps) (is_done (state plan steps).agenda) refl owed (inl (o, has)) h)

gave_limits : (c : ToldCodecs) (plan : PostPlan) (S : ℕ → ℕ → Type 0) (old : List ToldStep) (steps : List Step) (r q : Option Reading) (o : Order) (taken : Bool) → r ≡ q → All c.words plan steps → Acts c.words plan S (state plan steps) q (Give o) taken → LimitsRead (told.Does r (Give o) taken ∷ old)
gave_limits c plan S old steps r q order.Open taken e all acts = tt
gave_limits c plan S old steps r q order.Close taken e all acts = tt
gave_limits c plan S old steps r (Some w) (order.Limits voltage current watts) taken e all acts = ap is_some e
gave_limits c plan S old steps r None (order.Limits voltage current watts) taken e all acts =
    let f = decided plan (state plan steps) in
    let o = order.Limits voltage current watts in
    let has : f.agenda.order ≡ Some (order.Limits voltage current watts) = give_is f.agenda.datagram f.agenda.order f.agenda.reply f.agenda.ending (order.Limits voltage current watts) (acts.acts ∙ ap Some (give_todo c.words acts.todo (order.Limits voltage current watts) taken acts.done)) in
    let x : order.Limits voltage current watts ≡ order.Open = unread_opens c.words plan steps all (order.Limits voltage current watts) has in
    cc

no_reading : (c : ToldCodecs) (plan : PostPlan) (St : ℕ → ℕ → Type 0) (old : List ToldStep) (a : Act) (r : Option Reading) → ((w : Judged) → IsJudged c plan old a w → ⊥) → IsReading c St plan old a r → r ≡ None
no_reading c plan St old a None n i = refl
no_reading c plan St old a (Some x) n i = absurd (n x.judged i.0)

answered_owed : (c : ToldCodecs) (plan : PostPlan) (S : ℕ → ℕ → Type 0) (old : List ToldStep) (steps : List Step) (r q : Option Reading) (bytes : List ℕ) (taken : Bool) → q ≡ None → IsOwed old (state plan steps) → Acts c.words plan S (state plan steps) q (Answer bytes) taken
    → IsOwed (told.Does r (Answer bytes) taken ∷ old) (state plan (Does q (Answer bytes) taken ∷ steps))
answered_owed c plan S old steps r (Some w) bytes taken e owed acts h = cc
answered_owed c plan S old steps r None bytes taken e owed acts h =
    let f = decided plan (state plan steps) in
    let has : f.agenda.datagram ≡ Some bytes = tell_is f.agenda.datagram f.agenda.order f.agenda.reply f.agenda.ending bytes (acts.acts ∙ ap Some (tell_todo c.words acts.todo bytes taken acts.done)) in
    or_right (is_some r) (is_judged old) (left_owed plan old (state plan steps) (is_done (state plan steps).agenda) refl owed (inr (bytes, has)) h)

none_same : (k : Option Talked) (past : List Seen) (b : Course) (plan : PostPlan) → read_by k past b plan None ≡ b
none_same None past b plan = refl
none_same (Some t) past b plan = refl

-- what is shown is shared alike
abbrev pub Shared : (ℕ → ℕ → Type 0) → (ℕ → ℕ → Type 0) → Type 0
Shared St Sr = (a m n : ℕ) → St a m → Sr a n → m ≡ n

same_reading : (c : ToldCodecs) (plan : PostPlan) (limit : ℕ) (before behind : List Post) (St : ℕ → ℕ → Type 0) (old : List ToldStep) (steps : List Step) (o : Act) (taken : Bool) (r q : Option Reading) → Known c plan old steps → Going c plan old steps → All c.words plan (Does q o taken ∷ steps)
    → Acts c.words plan (Shows limit before behind) (state plan steps) q o taken → IsAbout o → Shared St (Shows limit before behind) → IsReading c St plan old o r → r ≡ q
same_reading c plan limit before behind St old steps o taken r None known g all acts about shares i = unread_told c plan (Shows limit before behind) St old steps o taken r known g.alike g.limits g.sent g.owed acts i
same_reading c plan limit before behind St old steps o taken r (Some w) known g all acts about shares i = reads_told c plan limit before behind St old steps w o taken r known g.alike acts all.laws.ordered.1 about shares i

pub went_on : (c : ToldCodecs) (plan : PostPlan) (limit : ℕ) (before behind : List Post) (St : ℕ → ℕ → Type 0) (old : List ToldStep) (steps : List Step) (a : Act) (taken : Bool) (r q : Option Reading) → Known c plan old steps → Going c plan old steps → All c.words plan (Does q a taken ∷ steps)
    → Acts c.words plan (Shows limit before behind) (state plan steps) q a taken → IsOtherAct a → Shared St (Shows limit before behind) → IsReading c St plan old a r → Going c plan (told.Does r a taken ∷ old) (Does q a taken ∷ steps)
went_on c plan limit before behind St old steps (Give o) taken r q known g all acts other shares i =
    let past = map seen_of steps in
    let e = same_reading c plan limit before behind St old steps (Give o) taken r q known g all acts tt shares i in
    record {
      alike = subst (λ (x : Course). AreAlike (Did (Give o) taken ∷ past) x (course plan (Does q (Give o) taken ∷ steps))) (sym (told_does plan old past r (Give o) taken known.same))
          (acted_alike past (Give o) taken _ _ (read_alike plan past (told_course plan old) (course plan steps) r q e g.alike));
      limits = gave_limits c plan (Shows limit before behind) old steps r q o taken e known.all acts;
      sent = tt;
      owed = gave_owed c plan (Shows limit before behind) old steps r q o taken e g.owed acts;
    }
went_on c plan limit before behind St old steps (Send bytes) taken r q known g all acts other shares i = absurd other
went_on c plan limit before behind St old steps (Answer bytes) taken r q known g all acts other shares i =
    let past = map seen_of steps in
    let none = no_reading c plan St old (Answer bytes) r (λ w j. j.judges) i in
    let unread = answer_unread c.words plan (Shows limit before behind) (state plan steps) q bytes taken acts in
    record {
      alike = subst (λ (x : Course). AreAlike (Did (Answer bytes) taken ∷ past) x (course plan (Does q (Answer bytes) taken ∷ steps))) (sym (told_does plan old past r (Answer bytes) taken known.same))
          (acted_alike past (Answer bytes) taken _ _ (read_alike plan past (told_course plan old) (course plan steps) r q (none ∙ sym unread) g.alike));
      limits = tt;
      sent = tt;
      owed = answered_owed c plan (Shows limit before behind) old steps r q bytes taken unread g.owed acts;
    }
went_on c plan limit before behind St old steps (End cause) taken r q known g all acts other shares i =
    let past = map seen_of steps in
    let none = no_reading c plan St old (End cause) r (λ w j. j.judges) i in
    let a = told_course plan old in
    let b = course plan steps in
    let x : read_by a.session past a plan r ≡ a = ap (λ (z : Option Reading). read_by a.session past a plan z) none ∙ none_same a.session past a plan in
    let y : read_by b.session past b plan q ≡ b = ends_same c.words plan (Shows limit before behind) steps q cause taken past b acts in
    let alike : AreAlike past (read_by a.session past a plan r) (read_by b.session past b plan q) = subst (λ (z : Course). AreAlike past z (read_by b.session past b plan q)) (sym x) (subst (λ (z : Course). AreAlike past a z) (sym y) g.alike) in
    record {
      alike = subst (λ (x : Course). AreAlike (Did (End cause) taken ∷ past) x (course plan (Does q (End cause) taken ∷ steps))) (sym (told_does plan old past r (End cause) taken known.same)) (acted_alike past (End cause) taken _ _ alike);
      limits = tt;
      sent = tt;
      owed = λ h. cc;
    }

-- ---- where only the end is left

pub not_done : (a : Agenda) (k : EndCause) → a.ending ≡ Some k → is_done a ≡ true → ⊥
not_done a k e d = let n = done_empty a d in let x : None ≡ Some k = sym n.ending ∙ e in cc

pub undone : (b : Bool) → (b ≡ true → ⊥) → b ≡ false
undone true n = absurd (n refl)
undone false n = refl

wanted_not : (s : State) → is_done s.agenda ≡ false → wanted s ≡ None
wanted_not s d = rw d refl

unread_by : (c : Codecs) (plan : PostPlan) (S : ℕ → ℕ → Type 0) (d : State) (w : Option Wanted) (q : Option Reading) → w ≡ None → IsRead c plan S d w q → q ≡ None
unread_by c plan S d w None e i = refl
unread_by c plan S d None (Some r) e i = absurd i
unread_by c plan S d (Some p) (Some r) e i = cc

-- so nothing is read, and what is left is done
pub record Leaves (c : ToldCodecs) (plan : PostPlan) (steps : List Step) (q : Option Reading) (a : Act) (taken : Bool) : Type 0 where
  pub same : filled plan q (state plan steps) ≡ state plan steps
  pub read : q ≡ None
  pub todo : Todo
  pub acts : first (state plan steps).agenda ≡ Some todo
  pub done : IsDone c.words todo a taken

pub leaves : (c : ToldCodecs) (plan : PostPlan) (S : ℕ → ℕ → Type 0) (steps : List Step) (q : Option Reading) (a : Act) (taken : Bool) (k : EndCause) → (state plan steps).agenda.ending ≡ Some k → Acts c.words plan S (state plan steps) q a taken → Leaves c plan steps q a taken
leaves c plan S steps q a taken k e acts =
    let s = state plan steps in
    let d = undone (is_done s.agenda) (λ x. not_done s.agenda k e x) in
    let same = decided_not plan s d in
    let n = unread_by c.words plan S (decided plan s) (wanted (decided plan s)) q (ap wanted same ∙ wanted_not s d) acts.read in
    let here : filled plan q s ≡ s = ap (λ (x : Option Reading). filled plan x s) n ∙ same in
    record { same = here; read = n; todo = acts.todo; acts = sym (ap (λ (t : State). first t.agenda) here) ∙ acts.acts; done = acts.done }

-- an order to open, or the end
left_by : (d : Option (List ℕ)) (o : Option Order) (r : Option Spoken) (e : Option EndCause) (k : EndCause) (todo : Todo) → d ≡ None → r ≡ None → e ≡ Some k → first_of d o r e ≡ Some todo → ((x : Order) × (o ≡ Some x) × (todo ≡ states.Give x)) ⊎ ((o ≡ None) × (todo ≡ states.Finish k))
left_by None (Some x) r e k todo d n h f = inl (x, refl, cc)
left_by None None None (Some y) k todo d n h f = inr (refl, (let z : y ≡ k = cc in let u : states.Finish y ≡ todo = cc in sym u ∙ ap states.Finish z))
left_by None None None None k todo d n h f = cc
left_by None None (Some y) e k todo d n h f = cc
left_by (Some x) o r e k todo d n h f = cc

pub left_todo : (a : Agenda) (k : EndCause) (todo : Todo) → a.datagram ≡ None → a.reply ≡ None → a.ending ≡ Some k → first a ≡ Some todo → ((o : Order) × (a.order ≡ Some o) × (todo ≡ states.Give o)) ⊎ ((a.order ≡ None) × (todo ≡ states.Finish k))
left_todo a k todo d r e f = left_by a.datagram a.order a.reply a.ending k todo d r e f

pub given : (c : Codecs) (o : Order) (todo : Todo) (a : Act) (taken : Bool) → todo ≡ states.Give o → IsDone c todo a taken → a ≡ Give o
given c o (states.Tell d) a taken e i = cc
given c o (states.Give x) a taken e i = let y : x ≡ o = cc in i ∙ ap Give y
given c o (states.Say spoken) a taken e i = cc
given c o (states.Finish k) a taken e i = cc

pub finished : (c : Codecs) (k : EndCause) (todo : Todo) (a : Act) (taken : Bool) → todo ≡ states.Finish k → IsDone c todo a taken → a ≡ End (number_of k)
finished c k (states.Tell d) a taken e i = cc
finished c k (states.Give x) a taken e i = cc
finished c k (states.Say spoken) a taken e i = cc
finished c k (states.Finish x) a taken e i = let y : x ≡ k = cc in i.0 ∙ ap (λ (z : EndCause). End (number_of z)) y

-- ---- a word that is judged there keeps the identifier of a paused session

setup_row : (here : Phase) (a : Ask) (b : Option SessionId) → is_some (leads here a true true) ≡ true → (here ≡ row.Negotiated → ⊥) → (s : Stage) (facts : Facts) (name : SessionId) → (facts_by s facts name a).kept ≡ facts.kept
setup_row row.Negotiated a b h n s facts name = absurd (n refl)
setup_row row.Connected (ask.SessionSetup car) b h n s facts name = cc
setup_row here (ask.SessionSetup car) b h n s facts name = cc
setup_row here (ask.PowerDelivery progress.Renegotiate tuple profile) b h n s facts name = refl
setup_row here (ask.PowerDelivery progress.Start tuple profile) b h n s facts name = refl
setup_row here (ask.PowerDelivery progress.Stop tuple profile) b h n s facts name = refl
setup_row here a b h n s facts name = refl

facts_kept : (b : Bool) (t : Stage) (facts : Facts) (plan : PostPlan) (r : Request) → is_accepted (verdict t facts plan r) ≡ b → (t.row ≡ row.Negotiated → ⊥) → (facts_behind t facts plan r).kept ≡ facts.kept
facts_kept true t facts plan r e n = rw e (setup_row t.row r.ask facts.kept (row_takes t facts plan r e) n t facts r.session)
facts_kept false t facts plan r e n = rw e refl

read_kept : (t : Talked) (past : List Seen) (a : Course) (plan : PostPlan) (w : Judged) (shown : ℕ) → a.session ≡ Some t → (t.stage.row ≡ row.Negotiated → ⊥) → ((read_in t past a plan w shown).kept ≡ a.kept) × ((u : Talked) × ((read_in t past a plan w shown).session ≡ Some u))
read_kept t past a plan (Negotiated chosen response) shown e n = (refl, (chosen_talk t chosen, refl))
read_kept t past a plan (Asked r) shown e n = (facts_kept (is_accepted (verdict t.stage (facts_of past a) plan r)) t.stage (facts_of past a) plan r refl n, (_, refl))
read_kept t past a plan WrongSide shown e n = (refl, (t, e))
read_kept t past a plan Refused shown e n = (refl, (t, e))

pub record Kept (a b : Course) : Type 0 where
  pub kept : b.kept ≡ a.kept
  pub talked : Talked
  pub talked_is : b.session ≡ Some talked

kept_read : (past : List Seen) (a : Course) (plan : PostPlan) (r : Option Reading) (t : Talked) → a.session ≡ Some t → (t.stage.row ≡ row.Negotiated → ⊥) → Kept a (read_by a.session past a plan r)
kept_read past a plan None t e n =
    let x = none_same a.session past a plan in
    record { kept = ap (λ (z : Course). z.kept) x; talked = t; talked_is = ap (λ (z : Course). z.session) x ∙ e }
kept_read past a plan (Some w) t e n =
    let x : read_by a.session past a plan (Some w) ≡ read_in t past a plan w.judged w.shown = ap (λ (z : Option Talked). read_by z past a plan (Some w)) e in
    let k = read_kept t past a plan w.judged w.shown e n in
    record { kept = ap (λ (z : Course). z.kept) x ∙ k.0; talked = k.1.0; talked_is = ap (λ (z : Course). z.session) x ∙ k.1.1 }

-- where a connection began no word is next, so none is judged
came_unread : (c : ToldCodecs) (plan : PostPlan) (St : ℕ → ℕ → Type 0) (old : List ToldStep) (steps : List Step) (a : Act) (r : Option Reading) (came : Option Seen) → arriving (map seen_of steps) ≡ came → Known c plan old steps → IsReading c St plan old a r
    → (r ≡ None) ⊎ (arriving (map seen_of steps) ≡ None)
came_unread c plan St old steps a r None h known i = inr h
came_unread c plan St old steps a r (Some came) h known i =
    inl (no_reading c plan St old a r (λ w j. quiet_not c plan old steps a w known.same (none_still c.words plan steps known.all (arriving_quiet (map seen_of steps) came h)) j) i)

pub record Agended (a : Agenda) (k : EndCause) : Type 0 where
  pub ending : a.ending ≡ Some k
  pub reply : a.reply ≡ None
  pub datagram : a.datagram ≡ None
  pub order : a.order ≡ None

gave_left_agenda : (taken : Bool) (s : State) (k : EndCause) → s.agenda.ending ≡ Some k → s.agenda.reply ≡ None → s.agenda.datagram ≡ None → Agended (acted (Give order.Open) taken s).agenda k
gave_left_agenda true s k e r d = record { ending = e; reply = r; datagram = d; order = refl }
gave_left_agenda false s k e r d =
    let x : (acted (Give order.Open) false s).agenda ≡ record nothing { ending = Some k } = ap (λ (z : Option EndCause). failing z s.session OrderFailed s.live) e in
    subst (λ (z : Agenda). Agended z k) (sym x) (record { ending = refl; reply = refl; datagram = refl; order = refl })

pub open_left : (c : ToldCodecs) (plan : PostPlan) (St : ℕ → ℕ → Type 0) (old : List ToldStep) (steps : List Step) (r : Option Reading) (taken : Bool) → Known c plan old steps → (e : Ending c plan old steps) → (state plan steps).agenda.order ≡ Some order.Open → (e.talked.stage.row ≡ row.Negotiated → ⊥)
    → IsReading c St plan old (Give order.Open) r → filled plan None (state plan steps) ≡ state plan steps → Ending c plan (told.Does r (Give order.Open) taken ∷ old) (Does None (Give order.Open) taken ∷ steps)
open_left c plan St old steps r taken known e has n i same =
    let past = map seen_of steps in
    let s = state plan steps in
    let a = told_course plan old in
    let b = course plan steps in
    let is = told_does plan old past r (Give order.Open) taken known.same in
    let k = kept_read past a plan r e.talked e.talked_is n in
    let bare = none_same b.session past b plan in
    let left : state plan (Does None (Give order.Open) taken ∷ steps) ≡ acted (Give order.Open) taken s = ap (acted (Give order.Open) taken) same in
    let agenda = gave_left_agenda taken s e.k e.ending e.reply e.datagram in
    record {
      k = e.k;
      ending = ap (λ (t : State). t.agenda.ending) left ∙ agenda.ending;
      number = e.number;
      reply = ap (λ (t : State). t.agenda.reply) left ∙ agenda.reply;
      datagram = ap (λ (t : State). t.agenda.datagram) left ∙ agenda.datagram;
      kept_is = ap (λ (x : Course). x.kept) is ∙ k.kept ∙ e.kept_is ∙ sym (ap (λ (x : Course). x.kept) bare);
      talked = k.talked;
      talked_is = ap (λ (x : Course). x.session) is ∙ k.talked_is;
      renew_is = elim (came_unread c plan St old steps (Give order.Open) r (arriving past) refl known i) [
        | inr quiet ↦ inr quiet
        | inl none ↦ elim e.renew_is [
          | inr quiet ↦ inr quiet
          | inl same_renew ↦ inl (ap (λ (x : Course). x.renew) is ∙ ap (λ (z : Option Reading). (read_by a.session past a plan z).renew) none ∙ ap (λ (x : Course). x.renew) (none_same a.session past a plan) ∙ same_renew ∙ sym (ap (λ (x : Course). x.renew) bare))
        ]
      ];
      opens = inl (ap (λ (t : State). t.agenda.order) left ∙ agenda.order);
      why = elim e.why [
        | inl cause ↦ inl (tt, inr cause.1)
        | inr shut ↦ none_some order.Open (sym shut.1 ∙ has)
      ];
    }

ended_kept : (s : Option Talked) (k : EndCause) (kept : Option SessionId) → (number_of k ≡ 29 → ⊥) → kept_by s (number_of k) kept ≡ kept
ended_kept None k kept n = refl
ended_kept (Some t) k kept n = ap (λ (b : Bool). if b then Some t.stage.session else kept) (ne_eqb (number_of k) 29 n)

pub end_left : (c : ToldCodecs) (plan : PostPlan) (St : ℕ → ℕ → Type 0) (old : List ToldStep) (steps : List Step) (r : Option Reading) (taken : Bool) → Known c plan old steps → (e : Ending c plan old steps) → IsReading c St plan old (End (number_of e.k)) r
    → Going c plan (told.Does r (End (number_of e.k)) taken ∷ old) (Does None (End (number_of e.k)) taken ∷ steps)
end_left c plan St old steps r taken known e i =
    let past = map seen_of steps in
    let a = told_course plan old in
    let b = course plan steps in
    let none = no_reading c plan St old (End (number_of e.k)) r (λ w j. j.judges) i in
    let x : read_by a.session past a plan r ≡ a = ap (λ (z : Option Reading). read_by a.session past a plan z) none ∙ none_same a.session past a plan in
    let y : read_by b.session past b plan None ≡ b = none_same b.session past b plan in
    let is : told_course plan (told.Does r (End (number_of e.k)) taken ∷ old) ≡ course.acted (End (number_of e.k)) taken a = told_does plan old past r (End (number_of e.k)) taken known.same ∙ ap (course.acted (End (number_of e.k)) taken) x in
    let there : course plan (Does None (End (number_of e.k)) taken ∷ steps) ≡ course.acted (End (number_of e.k)) taken b = ap (course.acted (End (number_of e.k)) taken) y in
    let alike : AreAlike (Did (End (number_of e.k)) taken ∷ past) (course.acted (End (number_of e.k)) taken a) (course.acted (End (number_of e.k)) taken b) = record {
      session_is = refl;
      kept_is = ended_kept a.session e.k a.kept e.number ∙ e.kept_is ∙ sym (ended_kept b.session e.k b.kept e.number);
      joined_is = refl;
      renew_is = elim e.renew_is [
        | inl same ↦ inl same
        | inr quiet ↦ inr (refl, quiet)
      ];
    } in
    record {
      alike = subst (λ (z : Course). AreAlike (Did (End (number_of e.k)) taken ∷ past) (told_course plan (told.Does r (End (number_of e.k)) taken ∷ old)) z) (sym there) (subst (λ (z : Course). AreAlike (Did (End (number_of e.k)) taken ∷ past) z (course.acted (End (number_of e.k)) taken b)) (sym is) alike);
      limits = tt;
      sent = tt;
      owed = λ h. cc;
    }

-- ---- a sending

say_done : (c : Codecs) (todo : Todo) (bytes : List ℕ) (taken t : Bool) → IsDone c todo (Send bytes) taken → IsDone c todo (Send bytes) t
say_done c (states.Tell d) bytes taken t i = i
say_done c (states.Give o) bytes taken t i = i
say_done c (states.Say spoken) bytes taken t i = i
say_done c (states.Finish k) bytes taken t i = let x = i.0 in cc

failed_act : (c : Codecs) (plan : PostPlan) (S : ℕ → ℕ → Type 0) (s : State) (q : Option Reading) (bytes : List ℕ) (taken : Bool) → Acts c plan S s q (Send bytes) taken → Acts c plan S s q (Send bytes) false
failed_act c plan S s q bytes taken acts = record { read = acts.read; todo = acts.todo; acts = acts.acts; done = say_done c acts.todo bytes taken false acts.done }

kept_some : (kept : Option Session) → is_some kept ≡ true → (ss : Session) × (kept ≡ Some ss)
kept_some None h = cc
kept_some (Some ss) h = (ss, refl)

some_kept : (kept : Option Session) (past es : List Seen) (t : Bool) (bytes : List ℕ) → is_some kept ≡ is_some (session (Did (Send bytes) t ∷ past)) → session past ≡ Some es → (ss : Session) × (kept ≡ Some ss)
some_kept kept past es t bytes e h = kept_some kept (e ∙ ap (λ (x : Option (List Seen)). is_some (with_seen (Did (Send bytes) t) x)) h)

talked_still : (said : Said) (s : Option Talked) (t : Talked) → s ≡ Some t → stage_said said t.stage ≡ t.stage → talked_said said s ≡ s
talked_still said None t e h = cc
talked_still said (Some u) t e h =
    let same : u ≡ t = cc in
    let here : stage_said said u.stage ≡ u.stage = subst (λ (x : Talked). stage_said said x.stage ≡ x.stage) (sym same) h in
    ap (λ (x : Stage). Some (record u { stage = x })) here

course_still : (said : Said) (a : Course) (t : Talked) → a.session ≡ Some t → stage_said said t.stage ≡ t.stage → course_said said a ≡ a
course_still said a t e h = ap (λ (x : Option Talked). record a { session = x }) (talked_still said a.session t e h)

stage_by : (s : Stage) (schedule : ℕ) (pre_charge : Option PreCharged) → schedule ≡ s.schedule → pre_charge ≡ s.pre_charge → record s { schedule = schedule; pre_charge = pre_charge } ≡ s
stage_by s schedule pre_charge e f = ap (λ (n : ℕ). record s { schedule = n; pre_charge = pre_charge }) e ∙ ap (λ (p : Option PreCharged). record s { pre_charge = p }) f

reply_still : (plan : PostPlan) (d : Dialect) (request : Request) (reply : Reply) (mine : Reply) (watts : SpelledWatts) (s : Stage) → read_back mine ≡ read_back reply → Fits plan d request.ask reply.tell s → stage_said (Replied request (read_back mine) watts) s ≡ s
reply_still plan d request reply mine watts s same fits =
    let t = ap (λ (x : Reply). x.tell) same in
    stage_by s (schedule_said (read_back mine).tell s.schedule) (pre_charge_said request.ask (read_back mine).tell s.pre_charge)
    (ap (λ (x : Tell). schedule_said x s.schedule) t ∙ fits.schedule) (ap (λ (x : Tell). pre_charge_said request.ask x s.pre_charge) t ∙ fits.pre_charge)

heads : (a b : Judged) (xs ys : List HeardWord) → Payload a ∷ xs ≡ Payload b ∷ ys → a ≡ b
heads a b xs ys e = cc

-- the first word is one
first_one : (c : ToldCodecs) (plan : PostPlan) (past : List Seen) (a b : Judged) → TellsOwn c → Lives c.words plan past → FirstWord c.words plan past a → FirstWord c.words plan past b → a ≡ b
first_one c plan past a b own l f g =
    let w = words_of c.words plan.dialects.items (stream l.es) own.judges l.octets in
    let x = f l.es w.0 l.session_is w.1 in
    let y = g l.es w.0 l.session_is w.1 in
    heads a b x.later y.later (sym x.is ∙ y.is)

-- behind a sending that failed, Open is ordered where the contactor is live and the session had no cause
pub record Shuts (e : Option EndCause) (on : Bool) (a : Agenda) : Type 0 where
  pub free : e ≡ None
  pub on_is : on ≡ true
  pub is : a ≡ record nothing { order = Some order.Open; ending = Some SendFailed }

failed_left : (e : Option EndCause) (kept : Option Session) (on : Bool) → ((failing e kept SendFailed on).order ≡ None) ⊎ Shuts e on (failing e kept SendFailed on)
failed_left None None on = inl refl
failed_left None (Some ss) true = inr (record { free = refl; on_is = refl; is = refl })
failed_left None (Some ss) false = inl refl
failed_left (Some k) kept on = inl refl

sent_owed : (plan : PostPlan) (old : List ToldStep) (steps : List Step) (r q : Option Reading) (bytes : List ℕ) (taken : Bool) (said : Said) → IsOwed (told.Sends r bytes taken said ∷ old) (state plan (Does q (Send bytes) taken ∷ steps))
sent_owed plan old steps r q bytes true said h =
    let f = filled plan q (state plan steps) in
    quiet_by (agenda_said f.agenda.behind_reply f.session f.agenda f.live).reply (said_silent f.agenda.behind_reply f.session f.agenda f.live) h
sent_owed plan old steps r q bytes false said h =
    let f = filled plan q (state plan steps) in
    quiet_by (failing f.agenda.ending f.session _ f.live).reply (fails_silent f.agenda.ending f.session _ f.live) h

-- what is known as something is sent
pub record Speaking (c : ToldCodecs) (plan : PostPlan) (old : List ToldStep) (steps : List Step) (r q : Option Reading) : Type 0 where
  pub known : Known c plan old steps
  pub a : Course
  pub b : Course
  pub a_is : a ≡ read_by (told_course plan old).session (map seen_of steps) (told_course plan old) plan r
  pub b_is : b ≡ read_by (course plan steps).session (map seen_of steps) (course plan steps) plan q
  pub one : a ≡ b
  pub ss : Session
  pub kept : (filled plan q (state plan steps)).session ≡ Some ss
  pub led : a.session ≡ Some (talked_of ss)
  pub live_is : (filled plan q (state plan steps)).live ≡ live (map seen_of steps)
  pub lives : Lives c.words plan (map seen_of steps)

abbrev sent_told : (plan : PostPlan) (old : List ToldStep) (r : Option Reading) (bytes : List ℕ) (taken : Bool) (said : Said) → Course
sent_told plan old r bytes taken said = told_course plan (told.Sends r bytes taken said ∷ old)

told_as : (c : ToldCodecs) (plan : PostPlan) (old : List ToldStep) (steps : List Step) (r q : Option Reading) (bytes : List ℕ) (taken : Bool) (said : Said) → (k : Speaking c plan old steps r q) → sent_told plan old r bytes taken said ≡ course.acted (Send bytes) taken (course_said said k.a)
told_as c plan old steps r q bytes taken said k = told_sends plan old (map seen_of steps) r bytes taken said k.known.same ∙ ap (λ (x : Course). course.acted (Send bytes) taken (course_said said x)) (sym k.a_is)

run_as : (c : ToldCodecs) (plan : PostPlan) (old : List ToldStep) (steps : List Step) (r q : Option Reading) (bytes : List ℕ) (taken : Bool) → (k : Speaking c plan old steps r q) → course plan (Does q (Send bytes) taken ∷ steps) ≡ course.acted (Send bytes) taken k.b
run_as c plan old steps r q bytes taken k = ap (λ (x : Course). course.acted (Send bytes) taken x) (sym k.b_is)

sent_going : (c : ToldCodecs) (plan : PostPlan) (old : List ToldStep) (steps : List Step) (r q : Option Reading) (bytes : List ℕ) (taken : Bool) (said : Said) → (k : Speaking c plan old steps r q) → course_said said k.a ≡ k.a
    → SentWell (Does q (Send bytes) taken ∷ steps) (state plan (Does q (Send bytes) taken ∷ steps)) → Going c plan (told.Sends r bytes taken said ∷ old) (Does q (Send bytes) taken ∷ steps)
sent_going c plan old steps r q bytes taken said k still well = record {
  alike = same_alike (Did (Send bytes) taken ∷ map seen_of steps) (sent_told plan old r bytes taken said) (course plan (Does q (Send bytes) taken ∷ steps))
      (told_as c plan old steps r q bytes taken said k ∙ ap (course.acted (Send bytes) taken) (still ∙ k.one) ∙ sym (run_as c plan old steps r q bytes taken k));
  limits = tt;
  sent = well;
  owed = sent_owed plan old steps r q bytes taken said;
}

-- it couldn't be sent while the contactor was live
sent_shut : (c : ToldCodecs) (plan : PostPlan) (old : List ToldStep) (steps : List Step) (r q : Option Reading) (bytes : List ℕ) (said : Said) → (k : Speaking c plan old steps r q) → course_said said k.a ≡ k.a → (k.ss.stage.row ≡ row.Negotiated → ⊥)
    → Shuts (filled plan q (state plan steps)).agenda.ending (filled plan q (state plan steps)).live (state plan (Does q (Send bytes) false ∷ steps)).agenda → Ending c plan (told.Sends r bytes false said ∷ old) (Does q (Send bytes) false ∷ steps)
sent_shut c plan old steps r q bytes said k still n x =
    let is = told_as c plan old steps r q bytes false said k ∙ still in
    let there = run_as c plan old steps r q bytes false k in
    let es = k.lives.es in
    record {
      k = SendFailed;
      ending = ap (λ (a : Agenda). a.ending) x.is;
      number = λ h. cc;
      reply = ap (λ (a : Agenda). a.reply) x.is;
      datagram = ap (λ (a : Agenda). a.datagram) x.is;
      kept_is = ap (λ (z : Course). z.kept) (is ∙ k.one ∙ sym there);
      talked = talked_of k.ss;
      talked_is = ap (λ (z : Course). z.session) is ∙ k.led;
      renew_is = inl (ap (λ (z : Course). z.renew) (is ∙ k.one ∙ sym there));
      opens = inr (ap (λ (a : Agenda). a.order) x.is, n);
      why = inl (tt, inl (SendFailed, HasNotSent r bytes said old k.lives.es (ap session k.known.same ∙ k.lives.session_is)));
    }

sent_well : (c : ToldCodecs) (plan : PostPlan) (old : List ToldStep) (steps : List Step) (r q : Option Reading) (bytes : List ℕ) (taken : Bool) (said : Said) → (k : Speaking c plan old steps r q) → course_said said k.a ≡ k.a
    → ((filled plan q (state plan steps)).live ≡ true → k.ss.stage.row ≡ row.Negotiated → ⊥) → Phased c plan (told.Sends r bytes taken said ∷ old) (Does q (Send bytes) taken ∷ steps)
sent_well c plan old steps r q bytes true said k still n = inl (sent_going c plan old steps r q bytes true said k still tt)
sent_well c plan old steps r q bytes false said k still n =
    let f = filled plan q (state plan steps) in
    elim (failed_left f.agenda.ending f.session f.live) [
      | inl none ↦ inl (sent_going c plan old steps r q bytes false said k still none)
      | inr shut ↦ inr (sent_shut c plan old steps r q bytes said k still (n shut.on_is) shut)
    ]

-- ---- a reply that wasn't accepted

not_ok : (x : Code) → is_accepted x ≡ false → IsOkClass x → ⊥
not_ok code.Ok e h = cc
not_ok code.OkNewSessionEstablished e h = cc
not_ok code.OkOldSessionJoined e h = cc
not_ok code.OkCertificateExpiresSoon e h = cc
not_ok x e h = absurd h

talked_some : (said : Said) (s : Option Talked) (t : Talked) → s ≡ Some t → (u : Talked) × (talked_said said s ≡ Some u)
talked_some said None t e = cc
talked_some said (Some u) t e = (record u { stage = stage_said said u.stage }, refl)

confirmed_some : (taken : Bool) (bytes : List ℕ) (a : Course) (t : Talked) → a.session ≡ Some t → (u : Talked) × ((course.acted (Send bytes) taken a).session ≡ Some u)
confirmed_some true bytes a t e = (record t { stage = confirmed t.stage }, ap confirmed_in e)
confirmed_some false bytes a t e = (t, e)

acted_kept : (taken : Bool) (bytes : List ℕ) (a : Course) → (course.acted (Send bytes) taken a).kept ≡ a.kept
acted_kept true bytes a = refl
acted_kept false bytes a = refl

acted_renew : (taken : Bool) (bytes : List ℕ) (a : Course) → (course.acted (Send bytes) taken a).renew ≡ a.renew
acted_renew true bytes a = refl
acted_renew false bytes a = refl

judged_behind : (plan : PostPlan) (s : State) (ss : Session) (w : Judged) (shown : ℕ) (d : Dialect) (reply : Reply) → (judged plan s ss w shown).agenda.reply ≡ Some (states.Said d reply) → (judged plan s ss w shown).agenda.behind_reply ≡ None
judged_behind plan s ss (Negotiated chosen response) shown d reply h = cc
judged_behind plan s ss (Asked r) shown d reply h = refl
judged_behind plan s ss WrongSide shown d reply h = refl
judged_behind plan s ss Refused shown d reply h = refl

taken_behind : (plan : PostPlan) (s : State) (kept : Option Session) (w : Reading) (d : Dialect) (reply : Reply) → s.agenda.behind_reply ≡ None → (taken_in plan s kept w).agenda.reply ≡ Some (states.Said d reply) → (taken_in plan s kept w).agenda.behind_reply ≡ None
taken_behind plan s None w d reply n h = n
taken_behind plan s (Some ss) w d reply n h = judged_behind plan s ss w.judged w.shown d reply h

filled_behind : (c : Codecs) (plan : PostPlan) (steps : List Step) (q : Option Reading) (d : Dialect) (reply : Reply) → IsPostRun c plan steps → (filled plan q (state plan steps)).agenda.reply ≡ Some (states.Said d reply) → (filled plan q (state plan steps)).agenda.behind_reply ≡ None
filled_behind c plan steps None d reply run h = (decided_plain plan (state plan steps) (steps_clean c plan steps run)).0
filled_behind c plan steps (Some w) d reply run h =
    taken_behind plan (decided plan (state plan steps)) (decided plan (state plan steps)).session w d reply (decided_plain plan (state plan steps) (steps_clean c plan steps run)).0 h

said_plain : (d : Option (List ℕ)) (o : Option Order) (r : Option Spoken) (e : Option EndCause) (x : Spoken) → first_of d o r e ≡ Some (states.Say x) → d ≡ None
said_plain None o r e x h = refl
said_plain (Some d) o r e x h = cc

refused_agenda : (taken : Bool) (s : State) (bytes : List ℕ) (x : Spoken) → first s.agenda ≡ Some (states.Say x) → s.agenda.behind_reply ≡ None → s.agenda.ending ≡ Some FailedReply → Agended (acted (Send bytes) taken s).agenda FailedReply
refused_agenda true s bytes x f b e =
    let a = s.agenda in
    let is : agenda_said a.behind_reply s.session a s.live ≡ record a { reply = None } = ap (λ (z : Option EndCause). agenda_said z s.session a s.live) b in
    subst (λ (z : Agenda). Agended z FailedReply) (sym is) (record { ending = e; reply = refl; datagram = said_plain a.datagram a.order a.reply a.ending x f; order = (say_is a.datagram a.order a.reply a.ending x f).1 })
refused_agenda false s bytes x f b e =
    let is : failing s.agenda.ending s.session SendFailed s.live ≡ record nothing { ending = Some FailedReply } = ap (λ (z : Option EndCause). failing z s.session SendFailed s.live) e in
    subst (λ (z : Agenda). Agended z FailedReply) (sym is) (record { ending = refl; reply = refl; datagram = refl; order = refl })

sent_refused : (c : ToldCodecs) (plan : PostPlan) (old : List ToldStep) (steps : List Step) (r q : Option Reading) (bytes : List ℕ) (taken : Bool) (said : Said) → (k : Speaking c plan old steps r q) → live (map seen_of steps) ≡ false
    → Agended (state plan (Does q (Send bytes) taken ∷ steps)).agenda FailedReply → Ending c plan (told.Sends r bytes taken said ∷ old) (Does q (Send bytes) taken ∷ steps)
sent_refused c plan old steps r q bytes taken said k dark g =
    let is = told_as c plan old steps r q bytes taken said k in
    let there = run_as c plan old steps r q bytes taken k in
    let t = talked_some said k.a.session (talked_of k.ss) k.led in
    let u = confirmed_some taken bytes (course_said said k.a) t.0 t.1 in
    record {
      k = FailedReply;
      ending = g.ending;
      number = λ h. cc;
      reply = g.reply;
      datagram = g.datagram;
      kept_is = ap (λ (z : Course). z.kept) is ∙ acted_kept taken bytes (course_said said k.a) ∙ ap (λ (z : Course). z.kept) k.one ∙ sym (acted_kept taken bytes k.b) ∙ sym (ap (λ (z : Course). z.kept) there);
      talked = u.0;
      talked_is = ap (λ (z : Course). z.session) is ∙ u.1;
      renew_is = inl (ap (λ (z : Course). z.renew) is ∙ acted_renew taken bytes (course_said said k.a) ∙ ap (λ (z : Course). z.renew) k.one ∙ sym (acted_renew taken bytes k.b) ∙ sym (ap (λ (z : Course). z.renew) there));
      opens = inl g.order;
      why = inr ((contactors_are_read plan (Does q (Send bytes) taken ∷ steps)).live_is ∙ dark, g.order);
    }

-- ---- by what is said

shut_dark : (on : Bool) → IsShut None on → on ≡ false
shut_dark on (inl h) = cc
shut_dark on (inr h) = h.1

ok_dark : (x : Code) (on : Bool) → is_accepted x ≡ false → IsOkClass x ⊎ IsShut None on → on ≡ false
ok_dark x on e (inl ok) = absurd (not_ok x e ok)
ok_dark x on e (inr h) = shut_dark on h

asked_one : (a b : Request) → Asked a ≡ Asked b → a ≡ b
asked_one a b e = cc

not_asked : {A : Type 0} (chosen : Option Dialect) (response : List ℕ) (r : Request) → Negotiated chosen response ≡ Asked r → A
not_asked chosen response r e = cc

dialect_one : (a b : Dialect) → Some a ≡ Some b → a ≡ b
dialect_one a b e = cc

reply_one : (a b : Reply) → Some (word.Reply a) ≡ Some (word.Reply b) → a ≡ b
reply_one a b e = cc

frames_one : (bytes p q : List ℕ) → bytes ≡ frame p → bytes ≡ frame q → p ≡ q
frames_one bytes p q e f = ap (λ (s : List ℕ). drop 8 s) (sym e ∙ f)

settled_part : (c : ToldCodecs) (plan : PostPlan) (past : List Seen) (d : Dialect) (reply : Reply) (kept : Option Session) (ending : Option EndCause) (request : Request) → TellsOwn c → Lives c.words plan past → FirstWord c.words plan past (Asked request) → Settled c.words plan past d reply kept ending → Part plan d reply kept ending request
settled_part c plan past d reply kept ending request own l first (inl f) = f request
settled_part c plan past d reply kept ending request own l first (inr x) =
    let e = asked_one x.0 request (first_one c plan past (Asked x.0) (Asked request) own l x.1 first) in
    subst (Part plan d reply kept ending) e x.2

said_one : (d : Dialect) (a b : Reply) → states.Said d a ≡ states.Said d b → a ≡ b
said_one d a b e = cc

-- the reply that the post had to say is the one that is read
pub record SameReply (c : ToldCodecs) (spoke : Dialect) (payload : List ℕ) (mine : Reply) (spoken : Spoken) : Type 0 where
  pub d : Dialect
  pub dialect_is : spoke ≡ d
  pub encodes : (x : Reply) → spoken ≡ states.Said d x → c.words.Encodes d x payload
  pub reply : Reply
  pub spoken_is : spoken ≡ states.Said d reply
  pub same : read_back mine ≡ read_back reply

same_reply : (c : ToldCodecs) (plan : PostPlan) (past : List Seen) (bytes payload : List ℕ) (request : Request) (d : Dialect) (mine : Reply) (o : Option Order) (on : Bool) (spoken : Spoken) → TellsOwn c → Lives c.words plan past → FirstWord c.words plan past (Asked request) → SpeaksIn c.words plan past d → c.words.Encodes d mine payload → bytes ≡ frame payload
    → IsSpoken c.words spoken bytes → Answering c.words plan past o on spoken → SameReply c d payload mine spoken
same_reply c plan past bytes payload request d mine o on spoken own l first speaks encodes b is (Responds chosen response asked first2 neg shut) =
    not_asked chosen response request (first_one c plan past (Negotiated chosen response) (Asked request) own l first2 first)
same_reply c plan past bytes payload request d mine o on spoken own l first speaks encodes b is (Replies asked e reply first2 kind speaks2 single ok) =
    let spoke : d ≡ e = dialect_one d e (sym (speaks l.xs l.talks) ∙ speaks2 l.xs l.talks) in
    let text : payload ≡ is.0 = frames_one bytes payload is.0 b is.2 in
    let here : c.words.Reads e is.0 (Some (word.Reply (read_back mine))) =
    subst (λ (x : Dialect). c.words.Reads x is.0 (Some (word.Reply (read_back mine)))) spoke (subst (λ (x : List ℕ). c.words.Reads d x (Some (word.Reply (read_back mine)))) text (own.reads_back d mine payload encodes)) in
    record {
      d = e;
      dialect_is = spoke;
      encodes = λ x h. subst (λ (z : Reply). c.words.Encodes e z payload) (said_one e reply x h) (subst (λ (z : List ℕ). c.words.Encodes e reply z) (sym text) is.1);
      reply = reply;
      spoken_is = refl;
      same = reply_one (read_back mine) (read_back reply) (own.determined.reads e is.0 (Some (word.Reply (read_back mine))) (Some (word.Reply (read_back reply))) here (own.reads_back e reply is.0 is.1));
    }

code_same : (a b : Reply) → read_back a ≡ read_back b → a.code ≡ b.code
code_same a b e = ap (λ (x : Reply). x.code) e

part_phase : (c : ToldCodecs) (plan : PostPlan) (old : List ToldStep) (steps : List Step) (r q : Option Reading) (bytes : List ℕ) (taken : Bool) (request : Request) (mine : Reply) (watts : SpelledWatts) (d : Dialect) (reply : Reply) → (k : Speaking c plan old steps r q) → read_back mine ≡ read_back reply
    → IsOkClass mine.code ⊎ IsShut None (live (map seen_of steps)) → first (filled plan q (state plan steps)).agenda ≡ Some (states.Say (states.Said d reply)) → (filled plan q (state plan steps)).agenda.reply ≡ Some (states.Said d reply)
    → Part plan d reply (filled plan q (state plan steps)).session (filled plan q (state plan steps)).agenda.ending request
    → Phased c plan (told.Sends r bytes taken (Replied request (read_back mine) watts) ∷ old) (Does q (Send bytes) taken ∷ steps)
part_phase c plan old steps r q bytes taken request mine watts d reply k same ok todo has (inl fits) =
    let f = fits k.ss k.kept in
    sent_well c plan old steps r q bytes taken (Replied request (read_back mine) watts) k
    (course_still (Replied request (read_back mine) watts) k.a (talked_of k.ss) k.led (reply_still plan d request reply mine watts k.ss.stage same f)) (λ on n. f.row_not n)
part_phase c plan old steps r q bytes taken request mine watts d reply k same ok todo has (inr x) =
    let f = filled plan q (state plan steps) in
    let code : is_accepted mine.code ≡ false = ap is_accepted (code_same mine reply same) ∙ x.0 in
    inr (sent_refused c plan old steps r q bytes taken (Replied request (read_back mine) watts) k (ok_dark mine.code (live (map seen_of steps)) code ok)
    (refused_agenda taken f bytes (states.Said d reply) todo (filled_behind c.words plan steps q d reply k.known.all.laws.run has) x.1))

said_phase : (c : ToldCodecs) (plan : PostPlan) (old : List ToldStep) (steps : List Step) (r q : Option Reading) (bytes : List ℕ) (taken : Bool) (said : Said) (spoken : Spoken) (o : Option Order) (on : Bool) → (k : Speaking c plan old steps r q)
    → first (filled plan q (state plan steps)).agenda ≡ Some (states.Say spoken) → (filled plan q (state plan steps)).agenda.reply ≡ Some spoken → IsSpoken c.words spoken bytes → Answering c.words plan (map seen_of steps) o on spoken
    → Dues c.words plan (map seen_of steps) (filled plan q (state plan steps)) → SaidSo c plan (map seen_of steps) bytes said → Phased c plan (told.Sends r bytes taken said ∷ old) (Does q (Send bytes) taken ∷ steps)
said_phase c plan old steps r q bytes taken said spoken o on k todo has is answering dues (WasResponse chosen response payload first neg shut e) =
    sent_well c plan old steps r q bytes taken (Response chosen (is_some chosen)) k (course_still (Response chosen (is_some chosen)) k.a (talked_of k.ss) k.led refl)
    (λ l n. differ (live (map seen_of steps)) (sym k.live_is ∙ l) (shut_dark (live (map seen_of steps)) shut))
said_phase c plan old steps r q bytes taken said spoken o on k todo has is answering dues (WasReply request d mine payload watts first speaks single ok encodes e spells) =
    let s = same_reply c plan (map seen_of steps) bytes payload request d mine o on spoken k.known.own k.lives first speaks encodes e is answering in
    let here : (filled plan q (state plan steps)).agenda.reply ≡ Some (states.Said s.d s.reply) = has ∙ ap Some s.spoken_is in
    let f = filled plan q (state plan steps) in
    let part = settled_part c plan (map seen_of steps) s.d s.reply f.session f.agenda.ending request k.known.own k.lives first (dues s.d s.reply here) in
    part_phase c plan old steps r q bytes taken request mine watts s.d s.reply k s.same ok (todo ∙ ap (λ (x : Spoken). Some (states.Say x)) s.spoken_is) here part

-- ---- the watts that it writes

-- what is told then, and the reply that tells it
pub record WroteSo (c : ToldCodecs) (plan : PostPlan) (kept : Option Talked) (watts : SpelledWatts) : Type 0 where
  pub t : Talked
  pub kept_is : kept ≡ Some t
  pub reply : Reply
  pub payload : List ℕ
  pub encodes : c.words.Encodes t.stage.dialect reply payload
  pub spells : c.Watts t.stage.dialect payload watts
  pub tells : Tells plan t.stage.dialect t.stage.told reply.tell

abbrev pub WroteIn : ToldCodecs → PostPlan → Said → Option Talked → Type 0
WroteIn c plan (Response chosen positive) kept = Unit {0}
WroteIn c plan (Replied request reply watts) kept = IsOkClass reply.code → WroteSo c plan kept watts
WroteIn c plan Other kept = Unit {0}
WroteIn c plan Unasked kept = Unit {0}

-- of the newest step
abbrev pub Wrote : ToldCodecs → PostPlan → List ToldStep → Type 0
Wrote c plan [] = Unit {0}
Wrote c plan (told.Hears at event ∷ old) = Unit {0}
Wrote c plan (told.Does r act taken ∷ old) = Unit {0}
Wrote c plan (told.Sends r bytes taken said ∷ old) = WroteIn c plan said (told_course plan (told.Sends r bytes taken said ∷ old)).session

-- what is said leaves the dialect and the watts
pub record SaidStage (bytes : List ℕ) (taken : Bool) (a : Course) (t : Talked) : Type 0 where
  pub u : Talked
  pub is : (course.acted (Send bytes) taken a).session ≡ Some u
  pub dialect_is : t.stage.dialect ≡ u.stage.dialect
  pub told_is : t.stage.told ≡ u.stage.told

said_stage_by : (bytes : List ℕ) (taken : Bool) (request : Request) (reply : Reply) (watts : SpelledWatts) (a : Course) (t : Talked) → talked_said (Replied request reply watts) a.session ≡ Some (record t { stage = stage_said (Replied request reply watts) t.stage })
    → SaidStage bytes taken (course_said (Replied request reply watts) a) t
said_stage_by bytes true request reply watts a t e = record { u = record t { stage = confirmed (stage_said (Replied request reply watts) t.stage) }; is = ap confirmed_in e; dialect_is = refl; told_is = refl }
said_stage_by bytes false request reply watts a t e = record { u = record t { stage = stage_said (Replied request reply watts) t.stage }; is = e; dialect_is = refl; told_is = refl }

said_stage : (bytes : List ℕ) (taken : Bool) (request : Request) (reply : Reply) (watts : SpelledWatts) (a : Course) (t : Talked) → a.session ≡ Some t → SaidStage bytes taken (course_said (Replied request reply watts) a) t
said_stage bytes taken request reply watts a t e = said_stage_by bytes taken request reply watts a t (ap (talked_said (Replied request reply watts)) e)

wrote_fits : (c : ToldCodecs) (plan : PostPlan) (d : Dialect) (a : Ask) (reply : Reply) (payload : List ℕ) (watts : SpelledWatts) (t u : Talked) (kept : Option Talked) → kept ≡ Some u → t.stage.dialect ≡ u.stage.dialect → t.stage.told ≡ u.stage.told → Fits plan d a reply.tell t.stage → c.words.Encodes d reply payload → c.Watts d payload watts → WroteSo c plan kept watts
wrote_fits c plan d a reply payload watts t u kept k e f fits encodes spells =
    let here : d ≡ u.stage.dialect = fits.dialect_is ∙ e in
    record {
      t = u;
      kept_is = k;
      reply = reply;
      payload = payload;
      encodes = subst (λ (x : Dialect). c.words.Encodes x reply payload) here encodes;
      spells = subst (λ (x : Dialect). c.Watts x payload watts) here spells;
      tells = subst (λ (x : Dialect). Tells plan x u.stage.told reply.tell) here (subst (λ (n : ℕ). Tells plan d n reply.tell) f fits.tells);
    }

part_wrote : (c : ToldCodecs) (plan : PostPlan) (old : List ToldStep) (steps : List Step) (r q : Option Reading) (bytes : List ℕ) (taken : Bool) (request : Request) (mine : Reply) (watts : SpelledWatts) (d : Dialect) (reply : Reply) (payload : List ℕ) → (k : Speaking c plan old steps r q) → read_back mine ≡ read_back reply
    → c.words.Encodes d reply payload → c.Watts d payload watts → Part plan d reply (filled plan q (state plan steps)).session (filled plan q (state plan steps)).agenda.ending request → Wrote c plan (told.Sends r bytes taken (Replied request (read_back mine) watts) ∷ old)
part_wrote c plan old steps r q bytes taken request mine watts d reply payload k same encodes spells (inl fits) = λ ok.
    let said : Said = Replied request (read_back mine) watts in
    let is = told_as c plan old steps r q bytes taken (Replied request (read_back mine) watts) k in
    let x = said_stage bytes taken request (read_back mine) watts k.a (talked_of k.ss) k.led in
    wrote_fits c plan d request.ask reply payload watts (talked_of k.ss) x.u (sent_told plan old r bytes taken (Replied request (read_back mine) watts)).session (ap (λ (z : Course). z.session) is ∙ x.is) x.dialect_is x.told_is (fits k.ss k.kept) encodes spells
part_wrote c plan old steps r q bytes taken request mine watts d reply payload k same encodes spells (inr x) = λ ok. absurd (not_ok mine.code (ap is_accepted (code_same mine reply same) ∙ x.0) ok)

said_wrote : (c : ToldCodecs) (plan : PostPlan) (old : List ToldStep) (steps : List Step) (r q : Option Reading) (bytes : List ℕ) (taken : Bool) (said : Said) (spoken : Spoken) (o : Option Order) (on : Bool) → (k : Speaking c plan old steps r q) → (filled plan q (state plan steps)).agenda.reply ≡ Some spoken
    → IsSpoken c.words spoken bytes → Answering c.words plan (map seen_of steps) o on spoken → Dues c.words plan (map seen_of steps) (filled plan q (state plan steps)) → SaidSo c plan (map seen_of steps) bytes said → Wrote c plan (told.Sends r bytes taken said ∷ old)
said_wrote c plan old steps r q bytes taken said spoken o on k has is answering dues (WasResponse chosen response payload first neg shut e) = tt
said_wrote c plan old steps r q bytes taken said spoken o on k has is answering dues (WasReply request d mine payload watts first speaks single ok encodes e spells) =
    let s = same_reply c plan (map seen_of steps) bytes payload request d mine o on spoken k.known.own k.lives first speaks encodes e is answering in
    let here : (filled plan q (state plan steps)).agenda.reply ≡ Some (states.Said s.d s.reply) = has ∙ ap Some s.spoken_is in
    let f = filled plan q (state plan steps) in
    let part = settled_part c plan (map seen_of steps) s.d s.reply f.session f.agenda.ending request k.known.own k.lives first (dues s.d s.reply here) in
    part_wrote c plan old steps r q bytes taken request mine watts s.d s.reply payload k s.same (s.encodes s.reply s.spoken_is) (subst (λ (x : Dialect). c.Watts x payload watts) s.dialect_is spells) part

say_spoken : (c : Codecs) (spoken : Spoken) (todo : Todo) (bytes : List ℕ) (taken : Bool) → todo ≡ states.Say spoken → IsDone c todo (Send bytes) taken → IsSpoken c spoken bytes
say_spoken c spoken (states.Tell d) bytes taken e i = cc
say_spoken c spoken (states.Give o) bytes taken e i = cc
say_spoken c spoken (states.Say x) bytes taken e i =
    let same : x ≡ spoken = cc in
    let one : i.0 ≡ bytes = (let y : Send bytes ≡ Send i.0 = i.2 in cc) in
    subst (IsSpoken c spoken) one (subst (λ (z : Spoken). IsSpoken c z i.0) same i.1)
say_spoken c spoken (states.Finish k) bytes taken e i = cc

lives_at : (c : ToldCodecs) (plan : PostPlan) (xs ys : List Seen) → xs ≡ ys → Lives c.words plan xs → Lives c.words plan ys
lives_at c plan xs ys e l = subst (Lives c.words plan) e l

pub spoke_on : (c : ToldCodecs) (plan : PostPlan) (limit : ℕ) (before behind : List Post) (St : ℕ → ℕ → Type 0) (old : List ToldStep) (steps : List Step) (bytes : List ℕ) (taken : Bool) (said : Said) (r q : Option Reading) → Known c plan (told.Sends r bytes taken said ∷ old) (Does q (Send bytes) taken ∷ steps) → Known c plan old steps → Going c plan old steps
    → Acts c.words plan (Shows limit before behind) (state plan steps) q (Send bytes) taken → Shared St (Shows limit before behind) → IsReading c St plan old (Send bytes) r → Phased c plan (told.Sends r bytes taken said ∷ old) (Does q (Send bytes) taken ∷ steps) × Wrote c plan (told.Sends r bytes taken said ∷ old)
spoke_on c plan limit before behind St old steps bytes taken said r q now known g acts shares i =
    let past = map seen_of steps in
    let s = state plan steps in
    let f = filled plan q s in
    let own = known.own in
    let all = known.all in
    let S = Shows limit before behind in
    let e = same_reading c plan limit before behind St old steps (Send bytes) taken r q known g now.all acts tt shares i in
    let a = read_by (told_course plan old).session past (told_course plan old) plan r in
    let b = read_by (course plan steps).session past (course plan steps) plan q in
    let alike : AreAlike past a b = read_alike plan past (told_course plan old) (course plan steps) r q e g.alike in
    let failed = failed_act c.words plan (Shows limit before behind) s q bytes taken acts in
    let run : IsPostRun c.words plan (Does q (Send bytes) false ∷ steps) = (all.laws.run, (limit, before, behind, failed)) in
    let read = courses_are_read c.words plan (Does q (Send bytes) false ∷ steps) run in
    let lives = lives_at c plan (seen_in old) past known.same now.said.1 in
    let kept = some_kept f.session past lives.es false bytes (facts_are_read plan (Does q (Send bytes) false ∷ steps)).session_is lives.session_is in
    let led : b.session ≡ Some (talked_of kept.0) = sym read.session_is ∙ ap talked_in kept.1 in
    let one = as_one past a b (talked_of kept.0) alike led in
    let todo = say_todo c.words acts.todo bytes taken acts.done in
    let says : first f.agenda ≡ Some (states.Say todo.0) = acts.acts ∙ ap Some todo.1 in
    let has = (say_is f.agenda.datagram f.agenda.order f.agenda.reply f.agenda.ending todo.0 says).0 in
    let owes = steps_owe c.words plan steps own.reads_back own.determined own.negotiates_first all.laws.run all.heard all.laws.ordered in
    let here = filled_owes c.words plan (Shows limit before behind) steps q own.reads_back own.determined own.negotiates_first all.laws.run all.heard now.all.laws.ordered.1 acts.read owes in
    let dues = filled_due c.words plan (Shows limit before behind) steps q now.all.laws.ordered.1 acts.read (steps_due c.words plan steps all.laws.run all.laws.ordered) in
    let k : Speaking c plan old steps r q = record {
      known = known;
      a = a;
      b = b;
      a_is = refl;
      b_is = refl;
      one = one;
      ss = kept.0;
      kept = kept.1;
      led = alike.session_is ∙ led;
      live_is = filled_live plan q s ∙ (contactors_are_read plan steps).live_is;
      lives = lives;
    } in
    let spoken = say_spoken c.words todo.0 acts.todo bytes taken todo.1 acts.done in
    let said_so = subst (λ (xs : List Seen). SaidSo c plan xs bytes said) known.same now.said.2 in
    (said_phase c plan old steps r q bytes taken said todo.0 f.agenda.order f.live k says has spoken (here todo.0 has) dues said_so, said_wrote c plan old steps r q bytes taken said todo.0 f.agenda.order f.live k has spoken (here todo.0 has) dues said_so)
