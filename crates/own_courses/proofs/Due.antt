-- What a post is about to say says what the post made of the request, or the session ends behind it.
use Rattle.std.proofs.Common.{◌≡◌, ℕ, min, Bool, true, false, ◌&&◌, if◌then◌else◌, List, [], ◌∷◌, map, Option, Some, None, is_some, unwrap_or, refl, sym, ap, subst, ◌∙◌, inl, inr, ◌⊎◌, arith}
use Rattle.std.specs.Prelude.{nat_lt}
use Rattle.std.specs.Option.{option_map}
use Rattle.std.proofs.lemmas.Bool.Decides.{nat_tests}
use Rattle.charge_world.specs.declared.heard.PlantEvent.{PlantEvent}
use Rattle.charge_world.specs.declared.offer.Dialect.{Dialect}
use Rattle.charge_world.specs.declared.offer.Dialect.TheVariants as dialect
use Rattle.charge_world.specs.declared.ports.Order.{Order}
use Rattle.charge_world.specs.declared.ports.Order.TheVariants as order
use Rattle.session_words.specs.declared.cause.EndCause.{EndCause}
use Rattle.session_words.specs.declared.cause.EndCause.TheVariants.{FailedReply}
use Rattle.session_words.specs.declared.code.Code.{Code}
use Rattle.session_words.specs.declared.facts.Facts.{Facts}
use Rattle.session_words.specs.declared.limits.PostStatus.{PostStatus}
use Rattle.session_words.specs.declared.phase.Phase.{Phase}
use Rattle.session_words.specs.declared.phase.Phase.TheVariants as row
use Rattle.session_words.specs.declared.plan.PostPlan.{PostPlan}
use Rattle.session_words.specs.declared.word.Ask.{Ask}
use Rattle.session_words.specs.declared.word.Ask.TheVariants as ask
use Rattle.session_words.specs.declared.word.Reply.{Reply}
use Rattle.session_words.specs.declared.word.Request.{Request}
use Rattle.session_words.specs.declared.word.Tell.{Tell}
use Rattle.session_words.specs.declared.word.Tell.TheVariants as tell
use Rattle.session_rules.specs.declared.stage.PreCharged.{PreCharged}
use Rattle.session_rules.specs.declared.stage.Stage.{Stage}
use Rattle.session_rules.specs.Asks.{shows_watts}
use Rattle.session_rules.specs.Causes.{plant_cause}
use Rattle.session_rules.specs.Finishing.{is_ac, is_finished}
use Rattle.session_rules.specs.Moves.{next_schedule, next_pre_charge, moved, stage_behind}
use Rattle.session_rules.specs.Offers.{amount, scheduled_watts, spelled_watts, p_max_of, ac_current_at, limits_of}
use Rattle.session_rules.specs.Reply.{tell_of, reply_to, waiting_reply, schedule_if}
use Rattle.session_rules.specs.Rows.{leads}
use Rattle.session_rules.specs.Stages.{is_set_up, is_waiting}
use Rattle.session_rules.specs.Verdict.{verdict, is_accepted}
use Rattle.post_spec.specs.Codecs.{Judged, Negotiated, Asked, WrongSide, Refused, Codecs}
use Rattle.post_spec.specs.Spelled.{dropped_tuples, dropped_tell}
use Rattle.post_spec.specs.Steps.{Event, Came, Bytes, Gone, Datagram, Plant, Clock, Over, Act, Give, Send, Answer, End, Seen, Did, Reading, Step, Hears, Does, seen_of}
use Rattle.station_spec.specs.States.{Spoken, Said, Agenda, Session, State, nothing, first}
use Rattle.station_spec.specs.Deciding.{repeating, timing, watch, confirms, confirming, charging_by, charging, eventing, fronting, decided}
use Rattle.station_spec.specs.Judging.{Payload, wanted, cause_by, judged, taken_in, read, filled, IsRead}
use Rattle.station_spec.specs.Acting.{since_order, failing, agenda_said, acted, state}
use Rattle.station_spec.specs.Sharing.{Shows}
use Rattle.station_laws.specs.PostRuns.{IsPostRun}
use Rattle.station_laws.proofs.Decided.{decided_by}
use Rattle.read_runs.proofs.Agendas.{repeating_silent, timing_silent, ending_silent, fronting_silent, WantedIn, wanted_in}
use Rattle.read_sessions.proofs.Starts.{set_up_before}
use Rattle.safe_runs.proofs.Asked.{found_failed, row_takes}
use Rattle.own_traces.specs.Next.{IsReadNext, AreReadInOrder}
use Rattle.told_pasts.specs.Course.{pre_charge_said, scheduled, schedule_said}
use Rattle.own_traces.proofs.First.{FirstWord, first_given, read_first}
use Rattle.own_courses.specs.Writing.{TellsSchedule, TellsLimits, Tells}

-- ---- a reply fits what the request made of the session

pub record Fits (plan : PostPlan) (d : Dialect) (a : Ask) (t : Tell) (s : Stage) : Type 0 where
  pub dialect_is : d ≡ s.dialect
  pub schedule : schedule_said (dropped_tell t) s.schedule ≡ s.schedule
  pub pre_charge : pre_charge_said a (dropped_tell t) s.pre_charge ≡ s.pre_charge
  pub row_not : s.row ≡ row.Negotiated → ⊥
  pub tells : Tells plan d s.told t

din_spelled : (n : ℕ) → spelled_watts (min 32767 n) ≡ min 32767 n
din_spelled n = grind (arith, nat_tests)

p_max_spelled : (d : Dialect) (n : ℕ) → spelled_watts (scheduled_watts d n) ≡ p_max_of d n
p_max_spelled dialect.Iso n = refl
p_max_spelled dialect.Din n = din_spelled n

parameters_fit : (d : Dialect) (shown before : ℕ) (a b : Bool) → a ≡ true
    → scheduled (option_map dropped_tuples (schedule_if (a && b) d shown)) (if b then p_max_of d shown else before) ≡ (if b then p_max_of d shown else before)
parameters_fit d shown before true true e = p_max_spelled d shown
parameters_fit d shown before true false e = refl
parameters_fit d shown before false b e = cc

schedule_fits : (s : Stage) (facts : Facts) (plan : PostPlan) (x : Code) (shown : ℕ) (a : Ask) → is_accepted x ≡ true → schedule_said (dropped_tell (tell_of s facts plan x shown a)) (next_schedule s a shown) ≡ next_schedule s a shown
schedule_fits s facts plan x shown (ask.ChargeParameters mode limits) e = parameters_fit s.dialect shown s.schedule (is_accepted x) (nat_lt 0 shown) e
schedule_fits s facts plan x shown (ask.SessionSetup car) e = refl
schedule_fits s facts plan x shown ask.ServiceDiscovery e = refl
schedule_fits s facts plan x shown (ask.ServiceDetail service) e = refl
schedule_fits s facts plan x shown (ask.PaymentSelection external services) e = refl
schedule_fits s facts plan x shown ask.Authorization e = refl
schedule_fits s facts plan x shown (ask.CableCheck ready soc) e = refl
schedule_fits s facts plan x shown (ask.PreCharge ready soc voltage current) e = refl
schedule_fits s facts plan x shown (ask.PowerDelivery progress tuple profile) e = refl
schedule_fits s facts plan x shown (ask.CurrentDemand ready soc voltage current) e = refl
schedule_fits s facts plan x shown ask.ChargingStatus e = refl
schedule_fits s facts plan x shown (ask.WeldingDetection ready soc) e = refl
schedule_fits s facts plan x shown (ask.SessionStop pause) e = refl

pre_charge_fits : (s : Stage) (facts : Facts) (plan : PostPlan) (x : Code) (shown : ℕ) (a : Ask) → pre_charge_said a (dropped_tell (tell_of s facts plan x shown a)) (next_pre_charge s facts a) ≡ next_pre_charge s facts a
pre_charge_fits s facts plan x shown (ask.ChargeParameters mode limits) = refl
pre_charge_fits s facts plan x shown (ask.SessionSetup car) = refl
pre_charge_fits s facts plan x shown ask.ServiceDiscovery = refl
pre_charge_fits s facts plan x shown (ask.ServiceDetail service) = refl
pre_charge_fits s facts plan x shown (ask.PaymentSelection external services) = refl
pre_charge_fits s facts plan x shown ask.Authorization = refl
pre_charge_fits s facts plan x shown (ask.CableCheck ready soc) = refl
pre_charge_fits s facts plan x shown (ask.PreCharge ready soc voltage current) = refl
pre_charge_fits s facts plan x shown (ask.PowerDelivery progress tuple profile) = refl
pre_charge_fits s facts plan x shown (ask.CurrentDemand ready soc voltage current) = refl
pre_charge_fits s facts plan x shown ask.ChargingStatus = refl
pre_charge_fits s facts plan x shown (ask.WeldingDetection ready soc) = refl
pre_charge_fits s facts plan x shown (ask.SessionStop pause) = refl

schedule_told : (d : Dialect) (shown : ℕ) (b : Bool) → TellsSchedule d shown (schedule_if b d shown)
schedule_told d shown true = refl
schedule_told d shown false = tt

limits_told : (ac : Bool) (d : Dialect) (facts : Facts) (plan : PostPlan) (x : Code) (a : Ask) (told shown : ℕ) → told ≡ shown → TellsLimits plan shown (limits_of ac d facts plan x a told)
limits_told true d facts plan x a told shown e = ap (λ (n : ℕ). amount (ac_current_at plan n)) e
limits_told false d facts plan x a told shown e = ap (λ (n : ℕ). Some (amount n)) e

then_shown : (b : Bool) (m n : ℕ) → b ≡ true → (if b then m else n) ≡ m
then_shown true m n e = refl
then_shown false m n e = cc

told_fits : (s : Stage) (facts : Facts) (plan : PostPlan) (x : Code) (shown : ℕ) (a : Ask) → is_accepted x ≡ true → Tells plan s.dialect (if shows_watts a then shown else s.told) (tell_of s facts plan x shown a)
told_fits s facts plan x shown (ask.ChargeParameters mode limits) e =
    (schedule_told s.dialect shown (is_accepted x && nat_lt 0 shown), limits_told (is_ac plan.mode) s.dialect facts plan x (ask.ChargeParameters mode limits) (if is_accepted x then shown else 0) shown (then_shown (is_accepted x) shown 0 e))
told_fits s facts plan x shown (ask.SessionSetup car) e = tt
told_fits s facts plan x shown ask.ServiceDiscovery e = tt
told_fits s facts plan x shown (ask.ServiceDetail service) e = tt
told_fits s facts plan x shown (ask.PaymentSelection external services) e = tt
told_fits s facts plan x shown ask.Authorization e = tt
told_fits s facts plan x shown (ask.CableCheck ready soc) e = tt
told_fits s facts plan x shown (ask.PreCharge ready soc voltage current) e = tt
told_fits s facts plan x shown (ask.PowerDelivery progress tuple profile) e = tt
told_fits s facts plan x shown (ask.CurrentDemand ready soc voltage current) e = ap (λ (n : ℕ). Some (amount n)) (then_shown (is_accepted x) shown s.told e)
told_fits s facts plan x shown ask.ChargingStatus e = ap (λ (n : ℕ). Some (amount (ac_current_at plan n))) (then_shown (is_accepted x) shown s.told e)
told_fits s facts plan x shown (ask.WeldingDetection ready soc) e = tt
told_fits s facts plan x shown (ask.SessionStop pause) e = tt

-- no request leads to the row behind a negotiation
early_row : (here : Phase) (a : Ask) (f ac : Bool) → is_set_up here ≡ false → is_some (leads here a true true) ≡ true → unwrap_or (leads here a f ac) here ≡ row.Negotiated → ⊥
early_row row.Connected (ask.SessionStop pause) f ac u t h = cc
early_row row.Connected a f ac u t h = cc
early_row row.Negotiated (ask.SessionStop pause) f ac u t h = cc
early_row row.Negotiated (ask.SessionSetup car) f ac u t h = cc
early_row row.Negotiated a f ac u t h = cc
early_row here a f ac u t h = cc

row_behind : (s : Stage) (facts : Facts) (plan : PostPlan) (r : Request) (shown : ℕ) → is_accepted (verdict s facts plan r) ≡ true → (stage_behind s facts plan r shown).row ≡ row.Negotiated → ⊥
row_behind s facts plan r shown e h =
    let u : is_set_up s.row ≡ false = set_up_before s facts plan r shown (ap is_set_up h) in
    let same : (stage_behind s facts plan r shown).row ≡ unwrap_or (leads s.row r.ask (is_finished facts plan r.ask shown) (is_ac plan.mode)) s.row = rw e refl in
    early_row s.row r.ask (is_finished facts plan r.ask shown) (is_ac plan.mode) u (row_takes s facts plan r e) (sym same ∙ h)

reply_fits : (s : Stage) (facts : Facts) (plan : PostPlan) (r : Request) (shown : ℕ) → is_accepted (verdict s facts plan r) ≡ true → Fits plan s.dialect r.ask (reply_to s facts plan r shown).tell (stage_behind s facts plan r shown)
reply_fits s facts plan r shown e =
    let same : stage_behind s facts plan r shown ≡ moved s facts plan r shown = rw e refl in
    let row = row_behind s facts plan r shown e in
    subst (Fits plan s.dialect r.ask (reply_to s facts plan r shown).tell) (sym same) (record {
      dialect_is = refl;
      schedule = schedule_fits s facts plan (verdict s facts plan r) shown r.ask e;
      pre_charge = pre_charge_fits s facts plan (verdict s facts plan r) shown r.ask;
      row_not = λ h. row (ap (λ (x : Stage). x.row) same ∙ h);
      tells = told_fits s facts plan (verdict s facts plan r) shown r.ask e;
    })

-- ---- what is owed to the car

abbrev pub Part : PostPlan → Dialect → Reply → Option Session → Option EndCause → Request → Type 0
Part plan d reply kept ending request = ((ss : Session) → kept ≡ Some ss → Fits plan d request.ask reply.tell ss.stage) ⊎ ((is_accepted reply.code ≡ false) × (ending ≡ Some FailedReply))

-- the reply to the first word without one, or one that fits any request
abbrev pub Settled : Codecs → PostPlan → List Seen → Dialect → Reply → Option Session → Option EndCause → Type 0
Settled c plan past d reply kept ending =
    ((request : Request) → Part plan d reply kept ending request) ⊎ ((request : Request) × FirstWord c plan past (Asked request) × Part plan d reply kept ending request)

abbrev pub Dues : Codecs → PostPlan → List Seen → State → Type 0
Dues c plan past s = (d : Dialect) (reply : Reply) → s.agenda.reply ≡ Some (Said d reply) → Settled c plan past d reply s.session s.agenda.ending

silent : {A : Type 0} (r : Option Spoken) (d : Dialect) (reply : Reply) → r ≡ None → r ≡ Some (Said d reply) → A
silent r d reply n h = let x : None ≡ Some (Said d reply) = sym n ∙ h in cc

delivery_pre : (a : Ask) (st : PostStatus) (b : Option PreCharged) → pre_charge_said a (tell.PowerDelivery st) b ≡ b
delivery_pre (ask.PreCharge ready soc voltage current) st b = refl
delivery_pre a st b = refl

waits_not : (here : Phase) → is_waiting here ≡ true → here ≡ row.Negotiated → ⊥
waits_not here w h = let x : true ≡ false = sym w ∙ ap is_waiting h in cc

waiting_fits : (plan : PostPlan) (s : Stage) (facts : Facts) (a : Ask) → is_waiting s.row ≡ true → Fits plan s.dialect a (waiting_reply s facts plan).tell s
waiting_fits plan s facts a w = record { dialect_is = refl; schedule = refl; pre_charge = delivery_pre a _ s.pre_charge; row_not = waits_not s.row w; tells = tt }

one_said : (d e : Dialect) (x y : Reply) → Some (Said d x) ≡ Some (Said e y) → (d ≡ e) × (x ≡ y)
one_said d e x y h = (cc, cc)

some_one : (ss ts : Session) → Some ss ≡ Some ts → ss ≡ ts
some_one ss ts h = cc

waiting_part : (plan : PostPlan) (ss : Session) (facts : Facts) (kept : Option Session) (d : Dialect) (reply : Reply) (request : Request) → kept ≡ Some ss → is_waiting ss.stage.row ≡ true → ss.stage.dialect ≡ d → waiting_reply ss.stage facts plan ≡ reply → Part plan d reply kept None request
waiting_part plan ss facts kept d reply request k w e f = inl (λ ts m.
    let same : ss ≡ ts = some_one ss ts (sym k ∙ m) in
    let here : Fits plan d request.ask reply.tell ss.stage = subst (λ (x : Dialect). Fits plan x request.ask reply.tell ss.stage) e (subst (λ (x : Reply). Fits plan ss.stage.dialect request.ask x.tell ss.stage) f (waiting_fits plan ss.stage facts request.ask w)) in
    subst (λ (x : Session). Fits plan d request.ask reply.tell x.stage) same here)

and_left : (a b : Bool) → a && b ≡ true → a ≡ true
and_left true b h = refl
and_left false b h = cc

abbrev DuesOf : Codecs → PostPlan → List Seen → Option Session → Agenda → Type 0
DuesOf c plan past kept a = (d : Dialect) (reply : Reply) → a.reply ≡ Some (Said d reply) → Settled c plan past d reply kept a.ending

confirms_due : (c : Codecs) (plan : PostPlan) (past : List Seen) (ss : Session) (facts : Facts) (kept : Option Session) (b : Bool) → kept ≡ Some ss → (b ≡ true → is_waiting ss.stage.row ≡ true)
    → DuesOf c plan past kept (if b then record nothing { reply = Some (Said ss.stage.dialect (waiting_reply ss.stage facts plan)) } else nothing)
confirms_due c plan past ss facts kept true k w = λ d reply h.
    let x = one_said ss.stage.dialect d (waiting_reply ss.stage facts plan) reply h in
    inl (λ request. waiting_part plan ss facts kept d reply request k (w refl) x.0 x.1)
confirms_due c plan past ss facts kept false k w = λ d reply h. cc

charges_due : (c : Codecs) (plan : PostPlan) (past : List Seen) (ss : Session) (event : PlantEvent) (s : State) (kept : Option Session) (cause : Option EndCause) → kept ≡ Some ss → DuesOf c plan past kept (charging_by cause (confirming plan ss event s) s.live)
charges_due c plan past ss event s kept (Some k) e = λ d reply h. cc
charges_due c plan past ss event s kept None e = confirms_due c plan past ss s.facts kept (is_waiting ss.stage.row && confirms event) e (λ b. and_left (is_waiting ss.stage.row) (confirms event) b)

charging_due : (c : Codecs) (plan : PostPlan) (past : List Seen) (kept : Option Session) (event : PlantEvent) (s : State) → DuesOf c plan past kept (charging plan kept event s)
charging_due c plan past None event s = λ d reply h. cc
charging_due c plan past (Some ss) event s = charges_due c plan past ss event s (Some ss) (plant_cause (watch plan ss s) event) refl

events_due : (c : Codecs) (plan : PostPlan) (past : List Seen) (e : Event) (s : State) → DuesOf c plan past s.session (eventing plan e s)
events_due c plan past (Came token) s = λ d reply h. silent (eventing plan (Came token) s).reply d reply (ending_silent s.session _ s.live) h
events_due c plan past (Bytes bytes) s = λ d reply h. cc
events_due c plan past Gone s = λ d reply h. silent (eventing plan Gone s).reply d reply (ending_silent s.session _ s.live) h
events_due c plan past (Datagram bytes) s = λ d reply h. cc
events_due c plan past (Plant event) s = charging_due c plan past s.session event s
events_due c plan past Clock s = λ d reply h. cc
events_due c plan past Over s = λ d reply h. silent (eventing plan Over s).reply d reply (ending_silent s.session _ s.live) h

decided_due : (c : Codecs) (plan : PostPlan) (past : List Seen) (s : State) → Dues c plan past s → Dues c plan past (decided plan s)
decided_due c plan past s due = decided_by (Dues c plan past) plan s (λ x. record {
  repeats = λ d reply h. silent (repeating s.facts.contactor).reply d reply (repeating_silent s.facts.contactor) h;
  times = λ d reply h. silent (timing s.session s.clock s.live).reply d reply (timing_silent s.session s.clock s.live) h;
  events = events_due c plan past s.event s;
  fronts = λ d reply h. silent (fronting s.session s.live).reply d reply (fronting_silent s.session s.live) h;
}) due

-- ---- a word that is read

said_if : (b : Bool) (d e : Dialect) (x y : Reply) → (if b then None else Some (Said d x)) ≡ Some (Said e y) → (d ≡ e) × (x ≡ y)
said_if true d e x y h = cc
said_if false d e x y h = one_said d e x y h

asked_part : (plan : PostPlan) (s : State) (ss : Session) (r : Request) (shown : ℕ) (b : Bool) → is_accepted (verdict ss.stage s.facts plan r) ≡ b
    → Part plan ss.stage.dialect (reply_to ss.stage s.facts plan r shown) (judged plan s ss (Asked r) shown).session (cause_by ss.stage plan s r) r
asked_part plan s ss r shown true e = inl (λ ts k.
    let same = ap (λ (x : Session). x.stage) (some_one _ ts k) in
    subst (Fits plan ss.stage.dialect r.ask (reply_to ss.stage s.facts plan r shown).tell) same (reply_fits ss.stage s.facts plan r shown e))
asked_part plan s ss r shown false e = inr (e, found_failed (verdict ss.stage s.facts plan r) r.ask e)

judged_due : (c : Codecs) (plan : PostPlan) (past : List Seen) (s : State) (ss : Session) (w : Judged) (shown : ℕ) → FirstWord c plan past w → Dues c plan past (judged plan s ss w shown)
judged_due c plan past s ss (Negotiated chosen response) shown first = λ d reply h. cc
judged_due c plan past s ss (Asked r) shown first = λ d reply h.
    let x = said_if (is_waiting (stage_behind ss.stage s.facts plan r shown).row) ss.stage.dialect d (reply_to ss.stage s.facts plan r shown) reply h in
    let p = asked_part plan s ss r shown (is_accepted (verdict ss.stage s.facts plan r)) refl in
    inr (
      r,
      first,
      subst (λ (y : Reply). Part plan d y (judged plan s ss (Asked r) shown).session (cause_by ss.stage plan s r) r) x.1
          (subst (λ (y : Dialect). Part plan y (reply_to ss.stage s.facts plan r shown) (judged plan s ss (Asked r) shown).session (cause_by ss.stage plan s r) r) x.0 p),
    )
judged_due c plan past s ss WrongSide shown first = λ d reply h. cc
judged_due c plan past s ss Refused shown first = λ d reply h. cc

taken_due : (c : Codecs) (plan : PostPlan) (past : List Seen) (s : State) (kept : Option Session) (p : Payload) (r : Reading) → WantedIn s kept p → FirstWord c plan past r.judged → Dues c plan past (taken_in plan s kept r)
taken_due c plan past s None p r i first = absurd i
taken_due c plan past s (Some ss) p r i first = judged_due c plan past s ss r.judged r.shown first

read_due : (c : Codecs) (plan : PostPlan) (S : ℕ → ℕ → Type 0) (past : List Seen) (s : State) (w : Option Payload) (r : Option Reading) → wanted (decided plan s) ≡ w → IsRead c plan S (decided plan s) w r → IsReadNext c plan past r → Dues c plan past (decided plan s) → Dues c plan past (read plan (decided plan s) r)
read_due c plan S past s w None e i next due = due
read_due c plan S past s None (Some r) e i next due = absurd i
read_due c plan S past s (Some p) (Some r) e i next due = taken_due c plan past (decided plan s) (decided plan s).session p r (wanted_in (decided plan s) p e) (read_first c plan past r.judged next)

pub filled_due : (c : Codecs) (plan : PostPlan) (S : ℕ → ℕ → Type 0) (steps : List Step) (r : Option Reading) → IsReadNext c plan (map seen_of steps) r → IsRead c plan S (decided plan (state plan steps)) (wanted (decided plan (state plan steps))) r → Dues c plan (map seen_of steps) (state plan steps)
    → Dues c plan (map seen_of steps) (filled plan r (state plan steps))
filled_due c plan S steps r next i due = read_due c plan S (map seen_of steps) (state plan steps) (wanted (decided plan (state plan steps))) r refl i next (decided_due c plan (map seen_of steps) (state plan steps) due)

-- ---- an act

since_stage : (now : ℕ) (o : Order) (ss : Session) → (since_order now o ss).stage ≡ ss.stage
since_stage now order.Open ss = refl
since_stage now order.Close ss = refl
since_stage now (order.Limits voltage current watts) ss = refl

map_back : (f : Session → Session) (kept : Option Session) (ts : Session) → option_map f kept ≡ Some ts → (ss : Session) × (kept ≡ Some ss) × (f ss ≡ ts)
map_back f None ts h = cc
map_back f (Some ss) ts h = (ss, refl, cc)

gave_part : (plan : PostPlan) (d : Dialect) (reply : Reply) (now : ℕ) (o : Order) (kept : Option Session) (ending : Option EndCause) (request : Request) → Part plan d reply kept ending request → Part plan d reply (option_map (since_order now o) kept) ending request
gave_part plan d reply now o kept ending request (inl f) = inl (λ ts k.
    let b = map_back (since_order now o) kept ts k in
    let same : b.0.stage ≡ ts.stage = sym (since_stage now o b.0) ∙ ap (λ (x : Session). x.stage) b.2 in
    subst (Fits plan d request.ask reply.tell) same (f b.0 b.1))
gave_part plan d reply now o kept ending request (inr x) = inr x

gave_due : (c : Codecs) (plan : PostPlan) (past : List Seen) (s : State) (o : Order) → Dues c plan past s → Dues c plan (Did (Give o) true ∷ past) (acted (Give o) true s)
gave_due c plan past s o due = λ d reply h. elim (due d reply h) [
  | inl f ↦ inl (λ request. gave_part plan d reply s.clock o s.session s.agenda.ending request (f request))
  | inr x ↦ inr (x.0, first_given c plan past (Give o) true (Asked x.0) refl (λ zs. (refl, refl)) x.1, gave_part plan d reply s.clock o s.session s.agenda.ending x.0 x.2)
]

answered_due : (c : Codecs) (plan : PostPlan) (past : List Seen) (s : State) (bytes : List ℕ) (taken : Bool) → Dues c plan past s → Dues c plan (Did (Answer bytes) taken ∷ past) (acted (Answer bytes) taken s)
answered_due c plan past s bytes taken due = λ d reply h. elim (due d reply h) [
  | inl f ↦ inl f
  | inr x ↦ inr (x.0, first_given c plan past (Answer bytes) taken (Asked x.0) refl (λ zs. (refl, refl)) x.1, x.2)
]

fails_silent : (e : Option EndCause) (kept : Option Session) (cause : EndCause) (on : Bool) → (failing e kept cause on).reply ≡ None
fails_silent None kept cause on = ending_silent kept cause on
fails_silent (Some k) kept cause on = refl

said_silent : (b : Option EndCause) (kept : Option Session) (a : Agenda) (on : Bool) → (agenda_said b kept a on).reply ≡ None
said_silent None kept a on = refl
said_silent (Some k) kept a on = ending_silent kept k on

acted_due : (c : Codecs) (plan : PostPlan) (past : List Seen) (s : State) (a : Act) (taken : Bool) → Dues c plan past s → Dues c plan (Did a taken ∷ past) (acted a taken s)
acted_due c plan past s (Give o) true due = gave_due c plan past s o due
acted_due c plan past s (Give o) false due = λ d reply h. silent (failing s.agenda.ending s.session _ _).reply d reply (fails_silent s.agenda.ending s.session _ _) h
acted_due c plan past s (Send bytes) true due = λ d reply h. silent (agenda_said s.agenda.behind_reply s.session s.agenda s.live).reply d reply (said_silent s.agenda.behind_reply s.session s.agenda s.live) h
acted_due c plan past s (Send bytes) false due = λ d reply h. silent (failing s.agenda.ending s.session _ s.live).reply d reply (fails_silent s.agenda.ending s.session _ s.live) h
acted_due c plan past s (Answer bytes) taken due = answered_due c plan past s bytes taken due
acted_due c plan past s (End cause) taken due = λ d reply h. cc

pub steps_due : (c : Codecs) (plan : PostPlan) (steps : List Step) → IsPostRun c plan steps → AreReadInOrder c plan steps → Dues c plan (map seen_of steps) (state plan steps)
steps_due c plan [] run order = λ d reply h. cc
steps_due c plan (Hears at e ∷ steps) run order = λ d reply h. cc
steps_due c plan (Does r a taken ∷ steps) (run, (limit, before, behind, acts)) order =
    acted_due c plan (map seen_of steps) (filled plan r (state plan steps)) a taken
    (filled_due c plan (Shows limit before behind) steps r order.1 acts.read (steps_due c plan steps run order.0))
