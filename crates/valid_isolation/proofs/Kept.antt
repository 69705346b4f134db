-- Whatever a post hears, decides, reads and does, its isolation is kept.
use Rattle.std.proofs.Common.{◌≡◌, ◌&&◌, ℕ, Bool, true, false, if◌then◌else◌, List, [], ◌∷◌, Option, Some, None, unwrap_or, refl, sym, ap, subst, ◌∙◌, inl, inr, ◌⊎◌}
use Rattle.std.specs.Prelude.{not}
use Rattle.std.specs.Option.{option_map}
use Rattle.charge_world.specs.declared.heard.IsolationLevel.{IsolationLevel}
use Rattle.charge_world.specs.declared.heard.IsolationLevel.TheVariants.{Invalid, Valid, Warning, Fault, NoImd}
use Rattle.charge_world.specs.declared.heard.PlantEvent.TheVariants as plant
use Rattle.charge_world.specs.declared.offer.Dialect.{Dialect}
use Rattle.charge_world.specs.declared.ports.Order.{Order}
use Rattle.charge_world.specs.declared.ports.Order.TheVariants as order
use Rattle.session_words.specs.declared.cause.EndCause.{EndCause}
use Rattle.session_words.specs.declared.cause.EndCause.TheVariants.{SendFailed, OrderFailed, IsolationLost}
use Rattle.session_words.specs.declared.code.Progress.TheVariants as progress
use Rattle.session_words.specs.declared.facts.Facts.{Facts}
use Rattle.session_words.specs.declared.phase.Phase.{Phase}
use Rattle.session_words.specs.declared.phase.Phase.TheVariants as row
use Rattle.session_words.specs.declared.plan.PostPlan.{PostPlan}
use Rattle.session_words.specs.declared.session.SessionId.{SessionId}
use Rattle.session_words.specs.declared.word.Ask.{Ask}
use Rattle.session_words.specs.declared.word.Ask.TheVariants as ask
use Rattle.session_words.specs.declared.word.Request.{Request}
use Rattle.v2gtp_frames.specs.Reading.{behind_front}
use Rattle.session_rules.specs.declared.stage.Stage.{Stage}
use Rattle.session_rules.specs.Causes.{cause_if, needs_isolation, plant_cause}
use Rattle.session_rules.specs.Finishing.{is_ac, is_finished, is_valid}
use Rattle.session_rules.specs.Moves.{stage_behind, facts_behind, facts_by}
use Rattle.session_rules.specs.Rows.{leads, may_stop}
use Rattle.session_rules.specs.Stages.{confirmed_row}
use Rattle.session_rules.specs.Verdict.{verdict, is_accepted}
use Rattle.post_spec.specs.Codecs.{Judged, Negotiated, Asked, WrongSide, Refused, Codecs}
use Rattle.post_spec.specs.Steps.{Event, Came, Bytes, Gone, Datagram, Plant, Clock, Over, Act, Give, Send, Answer, End, Reading, Step, Hears, Does}
use Rattle.station_spec.specs.States.{Spoken, Agenda, Part, Repeating, Timing, Eventing, Wording, Session, State, fresh, first_of, is_none, is_done}
use Rattle.station_spec.specs.Deciding.{ending_in, repeating, timing, watch, confirming, charging_by, charging, eventing, fronting, decide, from_wording, from_eventing, from_timing, from_part, decided}
use Rattle.station_spec.specs.Judging.{Payload, wanted, chosen_stage, judged, taken_in, read, filled, IsRead}
use Rattle.station_spec.specs.Hearing.{heard_facts, session_opened, with_bytes, hearing}
use Rattle.station_spec.specs.Acting.{since_order, failing, agenda_said, replied, giving, saying, acted, state}
use Rattle.station_spec.specs.Next.{IsQuiet}
use Rattle.station_spec.specs.Sharing.{Shows, state_of}
use Rattle.station_laws.specs.PostRuns.{IsPostRun, ArePostsOf}
use Rattle.station_laws.proofs.Decided.{same_session, same_facts}
use Rattle.station_laws.proofs.PostRuns.{run_posts, post_at}
use Rattle.valid_isolation.specs.Isolated.{IsIsolated, TakesAway, IsPending, KeepsIsolation, HasJudged, RunsKeepIsolation, RunsReadIsolated}

abbrev Level : Type 0
Level = Option IsolationLevel

-- What was decided has no cause.

no_ending : (d : Option (List ℕ)) (o : Option Order) (r : Option Spoken) (e : Option EndCause) → is_none (first_of d o r e) ≡ true → e ≡ None
no_ending None None None None h = refl
no_ending None None None (Some k) h = cc
no_ending None None (Some r) e h = cc
no_ending None (Some o) r e h = cc
no_ending (Some d) o r e h = cc

done_ending : (a : Agenda) → is_done a ≡ true → a.ending ≡ None
done_ending a h = no_ending a.datagram a.order a.reply a.ending h

gone_isolated : (session : Option Session) (level : Level) → session ≡ None → IsIsolated session level
gone_isolated None level h = tt
gone_isolated (Some t) level h = cc

ended_isolated : (session : Option Session) (cause : EndCause) (live : Bool) (level : Level) → (ending_in session cause live).ending ≡ None → IsIsolated session level
ended_isolated None cause live level h = tt
ended_isolated (Some t) cause live level h = cc

-- The event.

-- a level that is no cause is valid in a row that needs it
level_if : (n : Bool) (told : IsolationLevel) → cause_if (n && not (is_valid (Some told))) IsolationLost ≡ None → n ≡ true → is_valid (Some told) ≡ true
level_if true Valid h n = refl
level_if true Invalid h n = cc
level_if true Warning h n = cc
level_if true Fault h n = cc
level_if true NoImd h n = cc
level_if false told h n = cc

no_cause : (o : Option EndCause) (a : Agenda) (live : Bool) → (charging_by o a live).ending ≡ None → o ≡ None
no_cause None a live h = refl
no_cause (Some k) a live h = cc

told_isolated : (plan : PostPlan) (s : State) (told : IsolationLevel) (session : Option Session) → (charging plan session (plant.Isolation told) s).ending ≡ None → s.facts.isolation ≡ Some told → IsIsolated session s.facts.isolation
told_isolated plan s told None h e = tt
told_isolated plan s told (Some t) h e = λ n.
    let none = no_cause (plant_cause (watch plan t s) (plant.Isolation told)) (confirming plan t (plant.Isolation told) s) s.live h in
    ap is_valid e ∙ level_if (needs_isolation t.stage.row) told none n

event_judged : (plan : PostPlan) (s : State) (e : Event) → (eventing plan e s).ending ≡ None → TakesAway e s.facts.isolation ⊎ IsIsolated s.session s.facts.isolation → IsIsolated s.session s.facts.isolation
event_judged plan s e h (inr i) = i
event_judged plan s (Came token) h (inl t) = ended_isolated s.session _ s.live s.facts.isolation h
event_judged plan s (Plant (plant.Isolation told)) h (inl t) = told_isolated plan s told s.session h t
event_judged plan s (Plant event) h (inl t) = absurd t
event_judged plan s (Bytes bytes) h (inl t) = absurd t
event_judged plan s Gone h (inl t) = absurd t
event_judged plan s (Datagram bytes) h (inl t) = absurd t
event_judged plan s Clock h (inl t) = absurd t
event_judged plan s Over h (inl t) = absurd t

-- What is decided, part by part.

pub record KeptFor (s : State) : Type 0 where
  pub kept : KeepsIsolation s
  pub judged : HasJudged s

decide_kept : (agenda : Agenda) (part : Part) (s rest : State) (b : Bool) → is_done agenda ≡ b → KeepsIsolation (record s { agenda = agenda; part = part }) → (is_done agenda ≡ true → KeptFor rest) → KeptFor (decide agenda part s rest)
decide_kept agenda part s rest true e k q = rw e (q e)
decide_kept agenda part s rest false e k q = rw e (record { kept = k; judged = λ d. absurd (let x : true ≡ false = sym d ∙ e in cc) })

wording_kept : (s : State) → IsIsolated s.session s.facts.isolation → KeptFor (from_wording s)
wording_kept s i = decide_kept (fronting s.session s.live) Wording s s _ refl (λ n. inr i) (λ d. record { kept = λ n. inr i; judged = λ e. i })

eventing_kept : (plan : PostPlan) (s : State) → TakesAway s.event s.facts.isolation ⊎ IsIsolated s.session s.facts.isolation → KeptFor (from_eventing plan s)
eventing_kept plan s t = decide_kept (eventing plan s.event s) Wording s (from_wording s) _ refl (λ n. inr (event_judged plan s s.event n t))
    (λ d. wording_kept s (event_judged plan s s.event (done_ending (eventing plan s.event s) d) t))

timing_kept : (plan : PostPlan) (s : State) → TakesAway s.event s.facts.isolation ⊎ IsIsolated s.session s.facts.isolation → KeptFor (from_timing plan s)
timing_kept plan s t = decide_kept (timing s.session s.clock s.live) Eventing s (from_eventing plan s) _ refl (λ n. t) (λ d. eventing_kept plan s t)

part_kept : (plan : PostPlan) (part : Part) (s : State) → IsPending part s.event s.facts.isolation ⊎ IsIsolated s.session s.facts.isolation → KeptFor (from_part plan part s)
part_kept plan Repeating s t = decide_kept (repeating s.facts.contactor) Timing s (from_timing plan s) _ refl (λ n. t) (λ d. timing_kept plan s t)
part_kept plan Timing s t = timing_kept plan s t
part_kept plan Eventing s t = eventing_kept plan s t
part_kept plan Wording s (inl t) = absurd t
part_kept plan Wording s (inr i) = wording_kept s i

decided_if : (plan : PostPlan) (s : State) (b : Bool) → is_done s.agenda ≡ b → KeepsIsolation s → KeptFor (decided plan s)
decided_if plan s true e k = rw e (part_kept plan s.part s (k (done_ending s.agenda e)))
decided_if plan s false e k = rw e (record { kept = k; judged = λ d. absurd (let x : true ≡ false = sym d ∙ e in cc) })

pub decided_kept : (plan : PostPlan) (s : State) → KeepsIsolation s → KeptFor (decided plan s)
decided_kept plan s k = decided_if plan s (is_done s.agenda) refl k

-- A post that has nothing to do.

quiet_if : (plan : PostPlan) (s : State) → IsQuiet plan s → KeptFor (decided plan s) → IsIsolated s.session s.facts.isolation
quiet_if plan s q k =
    subst (λ (t : Option Session). IsIsolated t s.facts.isolation) (same_session plan s)
    (subst (λ (f : Facts). IsIsolated (decided plan s).session f.isolation) (same_facts plan s) (k.judged (ap is_none q.none)))

pub quiet_isolated : (plan : PostPlan) (s : State) → IsQuiet plan s → KeepsIsolation s → IsIsolated s.session s.facts.isolation
quiet_isolated plan s q k = quiet_if plan s q (decided_kept plan s k)

-- A hearing.

fed_isolated : (bytes : List ℕ) (session : Option Session) (level : Level) → IsIsolated session level → IsIsolated (option_map (with_bytes bytes) session) level
fed_isolated bytes None level i = tt
fed_isolated bytes (Some t) level i = i

opened_isolated : (arrived : Option ℕ) (at : ℕ) (bytes : List ℕ) (session : Option Session) (level : Level) → IsIsolated session level → IsIsolated (option_map (with_bytes bytes) (session_opened arrived at session)) level
opened_isolated None at bytes session level i = fed_isolated bytes session level i
opened_isolated (Some token) at bytes session level i = λ n. cc

heard_isolated : (e : Event) (f : Facts) (session : Option Session) → IsIsolated session f.isolation → TakesAway e (heard_facts e f).isolation ⊎ IsIsolated session (heard_facts e f).isolation
heard_isolated (Came token) f session i = inl tt
heard_isolated (Bytes bytes) f session i = inr i
heard_isolated Gone f session i = inr i
heard_isolated (Datagram bytes) f session i = inr i
heard_isolated (Plant (plant.Isolation told)) f session i = inl refl
heard_isolated (Plant (plant.Pilot pilot)) f session i = inr i
heard_isolated (Plant (plant.Measured voltage current)) f session i = inr i
heard_isolated (Plant (plant.Feedback closed)) f session i = inr i
heard_isolated (Plant plant.Paid) f session i = inr i
heard_isolated (Plant plant.Emergency) f session i = inr i
heard_isolated (Plant plant.StopAsked) f session i = inr i
heard_isolated (Plant plant.RenewAsked) f session i = inr i
heard_isolated Clock f session i = inr i
heard_isolated Over f session i = inr i

pub heard_kept : (at : ℕ) (e : Event) (s : State) → IsIsolated s.session s.facts.isolation → KeepsIsolation (hearing at e s)
heard_kept at e s i n = heard_isolated e s.facts _ (opened_isolated s.arrived s.clock _ s.session s.facts.isolation i)

-- A word.

stays : (b : Bool) (here : Phase) → needs_isolation (unwrap_or (if b then Some here else None) here) ≡ needs_isolation here
stays true here = refl
stays false here = refl

-- a row that needs a valid isolation is entered by a CableCheck that found it valid, or from another such row
row_isolated : (facts : Facts) (plan : PostPlan) (shown : ℕ) (here : Phase) (a : Ask) (finished ac : Bool) → is_finished facts plan a shown ≡ finished → (needs_isolation here ≡ true → is_valid facts.isolation ≡ true)
    → needs_isolation (unwrap_or (leads here a finished ac) here) ≡ true → is_valid facts.isolation ≡ true
row_isolated facts plan shown here (ask.SessionStop pause) finished ac e i n = i (sym (stays (may_stop here) here) ∙ n)
row_isolated facts plan shown row.Negotiated (ask.SessionSetup car) finished ac e i n = cc
row_isolated facts plan shown row.SetUp ask.ServiceDiscovery finished ac e i n = cc
row_isolated facts plan shown row.Discovered (ask.ServiceDetail service) finished ac e i n = cc
row_isolated facts plan shown row.Discovered (ask.PaymentSelection external services) finished ac e i n = cc
row_isolated facts plan shown row.Selected ask.Authorization true ac e i n = cc
row_isolated facts plan shown row.Selected ask.Authorization false ac e i n = cc
row_isolated facts plan shown row.Authorized (ask.ChargeParameters mode limits) true true e i n = cc
row_isolated facts plan shown row.Authorized (ask.ChargeParameters mode limits) true false e i n = cc
row_isolated facts plan shown row.Authorized (ask.ChargeParameters mode limits) false ac e i n = cc
row_isolated facts plan shown row.DcReady (ask.CableCheck ready soc) true ac e i n = e
row_isolated facts plan shown row.DcReady (ask.CableCheck ready soc) false ac e i n = cc
row_isolated facts plan shown row.DcChecked (ask.PreCharge ready soc voltage current) finished ac e i n = i refl
row_isolated facts plan shown row.DcPreCharging (ask.PreCharge ready soc voltage current) finished ac e i n = i refl
row_isolated facts plan shown row.DcPreCharging (ask.PowerDelivery progress.Start tuple profile) finished ac e i n = i refl
row_isolated facts plan shown row.DcCharging (ask.CurrentDemand ready soc voltage current) finished ac e i n = i refl
row_isolated facts plan shown row.DcCharging (ask.PowerDelivery progress.Stop tuple profile) finished ac e i n = cc
row_isolated facts plan shown row.DcCharging (ask.PowerDelivery progress.Renegotiate tuple profile) finished ac e i n = cc
row_isolated facts plan shown row.DcStopped (ask.WeldingDetection ready soc) finished ac e i n = cc
row_isolated facts plan shown row.AcReady (ask.PowerDelivery progress.Start tuple profile) finished ac e i n = cc
row_isolated facts plan shown row.AcCharging ask.ChargingStatus finished ac e i n = cc
row_isolated facts plan shown row.AcCharging (ask.PowerDelivery progress.Stop tuple profile) finished ac e i n = cc
row_isolated facts plan shown row.AcCharging (ask.PowerDelivery progress.Renegotiate tuple profile) finished ac e i n = cc
row_isolated facts plan shown here a finished ac e i n = i n

same_level : (s : Stage) (facts : Facts) (named : SessionId) (a : Ask) → (facts_by s facts named a).isolation ≡ facts.isolation
same_level s facts named (ask.SessionSetup car) = refl
same_level s facts named (ask.PowerDelivery progress.Renegotiate tuple profile) = refl
same_level s facts named a = refl

asked_if : (s : Stage) (facts : Facts) (plan : PostPlan) (r : Request) (shown : ℕ) (b : Bool) → is_accepted (verdict s facts plan r) ≡ b → (needs_isolation s.row ≡ true → is_valid facts.isolation ≡ true)
    → needs_isolation (stage_behind s facts plan r shown).row ≡ true → is_valid (facts_behind s facts plan r).isolation ≡ true
asked_if s facts plan r shown true e i = rw e (λ n. ap is_valid (same_level s facts r.session r.ask) ∙ row_isolated facts plan shown s.row r.ask (is_finished facts plan r.ask shown) (is_ac plan.mode) refl i n)
asked_if s facts plan r shown false e i = rw e i

asked_isolated : (s : Stage) (facts : Facts) (plan : PostPlan) (r : Request) (shown : ℕ) → (needs_isolation s.row ≡ true → is_valid facts.isolation ≡ true)
    → needs_isolation (stage_behind s facts plan r shown).row ≡ true → is_valid (facts_behind s facts plan r).isolation ≡ true
asked_isolated s facts plan r shown i = asked_if s facts plan r shown (is_accepted (verdict s facts plan r)) refl i

chosen_isolated : (t : Session) (unread : List ℕ) (chosen : Option Dialect) (level : Level) → IsIsolated (Some t) level → IsIsolated (Some (record t { stage = chosen_stage t.stage chosen; unread = unread })) level
chosen_isolated t unread None level i = i
chosen_isolated t unread (Some dialect) level i = λ n. cc

judged_kept : (plan : PostPlan) (s : State) (t : Session) (j : Judged) (shown : ℕ) → IsIsolated (Some t) s.facts.isolation → KeepsIsolation (judged plan s t j shown)
judged_kept plan s t (Negotiated chosen response) shown i = λ n. inr (chosen_isolated t (behind_front t.unread) chosen s.facts.isolation i)
judged_kept plan s t (Asked r) shown i = λ n. inr (asked_isolated t.stage s.facts plan r shown i)
judged_kept plan s t WrongSide shown i = λ n. cc
judged_kept plan s t Refused shown i = λ n. cc

taken_kept : (plan : PostPlan) (s : State) (session : Option Session) (r : Reading) → KeepsIsolation s → IsIsolated session s.facts.isolation → KeepsIsolation (taken_in plan s session r)
taken_kept plan s None r k i = k
taken_kept plan s (Some t) r k i = judged_kept plan s t r.judged r.shown i

wanted_done : (s : State) (p : Payload) (b : Bool) → is_done s.agenda ≡ b → wanted s ≡ Some p → is_done s.agenda ≡ true
wanted_done s p true d h = d
wanted_done s p false d h = absurd (let x = rw d at h in cc)

-- a word is read where one is wanted
pub word_isolated : (s : State) (p : Payload) → wanted s ≡ Some p → HasJudged s → IsIsolated s.session s.facts.isolation
word_isolated s p h j = j (wanted_done s p (is_done s.agenda) refl h)

pub word_kept : (plan : PostPlan) (s : State) (p : Payload) (r : Reading) → wanted s ≡ Some p → KeptFor s → KeepsIsolation (read plan s (Some r))
word_kept plan s p r h k = taken_kept plan s s.session r k.kept (word_isolated s p h k.judged)

read_kept : (c : Codecs) (plan : PostPlan) (S : ℕ → ℕ → Type 0) (s : State) (w : Option Payload) (r : Option Reading) → wanted s ≡ w → IsRead c plan S s w r → KeptFor s → KeepsIsolation (read plan s r)
read_kept c plan S s w None e i k = k.kept
read_kept c plan S s None (Some r) e i k = absurd i
read_kept c plan S s (Some p) (Some r) e i k = word_kept plan s p r e k

-- An act.

either : (P A B : Type 0) → (A → B) → P ⊎ A → P ⊎ B
either P A B f (inl p) = inl p
either P A B f (inr a) = inr (f a)

since_isolated : (o : Order) (now : ℕ) (session : Option Session) (level : Level) → IsIsolated session level → IsIsolated (option_map (since_order now o) session) level
since_isolated o now None level i = tt
since_isolated order.Open now (Some t) level i = i
since_isolated order.Close now (Some t) level i = i
since_isolated (order.Limits voltage current watts) now (Some t) level i = i

confirmed_needs : (here : Phase) → needs_isolation (confirmed_row here) ≡ needs_isolation here
confirmed_needs row.DcClosing = refl
confirmed_needs row.AcClosing = refl
confirmed_needs here = refl

replied_isolated : (now : ℕ) (session : Option Session) (level : Level) → IsIsolated session level → IsIsolated (option_map (replied now) session) level
replied_isolated now None level i = tt
replied_isolated now (Some t) level i = λ n. i (sym (confirmed_needs t.stage.row) ∙ n)

failed_isolated : (ending : Option EndCause) (session : Option Session) (cause : EndCause) (live : Bool) (level : Level) → (failing ending session cause live).ending ≡ None → IsIsolated session level
failed_isolated None session cause live level h = ended_isolated session cause live level h
failed_isolated (Some e) session cause live level h = cc

gave_kept : (o : Order) (taken : Bool) (s : State) → KeepsIsolation s → KeepsIsolation (giving o taken s)
gave_kept o true s k = λ n. either (IsPending s.part s.event s.facts.isolation) (IsIsolated s.session s.facts.isolation) _ (since_isolated o s.clock s.session s.facts.isolation) (k n)
gave_kept o false s k = λ n. inr (failed_isolated s.agenda.ending s.session OrderFailed _ s.facts.isolation n)

said_if : (behind : Option EndCause) (s : State) → KeepsIsolation s → (agenda_said behind s.session s.agenda s.live).ending ≡ None
    → IsPending s.part s.event s.facts.isolation ⊎ IsIsolated (option_map (replied s.clock) s.session) s.facts.isolation
said_if None s k n = either (IsPending s.part s.event s.facts.isolation) (IsIsolated s.session s.facts.isolation) _ (replied_isolated s.clock s.session s.facts.isolation) (k n)
said_if (Some cause) s k n = inr (replied_isolated s.clock s.session s.facts.isolation (ended_isolated s.session cause s.live s.facts.isolation n))

said_kept : (taken : Bool) (s : State) → KeepsIsolation s → KeepsIsolation (saying taken s)
said_kept true s k = said_if s.agenda.behind_reply s k
said_kept false s k = λ n. inr (failed_isolated s.agenda.ending s.session SendFailed s.live s.facts.isolation n)

pub acted_kept : (a : Act) (taken : Bool) (s : State) → KeepsIsolation s → KeepsIsolation (acted a taken s)
acted_kept (Give o) taken s k = gave_kept o taken s k
acted_kept (Send bytes) taken s k = said_kept taken s k
acted_kept (Answer bytes) taken s k = k
acted_kept (End cause) taken s k = λ n. inr tt

-- A run.

pub fresh_kept : KeepsIsolation fresh
fresh_kept = λ n. inr tt

post_kept : (c : Codecs) (plan : PostPlan) (steps : List Step) → IsPostRun c plan steps → KeepsIsolation (state plan steps)
post_kept c plan [] run = fresh_kept
post_kept c plan (Hears at event ∷ steps) run = heard_kept at event (state plan steps) (quiet_isolated plan (state plan steps) run.1 (post_kept c plan steps run.0))
post_kept c plan (Does reading act taken ∷ steps) (run, (limit, before, behind, acts)) =
    let s = state plan steps in
    acted_kept act taken (filled plan reading s)
    (read_kept c plan (Shows limit before behind) (decided plan s) (wanted (decided plan s)) reading refl acts.read (decided_kept plan s (post_kept c plan steps run)))

pub runs_keep : (c : Codecs) → RunsKeepIsolation c
runs_keep c site past posts before post behind run are =
    let all = subst (ArePostsOf c past 1) are (run_posts c site past posts run) in
    post_kept c post.plan post.steps (post_at c past _ 1 before post behind refl all).run

pub runs_read : (c : Codecs) → RunsReadIsolated c
runs_read c site past posts before post behind run are = (decided_kept post.plan (state_of post) (runs_keep c site past posts before post behind run are)).judged
