-- An order to close stands alone: its reply waits.
use Rattle.std.proofs.Common.{◌≡◌, ℕ, Bool, true, false, if◌then◌else◌, ◌&&◌, List, [], ◌∷◌, Option, Some, None, unwrap_or, is_some, Result, Ok, Err, refl, sym, subst, ◌∙◌}
use Rattle.charge_world.specs.declared.heard.PlantEvent.{PlantEvent}
use Rattle.charge_world.specs.declared.ports.Order.{Order}
use Rattle.charge_world.specs.declared.ports.Order.TheVariants as order
use Rattle.session_words.specs.declared.cause.EndCause.{EndCause}
use Rattle.session_words.specs.declared.code.Progress.TheVariants as progress
use Rattle.session_words.specs.declared.facts.Facts.{Facts}
use Rattle.session_words.specs.declared.phase.Phase.{Phase}
use Rattle.session_words.specs.declared.phase.Phase.TheVariants as row
use Rattle.session_words.specs.declared.phase.Standing.{Standing}
use Rattle.session_words.specs.declared.phase.Standing.TheVariants as standing
use Rattle.session_words.specs.declared.plan.PostPlan.{PostPlan}
use Rattle.session_words.specs.declared.word.Ask.{Ask}
use Rattle.session_words.specs.declared.word.Ask.TheVariants as ask
use Rattle.session_words.specs.declared.word.Request.{Request}
use Rattle.v2gtp_frames.specs.declared.FrameFault.{FrameFault}
use Rattle.v2gtp_frames.specs.Reading.{whole_at}
use Rattle.session_rules.specs.declared.stage.Stage.{Stage}
use Rattle.session_rules.specs.Causes.{plant_cause}
use Rattle.session_rules.specs.Finishing.{is_ac, is_finished}
use Rattle.session_rules.specs.Moves.{stage_behind}
use Rattle.session_rules.specs.Orders.{granted_order, order_of}
use Rattle.session_rules.specs.Rows.{leads}
use Rattle.session_rules.specs.Stages.{is_waiting}
use Rattle.session_rules.specs.Verdict.{verdict, is_accepted}
use Rattle.post_spec.specs.Codecs.{Judged, Negotiated, Asked, WrongSide, Refused, Codecs}
use Rattle.post_spec.specs.Steps.{Event, Came, Bytes, Gone, Datagram, Plant, Clock, Over, Act, Give, Send, Reading, Step, Hears, Does}
use Rattle.station_spec.specs.States.{Agenda, Spoken, Wording, Session, State, nothing, first, first_of}
use Rattle.station_spec.specs.States as states
use Rattle.station_spec.specs.Deciding.{opening_if, ending_in, repeating, timing, watch, confirms, confirming, charging_by, charging, eventing, fronting_by, fronting, decided, due, is_reached}
use Rattle.station_spec.specs.Judging.{order_by, cause_by, judged, taken_in, read, filled}
use Rattle.station_spec.specs.Acting.{failing, agenda_said, acted, state}
use Rattle.station_spec.specs.Next.{IsDone}
use Rattle.station_laws.specs.PostRuns.{IsPostRun}
use Rattle.station_laws.proofs.Decided.{decided_by}
use Rattle.safe_runs.proofs.Asked.{row_takes}
use Rattle.coming_causes_open.proofs.Ending.{say_is}

abbrev NoClose : Agenda → Type 0
NoClose a = a.order ≡ Some order.Close → ⊥

abbrev pub Shutting : State → Type 0
Shutting s = s.agenda.order ≡ Some order.Close → (s.agenda.reply ≡ None) × (s.part ≡ Wording)

opens : (live : Bool) → opening_if live ≡ Some order.Close → ⊥
opens true h = cc
opens false h = cc

none : None ≡ Some order.Close → ⊥
none h = cc

in_close : (kept : Option Session) (cause : EndCause) (live : Bool) → NoClose (ending_in kept cause live)
in_close None cause live = λ h. none h
in_close (Some ss) cause live = λ h. opens live h

repeats : (st : Standing) → NoClose (repeating st)
repeats standing.MustOpen = λ h. absurd (let x : Some order.Open ≡ Some order.Close = h in cc)
repeats standing.Opened = λ h. none h
repeats standing.Closing = λ h. none h
repeats standing.Closed = λ h. none h
repeats standing.Opening = λ h. none h

close_if : (b : Bool) (x y : Agenda) → NoClose x → NoClose y → NoClose (if b then x else y)
close_if true x y p q = p
close_if false x y p q = q

times : (kept : Option Session) (now : ℕ) (live : Bool) → NoClose (timing kept now live)
times None now live = λ h. none h
times (Some ss) now live = close_if (is_reached (due ss) now) _ nothing (λ h. opens live h) (λ h. none h)

confirms_by : (plan : PostPlan) (ss : Session) (e : PlantEvent) (s : State) (b : Bool) → (is_waiting ss.stage.row && confirms e) ≡ b → NoClose (confirming plan ss e s)
confirms_by plan ss e s true h = rw h (λ k. none k)
confirms_by plan ss e s false h = rw h (λ k. none k)

charges_by : (plan : PostPlan) (ss : Session) (e : PlantEvent) (s : State) (o : Option EndCause) → NoClose (charging_by o (confirming plan ss e s) s.live)
charges_by plan ss e s (Some cause) = λ h. opens s.live h
charges_by plan ss e s None = confirms_by plan ss e s (is_waiting ss.stage.row && confirms e) refl

charges : (plan : PostPlan) (kept : Option Session) (e : PlantEvent) (s : State) → NoClose (charging plan kept e s)
charges plan None e s = λ h. none h
charges plan (Some ss) e s = charges_by plan ss e s (plant_cause (watch plan ss s) e)

events : (plan : PostPlan) (e : Event) (s : State) → NoClose (eventing plan e s)
events plan (Came token) s = in_close s.session _ s.live
events plan (Bytes bytes) s = λ h. none h
events plan Gone s = in_close s.session _ s.live
events plan (Datagram bytes) s = λ h. none h
events plan (Plant event) s = charges plan s.session event s
events plan Clock s = λ h. none h
events plan Over s = in_close s.session _ s.live

fronts_by : (w : Result (Option ℕ) FrameFault) (waiting live : Bool) → NoClose (fronting_by w waiting live)
fronts_by (Err fault) waiting live = λ h. opens live h
fronts_by (Ok None) waiting live = λ h. none h
fronts_by (Ok (Some n)) true live = λ h. opens live h
fronts_by (Ok (Some n)) false live = λ h. none h

fronts : (kept : Option Session) (live : Bool) → NoClose (fronting kept live)
fronts None live = λ h. none h
fronts (Some ss) live = fronts_by (whole_at ss.unread) (is_waiting ss.stage.row) live

decided_shutting : (plan : PostPlan) (s : State) → Shutting s → Shutting (decided plan s)
decided_shutting plan s h = decided_by Shutting plan s (λ d. record {
  repeats = λ k. absurd (repeats s.facts.contactor k);
  times = λ k. absurd (times s.session s.clock s.live k);
  events = λ k. absurd (events plan s.event s k);
  fronts = λ k. absurd (fronts s.session s.live k);
}) h

-- a word
row_waits : (plan : PostPlan) (told shown : ℕ) (here : Phase) (a : Ask) (f ac : Bool) → is_some (leads here a true true) ≡ true → granted_order plan told shown a ≡ Some order.Close → is_waiting (unwrap_or (leads here a f ac) here) ≡ true
row_waits plan told shown row.DcPreCharging (ask.PowerDelivery progress.Start tuple profile) f ac t h = refl
row_waits plan told shown row.AcReady (ask.PowerDelivery progress.Start tuple profile) f ac t h = refl
row_waits plan told shown here (ask.PowerDelivery progress.Start tuple profile) f ac t h = absurd (cc)
row_waits plan told shown here (ask.PowerDelivery progress.Stop tuple profile) f ac t h = absurd (cc)
row_waits plan told shown here (ask.PowerDelivery progress.Renegotiate tuple profile) f ac t h = absurd (cc)
row_waits plan told shown here (ask.PreCharge ready soc voltage current) f ac t h = absurd (cc)
row_waits plan told shown here (ask.CurrentDemand ready soc voltage current) f ac t h = absurd (cc)
row_waits plan told shown here ask.ChargingStatus f ac t h = absurd (cc)
row_waits plan told shown here a f ac t h = absurd (cc)

stage_waits : (s : Stage) (facts : Facts) (plan : PostPlan) (r : Request) (shown : ℕ) (b : Bool) → is_accepted (verdict s facts plan r) ≡ b → order_of s facts plan r shown ≡ Some order.Close → is_waiting (stage_behind s facts plan r shown).row ≡ true
stage_waits s facts plan r shown true e h = rw e (row_waits plan s.told shown s.row r.ask (is_finished facts plan r.ask shown) (is_ac plan.mode) (row_takes s facts plan r e) (let x = rw e at h in x))
stage_waits s facts plan r shown false e h = absurd (let x = rw e at h in none x)

close_order : (cause : Option EndCause) (live : Bool) (o : Option Order) → order_by cause live o ≡ Some order.Close → o ≡ Some order.Close
close_order None live o h = h
close_order (Some k) live o h = absurd (opens live h)

unsaid_if : (b : Bool) (x : Option Spoken) → b ≡ true → (if b then None else x) ≡ None
unsaid_if true x e = refl
unsaid_if false x e = cc

judged_shutting : (plan : PostPlan) (s : State) (ss : Session) (w : Judged) (shown : ℕ) → Shutting (judged plan s ss w shown)
judged_shutting plan s ss (Negotiated chosen response) shown = λ h. absurd (none h)
judged_shutting plan s ss (Asked r) shown = λ h.
    let o = close_order (cause_by ss.stage plan s r) s.live (order_of ss.stage s.facts plan r shown) h in
    (unsaid_if (is_waiting (stage_behind ss.stage s.facts plan r shown).row) _ (stage_waits ss.stage s.facts plan r shown (is_accepted (verdict ss.stage s.facts plan r)) refl o), refl)
judged_shutting plan s ss WrongSide shown = λ h. absurd (opens s.live h)
judged_shutting plan s ss Refused shown = λ h. absurd (opens s.live h)

taken_shutting : (plan : PostPlan) (s : State) (kept : Option Session) (r : Reading) → Shutting s → Shutting (taken_in plan s kept r)
taken_shutting plan s None r h = h
taken_shutting plan s (Some ss) r h = judged_shutting plan s ss r.judged r.shown

read_shutting : (plan : PostPlan) (s : State) (r : Option Reading) → Shutting s → Shutting (read plan s r)
read_shutting plan s None h = h
read_shutting plan s (Some r) h = taken_shutting plan s s.session r h

pub filled_shutting : (plan : PostPlan) (r : Option Reading) (s : State) → Shutting s → Shutting (filled plan r s)
filled_shutting plan r s h = read_shutting plan (decided plan s) r (decided_shutting plan s h)

-- an act
fails : (e : Option EndCause) (kept : Option Session) (cause : EndCause) (live : Bool) → NoClose (failing e kept cause live)
fails None kept cause live = in_close kept cause live
fails (Some k) kept cause live = λ h. none h

said_shutting : (b : Option EndCause) (kept : Option Session) (a : Agenda) (live : Bool) → a.order ≡ None → NoClose (agenda_said b kept a live)
said_shutting None kept a live n = λ h. none (sym n ∙ h)
said_shutting (Some k) kept a live n = in_close kept k live

gave_shutting : (s : State) (o : Order) (taken : Bool) → Shutting (acted (Give o) taken s)
gave_shutting s o true = λ h. absurd (none h)
gave_shutting s o false = λ h. absurd (fails s.agenda.ending s.session _ _ h)

spoke_shutting : (s : State) (bytes : List ℕ) (taken : Bool) → s.agenda.order ≡ None → Shutting (acted (Send bytes) taken s)
spoke_shutting s bytes true n = λ h. absurd (said_shutting s.agenda.behind_reply s.session s.agenda s.live n h)
spoke_shutting s bytes false n = λ h. absurd (fails s.agenda.ending s.session _ _ h)

acted_shutting : (c : Codecs) (s : State) (todo : states.Todo) (a : Act) (taken : Bool) → first s.agenda ≡ Some todo → IsDone c todo a taken → Shutting s → Shutting (acted a taken s)
acted_shutting c s (states.Tell d) a taken f i h = subst (λ (x : Act). Shutting (acted x taken s)) (sym i) h
acted_shutting c s (states.Give o) a taken f i h = subst (λ (x : Act). Shutting (acted x taken s)) (sym i) (gave_shutting s o taken)
acted_shutting c s (states.Say spoken) a taken f i h = subst (λ (x : Act). Shutting (acted x taken s)) (sym i.2) (spoke_shutting s i.0 taken (say_is s.agenda.datagram s.agenda.order s.agenda.reply s.agenda.ending spoken f).1)
acted_shutting c s (states.Finish cause) a taken f i h = subst (λ (x : Act). Shutting (acted x taken s)) (sym i.0) (λ k. absurd (none k))

pub steps_shutting : (c : Codecs) (plan : PostPlan) (steps : List Step) → IsPostRun c plan steps → Shutting (state plan steps)
steps_shutting c plan [] run = λ h. absurd (none h)
steps_shutting c plan (Hears at e ∷ steps) run = λ h. absurd (none h)
steps_shutting c plan (Does r a taken ∷ steps) (run, (limit, before, behind, acts)) =
    acted_shutting c (filled plan r (state plan steps)) acts.todo a taken acts.acts acts.done (filled_shutting plan r (state plan steps) (steps_shutting c plan steps run))
