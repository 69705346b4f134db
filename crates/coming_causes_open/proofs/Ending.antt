-- Once a session has a cause, Open is ordered next, or nothing is said while the contactor is live.
use Rattle.std.proofs.Common.{◌≡◌, ℕ, Bool, true, false, if◌then◌else◌, ◌&&◌, List, [], ◌∷◌, Option, Some, None, Result, Ok, Err, refl, sym, ap, subst, ◌∙◌, inl, inr, ◌⊎◌}
use Rattle.charge_world.specs.declared.heard.PlantEvent.{PlantEvent}
use Rattle.charge_world.specs.declared.ports.Order.{Order}
use Rattle.charge_world.specs.declared.ports.Order.TheVariants as order
use Rattle.session_words.specs.declared.cause.EndCause.{EndCause}
use Rattle.session_words.specs.declared.phase.Standing.{Standing}
use Rattle.session_words.specs.declared.phase.Standing.TheVariants as standing
use Rattle.session_words.specs.declared.plan.PostPlan.{PostPlan}
use Rattle.v2gtp_frames.specs.declared.FrameFault.{FrameFault}
use Rattle.v2gtp_frames.specs.Reading.{whole_at}
use Rattle.session_rules.specs.Causes.{plant_cause}
use Rattle.session_rules.specs.Orders.{order_of}
use Rattle.session_rules.specs.Stages.{is_waiting}
use Rattle.post_spec.specs.Codecs.{Judged, Negotiated, Asked, WrongSide, Refused, Codecs}
use Rattle.post_spec.specs.Steps.{Event, Came, Bytes, Gone, Datagram, Plant, Clock, Over, Act, Send, Reading, Step, Hears, Does}
use Rattle.station_spec.specs.States.{Spoken, Agenda, Session, State, nothing, first, first_of}
use Rattle.station_spec.specs.States as states
use Rattle.station_spec.specs.Deciding.{opening_if, ending_by, ending_in, repeating, timing, watch, confirms, confirming, charging_by, charging, eventing, fronting_by, fronting, decided, due, is_reached}
use Rattle.station_spec.specs.Judging.{order_by, cause_by, judged, taken_in, read, filled}
use Rattle.station_spec.specs.Acting.{failing, agenda_said, giving, acted, live_ordered, state}
use Rattle.station_spec.specs.Next.{IsDone}
use Rattle.station_laws.specs.PostRuns.{IsPostRun}
use Rattle.station_laws.proofs.Decided.{decided_by}

abbrev pub EndsBy : Agenda → Bool → Type 0
EndsBy a live = (k : EndCause) → a.ending ≡ Some k → (a.order ≡ Some order.Open) ⊎ ((a.order ≡ None) × ((a.reply ≡ None) ⊎ (live ≡ false)))

abbrev pub Ends : State → Type 0
Ends s = EndsBy s.agenda s.live

none_some : (k : EndCause) → None ≡ Some k → ⊥
none_some k h = cc

opening_by : (live : Bool) (o : Option Order) (r : Option Spoken) → o ≡ opening_if live → (o ≡ Some order.Open) ⊎ ((o ≡ None) × ((r ≡ None) ⊎ (live ≡ false)))
opening_by true o r e = inl e
opening_by false o r e = inr (e, inr refl)

ends_by : (cause : EndCause) (live : Bool) → EndsBy (ending_by cause live) live
ends_by cause live = λ k h. opening_by live (opening_if live) None refl

ends_in : (kept : Option Session) (cause : EndCause) (live : Bool) → EndsBy (ending_in kept cause live) live
ends_in None cause live = λ k h. absurd (none_some k h)
ends_in (Some ss) cause live = ends_by cause live

repeats : (st : Standing) (live : Bool) → EndsBy (repeating st) live
repeats standing.MustOpen live = λ k h. absurd (none_some k h)
repeats standing.Opened live = λ k h. absurd (none_some k h)
repeats standing.Closing live = λ k h. absurd (none_some k h)
repeats standing.Closed live = λ k h. absurd (none_some k h)
repeats standing.Opening live = λ k h. absurd (none_some k h)

ends_if : (b : Bool) (x y : Agenda) (live : Bool) → EndsBy x live → EndsBy y live → EndsBy (if b then x else y) live
ends_if true x y live p q = p
ends_if false x y live p q = q

times : (kept : Option Session) (now : ℕ) (live : Bool) → EndsBy (timing kept now live) live
times None now live = λ k h. absurd (none_some k h)
times (Some ss) now live = ends_if (is_reached (due ss) now) _ nothing live (ends_by _ live) (λ k h. absurd (none_some k h))

confirms_by : (plan : PostPlan) (ss : Session) (e : PlantEvent) (s : State) (b : Bool) → (is_waiting ss.stage.row && confirms e) ≡ b → EndsBy (confirming plan ss e s) s.live
confirms_by plan ss e s true h = rw h (λ k x. absurd (none_some k x))
confirms_by plan ss e s false h = rw h (λ k x. absurd (none_some k x))

charges_by : (plan : PostPlan) (ss : Session) (e : PlantEvent) (s : State) (o : Option EndCause) → EndsBy (charging_by o (confirming plan ss e s) s.live) s.live
charges_by plan ss e s (Some cause) = ends_by cause s.live
charges_by plan ss e s None = confirms_by plan ss e s (is_waiting ss.stage.row && confirms e) refl

charges : (plan : PostPlan) (kept : Option Session) (e : PlantEvent) (s : State) → EndsBy (charging plan kept e s) s.live
charges plan None e s = λ k h. absurd (none_some k h)
charges plan (Some ss) e s = charges_by plan ss e s (plant_cause (watch plan ss s) e)

events : (plan : PostPlan) (e : Event) (s : State) → EndsBy (eventing plan e s) s.live
events plan (Came token) s = ends_in s.session _ s.live
events plan (Bytes bytes) s = λ k h. absurd (none_some k h)
events plan Gone s = ends_in s.session _ s.live
events plan (Datagram bytes) s = λ k h. absurd (none_some k h)
events plan (Plant event) s = charges plan s.session event s
events plan Clock s = λ k h. absurd (none_some k h)
events plan Over s = ends_in s.session _ s.live

fronts_by : (w : Result (Option ℕ) FrameFault) (waiting live : Bool) → EndsBy (fronting_by w waiting live) live
fronts_by (Err fault) waiting live = ends_by _ live
fronts_by (Ok None) waiting live = λ k h. absurd (none_some k h)
fronts_by (Ok (Some n)) true live = ends_by _ live
fronts_by (Ok (Some n)) false live = λ k h. absurd (none_some k h)

fronts : (kept : Option Session) (live : Bool) → EndsBy (fronting kept live) live
fronts None live = λ k h. absurd (none_some k h)
fronts (Some ss) live = fronts_by (whole_at ss.unread) (is_waiting ss.stage.row) live

decided_ends : (plan : PostPlan) (s : State) → Ends s → Ends (decided plan s)
decided_ends plan s h = decided_by Ends plan s (λ d. record {
  repeats = repeats s.facts.contactor s.live;
  times = times s.session s.clock s.live;
  events = events plan s.event s;
  fronts = fronts s.session s.live;
}) h

-- a word
asked_ends : (live : Bool) (cause : Option EndCause) (o : Option Order) (r : Option Spoken) (k : EndCause) → cause ≡ Some k → (order_by cause live o ≡ Some order.Open) ⊎ ((order_by cause live o ≡ None) × ((r ≡ None) ⊎ (live ≡ false)))
asked_ends live None o r k e = cc
asked_ends live (Some cause) o r k e = opening_by live (opening_if live) r refl

judged_ends : (plan : PostPlan) (s : State) (ss : Session) (w : Judged) (shown : ℕ) → Ends (judged plan s ss w shown)
judged_ends plan s ss (Negotiated chosen response) shown = λ k h. absurd (none_some k h)
judged_ends plan s ss (Asked r) shown = λ k h. asked_ends s.live (cause_by ss.stage plan s r) (order_of ss.stage s.facts plan r shown) _ k h
judged_ends plan s ss WrongSide shown = λ k h. opening_by s.live (opening_if s.live) None refl
judged_ends plan s ss Refused shown = λ k h. opening_by s.live (opening_if s.live) None refl

taken_ends : (plan : PostPlan) (s : State) (kept : Option Session) (r : Reading) → Ends s → Ends (taken_in plan s kept r)
taken_ends plan s None r h = h
taken_ends plan s (Some ss) r h = judged_ends plan s ss r.judged r.shown

read_ends : (plan : PostPlan) (s : State) (r : Option Reading) → Ends s → Ends (read plan s r)
read_ends plan s None h = h
read_ends plan s (Some r) h = taken_ends plan s s.session r h

pub filled_ends : (plan : PostPlan) (r : Option Reading) (s : State) → Ends s → Ends (filled plan r s)
filled_ends plan r s h = read_ends plan (decided plan s) r (decided_ends plan s h)

-- an act
fails : (e : Option EndCause) (kept : Option Session) (cause : EndCause) (live : Bool) → EndsBy (failing e kept cause live) live
fails None kept cause live = ends_in kept cause live
fails (Some ending) kept cause live = λ k h. inr (refl, inl refl)

pub give_is : (d : Option (List ℕ)) (o : Option Order) (r : Option Spoken) (e : Option EndCause) (x : Order) → first_of d o r e ≡ Some (states.Give x) → o ≡ Some x
give_is (Some d) o r e x h = cc
give_is None (Some o) r e x h = cc
give_is None None (Some r) e x h = cc
give_is None None None (Some e) x h = cc
give_is None None None None x h = cc

pub say_is : (d : Option (List ℕ)) (o : Option Order) (r : Option Spoken) (e : Option EndCause) (x : Spoken) → first_of d o r e ≡ Some (states.Say x) → (r ≡ Some x) × (o ≡ None)
say_is (Some d) o r e x h = cc
say_is None (Some o) r e x h = cc
say_is None None (Some r) e x h = (cc, refl)
say_is None None None (Some e) x h = cc
say_is None None None None x h = cc

gave_ends : (s : State) (o : Order) (taken : Bool) → s.agenda.order ≡ Some o → Ends s → Ends (giving o taken s)
gave_ends s o true g h = λ k e. elim (h k e) [
  | inl x ↦ let y : o ≡ order.Open = (let z : Some o ≡ Some order.Open = sym g ∙ x in cc) in inr (refl, inr (ap (λ (p : Order). live_ordered p true s.live) y))
  | inr x ↦ absurd (let z : Some o ≡ None = sym g ∙ x.0 in cc)
]
gave_ends s o false g h = fails s.agenda.ending s.session _ (live_ordered o false s.live)

said_ends : (b : Option EndCause) (s : State) → s.agenda.order ≡ None → EndsBy (agenda_said b s.session s.agenda s.live) s.live
said_ends None s n = λ k e. inr (n, inl refl)
said_ends (Some cause) s n = ends_in s.session cause s.live

spoke_ends : (s : State) (bytes : List ℕ) (taken : Bool) → s.agenda.order ≡ None → Ends (acted (Send bytes) taken s)
spoke_ends s bytes true n = said_ends s.agenda.behind_reply s n
spoke_ends s bytes false n = fails s.agenda.ending s.session _ s.live

acted_ends : (c : Codecs) (s : State) (todo : states.Todo) (a : Act) (taken : Bool) → first s.agenda ≡ Some todo → IsDone c todo a taken → Ends s → Ends (acted a taken s)
acted_ends c s (states.Tell d) a taken f i h = subst (λ (x : Act). Ends (acted x taken s)) (sym i) h
acted_ends c s (states.Give o) a taken f i h = subst (λ (x : Act). Ends (acted x taken s)) (sym i) (gave_ends s o taken (give_is s.agenda.datagram s.agenda.order s.agenda.reply s.agenda.ending o f) h)
acted_ends c s (states.Say spoken) a taken f i h = subst (λ (x : Act). Ends (acted x taken s)) (sym i.2) (spoke_ends s i.0 taken (say_is s.agenda.datagram s.agenda.order s.agenda.reply s.agenda.ending spoken f).1)
acted_ends c s (states.Finish cause) a taken f i h = subst (λ (x : Act). Ends (acted x taken s)) (sym i.0) (λ k e. absurd (none_some k e))

pub steps_end : (c : Codecs) (plan : PostPlan) (steps : List Step) → IsPostRun c plan steps → Ends (state plan steps)
steps_end c plan [] run = λ k e. absurd (none_some k e)
steps_end c plan (Hears at e ∷ steps) run = λ k h. absurd (none_some k h)
steps_end c plan (Does r a taken ∷ steps) (run, (limit, before, behind, acts)) =
    acted_ends c (filled plan r (state plan steps)) acts.todo a taken acts.acts acts.done (filled_ends plan r (state plan steps) (steps_end c plan steps run))
