-- What a car has behind it where it orders its contactor closed: of what is decided, and behind a word.
use Rattle.std.proofs.Common.{◌≡◌, ℕ, Bool, true, false, List, ◌∷◌, Option, Some, None, is_some, Result, Ok, Err, refl, sym, ap, subst, ◌∙◌}
use Rattle.charge_world.specs.declared.heard.PlantEvent.{PlantEvent}
use Rattle.charge_world.specs.declared.offer.Dialect.{Dialect}
use Rattle.session_words.specs.declared.cause.EndCause.{EndCause}
use Rattle.session_words.specs.declared.cause.EndCause.TheVariants.{Gone as ConnectionGone}
use Rattle.session_words.specs.declared.plan.CarPlan.{CarPlan}
use Rattle.session_words.specs.declared.word.Reply.{Reply}
use Rattle.v2gtp_frames.specs.declared.FrameFault.{FrameFault}
use Rattle.v2gtp_frames.specs.Reading.{whole_at}
use Rattle.car_rules.specs.declared.searching.Search.{Search}
use Rattle.car_rules.specs.declared.stage.CarStage.{CarStage}
use Rattle.car_rules.specs.Deadlines.{hit}
use Rattle.car_rules.specs.Moves.{is_again, order_of, stops, stage_behind}
use Rattle.car_rules.specs.Replies.{plant_cause, reply_cause}
use Rattle.car_rules.specs.Requests.{request_of}
use Rattle.car_rules.specs.Searching.{is_searching}
use Rattle.post_spec.specs.Steps.{Event, Came, Bytes, Gone, Datagram, Plant, Clock, Over}
use Rattle.station_spec.specs.Deciding.{opening_if}
use Rattle.car_spec.specs.Answered.{Exchange, answered_by, exchanges}
use Rattle.car_spec.specs.Asked.{Sent, last_request, awaited}
use Rattle.car_spec.specs.Codecs.{Judged, Chosen, Told, WrongSide, Refused}
use Rattle.car_spec.specs.Steps.{Step, Reads}
use Rattle.car_spec.specs.States.{Session, State}
use Rattle.car_spec.specs.Due.{all_deadlines, is_due}
use Rattle.car_spec.specs.Deciding.{ending_if, ending_in, greeting, calling, charging, eventing, fronting_by, fronting, repeating, decided}
use Rattle.car_spec.specs.Judging.{chosen, moved, replied, replied_by, judged}
use Rattle.car_laws.proofs.Decided.{decided_by}
use Rattle.car_laws.proofs.Kept.{StageReads, SessionReads}
use Rattle.car_laws.proofs.Phases.{PhaseHas, OrderHas, exchanged, more, accepted, leads_has}
use Rattle.car_laws.proofs.Orders.{order_has}

abbrev pub StageHas : CarPlan → List Exchange → Option CarStage → Type 0
StageHas plan xs None = Unit {0}
StageHas plan xs (Some stage) = PhaseHas plan xs stage.phase

abbrev pub SessionHas : CarPlan → List Exchange → Option Session → Type 0
SessionHas plan xs None = Unit {0}
SessionHas plan xs (Some session) = StageHas plan xs session.stage

pub record Mandates (plan : CarPlan) (xs : List Exchange) (s : State) : Type 0 where
  pub session : SessionHas plan xs s.session
  pub ordered : OrderHas plan xs s.agenda.order

-- what is decided without a word orders nothing closed
pub open_if : (plan : CarPlan) (xs : List Exchange) (live : Bool) → OrderHas plan xs (opening_if live)
open_if plan xs true = tt
open_if plan xs false = tt

by_cause : (plan : CarPlan) (xs : List Exchange) (o : Option EndCause) (live : Bool) → OrderHas plan xs (ending_if o live).order
by_cause plan xs None live = tt
by_cause plan xs (Some cause) live = open_if plan xs live

in_session : (plan : CarPlan) (xs : List Exchange) (o : Option Session) (cause : EndCause) (live : Bool) → OrderHas plan xs (ending_in o cause live).order
in_session plan xs None cause live = tt
in_session plan xs (Some session) cause live = open_if plan xs live

by_greeting : (plan : CarPlan) (xs : List Exchange) (stood live : Bool) → OrderHas plan xs (greeting stood live).order
by_greeting plan xs true live = open_if plan xs live
by_greeting plan xs false live = tt

by_call : (plan : CarPlan) (xs : List Exchange) (search : Search) (datagram : List ℕ) (b : Bool) → is_searching plan search ≡ b → OrderHas plan xs (calling plan search datagram).order
by_call plan xs search datagram true e = rw e tt
by_call plan xs search datagram false e = rw e tt

by_plant : (plan : CarPlan) (xs : List Exchange) (o : Option Session) (event : PlantEvent) (live : Bool) → OrderHas plan xs (charging o event live).order
by_plant plan xs None event live = tt
by_plant plan xs (Some session) event live = by_cause plan xs (plant_cause event) live

by_event : (plan : CarPlan) (xs : List Exchange) (e : Event) (s : State) → OrderHas plan xs (eventing plan e s).order
by_event plan xs (Came token) s = by_greeting plan xs s.stood s.live
by_event plan xs (Bytes bytes) s = tt
by_event plan xs Gone s = in_session plan xs s.session ConnectionGone s.live
by_event plan xs (Datagram bytes) s = by_call plan xs s.search bytes _ refl
by_event plan xs (Plant event) s = by_plant plan xs s.session event s.live
by_event plan xs Clock s = tt
by_event plan xs Over s = open_if plan xs s.live

by_front : (plan : CarPlan) (xs : List Exchange) (r : Result (Option ℕ) FrameFault) (live : Bool) → OrderHas plan xs (fronting_by r live).order
by_front plan xs (Err fault) live = open_if plan xs live
by_front plan xs (Ok count) live = tt

by_fronting : (plan : CarPlan) (xs : List Exchange) (o : Option Session) (live : Bool) → OrderHas plan xs (fronting o live).order
by_fronting plan xs None live = tt
by_fronting plan xs (Some session) live = by_front plan xs (whole_at session.unread) live

by_repeat : (plan : CarPlan) (xs : List Exchange) (session : Session) (now : ℕ) (b : Bool) → is_due session.again now ≡ b → OrderHas plan xs (repeating plan (Some session) now).order
by_repeat plan xs session now true e = rw e tt
by_repeat plan xs session now false e = rw e tt

by_repeating : (plan : CarPlan) (xs : List Exchange) (o : Option Session) (now : ℕ) → OrderHas plan xs (repeating plan o now).order
by_repeating plan xs None now = tt
by_repeating plan xs (Some session) now = by_repeat plan xs session now _ refl

pub decided_mandates : (plan : CarPlan) (xs : List Exchange) (s : State) → Mandates plan xs s → Mandates plan xs (decided plan s)
decided_mandates plan xs s k = decided_by (Mandates plan xs) plan s
    (λ d. record {
      times = λ early. record { session = k.session; ordered = by_cause plan xs (hit (all_deadlines plan s) s.clock) s.live };
      events = λ early. record { session = k.session; ordered = by_event plan xs s.event s };
      fronts = record { session = k.session; ordered = by_fronting plan xs s.session s.live };
      repeats = record { session = k.session; ordered = by_repeating plan xs s.session s.clock };
      seeks = record { session = k.session; ordered = tt };
    }) k

-- a word. Where the request was asked, its reply is one exchange more
moved_mandates : (plan : CarPlan) (xs : List Exchange) (s : State) (session : Session) (from : CarStage) (r : Reply) (to : CarStage) (b : Bool) → is_again from.phase to.phase ≡ b
    → PhaseHas plan xs to.phase → OrderHas plan xs (order_of plan from.phase r.tell) → Mandates plan xs (moved plan s session from r to)
moved_mandates plan xs s session from r to true e p o = rw e (record { session = p; ordered = tt })
moved_mandates plan xs s session from r to false e p o = rw e (record { session = p; ordered = o })

asked_mandates : (o : Option EndCause) (plan : CarPlan) (xs : List Exchange) (s : State) (session : Session) (stage : CarStage) (r : Reply) → reply_cause plan stage true r ≡ o → session.stage ≡ Some stage
    → PhaseHas plan xs stage.phase → Mandates plan (exchanged plan stage r ∷ xs) (replied_by o plan s session stage r)
asked_mandates (Some cause) plan xs s session stage r e h k =
    record { session = subst (λ (x : Option CarStage). StageHas plan (exchanged plan stage r ∷ xs) x) (sym h) (more plan xs stage r k); ordered = open_if plan (exchanged plan stage r ∷ xs) s.live }
asked_mandates None plan xs s session stage r e h k =
    let a = accepted plan stage r e in
    moved_mandates plan (exchanged plan stage r ∷ xs) s session stage r (stage_behind plan stage r session.stop) _ refl
    (leads_has plan xs stage r (stops plan stage.cycles session.stop r.tell) a k) (order_has plan xs stage r a k)

unasked_mandates : (plan : CarPlan) (xs : List Exchange) (s : State) (session : Session) (stage : CarStage) (r : Reply) → session.stage ≡ Some stage
    → PhaseHas plan xs stage.phase → Mandates plan xs (replied_by (reply_cause plan stage false r) plan s session stage r)
unasked_mandates plan xs s session stage r h k = record { session = subst (λ (x : Option CarStage). StageHas plan xs x) (sym h) k; ordered = open_if plan xs s.live }

unanswered : (o : Option Sent) (r : Reply) (xs : List Exchange) → answered_by o None r xs ≡ xs
unanswered None r xs = refl
unanswered (Some sent) r xs = refl

staged_mandates : (plan : CarPlan) (steps : List Step) (s : State) (session : Session) (stage : CarStage) (sent : Option ℕ) (r : Reply) → session.moments.sent ≡ sent → session.stage ≡ Some stage
    → StageReads plan steps (Some stage) sent → sent ≡ awaited steps → PhaseHas plan (exchanges steps) stage.phase
    → Mandates plan (exchanges (Reads (Told r) ∷ steps)) (replied_by (reply_cause plan stage (is_some sent) r) plan s session stage r)
staged_mandates plan steps s session stage None r e h g a k =
    let same : exchanges (Reads (Told r) ∷ steps) ≡ exchanges steps = ap (λ (x : Option ℕ). answered_by (last_request steps) x r (exchanges steps)) (sym a) ∙ unanswered (last_request steps) r (exchanges steps) in
    subst (λ (xs : List Exchange). Mandates plan xs (replied_by (reply_cause plan stage false r) plan s session stage r)) (sym same) (unasked_mandates plan (exchanges steps) s session stage r h k)
staged_mandates plan steps s session stage (Some at) r e h g a k =
    let last : last_request steps ≡ Some (record { request = request_of plan stage; at = at }) = g.1 at refl in
    let same : exchanges (Reads (Told r) ∷ steps) ≡ exchanged plan stage r ∷ exchanges steps =
    ap (λ (x : Option ℕ). answered_by (last_request steps) x r (exchanges steps)) (sym a) ∙ ap (λ (x : Option Sent). answered_by x (Some at) r (exchanges steps)) last in
    subst (λ (xs : List Exchange). Mandates plan xs (replied_by (reply_cause plan stage true r) plan s session stage r)) (sym same)
    (asked_mandates (reply_cause plan stage true r) plan (exchanges steps) s session stage r refl h k)

told_mandates : (plan : CarPlan) (steps : List Step) (s : State) (session : Session) (o : Option CarStage) (r : Reply) → session.stage ≡ o → SessionReads plan steps session → StageHas plan (exchanges steps) o
    → Mandates plan (exchanges (Reads (Told r) ∷ steps)) (replied plan s session o r)
told_mandates plan steps s session None r h g k = record { session = subst (λ (x : Option CarStage). StageHas plan (exchanges (Reads (Told r) ∷ steps)) x) (sym h) tt; ordered = open_if plan (exchanges (Reads (Told r) ∷ steps)) s.live }
told_mandates plan steps s session (Some stage) r h g k =
    staged_mandates plan steps s session stage session.moments.sent r refl h (subst (λ (x : Option CarStage). StageReads plan steps x session.moments.sent) h g.stage_is) g.sent_is k

chosen_mandates : (plan : CarPlan) (xs : List Exchange) (s : State) (session : Session) (d : Option Dialect) → StageHas plan xs session.stage → Mandates plan xs (chosen plan s session d)
chosen_mandates plan xs s session None k = record { session = k; ordered = open_if plan xs s.live }
chosen_mandates plan xs s session (Some d) k = record { session = tt; ordered = tt }

pub judged_mandates : (plan : CarPlan) (steps : List Step) (s : State) (session : Session) (w : Judged) → SessionReads plan steps session → StageHas plan (exchanges steps) session.stage
    → Mandates plan (exchanges (Reads w ∷ steps)) (judged plan s session w)
judged_mandates plan steps s session (Chosen d) g k = chosen_mandates plan (exchanges steps) s session d k
judged_mandates plan steps s session (Told r) g k = told_mandates plan steps s session session.stage r refl g k
judged_mandates plan steps s session WrongSide g k = record { session = k; ordered = open_if plan (exchanges steps) s.live }
judged_mandates plan steps s session Refused g k = record { session = k; ordered = open_if plan (exchanges steps) s.live }
