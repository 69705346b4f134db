-- In every run a car orders its contactor closed only behind the words that mandate it.
use Rattle.std.proofs.Common.{◌≡◌, ℕ, Bool, true, false, if◌then◌else◌, List, [], ◌∷◌, Option, Some, None, refl, sym, ap, subst, ◌∙◌}
use Rattle.std.specs.Option.{option_map}
use Rattle.charge_world.specs.declared.entry.Entry.{Entry}
use Rattle.charge_world.specs.declared.ports.Order.{Order}
use Rattle.charge_world.specs.declared.ports.Order.TheVariants as order
use Rattle.session_words.specs.declared.cause.EndCause.{EndCause}
use Rattle.session_words.specs.declared.cause.EndCause.TheVariants.{OrderFailed, SendFailed}
use Rattle.session_words.specs.declared.plan.CarPlan.{CarPlan}
use Rattle.post_spec.specs.Steps.{Event, Came, Bytes, Gone, Datagram, Plant, Clock, Over}
use Rattle.station_spec.specs.Acting.{live_ordered}
use Rattle.car_spec.specs.Answered.{Exchange, exchanges, may_close}
use Rattle.car_spec.specs.Codecs.{Judged, Codecs}
use Rattle.car_spec.specs.Steps.{Spoken, Act, Seek, Dial, Give, Say, End, Step, Hears, Loses, Reads, Does}
use Rattle.car_spec.specs.States.{Agenda, Session, State, first_of, first, is_done}
use Rattle.car_spec.specs.States as states
use Rattle.car_spec.specs.Deciding.{decided}
use Rattle.car_spec.specs.Judging.{payload_in, wanted, judged_in, read, IsRead}
use Rattle.car_spec.specs.Hearing.{session_heard}
use Rattle.car_spec.specs.Acting.{failing, awaiting, acted, state}
use Rattle.car_spec.specs.Next.{IsDone, IsSaid, MayAct}
use Rattle.car_spec.specs.Runs.{IsRun}
use Rattle.car_laws.proofs.Kept.{Reads_by, Keeps, decided_keeps}
use Rattle.car_laws.proofs.KeptActs.{run_keeps}
use Rattle.car_laws.proofs.Phases.{OrderHas}
use Rattle.car_laws.proofs.Mandates.{SessionHas, Mandates, open_if, decided_mandates, judged_mandates}

-- a word is read of a session alone
in_mandates : (plan : CarPlan) (steps : List Step) (s : State) (o : Option Session) (w : Judged) → s.session ≡ o → Keeps plan steps s → Mandates plan (exchanges steps) s → (o ≡ None → ⊥)
    → Mandates plan (exchanges (Reads w ∷ steps)) (judged_in plan s o w)
in_mandates plan steps s None w e g k n = absurd (n refl)
in_mandates plan steps s (Some session) w e g k n =
    judged_mandates plan steps s session w (subst (λ (x : Option Session). Reads_by plan steps s.over x) e g.reads) (subst (λ (x : Option Session). SessionHas plan (exchanges steps) x) e k.session)

nothing_wanted : (c : Codecs) (plan : CarPlan) (o : Option Session) (w : Judged) (b : Bool) → IsRead c plan (if b then payload_in o else None) w → o ≡ None → ⊥
nothing_wanted c plan o w false j e = j
nothing_wanted c plan o w true j e = subst (λ (x : Option Session). IsRead c plan (payload_in x) w) e j

read_mandates : (c : Codecs) (plan : CarPlan) (steps : List Step) (s : State) (w : Judged) → IsRead c plan (wanted s) w → Keeps plan steps s → Mandates plan (exchanges steps) s
    → Mandates plan (exchanges (Reads w ∷ steps)) (read plan s w)
read_mandates c plan steps s w j g k = in_mandates plan steps s s.session w refl g k (nothing_wanted c plan s.session w (is_done s.agenda) j)

-- an act
failing_orders : (plan : CarPlan) (xs : List Exchange) (e : Option EndCause) (cause : EndCause) (live : Bool) → OrderHas plan xs (failing e cause live).order
failing_orders plan xs None cause live = open_if plan xs live
failing_orders plan xs (Some ending) cause live = tt

awaiting_has : (plan : CarPlan) (xs : List Exchange) (o : Option Session) (at : ℕ) → SessionHas plan xs o → SessionHas plan xs (option_map (awaiting at) o)
awaiting_has plan xs None at k = tt
awaiting_has plan xs (Some session) at k = k

acted_mandates : (plan : CarPlan) (xs : List Exchange) (a : Act) (taken : Bool) (s : State) → Mandates plan xs s → Mandates plan xs (acted a taken s)
acted_mandates plan xs (Seek d) taken s k = record { session = k.session; ordered = k.ordered }
acted_mandates plan xs (Dial port) true s k = record { session = k.session; ordered = k.ordered }
acted_mandates plan xs (Dial port) false s k = record { session = k.session; ordered = failing_orders plan xs s.agenda.ending SendFailed s.live }
acted_mandates plan xs (Give o) true s k = record { session = k.session; ordered = tt }
acted_mandates plan xs (Give o) false s k = record { session = k.session; ordered = failing_orders plan xs s.agenda.ending OrderFailed (live_ordered o false s.live) }
acted_mandates plan xs (Say said bytes) true s k = record { session = awaiting_has plan xs s.session s.clock k.session; ordered = k.ordered }
acted_mandates plan xs (Say said bytes) false s k = record { session = k.session; ordered = failing_orders plan xs s.agenda.ending SendFailed s.live }
acted_mandates plan xs (End cause) taken s k = record { session = tt; ordered = tt }

-- a hearing
heard_has : (plan : CarPlan) (xs : List Exchange) (e : Event) (at : ℕ) (o : Option Session) → SessionHas plan xs o → SessionHas plan xs (session_heard e at o)
heard_has plan xs (Came token) at None k = tt
heard_has plan xs (Bytes bytes) at None k = tt
heard_has plan xs Gone at None k = tt
heard_has plan xs (Datagram bytes) at None k = tt
heard_has plan xs (Plant event) at None k = tt
heard_has plan xs Clock at None k = tt
heard_has plan xs Over at None k = tt
heard_has plan xs e at (Some session) k = k

run_mandates : (c : Codecs) (plan : CarPlan) (past : List Entry) (steps : List Step) → IsRun c plan past steps → Mandates plan (exchanges steps) (state plan steps)
run_mandates c plan past [] r = record { session = tt; ordered = tt }
run_mandates c plan past (Hears at e ∷ steps) r =
    let k = run_mandates c plan r.0 steps r.1 in let s : State = state plan steps in
    record { session = heard_has plan (exchanges steps) e at s.session k.session; ordered = tt }
run_mandates c plan past (Loses ∷ steps) r = let k = run_mandates c plan r.0 steps r.1 in record { session = k.session; ordered = k.ordered }
run_mandates c plan past (Reads w ∷ steps) r =
    read_mandates c plan steps (decided plan (state plan steps)) w r.1 (decided_keeps plan steps (state plan steps) (run_keeps c plan past steps r.0))
    (decided_mandates plan (exchanges steps) (state plan steps) (run_mandates c plan past steps r.0))
run_mandates c plan past (Does a taken ∷ steps) r =
    acted_mandates plan (exchanges steps) a taken (decided plan (state plan steps)) (decided_mandates plan (exchanges steps) (state plan steps) (run_mandates c plan r.0 steps r.1))

-- an order that is given is the one that is to be given
gives_first : (p : Option ℕ) (o : Option Order) (sp : Option Spoken) (e : Option EndCause) (seeks : Bool) (given : Order) → first_of p o sp e seeks ≡ Some (states.Drive given) → o ≡ Some given
gives_first (Some port) o sp e seeks given h = cc
gives_first None (Some other) sp e seeks given h = cc
gives_first None None (Some said) e seeks given h = cc
gives_first None None None (Some cause) seeks given h = cc
gives_first None None None None true given h = cc
gives_first None None None None false given h = cc

close_is : (c : Codecs) (plan : CarPlan) (todo : states.Todo) (taken : Bool) → IsDone c plan todo (Give order.Close) taken → todo ≡ states.Drive order.Close
close_is c plan (states.Call port) taken d = cc
close_is c plan (states.Drive o) taken d = let x : order.Close ≡ o = cc in ap states.Drive (sym x)
close_is c plan (states.Speak said) taken d = let i : IsSaid c plan said (Give order.Close) = d in let x : Give order.Close ≡ Say said _ = i.act_is in cc
close_is c plan (states.Finish why) taken d = let x : Give order.Close ≡ End _ = d.0 in cc
close_is c plan states.Inquire taken d = cc

pub closes_by_words : (c : Codecs) (plan : CarPlan) (past : List Entry) (steps : List Step) (taken : Bool) → IsRun c plan past (Does (Give order.Close) taken ∷ steps) → may_close plan (exchanges steps) ≡ true
closes_by_words c plan past steps taken r =
    let m : MayAct c plan (state plan steps) (Give order.Close) taken = r.2 in
    let s : State = decided plan (state plan steps) in
    let k : Mandates plan (exchanges steps) s = decided_mandates plan (exchanges steps) (state plan steps) (run_mandates c plan r.0 steps r.1) in
    let f : first s.agenda ≡ Some (states.Drive order.Close) = m.acts ∙ ap Some (close_is c plan m.todo taken m.done) in
    let o : s.agenda.order ≡ Some order.Close = gives_first s.agenda.port s.agenda.order s.agenda.spoken s.agenda.ending s.agenda.seeks order.Close f in
    subst (λ (x : Option Order). OrderHas plan (exchanges steps) x) o k.ordered
