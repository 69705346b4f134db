-- In a session that conforms no order is owed to a contactor while a reply waits: the Close that stands was taken.
use Rattle.std.proofs.Common.{◌≡◌, ℕ, Bool, true, false, cond, List, [], ◌∷◌, map, Option, Some, None, refl, sym, ap, subst, ◌∙◌}
use Rattle.charge_world.specs.declared.ports.Order.TheVariants as order
use Rattle.session_words.specs.declared.phase.Standing.TheVariants as stood
use Rattle.session_words.specs.declared.plan.PostPlan.{PostPlan}
use Rattle.contactor.specs.Standing as contactor
use Rattle.contactor.specs.Standing.{Kind, last_order, feedback_since, opened_by, confirms, standing_by}
use Rattle.post_spec.specs.Facts.{told_by}
use Rattle.post_spec.specs.Contactors.{feedback_in, with_feedback, contactor_acts, standing}
use Rattle.post_spec.specs.Sessions.{arriving, session_behind, session, next_session, waits}
use Rattle.post_spec.specs.Steps.{Event, Came, Bytes, Gone, Datagram, Plant, Clock, Over, Act, Give, Send, Answer, End, Seen, Heard, Did, Reading, Step, Hears, Does, seen_of}
use Rattle.post_spec.specs.Talk.{Unless}
use Rattle.conforming_runs.specs.Conforming.{OneMore, Conforming}
use Rattle.served_sessions.proofs.Doing.{lives_before}

-- behind the block of its connection
pub record Conforms (plan : PostPlan) (steps : List Step) : Type 0 where
  pub began : arriving (map seen_of steps) ≡ None
  pub all : Conforming plan steps

pub otherwise : (o : Option Seen) (A B : Type 0) → o ≡ None → Unless o A B → A
otherwise None A B e u = u
otherwise (Some came) A B e u = cc

pub unless : (o : Option Seen) (A : Type 0) → (o ≡ None → A) → Unless o A (Unit {0})
unless None A f = f refl
unless (Some came) A f = tt

pub more : (plan : PostPlan) (step : Step) (before : List Step) → Conforms plan (step ∷ before) → OneMore plan step before (Conforming plan before)
more plan step before h = otherwise (arriving (map seen_of (step ∷ before))) (OneMore plan step before (Conforming plan before)) (Unit {0}) h.began h.all

-- an act stands in the block of the hearing before it
pub behind_act : (plan : PostPlan) (reading : Option Reading) (act : Act) (taken : Bool) (steps : List Step) → Conforms plan (Does reading act taken ∷ steps) → Conforms plan steps
behind_act plan reading act taken steps h = record { began = h.began; all = (more plan (Does reading act taken) steps h).earlier }

same_last : (o : Option Bool) (acts : List contactor.Act) → last_order (with_feedback o acts) ≡ last_order acts
same_last None acts = refl
same_last (Some closed) acts = refl

abbrev pub WasTaken : List Seen → Type 0
WasTaken past = (kind : Kind) × (last_order (contactor_acts past) ≡ Some (kind, true))

heard_taken : (at : ℕ) (e : Event) (past : List Seen) → WasTaken past → WasTaken (Heard at e ∷ past)
heard_taken at e past h = (h.0, same_last (told_by feedback_in e) (contactor_acts past) ∙ h.1)

taken_as : (kind : Kind) (taken : Bool) → taken ≡ true → ◌≡◌ {A = Option (Kind × Bool)} (Some (kind, taken)) (Some (kind, true))
taken_as kind taken h = ap (λ (b : Bool). Some (kind, b)) h

came_still : (past : List Seen) (came : Seen) → arriving past ≡ Some came → waits (came ∷ []) ≡ false
came_still [] came a = cc
came_still (Heard at (Came token) ∷ past) came a = let x : Heard at (Came token) ≡ came = cc in subst (λ (y : Seen). waits (y ∷ []) ≡ false) x refl
came_still (Heard at (Bytes bytes) ∷ past) came a = cc
came_still (Heard at Gone ∷ past) came a = cc
came_still (Heard at (Datagram bytes) ∷ past) came a = cc
came_still (Heard at (Plant event) ∷ past) came a = cc
came_still (Heard at Clock ∷ past) came a = cc
came_still (Heard at Over ∷ past) came a = cc
came_still (Did act taken ∷ past) came a = came_still past came a

not_waiting : (past es : List Seen) (came : Seen) → arriving past ≡ Some came → Some (came ∷ []) ≡ Some es → waits es ≡ true → ⊥
not_waiting past es came a k w = let y : came ∷ [] ≡ es = cc in let z : false ≡ true = sym (came_still past came a) ∙ ap waits y ∙ w in cc

waiting_in : (plan : PostPlan) (steps : List Step) (came : Option Seen) (es : List Seen) → arriving (map seen_of steps) ≡ came → Conforming plan steps → session_behind came (session (map seen_of steps)) ≡ Some es → waits es ≡ true → WasTaken (map seen_of steps)
waiting_in plan steps (Some came) es a conf n w = absurd (not_waiting (map seen_of steps) es came a n w)
waiting_in plan [] None es a conf n w = cc
waiting_in plan (Hears at e ∷ steps) None es a conf n w =
    let past = map seen_of steps in
    let b = lives_before (Heard at e) (next_session past) es n in
    let v : waits b.0 ≡ true = subst (λ (us : List Seen). waits us ≡ true) b.2 w in
    heard_taken at e past (waiting_in plan steps (arriving past) b.0 refl (more plan (Hears at e) steps (record { began = a; all = conf })).earlier b.1 v)
waiting_in plan (Does reading (Give order.Close) taken ∷ steps) None es a conf n w =
    (contactor.Close, taken_as contactor.Close taken (more plan (Does reading (Give order.Close) taken) steps (record { began = a; all = conf })).goes_on.0)
waiting_in plan (Does reading (Give order.Open) taken ∷ steps) None es a conf n w =
    (contactor.Open, taken_as contactor.Open taken (more plan (Does reading (Give order.Open) taken) steps (record { began = a; all = conf })).goes_on.0)
waiting_in plan (Does reading (Give (order.Limits voltage current watts)) taken ∷ steps) None es a conf n w =
    let past = map seen_of steps in
    let b = lives_before (Did (Give (order.Limits voltage current watts)) taken) (session past) es n in
    let v : waits b.0 ≡ true = subst (λ (us : List Seen). waits us ≡ true) b.2 w in
    waiting_in plan steps None b.0 a (more plan (Does reading (Give (order.Limits voltage current watts)) taken) steps (record { began = a; all = conf })).earlier b.1 v
waiting_in plan (Does reading (Send bytes) taken ∷ steps) None es a conf n w =
    let past = map seen_of steps in
    let b = lives_before (Did (Send bytes) taken) (session past) es n in
    let v : false ≡ true = subst (λ (us : List Seen). waits us ≡ true) b.2 w in
    cc
waiting_in plan (Does reading (Answer bytes) taken ∷ steps) None es a conf n w =
    let past = map seen_of steps in
    let b = lives_before (Did (Answer bytes) taken) (session past) es n in
    let v : waits b.0 ≡ true = subst (λ (us : List Seen). waits us ≡ true) b.2 w in
    waiting_in plan steps None b.0 a (more plan (Does reading (Answer bytes) taken) steps (record { began = a; all = conf })).earlier b.1 v
waiting_in plan (Does reading (End cause) taken ∷ steps) None es a conf n w = cc

opens_closed : (b : Bool) → cond b stood.Closed stood.Closing ≡ stood.MustOpen → ⊥
opens_closed true h = cc
opens_closed false h = cc

opens_opened : (heard : List Bool) → opened_by heard ≡ stood.MustOpen → ⊥
opens_opened [] h = cc
opens_opened (false ∷ earlier) h = cc
opens_opened (true ∷ earlier) h = cc

not_failed : (k kind : Kind) → ◌≡◌ {A = Option (Kind × Bool)} (Some (k, false)) (Some (kind, true)) → ⊥
not_failed k kind e =
    let p : ◌≡◌ {A = Kind × Bool} (k, false) (kind, true) = cc in
    let q : false ≡ true = ap (λ (x : Kind × Bool). x.1) p in
    cc

stands_by : (o : Option (Kind × Bool)) (heard : List Bool) (kind : Kind) → o ≡ Some (kind, true) → standing_by o heard ≡ stood.MustOpen → ⊥
stands_by None heard kind e h = cc
stands_by (Some (contactor.Close, true)) heard kind e h = opens_closed (confirms heard) h
stands_by (Some (contactor.Open, true)) heard kind e h = opens_opened heard h
stands_by (Some (contactor.Close, false)) heard kind e h = not_failed contactor.Close kind e
stands_by (Some (contactor.Open, false)) heard kind e h = not_failed contactor.Open kind e

-- what is owed is owed whatever is heard
failed_by : (o : Option (Kind × Bool)) (heard : List Bool) → standing_by o heard ≡ stood.MustOpen → (kind : Kind) × (o ≡ Some (kind, false))
failed_by None [] h = cc
failed_by None (false ∷ earlier) h = cc
failed_by None (true ∷ earlier) h = cc
failed_by (Some (contactor.Close, true)) heard h = absurd (opens_closed (confirms heard) h)
failed_by (Some (contactor.Open, true)) heard h = absurd (opens_opened heard h)
failed_by (Some (contactor.Close, false)) heard h = (contactor.Close, refl)
failed_by (Some (contactor.Open, false)) heard h = (contactor.Open, refl)

owed_by : (kind : Kind) (heard : List Bool) → standing_by (Some (kind, false)) heard ≡ stood.MustOpen
owed_by contactor.Close heard = refl
owed_by contactor.Open heard = refl

owed_as : (o p : Option (Kind × Bool)) (heard later : List Bool) → p ≡ o → standing_by o heard ≡ stood.MustOpen → standing_by p later ≡ stood.MustOpen
owed_as o p heard later e h =
    let k = failed_by o heard h in
    subst (λ (x : Option (Kind × Bool)). standing_by x later ≡ stood.MustOpen) (sym (e ∙ k.1)) (owed_by k.0 later)

pub owed_on : (at : ℕ) (e : Event) (past : List Seen) → standing past ≡ stood.MustOpen → standing (Heard at e ∷ past) ≡ stood.MustOpen
owed_on at e past h =
    owed_as (last_order (contactor_acts past)) (last_order (contactor_acts (Heard at e ∷ past))) (feedback_since (contactor_acts past)) (feedback_since (contactor_acts (Heard at e ∷ past)))
    (same_last (told_by feedback_in e) (contactor_acts past)) h

pub owed_before : (at : ℕ) (e : Event) (past : List Seen) → standing (Heard at e ∷ past) ≡ stood.MustOpen → standing past ≡ stood.MustOpen
owed_before at e past h =
    owed_as (last_order (contactor_acts (Heard at e ∷ past))) (last_order (contactor_acts past)) (feedback_since (contactor_acts (Heard at e ∷ past))) (feedback_since (contactor_acts past))
    (sym (same_last (told_by feedback_in e) (contactor_acts past))) h

-- while a reply waits for the hearing that comes, no order is owed
pub obeys : (plan : PostPlan) (steps : List Step) (at : ℕ) (e : Event) (es : List Seen) → Conforming plan steps → next_session (map seen_of steps) ≡ Some es → waits es ≡ true → standing (Heard at e ∷ map seen_of steps) ≡ stood.MustOpen → ⊥
obeys plan steps at e es conf n w h =
    let past = Heard at e ∷ map seen_of steps in
    let t = heard_taken at e (map seen_of steps) (waiting_in plan steps (arriving (map seen_of steps)) es refl conf n w) in
    stands_by (last_order (contactor_acts past)) (feedback_since (contactor_acts past)) t.0 t.1 h
