-- What applies is a cause, place by place.
use Rattle.std.proofs.Common.{◌≡◌, ◌≤◌, ◌<◌, ℕ, ◌+◌, Bool, true, false, not, if◌then◌else◌, ◌&&◌, nat_le, nat_lt, cond, List, [], ◌∷◌, length, map, Option, Some, None, is_some, refl, sym, ap, subst, ◌∙◌, inl, inr, arith}
use Rattle.std.proofs.lemmas.Bool.Decides.{nat_tests}
use Rattle.charge_world.specs.declared.heard.PlantEvent.{PlantEvent}
use Rattle.charge_world.specs.declared.ports.Order.{Order}
use Rattle.charge_world.specs.declared.ports.Order.TheVariants as order
use Rattle.session_words.specs.declared.cause.EndCause.{EndCause}
use Rattle.session_words.specs.declared.cause.EndCause.TheVariants.{Gone as ConnectionGone, RunOver, SendFailed, OrderFailed}
use Rattle.session_words.specs.declared.facts.Facts.{Facts}
use Rattle.session_words.specs.declared.phase.Standing.{Standing}
use Rattle.session_words.specs.declared.phase.Standing.TheVariants as standing
use Rattle.session_words.specs.declared.plan.PostPlan.{PostPlan}
use Rattle.session_words.specs.Causes.{cause_of}
use Rattle.session_timers.specs.Due.{never}
use Rattle.session_rules.specs.Causes.{plant_cause}
use Rattle.session_rules.specs.Reply.{waiting_reply}
use Rattle.session_rules.specs.Stages.{is_set_up, is_waiting}
use Rattle.session_rules.specs.declared.causes.Watch.{Watch}
use Rattle.contactor.specs.Standing.{Kind, Close, Open, last_order, feedback_since, standing_by}
use Rattle.contactor.specs.Standing as contactor
use Rattle.post_spec.specs.Causes.{IsCause, IsDue, IsTold, HasLeft, HasCome, IsOver, HasNotSent, HasNotDriven, running, due, watch}
use Rattle.post_spec.specs.Codecs.{Codecs}
use Rattle.post_spec.specs.Contactors.{contactor_acts, live, live_behind, live_as_told, with_feedback, feedback_in}
use Rattle.post_spec.specs.Contactors as contactors
use Rattle.post_spec.specs.Course.{Talked, Course, course, facts_of, read_by}
use Rattle.post_spec.specs.Facts.{now, told_by}
use Rattle.post_spec.specs.Sessions.{session, waits}
use Rattle.post_spec.specs.Steps.{Event, Came, Bytes, Gone, Datagram, Plant, Clock, Over, Give, Send, Answer, End, Seen, Heard, Reading, Step, Hears, Does, seen_of}
use Rattle.station_spec.specs.States.{Said, Agenda, Session, nothing, is_done}
use Rattle.station_spec.specs.Deciding.{ending_by, repeating, is_reached, confirms, charging_by}
use Rattle.station_spec.specs.Acting.{state}
use Rattle.station_laws.specs.PostRuns.{IsPostRun, ArePostsOf}
use Rattle.station_laws.proofs.Contactors.{contactors_are_read}
use Rattle.station_laws.proofs.PostRuns.{run_posts, post_at}
use Rattle.read_runs.specs.Courses.{talked_in}
use Rattle.read_runs.specs.Facts.{before_hearing}
use Rattle.read_runs.proofs.Courses.{courses_are_read}
use Rattle.read_runs.proofs.Facts.{facts_are_read}
use Rattle.read_agendas.specs.Rows.{late, let_go, charged, ended, told}
use Rattle.coming_causes_open.proofs.Opens.{as_told}
use Rattle.caused_ends.specs.Applying.{Applies, OfCall, OfDeadline, OfHearing, OfFrame, OfPayload, done_cause, is_owed, judges_heard, telling}
use Rattle.applied_causes.specs.Applied.{to_hearing, call_failed, IsCauseBy, ApplyCauses, RunsApplyCauses}

-- A session that the course tells is one of the past.

some_es : (o : Option (List Seen)) → is_some o ≡ true → (es : List Seen) × (o ≡ Some es)
some_es None h = cc
some_es (Some es) h = (es, refl)

talked_some : (kept : Option Session) (t : Talked) → talked_in kept ≡ Some t → is_some kept ≡ true
talked_some None t h = cc
talked_some (Some ss) t h = refl

lives : (c : Codecs) (plan : PostPlan) (steps : List Step) (t : Talked) → IsPostRun c plan steps → (course plan steps).session ≡ Some t → (es : List Seen) × (session (map seen_of steps) ≡ Some es)
lives c plan steps t run h = some_es (session (map seen_of steps)) (sym (facts_are_read plan steps).session_is ∙ talked_some (state plan steps).session t ((courses_are_read c plan steps run).session_is ∙ h))

-- A call that failed.

given_cause : (c : Codecs) (plan : PostPlan) (r : Option Reading) (o : Order) (taken : Bool) (steps : List Step) (cause : EndCause) → is_some (session (map seen_of (Does r (Give o) taken ∷ steps))) ≡ true → not taken ≡ true → done_cause (Does r (Give o) taken ∷ steps) ≡ Some cause → IsCause c plan (Does r (Give o) taken ∷ steps) cause
given_cause c plan r o true steps cause l f d = cc
given_cause c plan r o false steps cause l f d =
    let at = some_es (session (map seen_of (Does r (Give o) false ∷ steps))) l in
    let e : OrderFailed ≡ cause = cc in
    subst (IsCause c plan (Does r (Give o) false ∷ steps)) e (HasNotDriven r o steps at.0 at.1)

sent_cause : (c : Codecs) (plan : PostPlan) (r : Option Reading) (bytes : List ℕ) (taken : Bool) (steps : List Step) (cause : EndCause) → is_some (session (map seen_of (Does r (Send bytes) taken ∷ steps))) ≡ true → not taken ≡ true → done_cause (Does r (Send bytes) taken ∷ steps) ≡ Some cause → IsCause c plan (Does r (Send bytes) taken ∷ steps) cause
sent_cause c plan r bytes true steps cause l f d = cc
sent_cause c plan r bytes false steps cause l f d =
    let at = some_es (session (map seen_of (Does r (Send bytes) false ∷ steps))) l in
    let e : SendFailed ≡ cause = cc in
    subst (IsCause c plan (Does r (Send bytes) false ∷ steps)) e (HasNotSent r bytes steps at.0 at.1)

pub failed_cause : (c : Codecs) (plan : PostPlan) (steps : List Step) (cause : EndCause) → is_some (session (map seen_of steps)) ≡ true → call_failed steps ≡ true → done_cause steps ≡ Some cause → IsCause c plan steps cause
failed_cause c plan [] cause l f d = cc
failed_cause c plan (Hears at e ∷ steps) cause l f d = cc
failed_cause c plan (Does r (Give o) taken ∷ steps) cause l f d = given_cause c plan r o taken steps cause l f d
failed_cause c plan (Does r (Send bytes) taken ∷ steps) cause l f d = sent_cause c plan r bytes taken steps cause l f d
failed_cause c plan (Does r (Answer bytes) taken ∷ steps) cause l f d = cc
failed_cause c plan (Does r (End k) taken ∷ steps) cause l f d = cc

-- The deadline.

reached_by : (m n k : ℕ) → (nat_le m n && nat_lt m k) ≡ true → (m ≤ n) × (m < k)
reached_by m n k h = (grind (arith, nat_tests), grind (arith, nat_tests))

if_ending : (b : Bool) (k cause : EndCause) (on : Bool) → (if b then ending_by k on else nothing).ending ≡ Some cause → (b ≡ true) × (k ≡ cause)
if_ending true k cause on h = (refl, cc)
if_ending false k cause on h = cc

late_cause : (c : Codecs) (plan : PostPlan) (steps : List Step) (o : Option Talked) (here : Option (List Seen)) (cause : EndCause) → (course plan steps).session ≡ o → session (map seen_of steps) ≡ here → (late o here (now (map seen_of steps)) (live (map seen_of steps))).ending ≡ Some cause
    → IsCause c plan steps cause
late_cause c plan steps None here cause k l h = cc
late_cause c plan steps (Some t) None cause k l h = cc
late_cause c plan steps (Some t) (Some es) cause k l h =
    let x = if_ending (is_reached (due (Some t) es) (now (map seen_of steps))) (cause_of (running (is_set_up t.stage.row) (waits es))) cause (live (map seen_of steps)) h in
    let b = reached_by (due (Some t) es) (now (map seen_of steps)) never x.0 in
    subst (IsCause c plan steps) x.1 (IsDue steps t es k l b.0 b.1)

-- An order to open is owed before a hearing exactly where it is behind it.

closing_not : (b : Bool) → cond b standing.Closed standing.Closing ≡ standing.MustOpen → ⊥
closing_not true h = cc
closing_not false h = cc

owed_by : (o : Option (Kind × Bool)) (fed other : List Bool) → standing_by o fed ≡ standing.MustOpen → standing_by o other ≡ standing.MustOpen
owed_by None [] other h = cc
owed_by None (false ∷ fed) other h = cc
owed_by None (true ∷ fed) other h = cc
owed_by (Some (Close, true)) fed other h = absurd (closing_not (contactor.confirms fed) h)
owed_by (Some (Open, true)) [] other h = cc
owed_by (Some (Open, true)) (false ∷ fed) other h = cc
owed_by (Some (Open, true)) (true ∷ fed) other h = cc
owed_by (Some (Close, false)) fed other h = refl
owed_by (Some (Open, false)) fed other h = refl

same_last : (o : Option Bool) (acts : List contactor.Act) → last_order (with_feedback o acts) ≡ last_order acts
same_last None acts = refl
same_last (Some closed) acts = refl

owed_behind : (at : ℕ) (e : Event) (past : List Seen) → contactors.standing past ≡ standing.MustOpen → contactors.standing (Heard at e ∷ past) ≡ standing.MustOpen
owed_behind at e past h =
    let heard = contactor_acts (Heard at e ∷ past) in
    owed_by (last_order heard) (feedback_since (contactor_acts past)) (feedback_since heard)
    (ap (λ (o : Option (Kind × Bool)). standing_by o (feedback_since (contactor_acts past))) (same_last (told_by feedback_in e) (contactor_acts past)) ∙ h)

owed_before : (at : ℕ) (e : Event) (past : List Seen) → contactors.standing (Heard at e ∷ past) ≡ standing.MustOpen → contactors.standing past ≡ standing.MustOpen
owed_before at e past h =
    let heard = contactor_acts (Heard at e ∷ past) in
    owed_by (last_order (contactor_acts past)) (feedback_since heard) (feedback_since (contactor_acts past))
    (sym (ap (λ (o : Option (Kind × Bool)). standing_by o (feedback_since heard)) (same_last (told_by feedback_in e) (contactor_acts past))) ∙ h)

must_open : (st : Standing) → not (is_done (repeating st)) ≡ true → st ≡ standing.MustOpen
must_open standing.MustOpen h = refl
must_open standing.Opened h = cc
must_open standing.Closing h = cc
must_open standing.Closed h = cc
must_open standing.Opening h = cc

not_owed : (st : Standing) → not (not (is_done (repeating st))) ≡ true → st ≡ standing.MustOpen → ⊥
not_owed standing.MustOpen h e = cc
not_owed standing.Opened h e = cc
not_owed standing.Closing h e = cc
not_owed standing.Closed h e = cc
not_owed standing.Opening h e = cc

-- nothing that is heard changes whether the contactor is live
heard_live : (plan : PostPlan) (at : ℕ) (e : Event) (steps : List Step) → live (map seen_of (Hears at e ∷ steps)) ≡ live (map seen_of steps)
heard_live plan at e steps = sym (contactors_are_read plan (Hears at e ∷ steps)).live_is ∙ (contactors_are_read plan steps).live_is

-- What was heard.

lets_go : (b : Bool) (a : Agenda) (cause : EndCause) → a.ending ≡ None → (if b then a else nothing).ending ≡ Some cause → ⊥
lets_go true a cause n h = let x : None ≡ Some cause = sym n ∙ h in cc
lets_go false a cause n h = cc

charged_cause : (plan : PostPlan) (t : Talked) (facts : Facts) (event : PlantEvent) (o : Option EndCause) (cause : EndCause) (on : Bool) → (charging_by o (let_go plan t facts event) on).ending ≡ Some cause → o ≡ Some cause
charged_cause plan t facts event (Some k) cause on h = h
charged_cause plan t facts event None cause on h =
    absurd (lets_go (is_waiting t.stage.row && confirms event) (record nothing { reply = Some (Said t.stage.dialect (waiting_reply t.stage facts plan)) }) cause refl h)

-- the past behind a hearing where it is judged, and the course there
pub record IsJudgedIn (plan : PostPlan) (at : ℕ) (e : Event) (steps : List Step) (past : List Seen) (led : Course) : Type 0 where
  pub led_is : (course plan (Hears at e ∷ steps)).session ≡ led.session
  pub before_is : before_hearing past ≡ map seen_of steps
  pub now_is : now past ≡ at
  pub live_is : live past ≡ live_as_told (map seen_of steps)

plant_told : (c : Codecs) (plan : PostPlan) (at : ℕ) (event : PlantEvent) (steps : List Step) (past : List Seen) (led : Course) (o : Option Talked) (cause : EndCause) → IsJudgedIn plan at (Plant event) steps past led → led.session ≡ o → (charged plan o past led event).ending ≡ Some cause
    → IsCause c plan (Hears at (Plant event) ∷ steps) cause
plant_told c plan at event steps past led None cause j k h = cc
plant_told c plan at event steps past led (Some t) cause j k h =
    let w : watch plan t (before_hearing past) (live past) (now past) ≡ watch plan t (map seen_of steps) (live_as_told (map seen_of steps)) at = rw (j.before_is, j.live_is, j.now_is) refl in
    let x = charged_cause plan t (facts_of past led) event (plant_cause (watch plan t (before_hearing past) (live past) (now past)) event) cause (live past) h in
    IsTold at event steps t cause (j.led_is ∙ k) (sym (ap (λ (y : Watch). plant_cause y event) w) ∙ x)

pub record Ends (o : Option Talked) (k cause : EndCause) : Type 0 where
  pub t : Talked
  pub talked_is : o ≡ Some t
  pub cause_is : k ≡ cause

ended_some : (o : Option Talked) (k cause : EndCause) (on : Bool) → (ended o k on).ending ≡ Some cause → Ends o k cause
ended_some None k cause on h = cc
ended_some (Some t) k cause on h = record { t = t; talked_is = refl; cause_is = cc }

told_cause : (c : Codecs) (plan : PostPlan) (at : ℕ) (e : Event) (steps : List Step) (past : List Seen) (led : Course) (cause : EndCause) → IsPostRun c plan (Hears at e ∷ steps) → IsJudgedIn plan at e steps past led → (told plan past led e).ending ≡ Some cause → IsCause c plan (Hears at e ∷ steps) cause
told_cause c plan at (Came token) steps past led cause run j h =
    let x = ended_some led.session ConnectionGone cause (live past) h in
    let l = lives c plan (Hears at (Came token) ∷ steps) x.t run (j.led_is ∙ x.talked_is) in
    subst (IsCause c plan (Hears at (Came token) ∷ steps)) x.cause_is (HasCome at token steps l.0 l.1)
told_cause c plan at (Bytes bytes) steps past led cause run j h = cc
told_cause c plan at Gone steps past led cause run j h =
    let x = ended_some led.session ConnectionGone cause (live past) h in
    let l = lives c plan (Hears at Gone ∷ steps) x.t run (j.led_is ∙ x.talked_is) in
    subst (IsCause c plan (Hears at Gone ∷ steps)) x.cause_is (HasLeft at steps l.0 l.1)
told_cause c plan at (Datagram bytes) steps past led cause run j h = cc
told_cause c plan at (Plant event) steps past led cause run j h = plant_told c plan at event steps past led led.session cause j refl h
told_cause c plan at Clock steps past led cause run j h = cc
told_cause c plan at Over steps past led cause run j h =
    let x = ended_some led.session RunOver cause (live past) h in
    let l = lives c plan (Hears at Over ∷ steps) x.t run (j.led_is ∙ x.talked_is) in
    subst (IsCause c plan (Hears at Over ∷ steps)) x.cause_is (IsOver at steps l.0 l.1)

-- right behind the hearing, where no order to open is owed
as_live : (plan : PostPlan) (at : ℕ) (e : Event) (steps : List Step) → judges_heard (Hears at e ∷ steps) ≡ true → live (map seen_of (Hears at e ∷ steps)) ≡ live_as_told (map seen_of steps)
as_live plan at e steps h = elim (as_told (contactors.standing (map seen_of steps)) (live (map seen_of steps))) [
  | inl owed ↦ absurd (not_owed (contactors.standing (map seen_of (Hears at e ∷ steps))) h (owed_behind at e (map seen_of steps) owed))
  | inr same ↦ heard_live plan at e steps ∙ sym same
]

-- behind the order that was owed
unread : (s : Option Talked) (past : List Seen) (c : Course) (plan : PostPlan) → read_by s past c plan None ≡ c
unread None past c plan = refl
unread (Some t) past c plan = refl

as_opened : (at : ℕ) (e : Event) (steps : List Step) → is_owed (Hears at e ∷ steps) ≡ true → live_as_told (map seen_of steps) ≡ false
as_opened at e steps h =
    let m = owed_before at e (map seen_of steps) (must_open (contactors.standing (map seen_of (Hears at e ∷ steps))) h) in
    ap (λ (st : Standing). live_behind st (live (map seen_of steps))) m

heard_cause : (c : Codecs) (plan : PostPlan) (steps : List Step) (cause : EndCause) → IsPostRun c plan steps → judges_heard steps ≡ true → (telling plan steps).ending ≡ Some cause → IsCause c plan (to_hearing steps) cause
heard_cause c plan [] cause run j h = cc
heard_cause c plan (Hears at e ∷ steps) cause run j h =
    told_cause c plan at e steps (map seen_of (Hears at e ∷ steps)) (course plan (Hears at e ∷ steps)) cause run (record { led_is = refl; before_is = refl; now_is = refl; live_is = as_live plan at e steps j }) h
heard_cause c plan (Does None (Give order.Open) true ∷ (Hears at e ∷ steps)) cause run j h =
    let all = Does None (Give order.Open) true ∷ Hears at e ∷ steps in
    let before = course plan (Hears at e ∷ steps) in
    told_cause c plan at e steps (map seen_of all) (course plan all) cause run.0 (record {
      led_is = sym (ap (λ (x : Course). x.session) (unread before.session (map seen_of (Hears at e ∷ steps)) before plan));
      before_is = refl;
      now_is = refl;
      live_is = sym (as_opened at e steps j);
    }) h
heard_cause c plan (Does None (Give order.Open) true ∷ []) cause run j h = cc
heard_cause c plan (Does None (Give order.Open) true ∷ (Does q b took ∷ steps)) cause run j h = cc
heard_cause c plan (Does None (Give order.Open) false ∷ steps) cause run j h = cc
heard_cause c plan (Does None (Give order.Close) taken ∷ steps) cause run j h = cc
heard_cause c plan (Does None (Give (order.Limits voltage current watts)) taken ∷ steps) cause run j h = cc
heard_cause c plan (Does None (Send bytes) taken ∷ steps) cause run j h = cc
heard_cause c plan (Does None (Answer bytes) taken ∷ steps) cause run j h = cc
heard_cause c plan (Does None (End k) taken ∷ steps) cause run j h = cc
heard_cause c plan (Does (Some r) a taken ∷ steps) cause run j h = cc

-- In every run.

applied : (c : Codecs) (plan : PostPlan) (steps : List Step) (cause : EndCause) → IsPostRun c plan steps → (a : Applies c plan steps cause) → IsCauseBy c plan steps cause a
applied c plan steps cause run (OfCall l e) = λ f. failed_cause c plan steps cause l f e
applied c plan steps cause run (OfDeadline j e) = late_cause c plan steps (course plan steps).session (session (map seen_of steps)) cause refl refl e
applied c plan steps cause run (OfHearing j d e) = heard_cause c plan steps cause run j e
applied c plan steps cause run (OfFrame turn e) = tt
applied c plan steps cause run (OfPayload turn p) = tt

apply_causes : (c : Codecs) (plan : PostPlan) (steps : List Step) → IsPostRun c plan steps → ApplyCauses c plan steps
apply_causes c plan [] run = tt
apply_causes c plan (Hears at e ∷ steps) run = (apply_causes c plan steps run.0, λ cause. applied c plan (Hears at e ∷ steps) cause run)
apply_causes c plan (Does r a taken ∷ steps) run = (apply_causes c plan steps run.0, λ cause. applied c plan (Does r a taken ∷ steps) cause run)

pub runs_apply_causes : (c : Codecs) → RunsApplyCauses c
runs_apply_causes c site past posts before post behind run is =
    let k = post_at c past (length before + 1) 1 before post behind refl (subst (ArePostsOf c past 1) is (run_posts c site past posts run)) in
    apply_causes c post.plan post.steps k.run
