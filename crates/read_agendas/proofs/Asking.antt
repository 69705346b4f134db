-- What a post decides is what its past asks for.
use Rattle.std.proofs.Common.{◌≡◌, ℕ, Bool, true, false, if◌then◌else◌, List, map, Option, Some, None, refl, ap, ◌∙◌}
use Rattle.charge_world.specs.declared.heard.PlantEvent.{PlantEvent}
use Rattle.session_words.specs.declared.cause.EndCause.{EndCause}
use Rattle.session_words.specs.declared.cause.EndCause.TheVariants.{Gone as ConnectionGone, RunOver}
use Rattle.session_words.specs.declared.cause.Timeout.{Timeout}
use Rattle.session_words.specs.declared.facts.Facts.{Facts}
use Rattle.session_words.specs.declared.plan.PostPlan.{PostPlan}
use Rattle.session_words.specs.declared.word.Request.{Request}
use Rattle.session_words.specs.Causes.{cause_of}
use Rattle.v2gtp_frames.specs.Reading.{whole_at, behind_frames}
use Rattle.session_rules.specs.declared.causes.Watch.{Watch}
use Rattle.session_rules.specs.declared.stage.Stage.{Stage}
use Rattle.session_rules.specs.Causes.{plant_cause, found_by, word_cause}
use Rattle.session_rules.specs.Deadlines.{timeout_of}
use Rattle.session_rules.specs.Moves.{stage_behind}
use Rattle.session_rules.specs.Orders.{order_of}
use Rattle.session_rules.specs.Reply.{reply_to}
use Rattle.session_rules.specs.Stages.{is_set_up, is_waiting}
use Rattle.session_rules.specs.Verdict.{verdict}
use Rattle.post_spec.specs.Causes as causes
use Rattle.post_spec.specs.Causes.{running}
use Rattle.post_spec.specs.Codecs.{Judged, Negotiated, Asked, WrongSide, Refused, Codecs}
use Rattle.post_spec.specs.Contactors.{standing, live}
use Rattle.post_spec.specs.Course.{Talked, Course, course, facts_of}
use Rattle.post_spec.specs.Facts.{now}
use Rattle.post_spec.specs.Sessions.{session, stream, waits}
use Rattle.post_spec.specs.Steps.{Event, Came, Bytes, Gone, Datagram, Plant, Clock, Over, Seen, Step, seen_of}
use Rattle.station_spec.specs.States.{Said, Agenda, Session, State, nothing, is_done}
use Rattle.station_spec.specs.Deciding.{ending_by, ending_in, repeating, timing, watch, confirming, charging_by, charging, eventing, fronting_by, fronting, is_reached}
use Rattle.station_spec.specs.Judging.{order_by, judged}
use Rattle.station_spec.specs.Acting.{state}
use Rattle.station_laws.specs.PostRuns.{IsPostRun}
use Rattle.read_runs.specs.Courses.{talked_of, talked_in}
use Rattle.read_runs.specs.Facts.{newest_event, before_hearing}
use Rattle.read_runs.proofs.Courses.{courses_are_read}
use Rattle.read_runs.proofs.Facts.{facts_are_read}
use Rattle.read_sessions.specs.Sessions.{words_read, IsSessionOf}
use Rattle.read_sessions.proofs.Starts.{timeout_is}
use Rattle.read_sessions.proofs.Streams.{done_session}
use Rattle.read_agendas.specs.Rows.{again, late, let_go, charged, ended, told, front, word_asks}

-- The deadline.

abbrev late_if : ℕ → Timeout → ℕ → Bool → Agenda
late_if n k at on = if is_reached n at then ending_by (cause_of k) on else nothing

late_in : (lives : Option (List Seen)) (kept : Option Session) (at : ℕ) (on : Bool) → IsSessionOf lives kept → timing kept at on ≡ late (talked_in kept) lives at on
late_in None None at on i = refl
late_in (Some es) None at on i = refl
late_in None (Some ss) at on i = absurd i
late_in (Some es) (Some ss) at on i =
    let k : timeout_of ss.stage.row ≡ running (is_set_up ss.stage.row) (waits es) = timeout_is ss.stage.row ∙ ap (running (is_set_up ss.stage.row)) i.waiting_is in
    ap (λ (n : ℕ). late_if n (timeout_of ss.stage.row) at on) i.due_is ∙ ap (λ (x : Timeout). late_if (causes.due (Some (talked_of ss)) es) x at on) k

-- What was heard.

ended_in : (kept : Option Session) (cause : EndCause) (on : Bool) → ending_in kept cause on ≡ ended (talked_in kept) cause on
ended_in None cause on = refl
ended_in (Some ss) cause on = refl

watch_is : (plan : PostPlan) (ss : Session) (s : State) (before : List Seen) (on : Bool) (at : ℕ) → s.stood ≡ standing before → s.live ≡ on → s.clock ≡ at → watch plan ss s ≡ causes.watch plan (talked_of ss) before on at
watch_is plan ss s before on at a b d = rw (a, b, d) refl

charged_in : (plan : PostPlan) (kept : Option Session) (s : State) (past : List Seen) (c : Course) (event : PlantEvent) → s.stood ≡ standing (before_hearing past) → s.live ≡ live past → s.clock ≡ now past → s.facts ≡ facts_of past c
    → charging plan kept event s ≡ charged plan (talked_in kept) past c event
charged_in plan None s past c event a b d f = refl
charged_in plan (Some ss) s past c event a b d f =
    let w = watch_is plan ss s (before_hearing past) (live past) (now past) a b d in
    ap (λ (x : Watch). charging_by (plant_cause x event) (confirming plan ss event s) s.live) w
    ∙ ap (λ (x : Facts). charging_by (plant_cause (causes.watch plan (talked_of ss) (before_hearing past) (live past) (now past)) event) (let_go plan (talked_of ss) x event) s.live) f
    ∙ ap (λ (x : Bool). charging_by (plant_cause (causes.watch plan (talked_of ss) (before_hearing past) (live past) (now past)) event) (let_go plan (talked_of ss) (facts_of past c) event) x) b

ended_at : (kept : Option Session) (t : Option Talked) (cause : EndCause) (on off : Bool) → talked_in kept ≡ t → on ≡ off → ending_in kept cause on ≡ ended t cause off
ended_at kept t cause on off k b = ended_in kept cause on ∙ ap (λ (x : Option Talked). ended x cause on) k ∙ ap (λ (x : Bool). ended t cause x) b

told_at : (plan : PostPlan) (s : State) (past : List Seen) (c : Course) (e : Event) → talked_in s.session ≡ c.session → s.stood ≡ standing (before_hearing past) → s.live ≡ live past → s.clock ≡ now past → s.facts ≡ facts_of past c → eventing plan e s ≡ told plan past c e
told_at plan s past c (Came token) k a b d f = ended_at s.session c.session ConnectionGone s.live (live past) k b
told_at plan s past c (Bytes bytes) k a b d f = refl
told_at plan s past c Gone k a b d f = ended_at s.session c.session ConnectionGone s.live (live past) k b
told_at plan s past c (Datagram bytes) k a b d f = refl
told_at plan s past c (Plant event) k a b d f = charged_in plan s.session s past c event a b d f ∙ ap (λ (x : Option Talked). charged plan x past c event) k
told_at plan s past c Clock k a b d f = refl
told_at plan s past c Over k a b d f = ended_at s.session c.session RunOver s.live (live past) k b

-- The frame at the front.

front_in : (lives : Option (List Seen)) (kept : Option Session) (on : Bool) → IsSessionOf lives kept → fronting kept on ≡ front lives on
front_in None None on i = refl
front_in (Some es) None on i = absurd i
front_in None (Some ss) on i = absurd i
front_in (Some es) (Some ss) on i =
    ap (λ (bytes : List ℕ). fronting_by (whole_at bytes) (is_waiting ss.stage.row) on) i.unread_is ∙ ap (λ (b : Bool). fronting_by (whole_at (behind_frames (words_read es) (stream es))) b on) i.waiting_is

-- Each row, where all that was decided before is done.

pub again_is : (plan : PostPlan) (steps : List Step) → repeating (state plan steps).facts.contactor ≡ again (map seen_of steps)
again_is plan steps = ap repeating (facts_are_read plan steps).contactor_is

pub late_is : (c : Codecs) (plan : PostPlan) (steps : List Step) → IsPostRun c plan steps → is_done (state plan steps).agenda ≡ true
    → timing (state plan steps).session (state plan steps).clock (state plan steps).live ≡ late (course plan steps).session (session (map seen_of steps)) (now (map seen_of steps)) (live (map seen_of steps))
late_is c plan steps run d =
    let past : List Seen = map seen_of steps in
    let s : State = state plan steps in
    let f = facts_are_read plan steps in
    late_in (session (map seen_of steps)) (state plan steps).session (state plan steps).clock (state plan steps).live (done_session c plan steps run d)
    ∙ ap (λ (t : Option Talked). late t (session (map seen_of steps)) (state plan steps).clock (state plan steps).live) (courses_are_read c plan steps run).session_is
    ∙ ap (λ (n : ℕ). late (course plan steps).session (session (map seen_of steps)) n (state plan steps).live) f.clock_is
    ∙ ap (λ (b : Bool). late (course plan steps).session (session (map seen_of steps)) (now (map seen_of steps)) b) f.live_is

pub told_is : (c : Codecs) (plan : PostPlan) (steps : List Step) → IsPostRun c plan steps → eventing plan (state plan steps).event (state plan steps) ≡ told plan (map seen_of steps) (course plan steps) (newest_event (map seen_of steps))
told_is c plan steps run =
    let f = facts_are_read plan steps in
    let k = courses_are_read c plan steps run in
    ap (λ (e : Event). eventing plan e (state plan steps)) f.event_is
    ∙ told_at plan (state plan steps) (map seen_of steps) (course plan steps) (newest_event (map seen_of steps)) k.session_is f.stood_is f.live_is f.clock_is k.facts_are

pub front_is : (c : Codecs) (plan : PostPlan) (steps : List Step) → IsPostRun c plan steps → is_done (state plan steps).agenda ≡ true
    → fronting (state plan steps).session (state plan steps).live ≡ front (session (map seen_of steps)) (live (map seen_of steps))
front_is c plan steps run d =
    front_in (session (map seen_of steps)) (state plan steps).session (state plan steps).live (done_session c plan steps run d) ∙ ap (front (session (map seen_of steps))) (facts_are_read plan steps).live_is

-- A word.

abbrev asks_with : PostPlan → Stage → Request → ℕ → Facts → Bool → Agenda
asks_with plan stage r shown f on = record nothing {
  order = order_by (word_cause false (found_by (verdict stage f plan r) r.ask)) on (order_of stage f plan r shown);
  reply = if is_waiting (stage_behind stage f plan r shown).row then None else Some (Said stage.dialect (reply_to stage f plan r shown));
  ending = word_cause false (found_by (verdict stage f plan r) r.ask);
}

pub word_is : (plan : PostPlan) (s : State) (ss : Session) (past : List Seen) (c : Course) (w : Judged) (shown : ℕ) → s.facts ≡ facts_of past c → s.live ≡ live past → (judged plan s ss w shown).agenda ≡ word_asks plan (talked_of ss) past c w shown
word_is plan s ss past c (Negotiated chosen response) shown f l = refl
word_is plan s ss past c (Asked r) shown f l =
    ap (λ (x : Facts). asks_with plan ss.stage r shown x s.live) f ∙ ap (λ (b : Bool). asks_with plan ss.stage r shown (facts_of past c) b) l
word_is plan s ss past c WrongSide shown f l = ap (ending_by _) l
word_is plan s ss past c Refused shown f l = ap (ending_by _) l
