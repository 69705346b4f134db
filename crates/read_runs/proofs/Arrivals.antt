-- A connection that comes finds no session behind its block.
use Rattle.std.proofs.Common.{◌≡◌, ℕ, Bool, true, false, List, [], ◌∷◌, map, Option, Some, None, is_some, Result, Ok, Err, if◌then◌else◌, refl, sym, ap, subst, ◌∙◌, inl, inr, ◌⊎◌}
use Rattle.std.specs.Option.{option_map}
use Rattle.charge_world.specs.declared.heard.PlantEvent.TheVariants as plant
use Rattle.charge_world.specs.declared.ports.Order.{Order}
use Rattle.session_words.specs.declared.cause.EndCause.{EndCause}
use Rattle.session_words.specs.declared.cause.EndCause.TheVariants.{Gone as ConnectionGone}
use Rattle.session_words.specs.declared.facts.Facts.{Facts}
use Rattle.session_words.specs.declared.plan.PostPlan.{PostPlan}
use Rattle.v2gtp_frames.specs.declared.FrameFault.{FrameFault}
use Rattle.v2gtp_frames.specs.Reading.{whole_at}
use Rattle.session_rules.specs.Stages.{is_waiting}
use Rattle.post_spec.specs.Codecs.{Judged, Negotiated, Asked, WrongSide, Refused, Codecs}
use Rattle.post_spec.specs.Facts.{now}
use Rattle.post_spec.specs.Sessions.{arriving, brought}
use Rattle.post_spec.specs.Steps.{Event, Came, Bytes, Gone, Datagram, Plant, Clock, Over, Act, Give, Send, Answer, End, Seen, Heard, Reading, Step, Hears, Does, seen_of}
use Rattle.station_spec.specs.States.{Spoken, Agenda, Part, Repeating, Timing, Eventing, Wording, Session, State, Todo, is_done, is_none, first, first_of}
use Rattle.station_spec.specs.Deciding.{decide, ending_in, repeating, timing, eventing, fronting, fronting_by, from_wording, from_eventing, from_timing, from_part, decided}
use Rattle.station_spec.specs.Judging.{Payload, payload_in, judged, taken_in, read, filled, IsRead}
use Rattle.station_spec.specs.Hearing.{heard_facts, arrival, session_opened, with_bytes}
use Rattle.station_spec.specs.Acting.{since_order, replied, failing, agenda_said, acted, state}
use Rattle.station_spec.specs.Next.{IsQuiet, Acts}
use Rattle.station_laws.specs.PostRuns.{IsPostRun}
use Rattle.station_laws.proofs.Decided.{decided_by, same_session, same_facts}
use Rattle.read_runs.proofs.Agendas.{decided_done, decided_not, none_done}
use Rattle.read_runs.proofs.Facts.{Hearing, judged_hearing, decided_hearing, does_hearing}

-- the connection that began in the newest hearing, in the past and in the post
abbrev pub Arrives : Option ℕ → Option Seen → ℕ → Type 0
Arrives None None at = Unit {0}
Arrives None (Some came) at = ⊥
Arrives (Some token) None at = ⊥
Arrives (Some token) (Some came) at = came ≡ Heard at (Came token)

heard_arrives : (past : List Seen) (at : ℕ) (e : Event) → Arrives (arrival e) (arriving (Heard at e ∷ past)) at
heard_arrives past at (Came token) = refl
heard_arrives past at (Bytes bytes) = tt
heard_arrives past at Gone = tt
heard_arrives past at (Datagram bytes) = tt
heard_arrives past at (Plant event) = tt
heard_arrives past at Clock = tt
heard_arrives past at Over = tt

pub steps_arrive : (plan : PostPlan) (steps : List Step) → Arrives (state plan steps).arrived (arriving (map seen_of steps)) (now (map seen_of steps))
steps_arrive plan [] = tt
steps_arrive plan (Hears at e ∷ steps) = heard_arrives (map seen_of steps) at e
steps_arrive plan (Does r a taken ∷ steps) =
    subst (λ (x : Option ℕ). Arrives x (arriving (map seen_of steps)) (now (map seen_of steps)))
    (sym (ap (λ (h : Hearing). h.arrived) (does_hearing plan r a taken (state plan steps)))) (steps_arrive plan steps)

pub arrived_is : (plan : PostPlan) (steps : List Step) → (state plan steps).arrived ≡ arrival (state plan steps).event
arrived_is plan [] = refl
arrived_is plan (Hears at e ∷ steps) = refl
arrived_is plan (Does r a taken ∷ steps) =
    let h = does_hearing plan r a taken (state plan steps) in
    ap (λ (x : Hearing). x.arrived) h ∙ arrived_is plan steps ∙ sym (ap (λ (x : Hearing). arrival x.event) h)

came_of : (e : Event) (token : ℕ) → Some token ≡ arrival e → e ≡ Came token
came_of (Came t) token h = cc
came_of e token h = cc

-- once the connection is judged, the session before it has a cause
abbrev Leaves : State → Type 0
Leaves s = (token : ℕ) (ss : Session) → s.part ≡ Wording → s.event ≡ Came token → s.session ≡ Some ss → is_some s.agenda.ending ≡ true

-- what has a cause isn't done
ends_first : (d : Option (List ℕ)) (o : Option Order) (r : Option Spoken) (e : Option EndCause) → is_some e ≡ true → is_none (first_of d o r e) ≡ false
ends_first (Some d) o r e h = refl
ends_first None (Some o) r e h = refl
ends_first None None (Some r) e h = refl
ends_first None None None (Some e) h = refl
ends_first None None None None h = cc

ends_undone : (a : Agenda) → is_some a.ending ≡ true → is_done a ≡ false
ends_undone a h = ends_first a.datagram a.order a.reply a.ending h

decide_done : (agenda : Agenda) (part : Part) (s rest : State) → is_done agenda ≡ true → decide agenda part s rest ≡ rest
decide_done agenda part s rest e = rw e refl

decide_not : (agenda : Agenda) (part : Part) (s rest : State) → is_done agenda ≡ false → decide agenda part s rest ≡ record s { agenda = agenda; part = part }
decide_not agenda part s rest e = rw e refl

decide_undone : (agenda : Agenda) (part : Part) (s rest : State) (b : Bool) → is_done agenda ≡ b → is_done rest.agenda ≡ false → is_done (decide agenda part s rest).agenda ≡ false
decide_undone agenda part s rest true e h = ap (λ (t : State). is_done t.agenda) (decide_done agenda part s rest e) ∙ h
decide_undone agenda part s rest false e h = ap (λ (t : State). is_done t.agenda) (decide_not agenda part s rest e) ∙ e

ending_some : (kept : Option Session) (ss : Session) (cause : EndCause) (live : Bool) → kept ≡ Some ss → is_some (ending_in kept cause live).ending ≡ true
ending_some kept ss cause live k = ap (λ (x : Option Session). is_some (ending_in x cause live).ending) k

event_ends : (plan : PostPlan) (s : State) (token : ℕ) (ss : Session) → s.event ≡ Came token → s.session ≡ Some ss → is_some (eventing plan s.event s).ending ≡ true
event_ends plan s token ss e k = ap (λ (x : Event). is_some (eventing plan x s).ending) e ∙ ending_some s.session ss ConnectionGone s.live k

-- so a session that a connection finds is something to do
part_busy : (plan : PostPlan) (s : State) (token : ℕ) (ss : Session) (part : Part) → s.part ≡ part → s.event ≡ Came token → s.session ≡ Some ss → Leaves s → is_done s.agenda ≡ true → is_done (from_part plan part s).agenda ≡ false
part_busy plan s token ss Wording p e k l d =
    let x : true ≡ false = sym d ∙ ends_undone s.agenda (l token ss p e k) in
    cc
part_busy plan s token ss Eventing p e k l d =
    ap (λ (t : State). is_done t.agenda) (decide_not (eventing plan s.event s) Wording s (from_wording s) (ends_undone (eventing plan s.event s) (event_ends plan s token ss e k)))
    ∙ ends_undone (eventing plan s.event s) (event_ends plan s token ss e k)
part_busy plan s token ss Timing p e k l d =
    decide_undone (timing s.session s.clock s.live) Eventing s (from_eventing plan s) _ refl
    (ap (λ (t : State). is_done t.agenda) (decide_not (eventing plan s.event s) Wording s (from_wording s) (ends_undone (eventing plan s.event s) (event_ends plan s token ss e k)))
    ∙ ends_undone (eventing plan s.event s) (event_ends plan s token ss e k))
part_busy plan s token ss Repeating p e k l d =
    decide_undone (repeating s.facts.contactor) Timing s (from_timing plan s) _ refl
    (decide_undone (timing s.session s.clock s.live) Eventing s (from_eventing plan s) _ refl
    (ap (λ (t : State). is_done t.agenda) (decide_not (eventing plan s.event s) Wording s (from_wording s) (ends_undone (eventing plan s.event s) (event_ends plan s token ss e k)))
    ∙ ends_undone (eventing plan s.event s) (event_ends plan s token ss e k)))

busy_if : (plan : PostPlan) (s : State) (token : ℕ) (ss : Session) (b : Bool) → is_done s.agenda ≡ b → s.event ≡ Came token → s.session ≡ Some ss → Leaves s → is_done (decided plan s).agenda ≡ false
busy_if plan s token ss true d e k l = ap (λ (t : State). is_done t.agenda) (decided_done plan s d) ∙ part_busy plan s token ss s.part refl e k l d
busy_if plan s token ss false d e k l = ap (λ (t : State). is_done t.agenda) (decided_not plan s d) ∙ d

busy : (plan : PostPlan) (s : State) (token : ℕ) (ss : Session) → s.event ≡ Came token → s.session ≡ Some ss → Leaves s → is_done (decided plan s).agenda ≡ false
busy plan s token ss e k l = busy_if plan s token ss (is_done s.agenda) refl e k l

quiet_if : (plan : PostPlan) (s : State) (token : ℕ) (kept : Option Session) → s.session ≡ kept → IsQuiet plan s → Leaves s → s.event ≡ Came token → s.session ≡ None
quiet_if plan s token None k q l e = k
quiet_if plan s token (Some ss) k q l e =
    let x : true ≡ false = sym (none_done (decided plan s).agenda q.none) ∙ busy plan s token ss e k l in
    cc

pub quiet_leaves : (plan : PostPlan) (s : State) (token : ℕ) → IsQuiet plan s → Leaves s → s.event ≡ Came token → s.session ≡ None
quiet_leaves plan s token q l e = quiet_if plan s token s.session refl q l e

-- what is decided and read keeps that
abbrev LeavesOrDone : State → Type 0
LeavesOrDone t = (is_done t.agenda ≡ true) ⊎ Leaves t

front_either : (f : Result (Option ℕ) FrameFault) (waiting live : Bool) → (is_done (fronting_by f waiting live) ≡ true) ⊎ (is_some (fronting_by f waiting live).ending ≡ true)
front_either (Err fault) waiting live = inr refl
front_either (Ok None) waiting live = inl refl
front_either (Ok (Some n)) true live = inr refl
front_either (Ok (Some n)) false live = inl refl

fronting_either : (kept : Option Session) (live : Bool) → (is_done (fronting kept live) ≡ true) ⊎ (is_some (fronting kept live).ending ≡ true)
fronting_either None live = inl refl
fronting_either (Some ss) live = front_either (whole_at ss.unread) (is_waiting ss.stage.row) live

decided_leaves : (plan : PostPlan) (s : State) → Leaves s → LeavesOrDone (decided plan s)
decided_leaves plan s l = decided_by LeavesOrDone plan s
    (λ d. record {
      repeats = inr (λ token ss p e k. cc);
      times = inr (λ token ss p e k. cc);
      events = inr (λ token ss p e k. event_ends plan s token ss e k);
      fronts = elim (fronting_either s.session s.live) [
        | inl h ↦ inl h
        | inr h ↦ inr (λ token ss p e k. h)
      ];
    })
    (inr l)

some_done : (a : Agenda) (todo : Todo) → first a ≡ Some todo → is_done a ≡ true → ⊥
some_done a todo h d = let x : false ≡ true = sym (ap is_none h) ∙ d in cc

undone_leaves : (t : State) (todo : Todo) → first t.agenda ≡ Some todo → LeavesOrDone t → Leaves t
undone_leaves t todo f (inl d) = absurd (some_done t.agenda todo f d)
undone_leaves t todo f (inr l) = l

taken_leaves : (plan : PostPlan) (t : State) (kept : Option Session) (r : Reading) → t.session ≡ kept → ((token : ℕ) (ss : Session) → t.event ≡ Came token → t.session ≡ Some ss → ⊥) → Leaves (taken_in plan t kept r)
taken_leaves plan t None r k never = λ token ss p e h. absurd (never token ss e h)
taken_leaves plan t (Some was) r k never = λ token ss p e h. absurd (never token was (sym (ap (λ (x : Hearing). x.event) (judged_hearing plan t was r.judged r.shown)) ∙ e) k)

no_payload : (b : Bool) (p : Option Payload) → b ≡ false → (if b then p else None) ≡ None
no_payload true p h = cc
no_payload false p h = refl

filled_leaves : (c : Codecs) (plan : PostPlan) (S : ℕ → ℕ → Type 0) (s : State) (r : Option Reading) (a : Act) (taken : Bool) → Leaves s → Acts c plan S s r a taken → Leaves (filled plan r s)
filled_leaves c plan S s None a taken l x = undone_leaves (decided plan s) x.todo x.acts (decided_leaves plan s l)
filled_leaves c plan S s (Some r) a taken l x =
    let t = decided plan s in
    taken_leaves plan t t.session r refl
    (λ token ss e k.
    let d = busy plan s token ss (sym (ap (λ (h : Hearing). h.event) (decided_hearing plan s)) ∙ e) (sym (same_session plan s) ∙ k) l in
    subst (λ (w : Option Payload). IsRead c plan S t w (Some r)) (no_payload (is_done t.agenda) (payload_in t.session) d) x.read)

some_map : (f : Session → Session) (kept : Option Session) (ss : Session) → option_map f kept ≡ Some ss → (x : Session) × (kept ≡ Some x)
some_map f None ss h = cc
some_map f (Some x) ss h = (x, refl)

failing_some : (e : Option EndCause) (kept : Option Session) (ss : Session) (cause : EndCause) (live : Bool) → kept ≡ Some ss → is_some (failing e kept cause live).ending ≡ true
failing_some None kept ss cause live k = ending_some kept ss cause live k
failing_some (Some e) kept ss cause live k = refl

said_some : (b : Option EndCause) (kept : Option Session) (ss : Session) (a : Agenda) (live : Bool) → kept ≡ Some ss → is_some a.ending ≡ true → is_some (agenda_said b kept a live).ending ≡ true
said_some None kept ss a live k h = h
said_some (Some cause) kept ss a live k h = ending_some kept ss cause live k

acted_leaves : (a : Act) (taken : Bool) (s : State) → Leaves s → Leaves (acted a taken s)
acted_leaves (Give o) true s l = λ token ss p e k. let m = some_map (since_order s.clock o) s.session ss k in l token m.0 p e m.1
acted_leaves (Give o) false s l = λ token ss p e k. failing_some s.agenda.ending s.session ss _ _ k
acted_leaves (Send bytes) true s l = λ token ss p e k. let m = some_map (replied s.clock) s.session ss k in said_some s.agenda.behind_reply s.session m.0 s.agenda s.live m.1 (l token m.0 p e m.1)
acted_leaves (Send bytes) false s l = λ token ss p e k. failing_some s.agenda.ending s.session ss _ _ k
acted_leaves (Answer bytes) taken s l = λ token ss p e k. l token ss p e k
acted_leaves (End cause) taken s l = λ token ss p e k. cc

pub steps_leave : (c : Codecs) (plan : PostPlan) (steps : List Step) → IsPostRun c plan steps → Leaves (state plan steps)
steps_leave c plan [] run = λ token ss p e k. cc
steps_leave c plan (Hears at e ∷ steps) run = λ token ss p h k. cc
steps_leave c plan (Does r a taken ∷ steps) (run, (limit, before, behind, acts)) =
    acted_leaves a taken (filled plan r (state plan steps)) (filled_leaves c plan _ (state plan steps) r a taken (steps_leave c plan steps run) acts)

-- no session is joined where none lives
abbrev Unjoined : State → Type 0
Unjoined s = s.session ≡ None → s.facts.joined ≡ false

heard_joined : (e : Event) (f : Facts) → (heard_facts e f).joined ≡ f.joined
heard_joined (Plant (plant.Pilot st)) f = refl
heard_joined e f = refl

none_map : (f : Session → Session) (kept : Option Session) → option_map f kept ≡ None → kept ≡ None
none_map f None h = refl
none_map f (Some ss) h = cc

none_opened : (arrived : Option ℕ) (at : ℕ) (kept : Option Session) → session_opened arrived at kept ≡ None → kept ≡ None
none_opened None at kept h = h
none_opened (Some token) at kept h = cc

judged_unjoined : (plan : PostPlan) (s : State) (ss : Session) (w : Judged) (shown : ℕ) → Unjoined (judged plan s ss w shown)
judged_unjoined plan s ss (Negotiated chosen response) shown k = cc
judged_unjoined plan s ss (Asked r) shown k = cc
judged_unjoined plan s ss WrongSide shown k = cc
judged_unjoined plan s ss Refused shown k = cc

taken_unjoined : (plan : PostPlan) (s : State) (kept : Option Session) (r : Reading) → Unjoined s → Unjoined (taken_in plan s kept r)
taken_unjoined plan s None r h = h
taken_unjoined plan s (Some ss) r h = judged_unjoined plan s ss r.judged r.shown

read_unjoined : (plan : PostPlan) (s : State) (r : Option Reading) → Unjoined s → Unjoined (read plan s r)
read_unjoined plan s None h = h
read_unjoined plan s (Some r) h = taken_unjoined plan s s.session r h

filled_unjoined : (plan : PostPlan) (r : Option Reading) (s : State) → Unjoined s → Unjoined (filled plan r s)
filled_unjoined plan r s h = read_unjoined plan (decided plan s) r (λ k. ap (λ (f : Facts). f.joined) (same_facts plan s) ∙ h (sym (same_session plan s) ∙ k))

acted_unjoined : (a : Act) (taken : Bool) (s : State) → Unjoined s → Unjoined (acted a taken s)
acted_unjoined (Give o) true s h k = h (none_map (since_order s.clock o) s.session k)
acted_unjoined (Give o) false s h k = h k
acted_unjoined (Send bytes) true s h k = h (none_map (replied s.clock) s.session k)
acted_unjoined (Send bytes) false s h k = h k
acted_unjoined (Answer bytes) taken s h k = h k
acted_unjoined (End cause) taken s h k = refl

pub steps_unjoined : (plan : PostPlan) (steps : List Step) → Unjoined (state plan steps)
steps_unjoined plan [] k = refl
steps_unjoined plan (Hears at e ∷ steps) k =
    let s = state plan steps in
    heard_joined e s.facts ∙ steps_unjoined plan steps (none_opened s.arrived s.clock s.session (none_map (with_bytes (brought e)) (session_opened s.arrived s.clock s.session) k))
steps_unjoined plan (Does r a taken ∷ steps) k = acted_unjoined a taken (filled plan r (state plan steps)) (filled_unjoined plan r (state plan steps) (steps_unjoined plan steps)) k

-- So a connection that comes joins none.
pub came_unjoined : (c : Codecs) (plan : PostPlan) (steps : List Step) (token : ℕ) → IsPostRun c plan steps → IsQuiet plan (state plan steps) → (state plan steps).arrived ≡ Some token → (state plan steps).facts.joined ≡ false
came_unjoined c plan steps token run q h =
    let s = state plan steps in
    steps_unjoined plan steps (quiet_leaves plan s token q (steps_leave c plan steps run) (came_of s.event token (sym h ∙ arrived_is plan steps)))
