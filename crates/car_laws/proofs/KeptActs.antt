-- Behind an act, and so in every run, a car keeps what its steps tell.
use Rattle.std.proofs.Common.{◌≡◌, ℕ, Bool, true, false, List, [], ◌∷◌, Option, Some, None, is_some, refl, sym, ap, subst, ◌∙◌}
use Rattle.std.specs.Option.{option_map}
use Rattle.charge_world.specs.declared.entry.Entry.{Entry}
use Rattle.charge_world.specs.declared.offer.Dialect.{Dialect}
use Rattle.charge_world.specs.declared.ports.Order.{Order}
use Rattle.session_words.specs.declared.cause.EndCause.{EndCause}
use Rattle.session_words.specs.declared.cause.EndCause.TheVariants.{OrderFailed, SendFailed}
use Rattle.session_words.specs.declared.plan.CarPlan.{CarPlan}
use Rattle.session_words.specs.declared.word.Request.{Request}
use Rattle.car_rules.specs.declared.stage.CarStage.{CarStage}
use Rattle.car_rules.specs.Requests.{request_of}
use Rattle.post_spec.specs.Steps.{Event, Came, Bytes, Gone, Datagram, Plant, Clock, Over}
use Rattle.car_spec.specs.Asked.{Sent, now, last_request, awaited}
use Rattle.car_spec.specs.Codecs.{Codecs}
use Rattle.car_spec.specs.Steps.{Spoken, Offer, Asked, Act, Seek, Dial, Give, Say, Step, Hears, Loses, Reads, Does, stop_heard}
use Rattle.car_spec.specs.States.{Agenda, Part, Unheard, Timing, Eventing, Wording, Session, State, first_of, first}
use Rattle.car_spec.specs.States as states
use Rattle.car_spec.specs.Deciding.{decided}
use Rattle.car_spec.specs.Hearing.{session_heard}
use Rattle.car_spec.specs.Acting.{failing, awaiting, acted, state}
use Rattle.car_spec.specs.Next.{IsDone, IsSaid, MayAct}
use Rattle.car_spec.specs.Runs.{MayHear, IsRun}
use Rattle.car_spec.specs.Told.{cycles}
use Rattle.car_laws.specs.Readings.{KeepsReadings}
use Rattle.car_laws.proofs.Kept.{StageReads, SessionReads, NothingRead, Reads_by, IsUnchosen, Fits, IsFresh, IsFreshIn, Keeps, decided_keeps}
use Rattle.car_laws.proofs.KeptWords.{read_keeps}

-- what is said first is what the agenda has to be said
speaks_first : (p : Option ℕ) (o : Option Order) (sp : Option Spoken) (e : Option EndCause) (seeks : Bool) (said : Spoken) → first_of p o sp e seeks ≡ Some (states.Speak said) → sp ≡ Some said
speaks_first (Some port) o sp e seeks said h = cc
speaks_first None (Some given) sp e seeks said h = cc
speaks_first None None (Some other) e seeks said h = cc
speaks_first None None None (Some cause) seeks said h = cc
speaks_first None None None None true said h = cc
speaks_first None None None None false said h = cc

-- what failed leaves nothing to say
failing_fits : (plan : CarPlan) (session : Option Session) (e : Option EndCause) (cause : EndCause) (live : Bool) → Fits plan session (failing e cause live).spoken
failing_fits plan session None cause live = tt
failing_fits plan session (Some ending) cause live = tt

-- something said
unchosen_again : (o : Option Session) (at : ℕ) → IsUnchosen o → IsUnchosen (option_map (awaiting at) o)
unchosen_again None at u = u
unchosen_again (Some session) at u = u

fresh_again : (part : Part) (e : Event) (stood : Bool) (o : Option Session) (at : ℕ) → IsFreshIn part e stood o → IsFreshIn part e stood (option_map (awaiting at) o)
fresh_again Unheard e stood o at f = tt
fresh_again Timing (Came token) true o at f = tt
fresh_again Timing (Came token) false o at f = unchosen_again o at f
fresh_again Timing (Bytes bytes) stood o at f = tt
fresh_again Timing Gone stood o at f = tt
fresh_again Timing (Datagram bytes) stood o at f = tt
fresh_again Timing (Plant event) stood o at f = tt
fresh_again Timing Clock stood o at f = tt
fresh_again Timing Over stood o at f = tt
fresh_again Eventing (Came token) true o at f = tt
fresh_again Eventing (Came token) false o at f = unchosen_again o at f
fresh_again Eventing (Bytes bytes) stood o at f = tt
fresh_again Eventing Gone stood o at f = tt
fresh_again Eventing (Datagram bytes) stood o at f = tt
fresh_again Eventing (Plant event) stood o at f = tt
fresh_again Eventing Clock stood o at f = tt
fresh_again Eventing Over stood o at f = tt
fresh_again Wording e stood o at f = tt

offered_stage : (plan : CarPlan) (steps : List Step) (bytes : List ℕ) (o : Option CarStage) (sent : Option ℕ) (at : ℕ) → o ≡ None → StageReads plan steps o sent
    → StageReads plan (Does (Say Offer bytes) true ∷ steps) o (Some at)
offered_stage plan steps bytes None sent at e g = g
offered_stage plan steps bytes (Some stage) sent at e g = cc

asked_stage : (plan : CarPlan) (steps : List Step) (d : Dialect) (request : Request) (bytes : List ℕ) (o : Option CarStage) (sent : Option ℕ) (at : ℕ) → at ≡ now steps
    → (stage : CarStage) × (o ≡ Some stage) × (request ≡ request_of plan stage) → StageReads plan steps o sent → StageReads plan (Does (Say (Asked d request) bytes) true ∷ steps) o (Some at)
asked_stage plan steps d request bytes None sent at t f g = let x : None ≡ Some f.0 = f.1 in cc
asked_stage plan steps d request bytes (Some stage) sent at t f g =
    let same : stage ≡ f.0 = cc in
    let is : request ≡ request_of plan stage = f.2 ∙ ap (request_of plan) (sym same) in (
      g.0,
      λ then h.
          let at_then : at ≡ then = cc in
          let sent_then : now steps ≡ then = sym t ∙ at_then in
          ap (λ (q : Request). Some (let y : Sent = record { request = q; at = now steps } in y)) is ∙ ap (λ (m : ℕ). Some (let y : Sent = record { request = request_of plan stage; at = m } in y)) sent_then,
    )

said_reads : (plan : CarPlan) (steps : List Step) (said : Spoken) (bytes : List ℕ) (over : Bool) (o : Option Session) (at : ℕ) → at ≡ now steps → Fits plan o (Some said) → Reads_by plan steps over o
    → Reads_by plan (Does (Say said bytes) true ∷ steps) over (option_map (awaiting at) o)
said_reads plan steps Offer bytes over None at t f k = absurd f
said_reads plan steps (Asked d request) bytes over None at t f k = absurd f
said_reads plan steps Offer bytes over (Some session) at t f k =
    record { stop_is = k.stop_is; sent_is = ap Some t; stage_is = offered_stage plan steps bytes session.stage session.moments.sent at f k.stage_is }
said_reads plan steps (Asked d request) bytes over (Some session) at t f k =
    record { stop_is = k.stop_is; sent_is = ap Some t; stage_is = asked_stage plan steps d request bytes session.stage session.moments.sent at t f k.stage_is }

-- an act that says nothing that was taken
abbrev Silent : Act → Bool → Type 0
Silent a taken = (steps : List Step) → (awaited (Does a taken ∷ steps) ≡ awaited steps) × (last_request (Does a taken ∷ steps) ≡ last_request steps)

stage_stays : (plan : CarPlan) (steps : List Step) (a : Act) (taken : Bool) (o : Option CarStage) (sent : Option ℕ) → Silent a taken → StageReads plan steps o sent → StageReads plan (Does a taken ∷ steps) o sent
stage_stays plan steps a taken None sent q g = let l = q steps in (l.1 ∙ g.0, g.1)
stage_stays plan steps a taken (Some stage) sent q g = let l = q steps in (g.0, λ at h. l.1 ∙ g.1 at h)

stays : (plan : CarPlan) (steps : List Step) (a : Act) (taken over : Bool) (o : Option Session) → Silent a taken → Reads_by plan steps over o → Reads_by plan (Does a taken ∷ steps) over o
stays plan steps a taken over None q k = λ h.
    let n : NothingRead steps = k h in let l = q steps in
    record { awaits_none = l.0 ∙ n.awaits_none; asked_none = l.1 ∙ n.asked_none; counts_none = n.counts_none }
stays plan steps a taken over (Some session) q k =
    let l = q steps in record { stop_is = k.stop_is; sent_is = k.sent_is ∙ sym l.0; stage_is = stage_stays plan steps a taken session.stage session.moments.sent q k.stage_is }

unsaid : (said : Spoken) (bytes : List ℕ) → Silent (Say said bytes) false
unsaid Offer bytes = λ steps. (refl, refl)
unsaid (Asked d request) bytes = λ steps. (refl, refl)

-- the act by which a thing is done
acted_keeps : (c : Codecs) (plan : CarPlan) (steps : List Step) (todo : states.Todo) (a : Act) (taken : Bool) (s : State) → first s.agenda ≡ Some todo → IsDone c plan todo a taken
    → Keeps plan steps s → Keeps plan (Does a taken ∷ steps) (acted a taken s)
acted_keeps c plan steps (states.Call port) a true s h d k = subst (λ (x : Act). Keeps plan (Does x true ∷ steps) (acted x true s)) (sym d)
    (record { clock_is = k.clock_is; reads = stays plan steps (Dial port) true s.over s.session (λ l. (refl, refl)) k.reads; fits = k.fits; fresh = k.fresh })
acted_keeps c plan steps (states.Call port) a false s h d k = subst (λ (x : Act). Keeps plan (Does x false ∷ steps) (acted x false s)) (sym d)
    (record { clock_is = k.clock_is; reads = stays plan steps (Dial port) false s.over s.session (λ l. (refl, refl)) k.reads; fits = failing_fits plan s.session s.agenda.ending SendFailed s.live; fresh = k.fresh })
acted_keeps c plan steps (states.Drive o) a true s h d k = subst (λ (x : Act). Keeps plan (Does x true ∷ steps) (acted x true s)) (sym d)
    (record { clock_is = k.clock_is; reads = stays plan steps (Give o) true s.over s.session (λ l. (refl, refl)) k.reads; fits = k.fits; fresh = k.fresh })
acted_keeps c plan steps (states.Drive o) a false s h d k = subst (λ (x : Act). Keeps plan (Does x false ∷ steps) (acted x false s)) (sym d)
    (record { clock_is = k.clock_is; reads = stays plan steps (Give o) false s.over s.session (λ l. (refl, refl)) k.reads; fits = failing_fits plan s.session s.agenda.ending OrderFailed _; fresh = k.fresh })
acted_keeps c plan steps (states.Speak said) a true s h d k =
    let i : IsSaid c plan said a = d in
    let sp : s.agenda.spoken ≡ Some said = speaks_first s.agenda.port s.agenda.order s.agenda.spoken s.agenda.ending s.agenda.seeks said h in
    let f : Fits plan s.session (Some said) = subst (λ (x : Option Spoken). Fits plan s.session x) sp k.fits in
    subst (λ (x : Act). Keeps plan (Does x true ∷ steps) (acted x true s)) (sym i.act_is)
    (record { clock_is = k.clock_is; reads = said_reads plan steps said _ s.over s.session s.clock k.clock_is f k.reads; fits = tt; fresh = fresh_again s.part s.event s.stood s.session s.clock k.fresh })
acted_keeps c plan steps (states.Speak said) a false s h d k =
    let i : IsSaid c plan said a = d in
    subst (λ (x : Act). Keeps plan (Does x false ∷ steps) (acted x false s)) (sym i.act_is)
    (record { clock_is = k.clock_is; reads = stays plan steps (Say said _) false s.over s.session (unsaid said _) k.reads; fits = failing_fits plan s.session s.agenda.ending SendFailed s.live; fresh = k.fresh })
acted_keeps c plan steps (states.Finish cause) a taken s h d k = subst (λ (x : Act). Keeps plan (Does x taken ∷ steps) (acted x taken s)) (sym d.0)
    (record { clock_is = k.clock_is; reads = λ o. (let x : true ≡ false = o in cc); fits = tt; fresh = tt })
acted_keeps c plan steps states.Inquire a taken s h d k = subst (λ (x : Act). Keeps plan (Does x taken ∷ steps) (acted x taken s)) (sym d)
    (record { clock_is = k.clock_is; reads = stays plan steps (Seek _) taken s.over s.session (λ l. (refl, refl)) k.reads; fits = k.fits; fresh = k.fresh })

-- a hearing
unheard : (steps : List Step) (at : ℕ) (e : Event) → NothingRead steps → NothingRead (Hears at e ∷ steps)
unheard steps at e n = record { awaits_none = n.awaits_none; asked_none = n.asked_none; counts_none = n.counts_none }

heard_reads : (plan : CarPlan) (steps : List Step) (at : ℕ) (e : Event) (over : Bool) (o : Option Session) → over ≡ false → Reads_by plan steps over o → Reads_by plan (Hears at e ∷ steps) over (session_heard e at o)
heard_reads plan steps at (Came token) over None v k =
    let n : NothingRead steps = k v in record { stop_is = refl; sent_is = sym n.awaits_none; stage_is = (n.asked_none, n.counts_none) }
heard_reads plan steps at (Bytes bytes) over None v k = λ w. unheard steps at (Bytes bytes) (k w)
heard_reads plan steps at Gone over None v k = λ w. unheard steps at Gone (k w)
heard_reads plan steps at (Datagram bytes) over None v k = λ w. unheard steps at (Datagram bytes) (k w)
heard_reads plan steps at (Plant event) over None v k = λ w. unheard steps at (Plant event) (k w)
heard_reads plan steps at Clock over None v k = λ w. unheard steps at Clock (k w)
heard_reads plan steps at Over over None v k = λ w. unheard steps at Over (k w)
heard_reads plan steps at e over (Some session) v k = record { stop_is = ap (stop_heard e) k.stop_is; sent_is = k.sent_is; stage_is = k.stage_is }

heard_fresh : (e : Event) (at : ℕ) (o : Option Session) → IsFresh e (is_some o) (session_heard e at o)
heard_fresh (Came token) at None = refl
heard_fresh (Came token) at (Some session) = tt
heard_fresh (Bytes bytes) at o = tt
heard_fresh Gone at o = tt
heard_fresh (Datagram bytes) at o = tt
heard_fresh (Plant event) at o = tt
heard_fresh Clock at o = tt
heard_fresh Over at o = tt

-- in every run
lost_reads : (plan : CarPlan) (steps : List Step) (over : Bool) (o : Option Session) → Reads_by plan steps over o → Reads_by plan (Loses ∷ steps) over o
lost_reads plan steps over None k = λ v. (let n : NothingRead steps = k v in record { awaits_none = n.awaits_none; asked_none = n.asked_none; counts_none = n.counts_none })
lost_reads plan steps over (Some session) k = record { stop_is = k.stop_is; sent_is = k.sent_is; stage_is = lost_stage plan steps session.stage session.moments.sent k.stage_is }
  where
    lost_stage : (plan : CarPlan) (steps : List Step) (o : Option CarStage) (sent : Option ℕ) → StageReads plan steps o sent → StageReads plan (Loses ∷ steps) o sent
    lost_stage plan steps None sent g = g
    lost_stage plan steps (Some stage) sent g = g

pub run_keeps : (c : Codecs) (plan : CarPlan) (past : List Entry) (steps : List Step) → IsRun c plan past steps → Keeps plan steps (state plan steps)
run_keeps c plan past [] r = record { clock_is = refl; reads = λ v. record { awaits_none = refl; asked_none = refl; counts_none = refl }; fits = tt; fresh = tt }
run_keeps c plan past (Hears at e ∷ steps) r =
    let m : MayHear plan r.0 (state plan steps) = r.2 in
    let k : Keeps plan steps (state plan steps) = run_keeps c plan r.0 steps r.1 in
    let s : State = state plan steps in
    record { clock_is = refl; reads = heard_reads plan steps at e s.over s.session m.lives k.reads; fits = tt; fresh = heard_fresh e at s.session }
run_keeps c plan past (Loses ∷ steps) r =
    let k : Keeps plan steps (state plan steps) = run_keeps c plan r.0 steps r.1 in
    let s : State = state plan steps in
    record { clock_is = k.clock_is; reads = lost_reads plan steps s.over s.session k.reads; fits = k.fits; fresh = k.fresh }
run_keeps c plan past (Reads w ∷ steps) r =
    read_keeps c plan steps (decided plan (state plan steps)) w r.1 (decided_keeps plan steps (state plan steps) (run_keeps c plan past steps r.0))
run_keeps c plan past (Does a taken ∷ steps) r =
    let m : MayAct c plan (state plan steps) a taken = r.2 in
    acted_keeps c plan steps m.todo a taken (decided plan (state plan steps)) m.acts m.done (decided_keeps plan steps (state plan steps) (run_keeps c plan r.0 steps r.1))

-- what that says of a session
cycles_read : (plan : CarPlan) (steps : List Step) (o : Option CarStage) (sent : Option ℕ) (stage : CarStage) → o ≡ Some stage → StageReads plan steps o sent → stage.cycles ≡ cycles steps
cycles_read plan steps None sent stage e g = cc
cycles_read plan steps (Some own) sent stage e g = let same : own ≡ stage = cc in ap (λ (x : CarStage). x.cycles) (sym same) ∙ g.0

asked_read : (plan : CarPlan) (steps : List Step) (o : Option CarStage) (sent : Option ℕ) (stage : CarStage) (at : ℕ) → o ≡ Some stage → sent ≡ Some at → StageReads plan steps o sent
    → last_request steps ≡ Some (record { request = request_of plan stage; at = at })
asked_read plan steps None sent stage at e h g = cc
asked_read plan steps (Some own) sent stage at e h g =
    let same : own ≡ stage = cc in
    g.1 at h ∙ ap (λ (x : CarStage). Some (let y : Sent = record { request = request_of plan x; at = at } in y)) same

pub readings_kept : (c : Codecs) (plan : CarPlan) (past : List Entry) (steps : List Step) (session : Session) → IsRun c plan past steps → (state plan steps).session ≡ Some session
    → KeepsReadings plan steps session
readings_kept c plan past steps session r e =
    let k : Keeps plan steps (state plan steps) = run_keeps c plan past steps r in
    let g : SessionReads plan steps session = subst (λ (x : Option Session). Reads_by plan steps (state plan steps).over x) e k.reads in
    record {
      stop_is = g.stop_is;
      sent_is = g.sent_is;
      cycles_are = λ stage h. cycles_read plan steps session.stage session.moments.sent stage h g.stage_is;
      asked = λ stage at h i. asked_read plan steps session.stage session.moments.sent stage at h i g.stage_is;
    }
