-- In every run a contactor is ordered closed only as mandated.
use Rattle.std.proofs.Common.{◌≡◌, ℕ, ◌+◌, Bool, true, false, List, [], ◌∷◌, ◌++◌, length, map, Option, Some, None, refl, sym, ap, subst, ◌∙◌, inr, MatchBool}
use Rattle.std.specs.Option.{option_map}
use Rattle.charge_world.specs.declared.heard.PlantEvent.TheVariants as plant
use Rattle.charge_world.specs.declared.ports.Order.{Order}
use Rattle.charge_world.specs.declared.ports.Order.TheVariants as order
use Rattle.session_words.specs.declared.cause.EndCause.{EndCause}
use Rattle.session_words.specs.declared.facts.Facts.{Facts}
use Rattle.session_words.specs.declared.plan.PostPlan.{PostPlan}
use Rattle.session_rules.specs.declared.stage.Stage.{Stage}
use Rattle.session_rules.specs.Causes.{needs_isolation}
use Rattle.session_rules.specs.Stages.{is_waiting}
use Rattle.post_spec.specs.Codecs.{Codecs}
use Rattle.post_spec.specs.Facts.{told_by, isolation_in, pilot, isolation}
use Rattle.post_spec.specs.Checked.{IsValidIfTold}
use Rattle.post_spec.specs.Sessions.{arriving, session_behind, session, with_seen, stream, waits, brought}
use Rattle.post_spec.specs.Spelled.{ReadsBack}
use Rattle.post_spec.specs.Steps.{Event, Came, Bytes, Gone, Datagram, Plant, Clock, Over, Act, Give, Send, Answer, End, Seen, Heard, Did, Step, Hears, Does, seen_of}
use Rattle.post_spec.specs.Talk.{Exchange, Unless, Talks}
use Rattle.station_spec.specs.States.{Spoken, Agenda, Session, State, nothing, fresh, first_session, first, first_of, is_none, is_done}
use Rattle.station_spec.specs.States as states
use Rattle.station_spec.specs.Deciding.{decided}
use Rattle.station_spec.specs.Judging.{filled}
use Rattle.station_spec.specs.Hearing.{heard_facts, arrival, session_opened, with_bytes, hearing}
use Rattle.station_spec.specs.Acting.{state}
use Rattle.station_spec.specs.Next.{IsQuiet, IsDone}
use Rattle.station_spec.specs.Sharing.{Shows}
use Rattle.station_laws.specs.PostRuns.{IsPostRun, ArePostsOf}
use Rattle.station_laws.proofs.Decided.{planned, same_session}
use Rattle.station_laws.proofs.PostRuns.{run_posts, post_at}
use Rattle.safe_runs.specs.Closing.{ClosesMandated, RunsCloseMandated}
use Rattle.safe_runs.proofs.Acted.{cabled_more, checked_more, delivers_in_more, acted_linked}
use Rattle.safe_runs.proofs.Filled.{filled_linked}
use Rattle.safe_runs.proofs.Growth.{AreWhole, grown, payload_stays}
use Rattle.safe_runs.proofs.Links.{Cabled, Rowed, Pending, Waits, Link, Tie, SameArrival, LinkedAt, Linked, Clear}
use Rattle.safe_runs.proofs.Parts.{decided_planned}
use Rattle.safe_runs.proofs.Rows.{is_charging}
use Rattle.safe_runs.proofs.Shut.{Still, Shut, done_still, decided_shut, filled_shut, with_more, with_row, first_still, acted_shut}

-- What a hearing tells.

heard_pilot : (past : List Seen) (at : ℕ) (e : Event) (f : Facts) → pilot past ≡ f.pilot → pilot (Heard at e ∷ past) ≡ (heard_facts e f).pilot
heard_pilot past at (Came token) f h = h
heard_pilot past at (Bytes bytes) f h = h
heard_pilot past at Gone f h = h
heard_pilot past at (Datagram bytes) f h = h
heard_pilot past at (Plant (plant.Pilot st)) f h = refl
heard_pilot past at (Plant (plant.Isolation level)) f h = h
heard_pilot past at (Plant (plant.Measured voltage current)) f h = h
heard_pilot past at (Plant (plant.Feedback closed)) f h = h
heard_pilot past at (Plant plant.Paid) f h = h
heard_pilot past at (Plant plant.Emergency) f h = h
heard_pilot past at (Plant plant.StopAsked) f h = h
heard_pilot past at (Plant plant.RenewAsked) f h = h
heard_pilot past at Clock f h = h
heard_pilot past at Over f h = h

heard_isolation : (past : List Seen) (at : ℕ) (e : Event) (f : Facts) → isolation past ≡ f.isolation → isolation (Heard at e ∷ past) ≡ (heard_facts e f).isolation
heard_isolation past at (Came token) f h = refl
heard_isolation past at (Bytes bytes) f h = h
heard_isolation past at Gone f h = h
heard_isolation past at (Datagram bytes) f h = h
heard_isolation past at (Plant (plant.Pilot st)) f h = h
heard_isolation past at (Plant (plant.Isolation level)) f h = refl
heard_isolation past at (Plant (plant.Measured voltage current)) f h = h
heard_isolation past at (Plant (plant.Feedback closed)) f h = h
heard_isolation past at (Plant plant.Paid) f h = h
heard_isolation past at (Plant plant.Emergency) f h = h
heard_isolation past at (Plant plant.StopAsked) f h = h
heard_isolation past at (Plant plant.RenewAsked) f h = h
heard_isolation past at Clock f h = h
heard_isolation past at Over f h = h

heard_arrival : (past : List Seen) (at : ℕ) (e : Event) → SameArrival (arriving (Heard at e ∷ past)) (arrival e)
heard_arrival past at (Came token) = (refl, refl)
heard_arrival past at (Bytes bytes) = tt
heard_arrival past at Gone = tt
heard_arrival past at (Datagram bytes) = tt
heard_arrival past at (Plant event) = tt
heard_arrival past at Clock = tt
heard_arrival past at Over = tt

-- A session goes on.

abbrev V : Event → Type 0
V e = IsValidIfTold (told_by isolation_in e)

cabled_heard : (b : Bool) (past : List Seen) (at : ℕ) (e : Event) (xs : List Exchange) → V e → MatchBool b (Cabled past xs) (Unit {0}) → MatchBool b (Cabled (Heard at e ∷ past) xs) (Unit {0})
cabled_heard true past at e xs v k = cabled_more past (Heard at e) xs v k
cabled_heard false past at e xs v k = tt

rowed_heard : (plan : PostPlan) (past : List Seen) (at : ℕ) (e : Event) (stage : Stage) (xs : List Exchange) → Rowed plan past stage xs (Unit {0}) → Rowed plan (Heard at e ∷ past) stage xs (V e)
rowed_heard plan past at e stage xs r = record { has = r.has; power = r.power; dialect = r.dialect; off = r.off; cabled = λ v. cabled_heard (needs_isolation stage.row) past at e xs v (r.cabled tt); delivers = delivers_in_more (is_charging stage.row) plan past (Heard at e) (needs_isolation stage.row) xs (Unit {0}) (V e) (λ v. tt) (λ v. v) r.delivers }

talk_heard : (c : Codecs) (plan : PostPlan) (past es : List Seen) (at : ℕ) (e : Event) (xs : List Exchange) (taken : ℕ) (stage : Stage) (b : Bool) → AreWhole taken (stream es)
    → MatchBool b (Waits c plan past es xs taken stage None (Unit {0})) (Pending c plan past es xs taken stage None None (Unit {0}))
    → MatchBool b (Waits c plan (Heard at e ∷ past) (Heard at e ∷ es) xs taken stage None (V e)) (Pending c plan (Heard at e ∷ past) (Heard at e ∷ es) xs taken stage None None (V e))
talk_heard c plan past es at e xs taken stage true w t =
    let whole = subst (λ (n : ℕ). AreWhole n (stream es)) t.count w in
    record {
      count = t.count;
      request = t.request;
      asks = record { payload = t.asks.payload; place = payload_stays (length xs) (stream es) (brought e) t.asks.payload whole.0 t.asks.place; reads = t.asks.reads; dialect_is = t.asks.dialect_is };
      start = t.start;
      ok = t.ok;
      rowed = rowed_heard plan past at e stage xs t.rowed;
      prepared = t.prepared;
      checked = λ v. checked_more (needs_isolation stage.row) past (Heard at e) xs v (t.checked tt);
      ready = t.ready;
    }
talk_heard c plan past es at e xs taken stage false w t = (t.0, rowed_heard plan past at e stage xs t.1)

link_heard : (c : Codecs) (plan : PostPlan) (past es : List Seen) (at : ℕ) (e : Event) (stage : Stage) (unread : List ℕ) → arriving past ≡ None → Link c plan past es stage unread None None (Unit {0})
    → Link c plan (Heard at e ∷ past) (Heard at e ∷ es) stage (unread ++ brought e) None None (V e)
link_heard c plan past es at e stage unread a l =
    let g = grown l.taken (stream es) (brought e) l.whole in
    record {
      xs = l.xs;
      talks = subst (λ (o : Option Seen). Unless o (Talks c plan.dialects.items past l.xs) (l.xs ≡ [])) (sym a) l.talks;
      ok = l.ok;
      taken = l.taken;
      whole = g.whole;
      unread_is = ap (λ (bs : List ℕ). bs ++ brought e) l.unread_is ∙ sym g.behind;
      quiet = l.quiet;
      talk = talk_heard c plan past es at e l.xs l.taken stage (is_waiting stage.row) l.whole l.talk;
    }

-- or one begins
link_opened : (c : Codecs) (plan : PostPlan) (past : List Seen) (came : Seen) (at token now : ℕ) (e : Event) → arriving past ≡ Some came → stream (came ∷ []) ≡ [] → waits (came ∷ []) ≡ false
    → Link c plan (Heard at e ∷ past) (Heard at e ∷ came ∷ []) (first_session token now).stage ([] ++ brought e) None None (V e)
link_opened c plan past came at token now e a s w = record {
  xs = [];
  talks = let none : List Exchange = [] in let same : none ≡ none = refl in subst (λ (o : Option Seen). Unless o (Talks c plan.dialects.items past none) (none ≡ none)) (sym a) same;
  ok = tt;
  taken = 0;
  whole = tt;
  unread_is = ap (λ (bs : List ℕ). bs ++ brought e) (sym s);
  quiet = λ q. w;
  talk = (refl, record { has = refl; power = tt; dialect = refl; off = refl; cabled = λ v. tt; delivers = tt });
}

tie_heard : (c : Codecs) (plan : PostPlan) (past : List Seen) (at now : ℕ) (e : Event) (came : Option Seen) (arrived : Option ℕ) (es : Option (List Seen)) (kept : Option Session) → arriving past ≡ came → SameArrival came arrived
    → Tie c plan past None es kept None None (Unit {0})
    → Tie c plan (Heard at e ∷ past) None (with_seen (Heard at e) (session_behind came es)) (option_map (with_bytes (brought e)) (session_opened arrived now kept)) None None (V e)
tie_heard c plan past at now e None (Some token) es kept a s t = absurd s
tie_heard c plan past at now e (Some came) None es kept a s t = absurd s
tie_heard c plan past at now e (Some came) (Some token) es kept a s t = link_opened c plan past came at token now e a s.0 s.1
tie_heard c plan past at now e None None None None a s t = tt
tie_heard c plan past at now e None None None (Some ss) a s t = absurd t
tie_heard c plan past at now e None None (Some es) None a s t = absurd t
tie_heard c plan past at now e None None (Some es) (Some ss) a s t = link_heard c plan past es at e ss.stage ss.unread a t

heard_linked : (c : Codecs) (plan : PostPlan) (past : List Seen) (at : ℕ) (e : Event) (s : State) → Clear c plan past s → Linked c plan (Heard at e ∷ past) (hearing at e s)
heard_linked c plan past at e s l = record {
  arrives = heard_arrival past at e;
  pilot_is = heard_pilot past at e s.facts l.pilot_is;
  isolation_is = heard_isolation past at e s.facts l.isolation_is;
  tie = tie_heard c plan past at s.clock e (arriving past) s.arrived (session past) s.session refl l.arrives l.tie;
  closing = λ h. absurd (let x : None ≡ Some order.Close = h in cc);
}

-- at rest nothing is left to do
pub quiet_clear : (c : Codecs) (plan : PostPlan) (past : List Seen) (s : State) → Linked c plan past s → IsQuiet plan s → Clear c plan past s
quiet_clear c plan past s l q =
    let p = planned plan s in
    let k = (decided_planned c plan past s l).clear (ap is_none q.none) in
    subst (λ (t : State). LinkedAt c plan past t.arrived t.facts t.session nothing (Unit {0})) p.is k

-- a reply that waits has its Close
heard_still : (past : List Seen) (at now : ℕ) (e : Event) (came : Option Seen) (arrived : Option ℕ) (lives : Option (List Seen)) (kept : Option Session) → SameArrival came arrived → Still lives kept
    → Still (with_seen (Heard at e) (session_behind came lives)) (option_map (with_bytes (brought e)) (session_opened arrived now kept))
heard_still past at now e None (Some token) lives kept a k = absurd a
heard_still past at now e (Some came) None lives kept a k = absurd a
heard_still past at now e (Some came) (Some token) lives kept a k = first_still (with_seen (Heard at e) (Some (came ∷ []))) token now (brought e)
heard_still past at now e None None lives kept a k = with_row (with_seen (Heard at e) lives) kept (with_bytes (brought e)) (λ ss. refl) (with_more (Heard at e) lives kept (λ es w. w) k)

-- every run of a post
pub record Tied (c : Codecs) (plan : PostPlan) (past : List Seen) (s : State) : Type 0 where
  pub linked : Linked c plan past s
  pub shut : Shut past s

pub quiet_still : (plan : PostPlan) (past : List Seen) (s : State) → Shut past s → IsQuiet plan s → Still (session past) s.session
quiet_still plan past s k q = subst (λ (kept : Option Session). Still (session past) kept) (same_session plan s) (done_still past (decided plan s) (ap is_none q.none) (decided_shut plan past s k))

pub run_tied : (c : Codecs) (plan : PostPlan) (steps : List Step) → ReadsBack c → IsPostRun c plan steps → Tied c plan (map seen_of steps) (state plan steps)
run_tied c plan [] back run = record {
  linked = record { arrives = tt; pilot_is = refl; isolation_is = refl; tie = tt; closing = λ h. absurd (let x : None ≡ Some order.Close = h in cc) };
  shut = λ e. inr (λ es ss l k w. cc);
}
run_tied c plan (Hears at e ∷ steps) back run =
    let past = map seen_of steps in
    let s = state plan steps in
    let t = run_tied c plan steps back run.0 in
    let k = quiet_clear c plan past s t.linked run.1 in
    record {
      linked = heard_linked c plan past at e s k;
      shut = λ h. inr (heard_still past at s.clock e (arriving past) s.arrived (session past) s.session k.arrives (quiet_still plan past s t.shut run.1));
    }
run_tied c plan (Does r a taken ∷ steps) back (run, (limit, before, behind, acts)) =
    let past = map seen_of steps in
    let s = state plan steps in
    let t = run_tied c plan steps back run in
    let u = filled_shut c plan (Shows limit before behind) past s r acts.read t.shut in
    record {
      linked = acted_linked c plan past (filled plan r s) acts.todo a taken back u acts.acts acts.done (filled_linked c plan (Shows limit before behind) past s r acts.read t.linked);
      shut = acted_shut c past (filled plan r s) acts.todo a taken acts.acts acts.done u;
    }

pub run_linked : (c : Codecs) (plan : PostPlan) (steps : List Step) → ReadsBack c → IsPostRun c plan steps → Linked c plan (map seen_of steps) (state plan steps)
run_linked c plan steps back run = (run_tied c plan steps back run).linked

-- an order to close was decided
close_todo : (c : Codecs) (todo : states.Todo) (a : Act) (taken : Bool) → IsDone c todo a taken → a ≡ Give order.Close → todo ≡ states.Give order.Close
close_todo c (states.Tell d) a taken i h = absurd (let x : Answer d ≡ Give order.Close = sym i ∙ h in cc)
close_todo c (states.Give o) a taken i h = let x : Give o ≡ Give order.Close = sym i ∙ h in let y : o ≡ order.Close = cc in ap states.Give y
close_todo c (states.Say spoken) a taken i h = absurd (let x : Send i.0 ≡ Give order.Close = sym i.2 ∙ h in cc)
close_todo c (states.Finish cause) a taken i h = absurd (let x : End _ ≡ Give order.Close = sym i.0 ∙ h in cc)

close_first : (d : Option (List ℕ)) (o : Option Order) (r : Option Spoken) (e : Option EndCause) → first_of d o r e ≡ Some (states.Give order.Close) → o ≡ Some order.Close
close_first (Some d) o r e h = cc
close_first None (Some o) r e h = cc
close_first None None (Some r) e h = cc
close_first None None None (Some e) h = cc
close_first None None None None h = cc

act_is : (a : Act) (taken t : Bool) (o : Order) → Did a taken ≡ Did (Give o) t → a ≡ Give o
act_is a taken t o h = cc

run_closes : (c : Codecs) (plan : PostPlan) (steps : List Step) → ReadsBack c → IsPostRun c plan steps → ClosesMandated c plan (map seen_of steps)
run_closes c plan [] back run = tt
run_closes c plan (Hears at e ∷ steps) back run = (run_closes c plan steps back run.0, λ t h. absurd (cc))
run_closes c plan (Does r a taken ∷ steps) back (run, (limit, before, behind, acts)) =
    let past = map seen_of steps in
    let l = filled_linked c plan (Shows limit before behind) past (state plan steps) r acts.read (run_linked c plan steps back run) in
    let f = filled plan r (state plan steps) in (
      run_closes c plan steps back run,
      λ t h.
          let todo = close_todo c acts.todo a taken acts.done (act_is a taken t order.Close h) in
          let o = close_first f.agenda.datagram f.agenda.order f.agenda.reply f.agenda.ending (acts.acts ∙ ap Some todo) in
          (l.closing o).1,
    )

pub runs_close : (c : Codecs) → RunsCloseMandated c
runs_close c site past posts before post behind back run is =
    let all = subst (ArePostsOf c past 1) is (run_posts c site past posts run) in
    let k = post_at c past (length before + 1) 1 before post behind refl all in
    subst (ClosesMandated c post.plan) (sym k.seen_is) (run_closes c post.plan post.steps back k.run)
