-- In every run the tie holds, so that where a car orders its contactor closed its session is mandated to it.
use Rattle.std.proofs.Common.{◌≡◌, ℕ, suc, Bool, true, false, if◌then◌else◌, List, [], ◌∷◌, length, Option, Some, None, is_some, refl, sym, ap, subst, ◌∙◌, MatchBool}
use Rattle.charge_world.specs.declared.entry.Entry.{Entry}
use Rattle.charge_world.specs.declared.entry.Entry.TheVariants as entry
use Rattle.charge_world.specs.declared.offer.Dialect.{Dialect}
use Rattle.charge_world.specs.declared.ports.Order.{Order}
use Rattle.charge_world.specs.declared.ports.Order.TheVariants as order
use Rattle.session_words.specs.declared.cause.EndCause.{EndCause}
use Rattle.session_words.specs.declared.plan.CarPlan.{CarPlan}
use Rattle.car_rules.specs.declared.stage.CarStage.{CarStage}
use Rattle.session_rules.specs.Finishing.{is_ac}
use Rattle.post_spec.specs.Steps.{Event}
use Rattle.station_spec.specs.Acting.{live_ordered}
use Rattle.car_spec.specs.Acting.{failing, acted, state}
use Rattle.car_spec.specs.Answered.{Exchange, exchanges, has_start, has_charge, may_close}
use Rattle.car_spec.specs.Codecs.{Codecs}
use Rattle.car_spec.specs.Deciding.{decided}
use Rattle.car_spec.specs.Hearing.{session_heard}
use Rattle.car_spec.specs.Mandated.{IsStarted, IsPreCharged, CarMandated}
use Rattle.car_spec.specs.Next.{IsDone, IsSaid, MayAct}
use Rattle.car_spec.specs.Past.{came, stream, said}
use Rattle.car_spec.specs.Runs.{IsRun, IsHeard, MayHear}
use Rattle.car_spec.specs.Spelled.{ReadsBack, AreDetermined}
use Rattle.car_spec.specs.States.{Agenda, Session, State, first_of, first, is_none, nothing}
use Rattle.car_spec.specs.States as states
use Rattle.car_spec.specs.Steps.{Spoken, Act, Seek, Dial, Give, Say, End, Step, Hears, Loses, Reads, Does, entry_of}
use Rattle.car_laws.proofs.Closing.{closes_by_words}
use Rattle.car_laws.proofs.Decided.{same_over}
use Rattle.car_laws.proofs.Kept.{decided_keeps}
use Rattle.car_laws.proofs.KeptActs.{run_keeps}
use Rattle.car_laws.proofs.Silent.{before_step}
use Rattle.car_closings.specs.Reading.{words_read}
use Rattle.car_closings.proofs.Acts.{whole_in, acted_ties, heard_ties}
use Rattle.car_closings.proofs.Agendas.{decided_settles}
use Rattle.car_closings.proofs.Exchanged.{AreExchanged, started_by_bytes, charged_by_bytes}
use Rattle.car_closings.proofs.Growth.{same_past}
use Rattle.car_closings.proofs.Heard.{heard_as}
use Rattle.car_closings.proofs.Streams.{Streams, same_session, reads_front, run_streams, decided_run_streams}
use Rattle.car_closings.proofs.Ties.{is_fresh, is_new, StageTie, SaidTie, Stills, Unlinked, TieBy, Tied, Settled, IsEmpty, empty, Lessens, tie_stays, tie_as}
use Rattle.car_closings.proofs.Words.{read_tied}

-- what is decided is of the tie behind any steps
settled : (c : Codecs) (plan : CarPlan) (past : List Entry) (steps : List Step) → (state plan steps).over ≡ false → IsRun c plan past steps → Tied c plan past (exchanges steps) (words_read steps) (state plan steps)
    → Settled c plan past (exchanges steps) (words_read steps) (decided plan (state plan steps))
settled c plan past steps v r k = decided_settles c plan past (exchanges steps) (words_read steps) steps (state plan steps) v (run_keeps c plan past steps r) k

-- a hearing comes behind a whole block
heard_tied : (c : Codecs) (plan : CarPlan) (earlier past : List Entry) (steps : List Step) (s : State) (xs : List Exchange) (n at : ℕ) (e : Event) → MayHear plan earlier s → IsHeard earlier past at e
    → Streams (came earlier) (stream earlier) n s.over s.session → Settled c plan earlier xs n (decided plan s)
    → TieBy c plan past xs n s.over nothing (is_new e (is_some s.session)) None (session_heard e at s.session)
heard_tied c plan earlier past steps s xs n at e m h i k =
    let t : State = decided plan s in
    let b : IsEmpty t.agenda = empty t.agenda (ap is_none m.whole.none) in
    let v : t.over ≡ false = same_over plan s ∙ m.lives in
    let own : TieBy c plan earlier xs n false t.agenda false None s.session =
    subst (λ (o : Option Session). TieBy c plan earlier xs n false t.agenda false None o) (same_session plan s)
    (subst (λ (w : Bool). TieBy c plan earlier xs n w t.agenda false None t.session) v
    (subst (λ (x : Option EndCause). TieBy c plan earlier xs n t.over t.agenda false x t.session) b.no_cause k.tie)) in
    let streams : Streams (came earlier) (stream earlier) n false s.session = subst (λ (w : Bool). Streams (came earlier) (stream earlier) n w s.session) m.lives i in
    subst (λ (p : List Entry). TieBy c plan p xs n s.over nothing (is_new e (is_some s.session)) None (session_heard e at s.session)) (sym h.past_is)
    (subst (λ (w : Bool). TieBy c plan (heard_as h.heard.at h.heard.what h.bytes ∷ earlier) xs n w nothing (is_new e (is_some s.session)) None (session_heard e at s.session)) (sym m.lives)
    (heard_ties c plan h.heard.at at h.heard.what h.bytes earlier xs n e s.session t.agenda h.of_car b.unspoken streams own))

same_agenda : (a : Agenda) (fresh : Bool) → Lessens a a fresh
same_agenda a fresh = record { spoken_is = refl; stays_no_order = λ h. h; closes_alike = λ h. h; stays_done = λ f h. h }

lost_tied : (c : Codecs) (plan : CarPlan) (past : List Entry) (xs : List Exchange) (n : ℕ) (s : State) → Streams (came past) (stream past) n s.over s.session → Tied c plan past xs n s → Tied c plan (entry.Lost ∷ past) xs n s
lost_tied c plan past xs n s i k =
    tie_stays c plan past (entry.Lost ∷ past) xs n s.over s.agenda s.agenda (is_fresh s.part s.event s.stood) s.agenda.ending s.session (same_past past (entry.Lost ∷ past) refl (λ place. refl)) refl
    (whole_in (came past) (stream past) n s.over s.session i) (same_agenda s.agenda _) k

-- an act changes nothing of the hearing
has_cause : (e : Option EndCause) (cause : EndCause) (live : Bool) → (failing e cause live).ending ≡ None → ⊥
has_cause None cause live h = cc
has_cause (Some ending) cause live h = cc

stays_old : (a : Act) (taken : Bool) (t : State) → (t.agenda.ending ≡ None → is_fresh t.part t.event t.stood ≡ false) → (acted a taken t).agenda.ending ≡ None
    → is_fresh (acted a taken t).part (acted a taken t).event (acted a taken t).stood ≡ false
stays_old (Seek d) taken t o e = o e
stays_old (Dial port) true t o e = o e
stays_old (Dial port) false t o e = absurd (has_cause t.agenda.ending _ t.live e)
stays_old (Give order) true t o e = o e
stays_old (Give order) false t o e = absurd (has_cause t.agenda.ending _ (live_ordered order false t.live) e)
stays_old (Say spoken bytes) true t o e = o e
stays_old (Say spoken bytes) false t o e = absurd (has_cause t.agenda.ending _ t.live e)
stays_old (End cause) taken t o e = refl

acted_tied : (c : Codecs) (plan : CarPlan) (past : List Entry) (xs : List Exchange) (n : ℕ) (a : Act) (taken : Bool) (s : State) → ReadsBack c → s.over ≡ false → MayAct c plan s a taken
    → Streams (came past) (stream past) n (decided plan s).over (decided plan s).session → Settled c plan past xs n (decided plan s)
    → Tied c plan (entry_of a taken ∷ past) xs n (acted a taken (decided plan s))
acted_tied c plan past xs n a taken s back v m i k =
    let t : State = decided plan s in
    tie_as c plan (entry_of a taken ∷ past) xs n (acted a taken t).over (acted a taken t).agenda _ (acted a taken t).agenda.ending (acted a taken t).session (stays_old a taken t k.old)
    (acted_ties c plan past xs n m.todo a taken t back (same_over plan s ∙ v) m.acts m.done (whole_in (came past) (stream past) n t.over t.session i) k.tie)

run_tied : (c : Codecs) → ReadsBack c → (plan : CarPlan) (past : List Entry) (steps : List Step) → IsRun c plan past steps → Tied c plan past (exchanges steps) (words_read steps) (state plan steps)
run_tied c back plan past [] r = subst (λ (p : List Entry). Tied c plan p [] 0 (state plan [])) (sym r) (λ v. record { none_said = refl; none_read = refl; none_exchanged = refl; unspoken = refl; no_order = refl })
run_tied c back plan past (Hears at e ∷ steps) r =
    let m : MayHear plan r.0 (state plan steps) = r.2 in
    heard_tied c plan r.0 past steps (state plan steps) (exchanges steps) (words_read steps) at e m r.3 (run_streams c plan r.0 steps r.1) (settled c plan r.0 steps m.lives r.1 (run_tied c back plan r.0 steps r.1))
run_tied c back plan past (Loses ∷ steps) r =
    subst (λ (p : List Entry). Tied c plan p (exchanges steps) (words_read steps) (state plan steps)) (sym r.3)
    (lost_tied c plan r.0 (exchanges steps) (words_read steps) (state plan steps) (run_streams c plan r.0 steps r.1) (run_tied c back plan r.0 steps r.1))
run_tied c back plan past (Reads w ∷ steps) r =
    let t : State = decided plan (state plan steps) in
    read_tied c plan past steps (words_read steps) t w (came past) t.over (reads_front c plan t w r.1) (decided_run_streams c plan past steps r.0)
    (decided_keeps plan steps (state plan steps) (run_keeps c plan past steps r.0))
    (settled c plan past steps (before_step c plan past (Reads w) steps r) r.0 (run_tied c back plan past steps r.0))
run_tied c back plan past (Does a taken ∷ steps) r =
    let v : (state plan steps).over ≡ false = before_step c plan past (Does a taken) steps r in
    subst (λ (p : List Entry). Tied c plan p (exchanges steps) (words_read steps) (acted a taken (decided plan (state plan steps)))) (sym r.3)
    (acted_tied c plan r.0 (exchanges steps) (words_read steps) a taken (state plan steps) back v r.2 (decided_run_streams c plan r.0 steps r.1)
    (settled c plan r.0 steps v r.1 (run_tied c back plan r.0 steps r.1)))

-- an order that is given is the one that is to be given
gives_first : (p : Option ℕ) (o : Option Order) (sp : Option Spoken) (e : Option EndCause) (seeks : Bool) (given : Order) → first_of p o sp e seeks ≡ Some (states.Drive given) → o ≡ Some given
gives_first (Some port) o sp e seeks given h = cc
gives_first None (Some other) sp e seeks given h = cc
gives_first None None (Some said) e seeks given h = cc
gives_first None None None (Some cause) seeks given h = cc
gives_first None None None None true given h = cc
gives_first None None None None false given h = cc

close_is : (c : Codecs) (plan : CarPlan) (todo : states.Todo) (taken : Bool) → IsDone c plan todo (Give order.Close) taken → todo ≡ states.Drive order.Close
close_is c plan (states.Call port) taken d = cc
close_is c plan (states.Drive o) taken d = let x : order.Close ≡ o = cc in ap states.Drive (sym x)
close_is c plan (states.Speak said) taken d = let i : IsSaid c plan said (Give order.Close) = d in let x : Give order.Close ≡ Say said _ = i.act_is in cc
close_is c plan (states.Finish why) taken d = let x : Give order.Close ≡ End _ = d.0 in cc
close_is c plan states.Inquire taken d = cc

close_first : (c : Codecs) (plan : CarPlan) (s : State) (taken : Bool) → MayAct c plan s (Give order.Close) taken → (decided plan s).agenda.order ≡ Some order.Close
close_first c plan s taken m =
    let a : Agenda = (decided plan s).agenda in
    let f : first a ≡ Some (states.Drive order.Close) = m.acts ∙ ap Some (close_is c plan m.todo taken m.done) in
    gives_first a.port a.order a.spoken a.ending a.seeks order.Close f

-- what mandates it
closes_not : (plan : CarPlan) (b : Bool) → (if b then false else false) ≡ true → ⊥
closes_not plan true h = cc
closes_not plan false h = cc

prepared_by : (c : Codecs) (plan : CarPlan) (past : List Entry) (xs : List Exchange) (d : Dialect) (b : Bool) → AreDetermined c → said past ≡ suc (length xs) → AreExchanged c d past xs → (if b then has_start xs else has_charge xs) ≡ true
    → MatchBool b (IsStarted c d past) (IsPreCharged c d past)
prepared_by c plan past xs d true det s k h = started_by_bytes c d past xs det s k h
prepared_by c plan past xs d false det s k h = charged_by_bytes c d past xs det s k h

staged_mandated : (c : Codecs) (plan : CarPlan) (past : List Entry) (xs : List Exchange) (n : ℕ) (o : Option CarStage) → AreDetermined c → StageTie c plan past xs n o → said past ≡ n → may_close plan xs ≡ true → CarMandated c plan past
staged_mandated c plan past xs n None det k s h =
    let none : may_close plan [] ≡ true = subst (λ (l : List Exchange). may_close plan l ≡ true) k.1 h in absurd (closes_not plan (is_ac plan.mode) none)
staged_mandated c plan past xs n (Some stage) det k s h =
    record { dialect = stage.dialect; chosen = k.1; prepared = prepared_by c plan past xs stage.dialect (is_ac plan.mode) det (s ∙ k.0) k.2 h }

unsent : (c : Codecs) (plan : CarPlan) (past : List Entry) (n : ℕ) (stage : Option CarStage) (again : Option ℕ) (a : Agenda) (sent : Option ℕ) → a.order ≡ Some order.Close → Stills again a sent → SaidTie c plan past n stage sent → said past ≡ n
unsent c plan past n stage again a None h q k = k
unsent c plan past n stage again a (Some at) h q k = let x : None ≡ Some order.Close = sym q.no_order ∙ h in cc

tied_mandated : (c : Codecs) (plan : CarPlan) (past : List Entry) (xs : List Exchange) (n : ℕ) (over : Bool) (a : Agenda) (e : Option EndCause) (o : Option Session) → AreDetermined c → over ≡ false → a.order ≡ Some order.Close
    → may_close plan xs ≡ true → TieBy c plan past xs n over a false e o → CarMandated c plan past
tied_mandated c plan past xs n over a (Some cause) o det v h m k = absurd (k h)
tied_mandated c plan past xs n over a None None det v h m k = let u : Unlinked past xs n a = k v in let x : None ≡ Some order.Close = sym u.no_order ∙ h in cc
tied_mandated c plan past xs n over a None (Some session) det v h m k =
    staged_mandated c plan past xs n session.stage det k.staged (unsent c plan past n session.stage session.again a session.moments.sent h k.still k.said_is) m

pub close_mandated : (c : Codecs) → ReadsBack c → AreDetermined c → (plan : CarPlan) (past : List Entry) (steps : List Step) (taken : Bool) → (r : IsRun c plan past (Does (Give order.Close) taken ∷ steps))
    → CarMandated c plan r.0
close_mandated c back det plan past steps taken r =
    let s : State = state plan steps in
    let v : s.over ≡ false = before_step c plan past (Does (Give order.Close) taken) steps r in
    let k : Settled c plan r.0 (exchanges steps) (words_read steps) (decided plan s) = settled c plan r.0 steps v r.1 (run_tied c back plan r.0 steps r.1) in
    tied_mandated c plan r.0 (exchanges steps) (words_read steps) (decided plan s).over (decided plan s).agenda (decided plan s).agenda.ending (decided plan s).session det (same_over plan s ∙ v) (close_first c plan s taken r.2)
    (closes_by_words c plan past steps taken r) k.tie
