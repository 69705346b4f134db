-- A connection ends the session before it in the block in which it begins.
use Rattle.std.proofs.Common.{◌≡◌, ℕ, Bool, true, false, List, [], ◌∷◌, Option, Some, None, is_some, refl, sym, ap, subst, ◌∙◌}
use Rattle.std.specs.Option.{option_map}
use Rattle.charge_world.specs.declared.ports.Order.{Order}
use Rattle.session_words.specs.declared.cause.EndCause.{EndCause}
use Rattle.session_words.specs.declared.plan.PostPlan.{PostPlan}
use Rattle.post_spec.specs.Codecs.{Judged, Negotiated, Asked, WrongSide, Refused, Codecs}
use Rattle.post_spec.specs.Steps.{Event, Came, Bytes, Gone, Datagram, Plant, Clock, Over, Act, Give, Send, Answer, End, Reading, Step, Hears, Does}
use Rattle.station_spec.specs.States.{Spoken, Agenda, Part, Repeating, Timing, Eventing, Wording, Session, State, first_of, is_none, is_done}
use Rattle.station_spec.specs.Deciding.{ending_in, repeating, timing, eventing, fronting, decide, from_wording, from_eventing, from_timing, from_part, decided}
use Rattle.station_spec.specs.Judging.{Payload, wanted, judged, taken_in, read, filled, IsRead}
use Rattle.station_spec.specs.Hearing.{arrival}
use Rattle.station_spec.specs.Acting.{failing, agenda_said, acted, state}
use Rattle.station_spec.specs.Next.{IsQuiet}
use Rattle.station_spec.specs.Sharing.{Shows}
use Rattle.station_laws.specs.PostRuns.{IsPostRun}
use Rattle.station_laws.proofs.Decided.{planned}

abbrev HasCome : Event → Type 0
HasCome e = is_some (arrival e) ≡ true

-- behind the third part of a hearing a session before that connection has its cause, or is gone
pub record Left (s : State) : Type 0 where
  pub same : s.arrived ≡ arrival s.event
  pub gone : s.part ≡ Wording → HasCome s.event → s.agenda.ending ≡ None → s.session ≡ None

-- where nothing is left to be decided, it is gone
pub record LeftFor (s : State) : Type 0 where
  pub left : Left s
  pub over : is_done s.agenda ≡ true → HasCome s.event → s.session ≡ None

ending_of : (d : Option (List ℕ)) (o : Option Order) (r : Option Spoken) (e : Option EndCause) → is_none (first_of d o r e) ≡ true → e ≡ None
ending_of None None None None h = refl
ending_of None None None (Some k) h = cc
ending_of None None (Some r) e h = cc
ending_of None (Some o) r e h = cc
ending_of (Some d) o r e h = cc

done_ending : (a : Agenda) → is_done a ≡ true → a.ending ≡ None
done_ending a h = ending_of a.datagram a.order a.reply a.ending h

left_in : (kept : Option Session) (cause : EndCause) (live : Bool) → (ending_in kept cause live).ending ≡ None → kept ≡ None
left_in None cause live n = refl
left_in (Some ss) cause live n = cc

came_leaves : (plan : PostPlan) (s : State) (e : Event) → HasCome e → (eventing plan e s).ending ≡ None → s.session ≡ None
came_leaves plan s (Came token) h n = left_in s.session _ s.live n
came_leaves plan s (Bytes bytes) h n = cc
came_leaves plan s Gone h n = cc
came_leaves plan s (Datagram bytes) h n = cc
came_leaves plan s (Plant event) h n = cc
came_leaves plan s Clock h n = cc
came_leaves plan s Over h n = cc

-- part by part
decide_left : (agenda : Agenda) (part : Part) (s rest : State) (b : Bool) → is_done agenda ≡ b → Left (record s { agenda = agenda; part = part }) → (is_done agenda ≡ true → LeftFor rest) → LeftFor (decide agenda part s rest)
decide_left agenda part s rest true e l q = rw e (q e)
decide_left agenda part s rest false e l q = rw e (record { left = l; over = λ d. absurd (let x : true ≡ false = sym d ∙ e in cc) })

wording_left : (s : State) → s.arrived ≡ arrival s.event → (HasCome s.event → s.session ≡ None) → LeftFor (from_wording s)
wording_left s a k =
    decide_left (fronting s.session s.live) Wording s s _ refl (record { same = a; gone = λ p h n. k h }) (λ d. record { left = record { same = a; gone = λ p h n. k h }; over = λ e h. k h })

eventing_left : (plan : PostPlan) (s : State) → s.arrived ≡ arrival s.event → LeftFor (from_eventing plan s)
eventing_left plan s a = decide_left (eventing plan s.event s) Wording s (from_wording s) _ refl (record { same = a; gone = λ p h n. came_leaves plan s s.event h n })
    (λ d. wording_left s a (λ h. came_leaves plan s s.event h (done_ending (eventing plan s.event s) d)))

timing_left : (plan : PostPlan) (s : State) → s.arrived ≡ arrival s.event → LeftFor (from_timing plan s)
timing_left plan s a = decide_left (timing s.session s.clock s.live) Eventing s (from_eventing plan s) _ refl (record { same = a; gone = λ p h n. absurd (cc) }) (λ d. eventing_left plan s a)

part_left : (plan : PostPlan) (part : Part) (s : State) → s.part ≡ part → is_done s.agenda ≡ true → Left s → LeftFor (from_part plan part s)
part_left plan Repeating s p d l = decide_left (repeating s.facts.contactor) Timing s (from_timing plan s) _ refl (record { same = l.same; gone = λ q h n. absurd (cc) }) (λ e. timing_left plan s l.same)
part_left plan Timing s p d l = timing_left plan s l.same
part_left plan Eventing s p d l = eventing_left plan s l.same
part_left plan Wording s p d l = wording_left s l.same (λ h. l.gone p h (done_ending s.agenda d))

decided_if : (plan : PostPlan) (s : State) (b : Bool) → is_done s.agenda ≡ b → Left s → LeftFor (decided plan s)
decided_if plan s true e l = rw e (part_left plan s.part s refl e l)
decided_if plan s false e l = rw e (record { left = l; over = λ d. absurd (let x : true ≡ false = sym d ∙ e in cc) })

decided_left : (plan : PostPlan) (s : State) → Left s → LeftFor (decided plan s)
decided_left plan s l = decided_if plan s (is_done s.agenda) refl l

-- a word is of a session that hasn't been left
some_none : (ss : Session) (kept : Option Session) → kept ≡ Some ss → kept ≡ None → ⊥
some_none ss kept h n = absurd (let x : Some ss ≡ None = sym h ∙ n in cc)

judged_left : (plan : PostPlan) (s : State) (ss : Session) (x : Judged) (shown : ℕ) → s.arrived ≡ arrival s.event → (HasCome s.event → ⊥) → Left (judged plan s ss x shown)
judged_left plan s ss (Negotiated chosen response) shown a n = record { same = a; gone = λ p h e. absurd (n h) }
judged_left plan s ss (Asked r) shown a n = record { same = a; gone = λ p h e. absurd (n h) }
judged_left plan s ss WrongSide shown a n = record { same = a; gone = λ p h e. absurd (n h) }
judged_left plan s ss Refused shown a n = record { same = a; gone = λ p h e. absurd (n h) }

taken_left : (plan : PostPlan) (s : State) (kept : Option Session) (r : Reading) → s.session ≡ kept → is_done s.agenda ≡ true → LeftFor s → Left (taken_in plan s kept r)
taken_left plan s None r k d l = l.left
taken_left plan s (Some ss) r k d l = judged_left plan s ss r.judged r.shown l.left.same (λ h. some_none ss s.session k (l.over d h))

wanted_done : (s : State) (p : Payload) (b : Bool) → is_done s.agenda ≡ b → wanted s ≡ Some p → is_done s.agenda ≡ true
wanted_done s p true d h = d
wanted_done s p false d h = absurd (let x = rw d at h in cc)

read_left : (c : Codecs) (plan : PostPlan) (S : ℕ → ℕ → Type 0) (s : State) (w : Option Payload) (r : Option Reading) → wanted s ≡ w → IsRead c plan S s w r → LeftFor s → Left (read plan s r)
read_left c plan S s w None e i l = l.left
read_left c plan S s None (Some r) e i l = absurd i
read_left c plan S s (Some p) (Some r) e i l = taken_left plan s s.session r refl (wanted_done s p (is_done s.agenda) refl e) l

filled_left : (c : Codecs) (plan : PostPlan) (S : ℕ → ℕ → Type 0) (s : State) (r : Option Reading) → IsRead c plan S (decided plan s) (wanted (decided plan s)) r → Left s → Left (filled plan r s)
filled_left c plan S s r i l = read_left c plan S (decided plan s) (wanted (decided plan s)) r refl i (decided_left plan s l)

-- an act
map_none : (f : Session → Session) (kept : Option Session) → kept ≡ None → option_map f kept ≡ None
map_none f kept n = ap (option_map f) n

failing_none : (e : Option EndCause) (kept : Option Session) (cause : EndCause) (live : Bool) → (e ≡ None → kept ≡ None) → (failing e kept cause live).ending ≡ None → kept ≡ None
failing_none None kept cause live f n = f refl
failing_none (Some k) kept cause live f n = cc

said_none : (b e : Option EndCause) (kept : Option Session) (a : Agenda) (live : Bool) → a.ending ≡ e → (e ≡ None → kept ≡ None) → (agenda_said b kept a live).ending ≡ None → kept ≡ None
said_none None e kept a live q f n = f (sym q ∙ n)
said_none (Some k) e kept a live q f n = left_in kept k live n

acted_left : (a : Act) (taken : Bool) (s : State) → Left s → Left (acted a taken s)
acted_left (Give o) true s l = record { same = l.same; gone = λ p h n. map_none _ s.session (l.gone p h n) }
acted_left (Give o) false s l = record { same = l.same; gone = λ p h n. failing_none s.agenda.ending s.session _ _ (λ e. l.gone p h e) n }
acted_left (Send bytes) true s l = record { same = l.same; gone = λ p h n. map_none _ s.session (said_none s.agenda.behind_reply s.agenda.ending s.session s.agenda s.live refl (λ e. l.gone p h e) n) }
acted_left (Send bytes) false s l = record { same = l.same; gone = λ p h n. failing_none s.agenda.ending s.session _ _ (λ e. l.gone p h e) n }
acted_left (Answer bytes) taken s l = record { same = l.same; gone = λ p h n. l.gone p h n }
acted_left (End cause) taken s l = record { same = l.same; gone = λ p h n. refl }

steps_left : (c : Codecs) (plan : PostPlan) (steps : List Step) → IsPostRun c plan steps → Left (state plan steps)
steps_left c plan [] run = record { same = refl; gone = λ p h n. refl }
steps_left c plan (Hears at e ∷ steps) run = record { same = refl; gone = λ p h n. absurd (cc) }
steps_left c plan (Does r a taken ∷ steps) (run, (limit, before, behind, acts)) = acted_left a taken (filled plan r (state plan steps)) (filled_left c plan (Shows limit before behind) (state plan steps) r acts.read (steps_left c plan steps run))

-- at rest
pub quiet_left : (c : Codecs) (plan : PostPlan) (steps : List Step) → IsPostRun c plan steps → IsQuiet plan (state plan steps) → is_some (state plan steps).arrived ≡ true → (state plan steps).session ≡ None
quiet_left c plan steps run q h =
    let s = state plan steps in
    let l = steps_left c plan steps run in
    let d = decided_left plan s l in
    let p = planned plan s in
    let come : HasCome s.event = sym (ap is_some l.same) ∙ h in
    let same : (decided plan s).event ≡ s.event = ap (λ (t : State). t.event) p.is in
    sym (ap (λ (t : State). t.session) p.is) ∙ d.over (ap is_none q.none) (subst HasCome (sym same) come)
