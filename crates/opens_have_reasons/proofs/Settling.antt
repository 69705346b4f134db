-- Where something is left, its order is Open, of a cause that came; and what an act leaves before the last part of a hearing.
use Rattle.std.proofs.Common.{◌≡◌, ℕ, Bool, true, false, List, [], ◌∷◌, map, Option, Some, None, is_some, refl, sym, ap, subst, ◌∙◌, inl, inr, ◌⊎◌}
use Rattle.std.specs.Option.{option_map}
use Rattle.charge_world.specs.declared.ports.Order.{Order}
use Rattle.charge_world.specs.declared.ports.Order.TheVariants as order
use Rattle.session_words.specs.declared.cause.EndCause.{EndCause}
use Rattle.session_words.specs.declared.cause.EndCause.TheVariants.{SendFailed, OrderFailed, NoNegotiation}
use Rattle.session_words.specs.declared.phase.Standing.{Standing}
use Rattle.session_words.specs.declared.phase.Standing.TheVariants as standing
use Rattle.session_words.specs.declared.plan.PostPlan.{PostPlan}
use Rattle.post_spec.specs.Causes.{HasNotSent, HasNoMatch}
use Rattle.post_spec.specs.Codecs.{Judged, Negotiated, Asked, WrongSide, Refused, Codecs}
use Rattle.post_spec.specs.Sessions.{session}
use Rattle.post_spec.specs.Steps.{Act, Give, Send, Answer, End, Reading, Step, Hears, Does, seen_of}
use Rattle.station_spec.specs.States.{Agenda, Part, Repeating, Timing, Eventing, Wording, Session, State, Spoken, Response, nothing, first, first_of, is_done, is_none}
use Rattle.station_spec.specs.States as states
use Rattle.station_spec.specs.Deciding.{repeating, timing, decided}
use Rattle.station_spec.specs.Judging.{Payload as Wanted, judged, taken_in, wanted, filled, IsRead}
use Rattle.station_spec.specs.Acting.{agenda_said, live_ordered, since_order, replied, acted, state}
use Rattle.station_spec.specs.Next.{IsDone, Acts}
use Rattle.station_spec.specs.Sharing.{Shows}
use Rattle.station_laws.proofs.Decided.{decided_by, same_session}
use Rattle.read_runs.proofs.Agendas.{WantedIn, wanted_in, say_is, give_is, decided_not}
use Rattle.standing_causes_open.proofs.Again.{give_todo}
use Rattle.standing_causes_open.proofs.Coming.{came_on, failed_here}
use Rattle.opens_have_reasons.proofs.Opening.{Came, All, acted_all, lives_in, in_order, failing_order, timing_came}
use Rattle.opens_have_reasons.proofs.Plain.{Plain, answer_unread, decided_plain, read_no_match, say_todo, steps_clean, talks_none, tell_is, tell_todo}

-- What is left to be ordered is Open, of a cause that came.

said_order : (b : Option EndCause) (kept : Option Session) (a : Agenda) (on : Bool) (o : Order) → a.order ≡ None → (agenda_said b kept a on).order ≡ Some o → (o ≡ order.Open) × ((is_some kept ≡ true) × ((k : EndCause) × (b ≡ Some k)))
said_order None kept a on o n h = absurd (let x : None ≡ Some o = sym n ∙ h in cc)
said_order (Some k) kept a on o n h = let x = in_order kept k on o h in (x.0, (x.1.1, (k, refl)))

judged_lives : (plan : PostPlan) (s : State) (ss : Session) (w : Judged) (shown : ℕ) → is_some (judged plan s ss w shown).session ≡ true
judged_lives plan s ss (Negotiated chosen response) shown = refl
judged_lives plan s ss (Asked r) shown = refl
judged_lives plan s ss WrongSide shown = refl
judged_lives plan s ss Refused shown = refl

taken_lives : (plan : PostPlan) (s : State) (kept : Option Session) (r : Reading) → s.session ≡ kept → is_some (taken_in plan s kept r).session ≡ is_some kept
taken_lives plan s None r h = ap is_some h
taken_lives plan s (Some ss) r h = judged_lives plan s ss r.judged r.shown

filled_lives : (plan : PostPlan) (s : State) (r : Option Reading) → is_some (filled plan r s).session ≡ is_some s.session
filled_lives plan s None = ap is_some (same_session plan s)
filled_lives plan s (Some r) = taken_lives plan (decided plan s) (decided plan s).session r refl ∙ ap is_some (same_session plan s)

pub steps_order : (c : Codecs) (plan : PostPlan) (steps : List Step) (o : Order) → All c plan steps → (state plan steps).agenda.order ≡ Some o → (o ≡ order.Open) × Came c plan steps
steps_order c plan [] o all h = absurd (let x : None ≡ Some o = h in cc)
steps_order c plan (Hears at e ∷ steps) o all h = absurd (let x : None ≡ Some o = h in cc)
steps_order c plan (Does r (Give x) true ∷ steps) o all h = absurd (let y : None ≡ Some o = h in cc)
steps_order c plan (Does r (Give x) false ∷ steps) o all h =
    let f = filled plan r (state plan steps) in
    let k = failing_order f.agenda.ending f.session OrderFailed (live_ordered x false f.live) o h in
    let l = lives_in plan (Does r (Give x) false ∷ steps) k.1 in
    (k.0, inl (failed_here c plan r x steps l.0 l.1))
steps_order c plan (Does r (Send bytes) false ∷ steps) o all h =
    let f = filled plan r (state plan steps) in
    let k = failing_order f.agenda.ending f.session SendFailed f.live o h in
    let l = lives_in plan (Does r (Send bytes) false ∷ steps) k.1 in
    (k.0, inl (record { cause = SendFailed; is = HasNotSent r bytes steps l.0 l.1; comes = tt }))
steps_order c plan (Does r (Send bytes) true ∷ steps) o all h =
    let f = filled plan r (state plan steps) in
    let acts = all.laws.run.1.3 in
    let todo = say_todo c acts.todo bytes true acts.done in
    let n = (say_is f.agenda.datagram f.agenda.order f.agenda.reply f.agenda.ending todo.0 (acts.acts ∙ ap Some todo.1)).1 in
    let k = said_order f.agenda.behind_reply f.session f.agenda f.live o n h in
    let before = acted_all c plan r (Send bytes) true steps all in
    let lives = lives_in plan steps (sym (filled_lives plan (state plan steps) r) ∙ k.1.0) in
    let m = read_no_match c plan (Shows all.laws.run.1.0 all.laws.run.1.1 all.laws.run.1.2) steps r (wanted (decided plan (state plan steps))) bytes k.1.1.0 lives.0 before refl lives.1 acts.read acts.todo acts.acts acts.done k.1.1.1 in
    (k.0, inl (record { cause = NoNegotiation; is = HasNoMatch r bytes steps (talks_none c plan.dialects.items (map seen_of steps) m.es bytes (session (map seen_of steps)) m.here m.negotiates m.before); comes = tt }))
steps_order c plan (Does r (Answer d) taken ∷ steps) o all h =
    let acts = all.laws.run.1.3 in
    let f = filled plan r (state plan steps) in
    let e = answer_unread c plan (Shows all.laws.run.1.0 all.laws.run.1.1 all.laws.run.1.2) (state plan steps) r d taken acts in
    let t = tell_is f.agenda.datagram f.agenda.order f.agenda.reply f.agenda.ending d (acts.acts ∙ ap Some (tell_todo c acts.todo d taken acts.done)) in
    let plain = subst (λ (q : Option Reading). Plain (filled plan q (state plan steps)).agenda) (sym e) (decided_plain plan (state plan steps) (steps_clean c plan steps all.laws.run.0)) in
    absurd (let x : None ≡ Some o = sym (plain.1 d t) ∙ h in cc)
steps_order c plan (Does r (End cause) taken ∷ steps) o all h = absurd (let x : None ≡ Some o = h in cc)

-- Before the last part of a hearing an act leaves the contactor not live, or no session, or a cause.

pub acted_part : (a : Act) (taken : Bool) (s : State) → (acted a taken s).part ≡ s.part
acted_part (Give o) true s = refl
acted_part (Give o) false s = refl
acted_part (Send bytes) true s = refl
acted_part (Send bytes) false s = refl
acted_part (Answer bytes) taken s = refl
acted_part (End cause) taken s = refl

judged_part : (plan : PostPlan) (s : State) (ss : Session) (w : Judged) (shown : ℕ) → (judged plan s ss w shown).part ≡ Wording
judged_part plan s ss (Negotiated chosen response) shown = refl
judged_part plan s ss (Asked r) shown = refl
judged_part plan s ss WrongSide shown = refl
judged_part plan s ss Refused shown = refl

taken_part : (plan : PostPlan) (s : State) (kept : Option Session) (r : Reading) (p : Wanted) → WantedIn s kept p → (taken_in plan s kept r).part ≡ Wording
taken_part plan s None r p at = absurd at
taken_part plan s (Some ss) r p at = judged_part plan s ss r.judged r.shown

pub read_part : (c : Codecs) (plan : PostPlan) (S : ℕ → ℕ → Type 0) (s : State) (r : Reading) (w : Option Wanted) → wanted (decided plan s) ≡ w → IsRead c plan S (decided plan s) w (Some r) → (filled plan (Some r) s).part ≡ Wording
read_part c plan S s r None e i = absurd i
read_part c plan S s r (Some p) e i = taken_part plan (decided plan s) (decided plan s).session r p (wanted_in (decided plan s) p e)

-- which part decided
abbrev Decides : PostPlan → State → State → Type 0
Decides plan s t =
    (t.part ≡ Wording) ⊎ (((t.part ≡ Timing) × (t.agenda ≡ repeating s.facts.contactor)) ⊎ (((t.part ≡ Eventing) × (t.agenda ≡ timing s.session s.clock s.live)) ⊎ (is_done t.agenda ≡ true)))

pub decides : (plan : PostPlan) (s : State) → is_done s.agenda ≡ true → Decides plan s (decided plan s)
decides plan s d = decided_by (Decides plan s) plan s (λ x. record { repeats = inr (inl (refl, refl)); times = inr (inr (inl (refl, refl))); events = inl refl; fronts = inl refl }) (inr (inr (inr d)))

not_live : (o : Order) (taken on : Bool) → o ≡ order.Open → on ≡ false → live_ordered o taken on ≡ false
not_live order.Open true on e h = refl
not_live order.Open false on e h = h
not_live order.Close taken on e h = cc
not_live (order.Limits voltage current watts) taken on e h = cc

abbrev Settled : Codecs → PostPlan → List Step → Type 0
Settled c plan steps = ((state plan steps).part ≡ Wording) ⊎ (((state plan steps).live ≡ false) ⊎ ((is_some (state plan steps).session ≡ false) ⊎ Came c plan steps))

came_settled : (c : Codecs) (plan : PostPlan) (r : Option Reading) (a : Act) (taken : Bool) (steps : List Step) (b : Bool) → is_some (state plan (Does r a taken ∷ steps)).session ≡ b → Came c plan steps → Settled c plan (Does r a taken ∷ steps)
came_settled c plan r a taken steps false e h = inr (inr (inl e))
came_settled c plan r a taken steps true e h = let l = lives_in plan (Does r a taken ∷ steps) e in inr (inr (inr (inr (came_on c plan r a taken steps l.0 l.1 h))))

gone_map : (f : Session → Session) (kept : Option Session) → is_some kept ≡ false → is_some (option_map f kept) ≡ false
gone_map f None h = h
gone_map f (Some ss) h = cc

acted_gone : (a : Act) (taken : Bool) (s : State) → is_some s.session ≡ false → is_some (acted a taken s).session ≡ false
acted_gone (Give o) true s h = gone_map (since_order s.clock o) s.session h
acted_gone (Give o) false s h = h
acted_gone (Send bytes) true s h = gone_map (replied s.clock) s.session h
acted_gone (Send bytes) false s h = h
acted_gone (Answer bytes) taken s h = h
acted_gone (End cause) taken s h = refl

acted_dark : (a : Act) (taken : Bool) (s : State) → ((o : Order) → a ≡ Give o → o ≡ order.Open) → s.live ≡ false → (acted a taken s).live ≡ false
acted_dark (Give o) true s f h = not_live o true s.live (f o refl) h
acted_dark (Give o) false s f h = not_live o false s.live (f o refl) h
acted_dark (Send bytes) true s f h = h
acted_dark (Send bytes) false s f h = h
acted_dark (Answer bytes) taken s f h = h
acted_dark (End cause) taken s f h = h

-- an Open that was repeated
repeated_settled : (c : Codecs) (plan : PostPlan) (steps : List Step) (taken b : Bool) → is_some (state plan (Does None (Give order.Open) taken ∷ steps)).session ≡ b → Settled c plan (Does None (Give order.Open) taken ∷ steps)
repeated_settled c plan steps true b e = inr (inl refl)
repeated_settled c plan steps false false e = inr (inr (inl e))
repeated_settled c plan steps false true e = let l = lives_in plan (Does None (Give order.Open) false ∷ steps) e in inr (inr (inr (inl (failed_here c plan None order.Open steps l.0 l.1))))

repeating_todo : (st : Standing) (todo : states.Todo) → first (repeating st) ≡ Some todo → todo ≡ states.Give order.Open
repeating_todo standing.MustOpen todo h = cc
repeating_todo standing.Opened todo h = cc
repeating_todo standing.Closing todo h = cc
repeating_todo standing.Closed todo h = cc
repeating_todo standing.Opening todo h = cc

open_act : (c : Codecs) (todo : states.Todo) (a : Act) (taken : Bool) → todo ≡ states.Give order.Open → IsDone c todo a taken → a ≡ Give order.Open
open_act c (states.Tell d) a taken e i = cc
open_act c (states.Give o) a taken e i = let x : o ≡ order.Open = cc in i ∙ ap Give x
open_act c (states.Say spoken) a taken e i = cc
open_act c (states.Finish cause) a taken e i = cc

pub todo_left : (a : Agenda) (todo : states.Todo) → first a ≡ Some todo → is_done a ≡ false
todo_left a todo h = ap is_none h

pub not_both : (b : Bool) → b ≡ true → b ≡ false → ⊥
not_both true h k = cc
not_both false h k = cc

given : (c : Codecs) (todo : states.Todo) (a : Act) (taken : Bool) (o : Order) → IsDone c todo a taken → a ≡ Give o → todo ≡ states.Give o
given c todo a taken o i e = give_todo c todo o taken (subst (λ (x : Act). IsDone c todo x taken) e i)

decided_settled : (c : Codecs) (plan : PostPlan) (S : ℕ → ℕ → Type 0) (steps : List Step) (a : Act) (taken : Bool) → All c plan steps → Acts c plan S (state plan steps) None a taken → is_done (state plan steps).agenda ≡ true → Settled c plan (Does None a taken ∷ steps)
decided_settled c plan S steps a taken all acts d =
    let s = state plan steps in
    let f = decided plan (state plan steps) in
    elim (decides plan (state plan steps) d) [
      | inl h ↦ inl (acted_part a taken (decided plan (state plan steps)) ∙ h)
      | inr (inl h) ↦
          let todo = repeating_todo (state plan steps).facts.contactor acts.todo (sym (ap first h.1) ∙ acts.acts) in
          subst (λ (x : Act). Settled c plan (Does None x taken ∷ steps)) (sym (open_act c acts.todo a taken todo acts.done)) (repeated_settled c plan steps taken (is_some (state plan (Does None (Give order.Open) taken ∷ steps)).session) refl)
      | inr (inr (inl h)) ↦
          let left = todo_left (timing (state plan steps).session (state plan steps).clock (state plan steps).live) acts.todo (sym (ap first h.1) ∙ acts.acts) in
          came_settled c plan None a taken steps (is_some (state plan (Does None a taken ∷ steps)).session) refl (timing_came c plan steps all d left)
      | inr (inr (inr h)) ↦ absurd (not_both (is_done (decided plan (state plan steps)).agenda) h (todo_left (decided plan (state plan steps)).agenda acts.todo acts.acts))
    ]

-- where something was left
going_settled : (c : Codecs) (plan : PostPlan) (S : ℕ → ℕ → Type 0) (steps : List Step) (a : Act) (taken : Bool) → All c plan steps → Acts c plan S (state plan steps) None a taken → is_done (state plan steps).agenda ≡ false → Settled c plan steps → Settled c plan (Does None a taken ∷ steps)
going_settled c plan S steps a taken all acts d h =
    let s = state plan steps in
    let same = decided_not plan (state plan steps) d in
    let todo : first (state plan steps).agenda ≡ Some acts.todo = sym (ap (λ (t : State). first t.agenda) same) ∙ acts.acts in
    elim h [
      | inl x ↦ inl (acted_part a taken (decided plan (state plan steps)) ∙ ap (λ (t : State). t.part) same ∙ x)
      | inr (inl x) ↦ inr (inl (acted_dark a taken (decided plan (state plan steps))
          (λ o e. (steps_order c plan steps o all (give_is (state plan steps).agenda.datagram (state plan steps).agenda.order (state plan steps).agenda.reply (state plan steps).agenda.ending o (todo ∙ ap Some (given c acts.todo a taken o acts.done e)))).0)
          (ap (λ (t : State). t.live) same ∙ x)))
      | inr (inr (inl x)) ↦ inr (inr (inl (acted_gone a taken (decided plan (state plan steps)) (ap (λ (t : State). is_some t.session) same ∙ x))))
      | inr (inr (inr x)) ↦ came_settled c plan None a taken steps (is_some (state plan (Does None a taken ∷ steps)).session) refl x
    ]

settled_by : (c : Codecs) (plan : PostPlan) (S : ℕ → ℕ → Type 0) (steps : List Step) (a : Act) (taken b : Bool) → All c plan steps → Acts c plan S (state plan steps) None a taken → is_done (state plan steps).agenda ≡ b → (b ≡ false → Settled c plan steps) → Settled c plan (Does None a taken ∷ steps)
settled_by c plan S steps a taken true all acts d h = decided_settled c plan S steps a taken all acts d
settled_by c plan S steps a taken false all acts d h = going_settled c plan S steps a taken all acts d (h refl)

pub nothing_left : (e : is_done nothing ≡ false) → ⊥
nothing_left e = cc

-- behind an act; a hearing has nothing left to do
acted_settled : (c : Codecs) (plan : PostPlan) (steps : List Step) → All c plan steps → is_done (state plan steps).agenda ≡ false → Settled c plan steps
acted_settled c plan [] all d = absurd (nothing_left d)
acted_settled c plan (Hears at e ∷ steps) all d = absurd (nothing_left d)
acted_settled c plan (Does (Some r) a taken ∷ steps) all d =
    let acts = all.laws.run.1.3 in
    inl (acted_part a taken (filled plan (Some r) (state plan steps)) ∙ read_part c plan (Shows all.laws.run.1.0 all.laws.run.1.1 all.laws.run.1.2) (state plan steps) r (wanted (decided plan (state plan steps))) refl acts.read)
acted_settled c plan (Does None a taken ∷ steps) all d =
    let before = acted_all c plan None a taken steps all in
    settled_by c plan (Shows all.laws.run.1.0 all.laws.run.1.1 all.laws.run.1.2) steps a taken (is_done (state plan steps).agenda) before all.laws.run.1.3 refl (λ x. acted_settled c plan steps before x)

pub does_settled : (c : Codecs) (plan : PostPlan) (r : Option Reading) (a : Act) (taken : Bool) (steps : List Step) → All c plan (Does r a taken ∷ steps) → Settled c plan (Does r a taken ∷ steps)
does_settled c plan (Some r) a taken steps all =
    let acts = all.laws.run.1.3 in
    inl (acted_part a taken (filled plan (Some r) (state plan steps)) ∙ read_part c plan (Shows all.laws.run.1.0 all.laws.run.1.1 all.laws.run.1.2) (state plan steps) r (wanted (decided plan (state plan steps))) refl acts.read)
does_settled c plan None a taken steps all =
    let before = acted_all c plan None a taken steps all in
    settled_by c plan (Shows all.laws.run.1.0 all.laws.run.1.1 all.laws.run.1.2) steps a taken (is_done (state plan steps).agenda) before all.laws.run.1.3 refl (λ x. acted_settled c plan steps before x)
