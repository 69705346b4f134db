-- Where Open is decided first, it is what a post does next.
use Rattle.std.proofs.Common.{◌≡◌, ℕ, Bool, true, false, if◌then◌else◌, Option, Some, None, is_some, refl, sym, ap, subst, ◌∙◌, inl, inr, ◌⊎◌}
use Rattle.charge_world.specs.declared.ports.Order.TheVariants as order
use Rattle.session_words.specs.declared.cause.EndCause.{EndCause}
use Rattle.session_words.specs.declared.phase.Standing.{Standing}
use Rattle.session_words.specs.declared.phase.Standing.TheVariants as standing
use Rattle.session_words.specs.declared.plan.PostPlan.{PostPlan}
use Rattle.post_spec.specs.Codecs.{Codecs}
use Rattle.post_spec.specs.Contactors.{live_behind}
use Rattle.post_spec.specs.Steps.{Event, Act, Give, Reading}
use Rattle.station_spec.specs.States.{Agenda, Part, Timing, Eventing, Wording, Session, State, nothing, first, is_none, is_done}
use Rattle.station_spec.specs.States as states
use Rattle.station_spec.specs.Deciding.{ending_by, ending_in, repeating, timing, eventing, decide, from_wording, from_eventing, from_timing, decided, due, is_reached}
use Rattle.station_spec.specs.Judging.{wanted, read, IsRead}
use Rattle.station_spec.specs.Hearing.{hearing}
use Rattle.station_spec.specs.Next.{IsQuiet, Acts}
use Rattle.safe_runs.proofs.Openings.{open_todo}

-- Open is the first thing of an agenda, and of what is decided
abbrev pub OpensIn : Agenda → Type 0
OpensIn a = first a ≡ Some (states.Give order.Open)

abbrev pub Opens : PostPlan → State → Type 0
Opens plan s = OpensIn (decided plan s).agenda

pub not_wanted : (t : State) → OpensIn t.agenda → wanted t ≡ None
not_wanted t h = let d : is_done t.agenda ≡ false = ap is_none h in rw d refl

opens_read : (c : Codecs) (plan : PostPlan) (S : ℕ → ℕ → Type 0) (t : State) (r : Option Reading) (todo : states.Todo) → OpensIn t.agenda → IsRead c plan S t (wanted t) r → first (read plan t r).agenda ≡ Some todo → todo ≡ states.Give order.Open
opens_read c plan S t None todo h i f = let x : Some todo ≡ Some (states.Give order.Open) = sym f ∙ h in cc
opens_read c plan S t (Some r) todo h i f = absurd (subst (λ p. IsRead c plan S t p (Some r)) (not_wanted t h) i)

pub opens_next : (c : Codecs) (plan : PostPlan) (S : ℕ → ℕ → Type 0) (s : State) (r : Option Reading) (a : Act) (taken : Bool) → Opens plan s → Acts c plan S s r a taken → a ≡ Give order.Open
opens_next c plan S s r a taken h acts = open_todo c acts.todo a taken acts.done (opens_read c plan S (decided plan s) r acts.todo h acts.read acts.acts)

pub opens_busy : (plan : PostPlan) (s : State) → Opens plan s → IsQuiet plan s → ⊥
opens_busy plan s h q = let x : Some (states.Give order.Open) ≡ None = sym h ∙ q.none in cc

-- what was decided before stays
undone_by : (plan : PostPlan) (s : State) (b : Bool) → is_done s.agenda ≡ b → OpensIn s.agenda → Opens plan s
undone_by plan s true e h = absurd (let x : false ≡ true = sym (ap is_none h) ∙ e in cc)
undone_by plan s false e h = rw e h

pub undone_opens : (plan : PostPlan) (s : State) → OpensIn s.agenda → Opens plan s
undone_opens plan s h = undone_by plan s (is_done s.agenda) refl h

-- a session that ends
pub ending_opens : (cause : EndCause) (live : Bool) → live ≡ true → OpensIn (ending_by cause live)
ending_opens cause live l = rw l refl

pub in_opens : (kept : Option Session) (cause : EndCause) (live : Bool) → is_some kept ≡ true → live ≡ true → OpensIn (ending_in kept cause live)
in_opens None cause live k l = cc
in_opens (Some ss) cause live k l = ending_opens cause live l

-- In a hearing each part that decides anything before the event opens.
decide_opens : (agenda : Agenda) (part : Part) (s rest : State) (b : Bool) → is_done agenda ≡ b → (b ≡ false → OpensIn agenda) → OpensIn rest.agenda → OpensIn (decide agenda part s rest).agenda
decide_opens agenda part s rest true e h k = rw e k
decide_opens agenda part s rest false e h k = rw e (h refl)

decide_now : (agenda : Agenda) (part : Part) (s rest : State) (b : Bool) → is_done agenda ≡ b → OpensIn agenda → OpensIn (decide agenda part s rest).agenda
decide_now agenda part s rest true e h = absurd (let x : false ≡ true = sym (ap is_none h) ∙ e in cc)
decide_now agenda part s rest false e h = rw e h

pub repeating_opens : (st : Standing) → is_done (repeating st) ≡ false → OpensIn (repeating st)
repeating_opens standing.MustOpen h = refl
repeating_opens standing.Opened h = cc
repeating_opens standing.Closing h = cc
repeating_opens standing.Closed h = cc
repeating_opens standing.Opening h = cc

either_opens : (b live : Bool) (cause : EndCause) → live ≡ true → is_done (if b then ending_by cause live else nothing) ≡ false → OpensIn (if b then ending_by cause live else nothing)
either_opens true live cause l h = ending_opens cause live l
either_opens false live cause l h = cc

pub timing_opens : (kept : Option Session) (now : ℕ) (live : Bool) → live ≡ true → is_done (timing kept now live) ≡ false → OpensIn (timing kept now live)
timing_opens None now live l h = cc
timing_opens (Some ss) now live l h = either_opens (is_reached (due ss) now) live _ l h

pub hearing_opens : (plan : PostPlan) (at : ℕ) (e : Event) (s : State) → s.live ≡ true → OpensIn (eventing plan e (hearing at e s)) → Opens plan (hearing at e s)
hearing_opens plan at e s l h =
    let t = hearing at e s in
    decide_opens (repeating t.facts.contactor) Timing t (from_timing plan t) (is_done (repeating t.facts.contactor)) refl (repeating_opens t.facts.contactor)
    (decide_opens (timing t.session t.clock t.live) Eventing t (from_eventing plan t) (is_done (timing t.session t.clock t.live)) refl (timing_opens t.session t.clock t.live l)
    (decide_now (eventing plan e t) Wording t (from_wording t) (is_done (eventing plan e t)) refl h))

-- What is told is judged by the contactor as it is, but where an order to open is owed.
pub as_told : (st : Standing) (on : Bool) → (st ≡ standing.MustOpen) ⊎ (live_behind st on ≡ on)
as_told standing.MustOpen on = inl refl
as_told standing.Opened on = inr refl
as_told standing.Closing on = inr refl
as_told standing.Closed on = inr refl
as_told standing.Opening on = inr refl
