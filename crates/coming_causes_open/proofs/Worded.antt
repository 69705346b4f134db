-- What is said is decided in the last part of a hearing.
use Rattle.std.proofs.Common.{◌≡◌, ℕ, Bool, true, false, if◌then◌else◌, List, [], ◌∷◌, Option, Some, None, refl, inl, inr, ◌⊎◌}
use Rattle.session_words.specs.declared.cause.EndCause.{EndCause}
use Rattle.session_words.specs.declared.phase.Standing.{Standing}
use Rattle.session_words.specs.declared.phase.Standing.TheVariants as standing
use Rattle.session_words.specs.declared.plan.PostPlan.{PostPlan}
use Rattle.post_spec.specs.Codecs.{Judged, Negotiated, Asked, WrongSide, Refused}
use Rattle.post_spec.specs.Steps.{Act, Give, Send, Answer, End, Reading, Step, Hears, Does}
use Rattle.station_spec.specs.States.{Agenda, Wording, Session, State, nothing}
use Rattle.station_spec.specs.Deciding.{ending_in, repeating, timing, decided, due, is_reached}
use Rattle.station_spec.specs.Judging.{judged, taken_in, read, filled}
use Rattle.station_spec.specs.Acting.{failing, agenda_said, acted, state}
use Rattle.station_laws.proofs.Decided.{decided_by}

-- nothing is said, and nothing stands behind what is said
abbrev Plain : Agenda → Type 0
Plain a = (a.datagram ≡ None) × (a.reply ≡ None)

abbrev pub Worded : State → Type 0
Worded s = (s.part ≡ Wording) ⊎ Plain s.agenda

plain_ending : (kept : Option Session) (cause : EndCause) (live : Bool) → Plain (ending_in kept cause live)
plain_ending None cause live = (refl, refl)
plain_ending (Some ss) cause live = (refl, refl)

plain_repeating : (st : Standing) → Plain (repeating st)
plain_repeating standing.MustOpen = (refl, refl)
plain_repeating standing.Opened = (refl, refl)
plain_repeating standing.Closing = (refl, refl)
plain_repeating standing.Closed = (refl, refl)
plain_repeating standing.Opening = (refl, refl)

plain_if : (b : Bool) (x y : Agenda) → Plain x → Plain y → Plain (if b then x else y)
plain_if true x y p q = p
plain_if false x y p q = q

plain_timing : (kept : Option Session) (now : ℕ) (live : Bool) → Plain (timing kept now live)
plain_timing None now live = (refl, refl)
plain_timing (Some ss) now live = plain_if (is_reached (due ss) now) _ nothing (refl, refl) (refl, refl)

decided_worded : (plan : PostPlan) (s : State) → Worded s → Worded (decided plan s)
decided_worded plan s h = decided_by Worded plan s (λ d. record {
  repeats = inr (plain_repeating s.facts.contactor);
  times = inr (plain_timing s.session s.clock s.live);
  events = inl refl;
  fronts = inl refl;
}) h

judged_worded : (plan : PostPlan) (s : State) (ss : Session) (x : Judged) (shown : ℕ) → Worded (judged plan s ss x shown)
judged_worded plan s ss (Negotiated chosen response) shown = inl refl
judged_worded plan s ss (Asked r) shown = inl refl
judged_worded plan s ss WrongSide shown = inl refl
judged_worded plan s ss Refused shown = inl refl

taken_worded : (plan : PostPlan) (s : State) (kept : Option Session) (r : Reading) → Worded s → Worded (taken_in plan s kept r)
taken_worded plan s None r h = h
taken_worded plan s (Some ss) r h = judged_worded plan s ss r.judged r.shown

read_worded : (plan : PostPlan) (s : State) (r : Option Reading) → Worded s → Worded (read plan s r)
read_worded plan s None h = h
read_worded plan s (Some r) h = taken_worded plan s s.session r h

pub filled_worded : (plan : PostPlan) (r : Option Reading) (s : State) → Worded s → Worded (filled plan r s)
filled_worded plan r s h = read_worded plan (decided plan s) r (decided_worded plan s h)

plain_failing : (e : Option EndCause) (kept : Option Session) (cause : EndCause) (live : Bool) → Plain (failing e kept cause live)
plain_failing None kept cause live = plain_ending kept cause live
plain_failing (Some k) kept cause live = (refl, refl)

plain_said : (b : Option EndCause) (kept : Option Session) (a : Agenda) (live : Bool) → Plain a → Plain (agenda_said b kept a live)
plain_said None kept a live p = (p.0, refl)
plain_said (Some k) kept a live p = plain_ending kept k live

-- so or by another agenda
either : (s : State) (P Q : Type 0) → (P → Q) → (s.part ≡ Wording) ⊎ P → (s.part ≡ Wording) ⊎ Q
either s P Q f (inl h) = inl h
either s P Q f (inr h) = inr (f h)

acted_worded : (a : Act) (taken : Bool) (s : State) → Worded s → Worded (acted a taken s)
acted_worded (Give o) true s h = either s (Plain s.agenda) (Plain s.agenda) (λ p. p) h
acted_worded (Give o) false s h = inr (plain_failing s.agenda.ending s.session _ _)
acted_worded (Send bytes) true s h = either s (Plain s.agenda) (Plain (agenda_said s.agenda.behind_reply s.session s.agenda s.live)) (plain_said s.agenda.behind_reply s.session s.agenda s.live) h
acted_worded (Send bytes) false s h = inr (plain_failing s.agenda.ending s.session _ _)
acted_worded (Answer bytes) taken s h = either s (Plain s.agenda) ((None ≡ None) × (s.agenda.reply ≡ None)) (λ p. (refl, p.1)) h
acted_worded (End cause) taken s h = inr (refl, refl)

pub steps_worded : (plan : PostPlan) (steps : List Step) → Worded (state plan steps)
steps_worded plan [] = inl refl
steps_worded plan (Hears at e ∷ steps) = inr (refl, refl)
steps_worded plan (Does r a taken ∷ steps) = acted_worded a taken (filled plan r (state plan steps)) (filled_worded plan r (state plan steps) (steps_worded plan steps))
