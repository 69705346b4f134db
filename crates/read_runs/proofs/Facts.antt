-- What a post keeps of its clock and its charger.
use Rattle.std.proofs.Common.{◌≡◌, ℕ, Bool, true, false, List, [], ◌∷◌, map, Option, Some, None, refl, sym, ap, ◌∙◌}
use Rattle.charge_world.specs.declared.heard.IsolationLevel.{IsolationLevel}
use Rattle.charge_world.specs.declared.heard.PilotState.{PilotState}
use Rattle.charge_world.specs.declared.heard.PlantEvent.TheVariants as plant
use Rattle.session_words.specs.declared.code.Progress.TheVariants as progress
use Rattle.session_words.specs.declared.facts.Facts.{Facts}
use Rattle.session_words.specs.declared.phase.Standing.{Standing}
use Rattle.session_words.specs.declared.plan.PostPlan.{PostPlan}
use Rattle.session_words.specs.declared.session.SessionId.{SessionId}
use Rattle.session_words.specs.declared.word.Ask.{Ask}
use Rattle.session_words.specs.declared.word.Ask.TheVariants as ask
use Rattle.session_words.specs.declared.word.Request.{Request}
use Rattle.session_rules.specs.declared.stage.Stage.{Stage}
use Rattle.session_rules.specs.Moves.{facts_by, facts_behind}
use Rattle.session_rules.specs.Verdict.{verdict, is_accepted}
use Rattle.post_spec.specs.Codecs.{Judged, Negotiated, Asked, WrongSide, Refused}
use Rattle.post_spec.specs.Contactors.{standing}
use Rattle.post_spec.specs.Facts.{now, pilot, measured, isolation, paid, stop}
use Rattle.post_spec.specs.Steps.{Event, Came, Plant, Act, Give, Send, Answer, End, Seen, Heard, Did, Reading, Step, Hears, Does, seen_of}
use Rattle.station_spec.specs.States.{Session, State}
use Rattle.station_spec.specs.Deciding.{decided}
use Rattle.station_spec.specs.Judging.{judged, taken_in, read, filled}
use Rattle.station_spec.specs.Hearing.{heard_facts, arrival}
use Rattle.station_spec.specs.Acting.{acted, state}
use Rattle.station_laws.proofs.Contactors.{contactors_are_read}
use Rattle.station_laws.proofs.Decided.{planned, same_facts}
use Rattle.silent_runs.proofs.Silence.{steps_live}
use Rattle.read_runs.specs.Facts.{newest_event, before_hearing, FactsAreRead}

-- what is known of the charger, but for its contactor
pub record Charger : Type 0 where
  pub pilot : PilotState
  pub isolation : Option IsolationLevel
  pub voltage : ℕ
  pub current : ℕ
  pub paid : Bool
  pub stop : Bool

abbrev pub charger_of : Facts → Charger
charger_of f = record { pilot = f.pilot; isolation = f.isolation; voltage = f.voltage; current = f.current; paid = f.paid; stop = f.stop }

abbrev pub charger : List Seen → Charger
charger past = record {
  pilot = pilot past;
  isolation = isolation past;
  voltage = (measured past).0;
  current = (measured past).1;
  paid = paid past;
  stop = stop past;
}

heard_charger : (past : List Seen) (at : ℕ) (e : Event) (f : Facts) → charger_of f ≡ charger past → charger_of (heard_facts e f) ≡ charger (Heard at e ∷ past)
heard_charger past at (Came token) f h = ap (λ (x : Charger). record x { isolation = None; stop = false }) h
heard_charger past at (Plant (plant.Pilot st)) f h = ap (λ (x : Charger). record x { pilot = st }) h
heard_charger past at (Plant (plant.Isolation level)) f h = ap (λ (x : Charger). record x { isolation = Some level }) h
heard_charger past at (Plant (plant.Measured voltage current)) f h = ap (λ (x : Charger). record x { voltage = voltage; current = current }) h
heard_charger past at (Plant plant.Paid) f h = ap (λ (x : Charger). record x { paid = true }) h
heard_charger past at (Plant plant.StopAsked) f h = ap (λ (x : Charger). record x { stop = true }) h
heard_charger past at e f h = h

-- a word changes nothing of it
by_charger : (s : Stage) (facts : Facts) (name : SessionId) (a : Ask) → charger_of (facts_by s facts name a) ≡ charger_of facts
by_charger s facts name (ask.SessionSetup car) = refl
by_charger s facts name (ask.PowerDelivery progress.Renegotiate tuple profile) = refl
by_charger s facts name a = refl

behind_if : (b : Bool) (s : Stage) (facts : Facts) (plan : PostPlan) (r : Request) → is_accepted (verdict s facts plan r) ≡ b → charger_of (facts_behind s facts plan r) ≡ charger_of facts
behind_if true s facts plan r e = rw e (by_charger s facts r.session r.ask)
behind_if false s facts plan r e = rw e refl

pub behind_charger : (s : Stage) (facts : Facts) (plan : PostPlan) (r : Request) → charger_of (facts_behind s facts plan r) ≡ charger_of facts
behind_charger s facts plan r = behind_if (is_accepted (verdict s facts plan r)) s facts plan r refl

judged_charger : (plan : PostPlan) (s : State) (ss : Session) (w : Judged) (shown : ℕ) → charger_of (judged plan s ss w shown).facts ≡ charger_of s.facts
judged_charger plan s ss (Negotiated chosen response) shown = refl
judged_charger plan s ss (Asked r) shown = behind_charger ss.stage s.facts plan r
judged_charger plan s ss WrongSide shown = refl
judged_charger plan s ss Refused shown = refl

taken_charger : (plan : PostPlan) (s : State) (kept : Option Session) (r : Reading) → charger_of (taken_in plan s kept r).facts ≡ charger_of s.facts
taken_charger plan s None r = refl
taken_charger plan s (Some ss) r = judged_charger plan s ss r.judged r.shown

read_charger : (plan : PostPlan) (s : State) (r : Option Reading) → charger_of (read plan s r).facts ≡ charger_of s.facts
read_charger plan s None = refl
read_charger plan s (Some r) = taken_charger plan s s.session r

filled_charger : (plan : PostPlan) (r : Option Reading) (s : State) → charger_of (filled plan r s).facts ≡ charger_of s.facts
filled_charger plan r s = read_charger plan (decided plan s) r ∙ ap charger_of (same_facts plan s)

-- an act
acted_charger : (past : List Seen) (a : Act) (taken : Bool) (s : State) → charger_of s.facts ≡ charger past → charger_of (acted a taken s).facts ≡ charger (Did a taken ∷ past)
acted_charger past (Give o) true s h = h
acted_charger past (Give o) false s h = h
acted_charger past (Send bytes) true s h = h
acted_charger past (Send bytes) false s h = h
acted_charger past (Answer bytes) taken s h = h
acted_charger past (End cause) taken s h = ap (λ (x : Charger). record x { paid = false }) h

pub steps_charger : (plan : PostPlan) (steps : List Step) → charger_of (state plan steps).facts ≡ charger (map seen_of steps)
steps_charger plan [] = refl
steps_charger plan (Hears at e ∷ steps) = heard_charger (map seen_of steps) at e (state plan steps).facts (steps_charger plan steps)
steps_charger plan (Does r a taken ∷ steps) =
    acted_charger (map seen_of steps) a taken (filled plan r (state plan steps)) (filled_charger plan r (state plan steps) ∙ steps_charger plan steps)

-- what a hearing brought stays until the next
pub record Hearing : Type 0 where
  pub clock : ℕ
  pub arrived : Option ℕ
  pub event : Event
  pub stood : Standing

abbrev pub hearing_of : State → Hearing
hearing_of s = record { clock = s.clock; arrived = s.arrived; event = s.event; stood = s.stood }

pub judged_hearing : (plan : PostPlan) (s : State) (ss : Session) (w : Judged) (shown : ℕ) → hearing_of (judged plan s ss w shown) ≡ hearing_of s
judged_hearing plan s ss (Negotiated chosen response) shown = refl
judged_hearing plan s ss (Asked r) shown = refl
judged_hearing plan s ss WrongSide shown = refl
judged_hearing plan s ss Refused shown = refl

taken_hearing : (plan : PostPlan) (s : State) (kept : Option Session) (r : Reading) → hearing_of (taken_in plan s kept r) ≡ hearing_of s
taken_hearing plan s None r = refl
taken_hearing plan s (Some ss) r = judged_hearing plan s ss r.judged r.shown

read_hearing : (plan : PostPlan) (s : State) (r : Option Reading) → hearing_of (read plan s r) ≡ hearing_of s
read_hearing plan s None = refl
read_hearing plan s (Some r) = taken_hearing plan s s.session r

pub decided_hearing : (plan : PostPlan) (s : State) → hearing_of (decided plan s) ≡ hearing_of s
decided_hearing plan s = let p = planned plan s in ap hearing_of p.is

pub filled_hearing : (plan : PostPlan) (r : Option Reading) (s : State) → hearing_of (filled plan r s) ≡ hearing_of s
filled_hearing plan r s = read_hearing plan (decided plan s) r ∙ decided_hearing plan s

pub acted_hearing : (a : Act) (taken : Bool) (s : State) → hearing_of (acted a taken s) ≡ hearing_of s
acted_hearing (Give o) true s = refl
acted_hearing (Give o) false s = refl
acted_hearing (Send bytes) true s = refl
acted_hearing (Send bytes) false s = refl
acted_hearing (Answer bytes) taken s = refl
acted_hearing (End cause) taken s = refl

pub does_hearing : (plan : PostPlan) (r : Option Reading) (a : Act) (taken : Bool) (s : State) → hearing_of (acted a taken (filled plan r s)) ≡ hearing_of s
does_hearing plan r a taken s = acted_hearing a taken (filled plan r s) ∙ filled_hearing plan r s

abbrev hearing_in : List Seen → Hearing
hearing_in past = record { clock = now past; arrived = arrival (newest_event past); event = newest_event past; stood = standing (before_hearing past) }

steps_hearing : (plan : PostPlan) (steps : List Step) → hearing_of (state plan steps) ≡ hearing_in (map seen_of steps)
steps_hearing plan [] = refl
steps_hearing plan (Hears at e ∷ steps) = ap (λ (x : Standing). record { clock = at; arrived = arrival e; event = e; stood = x }) (contactors_are_read plan steps).standing_is
steps_hearing plan (Does r a taken ∷ steps) = does_hearing plan r a taken (state plan steps) ∙ steps_hearing plan steps

pub steps_clock : (plan : PostPlan) (steps : List Step) → (state plan steps).clock ≡ now (map seen_of steps)
steps_clock plan steps = ap (λ (h : Hearing). h.clock) (steps_hearing plan steps)

pub facts_are_read : FactsAreRead
facts_are_read plan steps =
    let h = steps_charger plan steps in
    let k = contactors_are_read plan steps in
    let l = steps_live plan steps in
    let w = steps_hearing plan steps in
    record {
      clock_is = steps_clock plan steps;
      event_is = ap (λ (x : Hearing). x.event) w;
      arrived_is = ap (λ (x : Hearing). x.arrived) w;
      stood_is = ap (λ (x : Hearing). x.stood) w;
      pilot_is = ap (λ (x : Charger). x.pilot) h;
      isolation_is = ap (λ (x : Charger). x.isolation) h;
      voltage_is = ap (λ (x : Charger). x.voltage) h;
      current_is = ap (λ (x : Charger). x.current) h;
      paid_is = ap (λ (x : Charger). x.paid) h;
      stop_is = ap (λ (x : Charger). x.stop) h;
      contactor_is = k.standing_is;
      live_is = k.live_is;
      session_is = sym l.lives;
    }
