-- What holds of each thing that may be decided holds of what is decided: one eliminator for every law.
use Rattle.std.proofs.Common.{◌≡◌, Bool, true, false, refl, ap}
use Rattle.session_words.specs.declared.plan.PostPlan.{PostPlan}
use Rattle.station_spec.specs.States.{Agenda, Part, Repeating, Timing, Eventing, Wording, State, is_done}
use Rattle.station_spec.specs.Deciding.{decide, repeating, timing, eventing, fronting, from_wording, from_eventing, from_timing, from_part, decided}

-- what each part decides, where all that was decided before is done
pub record Parts (P : State → Type 0) (plan : PostPlan) (s : State) : Type 0 where
  pub repeats : P (record s { agenda = repeating s.facts.contactor; part = Timing })
  pub times : P (record s { agenda = timing s.session s.clock s.live; part = Eventing })
  pub events : P (record s { agenda = eventing plan s.event s; part = Wording })
  pub fronts : P (record s { agenda = fronting s.session s.live; part = Wording })

decide_by : (P : State → Type 0) (agenda : Agenda) (part : Part) (s rest : State) (b : Bool) → is_done agenda ≡ b → P (record s { agenda = agenda; part = part }) → P rest → P (decide agenda part s rest)
decide_by P agenda part s rest true e p q = rw e q
decide_by P agenda part s rest false e p q = rw e p

wording_by : (P : State → Type 0) (plan : PostPlan) (s : State) → Parts P plan s → P s → P (from_wording s)
wording_by P plan s parts p = decide_by P (fronting s.session s.live) Wording s s _ refl parts.fronts p

eventing_by : (P : State → Type 0) (plan : PostPlan) (s : State) → Parts P plan s → P s → P (from_eventing plan s)
eventing_by P plan s parts p = decide_by P (eventing plan s.event s) Wording s (from_wording s) _ refl parts.events (wording_by P plan s parts p)

timing_by : (P : State → Type 0) (plan : PostPlan) (s : State) → Parts P plan s → P s → P (from_timing plan s)
timing_by P plan s parts p = decide_by P (timing s.session s.clock s.live) Eventing s (from_eventing plan s) _ refl parts.times (eventing_by P plan s parts p)

part_by : (P : State → Type 0) (plan : PostPlan) (part : Part) (s : State) → Parts P plan s → P s → P (from_part plan part s)
part_by P plan Repeating s parts p = decide_by P (repeating s.facts.contactor) Timing s (from_timing plan s) _ refl parts.repeats (timing_by P plan s parts p)
part_by P plan Timing s parts p = timing_by P plan s parts p
part_by P plan Eventing s parts p = eventing_by P plan s parts p
part_by P plan Wording s parts p = wording_by P plan s parts p

decided_if : (P : State → Type 0) (plan : PostPlan) (s : State) (b : Bool) → is_done s.agenda ≡ b → (is_done s.agenda ≡ true → Parts P plan s) → P s → P (decided plan s)
decided_if P plan s true e parts p = rw e (part_by P plan s.part s (parts e) p)
decided_if P plan s false e parts p = rw e p

pub decided_by : (P : State → Type 0) (plan : PostPlan) (s : State) → (is_done s.agenda ≡ true → Parts P plan s) → P s → P (decided plan s)
decided_by P plan s parts p = decided_if P plan s (is_done s.agenda) refl parts p

-- nothing but the agenda and the part is decided
pub record IsPlanned (s t : State) : Type 0 where
  pub agenda : Agenda
  pub part : Part
  pub is : t ≡ record s { agenda = agenda; part = part }

pub planned : (plan : PostPlan) (s : State) → IsPlanned s (decided plan s)
planned plan s = decided_by (IsPlanned s) plan s
    (λ d. record {
      repeats = record { agenda = _; part = _; is = refl };
      times = record { agenda = _; part = _; is = refl };
      events = record { agenda = _; part = _; is = refl };
      fronts = record { agenda = _; part = _; is = refl };
    })
    (record { agenda = s.agenda; part = s.part; is = refl })

pub same_session : (plan : PostPlan) (s : State) → (decided plan s).session ≡ s.session
same_session plan s = let p = planned plan s in ap (λ (t : State). t.session) p.is

pub same_live : (plan : PostPlan) (s : State) → (decided plan s).live ≡ s.live
same_live plan s = let p = planned plan s in ap (λ (t : State). t.live) p.is

pub same_facts : (plan : PostPlan) (s : State) → (decided plan s).facts ≡ s.facts
same_facts plan s = let p = planned plan s in ap (λ (t : State). t.facts) p.is
