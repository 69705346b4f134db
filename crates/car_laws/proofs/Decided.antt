-- What holds of each thing that may be decided holds of what is decided: one eliminator for every law.
use Rattle.std.proofs.Common.{◌≡◌, Bool, true, false, ◌&&◌, not, if◌then◌else◌, refl, ap, sym, subst}
use Rattle.session_words.specs.declared.plan.CarPlan.{CarPlan}
use Rattle.car_spec.specs.States.{Agenda, Part, Unheard, Timing, Eventing, Wording, State, is_done}
use Rattle.car_spec.specs.Deciding.{decide, timing, eventing, fronting, has_word, repeating, seeking, from_seeking, from_repeating, from_wording, from_nothing, from_eventing, from_timing, from_part, decided}

-- the hearing's words aren't reached yet
abbrev pub IsEarly : Part → Type 0
IsEarly Unheard = ⊥
IsEarly Timing = Unit {0}
IsEarly Eventing = Unit {0}
IsEarly Wording = ⊥

-- what each part decides, where all that was decided before is done
pub record Parts (P : State → Type 0) (plan : CarPlan) (s : State) : Type 0 where
  pub times : IsEarly s.part → P (record s { agenda = timing plan s; part = Eventing })
  pub events : IsEarly s.part → P (record s { agenda = eventing plan s.event s; part = Wording })
  pub fronts : P (record s { agenda = fronting s.session s.live; part = Wording })
  pub repeats : P (record s { agenda = repeating plan s.session s.clock; part = Wording })
  pub seeks : P (record s { agenda = seeking plan s.search s.clock; part = Wording })

decide_by : (P : State → Type 0) (agenda : Agenda) (part : Part) (s rest : State) (b : Bool) → is_done agenda ≡ b → P (record s { agenda = agenda; part = part }) → P rest → P (decide agenda part s rest)
decide_by P agenda part s rest true e p q = rw e q
decide_by P agenda part s rest false e p q = rw e p

seeking_by : (P : State → Type 0) (plan : CarPlan) (s : State) → Parts P plan s → P s → P (from_seeking plan s)
seeking_by P plan s parts p = decide_by P (seeking plan s.search s.clock) Wording s s _ refl parts.seeks p

repeating_by : (P : State → Type 0) (plan : CarPlan) (s : State) → Parts P plan s → P s → P (from_repeating plan s)
repeating_by P plan s parts p = decide_by P (repeating plan s.session s.clock) Wording s (from_seeking plan s) _ refl parts.repeats (seeking_by P plan s parts p)

unless_word : (P : State → Type 0) (plan : CarPlan) (s : State) (b : Bool) → Parts P plan s → P s → P (if b then s else from_repeating plan s)
unless_word P plan s true parts p = p
unless_word P plan s false parts p = repeating_by P plan s parts p

wording_by : (P : State → Type 0) (plan : CarPlan) (s : State) → Parts P plan s → P s → P (from_wording plan s)
wording_by P plan s parts p = decide_by P (fronting s.session s.live) Wording s _ _ refl parts.fronts (unless_word P plan s (has_word s.session) parts p)

nothing_by : (P : State → Type 0) (plan : CarPlan) (s : State) → Parts P plan s → P s → P (from_nothing s)
nothing_by P plan s parts p = decide_by P (fronting s.session s.live) Wording s s _ refl parts.fronts p

eventing_by : (P : State → Type 0) (plan : CarPlan) (s : State) → IsEarly s.part → Parts P plan s → P s → P (from_eventing plan s)
eventing_by P plan s early parts p = decide_by P (eventing plan s.event s) Wording s (from_wording plan s) _ refl (parts.events early) (wording_by P plan s parts p)

timing_by : (P : State → Type 0) (plan : CarPlan) (s : State) → IsEarly s.part → Parts P plan s → P s → P (from_timing plan s)
timing_by P plan s early parts p = decide_by P (timing plan s) Eventing s (from_eventing plan s) _ refl (parts.times early) (eventing_by P plan s early parts p)

part_by : (P : State → Type 0) (plan : CarPlan) (part : Part) (s : State) → s.part ≡ part → Parts P plan s → P s → P (from_part plan part s)
part_by P plan Unheard s e parts p = nothing_by P plan s parts p
part_by P plan Timing s e parts p = timing_by P plan s (subst IsEarly (sym e) tt) parts p
part_by P plan Eventing s e parts p = eventing_by P plan s (subst IsEarly (sym e) tt) parts p
part_by P plan Wording s e parts p = wording_by P plan s parts p

decided_if : (P : State → Type 0) (plan : CarPlan) (s : State) (b : Bool) → (is_done s.agenda && not s.over) ≡ b
    → ((is_done s.agenda && not s.over) ≡ true → Parts P plan s) → P s → P (decided plan s)
decided_if P plan s true e parts p = rw e (part_by P plan s.part s refl (parts e) p)
decided_if P plan s false e parts p = rw e p

pub decided_by : (P : State → Type 0) (plan : CarPlan) (s : State) → ((is_done s.agenda && not s.over) ≡ true → Parts P plan s) → P s → P (decided plan s)
decided_by P plan s parts p = decided_if P plan s _ refl parts p

-- nothing but the agenda and the part is decided
pub record IsPlanned (s t : State) : Type 0 where
  pub agenda : Agenda
  pub part : Part
  pub is : t ≡ record s { agenda = agenda; part = part }

pub planned : (plan : CarPlan) (s : State) → IsPlanned s (decided plan s)
planned plan s = decided_by (IsPlanned s) plan s
    (λ d. record {
      times = λ early. record { agenda = _; part = _; is = refl };
      events = λ early. record { agenda = _; part = _; is = refl };
      fronts = record { agenda = _; part = _; is = refl };
      repeats = record { agenda = _; part = _; is = refl };
      seeks = record { agenda = _; part = _; is = refl };
    })
    (record { agenda = s.agenda; part = s.part; is = refl })

pub same_live : (plan : CarPlan) (s : State) → (decided plan s).live ≡ s.live
same_live plan s = let p = planned plan s in ap (λ (t : State). t.live) p.is

pub same_over : (plan : CarPlan) (s : State) → (decided plan s).over ≡ s.over
same_over plan s = let p = planned plan s in ap (λ (t : State). t.over) p.is
