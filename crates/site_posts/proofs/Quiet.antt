-- Where nothing is to be done.
use Rattle.std.proofs.Common.{◌≡◌, Bool, true, false, None, refl, ap, subst, ◌∙◌}
use Rattle.session_words.specs.declared.plan.PostPlan.{PostPlan}
use Rattle.station_spec.specs.States.{Agenda, Part, Repeating, Timing, Eventing, Wording, State, is_done, is_none, first}
use Rattle.station_spec.specs.Deciding.{decide, repeating, timing, eventing, fronting, from_wording, from_eventing, from_timing, from_repeating, from_part, decided}

behind_if : (agenda : Agenda) (part : Part) (s rest : State) (b : Bool) → is_done agenda ≡ b → first (decide agenda part s rest).agenda ≡ None → decide agenda part s rest ≡ rest
behind_if agenda part s rest true e h = rw e
behind_if agenda part s rest false e h =
    let none : first agenda ≡ None = rw e at h in
    let done : is_done agenda ≡ true = ap is_none none in
    cc

-- one part more, where nothing is decided
part_none : (agenda : Agenda) (part : Part) (s rest : State) → (first rest.agenda ≡ None → rest ≡ s) → first (decide agenda part s rest).agenda ≡ None → decide agenda part s rest ≡ s
part_none agenda part s rest behind h =
    let e = behind_if agenda part s rest (is_done agenda) refl h in
    e ∙ behind (subst (λ (t : State). first t.agenda ≡ None) e h)

wording_none : (s : State) → first (from_wording s).agenda ≡ None → from_wording s ≡ s
wording_none s h = part_none (fronting s.session s.live) Wording s s (λ g. refl) h

eventing_none : (plan : PostPlan) (s : State) → first (from_eventing plan s).agenda ≡ None → from_eventing plan s ≡ s
eventing_none plan s h = part_none (eventing plan s.event s) Wording s (from_wording s) (λ g. wording_none s g) h

timing_none : (plan : PostPlan) (s : State) → first (from_timing plan s).agenda ≡ None → from_timing plan s ≡ s
timing_none plan s h = part_none (timing s.session s.clock s.live) Eventing s (from_eventing plan s) (λ g. eventing_none plan s g) h

repeating_none : (plan : PostPlan) (s : State) → first (from_repeating plan s).agenda ≡ None → from_repeating plan s ≡ s
repeating_none plan s h = part_none (repeating s.facts.contactor) Timing s (from_timing plan s) (λ g. timing_none plan s g) h

from_none : (plan : PostPlan) (part : Part) (s : State) → first (from_part plan part s).agenda ≡ None → from_part plan part s ≡ s
from_none plan Repeating s h = repeating_none plan s h
from_none plan Timing s h = timing_none plan s h
from_none plan Eventing s h = eventing_none plan s h
from_none plan Wording s h = wording_none s h

same_if : (plan : PostPlan) (s : State) (b : Bool) → is_done s.agenda ≡ b → first (decided plan s).agenda ≡ None → decided plan s ≡ s
same_if plan s true e h = let g : first (from_part plan s.part s).agenda ≡ None = rw e at h in rw e (from_none plan s.part s g)
same_if plan s false e h = rw e
