-- A quiet car read all frames that came, and deciding leaves it.
use Rattle.std.proofs.Common.{◌≡◌, ℕ, Bool, true, false, not, ◌&&◌, if◌then◌else◌, Option, Some, None, Result, Ok, Err, refl, ap, subst, ◌∙◌}
use Rattle.session_words.specs.declared.plan.CarPlan.{CarPlan}
use Rattle.v2gtp_frames.specs.declared.FrameFault.{FrameFault}
use Rattle.v2gtp_frames.specs.Reading.{whole_at}
use Rattle.car_spec.specs.States.{Agenda, Part, Unheard, Timing, Eventing, Wording, Session, State, first, is_none, is_done}
use Rattle.car_spec.specs.Deciding.{timing, eventing, fronting_by, fronting, has_word, repeating, seeking, decide, from_seeking, from_repeating, from_wording, from_nothing, from_eventing, from_timing, from_part, decided}
use Rattle.car_spec.specs.Judging.{payload_by, payload_in, wanted}
use Rattle.car_spec.specs.Next.{IsQuiet}
use Rattle.evcc_machine.specs.Resting.{IsReadOut}

-- where nothing is decided, a part's agenda is done
done_if : (agenda : Agenda) (part : Part) (s rest : State) (b : Bool) → is_done agenda ≡ b → first (decide agenda part s rest).agenda ≡ None
    → is_done agenda ≡ true
done_if agenda part s rest true e h = e
done_if agenda part s rest false e h = let none : first agenda ≡ None = rw e at h in ap is_none none

-- what a part decides whose own agenda is done
behind : (agenda : Agenda) (part : Part) (s rest : State) → is_done agenda ≡ true → decide agenda part s rest ≡ rest
behind agenda part s rest e = rw e

-- a car that the parts from one on leave, and whose front says nothing
record Left (s rest : State) : Type 0 where
  same : rest ≡ s
  front : is_done (fronting s.session s.live) ≡ true

part_same : (agenda : Agenda) (part : Part) (s rest : State) → (first rest.agenda ≡ None → rest ≡ s) → first (decide agenda part s rest).agenda ≡ None
    → decide agenda part s rest ≡ s
part_same agenda part s rest rests h =
    let e = behind agenda part s rest (done_if agenda part s rest (is_done agenda) refl h) in
    e ∙ rests (subst (λ (t : State). first t.agenda ≡ None) e h)

seeking_same : (plan : CarPlan) (s : State) → first (from_seeking plan s).agenda ≡ None → from_seeking plan s ≡ s
seeking_same plan s h = part_same (seeking plan s.search s.clock) Wording s s (λ n. refl) h

repeating_same : (plan : CarPlan) (s : State) → first (from_repeating plan s).agenda ≡ None → from_repeating plan s ≡ s
repeating_same plan s h = part_same (repeating plan s.session s.clock) Wording s (from_seeking plan s) (seeking_same plan s) h

unless_word : (plan : CarPlan) (s : State) (b : Bool) → first (if b then s else from_repeating plan s).agenda ≡ None → (if b then s else from_repeating plan s) ≡ s
unless_word plan s true h = refl
unless_word plan s false h = repeating_same plan s h

part_none : (agenda : Agenda) (part : Part) (s rest : State) → (first rest.agenda ≡ None → Left s rest) → first (decide agenda part s rest).agenda ≡ None
    → Left s (decide agenda part s rest)
part_none agenda part s rest rests h =
    let e = behind agenda part s rest (done_if agenda part s rest (is_done agenda) refl h) in
    let l = rests (subst (λ (t : State). first t.agenda ≡ None) e h) in
    record { same = e ∙ l.same; front = l.front }

wording_none : (plan : CarPlan) (s : State) → first (from_wording plan s).agenda ≡ None → Left s (from_wording plan s)
wording_none plan s h =
    let rest : State = if has_word s.session then s else from_repeating plan s in
    let done = done_if (fronting s.session s.live) Wording s rest (is_done (fronting s.session s.live)) refl h in
    record { same = part_same (fronting s.session s.live) Wording s rest (unless_word plan s (has_word s.session)) h; front = done }

nothing_none : (s : State) → first (from_nothing s).agenda ≡ None → Left s (from_nothing s)
nothing_none s h =
    let done = done_if (fronting s.session s.live) Wording s s (is_done (fronting s.session s.live)) refl h in
    record { same = part_same (fronting s.session s.live) Wording s s (λ n. refl) h; front = done }

eventing_none : (plan : CarPlan) (s : State) → first (from_eventing plan s).agenda ≡ None → Left s (from_eventing plan s)
eventing_none plan s h = part_none (eventing plan s.event s) Wording s (from_wording plan s) (wording_none plan s) h

timing_none : (plan : CarPlan) (s : State) → first (from_timing plan s).agenda ≡ None → Left s (from_timing plan s)
timing_none plan s h = part_none (timing plan s) Eventing s (from_eventing plan s) (eventing_none plan s) h

from_none : (plan : CarPlan) (part : Part) (s : State) → first (from_part plan part s).agenda ≡ None → Left s (from_part plan part s)
from_none plan Unheard s h = nothing_none s h
from_none plan Timing s h = timing_none plan s h
from_none plan Eventing s h = eventing_none plan s h
from_none plan Wording s h = wording_none plan s h

go_both : (d o : Bool) → d ≡ true → o ≡ false → (d && not o) ≡ true
go_both true true e f = cc
go_both true false e f = refl
go_both false o e f = cc

not_both : (d o : Bool) → o ≡ true → (d && not o) ≡ false
not_both true true e = refl
not_both true false e = cc
not_both false o e = refl

-- of a car that didn't end
left_if : (plan : CarPlan) (s : State) (b : Bool) → is_done s.agenda ≡ b → s.over ≡ false → first (decided plan s).agenda ≡ None → Left s (decided plan s)
left_if plan s true e o h =
    let both = go_both (is_done s.agenda) s.over e o in
    let g : first (from_part plan s.part s).agenda ≡ None = rw both at h in
    let l = from_none plan s.part s g in
    record { same = rw both l.same; front = l.front }
left_if plan s false e o h = absurd (let none : first s.agenda ≡ None = rw e at h in let done : is_done s.agenda ≡ true = ap is_none none in cc)

left : (plan : CarPlan) (s : State) → IsQuiet plan s → s.over ≡ false → Left s (decided plan s)
left plan s q o = left_if plan s (is_done s.agenda) refl o q.none

over_stays : (plan : CarPlan) (s : State) → s.over ≡ true → decided plan s ≡ s
over_stays plan s o = rw (not_both (is_done s.agenda) s.over o) refl

stays_if : (plan : CarPlan) (s : State) (b : Bool) → s.over ≡ b → IsQuiet plan s → decided plan s ≡ s
stays_if plan s true o q = over_stays plan s o
stays_if plan s false o q = (left plan s q o).same

pub stays : (plan : CarPlan) (s : State) → IsQuiet plan s → decided plan s ≡ s
stays plan s q = stays_if plan s s.over refl q

front_out : (w : Result (Option ℕ) FrameFault) (live : Bool) (session : Session) → is_done (fronting_by w live) ≡ true → payload_by w session ≡ None → w ≡ Ok None
front_out (Err fault) true session d p = cc
front_out (Err fault) false session d p = cc
front_out (Ok None) live session d p = refl
front_out (Ok (Some n)) live session d p = cc

read_out : (session : Option Session) (live : Bool) → is_done (fronting session live) ≡ true → payload_in session ≡ None → IsReadOut session
read_out None live d p = tt
read_out (Some session) live d p = front_out (whole_at session.unread) live session d p

-- of a car whose agenda is done, the word that is wanted is the one at the front
no_payload : (s : State) → is_done s.agenda ≡ true → wanted s ≡ None → payload_in s.session ≡ None
no_payload s e w = rw e at w

pub reads : (plan : CarPlan) (s : State) → IsQuiet plan s → s.over ≡ false → IsReadOut s.session
reads plan s q o =
    let l = left plan s q o in
    let none : first s.agenda ≡ None = subst (λ (t : State). first t.agenda ≡ None) l.same q.none in
    let word : wanted s ≡ None = subst (λ (t : State). wanted t ≡ None) l.same q.no_word in
    read_out s.session s.live l.front (no_payload s (ap is_none none) word)
