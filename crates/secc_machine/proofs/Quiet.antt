-- A quiet post read all frames that came, and deciding leaves it.
use Rattle.std.proofs.Common.{◌≡◌, ℕ, Bool, true, false, if◌then◌else◌, Option, Some, None, Result, Ok, Err, refl, ap, sym, subst, ◌∙◌}
use Rattle.session_words.specs.declared.plan.PostPlan.{PostPlan}
use Rattle.v2gtp_frames.specs.declared.FrameFault.{FrameFault}
use Rattle.v2gtp_frames.specs.Reading.{whole_at}
use Rattle.session_rules.specs.Stages.{is_waiting}
use Rattle.station_spec.specs.States.{Agenda, Part, Repeating, Timing, Eventing, Wording, Session, State, first, is_none, is_done}
use Rattle.station_spec.specs.Deciding.{repeating, timing, eventing, fronting_by, fronting, decide, from_wording, from_eventing, from_timing, from_repeating, from_part, decided}
use Rattle.station_spec.specs.Judging.{payload_by, payload_in, wanted}
use Rattle.station_spec.specs.Next.{IsQuiet}
use Rattle.station_spec.specs.Hearing.{session_opened}
use Rattle.secc_machine.specs.Resting.{IsReadOut}

-- where nothing is decided, a part's agenda is done
done_if : (agenda : Agenda) (part : Part) (s rest : State) (b : Bool) → is_done agenda ≡ b → first (decide agenda part s rest).agenda ≡ None
    → is_done agenda ≡ true
done_if agenda part s rest true e h = e
done_if agenda part s rest false e h = let none : first agenda ≡ None = rw e at h in ap is_none none

-- what a part decides whose own agenda is done
behind : (agenda : Agenda) (part : Part) (s rest : State) → is_done agenda ≡ true → decide agenda part s rest ≡ rest
behind agenda part s rest e = rw e

-- a post that the parts from one on leave, and whose front says nothing
record Left (s rest : State) : Type 0 where
  same : rest ≡ s
  front : is_done (fronting s.session s.live) ≡ true

part_none : (agenda : Agenda) (part : Part) (s rest : State) → (first rest.agenda ≡ None → Left s rest) → first (decide agenda part s rest).agenda ≡ None
    → Left s (decide agenda part s rest)
part_none agenda part s rest rests h =
    let e = behind agenda part s rest (done_if agenda part s rest (is_done agenda) refl h) in
    let l = rests (subst (λ (t : State). first t.agenda ≡ None) e h) in
    record { same = e ∙ l.same; front = l.front }

wording_none : (s : State) → first (from_wording s).agenda ≡ None → Left s (from_wording s)
wording_none s h =
    let done = done_if (fronting s.session s.live) Wording s s (is_done (fronting s.session s.live)) refl h in
    record { same = behind (fronting s.session s.live) Wording s s done; front = done }

eventing_none : (plan : PostPlan) (s : State) → first (from_eventing plan s).agenda ≡ None → Left s (from_eventing plan s)
eventing_none plan s h = part_none (eventing plan s.event s) Wording s (from_wording s) (wording_none s) h

timing_none : (plan : PostPlan) (s : State) → first (from_timing plan s).agenda ≡ None → Left s (from_timing plan s)
timing_none plan s h = part_none (timing s.session s.clock s.live) Eventing s (from_eventing plan s) (eventing_none plan s) h

repeating_none : (plan : PostPlan) (s : State) → first (from_repeating plan s).agenda ≡ None → Left s (from_repeating plan s)
repeating_none plan s h = part_none (repeating s.facts.contactor) Timing s (from_timing plan s) (timing_none plan s) h

from_none : (plan : PostPlan) (part : Part) (s : State) → first (from_part plan part s).agenda ≡ None → Left s (from_part plan part s)
from_none plan Repeating s h = repeating_none plan s h
from_none plan Timing s h = timing_none plan s h
from_none plan Eventing s h = eventing_none plan s h
from_none plan Wording s h = wording_none s h

left_if : (plan : PostPlan) (s : State) (b : Bool) → is_done s.agenda ≡ b → first (decided plan s).agenda ≡ None → Left s (decided plan s)
left_if plan s true e h =
    let g : first (from_part plan s.part s).agenda ≡ None = rw e at h in
    let l = from_none plan s.part s g in
    record { same = rw e l.same; front = l.front }
left_if plan s false e h = absurd (let none : first s.agenda ≡ None = rw e at h in let done : is_done s.agenda ≡ true = ap is_none none in cc)

left : (plan : PostPlan) (s : State) → IsQuiet plan s → Left s (decided plan s)
left plan s q = left_if plan s (is_done s.agenda) refl q.none

pub stays : (plan : PostPlan) (s : State) → IsQuiet plan s → decided plan s ≡ s
stays plan s q = (left plan s q).same

front_out : (w : Result (Option ℕ) FrameFault) (waiting live : Bool) (session : Session) → is_done (fronting_by w waiting live) ≡ true
    → (if waiting then None else payload_by w session) ≡ None → w ≡ Ok None
front_out (Err fault) waiting true session d p = cc
front_out (Err fault) waiting false session d p = cc
front_out (Ok None) waiting live session d p = refl
front_out (Ok (Some n)) true true session d p = cc
front_out (Ok (Some n)) true false session d p = cc
front_out (Ok (Some n)) false live session d p = cc

read_out : (session : Option Session) (live : Bool) → is_done (fronting session live) ≡ true → payload_in session ≡ None → IsReadOut session
read_out None live d p = tt
read_out (Some session) live d p = front_out (whole_at session.unread) (is_waiting session.stage.row) live session d p

-- of a post whose agenda is done, the word that is wanted is the one at the front
no_payload : (s : State) → is_done s.agenda ≡ true → wanted s ≡ None → payload_in s.session ≡ None
no_payload s e w = rw e at w

pub reads : (plan : PostPlan) (s : State) → IsQuiet plan s → IsReadOut s.session
reads plan s q =
    let l = left plan s q in
    let none : first s.agenda ≡ None = subst (λ (t : State). first t.agenda ≡ None) l.same q.none in
    let word : wanted s ≡ None = subst (λ (t : State). wanted t ≡ None) l.same q.no_word in
    read_out s.session s.live l.front (no_payload s (ap is_none none) word)

-- a connection that opens its session begins a new stream
opened_by : (arrived : Option ℕ) (clock : ℕ) (session : Option Session) → IsReadOut session → IsReadOut (session_opened arrived clock session)
unfolding whole_at
opened_by None clock session h = h
opened_by (Some token) clock session h = refl

pub opened : (old new : State) → new ≡ record old { session = session_opened old.arrived old.clock old.session } → IsReadOut old.session → IsReadOut new.session
opened old new e h = subst (λ (s : State). IsReadOut s.session) (sym e) (opened_by old.arrived old.clock old.session h)
