-- Each act leaves less to do.
use Rattle.std.proofs.Common.{◌≡◌, ◌<◌, ◌≤◌, ℕ, ◌+◌, ◌*◌, Bool, true, false, if◌then◌else◌, List, length, Option, Some, None, Result, Ok, Err, refl, sym, ap, subst, arith}
use Rattle.std.specs.Option.{option_map}
use Rattle.std.proofs.lemmas.List.{length-drop}
use Rattle.charge_world.specs.declared.ports.Order.{Order}
use Rattle.charge_world.specs.declared.ports.Order.TheVariants as order
use Rattle.session_words.specs.declared.cause.EndCause.{EndCause}
use Rattle.session_words.specs.declared.cause.EndCause.TheVariants.{SendFailed, OrderFailed}
use Rattle.session_words.specs.declared.plan.PostPlan.{PostPlan}
use Rattle.v2gtp_frames.specs.declared.FrameFault.{FrameFault}
use Rattle.v2gtp_frames.specs.Reading.{whole_at, behind_front}
use Rattle.v2gtp_frames.proofs.Growing.{whole_fits}
use Rattle.session_rules.specs.Stages.{is_waiting}
use Rattle.post_spec.specs.Codecs.{Codecs, Judged, Negotiated, Asked, WrongSide, Refused}
use Rattle.post_spec.specs.Steps.{Act, Reading}
use Rattle.station_spec.specs.States.{Spoken, Agenda, Part, Repeating, Timing, Eventing, Wording, Session, State, nothing, is_done, is_none, first, first_of}
use Rattle.station_spec.specs.States as states
use Rattle.station_spec.specs.Deciding.{opening_if, ending_in, decide, repeating, timing, eventing, fronting, fronting_by, from_wording, from_eventing, from_timing, from_repeating, from_part, decided}
use Rattle.station_spec.specs.Judging.{Payload, payload_by, payload_in, wanted, unmatched, judged, taken_in, read, filled, IsRead}
use Rattle.station_spec.specs.Acting.{since_order, live_ordered, failing, giving, replied, agenda_said, saying, telling, ended, acted}
use Rattle.station_spec.specs.Next.{IsDone, Acts}
use Rattle.site_posts.specs.Work.{parts_left, one_if, load, spare, work_in, work}

one_le : {A : Type 0} (o : Option A) → one_if o ≤ 1
one_le None = omega arith
one_le (Some a) = omega arith

spare_le : (e : Option EndCause) → spare e ≤ 3
spare_le None = omega arith
spare_le (Some cause) = omega arith

left_le : (session : Option Session) (e : Option EndCause) → work_in session e ≤ work_in session None
left_le None e = omega arith
left_le (Some session) None = omega arith
left_le (Some session) (Some cause) = omega arith

no_ending : (d : Option (List ℕ)) (o : Option Order) (r : Option Spoken) (e : Option EndCause) → is_none (first_of d o r e) ≡ true → e ≡ None
no_ending None None None None h = refl
no_ending None None None (Some cause) h = cc
no_ending None None (Some spoken) e h = cc
no_ending None (Some order) r e h = cc
no_ending (Some datagram) o r e h = cc

-- what is left where all that was decided is done
abbrev rest_of : State → ℕ
rest_of s = 6 * parts_left s.part + work_in s.session None

done_work : (s : State) → is_done s.agenda ≡ true → rest_of s ≤ work s
done_work s h =
    let e : work_in s.session s.agenda.ending ≡ work_in s.session None = ap (work_in s.session) (no_ending s.agenda.datagram s.agenda.order s.agenda.reply s.agenda.ending h) in
    omega (arith, e)

load_le : (a : Agenda) → load a ≤ 6
load_le a = omega (arith, one_le a.datagram, one_le a.order, one_le a.reply, one_le a.ending, one_le a.behind_reply)

decide_work : (agenda : Agenda) (part : Part) (s rest : State) (n : ℕ) (b : Bool) → is_done agenda ≡ b → 6 * parts_left part + 6 + work_in s.session None ≤ n → work rest ≤ n → work (decide agenda part s rest) ≤ n
decide_work agenda part s rest n true e h r = rw e r
decide_work agenda part s rest n false e h r = rw e (omega (arith, load_le agenda, left_le s.session agenda.ending))

-- the parts in turn, where n is at least what is left
front_by : (session : Session) (r : Result (Option ℕ) FrameFault) (waiting live : Bool) →
    let a = fronting_by r waiting live in
    load a + work_in (Some session) a.ending ≤ work_in (Some session) None
front_by session (Err fault) waiting live = omega (arith, one_le (opening_if live))
front_by session (Ok None) waiting live = omega arith
front_by session (Ok (Some n)) true live = omega (arith, one_le (opening_if live))
front_by session (Ok (Some n)) false live = omega arith

front_work : (session : Option Session) (live : Bool) →
    let a = fronting session live in
    load a + work_in session a.ending ≤ work_in session None
front_work None live = omega arith
front_work (Some session) live = front_by session (whole_at session.unread) (is_waiting session.stage.row) live

decide_wording : (agenda : Agenda) (s : State) (n : ℕ) (b : Bool) → is_done agenda ≡ b → load agenda + work_in s.session agenda.ending ≤ n → work s ≤ n → work (decide agenda Wording s s) ≤ n
decide_wording agenda s n true e h r = rw e r
decide_wording agenda s n false e h r = rw e (omega (arith, h))

wording_work : (s : State) (n : ℕ) → work s ≤ n → work_in s.session None ≤ n → work (from_wording s) ≤ n
wording_work s n h g =
    let a = fronting s.session s.live in
    decide_wording a s n (is_done a) refl (omega (arith, front_work s.session s.live)) h

eventing_work : (plan : PostPlan) (s : State) (n : ℕ) → work s ≤ n → 6 + work_in s.session None ≤ n → work (from_eventing plan s) ≤ n
eventing_work plan s n h g =
    let a = eventing plan s.event s in
    decide_work a Wording s (from_wording s) n (is_done a) refl (omega arith) (wording_work s n h (omega arith))

timing_work : (plan : PostPlan) (s : State) (n : ℕ) → work s ≤ n → 12 + work_in s.session None ≤ n → work (from_timing plan s) ≤ n
timing_work plan s n h g =
    let a = timing s.session s.clock s.live in
    decide_work a Eventing s (from_eventing plan s) n (is_done a) refl (omega arith) (eventing_work plan s n h (omega arith))

repeating_work : (plan : PostPlan) (s : State) (n : ℕ) → work s ≤ n → 18 + work_in s.session None ≤ n → work (from_repeating plan s) ≤ n
repeating_work plan s n h g =
    let a = repeating s.facts.contactor in
    decide_work a Timing s (from_timing plan s) n (is_done a) refl (omega arith) (timing_work plan s n h (omega arith))

from_work : (plan : PostPlan) (part : Part) (s : State) (n : ℕ) → work s ≤ n → 6 * parts_left part + work_in s.session None ≤ n → work (from_part plan part s) ≤ n
from_work plan Repeating s n h g = repeating_work plan s n h g
from_work plan Timing s n h g = timing_work plan s n h g
from_work plan Eventing s n h g = eventing_work plan s n h g
from_work plan Wording s n h g = wording_work s n h (omega arith)

decided_if : (plan : PostPlan) (s : State) (b : Bool) → is_done s.agenda ≡ b → work (decided plan s) ≤ work s
decided_if plan s true e = rw e (from_work plan s.part s (work s) (omega arith) (done_work s e))
decided_if plan s false e = let g : work s ≤ work s = omega arith in rw e g

decided_work : (plan : PostPlan) (s : State) → work (decided plan s) ≤ work s
decided_work plan s = decided_if plan s (is_done s.agenda) refl

-- a word that is read is one less
behind_less : (bytes : List ℕ) (n : ℕ) → whole_at bytes ≡ Ok (Some n) → 8 + length (behind_front bytes) ≤ length bytes
behind_less bytes n h =
    let fits = whole_fits bytes n h in
    rw h (omega (arith, fits.fits, length-drop (8 + n) bytes))

judged_work : (plan : PostPlan) (s : State) (session : Session) (j : Judged) (shown n : ℕ) → length (behind_front session.unread) + 6 ≤ n → work (judged plan s session j shown) ≤ n
judged_work plan s session (Negotiated chosen response) shown n h = omega (arith, one_le (unmatched chosen), h)
judged_work plan s session (Asked r) shown n h =
    let t = judged plan s session (Asked r) shown in
    omega (arith, one_le t.agenda.order, one_le t.agenda.reply, one_le t.agenda.ending, spare_le t.agenda.ending, h)
judged_work plan s session WrongSide shown n h = omega (arith, one_le (opening_if s.live), h)
judged_work plan s session Refused shown n h = omega (arith, one_le (opening_if s.live), h)

payload_whole : (r : Result (Option ℕ) FrameFault) (session : Session) (p : Payload) → payload_by r session ≡ Some p → (n : ℕ) × (r ≡ Ok (Some n))
payload_whole (Err fault) session p h = cc
payload_whole (Ok None) session p h = cc
payload_whole (Ok (Some n)) session p h = (n, refl)

in_if : (plan : PostPlan) (s : State) (session : Session) (p : Payload) (r : Reading) (n : ℕ) (b : Bool) → is_waiting session.stage.row ≡ b
    → (if b then None else payload_by (whole_at session.unread) session) ≡ Some p → length session.unread + 3 ≤ n → work (judged plan s session r.judged r.shown) ≤ n
in_if plan s session p r n true e w h = absurd (let g : None ≡ Some p = w in cc)
in_if plan s session p r n false e w h =
    let whole = payload_whole (whole_at session.unread) session p w in
    judged_work plan s session r.judged r.shown n (omega (arith, behind_less session.unread whole.0 whole.1, h))

in_work : (plan : PostPlan) (s : State) (session : Option Session) (p : Payload) (r : Reading) (n : ℕ) → payload_in session ≡ Some p → work_in session None ≤ n → work (taken_in plan s session r) ≤ n
in_work plan s None p r n w h = absurd (let g : None ≡ Some p = w in cc)
in_work plan s (Some session) p r n w h = in_if plan s session p r n (is_waiting session.stage.row) refl w h

read_done : (plan : PostPlan) (s : State) (r : Reading) (p : Payload) (b : Bool) → is_done s.agenda ≡ b → wanted s ≡ Some p → work (read plan s (Some r)) ≤ work s
read_done plan s r p true e w =
    let g : payload_in s.session ≡ Some p = rw e at w in
    in_work plan s s.session p r (work s) g (omega (arith, done_work s e))
read_done plan s r p false e w = absurd (let g : None ≡ Some p = rw e at w in cc)

read_work : (c : Codecs) (plan : PostPlan) (Shows : ℕ → ℕ → Type 0) (s : State) (w : Option Payload) (reading : Option Reading) → wanted s ≡ w → IsRead c plan Shows s w reading → work (read plan s reading) ≤ work s
read_work c plan Shows s None None e r = omega arith
read_work c plan Shows s None (Some reading) e r = absurd r
read_work c plan Shows s (Some p) None e r = absurd r
read_work c plan Shows s (Some p) (Some reading) e r = read_done plan s reading p (is_done s.agenda) refl e

le_le : {a b c : ℕ} → a ≤ b → b ≤ c → a ≤ c
le_le h g = omega arith

lt_le : {a b c : ℕ} → a < b → b ≤ c → a < c
lt_le h g = omega arith

filled_work : (c : Codecs) (plan : PostPlan) (Shows : ℕ → ℕ → Type 0) (s : State) (reading : Option Reading) → IsRead c plan Shows (decided plan s) (wanted (decided plan s)) reading → work (filled plan reading s) ≤ work s
filled_work c plan Shows s reading h = le_le (read_work c plan Shows (decided plan s) (wanted (decided plan s)) reading refl h) (decided_work plan s)

-- which thing is first
tells_first : (d : Option (List ℕ)) (o : Option Order) (r : Option Spoken) (e : Option EndCause) (x : List ℕ) → first_of d o r e ≡ Some (states.Tell x) → one_if d ≡ 1
tells_first None None None None x h = cc
tells_first None None None (Some cause) x h = cc
tells_first None None (Some spoken) e x h = cc
tells_first None (Some order) r e x h = cc
tells_first (Some datagram) o r e x h = refl

gives_first : (d : Option (List ℕ)) (o : Option Order) (r : Option Spoken) (e : Option EndCause) (x : Order) → first_of d o r e ≡ Some (states.Give x) → one_if o ≡ 1
gives_first None None None None x h = cc
gives_first None None None (Some cause) x h = cc
gives_first None None (Some spoken) e x h = cc
gives_first None (Some order) r e x h = refl
gives_first (Some datagram) o r e x h = cc

says_first : (d : Option (List ℕ)) (o : Option Order) (r : Option Spoken) (e : Option EndCause) (x : Spoken) → first_of d o r e ≡ Some (states.Say x) → one_if r ≡ 1
says_first None None None None x h = cc
says_first None None None (Some cause) x h = cc
says_first None None (Some spoken) e x h = refl
says_first None (Some order) r e x h = cc
says_first (Some datagram) o r e x h = cc

ends_first : (d : Option (List ℕ)) (o : Option Order) (r : Option Spoken) (e : Option EndCause) (x : EndCause) → first_of d o r e ≡ Some (states.Finish x) → one_if e ≡ 1
ends_first None None None None x h = cc
ends_first None None None (Some cause) x h = refl
ends_first None None (Some spoken) e x h = cc
ends_first None (Some order) r e x h = cc
ends_first (Some datagram) o r e x h = cc

-- what a session has not read stays
ordered_left : (o : Order) (now : ℕ) (session : Option Session) (e : Option EndCause) → work_in (option_map (since_order now o) session) e ≡ work_in session e
ordered_left order.Open now None e = refl
ordered_left order.Open now (Some session) e = refl
ordered_left order.Close now None e = refl
ordered_left order.Close now (Some session) e = refl
ordered_left (order.Limits voltage current watts) now None e = refl
ordered_left (order.Limits voltage current watts) now (Some session) e = refl

replied_left : (now : ℕ) (session : Option Session) (e : Option EndCause) → work_in (option_map (replied now) session) e ≡ work_in session e
replied_left now None e = refl
replied_left now (Some session) e = refl

ending_in_work : (session : Option Session) (cause : EndCause) (live : Bool) →
    let a = ending_in session cause live in
    load a + work_in session a.ending ≤ 2 + work_in session (Some cause)
ending_in_work None cause live = omega arith
ending_in_work (Some session) cause live = omega (arith, one_le (opening_if live))

failing_work : (e : Option EndCause) (session : Option Session) (cause : EndCause) (live : Bool) →
    let a = failing e session cause live in
    load a + work_in session a.ending ≤ one_if e + work_in session e
failing_work None None cause live = omega arith
failing_work None (Some session) cause live = omega (arith, one_le (opening_if live))
failing_work (Some ending) session cause live = omega arith

-- less is left behind an act
gave_work : (s : State) (o : Order) (taken : Bool) → one_if s.agenda.order ≡ 1 → work (giving o taken s) < work s
gave_work s o true h = omega (arith, ordered_left o s.clock s.session s.agenda.ending)
gave_work s o false h = omega (arith, failing_work s.agenda.ending s.session OrderFailed (live_ordered o false s.live))

least_le : (session : Option Session) (cause : EndCause) (e : Option EndCause) → work_in session (Some cause) ≤ work_in session e
least_le None cause e = omega arith
least_le (Some session) cause e = omega arith

said_behind : (session : Option Session) (a : Agenda) (b : Option EndCause) (now : ℕ) (live : Bool) → a.behind_reply ≡ b → one_if a.reply ≡ 1 →
    let n = agenda_said b session a live in
    load n + work_in (option_map (replied now) session) n.ending < load a + work_in session a.ending
said_behind session a None now live e h = omega (arith, replied_left now session a.ending)
said_behind session a (Some cause) now live e h =
    let n = ending_in session cause live in
    let one : one_if a.behind_reply ≡ 1 = ap one_if e in
    let least : work_in session (Some cause) ≤ work_in session a.ending = least_le session cause a.ending in
    omega (arith, one, replied_left now session n.ending, ending_in_work session cause live, least)

said_work : (s : State) (taken : Bool) → one_if s.agenda.reply ≡ 1 → work (saying taken s) < work s
said_work s true h = omega (arith, said_behind s.session s.agenda s.agenda.behind_reply s.clock s.live refl h)
said_work s false h = omega (arith, failing_work s.agenda.ending s.session SendFailed s.live)

told_work : (s : State) → one_if s.agenda.datagram ≡ 1 → work (telling s) < work s
told_work s h = omega arith

ended_work : (s : State) → one_if s.agenda.ending ≡ 1 → work (ended s) < work s
ended_work s h = omega arith

todo_work : (c : Codecs) (t : State) (todo : states.Todo) (a : Act) (taken : Bool) → first t.agenda ≡ Some todo → IsDone c todo a taken → work (acted a taken t) < work t
todo_work c t (states.Tell x) a taken f d =
    subst (λ (b : Act). work (acted b taken t) < work t) (sym d) (told_work t (tells_first t.agenda.datagram t.agenda.order t.agenda.reply t.agenda.ending x f))
todo_work c t (states.Give o) a taken f d =
    subst (λ (b : Act). work (acted b taken t) < work t) (sym d) (gave_work t o taken (gives_first t.agenda.datagram t.agenda.order t.agenda.reply t.agenda.ending o f))
todo_work c t (states.Say spoken) a taken f d =
    subst (λ (b : Act). work (acted b taken t) < work t) (sym d.2) (said_work t taken (says_first t.agenda.datagram t.agenda.order t.agenda.reply t.agenda.ending spoken f))
todo_work c t (states.Finish cause) a taken f d =
    subst (λ (b : Act). work (acted b taken t) < work t) (sym d.0) (ended_work t (ends_first t.agenda.datagram t.agenda.order t.agenda.reply t.agenda.ending cause f))

pub acted_work : (c : Codecs) (plan : PostPlan) (Shows : ℕ → ℕ → Type 0) (s : State) (reading : Option Reading) (a : Act) (taken : Bool) → Acts c plan Shows s reading a taken → work (acted a taken (filled plan reading s)) < work s
acted_work c plan Shows s reading a taken h =
    lt_le (todo_work c (filled plan reading s) h.todo a taken h.acts h.done) (filled_work c plan Shows s reading h.read)
