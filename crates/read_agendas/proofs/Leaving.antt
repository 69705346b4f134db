-- What is left of it behind each act.
use Rattle.std.proofs.Common.{◌≡◌, ℕ, Bool, true, false, not, if◌then◌else◌, List, [], ◌∷◌, drop, map, Option, Some, None, is_some, refl, sym, ap, ◌∙◌}
use Rattle.session_words.specs.declared.cause.EndCause.{EndCause}
use Rattle.session_words.specs.declared.cause.EndCause.TheVariants.{SendFailed, OrderFailed}
use Rattle.session_words.specs.declared.plan.PostPlan.{PostPlan}
use Rattle.session_rules.specs.Lines.{Line, first_line}
use Rattle.post_spec.specs.Codecs.{Judged, Negotiated, Asked, WrongSide, Refused, Codecs}
use Rattle.post_spec.specs.Contactors.{live}
use Rattle.post_spec.specs.Course.{Talked, course}
use Rattle.post_spec.specs.Facts.{now}
use Rattle.post_spec.specs.Sessions.{session}
use Rattle.post_spec.specs.Steps.{Act, Give, Send, Answer, End, Seen, Did, Reading, Step, Hears, Does, seen_of}
use Rattle.station_spec.specs.States.{Agenda, Part, Repeating, Timing, Eventing, Wording, Session, State, nothing, is_done}
use Rattle.station_spec.specs.Deciding.{ending_by, ending_in, repeating, timing, eventing, fronting, decide, from_wording, from_eventing, from_timing, from_part, decided}
use Rattle.station_spec.specs.Judging.{Payload as Wanted, judged, taken_in, read, filled, wanted, IsRead}
use Rattle.station_spec.specs.Acting.{failing, agenda_said, acted, state}
use Rattle.station_spec.specs.Sharing.{Shows}
use Rattle.station_laws.specs.PostRuns.{IsPostRun}
use Rattle.station_laws.proofs.Decided.{same_session, same_live, same_facts}
use Rattle.read_runs.specs.Courses.{talked_in}
use Rattle.read_runs.specs.Facts.{newest_event}
use Rattle.read_runs.proofs.Agendas.{WantedIn, wanted_in, wanted_done, decided_not}
use Rattle.read_runs.proofs.Courses.{courses_are_read}
use Rattle.read_runs.proofs.Facts.{facts_are_read}
use Rattle.read_sessions.proofs.Streams.{done_session}
use Rattle.read_agendas.specs.Rows.{again, late, told, asked}
use Rattle.read_agendas.specs.Left.{Left, row, rows, looked_at, begun, in_hand, failed, replied, less, left, AgendasAreRead, SessionsAreReadBetween}
use Rattle.read_agendas.proofs.Asking.{again_is, late_is, told_is, front_is, word_is}

abbrev pub left_in : State → Left
left_in s = record { part = s.part; agenda = s.agenda }

-- The first row that asks for anything.

decide_if : (b : Bool) (a : Agenda) (q : Part) (s rest : State) → left_in (if b then rest else record s { agenda = a; part = q }) ≡ (if not b then record { part = q; agenda = a } else left_in rest)
decide_if true a q s rest = refl
decide_if false a q s rest = refl

decided_row : (a : Agenda) (q : Part) (s rest : State) (ls : List (Line Left)) → left_in rest ≡ first_line ls (left_in s) → left_in (decide a q s rest) ≡ first_line (row a q ∷ ls) (left_in s)
decided_row a q s rest ls h = decide_if (is_done a) a q s rest ∙ ap (λ (x : Left). if not (is_done a) then record { part = q; agenda = a } else x) h

abbrev rows_of : PostPlan → State → List (Line Left)
rows_of plan s =
    row (repeating s.facts.contactor) Timing ∷ row (timing s.session s.clock s.live) Eventing ∷ row (eventing plan s.event s) Wording ∷ row (fronting s.session s.live) Wording ∷ []

wording_row : (s : State) → left_in (from_wording s) ≡ first_line (row (fronting s.session s.live) Wording ∷ []) (left_in s)
wording_row s = decided_row (fronting s.session s.live) Wording s s [] refl

eventing_row : (plan : PostPlan) (s : State) → left_in (from_eventing plan s) ≡ first_line (row (eventing plan s.event s) Wording ∷ row (fronting s.session s.live) Wording ∷ []) (left_in s)
eventing_row plan s = decided_row (eventing plan s.event s) Wording s (from_wording s) (row (fronting s.session s.live) Wording ∷ []) (wording_row s)

timing_row : (plan : PostPlan) (s : State) → left_in (from_timing plan s) ≡ first_line (row (timing s.session s.clock s.live) Eventing ∷ row (eventing plan s.event s) Wording ∷ row (fronting s.session s.live) Wording ∷ []) (left_in s)
timing_row plan s = decided_row (timing s.session s.clock s.live) Eventing s (from_eventing plan s) (row (eventing plan s.event s) Wording ∷ row (fronting s.session s.live) Wording ∷ []) (eventing_row plan s)

part_row : (plan : PostPlan) (p : Part) (s : State) → left_in (from_part plan p s) ≡ first_line (drop (looked_at p) (rows_of plan s)) (left_in s)
part_row plan Repeating s = decided_row (repeating s.facts.contactor) Timing s (from_timing plan s) (row (timing s.session s.clock s.live) Eventing ∷ row (eventing plan s.event s) Wording ∷ row (fronting s.session s.live) Wording ∷ []) (timing_row plan s)
part_row plan Timing s = timing_row plan s
part_row plan Eventing s = eventing_row plan s
part_row plan Wording s = wording_row s

pub same_rows : (c : Codecs) (plan : PostPlan) (steps : List Step) → IsPostRun c plan steps → is_done (state plan steps).agenda ≡ true → rows_of plan (state plan steps) ≡ rows plan steps
same_rows c plan steps run d =
    let s : State = state plan steps in
    let past : List Seen = map seen_of steps in
    let a = again_is plan steps in
    let l = late_is c plan steps run d in
    let t = told_is c plan steps run in
    let f = front_is c plan steps run d in
    ap (λ (x : Agenda). row x Timing ∷ row (timing (state plan steps).session (state plan steps).clock (state plan steps).live) Eventing ∷ row (eventing plan (state plan steps).event (state plan steps)) Wording ∷ row (fronting (state plan steps).session (state plan steps).live) Wording ∷ []) a
    ∙ ap (λ (x : Agenda). row (again (map seen_of steps)) Timing ∷ row x Eventing ∷ row (eventing plan (state plan steps).event (state plan steps)) Wording ∷ row (fronting (state plan steps).session (state plan steps).live) Wording ∷ []) l
    ∙ ap (λ (x : Agenda). row (again (map seen_of steps)) Timing ∷ row (late (course plan steps).session (session (map seen_of steps)) (now (map seen_of steps)) (live (map seen_of steps))) Eventing ∷ row x Wording ∷ row (fronting (state plan steps).session (state plan steps).live) Wording ∷ []) t
    ∙ ap (λ (x : Agenda). row (again (map seen_of steps)) Timing ∷ row (late (course plan steps).session (session (map seen_of steps)) (now (map seen_of steps)) (live (map seen_of steps))) Eventing ∷ row (told plan (map seen_of steps) (course plan steps) (newest_event (map seen_of steps))) Wording ∷ row x Wording ∷ []) f

-- What an act is done of.

pub unread_if : (b : Bool) (plan : PostPlan) (s : State) (ls : List (Line Left)) → (b ≡ true → rows_of plan s ≡ ls) → left_in (if b then from_part plan s.part s else s) ≡ (if b then first_line (drop (looked_at s.part) ls) (left_in s) else left_in s)
unread_if true plan s ls h = part_row plan s.part s ∙ ap (λ (x : List (Line Left)). first_line (drop (looked_at s.part) x) (left_in s)) (h refl)
unread_if false plan s ls h = refl

done_by : (b : Bool) (plan : PostPlan) (s : State) → is_done s.agenda ≡ b → is_done (decided plan s).agenda ≡ true → b ≡ true
done_by true plan s e d = refl
done_by false plan s e d = sym e ∙ sym (ap (λ (t : State). is_done t.agenda) (decided_not plan s e)) ∙ d

if_true : {A : Type 0} (b : Bool) (x y : A) → b ≡ true → (if b then x else y) ≡ x
if_true true x y e = refl
if_true false x y e = cc

judged_part : (plan : PostPlan) (s : State) (ss : Session) (w : Judged) (shown : ℕ) → (judged plan s ss w shown).part ≡ Wording
judged_part plan s ss (Negotiated chosen response) shown = refl
judged_part plan s ss (Asked r) shown = refl
judged_part plan s ss WrongSide shown = refl
judged_part plan s ss Refused shown = refl

left_is : (l : Left) (p : Part) (a : Agenda) → l.part ≡ p → l.agenda ≡ a → l ≡ record { part = p; agenda = a }
left_is l p a e f = ap (λ (x : Part). record { part = x; agenda = l.agenda }) e ∙ ap (λ (x : Agenda). record { part = p; agenda = x }) f

taken_left : (c : Codecs) (plan : PostPlan) (steps : List Step) (d : State) (kept : Option Session) (r : Reading) (p : Wanted) → WantedIn d kept p → talked_in kept ≡ (course plan steps).session → (state plan steps).facts ≡ d.facts → (state plan steps).live ≡ d.live → IsPostRun c plan steps
    → left_in (taken_in plan d kept r) ≡ record { part = Wording; agenda = asked plan (course plan steps).session (map seen_of steps) (course plan steps) r }
taken_left c plan steps d None r p at k f l run = absurd at
taken_left c plan steps d (Some ss) r p at k f l run =
    let word = word_is plan d ss (map seen_of steps) (course plan steps) r.judged r.shown (sym f ∙ (courses_are_read c plan steps run).facts_are) (sym l ∙ (facts_are_read plan steps).live_is) in
    left_is (left_in (judged plan d ss r.judged r.shown)) Wording (asked plan (course plan steps).session (map seen_of steps) (course plan steps) r) (judged_part plan d ss r.judged r.shown)
    (word ∙ ap (λ (t : Option Talked). asked plan t (map seen_of steps) (course plan steps) r) k)

word_left : (c : Codecs) (plan : PostPlan) (S : ℕ → ℕ → Type 0) (steps : List Step) (r : Reading) (o : Option Wanted) → IsPostRun c plan steps → wanted (decided plan (state plan steps)) ≡ o → IsRead c plan S (decided plan (state plan steps)) o (Some r)
    → left_in (filled plan (Some r) (state plan steps)) ≡ in_hand plan steps (Some r) (left_in (state plan steps))
word_left c plan S steps r None run e i = absurd i
word_left c plan S steps r (Some p) run e i =
    let s : State = state plan steps in
    let d : State = decided plan (state plan steps) in
    let at = wanted_in (decided plan (state plan steps)) p e in
    let done = done_by (is_done (state plan steps).agenda) plan (state plan steps) refl (wanted_done (decided plan (state plan steps)) (decided plan (state plan steps)).session p at) in
    let k = ap talked_in (same_session plan (state plan steps)) ∙ (courses_are_read c plan steps run).session_is in
    taken_left c plan steps (decided plan (state plan steps)) (decided plan (state plan steps)).session r p at k (sym (same_facts plan (state plan steps))) (sym (same_live plan (state plan steps))) run
    ∙ sym (if_true (is_done (state plan steps).agenda) (begun plan steps (Some r) (left_in (state plan steps))) (left_in (state plan steps)) done)

pub filled_left : (c : Codecs) (plan : PostPlan) (S : ℕ → ℕ → Type 0) (steps : List Step) (r : Option Reading) → IsPostRun c plan steps → IsRead c plan S (decided plan (state plan steps)) (wanted (decided plan (state plan steps))) r
    → left_in (filled plan r (state plan steps)) ≡ in_hand plan steps r (left_in (state plan steps))
filled_left c plan S steps None run i = unread_if (is_done (state plan steps).agenda) plan (state plan steps) (rows plan steps) (λ d. same_rows c plan steps run d)
filled_left c plan S steps (Some r) run i = word_left c plan S steps r (wanted (decided plan (state plan steps))) run refl i

-- A session lives before an act as it does behind what was read.

judged_some : (plan : PostPlan) (s : State) (ss : Session) (w : Judged) (shown : ℕ) → is_some (judged plan s ss w shown).session ≡ true
judged_some plan s ss (Negotiated chosen response) shown = refl
judged_some plan s ss (Asked r) shown = refl
judged_some plan s ss WrongSide shown = refl
judged_some plan s ss Refused shown = refl

taken_some : (plan : PostPlan) (s : State) (kept : Option Session) (r : Reading) → s.session ≡ kept → is_some (taken_in plan s kept r).session ≡ is_some kept
taken_some plan s None r h = ap is_some h
taken_some plan s (Some ss) r h = judged_some plan s ss r.judged r.shown

read_some : (plan : PostPlan) (s : State) (r : Option Reading) → is_some (read plan s r).session ≡ is_some s.session
read_some plan s None = refl
read_some plan s (Some r) = taken_some plan s s.session r refl

filled_lives : (plan : PostPlan) (steps : List Step) (r : Option Reading) → is_some (filled plan r (state plan steps)).session ≡ is_some (session (map seen_of steps))
filled_lives plan steps r = read_some plan (decided plan (state plan steps)) r ∙ ap is_some (same_session plan (state plan steps)) ∙ (facts_are_read plan steps).session_is

-- Behind an act.

in_if : (kept : Option Session) (cause : EndCause) (on : Bool) → ending_in kept cause on ≡ (if is_some kept then ending_by cause on else nothing)
in_if None cause on = refl
in_if (Some ss) cause on = refl

failed_is : (e : Option EndCause) (kept : Option Session) (cause : EndCause) (on : Bool) → failing e kept cause on ≡ failed e cause (is_some kept) on
failed_is None kept cause on = in_if kept cause on
failed_is (Some ending) kept cause on = refl

replied_is : (b : Option EndCause) (kept : Option Session) (a : Agenda) (on : Bool) → agenda_said b kept a on ≡ replied b (is_some kept) on a
replied_is None kept a on = refl
replied_is (Some cause) kept a on = in_if kept cause on

acted_at : (a : Act) (taken : Bool) (s : State) → left_in (acted a taken s) ≡ record { part = s.part; agenda = less a taken (is_some s.session) (acted a taken s).live s.agenda }
acted_at (Give o) true s = refl
acted_at (Give o) false s = ap (λ (x : Agenda). record { part = s.part; agenda = x }) (failed_is s.agenda.ending s.session OrderFailed (acted (Give o) false s).live)
acted_at (Send bytes) true s = ap (λ (x : Agenda). record { part = s.part; agenda = x }) (replied_is s.agenda.behind_reply s.session s.agenda s.live)
acted_at (Send bytes) false s = ap (λ (x : Agenda). record { part = s.part; agenda = x }) (failed_is s.agenda.ending s.session SendFailed s.live)
acted_at (Answer bytes) taken s = refl
acted_at (End cause) taken s = refl

acted_left : (a : Act) (taken lives on : Bool) (s : State) → is_some s.session ≡ lives → (acted a taken s).live ≡ on → left_in (acted a taken s) ≡ record { part = s.part; agenda = less a taken lives on s.agenda }
acted_left a taken lives on s k l =
    acted_at a taken s
    ∙ ap (λ (x : Bool). record { part = s.part; agenda = less a taken x (acted a taken s).live s.agenda }) k
    ∙ ap (λ (x : Bool). record { part = s.part; agenda = less a taken lives x s.agenda }) l

abbrev behind : Act → Bool → Bool → Bool → Left → Left
behind a taken lives on h = record { part = h.part; agenda = less a taken lives on h.agenda }

pub steps_left : (c : Codecs) (plan : PostPlan) (steps : List Step) → IsPostRun c plan steps → left_in (state plan steps) ≡ left plan steps
steps_left c plan [] run = refl
steps_left c plan (Hears at e ∷ steps) run = refl
steps_left c plan (Does r a taken ∷ steps) (run, (limit, before, later, acts)) =
    let lives : Bool = is_some (session (map seen_of steps)) in
    let on : Bool = live (Did a taken ∷ map seen_of steps) in
    acted_left a taken (is_some (session (map seen_of steps))) (live (Did a taken ∷ map seen_of steps)) (filled plan r (state plan steps)) (filled_lives plan steps r) (facts_are_read plan (Does r a taken ∷ steps)).live_is
    ∙ ap (behind a taken (is_some (session (map seen_of steps))) (live (Did a taken ∷ map seen_of steps))) (filled_left c plan (Shows limit before later) steps r run acts.read ∙ ap (in_hand plan steps r) (steps_left c plan steps run))

pub agendas_are_read : (c : Codecs) → AgendasAreRead c
agendas_are_read c plan steps run = let e = steps_left c plan steps run in record { part_is = ap (λ (l : Left). l.part) e; agenda_is = ap (λ (l : Left). l.agenda) e }

pub sessions_are_read_between : (c : Codecs) → SessionsAreReadBetween c
sessions_are_read_between c plan steps run d = done_session c plan steps run (ap (λ (l : Left). is_done l.agenda) (steps_left c plan steps run) ∙ d)
