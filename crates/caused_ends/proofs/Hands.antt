-- What a step of a run is done of: what was left before it, a word that was read, or what the hearing asks for.
use Rattle.std.proofs.Common.{◌≡◌, ℕ, Bool, true, false, if◌then◌else◌, List, ◌∷◌, drop, map, Option, Some, None, refl, sym, ap, subst, ◌∙◌}
use Rattle.session_words.specs.declared.plan.PostPlan.{PostPlan}
use Rattle.v2gtp_frames.specs.Reading.{whole_at, payload_at}
use Rattle.session_rules.specs.Causes.{word_cause}
use Rattle.session_rules.specs.Lines.{first_line}
use Rattle.session_rules.specs.Stages.{is_waiting}
use Rattle.post_spec.specs.Causes.{found_judged}
use Rattle.post_spec.specs.Codecs.{Judged, Negotiated, Asked, WrongSide, Refused, Codecs, Judges}
use Rattle.post_spec.specs.Contactors.{live}
use Rattle.post_spec.specs.Course.{Talked, course}
use Rattle.post_spec.specs.Sessions.{session}
use Rattle.post_spec.specs.Steps.{Act, Seen, Reading, Step, Does, seen_of}
use Rattle.station_spec.specs.States.{Agenda, Part, Wording, Session, State, Todo, is_done, is_none, first}
use Rattle.station_spec.specs.Deciding.{decided}
use Rattle.station_spec.specs.Judging.{Payload as Wanted, speaks, wanted, filled, IsRead}
use Rattle.station_spec.specs.Acting.{state}
use Rattle.station_spec.specs.Next.{IsDone}
use Rattle.station_spec.specs.Sharing.{Shows}
use Rattle.station_laws.specs.PostRuns.{IsPostRun}
use Rattle.station_laws.proofs.Decided.{same_session}
use Rattle.read_runs.specs.Courses.{talked_of, talked_in}
use Rattle.read_runs.proofs.Agendas.{WantedIn, wanted_in, wanted_done}
use Rattle.read_runs.proofs.Courses.{courses_are_read}
use Rattle.read_sessions.specs.Sessions.{IsSessionOf}
use Rattle.read_sessions.proofs.Streams.{done_session}
use Rattle.read_agendas.specs.Rows.{front, word_asks, asked}
use Rattle.read_agendas.specs.Left.{Left, rows, looked_at, begun, in_hand, left}
use Rattle.read_agendas.proofs.Leaving.{left_in, unread_if, same_rows, filled_left, steps_left}
use Rattle.caused_ends.specs.Applying.{IsAtFront}
use Rattle.caused_ends.proofs.Rows.{absurd_bool}

-- what the next step is done of, where this is read for it
abbrev pub hand : PostPlan → List Step → Option Reading → Left
hand plan steps r = in_hand plan steps r (left plan steps)

abbrev pub fronting : List Step → Agenda
fronting steps = front (session (map seen_of steps)) (live (map seen_of steps))

-- a payload that was read: it stands at the front of the stream, and nothing else is to be done
pub record IsReadAt (c : Codecs) (plan : PostPlan) (steps : List Step) (reading : Reading) : Type 0 where
  pub t : Talked
  pub es : List Seen
  pub course_is : (course plan steps).session ≡ Some t
  pub session_is : session (map seen_of steps) ≡ Some es
  pub goes : is_waiting t.stage.row ≡ false
  pub at_front : IsAtFront c plan t es reading.judged
  pub left_done : is_done (left plan steps).agenda ≡ true
  pub rows_done : is_done (hand plan steps None).agenda ≡ true

abbrev pub IsReadFor : Codecs → PostPlan → List Step → Option Reading → Type 0
IsReadFor c plan steps None = Unit {0}
IsReadFor c plan steps (Some reading) = IsReadAt c plan steps reading

-- a step that is done behind steps
pub record IsDoing (c : Codecs) (plan : PostPlan) (steps : List Step) (r : Option Reading) (a : Act) (taken : Bool) : Type 0 where
  pub todo : Todo
  pub first_is : first (hand plan steps r).agenda ≡ Some todo
  pub done : IsDone c todo a taken
  pub read : IsReadFor c plan steps r

pub decided_left : (c : Codecs) (plan : PostPlan) (steps : List Step) → IsPostRun c plan steps → left_in (decided plan (state plan steps)) ≡ hand plan steps None
decided_left c plan steps run =
    unread_if (is_done (state plan steps).agenda) plan (state plan steps) (rows plan steps) (λ d. same_rows c plan steps run d)
    ∙ ap (in_hand plan steps None) (steps_left c plan steps run)

held_done : (b : Bool) (x l : Left) → is_done l.agenda ≡ b → is_done (if b then x else l).agenda ≡ true → b ≡ true
held_done true x l e h = refl
held_done false x l e h = absurd_bool (is_done l.agenda) h e

pub rows_left_done : (plan : PostPlan) (steps : List Step) → is_done (hand plan steps None).agenda ≡ true → is_done (left plan steps).agenda ≡ true
rows_left_done plan steps h = held_done (is_done (left plan steps).agenda) (begun plan steps None (left plan steps)) (left plan steps) refl h

read_in : (c : Codecs) (plan : PostPlan) (steps : List Step) (q : Reading) (d : State) (p : Wanted) (lives : Option (List Seen)) (kept : Option Session) → session (map seen_of steps) ≡ lives → talked_in kept ≡ (course plan steps).session → IsSessionOf lives kept → WantedIn d kept p
    → Judges c plan.dialects.items p.dialect p.bytes q.judged → is_done (hand plan steps None).agenda ≡ true → IsReadAt c plan steps q
read_in c plan steps q d p lives None l k i w j h = absurd w
read_in c plan steps q d p None (Some ss) l k i w j h = absurd i
read_in c plan steps q d p (Some es) (Some ss) l k i (n, w) j h = record {
  t = talked_of ss;
  es = es;
  course_is = sym k;
  session_is = l;
  goes = w.goes;
  at_front = record {
    free = sym i.waiting_is ∙ w.goes;
    count = n;
    whole = ap whole_at (sym i.unread_is) ∙ w.front;
    is = subst (λ (b : List ℕ). Judges c plan.dialects.items (speaks ss.stage) b q.judged) (w.bytes_are ∙ ap (payload_at n) i.unread_is)
        (subst (λ (o : Option _). Judges c plan.dialects.items o p.bytes q.judged) w.dialect_is j);
  };
  left_done = rows_left_done plan steps h;
  rows_done = h;
}

read_by : (c : Codecs) (plan : PostPlan) (S : ℕ → ℕ → Type 0) (steps : List Step) (r : Option Reading) (o : Option Wanted) → IsPostRun c plan steps → wanted (decided plan (state plan steps)) ≡ o → IsRead c plan S (decided plan (state plan steps)) o r → IsReadFor c plan steps r
read_by c plan S steps None o run e i = tt
read_by c plan S steps (Some q) None run e i = absurd i
read_by c plan S steps (Some q) (Some p) run e i =
    let at = wanted_in (decided plan (state plan steps)) p e in
    let done = wanted_done (decided plan (state plan steps)) (decided plan (state plan steps)).session p at in
    let here = decided_left c plan steps run in
    let rows_done : is_done (hand plan steps None).agenda ≡ true = sym (ap (λ (l : Left). is_done l.agenda) here) ∙ done in
    let left_done = rows_left_done plan steps rows_done in
    let state_done : is_done (state plan steps).agenda ≡ true = ap (λ (l : Left). is_done l.agenda) (steps_left c plan steps run) ∙ left_done in
    read_in c plan steps q (decided plan (state plan steps)) p (session (map seen_of steps)) (state plan steps).session refl (courses_are_read c plan steps run).session_is (done_session c plan steps run state_done)
    (subst (λ (kept : Option Session). WantedIn (decided plan (state plan steps)) kept p) (same_session plan (state plan steps)) at) i.0 rows_done

pub doing : (c : Codecs) (plan : PostPlan) (r : Option Reading) (a : Act) (taken : Bool) (steps : List Step) → IsPostRun c plan (Does r a taken ∷ steps) → IsDoing c plan steps r a taken
doing c plan r a taken steps (run, (limit, before, behind, acts)) =
    let h : left_in (filled plan r (state plan steps)) ≡ hand plan steps r = filled_left c plan (Shows limit before behind) steps r run acts.read ∙ ap (in_hand plan steps r) (steps_left c plan steps run) in
    record {
      todo = acts.todo;
      first_is = sym (ap (λ (l : Left). first l.agenda) h) ∙ acts.acts;
      done = acts.done;
      read = read_by c plan (Shows limit before behind) steps r (wanted (decided plan (state plan steps))) run refl acts.read;
    }

-- What it is, as what was left before is done or not.

hand_if : (b : Bool) (x l : Left) → b ≡ false → (if b then x else l) ≡ l
hand_if true x l e = cc
hand_if false x l e = refl

hand_of : (b : Bool) (x l : Left) → b ≡ true → (if b then x else l) ≡ x
hand_of true x l e = refl
hand_of false x l e = cc

pub hand_left : (plan : PostPlan) (steps : List Step) (r : Option Reading) → is_done (left plan steps).agenda ≡ false → hand plan steps r ≡ left plan steps
hand_left plan steps r e = hand_if (is_done (left plan steps).agenda) (begun plan steps r (left plan steps)) (left plan steps) e

pub hand_begun : (plan : PostPlan) (steps : List Step) (r : Option Reading) → is_done (left plan steps).agenda ≡ true → hand plan steps r ≡ begun plan steps r (left plan steps)
hand_begun plan steps r e = hand_of (is_done (left plan steps).agenda) (begun plan steps r (left plan steps)) (left plan steps) e

-- the rows that weren't looked at yet
pub hand_rows : (plan : PostPlan) (steps : List Step) (p : Part) (a : Agenda) → left plan steps ≡ record { part = p; agenda = a } → is_done a ≡ true → hand plan steps None ≡ first_line (drop (looked_at p) (rows plan steps)) (record { part = p; agenda = a })
hand_rows plan steps p a e d =
    hand_begun plan steps None (ap (λ (l : Left). is_done l.agenda) e ∙ d) ∙ ap (λ (l : Left). first_line (drop (looked_at l.part) (rows plan steps)) l) e

abbrev word_left : PostPlan → List Step → Option Talked → Reading → Left
word_left plan steps t q = record { part = Wording; agenda = asked plan t (map seen_of steps) (course plan steps) q }

pub hand_word : (c : Codecs) (plan : PostPlan) (steps : List Step) (q : Reading) → (i : IsReadAt c plan steps q) → hand plan steps (Some q) ≡ record { part = Wording; agenda = word_asks plan i.t (map seen_of steps) (course plan steps) q.judged q.shown }
hand_word c plan steps q i = hand_begun plan steps (Some q) i.left_done ∙ ap (λ (t : Option Talked). word_left plan steps t q) i.course_is

none_first : (a : Agenda) (todo : Todo) → is_done a ≡ true → first a ≡ Some todo → ⊥
none_first a todo d f = absurd_bool (is_done a) d (ap is_none f)

-- where a row asks for anything no word is read, and where none does one is
pub unread_hand : (c : Codecs) (plan : PostPlan) (steps : List Step) (r : Option Reading) → IsReadFor c plan steps r → is_done (hand plan steps None).agenda ≡ false → r ≡ None
unread_hand c plan steps None i h = refl
unread_hand c plan steps (Some q) i h = absurd_bool (is_done (hand plan steps None).agenda) i.rows_done h

pub read_hand : (c : Codecs) (plan : PostPlan) (steps : List Step) (r : Option Reading) (todo : Todo) → IsReadFor c plan steps r → first (hand plan steps r).agenda ≡ Some todo → is_done (hand plan steps None).agenda ≡ true → (q : Reading) × (r ≡ Some q) × IsReadAt c plan steps q
read_hand c plan steps None todo i f h = absurd (none_first (hand plan steps None).agenda todo h f)
read_hand c plan steps (Some q) todo i f h = (q, refl, i)

-- A word's cause is that of what it is judged as.

pub word_ending : (plan : PostPlan) (steps : List Step) (t : Talked) (x : Judged) (shown : ℕ) → (word_asks plan t (map seen_of steps) (course plan steps) x shown).ending ≡ word_cause false (found_judged t (map seen_of steps) (course plan steps) plan x)
word_ending plan steps t (Negotiated chosen response) shown = refl
word_ending plan steps t (Asked r) shown = refl
word_ending plan steps t WrongSide shown = refl
word_ending plan steps t Refused shown = refl
