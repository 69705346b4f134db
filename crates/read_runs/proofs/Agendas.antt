-- What is on an agenda, and which payload is wanted.
use Rattle.std.proofs.Common.{◌≡◌, ℕ, Bool, true, false, if◌then◌else◌, List, Option, Some, None, Result, Ok, Err, refl, sym, ap, ◌∙◌}
use Rattle.charge_world.specs.declared.offer.Dialect.{Dialect}
use Rattle.charge_world.specs.declared.ports.Order.{Order}
use Rattle.session_words.specs.declared.cause.EndCause.{EndCause}
use Rattle.session_words.specs.declared.phase.Phase.{Phase}
use Rattle.session_words.specs.declared.phase.Phase.TheVariants as row
use Rattle.session_words.specs.declared.phase.Standing.{Standing}
use Rattle.session_words.specs.declared.phase.Standing.TheVariants as standing
use Rattle.session_words.specs.declared.word.Word.{Word}
use Rattle.session_words.specs.declared.word.Word.TheVariants as word
use Rattle.session_words.specs.Causes.{cause_of}
use Rattle.v2gtp_frames.specs.declared.FrameFault.{FrameFault}
use Rattle.v2gtp_frames.specs.Reading.{whole_at, payload_at}
use Rattle.session_rules.specs.Deadlines.{timeout_of}
use Rattle.session_rules.specs.Stages.{is_waiting}
use Rattle.post_spec.specs.Codecs.{Negotiated, Codecs, Judges, judged_word}
use Rattle.station_spec.specs.States as states
use Rattle.station_spec.specs.States.{Spoken, Agenda, Session, State, nothing, is_done, is_none, first, first_of}
use Rattle.station_spec.specs.Deciding.{from_part, decided, ending_by, ending_in, repeating, is_reached, due, timing, fronting_by, fronting}
use Rattle.session_words.specs.declared.plan.PostPlan.{PostPlan}
use Rattle.station_spec.specs.Next.{IsQuiet}
use Rattle.station_spec.specs.Judging.{Payload, speaks, speaks_in, payload_by, payload_in, wanted}

-- nothing is on an agenda that is done
pub record Empty (a : Agenda) : Type 0 where
  pub reply : a.reply ≡ None
  pub ending : a.ending ≡ None
  pub order : a.order ≡ None

empty_of : (d : Option (List ℕ)) (o : Option Order) (r : Option Spoken) (e : Option EndCause) → is_none (first_of d o r e) ≡ true → (r ≡ None) × (e ≡ None) × (o ≡ None)
empty_of None None None None h = (refl, refl, refl)
empty_of (Some d) o r e h = cc
empty_of None (Some o) r e h = cc
empty_of None None (Some r) e h = cc
empty_of None None None (Some e) h = cc

pub done_empty : (a : Agenda) → is_done a ≡ true → Empty a
done_empty a h = let e = empty_of a.datagram a.order a.reply a.ending h in record { reply = e.0; ending = e.1; order = e.2 }

-- no part but the event and the words makes a reply
pub repeating_silent : (st : Standing) → (repeating st).reply ≡ None
repeating_silent standing.MustOpen = refl
repeating_silent standing.Opened = refl
repeating_silent standing.Closing = refl
repeating_silent standing.Closed = refl
repeating_silent standing.Opening = refl

timed_silent : (b : Bool) (k : EndCause) (live : Bool) → (if b then ending_by k live else nothing).reply ≡ None
timed_silent true k live = refl
timed_silent false k live = refl

pub timing_silent : (kept : Option Session) (now : ℕ) (live : Bool) → (timing kept now live).reply ≡ None
timing_silent None now live = refl
timing_silent (Some ss) now live = timed_silent (is_reached (due ss) now) (cause_of (timeout_of ss.stage.row)) live

pub ending_silent : (kept : Option Session) (k : EndCause) (live : Bool) → (ending_in kept k live).reply ≡ None
ending_silent None k live = refl
ending_silent (Some ss) k live = refl

front_silent : (f : Result (Option ℕ) FrameFault) (waiting live : Bool) → (fronting_by f waiting live).reply ≡ None
front_silent (Err fault) waiting live = refl
front_silent (Ok None) waiting live = refl
front_silent (Ok (Some n)) true live = refl
front_silent (Ok (Some n)) false live = refl

pub fronting_silent : (kept : Option Session) (live : Bool) → (fronting kept live).reply ≡ None
fronting_silent None live = refl
fronting_silent (Some ss) live = front_silent (whole_at ss.unread) (is_waiting ss.stage.row) live

-- a payload that is wanted
pub record IsWanted (s : State) (ss : Session) (n : ℕ) (p : Payload) : Type 0 where
  pub done : is_done s.agenda ≡ true
  pub goes : is_waiting ss.stage.row ≡ false
  pub front : whole_at ss.unread ≡ Ok (Some n)
  pub dialect_is : p.dialect ≡ speaks ss.stage
  pub bytes_are : p.bytes ≡ payload_at n ss.unread

abbrev pub WantedIn : State → Option Session → Payload → Type 0
WantedIn s None p = ⊥
WantedIn s (Some ss) p = (n : ℕ) × IsWanted s ss n p

front_wanted : (s : State) (ss : Session) (p : Payload) (f : Result (Option ℕ) FrameFault) → whole_at ss.unread ≡ f → is_done s.agenda ≡ true → is_waiting ss.stage.row ≡ false → payload_by f ss ≡ Some p → WantedIn s (Some ss) p
front_wanted s ss p (Err fault) f d w h = cc
front_wanted s ss p (Ok None) f d w h = cc
front_wanted s ss p (Ok (Some n)) f d w h =
    let e : record { dialect = speaks ss.stage; bytes = payload_at n ss.unread } ≡ p = cc in
    (n, record { done = d; goes = w; front = f; dialect_is = ap (λ (x : Payload). x.dialect) (sym e); bytes_are = ap (λ (x : Payload). x.bytes) (sym e) })

session_wanted : (b : Bool) (s : State) (ss : Session) (p : Payload) → is_waiting ss.stage.row ≡ b → is_done s.agenda ≡ true → (if b then None else payload_by (whole_at ss.unread) ss) ≡ Some p → WantedIn s (Some ss) p
session_wanted true s ss p w d h = cc
session_wanted false s ss p w d h = front_wanted s ss p (whole_at ss.unread) refl d w h

payload_wanted : (s : State) (kept : Option Session) (p : Payload) → is_done s.agenda ≡ true → payload_in kept ≡ Some p → WantedIn s kept p
payload_wanted s None p d h = cc
payload_wanted s (Some ss) p d h = session_wanted (is_waiting ss.stage.row) s ss p refl d h

wanted_if : (b : Bool) (o : Option Payload) (p : Payload) → (if b then o else None) ≡ Some p → (b ≡ true) × (o ≡ Some p)
wanted_if true o p h = (refl, h)
wanted_if false o p h = cc

pub wanted_in : (s : State) (p : Payload) → wanted s ≡ Some p → WantedIn s s.session p
wanted_in s p h = let x = wanted_if (is_done s.agenda) (payload_in s.session) p h in payload_wanted s s.session p x.0 x.1

pub wanted_done : (s : State) (kept : Option Session) (p : Payload) → WantedIn s kept p → is_done s.agenda ≡ true
wanted_done s None p i = absurd i
wanted_done s (Some ss) p i = i.1.done

-- which thing is first
pub say_is : (d : Option (List ℕ)) (o : Option Order) (r : Option Spoken) (e : Option EndCause) (x : Spoken) → first_of d o r e ≡ Some (states.Say x) → (r ≡ Some x) × (o ≡ None)
say_is (Some d) o r e x h = cc
say_is None (Some o) r e x h = cc
say_is None None (Some r) e x h = (cc, refl)
say_is None None None (Some e) x h = cc
say_is None None None None x h = cc

pub give_is : (d : Option (List ℕ)) (o : Option Order) (r : Option Spoken) (e : Option EndCause) (x : Order) → first_of d o r e ≡ Some (states.Give x) → o ≡ Some x
give_is (Some d) o r e x h = cc
give_is None (Some o) r e x h = cc
give_is None None (Some r) e x h = cc
give_is None None None (Some e) x h = cc
give_is None None None None x h = cc

-- a negotiation is judged in its own schema, in the first row
not_negotiated : (chosen : Option Dialect) (response : List ℕ) (w : Option Word) → Negotiated chosen response ≡ judged_word w → ⊥
not_negotiated chosen response None e = cc
not_negotiated chosen response (Some (word.Request q)) e = cc
not_negotiated chosen response (Some (word.Reply reply)) e = cc
not_negotiated chosen response (Some word.Nothing) e = cc

pub chosen_first : (c : Codecs) (offers : List Dialect) (o : Option Dialect) (payload : List ℕ) (chosen : Option Dialect) (response : List ℕ) → Judges c offers o payload (Negotiated chosen response) → (o ≡ None) × c.Negotiates offers payload (Negotiated chosen response)
chosen_first c offers None payload chosen response j = (refl, j)
chosen_first c offers (Some d) payload chosen response j = absurd (not_negotiated chosen response j.0 j.2)

pub connected_of : (here : Phase) (d : Dialect) → speaks_in here d ≡ None → here ≡ row.Connected
connected_of row.Connected d h = refl
connected_of here d h = cc

-- where something is left to do nothing more is decided
pub decided_done : (plan : PostPlan) (s : State) → is_done s.agenda ≡ true → decided plan s ≡ from_part plan s.part s
decided_done plan s d = rw d refl

pub decided_not : (plan : PostPlan) (s : State) → is_done s.agenda ≡ false → decided plan s ≡ s
decided_not plan s d = rw d refl

-- at rest nothing is left
pub none_done : (a : Agenda) → first a ≡ None → is_done a ≡ true
none_done a h = ap is_none h

quiet_if : (b : Bool) (plan : PostPlan) (s : State) → is_done s.agenda ≡ b → IsQuiet plan s → is_done s.agenda ≡ true
quiet_if true plan s d q = d
quiet_if false plan s d q =
    let x = none_done (decided plan s).agenda q.none in
    let y = ap (λ (t : State). is_done t.agenda) (decided_not plan s d) in
    sym y ∙ x

pub quiet_done : (plan : PostPlan) (s : State) → IsQuiet plan s → is_done s.agenda ≡ true
quiet_done plan s q = quiet_if (is_done s.agenda) plan s refl q
