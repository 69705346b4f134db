-- What a station has read, and when it says nothing.
use Rattle.std.proofs.Common.{◌≡◌, ℕ, Bool, true, false, if◌then◌else◌, List, [], Option, Some, None, Result, Ok, Err, refl, ap, sym, subst, ◌∙◌, inl, inr, ◌≤◌}
use Rattle.std.specs.Option.{option_map}
use Rattle.charge_world.specs.declared.heard.PlantEvent.{PlantEvent}
use Rattle.charge_world.specs.declared.ports.Order.{Order}
use Rattle.charge_world.specs.declared.ports.Order.TheVariants as order
use Rattle.session_words.specs.declared.cause.EndCause.{EndCause}
use Rattle.session_words.specs.declared.cause.EndCause.TheVariants.{Gone as ConnectionGone, RunOver}
use Rattle.session_words.specs.declared.phase.Phase.{Phase}
use Rattle.session_words.specs.declared.phase.Phase.TheVariants as row
use Rattle.session_words.specs.declared.phase.Standing.{Standing}
use Rattle.session_words.specs.declared.phase.Standing.TheVariants as standing
use Rattle.session_words.specs.declared.plan.PostPlan.{PostPlan}
use Rattle.v2gtp_frames.specs.declared.FrameFault.{FrameFault}
use Rattle.v2gtp_frames.specs.Frames.{frame}
use Rattle.v2gtp_frames.specs.Reading.{whole_at, behind_front}
use Rattle.session_rules.specs.Causes.{plant_cause}
use Rattle.session_rules.specs.Stages.{is_waiting, confirmed_row}
use Rattle.post_spec.specs.Codecs.{Judged, Negotiated, Asked, WrongSide, Refused, Codecs}
use Rattle.post_spec.specs.Steps.{Event, Came, Bytes, Gone, Datagram, Plant, Clock, Over, Act, Give, Send, Answer, End, Reading}
use Rattle.station_spec.specs.States.{Spoken, Response, Said, Agenda, Part, Session, State, Todo, nothing, is_done, first_of, first}
use Rattle.station_spec.specs.States as states
use Rattle.station_spec.specs.Deciding.{ending_in, repeating, due, is_reached, timing, watch, confirming, charging_by, charging, eventing, fronting_by, fronting, decided}
use Rattle.post_spec.specs.Sessions.{brought}
use Rattle.station_spec.specs.Hearing.{arrival, session_opened, with_bytes, hearing}
use Rattle.station_spec.specs.Judging.{Payload, payload_by, payload_in, wanted, judged, taken_in, read, IsRead}
use Rattle.station_spec.specs.Acting.{since_order, replied, agenda_said, acted}
use Rattle.station_spec.specs.Next.{IsSpoken, IsDone}
use Rattle.station_laws.proofs.Decided.{decided_by, IsPlanned, planned}
use Rattle.pipe_spec.specs.Histories.{station_says}
use Rattle.pipe_laws.proofs.Messages.{Carries, HasRead, Loses, more, IsTaken, taken}

-- what it has unread, as the next hearing finds it
abbrev pub unread_in : Option Session → Option (List ℕ)
unread_in None = None
unread_in (Some session) = Some session.unread

abbrev pub unread : State → Option (List ℕ)
unread s = unread_in (session_opened s.arrived s.clock s.session)

-- it says nothing, and no reply waits
abbrev pub NotWaiting : Option Session → Type 0
NotWaiting None = Unit {0}
NotWaiting (Some session) = is_waiting session.stage.row ≡ false

pub record IsSilent (s : State) : Type 0 where
  pub reply : s.agenda.reply ≡ None
  pub waits : NotWaiting s.session

-- without a session there is nothing to say, and none to end; and one connection at a time
abbrev pub SoundBy : Option Session → Option ℕ → Agenda → Type 0
SoundBy None arrived a = (a.ending ≡ None) × (a.reply ≡ None)
SoundBy (Some session) arrived a = arrived ≡ None

abbrev pub IsSound : State → Type 0
IsSound s = SoundBy s.session s.arrived s.agenda

-- ---- what is decided

-- one thing that is decided, without a session
abbrev pub EndsNot : Agenda → Type 0
EndsNot a = (a.ending ≡ None) × (a.reply ≡ None)

repeats_not : (now : Standing) → EndsNot (repeating now)
repeats_not standing.MustOpen = (refl, refl)
repeats_not standing.Opened = (refl, refl)
repeats_not standing.Closing = (refl, refl)
repeats_not standing.Closed = (refl, refl)
repeats_not standing.Opening = (refl, refl)

repeats_sound : (o : Option Session) (arrived : Option ℕ) (a : Agenda) (now : Standing) → SoundBy o arrived a → SoundBy o arrived (repeating now)
repeats_sound None arrived a now h = repeats_not now
repeats_sound (Some session) arrived a now h = h

times_sound : (o : Option Session) (arrived : Option ℕ) (a : Agenda) (now : ℕ) (live : Bool) → SoundBy o arrived a → SoundBy o arrived (timing o now live)
times_sound None arrived a now live h = (refl, refl)
times_sound (Some session) arrived a now live h = h

fronts_sound : (o : Option Session) (arrived : Option ℕ) (a : Agenda) (live : Bool) → SoundBy o arrived a → SoundBy o arrived (fronting o live)
fronts_sound None arrived a live h = (refl, refl)
fronts_sound (Some session) arrived a live h = h

charges_sound : (plan : PostPlan) (o : Option Session) (arrived : Option ℕ) (a : Agenda) (event : PlantEvent) (s : State) → SoundBy o arrived a
    → SoundBy o arrived (charging plan o event s)
charges_sound plan None arrived a event s h = (refl, refl)
charges_sound plan (Some session) arrived a event s h = h

leaves_sound : (o : Option Session) (arrived : Option ℕ) (a : Agenda) (cause : EndCause) (live : Bool) → SoundBy o arrived a → SoundBy o arrived (ending_in o cause live)
leaves_sound None arrived a cause live h = (refl, refl)
leaves_sound (Some session) arrived a cause live h = h

plain_sound : (o : Option Session) (arrived : Option ℕ) (a b : Agenda) → EndsNot b → SoundBy o arrived a → SoundBy o arrived b
plain_sound None arrived a b e h = e
plain_sound (Some session) arrived a b e h = h

events_sound : (plan : PostPlan) (event : Event) (s : State) → IsSound s → SoundBy s.session s.arrived (eventing plan event s)
events_sound plan (Came token) s h = leaves_sound s.session s.arrived s.agenda ConnectionGone s.live h
events_sound plan (Bytes bytes) s h = plain_sound s.session s.arrived s.agenda nothing (refl, refl) h
events_sound plan Gone s h = leaves_sound s.session s.arrived s.agenda ConnectionGone s.live h
events_sound plan (Datagram bytes) s h = plain_sound s.session s.arrived s.agenda _ (refl, refl) h
events_sound plan (Plant event) s h = charges_sound plan s.session s.arrived s.agenda event s h
events_sound plan Clock s h = plain_sound s.session s.arrived s.agenda nothing (refl, refl) h
events_sound plan Over s h = leaves_sound s.session s.arrived s.agenda RunOver s.live h

pub decided_sound : (plan : PostPlan) (s : State) → IsSound s → IsSound (decided plan s)
decided_sound plan s h = decided_by IsSound plan s
    (λ d. record {
      repeats = repeats_sound s.session s.arrived s.agenda s.facts.contactor h;
      times = times_sound s.session s.arrived s.agenda s.clock s.live h;
      events = events_sound plan s.event s h;
      fronts = fronts_sound s.session s.arrived s.agenda s.live h;
    }) h

-- one that is silent decides to say nothing
abbrev pub SaysNot : Agenda → Type 0
SaysNot a = a.reply ≡ None

times_by : (session : Session) (now : ℕ) (live b : Bool) → is_reached (due session) now ≡ b → SaysNot (timing (Some session) now live)
times_by session now live true e = rw e refl
times_by session now live false e = rw e refl

times_silent : (o : Option Session) (now : ℕ) (live : Bool) → SaysNot (timing o now live)
times_silent None now live = refl
times_silent (Some session) now live = times_by session now live _ refl

fronts_by : (r : Result (Option ℕ) FrameFault) (waiting live : Bool) → SaysNot (fronting_by r waiting live)
fronts_by (Err fault) waiting live = refl
fronts_by (Ok None) waiting live = refl
fronts_by (Ok (Some n)) true live = refl
fronts_by (Ok (Some n)) false live = refl

fronts_silent : (o : Option Session) (live : Bool) → SaysNot (fronting o live)
fronts_silent None live = refl
fronts_silent (Some session) live = fronts_by (whole_at session.unread) (is_waiting session.stage.row) live

confirms_silent : (plan : PostPlan) (session : Session) (event : PlantEvent) (s : State) → is_waiting session.stage.row ≡ false → SaysNot (confirming plan session event s)
confirms_silent plan session event s e = rw e refl

charges_by : (o : Option EndCause) (otherwise : Agenda) (live : Bool) → SaysNot otherwise → SaysNot (charging_by o otherwise live)
charges_by None otherwise live h = h
charges_by (Some cause) otherwise live h = refl

charges_silent : (plan : PostPlan) (o : Option Session) (event : PlantEvent) (s : State) → NotWaiting o → SaysNot (charging plan o event s)
charges_silent plan None event s h = refl
charges_silent plan (Some session) event s h =
    charges_by (plant_cause (watch plan session s) event) (confirming plan session event s) s.live (confirms_silent plan session event s h)

leaves_silent : (o : Option Session) (cause : EndCause) (live : Bool) → SaysNot (ending_in o cause live)
leaves_silent None cause live = refl
leaves_silent (Some session) cause live = refl

events_silent : (plan : PostPlan) (event : Event) (s : State) → NotWaiting s.session → SaysNot (eventing plan event s)
events_silent plan (Came token) s h = leaves_silent s.session ConnectionGone s.live
events_silent plan (Bytes bytes) s h = refl
events_silent plan Gone s h = leaves_silent s.session ConnectionGone s.live
events_silent plan (Datagram bytes) s h = refl
events_silent plan (Plant event) s h = charges_silent plan s.session event s h
events_silent plan Clock s h = refl
events_silent plan Over s h = leaves_silent s.session RunOver s.live

repeats_silent : (now : Standing) → SaysNot (repeating now)
repeats_silent now = let e : EndsNot (repeating now) = repeats_not now in e.1

pub decided_silent : (plan : PostPlan) (s : State) → IsSilent s → IsSilent (decided plan s)
decided_silent plan s h = decided_by IsSilent plan s
    (λ d. record {
      repeats = record { reply = repeats_silent s.facts.contactor; waits = h.waits };
      times = record { reply = times_silent s.session s.clock s.live; waits = h.waits };
      events = record { reply = events_silent plan s.event s h.waits; waits = h.waits };
      fronts = record { reply = fronts_silent s.session s.live; waits = h.waits };
    }) h

pub decided_unread : (plan : PostPlan) (s : State) → unread (decided plan s) ≡ unread s
decided_unread plan s = let p : IsPlanned s (decided plan s) = planned plan s in ap unread p.is

-- ---- a word

empty_waits : whole_at [] ≡ Ok None
unfolding whole_at
empty_waits = refl

some_none : {A : Type 0} (a : A) → Some a ≡ None → ⊥
some_none a e = cc

payload_none : (session : Session) (b : Bool) → is_waiting session.stage.row ≡ b → session.unread ≡ [] → payload_in (Some session) ≡ None
payload_none session true e u = rw e refl
payload_none session false e u =
    rw e (let r : whole_at session.unread ≡ Ok None = ap whole_at u ∙ empty_waits in ap (λ (x : Result (Option ℕ) FrameFault). payload_by x session) r)

nothing_in : (o : Option Session) (arrived : Option ℕ) (clock : ℕ) (a : Agenda) → SoundBy o arrived a → HasRead (unread_in (session_opened arrived clock o)) → payload_in o ≡ None
nothing_in None arrived clock a s h = refl
nothing_in (Some session) None clock a s h = payload_none session _ refl h
nothing_in (Some session) (Some token) clock a s h = absurd (some_none token s)

wanted_if : (s : State) (b : Bool) → payload_in s.session ≡ None → (if b then payload_in s.session else None) ≡ None
wanted_if s true e = e
wanted_if s false e = refl

pub nothing_wanted : (s : State) → IsSound s → HasRead (unread s) → wanted s ≡ None
nothing_wanted s f h = wanted_if s (is_done s.agenda) (nothing_in s.session s.arrived s.clock s.agenda f h)

none_read : (c : Codecs) (plan : PostPlan) (Shows : ℕ → ℕ → Type 0) (s : State) (o : Option Payload) (reading : Option Reading) → o ≡ None → IsRead c plan Shows s o reading → reading ≡ None
none_read c plan Shows s None None e r = refl
none_read c plan Shows s None (Some reading) e r = absurd r
none_read c plan Shows s (Some payload) reading e r = absurd (some_none payload e)

pub reads_nothing : (c : Codecs) (plan : PostPlan) (Shows : ℕ → ℕ → Type 0) (s : State) (reading : Option Reading) → IsSound s → HasRead (unread s)
    → IsRead c plan Shows s (wanted s) reading → reading ≡ None
reads_nothing c plan Shows s reading f h r = none_read c plan Shows s (wanted s) reading (nothing_wanted s f h) r

-- a word is read of a session, and is whole there
pub record IsWord (s : State) : Type 0 where
  pub session : Session
  pub session_is : s.session ≡ Some session
  pub count : ℕ
  pub whole : whole_at session.unread ≡ Ok (Some count)

word_front : (c : Codecs) (plan : PostPlan) (Shows : ℕ → ℕ → Type 0) (s : State) (session : Session) (r : Result (Option ℕ) FrameFault) (reading : Reading) → s.session ≡ Some session
    → whole_at session.unread ≡ r → IsRead c plan Shows s (payload_by r session) (Some reading) → IsWord s
word_front c plan Shows s session (Err fault) reading e w j = absurd j
word_front c plan Shows s session (Ok None) reading e w j = absurd j
word_front c plan Shows s session (Ok (Some n)) reading e w j = record { session = session; session_is = e; count = n; whole = w }

word_waits : (c : Codecs) (plan : PostPlan) (Shows : ℕ → ℕ → Type 0) (s : State) (session : Session) (b : Bool) (reading : Reading) → s.session ≡ Some session
    → IsRead c plan Shows s (if b then None else payload_by (whole_at session.unread) session) (Some reading) → IsWord s
word_waits c plan Shows s session true reading e j = absurd j
word_waits c plan Shows s session false reading e j = word_front c plan Shows s session (whole_at session.unread) reading e refl j

word_in : (c : Codecs) (plan : PostPlan) (Shows : ℕ → ℕ → Type 0) (s : State) (o : Option Session) (reading : Reading) → s.session ≡ o
    → IsRead c plan Shows s (payload_in o) (Some reading) → IsWord s
word_in c plan Shows s None reading e j = absurd j
word_in c plan Shows s (Some session) reading e j = word_waits c plan Shows s session (is_waiting session.stage.row) reading e j

word_if : (c : Codecs) (plan : PostPlan) (Shows : ℕ → ℕ → Type 0) (s : State) (b : Bool) (reading : Reading)
    → IsRead c plan Shows s (if b then payload_in s.session else None) (Some reading) → IsWord s
word_if c plan Shows s true reading j = word_in c plan Shows s s.session reading refl j
word_if c plan Shows s false reading j = absurd j

pub word_of : (c : Codecs) (plan : PostPlan) (Shows : ℕ → ℕ → Type 0) (s : State) (reading : Reading) → IsRead c plan Shows s (wanted s) (Some reading) → IsWord s
word_of c plan Shows s reading j = word_if c plan Shows s (is_done s.agenda) reading j

-- behind it nothing is unread
abbrev pub HasReadAll : State → Type 0
HasReadAll s = IsSound s × HasRead (unread s)

judged_all : (plan : PostPlan) (s : State) (session : Session) (w : Judged) (shown : ℕ) → s.arrived ≡ None → behind_front session.unread ≡ []
    → HasReadAll (judged plan s session w shown)
judged_all plan s session (Negotiated chosen response) shown a b = (a, rw a b)
judged_all plan s session (Asked r) shown a b = (a, rw a b)
judged_all plan s session WrongSide shown a b = (a, rw a b)
judged_all plan s session Refused shown a b = (a, rw a b)

sound_arrived : (o : Option Session) (arrived : Option ℕ) (a : Agenda) (session : Session) → o ≡ Some session → SoundBy o arrived a → arrived ≡ None
sound_arrived None arrived a session e s = absurd (some_none session (sym e))
sound_arrived (Some other) arrived a session e s = s

unread_some : (s : State) (session : Session) → s.arrived ≡ None → s.session ≡ Some session → unread s ≡ Some session.unread
unread_some s session a e = ap (λ (x : Option ℕ). unread_in (session_opened x s.clock s.session)) a ∙ ap unread_in e

-- the message that it read had come whole
pub record IsWordRead (plan : PostPlan) (s : State) (reading : Reading) (way : List ℕ) : Type 0 where
  pub comes : way ≡ []
  pub read : HasReadAll (read plan s (Some reading))

pub word_read : (most : ℕ) (plan : PostPlan) (s : State) (reading : Reading) (way : List ℕ) → most ≤ 65544 → IsSound s → IsWord s → Carries most (unread s) way → IsWordRead plan s reading way
word_read most plan s reading way m f w c =
    let a : s.arrived ≡ None = sound_arrived s.session s.arrived s.agenda w.session w.session_is f in
    let u : Carries most (Some w.session.unread) way = subst (λ (x : Option (List ℕ)). Carries most x way) (unread_some s w.session a w.session_is) c in
    let t : IsTaken w.session.unread way = taken most w.count w.session.unread way m w.whole u in
    record {
      comes = t.nothing_comes;
      read = subst (λ (o : Option Session). HasReadAll (taken_in plan s o reading)) (sym w.session_is)
          (judged_all plan s w.session reading.judged reading.shown a t.nothing_left);
    }

-- ---- an act

pub data Doing (s : State) (act : Act) : Type 0 where
  SaysNothing : station_says act ≡ [] → (IsSilent s → IsSilent (acted act true s)) → Doing s act
  SaysReply : (payload : List ℕ) (spoken : Spoken) → act ≡ Send (frame payload) → s.agenda.reply ≡ Some spoken → IsSilent (acted act true s) → Doing s act

abbrev pub IsGone : State → Type 0
IsGone s = (s.session ≡ None) × (s.arrived ≡ None)

abbrev pub EndsSo : Act → State → Type 0
EndsSo (End cause) s = IsGone s
EndsSo (Give order) s = Unit {0}
EndsSo (Send bytes) s = Unit {0}
EndsSo (Answer bytes) s = Unit {0}

pub record Done (s : State) (act : Act) : Type 0 where
  pub sound : IsSound (acted act true s)
  pub keeps : Loses (unread s) (unread (acted act true s))
  pub doing : Doing s act
  pub ends : EndsSo act (acted act true s)

map_unread : (f : Session → Session) → ((x : Session) → (f x).unread ≡ x.unread) → (arrived : Option ℕ) (clock : ℕ) (o : Option Session)
    → unread_in (session_opened arrived clock (option_map f o)) ≡ unread_in (session_opened arrived clock o)
map_unread f k None clock None = refl
map_unread f k None clock (Some x) = ap Some (k x)
map_unread f k (Some token) clock o = refl

map_sound : (f : Session → Session) (arrived : Option ℕ) (a b : Agenda) (o : Option Session) → (o ≡ None → EndsNot a → EndsNot b) → SoundBy o arrived a → SoundBy (option_map f o) arrived b
map_sound f arrived a b None k s = k refl s
map_sound f arrived a b (Some x) k s = s

map_waits : (f : Session → Session) → ((x : Session) → is_waiting x.stage.row ≡ false → is_waiting (f x).stage.row ≡ false) → (o : Option Session) → NotWaiting o → NotWaiting (option_map f o)
map_waits f k None w = tt
map_waits f k (Some x) w = k x w

map_never : (f : Session → Session) → ((x : Session) → is_waiting (f x).stage.row ≡ false) → (o : Option Session) → NotWaiting (option_map f o)
map_never f k None = tt
map_never f k (Some x) = k x

since_unread : (at : ℕ) (o : Order) (x : Session) → (since_order at o x).unread ≡ x.unread
since_unread at order.Open x = refl
since_unread at order.Close x = refl
since_unread at (order.Limits voltage current watts) x = refl

since_waits : (at : ℕ) (o : Order) (x : Session) → is_waiting x.stage.row ≡ false → is_waiting (since_order at o x).stage.row ≡ false
since_waits at order.Open x w = w
since_waits at order.Close x w = w
since_waits at (order.Limits voltage current watts) x w = w

confirmed_not : (r : Phase) → is_waiting (confirmed_row r) ≡ false
confirmed_not row.DcClosing = refl
confirmed_not row.AcClosing = refl
confirmed_not other = refl

said_reply : (o : Option EndCause) (session : Option Session) (a : Agenda) (live : Bool) → (agenda_said o session a live).reply ≡ None
said_reply None session a live = refl
said_reply (Some cause) session a live = leaves_silent session cause live

said_ends : (o : Option EndCause) (session : Option Session) (a : Agenda) (live : Bool) → session ≡ None → EndsNot a → EndsNot (agenda_said o session a live)
said_ends None session a live e k = (k.0, refl)
said_ends (Some cause) None a live e k = (refl, refl)
said_ends (Some cause) (Some x) a live e k = absurd (some_none x e)

spoken_frame : (c : Codecs) (spoken : Spoken) (bytes : List ℕ) → IsSpoken c spoken bytes → (payload : List ℕ) × (bytes ≡ frame payload)
spoken_frame c (Response payload) bytes h = (payload, h)
spoken_frame c (Said dialect reply) bytes h = (h.0, h.2)

says_first : (d : Option (List ℕ)) (o : Option Order) (r : Option Spoken) (e : Option EndCause) (spoken : Spoken) → first_of d o r e ≡ Some (states.Say spoken) → r ≡ Some spoken
says_first (Some datagram) o r e spoken h = cc
says_first None (Some order) r e spoken h = cc
says_first None None (Some other) e spoken h = cc
says_first None None None (Some cause) spoken h = cc
says_first None None None None spoken h = cc

ends_first : (d : Option (List ℕ)) (o : Option Order) (r : Option Spoken) (e : Option EndCause) (cause : EndCause) → first_of d o r e ≡ Some (states.Finish cause) → e ≡ Some cause
ends_first (Some datagram) o r e cause h = cc
ends_first None (Some order) r e cause h = cc
ends_first None None (Some other) e cause h = cc
ends_first None None None (Some own) cause h = cc
ends_first None None None None cause h = cc

ending_arrived : (o : Option Session) (arrived : Option ℕ) (a : Agenda) (cause : EndCause) → a.ending ≡ Some cause → SoundBy o arrived a → arrived ≡ None
ending_arrived None arrived a cause e s = absurd (some_none cause (sym e ∙ s.0))
ending_arrived (Some x) arrived a cause e s = s

gives : (s : State) (o : Order) → IsSound s → Done s (Give o)
gives s o f = record {
  sound = map_sound (since_order s.clock o) s.arrived s.agenda (record s.agenda { order = None }) s.session (λ e k. k) f;
  keeps = inl (map_unread (since_order s.clock o) (since_unread s.clock o) s.arrived s.clock s.session);
  doing = SaysNothing refl (λ h. record { reply = h.reply; waits = map_waits (since_order s.clock o) (since_waits s.clock o) s.session h.waits });
  ends = tt;
}

plain_again : (o : Option Session) (arrived : Option ℕ) (a : Agenda) → SoundBy o arrived a → SoundBy o arrived (record a { datagram = None })
plain_again None arrived a s = s
plain_again (Some x) arrived a s = s

answers : (s : State) (d : List ℕ) → IsSound s → Done s (Answer d)
answers s d f = record {
  sound = plain_again s.session s.arrived s.agenda f;
  keeps = inl refl;
  doing = SaysNothing refl (λ h. record { reply = h.reply; waits = h.waits });
  ends = tt;
}

says : (s : State) (spoken : Spoken) (payload : List ℕ) → s.agenda.reply ≡ Some spoken → IsSound s → Done s (Send (frame payload))
says s spoken payload r f = record {
  sound = map_sound (replied s.clock) s.arrived s.agenda (agenda_said s.agenda.behind_reply s.session s.agenda s.live) s.session
      (said_ends s.agenda.behind_reply s.session s.agenda s.live) f;
  keeps = inl (map_unread (replied s.clock) (λ x. refl) s.arrived s.clock s.session);
  doing = SaysReply payload spoken refl r (record {
    reply = said_reply s.agenda.behind_reply s.session s.agenda s.live;
    waits = map_never (replied s.clock) (λ x. confirmed_not x.stage.row) s.session;
  });
  ends = tt;
}

finishes : (s : State) (cause : EndCause) (n : ℕ) → s.agenda.ending ≡ Some cause → IsSound s → Done s (End n)
finishes s cause n e f =
    let a : s.arrived ≡ None = ending_arrived s.session s.arrived s.agenda cause e f in
    record {
      sound = (refl, refl);
      keeps = inr (ap (λ (x : Option ℕ). unread_in (session_opened x s.clock None)) a);
      doing = SaysNothing refl (λ h. record { reply = refl; waits = tt });
      ends = (refl, a);
    }

pub done_by : (c : Codecs) (s : State) (todo : Todo) (act : Act) → IsSound s → first s.agenda ≡ Some todo → IsDone c todo act true → Done s act
done_by c s (states.Tell d) act f e i = subst (λ (x : Act). Done s x) (sym i) (answers s d f)
done_by c s (states.Give o) act f e i = subst (λ (x : Act). Done s x) (sym i) (gives s o f)
done_by c s (states.Say spoken) act f e i =
    let p = spoken_frame c spoken i.0 i.1 in
    let r : s.agenda.reply ≡ Some spoken = says_first s.agenda.datagram s.agenda.order s.agenda.reply s.agenda.ending spoken e in
    let is : act ≡ Send (frame p.0) = i.2 ∙ ap (λ (x : List ℕ). Send x) p.1 in
    subst (λ (x : Act). Done s x) (sym is) (says s spoken p.0 r f)
done_by c s (states.Finish cause) act f e i =
    let r : s.agenda.ending ≡ Some cause = ends_first s.agenda.datagram s.agenda.order s.agenda.reply s.agenda.ending cause e in
    subst (λ (x : Act). Done s x) (sym i.0) (finishes s cause _ r f)

-- a session that is gone stays so
pub gone_stays : (act : Act) (s : State) → IsGone s → IsGone (acted act true s)
gone_stays (Give o) s g = (ap (option_map (since_order s.clock o)) g.0, g.1)
gone_stays (Send bytes) s g = (ap (option_map (replied s.clock)) g.0, g.1)
gone_stays (Answer bytes) s g = g
gone_stays (End cause) s g = (refl, g.1)

-- ---- a hearing

map_more : (b : List ℕ) (o : Option Session) → unread_in (option_map (with_bytes b) o) ≡ more b (unread_in o)
map_more b None = refl
map_more b (Some x) = refl

opened_waits : (arrived : Option ℕ) (clock : ℕ) (o : Option Session) → NotWaiting o → NotWaiting (session_opened arrived clock o)
opened_waits None clock o w = w
opened_waits (Some token) clock o w = refl

heard_in : (arrived : Option ℕ) (clock : ℕ) (o : Option Session) (b : List ℕ) (a : Option ℕ) (at : ℕ) → a ≡ None
    → unread_in (session_opened a at (option_map (with_bytes b) (session_opened arrived clock o))) ≡ more b (unread_in (session_opened arrived clock o))
heard_in arrived clock o b None at e = map_more b (session_opened arrived clock o)
heard_in arrived clock o b (Some token) at e = absurd (some_none token e)

pub heard_unread : (event : Event) (at : ℕ) (s : State) → arrival event ≡ None → unread (hearing at event s) ≡ more (brought event) (unread s)
heard_unread event at s e = heard_in s.arrived s.clock s.session (brought event) (arrival event) at e

fresh_sound : (o : Option Session) (arrived : Option ℕ) → arrived ≡ None → SoundBy o arrived nothing
fresh_sound None arrived e = (refl, refl)
fresh_sound (Some x) arrived e = e

pub heard_sound : (event : Event) (at : ℕ) (s : State) → arrival event ≡ None → IsSound (hearing at event s)
heard_sound event at s e = fresh_sound _ (arrival event) e

pub heard_silent : (event : Event) (at : ℕ) (s : State) → IsSilent s → IsSilent (hearing at event s)
heard_silent event at s h =
    record { reply = refl; waits = map_waits (with_bytes (brought event)) (λ x w. w) (session_opened s.arrived s.clock s.session) (opened_waits s.arrived s.clock s.session h.waits) }

pub heard_gone : (event : Event) (at : ℕ) (s : State) → arrival event ≡ None → IsGone s → IsGone (hearing at event s)
heard_gone event at s e g = (ap (λ (x : Option ℕ). option_map (with_bytes (brought event)) (session_opened x s.clock s.session)) g.1 ∙ ap (option_map (with_bytes (brought event))) g.0, e)

-- a connection comes to a station without a session
pub record HasCome (s : State) : Type 0 where
  pub sound : IsSound s
  pub read : HasRead (unread s)
  pub silent : IsSilent s

pub come : (token at : ℕ) (s : State) → IsGone s → HasCome (hearing at (Came token) s)
come token at s g =
    let n : (hearing at (Came token) s).session ≡ None =
    ap (λ (x : Option ℕ). option_map (with_bytes []) (session_opened x s.clock s.session)) g.1 ∙ ap (option_map (with_bytes [])) g.0 in
    record {
      sound = subst (λ (o : Option Session). SoundBy o (Some token) nothing) (sym n) (refl, refl);
      read = refl;
      silent = record { reply = refl; waits = subst NotWaiting (sym n) tt };
    }

pub decided_gone : (plan : PostPlan) (s : State) → IsGone s → IsGone (decided plan s)
decided_gone plan s g = let p : IsPlanned s (decided plan s) = planned plan s in subst IsGone (sym p.is) g

pub gone_read : (s : State) → IsGone s → HasRead (unread s)
gone_read s g =
    let n : unread s ≡ None = ap (λ (x : Option ℕ). unread_in (session_opened x s.clock s.session)) g.1 ∙ ap unread_in g.0 in subst HasRead (sym n) tt
