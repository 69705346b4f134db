-- What each entry changes of the values.
use Rattle.std.proofs.Common.{◌≡◌, ℕ, max, ◌==◌, Bool, true, false, List, [], ◌∷◌, Option, Some, None, refl, sym, ap, subst, ◌∙◌}
use Rattle.std.specs.Prelude.{not, ◌&&◌, ◌||◌, if◌then◌else◌, is_some, unwrap_or}
use Rattle.std.specs.Option.{option_map}
use Rattle.charge_world.specs.declared.entry.Entry.{Entry}
use Rattle.charge_world.specs.declared.entry.Entry.TheVariants as entry
use Rattle.charge_world.specs.declared.heard.IsolationLevel.{IsolationLevel}
use Rattle.charge_world.specs.declared.heard.PilotState.{PilotState}
use Rattle.charge_world.specs.declared.heard.PilotState.TheVariants.{A}
use Rattle.charge_world.specs.declared.heard.What.{What}
use Rattle.charge_world.specs.declared.heard.What.TheVariants as what
use Rattle.charge_world.specs.declared.ports.Order.{Order}
use Rattle.post_spec.specs.Facts.{now, newer, last, told_by, pilot_in, isolation_in, measured_in, paid_in, stop_in, since_ended, since_came, isolation, measured, stop}
use Rattle.post_spec.specs.Sessions.{session, session_behind, with_seen, if_came, token, came_at}
use Rattle.post_spec.specs.Steps.{Event, Came, Bytes, Gone, Datagram, Plant, Clock, Over, Give, Send, Answer, End, Seen, Heard, Did, event_at, seen, moment}
use Rattle.audit_sessions.specs.declared.values.Arrival.{Arrival}
use Rattle.audit_sessions.specs.declared.values.Moments.{Moments}
use Rattle.audit_sessions.specs.declared.values.SessionValues.{SessionValues}
use Rattle.audit_sessions.specs.Changes.{opened_by, arrival_in, heard_by, ordered, driven, replied, sent, ended, behind}
use Rattle.audit_sessions.specs.Values.{arrival_of, IsSession, AreSeen, AreOf}

-- ---- of a session

token_more : (at : ℕ) (event : Event) (es : List Seen) (first : Seen) (rest : List Seen) → es ≡ first ∷ rest → token es ≡ token (Heard at event ∷ es)
token_more at event es first rest is = rw is refl

came_more : (at : ℕ) (event : Event) (es : List Seen) (first : Seen) (rest : List Seen) → es ≡ first ∷ rest → came_at es ≡ came_at (Heard at event ∷ es)
came_more at event es first rest is = rw is refl

heard_session : (a : Option Arrival) (at earlier : ℕ) (event : Event) (s : Option (List Seen)) (m : Option Moments) → IsSession earlier s m
    → IsSession at (with_seen (Heard at event) (session_behind (arrival_of a) s)) (opened_by a m)
heard_session None at earlier event None None h = tt
heard_session None at earlier event None (Some m) h = absurd h
heard_session None at earlier event (Some es) None h = absurd h
heard_session None at earlier event (Some es) (Some m) h = record {
  first = Heard at event;
  rest = es;
  es_are = refl;
  now_is = refl;
  token_is = h.token_is ∙ token_more at event es h.first h.rest h.es_are;
  came_is = h.came_is ∙ came_more at event es h.first h.rest h.es_are;
  replied_is = h.replied_is;
  closed_is = h.closed_is;
  waits_is = h.waits_is;
}
heard_session (Some a) at earlier event s m h = record {
  first = Heard at event;
  rest = Heard a.at (Came a.token) ∷ [];
  es_are = refl;
  now_is = refl;
  token_is = refl;
  came_is = refl;
  replied_is = refl;
  closed_is = refl;
  waits_is = refl;
}

driven_session : (given : Order) (taken : Bool) (at : ℕ) (s : Option (List Seen)) (m : Option Moments) → IsSession at s m
    → IsSession at (with_seen (Did (Give given) taken) s) (option_map (λ n. ordered given taken at n) m)
driven_session given taken at None None h = tt
driven_session given taken at None (Some m) h = absurd h
driven_session given taken at (Some es) None h = absurd h
driven_session given taken at (Some es) (Some m) h = record {
  first = Did (Give given) taken;
  rest = es;
  es_are = refl;
  now_is = h.now_is;
  token_is = h.token_is;
  came_is = h.came_is;
  replied_is = h.replied_is;
  closed_is = rw (h.closed_is, h.now_is) refl;
  waits_is = rw h.waits_is refl;
}

sent_session : (bytes : List ℕ) (taken : Bool) (at : ℕ) (s : Option (List Seen)) (m : Option Moments) → IsSession at s m
    → IsSession at (with_seen (Did (Send bytes) taken) s) (option_map (λ n. replied at n) m)
sent_session bytes taken at None None h = tt
sent_session bytes taken at None (Some m) h = absurd h
sent_session bytes taken at (Some es) None h = absurd h
sent_session bytes taken at (Some es) (Some m) h = record {
  first = Did (Send bytes) taken;
  rest = es;
  es_are = refl;
  now_is = h.now_is;
  token_is = h.token_is;
  came_is = h.came_is;
  replied_is = sym h.now_is;
  closed_is = h.closed_is;
  waits_is = refl;
}

answered_session : (bytes : List ℕ) (taken : Bool) (at : ℕ) (s : Option (List Seen)) (m : Option Moments) → IsSession at s m
    → IsSession at (with_seen (Did (Answer bytes) taken) s) m
answered_session bytes taken at None None h = tt
answered_session bytes taken at None (Some m) h = absurd h
answered_session bytes taken at (Some es) None h = absurd h
answered_session bytes taken at (Some es) (Some m) h = record {
  first = Did (Answer bytes) taken;
  rest = es;
  es_are = refl;
  now_is = h.now_is;
  token_is = h.token_is;
  came_is = h.came_is;
  replied_is = h.replied_is;
  closed_is = h.closed_is;
  waits_is = h.waits_is;
}

-- ---- of what the charger told

newer_or : {T : Type 0} (o p : Option T) (a : T) → unwrap_or (newer o p) a ≡ unwrap_or o (unwrap_or p a)
newer_or None p a = refl
newer_or (Some x) p a = refl

newer_some : {T : Type 0} (o p : Option T) → is_some (newer o p) ≡ (is_some o || is_some p)
newer_some None p = refl
newer_some (Some x) p = refl

arrived_heard : (at : ℕ) (event : Event) → if_came at event ≡ arrival_of (arrival_in at event)
arrived_heard at (Came token) = refl
arrived_heard at (Bytes bytes) = refl
arrived_heard at Gone = refl
arrived_heard at (Datagram bytes) = refl
arrived_heard at (Plant event) = refl
arrived_heard at Clock = refl
arrived_heard at Over = refl

isolation_heard : (at : ℕ) (event : Event) (past : List Seen)
    → (if is_some (arrival_in at event) then None else newer (told_by isolation_in event) (isolation past)) ≡ isolation (Heard at event ∷ past)
isolation_heard at (Came token) past = refl
isolation_heard at (Bytes bytes) past = refl
isolation_heard at Gone past = refl
isolation_heard at (Datagram bytes) past = refl
isolation_heard at (Plant event) past = refl
isolation_heard at Clock past = refl
isolation_heard at Over past = refl

stop_heard : (at : ℕ) (event : Event) (past : List Seen) → (not (is_some (arrival_in at event)) && (is_some (told_by stop_in event) || stop past)) ≡ stop (Heard at event ∷ past)
stop_heard at (Came token) past = refl
stop_heard at (Bytes bytes) past = refl
stop_heard at Gone past = refl
stop_heard at (Datagram bytes) past = refl
stop_heard at (Plant event) past = sym (newer_some (told_by stop_in (Plant event)) (last (told_by stop_in) (since_came past)))
stop_heard at Clock past = refl
stop_heard at Over past = refl

pair_of : (a b : ℕ) (p : ℕ × ℕ) → a ≡ p.0 → b ≡ p.1 → (a, b) ≡ p
pair_of a b p h k = λ i. (h i, k i)

heard_seen : (at : ℕ) (event : Event) (past : List Seen) (v : SessionValues) → AreSeen past v → AreSeen (Heard at event ∷ past) (heard_by at event v)
heard_seen at event past v h =
    let both : unwrap_or (told_by measured_in event) (v.voltage, v.current) ≡ measured (Heard at event ∷ past) =
    ap (λ (p : ℕ × ℕ). unwrap_or (told_by measured_in event) p) (pair_of v.voltage v.current (measured past) h.voltage_is h.current_is)
    ∙ sym (newer_or (told_by measured_in event) (last (told_by measured_in) past) (0, 0)) in
    record {
      now_is = refl;
      arrived_is = arrived_heard at event;
      session_is = subst (λ (o : Option Seen). IsSession at (with_seen (Heard at event) (session_behind o (session past))) (opened_by v.arrived v.session)) (sym h.arrived_is)
          (heard_session v.arrived at (now past) event (session past) v.session h.session_is);
      pilot_is = ap (λ (s : PilotState). unwrap_or (told_by pilot_in event) s) h.pilot_is ∙ sym (newer_or (told_by pilot_in event) (last (told_by pilot_in) past) A);
      isolation_is = ap (λ (o : Option IsolationLevel). if is_some (arrival_in at event) then None else newer (told_by isolation_in event) o) h.isolation_is
          ∙ isolation_heard at event past;
      voltage_is = ap (λ (p : ℕ × ℕ). p.0) both;
      current_is = ap (λ (p : ℕ × ℕ). p.1) both;
      paid_is = ap (λ (b : Bool). is_some (told_by paid_in event) || b) h.paid_is ∙ sym (newer_some (told_by paid_in event) (last (told_by paid_in) (since_ended past)));
      stop_is = ap (λ (b : Bool). not (is_some (arrival_in at event)) && (is_some (told_by stop_in event) || b)) h.stop_is ∙ stop_heard at event past;
    }

-- ---- of an act

driven_seen : (given : Order) (taken : Bool) (past : List Seen) (v : SessionValues) → AreSeen past v → AreSeen (Did (Give given) taken ∷ past) (driven given taken v)
driven_seen given taken past v h = record {
  now_is = h.now_is;
  arrived_is = h.arrived_is;
  session_is = subst (λ (n : ℕ). IsSession (now past) (with_seen (Did (Give given) taken) (session past)) (option_map (λ m. ordered given taken n m) v.session)) (sym h.now_is)
      (driven_session given taken (now past) (session past) v.session h.session_is);
  pilot_is = h.pilot_is;
  isolation_is = h.isolation_is;
  voltage_is = h.voltage_is;
  current_is = h.current_is;
  paid_is = h.paid_is;
  stop_is = h.stop_is;
}

sent_seen : (bytes : List ℕ) (taken : Bool) (past : List Seen) (v : SessionValues) → AreSeen past v → AreSeen (Did (Send bytes) taken ∷ past) (sent v)
sent_seen bytes taken past v h = record {
  now_is = h.now_is;
  arrived_is = h.arrived_is;
  session_is = subst (λ (n : ℕ). IsSession (now past) (with_seen (Did (Send bytes) taken) (session past)) (option_map (λ m. replied n m) v.session)) (sym h.now_is)
      (sent_session bytes taken (now past) (session past) v.session h.session_is);
  pilot_is = h.pilot_is;
  isolation_is = h.isolation_is;
  voltage_is = h.voltage_is;
  current_is = h.current_is;
  paid_is = h.paid_is;
  stop_is = h.stop_is;
}

answered_seen : (bytes : List ℕ) (taken : Bool) (past : List Seen) (v : SessionValues) → AreSeen past v → AreSeen (Did (Answer bytes) taken ∷ past) v
answered_seen bytes taken past v h = record {
  now_is = h.now_is;
  arrived_is = h.arrived_is;
  session_is = answered_session bytes taken (now past) (session past) v.session h.session_is;
  pilot_is = h.pilot_is;
  isolation_is = h.isolation_is;
  voltage_is = h.voltage_is;
  current_is = h.current_is;
  paid_is = h.paid_is;
  stop_is = h.stop_is;
}

ended_seen : (cause : ℕ) (taken : Bool) (past : List Seen) (v : SessionValues) → AreSeen past v → AreSeen (Did (End cause) taken ∷ past) (ended v)
ended_seen cause taken past v h = record {
  now_is = h.now_is;
  arrived_is = h.arrived_is;
  session_is = tt;
  pilot_is = h.pilot_is;
  isolation_is = h.isolation_is;
  voltage_is = h.voltage_is;
  current_is = h.current_is;
  paid_is = refl;
  stop_is = h.stop_is;
}

-- ---- of an entry

piece : (mine : Bool) (at : ℕ) (bytes : List ℕ) (v : SessionValues) → heard_by at (if mine then Bytes [] else Clock) v ≡ heard_by at (if mine then Bytes bytes else Clock) v
piece true at bytes v = refl
piece false at bytes v = refl

datagram : (mine : Bool) (at : ℕ) (bytes : List ℕ) (v : SessionValues) → heard_by at (if mine then Datagram [] else Clock) v ≡ heard_by at (if mine then Datagram bytes else Clock) v
datagram true at bytes v = refl
datagram false at bytes v = refl

no_bytes : (k at : ℕ) (heard : What) (bytes : List ℕ) (v : SessionValues) → heard_by at (event_at k heard []) v ≡ heard_by at (event_at k heard bytes) v
no_bytes k at (what.Came post token) bytes v = refl
no_bytes k at (what.Bytes post n) bytes v = piece (post == k) at bytes v
no_bytes k at (what.Gone post) bytes v = refl
no_bytes k at (what.Datagram post n) bytes v = datagram (post == k) at bytes v
no_bytes k at (what.Plant post event) bytes v = refl
no_bytes k at what.Tick bytes v = refl
no_bytes k at what.Over bytes v = refl

heard_of : (k at m : ℕ) (heard : What) (bytes : List ℕ) (past : List Seen) (v : SessionValues) → v.moment ≡ m → AreSeen past v
    → AreSeen (Heard (max m at) (event_at k heard bytes) ∷ past) (heard_by (max v.moment at) (event_at k heard []) v)
heard_of k at m heard bytes past v is h =
    subst (λ (n : ℕ). AreSeen (Heard (max n at) (event_at k heard bytes) ∷ past) (heard_by (max v.moment at) (event_at k heard []) v)) is
    (subst (AreSeen (Heard (max v.moment at) (event_at k heard bytes) ∷ past)) (sym (no_bytes k (max v.moment at) heard bytes v))
    (heard_seen (max v.moment at) (event_at k heard bytes) past v h))

drove_if : (mine : Bool) (given : Order) (taken : Bool) (past : List Seen) (m : ℕ) (v : SessionValues) → AreSeen past v → v.moment ≡ m
    → AreSeen (if mine then Did (Give given) taken ∷ past else past) (if mine then driven given taken v else v) × ((if mine then driven given taken v else v).moment ≡ m)
drove_if true given taken past m v h is = (driven_seen given taken past v h, is)
drove_if false given taken past m v h is = (h, is)

sent_if : (mine : Bool) (bytes : List ℕ) (taken : Bool) (past : List Seen) (m : ℕ) (v : SessionValues) → AreSeen past v → v.moment ≡ m
    → AreSeen (if mine then Did (Send bytes) taken ∷ past else past) (if mine then sent v else v) × ((if mine then sent v else v).moment ≡ m)
sent_if true bytes taken past m v h is = (sent_seen bytes taken past v h, is)
sent_if false bytes taken past m v h is = (h, is)

answered_if : (mine : Bool) (bytes : List ℕ) (taken : Bool) (past : List Seen) (v : SessionValues) → AreSeen past v
    → AreSeen (if mine then Did (Answer bytes) taken ∷ past else past) v
answered_if true bytes taken past v h = answered_seen bytes taken past v h
answered_if false bytes taken past v h = h

ended_if : (mine : Bool) (cause : ℕ) (past : List Seen) (m : ℕ) (v : SessionValues) → AreSeen past v → v.moment ≡ m
    → AreSeen (if mine then Did (End cause) true ∷ past else past) (if mine then ended v else v) × ((if mine then ended v else v).moment ≡ m)
ended_if true cause past m v h is = (ended_seen cause true past v h, is)
ended_if false cause past m v h is = (h, is)

pub told : (k : ℕ) (e : Entry) (past : List Entry) (v : SessionValues) → AreOf k past v → AreOf k (e ∷ past) (behind k e v)
told k (entry.Heard heard bytes) past v h =
    record { seen_is = heard_of k heard.at (moment past) heard.what bytes (seen k past) v h.moment_is h.seen_is; moment_is = ap (λ (n : ℕ). max n heard.at) h.moment_is }
told k entry.Lost past v h = record { seen_is = h.seen_is; moment_is = h.moment_is }
told k (entry.Sent post bytes taken) past v h =
    let both = sent_if (post == k) bytes taken (seen k past) (moment past) v h.seen_is h.moment_is in
    record { seen_is = both.0; moment_is = both.1 }
told k (entry.Answered post bytes taken) past v h = record { seen_is = answered_if (post == k) bytes taken (seen k past) v h.seen_is; moment_is = h.moment_is }
told k (entry.Drove post given taken) past v h =
    let both = drove_if (post == k) given taken (seen k past) (moment past) v h.seen_is h.moment_is in
    record { seen_is = both.0; moment_is = both.1 }
told k (entry.Dialed port taken) past v h = record { seen_is = h.seen_is; moment_is = h.moment_is }
told k (entry.Ended post cause) past v h =
    let both = ended_if (post == k) cause (seen k past) (moment past) v h.seen_is h.moment_is in
    record { seen_is = both.0; moment_is = both.1 }
