-- The tie is kept by every step.
use Rattle.std.proofs.Common.{◌≡◌, ℕ, suc, ◌+◌, Bool, true, false, ◌&&◌, if◌then◌else◌, List, [], ◌∷◌, ◌++◌, length, map, Option, Some, None, Result, Ok, Err, refl, sym, ap, subst, ◌∙◌, arith, inl, inr, MatchBool}
use Rattle.std.specs.Option.{option_map}
use Rattle.charge_world.specs.declared.heard.PlantEvent.{PlantEvent}
use Rattle.charge_world.specs.declared.ports.Order.{Order}
use Rattle.charge_world.specs.declared.ports.Order.TheVariants as order
use Rattle.session_words.specs.declared.cause.EndCause.{EndCause}
use Rattle.session_words.specs.declared.cause.EndCause.TheVariants.{Gone as ConnectionGone, RunOver, SendFailed, OrderFailed}
use Rattle.session_words.specs.declared.phase.Phase.{Phase}
use Rattle.session_words.specs.declared.phase.Phase.TheVariants as row
use Rattle.session_words.specs.declared.phase.Standing.{Standing}
use Rattle.session_words.specs.declared.phase.Standing.TheVariants as standing
use Rattle.session_words.specs.declared.plan.PostPlan.{PostPlan}
use Rattle.session_words.specs.declared.word.Request.{Request}
use Rattle.session_words.specs.declared.cause.Timeout.{Timeout}
use Rattle.session_words.specs.Causes.{cause_of}
use Rattle.session_timers.specs.Law.{span_of}
use Rattle.v2gtp_frames.specs.declared.FrameFault.{FrameFault}
use Rattle.v2gtp_frames.specs.Reading.{whole_at, behind_front, behind_frames}
use Rattle.session_rules.specs.Causes.{plant_cause}
use Rattle.session_rules.specs.Deadlines.{timeout_of}
use Rattle.session_rules.specs.Moves.{stage_behind}
use Rattle.session_rules.specs.Orders.{order_of}
use Rattle.session_rules.specs.Reply.{reply_to, waiting_reply}
use Rattle.session_rules.specs.Stages.{is_set_up, is_waiting, confirmed_row}
use Rattle.post_spec.specs.Causes.{running, counts_from}
use Rattle.post_spec.specs.Codecs.{Judged, Negotiated, Asked, WrongSide, Refused, Codecs, Judges}
use Rattle.post_spec.specs.Facts.{now}
use Rattle.post_spec.specs.Sessions.{arriving, session_behind, with_seen, session, stream, brought, replies, waits, came_at, replied_at, closed_at}
use Rattle.post_spec.specs.Steps.{Event, Came, Bytes, Gone, Datagram, Plant, Clock, Over, Act, Give, Send, Answer, Seen, Heard, Did, Reading, Step, Hears, Does, seen_of}
use Rattle.station_spec.specs.States.{Spoken, Response, Said, Agenda, Session, State, Todo, nothing, first_session, is_done, first}
use Rattle.station_spec.specs.States as states
use Rattle.station_spec.specs.Deciding.{opening_if, ending_by, ending_in, repeating, is_reached, due, timing, watch, confirms, confirming, charging_by, charging, eventing, fronting_by, fronting, decided}
use Rattle.station_spec.specs.Judging.{Payload, wanted, order_by, cause_by, judged, taken_in, read, filled, IsRead}
use Rattle.station_spec.specs.Hearing.{session_opened, with_bytes}
use Rattle.station_spec.specs.Acting.{since_order, replied, failing, agenda_said, acted, state}
use Rattle.station_spec.specs.Next.{IsDone}
use Rattle.station_spec.specs.Sharing.{Shows}
use Rattle.station_laws.specs.PostRuns.{IsPostRun}
use Rattle.station_laws.proofs.Decided.{decided_by}
use Rattle.safe_runs.proofs.Growth.{AreWhole, grown}
use Rattle.read_runs.proofs.Agendas.{quiet_done, done_empty, repeating_silent, timing_silent, ending_silent, fronting_silent, IsWanted, WantedIn, wanted_in, wanted_done, say_is, give_is, chosen_first, connected_of}
use Rattle.read_runs.proofs.Arrivals.{Arrives, steps_arrive}
use Rattle.read_runs.proofs.Facts.{Hearing, steps_clock, filled_hearing}
use Rattle.read_sessions.specs.Sessions.{IsSession, IsSessionOf, SessionsAreRead}
use Rattle.read_sessions.proofs.Keeping.{Free, Waiting, Talk, Stands, Link, Tie, Tied, session_now, came_later}
use Rattle.read_sessions.proofs.Starts.{starts, closes_waiting, set_up_before, row_goes, row_set_up, waiting_set_up, timeout_is, true_false}

pub waits_in : (A B : Type 0) (b : Bool) → b ≡ true → MatchBool b A B → A
waits_in A B true e m = m
waits_in A B false e m = cc

pub free_in : (A B : Type 0) (b : Bool) → b ≡ false → MatchBool b A B → B
free_in A B true e m = cc
free_in A B false e m = m

waits_by : (A B : Type 0) (b : Bool) → b ≡ true → A → MatchBool b A B
waits_by A B true e a = a
waits_by A B false e a = cc

free_by : (A B : Type 0) (b : Bool) → b ≡ false → B → MatchBool b A B
free_by A B true e a = cc
free_by A B false e a = a

none_close : None ≡ Some order.Close → ⊥
none_close h = cc

-- an order that is no Close, where nothing was ordered
reordered : (b : Bool) (es : List Seen) (taken : ℕ) (here : Phase) (since : ℕ) (o : Option Order) → MatchBool b (Waiting es taken since None) (Free es taken here since) → MatchBool b (Waiting es taken since o) (Free es taken here since)
reordered true es taken here since o t = record {
  count = t.count;
  closed = elim t.closed [
    | inl h ↦ absurd (none_close h)
    | inr h ↦ inr h
  ];
}
reordered false es taken here since o t = t

silent_link : (ending : Option EndCause) (es : List Seen) (here : Phase) (since : ℕ) (unread : List ℕ) (o : Option Order) → (o ≡ Some order.Close → ⊥) → Link None es here since unread None None → Link ending es here since unread None o
silent_link (Some k) es here since unread o n l = record { some = l.some; stands = tt }
silent_link None es here since unread o n l =
    let g = l.stands in
    record {
      some = l.some;
      stands = record { taken = g.taken; whole = g.whole; unread_is = g.unread_is; talk = reordered (is_waiting here) es g.taken here since o g.talk; closing = λ h. absurd (n h) };
    }

silent_tie : (ending : Option EndCause) (es : Option (List Seen)) (kept : Option Session) (r : Option Spoken) (o : Option Order) → r ≡ None → (o ≡ Some order.Close → ⊥) → Tie None es kept None None → Tie ending es kept r o
silent_tie ending None None r o e n t = tt
silent_tie ending None (Some ss) r o e n t = t
silent_tie ending (Some es) None r o e n t = t
silent_tie ending (Some es) (Some ss) r o e n t =
    subst (λ (x : Option Spoken). Link ending es ss.stage.row ss.since ss.unread x o) (sym e) (silent_link ending es ss.stage.row ss.since ss.unread o n t)

abbrev TiedBy : Option (List Seen) → Option Session → Agenda → Type 0
TiedBy es kept a = Tie a.ending es kept a.reply a.order

pub empty_tie : (past : List Seen) (s : State) → is_done s.agenda ≡ true → Tied past s → Tie None (session past) s.session None None
empty_tie past s d t =
    let e = done_empty s.agenda d in
    subst (λ (x : Option EndCause). Tie x (session past) s.session None None) e.ending
    (subst (λ (x : Option Spoken). Tie s.agenda.ending (session past) s.session x None) e.reply
    (subst (λ (x : Option Order). Tie s.agenda.ending (session past) s.session s.agenda.reply x) e.order t))

-- no part but the words orders a Close
opens : (live : Bool) → opening_if live ≡ Some order.Close → ⊥
opens true h = cc
opens false h = cc

repeating_opens : (st : Standing) → (repeating st).order ≡ Some order.Close → ⊥
repeating_opens standing.MustOpen h = cc
repeating_opens standing.Opened h = cc
repeating_opens standing.Closing h = cc
repeating_opens standing.Closed h = cc
repeating_opens standing.Opening h = cc

timed_opens : (b : Bool) (k : EndCause) (live : Bool) → (if b then ending_by k live else nothing).order ≡ Some order.Close → ⊥
timed_opens true k live h = opens live h
timed_opens false k live h = none_close h

timing_opens : (kept : Option Session) (now : ℕ) (live : Bool) → (timing kept now live).order ≡ Some order.Close → ⊥
timing_opens None now live h = none_close h
timing_opens (Some ss) now live h = timed_opens (is_reached (due ss) now) (cause_of (timeout_of ss.stage.row)) live h

ending_opens : (kept : Option Session) (k : EndCause) (live : Bool) → (ending_in kept k live).order ≡ Some order.Close → ⊥
ending_opens None k live h = none_close h
ending_opens (Some ss) k live h = opens live h

front_opens : (f : Result (Option ℕ) FrameFault) (waiting live : Bool) → (fronting_by f waiting live).order ≡ Some order.Close → ⊥
front_opens (Err fault) waiting live h = opens live h
front_opens (Ok None) waiting live h = none_close h
front_opens (Ok (Some n)) true live h = opens live h
front_opens (Ok (Some n)) false live h = none_close h

fronting_opens : (kept : Option Session) (live : Bool) → (fronting kept live).order ≡ Some order.Close → ⊥
fronting_opens None live h = none_close h
fronting_opens (Some ss) live h = front_opens (whole_at ss.unread) (is_waiting ss.stage.row) live h

-- the reply that waited
confirm_link : (es : List Seen) (here : Phase) (since : ℕ) (unread : List ℕ) (spoken : Spoken) → is_waiting here ≡ true → Link None es here since unread None None → Link None es here since unread (Some spoken) None
confirm_link es here since unread spoken w l =
    let g = l.stands in
    let h = waits_in (Waiting es g.taken since None) (Free es g.taken here since) (is_waiting here) w g.talk in
    record {
      some = l.some;
      stands = record {
        taken = g.taken;
        whole = g.whole;
        unread_is = g.unread_is;
        talk = record { count = h.count; early = λ x. true_false (is_set_up here) (waiting_set_up here w) x };
        closing = λ x. absurd (none_close x);
      };
    }

confirmed_if : (plan : PostPlan) (es : Option (List Seen)) (ss : Session) (s : State) (w k : Bool) → is_waiting ss.stage.row ≡ w → Tie None es (Some ss) None None
    → TiedBy es (Some ss) (if w && k then record nothing { reply = Some (Said ss.stage.dialect (waiting_reply ss.stage s.facts plan)) } else nothing)
confirmed_if plan None ss s w k e t = absurd t
confirmed_if plan (Some es) ss s true true e t = confirm_link es ss.stage.row ss.since ss.unread (Said ss.stage.dialect (waiting_reply ss.stage s.facts plan)) e t
confirmed_if plan (Some es) ss s true false e t = t
confirmed_if plan (Some es) ss s false k e t = t

charged_by : (plan : PostPlan) (es : Option (List Seen)) (ss : Session) (event : PlantEvent) (s : State) (cause : Option EndCause) → Tie None es (Some ss) None None → TiedBy es (Some ss) (charging_by cause (confirming plan ss event s) s.live)
charged_by plan es ss event s (Some k) t = silent_tie (Some k) es (Some ss) None (opening_if s.live) refl (opens s.live) t
charged_by plan es ss event s None t = confirmed_if plan es ss s (is_waiting ss.stage.row) (confirms event) refl t

charged : (plan : PostPlan) (es : Option (List Seen)) (kept : Option Session) (event : PlantEvent) (s : State) → Tie None es kept None None → TiedBy es kept (charging plan kept event s)
charged plan es None event s t = t
charged plan es (Some ss) event s t = charged_by plan es ss event s (plant_cause (watch plan ss s) event) t

plain_tie : (es : Option (List Seen)) (kept : Option Session) (a : Agenda) → a.reply ≡ None → (a.order ≡ Some order.Close → ⊥) → Tie None es kept None None → TiedBy es kept a
plain_tie es kept a r n t = silent_tie a.ending es kept a.reply a.order r n t

evented : (plan : PostPlan) (es : Option (List Seen)) (e : Event) (s : State) → Tie None es s.session None None → TiedBy es s.session (eventing plan e s)
evented plan es (Came token) s t = plain_tie es s.session (ending_in s.session ConnectionGone s.live) (ending_silent s.session ConnectionGone s.live) (ending_opens s.session ConnectionGone s.live) t
evented plan es (Bytes bytes) s t = t
evented plan es Gone s t = plain_tie es s.session (ending_in s.session ConnectionGone s.live) (ending_silent s.session ConnectionGone s.live) (ending_opens s.session ConnectionGone s.live) t
evented plan es (Datagram bytes) s t = t
evented plan es (Plant event) s t = charged plan es s.session event s t
evented plan es Clock s t = t
evented plan es Over s t = plain_tie es s.session (ending_in s.session RunOver s.live) (ending_silent s.session RunOver s.live) (ending_opens s.session RunOver s.live) t

decided_tied : (plan : PostPlan) (past : List Seen) (s : State) → Tied past s → Tied past (decided plan s)
decided_tied plan past s t =
    decided_by (Tied past) plan s
    (λ d.
    let r = empty_tie past s d t in
    record {
      repeats = plain_tie (session past) s.session (repeating s.facts.contactor) (repeating_silent s.facts.contactor) (repeating_opens s.facts.contactor) r;
      times = plain_tie (session past) s.session (timing s.session s.clock s.live) (timing_silent s.session s.clock s.live) (timing_opens s.session s.clock s.live) r;
      events = evented plan (session past) s.event s r;
      fronts = plain_tie (session past) s.session (fronting s.session s.live) (fronting_silent s.session s.live) (fronting_opens s.session s.live) r;
    }) t

-- a word
more_whole : (n taken : ℕ) (heard unread : List ℕ) → unread ≡ behind_frames taken heard → whole_at unread ≡ Ok (Some n) → AreWhole taken heard → AreWhole (suc taken) heard
more_whole n taken heard unread u w h = (h, (n, subst (λ (x : List ℕ). whole_at x ≡ Ok (Some n)) u w))

not_set_up : (here : Phase) → here ≡ row.Connected → is_set_up here ≡ false
not_set_up here e = ap is_set_up e

asked_talk : (plan : PostPlan) (es : List Seen) (taken : ℕ) (s : State) (ss : Session) (r : Request) (shown : ℕ) (w : Bool) → Free es taken ss.stage.row ss.since → is_waiting ss.stage.row ≡ false → is_waiting (stage_behind ss.stage s.facts plan r shown).row ≡ w
    → Talk es (suc taken) (stage_behind ss.stage s.facts plan r shown).row ss.since (if w then None else Some (Said ss.stage.dialect (reply_to ss.stage s.facts plan r shown))) (order_by (cause_by ss.stage plan s r) s.live (order_of ss.stage s.facts plan r shown))
asked_talk plan es taken s ss r shown true f g w =
    let next = stage_behind ss.stage s.facts plan r shown in
    let o = order_by (cause_by ss.stage plan s r) s.live (order_of ss.stage s.facts plan r shown) in
    let k = starts ss.stage s.facts plan r shown g w in
    waits_by (Waiting es (suc taken) ss.since o) (Free es (suc taken) next.row ss.since) (is_waiting next.row) w
    (record { count = ap suc f.count; closed = inl (ap (λ (x : Option EndCause). order_by x s.live (order_of ss.stage s.facts plan r shown)) k.cause ∙ k.order) })
asked_talk plan es taken s ss r shown false f g w = record { count = ap suc f.count; early = λ h. f.early (set_up_before ss.stage s.facts plan r shown h) }

asked_stands : (plan : PostPlan) (es : List Seen) (taken : ℕ) (s : State) (ss : Session) (r : Request) (shown : ℕ) (ending : Option EndCause) → AreWhole (suc taken) (stream es) → ss.unread ≡ behind_frames taken (stream es) → Free es taken ss.stage.row ss.since → is_waiting ss.stage.row ≡ false
    → Stands ending es (stage_behind ss.stage s.facts plan r shown).row ss.since (behind_front ss.unread)
    (if is_waiting (stage_behind ss.stage s.facts plan r shown).row then None else Some (Said ss.stage.dialect (reply_to ss.stage s.facts plan r shown))) (order_by (cause_by ss.stage plan s r) s.live (order_of ss.stage s.facts plan r shown))
asked_stands plan es taken s ss r shown (Some k) more u f g = tt
asked_stands plan es taken s ss r shown None more u f g = record {
  taken = suc taken;
  whole = more;
  unread_is = ap behind_front u;
  talk = asked_talk plan es taken s ss r shown (is_waiting (stage_behind ss.stage s.facts plan r shown).row) f g refl;
  closing = λ h. closes_waiting (cause_by ss.stage plan s r) s.live ss.stage s.facts plan r shown h;
}

judged_link : (c : Codecs) (plan : PostPlan) (es : List Seen) (n : ℕ) (s : State) (ss : Session) (p : Payload) (w : Judged) (shown : ℕ) → IsWanted s ss n p → Judges c plan.dialects.items p.dialect p.bytes w → Link None es ss.stage.row ss.since ss.unread None None
    → TiedBy (Some es) (judged plan s ss w shown).session (judged plan s ss w shown).agenda
judged_link c plan es n s ss p (Negotiated chosen response) shown i j l =
    let g = l.stands in
    let f = free_in (Waiting es g.taken ss.since None) (Free es g.taken ss.stage.row ss.since) (is_waiting ss.stage.row) i.goes g.talk in
    let q = chosen_first c plan.dialects.items p.dialect p.bytes chosen response j in
    let here = connected_of ss.stage.row ss.stage.dialect (sym i.dialect_is ∙ q.0) in
    record {
      some = l.some;
      stands = record {
        taken = suc g.taken;
        whole = more_whole n g.taken (stream es) ss.unread g.unread_is i.front g.whole;
        unread_is = ap behind_front g.unread_is;
        talk = record { count = ap suc f.count; early = λ h. f.early (not_set_up ss.stage.row here) };
        closing = λ h. absurd (none_close h);
      };
    }
judged_link c plan es n s ss p (Asked r) shown i j l =
    let g = l.stands in
    let f = free_in (Waiting es g.taken ss.since None) (Free es g.taken ss.stage.row ss.since) (is_waiting ss.stage.row) i.goes g.talk in
    record {
      some = l.some;
      stands = asked_stands plan es g.taken s ss r shown (cause_by ss.stage plan s r) (more_whole n g.taken (stream es) ss.unread g.unread_is i.front g.whole) g.unread_is f i.goes;
    }
judged_link c plan es n s ss p WrongSide shown i j l = record { some = l.some; stands = tt }
judged_link c plan es n s ss p Refused shown i j l = record { some = l.some; stands = tt }

judged_tied : (c : Codecs) (plan : PostPlan) (es : Option (List Seen)) (n : ℕ) (s : State) (ss : Session) (p : Payload) (w : Judged) (shown : ℕ) → IsWanted s ss n p → Judges c plan.dialects.items p.dialect p.bytes w → Tie None es (Some ss) None None
    → TiedBy es (judged plan s ss w shown).session (judged plan s ss w shown).agenda
judged_tied c plan None n s ss p w shown i j t = absurd t
judged_tied c plan (Some es) n s ss p w shown i j t = judged_link c plan es n s ss p w shown i j t

taken_tied : (c : Codecs) (plan : PostPlan) (past : List Seen) (s : State) (kept : Option Session) (p : Payload) (r : Reading) → WantedIn s kept p → Judges c plan.dialects.items p.dialect p.bytes r.judged → Tie None (session past) kept None None → Tied past (taken_in plan s kept r)
taken_tied c plan past s None p r i j t = absurd i
taken_tied c plan past s (Some ss) p r i j t = judged_tied c plan (session past) i.0 s ss p r.judged r.shown i.1 j t

read_tied : (c : Codecs) (plan : PostPlan) (S : ℕ → ℕ → Type 0) (past : List Seen) (s : State) (w : Option Payload) (r : Option Reading) → wanted s ≡ w → IsRead c plan S s w r → Tied past s → Tied past (read plan s r)
read_tied c plan S past s w None e i t = t
read_tied c plan S past s None (Some r) e i t = absurd i
read_tied c plan S past s (Some p) (Some r) e i t =
    let x = wanted_in s p e in
    taken_tied c plan past s s.session p r x i.0 (empty_tie past s (wanted_done s s.session p x) t)

filled_tied : (c : Codecs) (plan : PostPlan) (S : ℕ → ℕ → Type 0) (past : List Seen) (s : State) (r : Option Reading) → IsRead c plan S (decided plan s) (wanted (decided plan s)) r → Tied past s → Tied past (filled plan r s)
filled_tied c plan S past s r i t = read_tied c plan S past (decided plan s) (wanted (decided plan s)) r refl i (decided_tied plan past s t)

-- an order
full : (x : Seen) (es : List Seen) → x ∷ es ≡ [] → ⊥
full x es h = cc

same_order : (a b : Order) → Some a ≡ Some b → a ≡ b
same_order a b h = cc

-- one that is taken and no Close
abbrev IsOther : Order → Type 0
IsOther order.Close = ⊥
IsOther order.Open = Unit {0}
IsOther (order.Limits voltage current watts) = Unit {0}

not_close : (o : Order) → IsOther o → o ≡ order.Close → ⊥
not_close order.Open i e = cc
not_close order.Close i e = i
not_close (order.Limits voltage current watts) i e = cc

-- what such an order leaves of a session's entries
pub record Leaves (x : Seen) (es : List Seen) : Type 0 where
  pub replies_are : replies (x ∷ es) ≡ replies es
  pub waits_is : waits (x ∷ es) ≡ waits es
  pub came_is : came_at (x ∷ es) ≡ came_at es
  pub replied_is : replied_at (x ∷ es) ≡ replied_at es
  pub closed_is : closed_at (x ∷ es) ≡ closed_at es
  pub stream_is : stream (x ∷ es) ≡ stream es

left_talk : (b : Bool) (x : Seen) (es : List Seen) (taken : ℕ) (here : Phase) (since : ℕ) (o o' : Option Order) → Leaves x es → (o ≡ Some order.Close → o' ≡ Some order.Close) → MatchBool b (Waiting es taken since o) (Free es taken here since) → MatchBool b (Waiting (x ∷ es) taken since o') (Free (x ∷ es) taken here since)
left_talk true x es taken here since o o' l n t = record {
  count = t.count ∙ ap (λ (ys : List (List ℕ)). suc (length ys)) (sym l.replies_are);
  closed = elim t.closed [
    | inl h ↦ inl (n h)
    | inr h ↦ inr (l.waits_is ∙ h.0, h.1 ∙ sym l.closed_is)
  ];
}
left_talk false x es taken here since o o' l n t = record {
  count = t.count ∙ ap length (sym l.replies_are);
  still = l.waits_is ∙ t.still;
  early = λ h. t.early h ∙ sym l.came_is;
  later = λ h. t.later h ∙ sym l.replied_is;
}

left_going : (reply : Option Spoken) (x : Seen) (es : List Seen) (taken : ℕ) (here : Phase) (since : ℕ) (o o' : Option Order) → Leaves x es → (o ≡ Some order.Close → o' ≡ Some order.Close) → Talk es taken here since reply o → Talk (x ∷ es) taken here since reply o'
left_going None x es taken here since o o' l n t = left_talk (is_waiting here) x es taken here since o o' l n t
left_going (Some spoken) x es taken here since o o' l n t =
    record { count = t.count ∙ ap (λ (ys : List (List ℕ)). suc (length ys)) (sym l.replies_are); early = λ h. t.early h ∙ sym l.came_is }

left_link : (ending : Option EndCause) (x : Seen) (es : List Seen) (here : Phase) (since : ℕ) (unread : List ℕ) (reply : Option Spoken) (o o' : Option Order) → Leaves x es → (o ≡ Some order.Close → o' ≡ Some order.Close) → (o' ≡ Some order.Close → o ≡ Some order.Close)
    → Link ending es here since unread reply o → Link ending (x ∷ es) here since unread reply o'
left_link (Some k) x es here since unread reply o o' l n m t = record { some = full x es; stands = tt }
left_link None x es here since unread reply o o' l n m t =
    let g = t.stands in
    record {
      some = full x es;
      stands = record {
        taken = g.taken;
        whole = subst (AreWhole g.taken) (sym l.stream_is) g.whole;
        unread_is = g.unread_is ∙ ap (behind_frames g.taken) (sym l.stream_is);
        talk = left_going reply x es g.taken here since o o' l n g.talk;
        closing = λ h. g.closing (m h);
      };
    }

other_leaves : (o : Order) (es : List Seen) → IsOther o → Leaves (Did (Give o) true) es
other_leaves order.Open es i = record { replies_are = refl; waits_is = refl; came_is = refl; replied_is = refl; closed_is = refl; stream_is = refl }
other_leaves order.Close es i = absurd i
other_leaves (order.Limits voltage current watts) es i = record { replies_are = refl; waits_is = refl; came_is = refl; replied_is = refl; closed_is = refl; stream_is = refl }

other_link : (ending : Option EndCause) (o : Order) (es : List Seen) (here : Phase) (since : ℕ) (unread : List ℕ) (reply : Option Spoken) (a : Option Order) → IsOther o → a ≡ Some o → Link ending es here since unread reply a → Link ending (Did (Give o) true ∷ es) here since unread reply None
other_link ending o es here since unread reply a i e t =
    left_link ending (Did (Give o) true) es here since unread reply a None (other_leaves o es i) (λ h. absurd (not_close o i (same_order o order.Close (sym e ∙ h)))) (λ h. absurd (none_close h)) t

-- a Close that is taken
close_talk : (reply : Option Spoken) (es : List Seen) (taken : ℕ) (here : Phase) (since clock : ℕ) (a : Option Order) → now es ≡ clock → is_waiting here ≡ true → Talk es taken here since reply a → Talk (Did (Give order.Close) true ∷ es) taken here clock reply None
close_talk None es taken here since clock a n w t =
    let h = waits_in (Waiting es taken since a) (Free es taken here since) (is_waiting here) w t in
    waits_by (Waiting (Did (Give order.Close) true ∷ es) taken clock None) (Free (Did (Give order.Close) true ∷ es) taken here clock) (is_waiting here) w (record { count = h.count; closed = inr (refl, sym n) })
close_talk (Some spoken) es taken here since clock a n w t = record { count = t.count; early = λ h. true_false (is_set_up here) (waiting_set_up here w) h }

close_link : (ending : Option EndCause) (es : List Seen) (here : Phase) (since clock : ℕ) (unread : List ℕ) (reply : Option Spoken) (a : Option Order) → now es ≡ clock → a ≡ Some order.Close → Link ending es here since unread reply a → Link ending (Did (Give order.Close) true ∷ es) here clock unread reply None
close_link (Some k) es here since clock unread reply a n e t = record { some = full (Did (Give order.Close) true) es; stands = tt }
close_link None es here since clock unread reply a n e t =
    let g = t.stands in
    record {
      some = full (Did (Give order.Close) true) es;
      stands = record { taken = g.taken; whole = g.whole; unread_is = g.unread_is; talk = close_talk reply es g.taken here since clock a n (g.closing e) g.talk; closing = λ h. absurd (none_close h) };
    }

given_tie : (o : Order) (clock : ℕ) (ending : Option EndCause) (es : Option (List Seen)) (kept : Option Session) (reply : Option Spoken) (a : Option Order) → ((xs : List Seen) → es ≡ Some xs → now xs ≡ clock) → a ≡ Some o → Tie ending es kept reply a
    → Tie ending (with_seen (Did (Give o) true) es) (option_map (since_order clock o) kept) reply None
given_tie o clock ending None None reply a n e t = tt
given_tie o clock ending None (Some ss) reply a n e t = t
given_tie o clock ending (Some es) None reply a n e t = t
given_tie order.Open clock ending (Some es) (Some ss) reply a n e t = other_link ending order.Open es ss.stage.row ss.since ss.unread reply a tt e t
given_tie order.Close clock ending (Some es) (Some ss) reply a n e t = close_link ending es ss.stage.row ss.since clock ss.unread reply a (n es refl) e t
given_tie (order.Limits voltage current watts) clock ending (Some es) (Some ss) reply a n e t = other_link ending (order.Limits voltage current watts) es ss.stage.row ss.since ss.unread reply a tt e t

-- what fails gives the session a cause
failed_tie : (x : Seen) (live : Bool) (k : EndCause) (ending : Option EndCause) (es : Option (List Seen)) (kept : Option Session) (reply : Option Spoken) (a : Option Order) → Tie ending es kept reply a → TiedBy (with_seen x es) kept (failing ending kept k live)
failed_tie x live k ending None None reply a t = tt
failed_tie x live k ending None (Some ss) reply a t = absurd t
failed_tie x live k ending (Some es) None reply a t = absurd t
failed_tie x live k None (Some es) (Some ss) reply a t = record { some = full x es; stands = tt }
failed_tie x live k (Some e) (Some es) (Some ss) reply a t = record { some = full x es; stands = tt }

answered_tie : (d : List ℕ) (taken : Bool) (ending : Option EndCause) (es : Option (List Seen)) (kept : Option Session) (reply : Option Spoken) (a : Option Order) → Tie ending es kept reply a → Tie ending (with_seen (Did (Answer d) taken) es) kept reply a
answered_tie d taken ending None None reply a t = t
answered_tie d taken ending None (Some ss) reply a t = t
answered_tie d taken ending (Some es) None reply a t = t
answered_tie d taken ending (Some es) (Some ss) reply a t =
    left_link ending (Did (Answer d) taken) es ss.stage.row ss.since ss.unread reply a a (record { replies_are = refl; waits_is = refl; came_is = refl; replied_is = refl; closed_is = refl; stream_is = refl }) (λ h. h) (λ h. h) t

-- a reply
since_early : (b : Bool) (clock since n : ℕ) → b ≡ false → since ≡ n → (if b then clock else since) ≡ n
since_early true clock since n e h = cc
since_early false clock since n e h = h

since_later : (b : Bool) (clock since : ℕ) → b ≡ true → (if b then clock else since) ≡ clock
since_later true clock since e = refl
since_later false clock since e = cc

sent_link : (es : List Seen) (bytes : List ℕ) (here : Phase) (since clock : ℕ) (unread : List ℕ) (spoken : Spoken) (a o : Option Order) → now es ≡ clock → o ≡ None → Link None es here since unread (Some spoken) a
    → Link None (Did (Send bytes) true ∷ es) (confirmed_row here) (if is_set_up here then clock else since) unread None o
sent_link es bytes here since clock unread spoken a o n e l =
    let g = l.stands in
    record {
      some = full (Did (Send bytes) true) es;
      stands = record {
        taken = g.taken;
        whole = g.whole;
        unread_is = g.unread_is;
        talk = free_by (Waiting (Did (Send bytes) true ∷ es) g.taken (if is_set_up here then clock else since) o) (Free (Did (Send bytes) true ∷ es) g.taken (confirmed_row here) (if is_set_up here then clock else since)) (is_waiting (confirmed_row here)) (row_goes here)
            (record {
              count = g.talk.count;
              still = refl;
              early = λ h. let k = sym (row_set_up here) ∙ h in since_early (is_set_up here) clock since (came_at es) k (g.talk.early k);
              later = λ h. since_later (is_set_up here) clock since (sym (row_set_up here) ∙ h) ∙ sym n;
            });
        closing = λ h. absurd (none_close (sym e ∙ h));
      };
    }

sent_tie : (bytes : List ℕ) (clock : ℕ) (live : Bool) (a : Agenda) (e b : Option EndCause) (spoken : Spoken) (es : Option (List Seen)) (kept : Option Session) → ((xs : List Seen) → es ≡ Some xs → now xs ≡ clock) → a.ending ≡ e → a.order ≡ None → Tie e es kept (Some spoken) a.order
    → TiedBy (with_seen (Did (Send bytes) true) es) (option_map (replied clock) kept) (agenda_said b kept a live)
sent_tie bytes clock live a e b spoken None None n f o t = tt
sent_tie bytes clock live a e b spoken None (Some ss) n f o t = absurd t
sent_tie bytes clock live a e b spoken (Some es) None n f o t = absurd t
sent_tie bytes clock live a e (Some k) spoken (Some es) (Some ss) n f o t = record { some = full (Did (Send bytes) true) es; stands = tt }
sent_tie bytes clock live a (Some k) None spoken (Some es) (Some ss) n f o t =
    subst (λ (x : Option EndCause). Link x (Did (Send bytes) true ∷ es) (confirmed_row ss.stage.row) (if is_set_up ss.stage.row then clock else ss.since) ss.unread None a.order) (sym f) (record { some = full (Did (Send bytes) true) es; stands = tt })
sent_tie bytes clock live a None None spoken (Some es) (Some ss) n f o t =
    subst (λ (x : Option EndCause). Link x (Did (Send bytes) true ∷ es) (confirmed_row ss.stage.row) (if is_set_up ss.stage.row then clock else ss.since) ss.unread None a.order) (sym f)
    (sent_link es bytes ss.stage.row ss.since clock ss.unread spoken a.order a.order (n es refl) o t)

acted_tied : (c : Codecs) (past : List Seen) (s : State) (todo : Todo) (a : Act) (taken : Bool) → s.clock ≡ now past → first s.agenda ≡ Some todo → IsDone c todo a taken → Tied past s → Tied (Did a taken ∷ past) (acted a taken s)
acted_tied c past s (states.Tell d) a taken n f i t = subst (λ (x : Act). Tied (Did x taken ∷ past) (acted x taken s)) (sym i) (answered_tie d taken s.agenda.ending (session past) s.session s.agenda.reply s.agenda.order t)
acted_tied c past s (states.Give o) a true n f i t =
    subst (λ (x : Act). Tied (Did x true ∷ past) (acted x true s)) (sym i)
    (given_tie o s.clock s.agenda.ending (session past) s.session s.agenda.reply s.agenda.order (λ xs h. session_now past xs h ∙ sym n) (give_is s.agenda.datagram s.agenda.order s.agenda.reply s.agenda.ending o f) t)
acted_tied c past s (states.Give o) a false n f i t =
    subst (λ (x : Act). Tied (Did x false ∷ past) (acted x false s)) (sym i) (failed_tie (Did (Give o) false) _ OrderFailed s.agenda.ending (session past) s.session s.agenda.reply s.agenda.order t)
acted_tied c past s (states.Say spoken) a true n f i t =
    let r = say_is s.agenda.datagram s.agenda.order s.agenda.reply s.agenda.ending spoken f in
    subst (λ (x : Act). Tied (Did x true ∷ past) (acted x true s)) (sym i.2)
    (sent_tie i.0 s.clock s.live s.agenda s.agenda.ending s.agenda.behind_reply spoken (session past) s.session (λ xs h. session_now past xs h ∙ sym n) refl r.1
    (subst (λ (x : Option Spoken). Tie s.agenda.ending (session past) s.session x s.agenda.order) r.0 t))
acted_tied c past s (states.Say spoken) a false n f i t =
    subst (λ (x : Act). Tied (Did x false ∷ past) (acted x false s)) (sym i.2) (failed_tie (Did (Send i.0) false) s.live SendFailed s.agenda.ending (session past) s.session s.agenda.reply s.agenda.order t)
acted_tied c past s (states.Finish cause) a taken n f i t = subst (λ (x : Act). Tied (Did x taken ∷ past) (acted x taken s)) (sym i.0) tt

-- a hearing
heard_talk : (b : Bool) (at : ℕ) (e : Event) (es : List Seen) (taken : ℕ) (here : Phase) (since : ℕ) → (es ≡ [] → ⊥) → MatchBool b (Waiting es taken since None) (Free es taken here since) → MatchBool b (Waiting (Heard at e ∷ es) taken since None) (Free (Heard at e ∷ es) taken here since)
heard_talk true at e es taken here since n t = record { count = t.count; closed = t.closed }
heard_talk false at e es taken here since n t = record { count = t.count; still = t.still; early = λ h. t.early h ∙ sym (came_later at e es n); later = t.later }

heard_link : (at : ℕ) (e : Event) (es : List Seen) (here : Phase) (since : ℕ) (unread : List ℕ) → Link None es here since unread None None → Link None (Heard at e ∷ es) here since (unread ++ brought e) None None
heard_link at e es here since unread l =
    let g = l.stands in
    let k = grown g.taken (stream es) (brought e) g.whole in
    record {
      some = full (Heard at e) es;
      stands = record {
        taken = g.taken;
        whole = k.whole;
        unread_is = ap (λ (x : List ℕ). x ++ brought e) g.unread_is ∙ sym k.behind;
        talk = heard_talk (is_waiting here) at e es g.taken here since l.some g.talk;
        closing = λ h. absurd (none_close h);
      };
    }

heard_tie : (at clock : ℕ) (e : Event) (arrived : Option ℕ) (o : Option Seen) (es : Option (List Seen)) (kept : Option Session) → Arrives arrived o clock → Tie None es kept None None
    → Tie None (with_seen (Heard at e) (session_behind o es)) (option_map (with_bytes (brought e)) (session_opened arrived clock kept)) None None
heard_tie at clock e None None None None a t = tt
heard_tie at clock e None None None (Some ss) a t = t
heard_tie at clock e None None (Some es) None a t = t
heard_tie at clock e None None (Some es) (Some ss) a t = heard_link at e es ss.stage.row ss.since ss.unread t
heard_tie at clock e None (Some came) es kept a t = absurd a
heard_tie at clock e (Some token) None es kept a t = absurd a
heard_tie at clock e (Some token) (Some came) es kept a t =
    subst (λ (x : Seen). Link None (Heard at e ∷ x ∷ []) row.Connected clock ([] ++ brought e) None None) (sym a)
    (record {
      some = full (Heard at e) (Heard clock (Came token) ∷ []);
      stands = record {
        taken = 0;
        whole = tt;
        unread_is = refl;
        talk = record { count = refl; still = refl; early = λ h. refl; later = λ h. cc };
        closing = λ h. absurd (none_close h);
      };
    })

pub steps_tied : (c : Codecs) (plan : PostPlan) (steps : List Step) → IsPostRun c plan steps → Tied (map seen_of steps) (state plan steps)
steps_tied c plan [] run = tt
steps_tied c plan (Hears at e ∷ steps) (run, quiet) =
    let past = map seen_of steps in
    let s = state plan steps in
    let arrives : Arrives s.arrived (arriving past) s.clock = subst (Arrives s.arrived (arriving past)) (sym (steps_clock plan steps)) (steps_arrive plan steps) in
    heard_tie at s.clock e s.arrived (arriving past) (session past) s.session arrives (empty_tie past s (quiet_done plan s quiet) (steps_tied c plan steps run))
steps_tied c plan (Does r a taken ∷ steps) (run, (limit, before, behind, acts)) =
    let past = map seen_of steps in
    let s = state plan steps in
    acted_tied c past (filled plan r s) acts.todo a taken (ap (λ (h : Hearing). h.clock) (filled_hearing plan r s) ∙ steps_clock plan steps) acts.acts acts.done
    (filled_tied c plan (Shows limit before behind) past s r acts.read (steps_tied c plan steps run))

-- So it is read off the entries, once nothing is left to do.
words_if : (b : Bool) (n : ℕ) → b ≡ true → suc n ≡ (if b then n + 1 else n)
words_if true n e = omega arith
words_if false n e = cc

words_not : (b : Bool) (n : ℕ) → b ≡ false → n ≡ (if b then n + 1 else n)
words_not true n e = cc
words_not false n e = refl

counts_by : (here : Phase) (b : Bool) (es : List Seen) (since : ℕ) → is_waiting here ≡ b → waits es ≡ b → since ≡ counts_from (running (is_set_up here) b) es
    → since + span_of (timeout_of here) ≡ counts_from (running (is_set_up here) (waits es)) es + span_of (running (is_set_up here) (waits es))
counts_by here b es since w v h =
    let t : timeout_of here ≡ running (is_set_up here) (waits es) = timeout_is here ∙ ap (running (is_set_up here)) (w ∙ sym v) in
    let s : since ≡ counts_from (running (is_set_up here) (waits es)) es = h ∙ ap (λ (x : Bool). counts_from (running (is_set_up here) x) es) (sym v) in
    ap (λ (x : ℕ). x + span_of (timeout_of here)) s ∙ ap (λ (x : Timeout). counts_from (running (is_set_up here) (waits es)) es + span_of x) t

free_counts : (b : Bool) (es : List Seen) (taken : ℕ) (here : Phase) (since : ℕ) → is_set_up here ≡ b → Free es taken here since → since ≡ counts_from (running (is_set_up here) false) es
free_counts true es taken here since e f = f.later e ∙ ap (λ (x : Bool). counts_from (running x false) es) (sym e)
free_counts false es taken here since e f = f.early e ∙ ap (λ (x : Bool). counts_from (running x false) es) (sym e)

waiting_counts : (es : List Seen) (here : Phase) (since : ℕ) → is_waiting here ≡ true → since ≡ closed_at es → since ≡ counts_from (running (is_set_up here) true) es
waiting_counts es here since w h = h ∙ ap (λ (x : Bool). counts_from (running x true) es) (sym (waiting_set_up here w))

session_is : (b : Bool) (es : List Seen) (ss : Session) → is_waiting ss.stage.row ≡ b → Link None es ss.stage.row ss.since ss.unread None None → IsSession es ss
session_is true es ss w l =
    let g = l.stands in
    let h = waits_in (Waiting es g.taken ss.since None) (Free es g.taken ss.stage.row ss.since) (is_waiting ss.stage.row) w g.talk in
    elim h.closed [
      | inl x ↦ absurd (none_close x)
      | inr x ↦ record {
        unread_is = g.unread_is ∙ ap (λ (n : ℕ). behind_frames n (stream es)) (h.count ∙ words_if (waits es) (length (replies es)) x.0);
        waiting_is = w ∙ sym x.0;
        due_is = counts_by ss.stage.row true es ss.since w x.0 (waiting_counts es ss.stage.row ss.since w x.1);
      }
    ]
session_is false es ss w l =
    let g = l.stands in
    let h = free_in (Waiting es g.taken ss.since None) (Free es g.taken ss.stage.row ss.since) (is_waiting ss.stage.row) w g.talk in
    record {
      unread_is = g.unread_is ∙ ap (λ (n : ℕ). behind_frames n (stream es)) (h.count ∙ words_not (waits es) (length (replies es)) h.still);
      waiting_is = w ∙ sym h.still;
      due_is = counts_by ss.stage.row false es ss.since w h.still (free_counts (is_set_up ss.stage.row) es g.taken ss.stage.row ss.since refl h);
    }

tie_is : (es : Option (List Seen)) (kept : Option Session) → Tie None es kept None None → IsSessionOf es kept
tie_is None None t = tt
tie_is None (Some ss) t = t
tie_is (Some es) None t = t
tie_is (Some es) (Some ss) t = session_is (is_waiting ss.stage.row) es ss refl t

pub done_session : (c : Codecs) (plan : PostPlan) (steps : List Step) → IsPostRun c plan steps → is_done (state plan steps).agenda ≡ true → IsSessionOf (session (map seen_of steps)) (state plan steps).session
done_session c plan steps run d = tie_is (session (map seen_of steps)) (state plan steps).session (empty_tie (map seen_of steps) (state plan steps) d (steps_tied c plan steps run))

pub sessions_are_read : (c : Codecs) → SessionsAreRead c
sessions_are_read c plan steps run quiet = done_session c plan steps run (quiet_done plan (state plan steps) quiet)
