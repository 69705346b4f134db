-- The tie is kept by every step.
use Rattle.std.proofs.Common.{◌≡◌, ◌≤◌, ℕ, suc, Bool, true, false, ◌&&◌, if◌then◌else◌, List, [], ◌∷◌, ◌++◌, length, map, Option, Some, None, refl, sym, ap, subst, ◌∙◌, arith, MatchBool}
use Rattle.std.specs.Option.{option_map}
use Rattle.charge_world.specs.declared.heard.PlantEvent.{PlantEvent}
use Rattle.charge_world.specs.declared.offer.Dialect.{Dialect}
use Rattle.charge_world.specs.declared.ports.Order.{Order}
use Rattle.charge_world.specs.declared.ports.Order.TheVariants as order
use Rattle.session_words.specs.declared.cause.EndCause.{EndCause}
use Rattle.session_words.specs.declared.cause.EndCause.TheVariants.{Gone as ConnectionGone, RunOver, SendFailed, OrderFailed}
use Rattle.session_words.specs.declared.facts.Facts.{Facts}
use Rattle.session_words.specs.declared.phase.Phase.{Phase}
use Rattle.session_words.specs.declared.plan.PostPlan.{PostPlan}
use Rattle.session_words.specs.declared.word.Reply.{Reply}
use Rattle.session_words.specs.declared.word.Request.{Request}
use Rattle.session_words.specs.declared.word.Word.{Word}
use Rattle.session_words.specs.declared.word.Word.TheVariants as word
use Rattle.v2gtp_frames.specs.Reading.{payload_at, behind_front, behind_frames}
use Rattle.session_rules.specs.declared.stage.Stage.{Stage}
use Rattle.session_rules.specs.Asks.{shows_watts}
use Rattle.session_rules.specs.Causes.{plant_cause}
use Rattle.session_rules.specs.Finishing.{is_ac, is_finished}
use Rattle.session_rules.specs.Moves.{stage_behind}
use Rattle.session_rules.specs.Reply.{tell_of, reply_to, waiting_reply}
use Rattle.session_rules.specs.Stages.{is_waiting, confirmed}
use Rattle.session_rules.specs.Verdict.{verdict, is_accepted}
use Rattle.post_spec.specs.Codecs.{Judged, Negotiated, Asked, WrongSide, Refused, Codecs, Judges, judged_word}
use Rattle.post_spec.specs.Kinds.{tell_watts}
use Rattle.post_spec.specs.Sessions.{arriving, session_behind, with_seen, session, stream, brought}
use Rattle.post_spec.specs.Spelled.{spelled_by, dropped_tell, read_back, ReadsBack}
use Rattle.post_spec.specs.Steps.{Event, Came, Bytes, Gone, Datagram, Plant, Clock, Over, Act, Give, Send, Answer, Seen, Heard, Did, Reading, Step, Hears, Does, seen_of}
use Rattle.post_spec.specs.Talk.{Exchange, Negotiation, Answered, dialect_of, IsExchange, InSession, OneMore, Unless, Talks}
use Rattle.post_spec.specs.Words.{IsPayloadAt}
use Rattle.station_spec.specs.States.{Spoken, Response, Said, Agenda, Session, State, Todo, nothing, first_session, is_done, is_none, first, first_of}
use Rattle.station_spec.specs.States as states
use Rattle.station_spec.specs.Deciding.{ending_in, repeating, timing, watch, confirms, confirming, charging_by, charging, eventing, fronting, decided}
use Rattle.station_spec.specs.Judging.{Payload, speaks, speaks_in, wanted, cause_by, chosen_stage, unmatched, judged, taken_in, read, filled, IsRead}
use Rattle.station_spec.specs.Hearing.{session_opened, with_bytes}
use Rattle.station_spec.specs.Acting.{since_order, replied, failing, agenda_said, acted, state}
use Rattle.station_spec.specs.Next.{IsSpoken, IsDone}
use Rattle.station_spec.specs.Sharing.{told_in, Shows}
use Rattle.station_laws.specs.PostRuns.{IsPostRun}
use Rattle.station_laws.proofs.Decided.{decided_by}
use Rattle.safe_runs.proofs.Growth.{AreWhole, grown, payload_stays}
use Rattle.read_runs.proofs.Agendas.{quiet_done, done_empty, say_is, chosen_first, repeating_silent, timing_silent, ending_silent, fronting_silent, IsWanted, WantedIn, wanted_in, wanted_done}
use Rattle.read_runs.proofs.Arrivals.{Arrives, steps_arrive}
use Rattle.read_runs.proofs.Facts.{steps_clock}
use Rattle.spelled_watts.specs.Spelling.{NegotiatesFirst}
use Rattle.spelled_watts.proofs.Links.{Asks, Owes, Free, Waits, Talk, Stands, Link, Tie, Tied}
use Rattle.spelled_watts.proofs.Places.{place_at, more_whole}
use Rattle.spelled_watts.proofs.Rows.{speaks_on, row_confirmed, row_stays, spoken_is}
use Rattle.spelled_watts.proofs.Shares.{said_by, opened_said, said, goes_behind}
use Rattle.spelled_watts.proofs.Watts.{tell_within}

-- nothing is owed behind what has no reply
rest_link : (c : Codecs) (plan : PostPlan) (past es : List Seen) (n : ℕ) (stage : Stage) (unread : List ℕ) (b e' b' : Option EndCause) → Link c plan past es n None stage unread None b → Link c plan past es n e' stage unread None b'
rest_link c plan past es n stage unread b None b' l =
    let g = l.stands in
    record { xs = l.xs; talks = l.talks; within = l.within; stands = record { taken = g.taken; whole = g.whole; unread_is = g.unread_is; talk = g.talk } }
rest_link c plan past es n stage unread b (Some k) b' l = record { xs = l.xs; talks = l.talks; within = l.within; stands = tt }

rest_tie : (c : Codecs) (plan : PostPlan) (past : List Seen) (n : ℕ) (es : Option (List Seen)) (kept : Option Session) (b e' b' : Option EndCause) → Tie c plan past n None es kept None b → Tie c plan past n e' es kept None b'
rest_tie c plan past n None None b e' b' t = t
rest_tie c plan past n None (Some ss) b e' b' t = t
rest_tie c plan past n (Some es) None b e' b' t = t
rest_tie c plan past n (Some es) (Some ss) b e' b' t = rest_link c plan past es n ss.stage ss.unread b e' b' t

silent_tie : (c : Codecs) (plan : PostPlan) (past : List Seen) (n : ℕ) (es : Option (List Seen)) (kept : Option Session) (b e' b' : Option EndCause) (r : Option Spoken) → r ≡ None → Tie c plan past n None es kept None b → Tie c plan past n e' es kept r b'
silent_tie c plan past n es kept b e' b' r h t = subst (λ (x : Option Spoken). Tie c plan past n e' es kept x b') (sym h) (rest_tie c plan past n es kept b e' b' t)

empty_tie : (c : Codecs) (plan : PostPlan) (past : List Seen) (n : ℕ) (s : State) → is_done s.agenda ≡ true → Tied c plan past n s → Tie c plan past n None (session past) s.session None s.agenda.behind_reply
empty_tie c plan past n s d t =
    let e = done_empty s.agenda d in
    subst (λ (x : Option EndCause). Tie c plan past n x (session past) s.session None s.agenda.behind_reply) e.ending
    (subst (λ (x : Option Spoken). Tie c plan past n s.agenda.ending (session past) s.session x s.agenda.behind_reply) e.reply t)

-- what is said in a dialect is read back
said_is : (c : Codecs) (plan : PostPlan) (heard : List ℕ) (xs : List Exchange) (r : Request) (reply : Reply) (d : Dialect) → ReadsBack c → Asks c heard xs r d → (past : List Seen) (bytes : List ℕ) → IsSpoken c (Said d reply) bytes
    → IsExchange c plan.dialects.items heard xs bytes past (Answered r (read_back reply) past)
said_is c plan heard [] r reply d back a past bytes s = let h = a.dialect_is in cc
said_is c plan heard (x ∷ xs) r reply d back a past bytes s = (
  record {
    spoken = d;
    payload = a.payload;
    text = s.0;
    dialect_is = a.dialect_is;
    asked = a.place;
    request_is = a.reads;
    reply_is = back d reply s.0 s.1;
    bytes_are = s.2;
  },
  refl,
)

-- the reply that waited
spells_no_more : (b : Bool) (x y n : ℕ) → b ≡ false → y ≤ n → (if b then x else y) ≤ n
spells_no_more true x y n e h = cc
spells_no_more false x y n e h = h

spells_at_most : (b : Bool) (x y n : ℕ) → b ≡ true → x ≤ n → (if b then x else y) ≤ n
spells_at_most true x y n e h = h
spells_at_most false x y n e h = cc

confirm_owes : (c : Codecs) (plan : PostPlan) (heard : List ℕ) (xs : List Exchange) (taken : ℕ) (stage : Stage) (facts : Facts) (behind : Option EndCause) → ReadsBack c → is_waiting stage.row ≡ true → Waits c plan heard xs taken stage
    → Owes c plan heard xs stage (Said stage.dialect (waiting_reply stage facts plan)) behind
confirm_owes c plan heard xs taken stage facts behind back w h =
    let k = row_confirmed stage.row stage.dialect w in
    record {
      exchange = λ past. Answered h.request (read_back (waiting_reply stage facts plan)) past;
      is = said_is c plan heard xs h.request (waiting_reply stage facts plan) stage.dialect back h.asks;
      within = λ past. spells_no_more (shows_watts h.request.ask) _ (spelled_by plan xs) stage.told h.plain h.within;
      goes = k.goes;
      talks = λ past b. (stage.dialect, h.asks.dialect_is, k.speaks);
    }

waits_in : (A B : Type 0) (b : Bool) → b ≡ true → MatchBool b A B → A
waits_in A B true e m = m
waits_in A B false e m = cc

free_in : (A B : Type 0) (b : Bool) → b ≡ false → MatchBool b A B → B
free_in A B true e m = cc
free_in A B false e m = m

waits_by : (A B : Type 0) (b : Bool) → b ≡ true → A → MatchBool b A B
waits_by A B true e a = a
waits_by A B false e a = cc

free_by : (A B : Type 0) (b : Bool) → b ≡ false → B → MatchBool b A B
free_by A B true e a = cc
free_by A B false e a = a

confirm_link : (c : Codecs) (plan : PostPlan) (past es : List Seen) (n : ℕ) (stage : Stage) (unread : List ℕ) (facts : Facts) (b b' : Option EndCause) → ReadsBack c → is_waiting stage.row ≡ true
    → Link c plan past es n None stage unread None b → Link c plan past es n None stage unread (Some (Said stage.dialect (waiting_reply stage facts plan))) b'
confirm_link c plan past es n stage unread facts b b' back w l =
    let g = l.stands in
    let h = waits_in (Waits c plan (stream es) l.xs g.taken stage) (Free plan l.xs g.taken stage) (is_waiting stage.row) w g.talk in
    record {
      xs = l.xs;
      talks = l.talks;
      within = l.within;
      stands = record {
        taken = g.taken;
        whole = g.whole;
        unread_is = g.unread_is;
        talk = (h.count, confirm_owes c plan (stream es) l.xs g.taken stage facts b' back w h);
      };
    }

abbrev Owed : Codecs → PostPlan → List Seen → ℕ → Option (List Seen) → Option Session → Agenda → Type 0
Owed c plan past n es kept a = Tie c plan past n a.ending es kept a.reply a.behind_reply

confirmed_if : (c : Codecs) (plan : PostPlan) (past : List Seen) (n : ℕ) (es : Option (List Seen)) (ss : Session) (s : State) (b : Option EndCause) (w k : Bool) → is_waiting ss.stage.row ≡ w → ReadsBack c → Tie c plan past n None es (Some ss) None b
    → Owed c plan past n es (Some ss) (if w && k then record nothing { reply = Some (Said ss.stage.dialect (waiting_reply ss.stage s.facts plan)) } else nothing)
confirmed_if c plan past n None ss s b w k e back t = absurd t
confirmed_if c plan past n (Some es) ss s b true true e back t = confirm_link c plan past es n ss.stage ss.unread s.facts b None back e t
confirmed_if c plan past n (Some es) ss s b true false e back t = rest_link c plan past es n ss.stage ss.unread b None None t
confirmed_if c plan past n (Some es) ss s b false k e back t = rest_link c plan past es n ss.stage ss.unread b None None t

charged_by : (c : Codecs) (plan : PostPlan) (past : List Seen) (n : ℕ) (es : Option (List Seen)) (ss : Session) (event : PlantEvent) (s : State) (b cause : Option EndCause) → ReadsBack c → Tie c plan past n None es (Some ss) None b
    → Owed c plan past n es (Some ss) (charging_by cause (confirming plan ss event s) s.live)
charged_by c plan past n es ss event s b (Some k) back t = rest_tie c plan past n es (Some ss) b (Some k) None t
charged_by c plan past n es ss event s b None back t = confirmed_if c plan past n es ss s b (is_waiting ss.stage.row) (confirms event) refl back t

charged : (c : Codecs) (plan : PostPlan) (past : List Seen) (n : ℕ) (es : Option (List Seen)) (kept : Option Session) (event : PlantEvent) (s : State) (b : Option EndCause) → ReadsBack c → Tie c plan past n None es kept None b → Owed c plan past n es kept (charging plan kept event s)
charged c plan past n es None event s b back t = rest_tie c plan past n es None b None None t
charged c plan past n es (Some ss) event s b back t = charged_by c plan past n es ss event s b (plant_cause (watch plan ss s) event) back t

silent_owed : (c : Codecs) (plan : PostPlan) (past : List Seen) (n : ℕ) (es : Option (List Seen)) (kept : Option Session) (b : Option EndCause) (a : Agenda) → a.reply ≡ None → Tie c plan past n None es kept None b → Owed c plan past n es kept a
silent_owed c plan past n es kept b a h t = silent_tie c plan past n es kept b a.ending a.behind_reply a.reply h t

evented : (c : Codecs) (plan : PostPlan) (past : List Seen) (n : ℕ) (es : Option (List Seen)) (e : Event) (s : State) (b : Option EndCause) → ReadsBack c → Tie c plan past n None es s.session None b → Owed c plan past n es s.session (eventing plan e s)
evented c plan past n es (Came token) s b back t = silent_owed c plan past n es s.session b (ending_in s.session ConnectionGone s.live) (ending_silent s.session ConnectionGone s.live) t
evented c plan past n es (Bytes bytes) s b back t = silent_owed c plan past n es s.session b nothing refl t
evented c plan past n es Gone s b back t = silent_owed c plan past n es s.session b (ending_in s.session ConnectionGone s.live) (ending_silent s.session ConnectionGone s.live) t
evented c plan past n es (Datagram bytes) s b back t = silent_owed c plan past n es s.session b (eventing plan (Datagram bytes) s) refl t
evented c plan past n es (Plant event) s b back t = charged c plan past n es s.session event s b back t
evented c plan past n es Clock s b back t = silent_owed c plan past n es s.session b nothing refl t
evented c plan past n es Over s b back t = silent_owed c plan past n es s.session b (ending_in s.session RunOver s.live) (ending_silent s.session RunOver s.live) t

decided_tied : (c : Codecs) (plan : PostPlan) (past : List Seen) (n : ℕ) (s : State) → ReadsBack c → Tied c plan past n s → Tied c plan past n (decided plan s)
decided_tied c plan past n s back t =
    decided_by (Tied c plan past n) plan s
    (λ d.
    let r = empty_tie c plan past n s d t in
    record {
      repeats = silent_owed c plan past n (session past) s.session s.agenda.behind_reply (repeating s.facts.contactor) (repeating_silent s.facts.contactor) r;
      times = silent_owed c plan past n (session past) s.session s.agenda.behind_reply (timing s.session s.clock s.live) (timing_silent s.session s.clock s.live) r;
      events = evented c plan past n (session past) s.event s s.agenda.behind_reply back r;
      fronts = silent_owed c plan past n (session past) s.session s.agenda.behind_reply (fronting s.session s.live) (fronting_silent s.session s.live) r;
    }) t

-- what is told behind a request, and where it leads
told_if : (b w : Bool) (s : Stage) (facts : Facts) (plan : PostPlan) (r : Request) (shown : ℕ) → is_accepted (verdict s facts plan r) ≡ b → shows_watts r.ask ≡ w → (stage_behind s facts plan r shown).told ≡ (if b && w then shown else s.told)
told_if true true s facts plan r shown e f = rw (e, f) refl
told_if true false s facts plan r shown e f = rw (e, f) refl
told_if false w s facts plan r shown e f = rw e refl

told_none : (b : Bool) (s : Stage) (facts : Facts) (plan : PostPlan) (r : Request) (shown : ℕ) → is_accepted (verdict s facts plan r) ≡ b → shows_watts r.ask ≡ false → (stage_behind s facts plan r shown).told ≡ s.told
told_none true s facts plan r shown e f = told_if true false s facts plan r shown e f
told_none false s facts plan r shown e f = told_if false false s facts plan r shown e f

dialect_if : (b : Bool) (s : Stage) (facts : Facts) (plan : PostPlan) (r : Request) (shown : ℕ) (e : Dialect) → is_accepted (verdict s facts plan r) ≡ b → speaks s ≡ Some e
    → speaks (stage_behind s facts plan r shown) ≡ Some e
dialect_if true s facts plan r shown e a h = rw a (speaks_on s.row r.ask (is_finished facts plan r.ask shown) (is_ac plan.mode) s.dialect e h)
dialect_if false s facts plan r shown e a h = rw a h

same_dialect : (b : Bool) (s : Stage) (facts : Facts) (plan : PostPlan) (r : Request) (shown : ℕ) → is_accepted (verdict s facts plan r) ≡ b → (stage_behind s facts plan r shown).dialect ≡ s.dialect
same_dialect true s facts plan r shown a = rw a refl
same_dialect false s facts plan r shown a = rw a refl

asked_within : (b w : Bool) (s : Stage) (facts : Facts) (plan : PostPlan) (r : Request) (shown : ℕ) (xs : List Exchange) (past : List Seen) → is_accepted (verdict s facts plan r) ≡ b → shows_watts r.ask ≡ w → spelled_by plan xs ≤ s.told
    → spelled_by plan (Answered r (read_back (reply_to s facts plan r shown)) past ∷ xs) ≤ (stage_behind s facts plan r shown).told
asked_within true true s facts plan r shown xs past e f h =
    let t = told_if true true s facts plan r shown e f in
    spells_at_most (shows_watts r.ask) _ (spelled_by plan xs) (stage_behind s facts plan r shown).told f
    (subst (λ (n : ℕ). tell_watts plan (dropped_tell (tell_of s facts plan (verdict s facts plan r) shown r.ask)) ≤ n) (sym t) (tell_within true s facts plan (verdict s facts plan r) shown r.ask e f))
asked_within false true s facts plan r shown xs past e f h =
    let t = told_if false true s facts plan r shown e f in
    spells_at_most (shows_watts r.ask) _ (spelled_by plan xs) (stage_behind s facts plan r shown).told f
    (subst (λ (n : ℕ). tell_watts plan (dropped_tell (tell_of s facts plan (verdict s facts plan r) shown r.ask)) ≤ n) (sym t) (tell_within false s facts plan (verdict s facts plan r) shown r.ask e f))
asked_within b false s facts plan r shown xs past e f h =
    let t = told_none b s facts plan r shown e f in
    spells_no_more (shows_watts r.ask) _ (spelled_by plan xs) (stage_behind s facts plan r shown).told f (subst (λ (n : ℕ). spelled_by plan xs ≤ n) (sym t) h)

-- a reply that goes at once
asked_owes : (c : Codecs) (plan : PostPlan) (heard : List ℕ) (xs : List Exchange) (stage : Stage) (facts : Facts) (r : Request) (shown : ℕ) (behind : Option EndCause) → ReadsBack c → Asks c heard xs r stage.dialect → speaks stage ≡ Some stage.dialect
    → spelled_by plan xs ≤ stage.told → is_waiting (stage_behind stage facts plan r shown).row ≡ false
    → Owes c plan heard xs (stage_behind stage facts plan r shown) (Said stage.dialect (reply_to stage facts plan r shown)) behind
asked_owes c plan heard xs stage facts r shown behind back a sp h w =
    let next = stage_behind stage facts plan r shown in
    let stays = row_stays next.row w in
    record {
      exchange = λ past. Answered r (read_back (reply_to stage facts plan r shown)) past;
      is = said_is c plan heard xs r (reply_to stage facts plan r shown) stage.dialect back a;
      within = λ past. asked_within (is_accepted (verdict stage facts plan r)) (shows_watts r.ask) stage facts plan r shown xs past refl refl h;
      goes = ap is_waiting stays ∙ w;
      talks = λ past b. (
        stage.dialect,
        a.dialect_is,
        ap (λ (x : Phase). speaks_in x next.dialect) stays ∙ dialect_if (is_accepted (verdict stage facts plan r)) stage facts plan r shown stage.dialect refl sp,
      );
    }

-- one that waits for the contactor
refused_row : (plan : PostPlan) (s : State) (ss : Session) (r : Request) (shown : ℕ) → is_accepted (verdict ss.stage s.facts plan r) ≡ false → (stage_behind ss.stage s.facts plan r shown).row ≡ ss.stage.row
refused_row plan s ss r shown e = rw e refl

not_shown : (w : Bool) (plan : PostPlan) (s : State) (ss : Session) (r : Request) (shown : ℕ) (b : Bool) → shows_watts r.ask ≡ w → is_accepted (verdict ss.stage s.facts plan r) ≡ b → is_waiting ss.stage.row ≡ false
    → is_waiting (stage_behind ss.stage s.facts plan r shown).row ≡ true → shows_watts r.ask ≡ false
not_shown false plan s ss r shown b f e w g = f
not_shown true plan s ss r shown true f e w g = let x : false ≡ true = sym (goes_behind plan s ss r shown e f w) ∙ g in cc
not_shown true plan s ss r shown false f e w g = let x : false ≡ true = sym (ap is_waiting (refused_row plan s ss r shown e) ∙ w) ∙ g in cc

asked_talk : (c : Codecs) (plan : PostPlan) (heard : List ℕ) (xs : List Exchange) (taken : ℕ) (s : State) (ss : Session) (r : Request) (shown : ℕ) (behind : Option EndCause) (w : Bool) → ReadsBack c → Asks c heard xs r ss.stage.dialect
    → Free plan xs taken ss.stage → speaks ss.stage ≡ Some ss.stage.dialect → is_waiting ss.stage.row ≡ false → is_waiting (stage_behind ss.stage s.facts plan r shown).row ≡ w
    → Talk c plan heard xs (suc taken) (stage_behind ss.stage s.facts plan r shown) (if w then None else Some (Said ss.stage.dialect (reply_to ss.stage s.facts plan r shown))) behind
asked_talk c plan heard xs taken s ss r shown behind true back a f sp g w =
    let next = stage_behind ss.stage s.facts plan r shown in
    let none = not_shown (shows_watts r.ask) plan s ss r shown (is_accepted (verdict ss.stage s.facts plan r)) refl refl g w in
    let told = told_none (is_accepted (verdict ss.stage s.facts plan r)) ss.stage s.facts plan r shown refl none in
    waits_by (Waits c plan heard xs (suc taken) next) (Free plan xs (suc taken) next) (is_waiting next.row) w
    (record {
      count = ap suc f.count;
      request = r;
      asks = subst (λ (d : Dialect). Asks c heard xs r d) (sym (same_dialect (is_accepted (verdict ss.stage s.facts plan r)) ss.stage s.facts plan r shown refl)) a;
      plain = none;
      within = subst (λ (n : ℕ). spelled_by plan xs ≤ n) (sym told) f.within;
    })
asked_talk c plan heard xs taken s ss r shown behind false back a f sp g w =
    (ap suc f.count, asked_owes c plan heard xs ss.stage s.facts r shown behind back a sp f.within w)

asked_stands : (c : Codecs) (plan : PostPlan) (heard : List ℕ) (xs : List Exchange) (taken : ℕ) (s : State) (ss : Session) (r : Request) (shown : ℕ) (ending behind : Option EndCause) (w : Bool) → ReadsBack c → Asks c heard xs r ss.stage.dialect
    → AreWhole (suc taken) heard → ss.unread ≡ behind_frames taken heard → Free plan xs taken ss.stage → speaks ss.stage ≡ Some ss.stage.dialect → is_waiting ss.stage.row ≡ false → is_waiting (stage_behind ss.stage s.facts plan r shown).row ≡ w
    → Stands c plan heard xs ending (stage_behind ss.stage s.facts plan r shown) (behind_front ss.unread) (if w then None else Some (Said ss.stage.dialect (reply_to ss.stage s.facts plan r shown))) behind
asked_stands c plan heard xs taken s ss r shown None behind w back a more u f sp g e = record {
  taken = suc taken;
  whole = more;
  unread_is = ap behind_front u;
  talk = asked_talk c plan heard xs taken s ss r shown behind w back a f sp g e;
}
asked_stands c plan heard xs taken s ss r shown (Some k) behind true back a more u f sp g e = tt
asked_stands c plan heard xs taken s ss r shown (Some k) behind false back a more u f sp g e = asked_owes c plan heard xs ss.stage s.facts r shown behind back a sp f.within e

-- the first response
chosen_waits : (stage : Stage) (chosen : Option Dialect) → is_waiting stage.row ≡ false → is_waiting (confirmed (chosen_stage stage chosen)).row ≡ false
chosen_waits stage None w = ap is_waiting (row_stays stage.row w) ∙ w
chosen_waits stage (Some d) w = refl

chosen_told : (stage : Stage) (chosen : Option Dialect) → (chosen_stage stage chosen).told ≡ stage.told
chosen_told stage None = refl
chosen_told stage (Some d) = refl

chosen_talks : (stage : Stage) (chosen : Option Dialect) (xs : List Exchange) → unmatched chosen ≡ None → (d : Dialect) × (dialect_of (Negotiation chosen ∷ xs) ≡ Some d) × (speaks (confirmed (chosen_stage stage chosen)) ≡ Some d)
chosen_talks stage None xs h = cc
chosen_talks stage (Some d) xs h = (d, refl, refl)

negotiates_is : (c : Codecs) (plan : PostPlan) (heard : List ℕ) (xs : List Exchange) (chosen : Option Dialect) (response payload : List ℕ) → xs ≡ [] → IsPayloadAt heard 0 payload → c.Negotiates plan.dialects.items payload (Negotiated chosen response)
    → (past : List Seen) (bytes : List ℕ) → IsSpoken c (Response response) bytes → IsExchange c plan.dialects.items heard xs bytes past (Negotiation chosen)
negotiates_is c plan heard xs chosen response payload none place neg past bytes s =
    subst (λ (ys : List Exchange). IsExchange c plan.dialects.items heard ys bytes past (Negotiation chosen)) (sym none)
    (record { payload = payload; response = response; first = place; judged = neg; bytes_are = s })

chosen_owes : (c : Codecs) (plan : PostPlan) (heard : List ℕ) (xs : List Exchange) (stage : Stage) (chosen : Option Dialect) (response payload : List ℕ) → xs ≡ [] → IsPayloadAt heard 0 payload → c.Negotiates plan.dialects.items payload (Negotiated chosen response)
    → is_waiting stage.row ≡ false → spelled_by plan xs ≤ stage.told → Owes c plan heard xs (chosen_stage stage chosen) (Response response) (unmatched chosen)
chosen_owes c plan heard xs stage chosen response payload none place neg w h = record {
  exchange = λ past. Negotiation chosen;
  is = negotiates_is c plan heard xs chosen response payload none place neg;
  within = λ past. subst (λ (n : ℕ). spelled_by plan xs ≤ n) (sym (chosen_told stage chosen)) h;
  goes = chosen_waits stage chosen w;
  talks = λ past b. chosen_talks stage chosen xs b;
}

-- what a payload is judged as
not_asked : (r : Request) (w : Option Word) → Asked r ≡ judged_word w → w ≡ Some (word.Request r)
not_asked r None e = cc
not_asked r (Some (word.Request q)) e = let s : r ≡ q = cc in ap (λ (x : Request). Some (word.Request x)) (sym s)
not_asked r (Some (word.Reply reply)) e = cc
not_asked r (Some word.Nothing) e = cc

asked_later : (c : Codecs) (offers : List Dialect) (o : Option Dialect) (payload : List ℕ) (r : Request) → NegotiatesFirst c → Judges c offers o payload (Asked r) → (d : Dialect) × (o ≡ Some d) × c.Reads d payload (Some (word.Request r))
asked_later c offers None payload r neg j = absurd (neg offers payload r j)
asked_later c offers (Some d) payload r neg j = (d, refl, subst (λ (w : Option Word). c.Reads d payload w) (not_asked r j.0 j.2) j.1)

-- a word that is read keeps the tie
judged_link : (c : Codecs) (plan : PostPlan) (past es : List Seen) (n k : ℕ) (s : State) (ss : Session) (p : Payload) (w : Judged) (shown : ℕ) (b : Option EndCause) → ReadsBack c → NegotiatesFirst c → IsWanted s ss k p → Judges c plan.dialects.items p.dialect p.bytes w
    → Link c plan past es n None ss.stage ss.unread None b → Tie c plan past n (judged plan s ss w shown).agenda.ending (Some es) (judged plan s ss w shown).session (judged plan s ss w shown).agenda.reply (judged plan s ss w shown).agenda.behind_reply
judged_link c plan past es n k s ss p (Negotiated chosen response) shown b back neg i j l =
    let g = l.stands in
    let f = free_in (Waits c plan (stream es) l.xs g.taken ss.stage) (Free plan l.xs g.taken ss.stage) (is_waiting ss.stage.row) i.goes g.talk in
    let q = chosen_first c plan.dialects.items p.dialect p.bytes chosen response j in
    let none = f.opening (sym i.dialect_is ∙ q.0) in
    let place = subst (λ (x : ℕ). IsPayloadAt (stream es) x (payload_at k ss.unread)) (f.count ∙ ap length none) (place_at k g.taken (stream es) ss.unread g.unread_is i.front) in
    let own = subst (λ (x : List ℕ). c.Negotiates plan.dialects.items x (Negotiated chosen response)) i.bytes_are q.1 in
    record {
      xs = l.xs;
      talks = l.talks;
      within = l.within;
      stands = record {
        taken = suc g.taken;
        whole = more_whole k g.taken (stream es) ss.unread g.unread_is i.front g.whole;
        unread_is = ap behind_front g.unread_is;
        talk = (ap suc f.count, chosen_owes c plan (stream es) l.xs ss.stage chosen response (payload_at k ss.unread) none place own i.goes f.within);
      };
    }
judged_link c plan past es n k s ss p (Asked r) shown b back neg i j l =
    let g = l.stands in
    let f = free_in (Waits c plan (stream es) l.xs g.taken ss.stage) (Free plan l.xs g.taken ss.stage) (is_waiting ss.stage.row) i.goes g.talk in
    let q = asked_later c plan.dialects.items p.dialect p.bytes r neg j in
    let said : speaks ss.stage ≡ Some q.0 = sym i.dialect_is ∙ q.1 in
    let same = spoken_is ss.stage.row ss.stage.dialect q.0 said in
    let own : speaks ss.stage ≡ Some ss.stage.dialect = said ∙ ap Some (sym same) in
    let asks : Asks c (stream es) l.xs r ss.stage.dialect = record {
      payload = payload_at k ss.unread;
      place = subst (λ (x : ℕ). IsPayloadAt (stream es) x (payload_at k ss.unread)) f.count (place_at k g.taken (stream es) ss.unread g.unread_is i.front);
      reads = subst (λ (x : List ℕ). c.Reads ss.stage.dialect x (Some (word.Request r))) i.bytes_are (subst (λ (d : Dialect). c.Reads d p.bytes (Some (word.Request r))) (sym same) q.2);
      dialect_is = f.dialect ∙ own;
    } in
    record {
      xs = l.xs;
      talks = l.talks;
      within = l.within;
      stands = asked_stands c plan (stream es) l.xs g.taken s ss r shown (cause_by ss.stage plan s r) None (is_waiting (stage_behind ss.stage s.facts plan r shown).row) back asks
          (more_whole k g.taken (stream es) ss.unread g.unread_is i.front g.whole) g.unread_is f own i.goes refl;
    }
judged_link c plan past es n k s ss p WrongSide shown b back neg i j l = record { xs = l.xs; talks = l.talks; within = l.within; stands = tt }
judged_link c plan past es n k s ss p Refused shown b back neg i j l = record { xs = l.xs; talks = l.talks; within = l.within; stands = tt }

judged_tied : (c : Codecs) (plan : PostPlan) (past : List Seen) (es : Option (List Seen)) (n k : ℕ) (s : State) (ss : Session) (p : Payload) (w : Judged) (shown : ℕ) (b : Option EndCause) → ReadsBack c → NegotiatesFirst c → IsWanted s ss k p → Judges c plan.dialects.items p.dialect p.bytes w
    → Tie c plan past n None es (Some ss) None b → Tie c plan past n (judged plan s ss w shown).agenda.ending es (judged plan s ss w shown).session (judged plan s ss w shown).agenda.reply (judged plan s ss w shown).agenda.behind_reply
judged_tied c plan past None n k s ss p w shown b back neg i j t = absurd t
judged_tied c plan past (Some es) n k s ss p w shown b back neg i j t = judged_link c plan past es n k s ss p w shown b back neg i j t

taken_tied : (c : Codecs) (plan : PostPlan) (past : List Seen) (n : ℕ) (s : State) (kept : Option Session) (p : Payload) (r : Reading) → ReadsBack c → NegotiatesFirst c → WantedIn s kept p → Judges c plan.dialects.items p.dialect p.bytes r.judged
    → Tie c plan past n None (session past) kept None s.agenda.behind_reply → Tied c plan past n (taken_in plan s kept r)
taken_tied c plan past n s None p r back neg i j t = absurd i
taken_tied c plan past n s (Some ss) p r back neg i j t = judged_tied c plan past (session past) n i.0 s ss p r.judged r.shown s.agenda.behind_reply back neg i.1 j t

read_tied : (c : Codecs) (plan : PostPlan) (S : ℕ → ℕ → Type 0) (past : List Seen) (n : ℕ) (s : State) (w : Option Payload) (r : Option Reading) → wanted s ≡ w → ReadsBack c → NegotiatesFirst c → IsRead c plan S s w r → Tied c plan past n s → Tied c plan past n (read plan s r)
read_tied c plan S past n s w None e back neg i t = t
read_tied c plan S past n s None (Some r) e back neg i t = absurd i
read_tied c plan S past n s (Some p) (Some r) e back neg i t =
    let x = wanted_in s p e in
    taken_tied c plan past n s s.session p r back neg x i.0 (empty_tie c plan past n s (wanted_done s s.session p x) t)

filled_tied : (c : Codecs) (plan : PostPlan) (S : ℕ → ℕ → Type 0) (past : List Seen) (n : ℕ) (s : State) (r : Option Reading) → ReadsBack c → NegotiatesFirst c → IsRead c plan S (decided plan s) (wanted (decided plan s)) r → Tied c plan past n s → Tied c plan past n (filled plan r s)
filled_tied c plan S past n s r back neg i t = read_tied c plan S past n (decided plan s) (wanted (decided plan s)) r refl back neg i (decided_tied c plan past n s back t)

-- an act that is no reply
moved_link : (c : Codecs) (plan : PostPlan) (past es : List Seen) (x : Seen) (n : ℕ) (ending : Option EndCause) (stage : Stage) (unread : List ℕ) (reply : Option Spoken) (behind : Option EndCause) → stream (x ∷ es) ≡ stream es
    → ((xs : List Exchange) → Talks c plan.dialects.items past xs → Talks c plan.dialects.items (x ∷ past) xs) → Link c plan past es n ending stage unread reply behind → Link c plan (x ∷ past) (x ∷ es) n ending stage unread reply behind
moved_link c plan past es x n ending stage unread reply behind same more l = record {
  xs = l.xs;
  talks = more l.xs l.talks;
  within = l.within;
  stands = subst (λ (heard : List ℕ). Stands c plan heard l.xs ending stage unread reply behind) (sym same) l.stands;
}

given_tie : (c : Codecs) (plan : PostPlan) (past : List Seen) (o : Order) (now n : ℕ) (ending : Option EndCause) (es : Option (List Seen)) (kept : Option Session) (reply : Option Spoken) (behind : Option EndCause) → Tie c plan past n ending es kept reply behind
    → Tie c plan (Did (Give o) true ∷ past) n ending (with_seen (Did (Give o) true) es) (option_map (since_order now o) kept) reply behind
given_tie c plan past o now n ending None None reply behind t = t
given_tie c plan past o now n ending None (Some ss) reply behind t = t
given_tie c plan past o now n ending (Some es) None reply behind t = t
given_tie c plan past order.Open now n ending (Some es) (Some ss) reply behind t = moved_link c plan past es (Did (Give order.Open) true) n ending ss.stage ss.unread reply behind refl (λ xs h. h) t
given_tie c plan past order.Close now n ending (Some es) (Some ss) reply behind t = moved_link c plan past es (Did (Give order.Close) true) n ending ss.stage ss.unread reply behind refl (λ xs h. h) t
given_tie c plan past (order.Limits voltage current watts) now n ending (Some es) (Some ss) reply behind t =
    moved_link c plan past es (Did (Give (order.Limits voltage current watts)) true) n ending ss.stage ss.unread reply behind refl (λ xs h. h) t

ended_link : (c : Codecs) (plan : PostPlan) (past es : List Seen) (n : ℕ) (e : Option EndCause) (k : EndCause) (stage : Stage) (unread : List ℕ) (r : Option Spoken) (b b' : Option EndCause) → Link c plan past es n e stage unread r b
    → Link c plan past es n (Some k) stage unread None b'
ended_link c plan past es n e k stage unread r b b' l = record { xs = l.xs; talks = l.talks; within = l.within; stands = tt }

failed_tie : (c : Codecs) (plan : PostPlan) (past : List Seen) (o : Order) (n : ℕ) (live : Bool) (ending : Option EndCause) (es : Option (List Seen)) (kept : Option Session) (reply : Option Spoken) (behind : Option EndCause) → Tie c plan past n ending es kept reply behind
    → Owed c plan (Did (Give o) false ∷ past) n (with_seen (Did (Give o) false) es) kept (failing ending kept OrderFailed live)
failed_tie c plan past o n live ending None None reply behind t = t
failed_tie c plan past o n live ending None (Some ss) reply behind t = absurd t
failed_tie c plan past o n live ending (Some es) None reply behind t = absurd t
failed_tie c plan past o n live None (Some es) (Some ss) reply behind t =
    ended_link c plan (Did (Give o) false ∷ past) (Did (Give o) false ∷ es) n None OrderFailed ss.stage ss.unread reply behind None (moved_link c plan past es (Did (Give o) false) n None ss.stage ss.unread reply behind refl (λ xs h. h) t)
failed_tie c plan past o n live (Some k) (Some es) (Some ss) reply behind t =
    ended_link c plan (Did (Give o) false ∷ past) (Did (Give o) false ∷ es) n (Some k) k ss.stage ss.unread reply behind None (moved_link c plan past es (Did (Give o) false) n (Some k) ss.stage ss.unread reply behind refl (λ xs h. h) t)

answered_tie : (c : Codecs) (plan : PostPlan) (past : List Seen) (d : List ℕ) (taken : Bool) (n : ℕ) (ending : Option EndCause) (es : Option (List Seen)) (kept : Option Session) (reply : Option Spoken) (behind : Option EndCause) → Tie c plan past n ending es kept reply behind
    → Tie c plan (Did (Answer d) taken ∷ past) n ending (with_seen (Did (Answer d) taken) es) kept reply behind
answered_tie c plan past d taken n ending None None reply behind t = t
answered_tie c plan past d taken n ending None (Some ss) reply behind t = t
answered_tie c plan past d taken n ending (Some es) None reply behind t = t
answered_tie c plan past d taken n ending (Some es) (Some ss) reply behind t = moved_link c plan past es (Did (Answer d) taken) n ending ss.stage ss.unread reply behind refl (λ xs h. h) t

-- a reply, taken or failed
owed_in : (c : Codecs) (plan : PostPlan) (heard : List ℕ) (xs : List Exchange) (ending : Option EndCause) (stage : Stage) (unread : List ℕ) (spoken : Spoken) (behind : Option EndCause) → Stands c plan heard xs ending stage unread (Some spoken) behind
    → Owes c plan heard xs stage spoken behind
owed_in c plan heard xs None stage unread spoken behind g = g.talk.1
owed_in c plan heard xs (Some k) stage unread spoken behind o = o

said_talks : (c : Codecs) (plan : PostPlan) (past es : List Seen) (bytes : List ℕ) (taken : Bool) (xs : List Exchange) (x : Exchange) → session past ≡ Some es → IsExchange c plan.dialects.items (stream es) xs bytes past x → Talks c plan.dialects.items past xs
    → Talks c plan.dialects.items (Did (Send bytes) taken ∷ past) (x ∷ xs)
said_talks c plan past es bytes taken xs x here is talks =
    subst (λ (o : Option (List Seen)). InSession o (λ zs. OneMore c plan.dialects.items zs past bytes (Talks c plan.dialects.items past) (x ∷ xs)) (x ∷ xs ≡ [])) (sym here)
    (record { newest = x; earlier = xs; xs_are = refl; is = is; before = talks })

none_talks : (c : Codecs) (plan : PostPlan) (past : List Seen) (bytes : List ℕ) (taken : Bool) → session past ≡ None → Talks c plan.dialects.items (Did (Send bytes) taken ∷ past) []
none_talks c plan past bytes taken here =
    let none : List Exchange = [] in
    subst (λ (o : Option (List Seen)). InSession o (λ zs. OneMore c plan.dialects.items zs past bytes (Talks c plan.dialects.items past) none) (none ≡ [])) (sym here) refl

-- behind a cause nothing more is tied
sent_link : (c : Codecs) (plan : PostPlan) (past es : List Seen) (bytes : List ℕ) (taken : Bool) (n : ℕ) (ending : Option EndCause) (stage next : Stage) (unread : List ℕ) (spoken : Spoken) (behind : Option EndCause) (k : EndCause) (b : Option EndCause) → session past ≡ Some es
    → IsSpoken c spoken bytes → Link c plan past es n ending stage unread (Some spoken) behind → Link c plan (Did (Send bytes) taken ∷ past) (Did (Send bytes) taken ∷ es) stage.told (Some k) next unread None b
sent_link c plan past es bytes taken n ending stage next unread spoken behind k b here s l =
    let o = owed_in c plan (stream es) l.xs ending stage unread spoken behind l.stands in
    record {
      xs = o.exchange past ∷ l.xs;
      talks = said_talks c plan past es bytes taken l.xs (o.exchange past) here (o.is past bytes s) l.talks;
      within = o.within past;
      stands = tt;
    }

some_none : (d : Dialect) (o : Option Dialect) → o ≡ Some d → o ≡ None → ⊥
some_none d o h k = let x : Some d ≡ None = sym h ∙ k in cc

goes_link : (c : Codecs) (plan : PostPlan) (past es : List Seen) (bytes : List ℕ) (n : ℕ) (stage : Stage) (unread : List ℕ) (spoken : Spoken) (b : Option EndCause) → session past ≡ Some es → IsSpoken c spoken bytes
    → Link c plan past es n None stage unread (Some spoken) None → Link c plan (Did (Send bytes) true ∷ past) (Did (Send bytes) true ∷ es) stage.told None (confirmed stage) unread None b
goes_link c plan past es bytes n stage unread spoken b here s l =
    let g = l.stands in
    let o = g.talk.1 in
    let d = o.talks past refl in
    record {
      xs = o.exchange past ∷ l.xs;
      talks = said_talks c plan past es bytes true l.xs (o.exchange past) here (o.is past bytes s) l.talks;
      within = o.within past;
      stands = record {
        taken = g.taken;
        whole = g.whole;
        unread_is = g.unread_is;
        talk = free_by (Waits c plan (stream es) (o.exchange past ∷ l.xs) g.taken (confirmed stage)) (Free plan (o.exchange past ∷ l.xs) g.taken (confirmed stage)) (is_waiting (confirmed stage).row) o.goes
            (record { count = g.talk.0; dialect = d.1 ∙ sym d.2; opening = λ h. absurd (some_none d.0 (speaks (confirmed stage)) d.2 h); within = o.within past });
      };
    }

sent_tie : (c : Codecs) (plan : PostPlan) (past : List Seen) (bytes : List ℕ) (n now : ℕ) (live : Bool) (a : Agenda) (e b : Option EndCause) (spoken : Spoken) (es : Option (List Seen)) (kept : Option Session) → a.ending ≡ e → session past ≡ es → IsSpoken c spoken bytes
    → Tie c plan past n e es kept (Some spoken) b → Owed c plan (Did (Send bytes) true ∷ past) (told_in kept) (with_seen (Did (Send bytes) true) es) (option_map (replied now) kept) (agenda_said b kept a live)
sent_tie c plan past bytes n now live a e b spoken None None f here s t = none_talks c plan past bytes true here
sent_tie c plan past bytes n now live a e b spoken None (Some ss) f here s t = absurd t
sent_tie c plan past bytes n now live a e b spoken (Some es) None f here s t = absurd t
sent_tie c plan past bytes n now live a e (Some k) spoken (Some es) (Some ss) f here s t = sent_link c plan past es bytes true n e ss.stage (confirmed ss.stage) ss.unread spoken (Some k) k None here s t
sent_tie c plan past bytes n now live a (Some k) None spoken (Some es) (Some ss) f here s t =
    subst (λ (x : Option EndCause). Link c plan (Did (Send bytes) true ∷ past) (Did (Send bytes) true ∷ es) ss.stage.told x (confirmed ss.stage) ss.unread None a.behind_reply) (sym f)
    (sent_link c plan past es bytes true n (Some k) ss.stage (confirmed ss.stage) ss.unread spoken None k a.behind_reply here s t)
sent_tie c plan past bytes n now live a None None spoken (Some es) (Some ss) f here s t =
    subst (λ (x : Option EndCause). Link c plan (Did (Send bytes) true ∷ past) (Did (Send bytes) true ∷ es) ss.stage.told x (confirmed ss.stage) ss.unread None a.behind_reply) (sym f)
    (goes_link c plan past es bytes n ss.stage ss.unread spoken a.behind_reply here s t)

unsent_tie : (c : Codecs) (plan : PostPlan) (past : List Seen) (bytes : List ℕ) (n : ℕ) (live : Bool) (e b : Option EndCause) (spoken : Spoken) (es : Option (List Seen)) (kept : Option Session) → session past ≡ es → IsSpoken c spoken bytes
    → Tie c plan past n e es kept (Some spoken) b → Owed c plan (Did (Send bytes) false ∷ past) (told_in kept) (with_seen (Did (Send bytes) false) es) kept (failing e kept SendFailed live)
unsent_tie c plan past bytes n live e b spoken None None here s t = none_talks c plan past bytes false here
unsent_tie c plan past bytes n live e b spoken None (Some ss) here s t = absurd t
unsent_tie c plan past bytes n live e b spoken (Some es) None here s t = absurd t
unsent_tie c plan past bytes n live None b spoken (Some es) (Some ss) here s t = sent_link c plan past es bytes false n None ss.stage ss.stage ss.unread spoken b SendFailed None here s t
unsent_tie c plan past bytes n live (Some k) b spoken (Some es) (Some ss) here s t = sent_link c plan past es bytes false n (Some k) ss.stage ss.stage ss.unread spoken b k None here s t

acted_tied : (c : Codecs) (plan : PostPlan) (past : List Seen) (n : ℕ) (s : State) (todo : Todo) (a : Act) (taken : Bool) → first s.agenda ≡ Some todo → IsDone c todo a taken → Tied c plan past n s → Tied c plan (Did a taken ∷ past) (said_by a (told_in s.session) n) (acted a taken s)
acted_tied c plan past n s (states.Tell d) a taken f i t =
    subst (λ (x : Act). Tied c plan (Did x taken ∷ past) (said_by x (told_in s.session) n) (acted x taken s)) (sym i) (answered_tie c plan past d taken n s.agenda.ending (session past) s.session s.agenda.reply s.agenda.behind_reply t)
acted_tied c plan past n s (states.Give o) a true f i t =
    subst (λ (x : Act). Tied c plan (Did x true ∷ past) (said_by x (told_in s.session) n) (acted x true s)) (sym i) (given_tie c plan past o s.clock n s.agenda.ending (session past) s.session s.agenda.reply s.agenda.behind_reply t)
acted_tied c plan past n s (states.Give o) a false f i t =
    subst (λ (x : Act). Tied c plan (Did x false ∷ past) (said_by x (told_in s.session) n) (acted x false s)) (sym i) (failed_tie c plan past o n _ s.agenda.ending (session past) s.session s.agenda.reply s.agenda.behind_reply t)
acted_tied c plan past n s (states.Say spoken) a true f i t =
    let r = (say_is s.agenda.datagram s.agenda.order s.agenda.reply s.agenda.ending spoken f).0 in
    subst (λ (x : Act). Tied c plan (Did x true ∷ past) (said_by x (told_in s.session) n) (acted x true s)) (sym i.2)
    (sent_tie c plan past i.0 n s.clock s.live s.agenda s.agenda.ending s.agenda.behind_reply spoken (session past) s.session refl refl i.1
    (subst (λ (x : Option Spoken). Tie c plan past n s.agenda.ending (session past) s.session x s.agenda.behind_reply) r t))
acted_tied c plan past n s (states.Say spoken) a false f i t =
    let r = (say_is s.agenda.datagram s.agenda.order s.agenda.reply s.agenda.ending spoken f).0 in
    subst (λ (x : Act). Tied c plan (Did x false ∷ past) (said_by x (told_in s.session) n) (acted x false s)) (sym i.2)
    (unsent_tie c plan past i.0 n s.live s.agenda.ending s.agenda.behind_reply spoken (session past) s.session refl i.1
    (subst (λ (x : Option Spoken). Tie c plan past n s.agenda.ending (session past) s.session x s.agenda.behind_reply) r t))
acted_tied c plan past n s (states.Finish cause) a taken f i t = subst (λ (x : Act). Tied c plan (Did x taken ∷ past) (said_by x (told_in s.session) n) (acted x taken s)) (sym i.0) refl

-- a hearing
still : (c : Codecs) (plan : PostPlan) (past : List Seen) (at : ℕ) (e : Event) → arriving past ≡ None → (xs : List Exchange) → Talks c plan.dialects.items past xs → Talks c plan.dialects.items (Heard at e ∷ past) xs
still c plan past at e h xs t = subst (λ (x : Option Seen). Unless x (Talks c plan.dialects.items past xs) (xs ≡ [])) (sym h) t

heard_talk : (c : Codecs) (plan : PostPlan) (heard more : List ℕ) (xs : List Exchange) (taken : ℕ) (stage : Stage) (b : Bool) → AreWhole taken heard → MatchBool b (Waits c plan heard xs taken stage) (Free plan xs taken stage)
    → MatchBool b (Waits c plan (heard ++ more) xs taken stage) (Free plan xs taken stage)
heard_talk c plan heard more xs taken stage true w h =
    let a = h.asks in
    let first = subst (λ (n : ℕ). AreWhole n heard) h.count w in
    record {
      count = h.count;
      request = h.request;
      asks = record { payload = a.payload; place = payload_stays (length xs) heard more a.payload first.0 a.place; reads = a.reads; dialect_is = a.dialect_is };
      plain = h.plain;
      within = h.within;
    }
heard_talk c plan heard more xs taken stage false w h = h

heard_link : (c : Codecs) (plan : PostPlan) (past es : List Seen) (at : ℕ) (e : Event) (n : ℕ) (stage : Stage) (unread : List ℕ) (b : Option EndCause)
    → ((xs : List Exchange) → Talks c plan.dialects.items past xs → Talks c plan.dialects.items (Heard at e ∷ past) xs) → Link c plan past es n None stage unread None b
    → Link c plan (Heard at e ∷ past) (Heard at e ∷ es) n None stage (unread ++ brought e) None None
heard_link c plan past es at e n stage unread b more l =
    let g = l.stands in
    let k = grown g.taken (stream es) (brought e) g.whole in
    record {
      xs = l.xs;
      talks = more l.xs l.talks;
      within = l.within;
      stands = record {
        taken = g.taken;
        whole = k.whole;
        unread_is = ap (λ (x : List ℕ). x ++ brought e) g.unread_is ∙ sym k.behind;
        talk = heard_talk c plan (stream es) (brought e) l.xs g.taken stage (is_waiting stage.row) g.whole g.talk;
      };
    }

heard_tie : (c : Codecs) (plan : PostPlan) (past : List Seen) (at clock : ℕ) (e : Event) (n : ℕ) (arrived : Option ℕ) (o : Option Seen) (es : Option (List Seen)) (kept : Option Session) (b : Option EndCause) → arriving past ≡ o → Arrives arrived o clock → Tie c plan past n None es kept None b
    → Tie c plan (Heard at e ∷ past) (opened_said arrived n) None (with_seen (Heard at e) (session_behind o es)) (option_map (with_bytes (brought e)) (session_opened arrived clock kept)) None None
heard_tie c plan past at clock e n None None None None b h a t = still c plan past at e h [] t
heard_tie c plan past at clock e n None None None (Some ss) b h a t = t
heard_tie c plan past at clock e n None None (Some es) None b h a t = t
heard_tie c plan past at clock e n None None (Some es) (Some ss) b h a t = heard_link c plan past es at e n ss.stage ss.unread b (still c plan past at e h) t
heard_tie c plan past at clock e n None (Some came) es kept b h a t = absurd a
heard_tie c plan past at clock e n (Some token) None es kept b h a t = absurd a
heard_tie c plan past at clock e n (Some token) (Some came) es kept b h a t =
    let none : List Exchange = [] in
    subst (λ (x : Seen). Link c plan (Heard at e ∷ past) (Heard at e ∷ x ∷ []) 0 None (first_session token clock).stage ([] ++ brought e) None None) (sym a)
    (record {
      xs = [];
      talks = subst (λ (x : Option Seen). Unless x (Talks c plan.dialects.items past none) (none ≡ [])) (sym h) refl;
      within = omega arith;
      stands = record { taken = 0; whole = tt; unread_is = refl; talk = record { count = refl; dialect = refl; opening = λ x. refl; within = omega arith } };
    })

pub steps_tied : (c : Codecs) (plan : PostPlan) (steps : List Step) → ReadsBack c → NegotiatesFirst c → IsPostRun c plan steps → Tied c plan (map seen_of steps) (said plan steps) (state plan steps)
steps_tied c plan [] back neg run = refl
steps_tied c plan (Hears at e ∷ steps) back neg (run, quiet) =
    let past = map seen_of steps in
    let s = state plan steps in
    let arrives : Arrives s.arrived (arriving past) s.clock = subst (Arrives s.arrived (arriving past)) (sym (steps_clock plan steps)) (steps_arrive plan steps) in
    heard_tie c plan past at s.clock e (said plan steps) s.arrived (arriving past) (session past) s.session s.agenda.behind_reply refl arrives
    (empty_tie c plan past (said plan steps) s (quiet_done plan s quiet) (steps_tied c plan steps back neg run))
steps_tied c plan (Does r a taken ∷ steps) back neg (run, (limit, before, behind, acts)) =
    let past = map seen_of steps in
    let s = state plan steps in
    acted_tied c plan past (said plan steps) (filled plan r s) acts.todo a taken acts.acts acts.done
    (filled_tied c plan (Shows limit before behind) past (said plan steps) s r back neg acts.read (steps_tied c plan steps back neg run))
