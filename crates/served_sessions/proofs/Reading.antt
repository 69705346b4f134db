-- A word of a conforming car gives its session a cause only where it is SessionStop.
use Rattle.std.proofs.Common.{◌≡◌, ◌≤◌, ℕ, ℤ, Bool, true, false, if◌then◌else◌, List, length, map, Option, Some, None, is_some, unwrap_or, Ok, refl, sym, ap, subst, ◌∙◌, arith, inl}
use Rattle.charge_world.specs.declared.offer.Dialect.{Dialect}
use Rattle.charge_world.specs.declared.ports.Order.{Order}
use Rattle.charge_world.specs.declared.ports.Order.TheVariants as order
use Rattle.session_words.specs.declared.cause.EndCause.{EndCause}
use Rattle.session_words.specs.declared.cause.EndCause.TheVariants.{Stopped, Paused}
use Rattle.session_words.specs.declared.amount.Amount.{Amount}
use Rattle.session_words.specs.declared.code.Code.{Code}
use Rattle.session_words.specs.declared.code.Progress.TheVariants as progress
use Rattle.session_words.specs.declared.facts.Facts.{Facts}
use Rattle.session_words.specs.declared.phase.Phase.{Phase}
use Rattle.session_words.specs.declared.phase.Phase.TheVariants as row
use Rattle.session_words.specs.declared.plan.PostPlan.{PostPlan}
use Rattle.session_words.specs.declared.session.SessionId.{SessionId}
use Rattle.session_words.specs.declared.word.Ask.{Ask}
use Rattle.session_words.specs.declared.word.Ask.TheVariants as ask
use Rattle.session_words.specs.declared.word.Reply.{Reply}
use Rattle.session_words.specs.declared.word.Request.{Request}
use Rattle.session_words.specs.declared.word.Word.{Word}
use Rattle.session_words.specs.declared.word.Word.TheVariants as word
use Rattle.v2gtp_frames.specs.Reading.{whole_at, payload_at}
use Rattle.session_rules.specs.declared.stage.Stage.{Stage}
use Rattle.session_rules.specs.Causes.{found_by, word_cause}
use Rattle.session_rules.specs.Finishing.{is_ac, is_finished}
use Rattle.session_rules.specs.Moves.{stage_behind}
use Rattle.session_rules.specs.Orders.{order_of}
use Rattle.session_rules.specs.Reply.{reply_to}
use Rattle.session_rules.specs.Rows.{leads, may_stop}
use Rattle.session_rules.specs.Stages.{is_waiting}
use Rattle.session_rules.specs.Verdict.{verdict, is_accepted}
use Rattle.post_spec.specs.Codecs.{Judged, Negotiated, Asked, WrongSide, Refused, Codecs, Judges, judged_word}
use Rattle.post_spec.specs.Course.{Talked, Course, course, facts_of}
use Rattle.post_spec.specs.Kinds.{asks_start}
use Rattle.post_spec.specs.Sessions.{session, stream, replies}
use Rattle.post_spec.specs.Steps.{Seen, Reading, Step, seen_of}
use Rattle.post_spec.specs.Words.{IsPayloadAt}
use Rattle.station_spec.specs.States.{Spoken, Said, Agenda, Session, State}
use Rattle.station_spec.specs.Deciding.{opening_if, decided}
use Rattle.station_spec.specs.Judging.{Payload, speaks, speaks_in, wanted, order_by, cause_by, asked_agenda, asked_session, judged, taken_in, read, filled, IsRead}
use Rattle.station_spec.specs.Acting.{state}
use Rattle.station_laws.proofs.Decided.{same_session, same_facts}
use Rattle.safe_runs.proofs.Asked.{ok_class, found_accepted, row_takes}
use Rattle.safe_runs.proofs.Links.{Asks, Link, Tie, Clear}
use Rattle.safe_runs.proofs.Parts.{Planned}
use Rattle.safe_runs.proofs.Words.{Free, free}
use Rattle.read_runs.specs.Courses.{talked_of, talked_in, IsCourse}
use Rattle.read_runs.proofs.Agendas.{done_empty, IsWanted, WantedIn, wanted_in, wanted_done}
use Rattle.conforming_runs.specs.Conforming as conforming
use Rattle.conforming_runs.proofs.Accepted.{requests_are_accepted}
use Rattle.served_sessions.proofs.Ready.{Owes, Stops, Other, Others, words_before, EarlyIn, Ready}

none_close : None ≡ Some order.Close → ⊥
none_close h = cc

-- each word before the newest hearing is answered as a word is read
abbrev pub Read : Option (List Seen) → Type 0
Read lives = (es : List Seen) → lives ≡ Some es → words_before es ≤ length (replies es)

read_now : {Owed : Type 0} (c : Codecs) (plan : PostPlan) (past : List Seen) (t : State) (ss : Session) (n : ℕ) (p : Payload) → Ready c plan Owed past t → IsWanted t ss n p → t.session ≡ Some ss → Read (session past)
read_now c plan past t ss n p r i k es l = (r.early es ss l k).free i.goes (done_empty t.agenda i.done).reply

early_read : (lives : Option (List Seen)) (kept : Option Session) (a : Agenda) → Read lives → EarlyIn lives kept a
early_read lives kept a r es ss l k = let h = r es l in record { within = omega (arith, h); free = λ w e. h; closing = λ o. h }

-- SessionStop.

link_in : (c : Codecs) (plan : PostPlan) (past : List Seen) (lives : Option (List Seen)) (kept : Option Session) (ss : Session) → kept ≡ Some ss → Tie c plan past None lives kept None None (Unit {0})
    → (es : List Seen) × (lives ≡ Some es) × Link c plan past es ss.stage ss.unread None None (Unit {0})
link_in c plan past lives None ss k t = cc
link_in c plan past None (Some ts) ss k t = absurd t
link_in c plan past (Some es) (Some ts) ss k t =
    let x : ts ≡ ss = cc in (es, refl, subst (λ (u : Session). Link c plan past es u.stage u.unread None None (Unit {0})) x t)

word_is : (r : Request) (w : Option Word) → Asked r ≡ judged_word w → w ≡ Some (word.Request r)
word_is r None e = cc
word_is r (Some (word.Request q)) e = let s : r ≡ q = cc in ap (λ (x : Request). Some (word.Request x)) (sym s)
word_is r (Some (word.Reply reply)) e = cc
word_is r (Some word.Nothing) e = cc

takes_dialect : (here : Phase) (a : Ask) (d : Dialect) → is_some (leads here a true true) ≡ true → speaks_in here d ≡ Some d
takes_dialect row.Connected (ask.SessionStop pause) d h = cc
takes_dialect row.Connected a d h = cc
takes_dialect here a d h = refl

spoken_row : (stage : Stage) (facts : Facts) (plan : PostPlan) (r : Request) → is_accepted (verdict stage facts plan r) ≡ true → speaks stage ≡ Some stage.dialect
spoken_row stage facts plan r ok = takes_dialect stage.row r.ask stage.dialect (row_takes stage facts plan r ok)

-- the request that is the next word
asks_next : (c : Codecs) (plan : PostPlan) (past es : List Seen) (t : State) (ss : Session) (n : ℕ) (p : Payload) (r : Request) (l : Link c plan past es ss.stage ss.unread None None (Unit {0})) → Free c plan past es ss.stage ss.unread l → IsWanted t ss n p
    → Judges c plan.dialects.items p.dialect p.bytes (Asked r) → is_accepted (verdict ss.stage t.facts plan r) ≡ true → Asks c (stream es) l.xs r ss.stage.dialect
asks_next c plan past es t ss n p r l f i j ok =
    let sp = spoken_row ss.stage t.facts plan r ok in
    let k = subst (λ (d : Option Dialect). Judges c plan.dialects.items d p.bytes (Asked r)) (i.dialect_is ∙ sp) j in
    let m = subst (λ (bytes : List ℕ). Judges c plan.dialects.items (Some ss.stage.dialect) bytes (Asked r)) i.bytes_are k in
    let place : IsPayloadAt (stream es) l.taken (payload_at n ss.unread) = record {
      count = n;
      whole = subst (λ (x : List ℕ). whole_at x ≡ Ok (Some n)) l.unread_is i.front;
      payload_is = ap (payload_at n) l.unread_is;
    } in
    record {
      payload = payload_at n ss.unread;
      place = subst (λ (k : ℕ). IsPayloadAt (stream es) k (payload_at n ss.unread)) f.count place;
      reads = subst (λ (x : Option Word). c.Reads ss.stage.dialect (payload_at n ss.unread) x) (word_is r m.0 m.2) m.1;
      dialect_is = f.rowed.dialect ∙ sp;
    }

stays : (b : Bool) (here : Phase) → unwrap_or (if b then Some here else None) here ≡ here
stays true here = refl
stays false here = refl

stop_row : (stage : Stage) (facts : Facts) (plan : PostPlan) (name : SessionId) (pause : Bool) (shown : ℕ) → is_accepted (verdict stage facts plan (record { session = name; ask = ask.SessionStop pause })) ≡ true
    → (stage_behind stage facts plan (record { session = name; ask = ask.SessionStop pause }) shown).row ≡ stage.row
stop_row stage facts plan name pause shown ok = rw ok (stays (may_stop stage.row) stage.row)

stop_cause : (x : Code) (pause : Bool) → is_accepted x ≡ true → word_cause false (found_by x (ask.SessionStop pause)) ≡ Some (if pause then Paused else Stopped)
stop_cause x pause ok = rw ok refl

said_if : (b : Bool) (x : Option Spoken) → b ≡ false → (if b then None else x) ≡ x
said_if true x e = cc
said_if false x e = refl

stops_by : (c : Codecs) (plan : PostPlan) (past : List Seen) (e : Option EndCause) (r : Option Spoken) (k : EndCause) (d : Dialect) (reply : Reply) → e ≡ Some k → r ≡ Some (Said d reply) → Owes c plan past k d reply → Stops c plan past e r
stops_by c plan past e r k d reply x y o = subst (λ (z : Option EndCause). Stops c plan past z r) (sym x) (subst (λ (z : Option Spoken). Stops c plan past (Some k) z) (sym y) o)

stops_asked : (c : Codecs) (plan : PostPlan) (past : List Seen) (t : State) (ss : Session) (n : ℕ) (p : Payload) (name : SessionId) (a : Ask) (shown : ℕ) → t.session ≡ Some ss → Clear c plan past t → IsWanted t ss n p
    → Judges c plan.dialects.items p.dialect p.bytes (Asked (record { session = name; ask = a })) → is_accepted (verdict ss.stage t.facts plan (record { session = name; ask = a })) ≡ true
    → Stops c plan past (asked_agenda ss plan t (record { session = name; ask = a }) shown).ending (asked_agenda ss plan t (record { session = name; ask = a }) shown).reply
stops_asked c plan past t ss n p name (ask.SessionStop pause) shown k l i j ok =
    let r : Request = record { session = name; ask = ask.SessionStop pause } in
    let m = link_in c plan past (session past) t.session ss k l.tie in
    let f = free c plan past m.0 ss.stage ss.unread m.2 i.goes in
    let goes : is_waiting (stage_behind ss.stage t.facts plan r shown).row ≡ false = ap is_waiting (stop_row ss.stage t.facts plan name pause shown ok) ∙ i.goes in
    stops_by c plan past (asked_agenda ss plan t r shown).ending (asked_agenda ss plan t r shown).reply (if pause then Paused else Stopped) ss.stage.dialect (reply_to ss.stage t.facts plan r shown)
    (stop_cause (verdict ss.stage t.facts plan r) pause ok)
    (said_if (is_waiting (stage_behind ss.stage t.facts plan r shown).row) (Some (Said ss.stage.dialect (reply_to ss.stage t.facts plan r shown))) goes)
    (record {
      es = m.0;
      session_is = m.1;
      still = f.still;
      xs = m.2.xs;
      answered = record { talks = m.2.talks; ok = m.2.ok };
      request = r;
      asks = asks_next c plan past m.0 t ss n p r m.2 f i j ok;
      ok = ok_class (verdict ss.stage t.facts plan r) ok;
      pause = pause;
      stop = refl;
      cause_is = refl;
    })
stops_asked c plan past t ss n p name a shown k l i j ok =
    let e = found_accepted (verdict ss.stage t.facts plan (record { session = name; ask = a })) a (λ h. h) ok in
    subst (λ (x : Option EndCause). Stops c plan past x (asked_agenda ss plan t (record { session = name; ask = a }) shown).reply) (sym e) tt

-- a request whose reply doesn't wait

start_waits : (here : Phase) (tuple : Option ℤ) (profile : Option Amount) (finished ac : Bool) → is_some (leads here (ask.PowerDelivery progress.Start tuple profile) true true) ≡ true
    → is_waiting (unwrap_or (leads here (ask.PowerDelivery progress.Start tuple profile) finished ac) here) ≡ true
start_waits row.DcPreCharging tuple profile finished ac h = refl
start_waits row.AcReady tuple profile finished ac h = refl
start_waits here tuple profile finished ac h = cc

true_not : true ≡ false → ⊥
true_not h = cc

other_ask : (stage : Stage) (facts : Facts) (plan : PostPlan) (name : SessionId) (a : Ask) (shown : ℕ) → is_accepted (verdict stage facts plan (record { session = name; ask = a })) ≡ true
    → is_waiting (stage_behind stage facts plan (record { session = name; ask = a }) shown).row ≡ false → asks_start a ≡ false
other_ask stage facts plan name (ask.PowerDelivery progress.Start tuple profile) shown ok w =
    let r : Request = record { session = name; ask = ask.PowerDelivery progress.Start tuple profile } in
    let s = start_waits stage.row tuple profile (is_finished facts plan r.ask shown) (is_ac plan.mode) (row_takes stage facts plan r ok) in
    let m : is_waiting (stage_behind stage facts plan r shown).row ≡ true = rw ok s in
    absurd (true_not (sym m ∙ w))
other_ask stage facts plan name a shown ok w = refl

other_asked : (c : Codecs) (plan : PostPlan) (past : List Seen) (t : State) (ss : Session) (n : ℕ) (p : Payload) (name : SessionId) (a : Ask) (shown : ℕ) → t.session ≡ Some ss → Clear c plan past t → IsWanted t ss n p
    → Judges c plan.dialects.items p.dialect p.bytes (Asked (record { session = name; ask = a })) → is_accepted (verdict ss.stage t.facts plan (record { session = name; ask = a })) ≡ true
    → is_waiting (stage_behind ss.stage t.facts plan (record { session = name; ask = a }) shown).row ≡ false → Other c plan past ss.stage.dialect (reply_to ss.stage t.facts plan (record { session = name; ask = a }) shown)
other_asked c plan past t ss n p name a shown k l i j ok w =
    let r : Request = record { session = name; ask = a } in
    let m = link_in c plan past (session past) t.session ss k l.tie in
    let f = free c plan past m.0 ss.stage ss.unread m.2 i.goes in
    record {
      es = m.0;
      session_is = m.1;
      xs = m.2.xs;
      answered = record { talks = m.2.talks; ok = m.2.ok };
      request = r;
      asks = asks_next c plan past m.0 t ss n p r m.2 f i j ok;
      ok = ok_class (verdict ss.stage t.facts plan r) ok;
      other = other_ask ss.stage t.facts plan name a shown ok w;
    }

others_if : (c : Codecs) (plan : PostPlan) (past : List Seen) (kept : Option Session) (b : Bool) (d : Dialect) (reply : Reply) → ((ss : Session) → kept ≡ Some ss → is_waiting ss.stage.row ≡ false → Other c plan past d reply)
    → Others c plan past kept (if b then None else Some (Said d reply))
others_if c plan past kept true d reply f = tt
others_if c plan past kept false d reply f = f

opens_not : (live : Bool) → opening_if live ≡ Some order.Close → ⊥
opens_not true h = cc
opens_not false h = cc

opens_by : (cause : Option EndCause) (live : Bool) (o : Option Order) → order_by cause live o ≡ Some order.Close → cause ≡ None
opens_by None live o h = refl
opens_by (Some k) live o h = absurd (opens_not live h)

unsaid_if : (b : Bool) (x : Option Spoken) → b ≡ true → (if b then None else x) ≡ None
unsaid_if true x e = refl
unsaid_if false x e = cc

row_of : (ss ts : Session) (b : Bool) → Some ss ≡ Some ts → is_waiting ts.stage.row ≡ b → is_waiting ss.stage.row ≡ b
row_of ss ts b k w = let x : ss ≡ ts = cc in subst (λ (q : Session). is_waiting q.stage.row ≡ b) (sym x) w

-- a word that was judged
word_ready : {Owed : Type 0} (c : Codecs) (plan : PostPlan) (steps : List Step) (far : Course) (t : State) (ss : Session) (n : ℕ) (p : Payload) (w : Judged) (shown : ℕ) → Ready c plan Owed (map seen_of steps) t → Clear c plan (map seen_of steps) t → IsWanted t ss n p → t.session ≡ Some ss
    → Judges c plan.dialects.items p.dialect p.bytes w → conforming.IsWord plan steps far (talked_of ss) w → t.facts ≡ facts_of (map seen_of steps) far → Ready c plan Owed (map seen_of steps) (judged plan t ss w shown)
word_ready c plan steps far t ss n p (Negotiated None response) shown r l i k j conf f = absurd (let x : false ≡ true = conf in cc)
word_ready c plan steps far t ss n p (Negotiated (Some dialect) response) shown r l i k j conf f =
    let past = map seen_of steps in
    let u = judged plan t ss (Negotiated (Some dialect) response) shown in
    record {
      matched = refl;
      stops = tt;
      opens = λ h. refl;
      worded = inl refl;
      unsaid = λ ts m w. absurd (let x = row_of _ ts true m w in let y : false ≡ true = x in cc);
      others = tt;
      early = early_read (session past) u.session u.agenda (read_now c plan past t ss n p r i k);
    }
word_ready c plan steps far t ss n p (Asked r) shown ready l i k j conf f =
    let past = map seen_of steps in
    let u = judged plan t ss (Asked r) shown in
    let ok : is_accepted (verdict ss.stage t.facts plan r) ≡ true = ap (λ (x : Facts). is_accepted (verdict ss.stage x plan r)) f ∙ requests_are_accepted ss.stage (facts_of past far) plan r conf in
    record {
      matched = refl;
      stops = stops_asked c plan past t ss n p r.session r.ask shown k l i j ok;
      opens = λ h. opens_by (cause_by ss.stage plan t r) t.live (order_of ss.stage t.facts plan r shown) h;
      worded = inl refl;
      unsaid = λ ts m w. inl (unsaid_if (is_waiting (stage_behind ss.stage t.facts plan r shown).row) (Some (Said ss.stage.dialect (reply_to ss.stage t.facts plan r shown))) (row_of (asked_session ss plan t r shown) ts true m w));
      others = others_if c plan past u.session (is_waiting (stage_behind ss.stage t.facts plan r shown).row) ss.stage.dialect (reply_to ss.stage t.facts plan r shown)
          (λ ts m w. other_asked c plan past t ss n p r.session r.ask shown k l i j ok (row_of (asked_session ss plan t r shown) ts false m w));
      early = early_read (session past) u.session u.agenda (read_now c plan past t ss n p ready i k);
    }
word_ready c plan steps far t ss n p WrongSide shown r l i k j conf f = absurd conf
word_ready c plan steps far t ss n p Refused shown r l i k j conf f = absurd conf

conforming_word : (plan : PostPlan) (steps : List Step) (far : Course) (talked : Option Talked) (ss : Session) (reading : Reading) → Some (talked_of ss) ≡ talked → conforming.IsRead plan steps far talked (Some reading) → conforming.IsWord plan steps far (talked_of ss) reading.judged
conforming_word plan steps far None ss reading e h = cc
conforming_word plan steps far (Some t) ss reading e h = let x : talked_of ss ≡ t = cc in subst (λ (y : Talked). conforming.IsWord plan steps far y reading.judged) (sym x) h

taken_ready : {Owed : Type 0} (c : Codecs) (plan : PostPlan) (steps : List Step) (far : Course) (t : State) (kept : Option Session) (p : Payload) (reading : Reading) → Ready c plan Owed (map seen_of steps) t → Clear c plan (map seen_of steps) t → WantedIn t kept p → t.session ≡ kept
    → Judges c plan.dialects.items p.dialect p.bytes reading.judged → talked_in kept ≡ far.session → conforming.IsRead plan steps far far.session (Some reading) → t.facts ≡ facts_of (map seen_of steps) far
    → Ready c plan Owed (map seen_of steps) (taken_in plan t kept reading)
taken_ready c plan steps far t None p reading r l i k j e conf f = absurd i
taken_ready c plan steps far t (Some ss) p reading r l i k j e conf f =
    word_ready c plan steps far t ss i.0 p reading.judged reading.shown r l i.1 k j (conforming_word plan steps far far.session ss reading e conf) f

read_ready : {Owed : Type 0} (c : Codecs) (plan : PostPlan) (S : ℕ → ℕ → Type 0) (steps : List Step) (far : Course) (t : State) (w : Option Payload) (reading : Option Reading) → wanted t ≡ w → IsRead c plan S t w reading → Ready c plan Owed (map seen_of steps) t → Planned c plan (map seen_of steps) t
    → talked_in t.session ≡ far.session → conforming.IsRead plan steps far far.session reading → t.facts ≡ facts_of (map seen_of steps) far → Ready c plan Owed (map seen_of steps) (read plan t reading)
read_ready c plan S steps far t w None e i r l k conf f = r
read_ready c plan S steps far t None (Some reading) e i r l k conf f = absurd i
read_ready c plan S steps far t (Some p) (Some reading) e i r l k conf f =
    let x = wanted_in t p e in
    taken_ready c plan steps far t t.session p reading r (l.clear (wanted_done t t.session p x)) x refl i.0 k conf f

pub filled_ready : {Owed : Type 0} (c : Codecs) (plan : PostPlan) (S : ℕ → ℕ → Type 0) (steps : List Step) (reading : Option Reading) → IsRead c plan S (decided plan (state plan steps)) (wanted (decided plan (state plan steps))) reading
    → Ready c plan Owed (map seen_of steps) (decided plan (state plan steps)) → Planned c plan (map seen_of steps) (decided plan (state plan steps)) → IsCourse plan steps (state plan steps)
    → conforming.IsRead plan steps (course plan steps) (course plan steps).session reading → Ready c plan Owed (map seen_of steps) (filled plan reading (state plan steps))
filled_ready c plan S steps reading i r l k conf =
    let s = state plan steps in
    read_ready c plan S steps (course plan steps) (decided plan s) (wanted (decided plan s)) reading refl i r l (ap talked_in (same_session plan s) ∙ k.session_is) conf (same_facts plan s ∙ k.facts_are)
