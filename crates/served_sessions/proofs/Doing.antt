-- An act that is taken leaves a conforming post ready for the next one.
use Rattle.std.proofs.Common.{◌≡◌, ℕ, suc, Bool, true, false, List, [], ◌∷◌, length, Option, Some, None, refl, sym, ap, subst, ◌∙◌, arith, inl, inr, ◌⊎◌}
use Rattle.std.specs.Option.{option_map}
use Rattle.charge_world.specs.declared.offer.Dialect.{Dialect}
use Rattle.charge_world.specs.declared.ports.Order.{Order}
use Rattle.charge_world.specs.declared.ports.Order.TheVariants as order
use Rattle.session_words.specs.declared.cause.EndCause.{EndCause}
use Rattle.session_words.specs.declared.phase.Phase.{Phase}
use Rattle.session_words.specs.declared.plan.PostPlan.{PostPlan}
use Rattle.session_words.specs.declared.word.Reply.{Reply}
use Rattle.session_words.specs.declared.word.Request.{Request}
use Rattle.session_words.specs.Codes.{IsOkClass}
use Rattle.session_rules.specs.Stages.{is_waiting}
use Rattle.post_spec.specs.Codecs.{Codecs}
use Rattle.post_spec.specs.Sessions.{session, with_seen, stream, replies, waits}
use Rattle.post_spec.specs.Spelled.{read_back, ReadsBack}
use Rattle.post_spec.specs.Steps.{Act, Give, Send, Answer, End, Seen, Did}
use Rattle.post_spec.specs.Talk.{Exchange, Answered, IsExchange, OneMore, InSession, Talks}
use Rattle.station_spec.specs.States.{Spoken, Response, Said, Agenda, Wording, Session, State, nothing, first, first_of, is_none, is_done}
use Rattle.station_spec.specs.States as states
use Rattle.station_spec.specs.Acting.{since_order, replied, agenda_said, acted}
use Rattle.station_spec.specs.Next.{IsSpoken, IsDone}
use Rattle.conforming_runs.specs.Conforming.{IsTaken}
use Rattle.safe_runs.proofs.Links.{Asks}
use Rattle.read_runs.proofs.Agendas.{say_is, give_is}
use Rattle.served_sessions.specs.Answered.{IsAnswered}
use Rattle.served_sessions.proofs.Ready.{Owes, Ends, Stops, Other, Others, words_before, Early, EarlyIn, Unsaid, Worded, Ready}

-- what is said or given is first
tell_is : (d : Option (List ℕ)) (o : Option Order) (r : Option Spoken) (e : Option EndCause) (x : List ℕ) → first_of d o r e ≡ Some (states.Tell x) → d ≡ Some x
tell_is (Some d) o r e x h = cc
tell_is None (Some o) r e x h = cc
tell_is None None (Some r) e x h = cc
tell_is None None None (Some e) x h = cc
tell_is None None None None x h = cc

pub finish_is : (d : Option (List ℕ)) (o : Option Order) (r : Option Spoken) (e : Option EndCause) (x : EndCause) → first_of d o r e ≡ Some (states.Finish x) → (e ≡ Some x) × (r ≡ None)
finish_is (Some d) o r e x h = cc
finish_is None (Some o) r e x h = cc
finish_is None None (Some r) e x h = cc
finish_is None None None (Some e) x h = (cc, refl)
finish_is None None None None x h = cc

-- an entry more, that is no reply
pub record Leaves (x : Seen) (es : List Seen) : Type 0 where
  pub stream_is : stream (x ∷ es) ≡ stream es
  pub replies_are : replies (x ∷ es) ≡ replies es
  pub words_are : words_before (x ∷ es) ≡ words_before es

lives_more : (x : Seen) (lives : Option (List Seen)) (es : List Seen) → lives ≡ Some es → with_seen x lives ≡ Some (x ∷ es)
lives_more x lives es h = ap (with_seen x) h

pub lives_before : (x : Seen) (lives : Option (List Seen)) (es : List Seen) → with_seen x lives ≡ Some es → (zs : List Seen) × (lives ≡ Some zs) × (es ≡ x ∷ zs)
lives_before x None es h = cc
lives_before x (Some zs) es h = (zs, refl, cc)

owes_more : (c : Codecs) (plan : PostPlan) (past : List Seen) (x : Seen) (k : EndCause) (d : Dialect) (reply : Reply) → ((es : List Seen) → session past ≡ Some es → session (x ∷ past) ≡ Some (x ∷ es))
    → ((xs : List Exchange) → Talks c plan.dialects.items past xs → Talks c plan.dialects.items (x ∷ past) xs) → ((es : List Seen) → Leaves x es) → ((es : List Seen) → waits es ≡ false → waits (x ∷ es) ≡ false)
    → Owes c plan past k d reply → Owes c plan (x ∷ past) k d reply
owes_more c plan past x k d reply lives talks leaves still o = record {
  es = x ∷ o.es;
  session_is = lives o.es o.session_is;
  still = still o.es o.still;
  xs = o.xs;
  answered = record { talks = talks o.xs o.answered.talks; ok = o.answered.ok };
  request = o.request;
  asks = subst (λ (s : List ℕ). Asks c s o.xs o.request d) (sym (leaves o.es).stream_is) o.asks;
  ok = o.ok;
  pause = o.pause;
  stop = o.stop;
  cause_is = o.cause_is;
}

stops_more : (c : Codecs) (plan : PostPlan) (past : List Seen) (x : Seen) (e : Option EndCause) (r : Option Spoken) → ((es : List Seen) → session past ≡ Some es → session (x ∷ past) ≡ Some (x ∷ es))
    → ((xs : List Exchange) → Talks c plan.dialects.items past xs → Talks c plan.dialects.items (x ∷ past) xs) → ((es : List Seen) → Leaves x es) → ((k : EndCause) → e ≡ Some k → (es : List Seen) → waits es ≡ false → waits (x ∷ es) ≡ false)
    → Stops c plan past e r → Stops c plan (x ∷ past) e r
stops_more c plan past x None r lives talks leaves still s = tt
stops_more c plan past x (Some k) None lives talks leaves still s =
    record { request = s.request; reply = s.reply; before = s.before; earlier = s.earlier; answered = record { talks = talks _ s.answered.talks; ok = s.answered.ok }; pause = s.pause; stop = s.stop; cause_is = s.cause_is }
stops_more c plan past x (Some k) (Some (Response payload)) lives talks leaves still s = s
stops_more c plan past x (Some k) (Some (Said dialect reply)) lives talks leaves still s = owes_more c plan past x k dialect reply lives talks leaves (still k refl) s

early_more : (x : Seen) (es : List Seen) (here : Phase) (r : Option Spoken) (o o' : Option Order) → Leaves x es → (o' ≡ Some order.Close → o ≡ Some order.Close) → Early es here r o → Early (x ∷ es) here r o'
early_more x es here r o o' l f e =
    let w = l.words_are in
    let n : length (replies (x ∷ es)) ≡ length (replies es) = ap length l.replies_are in
    let a = e.within in
    record {
      within = omega (arith, w, n, a);
      free = λ g h. let b = e.free g h in omega (arith, w, n, b);
      closing = λ h. let b = e.closing (f h) in omega (arith, w, n, b);
    }

early_in_more : (x : Seen) (lives : Option (List Seen)) (kept : Option Session) (f : Session → Session) (a a' : Agenda) → ((ss : Session) → (f ss).stage.row ≡ ss.stage.row) → ((es : List Seen) → Leaves x es) → a'.reply ≡ a.reply → (a'.order ≡ Some order.Close → a.order ≡ Some order.Close)
    → EarlyIn lives kept a → EarlyIn (with_seen x lives) (option_map f kept) a'
early_in_more x lives None f a a' rows leaves r o e es ss l k = cc
early_in_more x lives (Some ts) f a a' rows leaves r o e es ss l k =
    let b = lives_before x lives es l in
    let y : f ts ≡ ss = cc in
    let m = early_more x b.0 ts.stage.row a.reply a.order a'.order (leaves b.0) o (e b.0 ts b.1 refl) in
    let n : ts.stage.row ≡ ss.stage.row = sym (rows ts) ∙ ap (λ (u : Session). u.stage.row) y in
    subst (λ (us : List Seen). Early us ss.stage.row a'.reply a'.order) (sym b.2)
    (subst (λ (u : Phase). Early (x ∷ b.0) u a'.reply a'.order) n (subst (λ (u : Option Spoken). Early (x ∷ b.0) ts.stage.row u a'.order) (sym r) m))

unsaid_more : (past later : List Seen) (kept : Option Session) (f : Session → Session) (a a' : Agenda) → ((ss : Session) → (f ss).stage.row ≡ ss.stage.row) → a'.reply ≡ a.reply → ((a.datagram ≡ None) → (a.order ≡ None) → ⊥) → Unsaid past kept a → Unsaid later (option_map f kept) a'
unsaid_more past later None f a a' rows r n u ss k w = cc
unsaid_more past later (Some ts) f a a' rows r n u ss k w =
    let y : f ts ≡ ss = cc in
    let z : is_waiting ts.stage.row ≡ true = ap is_waiting (sym (rows ts)) ∙ ap (λ (v : Session). is_waiting v.stage.row) y ∙ w in
    elim (u ts refl z) [
      | inl h ↦ inl (r ∙ h)
      | inr h ↦ absurd (n h.1 h.2)
    ]

other_more : (c : Codecs) (plan : PostPlan) (past : List Seen) (x : Seen) (d : Dialect) (reply : Reply) → ((es : List Seen) → session past ≡ Some es → session (x ∷ past) ≡ Some (x ∷ es))
    → ((xs : List Exchange) → Talks c plan.dialects.items past xs → Talks c plan.dialects.items (x ∷ past) xs) → ((es : List Seen) → Leaves x es) → Other c plan past d reply → Other c plan (x ∷ past) d reply
other_more c plan past x d reply lives talks leaves o = record {
  es = x ∷ o.es;
  session_is = lives o.es o.session_is;
  xs = o.xs;
  answered = record { talks = talks o.xs o.answered.talks; ok = o.answered.ok };
  request = o.request;
  asks = subst (λ (s : List ℕ). Asks c s o.xs o.request d) (sym (leaves o.es).stream_is) o.asks;
  ok = o.ok;
  other = o.other;
}

other_kept : (c : Codecs) (plan : PostPlan) (past : List Seen) (x : Seen) (d : Dialect) (reply : Reply) (kept : Option Session) (f : Session → Session) → ((ss : Session) → (f ss).stage.row ≡ ss.stage.row) → (Other c plan past d reply → Other c plan (x ∷ past) d reply)
    → ((ss : Session) → kept ≡ Some ss → is_waiting ss.stage.row ≡ false → Other c plan past d reply) → (ss : Session) → option_map f kept ≡ Some ss → is_waiting ss.stage.row ≡ false → Other c plan (x ∷ past) d reply
other_kept c plan past x d reply None f rows more o ss k w = cc
other_kept c plan past x d reply (Some ts) f rows more o ss k w =
    let y : f ts ≡ ss = cc in
    let z : is_waiting ts.stage.row ≡ false = ap is_waiting (sym (rows ts)) ∙ ap (λ (v : Session). is_waiting v.stage.row) y ∙ w in
    more (o ts refl z)

others_more : (c : Codecs) (plan : PostPlan) (past : List Seen) (x : Seen) (kept : Option Session) (f : Session → Session) (r : Option Spoken) → ((ss : Session) → (f ss).stage.row ≡ ss.stage.row) → ((es : List Seen) → session past ≡ Some es → session (x ∷ past) ≡ Some (x ∷ es))
    → ((xs : List Exchange) → Talks c plan.dialects.items past xs → Talks c plan.dialects.items (x ∷ past) xs) → ((es : List Seen) → Leaves x es) → Others c plan past kept r → Others c plan (x ∷ past) (option_map f kept) r
others_more c plan past x kept f None rows lives talks leaves o = tt
others_more c plan past x kept f (Some (Response payload)) rows lives talks leaves o = tt
others_more c plan past x kept f (Some (Said d reply)) rows lives talks leaves o = other_kept c plan past x d reply kept f rows (other_more c plan past x d reply lives talks leaves) o

-- a datagram
answer_leaves : (d : List ℕ) (taken : Bool) (es : List Seen) → Leaves (Did (Answer d) taken) es
answer_leaves d taken es = record { stream_is = refl; replies_are = refl; words_are = refl }

give_leaves : (o : Order) (taken : Bool) (es : List Seen) → Leaves (Did (Give o) taken) es
give_leaves o taken es = record { stream_is = refl; replies_are = refl; words_are = refl }

some_not : {A : Type 0} (o : Option A) (a : A) → o ≡ Some a → o ≡ None → ⊥
some_not o a h n = let x : None ≡ Some a = sym n ∙ h in cc

none_close : None ≡ Some order.Close → ⊥
none_close h = cc

-- a session as it is
same_kept : (kept : Option Session) → option_map (λ (ss : Session). ss) kept ≡ kept
same_kept None = refl
same_kept (Some ss) = refl

-- what isn't an order is done at the words
part_of : {Owed : Type 0} (t : State) → Worded Owed t → (todo : states.Todo) → first t.agenda ≡ Some todo → ((x : Order) → todo ≡ states.Give x → ⊥) → t.part ≡ Wording
part_of t (inl h) todo f n = h
part_of t (inr (inl h)) todo f n = absurd (let x : true ≡ false = sym h ∙ ap is_none f in cc)
part_of t (inr (inr h)) todo f n =
    let x : Some todo ≡ Some (states.Give order.Open) = sym f ∙ ap first h.1 in
    absurd (n order.Open (let y : todo ≡ states.Give order.Open = cc in y))

tell_not : (d : List ℕ) (x : Order) → states.Tell d ≡ states.Give x → ⊥
tell_not d x h = cc

say_not : (spoken : Spoken) (x : Order) → states.Say spoken ≡ states.Give x → ⊥
say_not spoken x h = cc

finish_not : (cause : EndCause) (x : Order) → states.Finish cause ≡ states.Give x → ⊥
finish_not cause x h = cc

-- behind an order the words are next, or nothing is left to do
given_worded : {Owed : Type 0} (t : State) (o : Order) → Worded Owed t → first t.agenda ≡ Some (states.Give o) → Worded ⊥ (acted (Give o) true t)
given_worded t o (inl h) f = inl h
given_worded t o (inr (inl h)) f = absurd (let x : true ≡ false = sym h ∙ ap is_none f in cc)
given_worded t o (inr (inr h)) f = inr (inl (ap (λ (a : Agenda). is_done (record a { order = None })) h.1))

answered_ready : {Owed : Type 0} (c : Codecs) (plan : PostPlan) (past : List Seen) (t : State) (d : List ℕ) (taken : Bool) → t.agenda.datagram ≡ Some d → t.part ≡ Wording → Ready c plan Owed past t → Ready c plan ⊥ (Did (Answer d) taken ∷ past) (acted (Answer d) taken t)
answered_ready c plan past t d taken h p r =
    let x : Seen = Did (Answer d) taken in
    let u = acted (Answer d) taken t in
    record {
      matched = r.matched;
      stops = stops_more c plan past x t.agenda.ending t.agenda.reply (λ es l. lives_more x (session past) es l) (λ xs k. k) (λ es. answer_leaves d taken es) (λ k e es w. w) r.stops;
      opens = r.opens;
      worded = inl p;
      unsaid = subst (λ (kept : Option Session). Unsaid (x ∷ past) kept u.agenda) (same_kept t.session)
          (unsaid_more past (x ∷ past) t.session (λ ss. ss) t.agenda u.agenda (λ ss. refl) refl (λ n m. some_not t.agenda.datagram d h n) r.unsaid);
      others = subst (λ (kept : Option Session). Others c plan (x ∷ past) kept u.agenda.reply) (same_kept t.session)
          (others_more c plan past x t.session (λ ss. ss) t.agenda.reply (λ ss. refl) (λ es l. lives_more x (session past) es l) (λ xs k. k) (λ es. answer_leaves d taken es) r.others);
      early = subst (λ (kept : Option Session). EarlyIn (with_seen x (session past)) kept u.agenda) (same_kept t.session)
          (early_in_more x (session past) t.session (λ ss. ss) t.agenda u.agenda (λ ss. refl) (λ es. answer_leaves d taken es) refl (λ o. o) r.early);
    }

-- an order
since_row : (now : ℕ) (o : Order) (ss : Session) → (since_order now o ss).stage.row ≡ ss.stage.row
since_row now order.Open ss = refl
since_row now order.Close ss = refl
since_row now (order.Limits voltage current watts) ss = refl

given_still : (o : Order) (e : Option EndCause) (a : Option Order) → a ≡ Some o → (a ≡ Some order.Close → e ≡ None) → (k : EndCause) → e ≡ Some k → (es : List Seen) → waits es ≡ false → waits (Did (Give o) true ∷ es) ≡ false
given_still order.Open e a h n k f es w = w
given_still order.Close e a h n k f es w = absurd (some_not e k f (n h))
given_still (order.Limits voltage current watts) e a h n k f es w = w

given_ready : {Owed : Type 0} (c : Codecs) (plan : PostPlan) (past : List Seen) (t : State) (o : Order) → t.agenda.order ≡ Some o → Worded ⊥ (acted (Give o) true t) → Ready c plan Owed past t → Ready c plan ⊥ (Did (Give o) true ∷ past) (acted (Give o) true t)
given_ready c plan past t o h p r =
    let x : Seen = Did (Give o) true in
    let u = acted (Give o) true t in
    record {
      matched = r.matched;
      stops = stops_more c plan past x t.agenda.ending t.agenda.reply (λ es l. lives_more x (session past) es l) (λ xs k. k) (λ es. give_leaves o true es) (given_still o t.agenda.ending t.agenda.order h r.opens) r.stops;
      opens = λ k. absurd (none_close k);
      worded = p;
      unsaid = unsaid_more past (x ∷ past) t.session (since_order t.clock o) t.agenda u.agenda (λ ss. since_row t.clock o ss) refl (λ n m. some_not t.agenda.order o h m) r.unsaid;
      others = others_more c plan past x t.session (since_order t.clock o) t.agenda.reply (λ ss. since_row t.clock o ss) (λ es l. lives_more x (session past) es l) (λ xs k. k) (λ es. give_leaves o true es) r.others;
      early = early_in_more x (session past) t.session (since_order t.clock o) t.agenda u.agenda (λ ss. since_row t.clock o ss) (λ es. give_leaves o true es) refl (λ k. absurd (none_close k)) r.early;
    }

-- a reply
said_is : (c : Codecs) (offers : List Dialect) (heard : List ℕ) (xs : List Exchange) (bytes : List ℕ) (past : List Seen) (r : Request) (reply : Reply) (d : Dialect) → ReadsBack c → Asks c heard xs r d → IsSpoken c (Said d reply) bytes
    → IsExchange c offers heard xs bytes past (Answered r (read_back reply) past)
said_is c offers heard [] bytes past r reply d back a s = absurd (let e : None ≡ Some d = a.dialect_is in cc)
said_is c offers heard (y ∷ ys) bytes past r reply d back a s =
    (record { spoken = d; payload = a.payload; text = s.0; dialect_is = a.dialect_is; asked = a.place; request_is = a.reads; reply_is = back d reply s.0 s.1; bytes_are = s.2 }, refl)

pub said_answered : (c : Codecs) (plan : PostPlan) (past es : List Seen) (xs : List Exchange) (bytes : List ℕ) (taken : Bool) (r : Request) (d : Dialect) (reply : Reply) → ReadsBack c → IsSpoken c (Said d reply) bytes → session past ≡ Some es → IsAnswered c plan past xs
    → Asks c (stream es) xs r d → IsOkClass reply.code → IsAnswered c plan (Did (Send bytes) taken ∷ past) (Answered r (read_back reply) past ∷ xs)
said_answered c plan past es xs bytes taken r d reply back s l answered asks ok =
    let one : OneMore c plan.dialects.items es past bytes (Talks c plan.dialects.items past) (Answered r (read_back reply) past ∷ xs) = record {
      newest = Answered r (read_back reply) past;
      earlier = xs;
      xs_are = refl;
      is = said_is c plan.dialects.items (stream es) xs bytes past r reply d back asks s;
      before = answered.talks;
    } in
    record {
      talks = subst (λ (lives : Option (List Seen)). InSession lives (λ us. OneMore c plan.dialects.items us past bytes (Talks c plan.dialects.items past) (Answered r (read_back reply) past ∷ xs)) (Answered r (read_back reply) past ∷ xs ≡ [])) (sym l) one;
      ok = (ok, answered.ok);
    }

owes_ends : (c : Codecs) (plan : PostPlan) (past : List Seen) (bytes : List ℕ) (taken : Bool) (k : EndCause) (d : Dialect) (reply : Reply) → ReadsBack c → IsSpoken c (Said d reply) bytes → Owes c plan past k d reply → Ends c plan (Did (Send bytes) taken ∷ past) k
owes_ends c plan past bytes taken k d reply back s o = record {
  request = o.request;
  reply = read_back reply;
  before = past;
  earlier = o.xs;
  answered = said_answered c plan past o.es o.xs bytes taken o.request d reply back s o.session_is o.answered o.asks o.ok;
  pause = o.pause;
  stop = o.stop;
  cause_is = o.cause_is;
}

stops_sent : (c : Codecs) (plan : PostPlan) (past : List Seen) (bytes : List ℕ) (taken : Bool) (e : Option EndCause) (spoken : Spoken) → ReadsBack c → IsSpoken c spoken bytes → Stops c plan past e (Some spoken) → Stops c plan (Did (Send bytes) taken ∷ past) e None
stops_sent c plan past bytes taken None spoken back s o = tt
stops_sent c plan past bytes taken (Some k) (Response payload) back s o = absurd o
stops_sent c plan past bytes taken (Some k) (Said d reply) back s o = owes_ends c plan past bytes taken k d reply back s o

early_sent : (bytes : List ℕ) (es : List Seen) (here later : Phase) (r : Option Spoken) (o : Option Order) → o ≡ None → Early es here r o → Early (Did (Send bytes) true ∷ es) later None o
early_sent bytes es here later r o n e =
    let a = e.within in
    let l : length (replies (Did (Send bytes) true ∷ es)) ≡ suc (length (replies es)) = refl in
    record { within = omega (arith, a, l); free = λ w h. omega (arith, a, l); closing = λ h. absurd (some_not o order.Close h n) }

early_in_sent : (bytes : List ℕ) (now : ℕ) (lives : Option (List Seen)) (kept : Option Session) (a : Agenda) → a.order ≡ None → EarlyIn lives kept a → EarlyIn (with_seen (Did (Send bytes) true) lives) (option_map (replied now) kept) (record a { reply = None })
early_in_sent bytes now lives None a n e es ss l k = cc
early_in_sent bytes now lives (Some ts) a n e es ss l k =
    let b = lives_before (Did (Send bytes) true) lives es l in
    subst (λ (us : List Seen). Early us ss.stage.row None a.order) (sym b.2) (early_sent bytes b.0 ts.stage.row ss.stage.row a.reply a.order n (e b.0 ts b.1 refl))

said_agenda : (b : Option EndCause) (kept : Option Session) (a : Agenda) (live : Bool) → b ≡ None → agenda_said b kept a live ≡ record a { reply = None }
said_agenda None kept a live n = refl
said_agenda (Some k) kept a live n = cc

sent_ready : {Owed : Type 0} (c : Codecs) (plan : PostPlan) (past : List Seen) (t : State) (spoken : Spoken) (bytes : List ℕ) → ReadsBack c → IsSpoken c spoken bytes → t.agenda.reply ≡ Some spoken → t.agenda.order ≡ None → t.part ≡ Wording → Ready c plan Owed past t
    → Ready c plan ⊥ (Did (Send bytes) true ∷ past) (acted (Send bytes) true t)
sent_ready c plan past t spoken bytes back s h o p r =
    let x : Seen = Did (Send bytes) true in
    let e : agenda_said t.agenda.behind_reply t.session t.agenda t.live ≡ record t.agenda { reply = None } = said_agenda t.agenda.behind_reply t.session t.agenda t.live r.matched in
    subst (λ (a : Agenda). Ready c plan ⊥ (Did (Send bytes) true ∷ past) (record t { session = option_map (replied t.clock) t.session; agenda = a })) (sym e)
    (record {
      matched = r.matched;
      stops = stops_sent c plan past bytes true t.agenda.ending spoken back s (subst (λ (y : Option Spoken). Stops c plan past t.agenda.ending y) h r.stops);
      opens = r.opens;
      worded = inl p;
      unsaid = λ ss k w. inl refl;
      others = tt;
      early = early_in_sent bytes t.clock (session past) t.session t.agenda o r.early;
    })

-- the end
ended_ready : (c : Codecs) (plan : PostPlan) (past : List Seen) (t : State) (cause : ℕ) (taken : Bool) → t.part ≡ Wording → Ready c plan ⊥ (Did (End cause) taken ∷ past) (acted (End cause) taken t)
ended_ready c plan past t cause taken p = record {
  matched = refl;
  stops = tt;
  opens = λ h. refl;
  worded = inl p;
  unsaid = λ ss k w. inl refl;
  others = tt;
  early = λ es ss l k. absurd (let x : None ≡ Some es = l in cc);
}

pub acted_ready : {Owed : Type 0} (c : Codecs) (plan : PostPlan) (past : List Seen) (t : State) (todo : states.Todo) (a : Act) (taken : Bool) → ReadsBack c → first t.agenda ≡ Some todo → IsDone c todo a taken → IsTaken a taken → Ready c plan Owed past t → Ready c plan ⊥ (Did a taken ∷ past) (acted a taken t)
acted_ready c plan past t (states.Tell d) a taken back f i y r =
    subst (λ (x : Act). Ready c plan ⊥ (Did x taken ∷ past) (acted x taken t)) (sym i)
    (answered_ready c plan past t d taken (tell_is t.agenda.datagram t.agenda.order t.agenda.reply t.agenda.ending d f) (part_of t r.worded (states.Tell d) f (tell_not d)) r)
acted_ready c plan past t (states.Give o) a taken back f i y r =
    let z : taken ≡ true = subst (λ (x : Act). IsTaken x taken) i y in
    subst (λ (b : Bool). Ready c plan ⊥ (Did a b ∷ past) (acted a b t)) (sym z)
    (subst (λ (x : Act). Ready c plan ⊥ (Did x true ∷ past) (acted x true t)) (sym i) (given_ready c plan past t o (give_is t.agenda.datagram t.agenda.order t.agenda.reply t.agenda.ending o f) (given_worded t o r.worded f) r))
acted_ready c plan past t (states.Say spoken) a taken back f i y r =
    let k = say_is t.agenda.datagram t.agenda.order t.agenda.reply t.agenda.ending spoken f in
    let z : taken ≡ true = subst (λ (x : Act). IsTaken x taken) i.2 y in
    subst (λ (b : Bool). Ready c plan ⊥ (Did a b ∷ past) (acted a b t)) (sym z)
    (subst (λ (x : Act). Ready c plan ⊥ (Did x true ∷ past) (acted x true t)) (sym i.2) (sent_ready c plan past t spoken i.0 back i.1 k.0 k.1 (part_of t r.worded (states.Say spoken) f (say_not spoken)) r))
acted_ready c plan past t (states.Finish cause) a taken back f i y r =
    subst (λ (x : Act). Ready c plan ⊥ (Did x taken ∷ past) (acted x taken t)) (sym i.0) (ended_ready c plan past t _ taken (part_of t r.worded (states.Finish cause) f (finish_not cause)))

-- an act keeps the part
pub acted_part : (a : Act) (taken : Bool) (t : State) → (acted a taken t).part ≡ t.part
acted_part (Give o) true t = refl
acted_part (Give o) false t = refl
acted_part (Send bytes) true t = refl
acted_part (Send bytes) false t = refl
acted_part (Answer bytes) taken t = refl
acted_part (End cause) taken t = refl

pub words_next : {Owed : Type 0} (c : Codecs) (plan : PostPlan) (past : List Seen) (t : State) (todo : states.Todo) (a : Act) (taken : Bool) → first t.agenda ≡ Some todo → Ready c plan Owed past t → ((acted a taken t).part ≡ Wording) ⊎ Owed
words_next c plan past t todo a taken f r = elim r.worded [
  | inl h ↦ inl (acted_part a taken t ∙ h)
  | inr (inl h) ↦ absurd (let x : true ≡ false = sym h ∙ ap is_none f in cc)
  | inr (inr h) ↦ inr h.0
]
