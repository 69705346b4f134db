-- An act that is done keeps the tie.
use Rattle.std.proofs.Common.{arith, ◌≡◌, ℕ, suc, Bool, true, false, ◌&&◌, List, [], ◌∷◌, length, Option, Some, None, refl, sym, ap, subst, ◌∙◌, inl, inr, MatchBool}
use Rattle.std.specs.Option.{option_map}
use Rattle.charge_world.specs.declared.offer.Dialect.{Dialect}
use Rattle.charge_world.specs.declared.ports.Order.{Order}
use Rattle.charge_world.specs.declared.ports.Order.TheVariants as order
use Rattle.session_words.specs.declared.cause.EndCause.{EndCause}
use Rattle.session_words.specs.declared.cause.EndCause.TheVariants.{SendFailed, OrderFailed}
use Rattle.session_words.specs.declared.code.Progress.TheVariants as progress
use Rattle.session_words.specs.declared.phase.Phase.{Phase}
use Rattle.session_words.specs.declared.phase.Phase.TheVariants as row
use Rattle.session_words.specs.declared.plan.PostPlan.{PostPlan}
use Rattle.session_words.specs.declared.word.Ask.{Ask}
use Rattle.session_words.specs.declared.word.Ask.TheVariants as ask
use Rattle.session_words.specs.declared.word.Reply.{Reply}
use Rattle.session_words.specs.declared.word.Request.{Request}
use Rattle.session_words.specs.declared.word.Tell.{Tell}
use Rattle.session_rules.specs.declared.stage.Stage.{Stage}
use Rattle.session_rules.specs.Causes.{needs_isolation}
use Rattle.session_rules.specs.Finishing.{is_ac}
use Rattle.session_rules.specs.Stages.{is_waiting, confirmed_row, confirmed}
use Rattle.post_spec.specs.Codecs.{Codecs}
use Rattle.post_spec.specs.Facts.{newer, pilot, isolation}
use Rattle.post_spec.specs.Kinds.{any, says_finished, asks_cable_check, asks_start, asks_renegotiation}
use Rattle.contactor.specs.Rights.{is_ready}
use Rattle.session_words.specs.Causes.{number_of}
use Rattle.post_spec.specs.Prepared.{renegotiates}
use Rattle.post_spec.specs.Checked.{IsChecked, StaysValid, off_in, pre_charge_off}
use Rattle.post_spec.specs.Mandated.{before_close}
use Rattle.post_spec.specs.Sessions.{session, with_seen, stream, waits}
use Rattle.post_spec.specs.Spelled.{read_back, ReadsBack}
use Rattle.post_spec.specs.Steps.{Act, Give, Send, Answer, End, Seen, Did}
use Rattle.post_spec.specs.Talk.{Exchange, Negotiation, Answered, IsExchange, OneMore, InSession, Talks, IsOk}
use Rattle.station_spec.specs.States.{Spoken, Response, Said, Agenda, Session, State, nothing, first, first_of}
use Rattle.station_spec.specs.States as states
use Rattle.station_spec.specs.Deciding.{opening_if}
use Rattle.station_spec.specs.Judging.{speaks_in}
use Rattle.station_spec.specs.Acting.{live_ordered, since_order, failing, giving, agenda_said, replied, saying, telling, ended, acted}
use Rattle.station_spec.specs.Next.{IsSpoken, IsDone}
use Rattle.safe_runs.proofs.Links.{is_cable, Premise, Cabled, Delivers, Rowed, CabledThen, DeliversThen, Chosen, Asks, Owes, Pending, Waits, Link, Tie, IsWaitingIn, Linked}
use Rattle.safe_runs.proofs.Rows.{RowHas, PowerOf, is_charging}
use Rattle.safe_runs.proofs.Orders.{round_more}
use Rattle.safe_runs.proofs.Shut.{Still, Shut, shut_still}

opens : (live : Bool) → opening_if live ≡ Some order.Close → ⊥
opens true h = cc
opens false h = cc

no_close : None ≡ Some order.Close → ⊥
no_close h = cc

-- one entry more, that is no reply
pub record IsMore (c : Codecs) (plan : PostPlan) (past es : List Seen) (x : Seen) : Type 0 where
  pub heard : stream (x ∷ es) ≡ stream es
  pub talks : (xs : List Exchange) → Talks c plan.dialects.items past xs → Talks c plan.dialects.items (x ∷ past) xs
  pub isolation_is : isolation (x ∷ past) ≡ isolation past
  pub stays : StaysValid x
  pub ready : (waits es ≡ true → is_ready (pilot (before_close past)) ≡ true) → waits (x ∷ es) ≡ true → is_ready (pilot (before_close (x ∷ past))) ≡ true

pub cabled_more : (past : List Seen) (x : Seen) (xs : List Exchange) → StaysValid x → Cabled past xs → Cabled (x ∷ past) xs
cabled_more past x xs s k = record {
  behind = k.behind;
  request = k.request;
  reply = k.reply;
  before = k.before;
  earlier = k.earlier;
  xs_are = k.xs_are;
  cable_check = k.cable_check;
  newest = k.newest;
  since = x ∷ k.since;
  past_is = ap (λ (ys : List Seen). x ∷ ys) k.past_is;
  valid = k.valid;
  stays = (s, k.stays);
}

cabled_in_more : (b : Bool) (past : List Seen) (x : Seen) (xs : List Exchange) → StaysValid x → MatchBool b (Cabled past xs) (Unit {0}) → MatchBool b (Cabled (x ∷ past) xs) (Unit {0})
cabled_in_more true past x xs s k = cabled_more past x xs s k
cabled_in_more false past x xs s k = tt

then_more : (b : Bool) (past : List Seen) (x : Seen) (r : Request) (reply : Reply) (xs : List Exchange) → StaysValid x → isolation (x ∷ past) ≡ isolation past → MatchBool b (CabledThen past r reply xs) (Unit {0}) → MatchBool b (CabledThen (x ∷ past) r reply xs) (Unit {0})
then_more true past x r reply xs s i (inl h) = inl (cabled_more past x xs s h.0, h.1)
then_more true past x r reply xs s i (inr h) = inr (h.0, i ∙ h.1)
then_more false past x r reply xs s i k = tt

pub checked_more : (b : Bool) (past : List Seen) (x : Seen) (xs : List Exchange) → StaysValid x → MatchBool b (IsChecked past xs) (Unit {0}) → MatchBool b (IsChecked (x ∷ past) xs) (Unit {0})
checked_more false past x xs s k = tt
checked_more true past x xs s k = record {
  behind = k.behind;
  request = k.request;
  reply = k.reply;
  before = k.before;
  earlier = k.earlier;
  xs_are = k.xs_are;
  cable_check = k.cable_check;
  newest = k.newest;
  since = x ∷ k.since;
  past_is = ap (λ (ys : List Seen). x ∷ ys) k.past_is;
  valid = k.valid;
  stays = (s, k.stays);
  off = k.off;
  off_is = k.off_is;
  within = k.within;
}

delivers_more : (plan : PostPlan) (past : List Seen) (x : Seen) (n : Bool) (xs : List Exchange) (V W : Type 0) → (W → V) → (W → StaysValid x) → Delivers plan past n xs V → Delivers plan (x ∷ past) n xs W
delivers_more plan past x n xs V W f s k =
    record { earlier = k.earlier; judged = k.judged; started = k.started; prepared = k.prepared; checked = λ w. checked_more n past x k.earlier (s w) (k.checked (f w)); ready = k.ready; own = k.own }

pub delivers_in_more : (b : Bool) (plan : PostPlan) (past : List Seen) (x : Seen) (n : Bool) (xs : List Exchange) (V W : Type 0) → (W → V) → (W → StaysValid x) → MatchBool b (Delivers plan past n xs V) (Unit {0}) → MatchBool b (Delivers plan (x ∷ past) n xs W) (Unit {0})
delivers_in_more true plan past x n xs V W f s k = delivers_more plan past x n xs V W f s k
delivers_in_more false plan past x n xs V W f s k = tt

delivers_then_more : (b : Bool) (plan : PostPlan) (past : List Seen) (x : Seen) (n : Bool) (r : Request) (reply : Reply) (xs : List Exchange) (V : Type 0) → StaysValid x
    → MatchBool b (DeliversThen plan past n r reply xs V) (Unit {0}) → MatchBool b (DeliversThen plan (x ∷ past) n r reply xs V) (Unit {0})
delivers_then_more true plan past x n r reply xs V s k = (delivers_more plan past x n xs V V (λ v. v) (λ v. s) k.0, k.1)
delivers_then_more false plan past x n r reply xs V s k = tt

rowed_more : (plan : PostPlan) (past : List Seen) (x : Seen) (stage : Stage) (xs : List Exchange) (V : Type 0) → StaysValid x → Rowed plan past stage xs V → Rowed plan (x ∷ past) stage xs V
rowed_more plan past x stage xs V s r = record { has = r.has; power = r.power; dialect = r.dialect; off = r.off; cabled = λ v. cabled_in_more (needs_isolation stage.row) past x xs s (r.cabled v); delivers = delivers_in_more (is_charging stage.row) plan past x (needs_isolation stage.row) xs V V (λ v. v) (λ v. s) r.delivers }

chosen_more : (plan : PostPlan) (past : List Seen) (x : Seen) (stage : Stage) (chosen : Option Dialect) (behind : Option EndCause) (V : Type 0) → StaysValid x → Chosen plan past stage chosen behind V → Chosen plan (x ∷ past) stage chosen behind V
chosen_more plan past x stage None behind V s h = h
chosen_more plan past x stage (Some d) behind V s h = rowed_more plan past x stage (Negotiation (Some d) ∷ []) V s h

owes_more : (c : Codecs) (plan : PostPlan) (past es : List Seen) (x : Seen) (xs : List Exchange) (stage : Stage) (spoken : Spoken) (behind : Option EndCause) (V : Type 0) → IsMore c plan past es x → Owes c plan past es xs stage spoken behind V → Owes c plan (x ∷ past) (x ∷ es) xs stage spoken behind V
owes_more c plan past es x xs stage (Response response) behind V m o =
    (o.0, (o.1.0, o.1.1, rw m.heard o.1.2, o.1.3, chosen_more plan past x stage o.1.0 behind V m.stays o.1.4))
owes_more c plan past es x xs stage (Said dialect reply) behind V m o =
    (o.0, rw m.heard o.1, o.2, record { has = o.3.has; power = o.3.power; dialect = o.3.dialect; off = o.3.off; cabled = λ v. then_more (needs_isolation stage.row) past x o.0 (read_back reply) xs m.stays m.isolation_is (o.3.cabled v); delivers = delivers_then_more (is_charging stage.row) plan past x (needs_isolation stage.row) o.0 (read_back reply) xs V m.stays o.3.delivers })

talk_more : (c : Codecs) (plan : PostPlan) (past es : List Seen) (x : Seen) (xs : List Exchange) (taken : ℕ) (stage : Stage) (reply : Option Spoken) (behind : Option EndCause) (V : Type 0) (b : Bool) → IsMore c plan past es x
    → MatchBool b (Waits c plan past es xs taken stage reply V) (Pending c plan past es xs taken stage reply behind V) → MatchBool b (Waits c plan (x ∷ past) (x ∷ es) xs taken stage reply V) (Pending c plan (x ∷ past) (x ∷ es) xs taken stage reply behind V)
talk_more c plan past es x xs taken stage reply behind V true m t = record { count = t.count; request = t.request; asks = rw m.heard t.asks; start = t.start; ok = t.ok; rowed = rowed_more plan past x stage xs V m.stays t.rowed; prepared = t.prepared; checked = λ v. checked_more (needs_isolation stage.row) past x xs m.stays (t.checked v); ready = m.ready t.ready }
talk_more c plan past es x xs taken stage None behind V false m t = (t.0, rowed_more plan past x stage xs V m.stays t.1)
talk_more c plan past es x xs taken stage (Some spoken) behind V false m t = (t.0, owes_more c plan past es x xs stage spoken behind V m t.1)

link_more : (c : Codecs) (plan : PostPlan) (past es : List Seen) (x : Seen) (stage : Stage) (unread : List ℕ) (reply : Option Spoken) (behind : Option EndCause) (V : Type 0) → IsMore c plan past es x → (is_waiting stage.row ≡ false → waits es ≡ false → waits (x ∷ es) ≡ false)
    → Link c plan past es stage unread reply behind V → Link c plan (x ∷ past) (x ∷ es) stage unread reply behind V
link_more c plan past es x stage unread reply behind V m q l = record {
  xs = l.xs;
  talks = m.talks l.xs l.talks;
  ok = l.ok;
  taken = l.taken;
  whole = rw m.heard l.whole;
  unread_is = rw m.heard l.unread_is;
  quiet = λ w. q w (l.quiet w);
  talk = talk_more c plan past es x l.xs l.taken stage reply behind V (is_waiting stage.row) m l.talk;
}

-- an act that failed: the session has a cause then
tie_failed : (c : Codecs) (plan : PostPlan) (past : List Seen) (x : Seen) (e : Option EndCause) (es : Option (List Seen)) (kept : Option Session) (r : Option Spoken) (b : Option EndCause) (V : Type 0) (cause : EndCause) (live : Bool) → Tie c plan past e es kept r b V
    → Tie c plan (x ∷ past) (failing e kept cause live).ending (with_seen x es) kept (failing e kept cause live).reply (failing e kept cause live).behind_reply V
tie_failed c plan past x None None None r b V cause live t = tt
tie_failed c plan past x (Some k) None None r b V cause live t = tt
tie_failed c plan past x e None (Some ss) r b V cause live t = absurd t
tie_failed c plan past x e (Some es) None r b V cause live t = absurd t
tie_failed c plan past x None (Some es) (Some ss) r b V cause live t = tt
tie_failed c plan past x (Some k) (Some es) (Some ss) r b V cause live t = tt

closing_failed : (c : Codecs) (plan : PostPlan) (past : List Seen) (e : Option EndCause) (kept : Option Session) (cause : EndCause) (live : Bool) → (failing e kept cause live).order ≡ Some order.Close → ⊥
closing_failed c plan past None None cause live h = no_close h
closing_failed c plan past None (Some ss) cause live h = opens live h
closing_failed c plan past (Some k) kept cause live h = no_close h

-- an order that was taken
tie_given : (c : Codecs) (plan : PostPlan) (past : List Seen) (o : Order) (now : ℕ) (e : Option EndCause) (es : Option (List Seen)) (kept : Option Session) (r : Option Spoken) (b : Option EndCause) (V : Type 0) → (o ≡ order.Close → IsWaitingIn kept × (is_ready (pilot past) ≡ true))
    → Tie c plan past e es kept r b V → Tie c plan (Did (Give o) true ∷ past) e (with_seen (Did (Give o) true) es) (option_map (since_order now o) kept) r b V
tie_given c plan past o now e None None r b V w t = tt
tie_given c plan past o now e None (Some ss) r b V w t = absurd t
tie_given c plan past o now e (Some es) None r b V w t = absurd t
tie_given c plan past o now (Some k) (Some es) (Some ss) r b V w t = tt
tie_given c plan past order.Open now None (Some es) (Some ss) r b V w t =
    link_more c plan past es (Did (Give order.Open) true) ss.stage ss.unread r b V (record { heard = refl; talks = λ xs h. h; isolation_is = refl; stays = tt; ready = λ h u. h u }) (λ n q. q) t
tie_given c plan past order.Close now None (Some es) (Some ss) r b V w t =
    link_more c plan past es (Did (Give order.Close) true) ss.stage ss.unread r b V (record { heard = refl; talks = λ xs h. h; isolation_is = refl; stays = tt; ready = λ h u. (w refl).1 }) (λ n q. absurd (let z : true ≡ false = sym (w refl).0 ∙ n in cc)) t
tie_given c plan past (order.Limits voltage current watts) now None (Some es) (Some ss) r b V w t =
    link_more c plan past es (Did (Give (order.Limits voltage current watts)) true) ss.stage ss.unread r b V (record { heard = refl; talks = λ xs h. h; isolation_is = refl; stays = tt; ready = λ h u. h u }) (λ n q. q) t

gave_linked : (c : Codecs) (plan : PostPlan) (past : List Seen) (s : State) (o : Order) (taken : Bool) → s.agenda.order ≡ Some o → Linked c plan past s → Linked c plan (Did (Give o) taken ∷ past) (giving o taken s)
gave_linked c plan past s o true h l = record {
  arrives = l.arrives;
  pilot_is = l.pilot_is;
  isolation_is = l.isolation_is;
  tie = tie_given c plan past o s.clock s.agenda.ending (session past) s.session s.agenda.reply s.agenda.behind_reply (Premise s.part s.event) (λ e. let k = l.closing (h ∙ ap (λ (x : Order). Some x) e) in (k.2, k.3)) l.tie;
  closing = λ h. absurd (no_close h);
}
gave_linked c plan past s o false h l = record {
  arrives = l.arrives;
  pilot_is = l.pilot_is;
  isolation_is = l.isolation_is;
  tie = tie_failed c plan past (Did (Give o) false) s.agenda.ending (session past) s.session s.agenda.reply s.agenda.behind_reply (Premise s.part s.event) OrderFailed (live_ordered o false s.live) l.tie;
  closing = λ h. absurd (closing_failed c plan past s.agenda.ending s.session OrderFailed (live_ordered o false s.live) h);
}

-- a datagram
tie_answered : (c : Codecs) (plan : PostPlan) (past : List Seen) (d : List ℕ) (taken : Bool) (e : Option EndCause) (es : Option (List Seen)) (kept : Option Session) (r : Option Spoken) (b : Option EndCause) (V : Type 0)
    → Tie c plan past e es kept r b V → Tie c plan (Did (Answer d) taken ∷ past) e (with_seen (Did (Answer d) taken) es) kept r b V
tie_answered c plan past d taken e None None r b V t = tt
tie_answered c plan past d taken e None (Some ss) r b V t = absurd t
tie_answered c plan past d taken e (Some es) None r b V t = absurd t
tie_answered c plan past d taken (Some k) (Some es) (Some ss) r b V t = tt
tie_answered c plan past d taken None (Some es) (Some ss) r b V t =
    link_more c plan past es (Did (Answer d) taken) ss.stage ss.unread r b V (record { heard = refl; talks = λ xs h. h; isolation_is = refl; stays = tt; ready = λ h u. h u }) (λ n q. q) t

answered_linked : (c : Codecs) (plan : PostPlan) (past : List Seen) (s : State) (d : List ℕ) (taken : Bool) → s.agenda.datagram ≡ Some d → Linked c plan past s → Linked c plan (Did (Answer d) taken ∷ past) (telling s)
answered_linked c plan past s d taken u l = record {
  arrives = l.arrives;
  pilot_is = l.pilot_is;
  isolation_is = l.isolation_is;
  tie = tie_answered c plan past d taken s.agenda.ending (session past) s.session s.agenda.reply s.agenda.behind_reply (Premise s.part s.event) l.tie;
  closing = λ h. absurd (let k = l.closing h in let x : None ≡ Some d = sym k.0 ∙ u in cc);
}

-- A reply that was taken.

start_asks : (a : Ask) (told : Tell) (o : Option ℕ) → asks_start a ≡ true → (asks_renegotiation a && any told ≡ false) × (asks_cable_check a && says_finished told ≡ false) × (newer (off_in a told) o ≡ o)
start_asks (ask.PowerDelivery progress.Start tuple profile) told o h = (refl, refl, refl)
start_asks a told o h = absurd (cc)

-- the row behind the reply that waited
pub record Confirmed (here : Phase) (ac : Bool) (x : Exchange) (xs : List Exchange) : Type 0 where
  pub has : RowHas (confirmed_row here) (x ∷ xs)
  pub power : PowerOf (confirmed_row here) ac
  pub needs : needs_isolation (confirmed_row here) ≡ needs_isolation here
  pub talks : (d : Dialect) → speaks_in (confirmed_row here) d ≡ speaks_in here d
  pub goes : is_waiting (confirmed_row here) ≡ false

row_confirmed : (here : Phase) (ac : Bool) (x : Exchange) (xs : List Exchange) → is_waiting here ≡ true → renegotiates x ≡ false → RowHas here xs → PowerOf here ac → Confirmed here ac x xs
row_confirmed row.DcClosing ac x xs w n h p = record { has = round_more [] x xs n h; power = p; needs = refl; talks = λ d. refl; goes = refl }
row_confirmed row.AcClosing ac x xs w n h p = record { has = round_more [] x xs n h; power = p; needs = refl; talks = λ d. refl; goes = refl }
row_confirmed here ac x xs w n h p = absurd (cc)

row_stays : (here : Phase) → is_waiting here ≡ false → confirmed_row here ≡ here
row_stays row.DcClosing w = cc
row_stays row.AcClosing w = cc
row_stays here w = refl

stage_stays : (stage : Stage) → is_waiting stage.row ≡ false → confirmed stage ≡ stage
stage_stays stage w = ap (λ (r : Phase). record stage { row = r }) (row_stays stage.row w)

longer : (n : ℕ) (x : Exchange) (xs : List Exchange) → n ≡ suc (length xs) → n ≡ length (x ∷ xs)
longer n x xs e = omega (arith, e)

-- the exchange of the reply
said_is : (c : Codecs) (offers : List Dialect) (heard : List ℕ) (xs : List Exchange) (bytes : List ℕ) (past : List Seen) (r : Request) (reply : Reply) (d : Dialect) → ReadsBack c → Asks c heard xs r d → IsSpoken c (Said d reply) bytes
    → IsExchange c offers heard xs bytes past (Answered r (read_back reply) past)
said_is c offers heard [] bytes past r reply d back a s = absurd (let e : None ≡ Some d = a.dialect_is in cc)
said_is c offers heard (y ∷ ys) bytes past r reply d back a s =
    (record { spoken = d; payload = a.payload; text = s.0; dialect_is = a.dialect_is; asked = a.place; request_is = a.reads; reply_is = back d reply s.0 s.1; bytes_are = s.2 }, refl)

cabled_by : (past : List Seen) (x : Seen) (r : Request) (reply : Reply) (xs : List Exchange) → StaysValid x → CabledThen past r reply xs → Cabled (x ∷ past) (Answered r reply past ∷ xs)
cabled_by past x r reply xs s (inl h) =
    let k = cabled_more past x xs s h.0 in
    record {
      behind = Answered r reply past ∷ k.behind;
      request = k.request;
      reply = k.reply;
      before = k.before;
      earlier = k.earlier;
      xs_are = ap (λ (ys : List Exchange). Answered r reply past ∷ ys) k.xs_are;
      cable_check = k.cable_check;
      newest = (h.1, k.newest);
      since = k.since;
      past_is = k.past_is;
      valid = k.valid;
      stays = k.stays;
    }
cabled_by past x r reply xs s (inr h) = record {
  behind = [];
  request = r;
  reply = reply;
  before = past;
  earlier = xs;
  xs_are = refl;
  cable_check = h.0;
  newest = tt;
  since = x ∷ [];
  past_is = refl;
  valid = h.1;
  stays = (s, tt);
}

cabled_by_if : (b : Bool) (past : List Seen) (x : Seen) (r : Request) (reply : Reply) (xs : List Exchange) → StaysValid x → MatchBool b (CabledThen past r reply xs) (Unit {0}) → MatchBool b (Cabled (x ∷ past) (Answered r reply past ∷ xs)) (Unit {0})
cabled_by_if true past x r reply xs s h = cabled_by past x r reply xs s h
cabled_by_if false past x r reply xs s h = tt

cabled_over : (b : Bool) (past : List Seen) (x : Seen) (y : Exchange) (xs : List Exchange) → StaysValid x → is_cable y ≡ false → MatchBool b (Cabled past xs) (Unit {0}) → MatchBool b (Cabled (x ∷ past) (y ∷ xs)) (Unit {0})
cabled_over true past x y xs s n h =
    let k = cabled_more past x xs s h in
    record {
      behind = y ∷ k.behind;
      request = k.request;
      reply = k.reply;
      before = k.before;
      earlier = k.earlier;
      xs_are = ap (λ (ys : List Exchange). y ∷ ys) k.xs_are;
      cable_check = k.cable_check;
      newest = (n, k.newest);
      since = k.since;
      past_is = k.past_is;
      valid = k.valid;
      stays = k.stays;
    }
cabled_over false past x y xs s n h = tt

-- a reply more, that opens nothing
delivers_by : (b : Bool) (plan : PostPlan) (past : List Seen) (x : Seen) (n : Bool) (r : Request) (reply : Reply) (xs : List Exchange) (V : Type 0) → StaysValid x
    → MatchBool b (DeliversThen plan past n r reply xs V) (Unit {0}) → MatchBool b (Delivers plan (x ∷ past) n (Answered r reply past ∷ xs) V) (Unit {0})
delivers_by false plan past x n r reply xs V s h = tt
delivers_by true plan past x n r reply xs V s h =
    let k = delivers_more plan past x n xs V V (λ v. v) (λ v. s) h.0 in
    record {
      earlier = k.earlier;
      judged = k.judged;
      started = record {
        behind = Answered r reply past ∷ k.started.behind;
        request = k.started.request;
        reply = k.started.reply;
        before = k.started.before;
        xs_are = ap (λ (ys : List Exchange). Answered r reply past ∷ ys) k.started.xs_are;
        start = k.started.start;
        goes_on = (h.1, k.started.goes_on);
        judged_is = k.started.judged_is;
      };
      prepared = k.prepared;
      checked = k.checked;
      ready = k.ready;
      own = k.own;
    }

-- the reply to PowerDelivery Start
delivers_from : (c : Codecs) (plan : PostPlan) (past es : List Seen) (xs : List Exchange) (taken : ℕ) (stage : Stage) (reply : Option Spoken) (x : Seen) (told : Reply) (n b : Bool) (V : Type 0) → needs_isolation stage.row ≡ n → session past ≡ Some es → waits es ≡ true → StaysValid x
    → (t : Waits c plan past es xs taken stage reply V) → MatchBool b (Delivers plan (x ∷ past) n (Answered t.request told past ∷ xs) V) (Unit {0})
delivers_from c plan past es xs taken stage reply x told n false V e here w s t = tt
delivers_from c plan past es xs taken stage reply x told n true V e here w s t = record {
  earlier = xs;
  judged = before_close past;
  started = record { behind = []; request = t.request; reply = told; before = past; xs_are = refl; start = t.start; goes_on = tt; judged_is = refl };
  prepared = t.prepared;
  checked = λ v. checked_more n past x xs s (subst (λ (m : Bool). MatchBool m (IsChecked past xs) (Unit {0})) e (t.checked v));
  ready = t.ready w;
  own = record { es = es; session_is = here; waited = w };
}

-- what is said, and what the session is behind it
pub record Saying (c : Codecs) (plan : PostPlan) (past es : List Seen) (xs : List Exchange) (bytes : List ℕ) (stage : Stage) (taken : ℕ) (V : Type 0) : Type 0 where
  pub x : Exchange
  pub is : IsExchange c plan.dialects.items (stream es) xs bytes past x
  pub ok : IsOk x
  pub count : taken ≡ length (x ∷ xs)
  pub goes : is_waiting (confirmed stage).row ≡ false
  pub rowed : Rowed plan (Did (Send bytes) true ∷ past) (confirmed stage) (x ∷ xs) V

pending_said : (c : Codecs) (plan : PostPlan) (past es : List Seen) (xs : List Exchange) (bytes : List ℕ) (stage : Stage) (taken : ℕ) (spoken : Spoken) (V : Type 0) → ReadsBack c → is_waiting stage.row ≡ false → IsSpoken c spoken bytes
    → Pending c plan past es xs taken stage (Some spoken) None V → Saying c plan past es xs bytes stage taken V
pending_said c plan past es xs bytes stage taken (Response response) V back w s (count, (none, (None, payload, place, neg, chosen))) = absurd (cc)
pending_said c plan past es xs bytes stage taken (Response response) V back w s (count, (none, (Some d, payload, place, neg, chosen))) =
    let x : Exchange = Negotiation (Some d) in
    record {
      x = x;
      is = subst (λ (ys : List Exchange). IsExchange c plan.dialects.items (stream es) ys bytes past x) (sym none) (record { payload = payload; response = response; first = place; judged = neg; bytes_are = s });
      ok = tt;
      count = longer taken x xs count;
      goes = ap (λ (t : Stage). is_waiting t.row) (stage_stays stage w) ∙ w;
      rowed = subst (λ (t : Stage). Rowed plan (Did (Send bytes) true ∷ past) t (x ∷ xs) V) (sym (stage_stays stage w))
          (subst (λ (ys : List Exchange). Rowed plan (Did (Send bytes) true ∷ past) stage (x ∷ ys) V) (sym none) (rowed_more plan past (Did (Send bytes) true) stage (x ∷ []) V tt chosen));
    }
pending_said c plan past es xs bytes stage taken (Said d reply) V back w s (count, (r, asks, ok, owed)) =
    let x : Exchange = Answered r (read_back reply) past in
    let rowed : Rowed plan (Did (Send bytes) true ∷ past) stage (x ∷ xs) V = record {
      has = owed.has past;
      power = owed.power;
      dialect = owed.dialect;
      off = owed.off;
      cabled = λ v. cabled_by_if (needs_isolation stage.row) past (Did (Send bytes) true) r (read_back reply) xs tt (owed.cabled v);
      delivers = delivers_by (is_charging stage.row) plan past (Did (Send bytes) true) (needs_isolation stage.row) r (read_back reply) xs V tt owed.delivers;
    } in
    record {
      x = x;
      is = said_is c plan.dialects.items (stream es) xs bytes past r reply d back asks s;
      ok = ok;
      count = longer taken x xs count;
      goes = ap (λ (t : Stage). is_waiting t.row) (stage_stays stage w) ∙ w;
      rowed = subst (λ (t : Stage). Rowed plan (Did (Send bytes) true ∷ past) t (x ∷ xs) V) (sym (stage_stays stage w)) rowed;
    }

waiting_said : (c : Codecs) (plan : PostPlan) (past es : List Seen) (xs : List Exchange) (bytes : List ℕ) (stage : Stage) (taken : ℕ) (spoken : Spoken) (V : Type 0) → ReadsBack c → is_waiting stage.row ≡ true → session past ≡ Some es → waits es ≡ true → IsSpoken c spoken bytes
    → Waits c plan past es xs taken stage (Some spoken) V → Saying c plan past es xs bytes stage taken V
waiting_said c plan past es xs bytes stage taken (Response response) V back w here u s t = absurd t.ok
waiting_said c plan past es xs bytes stage taken (Said d reply) V back w here u s t =
    let r = t.request in
    let x : Exchange = Answered r (read_back reply) past in
    let f = start_asks r.ask (read_back reply).tell (pre_charge_off xs) t.start in
    let k = row_confirmed stage.row (is_ac plan.mode) x xs w f.0 t.rowed.has t.rowed.power in
    let asks = subst (λ (q : Dialect). Asks c (stream es) xs r q) (sym t.ok.0) t.asks in
    record {
      x = x;
      is = said_is c plan.dialects.items (stream es) xs bytes past r reply d back asks s;
      ok = t.ok.1;
      count = longer taken x xs t.count;
      goes = k.goes;
      rowed = record {
        has = k.has;
        power = k.power;
        dialect = t.rowed.dialect ∙ sym (k.talks stage.dialect);
        off = f.2 ∙ t.rowed.off;
        cabled = λ v. subst (λ (b : Bool). MatchBool b (Cabled (Did (Send bytes) true ∷ past) (x ∷ xs)) (Unit {0})) (sym k.needs) (cabled_over (needs_isolation stage.row) past (Did (Send bytes) true) x xs tt f.1 (t.rowed.cabled v));
        delivers = delivers_from c plan past es xs taken stage (Some (Said d reply)) (Did (Send bytes) true) (read_back reply) (needs_isolation (confirmed_row stage.row)) (is_charging (confirmed_row stage.row)) V (sym k.needs) here u tt t;
      };
    }

either_said : (c : Codecs) (plan : PostPlan) (past es : List Seen) (xs : List Exchange) (bytes : List ℕ) (stage : Stage) (taken : ℕ) (spoken : Spoken) (V : Type 0) (b : Bool) → is_waiting stage.row ≡ b → session past ≡ Some es → (is_waiting stage.row ≡ true → waits es ≡ true) → ReadsBack c → IsSpoken c spoken bytes
    → MatchBool b (Waits c plan past es xs taken stage (Some spoken) V) (Pending c plan past es xs taken stage (Some spoken) None V) → Saying c plan past es xs bytes stage taken V
either_said c plan past es xs bytes stage taken spoken V true w here u back s t = waiting_said c plan past es xs bytes stage taken spoken V back w here (u w) s t
either_said c plan past es xs bytes stage taken spoken V false w here u back s t = pending_said c plan past es xs bytes stage taken spoken V back w s t

talk_said : (c : Codecs) (plan : PostPlan) (past es : List Seen) (xs : List Exchange) (stage : Stage) (taken : ℕ) (V : Type 0) (b : Bool) → b ≡ false → taken ≡ length xs → Rowed plan past stage xs V
    → MatchBool b (Waits c plan past es xs taken stage None V) (Pending c plan past es xs taken stage None None V)
talk_said c plan past es xs stage taken V true w n r = cc
talk_said c plan past es xs stage taken V false w n r = (n, r)

link_said : (c : Codecs) (plan : PostPlan) (past es : List Seen) (bytes : List ℕ) (stage : Stage) (unread : List ℕ) (spoken : Spoken) (V : Type 0) → ReadsBack c → (is_waiting stage.row ≡ true → waits es ≡ true) → session past ≡ Some es → IsSpoken c spoken bytes
    → Link c plan past es stage unread (Some spoken) None V → Link c plan (Did (Send bytes) true ∷ past) (Did (Send bytes) true ∷ es) (confirmed stage) unread None None V
link_said c plan past es bytes stage unread spoken V back u here s l =
    let y = either_said c plan past es l.xs bytes stage l.taken spoken V (is_waiting stage.row) refl here u back s l.talk in
    record {
      xs = y.x ∷ l.xs;
      talks = subst (λ (o : Option (List Seen)). InSession o (λ zs. OneMore c plan.dialects.items zs past bytes (Talks c plan.dialects.items past) (y.x ∷ l.xs)) (y.x ∷ l.xs ≡ [])) (sym here)
          (record { newest = y.x; earlier = l.xs; xs_are = refl; is = y.is; before = l.talks });
      ok = (y.ok, l.ok);
      taken = l.taken;
      whole = l.whole;
      unread_is = l.unread_is;
      quiet = λ w. refl;
      talk = talk_said c plan (Did (Send bytes) true ∷ past) (Did (Send bytes) true ∷ es) (y.x ∷ l.xs) (confirmed stage) l.taken V (is_waiting (confirmed stage).row) y.goes y.count y.rowed;
    }

-- the agenda behind it
tie_said : (c : Codecs) (plan : PostPlan) (past : List Seen) (bytes : List ℕ) (now : ℕ) (live : Bool) (a : Agenda) (spoken : Spoken) (e b : Option EndCause) (es : Option (List Seen)) (kept : Option Session) (V : Type 0) → ReadsBack c → (e ≡ None → Still es kept) → session past ≡ es → IsSpoken c spoken bytes
    → a.ending ≡ e → a.behind_reply ≡ b → Tie c plan past e es kept (Some spoken) b V
    → Tie c plan (Did (Send bytes) true ∷ past) (agenda_said b kept a live).ending (with_seen (Did (Send bytes) true) es) (option_map (replied now) kept) (agenda_said b kept a live).reply (agenda_said b kept a live).behind_reply V
tie_said c plan past bytes now live a spoken e b None (Some ss) V back u here s f g t = absurd t
tie_said c plan past bytes now live a spoken e b (Some es) None V back u here s f g t = absurd t
tie_said c plan past bytes now live a spoken e None None None V back u here s f g t = tt
tie_said c plan past bytes now live a spoken e (Some k) None None V back u here s f g t = tt
tie_said c plan past bytes now live a spoken e (Some k) (Some es) (Some ss) V back u here s f g t = tt
tie_said c plan past bytes now live a spoken (Some k) None (Some es) (Some ss) V back u here s f g t =
    subst (λ (x : Option EndCause). Tie c plan (Did (Send bytes) true ∷ past) x (Some (Did (Send bytes) true ∷ es)) (Some (replied now ss)) None a.behind_reply V) (sym f) tt
tie_said c plan past bytes now live a spoken None None (Some es) (Some ss) V back u here s f g t =
    let l = link_said c plan past es bytes ss.stage ss.unread spoken V back (u refl es ss refl refl) here s t in
    let m : Link c plan (Did (Send bytes) true ∷ past) (Did (Send bytes) true ∷ es) (confirmed ss.stage) ss.unread None a.behind_reply V =
    subst (λ (x : Option EndCause). Link c plan (Did (Send bytes) true ∷ past) (Did (Send bytes) true ∷ es) (confirmed ss.stage) ss.unread None x V) (sym g) l in
    subst (λ (x : Option EndCause). Tie c plan (Did (Send bytes) true ∷ past) x (Some (Did (Send bytes) true ∷ es)) (Some (replied now ss)) None a.behind_reply V) (sym f) m

closing_said : (b : Option EndCause) (kept : Option Session) (a : Agenda) (live : Bool) → a.order ≡ None → (agenda_said b kept a live).order ≡ Some order.Close → ⊥
closing_said None kept a live n h = no_close (sym n ∙ h)
closing_said (Some k) None a live n h = no_close h
closing_said (Some k) (Some ss) a live n h = opens live h

said_linked : (c : Codecs) (plan : PostPlan) (past : List Seen) (s : State) (bytes : List ℕ) (taken : Bool) (spoken : Spoken) → ReadsBack c → (s.agenda.ending ≡ None → Still (session past) s.session) → s.agenda.reply ≡ Some spoken → s.agenda.order ≡ None → IsSpoken c spoken bytes → Linked c plan past s → Linked c plan (Did (Send bytes) taken ∷ past) (saying taken s)
said_linked c plan past s bytes true spoken back u r n i l =
    let t = subst (λ (x : Option Spoken). Tie c plan past s.agenda.ending (session past) s.session x s.agenda.behind_reply (Premise s.part s.event)) r l.tie in
    record {
      arrives = l.arrives;
      pilot_is = l.pilot_is;
      isolation_is = l.isolation_is;
      tie = tie_said c plan past bytes s.clock s.live s.agenda spoken s.agenda.ending s.agenda.behind_reply (session past) s.session (Premise s.part s.event) back u refl i refl refl t;
      closing = λ h. absurd (closing_said s.agenda.behind_reply s.session s.agenda s.live n h);
    }
said_linked c plan past s bytes false spoken back u r n i l = record {
  arrives = l.arrives;
  pilot_is = l.pilot_is;
  isolation_is = l.isolation_is;
  tie = tie_failed c plan past (Did (Send bytes) false) s.agenda.ending (session past) s.session s.agenda.reply s.agenda.behind_reply (Premise s.part s.event) SendFailed s.live l.tie;
  closing = λ h. absurd (closing_failed c plan past s.agenda.ending s.session SendFailed s.live h);
}

ended_linked : (c : Codecs) (plan : PostPlan) (past : List Seen) (s : State) (cause : ℕ) (taken : Bool) → Linked c plan past s → Linked c plan (Did (End cause) taken ∷ past) (ended s)
ended_linked c plan past s cause taken l = record { arrives = l.arrives; pilot_is = l.pilot_is; isolation_is = l.isolation_is; tie = tt; closing = λ h. absurd (no_close h) }

-- which thing is first
give_is : (d : Option (List ℕ)) (o : Option Order) (r : Option Spoken) (e : Option EndCause) (x : Order) → first_of d o r e ≡ Some (states.Give x) → o ≡ Some x
give_is (Some d) o r e x h = cc
give_is None (Some o) r e x h = cc
give_is None None (Some r) e x h = cc
give_is None None None (Some e) x h = cc
give_is None None None None x h = cc

tell_is : (d : Option (List ℕ)) (o : Option Order) (r : Option Spoken) (e : Option EndCause) (x : List ℕ) → first_of d o r e ≡ Some (states.Tell x) → d ≡ Some x
tell_is (Some d) o r e x h = cc
tell_is None (Some o) r e x h = cc
tell_is None None (Some r) e x h = cc
tell_is None None None (Some e) x h = cc
tell_is None None None None x h = cc

say_is : (d : Option (List ℕ)) (o : Option Order) (r : Option Spoken) (e : Option EndCause) (x : Spoken) → first_of d o r e ≡ Some (states.Say x) → (r ≡ Some x) × (o ≡ None)
say_is (Some d) o r e x h = cc
say_is None (Some o) r e x h = cc
say_is None None (Some r) e x h = (cc, refl)
say_is None None None (Some e) x h = cc
say_is None None None None x h = cc

pub acted_linked : (c : Codecs) (plan : PostPlan) (past : List Seen) (s : State) (todo : states.Todo) (a : Act) (taken : Bool) → ReadsBack c → Shut past s → first s.agenda ≡ Some todo → IsDone c todo a taken → Linked c plan past s → Linked c plan (Did a taken ∷ past) (acted a taken s)
acted_linked c plan past s (states.Tell d) a taken back u f i l =
    subst (λ (x : Act). Linked c plan (Did x taken ∷ past) (acted x taken s)) (sym i) (answered_linked c plan past s d taken (tell_is s.agenda.datagram s.agenda.order s.agenda.reply s.agenda.ending d f) l)
acted_linked c plan past s (states.Give o) a taken back u f i l =
    subst (λ (x : Act). Linked c plan (Did x taken ∷ past) (acted x taken s)) (sym i) (gave_linked c plan past s o taken (give_is s.agenda.datagram s.agenda.order s.agenda.reply s.agenda.ending o f) l)
acted_linked c plan past s (states.Say spoken) a taken back u f i l =
    let e = say_is s.agenda.datagram s.agenda.order s.agenda.reply s.agenda.ending spoken f in
    subst (λ (x : Act). Linked c plan (Did x taken ∷ past) (acted x taken s)) (sym i.2) (said_linked c plan past s i.0 taken spoken back (λ n. shut_still past s (u n) e.1) e.0 e.1 i.1 l)
acted_linked c plan past s (states.Finish cause) a taken back u f i l =
    subst (λ (x : Act). Linked c plan (Did x taken ∷ past) (acted x taken s)) (sym i.0) (ended_linked c plan past s (number_of cause) taken l)
