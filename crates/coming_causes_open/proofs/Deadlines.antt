-- A deadline that is reached opens a live contactor.
use Rattle.std.proofs.Common.{◌≡◌, ◌≤◌, ◌<◌, ℕ, ◌+◌, Bool, true, false, if◌then◌else◌, List, [], ◌∷◌, map, Option, Some, None, unwrap_or, refl, sym, ap, subst, ◌∙◌}
use Rattle.std.specs.Option.{option_map}
use Rattle.std.proofs.lemmas.Bool.Decides.{nat_tests}
use Rattle.std.proofs.Common.{arith}
use Rattle.charge_world.specs.declared.offer.Dialect.{Dialect}
use Rattle.charge_world.specs.declared.ports.Order.{Order}
use Rattle.charge_world.specs.declared.ports.Order.TheVariants as order
use Rattle.session_words.specs.declared.cause.EndCause.{EndCause}
use Rattle.session_words.specs.declared.code.Progress.TheVariants as progress
use Rattle.session_words.specs.declared.facts.Facts.{Facts}
use Rattle.session_words.specs.declared.phase.Phase.{Phase}
use Rattle.session_words.specs.declared.phase.Phase.TheVariants as row
use Rattle.session_words.specs.declared.plan.PostPlan.{PostPlan}
use Rattle.session_words.specs.declared.word.Ask.{Ask}
use Rattle.session_words.specs.declared.word.Ask.TheVariants as ask
use Rattle.session_words.specs.declared.word.Request.{Request}
use Rattle.session_timers.specs.Due.{never}
use Rattle.session_timers.specs.Law.{span_of}
use Rattle.session_rules.specs.declared.stage.Stage.{Stage}
use Rattle.session_rules.specs.Deadlines.{timeout_of}
use Rattle.session_rules.specs.Finishing.{is_ac, is_finished}
use Rattle.session_rules.specs.Moves.{stage_behind}
use Rattle.session_rules.specs.Rows.{leads, may_stop}
use Rattle.session_rules.specs.Stages.{is_set_up, is_waiting, confirmed_row}
use Rattle.session_rules.specs.Verdict.{verdict, is_accepted}
use Rattle.post_spec.specs.Causes.{running, counts_from}
use Rattle.post_spec.specs.Causes as causes
use Rattle.post_spec.specs.Course.{Talked}
use Rattle.post_spec.specs.Codecs.{Judged, Negotiated, Asked, WrongSide, Refused, Codecs, Judges}
use Rattle.post_spec.specs.Facts.{now}
use Rattle.post_spec.specs.Sessions.{arriving, session_behind, session, with_seen, waits, came_at, replied_at, closed_at, brought}
use Rattle.post_spec.specs.Spelled.{ReadsBack}
use Rattle.post_spec.specs.Steps.{Event, Act, Give, Send, Answer, End, Seen, Heard, Did, Reading, Step, Hears, Does, seen_of}
use Rattle.station_spec.specs.States.{Agenda, Spoken, Session, State, nothing, first_session, first, first_of, is_none, is_done}
use Rattle.station_spec.specs.States as states
use Rattle.station_spec.specs.Deciding.{ending_in, decided, due, is_reached}
use Rattle.station_spec.specs.Judging.{Payload, payload_in, wanted, speaks, speaks_in, chosen_stage, judged, taken_in, read, filled, IsRead}
use Rattle.station_spec.specs.Hearing.{with_bytes, session_opened}
use Rattle.station_spec.specs.Acting.{since_order, failing, agenda_said, replied, giving, saying, acted, state}
use Rattle.station_spec.specs.Next.{IsDone}
use Rattle.station_spec.specs.Sharing.{Shows}
use Rattle.station_laws.specs.PostRuns.{IsPostRun}
use Rattle.station_laws.proofs.Decided.{decided_by, same_session}
use Rattle.read_runs.proofs.Arrivals.{Arrives, steps_arrive}
use Rattle.read_runs.specs.Courses.{talked_of}
use Rattle.read_runs.proofs.Facts.{Hearing, filled_hearing, facts_are_read}
use Rattle.safe_runs.proofs.Filled.{filled_linked}
use Rattle.safe_runs.proofs.Links.{Premise, IsWaitingIn, Tie, Linked}
use Rattle.safe_runs.proofs.Parts.{decided_planned}
use Rattle.safe_runs.proofs.Safety.{run_linked}
use Rattle.safe_runs.proofs.Shut.{Still}
use Rattle.mandated_runs.proofs.Held.{front_in, spoken_not}
use Rattle.coming_causes_open.proofs.Ending.{give_is}

-- the moment of the newest hearing, and the first entry of a session
not_empty_with : (x : Seen) (lives : Option (List Seen)) → with_seen x lives ≡ Some [] → ⊥
not_empty_with x None h = absurd (cc)
not_empty_with x (Some zs) h = absurd (let y : x ∷ zs ≡ [] = cc in cc)

not_empty : (past : List Seen) → session past ≡ Some [] → ⊥
not_empty [] h = absurd (cc)
not_empty (Heard at e ∷ past) h = not_empty_with (Heard at e) (session_behind (arriving past) (session past)) h
not_empty (Did (Give o) taken ∷ past) h = not_empty_with (Did (Give o) taken) (session past) h
not_empty (Did (Send bytes) taken ∷ past) h = not_empty_with (Did (Send bytes) taken) (session past) h
not_empty (Did (Answer bytes) taken ∷ past) h = not_empty_with (Did (Answer bytes) taken) (session past) h
not_empty (Did (End cause) taken ∷ past) h = absurd (cc)

came_more : (past : List Seen) (at : ℕ) (e : Event) (es : List Seen) → session past ≡ Some es → came_at (Heard at e ∷ es) ≡ came_at es
came_more past at e [] h = absurd (not_empty past h)
came_more past at e (x ∷ es) h = refl

now_with : (x : Seen) (lives : Option (List Seen)) (es : List Seen) (n : ℕ) → with_seen x lives ≡ Some es → ((zs : List Seen) → lives ≡ Some zs → now (x ∷ zs) ≡ n) → now es ≡ n
now_with x None es n h f = cc
now_with x (Some zs) es n h f = let y : x ∷ zs ≡ es = cc in subst (λ (ys : List Seen). now ys ≡ n) y (f zs refl)

now_same : (past es : List Seen) → session past ≡ Some es → now es ≡ now past
now_same [] es h = cc
now_same (Heard at e ∷ past) es h = now_with (Heard at e) (session_behind (arriving past) (session past)) es at h (λ zs l. refl)
now_same (Did (Give o) taken ∷ past) es h = now_with (Did (Give o) taken) (session past) es (now past) h (λ zs l. now_same past zs l)
now_same (Did (Send bytes) taken ∷ past) es h = now_with (Did (Send bytes) taken) (session past) es (now past) h (λ zs l. now_same past zs l)
now_same (Did (Answer bytes) taken ∷ past) es h = now_with (Did (Answer bytes) taken) (session past) es (now past) h (λ zs l. now_same past zs l)
now_same (Did (End cause) taken ∷ past) es h = cc

-- from when the deadline of a session counts
pub record Since (es : List Seen) (ss : Session) (reply : Option Spoken) : Type 0 where
  pub came : is_set_up ss.stage.row ≡ false → ss.since ≡ came_at es
  pub answered : is_set_up ss.stage.row ≡ true → is_waiting ss.stage.row ≡ false → reply ≡ None → ss.since ≡ replied_at es
  pub shut : is_waiting ss.stage.row ≡ true → waits es ≡ true → ss.since ≡ closed_at es

abbrev pub SinceIn : Option (List Seen) → Option Session → Agenda → Type 0
SinceIn lives kept a = (es : List Seen) (ss : Session) → lives ≡ Some es → kept ≡ Some ss → a.ending ≡ None → Since es ss a.reply

abbrev pub Sinced : List Seen → State → Type 0
Sinced past s = SinceIn (session past) s.session s.agenda

since_any : (es : List Seen) (ss : Session) (r t : Option Spoken) → r ≡ None → Since es ss r → Since es ss t
since_any es ss r t n x = record { came = x.came; answered = λ u w e. x.answered u w n; shut = x.shut }

done_none : (d : Option (List ℕ)) (o : Option Order) (r : Option Spoken) (e : Option EndCause) → is_none (first_of d o r e) ≡ true → (r ≡ None) × (e ≡ None)
done_none None None None None h = (refl, refl)
done_none None None None (Some k) h = cc
done_none None None (Some r) e h = cc
done_none None (Some o) r e h = cc
done_none (Some d) o r e h = cc

rest_since : (past : List Seen) (s : State) (t : Option Spoken) → is_done s.agenda ≡ true → Sinced past s → (es : List Seen) (ss : Session) → session past ≡ Some es → s.session ≡ Some ss → Since es ss t
rest_since past s t d p es ss l k =
    let n = done_none s.agenda.datagram s.agenda.order s.agenda.reply s.agenda.ending d in
    since_any es ss s.agenda.reply t n.0 (p es ss l k n.1)

decided_since : (plan : PostPlan) (past : List Seen) (s : State) → Sinced past s → Sinced past (decided plan s)
decided_since plan past s p = decided_by (Sinced past) plan s (λ d. record {
  repeats = λ es ss l k e. rest_since past s _ d p es ss l k;
  times = λ es ss l k e. rest_since past s _ d p es ss l k;
  events = λ es ss l k e. rest_since past s _ d p es ss l k;
  fronts = λ es ss l k e. rest_since past s _ d p es ss l k;
}) p

-- a word
stays : (b : Bool) (here : Phase) → is_set_up (unwrap_or (if b then Some here else None) here) ≡ is_set_up here
stays true here = refl
stays false here = refl

row_stays : (here : Phase) (a : Ask) (f ac : Bool) → is_set_up here ≡ true → is_set_up (unwrap_or (leads here a f ac) here) ≡ true
row_stays here (ask.SessionStop pause) f ac h = stays (may_stop here) here ∙ h
row_stays row.Negotiated (ask.SessionSetup car) f ac h = refl
row_stays row.SetUp ask.ServiceDiscovery f ac h = refl
row_stays row.Discovered (ask.ServiceDetail service) f ac h = refl
row_stays row.Discovered (ask.PaymentSelection external services) f ac h = refl
row_stays row.Selected ask.Authorization true ac h = refl
row_stays row.Selected ask.Authorization false ac h = refl
row_stays row.Authorized (ask.ChargeParameters mode limits) true true h = refl
row_stays row.Authorized (ask.ChargeParameters mode limits) true false h = refl
row_stays row.Authorized (ask.ChargeParameters mode limits) false ac h = refl
row_stays row.DcReady (ask.CableCheck ready soc) true ac h = refl
row_stays row.DcReady (ask.CableCheck ready soc) false ac h = refl
row_stays row.DcChecked (ask.PreCharge ready soc voltage current) f ac h = refl
row_stays row.DcPreCharging (ask.PowerDelivery progress.Start tuple profile) f ac h = refl
row_stays row.DcCharging (ask.PowerDelivery progress.Stop tuple profile) f ac h = refl
row_stays row.DcCharging (ask.PowerDelivery progress.Renegotiate tuple profile) f ac h = refl
row_stays row.DcCharging (ask.CurrentDemand ready soc voltage current) f ac h = refl
row_stays row.AcCharging ask.ChargingStatus f ac h = refl
row_stays row.DcPreCharging (ask.PreCharge ready soc voltage current) f ac h = refl
row_stays row.AcReady (ask.PowerDelivery progress.Start tuple profile) f ac h = refl
row_stays row.AcCharging (ask.PowerDelivery progress.Stop tuple profile) f ac h = refl
row_stays row.AcCharging (ask.PowerDelivery progress.Renegotiate tuple profile) f ac h = refl
row_stays row.DcStopped (ask.WeldingDetection ready soc) f ac h = refl
row_stays here a f ac h = h

stage_stays : (s : Stage) (facts : Facts) (plan : PostPlan) (r : Request) (shown : ℕ) (b : Bool) → is_accepted (verdict s facts plan r) ≡ b → is_set_up s.row ≡ true → is_set_up (stage_behind s facts plan r shown).row ≡ true
stage_stays s facts plan r shown true e h = rw e (row_stays s.row r.ask (is_finished facts plan r.ask shown) (is_ac plan.mode) h)
stage_stays s facts plan r shown false e h = rw e h

before_set_up : (s : Stage) (facts : Facts) (plan : PostPlan) (r : Request) (shown : ℕ) (b : Bool) → is_set_up s.row ≡ b → is_set_up (stage_behind s facts plan r shown).row ≡ false → is_set_up s.row ≡ false
before_set_up s facts plan r shown true e h = absurd (let x : true ≡ false = sym (stage_stays s facts plan r shown (is_accepted (verdict s facts plan r)) refl e) ∙ h in cc)
before_set_up s facts plan r shown false e h = e

is_session : (ss ts : Session) → Some ss ≡ Some ts → ss ≡ ts
is_session ss ts h = cc

unanswered : (b : Bool) (x : Spoken) → b ≡ false → (if b then None else Some x) ≡ None → ⊥
unanswered true x w h = absurd (cc)
unanswered false x w h = absurd (let y : Some x ≡ None = h in cc)

no_setup : (here : Phase) (d : Dialect) → is_set_up here ≡ true → speaks_in here d ≡ Some d
no_setup row.Connected d h = cc
no_setup here d h = refl

chosen_came : (c : Codecs) (plan : PostPlan) (stage : Stage) (payload : List ℕ) (chosen : Option Dialect) (response : List ℕ) (b : Bool) → is_set_up stage.row ≡ b → Judges c plan.dialects.items (speaks stage) payload (Negotiated chosen response) → is_set_up stage.row ≡ false
chosen_came c plan stage payload chosen response true e j = absurd (spoken_not c plan.dialects.items (speaks stage) stage.dialect payload chosen response (no_setup stage.row stage.dialect e) j)
chosen_came c plan stage payload chosen response false e j = e

chosen_same : (stage : Stage) (chosen : Option Dialect) → is_set_up stage.row ≡ false → is_set_up (chosen_stage stage chosen).row ≡ false
chosen_same stage None h = h
chosen_same stage (Some d) h = refl

chosen_still : (stage : Stage) (chosen : Option Dialect) → is_waiting stage.row ≡ false → is_waiting (chosen_stage stage chosen).row ≡ false
chosen_still stage None h = h
chosen_still stage (Some d) h = refl

judged_since : (c : Codecs) (plan : PostPlan) (lives : Option (List Seen)) (s : State) (ss : Session) (x : Judged) (shown : ℕ) (payload : List ℕ) → Judges c plan.dialects.items (speaks ss.stage) payload x → is_waiting ss.stage.row ≡ false
    → ((es : List Seen) → lives ≡ Some es → waits es ≡ false) → ((es : List Seen) → lives ≡ Some es → Since es ss None) → SinceIn lives (judged plan s ss x shown).session (judged plan s ss x shown).agenda
judged_since c plan lives s ss (Negotiated chosen response) shown payload j w u p = λ es ts l k e.
    let n = chosen_came c plan ss.stage payload chosen response (is_set_up ss.stage.row) refl j in
    subst (λ (y : Session). Since es y (Some (states.Response response))) (is_session _ ts k) (record {
      came = λ h. (p es l).came n;
      answered = λ h q r. absurd (let y : true ≡ false = sym h ∙ chosen_same ss.stage chosen n in cc);
      shut = λ h q. absurd (let y : true ≡ false = sym h ∙ chosen_still ss.stage chosen w in cc);
    })
judged_since c plan lives s ss (Asked r) shown payload j w u p = λ es ts l k e.
    subst (λ (y : Session). Since es y (judged plan s ss (Asked r) shown).agenda.reply) (is_session _ ts k) (record {
      came = λ h. (p es l).came (before_set_up ss.stage s.facts plan r shown (is_set_up ss.stage.row) refl h);
      answered = λ h q n. absurd (unanswered (is_waiting (stage_behind ss.stage s.facts plan r shown).row) _ q n);
      shut = λ h q. absurd (let y : true ≡ false = sym q ∙ u es l in cc);
    })
judged_since c plan lives s ss WrongSide shown payload j w u p = λ es ts l k e. absurd (cc)
judged_since c plan lives s ss Refused shown payload j w u p = λ es ts l k e. absurd (cc)

tie_waits : (c : Codecs) (plan : PostPlan) (past : List Seen) (ending : Option EndCause) (lives : Option (List Seen)) (kept : Option Session) (reply : Option Spoken) (behind : Option EndCause) (V : Type 0) (es : List Seen) (ss : Session) → Tie c plan past ending lives kept reply behind V
    → ending ≡ None → lives ≡ Some es → kept ≡ Some ss → is_waiting ss.stage.row ≡ false → waits es ≡ false
tie_waits c plan past (Some k) lives kept reply behind V es ss t e l h w = cc
tie_waits c plan past None None kept reply behind V es ss t e l h w = cc
tie_waits c plan past None (Some ys) None reply behind V es ss t e l h w = cc
tie_waits c plan past None (Some ys) (Some ts) reply behind V es ss t e l h w =
    let x : ts ≡ ss = is_session ts ss h in
    let y : ys ≡ es = cc in
    subst (λ (us : List Seen). waits us ≡ false) y (t.quiet (subst (λ (u : Session). is_waiting u.stage.row ≡ false) (sym x) w))

taken_since : (c : Codecs) (plan : PostPlan) (past : List Seen) (s : State) (kept : Option Session) (r : Reading) (p : Payload) → s.session ≡ kept → payload_in kept ≡ Some p → Judges c plan.dialects.items p.dialect p.bytes r.judged → is_done s.agenda ≡ true
    → ((es : List Seen) (ss : Session) → session past ≡ Some es → s.session ≡ Some ss → is_waiting ss.stage.row ≡ false → waits es ≡ false) → Sinced past s → Sinced past (taken_in plan s kept r)
taken_since c plan past s None r p q e j d u k = cc
taken_since c plan past s (Some ss) r p q e j d u k =
    let f = front_in ss p (is_waiting ss.stage.row) refl e in
    judged_since c plan (session past) s ss r.judged r.shown p.bytes (subst (λ (y : Option Dialect). Judges c plan.dialects.items y p.bytes r.judged) f.spoken j) f.still
    (λ es l. u es ss l q f.still) (λ es l. rest_since past s None d k es ss l q)

wanted_since : (c : Codecs) (plan : PostPlan) (past : List Seen) (s : State) (r : Reading) (p : Payload) (b : Bool) → is_done s.agenda ≡ b → wanted s ≡ Some p → Judges c plan.dialects.items p.dialect p.bytes r.judged
    → (is_done s.agenda ≡ true → (es : List Seen) (ss : Session) → session past ≡ Some es → s.session ≡ Some ss → is_waiting ss.stage.row ≡ false → waits es ≡ false) → Sinced past s → Sinced past (taken_in plan s s.session r)
wanted_since c plan past s r p true d e j u k = taken_since c plan past s s.session r p refl (let x = rw d at e in x) j d (u d) k
wanted_since c plan past s r p false d e j u k = absurd (let x = rw d at e in cc)

read_since : (c : Codecs) (plan : PostPlan) (S : ℕ → ℕ → Type 0) (past : List Seen) (s : State) (w : Option Payload) (r : Option Reading) → wanted s ≡ w → IsRead c plan S s w r
    → (is_done s.agenda ≡ true → (es : List Seen) (ss : Session) → session past ≡ Some es → s.session ≡ Some ss → is_waiting ss.stage.row ≡ false → waits es ≡ false) → Sinced past s → Sinced past (read plan s r)
read_since c plan S past s w None e i u k = k
read_since c plan S past s None (Some r) e i u k = absurd i
read_since c plan S past s (Some p) (Some r) e i u k = wanted_since c plan past s r p (is_done s.agenda) refl e i.0 u k

filled_since : (c : Codecs) (plan : PostPlan) (S : ℕ → ℕ → Type 0) (past : List Seen) (s : State) (r : Option Reading) → IsRead c plan S (decided plan s) (wanted (decided plan s)) r → Linked c plan past s → Sinced past s → Sinced past (filled plan r s)
filled_since c plan S past s r i l k =
    let t = decided plan s in
    read_since c plan S past t (wanted t) r refl i
    (λ d es ss h q w. tie_waits c plan past None (session past) t.session None None (Unit {0}) es ss ((decided_planned c plan past s l).clear d).tie refl h q w) (decided_since plan past s k)

-- an act
some_list : (ys es : List Seen) → Some ys ≡ Some es → ys ≡ es
some_list ys es h = cc

acted_with : (x : Seen) (lives : Option (List Seen)) (kept : Option Session) (f : Session → Session) (e e' : Option EndCause) (r t : Option Spoken) → (e' ≡ None → e ≡ None) → ((es : List Seen) (ss : Session) → lives ≡ Some es → kept ≡ Some ss → Since es ss r → Since (x ∷ es) (f ss) t)
    → ((es : List Seen) (ss : Session) → lives ≡ Some es → kept ≡ Some ss → e ≡ None → Since es ss r) → (es : List Seen) (ss : Session) → with_seen x lives ≡ Some es → option_map f kept ≡ Some ss → e' ≡ None → Since es ss t
acted_with x None kept f e e' r t n g p es ss l k h = cc
acted_with x (Some ys) None f e e' r t n g p es ss l k h = cc
acted_with x (Some ys) (Some us) f e e' r t n g p es ss l k h =
    let y : x ∷ ys ≡ es = some_list (x ∷ ys) es l in
    let z : f us ≡ ss = is_session (f us) ss k in
    subst (λ (zs : List Seen). Since zs ss t) y (subst (λ (w : Session). Since (x ∷ ys) w t) z (g ys us refl refl (p ys us refl refl (n h))))

failed_since : (lives : Option (List Seen)) (e : Option EndCause) (kept : Option Session) (cause : EndCause) (live : Bool) → SinceIn lives kept (failing e kept cause live)
failed_since lives None None cause live = λ es ss l k h. absurd (let y : None ≡ Some ss = k in cc)
failed_since lives None (Some us) cause live = λ es ss l k h. absurd (cc)
failed_since lives (Some k) kept cause live = λ es ss l q h. absurd (cc)

waiting_set_up : (here : Phase) → is_waiting here ≡ true → is_set_up here ≡ true
waiting_set_up row.DcClosing h = refl
waiting_set_up row.AcClosing h = refl
waiting_set_up here h = absurd (cc)

waiting_at : (kept : Option Session) (ss : Session) → IsWaitingIn kept → kept ≡ Some ss → is_waiting ss.stage.row ≡ true
waiting_at None ss w k = absurd w
waiting_at (Some us) ss w k = subst (λ (y : Session). is_waiting y.stage.row ≡ true) (is_session us ss k) w

given_since : (past : List Seen) (o : Order) (clock : ℕ) (kept : Option Session) (reply : Option Spoken) (es : List Seen) (ss : Session) → clock ≡ now past → (o ≡ order.Close → IsWaitingIn kept) → session past ≡ Some es → kept ≡ Some ss → Since es ss reply
    → Since (Did (Give o) true ∷ es) (since_order clock o ss) reply
given_since past order.Open clock kept reply es ss t w l k p = record { came = p.came; answered = p.answered; shut = p.shut }
given_since past order.Close clock kept reply es ss t w l k p =
    let q = waiting_at kept ss (w refl) k in
    record {
      came = λ h. absurd (let y : true ≡ false = sym (waiting_set_up ss.stage.row q) ∙ h in cc);
      answered = λ h n e. absurd (let y : true ≡ false = sym q ∙ n in cc);
      shut = λ h n. t ∙ sym (now_same past es l);
    }
given_since past (order.Limits voltage current watts) clock kept reply es ss t w l k p = record { came = p.came; answered = p.answered; shut = p.shut }

gave_since : (past : List Seen) (s : State) (o : Order) (taken : Bool) → s.clock ≡ now past → (o ≡ order.Close → IsWaitingIn s.session) → Sinced past s → Sinced (Did (Give o) taken ∷ past) (giving o taken s)
gave_since past s o true t w p =
    acted_with (Did (Give o) true) (session past) s.session (since_order s.clock o) s.agenda.ending s.agenda.ending s.agenda.reply s.agenda.reply (λ h. h) (λ es ss l k q. given_since past o s.clock s.session s.agenda.reply es ss t w l k q) p
gave_since past s o false t w p = failed_since (with_seen (Did (Give o) false) (session past)) s.agenda.ending s.session _ _

confirmed_set_up : (here : Phase) → is_set_up (confirmed_row here) ≡ is_set_up here
confirmed_set_up row.DcClosing = refl
confirmed_set_up row.AcClosing = refl
confirmed_set_up here = refl

confirmed_goes : (here : Phase) → is_waiting (confirmed_row here) ≡ false
confirmed_goes row.DcClosing = refl
confirmed_goes row.AcClosing = refl
confirmed_goes here = refl

since_if : (b : Bool) (n m k : ℕ) → b ≡ true → n ≡ k → (if b then n else m) ≡ k
since_if true n m k e h = h
since_if false n m k e h = cc

since_else : (b : Bool) (n m k : ℕ) → b ≡ false → m ≡ k → (if b then n else m) ≡ k
since_else true n m k e h = cc
since_else false n m k e h = h

said_one : (past : List Seen) (bytes : List ℕ) (clock : ℕ) (reply : Option Spoken) (es : List Seen) (ss : Session) → clock ≡ now past → session past ≡ Some es → Since es ss reply → Since (Did (Send bytes) true ∷ es) (replied clock ss) None
said_one past bytes clock reply es ss t l p = record {
  came = λ h. let n = sym (confirmed_set_up ss.stage.row) ∙ h in since_else (is_set_up ss.stage.row) clock ss.since (came_at es) n (p.came n);
  answered = λ h w e. since_if (is_set_up ss.stage.row) clock ss.since (now es) (sym (confirmed_set_up ss.stage.row) ∙ h) (t ∙ sym (now_same past es l));
  shut = λ h w. absurd (let y : true ≡ false = sym h ∙ confirmed_goes ss.stage.row in cc);
}

said_ends : (lives : Option (List Seen)) (kept : Option Session) (f : Session → Session) (cause : EndCause) (live : Bool) → SinceIn lives (option_map f kept) (ending_in kept cause live)
said_ends lives None f cause live = λ es ss l k h. absurd (let y : None ≡ Some ss = k in cc)
said_ends lives (Some us) f cause live = λ es ss l k h. absurd (cc)

said_since : (past : List Seen) (bytes : List ℕ) (b : Option EndCause) (s : State) → s.clock ≡ now past → Sinced past s → SinceIn (with_seen (Did (Send bytes) true) (session past)) (option_map (replied s.clock) s.session) (agenda_said b s.session s.agenda s.live)
said_since past bytes None s t p =
    acted_with (Did (Send bytes) true) (session past) s.session (replied s.clock) s.agenda.ending s.agenda.ending s.agenda.reply None (λ h. h) (λ es ss l k q. said_one past bytes s.clock s.agenda.reply es ss t l q) p
said_since past bytes (Some cause) s t p = said_ends (with_seen (Did (Send bytes) true) (session past)) s.session (replied s.clock) cause s.live

spoke_since : (past : List Seen) (bytes : List ℕ) (taken : Bool) (s : State) → s.clock ≡ now past → Sinced past s → Sinced (Did (Send bytes) taken ∷ past) (saying taken s)
spoke_since past bytes true s t p = said_since past bytes s.agenda.behind_reply s t p
spoke_since past bytes false s t p = failed_since (with_seen (Did (Send bytes) false) (session past)) s.agenda.ending s.session _ _

map_id : (kept : Option Session) (ss : Session) → kept ≡ Some ss → option_map (λ y. y) kept ≡ Some ss
map_id None ss h = cc
map_id (Some us) ss h = h

told_since : (past : List Seen) (d : List ℕ) (taken : Bool) (s : State) → Sinced past s → Sinced (Did (Answer d) taken ∷ past) (acted (Answer d) taken s)
told_since past d taken s p = λ es ss l k h.
    acted_with (Did (Answer d) taken) (session past) s.session (λ y. y) s.agenda.ending s.agenda.ending s.agenda.reply s.agenda.reply (λ e. e) (λ zs us m q x. record { came = x.came; answered = x.answered; shut = x.shut }) p es ss l (map_id s.session ss k) h

acted_since : (c : Codecs) (plan : PostPlan) (past : List Seen) (s : State) (todo : states.Todo) (a : Act) (taken : Bool) → first s.agenda ≡ Some todo → IsDone c todo a taken → Linked c plan past s → s.clock ≡ now past → Sinced past s → Sinced (Did a taken ∷ past) (acted a taken s)
acted_since c plan past s (states.Tell d) a taken f i l t p = subst (λ (x : Act). Sinced (Did x taken ∷ past) (acted x taken s)) (sym i) (told_since past d taken s p)
acted_since c plan past s (states.Give o) a taken f i l t p =
    let g = give_is s.agenda.datagram s.agenda.order s.agenda.reply s.agenda.ending o f in
    subst (λ (x : Act). Sinced (Did x taken ∷ past) (acted x taken s)) (sym i) (gave_since past s o taken t (λ e. (l.closing (g ∙ ap (λ (y : Order). Some y) e)).2) p)
acted_since c plan past s (states.Say spoken) a taken f i l t p = subst (λ (x : Act). Sinced (Did x taken ∷ past) (acted x taken s)) (sym i.2) (spoke_since past i.0 taken s t p)
acted_since c plan past s (states.Finish cause) a taken f i l t p = subst (λ (x : Act). Sinced (Did x taken ∷ past) (acted x taken s)) (sym i.0) (λ es ss k q e. absurd (let y : None ≡ Some ss = q in cc))

-- a hearing
heard_one : (past : List Seen) (at : ℕ) (e : Event) (es : List Seen) (ss : Session) → session past ≡ Some es → Since es ss None → Since (Heard at e ∷ es) (with_bytes (brought e) ss) None
heard_one past at e es ss l p = record { came = λ h. p.came h ∙ sym (came_more past at e es l); answered = λ h w n. p.answered h w n; shut = λ h w. p.shut h w }

heard_since : (past : List Seen) (at clock : ℕ) (e : Event) (came : Option Seen) (arrived : Option ℕ) (kept : Option Session) → clock ≡ now past → Arrives arrived came (now past) → ((es : List Seen) (ss : Session) → session past ≡ Some es → kept ≡ Some ss → Since es ss None)
    → SinceIn (with_seen (Heard at e) (session_behind came (session past))) (option_map (with_bytes (brought e)) (session_opened arrived clock kept)) nothing
heard_since past at clock e None None kept t a p = acted_with (Heard at e) (session past) kept (with_bytes (brought e)) None None None None (λ h. h) (λ es ss l k q. heard_one past at e es ss l q) (λ es ss l k h. p es ss l k)
heard_since past at clock e None (Some token) kept t a p = absurd a
heard_since past at clock e (Some came) None kept t a p = absurd a
heard_since past at clock e (Some came) (Some token) kept t a p = λ es ss l k h.
    let y : Heard at e ∷ came ∷ [] ≡ es = some_list _ es l in
    let z : with_bytes (brought e) (first_session token clock) ≡ ss = is_session _ ss k in
    subst (λ (zs : List Seen). Since zs ss None) y (subst (λ (w : Session). Since (Heard at e ∷ came ∷ []) w None) z (record {
      came = λ g. t ∙ ap (λ (x : Seen). came_at (x ∷ [])) (sym a);
      answered = λ g w n. absurd (cc);
      shut = λ g w. absurd (cc);
    }))

pub steps_since : (c : Codecs) (plan : PostPlan) (steps : List Step) → ReadsBack c → IsPostRun c plan steps → Sinced (map seen_of steps) (state plan steps)
steps_since c plan [] back run = λ es ss l k h. absurd (let y : None ≡ Some ss = k in cc)
steps_since c plan (Hears at e ∷ steps) back run =
    let past = map seen_of steps in
    let s = state plan steps in
    let q = run.1 in
    let p = decided_since plan past s (steps_since c plan steps back run.0) in
    heard_since past at s.clock e (arriving past) s.arrived s.session (facts_are_read plan steps).clock_is (steps_arrive plan steps)
    (λ es ss l k. rest_since past (decided plan s) None (ap is_none q.none) p es ss l (same_session plan s ∙ k))
steps_since c plan (Does r a taken ∷ steps) back (run, (limit, before, behind, acts)) =
    let past = map seen_of steps in
    let s = state plan steps in
    let f = filled plan r s in
    let l = run_linked c plan steps back run in
    let t : f.clock ≡ now past = ap (λ (h : Hearing). h.clock) (filled_hearing plan r s) ∙ (facts_are_read plan steps).clock_is in
    acted_since c plan past f acts.todo a taken acts.acts acts.done (filled_linked c plan (Shows limit before behind) past s r acts.read l) t
    (filled_since c plan (Shows limit before behind) past s r acts.read l (steps_since c plan steps back run))

-- The deadline of the session is that of its past.

running_is : (here : Phase) → timeout_of here ≡ running (is_set_up here) (is_waiting here)
running_is row.Connected = refl
running_is row.Negotiated = refl
running_is row.DcClosing = refl
running_is row.AcClosing = refl
running_is here = refl

counts : (es : List Seen) (ss : Session) (u w : Bool) → is_set_up ss.stage.row ≡ u → is_waiting ss.stage.row ≡ w → waits es ≡ w → Since es ss None → ss.since ≡ counts_from (running u w) es
counts es ss false w a b d p = p.came a
counts es ss true false a b d p = p.answered a b refl
counts es ss true true a b d p = p.shut b d

pub due_is : (es : List Seen) (ss : Session) (t : Talked) → talked_of ss ≡ t → waits es ≡ is_waiting ss.stage.row → Since es ss None → due ss ≡ causes.due (Some t) es
due_is es ss t e w p =
    let n = counts es ss (is_set_up ss.stage.row) (is_waiting ss.stage.row) refl refl w p in
    let here : due ss ≡ counts_from (running (is_set_up ss.stage.row) (is_waiting ss.stage.row)) es + span_of (running (is_set_up ss.stage.row) (is_waiting ss.stage.row)) = rw (n, running_is ss.stage.row) refl in
    subst (λ (u : Talked). due ss ≡ causes.due (Some u) es) e (rw w here)

pub reached : (m n : ℕ) → m ≤ n → m < never → is_reached m n ≡ true
reached m n h k = grind (arith, nat_tests)

-- a reply waits as the row says
waits_by : (es : List Seen) (lives : Option (List Seen)) (kept : Option Session) (ss : Session) (b : Bool) → is_waiting ss.stage.row ≡ b → Still lives kept → lives ≡ Some es → kept ≡ Some ss → (is_waiting ss.stage.row ≡ false → waits es ≡ false) → waits es ≡ b
waits_by es lives kept ss true w s l k q = s es ss l k w
waits_by es lives kept ss false w s l k q = q w

pub stands_waiting : (c : Codecs) (plan : PostPlan) (steps : List Step) (es : List Seen) (ss : Session) → Linked c plan (map seen_of steps) (state plan steps) → Still (session (map seen_of steps)) (state plan steps).session → session (map seen_of steps) ≡ Some es → (state plan steps).session ≡ Some ss
    → (state plan steps).agenda.ending ≡ None → waits es ≡ is_waiting ss.stage.row
stands_waiting c plan steps es ss l s here kept n =
    let past = map seen_of steps in
    let t = state plan steps in
    waits_by es (session past) t.session ss (is_waiting ss.stage.row) refl s here kept
    (λ w. tie_waits c plan past t.agenda.ending (session past) t.session t.agenda.reply t.agenda.behind_reply (Premise t.part t.event) es ss l.tie n here kept w)
