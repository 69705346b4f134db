-- While the reply to PowerDelivery Start waits, its Close was taken, or is still to be ordered.
use Rattle.std.proofs.Common.{◌≡◌, ℕ, Bool, true, false, if◌then◌else◌, List, ◌∷◌, Option, Some, None, unwrap_or, refl, sym, ap, subst, ◌∙◌, inl, inr, ◌⊎◌}
use Rattle.std.specs.Option.{option_map}
use Rattle.charge_world.specs.declared.offer.Dialect.{Dialect}
use Rattle.charge_world.specs.declared.ports.Order.{Order}
use Rattle.charge_world.specs.declared.ports.Order.TheVariants as order
use Rattle.session_words.specs.declared.cause.EndCause.{EndCause}
use Rattle.session_words.specs.declared.code.Progress.TheVariants as progress
use Rattle.session_words.specs.declared.facts.Facts.{Facts}
use Rattle.session_words.specs.declared.phase.Phase.{Phase}
use Rattle.session_words.specs.declared.phase.Phase.TheVariants as row
use Rattle.session_words.specs.declared.plan.PostPlan.{PostPlan}
use Rattle.session_words.specs.declared.word.Ask.{Ask}
use Rattle.session_words.specs.declared.word.Ask.TheVariants as ask
use Rattle.session_words.specs.declared.word.Request.{Request}
use Rattle.session_rules.specs.declared.stage.Stage.{Stage}
use Rattle.session_rules.specs.Finishing.{is_ac, is_finished}
use Rattle.session_rules.specs.Moves.{stage_behind}
use Rattle.session_rules.specs.Orders.{granted_order, order_of}
use Rattle.session_rules.specs.Rows.{leads, may_stop}
use Rattle.session_rules.specs.Stages.{is_waiting, confirmed_row}
use Rattle.session_rules.specs.Verdict.{verdict, is_accepted}
use Rattle.post_spec.specs.Codecs.{Judged, Negotiated, Asked, WrongSide, Refused, Codecs}
use Rattle.post_spec.specs.Sessions.{session, with_seen, waits}
use Rattle.post_spec.specs.Steps.{Act, Give, Send, Answer, Seen, Did, Reading}
use Rattle.station_spec.specs.States.{Agenda, Session, State, nothing, first_session, first, first_of, is_none, is_done}
use Rattle.station_spec.specs.States as states
use Rattle.station_spec.specs.Deciding.{decided}
use Rattle.station_spec.specs.Judging.{Payload, payload_in, wanted, order_by, cause_by, chosen_stage, judged, taken_in, read, filled, IsRead}
use Rattle.station_spec.specs.Hearing.{with_bytes}
use Rattle.station_spec.specs.Acting.{since_order, failing, replied, acted, giving, saying}
use Rattle.station_spec.specs.Next.{IsDone}
use Rattle.station_laws.proofs.Decided.{decided_by}

abbrev pub Still : Option (List Seen) → Option Session → Type 0
Still lives kept = (es : List Seen) (ss : Session) → lives ≡ Some es → kept ≡ Some ss → is_waiting ss.stage.row ≡ true → waits es ≡ true

abbrev pub ShutBy : Option (List Seen) → Option Session → Agenda → Type 0
ShutBy lives kept a = a.ending ≡ None → (a.order ≡ Some order.Close) ⊎ Still lives kept

abbrev pub Shut : List Seen → State → Type 0
Shut past s = ShutBy (session past) s.session s.agenda

none_close : (o : Option Order) → o ≡ None → o ≡ Some order.Close → ⊥
none_close o n h = let x : None ≡ Some order.Close = sym n ∙ h in cc

pub shut_still : (past : List Seen) (s : State) → (s.agenda.order ≡ Some order.Close) ⊎ Still (session past) s.session → s.agenda.order ≡ None → Still (session past) s.session
shut_still past s (inl h) n = absurd (none_close s.agenda.order n h)
shut_still past s (inr h) n = h

-- nothing is left to do
done_by : (lives : Option (List Seen)) (kept : Option Session) (a : Agenda) (d : Option (List ℕ)) (o : Option Order) (r : Option states.Spoken) (e : Option EndCause) → a.order ≡ o → a.ending ≡ e → is_none (first_of d o r e) ≡ true → ShutBy lives kept a → Still lives kept
done_by lives kept a None None None None p q h s = elim (s q) [
  | inl x ↦ absurd (none_close a.order p x)
  | inr x ↦ x
]
done_by lives kept a None None None (Some k) p q h s = cc
done_by lives kept a None None (Some r) e p q h s = cc
done_by lives kept a None (Some o) r e p q h s = cc
done_by lives kept a (Some d) o r e p q h s = cc

pub done_still : (past : List Seen) (s : State) → is_done s.agenda ≡ true → Shut past s → Still (session past) s.session
done_still past s h k = done_by (session past) s.session s.agenda s.agenda.datagram s.agenda.order s.agenda.reply s.agenda.ending refl refl h k

-- without a word
pub decided_shut : (plan : PostPlan) (past : List Seen) (s : State) → Shut past s → Shut past (decided plan s)
decided_shut plan past s k = decided_by (Shut past) plan s (λ d.
    let still = done_still past s d k in
    record { repeats = λ e. inr still; times = λ e. inr still; events = λ e. inr still; fronts = λ e. inr still }) k

-- a word: PowerDelivery Start alone leads to such a row
stays : (b : Bool) (here : Phase) → is_waiting (unwrap_or (if b then Some here else None) here) ≡ is_waiting here
stays true here = refl
stays false here = refl

row_asked : (plan : PostPlan) (told shown : ℕ) (here : Phase) (a : Ask) (f ac : Bool) → is_waiting here ≡ false → is_waiting (unwrap_or (leads here a f ac) here) ≡ true → granted_order plan told shown a ≡ Some order.Close
row_asked plan told shown here (ask.PowerDelivery progress.Start tuple profile) f ac n w = refl
row_asked plan told shown here (ask.SessionStop pause) f ac n w = absurd (let x : true ≡ false = sym w ∙ stays (may_stop here) here ∙ n in cc)
row_asked plan told shown row.Negotiated (ask.SessionSetup car) f ac n w = cc
row_asked plan told shown row.SetUp ask.ServiceDiscovery f ac n w = cc
row_asked plan told shown row.Discovered (ask.ServiceDetail service) f ac n w = cc
row_asked plan told shown row.Discovered (ask.PaymentSelection external services) f ac n w = cc
row_asked plan told shown row.DcChecked (ask.PreCharge ready soc voltage current) f ac n w = cc
row_asked plan told shown row.DcCharging (ask.PowerDelivery progress.Stop tuple profile) f ac n w = cc
row_asked plan told shown row.DcCharging (ask.PowerDelivery progress.Renegotiate tuple profile) f ac n w = cc
row_asked plan told shown row.DcCharging (ask.CurrentDemand ready soc voltage current) f ac n w = cc
row_asked plan told shown row.AcCharging ask.ChargingStatus f ac n w = cc
row_asked plan told shown row.DcStopped (ask.WeldingDetection ready soc) f ac n w = cc
row_asked plan told shown row.Selected ask.Authorization true ac n w = cc
row_asked plan told shown row.Selected ask.Authorization false ac n w = cc
row_asked plan told shown row.Authorized (ask.ChargeParameters mode limits) true true n w = cc
row_asked plan told shown row.Authorized (ask.ChargeParameters mode limits) true false n w = cc
row_asked plan told shown row.Authorized (ask.ChargeParameters mode limits) false ac n w = cc
row_asked plan told shown row.DcReady (ask.CableCheck ready soc) true ac n w = cc
row_asked plan told shown row.DcReady (ask.CableCheck ready soc) false ac n w = cc
row_asked plan told shown here a f ac n w = absurd (cc)

stage_asked : (s : Stage) (facts : Facts) (plan : PostPlan) (r : Request) (shown : ℕ) (b : Bool) → is_accepted (verdict s facts plan r) ≡ b → is_waiting s.row ≡ false → is_waiting (stage_behind s facts plan r shown).row ≡ true → order_of s facts plan r shown ≡ Some order.Close
stage_asked s facts plan r shown true e n w = rw e (row_asked plan s.told shown s.row r.ask (is_finished facts plan r.ask shown) (is_ac plan.mode) n (let x = rw e at w in x))
stage_asked s facts plan r shown false e n w = absurd (let x = rw e at w in let y : true ≡ false = sym x ∙ n in cc)

unless_waiting : (lives : Option (List Seen)) (kept : Option Session) → ((ss : Session) → kept ≡ Some ss → is_waiting ss.stage.row ≡ false) → Still lives kept
unless_waiting lives kept f es ss l k w = absurd (let x : true ≡ false = sym w ∙ f ss k in cc)

some_row : (ss ts : Session) (b : Bool) → Some ss ≡ Some ts → is_waiting ss.stage.row ≡ b → is_waiting ts.stage.row ≡ b
some_row ss ts b k w = let x : ss ≡ ts = cc in subst (λ (q : Session). is_waiting q.stage.row ≡ b) x w

order_none : (cause : Option EndCause) (live : Bool) (o : Option Order) → cause ≡ None → order_by cause live o ≡ o
order_none cause live o e = ap (λ (x : Option EndCause). order_by x live o) e

asked_shut : (plan : PostPlan) (past : List Seen) (s : State) (ss : Session) (r : Request) (shown : ℕ) (b : Bool) → is_waiting (stage_behind ss.stage s.facts plan r shown).row ≡ b → is_waiting ss.stage.row ≡ false → Shut past (judged plan s ss (Asked r) shown)
asked_shut plan past s ss r shown true w n e =
    inl (order_none (cause_by ss.stage plan s r) s.live (order_of ss.stage s.facts plan r shown) e ∙ stage_asked ss.stage s.facts plan r shown (is_accepted (verdict ss.stage s.facts plan r)) refl n w)
asked_shut plan past s ss r shown false w n e = inr (unless_waiting (session past) (judged plan s ss (Asked r) shown).session (λ ts k. some_row _ ts false k w))

chosen_waits : (stage : Stage) (chosen : Option Dialect) → is_waiting stage.row ≡ false → is_waiting (chosen_stage stage chosen).row ≡ false
chosen_waits stage None n = n
chosen_waits stage (Some d) n = refl

judged_shut : (plan : PostPlan) (past : List Seen) (s : State) (ss : Session) (x : Judged) (shown : ℕ) → is_waiting ss.stage.row ≡ false → Shut past (judged plan s ss x shown)
judged_shut plan past s ss (Negotiated chosen response) shown n = λ e. inr (unless_waiting (session past) (judged plan s ss (Negotiated chosen response) shown).session (λ ts k. some_row _ ts false k (chosen_waits ss.stage chosen n)))
judged_shut plan past s ss (Asked r) shown n = asked_shut plan past s ss r shown (is_waiting (stage_behind ss.stage s.facts plan r shown).row) refl n
judged_shut plan past s ss WrongSide shown n = λ e. absurd (cc)
judged_shut plan past s ss Refused shown n = λ e. absurd (cc)

in_row : (kept : Option Session) (ss : Session) (p : Payload) (b : Bool) → kept ≡ Some ss → is_waiting ss.stage.row ≡ b → payload_in kept ≡ Some p → b ≡ false
in_row None ss p b k w h = cc
in_row (Some ts) ss p false k w h = refl
in_row (Some ts) ss p true k w h = absurd (let x = some_row ss ts true (sym k) w in let y = rw x at h in cc)

wanted_row : (s : State) (ss : Session) (p : Payload) (b : Bool) → is_done s.agenda ≡ b → s.session ≡ Some ss → wanted s ≡ Some p → is_waiting ss.stage.row ≡ false
wanted_row s ss p true d k h = in_row s.session ss p (is_waiting ss.stage.row) k refl (let x = rw d at h in x)
wanted_row s ss p false d k h = absurd (let x = rw d at h in cc)

taken_shut : (plan : PostPlan) (past : List Seen) (s : State) (kept : Option Session) (r : Reading) → ((ss : Session) → kept ≡ Some ss → is_waiting ss.stage.row ≡ false) → Shut past s → Shut past (taken_in plan s kept r)
taken_shut plan past s None r n k = k
taken_shut plan past s (Some ss) r n k = judged_shut plan past s ss r.judged r.shown (n ss refl)

read_shut : (c : Codecs) (plan : PostPlan) (S : ℕ → ℕ → Type 0) (past : List Seen) (s : State) (w : Option Payload) (r : Option Reading) → wanted s ≡ w → IsRead c plan S s w r → Shut past s → Shut past (read plan s r)
read_shut c plan S past s w None e i k = k
read_shut c plan S past s None (Some r) e i k = absurd i
read_shut c plan S past s (Some p) (Some r) e i k = taken_shut plan past s s.session r (λ ss h. wanted_row s ss p (is_done s.agenda) refl h e) k

pub filled_shut : (c : Codecs) (plan : PostPlan) (S : ℕ → ℕ → Type 0) (past : List Seen) (s : State) (r : Option Reading) → IsRead c plan S (decided plan s) (wanted (decided plan s)) r → Shut past s → Shut past (filled plan r s)
filled_shut c plan S past s r i k = read_shut c plan S past (decided plan s) (wanted (decided plan s)) r refl i (decided_shut plan past s k)

-- an act
pub with_more : (x : Seen) (lives : Option (List Seen)) (kept : Option Session) → ((es : List Seen) → waits es ≡ true → waits (x ∷ es) ≡ true) → Still lives kept → Still (with_seen x lives) kept
with_more x None kept m k es ss l q w = cc
with_more x (Some zs) kept m k es ss l q w = let y : x ∷ zs ≡ es = cc in subst (λ (ys : List Seen). waits ys ≡ true) y (m zs (k zs ss refl q w))

pub with_row : (lives : Option (List Seen)) (kept : Option Session) (f : Session → Session) → ((ss : Session) → is_waiting (f ss).stage.row ≡ is_waiting ss.stage.row) → Still lives kept → Still lives (option_map f kept)
with_row lives None f m k es ss l q w = cc
with_row lives (Some ts) f m k es ss l q w = k es ts l refl (sym (m ts) ∙ some_row ss (f ts) true (sym q) w)

since_row : (now : ℕ) (o : Order) (ss : Session) → is_waiting (since_order now o ss).stage.row ≡ is_waiting ss.stage.row
since_row now order.Open ss = refl
since_row now order.Close ss = refl
since_row now (order.Limits voltage current watts) ss = refl

ordered_more : (o : Order) (es : List Seen) → waits es ≡ true → waits (Did (Give o) true ∷ es) ≡ true
ordered_more order.Open es w = w
ordered_more order.Close es w = refl
ordered_more (order.Limits voltage current watts) es w = w

closed_more : (lives : Option (List Seen)) (kept : Option Session) → Still (with_seen (Did (Give order.Close) true) lives) kept
closed_more None kept es ss l q w = cc
closed_more (Some zs) kept es ss l q w = let y : Did (Give order.Close) true ∷ zs ≡ es = cc in subst (λ (ys : List Seen). waits ys ≡ true) y refl

close_is : (o : Order) (was : Option Order) → was ≡ Some o → was ≡ Some order.Close → o ≡ order.Close
close_is o was p q = let x : Some o ≡ Some order.Close = sym p ∙ q in cc

failed_shut : (lives : Option (List Seen)) (e : Option EndCause) (kept : Option Session) (cause : EndCause) (live : Bool) → ShutBy lives kept (failing e kept cause live)
failed_shut lives None None cause live = λ h. inr (λ es ss l k w. cc)
failed_shut lives None (Some ss) cause live = λ h. absurd (cc)
failed_shut lives (Some k) kept cause live = λ h. absurd (cc)

gave_shut : (past : List Seen) (s : State) (o : Order) (taken : Bool) → s.agenda.order ≡ Some o → Shut past s → Shut (Did (Give o) taken ∷ past) (giving o taken s)
gave_shut past s o true h k = λ e. inr (with_row (with_seen (Did (Give o) true) (session past)) s.session (since_order s.clock o) (since_row s.clock o) (elim (k e) [
  | inl x ↦ subst (λ (y : Order). Still (with_seen (Did (Give y) true) (session past)) s.session) (sym (close_is o s.agenda.order h x)) (closed_more (session past) s.session)
  | inr x ↦ with_more (Did (Give o) true) (session past) s.session (ordered_more o) x
]))
gave_shut past s o false h k = failed_shut (with_seen (Did (Give o) false) (session past)) s.agenda.ending s.session _ _

confirmed_still : (here : Phase) → is_waiting (confirmed_row here) ≡ false
confirmed_still row.DcClosing = refl
confirmed_still row.AcClosing = refl
confirmed_still here = refl

-- a session that begins
pub first_still : (lives : Option (List Seen)) (token now : ℕ) (bytes : List ℕ) → Still lives (Some (with_bytes bytes (first_session token now)))
first_still lives token now bytes es ss l k w = absurd (let x = some_row (with_bytes bytes (first_session token now)) ss false k refl in let y : true ≡ false = sym w ∙ x in cc)

replied_still : (lives : Option (List Seen)) (kept : Option Session) (now : ℕ) → Still lives (option_map (replied now) kept)
replied_still lives None now es ss l k w = cc
replied_still lives (Some ts) now es ss l k w = absurd (let x = some_row (replied now ts) ss false k (confirmed_still ts.stage.row) in let y : true ≡ false = sym w ∙ x in cc)

said_shut : (past : List Seen) (s : State) (bytes : List ℕ) (taken : Bool) → Shut (Did (Send bytes) taken ∷ past) (saying taken s)
said_shut past s bytes true = λ e. inr (replied_still (with_seen (Did (Send bytes) true) (session past)) s.session s.clock)
said_shut past s bytes false = failed_shut (with_seen (Did (Send bytes) false) (session past)) s.agenda.ending s.session _ _

told_shut : (past : List Seen) (s : State) (d : List ℕ) (taken : Bool) → Shut past s → Shut (Did (Answer d) taken ∷ past) (acted (Answer d) taken s)
told_shut past s d taken k = λ e. elim (k e) [
  | inl x ↦ inl x
  | inr x ↦ inr (with_more (Did (Answer d) taken) (session past) s.session (λ es w. w) x)
]

give_is : (d : Option (List ℕ)) (o : Option Order) (r : Option states.Spoken) (e : Option EndCause) (x : Order) → first_of d o r e ≡ Some (states.Give x) → o ≡ Some x
give_is (Some d) o r e x h = cc
give_is None (Some o) r e x h = cc
give_is None None (Some r) e x h = cc
give_is None None None (Some e) x h = cc
give_is None None None None x h = cc

pub acted_shut : (c : Codecs) (past : List Seen) (s : State) (todo : states.Todo) (a : Act) (taken : Bool) → first s.agenda ≡ Some todo → IsDone c todo a taken → Shut past s → Shut (Did a taken ∷ past) (acted a taken s)
acted_shut c past s (states.Tell d) a taken f i k = subst (λ (x : Act). Shut (Did x taken ∷ past) (acted x taken s)) (sym i) (told_shut past s d taken k)
acted_shut c past s (states.Give o) a taken f i k =
    subst (λ (x : Act). Shut (Did x taken ∷ past) (acted x taken s)) (sym i) (gave_shut past s o taken (give_is s.agenda.datagram s.agenda.order s.agenda.reply s.agenda.ending o f) k)
acted_shut c past s (states.Say spoken) a taken f i k = subst (λ (x : Act). Shut (Did x taken ∷ past) (acted x taken s)) (sym i.2) (said_shut past s i.0 taken)
acted_shut c past s (states.Finish cause) a taken f i k = subst (λ (x : Act). Shut (Did x taken ∷ past) (acted x taken s)) (sym i.0) (λ e. inr (λ es ss l q w. cc))
