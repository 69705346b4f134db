-- A word that is read leaves something to do.
use Rattle.std.proofs.Common.{◌≡◌, ℕ, Bool, true, false, if◌then◌else◌, Option, Some, None, unwrap_or, refl, ap, sym, ◌∙◌}
use Rattle.charge_world.specs.declared.ports.Order.{Order}
use Rattle.session_words.specs.declared.cause.EndCause.{EndCause}
use Rattle.session_words.specs.declared.cause.EndCause.TheVariants.{FailedReply}
use Rattle.session_words.specs.declared.code.Code.{Code}
use Rattle.session_words.specs.declared.phase.Phase.{Phase}
use Rattle.session_words.specs.declared.phase.Phase.TheVariants as row
use Rattle.session_words.specs.declared.plan.PostPlan.{PostPlan}
use Rattle.session_words.specs.declared.word.Ask.{Ask}
use Rattle.session_words.specs.declared.word.Ask.TheVariants as ask
use Rattle.session_words.specs.declared.word.Request.{Request}
use Rattle.session_rules.specs.Causes.{found_by, word_cause}
use Rattle.session_rules.specs.Finishing.{is_ac, is_finished}
use Rattle.session_rules.specs.Moves.{stage_behind}
use Rattle.session_rules.specs.Orders.{granted_order, delivery_order, order_of}
use Rattle.session_rules.specs.Reply.{reply_to}
use Rattle.session_rules.specs.Rows.{leads, may_stop}
use Rattle.session_rules.specs.Stages.{is_waiting}
use Rattle.session_rules.specs.Verdict.{verdict, is_accepted}
use Rattle.post_spec.specs.Codecs.{Judged, Negotiated, Asked, WrongSide, Refused}
use Rattle.post_spec.specs.Steps.{Reading}
use Rattle.station_spec.specs.States.{Spoken, Said, Session, State, first_of, is_none, is_done}
use Rattle.station_spec.specs.Deciding.{ending_by}
use Rattle.station_spec.specs.Judging.{Payload, payload_in, wanted, order_by, cause_by, asked_agenda, judged, read}

ending_acts : (cause : EndCause) (live : Bool) → is_done (ending_by cause live) ≡ false
ending_acts cause true = refl
ending_acts cause false = refl

acts_by_ending : (o : Option Order) (r : Option Spoken) (e : Option EndCause) (cause : EndCause) → e ≡ Some cause → is_none (first_of None o r e) ≡ false
acts_by_ending (Some order) r e cause h = refl
acts_by_ending None (Some spoken) e cause h = refl
acts_by_ending None None e cause h = rw h refl

acts_by_reply : (o : Option Order) (r : Option Spoken) (e : Option EndCause) (spoken : Spoken) → r ≡ Some spoken → is_none (first_of None o r e) ≡ false
acts_by_reply (Some order) r e spoken h = refl
acts_by_reply None r e spoken h = rw h refl

acts_by_order : (o : Option Order) (r : Option Spoken) (e : Option EndCause) (order : Order) → o ≡ Some order → is_none (first_of None o r e) ≡ false
acts_by_order o r e order h = rw h refl

-- a request that isn't accepted ends its session
failed : (code : Code) (a : Ask) → is_accepted code ≡ false → word_cause false (found_by code a) ≡ Some FailedReply
failed code (ask.SessionStop pause) e = rw e refl
failed code a e = rw e refl

abbrev IsDelivery : Ask → Type 0
IsDelivery (ask.PowerDelivery progress tuple profile) = Unit {0}
IsDelivery other = ⊥

stays_put : (b : Bool) (here : Phase) → unwrap_or (if b then Some here else None) here ≡ here
stays_put true here = refl
stays_put false here = refl

-- only PowerDelivery leads to a row in which a reply waits
delivers : (here : Phase) (a : Ask) (finished ac : Bool) → is_waiting here ≡ false → is_waiting (unwrap_or (leads here a finished ac) here) ≡ true → IsDelivery a
delivers here (ask.PowerDelivery progress tuple profile) finished ac w h = tt
delivers here (ask.SessionStop pause) finished ac w h =
    absurd (let e : is_waiting here ≡ true = sym (ap is_waiting (stays_put (may_stop here) here)) ∙ h in cc)
delivers row.Negotiated (ask.SessionSetup car) finished ac w h = absurd cc
delivers row.SetUp ask.ServiceDiscovery finished ac w h = absurd cc
delivers row.Discovered (ask.ServiceDetail service) finished ac w h = absurd cc
delivers row.Discovered (ask.PaymentSelection external services) finished ac w h = absurd cc
delivers row.DcChecked (ask.PreCharge ready soc voltage current) finished ac w h = absurd cc
delivers row.DcPreCharging (ask.PreCharge ready soc voltage current) finished ac w h = absurd cc
delivers row.DcCharging (ask.CurrentDemand ready soc voltage current) finished ac w h = absurd cc
delivers row.DcStopped (ask.WeldingDetection ready soc) finished ac w h = absurd cc
delivers row.AcCharging ask.ChargingStatus finished ac w h = absurd cc
delivers row.Selected ask.Authorization true ac w h = absurd cc
delivers row.Selected ask.Authorization false ac w h = absurd cc
delivers row.Authorized (ask.ChargeParameters mode limits) true true w h = absurd cc
delivers row.Authorized (ask.ChargeParameters mode limits) true false w h = absurd cc
delivers row.Authorized (ask.ChargeParameters mode limits) false ac w h = absurd cc
delivers row.DcReady (ask.CableCheck ready soc) true ac w h = absurd cc
delivers row.DcReady (ask.CableCheck ready soc) false ac w h = absurd cc
delivers here a finished ac w h = absurd cc

-- an accepted PowerDelivery gives an order and ends nothing
delivered : (code : Code) (plan : PostPlan) (told shown : ℕ) (a : Ask) (live : Bool) → IsDelivery a → is_accepted code ≡ true
    → (order : Order) × (order_by (word_cause false (found_by code a)) live (granted_order plan told shown a) ≡ Some order)
delivered code plan told shown (ask.PowerDelivery progress tuple profile) live d e = (delivery_order progress, rw e refl)
delivered code plan told shown a live d e = absurd d

accepted_acts : (session : Session) (plan : PostPlan) (s : State) (r : Request) (shown : ℕ) (w : Bool) → is_accepted (verdict session.stage s.facts plan r) ≡ true
    → is_waiting session.stage.row ≡ false → is_waiting (stage_behind session.stage s.facts plan r shown).row ≡ w
    → is_done (asked_agenda session plan s r shown) ≡ false
accepted_acts session plan s r shown false e still w =
    acts_by_reply _ _ (cause_by session.stage plan s r) (Said session.stage.dialect (reply_to session.stage s.facts plan r shown)) (rw w refl)
accepted_acts session plan s r shown true e still w =
    let row : is_waiting (unwrap_or (leads session.stage.row r.ask (is_finished s.facts plan r.ask shown) (is_ac plan.mode)) session.stage.row) ≡ true = rw e at w in
    let d = delivered (verdict session.stage s.facts plan r) plan session.stage.told shown r.ask s.live
    (delivers session.stage.row r.ask (is_finished s.facts plan r.ask shown) (is_ac plan.mode) still row) e in
    let granted : order_of session.stage s.facts plan r shown ≡ granted_order plan session.stage.told shown r.ask = rw e refl in
    acts_by_order _ _ (cause_by session.stage plan s r) d.0
    (ap (λ (o : Option Order). order_by (cause_by session.stage plan s r) s.live o) granted ∙ d.1)

asked_acts : (session : Session) (plan : PostPlan) (s : State) (r : Request) (shown : ℕ) (b : Bool) → is_accepted (verdict session.stage s.facts plan r) ≡ b
    → is_waiting session.stage.row ≡ false → is_done (asked_agenda session plan s r shown) ≡ false
asked_acts session plan s r shown true e still = accepted_acts session plan s r shown _ e still refl
asked_acts session plan s r shown false e still =
    acts_by_ending _ _ (cause_by session.stage plan s r) FailedReply (failed (verdict session.stage s.facts plan r) r.ask e)

judged_acts : (plan : PostPlan) (s : State) (session : Session) (j : Judged) (shown : ℕ) → is_waiting session.stage.row ≡ false
    → is_done (judged plan s session j shown).agenda ≡ false
judged_acts plan s session (Negotiated chosen response) shown still = refl
judged_acts plan s session (Asked r) shown still = asked_acts session plan s r shown _ refl still
judged_acts plan s session WrongSide shown still = ending_acts _ s.live
judged_acts plan s session Refused shown still = ending_acts _ s.live

no_wait : (w : Bool) (p : Option Payload) (payload : Payload) → (if w then None else p) ≡ Some payload → w ≡ false
no_wait true p payload h = cc
no_wait false p payload h = refl

taken_acts : (plan : PostPlan) (s : State) (session : Option Session) (payload : Payload) (reading : Reading) → s.session ≡ session → payload_in session ≡ Some payload
    → is_done (read plan s (Some reading)).agenda ≡ false
taken_acts plan s None payload reading e h = cc
taken_acts plan s (Some session) payload reading e h =
    rw e (judged_acts plan s session reading.judged reading.shown (no_wait (is_waiting session.stage.row) _ payload h))

front_if : (s : State) (payload : Payload) (b : Bool) → is_done s.agenda ≡ b → wanted s ≡ Some payload → payload_in s.session ≡ Some payload
front_if s payload true e h = rw e at h
front_if s payload false e h = absurd (let n : None ≡ Some payload = rw e at h in cc)

pub acts : (plan : PostPlan) (s : State) (payload : Payload) (reading : Reading) → wanted s ≡ Some payload → is_done (read plan s (Some reading)).agenda ≡ false
acts plan s payload reading h = taken_acts plan s s.session payload reading refl (front_if s payload (is_done s.agenda) refl h)
