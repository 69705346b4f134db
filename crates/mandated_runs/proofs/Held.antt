-- While the contactor is closed, the session delivers, or Open is to be ordered next, or it failed.
use Rattle.std.proofs.Common.{◌≡◌, ℕ, Bool, true, false, if◌then◌else◌, ◌&&◌, List, [], ◌∷◌, map, Option, Some, None, unwrap_or, is_some, Result, Ok, Err, refl, sym, ap, subst, ◌∙◌, inl, inr, ◌⊎◌}
use Rattle.std.specs.Prelude.{◌≢◌}
use Rattle.std.specs.Option.{option_map}
use Rattle.charge_world.specs.declared.heard.PlantEvent.{PlantEvent}
use Rattle.charge_world.specs.declared.heard.PlantEvent.TheVariants as plant
use Rattle.charge_world.specs.declared.offer.Dialect.{Dialect}
use Rattle.charge_world.specs.declared.ports.Order.{Order}
use Rattle.charge_world.specs.declared.ports.Order.TheVariants as order
use Rattle.session_words.specs.declared.cause.EndCause.{EndCause}
use Rattle.session_words.specs.declared.cause.EndCause.TheVariants.{FailedReply}
use Rattle.session_words.specs.declared.code.Code.{Code}
use Rattle.session_words.specs.declared.code.Progress.TheVariants as progress
use Rattle.session_words.specs.declared.facts.Facts.{Facts}
use Rattle.session_words.specs.declared.phase.Phase.{Phase}
use Rattle.session_words.specs.declared.phase.Phase.TheVariants as row
use Rattle.session_words.specs.declared.phase.Standing.{Standing}
use Rattle.session_words.specs.declared.phase.Standing.TheVariants as standing
use Rattle.session_words.specs.declared.plan.PostPlan.{PostPlan}
use Rattle.session_words.specs.declared.word.Ask.{Ask}
use Rattle.session_words.specs.declared.word.Ask.TheVariants as ask
use Rattle.session_words.specs.declared.word.Request.{Request}
use Rattle.session_words.specs.declared.word.Word.{Word}
use Rattle.session_words.specs.declared.word.Word.TheVariants as word
use Rattle.v2gtp_frames.specs.declared.FrameFault.{FrameFault}
use Rattle.v2gtp_frames.specs.Reading.{whole_at, payload_at}
use Rattle.contactor.specs.Standing.{is_live}
use Rattle.contactor.specs.Standing as contactor
use Rattle.session_rules.specs.declared.stage.Stage.{Stage}
use Rattle.session_rules.specs.Causes.{plant_cause, found_by, word_cause}
use Rattle.session_rules.specs.Finishing.{is_ac, is_finished}
use Rattle.session_rules.specs.Moves.{stage_behind}
use Rattle.session_rules.specs.Orders.{granted_order, order_of}
use Rattle.session_rules.specs.Rows.{leads}
use Rattle.session_rules.specs.Stages.{is_waiting, confirmed_row}
use Rattle.session_rules.specs.Verdict.{verdict, is_accepted}
use Rattle.post_spec.specs.Codecs.{Judged, Negotiated, Asked, WrongSide, Refused, Codecs, Judges, judged_word}
use Rattle.post_spec.specs.Contactors.{contactor_acts, live, closes, closed}
use Rattle.post_spec.specs.Sessions.{brought}
use Rattle.post_spec.specs.Steps.{Event, Came, Bytes, Gone, Datagram, Plant, Clock, Over, Act, Give, Send, Answer, End, Seen, Heard, Did, Reading, Step, Hears, Does, seen_of}
use Rattle.station_spec.specs.States.{Agenda, Spoken, Session, State, nothing, first, first_of, is_none, is_done}
use Rattle.station_spec.specs.States as states
use Rattle.station_spec.specs.Deciding.{opening_if, ending_by, ending_in, repeating, timing, watch, confirms, confirming, charging_by, charging, eventing, fronting_by, fronting, decided, due, is_reached}
use Rattle.station_spec.specs.Judging.{Payload, payload_by, payload_in, wanted, speaks, speaks_in, order_by, cause_by, judged, taken_in, read, filled, IsRead}
use Rattle.station_spec.specs.Hearing.{with_bytes, session_opened}
use Rattle.station_spec.specs.Acting.{since_order, failing, agenda_said, replied, giving, saying, acted, state}
use Rattle.station_spec.specs.Next.{IsQuiet, IsDone}
use Rattle.station_spec.specs.Sharing.{Shows}
use Rattle.station_laws.specs.PostRuns.{IsPostRun}
use Rattle.station_laws.proofs.Contactors.{contactors_are_read, filled_live}
use Rattle.station_laws.proofs.Decided.{decided_by, same_session, same_live}
use Rattle.safe_runs.proofs.Asked.{IsStop, found_failed, found_stopped, row_takes}
use Rattle.safe_runs.proofs.Filled.{filled_linked}
use Rattle.safe_runs.proofs.Links.{IsWaitingIn}
use Rattle.safe_runs.proofs.Rows.{is_charging}
use Rattle.safe_runs.proofs.Safety.{run_linked}
use Rattle.post_spec.specs.Spelled.{ReadsBack}
use Rattle.mandated_runs.specs.Holding.{CouldNotOpen}
use Rattle.mandated_runs.proofs.Arrivals.{quiet_left}

-- rows behind an accepted Start
abbrev pub is_delivering : Phase → Bool
is_delivering row.DcClosing = true
is_delivering row.DcCharging = true
is_delivering row.AcClosing = true
is_delivering row.AcCharging = true
is_delivering other = false

abbrev pub Delivering : Option Session → Type 0
Delivering kept = (ss : Session) × (kept ≡ Some ss) × (is_delivering ss.stage.row ≡ true)

-- nothing is left to do
abbrev pub Rested : List Seen → Option Session → Type 0
Rested past kept = closed past ≡ true → CouldNotOpen past ⊎ Delivering kept

pub record Held (past : List Seen) (kept : Option Session) (a : Agenda) : Type 0 where
  pub alone : a.order ≡ Some order.Close → a.ending ≡ None
  pub held : closed past ≡ true → CouldNotOpen past ⊎ ((a.order ≡ Some order.Open) ⊎ ((a.ending ≡ None) × Delivering kept))

abbrev pub HeldIn : List Seen → State → Type 0
HeldIn past s = Held past s.session s.agenda

-- a closed contactor is live
closes_live : (acts : List contactor.Act) → closes acts ≡ true → is_live acts ≡ true
closes_live [] h = cc
closes_live (contactor.ordered contactor.Close true ∷ acts) h = refl
closes_live (contactor.ordered contactor.Close false ∷ acts) h = refl
closes_live (contactor.ordered contactor.Open true ∷ acts) h = cc
closes_live (contactor.ordered contactor.Open false ∷ acts) h = closes_live acts h
closes_live (contactor.feedback b ∷ acts) h = closes_live acts h

pub closed_live : (past : List Seen) → closed past ≡ true → live past ≡ true
closed_live past h = closes_live (contactor_acts past) h

-- agendas
rests : (past : List Seen) (kept : Option Session) (a : Agenda) → a.order ≡ None → a.ending ≡ None → Rested past kept → Held past kept a
rests past kept a n m r = record {
  alone = λ h. m;
  held = λ h. elim (r h) [
    | inl x ↦ inl x
    | inr x ↦ inr (inr (m, x))
  ];
}

opens : (live : Bool) → opening_if live ≡ Some order.Close → ⊥
opens true h = cc
opens false h = cc

opens_if : (live : Bool) → live ≡ true → opening_if live ≡ Some order.Open
opens_if true h = refl
opens_if false h = cc

ends_by : (past : List Seen) (kept : Option Session) (cause : EndCause) (on : Bool) → (closed past ≡ true → on ≡ true) → Held past kept (ending_by cause on)
ends_by past kept cause on l = record { alone = λ h. absurd (opens on h); held = λ h. inr (inl (opens_if on (l h))) }

ends_in : (past : List Seen) (kept : Option Session) (cause : EndCause) (on : Bool) → (closed past ≡ true → on ≡ true) → Rested past kept → Held past kept (ending_in kept cause on)
ends_in past None cause on l r = rests past None nothing refl refl r
ends_in past (Some ss) cause on l r = ends_by past (Some ss) cause on l

repeats : (past : List Seen) (kept : Option Session) (st : Standing) → Rested past kept → Held past kept (repeating st)
repeats past kept standing.MustOpen r = record { alone = λ h. refl; held = λ h. inr (inl refl) }
repeats past kept standing.Opened r = rests past kept nothing refl refl r
repeats past kept standing.Closing r = rests past kept nothing refl refl r
repeats past kept standing.Closed r = rests past kept nothing refl refl r
repeats past kept standing.Opening r = rests past kept nothing refl refl r

held_if : (past : List Seen) (kept : Option Session) (b : Bool) (x y : Agenda) → Held past kept x → Held past kept y → Held past kept (if b then x else y)
held_if past kept true x y p q = p
held_if past kept false x y p q = q

times : (past : List Seen) (kept : Option Session) (now : ℕ) (on : Bool) → (closed past ≡ true → on ≡ true) → Rested past kept → Held past kept (timing kept now on)
times past None now on l r = rests past None nothing refl refl r
times past (Some ss) now on l r = held_if past (Some ss) (is_reached (due ss) now) _ nothing (ends_by past (Some ss) _ on l) (rests past (Some ss) nothing refl refl r)

confirms_by : (past : List Seen) (plan : PostPlan) (ss : Session) (e : PlantEvent) (s : State) (b : Bool) → (is_waiting ss.stage.row && confirms e) ≡ b → Rested past (Some ss) → Held past (Some ss) (confirming plan ss e s)
confirms_by past plan ss e s true h r = rw h (rests past (Some ss) _ refl refl r)
confirms_by past plan ss e s false h r = rw h (rests past (Some ss) nothing refl refl r)

charges_by : (past : List Seen) (plan : PostPlan) (ss : Session) (e : PlantEvent) (s : State) (o : Option EndCause) → (closed past ≡ true → s.live ≡ true) → Rested past (Some ss) → Held past (Some ss) (charging_by o (confirming plan ss e s) s.live)
charges_by past plan ss e s (Some cause) l r = ends_by past (Some ss) cause s.live l
charges_by past plan ss e s None l r = confirms_by past plan ss e s (is_waiting ss.stage.row && confirms e) refl r

charges : (past : List Seen) (plan : PostPlan) (kept : Option Session) (e : PlantEvent) (s : State) → (closed past ≡ true → s.live ≡ true) → Rested past kept → Held past kept (charging plan kept e s)
charges past plan None e s l r = rests past None nothing refl refl r
charges past plan (Some ss) e s l r = charges_by past plan ss e s (plant_cause (watch plan ss s) e) l r

events : (past : List Seen) (plan : PostPlan) (e : Event) (s : State) → (closed past ≡ true → s.live ≡ true) → Rested past s.session → Held past s.session (eventing plan e s)
events past plan (Came token) s l r = ends_in past s.session _ s.live l r
events past plan (Bytes bytes) s l r = rests past s.session nothing refl refl r
events past plan Gone s l r = ends_in past s.session _ s.live l r
events past plan (Datagram bytes) s l r = rests past s.session _ refl refl r
events past plan (Plant event) s l r = charges past plan s.session event s l r
events past plan Clock s l r = rests past s.session nothing refl refl r
events past plan Over s l r = ends_in past s.session _ s.live l r

fronts_by : (past : List Seen) (kept : Option Session) (w : Result (Option ℕ) FrameFault) (waiting on : Bool) → (closed past ≡ true → on ≡ true) → Rested past kept → Held past kept (fronting_by w waiting on)
fronts_by past kept (Err fault) waiting on l r = ends_by past kept _ on l
fronts_by past kept (Ok None) waiting on l r = rests past kept nothing refl refl r
fronts_by past kept (Ok (Some n)) true on l r = ends_by past kept _ on l
fronts_by past kept (Ok (Some n)) false on l r = rests past kept nothing refl refl r

fronts : (past : List Seen) (kept : Option Session) (on : Bool) → (closed past ≡ true → on ≡ true) → Rested past kept → Held past kept (fronting kept on)
fronts past None on l r = rests past None nothing refl refl r
fronts past (Some ss) on l r = fronts_by past (Some ss) (whole_at ss.unread) (is_waiting ss.stage.row) on l r

-- nothing is left to do
rested_by : (past : List Seen) (kept : Option Session) (a : Agenda) (d : Option (List ℕ)) (o : Option Order) (r : Option Spoken) (e : Option EndCause) → a.order ≡ o → is_none (first_of d o r e) ≡ true → Held past kept a → Rested past kept
rested_by past kept a None None None None p h k = λ x. elim (k.held x) [
  | inl y ↦ inl y
  | inr (inl y) ↦ absurd (let z : None ≡ Some order.Open = sym p ∙ y in cc)
  | inr (inr y) ↦ inr y.1
]
rested_by past kept a None None None (Some c) p h k = cc
rested_by past kept a None None (Some r) e p h k = cc
rested_by past kept a None (Some o) r e p h k = cc
rested_by past kept a (Some d) o r e p h k = cc

pub rested : (past : List Seen) (s : State) → is_done s.agenda ≡ true → HeldIn past s → Rested past s.session
rested past s d k = rested_by past s.session s.agenda s.agenda.datagram s.agenda.order s.agenda.reply s.agenda.ending refl d k

decided_held : (plan : PostPlan) (past : List Seen) (s : State) → (closed past ≡ true → s.live ≡ true) → HeldIn past s → HeldIn past (decided plan s)
decided_held plan past s l k = decided_by (HeldIn past) plan s (λ d.
    let r = rested past s d k in
    record { repeats = repeats past s.session s.facts.contactor r; times = times past s.session s.clock s.live l r; events = events past plan s.event s l r; fronts = fronts past s.session s.live l r }) k

-- A word.

-- a request in a row of charging, that doesn't end the session
stays : (b : Bool) (here : Phase) → is_charging (unwrap_or (if b then Some here else None) here) ≡ is_charging here
stays true here = refl
stays false here = refl

row_asked : (plan : PostPlan) (told shown : ℕ) (here : Phase) (a : Ask) (f ac : Bool) → is_charging here ≡ true → is_some (leads here a true true) ≡ true → (IsStop a → ⊥)
    → (granted_order plan told shown a ≡ Some order.Open) ⊎ (is_charging (unwrap_or (leads here a f ac) here) ≡ true)
row_asked plan told shown here (ask.SessionStop pause) f ac n t k = absurd (k tt)
row_asked plan told shown here (ask.PowerDelivery progress.Stop tuple profile) f ac n t k = inl refl
row_asked plan told shown here (ask.PowerDelivery progress.Renegotiate tuple profile) f ac n t k = inl refl
row_asked plan told shown row.DcCharging (ask.CurrentDemand ready soc voltage current) f ac n t k = inr refl
row_asked plan told shown row.AcCharging ask.ChargingStatus f ac n t k = inr refl
row_asked plan told shown row.Negotiated (ask.SessionSetup car) f ac n t k = absurd (cc)
row_asked plan told shown row.SetUp ask.ServiceDiscovery f ac n t k = absurd (cc)
row_asked plan told shown row.Discovered (ask.ServiceDetail service) f ac n t k = absurd (cc)
row_asked plan told shown row.Discovered (ask.PaymentSelection external services) f ac n t k = absurd (cc)
row_asked plan told shown row.Selected ask.Authorization f ac n t k = absurd (cc)
row_asked plan told shown row.Authorized (ask.ChargeParameters mode limits) f ac n t k = absurd (cc)
row_asked plan told shown row.DcReady (ask.CableCheck ready soc) f ac n t k = absurd (cc)
row_asked plan told shown row.DcChecked (ask.PreCharge ready soc voltage current) f ac n t k = absurd (cc)
row_asked plan told shown row.AcReady (ask.PowerDelivery progress.Start tuple profile) f ac n t k = absurd (cc)
row_asked plan told shown row.DcStopped (ask.WeldingDetection ready soc) f ac n t k = absurd (cc)
row_asked plan told shown here a f ac n t k = absurd (cc)

charging_delivers : (here : Phase) → is_charging here ≡ true → is_delivering here ≡ true
charging_delivers row.DcCharging h = refl
charging_delivers row.AcCharging h = refl
charging_delivers here h = absurd (cc)

pub delivering_charges : (here : Phase) → is_delivering here ≡ true → is_waiting here ≡ false → is_charging here ≡ true
delivering_charges row.DcCharging h w = refl
delivering_charges row.AcCharging h w = refl
delivering_charges row.DcClosing h w = cc
delivering_charges row.AcClosing h w = cc
delivering_charges here h w = absurd (cc)

charging_speaks : (here : Phase) (d : Dialect) → is_charging here ≡ true → speaks_in here d ≡ Some d
charging_speaks row.DcCharging d h = refl
charging_speaks row.AcCharging d h = refl
charging_speaks here d h = absurd (cc)

order_none : (cause : Option EndCause) (on : Bool) (o : Option Order) → cause ≡ None → order_by cause on o ≡ o
order_none cause on o e = ap (λ (x : Option EndCause). order_by x on o) e

order_some : (cause : Option EndCause) (k : EndCause) (on : Bool) (o : Option Order) → cause ≡ Some k → order_by cause on o ≡ opening_if on
order_some cause k on o e = ap (λ (x : Option EndCause). order_by x on o) e

close_alone : (cause : Option EndCause) (on : Bool) (o : Option Order) → order_by cause on o ≡ Some order.Close → cause ≡ None
close_alone None on o h = refl
close_alone (Some k) on o h = absurd (opens on h)

delivers_at : (ts ss : Session) → Some ts ≡ Some ss → is_delivering ts.stage.row ≡ true → is_delivering ss.stage.row ≡ true
delivers_at ts ss e h = let x : ts ≡ ss = cc in subst (λ (y : Session). is_delivering y.stage.row ≡ true) x h

-- the row behind an accepted request, and its order
abbrev Goes : Stage → Facts → PostPlan → Request → ℕ → Type 0
Goes s facts plan r shown = (order_of s facts plan r shown ≡ Some order.Open) ⊎ (is_charging (stage_behind s facts plan r shown).row ≡ true)

goes_on : (s : Stage) (facts : Facts) (plan : PostPlan) (r : Request) (shown : ℕ) → is_accepted (verdict s facts plan r) ≡ true → is_charging s.row ≡ true → (IsStop r.ask → ⊥) → Goes s facts plan r shown
goes_on s facts plan r shown e n k = elim (row_asked plan s.told shown s.row r.ask (is_finished facts plan r.ask shown) (is_ac plan.mode) n (row_takes s facts plan r e) k) [
  | inl x ↦ inl (rw e x)
  | inr x ↦ inr (rw e x)
]

found_none : (s : Stage) (plan : PostPlan) (t : State) (r : Request) (b : Bool) → is_accepted (verdict s t.facts plan r) ≡ b → cause_by s plan t r ≡ None → b ≡ true
found_none s plan t r true e n = refl
found_none s plan t r false e n = absurd (let x = found_failed (verdict s t.facts plan r) r.ask e in let y : None ≡ Some FailedReply = sym n ∙ x in cc)

not_stopped : (x : Code) (a : Ask) → is_accepted x ≡ true → word_cause false (found_by x a) ≡ None → IsStop a → ⊥
not_stopped x (ask.SessionStop pause) e n s = found_stopped x pause e n
not_stopped x a e n s = s

stop_none : (s : Stage) (plan : PostPlan) (t : State) (r : Request) → is_accepted (verdict s t.facts plan r) ≡ true → cause_by s plan t r ≡ None → IsStop r.ask → ⊥
stop_none s plan t r e n = not_stopped (verdict s t.facts plan r) r.ask e n

asked_held : (plan : PostPlan) (past : List Seen) (s : State) (ss : Session) (r : Request) (shown : ℕ) (o : Option EndCause) → cause_by ss.stage plan s r ≡ o → (closed past ≡ true → s.live ≡ true) → is_waiting ss.stage.row ≡ false → Rested past (Some ss) → HeldIn past (judged plan s ss (Asked r) shown)
asked_held plan past s ss r shown (Some k) e l w q = record {
  alone = λ h. close_alone (cause_by ss.stage plan s r) s.live (order_of ss.stage s.facts plan r shown) h;
  held = λ h. inr (inl (order_some (cause_by ss.stage plan s r) k s.live (order_of ss.stage s.facts plan r shown) e ∙ opens_if s.live (l h)));
}
asked_held plan past s ss r shown None e l w q = record {
  alone = λ h. e;
  held = λ h. elim (q h) [
    | inl x ↦ inl x
    | inr x ↦
        let ok = found_none ss.stage plan s r (is_accepted (verdict ss.stage s.facts plan r)) refl e in
        let here = delivering_charges ss.stage.row (delivers_at x.0 ss (sym x.1) x.2) w in
        elim (goes_on ss.stage s.facts plan r shown ok here (stop_none ss.stage plan s r ok e)) [
          | inl y ↦ inr (inl (order_none (cause_by ss.stage plan s r) s.live (order_of ss.stage s.facts plan r shown) e ∙ y))
          | inr y ↦ inr (inr (e, (_, refl, charging_delivers (stage_behind ss.stage s.facts plan r shown).row y)))
        ]
  ];
}

-- a request of the negotiation isn't read then
not_negotiated : (chosen : Option Dialect) (response : List ℕ) (w : Option Word) → Negotiated chosen response ≡ judged_word w → ⊥
not_negotiated chosen response None e = cc
not_negotiated chosen response (Some (word.Request q)) e = cc
not_negotiated chosen response (Some (word.Reply reply)) e = cc
not_negotiated chosen response (Some word.Nothing) e = cc

pub spoken_not : (c : Codecs) (offers : List Dialect) (d : Option Dialect) (k : Dialect) (payload : List ℕ) (chosen : Option Dialect) (response : List ℕ) → d ≡ Some k → Judges c offers d payload (Negotiated chosen response) → ⊥
spoken_not c offers None k payload chosen response e j = cc
spoken_not c offers (Some d) k payload chosen response e j = not_negotiated chosen response j.0 j.2

judged_held : (c : Codecs) (plan : PostPlan) (past : List Seen) (s : State) (ss : Session) (x : Judged) (shown : ℕ) (payload : List ℕ) → (closed past ≡ true → s.live ≡ true) → is_waiting ss.stage.row ≡ false → Judges c plan.dialects.items (speaks ss.stage) payload x → Rested past (Some ss) → HeldIn past (judged plan s ss x shown)
judged_held c plan past s ss (Negotiated chosen response) shown payload l w j q = record {
  alone = λ h. refl;
  held = λ h. elim (q h) [
    | inl x ↦ inl x
    | inr x ↦ absurd (spoken_not c plan.dialects.items (speaks ss.stage) ss.stage.dialect payload chosen response (charging_speaks ss.stage.row ss.stage.dialect (delivering_charges ss.stage.row (delivers_at x.0 ss (sym x.1) x.2) w)) j)
  ];
}
judged_held c plan past s ss (Asked r) shown payload l w j q = asked_held plan past s ss r shown (cause_by ss.stage plan s r) refl l w q
judged_held c plan past s ss WrongSide shown payload l w j q = record { alone = λ h. absurd (opens s.live h); held = λ h. inr (inl (opens_if s.live (l h))) }
judged_held c plan past s ss Refused shown payload l w j q = record { alone = λ h. absurd (opens s.live h); held = λ h. inr (inl (opens_if s.live (l h))) }

-- what was wanted was the frame at the front, while no reply waits
pub record Front (ss : Session) (p : Payload) : Type 0 where
  pub still : is_waiting ss.stage.row ≡ false
  pub spoken : p.dialect ≡ speaks ss.stage

front_of : (ss : Session) (f : Result (Option ℕ) FrameFault) (p : Payload) → payload_by f ss ≡ Some p → p.dialect ≡ speaks ss.stage
front_of ss (Err fault) p e = cc
front_of ss (Ok None) p e = cc
front_of ss (Ok (Some n)) p e = let x : record { dialect = speaks ss.stage; bytes = payload_at n ss.unread } ≡ p = cc in sym (ap (λ (y : Payload). y.dialect) x)

pub front_in : (ss : Session) (p : Payload) (b : Bool) → is_waiting ss.stage.row ≡ b → (if b then None else payload_by (whole_at ss.unread) ss) ≡ Some p → Front ss p
front_in ss p true w e = cc
front_in ss p false w e = record { still = w; spoken = front_of ss (whole_at ss.unread) p e }

taken_held : (c : Codecs) (plan : PostPlan) (past : List Seen) (s : State) (kept : Option Session) (r : Reading) (p : Payload) → payload_in kept ≡ Some p → Judges c plan.dialects.items p.dialect p.bytes r.judged → (closed past ≡ true → s.live ≡ true) → Rested past kept → HeldIn past s → HeldIn past (taken_in plan s kept r)
taken_held c plan past s None r p e j l q k = k
taken_held c plan past s (Some ss) r p e j l q k =
    let f = front_in ss p (is_waiting ss.stage.row) refl e in
    judged_held c plan past s ss r.judged r.shown p.bytes l f.still (subst (λ (d : Option Dialect). Judges c plan.dialects.items d p.bytes r.judged) f.spoken j) q

wanted_held : (c : Codecs) (plan : PostPlan) (past : List Seen) (s : State) (r : Reading) (p : Payload) (b : Bool) → is_done s.agenda ≡ b → wanted s ≡ Some p → Judges c plan.dialects.items p.dialect p.bytes r.judged → (closed past ≡ true → s.live ≡ true) → HeldIn past s → HeldIn past (taken_in plan s s.session r)
wanted_held c plan past s r p true d e j l k = taken_held c plan past s s.session r p (let x = rw d at e in x) j l (rested past s d k) k
wanted_held c plan past s r p false d e j l k = absurd (let x = rw d at e in cc)

read_held : (c : Codecs) (plan : PostPlan) (S : ℕ → ℕ → Type 0) (past : List Seen) (s : State) (w : Option Payload) (r : Option Reading) → wanted s ≡ w → IsRead c plan S s w r → (closed past ≡ true → s.live ≡ true) → HeldIn past s → HeldIn past (read plan s r)
read_held c plan S past s w None e i l k = k
read_held c plan S past s None (Some r) e i l k = absurd i
read_held c plan S past s (Some p) (Some r) e i l k = wanted_held c plan past s r p (is_done s.agenda) refl e i.0 l k

filled_held : (c : Codecs) (plan : PostPlan) (S : ℕ → ℕ → Type 0) (past : List Seen) (s : State) (r : Option Reading) → IsRead c plan S (decided plan s) (wanted (decided plan s)) r → (closed past ≡ true → s.live ≡ true) → HeldIn past s → HeldIn past (filled plan r s)
filled_held c plan S past s r i l k = read_held c plan S past (decided plan s) (wanted (decided plan s)) r refl i (λ h. same_live plan s ∙ l h) (decided_held plan past s l k)

-- An act.

could_more : (x : Seen) (past : List Seen) → x ≢ Did (Give order.Close) true → CouldNotOpen past → CouldNotOpen (x ∷ past)
could_more x past n k = record { since = x ∷ k.since; earlier = k.earlier; past_is = ap (λ (ys : List Seen). x ∷ ys) k.past_is; no_close = (n, k.no_close) }

delivers_map : (f : Session → Session) (kept : Option Session) → ((ss : Session) → is_delivering ss.stage.row ≡ true → is_delivering (f ss).stage.row ≡ true) → Delivering kept → Delivering (option_map f kept)
delivers_map f kept m (ss, k, h) = (f ss, ap (option_map f) k, m ss h)

since_delivers : (now : ℕ) (o : Order) (ss : Session) → is_delivering ss.stage.row ≡ true → is_delivering (since_order now o ss).stage.row ≡ true
since_delivers now order.Open ss h = h
since_delivers now order.Close ss h = h
since_delivers now (order.Limits voltage current watts) ss h = h

confirmed_delivers : (here : Phase) → is_delivering here ≡ true → is_delivering (confirmed_row here) ≡ true
confirmed_delivers row.DcClosing h = refl
confirmed_delivers row.AcClosing h = refl
confirmed_delivers row.DcCharging h = refl
confirmed_delivers row.AcCharging h = refl
confirmed_delivers here h = absurd (cc)

waiting_delivers : (here : Phase) → is_waiting here ≡ true → is_delivering here ≡ true
waiting_delivers row.DcClosing h = refl
waiting_delivers row.AcClosing h = refl
waiting_delivers here h = absurd (cc)

waits_delivers : (kept : Option Session) → IsWaitingIn kept → Delivering kept
waits_delivers None w = absurd w
waits_delivers (Some ss) w = (ss, refl, waiting_delivers ss.stage.row w)

-- a failure ends a session that has no cause
fails : (past : List Seen) (e : Option EndCause) (kept : Option Session) (cause : EndCause) (on : Bool) → (closed past ≡ true → CouldNotOpen past ⊎ ((e ≡ None) × Delivering kept)) → (closed past ≡ true → on ≡ true) → Held past kept (failing e kept cause on)
fails past None kept cause on q l = ends_in past kept cause on l (λ h. elim (q h) [
  | inl x ↦ inl x
  | inr x ↦ inr x.1
])
fails past (Some k) kept cause on q l = record {
  alone = λ h. absurd (cc);
  held = λ h. elim (q h) [
    | inl x ↦ inl x
    | inr x ↦ absurd (let y = x.0 in cc)
  ];
}

-- what held before an act that isn't Open
abbrev Before : List Seen → State → Type 0
Before past s = closed past ≡ true → CouldNotOpen past ⊎ ((s.agenda.ending ≡ None) × Delivering s.session)

before : (past : List Seen) (s : State) → (s.agenda.order ≡ Some order.Open → ⊥) → HeldIn past s → Before past s
before past s n k = λ h. elim (k.held h) [
  | inl x ↦ inl x
  | inr (inl x) ↦ absurd (n x)
  | inr (inr x) ↦ inr x
]

before_more : (x : Seen) (past : List Seen) (s : State) → x ≢ Did (Give order.Close) true → (closed (x ∷ past) ≡ closed past) → Before past s → closed (x ∷ past) ≡ true → CouldNotOpen (x ∷ past) ⊎ ((s.agenda.ending ≡ None) × Delivering s.session)
before_more x past s n e q h = elim (q (sym e ∙ h)) [
  | inl y ↦ inl (could_more x past n y)
  | inr y ↦ inr y
]

not_open : (o : Order) (was : Option Order) → was ≡ Some o → (o ≡ order.Open → ⊥) → was ≡ Some order.Open → ⊥
not_open o was h n g = n (let x : Some o ≡ Some order.Open = sym h ∙ g in cc)

gave_held : (past : List Seen) (s : State) (o : Order) (taken : Bool) → s.agenda.order ≡ Some o → (o ≡ order.Close → Delivering s.session) → (closed past ≡ true → s.live ≡ true) → HeldIn past s → HeldIn (Did (Give o) taken ∷ past) (giving o taken s)
gave_held past s order.Open true h w l k = record { alone = λ x. absurd (cc); held = λ x. absurd (cc) }
gave_held past s order.Open false h w l k =
    fails (Did (Give order.Open) false ∷ past) s.agenda.ending s.session _ s.live (λ x. inl (record { since = []; earlier = past; past_is = refl; no_close = tt })) l
gave_held past s order.Close true h w l k =
    record { alone = λ x. absurd (cc); held = λ x. inr (inr (k.alone h, delivers_map (since_order s.clock order.Close) s.session (since_delivers s.clock order.Close) (w refl))) }
gave_held past s order.Close false h w l k =
    fails (Did (Give order.Close) false ∷ past) s.agenda.ending s.session _ true
    (before_more (Did (Give order.Close) false) past s (λ z. absurd (cc)) refl (before past s (not_open order.Close s.agenda.order h (λ z. cc)) k)) (λ x. refl)
gave_held past s (order.Limits voltage current watts) true h w l k =
    let x = Did (Give (order.Limits voltage current watts)) true in
    record {
      alone = λ z. absurd (cc);
      held = λ z. elim (before_more x past s (λ y. cc) refl (before past s (not_open (order.Limits voltage current watts) s.agenda.order h (λ y. cc)) k) z) [
        | inl y ↦ inl y
        | inr y ↦ inr (inr (y.0, delivers_map (since_order s.clock (order.Limits voltage current watts)) s.session (since_delivers s.clock (order.Limits voltage current watts)) y.1))
      ];
    }
gave_held past s (order.Limits voltage current watts) false h w l k =
    fails (Did (Give (order.Limits voltage current watts)) false ∷ past) s.agenda.ending s.session _ s.live
    (before_more (Did (Give (order.Limits voltage current watts)) false) past s (λ y. cc) refl (before past s (not_open (order.Limits voltage current watts) s.agenda.order h (λ y. cc)) k)) l

none_open : (o : Option Order) → o ≡ None → o ≡ Some order.Open → ⊥
none_open o n h = let x : None ≡ Some order.Open = sym n ∙ h in cc

spoke_ends : (past : List Seen) (k : EndCause) (f : Session → Session) (kept : Option Session) (e : Option EndCause) (on : Bool) → (closed past ≡ true → CouldNotOpen past ⊎ ((e ≡ None) × Delivering kept)) → (closed past ≡ true → on ≡ true) → Held past (option_map f kept) (ending_in kept k on)
spoke_ends past k f None e on q l = rests past None nothing refl refl (λ h. elim (q h) [
  | inl x ↦ inl x
  | inr x ↦ inr x.1
])
spoke_ends past k f (Some ss) e on q l = ends_by past (Some (f ss)) k on l

spoke_held : (past : List Seen) (b : Option EndCause) (s : State) (now : ℕ) (on : Bool) → s.agenda.order ≡ None → (closed past ≡ true → CouldNotOpen past ⊎ ((s.agenda.ending ≡ None) × Delivering s.session)) → (closed past ≡ true → on ≡ true) → Held past (option_map (replied now) s.session) (agenda_said b s.session s.agenda on)
spoke_held past None s now on n q l = record {
  alone = λ h. absurd (let x : None ≡ Some order.Close = sym n ∙ h in cc);
  held = λ h. elim (q h) [
    | inl x ↦ inl x
    | inr x ↦ inr (inr (x.0, delivers_map (replied now) s.session (λ ss d. confirmed_delivers ss.stage.row d) x.1))
  ];
}
spoke_held past (Some k) s now on n q l = spoke_ends past k (replied now) s.session s.agenda.ending on q l

said_held : (past : List Seen) (s : State) (bytes : List ℕ) (taken : Bool) → s.agenda.order ≡ None → (closed past ≡ true → s.live ≡ true) → HeldIn past s → HeldIn (Did (Send bytes) taken ∷ past) (saying taken s)
said_held past s bytes true n l k = spoke_held (Did (Send bytes) true ∷ past) s.agenda.behind_reply s s.clock s.live n (before_more (Did (Send bytes) true) past s (λ y. cc) refl (before past s (none_open s.agenda.order n) k)) l
said_held past s bytes false n l k = fails (Did (Send bytes) false ∷ past) s.agenda.ending s.session _ s.live (before_more (Did (Send bytes) false) past s (λ y. cc) refl (before past s (none_open s.agenda.order n) k)) l

give_is : (d : Option (List ℕ)) (o : Option Order) (r : Option Spoken) (e : Option EndCause) (x : Order) → first_of d o r e ≡ Some (states.Give x) → o ≡ Some x
give_is (Some d) o r e x h = cc
give_is None (Some o) r e x h = cc
give_is None None (Some r) e x h = cc
give_is None None None (Some e) x h = cc
give_is None None None None x h = cc

say_is : (d : Option (List ℕ)) (o : Option Order) (r : Option Spoken) (e : Option EndCause) (x : Spoken) → first_of d o r e ≡ Some (states.Say x) → o ≡ None
say_is (Some d) o r e x h = cc
say_is None (Some o) r e x h = cc
say_is None None (Some r) e x h = refl
say_is None None None (Some e) x h = cc
say_is None None None None x h = cc

finish_is : (d : Option (List ℕ)) (o : Option Order) (r : Option Spoken) (e : Option EndCause) (x : EndCause) → first_of d o r e ≡ Some (states.Finish x) → (o ≡ None) × (e ≡ Some x)
finish_is (Some d) o r e x h = cc
finish_is None (Some o) r e x h = cc
finish_is None None (Some r) e x h = cc
finish_is None None None (Some e) x h = (refl, cc)
finish_is None None None None x h = cc

some_not : (e : Option EndCause) (k : EndCause) → e ≡ Some k → e ≡ None → ⊥
some_not e k h n = absurd (let x : Some k ≡ None = sym h ∙ n in cc)

ended_held : (past : List Seen) (s : State) (cause : ℕ) (k : EndCause) (taken : Bool) → (s.agenda.order ≡ None) × (s.agenda.ending ≡ Some k) → HeldIn past s → HeldIn (Did (End cause) taken ∷ past) (acted (End cause) taken s)
ended_held past s cause k taken f h = record {
  alone = λ x. refl;
  held = λ x. elim (before past s (none_open s.agenda.order f.0) h x) [
    | inl y ↦ inl (could_more (Did (End cause) taken) past (λ z. cc) y)
    | inr y ↦ absurd (some_not s.agenda.ending k f.1 y.0)
  ];
}

told_held : (past : List Seen) (s : State) (d : List ℕ) (taken : Bool) → HeldIn past s → HeldIn (Did (Answer d) taken ∷ past) (acted (Answer d) taken s)
told_held past s d taken k = record {
  alone = k.alone;
  held = λ x. elim (k.held x) [
    | inl y ↦ inl (could_more (Did (Answer d) taken) past (λ z. cc) y)
    | inr y ↦ inr y
  ];
}

acted_held : (c : Codecs) (past : List Seen) (s : State) (todo : states.Todo) (a : Act) (taken : Bool) → first s.agenda ≡ Some todo → IsDone c todo a taken → (s.agenda.order ≡ Some order.Close → Delivering s.session) → (closed past ≡ true → s.live ≡ true) → HeldIn past s
    → HeldIn (Did a taken ∷ past) (acted a taken s)
acted_held c past s (states.Tell d) a taken f i w l k = subst (λ (x : Act). HeldIn (Did x taken ∷ past) (acted x taken s)) (sym i) (told_held past s d taken k)
acted_held c past s (states.Give o) a taken f i w l k =
    let g = give_is s.agenda.datagram s.agenda.order s.agenda.reply s.agenda.ending o f in
    subst (λ (x : Act). HeldIn (Did x taken ∷ past) (acted x taken s)) (sym i) (gave_held past s o taken g (λ e. w (g ∙ ap (λ (x : Order). Some x) e)) l k)
acted_held c past s (states.Say spoken) a taken f i w l k =
    subst (λ (x : Act). HeldIn (Did x taken ∷ past) (acted x taken s)) (sym i.2) (said_held past s i.0 taken (say_is s.agenda.datagram s.agenda.order s.agenda.reply s.agenda.ending spoken f) l k)
acted_held c past s (states.Finish cause) a taken f i w l k =
    subst (λ (x : Act). HeldIn (Did x taken ∷ past) (acted x taken s)) (sym i.0) (ended_held past s _ cause taken (finish_is s.agenda.datagram s.agenda.order s.agenda.reply s.agenda.ending cause f) k)

-- a hearing
closed_heard : (past : List Seen) (at : ℕ) (e : Event) → closed (Heard at e ∷ past) ≡ closed past
closed_heard past at (Came token) = refl
closed_heard past at (Bytes bytes) = refl
closed_heard past at Gone = refl
closed_heard past at (Datagram bytes) = refl
closed_heard past at (Plant (plant.Pilot st)) = refl
closed_heard past at (Plant (plant.Isolation level)) = refl
closed_heard past at (Plant (plant.Measured voltage current)) = refl
closed_heard past at (Plant (plant.Feedback closed)) = refl
closed_heard past at (Plant plant.Paid) = refl
closed_heard past at (Plant plant.Emergency) = refl
closed_heard past at (Plant plant.StopAsked) = refl
closed_heard past at (Plant plant.RenewAsked) = refl
closed_heard past at Clock = refl
closed_heard past at Over = refl

none_delivers : (kept : Option Session) → kept ≡ None → Delivering kept → ⊥
none_delivers kept n d = absurd (let x : None ≡ Some d.0 = sym n ∙ d.1 in cc)

heard_delivers : (arrived : Option ℕ) (now : ℕ) (bytes : List ℕ) (kept : Option Session) → (is_some arrived ≡ true → kept ≡ None) → Delivering kept → Delivering (option_map (with_bytes bytes) (session_opened arrived now kept))
heard_delivers None now bytes kept n d = delivers_map (with_bytes bytes) kept (λ ss h. h) d
heard_delivers (Some token) now bytes kept n d = absurd (none_delivers kept (n refl) d)

heard_rested : (past : List Seen) (at : ℕ) (e : Event) (s : State) → (is_some s.arrived ≡ true → s.session ≡ None) → Rested past s.session → Rested (Heard at e ∷ past) (option_map (with_bytes (brought e)) (session_opened s.arrived s.clock s.session))
heard_rested past at e s n q = λ h. elim (q (sym (closed_heard past at e) ∙ h)) [
  | inl x ↦ inl (could_more (Heard at e) past (λ z. cc) x)
  | inr x ↦ inr (heard_delivers s.arrived s.clock (brought e) s.session n x)
]

-- every run of a post
is_live_in : (plan : PostPlan) (steps : List Step) → closed (map seen_of steps) ≡ true → (state plan steps).live ≡ true
is_live_in plan steps h = (contactors_are_read plan steps).live_is ∙ closed_live (map seen_of steps) h

quiet_rested : (plan : PostPlan) (steps : List Step) → HeldIn (map seen_of steps) (state plan steps) → IsQuiet plan (state plan steps) → Rested (map seen_of steps) (state plan steps).session
quiet_rested plan steps k q =
    let past = map seen_of steps in
    let s = state plan steps in
    subst (λ (kept : Option Session). Rested past kept) (same_session plan s) (rested past (decided plan s) (ap is_none q.none) (decided_held plan past s (is_live_in plan steps) k))

steps_held : (c : Codecs) (plan : PostPlan) (steps : List Step) → ReadsBack c → IsPostRun c plan steps → HeldIn (map seen_of steps) (state plan steps)
steps_held c plan [] back run = record { alone = λ h. refl; held = λ h. absurd (cc) }
steps_held c plan (Hears at e ∷ steps) back run =
    let past = map seen_of steps in
    let s = state plan steps in
    let q = quiet_rested plan steps (steps_held c plan steps back run.0) run.1 in
    rests (Heard at e ∷ past) (option_map (with_bytes (brought e)) (session_opened s.arrived s.clock s.session)) nothing refl refl (heard_rested past at e s (quiet_left c plan steps run.0 run.1) q)
steps_held c plan (Does r a taken ∷ steps) back (run, (limit, before, behind, acts)) =
    let past = map seen_of steps in
    let s = state plan steps in
    let t = filled plan r s in
    let l = filled_linked c plan (Shows limit before behind) past s r acts.read (run_linked c plan steps back run) in
    acted_held c past t acts.todo a taken acts.acts acts.done (λ h. waits_delivers t.session (l.closing h).2) (λ h. filled_live plan r s ∙ is_live_in plan steps h)
    (filled_held c plan (Shows limit before behind) past s r acts.read (is_live_in plan steps) (steps_held c plan steps back run))

-- at rest
pub quiet_held : (c : Codecs) (plan : PostPlan) (steps : List Step) → ReadsBack c → IsPostRun c plan steps → IsQuiet plan (state plan steps) → Rested (map seen_of steps) (state plan steps).session
quiet_held c plan steps back run q = quiet_rested plan steps (steps_held c plan steps back run) q
