-- The voltage that the charger gives and tells, behind all that may happen in the first session until the car has pre-charged.
use Rattle.std.proofs.Common.{◌≡◌, ℕ, suc, ◌+◌, ◌≤◌, nat_le, Bool, true, false, min, if◌then◌else◌, List, [], ◌∷◌, ◌++◌, take, Option, Some, None, is_some, refl, ap, sym, subst, ◌∙◌, ◌⊎◌, inl, inr, arith}
use Rattle.std.specs.List.{AllByRecursion}
use Rattle.std.proofs.lemmas.Bool.Decides.{nat_tests}
use Rattle.std.specs.Option.{option_map}
use Rattle.std.specs.Prelude.{slice_get}
use Rattle.charge_world.specs.declared.heard.PlantEvent.{PlantEvent}
use Rattle.charge_world.specs.declared.ports.Order.{Order}
use Rattle.charge_world.specs.declared.ports.Order.TheVariants as order
use Rattle.session_words.specs.declared.cause.EndCause.{EndCause}
use Rattle.session_words.specs.declared.code.Progress.TheVariants as progress
use Rattle.session_words.specs.declared.facts.Facts.{Facts}
use Rattle.session_words.specs.declared.plan.CarPlan.{CarPlan}
use Rattle.session_words.specs.declared.plan.PostPlan.{PostPlan}
use Rattle.session_words.specs.declared.session.SessionId.{SessionId}
use Rattle.session_words.specs.declared.word.Ask.{Ask}
use Rattle.session_words.specs.declared.word.Ask.TheVariants as ask
use Rattle.session_words.specs.Plans.{IsCarPlan}
use Rattle.session_timers.specs.Due.{never}
use Rattle.session_rules.specs.declared.stage.Stage.{Stage}
use Rattle.session_rules.specs.Moves.{facts_by}
use Rattle.session_rules.specs.Stages.{is_waiting}
use Rattle.session_rules.specs.Verdict.{verdict, is_accepted}
use Rattle.plant_sim.specs.Charger.{Charger, idle, came, NoneReached}
use Rattle.post_spec.specs.Codecs as post
use Rattle.post_spec.specs.Steps.{Event, Bytes, Plant, Clock, Act, Give, Send, Answer, End, Reading}
use Rattle.station_spec.specs.States.{Spoken, Agenda, Session, State, nothing}
use Rattle.station_spec.specs.Deciding.{decided}
use Rattle.station_spec.specs.Judging.{judged, taken_in, read, filled}
use Rattle.station_spec.specs.Acting.{acted}
use Rattle.station_spec.specs.Next.{IsQuiet, Acts}
use Rattle.station_spec.specs.Sharing.{Shows}
use Rattle.station_laws.proofs.Decided.{same_facts}
use Rattle.car_rules.specs.declared.stage.CarPhase.{CarPhase}
use Rattle.car_rules.specs.declared.stage.CarPhase.TheVariants as phase
use Rattle.car_rules.specs.declared.stage.CarStage.{CarStage}
use Rattle.car_rules.specs.Deadlines.{due_at}
use Rattle.car_rules.specs.Moves.{is_again, is_pre_charged, stops}
use Rattle.car_spec.specs.Codecs as car
use Rattle.car_spec.specs.Steps as car_steps_of
use Rattle.car_spec.specs.States as car_states
use Rattle.car_spec.specs.Deciding as car_deciding
use Rattle.car_spec.specs.Acting as car_acting
use Rattle.car_spec.specs.Hearing as car_hearing
use Rattle.car_spec.specs.Next as car_next
use Rattle.pipe_spec.specs.Chargers.{behind_act, IsCharger}
use Rattle.pipe_spec.specs.Histories.{Happening, CarComes, ChargerTells, StationHears, CarHears, TimePasses, StationDoes, CarReads, CarDoes, CarGoes, NumberIsDrawn, joined, moment, token, car_plan, car_cause, car_steps, to_station, to_car, ported}
use Rattle.pipe_spec.specs.Turns.{Station, station_state, car_state, BothRest, MayTurn, StationRests, CarMayReadBy, CarMayDoBy}
use Rattle.pipe_spec.specs.Runs.{IsRun, IsWithin}
use Rattle.pipe_laws.specs.OneMessage.{IsShort}
use Rattle.pipe_laws.specs.PipePasts.{IsFirst}
use Rattle.pipe_laws.proofs.Once.{charger_once}
use Rattle.pipe_laws.proofs.Runs.{EndedBy}
use Rattle.pipe_facts.specs.InTime.{is_told}
use Rattle.pipe_facts.proofs.Moments.{came_elsewhere}
use Rattle.pair_words.specs.Exchanges.{Both, Outside, judged as judged_of, heard, behind}
use Rattle.pair_words.specs.Meeting.{ArePaired, Meets}
use Rattle.pair_words.specs.Laws.{both, end_of}
use Rattle.pair_words.proofs.Sessions.{they_meet}
use Rattle.pair_readings.specs.Readings.{HasAnswered}
use Rattle.pair_deeds.specs.Cars as cars
use Rattle.matched_pairs.specs.Phases.{exchange, Words, NoneYet, Read}
use Rattle.matched_pairs.specs.Moves.{IsPair, IfRead, SuitsWords}
use Rattle.matched_pairs.specs.Acts.{IsOfBeginning, IsOfCar}
use Rattle.matched_pairs.specs.Requests.{SaysOrEnds, IsOffered, IsAsked, HasKept}
use Rattle.matched_pairs.specs.Courses.{IsAt, AllGoUndisturbed, GoesUndisturbed, GoesWell}
use Rattle.matched_pairs.specs.Power.{AllKeepTime}
use Rattle.matched_pairs.specs.Voltages.{limits_given, volts_behind, HasTold, IsToTell, IsRising, IsInPhase, VoltagesRise, VoltagesAreTold}
use Rattle.matched_pairs.proofs.Requested.{posts_do}
use Rattle.matched_pairs.proofs.Keeps.{posts_keep}
use Rattle.matched_pairs.proofs.CarPhases.{same_session}
use Rattle.matched_pairs.proofs.CarsDo.{cars_act}
use Rattle.matched_pairs.proofs.CarMoves.{begins_unstaged, reads_live, GoesOn, acts_on}
use Rattle.matched_pairs.proofs.Clocks.{same_car_clock}
use Rattle.matched_pairs.proofs.Coming.{HasSomeUnread, unread_said}
use Rattle.matched_pairs.proofs.Held.{Holds, Known, not_ended, car_lives}
use Rattle.matched_pairs.proofs.Measured.{Gives, Steady, IsRaised, IsSoon, Rising, Volts, IsReached, WaitsOn, IsBeyond, same_volts, tells, orders, moves_volts, reads_volts, IsSteady, steady, heard_out}
use Rattle.matched_pairs.proofs.Pacing.{PacedBy, IsPaced, AgainBy, IsRepeated}
use Rattle.matched_pairs.proofs.Passing.{IsPassing, Rests, Closes}
use Rattle.matched_pairs.proofs.Paces.{front, Seen, known, passing_at, first_of as first_session_of, seen, holds_in}
use Rattle.matched_pairs.proofs.PreCharging.{PastStart, past_heard, past_said, past_by, past_of, past_unstaged, not_past, in_phase, phase_is, unstaged, phase_heard, heard_phase, phase_said, said_phase, IsPlaced, Before, PreCharges, Behind, placed, goes_on_then, orders_before, pre_charge_orders, pre_charge_waits_not, MovesTo, reads_on, reads_past, pre_charge_leads, never_staged, unwaiting_at}
use Rattle.matched_pairs.proofs.Power.{IsFirstOf, first_of}
use Rattle.matched_pairs.proofs.Raised.{is_raised, Pending, IsDecided, IsOnItsWay, IsBusy, busy_done, busy_reads, decides_so, Unwaiting, sends_pending, ends_pending, busy_heard, heard_pending, busy_passes, busy_car_heard, busy_car_acts, pending_car_acts, none_pending}
use Rattle.matched_pairs.proofs.Replied.{IsReadSo, AChoice, AReply, ReadsChoice, ReadsReply, reads_so}
use Rattle.matched_pairs.proofs.Rows.{is_from_start}
use Rattle.matched_pairs.proofs.Timely.{timely_sessions_are_undisturbed}
use Rattle.matched_pairs.proofs.Courses.{sessions_go_well}
use Rattle.matched_pairs.proofs.Told.{words_are_told}
use Rattle.matched_pairs.proofs.Unsaid.{UnsaidBy, unsaid_nothing, unsaid_said, reads_unsaid, gives_unsaid, SaysSo, says_so, says_due, heard_beyond, says_beyond}

some_none : {A : Type 0} (a : A) → Some a ≡ None → ⊥
some_none a e = cc

true_false : true ≡ false → ⊥
true_false e = cc

-- ---- acts leave the voltage that was told

asked_voltage : (s : Stage) (f : Facts) (named : SessionId) (a : Ask) → (facts_by s f named a).voltage ≡ f.voltage
asked_voltage s f named (ask.SessionSetup id) = refl
asked_voltage s f named (ask.PowerDelivery progress.Renegotiate tuple profile) = refl
asked_voltage s f named other = refl

behind_voltage : (b : Bool) (f g : Facts) → g.voltage ≡ f.voltage → (if b then g else f).voltage ≡ f.voltage
behind_voltage true f g e = e
behind_voltage false f g e = refl

judged_voltage : (plan : PostPlan) (s : State) (session : Session) (w : post.Judged) (shown : ℕ) → (judged plan s session w shown).facts.voltage ≡ s.facts.voltage
judged_voltage plan s session (post.Negotiated chosen response) shown = refl
judged_voltage plan s session (post.Asked r) shown =
    behind_voltage (is_accepted (verdict session.stage s.facts plan r)) s.facts (facts_by session.stage s.facts r.session r.ask) (asked_voltage session.stage s.facts r.session r.ask)
judged_voltage plan s session post.WrongSide shown = refl
judged_voltage plan s session post.Refused shown = refl

taken_voltage : (plan : PostPlan) (s : State) (o : Option Session) (r : Reading) → (taken_in plan s o r).facts.voltage ≡ s.facts.voltage
taken_voltage plan s None r = refl
taken_voltage plan s (Some session) r = judged_voltage plan s session r.judged r.shown

read_voltage : (plan : PostPlan) (s : State) (o : Option Reading) → (read plan s o).facts.voltage ≡ s.facts.voltage
read_voltage plan s None = refl
read_voltage plan s (Some r) = taken_voltage plan s s.session r

filled_voltage : (plan : PostPlan) (o : Option Reading) (s : State) → (filled plan o s).facts.voltage ≡ s.facts.voltage
filled_voltage plan o s = read_voltage plan (decided plan s) o ∙ ap (λ (f : Facts). f.voltage) (same_facts plan s)

acted_voltage : (act : Act) (t : State) → (acted act true t).facts.voltage ≡ t.facts.voltage
acted_voltage (Give o) t = refl
acted_voltage (Send bytes) t = refl
acted_voltage (Answer bytes) t = refl
acted_voltage (End cause) t = refl

pub acts_voltage : (plan : PostPlan) (o : Option Reading) (act : Act) (s : State) → (acted act true (filled plan o s)).facts.voltage ≡ s.facts.voltage
acts_voltage plan o act s = acted_voltage act (filled plan o s) ∙ filled_voltage plan o s

-- ---- what is so until the car has pre-charged

pub record EarlyOf (st : Station) (plan : CarPlan) (h : List Happening) (k : car_states.State) : Type 0 where
  pub busy : is_raised h ≡ true → IsBusy (station_state st h) k.session (to_car h)
  pub raised : IsInPhase phase.PreCharging k.session → Pending (station_state st h) k.session (to_car h) → is_raised h ≡ true
  pub volts : (x : Charger) → IsCharger st.post.free h x
      → Volts plan.target_voltage (moment h) (limits_given h) (is_raised h) (is_told h) k.session x (station_state st h).facts
  pub unsaid : UnsaidBy k.agenda k.session

abbrev pub GoesOf : Station → CarPlan → List Happening → car_states.State → Type 0
GoesOf st plan h k = PastStart k.session ⊎ EarlyOf st plan h k

abbrev pub Goes : Station → CarPlan → List Happening → Type 0
Goes st plan h = GoesOf st plan h (car_state plan h)

same_moment : (n : ℕ) → n ≤ n
same_moment n = omega arith

ten_more : (n : ℕ) → n ≤ n + 10
ten_more n = omega arith

zero_more : (n : ℕ) → n ≡ 0 + n
zero_more n = omega arith

one_more : (n : ℕ) → suc n ≡ 1 + n
one_more n = omega arith

-- ---- the charger tells something

tells_on : (st : Station) (plan : CarPlan) (h : List Happening) (event : PlantEvent) → StationRests st h → EarlyOf st plan h (car_state plan h) → EarlyOf st plan (ChargerTells event ∷ h) (car_state plan h)
tells_on st plan h event q k = record {
  busy = λ e. busy_heard st.post (station_state st h) (station_state st (ChargerTells event ∷ h)) (car_state plan h).session (to_car h) q (k.busy e);
  raised = λ i p. k.raised i (heard_pending (moment h) (Plant event) (station_state st h) (car_state plan h).session (to_car h) p);
  volts = λ x i. tells plan.target_voltage (moment h) (limits_given h) (is_raised h) (is_told h) (car_state plan h).session i.0 x event (station_state st h).facts i.2 (k.volts i.0 i.1);
  unsaid = k.unsaid;
}

-- ---- a piece is heard

reached_none : (free : Bool) (h : List Happening) (a x : Charger) (now : ℕ) → IsCharger free h a → IsCharger free h x → NoneReached a.moments now → NoneReached x.moments now
reached_none free h a x now i j n = subst (λ (s : Charger). NoneReached s.moments now) (charger_once free h a x i j) n

hears_on : (st : Station) (plan : CarPlan) (h : List Happening) (bytes : List ℕ) → MayTurn st h (StationHears bytes) → EarlyOf st plan h (car_state plan h) → EarlyOf st plan (StationHears bytes ∷ h) (car_state plan h)
hears_on st plan h bytes f k =
    let rest : BothRest st h = f.rest in
    let t = f.turn in
    record {
      busy = λ e. busy_heard st.post (station_state st h) (station_state st (StationHears bytes ∷ h)) (car_state plan h).session (to_car h) rest.station_rests (k.busy e);
      raised = λ i p. k.raised i (heard_pending (moment h) (Bytes bytes) (station_state st h) (car_state plan h).session (to_car h) p);
      volts = λ x i. heard_out plan.target_voltage (moment h) (limits_given h) (is_raised h) (is_told h) (car_state plan h).session x (station_state st h).facts
          (reached_none st.post.free h f.charger x (moment h) f.charger_is i t.0) (k.volts x i);
      unsaid = k.unsaid;
    }

-- a car that has ended hears nothing
car_heard_or : (P : car_states.State → Type 0) (cause : Option ℕ) (plan : CarPlan) (steps : List car_steps_of.Step) (event : Event) (at : ℕ) → EndedBy cause (car_acting.state plan steps)
    → P (car_hearing.hearing at event (car_acting.state plan steps)) → ((car_acting.state plan steps).session ≡ None → P (car_acting.state plan steps))
    → P (car_acting.state plan (if is_some cause then steps else car_steps_of.Hears at event ∷ steps))
car_heard_or P None plan steps event at e p q = p
car_heard_or P (Some n) plan steps event at e p q = q e.session

take_some : (n : ℕ) (way : List ℕ) → (way ≡ [] → ⊥) → take (suc n) way ≡ [] → ⊥
take_some n [] w e = w refl
take_some n (x ∷ way) w e = cc

one_plus : (n : ℕ) → 1 + n ≡ suc n
one_plus n = omega arith

piece_some : (n : ℕ) (way bytes : List ℕ) → (way ≡ [] → ⊥) → bytes ≡ take (1 + n) way → bytes ≡ [] → ⊥
piece_some n way bytes w e f = take_some n way w (sym (ap (λ (m : ℕ). take m way) (one_plus n)) ∙ sym e ∙ f)

car_hears_on : (st : Station) (plan : CarPlan) (h : List Happening) (bytes : List ℕ) → MayTurn st h (CarHears bytes) → EarlyOf st plan h (car_state plan h)
    → EarlyOf st plan (CarHears bytes ∷ h) (car_hearing.hearing (moment h) (Bytes bytes) (car_state plan h))
car_hears_on st plan h bytes f k =
    let t = f.turn in
    let piece = t.2 in
    record {
      busy = λ e. busy_car_heard (car_state plan h).session (station_state st h) bytes (to_car (CarHears bytes ∷ h)) (moment h) (piece_some _ (to_car h) bytes piece.under_way piece.bytes_are);
      raised = λ i p. k.raised (heard_phase phase.PreCharging (Bytes bytes) (moment h) (car_state plan h).session refl i) (IsOnItsWay piece.under_way);
      volts = λ x i. moves_volts plan.target_voltage (moment h) (moment h) (limits_given h) (is_raised h) (is_told h) true (car_state plan h).session
          (car_hearing.session_heard (Bytes bytes) (moment h) (car_state plan h).session) x (station_state st h).facts (same_moment (moment h)) (λ e. refl)
          (phase_heard phase.PreCharging (Bytes bytes) (moment h) (car_state plan h).session)
          (λ at b. heard_beyond (Bytes bytes) (moment h) (moment h) (moment h) at (car_state plan h).session (same_moment (moment h)) b)
          (λ e at m. reached_none st.post.free h f.charger x (moment h) f.charger_is i t.0 4 at m) (k.volts x i);
      unsaid = unsaid_nothing car_states.nothing (car_hearing.session_heard (Bytes bytes) (moment h) (car_state plan h).session) refl;
    }

car_hears : (st : Station) (plan : CarPlan) (h : List Happening) (bytes : List ℕ) → EndedBy (car_cause h) (car_state plan h) → MayTurn st h (CarHears bytes) → Goes st plan h
    → Goes st plan (CarHears bytes ∷ h)
car_hears st plan h bytes ended f (inl p) =
    car_heard_or (λ (x : car_states.State). GoesOf st plan (CarHears bytes ∷ h) x) (car_cause h) plan (car_steps h) (Bytes bytes) (moment h) ended
    (inl (past_heard (Bytes bytes) (moment h) (car_state plan h).session refl p)) (λ e. inl p)
car_hears st plan h bytes ended f (inr k) =
    car_heard_or (λ (x : car_states.State). GoesOf st plan (CarHears bytes ∷ h) x) (car_cause h) plan (car_steps h) (Bytes bytes) (moment h) ended
    (inr (car_hears_on st plan h bytes f k)) (λ e. inl (subst PastStart (sym e) tt))

-- ---- time passes

pub record IsStill (k : car_states.State) : Type 0 where
  pub session : car_states.Session
  pub session_is : k.session ≡ Some session
  pub live : k.over ≡ false
  pub unread : session.unread ≡ []

pub passes_still : (now : ℕ) (s : State) (k : car_states.State) → IsPassing now s k → IsStill k
passes_still now s k (Rests r) = record { session = r.car; session_is = r.car_is; live = r.live; unread = r.unread }
passes_still now s k (Closes r) = record { session = r.car; session_is = r.car_is; live = r.live; unread = r.unread }

pub not_raised : (b : Bool) → (b ≡ true → ⊥) → b ≡ false
not_raised true n = absurd (n refl)
not_raised false n = refl

pub passes_unraised : (st : Station) (plan : CarPlan) (h : List Happening) → MayTurn st h TimePasses → IsPassing (moment h) (station_state st h) (car_state plan h) → EarlyOf st plan h (car_state plan h)
    → is_raised h ≡ false
passes_unraised st plan h f p k =
    let rest : BothRest st h = f.rest in
    let t = f.turn in
    let still : IsStill (car_state plan h) = passes_still (moment h) (station_state st h) (car_state plan h) p in
    not_raised (is_raised h) (λ e. busy_passes st.post (station_state st h) (car_state plan h).session still.session (to_car h) rest.station_rests still.session_is still.unread t.2 (k.busy e))

passes_on : (st : Station) (plan : CarPlan) (h : List Happening) → MayTurn st h TimePasses → IsPassing (moment h) (station_state st h) (car_state plan h) → EarlyOf st plan h (car_state plan h)
    → EarlyOf st plan (TimePasses ∷ h) (car_hearing.hearing (moment h + 10) Clock (car_state plan h))
passes_on st plan h f p k =
    let rest : BothRest st h = f.rest in
    let t = f.turn in
    let still : IsStill (car_state plan h) = passes_still (moment h) (station_state st h) (car_state plan h) p in
    let none : is_raised h ≡ false = passes_unraised st plan h f p k in
    record {
      busy = λ e. absurd (true_false (sym e ∙ none));
      raised = λ i q. absurd (none_pending st.post (station_state st h) (car_hearing.session_heard Clock (moment h + 10) (car_state plan h).session) _ (to_car h) rest.station_rests
          (ap (car_hearing.session_heard Clock (moment h + 10)) still.session_is) (ap (λ (l : List ℕ). l ++ []) still.unread) t.2
          (heard_pending (moment h + 10) Clock (station_state st h) (car_hearing.session_heard Clock (moment h + 10) (car_state plan h).session) (to_car h) q));
      volts = λ x i. moves_volts plan.target_voltage (moment h) (moment h + 10) (limits_given h) (is_raised h) (is_told h) false (car_state plan h).session
          (car_hearing.session_heard Clock (moment h + 10) (car_state plan h).session) x (station_state st h).facts (ten_more (moment h)) (λ e. absurd (true_false (sym e ∙ none)))
          (phase_heard phase.PreCharging Clock (moment h + 10) (car_state plan h).session)
          (λ at b. heard_beyond Clock (moment h + 10) (moment h) (moment h + 10) at (car_state plan h).session (ten_more (moment h)) b)
          (λ e. absurd (true_false (sym e))) (k.volts x i);
      unsaid = unsaid_nothing car_states.nothing (car_hearing.session_heard Clock (moment h + 10) (car_state plan h).session) refl;
    }

passes : (c : post.Codecs) (cs : car.Codecs) (st : Station) (plan : CarPlan) (h : List Happening) → Known c cs st plan h → MayTurn st h TimePasses
    → IsPassing (moment h) (station_state st h) (car_state plan h) → Goes st plan h → Goes st plan (TimePasses ∷ h)
passes c cs st plan h n f p g =
    let still : IsStill (car_state plan h) = passes_still (moment h) (station_state st h) (car_state plan h) p in
    car_lives (λ (x : car_states.State). GoesOf st plan (TimePasses ∷ h) x) (car_cause h) plan (car_steps h) Clock (moment h + 10)
    (not_ended (car_cause h) (car_state plan h) n.ended still.live)
    (elim g as (λ v. GoesOf st plan (TimePasses ∷ h) (car_hearing.hearing (moment h + 10) Clock (car_state plan h))) [
      | inl q ↦ inl (past_heard Clock (moment h + 10) (car_state plan h).session refl q)
      | inr k ↦ inr (passes_on st plan h f p k)
    ])

-- ---- the post says something, or ends

same_charger : (h : List Happening) (a b : Charger) (f g : Facts) → b ≡ a → g.voltage ≡ f.voltage → (target now given : ℕ) (raised told : Bool) (y : Option car_states.Session) → Volts target now given raised told y a f
    → Volts target now (0 + given) raised told y b g
same_charger h a b f g e v target now given raised told y k =
    subst (λ (n : ℕ). Volts target now n raised told y b g) (zero_more given)
    (same_volts target now given raised told y a b f g (record {
      four = ap (λ (s : Charger). slice_get s.moments 4) e;
      seven = ap (λ (s : Charger). slice_get s.moments 7) e;
      ordered = ap (λ (s : Charger). s.limits.voltage) e;
      gives = ap (λ (s : Charger). s.voltage) e;
      tells = v;
    }) k)

sends_on : (c : post.Codecs) (st : Station) (plan : CarPlan) (h : List Happening) (reading : Option Reading) (bytes : List ℕ) → Acts c st.post (Shows st.limit [] []) (station_state st h) reading (Send bytes) true
    → (IsInPhase phase.PreCharging (car_state plan h).session → is_raised h ≡ true) → EarlyOf st plan h (car_state plan h) → EarlyOf st plan (StationDoes reading (Send bytes) ∷ h) (car_state plan h)
sends_on c st plan h reading bytes i r k = record {
  busy = λ e. busy_done c st.post st.limit (station_state st h) (station_state st (StationDoes reading (Send bytes) ∷ h)) (car_state plan h).session (to_car h) reading (Send bytes) i (k.busy e);
  raised = λ ph p. r ph;
  volts = λ x j. same_charger h j.0 x (station_state st h).facts (station_state st (StationDoes reading (Send bytes) ∷ h)).facts j.2 (acts_voltage st.post reading (Send bytes) (station_state st h))
      plan.target_voltage (moment h) (limits_given h) (is_raised h) (is_told h) (car_state plan h).session (k.volts j.0 j.1);
  unsaid = k.unsaid;
}

ends_on : (c : post.Codecs) (st : Station) (plan : CarPlan) (h : List Happening) (reading : Option Reading) (number : ℕ) → Acts c st.post (Shows st.limit [] []) (station_state st h) reading (End number) true
    → EarlyOf st plan h (car_state plan h) → EarlyOf st plan (StationDoes reading (End number) ∷ h) (car_state plan h)
ends_on c st plan h reading number i k = record {
  busy = λ e. busy_done c st.post st.limit (station_state st h) (station_state st (StationDoes reading (End number) ∷ h)) (car_state plan h).session (to_car h) reading (End number) i (k.busy e);
  raised = λ ph p. k.raised ph (ends_pending number (filled st.post reading (station_state st h)) (station_state st h) (car_state plan h).session (to_car h) p);
  volts = λ x j. same_charger h j.0 x (station_state st h).facts (station_state st (StationDoes reading (End number) ∷ h)).facts j.2 (acts_voltage st.post reading (End number) (station_state st h))
      plan.target_voltage (moment h) (limits_given h) (is_raised h) (is_told h) (car_state plan h).session (k.volts j.0 j.1);
  unsaid = k.unsaid;
}

without : (act : Act) (c : post.Codecs) (st : Station) (plan : CarPlan) (h : List Happening) → SaysOrEnds st.post (station_state st h) act → Acts c st.post (Shows st.limit [] []) (station_state st h) None act true
    → (IsInPhase phase.PreCharging (car_state plan h).session → Unwaiting (station_state st h).session) → EarlyOf st plan h (car_state plan h) → EarlyOf st plan (StationDoes None act ∷ h) (car_state plan h)
without (Send bytes) c st plan h says i w k =
    sends_on c st plan h None bytes i (λ ph. k.raised ph (sends_pending c st.post st.limit (station_state st h) (car_state plan h).session (to_car h) bytes (w ph) i)) k
without (End number) c st plan h says i w k = ends_on c st plan h None number i k
without (Give o) c st plan h says i w k = absurd says
without (Answer bytes) c st plan h says i w k = absurd says

offered : (act : Act) (c : post.Codecs) (st : Station) (plan : CarPlan) (h : List Happening) (reading : Option Reading) → IsOfBeginning act
    → Acts c st.post (Shows st.limit [] []) (station_state st h) reading act true → (IsInPhase phase.PreCharging (car_state plan h).session → ⊥) → EarlyOf st plan h (car_state plan h)
    → EarlyOf st plan (StationDoes reading act ∷ h) (car_state plan h)
offered (Send bytes) c st plan h reading b i n k = sends_on c st plan h reading bytes i (λ ph. absurd (n ph)) k
offered (Give o) c st plan h reading b i n k = absurd b
offered (End number) c st plan h reading b i n k = absurd b
offered (Answer bytes) c st plan h reading b i n k = absurd b

-- ---- the post reads a request

record Asks (c : post.Codecs) (cs : car.Codecs) (st : Station) (plan : CarPlan) (dialect_xs : Both) (h : List Happening) (r : Reading) : Type 0 where
  meets : Meets st.post dialect_xs
  kept : HasKept st.post plan dialect_xs (station_state st h) r
  session : car_states.Session
  session_is : (car_state plan h).session ≡ Some session
  stage_is : session.stage ≡ Some dialect_xs.car
  unread : session.unread ≡ []
  again : session.again ≡ None
  way : to_car h ≡ []
  told : is_told h ≡ true
  few : moment h ≤ 42949672960

asks_unraised : (c : post.Codecs) (cs : car.Codecs) (st : Station) (plan : CarPlan) (b : Both) (h : List Happening) (r : Reading) (act : Act) → Asks c cs st plan b h r
    → Acts c st.post (Shows st.limit [] []) (station_state st h) (Some r) act true → EarlyOf st plan h (car_state plan h) → is_raised h ≡ false
asks_unraised c cs st plan b h r act a i k =
    not_raised (is_raised h) (λ e. busy_reads c st.post st.limit (station_state st h) (car_state plan h).session a.session (to_car h) r act i a.session_is a.unread a.way (k.busy e))

-- before the pre-charge it orders nothing
talks : (act : Act) (c : post.Codecs) (cs : car.Codecs) (st : Station) (plan : CarPlan) (b : Both) (h : List Happening) (r : Reading) → Asks c cs st plan b h r → IsFirstOf None act
    → Acts c st.post (Shows st.limit [] []) (station_state st h) (Some r) act true → (IsInPhase phase.PreCharging (car_state plan h).session → ⊥) → EarlyOf st plan h (car_state plan h)
    → EarlyOf st plan (StationDoes (Some r) act ∷ h) (car_state plan h)
talks (Send bytes) c cs st plan b h r a o i n k = sends_on c st plan h (Some r) bytes i (λ ph. absurd (n ph)) k
talks (End number) c cs st plan b h r a o i n k = ends_on c st plan h (Some r) number i k
talks (Give x) c cs st plan b h r a o i n k = absurd o
talks (Answer bytes) c cs st plan b h r a o i n k = absurd o

answers_so : (w : Bool) (o : Option Order) (spoken : Spoken) (ending : Option EndCause) (a : Agenda) → a ≡ record nothing { order = o; reply = if w then None else Some spoken; ending = ending } → w ≡ false → ending ≡ None
    → a ≡ record nothing { order = o; reply = Some spoken }
answers_so w o spoken ending a e f g =
    e ∙ ap (λ (b : Bool). record nothing { order = o; reply = if b then None else Some spoken; ending = ending }) f ∙ ap (λ (x : Option EndCause). record nothing { order = o; reply = Some spoken; ending = x }) g

raises : (c : post.Codecs) (cs : car.Codecs) (st : Station) (plan : CarPlan) (b : Both) (h : List Happening) (r : Reading) (act : Act) (i w : ℕ) → Asks c cs st plan b h r → b.car.phase ≡ phase.PreCharging
    → Acts c st.post (Shows st.limit [] []) (station_state st h) (Some r) act true → EarlyOf st plan h (car_state plan h)
    → EarlyOf st plan (StationDoes (Some r) (Give (order.Limits plan.target_voltage i w)) ∷ h) (car_state plan h)
raises c cs st plan b h r act i w a e acts k =
    let t : HasKept st.post plan b (station_state st h) r = a.kept in
    let n : HasAnswered st.post plan b (exchange (station_state st h).facts (station_state st h).facts r.shown) (decided st.post (station_state st h)) t.session (filled st.post (Some r) (station_state st h)) = t.kept in
    let none : is_raised h ≡ false = asks_unraised c cs st plan b h r act a acts k in
    let ph : IsInPhase phase.PreCharging (car_state plan h).session = in_phase phase.PreCharging (car_state plan h).session a.session b.car a.session_is a.stage_is e in
    record {
      busy = λ z. inl (IsDecided _ (decides_so (filled st.post (Some r) (station_state st h)).agenda _ _
          (answers_so (is_waiting (judged_of st.post plan b (exchange (station_state st h).facts (station_state st h).facts r.shown)).row) _ _ (end_of b.car.phase)
          (filled st.post (Some r) (station_state st h)).agenda n.agenda
          (pre_charge_waits_not st.post plan b (exchange (station_state st h).facts (station_state st h).facts r.shown) a.meets e) (goes_on_then b.car.phase (ap is_from_start e)))));
      raised = λ q p. refl;
      volts = λ x j.
          let s : IsSteady plan.target_voltage (limits_given h) j.0 (station_state st h).facts =
          steady plan.target_voltage (moment h) (limits_given h) (is_raised h) (is_told h) (car_state plan h).session a.session j.0 (station_state st h).facts none a.told a.session_is a.again (k.volts j.0 j.1) in
          let v : Volts plan.target_voltage (moment h) (limits_given h) (is_raised h) (is_told h) (car_state plan h).session j.0 (station_state st h).facts = k.volts j.0 j.1 in
          subst (λ (g : ℕ). Volts plan.target_voltage (moment h) g true (is_told h) (car_state plan h).session x (station_state st (StationDoes (Some r) (Give (order.Limits plan.target_voltage i w)) ∷ h)).facts) (one_more (limits_given h))
          (orders plan.target_voltage (moment h) (limits_given h) (is_told h) (car_state plan h).session j.0 x (station_state st h).facts
          (station_state st (StationDoes (Some r) (Give (order.Limits plan.target_voltage i w)) ∷ h)).facts i w a.few j.2
          (acts_voltage st.post (Some r) (Give (order.Limits plan.target_voltage i w)) (station_state st h)) ph s.none s.gives v.falls);
      unsaid = k.unsaid;
    }

asks_by : (c : post.Codecs) (cs : car.Codecs) (st : Station) (plan : CarPlan) (b : Both) (h : List Happening) (r : Reading) (act : Act) → Asks c cs st plan b h r → IsPlaced b.car.phase
    → Acts c st.post (Shows st.limit [] []) (station_state st h) (Some r) act true → EarlyOf st plan h (car_state plan h) → GoesOf st plan (StationDoes (Some r) act ∷ h) (car_state plan h)
asks_by c cs st plan b h r act a (Before e n) i k =
    let t : HasKept st.post plan b (station_state st h) r = a.kept in
    let m : HasAnswered st.post plan b (exchange (station_state st h).facts (station_state st h).facts r.shown) (decided st.post (station_state st h)) t.session (filled st.post (Some r) (station_state st h)) = t.kept in
    inr (talks act c cs st plan b h r a
    (subst (λ (o : Option Order). IsFirstOf o act) (orders_before st.post plan b (exchange (station_state st h).facts (station_state st h).facts r.shown) (decided st.post (station_state st h)).live e n)
    (first_of _ _ _ c (filled st.post (Some r) (station_state st h)).agenda i.todo act m.agenda i.acts i.done))
    i (λ ph. n (phase_is phase.PreCharging (car_state plan h).session a.session b.car a.session_is a.stage_is ph)) k)
asks_by c cs st plan b h r act a (PreCharges e) i k =
    let t : HasKept st.post plan b (station_state st h) r = a.kept in
    let m : HasAnswered st.post plan b (exchange (station_state st h).facts (station_state st h).facts r.shown) (decided st.post (station_state st h)) t.session (filled st.post (Some r) (station_state st h)) = t.kept in
    let is : act ≡ Give (order.Limits plan.target_voltage (min plan.target_current 20) b.post.told) =
    subst (λ (o : Option Order). IsFirstOf o act)
    (pre_charge_orders st.post plan b (exchange (station_state st h).facts (station_state st h).facts r.shown) (decided st.post (station_state st h)).live t.answered e)
    (first_of _ _ _ c (filled st.post (Some r) (station_state st h)).agenda i.todo act m.agenda i.acts i.done) in
    inr (subst (λ (x : Act). EarlyOf st plan (StationDoes (Some r) x ∷ h) (car_state plan h)) (sym is)
    (raises c cs st plan b h r act (min plan.target_current 20) b.post.told a e i k))
asks_by c cs st plan b h r act a (Behind e) i k = inl (past_by (car_state plan h).session a.session b.car a.session_is a.stage_is e)

does_by : (words : Words) (reading : Option Reading) (c : post.Codecs) (cs : car.Codecs) (st : Station) (plan : CarPlan) (h : List Happening) (act : Act) → IsPair c cs st.post plan → IsAt c cs st plan words h
    → Acts c st.post (Shows st.limit [] []) (station_state st h) reading act true → IfRead reading (SuitsWords st.post plan words (station_state st h).facts) → moment h ≤ 42949672960
    → ((r : Reading) → reading ≡ Some r → is_told h ≡ true) → EarlyOf st plan h (car_state plan h) → GoesOf st plan (StationDoes reading act ∷ h) (car_state plan h)
does_by NoneYet reading c cs st plan h act p at i d few told k =
    let o : IsOffered (station_state st h) act = posts_do c cs st.post plan st.limit NoneYet (station_state st h) (car_state plan h) (to_station h) (to_car h) reading act p at i in
    inr (offered act c st plan h reading o.says i
    (never_staged (car_state plan h).session (begins_unstaged c cs st.post plan (station_state st h) (car_state plan h) (to_station h) (to_car h) at)) k)
does_by (Read dialect xs) None c cs st plan h act p at i d few told k =
    inr (without act c st plan h
    (posts_do c cs st.post plan st.limit (Read dialect xs) (station_state st h) (car_state plan h) (to_station h) (to_car h) None act p at i) i
    (unwaiting_at (Read dialect xs) c cs st.post plan st.limit (station_state st h) (car_state plan h) (to_station h) (to_car h) act p at i) k)
does_by (Read dialect xs) (Some r) c cs st plan h act p at i d few told k =
    let a : IsAsked st.post plan dialect xs (station_state st h) (car_state plan h) (to_station h) (to_car h) =
    posts_do c cs st.post plan st.limit (Read dialect xs) (station_state st h) (car_state plan h) (to_station h) (to_car h) (Some r) act p at i in
    let awaits = a.awaits in
    let still : cars.IsStill plan (car_state plan h) awaits.session = awaits.still in
    let none = a.none in
    asks_by c cs st plan (both st.post plan token dialect xs) h r act (record {
      meets = they_meet st.post plan token dialect xs p.paired at.0;
      kept = posts_keep c cs st.post plan st.limit dialect xs (station_state st h) (car_state plan h) (to_station h) (to_car h) r act p at d i;
      session = awaits.session;
      session_is = still.session_is;
      stage_is = awaits.stage_is;
      unread = awaits.unread_is;
      again = awaits.again;
      way = none.car;
      told = told r refl;
      few = few;
    }) (placed (both st.post plan token dialect xs).car.phase) i k

-- ---- the car reads

due_soon : (now clock pace : ℕ) → clock ≡ now → 100 ≤ pace → now + 20 ≤ clock + pace
due_soon now clock pace e p = omega (arith, e, p)

unstaged_again : (again : Option ℕ) (at : ℕ) (stage : Option CarStage) → again ≡ Some at → stage ≡ None → AgainBy again stage → ⊥
unstaged_again again at stage e n p = subst IsRepeated n (subst (λ (o : Option ℕ). AgainBy o stage) e p)

same_some : (a b : car_states.Session) → Some a ≡ Some b → a ≡ b
same_some a b e = cc

-- what waited is past
beyond_read : (at now : ℕ) (y z : Option car_states.Session) → ((x : car_states.Session) (again : ℕ) → y ≡ Some x → x.again ≡ Some again → ⊥) → IsBeyond at now y → IsBeyond at now z
beyond_read at now y z n (IsReached l) = IsReached l
beyond_read at now y z n (WaitsOn x e again a l) = absurd (n x again e a)

read_again_not : (y : Option car_states.Session) (own : car_states.Session) → y ≡ Some own → own.again ≡ None → (x : car_states.Session) (again : ℕ) → y ≡ Some x → x.again ≡ Some again → ⊥
read_again_not y own e n x again f a =
    let same : own ≡ x = same_some own x (sym e ∙ f) in
    some_none again (sym a ∙ ap (λ (z : car_states.Session). z.again) (sym same) ∙ n)

choice_again_not : (k : car_states.State) (own : car_states.Session) → k.session ≡ Some own → own.stage ≡ None → PacedBy k.agenda k.session → (x : car_states.Session) (again : ℕ) → k.session ≡ Some x → x.again ≡ Some again → ⊥
choice_again_not k own e n p x again f a =
    let paced : PacedBy k.agenda (Some own) = subst (PacedBy k.agenda) e p in
    let same : own ≡ x = same_some own x (sym e ∙ f) in
    unstaged_again own.again again own.stage (ap (λ (z : car_states.Session). z.again) same ∙ a) n paced.0

setting_not : phase.SettingUp ≡ phase.PreCharging → ⊥
setting_not e = cc

chooses : (c : post.Codecs) (cs : car.Codecs) (st : Station) (plan : CarPlan) (h : List Happening) (w : car.Judged) → ReadsChoice plan (car_state plan h) w → Holds st plan h → EarlyOf st plan h (car_state plan h)
    → EarlyOf st plan (CarReads w ∷ h) (car_state plan (CarReads w ∷ h))
chooses c cs st plan h w r n k =
    let paced : IsPaced (car_state plan h) = n.paced in
    record {
      busy = λ e. absurd (true_false (sym e));
      raised = λ i p. absurd (setting_not (sym r.first ∙ phase_is phase.PreCharging (car_state plan (CarReads w ∷ h)).session _ r.stage (ap (λ (x : car_states.State). x.session) r.is) refl i));
      volts = λ x i. reads_volts plan.target_voltage (moment h) (limits_given h) (is_raised h) (is_told h) (car_state plan h).session (car_state plan (CarReads w ∷ h)).session x (station_state st h).facts
          (λ ph. absurd (unstaged phase.PreCharging (car_state plan h).session r.session r.session_is r.unstaged ph))
          (λ at b. beyond_read at (moment h) (car_state plan h).session (car_state plan (CarReads w ∷ h)).session
          (choice_again_not (car_state plan h) r.session r.session_is r.unstaged paced.paced) b)
          (k.volts x i);
      unsaid = reads_unsaid (car_deciding.decided plan (car_state plan h)).session plan (car_deciding.decided plan (car_state plan h)) w refl;
    }

-- the same once more waits for the car's pace
pub record Paces (st : Station) (plan : CarPlan) (h : List Happening) : Type 0 where
  pub pace : (100 ≤ plan.pace) × (plan.pace ≤ 1000)
  pub clock : (car_deciding.decided plan (car_state plan h)).clock ≡ moment h
  pub few : moment h ≤ 42949672960
  pub quiet : IsQuiet st.post (station_state st h)

due_in : (now clock pace : ℕ) → clock ≡ now → now ≤ 42949672960 → pace ≤ 1000 → nat_le (clock + pace) never ≡ true
due_in now clock pace e l p = grind (arith, nat_tests)

due_if : (b : Bool) (n : ℕ) → b ≡ true → (if b then Some n else None) ≡ Some n
due_if true n e = refl
due_if false n e = absurd (true_false (sym e))

pub due_is : (now clock pace : ℕ) → clock ≡ now → now ≤ 42949672960 → pace ≤ 1000 → due_at clock pace ≡ Some (clock + pace)
due_is now clock pace e l p = due_if (nat_le (clock + pace) never) (clock + pace) (due_in now clock pace e l p)

waits_on : (now clock pace : ℕ) (z : Option car_states.Session) (new : car_states.Session) → clock ≡ now → now ≤ 42949672960 → (100 ≤ pace) × (pace ≤ 1000) → z ≡ Some new → new.again ≡ due_at clock pace
    → IsBeyond (now + 20) now z
waits_on now clock pace z new e l p f a = WaitsOn new f (clock + pace) (a ∙ due_is now clock pace e l p.1) (due_soon now clock pace e p.0)

pub again_so : (a b : CarPhase) → a ≡ phase.PreCharging → b ≡ phase.PreCharging → is_again a b ≡ true
again_so a b e f = ap (λ (p : CarPhase). is_again p b) e ∙ ap (λ (p : CarPhase). is_again phase.PreCharging p) f

replied_on : (c : post.Codecs) (st : Station) (plan : CarPlan) (h : List Happening) (w : car.Judged) (r : ReadsReply c st.post plan (station_state st h) (car_state plan h) (to_station h) (to_car h) w)
    → MovesTo plan (car_deciding.decided plan (car_state plan h)) r.session r.b.car (behind st.post plan r.b r.x).car (car_state plan (CarReads w ∷ h)) → Paces st plan h
    → (r.b.car.phase ≡ phase.PreCharging → (behind st.post plan r.b r.x).car.phase ≡ phase.PreCharging) → EarlyOf st plan h (car_state plan h) → EarlyOf st plan (CarReads w ∷ h) (car_state plan (CarReads w ∷ h))
replied_on c st plan h w r m a next k =
    let none = r.none in
    record {
      busy = λ e. absurd (true_false (sym e));
      raised = λ i p. absurd (none_pending st.post (station_state st h) (car_state plan (CarReads w ∷ h)).session m.new (to_car h) a.quiet m.new_is (m.unread ∙ r.left) none.car p);
      volts = λ x i. reads_volts plan.target_voltage (moment h) (limits_given h) (is_raised h) (is_told h) (car_state plan h).session (car_state plan (CarReads w ∷ h)).session x (station_state st h).facts
          (λ ph.
          let e : r.b.car.phase ≡ phase.PreCharging = phase_is phase.PreCharging (car_state plan h).session r.session r.b.car r.session_is r.stage_is ph in
          waits_on (moment h) (car_deciding.decided plan (car_state plan h)).clock plan.pace (car_state plan (CarReads w ∷ h)).session m.new a.clock a.few a.pace m.new_is
          (m.again_is (again_so r.b.car.phase (behind st.post plan r.b r.x).car.phase e (next e))))
          (λ at b. beyond_read at (moment h) (car_state plan h).session (car_state plan (CarReads w ∷ h)).session
          (read_again_not (car_state plan h).session r.session r.session_is r.again) b)
          (k.volts x i);
      unsaid = reads_unsaid (car_deciding.decided plan (car_state plan h)).session plan (car_deciding.decided plan (car_state plan h)) w refl;
    }

led_by : (c : post.Codecs) (st : Station) (plan : CarPlan) (h : List Happening) (w : car.Judged) (r : ReadsReply c st.post plan (station_state st h) (car_state plan h) (to_station h) (to_car h) w)
    → MovesTo plan (car_deciding.decided plan (car_state plan h)) r.session r.b.car (behind st.post plan r.b r.x).car (car_state plan (CarReads w ∷ h)) → Paces st plan h
    → (is_from_start (behind st.post plan r.b r.x).car.phase ≡ true)
    ⊎ (((behind st.post plan r.b r.x).car.phase ≡ phase.PreCharging) × (is_pre_charged plan.target_voltage (heard st.post plan r.b r.x).tell ≡ false))
    → EarlyOf st plan h (car_state plan h) → Goes st plan (CarReads w ∷ h)
led_by c st plan h w r m a (inl f) k = inl (past_by (car_state plan (CarReads w ∷ h)).session m.new (behind st.post plan r.b r.x).car m.new_is m.stage f)
led_by c st plan h w r m a (inr f) k = inr (replied_on c st plan h w r m a (λ g. f.0) k)

pub leads_so : (c : post.Codecs) (st : Station) (plan : CarPlan) (h : List Happening) (w : car.Judged) (r : ReadsReply c st.post plan (station_state st h) (car_state plan h) (to_station h) (to_car h) w)
    → r.b.car.phase ≡ phase.PreCharging
    → (is_from_start (behind st.post plan r.b r.x).car.phase ≡ true)
    ⊎ (((behind st.post plan r.b r.x).car.phase ≡ phase.PreCharging) × (is_pre_charged plan.target_voltage (heard st.post plan r.b r.x).tell ≡ false))
leads_so c st plan h w r e =
    let b : Both = r.b in
    let x : Outside = r.x in
    pre_charge_leads plan b.car.dialect b.car.phase (heard st.post plan b x).tell (stops plan b.car.cycles x.stop (heard st.post plan b x).tell) e

replied_by : (c : post.Codecs) (st : Station) (plan : CarPlan) (h : List Happening) (w : car.Judged) (r : ReadsReply c st.post plan (station_state st h) (car_state plan h) (to_station h) (to_car h) w)
    → IsPlaced r.b.car.phase → Paces st plan h → EarlyOf st plan h (car_state plan h) → Goes st plan (CarReads w ∷ h)
replied_by c st plan h w r (Behind e) a k = inl (reads_past c st.post plan (station_state st h) (car_state plan h) (to_station h) (to_car h) w r e)
replied_by c st plan h w r (Before e n) a k =
    inr (replied_on c st plan h w r (reads_on c st.post plan (station_state st h) (car_state plan h) (to_station h) (to_car h) w r e) a (λ f. absurd (n f)) k)
replied_by c st plan h w r (PreCharges e) a k =
    led_by c st plan h w r (reads_on c st.post plan (station_state st h) (car_state plan h) (to_station h) (to_car h) w r (ap is_from_start e)) a (leads_so c st plan h w r e) k

read_so : (c : post.Codecs) (cs : car.Codecs) (st : Station) (plan : CarPlan) (h : List Happening) (w : car.Judged) → IsReadSo c st.post plan (station_state st h) (car_state plan h) (to_station h) (to_car h) w
    → Holds st plan h → Paces st plan h → Goes st plan h → Goes st plan (CarReads w ∷ h)
read_so c cs st plan h w (AChoice r) n a (inl p) = absurd (past_unstaged (car_state plan h).session r.session r.session_is r.unstaged p)
read_so c cs st plan h w (AChoice r) n a (inr k) = inr (chooses c cs st plan h w r n k)
read_so c cs st plan h w (AReply r) n a (inl p) =
    let b : Both = r.b in
    inl (reads_past c st.post plan (station_state st h) (car_state plan h) (to_station h) (to_car h) w r (past_of (car_state plan h).session r.session b.car r.session_is r.stage_is p))
read_so c cs st plan h w (AReply r) n a (inr k) = let b : Both = r.b in replied_by c st plan h w r (placed b.car.phase) a k

pub paces : (c : post.Codecs) (cs : car.Codecs) (st : Station) (plan : CarPlan) (h : List Happening) → Known c cs st plan h → Holds st plan h → StationRests st h → (car_state plan h).over ≡ false → Paces st plan h
paces c cs st plan h n k q live =
    let pair : IsPair c cs st.post plan = n.pair in
    let paired : ArePaired st.post plan = pair.paired in
    let of_car : IsCarPlan (ported plan) = paired.of_car in
    record { pace = of_car.pace; clock = same_car_clock plan (car_state plan h) ∙ n.car_clock live; few = k.few; quiet = q }

pub how_read : (c : post.Codecs) (cs : car.Codecs) (st : Station) (plan : CarPlan) (h : List Happening) (w : car.Judged) → Known c cs st plan h → CarMayReadBy cs (car_plan h) h w
    → IsReadSo c st.post plan (station_state st h) (car_state plan h) (to_station h) (to_car h) w
how_read c cs st plan h w n f =
    let well : GoesWell c cs st plan h = n.well in
    reads_so well.words c cs st.post plan (station_state st h) (car_state plan h) (to_station h) (to_car h) w n.pair well.phase
    (subst (λ (o : Option CarPlan). CarMayReadBy cs o h w) n.came f)

pub still_lives : (c : post.Codecs) (cs : car.Codecs) (st : Station) (plan : CarPlan) (h : List Happening) (w : car.Judged) → Known c cs st plan h → CarMayReadBy cs (car_plan h) h w → (car_state plan h).over ≡ false
still_lives c cs st plan h w n f =
    let well : GoesWell c cs st plan h = n.well in
    reads_live well.words c cs st.post plan (station_state st h) (car_state plan h) (to_station h) (to_car h) w well.phase (subst (λ (o : Option CarPlan). CarMayReadBy cs o h w) n.came f)

reads_word : (c : post.Codecs) (cs : car.Codecs) (st : Station) (plan : CarPlan) (h : List Happening) (w : car.Judged) → Known c cs st plan h → StationRests st h → CarMayReadBy cs (car_plan h) h w → Holds st plan h
    → Goes st plan h → Goes st plan (CarReads w ∷ h)
reads_word c cs st plan h w n q f k g =
    read_so c cs st plan h w (how_read c cs st plan h w n f) k (paces c cs st plan h n k q (still_lives c cs st plan h w n f)) g

-- ---- the car does something

gives_on : (cs : car.Codecs) (st : Station) (plan : CarPlan) (h : List Happening) (o : Order) → car_next.MayAct cs plan (car_state plan h) (car_steps_of.Give o) true → EarlyOf st plan h (car_state plan h)
    → EarlyOf st plan (CarDoes (car_steps_of.Give o) ∷ h) (car_state plan (CarDoes (car_steps_of.Give o) ∷ h))
gives_on cs st plan h o i k =
    let same : (car_deciding.decided plan (car_state plan h)).session ≡ (car_state plan h).session = same_session plan (car_state plan h) in
    record {
      busy = λ e. subst (λ (y : Option car_states.Session). IsBusy (station_state st h) y (to_car h)) (sym same) (k.busy e);
      raised = λ ph p. k.raised (subst (IsInPhase phase.PreCharging) same ph) (subst (λ (y : Option car_states.Session). Pending (station_state st h) y (to_car h)) same p);
      volts = λ x j. subst (λ (y : Option car_states.Session). Volts plan.target_voltage (moment h) (limits_given h) (is_raised h) (is_told h) y x (station_state st h).facts) (sym same) (k.volts x j);
      unsaid = subst (UnsaidBy (record (car_deciding.decided plan (car_state plan h)).agenda { order = None })) (sym same) (gives_unsaid cs plan (car_state plan h) o i k.unsaid);
    }

said_unread : (y : Option car_states.Session) (clock : ℕ) → HasSomeUnread y → HasSomeUnread (option_map (car_acting.awaiting clock) y)
said_unread None clock u = u
said_unread (Some x) clock u = u

clock_due : (clock now again : ℕ) → clock ≡ now → again ≤ clock → again ≤ now
clock_due clock now again e l = omega (arith, e, l)

says_on : (c : post.Codecs) (cs : car.Codecs) (st : Station) (plan : CarPlan) (h : List Happening) (spoken : car_steps_of.Spoken) (bytes : List ℕ) → (car_state plan h).clock ≡ moment h → SaysSo plan (car_state plan h)
    → Holds st plan h → EarlyOf st plan h (car_state plan h) → EarlyOf st plan (CarDoes (car_steps_of.Say spoken bytes) ∷ h) (car_state plan (CarDoes (car_steps_of.Say spoken bytes) ∷ h))
says_on c cs st plan h spoken bytes clock says n k =
    let same : (car_deciding.decided plan (car_state plan h)).session ≡ (car_state plan h).session = same_session plan (car_state plan h) in
    let at : ℕ = (car_deciding.decided plan (car_state plan h)).clock in
    let paced : IsPaced (car_state plan h) = n.paced in
    record {
      busy = λ e. busy_car_acts (station_state st h) (car_deciding.decided plan (car_state plan h)).session (option_map (car_acting.awaiting at) (car_deciding.decided plan (car_state plan h)).session) (to_car h)
          (said_unread (car_deciding.decided plan (car_state plan h)).session at) (λ f. ap (option_map (car_acting.awaiting at)) f)
          (subst (λ (y : Option car_states.Session). IsBusy (station_state st h) y (to_car h)) (sym same) (k.busy e));
      raised = λ ph p. k.raised (subst (IsInPhase phase.PreCharging) same (said_phase phase.PreCharging at (car_deciding.decided plan (car_state plan h)).session ph))
          (subst (λ (y : Option car_states.Session). Pending (station_state st h) y (to_car h)) same
          (pending_car_acts (station_state st h) (car_deciding.decided plan (car_state plan h)).session (option_map (car_acting.awaiting at) (car_deciding.decided plan (car_state plan h)).session) (to_car h)
          (unread_said (car_deciding.decided plan (car_state plan h)).session at) p));
      volts = λ x j. moves_volts plan.target_voltage (moment h) (moment h) (limits_given h) (is_raised h) (is_told h) (is_told h) (car_state plan h).session
          (option_map (car_acting.awaiting at) (car_deciding.decided plan (car_state plan h)).session) x (station_state st h).facts (same_moment (moment h)) (λ e. refl)
          (λ ph. phase_said phase.PreCharging at (car_deciding.decided plan (car_state plan h)).session (subst (IsInPhase phase.PreCharging) (sym same) ph))
          (λ due b. says_beyond (moment h) at due (car_deciding.decided plan (car_state plan h)).session
          (λ y again e a. clock_due (car_state plan h).clock (moment h) again clock (says_due plan (car_state plan h) y again (sym same ∙ e) a k.unsaid paced.paced says))
          (subst (IsBeyond due (moment h)) (sym same) b))
          (let v : Volts plan.target_voltage (moment h) (limits_given h) (is_raised h) (is_told h) (car_state plan h).session x (station_state st h).facts = k.volts x j in v.late) (k.volts x j);
      unsaid = unsaid_said _ (car_deciding.decided plan (car_state plan h)).session at;
    }

acts_by : (act : car_steps_of.Act) (c : post.Codecs) (cs : car.Codecs) (st : Station) (plan : CarPlan) (h : List Happening) → Known c cs st plan h → IsOfCar act → car_next.MayAct cs plan (car_state plan h) act true
    → (car_state plan h).clock ≡ moment h → Holds st plan h → Goes st plan h → Goes st plan (CarDoes act ∷ h)
acts_by (car_steps_of.Give o) c cs st plan h n a i clock k (inl p) = inl (subst PastStart (sym (same_session plan (car_state plan h))) p)
acts_by (car_steps_of.Give o) c cs st plan h n a i clock k (inr e) = inr (gives_on cs st plan h o i e)
acts_by (car_steps_of.Say spoken bytes) c cs st plan h n a i clock k (inl p) =
    inl (past_said (car_deciding.decided plan (car_state plan h)).clock (car_deciding.decided plan (car_state plan h)).session (subst PastStart (sym (same_session plan (car_state plan h))) p))
acts_by (car_steps_of.Say spoken bytes) c cs st plan h n a i clock k (inr e) =
    let well : GoesWell c cs st plan h = n.well in
    inr (says_on c cs st plan h spoken bytes clock
    (says_so well.words c cs st.post plan (station_state st h) (car_state plan h) (to_station h) (to_car h) spoken bytes well.phase i) k e)
acts_by (car_steps_of.End number) c cs st plan h n a i clock k g = inl tt
acts_by (car_steps_of.Seek datagram) c cs st plan h n a i clock k g = absurd a
acts_by (car_steps_of.Dial port) c cs st plan h n a i clock k g = absurd a

acts : (c : post.Codecs) (cs : car.Codecs) (st : Station) (plan : CarPlan) (h : List Happening) (act : car_steps_of.Act) → Known c cs st plan h → CarMayDoBy cs (car_plan h) h act → Holds st plan h → Goes st plan h
    → Goes st plan (CarDoes act ∷ h)
acts c cs st plan h act n f k g =
    let i : car_next.MayAct cs plan (car_state plan h) act true = subst (λ (o : Option CarPlan). CarMayDoBy cs o h act) n.came f in
    let well : GoesWell c cs st plan h = n.well in
    let on : GoesOn plan (station_state st h) (car_state plan h) = acts_on well.words c cs st.post plan (station_state st h) (car_state plan h) (to_station h) (to_car h) act n.pair well.phase i in
    acts_by act c cs st plan h n (cars_act c cs st.post plan well.words (station_state st h) (car_state plan h) (to_station h) (to_car h) act n.pair well.phase i) i (n.car_clock on.live) k g

-- ---- all that may happen

does : (c : post.Codecs) (cs : car.Codecs) (st : Station) (plan : CarPlan) (h : List Happening) (reading : Option Reading) (act : Act) → Known c cs st plan h
    → Acts c st.post (Shows st.limit [] []) (station_state st h) reading act true → GoesUndisturbed c cs st plan h (StationDoes reading act) → moment h ≤ 42949672960
    → ((r : Reading) → reading ≡ Some r → is_told h ≡ true) → Goes st plan h → Goes st plan (StationDoes reading act ∷ h)
does c cs st plan h reading act n i d few told (inl p) = inl p
does c cs st plan h reading act n i d few told (inr k) =
    let well : GoesWell c cs st plan h = n.well in
    does_by well.words reading c cs st plan h act n.pair well.phase i (d well.words well.phase) few told k

turns_on : (st : Station) (plan : CarPlan) (h : List Happening) (event : PlantEvent) → MayTurn st h (ChargerTells event) → Goes st plan h → Goes st plan (ChargerTells event ∷ h)
turns_on st plan h event f (inl p) = inl p
turns_on st plan h event f (inr k) = let rest : BothRest st h = f.rest in inr (tells_on st plan h event rest.station_rests k)

hears : (st : Station) (plan : CarPlan) (h : List Happening) (bytes : List ℕ) → MayTurn st h (StationHears bytes) → Goes st plan h → Goes st plan (StationHears bytes ∷ h)
hears st plan h bytes f (inl p) = inl p
hears st plan h bytes f (inr k) = inr (hears_on st plan h bytes f k)

step : (e : Happening) (c : post.Codecs) (cs : car.Codecs) (st : Station) (plan : CarPlan) (session : List Happening) → Seen c cs st plan session → Seen c cs st plan (e ∷ session) → Holds st (joined plan) (front plan session)
    → Goes st (joined plan) (front plan session) → Goes st (joined plan) (e ∷ front plan session)
step (ChargerTells event) c cs st plan session s t k g = let r = t.run in turns_on st (joined plan) (front plan session) event r.1 g
step (StationHears bytes) c cs st plan session s t k g = let r = t.run in hears st (joined plan) (front plan session) bytes r.1 g
step (CarHears bytes) c cs st plan session s t k g =
    let r = t.run in
    let n : Known c cs st (joined plan) (front plan session) = known c cs st plan session s in
    car_hears st (joined plan) (front plan session) bytes n.ended r.1 g
step TimePasses c cs st plan session s t k g =
    let r = t.run in
    passes c cs st (joined plan) (front plan session) (known c cs st plan session s) r.1 (passing_at c cs st plan session s r.1 t.run k) g
step (StationDoes reading act) c cs st plan session s t k g =
    let r = t.run in
    let d = t.undisturbed in
    does c cs st (joined plan) (front plan session) reading act (known c cs st plan session s) r.1 d.1 k.few
    (λ x e. words_are_told c cs st plan (front plan session) x act s.pair (first_session_of c cs st plan session s.within s.run) s.short s.undisturbed
    (subst (λ (o : Option Reading). Acts c st.post (Shows st.limit [] []) (station_state st (front plan session)) o act true) e r.1)) g
step (CarReads w) c cs st plan session s t k g = let r = t.run in let f = r.1 in reads_word c cs st (joined plan) (front plan session) w (known c cs st plan session s) f.0 f.1 k g
step (CarDoes act) c cs st plan session s t k g = let r = t.run in let f = r.1 in acts c cs st (joined plan) (front plan session) act (known c cs st plan session s) f.1 k g
step (CarComes other) c cs st plan session s t k g = let w = t.within in absurd (true_false (sym w.0))
step CarGoes c cs st plan session s t k g = let w = t.within in absurd (true_false (sym w.0))
step NumberIsDrawn c cs st plan session s t k g = let w = t.within in absurd (true_false (sym w.0))

no_moment : (o : Option (Option ℕ)) (m : ℕ) → o ≡ Some (Some m) → o ≡ Some None → ⊥
no_moment o m e f = cc

nothing_volts : (target : ℕ) → 0 ≡ volts_behind target 0
nothing_volts target = omega arith

begins : (st : Station) (plan : CarPlan) → Goes st (joined plan) (CarComes plan ∷ [])
begins st plan = inr (record {
  busy = λ e. absurd (true_false (sym e));
  raised = λ i p. absurd i;
  volts = λ x i.
      let four : slice_get x.moments 4 ≡ Some None =
      ap (λ (z : Charger). slice_get z.moments 4) i.2 ∙ came_elsewhere i.0 0 4 (omega arith) ∙ ap (λ (z : Charger). slice_get z.moments 4) i.1 in
      let volts : x.voltage ≡ 0 = ap (λ (z : Charger). z.voltage) i.2 ∙ ap (λ (z : Charger). z.voltage) i.1 in
      record {
        rising = Steady refl four (record { gives = volts ∙ nothing_volts plan.target_voltage; tells = sym volts });
        falls = ap (λ (z : Charger). slice_get z.moments 7) i.2 ∙ came_elsewhere i.0 0 7 (omega arith) ∙ ap (λ (z : Charger). slice_get z.moments 7) i.1;
        late = λ e at m. absurd (no_moment (slice_get x.moments 4) at m four);
      };
  unsaid = tt;
})

pub goes_in : (c : post.Codecs) (cs : car.Codecs) (st : Station) (plan : CarPlan) (session : List Happening) → IsPair c cs st.post (joined plan) → AllByRecursion IsWithin session → IsRun c cs st (front plan session)
    → AllByRecursion (IsShort 65544) (front plan session) → AllKeepTime st (joined plan) (front plan session) → Goes st (joined plan) (front plan session)
goes_in c cs st plan [] p w r l d = begins st plan
goes_in c cs st plan (e ∷ session) p w r l d =
    step e c cs st plan session (seen c cs st plan session p w.1 r.0 l.1 d.0) (seen c cs st plan (e ∷ session) p w r l d) (holds_in c cs st plan session p w.1 r.0 l.1 d.0)
    (goes_in c cs st plan session p w.1 r.0 l.1 d.0)

pub goes_first : (c : post.Codecs) (cs : car.Codecs) (st : Station) (plan : CarPlan) (h : List Happening) → IsPair c cs st.post (joined plan) → IsFirst c cs st plan h → AllByRecursion (IsShort 65544) h
    → AllKeepTime st (joined plan) h → Goes st (joined plan) h
goes_first c cs st plan h p f l d =
    subst (λ (x : List Happening). Goes st (joined plan) x) (sym f.h_is)
    (goes_in c cs st plan f.session p f.within (subst (λ (x : List Happening). IsRun c cs st x) f.h_is f.run) (subst (λ (x : List Happening). AllByRecursion (IsShort 65544) x) f.h_is l)
    (subst (λ (x : List Happening). AllKeepTime st (joined plan) x) f.h_is d))

-- ---- while the car pre-charges

pub early_while : (st : Station) (plan : CarPlan) (h : List Happening) → Goes st plan h → IsInPhase phase.PreCharging (car_state plan h).session → EarlyOf st plan h (car_state plan h)
early_while st plan h (inl p) i = absurd (not_past (car_state plan h).session i p)
early_while st plan h (inr k) i = k

rises_by : (target now given : ℕ) (raised : Bool) (y : Option car_states.Session) (s : Charger) (f : Facts) → Rising target now given raised y s f → IsRising target given now s f
rises_by target now given raised y s f (Steady r n k) = record { gives = k.tells; rises = HasTold n (k.tells ∙ k.gives) }
rises_by target now given raised y s f (IsRaised r d p) =
    let k : Gives target d.before s f = d.gives in record { gives = k.tells; rises = IsToTell d.before (now + 20) d.given_is d.to_come (same_moment (now + 20)) (k.tells ∙ k.gives) }
rises_by target now given raised y s f (IsSoon r at l d b) =
    let k : Gives target d.before s f = d.gives in record { gives = k.tells; rises = IsToTell d.before at d.given_is d.to_come l (k.tells ∙ k.gives) }

pub voltages_rise : (c : post.Codecs) (cs : car.Codecs) → VoltagesRise c cs
voltages_rise c cs st plan h charger p f l d i j =
    let k : EarlyOf st (joined plan) h (car_state (joined plan) h) = early_while st (joined plan) h (goes_first c cs st plan h p f l d) i in
    let v : Volts plan.target_voltage (moment h) (limits_given h) (is_raised h) (is_told h) (car_state (joined plan) h).session charger (station_state st h).facts = k.volts charger j in
    rises_by plan.target_voltage (moment h) (limits_given h) (is_raised h) (car_state (joined plan) h).session charger (station_state st h).facts v.rising

-- ---- where the post reads a PreCharge request

-- there is a charger
pub charger_of : (c : post.Codecs) (cs : car.Codecs) (st : Station) (h : List Happening) → IsRun c cs st h → (s : Charger) × IsCharger st.post.free h s
charger_of c cs st [] r = (idle st.post.free, refl)
charger_of c cs st (CarComes plan ∷ h) r = let b = charger_of c cs st h r.0 in (came b.0 (moment h), (b.0, b.1, refl))
charger_of c cs st (ChargerTells event ∷ h) r = let f = r.1 in let t = f.turn in (t.0, (f.charger, f.charger_is, t.1))
charger_of c cs st (StationDoes reading act ∷ h) r = let b = charger_of c cs st h r.0 in (behind_act act h b.0, (b.0, b.1, refl))
charger_of c cs st (StationHears bytes ∷ h) r = charger_of c cs st h r.0
charger_of c cs st (CarHears bytes ∷ h) r = charger_of c cs st h r.0
charger_of c cs st (TimePasses ∷ h) r = charger_of c cs st h r.0
charger_of c cs st (CarReads w ∷ h) r = charger_of c cs st h r.0
charger_of c cs st (CarDoes act ∷ h) r = charger_of c cs st h r.0
charger_of c cs st (CarGoes ∷ h) r = charger_of c cs st h r.0
charger_of c cs st (NumberIsDrawn ∷ h) r = charger_of c cs st h r.0

told_by : (words : Words) (c : post.Codecs) (cs : car.Codecs) (st : Station) (plan : CarPlan) (h : List Happening) (r : Reading) (act : Act) (x : Charger) → IsPair c cs st.post plan → IsAt c cs st plan words h
    → Acts c st.post (Shows st.limit [] []) (station_state st h) (Some r) act true → is_told h ≡ true → IsInPhase phase.PreCharging (car_state plan h).session → EarlyOf st plan h (car_state plan h)
    → IsCharger st.post.free h x → IsSteady plan.target_voltage (limits_given h) x (station_state st h).facts
told_by NoneYet c cs st plan h r act x p at i told ph k j =
    absurd (never_staged (car_state plan h).session (begins_unstaged c cs st.post plan (station_state st h) (car_state plan h) (to_station h) (to_car h) at) ph)
told_by (Read dialect xs) c cs st plan h r act x p at i told ph k j =
    let a : IsAsked st.post plan dialect xs (station_state st h) (car_state plan h) (to_station h) (to_car h) =
    posts_do c cs st.post plan st.limit (Read dialect xs) (station_state st h) (car_state plan h) (to_station h) (to_car h) (Some r) act p at i in
    let awaits = a.awaits in
    let still : cars.IsStill plan (car_state plan h) awaits.session = awaits.still in
    let none = a.none in
    steady plan.target_voltage (moment h) (limits_given h) (is_raised h) (is_told h) (car_state plan h).session awaits.session x (station_state st h).facts
    (not_raised (is_raised h) (λ e. busy_reads c st.post st.limit (station_state st h) (car_state plan h).session awaits.session (to_car h) r act i still.session_is awaits.unread_is none.car (k.busy e)))
    told still.session_is awaits.again (k.volts x j)

pub voltages_are_told : (c : post.Codecs) (cs : car.Codecs) → VoltagesAreTold c cs
voltages_are_told c cs st plan h reading act p f l d i ph =
    let undisturbed : AllGoUndisturbed c cs st (joined plan) h = timely_sessions_are_undisturbed c cs st plan h p f l d in
    let well : GoesWell c cs st (joined plan) h = sessions_go_well c cs st plan h p f l undisturbed in
    let b = charger_of c cs st h f.run in
    let s : IsSteady plan.target_voltage (limits_given h) b.0 (station_state st h).facts =
    told_by well.words c cs st (joined plan) h reading act b.0 p well.phase i (words_are_told c cs st plan h reading act p f l undisturbed i) ph
    (early_while st (joined plan) h (goes_first c cs st plan h p f l d) ph) b.1 in
    let g : Gives plan.target_voltage (limits_given h) b.0 (station_state st h).facts = s.gives in
    g.tells ∙ g.gives
