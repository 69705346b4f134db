-- How long a car pre-charges, behind all that may happen in the first session.
use Rattle.std.proofs.Common.{◌≡◌, ℕ, suc, ◌+◌, ◌-◌, ◌*◌, ◌<◌, ◌≤◌, min, Bool, true, false, ◌&&◌, ◌||◌, List, [], ◌∷◌, ◌++◌, Option, Some, None, refl, ap, sym, subst, ◌∙◌, ◌⊎◌, inl, inr, arith}
use Rattle.std.specs.List.{AllByRecursion}
use Rattle.std.specs.Option.{option_map}
use Rattle.charge_world.specs.declared.heard.PlantEvent.{PlantEvent}
use Rattle.charge_world.specs.declared.offer.Dialect.{Dialect}
use Rattle.session_words.specs.declared.cause.EndCause.TheVariants as cause
use Rattle.session_words.specs.declared.facts.Facts.{Facts}
use Rattle.session_words.specs.declared.plan.CarPlan.{CarPlan}
use Rattle.session_words.specs.declared.plan.PostPlan.{PostPlan}
use Rattle.session_words.specs.declared.word.Tell.{Tell}
use Rattle.session_rules.specs.Delivery.{off_of}
use Rattle.plant_sim.specs.Charger.{Charger}
use Rattle.post_spec.specs.Codecs as post
use Rattle.post_spec.specs.Steps.{Event, Bytes, Clock, Act, Give, Send, Answer, End, Reading}
use Rattle.station_spec.specs.Report.{one_if}
use Rattle.station_spec.specs.States.{State}
use Rattle.station_spec.specs.Next.{Acts}
use Rattle.station_spec.specs.Sharing.{Shows}
use Rattle.car_rules.specs.declared.stage.CarPhase.{CarPhase}
use Rattle.car_rules.specs.declared.stage.CarPhase.TheVariants as phase
use Rattle.car_rules.specs.declared.stage.CarStage.{CarStage}
use Rattle.car_rules.specs.Deadlines as rule
use Rattle.car_rules.specs.Moves.{is_again, is_pre_charged, leads}
use Rattle.car_spec.specs.Codecs as car
use Rattle.car_spec.specs.Codecs.{Told}
use Rattle.car_spec.specs.Steps as car_steps_of
use Rattle.car_spec.specs.States as car_states
use Rattle.car_spec.specs.Deciding as car_deciding
use Rattle.car_spec.specs.Acting as car_acting
use Rattle.car_spec.specs.Hearing as car_hearing
use Rattle.pipe_spec.specs.Chargers.{IsCharger}
use Rattle.pipe_spec.specs.Histories.{Happening, CarComes, ChargerTells, StationHears, CarHears, TimePasses, StationDoes, CarReads, CarDoes, CarGoes, NumberIsDrawn, joined, moment, car_cause, car_steps, to_station, to_car}
use Rattle.pipe_spec.specs.Turns.{Station, station_state, car_state}
use Rattle.pipe_spec.specs.Runs.{IsRun, IsWithin}
use Rattle.pipe_spec.specs.Matched.{IsLeast, Reaches, IsTickOf, IsSoonCharged, IsMatched}
use Rattle.pipe_laws.specs.OneMessage.{IsShort}
use Rattle.pipe_laws.specs.PipePasts.{IsFirst}
use Rattle.pipe_facts.specs.InTime.{is_told}
use Rattle.pair_words.specs.Exchanges.{Both, Outside, heard, behind}
use Rattle.pair_words.specs.Meeting.{ArePaired}
use Rattle.pair_words.specs.Timed.{is_pre_charging}
use Rattle.matched_pairs.specs.Acts.{IsOfBeginning}
use Rattle.matched_pairs.specs.Requests.{SaysOrEnds, IsOffered, IsAsked}
use Rattle.matched_pairs.specs.Phases.{Words, NoneYet, Read}
use Rattle.matched_pairs.specs.Moves.{IsPair}
use Rattle.matched_pairs.specs.Courses.{IsAt, GoesWell}
use Rattle.matched_pairs.specs.Power.{AllKeepTime}
use Rattle.matched_pairs.specs.Repeats.{repeats_in}
use Rattle.matched_pairs.specs.Steps.{step_deadline, KeepsSteps, AllKeepSteps}
use Rattle.matched_pairs.specs.Voltages.{is_limits, limits_given, volts_behind, HasPhase, IsInPhase}
use Rattle.matched_pairs.specs.Pending.{before_word}
use Rattle.matched_pairs.proofs.NeedsNow.{NeedsNow, needs_now}
use Rattle.matched_pairs.proofs.PreChargesAgain.{stage_pre_charges, pre_charges, pre_charges_again, fewer}
use Rattle.matched_pairs.specs.Charged.{PreChargesAreKept, PreChargesAreFew}
use Rattle.matched_pairs.proofs.CarPhases.{same_session}
use Rattle.matched_pairs.proofs.CarMoves.{begins_unstaged}
use Rattle.matched_pairs.proofs.Requested.{posts_do}
use Rattle.matched_pairs.proofs.Coming.{HasSomeUnread}
use Rattle.matched_pairs.proofs.Deadlines.{hits_later, due_ahead, deadlines_are_kept}
use Rattle.matched_pairs.proofs.Held.{Holds, Known, car_heard}
use Rattle.matched_pairs.proofs.Measured.{Gives, Steady, IsRaised, IsSoon, Rising, Volts}
use Rattle.matched_pairs.proofs.Passing.{IsPassing, Rests, Closes}
use Rattle.matched_pairs.proofs.Paces.{front, Seen, known, passing_at, first_of as first_session_of, seen, holds_in}
use Rattle.matched_pairs.proofs.PreCharging.{PastStart, past_heard, past_said, past_by, past_of, past_unstaged, not_past, in_phase, phase_is, unstaged, IsPlaced, Before, PreCharges, Behind, placed, MovesTo, reads_on, reads_past, never_staged}
use Rattle.matched_pairs.proofs.Raised.{is_raised, IsUnread, busy_reads, no_frame}
use Rattle.matched_pairs.proofs.Replied.{IsReadSo, AChoice, AReply, ReadsChoice, ReadsReply}
use Rattle.matched_pairs.proofs.Rows.{is_from_start}
use Rattle.matched_pairs.proofs.Timely.{timely_sessions_are_undisturbed}
use Rattle.matched_pairs.proofs.Courses.{sessions_go_well}
use Rattle.matched_pairs.proofs.Voltages.{acts_voltage, EarlyOf, Goes, goes_in, not_raised, charger_of, how_read, still_lives, Paces, paces, again_so, due_is, leads_so, goes_first, early_while, voltages_are_told}

some_none : {A : Type 0} (a : A) → Some a ≡ None → ⊥
some_none a e = cc

true_false : true ≡ false → ⊥
true_false e = cc

-- ---- the clock goes by ten

pub record IsTicked (now : ℕ) : Type 0 where
  pub ticks : ℕ
  pub is : now ≡ 10 * ticks

one_tick : (now n : ℕ) → now ≡ 10 * n → now + 10 ≡ 10 * suc n
one_tick now n e = omega (arith, e)

no_tick : 0 ≡ 10 * 0
no_tick = omega arith

pub ticked : (h : List Happening) → IsTicked (moment h)
ticked [] = record { ticks = 0; is = no_tick }
ticked (TimePasses ∷ h) = let t : IsTicked (moment h) = ticked h in record { ticks = suc t.ticks; is = one_tick (moment h) t.ticks t.is }
ticked (CarComes plan ∷ h) = ticked h
ticked (ChargerTells event ∷ h) = ticked h
ticked (StationHears bytes ∷ h) = ticked h
ticked (CarHears bytes ∷ h) = ticked h
ticked (StationDoes reading act ∷ h) = ticked h
ticked (CarReads w ∷ h) = ticked h
ticked (CarDoes act ∷ h) = ticked h
ticked (CarGoes ∷ h) = ticked h
ticked (NumberIsDrawn ∷ h) = ticked h

-- ---- what is so while the car pre-charges

-- the request that is asked once more is due at a tick that isn't too late
pub record IsPaused (begun more again : ℕ) : Type 0 where
  pub ticks : ℕ
  pub due : again ≤ 10 * ticks
  pub soon : 10 * ticks ≤ begun + more

abbrev pub PausedBy : ℕ → ℕ → Option ℕ → Type 0
PausedBy begun more None = Unit {0}
PausedBy begun more (Some again) = IsPaused begun more again

-- so much later than the step began
pub record IsTimed (now more begun : ℕ) (again : Option ℕ) : Type 0 where
  pub soon : now ≤ begun + more
  pub paused : PausedBy begun more again

abbrev pub TimedIn : ℕ → ℕ → Option car_states.Session → Type 0
TimedIn now more None = Unit {0}
TimedIn now more (Some x) = HasPhase phase.PreCharging x.stage → IsTimed now more x.moments.begun x.again

pub record Charges (st : Station) (plan : CarPlan) (h : List Happening) (span steps : ℕ) : Type 0 where
  pub few : pre_charges_again plan h ≤ steps
  pub given : (PastStart (car_state plan h).session → ⊥) → limits_given h ≡ pre_charges_again plan h + one_if (is_raised h)
  pub same : (PastStart (car_state plan h).session → ⊥) → is_raised h ≡ true → (station_state st (before_word h)).facts.voltage ≡ (station_state st h).facts.voltage
  pub timed : TimedIn (moment h) (pre_charges_again plan h * span) (car_state plan h).session

-- ---- past PowerDelivery Start it stays

past_read : (c : post.Codecs) (st : Station) (plan : CarPlan) (h : List Happening) (w : car.Judged) → IsReadSo c st.post plan (station_state st h) (car_state plan h) (to_station h) (to_car h) w
    → PastStart (car_state plan h).session → PastStart (car_state plan (CarReads w ∷ h)).session
past_read c st plan h w (AChoice r) p = absurd (past_unstaged (car_state plan h).session r.session r.session_is r.unstaged p)
past_read c st plan h w (AReply r) p =
    let b : Both = r.b in
    reads_past c st.post plan (station_state st h) (car_state plan h) (to_station h) (to_car h) w r (past_of (car_state plan h).session r.session b.car r.session_is r.stage_is p)

past_acts : (act : car_steps_of.Act) (plan : CarPlan) (k : car_states.State) → PastStart k.session → PastStart (car_acting.acted act true (car_deciding.decided plan k)).session
past_acts (car_steps_of.Give o) plan k p = subst PastStart (sym (same_session plan k)) p
past_acts (car_steps_of.Say spoken bytes) plan k p = past_said (car_deciding.decided plan k).clock (car_deciding.decided plan k).session (subst PastStart (sym (same_session plan k)) p)
past_acts (car_steps_of.End number) plan k p = tt
past_acts (car_steps_of.Seek datagram) plan k p = subst PastStart (sym (same_session plan k)) p
past_acts (car_steps_of.Dial port) plan k p = subst PastStart (sym (same_session plan k)) p

past_on : (e : Happening) (c : post.Codecs) (cs : car.Codecs) (st : Station) (plan : CarPlan) (session : List Happening) → Seen c cs st plan session → Seen c cs st plan (e ∷ session)
    → PastStart (car_state (joined plan) (front plan session)).session → PastStart (car_state (joined plan) (e ∷ front plan session)).session
past_on (ChargerTells event) c cs st plan session s t p = p
past_on (StationHears bytes) c cs st plan session s t p = p
past_on (StationDoes reading act) c cs st plan session s t p = p
past_on (CarHears bytes) c cs st plan session s t p =
    car_heard (λ (x : car_states.State). PastStart x.session) (car_cause (front plan session)) (joined plan) (car_steps (front plan session)) (Bytes bytes) (moment (front plan session))
    (past_heard (Bytes bytes) (moment (front plan session)) (car_state (joined plan) (front plan session)).session refl p) p
past_on TimePasses c cs st plan session s t p =
    car_heard (λ (x : car_states.State). PastStart x.session) (car_cause (front plan session)) (joined plan) (car_steps (front plan session)) Clock (moment (front plan session) + 10)
    (past_heard Clock (moment (front plan session) + 10) (car_state (joined plan) (front plan session)).session refl p) p
past_on (CarReads w) c cs st plan session s t p =
    let r = t.run in
    let f = r.1 in
    past_read c st (joined plan) (front plan session) w (how_read c cs st (joined plan) (front plan session) w (known c cs st plan session s) f.1) p
past_on (CarDoes act) c cs st plan session s t p =
    past_acts act (joined plan) (car_state (joined plan) (front plan session)) p
past_on (CarComes other) c cs st plan session s t p = let w = t.within in absurd (true_false (sym w.0))
past_on CarGoes c cs st plan session s t p = let w = t.within in absurd (true_false (sym w.0))
past_on NumberIsDrawn c cs st plan session s t p = let w = t.within in absurd (true_false (sym w.0))

-- ---- a step that reads nothing

-- all is as before
as_before : (st : Station) (plan : CarPlan) (h : List Happening) (e : Happening) (span steps : ℕ) → pre_charges_again plan (e ∷ h) ≡ pre_charges_again plan h → limits_given (e ∷ h) ≡ limits_given h → is_raised (e ∷ h) ≡ is_raised h
    → (PastStart (car_state plan h).session → PastStart (car_state plan (e ∷ h)).session)
    → ((PastStart (car_state plan h).session → ⊥) → is_raised h ≡ true → (station_state st (before_word (e ∷ h))).facts.voltage ≡ (station_state st (e ∷ h)).facts.voltage)
    → TimedIn (moment (e ∷ h)) (pre_charges_again plan h * span) (car_state plan (e ∷ h)).session → Charges st plan h span steps → Charges st plan (e ∷ h) span steps
as_before st plan h e span steps again given raised past same timed k = record {
  few = subst (λ (n : ℕ). n ≤ steps) (sym again) k.few;
  given = λ n. given ∙ k.given (λ p. n (past p)) ∙ ap (λ (b : Bool). pre_charges_again plan h + one_if b) (sym raised) ∙ ap (λ (m : ℕ). m + one_if (is_raised (e ∷ h))) (sym again);
  same = λ n r. same (λ p. n (past p)) (sym raised ∙ r);
  timed = subst (λ (m : ℕ). TimedIn (moment (e ∷ h)) (m * span) (car_state plan (e ∷ h)).session) (sym again) timed;
}

-- ---- the charger tells something

same_before : (target : ℕ) (n m given : ℕ) → given ≡ suc n → given ≡ suc m → volts_behind target n ≡ volts_behind target m
same_before target n m given e f = ap (volts_behind target) (let own : suc n ≡ suc m = sym e ∙ f in omega (arith, own))

told_as : (target now given : ℕ) (raised : Bool) (y : Option car_states.Session) (s : Charger) (f : Facts) → raised ≡ true → Rising target now given raised y s f → (n : ℕ) × (given ≡ suc n) × (f.voltage ≡ volts_behind target n)
told_as target now given raised y s f r (Steady e n k) = absurd (true_false (sym r ∙ e))
told_as target now given raised y s f r (IsRaised e d p) = let g : Gives target d.before s f = d.gives in (d.before, d.given_is, g.tells ∙ g.gives)
told_as target now given raised y s f r (IsSoon e at l d b) = absurd (true_false (sym r ∙ e))

early_by : (st : Station) (plan : CarPlan) (h : List Happening) → Goes st plan h → (PastStart (car_state plan h).session → ⊥) → EarlyOf st plan h (car_state plan h)
early_by st plan h (inl p) n = absurd (n p)
early_by st plan h (inr k) n = k

-- the voltage that was told while a reply is pending
told_is : (st : Station) (plan : CarPlan) (h : List Happening) (x : Charger) → IsCharger st.post.free h x → EarlyOf st plan h (car_state plan h) → is_raised h ≡ true
    → (n : ℕ) × (limits_given h ≡ suc n) × ((station_state st h).facts.voltage ≡ volts_behind plan.target_voltage n)
told_is st plan h x i k r =
    let v : Volts plan.target_voltage (moment h) (limits_given h) (is_raised h) (is_told h) (car_state plan h).session x (station_state st h).facts = k.volts x i in
    told_as plan.target_voltage (moment h) (limits_given h) (is_raised h) (car_state plan h).session x (station_state st h).facts r v.rising

same_told : (c : post.Codecs) (cs : car.Codecs) (st : Station) (plan : CarPlan) (h : List Happening) (event : PlantEvent) → IsRun c cs st (ChargerTells event ∷ h) → IsRun c cs st h → Goes st plan h → Goes st plan (ChargerTells event ∷ h)
    → (PastStart (car_state plan h).session → ⊥) → is_raised h ≡ true → (station_state st h).facts.voltage ≡ (station_state st (ChargerTells event ∷ h)).facts.voltage
same_told c cs st plan h event after before g later n r =
    let a = charger_of c cs st h before in
    let b = charger_of c cs st (ChargerTells event ∷ h) after in
    let x = told_is st plan h a.0 a.1 (early_by st plan h g n) r in
    let y = told_is st plan (ChargerTells event ∷ h) b.0 b.1 (early_by st plan (ChargerTells event ∷ h) later n) r in
    x.2 ∙ same_before plan.target_voltage x.0 y.0 (limits_given h) x.1 y.1 ∙ sym y.2

-- ---- the post does something

limits_not : (act : Act) → IsOfBeginning act → is_limits act ≡ true → ⊥
limits_not (Send bytes) i e = true_false (sym e)
limits_not (Give o) i e = i
limits_not (End number) i e = i
limits_not (Answer bytes) i e = i

says_not : (act : Act) (plan : PostPlan) (s : State) → SaysOrEnds plan s act → is_limits act ≡ true → ⊥
says_not (Send bytes) plan s i e = true_false (sym e)
says_not (End number) plan s i e = true_false (sym e)
says_not (Give o) plan s i e = i
says_not (Answer bytes) plan s i e = i

limits_unraised : (words : Words) (reading : Option Reading) (c : post.Codecs) (cs : car.Codecs) (st : Station) (plan : CarPlan) (h : List Happening) (act : Act) → IsPair c cs st.post plan → IsAt c cs st plan words h
    → Acts c st.post (Shows st.limit [] []) (station_state st h) reading act true → is_limits act ≡ true → EarlyOf st plan h (car_state plan h) → is_raised h ≡ false
limits_unraised NoneYet reading c cs st plan h act p at i e k =
    let o : IsOffered (station_state st h) act = posts_do c cs st.post plan st.limit NoneYet (station_state st h) (car_state plan h) (to_station h) (to_car h) reading act p at i in
    absurd (limits_not act o.says e)
limits_unraised (Read dialect xs) None c cs st plan h act p at i e k =
    absurd (says_not act st.post (station_state st h) (posts_do c cs st.post plan st.limit (Read dialect xs) (station_state st h) (car_state plan h) (to_station h) (to_car h) None act p at i) e)
limits_unraised (Read dialect xs) (Some r) c cs st plan h act p at i e k =
    let a : IsAsked st.post plan dialect xs (station_state st h) (car_state plan h) (to_station h) (to_car h) =
    posts_do c cs st.post plan st.limit (Read dialect xs) (station_state st h) (car_state plan h) (to_station h) (to_car h) (Some r) act p at i in
    let awaits = a.awaits in
    let still = awaits.still in
    let none = a.none in
    not_raised (is_raised h) (λ x. busy_reads c st.post st.limit (station_state st h) (car_state plan h).session awaits.session (to_car h) r act i still.session_is awaits.unread_is none.car (k.busy x))

counts_one : (given again : ℕ) → given ≡ again + 0 → 1 + given ≡ again + 1
counts_one given again e = omega (arith, e)

counts_none : (given more : ℕ) → given ≡ more → 0 + given ≡ more
counts_none given more e = omega (arith, e)

counts_by : (b r : Bool) (given again : ℕ) → (b ≡ true → r ≡ false) → given ≡ again + one_if r → one_if b + given ≡ again + one_if (b || r)
counts_by false r given again n e = counts_none given (again + one_if r) e
counts_by true r given again n e = counts_one given again (e ∙ ap (λ (x : Bool). again + one_if x) (n refl))

-- what the post told as it read is told still
same_does : (reading : Option Reading) (st : Station) (plan : CarPlan) (h : List Happening) (act : Act) (raised : Bool) → (reading ≡ None → raised ≡ true → (station_state st (before_word h)).facts.voltage ≡ (station_state st h).facts.voltage)
    → raised ≡ true → (station_state st (before_word (StationDoes reading act ∷ h))).facts.voltage ≡ (station_state st (StationDoes reading act ∷ h)).facts.voltage
same_does None st plan h act raised k e = k refl e ∙ sym (acts_voltage st.post None act (station_state st h))
same_does (Some r) st plan h act raised k e = sym (acts_voltage st.post (Some r) act (station_state st h))

either_raised : (b r : Bool) → (b ≡ true → ⊥) → (b || r) ≡ true → r ≡ true
either_raised false r n e = e
either_raised true r n e = absurd (n refl)

none_limits : (words : Words) (c : post.Codecs) (cs : car.Codecs) (st : Station) (plan : CarPlan) (h : List Happening) (act : Act) → IsPair c cs st.post plan → IsAt c cs st plan words h
    → Acts c st.post (Shows st.limit [] []) (station_state st h) None act true → is_limits act ≡ true → ⊥
none_limits NoneYet c cs st plan h act p at i e =
    let o : IsOffered (station_state st h) act = posts_do c cs st.post plan st.limit NoneYet (station_state st h) (car_state plan h) (to_station h) (to_car h) None act p at i in limits_not act o.says e
none_limits (Read dialect xs) c cs st plan h act p at i e =
    says_not act st.post (station_state st h) (posts_do c cs st.post plan st.limit (Read dialect xs) (station_state st h) (car_state plan h) (to_station h) (to_car h) None act p at i) e

does : (c : post.Codecs) (cs : car.Codecs) (st : Station) (plan : CarPlan) (h : List Happening) (reading : Option Reading) (act : Act) (span steps : ℕ) → Known c cs st plan h
    → Acts c st.post (Shows st.limit [] []) (station_state st h) reading act true → Goes st plan h → Charges st plan h span steps → Charges st plan (StationDoes reading act ∷ h) span steps
does c cs st plan h reading act span steps n i g k =
    let well : GoesWell c cs st plan h = n.well in
    record {
      few = k.few;
      given = λ p. counts_by (is_limits act) (is_raised h) (limits_given h) (pre_charges_again plan h)
          (λ e. limits_unraised well.words reading c cs st plan h act n.pair well.phase i e (early_by st plan h g p)) (k.given p);
      same = λ p r. same_does reading st plan h act (is_limits act || is_raised h)
          (λ none e. k.same p (either_raised (is_limits act) (is_raised h)
          (none_limits well.words c cs st plan h act n.pair well.phase (subst (λ (o : Option Reading). Acts c st.post (Shows st.limit [] []) (station_state st h) o act true) none i)) e)) r;
      timed = k.timed;
    }

-- ---- the car hears something

heard_timed : (event : Event) (at now more : ℕ) (y : Option car_states.Session) → car_hearing.session_heard event at None ≡ None → TimedIn now more y → TimedIn now more (car_hearing.session_heard event at y)
heard_timed event at now more None n k = subst (TimedIn now more) (sym n) tt
heard_timed event at now more (Some x) n k = k

car_hears : (st : Station) (plan : CarPlan) (h : List Happening) (bytes : List ℕ) (span steps : ℕ) → (PastStart (car_state plan h).session → PastStart (car_state plan (CarHears bytes ∷ h)).session) → Charges st plan h span steps
    → Charges st plan (CarHears bytes ∷ h) span steps
car_hears st plan h bytes span steps past k =
    as_before st plan h (CarHears bytes) span steps refl refl refl past k.same
    (car_heard (λ (x : car_states.State). TimedIn (moment h) (pre_charges_again plan h * span) x.session) (car_cause h) plan (car_steps h) (Bytes bytes) (moment h)
    (heard_timed (Bytes bytes) (moment h) (moment h) (pre_charges_again plan h * span) (car_state plan h).session refl k.timed) k.timed) k

-- ---- time passes

next_tick : (now n again m end : ℕ) → now ≡ 10 * n → now < again → again ≤ 10 * m → 10 * m ≤ end → now + 10 ≤ end
next_tick now n again m end e l d s = omega (arith, e, l, d, s)

paused_by : (begun more : ℕ) (o : Option ℕ) (again : ℕ) → o ≡ Some again → PausedBy begun more o → IsPaused begun more again
paused_by begun more o again e p = subst (PausedBy begun more) e p

rested : (now n more : ℕ) (x : car_states.Session) (again : ℕ) → now ≡ 10 * n → x.again ≡ Some again → now < again → (HasPhase phase.PreCharging x.stage → IsTimed now more x.moments.begun x.again)
    → HasPhase phase.PreCharging x.stage → IsTimed (now + 10) more x.moments.begun x.again
rested now n more x again e a l k ph =
    let t : IsTimed now more x.moments.begun x.again = k ph in
    let p : IsPaused x.moments.begun more again = paused_by x.moments.begun more x.again again a t.paused in
    record { soon = next_tick now n again p.ticks (x.moments.begun + more) e l p.due p.soon; paused = t.paused }

starting_not : phase.Starting ≡ phase.PreCharging → ⊥
starting_not e = cc

closing_not : (x : car_states.Session) (c : CarStage) → x.stage ≡ Some c → c.phase ≡ phase.Starting → HasPhase phase.PreCharging x.stage → ⊥
closing_not x c e f p = let own : c.phase ≡ phase.PreCharging = subst (HasPhase phase.PreCharging) e p in starting_not (sym f ∙ own)

pub passed : (now more : ℕ) (s : State) (k : car_states.State) → IsTicked now → IsPassing now s k → TimedIn now more k.session → TimedIn (now + 10) more k.session
passed now more s k t (Rests r) d =
    subst (TimedIn (now + 10) more) (sym r.car_is) (rested now t.ticks more r.car r.at t.is r.again r.later (subst (TimedIn now more) r.car_is d))
passed now more s k t (Closes r) d =
    subst (TimedIn (now + 10) more) (sym r.car_is) (λ ph. absurd (closing_not r.car r.stage r.stage_is r.starts ph))

past_any : (now more : ℕ) (y : Option car_states.Session) → (IsInPhase phase.PreCharging y → ⊥) → TimedIn now more y
past_any now more None n = tt
past_any now more (Some x) n = λ ph. absurd (n ph)

passes : (st : Station) (plan : CarPlan) (h : List Happening) (span steps : ℕ) → IsPassing (moment h) (station_state st h) (car_state plan h)
    → (PastStart (car_state plan h).session → PastStart (car_state plan (TimePasses ∷ h)).session) → Charges st plan h span steps → Charges st plan (TimePasses ∷ h) span steps
passes st plan h span steps p past k =
    let later : TimedIn (moment h + 10) (pre_charges_again plan h * span) (car_state plan h).session =
    passed (moment h) (pre_charges_again plan h * span) (station_state st h) (car_state plan h) (ticked h) p k.timed in
    as_before st plan h TimePasses span steps refl refl refl past k.same
    (car_heard (λ (x : car_states.State). TimedIn (moment h + 10) (pre_charges_again plan h * span) x.session) (car_cause h) plan (car_steps h) Clock (moment h + 10)
    (heard_timed Clock (moment h + 10) (moment h + 10) (pre_charges_again plan h * span) (car_state plan h).session refl later) later) k

-- ---- the car does something

said_timed : (at now more : ℕ) (y : Option car_states.Session) → TimedIn now more y → TimedIn now more (option_map (car_acting.awaiting at) y)
said_timed at now more None k = tt
said_timed at now more (Some x) k = λ ph. let t : IsTimed now more x.moments.begun x.again = k ph in record { soon = t.soon; paused = tt }

acts_timed : (act : car_steps_of.Act) (plan : CarPlan) (k : car_states.State) (now more : ℕ) → TimedIn now more k.session → TimedIn now more (car_acting.acted act true (car_deciding.decided plan k)).session
acts_timed (car_steps_of.Give o) plan k now more t = subst (TimedIn now more) (sym (same_session plan k)) t
acts_timed (car_steps_of.Say spoken bytes) plan k now more t = said_timed (car_deciding.decided plan k).clock now more (car_deciding.decided plan k).session (subst (TimedIn now more) (sym (same_session plan k)) t)
acts_timed (car_steps_of.End number) plan k now more t = tt
acts_timed (car_steps_of.Seek datagram) plan k now more t = subst (TimedIn now more) (sym (same_session plan k)) t
acts_timed (car_steps_of.Dial port) plan k now more t = subst (TimedIn now more) (sym (same_session plan k)) t

-- ---- the car reads

phase_so : (ph : CarPhase) → is_pre_charging ph ≡ true → ph ≡ phase.PreCharging
phase_so phase.PreCharging e = refl
phase_so other e = absurd (true_false (sym e))

stage_so : (o : Option CarStage) → stage_pre_charges o ≡ true → HasPhase phase.PreCharging o
stage_so None e = absurd (true_false (sym e))
stage_so (Some c) e = phase_so c.phase e

pre_so : (y : Option car_states.Session) → pre_charges y ≡ true → IsInPhase phase.PreCharging y
pre_so None e = absurd (true_false (sym e))
pre_so (Some x) e = stage_so x.stage e

stage_is_so : (o : Option CarStage) → HasPhase phase.PreCharging o → stage_pre_charges o ≡ true
stage_is_so None i = absurd i
stage_is_so (Some c) i = ap is_pre_charging i

pre_is : (y : Option car_states.Session) → IsInPhase phase.PreCharging y → pre_charges y ≡ true
pre_is None i = absurd i
pre_is (Some x) i = stage_is_so x.stage i

pre_not : (y : Option car_states.Session) → (IsInPhase phase.PreCharging y → ⊥) → pre_charges y ≡ false
pre_not y n = not_raised (pre_charges y) (λ e. n (pre_so y e))

and_left : (a b : Bool) → a ≡ false → (a && b) ≡ false
and_left false b e = refl
and_left true b e = absurd (true_false e)

and_right : (a b : Bool) → b ≡ false → (a && b) ≡ false
and_right false b e = refl
and_right true b e = e

and_both : (a b : Bool) → a ≡ true → b ≡ true → (a && b) ≡ true
and_both true b e f = f
and_both false b e f = absurd (true_false (sym e))

zero_count : (k : ℕ) → 0 + k ≡ k
zero_count k = omega arith

suc_count : (k : ℕ) → 1 + k ≡ suc k
suc_count k = omega arith

same_count : (b : Bool) (k : ℕ) → b ≡ false → one_if b + k ≡ k
same_count b k e = ap (λ (x : Bool). one_if x + k) e ∙ zero_count k

one_count : (b : Bool) (k : ℕ) → b ≡ true → one_if b + k ≡ suc k
one_count b k e = ap (λ (x : Bool). one_if x + k) e ∙ suc_count k

raised_by : (target now given : ℕ) (raised : Bool) (y : Option car_states.Session) (s : Charger) (f : Facts) → raised ≡ true → Rising target now given raised y s f → IsInPhase phase.PreCharging y
raised_by target now given raised y s f r (Steady e n k) = absurd (true_false (sym r ∙ e))
raised_by target now given raised y s f r (IsRaised e d p) = p
raised_by target now given raised y s f r (IsSoon e at l d b) = absurd (true_false (sym r ∙ e))

raised_in : (c : post.Codecs) (cs : car.Codecs) (st : Station) (plan : CarPlan) (h : List Happening) → IsRun c cs st h → EarlyOf st plan h (car_state plan h) → is_raised h ≡ true → IsInPhase phase.PreCharging (car_state plan h).session
raised_in c cs st plan h run k r =
    let a = charger_of c cs st h run in
    let v : Volts plan.target_voltage (moment h) (limits_given h) (is_raised h) (is_told h) (car_state plan h).session a.0 (station_state st h).facts = k.volts a.0 a.1 in
    raised_by plan.target_voltage (moment h) (limits_given h) (is_raised h) (car_state plan h).session a.0 (station_state st h).facts r v.rising

unraised : (c : post.Codecs) (cs : car.Codecs) (st : Station) (plan : CarPlan) (h : List Happening) → IsRun c cs st h → EarlyOf st plan h (car_state plan h) → (IsInPhase phase.PreCharging (car_state plan h).session → ⊥)
    → is_raised h ≡ false
unraised c cs st plan h run k n = not_raised (is_raised h) (λ r. n (raised_in c cs st plan h run k r))

-- one that doesn't pre-charge, or goes on
reads_same : (c : post.Codecs) (cs : car.Codecs) (st : Station) (plan : CarPlan) (h : List Happening) (w : car.Judged) (span steps : ℕ) → IsRun c cs st h → Goes st plan h
    → (pre_charges (car_state plan h).session && pre_charges (car_state plan (CarReads w ∷ h)).session) ≡ false → (PastStart (car_state plan h).session → PastStart (car_state plan (CarReads w ∷ h)).session)
    → ((PastStart (car_state plan (CarReads w ∷ h)).session → ⊥) → IsInPhase phase.PreCharging (car_state plan h).session → ⊥)
    → TimedIn (moment h) (pre_charges_again plan h * span) (car_state plan (CarReads w ∷ h)).session → Charges st plan h span steps → Charges st plan (CarReads w ∷ h) span steps
reads_same c cs st plan h w span steps run g none past before timed k =
    let same : pre_charges_again plan (CarReads w ∷ h) ≡ pre_charges_again plan h = same_count _ (pre_charges_again plan h) none in
    record {
      few = subst (λ (n : ℕ). n ≤ steps) (sym same) k.few;
      given = λ n.
          k.given (λ p. n (past p)) ∙ ap (λ (b : Bool). pre_charges_again plan h + one_if b) (unraised c cs st plan h run (early_by st plan h g (λ p. n (past p))) (before n)) ∙ ap (λ (m : ℕ). m + 0) (sym same);
      same = λ n r. absurd (true_false (sym r));
      timed = subst (λ (m : ℕ). TimedIn (moment h) (m * span) (car_state plan (CarReads w ∷ h)).session) (sym same) timed;
    }

setting_not : phase.SettingUp ≡ phase.PreCharging → ⊥
setting_not e = cc

chooses : (c : post.Codecs) (cs : car.Codecs) (st : Station) (plan : CarPlan) (h : List Happening) (w : car.Judged) (span steps : ℕ) → IsRun c cs st h → Goes st plan h → ReadsChoice plan (car_state plan h) w
    → (PastStart (car_state plan h).session → PastStart (car_state plan (CarReads w ∷ h)).session) → Charges st plan h span steps → Charges st plan (CarReads w ∷ h) span steps
chooses c cs st plan h w span steps run g r past k =
    let before : IsInPhase phase.PreCharging (car_state plan h).session → ⊥ = unstaged phase.PreCharging (car_state plan h).session r.session r.session_is r.unstaged in
    reads_same c cs st plan h w span steps run g (and_left (pre_charges (car_state plan h).session) (pre_charges (car_state plan (CarReads w ∷ h)).session) (pre_not (car_state plan h).session before)) past (λ n. before)
    (past_any (moment h) (pre_charges_again plan h * span) (car_state plan (CarReads w ∷ h)).session
    (λ i. setting_not (sym r.first ∙ phase_is phase.PreCharging (car_state plan (CarReads w ∷ h)).session _ r.stage (ap (λ (x : car_states.State). x.session) r.is) refl i))) k

again_from : (a : CarPhase) → is_again a phase.PreCharging ≡ true → a ≡ phase.PreCharging
again_from phase.PreCharging e = refl
again_from other e = absurd (true_false (sym e))

again_not : (a b : CarPhase) → (a ≡ phase.PreCharging → ⊥) → b ≡ phase.PreCharging → is_again a b ≡ false
again_not a b n e = not_raised (is_again a b) (λ t. n (again_from a (sym (ap (λ (p : CarPhase). is_again a p) e) ∙ t)))

just_begun : (now begun more : ℕ) → begun ≡ now → now ≤ begun + more
just_begun now begun more e = omega (arith, e)

begins_timed : (now more : ℕ) (new : car_states.Session) → new.moments.begun ≡ now → new.again ≡ None → IsTimed now more new.moments.begun new.again
begins_timed now more new e n = record { soon = just_begun now new.moments.begun more e; paused = subst (PausedBy new.moments.begun more) (sym n) tt }

-- ---- so many times at most

unready : (target v n steps : ℕ) → v ≡ min target (1000 * n) → 200 < (target - v) + (v - target) → target - 200 ≤ 1000 * steps → suc n ≤ steps
unready target v n steps e l r = omega (arith, e, l, r)

one_less : (n given again : ℕ) → given ≡ suc n → given ≡ again + 1 → n ≡ again
one_less n given again e f = omega (arith, e, f)

no_more : (again : ℕ) → again + 1 ≡ suc again + 0
no_more again = omega arith

times_suc : (n s : ℕ) → suc n * s ≡ n * s + s
times_suc n s = grind arith

within_one : (now begun more span : ℕ) → now ≤ begun + more → now ≤ begun + (more + span)
within_one now begun more span l = omega (arith, l)

due_tick : (now clock pace n ticks : ℕ) → clock ≡ now → now ≡ 10 * n → pace ≤ 10 * ticks → clock + pace ≤ 10 * (n + ticks)
due_tick now clock pace n ticks c e l = omega (arith, c, e, l)

tick_soon : (now begun more n ticks : ℕ) → now ≡ 10 * n → now ≤ begun + more → 10 * (n + ticks) ≤ begun + (more + 10 * ticks)
tick_soon now begun more n ticks e l = omega (arith, e, l)

again_timed : (now clock pace more ticks begun : ℕ) (t : IsTicked now) → clock ≡ now → pace ≤ 10 * ticks → now ≤ begun + more → IsTimed now (more + 10 * ticks) begun (Some (clock + pace))
again_timed now clock pace more ticks begun t c l s = record {
  soon = within_one now begun more (10 * ticks) s;
  paused = record { ticks = t.ticks + ticks; due = due_tick now clock pace t.ticks ticks c t.is l; soon = tick_soon now begun more t.ticks ticks t.is s };
}

timed_as : (now more span n begun own : ℕ) (again again_is : Option ℕ) → begun ≡ own → again ≡ again_is → IsTimed now (n * span + span) own again_is → IsTimed now (suc n * span) begun again
timed_as now more span n begun own again again_is e f t =
    subst (λ (m : ℕ). IsTimed now m begun again) (sym (times_suc n span))
    (subst (λ (b : ℕ). IsTimed now (n * span + span) b again) (sym e) (subst (λ (o : Option ℕ). IsTimed now (n * span + span) own o) (sym f) t))

-- the reply says that the voltage isn't near its target, which was told as the post read the request
abbrev pub Needs : post.Codecs → Station → CarPlan → List Happening → car.Judged → Type 0
Needs c st plan h w = (r : ReadsReply c st.post plan (station_state st h) (car_state plan h) (to_station h) (to_car h) w) → r.b.car.phase ≡ phase.PreCharging → (behind st.post plan r.b r.x).car.phase ≡ phase.PreCharging
    → 200 < off_of (record { target = plan.target_voltage; voltage = (station_state st (before_word h)).facts.voltage })

reads_again : (c : post.Codecs) (cs : car.Codecs) (st : Station) (plan : CarPlan) (h : List Happening) (w : car.Judged) (ticks steps : ℕ) → IsRun c cs st h → EarlyOf st plan h (car_state plan h)
    → (r : ReadsReply c st.post plan (station_state st h) (car_state plan h) (to_station h) (to_car h) w) → r.b.car.phase ≡ phase.PreCharging → (behind st.post plan r.b r.x).car.phase ≡ phase.PreCharging
    → MovesTo plan (car_deciding.decided plan (car_state plan h)) r.session r.b.car (behind st.post plan r.b r.x).car (car_state plan (CarReads w ∷ h)) → Paces st plan h → plan.pace ≤ 10 * ticks
    → plan.target_voltage - 200 ≤ 1000 * steps → Needs c st plan h w → Charges st plan h (10 * ticks) steps → Charges st plan (CarReads w ∷ h) (10 * ticks) steps
reads_again c cs st plan h w ticks steps run early r e f m a pace reaches need k =
    let b : Both = r.b in
    let ph : IsInPhase phase.PreCharging (car_state plan h).session = in_phase phase.PreCharging (car_state plan h).session r.session b.car r.session_is r.stage_is e in
    let later : IsInPhase phase.PreCharging (car_state plan (CarReads w ∷ h)).session =
    in_phase phase.PreCharging (car_state plan (CarReads w ∷ h)).session m.new (behind st.post plan r.b r.x).car m.new_is m.stage f in
    let raised : is_raised h ≡ true =
    early.raised ph (IsUnread (subst HasSomeUnread (sym r.session_is) (λ u. no_frame r.payload (sym r.unread_is ∙ u)))) in
    let given : limits_given h ≡ pre_charges_again plan h + 1 =
    k.given (not_past (car_state plan h).session ph) ∙ ap (λ (x : Bool). pre_charges_again plan h + one_if x) raised in
    let ch = charger_of c cs st h run in
    let told = told_is st plan h ch.0 ch.1 early raised in
    let volts : (station_state st (before_word h)).facts.voltage ≡ volts_behind plan.target_voltage (pre_charges_again plan h) =
    k.same (not_past (car_state plan h).session ph) raised ∙ told.2 ∙ ap (volts_behind plan.target_voltage) (one_less told.0 (limits_given h) (pre_charges_again plan h) told.1 given) in
    let count : pre_charges_again plan (CarReads w ∷ h) ≡ suc (pre_charges_again plan h) =
    one_count _ (pre_charges_again plan h)
    (and_both (pre_charges (car_state plan h).session) (pre_charges (car_state plan (CarReads w ∷ h)).session) (pre_is (car_state plan h).session ph) (pre_is (car_state plan (CarReads w ∷ h)).session later)) in
    let again : is_again b.car.phase (behind st.post plan r.b r.x).car.phase ≡ true = again_so b.car.phase (behind st.post plan r.b r.x).car.phase e f in
    let before : IsTimed (moment h) (pre_charges_again plan h * (10 * ticks)) r.session.moments.begun r.session.again =
    subst (TimedIn (moment h) (pre_charges_again plan h * (10 * ticks))) r.session_is k.timed (subst (HasPhase phase.PreCharging) (sym r.stage_is) e) in
    record {
      few = subst (λ (n : ℕ). n ≤ steps) (sym count)
          (unready plan.target_voltage (station_state st (before_word h)).facts.voltage (pre_charges_again plan h) steps volts (need r e f) reaches);
      given = λ n. given ∙ no_more (pre_charges_again plan h) ∙ ap (λ (z : ℕ). z + 0) (sym count);
      same = λ n z. absurd (true_false (sym z));
      timed = subst (λ (n : ℕ). TimedIn (moment h) (n * (10 * ticks)) (car_state plan (CarReads w ∷ h)).session) (sym count)
          (subst (TimedIn (moment h) (suc (pre_charges_again plan h) * (10 * ticks))) (sym m.new_is)
          (λ z. timed_as (moment h) 0 (10 * ticks) (pre_charges_again plan h) m.new.moments.begun r.session.moments.begun m.new.again (Some ((car_deciding.decided plan (car_state plan h)).clock + plan.pace)) (m.begun again)
          (m.again_is again ∙ (let p = a.pace in due_is (moment h) (car_deciding.decided plan (car_state plan h)).clock plan.pace a.clock a.few p.1))
          (again_timed (moment h) (car_deciding.decided plan (car_state plan h)).clock plan.pace (pre_charges_again plan h * (10 * ticks)) ticks r.session.moments.begun (ticked h) a.clock pace before.soon)));
    }

led_by : (c : post.Codecs) (cs : car.Codecs) (st : Station) (plan : CarPlan) (h : List Happening) (w : car.Judged) (ticks steps : ℕ) → IsRun c cs st h → Goes st plan h
    → (r : ReadsReply c st.post plan (station_state st h) (car_state plan h) (to_station h) (to_car h) w) → r.b.car.phase ≡ phase.PreCharging
    → MovesTo plan (car_deciding.decided plan (car_state plan h)) r.session r.b.car (behind st.post plan r.b r.x).car (car_state plan (CarReads w ∷ h)) → Paces st plan h → plan.pace ≤ 10 * ticks
    → plan.target_voltage - 200 ≤ 1000 * steps → Needs c st plan h w → (PastStart (car_state plan h).session → PastStart (car_state plan (CarReads w ∷ h)).session)
    → (is_from_start (behind st.post plan r.b r.x).car.phase ≡ true)
    ⊎ (((behind st.post plan r.b r.x).car.phase ≡ phase.PreCharging) × (is_pre_charged plan.target_voltage (heard st.post plan r.b r.x).tell ≡ false))
    → Charges st plan h (10 * ticks) steps → Charges st plan (CarReads w ∷ h) (10 * ticks) steps
led_by c cs st plan h w ticks steps run g r e m a pace reaches need past (inl f) k =
    let p : PastStart (car_state plan (CarReads w ∷ h)).session = past_by (car_state plan (CarReads w ∷ h)).session m.new (behind st.post plan r.b r.x).car m.new_is m.stage f in
    reads_same c cs st plan h w (10 * ticks) steps run g
    (and_right (pre_charges (car_state plan h).session) (pre_charges (car_state plan (CarReads w ∷ h)).session) (pre_not (car_state plan (CarReads w ∷ h)).session (λ i. not_past (car_state plan (CarReads w ∷ h)).session i p)))
    past (λ n i. n p) (past_any (moment h) (pre_charges_again plan h * (10 * ticks)) (car_state plan (CarReads w ∷ h)).session (λ i. not_past (car_state plan (CarReads w ∷ h)).session i p)) k
led_by c cs st plan h w ticks steps run g r e m a pace reaches need past (inr f) k =
    let b : Both = r.b in
    reads_again c cs st plan h w ticks steps run
    (early_by st plan h g (not_past (car_state plan h).session (in_phase phase.PreCharging (car_state plan h).session r.session b.car r.session_is r.stage_is e))) r e f.0 m a pace reaches need k

replied_by : (c : post.Codecs) (cs : car.Codecs) (st : Station) (plan : CarPlan) (h : List Happening) (w : car.Judged) (ticks steps : ℕ) → IsRun c cs st h → Goes st plan h
    → (r : ReadsReply c st.post plan (station_state st h) (car_state plan h) (to_station h) (to_car h) w) → IsPlaced r.b.car.phase → Paces st plan h → plan.pace ≤ 10 * ticks
    → plan.target_voltage - 200 ≤ 1000 * steps → Needs c st plan h w → (PastStart (car_state plan h).session → PastStart (car_state plan (CarReads w ∷ h)).session)
    → Charges st plan h (10 * ticks) steps → Charges st plan (CarReads w ∷ h) (10 * ticks) steps
replied_by c cs st plan h w ticks steps run g r (Behind e) a pace reaches need past k =
    let b : Both = r.b in
    let p : PastStart (car_state plan (CarReads w ∷ h)).session = reads_past c st.post plan (station_state st h) (car_state plan h) (to_station h) (to_car h) w r e in
    reads_same c cs st plan h w (10 * ticks) steps run g
    (and_right (pre_charges (car_state plan h).session) (pre_charges (car_state plan (CarReads w ∷ h)).session) (pre_not (car_state plan (CarReads w ∷ h)).session (λ i. not_past (car_state plan (CarReads w ∷ h)).session i p)))
    past (λ n i. n p) (past_any (moment h) (pre_charges_again plan h * (10 * ticks)) (car_state plan (CarReads w ∷ h)).session (λ i. not_past (car_state plan (CarReads w ∷ h)).session i p)) k
replied_by c cs st plan h w ticks steps run g r (Before e n) a pace reaches need past k =
    let b : Both = r.b in
    let m : MovesTo plan (car_deciding.decided plan (car_state plan h)) r.session b.car (behind st.post plan b r.x).car (car_state plan (CarReads w ∷ h)) =
    reads_on c st.post plan (station_state st h) (car_state plan h) (to_station h) (to_car h) w r e in
    let before : IsInPhase phase.PreCharging (car_state plan h).session → ⊥ = λ i. n (phase_is phase.PreCharging (car_state plan h).session r.session b.car r.session_is r.stage_is i) in
    reads_same c cs st plan h w (10 * ticks) steps run g
    (and_left (pre_charges (car_state plan h).session) (pre_charges (car_state plan (CarReads w ∷ h)).session) (pre_not (car_state plan h).session before)) past (λ z. before)
    (subst (TimedIn (moment h) (pre_charges_again plan h * (10 * ticks))) (sym m.new_is)
    (λ i.
    let not : is_again b.car.phase (behind st.post plan b r.x).car.phase ≡ false = again_not b.car.phase (behind st.post plan b r.x).car.phase n (subst (HasPhase phase.PreCharging) m.stage i) in
    begins_timed (moment h) (pre_charges_again plan h * (10 * ticks)) m.new (m.begins not ∙ a.clock) (m.asks not))) k
replied_by c cs st plan h w ticks steps run g r (PreCharges e) a pace reaches need past k =
    led_by c cs st plan h w ticks steps run g r e (reads_on c st.post plan (station_state st h) (car_state plan h) (to_station h) (to_car h) w r (ap is_from_start e)) a pace reaches need past (leads_so c st plan h w r e) k

read_so : (c : post.Codecs) (cs : car.Codecs) (st : Station) (plan : CarPlan) (h : List Happening) (w : car.Judged) (ticks steps : ℕ) → IsRun c cs st h → Goes st plan h
    → IsReadSo c st.post plan (station_state st h) (car_state plan h) (to_station h) (to_car h) w → Paces st plan h → plan.pace ≤ 10 * ticks → plan.target_voltage - 200 ≤ 1000 * steps → Needs c st plan h w
    → Charges st plan h (10 * ticks) steps → Charges st plan (CarReads w ∷ h) (10 * ticks) steps
read_so c cs st plan h w ticks steps run g (AChoice r) a pace reaches need k = chooses c cs st plan h w (10 * ticks) steps run g r (past_read c st plan h w (AChoice r)) k
read_so c cs st plan h w ticks steps run g (AReply r) a pace reaches need k =
    let b : Both = r.b in
    replied_by c cs st plan h w ticks steps run g r (placed b.car.phase) a pace reaches need (past_read c st plan h w (AReply r)) k

-- the phase behind the reply is that of the words
stops_either : (plan : CarPlan) (d : Dialect) (ph : CarPhase) (told : Tell) (one two : Bool) → ph ≡ phase.PreCharging → leads plan d ph told one ≡ leads plan d ph told two
stops_either plan d ph told one two e = subst (λ (p : CarPhase). leads plan d p told one ≡ leads plan d p told two) (sym e) refl

needs : (c : post.Codecs) (cs : car.Codecs) (st : Station) (plan : CarPlan) (session : List Happening) (w : car.Judged) → NeedsNow c cs → 1 ≤ st.limit → Seen c cs st plan session → Seen c cs st plan (CarReads w ∷ session)
    → Needs c st (joined plan) (front plan session) w
needs c cs st plan session w need some s t r e f =
    let b : Both = r.b in
    let x : Outside = r.x in
    let first : IsFirst c cs st plan (CarReads w ∷ front plan session) = first_session_of c cs st plan (CarReads w ∷ session) t.within t.run in
    need st plan (front plan session) (heard st.post (joined plan) b x) r.session b.car s.pair some
    (subst (λ (v : car.Judged). IsFirst c cs st plan (CarReads v ∷ front plan session)) r.word first) s.short s.undisturbed r.session_is r.stage_is e
    (stops_either (joined plan) b.car.dialect b.car.phase (heard st.post (joined plan) b x).tell _ _ e ∙ f)

-- ---- all that may happen

step : (e : Happening) (c : post.Codecs) (cs : car.Codecs) (st : Station) (plan : CarPlan) (session : List Happening) (ticks steps : ℕ) → NeedsNow c cs → 1 ≤ st.limit → plan.pace ≤ 10 * ticks
    → plan.target_voltage - 200 ≤ 1000 * steps → Seen c cs st plan session → Seen c cs st plan (e ∷ session) → Holds st (joined plan) (front plan session) → Goes st (joined plan) (front plan session)
    → Goes st (joined plan) (e ∷ front plan session) → Charges st (joined plan) (front plan session) (10 * ticks) steps → Charges st (joined plan) (e ∷ front plan session) (10 * ticks) steps
step (ChargerTells event) c cs st plan session ticks steps need some pace reaches s t n g later k =
    as_before st (joined plan) (front plan session) (ChargerTells event) (10 * ticks) steps refl refl refl (λ p. p)
    (λ p r. k.same p r ∙ same_told c cs st (joined plan) (front plan session) event t.run s.run g later p r) k.timed k
step (StationHears bytes) c cs st plan session ticks steps need some pace reaches s t n g later k =
    as_before st (joined plan) (front plan session) (StationHears bytes) (10 * ticks) steps refl refl refl (λ p. p) k.same k.timed k
step (CarHears bytes) c cs st plan session ticks steps need some pace reaches s t n g later k =
    car_hears st (joined plan) (front plan session) bytes (10 * ticks) steps (past_on (CarHears bytes) c cs st plan session s t) k
step TimePasses c cs st plan session ticks steps need some pace reaches s t n g later k =
    let r = t.run in
    passes st (joined plan) (front plan session) (10 * ticks) steps (passing_at c cs st plan session s r.1 t.run n) (past_on TimePasses c cs st plan session s t) k
step (StationDoes reading act) c cs st plan session ticks steps need some pace reaches s t n g later k =
    let r = t.run in does c cs st (joined plan) (front plan session) reading act (10 * ticks) steps (known c cs st plan session s) r.1 g k
step (CarReads w) c cs st plan session ticks steps need some pace reaches s t n g later k =
    let r = t.run in
    let f = r.1 in
    let kn : Known c cs st (joined plan) (front plan session) = known c cs st plan session s in
    read_so c cs st (joined plan) (front plan session) w ticks steps s.run g (how_read c cs st (joined plan) (front plan session) w kn f.1)
    (paces c cs st (joined plan) (front plan session) kn n f.0 (still_lives c cs st (joined plan) (front plan session) w kn f.1)) pace reaches (needs c cs st plan session w need some s t) k
step (CarDoes act) c cs st plan session ticks steps need some pace reaches s t n g later k =
    as_before st (joined plan) (front plan session) (CarDoes act) (10 * ticks) steps refl refl refl (past_on (CarDoes act) c cs st plan session s t) k.same
    (acts_timed act (joined plan) (car_state (joined plan) (front plan session)) (moment (front plan session)) (pre_charges_again (joined plan) (front plan session) * (10 * ticks)) k.timed) k
step (CarComes other) c cs st plan session ticks steps need some pace reaches s t n g later k = let w = t.within in absurd (true_false (sym w.0))
step CarGoes c cs st plan session ticks steps need some pace reaches s t n g later k = let w = t.within in absurd (true_false (sym w.0))
step NumberIsDrawn c cs st plan session ticks steps need some pace reaches s t n g later k = let w = t.within in absurd (true_false (sym w.0))

none_yet : (steps : ℕ) → 0 ≤ steps
none_yet steps = omega arith

begins : (st : Station) (plan : CarPlan) (span steps : ℕ) → Charges st (joined plan) (CarComes plan ∷ []) span steps
begins st plan span steps = record { few = none_yet steps; given = λ n. refl; same = λ n r. absurd (true_false (sym r)); timed = λ i. absurd i }

pub charges_in : (c : post.Codecs) (cs : car.Codecs) (st : Station) (plan : CarPlan) (session : List Happening) (ticks steps : ℕ) → NeedsNow c cs → 1 ≤ st.limit → plan.pace ≤ 10 * ticks
    → plan.target_voltage - 200 ≤ 1000 * steps → IsPair c cs st.post (joined plan) → AllByRecursion IsWithin session → IsRun c cs st (front plan session) → AllByRecursion (IsShort 65544) (front plan session)
    → AllKeepTime st (joined plan) (front plan session) → Charges st (joined plan) (front plan session) (10 * ticks) steps
charges_in c cs st plan [] ticks steps need some pace reaches p w r l d = begins st plan (10 * ticks) steps
charges_in c cs st plan (e ∷ session) ticks steps need some pace reaches p w r l d =
    step e c cs st plan session ticks steps need some pace reaches (seen c cs st plan session p w.1 r.0 l.1 d.0) (seen c cs st plan (e ∷ session) p w r l d) (holds_in c cs st plan session p w.1 r.0 l.1 d.0)
    (goes_in c cs st plan session p w.1 r.0 l.1 d.0) (goes_in c cs st plan (e ∷ session) p w r l d) (charges_in c cs st plan session ticks steps need some pace reaches p w.1 r.0 l.1 d.0)

-- ---- so its deadline isn't reached

soon_charged : (c : post.Codecs) (cs : car.Codecs) (post_plan : PostPlan) (plan : CarPlan) → IsPair c cs post_plan plan → IsSoonCharged plan
soon_charged c cs post_plan plan p = let paired : ArePaired post_plan plan = p.paired in let m : IsMatched post_plan plan = paired.matched in m.soon

times_mono : (a b s : ℕ) → a ≤ b → a * s ≤ b * s
times_mono a b s l = grind arith

before_due : (now begun more most : ℕ) → now ≤ begun + more → more ≤ most → most < 7000 → now < begun + 7000
before_due now begun more most l m s = omega (arith, l, m, s)

stage_due : (o : Option CarStage) (begun now : ℕ) → HasPhase phase.PreCharging o → now < begun + 7000 → rule.hit (rule.step_due o begun ∷ []) now ≡ None
stage_due None begun now i l = absurd i
stage_due (Some c) begun now i l =
    ap (λ (p : CarPhase). rule.hit (rule.step_due_in p begun ∷ []) now) i
    ∙ hits_later (rule.due cause.PreChargeTimeout begun 7000) now None (due_ahead cause.PreChargeTimeout begun 7000 now l)

-- a hearing at that moment
heard_due : (event : Event) (at now more most : ℕ) (y : Option car_states.Session) → car_hearing.session_heard event at None ≡ None → IsInPhase phase.PreCharging y → TimedIn now more y → more ≤ most → most < 7000
    → rule.hit (step_deadline (car_hearing.session_heard event at y) ∷ []) now ≡ None
heard_due event at now more most None n i t m s = absurd i
heard_due event at now more most (Some x) n i t m s =
    let k : IsTimed now more x.moments.begun x.again = t i in stage_due x.stage x.moments.begun now i (before_due now x.moments.begun more most k.soon m s)

kept_by : (e : Happening) (c : post.Codecs) (cs : car.Codecs) (st : Station) (plan : CarPlan) (session : List Happening) (ticks steps : ℕ) → steps * (10 * ticks) < 7000 → Seen c cs st plan session
    → IsRun c cs st (e ∷ front plan session) → Holds st (joined plan) (front plan session) → Charges st (joined plan) (front plan session) (10 * ticks) steps
    → IsInPhase phase.PreCharging (car_state (joined plan) (front plan session)).session → KeepsSteps (joined plan) (front plan session) e
kept_by (CarHears bytes) c cs st plan session ticks steps soon s r n k i =
    heard_due (Bytes bytes) (moment (front plan session)) (moment (front plan session)) (pre_charges_again (joined plan) (front plan session) * (10 * ticks)) (steps * (10 * ticks)) (car_state (joined plan) (front plan session)).session refl i
    k.timed (times_mono (pre_charges_again (joined plan) (front plan session)) steps (10 * ticks) k.few) soon
kept_by TimePasses c cs st plan session ticks steps soon s r n k i =
    heard_due Clock (moment (front plan session) + 10) (moment (front plan session) + 10) (pre_charges_again (joined plan) (front plan session) * (10 * ticks)) (steps * (10 * ticks))
    (car_state (joined plan) (front plan session)).session refl i
    (passed (moment (front plan session)) (pre_charges_again (joined plan) (front plan session) * (10 * ticks)) (station_state st (front plan session)) (car_state (joined plan) (front plan session)) (ticked (front plan session))
    (passing_at c cs st plan session s r.1 r n) k.timed)
    (times_mono (pre_charges_again (joined plan) (front plan session)) steps (10 * ticks) k.few) soon
kept_by (ChargerTells event) c cs st plan session ticks steps soon s r n k i = tt
kept_by (StationHears bytes) c cs st plan session ticks steps soon s r n k i = tt
kept_by (StationDoes reading act) c cs st plan session ticks steps soon s r n k i = tt
kept_by (CarReads w) c cs st plan session ticks steps soon s r n k i = tt
kept_by (CarDoes act) c cs st plan session ticks steps soon s r n k i = tt
kept_by (CarComes other) c cs st plan session ticks steps soon s r n k i = tt
kept_by CarGoes c cs st plan session ticks steps soon s r n k i = tt
kept_by NumberIsDrawn c cs st plan session ticks steps soon s r n k i = tt

tail_of : (h t : List Happening) (a b : Happening) → a ∷ h ≡ b ∷ t → h ≡ t
tail_of h t a b e = cc

keeps_front : (c : post.Codecs) (cs : car.Codecs) (st : Station) (plan : CarPlan) (session : List Happening) (e : Happening) → NeedsNow c cs → 1 ≤ st.limit → IsPair c cs st.post (joined plan) → AllByRecursion IsWithin session
    → IsRun c cs st (e ∷ front plan session) → AllByRecursion (IsShort 65544) (front plan session) → AllKeepSteps (joined plan) (front plan session)
    → IsInPhase phase.PreCharging (car_state (joined plan) (front plan session)).session → KeepsSteps (joined plan) (front plan session) e
keeps_front c cs st plan session e need some p w r l d i =
    let m : IsSoonCharged (joined plan) = soon_charged c cs st.post (joined plan) p in
    let least : IsLeast (Reaches plan.target_voltage) m.steps = m.steps_are in
    let tick : IsLeast (IsTickOf plan.pace) m.ticks = m.ticks_are in
    let time : AllKeepTime st (joined plan) (front plan session) = deadlines_are_kept c cs st plan (front plan session) p (first_session_of c cs st plan session w r.0) l d in
    kept_by e c cs st plan session m.ticks m.steps m.soon (seen c cs st plan session p w r.0 l time) r (holds_in c cs st plan session p w r.0 l time)
    (charges_in c cs st plan session m.ticks m.steps need some tick.holds least.holds p w r.0 l time) i

keeps_by : (session : List Happening) (c : post.Codecs) (cs : car.Codecs) (st : Station) (plan : CarPlan) (h : List Happening) (e : Happening) → NeedsNow c cs → 1 ≤ st.limit → IsPair c cs st.post (joined plan)
    → e ∷ h ≡ session ++ CarComes plan ∷ [] → AllByRecursion IsWithin session → IsRun c cs st (e ∷ h) → AllByRecursion (IsShort 65544) h → AllKeepSteps (joined plan) h
    → IsInPhase phase.PreCharging (car_state (joined plan) h).session → KeepsSteps (joined plan) h e
keeps_by [] c cs st plan h e need some p is w r l d i =
    absurd (subst (λ (x : List Happening). IsInPhase phase.PreCharging (car_state (joined plan) x).session) (tail_of h [] e (CarComes plan) is) i)
keeps_by (x ∷ session) c cs st plan h e need some p is w r l d i =
    let same : h ≡ front plan session = tail_of h (front plan session) e x is in
    subst (λ (z : List Happening). KeepsSteps (joined plan) z e) (sym same)
    (keeps_front c cs st plan session e need some p w.1 (subst (λ (z : List Happening). IsRun c cs st (e ∷ z)) same r) (subst (λ (z : List Happening). AllByRecursion (IsShort 65544) z) same l)
    (subst (λ (z : List Happening). AllKeepSteps (joined plan) z) same d) (subst (λ (z : List Happening). IsInPhase phase.PreCharging (car_state (joined plan) z).session) same i))

pub pre_charges_are_kept : (c : post.Codecs) (cs : car.Codecs) → PreChargesAreKept c cs
pre_charges_are_kept c cs st plan h e p some f l d i = keeps_by f.session c cs st plan h e (needs_now c cs) some p f.h_is f.within f.run l.1 d i

thirty : (target : ℕ) → target ≤ 30000 → target - 200 ≤ 1000 * 30
thirty target l = omega (arith, l)

at_most : (n m : ℕ) → n ≤ m → m ≤ 30 → n ≤ 30
at_most n m l k = omega (arith, l, k)

pub pre_charges_are_few : (c : post.Codecs) (cs : car.Codecs) → PreChargesAreFew c cs
pre_charges_are_few c cs st plan h p some f l d most =
    let m : IsSoonCharged (joined plan) = soon_charged c cs st.post (joined plan) p in
    let tick : IsLeast (IsTickOf plan.pace) m.ticks = m.ticks_are in
    let time : AllKeepTime st (joined plan) h = deadlines_are_kept c cs st plan h p f l d in
    let k : Charges st (joined plan) (front plan f.session) (10 * m.ticks) 30 =
    charges_in c cs st plan f.session m.ticks 30 (needs_now c cs) some tick.holds (thirty plan.target_voltage most) p f.within (subst (λ (x : List Happening). IsRun c cs st x) f.h_is f.run)
    (subst (λ (x : List Happening). AllByRecursion (IsShort 65544) x) f.h_is l) (subst (λ (x : List Happening). AllKeepTime st (joined plan) x) f.h_is time) in
    at_most (repeats_in is_pre_charging (joined plan) h) (pre_charges_again (joined plan) h) (fewer (joined plan) h)
    (subst (λ (x : List Happening). pre_charges_again (joined plan) x ≤ 30) (sym f.h_is) k.few)
