-- One induction over the first session: in the steps that are done early either no time passed since the step began, or it is early.
use Rattle.std.proofs.Common.{◌≡◌, ℕ, ◌+◌, ◌<◌, ◌≤◌, Bool, true, false, if◌then◌else◌, List, [], ◌∷◌, Option, Some, None, refl, ap, sym, subst, ◌∙◌, ◌⊎◌, inl, inr, arith}
use Rattle.std.specs.List.{AllByRecursion}
use Rattle.std.specs.Option.{option_map}
use Rattle.session_words.specs.declared.cause.EndCause.{EndCause}
use Rattle.session_words.specs.declared.cause.EndCause.TheVariants as cause
use Rattle.session_words.specs.declared.plan.CarPlan.{CarPlan}
use Rattle.session_words.specs.declared.word.Reply.{Reply}
use Rattle.session_words.specs.Plans.{IsCarPlan}
use Rattle.post_spec.specs.Codecs as post
use Rattle.post_spec.specs.Steps.{Event, Bytes, Clock}
use Rattle.station_spec.specs.States.{State}
use Rattle.car_rules.specs.declared.stage.CarPhase.{CarPhase}
use Rattle.car_rules.specs.declared.stage.CarPhase.TheVariants as phase
use Rattle.car_rules.specs.declared.stage.CarStage.{CarStage}
use Rattle.car_rules.specs.Deadlines.{step_due, hit}
use Rattle.car_rules.specs.Moves.{is_again, stage_behind}
use Rattle.car_rules.specs.Replies.{reply_cause}
use Rattle.car_spec.specs.Codecs as car
use Rattle.car_spec.specs.Steps as car_steps_of
use Rattle.car_spec.specs.States as car_states
use Rattle.car_spec.specs.Deciding as car_deciding
use Rattle.car_spec.specs.Judging as car_judging
use Rattle.car_spec.specs.Acting as car_acting
use Rattle.car_spec.specs.Hearing as car_hearing
use Rattle.car_spec.specs.Next as car_next
use Rattle.pipe_spec.specs.Histories.{Happening, CarComes, ChargerTells, StationHears, CarHears, TimePasses, StationDoes, CarReads, CarDoes, CarGoes, NumberIsDrawn, moment, joined, ported, car_cause, car_steps, to_station, to_car}
use Rattle.pipe_spec.specs.Turns.{Station, station_state, car_state, CarMayReadBy, CarMayDoBy}
use Rattle.pipe_spec.specs.Runs.{IsRun, IsWithin}
use Rattle.pipe_laws.specs.OneMessage.{IsShort}
use Rattle.pair_words.specs.Laws.{is_repeated}
use Rattle.pair_words.specs.Meeting.{ArePaired}
use Rattle.matched_pairs.specs.Moves.{IsPair}
use Rattle.matched_pairs.specs.Acts.{IsOfCar}
use Rattle.matched_pairs.specs.Courses.{GoesWell}
use Rattle.matched_pairs.specs.Power.{AllKeepTime}
use Rattle.matched_pairs.specs.Steps.{step_deadline, IsStepInTime, KeepsSteps, AllKeepSteps}
use Rattle.matched_pairs.specs.Quick.{is_quick, QuickStepsAreKept}
use Rattle.matched_pairs.proofs.CarPhases.{same_session}
use Rattle.matched_pairs.proofs.CarMoves.{reads_live}
use Rattle.matched_pairs.proofs.CarsDo.{cars_act}
use Rattle.matched_pairs.proofs.Clocks.{same_car_clock}
use Rattle.matched_pairs.proofs.Passing.{IsPassing, Rests, Closes}
use Rattle.matched_pairs.proofs.Held.{Holds, Known, not_ended, car_heard, car_lives}
use Rattle.matched_pairs.proofs.Paces.{front, Seen, seen, known, passing_at, holds_in}
use Rattle.matched_pairs.proofs.Deadlines.{IsAhead, hits_later, due_ahead, kept_in}
use Rattle.matched_pairs.proofs.Repeats.{repeats_now}
use Rattle.matched_pairs.proofs.Early.{unready_early}

true_false : true ≡ false → ⊥
true_false e = cc

false_true : false ≡ true → ⊥
false_true e = cc

-- ---- what is so

abbrev pub AgainEarly : Option ℕ → Type 0
AgainEarly None = Unit {0}
AgainEarly (Some at) = at ≤ 1300

-- 1,310: the request that isn't granted is read before 300, and is asked again a pace of 1,000 ms later at most; a tick goes beyond that
abbrev pub IsEarly : ℕ → ℕ → Type 0
IsEarly now begun = (now ≤ begun) ⊎ (now ≤ 1310)

abbrev pub EarlyBy : ℕ → Option CarStage → ℕ → Option ℕ → Type 0
EarlyBy now None begun again = Unit {0}
EarlyBy now (Some c) begun again = is_quick c.phase ≡ true → IsEarly now begun × AgainEarly again

abbrev pub EarlyIn : ℕ → Option car_states.Session → Type 0
EarlyIn now None = Unit {0}
EarlyIn now (Some y) = EarlyBy now y.stage y.moments.begun y.again

-- ---- the car hears something

hears_early : (event : Event) (at now : ℕ) (o : Option car_states.Session) → car_hearing.session_heard event at None ≡ None → EarlyIn now o → EarlyIn now (car_hearing.session_heard event at o)
hears_early event at now None n k = subst (EarlyIn now) (sym n) tt
hears_early event at now (Some y) n k = k

-- ---- time passes

not_yet : (now at : ℕ) → now < at → at ≤ 1300 → now + 10 ≤ 1310
not_yet now at l m = omega (arith, l, m)

starts_quick : (c : CarStage) → c.phase ≡ phase.Starting → is_quick c.phase ≡ true → ⊥
starts_quick c e q = false_true (sym (ap is_quick e) ∙ q)

-- of this session
session_early : (now at : ℕ) (k : car_states.State) (y : car_states.Session) (c : CarStage) → k.session ≡ Some y → y.stage ≡ Some c → EarlyBy now (Some c) y.moments.begun y.again
    → EarlyIn now (car_hearing.session_heard Clock at k.session)
session_early now at k y c e f p =
    subst (λ (o : Option car_states.Session). EarlyIn now (car_hearing.session_heard Clock at o)) (sym e) (subst (λ (o : Option CarStage). EarlyBy now o y.moments.begun y.again) (sym f) p)

of_session : (now : ℕ) (k : car_states.State) (y : car_states.Session) (c : CarStage) → k.session ≡ Some y → y.stage ≡ Some c → EarlyIn now k.session → EarlyBy now (Some c) y.moments.begun y.again
of_session now k y c e f p = subst (λ (o : Option CarStage). EarlyBy now o y.moments.begun y.again) f (subst (EarlyIn now) e p)

record Passes (now : ℕ) (k : car_states.State) : Type 0 where
  live : k.over ≡ false
  early : EarlyIn (now + 10) (car_hearing.session_heard Clock (now + 10) k.session)

passes_by : (now : ℕ) (s : State) (k : car_states.State) → EarlyIn now k.session → IsPassing now s k → Passes now k
passes_by now s k p (Rests r) =
    let before : EarlyBy now (Some r.stage) r.car.moments.begun r.car.again = of_session now k r.car r.stage r.car_is r.stage_is p in
    record {
      live = r.live;
      early = session_early (now + 10) (now + 10) k r.car r.stage r.car_is r.stage_is
          (λ q. let own = before q in (inr (not_yet now r.at r.later (subst AgainEarly r.again own.1)), own.1));
    }
passes_by now s k p (Closes r) = record {
  live = r.live;
  early = session_early (now + 10) (now + 10) k r.car r.stage r.car_is r.stage_is (λ q. absurd (starts_quick r.stage r.starts q));
}

-- ---- the car reads a word

-- a step that is asked for again is early
abbrev pub AsksEarly : CarPlan → ℕ → car_states.Session → Reply → Type 0
AsksEarly plan now y r = (stage : CarStage) → y.stage ≡ Some stage → is_repeated stage.phase (stage_behind plan stage r y.stop).phase ≡ true → is_quick stage.phase ≡ true → now < 300

pub again_quick : (a b : CarPhase) → is_again a b ≡ true → is_quick b ≡ true → (is_repeated a b ≡ true) × (is_quick a ≡ true)
again_quick phase.Authorizing phase.Authorizing e q = (refl, refl)
again_quick phase.Asking phase.Asking e q = (refl, refl)
again_quick phase.CableChecking phase.CableChecking e q = (refl, refl)
again_quick phase.PreCharging phase.PreCharging e q = absurd (false_true q)
again_quick phase.Charging phase.Charging e q = absurd (false_true q)
again_quick a b e q = cc

early_soon : (now : ℕ) → now < 300 → now ≤ 1310
early_soon now l = omega (arith, l)

due_early : (b : Bool) (clock now pace : ℕ) → clock ≡ now → pace ≤ 1000 → now < 300 → AgainEarly (if b then Some (clock + pace) else None)
due_early true clock now pace e p l = omega (arith, e, p, l)
due_early false clock now pace e p l = tt

just_begun : (clock now : ℕ) → clock ≡ now → now ≤ clock
just_begun clock now e = omega (arith, e)

moved_early : (b : Bool) (plan : CarPlan) (now : ℕ) (s : car_states.State) (y : car_states.Session) (from to : CarStage) (r : Reply) → is_again from.phase to.phase ≡ b → s.clock ≡ now → plan.pace ≤ 1000
    → (is_repeated from.phase to.phase ≡ true → is_quick from.phase ≡ true → now < 300) → EarlyIn now (car_judging.moved plan s y from r to).session
moved_early true plan now s y from to r e clock pace early =
    rw e (λ q.
    let two = again_quick from.phase to.phase e q in
    let l : now < 300 = early two.0 two.1 in
    (inr (early_soon now l), due_early _ s.clock now plan.pace clock pace l))
moved_early false plan now s y from to r e clock pace early = rw e (λ q. (inl (just_begun s.clock now clock), tt))

replied_early : (o : Option EndCause) (plan : CarPlan) (now : ℕ) (s : car_states.State) (y : car_states.Session) (stage : CarStage) (r : Reply) → y.stage ≡ Some stage → s.clock ≡ now → plan.pace ≤ 1000
    → AsksEarly plan now y r → EarlyBy now y.stage y.moments.begun y.again → EarlyIn now (car_judging.replied_by o plan s y stage r).session
replied_early (Some why) plan now s y stage r g clock pace early k = k
replied_early None plan now s y stage r g clock pace early k = moved_early _ plan now s y stage (stage_behind plan stage r y.stop) r refl clock pace (early stage g)

told_early : (o : Option CarStage) (plan : CarPlan) (now : ℕ) (s : car_states.State) (y : car_states.Session) (r : Reply) → y.stage ≡ o → s.clock ≡ now → plan.pace ≤ 1000
    → AsksEarly plan now y r → EarlyBy now y.stage y.moments.begun y.again → EarlyIn now (car_judging.replied plan s y o r).session
told_early None plan now s y r g clock pace early k = k
told_early (Some stage) plan now s y r g clock pace early k = replied_early (reply_cause plan stage _ r) plan now s y stage r g clock pace early k

abbrev pub ReadsEarly : car.Judged → CarPlan → ℕ → car_states.Session → Type 0
ReadsEarly (car.Told r) plan now y = AsksEarly plan now y r
ReadsEarly other plan now y = Unit {0}

word_early : (w : car.Judged) (plan : CarPlan) (now : ℕ) (s : car_states.State) (y : car_states.Session) → s.clock ≡ now → plan.pace ≤ 1000 → ReadsEarly w plan now y
    → EarlyBy now y.stage y.moments.begun y.again → EarlyIn now (car_judging.judged plan s y w).session
word_early (car.Chosen None) plan now s y clock pace early k = k
word_early (car.Chosen (Some d)) plan now s y clock pace early k = λ q. absurd (false_true q)
word_early (car.Told r) plan now s y clock pace early k = told_early y.stage plan now s y r refl clock pace early k
word_early car.WrongSide plan now s y clock pace early k = k
word_early car.Refused plan now s y clock pace early k = k

reads_early : (o : Option car_states.Session) (plan : CarPlan) (now : ℕ) (s : car_states.State) (w : car.Judged) → o ≡ s.session → s.clock ≡ now → plan.pace ≤ 1000
    → ((y : car_states.Session) → o ≡ Some y → ReadsEarly w plan now y) → EarlyIn now o → EarlyIn now (car_judging.judged_in plan s o w).session
reads_early None plan now s w e clock pace early k = subst (EarlyIn now) e tt
reads_early (Some y) plan now s w e clock pace early k = word_early w plan now s y clock pace (early y refl) k

pub asks_early : (w : car.Judged) (c : post.Codecs) (cs : car.Codecs) (st : Station) (plan : CarPlan) (session : List Happening) (y : car_states.Session) → 1 ≤ st.limit → Seen c cs st plan session
    → car_next.MayRead cs (joined plan) (car_state (joined plan) (front plan session)) w → (car_state (joined plan) (front plan session)).session ≡ Some y → ReadsEarly w (joined plan) (moment (front plan session)) y
asks_early (car.Told r) c cs st plan session y some s i e = λ stage g again q.
    unready_early c cs st (joined plan) plan session (moment (front plan session)) stage.phase s.within s.run (repeats_now c cs st plan session r y stage some s i e g again) q
asks_early (car.Chosen dialect) c cs st plan session y some s i e = tt
asks_early car.WrongSide c cs st plan session y some s i e = tt
asks_early car.Refused c cs st plan session y some s i e = tt

-- ---- the car does something

says_early : (o : Option car_states.Session) (now clock : ℕ) → EarlyIn now o → EarlyIn now (option_map (car_acting.awaiting clock) o)
says_early None now clock k = tt
says_early (Some y) now clock k = said_early y.stage now y.moments.begun y.again k where
  said_early : (o : Option CarStage) (now begun : ℕ) (again : Option ℕ) → EarlyBy now o begun again → EarlyBy now o begun None
  said_early None now begun again k = tt
  said_early (Some c) now begun again k = λ q. let own = k q in (own.0, tt)

acts_early : (act : car_steps_of.Act) (plan : CarPlan) (now : ℕ) (k : car_states.State) → IsOfCar act → EarlyIn now k.session → EarlyIn now (car_acting.acted act true (car_deciding.decided plan k)).session
acts_early (car_steps_of.Give o) plan now k i p = subst (EarlyIn now) (sym (same_session plan k)) p
acts_early (car_steps_of.Say spoken bytes) plan now k i p = says_early (car_deciding.decided plan k).session now (car_deciding.decided plan k).clock (subst (EarlyIn now) (sym (same_session plan k)) p)
acts_early (car_steps_of.End number) plan now k i p = tt
acts_early (car_steps_of.Seek datagram) plan now k i p = absurd i
acts_early (car_steps_of.Dial port) plan now k i p = absurd i

-- ---- all that may happen

abbrev pub Early : CarPlan → List Happening → Type 0
Early plan h = EarlyIn (moment h) (car_state plan h).session

step : (e : Happening) (c : post.Codecs) (cs : car.Codecs) (st : Station) (plan : CarPlan) (session : List Happening) → 1 ≤ st.limit → Seen c cs st plan session → AllByRecursion IsWithin (e ∷ session)
    → IsRun c cs st (e ∷ front plan session) → Holds st (joined plan) (front plan session) → Early (joined plan) (front plan session) → Early (joined plan) (e ∷ front plan session)
step (ChargerTells event) c cs st plan session some s w r h k = k
step (StationHears bytes) c cs st plan session some s w r h k = k
step (StationDoes reading act) c cs st plan session some s w r h k = k
step (CarHears bytes) c cs st plan session some s w r h k =
    car_heard (λ (x : car_states.State). EarlyIn (moment (front plan session)) x.session) (car_cause (front plan session)) (joined plan) (car_steps (front plan session)) (Bytes bytes) (moment (front plan session))
    (hears_early (Bytes bytes) (moment (front plan session)) (moment (front plan session)) (car_state (joined plan) (front plan session)).session refl k) k
step TimePasses c cs st plan session some s w r h k =
    let n : Known c cs st (joined plan) (front plan session) = known c cs st plan session s in
    let p : Passes (moment (front plan session)) (car_state (joined plan) (front plan session)) =
    passes_by (moment (front plan session)) (station_state st (front plan session)) (car_state (joined plan) (front plan session)) k (passing_at c cs st plan session s r.1 r h) in
    car_lives (λ (x : car_states.State). EarlyIn (moment (front plan session) + 10) x.session) (car_cause (front plan session)) (joined plan) (car_steps (front plan session)) Clock (moment (front plan session) + 10)
    (not_ended (car_cause (front plan session)) (car_state (joined plan) (front plan session)) n.ended p.live) p.early
step (CarReads v) c cs st plan session some s w r h k =
    let n : Known c cs st (joined plan) (front plan session) = known c cs st plan session s in
    let f = r.1 in
    let i : car_next.MayRead cs (joined plan) (car_state (joined plan) (front plan session)) v = subst (λ (o : Option CarPlan). CarMayReadBy cs o (front plan session) v) n.came f.1 in
    let well : GoesWell c cs st (joined plan) (front plan session) = n.well in
    let pair : IsPair c cs st.post (joined plan) = s.pair in
    let paired : ArePaired st.post (joined plan) = pair.paired in
    let of_car : IsCarPlan (ported (joined plan)) = paired.of_car in
    let pace = of_car.pace in
    let live : (car_state (joined plan) (front plan session)).over ≡ false =
    reads_live well.words c cs st.post (joined plan) (station_state st (front plan session)) (car_state (joined plan) (front plan session)) (to_station (front plan session)) (to_car (front plan session)) v well.phase i in
    reads_early (car_deciding.decided (joined plan) (car_state (joined plan) (front plan session))).session (joined plan) (moment (front plan session)) (car_deciding.decided (joined plan) (car_state (joined plan) (front plan session))) v refl
    (same_car_clock (joined plan) (car_state (joined plan) (front plan session)) ∙ n.car_clock live) pace.1
    (λ y e. asks_early v c cs st plan session y some s i (sym (same_session (joined plan) (car_state (joined plan) (front plan session))) ∙ e))
    (subst (EarlyIn (moment (front plan session))) (sym (same_session (joined plan) (car_state (joined plan) (front plan session)))) k)
step (CarDoes act) c cs st plan session some s w r h k =
    let n : Known c cs st (joined plan) (front plan session) = known c cs st plan session s in
    let f = r.1 in
    let i : car_next.MayAct cs (joined plan) (car_state (joined plan) (front plan session)) act true = subst (λ (o : Option CarPlan). CarMayDoBy cs o (front plan session) act) n.came f.1 in
    let well : GoesWell c cs st (joined plan) (front plan session) = n.well in
    acts_early act (joined plan) (moment (front plan session)) (car_state (joined plan) (front plan session))
    (cars_act c cs st.post (joined plan) well.words (station_state st (front plan session)) (car_state (joined plan) (front plan session)) (to_station (front plan session)) (to_car (front plan session)) act s.pair well.phase i) k
step (CarComes other) c cs st plan session some s w r h k = absurd (true_false (sym w.0))
step CarGoes c cs st plan session some s w r h k = absurd (true_false (sym w.0))
step NumberIsDrawn c cs st plan session some s w r h k = absurd (true_false (sym w.0))

pub early_in : (c : post.Codecs) (cs : car.Codecs) (st : Station) (plan : CarPlan) (session : List Happening) → 1 ≤ st.limit → IsPair c cs st.post (joined plan) → AllByRecursion IsWithin session
    → IsRun c cs st (front plan session) → AllByRecursion (IsShort 65544) (front plan session) → AllKeepTime st (joined plan) (front plan session) → Early (joined plan) (front plan session)
early_in c cs st plan [] some p w r l d = tt
early_in c cs st plan (e ∷ session) some p w r l d =
    step e c cs st plan session some (seen c cs st plan session p w.1 r.0 l.1 d.0) w r (holds_in c cs st plan session p w.1 r.0 l.1 d.0) (early_in c cs st plan session some p w.1 r.0 l.1 d.0)

-- ---- so no deadline of such a step is reached

in_step : (now at begun span : ℕ) → 1400 ≤ span → at ≤ now + 10 → IsEarly now begun → at < begun + span
in_step now at begun span s l (inl e) = omega (arith, s, l, e)
in_step now at begun span s l (inr e) = omega (arith, s, l, e)

step_ahead : (ph : CarPhase) (c : CarStage) (now at begun : ℕ) → c.phase ≡ ph → is_quick ph ≡ true → at ≤ now + 10 → IsEarly now begun → IsAhead (step_due (Some (record c { phase = ph })) begun) at
step_ahead phase.Authorizing c now at begun e q l k = due_ahead cause.OngoingTimeout begun 60000 at (in_step now at begun 60000 (omega arith) l k)
step_ahead phase.Asking c now at begun e q l k = due_ahead cause.OngoingTimeout begun 60000 at (in_step now at begun 60000 (omega arith) l k)
step_ahead phase.CableChecking c now at begun e q l k = due_ahead cause.CableCheckTimeout begun 40000 at (in_step now at begun 40000 (omega arith) l k)
step_ahead phase.SettingUp c now at begun e q l k = absurd (false_true q)
step_ahead phase.Discovering c now at begun e q l k = absurd (false_true q)
step_ahead phase.Selecting c now at begun e q l k = absurd (false_true q)
step_ahead phase.PreCharging c now at begun e q l k = absurd (false_true q)
step_ahead phase.Starting c now at begun e q l k = absurd (false_true q)
step_ahead phase.Charging c now at begun e q l k = absurd (false_true q)
step_ahead phase.Stopping c now at begun e q l k = absurd (false_true q)
step_ahead phase.Renegotiating c now at begun e q l k = absurd (false_true q)
step_ahead (phase.Welding left) c now at begun e q l k = absurd (false_true q)
step_ahead phase.Ending c now at begun e q l k = absurd (false_true q)

heard_ahead : (event : Event) (now at : ℕ) (k : car_states.State) (y : car_states.Session) (c : CarStage) → k.session ≡ Some y → y.stage ≡ Some c → is_quick c.phase ≡ true → at ≤ now + 10
    → IsEarly now y.moments.begun → IsStepInTime (car_hearing.hearing at event k)
heard_ahead event now at k y c e f q l early =
    let ahead : IsAhead (step_due (Some c) y.moments.begun) at = step_ahead c.phase c now at y.moments.begun refl q l early in
    subst (λ (o : Option car_states.Session). hit (step_deadline (car_hearing.session_heard event at o) ∷ []) at ≡ None) (sym e)
    (subst (λ (o : Option CarStage). hit (step_due o y.moments.begun ∷ []) at ≡ None) (sym f) (hits_later (step_due (Some c) y.moments.begun) at None ahead))

now_soon : (now : ℕ) → now ≤ now + 10
now_soon now = omega arith

ten_later : (now : ℕ) → now + 10 ≤ now + 10
ten_later now = omega arith

steps_kept : (e : Happening) (plan : CarPlan) (h : List Happening) (y : car_states.Session) (c : CarStage) → (car_state plan h).session ≡ Some y → y.stage ≡ Some c → is_quick c.phase ≡ true → Early plan h → KeepsSteps plan h e
steps_kept (CarHears bytes) plan h y c e f q k =
    let own = of_session (moment h) (car_state plan h) y c e f k q in
    heard_ahead (Bytes bytes) (moment h) (moment h) (car_state plan h) y c e f q (now_soon (moment h)) own.0
steps_kept TimePasses plan h y c e f q k =
    let own = of_session (moment h) (car_state plan h) y c e f k q in
    heard_ahead Clock (moment h) (moment h + 10) (car_state plan h) y c e f q (ten_later (moment h)) own.0
steps_kept (ChargerTells event) plan h y c e f q k = tt
steps_kept (StationHears bytes) plan h y c e f q k = tt
steps_kept (StationDoes reading act) plan h y c e f q k = tt
steps_kept (CarReads w) plan h y c e f q k = tt
steps_kept (CarDoes act) plan h y c e f q k = tt
steps_kept (CarComes other) plan h y c e f q k = tt
steps_kept CarGoes plan h y c e f q k = tt
steps_kept NumberIsDrawn plan h y c e f q k = tt

-- before the car came there is no session
none_before : (plan : CarPlan) (y : car_states.Session) → (car_state plan []).session ≡ Some y → ⊥
none_before plan y e = cc

tail_of : (h t : List Happening) (a b : Happening) → a ∷ h ≡ b ∷ t → h ≡ t
tail_of h t a b e = cc

kept_so : (session : List Happening) (c : post.Codecs) (cs : car.Codecs) (st : Station) (plan : CarPlan) (h : List Happening) (e : Happening) (y : car_states.Session) (stage : CarStage) → IsPair c cs st.post (joined plan)
    → 1 ≤ st.limit → e ∷ h ≡ front plan session → AllByRecursion IsWithin session → IsRun c cs st (e ∷ h) → AllByRecursion (IsShort 65544) (e ∷ h) → AllKeepSteps (joined plan) h
    → (car_state (joined plan) h).session ≡ Some y → y.stage ≡ Some stage → is_quick stage.phase ≡ true → KeepsSteps (joined plan) h e
kept_so [] c cs st plan h e y stage p some is w r l d there f q =
    absurd (none_before (joined plan) y (subst (λ (x : List Happening). (car_state (joined plan) x).session ≡ Some y) (tail_of h [] e (CarComes plan) is) there))
kept_so (x ∷ session) c cs st plan h e y stage p some is w r l d there f q =
    let same : h ≡ front plan session = tail_of h (front plan session) e x is in
    let run : IsRun c cs st (front plan session) = subst (λ (z : List Happening). IsRun c cs st z) same r.0 in
    let short : AllByRecursion (IsShort 65544) (front plan session) = subst (λ (z : List Happening). AllByRecursion (IsShort 65544) z) same l.1 in
    let steps : AllKeepSteps (joined plan) (front plan session) = subst (λ (z : List Happening). AllKeepSteps (joined plan) z) same d in
    steps_kept e (joined plan) h y stage there f q
    (subst (λ (z : List Happening). Early (joined plan) z) (sym same) (early_in c cs st plan session some p w.1 run short (kept_in c cs st plan session p w.1 run short steps)))

pub quick_steps_are_kept : (c : post.Codecs) (cs : car.Codecs) → QuickStepsAreKept c cs
quick_steps_are_kept c cs st plan h e y stage p some first l d there f q = kept_so first.session c cs st plan h e y stage p some first.h_is first.within first.run l d there f q
