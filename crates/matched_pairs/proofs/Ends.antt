-- An end that has ended has a cause.
use Rattle.std.proofs.Common.{◌≡◌, ℕ, ◌+◌, Bool, true, false, if◌then◌else◌, List, [], ◌∷◌, ◌++◌, Option, Some, None, is_some, refl, sym, ◌∙◌}
use Rattle.std.specs.Option.{option_map}
use Rattle.std.specs.List.{AllByRecursion}
use Rattle.session_words.specs.declared.cause.EndCause.{EndCause}
use Rattle.session_words.specs.declared.plan.CarPlan.{CarPlan}
use Rattle.session_words.specs.declared.plan.PostPlan.{PostPlan}
use Rattle.session_words.specs.declared.word.Reply.{Reply}
use Rattle.post_spec.specs.Codecs as post
use Rattle.post_spec.specs.Steps.{Event, Bytes, Plant, Clock, Act, Give, Send, Answer, End, Reading}
use Rattle.post_spec.specs.Sessions.{brought}
use Rattle.station_spec.specs.States.{Session, State}
use Rattle.station_spec.specs.Deciding.{decided}
use Rattle.station_spec.specs.Hearing.{session_opened, with_bytes, hearing}
use Rattle.station_spec.specs.Judging.{judged, taken_in, read, filled}
use Rattle.station_spec.specs.Acting.{since_order, replied, acted}
use Rattle.station_laws.proofs.Decided.{same_session}
use Rattle.car_rules.specs.declared.stage.CarStage.{CarStage}
use Rattle.car_rules.specs.Moves.{is_again, stage_behind}
use Rattle.car_rules.specs.Replies.{reply_cause}
use Rattle.car_spec.specs.Codecs as car
use Rattle.car_spec.specs.Steps as car_steps
use Rattle.car_spec.specs.States as car_states
use Rattle.car_spec.specs.Deciding as car_deciding
use Rattle.car_spec.specs.Judging as car_judging
use Rattle.car_spec.specs.Acting as car_acting
use Rattle.pipe_spec.specs.Histories.{Happening, CarComes, ChargerTells, StationHears, CarHears, TimePasses, StationDoes, CarReads, CarDoes, CarGoes, NumberIsDrawn, moment, joined, station_cause, car_cause, car_steps}
use Rattle.pipe_spec.specs.Turns.{Station, station_state, car_state}
use Rattle.pipe_spec.specs.Runs.{IsWithin}
use Rattle.pipe_laws.proofs.Station as station
use Rattle.matched_pairs.proofs.PostPhases.{same_arrived}
use Rattle.matched_pairs.proofs.CarPhases.{same_over}

some_none : {A : Type 0} (a : A) → Some a ≡ None → ⊥
some_none a e = cc

true_false : (b : Bool) → b ≡ true → b ≡ false → ⊥
true_false b e f = cc

-- ---- the post

none_mapped : (f : Session → Session) (o : Option Session) → option_map f o ≡ None → o ≡ None
none_mapped f None e = refl
none_mapped f (Some x) e = absurd (some_none (f x) e)

none_opened : (arrived : Option ℕ) (clock : ℕ) (o : Option Session) → session_opened arrived clock o ≡ None → (o ≡ None) × (arrived ≡ None)
none_opened None clock o e = (e, refl)
none_opened (Some token) clock o e = absurd (some_none _ e)

pub gone_before_hearing : (event : Event) (at : ℕ) (s : State) → station.IsGone (hearing at event s) → station.IsGone s
gone_before_hearing event at s g = none_opened s.arrived s.clock s.session (none_mapped (with_bytes (brought event)) (session_opened s.arrived s.clock s.session) g.0)

judged_stays : (plan : PostPlan) (s : State) (session : Session) (w : post.Judged) (shown : ℕ) → (judged plan s session w shown).session ≡ None → ⊥
judged_stays plan s session (post.Negotiated chosen response) shown e = some_none _ e
judged_stays plan s session (post.Asked r) shown e = some_none _ e
judged_stays plan s session post.WrongSide shown e = some_none _ e
judged_stays plan s session post.Refused shown e = some_none _ e

taken_gone : (plan : PostPlan) (s : State) (o : Option Session) (r : Reading) → o ≡ s.session → station.IsGone (taken_in plan s o r) → station.IsGone s
taken_gone plan s None r e g = g
taken_gone plan s (Some session) r e g = absurd (judged_stays plan s session r.judged r.shown g.0)

read_gone : (plan : PostPlan) (s : State) (o : Option Reading) → station.IsGone (read plan s o) → station.IsGone s
read_gone plan s None g = g
read_gone plan s (Some r) g = taken_gone plan s s.session r refl g

filled_gone : (plan : PostPlan) (o : Option Reading) (s : State) → station.IsGone (filled plan o s) → station.IsGone s
filled_gone plan o s g =
    let d : station.IsGone (decided plan s) = read_gone plan (decided plan s) o g in
    (sym (same_session plan s) ∙ d.0, sym (same_arrived plan s) ∙ d.1)

-- a post that is gone has a cause
abbrev pub HasCause : State → Option ℕ → Type 0
HasCause s cause = station.IsGone s → is_some cause ≡ true

acts_gone : (act : Act) (plan : PostPlan) (o : Option Reading) (s : State) (h : List Happening) → HasCause s (station_cause h) → HasCause (acted act true (filled plan o s)) (station_cause (StationDoes o act ∷ h))
acts_gone (Give order) plan o s h k = λ g. k (filled_gone plan o s (none_mapped (since_order (filled plan o s).clock order) (filled plan o s).session g.0, g.1))
acts_gone (Send bytes) plan o s h k = λ g. k (filled_gone plan o s (none_mapped (replied (filled plan o s).clock) (filled plan o s).session g.0, g.1))
acts_gone (Answer bytes) plan o s h k = λ g. k (filled_gone plan o s g)
acts_gone (End number) plan o s h k = λ g. refl

pub gone_has_cause : (st : Station) (plan : CarPlan) (session : List Happening) → AllByRecursion IsWithin session
    → HasCause (station_state st (session ++ CarComes plan ∷ [])) (station_cause (session ++ CarComes plan ∷ []))
gone_has_cause st plan [] w = λ g. absurd (some_none _ g.1)
gone_has_cause st plan (StationDoes reading act ∷ h) w =
    acts_gone act st.post reading (station_state st (h ++ CarComes plan ∷ [])) (h ++ CarComes plan ∷ []) (gone_has_cause st plan h w.1)
gone_has_cause st plan (ChargerTells event ∷ h) w = λ g. gone_has_cause st plan h w.1 (gone_before_hearing (Plant event) (moment (h ++ CarComes plan ∷ [])) (station_state st (h ++ CarComes plan ∷ [])) g)
gone_has_cause st plan (StationHears bytes ∷ h) w = λ g. gone_has_cause st plan h w.1 (gone_before_hearing (Bytes bytes) (moment (h ++ CarComes plan ∷ [])) (station_state st (h ++ CarComes plan ∷ [])) g)
gone_has_cause st plan (TimePasses ∷ h) w = λ g. gone_has_cause st plan h w.1 (gone_before_hearing Clock (moment (h ++ CarComes plan ∷ []) + 10) (station_state st (h ++ CarComes plan ∷ [])) g)
gone_has_cause st plan (CarHears bytes ∷ h) w = gone_has_cause st plan h w.1
gone_has_cause st plan (CarReads word ∷ h) w = gone_has_cause st plan h w.1
gone_has_cause st plan (CarDoes act ∷ h) w = gone_has_cause st plan h w.1
gone_has_cause st plan (CarComes other ∷ h) w = absurd (true_false false w.0 refl)
gone_has_cause st plan (CarGoes ∷ h) w = absurd (true_false false w.0 refl)
gone_has_cause st plan (NumberIsDrawn ∷ h) w = absurd (true_false false w.0 refl)

-- ---- the car

moved_over : (b : Bool) (plan : CarPlan) (s : car_states.State) (session : car_states.Session) (from to : CarStage) (r : Reply) → is_again from.phase to.phase ≡ b
    → (car_judging.moved plan s session from r to).over ≡ s.over
moved_over true plan s session from to r e = rw e refl
moved_over false plan s session from to r e = rw e refl

replied_over : (o : Option EndCause) (plan : CarPlan) (s : car_states.State) (session : car_states.Session) (stage : CarStage) (r : Reply) → (car_judging.replied_by o plan s session stage r).over ≡ s.over
replied_over (Some cause) plan s session stage r = refl
replied_over None plan s session stage r = moved_over _ plan s session stage (stage_behind plan stage r session.stop) r refl

told_over : (o : Option CarStage) (plan : CarPlan) (s : car_states.State) (session : car_states.Session) (r : Reply) → (car_judging.replied plan s session o r).over ≡ s.over
told_over None plan s session r = refl
told_over (Some stage) plan s session r = replied_over (reply_cause plan stage _ r) plan s session stage r

judged_over : (w : car.Judged) (plan : CarPlan) (s : car_states.State) (session : car_states.Session) → (car_judging.judged plan s session w).over ≡ s.over
judged_over (car.Chosen None) plan s session = refl
judged_over (car.Chosen (Some d)) plan s session = refl
judged_over (car.Told r) plan s session = told_over session.stage plan s session r
judged_over car.WrongSide plan s session = refl
judged_over car.Refused plan s session = refl

pub read_over : (o : Option car_states.Session) (plan : CarPlan) (s : car_states.State) (w : car.Judged) → (car_judging.judged_in plan s o w).over ≡ s.over
read_over None plan s w = refl
read_over (Some session) plan s w = judged_over w plan s session

abbrev pub HasCarCause : car_states.State → Option ℕ → Type 0
HasCarCause k cause = k.over ≡ true → is_some cause ≡ true

car_acts : (act : car_steps.Act) (plan : CarPlan) (k : car_states.State) (h : List Happening) → HasCarCause k (car_cause h) → HasCarCause (car_acting.acted act true (car_deciding.decided plan k)) (car_cause (CarDoes act ∷ h))
car_acts (car_steps.Seek datagram) plan k h c = λ o. c (sym (same_over plan k) ∙ o)
car_acts (car_steps.Dial port) plan k h c = λ o. c (sym (same_over plan k) ∙ o)
car_acts (car_steps.Give order) plan k h c = λ o. c (sym (same_over plan k) ∙ o)
car_acts (car_steps.Say spoken bytes) plan k h c = λ o. c (sym (same_over plan k) ∙ o)
car_acts (car_steps.End number) plan k h c = λ o. refl

car_hears : (cause own : Option ℕ) (plan : CarPlan) (steps : List car_steps.Step) (event : Event) (at : ℕ) → HasCarCause (car_acting.state plan steps) own
    → HasCarCause (car_acting.state plan (if is_some cause then steps else car_steps.Hears at event ∷ steps)) own
car_hears None own plan steps event at c = c
car_hears (Some n) own plan steps event at c = c

pub over_has_cause : (plan : CarPlan) (session : List Happening) → AllByRecursion IsWithin session
    → HasCarCause (car_state (joined plan) (session ++ CarComes plan ∷ [])) (car_cause (session ++ CarComes plan ∷ []))
over_has_cause plan [] w = λ o. absurd (true_false false o refl)
over_has_cause plan (CarReads word ∷ h) w =
    λ o. over_has_cause plan h w.1 (sym (same_over (joined plan) (car_state (joined plan) (h ++ CarComes plan ∷ [])))
    ∙ sym (read_over (car_deciding.decided (joined plan) (car_state (joined plan) (h ++ CarComes plan ∷ []))).session (joined plan) (car_deciding.decided (joined plan) (car_state (joined plan) (h ++ CarComes plan ∷ []))) word) ∙ o)
over_has_cause plan (CarDoes act ∷ h) w = car_acts act (joined plan) (car_state (joined plan) (h ++ CarComes plan ∷ [])) (h ++ CarComes plan ∷ []) (over_has_cause plan h w.1)
over_has_cause plan (CarHears bytes ∷ h) w =
    car_hears (car_cause (h ++ CarComes plan ∷ [])) (car_cause (h ++ CarComes plan ∷ [])) (joined plan) (car_steps (h ++ CarComes plan ∷ [])) (Bytes bytes) (moment (h ++ CarComes plan ∷ [])) (over_has_cause plan h w.1)
over_has_cause plan (TimePasses ∷ h) w =
    car_hears (car_cause (h ++ CarComes plan ∷ [])) (car_cause (h ++ CarComes plan ∷ [])) (joined plan) (car_steps (h ++ CarComes plan ∷ [])) Clock (moment (h ++ CarComes plan ∷ []) + 10) (over_has_cause plan h w.1)
over_has_cause plan (ChargerTells event ∷ h) w = over_has_cause plan h w.1
over_has_cause plan (StationHears bytes ∷ h) w = over_has_cause plan h w.1
over_has_cause plan (StationDoes reading act ∷ h) w = over_has_cause plan h w.1
over_has_cause plan (CarComes other ∷ h) w = absurd (true_false false w.0 refl)
over_has_cause plan (CarGoes ∷ h) w = absurd (true_false false w.0 refl)
over_has_cause plan (NumberIsDrawn ∷ h) w = absurd (true_false false w.0 refl)
