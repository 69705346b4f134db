-- Nothing but a hearing sets a clock.
use Rattle.std.proofs.Common.{◌≡◌, ℕ, ◌+◌, Bool, true, false, if◌then◌else◌, List, [], ◌∷◌, ◌++◌, Option, Some, None, is_some, refl, ap, sym, subst, ◌∙◌}
use Rattle.std.specs.List.{AllByRecursion}
use Rattle.session_words.specs.declared.cause.EndCause.{EndCause}
use Rattle.session_words.specs.declared.plan.CarPlan.{CarPlan}
use Rattle.session_words.specs.declared.plan.PostPlan.{PostPlan}
use Rattle.session_words.specs.declared.word.Reply.{Reply}
use Rattle.post_spec.specs.Codecs as post
use Rattle.post_spec.specs.Steps.{Event, Bytes, Clock, Act, Give, Send, Answer, End, Reading}
use Rattle.station_spec.specs.States.{Session, State}
use Rattle.station_spec.specs.Deciding.{decided}
use Rattle.station_spec.specs.Judging.{judged, taken_in, read, filled}
use Rattle.station_spec.specs.Acting.{acted}
use Rattle.station_laws.proofs.Decided.{IsPlanned, planned}
use Rattle.car_rules.specs.declared.stage.CarStage.{CarStage}
use Rattle.car_rules.specs.Moves.{is_again, stage_behind}
use Rattle.car_rules.specs.Replies.{reply_cause}
use Rattle.car_spec.specs.Codecs as car
use Rattle.car_spec.specs.Steps as car_steps
use Rattle.car_spec.specs.States as car_states
use Rattle.car_spec.specs.Deciding as car_deciding
use Rattle.car_spec.specs.Judging as car_judging
use Rattle.car_spec.specs.Acting as car_acting
use Rattle.car_laws.proofs.Decided as car_decided
use Rattle.pipe_spec.specs.Histories.{Happening, CarComes, ChargerTells, StationHears, CarHears, TimePasses, StationDoes, CarReads, CarDoes, CarGoes, NumberIsDrawn, moment, joined, car_ended_by, car_cause, car_steps as steps_of_car}
use Rattle.pipe_spec.specs.Turns.{Station, station_state, car_state}
use Rattle.pipe_spec.specs.Runs.{IsWithin}
use Rattle.matched_pairs.specs.Clocks.{ShowMoment, ClocksAreRight}

true_false : (b : Bool) → b ≡ true → b ≡ false → ⊥
true_false b e f = cc

-- ---- the post

same_clock : (plan : PostPlan) (s : State) → (decided plan s).clock ≡ s.clock
same_clock plan s = let p : IsPlanned s (decided plan s) = planned plan s in ap (λ (t : State). t.clock) p.is

judged_clock : (plan : PostPlan) (s : State) (session : Session) (w : post.Judged) (shown : ℕ) → (judged plan s session w shown).clock ≡ s.clock
judged_clock plan s session (post.Negotiated chosen response) shown = refl
judged_clock plan s session (post.Asked r) shown = refl
judged_clock plan s session post.WrongSide shown = refl
judged_clock plan s session post.Refused shown = refl

taken_clock : (plan : PostPlan) (s : State) (o : Option Session) (r : Reading) → (taken_in plan s o r).clock ≡ s.clock
taken_clock plan s None r = refl
taken_clock plan s (Some session) r = judged_clock plan s session r.judged r.shown

read_clock : (plan : PostPlan) (s : State) (o : Option Reading) → (read plan s o).clock ≡ s.clock
read_clock plan s None = refl
read_clock plan s (Some r) = taken_clock plan s s.session r

pub filled_clock : (plan : PostPlan) (o : Option Reading) (s : State) → (filled plan o s).clock ≡ s.clock
filled_clock plan o s = read_clock plan (decided plan s) o ∙ same_clock plan s

acted_clock : (act : Act) (t : State) → (acted act true t).clock ≡ t.clock
acted_clock (Give o) t = refl
acted_clock (Send bytes) t = refl
acted_clock (Answer bytes) t = refl
acted_clock (End cause) t = refl

-- ---- the car

pub same_car_clock : (plan : CarPlan) (k : car_states.State) → (car_deciding.decided plan k).clock ≡ k.clock
same_car_clock plan k = let p : car_decided.IsPlanned k (car_deciding.decided plan k) = car_decided.planned plan k in ap (λ (t : car_states.State). t.clock) p.is

moved_clock : (b : Bool) (plan : CarPlan) (s : car_states.State) (session : car_states.Session) (from to : CarStage) (r : Reply) → is_again from.phase to.phase ≡ b
    → (car_judging.moved plan s session from r to).clock ≡ s.clock
moved_clock true plan s session from to r e = rw e refl
moved_clock false plan s session from to r e = rw e refl

replied_clock : (o : Option EndCause) (plan : CarPlan) (s : car_states.State) (session : car_states.Session) (stage : CarStage) (r : Reply) → (car_judging.replied_by o plan s session stage r).clock ≡ s.clock
replied_clock (Some cause) plan s session stage r = refl
replied_clock None plan s session stage r = moved_clock _ plan s session stage (stage_behind plan stage r session.stop) r refl

told_clock : (o : Option CarStage) (plan : CarPlan) (s : car_states.State) (session : car_states.Session) (r : Reply) → (car_judging.replied plan s session o r).clock ≡ s.clock
told_clock None plan s session r = refl
told_clock (Some stage) plan s session r = replied_clock (reply_cause plan stage _ r) plan s session stage r

word_clock : (w : car.Judged) (plan : CarPlan) (s : car_states.State) (session : car_states.Session) → (car_judging.judged plan s session w).clock ≡ s.clock
word_clock (car.Chosen None) plan s session = refl
word_clock (car.Chosen (Some d)) plan s session = refl
word_clock (car.Told r) plan s session = told_clock session.stage plan s session r
word_clock car.WrongSide plan s session = refl
word_clock car.Refused plan s session = refl

reads_clock : (o : Option car_states.Session) (plan : CarPlan) (s : car_states.State) (w : car.Judged) → (car_judging.judged_in plan s o w).clock ≡ s.clock
reads_clock None plan s w = refl
reads_clock (Some session) plan s w = word_clock w plan s session

car_acted_clock : (act : car_steps.Act) (t : car_states.State) → (car_acting.acted act true t).clock ≡ t.clock
car_acted_clock (car_steps.Seek datagram) t = refl
car_acted_clock (car_steps.Dial port) t = refl
car_acted_clock (car_steps.Give order) t = refl
car_acted_clock (car_steps.Say spoken bytes) t = refl
car_acted_clock (car_steps.End number) t = refl

not_ended : (act : car_steps.Act) (cause : Option ℕ) → is_some (car_ended_by act cause) ≡ false → is_some cause ≡ false
not_ended (car_steps.Seek datagram) cause e = e
not_ended (car_steps.Dial port) cause e = e
not_ended (car_steps.Give order) cause e = e
not_ended (car_steps.Say spoken bytes) cause e = e
not_ended (car_steps.End number) cause e = absurd (true_false true refl e)

hears_clock : (cause : Option ℕ) (plan : CarPlan) (steps : List car_steps.Step) (event : Event) (at : ℕ) → is_some cause ≡ false
    → (car_acting.state plan (if is_some cause then steps else car_steps.Hears at event ∷ steps)).clock ≡ at
hears_clock None plan steps event at e = refl
hears_clock (Some n) plan steps event at e = absurd (true_false true refl e)

-- ---- all that may happen

pub clocks : (st : Station) (plan : CarPlan) (session : List Happening) → AllByRecursion IsWithin session → ShowMoment st (joined plan) (session ++ CarComes plan ∷ [])
clocks st plan [] w = record { station = refl; car = λ e. refl }
clocks st plan (ChargerTells event ∷ h) w = let k : ShowMoment st (joined plan) (h ++ CarComes plan ∷ []) = clocks st plan h w.1 in record { station = refl; car = k.car }
clocks st plan (StationHears bytes ∷ h) w = let k : ShowMoment st (joined plan) (h ++ CarComes plan ∷ []) = clocks st plan h w.1 in record { station = refl; car = k.car }
clocks st plan (CarHears bytes ∷ h) w = let k : ShowMoment st (joined plan) (h ++ CarComes plan ∷ []) = clocks st plan h w.1 in record {
  station = k.station;
  car = λ e. hears_clock (car_cause (h ++ CarComes plan ∷ [])) (joined plan) (steps_of_car (h ++ CarComes plan ∷ [])) (Bytes bytes) (moment (h ++ CarComes plan ∷ [])) e;
}
clocks st plan (TimePasses ∷ h) w = record {
  station = refl;
  car = λ e. hears_clock (car_cause (h ++ CarComes plan ∷ [])) (joined plan) (steps_of_car (h ++ CarComes plan ∷ [])) Clock (moment (h ++ CarComes plan ∷ []) + 10) e;
}
clocks st plan (StationDoes reading act ∷ h) w = let k : ShowMoment st (joined plan) (h ++ CarComes plan ∷ []) = clocks st plan h w.1 in record {
  station = acted_clock act (filled st.post reading (station_state st (h ++ CarComes plan ∷ []))) ∙ filled_clock st.post reading (station_state st (h ++ CarComes plan ∷ [])) ∙ k.station;
  car = k.car;
}
clocks st plan (CarReads word ∷ h) w = let k : ShowMoment st (joined plan) (h ++ CarComes plan ∷ []) = clocks st plan h w.1 in record {
  station = k.station;
  car = λ e. reads_clock (car_deciding.decided (joined plan) (car_state (joined plan) (h ++ CarComes plan ∷ []))).session (joined plan) (car_deciding.decided (joined plan) (car_state (joined plan) (h ++ CarComes plan ∷ []))) word
      ∙ same_car_clock (joined plan) (car_state (joined plan) (h ++ CarComes plan ∷ [])) ∙ k.car e;
}
clocks st plan (CarDoes act ∷ h) w = let k : ShowMoment st (joined plan) (h ++ CarComes plan ∷ []) = clocks st plan h w.1 in record {
  station = k.station;
  car = λ e. car_acted_clock act (car_deciding.decided (joined plan) (car_state (joined plan) (h ++ CarComes plan ∷ [])))
      ∙ same_car_clock (joined plan) (car_state (joined plan) (h ++ CarComes plan ∷ [])) ∙ k.car (not_ended act (car_cause (h ++ CarComes plan ∷ [])) e);
}
clocks st plan (CarComes other ∷ h) w = absurd (true_false false w.0 refl)
clocks st plan (CarGoes ∷ h) w = absurd (true_false false w.0 refl)
clocks st plan (NumberIsDrawn ∷ h) w = absurd (true_false false w.0 refl)

pub clocks_are_right : (c : post.Codecs) (cs : car.Codecs) → ClocksAreRight c cs
clocks_are_right c cs st plan h f = subst (λ (x : List Happening). ShowMoment st (joined plan) x) (sym f.h_is) (clocks st plan f.session f.within)
