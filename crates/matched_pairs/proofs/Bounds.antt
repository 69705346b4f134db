-- Each hearing of the clock takes ten milliseconds, and nothing but that takes any.
use Rattle.std.proofs.Common.{◌≡◌, ℕ, suc, ◌+◌, ◌*◌, ◌≤◌, Bool, true, false, if◌then◌else◌, List, [], ◌∷◌, ◌++◌, Option, Some, None, is_some, refl, sym, subst, arith}
use Rattle.std.specs.List.{AllByRecursion}
use Rattle.std.specs.Option.{option_map}
use Rattle.session_words.specs.declared.cause.EndCause.{EndCause}
use Rattle.session_words.specs.declared.plan.CarPlan.{CarPlan}
use Rattle.session_words.specs.declared.word.Reply.{Reply}
use Rattle.post_spec.specs.Codecs as post
use Rattle.post_spec.specs.Steps.{Event, Bytes, Clock}
use Rattle.car_rules.specs.declared.stage.CarStage.{CarStage}
use Rattle.car_rules.specs.Moves.{is_again, stage_behind}
use Rattle.car_rules.specs.Replies.{reply_cause}
use Rattle.car_spec.specs.Codecs as car
use Rattle.car_spec.specs.Steps as car_steps
use Rattle.car_spec.specs.States as car_states
use Rattle.car_spec.specs.Deciding as car_deciding
use Rattle.car_spec.specs.Hearing.{session_heard}
use Rattle.car_spec.specs.Judging as car_judging
use Rattle.car_spec.specs.Acting as car_acting
use Rattle.pipe_spec.specs.Histories.{Happening, CarComes, ChargerTells, StationHears, CarHears, TimePasses, StationDoes, CarReads, CarDoes, CarGoes, NumberIsDrawn, moment, joined, car_ended_by, car_cause, car_steps as steps_of_car, station_hearings, car_hearings}
use Rattle.pipe_spec.specs.Turns.{car_state}
use Rattle.pipe_spec.specs.Runs.{IsWithin}
use Rattle.matched_pairs.proofs.CarPhases.{same_session}
use Rattle.matched_pairs.specs.Bounds.{CameFirst, IsBounded, MomentsAreBounded}

true_false : (b : Bool) → b ≡ true → b ≡ false → ⊥
true_false b e f = cc

-- ---- when the car came

moved_came : (b : Bool) (plan : CarPlan) (s : car_states.State) (session : car_states.Session) (from to : CarStage) (r : Reply) → is_again from.phase to.phase ≡ b → session.moments.came ≡ 0
    → CameFirst (car_judging.moved plan s session from r to).session
moved_came true plan s session from to r e k = rw e k
moved_came false plan s session from to r e k = rw e k

replied_came : (o : Option EndCause) (plan : CarPlan) (s : car_states.State) (session : car_states.Session) (stage : CarStage) (r : Reply) → session.moments.came ≡ 0
    → CameFirst (car_judging.replied_by o plan s session stage r).session
replied_came (Some cause) plan s session stage r k = k
replied_came None plan s session stage r k = moved_came _ plan s session stage (stage_behind plan stage r session.stop) r refl k

told_came : (o : Option CarStage) (plan : CarPlan) (s : car_states.State) (session : car_states.Session) (r : Reply) → session.moments.came ≡ 0 → CameFirst (car_judging.replied plan s session o r).session
told_came None plan s session r k = k
told_came (Some stage) plan s session r k = replied_came (reply_cause plan stage _ r) plan s session stage r k

word_came : (w : car.Judged) (plan : CarPlan) (s : car_states.State) (session : car_states.Session) → session.moments.came ≡ 0 → CameFirst (car_judging.judged plan s session w).session
word_came (car.Chosen None) plan s session k = k
word_came (car.Chosen (Some d)) plan s session k = k
word_came (car.Told r) plan s session k = told_came session.stage plan s session r k
word_came car.WrongSide plan s session k = k
word_came car.Refused plan s session k = k

reads_came : (o : Option car_states.Session) (plan : CarPlan) (s : car_states.State) (w : car.Judged) → o ≡ s.session → CameFirst o → CameFirst (car_judging.judged_in plan s o w).session
reads_came None plan s w e k = subst CameFirst e tt
reads_came (Some session) plan s w e k = word_came w plan s session k

awaits_came : (o : Option car_states.Session) (now : ℕ) → CameFirst o → CameFirst (option_map (car_acting.awaiting now) o)
awaits_came None now k = tt
awaits_came (Some x) now k = k

acted_came : (act : car_steps.Act) (t : car_states.State) → CameFirst t.session → CameFirst (car_acting.acted act true t).session
acted_came (car_steps.Seek datagram) t k = k
acted_came (car_steps.Dial port) t k = k
acted_came (car_steps.Give order) t k = k
acted_came (car_steps.Say spoken bytes) t k = awaits_came t.session t.clock k
acted_came (car_steps.End number) t k = tt

-- a hearing that brings no connection
bytes_came : (o : Option car_states.Session) (bytes : List ℕ) (at : ℕ) → CameFirst o → CameFirst (session_heard (Bytes bytes) at o)
bytes_came None bytes at k = tt
bytes_came (Some x) bytes at k = k

clock_came : (o : Option car_states.Session) (at : ℕ) → CameFirst o → CameFirst (session_heard Clock at o)
clock_came None at k = tt
clock_came (Some x) at k = k

hears_came : (cause : Option ℕ) (plan : CarPlan) (steps : List car_steps.Step) (event : Event) (at : ℕ) → CameFirst (session_heard event at (car_acting.state plan steps).session) → CameFirst (car_acting.state plan steps).session
    → CameFirst (car_acting.state plan (if is_some cause then steps else car_steps.Hears at event ∷ steps)).session
hears_came None plan steps event at k l = k
hears_came (Some n) plan steps event at k l = l

-- ---- what is counted

heard_by : (cause : Option ℕ) (now most : ℕ) → is_some cause ≡ false → now ≤ 10 * most → now ≤ 10 * (if is_some cause then most else suc most)
heard_by None now most e l = omega (arith, l)
heard_by (Some n) now most e l = absurd (true_false true refl e)

ticked_by : (cause : Option ℕ) (now most : ℕ) → is_some cause ≡ false → now ≤ 10 * most → now + 10 ≤ 10 * (if is_some cause then most else suc most)
ticked_by None now most e l = omega (arith, l)
ticked_by (Some n) now most e l = absurd (true_false true refl e)

one_more : (now most : ℕ) → now ≤ 10 * most → now ≤ 10 * suc most
one_more now most l = omega (arith, l)

ten_more : (now most : ℕ) → now ≤ 10 * most → now + 10 ≤ 10 * suc most
ten_more now most l = omega (arith, l)

not_ended : (act : car_steps.Act) (cause : Option ℕ) → is_some (car_ended_by act cause) ≡ false → is_some cause ≡ false
not_ended (car_steps.Seek datagram) cause e = e
not_ended (car_steps.Dial port) cause e = e
not_ended (car_steps.Give order) cause e = e
not_ended (car_steps.Say spoken bytes) cause e = e
not_ended (car_steps.End number) cause e = absurd (true_false true refl e)

least : 0 ≤ 10 * 1
least = omega arith

pub bounded : (plan : CarPlan) (session : List Happening) → AllByRecursion IsWithin session → IsBounded (joined plan) (session ++ CarComes plan ∷ [])
bounded plan [] w = record { station = least; car = λ e. least; came = refl }
bounded plan (ChargerTells event ∷ h) w = let k : IsBounded (joined plan) (h ++ CarComes plan ∷ []) = bounded plan h w.1 in record {
  station = one_more (moment (h ++ CarComes plan ∷ [])) (station_hearings (h ++ CarComes plan ∷ [])) k.station;
  car = k.car;
  came = k.came;
}
bounded plan (StationHears bytes ∷ h) w = let k : IsBounded (joined plan) (h ++ CarComes plan ∷ []) = bounded plan h w.1 in record {
  station = one_more (moment (h ++ CarComes plan ∷ [])) (station_hearings (h ++ CarComes plan ∷ [])) k.station;
  car = k.car;
  came = k.came;
}
bounded plan (CarHears bytes ∷ h) w = let k : IsBounded (joined plan) (h ++ CarComes plan ∷ []) = bounded plan h w.1 in record {
  station = k.station;
  car = λ e. heard_by (car_cause (h ++ CarComes plan ∷ [])) (moment (h ++ CarComes plan ∷ [])) (car_hearings (h ++ CarComes plan ∷ [])) e (k.car e);
  came = hears_came (car_cause (h ++ CarComes plan ∷ [])) (joined plan) (steps_of_car (h ++ CarComes plan ∷ [])) (Bytes bytes) (moment (h ++ CarComes plan ∷ []))
      (bytes_came (car_state (joined plan) (h ++ CarComes plan ∷ [])).session bytes (moment (h ++ CarComes plan ∷ [])) k.came) k.came;
}
bounded plan (TimePasses ∷ h) w = let k : IsBounded (joined plan) (h ++ CarComes plan ∷ []) = bounded plan h w.1 in record {
  station = ten_more (moment (h ++ CarComes plan ∷ [])) (station_hearings (h ++ CarComes plan ∷ [])) k.station;
  car = λ e. ticked_by (car_cause (h ++ CarComes plan ∷ [])) (moment (h ++ CarComes plan ∷ [])) (car_hearings (h ++ CarComes plan ∷ [])) e (k.car e);
  came = hears_came (car_cause (h ++ CarComes plan ∷ [])) (joined plan) (steps_of_car (h ++ CarComes plan ∷ [])) Clock (moment (h ++ CarComes plan ∷ []) + 10)
      (clock_came (car_state (joined plan) (h ++ CarComes plan ∷ [])).session (moment (h ++ CarComes plan ∷ []) + 10) k.came) k.came;
}
bounded plan (StationDoes reading act ∷ h) w = let k : IsBounded (joined plan) (h ++ CarComes plan ∷ []) = bounded plan h w.1 in record { station = k.station; car = k.car; came = k.came }
bounded plan (CarReads word ∷ h) w = let k : IsBounded (joined plan) (h ++ CarComes plan ∷ []) = bounded plan h w.1 in record {
  station = k.station;
  car = k.car;
  came = reads_came (car_deciding.decided (joined plan) (car_state (joined plan) (h ++ CarComes plan ∷ []))).session (joined plan) (car_deciding.decided (joined plan) (car_state (joined plan) (h ++ CarComes plan ∷ []))) word refl
      (subst CameFirst (sym (same_session (joined plan) (car_state (joined plan) (h ++ CarComes plan ∷ [])))) k.came);
}
bounded plan (CarDoes act ∷ h) w = let k : IsBounded (joined plan) (h ++ CarComes plan ∷ []) = bounded plan h w.1 in record {
  station = k.station;
  car = λ e. k.car (not_ended act (car_cause (h ++ CarComes plan ∷ [])) e);
  came = acted_came act (car_deciding.decided (joined plan) (car_state (joined plan) (h ++ CarComes plan ∷ [])))
      (subst CameFirst (sym (same_session (joined plan) (car_state (joined plan) (h ++ CarComes plan ∷ [])))) k.came);
}
bounded plan (CarComes other ∷ h) w = absurd (true_false false w.0 refl)
bounded plan (CarGoes ∷ h) w = absurd (true_false false w.0 refl)
bounded plan (NumberIsDrawn ∷ h) w = absurd (true_false false w.0 refl)

pub moments_are_bounded : (c : post.Codecs) (cs : car.Codecs) → MomentsAreBounded c cs
moments_are_bounded c cs st plan h f = subst (λ (x : List Happening). IsBounded (joined plan) x) (sym f.h_is) (bounded plan f.session f.within)
