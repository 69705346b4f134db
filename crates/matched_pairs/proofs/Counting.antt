-- The exchanges of a session are its words, and those that are left go down but for what is asked again.
use Rattle.std.proofs.Common.{◌≡◌, ℕ, suc, ◌+◌, ◌≤◌, ◌&&◌, List, [], ◌∷◌, length, Option, Some, None, refl, arith}
use Rattle.session_words.specs.declared.plan.CarPlan.{CarPlan}
use Rattle.post_spec.specs.Codecs as post
use Rattle.station_spec.specs.Report.{one_if}
use Rattle.car_rules.specs.declared.stage.CarPhase.{CarPhase}
use Rattle.car_rules.specs.declared.stage.CarPhase.TheVariants as phase
use Rattle.car_rules.specs.declared.stage.CarStage.{CarStage}
use Rattle.car_spec.specs.Codecs as car
use Rattle.pipe_spec.specs.Counts.{exchanges}
use Rattle.pipe_spec.specs.Histories.{Happening, CarComes, ChargerTells, StationHears, CarHears, TimePasses, StationDoes, CarReads, CarDoes, CarGoes, NumberIsDrawn, joined, token}
use Rattle.pipe_spec.specs.Turns.{Station, car_state}
use Rattle.pair_words.specs.Laws.{is_repeated, repeats, left_behind}
use Rattle.pair_words.specs.Timed.{is_pre_charging}
use Rattle.pair_words.proofs.Sessions.{they_end}
use Rattle.matched_pairs.specs.Phases.{Words, NoneYet, Read}
use Rattle.matched_pairs.specs.Moves.{IsPair}
use Rattle.matched_pairs.specs.Courses.{IsAt, count, GoesWell}
use Rattle.matched_pairs.specs.Repeats.{stage_in, asks_again, repeats_in, is_any, repeats_among}
use Rattle.matched_pairs.specs.Quick.{is_quick}
use Rattle.matched_pairs.specs.Counted.{ExchangesAreCounted}
use Rattle.matched_pairs.proofs.Courses.{sessions_go_well}

-- ---- what is asked again is of an early step or of the pre-charge

either_step : (n : ℕ) → n ≡ n + 0
either_step n = omega arith

or_other : (n : ℕ) → n ≡ 0 + n
or_other n = omega arith

phase_parts : (p q : CarPhase) → one_if (is_repeated p q) ≡ one_if (is_quick p && is_repeated p q) + one_if (is_pre_charging p && is_repeated p q)
phase_parts phase.Authorizing q = either_step (one_if (is_repeated phase.Authorizing q))
phase_parts phase.Asking q = either_step (one_if (is_repeated phase.Asking q))
phase_parts phase.CableChecking q = either_step (one_if (is_repeated phase.CableChecking q))
phase_parts phase.PreCharging q = or_other (one_if (is_repeated phase.PreCharging q))
phase_parts phase.SettingUp q = refl
phase_parts phase.Discovering q = refl
phase_parts phase.Selecting q = refl
phase_parts phase.Starting q = refl
phase_parts phase.Charging q = refl
phase_parts phase.Stopping q = refl
phase_parts phase.Renegotiating q = refl
phase_parts (phase.Welding left) q = refl
phase_parts phase.Ending q = refl

asks_parts : (from to : Option CarStage) → one_if (asks_again is_any from to) ≡ one_if (asks_again is_quick from to) + one_if (asks_again is_pre_charging from to)
asks_parts None to = refl
asks_parts (Some from) None = refl
asks_parts (Some from) (Some to) = phase_parts from.phase to.phase

sum_parts : (one a b n c d : ℕ) → one ≡ a + b → n ≡ c + d → one + n ≡ a + c + (b + d)
sum_parts one a b n c d e f = omega (arith, e, f)

pub parts : (h : List Happening) (plan : CarPlan) → repeats_in is_any plan h ≡ repeats_in is_quick plan h + repeats_in is_pre_charging plan h
parts [] plan = refl
parts (CarComes other ∷ h) plan = refl
parts (CarReads w ∷ h) plan =
    sum_parts (one_if (asks_again is_any (stage_in (car_state plan h).session) (stage_in (car_state plan (CarReads w ∷ h)).session)))
    (one_if (asks_again is_quick (stage_in (car_state plan h).session) (stage_in (car_state plan (CarReads w ∷ h)).session)))
    (one_if (asks_again is_pre_charging (stage_in (car_state plan h).session) (stage_in (car_state plan (CarReads w ∷ h)).session))) (repeats_in is_any plan h) (repeats_in is_quick plan h) (repeats_in is_pre_charging plan h)
    (asks_parts (stage_in (car_state plan h).session) (stage_in (car_state plan (CarReads w ∷ h)).session)) (parts h plan)
parts (ChargerTells event ∷ h) plan = parts h plan
parts (StationHears bytes ∷ h) plan = parts h plan
parts (CarHears bytes ∷ h) plan = parts h plan
parts (TimePasses ∷ h) plan = parts h plan
parts (StationDoes reading act ∷ h) plan = parts h plan
parts (CarDoes act ∷ h) plan = parts h plan
parts (CarGoes ∷ h) plan = parts h plan
parts (NumberIsDrawn ∷ h) plan = parts h plan

-- ---- the words

none_counted : (n most a b : ℕ) → n ≡ 0 → n ≤ 21 + most + a + b
none_counted n most a b e = omega (arith, e)

words_counted : (n m left most r all a b : ℕ) → n ≡ suc m → m + left ≤ 20 + most + r → all ≡ r → all ≡ a + b → n ≤ 21 + most + a + b
words_counted n m left most r all a b e l f g = omega (arith, e, l, f, g)

counted_by : (words : Words) (c : post.Codecs) (cc : car.Codecs) (st : Station) (plan : CarPlan) (h : List Happening) → IsPair c cc st.post plan → IsAt c cc st plan words h → exchanges h ≡ count words
    → repeats_in is_any plan h ≡ repeats_among st.post plan words → exchanges h ≤ 21 + plan.cycles + repeats_in is_quick plan h + repeats_in is_pre_charging plan h
counted_by NoneYet c cc st plan h p at e r = none_counted (exchanges h) plan.cycles (repeats_in is_quick plan h) (repeats_in is_pre_charging plan h) e
counted_by (Read dialect xs) c cc st plan h p at e r =
    words_counted (exchanges h) (length xs) (left_behind st.post plan token dialect xs) plan.cycles (repeats st.post plan token dialect xs) (repeats_in is_any plan h) (repeats_in is_quick plan h)
    (repeats_in is_pre_charging plan h) e (they_end st.post plan token dialect xs p.paired at.0) r (parts h plan)

pub exchanges_are_counted : (c : post.Codecs) (cc : car.Codecs) → ExchangesAreCounted c cc
exchanges_are_counted c cc st plan h p f l d =
    let w : GoesWell c cc st (joined plan) h = sessions_go_well c cc st plan h p f l d in
    counted_by w.words c cc st (joined plan) h p w.phase w.exchanges_are w.repeats_are
