-- A session of plans that match ends well.
use Rattle.std.proofs.Common.{◌≡◌, ℕ, ◌*◌, ◌+◌, ◌<◌, ◌≤◌, List, [], Option, Some, sym, subst, arith}
use Rattle.std.specs.List.{AllByRecursion}
use Rattle.session_words.specs.declared.plan.CarPlan.{CarPlan}
use Rattle.post_spec.specs.Codecs as post
use Rattle.car_rules.specs.declared.stage.CarPhase.TheVariants as phase
use Rattle.car_rules.specs.declared.stage.CarStage.{CarStage}
use Rattle.car_spec.specs.Codecs as car
use Rattle.car_spec.specs.States.{Session}
use Rattle.pipe_spec.specs.Counts.{exchanges}
use Rattle.pipe_spec.specs.Histories.{Happening, joined, station_hearings, car_hearings}
use Rattle.pipe_spec.specs.Matched.{EndsWell}
use Rattle.pipe_spec.specs.Runs.{IsSession}
use Rattle.pipe_spec.specs.Turns.{Station, car_state}
use Rattle.pipe_laws.specs.OneMessage.{IsShort}
use Rattle.pair_words.specs.Timed.{is_pre_charging}
use Rattle.pipe_laws.specs.PipePasts.{IsFirst}
use Rattle.matched_pairs.specs.Causes.{HasEndedByStop}
use Rattle.matched_pairs.specs.Courses.{AllGoUndisturbed}
use Rattle.matched_pairs.specs.Few.{AreFew}
use Rattle.matched_pairs.specs.Moves.{IsPair}
use Rattle.matched_pairs.specs.Opening.{AreOpened}
use Rattle.matched_pairs.specs.Quick.{is_quick}
use Rattle.matched_pairs.specs.Repeats.{repeats_in}
use Rattle.matched_pairs.specs.Steps.{AllKeepSteps}
use Rattle.matched_pairs.specs.Voltages.{HasPhase, IsInPhase}
use Rattle.matched_pairs.proofs.Charged.{pre_charges_are_kept, pre_charges_are_few}
use Rattle.matched_pairs.proofs.Counted.{quick_steps_are_few}
use Rattle.matched_pairs.proofs.Counting.{exchanges_are_counted}
use Rattle.matched_pairs.proofs.Deadlines.{deadlines_are_kept, steady_sessions_end}
use Rattle.matched_pairs.proofs.Kept.{PreChargesKeep, all_steps_are_kept}
use Rattle.matched_pairs.proofs.Opening.{contactors_are_opened}
use Rattle.matched_pairs.proofs.Few.{all_short, hearings_are_few}
use Rattle.matched_pairs.proofs.Timely.{timely_sessions_are_undisturbed}

few_by : (n cycles quick slow : ℕ) → n ≤ 21 + cycles + quick + slow → quick ≤ 3 → slow ≤ 30 → n ≤ 64 + 4 * cycles
few_by n cycles quick slow e q s = omega (arith, e, q, s)

in_phase : (o : Option Session) (session : Session) (stage : CarStage) → o ≡ Some session → session.stage ≡ Some stage → stage.phase ≡ phase.PreCharging → IsInPhase phase.PreCharging o
in_phase o session stage s g i = subst (IsInPhase phase.PreCharging) (sym s) (subst (HasPhase phase.PreCharging) (sym g) i)

pre_charges_keep : (c : post.Codecs) (cs : car.Codecs) (st : Station) (plan : CarPlan) → IsPair c cs st.post (joined plan) → 1 ≤ st.limit → PreChargesKeep c cs st plan
pre_charges_keep c cs st plan p some h e session stage f l steps s g i =
    pre_charges_are_kept c cs st plan h e p some f l steps (in_phase (car_state (joined plan) h).session session stage s g i)

within : (n turns : ℕ) → n < 1000000000 → 1000000000 ≤ turns → n < turns
within n turns l m = omega (arith, l, m)

pub first_of : (c : post.Codecs) (cs : car.Codecs) (st : Station) (plan : CarPlan) (h : List Happening) → IsSession c cs st [] plan h → IsFirst c cs st plan h
first_of c cs st plan h f = record { session = f.session; h_is = f.h_is; within = f.within; run = f.run }

pub ends_well : (c : post.Codecs) (cs : car.Codecs) (st : Station) (plan : CarPlan) (h : List Happening) → IsPair c cs st.post (joined plan) → 1 ≤ st.limit → IsSession c cs st [] plan h
    → AllByRecursion (IsShort 1032) h → plan.target_voltage ≤ 30000 → 1000000000 ≤ st.turns → 1000000000 ≤ plan.turns → EndsWell plan h
ends_well c cs st plan h p some f short target turns car_turns =
    let first : IsFirst c cs st plan h = first_of c cs st plan h f in
    let l : AllByRecursion (IsShort 65544) h = all_short h short in
    let steps : AllKeepSteps (joined plan) h = all_steps_are_kept c cs st plan h p some first l (pre_charges_keep c cs st plan p some) in
    let calm : AllGoUndisturbed c cs st (joined plan) h =
    timely_sessions_are_undisturbed c cs st plan h p first l (deadlines_are_kept c cs st plan h p first l steps) in
    let few : exchanges h ≤ 64 + 4 * plan.cycles =
    few_by (exchanges h) plan.cycles (repeats_in is_quick (joined plan) h) (repeats_in is_pre_charging (joined plan) h) (exchanges_are_counted c cs st plan h p first l calm)
    (quick_steps_are_few c cs st plan h p some first l calm) (pre_charges_are_few c cs st plan h p some first l steps target) in
    let heard : AreFew h = hearings_are_few c cs st plan h p first short steps few in
    let in_turns : station_hearings h < st.turns = within (station_hearings h) st.turns heard.station turns in
    let car_in_turns : car_hearings h < plan.turns = within (car_hearings h) plan.turns heard.car car_turns in
    let ended : HasEndedByStop st (joined plan) h = steady_sessions_end c cs st plan h p f l steps in_turns car_in_turns in
    let opened : AreOpened h = contactors_are_opened c cs st plan h p f l calm in_turns car_in_turns in
    record {
      few = few;
      ok = ended.stopped.ok;
      station = ended.station;
      car = ended.car;
      station_open = opened.station;
      car_open = opened.car;
    }
