-- A PreCharge request is asked again for the voltage that was told as the post read it.
use Rattle.std.proofs.Common.{◌≡◌, ◌≤◌, ◌<◌, true, List, ◌∷◌, Some, refl, sym, subst}
use Rattle.std.specs.List.{AllByRecursion}
use Rattle.session_words.specs.declared.plan.CarPlan.{CarPlan}
use Rattle.session_words.specs.declared.word.Reply.{Reply}
use Rattle.session_rules.specs.Delivery.{off_of}
use Rattle.post_spec.specs.Codecs as post
use Rattle.car_rules.specs.declared.stage.CarPhase.{CarPhase}
use Rattle.car_rules.specs.declared.stage.CarPhase.TheVariants as phase
use Rattle.car_rules.specs.declared.stage.CarStage.{CarStage}
use Rattle.car_rules.specs.Moves.{stage_behind}
use Rattle.car_spec.specs.Codecs as car
use Rattle.car_spec.specs.Codecs.{Told}
use Rattle.car_spec.specs.States.{Session}
use Rattle.pipe_spec.specs.Histories.{Happening, CarReads, joined, moment}
use Rattle.pipe_spec.specs.Turns.{Station, station_state, car_state}
use Rattle.pipe_laws.specs.OneMessage.{IsShort}
use Rattle.pipe_laws.specs.PipePasts.{IsFirst}
use Rattle.matched_pairs.specs.Moves.{IsPair}
use Rattle.matched_pairs.specs.Courses.{AllGoUndisturbed}
use Rattle.pair_words.specs.Laws.{is_repeated}
use Rattle.pair_words.specs.Left.{IsUnready}
use Rattle.matched_pairs.specs.Pending.{before_word, WasUnready}
use Rattle.matched_pairs.specs.Phases.{exchange}
use Rattle.matched_pairs.proofs.Repeats.{repeats_are_of_now}

abbrev pub NeedsNow : post.Codecs → car.Codecs → Type 0
NeedsNow c cc = (st : Station) (plan : CarPlan) (h : List Happening) (reply : Reply) (session : Session) (stage : CarStage)
    → IsPair c cc st.post (joined plan) → 1 ≤ st.limit → IsFirst c cc st plan (CarReads (Told reply) ∷ h) → AllByRecursion (IsShort 65544) h
    → AllGoUndisturbed c cc st (joined plan) h → (car_state (joined plan) h).session ≡ Some session → session.stage ≡ Some stage
    → stage.phase ≡ phase.PreCharging → (stage_behind (joined plan) stage reply session.stop).phase ≡ phase.PreCharging
    → 200 < off_of (record { target = plan.target_voltage; voltage = (station_state st (before_word h)).facts.voltage })

both_so : (from to : CarPhase) → from ≡ phase.PreCharging → to ≡ phase.PreCharging → is_repeated from to ≡ true
both_so from to e f = subst (λ (p : CarPhase). is_repeated p to ≡ true) (sym e) (subst (λ (p : CarPhase). is_repeated phase.PreCharging p ≡ true) (sym f) refl)

pub needs_now : (c : post.Codecs) (cc : car.Codecs) → NeedsNow c cc
needs_now c cc st plan h reply session stage pair some first short calm s g from to =
    let u : WasUnready st (joined plan) (before_word h) (moment h) stage.phase =
    repeats_are_of_now c cc st plan h reply session stage pair some first short calm s g (both_so stage.phase (stage_behind (joined plan) stage reply session.stop).phase from to) in
    subst (λ (p : CarPhase). IsUnready st.post (joined plan) p (exchange (station_state st (before_word h)).facts (station_state st (before_word h)).facts u.shown)) from u.unready
