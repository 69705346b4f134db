-- ISO 15118-2:2014, 8.8.4 (the order of the requests): in the first session of plans that match a request is asked again for what the post knew at the
-- moment at which the car reads the reply, since no time passes while a reply is decided, under way or unread.
use Rattle.std.specs.Prelude.{◌≡◌, ℕ, ◌≤◌, true, false, List, [], ◌∷◌, Some}
use Rattle.std.specs.List.{AllByRecursion}
use Rattle.session_words.specs.declared.plan.CarPlan.{CarPlan}
use Rattle.session_words.specs.declared.word.Reply.{Reply}
use Rattle.post_spec.specs.Codecs as post
use Rattle.car_rules.specs.declared.stage.CarPhase.{CarPhase}
use Rattle.car_rules.specs.declared.stage.CarPhase.TheVariants as phase
use Rattle.car_rules.specs.declared.stage.CarStage.{CarStage}
use Rattle.car_rules.specs.Moves.{stage_behind}
use Rattle.car_spec.specs.Codecs as car
use Rattle.car_spec.specs.Codecs.{Told}
use Rattle.car_spec.specs.States.{Session}
use Rattle.pipe_spec.specs.Histories.{Happening, StationDoes, CarReads, moment, joined, station_has_ended}
use Rattle.pipe_spec.specs.Turns.{Station, station_state, car_state}
use Rattle.pipe_laws.specs.OneMessage.{IsShort}
use Rattle.pipe_laws.specs.PipePasts.{IsFirst}
use Rattle.pipe_facts.specs.InTime.{is_told}
use Rattle.pair_words.specs.Laws.{is_repeated}
use Rattle.pair_words.specs.Left.{IsUnready}
use Rattle.matched_pairs.specs.Phases.{exchange}
use Rattle.matched_pairs.specs.Moves.{IsPair}
use Rattle.matched_pairs.specs.Courses.{AllGoUndisturbed}

-- what had happened as the post read its newest word
abbrev pub before_word : List Happening → List Happening
before_word [] = []
before_word (StationDoes (Some reading) act ∷ h) = h
before_word (other ∷ h) = before_word h

-- a step wasn't done as the post read the request for it, at this moment: its charger had told all that was due, and watts were shown where they are
pub record WasUnready (st : Station) (plan : CarPlan) (before : List Happening) (now : ℕ) (step : CarPhase) : Type 0 where
  pub told : is_told before ≡ true
  pub at : moment before ≡ now
  pub lives : station_has_ended before ≡ false
  pub shown : ℕ
  pub some : step ≡ phase.Asking → 1 ≤ shown
  pub unready : IsUnready st.post plan step (exchange (station_state st before).facts (station_state st before).facts shown)

-- 65,544: the bytes of the longest frame that is read. The site bears a watt at least
abbrev pub RepeatsAreOfNow : post.Codecs → car.Codecs → Type 0
RepeatsAreOfNow c cc = (st : Station) (plan : CarPlan) (h : List Happening) (reply : Reply) (session : Session) (stage : CarStage)
    → IsPair c cc st.post (joined plan) → 1 ≤ st.limit → IsFirst c cc st plan (CarReads (Told reply) ∷ h) → AllByRecursion (IsShort 65544) h
    → AllGoUndisturbed c cc st (joined plan) h → (car_state (joined plan) h).session ≡ Some session → session.stage ≡ Some stage
    → is_repeated stage.phase (stage_behind (joined plan) stage reply session.stop).phase ≡ true
    → WasUnready st (joined plan) (before_word h) (moment h) stage.phase
