-- Own: when time passes in the first session of plans that match. All else that both ends do takes none.
use Rattle.std.specs.Prelude.{◌≡◌, ℕ, true, false, List, [], ◌∷◌, Some, None}
use Rattle.std.specs.List.{AllByRecursion}
use Rattle.charge_world.specs.declared.offer.Dialect.{Dialect}
use Rattle.session_words.specs.declared.facts.Facts.{Facts}
use Rattle.session_words.specs.declared.plan.CarPlan.{CarPlan}
use Rattle.session_words.specs.declared.plan.PostPlan.{PostPlan}
use Rattle.session_rules.specs.Stages.{is_waiting}
use Rattle.post_spec.specs.Codecs as post
use Rattle.station_spec.specs.States.{State}
use Rattle.car_spec.specs.Codecs as car
use Rattle.car_spec.specs.States as car_states
use Rattle.pipe_spec.specs.Histories.{Happening, TimePasses, joined, token}
use Rattle.pipe_spec.specs.Turns.{Station, station_state, car_state}
use Rattle.pipe_laws.specs.OneMessage.{IsShort}
use Rattle.pipe_laws.specs.PipePasts.{IsFirst}
use Rattle.pair_words.specs.Exchanges.{Both, Outside, judged}
use Rattle.pair_words.specs.Laws.{both, end_of, has_ended, AreExchanges}
use Rattle.matched_pairs.specs.Ends.{Listens, Awaits, Pauses}
use Rattle.matched_pairs.specs.Phases.{exchange}
use Rattle.matched_pairs.specs.Moves.{IsPair}
use Rattle.matched_pairs.specs.Courses.{AllGoUndisturbed}

-- the car waits to ask once more; or the post's contactor closes, and its reply waits for that
pub data IsPausing (post_plan : PostPlan) (plan : CarPlan) (b : Both) (s : State) (k : car_states.State) : Type 0 where
  Resting : Listens post_plan s b.post [] → Pauses plan k b.car → IsPausing post_plan plan b s k
  Closing : (facts : Facts) (shown : ℕ) → end_of b.car.phase ≡ None → Listens post_plan s (judged post_plan plan b (exchange facts facts shown)) []
      → is_waiting (judged post_plan plan b (exchange facts facts shown)).row ≡ true → Awaits plan k (Some b.car) [] → IsPausing post_plan plan b s k

pub record PausesAt (st : Station) (plan : CarPlan) (h : List Happening) : Type 0 where
  pub dialect : Dialect
  pub xs : List Outside
  pub are : AreExchanges st.post plan token dialect xs
  pub goes_on : has_ended st.post plan token dialect xs ≡ false
  pub pausing : IsPausing st.post plan (both st.post plan token dialect xs) (station_state st h) (car_state plan h)

-- 65,544: the bytes of the longest frame that is read
abbrev pub TimePassesInPauses : post.Codecs → car.Codecs → Type 0
TimePassesInPauses c cc = (st : Station) (plan : CarPlan) (h : List Happening) → IsPair c cc st.post (joined plan) → IsFirst c cc st plan (TimePasses ∷ h)
    → AllByRecursion (IsShort 65544) h → AllGoUndisturbed c cc st (joined plan) h → PausesAt st (joined plan) h
