-- Own: a session of plans that match which is over, but for the turns of a plan, has ended by SessionStop at both ends.
use Rattle.std.specs.Prelude.{◌≡◌, suc, ◌<◌, true, List, [], length}
use Rattle.std.specs.List.{AllByRecursion}
use Rattle.charge_world.specs.declared.offer.Dialect.{Dialect}
use Rattle.session_words.specs.declared.plan.CarPlan.{CarPlan}
use Rattle.post_spec.specs.Codecs as post
use Rattle.car_spec.specs.Codecs as car
use Rattle.pipe_spec.specs.Histories.{Happening, joined, token, station_hearings, car_hearings}
use Rattle.pipe_spec.specs.Counts.{exchanges, IsOk}
use Rattle.pipe_spec.specs.Runs.{IsSession}
use Rattle.pipe_spec.specs.Turns.{Station, station_state, car_state}
use Rattle.pipe_laws.specs.OneMessage.{IsShort}
use Rattle.pair_words.specs.Exchanges.{Outside}
use Rattle.pair_words.specs.Laws.{has_ended, AreExchanges}
use Rattle.matched_pairs.specs.Ends.{IsGone, HasEnded}
use Rattle.matched_pairs.specs.Moves.{IsPair}
use Rattle.matched_pairs.specs.Courses.{AllGoUndisturbed}

pub record HasStopped (st : Station) (plan : CarPlan) (h : List Happening) : Type 0 where
  pub dialect : Dialect
  pub xs : List Outside
  pub are : AreExchanges st.post plan token dialect xs
  pub ended : has_ended st.post plan token dialect xs ≡ true
  pub station_ended : IsGone st.post (station_state st h)
  pub car_ended : HasEnded plan (car_state plan h)
  pub ok : AllByRecursion IsOk h
  pub exchanges_are : exchanges h ≡ suc (length xs)

abbrev pub SessionsStop : post.Codecs → car.Codecs → Type 0
SessionsStop c cc = (st : Station) (plan : CarPlan) (h : List Happening) → IsPair c cc st.post (joined plan) → IsSession c cc st [] plan h
    → AllByRecursion (IsShort 65544) h → AllGoUndisturbed c cc st (joined plan) h → station_hearings h < st.turns → car_hearings h < plan.turns
    → HasStopped st (joined plan) h
