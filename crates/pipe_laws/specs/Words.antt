-- Own: a car reads a word at most in each of its hearings, and none in the one in which it comes. So a session has fewer exchanges than its
-- car's plan has turns.
use Rattle.std.specs.Prelude.{◌≡◌, ℕ, suc, ◌<◌, ◌≤◌, List, [], ◌∷◌, Some}
use Rattle.std.specs.List.{AllByRecursion}
use Rattle.session_words.specs.declared.plan.CarPlan.{CarPlan}
use Rattle.post_spec.specs.Codecs.{Codecs}
use Rattle.car_spec.specs.Codecs as car
use Rattle.pipe_spec.specs.Histories.{Happening, CarComes, CarReads, car_plan, car_hearings}
use Rattle.pipe_spec.specs.Counts.{exchanges}
use Rattle.pipe_spec.specs.Turns.{Station}
use Rattle.pipe_spec.specs.Runs.{IsRun}
use Rattle.pipe_laws.specs.OneMessage.{IsShort}

-- the words that the newest car read
abbrev pub words : List Happening → ℕ
words [] = 0
words (CarComes plan ∷ h) = 0
words (CarReads judged ∷ h) = suc (words h)
words (other ∷ h) = words h

-- 65,544: the bytes of the longest frame that is read
abbrev pub OneWordAHearing : Codecs → car.Codecs → Type 0
OneWordAHearing c cc = (most : ℕ) (station : Station) (plan : CarPlan) (h : List Happening) → most ≤ 65544 → IsRun c cc station h
    → AllByRecursion (IsShort most) h → car_plan h ≡ Some plan → words h < car_hearings h

-- within the turns of its plan
abbrev pub HearsWithinTurns : Codecs → car.Codecs → Type 0
HearsWithinTurns c cc = (station : Station) (plan : CarPlan) (h : List Happening) → IsRun c cc station h → car_plan h ≡ Some plan → 1 ≤ plan.turns
    → car_hearings h ≤ plan.turns

abbrev pub ExchangesAreWithinTurns : Codecs → car.Codecs → Type 0
ExchangesAreWithinTurns c cc = (most : ℕ) (station : Station) (plan : CarPlan) (h : List Happening) → most ≤ 65544 → IsRun c cc station h
    → AllByRecursion (IsShort most) h → car_plan h ≡ Some plan → 1 ≤ plan.turns → exchanges h < plan.turns
