-- Own: a post reads a word only behind a turn that brought bytes to an end, so that nothing of its charger was due.
use Rattle.std.specs.Prelude.{◌≡◌, true, List, Some}
use Rattle.std.specs.List.{AllByRecursion}
use Rattle.session_words.specs.declared.plan.CarPlan.{CarPlan}
use Rattle.post_spec.specs.Codecs as post
use Rattle.post_spec.specs.Steps.{Act, Reading}
use Rattle.car_spec.specs.Codecs as car
use Rattle.pipe_spec.specs.Histories.{Happening, joined}
use Rattle.pipe_spec.specs.Turns.{Station, StationMayDo}
use Rattle.pipe_laws.specs.OneMessage.{IsShort}
use Rattle.pipe_laws.specs.PipePasts.{IsFirst}
use Rattle.pipe_facts.specs.InTime.{is_told}
use Rattle.matched_pairs.specs.Moves.{IsPair}
use Rattle.matched_pairs.specs.Courses.{AllGoUndisturbed}

-- 65,544: the bytes of the longest frame that is read
abbrev pub WordsAreTold : post.Codecs → car.Codecs → Type 0
WordsAreTold c cc = (st : Station) (plan : CarPlan) (h : List Happening) (reading : Reading) (act : Act) → IsPair c cc st.post (joined plan)
    → IsFirst c cc st plan h → AllByRecursion (IsShort 65544) h → AllGoUndisturbed c cc st (joined plan) h
    → StationMayDo c st h (Some reading) act → is_told h ≡ true
