-- Own: within the turns of its plan, the past that the pipe tells of an end in its first session is a run of that end.
use Rattle.std.specs.Prelude.{◌≡◌, ◌≤◌, List, [], ◌∷◌, ◌++◌}
use Rattle.std.specs.List.{AllByRecursion}
use Rattle.charge_world.specs.declared.entry.Entry.{Entry}
use Rattle.charge_world.specs.declared.entry.Entry.TheVariants as entry
use Rattle.session_words.specs.declared.plan.CarPlan.{CarPlan}
use Rattle.session_words.specs.declared.plan.SitePlan.{SitePlan}
use Rattle.post_spec.specs.Codecs.{Codecs}
use Rattle.station_spec.specs.Blocks.{IsHearing}
use Rattle.station_spec.specs.Runs as station
use Rattle.car_spec.specs.Codecs as car
use Rattle.car_spec.specs.Runs as car_runs
use Rattle.pipe_spec.specs.Histories.{Happening, CarComes, joined, station_steps, car_steps}
use Rattle.pipe_spec.specs.Pasts.{station_entries, car_entries}
use Rattle.pipe_spec.specs.Turns.{Station}
use Rattle.pipe_spec.specs.Runs.{IsRun, IsWithin}

-- what is heard is within its types: moments, amounts and bytes
abbrev pub IsTyped : Entry → Type 0
IsTyped (entry.Heard heard bytes) = IsHearing heard bytes
IsTyped other = Unit {0}

-- the first session, as far as it has come
pub record IsFirst (c : Codecs) (cc : car.Codecs) (st : Station) (plan : CarPlan) (h : List Happening) : Type 0 where
  pub session : List Happening
  pub h_is : h ≡ session ++ CarComes plan ∷ []
  pub within : AllByRecursion IsWithin session
  pub run : IsRun c cc st h

-- the plan of a site with one post
pub record IsAlone (site : SitePlan) (st : Station) : Type 0 where
  pub post : site.post.items ≡ st.post ∷ []
  pub limit : site.limit ≡ st.limit
  pub turns : site.turns ≡ st.turns
  pub some : 1 ≤ st.turns

abbrev pub StationPastsAreRuns : Codecs → car.Codecs → Type 0
StationPastsAreRuns c cc = (site : SitePlan) (st : Station) (plan : CarPlan) (h : List Happening) → IsAlone site st → IsFirst c cc st plan h
    → AllByRecursion IsTyped (station_entries h) → station.IsRun c site (station_entries h) (record { plan = st.post; steps = station_steps h } ∷ [])

abbrev pub CarPastsAreRuns : Codecs → car.Codecs → Type 0
CarPastsAreRuns c cc = (st : Station) (plan : CarPlan) (h : List Happening) → 1 ≤ plan.turns → IsFirst c cc st plan h
    → AllByRecursion IsTyped (car_entries h) → car_runs.IsRun cc (joined plan) (car_entries h) (car_steps h)
