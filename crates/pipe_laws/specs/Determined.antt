-- Own: a session over the pipe is determined by both plans, the seed and what happened before.
use Rattle.std.specs.Prelude.{◌≡◌, ℕ, List}
use Rattle.session_words.specs.declared.plan.CarPlan.{CarPlan}
use Rattle.session_words.specs.declared.plan.SitePlan.{SitePlan}
use Rattle.post_spec.specs.Codecs.{Codecs}
use Rattle.post_spec.specs.Spelled.{AreDetermined}
use Rattle.car_spec.specs.Codecs as car
use Rattle.car_spec.specs.Spelled as car_spelled
use Rattle.pipe_spec.specs.Histories.{Happening}
use Rattle.pipe_spec.specs.Turns.{Station}
use Rattle.pipe_spec.specs.Runs.{IsSession, IsPipeRun}

-- where a payload is judged one way, and what is said has one encoding
abbrev pub SessionsAreDetermined : Codecs → car.Codecs → Type 0
SessionsAreDetermined c cc = AreDetermined c → car_spelled.AreDetermined cc → (station : Station) (before : List Happening) (plan : CarPlan) (h k : List Happening)
    → IsSession c cc station before plan h → IsSession c cc station before plan k → h ≡ k

-- so plans and seed have one run of the pipe at most
abbrev pub PipeRunsAreDetermined : Codecs → car.Codecs → Type 0
PipeRunsAreDetermined c cc = AreDetermined c → car_spelled.AreDetermined cc → (site : SitePlan) (plan : CarPlan) (seed : ℕ) (h k : List Happening)
    → IsPipeRun c cc site plan seed h → IsPipeRun c cc site plan seed k → h ≡ k
