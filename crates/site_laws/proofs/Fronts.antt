-- What holds behind the steps of a run holds behind each of them.
use Rattle.std.proofs.Common.{List, [], ◌∷◌, ◌++◌, subst}
use Rattle.session_words.specs.declared.plan.PostPlan.{PostPlan}
use Rattle.post_spec.specs.Codecs.{Codecs}
use Rattle.post_spec.specs.Steps.{Step, Hears, Does}
use Rattle.station_laws.specs.PostRuns.{IsPostRun}
use Rattle.applied_causes.specs.Left.{AgendasAreRead}
use Rattle.read_streams.specs.Streams.{StreamsAreRead}
use Rattle.site_laws.specs.Reading.{ReadsOff}

front_steps : (c : Codecs) (plan : PostPlan) (newer front : List Step) → IsPostRun c plan (newer ++ front) → IsPostRun c plan front
front_steps c plan [] front run = run
front_steps c plan (Hears at event ∷ newer) front run = front_steps c plan newer front run.0
front_steps c plan (Does reading act taken ∷ newer) front run = front_steps c plan newer front run.0

pub reads_off : (c : Codecs) (plan : PostPlan) (steps : List Step) → AgendasAreRead c → StreamsAreRead c → IsPostRun c plan steps → ReadsOff plan steps
reads_off c plan steps agendas streams run newer front is =
    let r = front_steps c plan newer front (subst (λ (xs : List Step). IsPostRun c plan xs) is run) in
    record { left_is = agendas plan front r; stream_is = streams plan front r }
