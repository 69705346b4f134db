use Rattle.generated_runs.proofs.Plans as plans
use Rattle.generated_runs.proofs.Generated as generated
use Rattle.generated_runs.proofs.generated_runs_are_determined.Goals as goal

pub returns-clause-cars : goal.returns-clause-cars
returns-clause-cars g c = plans.fixed_cars_are_one

pub returns-clause-posts : goal.returns-clause-posts
returns-clause-posts g c = plans.fixed_posts_are_one

pub returns-clause-runs : goal.returns-clause-runs
returns-clause-runs g c = generated.generated_runs_are_determined _ _
