use Rattle.schedules.specs.Plans.{ArePlans, AreBest}
use Rattle.schedules.proofs.rounds.best_of.Given as goal

abbrev pub invariant-loop-most : goal.invariant-loop-most
invariant-loop-most l = record {
  plans : ArePlans l.departure l.limits l.plans;
  best : AreBest l.departure l._most 0 l.limits l.plans;
}
