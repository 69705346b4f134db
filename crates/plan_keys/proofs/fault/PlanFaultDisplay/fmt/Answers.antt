use Rattle.plan_keys.proofs.fault.PlanFaultDisplay.fmt.Goals as goal

pub returns-in-Missing-clause-writes : goal.returns-in-Missing-clause-writes
returns-in-Missing-clause-writes g c = rw c.in-Missing.is (rw c.wanted.ensures at c.write.ensures.writes)
