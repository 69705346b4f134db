use Rattle.std.proofs.Common.{◌≡◌, true, take}
use Rattle.std.specs.List.{list_all}
use Rattle.schedule_answers.specs.Schedules.{is_in_watts}
use Rattle.schedule_answers.proofs.tuples.are_in_watts.Given as goal

abbrev pub invariant-loop-entry : goal.invariant-loop-entry
invariant-loop-entry l = list_all (λ e. is_in_watts e.p_max) (take l.entry-index l.entries) ≡ true
