use Rattle.std.proofs.Common.{refl, []}
use Rattle.message_parts.proofs.Chosen.{only_last}
use Rattle.iso_schema.specs.declared.names.TheConstants.{SA_SCHEDULE_LIST}
use Rattle.iso_schema.specs.declared.kinds.TheConstants.{SA_SCHEDULE_LIST_KIND}
use Rattle.iso_schedules.proofs.schedules.SaSchedulesLargeGroup.read_member_into.Goals as goal

pub returns-clause-read : goal.returns-clause-read
returns-clause-read g c = λ F told h.
    c.sa_schedule_list.ensures.read F told h (only_last [] (SA_SCHEDULE_LIST, SA_SCHEDULE_LIST_KIND) _ F.name h.kind h.here h.among tt)
