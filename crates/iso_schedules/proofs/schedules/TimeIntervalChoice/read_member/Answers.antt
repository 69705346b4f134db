use Rattle.std.proofs.Common.{refl, []}
use Rattle.message_parts.proofs.Chosen.{only_last, mapped}
use Rattle.iso_schedules.specs.declared.schedules.TimeInterval.TheVariants as time_interval
use Rattle.iso_schema.specs.declared.names.TheConstants.{RELATIVE_TIME_INTERVAL}
use Rattle.iso_schema.specs.declared.kinds.TheConstants.{RELATIVE_TIME_INTERVAL_KIND}
use Rattle.iso_schedules.proofs.schedules.TimeIntervalChoice.read_member.Goals as goal

pub returns-clause-read : goal.returns-clause-read
returns-clause-read g c = λ F told h.
    mapped time_interval.Relative _ _ _ _ c.map.ensures.cases (c.member.ensures.read F _ _ _ told h (only_last [] (RELATIVE_TIME_INTERVAL, RELATIVE_TIME_INTERVAL_KIND) _ F.name h.kind h.here h.among tt) refl refl) (λ _ p. p)
