-- Own: the number of each status.
use Rattle.std.specs.Prelude.{ℕ}
use Rattle.command_status.specs.declared.status.Status.{Status}
use Rattle.command_status.specs.declared.status.Status.TheVariants as status

abbrev pub number_of : Status → ℕ
number_of status.Done = 0
number_of status.NoMemory = 1
number_of status.Words = 2
number_of status.Plan = 3
number_of status.Input = 4
number_of status.WireFault = 5
number_of status.SinkFault = 6
number_of status.SourceFault = 7
number_of status.TurnsSpent = 8
number_of status.AuditNo = 9
number_of status.Unreached = 10
number_of status.NoSchedule = 11
number_of status.NoSet = 12
