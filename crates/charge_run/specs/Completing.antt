-- Own: how a run of the program ends where no call on the outside failed.
use Rattle.command_status.specs.declared.status.Status.{Status}
use Rattle.command_status.specs.declared.status.Status.TheVariants as status

-- no status of a failed call: the job was done, memory ran out, or the words and what the files and the input say decided
abbrev pub IsUnfailed : Status → Type 0
IsUnfailed status.WireFault = ⊥
IsUnfailed status.SinkFault = ⊥
IsUnfailed status.SourceFault = ⊥
IsUnfailed _ = Unit {0}
