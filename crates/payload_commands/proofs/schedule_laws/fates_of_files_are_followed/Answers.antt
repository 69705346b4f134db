use Rattle.payload_commands.proofs.ScheduleFollowing.{followed}
use Rattle.payload_commands.proofs.schedule_laws.fates_of_files_are_followed.Goals as goal

pub returns : goal.returns
returns c = followed c.one_fate_of_files.ensures
