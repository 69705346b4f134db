use Rattle.file_commands.proofs.Charged.{is_charged}
use Rattle.file_commands.proofs.script_files.runs_are_charged.Goals as goal

pub returns : goal.returns
returns c = is_charged c.closes_for_ready_vehicles.ensures c.offers_no_more.ensures.up_to c.pauses.ensures
