use Rattle.payload_commands.proofs.ScheduleFate.{Laws, same_fate}
use Rattle.payload_commands.proofs.schedule_laws.one_fate_of_files.Goals as goal

pub returns : goal.returns
returns c =
    let laws : Laws = record {
      refusal = c.messages_and_refusals.ensures.one_refusal;
      profile = c.one_fate.ensures.profile;
      fault = c.one_fate.ensures.fault;
      apart = c.one_fate.ensures.apart;
      answered = c.one_fate.ensures.answered;
      unanswered = c.one_fate.ensures.unanswered;
    } in
    same_fate laws
