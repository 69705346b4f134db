use Rattle.served_examples.proofs.WrongPasts as proofs
use Rattle.served_examples.proofs.wrong_pasts_are_refused.Goals as goal

pub returns-clause-failed_reply : goal.returns-clause-failed_reply
returns-clause-failed_reply g c = proofs.failed_reply _

pub returns-clause-no_reply : goal.returns-clause-no_reply
returns-clause-no_reply g c = proofs.no_reply _

pub returns-clause-two_replies : goal.returns-clause-two_replies
returns-clause-two_replies g c = proofs.two_replies _

pub returns-clause-late_close : goal.returns-clause-late_close
returns-clause-late_close g c = proofs.late_close _

pub returns-clause-close_for_another : goal.returns-clause-close_for_another
returns-clause-close_for_another g c = proofs.close_for_another _

pub returns-clause-never_closes : goal.returns-clause-never_closes
returns-clause-never_closes g c = proofs.never_closes _

pub returns-clause-early_reply : goal.returns-clause-early_reply
returns-clause-early_reply g c = proofs.early_reply _

pub returns-clause-late_reply : goal.returns-clause-late_reply
returns-clause-late_reply g c = proofs.late_reply _

pub returns-clause-early_end : goal.returns-clause-early_end
returns-clause-early_end g c = proofs.early_end _
