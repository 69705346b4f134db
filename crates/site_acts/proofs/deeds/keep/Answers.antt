use Rattle.site_acts.proofs.Next.{kept_answer, kept_send}
use Rattle.site_acts.proofs.deeds.keep.Goals as goal

pub returns-in-Answer : goal.returns-in-Answer
returns-in-Answer c room = kept_answer room _ _ _ _ _ c.in-Answer.is c.answered.ensures

pub returns-in-Send : goal.returns-in-Send
returns-in-Send c room = kept_send room _ _ _ _ _ c.in-Send.is c.sent.ensures
