use Rattle.std.proofs.Common.{◌∷◌, sym, ◌∙◌}
use Rattle.told_pasts.specs.Steps.{Said, Sends}
use Rattle.audit_mandates.specs.Values.{StayOf}
use Rattle.audit_posts.proofs.Posts.{told_by_saying}
use Rattle.audit_posts.proofs.values.mandate_behind.Goals as goal

pub returns-in-Response : goal.returns-in-Response
returns-in-Response c steps reading bytes taken said says judged h =
    told_by_saying (λ (s : Said). StayOf c.args.mandate.ac (Sends reading bytes taken s ∷ steps) c.sent_response.result) _ said (sym c.in-Response.is ∙ says) (c.sent_response.ensures steps reading bytes taken judged h)

pub returns-in-Replied : goal.returns-in-Replied
returns-in-Replied c steps reading bytes taken said says judged h =
    told_by_saying (λ (s : Said). StayOf c.args.mandate.ac (Sends reading bytes taken s ∷ steps) c.sent_reply.result) _ said (sym c.in-Replied.is ∙ says) (λ watts. c.sent_reply.ensures steps reading bytes taken watts judged h)

pub returns-in-Other : goal.returns-in-Other
returns-in-Other c steps reading bytes taken said says judged h =
    told_by_saying (λ (s : Said). StayOf c.args.mandate.ac (Sends reading bytes taken s ∷ steps) c.sent_other.result) _ said (sym c.in-Other.is ∙ says) (c.sent_other.ensures steps reading bytes taken judged h)

pub returns-in-Unasked : goal.returns-in-Unasked
returns-in-Unasked c steps reading bytes taken said says judged h =
    told_by_saying (λ (s : Said). StayOf c.args.mandate.ac (Sends reading bytes taken s ∷ steps) c.sent_unasked.result) _ said (sym c.in-Unasked.is ∙ says) (c.sent_unasked.ensures steps reading bytes taken judged h)
