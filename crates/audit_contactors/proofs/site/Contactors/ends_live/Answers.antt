use Rattle.std.proofs.Common.{sym, ◌∙◌}
use Rattle.audit_contactors.proofs.Sites.{left_told, left_given}
use Rattle.audit_contactors.proofs.site.Contactors.ends_live.Goals as goal

pub returns : goal.returns
returns c earlier e all =
    (λ is. left_told c.args.self.now e earlier all (sym c.any_left.ensures ∙ is), λ f. c.any_left.ensures ∙ left_given c.args.self.now e earlier all f)
