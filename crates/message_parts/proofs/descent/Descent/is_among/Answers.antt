use Rattle.std.proofs.Common.{ap, sym, ◌∙◌, Option, ℕ}
use Rattle.message_parts.specs.Particles.{is_child_among}
use Rattle.message_parts.proofs.descent.Descent.is_among.Goals as goal

pub returns-in-Some : goal.returns-in-Some
returns-in-Some g c = c.is_one_of.ensures ∙ ap (λ (o : Option ℕ). is_child_among c.args.names.now o) (sym c.in-Some.is)
