use Rattle.std.proofs.Common.{ℤ, IsUtf8, rules, sym, subst}
use Rattle.std.specs.Int.{w32}
use Rattle.std.specs.Int.RustNames.{FitsSigned}
use Rattle.std.proofs.lemmas.Int.{to_z-of_z}
use Rattle.service_spec.specs.Wants.{IsValue}
use Rattle.service_messages.specs.Messages.{number_of}
use Rattle.service_messages.specs.Held.{IsHeldValue}
use Rattle.service_messages.proofs.Holding.{truth_held, number_held, text_held}
use Rattle.service_messages.proofs.values.value_of.Goals as goal

pub returns-in-Truth-clause-held : goal.returns-in-Truth-clause-held
returns-in-Truth-clause-held c = truth_held c.in-Truth.truth

pub returns-in-Number-clause-held : goal.returns-in-Number-clause-held
returns-in-Number-clause-held c =
    let fits : FitsSigned w32 c.in-Number.number = subst IsValue c.in-Number.is c.requires in
    subst IsHeldValue (sym c.number_of.ensures)
    (subst (λ (z : ℤ). IsHeldValue (number_of z)) (sym (to_z-of_z w32 c.in-Number.number fits)) (number_held c.in-Number.number fits))

pub returns-in-Text-clause-held : goal.returns-in-Text-clause-held
returns-in-Text-clause-held c =
    let utf8 : IsUtf8 c.in-Text.text.now = search rules in
    text_held c.in-Text.text utf8 (subst IsValue c.in-Text.is c.requires)
