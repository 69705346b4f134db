use Rattle.std.proofs.Common.{◌≡◌, ◌∙◌, ℤ, length, ap, arith, rules, sym, subst}
use Rattle.std.specs.Int.{w16}
use Rattle.std.specs.Int.RustNames.{FitsSigned}
use Rattle.std.proofs.lemmas.Int.{to_z-of_z}
use Rattle.std.proofs.lemmas.List.{length-map}
use Rattle.service_messages.specs.Messages.{parameter_of}
use Rattle.service_messages.specs.Held.{IsHeldSet}
use Rattle.service_messages.proofs.Holding.{set_held}
use Rattle.service_messages.proofs.messages.set_of.Goals as goal

pub returns-clause-held : goal.returns-clause-held
returns-clause-held c =
    let fits : FitsSigned w16 c.args.set.now.id = search rules in
    let items = (rw c.as_slice.ensures.value at c.parameters_of.ensures.parameters) in
    let count : length c.parameters_of.result.items ≡ length c.args.set.now.parameters.items = ap length items ∙ length-map c.args.set.now.parameters.items parameter_of in
    subst (λ (id : ℤ). IsHeldSet (record { parameter_set_id = id; parameter = c.parameters_of.result })) (sym (to_z-of_z w16 c.args.set.now.id fits))
    (set_held (record { parameter_set_id = c.args.set.now.id; parameter = c.parameters_of.result }) fits
    (omega (arith, count, c.requires.some)) (omega (arith, count, c.requires.few)) c.parameters_of.ensures.held)
