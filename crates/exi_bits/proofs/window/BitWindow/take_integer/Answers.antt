use Rattle.std.proofs.Common.{◌∙◌, refl, rules, to_z, of_z}
use Rattle.std.proofs.lemmas.Int.{to_z-of_z}
use Rattle.std.specs.Int.{w64, w128}
use Rattle.exi_bits.proofs.Held.{integer_taken}
use Rattle.exi_bits.proofs.Whole.{no_sign, sign_on}
use Rattle.exi_bits.proofs.window.BitWindow.take_integer.Goals as goal

pub returns-clause-taken : goal.returns-clause-taken
returns-clause-taken c =
    let wide = to_z-of_z w128 c.signed.result (search rules) in
    let narrow = to_z-of_z w64 (to_z w128 (of_z w128 c.signed.result)) (search rules) in
    integer_taken c.in_ok-negative.negative c.in_ok-magnitude.magnitude _ _ _ _ (narrow ∙ wide ∙ c.signed.ensures) c.in_ok-negative.ensures.taken c.in_ok-magnitude.ensures.taken

pub returns-in_err-negative-clause-none : goal.returns-in_err-negative-clause-none
returns-in_err-negative-clause-none c none value h = no_sign value 25 _ (c.in_err-negative.ensures.none refl) h

pub returns-in_err-magnitude-clause-none : goal.returns-in_err-magnitude-clause-none
returns-in_err-magnitude-clause-none c none value h =
    c.in_err-magnitude.ensures.none refl _ (sign_on c.in_ok-negative.negative value 24 _ _ c.in_ok-negative.ensures.taken c.in_ok-negative.ensures.held h)
