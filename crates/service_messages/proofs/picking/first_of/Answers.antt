use Rattle.std.proofs.Common.{map, refl, rules, ℤ, subst, sym}
use Rattle.std.specs.Int.{w16}
use Rattle.std.specs.Int.RustNames.{FitsSigned}
use Rattle.std.proofs.lemmas.Int.{to_z-of_z}
use Rattle.service_spec.specs.Services.{said_of, IsPicked}
use Rattle.service_messages.specs.Offers.{said_set_in}
use Rattle.service_spec.proofs.Choosing.{choice_here, choice_more, choice_end}
use Rattle.service_messages.proofs.picking.first_of.Goals as goal

pub returns-then-fits : goal.returns-then-fits
returns-then-fits c =
    let fits : FitsSigned w16 c.set-item.result.parameter_set_id = search rules in
    subst (λ (id : ℤ). IsPicked (map said_of c.args.want.now) (map said_set_in c.args.sets.now) id) (sym (to_z-of_z w16 c.set-item.result.parameter_set_id fits))
    (choice_here (map said_of c.args.want.now) said_set_in c.args.sets.now c.loop-set.set-index c.set-item.result c.set-item.result
    c.loop-set.invariant c.loop-set-test.true c.set-item.is (c.if-fits.ensures.0 refl))

pub loop-set-preserved : goal.loop-set-preserved
loop-set-preserved c =
    choice_more (map said_of c.args.want.now) said_set_in c.args.sets.now c.loop-set.set-index c.set-item.result c.set-item.result
    c.loop-set.invariant c.loop-set-test.true c.set-item.is (λ h. cc (c.if-fits.ensures.1 h))

pub returns : goal.returns
returns c = choice_end (map said_of c.args.want.now) said_set_in c.args.sets.now c.loop-set.set-index c.loop-set.invariant c.loop-set-test.false
