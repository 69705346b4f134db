use Rattle.std.proofs.Common.{ℤ, map, rules, sym, subst}
use Rattle.std.specs.Int.{w16}
use Rattle.std.specs.Int.RustNames.{FitsSigned}
use Rattle.std.proofs.lemmas.Int.{to_z-of_z}
use Rattle.service_spec.specs.Services.{said_of}
use Rattle.service_messages.specs.Offers.{IsChoice}
use Rattle.payload_commands.proofs.choices.picked_of.Goals as goal

pub returns-in-Some-clause-picked : goal.returns-in-Some-clause-picked
returns-in-Some-clause-picked c =
    let fits : FitsSigned w16 c.in-Some.id = search rules in
    record {
      message = c.read_iso.new.message;
      spelled = c.in-Ok.ensures.read;
      choice = subst (λ (z : ℤ). IsChoice (map said_of c.args.want.now.pairs.items) c.read_iso.new.message z) (sym (to_z-of_z w16 c.in-Some.id fits)) c.in-Some.ensures;
    }

pub returns-in-None-clause-fault : goal.returns-in-None-clause-fault
returns-in-None-clause-fault c = record { message = c.read_iso.new.message; spelled = c.in-Ok.ensures.read; none = c.in-None.ensures }
