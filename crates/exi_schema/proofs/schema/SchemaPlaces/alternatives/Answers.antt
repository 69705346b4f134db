use Rattle.std.proofs.Common.{◌∙◌, ap, sym, length}
use Rattle.exi_schema.specs.Offers.{offers_of}
use Rattle.exi_schema.specs.Plain.{plain_kinds, plain_particles}
use Rattle.exi_schema.specs.Told.{schema_of}
use Rattle.exi_schema.proofs.Conditions.{complex_in, few_steps}
use Rattle.exi_schema.proofs.TablesTell.{found_declared}
use Rattle.exi_schema.proofs.schema.SchemaPlaces.alternatives.Goals as goal

pub complex_count-requires-clause-few : goal.complex_count-requires-clause-few
complex_count-requires-clause-few c =
    let at = found_declared c.args.self.now.kinds.now c.args.place _ _ c.requires c.in-Complex.is in
    few_steps _ (plain_kinds c.args.self.now.kinds.now) c.in-Complex.attributes.now (plain_particles c.in-Complex.particles.now) c.args.place
    (complex_in (schema_of c.args.self.now) c.args.place.kind _ _ at.0) at.1

pub returns-in-Simple : goal.returns-in-Simple
returns-in-Simple c =
    let at = found_declared c.args.self.now.kinds.now c.args.place _ _ c.requires c.in-Simple.is in ap (λ d. length (offers_of c.args.place d)) (sym at.0)

pub returns-in-Complex : goal.returns-in-Complex
returns-in-Complex c =
    let at = found_declared c.args.self.now.kinds.now c.args.place _ _ c.requires c.in-Complex.is in c.complex_count.ensures ∙ ap (λ d. length (offers_of c.args.place d)) (sym at.0)
