use Rattle.std.proofs.Common.{◌∙◌, ◌<◌, ap, sym, subst, length, arith, Option, Some}
use Rattle.std.proofs.lemmas.List.{length-map}
use Rattle.std.specs.Prelude.{slice_get}
use Rattle.exi_schema.specs.Plain.{PlainKind, plain_particle, plain_particles}
use Rattle.exi_schema.specs.Told.{schema_of}
use Rattle.exi_schema.specs.declared.places.Step.{Step}
use Rattle.exi_schema.specs.Offers.{offers_of, complex_steps}
use Rattle.exi_schema.specs.Steps.{IsStep}
use Rattle.exi_schema.proofs.Conditions.{complex_in}
use Rattle.exi_schema.proofs.TablesTell.{found_declared, profiles_fit}
use Rattle.exi_schema.proofs.Fitting.{each_complex, each_get, simple_fits, first_code}
use Rattle.exi_schema.proofs.schema.SchemaPlaces.advance.Goals as goal

pub complex_step-requires-clause-attributes : goal.complex_step-requires-clause-attributes
complex_step-requires-clause-attributes c =
    let at = found_declared c.args.self.now.kinds.now c.args.place _ _ c.requires.place c.in-Complex.is in
    (complex_in (schema_of c.args.self.now) c.args.place.kind _ _ at.0).few_attributes

pub complex_step-requires-clause-particles : goal.complex_step-requires-clause-particles
complex_step-requires-clause-particles c =
    let at = found_declared c.args.self.now.kinds.now c.args.place _ _ c.requires.place c.in-Complex.is in
    let few = (complex_in (schema_of c.args.self.now) c.args.place.kind _ _ at.0).few_particles in
    omega (arith, few, length-map c.in-Complex.particles.now plain_particle)

pub complex_step-requires-clause-profiles : goal.complex_step-requires-clause-profiles
complex_step-requires-clause-profiles c =
    let at = found_declared c.args.self.now.kinds.now c.args.place _ _ c.requires.place c.in-Complex.is in
    profiles_fit (length (schema_of c.args.self.now).names) (length (schema_of c.args.self.now).kinds) c.in-Complex.particles.now
    (complex_in (schema_of c.args.self.now) c.args.place.kind _ _ at.0).particles_fit

pub returns-in-Simple-clause-taken : goal.returns-in-Simple-clause-taken
returns-in-Simple-clause-taken c =
    let at = found_declared c.args.self.now.kinds.now c.args.place _ _ c.requires.place c.in-Simple.is in
    let P : Option PlainKind → Type 0 = λ d. c.args.code < length (offers_of c.args.place d) in
    ap Some c.simple_step.ensures ∙ first_code _ c.args.code (subst P at.0 c.requires.code) ∙ ap (λ d. slice_get (offers_of c.args.place d) c.args.code) (sym at.0)

pub returns-in-Simple-clause-of_schema : goal.returns-in-Simple-clause-of_schema
returns-in-Simple-clause-of_schema c =
    let at = found_declared c.args.self.now.kinds.now c.args.place _ _ c.requires.place c.in-Simple.is in
    let P : Step → Type 0 = λ step. IsStep (schema_of c.args.self.now).kinds (length (schema_of c.args.self.now).names) c.args.place.kind step in
    subst P (sym c.simple_step.ensures) (simple_fits (schema_of c.args.self.now).kinds (length (schema_of c.args.self.now).names) c.args.place c.in-Simple.field-0 at.0 at.1)

pub returns-in-Complex-clause-taken : goal.returns-in-Complex-clause-taken
returns-in-Complex-clause-taken c =
    let at = found_declared c.args.self.now.kinds.now c.args.place _ _ c.requires.place c.in-Complex.is in
    c.complex_step.ensures ∙ ap (λ d. slice_get (offers_of c.args.place d) c.args.code) (sym at.0)

pub returns-in-Complex-clause-of_schema : goal.returns-in-Complex-clause-of_schema
returns-in-Complex-clause-of_schema c =
    let at = found_declared c.args.self.now.kinds.now c.args.place _ _ c.requires.place c.in-Complex.is in
    each_get (schema_of c.args.self.now).kinds (length (schema_of c.args.self.now).names) c.args.place.kind (complex_steps c.args.place c.in-Complex.attributes.now (plain_particles c.in-Complex.particles.now)) c.args.code c.complex_step.result
    (each_complex (schema_of c.args.self.now).kinds (length (schema_of c.args.self.now).names) c.args.place c.in-Complex.attributes.now (plain_particles c.in-Complex.particles.now) at.0 at.1
    (complex_in (schema_of c.args.self.now) c.args.place.kind _ _ at.0))
    c.complex_step.ensures
