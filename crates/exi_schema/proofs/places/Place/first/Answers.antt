use Rattle.exi_schema.proofs.Fitting.{first_place}
use Rattle.exi_schema.proofs.places.Place.first.Goals as goal

pub returns-clause-of_schema : goal.returns-clause-of_schema
returns-clause-of_schema c = λ s less. first_place s c.args.kind less
