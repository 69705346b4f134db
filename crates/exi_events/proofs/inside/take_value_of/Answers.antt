use Rattle.exi_events.proofs.Datatypes.{datatype_fits}
use Rattle.exi_events.proofs.inside.take_value_of.Goals as goal

pub take_value-requires-clause-datatype : goal.take_value-requires-clause-datatype
take_value-requires-clause-datatype g c = datatype_fits (g.P.Places.schema c.args.places.now) c.args.kind c.in-Some.datatype c.in-Some.ensures
