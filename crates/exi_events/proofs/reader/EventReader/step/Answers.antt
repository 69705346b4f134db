use Rattle.std.proofs.lemmas.Result.{err_from_is_err_and}
use Rattle.exi_events.proofs.Told.{inside_next}
use Rattle.exi_events.proofs.reader.EventReader.step.Goals as goal

pub returns-in_err-root-in-Before-clause-refused : goal.returns-in_err-root-in-Before-clause-refused
returns-in_err-root-in-Before-clause-refused g c =
    let p = err_from_is_err_and c.from_residual.result c.from_residual.ensures.1 in
    rw (p.1, p.2, c.in-Before.is) c.in_err-root-in-Before.ensures.refused

pub returns-in-Some-clause-next : goal.returns-in-Some-clause-next
returns-in-Some-clause-next g c =
    inside_next (g.P.Places.schema c.args.self.now.places.now) _ _ _ _ _ _ _ _ _ c.in-Inside.is c.take_inside.ensures.same c.take_inside.ensures.ok
