use Rattle.std.proofs.Common.{◌≡◌, []}
use Rattle.post_spec.specs.Codecs.{codecs}
use Rattle.endpoint.proofs.Carry.{carries_to}
use Rattle.site_core.specs.Ending.{RanAs}
use Rattle.site_laws.specs.Lawful.{IsLawful}
use Rattle.site_laws.proofs.Cut.{ran_cut}
use Rattle.site_laws.proofs.serve.Goals as goal

pub returns-clause-lawful : goal.returns-clause-lawful
returns-clause-lawful g c plan made =
    let cs = codecs g.C.Coded.negotiates g.C.Coded.reads g.C.Coded.encodes in
    carries_to _ _ (λ past. past ≡ []) (RanAs cs plan c.serve.result) (IsLawful cs plan) (λ past r. c.law_of_sites.ensures plan past (ran_cut cs plan c.serve.result past r)) (c.serve.ensures.run plan made)
