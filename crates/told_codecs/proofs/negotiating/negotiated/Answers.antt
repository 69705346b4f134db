use Rattle.app_protocol.specs.Messages.{protocols_of}
use Rattle.told_codecs.proofs.Judging.{negotiated}
use Rattle.told_codecs.proofs.negotiating.negotiated.Goals as goal

pub returns : goal.returns
returns c payload spelled =
    negotiated c.args.offers.now payload (protocols_of c.args.request.now) _ _ c.negotiate_among-chosen.ensures spelled
