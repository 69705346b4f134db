use Rattle.std.proofs.Common.{sym, ap, ◌∙◌}
use Rattle.app_protocol.proofs.Named.{iso_chars, din_chars}
use Rattle.app_protocol.specs.Negotiation.{namespace_of}
use Rattle.car_codecs.proofs.negotiating.namespace.Goals as goal

pub returns-in-Iso : goal.returns-in-Iso
returns-in-Iso c = iso_chars ∙ ap namespace_of (sym c.in-Iso.is)

pub returns-in-Din : goal.returns-in-Din
returns-in-Din c = din_chars ∙ ap namespace_of (sym c.in-Din.is)
