-- The codecs of a foreign trace over all messages of a site: those of the station itself, with the responses of the negotiation and the watts that
-- replies spell.
use Rattle.site_codec_laws.specs.Codecs.{Reads, Encodes}
use Rattle.site_codec_laws.specs.Negotiating.{Negotiates}
use Rattle.told_pasts.specs.Spelling.{ToldCodecs}
use Rattle.faultless_pasts.specs.Faultless.{told_codecs}
use Rattle.reply_watts.specs.Watts.{Watts}
use Rattle.told_codecs.specs.Responses.{Responds}

abbrev pub charge_codecs : ToldCodecs
charge_codecs = told_codecs Negotiates Reads Encodes Responds Watts
