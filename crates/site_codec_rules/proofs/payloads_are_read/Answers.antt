use Rattle.site_codec_rules.proofs.Read.{each_read}
use Rattle.site_codec_rules.proofs.payloads_are_read.Goals as goal

pub returns : goal.returns
returns c = each_read
