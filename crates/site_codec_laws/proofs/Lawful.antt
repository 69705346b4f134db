-- What the laws of runs ask of the codecs.
use Rattle.std.proofs.Common.{◌≡◌, ℕ, List, Option}
use Rattle.charge_world.specs.declared.offer.Dialect.{Dialect}
use Rattle.charge_world.specs.declared.offer.Dialect.TheVariants as dialect
use Rattle.session_words.specs.declared.word.Reply.{Reply}
use Rattle.session_words.specs.declared.word.Word.{Word}
use Rattle.post_spec.specs.Codecs.{codecs}
use Rattle.post_spec.specs.Spelled.{ReadsBack, AreDetermined, JudgesAll}
use Rattle.site_codec_rules.specs.Codecs.{Reads, Encodes}
use Rattle.site_codec_rules.specs.Negotiating.{Negotiates}
use Rattle.site_codec_rules.proofs.Read.{each_read}
use Rattle.site_codec_laws.proofs.IsoPayloads as iso
use Rattle.site_codec_laws.proofs.DinPayloads as din
use Rattle.site_codec_laws.proofs.OneJudged.{one_judged}
use Rattle.site_codec_laws.proofs.EachJudged.{each_judged}

one_read : (d : Dialect) (payload : List ℕ) (a b : Option Word) → Reads d payload a → Reads d payload b → a ≡ b
one_read dialect.Iso payload a b r s = iso.one_read payload a b r s
one_read dialect.Din payload a b r s = din.one_read payload a b r s

one_encoded : (d : Dialect) (reply : Reply) (a b : List ℕ) → Encodes d reply a → Encodes d reply b → a ≡ b
one_encoded dialect.Iso reply a b e f = iso.one_encoded reply a b e f
one_encoded dialect.Din reply a b e f = din.one_encoded reply a b e f

pub reads_back : ReadsBack (codecs Negotiates Reads Encodes)
reads_back dialect.Iso reply payload e = iso.encoded_read reply payload e
reads_back dialect.Din reply payload e = din.encoded_read reply payload e

pub are_determined : AreDetermined (codecs Negotiates Reads Encodes)
are_determined = record { negotiates = one_judged; reads = one_read; encodes = one_encoded }

pub judges_all : JudgesAll (codecs Negotiates Reads Encodes)
judges_all = record { negotiates = each_judged; reads = each_read }
