-- What the laws of a car's runs ask of the codecs.
use Rattle.std.proofs.Common.{◌≡◌, ℕ, List}
use Rattle.charge_world.specs.declared.offer.Dialect.{Dialect}
use Rattle.charge_world.specs.declared.offer.Dialect.TheVariants as dialect
use Rattle.session_words.specs.declared.word.Request.{Request}
use Rattle.car_codec_rules.specs.CodecCodecs.{Reads}
use Rattle.site_codec_laws.proofs.Lawful as station
use Rattle.car_spec.specs.Codecs.{codecs}
use Rattle.car_spec.specs.Spelled.{ReadsBack, AreDetermined}
use Rattle.car_codec_rules.specs.Codecs.{Encodes}
use Rattle.car_codec_rules.specs.Offering.{Offers}
use Rattle.car_codec_rules.specs.Responding.{Responds}
use Rattle.car_codec_laws.proofs.IsoPayloads as iso
use Rattle.car_codec_laws.proofs.DinPayloads as din
use Rattle.car_codec_laws.proofs.OneResponse.{one_offer, one_response}

one_encoded : (d : Dialect) (request : Request) (a b : List ℕ) → Encodes d request a → Encodes d request b → a ≡ b
one_encoded dialect.Iso request a b e f = iso.one_encoded request a b e f
one_encoded dialect.Din request a b e f = din.one_encoded request a b e f

pub reads_back : ReadsBack (codecs Offers Responds Reads Encodes)
reads_back dialect.Iso request payload e = iso.encoded_read request payload e
reads_back dialect.Din request payload e = din.encoded_read request payload e

pub are_determined : AreDetermined (codecs Offers Responds Reads Encodes)
are_determined = record { offers = one_offer; responds = one_response; reads = station.are_determined.reads; encodes = one_encoded }
