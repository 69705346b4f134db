-- The payloads of a site's replies write no more watts than its words tell.
use Rattle.charge_world.specs.declared.offer.Dialect.TheVariants as dialect
use Rattle.own_courses.specs.Weighing.{WeighsRightly}
use Rattle.own_codecs.proofs.IsoWeights as iso
use Rattle.own_codecs.proofs.DinWeights as din
use Rattle.own_codecs.proofs.Telling.{own}

pub weighs_right : WeighsRightly own
weighs_right plan dialect.Iso reply payload watts e w single = iso.weighs plan reply payload watts e w single
weighs_right plan dialect.Din reply payload watts e w single = din.weighs plan reply payload watts e w single
