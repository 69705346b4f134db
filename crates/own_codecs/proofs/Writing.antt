-- The payloads of a site's replies write the watts that they tell, so an audit of its own whole run finds no fault.
use Rattle.charge_world.specs.declared.offer.Dialect.TheVariants as dialect
use Rattle.told_pasts.specs.Spelling.{ToldCodecs}
use Rattle.own_courses.specs.Owning.{TellsOwn}
use Rattle.own_courses.specs.Weighing.{WeighsRightly}
use Rattle.own_courses.specs.Writing.{WritesRightly}
use Rattle.own_courses.proofs.Faultless.{finds_no_fault}
use Rattle.own_codecs.specs.Courses.{HasNoFault}
use Rattle.own_codecs.proofs.IsoWriting as iso
use Rattle.own_codecs.proofs.DinWriting as din
use Rattle.own_codecs.proofs.Telling.{own, tells_own}
use Rattle.own_codecs.proofs.Weighing.{weighs_right}

pub writes_right : WritesRightly own
writes_right plan dialect.Iso reply payload watts told e w tells = iso.writes plan reply payload watts told e w tells
writes_right plan dialect.Din reply payload watts told e w tells = din.writes plan reply payload watts told e w tells

of_codecs : (c : ToldCodecs) → TellsOwn c → WeighsRightly c → WritesRightly c → HasNoFault c
of_codecs c tells weighs writes site past line check run fails = finds_no_fault c site past line check tells weighs writes run fails

pub no_fault : HasNoFault own
no_fault = of_codecs own tells_own weighs_right writes_right
