use Rattle.std.proofs.Common.{ℕ, ◌≤◌, List, length, drop, arith, sym, subst}
use Rattle.std.proofs.lemmas.List.{take-append-le, length-take-le}
use Rattle.car_codec_laws.specs.Offering.{Offers}
use Rattle.car_codecs.proofs.codecs.CarCodecsCarCodec.offer.Goals as goal

pub returns-clause-encoded : goal.returns-clause-encoded
returns-clause-encoded c =
    let front = c.write_offer.new.room in
    let within : c.write_offer.result ≤ length front =
    omega (arith, c.write_offer.ensures.within, c.write_offer.auto.room, length-take-le 1024 c.args.room.now c.requires.room) in
    subst (λ (payload : List ℕ). Offers c.args.dialects.now payload)
    (sym (take-append-le c.write_offer.result front (drop 1024 c.args.room.now) within)) c.write_offer.ensures.encoded
