use Rattle.std.proofs.Common.{ℕ, ◌≤◌, List, length, drop, arith, sym, subst}
use Rattle.std.proofs.lemmas.List.{take-append-le, length-take-le}
use Rattle.car_codec_laws.specs.Codecs.{Encodes}
use Rattle.car_codecs.proofs.codecs.CarCodecsCarCodec.encode.Goals as goal

pub write-requires-clause-request : goal.write-requires-clause-request
write-requires-clause-request c = c.asked_requests.ensures.spelled c.args.dialect c.args.request.now c.requires.asked c.law_of_types.ensures

pub write-requires-clause-no_profile : goal.write-requires-clause-no_profile
write-requires-clause-no_profile c = c.asked_requests.ensures.no_profile c.args.dialect c.args.request.now c.requires.asked

pub returns-clause-encoded : goal.returns-clause-encoded
returns-clause-encoded c =
    let front = c.write.new.room in
    let within : c.write.result ≤ length front =
    omega (arith, c.write.ensures.within, c.write.auto.room, length-take-le 1024 c.args.room.now c.requires.room) in
    subst (λ (payload : List ℕ). Encodes c.args.dialect c.args.request.now payload)
    (sym (take-append-le c.write.result front (drop 1024 c.args.room.now) within)) c.write.ensures.encoded
