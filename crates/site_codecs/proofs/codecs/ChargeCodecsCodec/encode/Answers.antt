use Rattle.std.proofs.Common.{ℕ, ◌≤◌, List, length, drop, arith, sym, subst}
use Rattle.std.proofs.lemmas.List.{take-append-le, length-take-le}
use Rattle.site_codec_laws.specs.Codecs.{Encodes}
use Rattle.site_codecs.proofs.codecs.ChargeCodecsCodec.encode.Goals as goal

pub write-requires-clause-brief : goal.write-requires-clause-brief
write-requires-clause-brief c = c.given_replies.ensures.brief c.args.dialect c.args.reply.now c.requires.given

pub returns-clause-encoded : goal.returns-clause-encoded
returns-clause-encoded c =
    let front = c.write.new.room in
    let within : c.write.result ≤ length front =
    omega (arith, c.write.ensures.within, c.write.auto.room, length-take-le 1024 c.args.room.now c.requires.room) in
    subst (λ (payload : List ℕ). Encodes c.args.dialect c.args.reply.now payload)
    (sym (take-append-le c.write.result front (drop 1024 c.args.room.now) within)) c.write.ensures.encoded
