use Rattle.std.proofs.Common.{sym, arith}
use Rattle.std.proofs.lemmas.List.{length-take-le}
use Rattle.exi_spec.specs.Bits.{bits_of}
use Rattle.exi_spec.proofs.BitLaws.{length-bits_of}
use Rattle.exi_events.proofs.writer.EventWriter.bit_count.Goals as goal

pub returns : goal.returns
returns g c =
    let w = c.args.self.now in
    sym (length-take-le w.bits (bits_of w.room.now) (omega (arith, w.within, length-bits_of w.room.now)))
