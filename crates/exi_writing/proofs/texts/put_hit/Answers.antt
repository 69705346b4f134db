use Rattle.std.proofs.Common.{refl}
use Rattle.std.proofs.lemmas.Result.{on_err_weaker}
use Rattle.exi_writing.proofs.Numbers.{lacks_code}
use Rattle.exi_writing.proofs.Pens.{always_on_err}
use Rattle.exi_writing.proofs.Strings.{lacks_number, lacks_index}
use Rattle.exi_writing.proofs.texts.put_hit.Goals as goal

pub returns-in_err-put_unsigned-clause-full : goal.returns-in_err-put_unsigned-clause-full
returns-in_err-put_unsigned-clause-full c =
    always_on_err c.from_residual.result _
    (lacks_number c.args.pen.now c.args.announced c.args.count c.args.index _ c.requires c.index_width-width.ensures.least (c.in_err-put_unsigned.ensures.full.0 refl))

pub returns-clause-full : goal.returns-clause-full
returns-clause-full c =
    on_err_weaker c.put_bits.result (lacks_index c.args.pen.now c.put_unsigned.new.self c.args.announced c.args.count c.args.index c.in_ok-put_unsigned.ensures.ok)
    (lacks_code c.put_unsigned.new.self c.args.count c.args.index c.index_width-width.result c.put_bits.result c.requires c.index_width-width.ensures.least c.put_bits.ensures.full.0)
