use Rattle.std.proofs.Common.{◌∙◌, refl, arith}
use Rattle.sdp_discovery.proofs.Spelled.{response_written}
use Rattle.sdp_discovery.proofs.writing.write_response.Goals as goal

pub returns : goal.returns
returns c =
    response_written c.put_header.new.frame c.copy_from_slice.new.self c.write_u16.new.buf _ c.args.response.now.port c.security_byte.result c.put_header.ensures (omega arith) c.write_u16.ensures
    ∙ rw (c.copy_from_slice.ensures.after, c.security_byte.ensures) refl
