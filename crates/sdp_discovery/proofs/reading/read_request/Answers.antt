use Rattle.std.proofs.Common.{arith}
use Rattle.sdp_discovery.proofs.Spelled.{request_is}
use Rattle.sdp_discovery.proofs.reading.read_request.Goals as goal

pub returns-clause-read : goal.returns-clause-read
returns-clause-read c =
    request_is c.args.datagram.now c.in_ok-tls.tls (λ i. omega (arith, c.type_inv.datagram i)) c.in_ok-check_header.ensures.right c.in_ok-tls.ensures.security c.in_ok-tls.ensures.transport
