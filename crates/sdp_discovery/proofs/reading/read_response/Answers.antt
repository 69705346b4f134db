use Rattle.std.proofs.Common.{ap, drop, Ok, arith}
use Rattle.std.proofs.lemmas.List.{get_or-take, get_or-drop}
use Rattle.sdp_discovery.proofs.Spelled.{response_is, one_response}
use Rattle.sdp_discovery.proofs.reading.read_response.Goals as goal

pub returns-clause-read : goal.returns-clause-read
returns-clause-read c =
    let bytes = c.args.datagram.now in
    rw c.copy_from_slice.ensures.after (response_is bytes c.in_ok-tls.tls c.read_u16-port.result (λ i. omega (arith, c.type_inv.datagram i)) c.in_ok-check_header.ensures.right c.in_ok-tls.ensures.security c.in_ok-tls.ensures.transport
    (omega (arith, c.read_u16-port.ensures, get_or-take 2 (drop 24 bytes) 0 0, get_or-take 2 (drop 24 bytes) 1 0, get_or-drop 24 bytes 0 0, get_or-drop 24 bytes 1 0)))

pub returns-clause-readable : goal.returns-clause-readable
returns-clause-readable c response is e =
    ap Ok (one_response c.args.datagram.now _ response (c.copy_from_slice.ensures.len, omega arith) is (returns-clause-read c) e)
