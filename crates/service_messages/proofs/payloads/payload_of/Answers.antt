use Rattle.std.proofs.Common.{◌≡◌, ℕ, List, length, take, arith, sym, subst}
use Rattle.service_messages.specs.Payloads.{IsPayloadOf}
use Rattle.service_messages.proofs.Bytes.{whole_room}
use Rattle.service_messages.proofs.payloads.payload_of.Goals as goal

pub returns-in-Some-clause-payload : goal.returns-in-Some-clause-payload
returns-in-Some-clause-payload c =
    let count : length c.write_detail.new.room ≡ c.in_ok-room.room.len = omega (arith, c.write_detail.auto.room, c.as_mut_slice.ensures.len) in
    rw c.truncate.ensures.items
    (subst (λ (bytes : List ℕ). IsPayloadOf c.args.id c.args.service.now (take c.in-Some.count bytes))
    (sym (whole_room c.in_ok-room.room.len c.write_detail.new.room c.in_ok-room.room.items count)) c.in-Some.ensures)
