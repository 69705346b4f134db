use Rattle.service_messages.proofs.Offering.{some_read, payload_offers, payload_picks, payload_picks_none, payload_is_absent}
use Rattle.service_messages.proofs.laws.payloads_offer_catalogues.Goals as goal

pub returns : goal.returns
returns c =
    let read = c.encodings_are_read.ensures in
    let one = c.one_offer.ensures.payloads in
    record {
      read = some_read read;
      offered = λ id service payload m is spelled. payload_offers read one id payload m service is spelled;
      picked = λ id service payload m want set is spelled. payload_picks read one id payload m service want set is spelled;
      unpicked = λ id service payload m want is spelled. payload_picks_none read one id payload m service want is spelled;
      absent = λ id payload m sets is spelled offers. payload_is_absent read one id payload m sets is spelled offers;
    }
