use Rattle.payload_commands.proofs.PickFate.{one_fate}
use Rattle.payload_commands.proofs.pick_laws.one_fate_of_wants.Goals as goal

pub returns : goal.returns
returns c =
    one_fate (record {
      refusal = c.messages_and_refusals.ensures.one_refusal;
      read = c.messages_and_refusals.ensures.apart;
      offer = c.one_offer.ensures.payloads;
      choice = c.one_choice.ensures.one;
      apart = c.one_choice.ensures.apart;
      want = c.one_want.ensures;
    })
