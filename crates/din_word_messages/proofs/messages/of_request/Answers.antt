use Rattle.std.proofs.Common.{◌≡◌, Some, sym, ◌∙◌, ap}
use Rattle.exi_bits.specs.Lent.{items_of}
use Rattle.din_message.specs.Documents.{din_inside}
use Rattle.message_tables.specs.Frame.{session_of}
use Rattle.din_tables.specs.Words.{in_ask}
use Rattle.din_word_messages.proofs.messages.of_request.Goals as goal

pub returns : goal.returns
returns c =
    let lent = c.message_with.result.header.session_id in
    let named : session_of (items_of lent.span) ≡ c.args.request.now.session = ap session_of c.message_with.ensures.session in
    ap (λ s. in_ask s c.args.request.now.ask) (sym named) ∙ c.request_element.ensures lent ∙ ap (λ m. Some (din_inside m)) (sym c.message_with.ensures.element)
