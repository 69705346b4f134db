use Rattle.std.proofs.Common.{sym, ◌∙◌, ap}
use Rattle.exi_documents.specs.Trees.{Ordinal}
use Rattle.message_parts.specs.Contents.{Of}
use Rattle.session_words.specs.declared.word.Ask.TheVariants as ask
use Rattle.din_parts.specs.Codes.{energy_transfer_mode_ordinal}
use Rattle.word_tables.specs.Tables.{read}
use Rattle.din_tables.specs.Codes.{wanted_mode}
use Rattle.din_words.proofs.Parts.{parameters_req_read}
use Rattle.din_words.proofs.Values.{mode_read}
use Rattle.din_words.proofs.parameter_words.parameters_ask.Goals as goal

pub returns : goal.returns
returns c =
    let r = c.args.request.now in
    let mode = r.ev_requested_energy_transfer_type in
    sym (
    parameters_req_read r ∙ c.car_limits.ensures (read wanted_mode (Of (Ordinal (energy_transfer_mode_ordinal mode))))
    ∙ ap (λ m. ask.ChargeParameters m c.car_limits.result) (mode_read mode ∙ sym c.mode_of.ensures)
    )
