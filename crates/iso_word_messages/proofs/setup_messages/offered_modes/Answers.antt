use Rattle.std.proofs.Common.{◌≡◌, map, arith, ◌∙◌, ap}
use Rattle.std.proofs.lemmas.Grind.{common_steps}
use Rattle.exi_documents.specs.Trees.{Ordinal}
use Rattle.message_parts.specs.Contents.{Of}
use Rattle.iso_parts.specs.Codes.{energy_transfer_mode_ordinal}
use Rattle.iso_values.specs.Modes.{offered_mode}
use Rattle.iso_word_messages.proofs.Parts.{modes_written}
use Rattle.iso_word_messages.proofs.setup_messages.offered_modes.Goals as goal

pub returns : goal.returns
returns c =
    let own : c.loop-mode.offered.items ≡ map offered_mode c.args.modes.now.items = grind (arith, common_steps) in
    ap (λ ms. map (λ m. Of (Ordinal (energy_transfer_mode_ordinal m))) ms) own ∙ modes_written c.args.modes.now.items
