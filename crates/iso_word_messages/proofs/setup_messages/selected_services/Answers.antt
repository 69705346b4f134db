use Rattle.std.proofs.Common.{◌≡◌, map, arith, ◌∙◌, ap}
use Rattle.std.proofs.lemmas.Grind.{common_steps}
use Rattle.message_parts.specs.Contents.{holding}
use Rattle.iso_setup.specs.Selection.{selected_service_parts}
use Rattle.iso_word_messages.proofs.Parts.{selected_service, services_written}
use Rattle.iso_word_messages.proofs.setup_messages.selected_services.Goals as goal

pub returns : goal.returns
returns c =
    let own : c.loop-service.selected.items ≡ map selected_service c.args.services.now.items = grind (arith, common_steps) in
    ap (λ ss. map (λ s. holding (selected_service_parts s)) ss) own ∙ services_written c.args.services.now.items
