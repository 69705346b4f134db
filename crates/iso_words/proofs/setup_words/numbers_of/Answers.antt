use Rattle.std.proofs.Common.{◌≡◌, map, arith, sym, ◌∙◌}
use Rattle.std.proofs.lemmas.Grind.{common_steps}
use Rattle.iso_words.proofs.Parts.{service_id, services_read}
use Rattle.iso_words.proofs.setup_words.numbers_of.Goals as goal

pub returns : goal.returns
returns c =
    let own : c.loop-service.numbers.items ≡ map service_id c.args.services.now.selected_service.items = grind (arith, common_steps) in
    own ∙ sym (services_read c.args.services.now)
