use Rattle.std.proofs.Common.{Some, sym, ◌∙◌, ap}
use Rattle.iso_message.specs.Documents.{iso_tree}
use Rattle.iso_tables.specs.Words.{word_of_tree}
use Rattle.iso_words.proofs.words.element_word.Goals as goal

pub returns-in-Brief : goal.returns-in-Brief
returns-in-Brief c =
    c.brief_word.ensures
    ∙ ap (λ e. word_of_tree (iso_tree (record { header = c.args.header.now; body = record { element = Some e } }))) (sym c.in-Brief.is)
