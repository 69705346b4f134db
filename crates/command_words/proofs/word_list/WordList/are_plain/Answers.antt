use Rattle.std.proofs.Common.{◌≡◌, ◌∙◌, sym, ap, map, rules, tests, string_bytes}
use Rattle.std.specs.List.{list_all}
use Rattle.std.proofs.lemmas.Iterator.{YieldsList-from_slice}
use Rattle.std.proofs.lemmas.Iterator.Search.{all_from_yields_List}
use Rattle.std.proofs.lemmas.List.Folds.{list_all-map}
use Rattle.command_words.specs.Command.{is_plain}
use Rattle.command_words.proofs.word_list.WordList.are_plain.Goals as goal

pub returns : goal.returns
returns c =
    let words = c.deref.result.now in
    let each = all_from_yields_List (λ word. is_plain (string_bytes word)) _ _ c.all.result c.all.ensures.ran (YieldsList-from_slice words cc) (λ x b q k. search (rules, tests)) in
    let seen : map string_bytes words ≡ c.args.self.now = search rules in
    each ∙ sym (list_all-map is_plain string_bytes words) ∙ ap (list_all is_plain) seen
