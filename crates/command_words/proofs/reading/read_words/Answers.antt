use Rattle.std.proofs.Common.{◌≡◌, true, List, ℕ, Result, rules, sym, subst}
use Rattle.std.specs.Prelude.{IfOk, IfErr}
use Rattle.std.specs.List.{list_all}
use Rattle.clap.specs.Words.{subcommand_rows_of}
use Rattle.command_words.specs.Command.{HasWordsFault, IsCommand, is_plain}
use Rattle.command_words.specs.Grammar.{IsMatched}
use Rattle.command_words.specs.declared.reading.Command.{Command}
use Rattle.command_words.specs.declared.reading.WordsFault.{WordsFault}
use Rattle.command_words.proofs.Told.{answered}
use Rattle.command_words.proofs.reading.read_words.Goals as goal

pub returns-in-Ok-clause-command : goal.returns-in-Ok-clause-command
returns-in-Ok-clause-command c =
    let plain : list_all is_plain c.args.words.now ≡ true = search rules in
    let matched = subst (λ (words : List (List ℕ)). IsMatched words (subcommand_rows_of c.in-Ok.matches)) c.as_slice.ensures c.in-Ok.ensures.matched in
    subst (λ (r : Result Command WordsFault). IfOk r (IsCommand c.args.words.now)) (sym c.ok_or.ensures.value)
    (answered c.args.words.now _ c.command_of.result plain matched c.command_of.ensures).0

pub returns-in-Ok-clause-fault : goal.returns-in-Ok-clause-fault
returns-in-Ok-clause-fault c =
    let plain : list_all is_plain c.args.words.now ≡ true = search rules in
    let matched = subst (λ (words : List (List ℕ)). IsMatched words (subcommand_rows_of c.in-Ok.matches)) c.as_slice.ensures c.in-Ok.ensures.matched in
    subst (λ (r : Result Command WordsFault). IfErr r (HasWordsFault c.args.words.now)) (sym c.ok_or.ensures.value)
    (answered c.args.words.now _ c.command_of.result plain matched c.command_of.ensures).1
