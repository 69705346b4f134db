use Rattle.std.proofs.Common.{◌≡◌, take}
use Rattle.std.specs.List.{fold}
use Rattle.clap.specs.Simple.{with_subcommand}
use Rattle.clap.specs.Words.{app_of}
use Rattle.command_words.specs.Grammar.{shape}
use Rattle.command_words.proofs.grammar.with_commands.Given as goal

abbrev pub invariant-loop-form : goal.invariant-loop-form
invariant-loop-form l =
    app_of l.program ≡ fold (λ app form. with_subcommand app (shape form.name.now form.values)) (app_of l.fn.program) (take l.form-index l.forms)
