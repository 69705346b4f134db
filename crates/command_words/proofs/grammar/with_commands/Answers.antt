use Rattle.std.proofs.Common.{◌∙◌, sym, ap₂}
use Rattle.std.proofs.lemmas.List.Sums.{fold_more}
use Rattle.clap.specs.Simple.{with_subcommand}
use Rattle.command_words.proofs.grammar.with_commands.Goals as goal

pub loop-form-preserved : goal.loop-form-preserved
loop-form-preserved c =
    let step = c.in_ok-program.ensures.shape c.in_ok-command.ensures.local in
    step ∙ ap₂ with_subcommand c.loop-form.invariant c.in_ok-command.ensures.shape ∙ sym (fold_more _ _ _ c.loop-form.form-index _ c.loop-form-test.true)
