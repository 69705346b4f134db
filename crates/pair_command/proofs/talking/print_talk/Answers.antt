use Rattle.std.proofs.Common.{◌≡◌, List, ℕ, ap, subst, ◌∙◌}
use Rattle.std.specs.Prelude.{string_bytes}
use Rattle.command_status.specs.declared.status.Status.TheVariants as status
use Rattle.command_status.specs.Told.{PrintsAs, sink_told}
use Rattle.pair_command.proofs.Leaving.{printed}
use Rattle.pair_command.proofs.talking.print_talk.Goals as goal

pub returns-in-Ok : goal.returns-in-Ok
returns-in-Ok g c =
    let before = sink_told (g.K.Sink.taken c.args.out.now) (g.K.Sink.faults c.args.out.now) in
    let after = sink_told (g.K.Sink.taken c.print_line.new.out) (g.K.Sink.faults c.print_line.new.out) in
    let print = subst (λ (bytes : List ℕ). PrintsAs status.Done bytes c.print_line.result before after) (c.as_bytes.ensures.value ∙ c.as_str.ensures.value) c.print_line.ensures in
    printed _ (string_bytes c.in-Ok.line) c.print_line.result before after c.in-Ok.ensures print
