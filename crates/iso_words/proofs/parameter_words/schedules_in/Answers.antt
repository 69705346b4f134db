use Rattle.std.proofs.Common.{◌≡◌, map, arith, sym, ◌∙◌}
use Rattle.std.proofs.lemmas.Grind.{common_steps}
use Rattle.iso_words.proofs.Parts.{tuple_in, schedules_read}
use Rattle.iso_words.proofs.parameter_words.schedules_in.Goals as goal

pub returns : goal.returns
returns c =
    let own : c.loop-tuple.tuples.items ≡ map tuple_in c.args.list.now.sa_schedule_tuple.items = grind (arith, common_steps) in
    own ∙ sym (schedules_read c.args.list.now)
