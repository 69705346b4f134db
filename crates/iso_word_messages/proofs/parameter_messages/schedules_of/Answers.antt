use Rattle.std.proofs.Common.{◌≡◌, [], map, arith, ◌∙◌, ap}
use Rattle.std.proofs.lemmas.Grind.{common_steps}
use Rattle.exi_documents.specs.Trees.{none}
use Rattle.message_parts.specs.Contents.{Holding, holding, each_trees}
use Rattle.iso_schedules.specs.Schedules.{sa_schedule_tuple_parts}
use Rattle.iso_schema.specs.declared.names.TheConstants.{SA_SCHEDULE_TUPLE}
use Rattle.iso_word_messages.specs.Schedules.{schedule_tuple}
use Rattle.iso_word_messages.proofs.Parts.{tuples_written}
use Rattle.iso_word_messages.proofs.parameter_messages.schedules_of.Goals as goal

pub returns-clause-inside : goal.returns-clause-inside
returns-clause-inside c =
    let own : c.loop-tuple.list.items ≡ map schedule_tuple c.args.tuples.now.items = grind (arith, common_steps) in
    ap (λ is. Holding [] (each_trees SA_SCHEDULE_TUPLE is none))
    (ap (λ ts. map (λ t. holding (sa_schedule_tuple_parts t)) ts) own ∙ tuples_written c.args.tuples.now.items c.requires.1)
