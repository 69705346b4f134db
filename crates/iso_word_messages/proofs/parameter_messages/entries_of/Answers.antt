use Rattle.std.proofs.Common.{◌≡◌, ◌+◌, ◌++◌, [], ◌∷◌, map, length, arith, ap, sym, ◌∙◌}
use Rattle.std.proofs.lemmas.List.FromFn.{map-range_with_len_more, length-map-range_with_len}
use Rattle.std.specs.List.{range_with_len}
use Rattle.iso_word_messages.specs.Schedules.{entry_at}
use Rattle.iso_word_messages.proofs.parameter_messages.entries_of.Goals as goal

pub loop-start-preserved : goal.loop-start-preserved
loop-start-preserved c =
    let more : map (entry_at c.args.power) (range_with_len 0 (c.loop-start.start + 1))
    ≡ map (entry_at c.args.power) (range_with_len 0 c.loop-start.start) ++ entry_at c.args.power c.loop-start.start ∷ []
    = map-range_with_len_more (entry_at c.args.power) 0 c.loop-start.start c.loop-start.start (omega arith) in
    let items : c.push.new.self.items ≡ map (entry_at c.args.power) (range_with_len 0 (c.loop-start.start + 1)) =
    c.push.ensures.items ∙ ap (λ e. c.loop-start.entries.items ++ e ∷ []) c.entry_at.ensures
    ∙ ap (λ xs. xs ++ entry_at c.args.power c.loop-start.start ∷ []) c.loop-start.invariant.0 ∙ sym more in
    (items, ap length items ∙ length-map-range_with_len (entry_at c.args.power) 0 (c.loop-start.start + 1))
