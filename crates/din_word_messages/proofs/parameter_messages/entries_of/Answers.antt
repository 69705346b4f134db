use Rattle.std.proofs.Common.{ℤ, ◌+◌, ◌++◌, [], ◌∷◌, length, arith, to_z, of_z, ap, sym, ◌∙◌}
use Rattle.std.proofs.lemmas.List.FromFn.{map-range_with_len_more, length-map-range_with_len}
use mir.Syntax.{w16}
use Rattle.din_word_messages.specs.Schedules.{entry_at}
use Rattle.din_word_messages.proofs.parameter_messages.entries_of.Goals as goal

pub loop-start-preserved : goal.loop-start-preserved
loop-start-preserved c =
    let power : ℤ = to_z w16 (of_z w16 c.args.power) in
    let more = map-range_with_len_more (entry_at power) 0 c.loop-start.start c.loop-start.start (omega arith) in
    let items = c.push.ensures.items ∙ ap (λ e. c.loop-start.entries.items ++ e ∷ []) c.entry_at.ensures
    ∙ ap (λ xs. xs ++ entry_at power c.loop-start.start ∷ []) c.loop-start.invariant.0 ∙ sym more in
    (items, ap length items ∙ length-map-range_with_len (entry_at power) 0 (c.loop-start.start + 1))
