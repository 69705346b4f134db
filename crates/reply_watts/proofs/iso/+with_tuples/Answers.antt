use Rattle.std.proofs.Common.{map, sym, ap, ◌∙◌}
use Rattle.iso_schedules.specs.declared.schedules.SaScheduleTuple.{SaScheduleTuple}
use Rattle.reply_watts.specs.Iso.{entry_in, tuple_in}
use Rattle.reply_watts.proofs.Added.{tuples_added}
use Rattle.reply_watts.proofs.IsoTrees.{entry_inside, tuple_inside, tuple_read}
use Rattle.reply_watts.proofs.iso.+with_tuples.Goals as goal

pub returns-in-len1-up : goal.returns-in-len1-up
returns-in-len1-up t c =
    tuples_added _ c.args.told (λ (t : SaScheduleTuple). tuple_in (tuple_inside t)) c.args.tuples.now c.first-item.result _ c.args.values c.with_tuples-later.result
    c.with_entries.result c.in-len1-up.len_at_least
    (ap (map (λ e. entry_in (entry_inside e))) c.as_slice-entries.ensures.value ∙ sym (tuple_read c.first-item.result)
    ∙ ap (λ (t : SaScheduleTuple). tuple_in (tuple_inside t)) c.first-item.is)
    c.with_tuples-later.ensures c.with_entries.ensures
