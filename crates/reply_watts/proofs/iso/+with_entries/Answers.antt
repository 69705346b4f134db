use Rattle.reply_watts.proofs.Added.{entries_added}
use Rattle.reply_watts.proofs.iso.+with_entries.Goals as goal

pub returns-in-len1-up : goal.returns-in-len1-up
returns-in-len1-up t c =
    entries_added _ c.args.told _ c.args.entries.now _ _ c.args.values c.with_entries-later.result c.with_p_max.result c.in-len1-up.len_at_least
    c.p_max.ensures.value c.with_entries-later.ensures c.with_p_max.ensures
