use Rattle.reply_watts.proofs.DinTrees.{added_of}
use Rattle.reply_watts.proofs.din.with_list.Goals as goal

pub returns : goal.returns
returns c =
    added_of c.args.spoken c.args.told c.args.list.now c.as_slice.result.now c.args.values c.with_tuples.result c.as_slice.ensures.value c.with_tuples.ensures
