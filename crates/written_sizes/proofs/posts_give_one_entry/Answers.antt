use Rattle.written_sizes.proofs.Entries as entries
use Rattle.written_sizes.proofs.posts_give_one_entry.Goals as goal

pub returns-clause-replies : goal.returns-clause-replies
returns-clause-replies c = entries.replies_are_brief

pub returns-clause-waiting : goal.returns-clause-waiting
returns-clause-waiting c = entries.waiting_is_brief
