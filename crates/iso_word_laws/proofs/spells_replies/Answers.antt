use Rattle.iso_word_laws.proofs.Posts as posts
use Rattle.iso_word_laws.proofs.spells_replies.Goals as goal

pub returns-clause-replies : goal.returns-clause-replies
returns-clause-replies c = posts.spells_replies

pub returns-clause-waiting : goal.returns-clause-waiting
returns-clause-waiting c = posts.spells_waiting

pub returns-clause-typed : goal.returns-clause-typed
returns-clause-typed c = posts.spells_typed

pub returns-clause-typed_waiting : goal.returns-clause-typed_waiting
returns-clause-typed_waiting c = posts.spells_typed_waiting
