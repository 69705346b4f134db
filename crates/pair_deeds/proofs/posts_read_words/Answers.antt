use Rattle.pair_deeds.proofs.Posts as posts
use Rattle.pair_deeds.proofs.posts_read_words.Goals as goal

pub returns-clause-waits : goal.returns-clause-waits
returns-clause-waits g c = posts.posts_wait

pub returns-clause-reads : goal.returns-clause-reads
returns-clause-reads g c = posts.posts_read_words _

pub returns-clause-before : goal.returns-clause-before
returns-clause-before g c = posts.posts_dont_rest_at_words
