use Rattle.pair_deeds.proofs.Posts as posts
use Rattle.pair_deeds.proofs.posts_stay.Goals as goal

pub returns-clause-hearings : goal.returns-clause-hearings
returns-clause-hearings c = posts.posts_stay_behind_hearings

pub returns-clause-acts : goal.returns-clause-acts
returns-clause-acts c = posts.posts_stay_behind_acts

pub returns-clause-events : goal.returns-clause-events
returns-clause-events c = posts.posts_decide_by_events
