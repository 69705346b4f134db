use Rattle.pair_readings.proofs.Readings as readings
use Rattle.pair_readings.proofs.posts_answer.Goals as goal

pub returns : goal.returns
returns c = readings.posts_answer
