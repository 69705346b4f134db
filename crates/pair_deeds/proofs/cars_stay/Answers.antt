use Rattle.pair_deeds.proofs.Cars as cars
use Rattle.pair_deeds.proofs.cars_stay.Goals as goal

pub returns-clause-acts : goal.returns-clause-acts
returns-clause-acts c = cars.cars_stay_behind_acts

pub returns-clause-hearings : goal.returns-clause-hearings
returns-clause-hearings c = cars.cars_stay_behind_hearings

pub returns-clause-words : goal.returns-clause-words
returns-clause-words c = cars.cars_stay_at_words

pub returns-clause-again : goal.returns-clause-again
returns-clause-again c = cars.cars_ask_once_more
