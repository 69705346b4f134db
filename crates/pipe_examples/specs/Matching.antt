-- Own: plans that match, and plans that don't.
use Rattle.session_words.specs.declared.plan.Stop.TheVariants.{Pause}
use Rattle.station_examples.specs.Fixtures.{dc_post, ac_post}
use Rattle.car_examples.specs.Fixtures.{ac_car}
use Rattle.pipe_spec.specs.Matched.{IsMatched}
use Rattle.pipe_examples.specs.Whole.{usual}

abbrev pub UsualMatches : Type 0
UsualMatches = IsMatched dc_post usual

abbrev pub AlternatingMatches : Type 0
AlternatingMatches = IsMatched ac_post ac_car

-- the car can't go as high as the post has to
abbrev pub TooLowDoesNot : Type 0
TooLowDoesNot = IsMatched dc_post (record usual { max_voltage = 1000 }) → ⊥

abbrev pub OtherModeDoesNot : Type 0
OtherModeDoesNot = IsMatched dc_post ac_car → ⊥

-- six steps of 1,000 ms are within 7,000 ms, seven aren't
abbrev pub SlowMatches : Type 0
SlowMatches = IsMatched dc_post (record usual { target_voltage = 6200; pace = 1000 })

abbrev pub TooSlowDoesNot : Type 0
TooSlowDoesNot = IsMatched dc_post (record usual { target_voltage = 6201; pace = 991 }) → ⊥

abbrev pub PauseDoesNot : Type 0
PauseDoesNot = IsMatched dc_post (record usual { stop = Pause }) → ⊥
