-- Own: whole sessions over the pipe: what they come to.
use Rattle.std.specs.Prelude.{◌≡◌, ℕ, true, Bool, List, [], ◌∷◌}
use Rattle.charge_world.specs.declared.offer.Dialect.TheVariants as dialect
use Rattle.session_words.specs.declared.plan.CarPlan.{CarPlan}
use Rattle.session_words.specs.declared.plan.PostPlan.{PostPlan}
use Rattle.station_examples.specs.Fixtures.{dc_post, ac_post}
use Rattle.car_examples.specs.Fixtures.{dc_car, ac_car}
use Rattle.pipe_spec.specs.Histories.{Happening, moment}
use Rattle.pipe_spec.specs.Turns.{Station, is_over}
use Rattle.pipe_spec.specs.Counts.{exchanges, station_cause_number, car_cause_number, counts}
use Rattle.pipe_spec.specs.Matched.{EndsWell}
use Rattle.pipe_examples.specs.Playing.{begins, play}

abbrev pub station_of : PostPlan → Station
station_of post = record { limit = 150000; turns = 1000000000; post = post; seed = 1 }

-- how a session ended
pub record Outcome : Type 0 where
  pub over : Bool
  pub exchanges : ℕ
  pub station_cause : ℕ
  pub car_cause : ℕ
  pub moment : ℕ
  pub closed : ℕ
  pub opened : ℕ

abbrev pub outcome_of : Station → List Happening → Outcome
outcome_of st h = record {
  over = is_over st h;
  exchanges = exchanges h;
  station_cause = station_cause_number h;
  car_cause = car_cause_number h;
  moment = moment h;
  closed = (counts h).closed;
  opened = (counts h).opened;
}

-- at most so much happens
abbrev pub history : PostPlan → CarPlan → ℕ → List Happening
history post plan most = (play (station_of post) plan most (begins (station_of post) plan)).history

abbrev pub outcome : PostPlan → CarPlan → ℕ → Outcome
outcome post plan most = outcome_of (station_of post) (history post plan most)

-- a car that can't go as high as the post has to
abbrev pub TooLow : Type 0
TooLow = outcome dc_post (record dc_car { max_voltage = 1000 }) 200
    ≡ record { over = true; exchanges = 6; station_cause = 6; car_cause = 22; moment = 0; closed = 0; opened = 0 }

-- no dialect in common
abbrev pub NoDialect : Type 0
NoDialect = outcome (record dc_post { dialects = record { items = dialect.Din ∷ [] } }) (record dc_car { dialects = record { items = dialect.Iso ∷ [] } }) 100
    ≡ record { over = true; exchanges = 1; station_cause = 5; car_cause = 5; moment = 0; closed = 0; opened = 0 }

-- direct current in ISO, with two charging replies
abbrev pub DirectCurrent : Type 0
DirectCurrent = outcome dc_post dc_car 600
    ≡ record { over = true; exchanges = 21; station_cause = 1; car_cause = 1; moment = 850; closed = 1; opened = 1 }

abbrev pub AlternatingCurrent : Type 0
AlternatingCurrent = outcome ac_post ac_car 300
    ≡ record { over = true; exchanges = 11; station_cause = 1; car_cause = 1; moment = 150; closed = 1; opened = 1 }

-- the car and the station without a file, with 200 charging replies
abbrev pub usual : CarPlan
usual = record dc_car { cycles = 200 }

abbrev pub UsualOutcome : PostPlan → CarPlan → Type 0
UsualOutcome post plan = outcome post plan 6000
    ≡ record { over = true; exchanges = 219; station_cause = 1; car_cause = 1; moment = 20650; closed = 1; opened = 1 }

abbrev pub Usual : Type 0
Usual = UsualOutcome dc_post usual

-- in DIN alone
abbrev pub UsualInDin : Type 0
UsualInDin = UsualOutcome (record dc_post { dialects = record { items = dialect.Din ∷ [] } }) (record usual { dialects = record { items = dialect.Din ∷ [] } })

-- what is promised of plans that match
abbrev pub UsualEndsWell : Type 0
UsualEndsWell = EndsWell usual (history dc_post usual 6000)
