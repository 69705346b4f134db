-- Own: what is counted at both ends. A count stands still at the end of its type.
use Rattle.std.specs.Prelude.{ℕ, ◌+◌, ◌-◌, ◌^◌, min, length, Some, None}
use Rattle.charge_world.specs.declared.ports.Order.{Order}
use Rattle.charge_world.specs.declared.ports.Order.TheVariants as order
use Rattle.post_spec.specs.Steps.{Act, Give, Send, Answer, End}
use Rattle.car_spec.specs.Codecs.{Judged, Chosen, Told, WrongSide, Refused}
use Rattle.car_spec.specs.Steps as car
use Rattle.site_posts.specs.Places.{capped}
use Rattle.pair_ends.specs.declared.tallies.PostTally.{PostTally}
use Rattle.pair_ends.specs.declared.tallies.CarTally.{CarTally}

-- a count of 32 bits
abbrev pub few : ℕ → ℕ
few n = min n (2 ^ 32 - 1)

-- at the station
abbrev pub post_nothing : PostTally
post_nothing = record { hearings = 0; cause = None; replies = 0; bytes = 0; closed = 0; opened = 0 }

abbrev pub post_begun : PostTally → PostTally
post_begun t = record t { hearings = 1; cause = None }

abbrev pub post_heard : PostTally → PostTally
post_heard t = record t { hearings = capped (t.hearings + 1) }

abbrev pub post_gave : Order → PostTally → PostTally
post_gave order.Close t = record t { closed = capped (t.closed + 1) }
post_gave order.Open t = record t { opened = capped (t.opened + 1) }
post_gave (order.Limits voltage current watts) t = t

abbrev pub post_sent : ℕ → PostTally → PostTally
post_sent n t = record t { replies = capped (t.replies + 1); bytes = capped (t.bytes + n) }

abbrev pub post_ended : ℕ → PostTally → PostTally
post_ended cause t = record t { cause = Some cause }

-- behind an act that was taken
abbrev pub post_did : Act → PostTally → PostTally
post_did (Give order) t = post_gave order t
post_did (Send bytes) t = post_sent (length bytes) t
post_did (Answer bytes) t = t
post_did (End cause) t = post_ended cause t

-- at the car
abbrev pub car_nothing : CarTally
car_nothing = record { hearings = 0; exchanges = 0; cause = None }

abbrev pub car_begun : CarTally
car_begun = record { hearings = 1; exchanges = 0; cause = None }

abbrev pub car_heard : CarTally → CarTally
car_heard t = record t { hearings = capped (t.hearings + 1) }

abbrev pub car_read : Judged → CarTally → CarTally
car_read (Chosen dialect) t = record t { exchanges = few (t.exchanges + 1) }
car_read (Told reply) t = record t { exchanges = few (t.exchanges + 1) }
car_read WrongSide t = t
car_read Refused t = t

abbrev pub car_ended : ℕ → CarTally → CarTally
car_ended cause t = record t { cause = Some cause }

abbrev pub car_did : car.Act → CarTally → CarTally
car_did (car.Seek datagram) t = t
car_did (car.Dial port) t = t
car_did (car.Give order) t = t
car_did (car.Say spoken bytes) t = t
car_did (car.End cause) t = car_ended cause t
