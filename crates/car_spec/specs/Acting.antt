-- Own: what a car keeps behind one act more, and behind all its steps.
use Rattle.std.specs.Prelude.{ℕ, Bool, true, false, List, [], ◌∷◌, Option, Some, None}
use Rattle.std.specs.Option.{option_map}
use Rattle.charge_world.specs.declared.ports.Order.{Order}
use Rattle.session_words.specs.declared.cause.EndCause.{EndCause}
use Rattle.session_words.specs.declared.cause.EndCause.TheVariants.{SendFailed, OrderFailed}
use Rattle.session_words.specs.declared.plan.CarPlan.{CarPlan}
use Rattle.car_rules.specs.Searching.{asked_at, dialed}
use Rattle.station_spec.specs.Acting.{live_ordered}
use Rattle.car_spec.specs.Steps.{Act, Seek, Dial, Give, Say, End, Step, Hears, Loses, Reads, Does}
use Rattle.car_spec.specs.States.{Agenda, Wording, Session, State, nothing, fresh}
use Rattle.car_spec.specs.Deciding.{ending_by, decided}
use Rattle.car_spec.specs.Judging.{read}
use Rattle.car_spec.specs.Hearing.{hearing}

-- what failed ends a car that has no cause yet; behind a cause it changes nothing of that
abbrev pub failing : Option EndCause → EndCause → Bool → Agenda
failing None cause live = ending_by cause live
failing (Some ending) cause live = record nothing { ending = Some ending }

abbrev pub dialing : Bool → State → State
dialing true s = record s { search = dialed s.search; agenda = record s.agenda { port = None } }
dialing false s = record s { search = dialed s.search; agenda = failing s.agenda.ending SendFailed s.live }

abbrev pub giving : Order → Bool → State → State
giving o true s = record s { live = live_ordered o true s.live; agenda = record s.agenda { order = None } }
giving o false s =
    record s { live = live_ordered o false s.live; agenda = failing s.agenda.ending OrderFailed (live_ordered o false s.live) }

-- what was said awaits its reply
abbrev pub awaiting : ℕ → Session → Session
awaiting now session = record session { moments = record session.moments { sent = Some now }; again = None }

abbrev pub saying : Bool → State → State
saying true s = record s { session = option_map (awaiting s.clock) s.session; agenda = record s.agenda { spoken = None } }
saying false s = record s { agenda = failing s.agenda.ending SendFailed s.live }

-- whether a datagram was taken decides nothing
abbrev pub seeking : State → State
seeking s = record s { search = asked_at s.clock s.search; agenda = record s.agenda { seeks = false } }

abbrev pub ended : State → State
ended s = record s { session = None; part = Wording; agenda = nothing; over = true }

-- an act was done, and was taken or failed
abbrev pub acted : Act → Bool → State → State
acted (Seek datagram) taken s = seeking s
acted (Dial port) taken s = dialing taken s
acted (Give o) taken s = giving o taken s
acted (Say spoken bytes) taken s = saying taken s
acted (End cause) taken s = ended s

abbrev pub after : CarPlan → State → Step → State
after plan s (Hears at event) = hearing at event s
after plan s Loses = s
after plan s (Reads word) = read plan (decided plan s) word
after plan s (Does act taken) = acted act taken (decided plan s)

-- what a car keeps of its steps
abbrev pub state : CarPlan → List Step → State
state plan [] = fresh
state plan (step ∷ steps) = after plan (state plan steps) step
