-- ISO 15118-2:2014, section 7.10.1: examples of how a car looks for its post.
use Rattle.std.specs.Prelude.{◌≡◌, ℕ, false, List, [], ◌∷◌}
use Rattle.session_words.specs.declared.cause.EndCause.TheVariants as cause
use Rattle.post_spec.specs.Steps.{Datagram}
use Rattle.car_spec.specs.States.{fresh}
use Rattle.car_spec.specs.Until.{until}
use Rattle.car_examples.specs.Playing.{Play, unplayed, hear}
use Rattle.car_examples.specs.Fixtures.{dc_car, seeking_car}
use Rattle.car_examples.specs.Sessions.{Searched, Dialed, Ended, shown, tick}

-- an answer on port 15120, without TLS and with it
abbrev pub answer : ℕ → List ℕ
answer security =
    0x01 ∷ 0xfe ∷ 0x90 ∷ 0x01 ∷ 0 ∷ 0 ∷ 0 ∷ 20 ∷
    0 ∷ 0 ∷ 0 ∷ 0 ∷ 0 ∷ 0 ∷ 0 ∷ 0 ∷ 0 ∷ 0 ∷ 0xff ∷ 0xff ∷ 127 ∷ 0 ∷ 0 ∷ 1 ∷ 0x3b ∷ 0x10 ∷ security ∷ 0 ∷ []

-- the first request goes out at once, the next 250 ms later
abbrev pub AsksAtOnce : Type 0
AsksAtOnce = shown (tick seeking_car 7 unplayed) ≡ Searched ∷ []

abbrev pub WaitsForAnswer : Type 0
WaitsForAnswer = shown (tick seeking_car 256 (tick seeking_car 7 unplayed)) ≡ []

abbrev pub AsksAgain : Type 0
AsksAgain = shown (tick seeking_car 257 (tick seeking_car 7 unplayed)) ≡ Searched ∷ []

-- without discovery nothing is asked
abbrev pub AsksNothing : Type 0
AsksNothing = shown (tick dc_car 7 unplayed) ≡ []

-- the first answer without TLS is dialed, also before anything was asked; from then on nothing is asked
abbrev pub DialsTheAnswer : Type 0
DialsTheAnswer = shown (hear seeking_car 7 (Datagram (answer 0x10)) [] [] unplayed) ≡ Dialed 15120 ∷ []

abbrev pub IgnoresTls : Type 0
IgnoresTls = shown (hear seeking_car 7 (Datagram (answer 0x00)) [] [] unplayed) ≡ Searched ∷ []

abbrev pub IgnoresTheSecond : Type 0
IgnoresTheSecond =
    shown (hear seeking_car 900 (Datagram (answer 0x10)) [] [] (hear seeking_car 7 (Datagram (answer 0x10)) [] [] unplayed)) ≡ []

abbrev pub FailedDialEnds : Type 0
FailedDialEnds = shown (hear seeking_car 7 (Datagram (answer 0x10)) [] (false ∷ []) unplayed) ≡ Dialed 15120 ∷ Ended cause.SendFailed ∷ []

-- so many requests went out, the last of them at 1,000
abbrev pub asked : ℕ → Play
asked n = record unplayed { keeps = record fresh { clock = 1000; search = record { asked = n; last = 1000; dialed = false } } }

abbrev pub AsksFiftyTimes : Type 0
AsksFiftyTimes = shown (tick seeking_car 1250 (asked 49)) ≡ Searched ∷ []

abbrev pub WaitsBehindThem : Type 0
WaitsBehindThem = shown (tick seeking_car 1249 (asked 50)) ≡ []

abbrev pub GivesUp : Type 0
GivesUp = shown (tick seeking_car 1250 (asked 50)) ≡ Ended cause.NoOffer ∷ []

-- an answer that comes then comes too late
abbrev pub GivesUpFirst : Type 0
GivesUpFirst = shown (hear seeking_car 1250 (Datagram (answer 0x10)) [] [] (asked 50)) ≡ Ended cause.NoOffer ∷ []

-- until when it waits
abbrev pub WaitsForNothing : Type 0
WaitsForNothing = until seeking_car unplayed.keeps ≡ 0

abbrev pub WaitsForItsTurn : Type 0
WaitsForItsTurn = until seeking_car (asked 49).keeps ≡ 1250

abbrev pub WaitsForEver : Type 0
WaitsForEver = until dc_car unplayed.keeps ≡ 18446744073709551615
