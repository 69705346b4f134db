-- ISO 15118-2:2014, sections 8.3 and 8.4.3: examples of how a session is set up.
use Rattle.std.specs.Prelude.{◌≡◌, ℕ, false, List, [], ◌∷◌, Some, None}
use Rattle.charge_world.specs.declared.heard.PlantEvent.TheVariants as plant
use Rattle.charge_world.specs.declared.offer.Dialect.TheVariants as dialect
use Rattle.session_words.specs.declared.cause.EndCause.TheVariants as cause
use Rattle.session_words.specs.declared.code.Code.TheVariants as code
use Rattle.session_words.specs.declared.code.Processing.TheVariants as processing
use Rattle.session_words.specs.declared.phase.Phase.TheVariants as row
use Rattle.session_words.specs.declared.word.Ask.TheVariants as ask
use Rattle.session_words.specs.declared.word.Tell.TheVariants as tell
use Rattle.post_spec.specs.Codecs.{Negotiated, WrongSide, Refused}
use Rattle.post_spec.specs.Steps.{Came, Bytes, Gone}
use Rattle.station_spec.specs.States.{Say, Finish, Response}
use Rattle.station_examples.specs.Playing.{Play, unplayed, hear}
use Rattle.station_examples.specs.Fixtures.{dc_post, token, unnamed, word, asks_as, asks, asks_shown, replies, request, tells, tick}
use Rattle.station_examples.specs.Sessions.{near, session_in, open_in}
use Rattle.station_examples.specs.Whole.{shown_of, Coded, Ended}
use Rattle.station_examples.specs.Words.{ac_parameters, dc_parameters}

-- the negotiation's response, SchemaID 1
abbrev pub response : List ℕ
response = 128 ∷ 64 ∷ 0 ∷ 64 ∷ []

abbrev pub connected : Play
connected = hear dc_post 0 (Came token) [] [] unplayed

-- the bytes of a frame come one after the other: it is answered once, at the last of them
abbrev pub front : Play
front =
    hear dc_post 2 (Bytes (254 ∷ 128 ∷ 1 ∷ 0 ∷ 0 ∷ 0 ∷ [])) [] [] (tick dc_post 1 (hear dc_post 1 (Bytes (1 ∷ [])) [] [] connected))

abbrev pub PiecesWait : Type 0
PiecesWait = front.did ≡ []

abbrev pub PiecesGiveOneReply : Type 0
PiecesGiveOneReply =
    (hear dc_post 3 (Bytes (0 ∷ [])) (word (Negotiated (Some dialect.Din) response) ∷ []) [] front).did
    ≡ Say (Response response) ∷ []

-- where no protocol matches, the session ends behind the response
abbrev pub EndsWithoutMatch : Type 0
EndsWithoutMatch =
    (request dc_post 0 (word (Negotiated None response)) connected).did
    ≡ Say (Response response) ∷ Finish cause.NoNegotiation ∷ []

-- a fault of a frame, a payload that is no message, and a reply from the car
abbrev pub EndsByBadFrame : Type 0
EndsByBadFrame = (hear dc_post 0 (Bytes (2 ∷ 254 ∷ [])) [] [] connected).did ≡ Finish cause.BadFrame ∷ []

abbrev pub EndsByRefusal : Type 0
EndsByRefusal = (request dc_post 0 (word Refused) connected).did ≡ Finish cause.Refused ∷ []

abbrev pub EndsByReply : Type 0
EndsByReply = (request dc_post 10000 (word WrongSide) (open_in row.SetUp)).did ≡ Finish cause.WrongSide ∷ []

-- an authorization before its time
abbrev pub EarlyAuthorizationFails : Type 0
EarlyAuthorizationFails = (request dc_post 10000 (asks ask.Authorization) (open_in row.SetUp)).did
    ≡ replies code.FailedSequenceError (tell.Authorization processing.Finished) ∷ Finish cause.FailedReply ∷ []

-- the name of another session is judged before the row
abbrev pub NameIsJudgedFirst : Type 0
NameIsJudgedFirst = (request dc_post 10000 (asks_as unnamed ask.Authorization) (open_in row.SetUp)).did
    ≡ replies code.FailedUnknownSession (tell.Authorization processing.Finished) ∷ Finish cause.FailedReply ∷ []

-- SessionStop ends a session that is set up, where it names it
abbrev pub StopEnds : Type 0
StopEnds = (request dc_post 10000 (asks (ask.SessionStop false)) (open_in row.SetUp)).did
    ≡ replies code.Ok tell.SessionStop ∷ Finish cause.Stopped ∷ []

abbrev pub StopOfAnotherFails : Type 0
StopOfAnotherFails = (request dc_post 10000 (asks_as unnamed (ask.SessionStop false)) (open_in row.SetUp)).did
    ≡ replies code.FailedUnknownSession tell.SessionStop ∷ Finish cause.FailedReply ∷ []

-- where charging isn't free, an authorization waits until somebody paid
abbrev pub paying : Play → Play
paying = request (record dc_post { free = false }) 10000 (asks ask.Authorization)

abbrev pub WaitsForPayment : Type 0
WaitsForPayment = (paying (open_in row.Selected)).did
    ≡ replies code.Ok (tell.Authorization processing.OngoingWaitingForCustomerInteraction) ∷ []

abbrev pub PaymentFinishes : Type 0
PaymentFinishes = (paying (tells dc_post 10000 plant.Paid (paying (open_in row.Selected)))).did
    ≡ replies code.Ok (tell.Authorization processing.Finished) ∷ []

-- what was paid is for one session: behind its end nobody has paid
abbrev pub PaymentIsUsedUp : Type 0
PaymentIsUsedUp =
    (hear dc_post 10000 Gone [] [] (tells dc_post 10000 plant.Paid (open_in row.Selected))).keeps.facts.paid ≡ false

-- parameters that are shown no watts are asked for again
abbrev pub WithoutWattsWaits : Type 0
WithoutWattsWaits = (request dc_post 10000 (asks_shown dc_parameters 0) (open_in row.Authorized)).keeps.session
    ≡ Some (record (session_in row.Authorized 40000 (near 4000)) {
      stage = record (session_in row.Authorized 40000 (near 4000)).stage { told = 0 };
      lowered = Some (record { watts = 40000; at = 10000 });
    })

-- parameters of another mode and of another kind: the mode is judged first
abbrev pub ModeIsJudgedFirst : Type 0
ModeIsJudgedFirst = shown_of (request dc_post 10000 (asks ac_parameters) (open_in row.Authorized)).did
    ≡ Coded code.FailedWrongEnergyTransferMode ∷ Ended cause.FailedReply ∷ []
