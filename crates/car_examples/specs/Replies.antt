-- ISO 15118-2:2014, sections 8.3.3 and 8.8.3: examples of replies that end a session, and of those that lead it on.
use Rattle.std.specs.Prelude.{◌≡◌, false, [], ◌∷◌}
use Rattle.charge_world.specs.declared.ports.Order.TheVariants as order
use Rattle.session_words.specs.declared.cause.EndCause.TheVariants as cause
use Rattle.session_words.specs.declared.code.Code.TheVariants as code
use Rattle.session_words.specs.declared.code.Processing.TheVariants as processing
use Rattle.session_words.specs.declared.mode.OfferedMode.TheVariants as offered
use Rattle.session_words.specs.declared.word.Tell.TheVariants as tell
use Rattle.car_rules.specs.declared.stage.CarPhase.TheVariants as phase
use Rattle.post_spec.specs.Steps.{Bytes}
use Rattle.car_spec.specs.Codecs.{WrongSide, Refused}
use Rattle.car_examples.specs.Playing.{hear}
use Rattle.car_examples.specs.Fixtures.{dc_car, named, other_name, told, told_as, services, authorization}
use Rattle.car_examples.specs.Sessions.{Ordered, Ended, shown, reply, open_in, live_in, waiting_in}

-- a reply of another kind, of another session, and one that nobody asked for
abbrev pub OtherKindEnds : Type 0
OtherKindEnds = shown (reply dc_car 1100 (told tell.PaymentSelection) (open_in phase.Discovering)) ≡ Ended cause.WrongReply ∷ []

abbrev pub OtherSessionEnds : Type 0
OtherSessionEnds =
    shown (reply dc_car 1100 (told_as other_name code.Ok tell.PaymentSelection) (open_in phase.Selecting)) ≡ Ended cause.WrongReply ∷ []

abbrev pub UnaskedEnds : Type 0
UnaskedEnds =
    shown (reply dc_car 1050 (told (authorization processing.Finished)) (waiting_in phase.Authorizing false)) ≡ Ended cause.WrongReply ∷ []

-- so does a second reply in the same piece
abbrev pub SecondEnds : Type 0
SecondEnds =
    shown (hear dc_car 1100 (Bytes (0x01 ∷ 0xfe ∷ 0x80 ∷ 0x01 ∷ 0 ∷ 0 ∷ 0 ∷ 0 ∷ 0x01 ∷ 0xfe ∷ 0x80 ∷ 0x01 ∷ 0 ∷ 0 ∷ 0 ∷ 0 ∷ []))
    (told (authorization processing.Ongoing) ∷ told (authorization processing.Finished) ∷ []) [] (open_in phase.Authorizing))
    ≡ Ended cause.WrongReply ∷ []

-- of these the first goes before a FAILED code, and that before what the reply tells
abbrev pub FailedEnds : Type 0
FailedEnds = shown (reply dc_car 1100 (told_as named code.Failed (services offered.DcCore)) (open_in phase.Discovering))
    ≡ Ended cause.CodeFailed ∷ []

abbrev pub WrongGoesFirst : Type 0
WrongGoesFirst =
    shown (reply dc_car 1100 (told_as other_name code.Failed (services offered.DcCore)) (open_in phase.Discovering))
    ≡ Ended cause.WrongReply ∷ []

abbrev pub OtherModeEnds : Type 0
OtherModeEnds = shown (reply dc_car 1100 (told (services offered.DcCore)) (open_in phase.Discovering)) ≡ Ended cause.NoOffer ∷ []

-- a payload that is refused, and a request
abbrev pub RefusedEnds : Type 0
RefusedEnds = shown (reply dc_car 1100 Refused (open_in phase.Discovering)) ≡ Ended cause.Refused ∷ []

abbrev pub RequestEnds : Type 0
RequestEnds = shown (reply dc_car 1100 WrongSide (open_in phase.Discovering)) ≡ Ended cause.WrongSide ∷ []

-- a wrong frame
abbrev pub BadFrameEnds : Type 0
BadFrameEnds = shown (hear dc_car 1100 (Bytes (0x02 ∷ 0xfe ∷ [])) [] [] (live_in phase.Charging))
    ≡ Ordered order.Open ∷ Ended cause.BadFrame ∷ []
