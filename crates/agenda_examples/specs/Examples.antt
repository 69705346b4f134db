-- Own: examples of what is left to do. ISO 15118-2:2014, sections 7.10.1, 8.2 and 8.7, have discovery, the negotiation and the deadlines.
use Rattle.std.specs.Prelude.{◌≡◌, true, false, List, [], ◌∷◌, Some, None}
use Rattle.charge_world.specs.declared.ports.Order.TheVariants as order
use Rattle.session_words.specs.declared.cause.EndCause.TheVariants as cause
use Rattle.sdp_discovery.specs.Discovery.{request_spelling}
use Rattle.post_spec.specs.Codecs.{Negotiated}
use Rattle.post_spec.specs.Steps.{Came, Bytes, Gone, Datagram, Clock, Give, Send, Answer, Step, Hears, Does}
use Rattle.station_spec.specs.States.{Repeating, Timing, Eventing, Wording, nothing}
use Rattle.read_agendas.specs.Left.{begun, left}
use Rattle.station_examples.specs.Fixtures.{dc_post, token, word}

abbrev pub came : List Step
came = Hears 0 (Came token) ∷ []

-- a hearing asks for nothing before it is looked at
abbrev pub HearingLeavesNothing : Type 0
HearingLeavesNothing = left dc_post came ≡ record { part = Repeating; agenda = nothing }

-- a request of discovery is answered, and that is all
abbrev pub AnswerLeavesNothing : Type 0
AnswerLeavesNothing = left dc_post (Does None (Answer []) true ∷ Hears 1 (Datagram (request_spelling (record { tls = false }))) ∷ [])
    ≡ record { part = Wording; agenda = nothing }

-- behind the response to a negotiation that matched nothing the session ends, and where it couldn't be sent too
abbrev pub UnmatchedLeavesTheEnd : Type 0
UnmatchedLeavesTheEnd = left dc_post (Does (Some (word (Negotiated None []))) (Send []) true ∷ Hears 1 (Bytes []) ∷ came)
    ≡ record { part = Wording; agenda = record nothing { ending = Some cause.NoNegotiation } }

abbrev pub UnsentLeavesTheEnd : Type 0
UnsentLeavesTheEnd = left dc_post (Does (Some (word (Negotiated None []))) (Send []) false ∷ Hears 1 (Bytes []) ∷ came)
    ≡ record { part = Wording; agenda = record nothing { ending = Some cause.SendFailed } }

-- a repeated order to open leaves the other rows to be looked at
abbrev pub RepeatedLeavesTheRows : Type 0
RepeatedLeavesTheRows = left dc_post (Does None (Give order.Open) true ∷ Hears 1 Clock ∷ Does None (Give order.Close) false ∷ [])
    ≡ record { part = Timing; agenda = nothing }

-- a session that is late ends by its deadline, also where its connection ended then
abbrev pub LateIsAskedBeforeTheEvent : Type 0
LateIsAskedBeforeTheEvent = begun dc_post (Hears 18000 Gone ∷ came) None (left dc_post (Hears 18000 Gone ∷ came))
    ≡ record { part = Eventing; agenda = record nothing { ending = Some cause.SetupTimeout } }
