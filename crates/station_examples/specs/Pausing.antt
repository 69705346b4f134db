-- ISO 15118-2:2014, sections 8.4.2 and 8.4.5: examples of pause, of coming back, and of renegotiation.
use Rattle.std.specs.Prelude.{◌≡◌, true, false, [], ◌∷◌, Some, None}
use Rattle.charge_world.specs.declared.heard.IsolationLevel.TheVariants as isolation
use Rattle.charge_world.specs.declared.offer.Dialect.TheVariants as dialect
use Rattle.charge_world.specs.declared.ports.Order.TheVariants as order
use Rattle.session_words.specs.declared.cause.EndCause.TheVariants as cause
use Rattle.session_words.specs.declared.code.Code.TheVariants as code
use Rattle.session_words.specs.declared.code.Processing.TheVariants as processing
use Rattle.session_words.specs.declared.code.Progress.TheVariants as progress
use Rattle.session_words.specs.declared.code.StatusCode.TheVariants as status_code
use Rattle.session_words.specs.declared.limits.PostStatus.TheVariants as of_post
use Rattle.session_words.specs.declared.limits.EvseId.TheVariants as of_evse
use Rattle.session_words.specs.declared.facts.Facts.{Facts}
use Rattle.session_rules.specs.Stages.{id_of}
use Rattle.session_words.specs.declared.phase.Phase.TheVariants as row
use Rattle.session_words.specs.declared.phase.Standing.TheVariants as standing
use Rattle.session_words.specs.declared.word.Ask.TheVariants as ask
use Rattle.session_words.specs.declared.word.Tell.TheVariants as tell
use Rattle.post_spec.specs.Steps.{Came, Gone}
use Rattle.station_spec.specs.States.{Give, Say, Finish, Said}
use Rattle.station_examples.specs.Playing.{Play, hear}
use Rattle.station_examples.specs.Fixtures.{dc_post, named, asks, asks_shown, replies, status, request}
use Rattle.station_examples.specs.Sessions.{session_in, facts_at, keeping, open_in, closed_in}
use Rattle.station_examples.specs.Whole.{shown_of, Coded}
use Rattle.station_examples.specs.Words.{setup, delivery, dc_parameters}

-- SessionStop with Pause behind the charging, and while it goes on
abbrev pub pauses : Play → Play
pauses = request dc_post 10000 (asks (ask.SessionStop true))

abbrev pub PauseEnds : Type 0
PauseEnds = (pauses (open_in row.DcStopped)).did ≡ replies code.Ok tell.SessionStop ∷ Finish cause.Paused ∷ []

abbrev pub PauseKeeps : Type 0
PauseKeeps = (pauses (open_in row.DcStopped)).keeps.facts.kept ≡ Some named

abbrev pub StopKeepsNothing : Type 0
StopKeepsNothing = (request dc_post 10000 (asks (ask.SessionStop false)) (open_in row.DcStopped)).keeps.facts.kept
    ≡ None

abbrev pub EarlyPauseFails : Type 0
EarlyPauseFails = (pauses (closed_in row.DcCharging)).did
    ≡ Give order.Open ∷ replies code.Failed tell.SessionStop ∷ Finish cause.FailedReply ∷ []

-- SessionSetup that names the paused session joins it, once
abbrev pub paused : Facts
paused = record (facts_at None standing.Opened) { kept = Some named }

abbrev pub comes_back : Facts → Play
comes_back facts = request dc_post 10000 (asks setup) (keeping (record (session_in row.Negotiated 0 None) {
  stage = record (session_in row.Negotiated 0 None).stage { session = id_of (0 ∷ 0 ∷ 0 ∷ 0 ∷ 0 ∷ 0 ∷ 0 ∷ 7 ∷ []) };
}) facts false)

abbrev pub JoinsPaused : Type 0
JoinsPaused = (comes_back paused).did
    ≡ replies code.OkOldSessionJoined (tell.SessionSetup (of_evse.Text dc_post.evse_id)) ∷ []

abbrev pub JoinsOnce : Type 0
JoinsOnce = (comes_back (hear dc_post 10000 Gone [] [] (comes_back paused)).keeps.facts).did
    ≡ Say (Said dialect.Iso (record {
      session = id_of (0 ∷ 0 ∷ 0 ∷ 0 ∷ 0 ∷ 0 ∷ 0 ∷ 7 ∷ []);
      code = code.OkNewSessionEstablished;
      tell = tell.SessionSetup (of_evse.Text dc_post.evse_id);
    })) ∷ []

-- who comes back needs no new payment
abbrev pub JoinedIsAuthorized : Type 0
JoinedIsAuthorized = (request (record dc_post { free = false }) 10000 (asks ask.Authorization)
    (keeping (session_in row.Selected 0 None) (record (facts_at None standing.Opened) { joined = true }) false)).did
    ≡ replies code.Ok (tell.Authorization processing.Finished) ∷ []

-- a connection clears the isolation and the wishes of the session before, and leaves what was paid
abbrev pub CameClears : Type 0
CameClears = (hear dc_post 10000 (Came 7) [] [] (keeping (session_in row.DcChecked 0 None)
    (record (facts_at (Some isolation.Valid) standing.Opened) { stop = true; renew = true }) false)).keeps.facts
    ≡ facts_at None standing.Opened

-- PowerDelivery Renegotiate opens and leads back to the parameters
abbrev pub renegotiates : Play
renegotiates = request dc_post 10000 (asks (delivery progress.Renegotiate)) (closed_in row.DcCharging)

abbrev pub RenegotiationOpens : Type 0
RenegotiationOpens = renegotiates.did
    ≡ Give order.Open
    ∷ replies code.Ok (tell.PowerDelivery (of_post.Dc (status (Some isolation.Valid) status_code.EvseNotReady))) ∷ []

abbrev pub StartBehindRenegotiationFails : Type 0
StartBehindRenegotiationFails = (request dc_post 10000 (asks (delivery progress.Start)) renegotiates).did
    ≡ replies code.FailedSequenceError (tell.PowerDelivery (of_post.Dc (status (Some isolation.Valid) status_code.EvseMalfunction)))
    ∷ Finish cause.FailedReply ∷ []

abbrev pub ParametersBehindRenegotiation : Type 0
ParametersBehindRenegotiation = shown_of (request dc_post 10000 (asks_shown dc_parameters 40000) renegotiates).did
    ≡ Coded code.Ok ∷ []
