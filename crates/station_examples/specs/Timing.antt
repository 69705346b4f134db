-- ISO 15118-2:2014, section 8.7: examples of deadlines.
use Rattle.std.specs.Prelude.{◌≡◌, ℕ, true, [], ◌∷◌, Some}
use Rattle.charge_world.specs.declared.heard.PlantEvent.TheVariants as plant
use Rattle.charge_world.specs.declared.heard.What.TheVariants as what
use Rattle.charge_world.specs.declared.entry.Entry.TheVariants as entry
use Rattle.charge_world.specs.declared.offer.Dialect.TheVariants as dialect
use Rattle.charge_world.specs.declared.ports.Order.TheVariants as order
use Rattle.session_words.specs.declared.cause.EndCause.TheVariants as cause
use Rattle.session_words.specs.declared.code.Code.TheVariants as code
use Rattle.session_words.specs.declared.code.Notify.TheVariants as notify
use Rattle.session_words.specs.declared.limits.EvseId.TheVariants as of_evse
use Rattle.session_words.specs.declared.phase.Phase.TheVariants as row
use Rattle.session_words.specs.declared.phase.Standing.TheVariants as standing
use Rattle.session_words.specs.declared.word.Ask.TheVariants as ask
use Rattle.session_words.specs.declared.word.Tell.TheVariants as tell
use Rattle.session_rules.specs.Offers.{amount}
use Rattle.post_spec.specs.Codecs.{Negotiated}
use Rattle.post_spec.specs.Steps.{Came, Clock, Heard, seen}
use Rattle.station_spec.specs.States.{Give, Finish}
use Rattle.station_examples.specs.Playing.{Play, unplayed, hear}
use Rattle.station_examples.specs.Fixtures.{dc_post, ac_post, token, word, asks, asks_shown, replies, request, tells, tick}
use Rattle.station_examples.specs.Sessions.{open_in, ac_in}

-- the next request is awaited for 60,000 ms from the last reply on, which was at 10,000
abbrev pub WaitsBeforeDeadline : Type 0
WaitsBeforeDeadline = (tick dc_post 69999 (open_in row.SetUp)).did ≡ []

abbrev pub EndsAtDeadline : Type 0
EndsAtDeadline = (tick dc_post 70000 (open_in row.SetUp)).did ≡ Finish cause.SequenceTimeout ∷ []

-- a request that comes with the deadline comes too late
abbrev pub DeadlineGoesFirst : Type 0
DeadlineGoesFirst = (request dc_post 70000 (asks ask.ServiceDiscovery) (open_in row.SetUp)).did
    ≡ Finish cause.SequenceTimeout ∷ []

-- so does an event
abbrev pub DeadlineGoesBeforeEvent : Type 0
DeadlineGoesBeforeEvent = (tells dc_post 70000 plant.Emergency (open_in row.SetUp)).did
    ≡ Finish cause.SequenceTimeout ∷ []

-- a reply begins the time anew
abbrev pub ReplyBeginsAnew : Type 0
ReplyBeginsAnew = (tick dc_post 129998 (request dc_post 69999 (asks ask.ServiceDiscovery) (open_in row.SetUp))).did ≡ []

-- a clock that goes back stands still
abbrev pub ClockStandsStill : Type 0
ClockStandsStill = seen 1 (
    entry.Heard (record { at = 500; what = what.Tick }) [] ∷
    entry.Heard (record { at = 69999; what = what.Tick }) [] ∷ [])
    ≡ Heard 69999 Clock ∷ Heard 69999 Clock ∷ []

-- SessionSetup is awaited for 18,000 ms from the connection on
abbrev pub comes_at : ℕ → Play
comes_at at = hear dc_post at (Came token) [] [] unplayed

abbrev pub WaitsForSetup : Type 0
WaitsForSetup = (tick dc_post 17999 (comes_at 0)).did ≡ []

abbrev pub EndsWithoutSetup : Type 0
EndsWithoutSetup = (tick dc_post 18000 (comes_at 0)).did ≡ Finish cause.SetupTimeout ∷ []

-- the negotiation's response doesn't begin that time anew
abbrev pub NegotiationDelaysNothing : Type 0
NegotiationDelaysNothing =
    (tick dc_post 18000 (request dc_post 10000 (word (Negotiated (Some dialect.Iso) [])) (comes_at 0))).did
    ≡ Finish cause.SetupTimeout ∷ []

-- a moment of 2^64 - 1 or more is never reached
abbrev pub NeverIsDue : Type 0
NeverIsDue = (tick dc_post 18446744073709551615 (comes_at 18446744073709551615)).did ≡ []

abbrev pub LastMomentIsNever : Type 0
LastMomentIsNever = (tick dc_post 18446744073709551615 (comes_at 18446744073709533615)).did ≡ []

abbrev pub LastButOneIsDue : Type 0
LastButOneIsDue = (tick dc_post 18446744073709551615 (comes_at 18446744073709533614)).did
    ≡ Finish cause.SetupTimeout ∷ []

-- a hearing at another post is a look at the clock
abbrev pub OtherPostIsClock : Type 0
OtherPostIsClock = seen 2 (entry.Heard (record { at = 70000; what = what.Plant 1 plant.Emergency }) [] ∷ [])
    ≡ Heard 70000 Clock ∷ []

abbrev pub OtherPostChangesNoReply : Type 0
OtherPostChangesNoReply =
    (request ac_post 10000 (asks_shown ask.ChargingStatus 22080) (tick ac_post 10000 (ac_in row.AcCharging standing.Closed true))).did
    ≡ Give (order.Limits 2300 320 22080)
    ∷ replies code.Ok (tell.ChargingStatus notify.None (of_evse.Text ac_post.evse_id) (Some (amount 320))) ∷ []
