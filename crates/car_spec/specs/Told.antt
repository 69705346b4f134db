-- Own: what the steps of a car tell of what it was told: the charging replies, the identifier of the session, and the wish to stop. It is
-- read off the steps, without what the car keeps.
use Rattle.std.specs.Prelude.{ℕ, ◌+◌, Bool, true, false, ◌&&◌, if◌then◌else◌, List, [], ◌∷◌, Option, Some, None, is_some}
use Rattle.session_words.specs.declared.session.SessionId.{SessionId}
use Rattle.session_words.specs.declared.word.Ask.{Ask}
use Rattle.session_words.specs.declared.word.Ask.TheVariants as ask
use Rattle.session_words.specs.declared.word.Reply.{Reply}
use Rattle.session_words.specs.declared.word.Request.{Request}
use Rattle.session_words.specs.declared.word.Tell.{Tell}
use Rattle.session_words.specs.declared.word.Tell.TheVariants as tell
use Rattle.session_rules.specs.Stages.{is_same}
use Rattle.session_rules.specs.Verdict.{is_accepted}
use Rattle.car_rules.specs.Replies.{answers}
use Rattle.car_spec.specs.Codecs.{Judged, Told}
use Rattle.car_spec.specs.Steps.{Step, Hears, Loses, Reads, Does, stop_heard}
use Rattle.car_spec.specs.Asked.{Sent, last_request, awaited}

abbrev pub asks_charging : Ask → Bool
asks_charging (ask.CurrentDemand ready soc voltage current) = true
asks_charging ask.ChargingStatus = true
asks_charging other = false

-- an OK reply to CurrentDemand or ChargingStatus, of that request's session
abbrev pub is_cycle : Request → Reply → Bool
is_cycle request reply =
    asks_charging request.ask && answers request.ask reply.tell && is_same reply.session request.session && is_accepted reply.code

abbrev pub cycle_by : Option Sent → Bool → Reply → ℕ
cycle_by None awaited reply = 0
cycle_by (Some sent) false reply = 0
cycle_by (Some sent) true reply = if is_cycle sent.request reply then 1 else 0

abbrev pub cycle_in : Judged → Option Sent → Bool → ℕ
cycle_in (Told reply) sent awaited = cycle_by sent awaited reply
cycle_in other sent awaited = 0

-- the charging replies
abbrev pub cycles : List Step → ℕ
cycles [] = 0
cycles (Hears at event ∷ steps) = cycles steps
cycles (Loses ∷ steps) = cycles steps
cycles (Reads word ∷ steps) = cycles steps + cycle_in word (last_request steps) (is_some (awaited steps))
cycles (Does act taken ∷ steps) = cycles steps

-- the identifier that the reply to SessionSetup gave
abbrev pub given_by : Tell → SessionId → Option SessionId → Option SessionId
given_by (tell.SessionSetup evse) session earlier = Some session
given_by other session earlier = earlier

abbrev pub given_in : Judged → Option SessionId → Option SessionId
given_in (Told reply) earlier = given_by reply.tell reply.session earlier
given_in other earlier = earlier

abbrev pub given : List Step → Option SessionId
given [] = None
given (Hears at event ∷ steps) = given steps
given (Loses ∷ steps) = given steps
given (Reads word ∷ steps) = given_in word (given steps)
given (Does act taken ∷ steps) = given steps

-- somebody asked to stop since a connection came
abbrev pub stop : List Step → Bool
stop [] = false
stop (Hears at event ∷ steps) = stop_heard event (stop steps)
stop (Loses ∷ steps) = stop steps
stop (Reads word ∷ steps) = stop steps
stop (Does act taken ∷ steps) = stop steps
