-- Own: the machine's values as those of the definitions.
use Rattle.std.specs.Prelude.{◌≡◌, ℕ, List, [], Option, Some, None, if◌then◌else◌}
use Rattle.std.specs.Option.{option_map}
use Rattle.charge_world.specs.declared.offer.Dialect.{Dialect}
use Rattle.v2gtp_frames.specs.Reading.{behind_front}
use Rattle.session_words.specs.declared.cause.EndCause.{EndCause}
use Rattle.session_words.specs.declared.facts.Facts.{Facts}
use Rattle.session_words.specs.declared.phase.Phase.TheVariants as row
use Rattle.session_words.specs.declared.plan.PostPlan.{PostPlan}
use Rattle.session_words.specs.declared.word.Request.{Request}
use Rattle.session_rules.specs.Moves.{facts_behind}
use Rattle.post_spec.specs.Codecs as codecs
use Rattle.post_spec.specs.Steps as steps
use Rattle.station_spec.specs.Deciding.{ending_by}
use Rattle.station_spec.specs.Judging.{Payload, shows, asked_behind, chosen_stage, passed, speaks}
use Rattle.station_spec.specs.States as states
use Rattle.secc_machine.specs.declared.agenda.Spoken.{Spoken}
use Rattle.secc_machine.specs.declared.agenda.Spoken.TheVariants as spoken
use Rattle.secc_machine.specs.declared.agenda.Todo.{Todo}
use Rattle.secc_machine.specs.declared.agenda.Todo.TheVariants as todo
use Rattle.secc_machine.specs.declared.event.Done.{Done}
use Rattle.secc_machine.specs.declared.event.Done.TheVariants as done
use Rattle.secc_machine.specs.declared.event.PostEvent.{PostEvent}
use Rattle.secc_machine.specs.declared.event.PostEvent.TheVariants as event
use Rattle.secc_machine.specs.declared.event.Judged.{Judged}
use Rattle.secc_machine.specs.declared.event.Judged.TheVariants as judged
use Rattle.secc_machine.specs.declared.post.Part.{Part}
use Rattle.secc_machine.specs.declared.post.Part.TheVariants as part
use Rattle.secc_machine.specs.declared.slot.Living.{Living}
use Rattle.secc_machine.specs.declared.slot.Wanted.{Wanted}

abbrev pub spoken_of : Spoken → states.Spoken
spoken_of (spoken.Response payload) = states.Response payload.items
spoken_of (spoken.Said dialect reply) = states.Said dialect reply

abbrev pub todo_of : Todo → states.Todo
todo_of (todo.Tell datagram) = states.Tell datagram
todo_of (todo.Give order) = states.Give order
todo_of (todo.Say said) = states.Say (spoken_of said.now)
todo_of (todo.Finish cause) = states.Finish cause

-- what was heard, with its bytes
abbrev pub event_of : PostEvent → List ℕ → steps.Event
event_of (event.Came token) bytes = steps.Came token
event_of event.Bytes bytes = steps.Bytes bytes
event_of event.Gone bytes = steps.Gone
event_of event.Datagram bytes = steps.Datagram bytes
event_of (event.Plant told) bytes = steps.Plant told
event_of event.Clock bytes = steps.Clock
event_of event.Over bytes = steps.Over

-- an act that was done so, whatever its bytes were, or the number of its cause
abbrev pub IsBy : Done → steps.Act → Type 0
IsBy (done.Gave order) act = act ≡ steps.Give order
IsBy done.Sent act = (bytes : List ℕ) × (act ≡ steps.Send bytes)
IsBy done.Answered act = (bytes : List ℕ) × (act ≡ steps.Answer bytes)
IsBy done.Ended act = (cause : ℕ) × (act ≡ steps.End cause)

abbrev pub judged_of : Judged → codecs.Judged
judged_of (judged.Negotiated chosen response) = codecs.Negotiated chosen response.items
judged_of (judged.Asked request) = codecs.Asked request
judged_of judged.WrongSide = codecs.WrongSide
judged_of judged.Refused = codecs.Refused

abbrev pub part_of : Part → states.Part
part_of part.Repeating = states.Repeating
part_of part.Timing = states.Timing
part_of part.Eventing = states.Eventing
part_of part.Wording = states.Wording

abbrev pub wanted_of : Wanted → Payload
wanted_of wanted = record { dialect = wanted.dialect; bytes = wanted.payload.now }

-- what is kept of a session, with what of its stream was not read yet
abbrev pub with_unread : List ℕ → Living → states.Session
with_unread unread living = record {
  stage = living.row;
  since = living.since;
  unread = unread;
  asked = living.asked;
  lowered = living.lowered;
}

abbrev pub unread_in : Option states.Session → List ℕ
unread_in None = []
unread_in (Some session) = session.unread

-- a session behind the first word of its stream
abbrev pub chosen_session : Option Dialect → states.Session → states.Session
chosen_session chosen session =
    record session { stage = chosen_stage session.stage chosen; unread = behind_front session.unread }

-- a word that is no request ends its session
abbrev pub rejected : EndCause → states.State → states.State
rejected cause s =
    record s { part = states.Wording; session = option_map passed s.session; agenda = ending_by cause s.live }

-- the dialect of a session, once one was chosen
abbrev pub dialect_in : Option states.Session → Option Dialect
dialect_in None = None
dialect_in (Some session) = speaks session.stage

-- the watts for which the post asks behind a word, where that word is shown watts
abbrev pub asks_in : PostPlan → states.State → Option states.Session → codecs.Judged → Option ℕ
asks_in plan s (Some session) (codecs.Asked r) =
    if shows session.stage plan s r then Some (asked_behind session plan s r) else None
asks_in plan s other word = None

-- watts that may be shown where the post asks for these: none where it doesn't
abbrev pub IsShownFor : (ℕ → ℕ → Type 0) → Option ℕ → ℕ → Type 0
IsShownFor Shows None shown = shown ≡ 0
IsShownFor Shows (Some asked) shown = Shows asked shown

-- the facts behind a request, where a session lives
abbrev pub facts_in : Option states.Session → Facts → PostPlan → Request → Facts
facts_in None facts plan r = facts
facts_in (Some session) facts plan r = facts_behind session.stage facts plan r

-- a negotiation is the first word of a connection
abbrev pub ComesFirst : Option states.Session → codecs.Judged → Type 0
ComesFirst (Some session) (codecs.Negotiated chosen response) = session.stage.row ≡ row.Connected
ComesFirst other word = Unit {0}
