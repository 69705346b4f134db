-- Own: the machine's values as those of the definitions.
use Rattle.std.specs.Prelude.{◌≡◌, ℕ, List, [], Option, Some, None}
use Rattle.charge_world.specs.declared.offer.Dialect.{Dialect}
use Rattle.std.specs.Option.{option_map}
use Rattle.car_rules.specs.declared.stage.CarStage.{CarStage}
use Rattle.evcc_rows.specs.Carrying.{stage_of}
use Rattle.post_spec.specs.Steps as heard
use Rattle.car_spec.specs.Codecs as codecs
use Rattle.car_spec.specs.Judging.{Payload, dialect_of}
use Rattle.car_spec.specs.States as states
use Rattle.car_spec.specs.Steps as steps
use Rattle.evcc_machine.specs.declared.agenda.Spoken.{Spoken}
use Rattle.evcc_machine.specs.declared.agenda.Spoken.TheVariants as spoken
use Rattle.evcc_machine.specs.declared.agenda.Todo.{Todo}
use Rattle.evcc_machine.specs.declared.agenda.Todo.TheVariants as todo
use Rattle.evcc_machine.specs.declared.car.Part.{Part}
use Rattle.evcc_machine.specs.declared.car.Part.TheVariants as part
use Rattle.evcc_machine.specs.declared.event.CarEvent.{CarEvent}
use Rattle.evcc_machine.specs.declared.event.CarEvent.TheVariants as event
use Rattle.evcc_machine.specs.declared.event.Done.{Done}
use Rattle.evcc_machine.specs.declared.event.Done.TheVariants as done
use Rattle.evcc_machine.specs.declared.event.Judged.{Judged}
use Rattle.evcc_machine.specs.declared.event.Judged.TheVariants as judged
use Rattle.evcc_machine.specs.declared.living.Living.{Living}
use Rattle.evcc_machine.specs.declared.slot.Wanted.{Wanted}

abbrev pub spoken_of : Spoken → steps.Spoken
spoken_of spoken.Offer = steps.Offer
spoken_of (spoken.Asked dialect request) = steps.Asked dialect request

abbrev pub todo_of : Todo → states.Todo
todo_of (todo.Call port) = states.Call port
todo_of (todo.Drive order) = states.Drive order
todo_of (todo.Speak said) = states.Speak (spoken_of said.now)
todo_of (todo.Finish cause) = states.Finish cause
todo_of todo.Inquire = states.Inquire

-- what was heard, with its bytes
abbrev pub event_of : CarEvent → List ℕ → heard.Event
event_of (event.Came token) bytes = heard.Came token
event_of event.Bytes bytes = heard.Bytes bytes
event_of event.Gone bytes = heard.Gone
event_of event.Datagram bytes = heard.Datagram bytes
event_of (event.Plant told) bytes = heard.Plant told
event_of event.Clock bytes = heard.Clock
event_of event.Over bytes = heard.Over

-- an act that was done so, whatever its bytes were, its port, or the number of its cause
abbrev pub IsBy : Done → steps.Act → Type 0
IsBy done.Dialed act = (port : ℕ) × (act ≡ steps.Dial port)
IsBy (done.Gave order) act = act ≡ steps.Give order
IsBy done.Said act = (said : steps.Spoken) × (bytes : List ℕ) × (act ≡ steps.Say said bytes)
IsBy done.Ended act = (cause : ℕ) × (act ≡ steps.End cause)
IsBy done.Sought act = (datagram : List ℕ) × (act ≡ steps.Seek datagram)

abbrev pub judged_of : Judged → codecs.Judged
judged_of (judged.Chosen dialect) = codecs.Chosen dialect
judged_of (judged.Told reply) = codecs.Told reply
judged_of judged.WrongSide = codecs.WrongSide
judged_of judged.Refused = codecs.Refused

abbrev pub part_of : Part → states.Part
part_of part.Unheard = states.Unheard
part_of part.Timing = states.Timing
part_of part.Eventing = states.Eventing
part_of part.Wording = states.Wording

abbrev pub wanted_of : Wanted → Payload
wanted_of wanted = record { dialect = wanted.dialect; bytes = wanted.payload.now }

-- what is kept of a session, with what of its stream was not read yet
abbrev pub with_unread : List ℕ → Living → states.Session
with_unread unread living = record {
  stage = option_map stage_of living.row;
  moments = living.moments;
  again = living.again;
  unread = unread;
  stop = living.stop;
}

abbrev pub unread_in : Option states.Session → List ℕ
unread_in None = []
unread_in (Some session) = session.unread

-- the stage of a session, once a dialect was chosen
abbrev pub stage_in : Option states.Session → Option CarStage
stage_in None = None
stage_in (Some session) = session.stage

-- the dialect of a session, once one was chosen
abbrev pub dialect_in : Option states.Session → Option Dialect
dialect_in session = dialect_of (stage_in session)
