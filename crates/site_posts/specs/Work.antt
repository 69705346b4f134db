-- Own: how much a post may still do before the next hearing.
use Rattle.std.specs.Prelude.{ℕ, ◌+◌, ◌*◌, length, Option, Some, None}
use Rattle.session_words.specs.declared.cause.EndCause.{EndCause}
use Rattle.station_spec.specs.States.{Agenda, Part, Repeating, Timing, Eventing, Wording, Session, State}

abbrev pub parts_left : Part → ℕ
parts_left Repeating = 3
parts_left Timing = 2
parts_left Eventing = 1
parts_left Wording = 0

abbrev pub one_if : {A : Type 0} → Option A → ℕ
one_if None = 0
one_if (Some a) = 1

-- what was decided; a cause behind a reply may become an order and an end
abbrev pub load : Agenda → ℕ
load a = one_if a.datagram + one_if a.order + one_if a.reply + one_if a.ending + 2 * one_if a.behind_reply

-- a session that has no cause yet may get one: an order and an end
abbrev pub spare : Option EndCause → ℕ
spare None = 3
spare (Some cause) = 0

abbrev pub work_in : Option Session → Option EndCause → ℕ
work_in None ending = 0
work_in (Some session) ending = length session.unread + spare ending

abbrev pub work : State → ℕ
work s = load s.agenda + 6 * parts_left s.part + work_in s.session s.agenda.ending
