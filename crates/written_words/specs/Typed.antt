-- Own: what the types of a reply bound.
use Rattle.std.specs.Prelude.{◌<◌, ◌≤◌, All, length}
use Rattle.session_words.specs.declared.limits.EvseId.{EvseId}
use Rattle.session_words.specs.declared.limits.EvseId.TheVariants as evse
use Rattle.session_words.specs.declared.word.Reply.{Reply}
use Rattle.session_words.specs.declared.word.Tell.{Tell}
use Rattle.session_words.specs.declared.word.Tell.TheVariants as tell

abbrev pub IsTypedEvse : EvseId → Type 0
IsTypedEvse (evse.Bytes id) = All (λ byte. byte < 256) id.items
IsTypedEvse (evse.Text id) = Unit {0}

-- the number of a service, and the bytes of an EVSEID
abbrev pub IsTypedTell : Tell → Type 0
IsTypedTell (tell.ServiceDetail service) = service ≤ 65535
IsTypedTell (tell.SessionSetup id) = IsTypedEvse id
IsTypedTell other = Unit {0}

pub record IsTyped (reply : Reply) : Type 0 where
  pub few : length reply.session.bytes.items ≤ 8
  pub bytes : All (λ byte. byte < 256) reply.session.bytes.items
  pub tell : IsTypedTell reply.tell
