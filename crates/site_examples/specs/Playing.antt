-- Own: a site of one post, played step by step: what the post does is computed from what it keeps.
use Rattle.std.specs.Prelude.{ℕ, true, List, [], ◌∷◌, length, Option, Some, None}
use Rattle.charge_world.specs.declared.entry.Entry.{Entry}
use Rattle.charge_world.specs.declared.entry.Entry.TheVariants as entry
use Rattle.charge_world.specs.declared.heard.What.{What}
use Rattle.charge_world.specs.declared.heard.What.TheVariants as what
use Rattle.session_words.specs.declared.plan.SitePlan.{SitePlan}
use Rattle.session_words.specs.declared.word.Reply.{Reply}
use Rattle.session_words.specs.Causes.{number_of}
use Rattle.v2gtp_frames.specs.Frames.{frame}
use Rattle.post_spec.specs.Sessions.{brought}
use Rattle.post_spec.specs.Steps.{Event, Came, Bytes, Gone, Datagram, Plant, Clock, Over, Act, Give, Send, Answer, End, Reading, Step, Hears, Does}
use Rattle.station_spec.specs.States.{Todo, Tell, Say, Finish, Response, Said, first}
use Rattle.station_spec.specs.States as states
use Rattle.station_spec.specs.Judging.{filled}
use Rattle.station_spec.specs.Acting.{state}
use Rattle.station_spec.specs.Sharing.{Post}
use Rattle.station_spec.specs.Runs.{entry_of}
use Rattle.station_examples.specs.Fixtures.{ac_post, token}

abbrev pub one_post : SitePlan
one_post = record { limit = 50000; turns = 100; sessions = 10; post = record { items = ac_post ∷ [] } }

abbrev pub post_of : List Step → Post
post_of steps = record { plan = ac_post; steps = steps }

-- what the post does next, with its bytes
abbrev pub act_of : (Reply → List ℕ) → Option Todo → Act
act_of encode (Some (Tell datagram)) = Answer datagram
act_of encode (Some (states.Give order)) = Give order
act_of encode (Some (Say (Response payload))) = Send (frame payload)
act_of encode (Some (Say (Said dialect reply))) = Send (frame (encode reply))
act_of encode (Some (Finish cause)) = End (number_of cause)
act_of encode None = Answer []

abbrev pub does : (Reply → List ℕ) → Option Reading → List Step → List Step
does encode reading steps =
    Does reading (act_of encode (first (filled ac_post reading (state ac_post steps)).agenda)) true ∷ steps

-- the past of a site with this post alone
abbrev pub what_of : Event → What
what_of (Came token) = what.Came 1 token
what_of (Bytes bytes) = what.Bytes 1 (length bytes)
what_of Gone = what.Gone 1
what_of (Datagram bytes) = what.Datagram 1 (length bytes)
what_of (Plant event) = what.Plant 1 event
what_of Clock = what.Tick
what_of Over = what.Over

abbrev pub entry_for : Step → Entry
entry_for (Hears at event) = entry.Heard (record { at = at; what = what_of event }) (brought event)
entry_for (Does reading act taken) = entry_of 1 act taken

abbrev pub past_of : List Step → List Entry
past_of [] = []
past_of (step ∷ steps) = entry_for step ∷ past_of steps
