-- Own: what holds of a post that has nothing to do, and of one that read a word.
use Rattle.std.specs.Prelude.{◌≡◌, false, Option, Some, None, Ok}
use Rattle.session_words.specs.declared.plan.PostPlan.{PostPlan}
use Rattle.v2gtp_frames.specs.Reading.{whole_at}
use Rattle.post_spec.specs.Steps.{Reading}
use Rattle.station_spec.specs.States.{Session, State, is_done}
use Rattle.station_spec.specs.Deciding.{decided}
use Rattle.station_spec.specs.Judging.{Payload, wanted, read}
use Rattle.station_spec.specs.Next.{IsQuiet}

-- neither a whole frame nor a wrong field stands at the front of what a session didn't read yet
abbrev pub IsReadOut : Option Session → Type 0
IsReadOut None = Unit {0}
IsReadOut (Some session) = whole_at session.unread ≡ Ok None

-- a quiet post read all frames that came
abbrev pub ReadsAll : Type 0
ReadsAll = (plan : PostPlan) (s : State) → IsQuiet plan s → IsReadOut s.session

-- deciding leaves a quiet post
abbrev pub StaysQuiet : Type 0
StaysQuiet = (plan : PostPlan) (s : State) → IsQuiet plan s → decided plan s ≡ s

-- a word that is read leaves something to do
abbrev pub ActsOnWords : Type 0
ActsOnWords = (plan : PostPlan) (s : State) (payload : Payload) (reading : Reading) → wanted s ≡ Some payload
    → is_done (read plan s (Some reading)).agenda ≡ false
