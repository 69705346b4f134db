-- Own: what a car does next, by what it keeps.
use Rattle.std.specs.Prelude.{◌≡◌, ℕ, Bool, false, List, Some, None, Ok}
use Rattle.session_words.specs.declared.plan.CarPlan.{CarPlan}
use Rattle.v2gtp_frames.specs.Frames.{frame, IsPayload}
use Rattle.v2gtp_frames.specs.Reading.{whole_at}
use Rattle.car_rules.specs.Searching.{next_request}
use Rattle.car_spec.specs.Codecs.{Judged, Codecs, Judges}
use Rattle.car_spec.specs.Steps.{Act}
use Rattle.car_spec.specs.States.{Todo, Timing, Wording, Session, State, nothing, is_done, first}
use Rattle.car_spec.specs.Due.{is_due}
use Rattle.car_spec.specs.Deciding.{timing, eventing, repeating, decided}
use Rattle.car_spec.specs.Judging.{dialect_of}
use Rattle.car_spec.specs.Next.{IsQuiet, IsDone, MayAct, MayRead}

-- ---- what was decided is done in its order, and nothing is read before

abbrev pub CarsDoWhatIsFirst : Codecs → Type 0
CarsDoWhatIsFirst c = (plan : CarPlan) (s : State) (todo : Todo) (act : Act) (taken : Bool) → first (decided plan s).agenda ≡ Some todo
    → MayAct c plan s act taken → IsDone c plan todo act taken

abbrev pub CarsReadNothingBefore : Codecs → Type 0
CarsReadNothingBefore c = (plan : CarPlan) (s : State) (todo : Todo) (word : Judged) → first (decided plan s).agenda ≡ Some todo → MayRead c plan s word → ⊥

abbrev pub CarsDontRestBefore : Type 0
CarsDontRestBefore = (plan : CarPlan) (s : State) (todo : Todo) → first (decided plan s).agenda ≡ Some todo → IsQuiet plan s → ⊥

-- ---- a car decides nothing but by a word

pub record IsStill (plan : CarPlan) (s : State) (session : Session) : Type 0 where
  pub session_is : s.session ≡ Some session
  pub none : s.agenda ≡ nothing
  pub stays : decided plan s ≡ s

-- behind what it did: nothing of its stream is unread, it isn't to ask once more, and it looks for no post
pub record HasNothingDue (plan : CarPlan) (s : State) (session : Session) : Type 0 where
  pub session_is : s.session ≡ Some session
  pub again : is_due session.again s.clock ≡ false
  pub search : next_request plan s.search ≡ None

abbrev pub CarsStayBehindActs : Type 0
CarsStayBehindActs = (plan : CarPlan) (s : State) (session : Session) → s.agenda ≡ nothing → s.part ≡ Wording → HasNothingDue plan s session
    → whole_at session.unread ≡ Ok None → decided plan s ≡ s

-- behind a hearing: no deadline is reached, and the event leads to nothing
abbrev pub CarsStayBehindHearings : Type 0
CarsStayBehindHearings = (plan : CarPlan) (s : State) (session : Session) → s.agenda ≡ nothing → s.part ≡ Timing → timing plan s ≡ nothing
    → eventing plan s.event s ≡ nothing → HasNothingDue plan s session → whole_at session.unread ≡ Ok None → decided plan s ≡ s

-- with a whole message it reads that first
abbrev pub CarsStayAtWords : Type 0
CarsStayAtWords = (plan : CarPlan) (s : State) (session : Session) (count : ℕ) → s.agenda ≡ nothing → s.part ≡ Timing → timing plan s ≡ nothing
    → eventing plan s.event s ≡ nothing → s.session ≡ Some session → whole_at session.unread ≡ Ok (Some count) → decided plan s ≡ s

-- a request that is due is asked once more
abbrev pub CarsAskOnceMore : Type 0
CarsAskOnceMore = (plan : CarPlan) (s : State) (session : Session) → s.agenda ≡ nothing → s.over ≡ false → s.part ≡ Timing → timing plan s ≡ nothing
    → eventing plan s.event s ≡ nothing → s.session ≡ Some session → whole_at session.unread ≡ Ok None
    → is_done (repeating plan (Some session) s.clock) ≡ false
    → decided plan s ≡ record s { agenda = repeating plan (Some session) s.clock; part = Wording }

-- ---- it waits for a word, and reads one that is whole

abbrev pub CarsWait : Type 0
CarsWait = (plan : CarPlan) (s : State) (session : Session) → IsStill plan s session → whole_at session.unread ≡ Ok None → IsQuiet plan s

abbrev pub CarsReadWords : Codecs → Type 0
CarsReadWords c = (plan : CarPlan) (s : State) (session : Session) (payload : List ℕ) (word : Judged) → IsStill plan s session
    → session.unread ≡ frame payload → IsPayload payload → MayRead c plan s word
    → Judges c plan.dialects.items (dialect_of session.stage) payload word

abbrev pub CarsDontRestAtWords : Type 0
CarsDontRestAtWords = (plan : CarPlan) (s : State) (session : Session) (payload : List ℕ) → IsStill plan s session → session.unread ≡ frame payload
    → IsPayload payload → IsQuiet plan s → ⊥
