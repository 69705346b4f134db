-- Own: what a post does next, by what it keeps.
use Rattle.std.specs.Prelude.{◌≡◌, ℕ, Bool, true, false, List, [], Option, Some, None, Ok, ◌⊎◌}
use Rattle.session_words.specs.declared.plan.PostPlan.{PostPlan}
use Rattle.v2gtp_frames.specs.Frames.{frame, IsPayload}
use Rattle.v2gtp_frames.specs.Reading.{whole_at}
use Rattle.session_rules.specs.Stages.{is_waiting}
use Rattle.post_spec.specs.Codecs.{Codecs, Judges}
use Rattle.post_spec.specs.Steps.{Act, Reading}
use Rattle.station_spec.specs.States.{Todo, Agenda, Repeating, Wording, Session, State, nothing, is_done, first}
use Rattle.station_spec.specs.Deciding.{repeating, timing, eventing, fronting, decided}
use Rattle.station_spec.specs.Judging.{speaks, filled, IsShown}
use Rattle.station_spec.specs.Next.{IsQuiet, IsDone, Acts}
use Rattle.station_spec.specs.Sharing.{Shows}

-- ---- what was decided is done in its order, and nothing is read before. The post is alone at a site with this limit

pub record DoesFirst (c : Codecs) (todo : Todo) (reading : Option Reading) (act : Act) (taken : Bool) : Type 0 where
  pub reads_nothing : reading ≡ None
  pub done : IsDone c todo act taken

abbrev pub PostsDoWhatIsFirst : Codecs → Type 0
PostsDoWhatIsFirst c = (plan : PostPlan) (limit : ℕ) (s : State) (todo : Todo) (reading : Option Reading) (act : Act) (taken : Bool)
    → first (decided plan s).agenda ≡ Some todo → Acts c plan (Shows limit [] []) s reading act taken → DoesFirst c todo reading act taken

-- ---- a post decides nothing but by a word

pub record IsStill (plan : PostPlan) (s : State) (session : Session) : Type 0 where
  pub session_is : s.session ≡ Some session
  pub none : s.agenda ≡ nothing
  pub stays : decided plan s ≡ s

-- behind a hearing: no order failed, no deadline is reached, the event leads to nothing, and the front of the stream is right
pub record IsCalm (plan : PostPlan) (s : State) : Type 0 where
  pub repeats : repeating s.facts.contactor ≡ nothing
  pub times : timing s.session s.clock s.live ≡ nothing
  pub events : eventing plan s.event s ≡ nothing
  pub fronts : fronting s.session s.live ≡ nothing

abbrev pub PostsStayBehindHearings : Type 0
PostsStayBehindHearings = (plan : PostPlan) (s : State) → s.agenda ≡ nothing → s.part ≡ Repeating → IsCalm plan s → decided plan s ≡ s

-- behind what it did
abbrev pub PostsStayBehindActs : Type 0
PostsStayBehindActs = (plan : PostPlan) (s : State) → s.agenda ≡ nothing → s.part ≡ Wording → fronting s.session s.live ≡ nothing → decided plan s ≡ s

-- an event that leads to something, where nothing else comes before it
abbrev pub PostsDecideByEvents : Type 0
PostsDecideByEvents = (plan : PostPlan) (s : State) (agenda : Agenda) → s.agenda ≡ nothing → s.part ≡ Repeating → repeating s.facts.contactor ≡ nothing
    → timing s.session s.clock s.live ≡ nothing → eventing plan s.event s ≡ agenda → is_done agenda ≡ false
    → decided plan s ≡ record s { agenda = agenda; part = Wording }

-- ---- it waits for a word, and reads one that is whole

abbrev pub PostsWait : Type 0
PostsWait = (plan : PostPlan) (s : State) (session : Session) → IsStill plan s session
    → (is_waiting session.stage.row ≡ true) ⊎ (whole_at session.unread ≡ Ok None) → IsQuiet plan s

pub record ReadsWord (c : Codecs) (plan : PostPlan) (limit : ℕ) (s : State) (session : Session) (payload : List ℕ) (reading : Option Reading) (act : Act)
    (taken : Bool) : Type 0 where
  pub read : Reading
  pub reading_is : reading ≡ Some read
  pub judged : Judges c plan.dialects.items (speaks session.stage) payload read.judged
  pub shown : IsShown (Shows limit [] []) plan s (Some session) read.judged read.shown
  pub todo : Todo
  pub acts : first (filled plan (Some read) s).agenda ≡ Some todo
  pub done : IsDone c todo act taken

abbrev pub PostsReadWords : Codecs → Type 0
PostsReadWords c = (plan : PostPlan) (limit : ℕ) (s : State) (session : Session) (payload : List ℕ) (reading : Option Reading) (act : Act) (taken : Bool)
    → IsStill plan s session → is_waiting session.stage.row ≡ false → session.unread ≡ frame payload → IsPayload payload
    → Acts c plan (Shows limit [] []) s reading act taken → ReadsWord c plan limit s session payload reading act taken

abbrev pub PostsDontRestAtWords : Type 0
PostsDontRestAtWords = (plan : PostPlan) (s : State) (session : Session) (payload : List ℕ) → IsStill plan s session → is_waiting session.stage.row ≡ false
    → session.unread ≡ frame payload → IsPayload payload → IsQuiet plan s → ⊥
