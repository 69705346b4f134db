-- Own: what a post answers in one block, as a whole list in three parts: a contactor whose last order failed is ordered open again;
-- the deadline; what the event asks for. ISO 15118-2:2014, sections 8.7 and 8.8, have the deadlines and the sequence.
use Rattle.std.specs.Prelude.{◌≡◌, ℕ, Bool, List, [], ◌∷◌, ◌++◌, Option, Some, None}
use Rattle.session_words.specs.declared.plan.PostPlan.{PostPlan}
use Rattle.post_spec.specs.Codecs.{Codecs}
use Rattle.post_spec.specs.Steps.{Act, Step, Does, Reading}
use Rattle.station_spec.specs.States.{Agenda, Part, Timing, Eventing, Wording, State, Todo, first}
use Rattle.station_spec.specs.Deciding.{repeating, timing, eventing, fronting}
use Rattle.station_spec.specs.Judging.{payload_in, read, IsRead}
use Rattle.station_spec.specs.Acting.{acted, state}
use Rattle.station_spec.specs.Next.{IsDone}

-- one thing that a post did: what was read for it, where a word was, the act, and whether it was taken
pub record Move : Type 0 where
  pub reading : Option Reading
  pub act : Act
  pub taken : Bool

-- the steps of a post behind these moves, the first of them made first
abbrev pub behind : List Move → List Step → List Step
behind [] steps = steps
behind (m ∷ moves) steps = behind moves (Does m.reading m.act m.taken ∷ steps)

-- All that is on the agenda is done, one thing after another. What fails, and what follows then, changes it (`acted`).
abbrev pub AreDone : Codecs → State → List Move → Type 0
AreDone c s [] = first s.agenda ≡ None
AreDone c s (m ∷ moves) =
    (todo : Todo) × (first s.agenda ≡ Some todo) × IsDone c todo m.act m.taken × (m.reading ≡ None)
    × AreDone c (acted m.act m.taken s) moves

-- the moves of a part that puts this on the agenda of a post
abbrev pub IsPart : Codecs → PostPlan → Part → (State → Agenda) → List Step → List Move → Type 0
IsPart c plan part asks steps moves = AreDone c (record (state plan steps) { agenda = asks (state plan steps); part = part }) moves

abbrev pub repeats : State → Agenda
repeats s = repeating s.facts.contactor

abbrev pub times : State → Agenda
times s = timing s.session s.clock s.live

abbrev pub asks : PostPlan → State → Agenda
asks plan s = eventing plan s.event s

abbrev pub fronts : State → Agenda
fronts s = fronting s.session s.live

-- The answers to one word. A word without a reading ends its session: the frame at the front has a fault, or it came while a reply
-- waited. Any other is read, and all that it asks for is done.
abbrev pub IsWordBy : Codecs → PostPlan → (ℕ → ℕ → Type 0) → List Step → Option Reading → Move → List Move → Type 0
IsWordBy c plan Shows steps None m moves = IsPart c plan Wording fronts steps (m ∷ moves)
IsWordBy c plan Shows steps (Some reading) m moves =
    (first (fronts (state plan steps)) ≡ None)
    × IsRead c plan Shows (state plan steps) (payload_in (state plan steps).session) (Some reading)
    × AreDone c (read plan (state plan steps) (Some reading)) (record m { reading = None } ∷ moves)

abbrev pub IsWord : Codecs → PostPlan → (ℕ → ℕ → Type 0) → List Step → List Move → Type 0
IsWord c plan Shows steps [] = ⊥
IsWord c plan Shows steps (m ∷ moves) = IsWordBy c plan Shows steps m.reading m moves

-- the answers to the words, until no whole frame is left
abbrev pub AreWords : Codecs → PostPlan → (ℕ → ℕ → Type 0) → List Step → List (List Move) → Type 0
AreWords c plan Shows steps [] = (first (fronts (state plan steps)) ≡ None) × (payload_in (state plan steps).session ≡ None)
AreWords c plan Shows steps (word ∷ words) = IsWord c plan Shows steps word × AreWords c plan Shows (behind word steps) words

abbrev pub joined : List (List Move) → List Move
joined [] = []
joined (moves ∷ more) = moves ++ joined more

-- the answers of a post that has these steps, a hearing the newest of them
pub record Answers (c : Codecs) (plan : PostPlan) (Shows : ℕ → ℕ → Type 0) (steps : List Step) (moves : List Move) : Type 0 where
  pub repeated : List Move
  pub timed : List Move
  pub asked : List Move
  pub words : List (List Move)
  pub moves_are : moves ≡ repeated ++ (timed ++ (asked ++ joined words))
  pub first : IsPart c plan Timing repeats steps repeated
  pub second : IsPart c plan Eventing times (behind repeated steps) timed
  pub third : IsPart c plan Wording (asks plan) (behind timed (behind repeated steps)) asked
  pub last : AreWords c plan Shows (behind asked (behind timed (behind repeated steps))) words
