-- Own: where in its answers to a hearing a post stops that hasn't done all: whole parts in order, and some of the next one.
use Rattle.std.specs.Prelude.{◌⊎◌, ◌≡◌, ℕ, List, [], ◌∷◌, ◌++◌, Option, Some, None}
use Rattle.session_words.specs.declared.plan.PostPlan.{PostPlan}
use Rattle.post_spec.specs.Codecs.{Codecs}
use Rattle.post_spec.specs.Steps.{Step, Reading}
use Rattle.station_spec.specs.States.{Agenda, Part, Timing, Eventing, Wording, State, Todo, first}
use Rattle.station_spec.specs.Judging.{payload_in, read, IsRead}
use Rattle.station_spec.specs.Acting.{acted, state}
use Rattle.station_spec.specs.Next.{IsDone}
use Rattle.blocks_of_runs.specs.Answers.{Move, behind, IsPart, repeats, times, asks, fronts, IsWord, joined}

-- some of what is on the agenda is done, one thing after another, and more is left (`AreDone`: nothing is)
abbrev pub IsLeft : Codecs → State → List Move → Type 0
IsLeft c s [] = first s.agenda ≡ None → ⊥
IsLeft c s (m ∷ moves) =
    (todo : Todo) × (first s.agenda ≡ Some todo) × IsDone c todo m.act m.taken × (m.reading ≡ None)
    × IsLeft c (acted m.act m.taken s) moves

-- a post stops in this part, or it has done all of it and went on so
abbrev pub StopsAt : Codecs → PostPlan → Part → (State → Agenda) → (List Step → List Move → Type 0) → List Step → List Move → Type 0
StopsAt c plan part asks WentOn steps moves =
    IsLeft c (record (state plan steps) { agenda = asks (state plan steps); part = part }) moves
    ⊎ ((done : List Move) × (rest : List Move) × (moves ≡ done ++ rest) × IsPart c plan part asks steps done × WentOn (behind done steps) rest)

-- it stops in the answers to a word: the frame at the front ends the session, or it was read
abbrev pub StopsInWord : Codecs → PostPlan → (ℕ → ℕ → Type 0) → List Step → Option Reading → Move → List Move → Type 0
StopsInWord c plan Shows steps None m moves =
    IsLeft c (record (state plan steps) { agenda = fronts (state plan steps); part = Wording }) (m ∷ moves)
StopsInWord c plan Shows steps (Some reading) m moves =
    (first (fronts (state plan steps)) ≡ None)
    × IsRead c plan Shows (state plan steps) (payload_in (state plan steps).session) (Some reading)
    × IsLeft c (read plan (state plan steps) (Some reading)) (record m { reading = None } ∷ moves)

-- whole words, and then none yet of the next, or some of it
abbrev pub AreWordsTo : Codecs → PostPlan → (ℕ → ℕ → Type 0) → List Step → List (List Move) → List Move → Type 0
AreWordsTo c plan Shows steps [] [] = Unit {0}
AreWordsTo c plan Shows steps [] (m ∷ moves) = StopsInWord c plan Shows steps m.reading m moves
AreWordsTo c plan Shows steps (word ∷ words) last = IsWord c plan Shows steps word × AreWordsTo c plan Shows (behind word steps) words last

abbrev pub StopsInWords : Codecs → PostPlan → (ℕ → ℕ → Type 0) → List Step → List Move → Type 0
StopsInWords c plan Shows steps moves =
    (words : List (List Move)) × (last : List Move) × (moves ≡ joined words ++ last) × AreWordsTo c plan Shows steps words last

-- a post that has these steps, a hearing the newest of them, stops behind these moves: while it repeats an Open, at the deadline, at what
-- the event asks for, or at the words
abbrev pub Stops : Codecs → PostPlan → (ℕ → ℕ → Type 0) → List Step → List Move → Type 0
Stops c plan Shows = StopsAt c plan Timing repeats (StopsAt c plan Eventing times (StopsAt c plan Wording (asks plan) (StopsInWords c plan Shows)))
