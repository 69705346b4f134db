-- Own: what a post does in a hearing, computed: one thing behind the other, until it rests.
use Rattle.std.specs.Prelude.{ℕ, zero, suc, Bool, true, List, [], ◌∷◌, ◌++◌, Option, Some, None}
use Rattle.session_words.specs.declared.plan.PostPlan.{PostPlan}
use Rattle.session_words.specs.Causes.{number_of}
use Rattle.post_spec.specs.Steps.{Event, Act, Send, Answer, End, Reading, Step, Hears, Does}
use Rattle.post_spec.specs.Steps as steps
use Rattle.station_spec.specs.States.{Todo, Tell, Give, Say, Finish, State, fresh, first}
use Rattle.station_spec.specs.Deciding.{decided}
use Rattle.station_spec.specs.Judging.{Payload, wanted, filled}
use Rattle.station_spec.specs.Hearing.{hearing}
use Rattle.station_spec.specs.Acting.{acted}

-- A post so far: its steps, the newest first, what it keeps of them, and what it did in its last hearing, in order.
pub record Play : Type 0 where
  pub steps : List Step
  pub keeps : State
  pub did : List Todo

abbrev pub unplayed : Play
unplayed = record { steps = []; keeps = fresh; did = [] }

-- the act by which a thing is done. As which bytes a reply is sent doesn't matter here
abbrev pub act_of : Todo → Act
act_of (Tell datagram) = Answer datagram
act_of (Give order) = steps.Give order
act_of (Say spoken) = Send []
act_of (Finish cause) = End (number_of cause)

-- the next word is read where a payload is wanted
abbrev pub next_word : Option Payload → List Reading → Option Reading
next_word None words = None
next_word (Some payload) [] = None
next_word (Some payload) (word ∷ words) = Some word

abbrev pub later_words : Option Reading → List Reading → List Reading
later_words None words = words
later_words (Some read) [] = []
later_words (Some read) (word ∷ words) = words

-- acts are taken, but for those whose outcomes are said
abbrev pub outcome : List Bool → Bool
outcome [] = true
outcome (taken ∷ outcomes) = taken

abbrev pub later_outcomes : List Bool → List Bool
later_outcomes [] = []
later_outcomes (taken ∷ outcomes) = outcomes

-- one thing more is done, and what follows is left to `go_on`
abbrev pub doing : PostPlan → (List Reading → List Bool → Play → Play) → List Reading → List Bool → Play
    → Option Reading → Option Todo → Play
doing plan go_on words outcomes p read None = p
doing plan go_on words outcomes p read (Some todo) = go_on (later_words read words) (later_outcomes outcomes) (record {
  steps = Does read (act_of todo) (outcome outcomes) ∷ p.steps;
  keeps = acted (act_of todo) (outcome outcomes) (filled plan read p.keeps);
  did = p.did ++ todo ∷ [];
})

-- at most so many things are done
abbrev pub play : PostPlan → ℕ → List Reading → List Bool → Play → Play
play plan zero words outcomes p = p
play plan (suc n) words outcomes p =
    let read = next_word (wanted (decided plan p.keeps)) words in
    doing plan (play plan n) words outcomes p read (first (filled plan read p.keeps).agenda)

-- a hearing at this moment, whose words are judged so, and whose orders and replies have these outcomes
abbrev pub hear : PostPlan → ℕ → Event → List Reading → List Bool → Play → Play
hear plan at event words outcomes p =
    play plan 6 words outcomes (record { steps = Hears at event ∷ p.steps; keeps = hearing at event p.keeps; did = [] })
