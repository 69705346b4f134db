-- Own: what a car does in a hearing, computed: one thing behind the other, until it rests.
use Rattle.std.specs.Prelude.{ℕ, zero, suc, Bool, true, List, [], ◌∷◌, ◌++◌, Option, Some, None}
use Rattle.session_words.specs.declared.plan.CarPlan.{CarPlan}
use Rattle.session_words.specs.Causes.{number_of}
use Rattle.car_rules.specs.Searching.{search_datagram}
use Rattle.post_spec.specs.Steps.{Event}
use Rattle.car_spec.specs.Codecs.{Judged}
use Rattle.car_spec.specs.Steps.{Act, Seek, Dial, Give, Say, End, Step, Hears, Reads, Does}
use Rattle.car_spec.specs.States.{Todo, Call, Drive, Speak, Finish, Inquire, State, fresh, first}
use Rattle.car_spec.specs.Deciding.{decided}
use Rattle.car_spec.specs.Judging.{Payload, wanted, read}
use Rattle.car_spec.specs.Hearing.{hearing}
use Rattle.car_spec.specs.Acting.{acted}

-- A car so far: its steps, the newest first, what it keeps of them, and what it did in its last hearing, in order.
pub record Play : Type 0 where
  pub steps : List Step
  pub keeps : State
  pub did : List Todo

abbrev pub unplayed : Play
unplayed = record { steps = []; keeps = fresh; did = [] }

-- the act by which a thing is done. As which bytes something is said doesn't matter here
abbrev pub act_of : Todo → Act
act_of (Call port) = Dial port
act_of (Drive order) = Give order
act_of (Speak spoken) = Say spoken []
act_of (Finish cause) = End (number_of cause)
act_of Inquire = Seek search_datagram

-- acts are taken, but for those whose outcomes are said
abbrev pub outcome : List Bool → Bool
outcome [] = true
outcome (taken ∷ outcomes) = taken

abbrev pub later_outcomes : List Bool → List Bool
later_outcomes [] = []
later_outcomes (taken ∷ outcomes) = outcomes

-- the next word is read where a payload is wanted, and what follows is left to `go_on`
abbrev pub reading : CarPlan → (List Judged → List Bool → Play → Play) → List Judged → List Bool → Play → Option Payload → Play
reading plan go_on words outcomes p None = p
reading plan go_on [] outcomes p (Some payload) = p
reading plan go_on (word ∷ words) outcomes p (Some payload) =
    go_on words outcomes (record { steps = Reads word ∷ p.steps; keeps = read plan (decided plan p.keeps) word; did = p.did })

-- one thing more is done
abbrev pub doing : CarPlan → (List Judged → List Bool → Play → Play) → List Judged → List Bool → Play → Option Todo → Play
doing plan go_on words outcomes p None = reading plan go_on words outcomes p (wanted (decided plan p.keeps))
doing plan go_on words outcomes p (Some todo) = go_on words (later_outcomes outcomes) (record {
  steps = Does (act_of todo) (outcome outcomes) ∷ p.steps;
  keeps = acted (act_of todo) (outcome outcomes) (decided plan p.keeps);
  did = p.did ++ todo ∷ [];
})

-- at most so many things are done
abbrev pub play : CarPlan → ℕ → List Judged → List Bool → Play → Play
play plan zero words outcomes p = p
play plan (suc n) words outcomes p = doing plan (play plan n) words outcomes p (first (decided plan p.keeps).agenda)

-- a hearing at this moment, whose words are judged so, and whose acts have these outcomes
abbrev pub hear : CarPlan → ℕ → Event → List Judged → List Bool → Play → Play
hear plan at event words outcomes p =
    play plan 8 words outcomes (record { steps = Hears at event ∷ p.steps; keeps = hearing at event p.keeps; did = [] })
