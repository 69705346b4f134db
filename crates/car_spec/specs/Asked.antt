-- Own: what the steps of a car tell of what it asked, and when. It is read off the steps, without what the car
-- keeps.
use Rattle.std.specs.Prelude.{ℕ, Bool, true, List, [], ◌∷◌, Option, Some, None}
use Rattle.session_words.specs.declared.word.Ask.{Ask}
use Rattle.session_words.specs.declared.word.Request.{Request}
use Rattle.car_spec.specs.Steps.{Asked, Act, Say, Step, Hears, Loses, Reads, Does}

-- now: the greatest moment heard so far
abbrev pub now : List Step → ℕ
now [] = 0
now (Hears at event ∷ steps) = at
now (Loses ∷ steps) = now steps
now (Reads word ∷ steps) = now steps
now (Does act taken ∷ steps) = now steps

-- a request that was sent, and when
pub record Sent : Type 0 where
  pub request : Request
  pub at : ℕ

abbrev pub request_in : Act → Bool → Option Request
request_in (Say (Asked dialect request) bytes) true = Some request
request_in other taken = None

abbrev pub sent_in : Option Request → ℕ → Option Sent → Option Sent
sent_in None at earlier = earlier
sent_in (Some request) at earlier = Some (record { request = request; at = at })

-- the last request
abbrev pub last_request : List Step → Option Sent
last_request [] = None
last_request (Hears at event ∷ steps) = last_request steps
last_request (Loses ∷ steps) = last_request steps
last_request (Reads word ∷ steps) = last_request steps
last_request (Does act taken ∷ steps) = sent_in (request_in act taken) (now steps) (last_request steps)

-- when that was said which has no reply yet, where there is any
abbrev pub said_in : Act → Bool → ℕ → Option ℕ → Option ℕ
said_in (Say spoken bytes) true at earlier = Some at
said_in other taken at earlier = earlier

abbrev pub awaited : List Step → Option ℕ
awaited [] = None
awaited (Hears at event ∷ steps) = awaited steps
awaited (Loses ∷ steps) = awaited steps
awaited (Reads word ∷ steps) = None
awaited (Does act taken ∷ steps) = said_in act taken (now steps) (awaited steps)
