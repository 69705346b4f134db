-- Own: what a session of a foreign trace talked about: each word that was answered, with the reply to it.
use Rattle.std.specs.Prelude.{ℕ, Bool, false, ◌||◌, if◌then◌else◌, List, [], ◌∷◌, map, Option, Some, None, is_some}
use Rattle.session_words.specs.declared.plan.PostPlan.{PostPlan}
use Rattle.session_rules.specs.Asks.{shows_watts}
use Rattle.post_spec.specs.Sessions.{arriving, session}
use Rattle.post_spec.specs.Steps.{Act, Give, Send, Answer, End, Seen}
use Rattle.post_spec.specs.Talk.{Exchange, Negotiation, Answered}
use Rattle.told_pasts.specs.Spelling.{spelled_in}
use Rattle.told_pasts.specs.Steps.{Said, Response, Replied, Other, Unasked, ToldStep, Hears, Does, Sends, seen_in}

-- what was said to a word, the past before that, and the past over which the word was judged
pub record Reply : Type 0 where
  pub said : Said
  pub before : List Seen
  pub judged : List Seen

-- the session goes on behind an act, but not behind its end
abbrev pub unless_end : {A : Type 0} → Act → A → A → A
unless_end (Give order) ended goes_on = goes_on
unless_end (Send bytes) ended goes_on = goes_on
unless_end (Answer bytes) ended goes_on = goes_on
unless_end (End cause) ended goes_on = ended

-- the first word without a reply was judged
abbrev pub is_judged : List ToldStep → Bool
is_judged [] = false
is_judged (Hears at event ∷ steps) = if is_some (arriving (seen_in steps)) then false else is_judged steps
is_judged (Does reading act taken ∷ steps) = unless_end act false (is_some reading || is_judged steps)
is_judged (Sends reading bytes taken said ∷ steps) = false

-- the past over which a word was judged last
abbrev pub judged_by : {A : Type 0} → Option A → List Seen → List Seen → List Seen
judged_by None past earlier = earlier
judged_by (Some reading) past earlier = past

abbrev pub judged_over : List ToldStep → List Seen
judged_over [] = []
judged_over (Hears at event ∷ steps) = judged_over steps
judged_over (Does reading act taken ∷ steps) = judged_by reading (seen_in steps) (judged_over steps)
judged_over (Sends reading bytes taken said ∷ steps) = judged_by reading (seen_in steps) (judged_over steps)

-- what was said to the words of the living session, the newest first
abbrev pub with_said : Said → List Seen → List Seen → List Reply → List Reply
with_said Unasked before judged replies = replies
with_said said before judged replies = record { said = said; before = before; judged = judged } ∷ replies

abbrev pub replies : List ToldStep → List Reply
replies [] = []
replies (Hears at event ∷ steps) = if is_some (arriving (seen_in steps)) then [] else replies steps
replies (Does reading act taken ∷ steps) = unless_end act [] (replies steps)
replies (Sends reading bytes taken said ∷ steps) =
    if is_some (session (seen_in steps)) then with_said said (seen_in steps) (judged_by reading (seen_in steps) (judged_over steps)) (replies steps) else []

-- as exchanges: a negotiation counts as matched where the rule chose a dialect and the response said so. What is no answer to a word is no
-- good answer
abbrev pub exchange_by : Said → List Seen → Exchange
exchange_by (Response chosen positive) before = Negotiation (if positive then chosen else None)
exchange_by (Replied request reply watts) before = Answered request reply before
exchange_by Other before = Negotiation None
exchange_by Unasked before = Negotiation None

abbrev pub exchange_of : Reply → Exchange
exchange_of reply = exchange_by reply.said reply.before

abbrev pub talk : List ToldStep → List Exchange
talk steps = map exchange_of (replies steps)

-- the watts that the last reply to ChargeParameterDiscovery, CurrentDemand or ChargingStatus spells, 0 without one
abbrev pub spelled_or : PostPlan → Said → ℕ → ℕ
spelled_or plan (Response chosen positive) earlier = earlier
spelled_or plan (Replied request reply watts) earlier = if shows_watts request.ask then spelled_in plan watts else earlier
spelled_or plan Other earlier = earlier
spelled_or plan Unasked earlier = earlier

abbrev pub spelled_by : PostPlan → List Reply → ℕ
spelled_by plan [] = 0
spelled_by plan (reply ∷ earlier) = spelled_or plan reply.said (spelled_by plan earlier)

abbrev pub spelled : PostPlan → List ToldStep → ℕ
spelled plan steps = spelled_by plan (replies steps)
