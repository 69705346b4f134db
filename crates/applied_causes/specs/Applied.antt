-- ISO 15118-2:2014, sections 8.7 and 8.8; IEC 61851-1, annex A; IEC 61851-23: what ends a session where it applies (`Applies`) is a cause of the
-- past (`IsCause`). Of words, and of a negotiation that matched nothing, it wants that each payload is judged: a word's cause there is said of all
-- words of the stream, also of those behind it.
use Rattle.std.specs.Prelude.{◌≡◌, Bool, true, false, not, List, [], ◌∷◌, ◌++◌}
use Rattle.charge_world.specs.declared.entry.Entry.{Entry}
use Rattle.session_words.specs.declared.cause.EndCause.{EndCause}
use Rattle.session_words.specs.declared.plan.PostPlan.{PostPlan}
use Rattle.session_words.specs.declared.plan.SitePlan.{SitePlan}
use Rattle.post_spec.specs.Causes.{IsCause}
use Rattle.post_spec.specs.Codecs.{Codecs}
use Rattle.post_spec.specs.Spelled.{ReadsBack, AreDetermined, JudgesAll}
use Rattle.post_spec.specs.Steps.{Act, Give, Send, Answer, End, Step, Hears, Does}
use Rattle.station_spec.specs.Sharing.{Post}
use Rattle.station_spec.specs.Runs.{IsRun}
use Rattle.caused_ends.specs.Applying.{Applies, OfCall, OfDeadline, OfHearing, OfFrame, OfPayload}
use Rattle.caused_ends.specs.Ending.{HasCome}

-- the steps up to the newest hearing
abbrev pub to_hearing : List Step → List Step
to_hearing [] = []
to_hearing (Hears at event ∷ steps) = Hears at event ∷ steps
to_hearing (Does reading act taken ∷ steps) = to_hearing steps

-- the newest step is an order or a reply that failed: a negotiation that matched nothing (`OfCall` too) is a cause by its word
abbrev pub has_failed : Act → Bool → Bool
has_failed (Give order) taken = not taken
has_failed (Send bytes) taken = not taken
has_failed (Answer bytes) taken = false
has_failed (End cause) taken = false

abbrev pub call_failed : List Step → Bool
call_failed [] = false
call_failed (Hears at event ∷ steps) = false
call_failed (Does reading act taken ∷ steps) = has_failed act taken

-- the cause that a thing that applies is: of the steps up to there, or of those up to the hearing that told it
abbrev pub IsCauseBy : (c : Codecs) (plan : PostPlan) (steps : List Step) (cause : EndCause) → Applies c plan steps cause → Type 0
IsCauseBy c plan steps cause (OfCall lives is) = call_failed steps ≡ true → IsCause c plan steps cause
IsCauseBy c plan steps cause (OfDeadline judged is) = IsCause c plan steps cause
IsCauseBy c plan steps cause (OfHearing judged in_time is) = IsCause c plan (to_hearing steps) cause
IsCauseBy c plan steps cause (OfFrame turn is) = Unit {0}
IsCauseBy c plan steps cause (OfPayload turn is) = Unit {0}

abbrev pub ApplyCauses : Codecs → PostPlan → List Step → Type 0
ApplyCauses c plan [] = Unit {0}
ApplyCauses c plan (step ∷ steps) =
    ApplyCauses c plan steps × ((cause : EndCause) → (applies : Applies c plan (step ∷ steps) cause) → IsCauseBy c plan (step ∷ steps) cause applies)

-- in every run, of each post
abbrev pub RunsApplyCauses : Codecs → Type 0
RunsApplyCauses c = (site : SitePlan) (past : List Entry) (posts before : List Post) (post : Post) (behind : List Post)
    → IsRun c site past posts → posts ≡ before ++ post ∷ behind → ApplyCauses c post.plan post.steps

-- ---- words

-- no cause came before in the session
abbrev pub IsFresh : Codecs → PostPlan → List Step → Type 0
IsFresh c plan steps = (earlier : EndCause) → HasCome c plan steps earlier → ⊥

-- a call, also the response to a negotiation that matched nothing, and a word that ends a session which has no cause yet
abbrev pub IsWordCause : (c : Codecs) (plan : PostPlan) (steps : List Step) (cause : EndCause) → Applies c plan steps cause → Type 0
IsWordCause c plan steps cause (OfCall lives is) = IsCause c plan steps cause
IsWordCause c plan steps cause (OfDeadline judged is) = Unit {0}
IsWordCause c plan steps cause (OfHearing judged in_time is) = Unit {0}
IsWordCause c plan steps cause (OfFrame turn is) = IsFresh c plan steps → IsCause c plan steps cause
IsWordCause c plan steps cause (OfPayload turn is) = IsFresh c plan steps → IsCause c plan steps cause

abbrev pub ApplyWords : Codecs → PostPlan → List Step → Type 0
ApplyWords c plan [] = Unit {0}
ApplyWords c plan (step ∷ steps) =
    ApplyWords c plan steps × ((cause : EndCause) → (applies : Applies c plan (step ∷ steps) cause) → IsWordCause c plan (step ∷ steps) cause applies)

-- in every run, of each post
abbrev pub RunsApplyWords : Codecs → Type 0
RunsApplyWords c = (site : SitePlan) (past : List Entry) (posts before : List Post) (post : Post) (behind : List Post)
    → ReadsBack c → AreDetermined c → JudgesAll c → IsRun c site past posts → posts ≡ before ++ post ∷ behind → ApplyWords c post.plan post.steps
