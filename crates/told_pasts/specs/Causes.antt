-- IEC 61851-1 (the pilot), IEC 61851-23 (isolation), ISO 15118-2:2014, sections 8.7 and 8.8: what ends a session of a foreign trace. Which cause
-- is the first, and which Open it asks for, is own.
use Rattle.std.specs.Prelude.{◌≡◌, ◌≤◌, ◌<◌, ℕ, Bool, true, false, List, [], ◌∷◌, Option, Some, None, ◌⊎◌}
use Rattle.charge_world.specs.declared.ports.Order.{Order}
use Rattle.charge_world.specs.declared.ports.Order.TheVariants as order
use Rattle.session_words.specs.declared.cause.EndCause.{EndCause}
use Rattle.session_words.specs.declared.cause.EndCause.TheVariants.{Gone as ConnectionGone, RunOver, SendFailed, OrderFailed, NoNegotiation}
use Rattle.session_words.specs.declared.plan.PostPlan.{PostPlan}
use Rattle.session_words.specs.Causes.{cause_of}
use Rattle.session_timers.specs.Due.{never}
use Rattle.session_rules.specs.Causes.{plant_cause, word_cause}
use Rattle.session_rules.specs.Stages.{is_set_up}
use Rattle.post_spec.specs.Causes.{running, due, found_word, watch}
use Rattle.post_spec.specs.Course.{Talked}
use Rattle.post_spec.specs.Contactors.{live}
use Rattle.post_spec.specs.Sessions.{arriving, session, waits}
use Rattle.post_spec.specs.Steps.{Event, Came, Bytes, Gone, Datagram, Plant, Clock, Over, Give, End, Seen, Reading}
use Rattle.post_spec.specs.Talk.{Unless}
use Rattle.post_spec.specs.Words.{HeardWord}
use Rattle.told_pasts.specs.Course.{told_course}
use Rattle.told_pasts.specs.Reading.{IsNext}
use Rattle.told_pasts.specs.Spelling.{ToldCodecs}
use Rattle.told_pasts.specs.Steps.{Said, Response, ToldStep, Hears, Does, Sends, seen_in}

-- the cause that a hearing behind this past is in a session, if it is one
abbrev pub heard_cause : PostPlan → Talked → List Seen → ℕ → Event → Option EndCause
heard_cause plan t past at (Came token) = Some ConnectionGone
heard_cause plan t past at (Bytes bytes) = None
heard_cause plan t past at Gone = Some ConnectionGone
heard_cause plan t past at (Datagram bytes) = None
heard_cause plan t past at (Plant event) = plant_cause (watch plan t past (live past) at) event
heard_cause plan t past at Clock = None
heard_cause plan t past at Over = Some RunOver

-- a word comes next: bytes were heard, the reply to the word before it was sent, or the order to close, behind whose Start none may come
abbrev pub ComesNext : List ToldStep → Type 0
ComesNext [] = ⊥
ComesNext (Hears at (Bytes bytes) ∷ steps) = Unit {0}
ComesNext (Hears at event ∷ steps) = ⊥
ComesNext (Does reading (Give order.Close) true ∷ steps) = Unit {0}
ComesNext (Does reading act taken ∷ steps) = ⊥
ComesNext (Sends reading bytes true said ∷ steps) = Unit {0}
ComesNext (Sends reading bytes false said ∷ steps) = ⊥

-- a cause comes with the newest step
pub data ComesWith (c : ToldCodecs) (plan : PostPlan) : List ToldStep → EndCause → Type 0 where
  -- a deadline is reached
  IsDue : (at : ℕ) (event : Event) (steps : List ToldStep) (t : Talked) (es : List Seen)
      → (told_course plan (Hears at event ∷ steps)).session ≡ Some t → session (seen_in (Hears at event ∷ steps)) ≡ Some es
      → due (Some t) es ≤ at → due (Some t) es < never
      → ComesWith c plan (Hears at event ∷ steps) (cause_of (running (is_set_up t.stage.row) (waits es)))
  -- the charger told something, the connection ended or another one came, or nothing more will be heard
  IsHeard : (at : ℕ) (event : Event) (steps : List ToldStep) (t : Talked) (cause : EndCause)
      → (told_course plan (Hears at event ∷ steps)).session ≡ Some t → heard_cause plan t (seen_in steps) at event ≡ Some cause
      → ComesWith c plan (Hears at event ∷ steps) cause
  -- a reply couldn't be sent, or the charger didn't take an order
  HasNotSent : (reading : Option Reading) (bytes : List ℕ) (said : Said) (steps : List ToldStep) (es : List Seen)
      → session (seen_in steps) ≡ Some es → ComesWith c plan (Sends reading bytes false said ∷ steps) SendFailed
  HasNotDriven : (reading : Option Reading) (given : Order) (steps : List ToldStep) (es : List Seen)
      → session (seen_in steps) ≡ Some es → ComesWith c plan (Does reading (Give given) false ∷ steps) OrderFailed
  -- the response to a negotiation that matched nothing was sent
  HasNoMatch : (reading : Option Reading) (bytes : List ℕ) (positive : Bool) (steps : List ToldStep)
      → ComesWith c plan (Sends reading bytes true (Response None positive) ∷ steps) NoNegotiation
  -- the next word ends it
  IsWord : (steps : List ToldStep) (t : Talked) (word : HeardWord) (cause : EndCause)
      → ComesNext steps → (told_course plan steps).session ≡ Some t → (next : IsNext c.words plan.dialects.items (seen_in steps) word)
      → word_cause (waits next.es) (found_word t (seen_in steps) (told_course plan steps) plan word) ≡ Some cause
      → ComesWith c plan steps cause

-- a cause came in the session that lives behind a step, before that step: a connection opens another session behind its block, and an end ends it
abbrev pub CameBefore : Type 0 → ToldStep → List ToldStep → Type 0
CameBefore Earlier (Hears at event) steps = Unless (arriving (seen_in steps)) Earlier ⊥
CameBefore Earlier (Does reading (End cause) taken) steps = ⊥
CameBefore Earlier (Does reading act taken) steps = Earlier
CameBefore Earlier (Sends reading bytes taken said) steps = Earlier

abbrev pub HasCause : ToldCodecs → PostPlan → List ToldStep → Type 0
HasCause c plan [] = ⊥
HasCause c plan (step ∷ steps) =
    ((cause : EndCause) × ComesWith c plan (step ∷ steps) cause) ⊎ CameBefore (HasCause c plan steps) step steps

-- the first cause of its session comes with the newest step, and the contactor is live
pub record IsFirst (c : ToldCodecs) (plan : PostPlan) (step : ToldStep) (steps : List ToldStep) : Type 0 where
  pub cause : EndCause
  pub comes : ComesWith c plan (step ∷ steps) cause
  pub first : CameBefore (HasCause c plan steps) step steps → ⊥
  pub live_is : live (seen_in (step ∷ steps)) ≡ true

-- so in this block, and no order to open behind it
abbrev pub GoesOn : ToldStep → Type 0
GoesOn (Hears at event) = ⊥
GoesOn (Does reading (Give order.Open) taken) = ⊥
GoesOn (Does reading act taken) = Unit {0}
GoesOn (Sends reading bytes taken said) = Unit {0}

abbrev pub OwesOpen : ToldCodecs → PostPlan → List ToldStep → Type 0
OwesOpen c plan [] = ⊥
OwesOpen c plan (step ∷ steps) = IsFirst c plan step steps ⊎ (GoesOn step × OwesOpen c plan steps)
