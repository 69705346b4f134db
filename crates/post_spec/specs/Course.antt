-- ISO 15118-2:2014, section 8.8.4: how far the words of a session have led it. The row is reached along the words; whether each was
-- accepted is judged by what the charger told just before the post's first act about it.
use Rattle.std.specs.Prelude.{ℕ, Bool, true, false, ◌&&◌, ◌==◌, if◌then◌else◌, List, [], ◌∷◌, map, Option, Some, None, unwrap_or}
use Rattle.charge_world.specs.declared.heard.PlantEvent.TheVariants as plant
use Rattle.charge_world.specs.declared.offer.Dialect.{Dialect}
use Rattle.session_words.specs.declared.facts.Facts.{Facts}
use Rattle.session_words.specs.declared.plan.PostPlan.{PostPlan}
use Rattle.session_words.specs.declared.session.SessionId.{SessionId}
use Rattle.session_words.specs.declared.word.Request.{Request}
use Rattle.session_rules.specs.declared.allowed.Lowered.{Lowered}
use Rattle.session_rules.specs.declared.stage.Stage.{Stage}
use Rattle.session_rules.specs.Allowed.{allowed_watts, lowered_by}
use Rattle.session_rules.specs.Asks.{asks, shows_watts}
use Rattle.session_rules.specs.Moves.{stage_behind, facts_behind}
use Rattle.session_rules.specs.Stages.{first_stage, negotiated, confirmed}
use Rattle.session_rules.specs.Verdict.{verdict, is_accepted}
use Rattle.post_spec.specs.Codecs.{Judged, Negotiated, Asked, WrongSide, Refused}
use Rattle.post_spec.specs.Facts.{now, pilot, isolation, measured, paid, stop}
use Rattle.post_spec.specs.Contactors.{standing}
use Rattle.post_spec.specs.Sessions.{arriving, token_of}
use Rattle.post_spec.specs.Steps.{Event, Came, Plant, Act, Give, Send, Answer, End, Seen, Heard, Did, Reading, Step, Hears, Does, seen_of}

-- what the words made of a session: its stage, the watts that it asks for, and those that stay allowed
pub record Talked : Type 0 where
  pub stage : Stage
  pub asked : ℕ
  pub lowered : Option Lowered

-- and of its post: the paused session to which a car may come back, whether this one joined it, and whether the car is still to be asked
-- to negotiate anew
pub record Course : Type 0 where
  pub session : Option Talked
  pub kept : Option SessionId
  pub joined : Bool
  pub renew : Bool

abbrev pub unmoved : Course
unmoved = record { session = None; kept = None; joined = false; renew = false }

-- a connection opens a session behind its block
abbrev pub opened : Option Seen → Course → Course
opened None c = c
opened (Some (Heard at event)) c =
    record c { session = Some (record { stage = first_stage (token_of event); asked = 0; lowered = None }); joined = false }
opened (Some (Did act taken)) c = c

abbrev pub renew_heard : Event → Bool → Bool
renew_heard (Came token) renew = false
renew_heard (Plant plant.RenewAsked) renew = true
renew_heard other renew = renew

-- what the post knows of its charger and keeps, as it judges a word
abbrev pub facts_of : List Seen → Course → Facts
facts_of past c = record {
  pilot = pilot past;
  isolation = isolation past;
  voltage = (measured past).0;
  current = (measured past).1;
  paid = paid past;
  stop = stop past;
  contactor = standing past;
  kept = c.kept;
  joined = c.joined;
  renew = c.renew;
}

abbrev pub asked_talk : Talked → Facts → PostPlan → Request → ℕ → ℕ → Talked
asked_talk t facts plan r shown at = record {
  stage = stage_behind t.stage facts plan r shown;
  asked = if is_accepted (verdict t.stage facts plan r) then unwrap_or (asks plan r.ask) t.asked else t.asked;
  lowered = if is_accepted (verdict t.stage facts plan r) && shows_watts r.ask
      then lowered_by t.stage.told t.lowered at shown else t.lowered;
}

abbrev pub asked_course : Talked → Facts → Facts → PostPlan → Request → ℕ → ℕ → Course
asked_course t facts after plan r shown at =
    record { session = Some (asked_talk t facts plan r shown at); kept = after.kept; joined = after.joined; renew = after.renew }

abbrev pub chosen_talk : Talked → Option Dialect → Talked
chosen_talk t None = t
chosen_talk t (Some dialect) = record t { stage = negotiated t.stage dialect }

-- a word was judged
abbrev pub read_in : Talked → List Seen → Course → PostPlan → Judged → ℕ → Course
read_in t past c plan (Negotiated chosen response) shown = record c { session = Some (chosen_talk t chosen) }
read_in t past c plan (Asked r) shown =
    asked_course t (facts_of past c) (facts_behind t.stage (facts_of past c) plan r) plan r shown (now past)
read_in t past c plan WrongSide shown = c
read_in t past c plan Refused shown = c

abbrev pub read_by : Option Talked → List Seen → Course → PostPlan → Option Reading → Course
read_by None past c plan reading = c
read_by (Some t) past c plan None = c
read_by (Some t) past c plan (Some reading) = read_in t past c plan reading.judged reading.shown

-- a reply that waited leads to the next row
abbrev pub confirmed_in : Option Talked → Option Talked
confirmed_in None = None
confirmed_in (Some t) = Some (record t { stage = confirmed t.stage })

-- a session that ends paused (29) leaves its identifier
abbrev pub kept_by : Option Talked → ℕ → Option SessionId → Option SessionId
kept_by None cause kept = kept
kept_by (Some t) cause kept = if cause == 29 then Some t.stage.session else kept

abbrev pub acted : Act → Bool → Course → Course
acted (Give order) taken c = c
acted (Answer bytes) taken c = c
acted (Send bytes) false c = c
acted (Send bytes) true c = record c { session = confirmed_in c.session }
acted (End cause) taken c = record { session = None; kept = kept_by c.session cause c.kept; joined = false; renew = c.renew }

abbrev pub course : PostPlan → List Step → Course
course plan [] = unmoved
course plan (Hears at event ∷ steps) =
    let c = opened (arriving (map seen_of steps)) (course plan steps) in record c { renew = renew_heard event c.renew }
course plan (Does reading act taken ∷ steps) =
    let c = course plan steps in acted act taken (read_by c.session (map seen_of steps) c plan reading)

-- the watts that a post asks for, those that it was told, and those that are allowed now: none without a session
abbrev pub ask_in : Option Talked → ℕ
ask_in None = 0
ask_in (Some t) = t.asked

abbrev pub told_in : Option Talked → ℕ
told_in None = 0
told_in (Some t) = t.stage.told

abbrev pub allowed_in : Option Talked → ℕ → ℕ
allowed_in None at = 0
allowed_in (Some t) at = allowed_watts t.stage.told t.lowered at

abbrev pub ask : PostPlan → List Step → ℕ
ask plan steps = ask_in (course plan steps).session

abbrev pub told : PostPlan → List Step → ℕ
told plan steps = told_in (course plan steps).session

abbrev pub allowed : PostPlan → List Step → ℕ
allowed plan steps = allowed_in (course plan steps).session (now (map seen_of steps))
