-- A reply counts as a charging reply exactly where the car goes on from it as from one.
use Rattle.std.proofs.Common.{◌≡◌, ℕ, ◌+◌, Bool, true, false, if◌then◌else◌, Some, None, refl, sym, ◌∙◌, arith}
use Rattle.charge_world.specs.declared.offer.Dialect.{Dialect}
use Rattle.session_words.specs.declared.cause.EndCause.{EndCause}
use Rattle.session_words.specs.declared.cause.EndCause.TheVariants.{WrongReply, CodeFailed}
use Rattle.session_words.specs.declared.mode.Mode.{Mode}
use Rattle.session_words.specs.declared.plan.CarPlan.{CarPlan}
use Rattle.session_words.specs.declared.session.SessionId.{SessionId}
use Rattle.session_words.specs.declared.word.Ask.{Ask}
use Rattle.session_words.specs.declared.word.Ask.TheVariants as ask
use Rattle.session_words.specs.declared.word.Reply.{Reply}
use Rattle.session_words.specs.declared.word.Tell.{Tell}
use Rattle.session_words.specs.declared.word.Tell.TheVariants as tell
use Rattle.session_rules.specs.Finishing.{is_ac}
use Rattle.session_rules.specs.Stages.{is_same}
use Rattle.session_rules.specs.Verdict.{is_accepted}
use Rattle.car_rules.specs.declared.stage.CarPhase.{CarPhase}
use Rattle.car_rules.specs.declared.stage.CarPhase.TheVariants as phase
use Rattle.car_rules.specs.declared.stage.CarStage.{CarStage}
use Rattle.car_rules.specs.Moves.{cycles_behind}
use Rattle.car_rules.specs.Replies.{answers, lacks_mode, reply_cause}
use Rattle.car_rules.specs.Requests.{charging_ask, request_of}
use Rattle.car_spec.specs.Told.{asks_charging, is_cycle}

charging_if : (plan : CarPlan) (b : Bool) → is_ac plan.mode ≡ b → asks_charging (charging_ask plan) ≡ true
charging_if plan true e = rw e refl
charging_if plan false e = rw e refl

-- a charging reply offers no modes
no_modes : (own : Mode) (a : Ask) (t : Tell) → asks_charging a ≡ true → answers a t ≡ true → lacks_mode own t ≡ false
no_modes own (ask.CurrentDemand ready soc v c) (tell.CurrentDemand status voltage current cc_ vc wc mv mc mw evse) h k = refl
no_modes own ask.ChargingStatus (tell.ChargingStatus notify evse current) h k = refl
no_modes own a t h k = cc

abbrev staged : CarPhase → Dialect → SessionId → ℕ → CarStage
staged ph d session n = record { phase = ph; dialect = d; session = session; cycles = n }

pub record Counts (plan : CarPlan) (stage : CarStage) (r : Reply) : Type 0 where
  pub goes_on : reply_cause plan stage true r ≡ None → cycles_behind stage.phase stage.cycles ≡ stage.cycles + (if is_cycle (request_of plan stage) r then 1 else 0)
  pub ends : (cause : EndCause) → reply_cause plan stage true r ≡ Some cause → is_cycle (request_of plan stage) r ≡ false

-- in the other phases none counts
uncounted : (plan : CarPlan) (stage : CarStage) (r : Reply) → is_cycle (request_of plan stage) r ≡ false → cycles_behind stage.phase stage.cycles ≡ stage.cycles → Counts plan stage r
uncounted plan stage r n same = record {
  goes_on = λ h. rw n (same ∙ omega arith);
  ends = λ cause h. n;
}

-- while the car charges
charging_counts : (plan : CarPlan) (d : Dialect) (session : SessionId) (n : ℕ) (r : Reply) (a m k : Bool) → answers (charging_ask plan) r.tell ≡ a → is_same r.session session ≡ m
    → is_accepted r.code ≡ k → Counts plan (staged phase.Charging d session n) r
charging_counts plan d session n r false m k ea em ek =
    let stage : CarStage = staged phase.Charging d session n in
    let wrong : reply_cause plan stage true r ≡ Some WrongReply = rw ea refl in
    let none : is_cycle (request_of plan stage) r ≡ false = rw (charging_if plan _ refl, ea) refl in
    record { goes_on = λ h. (let x : Some WrongReply ≡ None = sym wrong ∙ h in cc); ends = λ cause h. none }
charging_counts plan d session n r true false k ea em ek =
    let stage : CarStage = staged phase.Charging d session n in
    let wrong : reply_cause plan stage true r ≡ Some WrongReply = rw (ea, em) refl in
    let none : is_cycle (request_of plan stage) r ≡ false = rw (charging_if plan _ refl, ea, em) refl in
    record { goes_on = λ h. (let x : Some WrongReply ≡ None = sym wrong ∙ h in cc); ends = λ cause h. none }
charging_counts plan d session n r true true false ea em ek =
    let stage : CarStage = staged phase.Charging d session n in
    let failed : reply_cause plan stage true r ≡ Some CodeFailed = rw (ea, em, ek) refl in
    let none : is_cycle (request_of plan stage) r ≡ false = rw (charging_if plan _ refl, ea, em, ek) refl in
    record { goes_on = λ h. (let x : Some CodeFailed ≡ None = sym failed ∙ h in cc); ends = λ cause h. none }
charging_counts plan d session n r true true true ea em ek =
    let stage : CarStage = staged phase.Charging d session n in
    let modes : lacks_mode plan.mode r.tell ≡ false = no_modes plan.mode (charging_ask plan) r.tell (charging_if plan _ refl) ea in
    let good : reply_cause plan stage true r ≡ None = rw (ea, em, ek, modes) refl in
    let one : is_cycle (request_of plan stage) r ≡ true = rw (charging_if plan _ refl, ea, em, ek) refl in
    record { goes_on = λ h. rw one refl; ends = λ cause h. (let x : None ≡ Some cause = sym good ∙ h in cc) }

counts_in : (plan : CarPlan) (d : Dialect) (session : SessionId) (n : ℕ) (r : Reply) (ph : CarPhase) → Counts plan (staged ph d session n) r
counts_in plan d session n r phase.SettingUp = uncounted plan (staged phase.SettingUp d session n) r refl refl
counts_in plan d session n r phase.Discovering = uncounted plan (staged phase.Discovering d session n) r refl refl
counts_in plan d session n r phase.Selecting = uncounted plan (staged phase.Selecting d session n) r refl refl
counts_in plan d session n r phase.Authorizing = uncounted plan (staged phase.Authorizing d session n) r refl refl
counts_in plan d session n r phase.Asking = uncounted plan (staged phase.Asking d session n) r refl refl
counts_in plan d session n r phase.CableChecking = uncounted plan (staged phase.CableChecking d session n) r refl refl
counts_in plan d session n r phase.PreCharging = uncounted plan (staged phase.PreCharging d session n) r refl refl
counts_in plan d session n r phase.Starting = uncounted plan (staged phase.Starting d session n) r refl refl
counts_in plan d session n r phase.Charging = charging_counts plan d session n r _ _ _ refl refl refl
counts_in plan d session n r phase.Stopping = uncounted plan (staged phase.Stopping d session n) r refl refl
counts_in plan d session n r phase.Renegotiating = uncounted plan (staged phase.Renegotiating d session n) r refl refl
counts_in plan d session n r (phase.Welding left) = uncounted plan (staged (phase.Welding left) d session n) r refl refl
counts_in plan d session n r phase.Ending = uncounted plan (staged phase.Ending d session n) r refl refl

pub counts : (plan : CarPlan) (stage : CarStage) (r : Reply) → Counts plan stage r
counts plan stage r = counts_in plan stage.dialect stage.session stage.cycles r stage.phase
