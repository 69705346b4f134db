-- IEC 61851-23: the isolation and the voltage that a contactor is closed at in DC. The bound of 20 V is own.
use Rattle.std.specs.Prelude.{◌≡◌, ◌≤◌, ℕ, ◌+◌, ◌-◌, true, List, [], ◌∷◌, ◌++◌, Option, Some, None}
use Rattle.std.specs.List.{AllByRecursion}
use Rattle.charge_world.specs.declared.heard.IsolationLevel.{IsolationLevel}
use Rattle.charge_world.specs.declared.heard.IsolationLevel.TheVariants.{Valid}
use Rattle.session_words.specs.declared.word.Ask.{Ask}
use Rattle.session_words.specs.declared.word.Ask.TheVariants as ask
use Rattle.session_words.specs.declared.word.Reply.{Reply}
use Rattle.session_words.specs.declared.word.Request.{Request}
use Rattle.session_words.specs.declared.word.Tell.{Tell}
use Rattle.session_words.specs.declared.word.Tell.TheVariants as tell
use Rattle.post_spec.specs.Facts.{newer, told_by, isolation_in, isolation}
use Rattle.post_spec.specs.Kinds.{is_of, says_finished, asks_cable_check}
use Rattle.post_spec.specs.Steps.{Seen, Heard, Did}
use Rattle.post_spec.specs.Talk.{Exchange, Negotiation, Answered}
use Rattle.post_spec.specs.Prepared.{HasNo}

-- how far the voltage of the last reply to PreCharge was from that request's target, in tenths of a volt
abbrev pub off_in : Ask → Tell → Option ℕ
off_in (ask.PreCharge ready soc voltage current) (tell.PreCharge status told) =
    Some ((voltage.size - told.size) + (told.size - voltage.size))
off_in asked told = None

abbrev pub pre_charge_off : List Exchange → Option ℕ
pre_charge_off [] = None
pre_charge_off (Negotiation chosen ∷ xs) = pre_charge_off xs
pre_charge_off (Answered request reply before ∷ xs) = newer (off_in request.ask reply.tell) (pre_charge_off xs)

-- an isolation that is told is valid
abbrev pub IsValidIfTold : Option IsolationLevel → Type 0
IsValidIfTold None = Unit {0}
IsValidIfTold (Some level) = level ≡ Valid

abbrev pub StaysValid : Seen → Type 0
StaysValid (Heard at event) = IsValidIfTold (told_by isolation_in event)
StaysValid (Did act taken) = Unit {0}

-- the isolation was valid as the newest finished CableCheck was answered and has been so since, and the pre-charge is within 20.0 V
pub record IsChecked (past : List Seen) (xs : List Exchange) : Type 0 where
  pub behind : List Exchange
  pub request : Request
  pub reply : Reply
  pub before : List Seen
  pub earlier : List Exchange
  pub xs_are : xs ≡ behind ++ Answered request reply before ∷ earlier
  pub cable_check : is_of asks_cable_check says_finished (Answered request reply before) ≡ true
  pub newest : HasNo (is_of asks_cable_check says_finished) behind
  pub since : List Seen
  pub past_is : past ≡ since ++ before
  pub valid : isolation before ≡ Some Valid
  pub stays : AllByRecursion StaysValid since
  pub off : ℕ
  pub off_is : pre_charge_off xs ≡ Some off
  pub within : off ≤ 200
