-- ISO 15118-2:2014, section 8.8.4, and IEC 61851-23: when a car may close its contactor. It is said by the words of the session and the
-- voltage, without phases.
use Rattle.std.specs.Prelude.{◌≡◌, ◌<◌, ℕ, Bool, true, false, List, ◌∷◌, ◌++◌, MatchBool}
use Rattle.charge_world.specs.declared.entry.Entry.{Entry}
use Rattle.charge_world.specs.declared.entry.Entry.TheVariants as entry
use Rattle.charge_world.specs.declared.offer.Dialect.{Dialect}
use Rattle.charge_world.specs.declared.ports.Order.TheVariants as order
use Rattle.session_words.specs.declared.plan.CarPlan.{CarPlan}
use Rattle.session_words.specs.declared.word.Ask.{Ask}
use Rattle.session_words.specs.declared.word.Ask.TheVariants as ask
use Rattle.session_words.specs.declared.word.Reply.{Reply}
use Rattle.session_words.specs.declared.word.Request.{Request}
use Rattle.session_words.specs.declared.word.Tell.{Tell}
use Rattle.session_words.specs.declared.word.Tell.TheVariants as tell
use Rattle.session_words.specs.Codes.{IsOkClass}
use Rattle.session_rules.specs.Finishing.{is_ac}
use Rattle.car_rules.specs.Moves.{is_near}
use Rattle.post_spec.specs.Kinds.{says_finished, asks_cable_check, asks_start, asks_renegotiation}
use Rattle.car_spec.specs.Codecs.{Codecs}
use Rattle.car_spec.specs.Past.{IsChosen, IsAsked, IsTold}

-- an accepted request and its reply, at a place of what was said and heard
pub record IsAccepted (c : Codecs) (dialect : Dialect) (past : List Entry) (place : ℕ) (request : Request) (reply : Reply) : Type 0 where
  pub asked : IsAsked c dialect past place request
  pub told : IsTold c dialect past place reply
  pub ok : IsOkClass reply.code

-- the voltage of a reply to PreCharge is within 20.0 V of the target of its request
abbrev pub is_near_target : Ask → Tell → Bool
is_near_target (ask.PreCharge ready soc target current) (tell.PreCharge status voltage) = is_near target.size voltage
is_near_target asked told = false

-- no renegotiation was asked for behind a place
abbrev pub GoesOn : Codecs → Dialect → List Entry → ℕ → Type 0
GoesOn c dialect past place =
    (later : ℕ) (request : Request) → place < later → IsAsked c dialect past later request → asks_renegotiation request.ask ≡ false

-- in DC: a CableCheck was answered Finished, and then a PreCharge within 20.0 V
pub record IsPreCharged (c : Codecs) (dialect : Dialect) (past : List Entry) : Type 0 where
  pub checked : ℕ
  pub check : Request
  pub check_reply : Reply
  pub check_is : IsAccepted c dialect past checked check check_reply
  pub cable_check : asks_cable_check check.ask ≡ true
  pub finished : says_finished check_reply.tell ≡ true
  pub charged : ℕ
  pub charge : Request
  pub charge_reply : Reply
  pub charge_is : IsAccepted c dialect past charged charge charge_reply
  pub near : is_near_target charge.ask charge_reply.tell ≡ true
  pub in_order : checked < charged
  pub goes_on : GoesOn c dialect past checked

-- in AC: PowerDelivery Start was accepted
pub record IsStarted (c : Codecs) (dialect : Dialect) (past : List Entry) : Type 0 where
  pub started : ℕ
  pub start : Request
  pub reply : Reply
  pub start_is : IsAccepted c dialect past started start reply
  pub asks_it : asks_start start.ask ≡ true
  pub goes_on : GoesOn c dialect past started

-- behind this past the car may close its contactor
pub record CarMandated (c : Codecs) (plan : CarPlan) (past : List Entry) : Type 0 where
  pub dialect : Dialect
  pub chosen : IsChosen c plan.dialects.items past dialect
  pub prepared : MatchBool (is_ac plan.mode) (IsStarted c dialect past) (IsPreCharged c dialect past)

-- each order to close, taken or failed, is mandated by the past before it
abbrev pub ClosesMandated : Codecs → CarPlan → List Entry → Type 0
ClosesMandated c plan past =
    (behind earlier : List Entry) (post : ℕ) (taken : Bool) → past ≡ behind ++ entry.Drove post order.Close taken ∷ earlier
    → CarMandated c plan earlier
