-- ISO 15118-2:2014, section 8.8.4, and IEC 61851-23: which requests of a car were answered, and what has to be answered before it closes
-- its contactor. It is said by the words, without phases.
use Rattle.std.specs.Prelude.{ℕ, Bool, false, ◌&&◌, ◌||◌, if◌then◌else◌, List, [], ◌∷◌, Option, Some, None}
use Rattle.session_words.specs.declared.plan.CarPlan.{CarPlan}
use Rattle.session_words.specs.declared.word.Reply.{Reply}
use Rattle.session_words.specs.declared.word.Request.{Request}
use Rattle.session_rules.specs.Finishing.{is_ac}
use Rattle.session_rules.specs.Verdict.{is_accepted}
use Rattle.post_spec.specs.Kinds.{says_finished, asks_cable_check, asks_start, asks_renegotiation}
use Rattle.car_spec.specs.Asked.{Sent, last_request, awaited}
use Rattle.car_spec.specs.Codecs.{Judged, Chosen, Told, WrongSide, Refused}
use Rattle.car_spec.specs.Mandated.{is_near_target}
use Rattle.car_spec.specs.Steps.{Step, Hears, Loses, Reads, Does}

-- a request and the reply to it
pub record Exchange : Type 0 where
  pub request : Request
  pub reply : Reply

abbrev pub answered_by : Option Sent → Option ℕ → Reply → List Exchange → List Exchange
answered_by None at reply xs = xs
answered_by (Some sent) None reply xs = xs
answered_by (Some sent) (Some at) reply xs = record { request = sent.request; reply = reply } ∷ xs

abbrev pub answered_in : Judged → Option Sent → Option ℕ → List Exchange → List Exchange
answered_in (Told reply) sent at xs = answered_by sent at reply xs
answered_in (Chosen dialect) sent at xs = xs
answered_in WrongSide sent at xs = xs
answered_in Refused sent at xs = xs

-- the answered requests, the newest first
abbrev pub exchanges : List Step → List Exchange
exchanges [] = []
exchanges (Hears at event ∷ steps) = exchanges steps
exchanges (Loses ∷ steps) = exchanges steps
exchanges (Reads word ∷ steps) = answered_in word (last_request steps) (awaited steps) (exchanges steps)
exchanges (Does act taken ∷ steps) = exchanges steps

abbrev pub is_check : Exchange → Bool
is_check x = asks_cable_check x.request.ask && says_finished x.reply.tell && is_accepted x.reply.code

abbrev pub is_near_charge : Exchange → Bool
is_near_charge x = is_near_target x.request.ask x.reply.tell && is_accepted x.reply.code

abbrev pub is_start : Exchange → Bool
is_start x = asks_start x.request.ask && is_accepted x.reply.code

-- since the last renegotiation, if there was one: a CableCheck was answered Finished; and then a PreCharge within 20.0 V of its target;
-- PowerDelivery Start was accepted
abbrev pub unless_renewed : Exchange → Bool → Bool
unless_renewed x here = if asks_renegotiation x.request.ask then false else here

abbrev pub has_check : List Exchange → Bool
has_check [] = false
has_check (x ∷ xs) = unless_renewed x (is_check x || has_check xs)

abbrev pub has_charge : List Exchange → Bool
has_charge [] = false
has_charge (x ∷ xs) = unless_renewed x ((is_near_charge x && has_check xs) || has_charge xs)

abbrev pub has_start : List Exchange → Bool
has_start [] = false
has_start (x ∷ xs) = unless_renewed x (is_start x || has_start xs)

-- the car may close its contactor
abbrev pub may_close : CarPlan → List Exchange → Bool
may_close plan xs = if is_ac plan.mode then has_start xs else has_charge xs
