-- Own: the watts that a post's last reply on watts spells, read off its bytes; and how a reply reads that was encoded.
use Rattle.std.specs.Prelude.{◌≡◌, ℕ, if◌then◌else◌, List, [], ◌∷◌, map, Option, Some}
use Rattle.std.specs.Option.{option_map}
use Rattle.arrayvec.specs.ArrayVec.{ArrayVec}
use Rattle.charge_world.specs.declared.offer.Dialect.{Dialect}
use Rattle.session_words.specs.declared.amount.Amount.{Amount}
use Rattle.session_words.specs.declared.limits.PostLimits.{PostLimits}
use Rattle.session_words.specs.declared.limits.PostLimits.TheVariants as limits
use Rattle.session_words.specs.declared.limits.Tuple.{Tuple}
use Rattle.session_words.specs.declared.plan.PostPlan.{PostPlan}
use Rattle.session_words.specs.declared.word.Reply.{Reply}
use Rattle.session_words.specs.declared.word.Tell.{Tell}
use Rattle.session_words.specs.declared.word.Tell.TheVariants as tell
use Rattle.session_words.specs.declared.word.Word.{Word}
use Rattle.session_words.specs.declared.word.Word.TheVariants as word
use Rattle.session_rules.specs.Asks.{shows_watts}
use Rattle.session_rules.specs.Offers.{spelled_watts}
use Rattle.post_spec.specs.Codecs.{Judged, Codecs}
use Rattle.post_spec.specs.Kinds.{tell_watts}
use Rattle.post_spec.specs.Steps.{Seen}
use Rattle.post_spec.specs.Talk.{Exchange, Negotiation, Answered, Talks}

-- of the last reply to ChargeParameterDiscovery, CurrentDemand or ChargingStatus
abbrev pub spelled_by : PostPlan → List Exchange → ℕ
spelled_by plan [] = 0
spelled_by plan (Negotiation chosen ∷ xs) = spelled_by plan xs
spelled_by plan (Answered request reply before ∷ xs) =
    if shows_watts request.ask then tell_watts plan reply.tell else spelled_by plan xs

pub record IsSpelled (c : Codecs) (plan : PostPlan) (past : List Seen) (watts : ℕ) : Type 0 where
  pub xs : List Exchange
  pub talks : Talks c plan.dialects.items past xs
  pub watts_are : watts ≡ spelled_by plan xs

-- A message has watts as a Value of at most 32,767 and a Multiplier, so that what is left over is dropped.
abbrev pub dropped : Amount → Amount
dropped amount = record { size = spelled_watts amount.size; right = amount.right }

abbrev pub dropped_tuples : ArrayVec Tuple → ArrayVec Tuple
dropped_tuples tuples = record { items = map (λ t. record { id = t.id; entries = t.entries; least = dropped t.least }) tuples.items }

abbrev pub dropped_limits : PostLimits → PostLimits
dropped_limits (limits.Ac notify nominal current) = limits.Ac notify nominal current
dropped_limits (limits.Dc status current watts voltage least_current least_voltage ripple) =
    limits.Dc status current (option_map dropped watts) voltage least_current least_voltage ripple

abbrev pub dropped_tell : Tell → Tell
dropped_tell (tell.ChargeParameters processing schedule limits) =
    tell.ChargeParameters processing (option_map dropped_tuples schedule) (dropped_limits limits)
dropped_tell (tell.CurrentDemand status voltage current current_cut voltage_cut watts_cut most_voltage most_current most_watts evse) =
    tell.CurrentDemand status voltage current current_cut voltage_cut watts_cut most_voltage most_current (option_map dropped most_watts) evse
dropped_tell other = other

-- the reply that an encoded one reads as
abbrev pub read_back : Reply → Reply
read_back reply = record reply { tell = dropped_tell reply.tell }

-- what the laws ask of the codecs: the encoding of a reply reads as it, but for the watts that are dropped
abbrev pub ReadsBack : Codecs → Type 0
ReadsBack c = (dialect : Dialect) (reply : Reply) (payload : List ℕ) → c.Encodes dialect reply payload → c.Reads dialect payload (Some (word.Reply (read_back reply)))

-- a payload is judged one way, and a reply has one encoding
pub record AreDetermined (c : Codecs) : Type 0 where
  pub negotiates : (offers : List Dialect) (payload : List ℕ) (a b : Judged) → c.Negotiates offers payload a → c.Negotiates offers payload b → a ≡ b
  pub reads : (dialect : Dialect) (payload : List ℕ) (a b : Option Word) → c.Reads dialect payload a → c.Reads dialect payload b → a ≡ b
  pub encodes : (dialect : Dialect) (reply : Reply) (a b : List ℕ) → c.Encodes dialect reply a → c.Encodes dialect reply b → a ≡ b

-- each payload is judged somehow
pub record JudgesAll (c : Codecs) : Type 0 where
  pub negotiates : (offers : List Dialect) (payload : List ℕ) → (judged : Judged) × c.Negotiates offers payload judged
  pub reads : (dialect : Dialect) (payload : List ℕ) → (word : Option Word) × c.Reads dialect payload word
