-- Own: what laws of a car ask of its codecs.
use Rattle.std.specs.Prelude.{◌≡◌, ℕ, List, Option, Some}
use Rattle.std.specs.Option.{option_map}
use Rattle.charge_world.specs.declared.offer.Dialect.{Dialect}
use Rattle.session_words.specs.declared.limits.CarLimits.{CarLimits}
use Rattle.session_words.specs.declared.limits.CarLimits.TheVariants as limits
use Rattle.session_words.specs.declared.word.Ask.{Ask}
use Rattle.session_words.specs.declared.word.Ask.TheVariants as ask
use Rattle.session_words.specs.declared.word.Request.{Request}
use Rattle.session_words.specs.declared.word.Word.{Word}
use Rattle.session_words.specs.declared.word.Word.TheVariants as word
use Rattle.post_spec.specs.Spelled.{dropped}
use Rattle.car_spec.specs.Codecs.{Judged, Codecs}

-- the request that an encoded one reads as: a message has watts as a Value of 16 bits and a Multiplier, and what is left over is dropped
abbrev pub dropped_limits : CarLimits → CarLimits
dropped_limits (limits.Ac most_current least_current most_voltage) = limits.Ac most_current least_current most_voltage
dropped_limits (limits.Dc ready soc current watts voltage) = limits.Dc ready soc current (option_map dropped watts) voltage

abbrev pub dropped_ask : Ask → Ask
dropped_ask (ask.ChargeParameters mode limits) = ask.ChargeParameters mode (dropped_limits limits)
dropped_ask other = other

abbrev pub read_back : Request → Request
read_back request = record request { ask = dropped_ask request.ask }

abbrev pub ReadsBack : Codecs → Type 0
ReadsBack c = (dialect : Dialect) (request : Request) (payload : List ℕ) → c.Encodes dialect request payload
    → c.Reads dialect payload (Some (word.Request (read_back request)))

-- a payload is judged one way, and what is said has one encoding
pub record AreDetermined (c : Codecs) : Type 0 where
  pub offers : (dialects : List Dialect) (a b : List ℕ) → c.Offers dialects a → c.Offers dialects b → a ≡ b
  pub responds : (dialects : List Dialect) (payload : List ℕ) (a b : Judged) → c.Responds dialects payload a → c.Responds dialects payload b → a ≡ b
  pub reads : (dialect : Dialect) (payload : List ℕ) (a b : Option Word) → c.Reads dialect payload a → c.Reads dialect payload b → a ≡ b
  pub encodes : (dialect : Dialect) (request : Request) (a b : List ℕ) → c.Encodes dialect request a → c.Encodes dialect request b → a ≡ b
