-- ISO 15118-2:2014, 8.4.3.8 (EVSEMaximumPowerLimit, EVSEMaxCurrent, PMax); DIN SPEC 70121:2014: the watts that a reply spells, as its message
-- writes them. Which of them count, and how they are held against told ones, is own.
use Rattle.std.specs.Prelude.{◌≡◌, ℕ, min, max, Bool, List, [], ◌∷◌, Option, Some, None, IfSome, ℤ, pos, negsuc}
use Rattle.std.specs.List.{AllByRecursion}
use Rattle.charge_world.specs.declared.offer.Dialect.{Dialect}
use Rattle.charge_world.specs.declared.offer.Dialect.TheVariants as dialect
use Rattle.session_words.specs.declared.plan.PostPlan.{PostPlan}
use Rattle.session_words.specs.Amounts.{units_of, tenths_of, ac_watts_of, IsWrittenWatts}
use Rattle.session_words.specs.Modes.{phases_of}
use Rattle.session_rules.specs.Offers.{ac_current_at}
use Rattle.post_spec.specs.Codecs.{Codecs}

-- a physical value: Value times ten to the Multiplier. A PMax of DIN has Multiplier 0
pub record Written : Type 0 where
  pub multiplier : ℤ
  pub value : ℤ

-- EVSEMaximumPowerLimit, EVSEMaxCurrent, and each PMax of the schedules
pub record SpelledWatts : Type 0 where
  pub power : Option Written
  pub current : Option Written
  pub p_max : List Written

-- What the definitions of a foreign trace take from below: what words are, and their replies; whether a payload is a response to a
-- negotiation, and a positive one; and the watts of the reply that a payload spells.
pub record ToldCodecs : Type 1 where
  pub words : Codecs
  pub Responds : List ℕ → Bool → Type 0
  pub Watts : Dialect → List ℕ → SpelledWatts → Type 0

-- ---- the watts that they are, of which the greatest counts

abbrev pub watts_of : Written → ℕ
watts_of w = units_of w.multiplier w.value

abbrev pub power_in : Option Written → ℕ
power_in None = 0
power_in (Some w) = watts_of w

abbrev pub current_in : PostPlan → Option Written → ℕ
current_in plan None = 0
current_in plan (Some w) = ac_watts_of (tenths_of w.multiplier w.value) plan.nominal (phases_of plan.mode)

abbrev pub most_in : List Written → ℕ
most_in [] = 0
most_in (w ∷ ws) = max (watts_of w) (most_in ws)

abbrev pub spelled_in : PostPlan → SpelledWatts → ℕ
spelled_in plan s = max (max (power_in s.power) (current_in plan s.current)) (most_in s.p_max)

-- ---- those that write told watts

abbrev pub Writes : ℕ → Written → Type 0
Writes told w = (multiplier : ℕ) × (value : ℕ) × IsWrittenWatts told multiplier value × (w ≡ record { multiplier = pos multiplier; value = pos value })

abbrev pub WritesCurrent : PostPlan → ℕ → Written → Type 0
WritesCurrent plan told w = w ≡ record { multiplier = negsuc 0; value = pos (ac_current_at plan told) }

abbrev pub WritesSchedule : Dialect → ℕ → Written → Type 0
WritesSchedule dialect.Iso told w = Writes told w
WritesSchedule dialect.Din told w = w ≡ record { multiplier = pos 0; value = pos (min 32767 told) }

-- all of them, as far as they are there
pub record AreTold (plan : PostPlan) (spoken : Dialect) (told : ℕ) (s : SpelledWatts) : Type 0 where
  pub power : IfSome s.power (Writes told)
  pub current : IfSome s.current (WritesCurrent plan told)
  pub p_max : AllByRecursion (WritesSchedule spoken told) s.p_max
