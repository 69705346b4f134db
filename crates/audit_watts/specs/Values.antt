-- ISO 15118-2:2014, 8.4.3.8 (EVSEMaximumPowerLimit, EVSEMaxCurrent, PMax); DIN SPEC 70121:2014: what is kept of the watts of a reply as they are
-- written, one value after another.
use Rattle.std.specs.Prelude.{◌≡◌, ◌↔◌, ℕ, [], None, IsTrue}
use Rattle.charge_world.specs.declared.offer.Dialect.{Dialect}
use Rattle.session_words.specs.declared.plan.PostPlan.{PostPlan}
use Rattle.told_pasts.specs.Spelling.{Written, SpelledWatts, spelled_in, AreTold}
use Rattle.audit_watts.specs.declared.values.WrittenValue.{WrittenValue}
use Rattle.audit_watts.specs.declared.values.WattValues.{WattValues}

abbrev pub written_of : WrittenValue → Written
written_of w = record { multiplier = w.multiplier; value = w.value }

abbrev pub no_watts : SpelledWatts
no_watts = record { power = None; current = None; p_max = [] }

-- the values of these watts, where a post that speaks this dialect was told so many
pub record AreOf (plan : PostPlan) (spoken : Dialect) (told : ℕ) (s : SpelledWatts) (v : WattValues) : Type 0 where
  pub most_is : v.most ≡ spelled_in plan s
  pub told_is : IsTrue v.told ↔ AreTold plan spoken told s
