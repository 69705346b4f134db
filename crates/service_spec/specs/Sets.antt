-- Own: the sets and services that a catalogue may offer.
use Rattle.std.specs.Prelude.{◌≤◌, All, length}
use Rattle.service_spec.specs.declared.ParameterSet.{ParameterSet}
use Rattle.service_spec.specs.declared.Service.{Service}
use Rattle.service_spec.specs.Wants.{IsPair}

-- 1 to 16 parameters, with the names and values that they may have
pub record IsOffered (s : ParameterSet) : Type 0 where
  pub some : 1 ≤ length s.parameters.items
  pub few : length s.parameters.items ≤ 16
  pub each : All IsPair s.parameters.items

-- at most 16 sets
pub record IsService (s : Service) : Type 0 where
  pub few : length s.sets.items ≤ 16
  pub each : All IsOffered s.sets.items
