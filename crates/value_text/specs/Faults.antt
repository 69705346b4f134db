-- Own: the place of a fault.
use Rattle.std.specs.Prelude.{ℕ, Option, Some, None}
use Rattle.value_text.specs.declared.fault.ScanFault.{ScanFault}
use Rattle.value_text.specs.declared.fault.ScanFault.TheVariants.{Place, Memory}

abbrev pub place_in : ScanFault → Option ℕ
place_in (Place place) = Some place
place_in Memory = None
