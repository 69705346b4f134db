-- What stands where a list has no parameter.
use Rattle.std.proofs.Common.{[], false}
use Rattle.service_spec.specs.declared.Value.TheVariants.{Truth}
use Rattle.service_spec.specs.declared.Parameter.{Parameter}

abbrev pub blank : Parameter
blank = record { name = record { ref_ptr = (0, 0); now = [] }; value = Truth false }
