-- IEC 61851-23 (the voltage before the contactor closes, whose bound is 20 V): how far a pre-charge is off its target, in tenths of a volt.
use Rattle.std.specs.Prelude.{ℕ, Option, Some, None}
use Rattle.session_words.specs.declared.word.Tell.{Tell}
use Rattle.session_words.specs.declared.word.Tell.TheVariants as tell
use Rattle.session_rules.specs.Delivery.{off_of}

abbrev pub off_in : ℕ → Tell → Option ℕ
off_in target (tell.PreCharge status voltage) = Some (off_of (record { target = target; voltage = voltage.size }))
off_in target other = None
