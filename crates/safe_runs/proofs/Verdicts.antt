-- What an accepted request met.
use Rattle.std.proofs.Common.{◌≡◌, Bool, true, false, if◌then◌else◌, ◌&&◌, not, Option, Some, None, unwrap_or, refl}
use Rattle.charge_world.specs.declared.offer.Dialect.{Dialect}
use Rattle.charge_world.specs.declared.offer.Dialect.TheVariants as dialect
use Rattle.session_words.specs.declared.code.Code.{Code}
use Rattle.session_words.specs.declared.code.Code.TheVariants as code
use Rattle.session_rules.specs.Delivery.{contactor_code}
use Rattle.session_rules.specs.Verdict.{is_accepted}

pub lines_accept : (misnamed taken : Bool) (rest : Option Code) (ok : Code) → is_accepted (unwrap_or (if misnamed then Some code.FailedUnknownSession else (if not taken then Some code.FailedSequenceError else rest)) ok) ≡ true → taken ≡ true
lines_accept true taken rest ok h = cc
lines_accept false false rest ok h = cc
lines_accept false true rest ok h = refl

pub lines_start : (misnamed taken tuple profile ready opened charged : Bool) (d : Dialect) (ok : Code)
    → is_accepted (unwrap_or (if misnamed then Some code.FailedUnknownSession else (if not taken then Some code.FailedSequenceError else
    (if tuple then Some code.FailedTariffSelectionInvalid else (if profile then Some code.FailedChargingProfileInvalid else
    (if not ready then Some code.FailedPowerDeliveryNotApplied else (if not opened then Some (contactor_code d) else
    (if not charged then Some code.FailedPowerDeliveryNotApplied else None))))))) ok) ≡ true → (ready ≡ true) × (charged ≡ true)
lines_start true taken tuple profile ready opened charged d ok h = cc
lines_start false false tuple profile ready opened charged d ok h = cc
lines_start false true true profile ready opened charged d ok h = cc
lines_start false true false true ready opened charged d ok h = cc
lines_start false true false false false opened charged d ok h = cc
lines_start false true false false true false charged dialect.Iso ok h = cc
lines_start false true false false true false charged dialect.Din ok h = cc
lines_start false true false false true true false d ok h = cc
lines_start false true false false true true true d ok h = (refl, refl)

pub and_right : (a b : Bool) → a && b ≡ true → b ≡ true
and_right true b h = h
and_right false b h = cc
