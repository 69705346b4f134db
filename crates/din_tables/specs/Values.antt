-- DIN SPEC 70121:2014 9.5 (data types): values of words in elements. That a unit is written only of an amount that isn't right is own.
use Rattle.std.specs.Prelude.{ℕ, ◌==◌, Bool, true, false, ℤ, pos, Option, Some, None}
use Rattle.charge_world.specs.declared.heard.IsolationLevel.{IsolationLevel}
use Rattle.session_words.specs.Amounts.{above_zero}
use Rattle.session_words.specs.declared.amount.Amount.{Amount}
use Rattle.session_words.specs.declared.code.Notify.{Notify}
use Rattle.session_words.specs.declared.code.StatusCode.{StatusCode}
use Rattle.session_words.specs.declared.limits.DcStatus.{DcStatus}
use Rattle.word_values.specs.declared.amounts.Written.{Written}
use Rattle.word_values.specs.Amounts.{in_tenths, in_watts, written_tenths, written_watts}
use Rattle.din_schema.specs.declared.names.TheConstants.{MULTIPLIER, UNIT, VALUE, EV_READY, EV_ERROR_CODE, EVRESS_SOC, EVSE_ISOLATION_STATUS, EVSE_STATUS_CODE, NOTIFICATION_MAX_DELAY, EVSE_NOTIFICATION}
use Rattle.din_schema.specs.declared.kinds.TheConstants.{BOOLEAN_KIND, SHORT_KIND, UNSIGNED_INT_KIND, MULTIPLIER_KIND, PERCENT_KIND, UNIT_SYMBOL_KIND, EV_ERROR_CODE_KIND}
use Rattle.message_tables.specs.Tables.{Table, inside, rows, flag, ordinal, natural, integer, simple, holding, meaning, nothing, once, perhaps, always, ◌▷◌}
use Rattle.message_tables.specs.Meanings.{CarStatus}
use Rattle.din_tables.specs.Codes.{isolation, notification, status_code}

-- ---- PhysicalValue

abbrev pub Physical : Type 0
Physical = ℤ × (Option ℕ × (ℤ × Unit {0}))

abbrev pub physical_rows : Table rows Physical
physical_rows =
    once MULTIPLIER (simple integer MULTIPLIER_KIND)
    ▷ perhaps UNIT (simple ordinal UNIT_SYMBOL_KIND)
    ▷ once VALUE (simple integer SHORT_KIND)
    ▷ nothing

abbrev pub physical : Table inside Physical
physical = holding physical_rows

abbrev pub is_right : ℕ → Option ℕ → Bool
is_right wanted None = true
is_right wanted (Some unit) = unit == wanted

-- h, which no amount of a word has
abbrev pub unit_if : Bool → Option ℕ
unit_if true = None
unit_if false = Some 0

abbrev pub spelled : Written → Bool → Physical
spelled w right = (w.multiplier, (unit_if right, (w.value, tt)))

abbrev pub tenths : ℕ → Table inside Amount
tenths unit = meaning (λ p. in_tenths p.0 p.1.1.0 (is_right unit p.1.0)) (λ a. spelled (written_tenths a.size) a.right) physical

abbrev pub current : Table inside Amount
current = tenths 3

abbrev pub voltage : Table inside Amount
voltage = tenths 5

abbrev pub power : Table inside Amount
power = meaning (λ p. in_watts p.0 p.1.1.0 (is_right 7 p.1.0)) (λ a. spelled (written_watts a.size) a.right) physical

-- whole watts, without a unit
abbrev pub whole_watts : Table inside Amount
whole_watts = meaning (λ v. record { size = above_zero v; right = true }) (λ a. pos a.size) (simple integer SHORT_KIND)

-- ---- DC_EVStatus: whether the car is ready, and how full it is in percent; it has no error

abbrev pub car_rows : Table rows CarStatus
car_rows =
    once EV_READY (simple flag BOOLEAN_KIND)
    ▷ always EV_ERROR_CODE (simple ordinal EV_ERROR_CODE_KIND) 0
    ▷ once EVRESS_SOC (simple natural PERCENT_KIND)
    ▷ nothing

abbrev pub car_status : Table inside CarStatus
car_status = holding car_rows

-- ---- DC_EVSEStatus: without a delay

abbrev pub PostStatus : Type 0
PostStatus = Option IsolationLevel × (StatusCode × (Notify × Unit {0}))

abbrev pub status_rows : Table rows PostStatus
status_rows =
    perhaps EVSE_ISOLATION_STATUS isolation
    ▷ once EVSE_STATUS_CODE status_code
    ▷ always NOTIFICATION_MAX_DELAY (simple natural UNSIGNED_INT_KIND) 0
    ▷ once EVSE_NOTIFICATION notification
    ▷ nothing

abbrev pub status_of : PostStatus → DcStatus
status_of x = record { isolation = x.0; code = x.1.0; notify = x.1.1.0 }

abbrev pub post_status : Table inside DcStatus
post_status = meaning status_of (λ s. (s.isolation, (s.code, (s.notify, tt)))) (holding status_rows)
