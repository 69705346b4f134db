-- ISO 15118-2:2014 8.5 (data types): values of words in elements. Each place wants one unit; that another one is written as h is own.
use Rattle.std.specs.Prelude.{ℕ, ◌==◌, Bool, true, false, ℤ, List, Option, Some, None, chars}
use Rattle.charge_world.specs.declared.heard.IsolationLevel.{IsolationLevel}
use Rattle.session_words.specs.declared.amount.Amount.{Amount}
use Rattle.session_words.specs.declared.code.Notify.{Notify}
use Rattle.session_words.specs.declared.code.StatusCode.{StatusCode}
use Rattle.session_words.specs.declared.limits.DcStatus.{DcStatus}
use Rattle.word_values.specs.declared.amounts.Written.{Written}
use Rattle.word_values.specs.Amounts.{in_tenths, in_watts, written_tenths, written_volts, written_watts}
use Rattle.word_values.specs.Items.{evse_bytes}
use Rattle.iso_schema.specs.declared.names.TheConstants.{MULTIPLIER, UNIT, VALUE, EV_READY, EV_ERROR_CODE, EVRESS_SOC, EVSE_ISOLATION_STATUS, EVSE_STATUS_CODE, NOTIFICATION_MAX_DELAY, EVSE_NOTIFICATION, RCD}
use Rattle.iso_schema.specs.declared.kinds.TheConstants.{BOOLEAN_KIND, SHORT_KIND, UNSIGNED_SHORT_KIND, MULTIPLIER_KIND, PERCENT_KIND, TEXT37_KIND, UNIT_SYMBOL_KIND, EV_ERROR_CODE_KIND}
use Rattle.message_tables.specs.Tables.{Table, inside, rows, flag, ordinal, natural, integer, text, simple, holding, meaning, nothing, once, perhaps, always, ◌▷◌}
use Rattle.message_tables.specs.Meanings.{CarStatus}
use Rattle.iso_tables.specs.Codes.{isolation, notification, status_code}

-- ---- PhysicalValue

abbrev pub Physical : Type 0
Physical = ℤ × (ℕ × (ℤ × Unit {0}))

abbrev pub physical : Table inside Physical
physical = holding (
    once MULTIPLIER (simple integer MULTIPLIER_KIND)
    ▷ once UNIT (simple ordinal UNIT_SYMBOL_KIND)
    ▷ once VALUE (simple integer SHORT_KIND)
    ▷ nothing)

-- the unit of a place, and h for another one
abbrev pub unit_if : Bool → ℕ → ℕ
unit_if true wanted = wanted
unit_if false wanted = 0

abbrev pub spelled : Written → ℕ → Physical
spelled w unit = (w.multiplier, (unit, (w.value, tt)))

abbrev pub tenths : ℕ → (ℕ → Written) → Table inside Amount
tenths unit write = meaning (λ p. in_tenths p.0 p.1.1.0 (p.1.0 == unit)) (λ a. spelled (write a.size) (unit_if a.right unit)) physical

-- A
abbrev pub current : Table inside Amount
current = tenths 3 written_tenths

-- V
abbrev pub voltage : Table inside Amount
voltage = tenths 4 written_tenths

abbrev pub nominal : Table inside Amount
nominal = tenths 4 written_volts

-- W
abbrev pub power_in : Physical → Amount
power_in p = in_watts p.0 p.1.1.0 (p.1.0 == 5)

abbrev pub spelled_power : Amount → Physical
spelled_power a = spelled (written_watts a.size) (unit_if a.right 5)

abbrev pub power : Table inside Amount
power = meaning power_in spelled_power physical

-- a power that is always there: 0 W where a word has none
abbrev pub or_no_power : Option Amount → Amount
or_no_power None = record { size = 0; right = true }
or_no_power (Some watts) = watts

abbrev pub some_power : Table inside (Option Amount)
some_power = meaning (λ a. Some a) or_no_power power

-- ---- an EVSEID

abbrev pub evse : Table inside (List ℕ)
evse = meaning evse_bytes chars (simple text TEXT37_KIND)

-- ---- DC_EVStatus: whether the car is ready, and how full it is in percent; it has no error

abbrev pub car_status : Table inside CarStatus
car_status = holding (
    once EV_READY (simple flag BOOLEAN_KIND)
    ▷ always EV_ERROR_CODE (simple ordinal EV_ERROR_CODE_KIND) 0
    ▷ once EVRESS_SOC (simple natural PERCENT_KIND)
    ▷ nothing)

-- ---- AC_EVSEStatus: without a delay and a residual current

abbrev pub ac_status : Table inside Notify
ac_status = meaning (λ x. x.0) (λ n. (n, tt)) (holding (
    always NOTIFICATION_MAX_DELAY (simple natural UNSIGNED_SHORT_KIND) 0
    ▷ once EVSE_NOTIFICATION notification
    ▷ always RCD (simple flag BOOLEAN_KIND) false
    ▷ nothing))

-- ---- DC_EVSEStatus: without a delay

abbrev pub PostStatus : Type 0
PostStatus = Notify × (Option IsolationLevel × (StatusCode × Unit {0}))

abbrev pub status_rows : Table rows PostStatus
status_rows =
    always NOTIFICATION_MAX_DELAY (simple natural UNSIGNED_SHORT_KIND) 0
    ▷ once EVSE_NOTIFICATION notification
    ▷ perhaps EVSE_ISOLATION_STATUS isolation
    ▷ once EVSE_STATUS_CODE status_code
    ▷ nothing

abbrev pub status_of : PostStatus → DcStatus
status_of x = record { notify = x.0; isolation = x.1.0; code = x.1.1.0 }

abbrev pub dc_status : Table inside DcStatus
dc_status = meaning status_of (λ s. (s.notify, (s.isolation, (s.code, tt)))) (holding status_rows)
