-- Own: the rows of a session by their numbers.
use Rattle.std.specs.Prelude.{ℕ, ◌==◌, Bool, if◌then◌else◌}
use Rattle.session_words.specs.declared.phase.Phase.{Phase}
use Rattle.session_words.specs.declared.phase.Phase.TheVariants as row
use Rattle.session_words.specs.declared.word.Ask.{Ask}
use Rattle.session_words.specs.declared.word.Ask.TheVariants as ask
use Rattle.audit_rows.specs.declared.rows.Lead.{Lead}

abbrev pub number_of : Phase → ℕ
number_of row.Connected = 1
number_of row.Negotiated = 2
number_of row.SetUp = 3
number_of row.Discovered = 4
number_of row.Selected = 5
number_of row.Authorized = 6
number_of row.DcReady = 7
number_of row.DcChecked = 8
number_of row.DcPreCharging = 9
number_of row.DcClosing = 10
number_of row.DcCharging = 11
number_of row.DcStopped = 12
number_of row.AcReady = 13
number_of row.AcClosing = 14
number_of row.AcCharging = 15
number_of row.AcStopped = 16

-- the row of a number
abbrev pub row_numbered : ℕ → Phase
row_numbered number =
    if number == 1 then row.Connected else (
    if number == 2 then row.Negotiated else (
    if number == 3 then row.SetUp else (
    if number == 4 then row.Discovered else (
    if number == 5 then row.Selected else (
    if number == 6 then row.Authorized else (
    if number == 7 then row.DcReady else (
    if number == 8 then row.DcChecked else (
    if number == 9 then row.DcPreCharging else (
    if number == 10 then row.DcClosing else (
    if number == 11 then row.DcCharging else (
    if number == 12 then row.DcStopped else (
    if number == 13 then row.AcReady else (
    if number == 14 then row.AcClosing else (
    if number == 15 then row.AcCharging else row.AcStopped))))))))))))))

-- the row behind a request by its number: 0 behind SessionStop, which ends the session
abbrev pub number_behind : Ask → Phase → ℕ
number_behind (ask.SessionStop pause) row = 0
number_behind other row = number_of row

-- the row to which a line of the table leads
abbrev pub led : Bool → Lead → ℕ
led finished lead = if finished then lead.finished else lead.ongoing
